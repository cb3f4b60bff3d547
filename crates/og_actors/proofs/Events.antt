-- What one event makes of an actor, as contracts see it.
use Rattle.std.proofs.Common.{◌≡◌, ℕ, ◌+◌, Bool, true, max, refl, sym, subst, List, [], ◌∷◌, ◌++◌, length, Option, None, Some, ap}
use Rattle.std.proofs.Math.Path.{◌∙◌}
use Rattle.atomic_table.specs.Seated.{TableId}
use Rattle.og_runs.specs.declared.Letter.{Letter}
use Rattle.og_runs.specs.declared.Msg.{Msg}
use Rattle.og_runs.specs.declared.Event.{Event}
use Rattle.og_runs.specs.Runs.{Rules, History, posted, outcome_of, move_of, clock_after, choice_of}
use Rattle.og_fabric.specs.declared.rule.Side.{Side}
use Rattle.og_actors.specs.Actors.{Playing, IsTo, IsEvent, after_sending, side_after}
use Rattle.og_actors.proofs.Playing.{moves_to}

-- an actor, by the parts that the code keeps
abbrev pub playing : {A K N : Type 0} → TableId → ℕ → A → ℕ → Side K → List (Event N) → Bool → ℕ → ℕ → Playing A K N
playing t a x clock h log whole made idle = record { table = t; actor = a; past = record { local = x; clock = clock; sent = h.sent; taken = h.taken }; log = log; whole = whole; made = made; idle = idle }

abbrev event_at : {K N : Type 0} → ℕ → ℕ → Option (Msg K) → Option N → Event N
event_at a c v n = record { choice = choice_of a v; stamp = record { clock = c; actor = a }; note = n }

pub event_is : {A K N : Type 0} → (r : Rules A K N) (t t' : TableId) (x y : A) (h g g' : Side K) (log log' : List (Event N)) (whole whole' : Bool) (clock a made idle c : ℕ) (v : Option (Msg K)) (ls : List (Letter K)) (n : Option N) →
    t' ≡ t → h.actor ≡ a → IsTo a v → outcome_of r a x v ≡ Some (record { local = y; letters = ls; note = n }) → g ≡ side_after h v → c ≡ clock_after clock v → g' ≡ after_sending g c ls →
    (whole' ≡ true → (whole ≡ true) × (log' ≡ log ++ event_at a c v n ∷ [])) → IsEvent r (playing t a x clock h log whole made idle) (playing t' a y c g' log' whole' (made + 1) idle)
event_is {A} {K} {N} r t t' x y h g g' log log' whole whole' clock a made idle c v ls n table is own out side at sent noted = record {
  table = table;
  actor = refl;
  message = v;
  own = own;
  event = event_at a c v n;
  move = moved v out side at;
  noted = noted;
  made = refl;
  idle = refl;
}
  where
    -- the history at last
    after : Side K → History A K
    after z = record { local = y; clock = c; sent = z.sent; taken = z.taken }

    step : (v : Option (Msg K)) → outcome_of r a x v ≡ Some (record { local = y; letters = ls; note = n }) →
        move_of r a (record { local = x; clock = clock; sent = h.sent; taken = h.taken }) v ≡ Some (record { local = y; clock = clock_after clock v; sent = (after_sending (side_after h v) (clock_after clock v) ls).sent; taken = (after_sending (side_after h v) (clock_after clock v) ls).taken }, event_at a (clock_after clock v) v n)
    step None out = moves_to r a (record { local = x; clock = clock; sent = h.sent; taken = h.taken }) None y ls n out ∙ ap (λ (b : ℕ). Some (record { local = y; clock = clock + 1; sent = h.sent ++ posted b (clock + 1) (length h.sent) ls; taken = h.taken }, event_at {K = K} a (clock + 1) None n)) (sym is)
    step (Some m) out = moves_to r a (record { local = x; clock = clock; sent = h.sent; taken = h.taken }) (Some m) y ls n out ∙ ap (λ (b : ℕ). Some (record { local = y; clock = max clock m.stamp.clock + 1; sent = h.sent ++ posted b (max clock m.stamp.clock + 1) (length h.sent) ls; taken = h.taken ++ m ∷ [] }, event_at a (max clock m.stamp.clock + 1) (Some m) n)) (sym is)

    moved : (v : Option (Msg K)) → outcome_of r a x v ≡ Some (record { local = y; letters = ls; note = n }) → g ≡ side_after h v → c ≡ clock_after clock v →
        move_of r a (record { local = x; clock = clock; sent = h.sent; taken = h.taken }) v ≡ Some (record { local = y; clock = c; sent = g'.sent; taken = g'.taken }, event_at a c v n)
    moved v out side at = step v out ∙ (ap (λ (k : ℕ). Some (record { local = y; clock = k; sent = (after_sending (side_after h v) k ls).sent; taken = (after_sending (side_after h v) k ls).taken }, event_at a k v n)) (sym at)
        ∙ (ap (λ (z : Side K). Some (record { local = y; clock = c; sent = (after_sending z c ls).sent; taken = (after_sending z c ls).taken }, event_at a c v n)) (sym side)
        ∙ ap (λ (z : Side K). Some (record { local = y; clock = c; sent = z.sent; taken = z.taken }, event_at a c v n)) (sym sent)))

-- the same, where the actor before is known by its view
pub event_from : {A K N : Type 0} → (r : Rules A K N) (p p' q : Playing A K N) → p ≡ p' → IsEvent r p q → IsEvent r p' q
event_from {A} {K} {N} r p p' q e h = subst (λ (z : Playing A K N). IsEvent r z q) e h
