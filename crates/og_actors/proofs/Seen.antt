-- Actors by what is kept of them, and by their states.
use Rattle.std.proofs.Common.{◌≡◌, ℕ, zero, suc, ◌+◌, ◌*◌, ◌^◌, ◌<◌, ◌≤◌, Bool, ◌&&◌, arith, refl, sym, subst, List, [], ◌∷◌, ◌++◌, length, slice_index_or, take, drop, Option, None, Some, inl, ap}
use Rattle.std.proofs.Math.Path.{◌∙◌}
use Rattle.std.specs.Prelude.{All, map}
use Rattle.std.proofs.lemmas.List.Sums.{sum_by-cons}
use Rattle.atomic_table.specs.Seated.{TableId}
use Rattle.og_runs.specs.Runs.{Rules}
use Rattle.og_actors.specs.declared.rounds.Rounds.{Rounds}
use Rattle.og_actors.specs.declared.rounds.Rounds.TheVariants.{Stopped, Spent, Memory}
use Rattle.og_actors.specs.Actors.{Playing, seen, newcomer, closed_of, LeadsHere}
use Rattle.og_actors.specs.Rounds.{all_seen, EachTurns, EachTurnsBy, IsRound, GoOn, AfterRounds, Standing, AreSeated, AreInTurn, LeadAll, all_whole, all_stopped, made_by, idle_by}
use Rattle.og_actors.proofs.Turns.{Keeps}
use Rattle.og_actors.proofs.Counting.{EachKeeps, go_keep, sums, sums_fit, all_within}
use Rattle.og_actors.proofs.Lists.{seated_into, leads_more, map_snoc}
use Rattle.og_actors.proofs.Merged.{Kept, AreBack, vec_back, still_in_turn, seated_tables, seated_turns}

pub length_seen : {B A K N : Type 0} → (g : B → A) (ps : List (Playing B K N)) → length (all_seen g ps) ≡ length ps
length_seen g [] = refl
length_seen g (p ∷ ps) = ap (λ (n : ℕ). suc n) (length_seen g ps)

pub whole_seen : {B A K N : Type 0} → (g : B → A) (ps : List (Playing B K N)) → all_whole (all_seen g ps) ≡ all_whole ps
whole_seen g [] = refl
whole_seen g (p ∷ ps) = ap (λ (b : Bool). p.whole && b) (whole_seen g ps)

pub stopped_seen : {B A K N : Type 0} → (g : B → A) (stopped : A → Bool) (ps : List (Playing B K N)) → all_stopped stopped (all_seen g ps) ≡ all_stopped (λ x. stopped (g x)) ps
stopped_seen g stopped [] = refl
stopped_seen g stopped (p ∷ ps) = ap (λ (b : Bool). stopped (g p.past.local) && b) (stopped_seen g stopped ps)

pub made_seen : {B A K N : Type 0} → (g : B → A) (ps : List (Playing B K N)) → made_by (all_seen g ps) ≡ made_by ps
made_seen g [] = refl
made_seen {B} {A} {K} {N} g (p ∷ ps) = sum_by-cons (λ (z : Playing A K N). z.made) (seen g p) (all_seen g ps) ∙ (ap (λ (n : ℕ). p.made + n) (made_seen g ps) ∙ sym (sum_by-cons (λ (z : Playing B K N). z.made) p ps))

pub idle_seen : {B A K N : Type 0} → (g : B → A) (ps : List (Playing B K N)) → idle_by (all_seen g ps) ≡ idle_by ps
idle_seen g [] = refl
idle_seen {B} {A} {K} {N} g (p ∷ ps) = sum_by-cons (λ (z : Playing A K N). z.idle) (seen g p) (all_seen g ps) ∙ (ap (λ (n : ℕ). p.idle + n) (idle_seen g ps) ∙ sym (sum_by-cons (λ (z : Playing B K N). z.idle) p ps))

pub closed_seen : {B A K N : Type 0} → (g : B → A) (ps : List (Playing B K N)) → map (λ p. closed_of p) (all_seen g ps) ≡ map (λ p. closed_of p) ps
closed_seen g [] = refl
closed_seen g (p ∷ ps) = ap (λ xs. closed_of p ∷ xs) (closed_seen g ps)

-- ------------------------------------------------------------------------------ at an index

get_seen : {B A K N : Type 0} → (g : B → A) (ps : List (Playing B K N)) (i : ℕ) (d : Playing B K N) → slice_index_or (all_seen g ps) i (seen g d) ≡ seen g (slice_index_or ps i d)
get_seen g [] i d = refl
get_seen g (p ∷ ps) zero d = refl
get_seen g (p ∷ ps) (suc i) d = get_seen g ps i d

pub tables_kept : {B A K N : Type 0} → (g : B → A) (t : TableId) (ps : List (Playing B K N)) → All (λ p. p.table ≡ t) (all_seen g ps) → All (λ p. p.table ≡ t) ps
tables_kept {B} {A} {K} {N} g t ps h i d lt = subst (λ (p : Playing A K N). p.table ≡ t) (get_seen g ps i d) (h i (seen g d) (let e = length_seen g ps in omega (arith, lt, e)))

pub turns_kept : {B A K N : Type 0} → (g : B → A) (n most : ℕ) (ps : List (Playing B K N)) → All (λ p. p.made + p.idle + n ≤ most) (all_seen g ps) → All (λ p. p.made + p.idle + n ≤ most) ps
turns_kept {B} {A} {K} {N} g n most ps h i d lt = subst (λ (p : Playing A K N). p.made + p.idle + n ≤ most) (get_seen g ps i d) (h i (seen g d) (let e = length_seen g ps in omega (arith, lt, e)))

-- what rounds keep of the states they keep of what is kept
pub each_kept : {B A K N : Type 0} → (g : B → A) (n : ℕ) (ps qs : List (Playing B K N)) → EachKeeps n (all_seen g ps) (all_seen g qs) → EachKeeps n ps qs
each_kept {B} {A} {K} {N} g n ps qs h = (
  sym (length_seen g qs) ∙ (h.0 ∙ length_seen g ps),
  λ i d lt.
      let k : Keeps n (slice_index_or (all_seen g ps) i (seen g d)) (slice_index_or (all_seen g qs) i (seen g d)) = h.1 i (seen g d) (let e = length_seen g ps in omega (arith, lt, e)) in
      let k' : Keeps n (seen g (slice_index_or ps i d)) (slice_index_or (all_seen g qs) i (seen g d)) = subst (λ (p : Playing A K N). Keeps n p (slice_index_or (all_seen g qs) i (seen g d))) (get_seen g ps i d) k in
      let x : Keeps n (seen g (slice_index_or ps i d)) (seen g (slice_index_or qs i d)) = subst (λ (p : Playing A K N). Keeps n (seen g (slice_index_or ps i d)) p) (get_seen g qs i d) k' in
      record { table = x.table; actor = x.actor; count = x.count; made = x.made; idle = x.idle },
)

-- a round, by what is kept, is a round
pub round_seen : {B A K N : Type 0} → (g : B → A) (r : Rules A K N) (turns : ℕ) (ps qs : List (Playing B K N)) → length qs ≡ length ps → EachTurnsBy g r turns ps qs → IsRound r turns (all_seen g ps) (all_seen g qs)
round_seen {B} {A} {K} {N} g r turns ps qs len each = (length_seen g qs ∙ (len ∙ sym (length_seen g ps)), go ps qs len each)
  where
    go : (ps qs : List (Playing B K N)) → length qs ≡ length ps → EachTurnsBy g r turns ps qs → EachTurns r turns (all_seen g ps) (all_seen g qs)
    go [] qs len each i d lt = absurd (omega (arith, lt))
    go (p ∷ ps) [] len each i d lt = absurd (omega (arith, len))
    go (p ∷ ps) (q ∷ qs) len each zero d lt = each 0 p (omega arith)
    go (p ∷ ps) (q ∷ qs) len each (suc i) d lt = go ps qs (omega (arith, len)) (λ j e l. each (suc j) e (omega (arith, l))) i d (omega (arith, lt))

-- ------------------------------------------------------------------------------ one actor more

pub seated_more : {B A K N : Type 0} → (g : B → A) (t t' : TableId) (f : ℕ → A) (n : ℕ) (ps zs : List (Playing B K N)) (p : Playing B K N) → AreSeated t f 0 (all_seen g ps) → length ps ≡ n → t' ≡ t → seen g p ≡ newcomer t' n (f n) → zs ≡ ps ++ p ∷ [] → AreSeated t f 0 (all_seen g zs)
seated_more {B} {A} {K} {N} g t t' f n ps zs p h len same is e =
    seated_into t t' f n (all_seen g ps) (all_seen g zs) (seen g p) h (length_seen g ps ∙ len) same is (ap (λ (l : List (Playing B K N)). all_seen g l) e ∙ map_snoc (λ (z : Playing B K N). seen g z) ps p)

pub leads_seen : {B A K N : Type 0} → (g : B → A) (r : Rules A K N) (f : ℕ → A) (ys : List (Playing B K N)) (x : Playing B K N) → LeadAll r f 0 (all_seen g ys) → x.actor ≡ length ys → LeadsHere r (f x.actor) (seen g x) → LeadAll r f 0 (all_seen g (ys ++ x ∷ []))
leads_seen {B} {A} {K} {N} g r f ys x h b l =
    subst (λ (z : List (Playing A K N)). LeadAll r f 0 z) (sym (map_snoc (λ (z : Playing B K N). seen g z) ys x)) (leads_more r f (all_seen g ys) (seen g x) h (b ∙ sym (length_seen g ys)) l)

-- ------------------------------------------------------------------------------ in the vector of actors

turn_kept : {B A K N : Type 0} → (g : B → A) (t : TableId) (k : ℕ) (ps : List (Playing B K N)) → AreInTurn t k (all_seen g ps) → AreInTurn t k ps
turn_kept g t k [] h = tt
turn_kept g t k (p ∷ ps) h = (h.0, turn_kept g t (suc k) ps h.1)

pub tables_at : {B A K N : Type 0} → (g : B → A) (t : TableId) (f : ℕ → A) (os items : List (Playing B K N)) → os ≡ items → AreSeated t f 0 (all_seen g items) → All (λ p. p.table ≡ t) os
tables_at {B} {A} {K} {N} g t f os items e h = subst (λ (l : List (Playing B K N)). All (λ p. p.table ≡ t) l) (sym e) (tables_kept g t items (seated_tables t f 0 (all_seen g items) h))

pub turns_at : {B A K N : Type 0} → (g : B → A) (n most : ℕ) (t : TableId) (f : ℕ → A) (os items : List (Playing B K N)) → n ≤ most → os ≡ items → AreSeated t f 0 (all_seen g items) → All (λ p. p.made + p.idle + n ≤ most) os
turns_at {B} {A} {K} {N} g n most t f os items le e h = subst (λ (l : List (Playing B K N)). All (λ p. p.made + p.idle + n ≤ most) l) (sym e) (turns_kept g n most items (seated_turns n most t f 0 (all_seen g items) le h))

-- what the rounds leave in it
pub back : {B A K N : Type 0} → (g : B → A) (t : TableId) (f : ℕ → A) (most actors len : ℕ) (os items new : List (Playing B K N)) → os ≡ items → AreSeated t f 0 (all_seen g items) → len ≡ length items → length items ≡ actors → Kept most (all_seen g os) (all_seen g new) →
    AreBack t actors new (take len (new ++ drop (length new) items))
back {B} {A} {K} {N} g t f most actors len os items new same h e size k =
    let each : EachKeeps k.turns (all_seen g items) (all_seen g new) = subst (λ (l : List (Playing B K N)). EachKeeps k.turns (all_seen g l) (all_seen g new)) same k.each in
    let raw : EachKeeps k.turns items new = each_kept g k.turns items new each in
    let v : take len (new ++ drop (length new) items) ≡ new = vec_back len new items raw.0 e in
    record {
      same = v;
      turn = subst (λ (l : List (Playing B K N)). AreInTurn t 0 l) (sym v) (turn_kept g t 0 new (still_in_turn k.turns t f 0 (all_seen g items) (all_seen g new) h each));
      size = ap (λ (l : List (Playing B K N)). length l) v ∙ (raw.0 ∙ size);
    }

-- ------------------------------------------------------------------------------ round after round

pub standing_seen : {B A K N : Type 0} → (g : B → A) (stopped : A → Bool) (ps : List (Playing B K N)) (o : Option Rounds) → Standing (all_whole ps) (all_stopped (λ x. stopped (g x)) ps) o → Standing (all_whole (all_seen g ps)) (all_stopped stopped (all_seen g ps)) o
standing_seen {B} {A} {K} {N} g stopped ps o h =
    subst (λ (w : Bool). Standing w (all_stopped stopped (all_seen g ps)) o) (sym (whole_seen g ps))
    (subst (λ (w : Bool). Standing (all_whole ps) w o) (sym (stopped_seen g stopped ps)) h)

pub fits_seen : {B A K N : Type 0} → (g : B → A) (r : Rules A K N) (stopped : A → Bool) (n rounds turns most actors : ℕ) (ps qs : List (Playing B K N)) → GoOn r stopped turns n (all_seen g ps) (all_seen g qs) → n ≡ rounds → All (λ p. p.made + p.idle + rounds * turns ≤ most) ps → length ps ≤ actors → actors * most < 2 ^ 60 → (made_by qs < 2 ^ 64) × (idle_by qs < 2 ^ 64)
fits_seen {B} {A} {K} {N} g r stopped n rounds turns most actors ps qs go same within len small =
    let k : EachKeeps (n * turns) ps qs = each_kept g (n * turns) ps qs (go_keep r stopped turns n (all_seen g ps) (all_seen g qs) go) in
    let k' : EachKeeps (rounds * turns) ps qs = subst (λ (m : ℕ). EachKeeps (m * turns) ps qs) same k in
    sums_fit most actors qs (all_within rounds turns most ps qs k' within) (let l = k.0 in omega (arith, l, len)) small

pub grown_seen : {B A K N : Type 0} → (g : B → A) (r : Rules A K N) (stopped : A → Bool) (turns n : ℕ) (ps qs : List (Playing B K N)) → GoOn r stopped turns n (all_seen g ps) (all_seen g qs) → (made_by ps ≤ made_by qs) × (idle_by ps ≤ idle_by qs)
grown_seen g r stopped turns n ps qs go = let s = sums (n * turns) ps qs (each_kept g (n * turns) ps qs (go_keep r stopped turns n (all_seen g ps) (all_seen g qs) go)) in (s.made, s.idle)

-- no round is to be made
pub ended_at_once : {B A K N : Type 0} → (g : B → A) (r : Rules A K N) (stopped : A → Bool) (turns rounds : ℕ) (ps : List (Playing B K N)) (end : Rounds) → rounds ≡ 0 → Standing (all_whole ps) (all_stopped (λ x. stopped (g x)) ps) (Some end) → AfterRounds r stopped turns rounds end (all_seen g ps) (all_seen g ps)
ended_at_once g r stopped turns rounds ps Stopped none s = (inl (none, refl), whole_seen g ps ∙ s.0, stopped_seen g stopped ps ∙ s.1)
ended_at_once g r stopped turns rounds ps (Spent events idle) none s = absurd (cc)
ended_at_once g r stopped turns rounds ps Memory none s = (inl (none, refl), whole_seen g ps ∙ s)

pub spent_at_once : {B A K N : Type 0} → (g : B → A) (r : Rules A K N) (stopped : A → Bool) (turns rounds : ℕ) (ps : List (Playing B K N)) → rounds ≡ 0 → Standing (all_whole ps) (all_stopped (λ x. stopped (g x)) ps) None → AfterRounds r stopped turns rounds (Spent 0 0) (all_seen g ps) (all_seen g ps)
spent_at_once {B} {A} {K} {N} g r stopped turns rounds ps none s = subst (λ (n : ℕ). AfterRounds r stopped turns n (Spent 0 0) (all_seen g ps) (all_seen g ps)) (sym none) (record {
  all_rounds = refl;
  logs = whole_seen g ps ∙ s.0;
  going = stopped_seen g stopped ps ∙ s.1;
  made = omega arith;
  spared = omega arith;
  sum = (let e : 0 * turns * length (all_seen g ps) ≡ 0 = grind arith in omega (arith, e));
})
