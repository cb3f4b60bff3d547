-- A step of a machine, opened: who moves, with which message, and what its rules give.
use Rattle.std.proofs.Common.{◌≡◌, ◌∙◌, ℕ, suc, Bool, true, false, cond, nat_eq, arith, refl, sym, ap, subst, Option, None, Some, List, [], ◌∷◌, ◌++◌, map, slice_get}
use Rattle.std.proofs.lemmas.Bool.Decides.{nat_tests}
use Rattle.og_runs.specs.declared.MsgId.{MsgId}
use Rattle.og_runs.specs.declared.Choice.{Choice}
use Rattle.og_runs.specs.declared.Choice.TheVariants.{Act, Take}
use Rattle.og_runs.specs.declared.Letter.{Letter}
use Rattle.og_runs.specs.declared.Msg.{Msg}
use Rattle.og_runs.specs.declared.Event.{Event}
use Rattle.og_runs.specs.declared.Seat.{Seat}
use Rattle.og_runs.specs.Runs.{Rules, Outcome, posted, outcome_of, event_of, same_id}
use Rattle.og_runs.specs.World.{World, find, without, placed_all, world_after, world_move, world_move_with, world_take, world_step, Distinct}
use Rattle.og_runs.proofs.Placed.{same_id_equal}
use Rattle.og_line.specs.declared.Line.{Line}
use Rattle.og_msg.specs.declared.Kind.{Kind}
use Rattle.og_image.specs.Image.{ImageState}
use Rattle.og_whole.specs.Events.{World as Theory}
use Rattle.og_relate.specs.Data.{Post, Cpu, HomeSide, Mover}
use Rattle.og_relate.specs.Laws.{machine}
use Rattle.og_seen.specs.Numbers.{Sizes, setup_seen}
use Rattle.og_seen.specs.Messages.{post_seen, letter_seen, letters_seen}
use Rattle.og_seen.specs.Harts.{Hart, harts_seen}
use Rattle.og_seen.specs.Events.{Shows}
use Rattle.og_refine_flight.proofs.Order.{found_comes_first, sent_are_appended}

-- the message that is taken, if one is, is in flight to the actor
abbrev pub IsTaken : {A K : Type 0} → World A K → ℕ → Option (Msg K) → Type 0
IsTaken w a None = Unit {0}
IsTaken w a (Some m) = (find m.id w.flight ≡ Some m) × (m.to ≡ a)

-- a message is found by its own id
pub found_own : {K : Type 0} → (i : MsgId) (m : Msg K) (ms : List (Msg K)) → find i ms ≡ Some m → i ≡ m.id
found_own i m [] e = absurd (cc)
found_own {K} i m (x ∷ xs) e = by (same_id i x.id) refl e (λ f. found_own i m xs f)
  where
    by : (t : Bool) → same_id i x.id ≡ t → cond t (Some x) (find i xs) ≡ Some m → (find i xs ≡ Some m → i ≡ m.id) → i ≡ m.id
    by true n e rest = let same : x ≡ m = cc in same_id_equal i x.id n ∙ ap (λ (z : Msg K). z.id) same
    by false n e rest = rest e

module _ {A K N : Type 0} where
  pub record Moved (r : Rules A K N) (w : World A K) (u : World A K) (e : Event N) : Type 0 where
    pub actor : ℕ
    pub taken : Option (Msg K)
    pub seat : Seat A
    pub result : Outcome A K N
    pub there : slice_get w.seats actor ≡ Some seat
    pub is : outcome_of r actor seat.local taken ≡ Some result
    pub world : u ≡ world_after w actor seat taken result
    pub event : e ≡ event_of actor seat.clock taken result
    pub found : IsTaken w actor taken

  with_outcome : (r : Rules A K N) (w u : World A K) (e : Event N) (a : ℕ) (v : Option (Msg K)) (x : Seat A) → slice_get w.seats a ≡ Some x → IsTaken w a v → (o : Option (Outcome A K N)) → outcome_of r a x.local v ≡ o → world_move_with w a x v o ≡ Some (u, e) → Moved r w u e
  with_outcome r w u e a v x there found None is h = absurd (cc)
  with_outcome r w u e a v x there found (Some o) is h =
      let k : Some (world_after w a x v o, event_of a x.clock v o) ≡ Some (u, e) = h in
      let j : (world_after w a x v o, event_of a x.clock v o) ≡ (u, e) = cc in
      record { actor = a; taken = v; seat = x; result = o; there = there; is = is; world = sym (ap (λ (z : World A K × Event N). z.0) j); event = sym (ap (λ (z : World A K × Event N). z.1) j); found = found }

  move_opened : (r : Rules A K N) (w u : World A K) (e : Event N) (a : ℕ) (v : Option (Msg K)) → IsTaken w a v → (x : Option (Seat A)) → slice_get w.seats a ≡ x → world_move r w a v x ≡ Some (u, e) → Moved r w u e
  move_opened r w u e a v found None there h = absurd (cc)
  move_opened r w u e a v found (Some x) there h = with_outcome r w u e a v x there found (outcome_of r a x.local v) refl h

  pub opened : (r : Rules A K N) (w u : World A K) (e : Event N) (c : Choice) → world_step r w c ≡ Some (u, e) → Moved r w u e
  opened r w u e (Act a) h = move_opened r w u e a None tt (slice_get w.seats a) refl h
  opened r w u e (Take a i) h = go (find i w.flight) refl h
    where
      go : (o : Option (Msg K)) → find i w.flight ≡ o → world_take r w a o ≡ Some (u, e) → Moved r w u e
      go None is h = absurd (cc)
      go (Some m) is h = at (nat_eq m.to a) refl h
        where
          at : (b : Bool) → nat_eq m.to a ≡ b → cond b (world_move r w a (Some m) (slice_get w.seats a)) None ≡ Some (u, e) → Moved r w u e
          at true to h = move_opened r w u e a (Some m) (subst (λ (j : MsgId). find j w.flight ≡ Some m) (found_own i m w.flight is) is, grind (arith, nat_tests)) (slice_get w.seats a) refl h
          at false to h = absurd (cc)

-- letters as messages are seen as letters
posted_seen : (s : Sizes) (a c k : ℕ) (letters : List (Letter Kind)) → map (post_seen s) (posted a c k letters) ≡ letters_seen s a letters
posted_seen s a c k [] = refl
posted_seen s a c k (l ∷ ls) = ap (λ (rest : List (Post Line)). letter_seen s a l ∷ rest) (posted_seen s a c (suc k) ls)

-- what was sent stands at its place
pub landed : (image : ImageState) (s : Sizes) (cpu : ℕ → Cpu Line Hart) (home : ℕ → HomeSide Line) (mover : Mover Line) (v : Theory Line) (messages : List (Msg Kind)) (a c k : ℕ) (letters : List (Letter Kind)) →
    Shows image s cpu home mover (map (post_seen s) messages ++ letters_seen s a letters) v → Shows image s cpu home mover (map (post_seen s) (placed_all messages (posted a c k letters))) v
landed image s cpu home mover v messages a c k letters shows =
    sent_are_appended (setup_seen s) (harts_seen image s) (machine cpu home mover []) v (post_seen s) messages (posted a c k letters)
    (subst (λ (ls : List (Post Line)). Shows image s cpu home mover (map (post_seen s) messages ++ ls) v) (sym (posted_seen s a c k letters)) shows)

-- what is taken comes first
pub taken_first : (image : ImageState) (s : Sizes) (cpu : ℕ → Cpu Line Hart) (home : ℕ → HomeSide Line) (mover : Mover Line) (v : Theory Line) (message : Msg Kind) (messages : List (Msg Kind)) →
    Distinct messages → find message.id messages ≡ Some message → Shows image s cpu home mover (map (post_seen s) messages) v → Shows image s cpu home mover (post_seen s message ∷ map (post_seen s) (without message.id messages)) v
taken_first image s cpu home mover v message messages distinct found shows =
    found_comes_first (setup_seen s) (harts_seen image s) (machine cpu home mover []) v (post_seen s) message.id message messages distinct found shows
