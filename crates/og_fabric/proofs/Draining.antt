-- Who gathers empties the queue into the hand of the first actor.
use Rattle.std.proofs.Common.{◌≡◌, ℕ, suc, ◌<◌, false, nat_eq, arith, refl, sym, subst, List, [], ◌∷◌, ◌++◌, length, Option, None, ap}
use Rattle.std.proofs.Math.Path.{◌∙◌}
use Rattle.std.proofs.lemmas.Bool.Decides.{nat_tests}
use Rattle.crossbeam_queue.specs.Fifo.{Pops, Learns, Held}
use Rattle.og_runs.specs.declared.Msg.{Msg}
use Rattle.og_runs.specs.Runs.{Rules}
use Rattle.og_fabric.specs.declared.rule.Side.{Side}
use Rattle.og_fabric.specs.declared.rule.Sight.{Sight}
use Rattle.og_fabric.specs.Sides.{Each, Holds, with_hand, carried_more}
use Rattle.og_fabric.specs.Gathered.{AreKept, InOrder, first_carries, first_has}
use Rattle.og_fabric.proofs.Steps.{steps_among, carry_kept}
use Rattle.og_fabric.proofs.Gathering.{learns}

apart : {K : Type 0} → (a k : ℕ) (hs : List (Side K)) → a < k → InOrder k hs → Each (λ g. nat_eq a g.actor ≡ false) hs
apart a k [] lt e = tt
apart a k (h ∷ hs) lt e = ((let is = e.0.0 in grind (arith, nat_tests)), apart a (suc k) hs (omega (arith, lt)) e.1)

-- what a pop leaves the gatherer
abbrev Drained : {K : Type 0} → Sight K → Msg K → Sight K → Type 0
Drained v x w = w ≡ record { rest = v.rest; sides = first_carries x v.sides }

drains : {A K N : Type 0} → (r : Rules A K N) (f : ℕ → A) (actors most port : ℕ) (ms : List (Msg K)) (h : Side K) (hs : List (Side K)) → 0 < actors → InOrder 0 (h ∷ hs) →
    Pops (Holds r f actors most) port (record { rest = None; sides = with_hand h ms ∷ hs }) (λ x w. Drained (record { rest = None; sides = with_hand h ms ∷ hs }) x w)
drains {A} {K} {N} r f actors most port ms h hs some order x items views k at = (
  record { rest = None; sides = carried_more (with_hand h ms) x ∷ hs },
  steps_among r f actors most (x ∷ items) items views port (with_hand h ms) (carried_more (with_hand h ms) x) hs (apart h.actor 1 hs (let z = order.0.0 in omega (arith, z)) order.1) refl at k
      (λ is. carry_kept r f actors most x items k.0 (with_hand h ms) k.2 is (let z = order.0.0 in omega (arith, z, some))),
  refl,
)

-- the view of the gatherer, after it popped these
pub drains_here : {A K N : Type 0} → (r : Rules A K N) (f : ℕ → A) (actors most port : ℕ) (ms : List (Msg K)) (hs : List (Side K)) (v : Sight K) → v ≡ record { rest = None; sides = first_has ms hs } → 0 < length hs → length hs ≡ actors → InOrder 0 hs →
    Pops (Holds r f actors most) port v (λ x w. Drained v x w) × Learns (Holds r f actors most) port v (λ items. AreKept r f actors most v.sides items)
drains_here r f actors most port ms [] v is some size order = absurd (omega (arith, some))
drains_here {A} {K} {N} r f actors most port ms (h ∷ hs) v is some size order = (
  subst (λ (u : Sight K). Pops (Holds r f actors most) port u (λ x w. Drained u x w)) (sym is) (drains r f actors most port ms h hs (omega (arith, some, size)) order),
  learns r f actors most port v,
)

pub drained_more : {K : Type 0} → (ms ns : List (Msg K)) (hs : List (Side K)) (v w : Sight K) (x : Msg K) → v ≡ record { rest = None; sides = first_has ms hs } → ns ≡ ms ++ x ∷ [] → Drained v x w → w ≡ record { rest = None; sides = first_has ns hs }
drained_more {K} ms ns hs v w x is more e = one hs is ∙ ap (λ (l : List (Msg K)). record { rest = None; sides = first_has l hs }) (sym more)
  where
    one : (hs : List (Side K)) → v ≡ record { rest = None; sides = first_has ms hs } → w ≡ record { rest = None; sides = first_has (ms ++ x ∷ []) hs }
    one [] is = e ∙ ap (λ (u : Sight K). record { rest = u.rest; sides = first_carries x u.sides }) is
    one (h ∷ hs) is = e ∙ ap (λ (u : Sight K). record { rest = u.rest; sides = first_carries x u.sides }) is

pub begins : {K : Type 0} → (ms : List (Msg K)) (v : Sight K) → ms ≡ [] → v.rest ≡ None → InOrder 0 v.sides → v ≡ record { rest = None; sides = first_has ms v.sides }
begins {K} ms v none rest order = ap (λ (o : Option ℕ). record { rest = o; sides = v.sides }) rest ∙ ap (λ (hs : List (Side K)). record { rest = None; sides = hs }) (same v.sides order ∙ ap (λ (l : List (Msg K)). first_has l v.sides) (sym none))
  where
    same : (hs : List (Side K)) → InOrder 0 hs → hs ≡ first_has [] hs
    same [] e = refl
    same (h ∷ hs) e = ap (λ (ms : List (Msg K)). with_hand h ms ∷ hs) e.0.1

none_held : {X : Type 0} → (l : List X) → length l ≡ 0 → l ≡ []
none_held [] h = refl
none_held (x ∷ xs) h = absurd (omega (arith, h))

-- at the end
pub drained : {A K N : Type 0} → (r : Rules A K N) (f : ℕ → A) (actors most : ℕ) (ms : List (Msg K)) (hs : List (Side K)) (v : Sight K) → v ≡ record { rest = None; sides = first_has ms hs } → Held 0 (λ items. AreKept r f actors most v.sides items) → AreKept r f actors most (first_has ms hs) []
drained {A} {K} {N} r f actors most ms hs v is h = subst (λ (u : Sight K). AreKept r f actors most u.sides []) is (subst (λ (items : List (Msg K)). AreKept r f actors most v.sides items) (none_held h.0 h.1) h.2)
