-- The start of a machine, as its actors' starts say.
use Rattle.std.proofs.Common.{◌≡◌, ◌∙◌, ℕ, zero, suc, ◌+◌, ◌<◌, Bool, true, false, nat_eq, nat_lt, arith, refl, sym, ap, subst, Some, List, [], ◌∷◌, ◌++◌, length, map}
use Rattle.std.specs.Prelude.{slice_get, if◌then◌else◌}
use Rattle.std.proofs.lemmas.Bool.Decides.{nat_tests}
use Rattle.std.proofs.lemmas.List.{length-append}
use Rattle.og_base.specs.Numbers.{below}
use Rattle.og_runs.specs.declared.Msg.{Msg}
use Rattle.og_runs.specs.declared.Seat.{Seat}
use Rattle.og_runs.specs.Laws.{IsStart}
use Rattle.og_runs.proofs.Back.{slice_get_append_left}
use Rattle.og_runs.proofs.Shown.{slice_get_below}
use Rattle.og_msg.specs.declared.Kind.{Kind}
use Rattle.og_image.proofs.Pages.{below_length, map_below_more}
use Rattle.og_machine.specs.Machine.{Setup, ActorState, Machine, start_machine, start_node, start_mover, new_seat}
use Rattle.og_fabric.proofs.Lists.{get_at_end}
use Rattle.og_threads.specs.Threads.{first_actor, actors_of}

same_lists : {X : Type 0} → (xs ys : List X) → length xs ≡ length ys → ((a : ℕ) (x : X) → slice_get xs a ≡ Some x → slice_get ys a ≡ Some x) → xs ≡ ys
same_lists [] [] e h = refl
same_lists [] (y ∷ ys) e h = absurd (omega (arith, e))
same_lists (x ∷ xs) [] e h = absurd (omega (arith, e))
same_lists {X} (x ∷ xs) (y ∷ ys) e h =
    let first : Some y ≡ Some x = h 0 x refl in
    let same : x ≡ y = cc in
    ap (λ (z : X). z ∷ xs) same ∙ ap (λ (zs : List X). y ∷ zs) (same_lists xs ys (omega (arith, e)) (λ a z at. h (suc a) z at))

map_length : {X : Type 0} → (f : ℕ → X) (xs : List ℕ) → length (map f xs) ≡ length xs
map_length f [] = refl
map_length f (x ∷ xs) = ap (λ (n : ℕ). suc n) (map_length f xs)

below_size : {X : Type 0} → (f : ℕ → X) (n : ℕ) → length (map f (below n)) ≡ n
below_size f n = map_length f (below n) ∙ below_length n

at_end : {X : Type 0} → (f : ℕ → X) (y : X) (n : ℕ) → slice_get (map f (below n) ++ y ∷ []) n ≡ Some y
at_end {X} f y n = subst (λ (b : ℕ). slice_get (map f (below n) ++ y ∷ []) b ≡ Some y) (below_size f n) (get_at_end (map f (below n)) y)

in_below : {X : Type 0} → (f : ℕ → X) (n a : ℕ) → a < n → slice_get (map f (below n)) a ≡ Some (f a)
in_below f zero a lt = absurd (omega (arith, lt))
in_below {X} f (suc n) a lt = subst (λ (zs : List X). slice_get zs a ≡ Some (f a)) (sym more) (at (nat_eq a n) refl (λ less. in_below f n a less))
  where
    more : map f (below (suc n)) ≡ map f (below n) ++ f n ∷ []
    more = let next : suc n ≡ n + 1 = omega arith in ap (λ (k : ℕ). map f (below k)) next ∙ map_below_more f n

    at : (w : Bool) → nat_eq a n ≡ w → (a < n → slice_get (map f (below n)) a ≡ Some (f a)) → slice_get (map f (below n) ++ f n ∷ []) a ≡ Some (f a)
    at true is rec = let same : n ≡ a = grind (arith, nat_tests) in subst (λ (b : ℕ). slice_get (map f (below n) ++ f n ∷ []) b ≡ Some (f b)) same (at_end f (f n) n)
    at false is rec = let less : a < n = grind (arith, nat_tests) in slice_get_append_left (map f (below n)) (f n ∷ []) a (f a) (rec less)

abbrev nodes_seats : Setup → List (Seat ActorState)
nodes_seats setup = map (λ number. new_seat (start_node setup number)) (below setup.settings.nodes)

first_seat : (setup : Setup) (a : ℕ) → a < actors_of setup → slice_get (nodes_seats setup ++ new_seat (start_mover setup) ∷ []) a ≡ Some (new_seat (first_actor setup a))
first_seat setup a lt = at (nat_lt a setup.settings.nodes) refl
  where
    at : (w : Bool) → nat_lt a setup.settings.nodes ≡ w → slice_get (nodes_seats setup ++ new_seat (start_mover setup) ∷ []) a ≡ Some (new_seat (if w then start_node setup a else start_mover setup))
    at true is =
        let less : a < setup.settings.nodes = grind (arith, nat_tests) in
        slice_get_append_left (nodes_seats setup) (new_seat (start_mover setup) ∷ []) a (new_seat (start_node setup a)) (in_below (λ number. new_seat (start_node setup number)) setup.settings.nodes a less)
    at false is =
        let same : setup.settings.nodes ≡ a = grind (arith, nat_tests) in
        subst (λ (b : ℕ). slice_get (nodes_seats setup ++ new_seat (start_mover setup) ∷ []) b ≡ Some (new_seat (start_mover setup))) same (at_end (λ number. new_seat (start_node setup number)) (new_seat (start_mover setup)) setup.settings.nodes)

pub start_seat : (setup : Setup) (a : ℕ) → a < actors_of setup → slice_get (start_machine setup).seats a ≡ Some (new_seat (first_actor setup a))
unfolding start_machine
start_seat setup a lt = first_seat setup a lt

pub start_size : (setup : Setup) → length (start_machine setup).seats ≡ actors_of setup
unfolding start_machine
start_size setup =
    let a : length (nodes_seats setup ++ new_seat (start_mover setup) ∷ []) ≡ length (nodes_seats setup) + 1 = length-append (nodes_seats setup) (new_seat (start_mover setup) ∷ []) in
    let b : length (nodes_seats setup) ≡ setup.settings.nodes = below_size (λ number. new_seat (start_node setup number)) setup.settings.nodes in
    omega (arith, a, b)

none_flies : (setup : Setup) → (start_machine setup).flight ≡ []
unfolding start_machine
none_flies setup = refl

-- none of its actors has moved
pub begins : (setup : Setup) → IsStart (λ a. first_actor setup a) (start_machine setup)
begins setup = record {
  seat = λ a x at.
      let lt : a < length (start_machine setup).seats = slice_get_below (start_machine setup).seats a x at in
      let size : length (start_machine setup).seats ≡ actors_of setup = start_size setup in
      let first : slice_get (start_machine setup).seats a ≡ Some (new_seat (first_actor setup a)) = start_seat setup a (omega (arith, lt, size)) in
      let both : Some x ≡ Some (new_seat (first_actor setup a)) = sym at ∙ first in
      let same : x ≡ new_seat (first_actor setup a) = cc in same;
  flight = none_flies setup;
}

-- and there is no other machine of so many actors none of which has moved
pub start_is : (setup : Setup) (w : Machine) → IsStart (λ a. first_actor setup a) w → length w.seats ≡ actors_of setup → w ≡ start_machine setup
start_is setup w begin size =
    let seats : w.seats ≡ (start_machine setup).seats = same_lists w.seats (start_machine setup).seats (size ∙ sym (start_size setup))
    (λ a x at.
    let lt : a < length w.seats = slice_get_below w.seats a x at in
    start_seat setup a (omega (arith, lt, size)) ∙ ap (λ (y : Seat ActorState). Some y) (sym (begin.seat a x at))) in
    ap (λ (zs : List (Seat ActorState)). record { seats = zs; flight = w.flight }) seats ∙ ap (λ (ms : List (Msg Kind)). record { seats = (start_machine setup).seats; flight = ms }) (begin.flight ∙ sym (none_flies setup))
