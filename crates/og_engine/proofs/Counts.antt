-- What the marks say of the harts of a machine, and whether it is quiet.
use Rattle.std.proofs.Common.{◌≡◌, ◌≢◌, ◌∙◌, ℕ, zero, suc, ◌+◌, ◌<◌, ◌≤◌, Bool, true, false, nat_eq, arith, refl, sym, ap, Option, None, Some, List, [], ◌∷◌, length}
use Rattle.std.specs.Prelude.{slice_get, is_none, is_some, ◌&&◌}
use Rattle.std.specs.List.{list_all}
use Rattle.std.specs.Int.{bit_at}
use Rattle.std.proofs.lemmas.Nat.Bits.{bit_at-lt, bit_at-zero, same_from_bits}
use Rattle.std.proofs.lemmas.Bool.Decides.{nat_tests}
use Rattle.og_base.specs.declared.Cause.{Cause}
use Rattle.og_runs.specs.declared.Seat.{Seat}
use Rattle.og_runs.proofs.Seats.{length_seats}
use Rattle.og_image.specs.Image.{ImageState}
use Rattle.og_node.specs.Kept.{KeptNode}
use Rattle.og_victim.specs.Slot.{is_free_slot}
use Rattle.og_mover.specs.Table.{MoverState, is_idle_job}
use Rattle.og_machine.specs.Machine.{ActorState, has_stopped, is_at_rest, is_stopped, is_quiet}
use Rattle.og_choices.specs.Marks.{is_marked}
use Rattle.og_engine.specs.Marks.{is_running}
use Rattle.og_engine.specs.Kept.{KeptMachine, IsMade, machine_of, setup_in, node_seat, mover_seat, seats_of}
use Rattle.og_engine.proofs.Known.{seats_count}

-- the nodes are as many as the settings say
pub nodes_count : (image : ImageState) (kept : KeptMachine) → IsMade image kept → length kept.nodes ≡ kept.settings.nodes
unfolding machine_of
nodes_count image kept made =
    let count : length (machine_of kept).seats ≡ kept.settings.nodes + 1 = seats_count (setup_in image kept) made.0 (machine_of kept) made.1 made.2.runnable made.2.run in
    let seats : length (machine_of kept).seats ≡ length kept.nodes + 1 = length_seats node_seat kept.nodes (mover_seat kept.mover) in
    omega arith

pub few_nodes : (image : ImageState) (kept : KeptMachine) → IsMade image kept → length kept.nodes ≤ 128
few_nodes image kept made = let count : length kept.nodes ≡ kept.settings.nodes = nodes_count image kept made in let few : kept.settings.nodes ≤ 128 = made.2.runnable.few_nodes in omega arith

pub few_seats : (image : ImageState) (kept old : KeptMachine) (a : ℕ) → kept ≡ old → IsMade image old → a < length old.nodes → a < 128
few_seats image kept old a is made lt = let few : length old.nodes ≤ 128 = few_nodes image old made in omega arith

-- a node is one of those that the index of the choices has
pub node_inside : (image : ImageState) (kept old : KeptMachine) (a n : ℕ) → kept ≡ old → IsMade image old → a < length old.nodes → n ≡ kept.settings.nodes → a < n
node_inside image kept old a n is made lt nodes =
    let count : length old.nodes ≡ old.settings.nodes = nodes_count image old made in
    let same : kept.settings.nodes ≡ old.settings.nodes = ap (λ (m : KeptMachine). m.settings.nodes) is in
    omega arith

-- ---- harts

not_running : (o : Option Cause) → is_none o ≡ false → is_some o ≡ true
not_running None e = absurd (cc)
not_running (Some cause) e = refl

-- a word without marks is 0
no_bit : (word k : ℕ) → is_marked word k ≡ false → bit_at word k ≡ bit_at 0 k
no_bit word k none =
    let low : bit_at word k < 2 = bit_at-lt word k in
    let not_one : bit_at word k ≢ 1 = λ e. (let t : nat_eq (bit_at word k) 1 ≡ true = grind (arith, nat_tests) in cc) in
    let zero_is : bit_at word k ≡ 0 = grind (arith, not_one) in
    zero_is ∙ sym (bit_at-zero k)

no_marks : (word : ℕ) → ((k : ℕ) → is_marked word k ≡ false) → word ≡ 0
no_marks word none = same_from_bits word 0 (λ k. no_bit word k (none k))

-- all seats pass a test exactly where all nodes do, and the mover
all_seats : (p : ActorState → Bool) (nodes : List (Seat KeptNode)) (mover : Seat MoverState) → list_all (λ x. p x.local) (seats_of nodes mover) ≡ (list_all (λ x. p (node_seat x).local) nodes && p (mover_seat mover).local)
all_seats p [] mover = one (p (mover_seat mover).local)
  where
    one : (t : Bool) → (t && true) ≡ (true && t)
    one true = refl
    one false = refl
all_seats p (x ∷ xs) mover = at (p (node_seat x).local) (all_seats p xs mover)
  where
    at : (t : Bool) → list_all (λ y. p y.local) (seats_of xs mover) ≡ (list_all (λ y. p (node_seat y).local) xs && p (mover_seat mover).local) →
        (t && list_all (λ y. p y.local) (seats_of xs mover)) ≡ ((t && list_all (λ y. p (node_seat y).local) xs) && p (mover_seat mover).local)
    at true rest = rest
    at false rest = refl

halted : Seat KeptNode → Bool
halted x = is_some x.local.processor.hart.cause

all_halted : (nodes : List (Seat KeptNode)) → ((a : ℕ) → a < length nodes → is_running (slice_get nodes a) ≡ false) → list_all halted nodes ≡ true
unfolding halted
all_halted [] none = refl
all_halted (x ∷ xs) none =
    let here : is_some x.local.processor.hart.cause ≡ true = not_running x.local.processor.hart.cause (none 0 (omega arith)) in
    ap (λ (t : Bool). t && list_all halted xs) here ∙ all_halted xs (λ a lt. none (suc a) (omega arith))

runs_not : (o : Option Cause) → is_some o ≡ true → is_none o ≡ false
runs_not None e = absurd (cc)
runs_not (Some cause) e = refl

none_runs : (nodes : List (Seat KeptNode)) → list_all halted nodes ≡ true → (a : ℕ) → is_running (slice_get nodes a) ≡ false
unfolding halted
none_runs [] all a = refl
none_runs (x ∷ xs) all a = at (is_some x.local.processor.hart.cause) refl all (λ e b. none_runs xs e b) a
  where
    at : (t : Bool) → is_some x.local.processor.hart.cause ≡ t → (t && list_all halted xs) ≡ true → (list_all halted xs ≡ true → (b : ℕ) → is_running (slice_get xs b) ≡ false) → (a : ℕ) → is_running (slice_get (x ∷ xs) a) ≡ false
    at true is rest more zero = runs_not x.local.processor.hart.cause is
    at true is rest more (suc a) = more rest a
    at false is rest more a = absurd (cc)

-- no mark says that a hart runs exactly where each has stopped
pub stopped_is : (image : ImageState) (kept : KeptMachine) (word : ℕ) → IsMade image kept → word ≡ kept.running → nat_eq word 0 ≡ is_stopped (machine_of kept)
unfolding is_stopped machine_of halted
stopped_is image kept word made is =
    at (nat_eq word 0) refl (list_all halted kept.nodes) refl ∙ back (list_all halted kept.nodes) ∙ sym (all_seats has_stopped kept.nodes kept.mover)
  where
    back : (t : Bool) → t ≡ (t && true)
    back true = refl
    back false = refl

    at : (t : Bool) → nat_eq word 0 ≡ t → (u : Bool) → list_all halted kept.nodes ≡ u → t ≡ u
    at true e true all = refl
    at false e false all = refl
    at true e false all =
        let none : kept.running ≡ 0 = (let w : word ≡ 0 = grind (arith, nat_tests) in omega arith) in
        let yes : list_all halted kept.nodes ≡ true = all_halted kept.nodes (λ a lt. sym (made.2.marks.running_is a) ∙ ap (λ (w : ℕ). is_marked w a) none ∙ ap (λ (b : ℕ). nat_eq b 1) (bit_at-zero a)) in
        absurd (cc)
    at false e true all =
        let none : kept.running ≡ 0 = no_marks kept.running (λ a. made.2.marks.running_is a ∙ none_runs kept.nodes all a) in
        let w : word ≡ 0 = omega arith in
        absurd (grind (arith, nat_tests))

-- ---- quiet

pub quiet_when_rests : (kept : KeptMachine) (rests : Bool) (n : ℕ) → is_stopped (machine_of kept) ≡ true → n ≡ length kept.flight.messages → n ≡ 0 → rests ≡ list_all (λ x. is_at_rest x.local) (machine_of kept).seats → rests ≡ is_quiet (machine_of kept)
unfolding is_quiet machine_of
quiet_when_rests kept rests n stopped count none is =
    let empty : nat_eq (length kept.flight.messages) 0 ≡ true = grind (arith, nat_tests) in
    is ∙ sym (ap (λ (t : Bool). t && (nat_eq (length kept.flight.messages) 0 && list_all (λ x. is_at_rest x.local) (machine_of kept).seats)) stopped ∙ ap (λ (t : Bool). t && list_all (λ x. is_at_rest x.local) (machine_of kept).seats) empty)

pub not_quiet_in_flight : (kept : KeptMachine) (n : ℕ) → is_stopped (machine_of kept) ≡ true → n ≡ length kept.flight.messages → n ≢ 0 → nat_eq n 0 ≡ is_quiet (machine_of kept)
unfolding is_quiet machine_of
not_quiet_in_flight kept n stopped count some =
    let full : nat_eq (length kept.flight.messages) 0 ≡ false = grind (arith, nat_tests) in
    let here : nat_eq n 0 ≡ false = grind (arith, nat_tests) in
    here ∙ sym (ap (λ (t : Bool). t && (nat_eq (length kept.flight.messages) 0 && list_all (λ x. is_at_rest x.local) (machine_of kept).seats)) stopped ∙ ap (λ (t : Bool). t && list_all (λ x. is_at_rest x.local) (machine_of kept).seats) full)

pub not_quiet_running : (kept : KeptMachine) (stopped : Bool) → stopped ≡ is_stopped (machine_of kept) → stopped ≡ false → stopped ≡ is_quiet (machine_of kept)
unfolding is_quiet
not_quiet_running kept stopped is runs = runs ∙ sym (ap (λ (t : Bool). t && (nat_eq (length (machine_of kept).flight) 0 && list_all (λ x. is_at_rest x.local) (machine_of kept).seats)) (sym is ∙ runs))

-- whether all rest, from the nodes and the mover
pub rests_by : (kept : KeptMachine) (free idle : Bool) → free ≡ list_all (λ x. is_free_slot x.local.processor.victim) kept.nodes → idle ≡ is_idle_job kept.mover.local.job → (free && idle) ≡ list_all (λ x. is_at_rest x.local) (machine_of kept).seats
unfolding machine_of
rests_by kept free idle free_is idle_is =
    ap (λ (t : Bool). t && idle) free_is ∙ ap (λ (t : Bool). list_all (λ x. is_free_slot x.local.processor.victim) kept.nodes && t) idle_is ∙ sym (all_seats is_at_rest kept.nodes kept.mover)

-- ---- as the calls give them

pub and_false : (a b : Bool) → a ≡ false → a ≡ (a && b)
and_false a b e = e ∙ sym (ap (λ (t : Bool). t && b) e)
