-- The act of a node, and of the mover.
use Rattle.std.proofs.Common.{◌≡◌, ◌∙◌, ℕ, ◌+◌, ◌<◌, ◌≤◌, ◌^◌, Bool, true, false, arith, refl, sym, zero, suc, cond, nat_eq, ap, subst, None, Some, Ok, Err, Result, List, [], ◌∷◌, length, get_or}
use Rattle.std.specs.Prelude.{slice_get, slice_set, IsTrue, if◌then◌else◌}
use Rattle.std.specs.Result.{is_ok, result_err, IsErrAnd}
use Rattle.std.proofs.lemmas.Bool.Decides.{nat_tests}
use Rattle.std.proofs.lemmas.Option.{slice_get_read}
use Rattle.og_base.specs.declared.NotEnabled.{NotEnabled}
use Rattle.og_base.specs.declared.NotEnabled.TheVariants.{NoActor, NothingToDo}
use Rattle.og_runs.specs.declared.Choice.{Choice}
use Rattle.og_runs.specs.declared.Choice.TheVariants.{Act}
use Rattle.og_runs.specs.declared.Event.{Event}
use Rattle.og_runs.specs.declared.Seat.{Seat}
use Rattle.og_runs.proofs.Seats.{length_seats, seats_get_node, seats_get_end, seats_get_none, seats_set_node, seats_set_end}
use Rattle.og_runs.proofs.Shown.{slice_get_below, slice_get_some}
use Rattle.og_flight.specs.Flight.{Flying}
use Rattle.og_msg.specs.declared.Kind.{Kind}
use Rattle.og_msg.specs.declared.Note.{Note}
use Rattle.og_image.specs.Image.{ImageState}
use Rattle.og_processor.specs.Act.{may_act}
use Rattle.og_processor.specs.Sound.{IsLowProcessor}
use Rattle.og_node.specs.Kept.{KeptNode, node_of}
use Rattle.og_node.specs.Node.{act_of as node_act}
use Rattle.og_mover.specs.Table.{MoverState, has_act, act_of as mover_act}
use Rattle.og_machine.specs.Machine.{ActorState, mover_may, by_node, by_mover, refusal_by, refusal_of}
use Rattle.og_choices.specs.Marks.{is_marked}
use Rattle.og_choices.specs.Choices.{Offer}
use Rattle.og_engine.specs.Marks.{AreMarked, is_ready, is_running, is_running_by}
use Rattle.og_engine.specs.Kept.{KeptMachine, IsMade, Moves, HaveRoom, machine_of, setup_in, node_seat, mover_seat}
use Rattle.og_stores.proofs.Machines.{lines_are_low}
use Rattle.og_engine.proofs.Bits.{get_changed, marked_again, runs_by}
use Rattle.og_engine.proofs.Moved.{IsMove, IsAfter, Stepped, act_is, act_refused, no_actor_acts, clock_low, choices_count, have_room, step_is, stays_made}

-- ---- who sits where

pub node_sits : (kept : KeptMachine) (a : ℕ) (x : Seat KeptNode) → slice_get kept.nodes a ≡ Some x → slice_get (machine_of kept).seats a ≡ Some (node_seat x)
unfolding machine_of
node_sits kept a x there = seats_get_node node_seat kept.nodes (mover_seat kept.mover) a x there

pub mover_sits : (kept : KeptMachine) (a : ℕ) → a ≡ length kept.nodes → slice_get (machine_of kept).seats a ≡ Some (mover_seat kept.mover)
unfolding machine_of
mover_sits kept a is = seats_get_end node_seat kept.nodes (mover_seat kept.mover) a is

pub nobody_sits : (kept : KeptMachine) (a : ℕ) → length kept.nodes < a → slice_get (machine_of kept).seats a ≡ None
unfolding machine_of
nobody_sits kept a lt = seats_get_none node_seat kept.nodes (mover_seat kept.mover) a lt

pub someone_sits : (kept : KeptMachine) (a : ℕ) → a ≤ length kept.nodes → (x : Seat ActorState) × (slice_get (machine_of kept).seats a ≡ Some x)
unfolding machine_of
someone_sits kept a le = slice_get_some (machine_of kept).seats a (let seats : length (machine_of kept).seats ≡ length kept.nodes + 1 = length_seats node_seat kept.nodes (mover_seat kept.mover) in omega arith)

-- the lines that a node works on have seen few stores
pub node_is_low : (image : ImageState) (kept : KeptMachine) (a : ℕ) (x : Seat KeptNode) → IsMade image kept → kept.events < 2 ^ 55 → slice_get kept.nodes a ≡ Some x → IsLowProcessor x.local.processor
node_is_low image kept a x made young there =
    let count : length made.0 ≡ kept.events = choices_count image kept made in
    (lines_are_low (setup_in image kept) made.0 (machine_of kept) made.1 made.2.run (omega arith)).processors a (node_seat x) (node_of x.local) (node_sits kept a x there) refl

pub node_is_young : (image : ImageState) (kept : KeptMachine) (a : ℕ) (x : Seat KeptNode) → IsMade image kept → kept.events < 2 ^ 55 → slice_get kept.nodes a ≡ Some x → x.clock < 2 ^ 63
node_is_young image kept a x made young there = let low : x.clock ≤ kept.events = clock_low image kept a (node_seat x) made (node_sits kept a x there) in omega arith

pub mover_is_young : (image : ImageState) (kept : KeptMachine) → IsMade image kept → kept.events < 2 ^ 55 → kept.mover.clock < 2 ^ 63
mover_is_young image kept made young = let low : kept.mover.clock ≤ kept.events = clock_low image kept (length kept.nodes) (mover_seat kept.mover) made (mover_sits kept (length kept.nodes) refl) in omega arith

-- ---- a node's act

node_moves : (image : ImageState) (kept : KeptMachine) (a : ℕ) (x : Seat KeptNode) → slice_get kept.nodes a ≡ Some x → may_act image x.local.processor ≡ Ok tt → IsMove image kept (Act a) a None (node_seat x) (by_node (node_act image (node_of x.local)))
node_moves image kept a x there may = act_is image kept a (node_seat x) (node_sits kept a x there) may

pub node_act_room : (image : ImageState) (kept : KeptMachine) (a : ℕ) (x : Seat KeptNode) → IsMade image kept → kept.events < 2 ^ 55 → slice_get kept.nodes a ≡ Some x → may_act image x.local.processor ≡ Ok tt →
    HaveRoom a x.next (node_act image (node_of x.local)).letters kept.flight
node_act_room image kept a x made young there may = have_room image kept (Act a) a None (node_seat x) (by_node (node_act image (node_of x.local))) made young (node_moves image kept a x there may)

pub node_acted : (image : ImageState) (kept : KeptMachine) (a : ℕ) (x y : Seat KeptNode) (flight : Flying Kind) (event : Event Note) (ready running : ℕ) (last : Bool) → IsMade image kept → slice_get kept.nodes a ≡ Some x → may_act image x.local.processor ≡ Ok tt →
    Moves a None (by_node (node_act image (node_of x.local))) (node_seat x) (node_seat y) kept.flight flight event → AreMarked image (slice_set kept.nodes a y) ready running → last ≡ kept.mover_ready →
    Stepped image kept (Act a) (record kept { nodes = slice_set kept.nodes a y; flight = flight; events = kept.events + 1; ready = ready; mover_ready = last; running = running }) event
node_acted image kept a x y flight event ready running last made there may moves marked last_is =
    let new : KeptMachine = record kept { nodes = slice_set kept.nodes a y; flight = flight; events = kept.events + 1; ready = ready; mover_ready = last; running = running } in
    let is : IsMove image kept (Act a) a None (node_seat x) (by_node (node_act image (node_of x.local))) = node_moves image kept a x there may in
    let after : IsAfter kept a None (by_node (node_act image (node_of x.local))) (node_seat x) event new = record {
      seat = node_seat y;
      moves = moves;
      settings = refl;
      seats = sym (seats_set_node node_seat kept.nodes (mover_seat kept.mover) a y (slice_get_below kept.nodes a x there));
      events = refl;
    } in
    record {
      free = act_refused (setup_in image kept) (machine_of kept) a (node_seat x) (node_sits kept a x there) ∙ ap refusal_by may;
      step = step_is image kept (Act a) a None (node_seat x) (by_node (node_act image (node_of x.local))) event new is after;
      made = stays_made image kept (Act a) a None (node_seat x) (by_node (node_act image (node_of x.local))) event new made is after marked (last_is ∙ made.2.mover_mark);
    }

pub node_refused : (image : ImageState) (kept : KeptMachine) (a : ℕ) (x : Seat KeptNode) (why : NotEnabled) → slice_get kept.nodes a ≡ Some x → may_act image x.local.processor ≡ Err why → Some why ≡ refusal_of (setup_in image kept) (machine_of kept) (Act a)
node_refused image kept a x why there may = sym (act_refused (setup_in image kept) (machine_of kept) a (node_seat x) (node_sits kept a x there) ∙ ap refusal_by may)

-- ---- the mover's act

mover_can : (t : Bool) → t ≡ true → mover_may t ≡ Ok tt
mover_can t is = ap mover_may is

mover_moves : (image : ImageState) (kept : KeptMachine) (a : ℕ) → a ≡ length kept.nodes → IsTrue (has_act kept.mover.local.job) → IsMove image kept (Act a) a None (mover_seat kept.mover) (by_mover (mover_act kept.mover.local))
mover_moves image kept a is can = act_is image kept a (mover_seat kept.mover) (mover_sits kept a is) (mover_can (has_act kept.mover.local.job) can)

pub mover_act_room : (image : ImageState) (kept : KeptMachine) (a : ℕ) → IsMade image kept → kept.events < 2 ^ 55 → a ≡ length kept.nodes → IsTrue (has_act kept.mover.local.job) → HaveRoom a kept.mover.next (mover_act kept.mover.local).letters kept.flight
mover_act_room image kept a made young is can = have_room image kept (Act a) a None (mover_seat kept.mover) (by_mover (mover_act kept.mover.local)) made young (mover_moves image kept a is can)

pub mover_acted : (image : ImageState) (kept : KeptMachine) (a : ℕ) (y : Seat MoverState) (flight : Flying Kind) (event : Event Note) (ready : ℕ) (last : Bool) → IsMade image kept → a ≡ length kept.nodes → IsTrue (has_act kept.mover.local.job) →
    Moves a None (by_mover (mover_act kept.mover.local)) (mover_seat kept.mover) (mover_seat y) kept.flight flight event → ready ≡ kept.ready → last ≡ has_act y.local.job →
    Stepped image kept (Act a) (record kept { mover = y; flight = flight; events = kept.events + 1; ready = ready; mover_ready = last }) event
mover_acted image kept a y flight event ready last made at can moves ready_is last_is =
    let new : KeptMachine = record kept { mover = y; flight = flight; events = kept.events + 1; ready = ready; mover_ready = last } in
    let is : IsMove image kept (Act a) a None (mover_seat kept.mover) (by_mover (mover_act kept.mover.local)) = mover_moves image kept a at can in
    let after : IsAfter kept a None (by_mover (mover_act kept.mover.local)) (mover_seat kept.mover) event new = record {
      seat = mover_seat y;
      moves = moves;
      settings = refl;
      seats = sym (seats_set_end node_seat kept.nodes (mover_seat kept.mover) (mover_seat y) a at);
      events = refl;
    } in
    record {
      free = act_refused (setup_in image kept) (machine_of kept) a (mover_seat kept.mover) (mover_sits kept a at) ∙ ap refusal_by (mover_can (has_act kept.mover.local.job) can);
      step = step_is image kept (Act a) a None (mover_seat kept.mover) (by_mover (mover_act kept.mover.local)) event new is after;
      made = stays_made image kept (Act a) a None (mover_seat kept.mover) (by_mover (mover_act kept.mover.local)) event new made is after (subst (λ (word : ℕ). AreMarked image kept.nodes word kept.running) (sym ready_is) made.2.marks) last_is;
    }

pub mover_refused : (image : ImageState) (kept : KeptMachine) (a : ℕ) → a ≡ length kept.nodes → has_act kept.mover.local.job ≡ false → Some NothingToDo ≡ refusal_of (setup_in image kept) (machine_of kept) (Act a)
mover_refused image kept a is none = sym (act_refused (setup_in image kept) (machine_of kept) a (mover_seat kept.mover) (mover_sits kept a is) ∙ ap (λ (t : Bool). refusal_by (mover_may t)) none)

-- ---- in the code's own terms

-- the same of a machine that is kept so, and of the same choice
pub stepped_as : (image : ImageState) (kept old : KeptMachine) (choice same : Choice) (new : KeptMachine) (event : Event Note) → kept ≡ old → choice ≡ same → Stepped image kept choice new event → Stepped image old same new event
stepped_as image kept old choice same new event is choice_is s =
    subst (λ (m : KeptMachine). Stepped image m same new event) is (subst (λ (d : Choice). Stepped image kept d new event) choice_is s)

-- a made machine, as it is kept
pub made_as : (image : ImageState) (kept old : KeptMachine) → kept ≡ old → IsMade image old → IsMade image kept
made_as image kept old is made = subst (IsMade image) (sym is) made

pub young_as : (kept old : KeptMachine) → kept ≡ old → old.events < 2 ^ 55 → kept.events < 2 ^ 55
young_as kept old is young = subst (λ (m : KeptMachine). m.events < 2 ^ 55) (sym is) young

-- the seat at a place of the list
pub seat_read : (xs : List (Seat KeptNode)) (a : ℕ) (x : Seat KeptNode) → a < length xs → x ≡ get_or xs a x → slice_get xs a ≡ Some x
seat_read xs a x lt is = slice_get_read xs (length xs) a x refl lt is

-- a node's seat, as it is read
pub node_there : (kept old : KeptMachine) (at actor : ℕ) (x : Seat KeptNode) → kept ≡ old → at ≡ actor → actor < length old.nodes → x ≡ get_or kept.nodes at x → slice_get kept.nodes at ≡ Some x
node_there kept old at actor x is at_is lt read =
    let here : actor < length kept.nodes = subst (λ (m : KeptMachine). actor < length m.nodes) (sym is) lt in
    seat_read kept.nodes at x (omega arith) read

same_seat : (xs : List (Seat KeptNode)) (a : ℕ) (x y : Seat KeptNode) → slice_get xs a ≡ Some x → slice_get xs a ≡ Some y → x ≡ y
same_seat xs a x y e f = cc

set_length : {X : Type 0} → (xs : List X) (a : ℕ) (y : X) → length (slice_set xs a y) ≡ length xs
set_length [] a y = refl
set_length (x ∷ xs) zero y = refl
set_length (x ∷ xs) (suc a) y = let rest : length (slice_set xs a y) ≡ length xs = set_length xs a y in omega arith

-- what was written at a place is read there
read_back : (xs : List (Seat KeptNode)) (a : ℕ) (y z : Seat KeptNode) → a < length xs → z ≡ get_or (slice_set xs a y) a z → z ≡ y
read_back xs a y z lt is =
    let long : length (slice_set xs a y) ≡ length xs = set_length xs a y in
    let found : slice_get (slice_set xs a y) a ≡ Some z = seat_read (slice_set xs a y) a z (omega arith) is in
    let me : nat_eq a a ≡ true = grind (arith, nat_tests) in
    let there : slice_get (slice_set xs a y) a ≡ Some y = get_changed xs a y a lt ∙ ap (λ (t : Bool). cond t (Some y) (slice_get xs a)) me in
    same_seat (slice_set xs a y) a z y found there

-- the marks after an event of the node at a place, which is then read again
pub marked_back : (image : ImageState) (kept old : KeptMachine) (at actor : ℕ) (y z : Seat KeptNode) (may : Result (Unit {0}) NotEnabled) (before ready running : ℕ) → kept ≡ old → IsMade image old → at ≡ actor → actor < length old.nodes →
    z ≡ get_or (slice_set kept.nodes at y) at z → may ≡ may_act image z.local.processor → before ≡ kept.ready →
    ((k : ℕ) → is_marked ready k ≡ (if nat_eq k actor then is_ok may else is_marked before k)) → ((k : ℕ) → is_marked running k ≡ (if nat_eq k actor then is_running_by may else is_marked kept.running k)) →
    AreMarked image (slice_set kept.nodes at y) ready running
marked_back image kept old at actor y z may before ready running is made at_is lt read may_is before_is ready_is running_is =
    let here : actor < length kept.nodes = subst (λ (m : KeptMachine). actor < length m.nodes) (sym is) lt in
    let inside : at < length kept.nodes = omega arith in
    let same : z ≡ y = read_back kept.nodes at y z inside read in
    marked_again image kept.nodes at y may kept.ready kept.running ready running (made_as image kept old is made).2.marks inside
    (may_is ∙ ap (λ (x : Seat KeptNode). may_act image x.local.processor) same)
    (λ k. ready_is k ∙ ap (λ (word : ℕ). if nat_eq k actor then is_ok may else is_marked word k) before_is ∙ ap (λ (a : ℕ). if nat_eq k a then is_ok may else is_marked kept.ready k) (sym at_is))
    (λ k. running_is k ∙ ap (λ (a : ℕ). if nat_eq k a then is_running_by may else is_marked kept.running k) (sym at_is))

-- a node that may act has both marks
pub both_marked : (image : ImageState) (kept old : KeptMachine) (at actor : ℕ) (x : Seat KeptNode) (can : Result (Unit {0}) NotEnabled) → kept ≡ old → IsMade image old → at ≡ actor → actor < length old.nodes → x ≡ get_or kept.nodes at x →
    can ≡ may_act image x.local.processor → can ≡ Ok tt → (is_marked kept.ready actor ≡ true) × (is_marked kept.running actor ≡ true)
both_marked image kept old at actor x can is made at_is lt read can_is ok =
    let there : slice_get kept.nodes at ≡ Some x = node_there kept old at actor x is at_is lt read in
    let may : may_act image x.local.processor ≡ Ok tt = sym can_is ∙ ok in
    let marks : AreMarked image kept.nodes kept.ready kept.running = (made_as image kept old is made).2.marks in (
      ap (is_marked kept.ready) (sym at_is) ∙ marks.ready_is at ∙ ap (is_ready image) there ∙ ap is_ok may,
      ap (is_marked kept.running) (sym at_is) ∙ marks.running_is at ∙ ap is_running there ∙ sym (runs_by image x.local.processor) ∙ ap is_running_by may,
    )

-- a node's mark says whether it may act
pub node_marked_as : (image : ImageState) (kept old : KeptMachine) (at actor : ℕ) (x : Seat KeptNode) (mark : Bool) → kept ≡ old → IsMade image old → at ≡ actor → actor < length old.nodes → x ≡ get_or kept.nodes at x →
    mark ≡ is_marked kept.ready actor → mark ≡ is_ok (may_act image x.local.processor)
node_marked_as image kept old at actor x mark is made at_is lt read mark_is =
    mark_is ∙ ap (is_marked kept.ready) (sym at_is) ∙ (made_as image kept old is made).2.marks.ready_is at ∙ ap (is_ready image) (node_there kept old at actor x is at_is lt read)

-- a node's act, from what the calls give: its letters go into flight, and then its mark is set
pub node_acted_as : (image : ImageState) (kept old : KeptMachine) (at actor : ℕ) (x seat y : Seat KeptNode) (can : Result (Unit {0}) NotEnabled) (sent marked : Offer Kind) (event : Event Note) (running : ℕ) → kept ≡ old → IsMade image old → at ≡ actor → actor < length old.nodes →
    x ≡ get_or kept.nodes at x → can ≡ may_act image x.local.processor → can ≡ Ok tt → seat ≡ get_or kept.nodes at seat →
    Moves actor None (by_node (node_act image (node_of seat.local))) (node_seat seat) (node_seat y) kept.flight sent.flight event → sent.last ≡ kept.mover_ready → marked ≡ record sent { ready = marked.ready } → AreMarked image (slice_set kept.nodes at y) marked.ready running →
    Stepped image old (Act actor) (record kept { nodes = slice_set kept.nodes at y; flight = marked.flight; events = kept.events + 1; ready = marked.ready; mover_ready = marked.last; running = running }) event
node_acted_as image kept old at actor x seat y can sent marked event running is made at_is lt read can_is ok read_mut moves last_is mark_is marks =
    let there : slice_get kept.nodes at ≡ Some seat = node_there kept old at actor seat is at_is lt read_mut in
    let same : x ≡ seat = same_seat kept.nodes at x seat (node_there kept old at actor x is at_is lt read) there in
    let may : may_act image seat.local.processor ≡ Ok tt = ap (λ (z : Seat KeptNode). may_act image z.local.processor) (sym same) ∙ sym can_is ∙ ok in
    let moved : Moves actor None (by_node (node_act image (node_of seat.local))) (node_seat seat) (node_seat y) kept.flight marked.flight event =
    subst (λ (f : Flying Kind). Moves actor None (by_node (node_act image (node_of seat.local))) (node_seat seat) (node_seat y) kept.flight f event) (sym (ap (λ (o : Offer Kind). o.flight) mark_is)) moves in
    stepped_as image kept old (Act at) (Act actor) (record kept { nodes = slice_set kept.nodes at y; flight = marked.flight; events = kept.events + 1; ready = marked.ready; mover_ready = marked.last; running = running }) event is (ap Act at_is)
    (node_acted image kept at seat y marked.flight event marked.ready running marked.last (made_as image kept old is made) there may (subst (λ (a : ℕ). Moves a None (by_node (node_act image (node_of seat.local))) (node_seat seat) (node_seat y) kept.flight marked.flight event) (sym at_is) moved) marks (ap (λ (o : Offer Kind). o.last) mark_is ∙ last_is))

-- a node that may act, from what the calls give
pub record MayActAt (image : ImageState) (kept : KeptMachine) (actor : ℕ) (seat : Seat KeptNode) : Type 0 where
  pub low : IsLowProcessor seat.local.processor
  pub young : seat.clock < 2 ^ 63
  pub room : HaveRoom actor seat.next (node_act image (node_of seat.local)).letters kept.flight

pub node_may : (image : ImageState) (kept old : KeptMachine) (at actor : ℕ) (x seat : Seat KeptNode) (can : Result (Unit {0}) NotEnabled) → kept ≡ old → IsMade image old → old.events < 2 ^ 55 → at ≡ actor → actor < length old.nodes →
    x ≡ get_or kept.nodes at x → can ≡ may_act image x.local.processor → can ≡ Ok tt → seat ≡ get_or kept.nodes at seat → MayActAt image kept actor seat
node_may image kept old at actor x seat can is made young at_is lt read can_is ok read_mut =
    let there : slice_get kept.nodes at ≡ Some seat = node_there kept old at actor seat is at_is lt read_mut in
    let same : x ≡ seat = same_seat kept.nodes at x seat (node_there kept old at actor x is at_is lt read) there in
    let may : may_act image seat.local.processor ≡ Ok tt = ap (λ (z : Seat KeptNode). may_act image z.local.processor) (sym same) ∙ sym can_is ∙ ok in
    let m : IsMade image kept = made_as image kept old is made in
    let y : kept.events < 2 ^ 55 = young_as kept old is young in
    record {
      low = node_is_low image kept at seat m y there;
      young = node_is_young image kept at seat m y there;
      room = subst (λ (a : ℕ). HaveRoom a seat.next (node_act image (node_of seat.local)).letters kept.flight) at_is (node_act_room image kept at seat m y there may);
    }

-- an error that is handed on
pub handed_on : {T : Type 0} → (r : Result T NotEnabled) (why : NotEnabled) (P : NotEnabled → Type 0) → IsErrAnd r P → ((e : NotEnabled) → P e → e ≡ why) → result_err r ≡ Some why
handed_on (Ok x) why P h f = absurd h
handed_on (Err e) why P h f = ap (λ (z : NotEnabled). Some z) (f e h)

pub node_refused_as : (image : ImageState) (kept old : KeptMachine) (at actor : ℕ) (x : Seat KeptNode) (can : Result (Unit {0}) NotEnabled) (why : NotEnabled) → kept ≡ old → at ≡ actor → actor < length old.nodes →
    x ≡ get_or kept.nodes at x → can ≡ may_act image x.local.processor → can ≡ Err why → Some why ≡ refusal_of (setup_in image old) (machine_of old) (Act actor)
node_refused_as image kept old at actor x can why is at_is lt read can_is err =
    subst (λ (m : KeptMachine). Some why ≡ refusal_of (setup_in image m) (machine_of m) (Act actor)) is
    (subst (λ (a : ℕ). Some why ≡ refusal_of (setup_in image kept) (machine_of kept) (Act a)) at_is (node_refused image kept at x why (node_there kept old at actor x is at_is lt read) (sym can_is ∙ err)))

-- ---- the mover's, in the code's own terms

mover_there : (kept old : KeptMachine) (actor : ℕ) → kept ≡ old → actor ≡ length old.nodes → actor ≡ length kept.nodes
mover_there kept old actor is at = subst (λ (m : KeptMachine). actor ≡ length m.nodes) (sym is) at

pub record MoverMayAt (kept : KeptMachine) (actor : ℕ) : Type 0 where
  pub young : kept.mover.clock < 2 ^ 63
  pub room : HaveRoom actor kept.mover.next (mover_act kept.mover.local).letters kept.flight

pub mover_may_as : (image : ImageState) (kept old : KeptMachine) (actor : ℕ) → kept ≡ old → IsMade image old → old.events < 2 ^ 55 → actor ≡ length old.nodes → has_act kept.mover.local.job ≡ true → MoverMayAt kept actor
mover_may_as image kept old actor is made young at can =
    let m : IsMade image kept = made_as image kept old is made in
    let y : kept.events < 2 ^ 55 = young_as kept old is young in
    record { young = mover_is_young image kept m y; room = mover_act_room image kept actor m y (mover_there kept old actor is at) can }

pub mover_acted_as : (image : ImageState) (kept old : KeptMachine) (actor : ℕ) (y : Seat MoverState) (sent marked : Offer Kind) (event : Event Note) (can : Bool) → kept ≡ old → IsMade image old → actor ≡ length old.nodes → has_act kept.mover.local.job ≡ true →
    Moves actor None (by_mover (mover_act kept.mover.local)) (mover_seat kept.mover) (mover_seat y) kept.flight sent.flight event → sent.ready ≡ kept.ready → marked ≡ record sent { last = can } → can ≡ has_act y.local.job →
    Stepped image old (Act actor) (record kept { mover = y; flight = marked.flight; events = kept.events + 1; ready = marked.ready; mover_ready = marked.last }) event
mover_acted_as image kept old actor y sent marked event can is made at has moves ready_is mark_is can_is =
    stepped_as image kept old (Act actor) (Act actor) (record kept { mover = y; flight = marked.flight; events = kept.events + 1; ready = marked.ready; mover_ready = marked.last }) event is refl
    (mover_acted image kept actor y marked.flight event marked.ready marked.last (made_as image kept old is made) (mover_there kept old actor is at) has
    (subst (λ (f : Flying Kind). Moves actor None (by_mover (mover_act kept.mover.local)) (mover_seat kept.mover) (mover_seat y) kept.flight f event) (sym (ap (λ (o : Offer Kind). o.flight) mark_is)) moves)
    (ap (λ (o : Offer Kind). o.ready) mark_is ∙ ready_is) (ap (λ (o : Offer Kind). o.last) mark_is ∙ can_is))

pub mover_refused_as : (image : ImageState) (kept old : KeptMachine) (actor : ℕ) → kept ≡ old → actor ≡ length old.nodes → has_act kept.mover.local.job ≡ false → Some NothingToDo ≡ refusal_of (setup_in image old) (machine_of old) (Act actor)
mover_refused_as image kept old actor is at none =
    subst (λ (m : KeptMachine). Some NothingToDo ≡ refusal_of (setup_in image m) (machine_of m) (Act actor)) is (mover_refused image kept actor (mover_there kept old actor is at) none)

-- nobody sits behind the mover
pub nobody_as : (image : ImageState) (old : KeptMachine) (actor : ℕ) → length old.nodes < actor → Some NoActor ≡ refusal_of (setup_in image old) (machine_of old) (Act actor)
nobody_as image old actor lt = sym (no_actor_acts (setup_in image old) (machine_of old) actor (nobody_sits old actor lt))
