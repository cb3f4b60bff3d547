-- One event of a kept machine: what its actor's move needs, and that the machine that is kept afterwards is the one that the step leads to.
use Rattle.std.proofs.Common.{◌≡◌, ◌∙◌, ℕ, ◌+◌, ◌*◌, ◌<◌, ◌≤◌, ◌^◌, Bool, true, false, cond, nat_eq, zero, suc, arith, refl, sym, ap, subst, length-append, Option, None, Some, Ok, List, [], ◌∷◌, ◌++◌, length}
use Rattle.std.specs.Prelude.{slice_get, slice_set, if◌then◌else◌}
use Rattle.std.proofs.lemmas.Bool.Decides.{nat_tests}
use Rattle.og_base.specs.declared.Settings.{Settings}
use Rattle.og_base.specs.declared.NotEnabled.{NotEnabled}
use Rattle.og_base.specs.declared.NotEnabled.TheVariants.{NoActor, NoMessage}
use Rattle.og_runs.specs.declared.Choice.{Choice}
use Rattle.og_runs.specs.declared.Choice.TheVariants.{Act, Take}
use Rattle.og_runs.specs.declared.Event.{Event}
use Rattle.og_runs.specs.declared.Letter.{Letter}
use Rattle.og_runs.specs.declared.Msg.{Msg}
use Rattle.og_runs.specs.declared.MsgId.{MsgId}
use Rattle.og_runs.specs.declared.Seat.{Seat}
use Rattle.og_runs.specs.declared.Stamp.{Stamp}
use Rattle.og_runs.specs.Runs.{Outcome, posted, choice_of, clock_after, event_of, same_id}
use Rattle.og_runs.specs.World.{World, world_step, world_after, seat_after, flight_after, find, placed, placed_all, InPlace}
use Rattle.og_runs.specs.Laws.{RunsFrom, NamesStay, ClocksWithin}
use Rattle.og_runs.proofs.Placed.{find_without}
use Rattle.og_runs.proofs.Stated.{names_stay, clocks_within, shown_from}
use Rattle.og_runs.proofs.Whole.{world_more}
use Rattle.og_flight.specs.Flight.{Flying, for_actor, found_for}
use Rattle.og_flight.proofs.Posting.{placed_length}
use Rattle.og_msg.specs.declared.Kind.{Kind}
use Rattle.og_msg.specs.declared.Note.{Note}
use Rattle.og_image.specs.Image.{ImageState}
use Rattle.og_mover.specs.Table.{has_act}
use Rattle.og_refine.specs.Machines.{IsRunnable}
use Rattle.og_refine.specs.Laws.{RunsTo}
use Rattle.og_machine.specs.Machine.{Setup, setup_of, ActorState, Machine, rules, start_machine, act_of, take_of, can_act, acting, taking, has_row, refusal_by, act_refusal, message_refusal, refusal_of}
use Rattle.og_engine.specs.Marks.{AreMarked}
use Rattle.og_engine.specs.Kept.{KeptMachine, IsMade, Moves, HaveRoom, with_letters, machine_of, setup_in, room_of, seats_of}
use Rattle.og_refine.proofs.Runs.{first_actor, first_seats}
use Rattle.og_refine.proofs.Lawful.{enough_room}

-- ---- runs

from_start : (image : ImageState) (kept : KeptMachine) (made : IsMade image kept) → RunsFrom (rules (setup_in image kept)) (λ a. first_actor (setup_in image kept) a (slice_get (start_machine (setup_in image kept)).seats a)) (start_machine (setup_in image kept)) made.0 (machine_of kept) made.1
from_start image kept made = record { start = first_seats (setup_in image kept); run = made.2.run }

pub clocks : (image : ImageState) (kept : KeptMachine) (made : IsMade image kept) → ClocksWithin made.0 (machine_of kept) made.1
clocks image kept made = clocks_within _ _ _ _ _ _ (from_start image kept made)

-- as many choices were made as events
pub choices_count : (image : ImageState) (kept : KeptMachine) (made : IsMade image kept) → length made.0 ≡ kept.events
choices_count image kept made = sym (clocks image kept made).count ∙ made.2.count

pub clock_low : (image : ImageState) (kept : KeptMachine) (a : ℕ) (x : Seat ActorState) → IsMade image kept → slice_get (machine_of kept).seats a ≡ Some x → x.clock ≤ kept.events
clock_low image kept a x made there = subst (λ (n : ℕ). x.clock ≤ n) (choices_count image kept made) ((clocks image kept made).seats a x there)

pub message_low : (image : ImageState) (kept : KeptMachine) (id : MsgId) (message : Msg Kind) → IsMade image kept → find id (machine_of kept).flight ≡ Some message → message.stamp.clock ≤ kept.events
message_low image kept id message made found = subst (λ (n : ℕ). message.stamp.clock ≤ n) (choices_count image kept made) ((clocks image kept made).flight id message found)

pub names : (image : ImageState) (kept : KeptMachine) (made : IsMade image kept) → NamesStay (machine_of kept) (machine_of kept)
names image kept made = names_stay _ _ _ _ _ _ [] (machine_of kept) [] (from_start image kept made) (refl, refl)

-- the messages in flight stand by receiver, then sender, then number
pub in_place : (image : ImageState) (kept : KeptMachine) (made : IsMade image kept) → InPlace kept.flight.messages
unfolding machine_of
in_place image kept made = (shown_from _ _ _ _ _ _ (from_start image kept made)).shows.in_place

-- an actor's numbers from its next one on are new
new_name : (image : ImageState) (kept : KeptMachine) (a : ℕ) (x : Seat ActorState) (k : ℕ) → IsMade image kept → slice_get (machine_of kept).seats a ≡ Some x → x.next ≤ k → find (record { sender = a; seq = k }) (machine_of kept).flight ≡ None
new_name image kept a x k made there high = by (find (record { sender = a; seq = k }) (machine_of kept).flight) refl
  where
    by : (o : Option (Msg Kind)) → find (record { sender = a; seq = k }) (machine_of kept).flight ≡ o → o ≡ None
    by None e = refl
    by (Some message) e =
        let low : k < x.next = (names image kept made).below_next (record { sender = a; seq = k }) message x e there in
        absurd (omega arith)

-- and stay new without a message
still_new : (id : MsgId) (move : Option (Msg Kind)) (ms : List (Msg Kind)) → find id ms ≡ None → find id (flight_after move ms) ≡ None
still_new id None ms none = none
still_new id (Some message) ms none = find_without message.id id ms ∙ by (same_id id message.id)
  where
    by : (b : Bool) → cond b None (find id ms) ≡ None
    by true = refl
    by false = none

-- ---- letters

placed_all_length : (ms ns : List (Msg Kind)) → length (placed_all ms ns) ≡ length ms + length ns
placed_all_length ms [] = omega arith
placed_all_length ms (n ∷ ns) =
    let rest : length (placed_all (placed n ms) ns) ≡ length (placed n ms) + length ns = placed_all_length (placed n ms) ns in
    let one : length (placed n ms) ≡ length ms + 1 = placed_length n ms in
    omega arith

posted_length : (a clock next : ℕ) (letters : List (Letter Kind)) → length (posted a clock next letters) ≡ length letters
posted_length a clock next [] = refl
posted_length a clock next (l ∷ ls) = let rest : length (posted a clock (suc next) ls) ≡ length ls = posted_length a clock (suc next) ls in omega arith

-- ---- a move, as the calls make it

pub moved : (actor : ℕ) (move : Option (Msg Kind)) (made : Outcome ActorState Kind Note) (x y : Seat ActorState) (before after : Flying Kind) (stamp : Stamp) (out : List (Letter Kind)) (note : Option Note) →
    stamp ≡ record { clock = clock_after x.clock move; actor = actor } → y ≡ record { local = made.local; clock = stamp.clock; next = x.next + length out } → out ≡ made.letters →
    after ≡ with_letters stamp.actor stamp.clock x.next out before → note ≡ made.note → length out ≤ 132 →
    Moves actor move made x y before after (record { choice = choice_of actor move; stamp = stamp; note = note })
moved actor move made x y before after stamp out note stamp_is y_is out_is after_is note_is few = record {
  seat = y_is
      ∙ ap (λ (s : Stamp). record { local = made.local; clock = s.clock; next = x.next + length out }) stamp_is
      ∙ ap (λ (ls : List (Letter Kind)). record { local = made.local; clock = clock_after x.clock move; next = x.next + length ls }) out_is;
  flight = after_is
      ∙ ap (λ (s : Stamp). with_letters s.actor s.clock x.next out before) stamp_is
      ∙ ap (λ (ls : List (Letter Kind)). with_letters actor (clock_after x.clock move) x.next ls before) out_is;
  event_is = ap (λ (s : Stamp). record { choice = choice_of actor move; stamp = s; note = note }) stamp_is
      ∙ ap (λ (n : Option Note). record { choice = choice_of actor move; stamp = record { clock = clock_after x.clock move; actor = actor }; note = n }) note_is;
  few = subst (λ (ls : List (Letter Kind)). length ls ≤ 132) out_is few;
}

-- letters that are added to none are all
pub only_these : (before after letters : List (Letter Kind)) → before ≡ [] → after ≡ before ++ letters → after ≡ letters
only_these before after letters none is = is ∙ ap (λ (ls : List (Letter Kind)). ls ++ letters) none

-- ---- a move that can be made

-- this choice is a move of the actor that sits there, which gives this
pub record IsMove (image : ImageState) (kept : KeptMachine) (choice : Choice) (actor : ℕ) (move : Option (Msg Kind)) (x : Seat ActorState) (made : Outcome ActorState Kind Note) : Type 0 where
  pub there : slice_get (machine_of kept).seats actor ≡ Some x
  pub step : world_step (rules (setup_in image kept)) (machine_of kept) choice ≡ Some (world_after (machine_of kept) actor x move made, event_of actor x.clock move made)

-- what is in flight when a move has taken its message
abbrev pub left_after : Option (Msg Kind) → Flying Kind → Flying Kind
left_after move flight = record { messages = flight_after move flight.messages; room = flight.room }

-- its letters have room
pub have_room : (image : ImageState) (kept : KeptMachine) (choice : Choice) (actor : ℕ) (move : Option (Msg Kind)) (x : Seat ActorState) (made : Outcome ActorState Kind Note) →
    IsMade image kept → kept.events < 2 ^ 55 → IsMove image kept choice actor move x made → HaveRoom actor x.next made.letters (left_after move kept.flight)
unfolding machine_of
have_room image kept choice actor move x made is_made young is =
    let setup : Setup = setup_in image kept in
    let after : World ActorState Kind = world_after (machine_of kept) actor x move made in
    let run = world_more (rules setup) is_made.0 (start_machine setup) (machine_of kept) after is_made.1 choice (event_of actor x.clock move made) is_made.2.run is.step in
    let fits : length after.flight ≤ room_of kept.settings = enough_room setup (is_made.0 ++ choice ∷ []) after (is_made.1 ++ event_of actor x.clock move made ∷ []) is_made.2.runnable run in
    let all : length after.flight ≡ length (flight_after move kept.flight.messages) + length made.letters = placed_all_length (flight_after move kept.flight.messages) (posted actor (clock_after x.clock move) x.next made.letters) ∙ ap (λ (n : ℕ). length (flight_after move kept.flight.messages) + n) (posted_length actor (clock_after x.clock move) x.next made.letters) in
    let room : kept.flight.room ≡ room_of kept.settings = is_made.2.room in
    let next : x.next ≤ 132 * kept.events = is_made.2.numbers actor x is.there in
    record {
      room = subst (λ (n : ℕ). n ≤ kept.flight.room) all (subst (λ (n : ℕ). length after.flight ≤ n) (sym room) fits);
      numbers = omega arith;
      new = λ k high. still_new (record { sender = actor; seq = k }) move kept.flight.messages (new_name image kept actor x k is_made is.there high);
    }

-- ---- the machine afterwards

-- what is kept after a move
pub record IsAfter (kept : KeptMachine) (actor : ℕ) (move : Option (Msg Kind)) (made : Outcome ActorState Kind Note) (x : Seat ActorState) (event : Event Note) (new : KeptMachine) : Type 0 where
  pub seat : Seat ActorState
  pub moves : Moves actor move made x seat (left_after move kept.flight) new.flight event
  pub settings : new.settings ≡ kept.settings
  pub seats : seats_of new.nodes new.mover ≡ slice_set (seats_of kept.nodes kept.mover) actor seat
  pub events : new.events ≡ kept.events + 1

pub world_is : (kept : KeptMachine) (actor : ℕ) (move : Option (Msg Kind)) (made : Outcome ActorState Kind Note) (x : Seat ActorState) (event : Event Note) (new : KeptMachine) →
    IsAfter kept actor move made x event new → machine_of new ≡ world_after (machine_of kept) actor x move made
unfolding machine_of
world_is kept actor move made x event new is =
    let seats : seats_of new.nodes new.mover ≡ slice_set (seats_of kept.nodes kept.mover) actor (seat_after x move made) = subst (λ (y : Seat ActorState). seats_of new.nodes new.mover ≡ slice_set (seats_of kept.nodes kept.mover) actor y) is.moves.seat is.seats in
    let flight : new.flight.messages ≡ placed_all (flight_after move kept.flight.messages) (posted actor (clock_after x.clock move) x.next made.letters) = ap (λ (f : Flying Kind). f.messages) is.moves.flight in
    rw (seats, flight) refl

pub step_is : (image : ImageState) (kept : KeptMachine) (choice : Choice) (actor : ℕ) (move : Option (Msg Kind)) (x : Seat ActorState) (made : Outcome ActorState Kind Note) (event : Event Note) (new : KeptMachine) →
    IsMove image kept choice actor move x made → IsAfter kept actor move made x event new → world_step (rules (setup_in image kept)) (machine_of kept) choice ≡ Some (machine_of new, event)
step_is image kept choice actor move x made event new is after =
    rw (world_is kept actor move made x event new after, after.moves.event_is) is.step

-- a seat of the list with one seat changed is that one or was there
get_set : {X : Type 0} → (P : X → Type 0) (xs : List X) (a : ℕ) (y : X) (b : ℕ) (z : X) → P y → ((c : ℕ) (x : X) → slice_get xs c ≡ Some x → P x) → slice_get (slice_set xs a y) b ≡ Some z → P z
get_set P [] a y b z this all e = absurd (cc)
get_set {X} P (x ∷ xs) zero y zero z this all e = let same : y ≡ z = cc in subst P same this
get_set P (x ∷ xs) zero y (suc b) z this all e = all (suc b) z e
get_set P (x ∷ xs) (suc a) y zero z this all e = all zero z e
get_set P (x ∷ xs) (suc a) y (suc b) z this all e = get_set P xs a y b z this (λ c w f. all (suc c) w f) e

pub stays_made : (image : ImageState) (kept : KeptMachine) (choice : Choice) (actor : ℕ) (move : Option (Msg Kind)) (x : Seat ActorState) (made : Outcome ActorState Kind Note) (event : Event Note) (new : KeptMachine) →
    IsMade image kept → IsMove image kept choice actor move x made → IsAfter kept actor move made x event new → AreMarked image new.nodes new.ready new.running → new.mover_ready ≡ has_act new.mover.local.job → IsMade image new
stays_made image kept choice actor move x made event new is_made is after marked mover_mark = (
  is_made.0 ++ choice ∷ [],
  is_made.1 ++ event ∷ [],
  record {
    runnable = subst (λ (s : Settings). IsRunnable (setup_of image s)) (sym after.settings) is_made.2.runnable;
    run = subst (λ (s : Settings). RunsTo (setup_of image s) (is_made.0 ++ choice ∷ []) (machine_of new) (is_made.1 ++ event ∷ [])) (sym after.settings)
        (world_more (rules (setup_in image kept)) is_made.0 (start_machine (setup_in image kept)) (machine_of kept) (machine_of new) is_made.1 choice event is_made.2.run (step_is image kept choice actor move x made event new is after));
    count = (let one : length (is_made.1 ++ event ∷ []) ≡ length is_made.1 + 1 = length-append is_made.1 (event ∷ []) in let count : length is_made.1 ≡ kept.events = is_made.2.count in let events : new.events ≡ kept.events + 1 = after.events in omega arith);
    room = ap (λ (f : Flying Kind). f.room) after.moves.flight ∙ is_made.2.room ∙ ap room_of (sym after.settings);
    numbers = λ a y there. get_set (λ (z : Seat ActorState). z.next ≤ 132 * new.events) (machine_of kept).seats actor (seat_after x move made) a y moved others (subst (λ (w : Machine). slice_get w.seats a ≡ Some y) (world_is kept actor move made x event new after) there);
    marks = marked;
    mover_mark = mover_mark;
  },
)
  where
    moved : (seat_after x move made).next ≤ 132 * new.events
    moved =
        let few : length made.letters ≤ 132 = after.moves.few in
        let events : new.events ≡ kept.events + 1 = after.events in
        let next : x.next ≤ 132 * kept.events = is_made.2.numbers actor x is.there in
        omega arith

    others : (c : ℕ) (z : Seat ActorState) → slice_get (machine_of kept).seats c ≡ Some z → z.next ≤ 132 * new.events
    others c z there =
        let next : z.next ≤ 132 * kept.events = is_made.2.numbers c z there in
        let events : new.events ≡ kept.events + 1 = after.events in
        omega arith

-- ---- which choices are moves

-- an act that its actor can make
pub act_is : (image : ImageState) (kept : KeptMachine) (a : ℕ) (x : Seat ActorState) → slice_get (machine_of kept).seats a ≡ Some x → can_act (setup_in image kept) x.local ≡ Ok tt →
    IsMove image kept (Act a) a None x (acting (setup_in image kept) x.local)
unfolding act_of
act_is image kept a x there can = record { there = there; step = rw (there, can) refl }

-- the take of a message by its receiver, which has a row for it
pub take_is : (image : ImageState) (kept : KeptMachine) (id : MsgId) (message : Msg Kind) (x : Seat ActorState) → find id (machine_of kept).flight ≡ Some message → slice_get (machine_of kept).seats message.to ≡ Some x → has_row x.local message ≡ true →
    IsMove image kept (Take message.to id) message.to (Some message) x (taking (setup_in image kept) x.local message)
unfolding take_of
take_is image kept id message x found there row =
    let mine : nat_eq message.to message.to ≡ true = grind (arith, nat_tests) in
    record { there = there; step = rw (found, mine, there, row) refl }

-- ---- why a choice is refused

-- a take of a message that an actor finds isn't refused
abbrev pub refusal_for : Option (Msg Kind) → Option NotEnabled
refusal_for None = Some NoMessage
refusal_for (Some message) = None

pub act_refused : (setup : Setup) (w : Machine) (a : ℕ) (x : Seat ActorState) → slice_get w.seats a ≡ Some x → refusal_of setup w (Act a) ≡ refusal_by (can_act setup x.local)
unfolding refusal_of
act_refused setup w a x there = ap (act_refusal setup) there

pub no_actor_acts : (setup : Setup) (w : Machine) (a : ℕ) → slice_get w.seats a ≡ None → refusal_of setup w (Act a) ≡ Some NoActor
unfolding refusal_of
no_actor_acts setup w a none = ap (act_refusal setup) none

pub no_actor_takes : (setup : Setup) (w : Machine) (a : ℕ) (id : MsgId) → slice_get w.seats a ≡ None → refusal_of setup w (Take a id) ≡ Some NoActor
unfolding refusal_of
no_actor_takes setup w a id none = rw none refl

-- the message that an actor finds decides
pub take_refused : (setup : Setup) (w : Machine) (a : ℕ) (id : MsgId) (x : Seat ActorState) → slice_get w.seats a ≡ Some x → refusal_of setup w (Take a id) ≡ refusal_for (found_for a id w.flight)
unfolding refusal_of
take_refused setup w a id x there = rw there (by (find id w.flight))
  where
    mine : (message : Msg Kind) (t : Bool) → (if t then None else Some NoMessage) ≡ refusal_for (cond t (Some message) None)
    mine message true = refl
    mine message false = refl

    by : (found : Option (Msg Kind)) → message_refusal a found ≡ refusal_for (for_actor a found)
    by None = refl
    by (Some message) = mine message (nat_eq message.to a)

-- a message that an actor finds is in flight to it
pub found_is : (a : ℕ) (id : MsgId) (ms : List (Msg Kind)) (message : Msg Kind) → found_for a id ms ≡ Some message → (find id ms ≡ Some message) × (message.to ≡ a)
found_is a id ms message e = by (find id ms) refl e
  where
    mine : (other : Msg Kind) (t : Bool) → nat_eq other.to a ≡ t → find id ms ≡ Some other → cond t (Some other) None ≡ Some message → (find id ms ≡ Some message) × (message.to ≡ a)
    mine other true to found e =
        let same : other ≡ message = cc in
        let here : other.to ≡ a = grind (arith, nat_tests) in
        (subst (λ (m : Msg Kind). find id ms ≡ Some m) same found, subst (λ (m : Msg Kind). m.to ≡ a) same here)
    mine other false to found e = absurd (cc)

    by : (o : Option (Msg Kind)) → find id ms ≡ o → for_actor a o ≡ Some message → (find id ms ≡ Some message) × (message.to ≡ a)
    by None found e = absurd (cc)
    by (Some other) found e = mine other (nat_eq other.to a) refl found e

-- ---- a choice was made

pub record Stepped (image : ImageState) (kept : KeptMachine) (choice : Choice) (new : KeptMachine) (event : Event Note) : Type 0 where
  pub free : refusal_of (setup_in image kept) (machine_of kept) choice ≡ None
  pub step : world_step (rules (setup_in image kept)) (machine_of kept) choice ≡ Some (machine_of new, event)
  pub made : IsMade image new
