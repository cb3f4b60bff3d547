-- The take of a message by a node, and by the mover.
use Rattle.std.proofs.Common.{◌≡◌, ◌∙◌, ℕ, ◌+◌, ◌<◌, ◌≤◌, ◌^◌, Bool, true, arith, refl, sym, ap, subst, None, Some, length, get_or}
use Rattle.std.specs.Prelude.{slice_get, slice_set, IsTrue}
use Rattle.og_base.specs.declared.NotEnabled.TheVariants.{NoActor, NoMessage}
use Rattle.og_runs.specs.declared.Choice.TheVariants.{Take}
use Rattle.og_runs.specs.declared.Event.{Event}
use Rattle.og_runs.specs.declared.Msg.{Msg}
use Rattle.og_runs.specs.declared.MsgId.{MsgId}
use Rattle.og_runs.specs.declared.Seat.{Seat}
use Rattle.og_runs.specs.World.{find, world_step}
use Rattle.og_runs.proofs.Seats.{seats_set_node, seats_set_end}
use Rattle.og_runs.proofs.Shown.{slice_get_below}
use Rattle.og_flight.specs.Flight.{Flying, found_for}
use Rattle.og_msg.specs.declared.Kind.{Kind}
use Rattle.og_msg.specs.declared.Note.{Note}
use Rattle.og_image.specs.Image.{ImageState}
use Rattle.og_processor.specs.Sound.{IsSound, IsLowProcessor, IsLowKind}
use Rattle.og_node.specs.Kept.{KeptNode, node_of}
use Rattle.og_node.specs.Node.{HasRow, take_of as node_take}
use Rattle.og_node.proofs.Rows.{row_told}
use Rattle.og_mover.specs.Table.{MoverState, has_act, has_table_row, take_of as mover_take}
use Rattle.og_machine.specs.Machine.{ActorState, rules, has_row, by_node, by_mover, refusal_of}
use Rattle.og_choices.specs.Choices.{Offer}
use Rattle.og_engine.specs.Marks.{AreMarked}
use Rattle.og_engine.specs.Kept.{KeptMachine, IsMade, Moves, HaveRoom, machine_of, setup_in, node_seat, mover_seat, seats_of}
use Rattle.og_refine.proofs.Lawful.{messages_rows}
use Rattle.og_stores.proofs.Machines.{lines_are_low}
use Rattle.og_engine.proofs.Known.{processors_are_sound, homes_know_nodes}
use Rattle.og_engine.proofs.Moved.{IsMove, IsAfter, Stepped, left_after, take_is, take_refused, no_actor_takes, refusal_for, found_is, choices_count, message_low, have_room, step_is, stays_made}
use Rattle.og_engine.proofs.Acts.{node_sits, mover_sits, nobody_sits, someone_sits, node_there, made_as, young_as, stepped_as, node_is_low, node_is_young, mover_is_young}

-- a message that its receiver has found
pub record IsFound (kept : KeptMachine) (a : ℕ) (id : MsgId) (message : Msg Kind) : Type 0 where
  pub found : find id kept.flight.messages ≡ Some message
  pub to : message.to ≡ a

pub is_found : (kept : KeptMachine) (a : ℕ) (id : MsgId) (message : Msg Kind) → found_for a id kept.flight.messages ≡ Some message → IsFound kept a id message
is_found kept a id message e = let f = found_is a id kept.flight.messages message e in record { found = f.0; to = f.1 }

in_flight : (kept : KeptMachine) (id : MsgId) (message : Msg Kind) → find id kept.flight.messages ≡ Some message → find id (machine_of kept).flight ≡ Some message
unfolding machine_of
in_flight kept id message found = found

-- the actor there has a row for it
row_there : (image : ImageState) (kept : KeptMachine) (a : ℕ) (id : MsgId) (message : Msg Kind) (x : Seat ActorState) → IsMade image kept → IsFound kept a id message → slice_get (machine_of kept).seats a ≡ Some x → has_row x.local message ≡ true
row_there image kept a id message x made is there =
    let r = messages_rows (setup_in image kept) made.0 (machine_of kept) made.1 id message made.2.runnable made.2.run (in_flight kept id message is.found) in
    let here : slice_get (machine_of kept).seats a ≡ Some r.0 = subst (λ (b : ℕ). slice_get (machine_of kept).seats b ≡ Some r.0) is.to r.1 in
    let same : r.0 ≡ x = cc in
    subst (λ (y : Seat ActorState). has_row y.local message ≡ true) same r.2

pub message_is_young : (image : ImageState) (kept : KeptMachine) (a : ℕ) (id : MsgId) (message : Msg Kind) → IsMade image kept → kept.events < 2 ^ 55 → IsFound kept a id message → message.stamp.clock < 2 ^ 63
message_is_young image kept a id message made young is = let low : message.stamp.clock ≤ kept.events = message_low image kept id message made (in_flight kept id message is.found) in omega arith

pub message_is_low : (image : ImageState) (kept : KeptMachine) (a : ℕ) (id : MsgId) (message : Msg Kind) → IsMade image kept → kept.events < 2 ^ 55 → IsFound kept a id message → IsLowKind message.kind
message_is_low image kept a id message made young is =
    let count : length made.0 ≡ kept.events = choices_count image kept made in
    (lines_are_low (setup_in image kept) made.0 (machine_of kept) made.1 made.2.run (omega arith)).messages id message (in_flight kept id message is.found)

-- ---- by a node

pub node_is_sound : (image : ImageState) (kept : KeptMachine) (a : ℕ) (x : Seat KeptNode) → IsMade image kept → slice_get kept.nodes a ≡ Some x → IsSound image x.local.processor
node_is_sound image kept a x made there = processors_are_sound (setup_in image kept) made.0 (machine_of kept) made.1 a (node_seat x) (node_of x.local) made.2.runnable made.2.run (node_sits kept a x there) refl

pub node_has_few : (image : ImageState) (kept : KeptMachine) (a : ℕ) (x : Seat KeptNode) → IsMade image kept → slice_get kept.nodes a ≡ Some x → (node_of x.local).home.rules.nodes ≤ 128
node_has_few image kept a x made there =
    subst (λ (n : ℕ). n ≤ 128) (sym (homes_know_nodes (setup_in image kept) made.0 (machine_of kept) made.1 a (node_seat x) (node_of x.local) made.2.runnable made.2.run (node_sits kept a x there) refl)) made.2.runnable.few_nodes

pub node_row : (image : ImageState) (kept : KeptMachine) (a : ℕ) (id : MsgId) (message : Msg Kind) (x : Seat KeptNode) → IsMade image kept → IsFound kept a id message → slice_get kept.nodes a ≡ Some x → HasRow (node_of x.local) message
node_row image kept a id message x made is there = (row_told (node_of x.local) message).0 (row_there image kept a id message (node_seat x) made is (node_sits kept a x there))

node_takes : (image : ImageState) (kept : KeptMachine) (a : ℕ) (id : MsgId) (message : Msg Kind) (x : Seat KeptNode) → IsMade image kept → IsFound kept a id message → slice_get kept.nodes a ≡ Some x →
    IsMove image kept (Take message.to id) message.to (Some message) (node_seat x) (by_node (node_take image (node_of x.local) message))
node_takes image kept a id message x made is there =
    take_is image kept id message (node_seat x) (in_flight kept id message is.found) (subst (λ (b : ℕ). slice_get (machine_of kept).seats b ≡ Some (node_seat x)) (sym is.to) (node_sits kept a x there)) (row_there image kept a id message (node_seat x) made is (node_sits kept a x there))

pub node_take_room : (image : ImageState) (kept : KeptMachine) (a : ℕ) (id : MsgId) (message : Msg Kind) (x : Seat KeptNode) → IsMade image kept → kept.events < 2 ^ 55 → IsFound kept a id message → slice_get kept.nodes a ≡ Some x →
    HaveRoom message.to x.next (node_take image (node_of x.local) message).letters (left_after (Some message) kept.flight)
node_take_room image kept a id message x made young is there = have_room image kept (Take message.to id) message.to (Some message) (node_seat x) (by_node (node_take image (node_of x.local) message)) made young (node_takes image kept a id message x made is there)

pub take_free : (image : ImageState) (kept : KeptMachine) (a : ℕ) (id : MsgId) (message : Msg Kind) (x : Seat ActorState) → found_for a id kept.flight.messages ≡ Some message → slice_get (machine_of kept).seats a ≡ Some x → refusal_of (setup_in image kept) (machine_of kept) (Take a id) ≡ None
unfolding machine_of
take_free image kept a id message x found there = take_refused (setup_in image kept) (machine_of kept) a id x there ∙ ap refusal_for found

pub node_took : (image : ImageState) (kept : KeptMachine) (a : ℕ) (id : MsgId) (message : Msg Kind) (x y : Seat KeptNode) (flight : Flying Kind) (event : Event Note) (ready running : ℕ) (last : Bool) → IsMade image kept → found_for a id kept.flight.messages ≡ Some message → slice_get kept.nodes a ≡ Some x →
    Moves message.to (Some message) (by_node (node_take image (node_of x.local) message)) (node_seat x) (node_seat y) (left_after (Some message) kept.flight) flight event → AreMarked image (slice_set kept.nodes a y) ready running → last ≡ kept.mover_ready →
    Stepped image kept (Take a id) (record kept { nodes = slice_set kept.nodes a y; flight = flight; events = kept.events + 1; ready = ready; mover_ready = last; running = running }) event
node_took image kept a id message x y flight event ready running last made found there moves marked last_is =
    let is : IsFound kept a id message = is_found kept a id message found in
    let new : KeptMachine = record kept { nodes = slice_set kept.nodes a y; flight = flight; events = kept.events + 1; ready = ready; mover_ready = last; running = running } in
    let outcome = by_node (node_take image (node_of x.local) message) in
    let move : IsMove image kept (Take message.to id) message.to (Some message) (node_seat x) outcome = node_takes image kept a id message x made is there in
    let after : IsAfter kept message.to (Some message) outcome (node_seat x) event new = record {
      seat = node_seat y;
      moves = moves;
      settings = refl;
      seats = subst (λ (b : ℕ). seats_of (slice_set kept.nodes a y) kept.mover ≡ slice_set (seats_of kept.nodes kept.mover) b (node_seat y)) (sym is.to) (sym (seats_set_node node_seat kept.nodes (mover_seat kept.mover) a y (slice_get_below kept.nodes a x there)));
      events = refl;
    } in
    record {
      free = take_free image kept a id message (node_seat x) found (node_sits kept a x there);
      step = subst (λ (b : ℕ). world_step (rules (setup_in image kept)) (machine_of kept) (Take b id) ≡ Some (machine_of new, event)) is.to (step_is image kept (Take message.to id) message.to (Some message) (node_seat x) outcome event new move after);
      made = stays_made image kept (Take message.to id) message.to (Some message) (node_seat x) outcome event new made move after marked (last_is ∙ made.2.mover_mark);
    }

-- ---- by the mover

pub mover_row : (image : ImageState) (kept : KeptMachine) (a : ℕ) (id : MsgId) (message : Msg Kind) → IsMade image kept → IsFound kept a id message → a ≡ length kept.nodes → IsTrue (has_table_row kept.mover.local message)
mover_row image kept a id message made is at = row_there image kept a id message (mover_seat kept.mover) made is (mover_sits kept a at)

mover_takes : (image : ImageState) (kept : KeptMachine) (a : ℕ) (id : MsgId) (message : Msg Kind) → IsMade image kept → IsFound kept a id message → a ≡ length kept.nodes →
    IsMove image kept (Take message.to id) message.to (Some message) (mover_seat kept.mover) (by_mover (mover_take kept.mover.local message))
mover_takes image kept a id message made is at =
    take_is image kept id message (mover_seat kept.mover) (in_flight kept id message is.found) (subst (λ (b : ℕ). slice_get (machine_of kept).seats b ≡ Some (mover_seat kept.mover)) (sym is.to) (mover_sits kept a at)) (row_there image kept a id message (mover_seat kept.mover) made is (mover_sits kept a at))

pub mover_take_room : (image : ImageState) (kept : KeptMachine) (a : ℕ) (id : MsgId) (message : Msg Kind) → IsMade image kept → kept.events < 2 ^ 55 → IsFound kept a id message → a ≡ length kept.nodes →
    HaveRoom message.to kept.mover.next (mover_take kept.mover.local message).letters (left_after (Some message) kept.flight)
mover_take_room image kept a id message made young is at = have_room image kept (Take message.to id) message.to (Some message) (mover_seat kept.mover) (by_mover (mover_take kept.mover.local message)) made young (mover_takes image kept a id message made is at)

pub mover_took : (image : ImageState) (kept : KeptMachine) (a : ℕ) (id : MsgId) (message : Msg Kind) (y : Seat MoverState) (flight : Flying Kind) (event : Event Note) (ready : ℕ) (last : Bool) → IsMade image kept → found_for a id kept.flight.messages ≡ Some message → a ≡ length kept.nodes →
    Moves message.to (Some message) (by_mover (mover_take kept.mover.local message)) (mover_seat kept.mover) (mover_seat y) (left_after (Some message) kept.flight) flight event → ready ≡ kept.ready → last ≡ has_act y.local.job →
    Stepped image kept (Take a id) (record kept { mover = y; flight = flight; events = kept.events + 1; ready = ready; mover_ready = last }) event
mover_took image kept a id message y flight event ready last made found at moves ready_is last_is =
    let is : IsFound kept a id message = is_found kept a id message found in
    let new : KeptMachine = record kept { mover = y; flight = flight; events = kept.events + 1; ready = ready; mover_ready = last } in
    let outcome = by_mover (mover_take kept.mover.local message) in
    let move : IsMove image kept (Take message.to id) message.to (Some message) (mover_seat kept.mover) outcome = mover_takes image kept a id message made is at in
    let after : IsAfter kept message.to (Some message) outcome (mover_seat kept.mover) event new = record {
      seat = mover_seat y;
      moves = moves;
      settings = refl;
      seats = sym (seats_set_end node_seat kept.nodes (mover_seat kept.mover) (mover_seat y) message.to (is.to ∙ at));
      events = refl;
    } in
    record {
      free = take_free image kept a id message (mover_seat kept.mover) found (mover_sits kept a at);
      step = subst (λ (b : ℕ). world_step (rules (setup_in image kept)) (machine_of kept) (Take b id) ≡ Some (machine_of new, event)) is.to (step_is image kept (Take message.to id) message.to (Some message) (mover_seat kept.mover) outcome event new move after);
      made = stays_made image kept (Take message.to id) message.to (Some message) (mover_seat kept.mover) outcome event new made move after (subst (λ (word : ℕ). AreMarked image kept.nodes word kept.running) (sym ready_is) made.2.marks) last_is;
    }

-- ---- in the code's own terms

take_refused_by : (image : ImageState) (kept : KeptMachine) (a : ℕ) (id : MsgId) (x : Seat ActorState) → slice_get (machine_of kept).seats a ≡ Some x → found_for a id kept.flight.messages ≡ None → Some NoMessage ≡ refusal_of (setup_in image kept) (machine_of kept) (Take a id)
unfolding machine_of
take_refused_by image kept a id x there none = sym (take_refused (setup_in image kept) (machine_of kept) a id x there ∙ ap refusal_for none)

-- the actor finds no such message
pub not_found : (image : ImageState) (kept old : KeptMachine) (actor : ℕ) (id : MsgId) (shown : Flying Kind) → kept ≡ old → actor ≤ length old.nodes → shown ≡ kept.flight → found_for actor id shown.messages ≡ None →
    Some NoMessage ≡ refusal_of (setup_in image old) (machine_of old) (Take actor id)
not_found image kept old actor id shown is le shown_is none =
    subst (λ (m : KeptMachine). Some NoMessage ≡ refusal_of (setup_in image m) (machine_of m) (Take actor id)) is
    (let le_kept : actor ≤ length kept.nodes = subst (λ (m : KeptMachine). actor ≤ length m.nodes) (sym is) le in
    let x = someone_sits kept actor le_kept in
    take_refused_by image kept actor id x.0 x.1 (ap (λ (f : Flying Kind). found_for actor id f.messages) (sym shown_is) ∙ none))

-- a place at which a message is found
pub inside_flight : (shown flight : Flying Kind) (k : ℕ) → shown ≡ flight → k < length shown.messages → k < length flight.messages
inside_flight shown flight k is lt = subst (λ (f : Flying Kind). k < length f.messages) is lt

-- the message at the place where it was found
pub found_at : (actor : ℕ) (id : MsgId) (shown flight : Flying Kind) (k : ℕ) (message : Msg Kind) → shown ≡ flight → slice_get shown.messages k ≡ found_for actor id shown.messages → slice_get flight.messages k ≡ Some message → found_for actor id flight.messages ≡ Some message
found_at actor id shown flight k message is found there =
    sym (subst (λ (f : Flying Kind). slice_get f.messages k ≡ found_for actor id f.messages) is found) ∙ there

-- what the take of a message by a node needs
pub record NodeMayTake (image : ImageState) (kept : KeptMachine) (message : Msg Kind) (seat : Seat KeptNode) : Type 0 where
  pub row : HasRow (node_of seat.local) message
  pub sound : IsSound image seat.local.processor
  pub low : IsLowProcessor seat.local.processor
  pub low_message : IsLowKind message.kind
  pub few : (node_of seat.local).home.rules.nodes ≤ 128
  pub young : (seat.clock < 2 ^ 63) × (message.stamp.clock < 2 ^ 63)
  pub room : HaveRoom message.to seat.next (node_take image (node_of seat.local) message).letters (left_after (Some message) kept.flight)

pub node_may_take : (image : ImageState) (kept old : KeptMachine) (at actor : ℕ) (id : MsgId) (message : Msg Kind) (seat : Seat KeptNode) → kept ≡ old → IsMade image old → old.events < 2 ^ 55 → at ≡ actor → actor < length old.nodes →
    found_for actor id kept.flight.messages ≡ Some message → seat ≡ get_or kept.nodes at seat → NodeMayTake image kept message seat
node_may_take image kept old at actor id message seat is made young at_is lt here read =
    let there : slice_get kept.nodes at ≡ Some seat = node_there kept old at actor seat is at_is lt read in
    let m : IsMade image kept = made_as image kept old is made in
    let y : kept.events < 2 ^ 55 = young_as kept old is young in
    let f : IsFound kept at id message = is_found kept at id message (subst (λ (a : ℕ). found_for a id kept.flight.messages ≡ Some message) (sym at_is) here) in
    record {
      row = node_row image kept at id message seat m f there;
      sound = node_is_sound image kept at seat m there;
      low = node_is_low image kept at seat m y there;
      low_message = message_is_low image kept at id message m y f;
      few = node_has_few image kept at seat m there;
      young = (node_is_young image kept at seat m y there, message_is_young image kept at id message m y f);
      room = node_take_room image kept at id message seat m y f there;
    }

pub node_took_as : (image : ImageState) (kept old : KeptMachine) (at actor : ℕ) (id : MsgId) (message : Msg Kind) (seat y : Seat KeptNode) (left : Flying Kind) (sent marked : Offer Kind) (event : Event Note) (running : ℕ) → kept ≡ old → IsMade image old → at ≡ actor → actor < length old.nodes →
    found_for actor id kept.flight.messages ≡ Some message → left ≡ left_after (Some message) kept.flight → seat ≡ get_or kept.nodes at seat →
    Moves message.to (Some message) (by_node (node_take image (node_of seat.local) message)) (node_seat seat) (node_seat y) left sent.flight event → sent.last ≡ kept.mover_ready → marked ≡ record sent { ready = marked.ready } → AreMarked image (slice_set kept.nodes at y) marked.ready running →
    Stepped image old (Take actor id) (record kept { nodes = slice_set kept.nodes at y; flight = marked.flight; events = kept.events + 1; ready = marked.ready; mover_ready = marked.last; running = running }) event
node_took_as image kept old at actor id message seat y left sent marked event running is made at_is lt here rest read moves last_is mark_is marks =
    let there : slice_get kept.nodes at ≡ Some seat = node_there kept old at actor seat is at_is lt read in
    let moved : Moves message.to (Some message) (by_node (node_take image (node_of seat.local) message)) (node_seat seat) (node_seat y) left marked.flight event =
    subst (λ (f : Flying Kind). Moves message.to (Some message) (by_node (node_take image (node_of seat.local) message)) (node_seat seat) (node_seat y) left f event) (sym (ap (λ (o : Offer Kind). o.flight) mark_is)) moves in
    stepped_as image kept old (Take at id) (Take actor id) (record kept { nodes = slice_set kept.nodes at y; flight = marked.flight; events = kept.events + 1; ready = marked.ready; mover_ready = marked.last; running = running }) event is (ap (λ (a : ℕ). Take a id) at_is)
    (node_took image kept at id message seat y marked.flight event marked.ready running marked.last (made_as image kept old is made) (subst (λ (a : ℕ). found_for a id kept.flight.messages ≡ Some message) (sym at_is) here) there
    (subst (λ (f : Flying Kind). Moves message.to (Some message) (by_node (node_take image (node_of seat.local) message)) (node_seat seat) (node_seat y) f marked.flight event) rest moved) marks (ap (λ (o : Offer Kind). o.last) mark_is ∙ last_is))

-- what the take of a message by the mover needs
pub record MoverMayTake (kept : KeptMachine) (message : Msg Kind) : Type 0 where
  pub row : IsTrue (has_table_row kept.mover.local message)
  pub young : (kept.mover.clock < 2 ^ 63) × (message.stamp.clock < 2 ^ 63)
  pub room : HaveRoom message.to kept.mover.next (mover_take kept.mover.local message).letters (left_after (Some message) kept.flight)

pub mover_may_take : (image : ImageState) (kept old : KeptMachine) (actor : ℕ) (id : MsgId) (message : Msg Kind) → kept ≡ old → IsMade image old → old.events < 2 ^ 55 → actor ≡ length old.nodes →
    found_for actor id kept.flight.messages ≡ Some message → MoverMayTake kept message
mover_may_take image kept old actor id message is made young at found =
    let here : actor ≡ length kept.nodes = subst (λ (m : KeptMachine). actor ≡ length m.nodes) (sym is) at in
    let m : IsMade image kept = made_as image kept old is made in
    let y : kept.events < 2 ^ 55 = young_as kept old is young in
    let f : IsFound kept actor id message = is_found kept actor id message found in
    record {
      row = mover_row image kept actor id message m f here;
      young = (mover_is_young image kept m y, message_is_young image kept actor id message m y f);
      room = mover_take_room image kept actor id message m y f here;
    }

pub mover_took_as : (image : ImageState) (kept old : KeptMachine) (actor : ℕ) (id : MsgId) (message : Msg Kind) (y : Seat MoverState) (left : Flying Kind) (sent marked : Offer Kind) (event : Event Note) (can : Bool) → kept ≡ old → IsMade image old → actor ≡ length old.nodes →
    found_for actor id kept.flight.messages ≡ Some message → left ≡ left_after (Some message) kept.flight →
    Moves message.to (Some message) (by_mover (mover_take kept.mover.local message)) (mover_seat kept.mover) (mover_seat y) left sent.flight event → sent.ready ≡ kept.ready → marked ≡ record sent { last = can } → can ≡ has_act y.local.job →
    Stepped image old (Take actor id) (record kept { mover = y; flight = marked.flight; events = kept.events + 1; ready = marked.ready; mover_ready = marked.last }) event
mover_took_as image kept old actor id message y left sent marked event can is made at here rest moves ready_is mark_is can_is =
    let there : actor ≡ length kept.nodes = subst (λ (m : KeptMachine). actor ≡ length m.nodes) (sym is) at in
    let moved : Moves message.to (Some message) (by_mover (mover_take kept.mover.local message)) (mover_seat kept.mover) (mover_seat y) left marked.flight event =
    subst (λ (f : Flying Kind). Moves message.to (Some message) (by_mover (mover_take kept.mover.local message)) (mover_seat kept.mover) (mover_seat y) left f event) (sym (ap (λ (o : Offer Kind). o.flight) mark_is)) moves in
    stepped_as image kept old (Take actor id) (Take actor id) (record kept { mover = y; flight = marked.flight; events = kept.events + 1; ready = marked.ready; mover_ready = marked.last }) event is refl
    (mover_took image kept actor id message y marked.flight event marked.ready marked.last (made_as image kept old is made) here there
    (subst (λ (f : Flying Kind). Moves message.to (Some message) (by_mover (mover_take kept.mover.local message)) (mover_seat kept.mover) (mover_seat y) f marked.flight event) rest moved)
    (ap (λ (o : Offer Kind). o.ready) mark_is ∙ ready_is) (ap (λ (o : Offer Kind). o.last) mark_is ∙ can_is))

pub nobody_takes : (image : ImageState) (old : KeptMachine) (actor : ℕ) (id : MsgId) → length old.nodes < actor → Some NoActor ≡ refusal_of (setup_in image old) (machine_of old) (Take actor id)
nobody_takes image old actor id lt = sym (no_actor_takes (setup_in image old) (machine_of old) actor id (nobody_sits old actor lt))
