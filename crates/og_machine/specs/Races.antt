-- Worked examples of races for one block: each begins in a machine in which the block's home is node 0, and the nodes are at
-- an access of it, or have their copies.
use Rattle.std.specs.Prelude.{◌≡◌, ℕ, Bool, true, false, Option, None, Some, List, [], ◌∷◌, ◌++◌, map, replicate, slice_get, slice_set}
use Rattle.std.proofs.Common.{refl}
use Rattle.std.specs.Option.{option_map}
use Rattle.std.specs.FinSet as set
use Rattle.og_base.specs.declared.Frame.{Frame}
use Rattle.og_base.specs.declared.Block.{Block}
use Rattle.og_line.specs.declared.Line.{Line}
use Rattle.og_line.specs.declared.Mode.{Mode}
use Rattle.og_line.specs.declared.Mode.TheVariants as mode
use Rattle.og_line.specs.declared.Access.TheVariants.{Load, Store}
use Rattle.og_line.specs.Line.{zero_line, load_of, store_of}
use Rattle.og_runs.specs.declared.Choice.{Choice}
use Rattle.og_runs.specs.declared.Choice.TheVariants.{Act}
use Rattle.og_runs.specs.declared.Event.{Event}
use Rattle.og_runs.specs.declared.Seat.{Seat}
use Rattle.og_msg.specs.declared.Kind.{Kind}
use Rattle.og_msg.specs.declared.Kind.TheVariants.{Read, ReadEx, SharedReply, SpecReply, ExclusiveReply, UpgradeReply, Nak, WbAck, WbBusyAck, InterveneShared, Invalidate, InvalAck, SharedResponse, SharingWriteBack, DirtyTransfer}
use Rattle.og_msg.specs.declared.Note.{Note}
use Rattle.og_msg.specs.declared.Note.TheVariants.{Access}
use Rattle.og_cache.specs.declared.CachedBlock.{CachedBlock}
use Rattle.og_cache.specs.Cache.{mode_of}
use Rattle.og_victim.specs.Slot.{is_free_slot}
use Rattle.og_directory.specs.declared.entry.State.{State}
use Rattle.og_directory.specs.declared.entry.State.TheVariants.{Unowned, Shared, Exclusive, BusyShared, BusyExclusive}
use Rattle.og_directory.specs.Table.{Groups, with_node}
use Rattle.og_home.specs.Home.{with_block}
use Rattle.rv_hart.specs.Hart.{HartState}
use Rattle.og_processor.specs.State.{ProcessorState, new_processor}
use Rattle.og_node.specs.Node.{NodeState, new_node}
use Rattle.og_mover.specs.Table.{first_mover}
use Rattle.og_machine.specs.Machine.{Setup, ActorState, Node, Mover, Machine, new_seat}
use Rattle.og_machine.specs.Scenes.{setting, small_settings, take, after, events}

-- ------------------------------------------------------------ the machines

-- lw a2,0(a1); sw a2,0(a1); lw a3,128(a1): a load and a store of the block, and a load of the next one
abbrev pub words : List ℕ
words = 0x0005a603 ∷ 0x00c5a023 ∷ 0x0805a683 ∷ []

-- a machine of two nodes, and one of three
abbrev pub two : Setup
two = setting words (small_settings 2 refl refl refl)

abbrev pub three : Setup
three = setting words (small_settings 3 refl refl refl)

abbrev pub frame : Frame
frame = record { home = 0; index = 0 }

abbrev pub block : Block
block = record { frame = frame; number = 0 }

-- the line with 42 as its first word, after one store
abbrev pub stored : Line
stored = store_of zero_line 0 4 42

-- where a hart is: at the load, at the store, or at the load of the next block
abbrev pub at_load : ℕ
at_load = 0x10000

abbrev pub at_store : ℕ
at_store = 0x10004

abbrev pub at_next : ℕ
at_next = 0x10008

-- the address of the data page is in x11, and 42 in x12
abbrev pub hart_at : (pc : ℕ) → HartState
hart_at pc = record { regs = slice_set (slice_set (replicate 32 0) 11 0x100000) 12 42; pc = pc; left = 9; cause = None }

-- no copy, or one in this mode with this line
abbrev pub nothing : Option CachedBlock
nothing = None

abbrev pub copy : Mode → Line → Option CachedBlock
copy mode line = Some (record { block = block; mode = mode; line = line })

-- a processor whose hart is there, with this copy; its TLB has the page
abbrev pub processor_at : Setup → (number pc : ℕ) → Option CachedBlock → ProcessorState
processor_at setup number pc held = record (new_processor setup.image setup.settings number) {
  hart = hart_at pc;
  cache = record { sets = 1; ways = 1; places = held ∷ []; next = 0 ∷ [] };
  tlb = record { slots = Some (record { page = record { 0 = 0x100 }; frame = frame }) ∷ []; next = 0 };
}

abbrev pub node_at : Setup → (number pc : ℕ) → Option CachedBlock → NodeState
node_at setup number pc held =
    record (new_node setup.image setup.layout setup.settings number) { processor = processor_at setup number pc held }

abbrev pub with_entry : NodeState → State → NodeState
with_entry x entry = record x { home = with_block x.home 0 0 entry zero_line }

-- node 0, the block's home, with the block's entry; memory is zero
abbrev pub home_at : Setup → State → (pc : ℕ) → Option CachedBlock → NodeState
home_at setup entry pc held = with_entry (node_at setup 0 pc held) entry

-- these nodes and an idle mover; no message is in flight
abbrev pub machine : Setup → List NodeState → Machine
machine setup all = record {
  seats = map (λ x. new_seat (Node x)) all ++ new_seat (Mover (first_mover setup.layout setup.settings)) ∷ [];
  flight = [];
}

-- ------------------------------------------------------------ what is seen

-- a message in flight
pub record Sent : Type 0 where
  pub sender : ℕ
  pub number : ℕ
  pub to : ℕ
  pub kind : Kind

-- the block's entry and the first word at home; the mode of each node's copy, and whether its victim slot is free; and the
-- messages in flight, by receiver, then sender, then number
pub record Seen : Type 0 where
  pub entry : Option State
  pub word : Option ℕ
  pub copies : List (Option Mode)
  pub free : List Bool
  pub flight : List Sent

abbrev pub entry_at : ActorState → Option State
entry_at (Node x) = Some (x.home.entry 0 0)
entry_at (Mover m) = None

abbrev pub word_at : ActorState → Option ℕ
word_at (Node x) = Some (load_of (x.home.line 0 0) 0 4)
word_at (Mover m) = None

abbrev pub at_home : {X : Type 0} → (ActorState → Option X) → Option (Seat ActorState) → Option X
at_home f None = None
at_home f (Some x) = f x.local

abbrev pub with_copy : ActorState → List (Option Mode) → List (Option Mode)
with_copy (Node x) copies = mode_of x.processor.cache block ∷ copies
with_copy (Mover m) copies = copies

abbrev pub copies_of : List (Seat ActorState) → List (Option Mode)
copies_of [] = []
copies_of (x ∷ xs) = with_copy x.local (copies_of xs)

abbrev pub with_slot : ActorState → List Bool → List Bool
with_slot (Node x) slots = is_free_slot x.processor.victim ∷ slots
with_slot (Mover m) slots = slots

abbrev pub slots_of : List (Seat ActorState) → List Bool
slots_of [] = []
slots_of (x ∷ xs) = with_slot x.local (slots_of xs)

abbrev pub sent : (sender number to : ℕ) → Kind → Sent
sent sender number to kind = record { sender = sender; number = number; to = to; kind = kind }

abbrev pub seen_in : Machine → Seen
seen_in w = record {
  entry = at_home entry_at (slice_get w.seats 0);
  word = at_home word_at (slice_get w.seats 0);
  copies = copies_of w.seats;
  free = slots_of w.seats;
  flight = map (λ m. sent m.id.sender m.id.seq m.to m.kind) w.flight;
}

-- what is seen after these choices
abbrev pub seen : Setup → Machine → List Choice → Option Seen
seen setup w choices = option_map seen_in (after setup w choices)

abbrev pub view : State → (word : ℕ) → List (Option Mode) → List Bool → List Sent → Option Seen
view entry word copies free flight = Some (record { entry = Some entry; word = Some word; copies = copies; free = free; flight = flight })

abbrev pub note_of : Event Note → Option Note
note_of event = event.note

abbrev pub noted_in : List (Event Note) → List (Option Note)
noted_in made = map note_of made

-- what the events of these choices note
abbrev pub notes : Setup → Machine → List Choice → Option (List (Option Note))
notes setup w choices = option_map noted_in (events setup w choices)

abbrev pub sharers : List ℕ → Groups
sharers ps = set.from_list ps

abbrev pub loads : ℕ → Option Note
loads value = Some (Access (Load 0x100000 4) value)

abbrev pub stores : Option Note
stores = Some (Access (Store 0x100000 4 42) 0)

-- ------------------------------------------------------------ a read meets a dirty owner

abbrev pub dirty : Machine
dirty = machine two (home_at two (Exclusive 0) at_next (copy mode.Dirty stored) ∷ node_at two 1 at_load nothing ∷ [])

abbrev pub asks_owner : List Choice
asks_owner = Act 1 ∷ take 0 1 0 ∷ []

abbrev pub owner_answers : List Choice
owner_answers = asks_owner ++ take 0 0 0 ∷ []

abbrev pub reader_loads : List Choice
reader_loads = owner_answers ++ take 1 0 1 ∷ take 1 0 2 ∷ take 0 0 3 ∷ []

-- the home asks the owner and sends its own line meanwhile; the owner shares; the reader waits for the owner's line, which it
-- loads from; the home has the line, too
pub record DirtyOwnerShares : Type 0 where
  pub asked : seen two dirty asks_owner ≡ view (BusyShared 0 1) 0 (Some mode.Dirty ∷ None ∷ []) (true ∷ true ∷ []) (sent 0 0 0 (InterveneShared block 1) ∷ sent 0 1 1 (SpecReply block zero_line) ∷ [])
  pub answered : seen two dirty owner_answers ≡ view (BusyShared 0 1) 0 (Some mode.Shared ∷ None ∷ []) (true ∷ true ∷ []) (sent 0 3 0 (SharingWriteBack block stored) ∷ sent 0 1 1 (SpecReply block zero_line) ∷ sent 0 2 1 (SharedResponse block stored) ∷ [])
  pub noted : notes two dirty reader_loads ≡ Some (None ∷ None ∷ None ∷ None ∷ loads 42 ∷ None ∷ [])
  pub shared : seen two dirty reader_loads ≡ view (Shared (sharers (1 ∷ 0 ∷ []))) 42 (Some mode.Shared ∷ Some mode.Shared ∷ []) (true ∷ true ∷ []) []

-- ------------------------------------------------------------ an invalidation overtakes a read's reply

abbrev pub one_sharer : Machine
one_sharer = machine two (home_at two (Shared (sharers (0 ∷ []))) at_store (copy mode.Shared zero_line) ∷ node_at two 1 at_load nothing ∷ [])

abbrev pub reply_overtaken : List Choice
reply_overtaken = Act 1 ∷ take 0 1 0 ∷ Act 0 ∷ take 0 0 1 ∷ []

abbrev pub reader_again : List Choice
reader_again = reply_overtaken ++ take 1 0 2 ∷ take 1 0 0 ∷ []

-- the reader acknowledges the invalidation, and may not use the reply that comes after it
pub record MarkedReadAsksAgain : Type 0 where
  pub sent_out : seen two one_sharer reply_overtaken ≡ view (Exclusive 0) 0 (Some mode.Shared ∷ None ∷ []) (true ∷ true ∷ []) (sent 0 3 0 (UpgradeReply block 1) ∷ sent 0 0 1 (SharedReply block zero_line) ∷ sent 0 2 1 (Invalidate block 0) ∷ [])
  pub noted : notes two one_sharer reader_again ≡ Some (None ∷ None ∷ None ∷ None ∷ None ∷ None ∷ [])
  pub again : seen two one_sharer reader_again ≡ view (Exclusive 0) 0 (Some mode.Shared ∷ None ∷ []) (true ∷ true ∷ []) (sent 0 3 0 (UpgradeReply block 1) ∷ sent 1 1 0 (InvalAck block) ∷ [])

-- ------------------------------------------------------------ an intervention overtakes the owner's own reply

abbrev pub unowned : Machine
unowned = machine two (home_at two Unowned at_load nothing ∷ node_at two 1 at_store nothing ∷ [])

abbrev pub both_asked : List Choice
both_asked = Act 1 ∷ take 0 1 0 ∷ Act 0 ∷ take 0 0 1 ∷ []

abbrev pub question_held : List Choice
question_held = both_asked ++ take 1 0 2 ∷ []

abbrev pub question_answered : List Choice
question_answered = question_held ++ take 1 0 0 ∷ []

-- it is held; the event in which the owner's store completes answers it, with the stored line
pub record InterventionIsHeld : Type 0 where
  pub asked : seen two unowned both_asked ≡ view (BusyShared 1 0) 0 (None ∷ None ∷ []) (true ∷ true ∷ []) (sent 0 3 0 (SpecReply block zero_line) ∷ sent 0 0 1 (ExclusiveReply block zero_line 0) ∷ sent 0 2 1 (InterveneShared block 0) ∷ [])
  pub held : seen two unowned question_held ≡ view (BusyShared 1 0) 0 (None ∷ None ∷ []) (true ∷ true ∷ []) (sent 0 3 0 (SpecReply block zero_line) ∷ sent 0 0 1 (ExclusiveReply block zero_line 0) ∷ [])
  pub answered : seen two unowned question_answered ≡ view (BusyShared 1 0) 0 (None ∷ Some mode.Shared ∷ []) (true ∷ true ∷ []) (sent 0 3 0 (SpecReply block zero_line) ∷ sent 1 1 0 (SharedResponse block stored) ∷ sent 1 2 0 (SharingWriteBack block stored) ∷ [])
  pub noted : notes two unowned question_answered ≡ Some (None ∷ None ∷ None ∷ None ∷ None ∷ stores ∷ [])

-- ------------------------------------------------------------ two upgrades

abbrev pub two_sharers : Machine
two_sharers = machine two (home_at two (Shared (sharers (1 ∷ 0 ∷ []))) at_store (copy mode.Shared zero_line) ∷ node_at two 1 at_store (copy mode.Shared zero_line) ∷ [])

abbrev pub upgrades : List Choice
upgrades = Act 0 ∷ Act 1 ∷ take 0 0 0 ∷ take 0 1 0 ∷ []

abbrev pub second_asks : List Choice
second_asks = upgrades ++ take 1 0 3 ∷ take 1 0 1 ∷ Act 1 ∷ []

-- the second is refused and drops its copy; it acknowledges, and asks for the only copy
pub record SecondUpgradeIsRefused : Type 0 where
  pub refused : seen two two_sharers upgrades ≡ view (Exclusive 0) 0 (Some mode.Shared ∷ Some mode.Shared ∷ []) (true ∷ true ∷ []) (sent 0 2 0 (UpgradeReply block 1) ∷ sent 0 1 1 (Invalidate block 0) ∷ sent 0 3 1 (Nak block) ∷ [])
  pub dropped : seen two two_sharers (upgrades ++ take 1 0 3 ∷ []) ≡ view (Exclusive 0) 0 (Some mode.Shared ∷ None ∷ []) (true ∷ true ∷ []) (sent 0 2 0 (UpgradeReply block 1) ∷ sent 0 1 1 (Invalidate block 0) ∷ [])
  pub asks : seen two two_sharers second_asks ≡ view (Exclusive 0) 0 (Some mode.Shared ∷ None ∷ []) (true ∷ true ∷ []) (sent 0 2 0 (UpgradeReply block 1) ∷ sent 1 1 0 (InvalAck block) ∷ sent 1 2 0 (ReadEx block) ∷ [])

-- ------------------------------------------------------------ a write-back crosses an intervention

abbrev pub evicting : Machine
evicting = machine three (home_at three (Exclusive 1) at_load nothing ∷ node_at three 1 at_next (copy mode.Dirty stored) ∷ node_at three 2 at_load nothing ∷ [])

-- the block after it, for which room is made
abbrev pub next_block : Block
next_block = record { frame = frame; number = 1 }

abbrev pub crossed : List Choice
crossed = Act 2 ∷ take 0 2 0 ∷ Act 1 ∷ take 0 1 0 ∷ []

abbrev pub left : List Sent
left = sent 1 1 0 (Read next_block) ∷ []

abbrev pub with_answers : List Sent
with_answers = sent 0 1 2 (SpecReply block zero_line) ∷ sent 0 2 2 (SharedResponse block stored) ∷ []

abbrev pub sharer_two : State
sharer_two = Shared (with_node 3 2 set.empty)

-- the write-back is the answer, and the slot is free when both the acknowledgement and the intervention have come, in either
-- order
pub record WriteBackAnswers : Type 0 where
  pub answered : seen three evicting crossed ≡ view sharer_two 42 (None ∷ None ∷ None ∷ []) (true ∷ false ∷ true ∷ []) (left ++ sent 0 0 1 (InterveneShared block 2) ∷ sent 0 3 1 (WbBusyAck block) ∷ with_answers)
  pub asked_first : seen three evicting (crossed ++ take 1 0 0 ∷ []) ≡ view sharer_two 42 (None ∷ None ∷ None ∷ []) (true ∷ false ∷ true ∷ []) (left ++ sent 0 3 1 (WbBusyAck block) ∷ with_answers)
  pub then_told : seen three evicting (crossed ++ take 1 0 0 ∷ take 1 0 3 ∷ []) ≡ view sharer_two 42 (None ∷ None ∷ None ∷ []) (true ∷ true ∷ true ∷ []) (left ++ with_answers)
  pub told_first : seen three evicting (crossed ++ take 1 0 3 ∷ []) ≡ view sharer_two 42 (None ∷ None ∷ None ∷ []) (true ∷ false ∷ true ∷ []) (left ++ sent 0 0 1 (InterveneShared block 2) ∷ with_answers)
  pub then_asked : seen three evicting (crossed ++ take 1 0 3 ∷ take 1 0 0 ∷ []) ≡ view sharer_two 42 (None ∷ None ∷ None ∷ []) (true ∷ true ∷ true ∷ []) (left ++ with_answers)

-- ------------------------------------------------------------ a new owner's write-back overtakes the old owner's transfer

abbrev pub taken_over : Machine
taken_over = machine three (home_at three (Exclusive 1) at_load nothing ∷ node_at three 1 at_load (copy mode.Dirty zero_line) ∷ node_at three 2 at_store nothing ∷ [])

abbrev pub new_owner : List Choice
new_owner = Act 2 ∷ take 0 2 0 ∷ take 1 0 0 ∷ take 2 0 1 ∷ take 2 1 0 ∷ Act 2 ∷ []

abbrev pub returned : List Choice
returned = new_owner ++ take 0 2 1 ∷ []

abbrev pub transferred : List Choice
transferred = returned ++ take 0 1 1 ∷ []

-- the home notes that the line is back, and the transfer leaves the block unowned
pub record LineReturnsFirst : Type 0 where
  pub noted : notes three taken_over new_owner ≡ Some (None ∷ None ∷ None ∷ None ∷ stores ∷ None ∷ [])
  pub back : seen three taken_over returned ≡ view (BusyExclusive 1 2 true) 42 (None ∷ None ∷ None ∷ []) (true ∷ true ∷ false ∷ []) (sent 1 1 0 (DirtyTransfer block) ∷ sent 2 2 0 (Read next_block) ∷ sent 0 2 2 (WbAck block) ∷ [])
  pub unowned : seen three taken_over transferred ≡ view Unowned 42 (None ∷ None ∷ None ∷ []) (true ∷ true ∷ false ∷ []) (sent 2 2 0 (Read next_block) ∷ sent 0 2 2 (WbAck block) ∷ [])

-- ------------------------------------------------------------ an owner that dropped its clean copy asks again

abbrev pub clean_gone : Machine
clean_gone = machine two (home_at two (Exclusive 1) at_load nothing ∷ node_at two 1 at_load nothing ∷ [])

pub record OwnerIsServedFromMemory : Type 0 where
  pub served : seen two clean_gone (Act 1 ∷ take 0 1 0 ∷ []) ≡ view (Exclusive 1) 0 (None ∷ None ∷ []) (true ∷ true ∷ []) (sent 0 0 1 (ExclusiveReply block zero_line 0) ∷ [])

-- ------------------------------------------------------------ a marked read is granted the only copy

abbrev pub sharer_gone : Machine
sharer_gone = machine two (home_at two (Shared (sharers (1 ∷ []))) at_store nothing ∷ node_at two 1 at_load nothing ∷ [])

abbrev pub invalidated : List Choice
invalidated = Act 1 ∷ Act 0 ∷ take 0 0 0 ∷ take 1 0 1 ∷ []

abbrev pub thrown_out : List Choice
thrown_out = invalidated ++ take 0 0 2 ∷ take 0 1 1 ∷ Act 0 ∷ take 0 0 3 ∷ []

abbrev pub granted : List Choice
granted = thrown_out ++ take 0 1 0 ∷ take 1 0 6 ∷ []

-- the grant was made after what the mark stands for, so it may be used: the load answers the stored word
pub record MarkedReadIsGranted : Type 0 where
  pub marked : seen two sharer_gone invalidated ≡ view (Exclusive 0) 0 (None ∷ None ∷ []) (true ∷ true ∷ []) (sent 0 2 0 (ExclusiveReply block zero_line 1) ∷ sent 1 0 0 (Read block) ∷ sent 1 1 0 (InvalAck block) ∷ [])
  pub back : seen two sharer_gone thrown_out ≡ view Unowned 42 (None ∷ None ∷ []) (false ∷ true ∷ []) (sent 0 4 0 (Read next_block) ∷ sent 0 5 0 (WbAck block) ∷ sent 1 0 0 (Read block) ∷ [])
  pub noted : notes two sharer_gone granted ≡ Some (None ∷ None ∷ None ∷ None ∷ None ∷ stores ∷ None ∷ None ∷ None ∷ loads 42 ∷ [])
  pub filled : seen two sharer_gone granted ≡ view (Exclusive 1) 42 (None ∷ Some mode.Clean ∷ []) (false ∷ true ∷ []) (sent 0 4 0 (Read next_block) ∷ sent 0 5 0 (WbAck block) ∷ [])
