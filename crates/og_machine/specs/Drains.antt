-- Worked examples of drains: a machine stands stopped in the midst of a move, of a reclaim, or of a race of a write-back; the
-- drain's events from there on, until it is quiet. A message is taken in the order of sending, by clock, sender and number, but
-- the mover's request for a block only where nothing else is in flight; then the mover acts.
use Rattle.std.specs.Prelude.{◌≡◌, ℕ, suc, Bool, true, false, ◌&&◌, nat_eq, nat_lt, Option, None, Some, List, [], ◌∷◌, ◌++◌, replicate, slice_set, if◌then◌else◌}
use Rattle.std.proofs.Common.{refl}
use Rattle.std.proofs.lemmas.Bool.{leb-true}
use Rattle.std.specs.Option.{option_map}
use Rattle.std.specs.FinSet as set
use Rattle.og_base.specs.Numbers.{below}
use Rattle.og_base.specs.declared.Block.{Block}
use Rattle.og_base.specs.declared.Cause.TheVariants.{Spent}
use Rattle.og_base.specs.declared.Frame.{Frame}
use Rattle.og_base.specs.declared.Reason.TheVariants.{Busy}
use Rattle.og_line.specs.declared.Line.{Line}
use Rattle.og_line.specs.declared.Mode.TheVariants.{Dirty}
use Rattle.og_runs.specs.declared.Choice.TheVariants.{Act}
use Rattle.og_runs.specs.declared.Event.{Event}
use Rattle.og_runs.specs.declared.Msg.{Msg}
use Rattle.og_runs.specs.declared.Seat.{Seat}
use Rattle.og_msg.specs.declared.Kind.{Kind}
use Rattle.og_msg.specs.declared.Kind.TheVariants.{WriteBack, DirtyTransfer, IntervenePoison, PoisonRead, DropFrame, Hot}
use Rattle.og_msg.specs.declared.Note.{Note}
use Rattle.og_msg.specs.declared.Note.TheVariants.{Begin, Moved, No, Freed}
use Rattle.og_msg.specs.declared.Note.TheVariants as note
use Rattle.og_cache.specs.declared.CachedBlock.{CachedBlock}
use Rattle.og_directory.specs.declared.entry.State.{State}
use Rattle.og_directory.specs.declared.entry.State.TheVariants.{Unowned, Shared, Exclusive, BusyExclusive, BusyPoison, Poison}
use Rattle.og_victim.specs.declared.Slot.{Slot}
use Rattle.og_victim.specs.declared.Slot.TheVariants.{Free, Taken}
use Rattle.og_node.specs.Node.{NodeState}
use Rattle.og_pager.specs.PageTable.{PageTable, first_table, walked, begun, settled}
use Rattle.og_mover.specs.declared.Clearing.TheVariants.{Gather}
use Rattle.og_mover.specs.declared.Job.{Job}
use Rattle.og_mover.specs.declared.Job.TheVariants.{Move, Reclaim}
use Rattle.og_mover.specs.declared.Phase.TheVariants.{Collect}
use Rattle.og_mover.specs.declared.Route.{Route}
use Rattle.og_machine.specs.Machine.{Setup, ActorState, Node, Mover, Machine, start_machine, is_stopped, is_quiet}
use Rattle.og_machine.specs.Choices.{drain_of, drawn_from}
use Rattle.og_machine.specs.Held.{held}
use Rattle.og_machine.specs.Scenes.{Stage, One, Drain, Made, eager_settings, take, played, noted, event}
use Rattle.og_machine.specs.Moves.{moving, before, store_of, page, old, new}
use Rattle.og_machine.specs.Races.{two, three, node_at, sharers, stored, nothing}

-- ------------------------------------------------------------ what is said

-- the machine after so many choices of the drain, with its events; none where there are fewer
abbrev pub drained : Setup → Machine → (count : ℕ) → Option Made
drained setup w count = played setup w (Drain count ∷ [])

-- the harts have stopped; the drain makes these events, so many; after them it has no choice, and the machine is quiet. So a
-- simulation that comes to the machine makes these events and ends, whatever number it draws from
pub record Drains (setup : Setup) (w : Machine) (count : ℕ) (all : List (Event Note)) : Type 0 where
  pub stopped : is_stopped w ≡ true
  pub events : option_map (λ m. m.1) (drained setup w count) ≡ Some all
  pub none_left : option_map (λ m. drain_of setup m.0) (drained setup w count) ≡ Some None
  pub quiet : option_map (λ m. is_quiet m.0) (drained setup w count) ≡ Some true
  pub simulated : (number k : ℕ) → (drawn_from setup number k (suc count) w).1 ≡ all

-- ------------------------------------------------------------ the machines

-- the last two blocks of the data page in its first frame
abbrev pub block_30 : Block
block_30 = record { frame = old; number = 30 }

abbrev pub block_31 : Block
block_31 = record { frame = old; number = 31 }

abbrev pub dirty : Block → Option CachedBlock
dirty block = Some (record { block = block; mode = Dirty; line = stored })

-- a node whose hart has no instructions left, with this copy and this victim slot
abbrev pub stopped_node : Setup → (number : ℕ) → Option CachedBlock → Slot → NodeState
stopped_node setup number held victim = record (node_at setup number 0 held) {
  processor = record (node_at setup number 0 held).processor {
    hart = record { regs = replicate 32 0; pc = 0x1000c; left = 0; cause = Some Spent };
    victim = victim;
  };
}

-- the node with these entries of its home
abbrev pub with_entries : NodeState → (ℕ → ℕ → State) → NodeState
with_entries x entries = record x { home = record x.home { entry = entries } }

-- of the old frame: its last two blocks have these entries, and the others are poisoned
abbrev pub last_two : State → State → ℕ → State
last_two entry_30 entry_31 k = if nat_lt k 30 then Poison else (if nat_eq k 30 then entry_30 else entry_31)

abbrev pub in_old : State → State → ℕ → ℕ → State
in_old entry_30 entry_31 index k = if nat_eq index 0 then last_two entry_30 entry_31 k else Unowned

abbrev pub node_seat : NodeState → (clock next : ℕ) → Seat ActorState
node_seat x clock next = record { local = Node x; clock = clock; next = next }

abbrev pub mover_seat : Setup → PageTable → Job → (clock next : ℕ) → Seat ActorState
mover_seat setup pages job clock next =
    record { local = Mover (record { pages = pages; job = job; settings = setup.settings }); clock = clock; next = next }

abbrev pub message : (sender number to clock : ℕ) → Kind → Msg Kind
message sender number to clock kind =
    record { id = record { sender = sender; seq = number }; to = to; stamp = record { clock = clock; actor = sender }; kind = kind }

-- these nodes were told where the page is
abbrev pub told : List ℕ → PageTable → PageTable
told [] t = t
told (node ∷ nodes) t = told nodes (walked t page node)

-- each node was told where the page is, and then its move to one of them began
abbrev pub pages_moving : Setup → (node : ℕ) → PageTable
pages_moving setup node = begun (told (below setup.settings.nodes) (first_table setup.layout 4)) page node

abbrev pub route_to : Frame → Route
route_to target = record { page = page; old = old; new = target }

-- the mover has asked for a block, and nothing has come yet
abbrev pub asking : Frame → (number : ℕ) → Job
asking target number = Move (route_to target) (Collect number (record { reply = None; acks = 0 }))

-- ------------------------------------------------------------ a whole move, from the start

-- as of the moves, but each hart has two instructions: it stores to block 3 once
abbrev pub few : Setup
few = record moving { settings = record eager_settings { instructions = 2; instructions_in_range = leb-true 2 1000000 refl } }

-- both harts have stored, and the move has begun; then they have no instructions left
abbrev pub until_stopped : List Stage
until_stopped = before ++ One (take 2 0 1) ∷ One (Act 0) ∷ One (Act 1) ∷ []

abbrev pub notes_of : List Stage → Option (List Note)
notes_of stages = option_map (λ m. noted m.1) (played few (start_machine few) stages)

abbrev pub tells : (Machine → Bool) → List Stage → Option Bool
tells f stages = option_map (λ m. f m.0) (played few (start_machine few) stages)

-- six events for a block, but eight for block 3, which node 0 has; and the page is published
pub record StartDrains : Type 0 where
  pub stopped : tells is_stopped until_stopped ≡ Some true
  pub quiet : tells is_quiet (until_stopped ++ Drain 195 ∷ []) ≡ Some true
  pub noted : notes_of (until_stopped ++ Drain 195 ∷ []) ≡ Some (store_of 1 ∷ store_of 0 ∷ Begin page old new ∷ note.Spent ∷ note.Spent ∷ Moved page old new ∷ [])

-- ------------------------------------------------------------ in the midst of a move

abbrev pub new_at_2 : Frame
new_at_2 = record { home = 2; index = 1 }

-- blocks 0 to 29 are moved. Node 1 has given block 30 to node 2, which stored to it; the mover's request for the block was sent
-- before node 1's word of that to the home. Node 1 shares block 31
abbrev pub in_move : Machine
in_move = record {
  seats = node_seat (with_entries (stopped_node three 0 nothing Free) (in_old (BusyExclusive 1 2 false) (Shared (sharers (1 ∷ []))))) 8 10
      ∷ node_seat (stopped_node three 1 nothing Free) 9 5
      ∷ node_seat (stopped_node three 2 (dirty block_30) Free) 11 4
      ∷ mover_seat three (pages_moving three 2) (asking new_at_2 30) 7 3
      ∷ [];
  flight = message 1 4 0 9 (DirtyTransfer block_30) ∷ message 3 2 0 7 (PoisonRead block_30) ∷ [];
}

-- the home hears of the transfer first, so the request isn't refused: the new owner gives the block up. Block 31 is asked for, and
-- its sharer drops it; the page is published
abbrev pub move_events : List (Event Note)
move_events =
    event (take 0 1 4) 10 0 None
    ∷ event (take 0 3 2) 11 0 None
    ∷ event (take 2 0 10) 12 2 None
    ∷ event (take 0 2 4) 13 0 None
    ∷ event (take 3 0 11) 14 3 None
    ∷ event (Act 3) 15 3 None
    ∷ event (take 2 3 3) 16 2 None
    ∷ event (take 3 2 5) 17 3 None
    ∷ event (Act 3) 18 3 None
    ∷ event (take 0 3 4) 19 0 None
    ∷ event (take 1 0 12) 20 1 None
    ∷ event (take 3 0 13) 20 3 None
    ∷ event (take 3 1 5) 21 3 None
    ∷ event (Act 3) 22 3 None
    ∷ event (take 2 3 5) 23 2 None
    ∷ event (take 3 2 6) 24 3 None
    ∷ event (Act 3) 25 3 (Some (Moved page old new_at_2))
    ∷ []

-- the line that the machine holds for a block of the page, after the drain
abbrev pub line_after : Setup → Machine → (count number : ℕ) → Option (Option Line)
line_after setup w count number = option_map (λ m. held m.0 page number) (drained setup w count)

pub record MoveDrains : Type 0 where
  pub drains : Drains three in_move 17 move_events
  pub line : line_after three in_move 17 30 ≡ Some (Some stored)

-- ------------------------------------------------------------ in the midst of a reclaim

-- a block of node 1's stack page
abbrev pub stack_block : Block
stack_block = record { frame = record { home = 0; index = 1 }; number = 31 }

-- all blocks of the old frame are poisoned, and node 1 had the block of its stack
abbrev pub reclaim_entries : ℕ → ℕ → State
reclaim_entries index k = if nat_eq index 1 && nat_eq k 31 then Exclusive 1 else in_old Poison Poison index k

-- the page was moved, and both nodes are holders of its old frame
abbrev pub pages_moved : PageTable
pages_moved = record (settled (pages_moving two 1)) { holders = slice_set (replicate 8 set.empty) 0 (set.from_list (0 ∷ 1 ∷ [])) }

-- a notice of the new frame is open
abbrev pub with_notice : NodeState → NodeState
with_notice x = record x { home = record x.home { counts = λ index. record { count = λ node. 0; noticed = nat_eq index 1 } } }

-- both holders were told to drop the old frame. Node 1 has sent a block of its stack back, and the notice of the new frame
abbrev pub in_reclaim : Machine
in_reclaim = record {
  seats = node_seat (with_entries (stopped_node two 0 nothing Free) reclaim_entries) 10 6
      ∷ node_seat (with_notice (stopped_node two 1 nothing (Taken stack_block false false))) 14 9
      ∷ mover_seat two pages_moved (Reclaim old Gather) 12 4
      ∷ [];
  flight = message 1 8 0 14 (WriteBack stack_block stored)
      ∷ message 2 2 0 12 (DropFrame old)
      ∷ message 2 3 1 12 (DropFrame old)
      ∷ message 1 7 2 13 (Hot (record { frame = new; node = 0; count = 1; most = 0 }))
      ∷ [];
}

-- node 0 drops the frame; node 1 holds the request, since its victim slot is taken; the notice is refused. The line is
-- acknowledged, and node 1 drops the frame then; the frame is cleaned
abbrev pub reclaim_events : List (Event Note)
reclaim_events =
    event (take 0 2 2) 13 0 None
    ∷ event (take 1 2 3) 15 1 None
    ∷ event (take 2 0 6) 14 2 None
    ∷ event (take 2 1 7) 15 2 (Some (No Busy new 0))
    ∷ event (take 0 1 8) 15 0 None
    ∷ event (take 1 0 7) 16 1 None
    ∷ event (take 1 2 4) 17 1 None
    ∷ event (take 2 1 9) 17 2 None
    ∷ event (Act 2) 18 2 None
    ∷ event (take 0 2 5) 19 0 None
    ∷ event (take 2 0 8) 20 2 (Some (Freed old))
    ∷ []

abbrev pub ReclaimDrains : Type 0
ReclaimDrains = Drains two in_reclaim 11 reclaim_events

-- ------------------------------------------------------------ in the midst of a write-back

-- block 31 is asked for. Its owner, node 1, is asked to give it up, and has sent it back before
abbrev pub in_write_back : Machine
in_write_back = record {
  seats = node_seat (with_entries (stopped_node two 0 nothing Free) (in_old Poison (BusyPoison 1))) 8 10
      ∷ node_seat (stopped_node two 1 nothing (Taken block_31 false false)) 6 5
      ∷ mover_seat two (pages_moving two 1) (asking new 31) 5 3
      ∷ [];
  flight = message 1 4 0 6 (WriteBack block_31 stored) ∷ message 0 9 1 8 (IntervenePoison block_31) ∷ [];
}

-- the line is the answer. The owner is asked before it is told so, and its slot is free before the mover acts
abbrev pub write_back_events : List (Event Note)
write_back_events =
    event (take 0 1 4) 9 0 None
    ∷ event (take 1 0 9) 9 1 None
    ∷ event (take 2 0 10) 10 2 None
    ∷ event (take 1 0 11) 10 1 None
    ∷ event (Act 2) 11 2 None
    ∷ event (take 1 2 3) 12 1 None
    ∷ event (take 2 1 5) 13 2 None
    ∷ event (Act 2) 14 2 (Some (Moved page old new))
    ∷ []

pub record WriteBackDrains : Type 0 where
  pub drains : Drains two in_write_back 8 write_back_events
  pub line : line_after two in_write_back 8 31 ≡ Some (Some stored)

-- ------------------------------------------------------------ a write-back behind a transfer

-- node 1 has given block 31 to node 2, which stored to it and has sent it back; the mover's request for the block was sent first
abbrev pub in_transfer : Machine
in_transfer = record {
  seats = node_seat (with_entries (stopped_node three 0 nothing Free) (in_old Poison (BusyExclusive 1 2 false))) 6 10
      ∷ node_seat (stopped_node three 1 nothing Free) 9 5
      ∷ node_seat (stopped_node three 2 nothing (Taken block_31 false false)) 12 8
      ∷ mover_seat three (pages_moving three 2) (asking new_at_2 31) 5 3
      ∷ [];
  flight = message 1 4 0 9 (DirtyTransfer block_31)
      ∷ message 2 7 0 12 (WriteBack block_31 stored)
      ∷ message 3 2 0 5 (PoisonRead block_31)
      ∷ [];
}

-- the transfer, the line, and its acknowledgement come first; the request finds the block unowned
abbrev pub transfer_events : List (Event Note)
transfer_events =
    event (take 0 1 4) 10 0 None
    ∷ event (take 0 2 7) 13 0 None
    ∷ event (take 2 0 10) 14 2 None
    ∷ event (take 0 3 2) 14 0 None
    ∷ event (take 3 0 11) 15 3 None
    ∷ event (Act 3) 16 3 None
    ∷ event (take 2 3 3) 17 2 None
    ∷ event (take 3 2 8) 18 3 None
    ∷ event (Act 3) 19 3 (Some (Moved page old new_at_2))
    ∷ []

pub record TransferDrains : Type 0 where
  pub drains : Drains three in_transfer 9 transfer_events
  pub line : line_after three in_transfer 9 31 ≡ Some (Some stored)
