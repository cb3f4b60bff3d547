-- A worked example of a page's move, from the start, while a hart stores to the page; and of the frame that it leaves, which is
-- freed when no other frame is free.
use Rattle.std.specs.Prelude.{◌≡◌, ℕ, ◌++◌, nat_eq, Option, None, Some, List, [], ◌∷◌, replicate, slice_get, slice_set, if◌then◌else◌}
use Rattle.std.specs.Option.{option_map}
use Rattle.std.specs.FinSet as set
use Rattle.og_base.specs.declared.Frame.{Frame}
use Rattle.og_base.specs.declared.VPage.{VPage}
use Rattle.og_base.specs.declared.Reason.TheVariants.{Full}
use Rattle.og_line.specs.declared.Access.TheVariants.{Store}
use Rattle.og_runs.specs.declared.Choice.{Choice}
use Rattle.og_runs.specs.declared.Choice.TheVariants.{Act}
use Rattle.og_runs.specs.declared.Msg.{Msg}
use Rattle.og_runs.specs.declared.Seat.{Seat}
use Rattle.og_msg.specs.declared.Kind.{Kind}
use Rattle.og_msg.specs.declared.Kind.TheVariants.{Hot}
use Rattle.og_msg.specs.declared.Note.{Note}
use Rattle.og_msg.specs.declared.Note.TheVariants.{Access, Begin, Moved, No, Freed}
use Rattle.og_directory.specs.declared.entry.State.{State}
use Rattle.og_directory.specs.declared.entry.State.TheVariants.{Unowned, Poison}
use Rattle.rv_hart.specs.Hart.{HartState}
use Rattle.og_node.specs.Node.{NodeState, new_node}
use Rattle.og_pager.specs.declared.Role.TheVariants.{Mapped, Quarantined}
use Rattle.og_pager.specs.PageTable.{PageTable, first_table}
use Rattle.og_mover.specs.declared.Job.TheVariants.{Idle}
use Rattle.og_machine.specs.Machine.{Setup, ActorState, Node, Mover, Machine, new_seat, start_machine}
use Rattle.og_machine.specs.Scenes.{setting, eager_settings, take, Stage, One, Drain, played, noted, after, events}

-- lui a1,256; then each hart stores its number to block 3 of the data page, again and again: sw a0,384(a1)
abbrev pub moving : Setup
moving = setting (0x001005b7 ∷ 0x18a5a023 ∷ 0x18a5a023 ∷ 0x18a5a023 ∷ 0x18a5a023 ∷ 0x18a5a023 ∷ []) eager_settings

-- node 1 gets the block and stores; its request is noticed. Node 0 gets the block from it and stores
abbrev pub before : List Stage
before =
    One (Act 1) ∷ One (Act 1) ∷ One (take 2 1 0) ∷ One (take 1 2 0) ∷ One (Act 1) ∷ One (take 0 1 1) ∷ One (take 1 0 0)
    ∷ One (Act 0) ∷ One (Act 0) ∷ One (take 2 0 2) ∷ One (take 0 2 1) ∷ One (Act 0) ∷ One (take 0 0 3) ∷ One (take 1 0 4) ∷ One (take 0 0 5) ∷ One (take 0 1 2) ∷ One (take 0 1 3)
    ∷ []

-- the move begins with the notice; blocks 0 to 2 are moved, with six events each; block 3 is asked for. Hart 0's store before that
-- is served hits, and the line is collected with it
abbrev pub hits : List Stage
hits = One (take 2 0 1) ∷ Drain 19 ∷ One (Act 0) ∷ Drain 7 ∷ []

-- its next store meets the poison; a walk is to be made again while the page moves
abbrev pub retries : List Stage
retries = One (Act 0) ∷ Drain 2 ∷ One (Act 0) ∷ Drain 2 ∷ One (Act 0) ∷ Drain 2 ∷ []

-- blocks 4 to 31 are moved, and the page is published
abbrev pub publishes : List Stage
publishes = Drain 169 ∷ []

-- the walk is answered with the new frame, and the store is made there; its request is noticed, but no frame of node 0 is free
abbrev pub stores : List Stage
stores = One (Act 0) ∷ Drain 2 ∷ One (Act 0) ∷ Drain 3 ∷ []

abbrev pub page : VPage
page = record { 0 = 0x100 }

abbrev pub old : Frame
old = record { home = 0; index = 0 }

abbrev pub new : Frame
new = record { home = 1; index = 1 }

abbrev pub store_of : (hart : ℕ) → Note
store_of hart = Access (Store 0x100180 4 hart) 0

-- what the events of these stages note, from the start
abbrev pub notes : List Stage → Option (List Note)
notes stages = option_map (λ m. noted m.1) (played moving (start_machine moving) stages)

-- up to the poison
abbrev pub first_notes : List Note
first_notes = store_of 1 ∷ store_of 0 ∷ Begin page old new ∷ store_of 0 ∷ []

pub record PageMoves : Type 0 where
  pub hit : notes (before ++ hits) ≡ Some first_notes
  pub poisoned : notes (before ++ (hits ++ retries)) ≡ Some first_notes
  pub moved : notes (before ++ (hits ++ (retries ++ (publishes ++ stores)))) ≡ Some (first_notes ++ Moved page old new ∷ store_of 0 ∷ No Full new 0 ∷ [])

-- ------------------------------------------------------------ the old frame is freed

-- the page was moved; its old frame, whose blocks are poisoned, is in quarantine, and both nodes were told of it. Node 1 is at
-- its store and has no translation; the notice of node 0 for the new frame is in flight
abbrev pub first_pages : PageTable
first_pages = first_table moving.layout 2

abbrev pub pages_after : PageTable
pages_after = record first_pages {
  table = new ∷ record { home = 1; index = 0 } ∷ record { home = 0; index = 1 } ∷ [];
  moves = 1 ∷ 0 ∷ 0 ∷ [];
  roles = Quarantined 0 ∷ Mapped 2 ∷ Mapped 1 ∷ Mapped 0 ∷ [];
  holders = set.from_list (0 ∷ 1 ∷ []) ∷ set.empty ∷ set.empty ∷ set.from_list (0 ∷ []) ∷ [];
  published = 1;
}

abbrev pub poisoned : ℕ → ℕ → State
poisoned index number = if nat_eq index 0 then Poison else Unowned

abbrev pub fresh : (number : ℕ) → NodeState
fresh number = new_node moving.image moving.layout moving.settings number

abbrev pub with_poison : NodeState → NodeState
with_poison x = record x { home = record x.home { entry = poisoned } }

abbrev pub hart_at_store : HartState
hart_at_store = record { regs = slice_set (slice_set (replicate 32 0) 10 1) 11 0x100000; pc = 0x10004; left = 9; cause = None }

abbrev pub at_store : NodeState → NodeState
at_store x = record x { processor = record x.processor { hart = hart_at_store } }

abbrev pub notice : Msg Kind
notice = record { id = record { sender = 1; seq = 0 }; to = 2; stamp = record { clock = 1; actor = 1 }; kind = Hot (record { frame = new; node = 0; count = 1; most = 0 }) }

abbrev pub quarantined : Machine
quarantined = record {
  seats = new_seat (Node (with_poison (fresh 0)))
      ∷ record { local = Node (at_store (fresh 1)); clock = 1; next = 1 }
      ∷ new_seat (Mover (record { pages = pages_after; job = Idle; settings = moving.settings }))
      ∷ [];
  flight = notice ∷ [];
}

-- no frame of node 0 is free: the home is told, and the frame in quarantine is reclaimed. Node 1 asks where the page is; the mover
-- tells both holders to drop the frame
abbrev pub told : List Choice
told = take 2 1 0 ∷ take 1 2 0 ∷ Act 1 ∷ Act 2 ∷ []

-- node 1 holds the request, since its walk is outstanding; node 0 answers at once
abbrev pub waits : List Choice
waits = told ++ take 1 2 2 ∷ take 0 2 1 ∷ []

-- node 1's walk is answered, and it drops the frame then; the frame is cleaned
abbrev pub cleaned : List Choice
cleaned = waits ++ take 2 1 1 ∷ take 1 2 3 ∷ take 2 0 0 ∷ take 2 1 2 ∷ Act 2 ∷ take 0 2 4 ∷ take 2 0 1 ∷ []

abbrev pub held_by : ActorState → Option Frame
held_by (Node x) = x.processor.drop
held_by (Mover m) = None

abbrev pub held_at : Option (Seat ActorState) → Option Frame
held_at None = None
held_at (Some x) = held_by x.local

-- the drop request that node 1 holds
abbrev pub held_in : Machine → Option Frame
held_in w = held_at (slice_get w.seats 1)

pub record FrameIsFreed : Type 0 where
  pub waiting : option_map held_in (after moving quarantined waits) ≡ Some (Some old)
  pub answered : option_map held_in (after moving quarantined cleaned) ≡ Some None
  pub noted : option_map noted (events moving quarantined cleaned) ≡ Some (No Full new 0 ∷ Freed old ∷ [])
