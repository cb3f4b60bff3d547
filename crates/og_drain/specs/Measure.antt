-- The measure of a machine: a number that falls with each event of a stopped machine. Each message in flight has a weight by its kind,
-- each actor has something left by what it still has to do, and the measure is the sum of both. No cache, entry, slot or clock is looked at,
-- nor the order of the messages. All is of a machine of so many nodes.
use Rattle.std.specs.Prelude.{ℕ, ◌+◌, ◌*◌, ◌-◌, Option, None, Some, List}
use Rattle.std.specs.List.{sum_by}
use Rattle.og_base.specs.declared.Frame.{Frame}
use Rattle.og_runs.specs.declared.Letter.{Letter}
use Rattle.og_runs.specs.declared.Msg.{Msg}
use Rattle.og_runs.specs.declared.Seat.{Seat}
use Rattle.og_msg.specs.declared.Kind.{Kind}
use Rattle.og_msg.specs.declared.Kind.TheVariants.{WriteBack, Nak, InterveneShared, InterveneEx, IntervenePoison, Invalidate, PoisonBack, PoisonClean, PoisonRead, CopyIn, CleanFrame, Hot, Walk, DropFrame}
use Rattle.og_processor.specs.State.{ProcessorState}
use Rattle.og_mover.specs.declared.Phase.{Phase}
use Rattle.og_mover.specs.declared.Phase.TheVariants.{Ask, Collect, Hold, Wait, Publish}
use Rattle.og_mover.specs.declared.Clearing.{Clearing}
use Rattle.og_mover.specs.declared.Clearing.TheVariants.{Tell, Gather, Clean, Cleaning}
use Rattle.og_mover.specs.declared.Job.{Job}
use Rattle.og_mover.specs.declared.Job.TheVariants.{Idle, Move, Reclaim}
use Rattle.og_machine.specs.Machine.{ActorState, Node, Mover, Machine}

-- the greatest weight, which is a notice's: a move of a page may begin with it
abbrev pub most : (nodes : ℕ) → ℕ
most nodes = 64 * (nodes + 4)

-- the weight of a message by its kind
abbrev pub weight : (nodes : ℕ) → Kind → ℕ
weight nodes (Hot hot) = most nodes
weight nodes (Nak b) = 2 * nodes + 4
weight nodes (PoisonRead b) = 2 * nodes + 2
weight nodes (WriteBack b l) = 3
weight nodes (InterveneShared b r) = 3
weight nodes (InterveneEx b r) = 3
weight nodes (IntervenePoison b) = 3
weight nodes (PoisonBack b l) = 2
weight nodes (PoisonClean b) = 2
weight nodes (Invalidate b r) = 2
weight nodes (CopyIn b l) = 2
weight nodes (CleanFrame f) = 2
weight nodes (DropFrame f) = 2
weight nodes (Walk page) = 2
weight nodes kind = 1

-- the weights of letters, and of messages
abbrev pub letters_weight : (nodes : ℕ) → List (Letter Kind) → ℕ
letters_weight nodes letters = sum_by (λ (letter : Letter Kind). weight nodes letter.kind) letters

abbrev pub messages_weight : (nodes : ℕ) → List (Msg Kind) → ℕ
messages_weight nodes messages = sum_by (λ (message : Msg Kind). weight nodes message.kind) messages

-- ------------------------------------------------------------ what an actor has left

-- a move with so many blocks still to be copied: 2 * nodes + 6 for each of them, and 1 for the publication
abbrev pub rest : (nodes blocks : ℕ) → ℕ
rest nodes blocks = (2 * nodes + 6) * blocks + 1

abbrev pub phase_left : (nodes : ℕ) → Phase → ℕ
phase_left nodes (Ask b) = rest nodes (32 - b)
phase_left nodes (Collect b received) = rest nodes (31 - b) + 3
phase_left nodes (Hold b line) = rest nodes (31 - b) + 3
phase_left nodes (Wait b) = rest nodes (31 - b)
phase_left nodes Publish = 1

abbrev pub clearing_left : (nodes : ℕ) → Clearing → ℕ
clearing_left nodes Tell = 2 * nodes + 5
clearing_left nodes Gather = 4
clearing_left nodes Clean = 4
clearing_left nodes Cleaning = 1

-- what is left of the mover's job
abbrev pub job_left : (nodes : ℕ) → Job → ℕ
job_left nodes Idle = 0
job_left nodes (Move route phase) = phase_left nodes phase
job_left nodes (Reclaim frame step) = clearing_left nodes step

abbrev pub held_left : Option Frame → ℕ
held_left None = 0
held_left (Some frame) = 1

-- a processor may hold a request to drop a frame
abbrev pub drop_left : ProcessorState → ℕ
drop_left x = held_left x.drop

abbrev pub actor_left : (nodes : ℕ) → ActorState → ℕ
actor_left nodes (Node x) = drop_left x.processor
actor_left nodes (Mover m) = job_left nodes m.job

abbrev pub seats_left : (nodes : ℕ) → List (Seat ActorState) → ℕ
seats_left nodes seats = sum_by (λ (seat : Seat ActorState). actor_left nodes seat.local) seats

-- ------------------------------------------------------------ the measure

unfoldable pub measure : (nodes : ℕ) → Machine → ℕ
measure nodes w = messages_weight nodes w.flight + seats_left nodes w.seats
