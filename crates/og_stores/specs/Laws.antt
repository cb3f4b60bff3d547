-- No line has seen more stores than there were events.
use Rattle.std.specs.Prelude.{◌≡◌, ℕ, ◌<◌, ◌^◌, true, Some, List, length, slice_get}
use Rattle.og_runs.specs.declared.Choice.{Choice}
use Rattle.og_runs.specs.declared.Event.{Event}
use Rattle.og_runs.specs.declared.MsgId.{MsgId}
use Rattle.og_runs.specs.declared.Msg.{Msg}
use Rattle.og_runs.specs.declared.Seat.{Seat}
use Rattle.og_runs.specs.World.{WorldRun, find}
use Rattle.og_msg.specs.declared.Kind.{Kind}
use Rattle.og_msg.specs.declared.Note.{Note}
use Rattle.og_msg.specs.Kinds.{line_of as message_line}
use Rattle.og_node.specs.Node.{NodeState}
use Rattle.og_processor.specs.Sound.{IsLowProcessor, IsLowKind}
use Rattle.og_mover.specs.Table.{is_low_line}
use Rattle.og_machine.specs.Machine.{Setup, ActorState, Node, Machine, rules, start_machine}
use Rattle.og_stores.specs.Stores.{FewInMachine}

-- the choices lead from the start to w, with these events
abbrev pub RunsTo : Setup → List Choice → Machine → List (Event Note) → Type 0
RunsTo setup choices w events = WorldRun (rules setup) (start_machine setup) choices w events

-- no line, wherever it is held, has seen more stores than there were events
abbrev pub StoresAreBounded : Type 0
StoresAreBounded =
    (setup : Setup) (choices : List Choice) (w : Machine) (events : List (Event Note))
    → RunsTo setup choices w events
    → FewInMachine (length choices) w

-- the lines on which processors work, and those that they are sent, are such as their calls need
pub record AreLow (w : Machine) : Type 0 where
  pub processors : (q : ℕ) (seat : Seat ActorState) (x : NodeState) → slice_get w.seats q ≡ Some seat → seat.local ≡ Node x → IsLowProcessor x.processor
  pub messages : (id : MsgId) (message : Msg Kind) → find id w.flight ≡ Some message → IsLowKind message.kind

-- so they are after fewer than 2 ^ 63 events
abbrev pub LinesAreLow : Type 0
LinesAreLow =
    (setup : Setup) (choices : List Choice) (w : Machine) (events : List (Event Note))
    → RunsTo setup choices w events → length choices < 2 ^ 63
    → AreLow w

-- and after fewer than 2 ^ 55 events no message is refused by the mover for its line's number of stores
abbrev pub SentLinesAreLow : Type 0
SentLinesAreLow =
    (setup : Setup) (choices : List Choice) (w : Machine) (events : List (Event Note)) (id : MsgId) (message : Msg Kind)
    → RunsTo setup choices w events → length choices < 2 ^ 55 → find id w.flight ≡ Some message
    → is_low_line (message_line message.kind) ≡ true
