-- A node: a processor and a home part. What it does of itself is its processor's; a message is served by the one or the other,
-- by its kind.
use Rattle.std.specs.Prelude.{◌≡◌, ℕ, ◌<◌, ◌≤◌, Bool, true, false, MatchBool, Option, None, Some}
use Rattle.og_base.specs.declared.Block.{Block}
use Rattle.og_base.specs.declared.Frame.{Frame}
use Rattle.og_base.specs.declared.Settings.{Settings}
use Rattle.og_runs.specs.Runs.{Outcome}
use Rattle.og_runs.specs.declared.Msg.{Msg}
use Rattle.og_msg.specs.declared.Kind.{Kind}
use Rattle.og_msg.specs.declared.Kind.TheVariants.{Read, ReadEx, Upgrade, WriteBack, SharingWriteBack, SharingTransfer, DirtyTransfer, PoisonRead, PoisonBack, PoisonClean, CopyIn, CleanFrame, Rearm, InterveneShared, InterveneEx, Invalidate, Walked, DropFrame}
use Rattle.og_msg.specs.declared.Note.{Note}
use Rattle.og_msg.specs.Kinds.{block_of}
use Rattle.og_image.specs.Image.{ImageState}
use Rattle.og_image.specs.Layout.{LayoutState}
use Rattle.og_directory.specs.Table.{IsFromItsSender}
use Rattle.og_home.specs.Home.{HomeState, Served, serve, HasRow as HasHomeRow}
use Rattle.og_home.specs.Start.{start_home}
use Rattle.og_processor.specs.State.{ProcessorState, Given, new_processor}
use Rattle.og_processor.specs.Act.{act_of as processor_act}
use Rattle.og_processor.specs.Take.{take_of as processor_take}
use Rattle.og_processor.specs.Rows.{has_row_for}

pub record NodeState : Type 0 where
  pub processor : ProcessorState
  pub home : HomeState

-- a node at the start
abbrev pub new_node : ImageState → LayoutState → Settings → ℕ → NodeState
new_node image layout settings number = record {
  processor = new_processor image settings number;
  home = start_home image layout settings number;
}

-- what an event of a node gives, by what its processor or its home gives
abbrev pub of_processor : NodeState → Given → Outcome NodeState Kind Note
of_processor x given = record { local = record x { processor = given.state }; letters = given.letters; note = given.note }

abbrev pub of_home : NodeState → Served → Outcome NodeState Kind Note
of_home x served = record { local = record x { home = served.home }; letters = served.letters; note = None }

-- the node's own next event
abbrev pub act_of : ImageState → NodeState → Outcome NodeState Kind Note
act_of image x = of_processor x (processor_act image x.processor)

-- the kinds that a home serves; a processor serves the others
abbrev pub is_for_home : Kind → Bool
is_for_home (Read b) = true
is_for_home (ReadEx b) = true
is_for_home (Upgrade b) = true
is_for_home (WriteBack b l) = true
is_for_home (SharingWriteBack b l) = true
is_for_home (SharingTransfer b) = true
is_for_home (DirtyTransfer b) = true
is_for_home (PoisonRead b) = true
is_for_home (PoisonBack b l) = true
is_for_home (PoisonClean b) = true
is_for_home (CopyIn b l) = true
is_for_home (CleanFrame f) = true
is_for_home (Rearm f) = true
is_for_home kind = false

abbrev pub take_by : Bool → ImageState → NodeState → Msg Kind → Outcome NodeState Kind Note
take_by true image x msg = of_home x (serve x.home msg)
take_by false image x msg = of_processor x (processor_take image x.processor msg.kind)

-- the take of a message
abbrev pub take_of : ImageState → NodeState → Msg Kind → Outcome NodeState Kind Note
take_of image x msg = take_by (is_for_home msg.kind) image x msg

-- ------------------------------------------------------------ which messages have a row

-- the machine has the frame, and the block
abbrev pub IsFrame : HomeState → Frame → Type 0
IsFrame home frame = (frame.home < home.rules.nodes) × (frame.index < home.rules.frames)

abbrev pub IsBlock : HomeState → Option Block → Type 0
IsBlock home None = Unit {0}
IsBlock home (Some block) = IsFrame home block.frame × (block.number < 32)

-- the machine has the actor or frame that a message names besides its block: an invalidation may be for the mover
abbrev pub NamesKnown : HomeState → Kind → Type 0
NamesKnown home (InterveneShared b requester) = requester < home.rules.nodes
NamesKnown home (InterveneEx b requester) = requester < home.rules.nodes
NamesKnown home (Invalidate b requester) = requester ≤ home.rules.nodes
NamesKnown home (Walked page frame) = IsFrame home frame
NamesKnown home (DropFrame frame) = IsFrame home frame
NamesKnown home kind = Unit {0}

-- a message for the processor: its sender may send it, it names what there is, and the processor's tables have a row for it
pub record HasProcessorRow (x : NodeState) (msg : Msg Kind) : Type 0 where
  pub sender : IsFromItsSender x.home.rules.nodes msg
  pub block : IsBlock x.home (block_of msg.kind)
  pub names : NamesKnown x.home msg.kind
  pub row : has_row_for x.processor msg.kind ≡ true

-- the message has a row at the node
abbrev pub HasRow : NodeState → Msg Kind → Type 0
HasRow x msg = MatchBool (is_for_home msg.kind) (HasHomeRow x.home msg) (HasProcessorRow x msg)
