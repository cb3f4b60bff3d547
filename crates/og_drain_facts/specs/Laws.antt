-- What the drain finds in each stopped machine that a run from the start of a program leads to.
use Rattle.std.specs.Prelude.{◌≡◌, ◌↔◌, ℕ, ◌<◌, Bool, true, false, None, Some, IsSome, List, slice_get}
use Rattle.og_base.specs.declared.Block.{Block}
use Rattle.og_runs.specs.declared.Choice.{Choice}
use Rattle.og_runs.specs.declared.Choice.TheVariants.{Take}
use Rattle.og_runs.specs.declared.Event.{Event}
use Rattle.og_runs.specs.declared.Msg.{Msg}
use Rattle.og_runs.specs.declared.MsgId.{MsgId}
use Rattle.og_runs.specs.declared.Seat.{Seat}
use Rattle.og_runs.specs.World.{world_step, find}
use Rattle.og_msg.specs.declared.Kind.{Kind}
use Rattle.og_msg.specs.declared.Kind.TheVariants.{SharingWriteBack, SharingTransfer, DirtyTransfer, PoisonBack, PoisonClean, PoisonRead, Nak}
use Rattle.og_msg.specs.Kinds.{block_of}
use Rattle.og_directory.specs.Table.{is_request}
use Rattle.og_msg.specs.declared.Note.{Note}
use Rattle.og_node.specs.Node.{NodeState}
use Rattle.og_machine.specs.Machine.{Setup, ActorState, Node, Machine, rules, refusal_of, is_stopped, is_quiet}
use Rattle.og_machine.specs.Choices.{drain_of}
use Rattle.og_refine.specs.Machines.{IsRunnable}
use Rattle.og_refine.specs.Laws.{RunsTo}
use Rattle.og_drain.specs.Laws.{is_between}

-- the drain's next choice is enabled, and has a step
abbrev pub DrainGoesOn : Type 0
DrainGoesOn =
    (setup : Setup) (choices : List Choice) (w : Machine) (events : List (Event Note)) (choice : Choice)
    → IsRunnable setup → RunsTo setup choices w events → is_stopped w ≡ true → drain_of setup w ≡ Some choice
    → (refusal_of setup w choice ≡ None) × IsSome (world_step (rules setup) w choice)

-- there is none exactly where the machine is quiet
abbrev pub DrainEndsQuiet : Type 0
DrainEndsQuiet =
    (setup : Setup) (choices : List Choice) (w : Machine) (events : List (Event Note))
    → IsRunnable setup → RunsTo setup choices w events → is_stopped w ≡ true
    → (drain_of setup w ≡ None) ↔ (is_quiet w ≡ true)

-- no node has a request or a walk outstanding
abbrev pub NothingIsAsked : Type 0
NothingIsAsked =
    (setup : Setup) (choices : List Choice) (w : Machine) (events : List (Event Note)) (q : ℕ) (seat : Seat ActorState) (x : NodeState)
    → IsRunnable setup → RunsTo setup choices w events → is_stopped w ≡ true → slice_get w.seats q ≡ Some seat → seat.local ≡ Node x
    → (x.processor.request ≡ None) × (x.processor.walk ≡ None)

-- no request for a block is in flight
abbrev pub NoRequestFlies : Type 0
NoRequestFlies =
    (setup : Setup) (choices : List Choice) (w : Machine) (events : List (Event Note)) (id : MsgId) (message : Msg Kind)
    → IsRunnable setup → RunsTo setup choices w events → is_stopped w ≡ true → find id w.flight ≡ Some message
    → is_request message.kind ≡ false

-- what an owner tells the home
abbrev pub is_revision : Kind → Bool
is_revision (SharingWriteBack block line) = true
is_revision (SharingTransfer block) = true
is_revision (DirtyTransfer block) = true
is_revision (PoisonBack block line) = true
is_revision (PoisonClean block) = true
is_revision kind = false

-- of each block that one node gives to another, by its home's entry, a revision is in flight: there the mover's question for it would
-- be refused
abbrev pub BusyBlocksHaveRevisions : Type 0
BusyBlocksHaveRevisions =
    (setup : Setup) (choices : List Choice) (w : Machine) (events : List (Event Note)) (q : ℕ) (seat : Seat ActorState) (x : NodeState) (block : Block)
    → IsRunnable setup → RunsTo setup choices w events → is_stopped w ≡ true
    → slice_get w.seats q ≡ Some seat → seat.local ≡ Node x
    → block.frame.home ≡ q → block.frame.index < setup.settings.frames → block.number < 32 → is_between (x.home.entry block.frame.index block.number) ≡ true
    → (id : MsgId) × (message : Msg Kind) × (find id w.flight ≡ Some message) × (is_revision message.kind ≡ true) × (block_of message.kind ≡ Some block)

-- so where the drain takes the mover's question for a block, no node gives it to another one
abbrev pub DrainMeetsNoBusyBlock : Type 0
DrainMeetsNoBusyBlock =
    (setup : Setup) (choices : List Choice) (w : Machine) (events : List (Event Note)) (q : ℕ) (seat : Seat ActorState) (x : NodeState) (id : MsgId) (message : Msg Kind) (block : Block)
    → IsRunnable setup → RunsTo setup choices w events → is_stopped w ≡ true → drain_of setup w ≡ Some (Take q id) → find id w.flight ≡ Some message → message.kind ≡ PoisonRead block
    → slice_get w.seats q ≡ Some seat → seat.local ≡ Node x
    → is_between (x.home.entry block.frame.index block.number) ≡ false

-- a refusal, after which a request is sent again
abbrev pub is_nak : Kind → Bool
is_nak (Nak block) = true
is_nak kind = false

-- and no step of the drain sends a refusal: each that is in flight after it was in flight before
abbrev pub NoNakInTheDrain : Type 0
NoNakInTheDrain =
    (setup : Setup) (choices : List Choice) (w : Machine) (events : List (Event Note)) (choice : Choice) (u : Machine) (event : Event Note) (id : MsgId) (message : Msg Kind)
    → IsRunnable setup → RunsTo setup choices w events → is_stopped w ≡ true → drain_of setup w ≡ Some choice → world_step (rules setup) w choice ≡ Some (u, event)
    → find id u.flight ≡ Some message → is_nak message.kind ≡ true
    → find id w.flight ≡ Some message
