-- What holds of every machine that a run from the start of a program leads to, said of the machine's own data.
use Rattle.std.specs.Prelude.{◌≡◌, ◌≢◌, ◌↔◌, ℕ, ◌+◌, ◌*◌, ◌/◌, ◌%◌, ◌<◌, ◌≤◌, true, Bool, false, None, Some, IsSome, List, [], length, slice_get, slice_index_or}
use Rattle.std.specs.FinSet as set
use Rattle.og_base.specs.declared.Block.{Block}
use Rattle.og_base.specs.declared.Frame.{Frame}
use Rattle.og_base.specs.declared.VPage.{VPage}
use Rattle.og_runs.specs.declared.Choice.{Choice}
use Rattle.og_runs.specs.declared.Event.{Event}
use Rattle.og_runs.specs.declared.MsgId.{MsgId}
use Rattle.og_runs.specs.declared.Msg.{Msg}
use Rattle.og_runs.specs.declared.Seat.{Seat}
use Rattle.og_runs.specs.World.{WorldRun, world_step, find}
use Rattle.og_msg.specs.declared.Kind.{Kind}
use Rattle.og_msg.specs.declared.Note.{Note}
use Rattle.og_cache.specs.Cache.{look_of}
use Rattle.og_tlb.specs.Tlb.{look_of as frame_of}
use Rattle.og_request.specs.Request.{Requested}
use Rattle.og_flat.specs.Flat.{Flat}
use Rattle.og_pager.specs.PageTable.{IsFrame, is_free, holders_of}
use Rattle.og_node.specs.Node.{NodeState}
use Rattle.og_mover.specs.Table.{MoverState}
use Rattle.og_victim.specs.declared.Slot.TheVariants.{Taken}
use Rattle.og_machine.specs.Machine.{Setup, ActorState, Node, Mover, Machine, rules, start_machine, has_row, refusal_of, is_quiet}
use Rattle.og_machine.specs.Choices.{enabled_of}
use Rattle.og_machine.specs.FlatRun.{FlatRun, flat_begin, flat_after, hart_notes}
use Rattle.og_machine.specs.OneWriter.{OneWriter}
use Rattle.og_machine.specs.Held.{held, held_byte}
use Rattle.og_refine.specs.Machines.{IsRunnable}
use Rattle.og_refine.specs.Charges.{charge_in}
use Rattle.og_refine.specs.Names.{names_frame}

-- the choices lead from the start to w, with these events
abbrev pub RunsTo : Setup → List Choice → Machine → List (Event Note) → Type 0
RunsTo setup choices w events = WorldRun (rules setup) (start_machine setup) choices w events

-- each message in flight has its receiver, and a row in its tables
abbrev pub MessagesHaveRows : Type 0
MessagesHaveRows =
    (setup : Setup) (choices : List Choice) (w : Machine) (events : List (Event Note)) (id : MsgId) (message : Msg Kind)
    → IsRunnable setup → RunsTo setup choices w events → find id w.flight ≡ Some message
    → (seat : Seat ActorState) × (slice_get w.seats message.to ≡ Some seat) × (has_row seat.local message ≡ true)

-- a choice has a step exactly where it isn't refused
abbrev pub RefusalsAreExact : Type 0
RefusalsAreExact =
    (setup : Setup) (choices : List Choice) (w : Machine) (events : List (Event Note)) (choice : Choice)
    → IsRunnable setup → RunsTo setup choices w events
    → (refusal_of setup w choice ≡ None) ↔ IsSome (world_step (rules setup) w choice)

-- what harts noted, in the order of the events, is a run of one flat memory
abbrev pub NotesAreFlat : Type 0
NotesAreFlat =
    (setup : Setup) (choices : List Choice) (w : Machine) (events : List (Event Note))
    → IsRunnable setup → RunsTo setup choices w events
    → FlatRun setup.image setup.settings (hart_notes events)

-- no block has two writable copies
abbrev pub WritersAreAlone : Type 0
WritersAreAlone =
    (setup : Setup) (choices : List Choice) (w : Machine) (events : List (Event Note))
    → IsRunnable setup → RunsTo setup choices w events
    → OneWriter w

-- the flat memory after what harts noted
abbrev pub flat_of : Setup → List (Event Note) → Flat
flat_of setup events = (flat_after setup.image (flat_begin setup.image setup.settings) (hart_notes events)).flat

-- the line that the machine holds for a block of a placed page is the flat memory's, bytes and number of stores, before, during and
-- after every move
abbrev pub LinesAreHeld : Type 0
LinesAreHeld =
    (setup : Setup) (choices : List Choice) (w : Machine) (events : List (Event Note)) (y page number : ℕ)
    → IsRunnable setup → RunsTo setup choices w events → slice_get setup.layout.pages y ≡ Some page → number < 32
    → held w (record { 0 = page }) number ≡ Some ((flat_of setup events).memory (page * 32 + number))

-- and so is each byte of such a page
abbrev pub BytesAreHeld : Type 0
BytesAreHeld =
    (setup : Setup) (choices : List Choice) (w : Machine) (events : List (Event Note)) (y address : ℕ)
    → IsRunnable setup → RunsTo setup choices w events → slice_get setup.layout.pages y ≡ Some (address / 4096)
    → held_byte w address ≡ Some (slice_index_or ((flat_of setup events).memory (address / 128)).bytes (address % 128) 0)

-- nothing of the machine names the frame: no cache, no TLB, no request, no victim slot, no holder, and no message in flight
pub record IsUnnamed (w : Machine) (frame : Frame) : Type 0 where
  pub cached : (q : ℕ) (seat : Seat ActorState) (x : NodeState) (number : ℕ) → slice_get w.seats q ≡ Some seat → seat.local ≡ Node x → number < 32 → look_of x.processor.cache (record { frame = frame; number = number }) ≡ None
  pub translated : (q : ℕ) (seat : Seat ActorState) (x : NodeState) (page : VPage) → slice_get w.seats q ≡ Some seat → seat.local ≡ Node x → frame_of x.processor.tlb page ≢ Some frame
  pub requested : (q : ℕ) (seat : Seat ActorState) (x : NodeState) (request : Requested) → slice_get w.seats q ≡ Some seat → seat.local ≡ Node x → x.processor.request ≡ Some request → request.block.frame ≢ frame
  pub thrown_out : (q : ℕ) (seat : Seat ActorState) (x : NodeState) (block : Block) (busy seen : Bool) → slice_get w.seats q ≡ Some seat → seat.local ≡ Node x → x.processor.victim ≡ Taken block busy seen → block.frame ≢ frame
  pub held : (q : ℕ) (seat : Seat ActorState) (m : MoverState) (node : ℕ) → slice_get w.seats q ≡ Some seat → seat.local ≡ Mover m → set.contains (holders_of m.pages frame) node ≢ true
  pub sent : (id : MsgId) (message : Msg Kind) → find id w.flight ≡ Some message → names_frame message.kind frame ≡ false

-- a free frame is named by nothing
abbrev pub FreeFramesAreUnnamed : Type 0
FreeFramesAreUnnamed =
    (setup : Setup) (choices : List Choice) (w : Machine) (events : List (Event Note)) (q : ℕ) (seat : Seat ActorState) (m : MoverState) (frame : Frame)
    → IsRunnable setup → RunsTo setup choices w events → slice_get w.seats q ≡ Some seat → seat.local ≡ Mover m → IsFrame m.pages frame → is_free m.pages frame ≡ true
    → IsUnnamed w frame

-- two messages in flight never take up one key
abbrev pub ChargesDiffer : Type 0
ChargesDiffer =
    (setup : Setup) (choices : List Choice) (w : Machine) (events : List (Event Note)) (id other : MsgId) (x y : Msg Kind)
    → IsRunnable setup → RunsTo setup choices w events → find id w.flight ≡ Some x → find other w.flight ≡ Some y → charge_in w x ≡ charge_in w y
    → id ≡ other

-- so at most so many messages are in flight: as many as there are keys
abbrev pub MessagesHaveRoom : Type 0
MessagesHaveRoom =
    (setup : Setup) (choices : List Choice) (w : Machine) (events : List (Event Note))
    → IsRunnable setup → RunsTo setup choices w events
    → length w.flight ≤ 33 * setup.settings.frames * setup.settings.nodes + setup.settings.nodes * setup.settings.nodes + 7 * setup.settings.nodes + 1

-- a machine that isn't quiet has an enabled choice
abbrev pub UnquietMachinesGoOn : Type 0
UnquietMachinesGoOn =
    (setup : Setup) (choices : List Choice) (w : Machine) (events : List (Event Note))
    → IsRunnable setup → RunsTo setup choices w events → is_quiet w ≡ false
    → enabled_of setup w ≢ []
