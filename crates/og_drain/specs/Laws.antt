-- Each event of a stopped machine makes the measure smaller.
use Rattle.std.specs.Prelude.{◌≡◌, ◌≤◌, ◌<◌, ℕ, ◌+◌, ◌*◌, Bool, true, false, None, Some, is_some, length, slice_get}
use Rattle.og_runs.specs.declared.Choice.{Choice}
use Rattle.og_runs.specs.declared.Choice.TheVariants.{Act, Take}
use Rattle.og_runs.specs.declared.Event.{Event}
use Rattle.og_runs.specs.declared.Msg.{Msg}
use Rattle.og_runs.specs.declared.Seat.{Seat}
use Rattle.og_runs.specs.World.{world_step, find}
use Rattle.og_msg.specs.declared.Kind.{Kind}
use Rattle.og_msg.specs.declared.Kind.TheVariants.{PoisonRead}
use Rattle.og_msg.specs.declared.Note.{Note}
use Rattle.og_image.specs.Image.{ImageState}
use Rattle.og_directory.specs.declared.entry.State.{State}
use Rattle.og_directory.specs.declared.entry.State.TheVariants.{BusyShared, BusyExclusive}
use Rattle.og_directory.specs.Table.{Groups, is_request, sharers_but}
use Rattle.og_home.specs.Home.{HomeState, serve}
use Rattle.og_node.specs.Node.{NodeState}
use Rattle.og_node.specs.Rows.{has_home_row}
use Rattle.og_processor.specs.State.{ProcessorState}
use Rattle.og_processor.specs.Take.{take_of}
use Rattle.og_processor.specs.Rows.{has_row_for}
use Rattle.og_mover.specs.Table.{MoverState, has_act, act_of as mover_act, has_table_row, take_of as mover_take}
use Rattle.og_mover.specs.Sound.{IsMover}
use Rattle.og_mover.specs.declared.Job.{Job}
use Rattle.og_machine.specs.Machine.{Setup, ActorState, Node, Mover, Machine, rules}
use Rattle.og_drain.specs.Measure.{weight, letters_weight, job_left, drop_left, measure}

-- ------------------------------------------------------------ homes

-- a block that a node gives to another one
abbrev pub is_between : State → Bool
is_between (BusyShared q r) = true
is_between (BusyExclusive q r t) = true
is_between entry = false

-- the mover asks for a block that a node gives to another one: it is refused
abbrev pub is_refused_now : HomeState → Kind → Bool
is_refused_now x (PoisonRead b) = is_between (x.entry b.frame.index b.number)
is_refused_now x kind = false

-- a message that has a row, is no node's request, and no question of the mover's that is refused
abbrev pub HomesPay : Type 0
HomesPay =
    (nodes : ℕ) (x : HomeState) (message : Msg Kind)
    → 1 ≤ nodes → x.rules.nodes ≡ nodes → has_home_row x message message.kind ≡ true → is_request message.kind ≡ false → is_refused_now x message.kind ≡ false
    → letters_weight nodes (serve x message).letters + 1 ≤ weight nodes message.kind

-- as many invalidations are sent as there are nodes, at most
abbrev pub SharersAreFew : Type 0
SharersAreFew = (nodes p : ℕ) (groups : Groups) → length (sharers_but nodes p groups) ≤ nodes

-- ------------------------------------------------------------ processors

-- a processor that waits for nothing
pub record IsUnasked (x : ProcessorState) : Type 0 where
  pub request : x.request ≡ None
  pub walk : x.walk ≡ None

-- what it sends and keeps for a message that has a row; it waits for nothing again, and its hart is as before
pub record ProcessorsPay : Type 0 where
  pub pays : (nodes : ℕ) (image : ImageState) (x : ProcessorState) (kind : Kind) → IsUnasked x → has_row_for x kind ≡ true
      → letters_weight nodes (take_of image x kind).letters + drop_left (take_of image x kind).state + 1 ≤ weight nodes kind + drop_left x
  pub asks : (image : ImageState) (x : ProcessorState) (kind : Kind) → IsUnasked x → has_row_for x kind ≡ true → IsUnasked (take_of image x kind).state
  pub hart : (image : ImageState) (x : ProcessorState) (kind : Kind) → IsUnasked x → has_row_for x kind ≡ true → (take_of image x kind).state.hart ≡ x.hart

-- ------------------------------------------------------------ the mover

-- a step of its own, and a message that has a row
pub record MoverPays : Type 0 where
  pub act : (nodes : ℕ) (m : MoverState) → m.pages.nodes ≡ nodes → IsMover m → has_act m.job ≡ true
      → letters_weight nodes (mover_act m).letters + job_left nodes (mover_act m).mover.job + 1 ≤ job_left nodes m.job
  pub take : (nodes : ℕ) (m : MoverState) (message : Msg Kind) → m.pages.nodes ≡ nodes → IsMover m → has_table_row m message ≡ true
      → letters_weight nodes (mover_take m message).letters + job_left nodes (mover_take m message).mover.job + 1 ≤ weight nodes message.kind + job_left nodes m.job

-- ------------------------------------------------------------ the machine

-- a node whose hart has stopped, and which waits for nothing; the mover has neither
abbrev pub IsStill : ActorState → Type 0
IsStill (Node x) = (is_some x.processor.hart.cause ≡ true) × IsUnasked x.processor
IsStill (Mover m) = Unit {0}

-- an actor of a machine of so many nodes
abbrev pub IsAmong : (nodes : ℕ) → ActorState → Type 0
IsAmong nodes (Node x) = x.home.rules.nodes ≡ nodes
IsAmong nodes (Mover m) = IsMover m × (m.pages.nodes ≡ nodes)

abbrev pub Each : (ActorState → Type 0) → Machine → Type 0
Each P w = (q : ℕ) (seat : Seat ActorState) → slice_get w.seats q ≡ Some seat → P seat.local

-- the message is no node's request, and no question of the mover's that its home refuses
abbrev pub IsDrained : ActorState → Kind → Type 0
IsDrained (Node x) kind = (is_request kind ≡ false) × (is_refused_now x.home kind ≡ false)
IsDrained (Mover m) kind = Unit {0}

-- the choice takes no other message
abbrev pub Drains : Machine → Choice → Type 0
Drains w (Act actor) = Unit {0}
Drains w (Take actor id) = (message : Msg Kind) (seat : Seat ActorState) → find id w.flight ≡ Some message → slice_get w.seats actor ≡ Some seat → IsDrained seat.local message.kind

-- a step of a machine whose harts have stopped makes the measure smaller; and nodes wait for nothing again
abbrev pub StoppedMachinesPay : Type 0
StoppedMachinesPay =
    (setup : Setup) (nodes : ℕ) (w u : Machine) (choice : Choice) (event : Event Note)
    → 1 ≤ nodes → Each IsStill w → Each (IsAmong nodes) w → Drains w choice → world_step (rules setup) w choice ≡ Some (u, event)
    → (measure nodes u + 1 ≤ measure nodes w) × Each IsStill u

-- ------------------------------------------------------------ the bound

-- no weight and nothing that a mover has left is above the greatest weight; so the measure of a machine with one mover, behind its nodes,
-- is bounded by the number of messages in flight
pub record MeasureIsBounded : Type 0 where
  pub weights : (nodes : ℕ) (kind : Kind) → weight nodes kind ≤ 64 * (nodes + 4)
  pub jobs : (nodes : ℕ) (job : Job) → job_left nodes job ≤ 64 * (nodes + 4)
  pub machines : (nodes : ℕ) (w : Machine) → length w.seats ≡ nodes + 1 → ((q : ℕ) (seat : Seat ActorState) → q < nodes → slice_get w.seats q ≡ Some seat → (x : NodeState) × (seat.local ≡ Node x))
      → measure nodes w ≤ 64 * (32 + length w.flight) * (nodes + 4)
