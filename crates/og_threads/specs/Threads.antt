-- The machine's actors in threads: which actors they are, what each may do, and what a run of all of them is.
use Rattle.std.specs.Prelude.{◌≡◌, ℕ, ◌+◌, ◌*◌, ◌≤◌, Bool, true, false, nat_lt, Option, List, IsTrue, Ok, if◌then◌else◌}
use Rattle.og_runs.specs.declared.Event.{Event}
use Rattle.og_runs.specs.declared.Letter.{Letter}
use Rattle.og_runs.specs.declared.Log.{Log}
use Rattle.og_runs.specs.declared.Msg.{Msg}
use Rattle.og_runs.specs.declared.MsgId.{MsgId}
use Rattle.og_runs.specs.Runs.{Outcome, choices}
use Rattle.og_runs.specs.World.{find}
use Rattle.og_msg.specs.declared.Kind.{Kind}
use Rattle.og_msg.specs.declared.Note.{Note}
use Rattle.og_image.specs.Image.{ImageState}
use Rattle.og_processor.specs.Act.{may_act}
use Rattle.og_processor.specs.Sound.{IsSound, IsLowProcessor, IsLowKind}
use Rattle.og_node.specs.Kept.{KeptNode, node_of}
use Rattle.og_node.specs.Node.{HasRow}
use Rattle.og_mover.specs.Table.{has_act, has_table_row}
use Rattle.og_machine.specs.Machine.{Setup, ActorState, Machine, rules, start_node, start_mover, is_stopped}
use Rattle.og_machine.specs.Machine.{Node as NodeActor, Mover as MoverActor}
use Rattle.og_refine.specs.Machines.{IsRunnable}
use Rattle.og_refine.specs.Laws.{RunsTo}
use Rattle.og_actors.specs.declared.rounds.Rounds.{Rounds}
use Rattle.og_actors.specs.declared.rounds.Rounds.TheVariants.{Stopped, Spent, Memory}
use Rattle.og_actors.specs.Rounds.{AreLogs}
use Rattle.og_threads.specs.declared.player.Player.{Player}
use Rattle.og_threads.specs.declared.player.Player.TheVariants.{Node, Mover}

-- which actor it is
abbrev pub actor_of : Player → ActorState
actor_of (Node x) = NodeActor (node_of x)
actor_of (Mover m) = MoverActor m

-- what contracts see of what runs an actor: the actor, and the letters of its last move
pub record Playing : Type 0 where
  pub player : Player
  pub letters : List (Letter Kind)

-- an event's outcome, by its parts
abbrev pub outcome : ActorState → List (Letter Kind) → Option Note → Outcome ActorState Kind Note
outcome x letters note = record { local = x; letters = letters; note = note }

-- ------------------------------------------------------------ a machine's actors

-- the nodes, and one more: the mover
abbrev pub actors_of : Setup → ℕ
actors_of setup = setup.settings.nodes + 1

-- an actor at the start: the mover's number is the number of nodes
abbrev pub first_actor : Setup → ℕ → ActorState
first_actor setup a = if nat_lt a setup.settings.nodes then start_node setup a else start_mover setup

-- as many messages as there are keys
abbrev pub room_of : Setup → ℕ
room_of setup = 33 * setup.settings.frames * setup.settings.nodes + setup.settings.nodes * setup.settings.nodes + 7 * setup.settings.nodes + 1

-- actors of such a machine make so many events each at most, and read this program
pub record Plays (setup : Setup) (most : ℕ) (image : ImageState) : Type 0 where
  pub runnable : IsRunnable setup
  pub program : setup.image ≡ image
  pub few : actors_of setup * most ≤ 4000000

-- ------------------------------------------------------------ what an actor may do

-- what a node's act asks, and the mover's
abbrev pub MayAct : ImageState → Player → Type 0
MayAct image (Node x) = (may_act image x.processor ≡ Ok tt) × IsLowProcessor x.processor
MayAct image (Mover m) = IsTrue (has_act m.job)

-- what a node's take of a message asks
pub record NodeMayTake (image : ImageState) (x : KeptNode) (message : Msg Kind) : Type 0 where
  pub row : HasRow (node_of x) message
  pub sound : IsSound image x.processor
  pub low : IsLowProcessor x.processor
  pub low_message : IsLowKind message.kind
  pub few_nodes : (node_of x).home.rules.nodes ≤ 128

abbrev pub MayTake : ImageState → Player → Msg Kind → Type 0
MayTake image (Node x) message = NodeMayTake image x message
MayTake image (Mover m) message = IsTrue (has_table_row m message)

-- ------------------------------------------------------------ a run of all

-- the logs are those of the machine's actors from their start on, each by the rules, consistent with one another; and left are just
-- the messages that were sent and not taken
abbrev pub AreLogsOf : Setup → List (Log Note) → List (Msg Kind) → Type 0
AreLogsOf setup logs left = AreLogs (rules setup) (λ a. first_actor setup a) (actors_of setup) logs left

-- rounds that ended so ended with all harts stopped, or not; no want of memory is told
abbrev pub EndsAs : Rounds → Bool → Type 0
EndsAs Stopped stopped = stopped ≡ true
EndsAs (Spent events idle) stopped = stopped ≡ false
EndsAs Memory stopped = ◌≡◌ {A = Bool} true false

-- the events are a run of the machine from its start, at whose end just the messages that are left are in flight, and all harts have
-- stopped exactly where the rounds ended so
abbrev pub IsRunOfAll : Setup → Rounds → List (Event Note) → List (Msg Kind) → Type 0
IsRunOfAll setup end events left = (u : Machine) × RunsTo setup (choices events) u events × ((id : MsgId) → find id u.flight ≡ find id left) × EndsAs end (is_stopped u)
