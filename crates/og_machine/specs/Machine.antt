-- The machine of all actors: nodes and the mover, as a protocol of actors that exchange messages; its start; and which
-- choices are enabled.
use Rattle.std.specs.Prelude.{ℕ, Bool, true, false, ◌&&◌, nat_eq, Option, None, Some, Result, Ok, Err, [], ◌∷◌, ◌++◌, length, map, slice_get, is_some, if◌then◌else◌}
use Rattle.std.specs.List.{list_all}
use Rattle.og_base.specs.Numbers.{below}
use Rattle.og_base.specs.declared.Settings.{Settings}
use Rattle.og_base.specs.declared.NotEnabled.{NotEnabled}
use Rattle.og_base.specs.declared.NotEnabled.TheVariants.{NoActor, NoMessage, NothingToDo}
use Rattle.og_runs.specs.declared.Choice.{Choice}
use Rattle.og_runs.specs.declared.Choice.TheVariants.{Act, Take}
use Rattle.og_runs.specs.declared.Msg.{Msg}
use Rattle.og_runs.specs.declared.Seat.{Seat}
use Rattle.og_runs.specs.Runs.{Outcome, Rules}
use Rattle.og_runs.specs.World.{World, find}
use Rattle.og_msg.specs.declared.Kind.{Kind}
use Rattle.og_msg.specs.declared.Note.{Note}
use Rattle.og_image.specs.Image.{ImageState}
use Rattle.og_image.specs.Layout.{LayoutState, layout_of}
use Rattle.og_victim.specs.Slot.{is_free_slot}
use Rattle.og_processor.specs.Act.{may_act}
use Rattle.og_node.specs.Node.{NodeState, new_node, act_of as node_act, take_of as node_take}
use Rattle.og_node.specs.Rows.{has_row as has_node_row}
use Rattle.og_mover.specs.Table.{MoverState, Done, first_mover, has_act, is_idle_job, act_of as mover_act, take_of as mover_take, has_table_row}

-- what stays the same over a run: the program, where its pages stand at the start, and the settings
pub record Setup : Type 0 where
  pub image : ImageState
  pub layout : LayoutState
  pub settings : Settings

-- the setup of a program
abbrev pub setup_of : ImageState → Settings → Setup
setup_of image settings = record { image = image; layout = layout_of image; settings = settings }

-- an actor: a node, or the mover
pub data ActorState : Type 0 where
  Node : (node : NodeState) → ActorState
  Mover : (mover : MoverState) → ActorState

-- the first that there is
abbrev pub or_else : {X : Type 0} → Option X → Option X → Option X
or_else (Some x) other = Some x
or_else None other = other

abbrev pub Machine : Type 0
Machine = World ActorState Kind

abbrev pub Gives : Type 0
Gives = Option (Outcome ActorState Kind Note)

-- ------------------------------------------------------------ the rules

abbrev pub by_node : Outcome NodeState Kind Note → Outcome ActorState Kind Note
by_node made = record { local = Node made.local; letters = made.letters; note = made.note }

abbrev pub by_mover : Done → Outcome ActorState Kind Note
by_mover made = record { local = Mover made.mover; letters = made.letters; note = made.note }

-- why an actor doesn't act, if it doesn't: the first reason that applies
abbrev pub mover_may : Bool → Result (Unit {0}) NotEnabled
mover_may true = Ok tt
mover_may false = Err NothingToDo

abbrev pub can_act : Setup → ActorState → Result (Unit {0}) NotEnabled
can_act setup (Node x) = may_act setup.image x.processor
can_act setup (Mover m) = mover_may (has_act m.job)

abbrev pub acting : Setup → ActorState → Outcome ActorState Kind Note
acting setup (Node x) = by_node (node_act setup.image x)
acting setup (Mover m) = by_mover (mover_act m)

abbrev pub where_enabled : Result (Unit {0}) NotEnabled → Outcome ActorState Kind Note → Gives
where_enabled (Ok u) made = Some made
where_enabled (Err why) made = None

-- an actor's act: none where it can't
unfoldable pub act_of : Setup → ActorState → Gives
act_of setup x = where_enabled (can_act setup x) (acting setup x)

-- an actor's tables have a row for the message
abbrev pub has_row : ActorState → Msg Kind → Bool
has_row (Node x) message = has_node_row x message
has_row (Mover m) message = has_table_row m message

abbrev pub taking : Setup → ActorState → Msg Kind → Outcome ActorState Kind Note
taking setup (Node x) message = by_node (node_take setup.image x message)
taking setup (Mover m) message = by_mover (mover_take m message)

-- an actor's take of a message: none where there is no row
unfoldable pub take_of : Setup → ActorState → Msg Kind → Gives
take_of setup x message = if has_row x message then Some (taking setup x message) else None

-- the machine as a protocol
abbrev pub rules : Setup → Rules ActorState Kind Note
rules setup = record { act = λ actor x. act_of setup x; take = λ actor x message. take_of setup x message }

-- ------------------------------------------------------------ the start

abbrev pub new_seat : ActorState → Seat ActorState
new_seat x = record { local = x; clock = 0; next = 0 }

abbrev pub start_node : Setup → ℕ → ActorState
start_node setup number = Node (new_node setup.image setup.layout setup.settings number)

abbrev pub start_mover : Setup → ActorState
start_mover setup = Mover (first_mover setup.layout setup.settings)

-- all nodes new, and behind them the mover; no message is in flight
unfoldable pub start_machine : Setup → Machine
start_machine setup = record {
  seats = map (λ number. new_seat (start_node setup number)) (below setup.settings.nodes) ++ new_seat (start_mover setup) ∷ [];
  flight = [];
}

-- ------------------------------------------------------------ which choices are enabled

abbrev pub refusal_by : Result (Unit {0}) NotEnabled → Option NotEnabled
refusal_by (Ok u) = None
refusal_by (Err why) = Some why

abbrev pub act_refusal : Setup → Option (Seat ActorState) → Option NotEnabled
act_refusal setup None = Some NoActor
act_refusal setup (Some x) = refusal_by (can_act setup x.local)

abbrev pub message_refusal : ℕ → Option (Msg Kind) → Option NotEnabled
message_refusal actor None = Some NoMessage
message_refusal actor (Some message) = if nat_eq message.to actor then None else Some NoMessage

abbrev pub take_refusal : ℕ → Option (Seat ActorState) → Option (Msg Kind) → Option NotEnabled
take_refusal actor None message = Some NoActor
take_refusal actor (Some x) message = message_refusal actor message

-- why a choice isn't enabled: the first reason that applies, none where it is
unfoldable pub refusal_of : Setup → Machine → Choice → Option NotEnabled
refusal_of setup w (Act actor) = act_refusal setup (slice_get w.seats actor)
refusal_of setup w (Take actor id) = take_refusal actor (slice_get w.seats actor) (find id w.flight)

-- ------------------------------------------------------------ stopped and quiet

-- a node's hart has stopped; the mover has none
abbrev pub has_stopped : ActorState → Bool
has_stopped (Node x) = is_some x.processor.hart.cause
has_stopped (Mover m) = true

-- a node's victim slot is free; the mover is idle
abbrev pub is_at_rest : ActorState → Bool
is_at_rest (Node x) = is_free_slot x.processor.victim
is_at_rest (Mover m) = is_idle_job m.job

-- each hart has stopped
unfoldable pub is_stopped : Machine → Bool
is_stopped w = list_all (λ x. has_stopped x.local) w.seats

-- stopped, no message is in flight, no victim slot is taken, and the mover is idle
unfoldable pub is_quiet : Machine → Bool
is_quiet w = is_stopped w && (nat_eq (length w.flight) 0 && list_all (λ x. is_at_rest x.local) w.seats)
