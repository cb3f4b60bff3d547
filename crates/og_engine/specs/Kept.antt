-- How a machine is kept, which machine it is, and what is known of one that choices from the start lead to.
use Rattle.std.specs.Prelude.{◌≡◌, ℕ, ◌+◌, ◌*◌, ◌≤◌, ◌<◌, ◌^◌, Bool, Option, None, Some, List, [], ◌∷◌, ◌++◌, length, map, slice_get}
use Rattle.og_base.specs.declared.Settings.{Settings}
use Rattle.og_runs.specs.declared.Choice.{Choice}
use Rattle.og_runs.specs.declared.Event.{Event}
use Rattle.og_runs.specs.declared.Letter.{Letter}
use Rattle.og_runs.specs.declared.Msg.{Msg}
use Rattle.og_runs.specs.declared.Seat.{Seat}
use Rattle.og_runs.specs.Runs.{Outcome, posted, clock_after, event_of}
use Rattle.og_runs.specs.World.{find, placed_all, seat_after}
use Rattle.og_flight.specs.Flight.{Flying}
use Rattle.og_choices.specs.Choices.{Offer}
use Rattle.og_msg.specs.declared.Kind.{Kind}
use Rattle.og_msg.specs.declared.Note.{Note}
use Rattle.og_image.specs.Image.{ImageState}
use Rattle.og_node.specs.Kept.{KeptNode, node_of}
use Rattle.og_mover.specs.Table.{MoverState, has_act}
use Rattle.og_machine.specs.Machine.{Setup, setup_of, ActorState, Node, Mover, Machine}
use Rattle.og_refine.specs.Machines.{IsRunnable}
use Rattle.og_refine.specs.Laws.{RunsTo}
use Rattle.og_engine.specs.Marks.{AreMarked}

-- each node at its seat, the mover at its own, the messages in flight, how many events were made, the nodes that may act as a word of
-- marks, whether the mover may, and the nodes whose hart hasn't stopped as a second word
pub record KeptMachine : Type 0 where
  pub settings : Settings
  pub nodes : List (Seat KeptNode)
  pub mover : Seat MoverState
  pub flight : Flying Kind
  pub events : ℕ
  pub ready : ℕ
  pub mover_ready : Bool
  pub running : ℕ

-- the same seat, with what is kept of its actor as an actor
abbrev pub node_seat : Seat KeptNode → Seat ActorState
node_seat x = record { local = Node (node_of x.local); clock = x.clock; next = x.next }

abbrev pub mover_seat : Seat MoverState → Seat ActorState
mover_seat x = record { local = Mover x.local; clock = x.clock; next = x.next }

abbrev pub seats_of : List (Seat KeptNode) → Seat MoverState → List (Seat ActorState)
seats_of nodes mover = map node_seat nodes ++ mover_seat mover ∷ []

-- the machine that is kept: the nodes, behind them the mover, and the messages in flight
unfoldable pub machine_of : KeptMachine → Machine
machine_of kept = record { seats = seats_of kept.nodes kept.mover; flight = kept.flight.messages }

-- the choices that it offers
abbrev pub offer_of : KeptMachine → Offer Kind
offer_of kept = record { flight = kept.flight; nodes = kept.settings.nodes; ready = kept.ready; last = kept.mover_ready }

-- its setup, in a run of the program
abbrev pub setup_in : ImageState → KeptMachine → Setup
setup_in image kept = setup_of image kept.settings

-- how many messages may be in flight: as many as there are keys
abbrev pub room_of : Settings → ℕ
room_of settings = 33 * settings.frames * settings.nodes + settings.nodes * settings.nodes + 7 * settings.nodes + 1

-- these choices lead from the start of the program to the machine, with these events, of which each sent 132 letters at most
pub record MadeBy (image : ImageState) (kept : KeptMachine) (choices : List Choice) (events : List (Event Note)) : Type 0 where
  pub runnable : IsRunnable (setup_in image kept)
  pub run : RunsTo (setup_in image kept) choices (machine_of kept) events
  pub count : length events ≡ kept.events
  pub room : kept.flight.room ≡ room_of kept.settings
  pub numbers : (a : ℕ) (x : Seat ActorState) → slice_get (machine_of kept).seats a ≡ Some x → x.next ≤ 132 * kept.events
  pub marks : AreMarked image kept.nodes kept.ready kept.running
  pub mover_mark : kept.mover_ready ≡ has_act kept.mover.local.job

-- some choices lead from the start of the program to the machine
abbrev pub IsMade : ImageState → KeptMachine → Type 0
IsMade image kept = (choices : List Choice) × (events : List (Event Note)) × MadeBy image kept choices events

-- some choices lead from the start of some program to the machine
abbrev pub WasMade : KeptMachine → Type 0
WasMade kept = (image : ImageState) × IsMade image kept

-- letters of an actor can go into flight: they have room, and its numbers from the next one on are new
pub record HaveRoom (actor next : ℕ) (letters : List (Letter Kind)) (flight : Flying Kind) : Type 0 where
  pub room : length flight.messages + length letters ≤ flight.room
  pub numbers : next < 2 ^ 63
  pub new : (k : ℕ) → next ≤ k → find (record { sender = actor; seq = k }) flight.messages ≡ None

-- what is in flight with the letters of an event of an actor
abbrev pub with_letters : (actor clock next : ℕ) → List (Letter Kind) → Flying Kind → Flying Kind
with_letters actor clock next letters flight = record flight { messages = placed_all flight.messages (posted actor clock next letters) }

-- an actor's seat x becomes y by a move, an act or the take of a message, that gives what is said; its letters go into flight
pub record Moves (actor : ℕ) (move : Option (Msg Kind)) (made : Outcome ActorState Kind Note) (x y : Seat ActorState) (before after : Flying Kind) (event : Event Note) : Type 0 where
  pub seat : y ≡ seat_after x move made
  pub flight : after ≡ with_letters actor (clock_after x.clock move) x.next made.letters before
  pub event_is : event ≡ event_of actor x.clock move made
  pub few : length made.letters ≤ 132
