-- The enabled choices in their order; which of them a simulation draws; and which one drains a stopped machine.
use Rattle.std.specs.Prelude.{ℕ, zero, suc, Bool, true, false, not, Option, None, Some, Result, Ok, Err, List, [], ◌∷◌, ◌++◌, length, map, slice_get, if◌then◌else◌}
use Rattle.std.specs.List.{filter}
use Rattle.std.specs.Option.{option_map}
use Rattle.og_base.specs.declared.NotEnabled.{NotEnabled}
use Rattle.og_flight.specs.Flight.{messages_to, first_sent}
use Rattle.og_draws.specs.Draws.{draw}
use Rattle.og_runs.specs.declared.Choice.{Choice}
use Rattle.og_runs.specs.declared.Choice.TheVariants.{Act, Take}
use Rattle.og_runs.specs.declared.Event.{Event}
use Rattle.og_runs.specs.declared.Msg.{Msg}
use Rattle.og_runs.specs.declared.Seat.{Seat}
use Rattle.og_runs.specs.World.{world_step}
use Rattle.og_msg.specs.declared.Kind.{Kind}
use Rattle.og_msg.specs.declared.Kind.TheVariants.{PoisonRead}
use Rattle.og_msg.specs.declared.Note.{Note}
use Rattle.og_machine.specs.Machine.{Setup, ActorState, Node, Mover, Machine, or_else, rules, can_act, is_stopped, is_quiet}

-- ------------------------------------------------------------ enabled

-- an actor's act, where it is enabled
abbrev pub act_by : ℕ → Result (Unit {0}) NotEnabled → List Choice
act_by actor (Ok u) = Act actor ∷ []
act_by actor (Err why) = []

-- an actor's takes: of the messages in flight to it, by sender, then number
abbrev pub takes_of : ℕ → List (Msg Kind) → List Choice
takes_of actor messages = map (λ m. Take actor m.id) (messages_to actor messages)

abbrev pub enabled_from : Setup → ℕ → List (Seat ActorState) → List (Msg Kind) → List Choice
enabled_from setup actor [] messages = []
enabled_from setup actor (x ∷ xs) messages =
    act_by actor (can_act setup x.local) ++ (takes_of actor messages ++ enabled_from setup (suc actor) xs messages)

-- for each actor its act, then its takes
unfoldable pub enabled_of : Setup → Machine → List Choice
enabled_of setup w = enabled_from setup 0 w.seats w.flight

-- the k-th draw of a number, from 0: the enabled choice in the place that the generator's word gives
abbrev pub drawn_choice : Setup → (number k : ℕ) → Machine → Option Choice
drawn_choice setup number k w = slice_get (enabled_of setup w) (draw number k (length (enabled_of setup w)))

-- ------------------------------------------------------------ the drain

abbrev pub is_poison_read : Kind → Bool
is_poison_read (PoisonRead block) = true
is_poison_read kind = false

abbrev pub take_it : Option (Msg Kind) → Option Choice
take_it message = option_map (λ m. Take m.to m.id) message

-- of the messages that aren't the mover's request for a block, the one that was sent first: by clock, sender and number
abbrev pub first_answer : List (Msg Kind) → Option Choice
first_answer messages = take_it (first_sent (filter (λ m. not (is_poison_read m.kind)) messages))

-- the mover's act, where it is enabled
abbrev pub mover_act_by : Setup → ℕ → ActorState → Option Choice
mover_act_by setup actor (Node x) = None
mover_act_by setup actor (Mover m) = slice_get (act_by actor (can_act setup (Mover m))) 0

abbrev pub mover_choice : Setup → ℕ → List (Seat ActorState) → Option Choice
mover_choice setup actor [] = None
mover_choice setup actor (x ∷ xs) = or_else (mover_act_by setup actor x.local) (mover_choice setup (suc actor) xs)

-- the next choice of a stopped machine: the message that was sent first, but the mover's request for a block only where
-- nothing else is in flight; then the mover's act; none where there is neither
unfoldable pub drain_of : Setup → Machine → Option Choice
drain_of setup w = or_else (first_answer w.flight) (or_else (take_it (first_sent w.flight)) (mover_choice setup 0 w.seats))

-- ------------------------------------------------------------ a simulation

-- the k-th choice of a simulation: drawn while a hart isn't stopped, and the drain's afterwards
abbrev pub next_choice : Setup → (number k : ℕ) → Machine → Option Choice
next_choice setup number k w = if is_stopped w then drain_of setup w else drawn_choice setup number k w

abbrev pub Simulated : Type 0
Simulated = Machine × List (Event Note)

abbrev pub with_event : (Machine → Simulated) → Machine → Option (Machine × Event Note) → Simulated
with_event rest w None = (w, [])
with_event rest w (Some step) = ((rest step.0).0, step.1 ∷ (rest step.0).1)

abbrev pub with_choice : Setup → (Machine → Simulated) → Machine → Option Choice → Simulated
with_choice setup rest w None = (w, [])
with_choice setup rest w (Some choice) = with_event rest w (world_step (rules setup) w choice)

-- a simulation from its k-th choice on, of so many events at most: it ends where the machine is quiet
unfoldable pub drawn_from : Setup → (number k most : ℕ) → Machine → Simulated
drawn_from setup number k zero w = (w, [])
drawn_from setup number k (suc most) w =
    if is_quiet w then (w, []) else with_choice setup (λ v. drawn_from setup number (suc k) most v) w (next_choice setup number k w)
