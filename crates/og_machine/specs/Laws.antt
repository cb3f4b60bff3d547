-- What follows from the definitions alone, of every state of a machine.
use Rattle.std.specs.Prelude.{◌≡◌, ◌↔◌, ℕ, true, None, Some, IsSome, slice_get}
use Rattle.og_runs.specs.declared.Choice.{Choice}
use Rattle.og_runs.specs.declared.Choice.TheVariants.{Act, Take}
use Rattle.og_runs.specs.declared.MsgId.{MsgId}
use Rattle.og_runs.specs.declared.Msg.{Msg}
use Rattle.og_runs.specs.declared.Seat.{Seat}
use Rattle.og_runs.specs.World.{world_step, find}
use Rattle.og_msg.specs.declared.Kind.{Kind}
use Rattle.og_machine.specs.Machine.{Setup, ActorState, Machine, rules, has_row, refusal_of}

-- an act is refused exactly where it has no step
abbrev pub ActsHaveSteps : Type 0
ActsHaveSteps =
    (setup : Setup) (w : Machine) (actor : ℕ)
    → (refusal_of setup w (Act actor) ≡ None) ↔ IsSome (world_step (rules setup) w (Act actor))

-- a choice that has a step isn't refused
abbrev pub StepsAreEnabled : Type 0
StepsAreEnabled =
    (setup : Setup) (w : Machine) (choice : Choice)
    → IsSome (world_step (rules setup) w choice) → refusal_of setup w choice ≡ None

-- a take that isn't refused, of a message that has a row at its receiver, has a step
abbrev pub TakesWithRowsHaveSteps : Type 0
TakesWithRowsHaveSteps =
    (setup : Setup) (w : Machine) (actor : ℕ) (id : MsgId) (x : Seat ActorState) (message : Msg Kind)
    → refusal_of setup w (Take actor id) ≡ None
    → slice_get w.seats actor ≡ Some x → find id w.flight ≡ Some message → has_row x.local message ≡ true
    → IsSome (world_step (rules setup) w (Take actor id))
