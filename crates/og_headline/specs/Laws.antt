-- What holds of every run of the machine from the start of a program, and of every simulation.
use Rattle.std.specs.Prelude.{◌≡◌, ℕ, ◌≤◌, false, None, Some, IsSome, List, length}
use Rattle.og_base.specs.declared.NotEnabled.{NotEnabled}
use Rattle.og_runs.specs.declared.Choice.{Choice}
use Rattle.og_runs.specs.declared.Event.{Event}
use Rattle.og_runs.specs.Runs.{choices, IsSorted}
use Rattle.og_runs.specs.World.{world_step}
use Rattle.og_msg.specs.declared.Note.{Note}
use Rattle.og_machine.specs.Machine.{Setup, Machine, rules, refusal_of, is_quiet}
use Rattle.og_machine.specs.Choices.{next_choice}
use Rattle.og_refine.specs.Machines.{IsRunnable}
use Rattle.og_refine.specs.Laws.{RunsTo}
use Rattle.og_headline.specs.Headline.{IsPrinted, IsFaithful, IsRefused, drawn}

-- the events of a run, in the order of their stamps, are a printed one, which is quiet where the run's end is
abbrev pub RunsArePrinted : Type 0
RunsArePrinted =
    (setup : Setup) (given : List Choice) (w : Machine) (events sorted : List (Event Note))
    → IsRunnable setup → RunsTo setup given w events → IsSorted events sorted
    → IsPrinted setup sorted (is_quiet w)

-- the choices of a run are those that its events name
abbrev pub RunsNameChoices : Type 0
RunsNameChoices =
    (setup : Setup) (given : List Choice) (w : Machine) (events : List (Event Note))
    → RunsTo setup given w events
    → choices events ≡ given

-- what a simulation draws is a run from the start, of so many events at most, and of just so many where its end isn't quiet
abbrev pub SimulationsAreRuns : Type 0
SimulationsAreRuns =
    (setup : Setup) (number most : ℕ)
    → IsRunnable setup
    → RunsTo setup (choices (drawn setup number most).1) (drawn setup number most).0 (drawn setup number most).1
    × (length (drawn setup number most).1 ≤ most)
    × (is_quiet (drawn setup number most).0 ≡ false → length (drawn setup number most).1 ≡ most)

-- and of that run holds what holds of a printed one
abbrev pub SimulationsAreFaithful : Type 0
SimulationsAreFaithful =
    (setup : Setup) (number most : ℕ)
    → IsRunnable setup
    → IsFaithful setup (drawn setup number most).1 (drawn setup number most).0

-- where a machine isn't quiet there is a next choice of a simulation, whichever draw it comes to; it is enabled and has a step
abbrev pub SimulationsGoOn : Type 0
SimulationsGoOn =
    (setup : Setup) (given : List Choice) (w : Machine) (events : List (Event Note)) (number k : ℕ)
    → IsRunnable setup → RunsTo setup given w events → is_quiet w ≡ false
    → (choice : Choice) × (next_choice setup number k w ≡ Some choice) × (refusal_of setup w choice ≡ None) × IsSome (world_step (rules setup) w choice)

-- choices of which one is refused lead nowhere
abbrev pub RefusedChoicesAreNoRun : Type 0
RefusedChoicesAreNoRun =
    (setup : Setup) (given : List Choice) (at : ℕ) (why : NotEnabled) (w : Machine) (events : List (Event Note))
    → IsRefused setup given at why → RunsTo setup given w events → ⊥
