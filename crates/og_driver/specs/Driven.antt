-- A machine that is driven from its start.
use Rattle.std.specs.Prelude.{◌≡◌, ℕ, ◌+◌, false, Some}
use Rattle.rand_pcg.specs.Lcg.{Lcg}
use Rattle.og_draws.specs.Draws.{after}
use Rattle.og_runs.specs.declared.Choice.{Choice}
use Rattle.og_runs.specs.declared.Event.{Event}
use Rattle.og_runs.specs.World.{world_step}
use Rattle.og_msg.specs.declared.Note.{Note}
use Rattle.og_image.specs.Image.{ImageState}
use Rattle.og_machine.specs.Machine.{start_machine, rules, is_quiet}
use Rattle.og_machine.specs.Choices.{next_choice}
use Rattle.og_engine.specs.Kept.{KeptMachine, machine_of, setup_in, IsMade}

-- the machine is at the start of the program: no event was made
pub record IsAtStart (image : ImageState) (kept : KeptMachine) : Type 0 where
  pub made : IsMade image kept
  pub start : machine_of kept ≡ start_machine (setup_in image kept)
  pub none : kept.events ≡ 0

-- the event by which a machine that isn't quiet becomes another in a simulation: that of the next choice, which takes up one word
pub record IsNextEvent (image : ImageState) (old new : KeptMachine) (draws left : Lcg) (event : Event Note) : Type 0 where
  pub unquiet : is_quiet (machine_of old) ≡ false
  pub settings : new.settings ≡ old.settings
  pub made : IsMade image new
  pub count : new.events ≡ old.events + 1
  pub step : (number k : ℕ) → draws ≡ after number k
      → (choice : Choice) × (next_choice (setup_in image old) number k (machine_of old) ≡ Some choice) × (world_step (rules (setup_in image old)) (machine_of old) choice ≡ Some (machine_of new, event))
  pub words : (number k : ℕ) → draws ≡ after number k → left ≡ after number (k + 1)

-- a generator of a simulation: some number's, after some words
abbrev pub IsDrawing : Lcg → Type 0
IsDrawing draws = (number : ℕ) × (k : ℕ) × (draws ≡ after number k)
