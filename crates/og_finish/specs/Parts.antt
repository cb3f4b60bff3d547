-- What one event, and what a part of a run, adds to a list of events; and what all parts come to.
use Rattle.std.specs.Prelude.{◌≡◌, ℕ, ◌+◌, ◌-◌, true, Some, List, [], ◌∷◌, ◌++◌, length}
use Rattle.og_runs.specs.declared.Choice.{Choice}
use Rattle.og_runs.specs.declared.Event.{Event}
use Rattle.og_runs.specs.Runs.{choices}
use Rattle.og_runs.specs.World.{world_step}
use Rattle.og_msg.specs.declared.Note.{Note}
use Rattle.og_machine.specs.Machine.{Setup, Machine, rules, is_stopped, is_quiet}
use Rattle.og_machine.specs.Choices.{Simulated}
use Rattle.og_refine.specs.Laws.{RunsTo}
use Rattle.og_engine.specs.Kept.{KeptMachine, machine_of}
use Rattle.og_finish.specs.Finish.{drawn_after, finished}

-- the choice leads from m to n by one event, which stands behind the others
pub record Makes (setup : Setup) (choice : Choice) (m n : KeptMachine) (before after : List (Event Note)) : Type 0 where
  pub event : Event Note
  pub step : world_step (rules setup) (machine_of m) choice ≡ Some (machine_of n, event)
  pub list : after ≡ before ++ event ∷ []
  pub counted : n.events ≡ m.events + 1

-- the part leads to w, and its events stand behind the others
pub record Adds (part : Simulated) (w : Machine) (before after : List (Event Note)) : Type 0 where
  pub end : w ≡ part.0
  pub list : after ≡ before ++ part.1

-- the parts lead to w with these events; and w is quiet where each hart had stopped after the draws
pub record IsFinished (setup : Setup) (most : ℕ) (merged : List (Event Note)) (w : Machine) (events : List (Event Note)) : Type 0 where
  pub begun : Machine
  pub begins : RunsTo setup (choices merged) begun merged
  pub made : (w, events) ≡ finished setup most merged begun
  pub drained : is_stopped (drawn_after setup (most - length merged) begun).0 ≡ true → is_quiet w ≡ true
