-- The drain of a stopped machine that a run leads to ends in a quiet one.
use Rattle.std.specs.Prelude.{◌≡◌, ◌≤◌, ℕ, zero, suc, ◌+◌, ◌*◌, true, Some, List, length}
use Rattle.og_runs.specs.declared.Choice.{Choice}
use Rattle.og_runs.specs.declared.Event.{Event}
use Rattle.og_runs.specs.World.{world_step}
use Rattle.og_msg.specs.declared.Note.{Note}
use Rattle.og_machine.specs.Machine.{Setup, Machine, rules, is_stopped, is_quiet}
use Rattle.og_machine.specs.Choices.{drain_of, drawn_from}
use Rattle.og_refine.specs.Machines.{IsRunnable}
use Rattle.og_refine.specs.Laws.{RunsTo}

-- the drain's events, one after the other, so many of them, lead from w to u
abbrev pub DrainsBy : Setup → ℕ → Machine → Machine → Type 0
DrainsBy setup zero w u = w ≡ u
DrainsBy setup (suc n) w u =
    (choice : Choice) × (v : Machine) × (event : Event Note) × (drain_of setup w ≡ Some choice) × (world_step (rules setup) w choice ≡ Some (v, event)) × DrainsBy setup n v u

-- the bound: by the number of nodes and of messages in flight
abbrev pub drain_most : Setup → Machine → ℕ
drain_most setup w = 64 * (32 + length w.flight) * (setup.settings.nodes + 4)

-- so many events, at most, lead to a quiet machine
abbrev pub DrainEnds : Type 0
DrainEnds =
    (setup : Setup) (choices : List Choice) (w : Machine) (events : List (Event Note))
    → IsRunnable setup → RunsTo setup choices w events → is_stopped w ≡ true
    → (n : ℕ) × (u : Machine) × (n ≤ drain_most setup w) × DrainsBy setup n w u × (is_quiet u ≡ true)

-- a simulation that may go on for so many events more, whatever number it draws from, ends in a quiet machine
abbrev pub SimulationsEndQuiet : Type 0
SimulationsEndQuiet =
    (setup : Setup) (choices : List Choice) (w : Machine) (events : List (Event Note)) (number k most : ℕ)
    → IsRunnable setup → RunsTo setup choices w events → is_stopped w ≡ true → drain_most setup w ≤ most
    → is_quiet (drawn_from setup number k most w).0 ≡ true
