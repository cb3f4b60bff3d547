-- How a run that began in threads is finished: by draws while a hart runs, and by the drain once each hart has stopped.
use Rattle.std.specs.Prelude.{◌≡◌, ◌↔◌, ℕ, zero, suc, ◌-◌, Bool, false, Option, None, List, [], ◌++◌, length, if◌then◌else◌}
use Rattle.og_runs.specs.declared.Choice.{Choice}
use Rattle.og_runs.specs.declared.Event.{Event}
use Rattle.og_runs.specs.Runs.{choices, IsSorted}
use Rattle.og_msg.specs.declared.Note.{Note}
use Rattle.og_machine.specs.Machine.{Setup, Machine, is_stopped}
use Rattle.og_machine.specs.Choices.{drawn_choice, drain_of, Simulated, with_choice}
use Rattle.og_refine.specs.Laws.{RunsTo}
use Rattle.og_drain_ends.specs.Laws.{drain_most}
use Rattle.og_headline.specs.Headline.{IsPrinted}

-- the events are those of a run from the start, in the order in which they were made
abbrev pub IsRun : Setup → List (Event Note) → Type 0
IsRun setup events = (w : Machine) × RunsTo setup (choices events) w events

-- the choices that are named, one after another, so many at most: it ends where none is named
unfoldable pub made_by : Setup → (ℕ → Machine → Option Choice) → (k most : ℕ) → Machine → Simulated
made_by setup next k zero w = (w, [])
made_by setup next k (suc most) w = with_choice setup (λ v. made_by setup next (suc k) most v) w (next k w)

-- while a hart isn't stopped, the k-th draw of the number 1
abbrev pub while_running : Setup → ℕ → Machine → Option Choice
while_running setup k w = if is_stopped w then None else drawn_choice setup 1 k w

-- the second part: draws, so many at most
abbrev pub drawn_after : Setup → (most : ℕ) → Machine → Simulated
drawn_after setup most w = made_by setup (while_running setup) 0 most w

-- the drain of a stopped machine, to its end: there are never more events
abbrev pub drain_of_all : Setup → Machine → Simulated
drain_of_all setup w = made_by setup (λ k v. drain_of setup v) 0 (drain_most setup w) w

-- the last part: the drain, once each hart has stopped
abbrev pub drained_after : Setup → Machine → Simulated
drained_after setup w = if is_stopped w then drain_of_all setup w else (w, [])

-- behind the events of the parts before, which end in a machine, the last part
abbrev pub with_drain : Setup → List (Event Note) → Simulated → Simulated
with_drain setup merged drawn = ((drained_after setup drawn.0).0, merged ++ drawn.1 ++ (drained_after setup drawn.0).1)

-- all three parts, of which the merged events lead to `begun`: where they end, and the events in the order in which they are made.
-- So many are drawn that there are no more than `most` before the drain
abbrev pub finished : Setup → (most : ℕ) → (merged : List (Event Note)) → (begun : Machine) → Simulated
finished setup most merged begun = with_drain setup merged (drawn_after setup (most - length merged) begun)

-- the run that begins with merged events, sorted by stamp
pub record IsThreadRun (setup : Setup) (most : ℕ) (merged events : List (Event Note)) (quiet : Bool) : Type 0 where
  pub printed : IsPrinted setup events quiet
  -- the choices of the merged events make just these events, and lead to `begun`
  pub begun : Machine
  pub begins : RunsTo setup (choices merged) begun merged
  -- the events are those of all three parts, and their last state is the parts' end
  pub is_sorted : IsSorted (finished setup most merged begun).1 events
  pub end_is : printed.end ≡ (finished setup most merged begun).0
  -- it isn't quiet exactly where `most` events were made and a hart isn't stopped
  pub limit : (quiet ≡ false) ↔ ((length events ≡ most) × (is_stopped printed.end ≡ false))
