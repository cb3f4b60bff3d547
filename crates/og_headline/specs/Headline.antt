-- What is claimed of a printed run: a run of the machine from its start, flat, with one writer, and with the flat memory's lines at each moment.
use Rattle.std.specs.Prelude.{◌≡◌, ℕ, ◌+◌, ◌*◌, ◌/◌, ◌%◌, ◌<◌, ◌≤◌, Bool, false, Some, List, ◌∷◌, ◌++◌, length, slice_get, slice_index_or}
use Rattle.og_base.specs.declared.NotEnabled.{NotEnabled}
use Rattle.og_runs.specs.declared.Choice.{Choice}
use Rattle.og_runs.specs.declared.Event.{Event}
use Rattle.og_runs.specs.Runs.{choices, IsSorted, Strict}
use Rattle.og_msg.specs.declared.Note.{Note}
use Rattle.og_machine.specs.Machine.{Setup, Machine, start_machine, refusal_of, is_quiet}
use Rattle.og_machine.specs.Choices.{drawn_from}
use Rattle.og_machine.specs.FlatRun.{FlatRun, hart_notes}
use Rattle.og_machine.specs.OneWriter.{OneWriter}
use Rattle.og_machine.specs.Held.{held, held_byte}
use Rattle.og_refine.specs.Laws.{RunsTo, flat_of}

-- a machine to which a run of these events led: no block has two writable copies; and the line that it holds for each block of each
-- placed page, and each byte of such a page, is the flat memory's after what harts noted
pub record CopiesAreFlat (setup : Setup) (events : List (Event Note)) (w : Machine) : Type 0 where
  pub one_writer : OneWriter w
  pub lines : (y page number : ℕ) → slice_get setup.layout.pages y ≡ Some page → number < 32
      → held w (record { 0 = page }) number ≡ Some ((flat_of setup events).memory (page * 32 + number))
  pub bytes : (y address : ℕ) → slice_get setup.layout.pages y ≡ Some (address / 4096)
      → held_byte w address ≡ Some (slice_index_or ((flat_of setup events).memory (address / 128)).bytes (address % 128) 0)

-- the events, in this order, are a run of the machine from its start, and it ends quiet or not
pub record IsPrinted (setup : Setup) (events : List (Event Note)) (quiet : Bool) : Type 0 where
  -- the last state
  pub end : Machine
  -- the choices of the events, in their order, lead from the start to the end, with just these events
  pub run : RunsTo setup (choices events) end events
  -- the stamps rise strictly
  pub strict : Strict events
  -- it is quiet exactly where the end is
  pub quiet_is : quiet ≡ is_quiet end
  -- what harts noted, in this order, is a run of one flat memory
  pub flat : FlatRun setup.image setup.settings (hart_notes events)
  -- in each state of the run the copies are the flat memory's after the events so far
  pub copies : (before after : List (Event Note)) (w : Machine) → events ≡ before ++ after → RunsTo setup (choices before) w before
      → CopiesAreFlat setup before w

-- what is claimed of a run in the order in which it was made, which isn't printed
pub record IsFaithful (setup : Setup) (events : List (Event Note)) (end : Machine) : Type 0 where
  -- the choices of the events lead from the start to the end, with just these events
  pub run : RunsTo setup (choices events) end events
  -- what harts noted, in this order, is a run of one flat memory
  pub flat : FlatRun setup.image setup.settings (hart_notes events)
  -- in each state of the run the copies are the flat memory's after the events so far
  pub copies : (before after : List (Event Note)) (w : Machine) → events ≡ before ++ after → RunsTo setup (choices before) w before → CopiesAreFlat setup before w

-- what a simulation makes: where it leads, and its events in the order in which they are made
abbrev pub drawn : Setup → (number most : ℕ) → Machine × List (Event Note)
drawn setup number most = drawn_from setup number 0 most (start_machine setup)

-- the run of a simulation that draws from a number, of so many events at most: all were made where it isn't quiet
pub record IsSimulation (setup : Setup) (number most : ℕ) (events : List (Event Note)) (quiet : Bool) : Type 0 where
  pub printed : IsPrinted setup events quiet
  pub is_drawn : IsSorted (drawn setup number most).1 events
  pub within : length events ≤ most
  pub full : quiet ≡ false → length events ≡ most

-- the run of the choices that are given
pub record IsReplay (setup : Setup) (given : List Choice) (events : List (Event Note)) (quiet : Bool) : Type 0 where
  pub printed : IsPrinted setup events quiet
  -- the events of the given choices, in their order, and where they lead
  pub made : List (Event Note)
  pub end : Machine
  pub run : RunsTo setup given end made
  pub is_sorted : IsSorted made events

-- of the choices that are given, those before this place are a run; and the one at this place is refused, for this reason
pub record IsRefused (setup : Setup) (given : List Choice) (at : ℕ) (why : NotEnabled) : Type 0 where
  pub before : List Choice
  pub after : List Choice
  pub choice : Choice
  pub are_given : given ≡ before ++ choice ∷ after
  pub place : length before ≡ at
  pub made : List (Event Note)
  pub reached : Machine
  pub run : RunsTo setup before reached made
  pub refused : refusal_of setup reached choice ≡ Some why
