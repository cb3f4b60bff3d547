-- The storm's one line.
use Rattle.std.specs.Prelude.{◌≡◌, ℕ, zero, suc, ◌+◌, ◌*◌, ◌/◌, ◌%◌, ◌^◌, ◌⊎◌, Bool, true, false, Option, None, Some, Result, Ok, Err, List, [], ◌∷◌, ◌++◌, length, codes, decimal, if◌then◌else◌, ⊤}
use Rattle.og_base.specs.declared.Settings.{Settings}
use Rattle.og_line.specs.declared.Line.{Line}
use Rattle.og_line.specs.Line.{load_of}
use Rattle.og_runs.specs.declared.Event.{Event}
use Rattle.og_msg.specs.declared.Note.{Note}
use Rattle.og_image.specs.Storm.{storm_of}
use Rattle.og_io.specs.Outside.{SinkState}
use Rattle.og_io.specs.Sinks.{with_appended, CutByFault, CutByWant}
use Rattle.og_io.specs.declared.SinkFault.{SinkFault}
use Rattle.og_io.specs.declared.SinkFault.TheVariants as sink
use Rattle.og_machine.specs.Machine.{Setup, Machine, setup_of, is_quiet}
use Rattle.og_machine.specs.Held.{held}
use Rattle.og_headline.specs.Headline.{IsFaithful, drawn}
use Rattle.og_driver.specs.Tallied.{moves_of}
use Rattle.og_print.specs.declared.fault.RunFault.{RunFault}
use Rattle.og_print.specs.declared.fault.RunFault.TheVariants as fault
use Rattle.og_print.specs.Runs.{frames_fault, TextEnds}

-- the sum of the first k doublewords of a line
abbrev pub line_sum : ℕ → Line → ℕ
line_sum zero line = 0
line_sum (suc k) line = line_sum k line + load_of line (8 * k) 8

abbrev pub held_sum : Option Line → ℕ
held_sum None = 0
held_sum (Some line) = line_sum 16 line

-- the sum of the doublewords in the first k blocks from address 0x100000 on, of which each page has 32: of the lines that the machine
-- holds for them
abbrev pub blocks_sum : Machine → ℕ → ℕ
blocks_sum w zero = 0
blocks_sum w (suc k) = blocks_sum w k + held_sum (held w (record { 0 = 256 + k / 32 }) (k % 32))

-- of the 4,096 doublewords at 0x100000, modulo 2^64
unfoldable pub storm_sum : Machine → ℕ
storm_sum w = blocks_sum w 256 % 2 ^ 64

-- `storm N LOOPS`, with the number of nodes, and what stands behind it
abbrev pub storm_line : (nodes loops : ℕ) → List ℕ → List ℕ
storm_line nodes loops end = codes "storm " ++ (decimal nodes ++ (codes " " ++ (decimal loops ++ end)))

-- ` sum S moves M events E`
abbrev pub quiet_end : (sum moves count : ℕ) → List ℕ
quiet_end sum moves count = codes " sum " ++ (decimal sum ++ (codes " moves " ++ (decimal moves ++ (codes " events " ++ (decimal count ++ 10 ∷ [])))))

-- ` limit E`
abbrev pub limit_end : (count : ℕ) → List ℕ
limit_end count = codes " limit " ++ (decimal count ++ 10 ∷ [])

-- the line of a storm: with the sum and the moves where the end is quiet
abbrev pub storm_end : Machine → List (Event Note) → Bool → List ℕ
storm_end w events true = quiet_end (storm_sum w) (moves_of events) (length events)
storm_end w events false = limit_end (length events)

abbrev pub storm_text : (nodes loops : ℕ) → Machine × List (Event Note) → List ℕ
storm_text nodes loops end = storm_line nodes loops (storm_end end.0 end.1 (is_quiet end.0))

-- the setup of the storm of a number
abbrev pub storm_setup : (number loops : ℕ) → Settings → Setup
storm_setup number loops settings = setup_of (storm_of number loops settings.nodes) settings

-- how the writing of a line ends
abbrev pub LineEnds : List ℕ → SinkState → SinkState → Result ⊤ SinkFault → Type 0
LineEnds text old new (Ok done) = new ≡ with_appended old text
LineEnds text old new (Err sink.Failed) = CutByFault text old new
LineEnds text old new (Err sink.Memory) = CutByWant text old new

-- and what is answered to it
abbrev pub answer_of : Result ⊤ SinkFault → Bool → Result Bool RunFault
answer_of (Ok done) quiet = Ok quiet
answer_of (Err sink.Failed) quiet = Err fault.Unwritten
answer_of (Err sink.Memory) quiet = Err fault.Memory

-- the program was placed, and the writing of the line of the run that is drawn from the number ended so; what is claimed of a printed run
-- holds of that one
abbrev pub Storms : (number loops : ℕ) → Settings → (most : ℕ) → SinkState → SinkState → Result Bool RunFault → Type 0
Storms number loops settings most old new result =
    let run = drawn (storm_setup number loops settings) number most in
    (frames_fault (storm_of number loops settings.nodes) settings ≡ None) × IsFaithful (storm_setup number loops settings) run.1 run.0 × TextEnds (storm_text settings.nodes loops run) (is_quiet run.0) old new result

-- how the storm ends: with its line, that of the run that is drawn from its number; with too few frames; or for want of memory
abbrev pub StormEnds : (number loops : ℕ) → Settings → (most : ℕ) → SinkState → SinkState → Result Bool RunFault → Type 0
StormEnds number loops settings most old new (Err (fault.Image f)) = (new ≡ old) × (frames_fault (storm_of number loops settings.nodes) settings ≡ Some f)
StormEnds number loops settings most old new (Err fault.Unread) = ⊥
StormEnds number loops settings most old new (Err fault.ChoicesUnread) = ⊥
StormEnds number loops settings most old new (Err (fault.Choices f)) = ⊥
StormEnds number loops settings most old new (Err fault.Memory) = (new ≡ old) ⊎ Storms number loops settings most old new (Err fault.Memory)
StormEnds number loops settings most old new result = Storms number loops settings most old new result
