-- The moves among events.
use Rattle.std.specs.Prelude.{◌≡◌, ℕ, ◌+◌, Bool, true, false, Option, Some, List, [], ◌∷◌, if◌then◌else◌}
use Rattle.og_runs.specs.declared.Event.{Event}
use Rattle.og_msg.specs.declared.Note.{Note}
use Rattle.og_msg.specs.declared.Note.TheVariants.{Moved}
use Rattle.rand_pcg.specs.Lcg.{Lcg}
use Rattle.og_image.specs.Image.{ImageState}
use Rattle.og_engine.specs.Kept.{KeptMachine}
use Rattle.og_driver.specs.Driven.{IsNextEvent}

-- a move was published
abbrev pub is_move : Option Note → Bool
is_move (Some (Moved page old new)) = true
is_move noted = false

-- the moves that were published
abbrev pub moves_of : List (Event Note) → ℕ
moves_of [] = 0
moves_of (e ∷ es) = (if is_move e.note then 1 else 0) + moves_of es

-- the next event of a simulation notes so many moves
abbrev pub IsNextTallied : ImageState → (old new : KeptMachine) → (draws left : Lcg) → (moves : ℕ) → Type 0
IsNextTallied image old new draws left moves =
    (event : Event Note) × IsNextEvent image old new draws left event × (moves ≡ (if is_move event.note then 1 else 0))
