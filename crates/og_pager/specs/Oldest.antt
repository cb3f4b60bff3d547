-- The search for the frame that was left first, frame after frame.
use Rattle.std.specs.Prelude.{ℕ, Bool, false, nat_le, Option, Some, None, if◌then◌else◌}
use Rattle.og_pager.specs.declared.Left.{Left}
use Rattle.og_pager.specs.declared.Role.{Role}
use Rattle.og_pager.specs.declared.Role.TheVariants.{Quarantined}

-- a place is known that was left no later than in the move
abbrev pub is_left_before : Option Left → ℕ → Bool
is_left_before None moved = false
is_left_before (Some left) moved = nat_le left.moved moved

-- of the place that was left first so far and another one that of both which was left first
abbrev pub older_of : Option Left → ℕ → Role → Option Left
older_of oldest place (Quarantined moved) = if is_left_before oldest moved then oldest else Some (record { place = place; moved = moved })
older_of oldest place role = oldest
