-- A cache seen as a function of the numbers of frame and block.
use Rattle.std.specs.Prelude.{ℕ, nat_lt, cond, Option, None, Some}
use Rattle.og_line.specs.declared.Line.{Line}
use Rattle.og_line.specs.declared.Mode.{Mode}
use Rattle.og_line.specs.declared.Mode.TheVariants as mode
use Rattle.og_block.specs.State.{Copy, NoCopy, Shared, Clean, Dirty}
use Rattle.og_cache.specs.Cache.{Cached, look_of}
use Rattle.og_seen.specs.Numbers.{Sizes, frame_count, block_at}

-- a copy in a mode
abbrev pub copy_in : Mode → Line → Copy Line
copy_in mode.Shared line = Shared line
copy_in mode.Clean line = Clean line
copy_in mode.Dirty line = Dirty line

abbrev pub copy_seen : Option (Mode × Line) → Copy Line
copy_seen None = NoCopy
copy_seen (Some copy) = copy_in copy.0 copy.1

-- the copies of blocks that the machine has
abbrev pub cache_seen : Sizes → Cached → ℕ → ℕ → Copy Line
cache_seen s cache f k = cond (nat_lt f (frame_count s)) (copy_seen (look_of cache (block_at s f k))) NoCopy
