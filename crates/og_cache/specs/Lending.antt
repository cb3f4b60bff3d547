-- How a cache lends the line of a block.
use Rattle.std.specs.Borrow.{Lends, MutBor, Fml}
use Rattle.og_base.specs.declared.Block.{Block}
use Rattle.og_line.specs.declared.Line.{Line}
use Rattle.og_line.specs.contracts.Line.{the_row as line_row}
use Rattle.og_cache.specs.Cache.{Cached, with_line}
use Rattle.og_cache.specs.contracts.Cache.{the_row}

-- the cache ends with the last line behind the reference as the block's
abbrev pub LendsLine : MutBor Cached → Block → MutBor Line → Fml
LendsLine cache block line = Lends the_row line_row cache line (with_line cache.now block)
