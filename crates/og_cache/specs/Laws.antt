-- What a look-up answers after each call that changes a cache: for the block of the call, and for every other block.
use Rattle.std.specs.Prelude.{◌≡◌, ◌≢◌, ◌↔◌, ◌≤◌, ℕ, true, false, Some, None, IsSome, option_map}
use Rattle.og_base.specs.declared.Block.{Block}
use Rattle.og_line.specs.declared.Mode.{Mode}
use Rattle.og_line.specs.declared.Line.{Line}
use Rattle.og_cache.specs.declared.CachedBlock.{CachedBlock}
use Rattle.og_cache.specs.Cache.{Cached, IsCache, look_of, empty_cache, has_room, filled, with_mode, with_line, without, thrown_out, reserved}

-- a new cache is a cache, has no block, and has room for each
pub record NewIsEmpty : Type 0 where
  pub sound : (sets ways : ℕ) → 1 ≤ sets → 1 ≤ ways → IsCache (empty_cache sets ways)
  pub nothing : (sets ways : ℕ) (block : Block) → look_of (empty_cache sets ways) block ≡ None

-- a fill leaves the block with that mode and line, and every other block as it was
pub record FillIsSeen : Type 0 where
  pub own : (cache : Cached) (block : Block) (mode : Mode) (line : Line) → IsCache cache → look_of cache block ≡ None → has_room cache block ≡ true → look_of (filled cache block mode line) block ≡ Some (mode, line)
  pub others : (cache : Cached) (block other : Block) (mode : Mode) (line : Line) → IsCache cache → other ≢ block → look_of (filled cache block mode line) other ≡ look_of cache other
  pub sound : (cache : Cached) (block : Block) (mode : Mode) (line : Line) → IsCache cache → look_of cache block ≡ None → IsCache (filled cache block mode line)

-- a change of mode leaves the block's line, and every other block as it was; a block that isn't there stays out
pub record ModeIsSeen : Type 0 where
  pub own : (cache : Cached) (block : Block) (mode : Mode) → IsCache cache → look_of (with_mode cache block mode) block ≡ option_map (λ copy. (mode, copy.1)) (look_of cache block)
  pub others : (cache : Cached) (block other : Block) (mode : Mode) → IsCache cache → other ≢ block → look_of (with_mode cache block mode) other ≡ look_of cache other
  pub absent : (cache : Cached) (block : Block) (mode : Mode) → look_of cache block ≡ None → with_mode cache block mode ≡ cache
  pub room : (cache : Cached) (block other : Block) (mode : Mode) → IsCache cache → has_room (with_mode cache block mode) other ≡ has_room cache other
  pub sound : (cache : Cached) (block : Block) (mode : Mode) → IsCache cache → IsCache (with_mode cache block mode)

-- a change of the line leaves the block's mode, and every other block as it was; a block that isn't there stays out
pub record LineIsSeen : Type 0 where
  pub own : (cache : Cached) (block : Block) (line : Line) → IsCache cache → look_of (with_line cache block line) block ≡ option_map (λ copy. (copy.0, line)) (look_of cache block)
  pub others : (cache : Cached) (block other : Block) (line : Line) → IsCache cache → other ≢ block → look_of (with_line cache block line) other ≡ look_of cache other
  pub absent : (cache : Cached) (block : Block) (line : Line) → look_of cache block ≡ None → with_line cache block line ≡ cache
  pub room : (cache : Cached) (block other : Block) (line : Line) → IsCache cache → has_room (with_line cache block line) other ≡ has_room cache other
  pub sound : (cache : Cached) (block : Block) (line : Line) → IsCache cache → IsCache (with_line cache block line)

-- a block that was taken out isn't there, its set has room then, and every other block is as it was
pub record TakeOutIsSeen : Type 0 where
  pub own : (cache : Cached) (block : Block) → IsCache cache → look_of (without cache block) block ≡ None
  pub others : (cache : Cached) (block other : Block) → IsCache cache → other ≢ block → look_of (without cache block) other ≡ look_of cache other
  pub absent : (cache : Cached) (block : Block) → look_of cache block ≡ None → without cache block ≡ cache
  pub makes_room : (cache : Cached) (block : Block) → IsCache cache → IsSome (look_of cache block) → has_room (without cache block) block ≡ true
  pub room : (cache : Cached) (block other : Block) → IsCache cache → has_room cache other ≡ true → has_room (without cache block) other ≡ true
  pub sound : (cache : Cached) (block : Block) → IsCache cache → IsCache (without cache block)

-- a reserve for a block that isn't there leaves room for it. It throws something out exactly where there was none, and that
-- was there, is gone, and is another block; every other block is as it was
pub record ReserveIsSeen : Type 0 where
  pub throws : (cache : Cached) (block : Block) → IsCache cache → IsSome (thrown_out cache block) ↔ ((look_of cache block ≡ None) × (has_room cache block ≡ false))
  pub was_there : (cache : Cached) (block : Block) (out : CachedBlock) → IsCache cache → thrown_out cache block ≡ Some out → look_of cache out.block ≡ Some (out.mode, out.line)
  pub gone : (cache : Cached) (block : Block) (out : CachedBlock) → IsCache cache → thrown_out cache block ≡ Some out → look_of (reserved cache block) out.block ≡ None
  pub others : (cache : Cached) (block other : Block) (out : CachedBlock) → IsCache cache → thrown_out cache block ≡ Some out → other ≢ out.block → look_of (reserved cache block) other ≡ look_of cache other
  pub nothing : (cache : Cached) (block : Block) → thrown_out cache block ≡ None → reserved cache block ≡ cache
  pub own : (cache : Cached) (block : Block) → IsCache cache → look_of (reserved cache block) block ≡ look_of cache block
  pub room : (cache : Cached) (block : Block) → IsCache cache → look_of cache block ≡ None → has_room (reserved cache block) block ≡ true
  pub sound : (cache : Cached) (block : Block) → IsCache cache → IsCache (reserved cache block)
