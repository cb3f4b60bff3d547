-- What contracts see of a cache: a finite map from blocks to mode, line and way, and of each set the way that it throws
-- out next. The map is listed way by way, set after set. Above this crate a cache is `look_of`, and a way is never named.
use Rattle.std.specs.Prelude.{◌≡◌, ℕ, ◌+◌, ◌*◌, ◌%◌, ◌<◌, ◌≤◌, Bool, true, false, Option, Some, None, List, take, drop, length, slice_index, slice_index_or, slice_set, position, is_none, is_some, option_map, replicate, if◌then◌else◌}
use Rattle.og_base.specs.declared.Block.{Block}
use Rattle.og_base.specs.Names.{is_same_block}
use Rattle.og_base.specs.Places.{held_by, found_in}
use Rattle.og_line.specs.declared.Mode.{Mode}
use Rattle.og_line.specs.declared.Line.{Line}
use Rattle.og_cache.specs.declared.CachedBlock.{CachedBlock}

pub record Cached : Type 0 where
  pub sets : ℕ
  pub ways : ℕ
  -- what each way holds, set after set
  pub places : List (Option CachedBlock)
  -- of each set, the way that it throws out next
  pub next : List ℕ

-- the set of a block
abbrev pub set_of : Cached → Block → ℕ
set_of cache block = (block.frame.index * 32 + block.number) % cache.sets

-- the ways of a set
abbrev pub ways_in : Cached → ℕ → List (Option CachedBlock)
ways_in cache set = take cache.ways (drop (set * cache.ways) cache.places)

-- the ways that may hold a block
abbrev pub ways_for : Cached → Block → List (Option CachedBlock)
ways_for cache block = ways_in cache (set_of cache block)

-- a way holds the block
abbrev pub is_way_of : Block → Option CachedBlock → Bool
is_way_of block None = false
is_way_of block (Some copy) = is_same_block copy.block block

-- the block's way, if it is there
abbrev pub way_of : Cached → Block → Option ℕ
way_of cache block = position (is_way_of block) (ways_for cache block)

-- the lowest empty way of the block's set, if there is one
abbrev pub empty_way_of : Cached → Block → Option ℕ
empty_way_of cache block = position is_none (ways_for cache block)

-- the block's copy, if it is there
abbrev pub copy_of : Cached → Block → Option CachedBlock
copy_of cache block = found_in (ways_for cache block) (is_way_of block)

-- mode and line of a copy
abbrev pub mode_and_line : Option CachedBlock → Option (Mode × Line)
mode_and_line None = None
mode_and_line (Some copy) = Some (copy.mode, copy.line)

-- mode and line of a block, if it is there: what a cache is
unfoldable pub look_of : Cached → Block → Option (Mode × Line)
look_of cache block = mode_and_line (copy_of cache block)

-- the mode of a block
abbrev pub mode_of : Cached → Block → Option Mode
mode_of cache block = option_map (λ copy. copy.0) (look_of cache block)

-- the line of a block
abbrev pub line_of : Cached → Block → Option Line
line_of cache block = option_map (λ copy. copy.1) (look_of cache block)

-- the cache with this in a way of a set
abbrev pub with_way : Cached → (set way : ℕ) → Option CachedBlock → Cached
with_way cache set way held = record cache { places = slice_set cache.places (set * cache.ways + way) held }

-- the cache with this in a way of the block's set, or as it was where there is no such way
abbrev pub with_held : Cached → Block → Option ℕ → Option CachedBlock → Cached
with_held cache block None held = cache
with_held cache block (Some way) held = with_way cache (set_of cache block) way held

-- a cache in which nothing is
unfoldable pub empty_cache : (sets ways : ℕ) → Cached
empty_cache sets ways = record {
  sets = sets;
  ways = ways;
  places = replicate (sets * ways) None;
  next = replicate sets 0;
}

-- the block's set has an empty way
unfoldable pub has_room : Cached → Block → Bool
has_room cache block = is_some (empty_way_of cache block)

-- the cache with the block in the lowest empty way of its set
unfoldable pub filled : Cached → Block → Mode → Line → Cached
filled cache block mode line =
    with_held cache block (empty_way_of cache block) (Some (record { block = block; mode = mode; line = line }))

-- a copy in another mode
abbrev pub in_mode : Mode → Option CachedBlock → Option CachedBlock
in_mode mode None = None
in_mode mode (Some copy) = Some (record copy { mode = mode })

-- the cache with the block in another mode
unfoldable pub with_mode : Cached → Block → Mode → Cached
with_mode cache block mode = with_held cache block (way_of cache block) (in_mode mode (copy_of cache block))

-- a copy with another line
abbrev pub of_line : Line → Option CachedBlock → Option CachedBlock
of_line line None = None
of_line line (Some copy) = Some (record copy { line = line })

-- the cache with another line for the block
unfoldable pub with_line : Cached → Block → Line → Cached
with_line cache block line = with_held cache block (way_of cache block) (of_line line (copy_of cache block))

-- the cache without the block
unfoldable pub without : Cached → Block → Cached
without cache block = with_held cache block (way_of cache block) None

-- the way that the block's set throws out next
abbrev pub next_of : Cached → Block → ℕ
next_of cache block = slice_index cache.next (set_of cache block)

-- what a reserve of a way for the block throws out: nothing where the block is there, nothing where its set has an empty
-- way, else what the set's next way holds
unfoldable pub thrown_out : Cached → Block → Option CachedBlock
thrown_out cache block =
    if is_some (way_of cache block)
    then None
    else (if is_some (empty_way_of cache block) then None else held_by (ways_for cache block) (Some (next_of cache block)))

-- the cache without what the next way of the block's set holds; the way after it, round the set, is the next then
abbrev pub after_throwing : Cached → Block → Option CachedBlock → Cached
after_throwing cache block None = cache
after_throwing cache block (Some copy) =
    record (with_way cache (set_of cache block) (next_of cache block) None) {
      next = slice_set cache.next (set_of cache block) ((next_of cache block + 1) % cache.ways);
    }

-- the cache after a reserve of a way for the block
unfoldable pub reserved : Cached → Block → Cached
reserved cache block = after_throwing cache block (thrown_out cache block)

-- what every cache is: of the size that its numbers say, with each block in its own set, and there once
pub record IsCache (cache : Cached) : Type 0 where
  pub has_sets : 1 ≤ cache.sets
  pub has_ways : 1 ≤ cache.ways
  pub all_places : length cache.places ≡ cache.sets * cache.ways
  pub all_next : length cache.next ≡ cache.sets
  pub next_are_ways : (set : ℕ) → slice_index cache.next set < cache.ways
  pub in_its_set : (set way : ℕ) (block : Block) → is_way_of block (slice_index_or (ways_in cache set) way None) ≡ true → set_of cache block ≡ set
  pub once : (first second : ℕ) (block : Block) → is_way_of block (slice_index_or (ways_for cache block) first None) ≡ true → is_way_of block (slice_index_or (ways_for cache block) second None) ≡ true → first ≡ second
