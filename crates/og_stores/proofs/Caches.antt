-- A cache whose ways have few stores, after each change of it. Nothing is needed of the cache: each way holds what some way held, or
-- what is put there.
use Rattle.std.proofs.Common.{◌%◌, ◌+◌, ◌*◌, ◌≤◌, ℕ, Bool, true, false, Option, None, Some, sym, subst, ⊎_elim, List, length, arith}
use Rattle.std.proofs.lemmas.Bool.{cases_lt}
use Rattle.std.specs.Prelude.{IfSome, is_some, option_map, if◌then◌else◌}
use Rattle.std.specs.List.{All}
use Rattle.std.proofs.lemmas.List.{get_or_past}
use Rattle.std.proofs.lemmas.List.Elements.{All-get_or, All-take, All-drop, All-set, All-replicate, All-weaker}
use Rattle.og_base.specs.declared.Block.{Block}
use Rattle.og_base.specs.Places.{held_by}
use Rattle.og_line.specs.declared.Line.{Line}
use Rattle.og_line.specs.declared.Mode.{Mode}
use Rattle.og_line.specs.declared.Mode.TheVariants as mode
use Rattle.og_line.specs.declared.Reservation.{Reservation}
use Rattle.og_line.specs.declared.Access.{Access}
use Rattle.og_line.specs.declared.Access.TheVariants.{Load, Store, Reserve, Conditional, Atomic}
use Rattle.og_line.specs.Line.{store_of}
use Rattle.og_line.specs.Access.{is_reserved, line_after}
use Rattle.og_cache.specs.declared.CachedBlock.{CachedBlock}
use Rattle.og_cache.specs.Cache.{Cached, ways_for, way_of, copy_of, mode_and_line, look_of, line_of, with_held, empty_cache, empty_way_of, filled, in_mode, with_mode, of_line, with_line, without, next_of, thrown_out, after_throwing, reserved}
use Rattle.og_processor.specs.Access.{stores, cache_after}
use Rattle.og_processor.specs.Take.{put_line}
use Rattle.og_request.specs.declared.Held.{Held}
use Rattle.og_request.specs.declared.Held.TheVariants.{Shared as ShareWith, Exclusive as GiveTo, Poison as GiveBack}
use Rattle.og_owner.specs.Owner.{after_intervention}
use Rattle.og_stores.specs.Stores.{HasFew}

-- what a way holds has seen few stores
abbrev pub FewInWay : ℕ → Option CachedBlock → Type 0
FewInWay n way = IfSome way (λ copy. copy.line.stores ≤ n)

abbrev pub FewInCache : ℕ → Cached → Type 0
FewInCache n cache = All (FewInWay n) cache.places

-- ---- what is found in a cache

ways_few : (n : ℕ) (cache : Cached) (block : Block) → FewInCache n cache → All (FewInWay n) (ways_for cache block)
ways_few n cache block few = All-take (FewInWay n) cache.ways _ (All-drop (FewInWay n) _ cache.places few)

held_few : (n : ℕ) (ways : List (Option CachedBlock)) (place : Option ℕ) → All (FewInWay n) ways → FewInWay n (held_by ways place)
held_few n ways None few = tt
held_few n ways (Some k) few = ⊎_elim (λ low. All-get_or (FewInWay n) ways k None low few) (λ past. subst (FewInWay n) (sym (get_or_past ways k None past)) tt) (cases_lt k (length ways))

copy_few : (n : ℕ) (cache : Cached) (block : Block) → FewInCache n cache → FewInWay n (copy_of cache block)
copy_few n cache block few = held_few n (ways_for cache block) (way_of cache block) (ways_few n cache block few)

pub line_few : (n : ℕ) (cache : Cached) (block : Block) → FewInCache n cache → HasFew n (line_of cache block)
unfolding look_of
line_few n cache block few = by (copy_of cache block) (copy_few n cache block few)
  where
    by : (o : Option CachedBlock) → FewInWay n o → HasFew n (option_map (λ copy. copy.1) (mode_and_line o))
    by None h = tt
    by (Some copy) h = h

pub thrown_few : (n : ℕ) (cache : Cached) (block : Block) → FewInCache n cache → FewInWay n (thrown_out cache block)
unfolding thrown_out
thrown_few n cache block few = by (is_some (way_of cache block)) (is_some (empty_way_of cache block))
  where
    by : (s t : Bool) → FewInWay n (if s then None else (if t then None else held_by (ways_for cache block) (Some (next_of cache block))))
    by true t = tt
    by false true = tt
    by false false = held_few n (ways_for cache block) (Some (next_of cache block)) (ways_few n cache block few)

-- ---- changes

pub empty_few : (n sets ways : ℕ) → FewInCache n (empty_cache sets ways)
unfolding empty_cache
empty_few n sets ways = All-replicate (FewInWay n) (sets * ways) None tt

pub more_few : (n m : ℕ) (cache : Cached) → n ≤ m → FewInCache n cache → FewInCache m cache
more_few n m cache le few = All-weaker (FewInWay n) (FewInWay m) each cache.places few
  where
    each : (way : Option CachedBlock) → FewInWay n way → FewInWay m way
    each None h = tt
    each (Some copy) h = omega arith

held_put : (n : ℕ) (cache : Cached) (block : Block) (way : Option ℕ) (held : Option CachedBlock) → FewInWay n held → FewInCache n cache → FewInCache n (with_held cache block way held)
held_put n cache block None held h few = few
held_put n cache block (Some way) held h few = All-set (FewInWay n) cache.places _ held h few

pub filled_few : (n : ℕ) (cache : Cached) (block : Block) (mode : Mode) (line : Line) → line.stores ≤ n → FewInCache n cache → FewInCache n (filled cache block mode line)
unfolding filled
filled_few n cache block mode line h few = held_put n cache block (empty_way_of cache block) (Some (record { block = block; mode = mode; line = line })) h few

pub mode_few : (n : ℕ) (cache : Cached) (block : Block) (mode : Mode) → FewInCache n cache → FewInCache n (with_mode cache block mode)
unfolding with_mode
mode_few n cache block mode few = held_put n cache block (way_of cache block) (in_mode mode (copy_of cache block)) (by (copy_of cache block) (copy_few n cache block few)) few
  where
    by : (o : Option CachedBlock) → FewInWay n o → FewInWay n (in_mode mode o)
    by None h = tt
    by (Some copy) h = h

pub lined_few : (n : ℕ) (cache : Cached) (block : Block) (line : Line) → line.stores ≤ n → FewInCache n cache → FewInCache n (with_line cache block line)
unfolding with_line
lined_few n cache block line h few = held_put n cache block (way_of cache block) (of_line line (copy_of cache block)) (by (copy_of cache block)) few
  where
    by : (o : Option CachedBlock) → FewInWay n (of_line line o)
    by None = tt
    by (Some copy) = h

pub without_few : (n : ℕ) (cache : Cached) (block : Block) → FewInCache n cache → FewInCache n (without cache block)
unfolding without
without_few n cache block few = held_put n cache block (way_of cache block) None tt few

pub reserved_few : (n : ℕ) (cache : Cached) (block : Block) → FewInCache n cache → FewInCache n (reserved cache block)
unfolding reserved
reserved_few n cache block few = by (thrown_out cache block)
  where
    by : (o : Option CachedBlock) → FewInCache n (after_throwing cache block o)
    by None = few
    by (Some copy) = All-set (FewInWay n) cache.places _ None tt few

pub intervened_few : (n : ℕ) (cache : Cached) (block : Block) (held : Held) → FewInCache n cache → FewInCache n (after_intervention cache block held)
unfolding after_intervention
intervened_few n cache block (ShareWith r) few = mode_few n cache block mode.Shared few
intervened_few n cache block (GiveTo r) few = without_few n cache block few
intervened_few n cache block GiveBack few = without_few n cache block few

-- a fill, or a change of what is there
pub put_few : (n : ℕ) (cache : Cached) (block : Block) (mode : Mode) (line : Option Line) → HasFew n line → FewInCache n cache → FewInCache n (put_line cache block mode line)
put_few n cache block mode None h few = mode_few n cache block mode few
put_few n cache block mode (Some line) h few = by (is_some (look_of cache block))
  where
    by : (t : Bool) → FewInCache n (if t then with_mode (with_line cache block line) block mode else filled cache block mode line)
    by true = mode_few n (with_line cache block line) block mode (lined_few n cache block line h few)
    by false = filled_few n cache block mode line h few

-- ---- an access: it counts itself where it stores

after_few : (n : ℕ) (line : Line) (reserved : Option Reservation) (access : Access) → line.stores ≤ n → (line_after line reserved access).stores ≤ n + 1
after_few n line reserved (Load addr width) h = omega arith
after_few n line reserved (Store addr width value) h = omega arith
after_few n line reserved (Reserve addr width) h = omega arith
after_few n line reserved (Conditional addr width value) h = by (is_reserved reserved addr width line.stores)
  where
    by : (t : Bool) → (if t then store_of line (addr % 128) width value else line).stores ≤ n + 1
    by true = omega arith
    by false = omega arith
after_few n line reserved (Atomic op addr width value) h = omega arith

pub accessed_few : (n : ℕ) (cache : Cached) (block : Block) (line : Line) (reserved : Option Reservation) (access : Access) → line.stores ≤ n → FewInCache n cache → FewInCache (n + 1) (cache_after cache block line reserved access)
accessed_few n cache block line reserved access h few = by (stores line reserved access) (lined_few (n + 1) cache block (line_after line reserved access) (after_few n line reserved access h) (more_few n (n + 1) cache (omega arith) few))
  where
    by : (t : Bool) → FewInCache (n + 1) (with_line cache block (line_after line reserved access))
        → FewInCache (n + 1) (if t then with_mode (with_line cache block (line_after line reserved access)) block mode.Dirty else with_line cache block (line_after line reserved access))
    by true f = mode_few (n + 1) (with_line cache block (line_after line reserved access)) block mode.Dirty f
    by false f = f
