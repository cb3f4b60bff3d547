-- What a cache has of each block, after one way of one set has changed.
use Rattle.std.proofs.Common.{◌≡◌, ◌≢◌, ℕ, ◌<◌, true, false, Option, Some, None, length, get_or, refl, sym, ◌∙◌, ap, subst, arith, inl, inr, ◌⊎◌}
use Rattle.std.proofs.Math.ListN.{set}
use Rattle.std.proofs.lemmas.List.Quantifiers.{position-Some}
use Rattle.std.proofs.lemmas.Bool.{cases_eq}
use Rattle.og_base.specs.declared.Block.{Block}
use Rattle.og_base.proofs.SameNames.{same_block, other_block}
use Rattle.og_base.specs.Places.{held_by, found_in}
use Rattle.og_cache.specs.declared.CachedBlock.{CachedBlock}
use Rattle.og_cache.specs.Cache.{Cached, IsCache, set_of, ways_in, ways_for, is_way_of, way_of, copy_of, with_way}
use Rattle.og_base.proofs.FoundPlaces.{found-set_other}
use Rattle.og_cache.proofs.Sets.{part_same, part_other, part_length}

-- a way holds one block at most
pub one_block : (block other : Block) (held : Option CachedBlock) → other ≢ block → is_way_of block held ≡ true → is_way_of other held ≡ false
one_block block other None differ here = refl
one_block block other (Some copy) differ here = other_block copy.block other (λ e. differ (sym e ∙ same_block copy.block block here))

module _ (c : Cached) (sound : IsCache c) where
  pub set_below : (block : Block) → set_of c block < c.sets
  set_below block = omega (arith, sound.has_sets)

  pub ways_length : (block : Block) → length (ways_for c block) ≡ c.ways
  ways_length block = part_length c.places c.ways (set_of c block) c.sets sound.has_ways (set_below block) sound.all_places

  -- the block's own set
  pub copy_of-with_way_own : (block : Block) (way : ℕ) (held : Option CachedBlock) → way < c.ways → copy_of (with_way c (set_of c block) way held) block ≡ found_in (set (ways_for c block) way held) (is_way_of block)
  copy_of-with_way_own block way held h = ap (λ ways. found_in ways (is_way_of block)) (part_same c.places c.ways (set_of c block) way held h)

  -- a block that the way doesn't hold, before and after
  pub copy_of-with_way_other : (set_ way : ℕ) (held : Option CachedBlock) (other : Block) → way < c.ways → is_way_of other (get_or (ways_in c set_) way None) ≡ false → is_way_of other held ≡ false → copy_of (with_way c set_ way held) other ≡ copy_of c other
  copy_of-with_way_other s way held other h before after = by_set (cases_eq (set_of c other) s)
    where
      by_set : (set_of c other ≡ s) ⊎ (set_of c other ≡ s → ⊥) → copy_of (with_way c s way held) other ≡ copy_of c other
      by_set (inl same) =
          rw (ap (λ ways. found_in ways (is_way_of other)) (part_at same)) (found-set_other (is_way_of other) (ways_for c other) refl way held (rw same before) after)
        where
          part_at : set_of c other ≡ s → ways_in (with_way c s way held) (set_of c other) ≡ set (ways_for c other) way held
          part_at e = rw e (part_same c.places c.ways s way held h)
      by_set (inr differ) = ap (λ ways. found_in ways (is_way_of other)) (part_other c.places c.ways s way (set_of c other) held h differ)

  -- what is known of a way that a look-up gives
  pub way_below : (block : Block) (way : ℕ) → way_of c block ≡ Some way → way < c.ways
  way_below block way e = subst (λ n. way < n) (ways_length block) (position-Some (is_way_of block) (ways_for c block) way None e).0

  pub way_holds : (block : Block) (way : ℕ) → way_of c block ≡ Some way → is_way_of block (get_or (ways_for c block) way None) ≡ true
  way_holds block way e = (position-Some (is_way_of block) (ways_for c block) way None e).1

  pub first_holds : (block : Block) (way : ℕ) → way_of c block ≡ Some way → (j : ℕ) → j < way → is_way_of block (get_or (ways_for c block) j None) ≡ false
  first_holds block way e = (position-Some (is_way_of block) (ways_for c block) way None e).2

  pub copy_of-at : (block : Block) (place : Option ℕ) → way_of c block ≡ place → copy_of c block ≡ held_by (ways_for c block) place
  copy_of-at block place e = ap (held_by (ways_for c block)) e
