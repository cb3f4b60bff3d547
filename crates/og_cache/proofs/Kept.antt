-- A cache stays one, after one way of one set has changed.
use Rattle.std.proofs.Common.{◌≡◌, ◌≢◌, ℕ, ◌<◌, ◌+◌, ◌*◌, true, Option, None, length, get_or, sym, ◌∙◌, ap, subst, inl, inr, ◌⊎◌}
use Rattle.std.proofs.Math.ListN.{set, length-set}
use Rattle.std.proofs.lemmas.List.{get_or-set_same, get_or-set_other}
use Rattle.std.proofs.lemmas.Bool.{cases_eq}
use Rattle.og_base.specs.declared.Block.{Block}
use Rattle.og_cache.specs.declared.CachedBlock.{CachedBlock}
use Rattle.og_cache.specs.Cache.{Cached, IsCache, set_of, ways_in, ways_for, is_way_of, with_way}
use Rattle.og_cache.proofs.Sets.{part_same, part_other, part_length}

-- what a way of a set may hold: a block of that set that no other of its ways holds
abbrev pub Suits : Cached → ℕ → ℕ → Option CachedBlock → Type 0
Suits c s way held =
    (block : Block) → is_way_of block held ≡ true
    → (set_of c block ≡ s) × ((j : ℕ) → is_way_of block (get_or (ways_in c s) j None) ≡ true → j ≡ way)

module _ (c : Cached) (sound : IsCache c) (s way : ℕ) (held : Option CachedBlock) (set_inside : s < c.sets) (inside : way < c.ways) (suits : Suits c s way held) where
  changed : Cached
  changed = with_way c s way held

  ways_same : ways_in (with_way c s way held) s ≡ set (ways_in c s) way held
  ways_same = part_same c.places c.ways s way held inside

  ways_other : (t : ℕ) → t ≢ s → ways_in (with_way c s way held) t ≡ ways_in c t
  ways_other t differ = part_other c.places c.ways s way t held inside differ

  way_inside : way < length (ways_in c s)
  way_inside = subst (λ n. way < n) (sym (part_length c.places c.ways s c.sets sound.has_ways set_inside sound.all_places)) inside

  -- what holds a block after the change: the changed way, of its set, or a way that held it before
  holds_after : (j : ℕ) (block : Block) → is_way_of block (get_or (set (ways_in c s) way held) j None) ≡ true → ((j ≡ way) × (is_way_of block held ≡ true)) ⊎ ((j ≢ way) × (is_way_of block (get_or (ways_in c s) j None) ≡ true))
  holds_after j block there = by_place (cases_eq j way)
    where
      by_place : (j ≡ way) ⊎ (j ≡ way → ⊥) → ((j ≡ way) × (is_way_of block held ≡ true)) ⊎ ((j ≢ way) × (is_way_of block (get_or (ways_in c s) j None) ≡ true))
      by_place (inl same) = inl (same, sym (ap (is_way_of block) (ap (λ n. get_or (set (ways_in c s) way held) n None) same ∙ get_or-set_same (ways_in c s) way held None way_inside)) ∙ there)
      by_place (inr differ) = inr (differ, sym (ap (is_way_of block) (get_or-set_other (ways_in c s) way j held None differ)) ∙ there)

  kept_in_its_set : (t j : ℕ) (block : Block) → is_way_of block (get_or (ways_in (with_way c s way held) t) j None) ≡ true → set_of c block ≡ t
  kept_in_its_set t j block there = by_set (cases_eq t s)
    where
      by_set : (t ≡ s) ⊎ (t ≡ s → ⊥) → set_of c block ≡ t
      by_set (inl same) = by_way (holds_after j block (sym (ap (λ ways. is_way_of block (get_or ways j None)) (ap (ways_in (with_way c s way held)) same ∙ ways_same)) ∙ there)) ∙ sym same
        where
          by_way : ((j ≡ way) × (is_way_of block held ≡ true)) ⊎ ((j ≢ way) × (is_way_of block (get_or (ways_in c s) j None) ≡ true)) → set_of c block ≡ s
          by_way (inl new) = (suits block new.1).0
          by_way (inr old) = sound.in_its_set s j block old.1
      by_set (inr differ) = sound.in_its_set t j block (sym (ap (λ ways. is_way_of block (get_or ways j None)) (ways_other t differ)) ∙ there)

  kept_once : (first second : ℕ) (block : Block) → is_way_of block (get_or (ways_for (with_way c s way held) block) first None) ≡ true → is_way_of block (get_or (ways_for (with_way c s way held) block) second None) ≡ true → first ≡ second
  kept_once first second block there again = by_set (cases_eq (set_of c block) s)
    where
      by_set : (set_of c block ≡ s) ⊎ (set_of c block ≡ s → ⊥) → first ≡ second
      by_set (inl same) = by_ways (holds_after first block (moved first there)) (holds_after second block (moved second again))
        where
          moved : (j : ℕ) → is_way_of block (get_or (ways_in (with_way c s way held) (set_of c block)) j None) ≡ true → is_way_of block (get_or (set (ways_in c s) way held) j None) ≡ true
          moved j h = sym (ap (λ ways. is_way_of block (get_or ways j None)) (ap (ways_in (with_way c s way held)) same ∙ ways_same)) ∙ h

          before : (j : ℕ) → is_way_of block (get_or (ways_in c s) j None) ≡ true → is_way_of block (get_or (ways_in c (set_of c block)) j None) ≡ true
          before j h = ap (λ t. is_way_of block (get_or (ways_in c t) j None)) same ∙ h

          by_ways : ((first ≡ way) × (is_way_of block held ≡ true)) ⊎ ((first ≢ way) × (is_way_of block (get_or (ways_in c s) first None) ≡ true)) → ((second ≡ way) × (is_way_of block held ≡ true)) ⊎ ((second ≢ way) × (is_way_of block (get_or (ways_in c s) second None) ≡ true)) → first ≡ second
          by_ways (inl a) (inl b) = a.0 ∙ sym b.0
          by_ways (inl a) (inr b) = absurd (b.0 ((suits block a.1).1 second b.1))
          by_ways (inr a) (inl b) = absurd (a.0 ((suits block b.1).1 first a.1))
          by_ways (inr a) (inr b) = sound.once first second block (before first a.1) (before second b.1)
      by_set (inr differ) = sound.once first second block (moved first there) (moved second again)
        where
          moved : (j : ℕ) → is_way_of block (get_or (ways_in (with_way c s way held) (set_of c block)) j None) ≡ true → is_way_of block (get_or (ways_in c (set_of c block)) j None) ≡ true
          moved j h = sym (ap (λ ways. is_way_of block (get_or ways j None)) (ways_other (set_of c block) differ)) ∙ h

  pub kept-with_way : IsCache (with_way c s way held)
  kept-with_way = record {
    has_sets = sound.has_sets;
    has_ways = sound.has_ways;
    all_places = length-set c.places (s * c.ways + way) held ∙ sound.all_places;
    all_next = sound.all_next;
    next_are_ways = sound.next_are_ways;
    in_its_set = kept_in_its_set;
    once = kept_once;
  }
