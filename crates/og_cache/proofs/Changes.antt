-- What a cache has of each block after each kind of change.
use Rattle.std.proofs.Common.{◌≡◌, ◌≢◌, ℕ, ◌<◌, ◌≤◌, Bool, true, false, cond, Option, Some, None, List, length, get_or, refl, sym, ◌∙◌, ap, subst, arith, is_some, is_none, inl, inr, ◌⊎◌}
use Rattle.std.proofs.Math.ListN.{set, length-set}
use Rattle.std.proofs.lemmas.List.{get_or-set_same, get_or-set_other, set_past}
use Rattle.std.proofs.lemmas.List.Quantifiers.{position-Some}
use Rattle.std.proofs.lemmas.Bool.{false≢true, cases_eq, cases_lt}
use Rattle.std.specs.List.{position}
use Rattle.og_base.specs.declared.Block.{Block}
use Rattle.og_base.proofs.SameNames.{is_same_block-self, same_block, other_block}
use Rattle.og_line.specs.declared.Mode.{Mode}
use Rattle.og_line.specs.declared.Line.{Line}
use Rattle.og_cache.specs.declared.CachedBlock.{CachedBlock}
use Rattle.og_cache.specs.Cache.{Cached, IsCache, set_of, ways_in, ways_for, is_way_of, way_of, empty_way_of, copy_of, with_way, with_held, has_room, filled, next_of, thrown_out, after_throwing, reserved}
use Rattle.og_base.proofs.First.{position-set, is_some-position}
use Rattle.og_base.proofs.FoundPlaces.{found-set_first, found-None, found-emptied, found-at, fails_everywhere}
use Rattle.og_cache.proofs.Sets.{part_same, part_other}
use Rattle.og_cache.proofs.Copies.{one_block, set_below, ways_length, copy_of-with_way_own, copy_of-with_way_other, way_below, way_holds, first_holds, copy_of-at}
use Rattle.og_cache.proofs.Kept.{Suits, kept-with_way}

-- an empty way holds no block
empty_way : (block : Block) (held : Option CachedBlock) → is_none held ≡ true → is_way_of block held ≡ false
empty_way block None e = refl
empty_way block (Some copy) e = absurd (false≢true e)

module _ (c : Cached) (sound : IsCache c) where
  pub way_in_ways : (block : Block) (way : ℕ) → way < c.ways → way < length (ways_for c block)
  way_in_ways block way h = subst (λ n. way < n) (sym (ways_length c sound block)) h

  -- the block's copy changes to one of the same block, or goes
  pub copy_of-with_held_own : (block : Block) (held : Option CachedBlock) → (copy_of c block ≡ None → held ≡ None) → (is_way_of block (copy_of c block) ≡ true → is_way_of block held ≡ true) → copy_of (with_held c block (way_of c block) held) block ≡ held
  copy_of-with_held_own block held goes stays = by_place (way_of c block) refl
    where
      by_place : (place : Option ℕ) → way_of c block ≡ place → copy_of (with_held c block place held) block ≡ held
      by_place None e = copy_of-at c sound block None e ∙ sym (goes (copy_of-at c sound block None e))
      by_place (Some way) e =
          copy_of-with_way_own c sound block way held (way_below c sound block way e)
          ∙ found-set_first (is_way_of block) (ways_for c block) refl way held (way_in_ways block way (way_below c sound block way e)) (stays (ap (is_way_of block) (copy_of-at c sound block (Some way) e) ∙ way_holds c sound block way e)) (first_holds c sound block way e)

  pub copy_of-with_held_other : (block other : Block) (held : Option CachedBlock) → other ≢ block → is_way_of other held ≡ false → copy_of (with_held c block (way_of c block) held) other ≡ copy_of c other
  copy_of-with_held_other block other held differ after = by_place (way_of c block) refl
    where
      by_place : (place : Option ℕ) → way_of c block ≡ place → copy_of (with_held c block place held) other ≡ copy_of c other
      by_place None e = refl
      by_place (Some way) e =
          copy_of-with_way_other c sound (set_of c block) way held other (way_below c sound block way e) (one_block block other _ differ (way_holds c sound block way e)) after

  -- the block's copy goes
  pub copy_of-emptied : (block : Block) → copy_of (with_held c block (way_of c block) None) block ≡ None
  copy_of-emptied block = by_place (way_of c block) refl
    where
      by_place : (place : Option ℕ) → way_of c block ≡ place → copy_of (with_held c block place None) block ≡ None
      by_place None e = copy_of-at c sound block None e
      by_place (Some way) e =
          copy_of-with_way_own c sound block way None (way_below c sound block way e)
          ∙ found-emptied (is_way_of block) (ways_for c block) refl way (way_holds c sound block way e) (λ first second. sound.once first second block)

  -- what suits a way of a block's set: what names only the block that the way held
  suits-same : (block : Block) (way : ℕ) (held : Option CachedBlock) → ((x : Block) → is_way_of x held ≡ true → is_way_of x (get_or (ways_for c block) way None) ≡ true) → Suits c (set_of c block) way held
  suits-same block way held same x there =
      (in_set, λ j again. sound.once j way x (moved j again) (moved way (same x there)))
    where
      in_set : set_of c x ≡ set_of c block
      in_set = sound.in_its_set (set_of c block) way x (same x there)

      moved : (j : ℕ) → is_way_of x (get_or (ways_for c block) j None) ≡ true → is_way_of x (get_or (ways_for c x) j None) ≡ true
      moved j h = ap (λ t. is_way_of x (get_or (ways_in c t) j None)) in_set ∙ h

  pub kept-with_held : (block : Block) (held : Option CachedBlock) → ((x : Block) → is_way_of x held ≡ true → is_way_of x (copy_of c block) ≡ true) → IsCache (with_held c block (way_of c block) held)
  kept-with_held block held same = by_place (way_of c block) refl
    where
      by_place : (place : Option ℕ) → way_of c block ≡ place → IsCache (with_held c block place held)
      by_place None e = sound
      by_place (Some way) e =
          kept-with_way c sound (set_of c block) way held (set_below c sound block) (way_below c sound block way e) (suits-same block way held (λ x h. sym (ap (is_way_of x) (copy_of-at c sound block (Some way) e)) ∙ same x h))

  -- a fill
  pub empty_way_below : (block : Block) (way : ℕ) → empty_way_of c block ≡ Some way → way < c.ways
  empty_way_below x n h = subst (λ k. n < k) (ways_length c sound x) (position-Some is_none (ways_for c x) n None h).0

  filled_place : (block : Block) (mode : Mode) (line : Line) (way : ℕ) → way_of c block ≡ None → empty_way_of c block ≡ Some way → copy_of (with_way c (set_of c block) way (Some (record { block = block; mode = mode; line = line }))) block ≡ Some (record { block = block; mode = mode; line = line })
  filled_place block mode line way absent e =
      copy_of-with_way_own c sound block way _ (empty_way_below block way e)
      ∙ found-set_first (is_way_of block) (ways_for c block) refl way _ (way_in_ways block way (empty_way_below block way e)) (is_same_block-self block) (λ j h. fails_everywhere (is_way_of block) (ways_for c block) refl j absent)

  pub way_of-None : (block : Block) → copy_of c block ≡ None → way_of c block ≡ None
  way_of-None block h = found-None (is_way_of block) (ways_for c block) refl h

  pub copy_of-filled : (block : Block) (mode : Mode) (line : Line) → copy_of c block ≡ None → has_room c block ≡ true → copy_of (filled c block mode line) block ≡ Some (record { block = block; mode = mode; line = line })
  unfolding filled has_room
  copy_of-filled block mode line absent room = by_place (empty_way_of c block) refl room
    where
      by_place : (place : Option ℕ) → empty_way_of c block ≡ place → is_some place ≡ true → copy_of (with_held c block place (Some (record { block = block; mode = mode; line = line }))) block ≡ Some (record { block = block; mode = mode; line = line })
      by_place None e some = absurd (false≢true some)
      by_place (Some way) e some = filled_place block mode line way (way_of-None block absent) e

  pub copy_of-filled_other : (block other : Block) (mode : Mode) (line : Line) → other ≢ block → copy_of (filled c block mode line) other ≡ copy_of c other
  unfolding filled
  copy_of-filled_other block other mode line differ = by_place (empty_way_of c block) refl
    where
      by_place : (place : Option ℕ) → empty_way_of c block ≡ place → copy_of (with_held c block place (Some (record { block = block; mode = mode; line = line }))) other ≡ copy_of c other
      by_place None e = refl
      by_place (Some way) e =
          copy_of-with_way_other c sound (set_of c block) way _ other (empty_way_below block way e) (empty_way other _ (position-Some is_none (ways_for c block) way None e).1) (other_block block other (λ same. differ (sym same)))

  pub kept-filled : (block : Block) (mode : Mode) (line : Line) → copy_of c block ≡ None → IsCache (filled c block mode line)
  unfolding filled
  kept-filled block mode line absent = by_place (empty_way_of c block) refl
    where
      by_place : (place : Option ℕ) → empty_way_of c block ≡ place → IsCache (with_held c block place (Some (record { block = block; mode = mode; line = line })))
      by_place None e = sound
      by_place (Some way) e =
          kept-with_way c sound (set_of c block) way _ (set_below c sound block) (empty_way_below block way e) suits
        where
          suits : Suits c (set_of c block) way (Some (record { block = block; mode = mode; line = line }))
          suits x there = subst (λ y. (set_of c y ≡ set_of c block) × ((j : ℕ) → is_way_of y (get_or (ways_for c block) j None) ≡ true → j ≡ way)) (same_block block x there) (refl, λ j again. absurd (false≢true (sym (fails_everywhere (is_way_of block) (ways_for c block) refl j (way_of-None block absent)) ∙ again)))

  -- room in a set
  pub room-emptied_own : (block : Block) (way : ℕ) → way < c.ways → has_room (with_way c (set_of c block) way None) block ≡ true
  unfolding has_room
  room-emptied_own block way h =
      rw (part_same c.places c.ways (set_of c block) way None h) (is_some-position is_none (set (ways_for c block) way None) way None (rw length-set (way_in_ways block way h)) (ap is_none (get_or-set_same (ways_for c block) way None None (way_in_ways block way h))))

  pub room-emptied : (s way : ℕ) (other : Block) → way < c.ways → has_room c other ≡ true → has_room (with_way c s way None) other ≡ true
  unfolding has_room
  room-emptied s way other h room = by_set (cases_eq (set_of c other) s)
    where
      by_set : (set_of c other ≡ s) ⊎ (set_of c other ≡ s → ⊥) → is_some (position is_none (ways_in (with_way c s way None) (set_of c other))) ≡ true
      by_set (inr differ) = ap (λ ways. is_some (position is_none ways)) (part_other c.places c.ways s way (set_of c other) None h differ) ∙ room
      by_set (inl same) = subst (λ t. is_some (position is_none (ways_in (with_way c t way None) (set_of c other))) ≡ true) same own
        where
          own : is_some (position is_none (ways_in (with_way c (set_of c other) way None) (set_of c other))) ≡ true
          own = room-emptied_own other way h

  pub room-same : (s way : ℕ) (held : Option CachedBlock) (other : Block) → way < c.ways → is_none held ≡ is_none (get_or (ways_in c s) way None) → has_room (with_way c s way held) other ≡ has_room c other
  unfolding has_room
  room-same s way held other h same_test = by_set (cases_eq (set_of c other) s)
    where
      by_set : (set_of c other ≡ s) ⊎ (set_of c other ≡ s → ⊥) → is_some (position is_none (ways_in (with_way c s way held) (set_of c other))) ≡ is_some (position is_none (ways_in c (set_of c other)))
      by_set (inr differ) = ap (λ ways. is_some (position is_none ways)) (part_other c.places c.ways s way (set_of c other) held h differ)
      by_set (inl same) = rw same (ap (λ ways. is_some (position is_none ways)) (part_same c.places c.ways s way held h) ∙ ap is_some (position-set is_none (ways_in c s) way held None same_test))

  -- what a reserve threw out: the block wasn't there, its set had no empty way, and the next way held that
  pub thrown_how : (block : Block) (out : CachedBlock) → thrown_out c block ≡ Some out → (way_of c block ≡ None) × (is_some (empty_way_of c block) ≡ false) × (get_or (ways_for c block) (next_of c block) None ≡ Some out)
  unfolding thrown_out
  thrown_how block out h = by_cases (way_of c block) (is_some (empty_way_of c block)) h
    where
      by_cases : (place : Option ℕ) (room : Bool) → cond (is_some place) None (cond room None (get_or (ways_for c block) (next_of c block) None)) ≡ Some out → (place ≡ None) × (room ≡ false) × (get_or (ways_for c block) (next_of c block) None ≡ Some out)
      by_cases None true e = absurd (cc)
      by_cases None false e = (refl, refl, e)
      by_cases (Some way) room e = absurd (cc)

  pub next_below : (block : Block) → next_of c block < c.ways
  next_below block = sound.next_are_ways (set_of c block)

  -- the block that is thrown out stands in the set
  out_in_set : (block : Block) (out : CachedBlock) → thrown_out c block ≡ Some out → is_way_of out.block (get_or (ways_for c block) (next_of c block) None) ≡ true
  out_in_set block out h = rw ((thrown_how block out h).2) (is_same_block-self out.block)

  same_set : (block : Block) (out : CachedBlock) → thrown_out c block ≡ Some out → set_of c out.block ≡ set_of c block
  same_set block out h = sound.in_its_set (set_of c block) (next_of c block) out.block (out_in_set block out h)

  pub copy_of-thrown : (block : Block) (out : CachedBlock) → thrown_out c block ≡ Some out → copy_of c out.block ≡ Some out
  copy_of-thrown block out h =
      found-at (is_way_of out.block) (ways_for c out.block) refl (next_of c block) (way_in_ways out.block (next_of c block) (next_below block)) (moved (out_in_set block out h)) (λ first second. sound.once first second out.block)
      ∙ (ap (λ t. get_or (ways_in c t) (next_of c block) None) (same_set block out h) ∙ (thrown_how block out h).2)
    where
      moved : is_way_of out.block (get_or (ways_for c block) (next_of c block) None) ≡ true → is_way_of out.block (get_or (ways_for c out.block) (next_of c block) None) ≡ true
      moved there = ap (λ t. is_way_of out.block (get_or (ways_in c t) (next_of c block) None)) (same_set block out h) ∙ there

  pub gone-thrown : (block : Block) (out : CachedBlock) → thrown_out c block ≡ Some out → copy_of (with_way c (set_of c block) (next_of c block) None) out.block ≡ None
  gone-thrown block out h =
      ap (λ t. copy_of (with_way c t (next_of c block) None) out.block) (sym (same_set block out h))
      ∙ (copy_of-with_way_own c sound out.block (next_of c block) None (next_below block)
      ∙ found-emptied (is_way_of out.block) (ways_for c out.block) refl (next_of c block) (ap (λ t. is_way_of out.block (get_or (ways_in c t) (next_of c block) None)) (same_set block out h) ∙ out_in_set block out h) (λ first second. sound.once first second out.block))

  pub others-thrown : (block other : Block) (out : CachedBlock) → thrown_out c block ≡ Some out → other ≢ out.block → copy_of (with_way c (set_of c block) (next_of c block) None) other ≡ copy_of c other
  others-thrown block other out h differ =
      copy_of-with_way_other c sound (set_of c block) (next_of c block) None other (next_below block) (one_block out.block other _ differ (out_in_set block out h)) refl

  -- what is thrown out is another block
  pub other-thrown : (block : Block) (out : CachedBlock) → thrown_out c block ≡ Some out → block ≢ out.block
  other-thrown block out h same =
      false≢true (sym (fails_everywhere (is_way_of block) (ways_for c block) refl (next_of c block) (thrown_how block out h).0) ∙ subst (λ x. is_way_of x (get_or (ways_for c block) (next_of c block) None) ≡ true) (sym same) (out_in_set block out h))

  next_kept : (next : List ℕ) (s way : ℕ) → ((t : ℕ) → get_or next t 0 < c.ways) → way < c.ways → (t : ℕ) → get_or (set next s way) t 0 < c.ways
  next_kept next s way before inside t = by_place (cases_eq t s) (cases_lt s (length next))
    where
      by_place : (t ≡ s) ⊎ (t ≡ s → ⊥) → (s < length next) ⊎ (length next ≤ s) → get_or (set next s way) t 0 < c.ways
      by_place (inr differ) place = rw (get_or-set_other next s t way 0 differ) (before t)
      by_place (inl same) (inl here) = rw (same, get_or-set_same next s way 0 here) inside
      by_place (inl same) (inr past) = rw (set_past next s way past) (before t)

  pub kept-reserved : (block : Block) → IsCache (reserved c block)
  unfolding reserved
  kept-reserved block = by_out (thrown_out c block)
    where
      emptied : IsCache (with_way c (set_of c block) (next_of c block) None)
      emptied = kept-with_way c sound (set_of c block) (next_of c block) None (set_below c sound block) (next_below block) (λ x there. absurd (false≢true there))

      by_out : (out : Option CachedBlock) → IsCache (after_throwing c block out)
      by_out None = sound
      by_out (Some out) = record {
        has_sets = sound.has_sets;
        has_ways = sound.has_ways;
        all_places = emptied.all_places;
        all_next = length-set c.next (set_of c block) _ ∙ sound.all_next;
        next_are_ways = next_kept c.next (set_of c block) _ sound.next_are_ways (omega (arith, sound.has_ways));
        in_its_set = emptied.in_its_set;
        once = emptied.once;
      }
