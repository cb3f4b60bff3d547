-- The laws on look-ups, from what is known of copies.
use Rattle.std.proofs.Common.{◌≡◌, ◌≢◌, ◌↔◌, ℕ, ◌≤◌, ◌+◌, ◌*◌, Bool, true, false, cond, Option, Some, None, List, get_or, replicate, take, drop, refl, sym, ◌∙◌, ap, subst, arith, is_some, is_none, inl, inr, IsSome, option_map}
use Rattle.std.proofs.lemmas.List.{get_or-replicate, get_or_past, length-replicate, get_or-take, get_or-drop, length-take}
use Rattle.std.proofs.lemmas.Bool.{false≢true, cases_lt}
use Rattle.og_base.specs.declared.Block.{Block}
use Rattle.og_line.specs.declared.Mode.{Mode}
use Rattle.og_line.specs.declared.Line.{Line}
use Rattle.og_base.specs.Places.{held_by}
use Rattle.og_cache.specs.declared.CachedBlock.{CachedBlock}
use Rattle.og_cache.specs.Cache.{Cached, IsCache, set_of, ways_in, ways_for, is_way_of, way_of, empty_way_of, copy_of, mode_and_line, look_of, empty_cache, with_held, has_room, filled, in_mode, with_mode, of_line, with_line, without, next_of, thrown_out, after_throwing, reserved}
use Rattle.og_cache.specs.Laws.{NewIsEmpty, FillIsSeen, ModeIsSeen, LineIsSeen, TakeOutIsSeen, ReserveIsSeen}
use Rattle.og_base.proofs.First.{position-absent, position-none}
use Rattle.og_base.proofs.FoundPlaces.{found-None}
use Rattle.og_cache.proofs.Copies.{one_block, copy_of-at, way_below, way_holds}
use Rattle.og_cache.proofs.Changes.{copy_of-with_held_own, copy_of-with_held_other, copy_of-emptied, kept-with_held, copy_of-filled, copy_of-filled_other, kept-filled, way_of-None, room-emptied_own, room-emptied, room-same, thrown_how, copy_of-thrown, gone-thrown, others-thrown, other-thrown, kept-reserved, next_below, way_in_ways}

no_copy : (held : Option CachedBlock) → mode_and_line held ≡ None → held ≡ None
no_copy None e = refl
no_copy (Some copy) e = absurd (cc)

pub look-None : (c : Cached) (block : Block) → look_of c block ≡ None → copy_of c block ≡ None
unfolding look_of
look-None c block h = no_copy (copy_of c block) h

-- the way that a change of a copy's mode or line leaves holds the same block
pub is_way_of-in_mode : (block : Block) (mode : Mode) (held : Option CachedBlock) → is_way_of block (in_mode mode held) ≡ is_way_of block held
is_way_of-in_mode block mode None = refl
is_way_of-in_mode block mode (Some copy) = refl

pub is_way_of-of_line : (block : Block) (line : Line) (held : Option CachedBlock) → is_way_of block (of_line line held) ≡ is_way_of block held
is_way_of-of_line block line None = refl
is_way_of-of_line block line (Some copy) = refl

-- another block's way isn't this block's
other_copy : (c : Cached) (block other : Block) → IsCache c → other ≢ block → is_way_of other (copy_of c block) ≡ false
other_copy c block other sound differ = by_place (way_of c block) refl
  where
    by_place : (place : Option ℕ) → way_of c block ≡ place → is_way_of other (held_by (ways_for c block) place) ≡ false
    by_place None e = refl
    by_place (Some way) e = one_block block other _ differ (way_holds c sound block way e)

reserve_nothing : (c : Cached) (block : Block) → thrown_out c block ≡ None → reserved c block ≡ c
unfolding reserved
reserve_nothing c block e = ap (after_throwing c block) e

module _ (c : Cached) (sound : IsCache c) where
  fill_own : (block : Block) (mode : Mode) (line : Line) → look_of c block ≡ None → has_room c block ≡ true → look_of (filled c block mode line) block ≡ Some (mode, line)
  unfolding look_of
  fill_own block mode line absent room = ap mode_and_line (copy_of-filled c sound block mode line (no_copy (copy_of c block) absent) room)

  fill_others : (block other : Block) (mode : Mode) (line : Line) → other ≢ block → look_of (filled c block mode line) other ≡ look_of c other
  unfolding look_of
  fill_others block other mode line differ = ap mode_and_line (copy_of-filled_other c sound block other mode line differ)

  mode_own : (block : Block) (mode : Mode) → look_of (with_mode c block mode) block ≡ option_map (λ copy. (mode, copy.1)) (look_of c block)
  unfolding look_of with_mode
  mode_own block mode =
      ap mode_and_line (copy_of-with_held_own c sound block (in_mode mode (copy_of c block)) (λ e. ap (in_mode mode) e) (λ e. is_way_of-in_mode block mode (copy_of c block) ∙ e)) ∙ by_copy (copy_of c block)
    where
      by_copy : (held : Option CachedBlock) → mode_and_line (in_mode mode held) ≡ option_map (λ copy. (mode, copy.1)) (mode_and_line held)
      by_copy None = refl
      by_copy (Some copy) = refl

  mode_others : (block other : Block) (mode : Mode) → other ≢ block → look_of (with_mode c block mode) other ≡ look_of c other
  unfolding look_of with_mode
  mode_others block other mode differ = ap mode_and_line (copy_of-with_held_other c sound block other _ differ (is_way_of-in_mode other mode (copy_of c block) ∙ other_copy c block other sound differ))

  line_own : (block : Block) (line : Line) → look_of (with_line c block line) block ≡ option_map (λ copy. (copy.0, line)) (look_of c block)
  unfolding look_of with_line
  line_own block line =
      ap mode_and_line (copy_of-with_held_own c sound block (of_line line (copy_of c block)) (λ e. ap (of_line line) e) (λ e. is_way_of-of_line block line (copy_of c block) ∙ e)) ∙ by_copy (copy_of c block)
    where
      by_copy : (held : Option CachedBlock) → mode_and_line (of_line line held) ≡ option_map (λ copy. (copy.0, line)) (mode_and_line held)
      by_copy None = refl
      by_copy (Some copy) = refl

  line_others : (block other : Block) (line : Line) → other ≢ block → look_of (with_line c block line) other ≡ look_of c other
  unfolding look_of with_line
  line_others block other line differ = ap mode_and_line (copy_of-with_held_other c sound block other _ differ (is_way_of-of_line other line (copy_of c block) ∙ other_copy c block other sound differ))

  out_own : (block : Block) → look_of (without c block) block ≡ None
  unfolding look_of without
  out_own block = ap mode_and_line (copy_of-emptied c sound block)

  out_others : (block other : Block) → other ≢ block → look_of (without c block) other ≡ look_of c other
  unfolding look_of without
  out_others block other differ = ap mode_and_line (copy_of-with_held_other c sound block other None differ refl)

  -- room
  place_room : (block other : Block) (held : Option CachedBlock) → is_none held ≡ is_none (copy_of c block) → has_room (with_held c block (way_of c block) held) other ≡ has_room c other
  place_room block other held same = by_place (way_of c block) refl
    where
      by_place : (place : Option ℕ) → way_of c block ≡ place → has_room (with_held c block place held) other ≡ has_room c other
      by_place None e = refl
      by_place (Some way) e = room-same c sound (set_of c block) way held other (way_below c sound block way e) (same ∙ ap is_none (copy_of-at c sound block (Some way) e))

  mode_room : (block other : Block) (mode : Mode) → has_room (with_mode c block mode) other ≡ has_room c other
  unfolding with_mode
  mode_room block other mode = place_room block other (in_mode mode (copy_of c block)) (by_copy (copy_of c block))
    where
      by_copy : (held : Option CachedBlock) → is_none (in_mode mode held) ≡ is_none held
      by_copy None = refl
      by_copy (Some copy) = refl

  line_room : (block other : Block) (line : Line) → has_room (with_line c block line) other ≡ has_room c other
  unfolding with_line
  line_room block other line = place_room block other (of_line line (copy_of c block)) (by_copy (copy_of c block))
    where
      by_copy : (held : Option CachedBlock) → is_none (of_line line held) ≡ is_none held
      by_copy None = refl
      by_copy (Some copy) = refl

  out_room : (block other : Block) → has_room c other ≡ true → has_room (without c block) other ≡ true
  unfolding without
  out_room block other room = by_place (way_of c block) refl
    where
      by_place : (place : Option ℕ) → way_of c block ≡ place → has_room (with_held c block place None) other ≡ true
      by_place None e = room
      by_place (Some way) e = room-emptied c sound (set_of c block) way other (way_below c sound block way e) room

  out_makes_room : (block : Block) → IsSome (look_of c block) → has_room (without c block) block ≡ true
  unfolding without look_of
  out_makes_room block there = by_place (way_of c block) refl there
    where
      by_place : (place : Option ℕ) → way_of c block ≡ place → IsSome (mode_and_line (held_by (ways_for c block) place)) → has_room (with_held c block place None) block ≡ true
      by_place None e there = absurd (false≢true there)
      by_place (Some way) e there = room-emptied_own c sound block way (way_below c sound block way e)

  -- each change leaves a cache
  pub mode_sound : (block : Block) (mode : Mode) → IsCache (with_mode c block mode)
  unfolding with_mode
  mode_sound block mode = kept-with_held c sound block _ (λ x h. sym (is_way_of-in_mode x mode (copy_of c block)) ∙ h)

  pub line_sound : (block : Block) (line : Line) → IsCache (with_line c block line)
  unfolding with_line
  line_sound block line = kept-with_held c sound block _ (λ x h. sym (is_way_of-of_line x line (copy_of c block)) ∙ h)

  pub out_sound : (block : Block) → IsCache (without c block)
  unfolding without
  out_sound block = kept-with_held c sound block None (λ x h. absurd (false≢true h))

  -- a reserve
  reserve_where : (block : Block) (out : Option CachedBlock) → thrown_out c block ≡ out → reserved c block ≡ after_throwing c block out
  unfolding reserved
  reserve_where block out e = ap (after_throwing c block) e

  was_there : (block : Block) (out : CachedBlock) → thrown_out c block ≡ Some out → look_of c out.block ≡ Some (out.mode, out.line)
  unfolding look_of
  was_there block out e = ap mode_and_line (copy_of-thrown c sound block out e)

  gone : (block : Block) (out : CachedBlock) → thrown_out c block ≡ Some out → look_of (reserved c block) out.block ≡ None
  unfolding look_of
  gone block out e = ap (λ after. mode_and_line (copy_of after out.block)) (reserve_where block (Some out) e) ∙ ap mode_and_line (gone-thrown c sound block out e)

  reserve_others : (block other : Block) (out : CachedBlock) → thrown_out c block ≡ Some out → other ≢ out.block → look_of (reserved c block) other ≡ look_of c other
  unfolding look_of
  reserve_others block other out e differ = ap (λ after. mode_and_line (copy_of after other)) (reserve_where block (Some out) e) ∙ ap mode_and_line (others-thrown c sound block other out e differ)

  reserve_own : (block : Block) → look_of (reserved c block) block ≡ look_of c block
  reserve_own block = by_out (thrown_out c block) refl
    where
      by_out : (out : Option CachedBlock) → thrown_out c block ≡ out → look_of (reserved c block) block ≡ look_of c block
      by_out None e = ap (λ after. look_of after block) (reserve_where block None e)
      by_out (Some out) e = reserve_others block block out e (other-thrown c sound block out e)

  throws_where : (block : Block) → IsSome (thrown_out c block) ↔ ((look_of c block ≡ None) × (has_room c block ≡ false))
  unfolding thrown_out look_of has_room
  throws_where block = (λ there. because (thrown_out c block) refl there, λ h. shown (way_of c block) (empty_way_of c block) (get_or (ways_for c block) (next_of c block) None) (way_of-None c sound block (no_copy (copy_of c block) h.0)) h.1 (taken (empty_way_of c block) refl h.1))
    where
      because : (out : Option CachedBlock) → thrown_out c block ≡ out → is_some out ≡ true → (mode_and_line (copy_of c block) ≡ None) × (is_some (empty_way_of c block) ≡ false)
      because None e there = absurd (false≢true there)
      because (Some out) e there = (ap mode_and_line (copy_of-at c sound block None (thrown_how c sound block out e).0), (thrown_how c sound block out e).1)

      shown : (place room : Option ℕ) (held : Option CachedBlock) → place ≡ None → is_some room ≡ false → is_none held ≡ false → is_some (cond (is_some place) None (cond (is_some room) None held)) ≡ true
      shown (Some way) room held e f g = absurd (cc)
      shown None (Some way) held e f g = absurd (false≢true (sym f))
      shown None None None e f g = absurd (false≢true (sym g))
      shown None None (Some copy) e f g = refl

      taken : (room : Option ℕ) → empty_way_of c block ≡ room → is_some room ≡ false → is_none (get_or (ways_for c block) (next_of c block) None) ≡ false
      taken (Some way) e f = absurd (false≢true (sym f))
      taken None e f = position-none is_none (ways_for c block) (next_of c block) None e (way_in_ways c sound block (next_of c block) (next_below c sound block))

  room_thrown : (block : Block) (out : CachedBlock) → has_room (after_throwing c block (Some out)) block ≡ true
  unfolding has_room
  room_thrown block out = unfold has_room in room-emptied_own c sound block (next_of c block) (next_below c sound block)

  reserve_room : (block : Block) → look_of c block ≡ None → has_room (reserved c block) block ≡ true
  reserve_room block absent = by_out (thrown_out c block) refl
    where
      no_room : (room : Bool) → has_room c block ≡ room → thrown_out c block ≡ None → room ≡ true
      no_room true e f = refl
      no_room false e f = absurd (false≢true (subst (λ out. is_some out ≡ true) f ((throws_where block).1 (absent, e))))

      by_out : (out : Option CachedBlock) → thrown_out c block ≡ out → has_room (reserved c block) block ≡ true
      by_out None e = ap (λ after. has_room after block) (reserve_where block None e) ∙ no_room (has_room c block) refl e
      by_out (Some out) e = ap (λ after. has_room after block) (reserve_where block (Some out) e) ∙ room_thrown block out

-- a block that isn't there stays out
absent_held : (c : Cached) (block : Block) (held : Option CachedBlock) (place : Option ℕ) → place ≡ None → with_held c block place held ≡ c
absent_held c block held None e = refl
absent_held c block held (Some way) e = absurd (cc)

absent_way : (c : Cached) (block : Block) → look_of c block ≡ None → way_of c block ≡ None
unfolding look_of
absent_way c block h = found-None (is_way_of block) (ways_for c block) refl (no_copy (copy_of c block) h)

mode_absent : (c : Cached) (block : Block) (mode : Mode) → look_of c block ≡ None → with_mode c block mode ≡ c
unfolding with_mode
mode_absent c block mode h = absent_held c block _ (way_of c block) (absent_way c block h)

line_absent : (c : Cached) (block : Block) (line : Line) → look_of c block ≡ None → with_line c block line ≡ c
unfolding with_line
line_absent c block line h = absent_held c block _ (way_of c block) (absent_way c block h)

out_absent : (c : Cached) (block : Block) → look_of c block ≡ None → without c block ≡ c
unfolding without
out_absent c block h = absent_held c block None (way_of c block) (absent_way c block h)

-- a new cache
abbrev nothing : Option CachedBlock
nothing = None

all_empty : (n j : ℕ) → get_or (replicate n nothing) j nothing ≡ nothing
all_empty n j = elim (cases_lt j n) [ inl inside ↦ get_or-replicate n j nothing nothing inside | inr past ↦ get_or_past _ j None (rw length-replicate past) ]

part_empty : (xs : List (Option CachedBlock)) (w k j : ℕ) → ((i : ℕ) → get_or xs i None ≡ None) → get_or (take w (drop k xs)) j None ≡ None
part_empty xs w k j none = elim (cases_lt j w) [ inl inside ↦ rw (get_or-take w (drop k xs) j None inside, get_or-drop) (none (k + j)) | inr past ↦ get_or_past _ j None (simp length-take (omega arith)) ]

holds_nothing : (sets ways set way : ℕ) (block : Block) → is_way_of block (get_or (ways_in (empty_cache sets ways) set) way None) ≡ false
unfolding empty_cache
holds_nothing sets ways set way block = ap (is_way_of block) (part_empty (replicate (sets * ways) nothing) ways (set * ways) way (all_empty (sets * ways)))

new_nothing : (sets ways : ℕ) (block : Block) → look_of (empty_cache sets ways) block ≡ None
unfolding look_of
new_nothing sets ways block = ap (λ place. mode_and_line (held_by (ways_for (empty_cache sets ways) block) place)) (position-absent (is_way_of block) (ways_for (empty_cache sets ways) block) None (λ j h. holds_nothing sets ways (set_of (empty_cache sets ways) block) j block))

pub new_sound : (sets ways : ℕ) → 1 ≤ sets → 1 ≤ ways → IsCache (empty_cache sets ways)
unfolding empty_cache
new_sound sets ways has_sets has_ways = record {
  has_sets = has_sets;
  has_ways = has_ways;
  all_places = length-replicate (sets * ways) nothing;
  all_next = length-replicate {A = ℕ} sets 0;
  next_are_ways = λ set. elim (cases_lt set sets) [ inl inside ↦ rw (get_or-replicate {A = ℕ} sets set 0 0 inside) has_ways | inr past ↦ rw (get_or_past {X = ℕ} (replicate sets 0) set 0 (rw length-replicate past)) has_ways ];
  in_its_set = λ set way block there. absurd (false≢true (sym (holds_nothing sets ways set way block) ∙ there));
  once = λ first second block there again. absurd (false≢true (sym (holds_nothing sets ways (set_of (empty_cache sets ways) block) first block) ∙ there));
}

-- the laws
pub new_laws : NewIsEmpty
new_laws = record { sound = new_sound; nothing = new_nothing }

pub fill_laws : FillIsSeen
fill_laws = record {
  own = λ c block mode line sound. fill_own c sound block mode line;
  others = λ c block other mode line sound. fill_others c sound block other mode line;
  sound = λ c block mode line sound absent. kept-filled c sound block mode line (look-None c block absent);
}

pub mode_laws : ModeIsSeen
mode_laws = record {
  own = λ c block mode sound. mode_own c sound block mode;
  others = λ c block other mode sound. mode_others c sound block other mode;
  absent = mode_absent;
  room = λ c block other mode sound. mode_room c sound block other mode;
  sound = λ c block mode sound. mode_sound c sound block mode;
}

pub line_laws : LineIsSeen
line_laws = record {
  own = λ c block line sound. line_own c sound block line;
  others = λ c block other line sound. line_others c sound block other line;
  absent = line_absent;
  room = λ c block other line sound. line_room c sound block other line;
  sound = λ c block line sound. line_sound c sound block line;
}

pub take_out_laws : TakeOutIsSeen
take_out_laws = record {
  own = λ c block sound. out_own c sound block;
  others = λ c block other sound. out_others c sound block other;
  absent = out_absent;
  makes_room = λ c block sound. out_makes_room c sound block;
  room = λ c block other sound. out_room c sound block other;
  sound = λ c block sound. out_sound c sound block;
}

pub reserve_laws : ReserveIsSeen
reserve_laws = record {
  throws = λ c block sound. throws_where c sound block;
  was_there = λ c block out sound. was_there c sound block out;
  gone = λ c block out sound. gone c sound block out;
  others = λ c block other out sound. reserve_others c sound block other out;
  nothing = λ c block. reserve_nothing c block;
  own = λ c block sound. reserve_own c sound block;
  room = λ c block sound. reserve_room c sound block;
  sound = λ c block sound. kept-reserved c sound block;
}
