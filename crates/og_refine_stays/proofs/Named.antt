-- What a processor's cache and TLB name stays there, whatever is changed.
use Rattle.std.proofs.Common.{◌≡◌, ◌≢◌, ◌∙◌, Bool, true, false, ◌⊎◌, inl, inr, Option, None, Some, refl, sym, ap, subst}
use Rattle.std.specs.Prelude.{option_map, if◌then◌else◌}
use Rattle.og_base.specs.declared.Block.{Block}
use Rattle.og_base.specs.declared.Frame.{Frame}
use Rattle.og_base.specs.declared.VPage.{VPage}
use Rattle.og_base.specs.Names.{is_same_block, is_same_page}
use Rattle.og_base.proofs.SameNames.{same_block, same_page, is_same_block-self, is_same_page-self}
use Rattle.og_line.specs.declared.Line.{Line}
use Rattle.og_line.specs.declared.Mode.{Mode}
use Rattle.og_line.specs.declared.Mode.TheVariants.{Shared, Dirty}
use Rattle.og_line.specs.declared.Reservation.{Reservation}
use Rattle.og_line.specs.declared.Access.{Access}
use Rattle.og_line.specs.Access.{line_after}
use Rattle.og_cache.specs.declared.CachedBlock.{CachedBlock}
use Rattle.og_cache.specs.Cache.{Cached, IsCache, look_of, with_line, with_mode, without, thrown_out, reserved}
use Rattle.og_cache.proofs.Seen.{mode_laws, line_laws, take_out_laws, reserve_laws}
use Rattle.og_tlb.specs.declared.Translation.{Translation}
use Rattle.og_tlb.specs.Tlb.{Translations, IsTlb, look_of as frame_of, filled, overwritten, without_page, without_frame}
use Rattle.og_tlb.proofs.Seen.{fill_laws, page_drop_laws, frame_drop_laws}
use Rattle.og_request.specs.declared.Held.{Held}
use Rattle.og_request.specs.declared.Held.TheVariants.{Shared as ShareWith, Exclusive as GiveTo, Poison as GiveBack}
use Rattle.og_owner.specs.Owner.{after_intervention}
use Rattle.og_processor.specs.Access.{cache_after, stores}
use Rattle.og_processor.specs.Take.{put_line}
use Rattle.og_processor.proofs.Copies.{put_others, put_sound}
use Rattle.og_seen.specs.Numbers.{Sizes, is_there}
use Rattle.og_seen.specs.Tlbs.{NamesFrames}
use Rattle.og_seen.specs.Sound.{IsBlock, IsPlaced}

-- ---- caches

-- the cache is one, and has only blocks that there are
pub record HasBlocks (s : Sizes) (cache : Cached) : Type 0 where
  pub sound : IsCache cache
  pub there : (block : Block) → look_of cache block ≢ None → IsBlock s block

-- each block of the new cache is one of the old cache
abbrev Less : Cached → Cached → Type 0
Less old new = (block : Block) → look_of old block ≡ None → look_of new block ≡ None

less : (s : Sizes) (old new : Cached) → IsCache new → Less old new → HasBlocks s old → HasBlocks s new
less s old new sound fewer h = record { sound = sound; there = λ b is. h.there b (λ none. is (fewer b none)) }

-- what changes only what stands at one block, if anything stands there, has no other block
less_by : (old new : Cached) (block : Block) → (look_of old block ≡ None → look_of new block ≡ None) → ((other : Block) → other ≢ block → look_of new other ≡ look_of old other) → Less old new
less_by old new block own others b none = by (is_same_block b block) refl
  where
    by : (t : Bool) → is_same_block b block ≡ t → look_of new b ≡ None
    by true e = let same : b ≡ block = same_block b block e in subst (λ (x : Block). look_of new x ≡ None) (sym same) (own (subst (λ (x : Block). look_of old x ≡ None) same none))
    by false e = others b (λ same. absurd (let t : is_same_block b block ≡ true = ap (λ (x : Block). is_same_block b x) (sym same) ∙ is_same_block-self b in cc)) ∙ none

pub lined : (s : Sizes) (cache : Cached) (block : Block) (line : Line) → HasBlocks s cache → HasBlocks s (with_line cache block line)
lined s cache block line h = less s cache (with_line cache block line) (line_laws.sound cache block line h.sound)
    (less_by cache (with_line cache block line) block (λ none. line_laws.own cache block line h.sound ∙ ap (λ (o : Option (Mode × Line)). option_map (λ copy. (copy.0, line)) o) none) (λ other ne. line_laws.others cache block other line h.sound ne)) h

pub moded : (s : Sizes) (cache : Cached) (block : Block) (mode : Mode) → HasBlocks s cache → HasBlocks s (with_mode cache block mode)
moded s cache block mode h = less s cache (with_mode cache block mode) (mode_laws.sound cache block mode h.sound)
    (less_by cache (with_mode cache block mode) block (λ none. mode_laws.own cache block mode h.sound ∙ ap (λ (o : Option (Mode × Line)). option_map (λ copy. (mode, copy.1)) o) none) (λ other ne. mode_laws.others cache block other mode h.sound ne)) h

pub taken_out : (s : Sizes) (cache : Cached) (block : Block) → HasBlocks s cache → HasBlocks s (without cache block)
taken_out s cache block h = less s cache (without cache block) (take_out_laws.sound cache block h.sound)
    (less_by cache (without cache block) block (λ none. take_out_laws.own cache block h.sound) (λ other ne. take_out_laws.others cache block other h.sound ne)) h

pub intervened : (s : Sizes) (cache : Cached) (block : Block) (held : Held) → HasBlocks s cache → HasBlocks s (after_intervention cache block held)
unfolding after_intervention
intervened s cache block (ShareWith r) h = moded s cache block Shared h
intervened s cache block (GiveTo r) h = taken_out s cache block h
intervened s cache block GiveBack h = taken_out s cache block h

pub accessed : (s : Sizes) (cache : Cached) (block : Block) (line : Line) (held : Option Reservation) (access : Access) → HasBlocks s cache → HasBlocks s (cache_after cache block line held access)
accessed s cache block line held access h = by (stores line held access)
  where
    by : (t : Bool) → HasBlocks s (if t then with_mode (with_line cache block (line_after line held access)) block Dirty else with_line cache block (line_after line held access))
    by true = moded s (with_line cache block (line_after line held access)) block Dirty (lined s cache block (line_after line held access) h)
    by false = lined s cache block (line_after line held access) h

-- a reserve, which throws out only what was there
pub thrown_there : (s : Sizes) (cache : Cached) (block : Block) (out : CachedBlock) → HasBlocks s cache → thrown_out cache block ≡ Some out → IsBlock s out.block
thrown_there s cache block out h e = let was = reserve_laws.was_there cache block out h.sound e in h.there out.block (λ none. absurd (cc))

pub reserved_less : (s : Sizes) (cache : Cached) (block : Block) → HasBlocks s cache → HasBlocks s (reserved cache block)
reserved_less s cache block h = by (thrown_out cache block) refl
  where
    by : (o : Option CachedBlock) → thrown_out cache block ≡ o → HasBlocks s (reserved cache block)
    by None e = subst (HasBlocks s) (sym (reserve_laws.nothing cache block e)) h
    by (Some out) e = less s cache (reserved cache block) (reserve_laws.sound cache block h.sound)
        (less_by cache (reserved cache block) out.block (λ none. reserve_laws.gone cache block out h.sound e) (λ other ne. reserve_laws.others cache block other out h.sound e ne)) h

-- a fill of a block that there is
pub put_there : (s : Sizes) (cache : Cached) (block : Block) (mode : Mode) (line : Option Line) → IsBlock s block → HasBlocks s cache → HasBlocks s (put_line cache block mode line)
put_there s cache block mode line is h = record { sound = put_sound cache block mode line h.sound; there = λ b here. by b here (is_same_block b block) refl }
  where
    by : (b : Block) → look_of (put_line cache block mode line) b ≢ None → (t : Bool) → is_same_block b block ≡ t → IsBlock s b
    by b here true e = subst (IsBlock s) (sym (same_block b block e)) is
    by b here false e =
        let ne : b ≢ block = (λ same. absurd (let t : is_same_block b block ≡ true = ap (λ (x : Block). is_same_block b x) (sym same) ∙ is_same_block-self b in cc)) in
        h.there b (λ none. here (put_others cache block b mode line h.sound ne ∙ none))

-- ---- TLBs

-- the TLB is one, and has only placed pages in frames that there are
pub record HasPages (s : Sizes) (tlb : Translations) : Type 0 where
  pub sound : IsTlb tlb
  pub named : NamesFrames s tlb
  pub placed : (page : VPage) → frame_of tlb page ≢ None → IsPlaced s page

-- each page of the new TLB is in the frame in which the old one has it
tlb_less : (s : Sizes) (old new : Translations) → IsTlb new → ((page : VPage) (frame : Frame) → frame_of new page ≡ Some frame → frame_of old page ≡ Some frame) → HasPages s old → HasPages s new
tlb_less s old new sound fewer h = record { sound = sound; named = λ page frame e. h.named page frame (fewer page frame e); placed = λ page is. by page is (frame_of new page) refl }
  where
    by : (page : VPage) → frame_of new page ≢ None → (o : Option Frame) → frame_of new page ≡ o → IsPlaced s page
    by page is None e = absurd (is e)
    by page is (Some frame) e = let was = fewer page frame e in h.placed page (λ none. absurd (cc))

pub page_dropped : (s : Sizes) (tlb : Translations) (page : VPage) → HasPages s tlb → HasPages s (without_page tlb page)
page_dropped s tlb page h = tlb_less s tlb (without_page tlb page) (page_drop_laws.sound tlb page h.sound) (λ other frame e. by other frame e (is_same_page other page) refl) h
  where
    by : (other : VPage) (frame : Frame) → frame_of (without_page tlb page) other ≡ Some frame → (t : Bool) → is_same_page other page ≡ t → frame_of tlb other ≡ Some frame
    by other frame e true t = let none : frame_of (without_page tlb page) other ≡ None = subst (λ (x : VPage). frame_of (without_page tlb page) x ≡ None) (sym (same_page other page t)) (page_drop_laws.own tlb page h.sound) in absurd (cc)
    by other frame e false t =
        let ne : other ≢ page = (λ same. absurd (let u : is_same_page other page ≡ true = ap (λ (x : VPage). is_same_page other x) (sym same) ∙ is_same_page-self other in cc)) in
        sym (page_drop_laws.others tlb page other h.sound ne) ∙ e

pub frame_dropped : (s : Sizes) (tlb : Translations) (gone : Frame) → HasPages s tlb → HasPages s (without_frame tlb gone)
frame_dropped s tlb gone h = tlb_less s tlb (without_frame tlb gone) (frame_drop_laws.sound tlb gone h.sound) (λ page frame e. by page frame e (frame_of tlb page) refl) h
  where
    by : (page : VPage) (frame : Frame) → frame_of (without_frame tlb gone) page ≡ Some frame → (o : Option Frame) → frame_of tlb page ≡ o → frame_of tlb page ≡ Some frame
    by page frame e None o = let ne : frame_of tlb page ≢ Some gone = (λ x. absurd (cc)) in sym (frame_drop_laws.others tlb gone page h.sound ne) ∙ e
    by page frame e (Some f) o = sym (frame_drop_laws.others tlb gone page h.sound (λ x. absurd (let none = frame_drop_laws.own tlb gone page h.sound x in cc))) ∙ e

pub page_filled : (s : Sizes) (tlb : Translations) (page : VPage) (frame : Frame) → IsPlaced s page → is_there s frame ≡ true → HasPages s tlb → HasPages s (filled tlb page frame)
page_filled s tlb page frame placed there h = record {
  sound = fill_laws.sound tlb page frame h.sound;
  named = λ q f e. (elim (which q f e) [ inl o ↦ subst (λ (x : Frame). is_there s x ≡ true) o.1 there | inr o ↦ h.named q f o ]);
  placed = λ q is. at q is (frame_of (filled tlb page frame) q) refl;
}
  where
    same_frame : (f g : Frame) → Some f ≡ Some g → f ≡ g
    same_frame f g e = cc

    old_case : (q : VPage) (f : Frame) → q ≢ page → frame_of (filled tlb page frame) q ≡ Some f → (o : Option Translation) → overwritten tlb page ≡ o → frame_of tlb q ≡ Some f
    old_case q f ne e None o = sym (fill_laws.others tlb page q frame h.sound ne (λ old x. absurd (cc))) ∙ e
    old_case q f ne e (Some old) o = by (is_same_page old.page q) refl
      where
        by : (t : Bool) → is_same_page old.page q ≡ t → frame_of tlb q ≡ Some f
        by true t =
            let same : old.page ≡ q = same_page old.page q t in
            let none : frame_of (filled tlb page frame) q ≡ None = subst (λ (x : VPage). frame_of (filled tlb page frame) x ≡ None) same (fill_laws.forgets tlb page frame old h.sound o (λ x. ne (sym same ∙ x))) in
            absurd (cc)
        by false t = sym (fill_laws.others tlb page q frame h.sound ne (λ other x same. absurd (let one : old ≡ other = cc in let u : is_same_page old.page q ≡ true = ap (λ (z : Translation). is_same_page z.page q) one ∙ (ap (λ (z : VPage). is_same_page other.page z) (sym same) ∙ is_same_page-self other.page) in cc))) ∙ e

    which : (q : VPage) (f : Frame) → frame_of (filled tlb page frame) q ≡ Some f → ((q ≡ page) × (frame ≡ f)) ⊎ (frame_of tlb q ≡ Some f)
    which q f e = by (is_same_page q page) refl
      where
        by : (t : Bool) → is_same_page q page ≡ t → ((q ≡ page) × (frame ≡ f)) ⊎ (frame_of tlb q ≡ Some f)
        by true t =
            let same : q ≡ page = same_page q page t in
            let own : frame_of (filled tlb page frame) q ≡ Some frame = subst (λ (x : VPage). frame_of (filled tlb page frame) x ≡ Some frame) (sym same) (fill_laws.own tlb page frame h.sound) in
            inl (same, same_frame frame f (sym own ∙ e))
        by false t = inr (old_case q f (λ same. absurd (let u : is_same_page q page ≡ true = ap (λ (x : VPage). is_same_page q x) (sym same) ∙ is_same_page-self q in cc)) e (overwritten tlb page) refl)

    at : (q : VPage) → frame_of (filled tlb page frame) q ≢ None → (o : Option Frame) → frame_of (filled tlb page frame) q ≡ o → IsPlaced s q
    at q is None e = absurd (is e)
    at q is (Some f) e = elim (which q f e) [
      | inl o ↦ subst (IsPlaced s) (sym o.0) placed
      | inr o ↦ h.placed q (λ none. absurd (cc))
    ]
