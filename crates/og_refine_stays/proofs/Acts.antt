-- A processor's act leaves it naming what there is.
use Rattle.std.proofs.Common.{◌≡◌, ◌∙◌, ◌/◌, ◌%◌, Bool, true, false, not, Option, None, Some, Ok, arith, refl, sym, ap, subst}
use Rattle.std.specs.Prelude.{if◌then◌else◌}
use Rattle.std.proofs.lemmas.Grind.{common_steps}
use Rattle.og_base.specs.declared.Block.{Block}
use Rattle.og_base.specs.declared.Frame.{Frame}
use Rattle.og_base.specs.declared.VPage.{VPage}
use Rattle.og_base.specs.declared.Cause.{Cause}
use Rattle.og_line.specs.declared.Line.{Line}
use Rattle.og_line.specs.declared.Mode.{Mode}
use Rattle.og_line.specs.declared.Mode.TheVariants as mode
use Rattle.og_line.specs.declared.Access.{Access}
use Rattle.og_line.specs.Access.{addr_of, is_write}
use Rattle.og_image.specs.Image.{ImageState}
use Rattle.og_cache.specs.declared.CachedBlock.{CachedBlock}
use Rattle.og_cache.specs.Cache.{Cached, mode_of, line_of, thrown_out, reserved}
use Rattle.og_tlb.specs.Tlb.{look_of as frame_of}
use Rattle.og_request.specs.declared.Want.{Want}
use Rattle.og_request.specs.declared.Want.TheVariants.{Read, ReadEx, Upgrade}
use Rattle.og_request.specs.Request.{Requested, new_request}
use Rattle.og_victim.specs.declared.Slot.TheVariants.{Taken}
use Rattle.rv_hart.specs.declared.hart.Need.{Need}
use Rattle.rv_hart.specs.declared.hart.Need.TheVariants as need
use Rattle.rv_hart.specs.Hart.{need_of}
use Rattle.og_processor.specs.State.{ProcessorState}
use Rattle.og_processor.specs.Access.{page_of, block_in, allows}
use Rattle.og_processor.specs.Act.{may_act, may_act_by, act_of, by_need, on_page, on_line, leaves, mode_out, throws_out, wanted, misses}
use Rattle.og_seen.specs.Numbers.{Sizes, is_there}
use Rattle.og_seen.specs.Harts.{access_in, access_of, number_wanted, only_reads}
use Rattle.og_seen.specs.Processors.{hart_seen}
use Rattle.og_seen.specs.Sound.{IsBlock, IsPlaced, IsProcessorOf}
use Rattle.og_seen.proofs.Pages.{needed_placed}
use Rattle.og_refine_stays.proofs.Named.{HasBlocks, HasPages, accessed, thrown_there, reserved_less}

-- what a processor names is there
pub record Names (s : Sizes) (x : ProcessorState) : Type 0 where
  pub cache : HasBlocks s x.cache
  pub tlb : HasPages s x.tlb
  pub walk : (page : VPage) → x.walk ≡ Some page → IsPlaced s page
  pub request : (request : Requested) → x.request ≡ Some request → IsBlock s request.block
  pub victim : (block : Block) (busy seen : Bool) → x.victim ≡ Taken block busy seen → IsBlock s block
  pub drop : (frame : Frame) → x.drop ≡ Some frame → is_there s frame ≡ true

-- it asks for what its hart needs, and reads only for an access that reads
pub record Asks (image : ImageState) (x : ProcessorState) (request : Requested) : Type 0 where
  pub number : request.block.number ≡ number_wanted (access_of image (hart_seen x))
  pub reads : request.want ≡ Read → only_reads (access_of image (hart_seen x)) ≡ true

abbrev pub Wanted : ImageState → ProcessorState → Type 0
Wanted image x = (request : Requested) → x.request ≡ Some request → Asks image x request

pub names_of : (image : ImageState) (s : Sizes) (x : ProcessorState) → IsProcessorOf image s x → Names s x
names_of image s x is = record {
  cache = record { sound = is.cache; there = is.cached };
  tlb = record { sound = is.tlb; named = is.named; placed = is.translated };
  walk = is.walk;
  request = is.request;
  victim = is.victim;
  drop = is.drop;
}

pub nothing_wanted : (image : ImageState) (x : ProcessorState) → x.request ≡ None → Wanted image x
nothing_wanted image x none r e = absurd (cc)

-- nothing is outstanding
nothing_out : (image : ImageState) (x : ProcessorState) → may_act image x ≡ Ok tt → x.request ≡ None
unfolding may_act
nothing_out image x may = by x.hart.cause x.request x.walk refl may
  where
    by : (c : Option Cause) (r : Option Requested) (w : Option VPage) → x.request ≡ r → may_act_by image x c r w ≡ Ok tt → x.request ≡ None
    by (Some c) r w e m = absurd (cc)
    by None (Some r) w e m = absurd (cc)
    by None None w e m = e

-- the hart and its reservation are nothing that is named
pub with_hart : (s : Sizes) (x y : ProcessorState) → y.cache ≡ x.cache → y.tlb ≡ x.tlb → y.walk ≡ x.walk → y.request ≡ x.request → y.victim ≡ x.victim → y.drop ≡ x.drop → Names s x → Names s y
with_hart s x y c t w r v d n = record {
  cache = subst (HasBlocks s) (sym c) n.cache;
  tlb = subst (HasPages s) (sym t) n.tlb;
  walk = λ page e. n.walk page (sym w ∙ e);
  request = λ q e. n.request q (sym r ∙ e);
  victim = λ block busy seen e. n.victim block busy seen (sym v ∙ e);
  drop = λ frame e. n.drop frame (sym d ∙ e);
}

pub with_cache : (s : Sizes) (x : ProcessorState) (cache : Cached) → HasBlocks s cache → Names s x → Names s (record x { cache = cache })
with_cache s x cache h n = record { cache = h; tlb = n.tlb; walk = n.walk; request = n.request; victim = n.victim; drop = n.drop }

-- ---- a miss

-- a reserve puts into the victim slot only what was there
left_names : (s : Sizes) (x : ProcessorState) (block : Block) (out : Option CachedBlock) → thrown_out x.cache block ≡ out → (m : Mode) → Names s x → Names s (leaves (record x { cache = reserved x.cache block }) out m).state
left_names s x block None e m n = with_cache s x (reserved x.cache block) (reserved_less s x.cache block n.cache) n
left_names s x block (Some out) e mode.Shared n = with_cache s x (reserved x.cache block) (reserved_less s x.cache block n.cache) n
left_names s x block (Some out) e mode.Clean n = with_cache s x (reserved x.cache block) (reserved_less s x.cache block n.cache) n
left_names s x block (Some out) e mode.Dirty n = record {
  cache = reserved_less s x.cache block n.cache;
  tlb = n.tlb;
  walk = n.walk;
  request = n.request;
  victim = λ b busy seen f. (let same : Taken out.block false false ≡ Taken b busy seen = f in let one : out.block ≡ b = cc in subst (IsBlock s) one (thrown_there s x.cache block out n.cache e));
  drop = n.drop;
}

left_hart : (x : ProcessorState) (block : Block) (out : Option CachedBlock) (m : Mode) → (leaves (record x { cache = reserved x.cache block }) out m).state.hart ≡ x.hart
left_hart x block None m = refl
left_hart x block (Some out) mode.Shared = refl
left_hart x block (Some out) mode.Clean = refl
left_hart x block (Some out) mode.Dirty = refl

new_block : (want : Want) (block : Block) → (new_request want block).block ≡ block
unfolding new_request
new_block want block = refl

new_want : (want : Want) (block : Block) → (new_request want block).want ≡ want
unfolding new_request
new_want want block = refl

new_is : (want : Want) (block : Block) (r : Requested) → Some (new_request want block) ≡ Some r → (block ≡ r.block) × (want ≡ r.want)
new_is want block r e = let one : new_request want block ≡ r = cc in (sym (new_block want block) ∙ ap (λ (q : Requested). q.block) one, sym (new_want want block) ∙ ap (λ (q : Requested). q.want) one)

asks : (other : Want) (t : Bool) → (other ≡ Read → ⊥) → (if t then other else Read) ≡ Read → t ≡ false
asks other true differ e = absurd (differ e)
asks other false differ e = refl

-- a copy to read is asked for only where the access reads
only_read : (m : Option Mode) (access : Access) → wanted m access ≡ Read → is_write access ≡ false
only_read (Some mode.Shared) access e = asks Upgrade (is_write access) (λ f. absurd (cc)) e
only_read (Some mode.Clean) access e = asks ReadEx (is_write access) (λ f. absurd (cc)) e
only_read (Some mode.Dirty) access e = asks ReadEx (is_write access) (λ f. absurd (cc)) e
only_read None access e = asks ReadEx (is_write access) (λ f. absurd (cc)) e

misses_names : (image : ImageState) (s : Sizes) (x : ProcessorState) (access : Access) (want : Want) (block : Block) → Names s x → IsBlock s block → need_of image x.hart ≡ need.Access access → block.number ≡ addr_of access / 128 % 32 → (want ≡ Read → is_write access ≡ false) →
    Names s (misses x want block).state × Wanted image (misses x want block).state
misses_names image s x access want block n is needs number reads = by (throws_out x block).state (left_names s x block (thrown_out x.cache block) refl (mode_out (thrown_out x.cache block)) n) (left_hart x block (thrown_out x.cache block) (mode_out (thrown_out x.cache block)))
  where
    by : (y : ProcessorState) → Names s y → y.hart ≡ x.hart → Names s (record y { request = Some (new_request want block) }) × Wanted image (record y { request = Some (new_request want block) })
    by y m h = (
      record {
        cache = m.cache;
        tlb = m.tlb;
        walk = m.walk;
        request = λ r e. subst (IsBlock s) (new_is want block r e).0 is;
        victim = m.victim;
        drop = m.drop;
      },
      λ r e. record {
        number = ap (λ (b : Block). b.number) (sym (new_is want block r e).0) ∙ (number ∙ sym (ap (λ (k : Need). number_wanted (access_in k)) (ap (need_of image) h ∙ needs)));
        reads = λ f. ap (λ (k : Need). only_reads (access_in k)) (ap (need_of image) h ∙ needs) ∙ ap not (reads ((new_is want block r e).1 ∙ f));
      },
    )

-- ---- all acts

pub act_names : (image : ImageState) (s : Sizes) (x : ProcessorState) → IsProcessorOf image s x → may_act image x ≡ Ok tt → Names s (act_of image x).state × Wanted image (act_of image x).state
unfolding act_of
act_names image s x is may = by (need_of image x.hart) refl
  where
    n : Names s x
    n = names_of image s x is

    none : x.request ≡ None
    none = nothing_out image x may

    on_copy : (access : Access) (block : Block) (o : Option Line) → Names s (on_line image x access block o).state × Wanted image (on_line image x access block o).state
    on_copy access block None = (n, nothing_wanted image x none)
    on_copy access block (Some line) = (
      record {
        cache = accessed s x.cache block line x.reserved access n.cache;
        tlb = n.tlb;
        walk = n.walk;
        request = n.request;
        victim = n.victim;
        drop = n.drop;
      },
      λ r e. absurd (let k = none in cc),
    )

    by_copy : (access : Access) (frame : Frame) → need_of image x.hart ≡ need.Access access → frame_of x.tlb (page_of (addr_of access)) ≡ Some frame → (t : Bool) →
        Names s (if t then on_line image x access (block_in frame (addr_of access)) (line_of x.cache (block_in frame (addr_of access))) else misses x (wanted (mode_of x.cache (block_in frame (addr_of access))) access) (block_in frame (addr_of access))).state
        × Wanted image (if t then on_line image x access (block_in frame (addr_of access)) (line_of x.cache (block_in frame (addr_of access))) else misses x (wanted (mode_of x.cache (block_in frame (addr_of access))) access) (block_in frame (addr_of access))).state
    by_copy access frame needs e true = on_copy access (block_in frame (addr_of access)) (line_of x.cache (block_in frame (addr_of access)))
    by_copy access frame needs e false = misses_names image s x access (wanted (mode_of x.cache (block_in frame (addr_of access))) access) (block_in frame (addr_of access)) n
        (is.named (page_of (addr_of access)) frame e, grind (arith, common_steps)) needs refl (only_read (mode_of x.cache (block_in frame (addr_of access))) access)

    by_page : (access : Access) → need_of image x.hart ≡ need.Access access → (f : Option Frame) → frame_of x.tlb (page_of (addr_of access)) ≡ f → Names s (on_page image x access f).state × Wanted image (on_page image x access f).state
    by_page access needs None e = (
      record {
        cache = n.cache;
        tlb = n.tlb;
        walk = λ page f. (let one : page_of (addr_of access) ≡ page = cc in subst (IsPlaced s) one (needed_placed image s x access is needs));
        request = n.request;
        victim = n.victim;
        drop = n.drop;
      },
      λ r f. absurd (let k = none in cc),
    )
    by_page access needs (Some frame) e = by_copy access frame needs e (allows (mode_of x.cache (block_in frame (addr_of access))) access)

    by : (k : Need) → need_of image x.hart ≡ k → Names s (by_need image x k).state × Wanted image (by_need image x k).state
    by need.Plain e = (with_hart s x (by_need image x need.Plain).state refl refl refl refl refl refl n, λ r f. absurd (let k = none in cc))
    by (need.Emit value) e = (with_hart s x (by_need image x (need.Emit value)).state refl refl refl refl refl refl n, λ r f. absurd (let k = none in cc))
    by (need.Stop cause) e = (with_hart s x (by_need image x (need.Stop cause)).state refl refl refl refl refl refl n, λ r f. absurd (let k = none in cc))
    by (need.Access access) e = by_page access e (frame_of x.tlb (page_of (addr_of access))) refl
