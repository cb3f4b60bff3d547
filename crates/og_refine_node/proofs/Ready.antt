-- A processor that may act: nothing is outstanding, and the access that its hart needs is seen as the hart's.
use Rattle.std.proofs.Common.{Bool, Err, None, Ok, Option, Some, ap, arith, false, option_map, refl, true, ℕ, ◌%◌, ◌/◌, ◌<◌, ◌∙◌, ◌≡◌}
use Rattle.std.proofs.Math.Nat.{mod-lt}
use Rattle.std.specs.Prelude.{if◌then◌else◌}
use Rattle.og_base.specs.declared.Cause.{Cause}
use Rattle.og_base.specs.declared.Frame.{Frame}
use Rattle.og_base.specs.declared.NotEnabled.TheVariants as NotEnabled
use Rattle.og_base.specs.declared.VPage.{VPage}
use Rattle.og_line.specs.Access.{addr_of, answer_of, is_write, line_after, reservation_after}
use Rattle.og_line.specs.declared.Access.{Access}
use Rattle.og_line.specs.declared.Access.TheVariants as access
use Rattle.og_line.specs.declared.Line.{Line}
use Rattle.og_line.specs.declared.Reservation.{Reservation}
use Rattle.og_image.specs.Image.{ImageState}
use Rattle.og_cache.specs.Cache.{look_of}
use Rattle.og_tlb.specs.Tlb.{look_of as frame_of}
use Rattle.og_request.specs.Request.{Requested}
use Rattle.rv_hart.specs.Hart.{finish_of, need_of}
use Rattle.rv_hart.specs.declared.hart.Need.TheVariants as need
use Rattle.og_processor.specs.Access.{block_in, page_of, stores}
use Rattle.og_processor.specs.Act.{is_blocked_by, may_act, may_act_by}
use Rattle.og_processor.specs.State.{ProcessorState}
use Rattle.og_pages.specs.State.{To}
use Rattle.og_relate.specs.Data.{Cpu}
use Rattle.og_seen.proofs.Pages.{is_numbered, needed_placed}
use Rattle.og_seen.proofs.Tlbs.{own_seen as tlb_own_seen}
use Rattle.og_seen.specs.Caches.{copy_seen}
use Rattle.og_seen.specs.Harts.{Hart, access_in, access_of, hart_left, harts_seen, line_left, page_wanted}
use Rattle.og_seen.specs.Numbers.{Sizes, frame_number, is_there, page_number}
use Rattle.og_seen.specs.Processors.{cpu_seen, hart_seen, request_seen}
use Rattle.og_seen.specs.Sound.{IsProcessorOf}
use Rattle.og_seen.specs.Tlbs.{tlb_seen}
use Rattle.og_refine_node.proofs.Facts.{cache_at}

pub record MayAct (image : ImageState) (x : ProcessorState) : Type 0 where
  pub request : x.request ≡ None
  pub walk : x.walk ≡ None
  pub room : is_blocked_by x (need_of image x.hart) ≡ false

-- a processor that may act is ready
pub ready : (image : ImageState) (x : ProcessorState) → may_act image x ≡ Ok (tt {0}) → MayAct image x
unfolding may_act
ready image x may = by x.hart.cause x.request x.walk refl refl may
  where
    free : (t : Bool) → (if t then Err NotEnabled.VictimBusy else Ok (tt {0})) ≡ Ok (tt {0}) → t ≡ false
    free true e = absurd (cc)
    free false e = refl

    by : (c : Option Cause) (r : Option Requested) (k : Option VPage) → x.request ≡ r → x.walk ≡ k → may_act_by image x c r k ≡ Ok (tt {0}) → MayAct image x
    by (Some c) r k f g m = absurd (cc)
    by None (Some r) k f g m = absurd (cc)
    by None None (Some k) f g m = absurd (cc)
    by None None None f g m = record { request = f; walk = g; room = free (is_blocked_by x (need_of image x.hart)) m }

module _ (image : ImageState) (s : Sizes) (x : ProcessorState) (access : Access) (needs : need_of image x.hart ≡ need.Access access) where
  -- what the hart needs
  pub access_is : access_of image (hart_seen x) ≡ Some access
  access_is = ap access_in needs

  pub page_is : (harts_seen image s).page (hart_seen x) ≡ page_number s (page_of (addr_of access))
  page_is = ap (page_wanted s) access_is

  -- what it makes of a line
  pub line_is : (l : Line) → (harts_seen image s).line_after (hart_seen x) l ≡ line_after l x.reserved access
  line_is l = ap (λ (o : Option Access). line_left o x.reserved l) access_is

  pub hart_is : (l : Line) → (harts_seen image s).after (hart_seen x) l ≡ record { state = finish_of image x.hart (answer_of l x.reserved access); reserved = reservation_after l x.reserved access }
  hart_is l = ap (λ (o : Option Access). hart_left image (hart_seen x) o l) access_is

-- an access that stores may write
pub stores_writes : (l : Line) (r : Option Reservation) (a : Access) → stores l r a ≡ true → is_write a ≡ true
stores_writes l r (access.Load addr width) e = absurd (cc)
stores_writes l r (access.Store addr width value) e = refl
stores_writes l r (access.Reserve addr width) e = absurd (cc)
stores_writes l r (access.Conditional addr width value) e = refl
stores_writes l r (access.Atomic op addr width value) e = refl

-- and one that doesn't leaves the line
pub line_stays : (l : Line) (r : Option Reservation) (a : Access) → stores l r a ≡ false → line_after l r a ≡ l
line_stays l r (access.Load addr width) e = refl
line_stays l r (access.Store addr width value) e = absurd (cc)
line_stays l r (access.Reserve addr width) e = refl
line_stays l r (access.Conditional addr width value) e = rw e refl
line_stays l r (access.Atomic op addr width value) e = absurd (cc)

module _ (image : ImageState) (s : Sizes) (cpu : ℕ → Cpu Line Hart) (p : ℕ) (x : ProcessorState) (is : IsProcessorOf image s x) (shown : cpu p ≡ cpu_seen s x) where
  -- nothing is outstanding
  pub nothing_asked : MayAct image x → (cpu p).request ≡ None
  nothing_asked may = ap (λ (c : Cpu Line Hart). c.request) shown ∙ ap (λ (r : Option Requested). option_map (request_seen s) r) may.request

  pub nothing_walked : MayAct image x → (cpu p).walk ≡ None
  nothing_walked may = ap (λ (c : Cpu Line Hart). c.walk) shown ∙ ap (λ (r : Option VPage). option_map (page_number s) r) may.walk

  -- the page of the access is in the TLB, and a block of its frame there
  module _ (access : Access) (needs : need_of image x.hart ≡ need.Access access) (frame : Frame) (there : frame_of x.tlb (page_of (addr_of access)) ≡ Some frame) where
    pub frame_named : is_there s frame ≡ true
    frame_named = is.named (page_of (addr_of access)) frame there

    pub frame_shown : (cpu p).tlb ((harts_seen image s).page (cpu p).hart) ≡ To (frame_number s frame)
    frame_shown = ap (λ (c : Cpu Line Hart). c.tlb ((harts_seen image s).page c.hart)) shown ∙ ap (tlb_seen s x.tlb) (page_is image s x access needs)
        ∙ tlb_own_seen s x.tlb (page_of (addr_of access)) frame (page_number s (page_of (addr_of access))) (is_numbered s (page_of (addr_of access)) (needed_placed image s x access is needs)) there

    pub copy_shown : (cpu p).cache (frame_number s frame) (addr_of access / 128 % 32) ≡ copy_seen (look_of x.cache (block_in frame (addr_of access)))
    copy_shown = ap (λ (c : Cpu Line Hart). c.cache (frame_number s frame) (addr_of access / 128 % 32)) shown ∙ cache_at s x.cache (block_in frame (addr_of access)) frame_named

-- there are 32 blocks in a frame
pub number_small : (addr : ℕ) → addr / 128 % 32 < 32
number_small addr = mod-lt (addr / 128) (omega arith)
