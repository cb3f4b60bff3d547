-- What a change of a cache or of a TLB is, where it is seen as a function: that of one value, or two.
use Rattle.std.specs.Prelude.{◌≡◌, ◌≢◌, ◌↔◌, ◌<◌, ℕ, true, cond, None, Some}
use Rattle.og_base.specs.declared.Frame.{Frame}
use Rattle.og_base.specs.declared.Block.{Block}
use Rattle.og_line.specs.declared.Line.{Line}
use Rattle.og_line.specs.declared.Mode.{Mode}
use Rattle.og_base.specs.declared.VPage.{VPage}
use Rattle.og_block.specs.State.{NoCopy}
use Rattle.og_pages.specs.State.{put, put_pair, NoEntry, To}
use Rattle.og_pages.specs.Rows.{points_to}
use Rattle.og_tlb.specs.declared.Translation.{Translation}
use Rattle.og_tlb.specs.Tlb.{Translations, IsTlb, look_of as frame_of, empty_tlb, filled as tlb_filled, overwritten, without_page, without_frame}
use Rattle.og_cache.specs.declared.CachedBlock.{CachedBlock}
use Rattle.og_cache.specs.Cache.{Cached, IsCache, look_of, empty_cache, has_room, filled, with_mode, with_line, without, thrown_out, reserved}
use Rattle.og_line.specs.declared.Access.{Access}
use Rattle.og_line.specs.Access.{addr_of}
use Rattle.og_image.specs.Image.{ImageState}
use Rattle.rv_hart.specs.declared.hart.Need.TheVariants as need
use Rattle.rv_hart.specs.Hart.{need_of}
use Rattle.og_processor.specs.State.{ProcessorState}
use Rattle.og_processor.specs.Access.{page_of}
use Rattle.og_seen.specs.Numbers.{Sizes, frame_count, is_there, frame_number, frame_at, page_number}
use Rattle.og_seen.specs.Caches.{copy_in, cache_seen}
use Rattle.og_seen.specs.Tlbs.{tlb_seen, IsNumbered, PagesDiffer, NamesFrames}
use Rattle.og_seen.specs.Sound.{AreSizes, IsPlaced, IsProcessorOf}

-- frames that there are have numbers below the count of frames, each its own, and each such number has its frame
pub record NumbersAreFrames : Type 0 where
  pub number : (s : Sizes) (frame : Frame) → (is_there s frame ≡ true) ↔ (frame_number s frame < frame_count s)
  pub frame : (s : Sizes) (frame : Frame) → is_there s frame ≡ true → frame_at s (frame_number s frame) ≡ frame
  pub back : (s : Sizes) (f : ℕ) → f < frame_count s → frame_number s (frame_at s f) ≡ f

-- a new cache is seen to have nothing; a fill, a take-out, a change of mode or of the line changes the one copy; and so does a
-- reserve that throws something out
pub record CachesAreSeen : Type 0 where
  pub new : (s : Sizes) (sets ways f k : ℕ) → cache_seen s (empty_cache sets ways) f k ≡ NoCopy
  pub fill : (s : Sizes) (cache : Cached) (block : Block) (mode : Mode) (line : Line) → IsCache cache → is_there s block.frame ≡ true → look_of cache block ≡ None → has_room cache block ≡ true
      → cache_seen s (filled cache block mode line) ≡ put_pair (cache_seen s cache) (frame_number s block.frame) block.number (copy_in mode line)
  pub take_out : (s : Sizes) (cache : Cached) (block : Block) → IsCache cache → is_there s block.frame ≡ true
      → cache_seen s (without cache block) ≡ put_pair (cache_seen s cache) (frame_number s block.frame) block.number NoCopy
  pub change_mode : (s : Sizes) (cache : Cached) (block : Block) (old mode : Mode) (line : Line) → IsCache cache → is_there s block.frame ≡ true → look_of cache block ≡ Some (old, line)
      → cache_seen s (with_mode cache block mode) ≡ put_pair (cache_seen s cache) (frame_number s block.frame) block.number (copy_in mode line)
  pub change_line : (s : Sizes) (cache : Cached) (block : Block) (mode : Mode) (old line : Line) → IsCache cache → is_there s block.frame ≡ true → look_of cache block ≡ Some (mode, old)
      → cache_seen s (with_line cache block line) ≡ put_pair (cache_seen s cache) (frame_number s block.frame) block.number (copy_in mode line)
  pub reserve : (s : Sizes) (cache : Cached) (block : Block) (out : CachedBlock) → IsCache cache → thrown_out cache block ≡ Some out → is_there s out.block.frame ≡ true
      → cache_seen s (reserved cache block) ≡ put_pair (cache_seen s cache) (frame_number s out.block.frame) out.block.number NoCopy
  pub own : (s : Sizes) (cache : Cached) (block : Block) (mode : Mode) (line : Line) → is_there s block.frame ≡ true → look_of cache block ≡ Some (mode, line)
      → cache_seen s cache (frame_number s block.frame) block.number ≡ copy_in mode line

-- a new TLB is seen to have nothing; a fill changes the entry of its page, and that of the page whose slot it writes over; a page that
-- is dropped loses its entry; and so do all pages in a frame that is dropped
pub record TlbsAreSeen : Type 0 where
  pub new : (s : Sizes) (entries y : ℕ) → tlb_seen s (empty_tlb entries) y ≡ NoEntry
  pub own : (s : Sizes) (tlb : Translations) (page : VPage) (frame : Frame) (y : ℕ) → IsNumbered s page y → frame_of tlb page ≡ Some frame → tlb_seen s tlb y ≡ To (frame_number s frame)
  pub absent : (s : Sizes) (tlb : Translations) (page : VPage) (y : ℕ) → IsNumbered s page y → frame_of tlb page ≡ None → tlb_seen s tlb y ≡ NoEntry
  pub fill : (s : Sizes) (tlb : Translations) (page : VPage) (frame : Frame) (y : ℕ) → PagesDiffer s → IsTlb tlb → IsNumbered s page y → ((old : Translation) → overwritten tlb page ≡ Some old → old.page ≡ page)
      → tlb_seen s (tlb_filled tlb page frame) ≡ put (tlb_seen s tlb) y (To (frame_number s frame))
  pub fill_over : (s : Sizes) (tlb : Translations) (page : VPage) (frame : Frame) (y z : ℕ) (old : Translation) → PagesDiffer s → IsTlb tlb → IsNumbered s page y → overwritten tlb page ≡ Some old → old.page ≢ page → IsNumbered s old.page z
      → tlb_seen s (tlb_filled tlb page frame) ≡ put (put (tlb_seen s tlb) z NoEntry) y (To (frame_number s frame))
  pub drop_page : (s : Sizes) (tlb : Translations) (page : VPage) (y : ℕ) → PagesDiffer s → IsTlb tlb → IsNumbered s page y
      → tlb_seen s (without_page tlb page) ≡ put (tlb_seen s tlb) y NoEntry
  pub drop_frame : (s : Sizes) (tlb : Translations) (frame : Frame) (y : ℕ) → IsTlb tlb → NamesFrames s tlb → is_there s frame ≡ true
      → tlb_seen s (without_frame tlb frame) y ≡ cond (points_to (frame_number s frame) (tlb_seen s tlb y)) NoEntry (tlb_seen s tlb y)

-- each placed page has its number, and each number its page; and the page of an access that a hart needs is placed
pub record PagesAreSeen : Type 0 where
  pub number : (s : Sizes) (page : VPage) → IsPlaced s page → IsNumbered s page (page_number s page)
  pub one : (s : Sizes) (page other : VPage) → IsPlaced s page → IsPlaced s other → page_number s page ≡ page_number s other → page ≡ other
  pub differ : (s : Sizes) → AreSizes s → PagesDiffer s
  pub needed : (image : ImageState) (s : Sizes) (x : ProcessorState) (access : Access) → IsProcessorOf image s x → need_of image x.hart ≡ need.Access access → IsPlaced s (page_of (addr_of access))
