-- What the parts of a machine of these sizes are between events.
use Rattle.std.specs.Prelude.{◌≡◌, ◌≢◌, ℕ, ◌<◌, ◌≤◌, Bool, true, None, Some, length}
use Rattle.std.specs.List.Sorted.{IsStrictlyIncreasing}
use Rattle.og_base.specs.declared.Block.{Block}
use Rattle.og_base.specs.declared.Frame.{Frame}
use Rattle.og_base.specs.declared.VPage.{VPage}
use Rattle.og_elf.specs.Segment.{IsLoadable}
use Rattle.og_image.specs.Image.{ImageState}
use Rattle.og_image.specs.Layout.{pages_of}
use Rattle.og_cache.specs.Cache.{IsCache, look_of}
use Rattle.og_tlb.specs.Tlb.{IsTlb, look_of as frame_of}
use Rattle.og_request.specs.declared.Want.TheVariants.{Read}
use Rattle.og_request.specs.Request.{Requested}
use Rattle.og_victim.specs.declared.Slot.TheVariants.{Taken}
use Rattle.og_directory.specs.Table.{NamesNodes}
use Rattle.og_home.specs.Home.{HomeState}
use Rattle.og_processor.specs.State.{ProcessorState}
use Rattle.og_processor.specs.Sound.{IsSound}
use Rattle.og_mover.specs.Table.{MoverState}
use Rattle.og_mover.specs.Sound.{IsMover}
use Rattle.og_seen.specs.Numbers.{Sizes, is_there, page_number}
use Rattle.og_seen.specs.Tlbs.{NamesFrames}
use Rattle.og_seen.specs.Harts.{access_of, number_wanted, only_reads}
use Rattle.og_seen.specs.Processors.{hart_seen}

-- the sizes of a machine
pub record AreSizes (s : Sizes) : Type 0 where
  pub some_nodes : 1 ≤ s.nodes
  pub few_nodes : s.nodes ≤ 128
  pub some_frames : 1 ≤ s.frames
  pub rising : IsStrictlyIncreasing s.pages

-- the machine has the block
abbrev pub IsBlock : Sizes → Block → Type 0
IsBlock s b = (is_there s b.frame ≡ true) × (b.number < 32)

-- the page is placed
abbrev pub IsPlaced : Sizes → VPage → Type 0
IsPlaced s page = page_number s page < length s.pages

-- a processor of a program that may be loaded names blocks, frames and pages that there are; what it asks for is what its hart needs
pub record IsProcessorOf (image : ImageState) (s : Sizes) (x : ProcessorState) : Type 0 where
  pub loadable : IsLoadable image.entry image.segments
  pub nodes : image.nodes ≡ s.nodes
  pub pages : s.pages ≡ pages_of image
  pub cache : IsCache x.cache
  pub cached : (block : Block) → look_of x.cache block ≢ None → IsBlock s block
  pub tlb : IsTlb x.tlb
  pub named : NamesFrames s x.tlb
  pub translated : (page : VPage) → frame_of x.tlb page ≢ None → IsPlaced s page
  pub walk : (page : VPage) → x.walk ≡ Some page → IsPlaced s page
  pub request : (request : Requested) → x.request ≡ Some request → IsBlock s request.block
  pub wanted : (request : Requested) → x.request ≡ Some request → request.block.number ≡ number_wanted (access_of image (hart_seen x))
  pub reads : (request : Requested) → x.request ≡ Some request → request.want ≡ Read → only_reads (access_of image (hart_seen x)) ≡ true
  pub victim : (block : Block) (busy seen : Bool) → x.victim ≡ Taken block busy seen → IsBlock s block
  pub drop : (frame : Frame) → x.drop ≡ Some frame → is_there s frame ≡ true
  pub sound : IsSound image x

-- the home of node p, whose entries name nodes that there are
pub record IsHomeOf (s : Sizes) (p : ℕ) (home : HomeState) : Type 0 where
  pub number : home.rules.home ≡ p
  pub nodes : home.rules.nodes ≡ s.nodes
  pub frames : home.rules.frames ≡ s.frames
  pub names : (index number : ℕ) → NamesNodes s.nodes (home.entry index number)

-- the mover has a page table of these sizes
pub record IsMoverOf (s : Sizes) (m : MoverState) : Type 0 where
  pub sound : IsMover m
  pub nodes : m.pages.nodes ≡ s.nodes
  pub frames : m.pages.frames ≡ s.frames
  pub pages : m.pages.pages ≡ s.pages
