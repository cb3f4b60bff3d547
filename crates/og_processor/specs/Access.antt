-- An access on a copy.
use Rattle.std.specs.Prelude.{ℕ, ◌/◌, ◌%◌, Bool, true, false, not, Option, Some, None, [], if◌then◌else◌}
use Rattle.og_base.specs.declared.VPage.{VPage}
use Rattle.og_base.specs.declared.Frame.{Frame}
use Rattle.og_base.specs.declared.Block.{Block}
use Rattle.og_line.specs.declared.Line.{Line}
use Rattle.og_line.specs.declared.Mode.{Mode}
use Rattle.og_line.specs.declared.Mode.TheVariants.{Shared, Clean, Dirty}
use Rattle.og_line.specs.declared.Reservation.{Reservation}
use Rattle.og_line.specs.declared.Access.{Access}
use Rattle.og_line.specs.declared.Access.TheVariants.{Load, Store, Reserve, Conditional, Atomic}
use Rattle.og_line.specs.Access.{is_write, is_reserved, answer_of, line_after, reservation_after}
use Rattle.og_msg.specs.declared.Note.TheVariants as note
use Rattle.og_image.specs.Image.{ImageState}
use Rattle.og_cache.specs.Cache.{Cached, with_line, with_mode}
use Rattle.rv_hart.specs.Hart.{finish_of}
use Rattle.og_processor.specs.State.{ProcessorState, Given}

-- the page of an address
abbrev pub page_of : ℕ → VPage
page_of addr = record { 0 = addr / 4096 }

-- the block of an address whose page is in this frame
abbrev pub block_in : Frame → ℕ → Block
block_in frame addr = record { frame = frame; number = addr / 128 % 32 }

-- a copy in this mode is enough for the access: any for a load or a reserve, one that may be written for the others
abbrev pub allows : Option Mode → Access → Bool
allows None access = false
allows (Some Shared) access = not (is_write access)
allows (Some Clean) access = true
allows (Some Dirty) access = true

-- the access stores: a conditional does exactly where its reservation stands
abbrev pub stores : Line → Option Reservation → Access → Bool
stores line reserved (Load addr width) = false
stores line reserved (Store addr width value) = true
stores line reserved (Reserve addr width) = false
stores line reserved (Conditional addr width value) = is_reserved reserved addr width line.stores
stores line reserved (Atomic op addr width value) = true

-- the cache after the access on the block's line: a store makes the copy dirty
abbrev pub cache_after : Cached → Block → Line → Option Reservation → Access → Cached
cache_after cache block line reserved access =
    if stores line reserved access
    then with_mode (with_line cache block (line_after line reserved access)) block Dirty
    else with_line cache block (line_after line reserved access)

-- the access is made on the copy's line, and the hart goes on with its answer
abbrev pub completes : ImageState → ProcessorState → Block → Line → Access → Given
completes image x block line access = record {
  state = record x {
    hart = finish_of image x.hart (answer_of line x.reserved access);
    reserved = reservation_after line x.reserved access;
    cache = cache_after x.cache block line x.reserved access;
  };
  letters = [];
  note = Some (note.Access access (answer_of line x.reserved access));
}
