-- A processor, and what a row of its tables gives. An event is one row, or a few, one after another.
use Rattle.std.specs.Prelude.{◌≡◌, ℕ, ◌+◌, ◌*◌, Option, Some, None, List, [], ◌∷◌, ◌++◌}
use Rattle.og_base.specs.declared.VPage.{VPage}
use Rattle.og_base.specs.declared.Frame.{Frame}
use Rattle.og_base.specs.declared.Settings.{Settings}
use Rattle.og_line.specs.declared.Reservation.{Reservation}
use Rattle.og_runs.specs.declared.Letter.{Letter}
use Rattle.og_msg.specs.declared.Kind.{Kind}
use Rattle.og_msg.specs.declared.Note.{Note}
use Rattle.og_image.specs.Image.{ImageState}
use Rattle.og_cache.specs.Cache.{Cached, empty_cache}
use Rattle.og_tlb.specs.Tlb.{Translations, empty_tlb}
use Rattle.og_request.specs.Request.{Requested}
use Rattle.og_victim.specs.declared.Slot.{Slot}
use Rattle.og_victim.specs.declared.Slot.TheVariants.{Free}
use Rattle.rv_hart.specs.Hart.{HartState, start_of}

-- a hart with its reservation; a cache and a TLB; one request or one walk, if anything is outstanding; the victim slot; and
-- a frame that the node is to forget as soon as nothing is outstanding and the slot is free
pub record ProcessorState : Type 0 where
  pub hart : HartState
  pub reserved : Option Reservation
  pub cache : Cached
  pub tlb : Translations
  pub request : Option Requested
  pub walk : Option VPage
  pub victim : Slot
  pub drop : Option Frame

abbrev pub Letters : Type 0
Letters = List (Letter Kind)

-- what a row gives: the processor after it, the letters that it sends, in order, and maybe a note
pub record Given : Type 0 where
  pub state : ProcessorState
  pub letters : Letters
  pub note : Option Note

-- a row that sends nothing and notes nothing
abbrev pub becomes : ProcessorState → Given
becomes x = record { state = x; letters = []; note = None }

-- a row that sends letters and notes nothing
abbrev pub sends : ProcessorState → Letters → Given
sends x letters = record { state = x; letters = letters; note = None }

-- of the rows of one event at most one notes something
abbrev pub either_note : Option Note → Option Note → Option Note
either_note (Some note) other = Some note
either_note None other = other

-- one row after another
abbrev pub and_then : Given → (ProcessorState → Given) → Given
and_then one next = record {
  state = (next one.state).state;
  letters = one.letters ++ (next one.state).letters;
  note = either_note one.note (next one.state).note;
}

abbrev pub letter : ℕ → Kind → Letter Kind
letter to kind = record { to = to; kind = kind }

-- a processor at the start: its hart before its first instruction with the end of its stack page, and all else empty
abbrev pub new_processor : ImageState → Settings → ℕ → ProcessorState
new_processor image settings number = record {
  hart = start_of image.entry number settings.nodes (0x70000000 + number * 0x2000 + 4096) settings.instructions;
  reserved = None;
  cache = empty_cache settings.sets settings.ways;
  tlb = empty_tlb settings.tlb;
  request = None;
  walk = None;
  victim = Free;
  drop = None;
}

-- a call did this: the processor after it, the letters that it added to those before, and what it notes
pub record Did (given : Given) (after : ProcessorState) (before letters : Letters) (noted : Option Note) : Type 0 where
  pub state : after ≡ given.state
  pub added : letters ≡ before ++ given.letters
  pub note : noted ≡ given.note
