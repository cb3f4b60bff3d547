-- A processor seen with numbers for frames and pages, and what an event of it notes.
use Rattle.std.specs.Prelude.{◌≡◌, ℕ, ◌/◌, ◌%◌, Bool, Option, None, Some, option_map, unwrap_or, List, [], ◌∷◌}
use Rattle.og_line.specs.declared.Line.{Line}
use Rattle.og_line.specs.declared.Access.{Access}
use Rattle.og_line.specs.declared.Reservation.{Reservation}
use Rattle.og_line.specs.Access.{addr_of, answer_of, line_after, reservation_after}
use Rattle.og_msg.specs.declared.Note.{Note}
use Rattle.og_msg.specs.declared.Note.TheVariants as note
use Rattle.og_image.specs.Image.{ImageState}
use Rattle.og_block.specs.State.{Want as SeenWant, Reading, Writing, Upgrading, Response as SeenResponse, NoResponse, SharedResponse, ExclusiveResponse, OwnerAck, Intervention, NoIntervention, InterveneShared, InterveneExclusive, IntervenePoison}
use Rattle.og_request.specs.declared.Want.{Want}
use Rattle.og_request.specs.declared.Want.TheVariants.{Read, ReadEx, Upgrade}
use Rattle.og_request.specs.declared.Held.{Held}
use Rattle.og_request.specs.declared.Held.TheVariants.{Shared as ShareWith, Exclusive as GiveTo, Poison as GiveBack}
use Rattle.og_request.specs.declared.Reply.{Reply}
use Rattle.og_request.specs.declared.Reply.TheVariants.{Shared as SharedPart, Exclusive as ExclusivePart, Speculative as SpeculativePart, Upgrade as UpgradePart, Nak as NakPart, PoisonError as PoisonErrorPart}
use Rattle.og_request.specs.declared.Response.{Response}
use Rattle.og_request.specs.declared.Response.TheVariants.{Shared as SharedLine, Exclusive as ExclusiveLine, OwnerAck as HomeLineIsGood}
use Rattle.og_request.specs.Request.{Requested}
use Rattle.og_victim.specs.declared.Slot.{Slot}
use Rattle.og_victim.specs.declared.Slot.TheVariants.{Free, Taken}
use Rattle.rv_hart.specs.declared.hart.Need.TheVariants as need
use Rattle.rv_hart.specs.Hart.{need_of}
use Rattle.og_processor.specs.State.{ProcessorState, Given}
use Rattle.og_processor.specs.Access.{page_of}
use Rattle.og_relate.specs.Data.{Got, NoGot, GotShared, GotSpec, GotExclusive, GotUpgrade, GotNak, GotError, Request, Slot as SeenSlot, Cpu}
use Rattle.og_relate.specs.Goes.{Made}
use Rattle.og_seen.specs.Numbers.{Sizes, frame_number, page_number}
use Rattle.og_seen.specs.Caches.{cache_seen}
use Rattle.og_seen.specs.Tlbs.{tlb_seen}
use Rattle.og_seen.specs.Harts.{Hart}

-- ---- a request

abbrev pub want_seen : Want → (marked : Bool) → SeenWant
want_seen Read marked = Reading marked
want_seen ReadEx marked = Writing
want_seen Upgrade marked = Upgrading

abbrev pub got_seen : Option Reply → Got Line
got_seen None = NoGot
got_seen (Some (SharedPart line)) = GotShared line
got_seen (Some (ExclusivePart line acks)) = GotExclusive line acks
got_seen (Some (SpeculativePart line)) = GotSpec line
got_seen (Some (UpgradePart acks)) = GotUpgrade acks
got_seen (Some NakPart) = GotNak
got_seen (Some PoisonErrorPart) = GotError

abbrev pub response_seen : Option Response → SeenResponse Line
response_seen None = NoResponse
response_seen (Some (SharedLine line)) = SharedResponse line
response_seen (Some (ExclusiveLine line)) = ExclusiveResponse line
response_seen (Some HomeLineIsGood) = OwnerAck

-- an intervention that gives a block back is the mover's
abbrev pub intervention_seen : Sizes → Held → Intervention
intervention_seen s (ShareWith requester) = InterveneShared requester
intervention_seen s (GiveTo requester) = InterveneExclusive requester
intervention_seen s GiveBack = IntervenePoison s.nodes

abbrev pub held_seen : Sizes → Option Held → Intervention
held_seen s None = NoIntervention
held_seen s (Some held) = intervention_seen s held

abbrev pub request_seen : Sizes → Requested → Request Line
request_seen s r = record {
  frame = frame_number s r.block.frame;
  number = r.block.number;
  want = want_seen r.want r.marked;
  got = got_seen r.reply;
  response = response_seen r.response;
  acks = r.acks;
  held = held_seen s r.held;
}

-- ---- a victim slot

abbrev pub slot_seen : Sizes → Slot → Option SeenSlot
slot_seen s Free = None
slot_seen s (Taken block busy seen) = Some (record { frame = frame_number s block.frame; number = block.number; busy = busy; seen = seen })

-- ---- all of it

abbrev pub hart_seen : ProcessorState → Hart
hart_seen x = record { state = x.hart; reserved = x.reserved }

abbrev pub cpu_seen : Sizes → ProcessorState → Cpu Line Hart
cpu_seen s x = record {
  hart = hart_seen x;
  cache = cache_seen s x.cache;
  tlb = tlb_seen s x.tlb;
  walk = option_map (page_number s) x.walk;
  request = option_map (request_seen s) x.request;
  slot = slot_seen s x.victim;
  drop = option_map (frame_number s) x.drop;
}

-- ---- notes

-- an access that was made is noted: it is the one that the hart needs, with its answer on the line that was found, and leaves this
-- reservation
pub record IsNoted (image : ImageState) (s : Sizes) (x : ProcessorState) (reserved : Option Reservation) (made : Made Line) (access : Access) (answer : ℕ) : Type 0 where
  pub needs : need_of image x.hart ≡ need.Access access
  pub page : made.page ≡ page_number s (page_of (addr_of access))
  pub number : made.number ≡ addr_of access / 128 % 32
  pub answer_is : answer ≡ answer_of made.found x.reserved access
  pub left_is : unwrap_or made.left made.found ≡ line_after made.found x.reserved access
  pub reserved_is : reserved ≡ reservation_after made.found x.reserved access

abbrev pub NotesBy : ImageState → Sizes → ProcessorState → Option Reservation → List (Made Line) → Option Note → Type 0
NotesBy image s x reserved [] (Some (note.Access access answer)) = ⊥
NotesBy image s x reserved [] noted = reserved ≡ x.reserved
NotesBy image s x reserved (made ∷ []) (Some (note.Access access answer)) = IsNoted image s x reserved made access answer
NotesBy image s x reserved made noted = ⊥

-- what an event of a processor notes: its access where it makes one, and no access else; and then the reservation stays
abbrev pub Notes : ImageState → Sizes → ProcessorState → List (Made Line) → Given → Type 0
Notes image s x made given = NotesBy image s x given.state.reserved made given.note
