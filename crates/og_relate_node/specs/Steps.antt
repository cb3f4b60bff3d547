-- What a node does of itself, and with a message: each function is a row of the theory, or a few, or none.
use Rattle.std.specs.Prelude.{ℕ, Bool, true, false, cond, List, [], ◌∷◌}
use Rattle.std.proofs.Common.{Option, None, Some}
use Rattle.og_block.specs.State.{put, Copy, NoCopy, Shared, Clean, Dirty, Response}
use Rattle.og_block.specs.Rows.{marked}
use Rattle.og_pages.specs.State.{put_pair, TlbEntry, NoEntry, To}
use Rattle.og_relate.specs.Data.{KWalk, KInvalAck, Post, Got, Request, Slot, Cpu, Harts, Setup}
use Rattle.og_relate.specs.Places.{is_at}
use Rattle.og_relate.specs.Goes.{Made}
use Rattle.og_relate.specs.Steps.{letter}
use Rattle.og_relate.specs.Node.{receive_got, receive_response, hold_drop, answer_drop, settle, settle_made}

-- an intervention for the block in the slot: the slot is freed where the busy acknowledgement came, and has seen it else
abbrev pub slot_met : Slot → Option Slot
slot_met v = cond v.busy None (Some (record v { seen = true }))

-- an acknowledgement of the write-back: a plain one frees the slot; a busy one does where the intervention was seen
abbrev pub slot_acknowledged : Slot → Bool → Option Slot
slot_acknowledged v false = None
slot_acknowledged v true = cond v.seen None (Some (record v { busy = true }))

-- a page that another one takes the place of leaves the TLB
abbrev pub without_page : (ℕ → TlbEntry) → Option ℕ → ℕ → TlbEntry
without_page tlb None = tlb
without_page tlb (Some y) = put tlb y NoEntry

module _ {L : Type 0} where
  -- the line of a copy
  abbrev pub line_of : Copy L → Option L
  line_of NoCopy = None
  line_of (Shared l) = Some l
  line_of (Clean l) = Some l
  line_of (Dirty l) = Some l

  -- a request for the block is marked, where it is a read
  abbrev pub marked_at : ℕ → ℕ → Option (Request L) → Option (Request L)
  marked_at f k None = None
  marked_at f k (Some r) = cond (is_at f k r) (Some (record r { want = marked r.want })) (Some r)

module _ {L : Type 0} {H : Type 0} where
  -- ------------------------------------------------------------ acts

  -- the hart goes on, and nothing else happens
  abbrev pub with_hart : Cpu L H → H → Cpu L H
  with_hart c h = record c { hart = h }

  -- an access on a copy that is there: it stores, and then the copy is dirty, or it doesn't
  abbrev pub hit_with : Harts L H → Cpu L H → ℕ → ℕ → L → Bool → Cpu L H
  hit_with harts c f k l true = record c { hart = harts.after c.hart l; cache = put_pair c.cache f k (Dirty (harts.line_after c.hart l)) }
  hit_with harts c f k l false = with_hart c (harts.after c.hart l)

  abbrev pub hit : Harts L H → Cpu L H → ℕ → ℕ → L → Cpu L H
  hit harts c f k l = hit_with harts c f k l (harts.stores c.hart l)

  abbrev pub left_with : Harts L H → Cpu L H → L → Bool → Option L
  left_with harts c l true = Some (harts.line_after c.hart l)
  left_with harts c l false = None

  abbrev pub hit_made : Harts L H → Cpu L H → ℕ → L → List (Made L)
  hit_made harts c k l = record { page = harts.page c.hart; number = k; found = l; left = left_with harts c l (harts.stores c.hart l) } ∷ []

  -- the mover is asked where a page is
  abbrev pub walk_out : Setup → ℕ → ℕ → Cpu L H → Cpu L H × List (Post L)
  walk_out s p y c = (record c { walk = Some y }, letter p s.nodes (KWalk y) ∷ [])

  -- ------------------------------------------------------------ parts of a request

  abbrev pub take_reply : Setup → Harts L H → ℕ → ℕ → ℕ → Cpu L H → Request L → Got L → Cpu L H × List (Post L)
  take_reply s harts p f k c r g = settle s harts p f k (receive_got c r g) (record r { got = g })

  abbrev pub reply_made : Harts L H → ℕ → ℕ → Cpu L H → Request L → Got L → List (Made L)
  reply_made harts f k c r g = settle_made harts f k (receive_got c r g) (record r { got = g })

  abbrev pub take_response : Setup → Harts L H → ℕ → ℕ → ℕ → Cpu L H → Request L → Response L → Cpu L H × List (Post L)
  take_response s harts p f k c r v = settle s harts p f k (receive_response c r v) (record r { response = v })

  abbrev pub response_made : Harts L H → ℕ → ℕ → Cpu L H → Request L → Response L → List (Made L)
  response_made harts f k c r v = settle_made harts f k (receive_response c r v) (record r { response = v })

  -- ------------------------------------------------------------ the victim slot

  abbrev pub with_slot : Cpu L H → Option Slot → Cpu L H
  with_slot c v = record c { slot = v }

  abbrev pub take_at_slot : Setup → ℕ → Cpu L H → Option Slot → Cpu L H × List (Post L)
  take_at_slot s p c v = answer_drop p s.nodes (with_slot c v)

  -- ------------------------------------------------------------ invalidations, walks and drops

  abbrev pub invalidated : Cpu L H → ℕ → ℕ → Cpu L H
  invalidated c f k = record c { cache = put_pair c.cache f k NoCopy; request = marked_at f k c.request }

  abbrev pub take_invalidation : ℕ → ℕ → ℕ → ℕ → Cpu L H → Cpu L H × List (Post L)
  take_invalidation p f k r c = (invalidated c f k, letter p r (KInvalAck f k) ∷ [])

  abbrev pub walked : Cpu L H → Option ℕ → ℕ → ℕ → Cpu L H
  walked c out y f = record c { walk = None; tlb = put (without_page c.tlb out) y (To f) }

  abbrev pub take_walked : Setup → ℕ → Cpu L H → Option ℕ → ℕ → ℕ → Cpu L H × List (Post L)
  take_walked s p c out y f = answer_drop p s.nodes (walked c out y f)

  abbrev pub take_retry : Setup → ℕ → Cpu L H → Cpu L H × List (Post L)
  take_retry s p c = answer_drop p s.nodes (record c { walk = None })

  abbrev pub take_drop : Setup → ℕ → Cpu L H → ℕ → Cpu L H × List (Post L)
  take_drop s p c f = answer_drop p s.nodes (hold_drop c f)
