-- Every act of a node's processor, and every message that it takes, is rows of the theory, and the message has its row.
use Rattle.std.specs.Prelude.{◌≡◌, ℕ, ◌<◌, true, false, List, [], ◌∷◌, ◌++◌}
use Rattle.std.proofs.Common.{Option, None, Some}
use Rattle.og_block.specs.State.{put, Copy, Response, NoResponse, Intervention, NoIntervention, Idle, Free}
use Rattle.og_block.specs.Rows.{HasWritable, has_exclusive}
use Rattle.og_block.specs.Message.{Intervened}
use Rattle.og_pages.specs.State.{To, NoEntry}
use Rattle.og_whole.specs.Events.{World}
use Rattle.og_whole.specs.Messages.{OfBlock}
use Rattle.og_relate.specs.Data.{KInvalidate, KWbAck, KWbBusyAck, KWalked, KWalkRetry, KDropFrame, Post, Got, NoGot, Request, Slot, Cpu, HomeSide, Mover, Harts, Setup, IsSetup}
use Rattle.og_relate.specs.Places.{content_of, is_at, got_message, response_message, held_message}
use Rattle.og_relate.specs.Sim.{Sim, HeldTidy, want_at, victim_at}
use Rattle.og_relate.specs.Goes.{Makes, Goes}
use Rattle.og_relate.specs.Steps.{letter}
use Rattle.og_relate.specs.Node.{hold, held_post, tail}
use Rattle.og_relate.specs.Laws.{machine, ActsWith}
use Rattle.og_relate_node.specs.Steps.{line_of, with_hart, hit_with, walk_out, take_reply, reply_made, take_response, response_made, slot_met, slot_acknowledged, take_at_slot, take_invalidation, take_walked, take_retry, take_drop}

-- an instruction that needs no line, and a hart that stops: no row, while no request is out
abbrev pub HartsGoOn : (L H : Type 0) → Type 0
HartsGoOn L H =
    (s : Setup) (harts : Harts L H) (cpu : ℕ → Cpu L H) (home : ℕ → HomeSide L) (mover : Mover L) (w : World L) (p : ℕ) (hart : H) (rest : List (Post L))
    → Sim s harts (machine cpu home mover rest) w
    → p < s.nodes
    → (cpu p).request ≡ None
    → Goes s harts (machine (put cpu p (with_hart (cpu p) hart)) home mover rest) w

-- an access on a copy that is there, and that doesn't store: a load, or a conditional that fails
abbrev pub ReadsHit : (L H : Type 0) → Type 0
ReadsHit L H =
    (s : Setup) (harts : Harts L H) (cpu : ℕ → Cpu L H) (home : ℕ → HomeSide L) (mover : Mover L) (w : World L) (p frame number : ℕ) (line : L) (copy : Copy L) (rest : List (Post L))
    → Sim s harts (machine cpu home mover rest) w
    → p < s.nodes
    → (cpu p).request ≡ None
    → (cpu p).tlb (harts.page (cpu p).hart) ≡ To frame
    → number < s.blocks
    → (cpu p).cache frame number ≡ copy
    → line_of copy ≡ Some line
    → Makes s harts (machine (put cpu p (hit_with harts (cpu p) frame number line false)) home mover rest) w (record { page = harts.page (cpu p).hart; number = number; found = line; left = None } ∷ [])

-- an access that stores, on a copy that may be written
abbrev pub WritesHit : (L H : Type 0) → Type 0
WritesHit L H =
    (s : Setup) (harts : Harts L H) (cpu : ℕ → Cpu L H) (home : ℕ → HomeSide L) (mover : Mover L) (w : World L) (p frame number : ℕ) (line : L) (rest : List (Post L))
    → Sim s harts (machine cpu home mover rest) w
    → p < s.nodes
    → (cpu p).request ≡ None
    → (cpu p).tlb (harts.page (cpu p).hart) ≡ To frame
    → number < s.blocks
    → HasWritable ((cpu p).cache frame number) line
    → Makes s harts (machine (put cpu p (hit_with harts (cpu p) frame number line true)) home mover rest) w (record { page = harts.page (cpu p).hart; number = number; found = line; left = Some (harts.line_after (cpu p).hart line) } ∷ [])

-- the page of an access isn't in the TLB: the mover is asked
abbrev pub WalksGoOut : (L H : Type 0) → Type 0
WalksGoOut L H =
    (s : Setup) (harts : Harts L H) (cpu : ℕ → Cpu L H) (home : ℕ → HomeSide L) (mover : Mover L) (w : World L) (p page : ℕ) (rest : List (Post L))
    → Sim s harts (machine cpu home mover rest) w
    → p < s.nodes
    → (cpu p).request ≡ None
    → (cpu p).walk ≡ None
    → (cpu p).tlb page ≡ NoEntry
    → page < s.pages
    → ActsWith s harts cpu home mover rest w p (walk_out s p page (cpu p)) []

-- the home's reply to a request finds it, without a reply
abbrev pub RepliesAreTaken : (L H : Type 0) → Type 0
RepliesAreTaken L H =
    (s : Setup) (harts : Harts L H) (cpu : ℕ → Cpu L H) (home : ℕ → HomeSide L) (mover : Mover L) (w : World L) (p frame number : ℕ) (got : Got L) (message : Post L) (rest : List (Post L))
    → IsSetup s
    → p < s.nodes
    → Sim s harts (machine cpu home mover (message ∷ rest)) w
    → got_message frame number p got ≡ Some (content_of s.nodes message)
    → (request : Request L) × ((cpu p).request ≡ Some request) × (is_at frame number request ≡ true) × (request.got ≡ NoGot) × ActsWith s harts cpu home mover rest w p (take_reply s harts p frame number (cpu p) request got) (reply_made harts frame number (cpu p) request got)

-- the owner's response to a request finds it, without a response
abbrev pub ResponsesAreTaken : (L H : Type 0) → Type 0
ResponsesAreTaken L H =
    (s : Setup) (harts : Harts L H) (cpu : ℕ → Cpu L H) (home : ℕ → HomeSide L) (mover : Mover L) (w : World L) (p frame number : ℕ) (response : Response L) (message : Post L) (rest : List (Post L))
    → IsSetup s
    → p < s.nodes
    → Sim s harts (machine cpu home mover (message ∷ rest)) w
    → response_message frame number p response ≡ Some (content_of s.nodes message)
    → (request : Request L) × ((cpu p).request ≡ Some request) × (is_at frame number request ≡ true) × (request.response ≡ NoResponse) × ActsWith s harts cpu home mover rest w p (take_response s harts p frame number (cpu p) request response) (response_made harts frame number (cpu p) request response)

-- an intervention for the block of an outstanding request is held, where none is held yet
abbrev pub InterventionsWait : (L H : Type 0) → Type 0
InterventionsWait L H =
    (s : Setup) (harts : Harts L H) (cpu : ℕ → Cpu L H) (home : ℕ → HomeSide L) (mover : Mover L) (w : World L) (p frame number : ℕ) (i : Intervention) (request : Request L) (message : Post L) (rest : List (Post L))
    → Sim s harts (machine cpu home mover (message ∷ rest)) w
    → p < s.nodes
    → (cpu p).request ≡ Some request
    → is_at frame number request ≡ true
    → held_message frame number p i ≡ Some (content_of s.nodes message)
    → HeldTidy s i
    → (request.held ≡ NoIntervention) × Goes s harts (machine (put cpu p (hold (cpu p) request i)) home mover rest) w

-- any other one is answered by the copy, which isn't a shared one, and then a held drop that is due
abbrev pub InterventionsAreAnswered : (L H : Type 0) → Type 0
InterventionsAreAnswered L H =
    (s : Setup) (harts : Harts L H) (cpu : ℕ → Cpu L H) (home : ℕ → HomeSide L) (mover : Mover L) (w : World L) (p frame number : ℕ) (i : Intervention) (rest : List (Post L))
    → IsSetup s
    → p < s.nodes
    → Sim s harts (machine cpu home mover (held_post s p frame number i ++ rest)) w
    → want_at frame number (cpu p).request ≡ Idle
    → victim_at frame number (cpu p).slot ≡ Free
    → ActsWith s harts cpu home mover rest w p (tail s p frame number i (cpu p)) []

-- or by the victim slot that has the block
abbrev pub SlotsMeetInterventions : (L H : Type 0) → Type 0
SlotsMeetInterventions L H =
    (s : Setup) (harts : Harts L H) (cpu : ℕ → Cpu L H) (home : ℕ → HomeSide L) (mover : Mover L) (w : World L) (p frame number : ℕ) (slot : Slot) (i : Intervention) (message : Post L) (rest : List (Post L))
    → Sim s harts (machine cpu home mover (message ∷ rest)) w
    → p < s.nodes
    → (cpu p).slot ≡ Some slot
    → slot.frame ≡ frame
    → slot.number ≡ number
    → content_of s.nodes message ≡ OfBlock frame number (Intervened p i)
    → ActsWith s harts cpu home mover rest w p (take_at_slot s p (cpu p) (slot_met slot)) []

-- an acknowledgement of a write-back finds its slot, and frees it
abbrev pub SlotsAreFreed : (L H : Type 0) → Type 0
SlotsAreFreed L H =
    (s : Setup) (harts : Harts L H) (cpu : ℕ → Cpu L H) (home : ℕ → HomeSide L) (mover : Mover L) (w : World L) (p frame number : ℕ) (rest : List (Post L))
    → Sim s harts (machine cpu home mover (letter (s.home frame) p (KWbAck frame number) ∷ rest)) w
    → p < s.nodes
    → (slot : Slot) × ((cpu p).slot ≡ Some slot) × (slot.frame ≡ frame) × (slot.number ≡ number) × ActsWith s harts cpu home mover rest w p (take_at_slot s p (cpu p) (slot_acknowledged slot false)) []

-- a busy one finds its slot too, and frees it where the intervention was seen
abbrev pub SlotsAreBusy : (L H : Type 0) → Type 0
SlotsAreBusy L H =
    (s : Setup) (harts : Harts L H) (cpu : ℕ → Cpu L H) (home : ℕ → HomeSide L) (mover : Mover L) (w : World L) (p frame number : ℕ) (rest : List (Post L))
    → Sim s harts (machine cpu home mover (letter (s.home frame) p (KWbBusyAck frame number) ∷ rest)) w
    → p < s.nodes
    → (slot : Slot) × ((cpu p).slot ≡ Some slot) × (slot.frame ≡ frame) × (slot.number ≡ number) × ActsWith s harts cpu home mover rest w p (take_at_slot s p (cpu p) (slot_acknowledged slot true)) []

-- an invalidation meets no copy that may be written
abbrev pub InvalidationsAreTaken : (L H : Type 0) → Type 0
InvalidationsAreTaken L H =
    (s : Setup) (harts : Harts L H) (cpu : ℕ → Cpu L H) (home : ℕ → HomeSide L) (mover : Mover L) (w : World L) (p requester frame number : ℕ) (rest : List (Post L))
    → Sim s harts (machine cpu home mover (letter (s.home frame) p (KInvalidate frame number requester) ∷ rest)) w
    → p < s.nodes
    → (has_exclusive ((cpu p).cache frame number) ≡ false) × ActsWith s harts cpu home mover rest w p (take_invalidation p frame number requester (cpu p)) []

-- the answer to a walk finds it
abbrev pub WalksAreAnswered : (L H : Type 0) → Type 0
WalksAreAnswered L H =
    (s : Setup) (harts : Harts L H) (cpu : ℕ → Cpu L H) (home : ℕ → HomeSide L) (mover : Mover L) (w : World L) (p page frame : ℕ) (out : Option ℕ) (rest : List (Post L))
    → Sim s harts (machine cpu home mover (letter s.nodes p (KWalked page frame) ∷ rest)) w
    → p < s.nodes
    → ((cpu p).walk ≡ Some page) × ActsWith s harts cpu home mover rest w p (take_walked s p (cpu p) out page frame) []

-- so does the word that the page is moving
abbrev pub WalksAreOver : (L H : Type 0) → Type 0
WalksAreOver L H =
    (s : Setup) (harts : Harts L H) (cpu : ℕ → Cpu L H) (home : ℕ → HomeSide L) (mover : Mover L) (w : World L) (p page : ℕ) (rest : List (Post L))
    → Sim s harts (machine cpu home mover (letter s.nodes p (KWalkRetry page) ∷ rest)) w
    → p < s.nodes
    → ((cpu p).walk ≡ Some page) × ActsWith s harts cpu home mover rest w p (take_retry s p (cpu p)) []

-- a drop request meets none that is held
abbrev pub DropsAreTaken : (L H : Type 0) → Type 0
DropsAreTaken L H =
    (s : Setup) (harts : Harts L H) (cpu : ℕ → Cpu L H) (home : ℕ → HomeSide L) (mover : Mover L) (w : World L) (p frame : ℕ) (rest : List (Post L))
    → Sim s harts (machine cpu home mover (letter s.nodes p (KDropFrame frame) ∷ rest)) w
    → p < s.nodes
    → ((cpu p).drop ≡ None) × ActsWith s harts cpu home mover rest w p (take_drop s p (cpu p) frame) []
