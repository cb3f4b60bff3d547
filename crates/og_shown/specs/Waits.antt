-- Who waits in a machine, and for what.
use Rattle.std.specs.Prelude.{◌≡◌, ◌≢◌, ℕ, ◌<◌, true, ◌⊎◌}
use Rattle.std.proofs.Common.{Option, None, Some}
use Rattle.og_block.specs.Message.{Message as BlockMessage}
use Rattle.og_whole.specs.Events.{World}
use Rattle.og_whole.specs.Messages.{OfBlock}
use Rattle.og_relate.specs.Data.{Post, Request, Slot, MCollect, MWait, MGather, MCleaning, Machine, Harts, Setup}
use Rattle.og_relate.specs.Places.{CommandAt, WalkAt, DropAt, content_of, Has}
use Rattle.og_relate.specs.Sim.{Sim}
use Rattle.og_relate.specs.Node.{Waits, outcome}
use Rattle.og_shown.specs.Shown.{Among}

module _ {L : Type 0} {H : Type 0} where
  -- no event leaves a request with all that it waits for, nor a block that is collected
  pub record IsPatient (s : Setup) (m : Machine L H) : Type 0 where
    pub requests : (p : ℕ) (r : Request L) → p < s.nodes → (m.cpu p).request ≡ Some r → outcome r.want r.got r.response r.acks ((m.cpu p).cache r.frame r.number) ≡ Waits
    pub replies : (page old new number acks : ℕ) (x : L × ℕ) → m.mover.job ≡ MCollect page old new number (Some x) acks → acks ≢ x.1

  -- requests and victim slots name blocks that there are
  pub record IsInRange (s : Setup) (m : Machine L H) : Type 0 where
    pub requests : (p : ℕ) (r : Request L) → p < s.nodes → (m.cpu p).request ≡ Some r → (r.frame < s.frames) × (r.number < s.blocks)
    pub slots : (p : ℕ) (v : Slot) → p < s.nodes → (m.cpu p).slot ≡ Some v → (v.frame < s.frames) × (v.number < s.blocks)

  -- a message of the block is in flight
  abbrev pub HasMessage : Setup → Machine L H → (f k : ℕ) → Type 0
  HasMessage s m f k = (x : Post L) × Among x m.flight × (c : BlockMessage L) × (content_of s.nodes x ≡ OfBlock f k c)

-- a node with an outstanding request waits for a message of its block that is in flight
abbrev pub RequestsWait : (L H : Type 0) → Type 0
RequestsWait L H =
    (s : Setup) (harts : Harts L H) (m : Machine L H) (w : World L) (p : ℕ) (request : Request L)
    → Sim s harts m w → IsPatient s m → IsInRange s m → p < s.nodes → (m.cpu p).request ≡ Some request
    → HasMessage s m request.frame request.number

-- so does one with a block in its victim slot
abbrev pub SlotsWait : (L H : Type 0) → Type 0
SlotsWait L H =
    (s : Setup) (harts : Harts L H) (m : Machine L H) (w : World L) (p : ℕ) (slot : Slot)
    → Sim s harts m w → IsPatient s m → IsInRange s m → p < s.nodes → (m.cpu p).slot ≡ Some slot
    → HasMessage s m slot.frame slot.number

-- a walk is in flight, asked or answered
abbrev pub WalksWait : (L H : Type 0) → Type 0
WalksWait L H =
    (s : Setup) (harts : Harts L H) (m : Machine L H) (w : World L) (p page : ℕ)
    → Sim s harts m w → p < s.nodes → (m.cpu p).walk ≡ Some page
    → Has s.nodes m.flight (WalkAt p)

-- the mover that collects a block waits for a message of it
abbrev pub CollectsWait : (L H : Type 0) → Type 0
CollectsWait L H =
    (s : Setup) (harts : Harts L H) (m : Machine L H) (w : World L) (page old new number acks : ℕ) (reply : Option (L × ℕ))
    → Sim s harts m w → IsPatient s m → m.mover.job ≡ MCollect page old new number reply acks
    → HasMessage s m old number

-- the mover that waits for a copy waits for a message between it and a home
abbrev pub CopiesWait : (L H : Type 0) → Type 0
CopiesWait L H =
    (s : Setup) (harts : Harts L H) (m : Machine L H) (w : World L) (page old new number : ℕ)
    → Sim s harts m w → m.mover.job ≡ MWait page old new number
    → Has s.nodes m.flight CommandAt

-- so does the mover that waits for a cleaning
abbrev pub CleaningsWait : (L H : Type 0) → Type 0
CleaningsWait L H =
    (s : Setup) (harts : Harts L H) (m : Machine L H) (w : World L) (frame : ℕ)
    → Sim s harts m w → m.mover.job ≡ MCleaning frame
    → Has s.nodes m.flight CommandAt

-- a holder that is left of a frame that is gathered is a node; the request to drop the frame is on its way to it, or the answer
-- on its way back, or the node keeps the request
abbrev pub GathersWait : (L H : Type 0) → Type 0
GathersWait L H =
    (s : Setup) (harts : Harts L H) (m : Machine L H) (w : World L) (frame q : ℕ)
    → Sim s harts m w → m.mover.job ≡ MGather frame → m.mover.holders frame q ≡ true
    → (q < s.nodes) × (Has s.nodes m.flight (DropAt q) ⊎ ((m.cpu q).drop ≢ None))
