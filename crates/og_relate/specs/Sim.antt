-- The machine shows a world of the theory.
use Rattle.std.specs.Prelude.{◌≡◌, ◌≢◌, ℕ, ◌+◌, ◌<◌, Bool, true, false, cond, nat_eq, ◌&&◌, ◌⊎◌, List}
use Rattle.std.proofs.Common.{Option, None, Some}
use Rattle.og_slots.specs.Flight.{Fits}
use Rattle.og_block.specs.State.{Intervention, InterveneShared, InterveneExclusive, IntervenePoison, NoCopy, Want, Idle, Poisoning, Victim, Free, Taken, Busy, Seen, Entry, Unowned, SharedBy, Exclusive, BusyShared, BusyExclusive, BusyPoison, PoisonBy}
use Rattle.og_pages.specs.State.{Job, Idle as JobIdle, Ask as JobAsk, Collect, Hold, Wait, Publish, Tell, Gather, Clean, Cleaning, Request as PageRequest, NoRequest, Outstanding, VictimSlot, NoVictim, VictimOf, Walk, NoWalk, Walking, Walked, WalkRetry, To, Role, Free as FreeFrame, Mapped, Target, Quarantined}
use Rattle.og_whole.specs.Events.{World, Reached}
use Rattle.og_whole.specs.HomeEntry.{home_entry_at}
use Rattle.og_whole.specs.Messages.{Message}
use Rattle.og_relate.specs.Data.{Post, Request, Slot, Cpu, HomeEntry, HUnowned, HShared, HExclusive, HBusyShared, HBusyExclusive, HBusyPoison, HPoison, HomeSide, MoverJob, MIdle, MAsk, MCollect, MHold, MWait, MPublish, MTell, MGather, MClean, MCleaning, FrameRole, Unused, UsedBy, ReservedFor, Left, Mover, Machine, Harts, Setup}
use Rattle.og_relate.specs.Places.{is_at, Place, Inside, Stands, slot_of, stands_at, Has, kept, Flies}

module _ {L : Type 0} where
  abbrev pub want_at : ℕ → ℕ → Option (Request L) → Want
  want_at f k None = Idle
  want_at f k (Some r) = cond (is_at f k r) r.want Idle

  abbrev pub acks_at : ℕ → ℕ → Option (Request L) → ℕ
  acks_at f k None = 0
  acks_at f k (Some r) = cond (is_at f k r) r.acks 0

  abbrev pub request_at : ℕ → Option (Request L) → PageRequest
  request_at page None = NoRequest
  request_at page (Some r) = Outstanding page r.frame r.number

abbrev pub victim_by : Bool → Bool → Victim
victim_by true seen = Busy
victim_by false true = Seen
victim_by false false = Taken

abbrev pub victim_at : ℕ → ℕ → Option Slot → Victim
victim_at f k None = Free
victim_at f k (Some v) = cond (nat_eq v.frame f && nat_eq v.number k) (victim_by v.busy v.seen) Free

abbrev pub slot_at : Option Slot → VictimSlot
slot_at None = NoVictim
slot_at (Some v) = VictimOf v.frame v.number

abbrev pub walks_for : Walk → ℕ → Type 0
walks_for NoWalk y = ⊥
walks_for (Walking x) y = x ≡ y
walks_for (Walked x f) y = x ≡ y
walks_for (WalkRetry x) y = x ≡ y

abbrev pub WalkShows : Option ℕ → Walk → Type 0
WalkShows None w = w ≡ NoWalk
WalkShows (Some y) w = walks_for w y

-- bits of nodes alone count
abbrev pub EntryShows : ℕ → HomeEntry → Entry → Type 0
EntryShows n HUnowned e = e ≡ Unowned
EntryShows n (HShared s) (SharedBy t) = (q : ℕ) → q < n → s q ≡ t q
EntryShows n (HExclusive o) e = e ≡ Exclusive o
EntryShows n (HBusyShared o p) e = e ≡ BusyShared o p
EntryShows n (HBusyExclusive o p r) e = e ≡ BusyExclusive o p r
EntryShows n (HBusyPoison o) e = e ≡ BusyPoison o n
EntryShows n HPoison e = e ≡ PoisonBy n
EntryShows n h e = ⊥

module _ {L : Type 0} where
  abbrev pub job_of : MoverJob L → Job L
  job_of MIdle = JobIdle
  job_of (MAsk y o n k) = JobAsk y o n k
  job_of (MCollect y o n k reply acks) = Collect y o n k
  job_of (MHold y o n k l) = Hold y o n k l
  job_of (MWait y o n k) = Wait y o n k
  job_of (MPublish y o n) = Publish y o n
  job_of (MTell f) = Tell f
  job_of (MGather f) = Gather f
  job_of (MClean f) = Clean f
  job_of (MCleaning f) = Cleaning f

  abbrev pub mover_want : ℕ → ℕ → MoverJob L → Want
  mover_want f k (MCollect y o n j reply acks) = cond (nat_eq o f && nat_eq j k) Poisoning Idle
  mover_want f k job = Idle

  abbrev pub mover_acks : ℕ → ℕ → MoverJob L → ℕ
  mover_acks f k (MCollect y o n j reply acks) = cond (nat_eq o f && nat_eq j k) acks 0
  mover_acks f k job = 0

abbrev pub role_of : Role → FrameRole
role_of FreeFrame = Unused
role_of (Mapped y) = UsedBy y
role_of (Target y) = ReservedFor y
role_of (Quarantined y) = Left

module _ {L : Type 0} where
  pub record HomeShows (n : ℕ) (f k : ℕ) (h : HomeSide L) (w : World L) : Type 0 where
    pub entry : EntryShows n (h.entry f k) (home_entry_at w f k)
    pub line : (w.block f k).line ≡ h.line f k
    pub noticed : w.pages.noticed f ≡ h.noticed f

  pub record MoverShows (s : Setup) (m : Mover L) (w : World L) : Type 0 where
    pub job : w.pages.job ≡ job_of m.job
    pub want : (f k : ℕ) → (w.block f k).want s.nodes ≡ mover_want f k m.job
    pub acks : (f k : ℕ) → (w.block f k).acks s.nodes ≡ mover_acks f k m.job
    pub page_table : (y : ℕ) → y < s.pages → w.pages.page_table y ≡ m.page_table y
    pub holders : (f q : ℕ) → w.pages.holder f q ≡ m.holders f q
    pub role : (f : ℕ) → role_of (w.pages.role f) ≡ m.role f
    pub sharing : (f k : ℕ) → (w.block f k).sharing ≡ s.sharing
    -- only nodes hold frames
    pub holder_is : (f q : ℕ) → m.holders f q ≡ true → q < s.nodes

  abbrev pub Homes : Setup → (ℕ → HomeSide L) → World L → Type 0
  Homes s home w = (f k : ℕ) → f < s.frames → k < s.blocks → HomeShows s.nodes f k (home (s.home f)) w

  abbrev pub IsReached : Setup → World L → Type 0
  IsReached s w = Reached L (s.nodes + 1) s.nodes s.pages s.blocks w

-- who asks for an intervention that is held: a node, or the mover
abbrev pub HeldTidy : Setup → Intervention → Type 0
HeldTidy s (InterveneShared r) = r < s.nodes
HeldTidy s (InterveneExclusive r) = r < s.nodes
HeldTidy s (IntervenePoison r) = r ≡ s.nodes
HeldTidy s i = Unit {0}

module _ {L : Type 0} where
  abbrev pub AskerTidy : Setup → Option (Request L) → Type 0
  AskerTidy s None = Unit {0}
  AskerTidy s (Some r) = HeldTidy s r.held

  -- the frames, pages and blocks that the mover names are there, and each page's frame is
  abbrev pub JobTidy : Setup → MoverJob L → Type 0
  JobTidy s (MAsk y o n k) = (y < s.pages) × (o < s.frames) × (n < s.frames) × (k < s.blocks)
  JobTidy s (MCollect y o n k reply acks) = (y < s.pages) × (o < s.frames) × (n < s.frames) × (k < s.blocks)
  JobTidy s (MHold y o n k l) = (y < s.pages) × (o < s.frames) × (n < s.frames) × (k < s.blocks)
  JobTidy s (MWait y o n k) = (y < s.pages) × (o < s.frames) × (n < s.frames) × (k < s.blocks)
  JobTidy s (MPublish y o n) = (y < s.pages) × (o < s.frames) × (n < s.frames)
  JobTidy s (MTell f) = f < s.frames
  JobTidy s (MGather f) = f < s.frames
  JobTidy s (MClean f) = f < s.frames
  JobTidy s (MCleaning f) = f < s.frames
  JobTidy s MIdle = Unit {0}

  pub record MoverTidy (s : Setup) (m : Mover L) : Type 0 where
    pub job : JobTidy s m.job
    pub table : (y : ℕ) → y < s.pages → m.page_table y < s.frames

module _ {L : Type 0} {H : Type 0} where
  -- node q's processor side
  pub record NodeShows (harts : Harts L H) (q : ℕ) (c : Cpu L H) (w : World L) : Type 0 where
    pub copy : (f k : ℕ) → (w.block f k).copy q ≡ c.cache f k
    pub want : (f k : ℕ) → (w.block f k).want q ≡ want_at f k c.request
    pub acks : (f k : ℕ) → (w.block f k).acks q ≡ acks_at f k c.request
    pub victim : (f k : ℕ) → (w.block f k).victim q ≡ victim_at f k c.slot
    pub request : w.pages.request q ≡ request_at (harts.page c.hart) c.request
    pub slot : w.pages.victim q ≡ slot_at c.slot
    pub tlb : (y : ℕ) → w.pages.tlb q y ≡ c.tlb y
    pub walk : WalkShows c.walk (w.pages.walk q)

  abbrev pub Nodes : Setup → Harts L H → (ℕ → Cpu L H) → World L → Type 0
  Nodes s harts cpu w = (q : ℕ) → q < s.nodes → NodeShows harts q (cpu q) w

  abbrev pub Keeps : Setup → (ℕ → Cpu L H) → Mover L → World L → Type 0
  Keeps s cpu mover w = (p : Place) (c : Message L) → kept s.nodes cpu mover p ≡ Some c → Stands s w c

  abbrev pub Flight : Setup → (ℕ → Cpu L H) → Mover L → World L → List (Post L) → Type 0
  Flight s cpu mover w ms = Fits (slot_of s.nodes) (Flies s cpu mover w) ms

  -- what stands in a place of the machine is kept there, or is in flight
  abbrev pub Found : Setup → (ℕ → Cpu L H) → Mover L → World L → List (Post L) → Type 0
  Found s cpu mover w ms = (p : Place) → Inside s p → stands_at w p ≡ true → (kept s.nodes cpu mover p ≢ None) ⊎ Has s.nodes ms p

  -- what a node names is there: no column of the theory says so
  pub record Tidy (s : Setup) (c : Cpu L H) : Type 0 where
    pub cached : (f k : ℕ) → c.cache f k ≢ NoCopy → (f < s.frames) × (k < s.blocks)
    pub named : (y f : ℕ) → c.tlb y ≡ To f → f < s.frames
    pub asker : AskerTidy s c.request

  pub record Sim (s : Setup) (harts : Harts L H) (m : Machine L H) (w : World L) : Type 0 where
    pub reached : IsReached s w
    pub nodes : Nodes s harts m.cpu w
    pub tidy : (q : ℕ) → q < s.nodes → Tidy s (m.cpu q)
    pub homes : Homes s m.home w
    pub mover : MoverShows s m.mover w
    pub bounds : MoverTidy s m.mover
    pub keeps : Keeps s m.cpu m.mover w
    pub flight : Flight s m.cpu m.mover w m.flight
    pub found : Found s m.cpu m.mover w m.flight
