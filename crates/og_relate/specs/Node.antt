-- What a node does with a message: each function is a row of the theory, or none.
use Rattle.std.specs.Prelude.{ℕ, ◌+◌, Bool, true, false, cond, nat_eq, ◌&&◌, List, [], ◌∷◌, ◌++◌}
use Rattle.std.proofs.Common.{Option, None, Some}
use Rattle.og_block.specs.State.{put, Copy, NoCopy, Shared, Clean, Dirty, Want, Reading, Writing, Upgrading, Response, SharedResponse, ExclusiveResponse, OwnerAck, Intervention, NoIntervention, InterveneShared, InterveneExclusive, IntervenePoison}
use Rattle.og_pages.specs.State.{put_pair, NoEntry}
use Rattle.og_pages.specs.Rows.{points_to}
use Rattle.og_relate.specs.Data.{KInterveneShared, KInterveneEx, KIntervenePoison, KSharedResponse, KExclusiveResponse, KOwnerAck, KSharingWriteBack, KSharingTransfer, KDirtyTransfer, KPoisonBack, KPoisonClean, KDropped, Post, Got, GotShared, GotNak, GotError, GotSpec, GotExclusive, GotUpgrade, Request, Cpu, Harts, Setup}
use Rattle.og_relate.specs.Steps.{letter}
use Rattle.og_relate.specs.Goes.{Made}

abbrev pub is_none : {A : Type 0} → Option A → Bool
is_none None = true
is_none (Some x) = false

-- what the parts of a request that came make of it
pub data Outcome (L : Type 0) : Type 0 where
  Waits : Outcome L
  -- filled, and the access reads or writes on this line
  ReadsShared : (line : L) → Outcome L
  ReadsClean : (line : L) → Outcome L
  Writes : (line : L) → Outcome L
  -- the hart asks again; a refused upgrade drops its copy; and where the page has moved away its translation is dropped
  TriesAgain : Outcome L
  Drops : Outcome L
  Forgets : Outcome L

module _ {L : Type 0} where
  abbrev pub outcome : Want → Got L → Response L → ℕ → Copy L → Outcome L
  outcome (Reading m) (GotExclusive l d) v a c = ReadsClean l
  outcome (Reading false) (GotShared l) v a c = ReadsShared l
  outcome (Reading true) (GotShared l) v a c = TriesAgain
  outcome (Reading false) (GotSpec m) (SharedResponse l) a c = ReadsShared l
  outcome (Reading false) (GotSpec m) OwnerAck a c = ReadsShared m
  outcome (Reading true) (GotSpec m) (SharedResponse l) a c = TriesAgain
  outcome (Reading true) (GotSpec m) OwnerAck a c = TriesAgain
  outcome Writing (GotExclusive l d) v a c = cond (nat_eq a d) (Writes l) Waits
  outcome Writing (GotSpec m) (ExclusiveResponse l) a c = Writes l
  outcome Writing (GotSpec m) OwnerAck a c = Writes m
  outcome Upgrading (GotUpgrade d) v a (Shared l) = cond (nat_eq a d) (Writes l) Waits
  outcome Upgrading (GotExclusive l d) v a c = cond (nat_eq a d) (Writes l) Waits
  outcome (Reading m) GotNak v a c = TriesAgain
  outcome Writing GotNak v a c = TriesAgain
  outcome Upgrading GotNak v a c = Drops
  outcome (Reading m) GotError v a c = Forgets
  outcome Writing GotError v a c = Forgets
  outcome Upgrading GotError v a c = Forgets
  outcome w g v a c = Waits

module _ {L : Type 0} {H : Type 0} where
  abbrev pub with_request : Cpu L H → Request L → Cpu L H
  with_request c r = record c { request = Some r }

  abbrev pub with_copy : Cpu L H → ℕ → ℕ → Copy L → Cpu L H
  with_copy c f k x = record c { cache = put_pair c.cache f k x }

  -- ---- parts come

  abbrev pub receive_got : Cpu L H → Request L → Got L → Cpu L H
  receive_got c r g = with_request c (record r { got = g })

  abbrev pub receive_response : Cpu L H → Request L → Response L → Cpu L H
  receive_response c r v = with_request c (record r { response = v })

  abbrev pub hold : Cpu L H → Request L → Intervention → Cpu L H
  hold c r i = with_request c (record r { held = i })

  abbrev pub hold_drop : Cpu L H → ℕ → Cpu L H
  hold_drop c f = record c { drop = Some f }

  abbrev pub count_ack : Cpu L H → Request L → Cpu L H
  count_ack c r = with_request c (record r { acks = r.acks + 1 })

  -- ---- a request ends

  abbrev pub filled : Harts L H → Cpu L H → Request L → Copy L → L → Cpu L H
  filled harts c r x l = record c { hart = harts.after c.hart l; cache = put_pair c.cache r.frame r.number x; request = None }

  -- the access that a fill makes
  abbrev pub read_made : Harts L H → Cpu L H → ℕ → L → Made L
  read_made harts c k l = record { page = harts.page c.hart; number = k; found = l; left = None }

  abbrev pub write_made : Harts L H → Cpu L H → ℕ → L → Made L
  write_made harts c k l = record { page = harts.page c.hart; number = k; found = l; left = Some (harts.line_after c.hart l) }

  abbrev pub outcome_made : Harts L H → Cpu L H → ℕ → Outcome L → List (Made L)
  outcome_made harts c k (ReadsShared l) = read_made harts c k l ∷ []
  outcome_made harts c k (ReadsClean l) = read_made harts c k l ∷ []
  outcome_made harts c k (Writes l) = write_made harts c k l ∷ []
  outcome_made harts c k o = []

  abbrev pub ended : Cpu L H → Cpu L H
  ended c = record c { request = None }

  abbrev pub dropped : Cpu L H → ℕ → ℕ → Cpu L H
  dropped c f k = record c { request = None; cache = put_pair c.cache f k NoCopy }

  -- the page of the hart's access isn't in the TLB any more
  abbrev pub forget_page : Harts L H → Cpu L H → Cpu L H
  forget_page harts c = record c { tlb = put c.tlb (harts.page c.hart) NoEntry }

  -- ---- an intervention is answered by the copy; p is the node, h the home

  abbrev pub share : ℕ → ℕ → ℕ → ℕ → ℕ → Cpu L H → Copy L → Cpu L H × List (Post L)
  share p h f k r c (Dirty l) = (with_copy c f k (Shared l), letter p r (KSharedResponse f k l) ∷ letter p h (KSharingWriteBack f k l) ∷ [])
  share p h f k r c (Clean l) = (with_copy c f k (Shared l), letter p r (KOwnerAck f k) ∷ letter p h (KSharingTransfer f k) ∷ [])
  share p h f k r c x = (c, letter p r (KOwnerAck f k) ∷ letter p h (KSharingTransfer f k) ∷ [])

  abbrev pub give : ℕ → ℕ → ℕ → ℕ → ℕ → Cpu L H → Copy L → Cpu L H × List (Post L)
  give p h f k r c (Dirty l) = (with_copy c f k NoCopy, letter p r (KExclusiveResponse f k l) ∷ letter p h (KDirtyTransfer f k) ∷ [])
  give p h f k r c x = (with_copy c f k NoCopy, letter p r (KOwnerAck f k) ∷ letter p h (KDirtyTransfer f k) ∷ [])

  abbrev pub give_up : ℕ → ℕ → ℕ → ℕ → Cpu L H → Copy L → Cpu L H × List (Post L)
  give_up p h f k c (Dirty l) = (with_copy c f k NoCopy, letter p h (KPoisonBack f k l) ∷ [])
  give_up p h f k c x = (with_copy c f k NoCopy, letter p h (KPoisonClean f k) ∷ [])

  abbrev pub answer_by : ℕ → ℕ → ℕ → ℕ → Intervention → Cpu L H → Copy L → Cpu L H × List (Post L)
  answer_by p h f k NoIntervention c x = (c, [])
  answer_by p h f k (InterveneShared r) c x = share p h f k r c x
  answer_by p h f k (InterveneExclusive r) c x = give p h f k r c x
  answer_by p h f k (IntervenePoison r) c x = give_up p h f k c x

  abbrev pub answer_held : ℕ → ℕ → ℕ → ℕ → Intervention → Cpu L H → Cpu L H × List (Post L)
  answer_held p h f k i c = answer_by p h f k i c (c.cache f k)

  -- ---- a held drop is answered where it is due

  abbrev pub is_due : Cpu L H → Bool
  is_due c = is_none c.request && is_none c.walk && is_none c.slot

  abbrev pub forget_frame : Cpu L H → ℕ → Cpu L H
  forget_frame c f = record c { drop = None; tlb = λ y. cond (points_to f (c.tlb y)) NoEntry (c.tlb y) }

  abbrev pub drop_by : ℕ → ℕ → Cpu L H → Bool → Option ℕ → Cpu L H × List (Post L)
  drop_by p n c true (Some f) = (forget_frame c f, letter p n (KDropped f) ∷ [])
  drop_by p n c t d = (c, [])

  abbrev pub answer_drop : ℕ → ℕ → Cpu L H → Cpu L H × List (Post L)
  answer_drop p n c = drop_by p n c (is_due c) c.drop

  -- one answer after another
  abbrev pub chain : Cpu L H × List (Post L) → (Cpu L H → Cpu L H × List (Post L)) → Cpu L H × List (Post L)
  chain x g = ((g x.0).0, x.1 ++ (g x.0).1)

  -- ---- after a part has come

  abbrev pub tail_by : Setup → ℕ → ℕ → ℕ → Intervention → Cpu L H → Copy L → Cpu L H × List (Post L)
  tail_by s p f k i c x = chain (answer_by p (s.home f) f k i c x) (λ d. answer_drop p s.nodes d)

  abbrev pub tail : Setup → ℕ → ℕ → ℕ → Intervention → Cpu L H → Cpu L H × List (Post L)
  tail s p f k i c = tail_by s p f k i c (c.cache f k)

  abbrev pub settle_by : Setup → Harts L H → ℕ → ℕ → ℕ → Cpu L H → Request L → Outcome L → Cpu L H × List (Post L)
  settle_by s harts p f k c r Waits = (c, [])
  settle_by s harts p f k c r (ReadsShared l) = tail s p f k r.held (filled harts c r (Shared l) l)
  settle_by s harts p f k c r (ReadsClean l) = tail s p f k r.held (filled harts c r (Clean l) l)
  settle_by s harts p f k c r (Writes l) = tail s p f k r.held (filled harts c r (Dirty (harts.line_after c.hart l)) l)
  settle_by s harts p f k c r TriesAgain = tail s p f k r.held (ended c)
  settle_by s harts p f k c r Drops = tail s p f k r.held (dropped c f k)
  settle_by s harts p f k c r Forgets = tail s p f k r.held (forget_page harts (ended c))

  abbrev pub settle_made : Harts L H → ℕ → ℕ → Cpu L H → Request L → List (Made L)
  settle_made harts f k c r = outcome_made harts c k (outcome r.want r.got r.response r.acks (c.cache f k))

  abbrev pub settle : Setup → Harts L H → ℕ → ℕ → ℕ → Cpu L H → Request L → Cpu L H × List (Post L)
  settle s harts p f k c r = settle_by s harts p f k c r (outcome r.want r.got r.response r.acks (c.cache f k))

  -- an acknowledgement
  abbrev pub ack_made : Harts L H → ℕ → ℕ → Cpu L H → Request L → List (Made L)
  ack_made harts f k c r = settle_made harts f k (count_ack c r) (record r { acks = r.acks + 1 })

  abbrev pub take_ack : Setup → Harts L H → ℕ → ℕ → ℕ → Cpu L H → Request L → Cpu L H × List (Post L)
  take_ack s harts p f k c r = settle s harts p f k (count_ack c r) (record r { acks = r.acks + 1 })

module _ {L : Type 0} where
  -- the message that is held, as it came
  abbrev pub held_post : Setup → ℕ → ℕ → ℕ → Intervention → List (Post L)
  held_post s p f k NoIntervention = []
  held_post s p f k (InterveneShared r) = letter (s.home f) p (KInterveneShared f k r) ∷ []
  held_post s p f k (InterveneExclusive r) = letter (s.home f) p (KInterveneEx f k r) ∷ []
  held_post s p f k (IntervenePoison r) = letter (s.home f) p (KIntervenePoison f k) ∷ []
