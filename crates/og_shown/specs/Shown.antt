-- What is said of a machine that shows a world: of its caches, of the lines that are at home or on their way, and of its messages.
use Rattle.std.specs.Prelude.{◌≡◌, ◌≢◌, ℕ, ◌<◌, Bool, true, false, cond, nat_eq, ◌&&◌, ◌⊎◌, List, [], ◌∷◌}
use Rattle.std.proofs.Common.{Option, None, Some}
use Rattle.og_block.specs.State.{NoCopy, Dirty, Response, ExclusiveResponse}
use Rattle.og_block.specs.Rows.{is_dirty}
use Rattle.og_pages.specs.State.{To}
use Rattle.og_pages.specs.Invariant.{place}
use Rattle.og_relate.specs.Data.{Kind, KWriteBack, KExclusiveResponse, KSharingWriteBack, KPoisonBack, Post, Request, Machine, Setup}
use Rattle.og_relate.specs.Places.{is_at}
use Rattle.og_relate.specs.Sim.{job_of}

-- the block number k of frame f
abbrev pub is_block : (f k g j : ℕ) → Bool
is_block f k g j = nat_eq g f && nat_eq j k

module _ {L : Type 0} where
  -- the line of block k of frame f that a message brings home, or to the node that gets the only copy
  abbrev pub line_if : Bool → L → Option L
  line_if true l = Some l
  line_if false l = None

  abbrev pub carried : (f k : ℕ) → Kind L → Option L
  carried f k (KWriteBack g j l) = line_if (is_block f k g j) l
  carried f k (KExclusiveResponse g j l) = line_if (is_block f k g j) l
  carried f k (KSharingWriteBack g j l) = line_if (is_block f k g j) l
  carried f k (KPoisonBack g j l) = line_if (is_block f k g j) l
  carried f k kind = None

  -- the message is one of these
  abbrev pub Among : Post L → List (Post L) → Type 0
  Among x [] = ⊥
  Among x (y ∷ ys) = (y ≡ x) ⊎ Among x ys

  abbrev pub line_given : Response L → Option L
  line_given (ExclusiveResponse l) = Some l
  line_given r = None

  -- the only copy, which an outstanding request for the block has received
  abbrev pub received : (f k : ℕ) → Option (Request L) → Option L
  received f k None = None
  received f k (Some r) = cond (is_at f k r) (line_given r.response) None

module _ {L : Type 0} {H : Type 0} where
  -- the frame where block k of a page is: the page table's, but for a page that is being moved
  abbrev pub place_of : Machine L H → (page k : ℕ) → ℕ
  place_of m page k = place (job_of m.mover.job) (m.mover.page_table page) page k

  -- the line of block k of frame f is v, wherever the machine has it: in a dirty copy, in a message, received, or else at the home
  pub record LineIs (s : Setup) (m : Machine L H) (f k : ℕ) (v : L) : Type 0 where
    pub in_cache : (p : ℕ) (l : L) → p < s.nodes → (m.cpu p).cache f k ≡ Dirty l → l ≡ v
    pub on_its_way : (x : Post L) (l : L) → Among x m.flight → carried f k x.kind ≡ Some l → l ≡ v
    pub arrived : (p : ℕ) (l : L) → p < s.nodes → received f k (m.cpu p).request ≡ Some l → l ≡ v
    pub at_home : ((p : ℕ) → p < s.nodes → is_dirty ((m.cpu p).cache f k) ≡ false) → ((x : Post L) → Among x m.flight → carried f k x.kind ≡ None) → ((p : ℕ) → p < s.nodes → received f k (m.cpu p).request ≡ None) →
        (m.home (s.home f)).line f k ≡ v

  -- nothing of the machine names the frame
  pub record IsUnnamed (s : Setup) (m : Machine L H) (f : ℕ) : Type 0 where
    pub copy : (p k : ℕ) → p < s.nodes → k < s.blocks → (m.cpu p).cache f k ≡ NoCopy
    pub entry : (p y : ℕ) → p < s.nodes → (m.cpu p).tlb y ≢ To f
    pub request : (p : ℕ) (r : Request L) → p < s.nodes → (m.cpu p).request ≡ Some r → r.frame ≢ f
    pub holder : (p : ℕ) → m.mover.holders f p ≡ false
