-- The machine at its start shows the theory's start.
use Rattle.std.proofs.Common.{◌≡◌, ℕ, ◌<◌, Bool, true, false, cond, nat_eq, arith, refl, [], Option, None}
use Rattle.og_block.specs.State.{Unowned, NoCopy, Idle, NoAsk, NoResponse, NoBack, NoRevision, NoIntervention, NoInvalidation, Free as FreeVictim}
use Rattle.og_block.specs.Roles.{OwnBit}
use Rattle.og_pages.specs.State.{Role, Free, Mapped, Target, Quarantined}
use Rattle.og_pages.specs.Run.{Laid, start_line}
use Rattle.og_whole.specs.Events.{World, start, start_block}
use Rattle.og_whole.specs.HomeEntry.{home_entry_at}
use Rattle.og_whole.specs.Messages.{Message}
use Rattle.og_relate.specs.Data.{FrameRole, Setup, Harts}
use Rattle.og_relate.specs.Places.{Place, AskAt, ResponseAt, BackAt, RevisionAt, InterventionAt, InvalidationAt, DropAt, stands_at, kept}
use Rattle.og_relate.specs.Sim.{Sim, role_of}
use Rattle.og_relate.specs.Begin.{cpu_start, mover_start, machine_start}

module _ {L : Type 0} {H : Type 0} where
  nothing_kept : (n : ℕ) (hart : ℕ → H) (page_table : ℕ → ℕ) (uses : ℕ → FrameRole) (p : Place) → kept {L = L} n (λ q. cpu_start (hart q)) (mover_start page_table uses) p ≡ None
  nothing_kept n hart page_table uses (AskAt f k q) = by (nat_eq q n)
    where
      by : (t : Bool) → cond {A = Option (Message L)} t None None ≡ None
      by true = refl
      by false = refl
  nothing_kept n hart page_table uses (ResponseAt f k q) = by (nat_eq q n)
    where
      by : (t : Bool) → cond {A = Option (Message L)} t None None ≡ None
      by true = refl
      by false = refl
  nothing_kept n hart page_table uses (InterventionAt f k q) = by (nat_eq q n)
    where
      by : (t : Bool) → cond {A = Option (Message L)} t None None ≡ None
      by true = refl
      by false = refl
  nothing_kept n hart page_table uses (DropAt q) = by (nat_eq q n)
    where
      by : (t : Bool) → cond {A = Option (Message L)} t None None ≡ None
      by true = refl
      by false = refl
  nothing_kept n hart page_table uses p = refl

  pub begins : (s : Setup) (harts : Harts L H) (hart : ℕ → H) (blank : L) (page_table : ℕ → ℕ) (role : ℕ → Role) (memory : ℕ → ℕ → L) (lines : ℕ → ℕ → ℕ → L) (uses : ℕ → FrameRole) →
      OwnBit s.sharing s.nodes → Laid s.pages page_table role → ((f : ℕ) → role_of (role f) ≡ uses f) → ((y : ℕ) → y < s.pages → page_table y < s.frames) → ((f k : ℕ) → lines (s.home f) f k ≡ start_line blank memory (role f) k) →
      Sim s harts (machine_start hart lines page_table uses) (start s.sharing s.nodes blank page_table role memory)
  begins s harts hart blank page_table role memory lines uses bit laid roles inside ln = record {
    reached = record { inside = omega arith; sharing = s.sharing; apart = bit; blank = blank; page_table = page_table; role = role; memory = memory; events = []; laid = laid; run = refl };
    nodes = λ q lq. record { copy = λ f k. (by_copy (role f) f k q); want = λ f k. by_want (role f) k q; acks = λ f k. by_acks (role f) k q; victim = λ f k. by_victim (role f) k q; request = refl; slot = refl; tlb = λ y. refl; walk = refl };
    tidy = λ q lq. record { cached = λ f k ne. absurd (ne refl); named = λ y f e. absurd (cc); asker = tt };
    homes = λ f k lf lk. record { entry = by_entry (role f) f k refl; line = (let a = ln f k in let b = by_line (role f) k in cc); noticed = refl };
    mover = record { job = refl; want = λ f k. by_want (role f) k s.nodes; acks = λ f k. by_acks (role f) k s.nodes; page_table = λ y lt. refl; holders = λ f q. refl; role = roles; sharing = λ f k. by_sharing (role f) k; holder_is = λ f q e. absurd (cc) };
    bounds = record { job = tt; table = inside };
    keeps = λ p c k. absurd (let n = nothing_kept s.nodes hart page_table uses p in cc);
    flight = tt;
    found = λ p i st. absurd (nothing_stands p st);
  }
    where
      z : World L
      z = start s.sharing s.nodes blank page_table role memory

      no_ask : (u : Role) → (k q : ℕ) → (start_block s.sharing s.nodes blank memory u k).ask q ≡ NoAsk
      no_ask (Mapped y) k q = refl
      no_ask u k q = grind arith

      no_response : (u : Role) → (k q : ℕ) → (start_block s.sharing s.nodes blank memory u k).response q ≡ NoResponse
      no_response (Mapped y) k q = refl
      no_response u k q = grind arith

      no_back : (u : Role) → (k q : ℕ) → (start_block s.sharing s.nodes blank memory u k).back q ≡ NoBack
      no_back (Mapped y) k q = refl
      no_back u k q = grind arith

      no_revision : (u : Role) → (k : ℕ) → (start_block s.sharing s.nodes blank memory u k).revision ≡ NoRevision
      no_revision (Mapped y) k = refl
      no_revision u k = grind arith

      no_intervention : (u : Role) → (k q : ℕ) → (start_block s.sharing s.nodes blank memory u k).intervention q ≡ NoIntervention
      no_intervention (Mapped y) k q = refl
      no_intervention u k q = grind arith

      no_invalidation : (u : Role) → (k q : ℕ) → (start_block s.sharing s.nodes blank memory u k).invalidation q ≡ NoInvalidation
      no_invalidation (Mapped y) k q = refl
      no_invalidation u k q = grind arith

      nothing_stands : (p : Place) → stands_at z p ≡ true → ⊥
      nothing_stands (AskAt f k q) st = absurd (let a = no_ask (role f) k q in cc)
      nothing_stands (ResponseAt f k q) st = absurd (let a = no_response (role f) k q in cc)
      nothing_stands (BackAt f k q) st = absurd (let a = no_back (role f) k q in cc)
      nothing_stands (RevisionAt f k) st = absurd (let a = no_revision (role f) k in cc)
      nothing_stands (InterventionAt f k q) st = absurd (let a = no_intervention (role f) k q in cc)
      nothing_stands (InvalidationAt f k q) st = absurd (let a = no_invalidation (role f) k q in cc)
      nothing_stands p st = absurd (cc)

      by_copy : (u : Role) → (f k q : ℕ) → (start_block s.sharing s.nodes blank memory u k).copy q ≡ NoCopy
      by_copy (Mapped y) f k q = refl
      by_copy u f k q = grind arith

      by_want : (u : Role) → (k q : ℕ) → (start_block s.sharing s.nodes blank memory u k).want q ≡ Idle
      by_want (Mapped y) k q = refl
      by_want u k q = grind arith

      by_acks : (u : Role) → (k q : ℕ) → (start_block s.sharing s.nodes blank memory u k).acks q ≡ 0
      by_acks (Mapped y) k q = refl
      by_acks u k q = grind arith

      by_victim : (u : Role) → (k q : ℕ) → (start_block s.sharing s.nodes blank memory u k).victim q ≡ FreeVictim
      by_victim (Mapped y) k q = refl
      by_victim u k q = grind arith

      by_sharing : (u : Role) → (k : ℕ) → (start_block s.sharing s.nodes blank memory u k).sharing ≡ s.sharing
      by_sharing (Mapped y) k = refl
      by_sharing u k = grind arith

      by_line : (u : Role) → (k : ℕ) → (start_block s.sharing s.nodes blank memory u k).line ≡ start_line blank memory u k
      by_line (Mapped y) k = refl
      by_line u k = grind arith

      by_entry : (u : Role) → (f k : ℕ) → role f ≡ u → home_entry_at (start s.sharing s.nodes blank page_table role memory) f k ≡ Unowned
      by_entry (Mapped y) f k e = grind arith
      by_entry Free f k e = grind arith
      by_entry (Target y) f k e = absurd (let a = laid.frames f in grind arith)
      by_entry (Quarantined y) f k e = absurd (let a = laid.frames f in grind arith)
