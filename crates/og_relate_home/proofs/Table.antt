-- The mover's copies and cleanings, whole; and all that a home takes, by its table.
use Rattle.std.proofs.Common.{◌≡◌, ℕ, zero, suc, ◌+◌, ◌<◌, Bool, true, false, cond, arith, refl, sym, subst, [], ◌∷◌, Option, None, Some}
use Rattle.og_block.specs.State.{Unowned, PoisonBy}
use Rattle.og_whole.specs.Events.{World}
use Rattle.og_whole.specs.HomeEntry.{home_entry_at}
use Rattle.og_whole.specs.Link.{Invariant}
use Rattle.og_whole.proofs.Runs.{reached}
use Rattle.og_whole.proofs.HomeEntries.{entries_met}
use Rattle.og_relate.specs.Data.{Kind, KRead, KReadEx, KUpgrade, KWriteBack, KSharingWriteBack, KSharingTransfer, KDirtyTransfer, KPoisonBack, KPoisonClean, KPoisonRead, KCopyIn, KCleanFrame, KFrameClean, KRearm, Post, Setup, IsSetup, HomeEntry, HUnowned, Machine, Harts}
use Rattle.og_relate.specs.Sim.{Sim, EntryShows}
use Rattle.og_relate.specs.Steps.{letter, cleaned}
use Rattle.og_relate_home.specs.Steps.{are_poisoned, is_poisoned, serve_copy_in, serve_clean_frame, take, is_for_home}
use Rattle.og_relate_home.specs.Laws.{meets, Serves, IsQuietAt}
use Rattle.og_relate.proofs.Notice.{read_taken}
use Rattle.og_relate.proofs.BackTaken.{back_taken}
use Rattle.og_relate.proofs.Commands.{copy_served, frame_cleaned}
use Rattle.og_relate_home.proofs.Poison.{rearmed}
use Rattle.og_relate_home.proofs.Taken.{read_exclusive_taken, upgrade_taken, sharing_write_back_taken, sharing_transfer_taken, dirty_transfer_taken, poison_back_taken, poison_clean_taken, poison_read_taken}

shown_unowned : (n : ℕ) (h : HomeEntry) → EntryShows n h Unowned → h ≡ HUnowned
shown_unowned n h x = grind arith

shown_poison : (n : ℕ) (h : HomeEntry) → EntryShows n h (PoisonBy n) → is_poisoned h ≡ true
shown_poison n h x = grind arith

all_poisoned : (n : ℕ) (entries : ℕ → HomeEntry) → ((k : ℕ) → k < n → is_poisoned (entries k) ≡ true) → are_poisoned n entries ≡ true
all_poisoned zero entries each = refl
all_poisoned (suc n) entries each = let a : are_poisoned n entries ≡ true = all_poisoned n entries (λ k lt. each k (omega arith)) in let b = each n (omega arith) in grind arith

module _ {L : Type 0} {H : Type 0} where
  pub copy_in_taken : (s : Setup) (harts : Harts L H) (m : Machine L H) (w : World L) (f k : ℕ) (l : L) → IsSetup s → Sim s harts (meets m (letter s.nodes (s.home f) (KCopyIn f k l))) w →
      Serves s harts m w (s.home f) (serve_copy_in s (s.home f) (m.home (s.home f)) f k l ((m.home (s.home f)).entry f k))
  copy_in_taken s harts m w f k l setup sim =
      let pl = sim.flight.0.0 in
      let inv : Invariant L (s.nodes + 1) s.nodes s.pages s.blocks w = reached (s.nodes + 1) s.nodes s.pages s.blocks w sim.reached in
      let un : home_entry_at w f k ≡ Unowned = (entries_met (s.nodes + 1) s.nodes s.pages s.blocks w inv).copy_finds pl.2.0 pl.2.1 f k l pl.1.3 pl.2.2 pl.0.0 in
      let he = shown_unowned s.nodes ((m.home (s.home f)).entry f k) (subst (λ u. EntryShows s.nodes ((m.home (s.home f)).entry f k) u) un (sim.homes f k pl.1.2 pl.1.3).entry) in
      subst (λ (e : HomeEntry). Serves s harts m w (s.home f) (serve_copy_in s (s.home f) (m.home (s.home f)) f k l e)) (sym he)
      (_, refl, copy_served s harts m.cpu m.home m.mover w f k l m.flight setup sim)

  pub clean_frame_taken : (s : Setup) (harts : Harts L H) (m : Machine L H) (w : World L) (f : ℕ) → Sim s harts (meets m (letter s.nodes (s.home f) (KCleanFrame f))) w →
      Serves s harts m w (s.home f) (serve_clean_frame s (s.home f) (m.home (s.home f)) f)
  clean_frame_taken s harts m w f sim = by (are_poisoned s.blocks ((m.home (s.home f)).entry f)) (all_poisoned s.blocks ((m.home (s.home f)).entry f) each)
    where
      each : (k : ℕ) → k < s.blocks → is_poisoned ((m.home (s.home f)).entry f k) ≡ true
      each k lk =
          let pl = sim.flight.0.0 in
          let inv : Invariant L (s.nodes + 1) s.nodes s.pages s.blocks w = reached (s.nodes + 1) s.nodes s.pages s.blocks w sim.reached in
          let ps : home_entry_at w f k ≡ PoisonBy s.nodes = (entries_met (s.nodes + 1) s.nodes s.pages s.blocks w inv).clean_finds f k lk pl.2 pl.0.0 in
          shown_poison s.nodes ((m.home (s.home f)).entry f k) (subst (λ u. EntryShows s.nodes ((m.home (s.home f)).entry f k) u) ps (sim.homes f k pl.1.2 lk).entry)

      by : (b : Bool) → b ≡ true → Serves s harts m w (s.home f) (cond b (Some (cleaned (m.home (s.home f)) f, letter (s.home f) s.nodes (KFrameClean f) ∷ [])) None)
      by true t = (_, refl, frame_cleaned s harts m.cpu m.home m.mover w f m.flight sim)
      by false t = absurd (cc)

  -- ---- by kind; the sender and the home are those of the message's route

  pub taken : (s : Setup) (harts : Harts L H) (m : Machine L H) (w : World L) (x : Post L) (hot : Option (ℕ × ℕ)) → IsSetup s → Sim s harts (meets m x) w → is_for_home x.kind ≡ true → IsQuietAt m x.to x.kind hot → Serves s harts m w x.to (take s x.to (m.home x.to) x.from x.kind hot)
  taken s harts m w x hot setup sim homes quiet = by x.from x.to x.kind sim homes quiet
    where
      Goal : ℕ → ℕ → Kind L → Type 0
      Goal p a c = Sim s harts (meets m (letter p a c)) w → is_for_home c ≡ true → IsQuietAt m a c hot → Serves s harts m w a (take s a (m.home a) p c hot)

      -- at the home of the block
      at : (p a b : ℕ) (c : Kind L) → a ≡ b → Goal p b c → Goal p a c
      at p a b c e g = subst (λ (u : ℕ). Goal p u c) (sym e) g

      -- from the mover
      from : (p n a b : ℕ) (c : Kind L) → p ≡ n → a ≡ b → Goal n b c → Goal p a c
      from p n a b c d e g = subst (λ (u : ℕ). Goal u a c) (sym d) (subst (λ (u : ℕ). Goal n u c) (sym e) g)

      by : (p a : ℕ) (c : Kind L) → Goal p a c
      by p a (KRead f k) sim i q = at p a (s.home f) (KRead f k) sim.flight.0.0.1.1 (λ sim i q. (_, refl, read_taken s harts m.cpu m.home m.mover w f k p hot m.flight setup sim q)) sim i q
      by p a (KReadEx f k) sim i q = at p a (s.home f) (KReadEx f k) sim.flight.0.0.1.1 (λ sim i q. (_, refl, read_exclusive_taken s harts m w f k p hot setup sim q)) sim i q
      by p a (KUpgrade f k) sim i q = at p a (s.home f) (KUpgrade f k) sim.flight.0.0.1.1 (λ sim i q. upgrade_taken s harts m w f k p hot sim q) sim i q
      by p a (KWriteBack f k l) sim i q = at p a (s.home f) (KWriteBack f k l) sim.flight.0.0.1.1 (λ sim i q. back_taken s harts m.cpu m.home m.mover w f k p l m.flight setup sim) sim i q
      by p a (KSharingWriteBack f k l) sim i q = at p a (s.home f) (KSharingWriteBack f k l) sim.flight.0.0.1.1 (λ sim i q. sharing_write_back_taken s harts m w f k p l sim) sim i q
      by p a (KSharingTransfer f k) sim i q = at p a (s.home f) (KSharingTransfer f k) sim.flight.0.0.1.1 (λ sim i q. sharing_transfer_taken s harts m w f k p sim) sim i q
      by p a (KDirtyTransfer f k) sim i q = at p a (s.home f) (KDirtyTransfer f k) sim.flight.0.0.1.1 (λ sim i q. dirty_transfer_taken s harts m w f k p sim) sim i q
      by p a (KPoisonBack f k l) sim i q = at p a (s.home f) (KPoisonBack f k l) sim.flight.0.0.1.1 (λ sim i q. poison_back_taken s harts m w f k p l sim) sim i q
      by p a (KPoisonClean f k) sim i q = at p a (s.home f) (KPoisonClean f k) sim.flight.0.0.1.1 (λ sim i q. poison_clean_taken s harts m w f k p sim) sim i q
      by p a (KPoisonRead f k) sim i q = from p s.nodes a (s.home f) (KPoisonRead f k) sim.flight.0.0.1.0 sim.flight.0.0.1.1 (λ sim i q. poison_read_taken s harts m w f k sim) sim i q
      by p a (KCopyIn f k l) sim i q = from p s.nodes a (s.home f) (KCopyIn f k l) sim.flight.0.0.1.0 sim.flight.0.0.1.1 (λ sim i q. copy_in_taken s harts m w f k l setup sim) sim i q
      by p a (KCleanFrame f) sim i q = from p s.nodes a (s.home f) (KCleanFrame f) sim.flight.0.0.1.0 sim.flight.0.0.1.1 (λ sim i q. clean_frame_taken s harts m w f sim) sim i q
      by p a (KRearm f) sim i q = from p s.nodes a (s.home f) (KRearm f) sim.flight.0.0.1.0 sim.flight.0.0.1.1 (λ sim i q. (_, refl, rearmed s harts m.cpu m.home m.mover w f m.flight sim)) sim i q
      by p a c sim i q = absurd (cc)
