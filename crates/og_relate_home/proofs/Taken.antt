-- Each message that a home takes, whole: there is a row, and with the notice where it is due it keeps the simulation.
use Rattle.std.proofs.Common.{◌≡◌, ℕ, ◌+◌, ◌<◌, Bool, true, false, cond, nat_eq, arith, ◌≢◌, refl, sym, subst, List, [], ◌∷◌, ◌++◌, Option, None, Some}
use Rattle.std.proofs.lemmas.Bool.Decides.{nat_tests}
use Rattle.og_slots.specs.Count.{count}
use Rattle.og_block.specs.State.{put, others, NoAsk, PoisonRead, ReadExclusive, Upgrade, Entry, Exclusive, BusyShared, BusyExclusive, BusyPoison, PoisonBy, Revision, SharingWriteBack, SharingTransfer, DirtyTransfer, PoisonBack, PoisonClean}
use Rattle.og_block.specs.Invariant.{Revised}
use Rattle.og_whole.specs.Events.{World}
use Rattle.og_whole.specs.HomeEntry.{home_entry, is_blank_in}
use Rattle.og_whole.specs.Link.{Invariant}
use Rattle.og_whole.proofs.Runs.{reached}
use Rattle.og_whole.proofs.Served.{met_poison_read}
use Rattle.og_whole.proofs.Worlds.{blocks_ready}
use Rattle.og_relate.specs.Data.{KReadEx, KUpgrade, KSharingWriteBack, KSharingTransfer, KDirtyTransfer, KPoisonBack, KPoisonClean, KPoisonRead, KExclusiveReply, KSpecReply, KInterveneEx, KNak, Post, Setup, IsSetup, HomeSide, HomeEntry, HUnowned, HShared, HExclusive, HBusyShared, HBusyExclusive, HBusyPoison, HPoison, Machine, Harts}
use Rattle.og_relate.specs.Sim.{Sim, EntryShows}
use Rattle.og_relate.specs.Goes.{Goes}
use Rattle.og_relate.specs.Steps.{Answer, letter, invalidations, with_entry, notice, and_then, counted, serve_read_exclusive, take_read_exclusive}
use Rattle.og_relate_home.specs.Steps.{grant, serve_upgrade, serve_sharing_write_back, serve_sharing_transfer, serve_dirty_transfer, serve_poison_back, serve_poison_clean, serve_poison_read, counted_upgrade, take_upgrade}
use Rattle.og_relate_home.specs.Laws.{meets, answered, Serves, IsQuiet}
use Rattle.og_relate.proofs.Parts.{self_number}
use Rattle.og_relate.proofs.Take.{append_both}
use Rattle.og_relate.proofs.Notice.{is_live, after, notice_goes}
use Rattle.og_relate.proofs.Requests.{read_exclusive_unowned, read_exclusive_by_owner, read_exclusive_owned, read_exclusive_poison, read_exclusive_busy}
use Rattle.og_relate.proofs.Home.{entry_here, entry_is, read_exclusive_shared}
use Rattle.og_relate_home.proofs.Rows.{asker}
use Rattle.og_relate_home.proofs.Upgrades.{upgrade_granted, upgrade_refused, upgrade_poison}
use Rattle.og_relate_home.proofs.Revisions.{sharing_write_back, sharing_transfer, dirty_transfer, returned, poison_back, poison_clean}
use Rattle.og_relate_home.proofs.Poison.{poison_unowned, poison_shared, poison_owned, poison_busy}

-- ---- which entry a message of the owner meets

shown_busy_shared : (n o p : ℕ) (b : Bool) (h : HomeEntry) → EntryShows n h (home_entry b (BusyShared o p)) → h ≡ HBusyShared o p
shown_busy_shared n o p b h x = grind arith

shown_busy_exclusive : (n o p : ℕ) (r b : Bool) (h : HomeEntry) → EntryShows n h (home_entry b (BusyExclusive o p r)) → h ≡ HBusyExclusive o p r
shown_busy_exclusive n o p r b h x = grind arith

shown_busy_poison : (n o p : ℕ) (b : Bool) (h : HomeEntry) → EntryShows n h (home_entry b (BusyPoison o p)) → h ≡ HBusyPoison o
shown_busy_poison n o p b h x = grind arith

meets_transfer : (K : Type 0) → (q : ℕ) (e : Entry) → Revised {L = K} e (SharingTransfer q) → (r : ℕ) × (e ≡ BusyShared q r)
meets_transfer K q (BusyShared o p) x = (p, (let same : q ≡ o = x in cc))
meets_transfer K q e x = absurd (grind arith)

meets_dirty_transfer : (K : Type 0) → (q : ℕ) (e : Entry) → Revised {L = K} e (DirtyTransfer q) → (r : ℕ) × (b : Bool) × (e ≡ BusyExclusive q r b)
meets_dirty_transfer K q (BusyExclusive o p false) x = (p, false, (let same : q ≡ o = x in cc))
meets_dirty_transfer K q (BusyExclusive o p true) x = (p, true, (let same : q ≡ o = x in cc))
meets_dirty_transfer K q e x = absurd (grind arith)

meets_poison_clean : (K : Type 0) → (q : ℕ) (e : Entry) → Revised {L = K} e (PoisonClean q) → (r : ℕ) × (e ≡ BusyPoison q r)
meets_poison_clean K q (BusyPoison o p) x = (p, (let same : q ≡ o = x in cc))
meets_poison_clean K q e x = absurd (grind arith)

module _ {L : Type 0} where
  meets_write_back : (q : ℕ) (l : L) (e : Entry) → Revised e (SharingWriteBack q l) → (r : ℕ) × (e ≡ BusyShared q r)
  meets_write_back q l (BusyShared o p) x = (p, (let same : q ≡ o = x in cc))
  meets_write_back q l e x = absurd (grind arith)

  meets_poison_back : (q : ℕ) (l : L) (e : Entry) → Revised e (PoisonBack q l) → (r : ℕ) × (e ≡ BusyPoison q r)
  meets_poison_back q l (BusyPoison o p) x = (p, (let same : q ≡ o = x in cc))
  meets_poison_back q l e x = absurd (grind arith)

  live_here : (h : HomeSide L) (f k : ℕ) (e : HomeEntry) → is_live e ≡ true → is_live ((with_entry h f k e).entry f k) ≡ true
  live_here h f k e l = let a = entry_here h f k e in cc

-- no poisoning meets a block that is poisoned at its home, or is being so
abbrev pub may_poison : HomeEntry → Bool
may_poison (HBusyPoison o) = false
may_poison HPoison = false
may_poison h = true

poison_meets : (n : ℕ) (b : Bool) (h : HomeEntry) (e : Entry) → EntryShows n h (home_entry b e) → ((o p : ℕ) → e ≢ BusyPoison o p) → ((p : ℕ) → e ≢ PoisonBy p) → may_poison h ≡ true
poison_meets n b (HBusyPoison o) e x nb np = by b e x nb
  where
    by : (b : Bool) (e : Entry) → home_entry b e ≡ BusyPoison o n → ((o p : ℕ) → e ≢ BusyPoison o p) → false ≡ true
    by b (BusyPoison p q) x nb = absurd (nb p q refl)
    by b e x nb = grind arith
poison_meets n b HPoison e x nb np = by b e x np
  where
    by : (b : Bool) (e : Entry) → home_entry b e ≡ PoisonBy n → ((p : ℕ) → e ≢ PoisonBy p) → false ≡ true
    by b (PoisonBy p) x np = absurd (np p refl)
    by b e x np = grind arith
poison_meets n b h e x nb np = refl

module _ {L : Type 0} {H : Type 0} where
  -- ---- requests

  -- the notice, after an answer that counts
  with_notice : (s : Setup) (harts : Harts L H) (m : Machine L H) (w : World L) (f k p : ℕ) (message : Post L) (hot : Option (ℕ × ℕ)) → Sim s harts (meets m message) w → f < s.frames → k < s.blocks → p < s.nodes → (w.block f k).ask p ≢ NoAsk →
      (x : Answer L) → Goes s harts (answered m (s.home f) x) w → is_live (x.0.entry f k) ≡ true → (hot ≢ None → x.0.noticed f ≡ false) →
      Goes s harts (answered m (s.home f) (and_then x (λ d. notice s (s.home f) d f p hot))) w
  with_notice s harts m w f k p message hot sim lf lk lp a x g live quiet =
      let r = asker s harts (meets m message) w f k p sim lp lk a in
      subst (λ (y : List (Post L)). Goes s harts (record { cpu = m.cpu; home = put m.home (s.home f) (notice s (s.home f) x.0 f p hot).0; mover = m.mover; flight = y }) w) (append_both m.flight x.1 (notice s (s.home f) x.0 f p hot).1)
      (after s harts (answered m (s.home f) x) _ w g (λ z sz. notice_goes s harts m.cpu m.home m.mover z f k p r.0 x.0 hot (m.flight ++ x.1) sz lf lk lp r.1 r.2 live quiet))

  pub read_exclusive_taken : (s : Setup) (harts : Harts L H) (m : Machine L H) (w : World L) (f k p : ℕ) (hot : Option (ℕ × ℕ)) → IsSetup s → Sim s harts (meets m (letter p (s.home f) (KReadEx f k))) w → IsQuiet m (s.home f) f hot →
      Goes s harts (answered m (s.home f) (take_read_exclusive s (s.home f) (m.home (s.home f)) f k p hot)) w
  read_exclusive_taken s harts m w f k p hot setup sim quiet = by (h.entry f k) refl
    where
      h : HomeSide L
      h = m.home (s.home f)

      Goal : Answer L → Type 0
      Goal x = Goes s harts (answered m (s.home f) x) w

      noticed : (x : Answer L) → Goal x → is_live (x.0.entry f k) ≡ true → (hot ≢ None → x.0.noticed f ≡ false) → Goal (and_then x (λ d. notice s (s.home f) d f p hot))
      noticed x g live q =
          let pl = sim.flight.0.0 in
          let ask : (w.block f k).ask p ≡ ReadExclusive = pl.0.2.1 in
          with_notice s harts m w f k p (letter p (s.home f) (KReadEx f k)) hot sim pl.0.0 pl.0.1 pl.1.0 (λ e. absurd (cc)) x g live q

      by : (e : HomeEntry) → h.entry f k ≡ e → Goal (counted s (s.home f) f p e hot (serve_read_exclusive s (s.home f) h f k p e))
      by HUnowned e = noticed (serve_read_exclusive s (s.home f) h f k p HUnowned) (read_exclusive_unowned s harts m.cpu m.home m.mover w f k p m.flight setup sim e) (live_here h f k (HExclusive p) refl) quiet
      by (HShared t) e = noticed (serve_read_exclusive s (s.home f) h f k p (HShared t)) (read_exclusive_shared s harts m.cpu m.home m.mover w f k p t m.flight sim e) (live_here h f k (HExclusive p) refl) quiet
      by (HExclusive q) e = at_ (nat_eq q p) refl
        where
          at_ : (t : Bool) → nat_eq q p ≡ t → Goal (and_then (cond t (h, letter (s.home f) p (KExclusiveReply f k (h.line f k) 0) ∷ []) (with_entry h f k (HBusyExclusive q p false), letter (s.home f) q (KInterveneEx f k p) ∷ letter (s.home f) p (KSpecReply f k (h.line f k)) ∷ [])) (λ d. notice s (s.home f) d f p hot))
          at_ true t = noticed (h, letter (s.home f) p (KExclusiveReply f k (h.line f k) 0) ∷ []) (let same : q ≡ p = grind (arith, nat_tests) in read_exclusive_by_owner s harts m.cpu m.home m.mover w f k p m.flight setup sim (cc)) (let a = e in grind arith) quiet
          at_ false t = noticed (with_entry h f k (HBusyExclusive q p false), letter (s.home f) q (KInterveneEx f k p) ∷ letter (s.home f) p (KSpecReply f k (h.line f k)) ∷ []) (read_exclusive_owned s harts m.cpu m.home m.mover w f k p q m.flight setup sim e t) (live_here h f k (HBusyExclusive q p false) refl) quiet
      by (HBusyShared a b) e = read_exclusive_busy s harts m.cpu m.home m.mover w f k p (HBusyShared a b) m.flight setup sim e refl
      by (HBusyExclusive a b c) e = read_exclusive_busy s harts m.cpu m.home m.mover w f k p (HBusyExclusive a b c) m.flight setup sim e refl
      by (HBusyPoison a) e = read_exclusive_busy s harts m.cpu m.home m.mover w f k p (HBusyPoison a) m.flight setup sim e refl
      by HPoison e = read_exclusive_poison s harts m.cpu m.home m.mover w f k p m.flight setup sim e

  pub upgrade_taken : (s : Setup) (harts : Harts L H) (m : Machine L H) (w : World L) (f k p : ℕ) (hot : Option (ℕ × ℕ)) → Sim s harts (meets m (letter p (s.home f) (KUpgrade f k))) w → IsQuiet m (s.home f) f hot →
      Serves s harts m w (s.home f) (take_upgrade s (s.home f) (m.home (s.home f)) f k p hot)
  upgrade_taken s harts m w f k p hot sim quiet = by (h.entry f k) refl
    where
      h : HomeSide L
      h = m.home (s.home f)

      Goal : HomeEntry → Type 0
      Goal e = Serves s harts m w (s.home f) (counted_upgrade s (s.home f) f p e hot (serve_upgrade s (s.home f) h f k p e))

      refused : Answer L
      refused = (h, letter (s.home f) p (KNak f k) ∷ [])

      by : (e : HomeEntry) → h.entry f k ≡ e → Goal e
      by (HShared t) e = at_ (t p) refl
        where
          yields : Answer L
          yields = (with_entry h f k (HExclusive p), invalidations (s.home f) f k p t s.nodes ++ letter (s.home f) p (grant s.sharing f k (h.line f k) (count s.nodes (others t p))) ∷ [])

          at_ : (b : Bool) → t p ≡ b → Serves s harts m w (s.home f) (Some (cond b (and_then (cond b yields refused) (λ d. notice s (s.home f) d f p hot)) (cond b yields refused)))
          at_ true tp =
              let pl = sim.flight.0.0 in
              let ask : (w.block f k).ask p ≡ Upgrade = pl.0.2.1 in
              (_, refl, with_notice s harts m w f k p (letter p (s.home f) (KUpgrade f k)) hot sim pl.0.0 pl.0.1 pl.1.0 (λ e. absurd (cc)) yields (upgrade_granted s harts m.cpu m.home m.mover w f k p t m.flight sim e tp) (live_here h f k (HExclusive p) refl) quiet)
          at_ false tp = (_, refl, upgrade_refused s harts m.cpu m.home m.mover w f k p (HShared t) m.flight sim e (grind arith))
      by (HExclusive q) e = at_ (nat_eq q p) refl
        where
          at_ : (b : Bool) → nat_eq q p ≡ b → Serves s harts m w (s.home f) (counted_upgrade s (s.home f) f p (HExclusive q) hot (cond b None (Some refused)))
          at_ true same =
              let pl = sim.flight.0.0 in
              let qp : q ≡ p = grind (arith, nat_tests) in
              let lp : p < s.nodes = pl.1.0 in
              let lp1 : p < s.nodes + 1 = omega arith in
              let ask : (w.block f k).ask p ≡ Upgrade = pl.0.2.1 in
              let never = (blocks_ready (s.nodes + 1) s.nodes s.pages s.blocks w sim.reached f k p pl.0.1 lp1).0.upgrade (grind arith) in
              let shown : EntryShows s.nodes (HExclusive q) (home_entry (is_blank_in w.pages f) (w.block f k).entry) = subst (λ (u : HomeEntry). EntryShows s.nodes u (home_entry (is_blank_in w.pages f) (w.block f k).entry)) e (sim.homes f k pl.0.0 pl.0.1).entry in
              let be : (w.block f k).entry ≡ Exclusive q = entry_is (is_blank_in w.pages f) (w.block f k).entry (Exclusive q) shown (λ x. absurd (cc)) in
              absurd (never (cc))
          at_ false ne = (_, refl, upgrade_refused s harts m.cpu m.home m.mover w f k p (HExclusive q) m.flight sim e (grind arith))
      by HPoison e = (_, refl, upgrade_poison s harts m.cpu m.home m.mover w f k p m.flight sim e)
      by HUnowned e = (_, refl, upgrade_refused s harts m.cpu m.home m.mover w f k p HUnowned m.flight sim e refl)
      by (HBusyShared a b) e = (_, refl, upgrade_refused s harts m.cpu m.home m.mover w f k p (HBusyShared a b) m.flight sim e refl)
      by (HBusyExclusive a b c) e = (_, refl, upgrade_refused s harts m.cpu m.home m.mover w f k p (HBusyExclusive a b c) m.flight sim e refl)
      by (HBusyPoison a) e = (_, refl, upgrade_refused s harts m.cpu m.home m.mover w f k p (HBusyPoison a) m.flight sim e refl)

  -- ---- what owners say

  -- the home's entry, and that it is of the kind of the owner's message
  revised : (s : Setup) (harts : Harts L H) (m : Machine L H) (w : World L) (f k : ℕ) (v : Revision L) → Sim s harts m w → f < s.frames → k < s.blocks → (w.block f k).revision ≡ v → Revised (w.block f k).entry v
  revised s harts m w f k v sim lf lk said =
      let inv : Invariant L (s.nodes + 1) s.nodes s.pages s.blocks w = reached (s.nodes + 1) s.nodes s.pages s.blocks w sim.reached in
      subst (λ (u : Revision L). Revised (w.block f k).entry u) said (inv.link f k lk).invariant.home.revised

  shows : (s : Setup) (harts : Harts L H) (m : Machine L H) (w : World L) (f k : ℕ) (e : Entry) → Sim s harts m w → f < s.frames → k < s.blocks → (w.block f k).entry ≡ e → EntryShows s.nodes ((m.home (s.home f)).entry f k) (home_entry (is_blank_in w.pages f) e)
  shows s harts m w f k e sim lf lk be = subst (λ (u : Entry). EntryShows s.nodes ((m.home (s.home f)).entry f k) (home_entry (is_blank_in w.pages f) u)) be (sim.homes f k lf lk).entry

  pub sharing_write_back_taken : (s : Setup) (harts : Harts L H) (m : Machine L H) (w : World L) (f k q : ℕ) (l : L) → Sim s harts (meets m (letter q (s.home f) (KSharingWriteBack f k l))) w →
      Serves s harts m w (s.home f) (serve_sharing_write_back s (m.home (s.home f)) f k q l ((m.home (s.home f)).entry f k))
  sharing_write_back_taken s harts m w f k q l sim =
      let pl = sim.flight.0.0 in
      let found = meets_write_back q l (w.block f k).entry (revised s harts (meets m (letter q (s.home f) (KSharingWriteBack f k l))) w f k (SharingWriteBack q l) sim pl.0.0 pl.0.1 pl.0.2.0) in
      let he = shown_busy_shared s.nodes q found.0 (is_blank_in w.pages f) ((m.home (s.home f)).entry f k) (shows s harts (meets m (letter q (s.home f) (KSharingWriteBack f k l))) w f k (BusyShared q found.0) sim pl.0.0 pl.0.1 found.1) in
      let qq = self_number q in
      subst (λ (e : HomeEntry). Serves s harts m w (s.home f) (serve_sharing_write_back s (m.home (s.home f)) f k q l e)) (sym he)
      (_, (grind arith), sharing_write_back s harts m.cpu m.home m.mover w f k q found.0 l m.flight sim he)

  pub sharing_transfer_taken : (s : Setup) (harts : Harts L H) (m : Machine L H) (w : World L) (f k q : ℕ) → Sim s harts (meets m (letter q (s.home f) (KSharingTransfer f k))) w →
      Serves s harts m w (s.home f) (serve_sharing_transfer s (m.home (s.home f)) f k q ((m.home (s.home f)).entry f k))
  sharing_transfer_taken s harts m w f k q sim =
      let pl = sim.flight.0.0 in
      let found = meets_transfer L q (w.block f k).entry (revised s harts (meets m (letter q (s.home f) (KSharingTransfer f k))) w f k (SharingTransfer q) sim pl.0.0 pl.0.1 pl.0.2.0) in
      let he = shown_busy_shared s.nodes q found.0 (is_blank_in w.pages f) ((m.home (s.home f)).entry f k) (shows s harts (meets m (letter q (s.home f) (KSharingTransfer f k))) w f k (BusyShared q found.0) sim pl.0.0 pl.0.1 found.1) in
      let qq = self_number q in
      subst (λ (e : HomeEntry). Serves s harts m w (s.home f) (serve_sharing_transfer s (m.home (s.home f)) f k q e)) (sym he)
      (_, (grind arith), sharing_transfer s harts m.cpu m.home m.mover w f k q found.0 m.flight sim he)

  pub dirty_transfer_taken : (s : Setup) (harts : Harts L H) (m : Machine L H) (w : World L) (f k q : ℕ) → Sim s harts (meets m (letter q (s.home f) (KDirtyTransfer f k))) w →
      Serves s harts m w (s.home f) (serve_dirty_transfer (m.home (s.home f)) f k q ((m.home (s.home f)).entry f k))
  dirty_transfer_taken s harts m w f k q sim =
      let pl = sim.flight.0.0 in
      let found = meets_dirty_transfer L q (w.block f k).entry (revised s harts (meets m (letter q (s.home f) (KDirtyTransfer f k))) w f k (DirtyTransfer q) sim pl.0.0 pl.0.1 pl.0.2.0) in
      let he = shown_busy_exclusive s.nodes q found.0 found.1 (is_blank_in w.pages f) ((m.home (s.home f)).entry f k) (shows s harts (meets m (letter q (s.home f) (KDirtyTransfer f k))) w f k (BusyExclusive q found.0 found.1) sim pl.0.0 pl.0.1 found.2) in
      subst (λ (e : HomeEntry). Serves s harts m w (s.home f) (serve_dirty_transfer (m.home (s.home f)) f k q e)) (sym he) (by found.0 found.1 he)
    where
      by : (r : ℕ) (b : Bool) → (m.home (s.home f)).entry f k ≡ HBusyExclusive q r b → Serves s harts m w (s.home f) (serve_dirty_transfer (m.home (s.home f)) f k q (HBusyExclusive q r b))
      by r false he = let qq = self_number q in (_, (grind arith), dirty_transfer s harts m.cpu m.home m.mover w f k q r m.flight sim he)
      by r true he = let qq = self_number q in (_, (grind arith), returned s harts m.cpu m.home m.mover w f k q r m.flight sim he)

  pub poison_back_taken : (s : Setup) (harts : Harts L H) (m : Machine L H) (w : World L) (f k q : ℕ) (l : L) → Sim s harts (meets m (letter q (s.home f) (KPoisonBack f k l))) w →
      Serves s harts m w (s.home f) (serve_poison_back s (s.home f) (m.home (s.home f)) f k q l ((m.home (s.home f)).entry f k))
  poison_back_taken s harts m w f k q l sim =
      let pl = sim.flight.0.0 in
      let found = meets_poison_back q l (w.block f k).entry (revised s harts (meets m (letter q (s.home f) (KPoisonBack f k l))) w f k (PoisonBack q l) sim pl.0.0 pl.0.1 pl.0.2.0) in
      let he = shown_busy_poison s.nodes q found.0 (is_blank_in w.pages f) ((m.home (s.home f)).entry f k) (shows s harts (meets m (letter q (s.home f) (KPoisonBack f k l))) w f k (BusyPoison q found.0) sim pl.0.0 pl.0.1 found.1) in
      let qq = self_number q in
      subst (λ (e : HomeEntry). Serves s harts m w (s.home f) (serve_poison_back s (s.home f) (m.home (s.home f)) f k q l e)) (sym he)
      (_, (grind arith), poison_back s harts m.cpu m.home m.mover w f k q l m.flight sim he)

  pub poison_clean_taken : (s : Setup) (harts : Harts L H) (m : Machine L H) (w : World L) (f k q : ℕ) → Sim s harts (meets m (letter q (s.home f) (KPoisonClean f k))) w →
      Serves s harts m w (s.home f) (serve_poison_clean s (s.home f) (m.home (s.home f)) f k q ((m.home (s.home f)).entry f k))
  poison_clean_taken s harts m w f k q sim =
      let pl = sim.flight.0.0 in
      let found = meets_poison_clean L q (w.block f k).entry (revised s harts (meets m (letter q (s.home f) (KPoisonClean f k))) w f k (PoisonClean q) sim pl.0.0 pl.0.1 pl.0.2.0) in
      let he = shown_busy_poison s.nodes q found.0 (is_blank_in w.pages f) ((m.home (s.home f)).entry f k) (shows s harts (meets m (letter q (s.home f) (KPoisonClean f k))) w f k (BusyPoison q found.0) sim pl.0.0 pl.0.1 found.1) in
      let qq = self_number q in
      subst (λ (e : HomeEntry). Serves s harts m w (s.home f) (serve_poison_clean s (s.home f) (m.home (s.home f)) f k q e)) (sym he)
      (_, (grind arith), poison_clean s harts m.cpu m.home m.mover w f k q m.flight sim he)

  -- ---- the mover

  pub poison_read_taken : (s : Setup) (harts : Harts L H) (m : Machine L H) (w : World L) (f k : ℕ) → Sim s harts (meets m (letter s.nodes (s.home f) (KPoisonRead f k))) w →
      Serves s harts m w (s.home f) (serve_poison_read s (s.home f) (m.home (s.home f)) f k ((m.home (s.home f)).entry f k))
  poison_read_taken s harts m w f k sim = by (h.entry f k) refl has
    where
      h : HomeSide L
      h = m.home (s.home f)

      has : may_poison (h.entry f k) ≡ true
      has =
          let pl = sim.flight.0.0 in
          let ln : s.nodes < s.nodes + 1 = omega arith in
          let ask : (w.block f k).ask s.nodes ≡ PoisonRead = pl.0.2.1 in
          let inv : Invariant L (s.nodes + 1) s.nodes s.pages s.blocks w = reached (s.nodes + 1) s.nodes s.pages s.blocks w sim.reached in
          let link = inv.link f k pl.0.1 in
          let met = met_poison_read (s.nodes + 1) (w.pages.newest f k) s.nodes s.nodes (w.block f k) (link.invariant.each s.nodes ln) (link.parts.plain s.nodes ln) link.parts.ends link.parts.reply ask in
          poison_meets s.nodes (is_blank_in w.pages f) (h.entry f k) (w.block f k).entry (sim.homes f k pl.0.0 pl.0.1).entry met.0 met.1

      by : (e : HomeEntry) → h.entry f k ≡ e → may_poison e ≡ true → Serves s harts m w (s.home f) (serve_poison_read s (s.home f) h f k e)
      by HUnowned e t = (_, refl, poison_unowned s harts m.cpu m.home m.mover w f k m.flight sim e)
      by (HShared u) e t = (_, refl, poison_shared s harts m.cpu m.home m.mover w f k u m.flight sim e)
      by (HExclusive q) e t = (_, refl, poison_owned s harts m.cpu m.home m.mover w f k q m.flight sim e)
      by (HBusyShared o r) e t = (_, refl, poison_busy s harts m.cpu m.home m.mover w f k (HBusyShared o r) m.flight sim e refl)
      by (HBusyExclusive o r b) e t = (_, refl, poison_busy s harts m.cpu m.home m.mover w f k (HBusyExclusive o r b) m.flight sim e refl)
      by (HBusyPoison o) e t = absurd (cc)
      by HPoison e t = absurd (cc)
