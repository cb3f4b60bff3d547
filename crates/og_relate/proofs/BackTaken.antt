-- A write-back at its home, whole: one of the rows is there, and it keeps the simulation.
use Rattle.std.proofs.Common.{◌≡◌, ℕ, ◌+◌, ◌<◌, Bool, true, false, nat_eq, arith, ◌≢◌, ◌⊎◌, inl, inr, refl, List, ◌∷◌, ◌++◌, Some}
use Rattle.std.proofs.lemmas.Bool.{cases_Bool}
use Rattle.std.proofs.lemmas.Bool.Decides.{nat_tests}
use Rattle.og_block.specs.State.{put, WriteBack, Entry, Unowned, PoisonBy, Revision}
use Rattle.og_block.specs.Views.{is_holder}
use Rattle.og_block.specs.Invariant.{Inside}
use Rattle.og_whole.specs.Events.{World}
use Rattle.og_whole.specs.HomeEntry.{home_entry, is_blank_in}
use Rattle.og_whole.specs.Link.{Invariant}
use Rattle.og_whole.proofs.Runs.{reached}
use Rattle.og_whole.proofs.Served.{met_write_back}
use Rattle.og_whole.proofs.Worlds.{blocks_ready}
use Rattle.og_relate.specs.Data.{KWriteBack, Post, Setup, IsSetup, Cpu, Mover, HomeSide, HomeEntry, HUnowned, HShared, HExclusive, HBusyShared, HBusyExclusive, HBusyPoison, HPoison, Harts}
use Rattle.og_relate.specs.Sim.{Sim, EntryShows}
use Rattle.og_relate.specs.Goes.{Goes}
use Rattle.og_relate.specs.Steps.{letter, serve_back}
use Rattle.og_relate.proofs.Backs.{back_owner, back_busy_shared, back_busy_exclusive, back_requester, back_busy_poison}

-- the entries at which a holder's write-back has a row
abbrev pub HasBack : ℕ → HomeEntry → Type 0
HasBack p (HExclusive q) = nat_eq q p ≡ true
HasBack p (HBusyShared q r) = nat_eq q p ≡ true
HasBack p (HBusyExclusive q r false) = (nat_eq q p ≡ true) ⊎ ((nat_eq q p ≡ false) × (nat_eq r p ≡ true))
HasBack p (HBusyPoison q) = nat_eq q p ≡ true
HasBack p e = ⊥

module _ {L : Type 0} where
  has_back : (n m p : ℕ) (h : HomeEntry) (b : Bool) (e : Entry) (v : Revision L) → EntryShows m h (home_entry b e) → is_holder e v p ≡ true → ((q : ℕ) → e ≢ PoisonBy q) → Inside n e → HasBack p h
  has_back n m p (HExclusive q) b e v x hd np i = grind (arith, nat_tests)
  has_back n m p (HBusyShared q r) b e v x hd np i = grind (arith, nat_tests)
  has_back n m p (HBusyExclusive q r false) b e v x hd np i = elim (cases_Bool (nat_eq q p)) [ inl t ↦ inl t | inr t ↦ inr (t, grind (arith, nat_tests)) ]
  has_back n m p (HBusyExclusive q r true) b e v x hd np i = absurd (grind (arith, nat_tests))
  has_back n m p (HBusyPoison q) b e v x hd np i = grind (arith, nat_tests)
  has_back n m p HUnowned b e v x hd np i = by b e x hd np
    where
      by : (b : Bool) (e : Entry) → home_entry b e ≡ Unowned → is_holder e v p ≡ true → ((q : ℕ) → e ≢ PoisonBy q) → ⊥
      by b (PoisonBy q) x hd np = np q refl
      by b e x hd np = grind arith
  has_back n m p HPoison b e v x hd np i = by b e x np
    where
      by : (b : Bool) (e : Entry) → home_entry b e ≡ PoisonBy m → ((q : ℕ) → e ≢ PoisonBy q) → ⊥
      by b (PoisonBy q) x np = np q refl
      by b e x np = grind arith
  has_back n m p (HShared t) b e v x hd np i = by b e x hd np
    where
      by : (b : Bool) (e : Entry) → EntryShows m (HShared t) (home_entry b e) → is_holder e v p ≡ true → ((q : ℕ) → e ≢ PoisonBy q) → ⊥
      by b (PoisonBy q) x hd np = np q refl
      by b e x hd np = grind arith

module _ {L : Type 0} {H : Type 0} where
  pub back_taken : (s : Setup) (harts : Harts L H) (cpu : ℕ → Cpu L H) (home : ℕ → HomeSide L) (mover : Mover L) (w : World L) (f k p : ℕ) (l : L) (ms : List (Post L)) → IsSetup s →
      Sim s harts (record { cpu = cpu; home = home; mover = mover; flight = letter p (s.home f) (KWriteBack f k l) ∷ ms }) w →
      (x : HomeSide L × List (Post L)) × (serve_back s (s.home f) (home (s.home f)) f k p l ((home (s.home f)).entry f k) ≡ Some x) × Goes s harts (record { cpu = cpu; home = put home (s.home f) x.0; mover = mover; flight = ms ++ x.1 }) w
  back_taken s harts cpu home mover w f k p l ms setup sim = by ((home (s.home f)).entry f k) refl has
    where
      h : HomeSide L
      h = home (s.home f)

      has : HasBack p (h.entry f k)
      has =
          let pl = sim.flight.0.0 in
          let lp : p < s.nodes = pl.1.0 in
          let lp1 : p < s.nodes + 1 = omega arith in
          let back : (w.block f k).back p ≡ WriteBack l = pl.0.2.1 in
          let inv : Invariant L (s.nodes + 1) s.nodes s.pages s.blocks w = reached (s.nodes + 1) s.nodes s.pages s.blocks w sim.reached in
          let lk = inv.link f k pl.0.1 in
          let hd = (blocks_ready (s.nodes + 1) s.nodes s.pages s.blocks w sim.reached f k p pl.0.1 lp1).0.write_back (grind arith) in
          has_back (s.nodes + 1) s.nodes p (h.entry f k) (is_blank_in w.pages f) (w.block f k).entry (w.block f k).revision (sim.homes f k pl.0.0 pl.0.1).entry hd (met_write_back (s.nodes + 1) (w.pages.newest f k) s.nodes p l (w.block f k) lk.invariant.home (lk.invariant.each p lp1) lk.parts.mover lk.parts.ends back) lk.invariant.home.inside

      Goal : HomeEntry → Type 0
      Goal e = (x : HomeSide L × List (Post L)) × (serve_back s (s.home f) h f k p l e ≡ Some x) × Goes s harts (record { cpu = cpu; home = put home (s.home f) x.0; mover = mover; flight = ms ++ x.1 }) w

      by : (e : HomeEntry) → h.entry f k ≡ e → HasBack p e → Goal e
      by (HExclusive q) e t = let same : q ≡ p = grind (arith, nat_tests) in (_, (let a = t in grind arith), back_owner s harts cpu home mover w f k p l ms setup sim (cc))
      by (HBusyShared q r) e t = let same : q ≡ p = grind (arith, nat_tests) in (_, (let a = t in grind arith), back_busy_shared s harts cpu home mover w f k p r l ms setup sim (cc))
      by (HBusyExclusive q r false) e (inl t) = let same : q ≡ p = grind (arith, nat_tests) in (_, (let a = t in grind arith), back_busy_exclusive s harts cpu home mover w f k p r l ms setup sim (cc))
      by (HBusyExclusive q r false) e (inr t) = let same : r ≡ p = grind (arith, nat_tests) in (_, (let a = t.0 in let b = t.1 in grind arith), back_requester s harts cpu home mover w f k p q l ms setup sim (cc) t.0)
      by (HBusyPoison q) e t = let same : q ≡ p = grind (arith, nat_tests) in (_, (let a = t in grind arith), back_busy_poison s harts cpu home mover w f k p l ms setup sim (cc))
      by HUnowned e t = absurd t
      by (HShared u) e t = absurd t
      by (HBusyExclusive q r true) e t = absurd t
      by HPoison e t = absurd t
