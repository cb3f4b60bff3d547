-- A home's rows at a read, and at an exclusive read (but for a shared block).
use Rattle.std.proofs.Common.{◌≡◌, ℕ, ◌+◌, ◌<◌, Bool, true, false, nat_eq, arith, ◌≢◌, ◌⊎◌, inl, inr, refl, sym, subst, List, [], ◌∷◌, ◌++◌}
use Rattle.std.proofs.lemmas.Bool.Decides.{nat_tests}
use Rattle.og_block.specs.State.{put, Read, ReadExclusive, Entry, Unowned, SharedBy, Exclusive, BusyShared, BusyExclusive, PoisonBy}
use Rattle.og_block.specs.Rows.{Row as BlockRow, apply as block_apply, is_busy, with_sharer, Read_unowned, Read_shared, Read_by_owner, Read_owned, Read_busy, Read_poison, Read_exclusive_unowned, Read_exclusive_by_owner, Read_exclusive_owned, Read_exclusive_busy, Read_exclusive_poison}
use Rattle.og_pages.specs.State.{State as Pages}
use Rattle.og_whole.specs.Kind.{kind, Inner}
use Rattle.og_whole.specs.Events.{World, Event, On, guard, apply}
use Rattle.og_whole.specs.HomeEntry.{home_entry_at, is_blank_in}
use Rattle.og_whole.specs.Link.{Invariant}
use Rattle.og_whole.proofs.Runs.{reached}
use Rattle.og_whole.proofs.Served.{request_of, ask_busy}
use Rattle.og_whole.proofs.HomeEntries.{entries_met}
use Rattle.og_relate.specs.Data.{KRead, KReadEx, KExclusiveReply, KSharedReply, KSpecReply, KNak, KPoisonError, KInterveneShared, KInterveneEx, Post, Setup, IsSetup, Cpu, Mover, HomeSide, HomeEntry, HUnowned, HShared, HExclusive, HBusyShared, HBusyExclusive, HPoison, Harts}
use Rattle.og_relate.specs.Places.{Place, AskAt, InterventionAt, slot_of, Placed}
use Rattle.og_relate.specs.Sides.{owns, touches, is_home}
use Rattle.og_relate.specs.Sim.{Sim, HomeShows, EntryShows}
use Rattle.og_relate.specs.Goes.{Goes}
use Rattle.og_relate.specs.Owes.{changes, Letters}
use Rattle.og_relate.specs.Steps.{is_busy_home, letter, with_entry}
use Rattle.og_relate.proofs.Frames.{home_own}
use Rattle.og_relate.proofs.Rows.{home_row, home_shows}
use Rattle.og_relate.proofs.Parts.{self_number}
use Rattle.og_relate.proofs.Home.{here_self, block_here, entry_is, home_entry_row, one}

-- a shown entry is the world's
busy_shows : (n : ℕ) (h : HomeEntry) (e : Entry) → is_busy_home h ≡ true → EntryShows n h e → is_busy e ≡ true
busy_shows n h e b x = grind arith

module _ {L : Type 0} where
  owned_read_unowned : (p f k : ℕ) (e : Event L) → e ≡ On 0 0 f k (Read_unowned p) → (x : Place) → owns e x ≡ true → x ≡ AskAt f k p
  owned_read_unowned p f k e is x o = grind (arith, nat_tests)

  changed_read_unowned : (p f k : ℕ) (s : Pages L) (e : Event L) → e ≡ On 0 0 f k (Read_unowned p) → (x : Place) → changes s e x ≡ true → x ≡ AskAt f k p
  changed_read_unowned p f k s e is x o = grind (arith, nat_tests)

  owned_read_shared : (p f k : ℕ) (u : ℕ → Bool) (e : Event L) → e ≡ On 0 0 f k (Read_shared p u) → (x : Place) → owns e x ≡ true → x ≡ AskAt f k p
  owned_read_shared p f k u e is x o = grind (arith, nat_tests)

  changed_read_shared : (p f k : ℕ) (u : ℕ → Bool) (s : Pages L) (e : Event L) → e ≡ On 0 0 f k (Read_shared p u) → (x : Place) → changes s e x ≡ true → x ≡ AskAt f k p
  changed_read_shared p f k u s e is x o = grind (arith, nat_tests)

  owned_read_by_owner : (p f k : ℕ) (e : Event L) → e ≡ On 0 0 f k (Read_by_owner p) → (x : Place) → owns e x ≡ true → x ≡ AskAt f k p
  owned_read_by_owner p f k e is x o = grind (arith, nat_tests)

  changed_read_by_owner : (p f k : ℕ) (s : Pages L) (e : Event L) → e ≡ On 0 0 f k (Read_by_owner p) → (x : Place) → changes s e x ≡ true → x ≡ AskAt f k p
  changed_read_by_owner p f k s e is x o = grind (arith, nat_tests)

  owned_read_owned : (p f k : ℕ) (q : ℕ) (e : Event L) → e ≡ On 0 0 f k (Read_owned p q) → (x : Place) → owns e x ≡ true → x ≡ AskAt f k p
  owned_read_owned p f k q e is x o = grind (arith, nat_tests)

  changed_read_owned : (p f k : ℕ) (q : ℕ) (s : Pages L) (e : Event L) → e ≡ On 0 0 f k (Read_owned p q) → (x : Place) → changes s e x ≡ true → (x ≡ InterventionAt f k q) ⊎ (x ≡ AskAt f k p)
  changed_read_owned p f k q s e is x o = grind (arith, nat_tests)

  owned_read_poison : (p f k : ℕ) (m : ℕ) (e : Event L) → e ≡ On 0 0 f k (Read_poison p m) → (x : Place) → owns e x ≡ true → x ≡ AskAt f k p
  owned_read_poison p f k m e is x o = grind (arith, nat_tests)

  changed_read_poison : (p f k : ℕ) (m : ℕ) (s : Pages L) (e : Event L) → e ≡ On 0 0 f k (Read_poison p m) → (x : Place) → changes s e x ≡ true → x ≡ AskAt f k p
  changed_read_poison p f k m s e is x o = grind (arith, nat_tests)

  owned_read_busy : (p f k : ℕ) (e : Event L) → e ≡ On 0 0 f k (Read_busy p) → (x : Place) → owns e x ≡ true → x ≡ AskAt f k p
  owned_read_busy p f k e is x o = grind (arith, nat_tests)

  changed_read_busy : (p f k : ℕ) (s : Pages L) (e : Event L) → e ≡ On 0 0 f k (Read_busy p) → (x : Place) → changes s e x ≡ true → x ≡ AskAt f k p
  changed_read_busy p f k s e is x o = grind (arith, nat_tests)

  owned_read_exclusive_unowned : (p f k : ℕ) (e : Event L) → e ≡ On 0 0 f k (Read_exclusive_unowned p) → (x : Place) → owns e x ≡ true → x ≡ AskAt f k p
  owned_read_exclusive_unowned p f k e is x o = grind (arith, nat_tests)

  changed_read_exclusive_unowned : (p f k : ℕ) (s : Pages L) (e : Event L) → e ≡ On 0 0 f k (Read_exclusive_unowned p) → (x : Place) → changes s e x ≡ true → x ≡ AskAt f k p
  changed_read_exclusive_unowned p f k s e is x o = grind (arith, nat_tests)

  owned_read_exclusive_by_owner : (p f k : ℕ) (e : Event L) → e ≡ On 0 0 f k (Read_exclusive_by_owner p) → (x : Place) → owns e x ≡ true → x ≡ AskAt f k p
  owned_read_exclusive_by_owner p f k e is x o = grind (arith, nat_tests)

  changed_read_exclusive_by_owner : (p f k : ℕ) (s : Pages L) (e : Event L) → e ≡ On 0 0 f k (Read_exclusive_by_owner p) → (x : Place) → changes s e x ≡ true → x ≡ AskAt f k p
  changed_read_exclusive_by_owner p f k s e is x o = grind (arith, nat_tests)

  owned_read_exclusive_owned : (p f k : ℕ) (q : ℕ) (e : Event L) → e ≡ On 0 0 f k (Read_exclusive_owned p q) → (x : Place) → owns e x ≡ true → x ≡ AskAt f k p
  owned_read_exclusive_owned p f k q e is x o = grind (arith, nat_tests)

  changed_read_exclusive_owned : (p f k : ℕ) (q : ℕ) (s : Pages L) (e : Event L) → e ≡ On 0 0 f k (Read_exclusive_owned p q) → (x : Place) → changes s e x ≡ true → (x ≡ InterventionAt f k q) ⊎ (x ≡ AskAt f k p)
  changed_read_exclusive_owned p f k q s e is x o = grind (arith, nat_tests)

  owned_read_exclusive_poison : (p f k : ℕ) (m : ℕ) (e : Event L) → e ≡ On 0 0 f k (Read_exclusive_poison p m) → (x : Place) → owns e x ≡ true → x ≡ AskAt f k p
  owned_read_exclusive_poison p f k m e is x o = grind (arith, nat_tests)

  changed_read_exclusive_poison : (p f k : ℕ) (m : ℕ) (s : Pages L) (e : Event L) → e ≡ On 0 0 f k (Read_exclusive_poison p m) → (x : Place) → changes s e x ≡ true → x ≡ AskAt f k p
  changed_read_exclusive_poison p f k m s e is x o = grind (arith, nat_tests)

  owned_read_exclusive_busy : (p f k : ℕ) (e : Event L) → e ≡ On 0 0 f k (Read_exclusive_busy p) → (x : Place) → owns e x ≡ true → x ≡ AskAt f k p
  owned_read_exclusive_busy p f k e is x o = grind (arith, nat_tests)

  changed_read_exclusive_busy : (p f k : ℕ) (s : Pages L) (e : Event L) → e ≡ On 0 0 f k (Read_exclusive_busy p) → (x : Place) → changes s e x ≡ true → x ≡ AskAt f k p
  changed_read_exclusive_busy p f k s e is x o = grind (arith, nat_tests)

module _ {L : Type 0} {H : Type 0} where
  -- a row that leaves entry and line
  pub home_still_row : (s : Setup) (harts : Harts L H) (cpu : ℕ → Cpu L H) (home : ℕ → HomeSide L) (mover : Mover L) (w : World L) (page other f k : ℕ) (r : BlockRow L) (x : Post L) (ms ls : List (Post L)) →
      Sim s harts (record { cpu = cpu; home = home; mover = mover; flight = x ∷ ms }) w → guard (s.nodes + 1) s.nodes s.pages s.blocks (On page other f k r) w → f < s.frames →
      is_home r ≡ true → kind r ≡ Inner → ((p : Place) → owns (On page other f k r) p ≡ true → p ≡ slot_of s.nodes x) → owns (On page other f k r) (slot_of s.nodes x) ≡ true →
      (block_apply (s.nodes + 1) r (w.block f k)).entry ≡ (w.block f k).entry → (block_apply (s.nodes + 1) r (w.block f k)).line ≡ (w.block f k).line →
      Letters s w (On page other f k r) ls →
      Sim s harts (record { cpu = cpu; home = put home (s.home f) (home (s.home f)); mover = mover; flight = ms ++ ls }) (apply (s.nodes + 1) s.nodes (On page other f k r) w)
  home_still_row s harts cpu home mover w page other f k r x ms ls sim gd lf ih ki owned at_x entry line fls =
      let z : World L = apply (s.nodes + 1) s.nodes (On page other f k r) w in
      let zb = block_here (s.nodes + 1) s.nodes page other f k r w in
      let bl = home_own (s.nodes + 1) s.nodes page other f k r w gd.3 in
      let own : HomeShows s.nodes f k (home (s.home f)) z = home_shows s.nodes f k (home (s.home f)) w z (record { entry = cc; line = cc; noticed = (let pg : z.pages ≡ w.pages = cc in cc) }) (sim.homes f k lf gd.2) in
      home_row s harts cpu home mover w page other f k r x (home (s.home f)) ms ls sim gd ih ki owned at_x own (λ g j ne. (refl, refl)) (λ g. refl) fls

  pub read_unowned : (s : Setup) (harts : Harts L H) (cpu : ℕ → Cpu L H) (home : ℕ → HomeSide L) (mover : Mover L) (w : World L) (f k p : ℕ) (ms : List (Post L)) → IsSetup s →
      Sim s harts (record { cpu = cpu; home = home; mover = mover; flight = letter p (s.home f) (KRead f k) ∷ ms }) w → (home (s.home f)).entry f k ≡ HUnowned →
      Goes s harts (record { cpu = cpu; home = put home (s.home f) (with_entry (home (s.home f)) f k (HExclusive p)); mover = mover; flight = ms ++ (letter (s.home f) p (KExclusiveReply f k ((home (s.home f)).line f k) 0) ∷ []) }) w
  read_unowned s harts cpu home mover w f k p ms setup sim he =
      let pl = sim.flight.0.0 in
      let lf : f < s.frames = pl.0.0 in
      let lk : k < s.blocks = pl.0.1 in
      let ask : (w.block f k).ask p ≡ Read = pl.0.2.1 in
      let lp : p < s.nodes = pl.1.0 in
      let lp1 : p < s.nodes + 1 = omega arith in
      let sh = sim.homes f k lf lk in
      let line = sh.line in
      let shown = subst (λ (u : HomeEntry). EntryShows s.nodes u (home_entry_at w f k)) he sh.entry in
      let inv : Invariant L (s.nodes + 1) s.nodes s.pages s.blocks w = reached (s.nodes + 1) s.nodes s.pages s.blocks w sim.reached in
      let pp = self_number p in
      let hs = here_self f k in
      let rq = request_of (s.nodes + 1) s.nodes s.pages s.blocks w p f k inv lp1 (λ e. absurd (omega arith)) lk (ask_busy (s.nodes + 1) (w.pages.newest f k) p (w.block f k) ((inv.link f k lk).invariant.each p lp1) (λ e. absurd (cc))) in
      let nb : is_blank_in w.pages f ≡ false = (entries_met (s.nodes + 1) s.nodes s.pages s.blocks w inv).request_meets p rq.0 f k rq.1 in
      let be : (w.block f k).entry ≡ Unowned = grind arith in
      let r : BlockRow L = Read_unowned p in
      let gd : guard (s.nodes + 1) s.nodes s.pages s.blocks (On 0 0 f k r) w = ((ask, be), lp1, lk, tt) in
      let z : World L = apply (s.nodes + 1) s.nodes (On 0 0 f k r) w in
      let zb = block_here (s.nodes + 1) s.nodes 0 0 f k r w in
      let reply : Placed s z (letter (s.home f) p (KExclusiveReply f k ((home (s.home f)).line f k) 0)) × (touches w.pages (On 0 0 f k r) (AskAt f k p) ≡ true) = (((lf, lk, (lp1, grind arith, refl)), (refl, lp), tt), grind arith) in
      one s harts _ w (On 0 0 f k r) refl gd (home_entry_row s harts cpu home mover w 0 0 f k r (letter p (s.home f) (KRead f k)) (HExclusive p) ms (letter (s.home f) p (KExclusiveReply f k ((home (s.home f)).line f k) 0) ∷ []) sim gd lf refl refl (owned_read_unowned p f k (On 0 0 f k r) refl) (grind arith) (Exclusive p) refl (λ q x. absurd (cc)) refl refl ((reply, tt, tt), λ x i c st. inl (sym (changed_read_unowned p f k w.pages (On 0 0 f k r) refl x c))))

  pub read_shared : (s : Setup) (harts : Harts L H) (cpu : ℕ → Cpu L H) (home : ℕ → HomeSide L) (mover : Mover L) (w : World L) (f k p : ℕ) (t : ℕ → Bool) (ms : List (Post L)) → IsSetup s →
      Sim s harts (record { cpu = cpu; home = home; mover = mover; flight = letter p (s.home f) (KRead f k) ∷ ms }) w → (home (s.home f)).entry f k ≡ HShared t →
      Goes s harts (record { cpu = cpu; home = put home (s.home f) (with_entry (home (s.home f)) f k (HShared (with_sharer s.sharing p t))); mover = mover; flight = ms ++ (letter (s.home f) p (KSharedReply f k ((home (s.home f)).line f k)) ∷ []) }) w
  read_shared s harts cpu home mover w f k p t ms setup sim he =
      by (home_entry_at w f k) refl (subst (λ (u : HomeEntry). EntryShows s.nodes u (home_entry_at w f k)) he (sim.homes f k sim.flight.0.0.0.0 sim.flight.0.0.0.1).entry)
    where
      by : (e : Entry) → home_entry_at w f k ≡ e → EntryShows s.nodes (HShared t) e → Goes s harts (record { cpu = cpu; home = put home (s.home f) (with_entry (home (s.home f)) f k (HShared (with_sharer s.sharing p t))); mover = mover; flight = ms ++ (letter (s.home f) p (KSharedReply f k ((home (s.home f)).line f k)) ∷ []) }) w
      by (SharedBy u) eq same =
          let pl = sim.flight.0.0 in
          let lf : f < s.frames = pl.0.0 in
          let lk : k < s.blocks = pl.0.1 in
          let ask : (w.block f k).ask p ≡ Read = pl.0.2.1 in
          let lp : p < s.nodes = pl.1.0 in
          let lp1 : p < s.nodes + 1 = omega arith in
          let sh = sim.homes f k lf lk in
          let line = sh.line in
          let shown = subst (λ (u : HomeEntry). EntryShows s.nodes u (home_entry_at w f k)) he sh.entry in
          let inv : Invariant L (s.nodes + 1) s.nodes s.pages s.blocks w = reached (s.nodes + 1) s.nodes s.pages s.blocks w sim.reached in
          let pp = self_number p in
          let hs = here_self f k in
          let be : (w.block f k).entry ≡ SharedBy u = entry_is (is_blank_in w.pages f) (w.block f k).entry (SharedBy u) eq (λ x. absurd (cc)) in
          let ks : (w.block f k).sharing ≡ s.sharing = sim.mover.sharing f k in
          let shows_ : EntryShows s.nodes (HShared (with_sharer s.sharing p t)) (SharedBy (with_sharer (w.block f k).sharing p u)) = λ q lt. (let a = same q lt in cc) in
          let r : BlockRow L = Read_shared p u in
          let gd : guard (s.nodes + 1) s.nodes s.pages s.blocks (On 0 0 f k r) w = ((ask, be), lp1, lk, tt) in
          let z : World L = apply (s.nodes + 1) s.nodes (On 0 0 f k r) w in
          let zb = block_here (s.nodes + 1) s.nodes 0 0 f k r w in
          let reply : Placed s z (letter (s.home f) p (KSharedReply f k ((home (s.home f)).line f k))) × (touches w.pages (On 0 0 f k r) (AskAt f k p) ≡ true) = (((lf, lk, (lp1, grind arith, refl)), (refl, lp), tt), grind arith) in
          one s harts _ w (On 0 0 f k r) refl gd (home_entry_row s harts cpu home mover w 0 0 f k r (letter p (s.home f) (KRead f k)) (HShared (with_sharer s.sharing p t)) ms (letter (s.home f) p (KSharedReply f k ((home (s.home f)).line f k)) ∷ []) sim gd lf refl refl (owned_read_shared p f k u (On 0 0 f k r) refl) (grind arith) (SharedBy (with_sharer (w.block f k).sharing p u)) refl (λ q x. absurd (cc)) shows_ refl ((reply, tt, tt), λ x i c st. inl (sym (changed_read_shared p f k u w.pages (On 0 0 f k r) refl x c))))
      by e eq x = absurd x

  pub read_by_owner : (s : Setup) (harts : Harts L H) (cpu : ℕ → Cpu L H) (home : ℕ → HomeSide L) (mover : Mover L) (w : World L) (f k p : ℕ) (ms : List (Post L)) → IsSetup s →
      Sim s harts (record { cpu = cpu; home = home; mover = mover; flight = letter p (s.home f) (KRead f k) ∷ ms }) w → (home (s.home f)).entry f k ≡ HExclusive p →
      Goes s harts (record { cpu = cpu; home = put home (s.home f) (home (s.home f)); mover = mover; flight = ms ++ (letter (s.home f) p (KExclusiveReply f k ((home (s.home f)).line f k) 0) ∷ []) }) w
  read_by_owner s harts cpu home mover w f k p ms setup sim he =
      let pl = sim.flight.0.0 in
      let lf : f < s.frames = pl.0.0 in
      let lk : k < s.blocks = pl.0.1 in
      let ask : (w.block f k).ask p ≡ Read = pl.0.2.1 in
      let lp : p < s.nodes = pl.1.0 in
      let lp1 : p < s.nodes + 1 = omega arith in
      let sh = sim.homes f k lf lk in
      let line = sh.line in
      let shown = subst (λ (u : HomeEntry). EntryShows s.nodes u (home_entry_at w f k)) he sh.entry in
      let inv : Invariant L (s.nodes + 1) s.nodes s.pages s.blocks w = reached (s.nodes + 1) s.nodes s.pages s.blocks w sim.reached in
      let pp = self_number p in
      let hs = here_self f k in
      let be : (w.block f k).entry ≡ Exclusive p = entry_is (is_blank_in w.pages f) (w.block f k).entry (Exclusive p) shown (λ x. absurd (cc)) in
      let r : BlockRow L = Read_by_owner p in
      let gd : guard (s.nodes + 1) s.nodes s.pages s.blocks (On 0 0 f k r) w = ((ask, be), lp1, lk, tt) in
      let z : World L = apply (s.nodes + 1) s.nodes (On 0 0 f k r) w in
      let zb = block_here (s.nodes + 1) s.nodes 0 0 f k r w in
      let reply : Placed s z (letter (s.home f) p (KExclusiveReply f k ((home (s.home f)).line f k) 0)) × (touches w.pages (On 0 0 f k r) (AskAt f k p) ≡ true) = (((lf, lk, (lp1, grind arith, refl)), (refl, lp), tt), grind arith) in
      one s harts _ w (On 0 0 f k r) refl gd (home_still_row s harts cpu home mover w 0 0 f k r (letter p (s.home f) (KRead f k)) ms (letter (s.home f) p (KExclusiveReply f k ((home (s.home f)).line f k) 0) ∷ []) sim gd lf refl refl (owned_read_by_owner p f k (On 0 0 f k r) refl) (grind arith) refl refl ((reply, tt, tt), λ x i c st. inl (sym (changed_read_by_owner p f k w.pages (On 0 0 f k r) refl x c))))

  pub read_owned : (s : Setup) (harts : Harts L H) (cpu : ℕ → Cpu L H) (home : ℕ → HomeSide L) (mover : Mover L) (w : World L) (f k p : ℕ) (q : ℕ) (ms : List (Post L)) → IsSetup s →
      Sim s harts (record { cpu = cpu; home = home; mover = mover; flight = letter p (s.home f) (KRead f k) ∷ ms }) w → (home (s.home f)).entry f k ≡ HExclusive q → nat_eq q p ≡ false →
      Goes s harts (record { cpu = cpu; home = put home (s.home f) (with_entry (home (s.home f)) f k (HBusyShared q p)); mover = mover; flight = ms ++ (letter (s.home f) q (KInterveneShared f k p) ∷ letter (s.home f) p (KSpecReply f k ((home (s.home f)).line f k)) ∷ []) }) w
  read_owned s harts cpu home mover w f k p q ms setup sim he pre =
      let pl = sim.flight.0.0 in
      let lf : f < s.frames = pl.0.0 in
      let lk : k < s.blocks = pl.0.1 in
      let ask : (w.block f k).ask p ≡ Read = pl.0.2.1 in
      let lp : p < s.nodes = pl.1.0 in
      let lp1 : p < s.nodes + 1 = omega arith in
      let sh = sim.homes f k lf lk in
      let line = sh.line in
      let shown = subst (λ (u : HomeEntry). EntryShows s.nodes u (home_entry_at w f k)) he sh.entry in
      let inv : Invariant L (s.nodes + 1) s.nodes s.pages s.blocks w = reached (s.nodes + 1) s.nodes s.pages s.blocks w sim.reached in
      let pp = self_number p in
      let hs = here_self f k in
      let be : (w.block f k).entry ≡ Exclusive q = entry_is (is_blank_in w.pages f) (w.block f k).entry (Exclusive q) shown (λ x. absurd (cc)) in
      let ne : q ≢ p = grind (arith, nat_tests) in
      let lq : q < s.nodes = (let a = (inv.link f k lk).invariant.home.inside in let b = (inv.link f k lk).parts.ends in grind arith) in
      let qq = self_number q in
      let r : BlockRow L = Read_owned p q in
      let gd : guard (s.nodes + 1) s.nodes s.pages s.blocks (On 0 0 f k r) w = ((ask, be, ne), lp1, lk, tt) in
      let z : World L = apply (s.nodes + 1) s.nodes (On 0 0 f k r) w in
      let zb = block_here (s.nodes + 1) s.nodes 0 0 f k r w in
      let reply : Placed s z (letter (s.home f) p (KSpecReply f k ((home (s.home f)).line f k))) × (touches w.pages (On 0 0 f k r) (AskAt f k p) ≡ true) = (((lf, lk, (lp1, grind arith, refl)), (refl, lp), tt), grind arith) in
      let ask_q : Placed s z (letter (s.home f) q (KInterveneShared f k p)) × (touches w.pages (On 0 0 f k r) (InterventionAt f k q) ≡ true) = (((lf, lk, (omega arith, grind arith, λ x. absurd (cc))), (refl, lq, lp), tt), grind arith) in
      one s harts _ w (On 0 0 f k r) refl gd (home_entry_row s harts cpu home mover w 0 0 f k r (letter p (s.home f) (KRead f k)) (HBusyShared q p) ms (letter (s.home f) q (KInterveneShared f k p) ∷ letter (s.home f) p (KSpecReply f k ((home (s.home f)).line f k)) ∷ []) sim gd lf refl refl (owned_read_owned p f k q (On 0 0 f k r) refl) (grind arith) (BusyShared q p) refl (λ q x. absurd (cc)) refl refl ((ask_q, ((λ x. absurd (cc)), tt), (reply, tt, tt)), λ x i c st. elim (changed_read_owned p f k q w.pages (On 0 0 f k r) refl x c) [ inl a ↦ inl (sym a) | inr b ↦ inr (inl (sym b)) ]))

  pub read_poison : (s : Setup) (harts : Harts L H) (cpu : ℕ → Cpu L H) (home : ℕ → HomeSide L) (mover : Mover L) (w : World L) (f k p : ℕ) (ms : List (Post L)) → IsSetup s →
      Sim s harts (record { cpu = cpu; home = home; mover = mover; flight = letter p (s.home f) (KRead f k) ∷ ms }) w → (home (s.home f)).entry f k ≡ HPoison →
      Goes s harts (record { cpu = cpu; home = put home (s.home f) (home (s.home f)); mover = mover; flight = ms ++ (letter (s.home f) p (KPoisonError f k) ∷ []) }) w
  read_poison s harts cpu home mover w f k p ms setup sim he =
      let pl = sim.flight.0.0 in
      let lf : f < s.frames = pl.0.0 in
      let lk : k < s.blocks = pl.0.1 in
      let ask : (w.block f k).ask p ≡ Read = pl.0.2.1 in
      let lp : p < s.nodes = pl.1.0 in
      let lp1 : p < s.nodes + 1 = omega arith in
      let sh = sim.homes f k lf lk in
      let line = sh.line in
      let shown = subst (λ (u : HomeEntry). EntryShows s.nodes u (home_entry_at w f k)) he sh.entry in
      let inv : Invariant L (s.nodes + 1) s.nodes s.pages s.blocks w = reached (s.nodes + 1) s.nodes s.pages s.blocks w sim.reached in
      let pp = self_number p in
      let hs = here_self f k in
      let be : (w.block f k).entry ≡ PoisonBy s.nodes = entry_is (is_blank_in w.pages f) (w.block f k).entry (PoisonBy s.nodes) shown (λ x. absurd (cc)) in
      let r : BlockRow L = Read_poison p s.nodes in
      let gd : guard (s.nodes + 1) s.nodes s.pages s.blocks (On 0 0 f k r) w = ((ask, be), lp1, lk, tt) in
      let z : World L = apply (s.nodes + 1) s.nodes (On 0 0 f k r) w in
      let zb = block_here (s.nodes + 1) s.nodes 0 0 f k r w in
      let reply : Placed s z (letter (s.home f) p (KPoisonError f k)) × (touches w.pages (On 0 0 f k r) (AskAt f k p) ≡ true) = (((lf, lk, (lp1, grind arith, refl)), (refl, lp), tt), grind arith) in
      one s harts _ w (On 0 0 f k r) refl gd (home_still_row s harts cpu home mover w 0 0 f k r (letter p (s.home f) (KRead f k)) ms (letter (s.home f) p (KPoisonError f k) ∷ []) sim gd lf refl refl (owned_read_poison p f k s.nodes (On 0 0 f k r) refl) (grind arith) refl refl ((reply, tt, tt), λ x i c st. inl (sym (changed_read_poison p f k s.nodes w.pages (On 0 0 f k r) refl x c))))

  pub read_busy : (s : Setup) (harts : Harts L H) (cpu : ℕ → Cpu L H) (home : ℕ → HomeSide L) (mover : Mover L) (w : World L) (f k p : ℕ) (h : HomeEntry) (ms : List (Post L)) → IsSetup s →
      Sim s harts (record { cpu = cpu; home = home; mover = mover; flight = letter p (s.home f) (KRead f k) ∷ ms }) w → (home (s.home f)).entry f k ≡ h → is_busy_home h ≡ true →
      Goes s harts (record { cpu = cpu; home = put home (s.home f) (home (s.home f)); mover = mover; flight = ms ++ (letter (s.home f) p (KNak f k) ∷ []) }) w
  read_busy s harts cpu home mover w f k p h ms setup sim he pre =
      let pl = sim.flight.0.0 in
      let lf : f < s.frames = pl.0.0 in
      let lk : k < s.blocks = pl.0.1 in
      let ask : (w.block f k).ask p ≡ Read = pl.0.2.1 in
      let lp : p < s.nodes = pl.1.0 in
      let lp1 : p < s.nodes + 1 = omega arith in
      let sh = sim.homes f k lf lk in
      let line = sh.line in
      let shown = subst (λ (u : HomeEntry). EntryShows s.nodes u (home_entry_at w f k)) he sh.entry in
      let inv : Invariant L (s.nodes + 1) s.nodes s.pages s.blocks w = reached (s.nodes + 1) s.nodes s.pages s.blocks w sim.reached in
      let pp = self_number p in
      let hs = here_self f k in
      let bz : is_busy (home_entry_at w f k) ≡ true = busy_shows s.nodes h (home_entry_at w f k) pre shown in
      let be0 : (w.block f k).entry ≡ home_entry_at w f k = entry_is (is_blank_in w.pages f) (w.block f k).entry (home_entry_at w f k) refl (λ x. absurd (cc)) in
      let be : is_busy (w.block f k).entry ≡ true = cc in
      let r : BlockRow L = Read_busy p in
      let gd : guard (s.nodes + 1) s.nodes s.pages s.blocks (On 0 0 f k r) w = ((ask, be), lp1, lk, tt) in
      let z : World L = apply (s.nodes + 1) s.nodes (On 0 0 f k r) w in
      let zb = block_here (s.nodes + 1) s.nodes 0 0 f k r w in
      let reply : Placed s z (letter (s.home f) p (KNak f k)) × (touches w.pages (On 0 0 f k r) (AskAt f k p) ≡ true) = (((lf, lk, (lp1, grind arith, refl)), (refl, omega arith), tt), grind arith) in
      one s harts _ w (On 0 0 f k r) refl gd (home_still_row s harts cpu home mover w 0 0 f k r (letter p (s.home f) (KRead f k)) ms (letter (s.home f) p (KNak f k) ∷ []) sim gd lf refl refl (owned_read_busy p f k (On 0 0 f k r) refl) (grind arith) refl refl ((reply, tt, tt), λ x i c st. inl (sym (changed_read_busy p f k w.pages (On 0 0 f k r) refl x c))))

  pub read_exclusive_unowned : (s : Setup) (harts : Harts L H) (cpu : ℕ → Cpu L H) (home : ℕ → HomeSide L) (mover : Mover L) (w : World L) (f k p : ℕ) (ms : List (Post L)) → IsSetup s →
      Sim s harts (record { cpu = cpu; home = home; mover = mover; flight = letter p (s.home f) (KReadEx f k) ∷ ms }) w → (home (s.home f)).entry f k ≡ HUnowned →
      Goes s harts (record { cpu = cpu; home = put home (s.home f) (with_entry (home (s.home f)) f k (HExclusive p)); mover = mover; flight = ms ++ (letter (s.home f) p (KExclusiveReply f k ((home (s.home f)).line f k) 0) ∷ []) }) w
  read_exclusive_unowned s harts cpu home mover w f k p ms setup sim he =
      let pl = sim.flight.0.0 in
      let lf : f < s.frames = pl.0.0 in
      let lk : k < s.blocks = pl.0.1 in
      let ask : (w.block f k).ask p ≡ ReadExclusive = pl.0.2.1 in
      let lp : p < s.nodes = pl.1.0 in
      let lp1 : p < s.nodes + 1 = omega arith in
      let sh = sim.homes f k lf lk in
      let line = sh.line in
      let shown = subst (λ (u : HomeEntry). EntryShows s.nodes u (home_entry_at w f k)) he sh.entry in
      let inv : Invariant L (s.nodes + 1) s.nodes s.pages s.blocks w = reached (s.nodes + 1) s.nodes s.pages s.blocks w sim.reached in
      let pp = self_number p in
      let hs = here_self f k in
      let rq = request_of (s.nodes + 1) s.nodes s.pages s.blocks w p f k inv lp1 (λ e. absurd (omega arith)) lk (ask_busy (s.nodes + 1) (w.pages.newest f k) p (w.block f k) ((inv.link f k lk).invariant.each p lp1) (λ e. absurd (cc))) in
      let nb : is_blank_in w.pages f ≡ false = (entries_met (s.nodes + 1) s.nodes s.pages s.blocks w inv).request_meets p rq.0 f k rq.1 in
      let be : (w.block f k).entry ≡ Unowned = grind arith in
      let r : BlockRow L = Read_exclusive_unowned p in
      let gd : guard (s.nodes + 1) s.nodes s.pages s.blocks (On 0 0 f k r) w = ((ask, be), lp1, lk, tt) in
      let z : World L = apply (s.nodes + 1) s.nodes (On 0 0 f k r) w in
      let zb = block_here (s.nodes + 1) s.nodes 0 0 f k r w in
      let reply : Placed s z (letter (s.home f) p (KExclusiveReply f k ((home (s.home f)).line f k) 0)) × (touches w.pages (On 0 0 f k r) (AskAt f k p) ≡ true) = (((lf, lk, (lp1, grind arith, refl)), (refl, lp), tt), grind arith) in
      one s harts _ w (On 0 0 f k r) refl gd (home_entry_row s harts cpu home mover w 0 0 f k r (letter p (s.home f) (KReadEx f k)) (HExclusive p) ms (letter (s.home f) p (KExclusiveReply f k ((home (s.home f)).line f k) 0) ∷ []) sim gd lf refl refl (owned_read_exclusive_unowned p f k (On 0 0 f k r) refl) (grind arith) (Exclusive p) refl (λ q x. absurd (cc)) refl refl ((reply, tt, tt), λ x i c st. inl (sym (changed_read_exclusive_unowned p f k w.pages (On 0 0 f k r) refl x c))))

  pub read_exclusive_by_owner : (s : Setup) (harts : Harts L H) (cpu : ℕ → Cpu L H) (home : ℕ → HomeSide L) (mover : Mover L) (w : World L) (f k p : ℕ) (ms : List (Post L)) → IsSetup s →
      Sim s harts (record { cpu = cpu; home = home; mover = mover; flight = letter p (s.home f) (KReadEx f k) ∷ ms }) w → (home (s.home f)).entry f k ≡ HExclusive p →
      Goes s harts (record { cpu = cpu; home = put home (s.home f) (home (s.home f)); mover = mover; flight = ms ++ (letter (s.home f) p (KExclusiveReply f k ((home (s.home f)).line f k) 0) ∷ []) }) w
  read_exclusive_by_owner s harts cpu home mover w f k p ms setup sim he =
      let pl = sim.flight.0.0 in
      let lf : f < s.frames = pl.0.0 in
      let lk : k < s.blocks = pl.0.1 in
      let ask : (w.block f k).ask p ≡ ReadExclusive = pl.0.2.1 in
      let lp : p < s.nodes = pl.1.0 in
      let lp1 : p < s.nodes + 1 = omega arith in
      let sh = sim.homes f k lf lk in
      let line = sh.line in
      let shown = subst (λ (u : HomeEntry). EntryShows s.nodes u (home_entry_at w f k)) he sh.entry in
      let inv : Invariant L (s.nodes + 1) s.nodes s.pages s.blocks w = reached (s.nodes + 1) s.nodes s.pages s.blocks w sim.reached in
      let pp = self_number p in
      let hs = here_self f k in
      let be : (w.block f k).entry ≡ Exclusive p = entry_is (is_blank_in w.pages f) (w.block f k).entry (Exclusive p) shown (λ x. absurd (cc)) in
      let r : BlockRow L = Read_exclusive_by_owner p in
      let gd : guard (s.nodes + 1) s.nodes s.pages s.blocks (On 0 0 f k r) w = ((ask, be), lp1, lk, tt) in
      let z : World L = apply (s.nodes + 1) s.nodes (On 0 0 f k r) w in
      let zb = block_here (s.nodes + 1) s.nodes 0 0 f k r w in
      let reply : Placed s z (letter (s.home f) p (KExclusiveReply f k ((home (s.home f)).line f k) 0)) × (touches w.pages (On 0 0 f k r) (AskAt f k p) ≡ true) = (((lf, lk, (lp1, grind arith, refl)), (refl, lp), tt), grind arith) in
      one s harts _ w (On 0 0 f k r) refl gd (home_still_row s harts cpu home mover w 0 0 f k r (letter p (s.home f) (KReadEx f k)) ms (letter (s.home f) p (KExclusiveReply f k ((home (s.home f)).line f k) 0) ∷ []) sim gd lf refl refl (owned_read_exclusive_by_owner p f k (On 0 0 f k r) refl) (grind arith) refl refl ((reply, tt, tt), λ x i c st. inl (sym (changed_read_exclusive_by_owner p f k w.pages (On 0 0 f k r) refl x c))))

  pub read_exclusive_owned : (s : Setup) (harts : Harts L H) (cpu : ℕ → Cpu L H) (home : ℕ → HomeSide L) (mover : Mover L) (w : World L) (f k p : ℕ) (q : ℕ) (ms : List (Post L)) → IsSetup s →
      Sim s harts (record { cpu = cpu; home = home; mover = mover; flight = letter p (s.home f) (KReadEx f k) ∷ ms }) w → (home (s.home f)).entry f k ≡ HExclusive q → nat_eq q p ≡ false →
      Goes s harts (record { cpu = cpu; home = put home (s.home f) (with_entry (home (s.home f)) f k (HBusyExclusive q p false)); mover = mover; flight = ms ++ (letter (s.home f) q (KInterveneEx f k p) ∷ letter (s.home f) p (KSpecReply f k ((home (s.home f)).line f k)) ∷ []) }) w
  read_exclusive_owned s harts cpu home mover w f k p q ms setup sim he pre =
      let pl = sim.flight.0.0 in
      let lf : f < s.frames = pl.0.0 in
      let lk : k < s.blocks = pl.0.1 in
      let ask : (w.block f k).ask p ≡ ReadExclusive = pl.0.2.1 in
      let lp : p < s.nodes = pl.1.0 in
      let lp1 : p < s.nodes + 1 = omega arith in
      let sh = sim.homes f k lf lk in
      let line = sh.line in
      let shown = subst (λ (u : HomeEntry). EntryShows s.nodes u (home_entry_at w f k)) he sh.entry in
      let inv : Invariant L (s.nodes + 1) s.nodes s.pages s.blocks w = reached (s.nodes + 1) s.nodes s.pages s.blocks w sim.reached in
      let pp = self_number p in
      let hs = here_self f k in
      let be : (w.block f k).entry ≡ Exclusive q = entry_is (is_blank_in w.pages f) (w.block f k).entry (Exclusive q) shown (λ x. absurd (cc)) in
      let ne : q ≢ p = grind (arith, nat_tests) in
      let lq : q < s.nodes = (let a = (inv.link f k lk).invariant.home.inside in let b = (inv.link f k lk).parts.ends in grind arith) in
      let qq = self_number q in
      let r : BlockRow L = Read_exclusive_owned p q in
      let gd : guard (s.nodes + 1) s.nodes s.pages s.blocks (On 0 0 f k r) w = ((ask, be, ne), lp1, lk, tt) in
      let z : World L = apply (s.nodes + 1) s.nodes (On 0 0 f k r) w in
      let zb = block_here (s.nodes + 1) s.nodes 0 0 f k r w in
      let reply : Placed s z (letter (s.home f) p (KSpecReply f k ((home (s.home f)).line f k))) × (touches w.pages (On 0 0 f k r) (AskAt f k p) ≡ true) = (((lf, lk, (lp1, grind arith, refl)), (refl, lp), tt), grind arith) in
      let ask_q : Placed s z (letter (s.home f) q (KInterveneEx f k p)) × (touches w.pages (On 0 0 f k r) (InterventionAt f k q) ≡ true) = (((lf, lk, (omega arith, grind arith, λ x. absurd (cc))), (refl, lq, lp), tt), grind arith) in
      one s harts _ w (On 0 0 f k r) refl gd (home_entry_row s harts cpu home mover w 0 0 f k r (letter p (s.home f) (KReadEx f k)) (HBusyExclusive q p false) ms (letter (s.home f) q (KInterveneEx f k p) ∷ letter (s.home f) p (KSpecReply f k ((home (s.home f)).line f k)) ∷ []) sim gd lf refl refl (owned_read_exclusive_owned p f k q (On 0 0 f k r) refl) (grind arith) (BusyExclusive q p false) refl (λ q x. absurd (cc)) refl refl ((ask_q, ((λ x. absurd (cc)), tt), (reply, tt, tt)), λ x i c st. elim (changed_read_exclusive_owned p f k q w.pages (On 0 0 f k r) refl x c) [ inl a ↦ inl (sym a) | inr b ↦ inr (inl (sym b)) ]))

  pub read_exclusive_poison : (s : Setup) (harts : Harts L H) (cpu : ℕ → Cpu L H) (home : ℕ → HomeSide L) (mover : Mover L) (w : World L) (f k p : ℕ) (ms : List (Post L)) → IsSetup s →
      Sim s harts (record { cpu = cpu; home = home; mover = mover; flight = letter p (s.home f) (KReadEx f k) ∷ ms }) w → (home (s.home f)).entry f k ≡ HPoison →
      Goes s harts (record { cpu = cpu; home = put home (s.home f) (home (s.home f)); mover = mover; flight = ms ++ (letter (s.home f) p (KPoisonError f k) ∷ []) }) w
  read_exclusive_poison s harts cpu home mover w f k p ms setup sim he =
      let pl = sim.flight.0.0 in
      let lf : f < s.frames = pl.0.0 in
      let lk : k < s.blocks = pl.0.1 in
      let ask : (w.block f k).ask p ≡ ReadExclusive = pl.0.2.1 in
      let lp : p < s.nodes = pl.1.0 in
      let lp1 : p < s.nodes + 1 = omega arith in
      let sh = sim.homes f k lf lk in
      let line = sh.line in
      let shown = subst (λ (u : HomeEntry). EntryShows s.nodes u (home_entry_at w f k)) he sh.entry in
      let inv : Invariant L (s.nodes + 1) s.nodes s.pages s.blocks w = reached (s.nodes + 1) s.nodes s.pages s.blocks w sim.reached in
      let pp = self_number p in
      let hs = here_self f k in
      let be : (w.block f k).entry ≡ PoisonBy s.nodes = entry_is (is_blank_in w.pages f) (w.block f k).entry (PoisonBy s.nodes) shown (λ x. absurd (cc)) in
      let r : BlockRow L = Read_exclusive_poison p s.nodes in
      let gd : guard (s.nodes + 1) s.nodes s.pages s.blocks (On 0 0 f k r) w = ((ask, be), lp1, lk, tt) in
      let z : World L = apply (s.nodes + 1) s.nodes (On 0 0 f k r) w in
      let zb = block_here (s.nodes + 1) s.nodes 0 0 f k r w in
      let reply : Placed s z (letter (s.home f) p (KPoisonError f k)) × (touches w.pages (On 0 0 f k r) (AskAt f k p) ≡ true) = (((lf, lk, (lp1, grind arith, refl)), (refl, lp), tt), grind arith) in
      one s harts _ w (On 0 0 f k r) refl gd (home_still_row s harts cpu home mover w 0 0 f k r (letter p (s.home f) (KReadEx f k)) ms (letter (s.home f) p (KPoisonError f k) ∷ []) sim gd lf refl refl (owned_read_exclusive_poison p f k s.nodes (On 0 0 f k r) refl) (grind arith) refl refl ((reply, tt, tt), λ x i c st. inl (sym (changed_read_exclusive_poison p f k s.nodes w.pages (On 0 0 f k r) refl x c))))

  pub read_exclusive_busy : (s : Setup) (harts : Harts L H) (cpu : ℕ → Cpu L H) (home : ℕ → HomeSide L) (mover : Mover L) (w : World L) (f k p : ℕ) (h : HomeEntry) (ms : List (Post L)) → IsSetup s →
      Sim s harts (record { cpu = cpu; home = home; mover = mover; flight = letter p (s.home f) (KReadEx f k) ∷ ms }) w → (home (s.home f)).entry f k ≡ h → is_busy_home h ≡ true →
      Goes s harts (record { cpu = cpu; home = put home (s.home f) (home (s.home f)); mover = mover; flight = ms ++ (letter (s.home f) p (KNak f k) ∷ []) }) w
  read_exclusive_busy s harts cpu home mover w f k p h ms setup sim he pre =
      let pl = sim.flight.0.0 in
      let lf : f < s.frames = pl.0.0 in
      let lk : k < s.blocks = pl.0.1 in
      let ask : (w.block f k).ask p ≡ ReadExclusive = pl.0.2.1 in
      let lp : p < s.nodes = pl.1.0 in
      let lp1 : p < s.nodes + 1 = omega arith in
      let sh = sim.homes f k lf lk in
      let line = sh.line in
      let shown = subst (λ (u : HomeEntry). EntryShows s.nodes u (home_entry_at w f k)) he sh.entry in
      let inv : Invariant L (s.nodes + 1) s.nodes s.pages s.blocks w = reached (s.nodes + 1) s.nodes s.pages s.blocks w sim.reached in
      let pp = self_number p in
      let hs = here_self f k in
      let bz : is_busy (home_entry_at w f k) ≡ true = busy_shows s.nodes h (home_entry_at w f k) pre shown in
      let be0 : (w.block f k).entry ≡ home_entry_at w f k = entry_is (is_blank_in w.pages f) (w.block f k).entry (home_entry_at w f k) refl (λ x. absurd (cc)) in
      let be : is_busy (w.block f k).entry ≡ true = cc in
      let r : BlockRow L = Read_exclusive_busy p in
      let gd : guard (s.nodes + 1) s.nodes s.pages s.blocks (On 0 0 f k r) w = ((ask, be), lp1, lk, tt) in
      let z : World L = apply (s.nodes + 1) s.nodes (On 0 0 f k r) w in
      let zb = block_here (s.nodes + 1) s.nodes 0 0 f k r w in
      let reply : Placed s z (letter (s.home f) p (KNak f k)) × (touches w.pages (On 0 0 f k r) (AskAt f k p) ≡ true) = (((lf, lk, (lp1, grind arith, refl)), (refl, omega arith), tt), grind arith) in
      one s harts _ w (On 0 0 f k r) refl gd (home_still_row s harts cpu home mover w 0 0 f k r (letter p (s.home f) (KReadEx f k)) ms (letter (s.home f) p (KNak f k) ∷ []) sim gd lf refl refl (owned_read_exclusive_busy p f k (On 0 0 f k r) refl) (grind arith) refl refl ((reply, tt, tt), λ x i c st. inl (sym (changed_read_exclusive_busy p f k w.pages (On 0 0 f k r) refl x c))))
