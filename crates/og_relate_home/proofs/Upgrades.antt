-- A home's rows at an upgrade.
use Rattle.std.proofs.Common.{◌≡◌, ℕ, ◌+◌, ◌<◌, Bool, true, false, not, nat_eq, arith, inl, refl, sym, subst, List, [], ◌∷◌, ◌++◌}
use Rattle.std.proofs.lemmas.Bool.Decides.{nat_tests}
use Rattle.og_slots.specs.Count.{count}
use Rattle.og_block.specs.State.{Sharing, Single, Grouped, put, others, Upgrade, Entry, SharedBy, Exclusive, PoisonBy}
use Rattle.og_block.specs.Rows.{Row as BlockRow, refuses_upgrade, Upgrade_shared, Upgrade_grouped, Upgrade_refused, Upgrade_poison}
use Rattle.og_pages.specs.State.{State as Pages}
use Rattle.og_whole.specs.Events.{World, Event, On, guard, apply}
use Rattle.og_whole.specs.HomeEntry.{home_entry_at, is_blank_in}
use Rattle.og_whole.specs.Link.{Invariant}
use Rattle.og_whole.proofs.Runs.{reached}
use Rattle.og_relate.specs.Data.{KUpgrade, KUpgradeReply, KExclusiveReply, KNak, KPoisonError, Post, Setup, Cpu, Mover, HomeSide, HomeEntry, HShared, HExclusive, HPoison, Harts}
use Rattle.og_relate.specs.Places.{Place, AskAt, Placed}
use Rattle.og_relate.specs.Sides.{owns, touches}
use Rattle.og_relate.specs.Sim.{Sim, EntryShows}
use Rattle.og_relate.specs.Goes.{Goes}
use Rattle.og_relate.specs.Owes.{changes}
use Rattle.og_relate.specs.Steps.{letter, invalidations, with_entry}
use Rattle.og_relate_home.specs.Steps.{grant}
use Rattle.og_relate.proofs.Parts.{self_number}
use Rattle.og_relate.proofs.Requests.{home_still_row}
use Rattle.og_relate.proofs.Home.{here_self, block_here, entry_is, entry_shown, is_spread, one}
use Rattle.og_relate_home.proofs.Rows.{shown_entry, count_nodes, ask_meets, spread_row}

-- the entries at which an upgrade of p is answered by a negative acknowledgement
abbrev pub refuses : HomeEntry → ℕ → Bool
refuses (HShared t) p = not (t p)
refuses (HExclusive q) p = not (nat_eq q p)
refuses HPoison p = false
refuses h p = true

refuses_shown : (n p : ℕ) (h : HomeEntry) (e : Entry) → p < n → refuses h p ≡ true → EntryShows n h e → refuses_upgrade e p ≡ true
refuses_shown n p (HShared t) (SharedBy u) lt r x = let a = x p lt in grind arith
refuses_shown n p h e lt r x = grind (arith, nat_tests)

module _ {L : Type 0} where
  owned_shared : (p f k : ℕ) (u : ℕ → Bool) (e : Event L) → e ≡ On 0 0 f k (Upgrade_shared p u) → (x : Place) → owns e x ≡ true → x ≡ AskAt f k p
  owned_shared p f k u e is x o = grind (arith, nat_tests)

  changed_shared : (p f k : ℕ) (u : ℕ → Bool) (s : Pages L) (e : Event L) → e ≡ On 0 0 f k (Upgrade_shared p u) → (x : Place) → changes s e x ≡ true → is_spread f k p u x ≡ true
  changed_shared p f k u s e is x o = grind (arith, nat_tests)

  owned_grouped : (p f k : ℕ) (u : ℕ → Bool) (e : Event L) → e ≡ On 0 0 f k (Upgrade_grouped p u) → (x : Place) → owns e x ≡ true → x ≡ AskAt f k p
  owned_grouped p f k u e is x o = grind (arith, nat_tests)

  changed_grouped : (p f k : ℕ) (u : ℕ → Bool) (s : Pages L) (e : Event L) → e ≡ On 0 0 f k (Upgrade_grouped p u) → (x : Place) → changes s e x ≡ true → is_spread f k p u x ≡ true
  changed_grouped p f k u s e is x o = grind (arith, nat_tests)

  owned_refused : (p f k : ℕ) (e : Event L) → e ≡ On 0 0 f k (Upgrade_refused p) → (x : Place) → owns e x ≡ true → x ≡ AskAt f k p
  owned_refused p f k e is x o = grind (arith, nat_tests)

  changed_refused : (p f k : ℕ) (s : Pages L) (e : Event L) → e ≡ On 0 0 f k (Upgrade_refused p) → (x : Place) → changes s e x ≡ true → x ≡ AskAt f k p
  changed_refused p f k s e is x o = grind (arith, nat_tests)

  owned_poison : (p f k m : ℕ) (e : Event L) → e ≡ On 0 0 f k (Upgrade_poison p m) → (x : Place) → owns e x ≡ true → x ≡ AskAt f k p
  owned_poison p f k m e is x o = grind (arith, nat_tests)

  changed_poison : (p f k m : ℕ) (s : Pages L) (e : Event L) → e ≡ On 0 0 f k (Upgrade_poison p m) → (x : Place) → changes s e x ≡ true → x ≡ AskAt f k p
  changed_poison p f k m s e is x o = grind (arith, nat_tests)

module _ {L : Type 0} {H : Type 0} where
  pub upgrade_granted : (s : Setup) (harts : Harts L H) (cpu : ℕ → Cpu L H) (home : ℕ → HomeSide L) (mover : Mover L) (w : World L) (f k p : ℕ) (t : ℕ → Bool) (ms : List (Post L)) →
      Sim s harts (record { cpu = cpu; home = home; mover = mover; flight = letter p (s.home f) (KUpgrade f k) ∷ ms }) w → (home (s.home f)).entry f k ≡ HShared t → t p ≡ true →
      Goes s harts (record { cpu = cpu; home = put home (s.home f) (with_entry (home (s.home f)) f k (HExclusive p)); mover = mover; flight = ms ++ (invalidations (s.home f) f k p t s.nodes ++ letter (s.home f) p (grant s.sharing f k ((home (s.home f)).line f k) (count s.nodes (others t p))) ∷ []) }) w
  upgrade_granted s harts cpu home mover w f k p t ms sim he tp =
      let sh = sim.homes f k sim.flight.0.0.0.0 sim.flight.0.0.0.1 in
      by (home_entry_at w f k) refl (subst (λ (u : HomeEntry). EntryShows s.nodes u (home_entry_at w f k)) he sh.entry) s.sharing refl
    where
      line : L
      line = (home (s.home f)).line f k

      acks : ℕ
      acks = count s.nodes (others t p)

      Goal : Sharing → Type 0
      Goal g = Goes s harts (record { cpu = cpu; home = put home (s.home f) (with_entry (home (s.home f)) f k (HExclusive p)); mover = mover; flight = ms ++ (invalidations (s.home f) f k p t s.nodes ++ letter (s.home f) p (grant g f k line acks) ∷ []) }) w

      by : (e : Entry) → home_entry_at w f k ≡ e → EntryShows s.nodes (HShared t) e → (g : Sharing) → s.sharing ≡ g → Goal g
      by (SharedBy u) eq same Single gs =
          let pl = sim.flight.0.0 in
          let lf : f < s.frames = pl.0.0 in
          let lk : k < s.blocks = pl.0.1 in
          let ask : (w.block f k).ask p ≡ Upgrade = pl.0.2.1 in
          let lp : p < s.nodes = pl.1.0 in
          let lp1 : p < s.nodes + 1 = omega arith in
          let lines = (sim.homes f k lf lk).line in
          let inv : Invariant L (s.nodes + 1) s.nodes s.pages s.blocks w = reached (s.nodes + 1) s.nodes s.pages s.blocks w sim.reached in
          let be : (w.block f k).entry ≡ SharedBy u = entry_is (is_blank_in w.pages f) (w.block f k).entry (SharedBy u) eq (λ x. absurd (cc)) in
          let ends = (inv.link f k lk).parts.ends in
          let top : u s.nodes ≡ false = grind arith in
          let up : u p ≡ true = (let a = same p lp in cc) in
          let ks : (w.block f k).sharing ≡ Single = (let a = sim.mover.sharing f k in cc) in
          let r : BlockRow L = Upgrade_shared p u in
          let gd : guard (s.nodes + 1) s.nodes s.pages s.blocks (On 0 0 f k r) w = ((ask, be, up, ks), lp1, lk, tt) in
          let z : World L = apply (s.nodes + 1) s.nodes (On 0 0 f k r) w in
          let zb = block_here (s.nodes + 1) s.nodes 0 0 f k r w in
          let pp = self_number p in
          let hs = here_self f k in
          let cn : count (s.nodes + 1) (others u p) ≡ count s.nodes (others t p) = count_nodes s.nodes (others u p) (others t p) (grind arith) (λ q lt. (let a = same q lt in grind arith)) in
          spread_row s harts cpu home mover w f k p t u r (letter p (s.home f) (KUpgrade f k)) (letter (s.home f) p (KUpgradeReply f k acks)) (HExclusive p) ms sim gd lf lp1 refl refl (owned_shared p f k u (On 0 0 f k r) refl) (grind arith)
          (Exclusive p) refl (entry_shown (is_blank_in w.pages f) (Exclusive p) (λ q x. absurd (cc))) refl refl same (grind arith) (λ q o. (grind arith, grind arith)) refl
          ((lf, lk, (lp1, grind arith, refl)), (refl, lp), tt) (grind arith) (changed_shared p f k u w.pages (On 0 0 f k r) refl)
      by (SharedBy u) eq same (Grouped groups) gs =
          let pl = sim.flight.0.0 in
          let lf : f < s.frames = pl.0.0 in
          let lk : k < s.blocks = pl.0.1 in
          let ask : (w.block f k).ask p ≡ Upgrade = pl.0.2.1 in
          let lp : p < s.nodes = pl.1.0 in
          let lp1 : p < s.nodes + 1 = omega arith in
          let lines = (sim.homes f k lf lk).line in
          let inv : Invariant L (s.nodes + 1) s.nodes s.pages s.blocks w = reached (s.nodes + 1) s.nodes s.pages s.blocks w sim.reached in
          let be : (w.block f k).entry ≡ SharedBy u = entry_is (is_blank_in w.pages f) (w.block f k).entry (SharedBy u) eq (λ x. absurd (cc)) in
          let ends = (inv.link f k lk).parts.ends in
          let top : u s.nodes ≡ false = grind arith in
          let up : u p ≡ true = (let a = same p lp in cc) in
          let ks : (w.block f k).sharing ≡ Grouped groups = (let a = sim.mover.sharing f k in cc) in
          let r : BlockRow L = Upgrade_grouped p u in
          let gd : guard (s.nodes + 1) s.nodes s.pages s.blocks (On 0 0 f k r) w = ((ask, be, up, grind arith), lp1, lk, tt) in
          let z : World L = apply (s.nodes + 1) s.nodes (On 0 0 f k r) w in
          let zb = block_here (s.nodes + 1) s.nodes 0 0 f k r w in
          let pp = self_number p in
          let hs = here_self f k in
          let cn : count (s.nodes + 1) (others u p) ≡ count s.nodes (others t p) = count_nodes s.nodes (others u p) (others t p) (grind arith) (λ q lt. (let a = same q lt in grind arith)) in
          spread_row s harts cpu home mover w f k p t u r (letter p (s.home f) (KUpgrade f k)) (letter (s.home f) p (KExclusiveReply f k line acks)) (HExclusive p) ms sim gd lf lp1 refl refl (owned_grouped p f k u (On 0 0 f k r) refl) (grind arith)
          (Exclusive p) refl (entry_shown (is_blank_in w.pages f) (Exclusive p) (λ q x. absurd (cc))) refl refl same (grind arith) (λ q o. (grind arith, grind arith)) refl
          ((lf, lk, (lp1, grind arith, refl)), (refl, lp), tt) (grind arith) (changed_grouped p f k u w.pages (On 0 0 f k r) refl)
      by e eq x g gs = absurd x

  pub upgrade_refused : (s : Setup) (harts : Harts L H) (cpu : ℕ → Cpu L H) (home : ℕ → HomeSide L) (mover : Mover L) (w : World L) (f k p : ℕ) (h : HomeEntry) (ms : List (Post L)) →
      Sim s harts (record { cpu = cpu; home = home; mover = mover; flight = letter p (s.home f) (KUpgrade f k) ∷ ms }) w → (home (s.home f)).entry f k ≡ h → refuses h p ≡ true →
      Goes s harts (record { cpu = cpu; home = put home (s.home f) (home (s.home f)); mover = mover; flight = ms ++ letter (s.home f) p (KNak f k) ∷ [] }) w
  upgrade_refused s harts cpu home mover w f k p h ms sim he no_grant =
      let pl = sim.flight.0.0 in
      let lf : f < s.frames = pl.0.0 in
      let lk : k < s.blocks = pl.0.1 in
      let ask : (w.block f k).ask p ≡ Upgrade = pl.0.2.1 in
      let lp : p < s.nodes = pl.1.0 in
      let lp1 : p < s.nodes + 1 = omega arith in
      let sh = sim.homes f k lf lk in
      let shown = subst (λ (u : HomeEntry). EntryShows s.nodes u (home_entry_at w f k)) he sh.entry in
      let inv : Invariant L (s.nodes + 1) s.nodes s.pages s.blocks w = reached (s.nodes + 1) s.nodes s.pages s.blocks w sim.reached in
      let pp = self_number p in
      let hs = here_self f k in
      let nb : is_blank_in w.pages f ≡ false = ask_meets (s.nodes + 1) s.nodes s.pages s.blocks w f k p inv lp1 (λ e. absurd (omega arith)) lk (λ e. absurd (cc)) in
      let own : home_entry_at w f k ≡ (w.block f k).entry = shown_entry (is_blank_in w.pages f) (w.block f k).entry nb in
      let rf : refuses_upgrade (home_entry_at w f k) p ≡ true = refuses_shown s.nodes p h (home_entry_at w f k) lp no_grant shown in
      let be : refuses_upgrade (w.block f k).entry p ≡ true = cc in
      let r : BlockRow L = Upgrade_refused p in
      let gd : guard (s.nodes + 1) s.nodes s.pages s.blocks (On 0 0 f k r) w = ((ask, be), lp1, lk, tt) in
      let z : World L = apply (s.nodes + 1) s.nodes (On 0 0 f k r) w in
      let zb = block_here (s.nodes + 1) s.nodes 0 0 f k r w in
      let reply : Placed s z (letter (s.home f) p (KNak f k)) × (touches w.pages (On 0 0 f k r) (AskAt f k p) ≡ true) = (((lf, lk, (lp1, grind arith, refl)), (refl, lp1), tt), grind arith) in
      one s harts _ w (On 0 0 f k r) refl gd (home_still_row s harts cpu home mover w 0 0 f k r (letter p (s.home f) (KUpgrade f k)) ms (letter (s.home f) p (KNak f k) ∷ []) sim gd lf refl refl (owned_refused p f k (On 0 0 f k r) refl) (grind arith) refl refl ((reply, tt, tt), λ x i c st. inl (sym (changed_refused p f k w.pages (On 0 0 f k r) refl x c))))

  pub upgrade_poison : (s : Setup) (harts : Harts L H) (cpu : ℕ → Cpu L H) (home : ℕ → HomeSide L) (mover : Mover L) (w : World L) (f k p : ℕ) (ms : List (Post L)) →
      Sim s harts (record { cpu = cpu; home = home; mover = mover; flight = letter p (s.home f) (KUpgrade f k) ∷ ms }) w → (home (s.home f)).entry f k ≡ HPoison →
      Goes s harts (record { cpu = cpu; home = put home (s.home f) (home (s.home f)); mover = mover; flight = ms ++ letter (s.home f) p (KPoisonError f k) ∷ [] }) w
  upgrade_poison s harts cpu home mover w f k p ms sim he =
      let pl = sim.flight.0.0 in
      let lf : f < s.frames = pl.0.0 in
      let lk : k < s.blocks = pl.0.1 in
      let ask : (w.block f k).ask p ≡ Upgrade = pl.0.2.1 in
      let lp : p < s.nodes = pl.1.0 in
      let lp1 : p < s.nodes + 1 = omega arith in
      let sh = sim.homes f k lf lk in
      let shown = subst (λ (u : HomeEntry). EntryShows s.nodes u (home_entry_at w f k)) he sh.entry in
      let pp = self_number p in
      let hs = here_self f k in
      let be : (w.block f k).entry ≡ PoisonBy s.nodes = entry_is (is_blank_in w.pages f) (w.block f k).entry (PoisonBy s.nodes) shown (λ x. absurd (cc)) in
      let r : BlockRow L = Upgrade_poison p s.nodes in
      let gd : guard (s.nodes + 1) s.nodes s.pages s.blocks (On 0 0 f k r) w = ((ask, be), lp1, lk, tt) in
      let z : World L = apply (s.nodes + 1) s.nodes (On 0 0 f k r) w in
      let zb = block_here (s.nodes + 1) s.nodes 0 0 f k r w in
      let reply : Placed s z (letter (s.home f) p (KPoisonError f k)) × (touches w.pages (On 0 0 f k r) (AskAt f k p) ≡ true) = (((lf, lk, (lp1, grind arith, refl)), (refl, lp), tt), grind arith) in
      one s harts _ w (On 0 0 f k r) refl gd (home_still_row s harts cpu home mover w 0 0 f k r (letter p (s.home f) (KUpgrade f k)) ms (letter (s.home f) p (KPoisonError f k) ∷ []) sim gd lf refl refl (owned_poison p f k s.nodes (On 0 0 f k r) refl) (grind arith) refl refl ((reply, tt, tt), λ x i c st. inl (sym (changed_poison p f k s.nodes w.pages (On 0 0 f k r) refl x c))))
