-- A home's rows at the mover's poisoning, and at its re-arming of a frame's notice.
use Rattle.std.proofs.Common.{◌≡◌, ℕ, ◌+◌, ◌<◌, Bool, true, false, cond, nat_eq, arith, ◌≢◌, ◌⊎◌, inl, inr, refl, sym, subst, List, [], ◌∷◌, ◌++◌}
use Rattle.std.proofs.lemmas.Bool.{cases_Bool}
use Rattle.std.proofs.lemmas.Bool.Decides.{nat_tests}
use Rattle.og_slots.specs.Count.{count}
use Rattle.og_block.specs.State.{put, others, PoisonRead, Entry, Unowned, SharedBy, Exclusive, BusyPoison, PoisonBy}
use Rattle.og_block.specs.Rows.{Row as BlockRow, is_busy, Poison_read_unowned, Poison_read_shared, Poison_read_owned, Poison_read_busy}
use Rattle.og_pages.specs.Rows.{Rearm_serve}
use Rattle.og_pages.specs.State.{State as Pages, Rearm}
use Rattle.og_whole.specs.Events.{World, Event, Page, On, guard, apply}
use Rattle.og_whole.specs.HomeEntry.{home_entry_at, is_blank_in}
use Rattle.og_whole.specs.Link.{Invariant}
use Rattle.og_whole.proofs.Runs.{reached}
use Rattle.og_relate.specs.Data.{KPoisonRead, KPoisonReply, KIntervenePoison, KNak, KRearm, Post, Setup, Cpu, Mover, HomeSide, HomeEntry, HUnowned, HShared, HExclusive, HBusyPoison, HPoison, Harts}
use Rattle.og_relate.specs.Places.{Place, AskAt, InterventionAt, NoticeAt, Placed, stands_at}
use Rattle.og_relate.specs.Sides.{owns, touches}
use Rattle.og_relate.specs.Sim.{Sim, HomeShows, EntryShows}
use Rattle.og_relate.specs.Goes.{Goes}
use Rattle.og_relate.specs.Owes.{changes}
use Rattle.og_relate.specs.Steps.{is_busy_home, letter, invalidations, with_entry}
use Rattle.og_relate_home.specs.Steps.{rearm}
use Rattle.og_relate.proofs.Parts.{self_number}
use Rattle.og_relate.proofs.Messages.{rest_one, messages_go}
use Rattle.og_relate.proofs.Requests.{home_still_row}
use Rattle.og_relate.proofs.Rows.{reached_on, node_shows, mover_shows}
use Rattle.og_relate.proofs.Home.{here_self, block_here, entry_is, is_spread, one}
use Rattle.og_relate_home.proofs.Rows.{own_entry, shown_entry, count_nodes, collect_meets, entry_row, spread_row}

busy_shown : (n : ℕ) (h : HomeEntry) (e : Entry) → is_busy_home h ≡ true → EntryShows n h e → is_busy e ≡ true
busy_shown n h e b x = grind arith

module _ {L : Type 0} where
  owned_unowned : (p f k : ℕ) (e : Event L) → e ≡ On 0 0 f k (Poison_read_unowned p) → (x : Place) → owns e x ≡ true → x ≡ AskAt f k p
  owned_unowned p f k e is x o = grind (arith, nat_tests)

  changed_unowned : (p f k : ℕ) (s : Pages L) (e : Event L) → e ≡ On 0 0 f k (Poison_read_unowned p) → (x : Place) → changes s e x ≡ true → x ≡ AskAt f k p
  changed_unowned p f k s e is x o = grind (arith, nat_tests)

  owned_shared : (p f k : ℕ) (u : ℕ → Bool) (e : Event L) → e ≡ On 0 0 f k (Poison_read_shared p u) → (x : Place) → owns e x ≡ true → x ≡ AskAt f k p
  owned_shared p f k u e is x o = grind (arith, nat_tests)

  changed_shared : (p f k : ℕ) (u : ℕ → Bool) (s : Pages L) (e : Event L) → e ≡ On 0 0 f k (Poison_read_shared p u) → (x : Place) → changes s e x ≡ true → is_spread f k p u x ≡ true
  changed_shared p f k u s e is x o = grind (arith, nat_tests)

  owned_owned : (p f k q : ℕ) (e : Event L) → e ≡ On 0 0 f k (Poison_read_owned p q) → (x : Place) → owns e x ≡ true → x ≡ AskAt f k p
  owned_owned p f k q e is x o = grind (arith, nat_tests)

  changed_owned : (p f k q : ℕ) (s : Pages L) (e : Event L) → e ≡ On 0 0 f k (Poison_read_owned p q) → (x : Place) → changes s e x ≡ true → (x ≡ InterventionAt f k q) ⊎ (x ≡ AskAt f k p)
  changed_owned p f k q s e is x o = grind (arith, nat_tests)

  owned_busy : (p f k : ℕ) (e : Event L) → e ≡ On 0 0 f k (Poison_read_busy p) → (x : Place) → owns e x ≡ true → x ≡ AskAt f k p
  owned_busy p f k e is x o = grind (arith, nat_tests)

  changed_busy : (p f k : ℕ) (s : Pages L) (e : Event L) → e ≡ On 0 0 f k (Poison_read_busy p) → (x : Place) → changes s e x ≡ true → x ≡ AskAt f k p
  changed_busy p f k s e is x o = grind (arith, nat_tests)

  owned_rearm : (f : ℕ) (e : Event L) → e ≡ Page (Rearm_serve f) → (x : Place) → owns e x ≡ true → x ≡ NoticeAt f
  owned_rearm f e is x o = grind (arith, nat_tests)

  changed_rearm : (f : ℕ) (s : Pages L) (e : Event L) → e ≡ Page (Rearm_serve f) → (x : Place) → changes s e x ≡ true → x ≡ NoticeAt f
  changed_rearm f s e is x o = grind (arith, nat_tests)

module _ {L : Type 0} {H : Type 0} where
  pub poison_unowned : (s : Setup) (harts : Harts L H) (cpu : ℕ → Cpu L H) (home : ℕ → HomeSide L) (mover : Mover L) (w : World L) (f k : ℕ) (ms : List (Post L)) →
      Sim s harts (record { cpu = cpu; home = home; mover = mover; flight = letter s.nodes (s.home f) (KPoisonRead f k) ∷ ms }) w → (home (s.home f)).entry f k ≡ HUnowned →
      Goes s harts (record { cpu = cpu; home = put home (s.home f) (with_entry (home (s.home f)) f k HPoison); mover = mover; flight = ms ++ letter (s.home f) s.nodes (KPoisonReply f k ((home (s.home f)).line f k) 0) ∷ [] }) w
  poison_unowned s harts cpu home mover w f k ms sim he =
      let pl = sim.flight.0.0 in
      let lf : f < s.frames = pl.0.0 in
      let lk : k < s.blocks = pl.0.1 in
      let ask : (w.block f k).ask s.nodes ≡ PoisonRead = pl.0.2.1 in
      let ln : s.nodes < s.nodes + 1 = omega arith in
      let sh = sim.homes f k lf lk in
      let lines = sh.line in
      let shown = subst (λ (u : HomeEntry). EntryShows s.nodes u (home_entry_at w f k)) he sh.entry in
      let inv : Invariant L (s.nodes + 1) s.nodes s.pages s.blocks w = reached (s.nodes + 1) s.nodes s.pages s.blocks w sim.reached in
      let nn = self_number s.nodes in
      let hs = here_self f k in
      let nb : is_blank_in w.pages f ≡ false = collect_meets (s.nodes + 1) s.nodes s.pages s.blocks w f k inv ln lk (inl ask) in
      let be : (w.block f k).entry ≡ Unowned = own_entry (is_blank_in w.pages f) (w.block f k).entry Unowned nb shown in
      let r : BlockRow L = Poison_read_unowned s.nodes in
      let gd : guard (s.nodes + 1) s.nodes s.pages s.blocks (On 0 0 f k r) w = ((ask, be), ln, lk, tt) in
      let z : World L = apply (s.nodes + 1) s.nodes (On 0 0 f k r) w in
      let zb = block_here (s.nodes + 1) s.nodes 0 0 f k r w in
      let reply : Placed s z (letter (s.home f) s.nodes (KPoisonReply f k ((home (s.home f)).line f k) 0)) × (touches w.pages (On 0 0 f k r) (AskAt f k s.nodes) ≡ true) = (((lf, lk, (ln, grind arith, refl)), (refl, refl), tt), grind arith) in
      one s harts _ w (On 0 0 f k r) refl gd (entry_row s harts cpu home mover w f k r (letter s.nodes (s.home f) (KPoisonRead f k)) HPoison ms (letter (s.home f) s.nodes (KPoisonReply f k ((home (s.home f)).line f k) 0) ∷ []) sim gd lf refl refl (owned_unowned s.nodes f k (On 0 0 f k r) refl) (grind arith)
      (PoisonBy s.nodes) refl (shown_entry (is_blank_in w.pages f) (PoisonBy s.nodes) nb) refl refl ((reply, tt, tt), λ x i c st. inl (sym (changed_unowned s.nodes f k w.pages (On 0 0 f k r) refl x c))))

  pub poison_shared : (s : Setup) (harts : Harts L H) (cpu : ℕ → Cpu L H) (home : ℕ → HomeSide L) (mover : Mover L) (w : World L) (f k : ℕ) (t : ℕ → Bool) (ms : List (Post L)) →
      Sim s harts (record { cpu = cpu; home = home; mover = mover; flight = letter s.nodes (s.home f) (KPoisonRead f k) ∷ ms }) w → (home (s.home f)).entry f k ≡ HShared t →
      Goes s harts (record { cpu = cpu; home = put home (s.home f) (with_entry (home (s.home f)) f k HPoison); mover = mover; flight = ms ++ (invalidations (s.home f) f k s.nodes t s.nodes ++ letter (s.home f) s.nodes (KPoisonReply f k ((home (s.home f)).line f k) (count s.nodes t)) ∷ []) }) w
  poison_shared s harts cpu home mover w f k t ms sim he =
      let sh = sim.homes f k sim.flight.0.0.0.0 sim.flight.0.0.0.1 in
      by (home_entry_at w f k) refl (subst (λ (u : HomeEntry). EntryShows s.nodes u (home_entry_at w f k)) he sh.entry)
    where
      line : L
      line = (home (s.home f)).line f k

      by : (e : Entry) → home_entry_at w f k ≡ e → EntryShows s.nodes (HShared t) e →
          Goes s harts (record { cpu = cpu; home = put home (s.home f) (with_entry (home (s.home f)) f k HPoison); mover = mover; flight = ms ++ (invalidations (s.home f) f k s.nodes t s.nodes ++ letter (s.home f) s.nodes (KPoisonReply f k line (count s.nodes t)) ∷ []) }) w
      by (SharedBy u) eq same =
          let pl = sim.flight.0.0 in
          let lf : f < s.frames = pl.0.0 in
          let lk : k < s.blocks = pl.0.1 in
          let ask : (w.block f k).ask s.nodes ≡ PoisonRead = pl.0.2.1 in
          let ln : s.nodes < s.nodes + 1 = omega arith in
          let lines = (sim.homes f k lf lk).line in
          let inv : Invariant L (s.nodes + 1) s.nodes s.pages s.blocks w = reached (s.nodes + 1) s.nodes s.pages s.blocks w sim.reached in
          let nn = self_number s.nodes in
          let hs = here_self f k in
          let nb : is_blank_in w.pages f ≡ false = collect_meets (s.nodes + 1) s.nodes s.pages s.blocks w f k inv ln lk (inl ask) in
          let be : (w.block f k).entry ≡ SharedBy u = own_entry (is_blank_in w.pages f) (w.block f k).entry (SharedBy u) nb eq in
          let r : BlockRow L = Poison_read_shared s.nodes u in
          let gd : guard (s.nodes + 1) s.nodes s.pages s.blocks (On 0 0 f k r) w = ((ask, be), ln, lk, tt) in
          let z : World L = apply (s.nodes + 1) s.nodes (On 0 0 f k r) w in
          let zb = block_here (s.nodes + 1) s.nodes 0 0 f k r w in
          let cn : count (s.nodes + 1) (others u s.nodes) ≡ count s.nodes t = count_nodes s.nodes (others u s.nodes) t (grind arith) (λ q lt. (let a = same q lt in let ne : nat_eq q s.nodes ≡ false = grind (arith, nat_tests) in grind arith)) in
          spread_row s harts cpu home mover w f k s.nodes t u r (letter s.nodes (s.home f) (KPoisonRead f k)) (letter (s.home f) s.nodes (KPoisonReply f k line (count s.nodes t))) HPoison ms sim gd lf ln refl refl (owned_shared s.nodes f k u (On 0 0 f k r) refl) (grind arith)
          (PoisonBy s.nodes) refl (shown_entry (is_blank_in w.pages f) (PoisonBy s.nodes) nb) refl refl same (grind arith) (λ q o. (grind arith, grind arith)) refl
          ((lf, lk, (ln, grind arith, refl)), (refl, refl), tt) (grind arith) (changed_shared s.nodes f k u w.pages (On 0 0 f k r) refl)
      by e eq x = absurd x

  pub poison_owned : (s : Setup) (harts : Harts L H) (cpu : ℕ → Cpu L H) (home : ℕ → HomeSide L) (mover : Mover L) (w : World L) (f k q : ℕ) (ms : List (Post L)) →
      Sim s harts (record { cpu = cpu; home = home; mover = mover; flight = letter s.nodes (s.home f) (KPoisonRead f k) ∷ ms }) w → (home (s.home f)).entry f k ≡ HExclusive q →
      Goes s harts (record { cpu = cpu; home = put home (s.home f) (with_entry (home (s.home f)) f k (HBusyPoison q)); mover = mover; flight = ms ++ letter (s.home f) q (KIntervenePoison f k) ∷ [] }) w
  poison_owned s harts cpu home mover w f k q ms sim he =
      let pl = sim.flight.0.0 in
      let lf : f < s.frames = pl.0.0 in
      let lk : k < s.blocks = pl.0.1 in
      let ask : (w.block f k).ask s.nodes ≡ PoisonRead = pl.0.2.1 in
      let ln : s.nodes < s.nodes + 1 = omega arith in
      let sh = sim.homes f k lf lk in
      let shown = subst (λ (u : HomeEntry). EntryShows s.nodes u (home_entry_at w f k)) he sh.entry in
      let inv : Invariant L (s.nodes + 1) s.nodes s.pages s.blocks w = reached (s.nodes + 1) s.nodes s.pages s.blocks w sim.reached in
      let nn = self_number s.nodes in
      let hs = here_self f k in
      let nb : is_blank_in w.pages f ≡ false = collect_meets (s.nodes + 1) s.nodes s.pages s.blocks w f k inv ln lk (inl ask) in
      let be : (w.block f k).entry ≡ Exclusive q = own_entry (is_blank_in w.pages f) (w.block f k).entry (Exclusive q) nb shown in
      let lq : q < s.nodes = (let a = (inv.link f k lk).invariant.home.inside in let b = (inv.link f k lk).parts.ends in grind arith) in
      let ne : q ≢ s.nodes = λ e. absurd (omega arith) in
      let qq = self_number q in
      let r : BlockRow L = Poison_read_owned s.nodes q in
      let gd : guard (s.nodes + 1) s.nodes s.pages s.blocks (On 0 0 f k r) w = ((ask, be, ne), ln, lk, tt) in
      let z : World L = apply (s.nodes + 1) s.nodes (On 0 0 f k r) w in
      let zb = block_here (s.nodes + 1) s.nodes 0 0 f k r w in
      let gone : stands_at z (AskAt f k s.nodes) ≡ false = grind arith in
      let asked : Placed s z (letter (s.home f) q (KIntervenePoison f k)) × (touches w.pages (On 0 0 f k r) (InterventionAt f k q) ≡ true) = (((lf, lk, (omega arith, grind arith, λ x. absurd (cc))), (refl, lq), tt), grind arith) in
      one s harts _ w (On 0 0 f k r) refl gd (entry_row s harts cpu home mover w f k r (letter s.nodes (s.home f) (KPoisonRead f k)) (HBusyPoison q) ms (letter (s.home f) q (KIntervenePoison f k) ∷ []) sim gd lf refl refl (owned_owned s.nodes f k q (On 0 0 f k r) refl) (grind arith)
      (BusyPoison q s.nodes) refl (shown_entry (is_blank_in w.pages f) (BusyPoison q s.nodes) nb) refl refl
      ((asked, tt, tt), λ x i c st. elim (changed_owned s.nodes f k q w.pages (On 0 0 f k r) refl x c) [ inl a ↦ inl (sym a) | inr b ↦ absurd (let v : stands_at z (AskAt f k s.nodes) ≡ true = subst (λ u. stands_at z u ≡ true) b st in cc) ]))

  pub poison_busy : (s : Setup) (harts : Harts L H) (cpu : ℕ → Cpu L H) (home : ℕ → HomeSide L) (mover : Mover L) (w : World L) (f k : ℕ) (h : HomeEntry) (ms : List (Post L)) →
      Sim s harts (record { cpu = cpu; home = home; mover = mover; flight = letter s.nodes (s.home f) (KPoisonRead f k) ∷ ms }) w → (home (s.home f)).entry f k ≡ h → is_busy_home h ≡ true →
      Goes s harts (record { cpu = cpu; home = put home (s.home f) (home (s.home f)); mover = mover; flight = ms ++ letter (s.home f) s.nodes (KNak f k) ∷ [] }) w
  poison_busy s harts cpu home mover w f k h ms sim he pre =
      let pl = sim.flight.0.0 in
      let lf : f < s.frames = pl.0.0 in
      let lk : k < s.blocks = pl.0.1 in
      let ask : (w.block f k).ask s.nodes ≡ PoisonRead = pl.0.2.1 in
      let ln : s.nodes < s.nodes + 1 = omega arith in
      let sh = sim.homes f k lf lk in
      let shown = subst (λ (u : HomeEntry). EntryShows s.nodes u (home_entry_at w f k)) he sh.entry in
      let nn = self_number s.nodes in
      let hs = here_self f k in
      let bz : is_busy (home_entry_at w f k) ≡ true = busy_shown s.nodes h (home_entry_at w f k) pre shown in
      let own : (w.block f k).entry ≡ home_entry_at w f k = entry_is (is_blank_in w.pages f) (w.block f k).entry (home_entry_at w f k) refl (λ x. absurd (cc)) in
      let be : is_busy (w.block f k).entry ≡ true = cc in
      let r : BlockRow L = Poison_read_busy s.nodes in
      let gd : guard (s.nodes + 1) s.nodes s.pages s.blocks (On 0 0 f k r) w = ((ask, be), ln, lk, tt) in
      let z : World L = apply (s.nodes + 1) s.nodes (On 0 0 f k r) w in
      let zb = block_here (s.nodes + 1) s.nodes 0 0 f k r w in
      let reply : Placed s z (letter (s.home f) s.nodes (KNak f k)) × (touches w.pages (On 0 0 f k r) (AskAt f k s.nodes) ≡ true) = (((lf, lk, (ln, grind arith, refl)), (refl, ln), tt), grind arith) in
      one s harts _ w (On 0 0 f k r) refl gd (home_still_row s harts cpu home mover w 0 0 f k r (letter s.nodes (s.home f) (KPoisonRead f k)) ms (letter (s.home f) s.nodes (KNak f k) ∷ []) sim gd lf refl refl (owned_busy s.nodes f k (On 0 0 f k r) refl) (grind arith) refl refl ((reply, tt, tt), λ x i c st. inl (sym (changed_busy s.nodes f k w.pages (On 0 0 f k r) refl x c))))

  -- ---- a frame's notice may go again

  pub rearmed : (s : Setup) (harts : Harts L H) (cpu : ℕ → Cpu L H) (home : ℕ → HomeSide L) (mover : Mover L) (w : World L) (f : ℕ) (ms : List (Post L)) →
      Sim s harts (record { cpu = cpu; home = home; mover = mover; flight = letter s.nodes (s.home f) (KRearm f) ∷ ms }) w →
      Goes s harts (record { cpu = cpu; home = put home (s.home f) (rearm (home (s.home f)) f); mover = mover; flight = ms ++ [] }) w
  rearmed s harts cpu home mover w f ms sim =
      let pl = sim.flight.0.0 in
      let ff = self_number f in
      let sent : w.pages.notice f ≡ Rearm = pl.0.1 in
      let gd : guard (s.nodes + 1) s.nodes s.pages s.blocks e w = (sent, refl) in
      let gone : stands_at z (NoticeAt f) ≡ false = grind arith in
      let go = messages_go s cpu cpu mover mover w e (letter s.nodes (s.home f) (KRearm f) ∷ ms) ms [] gd sim.reached sim.keeps sim.found
      (λ y. elim (cases_Bool (owns e y)) [ inl t ↦ inl ((let v = owned_rearm f e refl y t in cc), t) | inr t ↦ inr (refl, t) ])
      (rest_one s cpu mover w e (letter s.nodes (s.home f) (KRearm f)) ms sim.flight (owned_rearm f e refl) (grind arith))
      (tt, λ x i c st. absurd (let v : stands_at z (NoticeAt f) ≡ true = subst (λ u. stands_at z u ≡ true) (changed_rearm f w.pages e refl x c) st in cc)) in
      one s harts _ w e refl gd (record {
        reached = reached_on s w e sim.reached gd;
        nodes = λ q lq. node_shows harts q (cpu q) w z (record { copy = λ a b. refl; want = λ a b. refl; acks = λ a b. refl; victim = λ a b. refl; request = refl; slot = refl; tlb = λ y. refl; walk = refl }) (sim.nodes q lq);
        tidy = sim.tidy;
        homes = λ g j lg lj. at g j lg lj (nat_eq (s.home g) (s.home f)) refl;
        mover = mover_shows s mover w z (record { job = refl; want = λ a b. refl; acks = λ a b. refl; page_table = λ y. refl; holders = λ a b. refl; role = refl; sharing = λ a b. refl }) sim.mover;
        bounds = sim.bounds;
        keeps = go.0;
        flight = go.1;
        found = go.2;
      })
    where
      e : Event L
      e = Page (Rearm_serve f)

      z : World L
      z = apply (s.nodes + 1) s.nodes e w

      at : (g j : ℕ) → g < s.frames → j < s.blocks → (t : Bool) → nat_eq (s.home g) (s.home f) ≡ t → HomeShows s.nodes g j (cond t (rearm (home (s.home f)) f) (home (s.home g))) z
      at g j lg lj false ne = let x = sim.homes g j lg lj in let a : nat_eq g f ≡ false = grind (arith, nat_tests) in record { entry = x.entry; line = x.line; noticed = (let y = x.noticed in grind arith) }
      at g j lg lj true eq =
          let x = sim.homes g j lg lj in
          let same : s.home g ≡ s.home f = grind (arith, nat_tests) in
          let e2 : (home (s.home g)).entry g j ≡ (home (s.home f)).entry g j = cc in
          record { entry = subst (λ (u : HomeEntry). EntryShows s.nodes u (home_entry_at w g j)) e2 x.entry; line = (let y = x.line in cc); noticed = (let y = x.noticed in grind (arith, nat_tests)) }
