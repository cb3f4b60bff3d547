-- A home counts a request and sends the frame's notice; and the whole of a read at its home.
use Rattle.std.proofs.Common.{◌≡◌, ℕ, ◌+◌, ◌<◌, Bool, true, false, cond, nat_eq, arith, ◌≢◌, inr, refl, None, Option, inl, sym, subst, List, [], ◌∷◌, ◌++◌, Some}
use Rattle.std.proofs.lemmas.Bool.Decides.{nat_tests}
use Rattle.og_block.specs.State.{put, Want, Idle, Read, Entry, PoisonBy}
use Rattle.og_block.specs.Rows.{with_sharer}
use Rattle.og_pages.specs.State.{Outstanding}
use Rattle.og_pages.specs.Rows.{Notice_send, is_dead}
use Rattle.og_pages.specs.State.{State as Pages}
use Rattle.og_whole.specs.Kind.{phase_by, is_idle}
use Rattle.og_whole.specs.Events.{World, Event, Page, guard, apply, Runs}
use Rattle.og_whole.specs.HomeEntry.{home_entry_at, home_entry, is_blank_in}
use Rattle.og_whole.specs.Link.{Invariant}
use Rattle.og_whole.proofs.Runs.{reached}
use Rattle.og_whole.proofs.Served.{ask_busy}
use Rattle.og_relate.specs.Data.{KRead, KHot, KExclusiveReply, KInterveneShared, KSpecReply, Post, Setup, IsSetup, Request, Cpu, Mover, HomeSide, HomeEntry, HUnowned, HShared, HExclusive, HBusyShared, HBusyExclusive, HBusyPoison, HPoison, Machine, Harts}
use Rattle.og_relate.specs.Places.{Place, NoticeAt, is_at}
use Rattle.og_relate.specs.Sim.{Sim, HomeShows, EntryShows}
use Rattle.og_relate.specs.Owes.{changes}
use Rattle.og_relate.specs.Goes.{Goes, all_made, made_of}
use Rattle.og_relate.specs.Steps.{letter, with_entry, notice, counted, and_then, serve_read, take_read}
use Rattle.og_relate.proofs.Rows.{reached_on, node_shows, mover_shows}
use Rattle.og_relate.proofs.Messages.{rest_all, messages_go}
use Rattle.og_relate.proofs.Puts.{put_put, put_here}
use Rattle.og_relate.proofs.Home.{entry_here}
use Rattle.og_relate.proofs.Parts.{self_number}
use Rattle.og_relate.proofs.Ack.{asks_here}
use Rattle.og_relate.proofs.Take.{still, append_none, append_both}
use Rattle.og_relate.proofs.Requests.{read_unowned, read_shared, read_by_owner, read_owned, read_poison, read_busy}

-- an entry that a counted answer leaves
abbrev pub is_live : HomeEntry → Bool
is_live HUnowned = false
is_live HPoison = false
is_live (HBusyPoison o) = false
is_live e = true

live_entry : (n : ℕ) (h : HomeEntry) (b : Bool) (e : Entry) → is_live h ≡ true → EntryShows n h (home_entry b e) → (m : ℕ) → e ≢ PoisonBy m
live_entry n h b e l x m y = grind arith

live_phase : (w : Want) (e : Entry) → ((m : ℕ) → e ≢ PoisonBy m) → is_dead (phase_by w e) ≡ false
live_phase w e ne = by w e ne
  where
    by : (w : Want) (e : Entry) → ((m : ℕ) → e ≢ PoisonBy m) → is_dead (phase_by w e) ≡ false
    by Idle (PoisonBy m) ne = absurd (ne m refl)
    by w e ne = grind arith

made_both : {A : Type 0} → (xs ys zs : List A) → (xs ++ ys) ++ zs ≡ xs ++ (ys ++ zs)
made_both [] ys zs = refl
made_both (x ∷ xs) ys zs = let r : (xs ++ ys) ++ zs ≡ xs ++ (ys ++ zs) = made_both xs ys zs in cc

module _ {L : Type 0} where
  changed_notice : (p page f k : ℕ) (s : Pages L) (e : Event L) → e ≡ Page (Notice_send p page f k) → (x : Place) → changes s e x ≡ true → x ≡ NoticeAt f
  changed_notice p page f k s e is x o = grind (arith, nat_tests)

  made_append : (es fs : List (Event L)) → all_made (es ++ fs) ≡ all_made es ++ all_made fs
  made_append [] fs = refl
  made_append (e ∷ es) fs = let r : all_made (es ++ fs) ≡ all_made es ++ all_made fs = made_append es fs in let a : (made_of e ++ all_made es) ++ all_made fs ≡ made_of e ++ (all_made es ++ all_made fs) = made_both (made_of e) (all_made es) (all_made fs) in cc

  runs_append : (n m pages blocks : ℕ) (w x : World L) (es fs : List (Event L)) (z : World L) → Runs n m pages blocks w es x → Runs n m pages blocks x fs z → Runs n m pages blocks w (es ++ fs) z
  runs_append n m pages blocks w x [] fs z a b = subst (λ (y : World L). Runs n m pages blocks y fs z) (sym a) b
  runs_append n m pages blocks w x (e ∷ es) fs z a b = (a.0, runs_append n m pages blocks (apply n m e w) x es fs z a.1 b)

module _ {L : Type 0} {H : Type 0} where
  -- a home side that shows the same
  pub home_still : (s : Setup) (harts : Harts L H) (cpu : ℕ → Cpu L H) (home : ℕ → HomeSide L) (mover : Mover L) (w : World L) (ms : List (Post L)) (a : ℕ) (h : HomeSide L) →
      Sim s harts (record { cpu = cpu; home = home; mover = mover; flight = ms }) w → h.entry ≡ (home a).entry → h.line ≡ (home a).line → h.noticed ≡ (home a).noticed →
      Sim s harts (record { cpu = cpu; home = put home a h; mover = mover; flight = ms }) w
  home_still s harts cpu home mover w ms a h sim e l n = record { reached = sim.reached; nodes = sim.nodes; tidy = sim.tidy; homes = λ f k lf lk. at f k lf lk (nat_eq (s.home f) a) refl; mover = sim.mover; bounds = sim.bounds; keeps = sim.keeps; flight = sim.flight; found = sim.found }
    where
      at : (f k : ℕ) → f < s.frames → k < s.blocks → (t : Bool) → nat_eq (s.home f) a ≡ t → HomeShows s.nodes f k (cond t h (home (s.home f))) w
      at f k lf lk false ne = sim.homes f k lf lk
      at f k lf lk true eq =
          let x = sim.homes f k lf lk in
          let same : s.home f ≡ a = grind (arith, nat_tests) in
          let e2 : (home (s.home f)).entry f k ≡ h.entry f k = cc in
          record { entry = subst (λ (u : HomeEntry). EntryShows s.nodes u (home_entry_at w f k)) e2 x.entry; line = (let y = x.line in cc); noticed = (let y = x.noticed in cc) }

  -- the notice
  pub notice_sent : (s : Setup) (harts : Harts L H) (cpu : ℕ → Cpu L H) (home : ℕ → HomeSide L) (mover : Mover L) (w : World L) (f k p count most : ℕ) (r : Request L) (ms : List (Post L)) →
      Sim s harts (record { cpu = cpu; home = home; mover = mover; flight = ms }) w → f < s.frames → k < s.blocks → p < s.nodes → (cpu p).request ≡ Some r → is_at f k r ≡ true → is_live ((home (s.home f)).entry f k) ≡ true → (home (s.home f)).noticed f ≡ false →
      Goes s harts (record { cpu = cpu; home = put home (s.home f) (record (home (s.home f)) { noticed = put (home (s.home f)).noticed f true }); mover = mover; flight = ms ++ letter (s.home f) s.nodes (KHot f p count most) ∷ [] }) w
  notice_sent s harts cpu home mover w f k p count most r ms sim lf lk lp rq at lv nt =
      let page : ℕ = harts.page (cpu p).hart in
      let e : Event L = Page (Notice_send p page f k) in
      let z : World L = apply (s.nodes + 1) s.nodes e w in
      let ef : r.frame ≡ f = grind (arith, nat_tests) in
      let ek : r.number ≡ k = grind (arith, nat_tests) in
      let sh = sim.homes f k lf lk in
      let ff = self_number f in
      let inv : Invariant L (s.nodes + 1) s.nodes s.pages s.blocks w = reached (s.nodes + 1) s.nodes s.pages s.blocks w sim.reached in
      let g1 : w.pages.request p ≡ Outstanding page f k = (let a = (sim.nodes p lp).request in grind arith) in
      let g2 : is_dead (w.pages.phase f k) ≡ false = (let a = (inv.link f k lk).phase_is in let b = live_phase ((w.block f k).want s.nodes) (w.block f k).entry (live_entry s.nodes ((home (s.home f)).entry f k) (is_blank_in w.pages f) (w.block f k).entry lv sh.entry) in cc) in
      let g3 : w.pages.noticed f ≡ false = (let a = sh.noticed in cc) in
      let gd : guard (s.nodes + 1) s.nodes s.pages s.blocks e w = ((g1, g2, g3), refl) in
      let ls : List (Post L) = letter (s.home f) s.nodes (KHot f p count most) ∷ [] in
      let go = messages_go s cpu cpu mover mover w e ms ms ls gd sim.reached sim.keeps sim.found (λ y. inr (refl, refl)) (rest_all s cpu mover w e ms sim.flight (λ y. refl))
      (((((lf, grind arith, λ x. absurd (cc)), (refl, refl, lp), tt), grind arith), tt, tt), λ x i c st. inl (sym (changed_notice p page f k w.pages e refl x c))) in
      record {
        events = e ∷ [];
        world = z;
        runs = (gd, refl);
        made = refl;
        sim = record {
          reached = reached_on s w e sim.reached gd;
          nodes = λ q lq. node_shows harts q (cpu q) w z (record { copy = λ a b. refl; want = λ a b. refl; acks = λ a b. refl; victim = λ a b. refl; request = refl; slot = refl; tlb = λ y. refl; walk = refl }) (sim.nodes q lq);
          tidy = sim.tidy;
          homes = λ g j lg lj. at_ g j lg lj (nat_eq (s.home g) (s.home f)) refl;
          mover = mover_shows s mover w z (record { job = refl; want = λ a b. refl; acks = λ a b. refl; page_table = λ y. refl; holders = λ a b. refl; role = refl; sharing = λ a b. refl }) sim.mover;
          bounds = sim.bounds;
          keeps = go.0;
          flight = go.1;
          found = go.2;
        };
      }
    where
      at_ : (g j : ℕ) → g < s.frames → j < s.blocks → (t : Bool) → nat_eq (s.home g) (s.home f) ≡ t → HomeShows s.nodes g j (cond t (record (home (s.home f)) { noticed = put (home (s.home f)).noticed f true }) (home (s.home g))) (apply (s.nodes + 1) s.nodes (Page (Notice_send p (harts.page (cpu p).hart) f k)) w)
      at_ g j lg lj false ne = let x = sim.homes g j lg lj in let a : nat_eq g f ≡ false = grind (arith, nat_tests) in record { entry = x.entry; line = x.line; noticed = (let y = x.noticed in grind arith) }
      at_ g j lg lj true eq =
          let x = sim.homes g j lg lj in
          let same : s.home g ≡ s.home f = grind (arith, nat_tests) in
          let e2 : (home (s.home g)).entry g j ≡ (home (s.home f)).entry g j = cc in
          record { entry = subst (λ (u : HomeEntry). EntryShows s.nodes u (home_entry_at w g j)) e2 x.entry; line = (let y = x.line in cc); noticed = (let y = x.noticed in grind (arith, nat_tests)) }

  -- ---- one thing after another

  pub after : (s : Setup) (harts : Harts L H) (m t : Machine L H) (w : World L) → Goes s harts m w → ((z : World L) → Sim s harts m z → Goes s harts t z) → Goes s harts t w
  after s harts m t w g next = let h = next g.world g.sim in record { made = (let a = made_append g.events h.events in let b = g.made in let c = h.made in cc); events = g.events ++ h.events; world = h.world; runs = runs_append (s.nodes + 1) s.nodes s.pages s.blocks w g.world g.events h.events h.world g.runs h.runs; sim = h.sim }

  -- ---- the notice where it is due

  pub notice_goes : (s : Setup) (harts : Harts L H) (cpu : ℕ → Cpu L H) (home : ℕ → HomeSide L) (mover : Mover L) (w : World L) (f k p : ℕ) (r : Request L) (h : HomeSide L) (hot : Option (ℕ × ℕ)) (ms : List (Post L)) →
      Sim s harts (record { cpu = cpu; home = put home (s.home f) h; mover = mover; flight = ms }) w → f < s.frames → k < s.blocks → p < s.nodes → (cpu p).request ≡ Some r → is_at f k r ≡ true → is_live (h.entry f k) ≡ true → (hot ≢ None → h.noticed f ≡ false) →
      Goes s harts (record { cpu = cpu; home = put home (s.home f) (notice s (s.home f) h f p hot).0; mover = mover; flight = ms ++ (notice s (s.home f) h f p hot).1 }) w
  notice_goes s harts cpu home mover w f k p r h None ms sim lf lk lp rq at lv quiet = subst (λ (x : List (Post L)). Goes s harts (record { cpu = cpu; home = put home (s.home f) h; mover = mover; flight = x }) w) (sym (append_none ms)) (still s harts _ w sim)
  notice_goes s harts cpu home mover w f k p r h (Some x) ms sim lf lk lp rq at lv quiet =
      let hh = put_here home (s.home f) h in
      let nt : h.noticed f ≡ false = quiet (λ e. absurd (cc)) in
      at_home (λ d. record d { noticed = put d.noticed f true }) (ms ++ letter (s.home f) s.nodes (KHot f p x.0 x.1) ∷ [])
      (notice_sent s harts cpu (put home (s.home f) h) mover w f k p x.0 x.1 r ms sim lf lk lp rq at (cc) (cc))
    where
      at_home : (g : HomeSide L → HomeSide L) (ls : List (Post L)) → Goes s harts (record { cpu = cpu; home = put (put home (s.home f) h) (s.home f) (g (put home (s.home f) h (s.home f))); mover = mover; flight = ls }) w → Goes s harts (record { cpu = cpu; home = put home (s.home f) (g h); mover = mover; flight = ls }) w
      at_home g ls x = subst (λ (d : HomeSide L). Goes s harts (record { cpu = cpu; home = put home (s.home f) (g d); mover = mover; flight = ls }) w) (put_here home (s.home f) h) (subst (λ (d : ℕ → HomeSide L). Goes s harts (record { cpu = cpu; home = d; mover = mover; flight = ls }) w) (put_put home (s.home f) h (g (put home (s.home f) h (s.home f)))) x)

  -- ---- a read at its home, whole

  request_finds : (s : Setup) (harts : Harts L H) (cpu : ℕ → Cpu L H) (home : ℕ → HomeSide L) (mover : Mover L) (w : World L) (f k p : ℕ) (ms : List (Post L)) →
      Sim s harts (record { cpu = cpu; home = home; mover = mover; flight = letter p (s.home f) (KRead f k) ∷ ms }) w → (r : Request L) × ((cpu p).request ≡ Some r) × (is_at f k r ≡ true)
  request_finds s harts cpu home mover w f k p ms sim =
      let pl = sim.flight.0.0 in
      let lp : p < s.nodes = pl.1.0 in
      let lp1 : p < s.nodes + 1 = omega arith in
      let inv : Invariant L (s.nodes + 1) s.nodes s.pages s.blocks w = reached (s.nodes + 1) s.nodes s.pages s.blocks w sim.reached in
      let ask : (w.block f k).ask p ≡ Read = pl.0.2.1 in
      let b : is_idle ((w.block f k).want p) ≡ false = ask_busy (s.nodes + 1) (w.pages.newest f k) p (w.block f k) ((inv.link f k pl.0.1).invariant.each p lp1) (λ e. absurd (cc)) in
      let v = (sim.nodes p lp).want f k in
      asks_here f k (cpu p).request (λ e. absurd (let a : (w.block f k).want p ≡ Idle = cc in cc))

  pub read_taken : (s : Setup) (harts : Harts L H) (cpu : ℕ → Cpu L H) (home : ℕ → HomeSide L) (mover : Mover L) (w : World L) (f k p : ℕ) (hot : Option (ℕ × ℕ)) (ms : List (Post L)) → IsSetup s →
      Sim s harts (record { cpu = cpu; home = home; mover = mover; flight = letter p (s.home f) (KRead f k) ∷ ms }) w → (hot ≢ None → (home (s.home f)).noticed f ≡ false) →
      Goes s harts (record { cpu = cpu; home = put home (s.home f) (take_read s (s.home f) (home (s.home f)) f k p hot).0; mover = mover; flight = ms ++ (take_read s (s.home f) (home (s.home f)) f k p hot).1 }) w
  read_taken s harts cpu home mover w f k p hot ms setup sim quiet = by ((home (s.home f)).entry f k) refl
    where
      h : HomeSide L
      h = home (s.home f)

      Goal : HomeSide L × List (Post L) → Type 0
      Goal x = Goes s harts (record { cpu = cpu; home = put home (s.home f) x.0; mover = mover; flight = ms ++ x.1 }) w

      noticed : (x : HomeSide L × List (Post L)) → Goal x → is_live (x.0.entry f k) ≡ true → (hot ≢ None → x.0.noticed f ≡ false) → Goal (and_then x (λ d. notice s (s.home f) d f p hot))
      noticed x g lv q =
          let fr = request_finds s harts cpu home mover w f k p ms sim in
          let pl = sim.flight.0.0 in
          subst (λ (y : List (Post L)). Goes s harts (record { cpu = cpu; home = put home (s.home f) (notice s (s.home f) x.0 f p hot).0; mover = mover; flight = y }) w) (append_both ms x.1 (notice s (s.home f) x.0 f p hot).1)
          (after s harts _ _ w g (λ z sz. notice_goes s harts cpu home mover z f k p fr.0 x.0 hot (ms ++ x.1) sz pl.0.0 pl.0.1 pl.1.0 fr.1 fr.2 lv q))

      live_here : (e : HomeEntry) → is_live e ≡ true → is_live ((with_entry h f k e).entry f k) ≡ true
      live_here e l = let a = entry_here h f k e in cc

      by : (e : HomeEntry) → h.entry f k ≡ e → Goal (counted s (s.home f) f p e hot (serve_read s (s.home f) h f k p e))
      by HUnowned e = noticed (serve_read s (s.home f) h f k p HUnowned) (read_unowned s harts cpu home mover w f k p ms setup sim e) (live_here (HExclusive p) refl) quiet
      by (HShared t) e = noticed (serve_read s (s.home f) h f k p (HShared t)) (read_shared s harts cpu home mover w f k p t ms setup sim e) (live_here (HShared (with_sharer s.sharing p t)) refl) quiet
      by (HExclusive q) e = at_ (nat_eq q p) refl
        where
          at_ : (t : Bool) → nat_eq q p ≡ t → Goal (and_then (cond t (h, letter (s.home f) p (KExclusiveReply f k (h.line f k) 0) ∷ []) (with_entry h f k (HBusyShared q p), letter (s.home f) q (KInterveneShared f k p) ∷ letter (s.home f) p (KSpecReply f k (h.line f k)) ∷ [])) (λ d. notice s (s.home f) d f p hot))
          at_ true t = noticed (h, letter (s.home f) p (KExclusiveReply f k (h.line f k) 0) ∷ []) (let same : q ≡ p = grind (arith, nat_tests) in read_by_owner s harts cpu home mover w f k p ms setup sim (cc)) (let a = e in grind arith) quiet
          at_ false t = noticed (with_entry h f k (HBusyShared q p), letter (s.home f) q (KInterveneShared f k p) ∷ letter (s.home f) p (KSpecReply f k (h.line f k)) ∷ []) (read_owned s harts cpu home mover w f k p q ms setup sim e t) (live_here (HBusyShared q p) refl) quiet
      by (HBusyShared a b) e = read_busy s harts cpu home mover w f k p (HBusyShared a b) ms setup sim e refl
      by (HBusyExclusive a b c) e = read_busy s harts cpu home mover w f k p (HBusyExclusive a b c) ms setup sim e refl
      by (HBusyPoison a) e = read_busy s harts cpu home mover w f k p (HBusyPoison a) ms setup sim e refl
      by HPoison e = read_poison s harts cpu home mover w f k p ms setup sim e
