-- The mover's rows.
use Rattle.std.proofs.Common.{◌≡◌, ℕ, zero, suc, ◌+◌, ◌<◌, Bool, true, false, cond, nat_eq, arith, ◌≢◌, inl, inr, refl, subst, Some, None, Option, sym, List, [], ◌∷◌, ◌++◌}
use Rattle.std.proofs.lemmas.Bool.{cases_Bool}
use Rattle.std.proofs.lemmas.Bool.Decides.{nat_tests}
use Rattle.og_slots.specs.Count.{count}
use Rattle.og_slots.proofs.Count.{none_counted}
use Rattle.og_slots.specs.Flight.{Fits, Apart}
use Rattle.og_slots.proofs.Flight.{fits_append}
use Rattle.og_pages.specs.State.{Role, Quarantined, Idle as JobIdle, Tell, Gather}
use Rattle.og_pages.specs.Rows.{Notice_refuse, Reclaim_begin, Drop_send_all, Gather_end}
use Rattle.og_pages.specs.State.{State as Pages}
use Rattle.og_whole.specs.Events.{World, Event, Page, guard, apply}
use Rattle.og_relate.specs.Data.{KHot, KRearm, KDropFrame, Post, Setup, Cpu, Mover, MIdle, MTell, MGather, MClean, Left, HomeSide, Harts}
use Rattle.og_relate.specs.Places.{Place, AskAt, ResponseAt, InterventionAt, NoticeAt, DropAt, Inside, slot_of, Placed, Has, kept, kept_collect}
use Rattle.og_relate.specs.Sides.{owns, touches, NodeSame, HomeSame}
use Rattle.og_relate.specs.Sim.{Sim, MoverShows, JobTidy, MoverTidy, role_of}
use Rattle.og_relate.specs.Owes.{changes, Letters, Rest}
use Rattle.og_relate.specs.Goes.{Goes, FewerAt, Fewer}
use Rattle.og_relate.specs.Steps.{letter}
use Rattle.og_relate.specs.MoverSteps.{reclaim, refuse_full, drops, tell}
use Rattle.og_relate.proofs.Rows.{reached_on, home_shows, node_shows, mover_shows}
use Rattle.og_relate.proofs.Fewer.{fewer_none}
use Rattle.og_relate.proofs.Messages.{has_left, has_right, rest_one, rest_all, messages_go}
use Rattle.og_relate.proofs.Parts.{self_number}
use Rattle.og_relate.proofs.Take.{still, then, without_end}

-- to all holders
drops_apart : (K : Type 0) → (n : ℕ) (x : Place) (f : ℕ) (h : ℕ → Bool) (i : ℕ) → ((q : ℕ) → q < i → DropAt q ≢ x) → Apart (slot_of {L = K} n) x (drops n f h i)
drops_apart K n x f h zero ne = tt
drops_apart K n x f h (suc i) ne = both (drops n f h i) (cond (h i) (letter n i (KDropFrame f) ∷ []) []) (drops_apart K n x f h i (λ q lt. ne q (omega arith))) (last (h i))
  where
    both : (ms xs : List (Post K)) → Apart (slot_of n) x ms → Apart (slot_of n) x xs → Apart (slot_of n) x (ms ++ xs)
    both [] xs a b = b
    both (m ∷ ms) xs a b = (a.0, both ms xs a.1 b)

    last : (b : Bool) → Apart (slot_of {L = K} n) x (cond b (letter n i (KDropFrame f) ∷ []) [])
    last true = (ne i (omega arith), tt)
    last false = tt

-- a drop that goes to a holder is among them
drops_has : (K : Type 0) → (n f : ℕ) (h : ℕ → Bool) (i q : ℕ) → q < i → h q ≡ true → Has {L = K} n (drops n f h i) (DropAt q)
drops_has K n f h zero q lt o = absurd (omega arith)
drops_has K n f h (suc i) q lt o = by (nat_eq q i) refl (λ lower. drops_has K n f h i q lower o)
  where
    last : (b : Bool) → b ≡ true → q ≡ i → Has {L = K} n (cond b (letter n i (KDropFrame f) ∷ []) []) (DropAt q)
    last true b e = inl (cc)
    last false b e = absurd (cc)

    by : (b : Bool) → nat_eq q i ≡ b → (q < i → Has {L = K} n (drops n f h i) (DropAt q)) → Has {L = K} n (drops n f h (suc i)) (DropAt q)
    by true b rest = let e : q ≡ i = grind (arith, nat_tests) in has_right n (drops n f h i) (cond (h i) (letter n i (KDropFrame f) ∷ []) []) (DropAt q) (last (h i) (cc) e)
    by false b rest = let ne : q ≢ i = grind (arith, nat_tests) in has_left n (drops n f h i) (cond (h i) (letter n i (KDropFrame f) ∷ []) []) (DropAt q) (rest (omega arith))

abbrev pub is_told : (ℕ → Bool) → Place → Bool
is_told h (DropAt q) = h q
is_told h x = false

drops_reach : (K : Type 0) → (s : Setup) (f : ℕ) (h : ℕ → Bool) (x : Place) → Inside s x → is_told h x ≡ true → Has {L = K} s.nodes (drops s.nodes f h s.nodes) x
drops_reach K s f h (DropAt q) i t = drops_has K s.nodes f h s.nodes q i t
drops_reach K s f h x i t = absurd (cc)

quarantined : (u : Role) → role_of u ≡ Left → (y : ℕ) × (u ≡ Quarantined y)
quarantined (Quarantined y) e = (y, refl)
quarantined u e = absurd (grind arith)

module _ {L : Type 0} where
  changed_refuse : (f : ℕ) (s : Pages L) (e : Event L) → e ≡ Page (Notice_refuse f) → (x : Place) → changes s e x ≡ true → x ≡ NoticeAt f
  changed_refuse f s e is x o = grind (arith, nat_tests)

  changed_tell : (f : ℕ) (g h : ℕ → Bool) → ((q : ℕ) → g q ≡ h q) → (s : Pages L) → s.holder f ≡ g → (e : Event L) → e ≡ Page (Drop_send_all f) → (x : Place) → changes s e x ≡ true → is_told h x ≡ true
  changed_tell f g h same s sg e is (DropAt q) o = let a = same q in cc
  changed_tell f g h same s sg e is x o = absurd (grind arith)

  drops_fit : (n : ℕ) (P : Post L → Type 0) (f : ℕ) (h : ℕ → Bool) (i : ℕ) → ((q : ℕ) → q < i → h q ≡ true → P (letter n q (KDropFrame f))) → Fits (slot_of n) P (drops n f h i)
  drops_fit n P f h zero p = tt
  drops_fit n P f h (suc i) p = last (h i) refl (drops_fit n P f h i (λ q lt o. p q (omega arith) o))
    where
      last : (b : Bool) → h i ≡ b → Fits (slot_of n) P (drops n f h i) → Fits (slot_of n) P (drops n f h i ++ cond b (letter n i (KDropFrame f) ∷ []) [])
      last true o before = fits_append (slot_of n) P (drops n f h i) (letter n i (KDropFrame f) ∷ []) before (p i (omega arith) o, tt, tt) (drops_apart L n (DropAt i) f h i (λ q lt e. (let x : q ≡ i = grind arith in absurd (omega arith))), tt)
      last false o before = fits_append (slot_of n) P (drops n f h i) [] before tt tt

module _ {L : Type 0} {H : Type 0} where
  -- what the mover keeps, where its job has the same parts
  kept_as : (n : ℕ) (cpu : ℕ → Cpu L H) (mover m : Mover L) (owned : Place → Bool) → ((y : Place) → owned y ≡ false) → ((f k : ℕ) → kept_collect f k n m.job ≡ kept_collect f k n mover.job) → Fewer (kept n cpu m) (kept n cpu mover) owned
  kept_as n cpu mover m owned o c = by
    where
      by : (x : Place) → FewerAt (kept n cpu m x) (kept n cpu mover x) (owned x)
      by (AskAt f k q) = elim (cases_Bool (nat_eq q n)) [ inl t ↦ (let e : q ≡ n = grind (arith, nat_tests) in let d = c f k in inr ((cc), o (AskAt f k q))) | inr t ↦ inr ((cc), o (AskAt f k q)) ]
      by (ResponseAt f k q) = inr (refl, o (ResponseAt f k q))
      by (InterventionAt f k q) = inr (refl, o (InterventionAt f k q))
      by (DropAt q) = inr (refl, o (DropAt q))
      by x = fewer_none (owned x)

  pub mover_row : (s : Setup) (harts : Harts L H) (cpu : ℕ → Cpu L H) (home : ℕ → HomeSide L) (mover : Mover L) (flight : List (Post L)) (w : World L) (e : Event L) (m : Mover L) (ms ls : List (Post L)) →
      Sim s harts (record { cpu = cpu; home = home; mover = mover; flight = flight }) w → guard (s.nodes + 1) s.nodes s.pages s.blocks e w →
      ((q : ℕ) → q < s.nodes → NodeSame q w (apply (s.nodes + 1) s.nodes e w)) → ((f k : ℕ) → HomeSame f k w (apply (s.nodes + 1) s.nodes e w)) → MoverShows s m (apply (s.nodes + 1) s.nodes e w) → MoverTidy s m →
      Fewer (kept s.nodes cpu m) (kept s.nodes cpu mover) (owns e) →
      Rest s cpu mover w e flight ms →
      Letters s w e ls →
      Sim s harts (record { cpu = cpu; home = home; mover = m; flight = ms ++ ls }) (apply (s.nodes + 1) s.nodes e w)
  mover_row s harts cpu home mover flight w e m ms ls sim gd ns hs mv td fewer fms fls =
      let z : World L = apply (s.nodes + 1) s.nodes e w in
      let go = messages_go s cpu cpu mover m w e flight ms ls gd sim.reached sim.keeps sim.found fewer fms fls in
      record {
        reached = reached_on s w e sim.reached gd;
        nodes = λ q lt. node_shows harts q (cpu q) w z (ns q lt) (sim.nodes q lt);
        tidy = sim.tidy;
        homes = λ f k lf lk. home_shows s.nodes f k (home (s.home f)) w z (hs f k) (sim.homes f k lf lk);
        mover = mv;
        bounds = td;
        keeps = go.0;
        flight = go.1;
        found = go.2;
      }

  -- ---- a notice is refused
  pub refused : (s : Setup) (harts : Harts L H) (cpu : ℕ → Cpu L H) (home : ℕ → HomeSide L) (mover : Mover L) (w : World L) (a f node count most : ℕ) (ms : List (Post L)) →
      Sim s harts (record { cpu = cpu; home = home; mover = mover; flight = letter a s.nodes (KHot f node count most) ∷ ms }) w →
      guard (s.nodes + 1) s.nodes s.pages s.blocks (Page (Notice_refuse f)) w × Sim s harts (record { cpu = cpu; home = home; mover = mover; flight = ms ++ letter s.nodes (s.home f) (KRearm f) ∷ [] }) (apply (s.nodes + 1) s.nodes (Page (Notice_refuse f)) w)
  refused s harts cpu home mover w a f node count most ms sim =
      let e : Event L = Page (Notice_refuse f) in
      let z : World L = apply (s.nodes + 1) s.nodes e w in
      let pl = sim.flight.0.0.0 in
      let ff = self_number f in
      let gd : guard (s.nodes + 1) s.nodes s.pages s.blocks e w = (pl.1, refl) in (
        gd,
        mover_row s harts cpu home mover (letter a s.nodes (KHot f node count most) ∷ ms) w e mover ms (letter s.nodes (s.home f) (KRearm f) ∷ []) sim gd
            (λ q lq. record { copy = λ a b. refl; want = λ a b. refl; acks = λ a b. refl; victim = λ a b. refl; request = refl; slot = refl; tlb = λ y. refl; walk = refl })
            (λ g j. record { entry = refl; line = refl; noticed = refl })
            (mover_shows s mover w z (record { job = refl; want = λ a b. refl; acks = λ a b. refl; page_table = λ y. refl; holders = λ a b. refl; role = refl; sharing = λ a b. refl }) sim.mover) sim.bounds
            (λ y. elim (cases_Bool (owns e y)) [ inl t ↦ inl ((let v : y ≡ NoticeAt f = grind (arith, nat_tests) in cc), t) | inr t ↦ inr (refl, t) ])
            (rest_one s cpu mover w e (letter a s.nodes (KHot f node count most)) ms sim.flight (λ y o. grind (arith, nat_tests)) (grind (arith, nat_tests)))
            (((((pl.0, grind arith, λ x. absurd (cc)), (refl, refl), tt), grind arith), tt, tt), λ x i c st. inl (sym (changed_refuse f w.pages e refl x c))),
      )

  -- ---- a reclaim begins
  pub reclaimed : (s : Setup) (harts : Harts L H) (cpu : ℕ → Cpu L H) (home : ℕ → HomeSide L) (mover : Mover L) (w : World L) (old : Option ℕ) (ms : List (Post L)) →
      Sim s harts (record { cpu = cpu; home = home; mover = mover; flight = ms }) w → mover.job ≡ MIdle → ((f : ℕ) → old ≡ Some f → mover.role f ≡ Left) → ((f : ℕ) → old ≡ Some f → f < s.frames) →
      Goes s harts (record { cpu = cpu; home = home; mover = (reclaim old mover).0; flight = ms }) w
  reclaimed s harts cpu home mover w None ms sim idle left inside = still s harts _ w sim
  reclaimed s harts cpu home mover w (Some f) ms sim idle left inside =
      let ro = sim.mover.role f in
      let lf = left f refl in
      let ff = self_number f in
      let qu : role_of (w.pages.role f) ≡ Left = cc in
      let y = quarantined (w.pages.role f) qu in
      let jb : w.pages.job ≡ JobIdle = (let a = sim.mover.job in grind arith) in
      let ev : Event L = Page (Reclaim_begin f y.0) in
      let z : World L = apply (s.nodes + 1) s.nodes ev w in
      let gd : guard (s.nodes + 1) s.nodes s.pages s.blocks ev w = ((jb, y.1), refl) in
      let m : Mover L = record mover { job = MTell f } in
      let mv = sim.mover in
      record {
        events = ev ∷ [];
        world = z;
        runs = (gd, refl);
        made = refl;
        sim = without_end s harts cpu home m z ms (mover_row s harts cpu home mover ms w ev m ms [] sim gd
            (λ q lq. record { copy = λ a b. refl; want = λ a b. refl; acks = λ a b. refl; victim = λ a b. refl; request = refl; slot = refl; tlb = λ y. refl; walk = refl })
            (λ g j. record { entry = (grind arith); line = refl; noticed = refl })
            (record { job = refl; want = λ g j. (let a = mv.want g j in grind arith); acks = λ g j. (let a = mv.acks g j in grind arith); page_table = mv.page_table; holders = mv.holders; role = mv.role; sharing = mv.sharing; holder_is = mv.holder_is }) (record { job = inside f refl; table = sim.bounds.table })
            (kept_as s.nodes cpu mover m (owns ev) (λ y. refl) (λ a b. grind arith))
            (rest_all s cpu mover w ev ms sim.flight (λ y. refl))
            (tt, λ x i c st. absurd (cc)));
      }

  pub hot_refused : (s : Setup) (harts : Harts L H) (cpu : ℕ → Cpu L H) (home : ℕ → HomeSide L) (mover : Mover L) (w : World L) (a f node count most : ℕ) (old : Option ℕ) (ms : List (Post L)) →
      Sim s harts (record { cpu = cpu; home = home; mover = mover; flight = letter a s.nodes (KHot f node count most) ∷ ms }) w → mover.job ≡ MIdle → ((g : ℕ) → old ≡ Some g → mover.role g ≡ Left) → ((g : ℕ) → old ≡ Some g → g < s.frames) →
      Goes s harts (record { cpu = cpu; home = home; mover = (refuse_full s f old mover).0; flight = ms ++ (refuse_full s f old mover).1 }) w
  hot_refused s harts cpu home mover w a f node count most old ms sim idle left inside =
      by old left inside x.1
    where
      x : guard (s.nodes + 1) s.nodes s.pages s.blocks (Page (Notice_refuse f)) w × Sim s harts (record { cpu = cpu; home = home; mover = mover; flight = ms ++ letter s.nodes (s.home f) (KRearm f) ∷ [] }) (apply (s.nodes + 1) s.nodes (Page (Notice_refuse f)) w)
      x = refused s harts cpu home mover w a f node count most ms sim

      by : (o : Option ℕ) → ((g : ℕ) → o ≡ Some g → mover.role g ≡ Left) → ((g : ℕ) → o ≡ Some g → g < s.frames) → Sim s harts (record { cpu = cpu; home = home; mover = mover; flight = ms ++ letter s.nodes (s.home f) (KRearm f) ∷ [] }) (apply (s.nodes + 1) s.nodes (Page (Notice_refuse f)) w) → Goes s harts (record { cpu = cpu; home = home; mover = (refuse_full s f o mover).0; flight = ms ++ (refuse_full s f o mover).1 }) w
      by None l i sm = then s harts _ w (Page (Notice_refuse f)) [] [] refl x.0 (reclaimed s harts cpu home mover (apply (s.nodes + 1) s.nodes (Page (Notice_refuse f)) w) None (ms ++ letter s.nodes (s.home f) (KRearm f) ∷ []) sm idle l i)
      by (Some g) l i sm = then s harts _ w (Page (Notice_refuse f)) [] [] refl x.0 (reclaimed s harts cpu home mover (apply (s.nodes + 1) s.nodes (Page (Notice_refuse f)) w) (Some g) (ms ++ letter s.nodes (s.home f) (KRearm f) ∷ []) sm idle l i)

  -- ---- all holders are told

  pub told : (s : Setup) (harts : Harts L H) (cpu : ℕ → Cpu L H) (home : ℕ → HomeSide L) (mover : Mover L) (w : World L) (f : ℕ) (ms : List (Post L)) →
      Sim s harts (record { cpu = cpu; home = home; mover = mover; flight = ms }) w → mover.job ≡ MTell f →
      guard (s.nodes + 1) s.nodes s.pages s.blocks (Page (Drop_send_all f)) w × Sim s harts (record { cpu = cpu; home = home; mover = record mover { job = MGather f }; flight = ms ++ drops s.nodes f (mover.holders f) s.nodes }) (apply (s.nodes + 1) s.nodes (Page (Drop_send_all f)) w)
  told s harts cpu home mover w f ms sim jb =
      let e : Event L = Page (Drop_send_all f) in
      let z : World L = apply (s.nodes + 1) s.nodes e w in
      let mv = sim.mover in
      let gj : w.pages.job ≡ Tell f = (let a = mv.job in grind arith) in
      let gd : guard (s.nodes + 1) s.nodes s.pages s.blocks e w = (gj, refl) in
      let m : Mover L = record mover { job = MGather f } in (
        gd,
        mover_row s harts cpu home mover ms w e m ms (drops s.nodes f (mover.holders f) s.nodes) sim gd
            (λ q lq. record { copy = λ a b. refl; want = λ a b. refl; acks = λ a b. refl; victim = λ a b. refl; request = refl; slot = refl; tlb = λ y. refl; walk = refl })
            (λ g j. record { entry = (grind arith); line = refl; noticed = refl })
            (record { job = refl; want = λ g j. (let a = mv.want g j in grind arith); acks = λ g j. (let a = mv.acks g j in grind arith); page_table = mv.page_table; holders = mv.holders; role = mv.role; sharing = mv.sharing; holder_is = mv.holder_is }) (record { job = (let b = sim.bounds.job in subst (λ u. JobTidy s u) jb b); table = sim.bounds.table })
            (kept_as s.nodes cpu mover m (owns e) (λ y. refl) (λ a b. grind arith))
            (rest_all s cpu mover w e ms sim.flight (λ y. refl)) (
              (drops_fit s.nodes (λ x. Placed s z x × (touches w.pages e (slot_of s.nodes x) ≡ true)) f (mover.holders f) s.nodes
                  (λ q lq h. (let a = mv.holders f q in (((lq, grind arith, λ x. absurd (cc)), (refl, lq, (let b = sim.bounds.job in subst (λ u. JobTidy s u) jb b)), tt), cc)))),
              λ x i c st. drops_reach L s f (mover.holders f) x i (changed_tell f (w.pages.holder f) (mover.holders f) (mv.holders f) w.pages refl e refl x c),
            ),
      )

  pub gathered : (s : Setup) (harts : Harts L H) (cpu : ℕ → Cpu L H) (home : ℕ → HomeSide L) (mover : Mover L) (w : World L) (f : ℕ) (ms : List (Post L)) →
      Sim s harts (record { cpu = cpu; home = home; mover = record mover { job = MGather f }; flight = ms }) w → ((q : ℕ) → mover.holders f q ≡ false) →
      Goes s harts (record { cpu = cpu; home = home; mover = record mover { job = MClean f }; flight = ms }) w
  gathered s harts cpu home mover w f ms sim none =
      let e : Event L = Page (Gather_end f) in
      let z : World L = apply (s.nodes + 1) s.nodes e w in
      let mv = sim.mover in
      let gj : w.pages.job ≡ Gather f = mv.job in
      let gd : guard (s.nodes + 1) s.nodes s.pages s.blocks e w = ((gj, λ q. (let a = mv.holders f q in let b = none q in cc)), refl) in
      let m : Mover L = record mover { job = MClean f } in
      record {
        events = e ∷ [];
        world = z;
        runs = (gd, refl);
        made = refl;
        sim = without_end s harts cpu home m z ms (mover_row s harts cpu home (record mover { job = MGather f }) ms w e m ms [] sim gd
            (λ q lq. record { copy = λ a b. refl; want = λ a b. refl; acks = λ a b. refl; victim = λ a b. refl; request = refl; slot = refl; tlb = λ y. refl; walk = refl })
            (λ g j. record { entry = (grind arith); line = refl; noticed = refl })
            (record { job = refl; want = λ g j. (let a = mv.want g j in grind arith); acks = λ g j. (let a = mv.acks g j in grind arith); page_table = mv.page_table; holders = mv.holders; role = mv.role; sharing = mv.sharing; holder_is = mv.holder_is }) (record { job = sim.bounds.job; table = sim.bounds.table })
            (kept_as s.nodes cpu (record mover { job = MGather f }) m (owns e) (λ y. refl) (λ a b. refl))
            (rest_all s cpu (record mover { job = MGather f }) w e ms sim.flight (λ y. refl))
            (tt, λ x i c st. absurd (cc)));
      }

  pub tell_goes : (s : Setup) (harts : Harts L H) (cpu : ℕ → Cpu L H) (home : ℕ → HomeSide L) (mover : Mover L) (w : World L) (f : ℕ) (ms : List (Post L)) →
      Sim s harts (record { cpu = cpu; home = home; mover = mover; flight = ms }) w → mover.job ≡ MTell f →
      Goes s harts (record { cpu = cpu; home = home; mover = (tell s f mover).0; flight = ms ++ (tell s f mover).1 }) w
  tell_goes s harts cpu home mover w f ms sim jb = by (nat_eq (count s.nodes (mover.holders f)) 0) refl
    where
      x : guard (s.nodes + 1) s.nodes s.pages s.blocks (Page (Drop_send_all f)) w × Sim s harts (record { cpu = cpu; home = home; mover = record mover { job = MGather f }; flight = ms ++ drops s.nodes f (mover.holders f) s.nodes }) (apply (s.nodes + 1) s.nodes (Page (Drop_send_all f)) w)
      x = told s harts cpu home mover w f ms sim jb

      none : count s.nodes (mover.holders f) ≡ 0 → (q : ℕ) → mover.holders f q ≡ false
      none c q = elim (cases_Bool (mover.holders f q)) [ inl t ↦ (let lq = sim.mover.holder_is f q t in none_counted s.nodes (mover.holders f) q c lq) | inr t ↦ t ]

      by : (t : Bool) → nat_eq (count s.nodes (mover.holders f)) 0 ≡ t → Goes s harts (record { cpu = cpu; home = home; mover = record mover { job = cond t (MClean f) (MGather f) }; flight = ms ++ drops s.nodes f (mover.holders f) s.nodes }) w
      by true t = then s harts _ w (Page (Drop_send_all f)) [] [] refl x.0 (gathered s harts cpu home mover (apply (s.nodes + 1) s.nodes (Page (Drop_send_all f)) w) f (ms ++ drops s.nodes f (mover.holders f) s.nodes) x.1 (none (grind (arith, nat_tests))))
      by false t = then s harts _ w (Page (Drop_send_all f)) [] [] refl x.0 (still s harts _ (apply (s.nodes + 1) s.nodes (Page (Drop_send_all f)) w) x.1)
