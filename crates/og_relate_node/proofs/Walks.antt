-- A node takes the answer to its walk, or a drop request.
use Rattle.std.proofs.Common.{◌≡◌, ℕ, ◌+◌, ◌<◌, true, nat_eq, arith, inl, inr, refl, subst, List, [], ◌∷◌, ◌++◌, Option, None, Some}
use Rattle.std.proofs.lemmas.Bool.{cases_Bool}
use Rattle.std.proofs.lemmas.Bool.Decides.{nat_tests}
use Rattle.og_block.specs.State.{put}
use Rattle.og_pages.specs.State.{State as Pages, To, NoEntry, Walk, Walked, WalkRetry}
use Rattle.og_pages.specs.Rows.{Walk_fill, Walk_retry, Tlb_forget}
use Rattle.og_whole.specs.Events.{World, Event, Page, guard, apply}
use Rattle.og_relate.specs.Data.{KWalked, KWalkRetry, KDropFrame, Post, Setup, Cpu, Mover, HomeSide, Harts}
use Rattle.og_relate.specs.Places.{Place, WalkAt, stands_at, kept_drop}
use Rattle.og_relate.specs.Sides.{owns, touches}
use Rattle.og_relate.specs.Sim.{Sim, NodeShows, WalkShows}
use Rattle.og_relate.specs.Owes.{changes}
use Rattle.og_relate.specs.Steps.{letter}
use Rattle.og_relate.specs.Node.{hold_drop}
use Rattle.og_relate.proofs.Fewer.{fewer_node}
use Rattle.og_relate.proofs.Messages.{or_left, rest_all}
use Rattle.og_relate.proofs.Parts.{self_number, apart_number, drop_held}
use Rattle.og_relate.proofs.Rows.{cpu_row}
use Rattle.og_relate.proofs.Take.{At, GoesAt, focus, then, drop_goes, without_end}
use Rattle.og_relate_node.specs.Steps.{take_walked, take_retry, take_drop}
use Rattle.og_relate_node.proofs.TakenRows.{taken_event}

-- a walk that is answered is the node's
walk_is : (o : Option ℕ) (v : Walk) (y f : ℕ) → WalkShows o v → v ≡ Walked y f → o ≡ Some y
walk_is None v y f s e = absurd (cc)
walk_is (Some u) v y f s e = let t : WalkShows (Some u) (Walked y f) = subst (λ (v : Walk). WalkShows (Some u) v) e s in cc

retry_is : (o : Option ℕ) (v : Walk) (y : ℕ) → WalkShows o v → v ≡ WalkRetry y → o ≡ Some y
retry_is None v y s e = absurd (cc)
retry_is (Some u) v y s e = let t : WalkShows (Some u) (WalkRetry y) = subst (λ (v : Walk). WalkShows (Some u) v) e s in cc

no_drop : (K : Type 0) → (q : ℕ) (o : Option ℕ) → kept_drop {L = K} q o ≡ None → o ≡ None
no_drop K q None e = refl
no_drop K q (Some f) e = absurd (cc)

module _ {L : Type 0} where
  changed_filled : (p y f : ℕ) (s : Pages L) (e : Event L) → e ≡ Page (Walk_fill p y f) → (x : Place) → changes s e x ≡ true → x ≡ WalkAt p
  changed_filled p y f s e is x o = grind (arith, nat_tests)

  changed_retried : (p y : ℕ) (s : Pages L) (e : Event L) → e ≡ Page (Walk_retry p y) → (x : Place) → changes s e x ≡ true → x ≡ WalkAt p
  changed_retried p y s e is x o = grind (arith, nat_tests)

module _ {L : Type 0} {H : Type 0} where
  abbrev without : Cpu L H → ℕ → Cpu L H
  without c y = record c { tlb = put c.tlb y NoEntry }

  -- a translation is dropped
  page_left : (s : Setup) (harts : Harts L H) (cpu : ℕ → Cpu L H) (home : ℕ → HomeSide L) (mover : Mover L) (w : World L) (p y : ℕ) (ms : List (Post L)) →
      Sim s harts (record { cpu = cpu; home = home; mover = mover; flight = ms }) w → p < s.nodes →
      guard (s.nodes + 1) s.nodes s.pages s.blocks (Page (Tlb_forget p y)) w × Sim s harts (record { cpu = put cpu p (without (cpu p) y); home = home; mover = mover; flight = ms }) (apply (s.nodes + 1) s.nodes (Page (Tlb_forget p y)) w)
  page_left s harts cpu home mover w p y ms sim lp =
      let e : Event L = Page (Tlb_forget p y) in
      let z : World L = apply (s.nodes + 1) s.nodes e w in
      let n : NodeShows harts p (cpu p) w = sim.nodes p lp in
      let pp = self_number p in
      let gd : guard (s.nodes + 1) s.nodes s.pages s.blocks e w = (tt, refl) in
      let c : Cpu L H = without (cpu p) y in (
        gd,
        without_end s harts (put cpu p c) home mover z ms (cpu_row s harts cpu home mover ms w e p c ms [] sim gd
            (λ q ne. record { copy = λ a b. refl; want = λ a b. refl; acks = λ a b. refl; victim = λ a b. refl; request = refl; slot = refl; tlb = λ u. grind arith; walk = refl })
            (λ a b. record { entry = refl; line = refl; noticed = refl })
            (record { job = refl; want = λ a b. refl; acks = λ a b. refl; page_table = λ u. refl; holders = λ a b. refl; role = refl; sharing = λ a b. refl })
            (record { copy = n.copy; want = n.want; acks = n.acks; victim = n.victim; request = n.request; slot = n.slot; tlb = λ u. (let a = n.tlb u in grind (arith, nat_tests)); walk = n.walk })
            (record { cached = (sim.tidy p lp).cached; named = λ u g i. (sim.tidy p lp).named u g (grind arith); asker = (sim.tidy p lp).asker })
            (fewer_node s.nodes cpu mover p c (owns e) lp (λ u o. absurd (cc)) (λ a b. inr (refl, refl)) (λ a b. inr (refl, refl)) (λ a b. inr (refl, refl)) (inr (refl, refl)))
            (rest_all s cpu mover w e ms sim.flight (λ u. refl))
            (tt, λ x i ch st. absurd (cc))),
      )

  abbrev filled : Cpu L H → ℕ → ℕ → Cpu L H
  filled c y f = record c { walk = None; tlb = put c.tlb y (To f) }

  -- the answer goes into the TLB
  page_filled : (s : Setup) (harts : Harts L H) (cpu : ℕ → Cpu L H) (home : ℕ → HomeSide L) (mover : Mover L) (w : World L) (p y f : ℕ) (ms : List (Post L)) →
      Sim s harts (record { cpu = cpu; home = home; mover = mover; flight = letter s.nodes p (KWalked y f) ∷ ms }) w → p < s.nodes →
      guard (s.nodes + 1) s.nodes s.pages s.blocks (Page (Walk_fill p y f)) w × Sim s harts (record { cpu = put cpu p (filled (cpu p) y f); home = home; mover = mover; flight = ms }) (apply (s.nodes + 1) s.nodes (Page (Walk_fill p y f)) w)
  page_filled s harts cpu home mover w p y f ms sim lp =
      let x : Post L = letter s.nodes p (KWalked y f) in
      let e : Event L = Page (Walk_fill p y f) in
      let z : World L = apply (s.nodes + 1) s.nodes e w in
      let pl = sim.flight.0.0 in
      let n : NodeShows harts p (cpu p) w = sim.nodes p lp in
      let pp = self_number p in
      let gd : guard (s.nodes + 1) s.nodes s.pages s.blocks e w = (pl.0.1, refl) in
      let c : Cpu L H = filled (cpu p) y f in (
        gd,
        without_end s harts (put cpu p c) home mover z ms (taken_event s harts cpu home mover w e p c x ms [] sim gd lp
            (λ u o. changed_filled p y f w.pages e refl u (or_left (owns e u) (touches w.pages e u) o)) (grind (arith, nat_tests)) refl
            (λ q ne. record { copy = λ a b. refl; want = λ a b. refl; acks = λ a b. refl; victim = λ a b. refl; request = refl; slot = refl; tlb = λ u. grind arith; walk = grind arith })
            (λ a b. record { entry = refl; line = refl; noticed = refl })
            (record { job = refl; want = λ a b. refl; acks = λ a b. refl; page_table = λ u. refl; holders = λ a b. refl; role = refl; sharing = λ a b. refl })
            (record { copy = n.copy; want = n.want; acks = n.acks; victim = n.victim; request = n.request; slot = n.slot; tlb = λ u. (let a = n.tlb u in grind (arith, nat_tests)); walk = grind (arith, nat_tests) })
            (record { cached = (sim.tidy p lp).cached; named = λ u g i. elim (cases_Bool (nat_eq u y)) [ inl t ↦ (let same : f ≡ g = grind arith in subst (λ (v : ℕ). v < s.frames) same pl.1.2) | inr t ↦ (sim.tidy p lp).named u g (grind arith) ]; asker = (sim.tidy p lp).asker })
            refl refl
            (tt, λ v i ch st. absurd (let same = changed_filled p y f w.pages e refl v ch in let st2 : stands_at z (WalkAt p) ≡ true = subst (λ (u : Place). stands_at z u ≡ true) same st in grind (arith, nat_tests)))),
      )

  pub walk_taken : (s : Setup) (harts : Harts L H) (cpu : ℕ → Cpu L H) (home : ℕ → HomeSide L) (mover : Mover L) (w : World L) (p y f : ℕ) (out : Option ℕ) (ms : List (Post L)) →
      Sim s harts (record { cpu = cpu; home = home; mover = mover; flight = letter s.nodes p (KWalked y f) ∷ ms }) w → p < s.nodes →
      ((cpu p).walk ≡ Some y) × GoesAt s harts cpu home mover p (take_walked s p (cpu p) out y f).0 (ms ++ (take_walked s p (cpu p) out y f).1) w
  walk_taken s harts cpu home mover w p y f out ms sim lp = (walk_is (cpu p).walk (w.pages.walk p) y f (sim.nodes p lp).walk sim.flight.0.0.0.1, by out)
    where
      by : (out : Option ℕ) → GoesAt s harts cpu home mover p (take_walked s p (cpu p) out y f).0 (ms ++ (take_walked s p (cpu p) out y f).1) w
      by None =
          let a = page_filled s harts cpu home mover w p y f ms sim lp in
          then s harts _ w (Page (Walk_fill p y f)) [] [] refl a.0 (drop_goes s harts cpu home mover p (filled (cpu p) y f) ms (apply (s.nodes + 1) s.nodes (Page (Walk_fill p y f)) w) lp a.1)
      by (Some u) =
          let a = page_left s harts cpu home mover w p u (letter s.nodes p (KWalked y f) ∷ ms) sim lp in
          let z : World L = apply (s.nodes + 1) s.nodes (Page (Tlb_forget p u)) w in
          let b = page_filled s harts (put cpu p (without (cpu p) u)) home mover z p y f ms a.1 lp in
          let v : World L = apply (s.nodes + 1) s.nodes (Page (Walk_fill p y f)) z in
          let c : At s harts cpu home mover p (filled (without (cpu p) u) y f) ms v = focus s harts cpu home mover p (without (cpu p) u) (λ d. filled d y f) ms v b.1 in
          then s harts _ w (Page (Tlb_forget p u)) [] [] refl a.0 (then s harts _ z (Page (Walk_fill p y f)) [] [] refl b.0 (drop_goes s harts cpu home mover p (filled (without (cpu p) u) y f) ms v lp c))

  -- ---- the page is moving: the walk is over

  pub retry_taken : (s : Setup) (harts : Harts L H) (cpu : ℕ → Cpu L H) (home : ℕ → HomeSide L) (mover : Mover L) (w : World L) (p y : ℕ) (ms : List (Post L)) →
      Sim s harts (record { cpu = cpu; home = home; mover = mover; flight = letter s.nodes p (KWalkRetry y) ∷ ms }) w → p < s.nodes →
      ((cpu p).walk ≡ Some y) × GoesAt s harts cpu home mover p (take_retry s p (cpu p)).0 (ms ++ (take_retry s p (cpu p)).1) w
  retry_taken s harts cpu home mover w p y ms sim lp =
      let x : Post L = letter s.nodes p (KWalkRetry y) in
      let e : Event L = Page (Walk_retry p y) in
      let z : World L = apply (s.nodes + 1) s.nodes e w in
      let pl = sim.flight.0.0 in
      let n : NodeShows harts p (cpu p) w = sim.nodes p lp in
      let pp = self_number p in
      let gd : guard (s.nodes + 1) s.nodes s.pages s.blocks e w = (pl.0.1, refl) in
      let c : Cpu L H = record (cpu p) { walk = None } in
      let sm = without_end s harts (put cpu p c) home mover z ms (taken_event s harts cpu home mover w e p c x ms [] sim gd lp
      (λ u o. changed_retried p y w.pages e refl u (or_left (owns e u) (touches w.pages e u) o)) (grind (arith, nat_tests)) refl
      (λ q ne. record { copy = λ a b. refl; want = λ a b. refl; acks = λ a b. refl; victim = λ a b. refl; request = refl; slot = refl; tlb = λ u. refl; walk = grind arith })
      (λ a b. record { entry = refl; line = refl; noticed = refl })
      (record { job = refl; want = λ a b. refl; acks = λ a b. refl; page_table = λ u. refl; holders = λ a b. refl; role = refl; sharing = λ a b. refl })
      (record { copy = n.copy; want = n.want; acks = n.acks; victim = n.victim; request = n.request; slot = n.slot; tlb = n.tlb; walk = grind (arith, nat_tests) })
      (record { cached = (sim.tidy p lp).cached; named = (sim.tidy p lp).named; asker = (sim.tidy p lp).asker })
      refl refl
      (tt, λ v i ch st. absurd (let same = changed_retried p y w.pages e refl v ch in let st2 : stands_at z (WalkAt p) ≡ true = subst (λ (u : Place). stands_at z u ≡ true) same st in grind (arith, nat_tests)))) in
      (retry_is (cpu p).walk (w.pages.walk p) y n.walk pl.0.1, then s harts _ w e [] [] refl gd (drop_goes s harts cpu home mover p c ms z lp sm))

  -- ---- a drop request: held, or answered where nothing is outstanding

  pub drop_taken : (s : Setup) (harts : Harts L H) (cpu : ℕ → Cpu L H) (home : ℕ → HomeSide L) (mover : Mover L) (w : World L) (p f : ℕ) (ms : List (Post L)) →
      Sim s harts (record { cpu = cpu; home = home; mover = mover; flight = letter s.nodes p (KDropFrame f) ∷ ms }) w → p < s.nodes →
      ((cpu p).drop ≡ None) × GoesAt s harts cpu home mover p (take_drop s p (cpu p) f).0 (ms ++ (take_drop s p (cpu p) f).1) w
  drop_taken s harts cpu home mover w p f ms sim lp =
      let np = apart_number s.nodes p lp in
      let kd : kept_drop {L = L} p (cpu p).drop ≡ None = (let a = sim.flight.0.1 in cc) in
      (no_drop L p (cpu p).drop kd, drop_goes s harts cpu home mover p (hold_drop (cpu p) f) ms w lp (drop_held s harts cpu home mover w (letter s.nodes p (KDropFrame f)) ms p f sim lp refl))
