-- The mover answers a walk, and takes a holder's word that it has dropped a frame.
use Rattle.std.proofs.Common.{◌≡◌, ℕ, ◌+◌, ◌<◌, Bool, true, false, cond, nat_eq, arith, inl, inr, refl, sym, subst, List, [], ◌∷◌, ◌++◌, Option, None, Some}
use Rattle.std.proofs.lemmas.Bool.{cases_Bool}
use Rattle.std.proofs.lemmas.Bool.Decides.{nat_tests}
use Rattle.og_slots.specs.Count.{count}
use Rattle.og_slots.proofs.Count.{none_counted}
use Rattle.og_pages.specs.State.{Gather, Walk, Walking, Walked, WalkRetry, Dropped, put_pair}
use Rattle.og_pages.specs.Rows.{is_moving, Walk_answer, Walk_refuse, Drop_take}
use Rattle.og_pages.proofs.Safe.{served}
use Rattle.og_whole.specs.Events.{World, Event, Page, guard, apply}
use Rattle.og_whole.proofs.Runs.{reached}
use Rattle.og_relate.specs.Data.{KWalk, KWalked, KWalkRetry, KDropped, Post, Setup, Cpu, Mover, MoverJob, MGather, MClean, HomeSide, Harts}
use Rattle.og_relate.specs.Places.{Place, AskAt, DropAt, stands_at, kept}
use Rattle.og_relate.specs.Sides.{owns, touches}
use Rattle.og_relate.specs.Sim.{Sim, WalkShows, MoverShows, job_of}
use Rattle.og_relate.specs.Goes.{Goes, Fewer, FewerAt}
use Rattle.og_relate.specs.Steps.{letter}
use Rattle.og_relate.proofs.Messages.{or_left, rest_one}
use Rattle.og_relate.proofs.Rows.{node_shows}
use Rattle.og_relate.proofs.Parts.{self_number}
use Rattle.og_relate.proofs.MoverRows.{gathered}
use Rattle.og_relate.proofs.Take.{then, still, without_end}
use Rattle.og_relate_mover.specs.Steps.{moves, with_job, take_dropped, walk_by, take_walk}
use Rattle.og_relate_mover.proofs.Events.{entry_stays, mover_event}
use Rattle.og_relate_mover.proofs.PageEvents.{moving_is, changed_answer, changed_refuse, changed_dropped}

-- a walk that is asked for still shows after the answer
walk_shows : (o : Option ℕ) (v u : Walk) (y f : ℕ) → WalkShows o v → v ≡ Walking y → u ≡ Walked y f → WalkShows o u
walk_shows None v u y f s e a = absurd (cc)
walk_shows (Some x) v u y f s e a = let t : WalkShows (Some x) (Walking y) = subst (λ (v : Walk). WalkShows (Some x) v) e s in subst (λ (q : Walk). WalkShows (Some x) q) (sym a) t

retry_shows : (o : Option ℕ) (v u : Walk) (y : ℕ) → WalkShows o v → v ≡ Walking y → u ≡ WalkRetry y → WalkShows o u
retry_shows None v u y s e a = absurd (cc)
retry_shows (Some x) v u y s e a = let t : WalkShows (Some x) (Walking y) = subst (λ (v : Walk). WalkShows (Some x) v) e s in subst (λ (q : Walk). WalkShows (Some x) q) (sym a) t

module _ {L : Type 0} where
  gathers_here : (j : MoverJob L) (f : ℕ) → job_of j ≡ Gather f → j ≡ MGather f
  gathers_here j f e = grind arith

module _ {L : Type 0} {H : Type 0} where
  -- what the mover keeps doesn't change, where the event takes from no place of a block
  same_kept : (n : ℕ) (cpu : ℕ → Cpu L H) (mover m : Mover L) (owned : Place → Bool) → m.job ≡ mover.job → ((y : Place) → owned y ≡ true → kept n cpu mover y ≡ None) → Fewer (kept n cpu m) (kept n cpu mover) owned
  same_kept n cpu mover m owned j none x = at (owned x) refl
    where
      same : kept n cpu m x ≡ kept n cpu mover x
      same = let e = j in by x
        where
          by : (y : Place) → kept n cpu m y ≡ kept n cpu mover y
          by (AskAt f k q) = let e = j in cc
          by y = refl

      at : (t : Bool) → owned x ≡ t → FewerAt (kept n cpu m x) (kept n cpu mover x) t
      at true o = inl ((let a = none x o in let b = same in cc), refl)
      at false o = inr (same, refl)

  -- ---- a walk

  pub walk_taken : (s : Setup) (harts : Harts L H) (cpu : ℕ → Cpu L H) (home : ℕ → HomeSide L) (mover : Mover L) (w : World L) (p y : ℕ) (ms : List (Post L)) →
      Sim s harts (record { cpu = cpu; home = home; mover = mover; flight = letter p s.nodes (KWalk y) ∷ ms }) w →
      Goes s harts (record { cpu = cpu; home = home; mover = (take_walk s mover p y).0; flight = ms ++ (take_walk s mover p y).1 }) w
  walk_taken s harts cpu home mover w p y ms sim = by (moves mover.job y) refl
    where
      x : Post L
      x = letter p s.nodes (KWalk y)

      lp : p < s.nodes
      lp = sim.flight.0.0.1.0

      ly : y < s.pages
      ly = sim.flight.0.0.1.2

      wk : w.pages.walk p ≡ Walking y
      wk = sim.flight.0.0.0.1

      mv : MoverShows s mover w
      mv = sim.mover

      job : w.pages.job ≡ job_of mover.job
      job = mv.job

      by : (t : Bool) → moves mover.job y ≡ t → Goes s harts (record { cpu = cpu; home = home; mover = (walk_by s mover p y t).0; flight = ms ++ (walk_by s mover p y t).1 }) w
      by true t =
          let e : Event L = Page (Walk_refuse p y) in
          let z : World L = apply (s.nodes + 1) s.nodes e w in
          let pp = self_number p in
          let im : is_moving w.pages.job y ≡ true = (let a = job in let b = moving_is mover.job y in cc) in
          let gd : guard (s.nodes + 1) s.nodes s.pages s.blocks e w = ((wk, im), refl) in
          then s harts _ w e [] [] refl gd (still s harts _ z (mover_event s harts cpu home mover (x ∷ ms) w e mover ms (letter s.nodes p (KWalkRetry y) ∷ []) sim gd
          (λ q lq. (let n = sim.nodes q lq in record { copy = n.copy; want = n.want; acks = n.acks; victim = n.victim; request = n.request; slot = n.slot; tlb = n.tlb; walk = elim (cases_Bool (nat_eq q p)) [ inl v ↦ (let same : q ≡ p = grind (arith, nat_tests) in retry_shows (cpu q).walk (w.pages.walk q) (z.pages.walk q) y n.walk (cc) (grind (arith, nat_tests))) | inr v ↦ subst (λ (u : Walk). WalkShows (cpu q).walk u) (let a : w.pages.walk q ≡ z.pages.walk q = grind arith in a) n.walk ] }))
          (λ g j lj. record { entry = entry_stays s w (Walk_refuse p y) g j sim.reached gd refl lj; line = refl; noticed = refl })
          (record { job = mv.job; want = mv.want; acks = mv.acks; page_table = mv.page_table; holders = mv.holders; role = mv.role; sharing = mv.sharing; holder_is = mv.holder_is })
          sim.bounds
          (same_kept s.nodes cpu mover mover (owns e) refl (λ u o. (let same = changed_refuse p y w.pages e refl u (or_left (owns e u) (touches w.pages e u) o) in cc)))
          (rest_one s cpu mover w e x ms sim.flight (λ u o. changed_refuse p y w.pages e refl u (or_left (owns e u) (touches w.pages e u) o)) (grind (arith, nat_tests)))
          (((((lp, grind (arith, nat_tests), λ q. absurd (cc)), (refl, lp), tt), grind (arith, nat_tests)), tt, tt), λ u i c st. inl (sym (changed_refuse p y w.pages e refl u c)))))
      by false t =
          let f : ℕ = mover.page_table y in
          let e : Event L = Page (Walk_answer p y f) in
          let z : World L = apply (s.nodes + 1) s.nodes e w in
          let pp = self_number p in
          let lf : f < s.frames = sim.bounds.table y ly in
          let im : is_moving w.pages.job y ≡ false = (let a = job in let b = moving_is mover.job y in cc) in
          let pt : w.pages.page_table y ≡ f = mv.page_table y ly in
          let gd : guard (s.nodes + 1) s.nodes s.pages s.blocks e w = ((wk, im, pt), refl) in
          let m : Mover L = record mover { holders = put_pair mover.holders f p true } in
          then s harts _ w e [] [] refl gd (still s harts _ z (mover_event s harts cpu home mover (x ∷ ms) w e m ms (letter s.nodes p (KWalked y f) ∷ []) sim gd
          (λ q lq. (let n = sim.nodes q lq in record { copy = n.copy; want = n.want; acks = n.acks; victim = n.victim; request = n.request; slot = n.slot; tlb = n.tlb; walk = elim (cases_Bool (nat_eq q p)) [ inl v ↦ (let same : q ≡ p = grind (arith, nat_tests) in walk_shows (cpu q).walk (w.pages.walk q) (z.pages.walk q) y f n.walk (cc) (grind (arith, nat_tests))) | inr v ↦ subst (λ (u : Walk). WalkShows (cpu q).walk u) (let a : w.pages.walk q ≡ z.pages.walk q = grind arith in a) n.walk ] }))
          (λ g j lj. record { entry = entry_stays s w (Walk_answer p y f) g j sim.reached gd refl lj; line = refl; noticed = refl })
          (record { job = mv.job; want = mv.want; acks = mv.acks; page_table = mv.page_table; holders = λ g q. (let a = mv.holders g q in grind (arith, nat_tests)); role = mv.role; sharing = mv.sharing; holder_is = λ g q h. elim (cases_Bool (nat_eq q p)) [ inl v ↦ (let same : q ≡ p = grind (arith, nat_tests) in subst (λ (u : ℕ). u < s.nodes) (sym same) lp) | inr v ↦ mv.holder_is g q (grind (arith, nat_tests)) ] })
          (record { job = sim.bounds.job; table = sim.bounds.table })
          (same_kept s.nodes cpu mover m (owns e) refl (λ u o. (let same = changed_answer p y f w.pages e refl u (or_left (owns e u) (touches w.pages e u) o) in cc)))
          (rest_one s cpu mover w e x ms sim.flight (λ u o. changed_answer p y f w.pages e refl u (or_left (owns e u) (touches w.pages e u) o)) (grind (arith, nat_tests)))
          (((((lp, grind (arith, nat_tests), λ q. absurd (cc)), (refl, lp, lf), tt), grind (arith, nat_tests)), tt, tt), λ u i c st. inl (sym (changed_answer p y f w.pages e refl u c)))))

  -- ---- a holder has dropped the frame

  pub dropped_taken : (s : Setup) (harts : Harts L H) (cpu : ℕ → Cpu L H) (home : ℕ → HomeSide L) (mover : Mover L) (w : World L) (p f : ℕ) (ms : List (Post L)) →
      Sim s harts (record { cpu = cpu; home = home; mover = mover; flight = letter p s.nodes (KDropped f) ∷ ms }) w →
      (mover.job ≡ MGather f) × (mover.holders f p ≡ true) × Goes s harts (record { cpu = cpu; home = home; mover = take_dropped s mover p f; flight = ms }) w
  dropped_taken s harts cpu home mover w p f ms sim = (jb, held, by (nat_eq (count s.nodes (m.holders f)) 0) refl)
    where
      x : Post L
      x = letter p s.nodes (KDropped f)

      e : Event L
      e = Page (Drop_take p f)

      z : World L
      z = apply (s.nodes + 1) s.nodes e w

      mv : MoverShows s mover w
      mv = sim.mover

      m : Mover L
      m = record mover { holders = put_pair mover.holders f p false }

      dr : w.pages.drop p ≡ Dropped f
      dr = sim.flight.0.0.0.1

      sv : (w.pages.holder f p ≡ true) × ((w.pages.drop p ≡ Dropped f) × (w.pages.job ≡ Gather f))
      sv = let v = (served s.pages s.blocks w.pages (reached (s.nodes + 1) s.nodes s.pages s.blocks w sim.reached).of_pages).dropped p f dr in (v.0, v.1)

      jb : mover.job ≡ MGather f
      jb = gathers_here mover.job f (let a = mv.job in let b = sv.1.1 in cc)

      held : mover.holders f p ≡ true
      held = let a = mv.holders f p in let b = sv.0 in cc

      gd : guard (s.nodes + 1) s.nodes s.pages s.blocks e w
      gd = (sv.1, refl)

      after : Sim s harts (record { cpu = cpu; home = home; mover = m; flight = ms }) z
      after =
          let pp = self_number p in
          without_end s harts cpu home m z ms (mover_event s harts cpu home mover (x ∷ ms) w e m ms [] sim gd
          (λ q lq. node_shows harts q (cpu q) w z (record { copy = λ a b. refl; want = λ a b. refl; acks = λ a b. refl; victim = λ a b. refl; request = refl; slot = refl; tlb = λ u. refl; walk = refl }) (sim.nodes q lq))
          (λ g j lj. record { entry = entry_stays s w (Drop_take p f) g j sim.reached gd refl lj; line = refl; noticed = refl })
          (record { job = mv.job; want = mv.want; acks = mv.acks; page_table = mv.page_table; holders = λ g q. (let a = mv.holders g q in grind (arith, nat_tests)); role = mv.role; sharing = mv.sharing; holder_is = λ g q h. mv.holder_is g q (grind (arith, nat_tests)) })
          (record { job = sim.bounds.job; table = sim.bounds.table })
          (same_kept s.nodes cpu mover m (owns e) refl (λ u o. (let same = changed_dropped p f w.pages e refl u (or_left (owns e u) (touches w.pages e u) o) in let n = sim.flight.0.1 in cc)))
          (rest_one s cpu mover w e x ms sim.flight (λ u o. changed_dropped p f w.pages e refl u (or_left (owns e u) (touches w.pages e u) o)) (grind (arith, nat_tests)))
          (tt, λ u i c st. absurd (let same = changed_dropped p f w.pages e refl u c in let st2 : stands_at z (DropAt p) ≡ true = subst (λ (v : Place). stands_at z v ≡ true) same st in grind (arith, nat_tests))))

      none : count s.nodes (m.holders f) ≡ 0 → (q : ℕ) → m.holders f q ≡ false
      none c q = elim (cases_Bool (m.holders f q)) [ inl t ↦ (let lq = after.mover.holder_is f q t in none_counted s.nodes (m.holders f) q c lq) | inr t ↦ t ]

      by : (t : Bool) → nat_eq (count s.nodes (m.holders f)) 0 ≡ t → Goes s harts (record { cpu = cpu; home = home; mover = cond t (with_job m (MClean f)) m; flight = ms }) w
      by true t =
          let c : count s.nodes (m.holders f) ≡ 0 = grind (arith, nat_tests) in
          let same : record m { job = MGather f } ≡ m = subst (λ (j : MoverJob L). record m { job = j } ≡ m) jb refl in
          then s harts _ w e [] [] refl gd (gathered s harts cpu home m z f ms (subst (λ (u : Mover L). Sim s harts (record { cpu = cpu; home = home; mover = u; flight = ms }) z) (sym same) after) (none c))
      by false t = then s harts _ w e [] [] refl gd (still s harts _ z after)
