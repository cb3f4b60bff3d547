-- The mover's rows of the page layer: a move begins, a line is sent to the new frame and has come, the page is published; a frame is
-- cleaned and free; a walk is answered.
use Rattle.std.proofs.Common.{◌≡◌, ◌≢◌, ℕ, ◌+◌, ◌<◌, Bool, true, false, cond, nat_eq, arith, inl, inr, refl, sym, subst, List, [], ◌∷◌, ◌++◌}
use Rattle.std.proofs.lemmas.Bool.{cases_Bool}
use Rattle.std.proofs.lemmas.Bool.Decides.{nat_tests}
use Rattle.og_slots.specs.Count.{count}
use Rattle.og_pages.specs.State.{State as Pages, Role, Free, Mapped, Idle as JobIdle, Hold, Wait, Publish, Clean, Cleaning, CopyDone}
use Rattle.og_pages.specs.Rows.{is_moving, Move_begin, Copy_send, Copy_next, Copy_last, Publish_page, Clean_send, Frame_free, Walk_answer, Walk_refuse, Drop_take}
use Rattle.og_whole.specs.Events.{World, Event, Page, guard, apply}
use Rattle.og_relate.specs.Data.{KHot, KCopyIn, KCopyDone, KCleanFrame, KFrameClean, Post, Setup, Cpu, Mover, MoverJob, MIdle, MAsk, MHold, MWait, MPublish, MClean, MCleaning, Unused, UsedBy, HomeSide, Harts}
use Rattle.og_relate.specs.Places.{Place, CommandAt, WalkAt, DropAt, NoticeAt, stands_at}
use Rattle.og_relate.specs.Sides.{owns, touches}
use Rattle.og_relate.specs.Sim.{Sim, MoverShows, JobTidy, role_of, job_of}
use Rattle.og_relate.specs.Owes.{changes}
use Rattle.og_relate.specs.Goes.{Goes}
use Rattle.og_relate.specs.Steps.{letter}
use Rattle.og_relate.proofs.Messages.{or_left, rest_one, rest_all}
use Rattle.og_relate.proofs.Rows.{node_shows}
use Rattle.og_relate.proofs.Parts.{self_number}
use Rattle.og_relate.proofs.Take.{then, still, without_end}
use Rattle.og_relate_mover.specs.Steps.{moves, with_job, begin, copy_out, take_copied, publish, clean_out, free}
use Rattle.og_relate_mover.proofs.Events.{entry_stays, mover_event, keeps_none}

used : (u : Role) (y : ℕ) → role_of u ≡ UsedBy y → u ≡ Mapped y
used (Mapped x) y e = cc
used u y e = absurd (grind arith)

unused : (u : Role) → role_of u ≡ Unused → u ≡ Free
unused Free e = refl
unused u e = absurd (grind arith)

module _ {L : Type 0} where
  pub moving_is : (j : MoverJob L) (y : ℕ) → moves j y ≡ is_moving (job_of j) y
  moving_is j y = grind arith

  -- the job that waits for the copy
  waits_here : (j : MoverJob L) (y o n k : ℕ) → job_of j ≡ Wait y o n k → j ≡ MWait y o n k
  waits_here j y o n k e = grind arith

  cleans_here : (j : MoverJob L) (f : ℕ) → job_of j ≡ Cleaning f → j ≡ MCleaning f
  cleans_here j f e = grind arith

  changed_begin : (f y new : ℕ) (s : Pages L) (e : Event L) → e ≡ Page (Move_begin f y new) → (x : Place) → changes s e x ≡ true → x ≡ NoticeAt f
  changed_begin f y new s e is x o = grind (arith, nat_tests)

  changed_copy : (y o n k : ℕ) (l : L) (s : Pages L) (e : Event L) → e ≡ Page (Copy_send y o n k l) → (x : Place) → changes s e x ≡ true → x ≡ CommandAt
  changed_copy y o n k l s e is x c = grind (arith, nat_tests)

  changed_next : (y o n k : ℕ) (s : Pages L) (e : Event L) → e ≡ Page (Copy_next y o n k) → (x : Place) → changes s e x ≡ true → x ≡ CommandAt
  changed_next y o n k s e is x c = grind (arith, nat_tests)

  changed_last : (y o n k : ℕ) (s : Pages L) (e : Event L) → e ≡ Page (Copy_last y o n k) → (x : Place) → changes s e x ≡ true → x ≡ CommandAt
  changed_last y o n k s e is x c = grind (arith, nat_tests)

  changed_clean : (f : ℕ) (s : Pages L) (e : Event L) → e ≡ Page (Clean_send f) → (x : Place) → changes s e x ≡ true → x ≡ CommandAt
  changed_clean f s e is x c = grind (arith, nat_tests)

  changed_free : (f : ℕ) (s : Pages L) (e : Event L) → e ≡ Page (Frame_free f) → (x : Place) → changes s e x ≡ true → x ≡ CommandAt
  changed_free f s e is x c = grind (arith, nat_tests)

  pub changed_answer : (p y f : ℕ) (s : Pages L) (e : Event L) → e ≡ Page (Walk_answer p y f) → (x : Place) → changes s e x ≡ true → x ≡ WalkAt p
  changed_answer p y f s e is x c = grind (arith, nat_tests)

  pub changed_refuse : (p y : ℕ) (s : Pages L) (e : Event L) → e ≡ Page (Walk_refuse p y) → (x : Place) → changes s e x ≡ true → x ≡ WalkAt p
  changed_refuse p y s e is x c = grind (arith, nat_tests)

  pub changed_dropped : (p f : ℕ) (s : Pages L) (e : Event L) → e ≡ Page (Drop_take p f) → (x : Place) → changes s e x ≡ true → x ≡ DropAt p
  changed_dropped p f s e is x c = grind (arith, nat_tests)

module _ {L : Type 0} {H : Type 0} where
  -- ---- a move begins

  pub move_begins : (s : Setup) (harts : Harts L H) (cpu : ℕ → Cpu L H) (home : ℕ → HomeSide L) (mover : Mover L) (w : World L) (a f y new node count most : ℕ) (ms : List (Post L)) →
      Sim s harts (record { cpu = cpu; home = home; mover = mover; flight = letter a s.nodes (KHot f node count most) ∷ ms }) w → mover.job ≡ MIdle → mover.role f ≡ UsedBy y → mover.role new ≡ Unused → y < s.pages → new < s.frames → 0 < s.blocks →
      Goes s harts (record { cpu = cpu; home = home; mover = begin mover f y new; flight = ms }) w
  move_begins s harts cpu home mover w a f y new node count most ms sim jb rf rn ly ln lb =
      let x : Post L = letter a s.nodes (KHot f node count most) in
      let e : Event L = Page (Move_begin f y new) in
      let z : World L = apply (s.nodes + 1) s.nodes e w in
      let pl = sim.flight.0.0.0 in
      let ff = self_number f in
      let mv = sim.mover in
      let u1 : w.pages.role f ≡ Mapped y = used (w.pages.role f) y (let q = mv.role f in cc) in
      let u2 : w.pages.role new ≡ Free = unused (w.pages.role new) (let q = mv.role new in cc) in
      let gj : w.pages.job ≡ JobIdle = (let q = mv.job in grind arith) in
      let gd : guard (s.nodes + 1) s.nodes s.pages s.blocks e w = ((pl.1, u1, gj, u2, lb), refl) in
      let m : Mover L = begin mover f y new in
      then s harts _ w e [] [] refl gd (still s harts _ z (without_end s harts cpu home m z ms (mover_event s harts cpu home mover (x ∷ ms) w e m ms [] sim gd
      (λ q lq. node_shows harts q (cpu q) w z (record { copy = λ a b. refl; want = λ a b. refl; acks = λ a b. refl; victim = λ a b. refl; request = refl; slot = refl; tlb = λ u. refl; walk = refl }) (sim.nodes q lq))
      (λ g j lj. record { entry = entry_stays s w (Move_begin f y new) g j sim.reached gd refl lj; line = refl; noticed = refl })
      (record { job = refl; want = λ g j. (let q = mv.want g j in grind arith); acks = λ g j. (let q = mv.acks g j in grind arith); page_table = mv.page_table; holders = mv.holders; role = λ g. (let q = mv.role g in grind (arith, nat_tests)); sharing = mv.sharing; holder_is = mv.holder_is })
      (record { job = (ly, pl.0, ln, lb); table = sim.bounds.table })
      (keeps_none s.nodes cpu mover m (owns e) (λ g j q ow. absurd (cc)) (λ g j q. refl) (λ q. refl) (λ g j q o. absurd (cc)) (λ g j. grind arith) (λ g j. refl))
      (rest_one s cpu mover w e x ms sim.flight (λ p o. changed_begin f y new w.pages e refl p (or_left (owns e p) (touches w.pages e p) o)) (grind (arith, nat_tests)))
      (tt, λ p i c st. absurd (let same = changed_begin f y new w.pages e refl p c in let st2 : stands_at z (NoticeAt f) ≡ true = subst (λ (u : Place). stands_at z u ≡ true) same st in grind (arith, nat_tests))))))

  -- ---- a line goes out, and has come

  pub copy_goes : (s : Setup) (harts : Harts L H) (cpu : ℕ → Cpu L H) (home : ℕ → HomeSide L) (mover : Mover L) (w : World L) (y o n k : ℕ) (l : L) (ms : List (Post L)) →
      Sim s harts (record { cpu = cpu; home = home; mover = mover; flight = ms }) w → mover.job ≡ MHold y o n k l →
      Goes s harts (record { cpu = cpu; home = home; mover = (copy_out s mover y o n k l).0; flight = ms ++ (copy_out s mover y o n k l).1 }) w
  copy_goes s harts cpu home mover w y o n k l ms sim jb =
      let e : Event L = Page (Copy_send y o n k l) in
      let z : World L = apply (s.nodes + 1) s.nodes e w in
      let mv = sim.mover in
      let bd : JobTidy s (MHold y o n k l) = subst (λ u. JobTidy s u) jb sim.bounds.job in
      let gj : w.pages.job ≡ Hold y o n k l = (let q = mv.job in grind arith) in
      let gd : guard (s.nodes + 1) s.nodes s.pages s.blocks e w = (gj, refl) in
      let m : Mover L = with_job mover (MWait y o n k) in
      then s harts _ w e [] [] refl gd (still s harts _ z (mover_event s harts cpu home mover ms w e m ms (letter s.nodes (s.home n) (KCopyIn n k l) ∷ []) sim gd
      (λ q lq. node_shows harts q (cpu q) w z (record { copy = λ a b. refl; want = λ a b. refl; acks = λ a b. refl; victim = λ a b. refl; request = refl; slot = refl; tlb = λ u. refl; walk = refl }) (sim.nodes q lq))
      (λ g j lj. record { entry = entry_stays s w (Copy_send y o n k l) g j sim.reached gd refl lj; line = refl; noticed = refl })
      (record { job = refl; want = λ g j. (let q = mv.want g j in grind arith); acks = λ g j. (let q = mv.acks g j in grind arith); page_table = mv.page_table; holders = mv.holders; role = mv.role; sharing = mv.sharing; holder_is = mv.holder_is })
      (record { job = bd; table = sim.bounds.table })
      (keeps_none s.nodes cpu mover m (owns e) (λ g j q ow. absurd (cc)) (λ g j q. refl) (λ q. refl) (λ g j q c. absurd (cc)) (λ g j. grind arith) (λ g j. refl))
      (rest_all s cpu mover w e ms sim.flight (λ p. refl))
      (((((refl, λ q. absurd (cc)), (refl, refl, bd.2, bd.3), (y, o, refl)), refl), tt, tt), λ p i c st. inl (sym (changed_copy y o n k l w.pages e refl p c)))))

  pub copied_taken : (s : Setup) (harts : Harts L H) (cpu : ℕ → Cpu L H) (home : ℕ → HomeSide L) (mover : Mover L) (w : World L) (n k : ℕ) (ms : List (Post L)) →
      Sim s harts (record { cpu = cpu; home = home; mover = mover; flight = letter (s.home n) s.nodes (KCopyDone n k) ∷ ms }) w →
      (y : ℕ) × (o : ℕ) × (mover.job ≡ MWait y o n k) × Goes s harts (record { cpu = cpu; home = home; mover = take_copied s mover y o n k; flight = ms }) w
  copied_taken s harts cpu home mover w n k ms sim = (y, o, jb, by (nat_eq (k + 1) s.blocks) refl)
    where
      x : Post L
      x = letter (s.home n) s.nodes (KCopyDone n k)

      y : ℕ
      y = sim.flight.0.0.2.0

      o : ℕ
      o = sim.flight.0.0.2.1

      gj : w.pages.job ≡ Wait y o n k
      gj = sim.flight.0.0.2.2

      gc : w.pages.command ≡ CopyDone
      gc = sim.flight.0.0.0.0

      jb : mover.job ≡ MWait y o n k
      jb = waits_here mover.job y o n k (let a = sim.mover.job in let b = gj in cc)

      mv : MoverShows s mover w
      mv = sim.mover

      bd : JobTidy {L = L} s (MWait y o n k)
      bd = subst (λ u. JobTidy s u) jb sim.bounds.job

      by : (t : Bool) → nat_eq (k + 1) s.blocks ≡ t → Goes s harts (record { cpu = cpu; home = home; mover = with_job mover (cond t (MPublish y o n) (MAsk y o n (k + 1))); flight = ms }) w
      by true t =
          let e : Event L = Page (Copy_last y o n k) in
          let z : World L = apply (s.nodes + 1) s.nodes e w in
          let gd : guard (s.nodes + 1) s.nodes s.pages s.blocks e w = ((gj, gc, grind (arith, nat_tests)), refl) in
          let m : Mover L = with_job mover (MPublish y o n) in
          let j = jb in
          then s harts _ w e [] [] refl gd (still s harts _ z (without_end s harts cpu home m z ms (mover_event s harts cpu home mover (x ∷ ms) w e m ms [] sim gd
          (λ q lq. node_shows harts q (cpu q) w z (record { copy = λ a b. refl; want = λ a b. refl; acks = λ a b. refl; victim = λ a b. refl; request = refl; slot = refl; tlb = λ u. refl; walk = refl }) (sim.nodes q lq))
          (λ g j lj. record { entry = entry_stays s w (Copy_last y o n k) g j sim.reached gd refl lj; line = refl; noticed = refl })
          (record { job = refl; want = λ g j. (let q = mv.want g j in let r = jb in grind arith); acks = λ g j. (let q = mv.acks g j in let r = jb in grind arith); page_table = mv.page_table; holders = mv.holders; role = mv.role; sharing = mv.sharing; holder_is = mv.holder_is })
          (record { job = (bd.0, bd.1, bd.2); table = sim.bounds.table })
          (keeps_none s.nodes cpu mover m (owns e) (λ g j q ow. absurd (cc)) (λ g j q. refl) (λ q. refl) (λ g j q c. absurd (cc)) (λ g j. (let r = jb in grind arith)) (λ g j. refl))
          (rest_one s cpu mover w e x ms sim.flight (λ p c. changed_last y o n k w.pages e refl p (or_left (owns e p) (touches w.pages e p) c)) refl)
          (tt, λ p i c st. absurd (let same = changed_last y o n k w.pages e refl p c in let st2 : stands_at z CommandAt ≡ true = subst (λ (u : Place). stands_at z u ≡ true) same st in cc)))))
      by false t =
          let e : Event L = Page (Copy_next y o n k) in
          let z : World L = apply (s.nodes + 1) s.nodes e w in
          let lk : k + 1 < s.blocks = (let b = bd.3 in let ne : k + 1 ≢ s.blocks = grind (arith, nat_tests) in omega arith) in
          let gd : guard (s.nodes + 1) s.nodes s.pages s.blocks e w = ((gj, gc, lk), refl) in
          let m : Mover L = with_job mover (MAsk y o n (k + 1)) in
          then s harts _ w e [] [] refl gd (still s harts _ z (without_end s harts cpu home m z ms (mover_event s harts cpu home mover (x ∷ ms) w e m ms [] sim gd
          (λ q lq. node_shows harts q (cpu q) w z (record { copy = λ a b. refl; want = λ a b. refl; acks = λ a b. refl; victim = λ a b. refl; request = refl; slot = refl; tlb = λ u. refl; walk = refl }) (sim.nodes q lq))
          (λ g j lj. record { entry = entry_stays s w (Copy_next y o n k) g j sim.reached gd refl lj; line = refl; noticed = refl })
          (record { job = refl; want = λ g j. (let q = mv.want g j in let r = jb in grind arith); acks = λ g j. (let q = mv.acks g j in let r = jb in grind arith); page_table = mv.page_table; holders = mv.holders; role = mv.role; sharing = mv.sharing; holder_is = mv.holder_is })
          (record { job = (bd.0, bd.1, bd.2, lk); table = sim.bounds.table })
          (keeps_none s.nodes cpu mover m (owns e) (λ g j q ow. absurd (cc)) (λ g j q. refl) (λ q. refl) (λ g j q c. absurd (cc)) (λ g j. (let r = jb in grind arith)) (λ g j. refl))
          (rest_one s cpu mover w e x ms sim.flight (λ p c. changed_next y o n k w.pages e refl p (or_left (owns e p) (touches w.pages e p) c)) refl)
          (tt, λ p i c st. absurd (let same = changed_next y o n k w.pages e refl p c in let st2 : stands_at z CommandAt ≡ true = subst (λ (u : Place). stands_at z u ≡ true) same st in cc)))))

  -- ---- the page is published

  pub page_published : (s : Setup) (harts : Harts L H) (cpu : ℕ → Cpu L H) (home : ℕ → HomeSide L) (mover : Mover L) (w : World L) (y o n : ℕ) (ms : List (Post L)) →
      Sim s harts (record { cpu = cpu; home = home; mover = mover; flight = ms }) w → mover.job ≡ MPublish y o n →
      Goes s harts (record { cpu = cpu; home = home; mover = publish mover y o n; flight = ms }) w
  page_published s harts cpu home mover w y o n ms sim jb =
      let e : Event L = Page (Publish_page y o n) in
      let z : World L = apply (s.nodes + 1) s.nodes e w in
      let mv = sim.mover in
      let bd : JobTidy {L = L} s (MPublish y o n) = subst (λ u. JobTidy s u) jb sim.bounds.job in
      let gj : w.pages.job ≡ Publish y o n = (let q = mv.job in grind arith) in
      let gd : guard (s.nodes + 1) s.nodes s.pages s.blocks e w = (gj, refl) in
      let m : Mover L = publish mover y o n in
      then s harts _ w e [] [] refl gd (still s harts _ z (without_end s harts cpu home m z ms (mover_event s harts cpu home mover ms w e m ms [] sim gd
      (λ q lq. node_shows harts q (cpu q) w z (record { copy = λ a b. refl; want = λ a b. refl; acks = λ a b. refl; victim = λ a b. refl; request = refl; slot = refl; tlb = λ u. refl; walk = refl }) (sim.nodes q lq))
      (λ g j lj. record { entry = entry_stays s w (Publish_page y o n) g j sim.reached gd refl lj; line = refl; noticed = refl })
      (record { job = refl; want = λ g j. (let q = mv.want g j in grind arith); acks = λ g j. (let q = mv.acks g j in grind arith); page_table = λ u lu. (let q = mv.page_table u lu in grind (arith, nat_tests)); holders = mv.holders; role = λ g. (let q = mv.role g in grind (arith, nat_tests)); sharing = mv.sharing; holder_is = mv.holder_is })
      (record { job = tt; table = λ u lu. elim (cases_Bool (nat_eq u y)) [ inl t ↦ (let v : m.page_table u ≡ n = grind (arith, nat_tests) in subst (λ (q : ℕ). q < s.frames) (sym v) bd.2) | inr t ↦ (let v : m.page_table u ≡ mover.page_table u = grind (arith, nat_tests) in subst (λ (q : ℕ). q < s.frames) (sym v) (sim.bounds.table u lu)) ] })
      (keeps_none s.nodes cpu mover m (owns e) (λ g j q ow. absurd (cc)) (λ g j q. refl) (λ q. refl) (λ g j q c. absurd (cc)) (λ g j. grind arith) (λ g j. refl))
      (rest_all s cpu mover w e ms sim.flight (λ p. refl))
      (tt, λ p i c st. absurd (cc)))))

  -- ---- a frame is cleaned, and free

  pub cleaning_goes : (s : Setup) (harts : Harts L H) (cpu : ℕ → Cpu L H) (home : ℕ → HomeSide L) (mover : Mover L) (w : World L) (f : ℕ) (ms : List (Post L)) →
      Sim s harts (record { cpu = cpu; home = home; mover = mover; flight = ms }) w → mover.job ≡ MClean f →
      Goes s harts (record { cpu = cpu; home = home; mover = (clean_out s mover f).0; flight = ms ++ (clean_out s mover f).1 }) w
  cleaning_goes s harts cpu home mover w f ms sim jb =
      let e : Event L = Page (Clean_send f) in
      let z : World L = apply (s.nodes + 1) s.nodes e w in
      let mv = sim.mover in
      let bd : JobTidy {L = L} s (MClean f) = subst (λ u. JobTidy s u) jb sim.bounds.job in
      let gj : w.pages.job ≡ Clean f = (let q = mv.job in grind arith) in
      let gd : guard (s.nodes + 1) s.nodes s.pages s.blocks e w = (gj, refl) in
      let m : Mover L = with_job mover (MCleaning f) in
      then s harts _ w e [] [] refl gd (still s harts _ z (mover_event s harts cpu home mover ms w e m ms (letter s.nodes (s.home f) (KCleanFrame f) ∷ []) sim gd
      (λ q lq. node_shows harts q (cpu q) w z (record { copy = λ a b. refl; want = λ a b. refl; acks = λ a b. refl; victim = λ a b. refl; request = refl; slot = refl; tlb = λ u. refl; walk = refl }) (sim.nodes q lq))
      (λ g j lj. record { entry = entry_stays s w (Clean_send f) g j sim.reached gd refl lj; line = refl; noticed = refl })
      (record { job = refl; want = λ g j. (let q = mv.want g j in grind arith); acks = λ g j. (let q = mv.acks g j in grind arith); page_table = mv.page_table; holders = mv.holders; role = mv.role; sharing = mv.sharing; holder_is = mv.holder_is })
      (record { job = bd; table = sim.bounds.table })
      (keeps_none s.nodes cpu mover m (owns e) (λ g j q ow. absurd (cc)) (λ g j q. refl) (λ q. refl) (λ g j q c. absurd (cc)) (λ g j. grind arith) (λ g j. refl))
      (rest_all s cpu mover w e ms sim.flight (λ p. refl))
      (((((refl, λ q. absurd (cc)), (refl, refl, bd), refl), refl), tt, tt), λ p i c st. inl (sym (changed_clean f w.pages e refl p c)))))

  pub freed_taken : (s : Setup) (harts : Harts L H) (cpu : ℕ → Cpu L H) (home : ℕ → HomeSide L) (mover : Mover L) (w : World L) (f : ℕ) (ms : List (Post L)) →
      Sim s harts (record { cpu = cpu; home = home; mover = mover; flight = letter (s.home f) s.nodes (KFrameClean f) ∷ ms }) w →
      (mover.job ≡ MCleaning f) × Goes s harts (record { cpu = cpu; home = home; mover = free mover f; flight = ms }) w
  freed_taken s harts cpu home mover w f ms sim =
      let x : Post L = letter (s.home f) s.nodes (KFrameClean f) in
      let e : Event L = Page (Frame_free f) in
      let z : World L = apply (s.nodes + 1) s.nodes e w in
      let pl = sim.flight.0.0 in
      let mv = sim.mover in
      let gj : w.pages.job ≡ Cleaning f = pl.2 in
      let jb : mover.job ≡ MCleaning f = cleans_here mover.job f (let a = mv.job in cc) in
      let gd : guard (s.nodes + 1) s.nodes s.pages s.blocks e w = ((gj, pl.0.0), refl) in
      let m : Mover L = free mover f in (
        jb,
        then s harts _ w e [] [] refl gd (still s harts _ z (without_end s harts cpu home m z ms (mover_event s harts cpu home mover (x ∷ ms) w e m ms [] sim gd
            (λ q lq. node_shows harts q (cpu q) w z (record { copy = λ a b. refl; want = λ a b. refl; acks = λ a b. refl; victim = λ a b. refl; request = refl; slot = refl; tlb = λ u. refl; walk = refl }) (sim.nodes q lq))
            (λ g j lj. record { entry = entry_stays s w (Frame_free f) g j sim.reached gd refl lj; line = refl; noticed = refl })
            (record { job = refl; want = λ g j. (let q = mv.want g j in grind arith); acks = λ g j. (let q = mv.acks g j in grind arith); page_table = mv.page_table; holders = mv.holders; role = λ g. (let q = mv.role g in grind (arith, nat_tests)); sharing = mv.sharing; holder_is = mv.holder_is })
            (record { job = tt; table = sim.bounds.table })
            (keeps_none s.nodes cpu mover m (owns e) (λ g j q ow. absurd (cc)) (λ g j q. refl) (λ q. refl) (λ g j q c. absurd (cc)) (λ g j. grind arith) (λ g j. refl))
            (rest_one s cpu mover w e x ms sim.flight (λ p c. changed_free f w.pages e refl p (or_left (owns e p) (touches w.pages e p) c)) refl)
            (tt, λ p i c st. absurd (let same = changed_free f w.pages e refl p c in let st2 : stands_at z CommandAt ≡ true = subst (λ (u : Place). stands_at z u ≡ true) same st in cc))))),
      )
