-- Rows that end a request whose answer alone ends it: a shared line, a refusal, and the answer that the page has moved away.
use Rattle.std.proofs.Common.{◌≡◌, ℕ, ◌+◌, ◌<◌, true, false, arith, ◌≢◌, inr, refl, List, [], ◌∷◌, ◌++◌, Some}
use Rattle.std.proofs.lemmas.Bool.Decides.{nat_tests}
use Rattle.og_block.specs.State.{put, NoCopy, Shared, Idle, Reading, Upgrading, SharedReply, NegativeAck, PoisonError, NoResponse, NoIntervention}
use Rattle.og_block.specs.Rows.{Row as BlockRow, is_upgrading, Fill_shared, Again_shared, Again_refused, Again_upgrade_refused, Poisoned}
use Rattle.og_block.specs.Invariant.{Asks}
use Rattle.og_block.specs.Message.{Asked}
use Rattle.og_pages.specs.State.{State as Pages, Outstanding}
use Rattle.og_pages.specs.Rows.{Tlb_forget}
use Rattle.og_whole.specs.Events.{World, Event, Page, On, guard, apply}
use Rattle.og_whole.specs.Link.{Invariant}
use Rattle.og_whole.specs.Messages.{OfBlock}
use Rattle.og_whole.proofs.Runs.{reached}
use Rattle.og_relate.specs.Data.{Post, Setup, GotShared, GotNak, GotError, Request, Cpu, Mover, HomeSide, Harts}
use Rattle.og_relate.specs.Places.{Place, AskAt, kept, is_at}
use Rattle.og_relate.specs.Sim.{Sim, NodeShows}
use Rattle.og_relate.specs.Owes.{changes}
use Rattle.og_relate.specs.Sides.{owns}
use Rattle.og_relate.specs.Goes.{made_of}
use Rattle.og_relate.specs.Node.{filled, ended, dropped, forget_page, read_made}
use Rattle.og_relate.proofs.Fill.{is_answer, end_row, apart_kept, apart_response}
use Rattle.og_relate.proofs.Fewer.{fewer_node}
use Rattle.og_relate.proofs.Messages.{rest_all}
use Rattle.og_relate.proofs.Rows.{cpu_row}
use Rattle.og_relate.proofs.Parts.{apart_number, self_number}

module _ {L : Type 0} where
  changed_fill_shared : (p f k page : ℕ) (l : L) (s : Pages L) (e : Event L) → e ≡ On page 0 f k (Fill_shared p l) → (x : Place) → changes s e x ≡ true → is_answer f k p x ≡ true
  changed_fill_shared p f k page l s e is x o = grind (arith, nat_tests)

  changed_again_shared : (p f k page : ℕ) (l : L) (s : Pages L) (e : Event L) → e ≡ On page 0 f k (Again_shared p l) → (x : Place) → changes s e x ≡ true → is_answer f k p x ≡ true
  changed_again_shared p f k page l s e is x o = grind (arith, nat_tests)

  changed_again_refused : (p f k page : ℕ) (s : Pages L) (e : Event L) → e ≡ On page 0 f k (Again_refused p) → (x : Place) → changes s e x ≡ true → is_answer f k p x ≡ true
  changed_again_refused p f k page s e is x o = grind (arith, nat_tests)

  changed_again_upgrade_refused : (p f k page : ℕ) (s : Pages L) (e : Event L) → e ≡ On page 0 f k (Again_upgrade_refused p) → (x : Place) → changes s e x ≡ true → is_answer f k p x ≡ true
  changed_again_upgrade_refused p f k page s e is x o = grind (arith, nat_tests)

  changed_poisoned : (p f k page : ℕ) (s : Pages L) (e : Event L) → e ≡ On page 0 f k (Poisoned p) → (x : Place) → changes s e x ≡ true → is_answer f k p x ≡ true
  changed_poisoned p f k page s e is x o = grind (arith, nat_tests)

module _ {L : Type 0} {H : Type 0} where
  pub fill_shared : (s : Setup) (harts : Harts L H) (cpu : ℕ → Cpu L H) (home : ℕ → HomeSide L) (mover : Mover L) (w : World L) (p f k : ℕ) (r : Request L) (l : L) (ms : List (Post L)) →
      Sim s harts (record { cpu = cpu; home = home; mover = mover; flight = ms }) w → p < s.nodes → (cpu p).request ≡ Some r → is_at f k r ≡ true → r.held ≡ NoIntervention →
      r.want ≡ Reading false → r.got ≡ GotShared l →
      (e : Event L) × guard (s.nodes + 1) s.nodes s.pages s.blocks e w × (made_of e ≡ read_made harts (cpu p) k l ∷ []) × Sim s harts (record { cpu = put cpu p (filled harts (cpu p) r (Shared l) l); home = home; mover = mover; flight = ms ++ [] }) (apply (s.nodes + 1) s.nodes e w)
  fill_shared s harts cpu home mover w p f k r l ms sim lp rq at hd wn gt =
      let page : ℕ = harts.page (cpu p).hart in
      let row : BlockRow L = Fill_shared p l in
      let n : NodeShows harts p (cpu p) w = sim.nodes p lp in
      let np = apart_number s.nodes p lp in
      let pp = self_number p in
      let lp1 : p < s.nodes + 1 = omega arith in
      let ef : r.frame ≡ f = grind (arith, nat_tests) in
      let ek : r.number ≡ k = grind (arith, nat_tests) in
      let ka : kept s.nodes cpu mover (AskAt f k p) ≡ Some (OfBlock f k (Asked p (SharedReply l))) = grind arith in
      let st = sim.keeps (AskAt f k p) (OfBlock f k (Asked p (SharedReply l))) ka in
      let w1 : (w.block f k).want p ≡ Reading false = (let y = n.want f k in grind arith) in
      let cp = n.copy f k in
      let rp : w.pages.request p ≡ Outstanding page f k = (let y = n.request in grind arith) in
      let inv : Invariant L (s.nodes + 1) s.nodes s.pages s.blocks w = reached (s.nodes + 1) s.nodes s.pages s.blocks w sim.reached in
      let a : Asks (w.block f k) p = ((inv.link f k st.1).invariant.each p lp1).asks in
      let w2 : (w.block f k).ask p ≡ (SharedReply l) = st.2.1 in
      let nr : (w.block f k).response p ≡ NoResponse = grind arith in
      let ac : (w.block f k).acks p ≡ 0 = grind arith in
      let gd : guard (s.nodes + 1) s.nodes s.pages s.blocks (On page 0 f k row) w = ((w1, w2), lp1, st.1, rp) in (
        On page 0 f k row,
        gd,
        refl,
        end_row s harts cpu home mover w page 0 f k row p r (filled harts (cpu p) r (Shared l) l) (Shared l) ms sim gd lp st.0 refl refl refl refl rq at hd
            refl refl (λ y. refl) refl refl (λ g j. grind arith)
            (grind arith) (grind arith) ac refl (grind arith) (grind arith) (grind arith) (grind arith)
            (changed_fill_shared p f k page l w.pages (On page 0 f k row) refl) (grind (arith, nat_tests)) (grind (arith, nat_tests)) (grind (arith, nat_tests)) (grind (arith, nat_tests))
            (apart_kept s cpu mover w ms (AskAt f k p) (λ e. absurd (cc)) sim.flight)
            (apart_response s cpu mover w ms f k p nr sim.flight),
      )

  pub again_shared : (s : Setup) (harts : Harts L H) (cpu : ℕ → Cpu L H) (home : ℕ → HomeSide L) (mover : Mover L) (w : World L) (p f k : ℕ) (r : Request L) (l : L) (ms : List (Post L)) →
      Sim s harts (record { cpu = cpu; home = home; mover = mover; flight = ms }) w → p < s.nodes → (cpu p).request ≡ Some r → is_at f k r ≡ true → r.held ≡ NoIntervention →
      r.want ≡ Reading true → r.got ≡ GotShared l →
      (e : Event L) × guard (s.nodes + 1) s.nodes s.pages s.blocks e w × (made_of e ≡ []) × Sim s harts (record { cpu = put cpu p (ended (cpu p)); home = home; mover = mover; flight = ms ++ [] }) (apply (s.nodes + 1) s.nodes e w)
  again_shared s harts cpu home mover w p f k r l ms sim lp rq at hd wn gt =
      let page : ℕ = harts.page (cpu p).hart in
      let row : BlockRow L = Again_shared p l in
      let n : NodeShows harts p (cpu p) w = sim.nodes p lp in
      let np = apart_number s.nodes p lp in
      let pp = self_number p in
      let lp1 : p < s.nodes + 1 = omega arith in
      let ef : r.frame ≡ f = grind (arith, nat_tests) in
      let ek : r.number ≡ k = grind (arith, nat_tests) in
      let ka : kept s.nodes cpu mover (AskAt f k p) ≡ Some (OfBlock f k (Asked p (SharedReply l))) = grind arith in
      let st = sim.keeps (AskAt f k p) (OfBlock f k (Asked p (SharedReply l))) ka in
      let w1 : (w.block f k).want p ≡ Reading true = (let y = n.want f k in grind arith) in
      let cp = n.copy f k in
      let rp : w.pages.request p ≡ Outstanding page f k = (let y = n.request in grind arith) in
      let inv : Invariant L (s.nodes + 1) s.nodes s.pages s.blocks w = reached (s.nodes + 1) s.nodes s.pages s.blocks w sim.reached in
      let a : Asks (w.block f k) p = ((inv.link f k st.1).invariant.each p lp1).asks in
      let w2 : (w.block f k).ask p ≡ (SharedReply l) = st.2.1 in
      let nr : (w.block f k).response p ≡ NoResponse = grind arith in
      let ac : (w.block f k).acks p ≡ 0 = grind arith in
      let gd : guard (s.nodes + 1) s.nodes s.pages s.blocks (On page 0 f k row) w = ((w1, w2), lp1, st.1, ((λ x. absurd (omega arith)), (λ x. rp))) in (
        On page 0 f k row,
        gd,
        refl,
        end_row s harts cpu home mover w page 0 f k row p r (ended (cpu p)) ((cpu p).cache f k) ms sim gd lp st.0 refl refl refl np rq at hd
            refl refl (λ y. refl) refl refl (λ g j. grind (arith, nat_tests))
            cp (grind arith) ac refl (grind arith) (grind arith) (grind arith) (grind arith)
            (changed_again_shared p f k page l w.pages (On page 0 f k row) refl) (grind (arith, nat_tests)) (grind (arith, nat_tests)) (grind (arith, nat_tests)) (grind (arith, nat_tests))
            (apart_kept s cpu mover w ms (AskAt f k p) (λ e. absurd (cc)) sim.flight)
            (apart_response s cpu mover w ms f k p nr sim.flight),
      )

  pub again_refused : (s : Setup) (harts : Harts L H) (cpu : ℕ → Cpu L H) (home : ℕ → HomeSide L) (mover : Mover L) (w : World L) (p f k : ℕ) (r : Request L) (ms : List (Post L)) →
      Sim s harts (record { cpu = cpu; home = home; mover = mover; flight = ms }) w → p < s.nodes → (cpu p).request ≡ Some r → is_at f k r ≡ true → r.held ≡ NoIntervention →
      r.want ≢ Idle → is_upgrading r.want ≡ false → r.got ≡ GotNak →
      (e : Event L) × guard (s.nodes + 1) s.nodes s.pages s.blocks e w × (made_of e ≡ []) × Sim s harts (record { cpu = put cpu p (ended (cpu p)); home = home; mover = mover; flight = ms ++ [] }) (apply (s.nodes + 1) s.nodes e w)
  again_refused s harts cpu home mover w p f k r ms sim lp rq at hd wn wu gt =
      let page : ℕ = harts.page (cpu p).hart in
      let row : BlockRow L = Again_refused p in
      let n : NodeShows harts p (cpu p) w = sim.nodes p lp in
      let np = apart_number s.nodes p lp in
      let pp = self_number p in
      let lp1 : p < s.nodes + 1 = omega arith in
      let ef : r.frame ≡ f = grind (arith, nat_tests) in
      let ek : r.number ≡ k = grind (arith, nat_tests) in
      let ka : kept s.nodes cpu mover (AskAt f k p) ≡ Some (OfBlock f k (Asked p NegativeAck)) = grind arith in
      let st = sim.keeps (AskAt f k p) (OfBlock f k (Asked p NegativeAck)) ka in
      let w1 : (w.block f k).want p ≡ r.want = (let y = n.want f k in grind arith) in
      let cp = n.copy f k in
      let rp : w.pages.request p ≡ Outstanding page f k = (let y = n.request in grind arith) in
      let inv : Invariant L (s.nodes + 1) s.nodes s.pages s.blocks w = reached (s.nodes + 1) s.nodes s.pages s.blocks w sim.reached in
      let a : Asks (w.block f k) p = ((inv.link f k st.1).invariant.each p lp1).asks in
      let w2 : (w.block f k).ask p ≡ NegativeAck = st.2.1 in
      let nr : (w.block f k).response p ≡ NoResponse = grind arith in
      let ac : (w.block f k).acks p ≡ 0 = grind arith in
      let gd : guard (s.nodes + 1) s.nodes s.pages s.blocks (On page 0 f k row) w = ((w2, (let u = wu in cc)), lp1, st.1, ((λ x. absurd (omega arith)), (λ x. rp))) in (
        On page 0 f k row,
        gd,
        refl,
        end_row s harts cpu home mover w page 0 f k row p r (ended (cpu p)) ((cpu p).cache f k) ms sim gd lp st.0 refl refl refl np rq at hd
            refl refl (λ y. refl) refl refl (λ g j. grind (arith, nat_tests))
            cp (grind arith) ac refl (grind arith) (grind arith) (grind arith) (grind arith)
            (changed_again_refused p f k page w.pages (On page 0 f k row) refl) (grind (arith, nat_tests)) (grind (arith, nat_tests)) (grind (arith, nat_tests)) (grind (arith, nat_tests))
            (apart_kept s cpu mover w ms (AskAt f k p) (λ e. absurd (cc)) sim.flight)
            (apart_response s cpu mover w ms f k p nr sim.flight),
      )

  pub again_upgrade_refused : (s : Setup) (harts : Harts L H) (cpu : ℕ → Cpu L H) (home : ℕ → HomeSide L) (mover : Mover L) (w : World L) (p f k : ℕ) (r : Request L) (ms : List (Post L)) →
      Sim s harts (record { cpu = cpu; home = home; mover = mover; flight = ms }) w → p < s.nodes → (cpu p).request ≡ Some r → is_at f k r ≡ true → r.held ≡ NoIntervention →
      r.want ≡ Upgrading → r.got ≡ GotNak →
      (e : Event L) × guard (s.nodes + 1) s.nodes s.pages s.blocks e w × (made_of e ≡ []) × Sim s harts (record { cpu = put cpu p (dropped (cpu p) f k); home = home; mover = mover; flight = ms ++ [] }) (apply (s.nodes + 1) s.nodes e w)
  again_upgrade_refused s harts cpu home mover w p f k r ms sim lp rq at hd wn gt =
      let page : ℕ = harts.page (cpu p).hart in
      let row : BlockRow L = Again_upgrade_refused p in
      let n : NodeShows harts p (cpu p) w = sim.nodes p lp in
      let np = apart_number s.nodes p lp in
      let pp = self_number p in
      let lp1 : p < s.nodes + 1 = omega arith in
      let ef : r.frame ≡ f = grind (arith, nat_tests) in
      let ek : r.number ≡ k = grind (arith, nat_tests) in
      let ka : kept s.nodes cpu mover (AskAt f k p) ≡ Some (OfBlock f k (Asked p NegativeAck)) = grind arith in
      let st = sim.keeps (AskAt f k p) (OfBlock f k (Asked p NegativeAck)) ka in
      let w1 : (w.block f k).want p ≡ Upgrading = (let y = n.want f k in grind arith) in
      let cp = n.copy f k in
      let rp : w.pages.request p ≡ Outstanding page f k = (let y = n.request in grind arith) in
      let inv : Invariant L (s.nodes + 1) s.nodes s.pages s.blocks w = reached (s.nodes + 1) s.nodes s.pages s.blocks w sim.reached in
      let a : Asks (w.block f k) p = ((inv.link f k st.1).invariant.each p lp1).asks in
      let w2 : (w.block f k).ask p ≡ NegativeAck = st.2.1 in
      let nr : (w.block f k).response p ≡ NoResponse = grind arith in
      let ac : (w.block f k).acks p ≡ 0 = grind arith in
      let gd : guard (s.nodes + 1) s.nodes s.pages s.blocks (On page 0 f k row) w = ((w2, (let u = w1 in grind arith)), lp1, st.1, ((λ x. absurd (omega arith)), (λ x. rp))) in (
        On page 0 f k row,
        gd,
        refl,
        end_row s harts cpu home mover w page 0 f k row p r (dropped (cpu p) f k) (NoCopy) ms sim gd lp st.0 refl refl refl np rq at hd
            refl refl (λ y. refl) refl refl (λ g j. grind arith)
            (grind arith) (grind arith) ac refl (grind arith) (grind arith) (grind arith) (grind arith)
            (changed_again_upgrade_refused p f k page w.pages (On page 0 f k row) refl) (grind (arith, nat_tests)) (grind (arith, nat_tests)) (grind (arith, nat_tests)) (grind (arith, nat_tests))
            (apart_kept s cpu mover w ms (AskAt f k p) (λ e. absurd (cc)) sim.flight)
            (apart_response s cpu mover w ms f k p nr sim.flight),
      )

  pub poisoned : (s : Setup) (harts : Harts L H) (cpu : ℕ → Cpu L H) (home : ℕ → HomeSide L) (mover : Mover L) (w : World L) (p f k : ℕ) (r : Request L) (ms : List (Post L)) →
      Sim s harts (record { cpu = cpu; home = home; mover = mover; flight = ms }) w → p < s.nodes → (cpu p).request ≡ Some r → is_at f k r ≡ true → r.held ≡ NoIntervention →
      r.want ≢ Idle → r.got ≡ GotError →
      (e : Event L) × guard (s.nodes + 1) s.nodes s.pages s.blocks e w × (made_of e ≡ []) × Sim s harts (record { cpu = put cpu p (ended (cpu p)); home = home; mover = mover; flight = ms ++ [] }) (apply (s.nodes + 1) s.nodes e w)
  poisoned s harts cpu home mover w p f k r ms sim lp rq at hd wn gt =
      let page : ℕ = harts.page (cpu p).hart in
      let row : BlockRow L = Poisoned p in
      let n : NodeShows harts p (cpu p) w = sim.nodes p lp in
      let np = apart_number s.nodes p lp in
      let pp = self_number p in
      let lp1 : p < s.nodes + 1 = omega arith in
      let ef : r.frame ≡ f = grind (arith, nat_tests) in
      let ek : r.number ≡ k = grind (arith, nat_tests) in
      let ka : kept s.nodes cpu mover (AskAt f k p) ≡ Some (OfBlock f k (Asked p PoisonError)) = grind arith in
      let st = sim.keeps (AskAt f k p) (OfBlock f k (Asked p PoisonError)) ka in
      let w1 : (w.block f k).want p ≡ r.want = (let y = n.want f k in grind arith) in
      let cp = n.copy f k in
      let rp : w.pages.request p ≡ Outstanding page f k = (let y = n.request in grind arith) in
      let inv : Invariant L (s.nodes + 1) s.nodes s.pages s.blocks w = reached (s.nodes + 1) s.nodes s.pages s.blocks w sim.reached in
      let a : Asks (w.block f k) p = ((inv.link f k st.1).invariant.each p lp1).asks in
      let w2 : (w.block f k).ask p ≡ PoisonError = st.2.1 in
      let nr : (w.block f k).response p ≡ NoResponse = grind arith in
      let ac : (w.block f k).acks p ≡ 0 = grind arith in
      let gd : guard (s.nodes + 1) s.nodes s.pages s.blocks (On page 0 f k row) w = (w2, lp1, st.1, ((λ x. absurd (omega arith)), (λ x. rp))) in (
        On page 0 f k row,
        gd,
        refl,
        end_row s harts cpu home mover w page 0 f k row p r (ended (cpu p)) ((cpu p).cache f k) ms sim gd lp st.0 refl refl refl np rq at hd
            refl refl (λ y. refl) refl refl (λ g j. grind (arith, nat_tests))
            cp (grind arith) ac refl (grind arith) (grind arith) (grind arith) (grind arith)
            (changed_poisoned p f k page w.pages (On page 0 f k row) refl) (grind (arith, nat_tests)) (grind (arith, nat_tests)) (grind (arith, nat_tests)) (grind (arith, nat_tests))
            (apart_kept s cpu mover w ms (AskAt f k p) (λ e. absurd (cc)) sim.flight)
            (apart_response s cpu mover w ms f k p nr sim.flight),
      )

  -- the translation of a page is dropped
  pub page_forgotten : (s : Setup) (harts : Harts L H) (cpu : ℕ → Cpu L H) (home : ℕ → HomeSide L) (mover : Mover L) (w : World L) (p : ℕ) (ms : List (Post L)) →
      Sim s harts (record { cpu = cpu; home = home; mover = mover; flight = ms }) w → p < s.nodes →
      guard (s.nodes + 1) s.nodes s.pages s.blocks (Page (Tlb_forget p (harts.page (cpu p).hart))) w × Sim s harts (record { cpu = put cpu p (forget_page harts (cpu p)); home = home; mover = mover; flight = ms ++ [] }) (apply (s.nodes + 1) s.nodes (Page (Tlb_forget p (harts.page (cpu p).hart))) w)
  page_forgotten s harts cpu home mover w p ms sim lp =
      let page : ℕ = harts.page (cpu p).hart in
      let e : Event L = Page (Tlb_forget p page) in
      let n : NodeShows harts p (cpu p) w = sim.nodes p lp in
      let pp = self_number p in
      let gd : guard (s.nodes + 1) s.nodes s.pages s.blocks e w = (tt, refl) in
      let c : Cpu L H = forget_page harts (cpu p) in (
        gd,
        cpu_row s harts cpu home mover ms w e p c ms [] sim gd
            (λ q ne. record { copy = λ a b. refl; want = λ a b. refl; acks = λ a b. refl; victim = λ a b. refl; request = refl; slot = refl; tlb = λ y. grind arith; walk = refl })
            (λ a b. record { entry = refl; line = refl; noticed = refl })
            (record { job = refl; want = λ a b. refl; acks = λ a b. refl; page_table = λ y. refl; holders = λ a b. refl; role = refl; sharing = λ a b. refl })
            (record { copy = n.copy; want = n.want; acks = n.acks; victim = n.victim; request = n.request; slot = n.slot; tlb = λ y. (let a = n.tlb y in grind (arith, nat_tests)); walk = n.walk })
            (record { cached = (sim.tidy p lp).cached; named = λ y u e. (sim.tidy p lp).named y u (grind arith); asker = (sim.tidy p lp).asker })
            (fewer_node s.nodes cpu mover p c (owns e) lp (λ y o. absurd (cc)) (λ a b. inr (refl, refl)) (λ a b. inr (refl, refl)) (λ a b. inr (refl, refl)) (inr (refl, refl)))
            (rest_all s cpu mover w e ms sim.flight (λ y. refl))
            (tt, λ x i ch st. absurd (cc)),
      )
