-- A request ends at its node.
use Rattle.std.proofs.Common.{◌≡◌, ℕ, ◌+◌, ◌<◌, Bool, true, false, cond, nat_eq, arith, ◌≢◌, ◌⊎◌, inl, inr, refl, sym, subst, ◌&&◌, List, [], ◌∷◌, ◌++◌, None, Some}
use Rattle.std.proofs.lemmas.Bool.{cases_Bool}
use Rattle.std.proofs.lemmas.Bool.Decides.{nat_tests}
use Rattle.og_slots.specs.Flight.{Apart}
use Rattle.og_slots.proofs.Flight.{fits_map, fits_and, apart_other}
use Rattle.og_block.specs.State.{put, Copy, Shared, Dirty, Idle, Writing, Upgrading, ExclusiveReply, UpgradeReply, NoResponse, NoIntervention}
use Rattle.og_block.specs.Rows.{Row as BlockRow, apply as block_apply, actor_of, has_response, Fill_exclusive, Fill_upgrade, Fill_upgrade_line}
use Rattle.og_block.specs.Invariant.{Asks}
use Rattle.og_block.specs.Message.{Asked, Answered, is_sent}
use Rattle.og_pages.specs.State.{NoRequest, Outstanding}
use Rattle.og_pages.specs.State.{State as Pages}
use Rattle.og_whole.specs.Kind.{kind}
use Rattle.og_whole.specs.Events.{World, Event, On, guard, apply}
use Rattle.og_whole.specs.Link.{Invariant}
use Rattle.og_whole.specs.Messages.{Message, OfBlock}
use Rattle.og_whole.proofs.Runs.{reached}
use Rattle.og_relate.specs.Data.{Post, Setup, GotExclusive, GotUpgrade, Request, Cpu, Mover, HomeSide, Harts}
use Rattle.og_relate.specs.Places.{Place, AskAt, ResponseAt, InterventionAt, DropAt, place_of, content_of, slot_of, Stands, stands_at, kept, kept_ask, kept_response, kept_intervention, Flies, is_at}
use Rattle.og_relate.specs.Sides.{here, owns, touches, is_home, column_of, is_mover_kind}
use Rattle.og_relate.specs.Sim.{AskerTidy, Sim, NodeShows, WalkShows, Flight}
use Rattle.og_relate.specs.Owes.{changes}
use Rattle.og_relate.specs.Goes.{FewerAt, made_of}
use Rattle.og_relate.specs.Node.{filled, write_made}
use Rattle.og_relate.proofs.Rows.{node_row}
use Rattle.og_relate.proofs.Parts.{apart_number, self_number}
use Rattle.og_relate.proofs.Fewer.{fewer_none, fewer_ended, fewer_node, column_at}
use Rattle.og_relate.proofs.Messages.{or_left}
use Rattle.og_relate.proofs.Home.{here_self}

-- a row that takes from nothing but the node's places of the block
abbrev pub is_answer : ℕ → ℕ → ℕ → Place → Bool
is_answer f k p (AskAt g j q) = here f k g j && nat_eq q p
is_answer f k p (ResponseAt g j q) = here f k g j && nat_eq q p
is_answer f k p x = false

pub answer_places : (f k p : ℕ) (x : Place) → is_answer f k p x ≡ true → (x ≡ AskAt f k p) ⊎ (x ≡ ResponseAt f k p)
answer_places f k p (AskAt g j q) o = inl (let a : g ≡ f = grind (arith, nat_tests) in let b : j ≡ k = grind (arith, nat_tests) in let c : q ≡ p = grind (arith, nat_tests) in cc)
answer_places f k p (ResponseAt g j q) o = inr (let a : g ≡ f = grind (arith, nat_tests) in let b : j ≡ k = grind (arith, nat_tests) in let c : q ≡ p = grind (arith, nat_tests) in cc)
answer_places f k p x o = absurd (cc)

module _ {L : Type 0} where
  pub no_response : (s : Setup) (w : World L) (c : Message L) (f k p : ℕ) → (w.block f k).response p ≡ NoResponse → Stands s w c → place_of c ≢ ResponseAt f k p
  no_response s w c f k p e st = by c st
    where
      by : (c : Message L) → Stands s w c → place_of c ≢ ResponseAt f k p
      by (OfBlock g j (Answered q v)) st = λ x. st.2.2 (let a : g ≡ f = grind arith in let b : j ≡ k = grind arith in let d : q ≡ p = grind arith in let y = st.2.1 in cc)
      by c st = λ x. absurd (grind arith)

  changed_fill : (p f k page : ℕ) (v l : L) (d : ℕ) (s : Pages L) (e : Event L) → e ≡ On page 0 f k (Fill_exclusive p v l d) → (x : Place) → changes s e x ≡ true → is_answer f k p x ≡ true
  changed_fill p f k page v l d s e is x o = grind (arith, nat_tests)

  changed_upgrade_line : (p f k page : ℕ) (v l : L) (d : ℕ) (s : Pages L) (e : Event L) → e ≡ On page 0 f k (Fill_upgrade_line p v l d) → (x : Place) → changes s e x ≡ true → is_answer f k p x ≡ true
  changed_upgrade_line p f k page v l d s e is x o = grind (arith, nat_tests)

  changed_upgrade : (p f k page : ℕ) (v l : L) (d : ℕ) (s : Pages L) (e : Event L) → e ≡ On page 0 f k (Fill_upgrade p v l d) → (x : Place) → changes s e x ≡ true → is_answer f k p x ≡ true
  changed_upgrade p f k page v l d s e is x o = grind (arith, nat_tests)

module _ {L : Type 0} {H : Type 0} where
  -- what was received is not in flight
  pub apart_kept : (s : Setup) (cpu : ℕ → Cpu L H) (mover : Mover L) (w : World L) (ms : List (Post L)) (x : Place) → kept s.nodes cpu mover x ≢ None → Flight s cpu mover w ms → Apart (slot_of s.nodes) x ms
  apart_kept s cpu mover w ms x k f = apart_other (slot_of s.nodes) x (Flies s cpu mover w) (λ y fl e. k (let z = fl.1 in cc)) ms f

  pub apart_response : (s : Setup) (cpu : ℕ → Cpu L H) (mover : Mover L) (w : World L) (ms : List (Post L)) (f k p : ℕ) → (w.block f k).response p ≡ NoResponse → Flight s cpu mover w ms → Apart (slot_of s.nodes) (ResponseAt f k p) ms
  apart_response s cpu mover w ms f k p e fl = apart_other (slot_of s.nodes) (ResponseAt f k p) (Flies s cpu mover w) (λ y z. no_response s w (content_of s.nodes y) f k p e z.0.0) ms fl

  -- a request's end: its row takes from the places of reply and response, and the node has no request any more
  pub end_row : (s : Setup) (harts : Harts L H) (cpu : ℕ → Cpu L H) (home : ℕ → HomeSide L) (mover : Mover L) (w : World L) (page other f k : ℕ) (row : BlockRow L) (p : ℕ) (r : Request L) (c : Cpu L H) (x : Copy L) (ms : List (Post L)) →
      Sim s harts (record { cpu = cpu; home = home; mover = mover; flight = ms }) w → guard (s.nodes + 1) s.nodes s.pages s.blocks (On page other f k row) w → p < s.nodes → f < s.frames →
      is_home row ≡ false → column_of row ≡ p → actor_of row ≡ p → is_mover_kind (kind row) s.nodes ≡ false →
      (cpu p).request ≡ Some r → is_at f k r ≡ true → r.held ≡ NoIntervention →
      c.request ≡ None → c.slot ≡ (cpu p).slot → ((y : ℕ) → c.tlb y ≡ (cpu p).tlb y) → c.walk ≡ (cpu p).walk → c.drop ≡ (cpu p).drop → ((g j : ℕ) → c.cache g j ≡ cond (here f k g j) x ((cpu p).cache g j)) →
      (block_apply (s.nodes + 1) row (w.block f k)).copy p ≡ x → (block_apply (s.nodes + 1) row (w.block f k)).want p ≡ Idle → (block_apply (s.nodes + 1) row (w.block f k)).acks p ≡ 0 → (block_apply (s.nodes + 1) row (w.block f k)).victim p ≡ (w.block f k).victim p →
      (apply (s.nodes + 1) s.nodes (On page other f k row) w).pages.request p ≡ NoRequest → (apply (s.nodes + 1) s.nodes (On page other f k row) w).pages.victim p ≡ w.pages.victim p → (apply (s.nodes + 1) s.nodes (On page other f k row) w).pages.tlb ≡ w.pages.tlb → (apply (s.nodes + 1) s.nodes (On page other f k row) w).pages.walk ≡ w.pages.walk →
      ((y : Place) → changes w.pages (On page other f k row) y ≡ true → is_answer f k p y ≡ true) → owns (On page other f k row) (AskAt f k p) ≡ true → owns (On page other f k row) (ResponseAt f k p) ≡ true →
      is_sent ((block_apply (s.nodes + 1) row (w.block f k)).ask p) ≡ false → has_response ((block_apply (s.nodes + 1) row (w.block f k)).response p) ≡ false →
      Apart (slot_of s.nodes) (AskAt f k p) ms → Apart (slot_of s.nodes) (ResponseAt f k p) ms →
      Sim s harts (record { cpu = put cpu p c; home = home; mover = mover; flight = ms ++ [] }) (apply (s.nodes + 1) s.nodes (On page other f k row) w)
  end_row s harts cpu home mover w page other f k row p r c x ms sim gd lp lf nh col act mk rq at hd cr cs ct cw cd cc_ hcopy hwant hacks hvictim preq pvic ptlb pwalk changed own_ask own_response no_ask no_answer aa ar =
      let e : Event L = On page other f k row in
      let z : World L = apply (s.nodes + 1) s.nodes e w in
      let n : NodeShows harts p (cpu p) w = sim.nodes p lp in
      let owned : (y : Place) → owns e y ≡ true → is_answer f k p y ≡ true = λ y o. changed y (or_left (owns e y) (touches w.pages e y) o) in
      let shows : NodeShows harts p c z = record {
        copy = λ g j. (let t = column_at (λ b. b.copy p) (s.nodes + 1) s.nodes page other f k row w g j in let y = n.copy g j in let v = cc_ g j in grind arith);
        want = λ g j. (let t = column_at (λ b. b.want p) (s.nodes + 1) s.nodes page other f k row w g j in let y = n.want g j in grind (arith, nat_tests));
        acks = λ g j. (let t = column_at (λ b. b.acks p) (s.nodes + 1) s.nodes page other f k row w g j in let y = n.acks g j in grind (arith, nat_tests));
        victim = λ g j. (let t = column_at (λ b. b.victim p) (s.nodes + 1) s.nodes page other f k row w g j in let y = n.victim g j in let v = n.victim f k in grind (arith, nat_tests));
        request = grind arith;
        slot = (let y = n.slot in grind arith);
        tlb = λ y. (let a = n.tlb y in let b = ct y in cc);
        walk = (let y = n.walk in let a : c.walk ≡ (cpu p).walk = cw in subst (λ u. WalkShows u (z.pages.walk p)) (sym cw) (subst (λ u. WalkShows (cpu p).walk (u p)) (sym pwalk) n.walk));
      } in
      node_row s harts cpu home mover ms w page other f k row p c ms [] sim gd nh col lp (inr act) mk shows
      (record { cached = λ g j ne. elim (cases_Bool (here f k g j)) [ inl t ↦ (let e1 : g ≡ f = grind (arith, nat_tests) in let e2 : j ≡ k = grind (arith, nat_tests) in (subst (λ u. u < s.frames) (sym e1) lf, subst (λ u. u < s.blocks) (sym e2) gd.2)) | inr t ↦ (sim.tidy p lp).cached g j (λ v. ne (let y = cc_ g j in cc)) ]; named = λ y u e. (sim.tidy p lp).named y u (let a = ct y in cc); asker = subst (λ u. AskerTidy s u) (sym cr) tt })
      (fewer_node s.nodes cpu mover p c (owns e) lp (λ y o. (let a = answer_places f k p y (owned y o) in grind (arith, nat_tests)))
      (λ a b. (let now : kept_ask a b p c.request ≡ None = grind arith in subst (λ u. FewerAt u (kept_ask a b p (cpu p).request) (owns e (AskAt a b p))) (sym now) (fewer_ended (kept_ask a b p (cpu p).request) (owns e (AskAt a b p)) (λ o. (let ne : is_at a b r ≡ false = elim (cases_Bool (is_at a b r)) [ inl t ↦ absurd (let ea : a ≡ f = grind (arith, nat_tests) in let eb : b ≡ k = grind (arith, nat_tests) in let oo : owns e (AskAt f k p) ≡ false = subst (λ u. owns e (AskAt f u p) ≡ false) eb (subst (λ u. owns e (AskAt u b p) ≡ false) ea o) in cc) | inr t ↦ t ] in grind arith)))))
      (λ a b. (let now : kept_response a b p c.request ≡ None = grind arith in subst (λ u. FewerAt u (kept_response a b p (cpu p).request) (owns e (ResponseAt a b p))) (sym now) (fewer_ended (kept_response a b p (cpu p).request) (owns e (ResponseAt a b p)) (λ o. (let ne : is_at a b r ≡ false = elim (cases_Bool (is_at a b r)) [ inl t ↦ absurd (let ea : a ≡ f = grind (arith, nat_tests) in let eb : b ≡ k = grind (arith, nat_tests) in let oo : owns e (ResponseAt f k p) ≡ false = subst (λ u. owns e (ResponseAt f u p) ≡ false) eb (subst (λ u. owns e (ResponseAt u b p) ≡ false) ea o) in cc) | inr t ↦ t ] in grind arith)))))
      (λ a b. (let now : kept_intervention a b p c.request ≡ None = grind arith in let was : kept_intervention a b p (cpu p).request ≡ None = grind arith in subst (λ u. FewerAt u (kept_intervention a b p (cpu p).request) (owns e (InterventionAt a b p))) (sym now) (subst (λ u. FewerAt None u (owns e (InterventionAt a b p))) (sym was) (fewer_none (owns e (InterventionAt a b p))))))
      (inr ((cc), elim (cases_Bool (owns e (DropAt p))) [ inl t ↦ absurd (let a = owned (DropAt p) t in cc) | inr t ↦ t ]))) (
        (fits_map (slot_of s.nodes) (λ y. (Flies s cpu mover w y × (slot_of s.nodes y ≢ AskAt f k p)) × (slot_of s.nodes y ≢ ResponseAt f k p)) (λ y. Flies s cpu mover w y × (owns e (slot_of s.nodes y) ≡ false))
            (λ y h. (h.0.0, elim (cases_Bool (owns e (slot_of s.nodes y))) [ inl t ↦ elim (answer_places f k p (slot_of s.nodes y) (owned (slot_of s.nodes y) t)) [ inl v ↦ absurd (h.0.1 v) | inr v ↦ absurd (h.1 v) ] | inr t ↦ t ]))
            ms
            (fits_and (slot_of s.nodes) (ResponseAt f k p) (λ y. Flies s cpu mover w y × (slot_of s.nodes y ≢ AskAt f k p)) ms ar (fits_and (slot_of s.nodes) (AskAt f k p) (Flies s cpu mover w) ms aa sim.flight))),
        λ y o h. h,
      )
      (tt, λ y i ch st. elim (answer_places f k p y (changed y ch)) [ inl v ↦ absurd (let st2 : stands_at z (AskAt f k p) ≡ true = subst (λ u. stands_at z u ≡ true) v st in let q = column_at (λ b. b.ask p) (s.nodes + 1) s.nodes page other f k row w f k in let hs = here_self f k in cc) | inr v ↦ absurd (let st2 : stands_at z (ResponseAt f k p) ≡ true = subst (λ u. stands_at z u ≡ true) v st in let q = column_at (λ b. b.response p) (s.nodes + 1) s.nodes page other f k row w f k in let hs = here_self f k in cc) ])

  -- ---- an exclusive read with its line and all acknowledgements

  pub fill_exclusive : (s : Setup) (harts : Harts L H) (cpu : ℕ → Cpu L H) (home : ℕ → HomeSide L) (mover : Mover L) (w : World L) (p f k : ℕ) (r : Request L) (l : L) (d : ℕ) (ms : List (Post L)) →
      Sim s harts (record { cpu = cpu; home = home; mover = mover; flight = ms }) w → p < s.nodes → (cpu p).request ≡ Some r → is_at f k r ≡ true → r.held ≡ NoIntervention →
      r.want ≡ Writing → r.got ≡ GotExclusive l d → r.acks ≡ d →
      (e : Event L) × guard (s.nodes + 1) s.nodes s.pages s.blocks e w × (made_of e ≡ write_made harts (cpu p) k l ∷ []) × Sim s harts (record { cpu = put cpu p (filled harts (cpu p) r (Dirty (harts.line_after (cpu p).hart l)) l); home = home; mover = mover; flight = ms ++ [] }) (apply (s.nodes + 1) s.nodes e w)
  fill_exclusive s harts cpu home mover w p f k r l d ms sim lp rq at hd wn gt ac =
      let v : L = harts.line_after (cpu p).hart l in
      let page : ℕ = harts.page (cpu p).hart in
      let row : BlockRow L = Fill_exclusive p v l d in
      let n : NodeShows harts p (cpu p) w = sim.nodes p lp in
      let np = apart_number s.nodes p lp in
      let pp = self_number p in
      let lp1 : p < s.nodes + 1 = omega arith in
      let ef : r.frame ≡ f = grind (arith, nat_tests) in
      let ek : r.number ≡ k = grind (arith, nat_tests) in
      let ka : kept s.nodes cpu mover (AskAt f k p) ≡ Some (OfBlock f k (Asked p (ExclusiveReply l d))) = grind arith in
      let st = sim.keeps (AskAt f k p) (OfBlock f k (Asked p (ExclusiveReply l d))) ka in
      let w1 : (w.block f k).want p ≡ Writing = (let y = n.want f k in grind arith) in
      let w2 : (w.block f k).ask p ≡ ExclusiveReply l d = st.2.1 in
      let w3 : (w.block f k).acks p ≡ d = (let y = n.acks f k in grind arith) in
      let rp : w.pages.request p ≡ Outstanding page f k = (let y = n.request in grind arith) in
      let inv : Invariant L (s.nodes + 1) s.nodes s.pages s.blocks w = reached (s.nodes + 1) s.nodes s.pages s.blocks w sim.reached in
      let a : Asks (w.block f k) p = ((inv.link f k st.1).invariant.each p lp1).asks in
      let nr : (w.block f k).response p ≡ NoResponse = grind arith in
      let gd : guard (s.nodes + 1) s.nodes s.pages s.blocks (On page 0 f k row) w = ((w1, w2, w3), lp1, st.1, rp) in (
        On page 0 f k row,
        gd,
        refl,
        end_row s harts cpu home mover w page 0 f k row p r (filled harts (cpu p) r (Dirty v) l) (Dirty v) ms sim gd lp st.0 refl refl refl refl rq at hd
            refl refl (λ y. refl) refl refl (λ g j. grind arith)
            (grind arith) (grind arith) (grind arith) refl (grind arith) refl refl refl
            (changed_fill p f k page v l d w.pages (On page 0 f k row) refl) (grind (arith, nat_tests)) (grind (arith, nat_tests)) (grind (arith, nat_tests)) (grind (arith, nat_tests))
            (apart_kept s cpu mover w ms (AskAt f k p) (λ e. absurd (cc)) sim.flight)
            (apart_response s cpu mover w ms f k p nr sim.flight),
      )

  pub fill_upgrade_line : (s : Setup) (harts : Harts L H) (cpu : ℕ → Cpu L H) (home : ℕ → HomeSide L) (mover : Mover L) (w : World L) (p f k : ℕ) (r : Request L) (l : L) (d : ℕ) (ms : List (Post L)) →
      Sim s harts (record { cpu = cpu; home = home; mover = mover; flight = ms }) w → p < s.nodes → (cpu p).request ≡ Some r → is_at f k r ≡ true → r.held ≡ NoIntervention →
      r.want ≡ Upgrading → r.got ≡ GotExclusive l d → r.acks ≡ d →
      (e : Event L) × guard (s.nodes + 1) s.nodes s.pages s.blocks e w × (made_of e ≡ write_made harts (cpu p) k l ∷ []) × Sim s harts (record { cpu = put cpu p (filled harts (cpu p) r (Dirty (harts.line_after (cpu p).hart l)) l); home = home; mover = mover; flight = ms ++ [] }) (apply (s.nodes + 1) s.nodes e w)
  fill_upgrade_line s harts cpu home mover w p f k r l d ms sim lp rq at hd wn gt ac =
      let v : L = harts.line_after (cpu p).hart l in
      let page : ℕ = harts.page (cpu p).hart in
      let row : BlockRow L = Fill_upgrade_line p v l d in
      let n : NodeShows harts p (cpu p) w = sim.nodes p lp in
      let np = apart_number s.nodes p lp in
      let pp = self_number p in
      let lp1 : p < s.nodes + 1 = omega arith in
      let ef : r.frame ≡ f = grind (arith, nat_tests) in
      let ek : r.number ≡ k = grind (arith, nat_tests) in
      let ka : kept s.nodes cpu mover (AskAt f k p) ≡ Some (OfBlock f k (Asked p (ExclusiveReply l d))) = grind arith in
      let st = sim.keeps (AskAt f k p) (OfBlock f k (Asked p (ExclusiveReply l d))) ka in
      let w1 : (w.block f k).want p ≡ Upgrading = (let y = n.want f k in grind arith) in
      let w2 : (w.block f k).ask p ≡ ExclusiveReply l d = st.2.1 in
      let w3 : (w.block f k).acks p ≡ d = (let y = n.acks f k in grind arith) in
      let rp : w.pages.request p ≡ Outstanding page f k = (let y = n.request in grind arith) in
      let inv : Invariant L (s.nodes + 1) s.nodes s.pages s.blocks w = reached (s.nodes + 1) s.nodes s.pages s.blocks w sim.reached in
      let a : Asks (w.block f k) p = ((inv.link f k st.1).invariant.each p lp1).asks in
      let nr : (w.block f k).response p ≡ NoResponse = grind arith in
      let gd : guard (s.nodes + 1) s.nodes s.pages s.blocks (On page 0 f k row) w = ((w1, w2, w3), lp1, st.1, rp) in (
        On page 0 f k row,
        gd,
        refl,
        end_row s harts cpu home mover w page 0 f k row p r (filled harts (cpu p) r (Dirty v) l) (Dirty v) ms sim gd lp st.0 refl refl refl refl rq at hd
            refl refl (λ y. refl) refl refl (λ g j. grind arith)
            (grind arith) (grind arith) (grind arith) refl (grind arith) refl refl refl
            (changed_upgrade_line p f k page v l d w.pages (On page 0 f k row) refl) (grind (arith, nat_tests)) (grind (arith, nat_tests)) (grind (arith, nat_tests)) (grind (arith, nat_tests))
            (apart_kept s cpu mover w ms (AskAt f k p) (λ e. absurd (cc)) sim.flight)
            (apart_response s cpu mover w ms f k p nr sim.flight),
      )

  pub fill_upgrade : (s : Setup) (harts : Harts L H) (cpu : ℕ → Cpu L H) (home : ℕ → HomeSide L) (mover : Mover L) (w : World L) (p f k : ℕ) (r : Request L) (l : L) (d : ℕ) (ms : List (Post L)) →
      Sim s harts (record { cpu = cpu; home = home; mover = mover; flight = ms }) w → p < s.nodes → (cpu p).request ≡ Some r → is_at f k r ≡ true → r.held ≡ NoIntervention →
      r.want ≡ Upgrading → r.got ≡ GotUpgrade d → r.acks ≡ d → (cpu p).cache f k ≡ Shared l →
      (e : Event L) × guard (s.nodes + 1) s.nodes s.pages s.blocks e w × (made_of e ≡ write_made harts (cpu p) k l ∷ []) × Sim s harts (record { cpu = put cpu p (filled harts (cpu p) r (Dirty (harts.line_after (cpu p).hart l)) l); home = home; mover = mover; flight = ms ++ [] }) (apply (s.nodes + 1) s.nodes e w)
  fill_upgrade s harts cpu home mover w p f k r l d ms sim lp rq at hd wn gt ac cp =
      let v : L = harts.line_after (cpu p).hart l in
      let page : ℕ = harts.page (cpu p).hart in
      let row : BlockRow L = Fill_upgrade p v l d in
      let n : NodeShows harts p (cpu p) w = sim.nodes p lp in
      let np = apart_number s.nodes p lp in
      let pp = self_number p in
      let lp1 : p < s.nodes + 1 = omega arith in
      let ef : r.frame ≡ f = grind (arith, nat_tests) in
      let ek : r.number ≡ k = grind (arith, nat_tests) in
      let ka : kept s.nodes cpu mover (AskAt f k p) ≡ Some (OfBlock f k (Asked p (UpgradeReply d))) = grind arith in
      let st = sim.keeps (AskAt f k p) (OfBlock f k (Asked p (UpgradeReply d))) ka in
      let w1 : (w.block f k).want p ≡ Upgrading = (let y = n.want f k in grind arith) in
      let w2 : (w.block f k).ask p ≡ UpgradeReply d = st.2.1 in
      let w3 : (w.block f k).acks p ≡ d = (let y = n.acks f k in grind arith) in
      let rp : w.pages.request p ≡ Outstanding page f k = (let y = n.request in grind arith) in
      let inv : Invariant L (s.nodes + 1) s.nodes s.pages s.blocks w = reached (s.nodes + 1) s.nodes s.pages s.blocks w sim.reached in
      let a : Asks (w.block f k) p = ((inv.link f k st.1).invariant.each p lp1).asks in
      let nr : (w.block f k).response p ≡ NoResponse = grind arith in
      let gd : guard (s.nodes + 1) s.nodes s.pages s.blocks (On page 0 f k row) w = ((w1, w2, w3, (let y = n.copy f k in cc)), lp1, st.1, rp) in (
        On page 0 f k row,
        gd,
        refl,
        end_row s harts cpu home mover w page 0 f k row p r (filled harts (cpu p) r (Dirty v) l) (Dirty v) ms sim gd lp st.0 refl refl refl refl rq at hd
            refl refl (λ y. refl) refl refl (λ g j. grind arith)
            (grind arith) (grind arith) (grind arith) refl (grind arith) refl refl refl
            (changed_upgrade p f k page v l d w.pages (On page 0 f k row) refl) (grind (arith, nat_tests)) (grind (arith, nat_tests)) (grind (arith, nat_tests)) (grind (arith, nat_tests))
            (apart_kept s cpu mover w ms (AskAt f k p) (λ e. absurd (cc)) sim.flight)
            (apart_response s cpu mover w ms f k p nr sim.flight),
      )
