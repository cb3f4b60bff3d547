-- A node answers an intervention, and a drop.
use Rattle.std.proofs.Common.{◌≡◌, ℕ, ◌+◌, ◌<◌, true, false, cond, arith, inl, inr, refl, sym, subst, List, [], ◌∷◌, ◌++◌, None, Some}
use Rattle.std.proofs.lemmas.Bool.{cases_Bool}
use Rattle.std.proofs.lemmas.Bool.Decides.{nat_tests}
use Rattle.og_block.specs.State.{put, Copy}
use Rattle.og_block.specs.Rows.{Row as BlockRow, apply as block_apply}
use Rattle.og_pages.specs.State.{NoRequest, NoVictim, NoWalk, DropFrame}
use Rattle.og_pages.specs.Rows.{Drop_answer}
use Rattle.og_pages.specs.State.{State as Pages}
use Rattle.og_whole.specs.Kind.{kind, Inner}
use Rattle.og_whole.specs.Events.{World, Event, Page, On, guard, apply}
use Rattle.og_whole.specs.Messages.{OfDrop}
use Rattle.og_relate.specs.Data.{KDropped, Post, Setup, Cpu, Mover, HomeSide, Harts}
use Rattle.og_relate.specs.Places.{Place, AskAt, ResponseAt, InterventionAt, DropAt, slot_of, kept, kept_intervention}
use Rattle.og_relate.specs.Sides.{here, owns, is_home, column_of}
use Rattle.og_relate.specs.Sim.{AskerTidy, Sim, NodeShows, WalkShows}
use Rattle.og_relate.specs.Owes.{changes, Letters}
use Rattle.og_relate.specs.Steps.{letter}
use Rattle.og_relate.specs.Node.{forget_frame}
use Rattle.og_relate.proofs.Messages.{rest_one, rest_kept}
use Rattle.og_relate.proofs.Rows.{node_row, cpu_row}
use Rattle.og_relate.proofs.Parts.{apart_number, self_number}
use Rattle.og_relate.proofs.Fewer.{fewer_node, column_at}

module _ {L : Type 0} where
  changed_drop : (p f : ℕ) (s : Pages L) (e : Event L) → e ≡ Page (Drop_answer p f) → (x : Place) → changes s e x ≡ true → x ≡ DropAt p
  changed_drop p f s e is x o = grind (arith, nat_tests)

module _ {L : Type 0} {H : Type 0} where
  -- a row that takes an intervention, changes the copy at most, and sends letters
  pub answer_row : (s : Setup) (harts : Harts L H) (cpu : ℕ → Cpu L H) (home : ℕ → HomeSide L) (mover : Mover L) (w : World L) (f k : ℕ) (row : BlockRow L) (p : ℕ) (c : Cpu L H) (x : Copy L) (i : Post L) (ms ls : List (Post L)) →
      Sim s harts (record { cpu = cpu; home = home; mover = mover; flight = i ∷ ms }) w → guard (s.nodes + 1) s.nodes s.pages s.blocks (On 0 0 f k row) w → p < s.nodes → f < s.frames →
      is_home row ≡ false → column_of row ≡ p → kind row ≡ Inner → slot_of s.nodes i ≡ InterventionAt f k p →
      c.request ≡ (cpu p).request → c.slot ≡ (cpu p).slot → ((y : ℕ) → c.tlb y ≡ (cpu p).tlb y) → c.walk ≡ (cpu p).walk → c.drop ≡ (cpu p).drop → c.hart ≡ (cpu p).hart → ((g j : ℕ) → c.cache g j ≡ cond (here f k g j) x ((cpu p).cache g j)) →
      (block_apply (s.nodes + 1) row (w.block f k)).copy p ≡ x → (block_apply (s.nodes + 1) row (w.block f k)).want p ≡ (w.block f k).want p → (block_apply (s.nodes + 1) row (w.block f k)).acks p ≡ (w.block f k).acks p → (block_apply (s.nodes + 1) row (w.block f k)).victim p ≡ (w.block f k).victim p →
      ((y : Place) → owns (On 0 0 f k row) y ≡ true → y ≡ InterventionAt f k p) → owns (On 0 0 f k row) (InterventionAt f k p) ≡ true →
      Letters s w (On 0 0 f k row) ls →
      Sim s harts (record { cpu = put cpu p c; home = home; mover = mover; flight = ms ++ ls }) (apply (s.nodes + 1) s.nodes (On 0 0 f k row) w)
  answer_row s harts cpu home mover w f k row p c x i ms ls sim gd lp lf nh col ki sl cr cs ct cw cd ch cc_ hcopy hwant hacks hvictim owned own fls =
      let e : Event L = On 0 0 f k row in
      let z : World L = apply (s.nodes + 1) s.nodes e w in
      let n : NodeShows harts p (cpu p) w = sim.nodes p lp in
      let np = apart_number s.nodes p lp in
      let pg : z.pages ≡ w.pages = cc in
      let shows : NodeShows harts p c z = record {
        copy = λ g j. (let t = column_at (λ b. b.copy p) (s.nodes + 1) s.nodes 0 0 f k row w g j in let y = n.copy g j in let v = cc_ g j in grind arith);
        want = λ g j. (let t = column_at (λ b. b.want p) (s.nodes + 1) s.nodes 0 0 f k row w g j in let y = n.want g j in let v = n.want f k in grind (arith, nat_tests));
        acks = λ g j. (let t = column_at (λ b. b.acks p) (s.nodes + 1) s.nodes 0 0 f k row w g j in let y = n.acks g j in let v = n.acks f k in grind (arith, nat_tests));
        victim = λ g j. (let t = column_at (λ b. b.victim p) (s.nodes + 1) s.nodes 0 0 f k row w g j in let y = n.victim g j in let v = n.victim f k in grind (arith, nat_tests));
        request = (let y = n.request in cc);
        slot = (let y = n.slot in cc);
        tlb = λ y. (let a = n.tlb y in let b = ct y in cc);
        walk = subst (λ u. WalkShows u (z.pages.walk p)) (sym cw) (subst (λ u. WalkShows (cpu p).walk (u.walk p)) (sym pg) n.walk);
      } in
      node_row s harts cpu home mover (i ∷ ms) w 0 0 f k row p c ms ls sim gd nh col lp (inl ki) (grind arith) shows
      (record { cached = λ g j ne. elim (cases_Bool (here f k g j)) [ inl t ↦ (let e1 : g ≡ f = grind (arith, nat_tests) in let e2 : j ≡ k = grind (arith, nat_tests) in (subst (λ u. u < s.frames) (sym e1) lf, subst (λ u. u < s.blocks) (sym e2) gd.2)) | inr t ↦ (sim.tidy p lp).cached g j (λ v. ne (let y = cc_ g j in cc)) ]; named = λ y u e. (sim.tidy p lp).named y u (let a = ct y in cc); asker = subst (λ u. AskerTidy s u) (sym cr) (sim.tidy p lp).asker })
      (fewer_node s.nodes cpu mover p c (owns e) lp (λ y o. (let a = owned y o in grind (arith, nat_tests)))
      (λ a b. inr ((cc), elim (cases_Bool (owns e (AskAt a b p))) [ inl t ↦ absurd (let v = owned (AskAt a b p) t in cc) | inr t ↦ t ]))
      (λ a b. inr ((cc), elim (cases_Bool (owns e (ResponseAt a b p))) [ inl t ↦ absurd (let v = owned (ResponseAt a b p) t in cc) | inr t ↦ t ]))
      (λ a b. elim (cases_Bool (owns e (InterventionAt a b p))) [
        | inl t ↦ inl ((let v = owned (InterventionAt a b p) t in let fl = sim.flight.0.1 in let u : kept s.nodes cpu mover (InterventionAt f k p) ≡ None = cc in let q : kept_intervention f k p (cpu p).request ≡ None = grind arith in let e1 : a ≡ f = grind arith in let e2 : b ≡ k = grind arith in cc), t)
        | inr t ↦ inr ((cc), t)
      ])
      (inr ((cc), elim (cases_Bool (owns e (DropAt p))) [ inl t ↦ absurd (let a = owned (DropAt p) t in cc) | inr t ↦ t ])))
      (rest_one s cpu mover w e i ms sim.flight (λ y o. (let a = owned y o in cc)) (cc))
      fls

  -- ---- a drop that is due

  pub drop_answered : (s : Setup) (harts : Harts L H) (cpu : ℕ → Cpu L H) (home : ℕ → HomeSide L) (mover : Mover L) (w : World L) (p f : ℕ) (ms : List (Post L)) →
      Sim s harts (record { cpu = cpu; home = home; mover = mover; flight = ms }) w → p < s.nodes → (cpu p).drop ≡ Some f → (cpu p).request ≡ None → (cpu p).walk ≡ None → (cpu p).slot ≡ None →
      guard (s.nodes + 1) s.nodes s.pages s.blocks (Page (Drop_answer p f)) w × Sim s harts (record { cpu = put cpu p (forget_frame (cpu p) f); home = home; mover = mover; flight = ms ++ letter p s.nodes (KDropped f) ∷ [] }) (apply (s.nodes + 1) s.nodes (Page (Drop_answer p f)) w)
  drop_answered s harts cpu home mover w p f ms sim lp dr rq wk sl =
      let e : Event L = Page (Drop_answer p f) in
      let z : World L = apply (s.nodes + 1) s.nodes e w in
      let n : NodeShows harts p (cpu p) w = sim.nodes p lp in
      let np = apart_number s.nodes p lp in
      let pp = self_number p in
      let kd : kept s.nodes cpu mover (DropAt p) ≡ Some (OfDrop p (DropFrame f)) = grind arith in
      let st = sim.keeps (DropAt p) (OfDrop p (DropFrame f)) kd in
      let g1 : w.pages.request p ≡ NoRequest = (let y = n.request in grind arith) in
      let g2 : w.pages.walk p ≡ NoWalk = (let y = n.walk in grind arith) in
      let g3 : w.pages.victim p ≡ NoVictim = (let y = n.slot in grind arith) in
      let gd : guard (s.nodes + 1) s.nodes s.pages s.blocks e w = ((st.1, g1, g2, g3), refl) in
      let c : Cpu L H = forget_frame (cpu p) f in (
        gd,
        cpu_row s harts cpu home mover ms w e p c ms (letter p s.nodes (KDropped f) ∷ []) sim gd
            (λ q ne. record { copy = λ a b. refl; want = λ a b. refl; acks = λ a b. refl; victim = λ a b. refl; request = refl; slot = refl; tlb = λ y. grind arith; walk = refl })
            (λ a b. record { entry = refl; line = refl; noticed = refl })
            (record { job = refl; want = λ a b. refl; acks = λ a b. refl; page_table = λ y. refl; holders = λ a b. refl; role = refl; sharing = λ a b. refl })
            (record { copy = n.copy; want = n.want; acks = n.acks; victim = n.victim; request = n.request; slot = n.slot; tlb = λ y. (let a = n.tlb y in grind arith); walk = n.walk })
            (record { cached = (sim.tidy p lp).cached; named = λ y u e. (sim.tidy p lp).named y u (grind arith); asker = (sim.tidy p lp).asker })
            (fewer_node s.nodes cpu mover p c (owns e) lp (λ y o. (grind (arith, nat_tests))) (λ a b. inr (refl, refl)) (λ a b. inr (refl, refl)) (λ a b. inr (refl, refl)) (inl (refl, grind (arith, nat_tests))))
            (rest_kept s cpu mover w e ms sim.flight (λ y o none. absurd (let v : y ≡ DropAt p = grind (arith, nat_tests) in cc)))
            (((((lp, grind arith, λ x. absurd (cc)), (lp, refl), tt), grind arith), tt, tt), λ x i c st. inl (sym (changed_drop p f w.pages e refl x c))),
      )
