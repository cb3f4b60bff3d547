-- The mover has a block's line and all acknowledgements.
use Rattle.std.proofs.Common.{◌≡◌, ℕ, ◌+◌, ◌<◌, true, false, nat_eq, arith, ◌≢◌, inl, inr, refl, None, subst, sym, List, [], ◌++◌, Some}
use Rattle.std.proofs.lemmas.Bool.{cases_Bool}
use Rattle.std.proofs.lemmas.Bool.Decides.{nat_tests}
use Rattle.og_slots.proofs.Flight.{fits_map, fits_and}
use Rattle.og_block.specs.State.{Poisoning, PoisonReply, NoResponse}
use Rattle.og_block.specs.Rows.{Row as BlockRow, Poison_collected}
use Rattle.og_block.specs.Invariant.{Asks}
use Rattle.og_block.specs.Message.{Asked}
use Rattle.og_pages.specs.State.{Collect}
use Rattle.og_pages.specs.State.{State as Pages}
use Rattle.og_whole.specs.Events.{World, Event, On, guard, apply}
use Rattle.og_whole.specs.Link.{Invariant}
use Rattle.og_whole.specs.Messages.{OfBlock}
use Rattle.og_whole.proofs.Runs.{reached}
use Rattle.og_relate.specs.Data.{Post, Setup, Cpu, Mover, MCollect, MHold, HomeSide, Harts}
use Rattle.og_relate.specs.Places.{kept_collect, stands_at, Place, AskAt, ResponseAt, InterventionAt, DropAt, slot_of, kept, Flies}
use Rattle.og_relate.specs.Sides.{touches, here, owns}
use Rattle.og_relate.specs.Sim.{JobTidy, Sim}
use Rattle.og_relate.specs.Owes.{changes}
use Rattle.og_relate.specs.Goes.{FewerAt, Fewer}
use Rattle.og_relate.proofs.Frames.{node_same, home_same}
use Rattle.og_relate.proofs.Fewer.{fewer_none, column_at}
use Rattle.og_relate.proofs.Messages.{or_left}
use Rattle.og_relate.proofs.Home.{here_self}
use Rattle.og_relate.proofs.Fill.{is_answer, answer_places, apart_kept, apart_response}
use Rattle.og_relate.proofs.Parts.{self_number}
use Rattle.og_relate.proofs.MoverRows.{mover_row}

module _ {L : Type 0} where
  changed_collect : (n f k page other : ℕ) (l : L) (d : ℕ) (s : Pages L) (e : Event L) → e ≡ On page other f k (Poison_collected n l d) → (x : Place) → changes s e x ≡ true → is_answer f k n x ≡ true
  changed_collect n f k page other l d s e is x o = grind (arith, nat_tests)

module _ {L : Type 0} {H : Type 0} where
  pub collected : (s : Setup) (harts : Harts L H) (cpu : ℕ → Cpu L H) (home : ℕ → HomeSide L) (mover : Mover L) (w : World L) (page old new k : ℕ) (l : L) (d : ℕ) (ms : List (Post L)) →
      Sim s harts (record { cpu = cpu; home = home; mover = mover; flight = ms }) w → mover.job ≡ MCollect page old new k (Some (l, d)) d →
      guard (s.nodes + 1) s.nodes s.pages s.blocks (On page new old k (Poison_collected s.nodes l d)) w × Sim s harts (record { cpu = cpu; home = home; mover = record mover { job = MHold page old new k l }; flight = ms ++ [] }) (apply (s.nodes + 1) s.nodes (On page new old k (Poison_collected s.nodes l d)) w)
  collected s harts cpu home mover w page old new k l d ms sim jb =
      let row : BlockRow L = Poison_collected s.nodes l d in
      let e : Event L = On page new old k row in
      let z : World L = apply (s.nodes + 1) s.nodes e w in
      let mv = sim.mover in
      let nn = self_number s.nodes in
      let oo = self_number old in
      let kk = self_number k in
      let ln : s.nodes < s.nodes + 1 = omega arith in
      let ka : kept s.nodes cpu mover (AskAt old k s.nodes) ≡ Some (OfBlock old k (Asked s.nodes (PoisonReply l d))) = grind arith in
      let st = sim.keeps (AskAt old k s.nodes) (OfBlock old k (Asked s.nodes (PoisonReply l d))) ka in
      let g1 : (w.block old k).want s.nodes ≡ Poisoning = (let a = mv.want old k in grind arith) in
      let g3 : (w.block old k).acks s.nodes ≡ d = (let a = mv.acks old k in grind arith) in
      let gj : w.pages.job ≡ Collect page old new k = (let a = mv.job in grind arith) in
      let gd : guard (s.nodes + 1) s.nodes s.pages s.blocks e w = ((g1, st.2.1, g3), ln, st.1, gj) in
      let inv : Invariant L (s.nodes + 1) s.nodes s.pages s.blocks w = reached (s.nodes + 1) s.nodes s.pages s.blocks w sim.reached in
      let a : Asks (w.block old k) s.nodes = ((inv.link old k st.1).invariant.each s.nodes ln).asks in
      let nr : (w.block old k).response s.nodes ≡ NoResponse = grind arith in
      let m : Mover L = record mover { job = MHold page old new k l } in
      let owned : (y : Place) → owns e y ≡ true → is_answer old k s.nodes y ≡ true = λ y o. changed_collect s.nodes old k page new l d w.pages e refl y (or_left (owns e y) (touches w.pages e y) o) in (
        gd,
        mover_row s harts cpu home mover ms w e m ms [] sim gd
            (λ q lq. (let ne : nat_eq q s.nodes ≡ false = grind (arith, nat_tests) in node_same (s.nodes + 1) s.nodes page new old k row w q ne (inr ne)))
            (λ g j. home_same (s.nodes + 1) s.nodes page new old k row w gd.3 refl g j)
            (record {
              job = refl;
              want = λ g j. (let t = column_at (λ b. b.want s.nodes) (s.nodes + 1) s.nodes page new old k row w g j in let y = mv.want g j in grind (arith, nat_tests));
              acks = λ g j. (let t = column_at (λ b. b.acks s.nodes) (s.nodes + 1) s.nodes page new old k row w g j in let y = mv.acks g j in grind (arith, nat_tests));
              page_table = mv.page_table;
              holders = mv.holders;
              role = mv.role;
              sharing = λ g j. (let t = column_at (λ b. b.sharing) (s.nodes + 1) s.nodes page new old k row w g j in let y = mv.sharing g j in let v = mv.sharing old k in grind (arith, nat_tests));
              holder_is = mv.holder_is;
            })
            (record { job = (let b = sim.bounds.job in let c : JobTidy s (MCollect page old new k (Some (l, d)) d) = subst (λ u. JobTidy s u) jb b in c); table = sim.bounds.table })
            (fewer e owned (grind (arith, nat_tests)) (grind (arith, nat_tests))) (
              (fits_map (slot_of s.nodes) (λ y. (Flies s cpu mover w y × (slot_of s.nodes y ≢ AskAt old k s.nodes)) × (slot_of s.nodes y ≢ ResponseAt old k s.nodes)) (λ y. Flies s cpu mover w y × (owns e (slot_of s.nodes y) ≡ false))
                  (λ y h. (h.0.0, elim (cases_Bool (owns e (slot_of s.nodes y))) [ inl t ↦ elim (answer_places old k s.nodes (slot_of s.nodes y) (owned (slot_of s.nodes y) t)) [ inl v ↦ absurd (h.0.1 v) | inr v ↦ absurd (h.1 v) ] | inr t ↦ t ]))
                  ms
                  (fits_and (slot_of s.nodes) (ResponseAt old k s.nodes) (λ y. Flies s cpu mover w y × (slot_of s.nodes y ≢ AskAt old k s.nodes)) ms (apart_response s cpu mover w ms old k s.nodes nr sim.flight) (fits_and (slot_of s.nodes) (AskAt old k s.nodes) (Flies s cpu mover w) ms (apart_kept s cpu mover w ms (AskAt old k s.nodes) (λ e. absurd (cc)) sim.flight) sim.flight))),
              λ y o h. h,
            )
            (tt, λ y i ch st. elim (answer_places old k s.nodes y (changed_collect s.nodes old k page new l d w.pages e refl y ch)) [ inl v ↦ absurd (let st2 : stands_at z (AskAt old k s.nodes) ≡ true = subst (λ u. stands_at z u ≡ true) v st in let q = column_at (λ b. b.ask s.nodes) (s.nodes + 1) s.nodes page new old k row w old k in let hs = here_self old k in grind (arith, nat_tests)) | inr v ↦ absurd (let st2 : stands_at z (ResponseAt old k s.nodes) ≡ true = subst (λ u. stands_at z u ≡ true) v st in let q = column_at (λ b. b.response s.nodes) (s.nodes + 1) s.nodes page new old k row w old k in let hs = here_self old k in grind (arith, nat_tests)) ]),
      )
    where
      fewer : (e : Event L) → ((x : Place) → owns e x ≡ true → is_answer old k s.nodes x ≡ true) → owns e (AskAt old k s.nodes) ≡ true → owns e (ResponseAt old k s.nodes) ≡ true → Fewer (kept s.nodes cpu (record mover { job = MHold page old new k l })) (kept s.nodes cpu mover) (owns e)
      fewer e o own_ask own_response = by
        where
          far : (x : Place) → is_answer old k s.nodes x ≡ false → owns e x ≡ false
          far x f = elim (cases_Bool (owns e x)) [ inl t ↦ absurd (let y = o x t in cc) | inr t ↦ t ]

          by : (x : Place) → FewerAt (kept s.nodes cpu (record mover { job = MHold page old new k l }) x) (kept s.nodes cpu mover x) (owns e x)
          by (AskAt g j q) = elim (cases_Bool (nat_eq q s.nodes)) [
            | inl t ↦ elim (cases_Bool (here old k g j)) [
              | inl h ↦ (let e1 : g ≡ old = grind (arith, nat_tests) in let e2 : j ≡ k = grind (arith, nat_tests) in let e3 : q ≡ s.nodes = grind (arith, nat_tests) in inl ((cc), (cc)))
              | inr h ↦ inr ((let a : kept_collect g j q mover.job ≡ None = grind (arith, nat_tests) in cc), far (AskAt g j q) (grind arith))
            ]
            | inr t ↦ inr ((cc), far (AskAt g j q) (grind arith))
          ]
          by (ResponseAt g j q) = elim (cases_Bool (nat_eq q s.nodes)) [ inl t ↦ (let n : kept s.nodes cpu mover (ResponseAt g j q) ≡ None = cc in subst (λ u. FewerAt u u (owns e (ResponseAt g j q))) (sym n) (fewer_none (owns e (ResponseAt g j q)))) | inr t ↦ inr (refl, far (ResponseAt g j q) (grind arith)) ]
          by (InterventionAt g j q) = inr (refl, far (InterventionAt g j q) refl)
          by (DropAt q) = inr (refl, far (DropAt q) refl)
          by x = fewer_none (owns e x)
