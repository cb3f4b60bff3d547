-- The victim slot's rows, each with the held drop that may be due then.
use Rattle.std.proofs.Common.{◌≡◌, ◌≢◌, ℕ, ◌+◌, ◌<◌, Bool, true, false, cond, nat_eq, arith, ◌&&◌, ◌⊎◌, inl, inr, refl, sym, subst, List, [], ◌∷◌, ◌++◌, Option, None, Some}
use Rattle.std.proofs.lemmas.Bool.{cases_Bool}
use Rattle.std.proofs.lemmas.Bool.Decides.{nat_tests}
use Rattle.og_block.specs.State.{put, Back, Intervention, NoIntervention, WriteBackAck, WriteBackBusyAck, Victim, Free, Taken, Busy, Seen}
use Rattle.og_block.specs.Rows.{Row as BlockRow, actor_of, apply as block_apply, has_intervention, Intervention_victim_busy, Intervention_victim_first, Write_back_ack, Write_back_busy_ack_seen, Write_back_busy_ack_first}
use Rattle.og_block.specs.Balance.{is_taken, is_victim_busy}
use Rattle.og_block.specs.Invariant.{Fits_back}
use Rattle.og_block.specs.Message.{Intervened, Returned, Stands as StandsInBlock}
use Rattle.og_pages.specs.State.{State as Pages, VictimOf}
use Rattle.og_whole.specs.Kind.{kind}
use Rattle.og_whole.specs.Events.{World, Event, On, guard, apply}
use Rattle.og_whole.specs.Link.{Invariant}
use Rattle.og_whole.specs.Messages.{Message, OfBlock}
use Rattle.og_whole.proofs.Runs.{reached}
use Rattle.og_whole.proofs.Worlds.{blocks_ready}
use Rattle.og_relate.specs.Data.{KWbAck, KWbBusyAck, Post, Setup, Slot, Cpu, Mover, HomeSide, Harts}
use Rattle.og_relate.specs.Places.{Place, BackAt, InterventionAt, slot_of, content_of, Stands, stands_at}
use Rattle.og_relate.specs.Sides.{here, owns, touches, is_home, column_of, is_mover_kind}
use Rattle.og_relate.specs.Sim.{Sim, NodeShows, WalkShows, slot_at, victim_at, victim_by}
use Rattle.og_relate.specs.Owes.{changes}
use Rattle.og_relate.specs.Goes.{made_of}
use Rattle.og_relate.specs.Steps.{letter}
use Rattle.og_relate.proofs.Fewer.{is_nodes, column_at}
use Rattle.og_relate.proofs.Messages.{or_left}
use Rattle.og_relate.proofs.Home.{here_self}
use Rattle.og_relate.proofs.Parts.{self_number}
use Rattle.og_relate.proofs.Take.{GoesAt, then, drop_goes, without_end}
use Rattle.og_relate_node.specs.Steps.{with_slot, slot_met, slot_acknowledged, take_at_slot}
use Rattle.og_relate_node.proofs.TakenRows.{taken_row}

has_one : (i : Intervention) → i ≢ NoIntervention → has_intervention i ≡ true
has_one NoIntervention ne = absurd (ne refl)
has_one i ne = grind arith

module _ {L : Type 0} where
  changed_met_busy : (p f k : ℕ) (s : Pages L) (e : Event L) → e ≡ On 0 0 f k (Intervention_victim_busy p) → (x : Place) → changes s e x ≡ true → x ≡ InterventionAt f k p
  changed_met_busy p f k s e is x o = grind (arith, nat_tests)

  changed_met_first : (p f k : ℕ) (s : Pages L) (e : Event L) → e ≡ On 0 0 f k (Intervention_victim_first p) → (x : Place) → changes s e x ≡ true → x ≡ InterventionAt f k p
  changed_met_first p f k s e is x o = grind (arith, nat_tests)

  changed_ack : (p f k : ℕ) (s : Pages L) (e : Event L) → e ≡ On 0 0 f k (Write_back_ack p) → (x : Place) → changes s e x ≡ true → x ≡ BackAt f k p
  changed_ack p f k s e is x o = grind (arith, nat_tests)

  changed_busy_seen : (p f k : ℕ) (s : Pages L) (e : Event L) → e ≡ On 0 0 f k (Write_back_busy_ack_seen p) → (x : Place) → changes s e x ≡ true → x ≡ BackAt f k p
  changed_busy_seen p f k s e is x o = grind (arith, nat_tests)

  changed_busy_first : (p f k : ℕ) (s : Pages L) (e : Event L) → e ≡ On 0 0 f k (Write_back_busy_ack_first p) → (x : Place) → changes s e x ≡ true → x ≡ BackAt f k p
  changed_busy_first p f k s e is x o = grind (arith, nat_tests)

  -- an intervention meets a slot that is busy, or new
  met_slot : (v : Victim) (b : Back L) (i : Intervention) → Fits_back v b i → has_intervention i ≡ true → v ≢ Free → (v ≡ Busy) ⊎ (v ≡ Taken)
  met_slot v b i fits has ne = grind arith

module _ {L : Type 0} {H : Type 0} where
  -- a row that takes a message of the block in the slot, and changes the slot alone
  slot_row : (s : Setup) (harts : Harts L H) (cpu : ℕ → Cpu L H) (home : ℕ → HomeSide L) (mover : Mover L) (w : World L) (f k : ℕ) (row : BlockRow L) (p : ℕ) (v : Slot) (o : Option Slot) (x : Post L) (ms : List (Post L)) →
      Sim s harts (record { cpu = cpu; home = home; mover = mover; flight = x ∷ ms }) w → guard (s.nodes + 1) s.nodes s.pages s.blocks (On 0 0 f k row) w → p < s.nodes →
      is_home row ≡ false → column_of row ≡ p → actor_of row ≡ p → is_mover_kind (kind row) s.nodes ≡ false →
      (cpu p).slot ≡ Some v → v.frame ≡ f → v.number ≡ k →
      (block_apply (s.nodes + 1) row (w.block f k)).copy p ≡ (w.block f k).copy p → (block_apply (s.nodes + 1) row (w.block f k)).want p ≡ (w.block f k).want p → (block_apply (s.nodes + 1) row (w.block f k)).acks p ≡ (w.block f k).acks p →
      (block_apply (s.nodes + 1) row (w.block f k)).victim p ≡ victim_at f k o → ((g j : ℕ) → here f k g j ≡ false → victim_at g j o ≡ Free) → (apply (s.nodes + 1) s.nodes (On 0 0 f k row) w).pages.victim p ≡ slot_at o →
      (apply (s.nodes + 1) s.nodes (On 0 0 f k row) w).pages.request ≡ w.pages.request → (apply (s.nodes + 1) s.nodes (On 0 0 f k row) w).pages.tlb ≡ w.pages.tlb → (apply (s.nodes + 1) s.nodes (On 0 0 f k row) w).pages.walk ≡ w.pages.walk →
      ((y : Place) → changes w.pages (On 0 0 f k row) y ≡ true → y ≡ slot_of s.nodes x) → owns (On 0 0 f k row) (slot_of s.nodes x) ≡ true → is_nodes p (slot_of s.nodes x) ≡ true →
      stands_at (apply (s.nodes + 1) s.nodes (On 0 0 f k row) w) (slot_of s.nodes x) ≡ false →
      Sim s harts (record { cpu = put cpu p (with_slot (cpu p) o); home = home; mover = mover; flight = ms ++ [] }) (apply (s.nodes + 1) s.nodes (On 0 0 f k row) w)
  slot_row s harts cpu home mover w f k row p v o x ms sim gd lp nh col act mk sl vf vk hcopy hwant hacks hvictim hother pvic preq ptlb pwalk changed own at_p gone =
      let e : Event L = On 0 0 f k row in
      let z : World L = apply (s.nodes + 1) s.nodes e w in
      let n : NodeShows harts p (cpu p) w = sim.nodes p lp in
      let td = sim.tidy p lp in
      let shows : NodeShows harts p (with_slot (cpu p) o) z = record {
        copy = λ g j. (let t = column_at (λ b. b.copy p) (s.nodes + 1) s.nodes 0 0 f k row w g j in let y = n.copy g j in let u = n.copy f k in grind (arith, nat_tests));
        want = λ g j. (let t = column_at (λ b. b.want p) (s.nodes + 1) s.nodes 0 0 f k row w g j in let y = n.want g j in let u = n.want f k in grind (arith, nat_tests));
        acks = λ g j. (let t = column_at (λ b. b.acks p) (s.nodes + 1) s.nodes 0 0 f k row w g j in let y = n.acks g j in let u = n.acks f k in grind (arith, nat_tests));
        victim = λ g j. elim (cases_Bool (here f k g j)) [
          | inl t ↦ (let c = column_at (λ b. b.victim p) (s.nodes + 1) s.nodes 0 0 f k row w g j in let e1 : g ≡ f = grind (arith, nat_tests) in let e2 : j ≡ k = grind (arith, nat_tests) in cc)
          | inr t ↦ (let c = column_at (λ b. b.victim p) (s.nodes + 1) s.nodes 0 0 f k row w g j in let y = n.victim g j in let h = hother g j t in let u : victim_at g j (Some v) ≡ Free = grind (arith, nat_tests) in cc)
        ];
        request = (let y = n.request in cc);
        slot = pvic;
        tlb = λ y. (let a = n.tlb y in cc);
        walk = subst (λ u. WalkShows (cpu p).walk (u p)) (sym pwalk) n.walk;
      } in
      taken_row s harts cpu home mover w f k row p (with_slot (cpu p) o) x ms [] sim gd lp nh col (inr act) mk (λ y ow. changed y (or_left (owns e y) (touches w.pages e y) ow)) own at_p shows
      (record { cached = td.cached; named = td.named; asker = td.asker }) refl (λ a b. refl) (λ a b. refl) (λ a b. refl)
      (tt, λ y i ch st. absurd (let same = changed y ch in cc))

  -- the row, and then the held drop where it is due
  slot_goes : (s : Setup) (harts : Harts L H) (cpu : ℕ → Cpu L H) (home : ℕ → HomeSide L) (mover : Mover L) (w : World L) (e : Event L) (p : ℕ) (o : Option Slot) (ms : List (Post L)) → p < s.nodes → made_of e ≡ [] →
      guard (s.nodes + 1) s.nodes s.pages s.blocks e w → Sim s harts (record { cpu = put cpu p (with_slot (cpu p) o); home = home; mover = mover; flight = ms ++ [] }) (apply (s.nodes + 1) s.nodes e w) →
      GoesAt s harts cpu home mover p (take_at_slot s p (cpu p) o).0 (ms ++ (take_at_slot s p (cpu p) o).1) w
  slot_goes s harts cpu home mover w e p o ms lp me gd sim =
      let z : World L = apply (s.nodes + 1) s.nodes e w in
      then s harts _ w e [] [] me gd (drop_goes s harts cpu home mover p (with_slot (cpu p) o) ms z lp (without_end s harts (put cpu p (with_slot (cpu p) o)) home mover z ms sim))

  -- ---- an intervention

  pub slot_meets : (s : Setup) (harts : Harts L H) (cpu : ℕ → Cpu L H) (home : ℕ → HomeSide L) (mover : Mover L) (w : World L) (f k p : ℕ) (v : Slot) (i : Intervention) (x : Post L) (ms : List (Post L)) →
      Sim s harts (record { cpu = cpu; home = home; mover = mover; flight = x ∷ ms }) w → p < s.nodes → (cpu p).slot ≡ Some v → v.frame ≡ f → v.number ≡ k → content_of s.nodes x ≡ OfBlock f k (Intervened p i) →
      GoesAt s harts cpu home mover p (take_at_slot s p (cpu p) (slot_met v)).0 (ms ++ (take_at_slot s p (cpu p) (slot_met v)).1) w
  slot_meets s harts cpu home mover w f k p v i x ms sim lp sl vf vk cx = by v.busy refl
    where
      n : NodeShows harts p (cpu p) w
      n = sim.nodes p lp

      pl : (f < s.frames) × (k < s.blocks) × StandsInBlock (s.nodes + 1) (w.block f k) (Intervened p i)
      pl = subst (λ (c : Message L). Stands s w c) cx sim.flight.0.0.0

      has : has_intervention ((w.block f k).intervention p) ≡ true
      has = let a = has_one i pl.2.2 in let b = pl.2.1 in cc

      vw : (w.block f k).victim p ≡ victim_by v.busy v.seen
      vw = let a = n.victim f k in grind (arith, nat_tests)

      sx : slot_of s.nodes x ≡ InterventionAt f k p
      sx = cc

      lp1 : p < s.nodes + 1
      lp1 = omega arith

      met : ((w.block f k).victim p ≡ Busy) ⊎ ((w.block f k).victim p ≡ Taken)
      met = let inv : Invariant L (s.nodes + 1) s.nodes s.pages s.blocks w = reached (s.nodes + 1) s.nodes s.pages s.blocks w sim.reached in
          met_slot ((w.block f k).victim p) ((w.block f k).back p) ((w.block f k).intervention p) ((inv.link f k pl.1).invariant.each p lp1).backs has (λ e. (let a = vw in absurd (grind arith)))

      Goal : Option Slot → Type 0
      Goal o = GoesAt s harts cpu home mover p (take_at_slot s p (cpu p) o).0 (ms ++ (take_at_slot s p (cpu p) o).1) w

      by : (t : Bool) → v.busy ≡ t → Goal (cond t None (Some (record v { seen = true })))
      by true b =
          let row : BlockRow L = Intervention_victim_busy p in
          let e : Event L = On 0 0 f k row in
          let z : World L = apply (s.nodes + 1) s.nodes e w in
          let vb : (w.block f k).victim p ≡ Busy = (let a = vw in grind arith) in
          let gs : w.pages.victim p ≡ VictimOf f k = (let a = n.slot in grind arith) in
          let gd : guard (s.nodes + 1) s.nodes s.pages s.blocks e w = ((has, vb), lp1, pl.1, tt) in
          let pp = self_number p in
          let hs = here_self f k in
          slot_goes s harts cpu home mover w e p None ms lp refl gd
          (slot_row s harts cpu home mover w f k row p v None x ms sim gd lp refl refl refl refl sl vf vk refl refl refl (grind arith) (λ g j ne. refl) (grind arith) refl refl refl
          (λ y ch. (let a = changed_met_busy p f k w.pages e refl y ch in let b = sx in cc)) (let b = sx in subst (λ (u : Place). owns e u ≡ true) (sym b) (grind (arith, nat_tests))) (let b = sx in subst (λ (u : Place). is_nodes p u ≡ true) (sym b) pp)
          (let b = sx in subst (λ (u : Place). stands_at z u ≡ false) (sym b) (grind (arith, nat_tests))))
      by false b =
          let row : BlockRow L = Intervention_victim_first p in
          let e : Event L = On 0 0 f k row in
          let z : World L = apply (s.nodes + 1) s.nodes e w in
          let vt : (w.block f k).victim p ≡ Taken = elim met [ inl m ↦ absurd (let a = vw in grind arith) | inr m ↦ m ] in
          let gd : guard (s.nodes + 1) s.nodes s.pages s.blocks e w = ((has, vt), lp1, pl.1, tt) in
          let pp = self_number p in
          let hs = here_self f k in
          let o : Option Slot = Some (record v { seen = true }) in
          slot_goes s harts cpu home mover w e p o ms lp refl gd
          (slot_row s harts cpu home mover w f k row p v o x ms sim gd lp refl refl refl refl sl vf vk refl refl refl (grind (arith, nat_tests)) (λ g j ne. grind (arith, nat_tests)) (let a = n.slot in grind arith) refl refl refl
          (λ y ch. (let a = changed_met_first p f k w.pages e refl y ch in let b = sx in cc)) (let b = sx in subst (λ (u : Place). owns e u ≡ true) (sym b) (grind (arith, nat_tests))) (let b = sx in subst (λ (u : Place). is_nodes p u ≡ true) (sym b) pp)
          (let b = sx in subst (λ (u : Place). stands_at z u ≡ false) (sym b) (grind (arith, nat_tests))))

  -- ---- an acknowledgement of the write-back finds the slot that waits for it

  pub slot_finds : (s : Setup) (harts : Harts L H) (cpu : ℕ → Cpu L H) (home : ℕ → HomeSide L) (mover : Mover L) (w : World L) (f k p : ℕ) (b : Back L) (x : Post L) (ms : List (Post L)) →
      Sim s harts (record { cpu = cpu; home = home; mover = mover; flight = x ∷ ms }) w → p < s.nodes → content_of s.nodes x ≡ OfBlock f k (Returned p b) → (w.block f k).victim p ≢ Free →
      (v : Slot) × ((cpu p).slot ≡ Some v) × (v.frame ≡ f) × (v.number ≡ k)
  slot_finds s harts cpu home mover w f k p b x ms sim lp cx ne = by (cpu p).slot refl
    where
      by : (o : Option Slot) → (cpu p).slot ≡ o → (v : Slot) × ((cpu p).slot ≡ Some v) × (v.frame ≡ f) × (v.number ≡ k)
      by None e = absurd (ne (let a = (sim.nodes p lp).victim f k in grind arith))
      by (Some v) e = elim (cases_Bool (nat_eq v.frame f && nat_eq v.number k)) [
        | inl t ↦ (v, e, grind (arith, nat_tests), grind (arith, nat_tests))
        | inr t ↦ absurd (ne (let a = (sim.nodes p lp).victim f k in grind arith))
      ]

  pub slot_acks : (s : Setup) (harts : Harts L H) (cpu : ℕ → Cpu L H) (home : ℕ → HomeSide L) (mover : Mover L) (w : World L) (f k p : ℕ) (ms : List (Post L)) →
      Sim s harts (record { cpu = cpu; home = home; mover = mover; flight = letter (s.home f) p (KWbAck f k) ∷ ms }) w → p < s.nodes →
      (v : Slot) × ((cpu p).slot ≡ Some v) × (v.frame ≡ f) × (v.number ≡ k) × GoesAt s harts cpu home mover p (take_at_slot s p (cpu p) (slot_acknowledged v false)).0 (ms ++ (take_at_slot s p (cpu p) (slot_acknowledged v false)).1) w
  slot_acks s harts cpu home mover w f k p ms sim lp =
      let n : NodeShows harts p (cpu p) w = sim.nodes p lp in
      let x : Post L = letter (s.home f) p (KWbAck f k) in
      let pl = sim.flight.0.0.0 in
      let lp1 : p < s.nodes + 1 = omega arith in
      let bk : (w.block f k).back p ≡ WriteBackAck = pl.2.1 in
      let tk : (w.block f k).victim p ≡ Taken = (blocks_ready (s.nodes + 1) s.nodes s.pages s.blocks w sim.reached f k p pl.1 lp1).0.acknowledged (grind arith) in
      let fd = slot_finds s harts cpu home mover w f k p WriteBackAck x ms sim lp refl (λ e. absurd (cc)) in
      let v : Slot = fd.0 in
      let row : BlockRow L = Write_back_ack p in
      let e : Event L = On 0 0 f k row in
      let z : World L = apply (s.nodes + 1) s.nodes e w in
      let sl = fd.1 in
      let e1 = fd.2 in
      let e2 = fd.3 in
      let gs : w.pages.victim p ≡ VictimOf f k = (let a = n.slot in grind arith) in
      let gd : guard (s.nodes + 1) s.nodes s.pages s.blocks e w = (bk, lp1, pl.1, tt) in
      let pp = self_number p in
      let hs = here_self f k in (
        v,
        sl,
        e1,
        e2,
        slot_goes s harts cpu home mover w e p None ms lp refl gd
            (slot_row s harts cpu home mover w f k row p v None x ms sim gd lp refl refl refl refl sl e1 e2 refl refl refl (grind arith) (λ g j ne. refl) (grind arith) refl refl refl
            (changed_ack p f k w.pages e refl) (grind (arith, nat_tests)) refl (grind (arith, nat_tests))),
      )

  pub slot_busy_acks : (s : Setup) (harts : Harts L H) (cpu : ℕ → Cpu L H) (home : ℕ → HomeSide L) (mover : Mover L) (w : World L) (f k p : ℕ) (ms : List (Post L)) →
      Sim s harts (record { cpu = cpu; home = home; mover = mover; flight = letter (s.home f) p (KWbBusyAck f k) ∷ ms }) w → p < s.nodes →
      (v : Slot) × ((cpu p).slot ≡ Some v) × (v.frame ≡ f) × (v.number ≡ k) × GoesAt s harts cpu home mover p (take_at_slot s p (cpu p) (slot_acknowledged v true)).0 (ms ++ (take_at_slot s p (cpu p) (slot_acknowledged v true)).1) w
  slot_busy_acks s harts cpu home mover w f k p ms sim lp = go (slot_finds s harts cpu home mover w f k p WriteBackBusyAck x ms sim lp refl (λ e. (let a = ready.0 in absurd (grind arith))))
    where
      x : Post L
      x = letter (s.home f) p (KWbBusyAck f k)

      n : NodeShows harts p (cpu p) w
      n = sim.nodes p lp

      pl : (f < s.frames) × (k < s.blocks) × StandsInBlock (s.nodes + 1) (w.block f k) (Returned p WriteBackBusyAck)
      pl = sim.flight.0.0.0

      lp1 : p < s.nodes + 1
      lp1 = omega arith

      bk : (w.block f k).back p ≡ WriteBackBusyAck
      bk = pl.2.1

      ready : (is_taken ((w.block f k).victim p) ≡ true) × (is_victim_busy ((w.block f k).victim p) ≡ false)
      ready = (blocks_ready (s.nodes + 1) s.nodes s.pages s.blocks w sim.reached f k p pl.1 lp1).0.busy_acknowledged (let b = bk in grind arith)

      go : (v : Slot) × ((cpu p).slot ≡ Some v) × (v.frame ≡ f) × (v.number ≡ k) → (v : Slot) × ((cpu p).slot ≡ Some v) × (v.frame ≡ f) × (v.number ≡ k) × GoesAt s harts cpu home mover p (take_at_slot s p (cpu p) (slot_acknowledged v true)).0 (ms ++ (take_at_slot s p (cpu p) (slot_acknowledged v true)).1) w
      go fd = (fd.0, fd.1, fd.2, fd.3, by fd.0 fd.1 fd.2 fd.3 fd.0.seen refl)
        where
          by : (v : Slot) → (cpu p).slot ≡ Some v → v.frame ≡ f → v.number ≡ k → (t : Bool) → v.seen ≡ t → GoesAt s harts cpu home mover p (take_at_slot s p (cpu p) (cond t None (Some (record v { busy = true })))).0 (ms ++ (take_at_slot s p (cpu p) (cond t None (Some (record v { busy = true })))).1) w
          by v sl e1 e2 true t =
              let row : BlockRow L = Write_back_busy_ack_seen p in
              let e : Event L = On 0 0 f k row in
              let z : World L = apply (s.nodes + 1) s.nodes e w in
              let r0 = ready.0 in
              let r1 = ready.1 in
              let vs : (w.block f k).victim p ≡ Seen = (let a = n.victim f k in grind (arith, nat_tests)) in
              let gs : w.pages.victim p ≡ VictimOf f k = (let a = n.slot in grind arith) in
              let gd : guard (s.nodes + 1) s.nodes s.pages s.blocks e w = ((bk, vs), lp1, pl.1, tt) in
              let pp = self_number p in
              let hs = here_self f k in
              slot_goes s harts cpu home mover w e p None ms lp refl gd
              (slot_row s harts cpu home mover w f k row p v None x ms sim gd lp refl refl refl refl sl e1 e2 refl refl refl (grind arith) (λ g j ne. refl) (grind arith) refl refl refl
              (changed_busy_seen p f k w.pages e refl) (grind (arith, nat_tests)) refl (grind (arith, nat_tests)))
          by v sl e1 e2 false t =
              let row : BlockRow L = Write_back_busy_ack_first p in
              let e : Event L = On 0 0 f k row in
              let z : World L = apply (s.nodes + 1) s.nodes e w in
              let r0 = ready.0 in
              let r1 = ready.1 in
              let vs : (w.block f k).victim p ≡ Taken = (let a = n.victim f k in grind (arith, nat_tests)) in
              let gd : guard (s.nodes + 1) s.nodes s.pages s.blocks e w = ((bk, vs), lp1, pl.1, tt) in
              let pp = self_number p in
              let hs = here_self f k in
              let o : Option Slot = Some (record v { busy = true }) in
              slot_goes s harts cpu home mover w e p o ms lp refl gd
              (slot_row s harts cpu home mover w f k row p v o x ms sim gd lp refl refl refl refl sl e1 e2 refl refl refl (grind (arith, nat_tests)) (λ g j ne. grind (arith, nat_tests)) (let a = n.slot in grind arith) refl refl refl
              (changed_busy_first p f k w.pages e refl) (grind (arith, nat_tests)) refl (grind (arith, nat_tests)))
