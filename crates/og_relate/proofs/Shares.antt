-- The seven answers to an intervention by the copy.
use Rattle.std.proofs.Common.{◌≡◌, ℕ, ◌+◌, ◌<◌, true, false, arith, refl, subst, sym, inr, inl, ◌⊎◌, List, [], ◌∷◌, ◌++◌}
use Rattle.std.proofs.lemmas.Bool.Decides.{nat_tests}
use Rattle.og_block.specs.State.{Block, put, NoCopy, Shared, Dirty, Idle, Free, InterveneShared, InterveneExclusive, Clean}
use Rattle.og_block.specs.Rows.{Row as BlockRow, Intervention_exclusive_clean, Intervention_exclusive_dirty, Intervention_poison_clean, Intervention_poison_dirty, Intervention_shared_clean, Intervention_shared_dirty, Intervention_shared_none, is_dirty}
use Rattle.og_block.specs.Invariant.{Local, Home, Inside, Backs, Intervened}
use Rattle.og_block.specs.Roles.{Ends_by}
use Rattle.og_pages.specs.State.{State as Pages}
use Rattle.og_whole.specs.Events.{World, Event, On, guard, apply}
use Rattle.og_whole.specs.Link.{Invariant}
use Rattle.og_whole.proofs.Runs.{reached}
use Rattle.og_relate.specs.Data.{KInterveneShared, KInterveneEx, KIntervenePoison, KSharedResponse, KExclusiveResponse, KSharingWriteBack, KDirtyTransfer, KPoisonBack, Post, Setup, IsSetup, Cpu, Mover, HomeSide, Harts, KOwnerAck, KSharingTransfer, KPoisonClean}
use Rattle.og_relate.specs.Places.{stands_at, Place, ResponseAt, RevisionAt, InterventionAt, Placed}
use Rattle.og_relate.specs.Sides.{owns, touches}
use Rattle.og_relate.specs.Sim.{Sim, NodeShows, want_at, victim_at}
use Rattle.og_relate.specs.Owes.{changes}
use Rattle.og_relate.specs.Steps.{letter}
use Rattle.og_relate.specs.Goes.{made_of}
use Rattle.og_relate.specs.Node.{with_copy}
use Rattle.og_relate.proofs.Home.{here_self, block_here}
use Rattle.og_relate.proofs.Parts.{self_number}
use Rattle.og_relate.proofs.Answer.{answer_row}

module _ {L : Type 0} where
  owned_sd : (p r f k : ℕ) (l : L) (e : Event L) → e ≡ On 0 0 f k (Intervention_shared_dirty p r l) → (x : Place) → owns e x ≡ true → x ≡ InterventionAt f k p
  owned_sd p r f k l e is x o = grind (arith, nat_tests)

  changed_sd : (p r f k : ℕ) (l : L) (s : Pages L) (e : Event L) → e ≡ On 0 0 f k (Intervention_shared_dirty p r l) → (x : Place) → changes s e x ≡ true → (x ≡ InterventionAt f k p) ⊎ ((x ≡ ResponseAt f k r) ⊎ (x ≡ RevisionAt f k))
  changed_sd p r f k l s e is x o = grind (arith, nat_tests)

  owned_xd : (p r f k : ℕ) (l : L) (e : Event L) → e ≡ On 0 0 f k (Intervention_exclusive_dirty p r l) → (x : Place) → owns e x ≡ true → x ≡ InterventionAt f k p
  owned_xd p r f k l e is x o = grind (arith, nat_tests)

  changed_xd : (p r f k : ℕ) (l : L) (s : Pages L) (e : Event L) → e ≡ On 0 0 f k (Intervention_exclusive_dirty p r l) → (x : Place) → changes s e x ≡ true → (x ≡ InterventionAt f k p) ⊎ ((x ≡ ResponseAt f k r) ⊎ (x ≡ RevisionAt f k))
  changed_xd p r f k l s e is x o = grind (arith, nat_tests)

  owned_pd : (p r f k : ℕ) (l : L) (e : Event L) → e ≡ On 0 0 f k (Intervention_poison_dirty p r l) → (x : Place) → owns e x ≡ true → x ≡ InterventionAt f k p
  owned_pd p r f k l e is x o = grind (arith, nat_tests)

  changed_pd : (p r f k : ℕ) (l : L) (s : Pages L) (e : Event L) → e ≡ On 0 0 f k (Intervention_poison_dirty p r l) → (x : Place) → changes s e x ≡ true → (x ≡ InterventionAt f k p) ⊎ (x ≡ RevisionAt f k)
  changed_pd p r f k l s e is x o = grind (arith, nat_tests)

  owned_sc : (p r f k : ℕ) (l : L) (e : Event L) → e ≡ On 0 0 f k (Intervention_shared_clean p r l) → (x : Place) → owns e x ≡ true → x ≡ InterventionAt f k p
  owned_sc p r f k l e is x o = grind (arith, nat_tests)

  changed_sc : (p r f k : ℕ) (l : L) (s : Pages L) (e : Event L) → e ≡ On 0 0 f k (Intervention_shared_clean p r l) → (x : Place) → changes s e x ≡ true → (x ≡ InterventionAt f k p) ⊎ ((x ≡ ResponseAt f k r) ⊎ (x ≡ RevisionAt f k))
  changed_sc p r f k l s e is x o = grind (arith, nat_tests)

  owned_sn : (p r f k : ℕ) (e : Event L) → e ≡ On 0 0 f k (Intervention_shared_none p r) → (x : Place) → owns e x ≡ true → x ≡ InterventionAt f k p
  owned_sn p r f k e is x o = grind (arith, nat_tests)

  changed_sn : (p r f k : ℕ) (s : Pages L) (e : Event L) → e ≡ On 0 0 f k (Intervention_shared_none p r) → (x : Place) → changes s e x ≡ true → (x ≡ InterventionAt f k p) ⊎ ((x ≡ ResponseAt f k r) ⊎ (x ≡ RevisionAt f k))
  changed_sn p r f k s e is x o = grind (arith, nat_tests)

  owned_xc : (p r f k : ℕ) (e : Event L) → e ≡ On 0 0 f k (Intervention_exclusive_clean p r) → (x : Place) → owns e x ≡ true → x ≡ InterventionAt f k p
  owned_xc p r f k e is x o = grind (arith, nat_tests)

  changed_xc : (p r f k : ℕ) (s : Pages L) (e : Event L) → e ≡ On 0 0 f k (Intervention_exclusive_clean p r) → (x : Place) → changes s e x ≡ true → (x ≡ InterventionAt f k p) ⊎ ((x ≡ ResponseAt f k r) ⊎ (x ≡ RevisionAt f k))
  changed_xc p r f k s e is x o = grind (arith, nat_tests)

  owned_pc : (p r f k : ℕ) (e : Event L) → e ≡ On 0 0 f k (Intervention_poison_clean p r) → (x : Place) → owns e x ≡ true → x ≡ InterventionAt f k p
  owned_pc p r f k e is x o = grind (arith, nat_tests)

  changed_pc : (p r f k : ℕ) (s : Pages L) (e : Event L) → e ≡ On 0 0 f k (Intervention_poison_clean p r) → (x : Place) → changes s e x ≡ true → (x ≡ InterventionAt f k p) ⊎ (x ≡ RevisionAt f k)
  changed_pc p r f k s e is x o = grind (arith, nat_tests)

  -- the requester of an intervention that is answered is a node
  asker_shared : (n m p r : ℕ) (l : L) (b : Block L) → Local n l b p → Home n l b → Ends_by m b.entry → n ≡ m + 1 → b.intervention p ≡ InterveneShared r → b.victim p ≡ Free → r < m
  asker_shared n m p r l b h home ends e i v = by h.backs h.intervened home.inside
    where
      by : Backs b p → Intervened b p → Inside n b.entry → r < m
      by k x y = grind (arith, nat_tests)

  asker_exclusive : (n m p r : ℕ) (l : L) (b : Block L) → Local n l b p → Home n l b → Ends_by m b.entry → n ≡ m + 1 → b.intervention p ≡ InterveneExclusive r → b.victim p ≡ Free → r < m
  asker_exclusive n m p r l b h home ends e i v = by h.backs h.intervened home.inside
    where
      by : Backs b p → Intervened b p → Inside n b.entry → r < m
      by k x y = grind (arith, nat_tests)

module _ {L : Type 0} {H : Type 0} where
  pub shared_dirty : (s : Setup) (harts : Harts L H) (cpu : ℕ → Cpu L H) (home : ℕ → HomeSide L) (mover : Mover L) (w : World L) (f k p r : ℕ) (l : L) (ms : List (Post L)) → IsSetup s →
      Sim s harts (record { cpu = cpu; home = home; mover = mover; flight = letter (s.home f) p (KInterveneShared f k r) ∷ ms }) w → p < s.nodes →
      want_at f k (cpu p).request ≡ Idle → victim_at f k (cpu p).slot ≡ Free → (cpu p).cache f k ≡ Dirty l →
      (e : Event L) × guard (s.nodes + 1) s.nodes s.pages s.blocks e w × (made_of e ≡ []) × Sim s harts (record { cpu = put cpu p (with_copy (cpu p) f k (Shared l)); home = home; mover = mover; flight = ms ++ letter p r (KSharedResponse f k l) ∷ letter p (s.home f) (KSharingWriteBack f k l) ∷ [] }) (apply (s.nodes + 1) s.nodes e w)
  shared_dirty s harts cpu home mover w f k p r l ms setup sim lp wi vf cd =
      let row : BlockRow L = Intervention_shared_dirty p r l in
      let e : Event L = On 0 0 f k row in
      let z : World L = apply (s.nodes + 1) s.nodes e w in
      let pl = sim.flight.0.0.0 in
      let n : NodeShows harts p (cpu p) w = sim.nodes p lp in
      let pp = self_number p in
      let lp1 : p < s.nodes + 1 = omega arith in
      let v1 : (w.block f k).victim p ≡ Free = (let y = n.victim f k in cc) in
      let w1 : (w.block f k).want p ≡ Idle = (let y = n.want f k in cc) in
      let c1 : (w.block f k).copy p ≡ Dirty l = (let y = n.copy f k in cc) in
      let gd : guard (s.nodes + 1) s.nodes s.pages s.blocks e w = ((pl.2.1, v1, w1, c1), lp1, pl.1, tt) in
      let inv : Invariant L (s.nodes + 1) s.nodes s.pages s.blocks w = reached (s.nodes + 1) s.nodes s.pages s.blocks w sim.reached in
      let lk = inv.link f k pl.1 in
      let lr : r < s.nodes = asker_shared (s.nodes + 1) s.nodes p r (w.pages.newest f k) (w.block f k) (lk.invariant.each p lp1) lk.invariant.home lk.parts.ends refl pl.2.1 v1 in
      let rr = self_number r in
      let zb = block_here (s.nodes + 1) s.nodes 0 0 f k row w in
      let hs = here_self f k in
      let one_ : Placed s z (letter p r (KSharedResponse f k l)) × (touches w.pages e (ResponseAt f k r) ≡ true) = (((pl.0, pl.1, (omega arith, grind arith, λ x. absurd (cc))), (lp, lr), tt), grind arith) in
      let two_ : Placed s z (letter p (s.home f) (KSharingWriteBack f k l)) × (touches w.pages e (RevisionAt f k) ≡ true) = (((pl.0, pl.1, (grind arith, λ x. absurd (cc))), (lp, refl), tt), grind arith) in (
        e,
        gd,
        refl,
        answer_row s harts cpu home mover w f k row p (with_copy (cpu p) f k (Shared l)) (Shared l) (letter (s.home f) p (KInterveneShared f k r)) ms (letter p r (KSharedResponse f k l) ∷ letter p (s.home f) (KSharingWriteBack f k l) ∷ []) sim gd lp pl.0 refl refl refl refl
            refl refl (λ y. refl) refl refl refl (λ g j. grind arith)
            (grind arith) refl refl refl (owned_sd p r f k l e refl) (grind (arith, nat_tests))
            ((one_, ((λ x. absurd (cc)), tt), (two_, tt, tt)), λ x i c st. elim (changed_sd p r f k l w.pages e refl x c) [ inl v ↦ absurd (let st2 : stands_at z (InterventionAt f k p) ≡ true = subst (λ u. stands_at z u ≡ true) v st in grind (arith, nat_tests)) | inr b ↦ elim b [ inl v ↦ inl (sym v) | inr v ↦ inr (inl (sym v)) ] ]),
      )

  pub exclusive_dirty : (s : Setup) (harts : Harts L H) (cpu : ℕ → Cpu L H) (home : ℕ → HomeSide L) (mover : Mover L) (w : World L) (f k p r : ℕ) (l : L) (ms : List (Post L)) → IsSetup s →
      Sim s harts (record { cpu = cpu; home = home; mover = mover; flight = letter (s.home f) p (KInterveneEx f k r) ∷ ms }) w → p < s.nodes →
      want_at f k (cpu p).request ≡ Idle → victim_at f k (cpu p).slot ≡ Free → (cpu p).cache f k ≡ Dirty l →
      (e : Event L) × guard (s.nodes + 1) s.nodes s.pages s.blocks e w × (made_of e ≡ []) × Sim s harts (record { cpu = put cpu p (with_copy (cpu p) f k NoCopy); home = home; mover = mover; flight = ms ++ letter p r (KExclusiveResponse f k l) ∷ letter p (s.home f) (KDirtyTransfer f k) ∷ [] }) (apply (s.nodes + 1) s.nodes e w)
  exclusive_dirty s harts cpu home mover w f k p r l ms setup sim lp wi vf cd =
      let row : BlockRow L = Intervention_exclusive_dirty p r l in
      let e : Event L = On 0 0 f k row in
      let z : World L = apply (s.nodes + 1) s.nodes e w in
      let pl = sim.flight.0.0.0 in
      let n : NodeShows harts p (cpu p) w = sim.nodes p lp in
      let pp = self_number p in
      let lp1 : p < s.nodes + 1 = omega arith in
      let v1 : (w.block f k).victim p ≡ Free = (let y = n.victim f k in cc) in
      let w1 : (w.block f k).want p ≡ Idle = (let y = n.want f k in cc) in
      let c1 : (w.block f k).copy p ≡ Dirty l = (let y = n.copy f k in cc) in
      let gd : guard (s.nodes + 1) s.nodes s.pages s.blocks e w = ((pl.2.1, v1, w1, c1), lp1, pl.1, tt) in
      let inv : Invariant L (s.nodes + 1) s.nodes s.pages s.blocks w = reached (s.nodes + 1) s.nodes s.pages s.blocks w sim.reached in
      let lk = inv.link f k pl.1 in
      let lr : r < s.nodes = asker_exclusive (s.nodes + 1) s.nodes p r (w.pages.newest f k) (w.block f k) (lk.invariant.each p lp1) lk.invariant.home lk.parts.ends refl pl.2.1 v1 in
      let rr = self_number r in
      let zb = block_here (s.nodes + 1) s.nodes 0 0 f k row w in
      let hs = here_self f k in
      let one_ : Placed s z (letter p r (KExclusiveResponse f k l)) × (touches w.pages e (ResponseAt f k r) ≡ true) = (((pl.0, pl.1, (omega arith, grind arith, λ x. absurd (cc))), (lp, lr), tt), grind arith) in
      let two_ : Placed s z (letter p (s.home f) (KDirtyTransfer f k)) × (touches w.pages e (RevisionAt f k) ≡ true) = (((pl.0, pl.1, (grind arith, λ x. absurd (cc))), (lp, refl), tt), grind arith) in (
        e,
        gd,
        refl,
        answer_row s harts cpu home mover w f k row p (with_copy (cpu p) f k NoCopy) NoCopy (letter (s.home f) p (KInterveneEx f k r)) ms (letter p r (KExclusiveResponse f k l) ∷ letter p (s.home f) (KDirtyTransfer f k) ∷ []) sim gd lp pl.0 refl refl refl refl
            refl refl (λ y. refl) refl refl refl (λ g j. grind arith)
            (grind arith) refl refl refl (owned_xd p r f k l e refl) (grind (arith, nat_tests))
            ((one_, ((λ x. absurd (cc)), tt), (two_, tt, tt)), λ x i c st. elim (changed_xd p r f k l w.pages e refl x c) [ inl v ↦ absurd (let st2 : stands_at z (InterventionAt f k p) ≡ true = subst (λ u. stands_at z u ≡ true) v st in grind (arith, nat_tests)) | inr b ↦ elim b [ inl v ↦ inl (sym v) | inr v ↦ inr (inl (sym v)) ] ]),
      )

  pub poison_dirty : (s : Setup) (harts : Harts L H) (cpu : ℕ → Cpu L H) (home : ℕ → HomeSide L) (mover : Mover L) (w : World L) (f k p : ℕ) (l : L) (ms : List (Post L)) → IsSetup s →
      Sim s harts (record { cpu = cpu; home = home; mover = mover; flight = letter (s.home f) p (KIntervenePoison f k) ∷ ms }) w → p < s.nodes →
      want_at f k (cpu p).request ≡ Idle → victim_at f k (cpu p).slot ≡ Free → (cpu p).cache f k ≡ Dirty l →
      (e : Event L) × guard (s.nodes + 1) s.nodes s.pages s.blocks e w × (made_of e ≡ []) × Sim s harts (record { cpu = put cpu p (with_copy (cpu p) f k NoCopy); home = home; mover = mover; flight = ms ++ letter p (s.home f) (KPoisonBack f k l) ∷ [] }) (apply (s.nodes + 1) s.nodes e w)
  poison_dirty s harts cpu home mover w f k p l ms setup sim lp wi vf cd =
      let row : BlockRow L = Intervention_poison_dirty p s.nodes l in
      let e : Event L = On 0 0 f k row in
      let z : World L = apply (s.nodes + 1) s.nodes e w in
      let pl = sim.flight.0.0.0 in
      let n : NodeShows harts p (cpu p) w = sim.nodes p lp in
      let pp = self_number p in
      let lp1 : p < s.nodes + 1 = omega arith in
      let v1 : (w.block f k).victim p ≡ Free = (let y = n.victim f k in cc) in
      let w1 : (w.block f k).want p ≡ Idle = (let y = n.want f k in cc) in
      let c1 : (w.block f k).copy p ≡ Dirty l = (let y = n.copy f k in cc) in
      let gd : guard (s.nodes + 1) s.nodes s.pages s.blocks e w = ((pl.2.1, v1, w1, c1), lp1, pl.1, tt) in
      let zb = block_here (s.nodes + 1) s.nodes 0 0 f k row w in
      let hs = here_self f k in
      let two_ : Placed s z (letter p (s.home f) (KPoisonBack f k l)) × (touches w.pages e (RevisionAt f k) ≡ true) = (((pl.0, pl.1, (grind arith, λ x. absurd (cc))), (lp, refl), tt), grind arith) in (
        e,
        gd,
        refl,
        answer_row s harts cpu home mover w f k row p (with_copy (cpu p) f k NoCopy) NoCopy (letter (s.home f) p (KIntervenePoison f k)) ms (letter p (s.home f) (KPoisonBack f k l) ∷ []) sim gd lp pl.0 refl refl refl refl
            refl refl (λ y. refl) refl refl refl (λ g j. grind arith)
            (grind arith) refl refl refl (owned_pd p s.nodes f k l e refl) (grind (arith, nat_tests))
            ((two_, tt, tt), λ x i c st. elim (changed_pd p s.nodes f k l w.pages e refl x c) [ inl v ↦ absurd (let st2 : stands_at z (InterventionAt f k p) ≡ true = subst (λ u. stands_at z u ≡ true) v st in grind (arith, nat_tests)) | inr v ↦ inl (sym v) ]),
      )

  pub shared_clean : (s : Setup) (harts : Harts L H) (cpu : ℕ → Cpu L H) (home : ℕ → HomeSide L) (mover : Mover L) (w : World L) (f k p r : ℕ) (l : L) (ms : List (Post L)) → IsSetup s →
      Sim s harts (record { cpu = cpu; home = home; mover = mover; flight = letter (s.home f) p (KInterveneShared f k r) ∷ ms }) w → p < s.nodes →
      want_at f k (cpu p).request ≡ Idle → victim_at f k (cpu p).slot ≡ Free → (cpu p).cache f k ≡ Clean l →
      (e : Event L) × guard (s.nodes + 1) s.nodes s.pages s.blocks e w × (made_of e ≡ []) × Sim s harts (record { cpu = put cpu p (with_copy (cpu p) f k (Shared l)); home = home; mover = mover; flight = ms ++ letter p r (KOwnerAck f k) ∷ letter p (s.home f) (KSharingTransfer f k) ∷ [] }) (apply (s.nodes + 1) s.nodes e w)
  shared_clean s harts cpu home mover w f k p r l ms setup sim lp wi vf cd =
      let row : BlockRow L = Intervention_shared_clean p r l in
      let e : Event L = On 0 0 f k row in
      let z : World L = apply (s.nodes + 1) s.nodes e w in
      let pl = sim.flight.0.0.0 in
      let n : NodeShows harts p (cpu p) w = sim.nodes p lp in
      let pp = self_number p in
      let lp1 : p < s.nodes + 1 = omega arith in
      let v1 : (w.block f k).victim p ≡ Free = (let y = n.victim f k in cc) in
      let w1 : (w.block f k).want p ≡ Idle = (let y = n.want f k in cc) in
      let c1 : (w.block f k).copy p ≡ Clean l = (let y = n.copy f k in cc) in
      let gd : guard (s.nodes + 1) s.nodes s.pages s.blocks e w = ((pl.2.1, v1, w1, c1), lp1, pl.1, tt) in
      let inv : Invariant L (s.nodes + 1) s.nodes s.pages s.blocks w = reached (s.nodes + 1) s.nodes s.pages s.blocks w sim.reached in
      let lk = inv.link f k pl.1 in
      let lr : r < s.nodes = asker_shared (s.nodes + 1) s.nodes p r (w.pages.newest f k) (w.block f k) (lk.invariant.each p lp1) lk.invariant.home lk.parts.ends refl pl.2.1 v1 in
      let rr = self_number r in
      let zb = block_here (s.nodes + 1) s.nodes 0 0 f k row w in
      let hs = here_self f k in
      let one_ : Placed s z (letter p r (KOwnerAck f k)) × (touches w.pages e (ResponseAt f k r) ≡ true) = (((pl.0, pl.1, (omega arith, grind arith, λ x. absurd (cc))), (lp, lr), tt), grind arith) in
      let two_ : Placed s z (letter p (s.home f) (KSharingTransfer f k)) × (touches w.pages e (RevisionAt f k) ≡ true) = (((pl.0, pl.1, (grind arith, λ x. absurd (cc))), (lp, refl), tt), grind arith) in (
        e,
        gd,
        refl,
        answer_row s harts cpu home mover w f k row p (with_copy (cpu p) f k (Shared l)) (Shared l) (letter (s.home f) p (KInterveneShared f k r)) ms (letter p r (KOwnerAck f k) ∷ letter p (s.home f) (KSharingTransfer f k) ∷ []) sim gd lp pl.0 refl refl refl refl
            refl refl (λ y. refl) refl refl refl (λ g j. grind arith)
            (grind arith) refl refl refl (owned_sc p r f k l e refl) (grind (arith, nat_tests))
            ((one_, ((λ x. absurd (cc)), tt), (two_, tt, tt)), λ x i c st. elim (changed_sc p r f k l w.pages e refl x c) [ inl v ↦ absurd (let st2 : stands_at z (InterventionAt f k p) ≡ true = subst (λ u. stands_at z u ≡ true) v st in grind (arith, nat_tests)) | inr b ↦ elim b [ inl v ↦ inl (sym v) | inr v ↦ inr (inl (sym v)) ] ]),
      )

  pub shared_none : (s : Setup) (harts : Harts L H) (cpu : ℕ → Cpu L H) (home : ℕ → HomeSide L) (mover : Mover L) (w : World L) (f k p r : ℕ) (ms : List (Post L)) → IsSetup s →
      Sim s harts (record { cpu = cpu; home = home; mover = mover; flight = letter (s.home f) p (KInterveneShared f k r) ∷ ms }) w → p < s.nodes →
      want_at f k (cpu p).request ≡ Idle → victim_at f k (cpu p).slot ≡ Free → (cpu p).cache f k ≡ NoCopy →
      (e : Event L) × guard (s.nodes + 1) s.nodes s.pages s.blocks e w × (made_of e ≡ []) × Sim s harts (record { cpu = put cpu p (cpu p); home = home; mover = mover; flight = ms ++ letter p r (KOwnerAck f k) ∷ letter p (s.home f) (KSharingTransfer f k) ∷ [] }) (apply (s.nodes + 1) s.nodes e w)
  shared_none s harts cpu home mover w f k p r ms setup sim lp wi vf cd =
      let row : BlockRow L = Intervention_shared_none p r in
      let e : Event L = On 0 0 f k row in
      let z : World L = apply (s.nodes + 1) s.nodes e w in
      let pl = sim.flight.0.0.0 in
      let n : NodeShows harts p (cpu p) w = sim.nodes p lp in
      let pp = self_number p in
      let lp1 : p < s.nodes + 1 = omega arith in
      let v1 : (w.block f k).victim p ≡ Free = (let y = n.victim f k in cc) in
      let w1 : (w.block f k).want p ≡ Idle = (let y = n.want f k in cc) in
      let c1 : (w.block f k).copy p ≡ NoCopy = (let y = n.copy f k in cc) in
      let gd : guard (s.nodes + 1) s.nodes s.pages s.blocks e w = ((pl.2.1, v1, w1, c1), lp1, pl.1, tt) in
      let inv : Invariant L (s.nodes + 1) s.nodes s.pages s.blocks w = reached (s.nodes + 1) s.nodes s.pages s.blocks w sim.reached in
      let lk = inv.link f k pl.1 in
      let lr : r < s.nodes = asker_shared (s.nodes + 1) s.nodes p r (w.pages.newest f k) (w.block f k) (lk.invariant.each p lp1) lk.invariant.home lk.parts.ends refl pl.2.1 v1 in
      let rr = self_number r in
      let zb = block_here (s.nodes + 1) s.nodes 0 0 f k row w in
      let hs = here_self f k in
      let one_ : Placed s z (letter p r (KOwnerAck f k)) × (touches w.pages e (ResponseAt f k r) ≡ true) = (((pl.0, pl.1, (omega arith, grind arith, λ x. absurd (cc))), (lp, lr), tt), grind arith) in
      let two_ : Placed s z (letter p (s.home f) (KSharingTransfer f k)) × (touches w.pages e (RevisionAt f k) ≡ true) = (((pl.0, pl.1, (grind arith, λ x. absurd (cc))), (lp, refl), tt), grind arith) in (
        e,
        gd,
        refl,
        answer_row s harts cpu home mover w f k row p (cpu p) NoCopy (letter (s.home f) p (KInterveneShared f k r)) ms (letter p r (KOwnerAck f k) ∷ letter p (s.home f) (KSharingTransfer f k) ∷ []) sim gd lp pl.0 refl refl refl refl
            refl refl (λ y. refl) refl refl refl (λ g j. grind (arith, nat_tests))
            c1 refl refl refl (owned_sn p r f k e refl) (grind (arith, nat_tests))
            ((one_, ((λ x. absurd (cc)), tt), (two_, tt, tt)), λ x i c st. elim (changed_sn p r f k w.pages e refl x c) [ inl v ↦ absurd (let st2 : stands_at z (InterventionAt f k p) ≡ true = subst (λ u. stands_at z u ≡ true) v st in grind (arith, nat_tests)) | inr b ↦ elim b [ inl v ↦ inl (sym v) | inr v ↦ inr (inl (sym v)) ] ]),
      )

  pub exclusive_clean : (s : Setup) (harts : Harts L H) (cpu : ℕ → Cpu L H) (home : ℕ → HomeSide L) (mover : Mover L) (w : World L) (f k p r : ℕ) (ms : List (Post L)) → IsSetup s →
      Sim s harts (record { cpu = cpu; home = home; mover = mover; flight = letter (s.home f) p (KInterveneEx f k r) ∷ ms }) w → p < s.nodes →
      want_at f k (cpu p).request ≡ Idle → victim_at f k (cpu p).slot ≡ Free → is_dirty ((cpu p).cache f k) ≡ false →
      (e : Event L) × guard (s.nodes + 1) s.nodes s.pages s.blocks e w × (made_of e ≡ []) × Sim s harts (record { cpu = put cpu p (with_copy (cpu p) f k NoCopy); home = home; mover = mover; flight = ms ++ letter p r (KOwnerAck f k) ∷ letter p (s.home f) (KDirtyTransfer f k) ∷ [] }) (apply (s.nodes + 1) s.nodes e w)
  exclusive_clean s harts cpu home mover w f k p r ms setup sim lp wi vf cd =
      let row : BlockRow L = Intervention_exclusive_clean p r in
      let e : Event L = On 0 0 f k row in
      let z : World L = apply (s.nodes + 1) s.nodes e w in
      let pl = sim.flight.0.0.0 in
      let n : NodeShows harts p (cpu p) w = sim.nodes p lp in
      let pp = self_number p in
      let lp1 : p < s.nodes + 1 = omega arith in
      let v1 : (w.block f k).victim p ≡ Free = (let y = n.victim f k in cc) in
      let w1 : (w.block f k).want p ≡ Idle = (let y = n.want f k in cc) in
      let c1 : is_dirty ((w.block f k).copy p) ≡ false = (let y = n.copy f k in cc) in
      let gd : guard (s.nodes + 1) s.nodes s.pages s.blocks e w = ((pl.2.1, v1, w1, c1), lp1, pl.1, tt) in
      let inv : Invariant L (s.nodes + 1) s.nodes s.pages s.blocks w = reached (s.nodes + 1) s.nodes s.pages s.blocks w sim.reached in
      let lk = inv.link f k pl.1 in
      let lr : r < s.nodes = asker_exclusive (s.nodes + 1) s.nodes p r (w.pages.newest f k) (w.block f k) (lk.invariant.each p lp1) lk.invariant.home lk.parts.ends refl pl.2.1 v1 in
      let rr = self_number r in
      let zb = block_here (s.nodes + 1) s.nodes 0 0 f k row w in
      let hs = here_self f k in
      let one_ : Placed s z (letter p r (KOwnerAck f k)) × (touches w.pages e (ResponseAt f k r) ≡ true) = (((pl.0, pl.1, (omega arith, grind arith, λ x. absurd (cc))), (lp, lr), tt), grind arith) in
      let two_ : Placed s z (letter p (s.home f) (KDirtyTransfer f k)) × (touches w.pages e (RevisionAt f k) ≡ true) = (((pl.0, pl.1, (grind arith, λ x. absurd (cc))), (lp, refl), tt), grind arith) in (
        e,
        gd,
        refl,
        answer_row s harts cpu home mover w f k row p (with_copy (cpu p) f k NoCopy) NoCopy (letter (s.home f) p (KInterveneEx f k r)) ms (letter p r (KOwnerAck f k) ∷ letter p (s.home f) (KDirtyTransfer f k) ∷ []) sim gd lp pl.0 refl refl refl refl
            refl refl (λ y. refl) refl refl refl (λ g j. grind arith)
            (grind arith) refl refl refl (owned_xc p r f k e refl) (grind (arith, nat_tests))
            ((one_, ((λ x. absurd (cc)), tt), (two_, tt, tt)), λ x i c st. elim (changed_xc p r f k w.pages e refl x c) [ inl v ↦ absurd (let st2 : stands_at z (InterventionAt f k p) ≡ true = subst (λ u. stands_at z u ≡ true) v st in grind (arith, nat_tests)) | inr b ↦ elim b [ inl v ↦ inl (sym v) | inr v ↦ inr (inl (sym v)) ] ]),
      )

  pub poison_clean : (s : Setup) (harts : Harts L H) (cpu : ℕ → Cpu L H) (home : ℕ → HomeSide L) (mover : Mover L) (w : World L) (f k p : ℕ) (ms : List (Post L)) → IsSetup s →
      Sim s harts (record { cpu = cpu; home = home; mover = mover; flight = letter (s.home f) p (KIntervenePoison f k) ∷ ms }) w → p < s.nodes →
      want_at f k (cpu p).request ≡ Idle → victim_at f k (cpu p).slot ≡ Free → is_dirty ((cpu p).cache f k) ≡ false →
      (e : Event L) × guard (s.nodes + 1) s.nodes s.pages s.blocks e w × (made_of e ≡ []) × Sim s harts (record { cpu = put cpu p (with_copy (cpu p) f k NoCopy); home = home; mover = mover; flight = ms ++ letter p (s.home f) (KPoisonClean f k) ∷ [] }) (apply (s.nodes + 1) s.nodes e w)
  poison_clean s harts cpu home mover w f k p ms setup sim lp wi vf cd =
      let row : BlockRow L = Intervention_poison_clean p s.nodes in
      let e : Event L = On 0 0 f k row in
      let z : World L = apply (s.nodes + 1) s.nodes e w in
      let pl = sim.flight.0.0.0 in
      let n : NodeShows harts p (cpu p) w = sim.nodes p lp in
      let pp = self_number p in
      let lp1 : p < s.nodes + 1 = omega arith in
      let v1 : (w.block f k).victim p ≡ Free = (let y = n.victim f k in cc) in
      let w1 : (w.block f k).want p ≡ Idle = (let y = n.want f k in cc) in
      let c1 : is_dirty ((w.block f k).copy p) ≡ false = (let y = n.copy f k in cc) in
      let gd : guard (s.nodes + 1) s.nodes s.pages s.blocks e w = ((pl.2.1, v1, w1, c1), lp1, pl.1, tt) in
      let zb = block_here (s.nodes + 1) s.nodes 0 0 f k row w in
      let hs = here_self f k in
      let two_ : Placed s z (letter p (s.home f) (KPoisonClean f k)) × (touches w.pages e (RevisionAt f k) ≡ true) = (((pl.0, pl.1, (grind arith, λ x. absurd (cc))), (lp, refl), tt), grind arith) in (
        e,
        gd,
        refl,
        answer_row s harts cpu home mover w f k row p (with_copy (cpu p) f k NoCopy) NoCopy (letter (s.home f) p (KIntervenePoison f k)) ms (letter p (s.home f) (KPoisonClean f k) ∷ []) sim gd lp pl.0 refl refl refl refl
            refl refl (λ y. refl) refl refl refl (λ g j. grind arith)
            (grind arith) refl refl refl (owned_pc p s.nodes f k e refl) (grind (arith, nat_tests))
            ((two_, tt, tt), λ x i c st. elim (changed_pc p s.nodes f k w.pages e refl x c) [ inl v ↦ absurd (let st2 : stands_at z (InterventionAt f k p) ≡ true = subst (λ u. stands_at z u ≡ true) v st in grind (arith, nat_tests)) | inr v ↦ inl (sym v) ]),
      )
