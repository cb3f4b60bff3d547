-- What the invariant of the whole gives in each world.
use Rattle.std.proofs.Common.{◌≡◌, ℕ, ◌<◌, Bool, true, false, not, nat_eq, arith, ◌≢◌, inl, inr, refl, sym, subst}
use Rattle.std.proofs.lemmas.Bool.{cases_eq as eq_or}
use Rattle.std.proofs.lemmas.Bool.Decides.{nat_tests}
use Rattle.og_block.specs.State.{Idle, Free, Victim, Want}
use Rattle.og_block.proofs.Held.{held_line}
use Rattle.og_block.specs.Invariant.{Invariant as BlockInvariant}
use Rattle.og_block.proofs.Run.{one_writer}
use Rattle.og_pages.specs.State.{Request, NoRequest, VictimSlot as PVictim, Free as FreeRole, Outstanding, VictimOf, Dead}
use Rattle.og_pages.proofs.Safe.{copies_placed as pages_copies_placed, free_unnamed}
use Rattle.og_pages.specs.Claims.{Unnamed}
use Rattle.og_pages.specs.Invariant.{place}
use Rattle.og_whole.specs.Link.{Invariant, asks_for, stands_for}
use Rattle.og_whole.specs.Claims.{LinesHeld, CopiesPlaced, WriterAlone, Clear, FreeClear}
use Rattle.og_whole.specs.Events.{World}
use Rattle.og_whole.specs.Kind.{phase_of, is_idle, is_taken}
use Rattle.og_whole.proofs.Dead.{bare, clear, clear_mover}

asks_none : (r : Request) (f k : ℕ) → ((y : ℕ) → r ≢ Outstanding y f k) → asks_for r f k ≡ false
asks_none NoRequest f k h = refl
asks_none (Outstanding y g j) f k h = by (nat_eq g f) (nat_eq j k) refl refl
  where
    by : (t u : Bool) → nat_eq g f ≡ t → nat_eq j k ≡ u → asks_for (Outstanding y g j) f k ≡ false
    by true true a c = absurd (let a' : g ≡ f = grind (arith, nat_tests) in let c' : j ≡ k = grind (arith, nat_tests) in h y (cc))
    by true false a c = grind arith
    by false u a c = grind arith

idle : (v : Want) (t : Bool) → is_idle v ≡ not t → t ≡ false → v ≡ Idle
idle v t e h = grind arith

slots : (v : Victim) (x : PVictim) (f k : ℕ) → is_taken v ≡ stands_for x f k → x ≢ VictimOf f k → v ≡ Free
slots v x f k e h = grind (arith, nat_tests)

module _ {L : Type 0} (actors mover pages blocks : ℕ) (w : World L) (inside : mover < actors) (inv : Invariant L actors mover pages blocks w) where
  dead : (f k : ℕ) → k < blocks → w.pages.role f ≡ FreeRole → phase_of mover (w.block f k) ≡ Dead
  dead f k lt e = let d : w.pages.phase f k ≡ Dead = (free_unnamed pages blocks w.pages inv.of_pages f e).dead k lt in let x = (inv.link f k lt).phase_is in cc

  node_clear : (f k q : ℕ) → k < blocks → q < actors → q ≢ mover → w.pages.role f ≡ FreeRole → Clear L (w.block f k) q
  node_clear f k q lt lq ne e =
      let l = inv.link f k lt in
      let un : (y : ℕ) → Unnamed L w.pages f q y k = λ y. (free_unnamed pages blocks w.pages inv.of_pages f e).unnamed q y k in
      let br = bare actors (w.pages.newest f k) mover q (w.block f k) (dead f k lt e) l.invariant l.parts.ends l.parts.mover inside lq ne in
      let want : (w.block f k).want q ≡ Idle = idle ((w.block f k).want q) (asks_for (w.pages.request q) f k) (l.want_is q lq ne) (asks_none (w.pages.request q) f k (λ y. (un y).request)) in
      let slot : (w.block f k).victim q ≡ Free = slots ((w.block f k).victim q) (w.pages.victim q) f k (l.slot_is q lq ne) (un 0).victim in
      clear actors (w.pages.newest f k) mover q (w.block f k) (dead f k lt e) l.invariant.home l.parts.ends (l.invariant.each q lq) br want slot

  mover_clear : (f k : ℕ) → k < blocks → w.pages.role f ≡ FreeRole → Clear L (w.block f k) mover
  mover_clear f k lt e =
      let l = inv.link f k lt in
      clear_mover actors (w.pages.newest f k) mover (w.block f k) (dead f k lt e) l.invariant.home l.parts.ends (l.invariant.each mover inside) l.parts.mover

  pub free_clear : FreeClear L actors mover pages blocks w
  free_clear f k q lt lq e = elim (eq_or q mover) [ inl x ↦ subst (λ (y : ℕ). Clear L (w.block f k) y) (sym x) (mover_clear f k lt e) | inr ne ↦ node_clear f k q lt lq ne e ]

  pub lines_held : LinesHeld L actors mover pages blocks w
  lines_held y k ly lk =
      let g : ℕ = place w.pages.job (w.pages.page_table y) y k in
      held_line actors (w.pages.memory y k) (w.block g k) (subst (λ (v : L). BlockInvariant actors v (w.block g k)) (inv.of_pages.held y k ly lk) (inv.link g k lk).invariant)

  pub writer_alone : WriterAlone L actors mover pages blocks w
  writer_alone f k lt = one_writer actors (w.pages.newest f k) (w.block f k) (inv.link f k lt).invariant

  pub copies_placed : CopiesPlaced L actors mover pages blocks w
  copies_placed f k q lt lq e = pages_copies_placed pages blocks w.pages inv.of_pages f k q ((inv.link f k lt).copy_is q lq e)
