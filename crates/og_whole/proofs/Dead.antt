-- A block that was poisoned and collected: no node has a stake in it.
use Rattle.std.proofs.Common.{◌≡◌, ℕ, ◌<◌, true, false, nat_eq, arith, ◌≢◌, ◌⊎◌, inl, inr, subst}
use Rattle.std.proofs.lemmas.Bool.{cases_Bool}
use Rattle.std.proofs.lemmas.Bool.Decides.{nat_tests}
use Rattle.og_block.specs.State.{Free, Idle, Ask, Response, Back, Copy, Want, NoInvalidation, Block}
use Rattle.og_block.specs.Rows.{guard, Poison_collected}
use Rattle.og_block.specs.Invariant.{Invariant, Asks, Counted, Local, Home}
use Rattle.og_block.specs.Views.{is_holder, owns, trusts, trusts_at, pending}
use Rattle.og_block.proofs.Alone.{no_other_trusts, no_other_owns, quiet}
use Rattle.og_pages.specs.State.{Dead}
use Rattle.og_block.specs.Roles.{Mover, Plain, Ends_by}
use Rattle.og_whole.specs.Claims.{Clear}
use Rattle.og_whole.specs.Kind.{phase_of, has_copy}

no_copy : {L : Type 0} → (c : Copy L) (w : Want) (a : Ask L) (r : Response L) (k : Back L) → trusts c w a r ≡ false → owns c w a r k ≡ false → has_copy c ≡ false
no_copy c w a r k t o = grind arith

-- where the mover has the block and waits for nothing, no node has a copy
pub none_left : {L : Type 0} → (n : ℕ) (f : L) (m q : ℕ) (b : Block L) → Invariant n f b → Mover m b → is_holder b.entry b.revision m ≡ true → pending n b m ≡ 0 → q < n → has_copy (b.copy q) ≡ false
none_left n f m q b inv mv h none lq = go (cases_Bool (nat_eq q m))
  where
    go : (nat_eq q m ≡ true) ⊎ (nat_eq q m ≡ false) → has_copy (b.copy q) ≡ false
    go (inl e) = grind (arith, nat_tests)
    go (inr ne) =
        let d : q ≢ m = grind (arith, nat_tests) in
        no_copy (b.copy q) (b.want q) (b.ask q) (b.response q) (b.back q) (no_other_trusts n f m q b inv lq h none d) (no_other_owns n f m q b inv lq h d)

collector : {L : Type 0} → (n : ℕ) (f : L) (m p : ℕ) (l : L) (d : ℕ) (b : Block L) → guard (Poison_collected p l d) b → Local n f b p → Plain m b p → (p ≡ m) × (is_holder b.entry b.revision p ≡ true) × (pending n b p ≡ 0)
collector n f m p l d b g h pl = grind (arith, nat_tests)

pub none_collected : {L : Type 0} → (n : ℕ) (f : L) (m p : ℕ) (l : L) (d q : ℕ) (b : Block L) → guard (Poison_collected p l d) b → Invariant n f b → p < n → Plain m b p → Mover m b → q < n → has_copy (b.copy q) ≡ false
none_collected n f m p l d q b g inv lp pl mv lq =
    let c = collector n f m p l d b g (inv.each p lp) pl in
    none_left n f m q b inv mv (subst (λ (x : ℕ). is_holder b.entry b.revision x ≡ true) c.0 c.1) (subst (λ (x : ℕ). pending n b x ≡ 0) c.0 c.2) lq

dead_holds : {L : Type 0} → (n : ℕ) (f : L) (m : ℕ) (b : Block L) → phase_of m b ≡ Dead → Ends_by m b.entry → Asks b m → Counted n b m → (is_holder b.entry b.revision m ≡ true) × (pending n b m ≡ 0)
dead_holds n f m b e en a c = grind (arith, nat_tests)

-- no stake
pub record Bare (L : Type 0) (b : Block L) (q : ℕ) : Type 0 where
  pub copy : has_copy (b.copy q) ≡ false
  pub trust : trusts_at b q ≡ false
  pub owned : owns (b.copy q) (b.want q) (b.ask q) (b.response q) (b.back q) ≡ false
  pub invalidation : b.invalidation q ≡ NoInvalidation

pub bare : {L : Type 0} → (n : ℕ) (f : L) (m q : ℕ) (b : Block L) → phase_of m b ≡ Dead → Invariant n f b → Ends_by m b.entry → Mover m b → m < n → q < n → q ≢ m → Bare L b q
bare n f m q b e inv en mv lm lq ne =
    let hm : Local n f b m = inv.each m lm in
    let h = dead_holds n f m b e en hm.asks hm.counted in
    record {
      copy = none_left n f m q b inv mv h.0 h.1 lq;
      trust = no_other_trusts n f m q b inv lq h.0 h.1 ne;
      owned = no_other_owns n f m q b inv lq h.0 ne;
      invalidation = quiet n m q b h.0 h.1 lq (inv.each q lq).sent;
    }

-- where it has neither request nor victim for the block, nothing of it is in flight
pub clear : {L : Type 0} → (n : ℕ) (f : L) (m q : ℕ) (b : Block L) → phase_of m b ≡ Dead → Home n f b → Ends_by m b.entry → Local n f b q → Bare L b q → b.want q ≡ Idle → b.victim q ≡ Free → Clear L b q
clear n f m q b e home en h br w v = record {
  copy = let t = br.copy in grind arith;
  ask = grind (arith, nat_tests);
  response = grind (arith, nat_tests);
  acks = grind (arith, nat_tests);
  back = grind (arith, nat_tests);
  victim = v;
  intervention = grind (arith, nat_tests);
  invalidation = br.invalidation;
  revision = grind (arith, nat_tests);
}

-- nor is anything of it with the mover
pub clear_mover : {L : Type 0} → (n : ℕ) (f : L) (m : ℕ) (b : Block L) → phase_of m b ≡ Dead → Home n f b → Ends_by m b.entry → Local n f b m → Mover m b → Clear L b m
clear_mover n f m b e home en h mv = record {
  copy = mv.0;
  ask = grind (arith, nat_tests);
  response = grind (arith, nat_tests);
  acks = grind (arith, nat_tests);
  back = grind (arith, nat_tests);
  victim = mv.1;
  intervention = mv.2;
  invalidation = mv.3;
  revision = grind (arith, nat_tests);
}
