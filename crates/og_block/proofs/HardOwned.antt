-- Pairs of a row and a part that need few of the other parts, and are too many cases with all of them.
use Rattle.std.proofs.Common.{◌≡◌, ℕ, ◌<◌, true, arith}
use Rattle.std.proofs.lemmas.Bool.Decides.{nat_tests}
use Rattle.og_block.proofs.Alone.{holder_is_one}
use Rattle.og_block.specs.State.{Block}
use Rattle.og_block.specs.Access.{flat_after}
use Rattle.og_block.specs.Rows.{guard, apply, Intervention_victim_busy, Intervention_victim_first, Intervention_shared_none, Intervention_exclusive_clean, Fill_exclusive_answered, Fill_exclusive_speculative}
use Rattle.og_block.specs.Invariant.{Invariant, Local, Asks, Backs, Owned, Spent, Waits, Intervened, Covered, is_holder}

module _ {L : Type 0} where
  narrow_intervened_Intervention_victim_busy : (n : ℕ) (f : L) (q : ℕ) (p : ℕ) (b : Block L) → guard (Intervention_victim_busy p) b → Backs b q → Intervened b q → Spent b p → Intervened (apply n (Intervention_victim_busy p) b) q
  narrow_intervened_Intervention_victim_busy n f q p b g h0 h1 h2 = grind (arith, nat_tests)

  pub intervened_Intervention_victim_busy : (n : ℕ) (f : L) (q : ℕ) (p : ℕ) (b : Block L) → guard (Intervention_victim_busy p) b → Invariant n f b → p < n → q < n → Intervened (apply n (Intervention_victim_busy p) b) q
  intervened_Intervention_victim_busy n f q p b g inv lp lq = let hq : Local n f b q = inv.each q lq in let hp : Local n f b p = inv.each p lp in narrow_intervened_Intervention_victim_busy n f q p b g hq.backs hq.intervened hp.spent

  narrow_intervened_Intervention_victim_first : (n : ℕ) (f : L) (q : ℕ) (p : ℕ) (b : Block L) → guard (Intervention_victim_first p) b → Backs b q → Intervened b q → Intervened (apply n (Intervention_victim_first p) b) q
  narrow_intervened_Intervention_victim_first n f q p b g h0 h1 = grind (arith, nat_tests)

  pub intervened_Intervention_victim_first : (n : ℕ) (f : L) (q : ℕ) (p : ℕ) (b : Block L) → guard (Intervention_victim_first p) b → Invariant n f b → p < n → q < n → Intervened (apply n (Intervention_victim_first p) b) q
  intervened_Intervention_victim_first n f q p b g inv lp lq = let hq : Local n f b q = inv.each q lq in let hp : Local n f b p = inv.each p lp in narrow_intervened_Intervention_victim_first n f q p b g hq.backs hq.intervened

  narrow_owned_Intervention_shared_none : (n : ℕ) (f : L) (q : ℕ) (p : ℕ) (r : ℕ) (b : Block L) → guard (Intervention_shared_none p r) b → Backs b p → Intervened b p → Asks b p → Asks b q → Waits b q → Owned b q → Owned (apply n (Intervention_shared_none p r) b) q
  narrow_owned_Intervention_shared_none n f q p r b g h0 h1 h2 h3 h4 h5 = grind (arith, nat_tests)

  pub owned_Intervention_shared_none : (n : ℕ) (f : L) (q : ℕ) (p : ℕ) (r : ℕ) (b : Block L) → guard (Intervention_shared_none p r) b → Invariant n f b → p < n → q < n → Owned (apply n (Intervention_shared_none p r) b) q
  owned_Intervention_shared_none n f q p r b g inv lp lq = let hq : Local n f b q = inv.each q lq in let hp : Local n f b p = inv.each p lp in narrow_owned_Intervention_shared_none n f q p r b g hp.backs hp.intervened hp.asks hq.asks hq.waits hq.owned

  narrow_owned_Intervention_exclusive_clean : (n : ℕ) (f : L) (q : ℕ) (p : ℕ) (r : ℕ) (b : Block L) → guard (Intervention_exclusive_clean p r) b → Asks b q → Waits b q → Owned b q → Asks b p → Backs b p → Intervened b p → Owned (apply n (Intervention_exclusive_clean p r) b) q
  narrow_owned_Intervention_exclusive_clean n f q p r b g h0 h1 h2 h3 h4 h5 = grind (arith, nat_tests)

  pub owned_Intervention_exclusive_clean : (n : ℕ) (f : L) (q : ℕ) (p : ℕ) (r : ℕ) (b : Block L) → guard (Intervention_exclusive_clean p r) b → Invariant n f b → p < n → q < n → Owned (apply n (Intervention_exclusive_clean p r) b) q
  owned_Intervention_exclusive_clean n f q p r b g inv lp lq = let hq : Local n f b q = inv.each q lq in let hp : Local n f b p = inv.each p lp in narrow_owned_Intervention_exclusive_clean n f q p r b g hq.asks hq.waits hq.owned hp.asks hp.backs hp.intervened

  holds_Fill_exclusive_answered : (n : ℕ) (p : ℕ) (v : L) (m : L) (l : L) (b : Block L) → guard (Fill_exclusive_answered p v m l) b → Owned b p → is_holder b.entry b.revision p ≡ true
  holds_Fill_exclusive_answered n p v m l b g o = grind (arith, nat_tests)

  at_Fill_exclusive_answered : (n : ℕ) (f : L) (q : ℕ) (p : ℕ) (v : L) (m : L) (l : L) (b : Block L) → guard (Fill_exclusive_answered p v m l) b → Owned b p → Covered f b q → Covered v (apply n (Fill_exclusive_answered p v m l) b) q
  at_Fill_exclusive_answered n f q p v m l b g o c h d =
      let e : p ≡ q = holder_is_one b.entry b.revision p q (holds_Fill_exclusive_answered n p v m l b g o) h in
      absurd (grind (arith, nat_tests))

  pub covered_Fill_exclusive_answered : (n : ℕ) (f : L) (q : ℕ) (p : ℕ) (v : L) (m : L) (l : L) (b : Block L) → guard (Fill_exclusive_answered p v m l) b → Invariant n f b → p < n → q < n → Covered (flat_after (Fill_exclusive_answered p v m l) f) (apply n (Fill_exclusive_answered p v m l) b) q
  covered_Fill_exclusive_answered n f q p v m l b g inv lp lq = at_Fill_exclusive_answered n f q p v m l b g (inv.each p lp).owned (inv.each q lq).covered

  holds_Fill_exclusive_speculative : (n : ℕ) (p : ℕ) (v : L) (m : L) (b : Block L) → guard (Fill_exclusive_speculative p v m) b → Owned b p → is_holder b.entry b.revision p ≡ true
  holds_Fill_exclusive_speculative n p v m b g o = grind (arith, nat_tests)

  at_Fill_exclusive_speculative : (n : ℕ) (f : L) (q : ℕ) (p : ℕ) (v : L) (m : L) (b : Block L) → guard (Fill_exclusive_speculative p v m) b → Owned b p → Covered f b q → Covered v (apply n (Fill_exclusive_speculative p v m) b) q
  at_Fill_exclusive_speculative n f q p v m b g o c h d =
      let e : p ≡ q = holder_is_one b.entry b.revision p q (holds_Fill_exclusive_speculative n p v m b g o) h in
      absurd (grind (arith, nat_tests))

  pub covered_Fill_exclusive_speculative : (n : ℕ) (f : L) (q : ℕ) (p : ℕ) (v : L) (m : L) (b : Block L) → guard (Fill_exclusive_speculative p v m) b → Invariant n f b → p < n → q < n → Covered (flat_after (Fill_exclusive_speculative p v m) f) (apply n (Fill_exclusive_speculative p v m) b) q
  covered_Fill_exclusive_speculative n f q p v m b g inv lp lq = at_Fill_exclusive_speculative n f q p v m b g (inv.each p lp).owned (inv.each q lq).covered
