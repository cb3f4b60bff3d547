-- The part `sent`, at the rows where the holder changes, or invalidations go out: there is none in flight before.
use Rattle.std.proofs.Common.{◌≡◌, ℕ, ◌<◌, Bool, false, arith}
use Rattle.std.proofs.lemmas.Bool.Decides.{nat_tests}
use Rattle.og_block.proofs.Pending.{pending_none}
use Rattle.og_block.proofs.Alone.{quiet, giver_holds, giver_waits, no_invalidation_sent, quiet_Copy_in}
use Rattle.og_block.specs.State.{Block, NoInvalidation}
use Rattle.og_block.specs.Rows.{guard, apply, Read_exclusive_shared, Upgrade_shared, Upgrade_grouped, Poison_read_shared, Write_back_owner, Write_back_busy_shared, Write_back_busy_exclusive, Write_back_requester, Write_back_busy_poison, Intervention_shared_dirty, Intervention_shared_clean, Intervention_shared_none, Intervention_exclusive_dirty, Intervention_exclusive_clean, Intervention_poison_dirty, Intervention_poison_clean, Copy_in}
use Rattle.og_block.specs.Invariant.{Invariant, Local, Sent, pending, is_for}

module _ {L : Type 0} where
  pub sent_Read_exclusive_shared : (n : ℕ) (f : L) (q : ℕ) (p : ℕ) (s : ℕ → Bool) (b : Block L) → guard (Read_exclusive_shared p s) b → Invariant n f b → p < n → q < n → Sent n (apply n (Read_exclusive_shared p s) b) q
  sent_Read_exclusive_shared n f q p s b g inv lp lq = grind (arith, nat_tests)

  pub sent_Upgrade_shared : (n : ℕ) (f : L) (q : ℕ) (p : ℕ) (s : ℕ → Bool) (b : Block L) → guard (Upgrade_shared p s) b → Invariant n f b → p < n → q < n → Sent n (apply n (Upgrade_shared p s) b) q
  sent_Upgrade_shared n f q p s b g inv lp lq = grind (arith, nat_tests)

  pub sent_Upgrade_grouped : (n : ℕ) (f : L) (q : ℕ) (p : ℕ) (s : ℕ → Bool) (b : Block L) → guard (Upgrade_grouped p s) b → Invariant n f b → p < n → q < n → Sent n (apply n (Upgrade_grouped p s) b) q
  sent_Upgrade_grouped n f q p s b g inv lp lq = grind (arith, nat_tests)

  pub sent_Poison_read_shared : (n : ℕ) (f : L) (q : ℕ) (p : ℕ) (s : ℕ → Bool) (b : Block L) → guard (Poison_read_shared p s) b → Invariant n f b → p < n → q < n → Sent n (apply n (Poison_read_shared p s) b) q
  sent_Poison_read_shared n f q p s b g inv lp lq = grind (arith, nat_tests)

  pub sent_Write_back_owner : (n : ℕ) (f : L) (q : ℕ) (p : ℕ) (l : L) (b : Block L) → guard (Write_back_owner p l) b → Invariant n f b → p < n → q < n → Sent n (apply n (Write_back_owner p l) b) q
  sent_Write_back_owner n f q p l b g inv lp lq =
      let hp : Local n f b p = inv.each p lp in
      let none : b.invalidation q ≡ NoInvalidation = quiet n p q b (giver_holds n p b l g.0 hp.owned) (giver_waits n p b l g.0 hp.backs hp.rests hp.asks hp.counted) lq (inv.each q lq).sent in
      no_invalidation_sent n q (apply n (Write_back_owner p l) b) none

  pub sent_Write_back_busy_shared : (n : ℕ) (f : L) (q : ℕ) (p : ℕ) (r : ℕ) (l : L) (b : Block L) → guard (Write_back_busy_shared p r l) b → Invariant n f b → p < n → q < n → Sent n (apply n (Write_back_busy_shared p r l) b) q
  sent_Write_back_busy_shared n f q p r l b g inv lp lq =
      let hp : Local n f b p = inv.each p lp in
      let none : b.invalidation q ≡ NoInvalidation = quiet n p q b (giver_holds n p b l g.0 hp.owned) (giver_waits n p b l g.0 hp.backs hp.rests hp.asks hp.counted) lq (inv.each q lq).sent in
      no_invalidation_sent n q (apply n (Write_back_busy_shared p r l) b) none

  pub sent_Write_back_busy_exclusive : (n : ℕ) (f : L) (q : ℕ) (p : ℕ) (r : ℕ) (l : L) (b : Block L) → guard (Write_back_busy_exclusive p r l) b → Invariant n f b → p < n → q < n → Sent n (apply n (Write_back_busy_exclusive p r l) b) q
  sent_Write_back_busy_exclusive n f q p r l b g inv lp lq =
      let hp : Local n f b p = inv.each p lp in
      let none : b.invalidation q ≡ NoInvalidation = quiet n p q b (giver_holds n p b l g.0 hp.owned) (giver_waits n p b l g.0 hp.backs hp.rests hp.asks hp.counted) lq (inv.each q lq).sent in
      no_invalidation_sent n q (apply n (Write_back_busy_exclusive p r l) b) none

  pub sent_Write_back_requester : (n : ℕ) (f : L) (q : ℕ) (p : ℕ) (o : ℕ) (l : L) (b : Block L) → guard (Write_back_requester p o l) b → Invariant n f b → p < n → q < n → Sent n (apply n (Write_back_requester p o l) b) q
  sent_Write_back_requester n f q p o l b g inv lp lq =
      let hp : Local n f b p = inv.each p lp in
      let none : b.invalidation q ≡ NoInvalidation = quiet n p q b (giver_holds n p b l g.0 hp.owned) (giver_waits n p b l g.0 hp.backs hp.rests hp.asks hp.counted) lq (inv.each q lq).sent in
      no_invalidation_sent n q (apply n (Write_back_requester p o l) b) none

  pub sent_Write_back_busy_poison : (n : ℕ) (f : L) (q : ℕ) (p : ℕ) (r : ℕ) (l : L) (b : Block L) → guard (Write_back_busy_poison p r l) b → Invariant n f b → p < n → q < n → Sent n (apply n (Write_back_busy_poison p r l) b) q
  sent_Write_back_busy_poison n f q p r l b g inv lp lq =
      let hp : Local n f b p = inv.each p lp in
      let none : b.invalidation q ≡ NoInvalidation = quiet n p q b (giver_holds n p b l g.0 hp.owned) (giver_waits n p b l g.0 hp.backs hp.rests hp.asks hp.counted) lq (inv.each q lq).sent in
      no_invalidation_sent n q (apply n (Write_back_busy_poison p r l) b) none

  pub sent_Intervention_shared_dirty : (n : ℕ) (f : L) (q : ℕ) (p : ℕ) (r : ℕ) (l : L) (b : Block L) → guard (Intervention_shared_dirty p r l) b → Invariant n f b → p < n → q < n → Sent n (apply n (Intervention_shared_dirty p r l) b) q
  sent_Intervention_shared_dirty n f q p r l b g inv lp lq =
      let none : pending n b p ≡ 0 → is_for p (b.invalidation q) ≡ false = λ e. pending_none n b p q e lq in
      grind (arith, nat_tests)

  pub sent_Intervention_shared_clean : (n : ℕ) (f : L) (q : ℕ) (p : ℕ) (r : ℕ) (l : L) (b : Block L) → guard (Intervention_shared_clean p r l) b → Invariant n f b → p < n → q < n → Sent n (apply n (Intervention_shared_clean p r l) b) q
  sent_Intervention_shared_clean n f q p r l b g inv lp lq =
      let none : pending n b p ≡ 0 → is_for p (b.invalidation q) ≡ false = λ e. pending_none n b p q e lq in
      grind (arith, nat_tests)

  pub sent_Intervention_shared_none : (n : ℕ) (f : L) (q : ℕ) (p : ℕ) (r : ℕ) (b : Block L) → guard (Intervention_shared_none p r) b → Invariant n f b → p < n → q < n → Sent n (apply n (Intervention_shared_none p r) b) q
  sent_Intervention_shared_none n f q p r b g inv lp lq =
      let none : pending n b p ≡ 0 → is_for p (b.invalidation q) ≡ false = λ e. pending_none n b p q e lq in
      grind (arith, nat_tests)

  pub sent_Intervention_exclusive_dirty : (n : ℕ) (f : L) (q : ℕ) (p : ℕ) (r : ℕ) (l : L) (b : Block L) → guard (Intervention_exclusive_dirty p r l) b → Invariant n f b → p < n → q < n → Sent n (apply n (Intervention_exclusive_dirty p r l) b) q
  sent_Intervention_exclusive_dirty n f q p r l b g inv lp lq =
      let none : pending n b p ≡ 0 → is_for p (b.invalidation q) ≡ false = λ e. pending_none n b p q e lq in
      grind (arith, nat_tests)

  pub sent_Intervention_exclusive_clean : (n : ℕ) (f : L) (q : ℕ) (p : ℕ) (r : ℕ) (b : Block L) → guard (Intervention_exclusive_clean p r) b → Invariant n f b → p < n → q < n → Sent n (apply n (Intervention_exclusive_clean p r) b) q
  sent_Intervention_exclusive_clean n f q p r b g inv lp lq =
      let none : pending n b p ≡ 0 → is_for p (b.invalidation q) ≡ false = λ e. pending_none n b p q e lq in
      grind (arith, nat_tests)

  pub sent_Intervention_poison_dirty : (n : ℕ) (f : L) (q : ℕ) (p : ℕ) (r : ℕ) (l : L) (b : Block L) → guard (Intervention_poison_dirty p r l) b → Invariant n f b → p < n → q < n → Sent n (apply n (Intervention_poison_dirty p r l) b) q
  sent_Intervention_poison_dirty n f q p r l b g inv lp lq =
      let none : pending n b p ≡ 0 → is_for p (b.invalidation q) ≡ false = λ e. pending_none n b p q e lq in
      grind (arith, nat_tests)

  pub sent_Intervention_poison_clean : (n : ℕ) (f : L) (q : ℕ) (p : ℕ) (r : ℕ) (b : Block L) → guard (Intervention_poison_clean p r) b → Invariant n f b → p < n → q < n → Sent n (apply n (Intervention_poison_clean p r) b) q
  sent_Intervention_poison_clean n f q p r b g inv lp lq =
      let none : pending n b p ≡ 0 → is_for p (b.invalidation q) ≡ false = λ e. pending_none n b p q e lq in
      grind (arith, nat_tests)

  pub sent_Copy_in : (n : ℕ) (f : L) (q : ℕ) (p : ℕ) (v : L) (b : Block L) → guard (Copy_in p v) b → Invariant n f b → p < n → q < n → Sent n (apply n (Copy_in p v) b) q
  sent_Copy_in n f q p v b g inv lp lq = no_invalidation_sent n q (apply n (Copy_in p v) b) (quiet_Copy_in n f p q v b g inv lp lq)
