-- The part `fresh`. A row that writes makes every other line old: there is none then that an access could meet.
use Rattle.std.proofs.Common.{◌≡◌, ℕ, ◌<◌, Bool, true, arith, ◌≢◌}
use Rattle.std.proofs.lemmas.Bool.Decides.{nat_tests}
use Rattle.og_block.proofs.Alone.{fresh_other, fresh_other_Copy_in}
use Rattle.og_block.specs.State.{Block}
use Rattle.og_block.specs.Access.{flat_after}
use Rattle.og_block.specs.Rows.{guard, apply, Send_upgrade, Store, Fill_exclusive, Fill_exclusive_answered, Fill_exclusive_speculative, Fill_upgrade, Fill_upgrade_line, Fill_shared, Fill_clean, Fill_shared_answered, Fill_shared_speculative, Again_speculative, Poison_collected, Copy_in}
use Rattle.og_block.specs.Invariant.{Invariant, Local, Asks, Rests, Backs, Owned, Waits, Fresh, Counted, is_holder, pending}

module _ {L : Type 0} where
  narrow_fresh_Send_upgrade : (n : ℕ) (f : L) (q : ℕ) (p : ℕ) (l : L) (b : Block L) → guard (Send_upgrade p l) b → Asks b q → Fresh f b q → Fresh (flat_after (Send_upgrade p l) f) (apply n (Send_upgrade p l) b) q
  narrow_fresh_Send_upgrade n f q p l b g h0 h1 = grind (arith, nat_tests)

  pub fresh_Send_upgrade : (n : ℕ) (f : L) (q : ℕ) (p : ℕ) (l : L) (b : Block L) → guard (Send_upgrade p l) b → Invariant n f b → p < n → q < n → Fresh (flat_after (Send_upgrade p l) f) (apply n (Send_upgrade p l) b) q
  fresh_Send_upgrade n f q p l b g inv lp lq = let hq : Local n f b q = inv.each q lq in let hp : Local n f b p = inv.each p lp in narrow_fresh_Send_upgrade n f q p l b g hq.asks hq.fresh

  -- the writer is the holder, and waits for no acknowledgement
  writer_Store : (n : ℕ) (p : ℕ) (v : L) (l : L) (b : Block L) → guard (Store p v l) b → Asks b p → Owned b p → Counted n b p → (is_holder b.entry b.revision p ≡ true) × (pending n b p ≡ 0)
  writer_Store n p v l b g a o c = grind arith

  at_Store : (n q : ℕ) (p : ℕ) (v : L) (l : L) (b : Block L) → guard (Store p v l) b → Asks b p → Rests b p → Backs b p → (q ≢ p → Fresh v b q) → Fresh v (apply n (Store p v l) b) q
  at_Store n q p v l b g a r k h = grind (arith, nat_tests)

  pub fresh_Store : (n : ℕ) (f : L) (q : ℕ) (p : ℕ) (v : L) (l : L) (b : Block L) → guard (Store p v l) b → Invariant n f b → p < n → q < n → Fresh (flat_after (Store p v l) f) (apply n (Store p v l) b) q
  fresh_Store n f q p v l b g inv lp lq =
      let hp : Local n f b p = inv.each p lp in
      let w : (is_holder b.entry b.revision p ≡ true) × (pending n b p ≡ 0) = writer_Store n p v l b g hp.asks hp.owned hp.counted in
      at_Store n q p v l b g hp.asks hp.rests hp.backs (λ ne. fresh_other n f v p q b inv lq w.0 w.1 ne)

  -- the writer is the holder, and waits for no acknowledgement
  writer_Fill_exclusive : (n : ℕ) (p : ℕ) (v : L) (l : L) (d : ℕ) (b : Block L) → guard (Fill_exclusive p v l d) b → Asks b p → Owned b p → Counted n b p → (is_holder b.entry b.revision p ≡ true) × (pending n b p ≡ 0)
  writer_Fill_exclusive n p v l d b g a o c = grind arith

  at_Fill_exclusive : (n q : ℕ) (p : ℕ) (v : L) (l : L) (d : ℕ) (b : Block L) → guard (Fill_exclusive p v l d) b → Asks b p → Rests b p → Backs b p → (q ≢ p → Fresh v b q) → Fresh v (apply n (Fill_exclusive p v l d) b) q
  at_Fill_exclusive n q p v l d b g a r k h = grind (arith, nat_tests)

  pub fresh_Fill_exclusive : (n : ℕ) (f : L) (q : ℕ) (p : ℕ) (v : L) (l : L) (d : ℕ) (b : Block L) → guard (Fill_exclusive p v l d) b → Invariant n f b → p < n → q < n → Fresh (flat_after (Fill_exclusive p v l d) f) (apply n (Fill_exclusive p v l d) b) q
  fresh_Fill_exclusive n f q p v l d b g inv lp lq =
      let hp : Local n f b p = inv.each p lp in
      let w : (is_holder b.entry b.revision p ≡ true) × (pending n b p ≡ 0) = writer_Fill_exclusive n p v l d b g hp.asks hp.owned hp.counted in
      at_Fill_exclusive n q p v l d b g hp.asks hp.rests hp.backs (λ ne. fresh_other n f v p q b inv lq w.0 w.1 ne)

  -- the writer is the holder, and waits for no acknowledgement
  writer_Fill_exclusive_answered : (n : ℕ) (p : ℕ) (v : L) (m : L) (l : L) (b : Block L) → guard (Fill_exclusive_answered p v m l) b → Asks b p → Owned b p → Counted n b p → (is_holder b.entry b.revision p ≡ true) × (pending n b p ≡ 0)
  writer_Fill_exclusive_answered n p v m l b g a o c = grind arith

  at_Fill_exclusive_answered : (n q : ℕ) (p : ℕ) (v : L) (m : L) (l : L) (b : Block L) → guard (Fill_exclusive_answered p v m l) b → Asks b p → Rests b p → Backs b p → (q ≢ p → Fresh v b q) → Fresh v (apply n (Fill_exclusive_answered p v m l) b) q
  at_Fill_exclusive_answered n q p v m l b g a r k h = grind (arith, nat_tests)

  pub fresh_Fill_exclusive_answered : (n : ℕ) (f : L) (q : ℕ) (p : ℕ) (v : L) (m : L) (l : L) (b : Block L) → guard (Fill_exclusive_answered p v m l) b → Invariant n f b → p < n → q < n → Fresh (flat_after (Fill_exclusive_answered p v m l) f) (apply n (Fill_exclusive_answered p v m l) b) q
  fresh_Fill_exclusive_answered n f q p v m l b g inv lp lq =
      let hp : Local n f b p = inv.each p lp in
      let w : (is_holder b.entry b.revision p ≡ true) × (pending n b p ≡ 0) = writer_Fill_exclusive_answered n p v m l b g hp.asks hp.owned hp.counted in
      at_Fill_exclusive_answered n q p v m l b g hp.asks hp.rests hp.backs (λ ne. fresh_other n f v p q b inv lq w.0 w.1 ne)

  -- the writer is the holder, and waits for no acknowledgement
  writer_Fill_exclusive_speculative : (n : ℕ) (p : ℕ) (v : L) (m : L) (b : Block L) → guard (Fill_exclusive_speculative p v m) b → Asks b p → Owned b p → Counted n b p → (is_holder b.entry b.revision p ≡ true) × (pending n b p ≡ 0)
  writer_Fill_exclusive_speculative n p v m b g a o c = grind arith

  at_Fill_exclusive_speculative : (n q : ℕ) (p : ℕ) (v : L) (m : L) (b : Block L) → guard (Fill_exclusive_speculative p v m) b → Asks b p → Rests b p → Backs b p → (q ≢ p → Fresh v b q) → Fresh v (apply n (Fill_exclusive_speculative p v m) b) q
  at_Fill_exclusive_speculative n q p v m b g a r k h = grind (arith, nat_tests)

  pub fresh_Fill_exclusive_speculative : (n : ℕ) (f : L) (q : ℕ) (p : ℕ) (v : L) (m : L) (b : Block L) → guard (Fill_exclusive_speculative p v m) b → Invariant n f b → p < n → q < n → Fresh (flat_after (Fill_exclusive_speculative p v m) f) (apply n (Fill_exclusive_speculative p v m) b) q
  fresh_Fill_exclusive_speculative n f q p v m b g inv lp lq =
      let hp : Local n f b p = inv.each p lp in
      let w : (is_holder b.entry b.revision p ≡ true) × (pending n b p ≡ 0) = writer_Fill_exclusive_speculative n p v m b g hp.asks hp.owned hp.counted in
      at_Fill_exclusive_speculative n q p v m b g hp.asks hp.rests hp.backs (λ ne. fresh_other n f v p q b inv lq w.0 w.1 ne)

  -- the writer is the holder, and waits for no acknowledgement
  writer_Fill_upgrade : (n : ℕ) (p : ℕ) (v : L) (l : L) (d : ℕ) (b : Block L) → guard (Fill_upgrade p v l d) b → Asks b p → Owned b p → Counted n b p → (is_holder b.entry b.revision p ≡ true) × (pending n b p ≡ 0)
  writer_Fill_upgrade n p v l d b g a o c = grind arith

  at_Fill_upgrade : (n q : ℕ) (p : ℕ) (v : L) (l : L) (d : ℕ) (b : Block L) → guard (Fill_upgrade p v l d) b → Asks b p → Rests b p → Backs b p → (q ≢ p → Fresh v b q) → Fresh v (apply n (Fill_upgrade p v l d) b) q
  at_Fill_upgrade n q p v l d b g a r k h = grind (arith, nat_tests)

  pub fresh_Fill_upgrade : (n : ℕ) (f : L) (q : ℕ) (p : ℕ) (v : L) (l : L) (d : ℕ) (b : Block L) → guard (Fill_upgrade p v l d) b → Invariant n f b → p < n → q < n → Fresh (flat_after (Fill_upgrade p v l d) f) (apply n (Fill_upgrade p v l d) b) q
  fresh_Fill_upgrade n f q p v l d b g inv lp lq =
      let hp : Local n f b p = inv.each p lp in
      let w : (is_holder b.entry b.revision p ≡ true) × (pending n b p ≡ 0) = writer_Fill_upgrade n p v l d b g hp.asks hp.owned hp.counted in
      at_Fill_upgrade n q p v l d b g hp.asks hp.rests hp.backs (λ ne. fresh_other n f v p q b inv lq w.0 w.1 ne)

  -- the writer is the holder, and waits for no acknowledgement
  writer_Fill_upgrade_line : (n : ℕ) (p : ℕ) (v : L) (l : L) (d : ℕ) (b : Block L) → guard (Fill_upgrade_line p v l d) b → Asks b p → Owned b p → Counted n b p → (is_holder b.entry b.revision p ≡ true) × (pending n b p ≡ 0)
  writer_Fill_upgrade_line n p v l d b g a o c = grind arith

  at_Fill_upgrade_line : (n q : ℕ) (p : ℕ) (v : L) (l : L) (d : ℕ) (b : Block L) → guard (Fill_upgrade_line p v l d) b → Asks b p → Rests b p → Backs b p → (q ≢ p → Fresh v b q) → Fresh v (apply n (Fill_upgrade_line p v l d) b) q
  at_Fill_upgrade_line n q p v l d b g a r k h = grind (arith, nat_tests)

  pub fresh_Fill_upgrade_line : (n : ℕ) (f : L) (q : ℕ) (p : ℕ) (v : L) (l : L) (d : ℕ) (b : Block L) → guard (Fill_upgrade_line p v l d) b → Invariant n f b → p < n → q < n → Fresh (flat_after (Fill_upgrade_line p v l d) f) (apply n (Fill_upgrade_line p v l d) b) q
  fresh_Fill_upgrade_line n f q p v l d b g inv lp lq =
      let hp : Local n f b p = inv.each p lp in
      let w : (is_holder b.entry b.revision p ≡ true) × (pending n b p ≡ 0) = writer_Fill_upgrade_line n p v l d b g hp.asks hp.owned hp.counted in
      at_Fill_upgrade_line n q p v l d b g hp.asks hp.rests hp.backs (λ ne. fresh_other n f v p q b inv lq w.0 w.1 ne)

  narrow_fresh_Fill_shared : (n : ℕ) (f : L) (q : ℕ) (p : ℕ) (l : L) (b : Block L) → guard (Fill_shared p l) b → Asks b q → Fresh f b q → Asks b p → Fresh f b p → Fresh (flat_after (Fill_shared p l) f) (apply n (Fill_shared p l) b) q
  narrow_fresh_Fill_shared n f q p l b g h0 h1 h2 h3 = grind (arith, nat_tests)

  pub fresh_Fill_shared : (n : ℕ) (f : L) (q : ℕ) (p : ℕ) (l : L) (b : Block L) → guard (Fill_shared p l) b → Invariant n f b → p < n → q < n → Fresh (flat_after (Fill_shared p l) f) (apply n (Fill_shared p l) b) q
  fresh_Fill_shared n f q p l b g inv lp lq = let hq : Local n f b q = inv.each q lq in let hp : Local n f b p = inv.each p lp in narrow_fresh_Fill_shared n f q p l b g hq.asks hq.fresh hp.asks hp.fresh

  narrow_fresh_Fill_clean : (n : ℕ) (f : L) (q : ℕ) (p : ℕ) (l : L) (m : Bool) (b : Block L) → guard (Fill_clean p l m) b → Asks b q → Fresh f b q → Asks b p → Fresh f b p → Fresh (flat_after (Fill_clean p l m) f) (apply n (Fill_clean p l m) b) q
  narrow_fresh_Fill_clean n f q p l m b g h0 h1 h2 h3 = grind (arith, nat_tests)

  pub fresh_Fill_clean : (n : ℕ) (f : L) (q : ℕ) (p : ℕ) (l : L) (m : Bool) (b : Block L) → guard (Fill_clean p l m) b → Invariant n f b → p < n → q < n → Fresh (flat_after (Fill_clean p l m) f) (apply n (Fill_clean p l m) b) q
  fresh_Fill_clean n f q p l m b g inv lp lq = let hq : Local n f b q = inv.each q lq in let hp : Local n f b p = inv.each p lp in narrow_fresh_Fill_clean n f q p l m b g hq.asks hq.fresh hp.asks hp.fresh

  narrow_fresh_Fill_shared_answered : (n : ℕ) (f : L) (q : ℕ) (p : ℕ) (l : L) (m : L) (b : Block L) → guard (Fill_shared_answered p l m) b → Asks b q → Fresh f b q → Asks b p → Fresh f b p → Fresh (flat_after (Fill_shared_answered p l m) f) (apply n (Fill_shared_answered p l m) b) q
  narrow_fresh_Fill_shared_answered n f q p l m b g h0 h1 h2 h3 = grind (arith, nat_tests)

  pub fresh_Fill_shared_answered : (n : ℕ) (f : L) (q : ℕ) (p : ℕ) (l : L) (m : L) (b : Block L) → guard (Fill_shared_answered p l m) b → Invariant n f b → p < n → q < n → Fresh (flat_after (Fill_shared_answered p l m) f) (apply n (Fill_shared_answered p l m) b) q
  fresh_Fill_shared_answered n f q p l m b g inv lp lq = let hq : Local n f b q = inv.each q lq in let hp : Local n f b p = inv.each p lp in narrow_fresh_Fill_shared_answered n f q p l m b g hq.asks hq.fresh hp.asks hp.fresh

  narrow_fresh_Fill_shared_speculative : (n : ℕ) (f : L) (q : ℕ) (p : ℕ) (m : L) (b : Block L) → guard (Fill_shared_speculative p m) b → Asks b q → Fresh f b q → Asks b p → Fresh f b p → Fresh (flat_after (Fill_shared_speculative p m) f) (apply n (Fill_shared_speculative p m) b) q
  narrow_fresh_Fill_shared_speculative n f q p m b g h0 h1 h2 h3 = grind (arith, nat_tests)

  pub fresh_Fill_shared_speculative : (n : ℕ) (f : L) (q : ℕ) (p : ℕ) (m : L) (b : Block L) → guard (Fill_shared_speculative p m) b → Invariant n f b → p < n → q < n → Fresh (flat_after (Fill_shared_speculative p m) f) (apply n (Fill_shared_speculative p m) b) q
  fresh_Fill_shared_speculative n f q p m b g inv lp lq = let hq : Local n f b q = inv.each q lq in let hp : Local n f b p = inv.each p lp in narrow_fresh_Fill_shared_speculative n f q p m b g hq.asks hq.fresh hp.asks hp.fresh

  narrow_fresh_Again_speculative : (n : ℕ) (f : L) (q : ℕ) (p : ℕ) (m : L) (b : Block L) → guard (Again_speculative p m) b → Asks b q → Fresh f b q → Asks b p → Fresh f b p → Fresh (flat_after (Again_speculative p m) f) (apply n (Again_speculative p m) b) q
  narrow_fresh_Again_speculative n f q p m b g h0 h1 h2 h3 = grind (arith, nat_tests)

  pub fresh_Again_speculative : (n : ℕ) (f : L) (q : ℕ) (p : ℕ) (m : L) (b : Block L) → guard (Again_speculative p m) b → Invariant n f b → p < n → q < n → Fresh (flat_after (Again_speculative p m) f) (apply n (Again_speculative p m) b) q
  fresh_Again_speculative n f q p m b g inv lp lq = let hq : Local n f b q = inv.each q lq in let hp : Local n f b p = inv.each p lp in narrow_fresh_Again_speculative n f q p m b g hq.asks hq.fresh hp.asks hp.fresh

  narrow_fresh_Poison_collected : (n : ℕ) (f : L) (q : ℕ) (p : ℕ) (l : L) (d : ℕ) (b : Block L) → guard (Poison_collected p l d) b → Asks b q → Fresh f b q → Asks b p → Fresh f b p → Fresh (flat_after (Poison_collected p l d) f) (apply n (Poison_collected p l d) b) q
  narrow_fresh_Poison_collected n f q p l d b g h0 h1 h2 h3 = grind (arith, nat_tests)

  pub fresh_Poison_collected : (n : ℕ) (f : L) (q : ℕ) (p : ℕ) (l : L) (d : ℕ) (b : Block L) → guard (Poison_collected p l d) b → Invariant n f b → p < n → q < n → Fresh (flat_after (Poison_collected p l d) f) (apply n (Poison_collected p l d) b) q
  fresh_Poison_collected n f q p l d b g inv lp lq = let hq : Local n f b q = inv.each q lq in let hp : Local n f b p = inv.each p lp in narrow_fresh_Poison_collected n f q p l d b g hq.asks hq.fresh hp.asks hp.fresh

  at_Copy_in : (n : ℕ) (f : L) (q : ℕ) (p : ℕ) (v : L) (b : Block L) → guard (Copy_in p v) b → Asks b q → Waits b q → (q ≢ p → Fresh v b q) → Fresh v (apply n (Copy_in p v) b) q
  at_Copy_in n f q p v b g a w h = grind (arith, nat_tests)

  pub fresh_Copy_in : (n : ℕ) (f : L) (q : ℕ) (p : ℕ) (v : L) (b : Block L) → guard (Copy_in p v) b → Invariant n f b → p < n → q < n → Fresh (flat_after (Copy_in p v) f) (apply n (Copy_in p v) b) q
  fresh_Copy_in n f q p v b g inv lp lq = at_Copy_in n f q p v b g (inv.each q lq).asks (inv.each q lq).waits (fresh_other_Copy_in n f p q v b g inv lp lq)
