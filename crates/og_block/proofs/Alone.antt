-- What follows from the invariant of the holder, and of all others while there is one.
use Rattle.std.proofs.Common.{◌≡◌, ℕ, ◌<◌, Bool, true, false, arith, ◌≢◌, ◌⊎◌, refl}
use Rattle.std.proofs.lemmas.Bool.Decides.{nat_tests}
use Rattle.og_block.proofs.Pending.{pending_none}
use Rattle.og_block.specs.State.{Block, Entry, Revision, WriteBack, Want, Idle, Ask, Response, Copy, Back, Invalidation, NoInvalidation, Invalidate, InvalidateAck}
use Rattle.og_block.specs.Rows.{guard, Copy_in}
use Rattle.og_block.specs.Invariant.{Invariant, Local, is_holder, is_sharer, is_invalidate, trusts, trusts_at, owns, Asks, Rests, Backs, Owned, Sent, Fresh, Counted, pending, is_for, Sent_by, Fresh_ask, Fresh_copy, Fresh_back}

module _ {L : Type 0} where
  pub holder_is_one : (e : Entry) (v : Revision L) (p q : ℕ) → is_holder e v p ≡ true → is_holder e v q ≡ true → p ≡ q
  holder_is_one e v p q a c = grind (arith, nat_tests)

  pub holder_shares_with_none : (e : Entry) (v : Revision L) (p q : ℕ) → is_holder e v p ≡ true → is_sharer e v q ≡ false
  holder_shares_with_none e v p q a = grind (arith, nat_tests)

  -- the invalidation of q is for the holder
  invalidated_for : (n : ℕ) (b : Block L) (p q : ℕ) → is_holder b.entry b.revision p ≡ true → Sent n b q → is_invalidate (b.invalidation q) ≡ true → is_for p (b.invalidation q) ≡ true
  invalidated_for n b p q h s i = by_case (b.invalidation q) s i
    where
      by_case : (i : Invalidation) → Sent_by n b q i → is_invalidate i ≡ true → is_for p i ≡ true
      by_case NoInvalidation s i = cc
      by_case (Invalidate r) s i = let e : r ≡ p = holder_is_one b.entry b.revision r p s.0 h in grind (arith, nat_tests)
      by_case (InvalidateAck r) s i = cc

  -- where the holder waits for no acknowledgement, no other node has a stake
  pub no_other_trusts : (n : ℕ) (f : L) (p : ℕ) (q : ℕ) (b : Block L) → Invariant n f b → q < n → is_holder b.entry b.revision p ≡ true → pending n b p ≡ 0 → q ≢ p → trusts_at b q ≡ false
  no_other_trusts n f p q b inv lq h none ne =
      cases (trusts_at b q) (inv.each q lq).trusted (holder_shares_with_none b.entry b.revision p q h) (λ hq. ne (holder_is_one b.entry b.revision q p hq h)) (invalidated_for n b p q h (inv.each q lq).sent) (pending_none n b p q none lq)
    where
      cases : (t : Bool) → (t ≡ true → (is_sharer b.entry b.revision q ≡ true) ⊎ ((is_holder b.entry b.revision q ≡ true) ⊎ (is_invalidate (b.invalidation q) ≡ true))) → is_sharer b.entry b.revision q ≡ false → ¬ (is_holder b.entry b.revision q ≡ true) → (is_invalidate (b.invalidation q) ≡ true → is_for p (b.invalidation q) ≡ true) → is_for p (b.invalidation q) ≡ false → t ≡ false
      cases t a s h i o = grind arith

  pub no_other_owns : (n : ℕ) (f : L) (p : ℕ) (q : ℕ) (b : Block L) → Invariant n f b → q < n → is_holder b.entry b.revision p ≡ true → q ≢ p → owns (b.copy q) (b.want q) (b.ask q) (b.response q) (b.back q) ≡ false
  no_other_owns n f p q b inv lq h ne = cases (owns (b.copy q) (b.want q) (b.ask q) (b.response q) (b.back q)) (inv.each q lq).owned (λ hq. ne (holder_is_one b.entry b.revision q p hq h))
    where
      cases : (t : Bool) → (t ≡ true → is_holder b.entry b.revision q ≡ true) → ¬ (is_holder b.entry b.revision q ≡ true) → t ≡ false
      cases t a h = grind arith

  -- a node with no stake meets no line but a speculative one that waits
  pub fresh_of_none : (f : L) (g : L) (b : Block L) (q : ℕ) → Asks b q → trusts_at b q ≡ false → owns (b.copy q) (b.want q) (b.ask q) (b.response q) (b.back q) ≡ false → Fresh f b q → Fresh g b q
  fresh_of_none f g b q a t o h = (copies (b.copy q) t o, backs (b.back q) o, asks_ (b.want q) (b.ask q) (b.response q) a t o h.2)
    where
      copies : (c : Copy L) → trusts c (b.want q) (b.ask q) (b.response q) ≡ false → owns c (b.want q) (b.ask q) (b.response q) (b.back q) ≡ false → Fresh_copy g c
      copies c t o = grind arith

      backs : (k : Back L) → owns (b.copy q) (b.want q) (b.ask q) (b.response q) k ≡ false → Fresh_back g k
      backs k o = grind arith

      asks_ : (w : Want) (a : Ask L) (r : Response L) → Asks b q → trusts (b.copy q) w a r ≡ false → owns (b.copy q) w a r (b.back q) ≡ false → Fresh_ask f b.line w a r → Fresh_ask g b.line w a r
      asks_ w a r x t o h = grind arith

  -- a node other than a holder that waits for no acknowledgement has no line that a store makes old
  pub fresh_other : (n : ℕ) (f : L) (g : L) (p : ℕ) (q : ℕ) (b : Block L) → Invariant n f b → q < n → is_holder b.entry b.revision p ≡ true → pending n b p ≡ 0 → q ≢ p → Fresh g b q
  fresh_other n f g p q b inv lq h none ne = fresh_of_none f g b q (inv.each q lq).asks (no_other_trusts n f p q b inv lq h none ne) (no_other_owns n f p q b inv lq h ne) (inv.each q lq).fresh

  -- while the holder waits for no acknowledgement, no invalidation is in flight
  pub quiet : (n p q : ℕ) (b : Block L) → is_holder b.entry b.revision p ≡ true → pending n b p ≡ 0 → q < n → Sent n b q → b.invalidation q ≡ NoInvalidation
  quiet n p q b h none lq s = by_case (b.invalidation q) s (pending_none n b p q none lq)
    where
      by_case : (i : Invalidation) → Sent_by n b q i → is_for p i ≡ false → i ≡ NoInvalidation
      by_case NoInvalidation s o = refl
      by_case (Invalidate r) s o = let e : r ≡ p = holder_is_one b.entry b.revision r p s.0 h in absurd (grind (arith, nat_tests))
      by_case (InvalidateAck r) s o = let e : r ≡ p = holder_is_one b.entry b.revision r p s.0 h in absurd (grind (arith, nat_tests))

  -- a node that gives its line back waits for nothing
  pub giver_holds : (n q : ℕ) (b : Block L) (l : L) → b.back q ≡ WriteBack l → Owned b q → is_holder b.entry b.revision q ≡ true
  giver_holds n q b l k o = o (grind arith)

  pub giver_waits : (n q : ℕ) (b : Block L) (l : L) → b.back q ≡ WriteBack l → Backs b q → Rests b q → Asks b q → Counted n b q → pending n b q ≡ 0
  giver_waits n q b l k w r a c = grind arith

  pub idle_waits : (n q : ℕ) (b : Block L) → b.want q ≡ Idle → Asks b q → Counted n b q → pending n b q ≡ 0
  idle_waits n q b w a c = grind arith

  pub no_invalidation_sent : (n q : ℕ) (b : Block L) → b.invalidation q ≡ NoInvalidation → Sent n b q
  no_invalidation_sent n q b e = grind arith

  holder_Copy_in : (b : Block L) (p : ℕ) (v : L) → guard (Copy_in p v) b → is_holder b.entry b.revision p ≡ true
  holder_Copy_in b p v g = grind (arith, nat_tests)

  pub quiet_Copy_in : (n : ℕ) (f : L) (p : ℕ) (q : ℕ) (v : L) (b : Block L) → guard (Copy_in p v) b → Invariant n f b → p < n → q < n → b.invalidation q ≡ NoInvalidation
  quiet_Copy_in n f p q v b g inv lp lq =
      let hp : Local n f b p = inv.each p lp in
      quiet n p q b (holder_Copy_in b p v g) (idle_waits n p b g.1 hp.asks hp.counted) lq (inv.each q lq).sent

  pub trusts_Copy_in : (n : ℕ) (f : L) (p : ℕ) (q : ℕ) (v : L) (b : Block L) → guard (Copy_in p v) b → Invariant n f b → p < n → q < n → q ≢ p → trusts_at b q ≡ false
  trusts_Copy_in n f p q v b g inv lp lq ne =
      let hp : Local n f b p = inv.each p lp in
      no_other_trusts n f p q b inv lq (holder_Copy_in b p v g) (idle_waits n p b g.1 hp.asks hp.counted) ne

  pub fresh_other_Copy_in : (n : ℕ) (f : L) (p : ℕ) (q : ℕ) (v : L) (b : Block L) → guard (Copy_in p v) b → Invariant n f b → p < n → q < n → q ≢ p → Fresh v b q
  fresh_other_Copy_in n f p q v b g inv lp lq ne =
      let hp : Local n f b p = inv.each p lp in
      fresh_other n f v p q b inv lq (holder_Copy_in b p v g) (idle_waits n p b g.1 hp.asks hp.counted) ne
