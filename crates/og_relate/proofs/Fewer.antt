-- What a node keeps after a row of its own.
use Rattle.std.proofs.Common.{◌≡◌, ℕ, ◌<◌, Bool, true, false, cond, nat_eq, arith, inl, inr, refl, ◌&&◌, Option, None}
use Rattle.std.proofs.lemmas.Bool.{cases_Bool}
use Rattle.std.proofs.lemmas.Bool.Decides.{nat_tests}
use Rattle.og_block.specs.State.{Block, put}
use Rattle.og_block.specs.Rows.{Row as BlockRow, apply as block_apply}
use Rattle.og_whole.specs.Events.{World, On, apply}
use Rattle.og_whole.specs.Messages.{Message}
use Rattle.og_relate.specs.Data.{Cpu, Mover}
use Rattle.og_relate.specs.Places.{Place, AskAt, ResponseAt, InterventionAt, DropAt, kept, kept_ask, kept_response, kept_intervention, kept_drop}
use Rattle.og_relate.specs.Sides.{here}
use Rattle.og_relate.specs.Goes.{FewerAt, Fewer}

-- the places of node p, and those where nothing is ever kept
abbrev pub is_nodes : ℕ → Place → Bool
is_nodes p (AskAt f k q) = nat_eq q p
is_nodes p (ResponseAt f k q) = nat_eq q p
is_nodes p (InterventionAt f k q) = nat_eq q p
is_nodes p (DropAt q) = nat_eq q p
is_nodes p x = true

-- nothing was kept and nothing is
pub fewer_none : {L : Type 0} → (owned : Bool) → FewerAt {L = L} None None owned
fewer_none true = inl (refl, refl)
fewer_none false = inr (refl, refl)

-- nothing is kept any more, where it was taken or nothing was
pub fewer_ended : {L : Type 0} → (before : Option (Message L)) (owned : Bool) → (owned ≡ false → before ≡ None) → FewerAt None before owned
fewer_ended before true e = inl (refl, refl)
fewer_ended before false e = inr ((let b = e refl in cc), refl)

module _ {L : Type 0} {H : Type 0} where
  pub fewer_node : (n : ℕ) (cpu : ℕ → Cpu L H) (mover : Mover L) (p : ℕ) (c : Cpu L H) (owned : Place → Bool) → p < n →
      ((x : Place) → owned x ≡ true → is_nodes p x ≡ true) →
      ((f k : ℕ) → FewerAt (kept_ask f k p c.request) (kept_ask f k p (cpu p).request) (owned (AskAt f k p))) →
      ((f k : ℕ) → FewerAt (kept_response f k p c.request) (kept_response f k p (cpu p).request) (owned (ResponseAt f k p))) →
      ((f k : ℕ) → FewerAt (kept_intervention f k p c.request) (kept_intervention f k p (cpu p).request) (owned (InterventionAt f k p))) →
      FewerAt {L = L} (kept_drop p c.drop) (kept_drop p (cpu p).drop) (owned (DropAt p)) →
      Fewer (kept n (put cpu p c) mover) (kept n cpu mover) owned
  fewer_node n cpu mover p c owned lp on ha hr hi hd = by
    where
      far : (x : Place) → is_nodes p x ≡ false → owned x ≡ false
      far x e = elim (cases_Bool (owned x)) [ inl t ↦ absurd (let y = on x t in cc) | inr t ↦ t ]

      same : (q : ℕ) → nat_eq q p ≡ true → q ≡ p
      same q t = grind (arith, nat_tests)

      none : (q : ℕ) → nat_eq q p ≡ true → nat_eq q n ≡ false
      none q t = grind (arith, nat_tests)

      by : (x : Place) → FewerAt (kept n (put cpu p c) mover x) (kept n cpu mover x) (owned x)
      by (AskAt f k q) = elim (cases_Bool (nat_eq q p)) [ inl t ↦ (let e = same q t in let z = none q t in elim (ha f k) [ inl y ↦ inl ((let y0 = y.0 in cc), (let y1 = y.1 in cc)) | inr y ↦ inr ((let y0 = y.0 in cc), (let y1 = y.1 in cc)) ]) | inr t ↦ inr ((cc), far (AskAt f k q) t) ]
      by (ResponseAt f k q) = elim (cases_Bool (nat_eq q p)) [ inl t ↦ (let e = same q t in let z = none q t in elim (hr f k) [ inl y ↦ inl ((let y0 = y.0 in cc), (let y1 = y.1 in cc)) | inr y ↦ inr ((let y0 = y.0 in cc), (let y1 = y.1 in cc)) ]) | inr t ↦ inr ((cc), far (ResponseAt f k q) t) ]
      by (InterventionAt f k q) = elim (cases_Bool (nat_eq q p)) [ inl t ↦ (let e = same q t in let z = none q t in elim (hi f k) [ inl y ↦ inl ((let y0 = y.0 in cc), (let y1 = y.1 in cc)) | inr y ↦ inr ((let y0 = y.0 in cc), (let y1 = y.1 in cc)) ]) | inr t ↦ inr ((cc), far (InterventionAt f k q) t) ]
      by (DropAt q) = elim (cases_Bool (nat_eq q p)) [ inl t ↦ (let e = same q t in let z = none q t in elim hd [ inl y ↦ inl ((let y0 = y.0 in cc), (let y1 = y.1 in cc)) | inr y ↦ inr ((let y0 = y.0 in cc), (let y1 = y.1 in cc)) ]) | inr t ↦ inr ((cc), far (DropAt q) t) ]
      by x = fewer_none (owned x)

module _ {L : Type 0} where
  -- a column after a row of block k of frame f
  pub column_at : {A : Type 0} → (col : Block L → A) (n m page other f k : ℕ) (r : BlockRow L) (w : World L) (g j : ℕ) → col ((apply n m (On page other f k r) w).block g j) ≡ cond (here f k g j) (col (block_apply n r (w.block f k))) (col (w.block g j))
  column_at {A} col n m page other f k r w g j = at (nat_eq g f) (nat_eq j k)
    where
      at : (t u : Bool) → col (cond t (cond u (block_apply n r (w.block f k)) (w.block g j)) (w.block g j)) ≡ cond (t && u) (col (block_apply n r (w.block f k))) (col (w.block g j))
      at true true = refl
      at true false = refl
      at false u = refl
