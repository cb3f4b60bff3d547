-- The ways of each set, after one way of one set has changed.
use Rattle.std.proofs.Common.{◌≡◌, ◌≢◌, ℕ, ◌<◌, ◌≤◌, inl, inr, ◌+◌, ◌*◌, ◌-◌, List, length, take, drop, arith, sym}
use Rattle.std.proofs.Math.ListN.{set}
use Rattle.std.proofs.lemmas.List.{drop-set-add, drop-set-lt, take-set-le, length-take, length-drop}
use Rattle.std.proofs.Math.Seq.{take-set-lt}
use Rattle.std.proofs.lemmas.Nat.{mul-add-lt}
use Rattle.std.proofs.lemmas.Bool.{cases_order}

module _ {X : Type 0} (xs : List X) (w : ℕ) where
  pub part_same : (s k : ℕ) (v : X) → k < w → take w (drop (s * w) (set xs (s * w + k) v)) ≡ set (take w (drop (s * w) xs)) k v
  part_same s k v h = rw (drop-set-add, take-set-lt w (drop (s * w) xs) k v h)

  pub part_above : (s k t : ℕ) (v : X) → k < w → s < t → take w (drop (t * w) (set xs (s * w + k) v)) ≡ take w (drop (t * w) xs)
  part_above s k t v h below =
      let before : s * w + k < t * w = omega (arith, mul-add-lt s w k t below h) in
      rw (drop-set-lt (t * w) xs (s * w + k) v before)

  pub part_after : (s k t i : ℕ) (v : X) → s * w + k ≡ t * w + i → w ≤ i → take w (drop (t * w) (set xs (s * w + k) v)) ≡ take w (drop (t * w) xs)
  part_after s k t i v e past = rw (e, drop-set-add, take-set-le w (drop (t * w) xs) i v past)

  pub part_below : (s k t : ℕ) (v : X) → k < w → t < s → take w (drop (t * w) (set xs (s * w + k) v)) ≡ take w (drop (t * w) xs)
  part_below s k t v h below =
      let gap : t * w + w ≤ s * w = omega (arith, mul-add-lt t w (w - 1) s below (omega arith)) in
      part_after s k t (s * w + k - t * w) v (omega arith) (omega arith)

  pub part_other : (s k t : ℕ) (v : X) → k < w → t ≢ s → take w (drop (t * w) (set xs (s * w + k) v)) ≡ take w (drop (t * w) xs)
  part_other s k t v h other =
      elim (cases_order s t) [ inl same ↦ absurd (other (sym same)) | inr (inl below) ↦ part_above s k t v h below | inr (inr above) ↦ part_below s k t v h above ]

  pub part_length : (s rows : ℕ) → 1 ≤ w → s < rows → length xs ≡ rows * w → length (take w (drop (s * w) xs)) ≡ w
  part_length s rows some h e =
      let gap : s * w + w ≤ rows * w = omega (arith, mul-add-lt s w (w - 1) rows h (omega arith)) in
      simp (length-take, length-drop) (omega arith)
