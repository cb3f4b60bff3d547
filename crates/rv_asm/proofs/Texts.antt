-- The lines of a text.
use Rattle.std.proofs.Common.{◌≡◌, ℕ, ◌<◌, ◌≤◌, List, [], ◌∷◌, length, drop, arith, refl, ap, cond, true, false, Bool, nat_eq}
use Rattle.rv_asm.specs.Source.{lines_of, before_lines, line_at, from_feed}

-- a text that isn't empty has a first line
pub first_line : (xs : List ℕ) → 0 < length xs → lines_of xs ≡ line_at xs ∷ lines_of (drop 1 (from_feed xs))
first_line [] some = absurd (omega arith)
first_line (c ∷ []) some = go (nat_eq c 10)
  where
    go : (b : Bool) → cond b ([] ∷ []) ((c ∷ []) ∷ []) ≡ cond b [] (c ∷ []) ∷ lines_of (drop 1 (cond b (c ∷ []) []))
    go true = refl
    go false = refl
first_line (c ∷ d ∷ cs) some = go (nat_eq c 10) (first_line (d ∷ cs) (omega arith))
  where
    go : (b : Bool) → lines_of (d ∷ cs) ≡ line_at (d ∷ cs) ∷ lines_of (drop 1 (from_feed (d ∷ cs))) →
        cond b ([] ∷ lines_of (d ∷ cs)) (before_lines c (lines_of (d ∷ cs))) ≡ cond b [] (c ∷ line_at (d ∷ cs)) ∷ lines_of (drop 1 (cond b (c ∷ d ∷ cs) (from_feed (d ∷ cs))))
    go true later = refl
    go false later = ap (before_lines c) later

from_short : (xs : List ℕ) → length (from_feed xs) ≤ length xs
from_short [] = omega arith
from_short (c ∷ cs) = go (nat_eq c 10) (from_short cs)
  where
    go : (b : Bool) → length (from_feed cs) ≤ length cs → length (cond b (c ∷ cs) (from_feed cs)) ≤ length (c ∷ cs)
    go true h = omega arith
    go false h = omega arith

pub shorter : (xs : List ℕ) → 0 < length xs → length (drop 1 (from_feed xs)) < length xs
shorter [] some = absurd (omega arith)
shorter (c ∷ cs) some = go (nat_eq c 10) (from_short cs)
  where
    tail : (ys : List ℕ) → length (drop 1 ys) ≤ length ys
    tail [] = omega arith
    tail (y ∷ ys) = omega arith

    go : (b : Bool) → length (from_feed cs) ≤ length cs → length (drop 1 (cond b (c ∷ cs) (from_feed cs))) < length (c ∷ cs)
    go true h = omega arith
    go false h = let t : length (drop 1 (from_feed cs)) ≤ length (from_feed cs) = tail (from_feed cs) in omega arith
