-- Numbers that are near one another are in the same ranges, and equal where they are in one.
use Rattle.std.proofs.Common.{◌≡◌, ◌^◌, ◌&&◌, Bool, true, false, arith, refl, ap, inl, inr}
use Rattle.std.specs.Prelude.{ℤ, pos, int_le, ◌≤ℤ◌, ◌-ℤ◌}
use Rattle.std.proofs.lemmas.Int.{ints}
use Rattle.rv_asm.specs.declared.form.Form.{Form}
use Rattle.rv_asm.specs.declared.form.Form.TheVariants.{Upper}
use Rattle.rv_asm.specs.Near.{IsNear}
use Rattle.rv_asm.specs.Meaning.{lowest, highest, is_in_range, within}

far_high : (form : Form) (a : ℤ) → pos (2 ^ 40) ≤ℤ a → int_le a (highest form) ≡ false
far_high Upper a h = grind (arith, ints)
far_high _ a h = grind (arith, ints)

far_low : (form : Form) (a : ℤ) → a ≤ℤ (pos 0 -ℤ pos (2 ^ 40)) → int_le (lowest form) a ≡ false
far_low Upper a h = grind (arith, ints)
far_low _ a h = grind (arith, ints)

off_high : (form : Form) (a : ℤ) → int_le a (highest form) ≡ false → is_in_range form a ≡ false
unfolding is_in_range
off_high form a h = rw h (both (int_le (lowest form) a))
  where
    both : (b : Bool) → (b && false) ≡ false
    both true = refl
    both false = refl

off_low : (form : Form) (a : ℤ) → int_le (lowest form) a ≡ false → is_in_range form a ≡ false
unfolding is_in_range
off_low form a h = rw h refl

pub near_within : (form : Form) (a b : ℤ) → IsNear a b → within form a ≡ within form b
near_within form a b (inl e) = ap (within form) e
near_within form a b (inr (inl far)) =
    let x = off_high form a (far_high form a far.0) in
    let y = off_high form b (far_high form b far.1) in
    rw (x, y) refl
near_within form a b (inr (inr far)) =
    let x = off_low form a (far_low form a far.0) in
    let y = off_low form b (far_low form b far.1) in
    rw (x, y) refl
