-- The tests on names say what they mean: equal names are the same, and the same names are equal.
use Rattle.std.proofs.Common.{◌≡◌, Bool, true, false, arith, refl}
use Rattle.std.proofs.lemmas.Bool.Decides.{nat_tests}
use Rattle.og_base.specs.declared.VPage.{VPage}
use Rattle.og_base.specs.declared.Frame.{Frame}
use Rattle.og_base.specs.declared.Block.{Block}
use Rattle.og_base.specs.Names.{is_same_page, is_same_frame, is_same_block}

pub is_same_page-self : (a : VPage) → is_same_page a a ≡ true
is_same_page-self a = grind (arith, nat_tests)

pub same_page : (a b : VPage) → is_same_page a b ≡ true → a ≡ b
same_page a b h = grind (arith, nat_tests)

pub is_same_frame-self : (a : Frame) → is_same_frame a a ≡ true
is_same_frame-self a = grind (arith, nat_tests)

pub same_frame : (a b : Frame) → is_same_frame a b ≡ true → a ≡ b
same_frame a b h = grind (arith, nat_tests)

pub is_same_block-self : (a : Block) → is_same_block a a ≡ true
is_same_block-self a = grind (arith, nat_tests)

pub same_block : (a b : Block) → is_same_block a b ≡ true → a ≡ b
same_block a b h = grind (arith, nat_tests)

not_true : (test : Bool) → (test ≡ true → ⊥) → test ≡ false
not_true true h = absurd (h refl)
not_true false h = refl

-- a block that isn't another has another name
pub other_block : (a b : Block) → (a ≡ b → ⊥) → is_same_block a b ≡ false
other_block a b h = not_true (is_same_block a b) (λ e. h (same_block a b e))
