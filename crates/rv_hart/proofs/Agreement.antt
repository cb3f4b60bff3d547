-- What the code of a hart goes by agrees with what each operation is to do.
use Rattle.std.proofs.Common.{◌≡◌, ℕ, true, refl, arith}
use Rattle.std.proofs.lemmas.Grind.{common_steps}
use Rattle.og_line.specs.Line.{IsWidth, IsAtomicWidth}
use Rattle.rv_decode.specs.declared.Op.{Op}
use Rattle.rv_decode.specs.declared.Op.TheVariants.{Lui}
use Rattle.rv_hart.specs.Effect.{value_of, access_of, target_of}
use Rattle.rv_hart.specs.Work.{is_width, is_atomic_width, work_of, value_by, access_by, target_by}

pub width_known : (width : ℕ) → is_width width ≡ true → IsWidth width
width_known width h = grind (arith, common_steps)

pub atomic_width_known : (width : ℕ) → is_atomic_width width ≡ true → IsWidth width
atomic_width_known width h = grind (arith, common_steps)

pub both_widths_known : (width : ℕ) → is_atomic_width width ≡ true → IsAtomicWidth width
both_widths_known width h = grind (arith, common_steps)

-- ---- operation by operation

pub value_agrees : (op : Op) (imm pc a b answer : ℕ) → value_of op imm pc a b answer ≡ value_by (work_of op) imm pc a b answer
unfolding value_of value_by work_of
value_agrees Lui imm pc a b answer = refl
value_agrees _ imm pc a b answer = refl

pub access_agrees : (op : Op) (imm a b : ℕ) → access_of op imm a b ≡ access_by (work_of op) imm a b
unfolding access_of access_by work_of
access_agrees Lui imm a b = refl
access_agrees _ imm a b = refl

pub target_agrees : (op : Op) (imm pc a b : ℕ) → target_of op imm pc a b ≡ target_by (work_of op) imm pc a b
unfolding target_of target_by work_of
target_agrees Lui imm pc a b = refl
target_agrees _ imm pc a b = refl
