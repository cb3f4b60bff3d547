-- What the need of a hart tells of it.
use Rattle.std.proofs.Common.{◌≡◌, ◌≢◌, ℕ, ◌%◌, ◌^◌, ◌<◌, Bool, true, false, cond, ◌==◌, Option, Some, None, IfSome, is_some, slice_index, refl, ap, subst, arith, rules, lit<}
use Rattle.std.proofs.Math.Nat.{mod-lt, one-le-pow}
use Rattle.std.proofs.lemmas.Bool.{eqb-true}
use Rattle.og_base.specs.declared.Cause.{Cause}
use Rattle.og_base.specs.declared.Cause.TheVariants.{Spent}
use Rattle.og_line.specs.declared.Access.{Access}
use Rattle.og_line.specs.Access.{addr_of, width_of, operand_of, HasWidth, IsAligned}
use Rattle.og_line.specs.Line.{IsWidth, IsAtomicWidth, low_bytes_of}
use Rattle.rv_decode.specs.declared.Op.{Op}
use Rattle.rv_decode.specs.declared.Op.TheVariants.{Ecall, Ebreak, Lb, Lh, Lw, Ld, Lbu, Lhu, Lwu, Sb, Sh, Sw, Sd, LrW, ScW, AmoswapW, AmoaddW, AmoxorW, AmoandW, AmoorW, AmominW, AmomaxW, AmominuW, AmomaxuW, LrD, ScD, AmoswapD, AmoaddD, AmoxorD, AmoandD, AmoorD, AmominD, AmomaxD, AmominuD, AmomaxuD}
use Rattle.rv_decode.specs.declared.Instr.{Instr}
use Rattle.rv_decode.specs.Rows.{decode_of}
use Rattle.rv_hart.specs.declared.hart.Need.{Need}
use Rattle.rv_hart.specs.declared.hart.Need.TheVariants as need
use Rattle.og_image.specs.Image.{ImageState, fetch_of, is_data_of}
use Rattle.rv_hart.specs.Effect.{access_of}
use Rattle.rv_hart.specs.Hart.{HartState, need_of, fetched_need, decoded_need, op_need, call_need, target_need, target_in, data_need, access_in, access_need, constant_of}

-- ---- the widths and operands of the operations

width_1 : IsWidth 1
width_1 = search rules

width_2 : IsWidth 2
width_2 = search rules

width_4 : IsWidth 4
width_4 = search rules

width_8 : IsWidth 8
width_8 = search rules

atomic_width_4 : IsAtomicWidth 4
atomic_width_4 = search rules

atomic_width_8 : IsAtomicWidth 8
atomic_width_8 = search rules

low_fits : (width value : ℕ) → low_bytes_of width value < 256 ^ width
low_fits width value = let h = one-le-pow width 256 (omega arith) in mod-lt value (omega arith)

-- an access has a width of its kind and an operand of that width
pub record Carries (x : Access) : Type 0 where
  pub width_known : HasWidth x
  pub fits : operand_of x < 256 ^ width_of x

carries : (op : Op) (imm a b : ℕ) → IfSome (access_of op imm a b) Carries
unfolding access_of
carries Lb imm a b = record { width_known = width_1; fits = lit< tt }
carries Lh imm a b = record { width_known = width_2; fits = lit< tt }
carries Lw imm a b = record { width_known = width_4; fits = lit< tt }
carries Ld imm a b = record { width_known = width_8; fits = lit< tt }
carries Lbu imm a b = record { width_known = width_1; fits = lit< tt }
carries Lhu imm a b = record { width_known = width_2; fits = lit< tt }
carries Lwu imm a b = record { width_known = width_4; fits = lit< tt }
carries Sb imm a b = record { width_known = width_1; fits = low_fits 1 b }
carries Sh imm a b = record { width_known = width_2; fits = low_fits 2 b }
carries Sw imm a b = record { width_known = width_4; fits = low_fits 4 b }
carries Sd imm a b = record { width_known = width_8; fits = low_fits 8 b }
carries LrW imm a b = record { width_known = atomic_width_4; fits = lit< tt }
carries ScW imm a b = record { width_known = atomic_width_4; fits = low_fits 4 b }
carries AmoswapW imm a b = record { width_known = atomic_width_4; fits = low_fits 4 b }
carries AmoaddW imm a b = record { width_known = atomic_width_4; fits = low_fits 4 b }
carries AmoxorW imm a b = record { width_known = atomic_width_4; fits = low_fits 4 b }
carries AmoandW imm a b = record { width_known = atomic_width_4; fits = low_fits 4 b }
carries AmoorW imm a b = record { width_known = atomic_width_4; fits = low_fits 4 b }
carries AmominW imm a b = record { width_known = atomic_width_4; fits = low_fits 4 b }
carries AmomaxW imm a b = record { width_known = atomic_width_4; fits = low_fits 4 b }
carries AmominuW imm a b = record { width_known = atomic_width_4; fits = low_fits 4 b }
carries AmomaxuW imm a b = record { width_known = atomic_width_4; fits = low_fits 4 b }
carries LrD imm a b = record { width_known = atomic_width_8; fits = lit< tt }
carries ScD imm a b = record { width_known = atomic_width_8; fits = low_fits 8 b }
carries AmoswapD imm a b = record { width_known = atomic_width_8; fits = low_fits 8 b }
carries AmoaddD imm a b = record { width_known = atomic_width_8; fits = low_fits 8 b }
carries AmoxorD imm a b = record { width_known = atomic_width_8; fits = low_fits 8 b }
carries AmoandD imm a b = record { width_known = atomic_width_8; fits = low_fits 8 b }
carries AmoorD imm a b = record { width_known = atomic_width_8; fits = low_fits 8 b }
carries AmominD imm a b = record { width_known = atomic_width_8; fits = low_fits 8 b }
carries AmomaxD imm a b = record { width_known = atomic_width_8; fits = low_fits 8 b }
carries AmominuD imm a b = record { width_known = atomic_width_8; fits = low_fits 8 b }
carries AmomaxuD imm a b = record { width_known = atomic_width_8; fits = low_fits 8 b }
carries _ imm a b = tt

-- ---- the need of an access

-- what is known of an access that a hart needs
pub record IsReached (image : ImageState) (x : Access) : Type 0 where
  pub aligned : IsAligned x
  pub mapped : is_data_of image (addr_of x) ≡ true
  pub fits : operand_of x < 256 ^ width_of x

-- a choice that is no access has the access in its other part
from_then : (b : Bool) (n m : Need) (x : Access) → (m ≡ need.Access x → ⊥) → cond b n m ≡ need.Access x → (b ≡ true) × (n ≡ need.Access x)
from_then true n m x other e = (refl, e)
from_then false n m x other e = absurd (other e)

from_else : (b : Bool) (n m : Need) (x : Access) → (n ≡ need.Access x → ⊥) → cond b n m ≡ need.Access x → m ≡ need.Access x
from_else true n m x other e = absurd (other e)
from_else false n m x other e = e

same_access : (y x : Access) → need.Access y ≡ need.Access x → y ≡ x
same_access y x e = cc

from_access : (image : ImageState) (y x : Access) → Carries y → access_need image y ≡ need.Access x → IsReached image x
from_access image y x known e =
    let aligned = from_then (addr_of y % width_of y == 0) _ _ x (λ k. cc) e in
    let writable = from_else (is_some (constant_of image y)) _ _ x (λ k. cc) aligned.1 in
    let mapped = from_then (is_data_of image (addr_of y)) _ _ x (λ k. cc) writable in
    subst (IsReached image) (same_access y x mapped.1) (record {
      aligned = record { width_known = known.width_known; aligned = eqb-true _ _ aligned.0 };
      mapped = mapped.0;
      fits = known.fits;
    })

from_data : (image : ImageState) (o : Option Access) (x : Access) → IfSome o Carries → data_need image o ≡ need.Access x → IsReached image x
from_data image None x known e = cc
from_data image (Some y) x known e = from_access image y x known e

from_target : (target : Option ℕ) (n : Need) (x : Access) → target_need target n ≡ need.Access x → n ≡ need.Access x
from_target None n x e = e
from_target (Some t) n x e = (from_then (t % 4 == 0) n _ x (λ k. cc) e).1

-- an access of an instruction that is no call and no break
pub from_instr : (image : ImageState) (h : HartState) (i : Instr) (x : Access) → target_need (target_in h i) (data_need image (access_in h i)) ≡ need.Access x → IsReached image x
from_instr image h i x e =
    from_data image (access_in h i) x (carries i.op _ _ _) (from_target (target_in h i) (data_need image (access_in h i)) x e)

from_call : (h : HartState) (x : Access) → call_need h ≡ need.Access x → ⊥
from_call h x e =
    let known = from_else (slice_index h.regs 17 == 93) _ _ x (λ k. cc) e in
    let emits = from_then (slice_index h.regs 17 == 1) _ _ x (λ k. cc) known in
    let other = emits.1 in
    cc

from_op : (image : ImageState) (h : HartState) (i : Instr) (op : Op) (x : Access) → op_need image h i op ≡ need.Access x → IsReached image x
from_op image h i Ecall x e = absurd (from_call h x e)
from_op image h i Ebreak x e = cc
from_op image h i _ x e = from_instr image h i x e

from_decoded : (image : ImageState) (h : HartState) (o : Option Instr) (x : Access) → decoded_need image h o ≡ need.Access x → IsReached image x
from_decoded image h None x e = cc
from_decoded image h (Some i) x e = from_op image h i i.op x e

from_fetched : (image : ImageState) (h : HartState) (o : Option ℕ) (x : Access) → fetched_need image h o ≡ need.Access x → IsReached image x
from_fetched image h None x e = cc
from_fetched image h (Some word) x e = from_decoded image h (decode_of word) x e

-- an access that a hart needs is aligned, on a data or stack page, and carries an operand of its width
pub need_reaches : (image : ImageState) (h : HartState) (x : Access) → need_of image h ≡ need.Access x → IsReached image x
unfolding need_of
need_reaches image h x e =
    from_fetched image h (fetch_of image h.pc) x (from_else (h.left == 0) _ _ x (λ k. cc) e)

-- ---- a hart that doesn't stop

zero_stops : (image : ImageState) (h : HartState) (b : Bool) → h.left == 0 ≡ b → ((cause : Cause) → need_of image h ≢ need.Stop cause) → 0 < h.left
unfolding need_of
zero_stops image h true e stays =
    absurd (stays Spent (ap (λ v. cond v (need.Stop Spent) (fetched_need image h (fetch_of image h.pc))) e))
zero_stops image h false e stays = grind (arith, e)

-- a hart whose need isn't to stop has instructions left
pub some_left : (image : ImageState) (h : HartState) → ((cause : Cause) → need_of image h ≢ need.Stop cause) → 0 < h.left
some_left image h stays = zero_stops image h (h.left == 0) refl stays
