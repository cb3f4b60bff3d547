-- Where no access is needed, memory's answer is not looked at.
use Rattle.std.proofs.Common.{◌≡◌, ℕ, ◌%◌, Bool, true, false, cond, ◌==◌, Option, Some, None, is_some, unwrap_or, refl, ap, subst, ◌-◌}
use Rattle.std.specs.Prelude.{option_and_then}
use Rattle.og_base.specs.declared.Cause.TheVariants.{Spent, Misaligned, Unmapped}
use Rattle.og_line.specs.declared.Access.{Access}
use Rattle.og_line.specs.Access.{addr_of, width_of}
use Rattle.rv_decode.specs.declared.Op.{Op}
use Rattle.rv_decode.specs.declared.Op.TheVariants.{Ecall, Ebreak}
use Rattle.rv_decode.specs.declared.Instr.{Instr}
use Rattle.rv_decode.specs.Rows.{decode_of}
use Rattle.rv_hart.specs.declared.hart.Need.{Need}
use Rattle.rv_hart.specs.declared.hart.Need.TheVariants as need
use Rattle.og_image.specs.Image.{ImageState, fetch_of, is_data_of}
use Rattle.rv_hart.specs.Effect.{plus, value_of, access_of}
use Rattle.rv_hart.specs.Hart.{HartState, need_of, fetched_need, decoded_need, op_need, target_need, target_in, data_need, access_in, access_need, constant_of, loaded, executed, finish_of, finished, instr_of, imm_of, first_source, second_source, with_result, NeedsNoMemory, AnswerIgnored}

-- an operation without an access doesn't look at an answer
value_blind : (op : Op) (imm pc a b one other : ℕ) → access_of op imm a b ≡ None → value_of op imm pc a b one ≡ value_of op imm pc a b other
unfolding value_of access_of
value_blind Ecall imm pc a b one other e = refl
value_blind Ebreak imm pc a b one other e = refl
value_blind _ imm pc a b one other e = cc

-- an access that is neither made nor a trap is a load of read-only bytes
constant_known : (image : ImageState) (x : Access) → NeedsNoMemory (access_need image x) → is_some (constant_of image x) ≡ true
constant_known image x calm = at (addr_of x % width_of x == 0) (is_some (constant_of image x)) (is_data_of image (addr_of x)) calm
  where
    at : (aligned known mapped : Bool) → NeedsNoMemory (cond aligned (cond known need.Plain (cond mapped (need.Access x) (need.Stop Unmapped))) (need.Stop Misaligned)) → known ≡ true
    at true true mapped c = refl
    at true false true c = absurd c
    at true false false c = absurd c
    at false known mapped c = absurd c

same_loaded : (image : ImageState) (x : Access) (one other : ℕ) → is_some (constant_of image x) ≡ true → loaded image (Some x) one ≡ loaded image (Some x) other
same_loaded image x one other known = at (constant_of image x) known
  where
    at : (o : Option ℕ) → is_some o ≡ true → unwrap_or o one ≡ unwrap_or o other
    at None k = cc
    at (Some v) k = refl

calm_target : (target : Option ℕ) (n : Need) → NeedsNoMemory (target_need target n) → NeedsNoMemory n
calm_target None n calm = calm
calm_target (Some t) n calm = at (t % 4 == 0) calm
  where
    at : (b : Bool) → NeedsNoMemory (cond b n (need.Stop Misaligned)) → NeedsNoMemory n
    at true c = c
    at false c = absurd c

-- an instruction with an access is no call and no break
calm_access : (image : ImageState) (h : HartState) (i : Instr) (op : Op) (x : Access) → access_of op (imm_of i) (first_source h i) (second_source h i) ≡ Some x → NeedsNoMemory (op_need image h i op) → NeedsNoMemory (data_need image (access_in h i))
unfolding access_of
calm_access image h i Ecall x e calm = cc
calm_access image h i Ebreak x e calm = cc
calm_access image h i _ x e calm = calm_target (target_in h i) (data_need image (access_in h i)) calm

same_value : (image : ImageState) (h : HartState) (i : Instr) (one other : ℕ) (o : Option Access) → access_in h i ≡ o → NeedsNoMemory (op_need image h i i.op) → value_of i.op (imm_of i) h.pc (first_source h i) (second_source h i) (loaded image o one) ≡ value_of i.op (imm_of i) h.pc (first_source h i) (second_source h i) (loaded image o other)
same_value image h i one other None e calm = value_blind i.op (imm_of i) h.pc (first_source h i) (second_source h i) one other e
same_value image h i one other (Some x) e calm =
    let reached : NeedsNoMemory (data_need image (access_in h i)) = calm_access image h i i.op x e calm in
    let known : is_some (constant_of image x) ≡ true = constant_known image x (subst (λ o. NeedsNoMemory (data_need image o)) e reached) in
    ap (value_of i.op (imm_of i) h.pc (first_source h i) (second_source h i)) (same_loaded image x one other known)

same_executed : (image : ImageState) (h : HartState) (i : Instr) (one other : ℕ) → NeedsNoMemory (op_need image h i i.op) → executed image h one i ≡ executed image h other i
same_executed image h i one other calm =
    ap (λ v. record { regs = with_result h.regs i.rd v; pc = unwrap_or (target_in h i) (plus h.pc 4); left = h.left - 1; cause = h.cause })
    (same_value image h i one other (access_in h i) refl calm)

same_finished : (image : ImageState) (h : HartState) (one other : ℕ) (word : Option ℕ) → NeedsNoMemory (fetched_need image h word) → finished image h one (option_and_then decode_of word) ≡ finished image h other (option_and_then decode_of word)
same_finished image h one other None calm = refl
same_finished image h one other (Some word) calm = at (decode_of word) calm
  where
    at : (o : Option Instr) → NeedsNoMemory (decoded_need image h o) → finished image h one o ≡ finished image h other o
    at None c = refl
    at (Some i) c = same_executed image h i one other c

pub answer_ignored : AnswerIgnored
unfolding need_of finish_of
answer_ignored image h one other calm = at (h.left == 0) calm
  where
    at : (b : Bool) → NeedsNoMemory (cond b (need.Stop Spent) (fetched_need image h (fetch_of image h.pc))) → finished image h one (instr_of image h) ≡ finished image h other (instr_of image h)
    at true c = absurd c
    at false c = same_finished image h one other (fetch_of image h.pc) c
