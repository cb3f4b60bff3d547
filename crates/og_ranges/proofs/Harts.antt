-- A hart's registers and pc stay numbers of 64 bits, and so are the numbers that it needs.
use Rattle.std.proofs.Common.{ℕ, zero, suc, ◌-◌, ◌%◌, ◌^◌, ◌<◌, ◌==◌, Bool, true, false, cond, Option, None, Some, IfSome, is_some, unwrap_or, List, [], ◌∷◌, replicate, arith}
use Rattle.std.specs.Prelude.{slice_index, slice_set, option_and_then, if◌then◌else◌}
use Rattle.std.specs.List.{find}
use Rattle.std.specs.Option.{option_map}
use Rattle.og_base.specs.declared.Cause.{Cause}
use Rattle.og_base.specs.declared.Cause.TheVariants.{Exit, Misaligned, Unmapped, Call, Spent}
use Rattle.og_elf.specs.declared.segment.Segment.{Segment}
use Rattle.og_line.specs.declared.Access.{Access}
use Rattle.og_line.specs.declared.Access.TheVariants.{Load, Store, Reserve, Conditional, Atomic}
use Rattle.og_line.specs.Access.{addr_of, width_of}
use Rattle.og_image.specs.Image.{ImageState, number_at, byte_in, is_constant, fetch_of, is_data_of}
use Rattle.rv_decode.specs.declared.Op.{Op}
use Rattle.rv_decode.specs.declared.Op.TheVariants.{Ecall, Ebreak}
use Rattle.rv_decode.specs.declared.Instr.{Instr}
use Rattle.rv_decode.specs.Rows.{decode_of}
use Rattle.rv_hart.specs.declared.hart.Need.{Need}
use Rattle.rv_hart.specs.declared.hart.Need.TheVariants as need
use Rattle.rv_hart.specs.Effect.{plus, value_of}
use Rattle.rv_hart.specs.Hart.{HartState, start_of, with_register, imm_of, first_source, second_source, access_in, target_in, constant_of, call_need, access_need, data_need, target_need, op_need, decoded_need, fetched_need, need_of, loaded, with_result, executed, finished, finish_of, halted, halt_of}
use Rattle.og_ranges.specs.Bytes.{AreBytes, HasBytes}
use Rattle.og_ranges.proofs.Bytes.{byte_of, number_fits, found_has}
use Rattle.og_ranges.proofs.Integers.{IsMild, mild_fits}
use Rattle.og_ranges.proofs.Effects.{Fits, decoded_mild, value_fits, target_fits, access_fits}

-- ---- registers

abbrev pub AreSmall : List ℕ → Type 0
AreSmall regs = (r : ℕ) → slice_index regs r < 2 ^ 64

pub record IsSmall (h : HartState) : Type 0 where
  pub regs : AreSmall h.regs
  pub pc : h.pc < 2 ^ 64

set_small : (xs : List ℕ) (i v : ℕ) → v < 2 ^ 64 → AreSmall xs → AreSmall (slice_set xs i v)
set_small [] i v low all r = all r
set_small (x ∷ xs) zero v low all zero = low
set_small (x ∷ xs) zero v low all (suc r) = all (suc r)
set_small (x ∷ xs) (suc i) v low all zero = all zero
set_small (x ∷ xs) (suc i) v low all (suc r) = set_small xs i v low (λ k. all (suc k)) r

zeros_small : (n : ℕ) → AreSmall (replicate n 0)
zeros_small zero r = omega arith
zeros_small (suc n) zero = omega arith
zeros_small (suc n) (suc r) = zeros_small n r

written_small : (regs : List ℕ) (r v : ℕ) → v < 2 ^ 64 → AreSmall regs → AreSmall (with_register regs r v)
written_small regs r v low all = by (r == 0)
  where
    by : (t : Bool) → AreSmall (if t then regs else slice_set regs r v)
    by true = all
    by false = set_small regs r v low all

result_small : (regs : List ℕ) (r : ℕ) (o : Option ℕ) → IfSome o (λ v. v < 2 ^ 64) → AreSmall regs → AreSmall (with_result regs r o)
result_small regs r None low all = all
result_small regs r (Some v) low all = written_small regs r v low all

-- ---- after an instruction

given_fits : (o : Option ℕ) (other : ℕ) → IfSome o (λ v. v < 2 ^ 64) → other < 2 ^ 64 → unwrap_or o other < 2 ^ 64
given_fits None other fits low = low
given_fits (Some v) other fits low = fits

constant_fits : (image : ImageState) (x : Access) → HasBytes image → Fits x → IfSome (constant_of image x) (λ v. v < 2 ^ 64)
constant_fits image (Load addr width) bytes fits = by (find (is_constant addr width) image.segments) (found_has (λ (s : Segment). AreBytes s.bytes) (is_constant addr width) image.segments bytes)
  where
    by : (o : Option Segment) → IfSome o (λ s. AreBytes s.bytes) → IfSome (option_map (λ s. number_at (byte_in s) addr width) o) (λ v. v < 2 ^ 64)
    by None has = tt
    by (Some s) has = number_fits (byte_in s) addr width fits.width (λ a. byte_of s.bytes (a - s.addr) has)
constant_fits image (Store addr width value) bytes fits = tt
constant_fits image (Reserve addr width) bytes fits = tt
constant_fits image (Conditional addr width value) bytes fits = tt
constant_fits image (Atomic op addr width value) bytes fits = tt

loaded_fits : (image : ImageState) (o : Option Access) (answer : ℕ) → HasBytes image → IfSome o Fits → answer < 2 ^ 64 → loaded image o answer < 2 ^ 64
loaded_fits image None answer bytes fits low = low
loaded_fits image (Some x) answer bytes fits low = given_fits (constant_of image x) answer (constant_fits image x bytes fits) low

executed_small : (image : ImageState) (h : HartState) (answer : ℕ) (i : Instr) → HasBytes image → IsSmall h → answer < 2 ^ 64 → IsMild i.imm → IsSmall (executed image h answer i)
executed_small image h answer i bytes small low mild = record {
  regs = result_small h.regs i.rd (value_of i.op (imm_of i) h.pc (first_source h i) (second_source h i) (loaded image (access_in h i) answer))
      (value_fits i.op (imm_of i) h.pc (first_source h i) (second_source h i) (loaded image (access_in h i) answer) (mild_fits i.imm mild) (small.regs i.rs1) (small.regs i.rs2)
      (loaded_fits image (access_in h i) answer bytes (access_fits i.op (imm_of i) (first_source h i) (second_source h i) (small.regs i.rs1)) low))
      small.regs;
  pc = given_fits (target_in h i) (plus h.pc 4) (target_fits i.op (imm_of i) h.pc (first_source h i) (second_source h i)) (let fits : plus h.pc 4 < 2 ^ 64 = omega arith in fits);
}

pub finish_small : (image : ImageState) (h : HartState) (answer : ℕ) → HasBytes image → IsSmall h → answer < 2 ^ 64 → IsSmall (finish_of image h answer)
unfolding finish_of
finish_small image h answer bytes small low = by (fetch_of image h.pc)
  where
    decoded : (o : Option Instr) → IfSome o (λ i. IsMild i.imm) → IsSmall (finished image h answer o)
    decoded None mild = small
    decoded (Some i) mild = executed_small image h answer i bytes small low mild

    by : (o : Option ℕ) → IsSmall (finished image h answer (option_and_then decode_of o))
    by None = small
    by (Some word) = decoded (decode_of word) (decoded_mild word)

pub halt_small : (image : ImageState) (h : HartState) → IsSmall h → IsSmall (halt_of image h)
unfolding halt_of
halt_small image h small = by (need_of image h)
  where
    by : (d : Need) → IsSmall (halted h d)
    by need.Plain = small
    by (need.Access x) = small
    by (need.Emit value) = small
    by (need.Stop cause) = record { regs = small.regs; pc = small.pc }

-- ---- needs

abbrev pub CauseFits : Cause → Type 0
CauseFits (Exit value) = value < 2 ^ 64
CauseFits cause = Unit {0}

abbrev pub NeedFits : Need → Type 0
NeedFits need.Plain = Unit {0}
NeedFits (need.Access x) = Fits x
NeedFits (need.Emit value) = value < 2 ^ 64
NeedFits (need.Stop cause) = CauseFits cause

either_fits : (t : Bool) (n m : Need) → NeedFits n → NeedFits m → NeedFits (cond t n m)
either_fits true n m a b = a
either_fits false n m a b = b

call_fits : (h : HartState) → IsSmall h → NeedFits (call_need h)
call_fits h small =
    either_fits (slice_index h.regs 17 == 93) (need.Stop (Exit (slice_index h.regs 10))) (if slice_index h.regs 17 == 1 then need.Emit (slice_index h.regs 10) else need.Stop Call) (small.regs 10)
    (either_fits (slice_index h.regs 17 == 1) (need.Emit (slice_index h.regs 10)) (need.Stop Call) (small.regs 10) tt)

reached_fits : (image : ImageState) (x : Access) → Fits x → NeedFits (access_need image x)
reached_fits image x fits =
    either_fits (addr_of x % width_of x == 0) (if is_some (constant_of image x) then need.Plain else (if is_data_of image (addr_of x) then need.Access x else need.Stop Unmapped)) (need.Stop Misaligned)
    (either_fits (is_some (constant_of image x)) need.Plain (if is_data_of image (addr_of x) then need.Access x else need.Stop Unmapped) tt
    (either_fits (is_data_of image (addr_of x)) (need.Access x) (need.Stop Unmapped) fits tt)) tt

data_fits : (image : ImageState) (o : Option Access) → IfSome o Fits → NeedFits (data_need image o)
data_fits image None fits = tt
data_fits image (Some x) fits = reached_fits image x fits

jump_fits : (o : Option ℕ) (n : Need) → NeedFits n → NeedFits (target_need o n)
jump_fits None n fits = fits
jump_fits (Some target) n fits = either_fits (target % 4 == 0) n (need.Stop Misaligned) fits tt

op_fits : (image : ImageState) (h : HartState) (i : Instr) (op : Op) → IsSmall h → NeedFits (op_need image h i op)
op_fits image h i Ecall small = call_fits h small
op_fits image h i Ebreak small = tt
op_fits image h i _ small = jump_fits (target_in h i) (data_need image (access_in h i)) (data_fits image (access_in h i) (access_fits i.op (imm_of i) (first_source h i) (second_source h i) (small.regs i.rs1)))

decoded_fits : (image : ImageState) (h : HartState) (o : Option Instr) → IsSmall h → NeedFits (decoded_need image h o)
decoded_fits image h None small = tt
decoded_fits image h (Some i) small = op_fits image h i i.op small

fetched_fits : (image : ImageState) (h : HartState) (o : Option ℕ) → IsSmall h → NeedFits (fetched_need image h o)
fetched_fits image h None small = tt
fetched_fits image h (Some word) small = decoded_fits image h (decode_of word) small

pub need_fits : (image : ImageState) (h : HartState) → IsSmall h → NeedFits (need_of image h)
unfolding need_of
need_fits image h small = either_fits (h.left == 0) (need.Stop Spent) (fetched_need image h (fetch_of image h.pc)) tt (fetched_fits image h (fetch_of image h.pc) small)

-- ---- the start

pub start_small : (entry number nodes sp instructions : ℕ) → entry < 2 ^ 64 → number < 2 ^ 64 → nodes < 2 ^ 64 → sp < 2 ^ 64 → IsSmall (start_of entry number nodes sp instructions)
unfolding start_of
start_small entry number nodes sp instructions e n m s = record {
  regs = set_small (slice_set (slice_set (replicate 32 0) 2 sp) 10 number) 11 nodes m (set_small (slice_set (replicate 32 0) 2 sp) 10 number n (set_small (replicate 32 0) 2 sp s (zeros_small 32)));
  pc = e;
}
