-- A hart: what its next instruction needs, and what it is after that instruction.
use Rattle.std.specs.Prelude.{◌≡◌, ℕ, ◌-◌, ◌%◌, ◌==◌, List, Option, Some, None, is_some, unwrap_or, option_and_then, slice_index, slice_set, replicate, if◌then◌else◌}
use Rattle.std.specs.Int.{w64, cast_unsigned}
use Rattle.og_base.specs.declared.Cause.{Cause}
use Rattle.og_base.specs.declared.Cause.TheVariants.{Exit, Illegal, Fetch, Misaligned, Unmapped, Call, Break, Spent}
use Rattle.og_line.specs.declared.Access.{Access}
use Rattle.og_line.specs.declared.Access.TheVariants as access
use Rattle.og_line.specs.Access.{addr_of, width_of}
use Rattle.rv_decode.specs.declared.Op.{Op}
use Rattle.rv_decode.specs.declared.Op.TheVariants.{Ecall, Ebreak}
use Rattle.rv_decode.specs.declared.Instr.{Instr}
use Rattle.rv_decode.specs.Rows.{decode_of}
use Rattle.rv_hart.specs.declared.hart.Need.{Need}
use Rattle.rv_hart.specs.declared.hart.Need.TheVariants as need
use Rattle.og_image.specs.Image.{ImageState, fetch_of, read_only_of, is_data_of}
use Rattle.rv_hart.specs.Effect.{plus, value_of, access_of, target_of}

-- what contracts see of a hart: 32 registers, the pc, the instructions that are left, and why it stopped
pub record HartState : Type 0 where
  pub regs : List ℕ
  pub pc : ℕ
  pub left : ℕ
  pub cause : Option Cause

-- at the start the pc is the entry, x2 the end of the stack page, x10 the hart's number and x11 the number of harts
unfoldable pub start_of : ℕ → ℕ → ℕ → ℕ → ℕ → HartState
start_of entry number nodes sp instructions = record {
  regs = slice_set (slice_set (slice_set (replicate 32 0) 2 sp) 10 number) 11 nodes;
  pc = entry;
  left = instructions;
  cause = None;
}

-- the registers after a write: x0 stays 0
abbrev pub with_register : List ℕ → ℕ → ℕ → List ℕ
with_register regs r value = if r == 0 then regs else slice_set regs r value

-- ---- an instruction's operands

abbrev pub imm_of : Instr → ℕ
imm_of i = cast_unsigned w64 i.imm

abbrev pub first_source : HartState → Instr → ℕ
first_source h i = slice_index h.regs i.rs1

abbrev pub second_source : HartState → Instr → ℕ
second_source h i = slice_index h.regs i.rs2

abbrev pub access_in : HartState → Instr → Option Access
access_in h i = access_of i.op (imm_of i) (first_source h i) (second_source h i)

abbrev pub target_in : HartState → Instr → Option ℕ
target_in h i = target_of i.op (imm_of i) h.pc (first_source h i) (second_source h i)

-- what a load of read-only bytes answers: only the seven loads have such an answer
abbrev pub constant_of : ImageState → Access → Option ℕ
constant_of image (access.Load addr width) = read_only_of image addr width
constant_of image _ = None

-- ---- the need, case by case in the order of the table

-- an environment call: 93 exits with x10, 1 emits x10
abbrev pub call_need : HartState → Need
call_need h =
    if slice_index h.regs 17 == 93
    then need.Stop (Exit (slice_index h.regs 10))
    else (if slice_index h.regs 17 == 1 then need.Emit (slice_index h.regs 10) else need.Stop Call)

-- an access: misaligned, a load of read-only bytes, outside the data and stack pages, or made
abbrev pub access_need : ImageState → Access → Need
access_need image x =
    if addr_of x % width_of x == 0
    then (if is_some (constant_of image x)
    then need.Plain
    else (if is_data_of image (addr_of x) then need.Access x else need.Stop Unmapped))
    else need.Stop Misaligned

abbrev pub data_need : ImageState → Option Access → Need
data_need image None = need.Plain
data_need image (Some x) = access_need image x

-- a jump or a taken branch whose target isn't divisible by 4 traps; else the access decides
abbrev pub target_need : Option ℕ → Need → Need
target_need None otherwise = otherwise
target_need (Some target) otherwise = if target % 4 == 0 then otherwise else need.Stop Misaligned

abbrev pub op_need : ImageState → HartState → Instr → Op → Need
op_need image h i Ecall = call_need h
op_need image h i Ebreak = need.Stop Break
op_need image h i _ = target_need (target_in h i) (data_need image (access_in h i))

abbrev pub decoded_need : ImageState → HartState → Option Instr → Need
decoded_need image h None = need.Stop Illegal
decoded_need image h (Some i) = op_need image h i i.op

abbrev pub fetched_need : ImageState → HartState → Option ℕ → Need
fetched_need image h None = need.Stop Fetch
fetched_need image h (Some word) = decoded_need image h (decode_of word)

unfoldable pub need_of : ImageState → HartState → Need
need_of image h = if h.left == 0 then need.Stop Spent else fetched_need image h (fetch_of image h.pc)

-- ---- after the instruction

-- what a load gets: the read-only bytes where it is of such, else memory's answer
abbrev pub loaded : ImageState → Option Access → ℕ → ℕ
loaded image None answer = answer
loaded image (Some x) answer = unwrap_or (constant_of image x) answer

abbrev pub with_result : List ℕ → ℕ → Option ℕ → List ℕ
with_result regs r None = regs
with_result regs r (Some value) = with_register regs r value

-- the hart after an instruction with memory's answer: one instruction is used up
abbrev pub executed : ImageState → HartState → ℕ → Instr → HartState
executed image h answer i = record {
  regs = with_result h.regs i.rd
      (value_of i.op (imm_of i) h.pc (first_source h i) (second_source h i) (loaded image (access_in h i) answer));
  pc = unwrap_or (target_in h i) (plus h.pc 4);
  left = h.left - 1;
  cause = h.cause;
}

-- the instruction at the pc
abbrev pub instr_of : ImageState → HartState → Option Instr
instr_of image h = option_and_then decode_of (fetch_of image h.pc)

abbrev pub finished : ImageState → HartState → ℕ → Option Instr → HartState
finished image h answer None = h
finished image h answer (Some i) = executed image h answer i

unfoldable pub finish_of : ImageState → HartState → ℕ → HartState
finish_of image h answer = finished image h answer (instr_of image h)

-- an instruction that asks for nothing of memory, and doesn't stop the hart, is executed; before any other the hart waits
abbrev pub advanced_by : ImageState → HartState → Need → HartState
advanced_by image h need.Plain = finish_of image h 0
advanced_by image h (need.Emit value) = finish_of image h 0
advanced_by image h _ = h

-- ---- stopping

abbrev pub IsStop : Need → Type 0
IsStop (need.Stop cause) = Unit {0}
IsStop _ = ⊥

abbrev pub halted : HartState → Need → HartState
halted h (need.Stop cause) = record h { cause = Some cause }
halted h _ = h

-- a trap keeps the instruction's pc
unfoldable pub halt_of : ImageState → HartState → HartState
halt_of image h = halted h (need_of image h)

-- ---- a law

-- a need without an access, of a hart that goes on
abbrev pub NeedsNoMemory : Need → Type 0
NeedsNoMemory need.Plain = Unit {0}
NeedsNoMemory (need.Access x) = ⊥
NeedsNoMemory (need.Emit value) = Unit {0}
NeedsNoMemory (need.Stop cause) = ⊥

-- where no access is needed, memory's answer isn't looked at
abbrev pub AnswerIgnored : Type 0
AnswerIgnored =
    (image : ImageState) (h : HartState) (one other : ℕ) → NeedsNoMemory (need_of image h)
    → finish_of image h one ≡ finish_of image h other
