-- What is known of an instruction that a word decodes to, by the row that the word fits.
use Rattle.std.specs.Prelude.{ℤ, pos, negsuc, ◌-ℤ◌, int_le}
use Rattle.std.specs.Int.{w64, cast_unsigned}
use Rattle.std.specs.Int.Signed.{mag}
use Rattle.std.specs.List.{find}
use Rattle.std.specs.Option.{option_map}
use Rattle.std.proofs.Common.{◌≡◌, ℕ, ◌+◌, ◌-◌, ◌*◌, ◌/◌, ◌%◌, ◌^◌, ◌<◌, ◌≤◌, ◌==◌, ◌||◌, Bool, true, false, cond, nat_lt, List, [], ◌∷◌, map, arith, refl, sym, ap, subst, Some, inl, inr}
use Rattle.std.proofs.Math.Path.{◌∙◌}
use Rattle.std.proofs.lemmas.Bool.{cases_lt}
use Rattle.std.proofs.lemmas.Bool.Decides.{nat_tests}
use Rattle.std.proofs.lemmas.Int.{ints}
use Rattle.rv_decode.specs.declared.Op.{Op}
use Rattle.rv_decode.specs.declared.Instr.{Instr}
use Rattle.rv_decode.specs.declared.Row.{Row}
use Rattle.rv_decode.specs.declared.Format.{Format}
use Rattle.rv_decode.specs.declared.Format.TheVariants.{Register as RegisterFormat, Immediate as ImmediateFormat, Shift as ShiftFormat, ShiftWord as ShiftWordFormat, Store as StoreFormat, Branch as BranchFormat, Upper as UpperFormat, Jump as JumpFormat, Whole as WholeFormat, Reserve as ReserveFormat, Atomic as AtomicFormat}
use Rattle.rv_decode.specs.Fields.{bits_of, sign_extended}
use Rattle.rv_decode.specs.Rows.{rows, fits, operands_of, read_by, decode_of}
use Rattle.rv_decode.specs.Words.{row_of, imm_word}
use Rattle.rv_asm.specs.declared.form.Form.{Form}
use Rattle.rv_asm.specs.declared.form.Form.TheVariants.{Upper, Jump, Branch, Offset, Store, Immediate, Shift, ShiftWord, Register, Fence, Bare, Reserve, Atomic, Data}
use Rattle.rv_asm.specs.Names.{form_by, form_of, has_ordering, order}
use Rattle.rv_asm.specs.Meaning.{lowest, highest, is_even, is_stepped, is_in_range, immediate_of, instr_of}
use Rattle.rv_asm.proofs.Statements.{IsSmall, number_of, registers_of}
use Rattle.rv_asm.proofs.Mnemonics.{MayStand}

-- ------------------------------------------------------------------------------ numbers in their ranges

abbrev pub Between : ℤ → ℤ → ℤ → Type 0
Between low high z = (int_le low z ≡ true) × (int_le z high ≡ true)

pub signed_12 : (x : ℕ) → x < 2 ^ 12 → Between (negsuc 2047) (pos 2047) (sign_extended 12 x) × (mag (sign_extended 12 x) < 2 ^ 63)
signed_12 x h = elim (cases_lt x (2 ^ 11)) [
  | inl lt ↦ let test : nat_lt x (2 ^ 11) ≡ true = grind (arith, nat_tests) in rw test ((grind (arith, ints), grind (arith, ints)), omega arith)
  | inr ge ↦
      let test : nat_lt x (2 ^ 11) ≡ false = grind (arith, nat_tests) in
      let is : pos x -ℤ pos (2 ^ 12) ≡ negsuc (2 ^ 12 - 1 - x) = grind (arith, ints) in
      rw (test, is) ((grind (arith, ints), grind (arith, ints)), omega arith)
]

signed_13 : (x : ℕ) → x < 2 ^ 12 → Between (negsuc 4095) (pos 4094) (sign_extended 13 (x * 2)) × (mag (sign_extended 13 (x * 2)) < 2 ^ 63) × (is_even (sign_extended 13 (x * 2)) ≡ true)
signed_13 x h = elim (cases_lt x (2 ^ 11)) [
  | inl lt ↦
      let test : nat_lt (x * 2) (2 ^ 12) ≡ true = grind (arith, nat_tests) in
      let even : (x * 2 % 2 == 0) ≡ true = grind (arith, nat_tests) in
      rw test ((grind (arith, ints), grind (arith, ints)), omega arith, even)
  | inr ge ↦
      let test : nat_lt (x * 2) (2 ^ 12) ≡ false = grind (arith, nat_tests) in
      let is : pos (x * 2) -ℤ pos (2 ^ 13) ≡ negsuc (2 ^ 13 - 1 - x * 2) = grind (arith, ints) in
      let odd : (2 ^ 13 - 1 - x * 2) % 2 ≡ 1 = omega arith in
      let even : ((2 ^ 13 - 1 - x * 2) % 2 == 1) ≡ true = grind (arith, nat_tests) in
      rw (test, is) ((grind (arith, ints), grind (arith, ints)), omega arith, even)
]

signed_21 : (x : ℕ) → x < 2 ^ 20 → Between (negsuc 1048575) (pos 1048574) (sign_extended 21 (x * 2)) × (mag (sign_extended 21 (x * 2)) < 2 ^ 63) × (is_even (sign_extended 21 (x * 2)) ≡ true)
signed_21 x h = elim (cases_lt x (2 ^ 19)) [
  | inl lt ↦
      let test : nat_lt (x * 2) (2 ^ 20) ≡ true = grind (arith, nat_tests) in
      let even : (x * 2 % 2 == 0) ≡ true = grind (arith, nat_tests) in
      rw test ((grind (arith, ints), grind (arith, ints)), omega arith, even)
  | inr ge ↦
      let test : nat_lt (x * 2) (2 ^ 20) ≡ false = grind (arith, nat_tests) in
      let is : pos (x * 2) -ℤ pos (2 ^ 21) ≡ negsuc (2 ^ 21 - 1 - x * 2) = grind (arith, ints) in
      let odd : (2 ^ 21 - 1 - x * 2) % 2 ≡ 1 = omega arith in
      let even : ((2 ^ 21 - 1 - x * 2) % 2 == 1) ≡ true = grind (arith, nat_tests) in
      rw (test, is) ((grind (arith, ints), grind (arith, ints)), omega arith, even)
]

-- the upper 20 bits come back
pub upper_back : (y : ℕ) → y < 2 ^ 20 → (cast_unsigned w64 (sign_extended 32 (y * 2 ^ 12)) % 2 ^ 32 / 2 ^ 12 ≡ y) × (mag (sign_extended 32 (y * 2 ^ 12)) < 2 ^ 63)
upper_back y h = elim (cases_lt y (2 ^ 19)) [
  | inl lt ↦
      let test : nat_lt (y * 2 ^ 12) (2 ^ 31) ≡ true = grind (arith, nat_tests) in
      rw test (omega arith, omega arith)
  | inr ge ↦
      let test : nat_lt (y * 2 ^ 12) (2 ^ 31) ≡ false = grind (arith, nat_tests) in
      let is : pos (y * 2 ^ 12) -ℤ pos (2 ^ 32) ≡ negsuc (2 ^ 32 - 1 - y * 2 ^ 12) = grind (arith, ints) in
      rw (test, is) (omega arith, omega arith)
]

-- bits 20 to 31 of a FENCE come back
fence_back : (x : ℕ) → x < 2 ^ 12 → cast_unsigned w64 (sign_extended 12 x) % 2 ^ 32 % 2 ^ 12 ≡ x
fence_back x h = elim (cases_lt x (2 ^ 11)) [
  | inl lt ↦
      let test : nat_lt x (2 ^ 11) ≡ true = grind (arith, nat_tests) in
      rw test (omega arith)
  | inr ge ↦
      let test : nat_lt x (2 ^ 11) ≡ false = grind (arith, nat_tests) in
      let is : pos x -ℤ pos (2 ^ 12) ≡ negsuc (2 ^ 12 - 1 - x) = grind (arith, ints) in
      rw (test, is) (omega arith)
]

-- ------------------------------------------------------------------------------ format by format

-- an instruction that the printer's text gives back
pub record IsPrinted (form : Form) (i : Instr) : Type 0 where
  pub small : IsSmall i
  pub may : has_ordering form ≡ false → (i.aq ≡ false) × (i.rl ≡ false)
  pub ranged : is_in_range form (number_of form i) ≡ true
  pub same : instr_of i.op (order i.aq i.rl) (registers_of form i) (immediate_of form (number_of form i)) ≡ i
  pub known : form ≡ Data → ⊥

-- two bounds and a step make a range
in_range : (form : Form) (z : ℤ) → Between (lowest form) (highest form) z → is_stepped form z ≡ true → is_in_range form z ≡ true
unfolding is_in_range
in_range form z b step = rw (b.0, b.1, step) refl

natural_range : (n high : ℕ) → n ≤ high → Between (pos 0) (pos high) (pos n)
natural_range n high le = (grind (arith, ints), grind (arith, ints))

register_printed : (op : Op) (w : ℕ) → IsPrinted Register (operands_of RegisterFormat op w)
register_printed op w = record {
  small = record { rd = omega arith; rs1 = omega arith; rs2 = omega arith; imm = omega arith };
  may = λ h. (refl, refl);
  ranged = in_range Register (pos 0) (refl, refl) refl;
  same = refl;
  known = λ e. cc;
}

offset_printed : (op : Op) (w : ℕ) → IsPrinted Offset (operands_of ImmediateFormat op w)
offset_printed op w =
    let x : ℕ = bits_of w 20 12 in
    let s = signed_12 x (omega arith) in
    record {
      small = record { rd = omega arith; rs1 = omega arith; rs2 = omega arith; imm = s.1 };
      may = λ h. (refl, refl);
      ranged = in_range Offset (sign_extended 12 x) s.0 refl;
      same = refl;
      known = λ e. cc;
    }

immediate_printed : (op : Op) (w : ℕ) → IsPrinted Immediate (operands_of ImmediateFormat op w)
immediate_printed op w =
    let x : ℕ = bits_of w 20 12 in
    let s = signed_12 x (omega arith) in
    record {
      small = record { rd = omega arith; rs1 = omega arith; rs2 = omega arith; imm = s.1 };
      may = λ h. (refl, refl);
      ranged = in_range Immediate (sign_extended 12 x) s.0 refl;
      same = refl;
      known = λ e. cc;
    }

fence_printed : (op : Op) (w : ℕ) → IsPrinted Fence (operands_of ImmediateFormat op w)
fence_printed op w =
    let x : ℕ = bits_of w 20 12 in
    let below : x < 2 ^ 12 = omega arith in
    let s = signed_12 x below in
    let back : imm_word (operands_of ImmediateFormat op w) % 2 ^ 12 ≡ x = fence_back x below in
    record {
      small = record { rd = omega arith; rs1 = omega arith; rs2 = omega arith; imm = s.1 };
      may = λ h. (refl, refl);
      ranged = rw back (in_range Fence (pos x) (natural_range x 4095 (omega arith)) refl);
      same = ap (λ (n : ℕ). instr_of op (order false false) (registers_of Fence (operands_of ImmediateFormat op w)) (immediate_of Fence (pos n))) back;
      known = λ e. cc;
    }

shift_printed : (op : Op) (w : ℕ) → IsPrinted Shift (operands_of ShiftFormat op w)
shift_printed op w =
    let x : ℕ = bits_of w 20 6 in
    record {
      small = record { rd = omega arith; rs1 = omega arith; rs2 = omega arith; imm = omega arith };
      may = λ h. (refl, refl);
      ranged = in_range Shift (pos x) (natural_range x 63 (omega arith)) refl;
      same = refl;
      known = λ e. cc;
    }

shift_word_printed : (op : Op) (w : ℕ) → IsPrinted ShiftWord (operands_of ShiftWordFormat op w)
shift_word_printed op w =
    let x : ℕ = bits_of w 20 5 in
    record {
      small = record { rd = omega arith; rs1 = omega arith; rs2 = omega arith; imm = omega arith };
      may = λ h. (refl, refl);
      ranged = in_range ShiftWord (pos x) (natural_range x 31 (omega arith)) refl;
      same = refl;
      known = λ e. cc;
    }

store_printed : (op : Op) (w : ℕ) → IsPrinted Store (operands_of StoreFormat op w)
store_printed op w =
    let x : ℕ = bits_of w 25 7 * 2 ^ 5 + bits_of w 7 5 in
    let s = signed_12 x (omega arith) in
    record {
      small = record { rd = omega arith; rs1 = omega arith; rs2 = omega arith; imm = s.1 };
      may = λ h. (refl, refl);
      ranged = in_range Store (sign_extended 12 x) s.0 refl;
      same = refl;
      known = λ e. cc;
    }

branch_printed : (op : Op) (w : ℕ) → IsPrinted Branch (operands_of BranchFormat op w)
branch_printed op w =
    let x : ℕ = bits_of w 31 1 * 2 ^ 11 + bits_of w 7 1 * 2 ^ 10 + bits_of w 25 6 * 2 ^ 4 + bits_of w 8 4 in
    let is : bits_of w 31 1 * 2 ^ 12 + bits_of w 7 1 * 2 ^ 11 + bits_of w 25 6 * 2 ^ 5 + bits_of w 8 4 * 2 ≡ x * 2 = omega arith in
    let s = signed_13 x (omega arith) in
    let bound = ap (λ (n : ℕ). mag (sign_extended 13 n)) is in
    record {
      small = record { rd = omega arith; rs1 = omega arith; rs2 = omega arith; imm = subst (λ (n : ℕ). mag (sign_extended 13 n) < 2 ^ 63) (sym is) s.1 };
      may = λ h. (refl, refl);
      ranged = subst (λ (n : ℕ). is_in_range Branch (sign_extended 13 n) ≡ true) (sym is) (in_range Branch (sign_extended 13 (x * 2)) s.0 s.2);
      same = refl;
      known = λ e. cc;
    }

jump_printed : (op : Op) (w : ℕ) → IsPrinted Jump (operands_of JumpFormat op w)
jump_printed op w =
    let x : ℕ = bits_of w 31 1 * 2 ^ 19 + bits_of w 12 8 * 2 ^ 11 + bits_of w 20 1 * 2 ^ 10 + bits_of w 21 10 in
    let is : bits_of w 31 1 * 2 ^ 20 + bits_of w 12 8 * 2 ^ 12 + bits_of w 20 1 * 2 ^ 11 + bits_of w 21 10 * 2 ≡ x * 2 = omega arith in
    let s = signed_21 x (omega arith) in
    record {
      small = record { rd = omega arith; rs1 = omega arith; rs2 = omega arith; imm = subst (λ (n : ℕ). mag (sign_extended 21 n) < 2 ^ 63) (sym is) s.1 };
      may = λ h. (refl, refl);
      ranged = subst (λ (n : ℕ). is_in_range Jump (sign_extended 21 n) ≡ true) (sym is) (in_range Jump (sign_extended 21 (x * 2)) s.0 s.2);
      same = refl;
      known = λ e. cc;
    }

upper_printed : (op : Op) (w : ℕ) → IsPrinted Upper (operands_of UpperFormat op w)
upper_printed op w =
    let y : ℕ = bits_of w 12 20 in
    let u = upper_back y (omega arith) in
    let back : imm_word (operands_of UpperFormat op w) / 2 ^ 12 ≡ y = u.0 in
    let wide : cast_unsigned w64 (pos y) ≡ y = omega arith in
    record {
      small = record { rd = omega arith; rs1 = omega arith; rs2 = omega arith; imm = u.1 };
      may = λ h. (refl, refl);
      ranged = rw back (in_range Upper (pos y) (natural_range y 1048575 (omega arith)) refl);
      same = ap (λ (n : ℕ). instr_of op (order false false) (registers_of Upper (operands_of UpperFormat op w)) (immediate_of Upper (pos n))) back;
      known = λ e. cc;
    }

whole_printed : (op : Op) (w : ℕ) → IsPrinted Bare (operands_of WholeFormat op w)
whole_printed op w = record {
  small = record { rd = omega arith; rs1 = omega arith; rs2 = omega arith; imm = omega arith };
  may = λ h. (refl, refl);
  ranged = in_range Bare (pos 0) (refl, refl) refl;
  same = refl;
  known = λ e. cc;
}

reserve_printed : (op : Op) (w : ℕ) → IsPrinted Reserve (operands_of ReserveFormat op w)
reserve_printed op w = record {
  small = record { rd = omega arith; rs1 = omega arith; rs2 = omega arith; imm = omega arith };
  may = λ h. absurd (cc);
  ranged = in_range Reserve (pos 0) (refl, refl) refl;
  same = refl;
  known = λ e. cc;
}

atomic_printed : (op : Op) (w : ℕ) → IsPrinted Atomic (operands_of AtomicFormat op w)
atomic_printed op w = record {
  small = record { rd = omega arith; rs1 = omega arith; rs2 = omega arith; imm = omega arith };
  may = λ h. absurd (cc);
  ranged = in_range Atomic (pos 0) (refl, refl) refl;
  same = refl;
  known = λ e. cc;
}

by_format : (format : Format) (opcode : ℕ) (op : Op) (w : ℕ) → IsPrinted (form_by format opcode) (operands_of format op w)
by_format RegisterFormat opcode op w = register_printed op w
by_format ImmediateFormat opcode op w = go ((opcode == 0b1100111) || (opcode == 0b0000011)) (opcode == 0b0001111)
  where
    go : (a b : Bool) → IsPrinted (cond a Offset (cond b Fence Immediate)) (operands_of ImmediateFormat op w)
    go true b = offset_printed op w
    go false true = fence_printed op w
    go false false = immediate_printed op w
by_format ShiftFormat opcode op w = shift_printed op w
by_format ShiftWordFormat opcode op w = shift_word_printed op w
by_format StoreFormat opcode op w = store_printed op w
by_format BranchFormat opcode op w = branch_printed op w
by_format UpperFormat opcode op w = upper_printed op w
by_format JumpFormat opcode op w = jump_printed op w
by_format WholeFormat opcode op w = whole_printed op w
by_format ReserveFormat opcode op w = reserve_printed op w
by_format AtomicFormat opcode op w = atomic_printed op w

-- ------------------------------------------------------------------------------ the row of a word

-- each of these rows is the row of its name
abbrev AreNamed : List Row → Type 0
AreNamed [] = Unit {0}
AreNamed (r ∷ rs) = (row_of r.name ≡ r) × AreNamed rs

are_named : (rs : List Row) → map (λ r. row_of r.name) rs ≡ rs → AreNamed rs
are_named [] e = tt
are_named (r ∷ rs) e = (cc, are_named rs (cc))

-- a word's instruction is read by a row that is the row of its name
found : (word : ℕ) (rs : List Row) (i : Instr) → AreNamed rs → option_map (read_by word) (find (fits word) rs) ≡ Some i → (r : Row) × (row_of r.name ≡ r) × (read_by word r ≡ i)
found word [] i all e = cc
found word (r ∷ rs) i all e =
    let both : (b : Bool) → option_map (read_by word) (cond b (Some r) (find (fits word) rs)) ≡ Some i → (q : Row) × (row_of q.name ≡ q) × (read_by word q ≡ i) =
    λ b. elim b as (λ v. option_map (read_by word) (cond v (Some r) (find (fits word) rs)) ≡ Some i → (q : Row) × (row_of q.name ≡ q) × (read_by word q ≡ i)) [
      | true ↦ λ k. (r, all.0, (cc))
      | false ↦ λ k. found word rs i all.1 k
    ] in
    both (fits word r) e

op_read : (format : Format) (op : Op) (word : ℕ) → (operands_of format op word).op ≡ op
op_read RegisterFormat op word = refl
op_read _ op word = refl

-- what a word decodes to is given back by its text
pub decoded_printed : (word : ℕ) (i : Instr) → decode_of word ≡ Some i → IsPrinted (form_of i.op) i
unfolding decode_of rows row_of form_of
decoded_printed word i e =
    let f = found word rows i (are_named rows refl) e in
    let r : Row = f.0 in
    let op : (read_by word r).op ≡ r.name = op_read r.format r.name word in
    let known : form_of r.name ≡ form_by r.format r.opcode = ap (λ (q : Row). form_by q.format q.opcode) f.1 in
    let here : IsPrinted (form_by r.format r.opcode) (read_by word r) = by_format r.format r.opcode r.name word in
    subst (λ (j : Instr). IsPrinted (form_of j.op) j) f.2 (subst (λ (g : Form). IsPrinted g (read_by word r)) (sym (ap form_of op ∙ known)) here)

-- an ordering stands only where it may
pub may_stand : (op : Op) (aq rl : Bool) → (has_ordering (form_of op) ≡ false → (aq ≡ false) × (rl ≡ false)) → MayStand op aq rl
may_stand op aq rl h = go (has_ordering (form_of op)) refl aq rl h
  where
    go : (b : Bool) → has_ordering (form_of op) ≡ b → (x y : Bool) → (has_ordering (form_of op) ≡ false → (x ≡ false) × (y ≡ false)) → MayStand op x y
    go b is false false k = tt
    go true is true false k = is
    go true is false true k = is
    go true is true true k = is
    go false is true false k = let e = (k is).0 in absurd (cc)
    go false is false true k = let e = (k is).1 in absurd (cc)
    go false is true true k = let e = (k is).0 in absurd (cc)
