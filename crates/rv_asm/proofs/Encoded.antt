-- The word of an instruction decodes to it: its fields are the row's, and no other row has them.
use Rattle.std.specs.Prelude.{ℤ, pos, negsuc, ◌-ℤ◌, int_le}
use Rattle.std.specs.Int.{w64, cast_unsigned}
use Rattle.std.specs.List.{find, filter}
use Rattle.std.specs.Option.{option_map}
use Rattle.std.proofs.Common.{◌≡◌, ℕ, zero, suc, ◌+◌, ◌-◌, ◌*◌, ◌%◌, ◌^◌, ◌<◌, ◌≤◌, ◌⊎◌, Bool, true, false, cond, nat_lt, List, [], ◌∷◌, map, length, arith, refl, sym, ap, subst, Option, None, Some, inl, inr}
use Rattle.std.proofs.Math.Path.{◌∙◌}
use Rattle.std.proofs.lemmas.Bool.Decides.{nat_tests}
use Rattle.std.proofs.lemmas.Int.{ints}
use Rattle.rv_decode.specs.declared.Op.{Op}
use Rattle.rv_decode.specs.declared.Op.TheVariants.{Lui, Auipc, Jal, Jalr, Beq, Bne, Blt, Bge, Bltu, Bgeu, Lb, Lh, Lw, Ld, Lbu, Lhu, Lwu, Sb, Sh, Sw, Sd, Addi, Slti, Sltiu, Xori, Ori, Andi, Slli, Srli, Srai, Add, Sll, Slt, Sltu, Xor, Srl, Or, And, Sub, Sra, Addiw, Slliw, Srliw, Sraiw, Addw, Sllw, Srlw, Subw, Sraw, Fence, Ecall, Ebreak, LrW, LrD, ScW, AmoswapW, AmoaddW, AmoxorW, AmoandW, AmoorW, AmominW, AmomaxW, AmominuW, AmomaxuW, ScD, AmoswapD, AmoaddD, AmoxorD, AmoandD, AmoorD, AmominD, AmomaxD, AmominuD, AmomaxuD}
use Rattle.rv_decode.specs.declared.Row.{Row}
use Rattle.rv_decode.specs.Fields.{bits_of, sign_extended, opcode_of, rd_of, funct3_of, rs1_of, rs2_of, funct5_of, funct6_of, funct7_of}
use Rattle.rv_decode.specs.Rows.{rows, fits, read_by, decode_of}
use Rattle.rv_decode.specs.Words.{row_of, above_of}
use Rattle.rv_decode.proofs.Apart.{no_word_twice}
use Rattle.rv_asm.specs.Names.{ops}

-- ------------------------------------------------------------------------------ one row

abbrev IsIn : {X : Type 0} → X → List X → Type 0
IsIn x [] = ⊥
IsIn x (y ∷ ys) = (x ≡ y) ⊎ IsIn x ys

abbrev item : List Op → ℕ → Option Op
item [] n = None
item (x ∷ xs) zero = Some x
item (x ∷ xs) (suc n) = item xs n

at : (n : ℕ) (xs : List Op) (x : Op) → item xs n ≡ Some x → IsIn x xs
at n [] x e = absurd (cc)
at zero (y ∷ ys) x e = inl (cc)
at (suc n) (y ∷ ys) x e = inr (at n ys x e)

is_op : (op : Op) → IsIn op ops
unfolding ops
is_op Lui = at 0 ops Lui refl
is_op Auipc = at 1 ops Auipc refl
is_op Jal = at 2 ops Jal refl
is_op Jalr = at 3 ops Jalr refl
is_op Beq = at 4 ops Beq refl
is_op Bne = at 5 ops Bne refl
is_op Blt = at 6 ops Blt refl
is_op Bge = at 7 ops Bge refl
is_op Bltu = at 8 ops Bltu refl
is_op Bgeu = at 9 ops Bgeu refl
is_op Lb = at 10 ops Lb refl
is_op Lh = at 11 ops Lh refl
is_op Lw = at 12 ops Lw refl
is_op Ld = at 13 ops Ld refl
is_op Lbu = at 14 ops Lbu refl
is_op Lhu = at 15 ops Lhu refl
is_op Lwu = at 16 ops Lwu refl
is_op Sb = at 17 ops Sb refl
is_op Sh = at 18 ops Sh refl
is_op Sw = at 19 ops Sw refl
is_op Sd = at 20 ops Sd refl
is_op Addi = at 21 ops Addi refl
is_op Slti = at 22 ops Slti refl
is_op Sltiu = at 23 ops Sltiu refl
is_op Xori = at 24 ops Xori refl
is_op Ori = at 25 ops Ori refl
is_op Andi = at 26 ops Andi refl
is_op Slli = at 27 ops Slli refl
is_op Srli = at 28 ops Srli refl
is_op Srai = at 29 ops Srai refl
is_op Add = at 30 ops Add refl
is_op Sll = at 31 ops Sll refl
is_op Slt = at 32 ops Slt refl
is_op Sltu = at 33 ops Sltu refl
is_op Xor = at 34 ops Xor refl
is_op Srl = at 35 ops Srl refl
is_op Or = at 36 ops Or refl
is_op And = at 37 ops And refl
is_op Sub = at 38 ops Sub refl
is_op Sra = at 39 ops Sra refl
is_op Addiw = at 40 ops Addiw refl
is_op Slliw = at 41 ops Slliw refl
is_op Srliw = at 42 ops Srliw refl
is_op Sraiw = at 43 ops Sraiw refl
is_op Addw = at 44 ops Addw refl
is_op Sllw = at 45 ops Sllw refl
is_op Srlw = at 46 ops Srlw refl
is_op Subw = at 47 ops Subw refl
is_op Sraw = at 48 ops Sraw refl
is_op Fence = at 49 ops Fence refl
is_op Ecall = at 50 ops Ecall refl
is_op Ebreak = at 51 ops Ebreak refl
is_op LrW = at 52 ops LrW refl
is_op LrD = at 53 ops LrD refl
is_op ScW = at 54 ops ScW refl
is_op AmoswapW = at 55 ops AmoswapW refl
is_op AmoaddW = at 56 ops AmoaddW refl
is_op AmoxorW = at 57 ops AmoxorW refl
is_op AmoandW = at 58 ops AmoandW refl
is_op AmoorW = at 59 ops AmoorW refl
is_op AmominW = at 60 ops AmominW refl
is_op AmomaxW = at 61 ops AmomaxW refl
is_op AmominuW = at 62 ops AmominuW refl
is_op AmomaxuW = at 63 ops AmomaxuW refl
is_op ScD = at 64 ops ScD refl
is_op AmoswapD = at 65 ops AmoswapD refl
is_op AmoaddD = at 66 ops AmoaddD refl
is_op AmoxorD = at 67 ops AmoxorD refl
is_op AmoandD = at 68 ops AmoandD refl
is_op AmoorD = at 69 ops AmoorD refl
is_op AmominD = at 70 ops AmominD refl
is_op AmomaxD = at 71 ops AmomaxD refl
is_op AmominuD = at 72 ops AmominuD refl
is_op AmomaxuD = at 73 ops AmomaxuD refl

mapped : (xs : List Op) (x : Op) → IsIn x xs → IsIn (row_of x) (map row_of xs)
mapped [] x h = absurd h
mapped (y ∷ ys) x (inl e) = inl (ap row_of e)
mapped (y ∷ ys) x (inr h) = inr (mapped ys x h)

all_rows : map row_of ops ≡ rows
unfolding ops rows row_of
all_rows = refl

is_row : (op : Op) → IsIn (row_of op) rows
is_row op = subst (λ (rs : List Row). IsIn (row_of op) rs) all_rows (mapped ops op (is_op op))

-- a row that passes is counted
counted : (p : Row → Bool) (rs : List Row) (r : Row) → IsIn r rs → p r ≡ true → 1 ≤ length (filter p rs)
counted p [] r h e = absurd h
counted p (y ∷ ys) r h e = go (p y) refl h (counted p ys r)
  where
    go : (b : Bool) → p y ≡ b → (r ≡ y) ⊎ IsIn r ys → (IsIn r ys → p r ≡ true → 1 ≤ length (filter p ys)) → 1 ≤ length (cond b (y ∷ filter p ys) (filter p ys))
    go true is k later = omega arith
    go false is (inl same) later = let f : p r ≡ false = ap p same ∙ is in absurd (cc)
    go false is (inr k) later = later k e

-- the only row that passes is found
only : (p : Row → Bool) (rs : List Row) (r : Row) → IsIn r rs → p r ≡ true → length (filter p rs) ≤ 1 → find p rs ≡ Some r
only p [] r h e few = absurd h
only p (y ∷ ys) r h e few = go (p y) refl h few (only p ys r)
  where
    go : (b : Bool) → p y ≡ b → (r ≡ y) ⊎ IsIn r ys → length (cond b (y ∷ filter p ys) (filter p ys)) ≤ 1 → (IsIn r ys → p r ≡ true → length (filter p ys) ≤ 1 → find p ys ≡ Some r) → cond b (Some y) (find p ys) ≡ Some r
    go true is (inl same) k later = ap (λ (q : Row). Some q) (sym same)
    go true is (inr m) k later = let one : 1 ≤ length (filter p ys) = counted p ys r m e in absurd (omega arith)
    go false is (inl same) k later = let f : p r ≡ false = ap p same ∙ is in absurd (cc)
    go false is (inr m) k later = later m e k

-- a word that fits the row of a name is read by it
pub fitting : (op : Op) (word : ℕ) → fits word (row_of op) ≡ true → decode_of word ≡ Some (read_by word (row_of op))
unfolding decode_of
fitting op word h = ap (λ (o : Option Row). option_map (read_by word) o) (only (fits word) rows (row_of op) (is_row op) h (no_word_twice word))

-- ------------------------------------------------------------------------------ the fields of a word

-- what is in a row: its fields have their sizes
pub record IsRow (r : Row) : Type 0 where
  pub opcode : r.opcode < 128
  pub funct3 : r.funct3 < 8
  pub above : above_of r < 2 ^ 32

pub row_small : (op : Op) → IsRow (row_of op)
unfolding row_of
row_small Lui = record { opcode = omega arith; funct3 = omega arith; above = omega arith }
row_small _ = record { opcode = omega arith; funct3 = omega arith; above = omega arith }

pub register_fields : (o f rd rs1 rs2 a : ℕ) → o < 128 → f < 8 → rd < 32 → rs1 < 32 → rs2 < 32 → a < 128 →
    let w : ℕ = o + f * 2 ^ 12 + rd % 2 ^ 5 * 2 ^ 7 + (rs1 % 2 ^ 5 * 2 ^ 15 + rs2 % 2 ^ 5 * 2 ^ 20) + a * 2 ^ 25 in
    (opcode_of w ≡ o) × (rd_of w ≡ rd) × (funct3_of w ≡ f) × (rs1_of w ≡ rs1) × (rs2_of w ≡ rs2) × (funct7_of w ≡ a)
register_fields o f rd rs1 rs2 a ho hf hd h1 h2 ha = (omega arith, omega arith, omega arith, omega arith, omega arith, omega arith)

pub immediate_fields : (o f rd rs1 x : ℕ) → o < 128 → f < 8 → rd < 32 → rs1 < 32 → x < 2 ^ 12 →
    let w : ℕ = o + f * 2 ^ 12 + rd % 2 ^ 5 * 2 ^ 7 + rs1 % 2 ^ 5 * 2 ^ 15 + x * 2 ^ 20 in
    (opcode_of w ≡ o) × (rd_of w ≡ rd) × (funct3_of w ≡ f) × (rs1_of w ≡ rs1) × (bits_of w 20 12 ≡ x)
immediate_fields o f rd rs1 x ho hf hd h1 hx = (omega arith, omega arith, omega arith, omega arith, omega arith)

pub shift_fields : (o f rd rs1 x a : ℕ) → o < 128 → f < 8 → rd < 32 → rs1 < 32 → x < 2 ^ 6 → a < 2 ^ 6 →
    let w : ℕ = o + f * 2 ^ 12 + rd % 2 ^ 5 * 2 ^ 7 + rs1 % 2 ^ 5 * 2 ^ 15 + x * 2 ^ 20 + a * 2 ^ 26 in
    (opcode_of w ≡ o) × (rd_of w ≡ rd) × (funct3_of w ≡ f) × (rs1_of w ≡ rs1) × (bits_of w 20 6 ≡ x) × (funct6_of w ≡ a)
shift_fields o f rd rs1 x a ho hf hd h1 hx ha = (omega arith, omega arith, omega arith, omega arith, omega arith, omega arith)

pub shift_word_fields : (o f rd rs1 x a : ℕ) → o < 128 → f < 8 → rd < 32 → rs1 < 32 → x < 2 ^ 5 → a < 2 ^ 7 →
    let w : ℕ = o + f * 2 ^ 12 + rd % 2 ^ 5 * 2 ^ 7 + rs1 % 2 ^ 5 * 2 ^ 15 + x * 2 ^ 20 + a * 2 ^ 25 in
    (opcode_of w ≡ o) × (rd_of w ≡ rd) × (funct3_of w ≡ f) × (rs1_of w ≡ rs1) × (bits_of w 20 5 ≡ x) × (funct7_of w ≡ a)
shift_word_fields o f rd rs1 x a ho hf hd h1 hx ha = (omega arith, omega arith, omega arith, omega arith, omega arith, omega arith)

pub store_fields : (o f rs1 rs2 x y : ℕ) → o < 128 → f < 8 → rs1 < 32 → rs2 < 32 → x < 2 ^ 5 → y < 2 ^ 7 →
    let w : ℕ = o + f * 2 ^ 12 + x * 2 ^ 7 + (rs1 % 2 ^ 5 * 2 ^ 15 + rs2 % 2 ^ 5 * 2 ^ 20) + y * 2 ^ 25 in
    (opcode_of w ≡ o) × (funct3_of w ≡ f) × (rs1_of w ≡ rs1) × (rs2_of w ≡ rs2) × (bits_of w 7 5 ≡ x) × (bits_of w 25 7 ≡ y)
store_fields o f rs1 rs2 x y ho hf h1 h2 hx hy = (omega arith, omega arith, omega arith, omega arith, omega arith, omega arith)

pub branch_fields : (o f rs1 rs2 a b c d : ℕ) → o < 128 → f < 8 → rs1 < 32 → rs2 < 32 → a < 2 → b < 2 ^ 4 → c < 2 ^ 6 → d < 2 →
    let w : ℕ = o + f * 2 ^ 12 + a * 2 ^ 7 + b * 2 ^ 8 + (rs1 % 2 ^ 5 * 2 ^ 15 + rs2 % 2 ^ 5 * 2 ^ 20) + c * 2 ^ 25 + d * 2 ^ 31 in
    (opcode_of w ≡ o) × (funct3_of w ≡ f) × (rs1_of w ≡ rs1) × (rs2_of w ≡ rs2) × (bits_of w 7 1 ≡ a) × (bits_of w 8 4 ≡ b) × (bits_of w 25 6 ≡ c) × (bits_of w 31 1 ≡ d)
branch_fields o f rs1 rs2 a b c d ho hf h1 h2 ha hb hc hd = (omega arith, omega arith, omega arith, omega arith, omega arith, omega arith, omega arith, omega arith)

pub upper_fields : (o rd x : ℕ) → o < 128 → rd < 32 → x < 2 ^ 20 →
    let w : ℕ = o + rd % 2 ^ 5 * 2 ^ 7 + x * 2 ^ 12 in
    (opcode_of w ≡ o) × (rd_of w ≡ rd) × (bits_of w 12 20 ≡ x)
upper_fields o rd x ho hd hx = (omega arith, omega arith, omega arith)

pub jump_fields : (o rd a b c d : ℕ) → o < 128 → rd < 32 → a < 2 ^ 8 → b < 2 → c < 2 ^ 10 → d < 2 →
    let w : ℕ = o + rd % 2 ^ 5 * 2 ^ 7 + a * 2 ^ 12 + b * 2 ^ 20 + c * 2 ^ 21 + d * 2 ^ 31 in
    (opcode_of w ≡ o) × (rd_of w ≡ rd) × (bits_of w 12 8 ≡ a) × (bits_of w 20 1 ≡ b) × (bits_of w 21 10 ≡ c) × (bits_of w 31 1 ≡ d)
jump_fields o rd a b c d ho hd ha hb hc hd' = (omega arith, omega arith, omega arith, omega arith, omega arith, omega arith)

pub whole_fields : (o a : ℕ) → o < 128 → a < 2 ^ 12 →
    let w : ℕ = o + a * 2 ^ 20 in
    (opcode_of w ≡ o) × (bits_of w 7 13 ≡ 0) × (bits_of w 20 12 ≡ a)
whole_fields o a ho ha = (omega arith, omega arith, omega arith)

pub atomic_fields : (o f rd rs1 rs2 q l a : ℕ) → o < 128 → f < 8 → rd < 32 → rs1 < 32 → rs2 < 32 → q < 2 → l < 2 → a < 32 →
    let w : ℕ = o + f * 2 ^ 12 + rd % 2 ^ 5 * 2 ^ 7 + (rs1 % 2 ^ 5 * 2 ^ 15 + rs2 % 2 ^ 5 * 2 ^ 20) + (q * 2 ^ 26 + l * 2 ^ 25) + a * 2 ^ 27 in
    (opcode_of w ≡ o) × (rd_of w ≡ rd) × (funct3_of w ≡ f) × (rs1_of w ≡ rs1) × (rs2_of w ≡ rs2) × (bits_of w 26 1 ≡ q) × (bits_of w 25 1 ≡ l) × (funct5_of w ≡ a)
atomic_fields o f rd rs1 rs2 q l a ho hf hd h1 h2 hq hl ha = (omega arith, omega arith, omega arith, omega arith, omega arith, omega arith, omega arith, omega arith)

pub reserve_fields : (o f rd rs1 q l a : ℕ) → o < 128 → f < 8 → rd < 32 → rs1 < 32 → q < 2 → l < 2 → a < 32 →
    let w : ℕ = o + f * 2 ^ 12 + rd % 2 ^ 5 * 2 ^ 7 + rs1 % 2 ^ 5 * 2 ^ 15 + (q * 2 ^ 26 + l * 2 ^ 25) + a * 2 ^ 27 in
    (opcode_of w ≡ o) × (rd_of w ≡ rd) × (funct3_of w ≡ f) × (rs1_of w ≡ rs1) × (rs2_of w ≡ 0) × (bits_of w 26 1 ≡ q) × (bits_of w 25 1 ≡ l) × (funct5_of w ≡ a)
reserve_fields o f rd rs1 q l a ho hf hd h1 hq hl ha = (omega arith, omega arith, omega arith, omega arith, omega arith, omega arith, omega arith, omega arith)

-- ------------------------------------------------------------------------------ the numbers of a word

pub low_12 : (n : ℤ) → int_le (negsuc 2047) n ≡ true → int_le n (pos 2047) ≡ true → sign_extended 12 (cast_unsigned w64 n % 2 ^ 32 % 2 ^ 12) ≡ n
low_12 (pos n) lo hi =
    let small : n < 2 ^ 11 = grind (arith, ints) in
    let same : n % 2 ^ 32 % 2 ^ 12 ≡ n = omega arith in
    let test : nat_lt n (2 ^ 11) ≡ true = grind (arith, nat_tests) in
    rw (same, test) refl
low_12 (negsuc n) lo hi =
    let small : n < 2 ^ 11 = grind (arith, ints) in
    let same : cast_unsigned w64 (negsuc n) % 2 ^ 32 % 2 ^ 12 ≡ 2 ^ 12 - 1 - n = omega arith in
    let test : nat_lt (2 ^ 12 - 1 - n) (2 ^ 11) ≡ false = grind (arith, nat_tests) in
    let is : pos (2 ^ 12 - 1 - n) -ℤ pos (2 ^ 12) ≡ negsuc n = grind (arith, ints) in
    rw (same, test) is
