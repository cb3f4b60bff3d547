-- What a word decodes to, by its opcode: the rows of the other opcodes fall away.
use Rattle.std.proofs.Common.{◌≡◌, ℕ, Bool, true, false, cond, ◌&&◌, ◌==◌, eqb, List, [], ◌∷◌, ◌++◌, Option, None, Some, refl, ap, sym, subst, ◌∙◌}
use Rattle.std.specs.List.{find, filter, list_all, list_any}
use Rattle.std.specs.Option.{option_map, option_or}
use Rattle.std.proofs.lemmas.List.Folds.{find-append}
use Rattle.std.proofs.lemmas.Bool.{false≢true, eqb-true}
use Rattle.rv_decode.specs.declared.Format.{Format}
use Rattle.rv_decode.specs.declared.Format.TheVariants.{Register, Immediate, Shift, ShiftWord, Store, Branch, Upper, Jump, Whole, Reserve, Atomic}
use Rattle.rv_decode.specs.declared.Instr.{Instr}
use Rattle.rv_decode.specs.Fields.{opcode_of}
use Rattle.rv_decode.specs.declared.Row.{Row}
use Rattle.rv_decode.specs.Rows.{rows, fits, has_fields, operands_of, read_by, name_by, decode_of, lui_rows, auipc_rows, jal_rows, jalr_rows, branch_rows, load_rows, store_rows, immediate_rows, shift_rows, register_rows, immediate_word_rows, shift_word_rows, register_word_rows, fence_rows, system_rows, reserve_rows, atomic_rows}

-- the rows of one opcode
abbrev pub with_opcode : ℕ → List Row → List Row
with_opcode k rs = filter (λ r. k == r.opcode) rs

-- the word has the fields that the row's own format asks for
abbrev pub has_own_fields : ℕ → Row → Bool
has_own_fields word r = has_fields r.format r word

-- of a word only the rows of its opcode are left to test, by their other fields
find_own : (word : ℕ) (rs : List Row) → find (fits word) rs ≡ find (has_own_fields word) (with_opcode (opcode_of word) rs)
find_own word [] = refl
find_own word (r ∷ rs) =
    let rest = find_own word rs in
    let left : List Row = with_opcode (opcode_of word) rs in
    ap (λ o. cond ((opcode_of word == r.opcode) && has_own_fields word r) (Some r) o) rest
    ∙ elim (opcode_of word == r.opcode) as (λ b. cond (b && has_own_fields word r) (Some r) (find (has_own_fields word) left) ≡ find (has_own_fields word) (cond b (r ∷ left) left)) [
      | true ↦ refl
      | false ↦ refl
    ]

find_opcode : (k word : ℕ) → opcode_of word ≡ k → (rs : List Row) → find (fits word) rs ≡ find (has_own_fields word) (with_opcode k rs)
find_opcode k word h rs =
    subst (λ o. find (fits word) rs ≡ find (has_own_fields word) (with_opcode o rs)) h (find_own word rs)

-- rows of one format
abbrev pub AllOf : Format → List Row → Type 0
AllOf format [] = Unit {0}
AllOf format (r ∷ rs) = (r.format ≡ format) × AllOf format rs

-- among rows of one format the name says the rest
read_as : (format : Format) (word : ℕ) (rs : List Row) → AllOf format rs → option_map (read_by word) (find (has_own_fields word) rs) ≡ option_map (λ op. operands_of format op word) (name_by (λ r. has_fields format r word) rs)
read_as format word [] h = refl
read_as format word (r ∷ rs) h =
    let rest = read_as format word rs h.1 in
    ap (λ f. option_map (read_by word) (cond (has_fields f r word) (Some r) (find (has_own_fields word) rs))) h.0
    ∙ elim (has_fields format r word) as (λ b. option_map (read_by word) (cond b (Some r) (find (has_own_fields word) rs)) ≡ option_map (λ op. operands_of format op word) (option_map (λ x. x.name) (cond b (Some r) (find (λ x. has_fields format x word) rs)))) [
      | true ↦ ap (λ f. Some (operands_of f r.name word)) h.0
      | false ↦ rest
    ]

-- what the rows of one format make of a word
abbrev pub named_as : Format → List Row → ℕ → Option Instr
named_as format rs word =
    option_map (λ op. operands_of format op word) (name_by (λ r. has_fields format r word) rs)

-- a word whose opcode has rows of one format
decode_group : (format : Format) (k word : ℕ) (rs : List Row) → opcode_of word ≡ k → with_opcode k rows ≡ rs → AllOf format rs → decode_of word ≡ named_as format rs word
unfolding decode_of
decode_group format k word rs h e all =
    ap (option_map (read_by word)) (find_opcode k word h rows ∙ ap (find (has_own_fields word)) e) ∙ read_as format word rs all

option_map-option_or : {A B : Type 0} (f : A → B) (x y : Option A) → option_map f (option_or x y) ≡ option_or (option_map f x) (option_map f y)
option_map-option_or f None y = refl
option_map-option_or f (Some x) y = refl

-- a word whose opcode has rows of two formats
decode_groups : (one two : Format) (k word : ℕ) (rs qs : List Row) → opcode_of word ≡ k → with_opcode k rows ≡ rs ++ qs → AllOf one rs → AllOf two qs → decode_of word ≡ option_or (named_as one rs word) (named_as two qs word)
unfolding decode_of
decode_groups one two k word rs qs h e all_one all_two =
    ap (option_map (read_by word)) (find_opcode k word h rows ∙ ap (find (has_own_fields word)) e ∙ find-append (has_own_fields word) rs qs)
    ∙ option_map-option_or (read_by word) (find (has_own_fields word) rs) (find (has_own_fields word) qs)
    ∙ ap (λ o. option_or o (option_map (read_by word) (find (has_own_fields word) qs))) (read_as one word rs all_one)
    ∙ ap (option_or (named_as one rs word)) (read_as two word qs all_two)

pub decode_lui : (word : ℕ) → opcode_of word ≡ 0b0110111 → decode_of word ≡ named_as Upper lui_rows word
unfolding rows
decode_lui word h = decode_group Upper 0b0110111 word lui_rows h refl (refl, tt)

pub decode_auipc : (word : ℕ) → opcode_of word ≡ 0b0010111 → decode_of word ≡ named_as Upper auipc_rows word
unfolding rows
decode_auipc word h = decode_group Upper 0b0010111 word auipc_rows h refl (refl, tt)

pub decode_jal : (word : ℕ) → opcode_of word ≡ 0b1101111 → decode_of word ≡ named_as Jump jal_rows word
unfolding rows
decode_jal word h = decode_group Jump 0b1101111 word jal_rows h refl (refl, tt)

pub decode_jalr : (word : ℕ) → opcode_of word ≡ 0b1100111 → decode_of word ≡ named_as Immediate jalr_rows word
unfolding rows
decode_jalr word h = decode_group Immediate 0b1100111 word jalr_rows h refl (refl, tt)

pub decode_branch : (word : ℕ) → opcode_of word ≡ 0b1100011 → decode_of word ≡ named_as Branch branch_rows word
unfolding rows
decode_branch word h = decode_group Branch 0b1100011 word branch_rows h refl (refl, (refl, (refl, (refl, (refl, (refl, tt))))))

pub decode_load : (word : ℕ) → opcode_of word ≡ 0b0000011 → decode_of word ≡ named_as Immediate load_rows word
unfolding rows
decode_load word h = decode_group Immediate 0b0000011 word load_rows h refl (refl, (refl, (refl, (refl, (refl, (refl, (refl, tt)))))))

pub decode_store : (word : ℕ) → opcode_of word ≡ 0b0100011 → decode_of word ≡ named_as Store store_rows word
unfolding rows
decode_store word h = decode_group Store 0b0100011 word store_rows h refl (refl, (refl, (refl, (refl, tt))))

pub decode_register : (word : ℕ) → opcode_of word ≡ 0b0110011 → decode_of word ≡ named_as Register register_rows word
unfolding rows
decode_register word h = decode_group Register 0b0110011 word register_rows h refl (refl, (refl, (refl, (refl, (refl, (refl, (refl, (refl, (refl, (refl, tt))))))))))

pub decode_register_word : (word : ℕ) → opcode_of word ≡ 0b0111011 → decode_of word ≡ named_as Register register_word_rows word
unfolding rows
decode_register_word word h = decode_group Register 0b0111011 word register_word_rows h refl (refl, (refl, (refl, (refl, (refl, tt)))))

pub decode_fence : (word : ℕ) → opcode_of word ≡ 0b0001111 → decode_of word ≡ named_as Immediate fence_rows word
unfolding rows
decode_fence word h = decode_group Immediate 0b0001111 word fence_rows h refl (refl, tt)

pub decode_system : (word : ℕ) → opcode_of word ≡ 0b1110011 → decode_of word ≡ named_as Whole system_rows word
unfolding rows
decode_system word h = decode_group Whole 0b1110011 word system_rows h refl (refl, (refl, tt))

pub decode_immediate : (word : ℕ) → opcode_of word ≡ 0b0010011 → decode_of word ≡ option_or (named_as Immediate immediate_rows word) (named_as Shift shift_rows word)
unfolding rows
decode_immediate word h = decode_groups Immediate Shift 0b0010011 word immediate_rows shift_rows h refl (refl, (refl, (refl, (refl, (refl, (refl, tt)))))) (refl, (refl, (refl, tt)))

pub decode_immediate_word : (word : ℕ) → opcode_of word ≡ 0b0011011 → decode_of word ≡ option_or (named_as Immediate immediate_word_rows word) (named_as ShiftWord shift_word_rows word)
unfolding rows
decode_immediate_word word h = decode_groups Immediate ShiftWord 0b0011011 word immediate_word_rows shift_word_rows h refl (refl, tt) (refl, (refl, (refl, tt)))

pub decode_reserve : (word : ℕ) → opcode_of word ≡ 0b0101111 → decode_of word ≡ option_or (named_as Reserve reserve_rows word) (named_as Atomic atomic_rows word)
unfolding rows
decode_reserve word h = decode_groups Reserve Atomic 0b0101111 word reserve_rows atomic_rows h refl (refl, (refl, tt)) (refl, (refl, (refl, (refl, (refl, (refl, (refl, (refl, (refl, (refl, (refl, (refl, (refl, (refl, (refl, (refl, (refl, (refl, (refl, (refl, tt))))))))))))))))))))

-- the opcodes that have rows
abbrev pub opcodes : List ℕ
opcodes =
    0b0110111 ∷ 0b0010111 ∷ 0b1101111 ∷ 0b1100111 ∷ 0b1100011 ∷ 0b0000011 ∷ 0b0100011 ∷ 0b0010011 ∷ 0b0110011 ∷ 0b0011011 ∷ 0b0111011 ∷ 0b0001111 ∷ 0b1110011 ∷ 0b0101111 ∷ []

-- a row has one of these opcodes
abbrev pub is_known : Row → Bool
is_known r = list_any (eqb r.opcode) opcodes

other_opcode : (k o : ℕ) → list_any (eqb k) opcodes ≡ false → list_any (eqb o) opcodes ≡ true → eqb k o ≡ false
other_opcode k o h known =
    let both : (b : Bool) → eqb k o ≡ b → eqb k o ≡ false =
    λ b. elim b as (λ v. eqb k o ≡ v → eqb k o ≡ false) [
      | true ↦ λ e.
          absurd
          (false≢true
          (sym h ∙ subst (λ x. list_any (eqb x) opcodes ≡ true) (sym (eqb-true k o e)) known))
      | false ↦ λ e. e
    ] in
    both (eqb k o) refl

pub first_true : (a b : Bool) → (a && b) ≡ true → a ≡ true
first_true true b h = refl
first_true false b h = h

pub second_true : (a b : Bool) → (a && b) ≡ true → b ≡ true
second_true true b h = h
second_true false b h = absurd (false≢true h)

no_row : (k : ℕ) → list_any (eqb k) opcodes ≡ false → (rs : List Row) → list_all is_known rs ≡ true → with_opcode k rs ≡ []
no_row k h [] all = refl
no_row k h (r ∷ rs) all =
    let here : is_known r ≡ true = first_true (is_known r) (list_all is_known rs) all in
    let rest : list_all is_known rs ≡ true = second_true (is_known r) (list_all is_known rs) all in
    rw (other_opcode k r.opcode h here) (no_row k h rs rest)

-- a word of another opcode has no row
pub decode_none : (k word : ℕ) → opcode_of word ≡ k → list_any (eqb k) opcodes ≡ false → decode_of word ≡ None
unfolding decode_of rows
decode_none k word e h =
    ap (option_map (read_by word)) (find_opcode k word e rows ∙ ap (find (has_own_fields word)) (no_row k h rows refl))
