-- No word fits two rows: one computation over the pairs of the table.
use Rattle.std.proofs.Common.{◌≡◌, ℕ, ◌-◌, ◌≤◌, Bool, true, false, not, ◌&&◌, ◌||◌, ◌==◌, List, [], ◌∷◌, length, refl, ap, sym, subst, ◌∙◌, arith}
use Rattle.std.specs.List.{list_all, filter}
use Rattle.std.proofs.lemmas.Bool.{eqb-true, eq-eqb, false≢true}
use Rattle.rv_decode.specs.declared.Format.{Format}
use Rattle.rv_decode.specs.declared.Format.TheVariants.{Register, Immediate, Shift, ShiftWord, Store, Branch, Upper, Jump, Whole, Reserve, Atomic}
use Rattle.rv_decode.specs.declared.Row.{Row}
use Rattle.rv_decode.specs.Fields.{bits_of, opcode_of, funct3_of}
use Rattle.rv_decode.specs.Rows.{rows, fits, has_fields, NoWordTwice}
use Rattle.rv_decode.specs.Words.{above_from}
use Rattle.rv_decode.proofs.Groups.{first_true, second_true}

-- the format's rows are told apart by funct3
abbrev has_funct3 : Format → Bool
has_funct3 Register = true
has_funct3 Immediate = true
has_funct3 Shift = true
has_funct3 ShiftWord = true
has_funct3 Store = true
has_funct3 Branch = true
has_funct3 Upper = false
has_funct3 Jump = false
has_funct3 Whole = false
has_funct3 Reserve = true
has_funct3 Atomic = true

-- two rows that no word fits both of: they differ in the opcode, in funct3 or in the field above
abbrev is_apart : Row → Row → Bool
is_apart r q =
    not (r.opcode == q.opcode)
    || (((has_funct3 r.format && has_funct3 q.format) && not (r.funct3 == q.funct3))
    || (((not (above_from r.format == 0)) && (above_from r.format == above_from q.format)) && not (r.above == q.above)))

abbrev are_apart : List Row → Bool
are_apart [] = true
are_apart (r ∷ rs) = list_all (is_apart r) rs && are_apart rs

all_apart : are_apart rows ≡ true
unfolding rows
all_apart = refl

-- ---- what a word that fits a row has

funct3_fits : (format : Format) (r : Row) (word : ℕ) → has_funct3 format ≡ true → has_fields format r word ≡ true → funct3_of word ≡ r.funct3
funct3_fits Register r word k h = eqb-true _ _ (first_true _ _ h)
funct3_fits Immediate r word k h = eqb-true _ _ h
funct3_fits Shift r word k h = eqb-true _ _ (first_true _ _ h)
funct3_fits ShiftWord r word k h = eqb-true _ _ (first_true _ _ h)
funct3_fits Store r word k h = eqb-true _ _ h
funct3_fits Branch r word k h = eqb-true _ _ h
funct3_fits Upper r word k h = absurd (false≢true k)
funct3_fits Jump r word k h = absurd (false≢true k)
funct3_fits Whole r word k h = absurd (false≢true k)
funct3_fits Reserve r word k h = eqb-true _ _ (first_true _ _ h)
funct3_fits Atomic r word k h = eqb-true _ _ (first_true _ _ h)

-- the bits from one place to the top
abbrev upper_bits : ℕ → ℕ → ℕ
upper_bits from word = bits_of word from (32 - from)

above_fits : (format : Format) (r : Row) (word : ℕ) → not (above_from format == 0) ≡ true → has_fields format r word ≡ true → upper_bits (above_from format) word ≡ r.above
above_fits Register r word k h = eqb-true _ _ (second_true _ _ h)
above_fits Immediate r word k h = absurd (false≢true k)
above_fits Shift r word k h = eqb-true _ _ (second_true _ _ h)
above_fits ShiftWord r word k h = eqb-true _ _ (second_true _ _ h)
above_fits Store r word k h = absurd (false≢true k)
above_fits Branch r word k h = absurd (false≢true k)
above_fits Upper r word k h = absurd (false≢true k)
above_fits Jump r word k h = absurd (false≢true k)
above_fits Whole r word k h = eqb-true _ _ (second_true _ _ h)
above_fits Reserve r word k h = eqb-true _ _ (first_true _ _ (second_true _ _ h))
above_fits Atomic r word k h = eqb-true _ _ (second_true _ _ h)

same_not_apart : (a b : ℕ) → a ≡ b → not (a == b) ≡ true → ⊥
same_not_apart a b e h = false≢true (sym (ap not (eq-eqb a b e)) ∙ h)

-- either part of an "or" that is true
or_cases : {P : Type 0} (a b : Bool) → (a || b) ≡ true → (a ≡ true → P) → (b ≡ true → P) → P
or_cases true b h one two = one refl
or_cases false b h one two = two h

not_both : (word : ℕ) (r q : Row) → is_apart r q ≡ true → fits word r ≡ true → fits word q ≡ true → ⊥
not_both word r q apart hr hq =
    let opcode_r = eqb-true (opcode_of word) r.opcode (first_true _ (has_fields r.format r word) hr) in
    let opcode_q = eqb-true (opcode_of word) q.opcode (first_true _ (has_fields q.format q word) hq) in
    let fields_r : has_fields r.format r word ≡ true = second_true (opcode_of word == r.opcode) _ hr in
    let fields_q : has_fields q.format q word ≡ true = second_true (opcode_of word == q.opcode) _ hq in
    or_cases (not (r.opcode == q.opcode)) _ apart
    (λ d. same_not_apart r.opcode q.opcode (sym opcode_r ∙ opcode_q) d)
    (λ rest. or_cases ((has_funct3 r.format && has_funct3 q.format) && not (r.funct3 == q.funct3)) _ rest
    (λ d. let kinds = first_true (has_funct3 r.format && has_funct3 q.format) _ d in
    same_not_apart r.funct3 q.funct3
    (sym (funct3_fits r.format r word (first_true _ (has_funct3 q.format) kinds) fields_r)
    ∙ funct3_fits q.format q word (second_true (has_funct3 r.format) _ kinds) fields_q)
    (second_true (has_funct3 r.format && has_funct3 q.format) _ d))
    (λ d. let kinds = first_true (not (above_from r.format == 0) && (above_from r.format == above_from q.format)) _ d in
    let some : not (above_from r.format == 0) ≡ true = first_true _ (above_from r.format == above_from q.format) kinds in
    let same : above_from r.format ≡ above_from q.format = eqb-true _ _ (second_true (not (above_from r.format == 0)) _ kinds) in
    same_not_apart r.above q.above
    (sym (above_fits r.format r word some fields_r)
    ∙ ap (λ x. upper_bits x word) same
    ∙ above_fits q.format q word (subst (λ x. not (x == 0) ≡ true) same some) fields_q)
    (second_true (not (above_from r.format == 0) && (above_from r.format == above_from q.format)) _ d)))

-- ---- the whole table

none_after : (word : ℕ) (r : Row) (rs : List Row) → fits word r ≡ true → list_all (is_apart r) rs ≡ true → filter (fits word) rs ≡ []
none_after word r [] h apart = refl
none_after word r (q ∷ rs) h apart =
    let both : (b : Bool) → fits word q ≡ b → fits word q ≡ false =
    λ b. elim b as (λ v. fits word q ≡ v → fits word q ≡ false) [
      | true ↦ λ e. absurd (not_both word r q (first_true (is_apart r q) _ apart) h e)
      | false ↦ λ e. e
    ] in
    rw (both (fits word q) refl) (none_after word r rs h (second_true (is_apart r q) _ apart))

one_at_most : (word : ℕ) (rs : List Row) → are_apart rs ≡ true → length (filter (fits word) rs) ≤ 1
one_at_most word [] h = omega arith
one_at_most word (r ∷ rs) h =
    let both : (b : Bool) → fits word r ≡ b → length (filter (fits word) (r ∷ rs)) ≤ 1 =
    λ b. elim b as (λ v. fits word r ≡ v → length (filter (fits word) (r ∷ rs)) ≤ 1) [
      | true ↦ λ e. rw e (let none = none_after word r rs e (first_true (list_all (is_apart r) rs) _ h) in rw none (omega arith))
      | false ↦ λ e. rw e (one_at_most word rs (second_true (list_all (is_apart r) rs) _ h))
    ] in
    both (fits word r) refl

-- no word fits two rows
pub no_word_twice : NoWordTwice
no_word_twice word = one_at_most word rows all_apart
