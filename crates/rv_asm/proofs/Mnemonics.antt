-- Each mnemonic names its instruction and its ordering. Each of these facts is computed for every instruction.
use Rattle.std.specs.Prelude.{codes}
use Rattle.std.specs.List.{list_all}
use Rattle.std.proofs.Common.{◌≡◌, ℕ, Bool, true, false, cond, List, [], ◌∷◌, ◌++◌, length, ◌<◌, ◌==◌, ◌||◌, ◌&&◌, arith, refl, ap, length-append, None, Some}
use Rattle.std.proofs.Math.Path.{◌∙◌}
use Rattle.rv_decode.specs.declared.Op.{Op}
use Rattle.rv_decode.specs.declared.Op.TheVariants.{Lui}
use Rattle.rv_decode.specs.Words.{row_of}
use Rattle.rv_asm.specs.declared.names.Mnemonic.TheVariants.{Named}
use Rattle.rv_asm.specs.Syntax.{is_digit, is_letter, is_name_byte, is_mnemonic_byte, is_word_byte, is_mnemonic}
use Rattle.rv_asm.proofs.Written.{IsWord, all_append}
use Rattle.rv_asm.specs.Names.{name_of, ops, form_of, has_ordering, order, ordering_text, ordering_of, mnemonic_in}

named_plain : (op : Op) → mnemonic_in (name_of op ++ []) ≡ Some (Named op (order false false))
unfolding mnemonic_in ordering_of name_of ops form_of row_of
named_plain Lui = refl
named_plain _ = refl

named_acquire : (op : Op) → mnemonic_in (name_of op ++ codes ".aq") ≡ cond (has_ordering (form_of op)) (Some (Named op (order true false))) None
unfolding mnemonic_in ordering_of name_of ops form_of row_of
named_acquire Lui = refl
named_acquire _ = refl

named_release : (op : Op) → mnemonic_in (name_of op ++ codes ".rl") ≡ cond (has_ordering (form_of op)) (Some (Named op (order false true))) None
unfolding mnemonic_in ordering_of name_of ops form_of row_of
named_release Lui = refl
named_release _ = refl

named_both : (op : Op) → mnemonic_in (name_of op ++ codes ".aqrl") ≡ cond (has_ordering (form_of op)) (Some (Named op (order true true))) None
unfolding mnemonic_in ordering_of name_of ops form_of row_of
named_both Lui = refl
named_both _ = refl

-- an ordering stands only where the instruction may have one
abbrev pub MayStand : Op → Bool → Bool → Type 0
MayStand op false false = Unit {0}
MayStand op true false = has_ordering (form_of op) ≡ true
MayStand op false true = has_ordering (form_of op) ≡ true
MayStand op true true = has_ordering (form_of op) ≡ true

pub named : (op : Op) (aq rl : Bool) → MayStand op aq rl → mnemonic_in (name_of op ++ ordering_text aq rl) ≡ Some (Named op (order aq rl))
named op false false h = named_plain op
named op true false h = named_acquire op ∙ ap (λ (b : Bool). cond b (Some (Named op (order true false))) None) h
named op false true h = named_release op ∙ ap (λ (b : Bool). cond b (Some (Named op (order false true))) None) h
named op true true h = named_both op ∙ ap (λ (b : Bool). cond b (Some (Named op (order true true))) None) h

-- the bytes of a mnemonic
name_word : (op : Op) → list_all is_word_byte (name_of op) ≡ true
unfolding name_of is_word_byte is_name_byte is_letter is_digit
name_word Lui = refl
name_word _ = refl

name_mnemonic : (op : Op) → is_mnemonic (name_of op) ≡ true
unfolding name_of is_mnemonic_byte is_name_byte is_letter is_digit
name_mnemonic Lui = refl
name_mnemonic _ = refl

pub name_some : (op : Op) → 0 < length (name_of op)
unfolding name_of
name_some Lui = omega arith
name_some _ = omega arith

pub ordering_word : (aq rl : Bool) → list_all is_word_byte (ordering_text aq rl) ≡ true
unfolding is_word_byte is_name_byte is_letter is_digit
ordering_word false false = refl
ordering_word true false = refl
ordering_word false true = refl
ordering_word true true = refl

pub ordering_mnemonic : (aq rl : Bool) → list_all is_mnemonic_byte (ordering_text aq rl) ≡ true
unfolding is_mnemonic_byte is_name_byte is_letter is_digit
ordering_mnemonic false false = refl
ordering_mnemonic true false = refl
ordering_mnemonic false true = refl
ordering_mnemonic true true = refl

pub mnemonic_word : (op : Op) (aq rl : Bool) → IsWord (name_of op ++ ordering_text aq rl)
mnemonic_word op aq rl =
    let some : 0 < length (name_of op) = name_some op in
    record { bytes = all_append is_word_byte (name_of op) (ordering_text aq rl) (name_word op) (ordering_word aq rl); some = omega (arith, length-append (name_of op) (ordering_text aq rl)) }

pub mnemonic_is : (op : Op) (aq rl : Bool) → is_mnemonic (name_of op ++ ordering_text aq rl) ≡ true
mnemonic_is op aq rl = longer (name_of op) (name_mnemonic op)
  where
    longer : (xs : List ℕ) → is_mnemonic xs ≡ true → is_mnemonic (xs ++ ordering_text aq rl) ≡ true
    longer [] h = absurd (cc)
    longer (x ∷ xs) h = go (is_letter x || (x == 46)) h
      where
        go : (b : Bool) → (b && list_all is_mnemonic_byte xs) ≡ true → (b && list_all is_mnemonic_byte (xs ++ ordering_text aq rl)) ≡ true
        go true k = all_append is_mnemonic_byte xs (ordering_text aq rl) k (ordering_mnemonic aq rl)
        go false k = absurd (cc)
