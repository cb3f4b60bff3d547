-- What the printer writes is read as the same tokens.
use Rattle.std.specs.List.{list_all}
use Rattle.std.proofs.Common.{◌≡◌, ℕ, ◌≤◌, ◌==◌, ◌&&◌, Bool, true, false, cond, not, List, [], ◌∷◌, ◌++◌, arith, refl, sym, ap}
use Rattle.std.proofs.Math.Path.{◌∙◌}
use Rattle.std.proofs.lemmas.Bool.Decides.{nat_tests}
use Rattle.rv_asm.specs.Syntax.{Token, Word, Comma, Open, Close, Colon, Other, is_blank, is_clean, is_digit, is_letter, is_name_byte, is_word_byte, mark_of, lexed, with_mark, with_word, word_at, tokens_after, tokens_of, uncommented}
use Rattle.rv_asm.specs.Source.{lines_of, before_lines}
use Rattle.rv_asm.specs.Printed.{tokens_text, spaced}
use Rattle.rv_asm.proofs.Tokens.{tokens_blank, tokens_mark, word_begins}
use Rattle.rv_asm.proofs.Written.{IsWord, all_append, all_so, first_all}

-- ------------------------------------------------------------------------------ tokens

word_at_word : (w x : List ℕ) → list_all is_word_byte w ≡ true → word_at x ≡ [] → word_at (w ++ x) ≡ w
word_at_word [] x h none = none
word_at_word (c ∷ cs) x h none = go (is_word_byte c) h (word_at_word cs x)
  where
    go : (b : Bool) → (b && list_all is_word_byte cs) ≡ true → (list_all is_word_byte cs ≡ true → word_at x ≡ [] → word_at (cs ++ x) ≡ cs) → cond b (c ∷ word_at (cs ++ x)) [] ≡ c ∷ cs
    go true k later = ap (λ (l : List ℕ). c ∷ l) (later k none)
    go false k later = absurd (cc)

after_word : (w x : List ℕ) → list_all is_word_byte w ≡ true → tokens_after (w ++ x) ≡ tokens_after x
after_word [] x h = refl
after_word (c ∷ cs) x h = go (is_word_byte c) h (after_word cs x)
  where
    go : (b : Bool) → (b && list_all is_word_byte cs) ≡ true → (list_all is_word_byte cs ≡ true → tokens_after (cs ++ x) ≡ tokens_after x) →
        cond b (tokens_after (cs ++ x)) (with_mark c (with_word (word_at (cs ++ x)) (tokens_after (cs ++ x)))) ≡ tokens_after x
    go true k later = later k
    go false k later = absurd (cc)

-- a word before what doesn't begin with one
pub word_then : (w x : List ℕ) → IsWord w → word_at x ≡ [] → tokens_of (w ++ x) ≡ Word w ∷ tokens_of x
unfolding tokens_of
word_then w x is none =
    let rest : tokens_after (w ++ x) ≡ tokens_of x = after_word w x is.bytes ∙ ap (λ (v : List ℕ). with_word v (tokens_after x)) (sym none) in
    word_begins (w ++ x) x w (sym (word_at_word w x is.bytes none)) is.some rest

-- tokens that stand apart: no word is followed by a word, and there is no colon
abbrev pub Apart : List Token → Type 0
Apart [] = Unit {0}
Apart (Word w ∷ ts) = ⊥
Apart (Comma ∷ ts) = Unit {0}
Apart (Open ∷ ts) = Unit {0}
Apart (Close ∷ ts) = Unit {0}
Apart (Colon ∷ ts) = ⊥
Apart (Other ∷ ts) = ⊥

abbrev pub Fine : List Token → Type 0
Fine [] = Unit {0}
Fine (Word w ∷ ts) = IsWord w × Apart ts × Fine ts
Fine (Comma ∷ ts) = Fine ts
Fine (Open ∷ ts) = Fine ts
Fine (Close ∷ ts) = Fine ts
Fine (Colon ∷ ts) = ⊥
Fine (Other ∷ ts) = ⊥

apart_at : (ts : List Token) → Apart ts → word_at (tokens_text ts) ≡ []
unfolding is_word_byte is_name_byte is_letter is_digit
apart_at [] h = refl
apart_at (Word w ∷ ts) h = absurd h
apart_at (Comma ∷ ts) h = refl
apart_at (Open ∷ ts) h = refl
apart_at (Close ∷ ts) h = refl
apart_at (Colon ∷ ts) h = absurd h
apart_at (Other ∷ ts) h = absurd h

mark_then : (c : ℕ) (x : List ℕ) → is_blank c ≡ false → is_word_byte c ≡ false → tokens_of (c ∷ x) ≡ lexed (mark_of c) [] (tokens_of x)
mark_then c x h k = tokens_mark c x h k

pub tokens_read : (ts : List Token) → Fine ts → tokens_of (tokens_text ts) ≡ ts
unfolding is_word_byte is_name_byte is_letter is_digit is_blank tokens_of
tokens_read [] h = refl
tokens_read (Word w ∷ ts) h = word_then w (tokens_text ts) h.0 (apart_at ts h.1) ∙ ap (λ (l : List Token). Word w ∷ l) (tokens_read ts h.2)
tokens_read (Comma ∷ ts) h = mark_then 44 (tokens_text ts) refl refl ∙ ap (λ (l : List Token). Comma ∷ l) (tokens_read ts h)
tokens_read (Open ∷ ts) h = mark_then 40 (tokens_text ts) refl refl ∙ ap (λ (l : List Token). Open ∷ l) (tokens_read ts h)
tokens_read (Close ∷ ts) h = mark_then 41 (tokens_text ts) refl refl ∙ ap (λ (l : List Token). Close ∷ l) (tokens_read ts h)
tokens_read (Colon ∷ ts) h = absurd h
tokens_read (Other ∷ ts) h = absurd h

-- a mnemonic and its operands
pub statement_read : (m : List ℕ) (ts : List Token) → IsWord m → Fine ts → tokens_of (m ++ spaced ts) ≡ Word m ∷ ts
unfolding is_word_byte is_name_byte is_letter is_digit is_blank tokens_of
statement_read m [] is h = word_then m [] is refl
statement_read m (t ∷ ts) is h =
    word_then m (32 ∷ tokens_text (t ∷ ts)) is refl ∙ ap (λ (l : List Token). Word m ∷ l) (tokens_blank 32 (tokens_text (t ∷ ts)) refl ∙ tokens_read (t ∷ ts) h)

-- ------------------------------------------------------------------------------ bytes

-- a byte that stands in no comment and ends no line
abbrev pub is_plain : ℕ → Bool
is_plain c = is_clean c && (not (c == 35) && not (c == 10))

word_plain : (c : ℕ) → is_word_byte c ≡ true → is_plain c ≡ true
unfolding is_word_byte is_name_byte is_letter is_digit is_clean is_blank
word_plain c h =
    let low : 45 ≤ c = grind (arith, nat_tests) in
    let high : c ≤ 122 = grind (arith, nat_tests) in
    grind (arith, nat_tests)

tokens_plain : (ts : List Token) → Fine ts → list_all is_plain (tokens_text ts) ≡ true
unfolding is_clean is_blank
tokens_plain [] h = refl
tokens_plain (Word w ∷ ts) h = all_append is_plain w (tokens_text ts) (all_so is_word_byte is_plain word_plain w (h.0).bytes) (tokens_plain ts h.2)
tokens_plain (Comma ∷ ts) h = tokens_plain ts h
tokens_plain (Open ∷ ts) h = tokens_plain ts h
tokens_plain (Close ∷ ts) h = tokens_plain ts h
tokens_plain (Colon ∷ ts) h = absurd h
tokens_plain (Other ∷ ts) h = absurd h

pub statement_plain : (m : List ℕ) (ts : List Token) → IsWord m → Fine ts → list_all is_plain (m ++ spaced ts) ≡ true
unfolding is_clean is_blank
statement_plain m [] is h = all_append is_plain m [] (all_so is_word_byte is_plain word_plain m is.bytes) refl
statement_plain m (t ∷ ts) is h = all_append is_plain m (32 ∷ tokens_text (t ∷ ts)) (all_so is_word_byte is_plain word_plain m is.bytes) (tokens_plain (t ∷ ts) h)

plain_parts : (c : ℕ) → is_plain c ≡ true → (is_clean c ≡ true) × ((c == 35) ≡ false) × ((c == 10) ≡ false)
plain_parts c h = go (is_clean c) (c == 35) (c == 10) h
  where
    go : (a b d : Bool) → (a && (not b && not d)) ≡ true → (a ≡ true) × (b ≡ false) × (d ≡ false)
    go true false false k = (refl, refl, refl)
    go true false true k = absurd (cc)
    go true true d k = absurd (cc)
    go false b d k = absurd (cc)

pub plain_clean : (xs : List ℕ) → list_all is_plain xs ≡ true → list_all is_clean xs ≡ true
plain_clean xs h = all_so is_plain is_clean (λ c k. (plain_parts c k).0) xs h

rest_all : (p : ℕ → Bool) (x : ℕ) (xs : List ℕ) → (p x && list_all p xs) ≡ true → list_all p xs ≡ true
rest_all p x xs h = go (p x) h
  where
    go : (b : Bool) → (b && list_all p xs) ≡ true → list_all p xs ≡ true
    go true k = k
    go false k = absurd (cc)

pub plain_whole : (xs : List ℕ) → list_all is_plain xs ≡ true → uncommented xs ≡ xs
plain_whole [] h = refl
plain_whole (c ∷ cs) h =
    let none = (plain_parts c (first_all is_plain c cs h)).1 in
    let later : uncommented cs ≡ cs = plain_whole cs (rest_all is_plain c cs h) in
    rw none (ap (λ (l : List ℕ). c ∷ l) later)

pub plain_line : (xs rest : List ℕ) → list_all is_plain xs ≡ true → lines_of (xs ++ 10 ∷ rest) ≡ xs ∷ lines_of rest
plain_line [] rest h = refl
plain_line (c ∷ cs) rest h =
    let none = (plain_parts c (first_all is_plain c cs h)).2 in
    let later : lines_of (cs ++ 10 ∷ rest) ≡ cs ∷ lines_of rest = plain_line cs rest (rest_all is_plain c cs h) in
    rw none (ap (before_lines c) later)
