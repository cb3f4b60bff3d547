-- What stands next in a text: blanks add nothing, a word is as long as can be, and any other byte is a mark.
use Rattle.std.proofs.Common.{◌≡◌, ℕ, ◌<◌, ◌≤◌, ◌==◌, ◌||◌, Bool, true, false, cond, List, [], ◌∷◌, length, take, drop, arith, refl, sym, ap, ap₂, eqb-true, length-take}
use Rattle.std.proofs.Math.Path.{◌∙◌}
use Rattle.rv_asm.specs.Syntax.{Word, is_blank, is_digit, is_letter, is_name_byte, is_word_byte, begins_blank, mark_of, lexed, with_mark, with_word, word_at, tokens_after, tokens_of}

-- a blank is no part of a word
pub blank_ends : (c : ℕ) → is_blank c ≡ true → is_word_byte c ≡ false
unfolding is_blank is_word_byte is_name_byte is_letter is_digit
blank_ends c h = either ((c == 32) || (c == 9)) h
  where
    either : (b : Bool) → ((c == 32) || (c == 9)) ≡ true → is_word_byte c ≡ false
    either b e = split (c == 32) refl e
      where
        split : (b : Bool) → (c == 32) ≡ b → (b || (c == 9)) ≡ true → is_word_byte c ≡ false
        split true is k = let same : c ≡ 32 = eqb-true c 32 is in rw same refl
        split false is k = let same : c ≡ 9 = eqb-true c 9 k in rw same refl

pub tokens_blank : (c : ℕ) (cs : List ℕ) → is_blank c ≡ true → tokens_of (c ∷ cs) ≡ tokens_of cs
unfolding tokens_of
tokens_blank c cs h = let out : is_word_byte c ≡ false = blank_ends c h in rw (out, h) refl

pub tokens_mark : (c : ℕ) (cs : List ℕ) → is_blank c ≡ false → is_word_byte c ≡ false → tokens_of (c ∷ cs) ≡ lexed (mark_of c) [] (tokens_of cs)
unfolding tokens_of
tokens_mark c cs h out = rw (out, h) refl

pub skip_blank : (xs : List ℕ) → begins_blank xs ≡ true → tokens_of (drop 1 xs) ≡ tokens_of xs
skip_blank [] h = absurd (cc)
skip_blank (c ∷ cs) h = sym (tokens_blank c cs h)

pub skip_shorter : (xs : List ℕ) → begins_blank xs ≡ true → length (drop 1 xs) < length xs
skip_shorter [] h = absurd (cc)
skip_shorter (c ∷ cs) h = omega arith

-- after the word that a text begins with
after_word_at : (xs : List ℕ) → tokens_after xs ≡ tokens_of (drop (length (word_at xs)) xs)
unfolding tokens_of
after_word_at [] = refl
after_word_at (c ∷ cs) = go (is_word_byte c) refl (after_word_at cs)
  where
    go : (b : Bool) → is_word_byte c ≡ b → tokens_after cs ≡ tokens_of (drop (length (word_at cs)) cs) →
        cond b (tokens_after cs) (with_mark c (with_word (word_at cs) (tokens_after cs))) ≡ tokens_of (drop (length (cond b (c ∷ word_at cs) [])) (c ∷ cs))
    go true is later = later
    go false is later = rw is refl

-- a text that begins with a word
pub word_begins : (text rest w : List ℕ) → w ≡ word_at text → 0 < length w → tokens_after text ≡ tokens_of rest → tokens_of text ≡ Word w ∷ tokens_of rest
unfolding tokens_of
word_begins text rest [] e lt h = absurd (omega arith)
word_begins text rest (c ∷ cs) e lt h = ap₂ with_word (sym e) h

-- the first word of a text
pub word_first : (text word rest : List ℕ) (n : ℕ) → n ≤ length text → take n text ≡ word_at text → word ≡ take n text → rest ≡ drop n text → 0 < length word → tokens_of text ≡ Word word ∷ tokens_of rest
word_first text word rest n le is w r some =
    let same : word ≡ word_at text = w ∙ is in
    let long : n ≡ length (word_at text) = omega (arith, length-take n text, ap length is) in
    let after : tokens_after text ≡ tokens_of rest = after_word_at text ∙ ap tokens_of (sym (r ∙ ap (λ (k : ℕ). drop k text) long)) in
    word_begins text rest word same some after

pub nil : (xs : List ℕ) → length xs ≡ 0 → xs ≡ []
nil [] e = refl
nil (x ∷ xs) e = absurd (omega arith)

-- a text with no word at its beginning
none_at : (text word : List ℕ) (n : ℕ) → n ≤ length text → take n text ≡ word_at text → word ≡ take n text → length word ≡ 0 → (word_at text ≡ []) × (n ≡ 0) × (word ≡ [])
none_at text word n le is w none =
    let empty : word ≡ [] = nil word none in
    (sym (w ∙ is) ∙ empty, omega (arith, length-take n text, ap length w), empty)

pub no_tokens : tokens_of [] ≡ []
unfolding tokens_of
no_tokens = refl

pub nothing_left : (text word rest : List ℕ) (n : ℕ) → n ≤ length text → take n text ≡ word_at text → word ≡ take n text → rest ≡ drop n text → length word ≡ 0 → rest ≡ [] → tokens_of text ≡ []
nothing_left text word rest n le is w r none empty =
    let e = none_at text word n le is w none in
    let whole : text ≡ [] = ap (λ (k : ℕ). drop k text) (sym e.1) ∙ (sym r ∙ empty) in
    ap tokens_of whole ∙ no_tokens

pub mark_first : (text word rest : List ℕ) (n c : ℕ) (cs : List ℕ) → n ≤ length text → take n text ≡ word_at text → word ≡ take n text → rest ≡ drop n text → length word ≡ 0 → rest ≡ c ∷ cs → begins_blank text ≡ false → tokens_of text ≡ lexed (mark_of c) word (tokens_of cs)
mark_first text word rest n c cs le is w r none begins clear =
    let e = none_at text word n le is w none in
    let whole : text ≡ c ∷ cs = ap (λ (k : ℕ). drop k text) (sym e.1) ∙ (sym r ∙ begins) in
    let out : is_word_byte c ≡ false = ends (is_word_byte c) refl (sym (ap word_at whole) ∙ e.0) in
    ap tokens_of whole ∙ (tokens_mark c cs (sym (ap begins_blank whole) ∙ clear) out ∙ ap (λ (v : List ℕ). lexed (mark_of c) v (tokens_of cs)) (sym e.2))
  where
    ends : (b : Bool) → is_word_byte c ≡ b → cond b (c ∷ word_at cs) [] ≡ [] → is_word_byte c ≡ false
    ends true is h = absurd (cc)
    ends false is h = is
