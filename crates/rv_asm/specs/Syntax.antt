-- How a line is read. A line is an optional label and `:`, then an optional instruction, then an optional comment from
-- `#` to its end. Blanks, space and tab, stand anywhere between the parts, and divide words. Every other byte is a visible
-- one of ASCII, also in a comment.
use Rattle.std.specs.Prelude.{ℕ, ◌+◌, ◌-◌, ◌*◌, nat_lt, nat_le, ◌==◌, ◌&&◌, ◌||◌, Bool, false, cond, List, [], ◌∷◌, Option, None, Some, ℤ, pos, ◌-ℤ◌}
use Rattle.std.specs.List.{list_all}
use Rattle.std.specs.Option.{option_map}
use Rattle.rv_asm.specs.declared.token.Kind.{Kind}
use Rattle.rv_asm.specs.declared.token.Kind.TheVariants.{End as EndKind, Word as WordKind, Comma as CommaKind, Open as OpenKind, Close as CloseKind, Colon as ColonKind, Other as OtherKind}
use Rattle.rv_asm.specs.declared.line.Shape.{Shape}
use Rattle.rv_asm.specs.declared.line.Shape.TheVariants.{Nothing, Number, NameNumber, NameName, NameNameNumber, NameNameName, NameOffset, NameAddress, NameNameAddress}

-- ------------------------------------------------------------------------------ bytes

abbrev pub is_between : ℕ → ℕ → ℕ → Bool
is_between low high c = nat_le low c && nat_le c high

-- space or tab
unfoldable pub is_blank : ℕ → Bool
is_blank c = (c == 32) || (c == 9)

-- a blank, or a visible byte of ASCII
unfoldable pub is_clean : ℕ → Bool
is_clean c = is_blank c || is_between 33 126 c

unfoldable pub is_digit : ℕ → Bool
is_digit c = is_between 48 57 c

unfoldable pub is_hex_digit : ℕ → Bool
is_hex_digit c = is_digit c || (is_between 65 70 c || is_between 97 102 c)

-- a letter of either case, or `_`
unfoldable pub is_letter : ℕ → Bool
is_letter c = is_between 65 90 c || (is_between 97 122 c || (c == 95))

-- a byte of a label or a register
unfoldable pub is_name_byte : ℕ → Bool
is_name_byte c = is_letter c || is_digit c

-- a byte of a mnemonic
unfoldable pub is_mnemonic_byte : ℕ → Bool
is_mnemonic_byte c = is_name_byte c || (c == 46)

-- a byte of any word: those of names, `.` and `-`
unfoldable pub is_word_byte : ℕ → Bool
is_word_byte c = is_name_byte c || ((c == 46) || (c == 45))

-- ------------------------------------------------------------------------------ words

abbrev pub begins_blank : List ℕ → Bool
begins_blank [] = false
begins_blank (c ∷ cs) = is_blank c

-- a letter or `_`, then letters, digits or `_`
abbrev pub is_name : List ℕ → Bool
is_name [] = false
is_name (c ∷ cs) = is_letter c && list_all is_name_byte cs

-- the same with `.` anywhere
abbrev pub is_mnemonic : List ℕ → Bool
is_mnemonic [] = false
is_mnemonic (c ∷ cs) = (is_letter c || (c == 46)) && list_all is_mnemonic_byte cs

abbrev pub are_digits : List ℕ → Bool
are_digits [] = false
are_digits (c ∷ cs) = list_all is_digit (c ∷ cs)

abbrev pub are_hex_digits : List ℕ → Bool
are_hex_digits [] = false
are_hex_digits (c ∷ cs) = list_all is_hex_digit (c ∷ cs)

-- `0x` and hexadecimal digits
abbrev pub is_hex : List ℕ → Bool
is_hex [] = false
is_hex (c ∷ []) = false
is_hex (c ∷ d ∷ ds) = ((c == 48) && (d == 120)) && are_hex_digits ds

-- an optional `-` and decimal digits, or `0x` and hexadecimal digits
unfoldable pub is_number : List ℕ → Bool
is_number [] = false
is_number (c ∷ cs) = cond (c == 45) (are_digits cs) (are_digits (c ∷ cs) || is_hex (c ∷ cs))

-- the value of a digit
abbrev pub digit_of : ℕ → ℕ
digit_of c = cond (nat_lt c 58) (c - 48) (cond (nat_lt c 71) (c - 55) (c - 87))

-- a number with these digits after it
abbrev pub digits_from : ℕ → ℕ → List ℕ → ℕ
digits_from base n [] = n
digits_from base n (c ∷ cs) = digits_from base (n * base + digit_of c) cs

abbrev pub hex_value : List ℕ → ℕ
hex_value [] = 0
hex_value (c ∷ []) = 0
hex_value (c ∷ d ∷ ds) = digits_from 16 0 ds

-- the number that such a word is
unfoldable pub value_of : List ℕ → ℤ
value_of [] = pos 0
value_of (c ∷ cs) =
    cond (c == 45) (pos 0 -ℤ pos (digits_from 10 0 cs)) (cond (is_hex (c ∷ cs)) (pos (hex_value (c ∷ cs))) (pos (digits_from 10 0 (c ∷ cs))))

-- ------------------------------------------------------------------------------ tokens

pub data Token : Type 0 where
  -- letters, digits, `_`, `.` and `-`
  Word : List ℕ → Token
  Comma : Token
  Open : Token
  Close : Token
  Colon : Token
  -- any other byte
  Other : Token

-- a token, or the end, before others
abbrev pub lexed : Kind → List ℕ → List Token → List Token
lexed EndKind word ts = []
lexed WordKind word ts = Word word ∷ ts
lexed CommaKind word ts = Comma ∷ ts
lexed OpenKind word ts = Open ∷ ts
lexed CloseKind word ts = Close ∷ ts
lexed ColonKind word ts = Colon ∷ ts
lexed OtherKind word ts = Other ∷ ts

-- the mark that a byte is: a comma, a bracket, a colon, or another
abbrev pub mark_of : ℕ → Kind
mark_of c =
    cond (c == 44) CommaKind (cond (c == 40) OpenKind (cond (c == 41) CloseKind (cond (c == 58) ColonKind OtherKind)))

-- a byte that is no part of a word, before other tokens
abbrev pub with_mark : ℕ → List Token → List Token
with_mark c ts = cond (is_blank c) ts (lexed (mark_of c) [] ts)

abbrev pub with_word : List ℕ → List Token → List Token
with_word [] ts = ts
with_word (c ∷ cs) ts = Word (c ∷ cs) ∷ ts

-- the word that a text begins with
abbrev pub word_at : List ℕ → List ℕ
word_at [] = []
word_at (c ∷ cs) = cond (is_word_byte c) (c ∷ word_at cs) []

-- the tokens after the word that a text begins with
abbrev pub tokens_after : List ℕ → List Token
tokens_after [] = []
tokens_after (c ∷ cs) = cond (is_word_byte c) (tokens_after cs) (with_mark c (with_word (word_at cs) (tokens_after cs)))

-- the tokens of a text: words, each as long as can be, and marks
unfoldable pub tokens_of : List ℕ → List Token
tokens_of text = with_word (word_at text) (tokens_after text)

-- ------------------------------------------------------------------------------ statements

-- a mnemonic and up to three operands, as words
pub record Parts : Type 0 where
  pub mnemonic : List ℕ
  pub shape : Shape
  pub first : List ℕ
  pub second : List ℕ
  pub third : List ℕ

abbrev pub parts : List ℕ → Shape → List ℕ → List ℕ → List ℕ → Parts
parts m shape a b c = record { mnemonic = m; shape = shape; first = a; second = b; third = c }

-- `w)` at the end
abbrev pub closed : List Token → Option (List ℕ)
closed (Word c ∷ Close ∷ []) = cond (is_name c) (Some c) None
closed _ = None

-- after `w,w,`: a name, a number, or a name in brackets
abbrev pub third_word : List ℕ → List ℕ → List ℕ → List ℕ → Option Parts
third_word m a b c =
    cond (is_name c) (Some (parts m NameNameName a b c)) (cond (is_number c) (Some (parts m NameNameNumber a b c)) None)

abbrev pub third_in : List ℕ → List ℕ → List ℕ → List Token → Option Parts
third_in m a b (Word c ∷ []) = third_word m a b c
third_in m a b (Open ∷ ts) = option_map (λ c. parts m NameNameAddress a b c) (closed ts)
third_in m a b _ = None

-- after `w,` a name or a number
abbrev pub second_word : List ℕ → List ℕ → List ℕ → Option Parts
second_word m a b =
    cond (is_name b) (Some (parts m NameName a b [])) (cond (is_number b) (Some (parts m NameNumber a b [])) None)

-- after `w,` a number and a name in brackets
abbrev pub offset_in : List ℕ → List ℕ → List ℕ → List Token → Option Parts
offset_in m a b ts = cond (is_number b) (option_map (λ c. parts m NameOffset a b c) (closed ts)) None

-- after `w,` and a second word
abbrev pub after_second : List ℕ → List ℕ → List ℕ → List Token → Option Parts
after_second m a b [] = second_word m a b
after_second m a b (Open ∷ ts) = offset_in m a b ts
after_second m a b (Comma ∷ ts) = cond (is_name b) (third_in m a b ts) None
after_second m a b _ = None

-- after `w,`
abbrev pub second_in : List ℕ → List ℕ → List Token → Option Parts
second_in m a (Word b ∷ ts) = after_second m a b ts
second_in m a (Open ∷ ts) = option_map (λ b. parts m NameAddress a b []) (closed ts)
second_in m a _ = None

-- one operand: a number
abbrev pub one_number : List ℕ → List ℕ → Option Parts
one_number m a = cond (is_number a) (Some (parts m Number a [] [])) None

-- after the mnemonic and a first word
abbrev pub after_first : List ℕ → List ℕ → List Token → Option Parts
after_first m a [] = one_number m a
after_first m a (Comma ∷ ts) = cond (is_name a) (second_in m a ts) None
after_first m a _ = None

-- after the mnemonic: nothing; n; w,n; w,w; w,w,n; w,w,w; w,n(w); w,(w); w,w,(w)
abbrev pub operands_in : List ℕ → List Token → Option Parts
operands_in m [] = Some (parts m Nothing [] [] [])
operands_in m (Word a ∷ ts) = after_first m a ts
operands_in m _ = None

-- ------------------------------------------------------------------------------ lines

-- what a line has
pub record Line : Type 0 where
  pub label : Option (List ℕ)
  pub statement : Option Parts

abbrev pub line : Option (List ℕ) → Option Parts → Line
line label statement = record { label = label; statement = statement }

-- a line with this label, whose statement has these tokens
abbrev pub statement_in : Option (List ℕ) → List Token → Option Line
statement_in label [] = Some (line label None)
statement_in label (Word m ∷ ts) = cond (is_mnemonic m) (option_map (λ p. line label (Some p)) (operands_in m ts)) None
statement_in label _ = None

abbrev pub after_word : List ℕ → List Token → Option Line
after_word a (Colon ∷ ts) = cond (is_name a) (statement_in (Some a) ts) None
after_word a ts = statement_in None (Word a ∷ ts)

abbrev pub line_in : List Token → Option Line
line_in (Word a ∷ ts) = after_word a ts
line_in ts = statement_in None ts

-- a line without its comment
abbrev pub uncommented : List ℕ → List ℕ
uncommented [] = []
uncommented (c ∷ cs) = cond (c == 35) [] (c ∷ uncommented cs)

-- what a line has; None where it is outside the syntax
unfoldable pub line_of : List ℕ → Option Line
line_of text = cond (list_all is_clean text) (line_in (tokens_of (uncommented text))) None
