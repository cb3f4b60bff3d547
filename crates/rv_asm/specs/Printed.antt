-- How words are printed: one line for each word. An instruction has its mnemonic, one blank and its operands without
-- blanks, with registers by their numbers and decimal numbers; a word that is no instruction is `.word` and its number.
use Rattle.std.specs.Prelude.{ℕ, ◌/◌, ◌%◌, ◌^◌, List, [], ◌∷◌, ◌++◌, codes, decimal, ℤ, Option, None, Some}
use Rattle.std.specs.Fmt.{signed_decimal}
use Rattle.rv_decode.specs.declared.Instr.{Instr}
use Rattle.rv_decode.specs.Rows.{decode_of}
use Rattle.rv_decode.specs.Words.{imm_word}
use Rattle.rv_asm.specs.declared.form.Form.{Form}
use Rattle.rv_asm.specs.declared.form.Form.TheVariants.{Upper, Jump, Branch, Offset, Store, Immediate, Shift, ShiftWord, Register, Fence, Bare, Reserve, Atomic, Data}
use Rattle.rv_asm.specs.Names.{name_of, form_of, ordering_text}
use Rattle.rv_asm.specs.Syntax.{Token, Word, Comma, Open, Close, Colon, Other}

-- ------------------------------------------------------------------------------ operands

abbrev pub register_text : ℕ → List ℕ
register_text r = 120 ∷ decimal r

abbrev pub register : ℕ → Token
register r = Word (register_text r)

abbrev pub number : ℤ → Token
number n = Word (signed_decimal n)

abbrev pub natural : ℕ → Token
natural n = Word (decimal n)

-- the operands of an instruction, in the order of its form
abbrev pub operands : Form → Instr → List Token
operands Upper i = register i.rd ∷ Comma ∷ natural (imm_word i / 2 ^ 12) ∷ []
operands Jump i = register i.rd ∷ Comma ∷ number i.imm ∷ []
operands Branch i = register i.rs1 ∷ Comma ∷ register i.rs2 ∷ Comma ∷ number i.imm ∷ []
operands Offset i = register i.rd ∷ Comma ∷ number i.imm ∷ Open ∷ register i.rs1 ∷ Close ∷ []
operands Store i = register i.rs2 ∷ Comma ∷ number i.imm ∷ Open ∷ register i.rs1 ∷ Close ∷ []
operands Immediate i = register i.rd ∷ Comma ∷ register i.rs1 ∷ Comma ∷ number i.imm ∷ []
operands Shift i = register i.rd ∷ Comma ∷ register i.rs1 ∷ Comma ∷ number i.imm ∷ []
operands ShiftWord i = register i.rd ∷ Comma ∷ register i.rs1 ∷ Comma ∷ number i.imm ∷ []
operands Register i = register i.rd ∷ Comma ∷ register i.rs1 ∷ Comma ∷ register i.rs2 ∷ []
operands Fence i = register i.rd ∷ Comma ∷ register i.rs1 ∷ Comma ∷ natural (imm_word i % 2 ^ 12) ∷ []
operands Bare i = []
operands Reserve i = register i.rd ∷ Comma ∷ Open ∷ register i.rs1 ∷ Close ∷ []
operands Atomic i = register i.rd ∷ Comma ∷ register i.rs2 ∷ Comma ∷ Open ∷ register i.rs1 ∷ Close ∷ []
operands Data i = []

-- ------------------------------------------------------------------------------ texts

abbrev pub token_text : Token → List ℕ
token_text (Word w) = w
token_text Comma = codes ","
token_text Open = codes "("
token_text Close = codes ")"
token_text Colon = codes ":"
token_text Other = codes "?"

abbrev pub tokens_text : List Token → List ℕ
tokens_text [] = []
tokens_text (t ∷ ts) = token_text t ++ tokens_text ts

-- operands after one blank
abbrev pub spaced : List Token → List ℕ
spaced [] = []
spaced (t ∷ ts) = 32 ∷ tokens_text (t ∷ ts)

-- a mnemonic and its operands
abbrev pub statement_text : List ℕ → List Token → List ℕ
statement_text mnemonic ts = mnemonic ++ spaced ts

-- the blank before operands, where there are some
abbrev pub blank_before : Form → List ℕ
blank_before Bare = []
blank_before Data = []
blank_before _ = 32 ∷ []

abbrev pub mnemonic_text : Instr → List ℕ
mnemonic_text i = name_of i.op ++ ordering_text i.aq i.rl

abbrev pub instr_text : Instr → List ℕ
instr_text i = statement_text (mnemonic_text i) (operands (form_of i.op) i)

abbrev pub word_text_by : ℕ → Option Instr → List ℕ
word_text_by word None = statement_text (codes ".word") (natural word ∷ [])
word_text_by word (Some i) = instr_text i

-- the text of a word
unfoldable pub word_text : ℕ → List ℕ
word_text word = word_text_by word (decode_of word)

-- the text of words: a line for each
abbrev pub printed : List ℕ → List ℕ
printed [] = []
printed (w ∷ ws) = word_text w ++ 10 ∷ printed ws
