-- How a line is read: what it must say if it is a line of a text at all. Whether it is, is seen by writing what was
-- read and comparing. So these definitions promise nothing of other lines.
use Rattle.std.specs.Prelude.{ℕ, ◌+◌, ◌-◌, ◌*◌, ◌^◌, ◌/◌, ◌%◌, nat_lt, nat_eq, Bool, true, false, cond, List, [], ◌∷◌, drop, codes, Option, None, Some}
use Rattle.std.specs.Option.{option_map, option_or}
use Rattle.std.specs.Str.{bytes_eq}
use Rattle.og_base.specs.declared.Cause.{Cause}
use Rattle.og_base.specs.declared.Cause.TheVariants.{Illegal, Fetch, Misaligned, Unmapped, Call, Break}
use Rattle.og_base.specs.declared.Reason.{Reason}
use Rattle.og_base.specs.declared.Reason.TheVariants.{Busy, Shared, Worn, Full}
use Rattle.og_base.specs.declared.Frame.{Frame}
use Rattle.og_base.specs.declared.VPage.{VPage}
use Rattle.og_line.specs.declared.AtomicOp.{AtomicOp}
use Rattle.og_line.specs.declared.AtomicOp.TheVariants.{Swap, Add, Xor, And, Or, Min, Max, Minu, Maxu}
use Rattle.og_line.specs.declared.Access.TheVariants.{Load, Store, Reserve, Conditional, Atomic}
use Rattle.og_runs.specs.declared.Choice.{Choice}
use Rattle.og_runs.specs.declared.Choice.TheVariants.{Act, Take}
use Rattle.og_runs.specs.declared.Stamp.{Stamp}
use Rattle.og_msg.specs.declared.Note.{Note}
use Rattle.og_msg.specs.declared.Note.TheVariants.{Access as Accessed, Emit, Exit, Trap, Spent, Begin, No, Moved, Freed}
use Rattle.og_trace.specs.declared.item.Head.{Head}
use Rattle.og_trace.specs.declared.item.End.{End}
use Rattle.og_trace.specs.declared.item.Item.{Item}
use Rattle.og_trace.specs.declared.item.Item.TheVariants.{Head as HeadLine, Choice as ChoiceLine, Note as NoteLine, End as EndLine}

-- ------------------------------------------------------------------------------ words

-- the bytes before the first such byte
abbrev pub before : ℕ → List ℕ → List ℕ
before at [] = []
before at (c ∷ cs) = cond (nat_eq c at) [] (c ∷ before at cs)

-- the bytes from the first such byte on
abbrev pub from : ℕ → List ℕ → List ℕ
from at [] = []
from at (c ∷ cs) = cond (nat_eq c at) (c ∷ cs) (from at cs)

-- the word after a blank, and what follows it
abbrev pub word_in : List ℕ → List ℕ
word_in rest = before 32 (drop 1 rest)

abbrev pub after_word : List ℕ → List ℕ
after_word rest = from 32 (drop 1 rest)

-- a number with one more decimal digit, or hexadecimal digit, at its end
abbrev pub with_decimal : ℕ → ℕ → ℕ
with_decimal n c = (n * 10 % 2 ^ 64 + (c - 48)) % 2 ^ 64

abbrev pub with_hex : ℕ → ℕ → ℕ
with_hex n c = (n * 16 % 2 ^ 64 + cond (nat_lt c 58) (c - 48) (c - 87)) % 2 ^ 64

abbrev pub decimal_from : ℕ → List ℕ → ℕ
decimal_from n [] = n
decimal_from n (c ∷ cs) = decimal_from (with_decimal n c) cs

abbrev pub hex_from : ℕ → List ℕ → ℕ
hex_from n [] = n
hex_from n (c ∷ cs) = hex_from (with_hex n c) cs

unfoldable pub decimal_of : List ℕ → ℕ
decimal_of word = decimal_from 0 word

unfoldable pub hex_of : List ℕ → ℕ
hex_of word = hex_from 0 word

abbrev pub decimal_in : List ℕ → ℕ
decimal_in rest = decimal_of (word_in rest)

abbrev pub hex_in : List ℕ → ℕ
hex_in rest = hex_of (word_in rest)

-- a decimal number of so many bits
abbrev pub byte_in : List ℕ → ℕ
byte_in rest = decimal_in rest % 2 ^ 8

abbrev pub short_in : List ℕ → ℕ
short_in rest = decimal_in rest % 2 ^ 16

abbrev pub int_in : List ℕ → ℕ
int_in rest = decimal_in rest % 2 ^ 32

abbrev pub page_in : List ℕ → VPage
page_in rest = record { 0 = hex_in rest / 4096 }

unfoldable pub frame_of : List ℕ → Frame
frame_of word = record { home = decimal_of (before 46 word) % 2 ^ 8; index = decimal_of (drop 1 (from 46 word)) % 2 ^ 16 }

abbrev pub frame_in : List ℕ → Frame
frame_in rest = frame_of (word_in rest)

-- ------------------------------------------------------------------------------ names

unfoldable pub op_of : List ℕ → Option AtomicOp
op_of w =
    cond (bytes_eq w (codes "add")) (Some Add)
    (cond (bytes_eq w (codes "swap")) (Some Swap)
    (cond (bytes_eq w (codes "xor")) (Some Xor)
    (cond (bytes_eq w (codes "and")) (Some And)
    (cond (bytes_eq w (codes "or")) (Some Or)
    (cond (bytes_eq w (codes "min")) (Some Min)
    (cond (bytes_eq w (codes "max")) (Some Max)
    (cond (bytes_eq w (codes "minu")) (Some Minu)
    (cond (bytes_eq w (codes "maxu")) (Some Maxu) None))))))))

unfoldable pub cause_of : List ℕ → Option Cause
cause_of w =
    cond (bytes_eq w (codes "illegal")) (Some Illegal)
    (cond (bytes_eq w (codes "fetch")) (Some Fetch)
    (cond (bytes_eq w (codes "misaligned")) (Some Misaligned)
    (cond (bytes_eq w (codes "unmapped")) (Some Unmapped)
    (cond (bytes_eq w (codes "call")) (Some Call)
    (cond (bytes_eq w (codes "break")) (Some Break) None)))))

unfoldable pub reason_of : List ℕ → Option Reason
reason_of w =
    cond (bytes_eq w (codes "busy")) (Some Busy)
    (cond (bytes_eq w (codes "shared")) (Some Shared)
    (cond (bytes_eq w (codes "worn")) (Some Worn)
    (cond (bytes_eq w (codes "full")) (Some Full) None)))

-- ------------------------------------------------------------------------------ lines

-- the address, the width, and what follows them
abbrev pub width_in : List ℕ → ℕ
width_in rest = byte_in (after_word rest)

abbrev pub after_place : List ℕ → List ℕ
after_place rest = after_word (after_word rest)

-- the answer after the word `=`
abbrev pub answer_in : List ℕ → ℕ
answer_in rest = hex_in (after_word rest)

abbrev pub load_in : List ℕ → Note
load_in rest = Accessed (Load (hex_in rest) (width_in rest)) (answer_in (after_place rest))

abbrev pub store_in : List ℕ → Note
store_in rest = Accessed (Store (hex_in rest) (width_in rest) (hex_in (after_place rest))) 0

abbrev pub reserve_in : List ℕ → Note
reserve_in rest = Accessed (Reserve (hex_in rest) (width_in rest)) (answer_in (after_place rest))

abbrev pub conditional_in : List ℕ → Note
conditional_in rest = Accessed (Conditional (hex_in rest) (width_in rest) (hex_in (after_place rest))) (answer_in (after_word (after_place rest)))

abbrev pub atomic_in : AtomicOp → List ℕ → Note
atomic_in op rest = Accessed (Atomic op (hex_in rest) (width_in rest) (hex_in (after_place rest))) (answer_in (after_word (after_place rest)))

-- the note of an access, by its first word
unfoldable pub access_in : List ℕ → List ℕ → Option Note
access_in w rest =
    cond (bytes_eq w (codes "load")) (Some (load_in rest))
    (cond (bytes_eq w (codes "store")) (Some (store_in rest))
    (cond (bytes_eq w (codes "lr")) (Some (reserve_in rest))
    (cond (bytes_eq w (codes "sc")) (Some (conditional_in rest))
    (option_map (λ op. atomic_in op rest) (op_of w)))))

-- a note of a hart
unfoldable pub hart_in : List ℕ → List ℕ → Option Note
hart_in w rest =
    cond (bytes_eq w (codes "emit")) (Some (Emit (hex_in rest)))
    (cond (bytes_eq w (codes "exit")) (Some (Exit (hex_in rest)))
    (cond (bytes_eq w (codes "spent")) (Some Spent)
    (cond (bytes_eq w (codes "trap")) (option_map (λ cause. Trap cause (hex_in (after_word rest))) (cause_of (word_in rest))) None)))

-- a note of the mover
unfoldable pub mover_in : List ℕ → List ℕ → Option Note
mover_in w rest =
    cond (bytes_eq w (codes "begin")) (Some (Begin (page_in rest) (frame_in (after_word rest)) (frame_in (after_word (after_word rest)))))
    (cond (bytes_eq w (codes "move")) (Some (Moved (page_in rest) (frame_in (after_word rest)) (frame_in (after_word (after_word rest)))))
    (cond (bytes_eq w (codes "free")) (Some (Freed (frame_in rest)))
    (cond (bytes_eq w (codes "no")) (option_map (λ reason. No reason (frame_in (after_word rest)) (byte_in (after_word (after_word rest)))) (reason_of (word_in rest))) None)))

abbrev pub note_in : List ℕ → Option Note
note_in rest = option_or (access_in (word_in rest) (after_word rest)) (option_or (hart_in (word_in rest) (after_word rest)) (mover_in (word_in rest) (after_word rest)))

abbrev pub stamp_in : List ℕ → Stamp
stamp_in rest = record { clock = decimal_in rest; actor = byte_in (after_word rest) }

abbrev pub take_in : List ℕ → Choice
take_in rest = Take (byte_in rest) (record { sender = byte_in (after_word rest); seq = decimal_in (after_word (after_word rest)) })

abbrev pub end_in : Bool → List ℕ → End
end_in quiet rest = record { quiet = quiet; events = decimal_in rest; accesses = decimal_in (after_word rest) }

-- the numbers of a head, after its version
abbrev pub head_from : List ℕ → Head
head_from rest =
    let r2 = after_word rest in let r3 = after_word r2 in let r4 = after_word r3 in let r5 = after_word r4 in let r6 = after_word r5 in let r7 = after_word r6 in let r8 = after_word r7 in let r9 = after_word r8 in
    record { nodes = byte_in rest; frames = short_in r2; sets = short_in r3; ways = byte_in r4; tlb = byte_in r5; instructions = int_in r6; trigger = int_in r7; sharing = int_in r8; moves = int_in r9; reset = int_in (after_word r9) }

-- what a line says, by its first word
unfoldable pub item_in : List ℕ → List ℕ → Option Item
item_in w rest =
    cond (bytes_eq w (codes "act")) (Some (ChoiceLine (Act (byte_in rest))))
    (cond (bytes_eq w (codes "take")) (Some (ChoiceLine (take_in rest)))
    (cond (bytes_eq w (codes "at")) (option_map (λ note. NoteLine (stamp_in rest) note) (note_in (after_word (after_word rest))))
    (cond (bytes_eq w (codes "quiet")) (Some (EndLine (end_in true rest)))
    (cond (bytes_eq w (codes "limit")) (Some (EndLine (end_in false rest)))
    (cond (bytes_eq w (codes "origin")) (Some (HeadLine (head_from (after_word rest)))) None)))))

abbrev pub item_of : List ℕ → Option Item
item_of line = item_in (before 32 line) (from 32 line)
