-- The text of a run. Lines end with a line feed; between words is one blank. D is a decimal number below 2^64
-- without leading zeros, H is 16 lower hexadecimal digits, W is 1, 2, 4 or 8, A is an actor, a D below 129, FR is
-- D.D, the first below 256 and the second below 65,536.
--
--   head     origin 2 D D D D D D D D D D            nodes, frames, sets, ways, TLB entries, instructions, trigger,
--                                                    sharing, moves, reset
--   choice   act A                      take A A D           actor; actor, sender, number
--   note     at D A ..                  clock, actor, and one of the next rows
--   access   load H W = H               store H W H          lr H W = H
--            sc H W H = H               OP H W H = H         address, width, operand, answer
--   hart     emit H     exit H     spent     trap CAUSE H
--   mover    begin H FR FR     move H FR FR     free FR     no REASON FR A
--   end      quiet D D                  limit D D            events, accesses
use Rattle.std.specs.Prelude.{ℕ, suc, zero, ◌+◌, ◌*◌, ◌^◌, ◌/◌, ◌%◌, nat_lt, Bool, true, false, if◌then◌else◌, List, [], ◌∷◌, ◌++◌, length, count_by, codes, decimal, Option, None, Some}
use Rattle.og_base.specs.declared.Cause.{Cause}
use Rattle.og_base.specs.declared.Cause.TheVariants.{Exit as Exited, Illegal, Fetch, Misaligned, Unmapped, Call, Break, Spent as OutOfInstructions}
use Rattle.og_base.specs.declared.Reason.{Reason}
use Rattle.og_base.specs.declared.Reason.TheVariants.{Busy, Shared, Worn, Full}
use Rattle.og_base.specs.declared.Frame.{Frame}
use Rattle.og_line.specs.declared.AtomicOp.{AtomicOp}
use Rattle.og_line.specs.declared.AtomicOp.TheVariants.{Swap, Add, Xor, And, Or, Min, Max, Minu, Maxu}
use Rattle.og_line.specs.declared.Access.{Access}
use Rattle.og_line.specs.declared.Access.TheVariants.{Load, Store, Reserve, Conditional, Atomic}
use Rattle.og_runs.specs.declared.Choice.{Choice}
use Rattle.og_runs.specs.declared.Choice.TheVariants.{Act, Take}
use Rattle.og_runs.specs.declared.Stamp.{Stamp}
use Rattle.og_runs.specs.declared.Event.{Event}
use Rattle.og_base.specs.Settings.{SettingsState, settings_seen}
use Rattle.og_base.specs.declared.Settings.{Settings}
use Rattle.og_trace.specs.declared.item.Head.{Head}
use Rattle.og_trace.specs.declared.item.End.{End}
use Rattle.og_trace.specs.declared.item.Item.{Item}
use Rattle.og_trace.specs.declared.item.Item.TheVariants.{Head as HeadLine, Choice as ChoiceLine, Note as NoteLine, End as EndLine}
use Rattle.og_msg.specs.declared.Note.{Note}
use Rattle.og_msg.specs.declared.Note.TheVariants.{Access as Accessed, Emit, Exit, Trap, Spent, Begin, No, Moved, Freed}

-- ------------------------------------------------------------------------------ words

abbrev pub hex_digit : ℕ → ℕ
hex_digit d = if nat_lt d 10 then 48 + d else 87 + d

-- the lowest k hexadecimal digits, the highest of them first
abbrev pub hex_digits : ℕ → ℕ → List ℕ
hex_digits zero n = []
hex_digits (suc k) n = hex_digit (n / 2 ^ (4 * k) % 16) ∷ hex_digits k n

unfoldable pub hex : ℕ → List ℕ
hex n = hex_digits 16 n

-- a page is printed as its address; a page's number is below 2^52
abbrev pub page_word : ℕ → List ℕ
page_word p = hex (p * 4096 % 2 ^ 64)

abbrev pub frame_word : Frame → List ℕ
frame_word f = decimal f.home ++ codes "." ++ decimal f.index

-- a blank before each word
abbrev pub spaced : List (List ℕ) → List ℕ
spaced [] = []
spaced (w ∷ ws) = 32 ∷ (w ++ spaced ws)

-- the words with blanks between them
abbrev pub joined : List (List ℕ) → List ℕ
joined [] = []
joined (w ∷ ws) = w ++ spaced ws

-- ------------------------------------------------------------------------------ lines

abbrev pub op_word : AtomicOp → List ℕ
op_word Swap = codes "swap"
op_word Add = codes "add"
op_word Xor = codes "xor"
op_word And = codes "and"
op_word Or = codes "or"
op_word Min = codes "min"
op_word Max = codes "max"
op_word Minu = codes "minu"
op_word Maxu = codes "maxu"

-- no trap has the causes of the last two rows: they have notes of their own
abbrev pub cause_word : Cause → List ℕ
cause_word Illegal = codes "illegal"
cause_word Fetch = codes "fetch"
cause_word Misaligned = codes "misaligned"
cause_word Unmapped = codes "unmapped"
cause_word Call = codes "call"
cause_word Break = codes "break"
cause_word (Exited value) = codes "exit"
cause_word OutOfInstructions = codes "spent"

abbrev pub reason_word : Reason → List ℕ
reason_word Busy = codes "busy"
reason_word Shared = codes "shared"
reason_word Worn = codes "worn"
reason_word Full = codes "full"

-- an access with its answer
abbrev pub access_words : Access → ℕ → List (List ℕ)
access_words (Load addr width) answer = codes "load" ∷ hex addr ∷ decimal width ∷ codes "=" ∷ hex answer ∷ []
access_words (Store addr width value) answer = codes "store" ∷ hex addr ∷ decimal width ∷ hex value ∷ []
access_words (Reserve addr width) answer = codes "lr" ∷ hex addr ∷ decimal width ∷ codes "=" ∷ hex answer ∷ []
access_words (Conditional addr width value) answer = codes "sc" ∷ hex addr ∷ decimal width ∷ hex value ∷ codes "=" ∷ hex answer ∷ []
access_words (Atomic op addr width value) answer = op_word op ∷ hex addr ∷ decimal width ∷ hex value ∷ codes "=" ∷ hex answer ∷ []

abbrev pub note_words : Note → List (List ℕ)
note_words (Accessed access answer) = access_words access answer
note_words (Emit value) = codes "emit" ∷ hex value ∷ []
note_words (Exit value) = codes "exit" ∷ hex value ∷ []
note_words Spent = codes "spent" ∷ []
note_words (Trap cause pc) = codes "trap" ∷ cause_word cause ∷ hex pc ∷ []
note_words (Begin p old new) = codes "begin" ∷ page_word p.0 ∷ frame_word old ∷ frame_word new ∷ []
note_words (Moved p old new) = codes "move" ∷ page_word p.0 ∷ frame_word old ∷ frame_word new ∷ []
note_words (Freed f) = codes "free" ∷ frame_word f ∷ []
note_words (No reason f node) = codes "no" ∷ reason_word reason ∷ frame_word f ∷ decimal node ∷ []

-- a head has the settings of the run
abbrev pub head_words : Head → List (List ℕ)
head_words h = codes "origin" ∷ codes "2" ∷ decimal h.nodes ∷ decimal h.frames ∷ decimal h.sets ∷ decimal h.ways ∷ decimal h.tlb ∷ decimal h.instructions ∷ decimal h.trigger ∷ decimal h.sharing ∷ decimal h.moves ∷ decimal h.reset ∷ []

abbrev pub choice_words : Choice → List (List ℕ)
choice_words (Act actor) = codes "act" ∷ decimal actor ∷ []
choice_words (Take actor id) = codes "take" ∷ decimal actor ∷ decimal id.sender ∷ decimal id.seq ∷ []

abbrev pub end_word : Bool → List ℕ
end_word quiet = if quiet then codes "quiet" else codes "limit"

-- the words of a line
abbrev pub item_words : Item → List (List ℕ)
item_words (HeadLine head) = head_words head
item_words (ChoiceLine choice) = choice_words choice
item_words (NoteLine stamp note) = codes "at" ∷ decimal stamp.clock ∷ decimal stamp.actor ∷ note_words note
item_words (EndLine end) = end_word end.quiet ∷ decimal end.events ∷ decimal end.accesses ∷ []

-- a line without its line feed
unfoldable pub item_text : Item → List ℕ
item_text item = joined (item_words item)

-- lines, each with its line feed
abbrev pub items_text : List Item → List ℕ
items_text [] = []
items_text (i ∷ is) = item_text i ++ 10 ∷ items_text is

-- ------------------------------------------------------------------------------ the whole text

abbrev pub is_access : Option Note → Bool
is_access None = false
is_access (Some (Accessed access answer)) = true
is_access (Some (Emit value)) = false
is_access (Some (Exit value)) = false
is_access (Some (Trap cause pc)) = false
is_access (Some Spent) = false
is_access (Some (Begin p old new)) = false
is_access (Some (No reason f node)) = false
is_access (Some (Moved p old new)) = false
is_access (Some (Freed f)) = false

-- how many of the events completed an access
abbrev pub access_count : List (Event Note) → ℕ
access_count es = count_by (λ e. is_access e.note) es

-- the numbers of a head
abbrev pub head_seen : SettingsState → Head
head_seen s = record { nodes = s.nodes; frames = s.frames; sets = s.sets; ways = s.ways; tlb = s.tlb; instructions = s.instructions; trigger = s.trigger; sharing = s.sharing; moves = s.moves; reset = s.reset }

abbrev pub head_of : Settings → Head
head_of s = head_seen (settings_seen s)

-- a note's line, where there is a note, before other lines
abbrev pub with_note : Stamp → Option Note → List Item → List Item
with_note stamp None items = items
with_note stamp (Some note) items = NoteLine stamp note ∷ items

-- each event's choice, then its note if it has one, before other lines
abbrev pub with_events : List (Event Note) → List Item → List Item
with_events [] items = items
with_events (e ∷ es) items = ChoiceLine e.choice ∷ with_note e.stamp e.note (with_events es items)

-- the end has the numbers of the events and of the accesses
abbrev pub end_of : List (Event Note) → Bool → End
end_of es quiet = record { quiet = quiet; events = length es; accesses = access_count es }

-- the lines of a run with this head and these events, which ended quiet or at its limit
abbrev pub items_with : Head → List (Event Note) → Bool → List Item
items_with head es quiet = HeadLine head ∷ with_events es (EndLine (end_of es quiet) ∷ [])

abbrev pub items_of : Settings → List (Event Note) → Bool → List Item
items_of settings es quiet = items_with (head_of settings) es quiet

-- the text of that run
abbrev pub text_with : Head → List (Event Note) → Bool → List ℕ
text_with head es quiet = items_text (items_with head es quiet)

abbrev pub text_of : Settings → List (Event Note) → Bool → List ℕ
text_of settings es quiet = text_with (head_of settings) es quiet
