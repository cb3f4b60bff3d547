-- Which texts are the text of a run: each line is the text of an item whose numbers are in their ranges, a head
-- stands first, and an end last.
use Rattle.std.specs.Prelude.{◌≡◌, ℕ, ◌+◌, ◌*◌, ◌^◌, nat_lt, nat_le, nat_eq, ◌&&◌, ◌||◌, Bool, true, false, cond, List, [], ◌∷◌, ◌++◌, length, map, Option, None, Some}
use Rattle.std.specs.Option.{option_map}
use Rattle.og_base.specs.declared.Cause.{Cause}
use Rattle.og_base.specs.declared.Cause.TheVariants.{Exit as Exited, Illegal, Fetch, Misaligned, Unmapped, Call, Break, Spent as OutOfInstructions}
use Rattle.og_base.specs.declared.Frame.{Frame}
use Rattle.og_line.specs.declared.Access.{Access}
use Rattle.og_line.specs.declared.Access.TheVariants.{Load, Store, Reserve, Conditional, Atomic}
use Rattle.og_runs.specs.declared.Choice.{Choice}
use Rattle.og_runs.specs.declared.Choice.TheVariants.{Act, Take}
use Rattle.og_runs.specs.declared.Stamp.{Stamp}
use Rattle.og_runs.specs.declared.Event.{Event}
use Rattle.og_msg.specs.declared.Note.{Note}
use Rattle.og_msg.specs.declared.Note.TheVariants.{Access as Accessed, Emit, Exit, Trap, Spent, Begin, No, Moved, Freed}
use Rattle.og_base.specs.declared.Settings.{Settings}
use Rattle.og_trace.specs.declared.item.Head.{Head}
use Rattle.og_trace.specs.declared.item.End.{End}
use Rattle.og_trace.specs.declared.item.Place.{Place}
use Rattle.og_trace.specs.declared.item.Place.TheVariants.{First, Middle, Ended}
use Rattle.og_trace.specs.declared.item.Item.{Item}
use Rattle.og_trace.specs.declared.item.Item.TheVariants.{Head as HeadLine, Choice as ChoiceLine, Note as NoteLine, End as EndLine}
use Rattle.og_trace.specs.Text.{item_text, head_of}

-- ------------------------------------------------------------------------------ ranges

-- D and H
abbrev pub is_number : ℕ → Bool
is_number n = nat_lt n (2 ^ 64)

-- A
abbrev pub is_actor : ℕ → Bool
is_actor a = nat_lt a 129

-- W
abbrev pub is_width : ℕ → Bool
is_width w = nat_eq w 1 || nat_eq w 2 || nat_eq w 4 || nat_eq w 8

-- FR
abbrev pub is_frame : Frame → Bool
is_frame f = nat_lt f.home 256 && nat_lt f.index 65536

-- a page's address is an H
abbrev pub is_page : ℕ → Bool
is_page p = nat_lt p (2 ^ 52)

-- the two other causes have notes of their own
abbrev pub is_trap : Cause → Bool
is_trap (Exited value) = false
is_trap Illegal = true
is_trap Fetch = true
is_trap Misaligned = true
is_trap Unmapped = true
is_trap Call = true
is_trap Break = true
is_trap OutOfInstructions = false

-- a store has no answer in the text: it is 0
abbrev pub is_access_line : Access → ℕ → Bool
is_access_line (Load addr width) answer = is_number addr && is_width width && is_number answer
is_access_line (Store addr width value) answer = is_number addr && is_width width && is_number value && nat_eq answer 0
is_access_line (Reserve addr width) answer = is_number addr && is_width width && is_number answer
is_access_line (Conditional addr width value) answer = is_number addr && is_width width && is_number value && is_number answer
is_access_line (Atomic op addr width value) answer = is_number addr && is_width width && is_number value && is_number answer

abbrev pub is_note_line : Note → Bool
is_note_line (Accessed access answer) = is_access_line access answer
is_note_line (Emit value) = is_number value
is_note_line (Exit value) = is_number value
is_note_line Spent = true
is_note_line (Trap cause pc) = is_trap cause && is_number pc
is_note_line (Begin p old new) = is_page p.0 && is_frame old && is_frame new
is_note_line (Moved p old new) = is_page p.0 && is_frame old && is_frame new
is_note_line (Freed f) = is_frame f
is_note_line (No reason f node) = is_frame f && is_actor node

abbrev pub is_choice_line : Choice → Bool
is_choice_line (Act actor) = is_actor actor
is_choice_line (Take actor id) = is_actor actor && is_actor id.sender && is_number id.seq

abbrev pub is_between : ℕ → ℕ → ℕ → Bool
is_between low high n = nat_le low n && nat_le n high

-- the ranges of the settings
abbrev pub is_machine_line : Head → Bool
is_machine_line h = is_between 1 128 h.nodes && is_between 2 1024 h.frames && nat_le (h.nodes * h.frames) 16384 && is_between 1 1024 h.sets && is_between 1 8 h.ways && is_between 1 64 h.tlb

abbrev pub is_policy_line : Head → Bool
is_policy_line h = nat_le h.instructions 1000000 && is_between 1 1000000 h.trigger && is_between 1 1000000 h.sharing && nat_le h.moves 1000000 && is_between 1 1000000 h.reset

abbrev pub is_head_line : Head → Bool
is_head_line h = is_machine_line h && is_policy_line h

abbrev pub is_end_line : End → Bool
is_end_line end = is_number end.events && is_number end.accesses

-- the numbers of a line are in their ranges
unfoldable pub is_in_range : Item → Bool
is_in_range (HeadLine head) = is_head_line head
is_in_range (ChoiceLine choice) = is_choice_line choice
is_in_range (NoteLine stamp note) = is_number stamp.clock && is_actor stamp.actor && is_note_line note
is_in_range (EndLine end) = is_end_line end

-- ------------------------------------------------------------------------------ lines

-- a byte at the beginning of the first line
abbrev pub before_lines : ℕ → List (List ℕ) → List (List ℕ)
before_lines c [] = (c ∷ []) ∷ []
before_lines c (l ∷ ls) = (c ∷ l) ∷ ls

-- the lines of a text. Each ends with a line feed, but the last one may lack it
abbrev pub lines_of : List ℕ → List (List ℕ)
lines_of [] = []
lines_of (c ∷ cs) = cond (nat_eq c 10) ([] ∷ lines_of cs) (before_lines c (lines_of cs))

-- whether a line may stand at a place: a head only first, and nothing after an end
abbrev pub may_stand : Place → Item → Bool
may_stand First item = true
may_stand Middle (HeadLine head) = false
may_stand Middle (ChoiceLine choice) = true
may_stand Middle (NoteLine stamp note) = true
may_stand Middle (EndLine end) = true
may_stand Ended item = false

-- the place after a line
abbrev pub place_after : Item → Place
place_after (HeadLine head) = Middle
place_after (ChoiceLine choice) = Middle
place_after (NoteLine stamp note) = Middle
place_after (EndLine end) = Ended

abbrev pub place_after_all : Place → List Item → Place
place_after_all place [] = place
place_after_all place (i ∷ is) = place_after_all (place_after i) is

-- a line at a place is in the grammar as this item
pub record IsLine (place : Place) (line : List ℕ) (item : Item) : Type 0 where
  pub text : item_text item ≡ line
  pub in_range : is_in_range item ≡ true
  pub stands : may_stand place item ≡ true

-- a line at a place is outside the grammar: it is the text of no item that may stand there
abbrev pub IsOutside : Place → List ℕ → Type 0
IsOutside place line = (item : Item) → is_in_range item ≡ true → may_stand place item ≡ true → item_text item ≡ line → ⊥

-- these lines from a place on are these items
abbrev pub AreLines : Place → List (List ℕ) → List Item → Type 0
AreLines place [] [] = Unit {0}
AreLines place [] (i ∷ is) = ⊥
AreLines place (l ∷ ls) [] = ⊥
AreLines place (l ∷ ls) (i ∷ is) = IsLine place l i × AreLines (place_after i) ls is

-- the text's first line outside the grammar has this number, from 1; those before are these items
pub record IsFirstOutside (text : List ℕ) (number : ℕ) : Type 0 where
  pub items : List Item
  pub before : List (List ℕ)
  pub line : List ℕ
  pub after : List (List ℕ)
  pub split : lines_of text ≡ before ++ line ∷ after
  pub inside : AreLines First before items
  pub outside : IsOutside (place_after_all First items) line
  pub numbered : number ≡ length before + 1

-- ------------------------------------------------------------------------------ what a text says

abbrev pub add_choice : Item → List Choice → List Choice
add_choice (HeadLine head) cs = cs
add_choice (ChoiceLine choice) cs = choice ∷ cs
add_choice (NoteLine stamp note) cs = cs
add_choice (EndLine end) cs = cs

-- the choices, in their order
abbrev pub choices_in : List Item → List Choice
choices_in [] = []
choices_in (i ∷ is) = add_choice i (choices_in is)

abbrev pub add_number : Item → ℕ → List ℕ → List ℕ
add_number (HeadLine head) n ns = ns
add_number (ChoiceLine choice) n ns = n ∷ ns
add_number (NoteLine stamp note) n ns = ns
add_number (EndLine end) n ns = ns

-- the numbers of the choices' lines, where the first line has this number
abbrev pub numbers_in : ℕ → List Item → List ℕ
numbers_in n [] = []
numbers_in n (i ∷ is) = add_number i n (numbers_in (n + 1) is)

abbrev pub add_note : Item → List (Stamp × Note) → List (Stamp × Note)
add_note (HeadLine head) ns = ns
add_note (ChoiceLine choice) ns = ns
add_note (NoteLine stamp note) ns = (stamp, note) ∷ ns
add_note (EndLine end) ns = ns

-- the notes with their stamps, in their order
abbrev pub notes_in : List Item → List (Stamp × Note)
notes_in [] = []
notes_in (i ∷ is) = add_note i (notes_in is)

abbrev pub head_or : Item → Option Head → Option Head
head_or (HeadLine head) other = Some head
head_or (ChoiceLine choice) other = other
head_or (NoteLine stamp note) other = other
head_or (EndLine end) other = other

-- the head, where there is one
abbrev pub head_in : List Item → Option Head
head_in [] = None
head_in (i ∷ is) = head_or i (head_in is)

-- what is read of a text: its head's settings, its choices, the numbers of their lines, and its notes
pub record IsRead (text : List ℕ) (head : Option Settings) (choices : List Choice) (numbers : List ℕ) (notes : List (Stamp × Note)) : Type 0 where
  pub items : List Item
  pub lines : AreLines First (lines_of text) items
  pub head_read : option_map head_of head ≡ head_in items
  pub choices_read : choices ≡ choices_in items
  pub numbers_read : numbers ≡ numbers_in 1 items
  pub notes_read : notes ≡ notes_in items

-- the numbers of all these lines are in their ranges
abbrev pub AllInRange : List Item → Type 0
AllInRange [] = Unit {0}
AllInRange (i ∷ is) = (is_in_range i ≡ true) × AllInRange is

abbrev pub with_stamped : Stamp → Option Note → List (Stamp × Note) → List (Stamp × Note)
with_stamped stamp None ns = ns
with_stamped stamp (Some note) ns = (stamp, note) ∷ ns

-- the notes of events with their stamps
abbrev pub stamped_notes : List (Event Note) → List (Stamp × Note)
stamped_notes [] = []
stamped_notes (e ∷ es) = with_stamped e.stamp e.note (stamped_notes es)

-- of a run's text the run is read
pub record IsWritten (settings : Settings) (es : List (Event Note)) (head : Option Settings) (choices : List Choice) (notes : List (Stamp × Note)) : Type 0 where
  pub head_read : option_map head_of head ≡ Some (head_of settings)
  pub choices_read : choices ≡ map (λ e. e.choice) es
  pub notes_read : notes ≡ stamped_notes es
