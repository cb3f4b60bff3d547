-- The text of a run is read as that run.
use Rattle.std.specs.Prelude.{decimal, codes}
use Rattle.std.proofs.Common.{◌≡◌, ℕ, ◌*◌, ◌%◌, ◌^◌, ◌<◌, ◌&&◌, List, [], ◌∷◌, ◌++◌, map, arith, refl, sym, ap, ap₂, subst, cond, true, false, Bool, not, nat_eq, Option, None, Some}
use Rattle.std.proofs.Math.Path.{◌∙◌}
use Rattle.og_base.specs.declared.Cause.{Cause}
use Rattle.og_base.specs.declared.Cause.TheVariants.{Exit as Exited, Illegal, Fetch, Misaligned, Unmapped, Call, Break, Spent as OutOfInstructions}
use Rattle.og_base.specs.declared.Reason.{Reason}
use Rattle.og_base.specs.declared.Reason.TheVariants.{Busy, Shared, Worn, Full}
use Rattle.og_base.specs.declared.Frame.{Frame}
use Rattle.og_base.specs.declared.Settings.{Settings}
use Rattle.og_line.specs.declared.AtomicOp.{AtomicOp}
use Rattle.og_line.specs.declared.AtomicOp.TheVariants.{Swap, Add, Xor, And, Or, Min, Max, Minu, Maxu}
use Rattle.og_line.specs.declared.Access.{Access}
use Rattle.og_line.specs.declared.Access.TheVariants.{Load, Store, Reserve, Conditional, Atomic}
use Rattle.og_runs.specs.declared.Choice.{Choice}
use Rattle.og_runs.specs.declared.Choice.TheVariants.{Act, Take}
use Rattle.og_runs.specs.declared.Stamp.{Stamp}
use Rattle.og_runs.specs.declared.Event.{Event}
use Rattle.og_msg.specs.declared.Note.{Note}
use Rattle.og_msg.specs.declared.Note.TheVariants.{Access as Accessed, Emit, Exit, Trap, Spent, Begin, No, Moved, Freed}
use Rattle.og_trace.specs.declared.item.Head.{Head}
use Rattle.og_trace.specs.declared.item.Item.{Item}
use Rattle.og_trace.specs.declared.item.Item.TheVariants.{Head as HeadLine, Choice as ChoiceLine, Note as NoteLine, End as EndLine}
use Rattle.og_trace.specs.declared.item.Place.{Place}
use Rattle.og_trace.specs.declared.item.Place.TheVariants.{First, Middle}
use Rattle.og_trace.specs.Text.{hex, frame_word, spaced, joined, op_word, cause_word, reason_word, access_words, note_words, head_words, choice_words, end_word, item_words, item_text, items_text, with_note, with_events, items_of, text_of, end_of}
use Rattle.og_trace.specs.Grammar.{is_number, is_actor, is_frame, is_page, is_access_line, is_note_line, is_choice_line, is_head_line, is_machine_line, is_policy_line, is_in_range, lines_of, before_lines, may_stand, place_after, place_after_all, IsLine, IsOutside, AreLines, IsFirstOutside, IsRead, IsWritten, AllInRange, choices_in, notes_in, head_in, stamped_notes, with_stamped}
use Rattle.og_trace.proofs.Words.{lacks, lacks_append, decimal_lacks, hex_lacks, frame_lacks}
use Rattle.og_trace.proofs.Lines.{and_left, and_right, number_fits, actor_fits, width_fits, frame_fits, machine_fits, policy_fits, Machine, Policy}
use Rattle.og_trace.proofs.Uniqueness.{one_item}

-- ------------------------------------------------------------------------------ no line feed in a line

both : (a b : Bool) → a ≡ true → b ≡ true → (a && b) ≡ true
both a b h k = rw (h, k) refl

-- no word has a line feed
abbrev all_lack : List (List ℕ) → Bool
all_lack [] = true
all_lack (w ∷ ws) = lacks 10 w && all_lack ws

spaced_lacks : (ws : List (List ℕ)) → all_lack ws ≡ true → lacks 10 (spaced ws) ≡ true
spaced_lacks [] h = refl
spaced_lacks (w ∷ ws) h = lacks_append 10 w (spaced ws) (and_left _ (all_lack ws) h) (spaced_lacks ws (and_right (lacks 10 w) _ h))

joined_lacks : (ws : List (List ℕ)) → all_lack ws ≡ true → lacks 10 (joined ws) ≡ true
joined_lacks [] h = refl
joined_lacks (w ∷ ws) h = lacks_append 10 w (spaced ws) (and_left _ (all_lack ws) h) (spaced_lacks ws (and_right (lacks 10 w) _ h))

-- the same as a record
record Lack (ws : List (List ℕ)) : Type 0 where
  is : all_lack ws ≡ true

empty : Lack []
empty = record { is = refl }

word : (w : List ℕ) (ws : List (List ℕ)) → lacks 10 w ≡ true → Lack ws → Lack (w ∷ ws)
word w ws h k = record { is = both (lacks 10 w) (all_lack ws) h k.is }

hex_word : (n : ℕ) (ws : List (List ℕ)) → Lack ws → Lack (hex n ∷ ws)
hex_word n ws h = word (hex n) ws (hex_lacks 10 n (omega arith)) h

decimal_word : (n : ℕ) (ws : List (List ℕ)) → n < 2 ^ 64 → Lack ws → Lack (decimal n ∷ ws)
decimal_word n ws lt h = word (decimal n) ws (decimal_lacks 10 n (omega arith) lt) h

framed : (f : Frame) (ws : List (List ℕ)) → is_frame f ≡ true → Lack ws → Lack (frame_word f ∷ ws)
framed f ws is h = let i : (f.home < 256) × (f.index < 65536) = frame_fits f is in word (frame_word f) ws (frame_lacks 10 f (omega arith) i.0 i.1) h

op_lack : (op : AtomicOp) → lacks 10 (op_word op) ≡ true
op_lack Swap = refl
op_lack Add = refl
op_lack Xor = refl
op_lack And = refl
op_lack Or = refl
op_lack Min = refl
op_lack Max = refl
op_lack Minu = refl
op_lack Maxu = refl

cause_lack : (c : Cause) → lacks 10 (cause_word c) ≡ true
cause_lack (Exited v) = refl
cause_lack Illegal = refl
cause_lack Fetch = refl
cause_lack Misaligned = refl
cause_lack Unmapped = refl
cause_lack Call = refl
cause_lack Break = refl
cause_lack OutOfInstructions = refl

reason_lack : (r : Reason) → lacks 10 (reason_word r) ≡ true
reason_lack Busy = refl
reason_lack Shared = refl
reason_lack Worn = refl
reason_lack Full = refl

width_of : (access : Access) → ℕ
width_of (Load addr width) = width
width_of (Store addr width value) = width
width_of (Reserve addr width) = width
width_of (Conditional addr width value) = width
width_of (Atomic op addr width value) = width

answer_words : (n : ℕ) → Lack (codes "=" ∷ hex n ∷ [])
answer_words n = word (codes "=") (hex n ∷ []) refl (hex_word n [] empty)

access_lack : (access : Access) (answer : ℕ) → is_access_line access answer ≡ true → Lack (access_words access answer)
access_lack (Load addr width) answer h =
    let w : width < 9 = width_fits width (and_right (is_number addr) _ (and_left _ (is_number answer) h)) in
    word (codes "load") _ refl (hex_word addr _ (decimal_word width _ (omega arith) (answer_words answer)))
access_lack (Store addr width value) answer h =
    let w : width < 9 = width_fits width (and_right (is_number addr) _ (and_left _ (is_number value) (and_left _ (nat_eq answer 0) h))) in
    word (codes "store") _ refl (hex_word addr _ (decimal_word width _ (omega arith) (hex_word value [] empty)))
access_lack (Reserve addr width) answer h =
    let w : width < 9 = width_fits width (and_right (is_number addr) _ (and_left _ (is_number answer) h)) in
    word (codes "lr") _ refl (hex_word addr _ (decimal_word width _ (omega arith) (answer_words answer)))
access_lack (Conditional addr width value) answer h =
    let w : width < 9 = width_fits width (and_right (is_number addr) _ (and_left _ (is_number value) (and_left _ (is_number answer) h))) in
    word (codes "sc") _ refl (hex_word addr _ (decimal_word width _ (omega arith) (hex_word value _ (answer_words answer))))
access_lack (Atomic op addr width value) answer h =
    let w : width < 9 = width_fits width (and_right (is_number addr) _ (and_left _ (is_number value) (and_left _ (is_number answer) h))) in
    word (op_word op) _ (op_lack op) (hex_word addr _ (decimal_word width _ (omega arith) (hex_word value _ (answer_words answer))))

note_lack : (note : Note) → is_note_line note ≡ true → Lack (note_words note)
note_lack (Accessed access answer) h = access_lack access answer h
note_lack (Emit value) h = word (codes "emit") _ refl (hex_word value [] empty)
note_lack (Exit value) h = word (codes "exit") _ refl (hex_word value [] empty)
note_lack Spent h = word (codes "spent") [] refl empty
note_lack (Trap cause pc) h = word (codes "trap") _ refl (word (cause_word cause) _ (cause_lack cause) (hex_word pc [] empty))
note_lack (Begin p old new) h =
    let ho : is_frame old ≡ true = and_right (is_page p.0) _ (and_left _ (is_frame new) h) in
    word (codes "begin") _ refl (hex_word (p.0 * 4096 % 2 ^ 64) _ (framed old _ ho (framed new [] (and_right (is_page p.0 && is_frame old) _ h) empty)))
note_lack (Moved p old new) h =
    let ho : is_frame old ≡ true = and_right (is_page p.0) _ (and_left _ (is_frame new) h) in
    word (codes "move") _ refl (hex_word (p.0 * 4096 % 2 ^ 64) _ (framed old _ ho (framed new [] (and_right (is_page p.0 && is_frame old) _ h) empty)))
note_lack (Freed f) h = word (codes "free") _ refl (framed f [] h empty)
note_lack (No reason f node) h =
    let a : node < 129 = actor_fits node (and_right (is_frame f) _ h) in
    word (codes "no") _ refl (word (reason_word reason) _ (reason_lack reason) (framed f _ (and_left _ (is_actor node) h) (decimal_word node [] (omega arith) empty)))

choice_lack : (choice : Choice) → is_choice_line choice ≡ true → Lack (choice_words choice)
choice_lack (Act actor) h = let a : actor < 129 = actor_fits actor h in word (codes "act") _ refl (decimal_word actor [] (omega arith) empty)
choice_lack (Take actor id) h =
    let hs : (is_actor actor && is_actor id.sender) ≡ true = and_left _ (is_number id.seq) h in
    let a : actor < 129 = actor_fits actor (and_left _ (is_actor id.sender) hs) in
    let s : id.sender < 129 = actor_fits id.sender (and_right (is_actor actor) _ hs) in
    word (codes "take") _ refl (decimal_word actor _ (omega arith) (decimal_word id.sender _ (omega arith) (decimal_word id.seq [] (number_fits id.seq (and_right (is_actor actor && is_actor id.sender) _ h)) empty)))

end_lack : (quiet : Bool) → lacks 10 (end_word quiet) ≡ true
end_lack true = refl
end_lack false = refl

head_lack : (h : Head) → is_head_line h ≡ true → Lack (head_words h)
head_lack h is =
    let m : Machine h = machine_fits h (and_left _ (is_policy_line h) is) in
    let p : Policy h = policy_fits h (and_right (is_machine_line h) _ is) in
    let a : h.nodes < 256 = m.nodes in
    let b : h.frames < 65536 = m.frames in
    let c : h.sets < 65536 = m.sets in
    let d : h.ways < 256 = m.ways in
    let e : h.tlb < 256 = m.tlb in
    let f : h.instructions < 2 ^ 32 = p.instructions in
    let g : h.trigger < 2 ^ 32 = p.trigger in
    let i : h.sharing < 2 ^ 32 = p.sharing in
    let j : h.moves < 2 ^ 32 = p.moves in
    let k : h.reset < 2 ^ 32 = p.reset in
    word (codes "origin") _ refl (word (codes "2") _ refl (decimal_word h.nodes _ (omega arith) (decimal_word h.frames _ (omega arith) (decimal_word h.sets _ (omega arith) (decimal_word h.ways _ (omega arith) (decimal_word h.tlb _ (omega arith)
    (decimal_word h.instructions _ (omega arith) (decimal_word h.trigger _ (omega arith) (decimal_word h.sharing _ (omega arith) (decimal_word h.moves _ (omega arith) (decimal_word h.reset [] (omega arith) empty)))))))))))

item_lack : (i : Item) → is_in_range i ≡ true → Lack (item_words i)
unfolding is_in_range
item_lack (HeadLine head) h = head_lack head h
item_lack (ChoiceLine choice) h = choice_lack choice h
item_lack (NoteLine stamp note) h =
    let hs : (is_number stamp.clock && is_actor stamp.actor) ≡ true = and_left _ (is_note_line note) h in
    let a : stamp.actor < 129 = actor_fits stamp.actor (and_right (is_number stamp.clock) _ hs) in
    word (codes "at") _ refl (decimal_word stamp.clock _ (number_fits stamp.clock (and_left _ (is_actor stamp.actor) hs)) (decimal_word stamp.actor _ (omega arith) (note_lack note (and_right (is_number stamp.clock && is_actor stamp.actor) _ h))))
item_lack (EndLine end) h =
    word (end_word end.quiet) _ (end_lack end.quiet) (decimal_word end.events _ (number_fits end.events (and_left _ (is_number end.accesses) h)) (decimal_word end.accesses [] (number_fits end.accesses (and_right (is_number end.events) _ h)) empty))

text_lacks : (i : Item) → is_in_range i ≡ true → lacks 10 (item_text i) ≡ true
unfolding item_text
text_lacks i h = joined_lacks (item_words i) (item_lack i h).is

-- ------------------------------------------------------------------------------ the lines of a text that was written

line_written : (l rest : List ℕ) → lacks 10 l ≡ true → lines_of (l ++ 10 ∷ rest) ≡ l ∷ lines_of rest
line_written [] rest h = refl
line_written (c ∷ cs) rest h = go (nat_eq c 10) h (line_written cs rest)
  where
    go : (b : Bool) → (not b && lacks 10 cs) ≡ true → (lacks 10 cs ≡ true → lines_of (cs ++ 10 ∷ rest) ≡ cs ∷ lines_of rest) →
        cond b ([] ∷ lines_of (cs ++ 10 ∷ rest)) (before_lines c (lines_of (cs ++ 10 ∷ rest))) ≡ (c ∷ cs) ∷ lines_of rest
    go true h later = absurd (cc)
    go false h later = ap (before_lines c) (later h)

-- each line may stand where it does
abbrev Stand : Place → List Item → Type 0
Stand place [] = Unit {0}
Stand place (i ∷ is) = (may_stand place i ≡ true) × Stand (place_after i) is

are_lines : (place : Place) (is : List Item) → AllInRange is → Stand place is → AreLines place (lines_of (items_text is)) is
are_lines place [] h s = tt
are_lines place (i ∷ is) h s =
    let here : IsLine place (item_text i) i = record { text = refl; in_range = h.0; stands = s.0 } in
    let split : lines_of (items_text (i ∷ is)) ≡ item_text i ∷ lines_of (items_text is) = line_written (item_text i) (items_text is) (text_lacks i h.0) in
    let both : IsLine place (item_text i) i × AreLines (place_after i) (lines_of (items_text is)) is = (here, are_lines (place_after i) is h.1 s.1) in
    subst (λ (ls : List (List ℕ)). AreLines place ls (i ∷ is)) (sym split) both

stand_note : (stamp : Stamp) (note : Option Note) (is : List Item) → Stand Middle is → Stand Middle (with_note stamp note is)
stand_note stamp None is h = h
stand_note stamp (Some note) is h = (refl, h)

stand_events : (es : List (Event Note)) (is : List Item) → Stand Middle is → Stand Middle (with_events es is)
stand_events [] is h = h
stand_events (e ∷ es) is h = (refl, stand_note e.stamp e.note (with_events es is) (stand_events es is h))

written : (settings : Settings) (es : List (Event Note)) (quiet : Bool) → AllInRange (items_of settings es quiet) → AreLines First (lines_of (text_of settings es quiet)) (items_of settings es quiet)
written settings es quiet h = are_lines First (items_of settings es quiet) h (refl, stand_events es (EndLine (end_of es quiet) ∷ []) (refl, tt))

-- ------------------------------------------------------------------------------ one reading

same_items : (place : Place) (ls : List (List ℕ)) (is js : List Item) → AreLines place ls is → AreLines place ls js → is ≡ js
same_items place [] [] [] a b = refl
same_items place [] [] (j ∷ js) a b = absurd b
same_items place [] (i ∷ is) js a b = absurd a
same_items place (l ∷ ls) [] js a b = absurd a
same_items place (l ∷ ls) (i ∷ is) [] a b = absurd b
same_items place (l ∷ ls) (i ∷ is) (j ∷ js) a b =
    let same : i ≡ j = one_item place l i j a.0 b.0 in
    ap₂ (λ (x : Item) (xs : List Item). x ∷ xs) same (same_items (place_after i) ls is js a.1 (subst (λ (x : Item). AreLines (place_after x) ls js) (sym same) b.1))

never_outside : (place : Place) (before : List (List ℕ)) (line : List ℕ) (after : List (List ℕ)) (is js : List Item) → AreLines place (before ++ line ∷ after) is → AreLines place before js → IsOutside (place_after_all place js) line → ⊥
never_outside place [] line after [] [] a b out = absurd a
never_outside place [] line after (i ∷ is) [] a b out = out i (a.0).in_range (a.0).stands (a.0).text
never_outside place [] line after is (j ∷ js) a b out = absurd b
never_outside place (l ∷ ls) line after [] js a b out = absurd a
never_outside place (l ∷ ls) line after (i ∷ is) [] a b out = absurd b
never_outside place (l ∷ ls) line after (i ∷ is) (j ∷ js) a b out =
    let same : i ≡ j = one_item place l i j a.0 b.0 in
    never_outside (place_after j) ls line after is js (subst (λ (x : Item). AreLines (place_after x) (ls ++ line ∷ after) is) same a.1) b.1 out

choices_note : (stamp : Stamp) (note : Option Note) (is : List Item) → choices_in (with_note stamp note is) ≡ choices_in is
choices_note stamp None is = refl
choices_note stamp (Some note) is = refl

choices_events : (es : List (Event Note)) (is : List Item) → choices_in is ≡ [] → choices_in (with_events es is) ≡ map (λ e. e.choice) es
choices_events [] is h = h
choices_events (e ∷ es) is h = ap (λ (l : List Choice). e.choice ∷ l) (choices_note e.stamp e.note (with_events es is) ∙ choices_events es is h)

notes_note : (stamp : Stamp) (note : Option Note) (is : List Item) (ns : List (Stamp × Note)) → notes_in is ≡ ns → notes_in (with_note stamp note is) ≡ with_stamped stamp note ns
notes_note stamp None is ns h = h
notes_note stamp (Some note) is ns h = ap (λ (l : List (Stamp × Note)). (stamp, note) ∷ l) h

notes_events : (es : List (Event Note)) (is : List Item) → notes_in is ≡ [] → notes_in (with_events es is) ≡ stamped_notes es
notes_events [] is h = h
notes_events (e ∷ es) is h = notes_note e.stamp e.note (with_events es is) (stamped_notes es) (notes_events es is h)

pub accepted : (text : List ℕ) (settings : Settings) (es : List (Event Note)) (quiet : Bool) (line : ℕ) → text ≡ text_of settings es quiet → AllInRange (items_of settings es quiet) → IsFirstOutside text line → ⊥
accepted text settings es quiet line is h f =
    let lines : AreLines First (lines_of text) (items_of settings es quiet) = subst (λ (t : List ℕ). AreLines First (lines_of t) (items_of settings es quiet)) (sym is) (written settings es quiet h) in
    never_outside First f.before f.line f.after (items_of settings es quiet) f.items (subst (λ (ls : List (List ℕ)). AreLines First ls (items_of settings es quiet)) f.split lines) f.inside f.outside

pub as_written : (text : List ℕ) (settings : Settings) (es : List (Event Note)) (quiet : Bool) (head : Option Settings) (choices : List Choice) (numbers : List ℕ) (notes : List (Stamp × Note)) → text ≡ text_of settings es quiet → AllInRange (items_of settings es quiet) →
    IsRead text head choices numbers notes → IsWritten settings es head choices notes
as_written text settings es quiet head choices numbers notes is h r =
    let lines : AreLines First (lines_of text) (items_of settings es quiet) = subst (λ (t : List ℕ). AreLines First (lines_of t) (items_of settings es quiet)) (sym is) (written settings es quiet h) in
    let same : r.items ≡ items_of settings es quiet = same_items First (lines_of text) r.items (items_of settings es quiet) r.lines lines in
    record {
      head_read = r.head_read ∙ ap head_in same;
      choices_read = r.choices_read ∙ (ap choices_in same ∙ choices_events es (EndLine (end_of es quiet) ∷ []) refl);
      notes_read = r.notes_read ∙ (ap notes_in same ∙ notes_events es (EndLine (end_of es quiet) ∷ []) refl);
    }
