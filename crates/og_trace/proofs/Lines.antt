-- A line that was written is read as what it was.
use Rattle.std.specs.Prelude.{decimal, codes}
use Rattle.std.proofs.Common.{◌≡◌, ℕ, ◌*◌, ◌/◌, ◌%◌, ◌^◌, ◌<◌, ◌&&◌, List, [], ◌∷◌, arith, refl, ap, ap₂, true, false, Bool, nat_lt, nat_eq, Option, None, Some}
use Rattle.std.specs.Option.{option_map, option_or}
use Rattle.std.proofs.Math.Path.{◌∙◌}
use Rattle.std.proofs.lemmas.Bool.Decides.{nat_tests}
use Rattle.og_base.specs.declared.Cause.{Cause}
use Rattle.og_base.specs.declared.Cause.TheVariants.{Exit as Exited, Illegal, Fetch, Misaligned, Unmapped, Call, Break, Spent as OutOfInstructions}
use Rattle.og_base.specs.declared.Reason.{Reason}
use Rattle.og_base.specs.declared.Reason.TheVariants.{Busy, Shared, Worn, Full}
use Rattle.og_base.specs.declared.Frame.{Frame}
use Rattle.og_base.specs.declared.VPage.{VPage}
use Rattle.og_line.specs.declared.AtomicOp.{AtomicOp}
use Rattle.og_line.specs.declared.AtomicOp.TheVariants.{Swap, Add, Xor, And, Or, Min, Max, Minu, Maxu}
use Rattle.og_line.specs.declared.Access.{Access}
use Rattle.og_line.specs.declared.Access.TheVariants.{Load, Store, Reserve, Conditional, Atomic}
use Rattle.og_runs.specs.declared.Choice.{Choice}
use Rattle.og_runs.specs.declared.Choice.TheVariants.{Act, Take}
use Rattle.og_runs.specs.declared.Stamp.{Stamp}
use Rattle.og_msg.specs.declared.Note.{Note}
use Rattle.og_msg.specs.declared.Note.TheVariants.{Access as Accessed, Emit, Exit, Trap, Spent, Begin, No, Moved, Freed}
use Rattle.og_trace.specs.declared.item.Head.{Head}
use Rattle.og_trace.specs.declared.item.End.{End}
use Rattle.og_trace.specs.declared.item.Item.{Item}
use Rattle.og_trace.specs.declared.item.Item.TheVariants.{Head as HeadLine, Choice as ChoiceLine, Note as NoteLine, End as EndLine}
use Rattle.og_trace.specs.Text.{hex, page_word, frame_word, spaced, joined, op_word, cause_word, reason_word, access_words, note_words, head_words, choice_words, end_word, item_text}
use Rattle.og_trace.specs.Reader.{word_in, after_word, decimal_in, hex_in, byte_in, short_in, int_in, page_in, frame_in, op_of, cause_of, reason_of, width_in, after_place, answer_in, load_in, store_in, reserve_in, conditional_in, atomic_in, access_in, hart_in, mover_in, note_in, stamp_in, take_in, end_in, head_from, item_in, item_of}
use Rattle.og_trace.specs.Grammar.{is_number, is_actor, is_width, is_frame, is_page, is_trap, is_access_line, is_note_line, is_choice_line, is_head_line, is_machine_line, is_policy_line, is_end_line, is_in_range}
use Rattle.og_trace.proofs.Words.{lacks, word_is, after_is, first_is, rest_is, decimal_is, after_decimal, hex_is, after_hex, frame_is, after_frame}

-- ------------------------------------------------------------------------------ ranges as facts

pub and_left : (a b : Bool) → (a && b) ≡ true → a ≡ true
and_left true b h = refl
and_left false b h = h

pub and_right : (a b : Bool) → (a && b) ≡ true → b ≡ true
and_right true b h = h
and_right false b h = absurd (cc)

pub number_fits : (n : ℕ) → is_number n ≡ true → n < 2 ^ 64
number_fits n h = grind (arith, nat_tests)

pub actor_fits : (a : ℕ) → is_actor a ≡ true → a < 129
actor_fits a h = grind (arith, nat_tests)

pub width_fits : (w : ℕ) → is_width w ≡ true → w < 9
width_fits w h = grind (arith, nat_tests)

pub page_fits : (p : ℕ) → is_page p ≡ true → p < 2 ^ 52
page_fits p h = grind (arith, nat_tests)

pub frame_fits : (f : Frame) → is_frame f ≡ true → (f.home < 256) × (f.index < 65536)
frame_fits f h = (home (and_left _ _ h), index (and_right (nat_lt f.home 256) _ h))
  where
    home : nat_lt f.home 256 ≡ true → f.home < 256
    home h = grind (arith, nat_tests)

    index : nat_lt f.index 65536 ≡ true → f.index < 65536
    index h = grind (arith, nat_tests)

-- ------------------------------------------------------------------------------ words

byte_is : (n : ℕ) (ws : List (List ℕ)) → n < 256 → byte_in (spaced (decimal n ∷ ws)) ≡ n
byte_is n ws lt = ap (λ (m : ℕ). m % 2 ^ 8) (decimal_is n ws (omega arith)) ∙ omega arith

short_is : (n : ℕ) (ws : List (List ℕ)) → n < 65536 → short_in (spaced (decimal n ∷ ws)) ≡ n
short_is n ws lt = ap (λ (m : ℕ). m % 2 ^ 16) (decimal_is n ws (omega arith)) ∙ omega arith

int_is : (n : ℕ) (ws : List (List ℕ)) → n < 2 ^ 32 → int_in (spaced (decimal n ∷ ws)) ≡ n
int_is n ws lt = ap (λ (m : ℕ). m % 2 ^ 32) (decimal_is n ws (omega arith)) ∙ omega arith

page_is : (p : VPage) (ws : List (List ℕ)) → p.0 < 2 ^ 52 → page_in (spaced (page_word p.0 ∷ ws)) ≡ p
page_is p ws lt =
    let small : p.0 * 4096 % 2 ^ 64 ≡ p.0 * 4096 = omega arith in
    let read : hex_in (spaced (page_word p.0 ∷ ws)) / 4096 ≡ p.0 = ap (λ (m : ℕ). m / 4096) (hex_is (p.0 * 4096 % 2 ^ 64) ws (omega arith)) ∙ omega arith in
    ap (λ (m : ℕ). let q : VPage = record { 0 = m } in q) read

op_is : (op : AtomicOp) → op_of (op_word op) ≡ Some op
unfolding op_of
op_is Swap = refl
op_is Add = refl
op_is Xor = refl
op_is And = refl
op_is Or = refl
op_is Min = refl
op_is Max = refl
op_is Minu = refl
op_is Maxu = refl

op_lacks : (op : AtomicOp) → lacks 32 (op_word op) ≡ true
op_lacks Swap = refl
op_lacks Add = refl
op_lacks Xor = refl
op_lacks And = refl
op_lacks Or = refl
op_lacks Min = refl
op_lacks Max = refl
op_lacks Minu = refl
op_lacks Maxu = refl

reason_is : (r : Reason) → reason_of (reason_word r) ≡ Some r
unfolding reason_of
reason_is Busy = refl
reason_is Shared = refl
reason_is Worn = refl
reason_is Full = refl

reason_lacks : (r : Reason) → lacks 32 (reason_word r) ≡ true
reason_lacks Busy = refl
reason_lacks Shared = refl
reason_lacks Worn = refl
reason_lacks Full = refl

cause_is : (c : Cause) → is_trap c ≡ true → cause_of (cause_word c) ≡ Some c
unfolding cause_of
cause_is (Exited v) h = absurd (cc)
cause_is Illegal h = refl
cause_is Fetch h = refl
cause_is Misaligned h = refl
cause_is Unmapped h = refl
cause_is Call h = refl
cause_is Break h = refl
cause_is OutOfInstructions h = absurd (cc)

cause_lacks : (c : Cause) → lacks 32 (cause_word c) ≡ true
cause_lacks (Exited v) = refl
cause_lacks Illegal = refl
cause_lacks Fetch = refl
cause_lacks Misaligned = refl
cause_lacks Unmapped = refl
cause_lacks Call = refl
cause_lacks Break = refl
cause_lacks OutOfInstructions = refl

-- ------------------------------------------------------------------------------ accesses

abbrev answered : ℕ → List (List ℕ)
answered answer = codes "=" ∷ hex answer ∷ []

answer_is : (n : ℕ) → n < 2 ^ 64 → answer_in (spaced (answered n)) ≡ n
answer_is n lt = ap hex_in (after_is (codes "=") (hex n ∷ []) refl) ∙ hex_is n [] lt

-- after an address and a width
place_is : (addr width : ℕ) (ws : List (List ℕ)) → width < 9 → after_place (spaced (hex addr ∷ decimal width ∷ ws)) ≡ spaced ws
place_is addr width ws lt = ap after_word (after_hex addr (decimal width ∷ ws)) ∙ after_decimal width ws (omega arith)

width_is : (addr width : ℕ) (ws : List (List ℕ)) → width < 9 → width_in (spaced (hex addr ∷ decimal width ∷ ws)) ≡ width
width_is addr width ws lt = ap byte_in (after_hex addr (decimal width ∷ ws)) ∙ byte_is width ws (omega arith)

value_is : (addr width value : ℕ) (ws : List (List ℕ)) → width < 9 → value < 2 ^ 64 → hex_in (after_place (spaced (hex addr ∷ decimal width ∷ hex value ∷ ws))) ≡ value
value_is addr width value ws lt fits = ap hex_in (place_is addr width (hex value ∷ ws) lt) ∙ hex_is value ws fits

last_is : (addr width value answer : ℕ) → width < 9 → answer < 2 ^ 64 → answer_in (after_word (after_place (spaced (hex addr ∷ decimal width ∷ hex value ∷ answered answer)))) ≡ answer
last_is addr width value answer lt fits =
    ap (λ (r : List ℕ). answer_in (after_word r)) (place_is addr width (hex value ∷ answered answer) lt)
    ∙ (ap answer_in (after_hex value (answered answer)) ∙ answer_is answer fits)

load_is : (addr width answer : ℕ) → addr < 2 ^ 64 → width < 9 → answer < 2 ^ 64 → load_in (spaced (hex addr ∷ decimal width ∷ answered answer)) ≡ Accessed (Load addr width) answer
load_is addr width answer ha hw hv =
    let a : hex_in (spaced (hex addr ∷ decimal width ∷ answered answer)) ≡ addr = hex_is addr (decimal width ∷ answered answer) ha in
    let w : width_in (spaced (hex addr ∷ decimal width ∷ answered answer)) ≡ width = width_is addr width (answered answer) hw in
    let v : answer_in (after_place (spaced (hex addr ∷ decimal width ∷ answered answer))) ≡ answer = ap answer_in (place_is addr width (answered answer) hw) ∙ answer_is answer hv in
    ap (λ (x : ℕ). Accessed (Load x (width_in (spaced (hex addr ∷ decimal width ∷ answered answer)))) (answer_in (after_place (spaced (hex addr ∷ decimal width ∷ answered answer))))) a ∙ ap₂ (λ (y z : ℕ). Accessed (Load addr y) z) w v

store_is : (addr width value : ℕ) → addr < 2 ^ 64 → width < 9 → value < 2 ^ 64 → store_in (spaced (hex addr ∷ decimal width ∷ hex value ∷ [])) ≡ Accessed (Store addr width value) 0
store_is addr width value ha hw hv =
    let s : List ℕ = spaced (hex addr ∷ decimal width ∷ hex value ∷ []) in
    let a : hex_in s ≡ addr = hex_is addr (decimal width ∷ hex value ∷ []) ha in
    let w : width_in s ≡ width = width_is addr width (hex value ∷ []) hw in
    let v : hex_in (after_place s) ≡ value = value_is addr width value [] hw hv in
    ap (λ (x : ℕ). Accessed (Store x (width_in s) (hex_in (after_place s))) 0) a ∙ ap₂ (λ (y z : ℕ). Accessed (Store addr y z) 0) w v

reserve_is : (addr width answer : ℕ) → addr < 2 ^ 64 → width < 9 → answer < 2 ^ 64 → reserve_in (spaced (hex addr ∷ decimal width ∷ answered answer)) ≡ Accessed (Reserve addr width) answer
reserve_is addr width answer ha hw hv =
    let s : List ℕ = spaced (hex addr ∷ decimal width ∷ answered answer) in
    let a : hex_in s ≡ addr = hex_is addr (decimal width ∷ answered answer) ha in
    let w : width_in s ≡ width = width_is addr width (answered answer) hw in
    let v : answer_in (after_place s) ≡ answer = ap answer_in (place_is addr width (answered answer) hw) ∙ answer_is answer hv in
    ap (λ (x : ℕ). Accessed (Reserve x (width_in s)) (answer_in (after_place s))) a ∙ ap₂ (λ (y z : ℕ). Accessed (Reserve addr y) z) w v

conditional_is : (addr width value answer : ℕ) → addr < 2 ^ 64 → width < 9 → value < 2 ^ 64 → answer < 2 ^ 64 → conditional_in (spaced (hex addr ∷ decimal width ∷ hex value ∷ answered answer)) ≡ Accessed (Conditional addr width value) answer
conditional_is addr width value answer ha hw hv hr =
    let s : List ℕ = spaced (hex addr ∷ decimal width ∷ hex value ∷ answered answer) in
    let a : hex_in s ≡ addr = hex_is addr (decimal width ∷ hex value ∷ answered answer) ha in
    let w : width_in s ≡ width = width_is addr width (hex value ∷ answered answer) hw in
    let v : hex_in (after_place s) ≡ value = value_is addr width value (answered answer) hw hv in
    let r : answer_in (after_word (after_place s)) ≡ answer = last_is addr width value answer hw hr in
    ap₂ (λ (x y : ℕ). Accessed (Conditional x y (hex_in (after_place s))) (answer_in (after_word (after_place s)))) a w ∙ ap₂ (λ (y z : ℕ). Accessed (Conditional addr width y) z) v r

atomic_is : (op : AtomicOp) (addr width value answer : ℕ) → addr < 2 ^ 64 → width < 9 → value < 2 ^ 64 → answer < 2 ^ 64 → atomic_in op (spaced (hex addr ∷ decimal width ∷ hex value ∷ answered answer)) ≡ Accessed (Atomic op addr width value) answer
atomic_is op addr width value answer ha hw hv hr =
    let s : List ℕ = spaced (hex addr ∷ decimal width ∷ hex value ∷ answered answer) in
    let a : hex_in s ≡ addr = hex_is addr (decimal width ∷ hex value ∷ answered answer) ha in
    let w : width_in s ≡ width = width_is addr width (hex value ∷ answered answer) hw in
    let v : hex_in (after_place s) ≡ value = value_is addr width value (answered answer) hw hv in
    let r : answer_in (after_word (after_place s)) ≡ answer = last_is addr width value answer hw hr in
    ap₂ (λ (x y : ℕ). Accessed (Atomic op x y (hex_in (after_place s))) (answer_in (after_word (after_place s)))) a w ∙ ap₂ (λ (y z : ℕ). Accessed (Atomic op addr width y) z) v r

-- ------------------------------------------------------------------------------ notes

-- a note by its first word
note_by : List ℕ → List ℕ → Option Note
note_by w rest = option_or (access_in w rest) (option_or (hart_in w rest) (mover_in w rest))

by_word : (w : List ℕ) (ws : List (List ℕ)) → lacks 32 w ≡ true → note_in (spaced (w ∷ ws)) ≡ note_by w (spaced ws)
unfolding note_by
by_word w ws h = ap₂ (λ (v r : List ℕ). option_or (access_in v r) (option_or (hart_in v r) (mover_in v r))) (word_is w ws h) (after_is w ws h)

by_load : (r : List ℕ) → note_by (codes "load") r ≡ Some (load_in r)
unfolding note_by access_in
by_load r = refl

by_store : (r : List ℕ) → note_by (codes "store") r ≡ Some (store_in r)
unfolding note_by access_in
by_store r = refl

by_reserve : (r : List ℕ) → note_by (codes "lr") r ≡ Some (reserve_in r)
unfolding note_by access_in
by_reserve r = refl

by_conditional : (r : List ℕ) → note_by (codes "sc") r ≡ Some (conditional_in r)
unfolding note_by access_in
by_conditional r = refl

by_op : (op : AtomicOp) (r : List ℕ) → note_by (op_word op) r ≡ Some (atomic_in op r)
unfolding note_by access_in op_of
by_op Swap r = refl
by_op Add r = refl
by_op Xor r = refl
by_op And r = refl
by_op Or r = refl
by_op Min r = refl
by_op Max r = refl
by_op Minu r = refl
by_op Maxu r = refl

by_emit : (r : List ℕ) → note_by (codes "emit") r ≡ Some (Emit (hex_in r))
unfolding note_by access_in op_of hart_in
by_emit r = refl

by_exit : (r : List ℕ) → note_by (codes "exit") r ≡ Some (Exit (hex_in r))
unfolding note_by access_in op_of hart_in
by_exit r = refl

by_spent : (r : List ℕ) → note_by (codes "spent") r ≡ Some Spent
unfolding note_by access_in op_of hart_in
by_spent r = refl

trap_or : List ℕ → Option Cause → Option Note
trap_or r None = None
trap_or r (Some c) = Some (Trap c (hex_in (after_word r)))

by_trap : (r : List ℕ) (c : Cause) → cause_of (word_in r) ≡ Some c → note_by (codes "trap") r ≡ Some (Trap c (hex_in (after_word r)))
unfolding note_by access_in op_of hart_in mover_in
by_trap r c is = ap (λ (o : Option Cause). option_or (option_map (λ cause. Trap cause (hex_in (after_word r))) o) None) is

by_begin : (r : List ℕ) → note_by (codes "begin") r ≡ Some (Begin (page_in r) (frame_in (after_word r)) (frame_in (after_word (after_word r))))
unfolding note_by access_in op_of hart_in mover_in
by_begin r = refl

by_move : (r : List ℕ) → note_by (codes "move") r ≡ Some (Moved (page_in r) (frame_in (after_word r)) (frame_in (after_word (after_word r))))
unfolding note_by access_in op_of hart_in mover_in
by_move r = refl

by_free : (r : List ℕ) → note_by (codes "free") r ≡ Some (Freed (frame_in r))
unfolding note_by access_in op_of hart_in mover_in
by_free r = refl

by_no : (r : List ℕ) (reason : Reason) → reason_of (word_in r) ≡ Some reason → note_by (codes "no") r ≡ Some (No reason (frame_in (after_word r)) (byte_in (after_word (after_word r))))
unfolding note_by access_in op_of hart_in mover_in
by_no r reason is = ap (λ (o : Option Reason). option_map (λ reason. No reason (frame_in (after_word r)) (byte_in (after_word (after_word r)))) o) is

access_read : (access : Access) (answer : ℕ) → is_access_line access answer ≡ true → note_in (spaced (access_words access answer)) ≡ Some (Accessed access answer)
access_read (Load addr width) answer h =
    let hn : (is_number addr && is_width width) ≡ true = and_left _ (is_number answer) h in
    by_word (codes "load") (hex addr ∷ decimal width ∷ answered answer) refl ∙ (by_load (spaced (hex addr ∷ decimal width ∷ answered answer))
    ∙ ap (λ (n : Note). Some n) (load_is addr width answer (number_fits addr (and_left _ (is_width width) hn)) (width_fits width (and_right (is_number addr) _ hn)) (number_fits answer (and_right (is_number addr && is_width width) _ h))))
access_read (Store addr width value) answer h =
    let hs : (is_number addr && is_width width && is_number value) ≡ true = and_left _ (nat_eq answer 0) h in
    let hn : (is_number addr && is_width width) ≡ true = and_left _ (is_number value) hs in
    let none : nat_eq answer 0 ≡ true = and_right (is_number addr && is_width width && is_number value) _ h in
    let zero_answer : 0 ≡ answer = grind (arith, nat_tests) in
    by_word (codes "store") (hex addr ∷ decimal width ∷ hex value ∷ []) refl ∙ (by_store (spaced (hex addr ∷ decimal width ∷ hex value ∷ []))
    ∙ (ap (λ (n : Note). Some n) (store_is addr width value (number_fits addr (and_left _ (is_width width) hn)) (width_fits width (and_right (is_number addr) _ hn)) (number_fits value (and_right (is_number addr && is_width width) _ hs)))
    ∙ ap (λ (a : ℕ). Some (Accessed (Store addr width value) a)) zero_answer))
access_read (Reserve addr width) answer h =
    let hn : (is_number addr && is_width width) ≡ true = and_left _ (is_number answer) h in
    by_word (codes "lr") (hex addr ∷ decimal width ∷ answered answer) refl ∙ (by_reserve (spaced (hex addr ∷ decimal width ∷ answered answer))
    ∙ ap (λ (n : Note). Some n) (reserve_is addr width answer (number_fits addr (and_left _ (is_width width) hn)) (width_fits width (and_right (is_number addr) _ hn)) (number_fits answer (and_right (is_number addr && is_width width) _ h))))
access_read (Conditional addr width value) answer h =
    let hs : (is_number addr && is_width width && is_number value) ≡ true = and_left _ (is_number answer) h in
    let hn : (is_number addr && is_width width) ≡ true = and_left _ (is_number value) hs in
    by_word (codes "sc") (hex addr ∷ decimal width ∷ hex value ∷ answered answer) refl ∙ (by_conditional (spaced (hex addr ∷ decimal width ∷ hex value ∷ answered answer))
    ∙ ap (λ (n : Note). Some n) (conditional_is addr width value answer (number_fits addr (and_left _ (is_width width) hn)) (width_fits width (and_right (is_number addr) _ hn)) (number_fits value (and_right (is_number addr && is_width width) _ hs)) (number_fits answer (and_right (is_number addr && is_width width && is_number value) _ h))))
access_read (Atomic op addr width value) answer h =
    let hs : (is_number addr && is_width width && is_number value) ≡ true = and_left _ (is_number answer) h in
    let hn : (is_number addr && is_width width) ≡ true = and_left _ (is_number value) hs in
    by_word (op_word op) (hex addr ∷ decimal width ∷ hex value ∷ answered answer) (op_lacks op) ∙ (by_op op (spaced (hex addr ∷ decimal width ∷ hex value ∷ answered answer))
    ∙ ap (λ (n : Note). Some n) (atomic_is op addr width value answer (number_fits addr (and_left _ (is_width width) hn)) (width_fits width (and_right (is_number addr) _ hn)) (number_fits value (and_right (is_number addr && is_width width) _ hs)) (number_fits answer (and_right (is_number addr && is_width width && is_number value) _ h))))

-- a page and two frames
abbrev moved_words : VPage → Frame → Frame → List (List ℕ)
moved_words p old new = page_word p.0 ∷ frame_word old ∷ frame_word new ∷ []

old_is : (p : VPage) (old new : Frame) → is_frame old ≡ true → frame_in (after_word (spaced (moved_words p old new))) ≡ old
old_is p old new ho =
    let o : (old.home < 256) × (old.index < 65536) = frame_fits old ho in
    ap frame_in (after_hex (p.0 * 4096 % 2 ^ 64) (frame_word old ∷ frame_word new ∷ [])) ∙ frame_is old (frame_word new ∷ []) o.0 o.1

new_is : (p : VPage) (old new : Frame) → is_frame old ≡ true → is_frame new ≡ true → frame_in (after_word (after_word (spaced (moved_words p old new)))) ≡ new
new_is p old new ho hn =
    let o : (old.home < 256) × (old.index < 65536) = frame_fits old ho in
    let n : (new.home < 256) × (new.index < 65536) = frame_fits new hn in
    ap (λ (r : List ℕ). frame_in (after_word r)) (after_hex (p.0 * 4096 % 2 ^ 64) (frame_word old ∷ frame_word new ∷ []))
    ∙ (ap frame_in (after_frame old (frame_word new ∷ []) o.0 o.1) ∙ frame_is new [] n.0 n.1)

note_read : (note : Note) → is_note_line note ≡ true → note_in (spaced (note_words note)) ≡ Some note
note_read (Accessed access answer) h = access_read access answer h
note_read (Emit value) h = by_word (codes "emit") (hex value ∷ []) refl ∙ (by_emit (spaced (hex value ∷ [])) ∙ ap (λ (v : ℕ). Some (Emit v)) (hex_is value [] (number_fits value h)))
note_read (Exit value) h = by_word (codes "exit") (hex value ∷ []) refl ∙ (by_exit (spaced (hex value ∷ [])) ∙ ap (λ (v : ℕ). Some (Exit v)) (hex_is value [] (number_fits value h)))
note_read Spent h = by_word (codes "spent") [] refl ∙ by_spent (spaced [])
note_read (Trap cause pc) h =
    let name : cause_of (word_in (spaced (cause_word cause ∷ hex pc ∷ []))) ≡ Some cause = ap cause_of (word_is (cause_word cause) (hex pc ∷ []) (cause_lacks cause)) ∙ cause_is cause (and_left _ (is_number pc) h) in
    by_word (codes "trap") (cause_word cause ∷ hex pc ∷ []) refl ∙ (by_trap (spaced (cause_word cause ∷ hex pc ∷ [])) cause name
    ∙ ap (λ (v : ℕ). Some (Trap cause v)) (ap hex_in (after_is (cause_word cause) (hex pc ∷ []) (cause_lacks cause)) ∙ hex_is pc [] (number_fits pc (and_right (is_trap cause) _ h))))
note_read (Begin p old new) h =
    let hpo : (is_page p.0 && is_frame old) ≡ true = and_left _ (is_frame new) h in
    let hn : is_frame new ≡ true = and_right (is_page p.0 && is_frame old) _ h in
    let ho : is_frame old ≡ true = and_right (is_page p.0) _ hpo in
    let hp : p.0 < 2 ^ 52 = page_fits p.0 (and_left _ (is_frame old) hpo) in
    by_word (codes "begin") (moved_words p old new) refl ∙ (by_begin (spaced (moved_words p old new))
    ∙ (ap (λ (q : VPage). Some (Begin q (frame_in (after_word (spaced (moved_words p old new)))) (frame_in (after_word (after_word (spaced (moved_words p old new))))))) (page_is p (frame_word old ∷ frame_word new ∷ []) hp)
    ∙ ap₂ (λ (f g : Frame). Some (Begin p f g)) (old_is p old new ho) (new_is p old new ho hn)))
note_read (Moved p old new) h =
    let hpo : (is_page p.0 && is_frame old) ≡ true = and_left _ (is_frame new) h in
    let hn : is_frame new ≡ true = and_right (is_page p.0 && is_frame old) _ h in
    let ho : is_frame old ≡ true = and_right (is_page p.0) _ hpo in
    let hp : p.0 < 2 ^ 52 = page_fits p.0 (and_left _ (is_frame old) hpo) in
    by_word (codes "move") (moved_words p old new) refl ∙ (by_move (spaced (moved_words p old new))
    ∙ (ap (λ (q : VPage). Some (Moved q (frame_in (after_word (spaced (moved_words p old new)))) (frame_in (after_word (after_word (spaced (moved_words p old new))))))) (page_is p (frame_word old ∷ frame_word new ∷ []) hp)
    ∙ ap₂ (λ (f g : Frame). Some (Moved p f g)) (old_is p old new ho) (new_is p old new ho hn)))
note_read (Freed f) h =
    let i : (f.home < 256) × (f.index < 65536) = frame_fits f h in
    by_word (codes "free") (frame_word f ∷ []) refl ∙ (by_free (spaced (frame_word f ∷ [])) ∙ ap (λ (g : Frame). Some (Freed g)) (frame_is f [] i.0 i.1))
note_read (No reason f node) h =
    let i : (f.home < 256) × (f.index < 65536) = frame_fits f (and_left _ (is_actor node) h) in
    let a : node < 129 = actor_fits node (and_right (is_frame f) _ h) in
    let ws : List (List ℕ) = frame_word f ∷ decimal node ∷ [] in
    let name : reason_of (word_in (spaced (reason_word reason ∷ ws))) ≡ Some reason = ap reason_of (word_is (reason_word reason) ws (reason_lacks reason)) ∙ reason_is reason in
    let after : after_word (spaced (reason_word reason ∷ ws)) ≡ spaced ws = after_is (reason_word reason) ws (reason_lacks reason) in
    by_word (codes "no") (reason_word reason ∷ ws) refl ∙ (by_no (spaced (reason_word reason ∷ ws)) reason name
    ∙ ap₂ (λ (g : Frame) (n : ℕ). Some (No reason g n)) (ap frame_in after ∙ frame_is f (decimal node ∷ []) i.0 i.1)
    (ap (λ (r : List ℕ). byte_in (after_word r)) after ∙ (ap byte_in (after_frame f (decimal node ∷ []) i.0 i.1) ∙ byte_is node [] (omega arith))))

-- ------------------------------------------------------------------------------ lines

by_first : (w : List ℕ) (ws : List (List ℕ)) → lacks 32 w ≡ true → item_of (joined (w ∷ ws)) ≡ item_in w (spaced ws)
by_first w ws h = ap₂ item_in (first_is w ws h) (rest_is w ws h)

in_act : (r : List ℕ) → item_in (codes "act") r ≡ Some (ChoiceLine (Act (byte_in r)))
unfolding item_in
in_act r = refl

in_take : (r : List ℕ) → item_in (codes "take") r ≡ Some (ChoiceLine (take_in r))
unfolding item_in
in_take r = refl

in_at : (r : List ℕ) → item_in (codes "at") r ≡ option_map (λ note. NoteLine (stamp_in r) note) (note_in (after_word (after_word r)))
unfolding item_in
in_at r = refl

in_end : (quiet : Bool) (r : List ℕ) → item_in (end_word quiet) r ≡ Some (EndLine (end_in quiet r))
unfolding item_in
in_end true r = refl
in_end false r = refl

in_head : (r : List ℕ) → item_in (codes "origin") r ≡ Some (HeadLine (head_from (after_word r)))
unfolding item_in
in_head r = refl

end_lacks : (quiet : Bool) → lacks 32 (end_word quiet) ≡ true
end_lacks true = refl
end_lacks false = refl

choice_read : (choice : Choice) → is_choice_line choice ≡ true → item_of (joined (choice_words choice)) ≡ Some (ChoiceLine choice)
choice_read (Act actor) h =
    let a : actor < 129 = actor_fits actor h in
    by_first (codes "act") (decimal actor ∷ []) refl ∙ (in_act (spaced (decimal actor ∷ [])) ∙ ap (λ (n : ℕ). Some (ChoiceLine (Act n))) (byte_is actor [] (omega arith)))
choice_read (Take actor id) h =
    let hs : (is_actor actor && is_actor id.sender) ≡ true = and_left _ (is_number id.seq) h in
    let a : actor < 129 = actor_fits actor (and_left _ (is_actor id.sender) hs) in
    let s : id.sender < 129 = actor_fits id.sender (and_right (is_actor actor) _ hs) in
    let q : id.seq < 2 ^ 64 = number_fits id.seq (and_right (is_actor actor && is_actor id.sender) _ h) in
    let r : List ℕ = spaced (decimal actor ∷ decimal id.sender ∷ decimal id.seq ∷ []) in
    let one : after_word r ≡ spaced (decimal id.sender ∷ decimal id.seq ∷ []) = after_decimal actor (decimal id.sender ∷ decimal id.seq ∷ []) (omega arith) in
    let sender : byte_in (after_word r) ≡ id.sender = ap byte_in one ∙ byte_is id.sender (decimal id.seq ∷ []) (omega arith) in
    let seq : decimal_in (after_word (after_word r)) ≡ id.seq = ap (λ (x : List ℕ). decimal_in (after_word x)) one ∙ (ap decimal_in (after_decimal id.sender (decimal id.seq ∷ []) (omega arith)) ∙ decimal_is id.seq [] q) in
    by_first (codes "take") (decimal actor ∷ decimal id.sender ∷ decimal id.seq ∷ []) refl ∙ (in_take r
    ∙ (ap (λ (n : ℕ). Some (ChoiceLine (Take n (record { sender = byte_in (after_word r); seq = decimal_in (after_word (after_word r)) })))) (byte_is actor (decimal id.sender ∷ decimal id.seq ∷ []) (omega arith))
    ∙ ap₂ (λ (n m : ℕ). Some (ChoiceLine (Take actor (record { sender = n; seq = m })))) sender seq))

stamped_read : (stamp : Stamp) (note : Note) → is_number stamp.clock ≡ true → is_actor stamp.actor ≡ true → is_note_line note ≡ true → item_of (joined (codes "at" ∷ decimal stamp.clock ∷ decimal stamp.actor ∷ note_words note)) ≡ Some (NoteLine stamp note)
stamped_read stamp note hc ha hn =
    let c : stamp.clock < 2 ^ 64 = number_fits stamp.clock hc in
    let a : stamp.actor < 129 = actor_fits stamp.actor ha in
    let r : List ℕ = spaced (decimal stamp.clock ∷ decimal stamp.actor ∷ note_words note) in
    let one : after_word r ≡ spaced (decimal stamp.actor ∷ note_words note) = after_decimal stamp.clock (decimal stamp.actor ∷ note_words note) c in
    let two : after_word (after_word r) ≡ spaced (note_words note) = ap after_word one ∙ after_decimal stamp.actor (note_words note) (omega arith) in
    let read : note_in (after_word (after_word r)) ≡ Some note = ap note_in two ∙ note_read note hn in
    let actor : byte_in (after_word r) ≡ stamp.actor = ap byte_in one ∙ byte_is stamp.actor (note_words note) (omega arith) in
    by_first (codes "at") (decimal stamp.clock ∷ decimal stamp.actor ∷ note_words note) refl ∙ (in_at r
    ∙ (ap (λ (o : Option Note). option_map (λ n. NoteLine (stamp_in r) n) o) read
    ∙ ap₂ (λ (n m : ℕ). Some (NoteLine (record { clock = n; actor = m }) note)) (decimal_is stamp.clock (decimal stamp.actor ∷ note_words note) c) actor))

end_read : (end : End) → is_end_line end ≡ true → item_of (joined (end_word end.quiet ∷ decimal end.events ∷ decimal end.accesses ∷ [])) ≡ Some (EndLine end)
end_read end h =
    let e : end.events < 2 ^ 64 = number_fits end.events (and_left _ (is_number end.accesses) h) in
    let a : end.accesses < 2 ^ 64 = number_fits end.accesses (and_right (is_number end.events) _ h) in
    let r : List ℕ = spaced (decimal end.events ∷ decimal end.accesses ∷ []) in
    let second : decimal_in (after_word r) ≡ end.accesses = ap decimal_in (after_decimal end.events (decimal end.accesses ∷ []) e) ∙ decimal_is end.accesses [] a in
    by_first (end_word end.quiet) (decimal end.events ∷ decimal end.accesses ∷ []) (end_lacks end.quiet) ∙ (in_end end.quiet r
    ∙ ap₂ (λ (n m : ℕ). Some (EndLine (record { quiet = end.quiet; events = n; accesses = m }))) (decimal_is end.events (decimal end.accesses ∷ []) e) second)

-- ------------------------------------------------------------------------------ heads

pub record Machine (h : Head) : Type 0 where
  pub nodes : h.nodes < 256
  pub frames : h.frames < 65536
  pub sets : h.sets < 65536
  pub ways : h.ways < 256
  pub tlb : h.tlb < 256

pub machine_fits : (h : Head) → is_machine_line h ≡ true → Machine h
machine_fits h is = record { nodes = grind (arith, nat_tests); frames = grind (arith, nat_tests); sets = grind (arith, nat_tests); ways = grind (arith, nat_tests); tlb = grind (arith, nat_tests) }

pub record Policy (h : Head) : Type 0 where
  pub instructions : h.instructions < 2 ^ 32
  pub trigger : h.trigger < 2 ^ 32
  pub sharing : h.sharing < 2 ^ 32
  pub moves : h.moves < 2 ^ 32
  pub reset : h.reset < 2 ^ 32

pub policy_fits : (h : Head) → is_policy_line h ≡ true → Policy h
policy_fits h is = record { instructions = grind (arith, nat_tests); trigger = grind (arith, nat_tests); sharing = grind (arith, nat_tests); moves = grind (arith, nat_tests); reset = grind (arith, nat_tests) }

abbrev head_with : ℕ → ℕ → ℕ → ℕ → ℕ → ℕ → ℕ → ℕ → ℕ → ℕ → Head
head_with a b c d e f g i j k = record { nodes = a; frames = b; sets = c; ways = d; tlb = e; instructions = f; trigger = g; sharing = i; moves = j; reset = k }

head_made : (h : Head) (a b c d e f g i j k : ℕ) → a ≡ h.nodes → b ≡ h.frames → c ≡ h.sets → d ≡ h.ways → e ≡ h.tlb → f ≡ h.instructions → g ≡ h.trigger → i ≡ h.sharing → j ≡ h.moves → k ≡ h.reset → head_with a b c d e f g i j k ≡ h
head_made h a b c d e f g i j k pa pb pc pd pe pf pg pi pj pk =
    ap₂ (λ (x y : ℕ). head_with x y c d e f g i j k) pa pb ∙ (ap₂ (λ (x y : ℕ). head_with h.nodes h.frames x y e f g i j k) pc pd
    ∙ (ap₂ (λ (x y : ℕ). head_with h.nodes h.frames h.sets h.ways x y g i j k) pe pf ∙ (ap₂ (λ (x y : ℕ). head_with h.nodes h.frames h.sets h.ways h.tlb h.instructions x y j k) pg pi
    ∙ ap₂ (λ (x y : ℕ). head_with h.nodes h.frames h.sets h.ways h.tlb h.instructions h.trigger h.sharing x y) pj pk)))

-- the words after a word more
next : (n : ℕ) (r : List ℕ) (ws : List (List ℕ)) → r ≡ spaced (decimal n ∷ ws) → n < 2 ^ 64 → after_word r ≡ spaced ws
next n r ws is lt = ap after_word is ∙ after_decimal n ws lt

head_read : (h : Head) → is_head_line h ≡ true → item_of (joined (head_words h)) ≡ Some (HeadLine h)
head_read h is =
    let m : Machine h = machine_fits h (and_left _ (is_policy_line h) is) in
    let p : Policy h = policy_fits h (and_right (is_machine_line h) _ is) in
    let w10 : List (List ℕ) = decimal h.reset ∷ [] in
    let w9 : List (List ℕ) = decimal h.moves ∷ w10 in
    let w8 : List (List ℕ) = decimal h.sharing ∷ w9 in
    let w7 : List (List ℕ) = decimal h.trigger ∷ w8 in
    let w6 : List (List ℕ) = decimal h.instructions ∷ w7 in
    let w5 : List (List ℕ) = decimal h.tlb ∷ w6 in
    let w4 : List (List ℕ) = decimal h.ways ∷ w5 in
    let w3 : List (List ℕ) = decimal h.sets ∷ w4 in
    let w2 : List (List ℕ) = decimal h.frames ∷ w3 in
    let w1 : List (List ℕ) = decimal h.nodes ∷ w2 in
    let r1 : List ℕ = after_word (spaced (codes "2" ∷ w1)) in
    let e1 : r1 ≡ spaced w1 = after_is (codes "2") w1 refl in
    let e2 : after_word r1 ≡ spaced w2 = next h.nodes r1 w2 e1 (let k : h.nodes < 256 = m.nodes in omega arith) in
    let r2 : List ℕ = after_word r1 in
    let e3 : after_word r2 ≡ spaced w3 = next h.frames r2 w3 e2 (let k : h.frames < 65536 = m.frames in omega arith) in
    let r3 : List ℕ = after_word r2 in
    let e4 : after_word r3 ≡ spaced w4 = next h.sets r3 w4 e3 (let k : h.sets < 65536 = m.sets in omega arith) in
    let r4 : List ℕ = after_word r3 in
    let e5 : after_word r4 ≡ spaced w5 = next h.ways r4 w5 e4 (let k : h.ways < 256 = m.ways in omega arith) in
    let r5 : List ℕ = after_word r4 in
    let e6 : after_word r5 ≡ spaced w6 = next h.tlb r5 w6 e5 (let k : h.tlb < 256 = m.tlb in omega arith) in
    let r6 : List ℕ = after_word r5 in
    let e7 : after_word r6 ≡ spaced w7 = next h.instructions r6 w7 e6 (let k : h.instructions < 2 ^ 32 = p.instructions in omega arith) in
    let r7 : List ℕ = after_word r6 in
    let e8 : after_word r7 ≡ spaced w8 = next h.trigger r7 w8 e7 (let k : h.trigger < 2 ^ 32 = p.trigger in omega arith) in
    let r8 : List ℕ = after_word r7 in
    let e9 : after_word r8 ≡ spaced w9 = next h.sharing r8 w9 e8 (let k : h.sharing < 2 ^ 32 = p.sharing in omega arith) in
    let r9 : List ℕ = after_word r8 in
    let e10 : after_word r9 ≡ spaced w10 = next h.moves r9 w10 e9 (let k : h.moves < 2 ^ 32 = p.moves in omega arith) in
    by_first (codes "origin") (codes "2" ∷ w1) refl ∙ (in_head (spaced (codes "2" ∷ w1))
    ∙ ap (λ (x : Head). Some (HeadLine x)) (head_made h (byte_in r1) (short_in r2) (short_in r3) (byte_in r4) (byte_in r5) (int_in r6) (int_in r7) (int_in r8) (int_in r9) (int_in (after_word r9))
    (ap byte_in e1 ∙ byte_is h.nodes w2 m.nodes) (ap short_in e2 ∙ short_is h.frames w3 m.frames) (ap short_in e3 ∙ short_is h.sets w4 m.sets) (ap byte_in e4 ∙ byte_is h.ways w5 m.ways) (ap byte_in e5 ∙ byte_is h.tlb w6 m.tlb)
    (ap int_in e6 ∙ int_is h.instructions w7 p.instructions) (ap int_in e7 ∙ int_is h.trigger w8 p.trigger) (ap int_in e8 ∙ int_is h.sharing w9 p.sharing) (ap int_in e9 ∙ int_is h.moves w10 p.moves) (ap int_in e10 ∙ int_is h.reset [] p.reset)))

-- whatever line was written, with its numbers in their ranges, it is read
pub item_read : (i : Item) → is_in_range i ≡ true → item_of (item_text i) ≡ Some i
unfolding item_text is_in_range
item_read (HeadLine head) h = head_read head h
item_read (ChoiceLine choice) h = choice_read choice h
item_read (NoteLine stamp note) h =
    let hs : (is_number stamp.clock && is_actor stamp.actor) ≡ true = and_left _ (is_note_line note) h in
    stamped_read stamp note (and_left _ (is_actor stamp.actor) hs) (and_right (is_number stamp.clock) _ hs) (and_right (is_number stamp.clock && is_actor stamp.actor) _ h)
item_read (EndLine end) h = end_read end h
