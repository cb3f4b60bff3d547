-- Each entry of a flat run is in the ranges of a note's line.
use Rattle.std.proofs.Common.{◌≡◌, ℕ, zero, suc, ◌+◌, ◌*◌, ◌%◌, ◌^◌, ◌<◌, ◌≤◌, ◌&&◌, ◌||◌, Bool, true, false, nat_eq, List, [], ◌∷◌, refl, sym, subst, arith, lit<}
use Rattle.std.specs.Prelude.{nat_lt, if◌then◌else◌}
use Rattle.std.specs.List.{AllByRecursion, list_any}
use Rattle.std.proofs.lemmas.Bool.Decides.{nat_tests}
use Rattle.std.proofs.lemmas.List.Elements.{recursion_from_All}
use Rattle.og_base.specs.declared.Cause.{Cause}
use Rattle.og_base.specs.declared.Cause.TheVariants.{Exit, Illegal, Fetch, Misaligned, Unmapped, Call, Break, Spent}
use Rattle.og_base.specs.declared.Settings.{Settings}
use Rattle.og_line.specs.declared.Access.{Access}
use Rattle.og_elf.specs.declared.segment.Segment.{Segment}
use Rattle.og_elf.specs.Segment.{IsPlaced, IsLoadable, is_text, lies_in, span_of}
use Rattle.og_image.specs.Image.{ImageState}
use Rattle.og_msg.specs.declared.Note.{Note}
use Rattle.og_msg.specs.declared.Note.TheVariants as note
use Rattle.og_flat.specs.Flat.{Flat, flat_answer}
use Rattle.rv_hart.specs.declared.hart.Need.{Need}
use Rattle.rv_hart.specs.declared.hart.Need.TheVariants as need
use Rattle.rv_hart.specs.Hart.{HartState, need_of, finish_of}
use Rattle.og_processor.specs.Act.{stop_note}
use Rattle.og_machine.specs.FlatRun.{FlatState, flat_begin, with_hart, is_plain, plain_within, after_plain, MayNote, hart_after, flat_after_note, flat_step, FlatRunFrom, FlatRun}
use Rattle.og_trace.specs.Grammar.{is_note_line, is_number, is_trap}
use Rattle.og_ranges.specs.Bytes.{HasBytes}
use Rattle.og_ranges.proofs.Effects.{Fits}
use Rattle.og_ranges.proofs.Harts.{IsSmall, finish_small, halt_small, CauseFits, NeedFits, need_fits, start_small}
use Rattle.og_ranges.proofs.Lines.{HasLines, next_lines, number_is, both, answer_fits, access_line, start_lines}

-- ---- what may be noted

abbrev AnswerFits : Note → Type 0
AnswerFits (note.Access made answer) = answer < 2 ^ 64
AnswerFits noted = Unit {0}

record NoteFits (noted : Note) : Type 0 where
  line : is_note_line noted ≡ true
  answer : AnswerFits noted

access_fits : (flat : Flat) (p : ℕ) (access : Access) → HasLines flat → Fits access → NoteFits (note.Access access (flat_answer flat p access))
access_fits flat p access lines fits = record { line = access_line flat p access lines fits; answer = answer_fits flat p access lines fits }

trap_fits : (cause : Cause) (pc : ℕ) → is_trap cause ≡ true → pc < 2 ^ 64 → NoteFits (note.Trap cause pc)
trap_fits cause pc is low = record { line = both (is_trap cause) (is_number pc) is (number_is pc low); answer = tt }

stop_fits : (cause : Cause) (pc : ℕ) → CauseFits cause → pc < 2 ^ 64 → NoteFits (stop_note cause pc)
stop_fits (Exit value) pc fits low = record { line = number_is value fits; answer = tt }
stop_fits Illegal pc fits low = trap_fits Illegal pc refl low
stop_fits Fetch pc fits low = trap_fits Fetch pc refl low
stop_fits Misaligned pc fits low = trap_fits Misaligned pc refl low
stop_fits Unmapped pc fits low = trap_fits Unmapped pc refl low
stop_fits Call pc fits low = trap_fits Call pc refl low
stop_fits Break pc fits low = trap_fits Break pc refl low
stop_fits Spent pc fits low = record { line = refl; answer = tt }

may_fit : (flat : Flat) (p : ℕ) (h : HartState) (d : Need) (noted : Note) → HasLines flat → NeedFits d → h.pc < 2 ^ 64 → MayNote flat p h d noted → NoteFits noted
may_fit flat p h (need.Stop cause) noted lines fits low may = subst NoteFits (sym may) (stop_fits cause h.pc fits low)
may_fit flat p h (need.Access access) (note.Access made answer) lines fits low may =
    subst (λ (v : ℕ). NoteFits (note.Access made v)) (sym may.1) (subst (λ (x : Access). NoteFits (note.Access x (flat_answer flat p access))) (sym may.0) (access_fits flat p access lines fits))
may_fit flat p h (need.Access access) (note.Emit value) lines fits low may = absurd may
may_fit flat p h (need.Access access) (note.Exit value) lines fits low may = absurd may
may_fit flat p h (need.Access access) (note.Trap cause pc) lines fits low may = absurd may
may_fit flat p h (need.Access access) note.Spent lines fits low may = absurd may
may_fit flat p h (need.Access access) (note.Begin page old new) lines fits low may = absurd may
may_fit flat p h (need.Access access) (note.No reason frame node) lines fits low may = absurd may
may_fit flat p h (need.Access access) (note.Moved page old new) lines fits low may = absurd may
may_fit flat p h (need.Access access) (note.Freed frame) lines fits low may = absurd may
may_fit flat p h (need.Emit needed) (note.Emit value) lines fits low may = record { line = number_is value (subst (λ (v : ℕ). v < 2 ^ 64) (sym may) fits); answer = tt }
may_fit flat p h (need.Emit needed) (note.Access made answer) lines fits low may = absurd may
may_fit flat p h (need.Emit needed) (note.Exit value) lines fits low may = absurd may
may_fit flat p h (need.Emit needed) (note.Trap cause pc) lines fits low may = absurd may
may_fit flat p h (need.Emit needed) note.Spent lines fits low may = absurd may
may_fit flat p h (need.Emit needed) (note.Begin page old new) lines fits low may = absurd may
may_fit flat p h (need.Emit needed) (note.No reason frame node) lines fits low may = absurd may
may_fit flat p h (need.Emit needed) (note.Moved page old new) lines fits low may = absurd may
may_fit flat p h (need.Emit needed) (note.Freed frame) lines fits low may = absurd may
may_fit flat p h need.Plain noted lines fits low may = absurd may

-- ---- what an entry leaves

after_small : (image : ImageState) (h : HartState) (d : Need) (noted : Note) → HasBytes image → IsSmall h → AnswerFits noted → IsSmall (hart_after image h d noted)
after_small image h (need.Stop cause) noted bytes small fits = halt_small image h small
after_small image h need.Plain (note.Access made answer) bytes small fits = finish_small image h answer bytes small fits
after_small image h need.Plain noted bytes small fits = finish_small image h 0 bytes small (lit< tt)
after_small image h (need.Access access) (note.Access made answer) bytes small fits = finish_small image h answer bytes small fits
after_small image h (need.Access access) noted bytes small fits = finish_small image h 0 bytes small (lit< tt)
after_small image h (need.Emit value) (note.Access made answer) bytes small fits = finish_small image h answer bytes small fits
after_small image h (need.Emit value) noted bytes small fits = finish_small image h 0 bytes small (lit< tt)

lines_after : (flat : Flat) (p : ℕ) (noted : Note) → HasLines flat → HasLines (flat_after_note flat p noted)
lines_after flat p (note.Access made answer) lines = next_lines flat p made lines
lines_after flat p noted lines = lines

plain_small : (image : ImageState) (n : ℕ) (h : HartState) → HasBytes image → IsSmall h → IsSmall (plain_within image n h)
unfolding plain_within
plain_small image zero h bytes small = small
plain_small image (suc n) h bytes small = by (is_plain (need_of image h)) (plain_small image n (finish_of image h 0) bytes (finish_small image h 0 bytes small (lit< tt)))
  where
    by : (t : Bool) → IsSmall (plain_within image n (finish_of image h 0)) → IsSmall (if t then plain_within image n (finish_of image h 0) else h)
    by true later = later
    by false later = small

-- ---- all entries

record Stays (image : ImageState) (s : FlatState) : Type 0 where
  harts : (p : ℕ) → p < image.nodes → IsSmall (s.harts p)
  lines : HasLines s.flat

one_small : (harts : ℕ → HartState) (p : ℕ) (h : HartState) (q : ℕ) → IsSmall h → IsSmall (harts q) → IsSmall (with_hart harts p h q)
one_small harts p h q small other = by (nat_eq q p)
  where
    by : (t : Bool) → IsSmall (if t then h else harts q)
    by true = small
    by false = other

entries_fit : (image : ImageState) (s : FlatState) (entries : List (ℕ × Note)) → HasBytes image → Stays image s → FlatRunFrom image s entries → AllByRecursion (λ (entry : ℕ × Note). is_note_line entry.1 ≡ true) entries
entries_fit image s [] bytes stays run = tt
entries_fit image s (entry ∷ entries) bytes stays run =
    let h : HartState = after_plain image (s.harts entry.0) in
    let small : IsSmall h = plain_small image (s.harts entry.0).left (s.harts entry.0) bytes (stays.harts entry.0 run.0) in
    let fits : NoteFits entry.1 = may_fit s.flat entry.0 h (need_of image h) entry.1 stays.lines (need_fits image h small) small.pc run.2 in (
      fits.line,
      entries_fit image (flat_step image s entry.0 entry.1) entries bytes (record {
        harts = λ q below. one_small s.harts entry.0 (hart_after image h (need_of image h) entry.1) q (after_small image h (need_of image h) entry.1 bytes small fits.answer) (stays.harts q below);
        lines = lines_after s.flat entry.0 entry.1 stays.lines;
      }) run.3,
    )

-- ---- the start

text_low : (entry : ℕ) (s : Segment) → IsPlaced s → is_text entry s ≡ true → entry < 2 ^ 64
text_low entry s placed is = by s.runnable is
  where
    inside : nat_lt 0 1 ≡ true → lies_in entry 4 (span_of s) ≡ true → entry < 2 ^ 64
    inside t e = let end : s.addr + s.size ≤ 0x70000000 = placed.below in let within : entry + 4 ≤ s.addr + s.size = grind (arith, nat_tests) in omega arith

    by : (t : Bool) → (t && lies_in entry 4 (span_of s)) ≡ true → entry < 2 ^ 64
    by true e = inside refl e
    by false e = absurd (cc)

entry_low : (entry : ℕ) (segments : List Segment) → AllByRecursion IsPlaced segments → list_any (is_text entry) segments ≡ true → entry < 2 ^ 64
entry_low entry [] placed is = absurd (cc)
entry_low entry (s ∷ ss) placed is = by (is_text entry s) refl is (entry_low entry ss placed.1)
  where
    by : (t : Bool) → is_text entry s ≡ t → (t || list_any (is_text entry) ss) ≡ true → (list_any (is_text entry) ss ≡ true → entry < 2 ^ 64) → entry < 2 ^ 64
    by true e h rest = text_low entry s placed.0 e
    by false e h rest = rest h

entered : (entry : ℕ) (segments : List Segment) → IsLoadable entry segments → entry < 2 ^ 64
entered entry segments loadable = by (nat_eq (entry % 4) 0) loadable.entered
  where
    by : (t : Bool) → (t && list_any (is_text entry) segments) ≡ true → entry < 2 ^ 64
    by true e = entry_low entry segments (recursion_from_All IsPlaced segments loadable.placed) e
    by false e = absurd (cc)

begins : (image : ImageState) (settings : Settings) → IsLoadable image.entry image.segments → HasBytes image → image.nodes ≤ 128 → Stays image (flat_begin image settings)
begins image settings loadable bytes few = record {
  harts = λ p below. start_small image.entry p settings.nodes (0x70000000 + p * 0x2000 + 4096) settings.instructions (entered image.entry image.segments loadable) (omega arith) (let most : settings.nodes ≤ 128 = settings.nodes_in_range.1 in omega arith) (omega arith);
  lines = start_lines image bytes;
}

pub notes_fit : (image : ImageState) (settings : Settings) (entries : List (ℕ × Note)) → IsLoadable image.entry image.segments → HasBytes image → image.nodes ≤ 128 → FlatRun image settings entries → AllByRecursion (λ (entry : ℕ × Note). is_note_line entry.1 ≡ true) entries
notes_fit image settings entries loadable bytes few run = entries_fit image (flat_begin image settings) entries bytes (begins image settings loadable bytes few) run
