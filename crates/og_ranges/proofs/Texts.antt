-- The lines of a run's text are in their ranges.
use Rattle.std.proofs.Common.{◌≡◌, ℕ, ◌*◌, ◌^◌, ◌<◌, ◌≤◌, ◌&&◌, Bool, true, false, nat_le, Option, None, Some, List, [], ◌∷◌, length, slice_get, refl, arith}
use Rattle.std.specs.Prelude.{if◌then◌else◌}
use Rattle.std.specs.List.{AllByRecursion}
use Rattle.std.proofs.lemmas.Bool.Decides.{nat_tests}
use Rattle.std.proofs.lemmas.List.Elements.{recursion_from_All}
use Rattle.std.proofs.lemmas.List.Sums.{count_by-le-length}
use Rattle.og_base.specs.declared.Settings.{Settings}
use Rattle.og_runs.specs.declared.Event.{Event}
use Rattle.og_runs.specs.declared.Stamp.{Stamp}
use Rattle.og_runs.specs.Laws.{ClocksWithin}
use Rattle.og_runs.proofs.Stated.{clocks_within}
use Rattle.og_msg.specs.declared.Note.{Note}
use Rattle.og_machine.specs.Machine.{rules, start_machine}
use Rattle.og_machine.specs.FlatRun.{is_of_hart, hart_notes, with_note as with_entry}
use Rattle.og_refine.proofs.Runs.{first_actor, first_seats}
use Rattle.og_refine.proofs.Lawful.{flat_notes}
use Rattle.og_trace.specs.declared.item.Item.{Item}
use Rattle.og_trace.specs.declared.item.Item.TheVariants.{End as EndLine}
use Rattle.og_trace.specs.Text.{is_access, access_count, head_of, with_note, with_events, end_of}
use Rattle.og_trace.specs.Grammar.{is_number, is_actor, is_note_line, is_between, is_machine_line, is_policy_line, is_head_line, is_in_range, AllInRange}
use Rattle.og_ranges.specs.Laws.{RunsAreInRange}
use Rattle.og_ranges.proofs.Lines.{number_is, both}
use Rattle.og_ranges.proofs.Flats.{notes_fit}
use Rattle.og_ranges.proofs.Events.{OtherFits, EventFits, events_fit}

-- ---- the head

between : (low high n : ℕ) → low ≤ n → n ≤ high → is_between low high n ≡ true
between low high n a b = both (nat_le low n) (nat_le n high) (grind (arith, nat_tests)) (grind (arith, nat_tests))

at_most : (high n : ℕ) → n ≤ high → nat_le n high ≡ true
at_most high n le = grind (arith, nat_tests)

machine_line : (s : Settings) → is_machine_line (head_of s) ≡ true
machine_line s =
    both (is_between 1 128 s.nodes && is_between 2 1024 s.frames && nat_le (s.nodes * s.frames) 16384 && is_between 1 1024 s.sets && is_between 1 8 s.ways) _
    (both (is_between 1 128 s.nodes && is_between 2 1024 s.frames && nat_le (s.nodes * s.frames) 16384 && is_between 1 1024 s.sets) _
    (both (is_between 1 128 s.nodes && is_between 2 1024 s.frames && nat_le (s.nodes * s.frames) 16384) _
    (both (is_between 1 128 s.nodes && is_between 2 1024 s.frames) _
    (both (is_between 1 128 s.nodes) _
    (between 1 128 s.nodes s.nodes_in_range.0 s.nodes_in_range.1)
    (between 2 1024 s.frames s.frames_in_range.0 s.frames_in_range.1))
    (at_most 16384 (s.nodes * s.frames) s.all_frames_in_range))
    (between 1 1024 s.sets s.sets_in_range.0 s.sets_in_range.1))
    (between 1 8 s.ways s.ways_in_range.0 s.ways_in_range.1))
    (between 1 64 s.tlb s.tlb_in_range.0 s.tlb_in_range.1)

policy_line : (s : Settings) → is_policy_line (head_of s) ≡ true
policy_line s =
    both (nat_le s.instructions 1000000 && is_between 1 1000000 s.trigger && is_between 1 1000000 s.sharing && nat_le s.moves 1000000) _
    (both (nat_le s.instructions 1000000 && is_between 1 1000000 s.trigger && is_between 1 1000000 s.sharing) _
    (both (nat_le s.instructions 1000000 && is_between 1 1000000 s.trigger) _
    (both (nat_le s.instructions 1000000) _
    (at_most 1000000 s.instructions s.instructions_in_range)
    (between 1 1000000 s.trigger s.trigger_in_range.0 s.trigger_in_range.1))
    (between 1 1000000 s.sharing s.sharing_in_range.0 s.sharing_in_range.1))
    (at_most 1000000 s.moves s.moves_in_range))
    (between 1 1000000 s.reset s.reset_in_range.0 s.reset_in_range.1)

head_line : (s : Settings) → is_head_line (head_of s) ≡ true
head_line s = both (is_machine_line (head_of s)) (is_policy_line (head_of s)) (machine_line s) (policy_line s)

-- ---- the end

end_line : (es : List (Event Note)) (quiet : Bool) → length es < 2 ^ 63 → is_in_range (EndLine (end_of es quiet)) ≡ true
unfolding is_in_range
end_line es quiet low =
    let few : access_count es ≤ length es = count_by-le-length (λ (e : Event Note). is_access e.note) es in
    both (is_number (length es)) (is_number (access_count es)) (number_is (length es) (omega arith)) (number_is (access_count es) (omega arith))

-- ---- the events

abbrev AreLines : List (ℕ × Note) → Type 0
AreLines entries = AllByRecursion (λ (entry : ℕ × Note). is_note_line entry.1 ≡ true) entries

-- the note of an event, if it has one
abbrev HasLine : Option Note → Type 0
HasLine None = Unit {0}
HasLine (Some noted) = is_note_line noted ≡ true

note_fits : (a : ℕ) (o : Option Note) (entries : List (ℕ × Note)) → OtherFits o → AreLines (with_entry a o entries) → HasLine o × AreLines entries
note_fits a None entries other lines = (tt, lines)
note_fits a (Some noted) entries other lines = by (is_of_hart noted) refl lines
  where
    by : (t : Bool) → is_of_hart noted ≡ t → AreLines (if t then (a, noted) ∷ entries else entries) → HasLine (Some noted) × AreLines entries
    by true e all = (all.0, all.1)
    by false e all = (other e, all)

note_lines : (stamp : Stamp) (o : Option Note) (items : List Item) → is_number stamp.clock ≡ true → is_actor stamp.actor ≡ true → HasLine o → AllInRange items → AllInRange (with_note stamp o items)
unfolding is_in_range
note_lines stamp None items clock actor line all = all
note_lines stamp (Some noted) items clock actor line all = (both (is_number stamp.clock && is_actor stamp.actor) (is_note_line noted) (both (is_number stamp.clock) (is_actor stamp.actor) clock actor) line, all)

event_lines : (n : ℕ) (es : List (Event Note)) (items : List Item) → n < 2 ^ 63 → AllByRecursion EventFits es → AllByRecursion (λ (e : Event Note). e.stamp.clock ≤ n) es → AreLines (hart_notes es) → AllInRange items → AllInRange (with_events es items)
unfolding is_in_range hart_notes
event_lines n [] items low fits clocks lines all = all
event_lines n (e ∷ es) items low fits clocks lines all =
    let note = note_fits e.stamp.actor e.note (hart_notes es) fits.0.note lines in
    let clock : e.stamp.clock ≤ n = clocks.0 in
    (fits.0.choice, note_lines e.stamp e.note (with_events es items) (number_is e.stamp.clock (omega arith)) fits.0.actor note.0 (event_lines n es items low fits.1 clocks.1 note.1 all))

-- ---- all lines

pub runs_are_in_range : RunsAreInRange
unfolding is_in_range
runs_are_in_range setup cs w es quiet ok bytes run low =
    let few : setup.image.nodes ≤ 128 = let same : setup.image.nodes ≡ setup.settings.nodes = ok.nodes in let most : setup.settings.nodes ≤ 128 = ok.few_nodes in omega arith in
    let c : ClocksWithin cs w es = clocks_within (rules setup) (λ a. first_actor setup a (slice_get (start_machine setup).seats a)) (start_machine setup) cs w es (record { start = first_seats setup; run = run }) in
    let count : length es ≡ length cs = c.count in
    let short : length cs < 2 ^ 63 = omega arith in (
      head_line setup.settings,
      event_lines (length cs) es (EndLine (end_of es quiet) ∷ []) short (events_fit setup ok cs w es short run) (recursion_from_All (λ (e : Event Note). e.stamp.clock ≤ length cs) es c.events)
          (notes_fit setup.image setup.settings (hart_notes es) ok.loadable bytes few (flat_notes setup cs w es ok run)) (end_line es quiet low, tt),
    )
