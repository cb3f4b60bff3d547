-- A run of one flat memory: what harts do when their accesses are made one at a time, in the order of a list of pairs of a
-- hart and a note. It knows nothing of caches, messages, frames or moves.
use Rattle.std.specs.Prelude.{◌≡◌, ◌<◌, ◌+◌, ◌*◌, ℕ, zero, suc, Bool, true, false, nat_eq, Option, None, Some, List, [], ◌∷◌, if◌then◌else◌}
use Rattle.og_base.specs.declared.Settings.{Settings}
use Rattle.og_runs.specs.declared.Event.{Event}
use Rattle.og_msg.specs.declared.Note.{Note}
use Rattle.og_msg.specs.declared.Note.TheVariants as note
use Rattle.og_image.specs.Image.{ImageState, start_byte}
use Rattle.og_flat.specs.Flat.{Flat, flat_answer, flat_next, flat_start}
use Rattle.rv_hart.specs.declared.hart.Need.{Need}
use Rattle.rv_hart.specs.declared.hart.Need.TheVariants as need
use Rattle.rv_hart.specs.Hart.{HartState, start_of, need_of, finish_of, halt_of}
use Rattle.og_processor.specs.Act.{stop_note}

-- each hart, and the memory with the harts' reservations
pub record FlatState : Type 0 where
  pub harts : ℕ → HartState
  pub flat : Flat

-- the harts at their start, and memory with the bytes of the data and stack pages: no block has seen a store, and no hart
-- has a reservation
abbrev pub flat_begin : ImageState → Settings → FlatState
flat_begin image settings = record {
  harts = λ p. start_of image.entry p settings.nodes (0x70000000 + p * 0x2000 + 4096) settings.instructions;
  flat = flat_start (start_byte image);
}

abbrev pub with_hart : (ℕ → HartState) → ℕ → HartState → ℕ → HartState
with_hart harts p h q = if nat_eq q p then h else harts q

-- ------------------------------------------------------------ one entry

abbrev pub is_plain : Need → Bool
is_plain need.Plain = true
is_plain other = false

-- a hart after the instructions that it finishes while its need is plain. Each uses one up, so it has come as far after as
-- many as it has left
unfoldable pub plain_within : ImageState → ℕ → HartState → HartState
plain_within image zero h = h
plain_within image (suc more) h = if is_plain (need_of image h) then plain_within image more (finish_of image h 0) else h

abbrev pub after_plain : ImageState → HartState → HartState
after_plain image h = plain_within image h.left h

-- what may be noted of a hart p that needs this: an access with the flat memory's answer, what it emits, why it stops
abbrev pub MayNote : Flat → ℕ → HartState → Need → Note → Type 0
MayNote flat p h (need.Access access) (note.Access made answer) = (made ≡ access) × (answer ≡ flat_answer flat p access)
MayNote flat p h (need.Emit value) (note.Emit emitted) = emitted ≡ value
MayNote flat p h (need.Stop cause) noted = noted ≡ stop_note cause h.pc
MayNote flat p h other noted = ⊥

-- what an entry leaves of its hart: it finishes with the answer, or is stopped
abbrev pub hart_after : ImageState → HartState → Need → Note → HartState
hart_after image h (need.Stop cause) noted = halt_of image h
hart_after image h other (note.Access made answer) = finish_of image h answer
hart_after image h other noted = finish_of image h 0

-- and of the memory
abbrev pub flat_after_note : Flat → ℕ → Note → Flat
flat_after_note flat p (note.Access made answer) = flat_next flat p made
flat_after_note flat p noted = flat

abbrev pub flat_step_from : ImageState → FlatState → ℕ → HartState → Note → FlatState
flat_step_from image s p h noted = record {
  harts = with_hart s.harts p (hart_after image h (need_of image h) noted);
  flat = flat_after_note s.flat p noted;
}

abbrev pub flat_step : ImageState → FlatState → ℕ → Note → FlatState
flat_step image s p noted = flat_step_from image s p (after_plain image (s.harts p)) noted

-- ------------------------------------------------------------ all entries

-- each entry is of a hart that there is and that isn't stopped, and is what it needs next
abbrev pub FlatRunFrom : ImageState → FlatState → List (ℕ × Note) → Type 0
FlatRunFrom image s [] = Unit {0}
FlatRunFrom image s (entry ∷ entries) =
    (entry.0 < image.nodes) × ((s.harts entry.0).cause ≡ None)
    × MayNote s.flat entry.0 (after_plain image (s.harts entry.0)) (need_of image (after_plain image (s.harts entry.0))) entry.1
    × FlatRunFrom image (flat_step image s entry.0 entry.1) entries

abbrev pub FlatRun : ImageState → Settings → List (ℕ × Note) → Type 0
FlatRun image settings entries = FlatRunFrom image (flat_begin image settings) entries

-- harts and memory after the entries
abbrev pub flat_after : ImageState → FlatState → List (ℕ × Note) → FlatState
flat_after image s [] = s
flat_after image s (entry ∷ entries) = flat_after image (flat_step image s entry.0 entry.1) entries

-- ------------------------------------------------------------ the notes of harts in a list of events

abbrev pub is_of_hart : Note → Bool
is_of_hart (note.Access access answer) = true
is_of_hart (note.Emit value) = true
is_of_hart (note.Exit value) = true
is_of_hart (note.Trap cause pc) = true
is_of_hart note.Spent = true
is_of_hart noted = false

abbrev pub with_note : ℕ → Option Note → List (ℕ × Note) → List (ℕ × Note)
with_note p None entries = entries
with_note p (Some noted) entries = if is_of_hart noted then (p, noted) ∷ entries else entries

-- what harts did, in the order of the events
unfoldable pub hart_notes : List (Event Note) → List (ℕ × Note)
hart_notes [] = []
hart_notes (event ∷ events) = with_note event.stamp.actor event.note (hart_notes events)
