-- What a flat run says of its entries.
use Rattle.std.specs.Prelude.{◌≡◌, ℕ, ◌<◌, None, Some, List, ◌∷◌, ◌++◌}
use Rattle.og_base.specs.declared.Settings.{Settings}
use Rattle.og_base.specs.declared.Cause.TheVariants.{Exit, Spent}
use Rattle.og_runs.specs.declared.Event.{Event}
use Rattle.rv_hart.specs.declared.hart.Need.TheVariants as need
use Rattle.rv_hart.specs.Hart.{HartState, need_of}
use Rattle.og_flat.specs.Flat.{flat_answer}
use Rattle.og_image.specs.Image.{ImageState}
use Rattle.og_msg.specs.declared.Note.{Note}
use Rattle.og_msg.specs.declared.Note.TheVariants as note
use Rattle.og_machine.specs.FlatRun.{FlatState, FlatRun, flat_begin, flat_after, after_plain, hart_notes}

-- the note is of a hart, and not of the mover
abbrev pub IsHartNote : Note → Type 0
IsHartNote (note.Access access answer) = Unit {0}
IsHartNote (note.Emit value) = Unit {0}
IsHartNote (note.Exit value) = Unit {0}
IsHartNote (note.Trap cause pc) = Unit {0}
IsHartNote note.Spent = Unit {0}
IsHartNote other = ⊥

-- whatever was noted of a hart stands among the hart notes, and no note changes its place
abbrev pub HartNotesStand : Type 0
HartNotesStand =
    (before after : List (Event Note)) (event : Event Note) (noted : Note)
    → event.note ≡ Some noted → IsHartNote noted
    → hart_notes (before ++ event ∷ after) ≡ hart_notes before ++ (event.stamp.actor, noted) ∷ hart_notes after

-- the note is what hart p, with its state h, needs: an access with the flat memory's answer, an emit, or its stop
abbrev pub IsNeed : ImageState → FlatState → ℕ → HartState → Note → Type 0
IsNeed image s p h (note.Access access answer) = (need_of image h ≡ need.Access access) × (answer ≡ flat_answer s.flat p access)
IsNeed image s p h (note.Emit value) = need_of image h ≡ need.Emit value
IsNeed image s p h (note.Exit value) = need_of image h ≡ need.Stop (Exit value)
IsNeed image s p h (note.Trap cause pc) = (need_of image h ≡ need.Stop cause) × (pc ≡ h.pc)
IsNeed image s p h note.Spent = need_of image h ≡ need.Stop Spent
IsNeed image s p h other = ⊥

-- each entry of a flat run is of a hart that there is and that isn't stopped, and is what this hart needs once it has finished what needs
-- nothing
abbrev pub FlatRunsNoteNeeds : Type 0
FlatRunsNoteNeeds =
    (image : ImageState) (settings : Settings) (before after : List (ℕ × Note)) (p : ℕ) (noted : Note)
    → FlatRun image settings (before ++ (p, noted) ∷ after)
    → let s : FlatState = flat_after image (flat_begin image settings) before in
    (p < image.nodes) × ((s.harts p).cause ≡ None) × IsNeed image s p (after_plain image (s.harts p)) noted
