-- A run of harts: what the events of a machine may do to the harts of its actors; and when their accesses have the answers of
-- one flat memory.
use Rattle.std.specs.Prelude.{◌≡◌, ◌<◌, ℕ, true, ◌⊎◌, Option, None, Some, List, [], ◌∷◌}
use Rattle.og_base.specs.declared.Cause.{Cause}
use Rattle.og_runs.specs.declared.Event.{Event}
use Rattle.og_msg.specs.declared.Note.{Note}
use Rattle.og_msg.specs.declared.Note.TheVariants as note
use Rattle.og_image.specs.Image.{ImageState}
use Rattle.og_flat.specs.Flat.{Flat, flat_answer}
use Rattle.rv_hart.specs.declared.hart.Need.TheVariants as need
use Rattle.rv_hart.specs.Hart.{HartState, need_of, finish_of, halt_of}
use Rattle.og_processor.specs.Act.{stop_note}
use Rattle.og_machine.specs.FlatRun.{with_hart, is_of_hart, flat_after_note}

-- the hart needs to stop, does so, and this is noted
abbrev pub Stops : ImageState → HartState → Note → HartState → Type 0
Stops image h noted after =
    (cause : Cause) × (h.cause ≡ None) × (need_of image h ≡ need.Stop cause) × (noted ≡ stop_note cause h.pc) × (after ≡ halt_of image h)

-- it finishes an instruction that needs nothing
abbrev pub FinishesPlain : ImageState → HartState → HartState → Type 0
FinishesPlain image h after = (h.cause ≡ None) × (need_of image h ≡ need.Plain) × (after ≡ finish_of image h 0)

-- what an event with this note may do to the hart of its actor: without a note it stays, or finishes an instruction that needs
-- nothing; else it completes the access that it needs, emits, or stops. A note of the mover leaves it
abbrev pub HartMoves : ImageState → HartState → Option Note → HartState → Type 0
HartMoves image h None after = (after ≡ h) ⊎ FinishesPlain image h after
HartMoves image h (Some (note.Access access answer)) after = (h.cause ≡ None) × (need_of image h ≡ need.Access access) × (after ≡ finish_of image h answer)
HartMoves image h (Some (note.Emit value)) after = (h.cause ≡ None) × (need_of image h ≡ need.Emit value) × (after ≡ finish_of image h 0)
HartMoves image h (Some (note.Exit value)) after = Stops image h (note.Exit value) after
HartMoves image h (Some (note.Trap cause pc)) after = Stops image h (note.Trap cause pc) after
HartMoves image h (Some note.Spent) after = Stops image h note.Spent after
HartMoves image h (Some noted) after = after ≡ h

-- what is noted of a hart is noted of one that there is
abbrev pub IsNotedInside : ℕ → ℕ → Option Note → Type 0
IsNotedInside nodes p None = Unit {0}
IsNotedInside nodes p (Some noted) = is_of_hart noted ≡ true → p < nodes

-- the events lead the harts from one state to another, each event its actor's hart
abbrev pub HartsRun : ImageState → (ℕ → HartState) → List (Event Note) → Type 0
HartsRun image harts [] = Unit {0}
HartsRun image harts (event ∷ events) =
    (after : HartState) × IsNotedInside image.nodes event.stamp.actor event.note × HartMoves image (harts event.stamp.actor) event.note after
    × HartsRun image (with_hart harts event.stamp.actor after) events

-- the flat memory after what was noted of an actor, if anything was
abbrev pub flat_noted : Flat → ℕ → Option Note → Flat
flat_noted flat p None = flat
flat_noted flat p (Some noted) = flat_after_note flat p noted

-- what was noted of an access has the flat memory's answer
abbrev pub AnswersFlat : Flat → ℕ → Option Note → Type 0
AnswersFlat flat p (Some (note.Access access answer)) = answer ≡ flat_answer flat p access
AnswersFlat flat p noted = Unit {0}

-- each access of the events has the answer of the flat memory after the accesses before it
abbrev pub Answered : Flat → List (Event Note) → Type 0
Answered flat [] = Unit {0}
Answered flat (event ∷ events) = AnswersFlat flat event.stamp.actor event.note × Answered (flat_noted flat event.stamp.actor event.note) events

-- the flat memory after all of the events
abbrev pub flat_end : Flat → List (Event Note) → Flat
flat_end flat [] = flat
flat_end flat (event ∷ events) = flat_end (flat_noted flat event.stamp.actor event.note) events
