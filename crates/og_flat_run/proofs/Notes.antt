-- What is noted of harts: where it stands, and that it is what the hart needs.
use Rattle.std.proofs.Common.{◌≡◌, ℕ, ◌<◌, Bool, true, false, List, [], ◌∷◌, ◌++◌, Option, Some, None, refl, sym, subst, ap, ◌∙◌}
use Rattle.std.specs.Prelude.{if◌then◌else◌}
use Rattle.og_base.specs.declared.Cause.{Cause}
use Rattle.og_base.specs.declared.Cause.TheVariants.{Exit, Illegal, Fetch, Misaligned, Unmapped, Call, Break, Spent}
use Rattle.og_runs.specs.declared.Event.{Event}
use Rattle.rv_hart.specs.declared.hart.Need.{Need}
use Rattle.rv_hart.specs.declared.hart.Need.TheVariants as need
use Rattle.rv_hart.specs.Hart.{HartState, need_of}
use Rattle.og_image.specs.Image.{ImageState}
use Rattle.og_flat.specs.Flat.{flat_answer}
use Rattle.og_line.specs.declared.Access.{Access}
use Rattle.og_msg.specs.declared.Note.{Note}
use Rattle.og_msg.specs.declared.Note.TheVariants as note
use Rattle.og_processor.specs.Act.{stop_note}
use Rattle.og_machine.specs.FlatRun.{FlatState, MayNote, FlatRunFrom, flat_step, flat_after, after_plain, is_of_hart, with_note, hart_notes}
use Rattle.og_flat_run.specs.Laws.{IsHartNote, IsNeed}

hart_note : (noted : Note) → IsHartNote noted → is_of_hart noted ≡ true
hart_note (note.Access access answer) mine = refl
hart_note (note.Emit value) mine = refl
hart_note (note.Exit value) mine = refl
hart_note (note.Trap cause pc) mine = refl
hart_note note.Spent mine = refl
hart_note (note.Begin page old new) mine = absurd mine
hart_note (note.No reason frame node) mine = absurd mine
hart_note (note.Moved page old new) mine = absurd mine
hart_note (note.Freed frame) mine = absurd mine

with_more : (p : ℕ) (o : Option Note) (xs ys : List (ℕ × Note)) → with_note p o (xs ++ ys) ≡ with_note p o xs ++ ys
with_more p None xs ys = refl
with_more p (Some noted) xs ys = at (is_of_hart noted)
  where
    at : (b : Bool) → (if b then (p, noted) ∷ (xs ++ ys) else xs ++ ys) ≡ (if b then (p, noted) ∷ xs else xs) ++ ys
    at true = refl
    at false = refl

pub notes_stand : (before after : List (Event Note)) (event : Event Note) (noted : Note) → event.note ≡ Some noted → IsHartNote noted →
    hart_notes (before ++ event ∷ after) ≡ hart_notes before ++ (event.stamp.actor, noted) ∷ hart_notes after
unfolding hart_notes
notes_stand [] after event noted is mine =
    ap (λ (o : Option Note). with_note event.stamp.actor o (hart_notes after)) is ∙ ap (λ (b : Bool). if b then (event.stamp.actor, noted) ∷ hart_notes after else hart_notes after) (hart_note noted mine)
notes_stand (e ∷ es) after event noted is mine =
    ap (λ (xs : List (ℕ × Note)). with_note e.stamp.actor e.note xs) (notes_stand es after event noted is mine) ∙ with_more e.stamp.actor e.note (hart_notes es) ((event.stamp.actor, noted) ∷ hart_notes after)

stop_need : (image : ImageState) (s : FlatState) (p : ℕ) (h : HartState) (cause : Cause) → need_of image h ≡ need.Stop cause → IsNeed image s p h (stop_note cause h.pc)
stop_need image s p h (Exit value) is = is
stop_need image s p h Illegal is = (is, refl)
stop_need image s p h Fetch is = (is, refl)
stop_need image s p h Misaligned is = (is, refl)
stop_need image s p h Unmapped is = (is, refl)
stop_need image s p h Call is = (is, refl)
stop_need image s p h Break is = (is, refl)
stop_need image s p h Spent is = is

-- what may be noted of a hart is what it needs
noted_need : (image : ImageState) (s : FlatState) (p : ℕ) (h : HartState) (noted : Note) (d : Need) → need_of image h ≡ d → MayNote s.flat p h d noted → IsNeed image s p h noted
noted_need image s p h noted (need.Stop cause) is may = subst (λ (n : Note). IsNeed image s p h n) (sym may) (stop_need image s p h cause is)
noted_need image s p h (note.Access made answer) (need.Access access) is may = (is ∙ ap (λ (a : Access). need.Access a) (sym may.0), may.1 ∙ ap (λ (a : Access). flat_answer s.flat p a) (sym may.0))
noted_need image s p h (note.Emit value) (need.Emit needed) is may = is ∙ ap (λ (v : ℕ). need.Emit v) (sym may)
noted_need image s p h (note.Emit value) (need.Access access) is may = absurd may
noted_need image s p h (note.Exit value) (need.Access access) is may = absurd may
noted_need image s p h (note.Trap cause pc) (need.Access access) is may = absurd may
noted_need image s p h note.Spent (need.Access access) is may = absurd may
noted_need image s p h (note.Begin page old new) (need.Access access) is may = absurd may
noted_need image s p h (note.No reason frame node) (need.Access access) is may = absurd may
noted_need image s p h (note.Moved page old new) (need.Access access) is may = absurd may
noted_need image s p h (note.Freed frame) (need.Access access) is may = absurd may
noted_need image s p h (note.Access made answer) (need.Emit needed) is may = absurd may
noted_need image s p h (note.Exit value) (need.Emit needed) is may = absurd may
noted_need image s p h (note.Trap cause pc) (need.Emit needed) is may = absurd may
noted_need image s p h note.Spent (need.Emit needed) is may = absurd may
noted_need image s p h (note.Begin page old new) (need.Emit needed) is may = absurd may
noted_need image s p h (note.No reason frame node) (need.Emit needed) is may = absurd may
noted_need image s p h (note.Moved page old new) (need.Emit needed) is may = absurd may
noted_need image s p h (note.Freed frame) (need.Emit needed) is may = absurd may
noted_need image s p h noted need.Plain is may = absurd may

pub entry_needed : (image : ImageState) (s : FlatState) (before after : List (ℕ × Note)) (p : ℕ) (noted : Note) → FlatRunFrom image s (before ++ (p, noted) ∷ after) →
    (p < image.nodes) × (((flat_after image s before).harts p).cause ≡ None) × IsNeed image (flat_after image s before) p (after_plain image ((flat_after image s before).harts p)) noted
entry_needed image s [] after p noted run =
    (run.0, run.1, noted_need image s p (after_plain image (s.harts p)) noted (need_of image (after_plain image (s.harts p))) refl run.2)
entry_needed image s (e ∷ es) after p noted run = entry_needed image (flat_step image s e.0 e.1) es after p noted run.3
