-- The lines of events, one after the other.
use Rattle.std.proofs.Common.{◌≡◌, ℕ, zero, suc, ◌≤◌, List, [], ◌∷◌, ◌++◌, length, drop, arith, refl, sym, ap, append_assoc, Option, None, Some, Bool}
use Rattle.std.proofs.Math.Path.{◌∙◌}
use Rattle.std.proofs.lemmas.List.{append-nil}
use Rattle.og_runs.specs.declared.Event.{Event}
use Rattle.og_runs.specs.declared.Stamp.{Stamp}
use Rattle.og_msg.specs.declared.Note.{Note}
use Rattle.og_trace.specs.declared.item.Head.{Head}
use Rattle.og_trace.specs.declared.item.End.{End}
use Rattle.og_trace.specs.declared.item.Item.{Item}
use Rattle.og_trace.specs.declared.item.Item.TheVariants.{Head as HeadLine, Choice as ChoiceLine, Note as NoteLine, End as EndLine}
use Rattle.og_trace.specs.Text.{item_text, items_text, with_note, with_events, end_of}

more : (a x y z : List ℕ) → x ≡ y ++ z → a ++ 10 ∷ x ≡ (a ++ 10 ∷ y) ++ z
more a x y z is = ap (λ (l : List ℕ). a ++ 10 ∷ l) is ∙ sym (append_assoc a (10 ∷ y) z)

with_note_append : (stamp : Stamp) (note : Option Note) (xs ys zs : List Item) → items_text xs ≡ items_text ys ++ items_text zs → items_text (with_note stamp note xs) ≡ items_text (with_note stamp note ys) ++ items_text zs
with_note_append stamp None xs ys zs is = is
with_note_append stamp (Some note) xs ys zs is = more (item_text (NoteLine stamp note)) (items_text xs) (items_text ys) (items_text zs) is

-- the lines of events before other lines
pub with_events_append : (es : List (Event Note)) (rest : List Item) → items_text (with_events es rest) ≡ items_text (with_events es []) ++ items_text rest
with_events_append [] rest = refl
with_events_append (e ∷ es) rest =
    more (item_text (ChoiceLine e.choice)) (items_text (with_note e.stamp e.note (with_events es rest))) (items_text (with_note e.stamp e.note (with_events es []))) (items_text rest)
    (with_note_append e.stamp e.note (with_events es rest) (with_events es []) rest (with_events_append es rest))

drop_end : (es : List (Event Note)) (n : ℕ) → length es ≤ n → drop n es ≡ []
drop_end [] zero le = refl
drop_end [] (suc n) le = refl
drop_end (e ∷ es) zero le = absurd (omega arith)
drop_end (e ∷ es) (suc n) le = drop_end es n (omega arith)

-- the text with all events, and its end
pub all_written : (head : Head) (es : List (Event Note)) (quiet : Bool) (end : End) (n : ℕ) (t new : List ℕ) → t ++ items_text (with_events (drop n es) []) ≡ items_text (HeadLine head ∷ with_events es []) → length es ≤ n → end ≡ end_of es quiet →
    new ≡ t ++ (item_text (EndLine end) ++ 10 ∷ []) → new ≡ items_text (HeadLine head ∷ with_events es (EndLine (end_of es quiet) ∷ []))
all_written head es quiet end n t new written le is added =
    let none : t ++ items_text (with_events (drop n es) []) ≡ t = ap (λ (l : List (Event Note)). t ++ items_text (with_events l [])) (drop_end es n le) ∙ append-nil t in
    let so_far : t ≡ items_text (HeadLine head ∷ with_events es []) = sym none ∙ written in
    let last : List ℕ = item_text (EndLine (end_of es quiet)) ++ 10 ∷ [] in
    added ∙ (ap (λ (e : End). t ++ (item_text (EndLine e) ++ 10 ∷ [])) is ∙ (ap (λ (l : List ℕ). l ++ last) so_far
    ∙ sym (more (item_text (HeadLine head)) (items_text (with_events es (EndLine (end_of es quiet) ∷ []))) (items_text (with_events es [])) last (with_events_append es (EndLine (end_of es quiet) ∷ [])))))
