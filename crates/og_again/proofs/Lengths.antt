-- A text has at least a byte for each event.
use Rattle.std.proofs.Common.{◌≡◌, suc, ◌+◌, ◌≤◌, Bool, Option, None, Some, List, [], ◌∷◌, ◌++◌, length, length-append, arith}
use Rattle.og_base.specs.declared.Settings.{Settings}
use Rattle.og_runs.specs.declared.Event.{Event}
use Rattle.og_runs.specs.declared.Stamp.{Stamp}
use Rattle.og_msg.specs.declared.Note.{Note}
use Rattle.og_trace.specs.declared.item.Item.{Item}
use Rattle.og_trace.specs.declared.item.Item.TheVariants.{End as EndLine}
use Rattle.og_trace.specs.Text.{item_text, items_text, with_note, with_events, end_of, items_of, text_of}

lines_long : (items : List Item) → length items ≤ length (items_text items)
lines_long [] = omega arith
lines_long (i ∷ is) =
    let rest : length is ≤ length (items_text is) = lines_long is in
    let all : length (item_text i ++ 10 ∷ items_text is) ≡ length (item_text i) + suc (length (items_text is)) = length-append (item_text i) (10 ∷ items_text is) in
    omega arith

note_long : (stamp : Stamp) (o : Option Note) (items : List Item) → length items ≤ length (with_note stamp o items)
note_long stamp None items = omega arith
note_long stamp (Some noted) items = omega arith

events_long : (es : List (Event Note)) (items : List Item) → length es ≤ length (with_events es items)
events_long [] items = omega arith
events_long (e ∷ es) items =
    let rest : length es ≤ length (with_events es items) = events_long es items in
    let note : length (with_events es items) ≤ length (with_note e.stamp e.note (with_events es items)) = note_long e.stamp e.note (with_events es items) in
    omega arith

pub text_long : (settings : Settings) (es : List (Event Note)) (quiet : Bool) → length es ≤ length (text_of settings es quiet)
text_long settings es quiet =
    let a : length es ≤ length (with_events es (EndLine (end_of es quiet) ∷ [])) = events_long es (EndLine (end_of es quiet) ∷ []) in
    let b : length (items_of settings es quiet) ≤ length (text_of settings es quiet) = lines_long (items_of settings es quiet) in
    omega arith
