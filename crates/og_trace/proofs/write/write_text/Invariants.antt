-- What is written and the lines of the events that are left make up the lines of all.
use Rattle.std.proofs.Common.{◌≡◌, ◌++◌, ◌∷◌, [], drop}
use Rattle.og_trace.specs.declared.item.Item.TheVariants.{Head as HeadLine}
use Rattle.og_trace.specs.Text.{items_text, with_events, head_of}
use Rattle.og_trace.proofs.write.write_text.Given as goal

abbrev pub invariant-loop-event : goal.invariant-loop-event
invariant-loop-event l = l.text.items ++ items_text (with_events (drop l.event-index l.events) []) ≡ items_text (HeadLine (head_of l.settings) ∷ with_events l.events [])
