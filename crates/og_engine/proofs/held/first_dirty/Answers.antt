use Rattle.std.proofs.Common.{◌∙◌, ◌≡◌, Some, sym}
use Rattle.std.specs.Prelude.{slice_get}
use Rattle.og_machine.specs.Held.{dirty_copy}
use Rattle.og_engine.specs.Kept.{node_seat}
use Rattle.og_engine.proofs.Acts.{seat_read}
use Rattle.og_engine.proofs.Lines.{found_here, none_here, none_at_all}
use Rattle.og_engine.proofs.held.first_dirty.Goals as goal

pub returns-then-is_some : goal.returns-then-is_some
returns-then-is_some c =
    let there : slice_get c.args.nodes.now c.loop-at.at ≡ Some c.index-nodes-at.result = seat_read c.args.nodes.now c.loop-at.at c.index-nodes-at.result c.loop-at-test.true c.index-nodes-at.is in
    found_here (λ x. dirty_copy c.args.block (node_seat x).local) c.args.nodes.now c.loop-at.at c.index-nodes-at.result c.dirty_at-line.result there c.dirty_at-line.ensures (sym c.is_some.ensures ∙ c.if-is_some.true) c.loop-at.invariant

pub loop-at-preserved : goal.loop-at-preserved
loop-at-preserved c =
    let there : slice_get c.args.nodes.now c.loop-at.at ≡ Some c.index-nodes-at.result = seat_read c.args.nodes.now c.loop-at.at c.index-nodes-at.result c.loop-at-test.true c.index-nodes-at.is in
    none_here (λ x. dirty_copy c.args.block (node_seat x).local) c.args.nodes.now c.loop-at.at c.index-nodes-at.result c.dirty_at-line.result there c.dirty_at-line.ensures (sym c.is_some.ensures ∙ c.if-is_some.false) c.loop-at.invariant

pub returns : goal.returns
returns c = none_at_all (λ x. dirty_copy c.args.block (node_seat x).local) c.args.nodes.now c.loop-at.at c.loop-at-test.false c.loop-at.invariant
