use Rattle.std.proofs.Common.{arith}
use Rattle.rv_asm.specs.Found.{places_in}
use Rattle.rv_asm.proofs.Places.{at_start, one_more}
use Rattle.rv_asm.proofs.labels.find_labels.Goals as goal

pub loop-rest-init : goal.loop-rest-init
loop-rest-init c = record { room = omega arith; few = omega arith; found = at_start c.args.text.now c.new-labels.result c.new-labels.ensures.empty }

pub loop-rest-preserved : goal.loop-rest-preserved
loop-rest-preserved c = record {
  room = omega (arith, c.split_line.ensures.shorter);
  few = omega (arith, c.size_of-index.ensures.small);
  found = λ q. one_more c.loop-rest.rest.now c.split_line.result.0.now c.split_line.result.1.now _ c.loop-rest.number c.loop-rest.index c.size_of-index.result (places_in c.loop-rest.labels) (places_in c.add_label.new.labels) q _ c.split_line.ensures.lines c.line_of-line.ensures c.size_of-index.ensures.value (c.in_ok-add_label.ensures q) (c.loop-rest.invariant.found q);
}
