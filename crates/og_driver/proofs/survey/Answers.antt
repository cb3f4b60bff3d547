use Rattle.std.proofs.Common.{◌≡◌, ◌∙◌, ◌<◌, ◌^◌, arith, sym}
use Rattle.og_driver.proofs.Counting.{counting_start, counted_quiet, counted_end, next_noted}
use Rattle.og_driver.proofs.survey.Goals as goal

pub loop-events-init : goal.loop-events-init
loop-events-init c = counting_start c.args.image.now c.args.machine.now c.args.number c.args.most c.of_number-draws.result c.requires.start c.of_number-draws.ensures

pub quiet-requires : goal.quiet-requires
quiet-requires c = record { made = (c.args.image.now, c.loop-events.invariant.going.made) }

pub returns-else-not-quiet : goal.returns-else-not-quiet
returns-else-not-quiet c =
    let t = counted_quiet c.args.image.now c.args.machine.now c.loop-events.machine c.args.number c.args.most c.loop-events.events c.loop-events.moves c.loop-events.draws c.loop-events.invariant (sym c.quiet.ensures ∙ c.if-not-quiet.false) in
    record { end = t.end; events = t.events; moves = t.moves; made = c.loop-events.invariant.going.made }

pub next_moves-moves-requires : goal.next_moves-moves-requires
next_moves-moves-requires c =
    let going = c.loop-events.invariant.going in
    let count : c.loop-events.machine.events ≡ c.loop-events.events = going.count in
    let more : c.loop-events.events < c.args.most = c.loop-events-test.true in
    let fits : c.args.most < 2 ^ 32 = c.ranges.most.fits in
    record {
      made = going.made;
      young = omega arith;
      drawing = (c.args.number, c.loop-events.events, going.words);
      unquiet = sym c.quiet.ensures ∙ c.if-not-quiet.true;
    }

pub loop-events-preserved : goal.loop-events-preserved
loop-events-preserved c =
    next_noted c.args.image.now c.args.machine.now c.loop-events.machine c.next_moves-moves.new.machine c.args.number c.args.most c.loop-events.events c.loop-events.moves c.next_moves-moves.result c.loop-events.draws c.next_moves-moves.new.draws
    c.loop-events-test.true c.loop-events.invariant c.next_moves-moves.ensures

pub returns : goal.returns
returns c =
    let all : c.loop-events.events ≡ c.args.most = omega arith in
    let t = counted_end c.args.image.now c.args.machine.now c.loop-events.machine c.args.number c.args.most c.loop-events.events c.loop-events.moves c.loop-events.draws c.loop-events.invariant all in
    record { end = t.end; events = sym all ∙ t.events; moves = t.moves; made = c.loop-events.invariant.going.made }
