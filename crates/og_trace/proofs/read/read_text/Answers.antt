use Rattle.std.proofs.Common.{◌≡◌, ◌+◌, ◌<◌, arith, subst, sym, Option, ℕ, length}
use Rattle.std.specs.Prelude.{IfSome}
use Rattle.std.proofs.lemmas.Bool.Decides.{nat_tests}
use Rattle.og_trace.specs.declared.item.Item.{Item}
use Rattle.og_trace.specs.declared.item.Place.{Place}
use Rattle.og_trace.specs.Grammar.{IsLine, IsOutside, IsFirstOutside}
use Rattle.og_trace.proofs.Roundtrip.{accepted, as_written}
use Rattle.og_trace.proofs.Readings.{IsReading, at_start, one_more, first_outside, all_read}
use Rattle.og_trace.proofs.read.read_text.Goals as goal

pub loop-rest-init : goal.loop-rest-init
loop-rest-init c = record { reading = at_start c.args.text.now c.new.result.items c.new-2.result.items c.new-3.result.items c.new.ensures.items c.new-2.ensures.items c.new-3.ensures.items; room = omega arith }

pub loop-rest-preserved : goal.loop-rest-preserved
loop-rest-preserved c =
    let here : IsLine c.loop-rest.place c.split_line.result.0.now c.in-Some.item = subst (λ (o : Option Item). IfSome o (λ i. IsLine c.loop-rest.place c.split_line.result.0.now i)) c.in-Some.is c.in_ok-item.ensures.inside in
    let short : length c.split_line.result.1.now < length c.loop-rest.rest.now = c.split_line.ensures.shorter in
    record {
      reading = subst (λ (p : Place). IsReading c.args.text.now c.split_line.result.1.now p (c.loop-rest.number + 1) c.add.new.self.head c.add.new.self.choices.items c.add.new.self.lines.items c.add.new.self.notes.items) (sym c.place_after-place.ensures)
          (one_more c.args.text.now c.loop-rest.rest.now c.split_line.result.0.now c.split_line.result.1.now c.loop-rest.place c.loop-rest.number c.loop-rest.reading.head c.add.new.self.head c.loop-rest.reading.choices.items c.add.new.self.choices.items
          c.loop-rest.reading.lines.items c.add.new.self.lines.items c.loop-rest.reading.notes.items c.add.new.self.notes.items c.in-Some.item c.loop-rest.invariant.reading c.split_line.ensures.lines here c.in_ok-add.ensures.head c.in_ok-add.ensures.choices c.in_ok-add.ensures.lines c.in_ok-add.ensures.notes);
      room = omega arith;
    }

pub returns-in_default-clause-accepted : goal.returns-in_default-clause-accepted
returns-in_default-clause-accepted c settings events quiet is h line e =
    let out : IsOutside c.loop-rest.place c.split_line.result.0.now = c.in_ok-item.ensures.outside (cc) in
    let f : IsFirstOutside c.args.text.now (c.loop-rest.number + 1) = first_outside c.args.text.now c.loop-rest.rest.now c.split_line.result.0.now c.split_line.result.1.now c.loop-rest.place c.loop-rest.number c.loop-rest.reading.head
    c.loop-rest.reading.choices.items c.loop-rest.reading.lines.items c.loop-rest.reading.notes.items c.loop-rest.invariant.reading c.split_line.ensures.lines out in
    let same : c.loop-rest.number + 1 ≡ line = cc in
    accepted c.args.text.now settings events quiet line is h (subst (λ (n : ℕ). IsFirstOutside c.args.text.now n) same f)

pub returns-clause-written : goal.returns-clause-written
returns-clause-written c settings events quiet is h =
    let none : length c.loop-rest.rest.now ≡ 0 = grind (arith, nat_tests) in
    as_written c.args.text.now settings events quiet c.trace.result.head c.trace.result.choices c.trace.result.lines c.trace.result.notes is h
    (all_read c.args.text.now c.loop-rest.rest.now c.loop-rest.place c.loop-rest.number c.loop-rest.reading.head c.trace.result.head c.loop-rest.reading.choices.items c.trace.result.choices c.loop-rest.reading.lines.items c.trace.result.lines c.loop-rest.reading.notes.items c.trace.result.notes
    c.loop-rest.invariant.reading none c.trace.ensures.head c.trace.ensures.choices c.trace.ensures.lines c.trace.ensures.notes)
