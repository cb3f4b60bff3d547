use Rattle.std.proofs.Common.{rules, ◌*◌, ◌∙◌, arith, sym, Some}
use Rattle.og_actors.specs.Rounds.{all_seen}
use Rattle.og_actors.proofs.Counting.{go_keep, go_more, all_tables, all_turns, all_begin, sums_fit, ended, stands, spent}
use Rattle.og_actors.proofs.Seen.{made_seen, idle_seen, each_kept, round_seen, standing_seen, fits_seen, grown_seen, ended_at_once, spent_at_once}
use Rattle.og_actors.proofs.rounds.run_rounds.Goals as goal

pub events_of-events-requires : goal.events_of-events-requires
events_of-events-requires g c = (sums_fit g.S.Scheme.most g.S.Scheme.actors c.args.actors.now (all_begin (c.args.rounds * c.args.turns) g.S.Scheme.most c.args.actors.now c.requires.turns) c.requires.actors c.requires.small).0

pub idle_of-idle-requires : goal.idle_of-idle-requires
idle_of-idle-requires g c = (sums_fit g.S.Scheme.most g.S.Scheme.actors c.args.actors.now (all_begin (c.args.rounds * c.args.turns) g.S.Scheme.most c.args.actors.now c.requires.turns) c.requires.actors c.requires.small).1

pub returns-in-Some : goal.returns-in-Some
returns-in-Some g c = record { rounds = ended_at_once g.S.Scheme.state g.S.Scheme.rules g.S.Scheme.stopped c.args.turns c.args.rounds c.args.actors.now c.in-Some.end (search rules) c.in-Some.ensures }

pub returns-in-None : goal.returns-in-None
returns-in-None g c = record { rounds = spent_at_once g.S.Scheme.state g.S.Scheme.rules g.S.Scheme.stopped c.args.turns c.args.rounds c.args.actors.now (search rules) c.in-None.ensures }

pub run_round-requires-clause-fabric : goal.run_round-requires-clause-fabric
run_round-requires-clause-fabric g c κs within = all_tables _ _ _ _ (each_kept g.S.Scheme.state _ _ _ (go_keep g.S.Scheme.rules g.S.Scheme.stopped _ _ _ _ c.loop.invariant.0)) c.requires.fabric

pub run_round-requires-clause-turns : goal.run_round-requires-clause-turns
run_round-requires-clause-turns g c κs within = all_turns c.loop.counter c.args.rounds _ _ _ _ (each_kept g.S.Scheme.state _ _ _ (go_keep g.S.Scheme.rules g.S.Scheme.stopped _ _ _ _ c.loop.invariant.0)) (search rules) c.requires.turns

pub returns-in-Some-standing : goal.returns-in-Some-standing
returns-in-Some-standing g c = record {
  rounds = ended g.S.Scheme.rules g.S.Scheme.stopped c.args.turns c.args.rounds c.loop.counter (all_seen g.S.Scheme.state c.args.actors.now) (all_seen g.S.Scheme.state c.loop.actors) (all_seen g.S.Scheme.state c.run_round.new.actors) c.in-Some-standing.end c.loop.invariant.0 (search rules)
      (round_seen g.S.Scheme.state g.S.Scheme.rules c.args.turns c.loop.actors c.run_round.new.actors c.run_round.ensures.len c.run_round.ensures.each)
      (standing_seen g.S.Scheme.state g.S.Scheme.stopped c.run_round.new.actors (Some c.in-Some-standing.end) c.in-Some-standing.ensures);
}

pub loop-preserved : goal.loop-preserved
loop-preserved g c =
    let s = stands _ _ c.standing-in-loop.result (standing_seen g.S.Scheme.state g.S.Scheme.stopped c.run_round.new.actors c.standing-in-loop.result c.standing-in-loop.ensures) c.in_default.is in (
      go_more g.S.Scheme.rules g.S.Scheme.stopped c.args.turns c.loop.counter (all_seen g.S.Scheme.state c.args.actors.now) (all_seen g.S.Scheme.state c.loop.actors) (all_seen g.S.Scheme.state c.run_round.new.actors) c.loop.invariant.0
          (round_seen g.S.Scheme.state g.S.Scheme.rules c.args.turns c.loop.actors c.run_round.new.actors c.run_round.ensures.len c.run_round.ensures.each) s.0 s.1,
      search rules,
    )

pub events_of-requires : goal.events_of-requires
events_of-requires g c = let a = c.loop.invariant.1 in let b = c.loop-test.false in (fits_seen g.S.Scheme.state g.S.Scheme.rules g.S.Scheme.stopped c.loop.counter c.args.rounds c.args.turns g.S.Scheme.most g.S.Scheme.actors c.args.actors.now c.loop.actors c.loop.invariant.0 (omega (arith, a, b)) c.requires.turns c.requires.actors c.requires.small).0

pub overflow_sub-result : goal.overflow_sub-result
overflow_sub-result g c = let x = (grown_seen g.S.Scheme.state g.S.Scheme.rules g.S.Scheme.stopped _ _ c.args.actors.now c.loop.actors c.loop.invariant.0).0 in let a = c.events_of-events.ensures in let b = c.events_of.ensures in omega (arith, x, a, b)

pub idle_of-requires : goal.idle_of-requires
idle_of-requires g c = let a = c.loop.invariant.1 in let b = c.loop-test.false in (fits_seen g.S.Scheme.state g.S.Scheme.rules g.S.Scheme.stopped c.loop.counter c.args.rounds c.args.turns g.S.Scheme.most g.S.Scheme.actors c.args.actors.now c.loop.actors c.loop.invariant.0 (omega (arith, a, b)) c.requires.turns c.requires.actors c.requires.small).1

pub overflow_sub-result-2 : goal.overflow_sub-result-2
overflow_sub-result-2 g c = let x = (grown_seen g.S.Scheme.state g.S.Scheme.rules g.S.Scheme.stopped _ _ c.args.actors.now c.loop.actors c.loop.invariant.0).1 in let a = c.idle_of-idle.ensures in let b = c.idle_of.ensures in omega (arith, x, a, b)

pub returns : goal.returns
returns g c =
    let i = c.loop.invariant in
    let a = i.1 in
    let b = c.loop-test.false in
    let none = c.if-rounds-eq0.false in
    let k = grown_seen g.S.Scheme.state g.S.Scheme.rules g.S.Scheme.stopped _ _ c.args.actors.now c.loop.actors i.0 in
    let m = k.0 in
    let n = k.1 in
    let m0 = c.events_of-events.ensures in
    let i0 = c.idle_of-idle.ensures in
    let m1 = c.events_of.ensures in
    let i1 = c.idle_of.ensures in
    record {
      rounds = spent g.S.Scheme.rules g.S.Scheme.stopped c.args.turns c.args.rounds c.loop.counter _ _ c.events_of-events.result c.idle_of-idle.result c.events_of.result c.idle_of.result (all_seen g.S.Scheme.state c.args.actors.now) (all_seen g.S.Scheme.state c.loop.actors) i.0 (omega (arith, a, b)) (search rules)
          (m0 ∙ sym (made_seen g.S.Scheme.state c.args.actors.now)) (i0 ∙ sym (idle_seen g.S.Scheme.state c.args.actors.now)) (m1 ∙ sym (made_seen g.S.Scheme.state c.loop.actors)) (i1 ∙ sym (idle_seen g.S.Scheme.state c.loop.actors)) (omega (arith, m, m0, m1)) (omega (arith, n, i0, i1));
    }
