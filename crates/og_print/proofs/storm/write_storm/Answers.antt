use Rattle.std.proofs.Common.{◌∙◌, ℕ, Bool, true, false, Result, length, sym, subst}
use Rattle.og_engine.specs.Kept.{machine_of}
use Rattle.og_driver.specs.Tallied.{moves_of}
use Rattle.og_print.specs.declared.fault.RunFault.{RunFault}
use Rattle.og_print.specs.Runs.{TextEnds}
use Rattle.og_print.specs.Storm.{LineEnds, storm_line, storm_sum, quiet_end, limit_end}
use Rattle.og_print.proofs.Stormed.{line_text, quiet_text, limit_text}
use Rattle.og_print.proofs.storm.write_storm.Goals as goal

pub returns-then-quiet : goal.returns-then-quiet
returns-then-quiet g c events count moves =
    quiet_text c.args.nodes c.args.loops (machine_of c.args.machine.now) events (g.K.Sink.seen c.args.out.now) (g.K.Sink.seen c.write_quiet.new.out) c.answer.result (sym c.quiet.ensures ∙ c.if-quiet.true)
    (subst (λ (r : Result Bool RunFault). TextEnds (storm_line c.args.nodes c.args.loops (quiet_end (storm_sum (machine_of c.args.machine.now)) (moves_of events) (length events))) true (g.K.Sink.seen c.args.out.now) (g.K.Sink.seen c.write_quiet.new.out) r) (sym c.answer.ensures)
    (line_text _ true (g.K.Sink.seen c.args.out.now) (g.K.Sink.seen c.write_quiet.new.out) c.write_quiet.result
    (subst (λ (s : ℕ). LineEnds (storm_line c.args.nodes c.args.loops (quiet_end s (moves_of events) (length events))) (g.K.Sink.seen c.args.out.now) (g.K.Sink.seen c.write_quiet.new.out) c.write_quiet.result) c.storm_sum-sum.ensures
    (subst (λ (m : ℕ). LineEnds (storm_line c.args.nodes c.args.loops (quiet_end c.storm_sum-sum.result m (length events))) (g.K.Sink.seen c.args.out.now) (g.K.Sink.seen c.write_quiet.new.out) c.write_quiet.result) moves
    (subst (λ (n : ℕ). LineEnds (storm_line c.args.nodes c.args.loops (quiet_end c.storm_sum-sum.result c.args.tally.moves n)) (g.K.Sink.seen c.args.out.now) (g.K.Sink.seen c.write_quiet.new.out) c.write_quiet.result) count c.write_quiet.ensures)))))

pub returns : goal.returns
returns g c events count moves =
    limit_text c.args.nodes c.args.loops (machine_of c.args.machine.now) events (g.K.Sink.seen c.args.out.now) (g.K.Sink.seen c.write_limit.new.out) c.answer-2.result (sym c.quiet.ensures ∙ c.if-quiet.false)
    (subst (λ (r : Result Bool RunFault). TextEnds (storm_line c.args.nodes c.args.loops (limit_end (length events))) false (g.K.Sink.seen c.args.out.now) (g.K.Sink.seen c.write_limit.new.out) r) (sym c.answer-2.ensures)
    (line_text _ false (g.K.Sink.seen c.args.out.now) (g.K.Sink.seen c.write_limit.new.out) c.write_limit.result
    (subst (λ (n : ℕ). LineEnds (storm_line c.args.nodes c.args.loops (limit_end n)) (g.K.Sink.seen c.args.out.now) (g.K.Sink.seen c.write_limit.new.out) c.write_limit.result) count c.write_limit.ensures)))
