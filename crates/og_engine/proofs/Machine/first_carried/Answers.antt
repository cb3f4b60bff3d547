use Rattle.std.proofs.Common.{◌∙◌, ◌≡◌, ◌≤◌, Some, List, length, arith, ap, sym}
use Rattle.std.specs.Prelude.{slice_get}
use Rattle.og_runs.specs.declared.Msg.{Msg}
use Rattle.og_msg.specs.declared.Kind.{Kind}
use Rattle.og_flight.specs.Flight.{Flying}
use Rattle.og_machine.specs.Held.{carried}
use Rattle.og_engine.specs.Kept.{KeptMachine}
use Rattle.og_engine.proofs.Lines.{found_here, none_here, none_at_all}
use Rattle.og_engine.proofs.Machine.first_carried.Goals as goal

pub returns-then-is_some : goal.returns-then-is_some
returns-then-is_some c =
    let same : c.flight-flight.result.now.messages ≡ c.args.self.now.flight.messages = ap (λ (f : Flying Kind). f.messages) c.flight-flight.ensures ∙ ap (λ (k : KeptMachine). k.flight.messages) c.self.view_is in
    let there : slice_get c.args.self.now.flight.messages c.loop-at.at ≡ Some c.select.result = ap (λ (ms : List (Msg Kind)). slice_get ms c.loop-at.at) (sym same) ∙ c.select.ensures in
    found_here (λ m. carried c.args.block m.kind) c.args.self.now.flight.messages c.loop-at.at c.select.result c.carried_by-line.result there c.carried_by-line.ensures (sym c.is_some.ensures ∙ c.if-is_some.true) c.loop-at.invariant

pub loop-at-preserved : goal.loop-at-preserved
loop-at-preserved c =
    let same : c.flight-flight.result.now.messages ≡ c.args.self.now.flight.messages = ap (λ (f : Flying Kind). f.messages) c.flight-flight.ensures ∙ ap (λ (k : KeptMachine). k.flight.messages) c.self.view_is in
    let there : slice_get c.args.self.now.flight.messages c.loop-at.at ≡ Some c.select.result = ap (λ (ms : List (Msg Kind)). slice_get ms c.loop-at.at) (sym same) ∙ c.select.ensures in
    none_here (λ m. carried c.args.block m.kind) c.args.self.now.flight.messages c.loop-at.at c.select.result c.carried_by-line.result there c.carried_by-line.ensures (sym c.is_some.ensures ∙ c.if-is_some.false) c.loop-at.invariant

pub returns : goal.returns
returns c =
    let same : c.flight-flight.result.now.messages ≡ c.args.self.now.flight.messages = ap (λ (f : Flying Kind). f.messages) c.flight-flight.ensures ∙ ap (λ (k : KeptMachine). k.flight.messages) c.self.view_is in
    let count : c.len-at-end.result ≡ length c.flight-flight.result.now.messages = c.len-at-end.ensures.value in
    let long : length c.flight-flight.result.now.messages ≡ length c.args.self.now.flight.messages = ap (λ (ms : List (Msg Kind)). length ms) same in
    let past : length c.args.self.now.flight.messages ≤ c.loop-at.at = (let end = c.loop-at-test.false in omega arith) in
    none_at_all (λ m. carried c.args.block m.kind) c.args.self.now.flight.messages c.loop-at.at past c.loop-at.invariant
