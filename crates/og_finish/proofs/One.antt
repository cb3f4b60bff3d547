-- The merged events decide the whole run: the same choices lead to one machine, and what is made from there is a function of it.
use Rattle.std.proofs.Common.{◌≡◌, ◌∙◌, sym, ap, subst}
use Rattle.og_runs.specs.Runs.{choices, IsSorted}
use Rattle.og_machine.specs.Machine.{Machine, start_machine, is_quiet}
use Rattle.og_machine.specs.Choices.{Simulated}
use Rattle.og_headline.proofs.OneRun.{one_run}
use Rattle.og_headline.proofs.Order.{one_order}
use Rattle.og_finish.specs.Finish.{finished}
use Rattle.og_finish.specs.Laws.{ThreadRunsAreOne}

pub thread_runs_are_one : ThreadRunsAreOne
thread_runs_are_one setup most merged events others quiet other a b =
    let begun : a.begun ≡ b.begun = (one_run setup (choices merged) (start_machine setup) a.begun b.begun merged merged a.begins b.begins).0 in
    let parts : finished setup most merged a.begun ≡ finished setup most merged b.begun = ap (λ (w : Machine). finished setup most merged w) begun in
    let sorted : IsSorted (finished setup most merged b.begun).1 events = subst (λ (p : Simulated). IsSorted p.1 events) parts a.is_sorted in
    let end : a.printed.end ≡ b.printed.end = a.end_is ∙ (ap (λ (p : Simulated). p.0) parts ∙ sym b.end_is) in
    (one_order (finished setup most merged b.begun).1 events others sorted b.is_sorted, a.printed.quiet_is ∙ (ap is_quiet end ∙ sym b.printed.quiet_is))
