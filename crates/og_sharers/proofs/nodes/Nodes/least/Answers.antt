use Rattle.std.proofs.Common.{◌≤◌, ◌+◌, ◌/◌, ◌^◌, ◌∙◌, ap, sym, arith}
use Rattle.std.specs.FinSet as set
use Rattle.std.specs.Int.{w128, trailing_zeros}
use Rattle.og_sharers.proofs.Words.{none_above, none_from, lowest}
use Rattle.og_sharers.proofs.nodes.Nodes.least.Goals as goal

pub returns-then-from-ge128-clause-none : goal.returns-then-from-ge128-clause-none
returns-then-from-ge128-clause-none c = λ k le. sym (ap (λ s. set.contains s k) c.self.view_is) ∙ none_above 128 c.self.inside.bits k (let out : 128 ≤ c.args.from = c.if-from-ge128.true in omega arith)

pub returns-then-rest-eq0-clause-none : goal.returns-then-rest-eq0-clause-none
returns-then-rest-eq0-clause-none c = λ k le. sym (ap (λ s. set.contains s k) c.self.view_is) ∙ none_from 128 c.self.inside.bits c.args.from c.self.invariant c.if-rest-eq0.true k le

pub returns-clause-member : goal.returns-clause-member
returns-clause-member c =
    sym (ap (λ s. set.contains s (c.args.from + trailing_zeros w128 (c.self.inside.bits / 2 ^ c.args.from))) c.self.view_is)
    ∙ (lowest w128 c.self.inside.bits c.args.from c.self.invariant c.if-rest-eq0.false).member

pub returns-clause-first : goal.returns-clause-first
returns-clause-first c = λ k le lt. sym (ap (λ s. set.contains s k) c.self.view_is) ∙ (lowest w128 c.self.inside.bits c.args.from c.self.invariant c.if-rest-eq0.false).first k le lt
