use Rattle.std.proofs.Common.{◌≤◌, ◌+◌, ◌/◌, ◌^◌, ◌∙◌, ap, sym, arith}
use Rattle.std.specs.FinSet as set
use Rattle.std.specs.Int.{w64, trailing_zeros}
use Rattle.og_sharers.proofs.Words.{none_above, none_from, lowest}
use Rattle.og_sharers.proofs.sharers.Sharers.least_group.Goals as goal

pub returns-then-from-ge64-clause-none : goal.returns-then-from-ge64-clause-none
returns-then-from-ge64-clause-none c = λ k le. sym (ap (λ s. set.contains s k) c.self.view_is) ∙ none_above 64 c.self.inside.bits k (let out : 64 ≤ c.args.from = c.if-from-ge64.true in omega arith)

pub returns-then-rest-eq0-clause-none : goal.returns-then-rest-eq0-clause-none
returns-then-rest-eq0-clause-none c = λ k le. sym (ap (λ s. set.contains s k) c.self.view_is) ∙ none_from 64 c.self.inside.bits c.args.from c.self.invariant c.if-rest-eq0.true k le

pub returns-clause-member : goal.returns-clause-member
returns-clause-member c =
    sym (ap (λ s. set.contains s (c.args.from + trailing_zeros w64 (c.self.inside.bits / 2 ^ c.args.from))) c.self.view_is)
    ∙ (lowest w64 c.self.inside.bits c.args.from c.self.invariant c.if-rest-eq0.false).member

pub returns-clause-first : goal.returns-clause-first
returns-clause-first c = λ k le lt. sym (ap (λ s. set.contains s k) c.self.view_is) ∙ (lowest w64 c.self.inside.bits c.args.from c.self.invariant c.if-rest-eq0.false).first k le lt

pub returns-clause-few : goal.returns-clause-few
returns-clause-few c = (lowest w64 c.self.inside.bits c.args.from c.self.invariant c.if-rest-eq0.false).inside
