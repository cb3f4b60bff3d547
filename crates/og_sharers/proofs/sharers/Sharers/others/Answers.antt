use Rattle.std.proofs.Common.{◌≡◌, ◌&&◌, ◌∙◌, ap, sym, arith, nat_lt, false, nat_cmp}
use Rattle.std.specs.FinSet as set
use Rattle.std.proofs.lemmas.Bool.Decides.{nat_tests}
use Rattle.og_base.specs.Groups.{group_of}
use Rattle.og_sharers.specs.Sets.{is_other}
use Rattle.og_sharers.proofs.sharers.Sharers.others.Goals as goal

pub loop-group-init : goal.loop-group-init
loop-group-init c = record {
  within = omega arith;
  found = λ k. ap (λ s. set.contains s k) c.none-others.ensures ∙ set.contains-empty nat_cmp k ∙ (let no : nat_lt (group_of c.args.nodes k) 0 ≡ false = grind (arith, nat_tests) in sym (ap (λ b. b && is_other c.args.self.now c.args.node c.args.nodes k) no));
}
