use Rattle.std.proofs.Common.{◌≡◌, ◌≤◌, ◌∙◌, ap, sym, arith, nat_eq, nat_lt, false}
use Rattle.std.specs.FinSet as set
use Rattle.std.proofs.lemmas.Bool.Decides.{nat_tests}
use Rattle.std.proofs.lemmas.Nat.Bits.{shr_and_one}
use Rattle.og_sharers.proofs.Words.{contains-word, none_above}
use Rattle.og_sharers.proofs.nodes.Nodes.has.Goals as goal

pub returns-then-node-lt128 : goal.returns-then-node-lt128
returns-then-node-lt128 c =
    ap (λ b. nat_eq b 1) (shr_and_one c.self.inside.bits c.args.node) ∙ sym (contains-word 128 c.self.inside.bits c.args.node c.self.invariant) ∙ ap (λ s. set.contains s c.args.node) c.self.view_is

pub returns-else-node-lt128 : goal.returns-else-node-lt128
returns-else-node-lt128 c =
    let no : nat_lt c.args.node 128 ≡ false = let out : 128 ≤ c.args.node = c.if-node-lt128.false in grind (arith, nat_tests) in
    no ∙ sym (none_above 128 c.self.inside.bits c.args.node c.if-node-lt128.false) ∙ ap (λ s. set.contains s c.args.node) c.self.view_is
