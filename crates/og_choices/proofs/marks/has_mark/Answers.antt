use Rattle.std.proofs.Common.{◌≡◌, ◌∙◌, ◌<◌, ◌≤◌, ◌^◌, sym, ap, arith, nat_eq, nat_lt, false}
use Rattle.std.proofs.lemmas.Bool.Decides.{nat_tests}
use Rattle.std.proofs.lemmas.Nat.Bits.{bit_at_above}
use Rattle.og_choices.proofs.marks.has_mark.Goals as goal

pub returns-else-node-lt128 : goal.returns-else-node-lt128
returns-else-node-lt128 c =
    let low : c.args.marks < 2 ^ 128 = omega arith in
    let out : 128 ≤ c.args.node = c.if-node-lt128.false in
    let no : nat_lt c.args.node 128 ≡ false = grind (arith, nat_tests) in
    no ∙ sym (ap (λ b. nat_eq b 1) (bit_at_above c.args.marks 128 c.args.node low out))
