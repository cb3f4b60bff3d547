use Rattle.std.proofs.Common.{◌∙◌, ◌<◌, ◌^◌, Bool, cond, nat_eq, sym, ap, arith}
use Rattle.og_choices.specs.Marks.{is_marked}
use Rattle.og_choices.proofs.Bits.{set_marked, clear_marked}
use Rattle.og_choices.proofs.marks.with_mark.Goals as goal

pub returns-then-on : goal.returns-then-on
returns-then-on c = λ k. set_marked c.args.marks c.args.node k c.requires ∙ ap (λ (t : Bool). cond (nat_eq k c.args.node) t (is_marked c.args.marks k)) (sym c.if-on.true)

pub returns-else-on : goal.returns-else-on
returns-else-on c = λ k.
    let low : c.args.marks < 2 ^ 128 = omega arith in
    clear_marked c.args.marks c.args.node k low c.requires ∙ ap (λ (t : Bool). cond (nat_eq k c.args.node) t (is_marked c.args.marks k)) (sym c.if-on.false)
