-- The need is by its definition, which tells what is known of an access.
use Rattle.std.proofs.Common.{◌∙◌, sym}
use Rattle.rv_hart.proofs.Needs.{need_reaches}
use Rattle.rv_hart.proofs.hart.Hart.next.Goals as goal

pub returns-clause-aligned : goal.returns-clause-aligned
returns-clause-aligned c access e =
    (need_reaches c.args.image.now c.args.self.now access (sym c.need.ensures ∙ e)).aligned

pub returns-clause-mapped : goal.returns-clause-mapped
returns-clause-mapped c access e =
    (need_reaches c.args.image.now c.args.self.now access (sym c.need.ensures ∙ e)).mapped

pub returns-clause-fits : goal.returns-clause-fits
returns-clause-fits c access e =
    (need_reaches c.args.image.now c.args.self.now access (sym c.need.ensures ∙ e)).fits
