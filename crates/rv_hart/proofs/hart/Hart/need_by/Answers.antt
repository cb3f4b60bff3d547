-- What is known of an access is told by the operation.
use Rattle.std.proofs.Common.{◌∙◌, sym}
use Rattle.rv_hart.proofs.Needs.{from_instr}
use Rattle.rv_hart.proofs.hart.Hart.need_by.Goals as goal

pub returns-in_default-clause-aligned : goal.returns-in_default-clause-aligned
returns-in_default-clause-aligned c access e =
    (from_instr c.args.image.now c.args.self.now c.args.instr.now access (sym c.data_need.ensures ∙ e)).aligned
