use Rattle.std.proofs.Common.{◌∙◌, sym}
use Rattle.og_directory.proofs.Letters.{counts-read_exclusive}
use Rattle.og_directory.proofs.home.read_exclusive.Goals as goal

pub returns-in-Shared-clause-counts : goal.returns-in-Shared-clause-counts
returns-in-Shared-clause-counts c = counts-read_exclusive c.args.case.nodes c.args.line.now c.args.case.sender c.args.case.block c.args.entry.now c.in-Shared.field-0 (sym c.state.ensures ∙ c.in-Shared.is)
