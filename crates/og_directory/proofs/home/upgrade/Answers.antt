use Rattle.std.proofs.Common.{◌≡◌, ◌∙◌, sym, ap}
use Rattle.og_directory.specs.declared.entry.State.TheVariants.{Shared}
use Rattle.og_directory.specs.Words.{set_of}
use Rattle.og_directory.specs.Table.{is_sharer}
use Rattle.og_directory.proofs.Letters.{counts-upgrade}
use Rattle.og_directory.proofs.home.upgrade.Goals as goal

pub returns-in-Shared-clause-counts : goal.returns-in-Shared-clause-counts
returns-in-Shared-clause-counts c =
    let shared : c.args.entry.now ≡ Shared c.in-Shared.field-0 = sym c.state.ensures ∙ c.in-Shared.is in
    let groups : c.sharers.result ≡ c.in-Shared.field-0 = c.sharers.ensures ∙ ap (λ e. set_of e) shared in
    counts-upgrade c.args.case.nodes c.args.line.now c.args.case.sender c.args.case.block c.args.entry.now c.in-Shared.field-0 shared
    (ap (λ s. is_sharer c.args.case.nodes c.args.case.sender s) (sym groups) ∙ sym c.has.ensures ∙ c.if-has.true)
