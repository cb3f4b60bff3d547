use Rattle.std.proofs.Common.{◌||◌, is_some, ap, ap₂, sym, ◌∙◌}
use Rattle.og_counters.specs.Kept.{counters_of}
use Rattle.og_counters.proofs.Steps.{marks, counted_full, counted_low}
use Rattle.og_counters.proofs.Counters.count.Goals as goal

pub returns-then-is_full-clause-counted : goal.returns-then-is_full-clause-counted
returns-then-is_full-clause-counted c =
    counted_full (counters_of c.args.self.now) c.args.index c.args.node c.requires.node (counters_of c.set_noticed.new.self) (counters_of c.clear.new.self)
    (marks (counters_of c.args.self.now) c.args.index c.args.node c.requires.node (counters_of c.set_noticed.new.self) (c.is_noticed.result || c.is_some.result)
    (ap₂ (λ a b. a || b) c.is_noticed.ensures (c.is_some.ensures ∙ ap is_some c.notice-hot.ensures)) c.set_noticed.ensures)
    (sym c.is_full.ensures ∙ c.if-is_full.true) c.clear.ensures

pub returns-else-is_full-clause-counted : goal.returns-else-is_full-clause-counted
returns-else-is_full-clause-counted c =
    counted_low (counters_of c.args.self.now) c.args.index c.args.node c.requires.node (counters_of c.set_noticed.new.self) (counters_of c.raise.new.self)
    (marks (counters_of c.args.self.now) c.args.index c.args.node c.requires.node (counters_of c.set_noticed.new.self) (c.is_noticed.result || c.is_some.result)
    (ap₂ (λ a b. a || b) c.is_noticed.ensures (c.is_some.ensures ∙ ap is_some c.notice-hot.ensures)) c.set_noticed.ensures)
    (sym c.is_full.ensures ∙ c.if-is_full.false) c.raise.ensures
