use Rattle.std.proofs.Common.{◌≡◌, subst, sym, ap, ◌∙◌, arith}
use Rattle.std.proofs.lemmas.Grind.{common_steps}
use Rattle.og_counters.specs.Counts.{rules_of}
use Rattle.og_counters.specs.Kept.{KeptCounts, AreCounters, counters_of}
use Rattle.og_counters.proofs.Found.{blank, blank_is_new, blank-sound}
use Rattle.og_counters.proofs.Counters.make.Goals as goal

made : goal.In_ok-noticed → KeptCounts
made c = record { rules = rules_of c.args.home c.args.settings.now; counts = c.in_ok-counts.counts.items; sums = c.in_ok-sums.sums.items; noticed = c.in_ok-noticed.noticed.items }

is_blank : (c : goal.In_ok-noticed) → made c ≡ blank (rules_of c.args.home c.args.settings.now)
unfolding made
is_blank c = grind (arith, common_steps)

pub invariant_of-result : goal.invariant_of-result
unfolding made
invariant_of-result c =
    subst AreCounters (sym (is_blank c))
    (blank-sound (rules_of c.args.home c.args.settings.now) c.requires c.args.settings.now.trigger_in_range.0 c.args.settings.now.trigger_in_range.1 c.args.settings.now.reset_in_range.0 c.args.settings.now.reset_in_range.1)

pub returns : goal.returns
unfolding made
returns c = ap counters_of (is_blank c) ∙ blank_is_new (rules_of c.args.home c.args.settings.now)
