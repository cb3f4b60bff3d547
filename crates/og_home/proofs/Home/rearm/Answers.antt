use Rattle.std.proofs.Common.{refl, ap, ◌∙◌}
use Rattle.og_counters.specs.Counts.{reset_step}
use Rattle.og_counters.specs.Kept.{counters_of}
use Rattle.og_home.specs.Home.{rearm}
use Rattle.og_home.proofs.Blocks.{home_counted}
use Rattle.og_home.proofs.Home.rearm.Goals as goal

pub returns : goal.returns
unfolding rearm
returns c =
    home_counted c.self.view_is _ (reset_step (counters_of c.args.self.now.counters) c.args.frame.index)
    (c.reset.ensures ∙ ap (λ d. reset_step (counters_of d.counters) c.args.frame.index) c.self.view_is) refl refl
