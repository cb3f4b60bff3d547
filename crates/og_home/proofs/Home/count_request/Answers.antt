use Rattle.std.proofs.Common.{◌++◌, ap, ap₂, ◌∙◌, refl}
use Rattle.og_counters.specs.Counts.{count_step}
use Rattle.og_counters.specs.Kept.{counters_of}
use Rattle.og_home.specs.Home.{count_request, notice_letters}
use Rattle.og_home.proofs.Blocks.{home_counted}
use Rattle.og_home.proofs.Home.count_request.Goals as goal

pub returns-clause-home : goal.returns-clause-home
unfolding count_request
returns-clause-home c =
    home_counted c.self.view_is _ (count_step (counters_of c.args.self.now.counters) c.args.block.frame.index c.args.node).0
    (c.count-hot.ensures.counted ∙ ap (λ d. (count_step (counters_of d.counters) c.args.block.frame.index c.args.node).0) c.self.view_is) refl refl

pub returns-clause-letters : goal.returns-clause-letters
unfolding count_request
returns-clause-letters c =
    c.notify.ensures
    ∙ ap₂ (λ n o. c.args.out.now ++ notice_letters n o) (ap (λ r. r.nodes) c.rules.ensures.rules ∙ ap (λ d. d.counters.rules.nodes) c.self.view_is)
    (c.count-hot.ensures.notice ∙ ap (λ d. (count_step (counters_of d.counters) c.args.block.frame.index c.args.node).1) c.self.view_is)
