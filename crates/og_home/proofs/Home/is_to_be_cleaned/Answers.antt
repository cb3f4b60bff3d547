use Rattle.std.proofs.Common.{sym, ◌∙◌}
use Rattle.og_home.specs.Home.{IsJudged}
use Rattle.og_home.specs.Kept.{home_of}
use Rattle.og_home.proofs.Rows.{poisoned_all, all_poisoned}
use Rattle.og_home.proofs.Home.is_to_be_cleaned.Goals as goal

pub returns-then-is_judged : goal.returns-then-is_judged
returns-then-is_judged c =
    let judged : IsJudged (home_of c.args.self.now) c.args.frame c.args.msg.now = c.is_judged.ensures.0 c.if-is_judged.true in (
      (λ yes. record { frame = judged.frame; sender = judged.sender; poisoned = poisoned_all ((home_of c.args.self.now).entry c.args.frame.index) 32 (sym c.is_poisoned.ensures ∙ yes) }),
      (λ h. c.is_poisoned.ensures ∙ all_poisoned ((home_of c.args.self.now).entry c.args.frame.index) 32 h.poisoned),
    )
