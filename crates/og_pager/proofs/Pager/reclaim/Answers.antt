use Rattle.std.proofs.Common.{arith}
use Rattle.std.proofs.lemmas.Grind.{common_steps}
use Rattle.og_pager.specs.PageTable.{reclaimed}
use Rattle.og_pager.proofs.Kept.{same_table, quarantine_move, kept_reclaimed}
use Rattle.og_pager.proofs.Pager.reclaim.Goals as goal

pub invariant_of-self : goal.invariant_of-self
unfolding reclaimed
invariant_of-self c =
    same_table _ (reclaimed c.args.self.now c.args.frame) (grind (arith, common_steps)) (kept_reclaimed c.args.self.now c.number-place.ensures.sound c.args.frame (quarantine_move c.args.self.now c.args.frame c.requires.quarantined).0 c.requires.frame (quarantine_move c.args.self.now c.args.frame c.requires.quarantined).1)
