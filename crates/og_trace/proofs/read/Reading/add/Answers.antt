use Rattle.std.proofs.Common.{◌≡◌, true, subst}
use Rattle.og_trace.specs.declared.item.Item.{Item}
use Rattle.og_trace.specs.Grammar.{is_in_range}
use Rattle.og_trace.proofs.read.Reading.add.Goals as goal

pub settings_of-requires : goal.settings_of-requires
unfolding is_in_range
settings_of-requires c = subst (λ (i : Item). is_in_range i ≡ true) c.in-Head.is c.requires
