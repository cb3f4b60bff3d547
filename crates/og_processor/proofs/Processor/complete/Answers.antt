use Rattle.std.proofs.Common.{ap, ◌∙◌}
use Rattle.std.specs.Prelude.{is_some}
use Rattle.og_cache.specs.Cache.{look_of}
use Rattle.og_processor.proofs.Ends.{lined_there}
use Rattle.og_processor.proofs.Processor.complete.Goals as goal

pub set_mode-requires : goal.set_mode-requires
set_mode-requires c = lined_there c.line_is_seen.ensures c.self.inside.cache c.args.block c.perform-answer.new.self c.stays_sound.ensures (ap (λ p. is_some (look_of p.cache c.args.block)) c.self.view_is ∙ c.requires.there)
