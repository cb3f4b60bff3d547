use Rattle.std.proofs.Common.{rules, subst}
use Rattle.og_cache.specs.Cache.{IsCache}
use Rattle.og_processor.proofs.Ends.{filled_there, filled_low, filled_did}
use Rattle.og_processor.proofs.Processor.fill.Goals as goal

pub complete-requires-clause-there : goal.complete-requires-clause-there
complete-requires-clause-there c = filled_there c.args.self.now c.put.new.self c.args.block c.args.mode c.args.line c.put.ensures (subst (λ p. IsCache p.cache) c.self.view_is c.stays_sound.ensures) c.requires.low c.requires.low_line c.requires.copy c.requires.waiting.place

pub complete-requires-clause-low : goal.complete-requires-clause-low
complete-requires-clause-low c = filled_low c.args.self.now c.put.new.self c.args.block c.args.mode c.args.line c.put.ensures (subst (λ p. IsCache p.cache) c.self.view_is c.stays_sound.ensures) c.requires.low c.requires.low_line c.requires.copy c.requires.waiting.place

pub returns : goal.returns
returns c = filled_did c.args.self.now c.put.new.self c.args.block c.args.mode c.args.line c.put.ensures (subst (λ p. IsCache p.cache) c.self.view_is c.stays_sound.ensures) c.requires.low c.requires.low_line c.requires.copy c.requires.waiting.place c.args.image.now c.complete.new.self c.in-Access.access c.complete.result (search rules) (λ l at. c.complete.ensures l at)
