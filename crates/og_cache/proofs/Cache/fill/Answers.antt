use Rattle.std.proofs.Common.{Some, subst, sym, ◌∙◌}
use Rattle.og_cache.proofs.Changes.{kept-filled}
use Rattle.og_cache.proofs.Seen.{look-None}
use Rattle.og_cache.specs.Cache.{IsCache, with_held, filled}
use Rattle.og_cache.proofs.Cache.fill.Goals as goal

pub put-requires-clause-kept : goal.put-requires-clause-kept
unfolding filled
put-requires-clause-kept c =
    let way = sym c.empty_way_of.ensures.value ∙ c.in-Some.is in
    subst (λ place. IsCache (with_held c.args.self.now c.args.block place (Some (record { block = c.args.block; mode = c.args.mode; line = c.args.line.now })))) way (kept-filled c.args.self.now c.empty_way_of.ensures.sound c.args.block c.args.mode c.args.line.now (look-None _ _ c.requires.absent))
