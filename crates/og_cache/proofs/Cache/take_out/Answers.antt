use Rattle.std.proofs.Common.{None, subst, sym, ◌∙◌}
use Rattle.og_cache.proofs.Seen.{out_sound}
use Rattle.og_cache.specs.Cache.{IsCache, with_held, without}
use Rattle.og_cache.proofs.Cache.take_out.Goals as goal

pub put-requires-clause-kept : goal.put-requires-clause-kept
unfolding without
put-requires-clause-kept c =
    let way = sym c.way_of.ensures.value ∙ c.in_ok-way.was in
    subst (λ place. IsCache (with_held c.args.self.now c.args.block place None)) way (out_sound c.args.self.now c.way_of.ensures.sound c.args.block)
