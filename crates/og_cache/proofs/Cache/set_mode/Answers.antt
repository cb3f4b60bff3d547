use Rattle.std.proofs.Common.{◌≡◌, ◌+◌, Some, subst, sym, arith, slice_set}
use Rattle.std.proofs.lemmas.Grind.{common_steps}
use Rattle.og_cache.proofs.Seen.{mode_sound}
use Rattle.og_cache.specs.Cache.{Cached, IsCache, with_mode}
use Rattle.og_cache.proofs.Cache.set_mode.Goals as goal

pub invariant_of-self : goal.invariant_of-self
unfolding with_mode
invariant_of-self c =
    let changed : Cached = record { sets = c.self.inside.sets; ways = c.self.inside.ways; places = slice_set c.self.inside.places.items (c.first_way.result + c.in-Some.way) (Some record { block = c.in-Some-index_mut.copy.block; mode = c.args.mode; line = c.in-Some-index_mut.copy.line }); next = c.self.inside.next.items } in
    let same : changed ≡ with_mode c.args.self.now c.args.block c.args.mode = grind (arith, common_steps) in
    subst IsCache (sym same) (mode_sound c.args.self.now c.first_way.ensures.sound c.args.block c.args.mode)
