use Rattle.std.proofs.Common.{◌≡◌, ◌+◌, ◌*◌, ◌%◌, None, subst, sym, arith, slice_set}
use Rattle.std.proofs.lemmas.Grind.{common_steps}
use Rattle.og_cache.proofs.Changes.{kept-reserved}
use Rattle.og_cache.specs.Cache.{Cached, IsCache, reserved}
use Rattle.og_cache.proofs.Cache.reserve_way.Goals as goal

pub invariant_of-self : goal.invariant_of-self
unfolding reserved
invariant_of-self c =
    let changed : Cached = record { sets = c.self.inside.sets; ways = c.self.inside.ways; places = slice_set c.self.inside.places.items (c.set_of-set.result * c.from.result + c.from-2.result) None; next = slice_set c.self.inside.next.items c.set_of-set.result ((c.index-next.result.now + 1) % c.self.inside.ways) } in
    let same : changed ≡ reserved c.args.self.now c.args.block = grind (arith, common_steps) in
    subst IsCache (sym same) (kept-reserved c.args.self.now (subst IsCache c.self.view_is c.self.invariant) c.args.block)
