use Rattle.std.proofs.Common.{◌≡◌, subst, sym, arith}
use Rattle.std.proofs.lemmas.Grind.{common_steps}
use Rattle.og_cache.proofs.Seen.{new_sound}
use Rattle.og_cache.specs.Cache.{Cached, IsCache, empty_cache}
use Rattle.og_cache.proofs.Cache.make.Goals as goal

pub invariant_of-result : goal.invariant_of-result
unfolding empty_cache
invariant_of-result c =
    let made : Cached = record { sets = c.args.sets; ways = c.args.ways; places = c.in_ok-places.places.items; next = c.in_ok-next.next.items } in
    let same : made ≡ empty_cache c.args.sets c.args.ways = grind (arith, common_steps) in
    subst IsCache (sym same) (new_sound c.args.sets c.args.ways c.requires.has_sets c.requires.has_ways)
