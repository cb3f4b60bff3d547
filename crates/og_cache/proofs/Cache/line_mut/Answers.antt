use Rattle.std.proofs.Common.{◌≡◌, subst, sym, arith}
use Rattle.std.proofs.lemmas.Grind.{common_steps}
use Rattle.og_cache.proofs.Seen.{line_sound}
use Rattle.og_cache.specs.Cache.{Cached, IsCache, with_line}
use Rattle.og_cache.proofs.Cache.line_mut.Goals as goal

same_cache : (a b : Cached) → a ≡ b → IsCache b → IsCache a
same_cache a b same sound = subst IsCache (sym same) sound

pub invariant_of-self-lent : goal.invariant_of-self-lent
unfolding with_line
invariant_of-self-lent c = λ w.
    same_cache _ (with_line c.args.self.now c.args.block w) (grind (arith, common_steps)) (line_sound c.args.self.now (subst IsCache c.self.view_is c.self.invariant) c.args.block w)
