use Rattle.og_pager.proofs.Eldest.{IsEldest}
use Rattle.og_pager.proofs.oldest_place.Given as goal

abbrev pub invariant-loop-place : goal.invariant-loop-place
invariant-loop-place l = IsEldest l.roles l.place l.oldest
