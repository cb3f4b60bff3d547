use Rattle.std.proofs.Common.{◌≡◌, replicate, None}
use Rattle.og_flat.proofs.machine.no_reservations.Given as goal

abbrev pub invariant-loop-hart : goal.invariant-loop-hart
invariant-loop-hart l = l.reserved.items ≡ replicate l._hart None
