use Rattle.std.proofs.Common.{◌≡◌, None}
use Rattle.crossbeam_queue.specs.Passes.{view as known}
use Rattle.og_fabric.specs.Gathered.{IsFree, first_has}
use Rattle.og_fabric.proofs.Fabric.drain.Given as goal

abbrev pub invariant-loop : goal.invariant-loop
invariant-loop g l = IsFree l.self l.pass × (known l.pass ≡ record { rest = None; sides = first_has l.left.items (known l.initial.pass).sides })
