-- A hart whose need isn't to stop has instructions left.
use Rattle.std.proofs.Common.{arith}
use Rattle.rv_hart.proofs.Needs.{some_left}
use Rattle.rv_hart.proofs.hart.Hart.finish.Goals as goal

pub execute-requires-clause-left : goal.execute-requires-clause-left
execute-requires-clause-left c =
    let some = some_left c.args.image.now c.args.self.now c.requires in
    omega (arith, some)
