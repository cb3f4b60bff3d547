-- none of the instructions that were passed is named
use Rattle.std.proofs.Common.{◌≡◌, drop}
use Rattle.rv_asm.specs.Names.{first_named}
use Rattle.rv_asm.proofs.names.first_named.Given as goal

abbrev pub invariant-loop-op : goal.invariant-loop-op
invariant-loop-op l = first_named (drop l.op-index l.ops) l.text ≡ first_named l.ops l.text
