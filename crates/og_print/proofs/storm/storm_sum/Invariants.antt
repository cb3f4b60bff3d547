use Rattle.std.proofs.Common.{◌≡◌, ◌%◌, ◌^◌}
use Rattle.og_engine.specs.Kept.{machine_of}
use Rattle.og_print.specs.Storm.{blocks_sum}
use Rattle.og_print.proofs.storm.storm_sum.Given as goal

abbrev pub invariant-loop-block : goal.invariant-loop-block
invariant-loop-block l = l.sum ≡ blocks_sum (machine_of l.machine) l.block % 2 ^ 64
