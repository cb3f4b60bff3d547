use Rattle.std.proofs.Common.{◌≡◌, ◌++◌, take, drop}
use Rattle.og_tlb.specs.Tlb.{emptied, is_to}
use Rattle.og_tlb.proofs.empty_frame.Given as goal

abbrev pub invariant-loop-slot : goal.invariant-loop-slot
invariant-loop-slot l = l.slots ≡ emptied (is_to l.frame) (take l.slot-index l.initial.slots) ++ drop l.slot-index l.initial.slots
