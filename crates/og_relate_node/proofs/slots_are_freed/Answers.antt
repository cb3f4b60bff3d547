use Rattle.og_relate_node.proofs.Slots.{slot_acks, slot_busy_acks}
use Rattle.og_relate_node.proofs.slots_are_freed.Goals as goal

pub returns-clause-freed : goal.returns-clause-freed
returns-clause-freed g c = λ s harts cpu home mover w p frame number rest sim lp. slot_acks s harts cpu home mover w frame number p rest sim lp

pub returns-clause-busy : goal.returns-clause-busy
returns-clause-busy g c = λ s harts cpu home mover w p frame number rest sim lp. slot_busy_acks s harts cpu home mover w frame number p rest sim lp
