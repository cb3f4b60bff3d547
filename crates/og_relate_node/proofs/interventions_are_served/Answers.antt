use Rattle.og_relate_node.proofs.Interventions.{intervention_waits, intervention_answered}
use Rattle.og_relate_node.proofs.Slots.{slot_meets}
use Rattle.og_relate_node.proofs.interventions_are_served.Goals as goal

pub returns-clause-waits : goal.returns-clause-waits
returns-clause-waits g c = λ s harts cpu home mover w p frame number i request message rest sim lp rq at hm ht. intervention_waits s harts cpu home mover w p frame number i request message rest sim lp rq at hm ht

pub returns-clause-answered : goal.returns-clause-answered
returns-clause-answered g c = λ s harts cpu home mover w p frame number i rest setup lp sim wi vf. intervention_answered s harts cpu home mover w p frame number i rest setup lp sim wi vf

pub returns-clause-ignored : goal.returns-clause-ignored
returns-clause-ignored g c = λ s harts cpu home mover w p frame number slot i message rest sim lp sl vf vk cx. slot_meets s harts cpu home mover w frame number p slot i message rest sim lp sl vf vk cx
