use Rattle.std.proofs.Common.{◌∙◌, Bool, List, ap, sym, refl}
use Rattle.std.specs.Prelude.{◌&&◌}
use Rattle.std.specs.List.{list_all}
use Rattle.og_runs.specs.declared.Seat.{Seat}
use Rattle.og_victim.specs.Slot.{is_free_slot}
use Rattle.og_node.specs.Kept.{KeptNode}
use Rattle.og_mover.specs.Table.{is_idle_job}
use Rattle.og_engine.specs.Kept.{KeptMachine}
use Rattle.og_engine.proofs.Counts.{rests_by, and_false}
use Rattle.og_engine.proofs.Machine.rests.Goals as goal

pub returns-then-are_slots_free : goal.returns-then-are_slots_free
returns-then-are_slots_free c =
    sym (ap (λ (t : Bool). t && c.idle.result) c.if-are_slots_free.true)
    ∙ rests_by c.args.self.now c.are_slots_free.result c.idle.result
    (c.are_slots_free.ensures ∙ ap (λ (xs : List (Seat KeptNode)). list_all (λ x. is_free_slot x.local.processor.victim) xs) c.deref.ensures.value ∙ ap (λ (m : KeptMachine). list_all (λ x. is_free_slot x.local.processor.victim) m.nodes) c.self.view_is)
    (c.idle.ensures ∙ ap (λ (m : KeptMachine). is_idle_job m.mover.local.job) c.self.view_is)

pub returns-else-are_slots_free : goal.returns-else-are_slots_free
returns-else-are_slots_free c =
    and_false c.are_slots_free.result (is_idle_job c.args.self.now.mover.local.job) c.if-are_slots_free.false
    ∙ rests_by c.args.self.now c.are_slots_free.result (is_idle_job c.args.self.now.mover.local.job)
    (c.are_slots_free.ensures ∙ ap (λ (xs : List (Seat KeptNode)). list_all (λ x. is_free_slot x.local.processor.victim) xs) c.deref.ensures.value ∙ ap (λ (m : KeptMachine). list_all (λ x. is_free_slot x.local.processor.victim) m.nodes) c.self.view_is)
    refl
