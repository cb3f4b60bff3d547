use Rattle.og_tlb.specs.Tlb.{is_for}
use Rattle.og_tlb.proofs.Emptied.{emptied_step}
use Rattle.og_tlb.proofs.empty_page.Goals as goal

pub loop-slot-preserved : goal.loop-slot-preserved
loop-slot-preserved c = emptied_step (is_for c.args.page) c.args.slots.now c.loop-slot.slots c.loop-slot.slot-index _ _ c.loop-slot-test.true c.loop-slot.invariant c.unless_for.ensures
