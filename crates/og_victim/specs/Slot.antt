-- The victim slot's table. A taken slot has a block and two flags, both false when it is taken: `busy`, a busy
-- acknowledgement came and the intervention is still to come; `seen`, the other way round.
use Rattle.std.specs.Prelude.{Bool, true, false, if◌then◌else◌}
use Rattle.og_base.specs.declared.Block.{Block}
use Rattle.og_base.specs.Names.{is_same_block}
use Rattle.og_victim.specs.declared.Slot.{Slot}
use Rattle.og_victim.specs.declared.Slot.TheVariants.{Free, Taken}

-- nothing is in the slot
abbrev pub is_free_slot : Slot → Bool
is_free_slot Free = true
is_free_slot (Taken block busy seen) = false

-- the slot holds the block
abbrev pub is_slot_of : Slot → Block → Bool
is_slot_of Free block = false
is_slot_of (Taken held busy seen) block = is_same_block held block

-- the slot after an acknowledgement: a plain one frees it; a busy one frees it where the intervention was seen
abbrev pub after_ack : Slot → Bool → Slot
after_ack Free busy = Free
after_ack (Taken block busy seen) false = Free
after_ack (Taken block busy seen) true = if seen then Free else Taken block true seen

-- the slot after an intervention for its block: it is freed where the busy acknowledgement came
abbrev pub after_intervention : Slot → Slot
after_intervention Free = Free
after_intervention (Taken block busy seen) = if busy then Free else Taken block busy true
