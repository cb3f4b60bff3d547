-- What holds of every victim slot.
use Rattle.std.specs.Prelude.{◌≡◌, Bool, false, ◌&&◌}
use Rattle.og_base.specs.declared.Block.{Block}
use Rattle.og_victim.specs.declared.Slot.{Slot}
use Rattle.og_victim.specs.declared.Slot.TheVariants.{Free, Taken}
use Rattle.og_victim.specs.Slot.{after_ack, after_intervention}

-- both flags stand
abbrev pub has_both_flags : Slot → Bool
has_both_flags Free = false
has_both_flags (Taken block busy seen) = busy && seen

-- both flags never stand: not when the slot is taken, and not after an acknowledgement or an intervention
pub record OneFlagStands : Type 0 where
  pub taken : (block : Block) → has_both_flags (Taken block false false) ≡ false
  pub acknowledged : (slot : Slot) (busy : Bool) → has_both_flags (after_ack slot busy) ≡ false
  pub intervened : (slot : Slot) → has_both_flags (after_intervention slot) ≡ false
