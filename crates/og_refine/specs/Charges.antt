-- The key that each message in flight takes up, in the machine's own data.
use Rattle.std.specs.Prelude.{Bool, false, Option, None, Some, slice_get}
use Rattle.og_base.specs.declared.Block.{Block}
use Rattle.og_runs.specs.declared.Msg.{Msg}
use Rattle.og_runs.specs.declared.Seat.{Seat}
use Rattle.og_msg.specs.declared.Key.{Key}
use Rattle.og_msg.specs.declared.Kind.{Kind}
use Rattle.og_msg.specs.Kinds.{block_of}
use Rattle.og_msg.specs.Keys.{charge_of}
use Rattle.og_victim.specs.Slot.{is_slot_of}
use Rattle.og_machine.specs.Machine.{ActorState, Node, Mover, Machine}

-- the actor's victim slot holds the block, if there is one: only a node has a slot
abbrev pub holds_block : Option Block → ActorState → Bool
holds_block None x = false
holds_block (Some b) (Node x) = is_slot_of x.processor.victim b
holds_block (Some b) (Mover m) = false

abbrev pub holds_block_at : Option Block → Option (Seat ActorState) → Bool
holds_block_at block None = false
holds_block_at block (Some seat) = holds_block block seat.local

-- the key of a message: an intervention's goes by its receiver's victim slot at this very moment
abbrev pub charge_in : Machine → Msg Kind → Key
charge_in w message = charge_of message (holds_block_at (block_of message.kind) (slice_get w.seats message.to))
