-- Which messages have a row at a processor. That a message names actors, frames and blocks that there are, and that its sender
-- may send it, is the node's to say.
use Rattle.std.specs.Prelude.{Bool, true, false, not, ◌&&◌, ◌||◌, is_none, Option, Some, None, if◌then◌else◌}
use Rattle.og_base.specs.declared.Block.{Block}
use Rattle.og_base.specs.declared.VPage.{VPage}
use Rattle.og_base.specs.Names.{is_same_page}
use Rattle.og_line.specs.declared.Mode.{Mode}
use Rattle.og_line.specs.declared.Mode.TheVariants as mode
use Rattle.og_msg.specs.declared.Kind.{Kind}
use Rattle.og_msg.specs.declared.Kind.TheVariants.{Invalidate, InterveneShared, InterveneEx, IntervenePoison, WbAck, WbBusyAck, Walked, WalkRetry, DropFrame}
use Rattle.og_cache.specs.Cache.{mode_of}
use Rattle.og_request.specs.declared.Want.{Want}
use Rattle.og_request.specs.declared.Want.TheVariants.{Upgrade}
use Rattle.og_request.specs.declared.Outcome.{Outcome}
use Rattle.og_request.specs.declared.Outcome.TheVariants.{Waiting, Filled, Again, Poisoned}
use Rattle.og_request.specs.Request.{Requested, received, outcome_of, has_row}
use Rattle.og_victim.specs.Slot.{is_slot_of}
use Rattle.og_processor.specs.State.{ProcessorState}
use Rattle.og_processor.specs.Take.{is_for}

abbrev pub is_shared : Option Mode → Bool
is_shared None = false
is_shared (Some mode.Shared) = true
is_shared (Some mode.Clean) = false
is_shared (Some mode.Dirty) = false

abbrev pub is_exclusive : Option Mode → Bool
is_exclusive None = false
is_exclusive (Some mode.Shared) = false
is_exclusive (Some mode.Clean) = true
is_exclusive (Some mode.Dirty) = true

-- a refused upgrade drops its copy
abbrev pub stays_shared : ProcessorState → Want → Block → Bool
stays_shared x Upgrade block = false
stays_shared x want block = is_shared (mode_of x.cache block)

-- the request leaves a shared copy when it ends
abbrev pub leaves_shared : ProcessorState → Requested → Outcome → Bool
leaves_shared x request Waiting = false
leaves_shared x request (Filled mode line) = is_shared (Some mode)
leaves_shared x request Again = stays_shared x request.want request.block
leaves_shared x request Poisoned = is_shared (mode_of x.cache request.block)

-- an upgrade that is filled without a line has its shared copy
abbrev pub has_its_copy : ProcessorState → Block → Outcome → Bool
has_its_copy x block (Filled mode None) = is_shared (mode_of x.cache block)
has_its_copy x block outcome = true

-- an intervention that was held, and is answered by the copy now, meets no shared one
abbrev pub may_answer : ProcessorState → Requested → Outcome → Bool
may_answer x request outcome = is_none request.held || is_slot_of x.victim request.block || not (leaves_shared x request outcome)

abbrev pub ends_well : ProcessorState → Requested → Outcome → Bool
ends_well x request outcome = has_its_copy x request.block outcome && may_answer x request outcome

-- a part meets a request that the requester's table has it for, and an end of it that has its rows
abbrev pub has_part_row : ProcessorState → Option Requested → Kind → Bool
has_part_row x None kind = false
has_part_row x (Some request) kind = has_row request kind && ends_well x (received request kind) (outcome_of (received request kind))

abbrev pub holds_nothing : Option Requested → Bool
holds_nothing None = true
holds_nothing (Some request) = is_none request.held

-- an intervention is held, where none is; or it meets the victim slot, or a copy that isn't shared
abbrev pub has_intervention_row : ProcessorState → Block → Bool
has_intervention_row x block =
    if is_for x.request block then holds_nothing x.request else is_slot_of x.victim block || not (is_shared (mode_of x.cache block))

abbrev pub walks_for : Option VPage → VPage → Bool
walks_for None page = false
walks_for (Some walked) page = is_same_page walked page

-- the processor's tables have a row for the message
unfoldable pub has_row_for : ProcessorState → Kind → Bool
has_row_for x (Invalidate block requester) = not (is_exclusive (mode_of x.cache block))
has_row_for x (InterveneShared block requester) = has_intervention_row x block
has_row_for x (InterveneEx block requester) = has_intervention_row x block
has_row_for x (IntervenePoison block) = has_intervention_row x block
has_row_for x (WbAck block) = is_slot_of x.victim block
has_row_for x (WbBusyAck block) = is_slot_of x.victim block
has_row_for x (Walked page frame) = walks_for x.walk page
has_row_for x (WalkRetry page) = walks_for x.walk page
has_row_for x (DropFrame frame) = is_none x.drop
has_row_for x kind = has_part_row x x.request kind
