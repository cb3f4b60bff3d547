-- What a processor does of itself, and when it can't.
use Rattle.std.specs.Prelude.{ℕ, Bool, true, false, not, ◌&&◌, ◌||◌, Option, Some, None, Result, Ok, Err, [], ◌∷◌, if◌then◌else◌}
use Rattle.og_base.specs.declared.Block.{Block}
use Rattle.og_base.specs.declared.Frame.{Frame}
use Rattle.og_base.specs.declared.VPage.{VPage}
use Rattle.og_base.specs.declared.Cause.{Cause}
use Rattle.og_base.specs.declared.Cause.TheVariants.{Exit, Illegal, Fetch, Misaligned, Unmapped, Call, Break, Spent}
use Rattle.og_base.specs.declared.NotEnabled.{NotEnabled}
use Rattle.og_base.specs.declared.NotEnabled.TheVariants.{Stopped, Outstanding, VictimBusy}
use Rattle.og_line.specs.declared.Line.{Line}
use Rattle.og_line.specs.declared.Mode.{Mode}
use Rattle.og_line.specs.declared.Mode.TheVariants as mode
use Rattle.og_line.specs.declared.Access.{Access}
use Rattle.og_line.specs.Access.{is_write, addr_of}
use Rattle.og_msg.specs.declared.Kind.{Kind}
use Rattle.og_msg.specs.declared.Kind.TheVariants as kind
use Rattle.og_msg.specs.declared.Note.{Note}
use Rattle.og_msg.specs.declared.Note.TheVariants as note
use Rattle.og_image.specs.Image.{ImageState}
use Rattle.og_cache.specs.declared.CachedBlock.{CachedBlock}
use Rattle.og_cache.specs.Cache.{look_of, mode_of, line_of, thrown_out, reserved}
use Rattle.og_tlb.specs.Tlb.{look_of as frame_of}
use Rattle.og_request.specs.declared.Want.{Want}
use Rattle.og_request.specs.declared.Want.TheVariants.{Read, ReadEx, Upgrade}
use Rattle.og_request.specs.Request.{Requested, new_request}
use Rattle.og_victim.specs.declared.Slot.TheVariants.{Taken}
use Rattle.og_victim.specs.Slot.{is_free_slot, is_slot_of}
use Rattle.rv_hart.specs.declared.hart.Need.{Need}
use Rattle.rv_hart.specs.declared.hart.Need.TheVariants as need
use Rattle.rv_hart.specs.Hart.{need_of, finish_of, halt_of}
use Rattle.og_processor.specs.State.{ProcessorState, Given, becomes, sends, and_then, letter}
use Rattle.og_processor.specs.Access.{page_of, block_in, allows, completes}

-- ---- rows

-- the page isn't in the TLB: the mover is asked for its frame
abbrev pub walks : ImageState → ProcessorState → VPage → Given
walks image x page = sends (record x { walk = Some page }) (letter image.nodes (kind.Walk page) ∷ [])

-- what was thrown out leaves no trace where it wasn't dirty; else it goes into the victim slot, and home
abbrev pub leaves : ProcessorState → Option CachedBlock → Mode → Given
leaves x None mode = becomes x
leaves x (Some out) mode.Shared = becomes x
leaves x (Some out) mode.Clean = becomes x
leaves x (Some out) mode.Dirty = sends (record x { victim = Taken out.block false false }) (letter out.block.frame.home (kind.WriteBack out.block out.line) ∷ [])

abbrev pub mode_out : Option CachedBlock → Mode
mode_out None = mode.Clean
mode_out (Some out) = out.mode

-- a way is reserved for the block
abbrev pub throws_out : ProcessorState → Block → Given
throws_out x block = leaves (record x { cache = reserved x.cache block }) (thrown_out x.cache block) (mode_out (thrown_out x.cache block))

-- what is asked for: a copy to read; else the only copy, or that a shared copy becomes it
abbrev pub wanted : Option Mode → Access → Want
wanted (Some mode.Shared) access = if is_write access then Upgrade else Read
wanted mode access = if is_write access then ReadEx else Read

abbrev pub asking : Want → Block → Kind
asking Read block = kind.Read block
asking ReadEx block = kind.ReadEx block
asking Upgrade block = kind.Upgrade block

-- the home is asked for the block
abbrev pub asks : ProcessorState → Want → Block → Given
asks x want block = sends (record x { request = Some (new_request want block) }) (letter block.frame.home (asking want block) ∷ [])

-- a miss: first room is made, then the home is asked
abbrev pub misses : ProcessorState → Want → Block → Given
misses x want block = and_then (throws_out x block) (λ y. asks y want block)

-- ---- the act, by the need

abbrev pub on_line : ImageState → ProcessorState → Access → Block → Option Line → Given
on_line image x access block None = becomes x
on_line image x access block (Some line) = completes image x block line access

abbrev pub on_block : ImageState → ProcessorState → Access → Block → Given
on_block image x access block =
    if allows (mode_of x.cache block) access
    then on_line image x access block (line_of x.cache block)
    else misses x (wanted (mode_of x.cache block) access) block

abbrev pub on_page : ImageState → ProcessorState → Access → Option Frame → Given
on_page image x access None = walks image x (page_of (addr_of access))
on_page image x access (Some frame) = on_block image x access (block_in frame (addr_of access))

-- what is noted where a hart stops
abbrev pub stop_note : Cause → ℕ → Note
stop_note (Exit value) pc = note.Exit value
stop_note Spent pc = note.Spent
stop_note Illegal pc = note.Trap Illegal pc
stop_note Fetch pc = note.Trap Fetch pc
stop_note Misaligned pc = note.Trap Misaligned pc
stop_note Unmapped pc = note.Trap Unmapped pc
stop_note Call pc = note.Trap Call pc
stop_note Break pc = note.Trap Break pc

abbrev pub by_need : ImageState → ProcessorState → Need → Given
by_need image x need.Plain = becomes (record x { hart = finish_of image x.hart 0 })
by_need image x (need.Emit value) = record { state = record x { hart = finish_of image x.hart 0 }; letters = []; note = Some (note.Emit value) }
by_need image x (need.Stop cause) = record { state = record x { hart = halt_of image x.hart }; letters = []; note = Some (stop_note cause x.hart.pc) }
by_need image x (need.Access access) = on_page image x access (frame_of x.tlb (page_of (addr_of access)))

unfoldable pub act_of : ImageState → ProcessorState → Given
act_of image x = by_need image x (need_of image x.hart)

-- ---- when it can't

abbrev pub is_dirty : Mode → Bool
is_dirty mode.Shared = false
is_dirty mode.Clean = false
is_dirty mode.Dirty = true

abbrev pub is_dirty_out : Option CachedBlock → Bool
is_dirty_out None = false
is_dirty_out (Some out) = is_dirty out.mode

-- a request can't be sent: the victim slot holds its block, or a dirty block would have to be thrown out and it isn't free
abbrev pub is_blocked : ProcessorState → Block → Bool
is_blocked x block = is_slot_of x.victim block || (is_dirty_out (thrown_out x.cache block) && not (is_free_slot x.victim))

abbrev pub is_blocked_at : ProcessorState → Access → Option Frame → Bool
is_blocked_at x access None = false
is_blocked_at x access (Some frame) =
    not (allows (mode_of x.cache (block_in frame (addr_of access))) access) && is_blocked x (block_in frame (addr_of access))

abbrev pub is_blocked_by : ProcessorState → Need → Bool
is_blocked_by x (need.Access access) = is_blocked_at x access (frame_of x.tlb (page_of (addr_of access)))
is_blocked_by x need = false

abbrev pub may_act_by : ImageState → ProcessorState → Option Cause → Option Requested → Option VPage → Result (Unit {0}) NotEnabled
may_act_by image x (Some cause) request walk = Err Stopped
may_act_by image x None (Some request) walk = Err Outstanding
may_act_by image x None None (Some page) = Err Outstanding
may_act_by image x None None None = if is_blocked_by x (need_of image x.hart) then Err VictimBusy else Ok tt

-- whether the processor may act, and else the first reason that applies: its hart has stopped; a request or a walk is
-- outstanding; a request can't be sent
unfoldable pub may_act : ImageState → ProcessorState → Result (Unit {0}) NotEnabled
may_act image x = may_act_by image x x.hart.cause x.request x.walk
