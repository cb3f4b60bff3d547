-- What a node notes is a hart's note.
use Rattle.std.proofs.Common.{◌≡◌, Bool, true, false, cond, Option, None, Some, refl, [], ◌∷◌}
use Rattle.og_base.specs.declared.Block.{Block}
use Rattle.og_base.specs.declared.Cause.{Cause}
use Rattle.og_base.specs.declared.Cause.TheVariants.{Exit, Illegal, Fetch, Misaligned, Unmapped, Call, Break, Spent}
use Rattle.og_base.specs.declared.Frame.{Frame}
use Rattle.og_line.specs.declared.Line.{Line}
use Rattle.og_line.specs.declared.Mode.{Mode}
use Rattle.og_line.specs.declared.Mode.TheVariants as mode
use Rattle.og_line.specs.declared.Access.{Access}
use Rattle.og_line.specs.Access.{addr_of}
use Rattle.og_runs.specs.declared.Msg.{Msg}
use Rattle.og_msg.specs.declared.Kind.{Kind}
use Rattle.og_msg.specs.declared.Kind.TheVariants.{Invalidate, InterveneShared, InterveneEx, IntervenePoison, WbAck, WbBusyAck, Walked, WalkRetry, DropFrame, Dropped}
use Rattle.og_msg.specs.declared.Note.{Note}
use Rattle.og_image.specs.Image.{ImageState}
use Rattle.og_cache.specs.declared.CachedBlock.{CachedBlock}
use Rattle.og_cache.specs.Cache.{look_of, mode_of, line_of, thrown_out, reserved}
use Rattle.og_tlb.specs.Tlb.{look_of as frame_of, filled as tlb_filled, without_frame}
use Rattle.og_request.specs.declared.Want.{Want}
use Rattle.og_request.specs.declared.Want.TheVariants.{Read, ReadEx, Upgrade}
use Rattle.og_request.specs.declared.Held.{Held}
use Rattle.og_request.specs.declared.Held.TheVariants.{Shared as ShareWith, Exclusive as GiveTo, Poison as GiveBack}
use Rattle.og_request.specs.declared.Outcome.{Outcome}
use Rattle.og_request.specs.declared.Outcome.TheVariants.{Waiting, Filled, Again, Poisoned}
use Rattle.og_request.specs.Request.{Requested, received, outcome_of}
use Rattle.og_owner.specs.Owner.{answers, after_intervention}
use Rattle.og_victim.specs.Slot.{is_slot_of, after_ack, after_intervention as slot_after}
use Rattle.rv_hart.specs.declared.hart.Need.{Need}
use Rattle.rv_hart.specs.declared.hart.Need.TheVariants as need
use Rattle.rv_hart.specs.Hart.{need_of}
use Rattle.og_processor.specs.State.{ProcessorState, Given, either_note, becomes, sends, and_then, letter}
use Rattle.og_processor.specs.Access.{page_of, block_in, allows}
use Rattle.og_processor.specs.Act.{act_of, by_need, on_page, on_line, leaves, mode_out, throws_out, wanted, asks, misses, stop_note}
use Rattle.og_processor.specs.Take.{take_of, is_occupied, drops, drops_by, intervenes, is_for, is_asked, holding, settles, makes, tries_again, forgets, put_line, answers_held, ends, goes_on, receives}
use Rattle.og_node.specs.Node.{NodeState, is_for_home, take_by, act_of as node_act, take_of as node_take}
use Rattle.og_machine.specs.FlatRun.{is_of_hart}

-- a hart's, if anything is noted
abbrev pub IsHarts : Option Note → Type 0
IsHarts None = Unit {0}
IsHarts (Some noted) = is_of_hart noted ≡ true

-- ---- one row after another

either : (one other : Option Note) → IsHarts one → IsHarts other → IsHarts (either_note one other)
either None other a b = b
either (Some noted) other a b = a

then_is : (one : Given) (next : ProcessorState → Given) → IsHarts one.note → ((x : ProcessorState) → IsHarts (next x).note) → IsHarts (and_then one next).note
then_is one next a b = either one.note (next one.state).note a (b one.state)

if_is : (t : Bool) (one other : Given) → IsHarts one.note → IsHarts other.note → IsHarts (cond t one other).note
if_is true one other a b = a
if_is false one other a b = b

-- ---- acts

leaves_is : (x : ProcessorState) (out : Option CachedBlock) (m : Mode) → IsHarts (leaves x out m).note
leaves_is x None m = tt
leaves_is x (Some out) mode.Shared = tt
leaves_is x (Some out) mode.Clean = tt
leaves_is x (Some out) mode.Dirty = tt

misses_is : (x : ProcessorState) (want : Want) (block : Block) → IsHarts (misses x want block).note
misses_is x want block = then_is (throws_out x block) (λ y. asks y want block) (leaves_is (record x { cache = reserved x.cache block }) (thrown_out x.cache block) (mode_out (thrown_out x.cache block))) (λ y. tt)

on_line_is : (image : ImageState) (x : ProcessorState) (access : Access) (block : Block) (line : Option Line) → IsHarts (on_line image x access block line).note
on_line_is image x access block None = tt
on_line_is image x access block (Some line) = refl

on_page_is : (image : ImageState) (x : ProcessorState) (access : Access) (frame : Option Frame) → IsHarts (on_page image x access frame).note
on_page_is image x access None = tt
on_page_is image x access (Some frame) =
    let block : Block = block_in frame (addr_of access) in
    if_is (allows (mode_of x.cache block) access) (on_line image x access block (line_of x.cache block)) (misses x (wanted (mode_of x.cache block) access) block)
    (on_line_is image x access block (line_of x.cache block)) (misses_is x (wanted (mode_of x.cache block) access) block)

stop_is : (cause : Cause) (pc : _) → is_of_hart (stop_note cause pc) ≡ true
stop_is (Exit value) pc = refl
stop_is Illegal pc = refl
stop_is Fetch pc = refl
stop_is Misaligned pc = refl
stop_is Unmapped pc = refl
stop_is Call pc = refl
stop_is Break pc = refl
stop_is Spent pc = refl

act_is : (image : ImageState) (x : ProcessorState) → IsHarts (act_of image x).note
unfolding act_of
act_is image x = by (need_of image x.hart)
  where
    by : (d : Need) → IsHarts (by_need image x d).note
    by need.Plain = tt
    by (need.Emit value) = refl
    by (need.Stop cause) = stop_is cause x.hart.pc
    by (need.Access access) = on_page_is image x access (frame_of x.tlb (page_of (addr_of access)))

-- ---- takes

drops_is : (image : ImageState) (x : ProcessorState) → IsHarts (drops image x).note
drops_is image x = by x.drop
  where
    by : (o : Option Frame) → IsHarts (drops_by image x o).note
    by None = tt
    by (Some frame) = if_is (is_occupied x) (becomes x) (sends (record x { tlb = without_frame x.tlb frame; drop = None }) (letter image.nodes (Dropped frame) ∷ [])) tt tt

intervenes_is : (x : ProcessorState) (block : Block) (held : Held) → IsHarts (intervenes x block held).note
intervenes_is x block held =
    if_is (is_slot_of x.victim block) (becomes (record x { victim = slot_after x.victim })) (sends (record x { cache = after_intervention x.cache block held }) (answers (look_of x.cache block) block held)) tt tt

makes_is : (image : ImageState) (x : ProcessorState) (block : Block) (line : Option Line) (d : Need) → IsHarts (makes image x block line d).note
makes_is image x block (Some line) (need.Access access) = refl
makes_is image x block (Some line) need.Plain = tt
makes_is image x block (Some line) (need.Emit value) = tt
makes_is image x block (Some line) (need.Stop cause) = tt
makes_is image x block None d = tt

tries_is : (x : ProcessorState) (want : Want) (block : Block) → IsHarts (tries_again x want block).note
tries_is x Read block = tt
tries_is x ReadEx block = tt
tries_is x Upgrade block = tt

forgets_is : (x : ProcessorState) (d : Need) → IsHarts (forgets x d).note
forgets_is x need.Plain = tt
forgets_is x (need.Emit value) = tt
forgets_is x (need.Stop cause) = tt
forgets_is x (need.Access access) = tt

settles_is : (image : ImageState) (x : ProcessorState) (request : Requested) (outcome : Outcome) → IsHarts (settles image x request outcome).note
settles_is image x request Waiting = tt
settles_is image x request (Filled m line) = makes_is image (record x { cache = put_line x.cache request.block m line }) request.block (line_of (put_line x.cache request.block m line) request.block) (need_of image x.hart)
settles_is image x request Again = tries_is x request.want request.block
settles_is image x request Poisoned = forgets_is x (need_of image x.hart)

answers_is : (x : ProcessorState) (block : Block) (held : Option Held) → IsHarts (answers_held x block held).note
answers_is x block None = tt
answers_is x block (Some held) = intervenes_is x block held

ends_is : (image : ImageState) (x : ProcessorState) (request : Requested) (outcome : Outcome) → IsHarts (ends image x request outcome).note
ends_is image x request outcome =
    then_is (settles image (record x { request = None }) request outcome) (λ y. and_then (answers_held y request.block request.held) (λ z. drops image z)) (settles_is image (record x { request = None }) request outcome)
    (λ y. then_is (answers_held y request.block request.held) (λ z. drops image z) (answers_is y request.block request.held) (λ z. drops_is image z))

goes_is : (image : ImageState) (x : ProcessorState) (request : Requested) (outcome : Outcome) → IsHarts (goes_on image x request outcome).note
goes_is image x request Waiting = tt
goes_is image x request (Filled m line) = ends_is image x request (Filled m line)
goes_is image x request Again = ends_is image x request Again
goes_is image x request Poisoned = ends_is image x request Poisoned

receives_is : (image : ImageState) (x : ProcessorState) (request : Option Requested) (kind : Kind) → IsHarts (receives image x request kind).note
receives_is image x None kind = tt
receives_is image x (Some request) kind = goes_is image x (received request kind) (outcome_of (received request kind))

asked_is : (image : ImageState) (x : ProcessorState) (block : Block) (held : Held) → IsHarts (is_asked image x block held).note
asked_is image x block held =
    if_is (is_for x.request block) (becomes (record x { request = holding held x.request })) (and_then (intervenes x block held) (λ y. drops image y)) tt
    (then_is (intervenes x block held) (λ y. drops image y) (intervenes_is x block held) (λ y. drops_is image y))

take_is : (image : ImageState) (x : ProcessorState) (kind : Kind) → IsHarts (take_of image x kind).note
unfolding take_of
take_is image x (Invalidate block requester) = tt
take_is image x (InterveneShared block requester) = asked_is image x block (ShareWith requester)
take_is image x (InterveneEx block requester) = asked_is image x block (GiveTo requester)
take_is image x (IntervenePoison block) = asked_is image x block GiveBack
take_is image x (WbAck block) = drops_is image (record x { victim = after_ack x.victim false })
take_is image x (WbBusyAck block) = drops_is image (record x { victim = after_ack x.victim true })
take_is image x (Walked page frame) = drops_is image (record x { tlb = tlb_filled x.tlb page frame; walk = None })
take_is image x (WalkRetry page) = drops_is image (record x { walk = None })
take_is image x (DropFrame frame) = drops_is image (record x { drop = Some frame })
take_is image x kind = receives_is image x x.request kind

-- ---- nodes

pub node_act_is : (image : ImageState) (x : NodeState) → IsHarts (node_act image x).note
node_act_is image x = act_is image x.processor

pub node_take_is : (image : ImageState) (x : NodeState) (message : Msg Kind) → IsHarts (node_take image x message).note
node_take_is image x message = by (is_for_home message.kind)
  where
    by : (t : Bool) → IsHarts (take_by t image x message).note
    by true = tt
    by false = take_is image x.processor message.kind
