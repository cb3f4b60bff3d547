-- What a processor makes of a message.
use Rattle.std.specs.Prelude.{ℕ, Bool, true, false, not, ◌||◌, is_some, Option, Some, None, [], ◌∷◌, if◌then◌else◌}
use Rattle.og_base.specs.declared.Block.{Block}
use Rattle.og_base.specs.declared.Frame.{Frame}
use Rattle.og_base.specs.Names.{is_same_block}
use Rattle.og_line.specs.declared.Line.{Line}
use Rattle.og_line.specs.declared.Mode.{Mode}
use Rattle.og_line.specs.Access.{addr_of}
use Rattle.og_msg.specs.declared.Kind.{Kind}
use Rattle.og_msg.specs.declared.Kind.TheVariants.{Invalidate, InterveneShared, InterveneEx, IntervenePoison, InvalAck, WbAck, WbBusyAck, Walked, WalkRetry, DropFrame, Dropped}
use Rattle.og_image.specs.Image.{ImageState}
use Rattle.og_cache.specs.Cache.{Cached, look_of, line_of, filled, with_line, with_mode, without}
use Rattle.og_tlb.specs.Tlb.{filled as tlb_filled, without_page, without_frame}
use Rattle.og_request.specs.declared.Want.{Want}
use Rattle.og_request.specs.declared.Want.TheVariants.{Upgrade}
use Rattle.og_request.specs.declared.Held.{Held}
use Rattle.og_request.specs.declared.Held.TheVariants.{Shared as ShareWith, Exclusive as GiveTo, Poison as GiveBack}
use Rattle.og_request.specs.declared.Outcome.{Outcome}
use Rattle.og_request.specs.declared.Outcome.TheVariants.{Waiting, Filled, Again, Poisoned}
use Rattle.og_request.specs.Request.{Requested, received, outcome_of}
use Rattle.og_owner.specs.Owner.{answers, after_intervention as cache_after_intervention, invalidated}
use Rattle.og_victim.specs.Slot.{is_free_slot, is_slot_of, after_ack, after_intervention as slot_after_intervention}
use Rattle.rv_hart.specs.declared.hart.Need.{Need}
use Rattle.rv_hart.specs.declared.hart.Need.TheVariants as need
use Rattle.rv_hart.specs.Hart.{need_of}
use Rattle.og_processor.specs.State.{ProcessorState, Given, becomes, sends, and_then, letter}
use Rattle.og_processor.specs.Access.{page_of, completes}

-- ---- a drop request

-- a request, a walk or a victim is outstanding
abbrev pub is_occupied : ProcessorState → Bool
is_occupied x = is_some x.request || is_some x.walk || not (is_free_slot x.victim)

-- a drop request that is held is answered where nothing is outstanding: the frame's pages leave the TLB
abbrev pub drops_by : ImageState → ProcessorState → Option Frame → Given
drops_by image x None = becomes x
drops_by image x (Some frame) =
    if is_occupied x then becomes x else sends (record x { tlb = without_frame x.tlb frame; drop = None }) (letter image.nodes (Dropped frame) ∷ [])

abbrev pub drops : ImageState → ProcessorState → Given
drops image x = drops_by image x x.drop

-- ---- an intervention that isn't held

-- it is served by the victim slot that has the block, without a letter, and else by the copy
abbrev pub intervenes : ProcessorState → Block → Held → Given
intervenes x block held =
    if is_slot_of x.victim block
    then becomes (record x { victim = slot_after_intervention x.victim })
    else sends (record x { cache = cache_after_intervention x.cache block held }) (answers (look_of x.cache block) block held)

-- ---- a request ends

-- the cache with the block filled, or with its line and mode changed where it is there
abbrev pub put_line : Cached → Block → Mode → Option Line → Cached
put_line cache block mode None = with_mode cache block mode
put_line cache block mode (Some line) =
    if is_some (look_of cache block) then with_mode (with_line cache block line) block mode else filled cache block mode line

-- the access that wanted the block is made
abbrev pub makes : ImageState → ProcessorState → Block → Option Line → Need → Given
makes image x block (Some line) (need.Access access) = completes image x block line access
makes image x block line need = becomes x

abbrev pub fills : ImageState → ProcessorState → Block → Mode → Option Line → Given
fills image x block mode line =
    makes image (record x { cache = put_line x.cache block mode line }) block (line_of (put_line x.cache block mode line) block) (need_of image x.hart)

-- a refused upgrade drops its copy, if it has it still
abbrev pub tries_again : ProcessorState → Want → Block → Given
tries_again x Upgrade block = becomes (record x { cache = without x.cache block })
tries_again x want block = becomes x

-- the page has moved away: its translation is dropped
abbrev pub forgets : ProcessorState → Need → Given
forgets x (need.Access access) = becomes (record x { tlb = without_page x.tlb (page_of (addr_of access)) })
forgets x need = becomes x

-- what becomes of a request that is over, by its outcome
abbrev pub settles : ImageState → ProcessorState → Requested → Outcome → Given
settles image x request Waiting = becomes x
settles image x request (Filled mode line) = fills image x request.block mode line
settles image x request Again = tries_again x request.want request.block
settles image x request Poisoned = forgets x (need_of image x.hart)

-- an intervention that the request held is answered
abbrev pub answers_held : ProcessorState → Block → Option Held → Given
answers_held x block None = becomes x
answers_held x block (Some held) = intervenes x block held

-- the request is over: what it brought, then the held intervention, then the held drop request
abbrev pub ends : ImageState → ProcessorState → Requested → Outcome → Given
ends image x request outcome =
    and_then (settles image (record x { request = None }) request outcome) (λ y. and_then (answers_held y request.block request.held) (λ z. drops image z))

-- a part was received: the request waits for more, or is over
abbrev pub goes_on : ImageState → ProcessorState → Requested → Outcome → Given
goes_on image x request Waiting = becomes (record x { request = Some request })
goes_on image x request outcome = ends image x request outcome

abbrev pub receives : ImageState → ProcessorState → Option Requested → Kind → Given
receives image x None kind = becomes x
receives image x (Some request) kind = goes_on image x (received request kind) (outcome_of (received request kind))

-- ---- the take, by the kind of the message

-- the request is for this block
abbrev pub is_for : Option Requested → Block → Bool
is_for None block = false
is_for (Some request) block = is_same_block request.block block

abbrev pub holding : Held → Option Requested → Option Requested
holding held None = None
holding held (Some request) = Some (record request { held = Some held })

-- an intervention is held while the node's own request for the block is outstanding
abbrev pub is_asked : ImageState → ProcessorState → Block → Held → Given
is_asked image x block held =
    if is_for x.request block
    then becomes (record x { request = holding held x.request })
    else and_then (intervenes x block held) (λ y. drops image y)

unfoldable pub take_of : ImageState → ProcessorState → Kind → Given
take_of image x (Invalidate block requester) = sends (record x { cache = without x.cache block; request = invalidated x.request block }) (letter requester (InvalAck block) ∷ [])
take_of image x (InterveneShared block requester) = is_asked image x block (ShareWith requester)
take_of image x (InterveneEx block requester) = is_asked image x block (GiveTo requester)
take_of image x (IntervenePoison block) = is_asked image x block GiveBack
take_of image x (WbAck block) = drops image (record x { victim = after_ack x.victim false })
take_of image x (WbBusyAck block) = drops image (record x { victim = after_ack x.victim true })
take_of image x (Walked page frame) = drops image (record x { tlb = tlb_filled x.tlb page frame; walk = None })
take_of image x (WalkRetry page) = drops image (record x { walk = None })
take_of image x (DropFrame frame) = drops image (record x { drop = Some frame })
take_of image x kind = receives image x x.request kind
