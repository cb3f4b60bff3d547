-- What a processor's tables do to its hart.
use Rattle.std.proofs.Common.{◌≡◌, ◌∙◌, Bool, true, false, inl, inr, Option, None, Some, Ok, [], ◌∷◌, refl, sym, subst}
use Rattle.std.specs.Prelude.{if◌then◌else◌}
use Rattle.og_base.specs.declared.Block.{Block}
use Rattle.og_base.specs.declared.Frame.{Frame}
use Rattle.og_base.specs.declared.Cause.{Cause}
use Rattle.og_base.specs.declared.Cause.TheVariants.{Exit, Illegal, Fetch, Misaligned, Unmapped, Call, Break, Spent}
use Rattle.og_line.specs.declared.Line.{Line}
use Rattle.og_line.specs.declared.Mode.{Mode}
use Rattle.og_line.specs.declared.Mode.TheVariants as mode
use Rattle.og_line.specs.declared.Access.{Access}
use Rattle.og_line.specs.Access.{addr_of}
use Rattle.og_msg.specs.declared.Kind.{Kind}
use Rattle.og_msg.specs.declared.Kind.TheVariants.{Invalidate, InterveneShared, InterveneEx, IntervenePoison, WbAck, WbBusyAck, Walked, WalkRetry, DropFrame, Dropped}
use Rattle.og_msg.specs.declared.Note.{Note}
use Rattle.og_image.specs.Image.{ImageState}
use Rattle.og_cache.specs.declared.CachedBlock.{CachedBlock}
use Rattle.og_cache.specs.Cache.{look_of, mode_of, line_of, thrown_out, reserved}
use Rattle.og_tlb.specs.Tlb.{look_of as frame_of, filled as tlb_filled, without_frame}
use Rattle.og_request.specs.declared.Want.{Want}
use Rattle.og_request.specs.declared.Want.TheVariants.{Upgrade}
use Rattle.og_request.specs.declared.Held.{Held}
use Rattle.og_request.specs.declared.Held.TheVariants.{Shared as ShareWith, Exclusive as GiveTo, Poison as GiveBack}
use Rattle.og_request.specs.declared.Outcome.{Outcome}
use Rattle.og_request.specs.declared.Outcome.TheVariants.{Waiting, Filled, Again, Poisoned}
use Rattle.og_request.specs.Request.{Requested, received, outcome_of}
use Rattle.og_owner.specs.Owner.{answers, after_intervention}
use Rattle.og_victim.specs.Slot.{is_slot_of, after_ack, after_intervention as slot_after}
use Rattle.rv_hart.specs.declared.hart.Need.{Need}
use Rattle.rv_hart.specs.declared.hart.Need.TheVariants as need
use Rattle.rv_hart.specs.Hart.{HartState, need_of, halt_of}
use Rattle.og_processor.specs.State.{ProcessorState, Given, becomes, sends, and_then, letter, either_note}
use Rattle.og_processor.specs.Access.{page_of, block_in, allows}
use Rattle.og_processor.specs.Act.{may_act, may_act_by, act_of, by_need, on_page, on_line, leaves, mode_out, wanted, misses, stop_note}
use Rattle.og_processor.specs.Take.{take_of, is_occupied, drops, drops_by, intervenes, is_for, holding, is_asked, settles, makes, tries_again, forgets, put_line, answers_held, ends, goes_on, receives}
use Rattle.og_processor.specs.Sound.{IsSound}
use Rattle.og_machine.specs.HartRuns.{HartMoves}

-- ---- acts

runs : (image : ImageState) (x : ProcessorState) → may_act image x ≡ Ok tt → x.hart.cause ≡ None
unfolding may_act
runs image x may = by x.hart.cause refl may
  where
    by : (c : Option Cause) → x.hart.cause ≡ c → may_act_by image x c x.request x.walk ≡ Ok tt → x.hart.cause ≡ None
    by (Some c) e m = absurd (cc)
    by None e m = e

-- nothing is noted, and the hart stays
abbrev Quiet : ProcessorState → Given → Type 0
Quiet x given = (given.note ≡ None) × (given.state.hart ≡ x.hart)

quiet_moves : (image : ImageState) (x : ProcessorState) (given : Given) → Quiet x given → HartMoves image x.hart given.note given.state.hart
quiet_moves image x given q = subst (λ (n : Option Note). HartMoves image x.hart n given.state.hart) (sym q.0) (inl q.1)

misses_quiet : (x : ProcessorState) (want : Want) (block : Block) → Quiet x (misses x want block)
misses_quiet x want block = by (thrown_out x.cache block) (mode_out (thrown_out x.cache block))
  where
    by : (out : Option CachedBlock) (m : Mode) → (either_note (leaves (record x { cache = reserved x.cache block }) out m).note None ≡ None) × ((leaves (record x { cache = reserved x.cache block }) out m).state.hart ≡ x.hart)
    by None m = (refl, refl)
    by (Some out) mode.Shared = (refl, refl)
    by (Some out) mode.Clean = (refl, refl)
    by (Some out) mode.Dirty = (refl, refl)

stop_moves : (image : ImageState) (h : HartState) (cause : Cause) → h.cause ≡ None → need_of image h ≡ need.Stop cause → HartMoves image h (Some (stop_note cause h.pc)) (halt_of image h)
stop_moves image h (Exit value) run needs = (Exit value, run, needs, refl, refl)
stop_moves image h Spent run needs = (Spent, run, needs, refl, refl)
stop_moves image h Illegal run needs = (Illegal, run, needs, refl, refl)
stop_moves image h Fetch run needs = (Fetch, run, needs, refl, refl)
stop_moves image h Misaligned run needs = (Misaligned, run, needs, refl, refl)
stop_moves image h Unmapped run needs = (Unmapped, run, needs, refl, refl)
stop_moves image h Call run needs = (Call, run, needs, refl, refl)
stop_moves image h Break run needs = (Break, run, needs, refl, refl)

pub act_moves : (image : ImageState) (x : ProcessorState) → may_act image x ≡ Ok tt → HartMoves image x.hart (act_of image x).note (act_of image x).state.hart
unfolding act_of
act_moves image x may = by (need_of image x.hart) refl
  where
    run : x.hart.cause ≡ None
    run = runs image x may

    on_copy : (access : Access) (block : Block) → need_of image x.hart ≡ need.Access access → (o : Option Line) → HartMoves image x.hart (on_line image x access block o).note (on_line image x access block o).state.hart
    on_copy access block needs None = inl refl
    on_copy access block needs (Some line) = (run, needs, refl)

    by_copy : (access : Access) (block : Block) → need_of image x.hart ≡ need.Access access → (t : Bool) →
        HartMoves image x.hart (if t then on_line image x access block (line_of x.cache block) else misses x (wanted (mode_of x.cache block) access) block).note (if t then on_line image x access block (line_of x.cache block) else misses x (wanted (mode_of x.cache block) access) block).state.hart
    by_copy access block needs true = on_copy access block needs (line_of x.cache block)
    by_copy access block needs false = quiet_moves image x (misses x (wanted (mode_of x.cache block) access) block) (misses_quiet x (wanted (mode_of x.cache block) access) block)

    by_page : (access : Access) → need_of image x.hart ≡ need.Access access → (f : Option Frame) → HartMoves image x.hart (on_page image x access f).note (on_page image x access f).state.hart
    by_page access needs None = inl refl
    by_page access needs (Some frame) = by_copy access (block_in frame (addr_of access)) needs (allows (mode_of x.cache (block_in frame (addr_of access))) access)

    by : (k : Need) → need_of image x.hart ≡ k → HartMoves image x.hart (by_need image x k).note (by_need image x k).state.hart
    by need.Plain e = inr (run, e, refl)
    by (need.Emit value) e = (run, e, refl)
    by (need.Stop cause) e = stop_moves image x.hart cause run e
    by (need.Access access) e = by_page access e (frame_of x.tlb (page_of (addr_of access)))

-- ---- takes

drops_quiet : (image : ImageState) (x : ProcessorState) → Quiet x (drops image x)
drops_quiet image x = by x.drop
  where
    by_place : (f : Frame) (t : Bool) → Quiet x (if t then becomes x else sends (record x { tlb = without_frame x.tlb f; drop = None }) (letter image.nodes (Dropped f) ∷ []))
    by_place f true = (refl, refl)
    by_place f false = (refl, refl)

    by : (d : Option Frame) → Quiet x (drops_by image x d)
    by None = (refl, refl)
    by (Some f) = by_place f (is_occupied x)

intervenes_quiet : (x : ProcessorState) (block : Block) (held : Held) → Quiet x (intervenes x block held)
intervenes_quiet x block held = by (is_slot_of x.victim block)
  where
    by : (t : Bool) → Quiet x (if t then becomes (record x { victim = slot_after x.victim }) else sends (record x { cache = after_intervention x.cache block held }) (answers (look_of x.cache block) block held))
    by true = (refl, refl)
    by false = (refl, refl)

held_quiet : (x : ProcessorState) (block : Block) (held : Option Held) → Quiet x (answers_held x block held)
held_quiet x block None = (refl, refl)
held_quiet x block (Some held) = intervenes_quiet x block held

-- a note stays the only one where nothing more is noted
only_note : (one other : Option Note) → other ≡ None → either_note one other ≡ one
only_note None other e = e
only_note (Some n) other e = refl

then_quiet : (x : ProcessorState) (one : Given) (next : ProcessorState → Given) → Quiet one.state (next one.state) → ((and_then one next).note ≡ one.note) × ((and_then one next).state.hart ≡ one.state.hart)
then_quiet x one next q = (only_note one.note (next one.state).note q.0, q.1)

both_quiet : (x : ProcessorState) (one : Given) (next : ProcessorState → Given) → Quiet x one → Quiet one.state (next one.state) → Quiet x (and_then one next)
both_quiet x one next p q = let t = then_quiet x one next q in (t.0 ∙ p.0, t.1 ∙ p.1)

asked_quiet : (image : ImageState) (x : ProcessorState) (block : Block) (held : Held) → Quiet x (is_asked image x block held)
asked_quiet image x block held = by (is_for x.request block)
  where
    by : (t : Bool) → Quiet x (if t then becomes (record x { request = holding held x.request }) else and_then (intervenes x block held) (λ y. drops image y))
    by true = (refl, refl)
    by false = both_quiet x (intervenes x block held) (λ y. drops image y) (intervenes_quiet x block held) (drops_quiet image (intervenes x block held).state)

settles_move : (image : ImageState) (x : ProcessorState) (request : Requested) (outcome : Outcome) → x.hart.cause ≡ None → HartMoves image x.hart (settles image x request outcome).note (settles image x request outcome).state.hart
settles_move image x request Waiting run = inl refl
settles_move image x request (Filled mode line) run = by (line_of (put_line x.cache request.block mode line) request.block) (need_of image x.hart) refl
  where
    by : (l : Option Line) (n : Need) → need_of image x.hart ≡ n → HartMoves image x.hart (makes image (record x { cache = put_line x.cache request.block mode line }) request.block l n).note (makes image (record x { cache = put_line x.cache request.block mode line }) request.block l n).state.hart
    by None n e = inl refl
    by (Some l) (need.Access access) e = (run, e, refl)
    by (Some l) need.Plain e = inl refl
    by (Some l) (need.Emit value) e = inl refl
    by (Some l) (need.Stop cause) e = inl refl
settles_move image x request Again run = quiet_moves image x (tries_again x request.want request.block) (by request.want)
  where
    by : (w : Want) → Quiet x (tries_again x w request.block)
    by Upgrade = (refl, refl)
    by w = (refl, refl)
settles_move image x request Poisoned run = quiet_moves image x (forgets x (need_of image x.hart)) (by (need_of image x.hart))
  where
    by : (n : Need) → Quiet x (forgets x n)
    by (need.Access access) = (refl, refl)
    by n = (refl, refl)

ends_move : (image : ImageState) (x : ProcessorState) (request : Requested) (outcome : Outcome) → x.hart.cause ≡ None → HartMoves image x.hart (ends image x request outcome).note (ends image x request outcome).state.hart
ends_move image x request outcome run =
    let one : Given = settles image (record x { request = None }) request outcome in
    let held : Given = answers_held one.state request.block request.held in
    let rest : Quiet one.state (and_then held (λ z. drops image z)) = both_quiet one.state held (λ z. drops image z) (held_quiet one.state request.block request.held) (drops_quiet image held.state) in
    let t = then_quiet x one (λ y. and_then (answers_held y request.block request.held) (λ z. drops image z)) rest in
    let m : HartMoves image x.hart one.note one.state.hart = settles_move image (record x { request = None }) request outcome run in
    subst (λ (h : HartState). HartMoves image x.hart (ends image x request outcome).note h) (sym t.1) (subst (λ (n : Option Note). HartMoves image x.hart n one.state.hart) (sym t.0) m)

receives_move : (image : ImageState) (x : ProcessorState) (o : Option Requested) (kind : Kind) → x.request ≡ o → IsSound image x → HartMoves image x.hart (receives image x o kind).note (receives image x o kind).state.hart
receives_move image x None kind e sound = inl refl
receives_move image x (Some request) kind e sound = by (outcome_of (received request kind))
  where
    run : x.hart.cause ≡ None
    run = (sound request e).runs

    by : (outcome : Outcome) → HartMoves image x.hart (goes_on image x (received request kind) outcome).note (goes_on image x (received request kind) outcome).state.hart
    by Waiting = inl refl
    by (Filled mode line) = ends_move image x (received request kind) (Filled mode line) run
    by Again = ends_move image x (received request kind) Again run
    by Poisoned = ends_move image x (received request kind) Poisoned run

pub take_moves : (image : ImageState) (x : ProcessorState) (kind : Kind) → IsSound image x → HartMoves image x.hart (take_of image x kind).note (take_of image x kind).state.hart
unfolding take_of
take_moves image x (Invalidate block requester) sound = inl refl
take_moves image x (InterveneShared block requester) sound = quiet_moves image x (is_asked image x block (ShareWith requester)) (asked_quiet image x block (ShareWith requester))
take_moves image x (InterveneEx block requester) sound = quiet_moves image x (is_asked image x block (GiveTo requester)) (asked_quiet image x block (GiveTo requester))
take_moves image x (IntervenePoison block) sound = quiet_moves image x (is_asked image x block GiveBack) (asked_quiet image x block GiveBack)
take_moves image x (WbAck block) sound = quiet_moves image x (drops image (record x { victim = after_ack x.victim false })) (drops_quiet image (record x { victim = after_ack x.victim false }))
take_moves image x (WbBusyAck block) sound = quiet_moves image x (drops image (record x { victim = after_ack x.victim true })) (drops_quiet image (record x { victim = after_ack x.victim true }))
take_moves image x (Walked page frame) sound = quiet_moves image x (drops image (record x { tlb = tlb_filled x.tlb page frame; walk = None })) (drops_quiet image (record x { tlb = tlb_filled x.tlb page frame; walk = None }))
take_moves image x (WalkRetry page) sound = quiet_moves image x (drops image (record x { walk = None })) (drops_quiet image (record x { walk = None }))
take_moves image x (DropFrame frame) sound = quiet_moves image x (drops image (record x { drop = Some frame })) (drops_quiet image (record x { drop = Some frame }))
take_moves image x kind sound = receives_move image x x.request kind refl sound
