-- A processor that is patient stays so.
use Rattle.std.proofs.Common.{◌≡◌, ◌∙◌, ℕ, ◌||◌, not, Bool, true, false, Option, None, Some, Ok, refl, sym, subst, [], ◌∷◌}
use Rattle.std.specs.Prelude.{is_some, if◌then◌else◌}
use Rattle.og_base.specs.declared.Block.{Block}
use Rattle.og_base.specs.declared.Frame.{Frame}
use Rattle.og_base.specs.declared.VPage.{VPage}
use Rattle.og_base.specs.declared.Cause.{Cause}
use Rattle.og_base.specs.declared.Settings.{Settings}
use Rattle.og_line.specs.declared.Line.{Line}
use Rattle.og_line.specs.declared.Access.{Access}
use Rattle.og_line.specs.Access.{addr_of}
use Rattle.og_msg.specs.declared.Kind.{Kind}
use Rattle.og_msg.specs.declared.Kind.TheVariants.{Invalidate, InterveneShared, InterveneEx, IntervenePoison, WbAck, WbBusyAck, Walked, WalkRetry, DropFrame, Dropped}
use Rattle.og_image.specs.Image.{ImageState}
use Rattle.og_cache.specs.Cache.{mode_of, line_of, look_of, without}
use Rattle.og_tlb.specs.Tlb.{look_of as frame_of, filled as tlb_filled, without_frame}
use Rattle.og_request.specs.declared.Want.{Want}
use Rattle.og_request.specs.declared.Want.TheVariants.{Upgrade}
use Rattle.og_request.specs.declared.Held.{Held}
use Rattle.og_request.specs.declared.Held.TheVariants.{Shared as ShareWith, Exclusive as GiveTo, Poison as GiveBack}
use Rattle.og_request.specs.declared.Outcome.{Outcome}
use Rattle.og_request.specs.declared.Outcome.TheVariants.{Waiting, Filled, Again, Poisoned}
use Rattle.og_request.specs.Request.{Requested, new_request, received, outcome_of}
use Rattle.og_owner.specs.Owner.{answers, after_intervention, invalidated}
use Rattle.og_victim.specs.Slot.{is_free_slot, is_slot_of, after_ack, after_intervention as slot_after}
use Rattle.rv_hart.specs.declared.hart.Need.{Need}
use Rattle.rv_hart.specs.declared.hart.Need.TheVariants as need
use Rattle.rv_hart.specs.Hart.{need_of}
use Rattle.og_processor.specs.State.{ProcessorState, new_processor, becomes, sends, and_then, letter}
use Rattle.og_processor.specs.Access.{page_of, block_in, allows}
use Rattle.og_processor.specs.Act.{may_act, may_act_by, act_of, by_need, on_page, on_line, wanted, misses}
use Rattle.og_processor.specs.Take.{take_of, is_occupied, drops, drops_by, intervenes, is_for, holding, is_asked, settles, makes, tries_again, forgets, put_line, answers_held, ends, goes_on, receives}
use Rattle.og_refine_waits.specs.Laws.{IsPatient}
use Rattle.og_refine_waits.proofs.Requests.{Waits, none_waits, one_waits, new_waits, held_waits, held_same, invalidated_waits, invalidated_same}

-- ---- a drop request

-- it is held only where something is outstanding: else it is answered
pub drops_patient : (image : ImageState) (x : ProcessorState) → Waits x.request → IsPatient (drops image x).state
drops_patient image x w = by x.drop refl
  where
    by_place : (f : Frame) (t : Bool) → is_occupied x ≡ t → IsPatient (if t then becomes x else sends (record x { tlb = without_frame x.tlb f; drop = None }) (letter image.nodes (Dropped f) ∷ [])).state
    by_place f true o = record { waits = w; drop = λ g e. o }
    by_place f false o = record { waits = w; drop = λ g e. absurd (cc) }

    by : (d : Option Frame) → x.drop ≡ d → IsPatient (drops_by image x d).state
    by None d = record { waits = w; drop = λ g e. absurd (cc) }
    by (Some f) d = by_place f (is_occupied x) refl

-- ---- an act

-- neither a request nor a walk is out
nothing_out : (image : ImageState) (x : ProcessorState) → may_act image x ≡ Ok tt → x.request ≡ None
unfolding may_act
nothing_out image x may = by x.hart.cause x.request x.walk refl may
  where
    by : (c : Option Cause) (r : Option Requested) (w : Option VPage) → x.request ≡ r → may_act_by image x c r w ≡ Ok tt → x.request ≡ None
    by (Some c) r w e m = absurd (cc)
    by None (Some r) w e m = absurd (cc)
    by None None w e m = e

walking : (r : Option Requested) (v : Bool) → (is_some r || true || v) ≡ true
walking None v = refl
walking (Some r) v = refl

misses_patient : (image : ImageState) (x : ProcessorState) (want : Want) (block : Block) → IsPatient (misses x want block).state
misses_patient image x want block = record { waits = one_waits (new_request want block) (new_waits want block); drop = λ f e. refl }

pub act_patient : (image : ImageState) (x : ProcessorState) → IsPatient x → may_act image x ≡ Ok tt → IsPatient (act_of image x).state
unfolding act_of
act_patient image x h may = by (need_of image x.hart)
  where
    on_copy : (access : Access) (block : Block) (o : Option Line) → IsPatient (on_line image x access block o).state
    on_copy access block None = h
    on_copy access block (Some line) = record { waits = h.waits; drop = h.drop }

    by_copy : (access : Access) (block : Block) (t : Bool) → IsPatient (if t then on_line image x access block (line_of x.cache block) else misses x (wanted (mode_of x.cache block) access) block).state
    by_copy access block true = on_copy access block (line_of x.cache block)
    by_copy access block false = misses_patient image x (wanted (mode_of x.cache block) access) block

    by_page : (access : Access) (f : Option Frame) → IsPatient (on_page image x access f).state
    by_page access None = record { waits = none_waits x.request (nothing_out image x may); drop = λ f e. walking x.request (not (is_free_slot x.victim)) }
    by_page access (Some frame) = by_copy access (block_in frame (addr_of access)) (allows (mode_of x.cache (block_in frame (addr_of access))) access)

    by : (k : Need) → IsPatient (by_need image x k).state
    by need.Plain = record { waits = h.waits; drop = h.drop }
    by (need.Emit value) = record { waits = h.waits; drop = h.drop }
    by (need.Stop cause) = record { waits = h.waits; drop = h.drop }
    by (need.Access access) = by_page access (frame_of x.tlb (page_of (addr_of access)))

-- ---- an intervention, and an invalidation

intervenes_asks : (x : ProcessorState) (block : Block) (held : Held) → (intervenes x block held).state.request ≡ x.request
intervenes_asks x block held = by (is_slot_of x.victim block)
  where
    by : (t : Bool) → (if t then becomes (record x { victim = slot_after x.victim }) else sends (record x { cache = after_intervention x.cache block held }) (answers (look_of x.cache block) block held)).state.request ≡ x.request
    by true = refl
    by false = refl

-- as much is outstanding as before
with_request : (image : ImageState) (x y : ProcessorState) → Waits y.request → is_some y.request ≡ is_some x.request → y.walk ≡ x.walk → y.victim ≡ x.victim → y.drop ≡ x.drop → IsPatient x → IsPatient y
with_request image x y w r k v d h = record { waits = w; drop = λ f e. (let o : is_occupied x ≡ true = h.drop f (sym d ∙ e) in rw (r, k, v) o) }

asked_patient : (image : ImageState) (x : ProcessorState) (block : Block) (held : Held) → IsPatient x → IsPatient (is_asked image x block held).state
asked_patient image x block held h = by (is_for x.request block)
  where
    by : (t : Bool) → IsPatient (if t then becomes (record x { request = holding held x.request }) else and_then (intervenes x block held) (λ y. drops image y)).state
    by true = with_request image x (record x { request = holding held x.request }) (held_waits held x.request h.waits) (held_same held x.request) refl refl refl h
    by false = drops_patient image (intervenes x block held).state (subst Waits (sym (intervenes_asks x block held)) h.waits)

-- ---- a request ends

settles_asks : (image : ImageState) (x : ProcessorState) (request : Requested) (outcome : Outcome) → (settles image x request outcome).state.request ≡ x.request
settles_asks image x request Waiting = refl
settles_asks image x request (Filled mode line) = by (line_of (put_line x.cache request.block mode line) request.block) (need_of image x.hart)
  where
    by : (l : Option Line) (n : Need) → (makes image (record x { cache = put_line x.cache request.block mode line }) request.block l n).state.request ≡ x.request
    by None n = refl
    by (Some l) (need.Access access) = refl
    by (Some l) n = refl
settles_asks image x request Again = by request.want
  where
    by : (w : Want) → (tries_again x w request.block).state.request ≡ x.request
    by Upgrade = refl
    by w = refl
settles_asks image x request Poisoned = by (need_of image x.hart)
  where
    by : (n : Need) → (forgets x n).state.request ≡ x.request
    by (need.Access access) = refl
    by n = refl

answers_ask : (x : ProcessorState) (block : Block) (held : Option Held) → (answers_held x block held).state.request ≡ x.request
answers_ask x block None = refl
answers_ask x block (Some held) = intervenes_asks x block held

ends_patient : (image : ImageState) (x : ProcessorState) (request : Requested) (outcome : Outcome) → IsPatient (ends image x request outcome).state
ends_patient image x request outcome = drops_patient image y (none_waits y.request (answers_ask z request.block request.held ∙ settles_asks image (record x { request = None }) request outcome))
  where
    z : ProcessorState
    z = (settles image (record x { request = None }) request outcome).state

    y : ProcessorState
    y = (answers_held z request.block request.held).state

receives_patient : (image : ImageState) (x : ProcessorState) (o : Option Requested) (kind : Kind) → IsPatient x → IsPatient (receives image x o kind).state
receives_patient image x None kind h = h
receives_patient image x (Some request) kind h = by (outcome_of (received request kind)) refl
  where
    by : (outcome : Outcome) → outcome_of (received request kind) ≡ outcome → IsPatient (goes_on image x (received request kind) outcome).state
    by Waiting e = record { waits = one_waits (received request kind) e; drop = λ f d. refl }
    by (Filled mode line) e = ends_patient image x (received request kind) (Filled mode line)
    by Again e = ends_patient image x (received request kind) Again
    by Poisoned e = ends_patient image x (received request kind) Poisoned

-- ---- all takes

pub take_patient : (image : ImageState) (x : ProcessorState) (kind : Kind) → IsPatient x → IsPatient (take_of image x kind).state
unfolding take_of
take_patient image x (Invalidate block requester) h =
    with_request image x (record x { cache = without x.cache block; request = invalidated x.request block }) (invalidated_waits block x.request h.waits) (invalidated_same block x.request) refl refl refl h
take_patient image x (InterveneShared block requester) h = asked_patient image x block (ShareWith requester) h
take_patient image x (InterveneEx block requester) h = asked_patient image x block (GiveTo requester) h
take_patient image x (IntervenePoison block) h = asked_patient image x block GiveBack h
take_patient image x (WbAck block) h = drops_patient image (record x { victim = after_ack x.victim false }) h.waits
take_patient image x (WbBusyAck block) h = drops_patient image (record x { victim = after_ack x.victim true }) h.waits
take_patient image x (Walked page frame) h = drops_patient image (record x { tlb = tlb_filled x.tlb page frame; walk = None }) h.waits
take_patient image x (WalkRetry page) h = drops_patient image (record x { walk = None }) h.waits
take_patient image x (DropFrame frame) h = drops_patient image (record x { drop = Some frame }) h.waits
take_patient image x kind h = receives_patient image x x.request kind h

-- ---- the start

pub start_patient : (image : ImageState) (settings : Settings) (p : ℕ) → IsPatient (new_processor image settings p)
start_patient image settings p = record { waits = λ r e. absurd (cc); drop = λ f e. absurd (cc) }
