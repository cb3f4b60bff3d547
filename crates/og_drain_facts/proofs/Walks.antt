-- A processor with a walk out has a hart that runs, and no request: no event of its own and no message changes that.
use Rattle.std.proofs.Common.{◌≡◌, ◌∙◌, ℕ, Bool, true, false, refl, sym, ap, subst, Option, None, Some, Ok, [], ◌∷◌}
use Rattle.std.specs.Prelude.{if◌then◌else◌}
use Rattle.og_base.specs.declared.Block.{Block}
use Rattle.og_base.specs.declared.Frame.{Frame}
use Rattle.og_base.specs.declared.VPage.{VPage}
use Rattle.og_base.specs.declared.Cause.{Cause}
use Rattle.og_base.specs.declared.Settings.{Settings}
use Rattle.og_line.specs.declared.Line.{Line}
use Rattle.og_line.specs.declared.Mode.{Mode}
use Rattle.og_line.specs.declared.Mode.TheVariants as mode
use Rattle.og_line.specs.declared.Access.{Access}
use Rattle.og_line.specs.Access.{addr_of}
use Rattle.og_msg.specs.declared.Kind.{Kind}
use Rattle.og_msg.specs.declared.Kind.TheVariants.{Invalidate, InterveneShared, InterveneEx, IntervenePoison, WbAck, WbBusyAck, Walked, WalkRetry, DropFrame, Dropped}
use Rattle.og_image.specs.Image.{ImageState}
use Rattle.og_cache.specs.declared.CachedBlock.{CachedBlock}
use Rattle.og_cache.specs.Cache.{mode_of, line_of, look_of, without, thrown_out, reserved}
use Rattle.og_tlb.specs.Tlb.{look_of as frame_of, filled as tlb_filled, without_frame}
use Rattle.og_request.specs.declared.Want.{Want}
use Rattle.og_request.specs.declared.Want.TheVariants.{Upgrade}
use Rattle.og_request.specs.declared.Held.{Held}
use Rattle.og_request.specs.declared.Held.TheVariants.{Shared as ShareWith, Exclusive as GiveTo, Poison as GiveBack}
use Rattle.og_request.specs.declared.Outcome.{Outcome}
use Rattle.og_request.specs.declared.Outcome.TheVariants.{Waiting, Filled, Again, Poisoned}
use Rattle.og_request.specs.Request.{Requested, received, outcome_of}
use Rattle.og_owner.specs.Owner.{answers, after_intervention, invalidated}
use Rattle.og_victim.specs.Slot.{is_slot_of, after_ack, after_intervention as slot_after}
use Rattle.rv_hart.specs.declared.hart.Need.{Need}
use Rattle.rv_hart.specs.declared.hart.Need.TheVariants as need
use Rattle.rv_hart.specs.Hart.{need_of}
use Rattle.og_processor.specs.State.{ProcessorState, new_processor, becomes, sends, and_then, letter}
use Rattle.og_processor.specs.Access.{page_of, block_in, allows}
use Rattle.og_processor.specs.Act.{may_act, may_act_by, act_of, by_need, on_page, on_line, wanted, misses, leaves, mode_out}
use Rattle.og_processor.specs.Take.{take_of, is_occupied, drops, drops_by, intervenes, is_for, holding, is_asked, settles, makes, tries_again, forgets, put_line, answers_held, ends, goes_on, receives}

abbrev pub WalksBy : Option VPage → Option Cause → Option Requested → Type 0
WalksBy None cause request = Unit {0}
WalksBy (Some page) cause request = (cause ≡ None) × (request ≡ None)

-- whoever walks runs, and has no request
abbrev pub IsWalking : ProcessorState → Type 0
IsWalking x = WalksBy x.walk x.hart.cause x.request

idle : (x : ProcessorState) → x.walk ≡ None → IsWalking x
idle x e = subst (λ (w : Option VPage). WalksBy w x.hart.cause x.request) (sym e) tt

-- with the same walk and hart, and no request where there was none
kept : (x y : ProcessorState) → IsWalking x → y.walk ≡ x.walk → y.hart ≡ x.hart → (x.request ≡ None → y.request ≡ None) → IsWalking y
kept x y h w c r = by x.walk refl h
  where
    by : (o : Option VPage) → x.walk ≡ o → WalksBy o x.hart.cause x.request → IsWalking y
    by None e k = idle y (w ∙ e)
    by (Some page) e k = subst (λ (z : Option VPage). WalksBy z y.hart.cause y.request) (sym (w ∙ e)) (ap (λ z. z.cause) c ∙ k.0, r k.1)

-- ---- what leaves walk, hart and request

abbrev Same : ProcessorState → ProcessorState → Type 0
Same x y = (y.walk ≡ x.walk) × (y.hart ≡ x.hart) × (y.request ≡ x.request)

drops_same : (image : ImageState) (x : ProcessorState) → Same x (drops image x).state
drops_same image x = by x.drop
  where
    by_place : (f : Frame) (t : Bool) → Same x (if t then becomes x else sends (record x { tlb = without_frame x.tlb f; drop = None }) (letter image.nodes (Dropped f) ∷ [])).state
    by_place f true = (refl, refl, refl)
    by_place f false = (refl, refl, refl)

    by : (d : Option Frame) → Same x (drops_by image x d).state
    by None = (refl, refl, refl)
    by (Some f) = by_place f (is_occupied x)

intervenes_same : (x : ProcessorState) (block : Block) (held : Held) → Same x (intervenes x block held).state
intervenes_same x block held = by (is_slot_of x.victim block)
  where
    by : (t : Bool) → Same x (if t then becomes (record x { victim = slot_after x.victim }) else sends (record x { cache = after_intervention x.cache block held }) (answers (look_of x.cache block) block held)).state
    by true = (refl, refl, refl)
    by false = (refl, refl, refl)

drops_walking : (image : ImageState) (x y : ProcessorState) → IsWalking x → Same x y → IsWalking (drops image y).state
drops_walking image x y h s = let d = drops_same image y in kept x (drops image y).state h (d.0 ∙ s.0) (d.1 ∙ s.1) (λ e. d.2 ∙ (s.2 ∙ e))

asked_walking : (image : ImageState) (x : ProcessorState) (block : Block) (held : Held) → IsWalking x → IsWalking (is_asked image x block held).state
asked_walking image x block held h = by (is_for x.request block)
  where
    by : (t : Bool) → IsWalking (if t then becomes (record x { request = holding held x.request }) else and_then (intervenes x block held) (λ y. drops image y)).state
    by true = kept x (record x { request = holding held x.request }) h refl refl (λ e. ap (holding held) e)
    by false = drops_walking image x (intervenes x block held).state h (intervenes_same x block held)

-- ---- a request ends

settles_walk : (image : ImageState) (x : ProcessorState) (request : Requested) (outcome : Outcome) → (settles image x request outcome).state.walk ≡ x.walk
settles_walk image x request Waiting = refl
settles_walk image x request (Filled mode line) = by (line_of (put_line x.cache request.block mode line) request.block) (need_of image x.hart)
  where
    by : (l : Option Line) (n : Need) → (makes image (record x { cache = put_line x.cache request.block mode line }) request.block l n).state.walk ≡ x.walk
    by None n = refl
    by (Some l) (need.Access access) = refl
    by (Some l) n = refl
settles_walk image x request Again = by request.want
  where
    by : (w : Want) → (tries_again x w request.block).state.walk ≡ x.walk
    by Upgrade = refl
    by w = refl
settles_walk image x request Poisoned = by (need_of image x.hart)
  where
    by : (n : Need) → (forgets x n).state.walk ≡ x.walk
    by (need.Access access) = refl
    by n = refl

answers_walk : (x : ProcessorState) (block : Block) (held : Option Held) → (answers_held x block held).state.walk ≡ x.walk
answers_walk x block None = refl
answers_walk x block (Some held) = (intervenes_same x block held).0

ends_walk : (image : ImageState) (x : ProcessorState) (request : Requested) (outcome : Outcome) → (ends image x request outcome).state.walk ≡ x.walk
ends_walk image x request outcome =
    let z : ProcessorState = (settles image (record x { request = None }) request outcome).state in
    let y : ProcessorState = (answers_held z request.block request.held).state in
    (drops_same image y).0 ∙ (answers_walk z request.block request.held ∙ settles_walk image (record x { request = None }) request outcome)

goes_walk : (image : ImageState) (x : ProcessorState) (request : Requested) (outcome : Outcome) → (goes_on image x request outcome).state.walk ≡ x.walk
goes_walk image x request Waiting = refl
goes_walk image x request (Filled mode line) = ends_walk image x request (Filled mode line)
goes_walk image x request Again = ends_walk image x request Again
goes_walk image x request Poisoned = ends_walk image x request Poisoned

-- with a request there is no walk
asking_idle : (x : ProcessorState) (request : Requested) → IsWalking x → x.request ≡ Some request → x.walk ≡ None
asking_idle x request h e = by x.walk refl h
  where
    by : (o : Option VPage) → x.walk ≡ o → WalksBy o x.hart.cause x.request → x.walk ≡ None
    by None w k = w
    by (Some page) w k = absurd (let a = k.1 in cc)

receives_walking : (image : ImageState) (x : ProcessorState) (kind : Kind) → IsWalking x → IsWalking (receives image x x.request kind).state
receives_walking image x kind h = by x.request refl
  where
    by : (o : Option Requested) → x.request ≡ o → IsWalking (receives image x o kind).state
    by None e = h
    by (Some request) e = idle (goes_on image x (received request kind) (outcome_of (received request kind))).state (goes_walk image x (received request kind) (outcome_of (received request kind)) ∙ asking_idle x request h e)

-- ---- all takes

pub take_walking : (image : ImageState) (x : ProcessorState) (kind : Kind) → IsWalking x → IsWalking (take_of image x kind).state
unfolding take_of
take_walking image x (Invalidate block requester) h = kept x (record x { cache = without x.cache block; request = invalidated x.request block }) h refl refl (λ e. ap (λ (o : Option Requested). invalidated o block) e)
take_walking image x (InterveneShared block requester) h = asked_walking image x block (ShareWith requester) h
take_walking image x (InterveneEx block requester) h = asked_walking image x block (GiveTo requester) h
take_walking image x (IntervenePoison block) h = asked_walking image x block GiveBack h
take_walking image x (WbAck block) h = drops_walking image x (record x { victim = after_ack x.victim false }) h (refl, refl, refl)
take_walking image x (WbBusyAck block) h = drops_walking image x (record x { victim = after_ack x.victim true }) h (refl, refl, refl)
take_walking image x (Walked page frame) h = let y : ProcessorState = record x { tlb = tlb_filled x.tlb page frame; walk = None } in idle (drops image y).state (drops_same image y).0
take_walking image x (WalkRetry page) h = let y : ProcessorState = record x { walk = None } in idle (drops image y).state (drops_same image y).0
take_walking image x (DropFrame frame) h = drops_walking image x (record x { drop = Some frame }) h (refl, refl, refl)
take_walking image x kind h = receives_walking image x kind h

-- ---- an act

-- the hart runs, and neither a request nor a walk is out
may_is : (image : ImageState) (x : ProcessorState) → may_act image x ≡ Ok tt → (x.hart.cause ≡ None) × (x.request ≡ None) × (x.walk ≡ None)
unfolding may_act
may_is image x may = by x.hart.cause x.request x.walk refl refl refl may
  where
    by : (c : Option Cause) (r : Option Requested) (w : Option VPage) → x.hart.cause ≡ c → x.request ≡ r → x.walk ≡ w → may_act_by image x c r w ≡ Ok tt → (x.hart.cause ≡ None) × (x.request ≡ None) × (x.walk ≡ None)
    by (Some c) r w ec er ew m = absurd (cc)
    by None (Some r) w ec er ew m = absurd (cc)
    by None None (Some w) ec er ew m = absurd (cc)
    by None None None ec er ew m = (ec, er, ew)

leaves_walk : (x : ProcessorState) (o : Option CachedBlock) (m : Mode) → (leaves x o m).state.walk ≡ x.walk
leaves_walk x None m = refl
leaves_walk x (Some out) mode.Shared = refl
leaves_walk x (Some out) mode.Clean = refl
leaves_walk x (Some out) mode.Dirty = refl

misses_walk : (x : ProcessorState) (want : Want) (block : Block) → (misses x want block).state.walk ≡ x.walk
misses_walk x want block = leaves_walk (record x { cache = reserved x.cache block }) (thrown_out x.cache block) (mode_out (thrown_out x.cache block))

pub act_walking : (image : ImageState) (x : ProcessorState) → may_act image x ≡ Ok tt → IsWalking (act_of image x).state
unfolding act_of
act_walking image x may = by (need_of image x.hart)
  where
    free : (x.hart.cause ≡ None) × (x.request ≡ None) × (x.walk ≡ None)
    free = may_is image x may

    on_copy : (access : Access) (block : Block) (o : Option Line) → IsWalking (on_line image x access block o).state
    on_copy access block None = idle x free.2
    on_copy access block (Some line) = idle (on_line image x access block (Some line)).state free.2

    by_copy : (access : Access) (block : Block) (t : Bool) → IsWalking (if t then on_line image x access block (line_of x.cache block) else misses x (wanted (mode_of x.cache block) access) block).state
    by_copy access block true = on_copy access block (line_of x.cache block)
    by_copy access block false = idle (misses x (wanted (mode_of x.cache block) access) block).state (misses_walk x (wanted (mode_of x.cache block) access) block ∙ free.2)

    by_page : (access : Access) (f : Option Frame) → IsWalking (on_page image x access f).state
    by_page access None = (free.0, free.1)
    by_page access (Some frame) = by_copy access (block_in frame (addr_of access)) (allows (mode_of x.cache (block_in frame (addr_of access))) access)

    by : (k : Need) → IsWalking (by_need image x k).state
    by need.Plain = idle (by_need image x need.Plain).state free.2
    by (need.Emit value) = idle (by_need image x (need.Emit value)).state free.2
    by (need.Stop cause) = idle (by_need image x (need.Stop cause)).state free.2
    by (need.Access access) = by_page access (frame_of x.tlb (page_of (addr_of access)))

-- ---- the start

pub start_walking : (image : ImageState) (settings : Settings) (p : ℕ) → IsWalking (new_processor image settings p)
start_walking image settings p = tt
