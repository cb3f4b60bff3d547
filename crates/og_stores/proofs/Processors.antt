-- A processor's event makes one access at most: where its lines and its message's have at most n stores, those that it has and sends
-- afterwards have at most one more.
use Rattle.std.proofs.Common.{◌≡◌, ◌+◌, ◌≤◌, ℕ, Bool, true, false, ◌&&◌, Option, None, Some, refl, [], ◌∷◌, subst, sym, arith}
use Rattle.std.specs.Prelude.{if◌then◌else◌, option_map}
use Rattle.og_base.specs.declared.Block.{Block}
use Rattle.og_base.specs.declared.Frame.{Frame}
use Rattle.og_base.specs.declared.Settings.{Settings}
use Rattle.og_base.specs.Names.{is_same_block}
use Rattle.og_line.specs.declared.Line.{Line}
use Rattle.og_line.specs.declared.Mode.{Mode}
use Rattle.og_line.specs.declared.Mode.TheVariants as mode
use Rattle.og_line.specs.declared.Access.{Access}
use Rattle.og_line.specs.Access.{addr_of}
use Rattle.og_msg.specs.declared.Kind.{Kind}
use Rattle.og_msg.specs.declared.Kind.TheVariants.{SharedReply, SpecReply, ExclusiveReply, UpgradeReply, Nak, PoisonError, SharedResponse, ExclusiveResponse, OwnerAck, Invalidate, InterveneShared, InterveneEx, IntervenePoison, InvalAck, WbAck, WbBusyAck, Walked, WalkRetry, DropFrame, Dropped}
use Rattle.og_image.specs.Image.{ImageState}
use Rattle.og_cache.specs.declared.CachedBlock.{CachedBlock}
use Rattle.og_cache.specs.Cache.{look_of, mode_of, line_of, thrown_out, reserved}
use Rattle.og_tlb.specs.Tlb.{look_of as frame_of, filled as tlb_filled, without_frame}
use Rattle.og_request.specs.declared.Want.{Want}
use Rattle.og_request.specs.declared.Want.TheVariants.{Read, ReadEx, Upgrade}
use Rattle.og_request.specs.declared.Held.{Held}
use Rattle.og_request.specs.declared.Held.TheVariants.{Shared as ShareWith, Exclusive as GiveTo, Poison as GiveBack}
use Rattle.og_request.specs.declared.Reply.{Reply}
use Rattle.og_request.specs.declared.Response.{Response}
use Rattle.og_request.specs.declared.Outcome.{Outcome}
use Rattle.og_request.specs.declared.Outcome.TheVariants.{Waiting, Filled, Again, Poisoned}
use Rattle.og_request.specs.Request.{Requested, new_request, received, outcome_of, outcome_by}
use Rattle.og_owner.specs.Owner.{dirty_line_of, line_if_dirty, answers, answers_by, after_intervention, invalidated, is_read}
use Rattle.og_victim.specs.Slot.{is_slot_of, after_ack, after_intervention as slot_after}
use Rattle.rv_hart.specs.declared.hart.Need.{Need}
use Rattle.rv_hart.specs.declared.hart.Need.TheVariants as need
use Rattle.rv_hart.specs.Hart.{need_of}
use Rattle.og_processor.specs.State.{ProcessorState, Given, becomes, sends, and_then, letter, new_processor}
use Rattle.og_processor.specs.Access.{page_of, block_in, allows, completes}
use Rattle.og_processor.specs.Act.{act_of, by_need, on_page, on_line, leaves, mode_out, throws_out, wanted, asking, asks, misses}
use Rattle.og_processor.specs.Take.{take_of, is_occupied, drops, drops_by, intervenes, is_for, holding, is_asked, settles, makes, fills, tries_again, forgets, put_line, answers_held, ends, goes_on, receives}
use Rattle.og_processor.specs.Sound.{replied_line, responded_line, line_brought}
use Rattle.og_stores.specs.Stores.{HasFew, FewInKind, FewInProcessor}
use Rattle.og_stores.proofs.Caches.{FewInWay, FewInCache, line_few, thrown_few, empty_few, more_few, without_few, reserved_few, intervened_few, put_few, accessed_few}
use Rattle.og_stores.proofs.Letters.{FewInLetters, more_line, more_letters, both_letters}

-- ---- states

abbrev pub FewInRequest : ℕ → Option Requested → Type 0
FewInRequest n None = Unit {0}
FewInRequest n (Some request) = HasFew n (replied_line request.reply) × HasFew n (responded_line request.response)

-- each line of each way, and each that the request has received
pub record Few (n : ℕ) (x : ProcessorState) : Type 0 where
  pub cache : FewInCache n x.cache
  pub request : FewInRequest n x.request

-- so of a block's line, whichever way it is in
pub few_seen : (n : ℕ) (x : ProcessorState) → Few n x → FewInProcessor n x
few_seen n x few = record {
  cached = λ block. line_few n x.cache block few.cache;
  replied = λ request e. (let h : FewInRequest n (Some request) = subst (FewInRequest n) e few.request in h.0);
  responded = λ request e. (let h : FewInRequest n (Some request) = subst (FewInRequest n) e few.request in h.1);
}

pub more : (n m : ℕ) (x : ProcessorState) → n ≤ m → Few n x → Few m x
more n m x le few = record { cache = more_few n m x.cache le few.cache; request = by x.request few.request }
  where
    by : (o : Option Requested) → FewInRequest n o → FewInRequest m o
    by None h = tt
    by (Some request) h = (more_line n m (replied_line request.reply) le h.0, more_line n m (responded_line request.response) le h.1)

-- what a row gives
pub record Gives (n : ℕ) (given : Given) : Type 0 where
  pub state : Few n given.state
  pub letters : FewInLetters n given.letters

more_given : (n m : ℕ) (given : Given) → n ≤ m → Gives n given → Gives m given
more_given n m given le gives = record { state = more n m given.state le gives.state; letters = more_letters n m given.letters le gives.letters }

and_gives : (n : ℕ) (one : Given) (next : ProcessorState → Given) → Gives n one → ((x : ProcessorState) → Few n x → Gives n (next x)) → Gives n (and_then one next)
and_gives n one next gives after = record {
  state = (after one.state gives.state).state;
  letters = both_letters n one.letters (next one.state).letters gives.letters (after one.state gives.state).letters;
}

stays : (n : ℕ) (x : ProcessorState) → Few n x → Gives n (becomes x)
stays n x few = record { state = few; letters = tt }

-- ---- an access

completes_gives : (n : ℕ) (image : ImageState) (x : ProcessorState) (block : Block) (line : Line) (access : Access) → Few n x → line.stores ≤ n → Gives (n + 1) (completes image x block line access)
completes_gives n image x block line access few h = record {
  state = record { cache = accessed_few n x.cache block line x.reserved access h few.cache; request = (more n (n + 1) x (omega arith) few).request };
  letters = tt;
}

-- ---- a miss

leaves_gives : (n : ℕ) (x : ProcessorState) (out : Option CachedBlock) (m : Mode) → Few n x → FewInWay n out → Gives n (leaves x out m)
leaves_gives n x None m few h = stays n x few
leaves_gives n x (Some out) mode.Shared few h = stays n x few
leaves_gives n x (Some out) mode.Clean few h = stays n x few
leaves_gives n x (Some out) mode.Dirty few h = record { state = record { cache = few.cache; request = few.request }; letters = (h, tt) }

asked_few : (n : ℕ) (want : Want) (block : Block) → FewInKind n (asking want block)
asked_few n Read block = tt
asked_few n ReadEx block = tt
asked_few n Upgrade block = tt

new_few : (n : ℕ) (want : Want) (block : Block) → FewInRequest n (Some (new_request want block))
unfolding new_request
new_few n want block = (tt, tt)

misses_gives : (n : ℕ) (x : ProcessorState) (want : Want) (block : Block) → Few n x → Gives n (misses x want block)
misses_gives n x want block few =
    and_gives n (throws_out x block) (λ y. asks y want block)
    (leaves_gives n (record x { cache = reserved x.cache block }) (thrown_out x.cache block) (mode_out (thrown_out x.cache block)) (record { cache = reserved_few n x.cache block few.cache; request = few.request }) (thrown_few n x.cache block few.cache))
    (λ y f. record { state = record { cache = f.cache; request = new_few n want block }; letters = (asked_few n want block, tt) })

-- ---- all acts

pub act_gives : (n : ℕ) (image : ImageState) (x : ProcessorState) → Few n x → Gives (n + 1) (act_of image x)
unfolding act_of
act_gives n image x few = by (need_of image x.hart)
  where
    one_more : n ≤ n + 1
    one_more = omega arith

    later : Few (n + 1) x
    later = more n (n + 1) x one_more few

    on_copy : (access : Access) (block : Block) (o : Option Line) → HasFew n o → Gives (n + 1) (on_line image x access block o)
    on_copy access block None h = stays (n + 1) x later
    on_copy access block (Some line) h = completes_gives n image x block line access few h

    by_mode : (access : Access) (block : Block) (t : Bool) → Gives (n + 1) (if t then on_line image x access block (line_of x.cache block) else misses x (wanted (mode_of x.cache block) access) block)
    by_mode access block true = on_copy access block (line_of x.cache block) (line_few n x.cache block few.cache)
    by_mode access block false = misses_gives (n + 1) x (wanted (mode_of x.cache block) access) block later

    by_page : (access : Access) (o : Option Frame) → Gives (n + 1) (on_page image x access o)
    by_page access None = record { state = record { cache = later.cache; request = later.request }; letters = (tt, tt) }
    by_page access (Some frame) = by_mode access (block_in frame (addr_of access)) (allows (mode_of x.cache (block_in frame (addr_of access))) access)

    by : (k : Need) → Gives (n + 1) (by_need image x k)
    by need.Plain = record { state = record { cache = later.cache; request = later.request }; letters = tt }
    by (need.Emit value) = record { state = record { cache = later.cache; request = later.request }; letters = tt }
    by (need.Stop cause) = record { state = record { cache = later.cache; request = later.request }; letters = tt }
    by (need.Access access) = by_page access (frame_of x.tlb (page_of (addr_of access)))

-- ---- a drop request, and an intervention

drops_gives : (n : ℕ) (image : ImageState) (x : ProcessorState) → Few n x → Gives n (drops image x)
drops_gives n image x few = by x.drop
  where
    by_place : (f : Frame) (t : Bool) → Gives n (if t then becomes x else sends (record x { tlb = without_frame x.tlb f; drop = None }) (letter image.nodes (Dropped f) ∷ []))
    by_place f true = stays n x few
    by_place f false = record { state = record { cache = few.cache; request = few.request }; letters = (tt, tt) }

    by : (d : Option Frame) → Gives n (drops_by image x d)
    by None = stays n x few
    by (Some f) = by_place f (is_occupied x)

answers_few : (n : ℕ) (line : Option Line) (block : Block) (held : Held) → HasFew n line → FewInLetters n (answers_by line block held)
answers_few n (Some line) block (ShareWith r) h = (h, (h, tt))
answers_few n (Some line) block (GiveTo r) h = (h, (tt, tt))
answers_few n (Some line) block GiveBack h = (h, tt)
answers_few n None block (ShareWith r) h = (tt, (tt, tt))
answers_few n None block (GiveTo r) h = (tt, (tt, tt))
answers_few n None block GiveBack h = (tt, tt)

-- the line of a dirty copy is that of the copy
dirty_few : (n : ℕ) (copy : Option (Mode × Line)) → HasFew n (option_map (λ c. c.1) copy) → HasFew n (dirty_line_of copy)
dirty_few n None h = tt
dirty_few n (Some copy) h = by copy.0
  where
    by : (m : Mode) → HasFew n (line_if_dirty m copy.1)
    by mode.Shared = tt
    by mode.Clean = tt
    by mode.Dirty = h

intervenes_gives : (n : ℕ) (x : ProcessorState) (block : Block) (held : Held) → Few n x → Gives n (intervenes x block held)
unfolding answers
intervenes_gives n x block held few = by (is_slot_of x.victim block)
  where
    by : (t : Bool) → Gives n (if t then becomes (record x { victim = slot_after x.victim }) else sends (record x { cache = after_intervention x.cache block held }) (answers (look_of x.cache block) block held))
    by true = record { state = record { cache = few.cache; request = few.request }; letters = tt }
    by false = record {
      state = record { cache = intervened_few n x.cache block held few.cache; request = few.request };
      letters = answers_few n (dirty_line_of (look_of x.cache block)) block held (dirty_few n (look_of x.cache block) (line_few n x.cache block few.cache));
    }

-- ---- the end of a request

makes_gives : (n : ℕ) (image : ImageState) (x : ProcessorState) (block : Block) (line : Option Line) (k : Need) → Few n x → HasFew n line → Gives (n + 1) (makes image x block line k)
makes_gives n image x block (Some line) (need.Access access) few h = completes_gives n image x block line access few h
makes_gives n image x block line k few h = stays (n + 1) x (more n (n + 1) x (omega arith) few)

fills_gives : (n : ℕ) (image : ImageState) (x : ProcessorState) (block : Block) (m : Mode) (line : Option Line) → Few n x → HasFew n line → Gives (n + 1) (fills image x block m line)
fills_gives n image x block m line few h =
    let put : FewInCache n (put_line x.cache block m line) = put_few n x.cache block m line h few.cache in
    makes_gives n image (record x { cache = put_line x.cache block m line }) block (line_of (put_line x.cache block m line) block) (need_of image x.hart) (record { cache = put; request = few.request }) (line_few n (put_line x.cache block m line) block put)

settles_gives : (n : ℕ) (image : ImageState) (x : ProcessorState) (request : Requested) (outcome : Outcome) → Few n x → HasFew n (line_brought outcome) → Gives (n + 1) (settles image x request outcome)
settles_gives n image x request outcome few h = by outcome h
  where
    later : Few (n + 1) x
    later = more n (n + 1) x (omega arith) few

    by_want : (want : Want) → Gives (n + 1) (tries_again x want request.block)
    by_want Upgrade = record { state = record { cache = without_few (n + 1) x.cache request.block later.cache; request = later.request }; letters = tt }
    by_want Read = stays (n + 1) x later
    by_want ReadEx = stays (n + 1) x later

    by_need_of : (k : Need) → Gives (n + 1) (forgets x k)
    by_need_of (need.Access access) = record { state = record { cache = later.cache; request = later.request }; letters = tt }
    by_need_of k = stays (n + 1) x later

    by : (o : Outcome) → HasFew n (line_brought o) → Gives (n + 1) (settles image x request o)
    by Waiting e = stays (n + 1) x later
    by (Filled m line) e = fills_gives n image x request.block m line few e
    by Again e = by_want request.want
    by Poisoned e = by_need_of (need_of image x.hart)

ends_gives : (n : ℕ) (image : ImageState) (x : ProcessorState) (request : Requested) (outcome : Outcome) → Few n x → HasFew n (line_brought outcome) → Gives (n + 1) (ends image x request outcome)
ends_gives n image x request outcome few h =
    and_gives (n + 1) (settles image (record x { request = None }) request outcome) (λ y. and_then (answers_held y request.block request.held) (λ z. drops image z))
    (settles_gives n image (record x { request = None }) request outcome (record { cache = few.cache; request = tt }) h)
    (λ y f. and_gives (n + 1) (answers_held y request.block request.held) (λ z. drops image z) (by y request.held f) (λ z g. drops_gives (n + 1) image z g))
  where
    by : (y : ProcessorState) (o : Option Held) → Few (n + 1) y → Gives (n + 1) (answers_held y request.block o)
    by y None f = stays (n + 1) y f
    by y (Some held) f = intervenes_gives (n + 1) y request.block held f

-- ---- parts of a request

received_few : (n : ℕ) (request : Requested) (k : Kind) → FewInRequest n (Some request) → FewInKind n k → FewInRequest n (Some (received request k))
unfolding received
received_few n request (SharedReply block line) few h = (h, few.1)
received_few n request (ExclusiveReply block line acks) few h = (h, few.1)
received_few n request (SpecReply block line) few h = (h, few.1)
received_few n request (UpgradeReply block acks) few h = (tt, few.1)
received_few n request (Nak block) few h = (tt, few.1)
received_few n request (PoisonError block) few h = (tt, few.1)
received_few n request (SharedResponse block line) few h = (few.0, h)
received_few n request (ExclusiveResponse block line) few h = (few.0, h)
received_few n request (OwnerAck block) few h = (few.0, tt)
received_few n request (InvalAck block) few h = few
received_few n request k few h = few

brought_few : (n : ℕ) (request : Requested) → FewInRequest n (Some request) → HasFew n (line_brought (outcome_of request))
unfolding outcome_of
brought_few n request few = by request.want request.marked request.reply request.response request.acks few.0 few.1
  where
    by : (want : Want) (marked : Bool) (reply : Option Reply) (response : Option Response) (acks : ℕ) → HasFew n (replied_line reply) → HasFew n (responded_line response) → HasFew n (line_brought (outcome_by want marked reply response acks))
    by want marked reply response acks a b = grind arith

receives_gives : (n : ℕ) (image : ImageState) (x : ProcessorState) (o : Option Requested) (k : Kind) → Few n x → FewInRequest n o → FewInKind n k → Gives (n + 1) (receives image x o k)
receives_gives n image x None k few asked h = stays (n + 1) x (more n (n + 1) x (omega arith) few)
receives_gives n image x (Some request) k few asked h = by (outcome_of (received request k)) (brought_few n (received request k) got)
  where
    got : FewInRequest n (Some (received request k))
    got = received_few n request k asked h

    by : (o : Outcome) → HasFew n (line_brought o) → Gives (n + 1) (goes_on image x (received request k) o)
    by Waiting e = more_given n (n + 1) (becomes (record x { request = Some (received request k) })) (omega arith) (record { state = record { cache = few.cache; request = got }; letters = tt })
    by (Filled m line) e = ends_gives n image x (received request k) (Filled m line) few e
    by Again e = ends_gives n image x (received request k) Again few e
    by Poisoned e = ends_gives n image x (received request k) Poisoned few e

-- ---- all takes

invalidated_few : (n : ℕ) (o : Option Requested) (block : Block) → FewInRequest n o → FewInRequest n (invalidated o block)
invalidated_few n None block few = tt
invalidated_few n (Some request) block few = by (is_same_block request.block block && is_read request.want)
  where
    by : (t : Bool) → FewInRequest n (Some (if t then record request { marked = true } else request))
    by true = few
    by false = few

held_few : (n : ℕ) (held : Held) (o : Option Requested) → FewInRequest n o → FewInRequest n (holding held o)
held_few n held None few = tt
held_few n held (Some request) few = few

asked_gives : (n : ℕ) (image : ImageState) (x : ProcessorState) (block : Block) (held : Held) → Few n x → Gives n (is_asked image x block held)
asked_gives n image x block held few = by (is_for x.request block)
  where
    by : (t : Bool) → Gives n (if t then becomes (record x { request = holding held x.request }) else and_then (intervenes x block held) (λ y. drops image y))
    by true = record { state = record { cache = few.cache; request = held_few n held x.request few.request }; letters = tt }
    by false = and_gives n (intervenes x block held) (λ y. drops image y) (intervenes_gives n x block held few) (λ y f. drops_gives n image y f)

pub take_gives : (n : ℕ) (image : ImageState) (x : ProcessorState) (k : Kind) → Few n x → FewInKind n k → Gives (n + 1) (take_of image x k)
unfolding take_of
take_gives n image x k few h = by k h
  where
    later : Few (n + 1) x
    later = more n (n + 1) x (omega arith) few

    -- what changes neither cache nor request
    then_drops : (y : ProcessorState) → y.cache ≡ x.cache → y.request ≡ x.request → Gives (n + 1) (drops image y)
    then_drops y c r = drops_gives (n + 1) image y (record { cache = subst (FewInCache (n + 1)) (sym c) later.cache; request = subst (FewInRequest (n + 1)) (sym r) later.request })

    by : (k : Kind) → FewInKind n k → Gives (n + 1) (take_of image x k)
    by (Invalidate block requester) h = record { state = record { cache = without_few (n + 1) x.cache block later.cache; request = invalidated_few (n + 1) x.request block later.request }; letters = (tt, tt) }
    by (InterveneShared block requester) h = asked_gives (n + 1) image x block (ShareWith requester) later
    by (InterveneEx block requester) h = asked_gives (n + 1) image x block (GiveTo requester) later
    by (IntervenePoison block) h = asked_gives (n + 1) image x block GiveBack later
    by (WbAck block) h = then_drops (record x { victim = after_ack x.victim false }) refl refl
    by (WbBusyAck block) h = then_drops (record x { victim = after_ack x.victim true }) refl refl
    by (Walked page frame) h = then_drops (record x { tlb = tlb_filled x.tlb page frame; walk = None }) refl refl
    by (WalkRetry page) h = then_drops (record x { walk = None }) refl refl
    by (DropFrame frame) h = then_drops (record x { drop = Some frame }) refl refl
    by k h = receives_gives n image x x.request k few few.request h

-- ---- the start

pub start_few : (n : ℕ) (image : ImageState) (settings : Settings) (q : ℕ) → Few n (new_processor image settings q)
start_few n image settings q = record { cache = empty_few n settings.sets settings.ways; request = tt }
