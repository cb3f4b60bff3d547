-- A processor's take of a message that has a row leaves it naming what there is.
use Rattle.std.proofs.Common.{◌≡◌, ◌∙◌, ◌&&◌, [], ◌∷◌, Bool, true, false, Option, None, Some, refl, sym, ap, subst}
use Rattle.std.specs.Prelude.{if◌then◌else◌}
use Rattle.og_base.specs.declared.Block.{Block}
use Rattle.og_base.specs.declared.Frame.{Frame}
use Rattle.og_base.specs.declared.VPage.{VPage}
use Rattle.og_base.specs.Names.{is_same_block}
use Rattle.og_base.proofs.SameNames.{same_page}
use Rattle.og_line.specs.declared.Line.{Line}
use Rattle.og_line.specs.Access.{addr_of}
use Rattle.og_msg.specs.declared.Kind.{Kind}
use Rattle.og_msg.specs.declared.Kind.TheVariants.{SharedReply, SpecReply, ExclusiveReply, UpgradeReply, Nak, PoisonError, SharedResponse, ExclusiveResponse, OwnerAck, InvalAck, Invalidate, InterveneShared, InterveneEx, IntervenePoison, WbAck, WbBusyAck, Walked, WalkRetry, DropFrame, Dropped}
use Rattle.og_image.specs.Image.{ImageState}
use Rattle.og_cache.specs.Cache.{Cached, look_of, line_of, without}
use Rattle.og_tlb.specs.Tlb.{filled as tlb_filled, without_frame}
use Rattle.og_request.specs.declared.Want.{Want}
use Rattle.og_request.specs.declared.Want.TheVariants.{Upgrade}
use Rattle.og_request.specs.declared.Held.{Held}
use Rattle.og_request.specs.declared.Held.TheVariants.{Shared as ShareWith, Exclusive as GiveTo, Poison as GiveBack}
use Rattle.og_request.specs.declared.Outcome.{Outcome}
use Rattle.og_request.specs.declared.Outcome.TheVariants.{Waiting, Filled, Again, Poisoned}
use Rattle.og_request.specs.Request.{Requested, received, outcome_of}
use Rattle.og_owner.specs.Owner.{answers, after_intervention, invalidated, after_invalidation, is_read}
use Rattle.og_victim.specs.declared.Slot.{Slot}
use Rattle.og_victim.specs.declared.Slot.TheVariants.{Free, Taken}
use Rattle.og_victim.specs.Slot.{is_slot_of, after_ack, after_intervention as slot_after}
use Rattle.rv_hart.specs.declared.hart.Need.{Need}
use Rattle.rv_hart.specs.declared.hart.Need.TheVariants as need
use Rattle.rv_hart.specs.Hart.{need_of}
use Rattle.og_processor.specs.State.{ProcessorState, becomes, sends, and_then, letter}
use Rattle.og_processor.specs.Access.{page_of}
use Rattle.og_processor.specs.Take.{take_of, is_occupied, drops, drops_by, intervenes, is_for, holding, is_asked, settles, makes, tries_again, forgets, put_line, answers_held, ends, goes_on, receives}
use Rattle.og_processor.specs.Rows.{has_row_for, walks_for}
use Rattle.og_processor.proofs.Parts.{same_request}
use Rattle.og_seen.specs.Numbers.{Sizes, is_there}
use Rattle.og_seen.specs.Harts.{access_of, number_wanted, only_reads}
use Rattle.og_seen.specs.Sound.{IsBlock, IsPlaced}
use Rattle.og_refine_stays.proofs.Named.{HasBlocks, accessed, taken_out, intervened, put_there, page_dropped, frame_dropped, page_filled}
use Rattle.og_refine_stays.proofs.Acts.{Asks, Names, Wanted, nothing_wanted, with_cache}

-- the processor goes on naming what there is; its hart stays, and so does the block of its request
pub record Keeps (s : Sizes) (x y : ProcessorState) : Type 0 where
  pub hart : y.hart ≡ x.hart
  pub request : (r : Requested) → y.request ≡ Some r → (q : Requested) × (x.request ≡ Some q) × (q.block ≡ r.block) × (q.want ≡ r.want)
  pub names : Names s x → Names s y

both : (s : Sizes) (x y z : ProcessorState) → Keeps s x y → Keeps s y z → Keeps s x z
both s x y z k l = record {
  hart = l.hart ∙ k.hart;
  request = λ r e. (let q = l.request r e in let p = k.request q.0 q.1 in (p.0, p.1, p.2 ∙ q.2, p.3 ∙ q.3));
  names = λ n. l.names (k.names n);
}

same : (s : Sizes) (x : ProcessorState) → Keeps s x x
same s x = record { hart = refl; request = λ r e. (r, e, refl, refl); names = λ n. n }

pub still_wanted : (image : ImageState) (s : Sizes) (x y : ProcessorState) → Keeps s x y → Wanted image x → Wanted image y
still_wanted image s x y k w r e =
    let q = k.request r e in
    let before : Asks image x q.0 = w q.0 q.1 in
    record {
      number = ap (λ (b : Block). b.number) (sym q.2) ∙ (before.number ∙ sym (ap (λ h. number_wanted (access_of image (record { state = h; reserved = None }))) k.hart));
      reads = λ f. ap (λ h. only_reads (access_of image (record { state = h; reserved = None }))) k.hart ∙ before.reads (q.3 ∙ f);
    }

-- ---- rows

drops_keep : (image : ImageState) (s : Sizes) (x : ProcessorState) → Keeps s x (drops image x).state
drops_keep image s x = by x.drop
  where
    by_place : (f : Frame) (t : Bool) → Keeps s x (if t then becomes x else sends (record x { tlb = without_frame x.tlb f; drop = None }) (letter image.nodes (Dropped f) ∷ [])).state
    by_place f true = same s x
    by_place f false = record {
      hart = refl;
      request = λ r e. (r, e, refl, refl);
      names = λ n. record { cache = n.cache; tlb = frame_dropped s x.tlb f n.tlb; walk = n.walk; request = n.request; victim = n.victim; drop = λ g e. absurd (cc) };
    }

    by : (d : Option Frame) → Keeps s x (drops_by image x d).state
    by None = same s x
    by (Some f) = by_place f (is_occupied x)

slot_there : (s : Sizes) (v : Slot) → ((block : Block) (busy seen : Bool) → v ≡ Taken block busy seen → IsBlock s block) → (block : Block) (busy seen : Bool) → slot_after v ≡ Taken block busy seen → IsBlock s block
slot_there s Free h block busy seen e = absurd (cc)
slot_there s (Taken held true was) h block busy seen e = absurd (cc)
slot_there s (Taken held false was) h block busy seen e = let one : held ≡ block = cc in subst (IsBlock s) one (h held false was refl)

acked_there : (s : Sizes) (v : Slot) (t : Bool) → ((block : Block) (busy seen : Bool) → v ≡ Taken block busy seen → IsBlock s block) → (block : Block) (busy seen : Bool) → after_ack v t ≡ Taken block busy seen → IsBlock s block
acked_there s Free t h block busy seen e = absurd (cc)
acked_there s (Taken held a b) false h block busy seen e = absurd (cc)
acked_there s (Taken held a true) true h block busy seen e = absurd (cc)
acked_there s (Taken held a false) true h block busy seen e = let one : held ≡ block = cc in subst (IsBlock s) one (h held a false refl)

with_slot : (s : Sizes) (x : ProcessorState) (v : Slot) → (((block : Block) (busy seen : Bool) → x.victim ≡ Taken block busy seen → IsBlock s block) → (block : Block) (busy seen : Bool) → v ≡ Taken block busy seen → IsBlock s block) → Keeps s x (record x { victim = v })
with_slot s x v h = record {
  hart = refl;
  request = λ r e. (r, e, refl, refl);
  names = λ n. record { cache = n.cache; tlb = n.tlb; walk = n.walk; request = n.request; victim = h n.victim; drop = n.drop };
}

intervenes_keep : (s : Sizes) (x : ProcessorState) (block : Block) (held : Held) → Keeps s x (intervenes x block held).state
intervenes_keep s x block held = by (is_slot_of x.victim block)
  where
    by : (t : Bool) → Keeps s x (if t then becomes (record x { victim = slot_after x.victim }) else sends (record x { cache = after_intervention x.cache block held }) (answers (look_of x.cache block) block held)).state
    by true = with_slot s x (slot_after x.victim) (slot_there s x.victim)
    by false = record { hart = refl; request = λ r e. (r, e, refl, refl); names = λ n. with_cache s x (after_intervention x.cache block held) (intervened s x.cache block held n.cache) n }

held_keeps : (s : Sizes) (x : ProcessorState) (held : Held) → Keeps s x (record x { request = holding held x.request })
held_keeps s x held = record { hart = refl; request = λ r e. by x.request refl r e; names = λ n. record { cache = n.cache; tlb = n.tlb; walk = n.walk; request = λ r e. (let q = by x.request refl r e in subst (IsBlock s) q.2 (n.request q.0 q.1)); victim = n.victim; drop = n.drop } }
  where
    by : (o : Option Requested) → x.request ≡ o → (r : Requested) → holding held o ≡ Some r → (q : Requested) × (x.request ≡ Some q) × (q.block ≡ r.block) × (q.want ≡ r.want)
    by None e r f = absurd (cc)
    by (Some q) e r f = let one : record q { held = Some held } ≡ r = cc in (q, e, ap (λ (z : Requested). z.block) one, ap (λ (z : Requested). z.want) one)

asked_keeps : (image : ImageState) (s : Sizes) (x : ProcessorState) (block : Block) (held : Held) → Keeps s x (is_asked image x block held).state
asked_keeps image s x block held = by (is_for x.request block)
  where
    by : (t : Bool) → Keeps s x (if t then becomes (record x { request = holding held x.request }) else and_then (intervenes x block held) (λ y. drops image y)).state
    by true = held_keeps s x held
    by false = both s x (intervenes x block held).state (drops image (intervenes x block held).state).state (intervenes_keep s x block held) (drops_keep image s (intervenes x block held).state)

invalidated_keeps : (s : Sizes) (x : ProcessorState) (block : Block) → Keeps s x (record x { cache = without x.cache block; request = invalidated x.request block })
invalidated_keeps s x block = record { hart = refl; request = λ r e. by x.request refl r e; names = λ n. record { cache = taken_out s x.cache block n.cache; tlb = n.tlb; walk = n.walk; request = λ r e. (let q = by x.request refl r e in subst (IsBlock s) q.2 (n.request q.0 q.1)); victim = n.victim; drop = n.drop } }
  where
    marked : (r : Requested) (t : Bool) → ((if t then record r { marked = true } else r).block ≡ r.block) × ((if t then record r { marked = true } else r).want ≡ r.want)
    marked r true = (refl, refl)
    marked r false = (refl, refl)

    by : (o : Option Requested) → x.request ≡ o → (r : Requested) → invalidated o block ≡ Some r → (q : Requested) × (x.request ≡ Some q) × (q.block ≡ r.block) × (q.want ≡ r.want)
    by None e r f = absurd (cc)
    by (Some q) e r f = let one : after_invalidation q block ≡ r = cc in (q, e, sym (marked q (is_same_block q.block block && is_read q.want)).0 ∙ ap (λ (z : Requested). z.block) one, sym (marked q (is_same_block q.block block && is_read q.want)).1 ∙ ap (λ (z : Requested). z.want) one)

dropped_keeps : (image : ImageState) (s : Sizes) (x y : ProcessorState) → Keeps s x y → Keeps s x (drops image y).state
dropped_keeps image s x y k = both s x y (drops image y).state k (drops_keep image s y)

-- ---- a request ends

-- nothing is asked for, and what is named is there
abbrev Over : Sizes → ProcessorState → Type 0
Over s x = (x.request ≡ None) × Names s x

over_cache : (s : Sizes) (x : ProcessorState) (cache : Cached) → HasBlocks s cache → Over s x → Over s (record x { cache = cache })
over_cache s x cache h o = (o.0, with_cache s x cache h o.1)

settles_over : (image : ImageState) (s : Sizes) (x : ProcessorState) (request : Requested) (outcome : Outcome) → IsBlock s request.block → Over s x → Over s (settles image x request outcome).state
settles_over image s x request Waiting is o = o
settles_over image s x request (Filled mode line) is o = by (line_of (put_line x.cache request.block mode line) request.block) (need_of image x.hart)
  where
    put : HasBlocks s (put_line x.cache request.block mode line)
    put = put_there s x.cache request.block mode line is o.1.cache

    by : (l : Option Line) (n : Need) → Over s (makes image (record x { cache = put_line x.cache request.block mode line }) request.block l n).state
    by None n = over_cache s x (put_line x.cache request.block mode line) put o
    by (Some l) (need.Access access) = (o.0, record { cache = accessed s (put_line x.cache request.block mode line) request.block l x.reserved access put; tlb = o.1.tlb; walk = o.1.walk; request = o.1.request; victim = o.1.victim; drop = o.1.drop })
    by (Some l) n = over_cache s x (put_line x.cache request.block mode line) put o
settles_over image s x request Again is o = by request.want
  where
    by : (w : Want) → Over s (tries_again x w request.block).state
    by Upgrade = over_cache s x (without x.cache request.block) (taken_out s x.cache request.block o.1.cache) o
    by w = o
settles_over image s x request Poisoned is o = by (need_of image x.hart)
  where
    by : (n : Need) → Over s (forgets x n).state
    by (need.Access access) = (o.0, record { cache = o.1.cache; tlb = page_dropped s x.tlb (page_of (addr_of access)) o.1.tlb; walk = o.1.walk; request = o.1.request; victim = o.1.victim; drop = o.1.drop })
    by n = o

keeps_over : (s : Sizes) (x y : ProcessorState) → Keeps s x y → Over s x → Over s y
keeps_over s x y k o = (by y.request refl, k.names o.1)
  where
    by : (r : Option Requested) → y.request ≡ r → y.request ≡ None
    by None e = e
    by (Some r) e = let q = k.request r e in absurd (let a = q.1 in let b = o.0 in cc)

answers_over : (s : Sizes) (x : ProcessorState) (block : Block) (held : Option Held) → Over s x → Over s (answers_held x block held).state
answers_over s x block None o = o
answers_over s x block (Some held) o = keeps_over s x (intervenes x block held).state (intervenes_keep s x block held) o

ends_over : (image : ImageState) (s : Sizes) (x : ProcessorState) (request : Requested) (outcome : Outcome) → IsBlock s request.block → Names s x → Over s (ends image x request outcome).state
ends_over image s x request outcome is n =
    let one : Over s (record x { request = None }) = (refl, record { cache = n.cache; tlb = n.tlb; walk = n.walk; request = λ r e. absurd (cc); victim = n.victim; drop = n.drop }) in
    let two = settles_over image s (record x { request = None }) request outcome is one in
    let three = answers_over s (settles image (record x { request = None }) request outcome).state request.block request.held two in
    keeps_over s _ _ (drops_keep image s (answers_held (settles image (record x { request = None }) request outcome).state request.block request.held).state) three

-- ---- all takes

abbrev pub Stays : ImageState → Sizes → ProcessorState → Type 0
Stays image s x = Names s x × Wanted image x

kept : (image : ImageState) (s : Sizes) (x y : ProcessorState) → Keeps s x y → Stays image s x → Stays image s y
kept image s x y k h = (k.names h.0, still_wanted image s x y k h.1)

over : (image : ImageState) (s : Sizes) (x : ProcessorState) → Over s x → Stays image s x
over image s x o = (o.1, nothing_wanted image x o.0)

-- a part changes nothing of what is wanted
same_want : (request : Requested) (kind : Kind) → (received request kind).want ≡ request.want
unfolding received
same_want request (SharedReply b l) = refl
same_want request (ExclusiveReply b l acks) = refl
same_want request (SpecReply b l) = refl
same_want request (UpgradeReply b acks) = refl
same_want request (Nak b) = refl
same_want request (PoisonError b) = refl
same_want request (SharedResponse b l) = refl
same_want request (ExclusiveResponse b l) = refl
same_want request (OwnerAck b) = refl
same_want request (InvalAck b) = refl
same_want request kind = refl

receives_stays : (image : ImageState) (s : Sizes) (x : ProcessorState) (o : Option Requested) (kind : Kind) → x.request ≡ o → Stays image s x → Stays image s (receives image x o kind).state
receives_stays image s x None kind is h = h
receives_stays image s x (Some request) kind is h = by (outcome_of (received request kind))
  where
    there : IsBlock s (received request kind).block
    there = subst (IsBlock s) (sym (same_request request kind)) (h.0.request request is)

    waits : Keeps s x (record x { request = Some (received request kind) })
    waits = record {
      hart = refl;
      request = λ r e. (let one : received request kind ≡ r = cc in (request, is, sym (same_request request kind) ∙ ap (λ (q : Requested). q.block) one, sym (same_want request kind) ∙ ap (λ (q : Requested). q.want) one));
      names = λ n. record { cache = n.cache; tlb = n.tlb; walk = n.walk; request = λ r e. (let one : received request kind ≡ r = cc in let t = there in subst (λ (q : Requested). IsBlock s q.block) one t); victim = n.victim; drop = n.drop };
    }

    ended : (outcome : Outcome) → Stays image s (ends image x (received request kind) outcome).state
    ended outcome = over image s _ (ends_over image s x (received request kind) outcome there h.0)

    by : (outcome : Outcome) → Stays image s (goes_on image x (received request kind) outcome).state
    by Waiting = kept image s x (record x { request = Some (received request kind) }) waits h
    by (Filled mode line) = ended (Filled mode line)
    by Again = ended Again
    by Poisoned = ended Poisoned

-- the frame that a message names besides a block is there
abbrev pub FrameThere : Sizes → Kind → Type 0
FrameThere s (Walked page frame) = is_there s frame ≡ true
FrameThere s (DropFrame frame) = is_there s frame ≡ true
FrameThere s kind = Unit {0}

walked_page : (s : Sizes) (x : ProcessorState) (page : VPage) → walks_for x.walk page ≡ true → Names s x → IsPlaced s page
walked_page s x page row n = by x.walk refl row
  where
    by : (o : Option VPage) → x.walk ≡ o → walks_for o page ≡ true → IsPlaced s page
    by None e r = absurd (cc)
    by (Some other) e r = subst (IsPlaced s) (same_page other page r) (n.walk other e)

pub take_stays : (image : ImageState) (s : Sizes) (x : ProcessorState) (kind : Kind) → has_row_for x kind ≡ true → FrameThere s kind → Stays image s x → Stays image s (take_of image x kind).state
unfolding take_of has_row_for
take_stays image s x (Invalidate block requester) row there h = kept image s x _ (invalidated_keeps s x block) h
take_stays image s x (InterveneShared block requester) row there h = kept image s x _ (asked_keeps image s x block (ShareWith requester)) h
take_stays image s x (InterveneEx block requester) row there h = kept image s x _ (asked_keeps image s x block (GiveTo requester)) h
take_stays image s x (IntervenePoison block) row there h = kept image s x _ (asked_keeps image s x block GiveBack) h
take_stays image s x (WbAck block) row there h = kept image s x _ (dropped_keeps image s x (record x { victim = after_ack x.victim false }) (with_slot s x (after_ack x.victim false) (acked_there s x.victim false))) h
take_stays image s x (WbBusyAck block) row there h = kept image s x _ (dropped_keeps image s x (record x { victim = after_ack x.victim true }) (with_slot s x (after_ack x.victim true) (acked_there s x.victim true))) h
take_stays image s x (Walked page frame) row there h = kept image s x _ (dropped_keeps image s x (record x { tlb = tlb_filled x.tlb page frame; walk = None }) (record {
  hart = refl;
  request = λ r e. (r, e, refl, refl);
  names = λ n. record { cache = n.cache; tlb = page_filled s x.tlb page frame (walked_page s x page row n) there n.tlb; walk = λ q e. absurd (cc); request = n.request; victim = n.victim; drop = n.drop };
})) h
take_stays image s x (WalkRetry page) row there h = kept image s x _ (dropped_keeps image s x (record x { walk = None }) (record {
  hart = refl;
  request = λ r e. (r, e, refl, refl);
  names = λ n. record { cache = n.cache; tlb = n.tlb; walk = λ q e. absurd (cc); request = n.request; victim = n.victim; drop = n.drop };
})) h
take_stays image s x (DropFrame frame) row there h = kept image s x _ (dropped_keeps image s x (record x { drop = Some frame }) (record {
  hart = refl;
  request = λ r e. (r, e, refl, refl);
  names = λ n. record { cache = n.cache; tlb = n.tlb; walk = n.walk; request = n.request; victim = n.victim; drop = λ g e. (let one : frame ≡ g = cc in subst (λ (f : Frame). is_there s f ≡ true) one there) };
})) h
take_stays image s x kind row there h = receives_stays image s x x.request kind refl h
