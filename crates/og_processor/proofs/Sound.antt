-- A processor stays sound: its request is an access's, and the block that is asked for is there or has room.
use Rattle.std.proofs.Common.{◌≡◌, Bool, true, false, ◌&&◌, ◌⊎◌, inl, inr, Option, None, Some, Ok, [], ◌∷◌, refl, sym, ap, subst, if◌then◌else◌}
use Rattle.std.proofs.Math.Path.{◌∙◌}
use Rattle.std.specs.Prelude.{IsSome, is_some, option_map}
use Rattle.og_base.specs.declared.Block.{Block}
use Rattle.og_base.specs.declared.Frame.{Frame}
use Rattle.og_base.specs.declared.VPage.{VPage}
use Rattle.og_base.specs.declared.Cause.{Cause}
use Rattle.og_base.specs.Names.{is_same_block}
use Rattle.og_base.proofs.SameNames.{same_block, is_same_block-self}
use Rattle.og_line.specs.declared.Line.{Line}
use Rattle.og_line.specs.declared.Mode.{Mode}
use Rattle.og_line.specs.declared.Mode.TheVariants.{Shared, Clean, Dirty}
use Rattle.og_line.specs.declared.Access.{Access}
use Rattle.og_line.specs.Access.{addr_of}
use Rattle.og_msg.specs.declared.Kind.{Kind}
use Rattle.og_msg.specs.declared.Kind.TheVariants.{Invalidate, InterveneShared, InterveneEx, IntervenePoison, WbAck, WbBusyAck, Walked, WalkRetry, DropFrame, Dropped}
use Rattle.og_image.specs.Image.{ImageState}
use Rattle.og_cache.specs.declared.CachedBlock.{CachedBlock}
use Rattle.og_cache.specs.Cache.{Cached, IsCache, look_of, mode_of, line_of, has_room, thrown_out, reserved, with_mode, without}
use Rattle.og_cache.proofs.Seen.{mode_laws, take_out_laws, reserve_laws}
use Rattle.og_tlb.specs.Tlb.{look_of as frame_of}
use Rattle.og_request.specs.declared.Want.{Want}
use Rattle.og_request.specs.declared.Want.TheVariants.{Upgrade}
use Rattle.og_request.specs.declared.Held.{Held}
use Rattle.og_request.specs.declared.Held.TheVariants.{Shared as ShareWith, Exclusive as GiveTo, Poison as GiveBack}
use Rattle.og_request.specs.declared.Outcome.{Outcome}
use Rattle.og_request.specs.declared.Outcome.TheVariants.{Waiting, Filled, Again, Poisoned}
use Rattle.og_request.specs.Request.{Requested, new_request, received, outcome_of}
use Rattle.og_owner.specs.Owner.{answers, after_intervention, invalidated, after_invalidation, is_read}
use Rattle.og_tlb.specs.Tlb.{filled as tlb_filled, without_frame}
use Rattle.og_victim.specs.Slot.{is_slot_of, after_ack, after_intervention as slot_after}
use Rattle.rv_hart.specs.declared.hart.Need.{Need}
use Rattle.rv_hart.specs.declared.hart.Need.TheVariants as need
use Rattle.rv_hart.specs.Hart.{need_of}
use Rattle.og_processor.specs.State.{ProcessorState, becomes, sends, and_then, letter}
use Rattle.og_processor.specs.Access.{page_of, block_in, allows}
use Rattle.og_processor.specs.Act.{may_act, may_act_by, act_of, by_need, on_page, on_line, leaves, mode_out, wanted, misses}
use Rattle.og_processor.specs.Take.{take_of, is_occupied, drops, drops_by, intervenes, is_for, holding, is_asked, settles, makes, tries_again, forgets, put_line, answers_held, ends, goes_on, receives}
use Rattle.og_processor.specs.Sound.{IsSound, IsWaiting}
use Rattle.og_processor.proofs.Parts.{same_request}

abbrev Place : Cached → Block → Type 0
Place cache block = IsSome (look_of cache block) ⊎ (has_room cache block ≡ true)

-- ---- an act

-- nothing is outstanding
pub record Ready (x : ProcessorState) : Type 0 where
  pub runs : x.hart.cause ≡ None
  pub request : x.request ≡ None

ready : (image : ImageState) (x : ProcessorState) → may_act image x ≡ Ok tt → Ready x
unfolding may_act
ready image x may = by x.hart.cause x.request x.walk refl refl may
  where
    by : (c : Option Cause) (r : Option Requested) (w : Option VPage) → x.hart.cause ≡ c → x.request ≡ r → may_act_by image x c r w ≡ Ok tt → Ready x
    by (Some c) r w e f m = absurd (cc)
    by None (Some r) w e f m = absurd (cc)
    by None None (Some w) e f m = absurd (cc)
    by None None None e f m = record { runs = e; request = f }

no_request : (image : ImageState) (y : ProcessorState) → y.request ≡ None → IsSound image y
no_request image y none r e = absurd (cc)

-- a reserve leaves the block there, or room for it
reserved_place : (cache : Cached) (block : Block) → IsCache cache → Place (reserved cache block) block
reserved_place cache block sound = by (look_of cache block) refl
  where
    by : (o : Option (Mode × Line)) → look_of cache block ≡ o → Place (reserved cache block) block
    by None e = inr (reserve_laws.room cache block sound e)
    by (Some copy) e = inl (ap (λ (o : Option (Mode × Line)). is_some o) (reserve_laws.own cache block sound ∙ e))

abbrev Leaves : ProcessorState → ProcessorState → Block → Type 0
Leaves x y block = (y.hart ≡ x.hart) × (y.cache ≡ reserved x.cache block)

left : (x : ProcessorState) (block : Block) (out : Option CachedBlock) (mode : Mode) → Leaves x (leaves (record x { cache = reserved x.cache block }) out mode).state block
left x block None mode = (refl, refl)
left x block (Some out) Shared = (refl, refl)
left x block (Some out) Clean = (refl, refl)
left x block (Some out) Dirty = (refl, refl)

new_block : (want : Want) (block : Block) → (new_request want block).block ≡ block
unfolding new_request
new_block want block = refl

misses_sound : (image : ImageState) (x : ProcessorState) (access : Access) (want : Want) (block : Block) → IsCache x.cache → Ready x → need_of image x.hart ≡ need.Access access → IsSound image (misses x want block).state
misses_sound image x access want block sound ready needs r e =
    let l = left x block (thrown_out x.cache block) (mode_out (thrown_out x.cache block)) in
    let one : new_request want block ≡ r = cc in
    let same : block ≡ r.block = sym (new_block want block) ∙ ap (λ (q : Requested). q.block) one in
    let there : Place (leaves (record x { cache = reserved x.cache block }) (thrown_out x.cache block) (mode_out (thrown_out x.cache block))).state.cache r.block =
    subst (λ (b : Block). Place (leaves (record x { cache = reserved x.cache block }) (thrown_out x.cache block) (mode_out (thrown_out x.cache block))).state.cache b) same
    (subst (λ (c : Cached). Place c block) (sym l.1) (reserved_place x.cache block sound)) in
    record {
      runs = ap (λ h. h.cause) l.0 ∙ ready.runs;
      access = access;
      needs = ap (λ h. need_of image h) l.0 ∙ needs;
      place = there;
    }

pub acts_sound : (image : ImageState) (x : ProcessorState) → IsCache x.cache → may_act image x ≡ Ok tt → IsSound image (act_of image x).state
unfolding act_of
acts_sound image x sound may = by_the_need (need_of image x.hart) refl
  where
    is : Ready x
    is = ready image x may

    by_copy : (access : Access) (block : Block) → need_of image x.hart ≡ need.Access access → (t : Bool) → IsSound image (if t then on_line image x access block (line_of x.cache block) else misses x (wanted (mode_of x.cache block) access) block).state
    by_copy access block e true = by_line (line_of x.cache block)
      where
        by_line : (o : Option Line) → IsSound image (on_line image x access block o).state
        by_line None = no_request image x is.request
        by_line (Some l) = λ r f. absurd (let n = is.request in cc)
    by_copy access block e false = misses_sound image x access (wanted (mode_of x.cache block) access) block sound is e

    by_page : (access : Access) → need_of image x.hart ≡ need.Access access → (f : Option Frame) → IsSound image (on_page image x access f).state
    by_page access e None = λ r f. absurd (let n = is.request in cc)
    by_page access e (Some f) = by_copy access (block_in f (addr_of access)) e (allows (mode_of x.cache (block_in f (addr_of access))) access)

    by_the_need : (n : Need) → need_of image x.hart ≡ n → IsSound image (by_need image x n).state
    by_the_need need.Plain e = λ r f. absurd (let n = is.request in cc)
    by_the_need (need.Emit value) e = λ r f. absurd (let n = is.request in cc)
    by_the_need (need.Stop cause) e = λ r f. absurd (let n = is.request in cc)
    by_the_need (need.Access access) e = by_page access e (frame_of x.tlb (page_of (addr_of access)))

-- ---- a take

-- the hart stays, a request keeps its block, and each block that was there or had room is there or has room
pub record Keeps (x y : ProcessorState) : Type 0 where
  pub hart : y.hart ≡ x.hart
  pub request : (s : Requested) → y.request ≡ Some s → (r : Requested) × (x.request ≡ Some r) × (r.block ≡ s.block)
  pub place : (block : Block) → Place x.cache block → Place y.cache block

keeps : (image : ImageState) (x y : ProcessorState) → Keeps x y → IsSound image x → IsSound image y
keeps image x y k sound s e =
    let q = k.request s e in
    let w : IsWaiting image x s.block = subst (λ (b : Block). IsWaiting image x b) q.2 (sound q.0 q.1) in
    record { runs = ap (λ h. h.cause) k.hart ∙ w.runs; access = w.access; needs = ap (λ h. need_of image h) k.hart ∙ w.needs; place = k.place s.block w.place }

same : (x : ProcessorState) → Keeps x x
same x = record { hart = refl; request = λ s e. (s, e, refl); place = λ b p. p }

both : (x y z : ProcessorState) → Keeps x y → Keeps y z → Keeps x z
both x y z k l = record {
  hart = l.hart ∙ k.hart;
  request = λ s e. (let q = l.request s e in let p = k.request q.0 q.1 in (p.0, p.1, p.2 ∙ q.2));
  place = λ b p. l.place b (k.place b p);
}

drops_keep : (image : ImageState) (x : ProcessorState) → Keeps x (drops image x).state
drops_keep image x = by x.drop
  where
    by_place : (f : Frame) (t : Bool) → Keeps x (if t then becomes x else sends (record x { tlb = without_frame x.tlb f; drop = None }) (letter image.nodes (Dropped f) ∷ [])).state
    by_place f true = same x
    by_place f false = record { hart = refl; request = λ s e. (s, e, refl); place = λ b p. p }

    by : (d : Option Frame) → Keeps x (drops_by image x d).state
    by None = same x
    by (Some f) = by_place f (is_occupied x)

place_without : (cache : Cached) (gone block : Block) → IsCache cache → Place cache block → Place (without cache gone) block
place_without cache gone block sound p = by (is_same_block block gone) refl p
  where
    by : (t : Bool) → is_same_block block gone ≡ t → Place cache block → Place (without cache gone) block
    by t e (inr room) = inr (take_out_laws.room cache gone block sound room)
    by true e (inl there) = let s : block ≡ gone = same_block block gone e in inr (subst (λ (b : Block). has_room (without cache gone) b ≡ true) (sym s) (take_out_laws.makes_room cache gone sound (subst (λ (b : Block). IsSome (look_of cache b)) s there)))
    by false e (inl there) = inl (ap (λ (o : Option (Mode × Line)). is_some o) (take_out_laws.others cache gone block sound (λ s. absurd (let t : is_same_block block gone ≡ true = ap (λ (b : Block). is_same_block block b) (sym s) ∙ is_same_block-self block in cc))) ∙ there)

place_mode : (cache : Cached) (shared block : Block) (mode : Mode) → IsCache cache → Place cache block → Place (with_mode cache shared mode) block
place_mode cache shared block mode sound p = by (is_same_block block shared) refl p
  where
    mapped : (o : Option (Mode × Line)) → is_some o ≡ true → is_some {T = Mode × Line} (option_map (λ (copy : Mode × Line). (mode, copy.1)) o) ≡ true
    mapped None h = absurd (cc)
    mapped (Some copy) h = refl

    by : (t : Bool) → is_same_block block shared ≡ t → Place cache block → Place (with_mode cache shared mode) block
    by t e (inr room) = inr (mode_laws.room cache shared block mode sound ∙ room)
    by true e (inl there) = let s : block ≡ shared = same_block block shared e in inl (subst (λ (b : Block). IsSome (look_of (with_mode cache shared mode) b)) (sym s) (ap (λ (o : Option (Mode × Line)). is_some o) (mode_laws.own cache shared mode sound) ∙ mapped (look_of cache shared) (subst (λ (b : Block). IsSome (look_of cache b)) s there)))
    by false e (inl there) = inl (ap (λ (o : Option (Mode × Line)). is_some o) (mode_laws.others cache shared block mode sound (λ s. absurd (let t : is_same_block block shared ≡ true = ap (λ (b : Block). is_same_block block b) (sym s) ∙ is_same_block-self block in cc))) ∙ there)

place_intervention : (cache : Cached) (asked block : Block) (held : Held) → IsCache cache → Place cache block → Place (after_intervention cache asked held) block
unfolding after_intervention
place_intervention cache asked block (ShareWith r) sound p = place_mode cache asked block Shared sound p
place_intervention cache asked block (GiveTo r) sound p = place_without cache asked block sound p
place_intervention cache asked block GiveBack sound p = place_without cache asked block sound p

intervenes_keep : (x : ProcessorState) (block : Block) (held : Held) → IsCache x.cache → Keeps x (intervenes x block held).state
intervenes_keep x block held sound = by (is_slot_of x.victim block)
  where
    by : (t : Bool) → Keeps x (if t then becomes (record x { victim = slot_after x.victim }) else sends (record x { cache = after_intervention x.cache block held }) (answers (look_of x.cache block) block held)).state
    by true = record { hart = refl; request = λ s e. (s, e, refl); place = λ b p. p }
    by false = record { hart = refl; request = λ s e. (s, e, refl); place = λ b p. place_intervention x.cache block b held sound p }

held_keeps : (x : ProcessorState) (held : Held) → Keeps x (record x { request = holding held x.request })
held_keeps x held = record { hart = refl; request = λ s e. by x.request refl s e; place = λ b p. p }
  where
    by : (o : Option Requested) → x.request ≡ o → (s : Requested) → holding held o ≡ Some s → (r : Requested) × (x.request ≡ Some r) × (r.block ≡ s.block)
    by None e s f = absurd (cc)
    by (Some r) e s f = let same : record r { held = Some held } ≡ s = cc in (r, e, ap (λ (q : Requested). q.block) same)

asked_keeps : (image : ImageState) (x : ProcessorState) (block : Block) (held : Held) → IsCache x.cache → Keeps x (is_asked image x block held).state
asked_keeps image x block held sound = by (is_for x.request block)
  where
    by : (t : Bool) → Keeps x (if t then becomes (record x { request = holding held x.request }) else and_then (intervenes x block held) (λ y. drops image y)).state
    by true = held_keeps x held
    by false = both x (intervenes x block held).state (drops image (intervenes x block held).state).state (intervenes_keep x block held sound) (drops_keep image (intervenes x block held).state)

invalidated_keeps : (x : ProcessorState) (block : Block) → IsCache x.cache → Keeps x (record x { cache = without x.cache block; request = invalidated x.request block })
invalidated_keeps x block sound = record { hart = refl; request = λ s e. by x.request refl s e; place = λ b p. place_without x.cache block b sound p }
  where
    marked : (r : Requested) (t : Bool) → (if t then record r { marked = true } else r).block ≡ r.block
    marked r true = refl
    marked r false = refl

    by : (o : Option Requested) → x.request ≡ o → (s : Requested) → invalidated o block ≡ Some s → (r : Requested) × (x.request ≡ Some r) × (r.block ≡ s.block)
    by None e s f = absurd (cc)
    by (Some r) e s f = let same : after_invalidation r block ≡ s = cc in (r, e, sym (marked r (is_same_block r.block block && is_read r.want)) ∙ ap (λ (q : Requested). q.block) same)

-- what ends a request leaves none
abbrev Unasked : ProcessorState → Type 0
Unasked x = x.request ≡ None

settles_unasked : (image : ImageState) (x : ProcessorState) (request : Requested) (outcome : Outcome) → Unasked x → Unasked (settles image x request outcome).state
settles_unasked image x request Waiting none = none
settles_unasked image x request (Filled mode line) none = by (line_of (put_line x.cache request.block mode line) request.block) (need_of image x.hart)
  where
    by : (o : Option Line) (n : Need) → Unasked (makes image (record x { cache = put_line x.cache request.block mode line }) request.block o n).state
    by None n = none
    by (Some l) (need.Access access) = none
    by (Some l) n = none
settles_unasked image x request Again none = by request.want
  where
    by : (w : Want) → Unasked (tries_again x w request.block).state
    by Upgrade = none
    by w = none
settles_unasked image x request Poisoned none = by (need_of image x.hart)
  where
    by : (n : Need) → Unasked (forgets x n).state
    by (need.Access access) = none
    by n = none

answers_unasked : (x : ProcessorState) (block : Block) (held : Option Held) → Unasked x → Unasked (answers_held x block held).state
answers_unasked x block None none = none
answers_unasked x block (Some held) none = by (is_slot_of x.victim block)
  where
    by : (t : Bool) → Unasked (if t then becomes (record x { victim = slot_after x.victim }) else sends (record x { cache = after_intervention x.cache block held }) (answers (look_of x.cache block) block held)).state
    by true = none
    by false = none

drops_unasked : (image : ImageState) (x : ProcessorState) → Unasked x → Unasked (drops image x).state
drops_unasked image x none = by (drops image x).state.request refl
  where
    by : (o : Option Requested) → (drops image x).state.request ≡ o → Unasked (drops image x).state
    by None e = e
    by (Some s) e = let q = (drops_keep image x).request s e in let f = q.1 in absurd (cc)

ends_unasked : (image : ImageState) (x : ProcessorState) (request : Requested) (outcome : Outcome) → Unasked (ends image x request outcome).state
ends_unasked image x request outcome = drops_unasked image _ (answers_unasked (settles image (record x { request = None }) request outcome).state request.block request.held (settles_unasked image (record x { request = None }) request outcome refl))

receives_sound : (image : ImageState) (x : ProcessorState) (o : Option Requested) (kind : Kind) → x.request ≡ o → IsSound image x → IsSound image (receives image x o kind).state
receives_sound image x None kind is sound = sound
receives_sound image x (Some request) kind is sound = by (outcome_of (received request kind))
  where
    waits : Keeps x (record x { request = Some (received request kind) })
    waits = record { hart = refl; request = λ s e. (let one : received request kind ≡ s = cc in (request, is, sym (same_request request kind) ∙ ap (λ (q : Requested). q.block) one)); place = λ b p. p }

    over : (outcome : Outcome) → IsSound image (ends image x (received request kind) outcome).state
    over outcome = no_request image _ (ends_unasked image x (received request kind) outcome)

    by : (outcome : Outcome) → IsSound image (goes_on image x (received request kind) outcome).state
    by Waiting = keeps image x (record x { request = Some (received request kind) }) waits sound
    by (Filled mode line) = over (Filled mode line)
    by Again = over Again
    by Poisoned = over Poisoned

dropped_sound : (image : ImageState) (x y : ProcessorState) → Keeps x y → IsSound image x → IsSound image (drops image y).state
dropped_sound image x y k sound = keeps image x (drops image y).state (both x y (drops image y).state k (drops_keep image y)) sound

still : (x y : ProcessorState) → y.hart ≡ x.hart → y.request ≡ x.request → y.cache ≡ x.cache → Keeps x y
still x y h r c = record { hart = h; request = λ s e. (s, sym r ∙ e, refl); place = λ b p. subst (λ (k : Cached). Place k b) (sym c) p }

pub takes_sound : (image : ImageState) (x : ProcessorState) (kind : Kind) → IsCache x.cache → IsSound image x → IsSound image (take_of image x kind).state
unfolding take_of
takes_sound image x (Invalidate block requester) cache sound = keeps image x _ (invalidated_keeps x block cache) sound
takes_sound image x (InterveneShared block requester) cache sound = keeps image x _ (asked_keeps image x block (ShareWith requester) cache) sound
takes_sound image x (InterveneEx block requester) cache sound = keeps image x _ (asked_keeps image x block (GiveTo requester) cache) sound
takes_sound image x (IntervenePoison block) cache sound = keeps image x _ (asked_keeps image x block GiveBack cache) sound
takes_sound image x (WbAck block) cache sound = dropped_sound image x (record x { victim = after_ack x.victim false }) (still x (record x { victim = after_ack x.victim false }) refl refl refl) sound
takes_sound image x (WbBusyAck block) cache sound = dropped_sound image x (record x { victim = after_ack x.victim true }) (still x (record x { victim = after_ack x.victim true }) refl refl refl) sound
takes_sound image x (Walked page frame) cache sound = dropped_sound image x (record x { tlb = tlb_filled x.tlb page frame; walk = None }) (still x (record x { tlb = tlb_filled x.tlb page frame; walk = None }) refl refl refl) sound
takes_sound image x (WalkRetry page) cache sound = dropped_sound image x (record x { walk = None }) (still x (record x { walk = None }) refl refl refl) sound
takes_sound image x (DropFrame frame) cache sound = dropped_sound image x (record x { drop = Some frame }) (still x (record x { drop = Some frame }) refl refl refl) sound
takes_sound image x kind cache sound = receives_sound image x x.request kind refl sound
