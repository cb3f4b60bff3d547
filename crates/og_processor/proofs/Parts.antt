-- What is known of a request when a part comes, and what its end leaves.
use Rattle.std.proofs.Common.{◌≡◌, ◌≢◌, ℕ, Bool, true, false, not, ◌&&◌, ◌||◌, inl, inr, Option, None, Some, refl, sym, ap, subst, arith}
use Rattle.std.specs.Prelude.{IsSome, is_none, option_map}
use Rattle.og_base.specs.declared.Block.{Block}
use Rattle.og_line.specs.declared.Line.{Line}
use Rattle.og_line.specs.declared.Mode.{Mode}
use Rattle.og_line.specs.declared.Mode.TheVariants.{Shared}
use Rattle.og_line.specs.declared.Access.{Access}
use Rattle.og_msg.specs.declared.Kind.{Kind}
use Rattle.og_msg.specs.Kinds.{line_of as message_line}
use Rattle.og_image.specs.Image.{ImageState}
use Rattle.og_cache.specs.Cache.{IsCache, look_of, mode_of, line_of, without}
use Rattle.og_cache.proofs.Seen.{take_out_laws}
use Rattle.og_request.specs.declared.Want.{Want}
use Rattle.og_request.specs.declared.Want.TheVariants.{Read, ReadEx, Upgrade}
use Rattle.og_request.specs.declared.Held.{Held}
use Rattle.og_request.specs.declared.Outcome.{Outcome}
use Rattle.og_request.specs.declared.Outcome.TheVariants.{Waiting, Filled, Again, Poisoned}
use Rattle.og_request.specs.declared.Reply.{Reply}
use Rattle.og_request.specs.declared.Response.{Response}
use Rattle.og_request.specs.Request.{Requested, received, outcome_of, outcome_by, has_row}
use Rattle.og_victim.specs.Slot.{is_slot_of}
use Rattle.rv_hart.specs.declared.hart.Need.{Need}
use Rattle.rv_hart.specs.declared.hart.Need.TheVariants as need
use Rattle.rv_hart.specs.Hart.{need_of}
use Rattle.og_processor.specs.State.{ProcessorState}
use Rattle.og_processor.specs.Take.{put_line, makes, tries_again, forgets, settles}
use Rattle.og_processor.specs.Rows.{is_shared, leaves_shared, has_its_copy, may_answer, ends_well, has_part_row}
use Rattle.og_processor.specs.Sound.{IsWaiting, IsLow, replied_line, responded_line, line_brought}
use Rattle.og_processor.proofs.Copies.{Stands, put_stands, put_sound, after_access}

-- a part meets a request
pub part_row : (x : ProcessorState) (o : Option Requested) (request : Requested) (kind : Kind) → o ≡ Some request → has_part_row x o kind ≡ true → (has_row request kind ≡ true) × (ends_well x (received request kind) (outcome_of (received request kind)) ≡ true)
part_row x None request kind e row = absurd (cc)
part_row x (Some other) request kind e row = let same : other ≡ request = cc in subst (λ (r : Requested). (has_row r kind ≡ true) × (ends_well x (received r kind) (outcome_of (received r kind)) ≡ true)) same (both (has_row other kind) (ends_well x (received other kind) (outcome_of (received other kind))) row)
  where
    both : (a b : Bool) → (a && b) ≡ true → (a ≡ true) × (b ≡ true)
    both true b h = (refl, h)
    both false b h = absurd (cc)

-- no part changes the block that is asked for, nor what is held
pub same_request : (request : Requested) (kind : Kind) → (received request kind).block ≡ request.block
unfolding received
same_request request kind = grind arith

same_want : (request : Requested) (kind : Kind) → (received request kind).want ≡ request.want
unfolding received
same_want request kind = grind arith

same_held : (request : Requested) (kind : Kind) → (received request kind).held ≡ request.held
unfolding received
same_held request kind = grind arith

-- so its end is judged by the request as it was
pub same_end : (x : ProcessorState) (request : Requested) (kind : Kind) (outcome : Outcome) → ends_well x (received request kind) outcome ≡ ends_well x request outcome
same_end x request kind outcome = by request (received request kind) outcome (same_request request kind) (same_want request kind) (same_held request kind)
  where
    by : (r s : Requested) (o : Outcome) → s.block ≡ r.block → s.want ≡ r.want → s.held ≡ r.held → ends_well x s o ≡ ends_well x r o
    by r s Waiting b w h = rw (b, h) refl
    by r s (Filled mode None) b w h = rw (b, h) refl
    by r s (Filled mode (Some line)) b w h = rw (b, h) refl
    by r s Again b w h = rw (b, w, h) refl
    by r s Poisoned b w h = rw (b, h) refl

-- an end that has its rows
pub well_copy : (x : ProcessorState) (request : Requested) (outcome : Outcome) → ends_well x request outcome ≡ true → (has_its_copy x request.block outcome ≡ true) × (may_answer x request outcome ≡ true)
well_copy x request outcome h = both (has_its_copy x request.block outcome) (may_answer x request outcome) h
  where
    both : (a b : Bool) → (a && b) ≡ true → (a ≡ true) × (b ≡ true)
    both true b h = (refl, h)
    both false b h = absurd (cc)

-- a fill without a line finds its copy
pub copy_there : (x : ProcessorState) (block : Block) (mode : Mode) (line : Option Line) → has_its_copy x block (Filled mode line) ≡ true → line ≡ None → IsSome (look_of x.cache block)
copy_there x block mode None h e = by (look_of x.cache block) h
  where
    by : (o : Option (Mode × Line)) → is_shared (option_map (λ copy. copy.0) o) ≡ true → IsSome o
    by None h = absurd (cc)
    by (Some copy) h = refl
copy_there x block mode (Some line) h e = absurd (cc)

-- ---- lines that have seen few stores

low_part : (o p : Option Line) → IsLow o → p ≡ o → IsLow p
low_part o p h e = subst (λ (z : Option Line). IsLow z) (sym e) h

pub brought_low : (request : Requested) → IsLow (replied_line request.reply) → IsLow (responded_line request.response) → IsLow (line_brought (outcome_of request))
unfolding outcome_of
brought_low request a b = by request.want request.marked request.reply request.response request.acks a b
  where
    by : (want : Want) (marked : Bool) (reply : Option Reply) (response : Option Response) (acks : ℕ) → IsLow (replied_line reply) → IsLow (responded_line response) → IsLow (line_brought (outcome_by want marked reply response acks))
    by want marked reply response acks a b l e = grind arith

pub received_replied : (request : Requested) (kind : Kind) → IsLow (replied_line request.reply) → IsLow (message_line kind) → IsLow (replied_line (received request kind).reply)
unfolding received
received_replied request kind a b l e = grind arith

pub received_responded : (request : Requested) (kind : Kind) → IsLow (responded_line request.response) → IsLow (message_line kind) → IsLow (responded_line (received request kind).response)
unfolding received
received_responded request kind a b l e = grind arith

-- ---- the end of a request

not_shared : (o : Option Mode) → is_shared o ≡ false → o ≢ Some Shared
not_shared o h e = grind arith

-- where it leaves no shared copy, there is none
pub leaves_none_shared : (image : ImageState) (x : ProcessorState) (request : Requested) (outcome : Outcome) → IsCache x.cache → ((b : Block) → IsLow (line_of x.cache b)) → IsLow (line_brought outcome) → has_its_copy x request.block outcome ≡ true → IsWaiting image x request.block → outcome ≢ Waiting →
    leaves_shared x request outcome ≡ false → mode_of (settles image x request outcome).state.cache request.block ≢ Some Shared
leaves_none_shared image x request Waiting sound low own copy waits over leaves = absurd (over refl)
leaves_none_shared image x request (Filled mode line) sound low own copy waits over leaves = by (line_of (put_line x.cache request.block mode line) request.block) (ap (λ (c : Option (Mode × Line)). option_map (λ copy. copy.1) c) stands.look) (need_of image x.hart) waits.needs
  where
    stands : Stands (put_line x.cache request.block mode line) request.block mode
    stands = put_stands x.cache request.block mode line sound low own (copy_there x request.block mode line copy) waits.place

    filled : ProcessorState
    filled = record x { cache = put_line x.cache request.block mode line }

    differ : mode ≢ Shared
    differ e = let h : is_shared (Some mode) ≡ false = leaves in grind arith

    by : (o : Option Line) → o ≡ Some stands.line → (n : Need) → n ≡ need.Access waits.access → mode_of (makes image filled request.block o n).state.cache request.block ≢ Some Shared
    by None e n f = absurd (cc)
    by (Some l) e (need.Access access) f = λ shared. elim (after_access (put_line x.cache request.block mode line) request.block stands.line l x.reserved access mode (put_sound x.cache request.block mode line sound) stands.look) [ inl m ↦ differ (cc) | inr m ↦ absurd (cc) ]
    by (Some l) e n f = absurd (cc)
leaves_none_shared image x request Again sound low own copy waits over leaves = by request.want leaves
  where
    by : (w : Want) → leaves_shared x (record request { want = w }) Again ≡ false → mode_of (settles image x (record request { want = w }) Again).state.cache request.block ≢ Some Shared
    by Upgrade h = λ e. (let gone : look_of (without x.cache request.block) request.block ≡ None = take_out_laws.own x.cache request.block sound in let m : mode_of (without x.cache request.block) request.block ≡ None = ap (λ (c : Option (Mode × Line)). option_map (λ copy. copy.0) c) gone in absurd (cc))
    by Read h = not_shared (mode_of x.cache request.block) h
    by ReadEx h = not_shared (mode_of x.cache request.block) h
leaves_none_shared image x request Poisoned sound low own copy waits over leaves = by (need_of image x.hart)
  where
    by : (n : Need) → mode_of (forgets x n).state.cache request.block ≢ Some Shared
    by (need.Access access) = not_shared (mode_of x.cache request.block) leaves
    by n = not_shared (mode_of x.cache request.block) leaves

-- what is held meets no shared copy
pub answer_ready : (image : ImageState) (x : ProcessorState) (request : Requested) (outcome : Outcome) (held : Held) → IsCache x.cache → ((b : Block) → IsLow (line_of x.cache b)) → IsLow (line_brought outcome) → ends_well x request outcome ≡ true → IsWaiting image x request.block → outcome ≢ Waiting →
    request.held ≡ Some held → is_slot_of x.victim request.block ≡ false → mode_of (settles image x request outcome).state.cache request.block ≢ Some Shared
answer_ready image x request outcome held sound low own well waits over is slot =
    let w = well_copy x request outcome well in
    leaves_none_shared image x request outcome sound low own w.0 waits over (by request.held (is_slot_of x.victim request.block) (leaves_shared x request outcome) is slot w.1)
  where
    by : (h : Option Held) (s l : Bool) → h ≡ Some held → s ≡ false → (is_none h || s || not l) ≡ true → l ≡ false
    by None s l e f g = absurd (cc)
    by (Some other) s l e f g = grind arith

-- a request's end leaves the victim slot
pub same_victim : (image : ImageState) (x : ProcessorState) (request : Requested) (outcome : Outcome) → (settles image x request outcome).state.victim ≡ x.victim
same_victim image x request Waiting = refl
same_victim image x request (Filled mode line) = by (line_of (put_line x.cache request.block mode line) request.block) (need_of image x.hart)
  where
    by : (o : Option Line) (n : Need) → (makes image (record x { cache = put_line x.cache request.block mode line }) request.block o n).state.victim ≡ x.victim
    by None n = refl
    by (Some l) (need.Access access) = refl
    by (Some l) n = refl
same_victim image x request Again = by request.want
  where
    by : (w : Want) → (tries_again x w request.block).state.victim ≡ x.victim
    by Upgrade = refl
    by w = refl
same_victim image x request Poisoned = by (need_of image x.hart)
  where
    by : (n : Need) → (forgets x n).state.victim ≡ x.victim
    by (need.Access access) = refl
    by n = refl
