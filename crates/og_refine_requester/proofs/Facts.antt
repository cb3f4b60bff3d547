-- Blocks by number, and what is seen of a request.
use Rattle.std.proofs.Common.{◌≡◌, ℕ, ◌/◌, Bool, true, false, ◌&&◌, nat_eq, nat_lt, cond, arith, refl, sym, ap, ◌∙◌, Option, None, Some, option_map}
use Rattle.std.proofs.lemmas.Bool.Decides.{nat_tests}
use Rattle.og_base.specs.declared.Frame.{Frame}
use Rattle.og_base.specs.declared.Block.{Block}
use Rattle.og_line.specs.declared.Line.{Line}
use Rattle.og_block.specs.State.{NoResponse, NoCopy}
use Rattle.og_pages.specs.State.{put_pair}
use Rattle.og_cache.specs.Cache.{Cached, look_of}
use Rattle.og_request.specs.declared.Reply.{Reply}
use Rattle.og_request.specs.declared.Reply.TheVariants.{Shared as SharedPart, Exclusive as ExclusivePart, Speculative as SpeculativePart, Upgrade as UpgradePart, Nak as NakPart, PoisonError as PoisonErrorPart}
use Rattle.og_request.specs.declared.Response.{Response}
use Rattle.og_request.specs.declared.Response.TheVariants.{Shared as SharedLine, Exclusive as ExclusiveLine, OwnerAck as HomeLineIsGood}
use Rattle.og_request.specs.Request.{Requested}
use Rattle.og_relate.specs.Data.{NoGot, Request}
use Rattle.og_relate.specs.Places.{is_at}
use Rattle.og_seen.specs.Numbers.{Sizes, frame_count, is_there, block_at}
use Rattle.og_seen.specs.Caches.{copy_seen, cache_seen}
use Rattle.og_seen.specs.Messages.{frame_of_block}
use Rattle.og_seen.specs.Processors.{got_seen, response_seen, request_seen}
use Rattle.og_seen.proofs.Numbers.{number_below, at_number}

-- two tests that are passed
pub both : (a b : Bool) → a ≡ true → b ≡ true → (a && b) ≡ true
both a b ea eb = grind arith

-- ---- functions of two numbers

-- two functions that are equal everywhere
pub same_pairs : {A : Type 0} → (f g : ℕ → ℕ → A) → ((a b : ℕ) → f a b ≡ g a b) → f ≡ g
same_pairs f g h = λ i. λ a. λ b. h a b i

-- what is put twice in one place
pub put_twice : {A : Type 0} → (c : ℕ → ℕ → A) (f k : ℕ) (a b : A) → put_pair (put_pair c f k a) f k b ≡ put_pair c f k b
put_twice {A} c f k a b = same_pairs (put_pair (put_pair c f k a) f k b) (put_pair c f k b) (λ g j. by (nat_eq g f) (nat_eq j k) (c g j))
  where
    by : (t u : Bool) (old : A) → cond t (cond u b (cond t (cond u a old) old)) (cond t (cond u a old) old) ≡ cond t (cond u b old) old
    by true true old = refl
    by true false old = refl
    by false u old = refl

-- what was there already
pub put_again : {A : Type 0} → (c : ℕ → ℕ → A) (f k : ℕ) (a : A) → c f k ≡ a → put_pair c f k a ≡ c
put_again {A} c f k a e = same_pairs (put_pair c f k a) c (λ g j. by g j (nat_eq g f) (nat_eq j k) refl refl)
  where
    by : (g j : ℕ) (t u : Bool) → nat_eq g f ≡ t → nat_eq j k ≡ u → cond t (cond u a (c g j)) (c g j) ≡ c g j
    by g j true true eg ej = let x : g ≡ f = grind (arith, nat_tests) in let y : j ≡ k = grind (arith, nat_tests) in cc
    by g j true false eg ej = refl
    by g j false u eg ej = refl

-- ---- blocks by number

-- the block with a number
pub own_block : (s : Sizes) (b : Block) → is_there s b.frame ≡ true → block_at s (frame_of_block s b) b.number ≡ b
own_block s b t = ap (λ (f : Frame). record { frame = f; number = b.number }) (at_number s b.frame t)

-- two blocks with one number are one
pub one_block : (s : Sizes) (a b : Block) → is_there s a.frame ≡ true → is_there s b.frame ≡ true → frame_of_block s a ≡ frame_of_block s b → a.number ≡ b.number → a ≡ b
one_block s a b ta tb ef ek = sym (own_block s a ta) ∙ (ap (λ (f : ℕ). block_at s f a.number) ef ∙ (ap (λ (k : ℕ). block_at s (frame_of_block s b) k) ek ∙ own_block s b tb))

-- a block that is named by the numbers of another is it
pub same_numbers : (s : Sizes) (a b : Block) → is_there s a.frame ≡ true → is_there s b.frame ≡ true → (nat_eq (frame_of_block s a) (frame_of_block s b) && nat_eq a.number b.number) ≡ true → a ≡ b
same_numbers s a b ta tb e = one_block s a b ta tb (grind (arith, nat_tests)) (grind (arith, nat_tests))

-- the home of a block's frame
pub home_is : (s : Sizes) (b : Block) → is_there s b.frame ≡ true → frame_of_block s b / s.frames ≡ b.frame.home
home_is s b t = ap (λ (f : Frame). f.home) (at_number s b.frame t)

-- the copy of a block that is there
pub copy_at : (s : Sizes) (cache : Cached) (b : Block) → is_there s b.frame ≡ true → cache_seen s cache (frame_of_block s b) b.number ≡ copy_seen (look_of cache b)
copy_at s cache b t =
    let lt : nat_lt (frame_of_block s b) (frame_count s) ≡ true = (let a = number_below s b.frame t in grind (arith, nat_tests)) in
    ap (λ (a : Bool). cond a (copy_seen (look_of cache (block_at s (frame_of_block s b) b.number))) NoCopy) lt ∙ ap (λ (x : Block). copy_seen (look_of cache x)) (own_block s b t)

-- ---- what is seen of a request

-- a request that is seen is there
pub request_back : (s : Sizes) (o : Option Requested) (r : Request Line) → option_map (request_seen s) o ≡ Some r → (t : Requested) × (o ≡ Some t) × (request_seen s t ≡ r)
request_back s None r e = absurd (cc)
request_back s (Some t) r e = (t, refl, (cc))

-- no reply is seen where there is none
pub no_reply : (reply : Option Reply) → got_seen reply ≡ NoGot → reply ≡ None
no_reply None e = refl
no_reply (Some (SharedPart line)) e = absurd (cc)
no_reply (Some (ExclusivePart line acks)) e = absurd (cc)
no_reply (Some (SpeculativePart line)) e = absurd (cc)
no_reply (Some (UpgradePart acks)) e = absurd (cc)
no_reply (Some NakPart) e = absurd (cc)
no_reply (Some PoisonErrorPart) e = absurd (cc)

-- nor a response
pub no_response : (response : Option Response) → response_seen response ≡ NoResponse → response ≡ None
no_response None e = refl
no_response (Some (SharedLine line)) e = absurd (cc)
no_response (Some (ExclusiveLine line)) e = absurd (cc)
no_response (Some HomeLineIsGood) e = absurd (cc)

-- a request that is seen at a block is for it
pub request_block : (s : Sizes) (t : Requested) (b : Block) → is_there s t.block.frame ≡ true → is_there s b.frame ≡ true → is_at (frame_of_block s b) b.number (request_seen s t) ≡ true → t.block ≡ b
request_block s t b tt_ tb e = same_numbers s t.block b tt_ tb e
