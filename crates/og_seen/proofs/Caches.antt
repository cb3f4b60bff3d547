-- A change of a cache is seen as that of one value.
use Rattle.std.proofs.Common.{◌≡◌, ◌≢◌, ℕ, ◌<◌, Bool, true, false, cond, nat_eq, nat_lt, arith, refl, sym, ap, ◌∙◌, Option, None, Some, option_map}
use Rattle.std.proofs.lemmas.Bool.Decides.{nat_tests}
use Rattle.og_base.specs.declared.Frame.{Frame}
use Rattle.og_base.specs.declared.Block.{Block}
use Rattle.og_line.specs.declared.Line.{Line}
use Rattle.og_line.specs.declared.Mode.{Mode}
use Rattle.og_block.specs.State.{NoCopy}
use Rattle.og_pages.specs.State.{put_pair}
use Rattle.og_cache.specs.declared.CachedBlock.{CachedBlock}
use Rattle.og_cache.specs.Cache.{Cached, IsCache, look_of, empty_cache, has_room, filled, with_mode, with_line, without, thrown_out, reserved}
use Rattle.og_cache.proofs.Seen.{new_laws, fill_laws, mode_laws, line_laws, take_out_laws, reserve_laws}
use Rattle.og_seen.specs.Numbers.{Sizes, frame_count, is_there, frame_number, frame_at, block_at}
use Rattle.og_seen.specs.Caches.{copy_in, copy_seen, cache_seen}
use Rattle.og_seen.proofs.Numbers.{number_below, at_number, number_at}

same_pairs : {A : Type 0} → (f g : ℕ → ℕ → A) → ((a b : ℕ) → f a b ≡ g a b) → f ≡ g
same_pairs f g h = λ i. λ a. λ b. h a b i

-- the block with a number
own_block : (s : Sizes) (block : Block) → is_there s block.frame ≡ true → block_at s (frame_number s block.frame) block.number ≡ block
own_block s block t = ap (λ (f : Frame). record { frame = f; number = block.number }) (at_number s block.frame t)

-- one copy of the cache is another one, and every other is as it was
one_changed : (s : Sizes) (before after : Cached) (block : Block) (copy : Option (Mode × Line)) → is_there s block.frame ≡ true → look_of after block ≡ copy → ((other : Block) → other ≢ block → look_of after other ≡ look_of before other) →
    cache_seen s after ≡ put_pair (cache_seen s before) (frame_number s block.frame) block.number (copy_seen copy)
one_changed s before after block copy t own others = same_pairs (cache_seen s after) (put_pair (cache_seen s before) n block.number (copy_seen copy)) at
  where
    n : ℕ
    n = frame_number s block.frame

    Same : (f k : ℕ) → Bool → Bool → Bool → Type 0
    Same f k a b c = cond a (copy_seen (look_of after (block_at s f k))) NoCopy ≡ cond b (cond c (copy_seen copy) (cond a (copy_seen (look_of before (block_at s f k))) NoCopy)) (cond a (copy_seen (look_of before (block_at s f k))) NoCopy)

    other_frame : (f k : ℕ) → f < frame_count s → nat_eq f n ≡ false → block_at s f k ≢ block
    other_frame f k lt ne e = absurd (let a : frame_at s f ≡ block.frame = ap (λ b. b.frame) e in let b : f ≡ n = sym (number_at s f lt) ∙ ap (λ x. frame_number s x) a in grind (arith, nat_tests))

    other_number : (f k : ℕ) → nat_eq k block.number ≡ false → block_at s f k ≢ block
    other_number f k ne e = absurd (let a : k ≡ block.number = ap (λ b. b.number) e in grind (arith, nat_tests))

    by : (f k : ℕ) (a b c : Bool) → nat_lt f (frame_count s) ≡ a → nat_eq f n ≡ b → nat_eq k block.number ≡ c → Same f k a b c
    by f k false true c la eb ec = absurd (let e : f ≡ n = grind (arith, nat_tests) in let lt : n < frame_count s = number_below s block.frame t in grind (arith, nat_tests))
    by f k false false c la eb ec = refl
    by f k true true true la eb ec =
        let e : f ≡ n = grind (arith, nat_tests) in
        let d : k ≡ block.number = grind (arith, nat_tests) in
        let o : block_at s f k ≡ block = ap (λ x. block_at s x k) e ∙ ap (λ x. block_at s n x) d ∙ own_block s block t in
        ap (λ b. copy_seen (look_of after b)) o ∙ ap copy_seen own
    by f k true true false la eb ec = ap copy_seen (others (block_at s f k) (other_number f k ec))
    by f k true false c la eb ec = ap copy_seen (others (block_at s f k) (other_frame f k (grind (arith, nat_tests)) eb))

    at : (f k : ℕ) → cache_seen s after f k ≡ put_pair (cache_seen s before) n block.number (copy_seen copy) f k
    at f k = by f k (nat_lt f (frame_count s)) (nat_eq f n) (nat_eq k block.number) refl refl refl

pub new_seen : (s : Sizes) (sets ways f k : ℕ) → cache_seen s (empty_cache sets ways) f k ≡ NoCopy
new_seen s sets ways f k = by (nat_lt f (frame_count s))
  where
    by : (a : Bool) → cond a (copy_seen (look_of (empty_cache sets ways) (block_at s f k))) NoCopy ≡ NoCopy
    by true = ap copy_seen (new_laws.nothing sets ways (block_at s f k))
    by false = refl

pub fill_seen : (s : Sizes) (cache : Cached) (block : Block) (mode : Mode) (line : Line) → IsCache cache → is_there s block.frame ≡ true → look_of cache block ≡ None → has_room cache block ≡ true →
    cache_seen s (filled cache block mode line) ≡ put_pair (cache_seen s cache) (frame_number s block.frame) block.number (copy_in mode line)
fill_seen s cache block mode line is t none room = one_changed s cache (filled cache block mode line) block (Some (mode, line)) t (fill_laws.own cache block mode line is none room) (λ other ne. fill_laws.others cache block other mode line is ne)

pub take_out_seen : (s : Sizes) (cache : Cached) (block : Block) → IsCache cache → is_there s block.frame ≡ true →
    cache_seen s (without cache block) ≡ put_pair (cache_seen s cache) (frame_number s block.frame) block.number NoCopy
take_out_seen s cache block is t = one_changed s cache (without cache block) block None t (take_out_laws.own cache block is) (λ other ne. take_out_laws.others cache block other is ne)

pub mode_seen : (s : Sizes) (cache : Cached) (block : Block) (old mode : Mode) (line : Line) → IsCache cache → is_there s block.frame ≡ true → look_of cache block ≡ Some (old, line) →
    cache_seen s (with_mode cache block mode) ≡ put_pair (cache_seen s cache) (frame_number s block.frame) block.number (copy_in mode line)
mode_seen s cache block old mode line is t has = one_changed s cache (with_mode cache block mode) block (Some (mode, line)) t (mode_laws.own cache block mode is ∙ ap (option_map (λ copy. (mode, copy.1))) has) (λ other ne. mode_laws.others cache block other mode is ne)

pub line_seen : (s : Sizes) (cache : Cached) (block : Block) (mode : Mode) (old line : Line) → IsCache cache → is_there s block.frame ≡ true → look_of cache block ≡ Some (mode, old) →
    cache_seen s (with_line cache block line) ≡ put_pair (cache_seen s cache) (frame_number s block.frame) block.number (copy_in mode line)
line_seen s cache block mode old line is t has = one_changed s cache (with_line cache block line) block (Some (mode, line)) t (line_laws.own cache block line is ∙ ap (option_map (λ copy. (copy.0, line))) has) (λ other ne. line_laws.others cache block other line is ne)

pub reserve_seen : (s : Sizes) (cache : Cached) (block : Block) (out : CachedBlock) → IsCache cache → thrown_out cache block ≡ Some out → is_there s out.block.frame ≡ true →
    cache_seen s (reserved cache block) ≡ put_pair (cache_seen s cache) (frame_number s out.block.frame) out.block.number NoCopy
reserve_seen s cache block out is th t = one_changed s cache (reserved cache block) out.block None t (reserve_laws.gone cache block out is th) (λ other ne. reserve_laws.others cache block other out is th ne)

pub own_seen : (s : Sizes) (cache : Cached) (block : Block) (mode : Mode) (line : Line) → is_there s block.frame ≡ true → look_of cache block ≡ Some (mode, line) →
    cache_seen s cache (frame_number s block.frame) block.number ≡ copy_in mode line
own_seen s cache block mode line t has =
    let lt : nat_lt (frame_number s block.frame) (frame_count s) ≡ true = (let a = number_below s block.frame t in grind (arith, nat_tests)) in
    ap (λ a. cond a (copy_seen (look_of cache (block_at s (frame_number s block.frame) block.number))) NoCopy) lt ∙ ap (λ b. copy_seen (look_of cache b)) (own_block s block t) ∙ ap copy_seen has
