-- Lists of bytes, and the numbers that they are.
use Rattle.std.proofs.Common.{◌≡◌, ℕ, zero, suc, ◌+◌, ◌*◌, ◌^◌, ◌<◌, ◌≤◌, Bool, true, false, cond, Some, IfSome, List, [], ◌∷◌, ◌++◌, take, drop, arith}
use Rattle.std.specs.Prelude.{slice_index}
use Rattle.std.specs.List.{AllByRecursion, find}
use Rattle.std.specs.Int.{bytes_low_first, byte_at}
use Rattle.std.proofs.Math.Nat.{pow-le-pow_right, pow-suc}
use Rattle.byteorder.specs.Endian.{little_number}
use Rattle.byteorder.specs.Numbers.{little_from-lt}
use Rattle.og_image.specs.Image.{number_at}
use Rattle.og_trace.specs.Grammar.{is_width}
use Rattle.og_trace.proofs.Lines.{width_fits}
use Rattle.og_ranges.specs.Bytes.{AreBytes}

pub take_bytes : (n : ℕ) (xs : List ℕ) → AreBytes xs → AreBytes (take n xs)
take_bytes zero xs bytes = tt
take_bytes (suc n) [] bytes = tt
take_bytes (suc n) (x ∷ xs) bytes = (bytes.0, take_bytes n xs bytes.1)

pub drop_bytes : (n : ℕ) (xs : List ℕ) → AreBytes xs → AreBytes (drop n xs)
drop_bytes zero xs bytes = bytes
drop_bytes (suc n) [] bytes = tt
drop_bytes (suc n) (x ∷ xs) bytes = drop_bytes n xs bytes.1

pub both_bytes : (xs ys : List ℕ) → AreBytes xs → AreBytes ys → AreBytes (xs ++ ys)
both_bytes [] ys a b = b
both_bytes (x ∷ xs) ys a b = (a.0, both_bytes xs ys a.1 b)

pub low_bytes : (i n x : ℕ) → AreBytes (bytes_low_first i n x)
low_bytes i zero x = tt
low_bytes i (suc n) x = (one i, low_bytes (suc i) n x)
  where
    one : (k : ℕ) → byte_at k x < 256
    one zero = omega arith
    one (suc k) = omega arith

pub byte_of : (xs : List ℕ) (i : ℕ) → AreBytes xs → slice_index xs i < 256
byte_of [] i bytes = omega arith
byte_of (x ∷ xs) zero bytes = bytes.0
byte_of (x ∷ xs) (suc i) bytes = byte_of xs i bytes.1

-- ---- numbers of at most eight bytes

within_8 : (n width : ℕ) → n < 256 ^ width → is_width width ≡ true → n < 2 ^ 64
within_8 n width low known =
    let few : width < 9 = width_fits width known in
    let most : 256 ^ width ≤ 256 ^ 8 = pow-le-pow_right (let some : 0 < 256 = omega arith in some) (let le : width ≤ 8 = omega arith in le) in
    omega arith

pub little_fits : (width : ℕ) (xs : List ℕ) → is_width width ≡ true → AreBytes xs → little_number width xs < 2 ^ 64
little_fits width xs known bytes = within_8 (little_number width xs) width (little_from-lt 0 width xs (λ i. byte_of xs i bytes)) known

number_below : (byte : ℕ → ℕ) (addr n : ℕ) → ((a : ℕ) → byte a < 256) → number_at byte addr n < 256 ^ n
number_below byte addr zero bytes = omega arith
number_below byte addr (suc n) bytes =
    let rest : number_at byte (addr + 1) n < 256 ^ n = number_below byte (addr + 1) n bytes in
    let one : byte addr < 256 = bytes addr in
    let more : 256 ^ suc n ≡ 256 ^ n * 256 = pow-suc 256 n in
    omega arith

pub number_fits : (byte : ℕ → ℕ) (addr width : ℕ) → is_width width ≡ true → ((a : ℕ) → byte a < 256) → number_at byte addr width < 2 ^ 64
number_fits byte addr width known bytes = within_8 (number_at byte addr width) width (number_below byte addr width bytes) known

-- ---- what is found

pub found_has : {X : Type 0} → (P : X → Type 0) (test : X → Bool) (xs : List X) → AllByRecursion P xs → IfSome (find test xs) P
found_has P test [] all = tt
found_has {X} P test (x ∷ xs) all = by (test x) (found_has P test xs all.1)
  where
    by : (t : Bool) → IfSome (find test xs) P → IfSome (cond t (Some x) (find test xs)) P
    by true rest = all.0
    by false rest = rest
