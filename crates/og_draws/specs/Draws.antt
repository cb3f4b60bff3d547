-- The draws of a number: words of the generator `Lcg64Xsh32` of `rand_pcg`, seeded by the number.
use Rattle.std.specs.Prelude.{ℕ, zero, suc, ◌%◌}
use Rattle.rand_core.specs.Pcg32Seed.{pcg32_seed}
use Rattle.rand_pcg.specs.Lcg.{Lcg}
use Rattle.rand_pcg.specs.Pcg.{pcg32, pcg32_of_seed}

-- the generator at its start: seeded by the 16 bytes of the number
abbrev pub start : ℕ → Lcg
start number = pcg32_of_seed (pcg32_seed 16 number)

-- the generator after k words
abbrev pub after : ℕ → ℕ → Lcg
after number zero = start number
after number (suc k) = (pcg32 (after number k)).1

-- the k-th word of 32 bits, from 0
abbrev pub word : ℕ → ℕ → ℕ
word number k = (pcg32 (after number k)).0

-- the k-th draw, among so many choices
abbrev pub draw : (number k count : ℕ) → ℕ
draw number k count = word number k % count
