-- Marks of nodes, in one word.
use Rattle.std.specs.Prelude.{ℕ, zero, suc, ◌+◌, Bool, nat_eq, if◌then◌else◌}
use Rattle.std.specs.Int.{bit_at}

-- bit k of the word is set
abbrev pub is_marked : ℕ → ℕ → Bool
is_marked word k = nat_eq (bit_at word k) 1

-- how many of the first a bits are set
unfoldable pub marks_below : ℕ → ℕ → ℕ
marks_below word zero = 0
marks_below word (suc a) = marks_below word a + (if is_marked word a then 1 else 0)
