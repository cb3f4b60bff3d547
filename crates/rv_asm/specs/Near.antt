-- Numbers that no range tells apart. The reader stops counting at 2^40.
use Rattle.std.specs.Prelude.{◌≡◌, ◌⊎◌, ◌^◌, ℤ, pos, ◌-ℤ◌, ◌≤ℤ◌}

-- both beyond all ranges, on one side
abbrev pub AreFar : ℤ → ℤ → Type 0
AreFar a b = (pos (2 ^ 40) ≤ℤ a) × (pos (2 ^ 40) ≤ℤ b)

abbrev pub AreFarBelow : ℤ → ℤ → Type 0
AreFarBelow a b = (a ≤ℤ (pos 0 -ℤ pos (2 ^ 40))) × (b ≤ℤ (pos 0 -ℤ pos (2 ^ 40)))

abbrev pub IsNear : ℤ → ℤ → Type 0
IsNear a b = (a ≡ b) ⊎ (AreFar a b ⊎ AreFarBelow a b)
