-- The bytes of a program.
use Rattle.std.specs.Prelude.{ℕ, ◌<◌, List}
use Rattle.std.specs.List.{AllByRecursion}
use Rattle.og_image.specs.Image.{ImageState}

-- a list of bytes
abbrev pub AreBytes : List ℕ → Type 0
AreBytes bytes = AllByRecursion (λ b. b < 256) bytes

-- the contents of each segment are bytes
abbrev pub HasBytes : ImageState → Type 0
HasBytes image = AllByRecursion (λ s. AreBytes s.bytes) image.segments
