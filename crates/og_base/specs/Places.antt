-- A row of places, each of which holds one thing or nothing, as the ways of a cache's set or the slots of a TLB.
use Rattle.std.specs.Prelude.{◌≡◌, ℕ, Bool, true, Option, Some, None, List, slice_index_or, position}

-- what a place holds, if it is a place
abbrev pub held_by : {A : Type 0} → List (Option A) → Option ℕ → Option A
held_by places None = None
held_by places (Some place) = slice_index_or places place None

-- what the first place that passes holds
abbrev pub found_in : {A : Type 0} → List (Option A) → (Option A → Bool) → Option A
found_in places passes = held_by places (position passes places)

-- at most one place passes
abbrev pub PassesOnce : {A : Type 0} → List (Option A) → (Option A → Bool) → Type 0
PassesOnce places passes =
    (first second : ℕ) → passes (slice_index_or places first None) ≡ true → passes (slice_index_or places second None) ≡ true → first ≡ second
