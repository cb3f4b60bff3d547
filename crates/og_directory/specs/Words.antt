-- The words of an entry: a head, with the number of its state in bits 0 to 2, the owner in bits 8 to 15, the requester in
-- bits 16 to 23 and, in bit 24, whether the block was returned; and a set of groups. What a state hasn't is 0.
use Rattle.std.specs.Prelude.{◌≡◌, ℕ, ◌+◌, ◌*◌, ◌^◌, ◌/◌, ◌%◌, ◌<◌, Bool, true, nat_eq, if◌then◌else◌}
use Rattle.std.specs.Ordering.{nat_cmp}
use Rattle.std.specs.FinSet as set
use Rattle.og_directory.specs.declared.entry.State.{State}
use Rattle.og_directory.specs.declared.entry.State.TheVariants.{Unowned, Shared, Exclusive, BusyShared, BusyExclusive, BusyPoison, Poison}

abbrev pub head_of : State → ℕ
head_of Unowned = 0
head_of (Shared s) = 1
head_of (Exclusive q) = 2 + 2 ^ 8 * q
head_of (BusyShared q r) = 3 + 2 ^ 8 * q + 2 ^ 16 * r
head_of (BusyExclusive q r returned) = 4 + 2 ^ 8 * q + 2 ^ 16 * r + 2 ^ 24 * (if returned then 1 else 0)
head_of (BusyPoison q) = 5 + 2 ^ 8 * q
head_of Poison = 6

abbrev pub set_of : State → set.FinSet nat_cmp
set_of Unowned = set.empty
set_of (Shared s) = s
set_of (Exclusive q) = set.empty
set_of (BusyShared q r) = set.empty
set_of (BusyExclusive q r returned) = set.empty
set_of (BusyPoison q) = set.empty
set_of Poison = set.empty

-- the owner and the requester are numbers below 256
abbrev pub FieldsFit : State → Type 0
FieldsFit Unowned = Unit {0}
FieldsFit (Shared s) = Unit {0}
FieldsFit (Exclusive q) = q < 256
FieldsFit (BusyShared q r) = (q < 256) × (r < 256)
FieldsFit (BusyExclusive q r returned) = (q < 256) × (r < 256)
FieldsFit (BusyPoison q) = q < 256
FieldsFit Poison = Unit {0}

-- what an entry can hold: numbers below 256, and groups below 64
pub record IsKept (s : State) : Type 0 where
  pub fields : FieldsFit s
  pub groups : (k : ℕ) → set.contains (set_of s) k ≡ true → k < 64

-- the state with this number and these fields
abbrev pub state_with : ℕ → set.FinSet nat_cmp → ℕ → ℕ → Bool → State
state_with number s owner requester returned =
    if nat_eq number 0 then Unowned
    else if nat_eq number 1 then Shared s
    else if nat_eq number 2 then Exclusive owner
    else if nat_eq number 3 then BusyShared owner requester
    else if nat_eq number 4 then BusyExclusive owner requester returned
    else if nat_eq number 5 then BusyPoison owner
    else Poison

-- the state of a head and a set
unfoldable pub state_of : ℕ → set.FinSet nat_cmp → State
state_of head s = state_with (head % 2 ^ 3) s (head / 2 ^ 8 % 2 ^ 8) (head / 2 ^ 16 % 2 ^ 8) (nat_eq (head / 2 ^ 24 % 2) 1)

-- the words of a state, and of nothing else
pub record IsPacked (head : ℕ) (s : set.FinSet nat_cmp) : Type 0 where
  pub head_is : head_of (state_of head s) ≡ head
  pub set_is : set_of (state_of head s) ≡ s
