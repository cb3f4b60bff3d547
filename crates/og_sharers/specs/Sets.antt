-- Finite sets of small numbers as words: bit k of the word is set where k is in the set.
use Rattle.std.specs.Prelude.{ℕ, zero, suc, ◌+◌, ◌^◌, Bool, ◌&&◌, not, nat_eq, nat_lt, if◌then◌else◌}
use Rattle.std.specs.Ordering.{nat_cmp}
use Rattle.std.specs.Int.{bit_at}
use Rattle.std.specs.FinSet as set
use Rattle.og_base.specs.Groups.{group_of}

-- the numbers below w whose bit is set in the word
unfoldable pub members_of : ℕ → ℕ → set.FinSet nat_cmp
members_of zero word = set.empty
members_of (suc k) word = if nat_eq (bit_at word k) 1 then set.insert (members_of k word) k else members_of k word

-- the word whose bits below w are set for the members of the set
unfoldable pub word_of : ℕ → set.FinSet nat_cmp → ℕ
word_of zero s = 0
word_of (suc k) s = word_of k s + (if set.contains s k then 2 ^ k else 0)

-- there is such a node, its group is in the set of groups, and it isn't this one
abbrev pub is_other : set.FinSet nat_cmp → ℕ → ℕ → ℕ → Bool
is_other groups node nodes k = nat_lt k nodes && (set.contains groups (group_of nodes k) && not (nat_eq k node))
