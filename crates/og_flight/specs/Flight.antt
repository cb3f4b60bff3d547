-- Messages in flight as an index: a sorted list of small entries, and a slab in which each has its message.
use Rattle.std.specs.Prelude.{◌≡◌, ℕ, suc, ◌+◌, ◌<◌, ◌≤◌, ◌^◌, Bool, true, nat_eq, nat_lt, cond, List, [], ◌∷◌, ◌++◌, length, slice_get, slice_set, false, ◌&&◌, ◌⊎◌}
use Rattle.std.proofs.Common.{Option, None, Some}
use Rattle.std.specs.List.{filter}
use Rattle.og_runs.specs.declared.MsgId.{MsgId}
use Rattle.og_runs.specs.declared.Msg.{Msg}
use Rattle.og_runs.specs.Runs.{same_id}
use Rattle.og_runs.specs.World.{find, Distinct, InPlace}
use Rattle.og_flight.specs.declared.IndexEntry.{IndexEntry}

-- what callers see: the messages, each at its place, and how many there may be
pub record Flying (K : Type 0) : Type 0 where
  pub messages : List (Msg K)
  pub room : ℕ

-- by receiver, then sender, then number
abbrev pub before : ℕ → ℕ → ℕ → ℕ → ℕ → ℕ → Bool
before a s q b t r = cond (nat_eq a b) (cond (nat_eq s t) (nat_lt q r) (nat_lt s t)) (nat_lt a b)

-- how many messages at the front stand before this receiver, sender and number
abbrev pub rank : {K : Type 0} → ℕ → ℕ → ℕ → List (Msg K) → ℕ
rank a s q [] = 0
rank a s q (m ∷ ms) = cond (before m.to m.id.sender m.id.seq a s q) (suc (rank a s q ms)) 0

-- the same of entries
abbrev pub rank_of : ℕ → ℕ → ℕ → List IndexEntry → ℕ
rank_of a s q [] = 0
rank_of a s q (e ∷ es) = cond (before e.to e.sender e.seq a s q) (suc (rank_of a s q es)) 0

-- all entries that stand before are at the front
abbrev pub IsRanked : ℕ → ℕ → ℕ → List IndexEntry → Type 0
IsRanked a s q es = (k : ℕ) (e : IndexEntry) → slice_get es k ≡ Some e → before e.to e.sender e.seq a s q ≡ true → k < rank_of a s q es

abbrev pub for_actor : {K : Type 0} → ℕ → Option (Msg K) → Option (Msg K)
for_actor a None = None
for_actor a (Some m) = cond (nat_eq m.to a) (Some m) None

-- the message with this id, if it is for actor a
abbrev pub found_for : {K : Type 0} → ℕ → MsgId → List (Msg K) → Option (Msg K)
found_for a i ms = for_actor a (find i ms)

-- the messages to a, by sender, then number
abbrev pub messages_to : {K : Type 0} → ℕ → List (Msg K) → List (Msg K)
messages_to a ms = filter (λ m. nat_eq m.to a) ms

-- the messages to actors below a
abbrev pub messages_below : {K : Type 0} → ℕ → List (Msg K) → List (Msg K)
messages_below a ms = filter (λ m. nat_lt m.to a) ms

-- by clock, then sender, then number
abbrev pub sent_before : {K : Type 0} → Msg K → Msg K → Bool
sent_before m n = before m.stamp.clock m.id.sender m.id.seq n.stamp.clock n.id.sender n.id.seq

abbrev pub sooner_of : {K : Type 0} → Msg K → Option (Msg K) → Option (Msg K)
sooner_of m None = Some m
sooner_of m (Some n) = cond (sent_before m n) (Some m) (Some n)

-- the message that was sent first
abbrev pub first_sent : {K : Type 0} → List (Msg K) → Option (Msg K)
first_sent [] = None
first_sent (m ∷ ms) = sooner_of m (first_sent ms)

-- ------------------------------------------------------------------------------ inside

abbrev pub with_some : {X : Type 0} → Option X → List X → List X
with_some None xs = xs
with_some (Some x) xs = x ∷ xs

-- the messages of the entries
abbrev pub messages_of : {K : Type 0} → List (Msg K) → List IndexEntry → List (Msg K)
messages_of slab [] = []
messages_of slab (e ∷ es) = with_some (slice_get slab e.slot) (messages_of slab es)

-- each entry has its message in the slab
abbrev pub AllOf : {K : Type 0} → List (Msg K) → List IndexEntry → Type 0
AllOf slab [] = Unit {0}
AllOf {K} slab (e ∷ es) = ((m : Msg K) × (slice_get slab e.slot ≡ Some m) × (m.to ≡ e.to) × (m.id.sender ≡ e.sender) × (m.id.seq ≡ e.seq)) × AllOf slab es

-- how many entries are of this slot
abbrev pub uses : ℕ → List IndexEntry → ℕ
uses s [] = 0
uses s (e ∷ es) = cond (nat_eq e.slot s) (suc (uses s es)) (uses s es)

-- how often a slot is free
abbrev pub spares : ℕ → List ℕ → ℕ
spares s [] = 0
spares s (t ∷ ts) = cond (nat_eq t s) (suc (spares s ts)) (spares s ts)

-- each slot is free or of one entry
pub record IsWell {K : Type 0} (entries : List IndexEntry) (slab : List (Msg K)) (free : List ℕ) (room slots frees : ℕ) : Type 0 where
  pub all_of : AllOf slab entries
  pub in_place : InPlace (messages_of slab entries)
  pub distinct : Distinct (messages_of slab entries)
  pub once : (s : ℕ) → spares s free + uses s entries ≡ cond (nat_lt s (length slab)) 1 0
  pub total : length free + length entries ≡ length slab
  pub within : length slab ≤ room
  pub slots_is : slots ≡ room
  pub frees_is : frees ≡ room
  pub small : room < 2 ^ 31

-- a message went into a slot: into one that was free, or into a new one
abbrev pub Went : {K : Type 0} → List (Msg K) → List (Msg K) → List ℕ → List ℕ → ℕ → Msg K → Type 0
Went slab slab' free free' slot m =
    ((free ≡ free' ++ slot ∷ []) × (slab' ≡ slice_set slab slot m) × (slot < length slab)) ⊎ ((free ≡ []) × (free' ≡ []) × (slot ≡ length slab) × (slab' ≡ slab ++ m ∷ []))

-- whether the entry is of this receiver and id
abbrev pub is_named : ℕ → MsgId → Option IndexEntry → Bool
is_named a i None = false
is_named a i (Some e) = nat_eq e.to a && same_id i (record { sender = e.sender; seq = e.seq })

-- where the entry of this receiver and id stands
abbrev pub place_of : ℕ → MsgId → List IndexEntry → Option ℕ
place_of a i es = cond (is_named a i (slice_get es (rank_of a i.sender i.seq es))) (Some (rank_of a i.sender i.seq es)) None

-- all free slots are of the slab
abbrev pub AllSlots : ℕ → List ℕ → Type 0
AllSlots n [] = Unit {0}
AllSlots n (t ∷ ts) = (t < n) × AllSlots n ts
