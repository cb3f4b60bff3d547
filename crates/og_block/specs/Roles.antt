-- Who plays which part: one actor m is the mover, and the others are nodes. The mover asks for a block only to poison it,
-- and not where it has poisoned it; a node never poisons; and no node shares a bit with the mover, which has none.
use Rattle.std.specs.Prelude.{◌≡◌, ℕ, ◌<◌, Bool, true, false, ◌≢◌, List, [], ◌∷◌}
use Rattle.og_block.specs.State.{NoCopy, Want, Idle, Poisoning, Ask, PoisonReply, Free, NoIntervention, NoInvalidation, Entry, Unowned, SharedBy, Exclusive, BusyShared, BusyExclusive, BusyPoison, PoisonBy, Sharing, Block, is_same}
use Rattle.og_block.specs.Rows.{Row, guard, apply, actor_of, Send_read, Send_read_exclusive, Send_upgrade, Send_poison_read, Copy_in}

abbrev pub is_poison : Entry → Bool
is_poison (PoisonBy p) = true
is_poison e = false

abbrev pub is_poisoning : Want → Bool
is_poisoning Poisoning = true
is_poisoning w = false

abbrev pub is_mover_want : Want → Bool
is_mover_want Idle = true
is_mover_want Poisoning = true
is_mover_want w = false

-- the mover's bit is its own
abbrev pub OwnBit : Sharing → ℕ → Type 0
OwnBit k m = (q : ℕ) → is_same k m q ≡ true → q ≡ m

-- the mover is neither owner nor sharer, and alone poisons
abbrev pub Ends_by : ℕ → Entry → Type 0
Ends_by m Unowned = Unit {0}
Ends_by m (SharedBy s) = s m ≡ false
Ends_by m (Exclusive o) = o ≢ m
Ends_by m (BusyShared o p) = (o ≢ m) × (p ≢ m)
Ends_by m (BusyExclusive o p r) = (o ≢ m) × (p ≢ m)
Ends_by m (BusyPoison o p) = (o ≢ m) × (p ≡ m)
Ends_by m (PoisonBy p) = p ≡ m

module _ {L : Type 0} where
  abbrev pub is_poison_reply : Ask L → Bool
  is_poison_reply (PoisonReply l d) = true
  is_poison_reply a = false

  -- the mover has nothing of a node
  abbrev pub Mover : ℕ → Block L → Type 0
  Mover m b = (b.copy m ≡ NoCopy) × (b.victim m ≡ Free) × (b.intervention m ≡ NoIntervention) × (b.invalidation m ≡ NoInvalidation) × (is_mover_want (b.want m) ≡ true)

  abbrev pub Plain : ℕ → Block L → ℕ → Type 0
  Plain m b q = q ≢ m → is_poisoning (b.want q) ≡ false

  -- while the mover waits, the block is poisoned only by its own reply
  abbrev pub Reply : ℕ → Block L → Type 0
  Reply m b = is_poison b.entry ≡ true → b.want m ≡ Poisoning → is_poison_reply (b.ask m) ≡ true

  pub record Roles (n m : ℕ) (b : Block L) : Type 0 where
    pub mover : Mover m b
    pub plain : (q : ℕ) → q < n → Plain m b q
    pub ends : Ends_by m b.entry
    pub reply : Reply m b
    pub bit : OwnBit b.sharing m

  -- what the parts add to the guards
  abbrev pub Allowed : ℕ → Row L → Block L → Type 0
  Allowed m (Send_read p) b = p ≢ m
  Allowed m (Send_read_exclusive p) b = p ≢ m
  Allowed m (Send_upgrade p l) b = p ≢ m
  Allowed m (Send_poison_read p) b = (p ≡ m) × (is_poison b.entry ≡ false)
  Allowed m (Copy_in p v) b = p ≡ m
  Allowed m r b = Unit {0}

  -- a run in which each plays its part
  abbrev pub Plays : ℕ → ℕ → Block L → List (Row L) → Block L → Type 0
  Plays n m b [] c = b ≡ c
  Plays n m b (r ∷ rs) c = guard r b × (actor_of r < n) × Allowed m r b × Plays n m (apply n r b) rs c
