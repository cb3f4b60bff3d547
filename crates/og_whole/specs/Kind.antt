-- What the page layer sees of a block and of the block's rows. Of a block it sees the phase, who has something outstanding
-- for it, whose victim slot holds it and who has a copy; a row it sees by its kind.
use Rattle.std.specs.Prelude.{◌≡◌, ℕ, Bool, true, false, cond, nat_eq, ◌≢◌}
use Rattle.og_block.specs.State.{Copy, NoCopy, Want, Idle, Poisoning, Victim, Free, Entry, PoisonBy, Sharing, Block, start}
use Rattle.og_block.specs.Rows.{Row, Send_read, Send_read_exclusive, Send_upgrade, Load_shared, Load_clean, Load_dirty, Store, Evict, Fill_shared, Again_shared, Fill_clean, Fill_shared_answered, Fill_shared_speculative, Again_speculative, Fill_exclusive, Fill_exclusive_answered, Fill_exclusive_speculative, Fill_upgrade, Fill_upgrade_line, Again_refused, Again_upgrade_refused, Intervention_victim_busy, Write_back_ack, Write_back_busy_ack_seen, Send_poison_read, Poison_collected, Poisoned, Copy_in}
use Rattle.og_pages.specs.State.{Live, Collecting, Dead, Phase}
use Rattle.og_pages.specs.Rows.{is_dead}

-- a load that hits; a store that hits; a request goes out; it ends with a copy and a load, or with a copy and a store; it
-- ends without a copy; a dirty copy goes to the victim slot; the slot is free again; the mover asks to poison the block; it
-- has the block's line; a copy makes the block anew; what the page layer doesn't see
pub data Kind (L : Type 0) : Type 0 where
  Loads : (node : ℕ) → Kind L
  Stores : (node : ℕ) (line : L) → Kind L
  Sends : (node : ℕ) → Kind L
  Fills : (node : ℕ) → Kind L
  Fills_store : (node : ℕ) (line : L) → Kind L
  Ends : (actor : ℕ) → Kind L
  Evicts : (node : ℕ) → Kind L
  Settles : (node : ℕ) → Kind L
  Poisons : (mover : ℕ) → Kind L
  Collects : (mover : ℕ) (line : L) → Kind L
  Copies : (mover : ℕ) (line : L) → Kind L
  Inner : Kind L

abbrev pub kind : {L : Type 0} → Row L → Kind L
kind (Send_read p) = Sends p
kind (Send_read_exclusive p) = Sends p
kind (Send_upgrade p l) = Sends p
kind (Load_shared p l) = Loads p
kind (Load_clean p l) = Loads p
kind (Load_dirty p l) = Loads p
kind (Store p v l) = Stores p v
kind (Evict p l) = Evicts p
kind (Fill_shared p l) = Fills p
kind (Again_shared p l) = Ends p
kind (Fill_clean p l m) = Fills p
kind (Fill_shared_answered p l m) = Fills p
kind (Fill_shared_speculative p m) = Fills p
kind (Again_speculative p m) = Ends p
kind (Fill_exclusive p v l d) = Fills_store p v
kind (Fill_exclusive_answered p v m l) = Fills_store p v
kind (Fill_exclusive_speculative p v m) = Fills_store p v
kind (Fill_upgrade p v l d) = Fills_store p v
kind (Fill_upgrade_line p v l d) = Fills_store p v
kind (Again_refused p) = Ends p
kind (Again_upgrade_refused p) = Ends p
kind (Intervention_victim_busy p) = Settles p
kind (Write_back_ack p) = Settles p
kind (Write_back_busy_ack_seen p) = Settles p
kind (Send_poison_read p) = Poisons p
kind (Poison_collected p l d) = Collects p l
kind (Poisoned p) = Ends p
kind (Copy_in p v) = Copies p v
kind r = Inner

-- ---- what is seen of a block

-- while the mover poisons a block it is being collected; afterwards it stays the mover's, and dead, until a copy comes in
abbrev pub phase_by : Want → Entry → Phase
phase_by Poisoning entry = Collecting
phase_by Idle (PoisonBy p) = Dead
phase_by want entry = Live

abbrev pub phase_of : {L : Type 0} → (mover : ℕ) → Block L → Phase
phase_of mover b = phase_by (b.want mover) b.entry

abbrev pub is_idle : Want → Bool
is_idle Idle = true
is_idle want = false

abbrev pub is_taken : Victim → Bool
is_taken Free = false
is_taken slot = true

abbrev pub has_copy : {L : Type 0} → Copy L → Bool
has_copy NoCopy = false
has_copy copy = true

-- a block of a free frame: the mover's since its frame's last use
abbrev pub fresh : {L : Type 0} → Sharing → (mover : ℕ) → L → Block L
fresh sharing mover line = record (start sharing line) { entry = PoisonBy mover }

-- ---- how a kind changes what is seen

abbrev pub phase_after : {L : Type 0} → (mover : ℕ) → Kind L → Phase → Phase
phase_after mover (Poisons p) phase = Collecting
phase_after mover (Collects p line) phase = Dead
phase_after mover (Copies p line) phase = Live
phase_after mover (Ends p) phase = cond (nat_eq p mover) Live phase
phase_after mover d phase = phase

abbrev pub idle_after : {L : Type 0} → Kind L → (node : ℕ) → Bool → Bool
idle_after (Sends p) q idle = cond (nat_eq q p) false idle
idle_after (Poisons p) q idle = cond (nat_eq q p) false idle
idle_after (Fills p) q idle = cond (nat_eq q p) true idle
idle_after (Fills_store p line) q idle = cond (nat_eq q p) true idle
idle_after (Ends p) q idle = cond (nat_eq q p) true idle
idle_after (Collects p line) q idle = cond (nat_eq q p) true idle
idle_after d q idle = idle

abbrev pub taken_after : {L : Type 0} → Kind L → (node : ℕ) → Bool → Bool
taken_after (Evicts p) q taken = cond (nat_eq q p) true taken
taken_after (Settles p) q taken = cond (nat_eq q p) false taken
taken_after d q taken = taken

-- a bound on the copies: only a fill makes one, and after a collection there is none
abbrev pub copy_after : {L : Type 0} → Kind L → (node : ℕ) → Bool → Bool
copy_after (Fills p) q copy = cond (nat_eq q p) true copy
copy_after (Fills_store p line) q copy = cond (nat_eq q p) true copy
copy_after (Evicts p) q copy = cond (nat_eq q p) false copy
copy_after (Collects p line) q copy = false
copy_after d q copy = copy

-- the newest line of the block
abbrev pub newest_after : {L : Type 0} → Kind L → L → L
newest_after (Stores p line) newest = line
newest_after (Fills_store p line) newest = line
newest_after (Copies p line) newest = line
newest_after d newest = newest

-- ---- what a row of a kind finds in the block, whose newest line is newest

abbrev pub Finds : {L : Type 0} → (mover : ℕ) → (newest : L) → Kind L → Block L → Type 0
Finds mover newest (Loads p) b = (has_copy (b.copy p) ≡ true) × (p ≢ mover)
Finds mover newest (Stores p line) b = (has_copy (b.copy p) ≡ true) × (p ≢ mover)
Finds mover newest (Evicts p) b = (has_copy (b.copy p) ≡ true) × (p ≢ mover)
Finds mover newest (Settles p) b = (is_taken (b.victim p) ≡ true) × (p ≢ mover)
Finds mover newest (Fills p) b = (is_dead (phase_of mover b) ≡ false) × (p ≢ mover)
Finds mover newest (Fills_store p line) b = (is_dead (phase_of mover b) ≡ false) × (p ≢ mover)
Finds mover newest (Collects p line) b = (line ≡ newest) × (p ≡ mover)
Finds mover newest d b = Unit {0}

-- an act of a node or of the mover, or a copy, which the page layer begins; every other row takes a message of the block, or
-- throws a clean copy out
abbrev pub is_act : {L : Type 0} → Kind L → Bool
is_act (Loads p) = true
is_act (Stores p line) = true
is_act (Sends p) = true
is_act (Evicts p) = true
is_act (Poisons p) = true
is_act (Copies p line) = true
is_act d = false
