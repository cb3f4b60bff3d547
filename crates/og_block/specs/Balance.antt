-- What balances in every state, and what the tables' conditions rest on: each call that handles a message of this block
-- finds what it asks for.
use Rattle.std.specs.Prelude.{◌≡◌, ℕ, ◌+◌, ◌<◌, Bool, true, false, cond, ◌≢◌}
use Rattle.og_block.specs.State.{NoCopy, Idle, Upgrading, Ask, NoAsk, SpeculativeReply, ExclusiveReply, UpgradeReply, PoisonReply, NoResponse, Back, WriteBackAck, WriteBackBusyAck, Victim, Free, Taken, Busy, Seen, Invalidate, InvalidateAck, Exclusive, BusyPoison, PoisonWait, Block}
use Rattle.og_block.specs.Rows.{has_exclusive, has_response, has_intervention}
use Rattle.og_block.specs.Invariant.{Fits_ask, Revised}
use Rattle.og_block.specs.Views.{is_holder, is_asked, awaits_shared, awaits_exclusive, is_write_back, is_shared, is_upgrade, grants, pending}

abbrev pub number : Bool → ℕ
number t = cond t 1 0

abbrev pub is_taken : Victim → Bool
is_taken Free = false
is_taken v = true

abbrev pub is_victim_busy : Victim → Bool
is_victim_busy Busy = true
is_victim_busy v = false

abbrev pub is_victim_seen : Victim → Bool
is_victim_seen Seen = true
is_victim_seen v = false

module _ {L : Type 0} where
  abbrev pub is_speculative : Ask L → Bool
  is_speculative (SpeculativeReply l) = true
  is_speculative a = false

  abbrev pub is_ack : Back L → Bool
  is_ack WriteBackAck = true
  is_ack k = false

  abbrev pub is_busy_ack : Back L → Bool
  is_busy_ack WriteBackBusyAck = true
  is_busy_ack k = false

  -- the acknowledgements that a reply names
  abbrev pub due : Ask L → ℕ
  due (ExclusiveReply l d) = d
  due (UpgradeReply d) = d
  due (PoisonReply l d) = d
  due a = 0

  pub record Balanced (n : ℕ) (b : Block L) (q : ℕ) : Type 0 where
    -- speculative replies: for each there is the owner's response, or an entry that waits for the owner
    pub replies : number (is_speculative (b.ask q)) ≡ number (has_response (b.response q)) + number (awaits_shared b.entry b.revision q) + number (awaits_exclusive b.entry b.revision q)
    -- acknowledgements: on their way, or there, they are as many as the reply names
    pub acknowledgements : pending n b q + b.acks q ≡ due (b.ask q)
    -- the victim slot: taken while its write-back, one of its acknowledgements, or the ignored intervention is under way
    pub victims : number (is_taken (b.victim q)) ≡ number (is_write_back (b.back q)) + number (is_ack (b.back q)) + number (is_busy_ack (b.back q)) + number (is_victim_busy (b.victim q))
    -- interventions: under way or seen by the victim slot, they are for a busy entry's owner, or for the slot to ignore
    pub interventions : number (has_intervention (b.intervention q)) + number (is_victim_seen (b.victim q)) ≡ number (is_asked b.entry b.revision q) + number (is_busy_ack (b.back q)) + number (is_victim_busy (b.victim q))

  -- what a message finds at its receiver q, or what a request of q finds
  pub record Finds_ready (n : ℕ) (b : Block L) (q : ℕ) : Type 0 where
    -- a reply, and a response, belong to an outstanding request
    pub reply : b.ask q ≢ NoAsk → b.want q ≢ Idle
    pub response : b.response q ≢ NoResponse → is_speculative (b.ask q) ≡ true
    -- what is outstanding has the line of the home's memory, while it waits for the owner
    pub speculative : (l : L) → b.ask q ≡ SpeculativeReply l → b.response q ≡ NoResponse → l ≡ b.line
    -- a request has no copy beside it, but the shared one that it upgrades, and no victim
    pub fill : b.want q ≢ Idle → (is_shared (b.copy q) ≡ false → b.copy q ≡ NoCopy) × (b.want q ≢ Upgrading → b.copy q ≡ NoCopy) × (b.victim q ≡ Free)
    -- an upgrade never meets the owner's entry; and where it is granted without a line, it finds its shared copy
    pub upgrade : is_upgrade (b.ask q) ≡ true → b.entry ≢ Exclusive q
    pub upgraded : (d : ℕ) → b.ask q ≡ UpgradeReply d → is_shared (b.copy q) ≡ true
    -- an invalidation meets no copy that may be written
    pub invalidate : (r : ℕ) → b.invalidation q ≡ Invalidate r → (has_exclusive (b.copy q) ≡ false) × (r < n) × (r ≢ q)
    -- an acknowledgement meets a requester that waits for one more
    pub acknowledge : (r : ℕ) → b.invalidation q ≡ InvalidateAck r → (r < n) × (grants (b.ask r) ≡ true) × (b.acks r < due (b.ask r))
    -- an intervention that is answered meets no shared copy
    pub intervene : has_intervention (b.intervention q) ≡ true → b.victim q ≡ Free → b.want q ≡ Idle → is_shared (b.copy q) ≡ false
    -- an acknowledgement of a write-back meets its slot
    pub acknowledged : is_ack (b.back q) ≡ true → b.victim q ≡ Taken
    pub busy_acknowledged : is_busy_ack (b.back q) ≡ true → (is_taken (b.victim q) ≡ true) × (is_victim_busy (b.victim q) ≡ false)
    -- a write-back is from the holder
    pub write_back : is_write_back (b.back q) ≡ true → is_holder b.entry b.revision q ≡ true
    -- the reply, the owner's response and the acknowledgements are of the kinds that the request waits for
    pub parts : Fits_ask (b.want q) (b.ask q) (b.response q) (b.acks q)
    -- the owner's message to the home is from the owner that a busy entry names, and of that entry's kind
    pub revision : Revised b.entry b.revision
    -- while the home waits for the owner on the mover's behalf, no message of the mover's request stands
    pub poison : (owner : ℕ) → b.entry ≡ BusyPoison owner q → b.ask q ≡ PoisonWait
