-- The messages of one block, in flight or held; the keys under which they are charged; and what it means that a message
-- has its row.
use Rattle.std.specs.Prelude.{◌≡◌, ℕ, ◌+◌, ◌*◌, ◌<◌, ◌≤◌, Bool, true, false, ◌≢◌, ◌⊎◌, List, length}
use Rattle.og_slots.specs.Flight.{Fits}
use Rattle.og_block.specs.State.{Idle, Ask, NoAsk, SpeculativeReply, ExclusiveReply, UpgradeReply, PoisonWait, PoisonReply, Response, NoResponse, Back, NoBack, Victim, Free, Intervention, NoIntervention, Invalidation, NoInvalidation, Invalidate, InvalidateAck, Revision, NoRevision, Block}
use Rattle.og_block.specs.Rows.{Row, guard, apply, actor_of}

-- a message, by the place where it stands: a node's request or the reply to it; an answer to it by the owner; a write-back
-- or its acknowledgement; the owner's message to the home; an intervention; an invalidation or its acknowledgement
pub data Message (L : Type 0) : Type 0 where
  Asked : (node : ℕ) (content : Ask L) → Message L
  Answered : (node : ℕ) (content : Response L) → Message L
  Returned : (node : ℕ) (content : Back L) → Message L
  Revised : (content : Revision L) → Message L
  Intervened : (node : ℕ) (content : Intervention) → Message L
  Invalidated : (node : ℕ) (content : Invalidation) → Message L

-- one request, one answer and one write-back for each node, with what replies to it; one invalidation for each pair of
-- requester and sharer; one message between home and owner for the block, but an intervention that meets the block in
-- its receiver's victim slot is charged to that node
pub data Key : Type 0 where
  Request_of : (node : ℕ) → Key
  Answer_to : (node : ℕ) → Key
  Write_back_of : (node : ℕ) → Key
  Owner_of_block : Key
  Left_by : (node : ℕ) → Key
  Invalidation_of : (requester sharer : ℕ) → Key

abbrev pub intervention_key : Victim → ℕ → Key
intervention_key Free q = Owner_of_block
intervention_key v q = Left_by q

abbrev pub invalidation_key : ℕ → Invalidation → Key
invalidation_key q (Invalidate r) = Invalidation_of r q
invalidation_key q (InvalidateAck r) = Invalidation_of r q
invalidation_key q NoInvalidation = Invalidation_of q q

module _ {L : Type 0} where
  abbrev pub is_sent : Ask L → Bool
  is_sent NoAsk = false
  is_sent PoisonWait = false
  is_sent a = true

  -- the message is in flight, or was received and is still to be used
  abbrev pub Stands : ℕ → Block L → Message L → Type 0
  Stands n b (Asked q a) = (q < n) × (b.ask q ≡ a) × (is_sent a ≡ true)
  Stands n b (Answered q r) = (q < n) × (b.response q ≡ r) × (r ≢ NoResponse)
  Stands n b (Returned q k) = (q < n) × (b.back q ≡ k) × (k ≢ NoBack)
  Stands n b (Revised v) = (b.revision ≡ v) × (v ≢ NoRevision)
  Stands n b (Intervened q i) = (q < n) × (b.intervention q ≡ i) × (i ≢ NoIntervention)
  Stands n b (Invalidated q i) = (q < n) × (b.invalidation q ≡ i) × (i ≢ NoInvalidation)

  -- of an intervention by its receiver's victim slot in this very state
  abbrev pub key_of : Block L → Message L → Key
  key_of b (Asked q a) = Request_of q
  key_of b (Answered q r) = Answer_to q
  key_of b (Returned q k) = Write_back_of q
  key_of b (Revised v) = Owner_of_block
  key_of b (Intervened q i) = intervention_key (b.victim q) q
  key_of b (Invalidated q i) = invalidation_key q i

  -- a row may be taken now that takes the message from its place
  pub record MeetsRow (n : ℕ) (b : Block L) (m : Message L) : Type 0 where
    pub row : Row L
    pub may : guard row b
    pub inside : actor_of row < n
    pub taken : ¬ Stands n (apply n row b) m

  -- what was received waits for the other parts of its request; an intervention is held while its node has a request out
  abbrev pub MayWait : Block L → Message L → Type 0
  MayWait b (Asked q (SpeculativeReply l)) = b.response q ≡ NoResponse
  MayWait b (Asked q (ExclusiveReply l d)) = b.acks q < d
  MayWait b (Asked q (UpgradeReply d)) = b.acks q < d
  MayWait b (Asked q (PoisonReply l d)) = b.acks q < d
  MayWait b (Intervened q i) = b.want q ≢ Idle
  MayWait b m = ⊥

  -- no message is ever met without a row
  abbrev pub Served : ℕ → Block L → Type 0
  Served n b = (m : Message L) → Stands n b m → MeetsRow n b m ⊎ MayWait b m

  -- different messages have different keys, and there are at most five for each actor and one for the home
  abbrev pub DistinctCharges : ℕ → Block L → Type 0
  DistinctCharges n b = (ms : List (Message L)) → Fits (λ m. m) (Stands n b) ms → Fits (key_of b) (Stands n b) ms × (length ms ≤ 5 * n + 1)
