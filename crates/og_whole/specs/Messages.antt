-- The messages in flight in the whole machine, and the key of each. Two messages in flight never have one key, so there are
-- at most as many messages as keys. The mover is the last actor, so there are nodes + 1 actors.
use Rattle.std.specs.Prelude.{◌≡◌, ℕ, ◌+◌, ◌*◌, ◌<◌, ◌≤◌, ◌≢◌, List, length}
use Rattle.og_block.specs.Message.{Message as BlockMessage, Stands as StandsInBlock, Key as BlockKey, Request_of, Answer_to, Write_back_of, Owner_of_block, Left_by, Invalidation_of, key_of as block_key}
use Rattle.og_pages.specs.State.{Command, NoCommand, Walk as WalkMessage, NoWalk, Drop as DropMessage, NoDrop, Notice as NoticeMessage, NoNotice}
use Rattle.og_slots.specs.Flight.{Fits}
use Rattle.og_whole.specs.Events.{World, Reached}

-- of block number of a frame; between the mover and a home, for its job; a node's walk, asked or answered; the mover's request
-- to a node to drop a frame, or the answer; a frame's notice, or its re-arming
pub data Message (L : Type 0) : Type 0 where
  OfBlock : (frame number : ℕ) (message : BlockMessage L) → Message L
  OfJob : (command : Command L) → Message L
  OfWalk : (node : ℕ) (walk : WalkMessage) → Message L
  OfDrop : (node : ℕ) (drop : DropMessage) → Message L
  OfNotice : (frame : ℕ) (notice : NoticeMessage) → Message L

-- the message is in flight, or was received and is still to be used, in a machine of this many nodes and frames
abbrev pub InFlight : {L : Type 0} → (nodes frames blocks : ℕ) → World L → Message L → Type 0
InFlight nodes frames blocks w (OfBlock frame number message) = (frame < frames) × (number < blocks) × StandsInBlock (nodes + 1) (w.block frame number) message
InFlight nodes frames blocks w (OfJob command) = (w.pages.command ≡ command) × (command ≢ NoCommand)
InFlight nodes frames blocks w (OfWalk node walk) = (node < nodes) × (w.pages.walk node ≡ walk) × (walk ≢ NoWalk)
InFlight nodes frames blocks w (OfDrop node drop) = (node < nodes) × (w.pages.drop node ≡ drop) × (drop ≢ NoDrop)
InFlight nodes frames blocks w (OfNotice frame notice) = (frame < frames) × (w.pages.notice frame ≡ notice) × (notice ≢ NoNotice)

-- an actor's request or the reply to it, and the mover's message to a home; the owner's answer to a node; a node's write-back
-- or its acknowledgement; an intervention that meets its block in the node's victim slot; any other message between a block's
-- owner and its home; an invalidation for a requester, or its acknowledgement; a walk; a drop request; a notice
pub data Key : Type 0 where
  Ask : (actor : ℕ) → Key
  Response : (node : ℕ) → Key
  Back : (node : ℕ) → Key
  Left : (node : ℕ) → Key
  Busy : (frame number : ℕ) → Key
  Invalidation : (requester node : ℕ) → Key
  Walk : (node : ℕ) → Key
  Drop : (node : ℕ) → Key
  Notice : (frame : ℕ) → Key

-- a node's keys don't name the block, since a node has one request and one victim slot in all
abbrev pub key_in : (frame number : ℕ) → BlockKey → Key
key_in frame number (Request_of p) = Ask p
key_in frame number (Answer_to p) = Response p
key_in frame number (Write_back_of p) = Back p
key_in frame number (Left_by p) = Left p
key_in frame number Owner_of_block = Busy frame number
key_in frame number (Invalidation_of requester p) = Invalidation requester p

-- that of an intervention goes by the receiver's victim slot in this very state: it changes while the message is in flight,
-- when the receiver throws the block out
abbrev pub key_of : {L : Type 0} → (nodes : ℕ) → World L → Message L → Key
key_of nodes w (OfBlock frame number message) = key_in frame number (block_key (w.block frame number) message)
key_of nodes w (OfJob sent) = Ask nodes
key_of nodes w (OfWalk node walk) = Walk node
key_of nodes w (OfDrop node drop) = Drop node
key_of nodes w (OfNotice frame sent) = Notice frame

-- how many keys there are: blocks * frames of Busy, frames of Notice, nodes + 1 of Ask, nodes of each of Response, Back, Left,
-- Walk and Drop, and nodes * (nodes + 1) of Invalidation
abbrev pub key_count : (nodes frames blocks : ℕ) → ℕ
key_count nodes frames blocks = blocks * frames + frames + nodes * nodes + 7 * nodes + 1

-- two messages in flight that have one key are one message
abbrev pub KeysApart : (L : Type 0) → Type 0
KeysApart L = (nodes frames pages blocks : ℕ) (w : World L) (x y : Message L) → Reached L (nodes + 1) nodes pages blocks w → InFlight nodes frames blocks w x → InFlight nodes frames blocks w y → key_of nodes w x ≡ key_of nodes w y → x ≡ y

-- so messages in flight, of which none is listed twice, are at most as many as keys
abbrev pub AtMostKeys : (L : Type 0) → Type 0
AtMostKeys L = (nodes frames pages blocks : ℕ) (w : World L) (messages : List (Message L)) → Reached L (nodes + 1) nodes pages blocks w → Fits (λ x. x) (λ x. InFlight nodes frames blocks w x) messages → length messages ≤ key_count nodes frames blocks
