-- Pages on frames, the mover, and what each node knows of frames. A field is a column: a function of what it is asked
-- about, so that a row leaves every other column alone by computation. A message that may be in flight stands in the
-- column of its key, and a column has room for one, so no two messages have one key. L is the type of a line.
pub use Rattle.og_slots.specs.Columns.{put}
use Rattle.std.specs.Prelude.{ℕ, Bool, cond, nat_eq}

-- what a frame is for: in its home's free list; the page table's frame of the page; the frame into which the page is
-- being moved; in quarantine, since the page has left it and nodes may still name it
pub data Role : Type 0 where
  Free : Role
  Mapped : (page : ℕ) → Role
  Target : (page : ℕ) → Role
  Quarantined : (page : ℕ) → Role

-- the mover's job with its phase. A move of a page from the frame old to the frame new goes through Ask, Collect, Hold
-- and Wait for each block number and then Publish; a reclaim of a frame goes through Tell, Gather, Clean and Cleaning
pub data Job (L : Type 0) : Type 0 where
  Idle : Job L
  Ask : (page old new number : ℕ) → Job L
  Collect : (page old new number : ℕ) → Job L
  Hold : (page old new number : ℕ) (line : L) → Job L
  Wait : (page old new number : ℕ) → Job L
  Publish : (page old new : ℕ) → Job L
  Tell : (frame : ℕ) → Job L
  Gather : (frame : ℕ) → Job L
  Clean : (frame : ℕ) → Job L
  Cleaning : (frame : ℕ) → Job L

-- what is in flight between the mover and a home for the job: CopyIn and CleanFrame and their answers
pub data Command (L : Type 0) : Type 0 where
  NoCommand : Command L
  CopyIn : (line : L) → Command L
  CopyDone : Command L
  CleanFrame : Command L
  FrameClean : Command L

-- what a node's TLB has for a page
pub data TlbEntry : Type 0 where
  NoEntry : TlbEntry
  To : (frame : ℕ) → TlbEntry

-- a node's walk, from its sending to its end: asked, answered with a frame, or refused since the page is moving
pub data Walk : Type 0 where
  NoWalk : Walk
  Walking : (page : ℕ) → Walk
  Walked : (page frame : ℕ) → Walk
  WalkRetry : (page : ℕ) → Walk

-- the mover's request to a node to drop a frame, in flight or held by the node, and the node's answer
pub data Drop : Type 0 where
  NoDrop : Drop
  DropFrame : (frame : ℕ) → Drop
  Dropped : (frame : ℕ) → Drop

-- a node's request for a block, from its sending to its end
pub data Request : Type 0 where
  NoRequest : Request
  Outstanding : (page frame number : ℕ) → Request

-- the block in a node's victim slot
pub data VictimSlot : Type 0 where
  NoVictim : VictimSlot
  VictimOf : (frame number : ℕ) → VictimSlot

-- a block as the mover has it: in use; being poisoned; poisoned and collected, so that no node has a stake in it
pub data Phase : Type 0 where
  Live : Phase
  Collecting : Phase
  Dead : Phase

-- a frame's notice in flight: that it is hot, to the mover, or that it may be noticed again, to its home
pub data Notice : Type 0 where
  NoNotice : Notice
  Hot : Notice
  Rearm : Notice

pub record State (L : Type 0) : Type 0 where
  pub page_table : ℕ → ℕ  -- of a page: its frame
  pub role : ℕ → Role  -- of a frame
  pub job : Job L
  pub command : Command L
  pub tlb : ℕ → ℕ → TlbEntry  -- of a node and a page
  pub walk : ℕ → Walk  -- of a node
  pub holder : ℕ → ℕ → Bool  -- of a frame and a node: the mover has told the node this frame
  pub drop : ℕ → Drop  -- of a node
  pub request : ℕ → Request  -- of a node
  pub victim : ℕ → VictimSlot  -- of a node
  pub phase : ℕ → ℕ → Phase  -- of a frame and a block number
  pub cached : ℕ → ℕ → ℕ → Bool  -- of a frame, a number and a node: it may have a copy of the block
  pub newest : ℕ → ℕ → L  -- of a frame and a number: the line that an access to the block answers
  pub memory : ℕ → ℕ → L  -- of a page and a number: the flat memory
  pub notice : ℕ → Notice  -- of a frame
  pub noticed : ℕ → Bool  -- of a frame: its home sends no further notice

abbrev pub put_pair : {A : Type 0} → (ℕ → ℕ → A) → ℕ → ℕ → A → ℕ → ℕ → A
put_pair f x z value y w = cond (nat_eq y x) (cond (nat_eq w z) value (f y w)) (f y w)

abbrev pub put_triple : {A : Type 0} → (ℕ → ℕ → ℕ → A) → ℕ → ℕ → ℕ → A → ℕ → ℕ → ℕ → A
put_triple f x z u value y w v = cond (nat_eq y x) (cond (nat_eq w z) (cond (nat_eq v u) value (f y w v)) (f y w v)) (f y w v)
