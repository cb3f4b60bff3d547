-- The invariant of the page layer, part by part. Each part is about one frame, node, page or block number, and each row
-- keeps each part. Beside a part stand what it means and the race that it settles.
use Rattle.std.specs.Prelude.{◌≡◌, ℕ, ◌<◌, Bool, true, false, cond, not, nat_eq, nat_lt, ◌≢◌}
use Rattle.og_pages.specs.State.{Role, Job, Command, TlbEntry, Walk, Drop, Request, VictimSlot, Phase, Notice, Free, Mapped, Target, Quarantined, Idle, Ask, Collect, Hold, Wait, Publish, Tell, Gather, Clean, Cleaning, NoCommand, CopyIn, CopyDone, CleanFrame, FrameClean, NoEntry, To, NoWalk, Walking, Walked, WalkRetry, NoDrop, DropFrame, Dropped, NoRequest, Outstanding, NoVictim, VictimOf, Live, Collecting, Dead, NoNotice, State}
use Rattle.og_pages.specs.Rows.{is_dead}

-- ---- words

abbrev pub is_mapped : Role → Bool
is_mapped (Mapped page) = true
is_mapped role = false

abbrev pub is_quarantined : Role → Bool
is_quarantined (Quarantined page) = true
is_quarantined role = false

-- the frame is the page's, or was and is in quarantine
abbrev pub belongs_to : Role → ℕ → Bool
belongs_to (Mapped page) y = nat_eq page y
belongs_to (Quarantined page) y = nat_eq page y
belongs_to role y = false

-- nodes may name the frame
abbrev pub may_be_named : Role → Bool
may_be_named (Mapped page) = true
may_be_named (Quarantined page) = true
may_be_named role = false

-- the frame is the old one of the move
abbrev pub is_left : {L : Type 0} → Job L → ℕ → Bool
is_left (Ask page old new number) frame = nat_eq old frame
is_left (Collect page old new number) frame = nat_eq old frame
is_left (Hold page old new number line) frame = nat_eq old frame
is_left (Wait page old new number) frame = nat_eq old frame
is_left (Publish page old new) frame = nat_eq old frame
is_left job frame = false

-- the frame is the new one of the move
abbrev pub is_target : {L : Type 0} → Job L → ℕ → Bool
is_target (Ask page old new number) frame = nat_eq new frame
is_target (Collect page old new number) frame = nat_eq new frame
is_target (Hold page old new number line) frame = nat_eq new frame
is_target (Wait page old new number) frame = nat_eq new frame
is_target (Publish page old new) frame = nat_eq new frame
is_target job frame = false

abbrev pub is_copying : {L : Type 0} → Command L → Bool
is_copying (CopyIn line) = true
is_copying CopyDone = true
is_copying sent = false

abbrev pub is_cleaning : {L : Type 0} → Command L → Bool
is_cleaning CleanFrame = true
is_cleaning FrameClean = true
is_cleaning sent = false

-- the home has made the frame's blocks Unowned and has forgotten its counts
abbrev pub is_cleaned : {L : Type 0} → Job L → Command L → ℕ → Bool
is_cleaned (Cleaning frame) FrameClean other = nat_eq frame other
is_cleaned job sent other = false

-- the frame where block number of a page lives. Of a page that isn't moving it is the page table's frame. Of a moving
-- page it is the new frame for the blocks that were copied, and the old frame for the others; in Publish it is the new one
abbrev pub place : {L : Type 0} → Job L → (table_frame page number : ℕ) → ℕ
place (Ask page old new at) table_frame y number = cond (nat_eq page y) (cond (nat_lt number at) new old) table_frame
place (Collect page old new at) table_frame y number = cond (nat_eq page y) (cond (nat_lt number at) new old) table_frame
place (Hold page old new at line) table_frame y number = cond (nat_eq page y) (cond (nat_lt number at) new old) table_frame
place (Wait page old new at) table_frame y number = cond (nat_eq page y) (cond (nat_lt number at) new old) table_frame
place (Publish page old new) table_frame y number = cond (nat_eq page y) new table_frame
place job table_frame y number = table_frame

-- ---- the phase of each block, by what its frame is for and by the job

-- of a block of the page table's frame of a page
abbrev pub mapped_phase : {L : Type 0} → Job L → (frame number : ℕ) → Phase
mapped_phase (Ask page old new at) frame number = cond (nat_eq old frame) (cond (nat_lt number at) Dead Live) Live
mapped_phase (Collect page old new at) frame number = cond (nat_eq old frame) (cond (nat_lt number at) Dead (cond (nat_eq number at) Collecting Live)) Live
mapped_phase (Hold page old new at line) frame number = cond (nat_eq old frame) (cond (nat_lt at number) Live Dead) Live
mapped_phase (Wait page old new at) frame number = cond (nat_eq old frame) (cond (nat_lt at number) Live Dead) Live
mapped_phase (Publish page old new) frame number = cond (nat_eq old frame) Dead Live
mapped_phase job frame number = Live

-- of a block of the new frame of the move
abbrev pub target_phase : {L : Type 0} → Job L → Command L → (number : ℕ) → Phase
target_phase (Ask page old new at) sent number = cond (nat_lt number at) Live Dead
target_phase (Collect page old new at) sent number = cond (nat_lt number at) Live Dead
target_phase (Hold page old new at line) sent number = cond (nat_lt number at) Live Dead
target_phase (Wait page old new at) CopyDone number = cond (nat_lt at number) Dead Live
target_phase (Wait page old new at) sent number = cond (nat_lt number at) Live Dead
target_phase (Publish page old new) sent number = Live
target_phase job sent number = Dead

abbrev pub expected_phase : {L : Type 0} → Job L → Command L → Role → (frame number : ℕ) → Phase
expected_phase job sent Free frame number = Dead
expected_phase job sent (Mapped page) frame number = mapped_phase job frame number
expected_phase job sent (Target page) frame number = target_phase job sent number
expected_phase job sent (Quarantined page) frame number = Dead

-- ---- the parts

-- a frame that is a page's is the one that the page table names; a target is the move's new frame
abbrev pub Roles_by : {L : Type 0} → (pages : ℕ) → State L → (frame : ℕ) → Role → Type 0
Roles_by pages s frame (Mapped page) = (s.page_table page ≡ frame) × (page < pages)
Roles_by pages s frame (Target page) = is_target s.job frame ≡ true
Roles_by pages s frame role = Unit {0}

abbrev pub Roles : {L : Type 0} → (pages blocks : ℕ) → State L → (frame : ℕ) → Type 0
Roles pages blocks s frame = Roles_by pages s frame (s.role frame)

-- each page has a frame of its own
abbrev pub Mappings : {L : Type 0} → (pages blocks : ℕ) → State L → (page : ℕ) → Type 0
Mappings pages blocks s page = page < pages → s.role (s.page_table page) ≡ Mapped page

-- the frames of the job are what its phase needs, its block number is one of the page's, and what is in flight fits its phase
abbrev pub Jobs_by : {L : Type 0} → (blocks : ℕ) → State L → Job L → Type 0
Jobs_by blocks s Idle = s.command ≡ NoCommand
Jobs_by blocks s (Ask page old new number) = (s.role old ≡ Mapped page) × (s.role new ≡ Target page) × (number < blocks) × (s.command ≡ NoCommand)
Jobs_by blocks s (Collect page old new number) = (s.role old ≡ Mapped page) × (s.role new ≡ Target page) × (number < blocks) × (s.command ≡ NoCommand)
Jobs_by blocks s (Hold page old new number line) = (s.role old ≡ Mapped page) × (s.role new ≡ Target page) × (number < blocks) × (s.command ≡ NoCommand)
Jobs_by blocks s (Wait page old new number) = (s.role old ≡ Mapped page) × (s.role new ≡ Target page) × (number < blocks) × (is_copying s.command ≡ true)
Jobs_by blocks s (Publish page old new) = (s.role old ≡ Mapped page) × (s.role new ≡ Target page) × (s.command ≡ NoCommand)
Jobs_by blocks s (Tell frame) = (is_quarantined (s.role frame) ≡ true) × (s.command ≡ NoCommand)
Jobs_by blocks s (Gather frame) = (is_quarantined (s.role frame) ≡ true) × (s.command ≡ NoCommand)
Jobs_by blocks s (Clean frame) = (is_quarantined (s.role frame) ≡ true) × (s.command ≡ NoCommand)
Jobs_by blocks s (Cleaning frame) = (is_quarantined (s.role frame) ≡ true) × (is_cleaning s.command ≡ true)

abbrev pub Jobs : {L : Type 0} → (pages blocks : ℕ) → State L → Type 0
Jobs pages blocks s = Jobs_by blocks s s.job

-- what a block is to the mover follows from its frame's role and the job: so the blocks of free frames, of frames in
-- quarantine and the ones that were collected are dead, and a fill or a store for one finds no copy and no answer
abbrev pub Phases : {L : Type 0} → (pages blocks : ℕ) → State L → (frame number : ℕ) → Type 0
Phases pages blocks s frame number = number < blocks → s.phase frame number ≡ expected_phase s.job s.command (s.role frame) frame number

-- a frame that a node names for a page is or was that page's, and the node is a holder of it
abbrev pub Named : {L : Type 0} → State L → (node page frame : ℕ) → Type 0
Named s node page frame = (belongs_to (s.role frame) page ≡ true) × (s.holder frame node ≡ true)

-- so it is with a TLB entry: an access through a stale entry meets a frame of its own page, whose blocks are dead
abbrev pub Entries_by : {L : Type 0} → State L → (node page : ℕ) → TlbEntry → Type 0
Entries_by s node page NoEntry = Unit {0}
Entries_by s node page (To frame) = Named s node page frame

abbrev pub Entries : {L : Type 0} → (pages blocks : ℕ) → State L → (node page : ℕ) → Type 0
Entries pages blocks s node page = Entries_by s node page (s.tlb node page)

-- and with the answer to a walk, which may be overtaken by the page's move; and a walk is for a page that has a frame
abbrev pub Walks_by : {L : Type 0} → (pages : ℕ) → State L → (node : ℕ) → Walk → Type 0
Walks_by pages s node NoWalk = Unit {0}
Walks_by pages s node (Walking page) = page < pages
Walks_by pages s node (Walked page frame) = Named s node page frame
Walks_by pages s node (WalkRetry page) = page < pages

abbrev pub Walks : {L : Type 0} → (pages blocks : ℕ) → State L → (node : ℕ) → Type 0
Walks pages blocks s node = Walks_by pages s node (s.walk node)

-- a node that walks has no request outstanding, and its TLB lacks the page: so the answer fills a page that stands in no slot
abbrev pub Walkers_by : {L : Type 0} → State L → (node : ℕ) → Walk → Type 0
Walkers_by s node NoWalk = Unit {0}
Walkers_by s node (Walking page) = (s.request node ≡ NoRequest) × (s.tlb node page ≡ NoEntry)
Walkers_by s node (Walked page frame) = (s.request node ≡ NoRequest) × (s.tlb node page ≡ NoEntry)
Walkers_by s node (WalkRetry page) = (s.request node ≡ NoRequest) × (s.tlb node page ≡ NoEntry)

abbrev pub Walkers : {L : Type 0} → (pages blocks : ℕ) → State L → (node : ℕ) → Type 0
Walkers pages blocks s node = Walkers_by s node (s.walk node)

-- a request too is for a frame that is or was its page's, and is of a holder: one that reaches its home after the block was
-- poisoned is answered by an error and ends
abbrev pub Requests_by : {L : Type 0} → (blocks : ℕ) → State L → (node : ℕ) → Request → Type 0
Requests_by blocks s node NoRequest = Unit {0}
Requests_by blocks s node (Outstanding page frame number) = (belongs_to (s.role frame) page ≡ true) × (s.holder frame node ≡ true) × (number < blocks)

abbrev pub Requests : {L : Type 0} → (pages blocks : ℕ) → State L → (node : ℕ) → Type 0
Requests pages blocks s node = Requests_by blocks s node (s.request node)

-- a victim slot holds a block of a frame of which the node is a holder: so a reclaim waits for the slot
abbrev pub Victims_by : {L : Type 0} → State L → (node : ℕ) → VictimSlot → Type 0
Victims_by s node NoVictim = Unit {0}
Victims_by s node (VictimOf frame number) = s.holder frame node ≡ true

abbrev pub Victims : {L : Type 0} → (pages blocks : ℕ) → State L → (node : ℕ) → Type 0
Victims pages blocks s node = Victims_by s node (s.victim node)

-- only a page's frame, or one in quarantine, has holders: a free frame and a target have none
abbrev pub Holders : {L : Type 0} → (pages blocks : ℕ) → State L → (frame node : ℕ) → Type 0
Holders pages blocks s frame node = s.holder frame node ≡ true → may_be_named (s.role frame) ≡ true

-- a copy is at a holder, and of a block that isn't dead: after its collection no node has one
abbrev pub Copies : {L : Type 0} → (pages blocks : ℕ) → State L → (frame number node : ℕ) → Type 0
Copies pages blocks s frame number node = s.cached frame number node ≡ true → (s.holder frame node ≡ true) × (is_dead (s.phase frame number) ≡ false) × (number < blocks)

-- a request to drop a frame, or its answer, belongs to the gathering of that frame, and the node is still a holder: so none is
-- left over when the next reclaim begins
abbrev pub Drops_by : {L : Type 0} → State L → (node : ℕ) → Drop → Type 0
Drops_by s node NoDrop = Unit {0}
Drops_by s node (DropFrame frame) = (s.job ≡ Gather frame) × (s.holder frame node ≡ true)
Drops_by s node (Dropped frame) = (s.job ≡ Gather frame) × (s.holder frame node ≡ true)

abbrev pub Drops : {L : Type 0} → (pages blocks : ℕ) → State L → (node : ℕ) → Type 0
Drops pages blocks s node = Drops_by s node (s.drop node)

-- once a node has answered, its TLB doesn't name the frame, and comes to name no frame in quarantine any more
abbrev pub Dropped_entries_by : Drop → TlbEntry → Type 0
Dropped_entries_by (Dropped frame) (To other) = frame ≢ other
Dropped_entries_by drop entry = Unit {0}

abbrev pub Dropped_entries : {L : Type 0} → (pages blocks : ℕ) → State L → (node page : ℕ) → Type 0
Dropped_entries pages blocks s node page = Dropped_entries_by (s.drop node) (s.tlb node page)

abbrev pub spares_walk : ℕ → Walk → Bool
spares_walk frame (Walked page other) = not (nat_eq frame other)
spares_walk frame walk = true

abbrev pub spares_request : ℕ → Request → Bool
spares_request frame (Outstanding page other number) = not (nat_eq frame other)
spares_request frame wanted = true

abbrev pub spares_victim : ℕ → VictimSlot → Bool
spares_victim frame (VictimOf other number) = not (nat_eq frame other)
spares_victim frame slot = true

-- nor do its walk, its request and its victim slot: what it begins after its answer is for other frames
abbrev pub Dropped_rest_by : {L : Type 0} → State L → (node : ℕ) → Drop → Type 0
Dropped_rest_by s node (Dropped frame) = (spares_walk frame (s.walk node) ≡ true) × (spares_request frame (s.request node) ≡ true) × (spares_victim frame (s.victim node) ≡ true)
Dropped_rest_by s node drop = Unit {0}

abbrev pub Dropped_rest : {L : Type 0} → (pages blocks : ℕ) → State L → (node : ℕ) → Type 0
Dropped_rest pages blocks s node = Dropped_rest_by s node (s.drop node)

abbrev pub is_asked_to_drop : Drop → ℕ → Bool
is_asked_to_drop NoDrop frame = false
is_asked_to_drop (DropFrame other) frame = nat_eq other frame
is_asked_to_drop (Dropped other) frame = nat_eq other frame

-- while a frame is gathered its holders are the nodes that were asked and whose answers haven't come; afterwards it has
-- none, so it is named by nothing when it is free
abbrev pub Gathering_by : {L : Type 0} → State L → (node : ℕ) → Job L → Type 0
Gathering_by s node (Gather frame) = s.holder frame node ≡ is_asked_to_drop (s.drop node) frame
Gathering_by s node (Clean frame) = s.holder frame node ≡ false
Gathering_by s node (Cleaning frame) = s.holder frame node ≡ false
Gathering_by s node job = Unit {0}

abbrev pub Gathering : {L : Type 0} → (pages blocks : ℕ) → State L → (node : ℕ) → Type 0
Gathering pages blocks s node = Gathering_by s node s.job

-- the line that the mover holds, and the one that a copy carries or has left, is the page's: no store overtakes a copy
abbrev pub Lines_by : {L : Type 0} → State L → Job L → Command L → Type 0
Lines_by s (Hold page old new number line) sent = line ≡ s.memory page number
Lines_by s (Wait page old new number) (CopyIn line) = line ≡ s.memory page number
Lines_by s (Wait page old new number) CopyDone = s.newest new number ≡ s.memory page number
Lines_by s job sent = Unit {0}

abbrev pub Lines : {L : Type 0} → (pages blocks : ℕ) → State L → Type 0
Lines pages blocks s = Lines_by s s.job s.command

-- the block where a page's block lives has the page's line
abbrev pub Held : {L : Type 0} → (pages blocks : ℕ) → State L → (page number : ℕ) → Type 0
Held pages blocks s page number = page < pages → number < blocks → s.newest (place s.job (s.page_table page) page number) number ≡ s.memory page number

abbrev pub has_notice : Notice → Bool
has_notice NoNotice = false
has_notice sent = true

-- the frame is noticed and no notice of it is in flight: it is being left, or is in quarantine and not cleaned
abbrev pub stays_noticed : {L : Type 0} → Role → Job L → Command L → (frame : ℕ) → Bool
stays_noticed (Mapped page) job sent frame = is_left job frame
stays_noticed (Quarantined page) job sent frame = not (is_cleaned job sent frame)
stays_noticed role job sent frame = false

-- a home sends no notice of a frame while one is open; a notice in flight names a frame with a page that isn't moving
abbrev pub Notices : {L : Type 0} → (pages blocks : ℕ) → State L → (frame : ℕ) → Type 0
Notices pages blocks s frame = (s.noticed frame ≡ cond (has_notice (s.notice frame)) true (stays_noticed (s.role frame) s.job s.command frame)) × (has_notice (s.notice frame) ≡ true → (is_mapped (s.role frame) ≡ true) × (is_left s.job frame ≡ false))

pub record Invariant (L : Type 0) (pages blocks : ℕ) (s : State L) : Type 0 where
  pub roles : (frame : ℕ) → Roles pages blocks s frame
  pub mappings : (page : ℕ) → Mappings pages blocks s page
  pub jobs : Jobs pages blocks s
  pub phases : (frame number : ℕ) → Phases pages blocks s frame number
  pub entries : (node page : ℕ) → Entries pages blocks s node page
  pub walks : (node : ℕ) → Walks pages blocks s node
  pub walkers : (node : ℕ) → Walkers pages blocks s node
  pub requests : (node : ℕ) → Requests pages blocks s node
  pub victims : (node : ℕ) → Victims pages blocks s node
  pub holders : (frame node : ℕ) → Holders pages blocks s frame node
  pub copies : (frame number node : ℕ) → Copies pages blocks s frame number node
  pub drops : (node : ℕ) → Drops pages blocks s node
  pub dropped_entries : (node page : ℕ) → Dropped_entries pages blocks s node page
  pub dropped_rest : (node : ℕ) → Dropped_rest pages blocks s node
  pub gathering : (node : ℕ) → Gathering pages blocks s node
  pub lines : Lines pages blocks s
  pub held : (page number : ℕ) → Held pages blocks s page number
  pub notices : (frame : ℕ) → Notices pages blocks s frame
