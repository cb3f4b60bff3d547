-- The rows of the page layer: what may happen, when, and what it does.
--
-- Where one event of the machine does two things it is two rows, one after the other. A guard is the table's condition or
-- less, so that the rows allow at least the machine's runs. The rows that concern a block as well (a hit, a request, a
-- fill, a victim, the poisoning and the copying of a block) are made together with the block's own rows.
use Rattle.std.specs.Prelude.{◌≡◌, ℕ, ◌+◌, ◌<◌, Bool, true, false, cond, nat_eq}
use Rattle.og_pages.specs.State.{Job, TlbEntry, Phase, Free, Mapped, Target, Quarantined, Idle, Ask, Collect, Hold, Wait, Publish, Tell, Gather, Clean, Cleaning, NoCommand, CopyIn, CopyDone, CleanFrame, FrameClean, NoEntry, To, NoWalk, Walking, Walked, WalkRetry, NoDrop, DropFrame, Dropped, NoRequest, Outstanding, NoVictim, VictimOf, Live, Collecting, Dead, NoNotice, Hot, Rearm, State, put, put_pair, put_triple}

pub data Row (L : Type 0) : Type 0 where
  -- a node's act whose access is on a page that its TLB lacks: it asks the mover for the page's frame
  Walk_send : (node page : ℕ) → Row L
  -- the mover, of a page that isn't moving: it answers with the page table's frame and records the node as a holder of it
  Walk_answer : (node page frame : ℕ) → Row L
  -- the mover, of a page that is moving: the node has to ask again
  Walk_refuse : (node page : ℕ) → Row L
  -- the node fills its TLB with the answer, which ends the walk
  Walk_fill : (node page frame : ℕ) → Row L
  -- a refusal ends the walk and changes nothing else
  Walk_retry : (node page : ℕ) → Row L
  -- a node's TLB loses an entry, as the entry of the slot that a fill takes
  Tlb_forget : (node page : ℕ) → Row L
  -- an act that hits a copy: a load, or an access that stores and leaves the line
  Load_hit : (node page frame number : ℕ) → Row L
  Store_hit : (node page frame number : ℕ) (line : L) → Row L
  -- an act that misses: the request for the block goes out
  Request_send : (node page frame number : ℕ) → Row L
  -- the last part of an answer: the request ends with a copy, and the access that wanted it is made
  Fill_load : (node page frame number : ℕ) → Row L
  Fill_store : (node page frame number : ℕ) (line : L) → Row L
  -- the request ends without a copy: refused, met by an invalidation, or for a poisoned block
  Request_end : (node page frame number : ℕ) → Row L
  -- a dirty copy is thrown out, into the free victim slot; the slot is free again
  Victim_put : (node frame number : ℕ) → Row L
  Victim_free : (node frame number : ℕ) → Row L
  -- the home counts a request of the node for a block that isn't poisoned, and sends the frame's one notice to the mover
  Notice_send : (node page frame number : ℕ) → Row L
  -- the idle mover takes a notice and begins to move the frame's page into a free frame, from block 0 on
  Move_begin : (frame page new : ℕ) → Row L
  -- the mover takes a notice and doesn't move the page: the home may send the next
  Notice_refuse : (frame : ℕ) → Row L
  -- the home may notice the frame again
  Rearm_serve : (frame : ℕ) → Row L
  -- Ask: the mover asks the home to poison the block of the old frame
  Poison_send : (page old new number : ℕ) → Row L
  -- Collect: the home was busy, so the mover asks again
  Poison_refuse : (page old new number : ℕ) → Row L
  -- Collect: the home's reply and all acknowledgements are there. The mover has the line, and no node has a copy
  Poison_collect : (page old new number : ℕ) (line : L) → Row L
  -- Hold: the mover sends the line to the new frame's home
  Copy_send : (page old new number : ℕ) (line : L) → Row L
  -- Wait: the new frame's home writes the line to its memory and answers
  Copy_serve : (page old new number : ℕ) (line : L) → Row L
  -- Wait: the answer comes. The next block, or, after the last block of the page, Publish
  Copy_next : (page old new number : ℕ) → Row L
  Copy_last : (page old new number : ℕ) → Row L
  -- Publish: the page table names the new frame, and the old one goes to quarantine
  Publish_page : (page old new : ℕ) → Row L
  -- the idle mover begins to reclaim a quarantined frame
  Reclaim_begin : (frame page : ℕ) → Row L
  -- Tell: each holder of the frame is asked to drop it
  Drop_send_all : (frame : ℕ) → Row L
  -- a node without request, walk and victim drops the TLB entries of the frame and answers
  Drop_answer : (node frame : ℕ) → Row L
  -- Gather: the node is no holder any more
  Drop_take : (node frame : ℕ) → Row L
  -- Gather: no holder is left
  Gather_end : (frame : ℕ) → Row L
  -- Clean: the mover asks the frame's home to clean it
  Clean_send : (frame : ℕ) → Row L
  -- Cleaning: the home makes all blocks of the frame Unowned, forgets its counts and answers
  Clean_serve : (frame : ℕ) → Row L
  -- Cleaning: the answer comes, and the frame is free
  Frame_free : (frame : ℕ) → Row L

-- the page is moving
abbrev pub is_moving : {L : Type 0} → Job L → ℕ → Bool
is_moving (Ask page old new number) y = nat_eq page y
is_moving (Collect page old new number) y = nat_eq page y
is_moving (Hold page old new number line) y = nat_eq page y
is_moving (Wait page old new number) y = nat_eq page y
is_moving (Publish page old new) y = nat_eq page y
is_moving job y = false

abbrev pub is_dead : Phase → Bool
is_dead Dead = true
is_dead phase = false

-- the TLB entry names the frame
abbrev pub points_to : ℕ → TlbEntry → Bool
points_to frame NoEntry = false
points_to frame (To other) = nat_eq frame other

-- when a row may be taken, where there are this many pages, and blocks in each
abbrev pub guard : {L : Type 0} → (pages blocks : ℕ) → Row L → State L → Type 0
guard pages blocks (Walk_send node page) s = (s.walk node ≡ NoWalk) × (s.request node ≡ NoRequest) × (s.tlb node page ≡ NoEntry) × (page < pages)
guard pages blocks (Walk_answer node page frame) s = (s.walk node ≡ Walking page) × (is_moving s.job page ≡ false) × (s.page_table page ≡ frame)
guard pages blocks (Walk_refuse node page) s = (s.walk node ≡ Walking page) × (is_moving s.job page ≡ true)
guard pages blocks (Walk_fill node page frame) s = s.walk node ≡ Walked page frame
guard pages blocks (Walk_retry node page) s = s.walk node ≡ WalkRetry page
guard pages blocks (Tlb_forget node page) s = Unit {0}
guard pages blocks (Load_hit node page frame number) s = (s.tlb node page ≡ To frame) × (s.cached frame number node ≡ true)
guard pages blocks (Store_hit node page frame number line) s = (s.tlb node page ≡ To frame) × (s.cached frame number node ≡ true)
guard pages blocks (Request_send node page frame number) s = (s.tlb node page ≡ To frame) × (s.request node ≡ NoRequest) × (s.walk node ≡ NoWalk) × (number < blocks)
guard pages blocks (Fill_load node page frame number) s = (s.request node ≡ Outstanding page frame number) × (is_dead (s.phase frame number) ≡ false)
guard pages blocks (Fill_store node page frame number line) s = (s.request node ≡ Outstanding page frame number) × (is_dead (s.phase frame number) ≡ false)
guard pages blocks (Request_end node page frame number) s = s.request node ≡ Outstanding page frame number
guard pages blocks (Victim_put node frame number) s = (s.victim node ≡ NoVictim) × (s.cached frame number node ≡ true)
guard pages blocks (Victim_free node frame number) s = s.victim node ≡ VictimOf frame number
guard pages blocks (Notice_send node page frame number) s = (s.request node ≡ Outstanding page frame number) × (is_dead (s.phase frame number) ≡ false) × (s.noticed frame ≡ false)
guard pages blocks (Move_begin frame page new) s = (s.notice frame ≡ Hot) × (s.role frame ≡ Mapped page) × (s.job ≡ Idle) × (s.role new ≡ Free) × (0 < blocks)
guard pages blocks (Notice_refuse frame) s = s.notice frame ≡ Hot
guard pages blocks (Rearm_serve frame) s = s.notice frame ≡ Rearm
guard pages blocks (Poison_send page old new number) s = s.job ≡ Ask page old new number
guard pages blocks (Poison_refuse page old new number) s = s.job ≡ Collect page old new number
guard pages blocks (Poison_collect page old new number line) s = (s.job ≡ Collect page old new number) × (line ≡ s.newest old number)
guard pages blocks (Copy_send page old new number line) s = s.job ≡ Hold page old new number line
guard pages blocks (Copy_serve page old new number line) s = (s.job ≡ Wait page old new number) × (s.command ≡ CopyIn line)
guard pages blocks (Copy_next page old new number) s = (s.job ≡ Wait page old new number) × (s.command ≡ CopyDone) × (number + 1 < blocks)
guard pages blocks (Copy_last page old new number) s = (s.job ≡ Wait page old new number) × (s.command ≡ CopyDone) × (number + 1 ≡ blocks)
guard pages blocks (Publish_page page old new) s = s.job ≡ Publish page old new
guard pages blocks (Reclaim_begin frame page) s = (s.job ≡ Idle) × (s.role frame ≡ Quarantined page)
guard pages blocks (Drop_send_all frame) s = s.job ≡ Tell frame
guard pages blocks (Drop_answer node frame) s = (s.drop node ≡ DropFrame frame) × (s.request node ≡ NoRequest) × (s.walk node ≡ NoWalk) × (s.victim node ≡ NoVictim)
guard pages blocks (Drop_take node frame) s = (s.drop node ≡ Dropped frame) × (s.job ≡ Gather frame)
guard pages blocks (Gather_end frame) s = (s.job ≡ Gather frame) × ((node : ℕ) → s.holder frame node ≡ false)
guard pages blocks (Clean_send frame) s = s.job ≡ Clean frame
guard pages blocks (Clean_serve frame) s = (s.job ≡ Cleaning frame) × (s.command ≡ CleanFrame)
guard pages blocks (Frame_free frame) s = (s.job ≡ Cleaning frame) × (s.command ≡ FrameClean)

-- the state after the row
abbrev pub apply : {L : Type 0} → Row L → State L → State L
apply (Walk_send node page) s = record s { walk = put s.walk node (Walking page) }
apply (Walk_answer node page frame) s = record s { walk = put s.walk node (Walked page frame); holder = put_pair s.holder frame node true }
apply (Walk_refuse node page) s = record s { walk = put s.walk node (WalkRetry page) }
apply (Walk_fill node page frame) s = record s { walk = put s.walk node NoWalk; tlb = put_pair s.tlb node page (To frame) }
apply (Walk_retry node page) s = record s { walk = put s.walk node NoWalk }
apply (Tlb_forget node page) s = record s { tlb = put_pair s.tlb node page NoEntry }
apply (Load_hit node page frame number) s = s
apply (Store_hit node page frame number line) s = record s { newest = put_pair s.newest frame number line; memory = put_pair s.memory page number line }
apply (Request_send node page frame number) s = record s { request = put s.request node (Outstanding page frame number) }
apply (Fill_load node page frame number) s = record s { request = put s.request node NoRequest; cached = put_triple s.cached frame number node true }
apply (Fill_store node page frame number line) s = record s { request = put s.request node NoRequest; cached = put_triple s.cached frame number node true; newest = put_pair s.newest frame number line; memory = put_pair s.memory page number line }
apply (Request_end node page frame number) s = record s { request = put s.request node NoRequest }
apply (Victim_put node frame number) s = record s { victim = put s.victim node (VictimOf frame number); cached = put_triple s.cached frame number node false }
apply (Victim_free node frame number) s = record s { victim = put s.victim node NoVictim }
apply (Notice_send node page frame number) s = record s { notice = put s.notice frame Hot; noticed = put s.noticed frame true }
apply (Move_begin frame page new) s = record s { notice = put s.notice frame NoNotice; job = Ask page frame new 0; role = put s.role new (Target page) }
apply (Notice_refuse frame) s = record s { notice = put s.notice frame Rearm }
apply (Rearm_serve frame) s = record s { notice = put s.notice frame NoNotice; noticed = put s.noticed frame false }
apply (Poison_send page old new number) s = record s { job = Collect page old new number; phase = put_pair s.phase old number Collecting }
apply (Poison_refuse page old new number) s = record s { job = Ask page old new number; phase = put_pair s.phase old number Live }
apply (Poison_collect page old new number line) s = record s { job = Hold page old new number line; phase = put_pair s.phase old number Dead; cached = λ f k node. cond (nat_eq f old) (cond (nat_eq k number) false (s.cached f k node)) (s.cached f k node) }
apply (Copy_send page old new number line) s = record s { job = Wait page old new number; command = CopyIn line }
apply (Copy_serve page old new number line) s = record s { command = CopyDone; phase = put_pair s.phase new number Live; newest = put_pair s.newest new number line }
apply (Copy_next page old new number) s = record s { job = Ask page old new (number + 1); command = NoCommand }
apply (Copy_last page old new number) s = record s { job = Publish page old new; command = NoCommand }
apply (Publish_page page old new) s = record s { job = Idle; page_table = put s.page_table page new; role = put (put s.role old (Quarantined page)) new (Mapped page) }
apply (Reclaim_begin frame page) s = record s { job = Tell frame }
apply (Drop_send_all frame) s = record s { job = Gather frame; drop = λ node. cond (s.holder frame node) (DropFrame frame) (s.drop node) }
apply (Drop_answer node frame) s = record s { drop = put s.drop node (Dropped frame); tlb = λ q y. cond (nat_eq q node) (cond (points_to frame (s.tlb q y)) NoEntry (s.tlb q y)) (s.tlb q y) }
apply (Drop_take node frame) s = record s { drop = put s.drop node NoDrop; holder = put_pair s.holder frame node false }
apply (Gather_end frame) s = record s { job = Clean frame }
apply (Clean_send frame) s = record s { job = Cleaning frame; command = CleanFrame }
apply (Clean_serve frame) s = record s { command = FrameClean; noticed = put s.noticed frame false }
apply (Frame_free frame) s = record s { job = Idle; command = NoCommand; role = put s.role frame Free }
