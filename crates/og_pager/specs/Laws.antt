-- What the look-ups answer of every page table, and after each call that changes one: for the page, the frame and the node of
-- the call, and for every other.
use Rattle.std.specs.Prelude.{◌≡◌, ◌≢◌, ℕ, ◌+◌, ◌-◌, ◌*◌, ◌^◌, ◌<◌, ◌≤◌, true, false, Some, None, is_some, length}
use Rattle.std.specs.FinSet as set
use Rattle.og_base.specs.declared.Frame.{Frame}
use Rattle.og_base.specs.declared.VPage.{VPage}
use Rattle.og_image.specs.Image.{ImageState}
use Rattle.og_image.specs.Layout.{LayoutState, layout_of, pages_of, first_frame}
use Rattle.og_pager.specs.PageTable.{PageTable, IsPageTable, IsFrame, Suits, frame_of, page_of, is_free, is_quarantined, left_at, holders_of, moves_of, move_of, walk_of, least_free, oldest, first_table, walked, begun, settled, dropped, reclaimed}

-- what a layout gives: of a machine with enough frames it suits the settings
pub record LayoutSuits : Type 0 where
  pub suits : (image : ImageState) (frames : ℕ) → length (pages_of image) ≤ image.nodes * frames → Suits (layout_of image) image.nodes frames

-- a new page table is one; each page is in its first frame, no move is under way, and no frame was told to any node
pub record FirstIsSeen : Type 0 where
  pub sound : (layout : LayoutState) (frames : ℕ) → 1 ≤ layout.nodes → layout.nodes ≤ 128 → 1 ≤ frames → frames ≤ 1024 → Suits layout layout.nodes frames → IsPageTable (first_table layout frames)
  pub frame : (layout : LayoutState) (frames : ℕ) (page : VPage) → frame_of (first_table layout frames) page ≡ first_frame layout page.0
  pub idle : (layout : LayoutState) (frames : ℕ) → move_of (first_table layout frames) ≡ None

-- a page's frame has that page, and a frame's page is in that frame: so no two pages are in one frame. A free frame has no
-- page, nor has one in quarantine
pub record PagesAreSeen : Type 0 where
  pub inside : (t : PageTable) (page : VPage) (frame : Frame) → IsPageTable t → frame_of t page ≡ Some frame → IsFrame t frame
  pub page : (t : PageTable) (page : VPage) (frame : Frame) → IsPageTable t → frame_of t page ≡ Some frame → page_of t frame ≡ Some page
  pub frame : (t : PageTable) (page : VPage) (frame : Frame) → IsPageTable t → IsFrame t frame → page_of t frame ≡ Some page → frame_of t page ≡ Some frame
  pub free : (t : PageTable) (frame : Frame) → is_free t frame ≡ true → page_of t frame ≡ None
  pub quarantined : (t : PageTable) (frame : Frame) → is_quarantined t frame ≡ true → page_of t frame ≡ None

-- the frames that are found at a node are its own: a free one, and the least of them; and one in quarantine
pub record FoundFrames : Type 0 where
  pub least : (t : PageTable) (node : ℕ) (frame : Frame) → IsPageTable t → node < t.nodes → least_free t node ≡ Some frame → IsFrame t frame × (is_free t frame ≡ true) × (frame.home ≡ node)
  pub oldest : (t : PageTable) (node : ℕ) (frame : Frame) → IsPageTable t → node < t.nodes → oldest t node ≡ Some frame → IsFrame t frame × (is_quarantined t frame ≡ true) × (frame.home ≡ node)

-- a frame in quarantine was left in a move before now, and no two in one move. The oldest one of a node was left first, and where
-- there is none the node has none in quarantine
pub record QuarantineIsSeen : Type 0 where
  pub quarantined : (t : PageTable) (frame : Frame) → is_quarantined t frame ≡ is_some (left_at t frame)
  pub before : (t : PageTable) (frame : Frame) (move : ℕ) → IsPageTable t → left_at t frame ≡ Some move → move < t.published
  pub once : (t : PageTable) (frame other : Frame) (move : ℕ) → IsPageTable t → IsFrame t frame → IsFrame t other → left_at t frame ≡ Some move → left_at t other ≡ Some move → frame ≡ other
  pub first : (t : PageTable) (frame other : Frame) (move later : ℕ) → IsPageTable t → IsFrame t other → oldest t other.home ≡ Some frame → left_at t frame ≡ Some move → left_at t other ≡ Some later → move ≤ later
  pub none : (t : PageTable) (other : Frame) → IsPageTable t → IsFrame t other → oldest t other.home ≡ None → left_at t other ≡ None

-- two page tables that differ at most in who holds the frames
pub record SameFrames (t u : PageTable) : Type 0 where
  pub size : (u.nodes ≡ t.nodes) × (u.frames ≡ t.frames)
  pub frame : (page : VPage) → frame_of u page ≡ frame_of t page
  pub page : (frame : Frame) → page_of u frame ≡ page_of t frame
  pub free : (frame : Frame) → is_free u frame ≡ is_free t frame
  pub quarantined : (frame : Frame) → is_quarantined u frame ≡ is_quarantined t frame
  pub left : (frame : Frame) → left_at u frame ≡ left_at t frame
  pub published : u.published ≡ t.published
  pub moves : (page : VPage) → moves_of u page ≡ moves_of t page
  pub move : move_of u ≡ move_of t
  pub least : (node : ℕ) → least_free u node ≡ least_free t node
  pub oldest : (node : ℕ) → oldest u node ≡ oldest t node

-- after a walk that was told a frame the node is one of the frame's holders; no other frame has others
pub record WalkIsSeen : Type 0 where
  pub frames : (t : PageTable) (page : VPage) (node : ℕ) → SameFrames t (walked t page node)
  pub told : (t : PageTable) (page : VPage) (node : ℕ) (frame : Frame) → IsPageTable t → walk_of t page ≡ Some frame → holders_of (walked t page node) frame ≡ set.insert (holders_of t frame) node
  pub others : (t : PageTable) (page : VPage) (node : ℕ) (frame : Frame) → IsPageTable t → IsFrame t frame → walk_of t page ≢ Some frame → holders_of (walked t page node) frame ≡ holders_of t frame
  pub sound : (t : PageTable) (page : VPage) (node : ℕ) → IsPageTable t → IsPageTable (walked t page node)

-- a node that has dropped a frame is none of its holders; no other frame has others
pub record DropIsSeen : Type 0 where
  pub frames : (t : PageTable) (frame : Frame) (node : ℕ) → SameFrames t (dropped t frame node)
  pub own : (t : PageTable) (frame : Frame) (node : ℕ) → IsPageTable t → IsFrame t frame → holders_of (dropped t frame node) frame ≡ set.remove (holders_of t frame) node
  pub others : (t : PageTable) (frame other : Frame) (node : ℕ) → IsPageTable t → IsFrame t frame → IsFrame t other → other ≢ frame → holders_of (dropped t frame node) other ≡ holders_of t other
  pub sound : (t : PageTable) (frame : Frame) (node : ℕ) → IsPageTable t → IsPageTable (dropped t frame node)

-- a move begins: of this page, to the least free frame of the node
pub record Begins (t : PageTable) (page : VPage) (node : ℕ) (old new : Frame) : Type 0 where
  pub sound : IsPageTable t
  pub there : node < t.nodes
  pub placed : frame_of t page ≡ Some old
  pub free : least_free t node ≡ Some new
  pub idle : move_of t ≡ None

-- when a move has begun its frame isn't free any more; no page is in another frame, and no other frame changes its use
pub record BeginIsSeen : Type 0 where
  pub size : (t : PageTable) (page : VPage) (node : ℕ) (old new : Frame) → Begins t page node old new → ((begun t page node).nodes ≡ t.nodes) × ((begun t page node).frames ≡ t.frames)
  pub move : (t : PageTable) (page : VPage) (node : ℕ) (old new : Frame) → Begins t page node old new → move_of (begun t page node) ≡ Some (page, old, new)
  pub frame : (t : PageTable) (page other : VPage) (node : ℕ) (old new : Frame) → Begins t page node old new → frame_of (begun t page node) other ≡ frame_of t other
  pub page : (t : PageTable) (page : VPage) (node : ℕ) (old new frame : Frame) → Begins t page node old new → page_of (begun t page node) frame ≡ page_of t frame
  pub taken : (t : PageTable) (page : VPage) (node : ℕ) (old new : Frame) → Begins t page node old new → is_free (begun t page node) new ≡ false
  pub free : (t : PageTable) (page : VPage) (node : ℕ) (old new frame : Frame) → Begins t page node old new → IsFrame t frame → frame ≢ new → is_free (begun t page node) frame ≡ is_free t frame
  pub left : (t : PageTable) (page : VPage) (node : ℕ) (old new frame : Frame) → Begins t page node old new → left_at (begun t page node) frame ≡ left_at t frame
  pub published : (t : PageTable) (page : VPage) (node : ℕ) (old new : Frame) → Begins t page node old new → (begun t page node).published ≡ t.published
  pub moves : (t : PageTable) (page other : VPage) (node : ℕ) (old new : Frame) → Begins t page node old new → moves_of (begun t page node) other ≡ moves_of t other
  pub holders : (t : PageTable) (page : VPage) (node : ℕ) (old new frame : Frame) → Begins t page node old new → holders_of (begun t page node) frame ≡ holders_of t frame
  pub sound : (t : PageTable) (page : VPage) (node : ℕ) (old new : Frame) → Begins t page node old new → IsPageTable (begun t page node)

-- the move under way: of this page, from the one frame to the other
pub record Moves (t : PageTable) (page : VPage) (old new : Frame) : Type 0 where
  pub sound : IsPageTable t
  pub move : move_of t ≡ Some (page, old, new)

-- when a move was published its page is in the new frame and was moved once more, and the old frame is in quarantine; every
-- other page is in its frame, and every other frame is used as before
pub record SettleIsSeen : Type 0 where
  pub size : (t : PageTable) (page : VPage) (old new : Frame) → Moves t page old new → ((settled t).nodes ≡ t.nodes) × ((settled t).frames ≡ t.frames)
  pub inside : (t : PageTable) (page : VPage) (old new : Frame) → Moves t page old new → IsFrame t old × IsFrame t new × (frame_of t page ≡ Some old)
  pub idle : (t : PageTable) (page : VPage) (old new : Frame) → Moves t page old new → move_of (settled t) ≡ None
  pub own : (t : PageTable) (page : VPage) (old new : Frame) → Moves t page old new → frame_of (settled t) page ≡ Some new
  pub others : (t : PageTable) (page other : VPage) (old new : Frame) → Moves t page old new → other ≢ page → frame_of (settled t) other ≡ frame_of t other
  pub counted : (t : PageTable) (page : VPage) (old new : Frame) → Moves t page old new → moves_of (settled t) page ≡ moves_of t page + 1
  pub left : (t : PageTable) (page : VPage) (old new : Frame) → Moves t page old new → left_at (settled t) old ≡ Some t.published
  pub stays : (t : PageTable) (page : VPage) (old new frame : Frame) → Moves t page old new → IsFrame t frame → frame ≢ old → left_at (settled t) frame ≡ left_at t frame
  pub published : (t : PageTable) (page : VPage) (old new : Frame) → Moves t page old new → (settled t).published ≡ t.published + 1
  pub free : (t : PageTable) (page : VPage) (old new frame : Frame) → Moves t page old new → is_free (settled t) frame ≡ is_free t frame
  pub holders : (t : PageTable) (page : VPage) (old new frame : Frame) → Moves t page old new → holders_of (settled t) frame ≡ holders_of t frame
  pub sound : (t : PageTable) (page : VPage) (old new : Frame) → Moves t page old new → moves_of t page < 2 ^ 32 - 1 → IsPageTable (settled t)

-- a frame that was reclaimed is free and not in quarantine, and every other frame is used as before; no page moves
pub record ReclaimIsSeen : Type 0 where
  pub size : (t : PageTable) (frame : Frame) → ((reclaimed t frame).nodes ≡ t.nodes) × ((reclaimed t frame).frames ≡ t.frames)
  pub own : (t : PageTable) (frame : Frame) → IsPageTable t → IsFrame t frame → is_free (reclaimed t frame) frame ≡ true
  pub free : (t : PageTable) (frame other : Frame) → IsPageTable t → IsFrame t frame → IsFrame t other → other ≢ frame → is_free (reclaimed t frame) other ≡ is_free t other
  pub gone : (t : PageTable) (frame : Frame) → IsPageTable t → IsFrame t frame → left_at (reclaimed t frame) frame ≡ None
  pub left : (t : PageTable) (frame other : Frame) → IsPageTable t → IsFrame t frame → IsFrame t other → other ≢ frame → left_at (reclaimed t frame) other ≡ left_at t other
  pub published : (t : PageTable) (frame : Frame) → (reclaimed t frame).published ≡ t.published
  pub frame : (t : PageTable) (frame : Frame) (page : VPage) → frame_of (reclaimed t frame) page ≡ frame_of t page
  pub page : (t : PageTable) (frame other : Frame) → IsPageTable t → IsFrame t frame → is_quarantined t frame ≡ true → page_of (reclaimed t frame) other ≡ page_of t other
  pub moves : (t : PageTable) (frame : Frame) (page : VPage) → moves_of (reclaimed t frame) page ≡ moves_of t page
  pub move : (t : PageTable) (frame : Frame) → move_of (reclaimed t frame) ≡ move_of t
  pub holders : (t : PageTable) (frame other : Frame) → holders_of (reclaimed t frame) other ≡ holders_of t other
  pub sound : (t : PageTable) (frame : Frame) → IsPageTable t → IsFrame t frame → is_quarantined t frame ≡ true → IsPageTable (reclaimed t frame)
