-- What contracts see of a pager: in which frame each page is, what each frame is for, who was told of a frame, and the move
-- under way. A page is named by its number, which is its place among the placed pages.
use Rattle.std.specs.Prelude.{◌≡◌, ℕ, ◌+◌, ◌*◌, ◌/◌, ◌%◌, ◌^◌, ◌<◌, ◌≤◌, ◌&&◌, Bool, true, false, nat_eq, nat_lt, nat_le, Option, Some, None, List, length, map, take, drop, slice_index, slice_index_or, slice_set, position, is_some, option_map, replicate, if◌then◌else◌}
use Rattle.std.specs.List.{list_all, sum_by}
use Rattle.std.specs.List.Sorted.{IsStrictlyIncreasing}
use Rattle.std.specs.Ordering.{nat_cmp}
use Rattle.std.specs.FinSet as set
use Rattle.og_base.specs.declared.Frame.{Frame}
use Rattle.og_base.specs.declared.VPage.{VPage}
use Rattle.og_base.specs.Numbers.{below}
use Rattle.og_image.specs.Layout.{LayoutState, frame_at}
use Rattle.og_pager.specs.declared.Role.{Role}
use Rattle.og_pager.specs.declared.Role.TheVariants.{Free, Mapped, Target, Quarantined}
use Rattle.og_pager.specs.declared.Moving.{Moving}

pub record PageTable : Type 0 where
  pub nodes : ℕ
  -- the frames of each node
  pub frames : ℕ
  -- the placed pages, rising
  pub pages : List ℕ
  -- of each page, the frame that it is in
  pub table : List Frame
  -- of each page, how often it was moved
  pub moves : List ℕ
  -- of each frame, node after node, what it is for
  pub roles : List Role
  -- of each frame, the nodes that were told of it and haven't dropped it
  pub holders : List (set.FinSet nat_cmp)
  -- the move under way
  pub moving : Option Moving
  -- how many moves were published
  pub published : ℕ

-- the machine has the node
abbrev pub IsNode : PageTable → ℕ → Type 0
IsNode t node = node < t.nodes

-- the machine has the frame
abbrev pub IsFrame : PageTable → Frame → Type 0
IsFrame t frame = (frame.home < t.nodes) × (frame.index < t.frames)

-- the test whether it has
abbrev pub has_frame : PageTable → Frame → Bool
has_frame t frame = nat_lt frame.home t.nodes && nat_lt frame.index t.frames

-- a frame's number among all frames
abbrev pub frame_number : PageTable → Frame → ℕ
frame_number t frame = frame.home * t.frames + frame.index

-- a page's number, if it is placed
abbrev pub number_of : PageTable → VPage → Option ℕ
number_of t page = position (nat_eq page.0) t.pages

abbrev pub no_frame : Frame
no_frame = record { home = 0; index = 0 }

-- the frame of a page with a number
abbrev pub frame_in : PageTable → ℕ → Frame
frame_in t number = slice_index_or t.table number no_frame

-- the frame of a page, if it is placed
unfoldable pub frame_of : PageTable → VPage → Option Frame
frame_of t page = option_map (frame_in t) (number_of t page)

-- what a frame is for
abbrev pub role_of : PageTable → Frame → Role
role_of t frame = slice_index_or t.roles (frame_number t frame) Free

-- the page that is in a frame of this role
abbrev pub page_by : PageTable → Role → Option VPage
page_by t (Mapped number) = Some (record { 0 = slice_index t.pages number })
page_by t role = None

-- the page that is in a frame, if there is one
unfoldable pub page_of : PageTable → Frame → Option VPage
page_of t frame = page_by t (role_of t frame)

abbrev pub is_free_role : Role → Bool
is_free_role Free = true
is_free_role role = false

abbrev pub is_quarantined_role : Role → Bool
is_quarantined_role (Quarantined move) = true
is_quarantined_role role = false

abbrev pub left_by : Role → Option ℕ
left_by (Quarantined move) = Some move
left_by role = None

-- the number of the move in which its page left a frame that is in quarantine
unfoldable pub left_at : PageTable → Frame → Option ℕ
left_at t frame = left_by (role_of t frame)

-- no page is in the frame or on its way into it, and no page has left it since it was freed
unfoldable pub is_free : PageTable → Frame → Bool
is_free t frame = is_free_role (role_of t frame)

-- a page has left the frame, and it wasn't freed yet
unfoldable pub is_quarantined : PageTable → Frame → Bool
is_quarantined t frame = is_quarantined_role (role_of t frame)

-- the nodes that were told of a frame and haven't dropped it
unfoldable pub holders_of : PageTable → Frame → set.FinSet nat_cmp
holders_of t frame = slice_index_or t.holders (frame_number t frame) set.empty

-- how often the page with a number was moved
abbrev pub moves_in : PageTable → Option ℕ → ℕ
moves_in t None = 0
moves_in t (Some number) = slice_index t.moves number

-- how often a page was moved, 0 for one that isn't placed
unfoldable pub moves_of : PageTable → VPage → ℕ
moves_of t page = moves_in t (number_of t page)

abbrev pub is_move_of : Option Moving → Option ℕ → Bool
is_move_of (Some moving) (Some number) = nat_eq moving.number number
is_move_of _ _ = false

-- the page is being moved
unfoldable pub is_moving : PageTable → VPage → Bool
is_moving t page = is_move_of t.moving (number_of t page)

-- a page with the frame that it is in and the one that it is being moved to
abbrev pub move_in : PageTable → Option Moving → Option (VPage × Frame × Frame)
move_in t None = None
move_in t (Some moving) = Some (record { 0 = slice_index t.pages moving.number }, frame_in t moving.number, moving.new)

-- the move under way: its page, the frame that the page is in, and the one that it is being moved to
unfoldable pub move_of : PageTable → Option (VPage × Frame × Frame)
move_of t = move_in t t.moving

-- what the frames of a node are for
abbrev pub roles_at : PageTable → ℕ → List Role
roles_at t node = take t.frames (drop (node * t.frames) t.roles)

-- the frame of a node with an index
abbrev pub at_home : ℕ → ℕ → Frame
at_home node index = record { home = node; index = index }

-- the least free frame of a node
unfoldable pub least_free : PageTable → ℕ → Option Frame
least_free t node = option_map (at_home node) (position is_free_role (roles_at t node))

-- a node has a free frame
abbrev pub has_free : PageTable → ℕ → Bool
has_free t node = is_some (least_free t node)

-- of two frames in quarantine the second wasn't left before the first
abbrev pub is_left_later : Role → Role → Bool
is_left_later (Quarantined first) (Quarantined second) = nat_le first second
is_left_later (Quarantined first) second = true
is_left_later first second = false

-- among frames of these roles one that was left first
abbrev pub is_left_first : List Role → Role → Bool
is_left_first roles role = is_quarantined_role role && list_all (is_left_later role) roles

-- the frame of a node that is in quarantine longest, if one is
unfoldable pub oldest : PageTable → ℕ → Option Frame
oldest t node = option_map (at_home node) (position (is_left_first (roles_at t node)) (roles_at t node))

-- ------------------------------------------------------------ changes

-- a node is a holder of the frame
abbrev pub with_holder : PageTable → ℕ → Option Frame → PageTable
with_holder t node None = t
with_holder t node (Some frame) = record t { holders = slice_set t.holders (frame_number t frame) (set.insert (holders_of t frame) node) }

-- what a walk for a page answers: its frame, but nothing while it moves
abbrev pub walk_of : PageTable → VPage → Option Frame
walk_of t page = if is_moving t page then None else frame_of t page

-- after a node's walk for a page: where it was told a frame it is a holder of it
unfoldable pub walked : PageTable → VPage → ℕ → PageTable
walked t page node = with_holder t node (walk_of t page)

-- the page with a number is being moved into the frame
abbrev pub moving_into : PageTable → Option ℕ → Option Frame → PageTable
moving_into t (Some number) (Some frame) = record t {
  roles = slice_set t.roles (frame_number t frame) (Target number);
  moving = Some (record { number = number; new = frame });
}
moving_into t _ _ = t

-- the page is being moved into the least free frame of the node
unfoldable pub begun : PageTable → VPage → ℕ → PageTable
begun t page node = moving_into t (number_of t page) (least_free t node)

-- after a move was published: the page is in its new frame and was moved once more, and its old frame is last in quarantine
abbrev pub published_move : PageTable → Option Moving → PageTable
published_move t None = t
published_move t (Some moving) = record t {
  table = slice_set t.table moving.number moving.new;
  moves = slice_set t.moves moving.number (slice_index t.moves moving.number + 1);
  roles = slice_set (slice_set t.roles (frame_number t (frame_in t moving.number)) (Quarantined t.published)) (frame_number t moving.new) (Mapped moving.number);
  moving = None;
  published = t.published + 1;
}

-- the move under way is published
unfoldable pub settled : PageTable → PageTable
settled t = published_move t t.moving

-- the node isn't a holder of the frame any more
unfoldable pub dropped : PageTable → Frame → ℕ → PageTable
dropped t frame node = record t { holders = slice_set t.holders (frame_number t frame) (set.remove (holders_of t frame) node) }

-- the frame is free
unfoldable pub reclaimed : PageTable → Frame → PageTable
reclaimed t frame = record t { roles = slice_set t.roles (frame_number t frame) Free }

-- ------------------------------------------------------------ the start

-- a layout that suits the settings: of as many nodes, with a frame for each of its pages, which stand in rising order
pub record Suits (layout : LayoutState) (nodes frames : ℕ) : Type 0 where
  pub shared : layout.nodes ≡ nodes
  pub rising : IsStrictlyIncreasing layout.pages
  pub room : length layout.pages ≤ nodes * frames

-- what frame k is for at the start: of node k div frames it is the frame with the index k mod frames, in which the page
-- with the number (k mod frames) * nodes + k div frames is, if there are so many pages
abbrev pub first_role : (nodes frames pages k : ℕ) → Role
first_role nodes frames pages k =
    if nat_lt (k % frames * nodes + k / frames) pages then Mapped (k % frames * nodes + k / frames) else Free

-- each page is in its first frame, every other frame is free, and no node was told of any
unfoldable pub first_table : LayoutState → (frames : ℕ) → PageTable
first_table layout frames = record {
  nodes = layout.nodes;
  frames = frames;
  pages = layout.pages;
  table = map (frame_at layout.nodes) (below (length layout.pages));
  moves = replicate (length layout.pages) 0;
  roles = map (first_role layout.nodes frames (length layout.pages)) (below (layout.nodes * frames));
  holders = replicate (layout.nodes * frames) set.empty;
  moving = None;
  published = 0;
}

-- ------------------------------------------------------------ what every page table is

-- the lists have their lengths, and the numbers are in their ranges
pub record IsSized (t : PageTable) : Type 0 where
  pub some_nodes : 1 ≤ t.nodes
  pub few_nodes : t.nodes ≤ 128
  pub few_frames : t.frames ≤ 1024
  pub rising : IsStrictlyIncreasing t.pages
  pub all_frames : length t.table ≡ length t.pages
  pub all_moves : length t.moves ≡ length t.pages
  pub all_roles : length t.roles ≡ t.nodes * t.frames
  pub all_holders : length t.holders ≡ t.nodes * t.frames
  pub few_moves : (number : ℕ) → slice_index t.moves number < 2 ^ 32
  pub few_pages : length t.pages ≤ t.nodes * t.frames
  pub counted : t.published ≡ sum_by (λ moves. moves) t.moves

-- the roles are those that the page table and the move say, so no two pages are in one frame; and no two frames were left
-- in one move
pub record IsRoled (t : PageTable) : Type 0 where
  pub framed : (number : ℕ) → number < length t.pages → IsFrame t (frame_in t number) × (role_of t (frame_in t number) ≡ Mapped number)
  pub mapped : (k number : ℕ) → slice_index_or t.roles k Free ≡ Mapped number → (number < length t.pages) × (frame_number t (frame_in t number) ≡ k)
  pub targeted : (k number : ℕ) → slice_index_or t.roles k Free ≡ Target number → (moving : Moving) × (t.moving ≡ Some moving) × (moving.number ≡ number) × (frame_number t moving.new ≡ k)
  pub moving : (moving : Moving) → t.moving ≡ Some moving → (moving.number < length t.pages) × IsFrame t moving.new × (role_of t moving.new ≡ Target moving.number)
  pub left : (k move : ℕ) → slice_index_or t.roles k Free ≡ Quarantined move → move < t.published
  pub once : (k other move : ℕ) → slice_index_or t.roles k Free ≡ Quarantined move → slice_index_or t.roles other Free ≡ Quarantined move → k ≡ other

pub record IsPageTable (t : PageTable) : Type 0 where
  pub sized : IsSized t
  pub roled : IsRoled t
