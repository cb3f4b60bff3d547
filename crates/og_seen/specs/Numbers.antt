-- Frames and pages by number: frames home after home, and pages by their place among the placed ones.
use Rattle.std.specs.Prelude.{ℕ, ◌+◌, ◌*◌, ◌/◌, ◌%◌, Bool, ◌&&◌, nat_eq, nat_le, nat_lt, cond, List, length, position, unwrap_or}
use Rattle.og_base.specs.declared.VPage.{VPage}
use Rattle.og_base.specs.declared.Frame.{Frame}
use Rattle.og_base.specs.declared.Block.{Block}
use Rattle.og_block.specs.State.{Sharing, Single, Grouped}
use Rattle.og_relate.specs.Data.{Setup}

-- how many nodes there are, how many frames each has, and which pages are placed, rising
pub record Sizes : Type 0 where
  pub nodes : ℕ
  pub frames : ℕ
  pub pages : List ℕ

abbrev pub frame_count : Sizes → ℕ
frame_count s = s.nodes * s.frames

-- the machine has the frame
abbrev pub is_there : Sizes → Frame → Bool
is_there s frame = nat_lt frame.home s.nodes && nat_lt frame.index s.frames

-- the number of a frame; a frame that isn't there has the number of none
abbrev pub frame_number : Sizes → Frame → ℕ
frame_number s frame = cond (is_there s frame) (frame.home * s.frames + frame.index) (frame_count s)

-- the frame with a number
abbrev pub frame_at : Sizes → ℕ → Frame
frame_at s f = record { home = f / s.frames; index = f % s.frames }

abbrev pub block_at : Sizes → (f k : ℕ) → Block
block_at s f k = record { frame = frame_at s f; number = k }

-- the number of a page; a page that isn't placed has the number of none
abbrev pub page_number : Sizes → VPage → ℕ
page_number s page = unwrap_or (position (nat_eq page.0) s.pages) (length s.pages)

-- what a bit of a home's sharers stands for: a node, or in a machine of more than 64 nodes a pair of neighbours. The mover has
-- none
abbrev pub bit_of : (nodes node : ℕ) → ℕ
bit_of nodes node = cond (nat_eq node nodes) 0 (node / 2 + 1)

abbrev pub sharing_of : (nodes : ℕ) → Sharing
sharing_of nodes = cond (nat_le nodes 64) Single (Grouped (bit_of nodes))

-- the setup of a machine of functions of these sizes: 32 blocks a frame
abbrev pub setup_seen : Sizes → Setup
setup_seen s = record {
  nodes = s.nodes;
  frames = frame_count s;
  pages = length s.pages;
  blocks = 32;
  home = λ f. f / s.frames;
  sharing = sharing_of s.nodes;
}
