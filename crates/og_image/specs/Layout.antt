-- Where pages stand at the start.
use Rattle.std.specs.Prelude.{ℕ, ◌/◌, ◌%◌, List, ◌++◌, map}
use Rattle.std.proofs.Common.{Option}
use Rattle.std.specs.List.{filter, position}
use Rattle.std.specs.Option.{option_map}
use Rattle.std.specs.Prelude.{nat_eq}
use Rattle.og_base.specs.declared.Frame.{Frame}
use Rattle.og_base.specs.Numbers.{below}
use Rattle.og_image.specs.Image.{ImageState, is_data_page, first_stack_page, stack_page}

-- the data pages, rising
unfoldable pub data_pages : ImageState → List ℕ
data_pages image = filter (is_data_page image) (below first_stack_page)

-- the stack pages, one a hart, rising
unfoldable pub stack_pages : ImageState → List ℕ
stack_pages image = map stack_page (below image.nodes)

-- all pages that are placed, in the order of their numbers
unfoldable pub pages_of : ImageState → List ℕ
pages_of image = data_pages image ++ stack_pages image

-- what contracts see of a layout: how many nodes share the pages, and the pages in the order of their numbers
pub record LayoutState : Type 0 where
  pub nodes : ℕ
  pub pages : List ℕ

abbrev pub layout_of : ImageState → LayoutState
layout_of image = record { nodes = image.nodes; pages = pages_of image }

-- page number i goes to home i mod n, frame i div n
abbrev pub frame_at : ℕ → ℕ → Frame
frame_at nodes i = record { home = i % nodes; index = i / nodes }

abbrev pub first_frame : LayoutState → ℕ → Option Frame
first_frame layout page = option_map (frame_at layout.nodes) (position (nat_eq page) layout.pages)
