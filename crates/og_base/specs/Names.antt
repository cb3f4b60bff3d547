-- When two names are the same one, as tests that compute.
use Rattle.std.specs.Prelude.{Bool, ◌&&◌, ◌==◌}
use Rattle.og_base.specs.declared.VPage.{VPage}
use Rattle.og_base.specs.declared.Frame.{Frame}
use Rattle.og_base.specs.declared.Block.{Block}

-- two names of one page
abbrev pub is_same_page : VPage → VPage → Bool
is_same_page a b = a.0 == b.0

-- two names of one frame
abbrev pub is_same_frame : Frame → Frame → Bool
is_same_frame a b = (a.home == b.home) && (a.index == b.index)

-- two names of one block
abbrev pub is_same_block : Block → Block → Bool
is_same_block a b = is_same_frame a.frame b.frame && (a.number == b.number)
