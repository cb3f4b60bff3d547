-- Which frames a message names.
use Rattle.std.specs.Prelude.{Bool, false, Option, None, Some}
use Rattle.og_base.specs.Names.{is_same_frame}
use Rattle.og_base.specs.declared.Block.{Block}
use Rattle.og_base.specs.declared.Frame.{Frame}
use Rattle.og_msg.specs.declared.Kind.{Kind}
use Rattle.og_msg.specs.declared.Kind.TheVariants.{CleanFrame, FrameClean, Hot, Rearm, Walked, DropFrame, Dropped}
use Rattle.og_msg.specs.Kinds.{block_of}

abbrev pub is_in_frame : Option Block → Frame → Bool
is_in_frame None frame = false
is_in_frame (Some b) frame = is_same_frame b.frame frame

-- a message names the frame, or its block is in the frame
abbrev pub names_frame : Kind → Frame → Bool
names_frame (CleanFrame f) frame = is_same_frame f frame
names_frame (FrameClean f) frame = is_same_frame f frame
names_frame (Hot hot) frame = is_same_frame hot.frame frame
names_frame (Rearm f) frame = is_same_frame f frame
names_frame (Walked page f) frame = is_same_frame f frame
names_frame (DropFrame f) frame = is_same_frame f frame
names_frame (Dropped f) frame = is_same_frame f frame
names_frame kind frame = is_in_frame (block_of kind) frame
