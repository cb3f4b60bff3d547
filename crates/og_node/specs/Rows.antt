-- The test whether a message has a row at a node: what `HasRow` says, decided.
use Rattle.std.specs.Prelude.{ℕ, Bool, true, false, ◌&&◌, nat_eq, nat_lt, nat_le, is_some, Option, Some, None, if◌then◌else◌}
use Rattle.og_base.specs.declared.Block.{Block}
use Rattle.og_base.specs.declared.Frame.{Frame}
use Rattle.og_runs.specs.declared.Msg.{Msg}
use Rattle.og_msg.specs.declared.Kind.{Kind}
use Rattle.og_msg.specs.declared.Kind.TheVariants.{CleanFrame, Rearm, InterveneShared, InterveneEx, Invalidate, Walked, DropFrame}
use Rattle.og_msg.specs.Kinds.{block_of, is_from_mover}
use Rattle.og_home.specs.Home.{HomeState, table_row, are_poisoned}
use Rattle.og_processor.specs.Rows.{has_row_for}
use Rattle.og_node.specs.Node.{NodeState, is_for_home}

-- the mover sends its own kinds, and nodes all others
abbrev pub is_from_its_sender : ℕ → Msg Kind → Bool
is_from_its_sender n msg = if is_from_mover msg.kind then nat_eq msg.id.sender n else nat_lt msg.id.sender n

-- ---- at the home

abbrev pub is_own_frame : HomeState → Frame → Bool
is_own_frame home f = nat_eq f.home home.rules.home && nat_lt f.index home.rules.frames

abbrev pub has_block_row : HomeState → Msg Kind → Option Block → Bool
has_block_row home msg None = false
has_block_row home msg (Some b) =
    is_own_frame home b.frame && (nat_lt b.number 32 && (is_from_its_sender home.rules.nodes msg && is_some (table_row home b msg)))

abbrev pub has_home_row : HomeState → Msg Kind → Kind → Bool
has_home_row home msg (CleanFrame f) = is_own_frame home f && (nat_eq msg.id.sender home.rules.nodes && are_poisoned (home.entry f.index) 32)
has_home_row home msg (Rearm f) = is_own_frame home f && nat_eq msg.id.sender home.rules.nodes
has_home_row home msg kind = has_block_row home msg (block_of kind)

-- ---- at the processor

abbrev pub is_frame : HomeState → Frame → Bool
is_frame home frame = nat_lt frame.home home.rules.nodes && nat_lt frame.index home.rules.frames

abbrev pub is_block : HomeState → Option Block → Bool
is_block home None = true
is_block home (Some block) = is_frame home block.frame && nat_lt block.number 32

abbrev pub names_known : HomeState → Kind → Bool
names_known home (InterveneShared b requester) = nat_lt requester home.rules.nodes
names_known home (InterveneEx b requester) = nat_lt requester home.rules.nodes
names_known home (Invalidate b requester) = nat_le requester home.rules.nodes
names_known home (Walked page frame) = is_frame home frame
names_known home (DropFrame frame) = is_frame home frame
names_known home kind = true

abbrev pub has_processor_row : NodeState → Msg Kind → Bool
has_processor_row x msg =
    is_from_its_sender x.home.rules.nodes msg && (is_block x.home (block_of msg.kind) && (names_known x.home msg.kind && has_row_for x.processor msg.kind))

-- the message has a row at the node
unfoldable pub has_row : NodeState → Msg Kind → Bool
has_row x msg = if is_for_home msg.kind then has_home_row x.home msg msg.kind else has_processor_row x msg
