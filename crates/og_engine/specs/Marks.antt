-- A mark for each node in one word: what the marks say of the nodes that are kept.
use Rattle.std.specs.Prelude.{◌≡◌, ℕ, Bool, true, false, Option, None, Some, Result, Err, is_none, List, slice_get}
use Rattle.std.specs.Result.{is_ok}
use Rattle.og_base.specs.declared.NotEnabled.{NotEnabled}
use Rattle.og_base.specs.declared.NotEnabled.TheVariants.{Stopped}
use Rattle.og_runs.specs.declared.Seat.{Seat}
use Rattle.og_image.specs.Image.{ImageState}
use Rattle.og_processor.specs.Act.{may_act}
use Rattle.og_node.specs.Kept.{KeptNode}
use Rattle.og_choices.specs.Marks.{is_marked}

-- the node there may act
abbrev pub is_ready : ImageState → Option (Seat KeptNode) → Bool
is_ready image None = false
is_ready image (Some x) = is_ok (may_act image x.local.processor)

-- the hart of the node there hasn't stopped
abbrev pub is_running : Option (Seat KeptNode) → Bool
is_running None = false
is_running (Some x) = is_none x.local.processor.hart.cause

-- the same, by whether its node may act, and why not
abbrev pub is_running_by : Result (Unit {0}) NotEnabled → Bool
is_running_by (Err Stopped) = false
is_running_by may = true

-- one word marks the nodes that may act, and another those whose hart hasn't stopped
pub record AreMarked (image : ImageState) (nodes : List (Seat KeptNode)) (ready running : ℕ) : Type 0 where
  pub ready_is : (a : ℕ) → is_marked ready a ≡ is_ready image (slice_get nodes a)
  pub running_is : (a : ℕ) → is_marked running a ≡ is_running (slice_get nodes a)
