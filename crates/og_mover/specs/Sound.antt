-- What every mover is.
use Rattle.std.specs.Prelude.{◌≡◌, ◌<◌, true, Some, None}
use Rattle.std.specs.FinSet as set
use Rattle.og_base.specs.declared.Frame.{Frame}
use Rattle.og_base.specs.declared.Hot.{Hot}
use Rattle.og_base.specs.declared.VPage.{VPage}
use Rattle.og_base.specs.declared.Settings.{Settings}
use Rattle.og_pager.specs.PageTable.{PageTable, IsPageTable, IsFrame, is_quarantined, has_free, holders_of, moves_of, move_of}
use Rattle.og_mover.specs.declared.Route.{Route}
use Rattle.og_mover.specs.declared.Phase.{Phase}
use Rattle.og_mover.specs.declared.Phase.TheVariants.{Ask, Collect, Hold, Wait, Publish}
use Rattle.og_mover.specs.declared.Clearing.{Clearing}
use Rattle.og_mover.specs.declared.Clearing.TheVariants.{Tell, Gather, Clean, Cleaning}
use Rattle.og_mover.specs.declared.Job.{Job}
use Rattle.og_mover.specs.declared.Job.TheVariants.{Idle, Move, Reclaim}
use Rattle.og_mover.specs.Table.{MoverState}

-- the route is that of the page table's move, and its page may be moved
abbrev pub IsRoute : PageTable → Settings → Route → Type 0
IsRoute t settings route = (move_of t ≡ Some (route.page, route.old, route.new)) × (moves_of t route.page < settings.moves)

-- a phase names a block of the page
abbrev pub IsPhase : Phase → Type 0
IsPhase (Ask b) = b < 32
IsPhase (Collect b received) = b < 32
IsPhase (Hold b line) = b < 32
IsPhase (Wait b) = b < 32
IsPhase Publish = Unit {0}

-- the frame is in quarantine, and no page moves
abbrev pub IsCleared : PageTable → Frame → Type 0
IsCleared t frame = (move_of t ≡ None) × IsFrame t frame × (is_quarantined t frame ≡ true)

-- from the cleaning on no node holds the frame
abbrev pub IsClearing : PageTable → Frame → Clearing → Type 0
IsClearing t frame Tell = Unit {0}
IsClearing t frame Gather = Unit {0}
IsClearing t frame Clean = set.len (holders_of t frame) ≡ 0
IsClearing t frame Cleaning = set.len (holders_of t frame) ≡ 0

abbrev pub IsJob : PageTable → Settings → Job → Type 0
IsJob t settings Idle = move_of t ≡ None
IsJob t settings (Move route phase) = IsRoute t settings route × IsPhase phase
IsJob t settings (Reclaim frame step) = IsCleared t frame × IsClearing t frame step

pub record IsMover (m : MoverState) : Type 0 where
  pub pages : IsPageTable m.pages
  pub job : IsJob m.pages m.settings m.job

-- the page of a notice may move to the hot node: no page moves, this one may be moved, and the node has a free frame
abbrev pub MayMove : MoverState → Hot → VPage → Type 0
MayMove m hot page = (move_of m.pages ≡ None) × (moves_of m.pages page < m.settings.moves) × (has_free m.pages hot.node ≡ true)
