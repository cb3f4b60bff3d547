-- Why a page is not moved: the first reason that applies.
use Rattle.std.specs.Prelude.{ℕ, Bool, not, nat_le, Option, Some, None, if◌then◌else◌}
use Rattle.og_base.specs.declared.Hot.{Hot}
use Rattle.og_base.specs.declared.Settings.{Settings}
use Rattle.og_base.specs.declared.Reason.{Reason}
use Rattle.og_base.specs.declared.Reason.TheVariants.{Busy, Shared, Worn, Full}

-- by the notice, the page's moves so far, whether the mover is idle, whether the hot node has a free frame, and the settings:
-- the mover is busy; another node uses the page so much that it counts as shared; the page was moved as often as it may be;
-- there is no free frame. None means that it is moved
abbrev pub decision : Hot → (moves : ℕ) → (idle free : Bool) → Settings → Option Reason
decision hot moves idle free settings =
    if not idle then Some Busy else (
    if nat_le settings.sharing hot.most then Some Shared else (
    if nat_le settings.moves moves then Some Worn else (
    if not free then Some Full else None)))
