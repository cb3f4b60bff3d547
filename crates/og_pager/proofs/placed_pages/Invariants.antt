use Rattle.std.proofs.Common.{◌≡◌, ◌-◌, ◌≤◌, length, take}
use Rattle.og_pager.proofs.placed_pages.Given as goal

abbrev pub invariant-loop-page : goal.invariant-loop-page
invariant-loop-page l = (length l.pages.items ≤ length l.layout.pages) × (l.pages.items ≡ take (length l.pages.items) l.layout.pages)

abbrev pub decreases-loop-page : goal.decreases-loop-page
decreases-loop-page l = length l.layout.pages - length l.pages.items
