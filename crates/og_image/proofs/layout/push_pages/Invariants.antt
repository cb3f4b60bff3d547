-- The pages so far are those below this one that pass the test.
use Rattle.std.proofs.Common.{◌≡◌, ◌≤◌, ◌<◌, ℕ, Bool}
use Rattle.std.specs.List.{filter}
use Rattle.og_image.specs.Image.{touches}
use Rattle.og_base.specs.Numbers.{below}
use Rattle.og_image.proofs.layout.push_pages.Given as goal

abbrev pub invariant-loop-page : goal.invariant-loop-page
invariant-loop-page l =
    (p : ℕ → Bool) → ((k : ℕ) → l.fn.next ≤ k → k < l.end → p k ≡ touches k l.segment) → l.initial.pages.items ≡ filter p (below l.fn.next) → l.pages.items ≡ filter p (below l.page)
