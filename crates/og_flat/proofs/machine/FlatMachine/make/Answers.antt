-- The pages are those that are placed: they rise, lie below the last stack page, and have their lines as they are at the
-- start.
use Rattle.std.proofs.Common.{◌≡◌, ◌<◌, ◌/◌, ◌^◌, ℕ, List, length, get_or, subst, sym, arith}
use Rattle.og_image.specs.Image.{start_byte}
use Rattle.og_image.specs.Layout.{pages_of}
use Rattle.og_image.proofs.Pages.{pages_small, pages_rise}
use Rattle.og_image.proofs.Placed.{placed_page}
use Rattle.og_flat.proofs.Lines.{all_lines, length-all_lines}
use Rattle.og_flat.proofs.Begun.{keeps_start, some_place}
use Rattle.og_flat.proofs.machine.FlatMachine.make.Goals as goal

pub all_lines-requires : goal.all_lines-requires
all_lines-requires c =
    let pages : c.as_slice.result.now ≡ pages_of c.args.image.now = cc (c.as_slice.ensures.value, c.in_ok-pages.ensures) in
    subst (λ (xs : List ℕ). (k : ℕ) → k < length xs → get_or xs k 0 < 2 ^ 50) (sym pages)
    (λ k lt. let small = pages_small c.args.image.now k c.stays_loadable.ensures.few lt in omega arith)

pub invariant_of-result : goal.invariant_of-result
invariant_of-result c =
    let pages : c.in_ok-pages.pages.items ≡ pages_of c.args.image.now = c.in_ok-pages.ensures in
    let lines : c.in_ok-lines.lines.items ≡ all_lines (start_byte c.args.image.now) c.in_ok-pages.pages.items = cc (c.as_slice.ensures.value, c.in_ok-lines.ensures) in
    record {
      rising = rw pages (pages_rise c.args.image.now);
      filled = rw lines (length-all_lines (start_byte c.args.image.now) c.in_ok-pages.pages.items);
    }

pub returns-clause-start : goal.returns-clause-start
returns-clause-start c =
    let lines : c.in_ok-lines.lines.items ≡ all_lines (start_byte c.args.image.now) c.in_ok-pages.pages.items = cc (c.as_slice.ensures.value, c.in_ok-lines.ensures) in
    keeps_start (start_byte c.args.image.now) c.in_ok-pages.pages.items c.in_ok-lines.lines.items c.in_ok-reserved.reserved.items c.args.nodes lines c.in_ok-reserved.ensures

pub returns-clause-pages : goal.returns-clause-pages
returns-clause-pages c block is =
    let pages : c.in_ok-pages.pages.items ≡ pages_of c.args.image.now = c.in_ok-pages.ensures in
    rw pages (some_place (pages_of c.args.image.now) block (placed_page c.args.image.now (block / 32) c.stays_loadable.ensures.program is))
