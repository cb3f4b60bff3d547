-- The data pages below `next` are listed, and no page from there on has a byte of a segment so far that is writable.
use Rattle.std.proofs.Common.{◌≡◌, ◌≤◌}
use Rattle.std.specs.List.{filter}
use Rattle.og_image.specs.Image.{is_data_page}
use Rattle.og_base.specs.Numbers.{below}
use Rattle.og_image.proofs.Passes.{Clear}
use Rattle.og_image.proofs.layout.data_pages.Given as goal

abbrev pub invariant-loop-segment : goal.invariant-loop-segment
invariant-loop-segment l = record {
  listed : l.pages.items ≡ filter (is_data_page l.image) (below l.next);
  low : l.next ≤ 458752;
  clear : Clear l.segments l.next l.segment-index;
}
