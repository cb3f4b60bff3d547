use Rattle.std.proofs.Common.{◌≡◌, ◌+◌, ◌∙◌, ℕ, List, length, arith, sym, subst}
use Rattle.std.specs.Prelude.{All, max}
use Rattle.std.specs.List.Sorted.{IsNonDecreasingBy}
use Rattle.og_base.specs.Numbers.{below}
use Rattle.og_elf.specs.declared.segment.Segment.{Segment}
use Rattle.og_elf.specs.Segment.{IsPlaced}
use Rattle.og_image.specs.Image.{is_data_page, page_after}
use Rattle.og_image.specs.Layout.{data_pages}
use Rattle.og_image.proofs.Passes.{Clear, page_is, clear_after, clear_skip, after_low, all_pages_below}
use Rattle.og_image.proofs.layout.data_pages.Goals as goal
use Rattle.og_image.proofs.layout.data_pages.Goals.{then-segment+in_ok-next, else-segment}

pub loop-segment-init : goal.loop-segment-init
unfolding below
loop-segment-init c = record { listed = c.new-pages.ensures.items; low = omega arith; clear = λ k j d from before in_range. absurd (omega arith) }

pub loop-segment-preserved : goal.loop-segment-preserved
loop-segment-preserved c =
    let image = c.args.image.now in
    let xs : List Segment = c.segments-segments.result.now in
    let same : xs ≡ image.segments = c.segments-segments.ensures in
    let loads : All IsPlaced image.segments = c.stays_loadable.ensures.program.placed in
    let up : IsNonDecreasingBy (λ s. s.addr) image.segments = c.stays_loadable.ensures.rising in
    let next = c.loop-segment.next in
    let i = c.loop-segment.segment-index in
    let s = c.segment-item.result in
    let clear : Clear xs next i = c.loop-segment.invariant.clear in
    elim c.if-segment.branch [
      | then-segment+in_ok-next w ↦
          let end : w.in_ok-next.next ≡ max next (page_after s) = w.in_ok-next.ensures.end in
          let here : c.if-segment.next ≡ max next (page_after s) = w.next-is ∙ end in
          record {
            listed = rw (w.pages-is, w.next-is) (w.in_ok-next.ensures.added (is_data_page image)
                (λ k from to. page_is image xs same loads up next i s c.loop-segment-test.true c.segment-item.is clear w.if-segment.true k from (rw end at to))
                c.loop-segment.invariant.listed);
            low = rw here (after_low image xs same loads up next i s c.loop-segment-test.true c.segment-item.is clear c.loop-segment.invariant.low);
            clear = subst (λ (n : ℕ). Clear xs n (i + 1)) (sym here) (clear_after image xs same loads up next i s c.loop-segment-test.true c.segment-item.is clear);
          }
      | else-segment w ↦ record {
        listed = rw (w.pages-is, w.next-is) c.loop-segment.invariant.listed;
        low = rw w.next-is c.loop-segment.invariant.low;
        clear = subst (λ (n : ℕ). Clear xs n (i + 1)) (sym w.next-is) (clear_skip image xs same loads up next i s c.loop-segment-test.true c.segment-item.is clear w.if-segment.false);
      }
    ]

pub returns : goal.returns
unfolding data_pages
returns c =
    let image = c.args.image.now in
    let xs : List Segment = c.segments-segments.result.now in
    let same : xs ≡ image.segments = c.segments-segments.ensures in
    let all : c.loop-segment.segment-index ≡ length xs = omega arith in
    let clear : Clear xs c.loop-segment.next (length xs) = subst (λ (n : ℕ). Clear xs c.loop-segment.next n) all c.loop-segment.invariant.clear in
    c.loop-segment.invariant.listed ∙ sym (all_pages_below image xs same c.stays_loadable.ensures.program.placed c.stays_loadable.ensures.rising c.loop-segment.next c.loop-segment.invariant.low clear)
