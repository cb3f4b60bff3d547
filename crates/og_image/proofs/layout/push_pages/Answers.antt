use Rattle.std.proofs.Common.{◌≡◌, ◌<◌, ◌/◌, ◌∙◌, ℕ, true, arith, sym, subst}
use Rattle.std.specs.Prelude.{max}
use Rattle.std.specs.List.{filter}
use Rattle.std.proofs.lemmas.Grind.{common_steps}
use Rattle.og_base.specs.Numbers.{below}
use Rattle.og_image.specs.Image.{page_after}
use Rattle.og_image.proofs.Pages.{filter_below_more}
use Rattle.og_image.proofs.Passes.{gap_before, page_touches}
use Rattle.og_image.proofs.layout.push_pages.Goals as goal

pub loop-page-init : goal.loop-page-init
loop-page-init c p test before =
    let end : c.max-end.result ≡ max c.args.next (page_after c.args.segment.now) = c.max-end.ensures in
    let start : c.max-page.result ≡ max c.args.next (c.args.segment.now.addr / 4096) = c.max-page.ensures in
    before ∙ sym (subst (λ (n : ℕ). filter p (below n) ≡ filter p (below c.args.next)) (sym start)
    (gap_before p c.args.next c.args.segment.now c.requires (λ k from to. test k from (subst (λ (n : ℕ). k < n) (sym end) to))))

pub loop-page-preserved : goal.loop-page-preserved
loop-page-preserved c p test before =
    let end : c.max-end.result ≡ max c.args.next (page_after c.args.segment.now) = c.max-end.ensures in
    let start : c.max-page.result ≡ max c.args.next (c.args.segment.now.addr / 4096) = c.max-page.ensures in
    let so_far : c.loop-page.pages.items ≡ filter p (below c.loop-page.page) = c.loop-page.invariant p test before in
    let here : p c.loop-page.page ≡ true =
    test c.loop-page.page (omega arith) (omega arith) ∙ page_touches c.args.segment.now c.loop-page.page c.requires (omega arith) (omega arith) in
    rw (filter_below_more p c.loop-page.page, here, ← so_far) (grind (arith, common_steps))
