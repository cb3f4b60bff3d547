-- The line and the reservation that are written are those that the memory has after the access.
use Rattle.std.proofs.Common.{◌≡◌, ℕ, ◌/◌, ◌<◌, Option, Some, None, ap, sym, subst, ◌∙◌, get_or, set, length}
use Rattle.std.proofs.lemmas.List.{get_or_default}
use Rattle.og_line.specs.declared.Line.{Line}
use Rattle.og_line.specs.declared.Reservation.{Reservation}
use Rattle.og_line.specs.Line.{zero_line}
use Rattle.og_flat.specs.Flat.{Flat, block_of, flat_next}
use Rattle.og_flat.specs.Kept.{KeptState, Keeps, place_in}
use Rattle.og_flat.proofs.Keeping.{kept_next, line_then, reservation_then}
use Rattle.og_flat.proofs.machine.FlatMachine.access.Goals as goal

pub returns-clause-kept : goal.returns-clause-kept
returns-clause-kept c flat keeps =
    let kept : KeptState = record { pages = c.self.inside.pages.items; lines = c.self.inside.lines.items; reserved = c.self.inside.reserved.items } in
    let view : kept ≡ c.args.self.now = c.self.view_is in
    let keeps_inside : Keeps kept flat = subst (λ (k : KeptState). Keeps k flat) (sym view) keeps in
    let place : place_in kept.pages (block_of c.args.access.now) ≡ Some c.place-at.result =
    ap (λ (k : KeptState). place_in k.pages (block_of c.args.access.now)) view
    ∙ ap (λ n. place_in c.args.self.now.pages (n / 128)) (sym c.addr.ensures)
    ∙ c.place-at.ensures.place in
    let inside : c.place-at.result < length kept.lines = subst (λ (k : KeptState). c.place-at.result < length k.lines) (sym view) c.place-at.ensures.inside in
    let known : c.args.hart < length kept.reserved = subst (λ (k : KeptState). c.args.hart < length k.reserved) (sym view) c.requires.hart_known in
    let line : c.index_mut-line.result.now ≡ get_or kept.lines c.place-at.result zero_line =
    c.index_mut-line.ensures.value ∙ get_or_default kept.lines c.place-at.result c.index_mut-line.result.now zero_line inside in
    let mine : c.index_mut.result.now ≡ get_or kept.reserved c.args.hart None =
    c.index_mut.ensures.value
    ∙ ap (λ h. get_or kept.reserved h c.index_mut.result.now) c.from.ensures
    ∙ get_or_default kept.reserved c.args.hart c.index_mut.result.now None known in
    let new_line : line_then kept c.args.hart c.place-at.result c.args.access.now ≡ c.perform.new.self = cc (line, mine, c.perform.ensures.line) in
    let new_reservation : reservation_then kept c.args.hart c.place-at.result c.args.access.now ≡ c.perform.new.reserved = cc (line, mine, c.perform.ensures.reservation) in
    let next = kept_next kept flat c.args.hart c.place-at.result c.args.access.now keeps_inside place inside known in
    let after : Flat = flat_next flat c.args.hart c.args.access.now in
    let with_line : Keeps (record { pages = kept.pages; lines = set kept.lines c.place-at.result c.perform.new.self; reserved = set kept.reserved c.args.hart (reservation_then kept c.args.hart c.place-at.result c.args.access.now) }) after =
    subst (λ (l : Line). Keeps (record { pages = kept.pages; lines = set kept.lines c.place-at.result l; reserved = set kept.reserved c.args.hart (reservation_then kept c.args.hart c.place-at.result c.args.access.now) }) after) new_line next in
    let with_both : Keeps (record { pages = kept.pages; lines = set kept.lines c.place-at.result c.perform.new.self; reserved = set kept.reserved c.args.hart c.perform.new.reserved }) after =
    subst (λ (r : Option Reservation). Keeps (record { pages = kept.pages; lines = set kept.lines c.place-at.result c.perform.new.self; reserved = set kept.reserved c.args.hart r }) after) new_reservation with_line in
    subst (λ (h : ℕ). Keeps (record { pages = kept.pages; lines = set kept.lines c.place-at.result c.perform.new.self; reserved = set kept.reserved h c.perform.new.reserved }) after) (sym c.from.ensures) with_both
