use Rattle.std.proofs.Common.{◌≡◌, Some, None, nat_eq, ap, refl}
use Rattle.std.specs.List.{position}
use Rattle.std.specs.List.Sorted.{IsStrictlyIncreasing}
use Rattle.og_image.specs.Layout.{LayoutState}
use Rattle.og_image.proofs.Pages.{first_is, searched_page, searched_none}
use Rattle.og_image.proofs.layout.Layout.first.Goals as goal

pub returns-in-Ok : goal.returns-in-Ok
returns-in-Ok c =
    let up : IsStrictlyIncreasing c.as_slice.result.now = rw c.as_slice.ensures.value c.self.invariant.rising in
    let found : position (nat_eq c.args.page.0) c.as_slice.result.now ≡ Some c.in-Ok.i = searched_page c.as_slice.result.now c.args.page.0 c.in-Ok.i up c.in-Ok.ensures.position in
    let view : c.self.inside.pages.items ≡ c.args.self.now.pages = ap (λ (l : LayoutState). l.pages) c.self.view_is in
    let pages : c.args.self.now.pages ≡ c.as_slice.result.now = cc (c.as_slice.ensures.value, view) in
    rw (first_is c.args.self.now c.as_slice.result.now c.args.page.0 (Some c.in-Ok.i) pages found) (ap (λ f. Some f) c.frame.ensures)

pub returns-in-Err : goal.returns-in-Err
returns-in-Err c =
    let up : IsStrictlyIncreasing c.as_slice.result.now = rw c.as_slice.ensures.value c.self.invariant.rising in
    let found : position (nat_eq c.args.page.0) c.as_slice.result.now ≡ None = searched_none c.as_slice.result.now c.args.page.0 c.in-Err.field-0 up c.in-Err.ensures.position in
    let view : c.self.inside.pages.items ≡ c.args.self.now.pages = ap (λ (l : LayoutState). l.pages) c.self.view_is in
    let pages : c.args.self.now.pages ≡ c.as_slice.result.now = cc (c.as_slice.ensures.value, view) in
    rw (first_is c.args.self.now c.as_slice.result.now c.args.page.0 None pages found) refl
