use Rattle.std.proofs.Common.{◌≡◌, ℕ, Some, None, Ok, Err, nat_cmp, List, subst, sym}
use Rattle.og_pager.specs.PageTable.{PageTable, IsPageTable, number_of}
use Rattle.std.specs.List.Sorted.{IsBinarySearchResult}
use Rattle.og_image.proofs.Pages.{searched_page, searched_none}
use Rattle.og_pager.proofs.Kept.{number_low}
use Rattle.og_pager.proofs.Pager.page_number.Goals as goal

pub returns-in-Ok-clause-number : goal.returns-in-Ok-clause-number
returns-in-Ok-clause-number c =
    subst (λ (t : PageTable). Some c.in-Ok.number ≡ number_of t c.args.page) c.self.view_is (sym (searched_page c.self.inside.pages.items c.args.page.0 c.in-Ok.number c.self.invariant.sized.rising (subst (λ (xs : List ℕ). IsBinarySearchResult (λ y. nat_cmp y c.args.page.0) xs (Ok c.in-Ok.number)) c.as_slice.ensures.value c.in-Ok.ensures.position)))

pub returns-in-Err-clause-number : goal.returns-in-Err-clause-number
returns-in-Err-clause-number c =
    subst (λ (t : PageTable). None ≡ number_of t c.args.page) c.self.view_is (sym (searched_none c.self.inside.pages.items c.args.page.0 c.in-Err.field-0 c.self.invariant.sized.rising (subst (λ (xs : List ℕ). IsBinarySearchResult (λ y. nat_cmp y c.args.page.0) xs (Err c.in-Err.field-0)) c.as_slice.ensures.value c.in-Err.ensures.position)))

pub returns-in-Ok-clause-inside : goal.returns-in-Ok-clause-inside
returns-in-Ok-clause-inside c = λ n e. number_low c.args.self.now (subst IsPageTable c.self.view_is c.self.invariant) c.args.page n e

pub returns-in-Err-clause-inside : goal.returns-in-Err-clause-inside
returns-in-Err-clause-inside c = λ n e. number_low c.args.self.now (subst IsPageTable c.self.view_is c.self.invariant) c.args.page n e
