-- The pages of a program with one page of data: the data page, then the stack pages.
use Rattle.std.proofs.Common.{◌≡◌, ℕ, suc, zero, ◌<◌, ◌≤◌, Bool, true, false, cond, List, [], ◌∷◌, ◌++◌, refl, ap, inl, inr, arith}
use Rattle.std.proofs.Math.Path.{◌∙◌}
use Rattle.std.specs.Prelude.{nat_eq}
use Rattle.std.specs.List.{filter}
use Rattle.std.proofs.lemmas.Bool.{cases_lt}
use Rattle.std.proofs.lemmas.Bool.Decides.{nat_tests}
use Rattle.std.proofs.lemmas.List.{append-nil}
use Rattle.std.proofs.lemmas.List.Elements.{filter-append}
use Rattle.og_base.specs.Numbers.{below}
use Rattle.og_image.specs.Image.{in_order, is_data_page, first_stack_page}
use Rattle.og_image.specs.Layout.{data_pages, stack_pages, pages_of, LayoutState}
use Rattle.og_machine.specs.Scenes.{program}
use Rattle.og_machine.specs.Runs.{PagesArePlaced}

module _ (p : ℕ → Bool) (at : ℕ) (is : (i : ℕ) → p i ≡ nat_eq i at) where
  more : (n : ℕ) → filter p (below (suc n)) ≡ filter p (below n) ++ cond (p n) (n ∷ []) []
  unfolding below
  more n = filter-append p (below n) (n ∷ [])

  none_below : (n : ℕ) → n ≤ at → filter p (below n) ≡ []
  unfolding below
  none_below zero low = refl
  none_below (suc n) low =
      let other : p n ≡ false = is n ∙ grind (arith, nat_tests) in
      more n ∙ ap (λ b. filter p (below n) ++ cond b (n ∷ []) []) other ∙ append-nil (filter p (below n)) ∙ none_below n (omega arith)

  one_there : (n : ℕ) → n ≡ at → filter p (below (suc n)) ≡ at ∷ []
  one_there n here =
      let this : p n ≡ true = is n ∙ grind (arith, nat_tests) in
      more n ∙ ap (λ b. filter p (below n) ++ cond b (n ∷ []) []) this ∙ ap (λ ns. ns ++ n ∷ []) (none_below n (omega arith)) ∙ ap (λ k. k ∷ []) here

  one_below : (n : ℕ) → at < n → filter p (below n) ≡ at ∷ []
  one_below zero above = absurd (omega arith)
  one_below (suc n) above = elim (cases_lt at n) [
    | inl higher ↦ let other : p n ≡ false = is n ∙ grind (arith, nat_tests) in more n ∙ ap (λ b. filter p (below n) ++ cond b (n ∷ []) []) other ∙ append-nil (filter p (below n)) ∙ one_below n higher
    | inr here ↦ one_there n (omega arith)
  ]

-- the one data page
one_page : (words : List ℕ) (nodes page : ℕ) → is_data_page (program words nodes) page ≡ nat_eq page 0x100
unfolding in_order
one_page words nodes page = grind (arith, nat_tests)

data_page : (words : List ℕ) (nodes : ℕ) → data_pages (program words nodes) ≡ 0x100 ∷ []
unfolding data_pages
data_page words nodes = one_below (is_data_page (program words nodes)) 0x100 (one_page words nodes) first_stack_page (omega arith)

pub pages_are_placed : PagesArePlaced
unfolding pages_of stack_pages
pages_are_placed words nodes = ap (λ pages. let l : LayoutState = record { nodes = nodes; pages = pages ++ stack_pages (program words nodes) } in l) (data_page words nodes)
