use Rattle.std.proofs.Common.{rules, ◌≡◌, ℕ, [], sym, ap, subst, false, arith, nat_eq, is_lt, List}
use Rattle.std.specs.Ordering.{nat_cmp}
use Rattle.std.specs.List.Sorted.{ties, IsNonDecreasingBy, IsPermutation}
use Rattle.std.proofs.Math.Path.{◌∙◌}
use Rattle.std.proofs.lemmas.Bool.Decides.{nat_tests}
use Rattle.std.proofs.lemmas.List.Sorted.{answers_always, IsNonDecreasingBy-from_sort_by_key}
use Rattle.og_elf.specs.declared.segment.Segment.{Segment}
use Rattle.og_image.specs.Image.{in_order}
use Rattle.og_image.proofs.Ordering.{at, sorted_is, same_at}
use Rattle.og_image.proofs.image.in_order.Goals as goal

abbrev one : ℕ → Segment
one a = record { addr = a; size = 0; bytes = []; writable = false; runnable = false }

same_test : (a : ℕ) (e : Segment) → ties (λ (x y : Segment). is_lt (nat_cmp x.addr y.addr)) (one a) e ≡ nat_eq e.addr a
same_test a e = grind (arith, nat_tests)

permuted : (xs ys zs : List Segment) → ys ≡ xs → IsPermutation ys zs → IsPermutation xs zs
permuted xs ys zs is p = subst (λ (l : List Segment). IsPermutation l zs) is p

pub returns-clause-order : goal.returns-clause-order
returns-clause-order c =
    let up : IsNonDecreasingBy (λ (s : Segment). s.addr) c.sort_by_key.new.self.items = IsNonDecreasingBy-from_sort_by_key (λ (s : Segment). s.addr) _ c.in_ok-sort_by_key.ensures.sorted (λ a r q k. search rules) in
    let groups : (a : ℕ) → at a c.sort_by_key.new.self.items ≡ at a c.into_items-items.result.items = same_at (λ a e. ties (λ (x y : Segment). is_lt (nat_cmp x.addr y.addr)) (one a) e) same_test c.into_items-items.result.items c.sort_by_key.new.self.items
    (λ a. c.sort_by_key.ensures.stable (λ s. s.addr) (answers_always _ _ _ (λ f x r g h. search rules)) (one a)) in
    c.of.ensures ∙ (sorted_is c.into_items-items.result.items c.sort_by_key.new.self.items up groups ∙ ap in_order c.into_items-items.ensures)

pub returns-clause-permutation : goal.returns-clause-permutation
returns-clause-permutation c = subst (λ (l : List Segment). IsPermutation c.args.segments l) (sym c.of.ensures) (permuted c.args.segments c.into_items-items.result.items c.sort_by_key.new.self.items c.into_items-items.ensures c.sort_by_key.ensures.permutation)

pub returns-clause-rising : goal.returns-clause-rising
returns-clause-rising c = subst (λ (l : List Segment). IsNonDecreasingBy (λ (s : Segment). s.addr) l) (sym c.of.ensures) (IsNonDecreasingBy-from_sort_by_key (λ (s : Segment). s.addr) _ c.in_ok-sort_by_key.ensures.sorted (λ a r q k. search rules))
