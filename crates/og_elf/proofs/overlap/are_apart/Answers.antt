use Rattle.std.proofs.Common.{rules, ◌≡◌, subst, sym, List}
use Rattle.std.specs.List.{All}
use Rattle.std.specs.List.Sorted.{IsPermutation, IsNonDecreasingBy}
use Rattle.std.proofs.Math.Path.{◌∙◌}
use Rattle.std.proofs.lemmas.List.Sorted.{All-permutation, IsNonDecreasingBy-from_sort_by_key}
use Rattle.og_elf.specs.declared.segment.Span.{Span}
use Rattle.og_elf.specs.Span.{IsWithin}
use Rattle.og_elf.specs.Segment.{are_apart}
use Rattle.og_elf.proofs.Apart.{apart_permuted}
use Rattle.og_elf.proofs.overlap.are_apart.Goals as goal

permuted : (xs ys zs : List Span) → zs ≡ xs → IsPermutation zs ys → IsPermutation xs ys
permuted xs ys zs is p = subst (λ (l : List Span). IsPermutation l ys) is p

pub neighbours_are_apart-requires-clause-within : goal.neighbours_are_apart-requires-clause-within
neighbours_are_apart-requires-clause-within c =
    subst (λ (l : List Span). All IsWithin l) (sym c.as_slice.ensures.value)
    (All-permutation IsWithin c.args.spans.now c.sort_by_key.new.self.items (permuted c.args.spans.now c.sort_by_key.new.self.items c.in_ok-sorted.sorted.items c.in_ok-sorted.ensures.items c.sort_by_key.ensures.permutation) c.requires)

pub neighbours_are_apart-requires-clause-rising : goal.neighbours_are_apart-requires-clause-rising
neighbours_are_apart-requires-clause-rising c =
    subst (λ (l : List Span). IsNonDecreasingBy (λ (s : Span). s.addr) l) (sym c.as_slice.ensures.value)
    (IsNonDecreasingBy-from_sort_by_key (λ (s : Span). s.addr) _ c.in_ok-sort_by_key.ensures.sorted (λ a r q k. search rules))

pub returns : goal.returns
returns c =
    let p : IsPermutation c.args.spans.now c.sort_by_key.new.self.items = permuted c.args.spans.now c.sort_by_key.new.self.items c.in_ok-sorted.sorted.items c.in_ok-sorted.ensures.items c.sort_by_key.ensures.permutation in
    c.neighbours_are_apart.ensures ∙ subst (λ (l : List Span). are_apart l ≡ are_apart c.args.spans.now) (sym c.as_slice.ensures.value) (apart_permuted c.args.spans.now c.sort_by_key.new.self.items p)
