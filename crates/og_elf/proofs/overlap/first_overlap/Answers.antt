use Rattle.std.proofs.Common.{◌≡◌, arith, ◌≤◌, ◌<◌, ◌+◌, take, map, subst, sym, List, ℕ, true, false}
use Rattle.std.specs.List.{All}
use Rattle.std.proofs.Math.Path.{◌∙◌}
use Rattle.std.proofs.lemmas.List.Elements.{All-map, All-take}
use Rattle.og_elf.specs.declared.segment.Span.{Span}
use Rattle.og_elf.specs.declared.header.Header.{Header}
use Rattle.og_elf.specs.Span.{IsWithin}
use Rattle.og_elf.specs.Segment.{are_apart}
use Rattle.og_elf.specs.Elf.{span_of_header}
use Rattle.og_elf.proofs.Order.{found, none_found}
use Rattle.og_elf.proofs.overlap.first_overlap.Goals as goal

within : (hs : List Header) (xs : List Span) → xs ≡ map span_of_header hs → All (λ h. IsWithin (span_of_header h)) hs → All IsWithin xs
within hs xs is h = subst (λ (l : List Span). All IsWithin l) (sym is) (All-map IsWithin span_of_header hs h)

pub are_apart-requires : goal.are_apart-requires
are_apart-requires c = within c.args.loads.now c.as_slice.result.now (c.as_slice.ensures.value ∙ c.in_ok-spans.ensures) c.requires

pub returns-then-branch : goal.returns-then-branch
returns-then-branch c =
    let all : are_apart (map span_of_header c.args.loads.now) ≡ true = subst (λ (l : List Span). are_apart l ≡ true) (c.as_slice.ensures.value ∙ c.in_ok-spans.ensures) (sym c.in_ok-are_apart.ensures ∙ c.if-branch.true) in
    sym (none_found c.args.loads.now all)

pub are_apart-requires-in-loop-too_many : goal.are_apart-requires-in-loop-too_many
are_apart-requires-in-loop-too_many c =
    All-take IsWithin _ c.as_slice-in-loop-too_many.result.now (within c.args.loads.now c.as_slice-in-loop-too_many.result.now (c.as_slice-in-loop-too_many.ensures.value ∙ c.loop-too_many.invariant.spans) c.requires)

one_more : (a b : ℕ) → a < b → b ≤ a + 1 → b ≡ a + 1
one_more a b lt le = omega arith

pub returns : goal.returns
returns c =
    let next : c.loop-too_many.too_many ≡ c.loop-too_many.apart + 1 = one_more c.loop-too_many.apart c.loop-too_many.too_many c.loop-too_many.invariant.order (omega arith) in
    sym (found c.args.loads.now c.loop-too_many.apart _ (omega arith) c.loop-too_many.invariant.apart (subst (λ (n : ℕ). are_apart (take n (map span_of_header c.args.loads.now)) ≡ false) next c.loop-too_many.invariant.overlap))
