use Rattle.std.proofs.Common.{◌≡◌, ◌+◌, ◌-◌, ◌*◌, ◌<◌, ◌++◌, [], ◌∷◌, ℕ, suc, List, Bool, true, false, cond, arith, refl, subst, sym, ap, ap₂, append_assoc, Vec, Global}
use Rattle.std.specs.List.{filter}
use Rattle.std.proofs.Math.Path.{◌∙◌}
use Rattle.std.proofs.lemmas.List.{append-nil}
use Rattle.og_elf.specs.declared.header.Header.{Header}
use Rattle.og_elf.specs.Elf.{loads_of, headers_from, header_at, is_loadable}
use Rattle.og_elf.proofs.read.loads_of.Goals as goal
use Rattle.og_elf.proofs.read.loads_of.Goals.{then-is_loadable+in_ok-push, else-is_loadable}

-- the first of the headers that are left
next : (file : List ℕ) (first i count : ℕ) → i < count → headers_from file (first + 56 * i) (count - i) ≡ header_at file (first + 56 * i) ∷ headers_from file (first + 56 * (i + 1)) (count - (i + 1))
next file first i count lt =
    let left : count - i ≡ suc (count - (i + 1)) = omega arith in
    let at : first + 56 * i + 56 ≡ first + 56 * (i + 1) = omega arith in
    rw (left, at) refl

kept : (found new : List Header) (h h' : Header) (rest all : List Header) → found ++ filter is_loadable (h ∷ rest) ≡ all → h' ≡ h → is_loadable h' ≡ true → new ≡ found ++ h' ∷ [] → new ++ filter is_loadable rest ≡ all
kept found new h h' rest all is same passes made =
    let loadable : is_loadable h ≡ true = subst (λ (x : Header). is_loadable x ≡ true) same passes in
    let here : filter is_loadable (h ∷ rest) ≡ h ∷ filter is_loadable rest = ap (λ (b : Bool). cond b (h ∷ filter is_loadable rest) (filter is_loadable rest)) loadable in
    let whole : (found ++ h ∷ []) ++ filter is_loadable rest ≡ all = append_assoc found (h ∷ []) (filter is_loadable rest) ∙ (ap (λ (l : List Header). found ++ l) (sym here) ∙ is) in
    subst (λ (l : List Header). l ++ filter is_loadable rest ≡ all) (sym made) (subst (λ (x : Header). (found ++ x ∷ []) ++ filter is_loadable rest ≡ all) (sym same) whole)

passed : (found new : List Header) (h h' : Header) (rest all : List Header) → found ++ filter is_loadable (h ∷ rest) ≡ all → h' ≡ h → is_loadable h' ≡ false → new ≡ found → new ++ filter is_loadable rest ≡ all
passed found new h h' rest all is same fails made =
    let out : is_loadable h ≡ false = subst (λ (x : Header). is_loadable x ≡ false) same fails in
    let here : filter is_loadable (h ∷ rest) ≡ filter is_loadable rest = ap (λ (b : Bool). cond b (h ∷ filter is_loadable rest) (filter is_loadable rest)) out in
    subst (λ (l : List Header). l ++ filter is_loadable rest ≡ all) (sym made) (ap (λ (l : List Header). found ++ l) (sym here) ∙ is)

pub loop-i-preserved : goal.loop-i-preserved
loop-i-preserved c =
    let h : Header = header_at c.args.bytes.now (c.headers_at-first.result + 56 * c.loop-i.i) in
    let rest : List Header = headers_from c.args.bytes.now (c.headers_at-first.result + 56 * (c.loop-i.i + 1)) (c.header_count-count.result - (c.loop-i.i + 1)) in
    let all : List Header = filter is_loadable (headers_from c.args.bytes.now c.headers_at-first.result c.header_count-count.result) in
    let place : header_at c.args.bytes.now (c.headers_at-first.result + c.from.result * c.from-in-loop-i.result) ≡ h = ap₂ (λ (x y : ℕ). header_at c.args.bytes.now (c.headers_at-first.result + x * y)) c.from.ensures c.from-in-loop-i.ensures in
    let whole : c.loop-i.loads.items ++ filter is_loadable (h ∷ rest) ≡ all = ap (λ (l : List Header). c.loop-i.loads.items ++ filter is_loadable l) (sym (next c.args.bytes.now c.headers_at-first.result c.loop-i.i c.header_count-count.result c.loop-i-test.true)) ∙ c.loop-i.invariant in
    elim c.if-is_loadable.branch [
      | then-is_loadable+in_ok-push w ↦
          kept c.loop-i.loads.items c.if-is_loadable.loads.items h c.read-header.result rest all whole (c.read-header.ensures ∙ place) (sym c.is_loadable.ensures ∙ w.if-is_loadable.true) (ap (λ (v : Vec Header Global). v.items) w.loads-is ∙ w.in_ok-push.ensures.items)
      | else-is_loadable w ↦
          passed c.loop-i.loads.items c.if-is_loadable.loads.items h c.read-header.result rest all whole (c.read-header.ensures ∙ place) (sym c.is_loadable.ensures ∙ w.if-is_loadable.false) (ap (λ (v : Vec Header Global). v.items) w.loads-is)
    ]

pub returns : goal.returns
unfolding loads_of
returns c =
    let none : c.header_count-count.result - c.loop-i.i ≡ 0 = omega arith in
    let done : c.loop-i.loads.items ++ [] ≡ filter is_loadable (headers_from c.args.bytes.now c.headers_at-first.result c.header_count-count.result) = subst (λ (n : ℕ). c.loop-i.loads.items ++ filter is_loadable (headers_from c.args.bytes.now (c.headers_at-first.result + 56 * c.loop-i.i) n) ≡ filter is_loadable (headers_from c.args.bytes.now c.headers_at-first.result c.header_count-count.result)) none c.loop-i.invariant in
    let all : c.loop-i.loads.items ≡ filter is_loadable (headers_from c.args.bytes.now c.headers_at-first.result c.header_count-count.result) = rw append-nil at done in
    all ∙ ap₂ (λ (at count : ℕ). filter is_loadable (headers_from c.args.bytes.now at count)) c.headers_at-first.ensures c.header_count-count.ensures
