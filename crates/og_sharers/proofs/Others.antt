-- How the nodes of a set of groups come together, group by group.
use Rattle.std.specs.Prelude.{◌≡◌, ℕ, ◌+◌, ◌*◌, ◌-◌, ◌/◌, ◌<◌, ◌≤◌, ◌&&◌, ◌||◌, not, Bool, true, false, nat_eq, nat_lt, nat_le, cond, refl}
use Rattle.std.specs.Ordering.{nat_cmp}
use Rattle.std.specs.FinSet as set
use Rattle.std.proofs.Common.{arith, sym, ap, ap₂, subst, ◌∙◌}
use Rattle.std.specs.Cmp.{nat_cmp_total, unsigned_tied}
use Rattle.std.proofs.lemmas.Bool.Decides.{nat_tests}
use Rattle.og_base.specs.Groups.{group_of, group_size}

-- ------------------------------------------------------------ one node

or_swapped : (a b g : Bool) → (a ≡ true → g ≡ true) → (a || b) ≡ (b || (a && g))
or_swapped true true g h = refl
or_swapped true false g h = sym (h refl)
or_swapped false true g h = refl
or_swapped false false g h = refl

or_nothing : (a b g : Bool) → (a ≡ true → g ≡ false) → b ≡ (b || (a && g))
or_nothing true true g h = refl
or_nothing true false g h = sym (h refl)
or_nothing false true g h = refl
or_nothing false false g h = refl

-- another node is put in
pub contains-added : (s : set.FinSet nat_cmp) (other node nodes k : ℕ) → other < nodes → (other ≡ node → ⊥) →
    set.contains (set.insert s other) k ≡ (set.contains s k || (nat_eq k other && (nat_lt k nodes && not (nat_eq k node))))
contains-added s other node nodes k lt ne =
    set.contains-insert nat_cmp_total s other k ∙ ap (λ b. b || set.contains s k) (unsigned_tied k other)
    ∙ or_swapped (nat_eq k other) (set.contains s k) (nat_lt k nodes && not (nat_eq k node)) good
  where
    good : nat_eq k other ≡ true → (nat_lt k nodes && not (nat_eq k node)) ≡ true
    good is =
        let e : k ≡ other = grind (arith, nat_tests) in
        let below : nat_lt k nodes ≡ true = grind (arith, nat_tests) in
        let apart : nat_eq k node ≡ false = grind (arith, nat_tests) in
        ap₂ (λ a b. a && not b) below apart

-- there is no such node, or it is the one that is left out
pub contains-left : (b : Bool) (other node nodes k : ℕ) → (nat_lt other nodes && not (nat_eq other node)) ≡ false →
    b ≡ (b || (nat_eq k other && (nat_lt k nodes && not (nat_eq k node))))
contains-left b other node nodes k out = or_nothing (nat_eq k other) b (nat_lt k nodes && not (nat_eq k node)) bad
  where
    bad : nat_eq k other ≡ true → (nat_lt k nodes && not (nat_eq k node)) ≡ false
    bad is = let e : k ≡ other = grind (arith, nat_tests) in subst (λ (j : ℕ). (nat_lt j nodes && not (nat_eq j node)) ≡ false) (sym e) out

-- ------------------------------------------------------------ one group

both : (b x y g : Bool) → ((b || (x && g)) || (y && g)) ≡ (b || ((x || y) && g))
both true x y g = refl
both false true true true = refl
both false true true false = refl
both false true false true = refl
both false true false false = refl
both false false y g = refl

-- a group's first and last node are all of it
in_group : (nodes group k : ℕ) → (nat_eq k (group * group_size nodes) || nat_eq k (group * group_size nodes + group_size nodes - 1)) ≡ nat_eq (group_of nodes k) group
in_group nodes group k = at (nat_le nodes 64)
  where
    at : (b : Bool) → (nat_eq k (group * cond b 1 2) || nat_eq k (group * cond b 1 2 + cond b 1 2 - 1)) ≡ nat_eq (k / cond b 1 2) group
    at true = let same : k / 1 ≡ k = omega arith in grind (arith, nat_tests)
    at false = grind (arith, nat_tests)

pub contains-group : (b : Bool) (node nodes group size k : ℕ) → size ≡ group_size nodes →
    ((b || (nat_eq k (group * size) && (nat_lt k nodes && not (nat_eq k node)))) || (nat_eq k (group * size + size - 1) && (nat_lt k nodes && not (nat_eq k node))))
    ≡ (b || (nat_eq (group_of nodes k) group && (nat_lt k nodes && not (nat_eq k node))))
contains-group b node nodes group size k is =
    both b (nat_eq k (group * size)) (nat_eq k (group * size + size - 1)) (nat_lt k nodes && not (nat_eq k node))
    ∙ ap (λ c. b || (c && (nat_lt k nodes && not (nat_eq k node)))) (subst (λ (z : ℕ). (nat_eq k (group * z) || nat_eq k (group * z + z - 1)) ≡ nat_eq (group_of nodes k) group) (sym is) (in_group nodes group k))

-- ------------------------------------------------------------ all groups

none_of : (l n : Bool) → (l && (false && n)) ≡ false
none_of true n = refl
none_of false n = refl

-- the groups below f are done, and g is the next
pub more_groups : (f g q : ℕ) (l c n : Bool) → f ≤ g → (q ≡ g → c ≡ true) → (f ≤ q → q < g → c ≡ false) →
    ((nat_lt q f && (l && (c && n))) || (nat_eq q g && (l && n))) ≡ (nat_lt q (g + 1) && (l && (c && n)))
more_groups f g q l c n le there gone = at (nat_lt q f) refl (nat_eq q g) refl (nat_lt q (g + 1)) refl
  where
    or-none : (b : Bool) → (b || false) ≡ b
    or-none true = refl
    or-none false = refl

    at : (x : Bool) → nat_lt q f ≡ x → (y : Bool) → nat_eq q g ≡ y → (z : Bool) → nat_lt q (g + 1) ≡ z → ((x && (l && (c && n))) || (y && (l && n))) ≡ (z && (l && (c && n)))
    at true x true y z w = absurd (let a : q < f = grind (arith, nat_tests) in let b : q ≡ g = grind (arith, nat_tests) in omega arith)
    at true x false y true w = or-none _
    at true x false y false w = absurd (let a : q < f = grind (arith, nat_tests) in let b : g + 1 ≤ q = grind (arith, nat_tests) in omega arith)
    at false x true y true w = let e : q ≡ g = grind (arith, nat_tests) in sym (ap (λ b. l && (b && n)) (there e))
    at false x true y false w = absurd (let a : q ≡ g = grind (arith, nat_tests) in let b : g + 1 ≤ q = grind (arith, nat_tests) in omega arith)
    at false x false y true w =
        let a : f ≤ q = grind (arith, nat_tests) in
        let b : q < g = grind (arith, nat_tests) in
        sym (ap (λ b. l && (b && n)) (gone a b) ∙ none_of l n)
    at false x false y false w = refl

-- no group is left
pub all_groups : (f q : ℕ) (l c n : Bool) → (f ≤ q → c ≡ false) → (nat_lt q f && (l && (c && n))) ≡ (l && (c && n))
all_groups f q l c n gone = at (nat_lt q f) refl
  where
    at : (x : Bool) → nat_lt q f ≡ x → (x && (l && (c && n))) ≡ (l && (c && n))
    at true x = refl
    at false x = let a : f ≤ q = grind (arith, nat_tests) in sym (ap (λ b. l && (b && n)) (gone a) ∙ none_of l n)
