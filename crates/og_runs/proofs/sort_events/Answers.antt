use Rattle.std.proofs.Common.{rules, ◌≡◌, OnOk, arith, false, List, is_lt, Bor, Result}
use Rattle.std.specs.Fn.{ComputesKey}
use denote.Param.Members.{Mut}
use Rattle.og_runs.specs.declared.Stamp.{Stamp}
use Rattle.std.specs.List.Sorted.{ties, IsSortedByKeyClosure}
use Rattle.std.proofs.Math.Path.{◌∙◌, sym}
use Rattle.std.proofs.lemmas.Bool.Decides.{nat_tests}
use Rattle.std.proofs.lemmas.Result.{on_ok_weaker}
use Rattle.std.proofs.lemmas.List.Sorted.{answers_always}
use Rattle.og_runs.specs.declared.Event.{Event}
use Rattle.og_runs.specs.contracts.StampOrd.TheImpl as ord
use Rattle.og_runs.specs.Runs.{same_stamp, NotAfter, InOrder}
use Rattle.og_runs.proofs.Sorts.{filter_same, chain_sorted}
use Rattle.og_runs.proofs.sort_events.Goals as goal

same_test : {N : Type 0} → (x e : Event N) → ties (λ (x' y : Event N). is_lt (ord.ghosts.cmp x'.stamp y.stamp)) x e ≡ same_stamp x e
same_test x e = grind (arith, nat_tests)

no_later : {N : Type 0} → (x y : Event N) → is_lt (ord.ghosts.cmp y.stamp x.stamp) ≡ false → NotAfter x y
no_later x y e = grind (arith, nat_tests)

in_order : {N E F : Type 0} → (g : Mut F (Bor (Event N) × Unit {0}) Stamp) (f : F) (r : Result (Unit {0}) E) (xs : List (Event N)) → OnOk r (IsSortedByKeyClosure g ord.ghosts.cmp f xs) → ComputesKey g (λ e. e.stamp) f → OnOk r (InOrder xs)
in_order {N} g f r xs sorted key = on_ok_weaker r (λ (h : IsSortedByKeyClosure g ord.ghosts.cmp f xs). chain_sorted (λ (x y : Event N). is_lt (ord.ghosts.cmp x.stamp y.stamp)) NotAfter no_later xs (h (λ e. e.stamp) key)) sorted

pub returns-clause-ordered : goal.returns-clause-ordered
returns-clause-ordered g c = in_order _ _ _ _ c.sort_by_key.ensures.sorted (answers_always _ _ _ (λ f a r g h. search rules))

pub returns-clause-stable : goal.returns-clause-stable
returns-clause-stable g c x =
    let h = c.sort_by_key.ensures.stable (λ e. e.stamp) (answers_always _ _ _ (λ f a r g h. search rules)) x in
    sym (filter_same _ _ (same_test x) _) ∙ (h ∙ filter_same _ _ (same_test x) _)
