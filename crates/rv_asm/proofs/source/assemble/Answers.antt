use Rattle.std.proofs.Common.{◌≡◌, ◌+◌, ◌==◌, ℕ, List, false, length, arith, sym, ap, inr}
use Rattle.std.specs.Prelude.{Result, Ok}
use Rattle.std.proofs.Math.Path.{◌∙◌}
use Rattle.std.proofs.lemmas.Bool.Decides.{nat_tests}
use Rattle.rv_asm.specs.declared.source.SourceCause.TheVariants.{Size}
use Rattle.rv_asm.specs.declared.source.SourceFault.{SourceFault}
use Rattle.rv_asm.specs.declared.source.SourceFault.TheVariants.{Line as AtLine}
use Rattle.rv_asm.specs.Found.{places_in}
use Rattle.rv_asm.proofs.Assembly.{by_places, failed, empty, complete, as_fault}
use Rattle.rv_asm.proofs.Results.{same_words, no_fault}
use Rattle.rv_asm.proofs.source.assemble.Goals as goal

refused-in-Err : goal.returns-in-Err-clause-refused
refused-in-Err c fault e =
    let same : AtLine (c.loop-rest.number + 1) c.in-Err.cause ≡ fault = cc in
    let at : c.len.result ≡ length c.loop-rest.words.items = grind (arith, nat_tests) in
    inr (as_fault _ fault _ same (sym (by_places c.args.text.now (places_in c.in_ok-labels.labels) c.in_ok-labels.ensures) ∙
    failed (places_in c.in_ok-labels.labels) c.loop-rest.words.items c.loop-rest.rest.now c.split_line.result.0.now c.split_line.result.1.now c.loop-rest.number c.len.result (length c.loop-rest.words.items) c.in-Err.cause _ c.split_line.ensures.lines c.in-Err.ensures.value at c.loop-rest.invariant.whole))

refused-then-empty : goal.returns-then-is_empty-clause-refused
refused-then-empty c fault e =
    let same : AtLine c.max.result Size ≡ fault = cc in
    let none : length c.loop-rest.rest.now ≡ 0 = grind (arith, nat_tests) in
    let few : length c.loop-rest.words.items ≡ 0 = grind (arith, nat_tests) in
    inr (as_fault _ fault _ same (sym (by_places c.args.text.now (places_in c.in_ok-labels.labels) c.in_ok-labels.ensures) ∙
    empty (places_in c.in_ok-labels.labels) c.loop-rest.words.items c.loop-rest.rest.now c.loop-rest.number c.max.result _ none few c.max.ensures c.loop-rest.invariant.whole))

words-at-end : goal.returns-clause-words
words-at-end c =
    let none : length c.loop-rest.rest.now ≡ 0 = grind (arith, nat_tests) in
    let some : (length c.loop-rest.words.items == 0) ≡ false = grind (arith, nat_tests) in
    sym (by_places c.args.text.now (places_in c.in_ok-labels.labels) c.in_ok-labels.ensures) ∙
    (complete (places_in c.in_ok-labels.labels) c.loop-rest.words.items c.loop-rest.rest.now c.loop-rest.number _ none some c.loop-rest.invariant.whole ∙ ap (λ (ws : List ℕ). let r : Result (List ℕ) SourceFault = Ok ws in r) (sym c.of.ensures))

pub returns-in-Err-clause-refused : goal.returns-in-Err-clause-refused
returns-in-Err-clause-refused c = refused-in-Err c

pub returns-then-is_empty-clause-refused : goal.returns-then-is_empty-clause-refused
returns-then-is_empty-clause-refused c = refused-then-empty c

pub returns-clause-words : goal.returns-clause-words
returns-clause-words c = words-at-end c

pub returns-in-Err-clause-accepted : goal.returns-in-Err-clause-accepted
returns-in-Err-clause-accepted c ws p is fault e = no_fault c.args.text.now ws fault p is (refused-in-Err c fault e)

pub returns-then-is_empty-clause-accepted : goal.returns-then-is_empty-clause-accepted
returns-then-is_empty-clause-accepted c ws p is fault e = no_fault c.args.text.now ws fault p is (refused-then-empty c fault e)

pub returns-clause-printed : goal.returns-clause-printed
returns-clause-printed c ws p is = same_words c.args.text.now ws c.of.result p is (words-at-end c)
