use Rattle.std.proofs.Common.{◌≡◌, ◌<◌, length, arith, sym, ap}
use Rattle.std.proofs.Math.Path.{◌∙◌}
use Rattle.std.proofs.lemmas.Bool.Decides.{nat_tests}
use Rattle.rv_asm.specs.Syntax.{lexed, tokens_of}
use Rattle.rv_asm.specs.declared.token.Kind.{Kind}
use Rattle.rv_asm.proofs.Tokens.{word_first, nothing_left, mark_first, nil}
use Rattle.rv_asm.proofs.token.next_token.Goals as goal

pub returns-then-not-is_empty : goal.returns-then-not-is_empty
returns-then-not-is_empty c =
    let some : 0 < length c.split_at.result.0.now = grind (arith, nat_tests) in
    sym c.skip_blanks-text.ensures.same ∙ word_first c.skip_blanks-text.result.now c.split_at.result.0.now c.split_at.result.1.now c.word_length.result c.word_length.ensures.within c.word_length.ensures.word c.split_at.ensures.front c.split_at.ensures.back some

pub returns-in-None : goal.returns-in-None
returns-in-None c =
    let none : length c.split_at.result.0.now ≡ 0 = grind (arith, nat_tests) in
    let empty : length c.split_at.result.1.now ≡ 0 = c.in-None.ensures.cases in
    sym c.skip_blanks-text.ensures.same ∙ nothing_left c.skip_blanks-text.result.now c.split_at.result.0.now c.split_at.result.1.now c.word_length.result c.word_length.ensures.within c.word_length.ensures.word c.split_at.ensures.front c.split_at.ensures.back none (nil _ empty)

pub returns-in-Some : goal.returns-in-Some
returns-in-Some c =
    let none : length c.split_at.result.0.now ≡ 0 = grind (arith, nat_tests) in
    sym c.skip_blanks-text.ensures.same ∙ (mark_first c.skip_blanks-text.result.now c.split_at.result.0.now c.split_at.result.1.now c.word_length.result c.in-Some.first.now c.in-Some.rest.now c.word_length.ensures.within c.word_length.ensures.word c.split_at.ensures.front c.split_at.ensures.back none c.in-Some.ensures.cases.0
    c.skip_blanks-text.ensures.not_blank ∙ ap (λ (k : Kind). lexed k c.split_at.result.0.now (tokens_of c.in-Some.rest.now)) (sym c.mark.ensures))
