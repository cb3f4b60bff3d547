use Rattle.std.proofs.Common.{◌≡◌, arith, sym, ap, true, ℕ, Option, None, Some}
use Rattle.std.proofs.Math.Path.{◌∙◌}
use Rattle.std.specs.Str.{bytes_eq}
use Rattle.std.specs.Result.{result_ok}
use Rattle.std.proofs.lemmas.Slice.Eq.{bytes_eq-Decides}
use Rattle.og_words.proofs.Numbers.{number_in-some, number_in-none, accepted}
use Rattle.og_words.proofs.number.number_in.Goals as goal

pub returns-in_err-number-clause-value : goal.returns-in_err-number-clause-value
returns-in_err-number-clause-value c =
    c.from_residual.ensures ∙
    sym (number_in-none c.args.low c.args.high c.args.word.now c.parse.result (omega (arith, c.ranges.high.fits)) c.parse.ensures.value.0 (λ n read text above below.
    let none : ◌≡◌ {A = Option ℕ} None (Some n) = sym c.in_err-number.was ∙ (c.ok.ensures.value ∙ ap (λ r. result_ok r) read) in absurd (cc none)))

pub returns-then-number-high-clause-value : goal.returns-then-number-high-clause-value
returns-then-number-high-clause-value c =
    let equal : bytes_eq c.format.result.now c.args.word.now ≡ true = sym c.eq-is_plain.ensures ∙ c.if-is_plain.true in
    sym (number_in-some c.args.low c.args.high c.in_ok-number.number c.args.word.now (omega (arith, c.if-number-high.true, c.ranges.high.fits)) (sym c.format.ensures.text ∙ (bytes_eq-Decides c.format.result.now c.args.word.now).0 equal) c.if-low-number.true c.if-number-high.true)

pub returns-else-is_plain-clause-value : goal.returns-else-is_plain-clause-value
returns-else-is_plain-clause-value c =
    sym (number_in-none c.args.low c.args.high c.args.word.now c.parse.result (omega (arith, c.ranges.high.fits)) c.parse.ensures.value.0 (λ n read text above below.
    accepted c.args.low c.args.high c.in_ok-number.number n c.args.word.now c.format.result.now c.eq-is_plain.result (sym c.in_ok-number.was ∙ (c.ok.ensures.value ∙ ap (λ r. result_ok r) read)) c.format.ensures.text text c.eq-is_plain.ensures above below c.else-is_plain.either))
