use Rattle.std.proofs.Common.{◌≡◌, suc, ◌+◌, ◌-◌, ◌*◌, ◌<◌, ◌^◌, arith}
use Rattle.og_image.proofs.Numbers.{one_more, in_word}
use Rattle.og_image.proofs.image.+number.Goals as goal

pub overflow_mul-result : goal.overflow_mul-result
overflow_mul-result t c =
    let next : c.args.width ≡ suc (c.args.width - 1) = omega arith in
    let all : c.from.result + 256 * c.number.result < 256 ^ c.args.width = one_more c.args.width (c.args.width - 1) c.number.result c.from.result next c.number.ensures.small (omega arith) in
    omega (arith, in_word c.args.width c.requires.narrow, all)

pub overflow_add-result : goal.overflow_add-result
overflow_add-result t c =
    let next : c.args.width ≡ suc (c.args.width - 1) = omega arith in
    let all : c.from.result + 256 * c.number.result < 256 ^ c.args.width = one_more c.args.width (c.args.width - 1) c.number.result c.from.result next c.number.ensures.small (omega arith) in
    omega (arith, in_word c.args.width c.requires.narrow, all)

pub returns-clause-small : goal.returns-clause-small
returns-clause-small t c =
    let next : c.args.width ≡ suc (c.args.width - 1) = omega arith in
    one_more c.args.width (c.args.width - 1) c.number.result c.from.result next c.number.ensures.small (omega arith)
