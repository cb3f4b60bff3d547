use Rattle.std.proofs.Common.{◌≡◌, arith}
use Rattle.std.proofs.lemmas.Grind.{common_steps}
use Rattle.rv_asm.specs.Printed.{printed}
use Rattle.rv_asm.proofs.Results.{of_text}
use Rattle.rv_asm.proofs.printer.print.Goals as goal

pub returns-clause-assembles : goal.returns-clause-assembles
returns-clause-assembles c p =
    let text : c.loop-word.text.items ≡ printed c.args.words.now = grind (arith, common_steps) in
    of_text c.loop-word.text.items c.args.words.now p text
