use Rattle.std.proofs.Common.{◌*◌, sym, arith}
use Rattle.std.proofs.lemmas.Grind.{common_steps}
use Rattle.std.proofs.lemmas.List.{append-nil, append_assoc}
use Rattle.og_image.specs.Image.{start_byte}
use Rattle.og_flat.specs.Flat.{start_lines}
use Rattle.og_flat.proofs.Lines.{start_lines_more}
use Rattle.og_flat.proofs.machine.push_page.Goals as goal

pub loop-number-init : goal.loop-number-init
unfolding start_lines
loop-number-init c = sym (append-nil _)

pub loop-number-preserved : goal.loop-number-preserved
loop-number-preserved c =
    let more = start_lines_more (start_byte c.args.image.now) (32 * c.args.page) c.loop-number.number in
    rw more (grind (arith, common_steps, append_assoc))
