use Rattle.std.proofs.Common.{◌≤◌, refl, arith}
use Rattle.std.proofs.lemmas.Grind.{common_steps}
use Rattle.og_pager.specs.PageTable.{first_table, Suits}
use Rattle.og_pager.proofs.Firsts.{first_sound}
use Rattle.og_pager.proofs.Kept.{same_table}
use Rattle.og_pager.proofs.Pager.make.Goals as goal

pub invariant_of-result : goal.invariant_of-result
unfolding first_table
invariant_of-result c =
    let suits : Suits c.args.layout.now c.args.layout.now.nodes c.args.settings.now.frames = record { shared = refl; rising = c.requires.rising; room = rw c.requires.shared c.requires.room } in
    let some : 1 ≤ c.args.layout.now.nodes = omega arith in
    let few : c.args.layout.now.nodes ≤ 128 = omega arith in
    let each : 1 ≤ c.args.settings.now.frames = omega arith in
    let most : c.args.settings.now.frames ≤ 1024 = omega arith in
    same_table _ (first_table c.args.layout.now c.args.settings.now.frames) (grind (arith, common_steps)) (first_sound c.args.layout.now c.args.settings.now.frames some few each most suits)
