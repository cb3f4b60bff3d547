use Rattle.std.proofs.Common.{◌≡◌, None, ◌≤◌, refl, subst, sym, arith}
use Rattle.og_pager.specs.PageTable.{PageTable, IsPageTable, Suits, move_of}
use Rattle.og_pager.proofs.Seen.{first_laws}
use Rattle.og_mover.proofs.Mover.make.Goals as goal

pub invariant_of-result : goal.invariant_of-result
invariant_of-result c =
    let suits : Suits c.args.layout.now c.args.layout.now.nodes c.args.settings.now.frames = record { shared = refl; rising = c.requires.rising; room = rw c.requires.shared c.requires.room } in
    let some : 1 ≤ c.args.layout.now.nodes = omega arith in
    let few : c.args.layout.now.nodes ≤ 128 = omega arith in
    let each : 1 ≤ c.args.settings.now.frames = omega arith in
    let most : c.args.settings.now.frames ≤ 1024 = omega arith in
    record {
      pages = subst IsPageTable (sym c.in_ok-pager.ensures) (first_laws.sound c.args.layout.now c.args.settings.now.frames some few each most suits);
      job = subst (λ (t : PageTable). move_of t ≡ None) (sym c.in_ok-pager.ensures) (first_laws.idle c.args.layout.now c.args.settings.now.frames);
    }
