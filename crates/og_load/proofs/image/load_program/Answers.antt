use Rattle.std.proofs.Common.{rules, ◌≡◌, ◌≤◌, List, ℕ, length, subst, sym}
use Rattle.og_io.specs.Outside.{ShelfState, HasFile}
use Rattle.og_load.specs.Images.{IsImageFile}
use Rattle.og_load.proofs.Images.{read_loads}
use Rattle.og_load.proofs.image.load_program.Goals as goal

pub returns-in-Ok-clause-loads : goal.returns-in-Ok-clause-loads
returns-in-Ok-clause-loads g c =
    let shelf : ShelfState = g.F.Shelf.seen c.args.shelf.now in
    let after : ShelfState = g.F.Shelf.seen c.fetch.new.self in
    let same : after ≡ shelf = search rules in
    let file : HasFile shelf.files c.args.name.now c.in-Ok.bytes.items = search rules in
    let short : length c.in-Ok.bytes.items ≤ 67108864 = search rules in
    let here : IsImageFile c.args.name.now shelf c.deref.result.now = subst (λ (b : List ℕ). IsImageFile c.args.name.now shelf b) (sym c.deref.ensures.value) (file, short) in
    read_loads c.args.raw c.args.name.now shelf after c.deref.result.now c.read_program.result same here c.read_program.ensures.fault c.read_program.ensures.known c.read_program.ensures.sound c.read_program.ensures.read
