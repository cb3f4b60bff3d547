use Rattle.std.proofs.Common.{◌≡◌, subst, ap, ◌∙◌}
use Rattle.og_image.specs.Image.{ImageState, image_of}
use Rattle.og_elf.specs.declared.segment.Elf.{Elf}
use Rattle.og_io.specs.Outside.{ShelfState}
use Rattle.og_load.specs.Images.{file_image}
use Rattle.og_print.specs.Runs.{PlayEnds}
use Rattle.og_print.proofs.Simulated.{played, unloaded_result}
use Rattle.og_run.specs.Threaded.{by_threads}
use Rattle.og_run.proofs.file.run_file.Goals as goal

pub returns-clause-ends : goal.returns-clause-ends
returns-clause-ends g c =
    let shelf : ShelfState = g.F.Shelf.seen c.args.shelf.now in
    let after : ShelfState = g.F.Shelf.seen c.load_program.new.shelf in
    let p = c.in_ok-program.ensures.loads in
    let image : c.in_ok-image.image ≡ file_image c.args.raw p.1.0 c.args.settings.now.nodes = c.in_ok-image.ensures.made ∙ ap (λ (e : Elf). image_of e.entry e.segments c.args.settings.now.nodes) p.1.3 in
    played c.args.raw c.args.name.now c.args.settings.now (by_threads c.args.rounds c.args.turns) shelf after p.1.0 (g.K.Sink.seen c.args.out.now) (g.K.Sink.seen c.play_threads.new.out) c.play_threads.result p.0 p.1.1 p.1.2
    (subst (λ (i : ImageState). PlayEnds i c.args.settings.now (by_threads c.args.rounds c.args.turns) (g.K.Sink.seen c.args.out.now) (g.K.Sink.seen c.play_threads.new.out) c.play_threads.result) image c.play_threads.ensures)

pub returns-in_err-program-clause-ends : goal.returns-in_err-program-clause-ends
returns-in_err-program-clause-ends g c =
    unloaded_result c.args.raw c.args.name.now c.args.settings.now (by_threads c.args.rounds c.args.turns) (g.F.Shelf.seen c.args.shelf.now) (g.F.Shelf.seen c.load_program.new.shelf) (g.K.Sink.seen c.args.out.now) c.in_err-program.field-0.0 c.from_residual.result
    c.in_err-program.ensures.loads c.from_residual.ensures.1
