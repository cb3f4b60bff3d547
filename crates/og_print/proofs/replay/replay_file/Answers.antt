use Rattle.std.proofs.Common.{◌≡◌, ℕ, List, subst, ap, ◌∙◌}
use Rattle.og_image.specs.Image.{ImageState, image_of}
use Rattle.og_elf.specs.declared.segment.Elf.{Elf}
use Rattle.og_io.specs.Outside.{ShelfState}
use Rattle.og_runs.specs.declared.Choice.{Choice}
use Rattle.og_load.specs.Images.{file_image}
use Rattle.og_load.specs.Choices.{ReadFrom}
use Rattle.std.specs.Prelude.{Ok}
use Rattle.og_print.specs.Files.{AreRead, GivenEnds}
use Rattle.og_print.proofs.Replayed.{played}
use Rattle.og_print.proofs.replay.replay_file.Goals as goal

pub returns-clause-ends : goal.returns-clause-ends
returns-clause-ends g c =
    let shelf : ShelfState = g.F.Shelf.seen c.args.shelf.now in
    let middle : ShelfState = g.F.Shelf.seen c.load_program.new.shelf in
    let after : ShelfState = g.F.Shelf.seen c.load_choices.new.shelf in
    let p = c.in_ok-program.ensures.loads in
    let q = c.in_ok-loaded.ensures.loads in
    let read : ReadFrom c.args.words.now c.args.given.now c.args.choices.now shelf (Ok c.in_ok-loaded.loaded) =
    subst (λ (s : ShelfState). ReadFrom c.args.words.now c.args.given.now c.args.choices.now s (Ok c.in_ok-loaded.loaded)) p.0 q.1 in
    let files : AreRead c.args.raw c.args.image.now c.args.choices.now c.args.words.now c.args.given.now shelf = record { bytes = p.1.0; program = (p.1.1, p.1.2); loaded = c.in_ok-loaded.loaded; read = read } in
    let image : c.in_ok-image.image ≡ file_image c.args.raw p.1.0 c.in_ok-loaded.loaded.settings.nodes = c.in_ok-image.ensures.made ∙ ap (λ (e : Elf). image_of e.entry e.segments c.in_ok-loaded.loaded.settings.nodes) p.1.3 in
    played c.args.raw c.args.image.now c.args.choices.now c.args.words.now c.args.given.now shelf after (g.K.Sink.seen c.args.out.now) (g.K.Sink.seen c.play_given.new.out) c.play_given.result (q.0 ∙ p.0) files
    (subst (λ (i : ImageState). GivenEnds i c.in_ok-loaded.loaded.settings c.in_ok-loaded.loaded.choices c.in_ok-loaded.loaded.lines (g.K.Sink.seen c.args.out.now) (g.K.Sink.seen c.play_given.new.out) c.play_given.result) image
    (subst (λ (l : List Choice). GivenEnds c.in_ok-image.image c.in_ok-loaded.loaded.settings l c.in_ok-loaded.loaded.lines (g.K.Sink.seen c.args.out.now) (g.K.Sink.seen c.play_given.new.out) c.play_given.result) c.as_slice.ensures
    (subst (λ (l : List ℕ). GivenEnds c.in_ok-image.image c.in_ok-loaded.loaded.settings c.as_slice.result.now l (g.K.Sink.seen c.args.out.now) (g.K.Sink.seen c.play_given.new.out) c.play_given.result) c.as_slice-2.ensures c.play_given.ensures)))
