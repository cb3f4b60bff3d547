use Rattle.std.proofs.Common.{◌≡◌, ◌*◌, length, ap, subst, ◌∙◌, arith}
use Rattle.std.specs.Prelude.{slice_index_or}
use Rattle.og_line.specs.Line.{zero_line}
use Rattle.og_home.specs.Kept.{IsHome}
use Rattle.og_home.proofs.Blocks.{block_read}
use Rattle.og_home.proofs.Home.line.Goals as goal

pub returns : goal.returns
returns c =
    let sound : IsHome c.args.self.now = subst IsHome c.self.view_is c.self.invariant in
    let all : length c.args.self.now.lines ≡ c.args.self.now.counters.rules.frames * 32 = sound.all_lines in
    block_read zero_line c.args.self.now.lines c.args.index c.args.number c.place.result c.index.result.now c.place.ensures c.requires.number (omega arith)
    (c.index.ensures ∙ ap (λ d. slice_index_or d.lines c.place.result c.index.result.now) c.self.view_is)
