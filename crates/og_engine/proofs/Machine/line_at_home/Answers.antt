use Rattle.std.proofs.Common.{rules, ◌≡◌, ◌<◌, ◌∙◌, Some, length, arith, ap, sym}
use Rattle.std.specs.Prelude.{slice_get, vec_len}
use Rattle.og_home.specs.Kept.{KeptHome, home_of}
use Rattle.og_engine.specs.Kept.{KeptMachine}
use Rattle.og_engine.proofs.Counts.{nodes_count}
use Rattle.og_engine.proofs.Lines.{home_there, home_line, home_read}
use Rattle.og_engine.proofs.Machine.line_at_home.Goals as goal

pub index-home-requires : goal.index-home-requires
index-home-requires c =
    let count : length c.args.self.now.nodes ≡ c.args.self.now.settings.nodes = nodes_count c.requires.made.0 c.args.self.now c.requires.made.1 in
    let here : length c.self.inside.nodes.items ≡ length c.args.self.now.nodes = ap (λ (k : KeptMachine). length k.nodes) c.self.view_is in
    let long : vec_len c.self.inside.nodes ≡ length c.self.inside.nodes.items = search rules in
    let at : c.from.result ≡ c.args.block.frame.home = c.from.ensures in
    let inside : c.args.block.frame.home < c.args.self.now.settings.nodes = c.requires.home in
    omega arith

pub line-requires-clause-frame : goal.line-requires-clause-frame
line-requires-clause-frame c =
    let there : slice_get c.args.self.now.nodes c.args.block.frame.home ≡ Some c.index-home.result.now =
    home_read c.requires.made.0 c.args.self.now c.self.inside.nodes.items c.args.block c.from.result c.index-home.result.now c.requires.made.1 c.requires.home (ap (λ (k : KeptMachine). k.nodes) c.self.view_is) c.from.ensures c.index-home.ensures in
    let frames : c.home.result.now.counters.rules.frames ≡ c.args.self.now.settings.frames =
    ap (λ (h : KeptHome). (home_of h).rules.frames) c.home.ensures ∙ (home_there c.requires.made.0 c.args.self.now c.args.block.frame.home c.index-home.result.now c.requires.made.1 there).frames in
    let low : c.args.block.frame.index < c.args.self.now.settings.frames = c.requires.frame in
    omega arith

pub returns : goal.returns
returns c =
    let there : slice_get c.args.self.now.nodes c.args.block.frame.home ≡ Some c.index-home.result.now =
    home_read c.requires.made.0 c.args.self.now c.self.inside.nodes.items c.args.block c.from.result c.index-home.result.now c.requires.made.1 c.requires.home (ap (λ (k : KeptMachine). k.nodes) c.self.view_is) c.from.ensures c.index-home.ensures in
    home_line c.requires.made.0 c.args.self.now c.args.block c.index-home.result.now c.requires.made.1 there
    ∙ ap (λ (h : KeptHome). Some ((home_of h).line c.args.block.frame.index c.args.block.number)) (sym c.home.ensures)
    ∙ ap Some (sym c.line.ensures)
