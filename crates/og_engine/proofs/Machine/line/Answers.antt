use Rattle.std.proofs.Common.{◌≡◌, ◌∙◌, None, Some, ap, sym}
use Rattle.og_mover.specs.Table.{place_of}
use Rattle.og_engine.specs.Kept.{KeptMachine}
use Rattle.og_engine.proofs.Lines.{frame_inside, nothing_held, line_held}
use Rattle.og_engine.proofs.Machine.line.Goals as goal

pub returns-in_err-frame : goal.returns-in_err-frame
returns-in_err-frame c =
    let at : place_of c.args.self.now.mover.local c.args.page c.args.number ≡ None = ap (λ (k : KeptMachine). place_of k.mover.local c.args.page c.args.number) (sym c.self.view_is) ∙ sym c.place.ensures ∙ c.in_err-frame.was in
    c.from_residual.ensures ∙ nothing_held c.args.self.now c.args.page c.args.number at

pub line_of-requires-clause-home : goal.line_of-requires-clause-home
line_of-requires-clause-home c =
    let at : place_of c.args.self.now.mover.local c.args.page c.args.number ≡ Some c.in_ok-frame.frame = ap (λ (k : KeptMachine). place_of k.mover.local c.args.page c.args.number) (sym c.self.view_is) ∙ sym c.place.ensures ∙ c.in_ok-frame.was in
    (frame_inside c.requires.made.0 c.args.self.now c.args.page c.args.number c.in_ok-frame.frame c.requires.made.1 at).0

pub line_of-requires-clause-frame : goal.line_of-requires-clause-frame
line_of-requires-clause-frame c =
    let at : place_of c.args.self.now.mover.local c.args.page c.args.number ≡ Some c.in_ok-frame.frame = ap (λ (k : KeptMachine). place_of k.mover.local c.args.page c.args.number) (sym c.self.view_is) ∙ sym c.place.ensures ∙ c.in_ok-frame.was in
    (frame_inside c.requires.made.0 c.args.self.now c.args.page c.args.number c.in_ok-frame.frame c.requires.made.1 at).1

pub returns : goal.returns
returns c =
    let at : place_of c.args.self.now.mover.local c.args.page c.args.number ≡ Some c.in_ok-frame.frame = ap (λ (k : KeptMachine). place_of k.mover.local c.args.page c.args.number) (sym c.self.view_is) ∙ sym c.place.ensures ∙ c.in_ok-frame.was in
    line_held c.args.self.now c.args.page c.args.number c.in_ok-frame.frame c.line_of.result at c.line_of.ensures
