use Rattle.std.proofs.Common.{◌≡◌, ◌++◌, ap, subst, sym, ◌∙◌}
use Rattle.std.proofs.lemmas.List.{append-nil}
use Rattle.og_home.specs.Home.{HasRow, HasKindRow, HasNamedRow, serve, serve_kind, serve_named, rearm}
use Rattle.og_home.specs.Kept.{home_of}
use Rattle.og_home.proofs.Rows.{row_other, serve_other}
use Rattle.og_home.proofs.Home.serve.Goals as goal

pub clean_frame-requires-clause-frame : goal.clean_frame-requires-clause-frame
unfolding HasRow
clean_frame-requires-clause-frame c = (subst (λ k. HasKindRow (home_of c.args.self.now) c.args.msg.now k) c.in-CleanFrame.is c.requires.row).frame.inside

pub rearm-requires : goal.rearm-requires
unfolding HasRow
rearm-requires c = (subst (λ k. HasKindRow (home_of c.args.self.now) c.args.msg.now k) c.in-Rearm.is c.requires.row).frame.inside

pub serve_block-requires : goal.serve_block-requires
unfolding HasRow
serve_block-requires c = record {
  row = subst (λ (T : Type 0). T)
      (row_other (home_of c.args.self.now) c.args.msg.now c.args.msg.now.kind c.in_default.not-CleanFrame c.in_default.not-Rearm ∙ ap (HasNamedRow (home_of c.args.self.now) c.args.msg.now) (sym c.block.ensures ∙ c.in-Some.is))
      c.requires.row;
  room = c.requires.room;
}

pub returns-in-CleanFrame-clause-home : goal.returns-in-CleanFrame-clause-home
unfolding serve
returns-in-CleanFrame-clause-home c = c.clean_frame.ensures.home ∙ ap (λ k. (serve_kind (home_of c.args.self.now) c.args.msg.now k).home) (sym c.in-CleanFrame.is)

pub returns-in-CleanFrame-clause-letters : goal.returns-in-CleanFrame-clause-letters
unfolding serve
returns-in-CleanFrame-clause-letters c = c.clean_frame.ensures.letters ∙ ap (λ k. c.args.out.now ++ (serve_kind (home_of c.args.self.now) c.args.msg.now k).letters) (sym c.in-CleanFrame.is)

pub returns-in-Rearm-clause-home : goal.returns-in-Rearm-clause-home
unfolding serve
returns-in-Rearm-clause-home c = c.rearm.ensures ∙ ap (λ k. (serve_kind (home_of c.args.self.now) c.args.msg.now k).home) (sym c.in-Rearm.is)

pub returns-in-Rearm-clause-letters : goal.returns-in-Rearm-clause-letters
unfolding serve rearm
returns-in-Rearm-clause-letters c = sym (append-nil c.args.out.now) ∙ ap (λ k. c.args.out.now ++ (serve_kind (home_of c.args.self.now) c.args.msg.now k).letters) (sym c.in-Rearm.is)

pub returns-in-Some : goal.returns-in-Some
unfolding serve
returns-in-Some c =
    let is : serve_kind (home_of c.args.self.now) c.args.msg.now c.args.msg.now.kind ≡ serve_named (home_of c.args.self.now) c.args.msg.now c.block.result =
    serve_other (home_of c.args.self.now) c.args.msg.now c.args.msg.now.kind c.in_default.not-CleanFrame c.in_default.not-Rearm ∙ ap (serve_named (home_of c.args.self.now) c.args.msg.now) (sym c.block.ensures) in
    record {
      home = c.serve_block.ensures.home ∙ ap (λ s. s.home) (sym (is ∙ ap (serve_named (home_of c.args.self.now) c.args.msg.now) c.in-Some.is));
      letters = c.serve_block.ensures.letters ∙ ap (λ s. c.args.out.now ++ s.letters) (sym (is ∙ ap (serve_named (home_of c.args.self.now) c.args.msg.now) c.in-Some.is));
    }

pub returns-in-None : goal.returns-in-None
unfolding HasRow
returns-in-None c =
    absurd (subst (λ (T : Type 0). T)
    (row_other (home_of c.args.self.now) c.args.msg.now c.args.msg.now.kind c.in_default.not-CleanFrame c.in_default.not-Rearm ∙ ap (HasNamedRow (home_of c.args.self.now) c.args.msg.now) (sym c.block.ensures ∙ c.in-None.is))
    c.requires.row)
