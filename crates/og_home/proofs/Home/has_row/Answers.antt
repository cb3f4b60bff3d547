use Rattle.std.proofs.Common.{◌≡◌, true, false, ap, subst, sym, ◌∙◌}
use Rattle.std.proofs.lemmas.Bool.{false≢true}
use Rattle.og_home.specs.Home.{HasRow, HasKindRow, HasNamedRow}
use Rattle.og_home.specs.Kept.{home_of}
use Rattle.og_home.proofs.Rows.{row_other}
use Rattle.og_home.proofs.Home.has_row.Goals as goal

pub returns-in-CleanFrame : goal.returns-in-CleanFrame
unfolding HasRow
returns-in-CleanFrame c =
    subst (λ k. (c.is_to_be_cleaned.result ≡ true → HasKindRow (home_of c.args.self.now) c.args.msg.now k) × (HasKindRow (home_of c.args.self.now) c.args.msg.now k → c.is_to_be_cleaned.result ≡ true)) (sym c.in-CleanFrame.is) c.is_to_be_cleaned.ensures

pub returns-in-Rearm : goal.returns-in-Rearm
unfolding HasRow
returns-in-Rearm c =
    subst (λ k. (c.is_judged.result ≡ true → HasKindRow (home_of c.args.self.now) c.args.msg.now k) × (HasKindRow (home_of c.args.self.now) c.args.msg.now k → c.is_judged.result ≡ true)) (sym c.in-Rearm.is) c.is_judged.ensures

pub returns-in-Some : goal.returns-in-Some
unfolding HasRow
returns-in-Some c =
    subst (λ (T : Type 0). (c.has_block_row.result ≡ true → T) × (T → c.has_block_row.result ≡ true))
    (sym (row_other (home_of c.args.self.now) c.args.msg.now c.args.msg.now.kind c.in_default.not-CleanFrame c.in_default.not-Rearm ∙ ap (HasNamedRow (home_of c.args.self.now) c.args.msg.now) (sym c.block.ensures ∙ c.in-Some.is)))
    c.has_block_row.ensures

pub returns-in-None : goal.returns-in-None
unfolding HasRow
returns-in-None c =
    subst (λ (T : Type 0). (false ≡ true → T) × (T → false ≡ true))
    (sym (row_other (home_of c.args.self.now) c.args.msg.now c.args.msg.now.kind c.in_default.not-CleanFrame c.in_default.not-Rearm ∙ ap (HasNamedRow (home_of c.args.self.now) c.args.msg.now) (sym c.block.ensures ∙ c.in-None.is)))
    ((λ h. absurd (false≢true h)), (λ h. absurd h))
