use Rattle.std.proofs.Common.{◌≡◌, Some, refl, subst, sym, ◌∙◌, ap, arith}
use Rattle.std.specs.Prelude.{IsSome}
use Rattle.og_pager.specs.PageTable.{PageTable, IsPageTable, IsFrame, begun, page_of, least_free}
use Rattle.og_pager.proofs.Seen.{page_laws}
use Rattle.og_base.specs.declared.Settings.{Settings}
use Rattle.og_mover.specs.Table.{MoverState}
use Rattle.og_mover.specs.Sound.{IsMover, IsRoute}
use Rattle.og_mover.proofs.Kept.{begun_table}
use Rattle.og_mover.proofs.Mover.begin.Goals as goal

pub begin-new-requires-clause-placed : goal.begin-new-requires-clause-placed
begin-new-requires-clause-placed c =
    let there : page_of c.self.inside.pager c.args.hot.frame ≡ Some c.args.page = subst (λ (m : MoverState). page_of m.pages c.args.hot.frame ≡ Some c.args.page) (sym c.self.view_is) c.requires.frame in
    let inside : IsFrame c.self.inside.pager c.args.hot.frame = subst (λ (m : MoverState). IsFrame m.pages c.args.hot.frame) (sym c.self.view_is) c.requires.inside in
    subst IsSome (sym (page_laws.frame c.self.inside.pager c.args.page c.args.hot.frame c.self.invariant.pages inside there)) refl

pub invariant_of-self : goal.invariant_of-self
invariant_of-self c =
    let least : least_free c.args.self.now.pages c.args.hot.node ≡ Some c.begin-new.result = subst (λ (m : MoverState). least_free m.pages c.args.hot.node ≡ Some c.begin-new.result) c.self.view_is c.begin-new.ensures.frame in
    let e : c.begin-new.new.self ≡ begun c.args.self.now.pages c.args.page c.args.hot.node = c.begin-new.ensures.left ∙ ap (λ (m : MoverState). begun m.pages c.args.page c.args.hot.node) c.self.view_is in
    let after = begun_table c.args.self.now c.args.hot c.args.page c.begin-new.result (subst IsMover c.self.view_is c.self.invariant).pages c.requires.frame c.requires.inside c.requires.node c.requires.moves least in
    record {
      pages = subst IsPageTable (sym e) after.0;
      job = (
        subst (λ (t : PageTable). IsRoute t c.self.inside.settings (record { page = c.args.page; old = c.args.hot.frame; new = c.begin-new.result })) (sym e)
            (subst (λ (s : Settings). IsRoute (begun c.args.self.now.pages c.args.page c.args.hot.node) s (record { page = c.args.page; old = c.args.hot.frame; new = c.begin-new.result })) (sym (ap (λ (m : MoverState). m.settings) c.self.view_is)) after.1),
        omega arith,
      );
    }
