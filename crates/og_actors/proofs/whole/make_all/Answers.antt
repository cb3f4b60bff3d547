use Rattle.std.proofs.Common.{rules, ◌∷◌, [], ◌++◌, sym, ap, ◌∙◌, append_assoc, arith, length}
use Rattle.og_actors.proofs.Lists.{new_here, length_snoc}
use Rattle.og_actors.proofs.Seen.{seated_more}
use Rattle.og_actors.proofs.whole.make_all.Goals as goal

pub make-requires-clause-seat : goal.make-requires-clause-seat
make-requires-clause-seat g c =
    let at = c.loop-seat in
    let whole = ap (λ z. at.yielded ++ z) (sym c.in-Some.ensures.steps.0) ∙ (at.invariant.0 ∙ c.into_iter-seat-iterator.ensures.into_iter_gives.0) in
    ap (λ k. k.side) (new_here _ _ c.in-Some.seat _ _ at.number c.requires.new whole at.invariant.4)

pub loop-seat-preserved : goal.loop-seat-preserved
loop-seat-preserved g c =
    let at = c.loop-seat in
    let x = c.in-Some.seat in
    let steps = c.in-Some.ensures.steps.0 in
    let whole = ap (λ z. at.yielded ++ z) (sym steps) ∙ (at.invariant.0 ∙ c.into_iter-seat-iterator.ensures.into_iter_gives.0) in (
      append_assoc at.yielded (x ∷ []) _ ∙ (ap (λ z. at.yielded ++ z) (sym steps) ∙ at.invariant.0),
      (let was = at.invariant.1 in let gone = c.in-Some.ensures.steps.1 in let short = ap length steps in omega arith),
      seated_more g.S.Scheme.state _ x.table g.S.Scheme.start at.number at.actors.items c.push.new.self.items c.make.result at.invariant.2 at.invariant.3 (ap (λ k. k.table) (new_here _ _ x _ _ at.number c.requires.new whole at.invariant.4)) c.make.ensures (search rules),
      search rules,
      length_snoc at.yielded x at.number at.invariant.4,
    )
