use Rattle.std.proofs.Common.{rules, ◌∷◌, [], ◌++◌, sym, ap, ◌∙◌, append_assoc, arith, length, map, subst}
use Rattle.std.specs.Vec.Iter.{into_iter_items}
use Rattle.og_runs.specs.Runs.{joined}
use Rattle.og_runs.specs.Views.{logs_of}
use Rattle.og_fabric.specs.Gathered.{InTurn, views_of}
use Rattle.og_actors.specs.Actors.{closed_of}
use Rattle.og_actors.specs.Rounds.{LeadAll, all_seen, made_by}
use Rattle.og_actors.proofs.Lists.{actor_at, whole_at, closed_into, events_more, closed_turn, all_of}
use Rattle.og_actors.proofs.Seen.{leads_seen}
use Rattle.og_actors.proofs.whole.post_all.Goals as goal

pub post-requires : goal.post-requires
post-requires g c =
    let at = c.loop-actor in
    let whole = ap (λ z. at.yielded ++ z) (sym c.in-Some.ensures.steps.0) ∙ (at.invariant.0 ∙ c.into_iter-actor-iterator.ensures.into_iter_gives.0) in
    record { whole = whole_at at.yielded c.in-Some.actor _ _ c.requires.whole whole }

pub loop-actor-preserved : goal.loop-actor-preserved
loop-actor-preserved g c =
    let at = c.loop-actor in
    let x = c.in-Some.actor in
    let i = at.invariant in
    let steps = c.in-Some.ensures.steps.0 in
    let whole = ap (λ z. at.yielded ++ z) (sym steps) ∙ (i.0 ∙ c.into_iter-actor-iterator.ensures.into_iter_gives.0) in
    let who = actor_at _ at.yielded x _ _ c.requires.turn whole in (
      append_assoc at.yielded (x ∷ []) _ ∙ (ap (λ z. at.yielded ++ z) (sym steps) ∙ i.0),
      (let was = i.1 in let gone = c.in-Some.ensures.steps.1 in let short = ap length steps in omega arith),
      closed_into at.yielded x at.posted.items c.push.new.self.items c.post.result i.2 c.post.ensures.posted (search rules),
      leads_seen g.S.Scheme.state g.S.Scheme.rules g.S.Scheme.start at.yielded x i.3 who.1 c.post.ensures.local,
      events_more at.yielded x i.4 c.post.ensures.count,
    )

pub returns : goal.returns
returns g c =
    let at = c.loop-actor in
    let i = at.invariant in
    let none = c.in-None.ensures.steps in
    let all = all_of (into_iter_items at.actor-iterator) at.yielded c.args.actors.items (i.0 ∙ c.into_iter-actor-iterator.ensures.into_iter_gives.0) (sym i.1 ∙ none.0) in
    let same = i.2 ∙ ap (λ ys. map (λ p. closed_of p) ys) all in
    record {
      turn = subst (λ xs. InTurn c.args.fabric.now 0 xs) (sym same) (closed_turn c.args.fabric.now 0 c.args.actors.items c.requires.turn);
      local = subst (λ xs. LeadAll g.S.Scheme.rules g.S.Scheme.start 0 (all_seen g.S.Scheme.state xs)) all i.3;
      logs = same;
      events = ap (λ xs. length (joined (logs_of (views_of xs)))) i.2 ∙ (i.4 ∙ ap (λ ys. made_by ys) all);
    }
