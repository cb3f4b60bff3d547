use Rattle.std.proofs.Common.{rules, ◌*◌, ◌∙◌, ap, sym, subst, length, refl}
use Rattle.og_runs.specs.Runs.{joined, IsSorted}
use Rattle.og_runs.specs.World.{events_of}
use Rattle.og_runs.specs.Views.{LocalViews}
use Rattle.og_fabric.specs.Gathered.{views_of}
use Rattle.og_actors.specs.Rounds.{all_seen, all_whole, made_by}
use Rattle.og_actors.proofs.Merged.{kept, is_whole, counted, leads_local, are_logs, whole_run, length_closed}
use Rattle.og_actors.proofs.Seen.{length_seen, whole_seen, made_seen, closed_seen, tables_at, turns_at, back}
use Rattle.og_actors.proofs.whole.run.Goals as goal

pub run_rounds-ended-requires-clause-fabric : goal.run_rounds-ended-requires-clause-fabric
run_rounds-ended-requires-clause-fabric g c κs within = tables_at g.S.Scheme.state c.in_ok-fabric.fabric g.S.Scheme.start c.as_mut_slice.result.now c.in_ok-actors.actors.items c.as_mut_slice.ensures.value c.in_ok-actors.ensures.seated

pub run_rounds-ended-requires-clause-turns : goal.run_rounds-ended-requires-clause-turns
run_rounds-ended-requires-clause-turns g c κs within = turns_at g.S.Scheme.state (c.args.rounds * c.args.turns) g.S.Scheme.most c.in_ok-fabric.fabric g.S.Scheme.start c.as_mut_slice.result.now c.in_ok-actors.actors.items c.requires.most c.as_mut_slice.ensures.value c.in_ok-actors.ensures.seated

pub post_all-requires-clause-turn : goal.post_all-requires-clause-turn
post_all-requires-clause-turn g c =
    let k = kept g.S.Scheme.rules g.S.Scheme.stopped c.args.turns c.args.rounds c.run_rounds-ended.result _ _ c.run_rounds-ended.ensures.rounds in
    (back g.S.Scheme.state c.in_ok-fabric.fabric g.S.Scheme.start _ g.S.Scheme.actors c.in_ok-actors.actors.len c.as_mut_slice.result.now c.in_ok-actors.actors.items c.run_rounds-ended.new.actors c.as_mut_slice.ensures.value c.in_ok-actors.ensures.seated (search rules) c.in_ok-actors.ensures.all k).turn

pub post_all-requires-clause-whole : goal.post_all-requires-clause-whole
post_all-requires-clause-whole g c =
    let k = kept g.S.Scheme.rules g.S.Scheme.stopped c.args.turns c.args.rounds c.run_rounds-ended.result _ _ c.run_rounds-ended.ensures.rounds in
    let b = back g.S.Scheme.state c.in_ok-fabric.fabric g.S.Scheme.start _ g.S.Scheme.actors c.in_ok-actors.actors.len c.as_mut_slice.result.now c.in_ok-actors.actors.items c.run_rounds-ended.new.actors c.as_mut_slice.ensures.value c.in_ok-actors.ensures.seated (search rules) c.in_ok-actors.ensures.all k in
    ap (λ ps. all_whole ps) b.same ∙ (sym (whole_seen g.S.Scheme.state c.run_rounds-ended.new.actors) ∙ is_whole g.S.Scheme.rules g.S.Scheme.stopped c.args.turns c.args.rounds c.run_rounds-ended.result _ _ (search rules) c.run_rounds-ended.ensures.rounds)

pub gather-requires-clause-all : goal.gather-requires-clause-all
gather-requires-clause-all g c =
    let k = kept g.S.Scheme.rules g.S.Scheme.stopped c.args.turns c.args.rounds c.run_rounds-ended.result _ _ c.run_rounds-ended.ensures.rounds in
    let b = back g.S.Scheme.state c.in_ok-fabric.fabric g.S.Scheme.start _ g.S.Scheme.actors c.in_ok-actors.actors.len c.as_mut_slice.result.now c.in_ok-actors.actors.items c.run_rounds-ended.new.actors c.as_mut_slice.ensures.value c.in_ok-actors.ensures.seated (search rules) c.in_ok-actors.ensures.all k in
    ap (λ xs. length xs) c.in_ok-posted.ensures.logs ∙ (length_closed _ ∙ b.size)

pub returns : goal.returns
returns g c =
    let k = kept g.S.Scheme.rules g.S.Scheme.stopped c.args.turns c.args.rounds c.run_rounds-ended.result _ _ c.run_rounds-ended.ensures.rounds in
    let b = back g.S.Scheme.state c.in_ok-fabric.fabric g.S.Scheme.start _ g.S.Scheme.actors c.in_ok-actors.actors.len c.as_mut_slice.result.now c.in_ok-actors.actors.items c.run_rounds-ended.new.actors c.as_mut_slice.ensures.value c.in_ok-actors.ensures.seated (search rules) c.in_ok-actors.ensures.all k in
    let size = ap (λ xs. length xs) c.in_ok-posted.ensures.logs ∙ (length_closed _ ∙ b.size) in
    let closed = c.in_ok-posted.ensures.logs ∙ sym (closed_seen g.S.Scheme.state _) in
    let local = subst (λ xs. LocalViews g.S.Scheme.rules g.S.Scheme.start 0 (views_of xs)) (sym closed) (leads_local g.S.Scheme.rules g.S.Scheme.start 0 _ c.in_ok-posted.ensures.local) in
    let logs = are_logs g.S.Scheme.rules g.S.Scheme.start g.S.Scheme.actors c.in_ok-posted.posted.items c.in_ok-logs.field-0.logs.items c.in_ok-logs.field-0.left.items local c.in_ok-logs.ensures.consistent c.in_ok-logs.ensures.left size c.in_ok-logs.ensures.logs in
    let merged : IsSorted (joined (events_of c.in_ok-logs.field-0.logs.items)) c.in_ok-events.events.items = search rules in
    let same = ap (λ ps. all_seen g.S.Scheme.state ps) b.same in
    record {
      logs = logs;
      merged = merged;
      run = whole_run g.S.Scheme.rules g.S.Scheme.start g.S.Scheme.stopped c.args.turns c.args.rounds g.S.Scheme.actors c.run_rounds-ended.result _ (all_seen g.S.Scheme.state c.run_rounds-ended.new.actors) _ c.in_ok-posted.posted.items c.in_ok-logs.field-0.logs.items _ c.in_ok-logs.field-0.left.items
          c.in_ok-posted.ensures.local closed same (length_seen g.S.Scheme.state _ ∙ b.size) (search rules) c.run_rounds-ended.ensures.rounds c.in_ok-logs.ensures.consistent c.in_ok-logs.ensures.left c.in_ok-logs.ensures.logs merged;
      counted = counted g.S.Scheme.rules g.S.Scheme.stopped c.args.turns c.args.rounds g.S.Scheme.actors _ c.in_ok-fabric.fabric g.S.Scheme.start c.run_rounds-ended.result (all_seen g.S.Scheme.state c.as_mut_slice.result.now) (all_seen g.S.Scheme.state c.in_ok-actors.actors.items) (all_seen g.S.Scheme.state c.run_rounds-ended.new.actors) (all_seen g.S.Scheme.state c.run_rounds-ended.new.actors)
          (ap (λ ps. all_seen g.S.Scheme.state ps) c.as_mut_slice.ensures.value) c.in_ok-actors.ensures.seated (length_seen g.S.Scheme.state _ ∙ c.in_ok-actors.ensures.all) (search rules) c.run_rounds-ended.ensures.rounds refl
          (ap (λ ls. length (joined ls)) c.in_ok-logs.ensures.logs ∙ (c.in_ok-posted.ensures.events ∙ (ap (λ ps. made_by ps) b.same ∙ sym (made_seen g.S.Scheme.state c.run_rounds-ended.new.actors))));
    }
