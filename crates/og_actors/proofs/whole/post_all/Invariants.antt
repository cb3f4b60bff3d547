use Rattle.std.proofs.Common.{◌≡◌, ◌++◌, length, map}
use Rattle.std.specs.Vec.Iter.{into_iter_items, into_iter_len}
use Rattle.og_runs.specs.Runs.{joined}
use Rattle.og_runs.specs.Views.{logs_of}
use Rattle.og_fabric.specs.Gathered.{views_of}
use Rattle.og_actors.specs.Actors.{closed_of}
use Rattle.og_actors.specs.Rounds.{LeadAll, all_seen, made_by}
use Rattle.og_actors.proofs.whole.post_all.Given as goal

abbrev pub invariant-loop-actor : goal.invariant-loop-actor
invariant-loop-actor g l = (l.yielded ++ into_iter_items l.actor-iterator ≡ into_iter_items l.initial.actor-iterator)
    × (into_iter_len l.actor-iterator ≡ length (into_iter_items l.actor-iterator))
    × (l.posted.items ≡ map (λ p. closed_of p) l.yielded)
    × LeadAll g.S.Scheme.rules g.S.Scheme.start 0 (all_seen g.S.Scheme.state l.yielded)
    × (length (joined (logs_of (views_of (map (λ p. closed_of p) l.yielded)))) ≡ made_by l.yielded)
