use Rattle.std.proofs.Common.{rules}
use Rattle.og_actors.proofs.Playing.{local_view, log_length}
use Rattle.og_actors.proofs.actor.Actor.post.Goals as goal

pub returns-clause-local : goal.returns-clause-local
returns-clause-local g c = rw (← c.self.view_is) (local_view g.S.Scheme.rules g.S.Scheme.start g.S.Scheme.actors g.S.Scheme.most _ _ _ _ _ _ _ c.self.invariant (search rules))

pub returns-clause-count : goal.returns-clause-count
returns-clause-count g c = rw (← c.self.view_is) (log_length g.S.Scheme.rules g.S.Scheme.start g.S.Scheme.actors g.S.Scheme.most _ _ _ _ _ _ _ c.self.invariant (search rules))
