use Rattle.std.proofs.Common.{◌∙◌, ap, sym}
use Rattle.og_machine.specs.Machine.{taking}
use Rattle.og_threads.specs.declared.player.Player.{Player}
use Rattle.og_threads.specs.Threads.{Playing, actor_of}
use Rattle.og_threads.proofs.Reached.{may_take_as, takes_as}
use Rattle.og_threads.proofs.part.MachinePartPartPlayerKindNoteOfMachine.take.Goals as goal

pub take-note-requires-clause-able : goal.take-note-requires-clause-able
take-note-requires-clause-able g c = may_take_as g.M.Machines.setup g.M.Machines.most c.args.number c.self.inside.image.now c.self.inside.player c.args.self.now.player c.args.message (ap (λ (s : Playing). s.player) c.self.view_is) c.self.invariant c.requires.met c.requires.possible

pub returns-clause-outcome : goal.returns-clause-outcome
returns-clause-outcome g c = takes_as g.M.Machines.setup (actor_of c.args.self.now.player) (actor_of c.take-note.new.self) c.args.message c.take-note.new.out c.take-note.result c.requires.possible
    (ap (λ (p : Player). taking g.M.Machines.setup (actor_of p) c.args.message) (sym (ap (λ (s : Playing). s.player) c.self.view_is)) ∙ c.take-note.ensures g.M.Machines.setup c.self.invariant.program)
