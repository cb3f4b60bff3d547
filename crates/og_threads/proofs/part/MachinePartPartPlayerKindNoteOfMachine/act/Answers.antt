use Rattle.std.proofs.Common.{◌∙◌, ap, sym}
use Rattle.og_machine.specs.Machine.{acting}
use Rattle.og_threads.specs.declared.player.Player.{Player}
use Rattle.og_threads.specs.Threads.{Playing, actor_of}
use Rattle.og_threads.proofs.Reached.{may_act_as, acts_as}
use Rattle.og_threads.proofs.part.MachinePartPartPlayerKindNoteOfMachine.act.Goals as goal

pub act-note-requires-clause-able : goal.act-note-requires-clause-able
act-note-requires-clause-able g c = may_act_as g.M.Machines.setup g.M.Machines.most c.args._number c.self.inside.image.now c.self.inside.player c.args.self.now.player (ap (λ (s : Playing). s.player) c.self.view_is) c.self.invariant c.requires.met c.requires.possible

pub returns-clause-outcome : goal.returns-clause-outcome
returns-clause-outcome g c = acts_as g.M.Machines.setup (actor_of c.args.self.now.player) (actor_of c.act-note.new.self) c.act-note.new.out c.act-note.result c.requires.possible
    (ap (λ (p : Player). acting g.M.Machines.setup (actor_of p)) (sym (ap (λ (s : Playing). s.player) c.self.view_is)) ∙ c.act-note.ensures g.M.Machines.setup c.self.invariant.program)
