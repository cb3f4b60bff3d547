use Rattle.std.proofs.Common.{◌∙◌, ap, sym}
use Rattle.og_machine.specs.Machine.{act_of}
use Rattle.og_actors.specs.Actors.{is_there}
use Rattle.og_threads.specs.declared.player.Player.{Player}
use Rattle.og_threads.specs.Threads.{Playing, actor_of}
use Rattle.og_threads.proofs.Moves.{can_is}
use Rattle.og_threads.proofs.part.MachinePartPartPlayerKindNoteOfMachine.can_act.Goals as goal

pub returns : goal.returns
returns g c = c.can_act.ensures g.M.Machines.setup c.self.invariant.program
    ∙ (sym (can_is g.M.Machines.setup (actor_of c.self.inside.player))
    ∙ ap (λ (p : Player). is_there (act_of g.M.Machines.setup (actor_of p))) (ap (λ (s : Playing). s.player) c.self.view_is))
