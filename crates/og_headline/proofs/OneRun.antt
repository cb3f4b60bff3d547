-- A run is a function of its choices.
use Rattle.std.proofs.Common.{◌≡◌, ◌∙◌, sym, ap, subst, List, [], ◌∷◌}
use Rattle.og_runs.specs.declared.Choice.{Choice}
use Rattle.og_runs.specs.declared.Event.{Event}
use Rattle.og_runs.specs.World.{WorldRun, world_step}
use Rattle.og_runs.proofs.Whole.{one_outcome}
use Rattle.og_msg.specs.declared.Note.{Note}
use Rattle.og_machine.specs.Machine.{Setup, Machine, rules}

-- the same choices lead to one machine, with the same events
pub one_run : (setup : Setup) (cs : List Choice) (w u v : Machine) (es fs : List (Event Note)) → WorldRun (rules setup) w cs u es → WorldRun (rules setup) w cs v fs → (u ≡ v) × (es ≡ fs)
one_run setup [] w u v es fs a b = (sym a.0 ∙ b.0, a.1 ∙ sym b.1)
one_run setup (c ∷ cs) w u v es fs a b =
    let same = one_outcome (world_step (rules setup) w c) a.0 b.0 a.1 b.1 a.3 b.3 in
    let rest = one_run setup cs a.0 u v a.2 b.2 a.5 (subst (λ (x : Machine). WorldRun (rules setup) x cs v b.2) (sym same.0) b.5) in
    (rest.0, a.4 ∙ (ap (λ (e : Event Note). e ∷ a.2) same.1 ∙ (ap (λ (l : List (Event Note)). b.1 ∷ l) rest.1 ∙ sym b.4)))
