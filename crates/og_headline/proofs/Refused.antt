-- Choices of which one is refused are no run.
use Rattle.std.proofs.Common.{◌≡◌, ◌∙◌, refl, sym, subst, Option, None, Some, List, [], ◌∷◌}
use Rattle.std.specs.Prelude.{IsSome}
use Rattle.og_base.specs.declared.NotEnabled.{NotEnabled}
use Rattle.og_runs.specs.declared.Choice.{Choice}
use Rattle.og_runs.specs.declared.Event.{Event}
use Rattle.og_runs.specs.World.{WorldRun, world_step}
use Rattle.og_runs.proofs.Stated.{world_split}
use Rattle.og_runs.proofs.Whole.{one_outcome}
use Rattle.og_msg.specs.declared.Note.{Note}
use Rattle.og_machine.specs.Machine.{Setup, Machine, rules, start_machine, refusal_of}
use Rattle.og_machine.proofs.Refusals.{step_allowed}
use Rattle.og_headline.specs.Laws.{RefusedChoicesAreNoRun}

-- the same choices lead to one machine
one_end : (setup : Setup) (cs : List Choice) (w u v : Machine) (es fs : List (Event Note)) → WorldRun (rules setup) w cs u es → WorldRun (rules setup) w cs v fs → u ≡ v
one_end setup [] w u v es fs a b = sym a.0 ∙ b.0
one_end setup (c ∷ cs) w u v es fs a b =
    let same = one_outcome (world_step (rules setup) w c) a.0 b.0 a.1 b.1 a.3 b.3 in
    one_end setup cs a.0 u v a.2 b.2 a.5 (subst (λ (x : Machine). WorldRun (rules setup) x cs v b.2) (sym same.0) b.5)

some_there : {X : Type 0} → (o : Option X) (x : X) → o ≡ Some x → IsSome o
some_there None x e = absurd (cc e)
some_there (Some y) x e = refl

not_both : (o : Option NotEnabled) (why : NotEnabled) → o ≡ None → o ≡ Some why → ⊥
not_both None why a b = absurd (cc)
not_both (Some x) why a b = absurd (cc)

pub refused_is_no_run : RefusedChoicesAreNoRun
refused_is_no_run setup given at why w events r run =
    let split = world_split (rules setup) r.before (r.choice ∷ r.after) (start_machine setup) w events (subst (λ (cs : List Choice). WorldRun (rules setup) (start_machine setup) cs w events) r.are_given run) in
    let same = one_end setup r.before (start_machine setup) split.0 r.reached split.1 r.made split.3 r.run in
    let next = split.4 in
    let allowed : refusal_of setup split.0 r.choice ≡ None = step_allowed setup split.0 r.choice (some_there (world_step (rules setup) split.0 r.choice) (next.0, next.1) next.3) in
    not_both (refusal_of setup split.0 r.choice) why allowed (subst (λ (x : Machine). refusal_of setup x r.choice ≡ Some why) (sym same) r.refused)
