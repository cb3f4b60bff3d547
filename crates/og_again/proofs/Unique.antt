-- A printed run is the replay of its own choices, and no other run is.
use Rattle.std.proofs.Common.{◌≡◌, ◌∙◌, ◌<◌, inl, inr, refl, sym, ap, subst, List, [], ◌∷◌, arith}
use Rattle.og_runs.specs.declared.Event.{Event}
use Rattle.og_runs.specs.Runs.{choices, Before, NotAfter, InOrder, Strict, IsSorted}
use Rattle.og_runs.specs.World.{WorldRun}
use Rattle.og_msg.specs.declared.Note.{Note}
use Rattle.og_machine.specs.Machine.{rules, start_machine, is_quiet}
use Rattle.og_headline.proofs.OneRun.{one_run}
use Rattle.og_headline.proofs.Order.{one_order}
use Rattle.og_again.specs.Laws.{RunsReplay, ReplaysAreUnique}

-- stamps that rise don't fall
not_after : (e f : Event Note) → Before e f → NotAfter e f
not_after e f (inl less) = inl less
not_after e f (inr same) = inr (same.0, let less : e.stamp.actor < f.stamp.actor = same.1 in omega arith)

in_order : (es : List (Event Note)) → Strict es → InOrder es
in_order [] strict = tt
in_order (e ∷ []) strict = (tt, tt)
in_order (e ∷ f ∷ fs) strict = (not_after e f strict.0, in_order (f ∷ fs) strict.1)

pub runs_replay : RunsReplay
runs_replay setup events quiet printed = record {
  printed = printed;
  made = events;
  end = printed.end;
  run = printed.run;
  is_sorted = record { ordered = in_order events printed.strict; stable = λ x. refl };
}

pub replays_are_unique : ReplaysAreUnique
replays_are_unique setup given events others quiet end a b =
    let made : b.made ≡ a.made = (one_run setup given (start_machine setup) b.end a.end b.made a.made b.run a.run).1 in
    let same : others ≡ events = one_order a.made others events (subst (λ (m : List (Event Note)). IsSorted m others) made b.is_sorted) a.is_sorted in
    let there : WorldRun (rules setup) (start_machine setup) (choices events) b.printed.end others = subst (λ (l : List (Event Note)). WorldRun (rules setup) (start_machine setup) (choices l) b.printed.end others) same b.printed.run in
    let one : b.printed.end ≡ a.printed.end = (one_run setup (choices events) (start_machine setup) b.printed.end a.printed.end others events there a.printed.run).0 in
    (same, b.printed.quiet_is ∙ (ap is_quiet one ∙ sym a.printed.quiet_is))
