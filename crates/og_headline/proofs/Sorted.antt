-- The events of a run, sorted by stamp, are a run to the same machine; and what holds of every run holds of it.
use Rattle.std.proofs.Common.{◌≡◌, ◌∙◌, ℕ, sym, ap, List, slice_get}
use Rattle.og_runs.specs.declared.Choice.{Choice}
use Rattle.og_runs.specs.declared.Event.{Event}
use Rattle.og_runs.specs.declared.Msg.{Msg}
use Rattle.og_runs.specs.declared.Seat.{Seat}
use Rattle.og_runs.specs.Runs.{choices, start}
use Rattle.og_runs.proofs.Shown.{shown_run}
use Rattle.og_runs.proofs.Stated.{start_shows}
use Rattle.og_runs.proofs.RunLaws.{start_sound}
use Rattle.og_runs.proofs.Back.{same_choices}
use Rattle.og_runs.proofs.Whole.{sorted_run, run_strict}
use Rattle.og_msg.specs.declared.Kind.{Kind}
use Rattle.og_msg.specs.declared.Note.{Note}
use Rattle.og_machine.specs.Machine.{Setup, ActorState, Machine, rules, start_machine, is_quiet}
use Rattle.og_refine.specs.Machines.{IsRunnable}
use Rattle.og_refine.specs.Laws.{RunsTo}
use Rattle.og_refine.proofs.Runs.{first_actor, first_seats}
use Rattle.og_refine.proofs.Lawful.{flat_notes, lone_writers, held_lines, held_bytes}
use Rattle.og_headline.specs.Headline.{CopiesAreFlat}
use Rattle.og_headline.specs.Laws.{RunsArePrinted, RunsNameChoices}

-- the actors at the start
abbrev first : Setup → ℕ → ActorState
first setup a = first_actor setup a (slice_get (start_machine setup).seats a)

pub names_choices : RunsNameChoices
names_choices setup given w events run =
    let shown = shown_run (rules setup) given (start_machine setup) (start (first setup)) w events (start_shows (first setup) (start_machine setup) (first_seats setup)) (start_sound (first setup)) run in
    same_choices (rules setup) given (start (first setup)) shown.state events (start_sound (first setup)) shown.runs

-- machines with the same seats and the same flight are one
one_machine : (v w : Machine) → v.seats ≡ w.seats → v.flight ≡ w.flight → v ≡ w
one_machine v w a b = ap (λ (xs : List (Seat ActorState)). record { seats = xs; flight = v.flight }) a ∙ ap (λ (ms : List (Msg Kind)). record { seats = w.seats; flight = ms }) b

pub copies_are_flat : (setup : Setup) (given : List Choice) (w : Machine) (events : List (Event Note)) → IsRunnable setup → RunsTo setup given w events → CopiesAreFlat setup events w
copies_are_flat setup given w events ok run = record {
  one_writer = lone_writers setup given w events ok run;
  lines = λ y page number placed low. held_lines setup given w events y page number ok run placed low;
  bytes = λ y address placed. held_bytes setup given w events y address ok run placed;
}

pub printed : RunsArePrinted
printed setup given w events sorted ok run sort =
    let shows = start_shows (first setup) (start_machine setup) (first_seats setup) in
    let sound = start_sound (first setup) in
    let r = sorted_run (rules setup) given (start_machine setup) w (start (first setup)) events sorted shows sound run sort in
    record {
      end = r.0;
      run = r.1;
      strict = run_strict (rules setup) (choices sorted) (start_machine setup) r.0 (start (first setup)) sorted shows sound r.1 sort.ordered;
      quiet_is = ap is_quiet (sym (one_machine r.0 w r.2 r.3));
      flat = flat_notes setup (choices sorted) r.0 sorted ok r.1;
      copies = λ before after u is reached. copies_are_flat setup (choices before) u before ok reached;
    }
