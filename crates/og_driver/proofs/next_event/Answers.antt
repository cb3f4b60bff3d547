use Rattle.std.proofs.Common.{◌≡◌, ◌∙◌, sym, subst}
use Rattle.og_runs.specs.declared.Event.{Event}
use Rattle.og_msg.specs.declared.Note.{Note}
use Rattle.og_machine.specs.Machine.{refusal_of}
use Rattle.og_engine.specs.Kept.{machine_of, setup_in}
use Rattle.og_driver.specs.Driven.{IsNextEvent}
use Rattle.og_driver.proofs.Next.{next_free, no_refusal}
use Rattle.og_driver.proofs.next_event.Goals as goal

pub quiet-requires : goal.quiet-requires
quiet-requires c = record { made = (c.args.image.now, c.requires.made) }

pub next_choice-choice-requires : goal.next_choice-choice-requires
next_choice-choice-requires c = record { made = c.requires.made; unquiet = sym c.quiet.ensures ∙ c.if-quiet.false }

pub unreachable-requires : goal.unreachable-requires
unreachable-requires c =
    let d = c.requires.drawing in
    no_refusal (refusal_of (setup_in c.args.image.now c.args.machine.now) (machine_of c.args.machine.now) c.next_choice-choice.result) c.in-Err.field-0 c.in-Err.ensures.refused
    (next_free c.args.image.now c.args.machine.now d.0 d.1 c.next_choice-choice.result c.requires.made (sym c.quiet.ensures ∙ c.if-quiet.false) (c.next_choice-choice.ensures.next d.0 d.1 d.2))

pub returns : goal.returns
returns c = record {
  ended = λ e. absurd (cc);
  made = λ event e.
      let same : c.in-Ok.event ≡ event = cc in
      subst (λ (x : Event Note). IsNextEvent c.args.image.now c.args.machine.now c.step.new.self c.args.draws.now c.next_choice-choice.new.draws x) same (record {
        unquiet = sym c.quiet.ensures ∙ c.if-quiet.false;
        settings = c.in-Ok.ensures.settings;
        made = c.in-Ok.ensures.stays_made;
        count = c.in-Ok.ensures.counted;
        step = λ number k is. (c.next_choice-choice.result, c.next_choice-choice.ensures.next number k is, c.in-Ok.ensures.made);
        words = c.next_choice-choice.ensures.draws;
      });
}
