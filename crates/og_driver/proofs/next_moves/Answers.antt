use Rattle.og_machine.specs.Machine.{refusal_of}
use Rattle.og_engine.specs.Kept.{machine_of, setup_in}
use Rattle.og_driver.proofs.Next.{next_free, no_refusal}
use Rattle.og_driver.proofs.next_moves.Goals as goal

pub unreachable-requires : goal.unreachable-requires
unreachable-requires c =
    let d = c.requires.drawing in
    no_refusal (refusal_of (setup_in c.args.image.now c.args.machine.now) (machine_of c.args.machine.now) c.next_choice-choice.result) c.in-Err.field-0 c.in-Err.ensures.refused
    (next_free c.args.image.now c.args.machine.now d.0 d.1 c.next_choice-choice.result c.requires.made c.requires.unquiet (c.next_choice-choice.ensures.next d.0 d.1 d.2))

pub returns : goal.returns
returns c = (
  c.in-Ok.event,
  record {
    unquiet = c.requires.unquiet;
    settings = c.in-Ok.ensures.settings;
    made = c.in-Ok.ensures.stays_made;
    count = c.in-Ok.ensures.counted;
    step = λ number k is. (c.next_choice-choice.result, c.next_choice-choice.ensures.next number k is, c.in-Ok.ensures.made);
    words = c.next_choice-choice.ensures.draws;
  },
  c.moves_noted.ensures,
)
