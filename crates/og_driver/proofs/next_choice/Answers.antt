use Rattle.std.proofs.Common.{◌≡◌, ◌∙◌, ℕ, ◌<◌, ◌≤◌, length, arith, sym, ap, subst, slice_get}
use Rattle.og_draws.specs.Draws.{draw}
use Rattle.og_machine.specs.Machine.{Setup, Machine}
use Rattle.og_machine.specs.Choices.{enabled_of}
use Rattle.og_engine.specs.Kept.{machine_of, setup_in}
use Rattle.og_driver.proofs.Next.{drains, draws, some_drained, some_enabled}
use Rattle.og_driver.proofs.next_choice.Goals as goal

pub stopped-requires : goal.stopped-requires
stopped-requires c = record { made = (c.args.image.now, c.requires.made) }

pub next_choice-unused-requires : goal.next_choice-unused-requires
next_choice-unused-requires c = omega arith

pub drain_next-requires : goal.drain_next-requires
drain_next-requires c = record { made = (c.args.image.now, c.requires.made) }

pub unreachable-requires : goal.unreachable-requires
unreachable-requires c = some_drained c.args.image.now c.args.machine.now c.requires.made c.requires.unquiet (sym c.stopped.ensures ∙ c.if-stopped.true) (sym (c.drain_next.ensures (setup_in c.args.image.now c.args.machine.now)) ∙ c.in-None.is)

pub unreachable-unreachable : goal.unreachable-unreachable
unreachable-unreachable c = c.unreachable.result

pub returns-then-stopped-clause-next : goal.returns-then-stopped-clause-next
returns-then-stopped-clause-next c = λ number k is.
    drains (setup_in c.args.image.now c.args.machine.now) number k (machine_of c.args.machine.now) (sym c.stopped.ensures ∙ c.if-stopped.true) ∙ (sym (c.drain_next.ensures (setup_in c.args.image.now c.args.machine.now)) ∙ c.in-Some.is)

pub returns-then-stopped-clause-draws : goal.returns-then-stopped-clause-draws
returns-then-stopped-clause-draws c = λ number k is. c.next_choice-unused.ensures.goes_on number k is

pub enabled_count-count-requires : goal.enabled_count-count-requires
enabled_count-count-requires c = record { made = c.requires.made }

pub next_choice-requires : goal.next_choice-requires
next_choice-requires c =
    subst (λ (n : ℕ). 1 ≤ n) (sym c.enabled_count-count.ensures) (some_enabled c.args.image.now c.args.machine.now c.requires.made c.requires.unquiet (sym c.stopped.ensures ∙ c.if-stopped.false))

pub enabled-requires-clause-made : goal.enabled-requires-clause-made
enabled-requires-clause-made c = c.requires.made

pub enabled-requires-clause-inside : goal.enabled-requires-clause-inside
enabled-requires-clause-inside c = subst (λ (n : ℕ). c.next_choice.result < n) c.enabled_count-count.ensures c.next_choice.ensures.in_range

pub returns-clause-next : goal.returns-clause-next
returns-clause-next c = λ number k is.
    let setup : Setup = setup_in c.args.image.now c.args.machine.now in
    let w : Machine = machine_of c.args.machine.now in
    let place : draw number k (length (enabled_of setup w)) ≡ c.next_choice.result = ap (λ (n : ℕ). draw number k n) (sym c.enabled_count-count.ensures) ∙ sym (c.next_choice.ensures.drawn number k is) in
    draws setup number k w (sym c.stopped.ensures ∙ c.if-stopped.false) ∙ (ap (λ (n : ℕ). slice_get (enabled_of setup w) n) place ∙ c.enabled.ensures)

pub returns-clause-draws : goal.returns-clause-draws
returns-clause-draws c = λ number k is. c.next_choice.ensures.goes_on number k is
