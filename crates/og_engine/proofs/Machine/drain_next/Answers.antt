use Rattle.std.proofs.Common.{◌≡◌, ◌∙◌, Bool, true, false, length, Some, None, ap, sym}
use Rattle.std.specs.Prelude.{if◌then◌else◌}
use Rattle.std.specs.List.{filter}
use Rattle.og_runs.specs.declared.Choice.TheVariants.{Act}
use Rattle.og_flight.specs.Flight.{Flying, first_sent}
use Rattle.og_msg.specs.declared.Kind.{Kind}
use Rattle.og_mover.specs.Table.{has_act}
use Rattle.og_engine.specs.Kept.{KeptMachine}
use Rattle.og_engine.proofs.Counts.{nodes_count}
use Rattle.og_engine.proofs.Drains.{is_answer, taken_first, taken_last, moved_last}
use Rattle.og_engine.proofs.Machine.drain_next.Goals as goal

pub returns-in-Some : goal.returns-in-Some
returns-in-Some c = λ setup. taken_first setup c.args.self.now c.in-Some.message (sym (c.first_answer.ensures ∙ ap (λ (f : Flying Kind). first_sent (filter is_answer f.messages)) c.flight.ensures ∙ ap (λ (m : KeptMachine). first_sent (filter is_answer m.flight.messages)) c.self.view_is) ∙ c.in-Some.is)

pub returns-in-Some-least : goal.returns-in-Some-least
returns-in-Some-least c = λ setup. taken_last setup c.args.self.now c.in-Some-least.message (sym (c.first_answer.ensures ∙ ap (λ (f : Flying Kind). first_sent (filter is_answer f.messages)) c.flight.ensures ∙ ap (λ (m : KeptMachine). first_sent (filter is_answer m.flight.messages)) c.self.view_is) ∙ c.in_default.is) (sym (c.least.ensures ∙ ap (λ (f : Flying Kind). first_sent f.messages) c.flight-2.ensures ∙ ap (λ (m : KeptMachine). first_sent m.flight.messages) c.self.view_is) ∙ c.in-Some-least.is)

pub returns-then-can_act : goal.returns-then-can_act
returns-then-can_act c =
    let a : c.self.inside.settings.nodes ≡ length c.args.self.now.nodes = ap (λ (m : KeptMachine). m.settings.nodes) c.self.view_is ∙ sym (nodes_count c.requires.made.0 c.args.self.now c.requires.made.1) in
    let can : has_act c.args.self.now.mover.local.job ≡ true = sym (c.can_act.ensures ∙ ap (λ (m : KeptMachine). has_act m.mover.local.job) c.self.view_is) ∙ c.if-can_act.true in
    λ setup. sym (ap (λ (t : Bool). if t then Some (Act c.self.inside.settings.nodes) else None) can) ∙ moved_last setup c.args.self.now c.self.inside.settings.nodes (sym (c.first_answer.ensures ∙ ap (λ (f : Flying Kind). first_sent (filter is_answer f.messages)) c.flight.ensures ∙ ap (λ (m : KeptMachine). first_sent (filter is_answer m.flight.messages)) c.self.view_is) ∙ c.in_default.is) (sym (c.least.ensures ∙ ap (λ (f : Flying Kind). first_sent f.messages) c.flight-2.ensures ∙ ap (λ (m : KeptMachine). first_sent m.flight.messages) c.self.view_is) ∙ c.in_default-least.is) a

pub returns : goal.returns
returns c =
    let a : c.self.inside.settings.nodes ≡ length c.args.self.now.nodes = ap (λ (m : KeptMachine). m.settings.nodes) c.self.view_is ∙ sym (nodes_count c.requires.made.0 c.args.self.now c.requires.made.1) in
    let can : has_act c.args.self.now.mover.local.job ≡ false = sym (c.can_act.ensures ∙ ap (λ (m : KeptMachine). has_act m.mover.local.job) c.self.view_is) ∙ c.if-can_act.false in
    λ setup. sym (ap (λ (t : Bool). if t then Some (Act c.self.inside.settings.nodes) else None) can) ∙ moved_last setup c.args.self.now c.self.inside.settings.nodes (sym (c.first_answer.ensures ∙ ap (λ (f : Flying Kind). first_sent (filter is_answer f.messages)) c.flight.ensures ∙ ap (λ (m : KeptMachine). first_sent (filter is_answer m.flight.messages)) c.self.view_is) ∙ c.in_default.is) (sym (c.least.ensures ∙ ap (λ (f : Flying Kind). first_sent f.messages) c.flight-2.ensures ∙ ap (λ (m : KeptMachine). first_sent m.flight.messages) c.self.view_is) ∙ c.in_default-least.is) a
