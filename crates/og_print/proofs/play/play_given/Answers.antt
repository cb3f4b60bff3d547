use Rattle.std.proofs.Common.{◌*◌, ◌<◌, ◌≤◌, ℕ, length, Err, Fits, w64, arith, refl, sym, subst, ap}
use Rattle.og_machine.specs.Machine.{Setup}
use Rattle.og_headline.specs.Headline.{IsRefused, IsReplay}
use Rattle.og_print.proofs.Played.{text_given, refused_within, refused_given}
use Rattle.og_print.proofs.play.play_given.Goals as goal

pub offset_bounds-lines-at : goal.offset_bounds-lines-at
offset_bounds-lines-at g c =
    let refused = c.in-Err-Refused.ensures.refused c.in-Err-Refused.at c.in-Err-Refused.cause (ap (λ x. Err x) c.in-Err-Refused.field-0-is) in
    let within : c.in-Err-Refused.at < length c.args.choices.now = refused_within _ c.args.choices.now c.in-Err-Refused.at c.in-Err-Refused.cause refused in
    let few : length c.args.choices.now ≤ 16777217 = c.requires.few in
    let fits : Fits w64 (c.in-Err-Refused.at * 8) = omega arith in
    subst (λ (n : ℕ). Fits w64 (n * 8)) (sym c.in-Err-Refused.at-is) fits

pub bounds-lines-at : goal.bounds-lines-at
bounds-lines-at g c =
    let refused = c.in-Err-Refused.ensures.refused c.in-Err-Refused.at c.in-Err-Refused.cause (ap (λ x. Err x) c.in-Err-Refused.field-0-is) in
    let within : c.in-Err-Refused.at < length c.args.choices.now = refused_within _ c.args.choices.now c.in-Err-Refused.at c.in-Err-Refused.cause refused in
    subst (λ (n : ℕ). n < length c.args.lines.now) (sym c.in-Err-Refused.at-is) (subst (λ (n : ℕ). c.in-Err-Refused.at < n) (sym c.requires.in_lines) within)

pub returns-in-Err-Refused : goal.returns-in-Err-Refused
returns-in-Err-Refused g c =
    let refused = c.in-Err-Refused.ensures.refused c.in-Err-Refused.at c.in-Err-Refused.cause (ap (λ x. Err x) c.in-Err-Refused.field-0-is) in
    refused_given c.args.image.now c.args.settings.now c.args.choices.now c.args.lines.now (g.K.Sink.seen c.args.out.now) c.in-Err-Refused.at _ c.in-Err-Refused.cause _ c.in-Err-Refused.at-is c.in-Err-Refused.cause-is c.requires.in_lines c.in_ok-machine.ensures.frames
    (subst (λ (s : Setup). IsRefused s c.args.choices.now c.in-Err-Refused.at c.in-Err-Refused.cause) c.in_ok-machine.ensures.setup refused)

pub returns-in-Ok : goal.returns-in-Ok
returns-in-Ok g c =
    text_given c.args.image.now c.args.settings.now c.args.choices.now c.args.lines.now _ _ (g.K.Sink.seen c.args.out.now) (g.K.Sink.seen c.print_run.new.out) c.print_run.result c.in_ok-machine.ensures.frames
    (record { events = _; run = subst (λ (s : Setup). IsReplay s c.args.choices.now c.in-Ok.made.events.items c.in-Ok.made.quiet) c.in_ok-machine.ensures.setup c.in-Ok.ensures.run; text_is = refl }) c.print_run.ensures
