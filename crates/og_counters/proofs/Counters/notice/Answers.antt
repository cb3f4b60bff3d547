use Rattle.std.proofs.Common.{◌≡◌, ◌+◌, ◌≤◌, false, ap, sym, ◌∙◌, arith}
use Rattle.og_counters.specs.Kept.{frame_in, counters_of}
use Rattle.og_counters.proofs.Steps.{no_notice-home, notice-made}
use Rattle.og_counters.proofs.Counters.notice.Goals as goal

pub returns-then-node-rules : goal.returns-then-node-rules
returns-then-node-rules c =
    sym (no_notice-home (counters_of c.args.self.now) c.args.index c.args.node (c.if-node-rules.true ∙ ap (λ r. r.home) c.rules-rules.ensures.rules) c.rules-rules.ensures.sound.trigger_is_some)

pub returns : goal.returns
returns c =
    let closed : (frame_in c.args.self.now c.args.index).noticed ≡ false = sym c.is_noticed.ensures ∙ c.if-is_noticed.false in
    let own : c.count_of-count.result ≡ (frame_in c.args.self.now c.args.index).count c.args.node = c.count_of-count.ensures.value in
    let home : c.count_of.result ≡ (frame_in c.args.self.now c.args.index).count c.args.self.now.rules.home = c.count_of.ensures.value ∙ ap (λ r. (frame_in c.args.self.now c.args.index).count r.home) c.rules-rules.ensures.rules in
    let trigger : c.rules-rules.result.now.trigger ≡ c.args.self.now.rules.trigger = ap (λ r. r.trigger) c.rules-rules.ensures.rules in
    let high : (frame_in c.args.self.now c.args.index).count c.args.self.now.rules.home + c.args.self.now.rules.trigger ≤ (frame_in c.args.self.now c.args.index).count c.args.node + 1 = omega (arith, c.if-count-count_of.false) in
    rw (c.rules-rules.ensures.rules, own, c.most_of_others.ensures)
    (sym (notice-made (counters_of c.args.self.now) c.args.index c.args.node (λ e. c.if-node-rules.false (e ∙ sym (ap (λ r. r.home) c.rules-rules.ensures.rules))) closed high))
