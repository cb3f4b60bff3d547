use Rattle.std.proofs.Common.{◌≡◌, ◌+◌, ◌<◌, ℕ, None, length, drop, arith, ap, ◌∙◌}
use Rattle.og_runs.specs.Runs.{posted}
use Rattle.og_runs.specs.World.{find, placed_all}
use Rattle.og_flight.proofs.Posting.{placed_length, stays_free, of_letter, posted_more}
use Rattle.og_choices.specs.Choices.{Offer}
use Rattle.og_choices.proofs.Choices.post.Goals as goal

pub loop-i-preserved : goal.loop-i-preserved
loop-i-preserved g c =
    let a : ℕ = c.args.stamp.actor in
    let k : ℕ = c.args.first + c.loop-i.i in
    let lt : c.loop-i.i < length c.args.letters.now = omega arith in
    let none : find (record { sender = a; seq = k }) c.loop-i.self.flight.messages ≡ None = c.loop-i.invariant.new k (omega arith) in
    let more = placed_length (of_letter a c.args.stamp.clock k c.index-letters-i.result) c.loop-i.self.flight.messages in
    let count = ap (λ (o : Offer _). length o.flight.messages) c.send.ensures in
    let before = c.loop-i.invariant.count in
    record {
      within = omega arith;
      nodes_stay = ap (λ (o : Offer _). o.nodes) c.send.ensures ∙ c.loop-i.invariant.nodes_stay;
      ready_stays = ap (λ (o : Offer _). o.ready) c.send.ensures ∙ c.loop-i.invariant.ready_stays;
      last_stays = ap (λ (o : Offer _). o.last) c.send.ensures ∙ c.loop-i.invariant.last_stays;
      room_is = ap (λ (o : Offer _). o.flight.room) c.send.ensures ∙ c.loop-i.invariant.room_is;
      count = omega arith;
      new = λ j h. ap (λ (o : Offer _). find (record { sender = a; seq = j }) o.flight.messages) c.send.ensures ∙ stays_free (of_letter a c.args.stamp.clock k c.index-letters-i.result) c.loop-i.self.flight.messages a j none (omega arith) (c.loop-i.invariant.new j (omega arith));
      sent = ap (λ (o : Offer _). placed_all o.flight.messages (posted a c.args.stamp.clock (c.args.first + (c.loop-i.i + 1)) (drop (c.loop-i.i + 1) c.args.letters.now))) c.send.ensures
          ∙ posted_more a c.args.stamp.clock c.args.first c.loop-i.i c.args.letters.now c.index-letters-i.result c.loop-i.self.flight.messages _ lt c.index-letters-i.is c.loop-i.invariant.sent;
    }
