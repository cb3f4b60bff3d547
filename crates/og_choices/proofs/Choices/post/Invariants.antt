use Rattle.std.proofs.Common.{◌≡◌, ℕ, ◌+◌, ◌≤◌, None, drop, length}
use Rattle.og_runs.specs.Runs.{posted}
use Rattle.og_runs.specs.World.{find, placed_all}
use Rattle.og_choices.proofs.Choices.post.Given as goal

abbrev pub invariant-loop-i : goal.invariant-loop-i
invariant-loop-i g l = record {
  within : l.i ≤ length l.letters;
  nodes_stay : l.self.nodes ≡ l.initial.self.nodes;
  ready_stays : l.self.ready ≡ l.initial.self.ready;
  last_stays : l.self.last ≡ l.initial.self.last;
  room_is : l.self.flight.room ≡ l.initial.self.flight.room;
  count : length l.self.flight.messages ≡ length l.initial.self.flight.messages + l.i;
  new : (k : ℕ) → l.first + l.i ≤ k → find (record { sender = l.stamp.actor; seq = k }) l.self.flight.messages ≡ None;
  sent : placed_all l.self.flight.messages (posted l.stamp.actor l.stamp.clock (l.first + l.i) (drop l.i l.letters)) ≡ placed_all l.initial.self.flight.messages (posted l.stamp.actor l.stamp.clock l.first l.letters);
}
