use Rattle.std.proofs.Common.{◌≡◌, ◌+◌, ◌≤◌, drop, length}
use Rattle.og_actors.specs.Actors.{after_sending}
use Rattle.og_actors.proofs.actor.send_all.Given as goal

abbrev pub invariant-loop-i : goal.invariant-loop-i
invariant-loop-i g l = record {
  within : l.i ≤ length l.letters;
  table : l.seat.table ≡ l.initial.seat.table;
  sent : after_sending l.seat.side l.clock (drop l.i l.letters) ≡ after_sending l.initial.seat.side l.clock l.letters;
  count : length l.seat.side.sent ≡ length l.initial.seat.side.sent + l.i;
}
