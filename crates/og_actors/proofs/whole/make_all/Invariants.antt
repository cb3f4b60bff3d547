use Rattle.std.proofs.Common.{◌≡◌, ◌++◌, length}
use Rattle.std.specs.Vec.Iter.{into_iter_items, into_iter_len}
use Rattle.og_actors.specs.Rounds.{AreSeated, all_seen}
use Rattle.og_actors.proofs.whole.make_all.Given as goal

abbrev pub invariant-loop-seat : goal.invariant-loop-seat
invariant-loop-seat g l = (l.yielded ++ into_iter_items l.seat-iterator ≡ into_iter_items l.initial.seat-iterator)
    × (into_iter_len l.seat-iterator ≡ length (into_iter_items l.seat-iterator))
    × AreSeated l.fabric g.S.Scheme.start 0 (all_seen g.S.Scheme.state l.actors.items) × (length l.actors.items ≡ l.number) × (length l.yielded ≡ l.number)
