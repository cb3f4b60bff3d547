use Rattle.std.specs.Prelude.{string_bytes}
use Rattle.std.proofs.Common.{◌≡◌, List, ℕ, refl, subst}
use Rattle.og_cli.specs.Command.{LongImageIsTold}
use Rattle.og_cli.specs.Runs.{Simulates, Replays}
use Rattle.og_cli.proofs.top.perform.Goals as goal

pub returns-in-Simulate-clause-ends : goal.returns-in-Simulate-clause-ends
returns-in-Simulate-clause-ends g c =
    let name : c.as_str.result.now ≡ string_bytes c.in-Simulate.image = c.as_str.ensures.value in
    rw c.in-Simulate.is (
      c.in-Simulate.settings,
      refl,
      subst (λ (n : List ℕ). Simulates c.in-Simulate.raw n c.in-Simulate.settings c.in-Simulate.draw c.in-Simulate.events (g.F.Shelf.seen c.args.shelf.now) (g.F.Shelf.seen c.simulate.new.shelf) (g.K.Sink.seen c.args.out.now) (g.K.Sink.seen c.simulate.new.out) c.simulate.result) name
          c.simulate.ensures.ends,
    )

pub returns-in-Simulate-clause-long : goal.returns-in-Simulate-clause-long
returns-in-Simulate-clause-long g c =
    let name : c.as_str.result.now ≡ string_bytes c.in-Simulate.image = c.as_str.ensures.value in
    rw c.in-Simulate.is (subst (λ (n : List ℕ). LongImageIsTold n (g.F.Shelf.seen c.args.shelf.now).files c.simulate.result) name c.simulate.ensures.long)

pub returns-in-Replay-clause-ends : goal.returns-in-Replay-clause-ends
returns-in-Replay-clause-ends g c =
    let image : c.as_str-in-Replay.result.now ≡ string_bytes c.in-Replay.image = c.as_str-in-Replay.ensures.value in
    let choices : c.as_str-in-Replay-2.result.now ≡ string_bytes c.in-Replay.choices = c.as_str-in-Replay-2.ensures.value in
    rw c.in-Replay.is (
      c.in-Replay.settings,
      c.in-Replay.given,
      refl,
      refl,
      subst (λ (n : List ℕ). Replays c.in-Replay.raw n (string_bytes c.in-Replay.choices) c.in-Replay.settings c.in-Replay.given (g.F.Shelf.seen c.args.shelf.now) (g.F.Shelf.seen c.replay.new.shelf) (g.K.Sink.seen c.args.out.now) (g.K.Sink.seen c.replay.new.out) c.replay.result) image
          (subst (λ (n : List ℕ). Replays c.in-Replay.raw c.as_str-in-Replay.result.now n c.in-Replay.settings c.in-Replay.given (g.F.Shelf.seen c.args.shelf.now) (g.F.Shelf.seen c.replay.new.shelf) (g.K.Sink.seen c.args.out.now) (g.K.Sink.seen c.replay.new.out) c.replay.result) choices
          c.replay.ensures.ends),
    )

pub returns-in-Replay-clause-long : goal.returns-in-Replay-clause-long
returns-in-Replay-clause-long g c =
    let image : c.as_str-in-Replay.result.now ≡ string_bytes c.in-Replay.image = c.as_str-in-Replay.ensures.value in
    rw c.in-Replay.is (subst (λ (n : List ℕ). LongImageIsTold n (g.F.Shelf.seen c.args.shelf.now).files c.replay.result) image c.replay.ensures.long)

pub returns-in-Storm-clause-ends : goal.returns-in-Storm-clause-ends
returns-in-Storm-clause-ends g c = rw c.in-Storm.is (refl, (c.in-Storm.settings, refl, c.storm.ensures))
