-- A number of so many bytes, each below 256, fits them.
use Rattle.std.proofs.Common.{rules, ◌≡◌, ◌+◌, ◌-◌, ◌<◌, ℕ, get_or, take, drop, arith}
use Rattle.std.proofs.lemmas.Grind.{common_steps}
use Rattle.std.proofs.lemmas.List.{get_or-drop}
use Rattle.byteorder.specs.Endian.{little_number}
use Rattle.byteorder.specs.Numbers.{little_from-lt}
use Rattle.og_line.proofs.Line.load.Goals as goal

pub returns-clause-fits : goal.returns-clause-fits
returns-clause-fits c =
    let byte : (i : ℕ) → get_or c.args.self.now.bytes i 0 < 256 = search rules in
    let tail : (i : ℕ) → get_or (drop c.args.at c.args.self.now.bytes) i 0 < 256 =
    λ i. rw get_or-drop (byte (c.args.at + i)) in
    let whole : take (128 - c.from.result) (drop c.from.result c.args.self.now.bytes) ≡ drop c.args.at c.args.self.now.bytes =
    grind (arith, common_steps) in
    let read : c.read_uint.result ≡ little_number c.from-2.result (take (128 - c.from.result) (drop c.from.result c.args.self.now.bytes)) = c.read_uint.ensures in
    let below = little_from-lt 0 c.args.width (drop c.args.at c.args.self.now.bytes) tail in
    rw (read, whole, c.from-2.ensures) below
