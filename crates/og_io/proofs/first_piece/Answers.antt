use Rattle.std.proofs.Common.{◌≡◌, min, ℕ, length, take, arith, ap}
use Rattle.std.proofs.Math.Path.{◌∙◌}
use Rattle.std.proofs.lemmas.List.{take_min}
use Rattle.og_io.proofs.first_piece.Goals as goal

pub returns : goal.returns
returns c = let least : c.min.result ≡ min 65536 (length c.args.text.now) = omega arith in ap (λ (n : ℕ). take n c.args.text.now) least ∙ take_min 65536 c.args.text.now
