use Rattle.std.proofs.Common.{◌≡◌, ◌<◌, ◌+◌, ◌*◌, ℕ, get_or, length}
use Rattle.og_image.specs.Image.{start_byte}
use Rattle.og_flat.proofs.machine.start_line.Given as goal

-- the bytes so far are the program's
abbrev pub invariant-loop-i : goal.invariant-loop-i
invariant-loop-i l = record {
  none : l.line.stores ≡ 0;
  size : length l.line.bytes ≡ 128;
  bytes : (k : ℕ) → k < l.i → get_or l.line.bytes k 0 ≡ start_byte l.image (l.block * 128 + k);
}
