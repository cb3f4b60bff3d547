use Rattle.std.proofs.Common.{◌≡◌, ◌++◌, ◌*◌, length, take}
use Rattle.std.specs.List.{flat_map}
use Rattle.byteorder.specs.Endian.{little_bytes}
use Rattle.og_tools.proofs.raw.raw_file.Given as goal

-- the length, and the bytes of the words so far
abbrev pub invariant-loop-word : goal.invariant-loop-word
invariant-loop-word l = l.file.items ≡ little_bytes 4 (4 * length l.words) ++ flat_map (little_bytes 4) (take l.word-index l.words)
