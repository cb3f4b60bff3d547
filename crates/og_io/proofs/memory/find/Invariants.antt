-- The file is not among those that were passed.
use Rattle.std.proofs.Common.{◌≡◌, drop}
use Rattle.og_io.specs.Memory.{entries}
use Rattle.og_io.specs.Outside.{file_of}
use Rattle.og_io.proofs.memory.find.Given as goal

abbrev pub invariant-loop-file : goal.invariant-loop-file
invariant-loop-file l = file_of (entries (drop l.file-index l.files)) l.name ≡ file_of (entries l.files) l.name
