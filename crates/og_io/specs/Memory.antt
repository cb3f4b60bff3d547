-- What contracts see of a shelf and a sink in memory.
use Rattle.std.specs.Prelude.{ℕ, ◌+◌, ◌-◌, ◌^◌, min, List, [], ◌∷◌, string_bytes}
use Rattle.og_io.specs.declared.memory.NamedFile.{NamedFile}
use Rattle.og_io.specs.Outside.{Files}

-- the names and bytes of the files
abbrev pub entries : List NamedFile → Files
entries [] = []
entries (f ∷ fs) = (string_bytes f.name, f.bytes.items) ∷ entries fs

-- a shelf in memory: its files, the names whose fetch failed, the numbers of the calls that fail, and how
-- many calls there were
pub record MemoryFiles : Type 0 where
  pub files : Files
  pub failed : List (List ℕ)
  pub fails : List ℕ
  pub calls : ℕ

-- a sink in memory: what it holds, its counts of faults and of wants, the most that it takes at once, the
-- numbers of the calls that fail, and how many calls there were
pub record MemoryBytes : Type 0 where
  pub held : List ℕ
  pub faults : ℕ
  pub wants : ℕ
  pub most : ℕ
  pub fails : List ℕ
  pub calls : ℕ

-- one more, but a count that stands at 2^64 - 1 stays there
abbrev pub one_more : ℕ → ℕ
one_more n = min (n + 1) (2 ^ 64 - 1)
