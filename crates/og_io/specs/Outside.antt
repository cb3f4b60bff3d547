-- The outside: files with names, and a sink that holds what was written.
use Rattle.std.specs.Prelude.{◌≡◌, ℕ, ◌+◌, ◌-◌, ◌^◌, ◌<◌, ◌≤◌, min, List, [], ◌∷◌, ◌++◌, length, take, Option, None, Some, IfSome, IsSomeAnd, ◌⊎◌, cond, map, String, string_bytes}
use Rattle.std.specs.Str.{bytes_eq}
use Rattle.std.proofs.Common.{Bor}

-- ------------------------------------------------------------------------------ files

-- a finite map from names to bytes: the first entry with a name counts
abbrev pub Files : Type 0
Files = List (List ℕ × List ℕ)

-- the bytes of the file with this name
abbrev pub file_of : Files → List ℕ → Option (List ℕ)
file_of [] name = None
file_of (f ∷ fs) name = cond (bytes_eq f.0 name) (Some f.1) (file_of fs name)

-- where the files are told, the file with this name has these bytes
abbrev pub HasFile : Option Files → List ℕ → List ℕ → Type 0
HasFile files name bytes = IfSome files (λ fs. file_of fs name ≡ Some bytes)

-- where the files are told, there is a file with this name, and it has more than so many bytes
abbrev pub HasLongFile : Option Files → List ℕ → ℕ → Type 0
HasLongFile files name limit = IfSome files (λ fs. IsSomeAnd (file_of fs name) (λ bytes. limit < length bytes))

-- the files are told, and there is one with this name that has more than so many bytes
abbrev pub TellsLongFile : Option Files → List ℕ → ℕ → Type 0
TellsLongFile files name limit = IsSomeAnd files (λ fs. IsSomeAnd (file_of fs name) (λ bytes. limit < length bytes))

-- what contracts see of a shelf: its files, where they are told, and the names whose fetch failed, in their order
pub record ShelfState : Type 0 where
  pub files : Option Files
  pub failed : List (List ℕ)

-- the names are the old ones, with this one at their end
abbrev pub AddsName : List ℕ → List (List ℕ) → List (List ℕ) → Type 0
AddsName name old new = new ≡ old ++ name ∷ []

-- the names are the old ones, or those with this one at their end
abbrev pub AddsAtMost : List ℕ → List (List ℕ) → List (List ℕ) → Type 0
AddsAtMost name old new = (new ≡ old) ⊎ AddsName name old new

-- ------------------------------------------------------------------------------ sinks

-- what contracts see of a sink: the bytes that it holds, where they are told, how often it failed to write, and how
-- often it wanted memory
pub record SinkState : Type 0 where
  pub held : Option (List ℕ)
  pub faults : ℕ
  pub wants : ℕ

-- what a sink holds, where that is told, with these bytes at its end
abbrev pub appended : Option (List ℕ) → List ℕ → Option (List ℕ)
appended None bytes = None
appended (Some held) bytes = Some (held ++ bytes)

-- the parts of a text, one after the other
abbrev pub parts_text : List (Bor (List ℕ)) → List ℕ
parts_text [] = []
parts_text (p ∷ ps) = p.now ++ parts_text ps

-- some first bytes of the text were appended
abbrev pub AppendsPrefix : List ℕ → Option (List ℕ) → Option (List ℕ) → Type 0
AppendsPrefix text old new = (n : ℕ) × (n ≤ length text) × (new ≡ appended old (take n text))

-- a count rose; one that stands at 2^64 - 1 stays there
abbrev pub Rises : ℕ → ℕ → Type 0
Rises old new = min (old + 1) (2 ^ 64 - 1) ≤ new

-- a count is as before, and doesn't stand at 2^64 - 1
abbrev pub IsAsBefore : ℕ → ℕ → Type 0
IsAsBefore old new = (new ≡ old) × (new < 2 ^ 64 - 1)

-- the bytes of the names
abbrev pub texts : {A : Type 0} → List (String A) → List (List ℕ)
texts names = map (λ s. string_bytes s) names
