-- Letters whose lines have few stores.
use Rattle.std.proofs.Common.{◌≤◌, ℕ, Option, None, Some, List, [], ◌∷◌, ◌++◌, map, arith}
use Rattle.std.specs.List.{AllByRecursion}
use Rattle.og_line.specs.declared.Line.{Line}
use Rattle.og_runs.specs.declared.Letter.{Letter}
use Rattle.og_msg.specs.declared.Kind.{Kind}
use Rattle.og_stores.specs.Stores.{HasFew, FewInKind}

abbrev pub FewInLetters : ℕ → List (Letter Kind) → Type 0
FewInLetters n letters = AllByRecursion (λ letter. FewInKind n letter.kind) letters

pub more_line : (n m : ℕ) (line : Option Line) → n ≤ m → HasFew n line → HasFew m line
more_line n m None le few = tt
more_line n m (Some line) le few = omega arith

pub more_letters : (n m : ℕ) (letters : List (Letter Kind)) → n ≤ m → FewInLetters n letters → FewInLetters m letters
more_letters n m [] le few = tt
more_letters n m (l ∷ ls) le few = (more_line n m _ le few.0, more_letters n m ls le few.1)

pub both_letters : (n : ℕ) (first second : List (Letter Kind)) → FewInLetters n first → FewInLetters n second → FewInLetters n (first ++ second)
both_letters n [] second few more = more
both_letters n (l ∷ ls) second few more = (few.0, both_letters n ls second few.1 more)

-- letters without a line, one to each actor of a list
pub told_letters : (n : ℕ) (letter : ℕ → Letter Kind) → ((q : ℕ) → FewInKind n (letter q).kind) → (actors : List ℕ) → FewInLetters n (map letter actors)
told_letters n letter few [] = tt
told_letters n letter few (q ∷ qs) = (few q, told_letters n letter few qs)
