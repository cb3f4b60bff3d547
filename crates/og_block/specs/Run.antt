-- Runs of the rows, in any order in which they may be taken, and what is claimed of them.
use Rattle.std.specs.Prelude.{◌≡◌, ℕ, ◌<◌, true, ◌≢◌, List, [], ◌∷◌}
use Rattle.og_block.specs.State.{Sharing, Block, NoCopy, put, start}
use Rattle.og_block.specs.Rows.{Row, guard, apply, actor_of, has_exclusive}
use Rattle.og_block.specs.Access.{Answers, flat_after}

-- a row of one block of many
pub record Step (L : Type 0) : Type 0 where
  pub block : ℕ
  pub row : Row L

module _ {L : Type 0} where
  -- the rows may be taken one after another, by n actors, and lead from b to c
  abbrev pub Runs : ℕ → Block L → List (Row L) → Block L → Type 0
  Runs n b [] c = b ≡ c
  Runs n b (r ∷ rs) c = guard r b × (actor_of r < n) × Runs n (apply n r b) rs c

  -- they lead from the start, whose memory has this line, to b
  abbrev pub Reaches : ℕ → Sharing → L → List (Row L) → Block L → Type 0
  Reaches n sharing memory rows b = Runs n (start sharing memory) rows b

  -- a copy that may be written excludes any other
  abbrev pub OneWriter : ℕ → Block L → Type 0
  OneWriter n b = (p q : ℕ) → p < n → q < n → p ≢ q → has_exclusive (b.copy p) ≡ true → b.copy q ≡ NoCopy

  -- ---- many blocks: each row touches one

  abbrev pub Runs_all : ℕ → (ℕ → Block L) → List (Step L) → (ℕ → Block L) → Type 0
  Runs_all n b [] c = (k : ℕ) → b k ≡ c k
  Runs_all n b (s ∷ ss) c = guard s.row (b s.block) × (actor_of s.row < n) × Runs_all n (put b s.block (apply n s.row (b s.block))) ss c

  -- a memory with a cell for each block
  abbrev pub FlatRun_all : (ℕ → L) → List (Step L) → Type 0
  FlatRun_all cells [] = Unit {0}
  FlatRun_all cells (s ∷ ss) = Answers (cells s.block) s.row × FlatRun_all (put cells s.block (flat_after s.row (cells s.block))) ss

  abbrev pub flat_end_all : (ℕ → L) → List (Step L) → ℕ → L
  flat_end_all cells [] = cells
  flat_end_all cells (s ∷ ss) = flat_end_all (put cells s.block (flat_after s.row (cells s.block))) ss
