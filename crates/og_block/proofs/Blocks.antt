-- Many blocks: a row of one block leaves the others alone.
use Rattle.std.proofs.Common.{ℕ, ◌<◌, Bool, true, false, cond, nat_eq, subst, List, [], ◌∷◌}
use Rattle.og_block.proofs.All.{kept}
use Rattle.og_block.proofs.Run.{answers}
use Rattle.og_block.specs.State.{Block, put}
use Rattle.og_block.specs.Rows.{Row, guard, apply, actor_of}
use Rattle.og_block.specs.Access.{flat_after}
use Rattle.og_block.specs.Invariant.{Invariant}
use Rattle.og_block.specs.Run.{Step, Runs_all, FlatRun_all, flat_end_all}

module _ {L : Type 0} where
  -- the invariant of each block
  abbrev pub Invariant_all : ℕ → (ℕ → L) → (ℕ → Block L) → Type 0
  Invariant_all n f b = (k : ℕ) → Invariant n (f k) (b k)

  pub kept_all : (n k : ℕ) (f : ℕ → L) (b : ℕ → Block L) (r : Row L) → Invariant_all n f b → guard r (b k) → actor_of r < n →
      Invariant_all n (put f k (flat_after r (f k))) (put b k (apply n r (b k)))
  kept_all n k f b r inv g lt j = at (nat_eq j k)
    where
      at : (t : Bool) → Invariant n (cond t (flat_after r (f k)) (f j)) (cond t (apply n r (b k)) (b j))
      at true = kept n (f k) (b k) r g (inv k) lt
      at false = inv j

  pub kept_run_all : (n : ℕ) (f : ℕ → L) (ss : List (Step L)) (b c : ℕ → Block L) → Invariant_all n f b → Runs_all n b ss c → Invariant_all n (flat_end_all f ss) c
  kept_run_all n f [] b c inv run = λ k. subst (λ (x : Block L). Invariant n (f k) x) (run k) (inv k)
  kept_run_all n f (s ∷ ss) b c inv run = kept_run_all n (put f s.block (flat_after s.row (f s.block))) ss (put b s.block (apply n s.row (b s.block))) c (kept_all n s.block f b s.row inv run.0 run.1) run.2

  pub flat_run_all : (n : ℕ) (f : ℕ → L) (ss : List (Step L)) (b c : ℕ → Block L) → Invariant_all n f b → Runs_all n b ss c → FlatRun_all f ss
  flat_run_all n f [] b c inv run = tt
  flat_run_all n f (s ∷ ss) b c inv run = (answers n (f s.block) (b s.block) s.row run.0 (inv s.block) run.1, flat_run_all n (put f s.block (flat_after s.row (f s.block))) ss (put b s.block (apply n s.row (b s.block))) c (kept_all n s.block f b s.row inv run.0 run.1) run.2)
