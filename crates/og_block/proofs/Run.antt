-- The invariant holds from the start on, and gives what is claimed of runs.
use Rattle.std.proofs.Common.{◌≡◌, ℕ, ◌<◌, true, false, arith, ◌≢◌, refl, subst, List, [], ◌∷◌}
use Rattle.std.proofs.lemmas.Bool.Decides.{nat_tests}
use Rattle.og_slots.proofs.Count.{count_none}
use Rattle.og_block.proofs.Alone.{no_other_trusts, no_other_owns}
use Rattle.og_block.proofs.All.{kept}
use Rattle.og_block.specs.State.{Sharing, Block, Copy, NoCopy, Response, Want, Ask, Back, start}
use Rattle.og_block.specs.Rows.{Row, guard, apply, actor_of, has_exclusive}
use Rattle.og_block.specs.Access.{Answers, FlatRun, flat_after, flat_end}
use Rattle.og_block.specs.Invariant.{Invariant, Local, is_for, is_holder, pending, Rests, Asks, Counted, Owned, trusts, owns}
use Rattle.og_block.specs.Run.{Runs, OneWriter}

module _ {L : Type 0} where
  starts_each : (n q : ℕ) (k : Sharing) (memory : L) → q < n → Local n memory (start k memory) q
  starts_each n q k memory lt = let none : pending n (start k memory) q ≡ 0 = count_none n (λ j. is_for q ((start k memory).invalidation j)) (λ j below. refl) in grind (arith, nat_tests)

  pub starts : (n : ℕ) (k : Sharing) (memory : L) → Invariant n memory (start k memory)
  starts n k memory = record { each = λ q. starts_each n q k memory; home = grind arith }

  -- the holder of a copy that may be written waits for no acknowledgement
  writer_waits : (n p : ℕ) (b : Block L) → has_exclusive (b.copy p) ≡ true → Rests b p → Asks b p → Owned b p → Counted n b p → (is_holder b.entry b.revision p ≡ true) × (pending n b p ≡ 0)
  writer_waits n p b e r a o c = grind arith

  no_copy : (c : Copy L) (w : Want) (a : Ask L) (r : Response L) (k : Back L) → trusts c w a r ≡ false → owns c w a r k ≡ false → c ≡ NoCopy
  no_copy c w a r k t o = grind arith

  pub one_writer : (n : ℕ) (f : L) (b : Block L) → Invariant n f b → OneWriter n b
  one_writer n f b inv p q lp lq ne e =
      let hp : Local n f b p = inv.each p lp in
      let w : (is_holder b.entry b.revision p ≡ true) × (pending n b p ≡ 0) = writer_waits n p b e hp.rests hp.asks hp.owned hp.counted in
      let ne' : q ≢ p = λ e. ne (cc) in
      no_copy (b.copy q) (b.want q) (b.ask q) (b.response q) (b.back q) (no_other_trusts n f p q b inv lq w.0 w.1 ne') (no_other_owns n f p q b inv lq w.0 ne')

  pub answers : (n : ℕ) (f : L) (b : Block L) (r : Row L) → guard r b → Invariant n f b → actor_of r < n → Answers f r
  answers n f b r g inv lp = let h : Local n f b (actor_of r) = inv.each (actor_of r) lp in grind arith

  -- a run keeps the invariant, with the cell that its accesses make
  pub kept_run : (n : ℕ) (f : L) (rs : List (Row L)) (b c : Block L) → Invariant n f b → Runs n b rs c → Invariant n (flat_end f rs) c
  kept_run n f [] b c inv run = subst (λ (x : Block L). Invariant n f x) run inv
  kept_run n f (r ∷ rs) b c inv run = kept_run n (flat_after r f) rs (apply n r b) c (kept n f b r run.0 inv run.1) run.2

  pub flat_run : (n : ℕ) (f : L) (rs : List (Row L)) (b c : Block L) → Invariant n f b → Runs n b rs c → FlatRun f rs
  flat_run n f [] b c inv run = tt
  flat_run n f (r ∷ rs) b c inv run = (answers n f b r run.0 inv run.1, flat_run n (flat_after r f) rs (apply n r b) c (kept n f b r run.0 inv run.1) run.2)

  pub reached : (n : ℕ) (k : Sharing) (memory : L) (rs : List (Row L)) (b : Block L) → Runs n (start k memory) rs b → Invariant n (flat_end memory rs) b
  reached n k memory rs b run = kept_run n memory rs (start k memory) b (starts n k memory) run
