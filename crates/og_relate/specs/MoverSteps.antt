-- What the mover does with a notice that it refuses since no frame is free, and when it tells holders to drop a frame.
use Rattle.std.specs.Prelude.{ℕ, zero, suc, Bool, cond, nat_eq, List, [], ◌∷◌, ◌++◌}
use Rattle.std.proofs.Common.{Option, None, Some}
use Rattle.og_slots.specs.Count.{count}
use Rattle.og_relate.specs.Data.{KRearm, KDropFrame, Post, Mover, MTell, MGather, MClean, Setup}
use Rattle.og_relate.specs.Steps.{letter}

module _ {L : Type 0} where
  -- Rearm to the frame's home
  abbrev pub refuse : Setup → ℕ → Mover L → Mover L × List (Post L)
  refuse s f m = (m, letter s.nodes (s.home f) (KRearm f) ∷ [])

  -- a frame that a page has left is to be made usable again, if there is one: the page table says which
  abbrev pub reclaim : Option ℕ → Mover L → Mover L × List (Post L)
  reclaim None m = (m, [])
  reclaim (Some f) m = (record m { job = MTell f }, [])

  -- a notice of frame f that is refused since the node has no free frame
  abbrev pub refuse_full : Setup → ℕ → Option ℕ → Mover L → Mover L × List (Post L)
  refuse_full s f old m = ((reclaim old (refuse s f m).0).0, (refuse s f m).1 ++ (reclaim old (refuse s f m).0).1)

  -- to each of the first i nodes that holds the frame, rising
  abbrev pub drops : ℕ → ℕ → (ℕ → Bool) → ℕ → List (Post L)
  drops n f h zero = []
  drops n f h (suc i) = drops n f h i ++ cond (h i) (letter n i (KDropFrame f) ∷ []) []

  abbrev pub tell : Setup → ℕ → Mover L → Mover L × List (Post L)
  tell s f m = (record m { job = cond (nat_eq (count s.nodes (m.holders f)) 0) (MClean f) (MGather f) }, drops s.nodes f (m.holders f) s.nodes)
