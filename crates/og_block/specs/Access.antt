-- The accesses that rows complete, and one memory cell that answers them. The cell knows nothing of the protocol.
use Rattle.std.specs.Prelude.{◌≡◌, List, [], ◌∷◌}
use Rattle.og_block.specs.Rows.{Row, Load_shared, Load_clean, Load_dirty, Store, Fill_shared, Fill_clean, Fill_shared_answered, Fill_shared_speculative, Fill_exclusive, Fill_exclusive_answered, Fill_exclusive_speculative, Fill_upgrade, Fill_upgrade_line, Poison_collected, Copy_in}

-- Reads: a load or a reserve found this line, or the mover took it away. Writes: a store, an atomic or a conditional
-- worked on the line `old` and left `new`; a conditional that fails leaves the same. Begins: the block is another
-- page's from now on, and has this line
pub data Access (L : Type 0) : Type 0 where
  NoAccess : Access L
  Reads : (line : L) → Access L
  Writes : (old new : L) → Access L
  Begins : (line : L) → Access L

module _ {L : Type 0} where
  abbrev pub access_of : Row L → Access L
  access_of (Load_shared p l) = Reads l
  access_of (Load_clean p l) = Reads l
  access_of (Load_dirty p l) = Reads l
  access_of (Store p v l) = Writes l v
  access_of (Fill_shared p l) = Reads l
  access_of (Fill_clean p l m) = Reads l
  access_of (Fill_shared_answered p l m) = Reads l
  access_of (Fill_shared_speculative p m) = Reads m
  access_of (Fill_exclusive p v l d) = Writes l v
  access_of (Fill_exclusive_answered p v m l) = Writes l v
  access_of (Fill_exclusive_speculative p v m) = Writes m v
  access_of (Fill_upgrade p v l d) = Writes l v
  access_of (Fill_upgrade_line p v l d) = Writes l v
  access_of (Poison_collected p l d) = Reads l
  access_of (Copy_in p v) = Begins v
  access_of r = NoAccess

  -- the access found what the cell has
  abbrev pub Finds : L → Access L → Type 0
  Finds cell (Reads l) = l ≡ cell
  Finds cell (Writes l v) = l ≡ cell
  Finds cell a = Unit {0}

  -- the cell after it
  abbrev pub cell_after : Access L → L → L
  cell_after (Writes l v) cell = v
  cell_after (Begins v) cell = v
  cell_after a cell = cell

  abbrev pub Answers : L → Row L → Type 0
  Answers cell r = Finds cell (access_of r)

  abbrev pub flat_after : Row L → L → L
  flat_after r cell = cell_after (access_of r) cell

  -- the rows' accesses, in their order, are a run of one cell
  abbrev pub FlatRun : L → List (Row L) → Type 0
  FlatRun cell [] = Unit {0}
  FlatRun cell (r ∷ rs) = Answers cell r × FlatRun (flat_after r cell) rs

  -- what the cell has at the end
  abbrev pub flat_end : L → List (Row L) → L
  flat_end cell [] = cell
  flat_end cell (r ∷ rs) = flat_end (flat_after r cell) rs
