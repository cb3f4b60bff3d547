-- Where the line of a block is: in a dirty copy; or in a message that brings it to the home or to its new owner; or, where
-- there is none of these, in the home's memory.
use Rattle.std.specs.Prelude.{◌≡◌, ℕ, ◌<◌, Bool, true, false}
use Rattle.og_block.specs.State.{Block, Dirty, Response, ExclusiveResponse, WriteBack, Revision, SharingWriteBack, PoisonBack}
use Rattle.og_block.specs.Rows.{is_dirty}
use Rattle.og_block.specs.Views.{is_write_back}

module _ {L : Type 0} where
  abbrev pub is_exclusive_response : Response L → Bool
  is_exclusive_response (ExclusiveResponse l) = true
  is_exclusive_response r = false

  abbrev pub has_line : Revision L → Bool
  has_line (SharingWriteBack s l) = true
  has_line (PoisonBack s l) = true
  has_line v = false

  -- each line that stands before the home's is l, and where there is none the home's line is l
  pub record Held (n : ℕ) (l : L) (b : Block L) : Type 0 where
    pub dirty : (q : ℕ) (x : L) → q < n → b.copy q ≡ Dirty x → x ≡ l
    pub back : (q : ℕ) (x : L) → q < n → b.back q ≡ WriteBack x → x ≡ l
    pub response : (q : ℕ) (x : L) → q < n → b.response q ≡ ExclusiveResponse x → x ≡ l
    pub sharing : (s : ℕ) (x : L) → b.revision ≡ SharingWriteBack s x → x ≡ l
    pub poison : (s : ℕ) (x : L) → b.revision ≡ PoisonBack s x → x ≡ l
    pub home : ((q : ℕ) → q < n → (is_dirty (b.copy q) ≡ false) × (is_write_back (b.back q) ≡ false) × (is_exclusive_response (b.response q) ≡ false)) → has_line b.revision ≡ false → b.line ≡ l
