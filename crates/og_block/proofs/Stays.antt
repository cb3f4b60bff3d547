-- A row leaves every message that stands, but those in the slots from which it takes. So the messages in flight of a
-- machine keep their places with one lemma for all rows.
use Rattle.std.proofs.Common.{◌≡◌, ℕ, ◌<◌, Bool, false, arith, inl, inr}
use Rattle.std.proofs.lemmas.Bool.{cases_Bool}
use Rattle.og_block.specs.State.{Block}
use Rattle.og_block.specs.Rows.{Row, guard, apply, actor_of}
use Rattle.og_block.specs.Invariant.{Invariant}
use Rattle.og_block.specs.Message.{Message, Stands}
use Rattle.og_block.specs.Slots.{writes, takes, is_in}
use Rattle.og_block.proofs.Leaves.{leaves}
use Rattle.og_block.proofs.Sends.{sends_free}

module _ {L : Type 0} where
  pub stays : (n : ℕ) (f : L) (b : Block L) (r : Row L) (m : Message L) → guard r b → Invariant n f b → actor_of r < n → is_in (takes r) m ≡ false → Stands n b m → Stands n (apply n r b) m
  stays n f b r m g inv lp o s = elim (cases_Bool (is_in (writes r) m)) [ inl t ↦ absurd (sends_free n f b r m g inv lp t o s) | inr t ↦ leaves n b r m t s ]

  pub sharing_stays : (n : ℕ) (r : Row L) (b : Block L) → (apply n r b).sharing ≡ b.sharing
  sharing_stays n r b = grind arith
