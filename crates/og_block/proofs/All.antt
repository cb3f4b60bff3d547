-- Every row keeps the invariant.
use Rattle.std.proofs.Common.{ℕ, ◌<◌}
use Rattle.og_block.proofs.KeptHome.{home_kept}
use Rattle.og_block.proofs.KeptAsks.{asks_kept}
use Rattle.og_block.proofs.KeptRests.{rests_kept}
use Rattle.og_block.proofs.KeptBacks.{backs_kept}
use Rattle.og_block.proofs.KeptOwned.{owned_kept}
use Rattle.og_block.proofs.KeptSpent.{spent_kept}
use Rattle.og_block.proofs.KeptWaits.{waits_kept}
use Rattle.og_block.proofs.KeptTrusted.{trusted_kept}
use Rattle.og_block.proofs.KeptIntervened.{intervened_kept}
use Rattle.og_block.proofs.KeptEarly.{early_kept}
use Rattle.og_block.proofs.KeptSent.{sent_kept}
use Rattle.og_block.proofs.KeptFresh.{fresh_kept}
use Rattle.og_block.proofs.KeptCovered.{covered_kept}
use Rattle.og_block.proofs.KeptCounted.{counted_kept}
use Rattle.og_block.proofs.KeptUpgrades.{upgrades_kept}
use Rattle.og_block.specs.State.{Block}
use Rattle.og_block.specs.Access.{flat_after}
use Rattle.og_block.specs.Rows.{Row, guard, apply, actor_of}
use Rattle.og_block.specs.Invariant.{Invariant, Local}

module _ {L : Type 0} where
  pub kept : (n : ℕ) (f : L) (b : Block L) (r : Row L) → guard r b → Invariant n f b → actor_of r < n → Invariant n (flat_after r f) (apply n r b)
  kept n f b r g inv lp = record { each = λ q lq. local q lq (inv.each (actor_of r) lp) (inv.each q lq); home = home_kept n f b r g lp inv.home (inv.each (actor_of r) lp) }
    where
      local : (q : ℕ) → q < n → Local n f b (actor_of r) → Local n f b q → Local n (flat_after r f) (apply n r b) q
      local q lq hp hq = record {
        asks = asks_kept n f q b r g inv lp lq inv.home hp hq;
        rests = rests_kept n f q b r g inv lp lq inv.home hp hq;
        backs = backs_kept n f q b r g inv lp lq inv.home hp hq;
        owned = owned_kept n f q b r g inv lp lq inv.home hp hq;
        spent = spent_kept n f q b r g inv lp lq inv.home hp hq;
        waits = waits_kept n f q b r g inv lp lq inv.home hp hq;
        trusted = trusted_kept n f q b r g inv lp lq inv.home hp hq;
        intervened = intervened_kept n f q b r g inv lp lq inv.home hp hq;
        early = early_kept n f q b r g inv lp lq inv.home hp hq;
        sent = sent_kept n f q b r g inv lp lq inv.home hp hq;
        fresh = fresh_kept n f q b r g inv lp lq inv.home hp hq;
        covered = covered_kept n f q b r g inv lp lq inv.home hp hq;
        counted = counted_kept n f q b r g inv lp lq inv.home hp hq;
        upgrades = upgrades_kept n f q b r g inv lp lq inv.home hp hq;
      }
