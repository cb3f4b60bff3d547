-- What a look-up answers after an intervention: for its block, and for every other block.
use Rattle.std.specs.Prelude.{◌≡◌, ◌≢◌, ℕ, true, None, option_map}
use Rattle.og_base.specs.declared.Block.{Block}
use Rattle.og_line.specs.declared.Mode.TheVariants.{Shared}
use Rattle.og_cache.specs.Cache.{Cached, IsCache, look_of, has_room}
use Rattle.og_request.specs.declared.Held.{Held}
use Rattle.og_request.specs.declared.Held.TheVariants.{Shared as ShareWith, Exclusive as GiveTo, Poison as GiveBack}
use Rattle.og_owner.specs.Owner.{after_intervention}

-- a copy that is asked to be shared is shared, with its line, and one that is given away is gone; every other block is as it
-- was, and no set loses room
pub record InterventionIsSeen : Type 0 where
  pub shared : (cache : Cached) (block : Block) (requester : ℕ) → IsCache cache → look_of (after_intervention cache block (ShareWith requester)) block ≡ option_map (λ copy. (Shared, copy.1)) (look_of cache block)
  pub given : (cache : Cached) (block : Block) (requester : ℕ) → IsCache cache → look_of (after_intervention cache block (GiveTo requester)) block ≡ None
  pub given_back : (cache : Cached) (block : Block) → IsCache cache → look_of (after_intervention cache block GiveBack) block ≡ None
  pub others : (cache : Cached) (block other : Block) (held : Held) → IsCache cache → other ≢ block → look_of (after_intervention cache block held) other ≡ look_of cache other
  pub room : (cache : Cached) (block other : Block) (held : Held) → IsCache cache → has_room cache other ≡ true → has_room (after_intervention cache block held) other ≡ true
  pub sound : (cache : Cached) (block : Block) (held : Held) → IsCache cache → IsCache (after_intervention cache block held)
