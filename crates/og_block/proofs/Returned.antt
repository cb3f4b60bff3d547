-- Where a block has come back early, each request that the home has granted and that is outstanding is a marked read.
use Rattle.std.proofs.Common.{◌≡◌, ℕ, Bool, true, false, arith, ◌⊎◌}
use Rattle.og_block.specs.State.{Copy, Want, Reading, Ask, Response, Back, Invalidation, BusyExclusive, Block}
use Rattle.og_block.specs.Views.{is_holder, is_sharer, is_invalidate, trusts, trusts_at, owns, waits_shared, waits_exclusive}
use Rattle.og_block.specs.Races.{is_granted}
use Rattle.og_block.specs.Invariant.{Local, Fits_ask, Sent_by, Waits, Trusted, Owned}

module _ {L : Type 0} where
  pub returned_marked : (n : ℕ) (f : L) (b : Block L) (o p q : ℕ) → Local n f b q → b.entry ≡ BusyExclusive o p true → is_granted (b.ask q) ≡ true → b.want q ≡ Reading true
  returned_marked n f b o p q h e g = by (b.copy q) (b.want q) (b.ask q) (b.response q) (b.back q) (b.acks q) h.asks (waits h.waits).0 (waits h.waits).1 (trust h.trusted (sent (b.invalidation q) h.sent)) (own h.owned) g
    where
      waits : Waits b q → (waits_shared (b.want q) (b.ask q) (b.response q) ≡ false) × (waits_exclusive (b.want q) (b.ask q) (b.response q) ≡ false)
      waits w = (grind arith, grind arith)

      nobody : (r : ℕ) → is_holder b.entry b.revision r ≡ false
      nobody r = grind arith

      sent : (i : Invalidation) → Sent_by n b q i → is_invalidate i ≡ false
      sent i s = grind arith

      trust : Trusted b q → is_invalidate (b.invalidation q) ≡ false → trusts_at b q ≡ false
      trust t i = by_case (trusts_at b q) t
        where
          by_case : (u : Bool) → (u ≡ true → (is_sharer b.entry b.revision q ≡ true) ⊎ ((is_holder b.entry b.revision q ≡ true) ⊎ (is_invalidate (b.invalidation q) ≡ true))) → u ≡ false
          by_case u t = let x : is_holder b.entry b.revision q ≡ false = nobody q in let y : is_sharer b.entry b.revision q ≡ false = grind arith in grind arith

      own : Owned b q → owns (b.copy q) (b.want q) (b.ask q) (b.response q) (b.back q) ≡ false
      own w = by_case (owns (b.copy q) (b.want q) (b.ask q) (b.response q) (b.back q)) w
        where
          by_case : (u : Bool) → (u ≡ true → is_holder b.entry b.revision q ≡ true) → u ≡ false
          by_case u t = let x : is_holder b.entry b.revision q ≡ false = nobody q in grind arith

      by : (c : Copy L) (w : Want) (a : Ask L) (r : Response L) (k : Back L) (d : ℕ) → Fits_ask w a r d → waits_shared w a r ≡ false → waits_exclusive w a r ≡ false → trusts c w a r ≡ false → owns c w a r k ≡ false → is_granted a ≡ true → w ≡ Reading true
      by c w a r k d fits ns ne nt ow g = grind arith
