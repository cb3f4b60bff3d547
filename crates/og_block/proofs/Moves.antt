-- Where an actor has something outstanding for a block, or a taken victim slot, something of the block can move.
use Rattle.std.proofs.Common.{◌≡◌, ℕ, zero, suc, ◌+◌, ◌<◌, ◌≤◌, Bool, true, false, cond, arith, ◌≢◌, inl, inr, refl}
use Rattle.std.proofs.lemmas.Bool.Decides.{nat_tests}
use Rattle.og_block.proofs.Replies.{full}
use Rattle.og_block.specs.State.{Want, Idle, Ask, NoAsk, Read, ReadExclusive, Upgrade, SharedReply, SpeculativeReply, ExclusiveReply, UpgradeReply, NegativeAck, PoisonError, PoisonRead, PoisonWait, PoisonReply, Response, NoResponse, Back, NoBack, Victim, Free, Intervention, NoIntervention, Invalidation, NoInvalidation, Entry, BusyShared, BusyExclusive, BusyPoison, Revision, NoRevision, Block, count}
use Rattle.og_block.specs.Views.{is_asked, awaits_shared, awaits_exclusive, awaits_poison, waits_shared, waits_exclusive, waits_poison, is_for, pending}
use Rattle.og_block.specs.Invariant.{Invariant, Local, Inside, Backs, Fits_back, Spent, Intervened, Waits, Asks, Fits_ask, Rests, Counted}
use Rattle.og_block.specs.Message.{Asked, Returned, Revised, Intervened as OfIntervention, Invalidated}
use Rattle.og_block.specs.Moves.{SomethingMoves, Moves}

-- one that is counted
found : (n : ℕ) (t : ℕ → Bool) → 0 < count n t → (k : ℕ) × (k < n) × (t k ≡ true)
found zero t some = absurd (omega arith)
found (suc n) t some = by (t n) refl (λ lt. found n t lt)
  where
    by : (u : Bool) → t n ≡ u → (0 < count n t → (k : ℕ) × (k < n) × (t k ≡ true)) → (k : ℕ) × (k < suc n) × (t k ≡ true)
    by true e rest = (n, omega arith, e)
    by false e rest = let r : (k : ℕ) × (k < n) × (t k ≡ true) = rest (grind arith) in (r.0, (let lt : r.0 < n = r.1 in omega arith), r.2)

module _ {L : Type 0} (n : ℕ) (f : L) (b : Block L) (inv : Invariant n f b) where
  -- an acknowledgement that is still to come
  pending_moves : (r : ℕ) → 0 < pending n b r → SomethingMoves L n b
  pending_moves r some = let k = found n (λ j. is_for r (b.invalidation j)) some in record { message = Invalidated k.0 (b.invalidation k.0); stands = (k.1, refl, there k.0 (b.invalidation k.0) k.2); moves = λ w. w }
    where
      there : (k : ℕ) (i : Invalidation) → is_for r i ≡ true → i ≢ NoInvalidation
      there k NoInvalidation e same = absurd (cc)
      there k i e same = grind arith

  more : (q d : ℕ) → Local n f b q → pending n b q + b.acks q ≡ d → b.acks q < d → 0 < pending n b q
  more q d h e lt = omega arith

  -- the request of q doesn't wait for an owner
  carrier : (q : ℕ) → q < n → b.want q ≢ Idle → waits_shared (b.want q) (b.ask q) (b.response q) ≡ false → waits_exclusive (b.want q) (b.ask q) (b.response q) ≡ false → waits_poison (b.ask q) ≡ false → SomethingMoves L n b
  carrier q lt busy ns ne np = by (b.ask q) refl
    where
      h : Local n f b q
      h = inv.each q lt

      speculative : (w : Want) (a : Ask L) (r : Response L) (k : ℕ) → Fits_ask w a r k → waits_shared w a r ≡ false → waits_exclusive w a r ≡ false → (l : L) → a ≡ SpeculativeReply l → r ≢ NoResponse
      speculative w a r k fits x y l e none = grind arith

      no_ask : b.ask q ≡ NoAsk → b.want q ≡ Idle
      no_ask e = let a : Asks b q = h.asks in grind arith

      with_due : (a : Ask L) (d : ℕ) → b.ask q ≡ a → b.acks q ≤ d → pending n b q + b.acks q ≡ d → ((b.acks q ≡ d) → SomethingMoves L n b) → SomethingMoves L n b
      with_due a d e le c done = elim (full n f q d b le) [ inl all ↦ done all | inr less ↦ pending_moves q (more q d h c less) ]

      by : (a : Ask L) → b.ask q ≡ a → SomethingMoves L n b
      by NoAsk e = absurd (busy (no_ask e))
      by PoisonWait e = absurd (grind arith)
      by (SpeculativeReply l) e = record { message = Asked q (SpeculativeReply l); stands = (lt, e, refl); moves = speculative (b.want q) (b.ask q) (b.response q) (b.acks q) h.asks ns ne l e }
      by (ExclusiveReply l d) e = let c : pending n b q + b.acks q ≡ d = let x : Counted n b q = h.counted in grind arith in with_due (ExclusiveReply l d) d e (omega (arith, c)) c (λ all. record { message = Asked q (ExclusiveReply l d); stands = (lt, e, refl); moves = λ less. omega arith })
      by (UpgradeReply d) e = let c : pending n b q + b.acks q ≡ d = let x : Counted n b q = h.counted in grind arith in with_due (UpgradeReply d) d e (omega (arith, c)) c (λ all. record { message = Asked q (UpgradeReply d); stands = (lt, e, refl); moves = λ less. omega arith })
      by (PoisonReply l d) e = let c : pending n b q + b.acks q ≡ d = let x : Counted n b q = h.counted in grind arith in with_due (PoisonReply l d) d e (omega (arith, c)) c (λ all. record { message = Asked q (PoisonReply l d); stands = (lt, e, refl); moves = λ less. omega arith })
      by Read e = record { message = Asked q Read; stands = (lt, e, refl); moves = λ w. w }
      by ReadExclusive e = record { message = Asked q ReadExclusive; stands = (lt, e, refl); moves = λ w. w }
      by Upgrade e = record { message = Asked q Upgrade; stands = (lt, e, refl); moves = λ w. w }
      by (SharedReply l) e = record { message = Asked q (SharedReply l); stands = (lt, e, refl); moves = λ w. w }
      by NegativeAck e = record { message = Asked q NegativeAck; stands = (lt, e, refl); moves = λ w. w }
      by PoisonError e = record { message = Asked q PoisonError; stands = (lt, e, refl); moves = λ w. w }
      by PoisonRead e = record { message = Asked q PoisonRead; stands = (lt, e, refl); moves = λ w. w }

  -- a slot with a write-back or its acknowledgement
  returned : (q : ℕ) → q < n → b.back q ≢ NoBack → SomethingMoves L n b
  returned q lt there = record { message = Returned q (b.back q); stands = (lt, refl, there); moves = λ w. w }

  -- an owner that is asked, where it is not the requester itself
  asked : (o : ℕ) → o < n → is_asked b.entry b.revision o ≡ true → awaits_shared b.entry b.revision o ≡ false → awaits_exclusive b.entry b.revision o ≡ false → awaits_poison b.entry o ≡ false → SomethingMoves L n b
  asked o lt is ns ne np = by (b.intervention o) refl (b.want o) refl
    where
      h : Local n f b o
      h = inv.each o lt

      seen : b.intervention o ≡ NoIntervention → Backs b o → Spent b o → Intervened b o → b.back o ≢ NoBack
      seen e k s i none = grind (arith, nat_tests)

      waiting : Waits b o → (waits_shared (b.want o) (b.ask o) (b.response o) ≡ false) × (waits_exclusive (b.want o) (b.ask o) (b.response o) ≡ false) × (waits_poison (b.ask o) ≡ false)
      waiting w = (grind arith, grind arith, grind arith)

      by : (i : Intervention) → b.intervention o ≡ i → (w : Want) → b.want o ≡ w → SomethingMoves L n b
      by NoIntervention e w x = returned o lt (seen e h.backs h.spent h.intervened)
      by i e Idle x = record { message = OfIntervention o i; stands = (lt, e, λ none. grind arith); moves = λ held. held x }
      by i e w x = let y = waiting h.waits in carrier o lt (λ idle. grind arith) y.0 y.1 y.2

  -- whoever has something outstanding
  pub outstanding_moves : (q : ℕ) → q < n → b.want q ≢ Idle → SomethingMoves L n b
  outstanding_moves q lt busy = by b.entry refl b.revision refl inv.home.inside
    where
      h : Local n f b q
      h = inv.each q lt

      revised : (v : Revision L) → b.revision ≡ v → v ≢ NoRevision → SomethingMoves L n b
      revised v e there = record { message = Revised v; stands = (e, there); moves = λ w. w }

      apart : Waits b q → awaits_shared b.entry b.revision q ≡ false → awaits_exclusive b.entry b.revision q ≡ false → awaits_poison b.entry q ≡ false → SomethingMoves L n b
      apart w x y z = carrier q lt busy (grind arith) (grind arith) (grind arith)

      by : (e : Entry) → b.entry ≡ e → (v : Revision L) → b.revision ≡ v → Inside n b.entry → SomethingMoves L n b
      by (BusyShared o p) e NoRevision v i = let x : (o < n) × (o ≢ p) = grind arith in asked o x.0 (grind (arith, nat_tests)) (grind (arith, nat_tests)) (grind arith) (grind arith)
      by (BusyExclusive o p false) e NoRevision v i = let x : (o < n) × (o ≢ p) = grind arith in asked o x.0 (grind (arith, nat_tests)) (grind arith) (grind (arith, nat_tests)) (grind arith)
      by (BusyPoison o p) e NoRevision v i = let x : (o < n) × (o ≢ p) = grind arith in asked o x.0 (grind (arith, nat_tests)) (grind arith) (grind arith) (grind (arith, nat_tests))
      by e x NoRevision v i = apart h.waits (grind arith) (grind arith) (grind arith)
      by e x v y i = revised v y (λ none. grind arith)

  -- whoever has a victim
  pub victim_moves : (q : ℕ) → q < n → b.victim q ≢ Free → SomethingMoves L n b
  victim_moves q lt taken = by (b.back q) refl
    where
      h : Local n f b q
      h = inv.each q lt

      busy : (v : Victim) (k : Back L) (i : Intervention) → Fits_back v k i → v ≢ Free → k ≡ NoBack → i ≢ NoIntervention
      busy Free k i fits there e none = absurd (there refl)
      busy v k i fits there e none = grind arith

      idle : (v : Victim) → b.victim q ≡ v → v ≢ Free → Rests b q → b.want q ≡ Idle
      idle Free e there r = absurd (there refl)
      idle v e there r = grind arith

      by : (k : Back L) → b.back q ≡ k → SomethingMoves L n b
      by NoBack e = record { message = OfIntervention q (b.intervention q); stands = (lt, refl, busy (b.victim q) (b.back q) (b.intervention q) h.backs taken e); moves = λ held. held (idle (b.victim q) refl taken h.rests) }
      by k e = returned q lt (λ none. grind arith)

pub moves : {L : Type 0} → (n : ℕ) (f : L) (b : Block L) → Invariant n f b → (q : ℕ) → q < n → Moves L n b q
moves n f b inv q lt = record { request = λ busy. outstanding_moves n f b inv q lt busy; victim = λ taken. victim_moves n f b inv q lt taken }
