-- How the races stand, by the invariant.
use Rattle.std.proofs.Common.{◌≡◌, ℕ, ◌<◌, Bool, true, false, arith, ◌≢◌, ◌⊎◌, inl, inr, refl, subst, List, [], ◌∷◌}
use Rattle.std.proofs.lemmas.Bool.Decides.{nat_tests}
use Rattle.og_slots.proofs.Count.{count_some}
use Rattle.og_block.proofs.All.{kept}
use Rattle.og_block.proofs.Alone.{holder_is_one}
use Rattle.og_block.proofs.KeptHanded.{handed_kept}
use Rattle.og_block.proofs.Free.{asked_how}
use Rattle.og_block.proofs.Returned.{returned_marked}
use Rattle.og_block.specs.State.{Copy, NoCopy, Shared, Want, Reading, Ask, Upgrade, Response, Back, WriteBack, WriteBackAck, WriteBackBusyAck, Victim, Taken, Busy, Seen, Intervention, Invalidation, SharedBy, BusyExclusive, Revision, NoRevision, DirtyTransfer, Single, Sharing, Block, start}
use Rattle.og_block.specs.Rows.{Row, apply, actor_of, has_exclusive, has_intervention}
use Rattle.og_block.specs.Access.{flat_after}
use Rattle.og_block.specs.Invariant.{Invariant, Local, Home, Asks, Rests, Backs, Fits_back, Sent_by, Fresh_copy, Memory, Revised, Inside, is_holder, is_sharer, is_invalidate, is_for, is_shared, is_write_back, waits_exclusive, awaits_exclusive, grants, owns, trusts, trusts_at, was_given, pending}
use Rattle.og_block.specs.Balance.{is_ack, is_busy_ack}
use Rattle.og_block.specs.Races.{names, is_handed, is_granted, Handed, Unheard, Races}
use Rattle.og_block.specs.Run.{Runs}

module _ {L : Type 0} where
  pub handed_run : (n : ℕ) (f : L) (rs : List (Row L)) (b c : Block L) → Invariant n f b → ((q : ℕ) → q < n → Handed b q) → Runs n b rs c → (q : ℕ) → q < n → Handed c q
  handed_run n f [] b c inv h run = subst (λ (x : Block L). (q : ℕ) → q < n → Handed x q) run h
  handed_run n f (r ∷ rs) b c inv h run = handed_run n (flat_after r f) rs (apply n r b) c (kept n f b r run.0 inv run.1) (λ q lt. handed_kept n f q b r run.0 run.1 lt inv.home (inv.each (actor_of r) run.1) (inv.each q lt) (h q lt)) run.2

  pub handed_start : (k : Sharing) (memory : L) (q : ℕ) → Handed (start k memory) q
  handed_start k memory q = λ g. cc

  given : (n : ℕ) (f : L) (b : Block L) (o p : ℕ) (v : Revision L) → Home n f b → Local n f b o → Local n f b p → Handed b p → b.entry ≡ BusyExclusive o p false → b.revision ≡ v → Unheard b o p ⊎ ((b.revision ≡ DirtyTransfer o) × (is_handed (b.copy p) (b.want p) (b.ask p) (b.response p) (b.back p) ≡ true))
  given n f b o p NoRevision home ho hp hd e ev = inl (record { silent = ev; waits = waiting hp.waits.1; asked = asked_how n f b o p ho e ev })
    where
      waiting : waits_exclusive (b.want p) (b.ask p) (b.response p) ≡ awaits_exclusive b.entry b.revision p → waits_exclusive (b.want p) (b.ask p) (b.response p) ≡ true
      waiting w = let a : awaits_exclusive b.entry b.revision p ≡ true = grind (arith, nat_tests) in cc
  given n f b o p (DirtyTransfer s) home ho hp hd e ev = inr (sender home.revised, hd (grind (arith, nat_tests)))
    where
      sender : Revised b.entry b.revision → b.revision ≡ DirtyTransfer o
      sender r = grind arith
  given n f b o p v home ho hp hd e ev = absurd (let r = home.revised in grind arith)

  no_copy : (c : Copy L) (w : Want) (a : Ask L) (r : Response L) (k : Back L) → trusts c w a r ≡ false → owns c w a r k ≡ false → c ≡ NoCopy
  no_copy c w a r k t o = grind arith

  -- where the entry has neither holder nor sharer, nobody has a copy
  copyless : (n : ℕ) (f : L) (b : Block L) (q : ℕ) → ((r : ℕ) → is_holder b.entry b.revision r ≡ false) → is_sharer b.entry b.revision q ≡ false → Local n f b q → b.copy q ≡ NoCopy
  copyless n f b q nobody none h = no_copy (b.copy q) (b.want q) (b.ask q) (b.response q) (b.back q) (by_trust (trusts_at b q) h.trusted (by_sent (b.invalidation q) h.sent)) (by_owner (owns (b.copy q) (b.want q) (b.ask q) (b.response q) (b.back q)) h.owned)
    where
      by_sent : (i : Invalidation) → Sent_by n b q i → is_invalidate i ≡ false
      by_sent i s = grind arith

      by_trust : (t : Bool) → (t ≡ true → (is_sharer b.entry b.revision q ≡ true) ⊎ ((is_holder b.entry b.revision q ≡ true) ⊎ (is_invalidate (b.invalidation q) ≡ true))) → is_invalidate (b.invalidation q) ≡ false → t ≡ false
      by_trust t h i = let mine : is_holder b.entry b.revision q ≡ false = nobody q in grind arith

      by_owner : (t : Bool) → (t ≡ true → is_holder b.entry b.revision q ≡ true) → t ≡ false
      by_owner t h = let mine : is_holder b.entry b.revision q ≡ false = nobody q in grind arith

  returned : (n : ℕ) (f : L) (b : Block L) (o p : ℕ) → Invariant n f b → b.entry ≡ BusyExclusive o p true → (b.revision ≡ DirtyTransfer o) × ((q : ℕ) → q < n → b.copy q ≡ NoCopy) × (b.line ≡ f) × ((q : ℕ) → q < n → is_granted (b.ask q) ≡ true → b.want q ≡ Reading true)
  returned n f b o p inv e = (sender inv.home.revised, λ q lt. copyless n f b q nobody (none q) (inv.each q lt), line inv.home.memory, λ q lt g. returned_marked n f b o p q (inv.each q lt) e g)
    where
      sender : Revised b.entry b.revision → b.revision ≡ DirtyTransfer o
      sender r = grind arith

      nobody : (r : ℕ) → is_holder b.entry b.revision r ≡ false
      nobody r = grind arith

      none : (q : ℕ) → is_sharer b.entry b.revision q ≡ false
      none q = grind arith

      line : Memory f b.line b.entry b.revision → b.line ≡ f
      line m = grind arith

  -- an invalidation or acknowledgement of which r waits to hear is for the holder r
  for_holder : (n : ℕ) (b : Block L) (q r : ℕ) (i : Invalidation) → Sent_by n b q i → is_for r i ≡ true → (is_holder b.entry b.revision r ≡ true) × (r ≢ q) × (r < n)
  for_holder n b q r i s is = grind (arith, nat_tests)

  waits : (n : ℕ) (f : L) (b : Block L) (r : ℕ) → Local n f b r → 0 < pending n b r → grants (b.ask r) ≡ true
  waits n f b r h some = let c = h.counted in grind arith

  -- of one that is granted the block, the entry names it
  named : (b : Block L) (r : ℕ) → Asks b r → Rests b r → Backs b r → Handed b r → is_holder b.entry b.revision r ≡ true → grants (b.ask r) ≡ true → names b.entry r ≡ true
  named b r a c k h holds g = grind (arith, nat_tests)

  not_owner : (n : ℕ) (f : L) (b : Block L) (q r : ℕ) → Local n f b q → is_holder b.entry b.revision r ≡ true → r ≢ q → owns (b.copy q) (b.want q) (b.ask q) (b.response q) (b.back q) ≡ false
  not_owner n f b q r h holds ne = by_owner (owns (b.copy q) (b.want q) (b.ask q) (b.response q) (b.back q)) h.owned
    where
      by_owner : (t : Bool) → (t ≡ true → is_holder b.entry b.revision q ≡ true) → t ≡ false
      by_owner false h = refl
      by_owner true h = absurd (ne (holder_is_one b.entry b.revision r q holds (h refl)))

  unowned : (c : Copy L) (w : Want) (a : Ask L) (r : Response L) (k : Back L) → owns c w a r k ≡ false → (has_exclusive c ≡ false) × (grants a ≡ false) × (was_given w a r ≡ false)
  unowned c w a r k o = (grind arith, grind arith, grind arith)

  invalidated : (n : ℕ) (f : L) (b : Block L) (q r : ℕ) → Invariant n f b → ((p : ℕ) → p < n → Handed b p) → q < n → is_for r (b.invalidation q) ≡ true → (grants (b.ask r) ≡ true) × (names b.entry r ≡ true) × (has_exclusive (b.copy q) ≡ false) × (grants (b.ask q) ≡ false) × (was_given (b.want q) (b.ask q) (b.response q) ≡ false)
  invalidated n f b q r inv hd lt is =
      let s : (is_holder b.entry b.revision r ≡ true) × (r ≢ q) × (r < n) = for_holder n b q r (b.invalidation q) (inv.each q lt).sent is in
      let hr : Local n f b r = inv.each r s.2 in
      let some : 0 < pending n b r = count_some n (λ k. is_for r (b.invalidation k)) q lt is in
      let g : grants (b.ask r) ≡ true = waits n f b r hr some in
      let u : (has_exclusive (b.copy q) ≡ false) × (grants (b.ask q) ≡ false) × (was_given (b.want q) (b.ask q) (b.response q) ≡ false) = unowned (b.copy q) (b.want q) (b.ask q) (b.response q) (b.back q) (not_owner n f b q r (inv.each q lt) s.0 s.1) in
      (g, named b r hr.asks hr.rests hr.backs (hd r s.2) s.0 g, u.0, u.1, u.2)

  upgrading : (n : ℕ) (f : L) (b : Block L) (q : ℕ) (s : ℕ → Bool) → Home n f b → Local n f b q → b.sharing ≡ Single → b.entry ≡ SharedBy s → s q ≡ true → b.ask q ≡ Upgrade → b.copy q ≡ Shared b.line
  upgrading n f b q s home h k e is a = same (b.copy q) (h.upgrades.asked k (grind arith) (grind arith)) h.fresh.0 (line home.memory)
    where
      line : Memory f b.line b.entry b.revision → b.line ≡ f
      line m = grind arith

      same : (c : Copy L) → is_shared c ≡ true → Fresh_copy f c → b.line ≡ f → c ≡ Shared b.line
      same (Shared l) sh fr m = let x : l ≡ b.line = cc in cc
      same c sh fr m = absurd (grind arith)

  slot_busy : (b : Block L) (q : ℕ) → Backs b q → b.victim q ≡ Busy → has_intervention (b.intervention q) ≡ true
  slot_busy b q k e = grind (arith, nat_tests)

  slot_seen : (k : Back L) (v : Victim) (i : Intervention) → Fits_back v k i → v ≡ Seen → (is_write_back k ≡ true) ⊎ (is_busy_ack k ≡ true)
  slot_seen (WriteBack l) v i h e = inl refl
  slot_seen WriteBackBusyAck v i h e = inr refl
  slot_seen k v i h e = absurd (grind arith)

  slot_taken : (k : Back L) (v : Victim) (i : Intervention) → Fits_back v k i → v ≡ Taken → (is_write_back k ≡ true) ⊎ ((is_ack k ≡ true) ⊎ (is_busy_ack k ≡ true))
  slot_taken (WriteBack l) v i h e = inl refl
  slot_taken WriteBackAck v i h e = inr (inl refl)
  slot_taken WriteBackBusyAck v i h e = inr (inr refl)
  slot_taken k v i h e = absurd (grind arith)

  pub races : (n : ℕ) (f : L) (b : Block L) → Invariant n f b → ((q : ℕ) → q < n → Handed b q) → Races n f b
  races n f b inv hd = record {
    given = λ o p lo e. (let lp : p < n = within inv.home.inside e in given n f b o p b.revision inv.home (inv.each o lo) (inv.each p lp) (hd p lp) e refl);
    returned = λ o p e. returned n f b o p inv e;
    invalidated = λ q r lt is. invalidated n f b q r inv hd lt is;
    upgrading = λ q s lt k e is a. upgrading n f b q s inv.home (inv.each q lt) k e is a;
    busy = λ q lt e. slot_busy b q (inv.each q lt).backs e;
    seen = λ q lt e. slot_seen (b.back q) (b.victim q) (b.intervention q) (inv.each q lt).backs e;
    taken = λ q lt e. slot_taken (b.back q) (b.victim q) (b.intervention q) (inv.each q lt).backs e;
  }
    where
      within : {o p : ℕ} → Inside n b.entry → b.entry ≡ BusyExclusive o p false → p < n
      within i e = grind arith
