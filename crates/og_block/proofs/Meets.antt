-- In a run in which each plays its part, no message is ever met without a row.
use Rattle.std.proofs.Common.{◌≡◌, ℕ, ◌<◌, true, false, arith, ◌≢◌, ◌⊎◌, inl, inr, refl}
use Rattle.std.proofs.lemmas.Bool.Decides.{nat_tests}
use Rattle.og_block.proofs.Alone.{giver_holds}
use Rattle.og_block.proofs.Served.{read, exclusive, upgrade, poison, write_back, busy_ack, revision, invalidation, intervention}
use Rattle.og_block.proofs.Replies.{full, speculative, exclusive_full, upgrade_full, refused, shared_reply, few, poison_full}
use Rattle.og_block.specs.State.{Upgrading, Poisoning, Ask, NoAsk, Read, ReadExclusive, Upgrade, SharedReply, SpeculativeReply, ExclusiveReply, UpgradeReply, NegativeAck, PoisonError, PoisonRead, PoisonWait, PoisonReply, Response, NoResponse, Back, NoBack, WriteBack, WriteBackAck, WriteBackBusyAck, Taken, Seen, Exclusive, PoisonBy, Block}
use Rattle.og_block.specs.Rows.{is_upgrading, Poisoned, Write_back_ack}
use Rattle.og_block.specs.Invariant.{Invariant, Local, is_shared}
use Rattle.og_block.specs.Roles.{Roles, is_poisoning}
use Rattle.og_block.specs.Message.{Asked, Answered, Returned, Revised, Intervened, Invalidated, is_sent, MeetsRow, MayWait, Served}

module _ {L : Type 0} where
  not_owner : (n : ℕ) (f : L) (q : ℕ) (b : Block L) → Local n f b q → b.ask q ≡ Upgrade → b.entry ≢ Exclusive q
  not_owner n f q b h a e = grind (arith, nat_tests)

  -- who asks to poison is the mover
  is_mover : (n : ℕ) (f : L) (q m : ℕ) (b : Block L) → Local n f b q → Roles n m b → q < n → b.ask q ≡ PoisonRead → q ≡ m
  is_mover n f q m b h roles lt a = let p : q ≢ m → is_poisoning (b.want q) ≡ false = roles.plain q lt in grind (arith, nat_tests)

  waits_or_meets : (n : ℕ) (f : L) (q m : ℕ) (b : Block L) (a : Ask L) → Invariant n f b → Roles n m b → m < n → q < n → b.ask q ≡ a → is_sent a ≡ true → MeetsRow n b (Asked q a) ⊎ MayWait b (Asked q a)
  waits_or_meets n f q m b Read inv roles lm lt a sent = inl (read n q b b.entry refl lt a)
  waits_or_meets n f q m b ReadExclusive inv roles lm lt a sent = inl (exclusive n q b b.entry refl lt a)
  waits_or_meets n f q m b Upgrade inv roles lm lt a sent = inl (upgrade n q b b.entry refl (not_owner n f q b (inv.each q lt) a) lt a)
  waits_or_meets n f q m b PoisonRead inv roles lm lt a sent =
      let same : q ≡ m = is_mover n f q m b (inv.each q lt) roles lt a in
      let h : Local n f b q = inv.each q lt in
      inl (poison n q b b.entry refl (not_exclusive same roles) (not_poisoned same roles h) lt a)
    where
      not_exclusive : q ≡ m → Roles n m b → b.entry ≢ Exclusive q
      not_exclusive same roles e = let en = roles.ends in grind (arith, nat_tests)

      not_poisoned : q ≡ m → Roles n m b → Local n f b q → (o : ℕ) → b.entry ≢ PoisonBy o
      not_poisoned same roles h o e = let re = roles.reply in let w = h.asks in grind (arith, nat_tests)
  waits_or_meets n f q m b (SharedReply l) inv roles lm lt a sent = inl (shared_reply n q l b (b.want q) refl lt a (rw a at (inv.each q lt).asks))
  waits_or_meets n f q m b NegativeAck inv roles lm lt a sent = inl (refused n q b (is_upgrading (b.want q)) refl lt a)
  waits_or_meets n f q m b PoisonError inv roles lm lt a sent = inl (record { row = Poisoned q; may = a; inside = lt; taken = λ s. grind (arith, nat_tests) })
  waits_or_meets n f q m b (SpeculativeReply l) inv roles lm lt a sent = by_response (b.response q) refl
    where
      by_response : (r : Response L) → b.response q ≡ r → MeetsRow n b (Asked q (SpeculativeReply l)) ⊎ (b.response q ≡ NoResponse)
      by_response NoResponse e = inr e
      by_response r e = inl (speculative n q l b (b.want q) r refl e (λ none. cc) lt a (rw (a, e) at (inv.each q lt).asks)).0
  waits_or_meets n f q m b (ExclusiveReply l d) inv roles lm lt a sent = elim (full n f q d b ((few n f q d b (inv.each q lt)).0 l a)) [ inl all ↦ inl (exclusive_full n q l d b (b.want q) refl all lt a (rw a at (inv.each q lt).asks)) | inr less ↦ inr less ]
  waits_or_meets n f q m b (UpgradeReply d) inv roles lm lt a sent = elim (full n f q d b ((few n f q d b (inv.each q lt)).1 a)) [ inl all ↦ inl (upgrade_full n q d b (b.copy q) refl (shared (inv.each q lt) a) (upgrading (inv.each q lt) a) all lt a) | inr less ↦ inr less ]
    where
      shared : Local n f b q → b.ask q ≡ UpgradeReply d → is_shared (b.copy q) ≡ true
      shared h a = grind arith

      upgrading : Local n f b q → b.ask q ≡ UpgradeReply d → b.want q ≡ Upgrading
      upgrading h a = grind arith
  waits_or_meets n f q m b (PoisonReply l d) inv roles lm lt a sent = elim (full n f q d b ((few n f q d b (inv.each q lt)).2 l a)) [ inl all ↦ inl (poison_full n q l d b (poisoning (inv.each q lt) a) all lt a) | inr less ↦ inr less ]
    where
      poisoning : Local n f b q → b.ask q ≡ PoisonReply l d → b.want q ≡ Poisoning
      poisoning h a = grind arith
  waits_or_meets n f q m b NoAsk inv roles lm lt a sent = absurd (cc)
  waits_or_meets n f q m b PoisonWait inv roles lm lt a sent = absurd (cc)

  answer : (n : ℕ) (f : L) (q : ℕ) (b : Block L) (r : Response L) (a : Ask L) → Local n f b q → q < n → b.response q ≡ r → b.ask q ≡ a → r ≢ NoResponse → MeetsRow n b (Answered q r)
  answer n f q b r (SpeculativeReply l) h lt e a there = (speculative n q l b (b.want q) r refl e there lt a (rw (a, e) at h.asks)).1
  answer n f q b NoResponse a h lt e s there = absurd (there refl)
  answer n f q b r a h lt e s there = absurd (grind arith)

  back : (n : ℕ) (f : L) (q m : ℕ) (b : Block L) (k : Back L) → Invariant n f b → Roles n m b → m < n → q < n → b.back q ≡ k → k ≢ NoBack → MeetsRow n b (Returned q k)
  back n f q m b NoBack inv roles lm lt e there = absurd (there refl)
  back n f q m b (WriteBack l) inv roles lm lt e there = write_back n q m l b b.entry refl lt e (giver_holds n q b l e (inv.each q lt).owned) (not_mover roles (inv.each q lt) (inv.each m lm))
    where
      not_mover : Roles n m b → Local n f b q → Local n f b m → (p : ℕ) → b.entry ≡ PoisonBy p → p ≢ q
      not_mover roles h hm p poisoned same = let mover = roles.mover in let ends = roles.ends in let slot = hm.backs in grind (arith, nat_tests)
  back n f q m b WriteBackAck inv roles lm lt e there = record { row = Write_back_ack q; may = e; inside = lt; taken = λ s. grind (arith, nat_tests) }
  back n f q m b WriteBackBusyAck inv roles lm lt e there = busy_ack n q b (b.victim q) refl (slot (inv.each q lt)) lt e
    where
      slot : Local n f b q → (b.victim q ≡ Taken) ⊎ (b.victim q ≡ Seen)
      slot h = grind arith

  pub served : (n : ℕ) (f : L) (m : ℕ) (b : Block L) → Invariant n f b → Roles n m b → m < n → Served n b
  served n f m b inv roles lm (Asked q a) s = waits_or_meets n f q m b a inv roles lm s.0 s.1 s.2
  served n f m b inv roles lm (Answered q r) s = inl (answer n f q b r (b.ask q) (inv.each q s.0) s.0 s.1 refl s.2)
  served n f m b inv roles lm (Returned q k) s = inl (back n f q m b k inv roles lm s.0 s.1 s.2)
  served n f m b inv roles lm (Revised v) s = inl (revision n f b v b.entry s.0 refl s.1 inv.home)
  served n f m b inv roles lm (Intervened q i) s = intervention n f q b i (b.victim q) (b.want q) (inv.each q s.0) s.0 s.1 s.2 refl refl
  served n f m b inv roles lm (Invalidated q i) s = inl (invalidation n f q b i inv s.0 s.1 s.2)
