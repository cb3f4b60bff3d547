-- What balances, and what messages find, by the invariant.
use Rattle.std.proofs.Common.{◌≡◌, ℕ, ◌+◌, ◌<◌, Bool, true, false, arith, ◌≢◌, refl}
use Rattle.std.proofs.lemmas.Bool.Decides.{nat_tests}
use Rattle.og_slots.proofs.Count.{count_some}
use Rattle.og_block.proofs.Served.{not_writable, not_shared}
use Rattle.og_block.proofs.Free.{free_poison}
use Rattle.og_block.specs.State.{Copy, NoCopy, Want, Idle, Upgrading, Ask, NoAsk, Response, NoResponse, Back, Victim, Free, Seen, Intervention, Entry, Revision, Exclusive, Invalidate, InvalidateAck, Block}
use Rattle.og_block.specs.Rows.{has_response, has_intervention}
use Rattle.og_block.specs.Invariant.{Invariant, Local, Asks, Fits_ask, Fits_copy, Backs, Fits_back, Spent, Waits, Intervened, Intervened_by, Early, Early_by, Counted, waits_shared, waits_exclusive, is_spent, is_asked, awaits_shared, awaits_exclusive, is_write_back, is_shared, is_upgrade, grants, pending, is_for, is_holder}
use Rattle.og_block.specs.Balance.{number, is_taken, is_victim_busy, is_victim_seen, is_speculative, is_ack, is_busy_ack, due, Balanced, Finds_ready}

module _ {L : Type 0} where
  replies : (b : Block L) (q : ℕ) → Asks b q → Waits b q → number (is_speculative (b.ask q)) ≡ number (has_response (b.response q)) + number (awaits_shared b.entry b.revision q) + number (awaits_exclusive b.entry b.revision q)
  replies b q a w = by_parts (b.want q) (b.ask q) (b.response q) (b.acks q) (awaits_shared b.entry b.revision q) (awaits_exclusive b.entry b.revision q) a w.0 w.1
    where
      by_parts : (w : Want) (a : Ask L) (r : Response L) (k : ℕ) (x y : Bool) → Fits_ask w a r k → waits_shared w a r ≡ x → waits_exclusive w a r ≡ y → number (is_speculative a) ≡ number (has_response r) + number x + number y
      by_parts w a r k x y fits e f = grind arith

  acknowledgements : (n : ℕ) (b : Block L) (q : ℕ) → Asks b q → Counted n b q → pending n b q + b.acks q ≡ due (b.ask q)
  acknowledgements n b q a c = grind (arith, nat_tests)

  victims : (b : Block L) (q : ℕ) → Backs b q → number (is_taken (b.victim q)) ≡ number (is_write_back (b.back q)) + number (is_ack (b.back q)) + number (is_busy_ack (b.back q)) + number (is_victim_busy (b.victim q))
  victims b q k = grind (arith, nat_tests)

  -- an owner that hasn't answered is the holder
  pub asked_holds : (e : Entry) (v : Revision L) (q : ℕ) → is_asked e v q ≡ true → is_holder e v q ≡ true
  asked_holds e v q a = grind (arith, nat_tests)

  -- an intervention that no victim slot is to ignore is for an owner that hasn't answered
  is_for_asked : (b : Block L) (q : ℕ) (v : Victim) (k : Back L) (i : Intervention) → Intervened_by b q v k i → has_intervention i ≡ true → is_victim_busy v ≡ false → is_busy_ack k ≡ false → is_asked b.entry b.revision q ≡ true
  is_for_asked b q v k i h there busy ack = grind (arith, nat_tests)

  -- and such an owner has one, or its slot has seen it
  has_one : (b : Block L) (q : ℕ) (v : Victim) (k : Back L) (i : Intervention) → Intervened_by b q v k i → has_intervention i ≡ false → is_victim_busy v ≡ false → is_busy_ack k ≡ false → is_asked b.entry b.revision q ≡ true → v ≡ Seen
  has_one b q v k i h none busy ack asked = grind arith

  interventions : (b : Block L) (q : ℕ) → Backs b q → Spent b q → Intervened b q → Early b q → number (has_intervention (b.intervention q)) + number (is_victim_seen (b.victim q)) ≡ number (is_asked b.entry b.revision q) + number (is_busy_ack (b.back q)) + number (is_victim_busy (b.victim q))
  interventions b q k s i e = by_slot (b.victim q) (b.back q) (b.intervention q) (is_asked b.entry b.revision q) k (λ spent. not_asked (is_asked b.entry b.revision q) (is_holder b.entry b.revision q) (asked_holds b.entry b.revision q) (s spent)) (is_for_asked b q (b.victim q) (b.back q) (b.intervention q) i) (has_one b q (b.victim q) (b.back q) (b.intervention q) i) (early b q (b.victim q) (b.back q) e)
    where
      not_asked : (x y : Bool) → (x ≡ true → y ≡ true) → y ≡ false → x ≡ false
      not_asked x y f g = grind arith

      early : (b : Block L) (q : ℕ) (v : Victim) (k : Back L) → Early_by b q v k → v ≡ Seen → is_write_back k ≡ true → is_asked b.entry b.revision q ≡ true
      early b q v k e seen w = grind arith

      by_slot : (v : Victim) (k : Back L) (i : Intervention) (t : Bool) → Fits_back v k i → (is_spent v k ≡ true → t ≡ false) → (has_intervention i ≡ true → is_victim_busy v ≡ false → is_busy_ack k ≡ false → t ≡ true) → (has_intervention i ≡ false → is_victim_busy v ≡ false → is_busy_ack k ≡ false → t ≡ true → v ≡ Seen) → (v ≡ Seen → is_write_back k ≡ true → t ≡ true) → number (has_intervention i) + number (is_victim_seen v) ≡ number t + number (is_busy_ack k) + number (is_victim_busy v)
      by_slot v k i t fits spent there none seen = grind arith

  pub balanced : (n : ℕ) (f : L) (b : Block L) (q : ℕ) → Local n f b q → Balanced n b q
  balanced n f b q h = record { replies = replies b q h.asks h.waits; acknowledgements = acknowledgements n b q h.asks h.counted; victims = victims b q h.backs; interventions = interventions b q h.backs h.spent h.intervened h.early }

  more : (n : ℕ) (f : L) (q r : ℕ) (b : Block L) → Invariant n f b → q < n → b.invalidation q ≡ InvalidateAck r → (r < n) × (grants (b.ask r) ≡ true) × (b.acks r < due (b.ask r))
  more n f q r b inv lt e =
      let h : Local n f b q = inv.each q lt in
      let lr : r < n = grind arith in
      let some : 0 < pending n b r = count_some n (λ k. is_for r (b.invalidation k)) q lt (grind (arith, nat_tests)) in
      let hr : Local n f b r = inv.each r lr in (lr, waits n f r b hr some, fewer n f r b hr some)
    where
      waits : (n : ℕ) (f : L) (r : ℕ) (b : Block L) → Local n f b r → 0 < pending n b r → grants (b.ask r) ≡ true
      waits n f r b h s = grind arith

      fewer : (n : ℕ) (f : L) (r : ℕ) (b : Block L) → Local n f b r → 0 < pending n b r → b.acks r < due (b.ask r)
      fewer n f r b h s = let e : pending n b r + b.acks r ≡ due (b.ask r) = acknowledgements n b r h.asks h.counted in omega arith

  pub finds_ready : (n : ℕ) (f : L) (b : Block L) (q : ℕ) → Invariant n f b → q < n → Finds_ready n b q
  finds_ready n f b q inv lt = let h : Local n f b q = inv.each q lt in record {
    reply = λ there idle. there (asks_idle h idle);
    response = λ there. given (b.want q) (b.ask q) (b.response q) (b.acks q) h.asks there;
    speculative = λ l a none. let x = h.fresh in grind arith;
    fill = λ busy. (λ sh. empty h busy sh, λ other. lone h busy other, slot h busy);
    upgrade = λ up e. own h.upgrades.not_held up e;
    upgraded = λ d a. let u = h.upgrades in grind arith;
    invalidate = λ r e. (not_writable n f q r b inv lt e, (sent h r e).0, (sent h r e).1);
    acknowledge = λ r e. more n f q r b inv lt e;
    intervene = λ i v w. not_shared n f q b h i v w;
    acknowledged = λ a. let k = h.backs in grind arith;
    busy_acknowledged = λ a. let k = h.backs in grind arith;
    write_back = λ w. holds h w;
    parts = h.asks;
    revision = inv.home.revised;
    poison = λ o e. free_poison n f b o q h e;
  }
    where
      asks_idle : Local n f b q → b.want q ≡ Idle → b.ask q ≡ NoAsk
      asks_idle h w = let a = h.asks in grind arith

      given : (w : Want) (a : Ask L) (r : Response L) (k : ℕ) → Fits_ask w a r k → r ≢ NoResponse → is_speculative a ≡ true
      given w a NoResponse k fits there = absurd (there refl)
      given w a r k fits there = grind arith

      empty : Local n f b q → b.want q ≢ Idle → is_shared (b.copy q) ≡ false → b.copy q ≡ NoCopy
      empty h busy sh = without (b.victim q) (b.copy q) (b.want q) h.rests busy sh
        where
          without : (v : Victim) (c : Copy L) (w : Want) → Fits_copy v c w → w ≢ Idle → is_shared c ≡ false → c ≡ NoCopy
          without v c Idle fits busy sh = absurd (busy refl)
          without v c w fits busy sh = grind arith

      lone : Local n f b q → b.want q ≢ Idle → b.want q ≢ Upgrading → b.copy q ≡ NoCopy
      lone h busy other = without (b.victim q) (b.copy q) (b.want q) h.rests busy other
        where
          without : (v : Victim) (c : Copy L) (w : Want) → Fits_copy v c w → w ≢ Idle → w ≢ Upgrading → c ≡ NoCopy
          without v c Idle fits busy other = absurd (busy refl)
          without v c Upgrading fits busy other = absurd (other refl)
          without v c w fits busy other = grind arith

      slot : Local n f b q → b.want q ≢ Idle → b.victim q ≡ Free
      slot h busy = free (b.victim q) (b.copy q) (b.want q) h.rests busy
        where
          free : (v : Victim) (c : Copy L) (w : Want) → Fits_copy v c w → w ≢ Idle → v ≡ Free
          free v c Idle fits busy = absurd (busy refl)
          free v c w fits busy = grind arith

      own : (is_upgrade (b.ask q) ≡ true → is_holder b.entry b.revision q ≡ false) → is_upgrade (b.ask q) ≡ true → b.entry ≢ Exclusive q
      own not_held up e = let none : is_holder b.entry b.revision q ≡ false = not_held up in grind (arith, nat_tests)

      sent : Local n f b q → (r : ℕ) → b.invalidation q ≡ Invalidate r → (r < n) × (r ≢ q)
      sent h r e = let s = h.sent in grind arith

      holds : Local n f b q → is_write_back (b.back q) ≡ true → is_holder b.entry b.revision q ≡ true
      holds h w = let o = h.owned in grind arith
