-- The line that is held is the cell's.
use Rattle.std.proofs.Common.{◌≡◌, ℕ, ◌<◌, true, false, arith, refl}
use Rattle.std.proofs.lemmas.Bool.Decides.{nat_tests}
use Rattle.og_block.specs.State.{Block, Copy, Want, Ask, Response, Back, ExclusiveResponse, Entry, Exclusive, BusyShared, BusyExclusive, BusyPoison, PoisonBy, Revision, NoRevision}
use Rattle.og_block.specs.Rows.{is_dirty}
use Rattle.og_block.specs.Invariant.{Invariant, Local, Inside, Memory, Revised, is_write_back, covers_memory, is_holder}
use Rattle.og_block.specs.Held.{Held, is_exclusive_response, has_line}

module _ {L : Type 0} where
  plain : (c : Copy L) (w : Want) (a : Ask L) (r : Response L) (k : Back L) → is_dirty c ≡ false → is_write_back k ≡ false → is_exclusive_response r ≡ false → covers_memory c w a r k ≡ false
  plain c w a r k x y z = grind arith

  pub held_line : (n : ℕ) (l : L) (b : Block L) → Invariant n l b → Held n l b
  held_line n l b inv = record {
    dirty = λ q x lq e. let h = (inv.each q lq).fresh in grind arith;
    back = λ q x lq e. let h = (inv.each q lq).fresh in grind arith;
    response = λ q x lq e. let h = inv.each q lq in given h x e;
    sharing = λ s x e. let m = inv.home.memory in let r = inv.home.revised in grind arith;
    poison = λ s x e. let m = inv.home.memory in let r = inv.home.revised in grind arith;
    home = λ none v. at_home none v b.entry refl inv.home.inside inv.home.memory inv.home.revised;
  }
    where
      given : {q : ℕ} → Local n l b q → (x : L) → b.response q ≡ ExclusiveResponse x → x ≡ l
      given h x e = let a = h.asks in let f = h.fresh in grind arith

      -- by the node that has, or will have, the only copy
      by_holder : ((q : ℕ) → q < n → (is_dirty (b.copy q) ≡ false) × (is_write_back (b.back q) ≡ false) × (is_exclusive_response (b.response q) ≡ false)) → (q : ℕ) → q < n → is_holder b.entry b.revision q ≡ true → b.line ≡ l
      by_holder none q lq h = let c = none q lq in (inv.each q lq).covered h (plain (b.copy q) (b.want q) (b.ask q) (b.response q) (b.back q) c.0 c.1 c.2)

      at_home : ((q : ℕ) → q < n → (is_dirty (b.copy q) ≡ false) × (is_write_back (b.back q) ≡ false) × (is_exclusive_response (b.response q) ≡ false)) → has_line b.revision ≡ false → (e : Entry) → b.entry ≡ e → Inside n b.entry → Memory l b.line b.entry b.revision → Revised b.entry b.revision → b.line ≡ l
      at_home none v (Exclusive o) e i m r = by_holder none o (grind arith) (grind (arith, nat_tests))
      at_home none v (PoisonBy o) e i m r = by_holder none o (grind arith) (grind (arith, nat_tests))
      at_home none v (BusyShared o p) e i m r = busy b.revision refl
        where
          busy : (w : Revision L) → b.revision ≡ w → b.line ≡ l
          busy NoRevision x = by_holder none o (grind arith) (grind (arith, nat_tests))
          busy w x = grind arith
      at_home none v (BusyPoison o p) e i m r = busy b.revision refl
        where
          busy : (w : Revision L) → b.revision ≡ w → b.line ≡ l
          busy NoRevision x = by_holder none o (grind arith) (grind (arith, nat_tests))
          busy w x = grind arith
      at_home none v (BusyExclusive o p false) e i m r = busy b.revision refl
        where
          busy : (w : Revision L) → b.revision ≡ w → b.line ≡ l
          busy NoRevision x = by_holder none o (grind arith) (grind (arith, nat_tests))
          busy w x = by_holder none p (grind arith) (grind (arith, nat_tests))
      at_home none v e x i m r = grind arith
