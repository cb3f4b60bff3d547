-- What a row sends meets an empty slot, or the slot from which the row takes.
use Rattle.std.proofs.Common.{◌≡◌, ℕ, ◌<◌, Bool, true, false, cond, arith}
use Rattle.std.proofs.lemmas.Bool.Decides.{nat_tests}
use Rattle.og_block.specs.State.{Block, Idle, NoAsk, PoisonWait, NoResponse, NoBack, WriteBack, Free, NoIntervention, InterveneShared, InterveneExclusive, IntervenePoison, NoInvalidation, Exclusive, BusyShared, BusyExclusive, BusyPoison, NoRevision}
use Rattle.og_block.specs.Rows.{Row, guard, actor_of, Send_read, Send_read_exclusive, Send_upgrade, Load_shared, Load_clean, Load_dirty, Store, Forget, Evict, Read_unowned, Read_shared, Read_by_owner, Read_owned, Read_busy, Read_poison, Read_exclusive_unowned, Read_exclusive_shared, Read_exclusive_by_owner, Read_exclusive_owned, Read_exclusive_busy, Read_exclusive_poison, Upgrade_shared, Upgrade_grouped, Upgrade_refused, Upgrade_poison, Write_back_owner, Write_back_busy_shared, Write_back_busy_exclusive, Write_back_requester, Write_back_busy_poison, Revision_sharing_write_back, Revision_sharing_transfer, Revision_dirty_transfer, Revision_returned, Revision_poison_back, Revision_poison_clean, Poison_read_unowned, Poison_read_shared, Poison_read_owned, Poison_read_busy, Copy_in, Fill_shared, Again_shared, Fill_clean, Fill_shared_answered, Fill_shared_speculative, Again_speculative, Fill_exclusive, Fill_exclusive_answered, Fill_exclusive_speculative, Fill_upgrade, Fill_upgrade_line, Again_refused, Again_upgrade_refused, Poisoned, Poison_collected, Invalidated, Acknowledged, Intervention_victim_busy, Intervention_victim_first, Intervention_shared_dirty, Intervention_shared_clean, Intervention_shared_none, Intervention_exclusive_dirty, Intervention_exclusive_clean, Intervention_poison_dirty, Intervention_poison_clean, Write_back_ack, Write_back_busy_ack_seen, Write_back_busy_ack_first, Send_poison_read}
use Rattle.og_block.specs.Views.{is_holder}
use Rattle.og_block.specs.Invariant.{Invariant, Local, Inside, Backs, Intervened, Asks}
use Rattle.og_block.specs.Message.{Message, Stands}
use Rattle.og_block.specs.Slots.{writes, takes, is_in}
use Rattle.og_block.proofs.Free.{free_intervention, free_invalidation, free_response_shared, free_response_exclusive, free_poison}

module _ {L : Type 0} where
  idle_ask : (n : ℕ) (f : L) (b : Block L) (p : ℕ) → Local n f b p → b.want p ≡ Idle → b.ask p ≡ NoAsk
  idle_ask n f b p h w = let a : Asks b p = h.asks in grind arith

  free_back : (n : ℕ) (f : L) (b : Block L) (p : ℕ) → Local n f b p → b.victim p ≡ Free → b.back p ≡ NoBack
  free_back n f b p h v = let k : Backs b p = h.backs in grind arith

  inside_x : (n : ℕ) (b : Block L) (o : ℕ) → Inside n b.entry → b.entry ≡ Exclusive o → o < n
  inside_x n b o i e = grind arith

  inside_s : (n : ℕ) (b : Block L) (o r : ℕ) → Inside n b.entry → b.entry ≡ BusyShared o r → r < n
  inside_s n b o r i e = grind arith

  inside_e : (n : ℕ) (b : Block L) (o r : ℕ) → Inside n b.entry → b.entry ≡ BusyExclusive o r false → r < n
  inside_e n b o r i e = grind arith

  inside_p : (n : ℕ) (b : Block L) (o r : ℕ) → Inside n b.entry → b.entry ≡ BusyPoison o r → r < n
  inside_p n b o r i e = grind arith

  unanswered_s : (n : ℕ) (f : L) (b : Block L) (q r : ℕ) (l : L) → Local n f b q → b.back q ≡ WriteBack l → b.entry ≡ BusyShared q r → b.revision ≡ NoRevision
  unanswered_s n f b q r l h k e = by (h.owned (grind arith))
    where
      by : is_holder b.entry b.revision q ≡ true → b.revision ≡ NoRevision
      by x = grind (arith, nat_tests)

  unanswered_e : (n : ℕ) (f : L) (b : Block L) (q r : ℕ) (l : L) → Local n f b q → Inside n b.entry → b.back q ≡ WriteBack l → b.entry ≡ BusyExclusive q r false → b.revision ≡ NoRevision
  unanswered_e n f b q r l h i k e = by (h.owned (grind arith))
    where
      by : is_holder b.entry b.revision q ≡ true → b.revision ≡ NoRevision
      by x = grind (arith, nat_tests)

  asked_s : (n : ℕ) (f : L) (b : Block L) (p r : ℕ) → Local n f b p → b.intervention p ≡ InterveneShared r → b.victim p ≡ Free → (b.entry ≡ BusyShared p r) × (b.revision ≡ NoRevision)
  asked_s n f b p r h i v = by h.backs h.intervened
    where
      by : Backs b p → Intervened b p → (b.entry ≡ BusyShared p r) × (b.revision ≡ NoRevision)
      by k x = grind (arith, nat_tests)

  asked_e : (n : ℕ) (f : L) (b : Block L) (p r : ℕ) → Local n f b p → b.intervention p ≡ InterveneExclusive r → b.victim p ≡ Free → (b.entry ≡ BusyExclusive p r false) × (b.revision ≡ NoRevision)
  asked_e n f b p r h i v = by h.backs h.intervened
    where
      by : Backs b p → Intervened b p → (b.entry ≡ BusyExclusive p r false) × (b.revision ≡ NoRevision)
      by k x = grind (arith, nat_tests)

  asked_p : (n : ℕ) (f : L) (b : Block L) (p r : ℕ) → Local n f b p → b.intervention p ≡ IntervenePoison r → b.victim p ≡ Free → (b.entry ≡ BusyPoison p r) × (b.revision ≡ NoRevision)
  asked_p n f b p r h i v = by h.backs h.intervened
    where
      by : Backs b p → Intervened b p → (b.entry ≡ BusyPoison p r) × (b.revision ≡ NoRevision)
      by k x = grind (arith, nat_tests)

  pub sends_free : (n : ℕ) (f : L) (b : Block L) (row : Row L) (msg : Message L) → guard row b → Invariant n f b → actor_of row < n → is_in (writes row) msg ≡ true → is_in (takes row) msg ≡ false → Stands n b msg → ⊥
  sends_free n f b (Send_read p) msg g inv lp t o_ stands = let x : b.ask p ≡ NoAsk = idle_ask n f b p (inv.each p lp) g.0 in grind (arith, nat_tests)
  sends_free n f b (Send_read_exclusive p) msg g inv lp t o_ stands = let x : b.ask p ≡ NoAsk = idle_ask n f b p (inv.each p lp) g.0 in grind (arith, nat_tests)
  sends_free n f b (Send_upgrade p l) msg g inv lp t o_ stands = let x : b.ask p ≡ NoAsk = idle_ask n f b p (inv.each p lp) g.0 in grind (arith, nat_tests)
  sends_free n f b (Load_shared p l) msg g _ lp t o_ stands = grind (arith, nat_tests)
  sends_free n f b (Load_clean p l) msg g _ lp t o_ stands = grind (arith, nat_tests)
  sends_free n f b (Load_dirty p l) msg g _ lp t o_ stands = grind (arith, nat_tests)
  sends_free n f b (Store p v l) msg g _ lp t o_ stands = grind (arith, nat_tests)
  sends_free n f b (Forget p) msg g _ lp t o_ stands = grind (arith, nat_tests)
  sends_free n f b (Evict p l) msg g inv lp t o_ stands = let x : b.back p ≡ NoBack = free_back n f b p (inv.each p lp) g.2 in grind (arith, nat_tests)
  sends_free n f b (Read_unowned p) msg g _ lp t o_ stands = grind (arith, nat_tests)
  sends_free n f b (Read_shared p s) msg g _ lp t o_ stands = grind (arith, nat_tests)
  sends_free n f b (Read_by_owner p) msg g _ lp t o_ stands = grind (arith, nat_tests)
  sends_free n f b (Read_owned p o) msg g inv lp t o_ stands = let lo : o < n = inside_x n b o inv.home.inside g.1 in let x : b.intervention o ≡ NoIntervention = free_intervention n f b o (inv.each o lo) g.1 in grind (arith, nat_tests)
  sends_free n f b (Read_busy p) msg g _ lp t o_ stands = grind (arith, nat_tests)
  sends_free n f b (Read_poison p o) msg g _ lp t o_ stands = grind (arith, nat_tests)
  sends_free n f b (Read_exclusive_unowned p) msg g _ lp t o_ stands = grind (arith, nat_tests)
  sends_free n f b (Read_exclusive_shared p s) msg g inv lp t o_ stands = let x : (q : ℕ) → q < n → b.invalidation q ≡ NoInvalidation = λ q lq. free_invalidation n f b q s (inv.each q lq) g.1 in grind (arith, nat_tests)
  sends_free n f b (Read_exclusive_by_owner p) msg g _ lp t o_ stands = grind (arith, nat_tests)
  sends_free n f b (Read_exclusive_owned p o) msg g inv lp t o_ stands = let lo : o < n = inside_x n b o inv.home.inside g.1 in let x : b.intervention o ≡ NoIntervention = free_intervention n f b o (inv.each o lo) g.1 in grind (arith, nat_tests)
  sends_free n f b (Read_exclusive_busy p) msg g _ lp t o_ stands = grind (arith, nat_tests)
  sends_free n f b (Read_exclusive_poison p o) msg g _ lp t o_ stands = grind (arith, nat_tests)
  sends_free n f b (Upgrade_shared p s) msg g inv lp t o_ stands = let x : (q : ℕ) → q < n → b.invalidation q ≡ NoInvalidation = λ q lq. free_invalidation n f b q s (inv.each q lq) g.1 in grind (arith, nat_tests)
  sends_free n f b (Upgrade_grouped p s) msg g inv lp t o_ stands = let x : (q : ℕ) → q < n → b.invalidation q ≡ NoInvalidation = λ q lq. free_invalidation n f b q s (inv.each q lq) g.1 in grind (arith, nat_tests)
  sends_free n f b (Upgrade_refused p) msg g _ lp t o_ stands = grind (arith, nat_tests)
  sends_free n f b (Upgrade_poison p o) msg g _ lp t o_ stands = grind (arith, nat_tests)
  sends_free n f b (Write_back_owner p l) msg g _ lp t o_ stands = grind (arith, nat_tests)
  sends_free n f b (Write_back_busy_shared p r l) msg g inv lp t o_ stands = let lr : r < n = inside_s n b p r inv.home.inside g.1 in let v : b.revision ≡ NoRevision = unanswered_s n f b p r l (inv.each p lp) g.0 g.1 in let x : b.response r ≡ NoResponse = free_response_shared n f b p r (inv.each r lr) g.1 v in grind (arith, nat_tests)
  sends_free n f b (Write_back_busy_exclusive p r l) msg g inv lp t o_ stands = let lr : r < n = inside_e n b p r inv.home.inside g.1 in let v : b.revision ≡ NoRevision = unanswered_e n f b p r l (inv.each p lp) inv.home.inside g.0 g.1 in let x : b.response r ≡ NoResponse = free_response_exclusive n f b p r (inv.each r lr) g.1 v in grind (arith, nat_tests)
  sends_free n f b (Write_back_requester p o l) msg g _ lp t o_ stands = grind (arith, nat_tests)
  sends_free n f b (Write_back_busy_poison p r l) msg g inv lp t o_ stands = let lr : r < n = inside_p n b p r inv.home.inside g.1 in let x : b.ask r ≡ PoisonWait = free_poison n f b p r (inv.each r lr) g.1 in grind (arith, nat_tests)
  sends_free n f b (Revision_sharing_write_back o r l) msg g _ lp t o_ stands = grind (arith, nat_tests)
  sends_free n f b (Revision_sharing_transfer o r) msg g _ lp t o_ stands = grind (arith, nat_tests)
  sends_free n f b (Revision_dirty_transfer o r) msg g _ lp t o_ stands = grind (arith, nat_tests)
  sends_free n f b (Revision_returned o r) msg g _ lp t o_ stands = grind (arith, nat_tests)
  sends_free n f b (Revision_poison_back o r l) msg g inv lp t o_ stands = let lr : r < n = inside_p n b o r inv.home.inside g.1 in let x : b.ask r ≡ PoisonWait = free_poison n f b o r (inv.each r lr) g.1 in grind (arith, nat_tests)
  sends_free n f b (Revision_poison_clean o r) msg g inv lp t o_ stands = let lr : r < n = inside_p n b o r inv.home.inside g.1 in let x : b.ask r ≡ PoisonWait = free_poison n f b o r (inv.each r lr) g.1 in grind (arith, nat_tests)
  sends_free n f b (Poison_read_unowned p) msg g _ lp t o_ stands = grind (arith, nat_tests)
  sends_free n f b (Poison_read_shared p s) msg g inv lp t o_ stands = let x : (q : ℕ) → q < n → b.invalidation q ≡ NoInvalidation = λ q lq. free_invalidation n f b q s (inv.each q lq) g.1 in grind (arith, nat_tests)
  sends_free n f b (Poison_read_owned p o) msg g inv lp t o_ stands = let lo : o < n = inside_x n b o inv.home.inside g.1 in let x : b.intervention o ≡ NoIntervention = free_intervention n f b o (inv.each o lo) g.1 in grind (arith, nat_tests)
  sends_free n f b (Poison_read_busy p) msg g _ lp t o_ stands = grind (arith, nat_tests)
  sends_free n f b (Copy_in p v) msg g _ lp t o_ stands = grind (arith, nat_tests)
  sends_free n f b (Fill_shared p l) msg g _ lp t o_ stands = grind (arith, nat_tests)
  sends_free n f b (Again_shared p l) msg g _ lp t o_ stands = grind (arith, nat_tests)
  sends_free n f b (Fill_clean p l m) msg g _ lp t o_ stands = grind (arith, nat_tests)
  sends_free n f b (Fill_shared_answered p l m) msg g _ lp t o_ stands = grind (arith, nat_tests)
  sends_free n f b (Fill_shared_speculative p m) msg g _ lp t o_ stands = grind (arith, nat_tests)
  sends_free n f b (Again_speculative p m) msg g _ lp t o_ stands = grind (arith, nat_tests)
  sends_free n f b (Fill_exclusive p v l d) msg g _ lp t o_ stands = grind (arith, nat_tests)
  sends_free n f b (Fill_exclusive_answered p v m l) msg g _ lp t o_ stands = grind (arith, nat_tests)
  sends_free n f b (Fill_exclusive_speculative p v m) msg g _ lp t o_ stands = grind (arith, nat_tests)
  sends_free n f b (Fill_upgrade p v l d) msg g _ lp t o_ stands = grind (arith, nat_tests)
  sends_free n f b (Fill_upgrade_line p v l d) msg g _ lp t o_ stands = grind (arith, nat_tests)
  sends_free n f b (Again_refused p) msg g _ lp t o_ stands = grind (arith, nat_tests)
  sends_free n f b (Again_upgrade_refused p) msg g _ lp t o_ stands = grind (arith, nat_tests)
  sends_free n f b (Poisoned p) msg g _ lp t o_ stands = grind (arith, nat_tests)
  sends_free n f b (Poison_collected p l d) msg g _ lp t o_ stands = grind (arith, nat_tests)
  sends_free n f b (Invalidated p r) msg g _ lp t o_ stands = grind (arith, nat_tests)
  sends_free n f b (Acknowledged p r) msg g _ lp t o_ stands = grind (arith, nat_tests)
  sends_free n f b (Intervention_victim_busy p) msg g _ lp t o_ stands = grind (arith, nat_tests)
  sends_free n f b (Intervention_victim_first p) msg g _ lp t o_ stands = grind (arith, nat_tests)
  sends_free n f b (Intervention_shared_dirty p r l) msg g inv lp t o_ stands = let a : (b.entry ≡ BusyShared p r) × (b.revision ≡ NoRevision) = asked_s n f b p r (inv.each p lp) g.0 g.1 in let lr : r < n = inside_s n b p r inv.home.inside a.0 in let x : b.response r ≡ NoResponse = free_response_shared n f b p r (inv.each r lr) a.0 a.1 in grind (arith, nat_tests)
  sends_free n f b (Intervention_shared_clean p r l) msg g inv lp t o_ stands = let a : (b.entry ≡ BusyShared p r) × (b.revision ≡ NoRevision) = asked_s n f b p r (inv.each p lp) g.0 g.1 in let lr : r < n = inside_s n b p r inv.home.inside a.0 in let x : b.response r ≡ NoResponse = free_response_shared n f b p r (inv.each r lr) a.0 a.1 in grind (arith, nat_tests)
  sends_free n f b (Intervention_shared_none p r) msg g inv lp t o_ stands = let a : (b.entry ≡ BusyShared p r) × (b.revision ≡ NoRevision) = asked_s n f b p r (inv.each p lp) g.0 g.1 in let lr : r < n = inside_s n b p r inv.home.inside a.0 in let x : b.response r ≡ NoResponse = free_response_shared n f b p r (inv.each r lr) a.0 a.1 in grind (arith, nat_tests)
  sends_free n f b (Intervention_exclusive_dirty p r l) msg g inv lp t o_ stands = let a : (b.entry ≡ BusyExclusive p r false) × (b.revision ≡ NoRevision) = asked_e n f b p r (inv.each p lp) g.0 g.1 in let lr : r < n = inside_e n b p r inv.home.inside a.0 in let x : b.response r ≡ NoResponse = free_response_exclusive n f b p r (inv.each r lr) a.0 a.1 in grind (arith, nat_tests)
  sends_free n f b (Intervention_exclusive_clean p r) msg g inv lp t o_ stands = let a : (b.entry ≡ BusyExclusive p r false) × (b.revision ≡ NoRevision) = asked_e n f b p r (inv.each p lp) g.0 g.1 in let lr : r < n = inside_e n b p r inv.home.inside a.0 in let x : b.response r ≡ NoResponse = free_response_exclusive n f b p r (inv.each r lr) a.0 a.1 in grind (arith, nat_tests)
  sends_free n f b (Intervention_poison_dirty p r l) msg g inv lp t o_ stands = let a : (b.entry ≡ BusyPoison p r) × (b.revision ≡ NoRevision) = asked_p n f b p r (inv.each p lp) g.0 g.1 in grind (arith, nat_tests)
  sends_free n f b (Intervention_poison_clean p r) msg g inv lp t o_ stands = let a : (b.entry ≡ BusyPoison p r) × (b.revision ≡ NoRevision) = asked_p n f b p r (inv.each p lp) g.0 g.1 in grind (arith, nat_tests)
  sends_free n f b (Write_back_ack p) msg g _ lp t o_ stands = grind (arith, nat_tests)
  sends_free n f b (Write_back_busy_ack_seen p) msg g _ lp t o_ stands = grind (arith, nat_tests)
  sends_free n f b (Write_back_busy_ack_first p) msg g _ lp t o_ stands = grind (arith, nat_tests)
  sends_free n f b (Send_poison_read p) msg g inv lp t o_ stands = let x : b.ask p ≡ NoAsk = idle_ask n f b p (inv.each p lp) g.0 in grind (arith, nat_tests)
