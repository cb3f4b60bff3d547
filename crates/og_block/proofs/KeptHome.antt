-- What the invariant says of the home alone is kept by each row.
use Rattle.std.proofs.Common.{ℕ, ◌<◌, Bool, arith}
use Rattle.std.proofs.lemmas.Bool.Decides.{nat_tests}
use Rattle.og_block.specs.State.{Block}
use Rattle.og_block.specs.Access.{flat_after}
use Rattle.og_block.specs.Rows.{Row, guard, apply, actor_of, Send_read, Send_read_exclusive, Send_upgrade, Load_shared, Load_clean, Load_dirty, Store, Forget, Evict, Read_unowned, Read_shared, Read_by_owner, Read_owned, Read_busy, Read_poison, Read_exclusive_unowned, Read_exclusive_shared, Read_exclusive_by_owner, Read_exclusive_owned, Read_exclusive_busy, Read_exclusive_poison, Upgrade_shared, Upgrade_grouped, Upgrade_refused, Upgrade_poison, Write_back_owner, Write_back_busy_shared, Write_back_busy_exclusive, Write_back_requester, Write_back_busy_poison, Revision_sharing_write_back, Revision_sharing_transfer, Revision_dirty_transfer, Revision_returned, Revision_poison_back, Revision_poison_clean, Poison_read_unowned, Poison_read_shared, Poison_read_owned, Poison_read_busy, Copy_in, Fill_shared, Again_shared, Fill_clean, Fill_shared_answered, Fill_shared_speculative, Again_speculative, Fill_exclusive, Fill_exclusive_answered, Fill_exclusive_speculative, Fill_upgrade, Fill_upgrade_line, Again_refused, Again_upgrade_refused, Poisoned, Poison_collected, Invalidated, Acknowledged, Intervention_victim_busy, Intervention_victim_first, Intervention_shared_dirty, Intervention_shared_clean, Intervention_shared_none, Intervention_exclusive_dirty, Intervention_exclusive_clean, Intervention_poison_dirty, Intervention_poison_clean, Write_back_ack, Write_back_busy_ack_seen, Write_back_busy_ack_first, Send_poison_read}
use Rattle.og_block.specs.Invariant.{Local, Home, Asks, Backs, Inside, Intervened, Memory, Owned, Rests, Revised, Waits}

module _ {L : Type 0} where
  home_Store : (n : ℕ) (f : L) (p : ℕ) (v : L) (l : L) (b : Block L) → guard (Store p v l) b → Revised b.entry b.revision → Inside n b.entry → Memory f b.line b.entry b.revision → p < n → Asks b p → Rests b p → Backs b p → Owned b p → Waits b p → Intervened b p → Home n (flat_after (Store p v l) f) (apply n (Store p v l) b)
  home_Store n f p v l b g h0 h1 h2 h3 h4 h5 h6 h7 h8 h9 = grind (arith, nat_tests)

  home_Read_unowned : (n : ℕ) (f : L) (p : ℕ) (b : Block L) → guard (Read_unowned p) b → Revised b.entry b.revision → Inside n b.entry → Memory f b.line b.entry b.revision → p < n → Home n (flat_after (Read_unowned p) f) (apply n (Read_unowned p) b)
  home_Read_unowned n f p b g h0 h1 h2 h3 = grind (arith, nat_tests)

  home_Read_shared : (n : ℕ) (f : L) (p : ℕ) (s : ℕ → Bool) (b : Block L) → guard (Read_shared p s) b → Revised b.entry b.revision → Inside n b.entry → Memory f b.line b.entry b.revision → p < n → Home n (flat_after (Read_shared p s) f) (apply n (Read_shared p s) b)
  home_Read_shared n f p s b g h0 h1 h2 h3 = grind (arith, nat_tests)

  home_Read_owned : (n : ℕ) (f : L) (p : ℕ) (o : ℕ) (b : Block L) → guard (Read_owned p o) b → Revised b.entry b.revision → Inside n b.entry → Memory f b.line b.entry b.revision → p < n → Home n (flat_after (Read_owned p o) f) (apply n (Read_owned p o) b)
  home_Read_owned n f p o b g h0 h1 h2 h3 = grind (arith, nat_tests)

  home_Read_exclusive_unowned : (n : ℕ) (f : L) (p : ℕ) (b : Block L) → guard (Read_exclusive_unowned p) b → Revised b.entry b.revision → Inside n b.entry → Memory f b.line b.entry b.revision → p < n → Home n (flat_after (Read_exclusive_unowned p) f) (apply n (Read_exclusive_unowned p) b)
  home_Read_exclusive_unowned n f p b g h0 h1 h2 h3 = grind (arith, nat_tests)

  home_Read_exclusive_shared : (n : ℕ) (f : L) (p : ℕ) (s : ℕ → Bool) (b : Block L) → guard (Read_exclusive_shared p s) b → Revised b.entry b.revision → Inside n b.entry → Memory f b.line b.entry b.revision → p < n → Home n (flat_after (Read_exclusive_shared p s) f) (apply n (Read_exclusive_shared p s) b)
  home_Read_exclusive_shared n f p s b g h0 h1 h2 h3 = grind (arith, nat_tests)

  home_Read_exclusive_owned : (n : ℕ) (f : L) (p : ℕ) (o : ℕ) (b : Block L) → guard (Read_exclusive_owned p o) b → Revised b.entry b.revision → Inside n b.entry → Memory f b.line b.entry b.revision → p < n → Home n (flat_after (Read_exclusive_owned p o) f) (apply n (Read_exclusive_owned p o) b)
  home_Read_exclusive_owned n f p o b g h0 h1 h2 h3 = grind (arith, nat_tests)

  home_Upgrade_shared : (n : ℕ) (f : L) (p : ℕ) (s : ℕ → Bool) (b : Block L) → guard (Upgrade_shared p s) b → Revised b.entry b.revision → Inside n b.entry → Memory f b.line b.entry b.revision → p < n → Home n (flat_after (Upgrade_shared p s) f) (apply n (Upgrade_shared p s) b)
  home_Upgrade_shared n f p s b g h0 h1 h2 h3 = grind (arith, nat_tests)

  home_Upgrade_grouped : (n : ℕ) (f : L) (p : ℕ) (s : ℕ → Bool) (b : Block L) → guard (Upgrade_grouped p s) b → Revised b.entry b.revision → Inside n b.entry → Memory f b.line b.entry b.revision → p < n → Home n (flat_after (Upgrade_grouped p s) f) (apply n (Upgrade_grouped p s) b)
  home_Upgrade_grouped n f p s b g h0 h1 h2 h3 = grind (arith, nat_tests)

  home_Write_back_owner : (n : ℕ) (f : L) (p : ℕ) (l : L) (b : Block L) → guard (Write_back_owner p l) b → Home n f b → Local n f b p → p < n → Home n (flat_after (Write_back_owner p l) f) (apply n (Write_back_owner p l) b)
  home_Write_back_owner n f p l b g h0 h1 h2 = grind (arith, nat_tests)

  home_Write_back_busy_shared : (n : ℕ) (f : L) (p : ℕ) (r : ℕ) (l : L) (b : Block L) → guard (Write_back_busy_shared p r l) b → Home n f b → Local n f b p → p < n → Home n (flat_after (Write_back_busy_shared p r l) f) (apply n (Write_back_busy_shared p r l) b)
  home_Write_back_busy_shared n f p r l b g h0 h1 h2 = grind (arith, nat_tests)

  home_Write_back_busy_exclusive : (n : ℕ) (f : L) (p : ℕ) (r : ℕ) (l : L) (b : Block L) → guard (Write_back_busy_exclusive p r l) b → Revised b.entry b.revision → Inside n b.entry → Memory f b.line b.entry b.revision → p < n → Asks b p → Rests b p → Backs b p → Owned b p → Waits b p → Intervened b p → Home n (flat_after (Write_back_busy_exclusive p r l) f) (apply n (Write_back_busy_exclusive p r l) b)
  home_Write_back_busy_exclusive n f p r l b g h0 h1 h2 h3 h4 h5 h6 h7 h8 h9 = grind (arith, nat_tests)

  home_Write_back_requester : (n : ℕ) (f : L) (p : ℕ) (o : ℕ) (l : L) (b : Block L) → guard (Write_back_requester p o l) b → Home n f b → Local n f b p → p < n → Home n (flat_after (Write_back_requester p o l) f) (apply n (Write_back_requester p o l) b)
  home_Write_back_requester n f p o l b g h0 h1 h2 = grind (arith, nat_tests)

  home_Write_back_busy_poison : (n : ℕ) (f : L) (p : ℕ) (r : ℕ) (l : L) (b : Block L) → guard (Write_back_busy_poison p r l) b → Revised b.entry b.revision → Inside n b.entry → Memory f b.line b.entry b.revision → p < n → Asks b p → Rests b p → Backs b p → Owned b p → Waits b p → Intervened b p → Home n (flat_after (Write_back_busy_poison p r l) f) (apply n (Write_back_busy_poison p r l) b)
  home_Write_back_busy_poison n f p r l b g h0 h1 h2 h3 h4 h5 h6 h7 h8 h9 = grind (arith, nat_tests)

  home_Revision_sharing_write_back : (n : ℕ) (f : L) (o : ℕ) (r : ℕ) (l : L) (b : Block L) → guard (Revision_sharing_write_back o r l) b → Revised b.entry b.revision → Inside n b.entry → Memory f b.line b.entry b.revision → o < n → Home n (flat_after (Revision_sharing_write_back o r l) f) (apply n (Revision_sharing_write_back o r l) b)
  home_Revision_sharing_write_back n f o r l b g h0 h1 h2 h3 = grind (arith, nat_tests)

  home_Revision_sharing_transfer : (n : ℕ) (f : L) (o : ℕ) (r : ℕ) (b : Block L) → guard (Revision_sharing_transfer o r) b → Revised b.entry b.revision → Inside n b.entry → Memory f b.line b.entry b.revision → o < n → Home n (flat_after (Revision_sharing_transfer o r) f) (apply n (Revision_sharing_transfer o r) b)
  home_Revision_sharing_transfer n f o r b g h0 h1 h2 h3 = grind (arith, nat_tests)

  home_Revision_dirty_transfer : (n : ℕ) (f : L) (o : ℕ) (r : ℕ) (b : Block L) → guard (Revision_dirty_transfer o r) b → Revised b.entry b.revision → Inside n b.entry → Memory f b.line b.entry b.revision → o < n → Home n (flat_after (Revision_dirty_transfer o r) f) (apply n (Revision_dirty_transfer o r) b)
  home_Revision_dirty_transfer n f o r b g h0 h1 h2 h3 = grind (arith, nat_tests)

  home_Revision_returned : (n : ℕ) (f : L) (o : ℕ) (r : ℕ) (b : Block L) → guard (Revision_returned o r) b → Revised b.entry b.revision → Inside n b.entry → Memory f b.line b.entry b.revision → o < n → Home n (flat_after (Revision_returned o r) f) (apply n (Revision_returned o r) b)
  home_Revision_returned n f o r b g h0 h1 h2 h3 = grind (arith, nat_tests)

  home_Revision_poison_back : (n : ℕ) (f : L) (o : ℕ) (r : ℕ) (l : L) (b : Block L) → guard (Revision_poison_back o r l) b → Revised b.entry b.revision → Inside n b.entry → Memory f b.line b.entry b.revision → o < n → Home n (flat_after (Revision_poison_back o r l) f) (apply n (Revision_poison_back o r l) b)
  home_Revision_poison_back n f o r l b g h0 h1 h2 h3 = grind (arith, nat_tests)

  home_Revision_poison_clean : (n : ℕ) (f : L) (o : ℕ) (r : ℕ) (b : Block L) → guard (Revision_poison_clean o r) b → Revised b.entry b.revision → Inside n b.entry → Memory f b.line b.entry b.revision → o < n → Home n (flat_after (Revision_poison_clean o r) f) (apply n (Revision_poison_clean o r) b)
  home_Revision_poison_clean n f o r b g h0 h1 h2 h3 = grind (arith, nat_tests)

  home_Poison_read_unowned : (n : ℕ) (f : L) (p : ℕ) (b : Block L) → guard (Poison_read_unowned p) b → Revised b.entry b.revision → Inside n b.entry → Memory f b.line b.entry b.revision → p < n → Home n (flat_after (Poison_read_unowned p) f) (apply n (Poison_read_unowned p) b)
  home_Poison_read_unowned n f p b g h0 h1 h2 h3 = grind (arith, nat_tests)

  home_Poison_read_shared : (n : ℕ) (f : L) (p : ℕ) (s : ℕ → Bool) (b : Block L) → guard (Poison_read_shared p s) b → Revised b.entry b.revision → Inside n b.entry → Memory f b.line b.entry b.revision → p < n → Home n (flat_after (Poison_read_shared p s) f) (apply n (Poison_read_shared p s) b)
  home_Poison_read_shared n f p s b g h0 h1 h2 h3 = grind (arith, nat_tests)

  home_Poison_read_owned : (n : ℕ) (f : L) (p : ℕ) (o : ℕ) (b : Block L) → guard (Poison_read_owned p o) b → Revised b.entry b.revision → Inside n b.entry → Memory f b.line b.entry b.revision → p < n → Home n (flat_after (Poison_read_owned p o) f) (apply n (Poison_read_owned p o) b)
  home_Poison_read_owned n f p o b g h0 h1 h2 h3 = grind (arith, nat_tests)

  home_Copy_in : (n : ℕ) (f : L) (p : ℕ) (v : L) (b : Block L) → guard (Copy_in p v) b → Revised b.entry b.revision → Inside n b.entry → Memory f b.line b.entry b.revision → p < n → Home n (flat_after (Copy_in p v) f) (apply n (Copy_in p v) b)
  home_Copy_in n f p v b g h0 h1 h2 h3 = grind (arith, nat_tests)

  home_Fill_exclusive : (n : ℕ) (f : L) (p : ℕ) (v : L) (l : L) (d : ℕ) (b : Block L) → guard (Fill_exclusive p v l d) b → Revised b.entry b.revision → Inside n b.entry → Memory f b.line b.entry b.revision → p < n → Asks b p → Rests b p → Backs b p → Owned b p → Waits b p → Intervened b p → Home n (flat_after (Fill_exclusive p v l d) f) (apply n (Fill_exclusive p v l d) b)
  home_Fill_exclusive n f p v l d b g h0 h1 h2 h3 h4 h5 h6 h7 h8 h9 = grind (arith, nat_tests)

  home_Fill_exclusive_answered : (n : ℕ) (f : L) (p : ℕ) (v : L) (m : L) (l : L) (b : Block L) → guard (Fill_exclusive_answered p v m l) b → Revised b.entry b.revision → Inside n b.entry → Memory f b.line b.entry b.revision → p < n → Asks b p → Rests b p → Backs b p → Owned b p → Waits b p → Intervened b p → Home n (flat_after (Fill_exclusive_answered p v m l) f) (apply n (Fill_exclusive_answered p v m l) b)
  home_Fill_exclusive_answered n f p v m l b g h0 h1 h2 h3 h4 h5 h6 h7 h8 h9 = grind (arith, nat_tests)

  home_Fill_exclusive_speculative : (n : ℕ) (f : L) (p : ℕ) (v : L) (m : L) (b : Block L) → guard (Fill_exclusive_speculative p v m) b → Revised b.entry b.revision → Inside n b.entry → Memory f b.line b.entry b.revision → p < n → Asks b p → Rests b p → Backs b p → Owned b p → Waits b p → Intervened b p → Home n (flat_after (Fill_exclusive_speculative p v m) f) (apply n (Fill_exclusive_speculative p v m) b)
  home_Fill_exclusive_speculative n f p v m b g h0 h1 h2 h3 h4 h5 h6 h7 h8 h9 = grind (arith, nat_tests)

  home_Fill_upgrade : (n : ℕ) (f : L) (p : ℕ) (v : L) (l : L) (d : ℕ) (b : Block L) → guard (Fill_upgrade p v l d) b → Revised b.entry b.revision → Inside n b.entry → Memory f b.line b.entry b.revision → p < n → Asks b p → Rests b p → Backs b p → Owned b p → Waits b p → Intervened b p → Home n (flat_after (Fill_upgrade p v l d) f) (apply n (Fill_upgrade p v l d) b)
  home_Fill_upgrade n f p v l d b g h0 h1 h2 h3 h4 h5 h6 h7 h8 h9 = grind (arith, nat_tests)

  home_Fill_upgrade_line : (n : ℕ) (f : L) (p : ℕ) (v : L) (l : L) (d : ℕ) (b : Block L) → guard (Fill_upgrade_line p v l d) b → Revised b.entry b.revision → Inside n b.entry → Memory f b.line b.entry b.revision → p < n → Asks b p → Rests b p → Backs b p → Owned b p → Waits b p → Intervened b p → Home n (flat_after (Fill_upgrade_line p v l d) f) (apply n (Fill_upgrade_line p v l d) b)
  home_Fill_upgrade_line n f p v l d b g h0 h1 h2 h3 h4 h5 h6 h7 h8 h9 = grind (arith, nat_tests)

  home_Intervention_shared_dirty : (n : ℕ) (f : L) (p : ℕ) (r : ℕ) (l : L) (b : Block L) → guard (Intervention_shared_dirty p r l) b → Home n f b → Local n f b p → p < n → Home n (flat_after (Intervention_shared_dirty p r l) f) (apply n (Intervention_shared_dirty p r l) b)
  home_Intervention_shared_dirty n f p r l b g h0 h1 h2 = grind (arith, nat_tests)

  home_Intervention_shared_clean : (n : ℕ) (f : L) (p : ℕ) (r : ℕ) (l : L) (b : Block L) → guard (Intervention_shared_clean p r l) b → Home n f b → Local n f b p → p < n → Home n (flat_after (Intervention_shared_clean p r l) f) (apply n (Intervention_shared_clean p r l) b)
  home_Intervention_shared_clean n f p r l b g h0 h1 h2 = grind (arith, nat_tests)

  home_Intervention_shared_none : (n : ℕ) (f : L) (p : ℕ) (r : ℕ) (b : Block L) → guard (Intervention_shared_none p r) b → Home n f b → Local n f b p → p < n → Home n (flat_after (Intervention_shared_none p r) f) (apply n (Intervention_shared_none p r) b)
  home_Intervention_shared_none n f p r b g h0 h1 h2 = grind (arith, nat_tests)

  home_Intervention_exclusive_dirty : (n : ℕ) (f : L) (p : ℕ) (r : ℕ) (l : L) (b : Block L) → guard (Intervention_exclusive_dirty p r l) b → Revised b.entry b.revision → Inside n b.entry → Memory f b.line b.entry b.revision → p < n → Asks b p → Rests b p → Backs b p → Owned b p → Waits b p → Intervened b p → Home n (flat_after (Intervention_exclusive_dirty p r l) f) (apply n (Intervention_exclusive_dirty p r l) b)
  home_Intervention_exclusive_dirty n f p r l b g h0 h1 h2 h3 h4 h5 h6 h7 h8 h9 = grind (arith, nat_tests)

  home_Intervention_exclusive_clean : (n : ℕ) (f : L) (p : ℕ) (r : ℕ) (b : Block L) → guard (Intervention_exclusive_clean p r) b → Revised b.entry b.revision → Inside n b.entry → Memory f b.line b.entry b.revision → p < n → Asks b p → Rests b p → Backs b p → Owned b p → Waits b p → Intervened b p → Home n (flat_after (Intervention_exclusive_clean p r) f) (apply n (Intervention_exclusive_clean p r) b)
  home_Intervention_exclusive_clean n f p r b g h0 h1 h2 h3 h4 h5 h6 h7 h8 h9 = grind (arith, nat_tests)

  home_Intervention_poison_dirty : (n : ℕ) (f : L) (p : ℕ) (r : ℕ) (l : L) (b : Block L) → guard (Intervention_poison_dirty p r l) b → Home n f b → Local n f b p → p < n → Home n (flat_after (Intervention_poison_dirty p r l) f) (apply n (Intervention_poison_dirty p r l) b)
  home_Intervention_poison_dirty n f p r l b g h0 h1 h2 = grind (arith, nat_tests)

  home_Intervention_poison_clean : (n : ℕ) (f : L) (p : ℕ) (r : ℕ) (b : Block L) → guard (Intervention_poison_clean p r) b → Home n f b → Local n f b p → p < n → Home n (flat_after (Intervention_poison_clean p r) f) (apply n (Intervention_poison_clean p r) b)
  home_Intervention_poison_clean n f p r b g h0 h1 h2 = grind (arith, nat_tests)

  pub home_kept : (n : ℕ) (f : L) (b : Block L) (r : Row L) → guard r b → actor_of r < n → Home n f b → Local n f b (actor_of r) → Home n (flat_after r f) (apply n r b)
  home_kept n f b (Send_read p) g lp home hp = record { revised = home.revised; inside = home.inside; memory = home.memory }
  home_kept n f b (Send_read_exclusive p) g lp home hp = record { revised = home.revised; inside = home.inside; memory = home.memory }
  home_kept n f b (Send_upgrade p l) g lp home hp = record { revised = home.revised; inside = home.inside; memory = home.memory }
  home_kept n f b (Load_shared p l) g lp home hp = record { revised = home.revised; inside = home.inside; memory = home.memory }
  home_kept n f b (Load_clean p l) g lp home hp = record { revised = home.revised; inside = home.inside; memory = home.memory }
  home_kept n f b (Load_dirty p l) g lp home hp = record { revised = home.revised; inside = home.inside; memory = home.memory }
  home_kept n f b (Store p v l) g lp home hp = home_Store n f p v l b g home.revised home.inside home.memory lp hp.asks hp.rests hp.backs hp.owned hp.waits hp.intervened
  home_kept n f b (Forget p) g lp home hp = record { revised = home.revised; inside = home.inside; memory = home.memory }
  home_kept n f b (Evict p l) g lp home hp = record { revised = home.revised; inside = home.inside; memory = home.memory }
  home_kept n f b (Read_unowned p) g lp home hp = home_Read_unowned n f p b g home.revised home.inside home.memory lp
  home_kept n f b (Read_shared p s) g lp home hp = home_Read_shared n f p s b g home.revised home.inside home.memory lp
  home_kept n f b (Read_by_owner p) g lp home hp = record { revised = home.revised; inside = home.inside; memory = home.memory }
  home_kept n f b (Read_owned p o) g lp home hp = home_Read_owned n f p o b g home.revised home.inside home.memory lp
  home_kept n f b (Read_busy p) g lp home hp = record { revised = home.revised; inside = home.inside; memory = home.memory }
  home_kept n f b (Read_poison p o) g lp home hp = record { revised = home.revised; inside = home.inside; memory = home.memory }
  home_kept n f b (Read_exclusive_unowned p) g lp home hp = home_Read_exclusive_unowned n f p b g home.revised home.inside home.memory lp
  home_kept n f b (Read_exclusive_shared p s) g lp home hp = home_Read_exclusive_shared n f p s b g home.revised home.inside home.memory lp
  home_kept n f b (Read_exclusive_by_owner p) g lp home hp = record { revised = home.revised; inside = home.inside; memory = home.memory }
  home_kept n f b (Read_exclusive_owned p o) g lp home hp = home_Read_exclusive_owned n f p o b g home.revised home.inside home.memory lp
  home_kept n f b (Read_exclusive_busy p) g lp home hp = record { revised = home.revised; inside = home.inside; memory = home.memory }
  home_kept n f b (Read_exclusive_poison p o) g lp home hp = record { revised = home.revised; inside = home.inside; memory = home.memory }
  home_kept n f b (Upgrade_shared p s) g lp home hp = home_Upgrade_shared n f p s b g home.revised home.inside home.memory lp
  home_kept n f b (Upgrade_grouped p s) g lp home hp = home_Upgrade_grouped n f p s b g home.revised home.inside home.memory lp
  home_kept n f b (Upgrade_refused p) g lp home hp = record { revised = home.revised; inside = home.inside; memory = home.memory }
  home_kept n f b (Upgrade_poison p o) g lp home hp = record { revised = home.revised; inside = home.inside; memory = home.memory }
  home_kept n f b (Write_back_owner p l) g lp home hp = home_Write_back_owner n f p l b g home hp lp
  home_kept n f b (Write_back_busy_shared p r l) g lp home hp = home_Write_back_busy_shared n f p r l b g home hp lp
  home_kept n f b (Write_back_busy_exclusive p r l) g lp home hp = home_Write_back_busy_exclusive n f p r l b g home.revised home.inside home.memory lp hp.asks hp.rests hp.backs hp.owned hp.waits hp.intervened
  home_kept n f b (Write_back_requester p o l) g lp home hp = home_Write_back_requester n f p o l b g home hp lp
  home_kept n f b (Write_back_busy_poison p r l) g lp home hp = home_Write_back_busy_poison n f p r l b g home.revised home.inside home.memory lp hp.asks hp.rests hp.backs hp.owned hp.waits hp.intervened
  home_kept n f b (Revision_sharing_write_back o r l) g lp home hp = home_Revision_sharing_write_back n f o r l b g home.revised home.inside home.memory lp
  home_kept n f b (Revision_sharing_transfer o r) g lp home hp = home_Revision_sharing_transfer n f o r b g home.revised home.inside home.memory lp
  home_kept n f b (Revision_dirty_transfer o r) g lp home hp = home_Revision_dirty_transfer n f o r b g home.revised home.inside home.memory lp
  home_kept n f b (Revision_returned o r) g lp home hp = home_Revision_returned n f o r b g home.revised home.inside home.memory lp
  home_kept n f b (Revision_poison_back o r l) g lp home hp = home_Revision_poison_back n f o r l b g home.revised home.inside home.memory lp
  home_kept n f b (Revision_poison_clean o r) g lp home hp = home_Revision_poison_clean n f o r b g home.revised home.inside home.memory lp
  home_kept n f b (Poison_read_unowned p) g lp home hp = home_Poison_read_unowned n f p b g home.revised home.inside home.memory lp
  home_kept n f b (Poison_read_shared p s) g lp home hp = home_Poison_read_shared n f p s b g home.revised home.inside home.memory lp
  home_kept n f b (Poison_read_owned p o) g lp home hp = home_Poison_read_owned n f p o b g home.revised home.inside home.memory lp
  home_kept n f b (Poison_read_busy p) g lp home hp = record { revised = home.revised; inside = home.inside; memory = home.memory }
  home_kept n f b (Copy_in p v) g lp home hp = home_Copy_in n f p v b g home.revised home.inside home.memory lp
  home_kept n f b (Fill_shared p l) g lp home hp = record { revised = home.revised; inside = home.inside; memory = home.memory }
  home_kept n f b (Again_shared p l) g lp home hp = record { revised = home.revised; inside = home.inside; memory = home.memory }
  home_kept n f b (Fill_clean p l m) g lp home hp = record { revised = home.revised; inside = home.inside; memory = home.memory }
  home_kept n f b (Fill_shared_answered p l m) g lp home hp = record { revised = home.revised; inside = home.inside; memory = home.memory }
  home_kept n f b (Fill_shared_speculative p m) g lp home hp = record { revised = home.revised; inside = home.inside; memory = home.memory }
  home_kept n f b (Again_speculative p m) g lp home hp = record { revised = home.revised; inside = home.inside; memory = home.memory }
  home_kept n f b (Fill_exclusive p v l d) g lp home hp = home_Fill_exclusive n f p v l d b g home.revised home.inside home.memory lp hp.asks hp.rests hp.backs hp.owned hp.waits hp.intervened
  home_kept n f b (Fill_exclusive_answered p v m l) g lp home hp = home_Fill_exclusive_answered n f p v m l b g home.revised home.inside home.memory lp hp.asks hp.rests hp.backs hp.owned hp.waits hp.intervened
  home_kept n f b (Fill_exclusive_speculative p v m) g lp home hp = home_Fill_exclusive_speculative n f p v m b g home.revised home.inside home.memory lp hp.asks hp.rests hp.backs hp.owned hp.waits hp.intervened
  home_kept n f b (Fill_upgrade p v l d) g lp home hp = home_Fill_upgrade n f p v l d b g home.revised home.inside home.memory lp hp.asks hp.rests hp.backs hp.owned hp.waits hp.intervened
  home_kept n f b (Fill_upgrade_line p v l d) g lp home hp = home_Fill_upgrade_line n f p v l d b g home.revised home.inside home.memory lp hp.asks hp.rests hp.backs hp.owned hp.waits hp.intervened
  home_kept n f b (Again_refused p) g lp home hp = record { revised = home.revised; inside = home.inside; memory = home.memory }
  home_kept n f b (Again_upgrade_refused p) g lp home hp = record { revised = home.revised; inside = home.inside; memory = home.memory }
  home_kept n f b (Poisoned p) g lp home hp = record { revised = home.revised; inside = home.inside; memory = home.memory }
  home_kept n f b (Poison_collected p l d) g lp home hp = record { revised = home.revised; inside = home.inside; memory = home.memory }
  home_kept n f b (Invalidated p r) g lp home hp = record { revised = home.revised; inside = home.inside; memory = home.memory }
  home_kept n f b (Acknowledged p r) g lp home hp = record { revised = home.revised; inside = home.inside; memory = home.memory }
  home_kept n f b (Intervention_victim_busy p) g lp home hp = record { revised = home.revised; inside = home.inside; memory = home.memory }
  home_kept n f b (Intervention_victim_first p) g lp home hp = record { revised = home.revised; inside = home.inside; memory = home.memory }
  home_kept n f b (Intervention_shared_dirty p r l) g lp home hp = home_Intervention_shared_dirty n f p r l b g home hp lp
  home_kept n f b (Intervention_shared_clean p r l) g lp home hp = home_Intervention_shared_clean n f p r l b g home hp lp
  home_kept n f b (Intervention_shared_none p r) g lp home hp = home_Intervention_shared_none n f p r b g home hp lp
  home_kept n f b (Intervention_exclusive_dirty p r l) g lp home hp = home_Intervention_exclusive_dirty n f p r l b g home.revised home.inside home.memory lp hp.asks hp.rests hp.backs hp.owned hp.waits hp.intervened
  home_kept n f b (Intervention_exclusive_clean p r) g lp home hp = home_Intervention_exclusive_clean n f p r b g home.revised home.inside home.memory lp hp.asks hp.rests hp.backs hp.owned hp.waits hp.intervened
  home_kept n f b (Intervention_poison_dirty p r l) g lp home hp = home_Intervention_poison_dirty n f p r l b g home hp lp
  home_kept n f b (Intervention_poison_clean p r) g lp home hp = home_Intervention_poison_clean n f p r b g home hp lp
  home_kept n f b (Write_back_ack p) g lp home hp = record { revised = home.revised; inside = home.inside; memory = home.memory }
  home_kept n f b (Write_back_busy_ack_seen p) g lp home hp = record { revised = home.revised; inside = home.inside; memory = home.memory }
  home_kept n f b (Write_back_busy_ack_first p) g lp home hp = record { revised = home.revised; inside = home.inside; memory = home.memory }
  home_kept n f b (Send_poison_read p) g lp home hp = record { revised = home.revised; inside = home.inside; memory = home.memory }
