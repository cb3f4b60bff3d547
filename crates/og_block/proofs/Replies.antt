-- The row of each reply, and of each answer by the owner, once the parts of its request are there.
use Rattle.std.proofs.Common.{◌≡◌, ℕ, ◌<◌, ◌≤◌, Bool, true, false, nat_eq, arith, ◌≢◌, ◌⊎◌, inl, inr}
use Rattle.std.proofs.lemmas.Bool.{cases_Bool}
use Rattle.std.proofs.lemmas.Bool.Decides.{nat_tests}
use Rattle.og_block.specs.State.{Copy, Shared, Want, Reading, Writing, Upgrading, Poisoning, SharedReply, SpeculativeReply, ExclusiveReply, UpgradeReply, NegativeAck, PoisonReply, Response, NoResponse, SharedResponse, ExclusiveResponse, OwnerAck, Block}
use Rattle.og_block.specs.Rows.{guard, is_upgrading, Fill_shared, Again_shared, Fill_clean, Fill_shared_answered, Fill_shared_speculative, Again_speculative, Fill_exclusive, Fill_exclusive_answered, Fill_exclusive_speculative, Fill_upgrade, Fill_upgrade_line, Again_refused, Again_upgrade_refused, Poison_collected}
use Rattle.og_block.specs.Invariant.{Local, Fits_ask, is_shared}
use Rattle.og_block.specs.Message.{Asked, Answered, MeetsRow}

module _ {L : Type 0} where
  pub full : (n : ℕ) (f : L) (q d : ℕ) (b : Block L) → b.acks q ≤ d → (b.acks q ≡ d) ⊎ (b.acks q < d)
  full n f q d b le = elim (cases_Bool (nat_eq (b.acks q) d)) [ inl same ↦ inl (grind (arith, nat_tests)) | inr other ↦ inr (grind (arith, nat_tests)) ]

  pub speculative : (n q : ℕ) (m : L) (b : Block L) (w : Want) (r : Response L) → b.want q ≡ w → b.response q ≡ r → r ≢ NoResponse → q < n → b.ask q ≡ SpeculativeReply m → Fits_ask w (SpeculativeReply m) r (b.acks q) → MeetsRow n b (Asked q (SpeculativeReply m)) × MeetsRow n b (Answered q r)
  speculative n q m b (Reading false) (SharedResponse l) ew er there lt a fits = let g : guard (Fill_shared_answered q l m) b = (ew, a, er) in (record { row = Fill_shared_answered q l m; may = g; inside = lt; taken = λ s. grind (arith, nat_tests) }, record { row = Fill_shared_answered q l m; may = g; inside = lt; taken = λ s. grind (arith, nat_tests) })
  speculative n q m b (Reading false) OwnerAck ew er there lt a fits = let g : guard (Fill_shared_speculative q m) b = (ew, a, er) in (record { row = Fill_shared_speculative q m; may = g; inside = lt; taken = λ s. grind (arith, nat_tests) }, record { row = Fill_shared_speculative q m; may = g; inside = lt; taken = λ s. grind (arith, nat_tests) })
  speculative n q m b (Reading true) (SharedResponse l) ew er there lt a fits = let g : guard (Again_speculative q m) b = (ew, a, grind arith) in (record { row = Again_speculative q m; may = g; inside = lt; taken = λ s. grind (arith, nat_tests) }, record { row = Again_speculative q m; may = g; inside = lt; taken = λ s. grind (arith, nat_tests) })
  speculative n q m b (Reading true) OwnerAck ew er there lt a fits = let g : guard (Again_speculative q m) b = (ew, a, grind arith) in (record { row = Again_speculative q m; may = g; inside = lt; taken = λ s. grind (arith, nat_tests) }, record { row = Again_speculative q m; may = g; inside = lt; taken = λ s. grind (arith, nat_tests) })
  speculative n q m b Writing (ExclusiveResponse l) ew er there lt a fits = let g : guard (Fill_exclusive_answered q l m l) b = (ew, a, er) in (record { row = Fill_exclusive_answered q l m l; may = g; inside = lt; taken = λ s. grind (arith, nat_tests) }, record { row = Fill_exclusive_answered q l m l; may = g; inside = lt; taken = λ s. grind (arith, nat_tests) })
  speculative n q m b Writing OwnerAck ew er there lt a fits = let g : guard (Fill_exclusive_speculative q m m) b = (ew, a, er) in (record { row = Fill_exclusive_speculative q m m; may = g; inside = lt; taken = λ s. grind (arith, nat_tests) }, record { row = Fill_exclusive_speculative q m m; may = g; inside = lt; taken = λ s. grind (arith, nat_tests) })
  speculative n q m b w r ew er there lt a fits = absurd (grind arith)

  -- an exclusive reply with all acknowledgements
  pub exclusive_full : (n q : ℕ) (l : L) (d : ℕ) (b : Block L) (w : Want) → b.want q ≡ w → b.acks q ≡ d → q < n → b.ask q ≡ ExclusiveReply l d → Fits_ask w (ExclusiveReply l d) (b.response q) (b.acks q) → MeetsRow n b (Asked q (ExclusiveReply l d))
  exclusive_full n q l d b (Reading m) ew k lt a fits = let zero : d ≡ 0 = grind arith in record { row = Fill_clean q l m; may = (ew, cc); inside = lt; taken = λ s. grind (arith, nat_tests) }
  exclusive_full n q l d b Writing ew k lt a fits = record { row = Fill_exclusive q l l d; may = (ew, a, k); inside = lt; taken = λ s. grind (arith, nat_tests) }
  exclusive_full n q l d b Upgrading ew k lt a fits = record { row = Fill_upgrade_line q l l d; may = (ew, a, k); inside = lt; taken = λ s. grind (arith, nat_tests) }
  exclusive_full n q l d b w ew k lt a fits = absurd (grind arith)

  pub upgrade_full : (n q d : ℕ) (b : Block L) (c : Copy L) → b.copy q ≡ c → is_shared c ≡ true → b.want q ≡ Upgrading → b.acks q ≡ d → q < n → b.ask q ≡ UpgradeReply d → MeetsRow n b (Asked q (UpgradeReply d))
  upgrade_full n q d b (Shared l) ec sh w k lt a = record { row = Fill_upgrade q l l d; may = (w, a, k, ec); inside = lt; taken = λ s. grind (arith, nat_tests) }
  upgrade_full n q d b c ec sh w k lt a = absurd (grind arith)

  pub refused : (n q : ℕ) (b : Block L) (t : Bool) → is_upgrading (b.want q) ≡ t → q < n → b.ask q ≡ NegativeAck → MeetsRow n b (Asked q NegativeAck)
  refused n q b true w lt a = record { row = Again_upgrade_refused q; may = (a, w); inside = lt; taken = λ s. grind (arith, nat_tests) }
  refused n q b false w lt a = record { row = Again_refused q; may = (a, w); inside = lt; taken = λ s. grind (arith, nat_tests) }

  pub shared_reply : (n q : ℕ) (l : L) (b : Block L) (w : Want) → b.want q ≡ w → q < n → b.ask q ≡ SharedReply l → Fits_ask w (SharedReply l) (b.response q) (b.acks q) → MeetsRow n b (Asked q (SharedReply l))
  shared_reply n q l b (Reading false) ew lt a fits = record { row = Fill_shared q l; may = (ew, a); inside = lt; taken = λ s. grind (arith, nat_tests) }
  shared_reply n q l b (Reading true) ew lt a fits = record { row = Again_shared q l; may = (ew, a); inside = lt; taken = λ s. grind (arith, nat_tests) }
  shared_reply n q l b w ew lt a fits = absurd (grind arith)

  -- the acknowledgements that came are no more than those that are due
  pub few : (n : ℕ) (f : L) (q d : ℕ) (b : Block L) → Local n f b q → ((l : L) → b.ask q ≡ ExclusiveReply l d → b.acks q ≤ d) × (b.ask q ≡ UpgradeReply d → b.acks q ≤ d) × ((l : L) → b.ask q ≡ PoisonReply l d → b.acks q ≤ d)
  few n f q d b h = (λ l a. grind arith, λ a. grind arith, λ l a. grind arith)

  pub poison_full : (n q : ℕ) (l : L) (d : ℕ) (b : Block L) → b.want q ≡ Poisoning → b.acks q ≡ d → q < n → b.ask q ≡ PoisonReply l d → MeetsRow n b (Asked q (PoisonReply l d))
  poison_full n q l d b w k lt a = record { row = Poison_collected q l d; may = (w, a, k); inside = lt; taken = λ s. grind (arith, nat_tests) }
