-- Messages that stand have distinct charges.
use Rattle.std.proofs.Common.{◌≡◌, ℕ, ◌+◌, ◌*◌, ◌<◌, true, arith, ◌≢◌, refl}
use Rattle.std.proofs.lemmas.Bool.Decides.{nat_tests}
use Rattle.og_slots.proofs.Flight.{fits_coarser}
use Rattle.og_slots.proofs.Room.{room_for}
use Rattle.og_block.proofs.Alone.{holder_is_one}
use Rattle.og_block.proofs.Balance.{asked_holds}
use Rattle.og_block.specs.State.{Entry, Revision, NoRevision, Victim, Free, Back, Intervention, NoIntervention, Invalidation, NoInvalidation, Block}
use Rattle.og_block.specs.Invariant.{Invariant, Local, Fits_back, Intervened_by, is_asked}
use Rattle.og_block.specs.Message.{Message, Asked, Answered, Returned, Revised, Intervened, Invalidated, Owner_of_block, Stands, key_of, intervention_key, invalidation_key, DistinctCharges}

-- an intervention charged to the owner's message meets its receiver's free slot; otherwise it is charged to its receiver
charged : (v : Victim) (q : ℕ) → intervention_key v q ≡ Owner_of_block → v ≡ Free
charged v q e = grind arith

of_one : (i j : Invalidation) (q p : ℕ) → i ≢ NoInvalidation → j ≢ NoInvalidation → invalidation_key q i ≡ invalidation_key p j → q ≡ p
of_one i j q p ti tj e = grind arith

module _ {L : Type 0} where
  asked_first : (e : Entry) (v : Revision L) (q : ℕ) → is_asked e v q ≡ true → v ≡ NoRevision
  asked_first e v q a = grind (arith, nat_tests)

  asked_is_one : (e : Entry) (v : Revision L) (p q : ℕ) → is_asked e v p ≡ true → is_asked e v q ≡ true → p ≡ q
  asked_is_one e v p q a c = holder_is_one e v p q (asked_holds e v p a) (asked_holds e v q c)

  -- an intervention that no victim slot meets is for an owner that hasn't answered
  free_asked : (b : Block L) (q : ℕ) (v : Victim) (k : Back L) (i : Intervention) → Fits_back v k i → Intervened_by b q v k i → v ≡ Free → i ≢ NoIntervention → is_asked b.entry b.revision q ≡ true
  free_asked b q v k NoIntervention fits h free there = absurd (there refl)
  free_asked b q v k i fits h free there = grind (arith, nat_tests)

  asked_at : (n : ℕ) (f : L) (b : Block L) (q : ℕ) (i : Intervention) → Local n f b q → b.intervention q ≡ i → i ≢ NoIntervention → b.victim q ≡ Free → is_asked b.entry b.revision q ≡ true
  asked_at n f b q i h e there free = free_asked b q (b.victim q) (b.back q) (b.intervention q) h.backs h.intervened free (λ none. there (cc))

  two : (n : ℕ) (f : L) (b : Block L) (q p : ℕ) (i j : Intervention) (v w : Victim) → Local n f b q → Local n f b p → b.victim q ≡ v → b.victim p ≡ w → b.intervention q ≡ i → i ≢ NoIntervention → b.intervention p ≡ j → j ≢ NoIntervention → intervention_key v q ≡ intervention_key w p → q ≡ p
  two n f b q p i j Free Free hq hp ev ew ei ti ej tj e = asked_is_one b.entry b.revision q p (asked_at n f b q i hq ei ti ev) (asked_at n f b p j hp ej tj ew)
  two n f b q p i j v w hq hp ev ew ei ti ej tj e = grind arith

  -- one message for each key
  one_for_key : (n : ℕ) (f : L) (b : Block L) → Invariant n f b → (x y : Message L) → Stands n b x → Stands n b y → key_of b x ≡ key_of b y → x ≡ y
  one_for_key n f b inv (Asked q a) (Asked p c) s t e = let same : q ≡ p = cc in cc
  one_for_key n f b inv (Answered q a) (Answered p c) s t e = let same : q ≡ p = cc in cc
  one_for_key n f b inv (Returned q a) (Returned p c) s t e = let same : q ≡ p = cc in cc
  one_for_key n f b inv (Revised v) (Revised w) s t e = cc
  one_for_key n f b inv (Intervened q i) (Intervened p j) s t e =
      let same : q ≡ p = two n f b q p i j (b.victim q) (b.victim p) (inv.each q s.0) (inv.each p t.0) refl refl s.1 s.2 t.1 t.2 e in cc
  one_for_key n f b inv (Invalidated q i) (Invalidated p j) s t e = let same : q ≡ p = of_one i j q p s.2 t.2 e in cc
  one_for_key n f b inv (Revised v) (Intervened p j) s t e = absurd (s.1 (first (asked_at n f b p j (inv.each p t.0) t.1 t.2 (owner_key e))))
    where
      first : is_asked b.entry b.revision p ≡ true → v ≡ NoRevision
      first a = let none : b.revision ≡ NoRevision = asked_first b.entry b.revision p a in cc

      owner_key : Owner_of_block ≡ intervention_key (b.victim p) p → b.victim p ≡ Free
      owner_key e = charged (b.victim p) p (cc)
  one_for_key n f b inv (Intervened q i) (Revised w) s t e = absurd (t.1 (first (asked_at n f b q i (inv.each q s.0) s.1 s.2 (charged (b.victim q) q e))))
    where
      first : is_asked b.entry b.revision q ≡ true → w ≡ NoRevision
      first a = let none : b.revision ≡ NoRevision = asked_first b.entry b.revision q a in cc
  one_for_key n f b inv x y s t e = absurd (grind arith)

  -- the slots, numbered
  abbrev slot_number : ℕ → Message L → ℕ
  slot_number n (Revised v) = 0
  slot_number n (Asked q a) = 1 + q
  slot_number n (Answered q r) = 1 + n + q
  slot_number n (Returned q k) = 1 + 2 * n + q
  slot_number n (Intervened q i) = 1 + 3 * n + q
  slot_number n (Invalidated q i) = 1 + 4 * n + q

  one_for_slot : (n : ℕ) (b : Block L) (x y : Message L) → Stands n b x → Stands n b y → slot_number n x ≡ slot_number n y → x ≡ y
  one_for_slot n b (Asked q a) (Asked p c) s t e = let same : q ≡ p = omega arith in cc
  one_for_slot n b (Answered q a) (Answered p c) s t e = let same : q ≡ p = omega arith in cc
  one_for_slot n b (Returned q a) (Returned p c) s t e = let same : q ≡ p = omega arith in cc
  one_for_slot n b (Intervened q a) (Intervened p c) s t e = let same : q ≡ p = omega arith in cc
  one_for_slot n b (Invalidated q a) (Invalidated p c) s t e = let same : q ≡ p = omega arith in cc
  one_for_slot n b (Revised v) (Revised w) s t e = cc
  one_for_slot n b x y s t e = absurd (omega arith)

  within : (n : ℕ) (b : Block L) (x : Message L) → Stands n b x → slot_number n x < 5 * n + 1
  within n b (Revised v) s = omega arith
  within n b (Asked q a) s = omega arith
  within n b (Answered q r) s = omega arith
  within n b (Returned q k) s = omega arith
  within n b (Intervened q i) s = omega arith
  within n b (Invalidated q i) s = omega arith

  pub distinct_charges : (n : ℕ) (f : L) (b : Block L) → Invariant n f b → DistinctCharges n b
  distinct_charges n f b inv ms fits = (fits_coarser (λ m. m) (key_of b) (Stands n b) (one_for_key n f b inv) ms fits, room_for (slot_number n) (Stands n b) (5 * n + 1) (within n b) ms (fits_coarser (λ m. m) (slot_number n) (Stands n b) (one_for_slot n b) ms fits))
