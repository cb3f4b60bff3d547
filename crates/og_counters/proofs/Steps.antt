-- What a count and a reset come to, step by step.
use Rattle.std.proofs.Common.{◌≡◌, ℕ, ◌+◌, ◌<◌, ◌≤◌, Bool, true, false, cond, not, ◌&&◌, ◌||◌, None, Some, is_some, refl, sym, ◌∙◌, ap, ap₂, arith, inl, inr}
use Rattle.std.proofs.Math.Path.{fun_ext}
use Rattle.std.proofs.lemmas.Bool.{cases_eq, le-leb, lt-leb}
use Rattle.std.specs.Prelude.{nat_le}
use Rattle.og_base.specs.declared.Hot.{Hot}
use Rattle.og_counters.specs.Counts.{FrameCounts, CountersState, with_value, with_frame, counted, cleared, is_due, hot, notice_of, counts_after, count_step, reset_step, sum_of, most_of_others}
use Rattle.og_counters.proofs.Sums.{value_here, value_there, sum_of-raised, most-raised}

-- a frame that is changed twice
pub twice : (s : CountersState) (index : ℕ) (a b : FrameCounts) → with_frame (with_frame s index a) index b ≡ with_frame s index b
twice s index a b = ap (λ f. let r : CountersState = record s { frame = f } in r) (fun_ext each)
  where
    each : (j : ℕ) → with_value (with_value s.frame index a) index b j ≡ with_value s.frame index b j
    each j = elim (cases_eq j index) [
      | inl same ↦ rw same (value_here (with_value s.frame index a) index b ∙ sym (value_here s.frame index b))
      | inr other ↦ value_there (with_value s.frame index a) index j b other ∙ value_there s.frame index j a other ∙ sym (value_there s.frame index j b other)
    ]

-- a second change of a frame, made of what the first one left
pub then : (s t : CountersState) (index : ℕ) (a : FrameCounts) (f : FrameCounts → FrameCounts) → t ≡ with_frame s index a → with_frame t index (f (t.frame index)) ≡ with_frame s index (f a)
then s t index a f e =
    ap (λ u. with_frame u index (f (u.frame index))) e
    ∙ ap (λ c. with_frame (with_frame s index a) index (f c)) (value_here s.frame index a)
    ∙ twice s index a (f a)

-- ------------------------------------------------------------ notices

no_notice : (s : CountersState) (index p : ℕ) → is_due s.rules (counted (s.frame index) p) p ≡ false → notice_of s index p ≡ None
no_notice s index p not_due = rw not_due refl

pub no_notice-home : (s : CountersState) (index p : ℕ) → p ≡ s.rules.home → 1 ≤ s.rules.trigger → notice_of s index p ≡ None
no_notice-home s index p same some = no_notice s index p (not_due (not (s.frame index).noticed))
  where
    below : nat_le (with_value (s.frame index).count p ((s.frame index).count p + 1) s.rules.home + s.rules.trigger) (with_value (s.frame index).count p ((s.frame index).count p + 1) p) ≡ false
    below = rw (← same, value_here (s.frame index).count p ((s.frame index).count p + 1)) (lt-leb ((s.frame index).count p + 1 + s.rules.trigger) ((s.frame index).count p + 1) (omega arith))

    not_due : (closed : Bool) → (closed && nat_le (with_value (s.frame index).count p ((s.frame index).count p + 1) s.rules.home + s.rules.trigger) (with_value (s.frame index).count p ((s.frame index).count p + 1) p)) ≡ false
    not_due true = below
    not_due false = refl

pub no_notice-open : (s : CountersState) (index p : ℕ) → (s.frame index).noticed ≡ true → notice_of s index p ≡ None
no_notice-open s index p noticed = no_notice s index p (rw noticed refl)

-- the test of the trigger, by the counts before the request
trigger_test : (s : CountersState) (index p : ℕ) → (p ≡ s.rules.home → ⊥) → nat_le ((counted (s.frame index) p).count s.rules.home + s.rules.trigger) ((counted (s.frame index) p).count p) ≡ nat_le ((s.frame index).count s.rules.home + s.rules.trigger) ((s.frame index).count p + 1)
trigger_test s index p other =
    ap₂ (λ a b. nat_le (a + s.rules.trigger) b) (value_there (s.frame index).count p s.rules.home ((s.frame index).count p + 1) (λ e. other (sym e))) (value_here (s.frame index).count p ((s.frame index).count p + 1))

pub no_notice-low : (s : CountersState) (index p : ℕ) → (p ≡ s.rules.home → ⊥) → (s.frame index).count p + 1 < (s.frame index).count s.rules.home + s.rules.trigger → notice_of s index p ≡ None
no_notice-low s index p other low = no_notice s index p (not_due (not (s.frame index).noticed))
  where
    not_due : (closed : Bool) → (closed && nat_le ((counted (s.frame index) p).count s.rules.home + s.rules.trigger) ((counted (s.frame index) p).count p)) ≡ false
    not_due true = trigger_test s index p other ∙ lt-leb ((s.frame index).count s.rules.home + s.rules.trigger) ((s.frame index).count p + 1) low
    not_due false = refl

pub notice-made : (s : CountersState) (index p : ℕ) → (p ≡ s.rules.home → ⊥) → (s.frame index).noticed ≡ false → (s.frame index).count s.rules.home + s.rules.trigger ≤ (s.frame index).count p + 1
    → notice_of s index p ≡ Some (record { frame = record { home = s.rules.home; index = index }; node = p; count = (s.frame index).count p + 1; most = most_of_others s.rules.nodes s.rules.home p (s.frame index).count })
notice-made s index p other closed high =
    let due : is_due s.rules (counted (s.frame index) p) p ≡ true = rw closed (trigger_test s index p other ∙ le-leb ((s.frame index).count s.rules.home + s.rules.trigger) ((s.frame index).count p + 1) high) in
    let made : notice_of s index p ≡ Some (hot s.rules (counted (s.frame index) p) index p) = rw due refl in
    made ∙ ap₂ (λ (n m : ℕ). let h : Hot = record { frame = record { home = s.rules.home; index = index }; node = p; count = n; most = m } in Some h)
    (value_here (s.frame index).count p ((s.frame index).count p + 1)) (most-raised s.rules.nodes s.rules.home p ((s.frame index).count p + 1) (s.frame index).count)

-- ------------------------------------------------------------ a count

due-some : (s : CountersState) (index p : ℕ) → is_some (notice_of s index p) ≡ is_due s.rules (counted (s.frame index) p) p
due-some s index p = by_test (is_due s.rules (counted (s.frame index) p) p)
  where
    by_test : (due : Bool) → is_some (cond due (Some (hot s.rules (counted (s.frame index) p) index p)) None) ≡ due
    by_test true = refl
    by_test false = refl

-- the frame's counts with the mark that a count leaves, before the count itself
abbrev marked_first : CountersState → (index p : ℕ) → FrameCounts
marked_first s index p = record (s.frame index) { noticed = (s.frame index).noticed || is_due s.rules (counted (s.frame index) p) p }

module _ (s : CountersState) (index p : ℕ) (low : p < s.rules.nodes) where
  sum_is : sum_of s.rules.nodes (counted (s.frame index) p).count ≡ sum_of s.rules.nodes (s.frame index).count + 1
  sum_is = sum_of-raised s.rules.nodes p (s.frame index).count low

  pub after_full : nat_le s.rules.reset (sum_of s.rules.nodes (s.frame index).count + 1) ≡ true → cleared (marked_first s index p) ≡ counts_after s.rules (s.frame index) p
  after_full full = rw (sum_is, full) refl

  pub after_low : nat_le s.rules.reset (sum_of s.rules.nodes (s.frame index).count + 1) ≡ false → counted (marked_first s index p) p ≡ counts_after s.rules (s.frame index) p
  after_low not_full = rw (sum_is, not_full) refl

  pub marks : (t : CountersState) (mark : Bool) → mark ≡ ((s.frame index).noticed || is_some (notice_of s index p)) → t ≡ with_frame s index (record (s.frame index) { noticed = mark }) → t ≡ with_frame s index (marked_first s index p)
  marks t mark mark_is e = e ∙ ap (λ o. with_frame s index (record (s.frame index) { noticed = o })) (mark_is ∙ ap (λ o. (s.frame index).noticed || o) (due-some s index p))

  test_is : (t : CountersState) → t ≡ with_frame s index (marked_first s index p) → nat_le t.rules.reset (sum_of t.rules.nodes (t.frame index).count + 1) ≡ nat_le s.rules.reset (sum_of s.rules.nodes (s.frame index).count + 1)
  test_is t e = ap (λ u. nat_le u.rules.reset (sum_of u.rules.nodes (u.frame index).count + 1)) e ∙ ap (λ d. nat_le s.rules.reset (sum_of s.rules.nodes d.count + 1)) (value_here s.frame index (marked_first s index p))

  pub counted_full : (t u : CountersState) → t ≡ with_frame s index (marked_first s index p) → nat_le t.rules.reset (sum_of t.rules.nodes (t.frame index).count + 1) ≡ true → u ≡ with_frame t index (cleared (t.frame index)) → u ≡ (count_step s index p).0
  counted_full t u e full last = last ∙ then s t index (marked_first s index p) cleared e ∙ ap (with_frame s index) (after_full (sym (test_is t e) ∙ full))

  pub counted_low : (t u : CountersState) → t ≡ with_frame s index (marked_first s index p) → nat_le t.rules.reset (sum_of t.rules.nodes (t.frame index).count + 1) ≡ false → u ≡ with_frame t index (counted (t.frame index) p) → u ≡ (count_step s index p).0
  counted_low t u e not_full last = last ∙ then s t index (marked_first s index p) (λ d. counted d p) e ∙ ap (with_frame s index) (after_low (sym (test_is t e) ∙ not_full))

-- ------------------------------------------------------------ a reset

pub reset_done : (s t u : CountersState) (index : ℕ) → t ≡ with_frame s index (cleared (s.frame index)) → u ≡ with_frame t index (record (t.frame index) { noticed = false }) → u ≡ reset_step s index
reset_done s t u index first last = last ∙ then s t index (cleared (s.frame index)) (λ d. record d { noticed = false }) first
