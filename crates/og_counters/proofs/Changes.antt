-- What the counters are after the counts of one frame have changed.
use Rattle.std.proofs.Common.{◌≡◌, ℕ, ◌+◌, ◌-◌, ◌*◌, ◌<◌, ◌≤◌, Bool, true, false, cond, ◌&&◌, List, length, refl, sym, ◌∙◌, ap, ap₂, subst, arith, inl, inr, ◌⊎◌}
use Rattle.std.proofs.Math.Path.{fun_ext}
use Rattle.std.proofs.Math.ListN.{set}
use Rattle.std.proofs.lemmas.List.{get_or-set_same, get_or-set_other}
use Rattle.std.proofs.lemmas.Nat.{mul-add-lt}
use Rattle.std.proofs.lemmas.Bool.{cases_eq, cases_order, cases_lt, lt-ltb, le-ltb, le-leb, lt-leb}
use Rattle.std.specs.Prelude.{nat_lt, nat_le, slice_index}
use Rattle.og_counters.specs.Counts.{FrameCounts, CountersState, with_value, with_frame, counted, cleared}
use Rattle.og_counters.specs.Kept.{KeptCounts, count_in, frame_in, counters_of}
use Rattle.og_counters.proofs.Sums.{value_here, value_there}

-- places of different frames differ
pub other_place : (n i j p node : ℕ) → p < n → node < n → (j ≡ i → ⊥) → j * n + node ≡ i * n + p → ⊥
other_place n i j p node low inside other e =
    elim (cases_order i j) [
      | inl same ↦ other (sym same)
      | inr (inl below) ↦ absurd (omega (arith, mul-add-lt i n (n - 1) j below (omega arith)))
      | inr (inr above) ↦ absurd (omega (arith, mul-add-lt j n (n - 1) i above (omega arith)))
    ]

-- a frame's counts in the row
pub count_in-inside : (n : ℕ) (counts : List ℕ) (i node : ℕ) → node < n → count_in n counts i node ≡ slice_index counts (i * n + node)
unfolding count_in
count_in-inside n counts i node inside = rw (lt-ltb node n inside) refl

pub count_in-past : (n : ℕ) (counts : List ℕ) (i node : ℕ) → n ≤ node → count_in n counts i node ≡ 0
unfolding count_in
count_in-past n counts i node past = rw (le-ltb node n past) refl

-- one count of one frame is written
module _ (n : ℕ) (counts : List ℕ) (i p v : ℕ) (low : p < n) (room : i * n + p < length counts) where
  abbrev after : List ℕ
  after = set counts (i * n + p) v

  pub written_here : count_in n after i p ≡ v
  written_here = count_in-inside n after i p low ∙ get_or-set_same counts (i * n + p) v 0 room

  pub written_other_node : (node : ℕ) → (node ≡ p → ⊥) → count_in n after i node ≡ count_in n counts i node
  written_other_node node other = elim (cases_lt node n) [
    | inl inside ↦ count_in-inside n after i node inside ∙ get_or-set_other counts (i * n + p) (i * n + node) v 0 (λ e. other (omega arith)) ∙ sym (count_in-inside n counts i node inside)
    | inr past ↦ count_in-past n after i node past ∙ sym (count_in-past n counts i node past)
  ]

  pub written_other_frame : (j node : ℕ) → (j ≡ i → ⊥) → count_in n after j node ≡ count_in n counts j node
  written_other_frame j node other = elim (cases_lt node n) [
    | inl inside ↦ count_in-inside n after j node inside ∙ get_or-set_other counts (i * n + p) (j * n + node) v 0 (other_place n i j p node low inside other) ∙ sym (count_in-inside n counts j node inside)
    | inr past ↦ count_in-past n after j node past ∙ sym (count_in-past n counts j node past)
  ]

  pub written_counts : (node : ℕ) → count_in n after i node ≡ with_value (count_in n counts i) p v node
  written_counts node = elim (cases_eq node p) [
    | inl same ↦ rw same (written_here ∙ sym (value_here (count_in n counts i) p v))
    | inr other ↦ written_other_node node other ∙ sym (value_there (count_in n counts i) p node v other)
  ]

-- all counts of one frame are written with 0
module _ (n : ℕ) (counts after : List ℕ) (i : ℕ) (zero_there : (k : ℕ) → slice_index after k ≡ cond (nat_le (i * n) k && nat_lt k (i * n + n)) 0 (slice_index counts k)) where
  inside_test : (node : ℕ) → node < n → (nat_le (i * n) (i * n + node) && nat_lt (i * n + node) (i * n + n)) ≡ true
  inside_test node inside = rw (le-leb (i * n) (i * n + node) (omega arith), lt-ltb (i * n + node) (i * n + n) (omega arith)) refl

  pub zeroed : (node : ℕ) → count_in n after i node ≡ 0
  zeroed node = elim (cases_lt node n) [
    | inl inside ↦ count_in-inside n after i node inside ∙ zero_there (i * n + node) ∙ ap (λ test. cond test 0 (slice_index counts (i * n + node))) (inside_test node inside)
    | inr past ↦ count_in-past n after i node past
  ]

  outside_test : (k : ℕ) → ((k < i * n) ⊎ (i * n + n ≤ k)) → (nat_le (i * n) k && nat_lt k (i * n + n)) ≡ false
  outside_test k (inl before) = rw (lt-leb (i * n) k before) refl
  outside_test k (inr past) = rw (le-leb (i * n) k (omega arith), le-ltb k (i * n + n) past) refl

  outside : (j node : ℕ) → node < n → (j ≡ i → ⊥) → (j * n + node < i * n) ⊎ (i * n + n ≤ j * n + node)
  outside j node inside other = elim (cases_order i j) [
    | inl same ↦ absurd (other (sym same))
    | inr (inl below) ↦ inr (omega (arith, mul-add-lt i n (n - 1) j below (omega arith)))
    | inr (inr above) ↦ inl (omega (arith, mul-add-lt j n (n - 1) i above (omega arith)))
  ]

  pub not_zeroed : (j node : ℕ) → (j ≡ i → ⊥) → count_in n after j node ≡ count_in n counts j node
  not_zeroed j node other = elim (cases_lt node n) [
    | inl inside ↦ count_in-inside n after j node inside ∙ zero_there (j * n + node) ∙ ap (λ test. cond test 0 (slice_index counts (j * n + node))) (outside_test (j * n + node) (outside j node inside other)) ∙ sym (count_in-inside n counts j node inside)
    | inr past ↦ count_in-past n after j node past ∙ sym (count_in-past n counts j node past)
  ]

-- ------------------------------------------------------------ the counters

-- frames with the same counts and the same mark are the same
pub same_frame : (a b : FrameCounts) → ((node : ℕ) → a.count node ≡ b.count node) → a.noticed ≡ b.noticed → a ≡ b
same_frame a b counts mark = ap₂ (λ (f : ℕ → ℕ) (m : Bool). let c : FrameCounts = record { count = f; noticed = m } in c) (fun_ext counts) mark

-- counters of which one frame has changed
pub one_changed : (d e : KeptCounts) (index : ℕ) (c : FrameCounts) → e.rules ≡ d.rules → frame_in e index ≡ c → ((j : ℕ) → (j ≡ index → ⊥) → frame_in e j ≡ frame_in d j) → counters_of e ≡ with_frame (counters_of d) index c
one_changed d e index c rules here there = ap₂ (λ r f. let s : CountersState = record { rules = r; frame = f } in s) rules (fun_ext each)
  where
    each : (j : ℕ) → frame_in e j ≡ with_value (frame_in d) index c j
    each j = elim (cases_eq j index) [
      | inl same ↦ rw same (here ∙ sym (value_here (frame_in d) index c))
      | inr other ↦ there j other ∙ sym (value_there (frame_in d) index j c other)
    ]

pub marked_counters : (d e : KeptCounts) (index : ℕ) (mark : Bool) → e.rules ≡ d.rules → e.counts ≡ d.counts → e.noticed ≡ set d.noticed index mark → index < length d.noticed → counters_of e ≡ with_frame (counters_of d) index (record (frame_in d index) { noticed = mark })
unfolding frame_in
marked_counters d e index mark rules counts noticed inside =
    one_changed d e index (record (frame_in d index) { noticed = mark }) rules
    (same_frame (frame_in e index) (record (frame_in d index) { noticed = mark }) (λ node. rw (rules, counts) refl) (rw noticed (get_or-set_same d.noticed index mark false inside)))
    (λ j other. same_frame (frame_in e j) (frame_in d j) (λ node. rw (rules, counts) refl) (rw noticed (get_or-set_other d.noticed index j mark false other)))

pub raised_counters : (d e : KeptCounts) (index p v : ℕ) → e.rules ≡ d.rules → e.counts ≡ set d.counts (index * d.rules.nodes + p) v → e.noticed ≡ d.noticed → p < d.rules.nodes → index * d.rules.nodes + p < length d.counts → v ≡ count_in d.rules.nodes d.counts index p + 1 → counters_of e ≡ with_frame (counters_of d) index (counted (frame_in d index) p)
unfolding frame_in
raised_counters d e index p v rules counts noticed low room value =
    one_changed d e index (counted (frame_in d index) p) rules
    (same_frame (frame_in e index) (counted (frame_in d index) p) (λ node. rw (rules, counts, ← value) (written_counts d.rules.nodes d.counts index p v low room node)) (rw noticed refl))
    (λ j other. same_frame (frame_in e j) (frame_in d j) (λ node. rw (rules, counts) (written_other_frame d.rules.nodes d.counts index p v low room j node other)) (rw noticed refl))

pub cleared_counters : (d e : KeptCounts) (index : ℕ) → e.rules ≡ d.rules → e.noticed ≡ d.noticed → ((k : ℕ) → slice_index e.counts k ≡ cond (nat_le (index * d.rules.nodes) k && nat_lt k (index * d.rules.nodes + d.rules.nodes)) 0 (slice_index d.counts k)) → counters_of e ≡ with_frame (counters_of d) index (cleared (frame_in d index))
unfolding frame_in
cleared_counters d e index rules noticed zero_there =
    one_changed d e index (cleared (frame_in d index)) rules
    (same_frame (frame_in e index) (cleared (frame_in d index)) (λ node. rw rules (zeroed d.rules.nodes d.counts e.counts index zero_there node)) (rw noticed refl))
    (λ j other. same_frame (frame_in e j) (frame_in d j) (λ node. rw rules (not_zeroed d.rules.nodes d.counts e.counts index zero_there j node other)) (rw noticed refl))

-- the same, by what is known of the counters as they are seen
pub marked_now : {d now : KeptCounts} → d ≡ now → (e : KeptCounts) (index k : ℕ) (mark : Bool) → e.rules ≡ d.rules → e.counts ≡ d.counts → e.noticed ≡ set d.noticed k mark → k ≡ index → index < length now.noticed
    → counters_of e ≡ with_frame (counters_of now) index (record (frame_in now index) { noticed = mark })
marked_now {d} {now} same e index k mark rules counts noticed place inside =
    marked_counters now e index mark (rules ∙ ap (λ d. d.rules) same) (counts ∙ ap (λ d. d.counts) same) (noticed ∙ ap (λ d. set d.noticed k mark) same ∙ ap (λ i. set now.noticed i mark) place) inside

pub raised_now : {d now : KeptCounts} → d ≡ now → (e : KeptCounts) (index p k v : ℕ) → e.rules ≡ d.rules → e.counts ≡ set d.counts k v → e.noticed ≡ d.noticed → k ≡ index * now.rules.nodes + p → p < now.rules.nodes → k < length now.counts → v ≡ (frame_in now index).count p + 1
    → counters_of e ≡ with_frame (counters_of now) index (counted (frame_in now index) p)
unfolding frame_in
raised_now {d} {now} same e index p k v rules counts noticed place low room value =
    raised_counters now e index p v (rules ∙ ap (λ d. d.rules) same) (counts ∙ ap (λ d. set d.counts k v) same ∙ ap (λ i. set now.counts i v) place) (noticed ∙ ap (λ d. d.noticed) same) low (subst (λ i. i < length now.counts) place room) value

pub cleared_now : {d now : KeptCounts} → d ≡ now → (e : KeptCounts) (index first many : ℕ) (after : List ℕ) → e.rules ≡ d.rules → e.counts ≡ after → e.noticed ≡ d.noticed → first ≡ index * now.rules.nodes → many ≡ now.rules.nodes
    → ((k : ℕ) → slice_index after k ≡ cond (nat_le first k && nat_lt k (first + many)) 0 (slice_index d.counts k)) → counters_of e ≡ with_frame (counters_of now) index (cleared (frame_in now index))
cleared_now {d} {now} same e index first many after rules counts noticed first_is many_is zero_there =
    cleared_counters now e index (rules ∙ ap (λ d. d.rules) same) (noticed ∙ ap (λ d. d.noticed) same)
    (λ k. rw counts (zero_there k ∙ ap (λ d. cond (nat_le first k && nat_lt k (first + many)) 0 (slice_index d.counts k)) same ∙ ap₂ (λ f m. cond (nat_le f k && nat_lt k (f + m)) 0 (slice_index now.counts k)) first_is many_is))
