-- What is read of the counters, and that counters stay counters.
use Rattle.std.proofs.Common.{◌≡◌, ℕ, ◌+◌, ◌*◌, ◌<◌, ◌≤◌, Bool, false, cond, ◌&&◌, List, length, get_or, replicate, sym, ◌∙◌, ap, ap₂, subst, arith, inl, inr}
use Rattle.std.proofs.Math.ListN.{set}
use Rattle.std.proofs.lemmas.List.{get_or_read, get_or-set_same, get_or-set_other, get_or-replicate, get_or_past, length-set, length-replicate}
use Rattle.std.proofs.lemmas.Bool.{cases_eq, cases_lt}
use Rattle.std.specs.Prelude.{nat_le, nat_lt, slice_index, slice_index_or}
use Rattle.std.proofs.Math.Path.{fun_ext}
use Rattle.og_counters.specs.declared.CountRules.{CountRules}
use Rattle.og_counters.specs.Counts.{CountersState, with_value, sum_of, no_counts}
use Rattle.og_counters.specs.Kept.{KeptCounts, AreCounters, count_in, frame_in, counters_of}
use Rattle.og_counters.proofs.Sums.{sum_of-same, sum_of-raised, sum_of-zeros, count-sum}
use Rattle.og_counters.proofs.Changes.{count_in-inside, count_in-past, same_frame, written_counts, written_other_frame, zeroed, not_zeroed}

-- ------------------------------------------------------------ what is read

pub read_count : {d now : KeptCounts} → d ≡ now → (index p k x : ℕ) → k ≡ index * now.rules.nodes + p → p < now.rules.nodes → k < length now.counts → x ≡ slice_index_or d.counts k x → x ≡ (frame_in now index).count p
unfolding frame_in
read_count {d} {now} same index p k x place low inside read =
    let there : x ≡ slice_index_or now.counts k x = read ∙ ap (λ e. slice_index_or e.counts k x) same in
    get_or_read now.counts k x inside there 0 ∙ ap (λ i. slice_index now.counts i) place ∙ sym (count_in-inside now.rules.nodes now.counts index p low)

pub read_mark : {d now : KeptCounts} → d ≡ now → (index k : ℕ) (x : Bool) → k ≡ index → k < length now.noticed → x ≡ slice_index_or d.noticed k x → x ≡ (frame_in now index).noticed
unfolding frame_in
read_mark {d} {now} same index k x place inside read =
    let there : x ≡ slice_index_or now.noticed k x = read ∙ ap (λ e. slice_index_or e.noticed k x) same in
    get_or_read now.noticed k x inside there false ∙ ap (λ i. slice_index_or now.noticed i false) place

pub read_sum : {d now : KeptCounts} → d ≡ now → AreCounters now → (index k x : ℕ) → k ≡ index → k < length now.sums → x ≡ slice_index_or d.sums k x → x ≡ sum_of now.rules.nodes (frame_in now index).count
unfolding frame_in
read_sum {d} {now} same sound index k x place inside read =
    let there : x ≡ slice_index_or now.sums k x = read ∙ ap (λ e. slice_index_or e.sums k x) same in
    get_or_read now.sums k x inside there 0 ∙ ap (λ i. slice_index now.sums i) place ∙ sound.sums_are index

pub count_is_low : (d : KeptCounts) → AreCounters d → (index p : ℕ) → p < d.rules.nodes → (frame_in d index).count p < 1000000
unfolding frame_in
count_is_low d sound index p low =
    let most : count_in d.rules.nodes d.counts index p ≤ sum_of d.rules.nodes (count_in d.rules.nodes d.counts index) = count-sum d.rules.nodes p (count_in d.rules.nodes d.counts index) low in
    let is : slice_index d.sums index ≡ sum_of d.rules.nodes (count_in d.rules.nodes d.counts index) = sound.sums_are index in
    let below : slice_index d.sums index < d.rules.reset = sound.sums_are_low index in
    let reset : d.rules.reset ≤ 1000000 = sound.reset_in_range in
    omega arith

-- ------------------------------------------------------------ counters stay counters

-- where the counts of one frame change with their sum
pub kept-changed : (d e : KeptCounts) (index w : ℕ) → AreCounters d → e.rules ≡ d.rules → length e.counts ≡ length d.counts → e.sums ≡ set d.sums index w → e.noticed ≡ d.noticed → index < d.rules.frames → w < d.rules.reset
    → w ≡ sum_of d.rules.nodes (count_in d.rules.nodes e.counts index) → ((j node : ℕ) → (j ≡ index → ⊥) → count_in d.rules.nodes e.counts j node ≡ count_in d.rules.nodes d.counts j node) → AreCounters e
kept-changed d e index w sound rules counts sums noticed inside low here there = record {
  home_is_node = rw rules sound.home_is_node;
  trigger_is_some = rw rules sound.trigger_is_some;
  trigger_in_range = rw rules sound.trigger_in_range;
  reset_is_some = rw rules sound.reset_is_some;
  reset_in_range = rw rules sound.reset_in_range;
  all_counts = rw (rules, counts) sound.all_counts;
  all_sums = rw (rules, sums) (length-set d.sums index w ∙ sound.all_sums);
  all_noticed = rw (rules, noticed) sound.all_noticed;
  sums_are = λ j. rw (rules, sums) (each j);
  sums_are_low = λ j. rw (rules, sums) (each_low j);
}
  where
    room : index < length d.sums
    room = rw sound.all_sums inside

    each : (j : ℕ) → slice_index (set d.sums index w) j ≡ sum_of d.rules.nodes (count_in d.rules.nodes e.counts j)
    each j = elim (cases_eq j index) [
      | inl same ↦ rw same (get_or-set_same d.sums index w 0 room ∙ here)
      | inr other ↦ get_or-set_other d.sums index j w 0 other ∙ sound.sums_are j ∙ sum_of-same d.rules.nodes (count_in d.rules.nodes d.counts j) (count_in d.rules.nodes e.counts j) (λ node below. sym (there j node other))
    ]

    each_low : (j : ℕ) → slice_index (set d.sums index w) j < d.rules.reset
    each_low j = elim (cases_eq j index) [
      | inl same ↦ rw (same, get_or-set_same d.sums index w 0 room) low
      | inr other ↦ rw (get_or-set_other d.sums index j w 0 other) (sound.sums_are_low j)
    ]

pub kept-raised : {d now : KeptCounts} → d ≡ now → AreCounters now → (e : KeptCounts) (index p k m v w : ℕ) → e.rules ≡ d.rules → e.counts ≡ set d.counts k v → e.sums ≡ set d.sums m w → e.noticed ≡ d.noticed
    → k ≡ index * now.rules.nodes + p → m ≡ index → index < now.rules.frames → p < now.rules.nodes → k < length now.counts → v ≡ (frame_in now index).count p + 1 → w ≡ sum_of now.rules.nodes (frame_in now index).count + 1 → w < now.rules.reset → AreCounters e
unfolding frame_in
kept-raised {d} {now} same sound e index p k m v w rules counts sums noticed place frame inside low room value sum_value sum_low =
    let counts_are : e.counts ≡ set now.counts (index * now.rules.nodes + p) v = counts ∙ ap (λ d. set d.counts k v) same ∙ ap (λ i. set now.counts i v) place in
    let room_is : index * now.rules.nodes + p < length now.counts = subst (λ i. i < length now.counts) place room in
    let raised : sum_of now.rules.nodes (count_in now.rules.nodes e.counts index) ≡ sum_of now.rules.nodes (count_in now.rules.nodes now.counts index) + 1 =
    sum_of-same now.rules.nodes (count_in now.rules.nodes e.counts index) (with_value (count_in now.rules.nodes now.counts index) p (count_in now.rules.nodes now.counts index p + 1))
    (λ node below. rw (counts_are, ← value) (written_counts now.rules.nodes now.counts index p v low room_is node))
    ∙ sum_of-raised now.rules.nodes p (count_in now.rules.nodes now.counts index) low in
    kept-changed now e index w sound (rules ∙ ap (λ d. d.rules) same) (ap length counts_are ∙ length-set now.counts (index * now.rules.nodes + p) v)
    (sums ∙ ap (λ d. set d.sums m w) same ∙ ap (λ i. set now.sums i w) frame) (noticed ∙ ap (λ d. d.noticed) same) inside sum_low (sum_value ∙ sym raised)
    (λ j node other. rw counts_are (written_other_frame now.rules.nodes now.counts index p v low room_is j node other))

pub kept-cleared : {d now : KeptCounts} → d ≡ now → AreCounters now → (e : KeptCounts) (index m first many : ℕ) (after : List ℕ) → e.rules ≡ d.rules → e.counts ≡ after → e.sums ≡ set d.sums m 0 → e.noticed ≡ d.noticed
    → length after ≡ length d.counts → m ≡ index → first ≡ index * now.rules.nodes → many ≡ now.rules.nodes → index < now.rules.frames
    → ((k : ℕ) → slice_index after k ≡ cond (nat_le first k && nat_lt k (first + many)) 0 (slice_index d.counts k)) → AreCounters e
kept-cleared {d} {now} same sound e index m first many after rules counts sums noticed long frame first_is many_is inside zero_there =
    let zero_is : (k : ℕ) → slice_index e.counts k ≡ cond (nat_le (index * now.rules.nodes) k && nat_lt k (index * now.rules.nodes + now.rules.nodes)) 0 (slice_index now.counts k) =
    λ k. rw counts (zero_there k ∙ ap (λ d. cond (nat_le first k && nat_lt k (first + many)) 0 (slice_index d.counts k)) same ∙ ap₂ (λ f m. cond (nat_le f k && nat_lt k (f + m)) 0 (slice_index now.counts k)) first_is many_is) in
    let some : 1 ≤ now.rules.reset = sound.reset_is_some in
    kept-changed now e index 0 sound (rules ∙ ap (λ d. d.rules) same) (ap length counts ∙ long ∙ ap (λ d. length d.counts) same)
    (sums ∙ ap (λ d. set d.sums m 0) same ∙ ap (λ i. set now.sums i 0) frame) (noticed ∙ ap (λ d. d.noticed) same) inside (omega arith)
    (sym (sum_of-same now.rules.nodes (count_in now.rules.nodes e.counts index) (λ node. 0) (λ node below. zeroed now.rules.nodes now.counts e.counts index zero_is node) ∙ sum_of-zeros now.rules.nodes))
    (λ j node other. not_zeroed now.rules.nodes now.counts e.counts index zero_is j node other)

-- ------------------------------------------------------------ new counters

get-replicate : {X : Type 0} (n k : ℕ) (x : X) → get_or (replicate n x) k x ≡ x
get-replicate n k x = elim (cases_lt k n) [ inl inside ↦ get_or-replicate n k x x inside | inr past ↦ get_or_past (replicate n x) k x (rw length-replicate past) ]

abbrev pub blank : CountRules → KeptCounts
blank rules = record { rules = rules; counts = replicate (rules.frames * rules.nodes) 0; sums = replicate rules.frames 0; noticed = replicate rules.frames false }

blank_count : (rules : CountRules) (j node : ℕ) → count_in rules.nodes (blank rules).counts j node ≡ 0
blank_count rules j node = elim (cases_lt node rules.nodes) [
  | inl inside ↦ count_in-inside rules.nodes (blank rules).counts j node inside ∙ get-replicate {X = ℕ} (rules.frames * rules.nodes) (j * rules.nodes + node) 0
  | inr past ↦ count_in-past rules.nodes (blank rules).counts j node past
]

pub blank_is_new : (rules : CountRules) → counters_of (blank rules) ≡ record { rules = rules; frame = λ index. no_counts }
unfolding frame_in
blank_is_new rules =
    ap (λ f. let s : CountersState = record { rules = rules; frame = f } in s)
    (fun_ext (λ j. same_frame (frame_in (blank rules) j) no_counts (blank_count rules j) (get-replicate rules.frames j false)))

pub blank-sound : (rules : CountRules) → rules.home < rules.nodes → 1 ≤ rules.trigger → rules.trigger ≤ 1000000 → 1 ≤ rules.reset → rules.reset ≤ 1000000 → AreCounters (blank rules)
blank-sound rules home trigger trigger_low reset reset_low = record {
  home_is_node = home;
  trigger_is_some = trigger;
  trigger_in_range = trigger_low;
  reset_is_some = reset;
  reset_in_range = reset_low;
  all_counts = length-replicate (rules.frames * rules.nodes) 0;
  all_sums = length-replicate rules.frames 0;
  all_noticed = length-replicate rules.frames false;
  sums_are = λ j. get-replicate {X = ℕ} rules.frames j 0 ∙ sym (sum_of-same rules.nodes (count_in rules.nodes (blank rules).counts j) (λ node. 0) (λ node below. blank_count rules j node) ∙ sum_of-zeros rules.nodes);
  sums_are_low = λ j. (let zero : slice_index (replicate rules.frames 0) j ≡ 0 = get-replicate {X = ℕ} rules.frames j 0 in omega arith);
}
