-- What a home is after blocks or counters have changed.
use Rattle.std.proofs.Common.{◌≡◌, ℕ, ◌+◌, ◌*◌, ◌<◌, ◌≤◌, Bool, true, false, cond, ◌&&◌, List, length, refl, sym, ◌∙◌, ap, ap₂, subst, arith, inl, inr, ◌⊎◌}
use Rattle.std.proofs.Math.Path.{fun_ext}
use Rattle.std.proofs.Math.ListN.{set}
use Rattle.std.proofs.lemmas.List.{get_or_read, get_or-set_same, get_or-set_other, length-set}
use Rattle.std.proofs.lemmas.Bool.{cases_eq, cases_lt, eq-eqb, ne_eqb, lt-ltb, le-ltb, le-leb, lt-leb}
use Rattle.std.specs.Prelude.{nat_eq, nat_lt, nat_le, slice_index_or}
use Rattle.og_line.specs.declared.Line.{Line}
use Rattle.og_line.specs.Line.{zero_line}
use Rattle.og_directory.specs.declared.entry.State.{State}
use Rattle.og_directory.specs.declared.entry.State.TheVariants.{Unowned}
use Rattle.og_directory.specs.Table.{NamesNodes}
use Rattle.og_counters.specs.Counts.{CountersState, with_value}
use Rattle.og_counters.specs.Kept.{counters_of}
use Rattle.og_home.specs.Home.{HomeState, with_pair, with_block, with_counters, with_clean_frame}
use Rattle.og_home.specs.Kept.{KeptHome, IsHome, block_in, home_of}

-- ------------------------------------------------------------ functions of two numbers

pub pair_here : {X : Type 0} (f : ℕ → ℕ → X) (i k : ℕ) (x : X) → with_pair f i k x i k ≡ x
pair_here f i k x = ap (λ test. cond test x (f i k)) (ap₂ (λ a b. a && b) (eq-eqb i i refl) (eq-eqb k k refl))

pub pair_other_index : {X : Type 0} (f : ℕ → ℕ → X) (i k j l : ℕ) (x : X) → (j ≡ i → ⊥) → with_pair f i k x j l ≡ f j l
pair_other_index f i k j l x other = ap (λ test. cond (test && nat_eq l k) x (f j l)) (ne_eqb j i other)

pub pair_other_number : {X : Type 0} (f : ℕ → ℕ → X) (i k j l : ℕ) (x : X) → (l ≡ k → ⊥) → with_pair f i k x j l ≡ f j l
pair_other_number f i k j l x other = ap (λ test. cond test x (f j l)) (ap (λ b. nat_eq j i && b) (ne_eqb l k other) ∙ never (nat_eq j i))
  where
    never : (a : Bool) → (a && false) ≡ false
    never true = refl
    never false = refl

-- ------------------------------------------------------------ rows of blocks

module _ {X : Type 0} (none : X) where
  pub block_in-inside : (row : List X) (i k : ℕ) → k < 32 → block_in row none i k ≡ slice_index_or row (i * 32 + k) none
  unfolding block_in
  block_in-inside row i k inside = rw (lt-ltb k 32 inside) refl

  pub block_in-past : (row : List X) (i k : ℕ) → 32 ≤ k → block_in row none i k ≡ none
  unfolding block_in
  block_in-past row i k past = rw (le-ltb k 32 past) refl

  -- what is read at a block's place
  pub block_read : (row : List X) (i k p : ℕ) (x : X) → p ≡ i * 32 + k → k < 32 → p < length row → x ≡ slice_index_or row p x → x ≡ block_in row none i k
  block_read row i k p x place inside room read = get_or_read row p x room read none ∙ ap (λ n. slice_index_or row n none) place ∙ sym (block_in-inside row i k inside)

  -- one block is written
  pub block_written : (row : List X) (i k p : ℕ) (x : X) → p ≡ i * 32 + k → k < 32 → p < length row → (j l : ℕ) → block_in (set row p x) none j l ≡ with_pair (block_in row none) i k x j l
  block_written row i k p x place inside room j l = elim (cases_lt l 32) [ inl low ↦ by_place low (cases_eq j i) (cases_eq l k) | inr past ↦ block_in-past (set row p x) j l past ∙ sym (block_in-past row j l past) ∙ sym (pair_other_number (block_in row none) i k j l x (λ e. absurd (omega arith))) ]
    where
      elsewhere : l < 32 → (j * 32 + l ≡ p → ⊥) → block_in (set row p x) none j l ≡ block_in row none j l
      elsewhere low other = block_in-inside (set row p x) j l low ∙ get_or-set_other row p (j * 32 + l) x none other ∙ sym (block_in-inside row j l low)

      by_place : l < 32 → ((j ≡ i) ⊎ (j ≡ i → ⊥)) → ((l ≡ k) ⊎ (l ≡ k → ⊥)) → block_in (set row p x) none j l ≡ with_pair (block_in row none) i k x j l
      by_place low (inl same) (inl also) = rw (same, also) (block_in-inside (set row p x) i k inside ∙ ap (λ n. slice_index_or (set row p x) n none) (sym place) ∙ get_or-set_same row p x none room ∙ sym (pair_here (block_in row none) i k x))
      by_place low (inl same) (inr other) = elsewhere low (λ e. other (omega arith)) ∙ sym (pair_other_number (block_in row none) i k j l x other)
      by_place low (inr other) any = elsewhere low (λ e. other (omega arith)) ∙ sym (pair_other_index (block_in row none) i k j l x other)

  -- all blocks of a frame are written
  pub frame_written : (row after : List X) (i first many : ℕ) → first ≡ i * 32 → many ≡ 32 → ((k : ℕ) → slice_index_or after k none ≡ cond (nat_le first k && nat_lt k (first + many)) none (slice_index_or row k none)) → (j l : ℕ) → block_in after none j l ≡ with_value (block_in row none) i (λ number. none) j l
  frame_written row after i first many first_is many_is written j l = elim (cases_lt l 32) [ inl low ↦ by_frame low (cases_eq j i) | inr past ↦ block_in-past after j l past ∙ past_is past (cases_eq j i) ]
    where
      here : j ≡ i → with_value (block_in row none) i (λ number. none) j l ≡ none
      here same = ap (λ test. cond {A = ℕ → X} test (λ number. none) (block_in row none j) l) (eq-eqb j i same)

      there : (j ≡ i → ⊥) → with_value (block_in row none) i (λ number. none) j l ≡ block_in row none j l
      there other = ap (λ test. cond {A = ℕ → X} test (λ number. none) (block_in row none j) l) (ne_eqb j i other)

      past_is : 32 ≤ l → ((j ≡ i) ⊎ (j ≡ i → ⊥)) → none ≡ with_value (block_in row none) i (λ number. none) j l
      past_is past (inl same) = sym (here same)
      past_is past (inr other) = sym (there other ∙ block_in-past row j l past)

      inside_test : l < 32 → j ≡ i → (nat_le first (j * 32 + l) && nat_lt (j * 32 + l) (first + many)) ≡ true
      inside_test low same = rw (le-leb first (j * 32 + l) (omega arith), lt-ltb (j * 32 + l) (first + many) (omega arith)) refl

      outside_test : l < 32 → ((j * 32 + l < first) ⊎ (first + many ≤ j * 32 + l)) → (nat_le first (j * 32 + l) && nat_lt (j * 32 + l) (first + many)) ≡ false
      outside_test low (inl before) = rw (lt-leb first (j * 32 + l) before) refl
      outside_test low (inr past) = rw (le-leb first (j * 32 + l) (omega arith), le-ltb (j * 32 + l) (first + many) past) refl

      outside : l < 32 → (j ≡ i → ⊥) → (j * 32 + l < first) ⊎ (first + many ≤ j * 32 + l)
      outside low other = elim (cases_lt (j * 32 + l) first) [ inl before ↦ inl before | inr after_first ↦ inr (omega arith) ]

      by_frame : l < 32 → ((j ≡ i) ⊎ (j ≡ i → ⊥)) → block_in after none j l ≡ with_value (block_in row none) i (λ number. none) j l
      by_frame low (inl same) = block_in-inside after j l low ∙ written (j * 32 + l) ∙ ap (λ test. cond test none (slice_index_or row (j * 32 + l) none)) (inside_test low same) ∙ sym (here same)
      by_frame low (inr other) = block_in-inside after j l low ∙ written (j * 32 + l) ∙ ap (λ test. cond test none (slice_index_or row (j * 32 + l) none)) (outside_test low (outside low other)) ∙ sym (block_in-inside row j l low) ∙ sym (there other)

-- ------------------------------------------------------------ homes

-- a home by its parts
pub same_home : (e : KeptHome) (h : HomeState) → (counters_of e.counters).rules ≡ h.rules → ((j l : ℕ) → block_in e.entries Unowned j l ≡ h.entry j l) → ((j l : ℕ) → block_in e.lines zero_line j l ≡ h.line j l) → (counters_of e.counters).frame ≡ h.counts → home_of e ≡ h
same_home e h rules entries lines counts =
    ap₂ (λ r f. let s : HomeState = record { rules = r; entry = f; line = block_in e.lines zero_line; counts = (counters_of e.counters).frame } in s) rules (fun_ext (λ j. fun_ext (entries j)))
    ∙ ap₂ (λ f c. let s : HomeState = record { rules = h.rules; entry = h.entry; line = f; counts = c } in s) (fun_ext (λ j. fun_ext (lines j))) counts

pub home_written : {d now : KeptHome} → d ≡ now → (e : KeptHome) (i k p q : ℕ) (x : State) (m : Line) → e.counters ≡ d.counters → e.entries ≡ set d.entries p x → e.lines ≡ set d.lines q m → p ≡ i * 32 + k → q ≡ i * 32 + k → k < 32 → p < length now.entries → q < length now.lines
    → home_of e ≡ with_block (home_of now) i k x m
home_written {d} {now} same e i k p q x m counters entries lines p_is q_is inside room also_room =
    same_home e (with_block (home_of now) i k x m) (ap (λ c. (counters_of c).rules) (counters ∙ ap (λ d. d.counters) same))
    (λ j l. ap (λ xs. block_in xs Unowned j l) (entries ∙ ap (λ d. set d.entries p x) same) ∙ block_written Unowned now.entries i k p x p_is inside room j l)
    (λ j l. ap (λ xs. block_in xs zero_line j l) (lines ∙ ap (λ d. set d.lines q m) same) ∙ block_written zero_line now.lines i k q m q_is inside also_room j l)
    (ap (λ c. (counters_of c).frame) (counters ∙ ap (λ d. d.counters) same))

pub home_counted : {d now : KeptHome} → d ≡ now → (e : KeptHome) (s : CountersState) → counters_of e.counters ≡ s → e.entries ≡ d.entries → e.lines ≡ d.lines → home_of e ≡ with_counters (home_of now) s
home_counted {d} {now} same e s counters entries lines =
    same_home e (with_counters (home_of now) s) (ap (λ c. c.rules) counters)
    (λ j l. ap (λ xs. block_in xs Unowned j l) (entries ∙ ap (λ d. d.entries) same))
    (λ j l. ap (λ xs. block_in xs zero_line j l) (lines ∙ ap (λ d. d.lines) same))
    (ap (λ c. c.frame) counters)

pub home_cleaned : {d now : KeptHome} → d ≡ now → (e : KeptHome) (s : CountersState) (after : List State) (i first many : ℕ) → counters_of e.counters ≡ s → e.entries ≡ after → e.lines ≡ d.lines → first ≡ i * 32 → many ≡ 32
    → ((k : ℕ) → slice_index_or after k Unowned ≡ cond (nat_le first k && nat_lt k (first + many)) Unowned (slice_index_or d.entries k Unowned)) → home_of e ≡ with_counters (with_clean_frame (home_of now) i) s
home_cleaned {d} {now} same e s after i first many counters entries lines first_is many_is written =
    same_home e (with_counters (with_clean_frame (home_of now) i) s) (ap (λ c. c.rules) counters)
    (λ j l. ap (λ xs. block_in xs Unowned j l) entries ∙ frame_written Unowned now.entries after i first many first_is many_is (λ k. written k ∙ ap (λ d. cond (nat_le first k && nat_lt k (first + many)) Unowned (slice_index_or d.entries k Unowned)) same) j l)
    (λ j l. ap (λ xs. block_in xs zero_line j l) (lines ∙ ap (λ d. d.lines) same))
    (ap (λ c. c.frame) counters)

-- ------------------------------------------------------------ homes stay homes

pub kept-written : {d now : KeptHome} → d ≡ now → IsHome now → (e : KeptHome) (i k p q : ℕ) (x : State) (m : Line) → e.counters ≡ d.counters → e.entries ≡ set d.entries p x → e.lines ≡ set d.lines q m → p ≡ i * 32 + k → k < 32 → p < length now.entries
    → NamesNodes now.counters.rules.nodes x → IsHome e
kept-written {d} {now} same sound e i k p q x m counters entries lines p_is inside room named = record {
  few_nodes = rw counters_are sound.few_nodes;
  all_entries = rw (counters_are, entries_are) (length-set now.entries p x ∙ sound.all_entries);
  all_lines = rw (counters_are, lines_are) (length-set now.lines q m ∙ sound.all_lines);
  names = λ j l. subst (λ c. NamesNodes c.rules.nodes (block_in e.entries Unowned j l)) (sym counters_are) (subst (λ s. NamesNodes now.counters.rules.nodes s) (sym (each j l)) (name j l));
}
  where
    counters_are : e.counters ≡ now.counters
    counters_are = counters ∙ ap (λ d. d.counters) same

    entries_are : e.entries ≡ set now.entries p x
    entries_are = entries ∙ ap (λ d. set d.entries p x) same

    lines_are : e.lines ≡ set now.lines q m
    lines_are = lines ∙ ap (λ d. set d.lines q m) same

    each : (j l : ℕ) → block_in e.entries Unowned j l ≡ with_pair (block_in now.entries Unowned) i k x j l
    each j l = ap (λ xs. block_in xs Unowned j l) entries_are ∙ block_written Unowned now.entries i k p x p_is inside room j l

    by_test : (j l : ℕ) (test : Bool) → NamesNodes now.counters.rules.nodes (cond test x (block_in now.entries Unowned j l))
    by_test j l true = named
    by_test j l false = sound.names j l

    name : (j l : ℕ) → NamesNodes now.counters.rules.nodes (with_pair (block_in now.entries Unowned) i k x j l)
    name j l = by_test j l (nat_eq j i && nat_eq l k)

pub kept-counted : {d now : KeptHome} → d ≡ now → IsHome now → (e : KeptHome) → e.counters.rules ≡ now.counters.rules → e.entries ≡ d.entries → e.lines ≡ d.lines → IsHome e
kept-counted {d} {now} same sound e rules entries lines = record {
  few_nodes = rw rules sound.few_nodes;
  all_entries = rw (rules, entries ∙ ap (λ d. d.entries) same) sound.all_entries;
  all_lines = rw (rules, lines ∙ ap (λ d. d.lines) same) sound.all_lines;
  names = λ j l. subst (λ r. NamesNodes r.nodes (block_in e.entries Unowned j l)) (sym rules) (subst (λ xs. NamesNodes now.counters.rules.nodes (block_in xs Unowned j l)) (sym (entries ∙ ap (λ d. d.entries) same)) (sound.names j l));
}

pub kept-cleaned : {d now : KeptHome} → d ≡ now → IsHome now → (e : KeptHome) (after : List State) (i first many : ℕ) → e.counters.rules ≡ now.counters.rules → e.entries ≡ after → e.lines ≡ d.lines → length after ≡ length d.entries → first ≡ i * 32 → many ≡ 32
    → ((k : ℕ) → slice_index_or after k Unowned ≡ cond (nat_le first k && nat_lt k (first + many)) Unowned (slice_index_or d.entries k Unowned)) → IsHome e
kept-cleaned {d} {now} same sound e after i first many rules entries lines long first_is many_is written = record {
  few_nodes = rw rules sound.few_nodes;
  all_entries = rw (rules, entries) (long ∙ ap (λ d. length d.entries) same ∙ sound.all_entries);
  all_lines = rw (rules, lines ∙ ap (λ d. d.lines) same) sound.all_lines;
  names = λ j l. subst (λ r. NamesNodes r.nodes (block_in e.entries Unowned j l)) (sym rules) (subst (λ s. NamesNodes now.counters.rules.nodes s) (sym (each j l)) (by_test j l (nat_eq j i)));
}
  where
    each : (j l : ℕ) → block_in e.entries Unowned j l ≡ with_value (block_in now.entries Unowned) i (λ number. Unowned) j l
    each j l = ap (λ xs. block_in xs Unowned j l) entries ∙ frame_written Unowned now.entries after i first many first_is many_is (λ k. written k ∙ ap (λ d. cond (nat_le first k && nat_lt k (first + many)) Unowned (slice_index_or d.entries k Unowned)) same) j l

    by_test : (j l : ℕ) (test : Bool) → NamesNodes now.counters.rules.nodes (cond {A = ℕ → State} test (λ number. Unowned) (block_in now.entries Unowned j) l)
    by_test j l true = tt
    by_test j l false = sound.names j l
