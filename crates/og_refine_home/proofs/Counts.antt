-- The count of a request with its notice, the reset of a frame's counters and the cleaning of a frame are seen as those of the machine of
-- functions; and the same requests count.
use Rattle.std.proofs.Common.{◌≡◌, ◌≢◌, ℕ, zero, suc, ◌%◌, ◌<◌, Bool, true, false, cond, not, nat_eq, nat_le, nat_lt, ◌&&◌, ◌||◌, [], ◌∷◌, ◌++◌, length, Option, None, Some, option_map, refl, sym, ap, ap₂, ◌∙◌}
use Rattle.std.specs.Prelude.{IfSome}
use Rattle.std.specs.List.{list_any}
use Rattle.std.proofs.lemmas.Bool.{lt-ltb}
use Rattle.std.proofs.lemmas.List.{map-append}
use Rattle.og_base.specs.declared.Block.{Block}
use Rattle.og_base.specs.declared.Frame.{Frame}
use Rattle.og_base.specs.declared.Hot.{Hot as Notice}
use Rattle.og_base.specs.Groups.{group_size}
use Rattle.og_line.specs.declared.Line.{Line}
use Rattle.og_msg.specs.declared.Kind.{Kind}
use Rattle.og_msg.specs.declared.Kind.TheVariants.{Read, ReadEx, Upgrade, Nak, UpgradeReply, ExclusiveReply, InterveneShared, InterveneEx, SpecReply}
use Rattle.og_pages.specs.State.{put}
use Rattle.og_counters.specs.declared.CountRules.{CountRules}
use Rattle.og_counters.specs.Counts.{FrameCounts, with_value, no_counts, counted, is_due, hot, marked, cleared, sum_of, notice_of, counts_after}
use Rattle.og_directory.specs.declared.entry.State.{State}
use Rattle.og_directory.specs.declared.entry.State.TheVariants.{Unowned, Shared, Exclusive, BusyShared, BusyExclusive, BusyPoison, Poison}
use Rattle.og_directory.specs.Table.{Row, row, to, is_counted, is_refusal, is_sharer, sharers_but, invalidating, grant, read_row, read_exclusive_row, upgrade_row}
use Rattle.og_directory.proofs.Letters.{is_refusal-invalidating}
use Rattle.og_home.specs.Home.{HomeState, Served, with_block, by_row, counters_in, with_clean_frame, notice_letters, count_request, rearm, clean_frame, and_then_if, is_poison, are_poisoned}
use Rattle.og_relate.specs.Data.{HomeEntry, HUnowned, KFrameClean, KHot, HomeSide}
use Rattle.og_relate.specs.Steps.{Answer, letter, notice, cleaned, counts_at, and_then, serve_read, serve_read_exclusive, take_read, take_read_exclusive}
use Rattle.og_relate_home.specs.Steps.{upgrade_counts, counted_upgrade, serve_upgrade, take_upgrade, is_poisoned, are_poisoned as are_seen_poisoned, rearm as seen_rearm}
use Rattle.og_seen.specs.Numbers.{Sizes, setup_seen, frame_number}
use Rattle.og_seen.specs.Messages.{letter_seen, letters_seen}
use Rattle.og_seen.specs.Homes.{entry_seen, is_at, home_seen, notice_seen, hot_seen}
use Rattle.og_refine_home.proofs.Places.{same_side, put_same, written_frame, IsAt, same_number, other_number, entry_here, noticed_here}
use Rattle.og_refine_home.proofs.Requests.{answer, same_answer, seen_of, row_seen, read_seen, read_exclusive_seen, upgrade_seen}

-- ---- the counters of a frame

-- a notice stays open, and one is opened where it is due
noticed_after : (rules : CountRules) (c : FrameCounts) (q : ℕ) → (counts_after rules c q).noticed ≡ (c.noticed || is_due rules (counted c q) q)
noticed_after rules c q = by (nat_le rules.reset (sum_of rules.nodes (marked rules (counted c q) q).count))
  where
    by : (t : Bool) → (cond t (cleared (marked rules (counted c q) q)) (marked rules (counted c q) q)).noticed ≡ (c.noticed || is_due rules (counted c q) q)
    by true = refl
    by false = refl

module _ (s : Sizes) (x : HomeState) (frame : Frame) (own : IsAt s x frame) where
  -- other counts
  counts_seen : (c : FrameCounts) → home_seen s (record x { counts = with_value x.counts frame.index c }) ≡ record (home_seen s x) { noticed = put (home_seen s x).noticed (frame_number s frame) c.noticed }
  counts_seen c =
      same_side (home_seen s (record x { counts = with_value x.counts frame.index c })) (record (home_seen s x) { noticed = put (home_seen s x).noticed (frame_number s frame) c.noticed })
      (λ g k. refl) (λ g k. refl)
      (λ g. written_frame (λ (d : FrameCounts). d.noticed) false c (x.counts (g % s.frames)) (is_at s x g) (nat_eq (g % s.frames) frame.index) (nat_eq g (frame_number s frame)) (same_number s x frame own g) (other_number s x frame own g))

  -- with the same mark
  mark_same : (c : FrameCounts) → c.noticed ≡ (x.counts frame.index).noticed → home_seen s x ≡ home_seen s (record x { counts = with_value x.counts frame.index c })
  mark_same c same =
      same_side (home_seen s x) (record (home_seen s x) { noticed = put (home_seen s x).noticed (frame_number s frame) c.noticed }) (λ g k. refl) (λ g k. refl)
      (λ g. sym (put_same (home_seen s x).noticed (frame_number s frame) c.noticed (noticed_here s x frame own ∙ sym same) g))
      ∙ sym (counts_seen c)

  -- with the mark of no notice, or of one
  open_or : (b : Bool) → (b || false) ≡ b
  open_or true = refl
  open_or false = refl

  some_open : (b : Bool) → (b || true) ≡ true
  some_open true = refl
  some_open false = refl

  -- the home and the index of a frame are those of the home's counters
  own_frame : record { home = x.rules.home; index = frame.index } ≡ frame
  own_frame = ap (λ (h : ℕ). let f : Frame = record { home = h; index = frame.index } in f) (sym own.home)

  -- a counted request of q for a block of the frame, and its notice
  pub count_seen : (p q k : ℕ) → x.rules.nodes ≡ s.nodes →
      notice (setup_seen s) p (home_seen s x) (frame_number s frame) q (notice_seen (notice_of (counters_in x) frame.index q)) ≡ seen_of s p (count_request x (record { frame = frame; number = k }) q)
  unfolding count_request
  count_seen p q k nodes = by (is_due x.rules (counted (x.counts frame.index) q) q) refl
    where
      new : FrameCounts
      new = counts_after x.rules (x.counts frame.index) q

      due : Notice
      due = hot x.rules (counted (x.counts frame.index) q) frame.index q

      after : HomeState
      after = record x { counts = with_value x.counts frame.index new }

      by : (t : Bool) → is_due x.rules (counted (x.counts frame.index) q) q ≡ t →
          notice (setup_seen s) p (home_seen s x) (frame_number s frame) q (notice_seen (cond t (Some due) None)) ≡ answer (home_seen s after) (letters_seen s p (notice_letters x.rules.nodes (cond t (Some due) None)))
      by true is =
          same_answer
          (ap (λ b. record (home_seen s x) { noticed = put (home_seen s x).noticed (frame_number s frame) b }) (sym (noticed_after x.rules (x.counts frame.index) q ∙ ap (λ b. (x.counts frame.index).noticed || b) is ∙ some_open (x.counts frame.index).noticed)) ∙ sym (counts_seen new))
          (ap₂ (λ (n : ℕ) (f : Frame). letter p n (KHot (frame_number s f) q due.count due.most) ∷ []) (sym nodes) (sym own_frame))
      by false is = same_answer (mark_same new (noticed_after x.rules (x.counts frame.index) q ∙ ap (λ b. (x.counts frame.index).noticed || b) is ∙ open_or (x.counts frame.index).noticed)) refl

  -- a notice is due only where none is open
  pub due_quiet : (q : ℕ) → notice_seen (notice_of (counters_in x) frame.index q) ≢ None → (home_seen s x).noticed (frame_number s frame) ≡ false
  due_quiet q some = noticed_here s x frame own ∙ by (is_due x.rules (counted (x.counts frame.index) q) q) refl some
    where
      closed : (a b : Bool) → (not a && b) ≡ true → a ≡ false
      closed true b e = absurd (cc)
      closed false b e = refl

      by : (t : Bool) → is_due x.rules (counted (x.counts frame.index) q) q ≡ t → notice_seen (cond t (Some (hot x.rules (counted (x.counts frame.index) q) frame.index q)) None) ≢ None → (x.counts frame.index).noticed ≡ false
      by true due some = closed (x.counts frame.index).noticed _ due
      by false due some = absurd (some refl)

  -- the counters are reset
  pub rearm_seen : (p : ℕ) → answer (seen_rearm (home_seen s x) (frame_number s frame)) [] ≡ seen_of s p (rearm x frame)
  unfolding rearm
  rearm_seen p = same_answer (sym (counts_seen no_counts)) refl

  -- ---- the cleaning of a frame

  -- the same frames can be cleaned
  pub poisoned_seen : (n : ℕ) → are_seen_poisoned n ((home_seen s x).entry (frame_number s frame)) ≡ are_poisoned (x.entry frame.index) n
  unfolding are_poisoned
  poisoned_seen zero = refl
  poisoned_seen (suc n) = ap₂ (λ a b. a && b) (poisoned_seen n) (ap is_poisoned (entry_here s x frame own n) ∙ by (x.entry frame.index n))
    where
      by : (e : State) → is_poisoned (entry_seen s.nodes e) ≡ is_poison e
      by Unowned = refl
      by (Shared t) = refl
      by (Exclusive o) = refl
      by (BusyShared o r) = refl
      by (BusyExclusive o r t) = refl
      by (BusyPoison o) = refl
      by Poison = refl

  -- with all blocks of the frame unowned
  clean_entries : home_seen s (with_clean_frame x frame.index) ≡ record (home_seen s x) { entry = λ g k. cond (nat_eq g (frame_number s frame)) HUnowned ((home_seen s x).entry g k) }
  clean_entries =
      same_side (home_seen s (with_clean_frame x frame.index)) (record (home_seen s x) { entry = λ g k. cond (nat_eq g (frame_number s frame)) HUnowned ((home_seen s x).entry g k) })
      (λ g k. written_frame (λ (u : ℕ → State). entry_seen s.nodes (u k)) HUnowned (λ number. Unowned) (x.entry (g % s.frames)) (is_at s x g) (nat_eq (g % s.frames) frame.index) (nat_eq g (frame_number s frame)) (same_number s x frame own g) (other_number s x frame own g))
      (λ g k. refl) (λ g. refl)

module _ (s : Sizes) (x : HomeState) (frame : Frame) (own : IsAt s x frame) where
  -- the frame is the home's still
  clean_own : IsAt s (with_clean_frame x frame.index) frame
  clean_own = record { there = own.there; home = own.home }

  -- the blocks of the frame are unowned, its counters are reset, and the mover is told
  pub clean_seen : (p : ℕ) → x.rules.nodes ≡ s.nodes → answer (cleaned (home_seen s x) (frame_number s frame)) (letter p s.nodes (KFrameClean (frame_number s frame)) ∷ []) ≡ seen_of s p (clean_frame x frame)
  unfolding clean_frame rearm
  clean_seen p nodes =
      same_answer
      (sym (counts_seen s (with_clean_frame x frame.index) frame clean_own no_counts ∙ ap (λ (h : HomeSide Line). record h { noticed = put h.noticed (frame_number s frame) false }) (clean_entries s x frame own)))
      (ap (λ (n : ℕ). letter p n (KFrameClean (frame_number s frame)) ∷ []) (sym nodes))

-- ---- rows with the count

module _ (s : Sizes) (p : ℕ) (x : HomeState) (b : Block) (own : IsAt s x b.frame) (nodes : x.rules.nodes ≡ s.nodes) (q : ℕ) where
  -- what the counters say to a counted request of q
  abbrev hot_now : Option (ℕ × ℕ)
  hot_now = hot_seen x (Some b) q

  -- a row of a request, and then the count where it counts
  abbrev pub row_counted : Bool → Row → Served
  row_counted counts r = and_then_if counts (by_row x b (Some r)) (λ after. count_request after b q)

  -- and so does the machine of functions
  abbrev row_noticed : Bool → Answer Line → Answer Line
  row_noticed counts a = cond counts (and_then a (λ h. notice (setup_seen s) p h (frame_number s b.frame) q hot_now)) a

  -- both are one
  counted_seen : (r : Row) (counts : Bool) → row_noticed counts (row_seen s p x b r) ≡ seen_of s p (row_counted counts r)
  counted_seen r false = refl
  counted_seen r true =
      ap (λ (u : Answer Line). answer u.0 (letters_seen s p r.letters ++ u.1)) (count_seen s after b.frame (record { there = own.there; home = own.home }) p q b.number nodes)
      ∙ same_answer refl (sym (map-append (letter_seen s p) r.letters (count_request after b q).letters))
    where
      after : HomeState
      after = with_block x b.frame.index b.number r.entry r.line

  -- ---- the same requests count

  read_counts : (m : Line) (e : State) → counts_at (entry_seen s.nodes e) ≡ is_counted (Read b) (read_row s.nodes m q b e).letters
  read_counts m Unowned = refl
  read_counts m (Shared t) = refl
  read_counts m (Exclusive o) = by (nat_eq o q)
    where
      by : (t : Bool) → true ≡ is_counted (Read b) (cond t (row (Exclusive o) m (to q (ExclusiveReply b m 0) ∷ [])) (row (BusyShared o q) m (to o (InterveneShared b q) ∷ to q (SpecReply b m) ∷ []))).letters
      by true = refl
      by false = refl
  read_counts m (BusyShared o r) = refl
  read_counts m (BusyExclusive o r t) = refl
  read_counts m (BusyPoison o) = refl
  read_counts m Poison = refl

  read_exclusive_counts : (m : Line) (e : State) → counts_at (entry_seen s.nodes e) ≡ is_counted (ReadEx b) (read_exclusive_row s.nodes m q b e).letters
  read_exclusive_counts m Unowned = refl
  read_exclusive_counts m (Shared t) = sym (ap not (is_refusal-invalidating s.nodes b q t (λ k. ExclusiveReply b m k)))
  read_exclusive_counts m (Exclusive o) = by (nat_eq o q)
    where
      by : (t : Bool) → true ≡ is_counted (ReadEx b) (cond t (row (Exclusive o) m (to q (ExclusiveReply b m 0) ∷ [])) (row (BusyExclusive o q false) m (to o (InterveneEx b q) ∷ to q (SpecReply b m) ∷ []))).letters
      by true = refl
      by false = refl
  read_exclusive_counts m (BusyShared o r) = refl
  read_exclusive_counts m (BusyExclusive o r t) = refl
  read_exclusive_counts m (BusyPoison o) = refl
  read_exclusive_counts m Poison = refl

  -- a grant is no refusal
  grant_counts : (m : Line) (acks : ℕ) (one : Bool) → list_any is_refusal (to q (cond one (UpgradeReply b acks) (ExclusiveReply b m acks)) ∷ []) ≡ false
  grant_counts m acks true = refl
  grant_counts m acks false = refl

  upgrade_row_counts : (m : Line) → q < s.nodes → (e : State) → IfSome (upgrade_row s.nodes m q b e) (λ r. upgrade_counts (entry_seen s.nodes e) q ≡ is_counted (Upgrade b) r.letters)
  upgrade_row_counts m low Unowned = refl
  upgrade_row_counts m low (Shared t) = by (is_sharer s.nodes q t)
    where
      low_is : (u : Bool) → (nat_lt q s.nodes && u) ≡ u
      low_is u = ap (λ b. b && u) (lt-ltb q s.nodes low)

      by : (u : Bool) → IfSome (cond u (Some (row (Exclusive q) m (invalidating s.nodes b q t (grant s.nodes b m)))) (Some (row (Shared t) m (to q (Nak b) ∷ [])))) (λ r. (nat_lt q s.nodes && u) ≡ is_counted (Upgrade b) r.letters)
      by true = low_is true ∙ sym (ap not (is_refusal-invalidating s.nodes b q t (grant s.nodes b m) ∙ grant_counts m (length (sharers_but s.nodes q t)) (nat_eq (group_size s.nodes) 1)))
      by false = low_is false
  upgrade_row_counts m low (Exclusive o) = by (nat_eq o q)
    where
      by : (t : Bool) → IfSome (cond t None (Some (row (Exclusive o) m (to q (Nak b) ∷ [])))) (λ r. false ≡ is_counted (Upgrade b) r.letters)
      by true = tt
      by false = refl
  upgrade_row_counts m low (BusyShared o r) = refl
  upgrade_row_counts m low (BusyExclusive o r t) = refl
  upgrade_row_counts m low (BusyPoison o) = refl
  upgrade_row_counts m low Poison = refl

  -- ---- requests, whole

  abbrev block_line : Line
  block_line = x.line b.frame.index b.number

  abbrev block_entry : State
  block_entry = x.entry b.frame.index b.number

  -- the row of a message of this kind, and then the count where it is a request that counts
  abbrev pub served_row : Kind → Row → Answer Line
  served_row kind r = seen_of s p (row_counted (is_counted kind r.letters) r)

  pub take_read_seen : q < s.nodes → take_read (setup_seen s) p (home_seen s x) (frame_number s b.frame) b.number q hot_now ≡ served_row (Read b) (read_row s.nodes block_line q b block_entry)
  take_read_seen low =
      ap (λ (e : HomeEntry). row_noticed (counts_at e) (serve_read (setup_seen s) p (home_seen s x) (frame_number s b.frame) b.number q e)) (entry_here s x b.frame own b.number)
      ∙ ap₂ (λ (c : Bool) (a : Answer Line). row_noticed c a) (read_counts block_line block_entry) (read_seen s p x b own q low block_entry refl)
      ∙ counted_seen (read_row s.nodes block_line q b block_entry) _

  pub take_read_exclusive_seen : take_read_exclusive (setup_seen s) p (home_seen s x) (frame_number s b.frame) b.number q hot_now ≡ served_row (ReadEx b) (read_exclusive_row s.nodes block_line q b block_entry)
  take_read_exclusive_seen =
      ap (λ (e : HomeEntry). row_noticed (counts_at e) (serve_read_exclusive (setup_seen s) p (home_seen s x) (frame_number s b.frame) b.number q e)) (entry_here s x b.frame own b.number)
      ∙ ap₂ (λ (c : Bool) (a : Answer Line). row_noticed c a) (read_exclusive_counts block_line block_entry) (read_exclusive_seen s p x b own q block_entry refl)
      ∙ counted_seen (read_exclusive_row s.nodes block_line q b block_entry) _

  -- an upgrade's row, where there is one
  upgrade_counted : (e : HomeEntry) (o : Option Row) → IfSome o (λ r. upgrade_counts e q ≡ is_counted (Upgrade b) r.letters) →
      counted_upgrade (setup_seen s) p (frame_number s b.frame) q e hot_now (option_map (row_seen s p x b) o) ≡ option_map (served_row (Upgrade b)) o
  upgrade_counted e None counts = refl
  upgrade_counted e (Some r) counts = ap Some (ap (λ (c : Bool). row_noticed c (row_seen s p x b r)) counts ∙ counted_seen r (is_counted (Upgrade b) r.letters))

  pub take_upgrade_seen : q < s.nodes → take_upgrade (setup_seen s) p (home_seen s x) (frame_number s b.frame) b.number q hot_now ≡ option_map (served_row (Upgrade b)) (upgrade_row s.nodes block_line q b block_entry)
  take_upgrade_seen low =
      ap (λ (e : HomeEntry). counted_upgrade (setup_seen s) p (frame_number s b.frame) q e hot_now (serve_upgrade (setup_seen s) p (home_seen s x) (frame_number s b.frame) b.number q e)) (entry_here s x b.frame own b.number)
      ∙ ap (λ (o : Option (Answer Line)). counted_upgrade (setup_seen s) p (frame_number s b.frame) q (entry_seen s.nodes block_entry) hot_now o) (upgrade_seen s p x b own q low block_entry refl)
      ∙ upgrade_counted (entry_seen s.nodes block_entry) (upgrade_row s.nodes block_line q b block_entry) (upgrade_row_counts block_line low block_entry)
