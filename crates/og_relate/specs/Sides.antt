-- The places from which an event takes, and those that it writes; whose columns a row of a block changes.
use Rattle.std.specs.Prelude.{◌≡◌, ℕ, Bool, true, false, cond, nat_eq, ◌&&◌}
use Rattle.og_block.specs.Rows.{Row as BlockRow, actor_of, Read_unowned, Read_shared, Read_by_owner, Read_owned, Read_busy, Read_poison, Read_exclusive_unowned, Read_exclusive_shared, Read_exclusive_by_owner, Read_exclusive_owned, Read_exclusive_busy, Read_exclusive_poison, Upgrade_shared, Upgrade_grouped, Upgrade_refused, Upgrade_poison, Write_back_owner, Write_back_busy_shared, Write_back_busy_exclusive, Write_back_requester, Write_back_busy_poison, Revision_sharing_write_back, Revision_sharing_transfer, Revision_dirty_transfer, Revision_returned, Revision_poison_back, Revision_poison_clean, Poison_read_unowned, Poison_read_shared, Poison_read_owned, Poison_read_busy, Copy_in, Acknowledged}
use Rattle.og_pages.specs.State.{State as Pages}
use Rattle.og_pages.specs.Rows.{Row as PageRow, Walk_send, Walk_answer, Walk_refuse, Walk_fill, Walk_retry, Notice_send, Move_begin, Notice_refuse, Rearm_serve, Copy_send, Copy_next, Copy_last, Drop_send_all, Drop_answer, Drop_take, Clean_send, Clean_serve, Frame_free}
use Rattle.og_whole.specs.Kind.{Kind, Copies, Poisons, Collects, Ends, kind}
use Rattle.og_whole.specs.HomeEntry.{home_entry_at}
use Rattle.og_whole.specs.Events.{World, Event, Page, On}
use Rattle.og_block.specs.Slots.{Slots, writes}
use Rattle.og_block.specs.Slots.{takes}
use Rattle.og_relate.specs.Places.{Place, AskAt, ResponseAt, BackAt, RevisionAt, InterventionAt, InvalidationAt, CommandAt, WalkAt, DropAt, NoticeAt}

abbrev pub here : ℕ → ℕ → ℕ → ℕ → Bool
here f k g j = nat_eq g f && nat_eq j k

abbrev pub block_touched : ℕ → ℕ → Slots → Place → Bool
block_touched f k t (AskAt g j q) = cond (here f k g j) (t.ask q) false
block_touched f k t (ResponseAt g j q) = cond (here f k g j) (t.response q) false
block_touched f k t (BackAt g j q) = cond (here f k g j) (t.back q) false
block_touched f k t (RevisionAt g j) = cond (here f k g j) t.revision false
block_touched f k t (InterventionAt g j q) = cond (here f k g j) (t.intervention q) false
block_touched f k t (InvalidationAt g j q) = cond (here f k g j) (t.invalidation q) false
block_touched f k t p = false

abbrev pub is_command : Place → Bool
is_command CommandAt = true
is_command p = false

abbrev pub is_walk : ℕ → Place → Bool
is_walk p (WalkAt q) = nat_eq q p
is_walk p x = false

abbrev pub is_drop : ℕ → Place → Bool
is_drop p (DropAt q) = nat_eq q p
is_drop p x = false

abbrev pub is_notice : ℕ → Place → Bool
is_notice f (NoticeAt g) = nat_eq g f
is_notice f x = false

abbrev pub is_held_drop : (ℕ → Bool) → Place → Bool
is_held_drop h (DropAt q) = h q
is_held_drop h x = false

module _ {L : Type 0} where
  abbrev pub is_copies : Kind L → Bool
  is_copies (Copies p l) = true
  is_copies d = false

  abbrev pub page_owns : PageRow L → Place → Bool
  page_owns (Walk_answer p y f) x = is_walk p x
  page_owns (Walk_refuse p y) x = is_walk p x
  page_owns (Walk_fill p y f) x = is_walk p x
  page_owns (Walk_retry p y) x = is_walk p x
  page_owns (Move_begin f y g) x = is_notice f x
  page_owns (Notice_refuse f) x = is_notice f x
  page_owns (Rearm_serve f) x = is_notice f x
  page_owns (Copy_next y o f k) x = is_command x
  page_owns (Copy_last y o f k) x = is_command x
  page_owns (Drop_answer p f) x = is_drop p x
  page_owns (Drop_take p f) x = is_drop p x
  page_owns (Clean_serve f) x = is_command x
  page_owns (Frame_free f) x = is_command x
  page_owns r x = false

  -- of the state before, since the letters to all holders go to those that it names
  abbrev pub page_touches : Pages L → PageRow L → Place → Bool
  page_touches s (Walk_send p y) x = is_walk p x
  page_touches s (Notice_send p y f k) x = is_notice f x
  page_touches s (Copy_send y o f k l) x = is_command x
  page_touches s (Clean_send f) x = is_command x
  page_touches s (Drop_send_all f) x = is_held_drop (s.holder f) x
  page_touches s r x = page_owns r x

  abbrev pub owns : Event L → Place → Bool
  owns (Page row) x = page_owns row x
  owns (On page other f k row) x = cond (is_command x) (is_copies (kind row)) (block_touched f k (takes row) x)

  abbrev pub touches : Pages L → Event L → Place → Bool
  touches s (Page row) x = page_touches s row x
  touches s (On page other f k row) x = cond (is_command x) (is_copies (kind row)) (block_touched f k (writes row) x)

  -- a row of the home
  abbrev pub is_home : BlockRow L → Bool
  is_home (Read_unowned p) = true
  is_home (Read_shared p s) = true
  is_home (Read_by_owner p) = true
  is_home (Read_owned p o) = true
  is_home (Read_busy p) = true
  is_home (Read_poison p o) = true
  is_home (Read_exclusive_unowned p) = true
  is_home (Read_exclusive_shared p s) = true
  is_home (Read_exclusive_by_owner p) = true
  is_home (Read_exclusive_owned p o) = true
  is_home (Read_exclusive_busy p) = true
  is_home (Read_exclusive_poison p o) = true
  is_home (Upgrade_shared p s) = true
  is_home (Upgrade_grouped p s) = true
  is_home (Upgrade_refused p) = true
  is_home (Upgrade_poison p o) = true
  is_home (Write_back_owner p l) = true
  is_home (Write_back_busy_shared p r l) = true
  is_home (Write_back_busy_exclusive p r l) = true
  is_home (Write_back_requester p o l) = true
  is_home (Write_back_busy_poison p r l) = true
  is_home (Revision_sharing_write_back o r l) = true
  is_home (Revision_sharing_transfer o r) = true
  is_home (Revision_dirty_transfer o r) = true
  is_home (Revision_returned o r) = true
  is_home (Revision_poison_back o r l) = true
  is_home (Revision_poison_clean o r) = true
  is_home (Poison_read_unowned p) = true
  is_home (Poison_read_shared p s) = true
  is_home (Poison_read_owned p o) = true
  is_home (Poison_read_busy p) = true
  is_home (Copy_in p v) = true
  is_home r = false

  -- the actor whose columns it changes, if it is none of the home
  abbrev pub column_of : BlockRow L → ℕ
  column_of (Acknowledged p r) = r
  column_of r = actor_of r

  abbrev pub changes_column : BlockRow L → ℕ → Bool
  changes_column r q = cond (is_home r) false (nat_eq q (column_of r))

  -- ---- what a step leaves, column by column

  pub record NodeSame (q : ℕ) (w z : World L) : Type 0 where
    pub copy : (f k : ℕ) → (z.block f k).copy q ≡ (w.block f k).copy q
    pub want : (f k : ℕ) → (z.block f k).want q ≡ (w.block f k).want q
    pub acks : (f k : ℕ) → (z.block f k).acks q ≡ (w.block f k).acks q
    pub victim : (f k : ℕ) → (z.block f k).victim q ≡ (w.block f k).victim q
    pub request : z.pages.request q ≡ w.pages.request q
    pub slot : z.pages.victim q ≡ w.pages.victim q
    pub tlb : (y : ℕ) → z.pages.tlb q y ≡ w.pages.tlb q y
    pub walk : z.pages.walk q ≡ w.pages.walk q

  pub record HomeSame (f k : ℕ) (w z : World L) : Type 0 where
    pub entry : home_entry_at z f k ≡ home_entry_at w f k
    pub line : (z.block f k).line ≡ (w.block f k).line
    pub noticed : z.pages.noticed f ≡ w.pages.noticed f

  pub record MoverSame (n : ℕ) (w z : World L) : Type 0 where
    pub job : z.pages.job ≡ w.pages.job
    pub want : (f k : ℕ) → (z.block f k).want n ≡ (w.block f k).want n
    pub acks : (f k : ℕ) → (z.block f k).acks n ≡ (w.block f k).acks n
    pub page_table : (y : ℕ) → z.pages.page_table y ≡ w.pages.page_table y
    pub holders : (f q : ℕ) → z.pages.holder f q ≡ w.pages.holder f q
    pub role : z.pages.role ≡ w.pages.role
    pub sharing : (f k : ℕ) → (z.block f k).sharing ≡ (w.block f k).sharing

  -- a row of a block that only the mover's job goes with
  abbrev pub is_mover_kind : Kind L → ℕ → Bool
  is_mover_kind (Poisons p) m = true
  is_mover_kind (Collects p l) m = true
  is_mover_kind (Ends p) m = nat_eq p m
  is_mover_kind d m = false
