-- The start, the runs of rows from it, and what each access answers.
use Rattle.std.specs.Prelude.{◌≡◌, ℕ, ◌<◌, false, List, [], ◌∷◌}
use Rattle.og_pages.specs.State.{Role, Free, Mapped, State, Idle, NoCommand, NoEntry, NoWalk, NoDrop, NoRequest, NoVictim, Phase, Live, Dead, NoNotice}
use Rattle.og_pages.specs.Rows.{Row, guard, apply, Load_hit, Store_hit, Fill_load, Fill_store}

-- each page has a frame of its own, and every other frame is free
abbrev pub Laid_by : (pages : ℕ) → (page_table : ℕ → ℕ) → (frame : ℕ) → Role → Type 0
Laid_by pages page_table frame Free = Unit {0}
Laid_by pages page_table frame (Mapped page) = (page_table page ≡ frame) × (page < pages)
Laid_by pages page_table frame role = ⊥

pub record Laid (pages : ℕ) (page_table : ℕ → ℕ) (role : ℕ → Role) : Type 0 where
  pub mappings : (page : ℕ) → page < pages → role (page_table page) ≡ Mapped page
  pub frames : (frame : ℕ) → Laid_by pages page_table frame (role frame)

abbrev pub start_line : {L : Type 0} → L → (ℕ → ℕ → L) → Role → ℕ → L
start_line blank memory (Mapped page) number = memory page number
start_line blank memory role number = blank

abbrev pub start_phase : Role → Phase
start_phase (Mapped page) = Live
start_phase role = Dead

-- the frames of pages have the pages' lines, the other frames blank ones, and no node knows of any frame
abbrev pub start : {L : Type 0} → (blank : L) → (page_table : ℕ → ℕ) → (role : ℕ → Role) → (memory : ℕ → ℕ → L) → State L
start blank page_table role memory = record {
  page_table = page_table;
  role = role;
  job = Idle;
  command = NoCommand;
  tlb = λ node page. NoEntry;
  walk = λ node. NoWalk;
  holder = λ frame node. false;
  drop = λ node. NoDrop;
  request = λ node. NoRequest;
  victim = λ node. NoVictim;
  phase = λ frame number. start_phase (role frame);
  cached = λ frame number node. false;
  newest = λ frame number. start_line blank memory (role frame) number;
  memory = memory;
  notice = λ frame. NoNotice;
  noticed = λ frame. false;
}

-- the rows may be taken one after another, and lead from s to end
abbrev pub Runs : {L : Type 0} → (pages blocks : ℕ) → State L → List (Row L) → State L → Type 0
Runs pages blocks s [] end = s ≡ end
Runs pages blocks s (row ∷ rows) end = guard pages blocks row s × Runs pages blocks (apply row s) rows end

-- the block that an access of the row is on answers what the flat memory has for the page
abbrev pub Answers : {L : Type 0} → State L → Row L → Type 0
Answers s (Load_hit node page frame number) = s.newest frame number ≡ s.memory page number
Answers s (Store_hit node page frame number line) = s.newest frame number ≡ s.memory page number
Answers s (Fill_load node page frame number) = s.newest frame number ≡ s.memory page number
Answers s (Fill_store node page frame number line) = s.newest frame number ≡ s.memory page number
Answers s row = Unit {0}

-- each access of the rows answers what the flat memory has at that moment
abbrev pub AllAnswered : {L : Type 0} → State L → List (Row L) → Type 0
AllAnswered s [] = Unit {0}
AllAnswered s (row ∷ rows) = Answers s row × AllAnswered (apply row s) rows

-- rows lead to the state from a start in which each page has a frame of its own
pub record Reached (L : Type 0) (pages blocks : ℕ) (s : State L) : Type 0 where
  pub blank : L
  pub page_table : ℕ → ℕ
  pub role : ℕ → Role
  pub memory : ℕ → ℕ → L
  pub rows : List (Row L)
  pub laid : Laid pages page_table role
  pub run : Runs pages blocks (start blank page_table role memory) rows s
