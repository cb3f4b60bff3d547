-- A home: what contracts see of it, and what it does with a message. An event of a home is one or two rows: the table's row
-- of a message about a block, and then the count of a request with its notice; or the cleaning of a frame; or a frame whose
-- notice the mover has judged. Each of them gives the home afterwards and letters.
use Rattle.std.specs.Prelude.{◌≡◌, ℕ, zero, suc, ◌<◌, Bool, true, false, ◌&&◌, nat_eq, Option, Some, None, IsSome, List, [], ◌∷◌, ◌++◌, if◌then◌else◌}
use Rattle.og_base.specs.declared.Frame.{Frame}
use Rattle.og_base.specs.declared.Block.{Block}
use Rattle.og_base.specs.declared.Hot.{Hot as Notice}
use Rattle.og_runs.specs.declared.Letter.{Letter}
use Rattle.og_runs.specs.declared.Msg.{Msg}
use Rattle.og_line.specs.declared.Line.{Line}
use Rattle.og_msg.specs.Kinds.{block_of}
use Rattle.og_msg.specs.declared.Kind.{Kind}
use Rattle.og_msg.specs.declared.Kind.TheVariants.{CleanFrame, FrameClean, Hot, Rearm}
use Rattle.og_directory.specs.declared.entry.State.{State}
use Rattle.og_directory.specs.declared.entry.State.TheVariants.{Unowned, Poison}
use Rattle.og_directory.specs.Table.{Row, to, row_of, is_counted, IsFromItsSender}
use Rattle.og_counters.specs.declared.CountRules.{CountRules}
use Rattle.og_counters.specs.Counts.{FrameCounts, CountersState, with_value, count_step, reset_step}

-- a home: which one it is, of how many nodes and frames, and by what it counts; the entry and the line of each block, by the
-- index of its frame and its number there; and the counts of each frame
pub record HomeState : Type 0 where
  pub rules : CountRules
  pub entry : ℕ → ℕ → State
  pub line : ℕ → ℕ → Line
  pub counts : ℕ → FrameCounts

-- what a row gives: the home afterwards, and the letters, in the order in which they are sent
pub record Served : Type 0 where
  pub home : HomeState
  pub letters : List (Letter Kind)

abbrev pub served : HomeState → List (Letter Kind) → Served
served home letters = record { home = home; letters = letters }

-- two rows of one event, one after the other
abbrev pub and_then : Served → (HomeState → Served) → Served
and_then first next = served (next first.home).home (first.letters ++ (next first.home).letters)

-- ------------------------------------------------------------ changes of a home

-- a function of two numbers with one value changed
abbrev pub with_pair : {X : Type 0} → (ℕ → ℕ → X) → (index number : ℕ) → X → ℕ → ℕ → X
with_pair f index number x i k = if nat_eq i index && nat_eq k number then x else f i k

-- the home with this entry and this line of a block
abbrev pub with_block : HomeState → (index number : ℕ) → State → Line → HomeState
with_block home index number entry line =
    record home { entry = with_pair home.entry index number entry; line = with_pair home.line index number line }

-- the home's counters
abbrev pub counters_in : HomeState → CountersState
counters_in home = record { rules = home.rules; frame = home.counts }

-- the home with these counters
abbrev pub with_counters : HomeState → CountersState → HomeState
with_counters home counters = record home { rules = counters.rules; counts = counters.frame }

-- the home with all blocks of a frame unowned
abbrev pub with_clean_frame : HomeState → ℕ → HomeState
with_clean_frame home index = record home { entry = with_value home.entry index (λ number. Unowned) }

-- ------------------------------------------------------------ the rows

-- the table's row of a message about a block, if there is one
abbrev pub table_row : HomeState → Block → Msg Kind → Option Row
table_row home b msg = row_of home.rules.nodes (home.line b.frame.index b.number) msg (home.entry b.frame.index b.number)

-- the home after a row of the table about a block
abbrev pub by_row : HomeState → Block → Option Row → Served
by_row home b None = served home []
by_row home b (Some row) = served (with_block home b.frame.index b.number row.entry row.line) row.letters

-- the table's row
unfoldable pub serve_row : HomeState → Block → Msg Kind → Served
serve_row home b msg = by_row home b (table_row home b msg)

-- a notice goes to the mover, whose number is the number of nodes
abbrev pub notice_letters : ℕ → Option Notice → List (Letter Kind)
notice_letters mover None = []
notice_letters mover (Some notice) = to mover (Hot notice) ∷ []

-- the count of a request of p for a block, and its notice
unfoldable pub count_request : HomeState → Block → ℕ → Served
count_request home b p =
    served (with_counters home (count_step (counters_in home) b.frame.index p).0)
    (notice_letters home.rules.nodes (count_step (counters_in home) b.frame.index p).1)

-- the mover has judged a frame's notice: its counters are reset
unfoldable pub rearm : HomeState → Frame → Served
rearm home f = served (with_counters home (reset_step (counters_in home) f.index)) []

-- a frame that was poisoned is clean: its blocks are unowned, its counters are reset, and the mover is told
unfoldable pub clean_frame : HomeState → Frame → Served
clean_frame home f = served (rearm (with_clean_frame home f.index) f).home (to home.rules.nodes (FrameClean f) ∷ [])

-- ------------------------------------------------------------ events

-- the next row, where there is one
abbrev pub and_then_if : Bool → Served → (HomeState → Served) → Served
and_then_if true first next = and_then first next
and_then_if false first next = first

-- a message about a block: the table's row, and then the count, if the message is a request that isn't refused
abbrev pub serve_block : HomeState → Block → Msg Kind → Served
serve_block home b msg =
    and_then_if (is_counted msg.kind (serve_row home b msg).letters) (serve_row home b msg)
    (λ after. count_request after b msg.id.sender)

abbrev pub serve_named : HomeState → Msg Kind → Option Block → Served
serve_named home msg None = served home []
serve_named home msg (Some b) = serve_block home b msg

abbrev pub serve_kind : HomeState → Msg Kind → Kind → Served
serve_kind home msg (CleanFrame f) = clean_frame home f
serve_kind home msg (Rearm f) = rearm home f
serve_kind home msg kind = serve_named home msg (block_of kind)

-- a message
unfoldable pub serve : HomeState → Msg Kind → Served
serve home msg = serve_kind home msg msg.kind

-- ------------------------------------------------------------ which messages have a row

-- the block's page has moved away
abbrev pub is_poison : State → Bool
is_poison Poison = true
is_poison entry = false

-- the blocks with a number below n are all poisoned, by the entries of their frame
unfoldable pub are_poisoned : (ℕ → State) → ℕ → Bool
are_poisoned entry zero = true
are_poisoned entry (suc n) = are_poisoned entry n && is_poison (entry n)

-- the frame is one of this home
pub record IsOwnFrame (home : HomeState) (f : Frame) : Type 0 where
  pub home_is : f.home ≡ home.rules.home
  pub inside : f.index < home.rules.frames

-- a message about a block of this home, from a sender that sends its kind, whose row exists
pub record HasBlockRow (home : HomeState) (b : Block) (msg : Msg Kind) : Type 0 where
  pub frame : IsOwnFrame home b.frame
  pub number : b.number < 32
  pub sender : IsFromItsSender home.rules.nodes msg
  pub row : IsSome (table_row home b msg)

-- the mover asks for a frame of this home whose blocks are all poisoned
pub record IsToBeCleaned (home : HomeState) (f : Frame) (msg : Msg Kind) : Type 0 where
  pub frame : IsOwnFrame home f
  pub sender : msg.id.sender ≡ home.rules.nodes
  pub poisoned : (number : ℕ) → number < 32 → home.entry f.index number ≡ Poison

-- the mover has judged the notice of a frame of this home
pub record IsJudged (home : HomeState) (f : Frame) (msg : Msg Kind) : Type 0 where
  pub frame : IsOwnFrame home f
  pub sender : msg.id.sender ≡ home.rules.nodes

abbrev pub HasNamedRow : HomeState → Msg Kind → Option Block → Type 0
HasNamedRow home msg None = ⊥
HasNamedRow home msg (Some b) = HasBlockRow home b msg

abbrev pub HasKindRow : HomeState → Msg Kind → Kind → Type 0
HasKindRow home msg (CleanFrame f) = IsToBeCleaned home f msg
HasKindRow home msg (Rearm f) = IsJudged home f msg
HasKindRow home msg kind = HasNamedRow home msg (block_of kind)

-- the message has a row at this home
unfoldable pub HasRow : HomeState → Msg Kind → Type 0
HasRow home msg = HasKindRow home msg msg.kind
