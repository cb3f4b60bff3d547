-- How a home counts the requests of nodes for one of its frames, when it notices that a node uses the frame much more than
-- the home does, and when the counts begin anew. p is the node whose request counts.
use Rattle.std.specs.Prelude.{ℕ, zero, suc, ◌+◌, ◌||◌, ◌&&◌, Bool, false, not, nat_eq, nat_le, Option, Some, None, if◌then◌else◌}
use Rattle.std.proofs.Common.{max}
use Rattle.og_base.specs.declared.Hot.{Hot}
use Rattle.og_base.specs.declared.Settings.{Settings}
use Rattle.og_counters.specs.declared.CountRules.{CountRules}

-- what a home knows of the use of a frame: the count of each node, and whether a notice of the frame is open
pub record FrameCounts : Type 0 where
  pub count : ℕ → ℕ
  pub noticed : Bool

-- what contracts see of a home's counters: by what it counts, and the counts of each frame
pub record CountersState : Type 0 where
  pub rules : CountRules
  pub frame : ℕ → FrameCounts

-- a function with one value changed
abbrev pub with_value : {X : Type 0} → (ℕ → X) → ℕ → X → ℕ → X
with_value f at x i = if nat_eq i at then x else f i

-- the counters with these counts of a frame
abbrev pub with_frame : CountersState → ℕ → FrameCounts → CountersState
with_frame s index c = record s { frame = with_value s.frame index c }

-- ------------------------------------------------------------ one frame

-- no counts, and no open notice
abbrev pub no_counts : FrameCounts
no_counts = record { count = λ node. 0; noticed = false }

-- the sum of the counts of the nodes below n
unfoldable pub sum_of : ℕ → (ℕ → ℕ) → ℕ
sum_of zero count = 0
sum_of (suc n) count = sum_of n count + count n

-- the greatest count of the nodes below n other than p and the home, 0 if there are none
unfoldable pub most_of_others : ℕ → (home p : ℕ) → (ℕ → ℕ) → ℕ
most_of_others zero home p count = 0
most_of_others (suc n) home p count =
    max (most_of_others n home p count) (if nat_eq n p || nat_eq n home then 0 else count n)

-- one more request of p
abbrev pub counted : FrameCounts → ℕ → FrameCounts
counted c p = record c { count = with_value c.count p (c.count p + 1) }

-- p is to be noticed: its count has passed the home's by the trigger, and no notice of the frame is open
abbrev pub is_due : CountRules → FrameCounts → ℕ → Bool
is_due rules c p = not c.noticed && nat_le (c.count rules.home + rules.trigger) (c.count p)

-- the notice of p
abbrev pub hot : CountRules → FrameCounts → (index p : ℕ) → Hot
hot rules c index p = record {
  frame = record { home = rules.home; index = index };
  node = p;
  count = c.count p;
  most = most_of_others rules.nodes rules.home p c.count;
}

-- the counts with the mark of a notice, where p is noticed
abbrev pub marked : CountRules → FrameCounts → ℕ → FrameCounts
marked rules c p = record c { noticed = c.noticed || is_due rules c p }

-- all counts are 0. A notice stays open
abbrev pub cleared : FrameCounts → FrameCounts
cleared c = record c { count = λ node. 0 }

-- all counts are 0 where their sum has reached the reset
abbrev pub worn : CountRules → FrameCounts → FrameCounts
worn rules c = if nat_le rules.reset (sum_of rules.nodes c.count) then cleared c else c

-- ------------------------------------------------------------ the counters

-- the notice that a counted request of p makes, if it makes one
abbrev pub notice_of : CountersState → (index p : ℕ) → Option Hot
notice_of s index p =
    if is_due s.rules (counted (s.frame index) p) p then Some (hot s.rules (counted (s.frame index) p) index p) else None

-- the counts of a frame after a counted request of p: p's count rises, then it may be noticed, then the counts may begin anew
abbrev pub counts_after : CountRules → FrameCounts → ℕ → FrameCounts
counts_after rules c p = worn rules (marked rules (counted c p) p)

-- a counted request of p: the counters afterwards, and its notice
abbrev pub count_step : CountersState → (index p : ℕ) → CountersState × Option Hot
count_step s index p = (with_frame s index (counts_after s.rules (s.frame index) p), notice_of s index p)

-- a reset: no counts, and no open notice
abbrev pub reset_step : CountersState → ℕ → CountersState
reset_step s index = with_frame s index no_counts

-- by what a home of a machine of these settings counts
abbrev pub rules_of : ℕ → Settings → CountRules
rules_of home settings = record {
  home = home;
  nodes = settings.nodes;
  frames = settings.frames;
  trigger = settings.trigger;
  reset = settings.reset;
}

-- new counters
abbrev pub new_counters : ℕ → Settings → CountersState
new_counters home settings = record { rules = rules_of home settings; frame = λ index. no_counts }
