-- Rounds of turns, from the seats to a run of all actors.
use Rattle.std.specs.Prelude.{◌≡◌, ℕ, zero, suc, ◌+◌, ◌*◌, ◌<◌, ◌≤◌, Bool, true, false, ◌⊎◌, List, [], ◌∷◌, length, slice_index_or, sum_by, map}
use Rattle.std.specs.List.{list_all}
use Rattle.std.proofs.Common.{Option, None, Some}
use Rattle.atomic_table.specs.Seated.{TableId}
use Rattle.og_runs.specs.declared.MsgId.{MsgId}
use Rattle.og_runs.specs.declared.Msg.{Msg}
use Rattle.og_runs.specs.declared.Event.{Event}
use Rattle.og_runs.specs.declared.Log.{Log}
use Rattle.og_runs.specs.declared.Seat.{Seat}
use Rattle.og_runs.specs.Runs.{Rules, Local, start_history, choices}
use Rattle.og_runs.specs.World.{World, WorldRun, find, events_of}
use Rattle.og_runs.specs.Laws.{IsStart}
use Rattle.og_runs.specs.Views.{View, LocalViews, ConsistentViews, logs_of}
use Rattle.og_fabric.specs.Gathered.{AreLeft}
use Rattle.og_actors.specs.declared.rounds.Rounds.{Rounds}
use Rattle.og_actors.specs.declared.rounds.Rounds.TheVariants.{Stopped, Spent, Memory}
use Rattle.og_actors.specs.Actors.{Playing, seen, newcomer, MakesTurns}

-- a round: each actor makes so many turns
abbrev pub EachTurns : {A K N : Type 0} → Rules A K N → ℕ → List (Playing A K N) → List (Playing A K N) → Type 0
EachTurns {A} {K} {N} r turns ps qs = (i : ℕ) (d : Playing A K N) → i < length ps → MakesTurns r turns (slice_index_or ps i d) (slice_index_or qs i d)

-- the same, of actors by what is kept of them
abbrev pub EachTurnsBy : {B A K N : Type 0} → (B → A) → Rules A K N → ℕ → List (Playing B K N) → List (Playing B K N) → Type 0
EachTurnsBy {B} {A} {K} {N} state r turns ps qs = (i : ℕ) (d : Playing B K N) → i < length ps → MakesTurns r turns (seen state (slice_index_or ps i d)) (seen state (slice_index_or qs i d))

abbrev pub all_seen : {B A K N : Type 0} → (B → A) → List (Playing B K N) → List (Playing A K N)
all_seen state ps = map (λ p. seen state p) ps

abbrev pub IsRound : {A K N : Type 0} → Rules A K N → ℕ → List (Playing A K N) → List (Playing A K N) → Type 0
IsRound r turns ps qs = (length qs ≡ length ps) × EachTurns r turns ps qs

abbrev pub all_whole : {A K N : Type 0} → List (Playing A K N) → Bool
all_whole ps = list_all (λ p. p.whole) ps

abbrev pub all_stopped : {A K N : Type 0} → (A → Bool) → List (Playing A K N) → Bool
all_stopped stopped ps = list_all (λ p. stopped p.past.local) ps

-- so many rounds, after each of which all logs are whole and an actor isn't stopped
abbrev pub GoOn : {A K N : Type 0} → Rules A K N → (A → Bool) → ℕ → ℕ → List (Playing A K N) → List (Playing A K N) → Type 0
GoOn r stopped turns zero ps qs = ps ≡ qs
GoOn {A} {K} {N} r stopped turns (suc n) ps qs = (us : List (Playing A K N)) × GoOn r stopped turns n ps us × IsRound r turns us qs × (all_whole qs ≡ true) × (all_stopped stopped qs ≡ false)

-- no round is to be made, or the last one that was made is not above so many, and the rounds before it go on
abbrev pub IsReached : {A K N : Type 0} → Rules A K N → (A → Bool) → ℕ → ℕ → List (Playing A K N) → List (Playing A K N) → Type 0
IsReached {A} {K} {N} r stopped turns rounds ps qs =
    ((rounds ≡ 0) × (ps ≡ qs)) ⊎ ((n : ℕ) × (us : List (Playing A K N)) × (n < rounds) × GoOn r stopped turns n ps us × IsRound r turns us qs)

-- how many events, and how many idle turns, all made together
abbrev pub made_by : {A K N : Type 0} → List (Playing A K N) → ℕ
made_by ps = sum_by (λ p. p.made) ps

abbrev pub idle_by : {A K N : Type 0} → List (Playing A K N) → ℕ
idle_by ps = sum_by (λ p. p.idle) ps

-- all rounds were made, no log lacks an event, an actor isn't stopped; so many events and idle turns came in them
pub record IsSpent {A K N : Type 0} (r : Rules A K N) (stopped : A → Bool) (turns rounds events idle : ℕ) (ps qs : List (Playing A K N)) : Type 0 where
  pub all_rounds : GoOn r stopped turns rounds ps qs
  pub logs : all_whole qs ≡ true
  pub going : all_stopped stopped qs ≡ false
  pub made : made_by qs ≡ made_by ps + events
  pub spared : idle_by qs ≡ idle_by ps + idle
  pub sum : events + idle ≡ rounds * turns * length ps

-- stopped: after the first round at whose end all actors are stopped, or before any if there is to be none; want of
-- memory: after the first round at whose end a log lacks an event
abbrev pub AfterRounds : {A K N : Type 0} → Rules A K N → (A → Bool) → ℕ → ℕ → Rounds → List (Playing A K N) → List (Playing A K N) → Type 0
AfterRounds r stopped turns rounds Stopped ps qs = IsReached r stopped turns rounds ps qs × (all_whole qs ≡ true) × (all_stopped stopped qs ≡ true)
AfterRounds r stopped turns rounds (Spent events idle) ps qs = IsSpent r stopped turns rounds events idle ps qs
AfterRounds r stopped turns rounds Memory ps qs = IsReached r stopped turns rounds ps qs × (all_whole qs ≡ false)

-- the actors from k on of the fabric with that id, none of which has moved
abbrev pub AreSeated : {A K N : Type 0} → TableId → (ℕ → A) → ℕ → List (Playing A K N) → Type 0
AreSeated t f k [] = Unit {0}
AreSeated t f k (p ∷ ps) = (p ≡ newcomer t k (f k)) × AreSeated t f (suc k) ps

-- actors of the fabric with that id, in rising order from k on
abbrev pub AreInTurn : {A K N : Type 0} → TableId → ℕ → List (Playing A K N) → Type 0
AreInTurn t k [] = Unit {0}
AreInTurn t k (p ∷ ps) = ((p.table ≡ t) × (p.actor ≡ k)) × AreInTurn t (suc k) ps

-- the log of each actor from k on leads it from its start to where it is
abbrev pub LeadAll : {A K N : Type 0} → Rules A K N → (ℕ → A) → ℕ → List (Playing A K N) → Type 0
LeadAll r f k [] = Unit {0}
LeadAll r f k (p ∷ ps) = Local r k (start_history (f k)) p.log p.past × LeadAll r f (suc k) ps

-- rounds that ended so leave these seats: all actors are stopped, or not all; no want of memory is told
abbrev pub AsEnded : {A : Type 0} → (A → Bool) → Rounds → List (Seat A) → Type 0
AsEnded stopped Stopped xs = list_all (λ x. stopped x.local) xs ≡ true
AsEnded stopped (Spent events idle) xs = list_all (λ x. stopped x.local) xs ≡ false
AsEnded stopped Memory xs = ◌≡◌ {A = Bool} true false

-- the events are a run of all actors from their start, at whose end the messages that are left are in flight, and the
-- actors are stopped, or not, as the rounds ended
abbrev pub IsWholeRun : {A K N : Type 0} → Rules A K N → (ℕ → A) → (A → Bool) → ℕ → Rounds → List (Event N) → List (Msg K) → Type 0
IsWholeRun {A} {K} {N} r f stopped actors end es left = (w : World A K) → IsStart f w → length w.seats ≡ actors →
    (u : World A K) × WorldRun r w (choices es) u es × ((i : MsgId) → find i u.flight ≡ find i left) × AsEnded stopped end u.seats

-- why no further round is made: a log lacks an event, or else all actors are stopped
abbrev pub Standing : Bool → Bool → Option Rounds → Type 0
Standing whole stopped None = (whole ≡ true) × (stopped ≡ false)
Standing whole stopped (Some Stopped) = (whole ≡ true) × (stopped ≡ true)
Standing whole stopped (Some (Spent events idle)) = ◌≡◌ {A = Bool} true false
Standing whole stopped (Some Memory) = whole ≡ false

-- the logs are those of the actors from their start on, each by the rules, consistent with one another; and left are
-- just the messages that were sent and not taken
abbrev pub AreLogs : {A K N : Type 0} → Rules A K N → (ℕ → A) → ℕ → List (Log N) → List (Msg K) → Type 0
AreLogs {A} {K} {N} r f actors ls left = (vs : List (View K N)) × (length vs ≡ actors) × (events_of ls ≡ logs_of vs) × LocalViews r f 0 vs × ConsistentViews vs × AreLeft vs left

-- so many events were made in so many turns: as many as were counted
abbrev pub Counted : ℕ → Rounds → ℕ → Type 0
Counted turns Stopped n = n ≤ turns
Counted turns (Spent events idle) n = (n ≡ events) × (events + idle ≡ turns)
Counted turns Memory n = ◌≡◌ {A = Bool} true false
