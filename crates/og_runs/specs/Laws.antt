-- The laws of runs, over all protocols: what the functions of `src/laws.rt` promise.
use Rattle.std.specs.Prelude.{◌≡◌, ℕ, ◌≤◌, ◌<◌, List, ◌++◌, length, slice_get, [], cond, All}
use Rattle.std.proofs.Common.{Option, None, Some}
use Rattle.og_runs.specs.declared.MsgId.{MsgId}
use Rattle.og_runs.specs.declared.Choice.{Choice}
use Rattle.og_runs.specs.declared.Choice.TheVariants.{Take}
use Rattle.og_runs.specs.declared.Msg.{Msg}
use Rattle.og_runs.specs.declared.Event.{Event}
use Rattle.og_runs.specs.declared.Seat.{Seat}
use Rattle.og_runs.specs.Runs.{Rules, History, Local, choices, own_events, start_history, has_id, joined, IsSorted, Strict}
use Rattle.og_runs.specs.World.{World, find, world_step, WorldRun, seat_of, Distinct}
use Rattle.og_runs.specs.Views.{View, LocalViews, ConsistentViews, logs_of, sent_list, taken_list}

-- no actor of w has moved: actor a is in the state f a, its clock and next number are 0, nothing is in flight
pub record IsStart {A K : Type 0} (f : ℕ → A) (w : World A K) : Type 0 where
  pub seat : (a : ℕ) (x : Seat A) → slice_get w.seats a ≡ Some x → x ≡ record { local = f a; clock = 0; next = 0 }
  pub flight : w.flight ≡ []

-- the choices lead from a start w to u, with these events
pub record RunsFrom {A K N : Type 0} (r : Rules A K N) (f : ℕ → A) (w : World A K) (cs : List Choice) (u : World A K) (es : List (Event N)) : Type 0 where
  pub start : IsStart f w
  pub run : WorldRun r w cs u es

-- the stamps of each actor rise strictly
abbrev pub StampsRise : (A K N : Type 0) → Type 0
StampsRise A K N = (r : Rules A K N) (f : ℕ → A) (w : World A K) (cs : List Choice) (u : World A K) (es : List (Event N)) →
    RunsFrom r f w cs u es → (a : ℕ) → Strict (own_events a es)

-- from u a run leads to v: no two messages of u have one name, a name of u that v has too is still that
-- message's, names in flight have numbers below their sender's next, and next numbers never fall
pub record NamesStay {A K : Type 0} (u v : World A K) : Type 0 where
  pub distinct : Distinct u.flight
  pub same : (i : MsgId) (m n : Msg K) → find i u.flight ≡ Some m → find i v.flight ≡ Some n → m ≡ n
  pub below_next : (i : MsgId) (m : Msg K) (x : Seat A) → find i u.flight ≡ Some m → slice_get u.seats i.sender ≡ Some x → i.seq < x.next
  pub next_grows : (a : ℕ) (x y : Seat A) → slice_get u.seats a ≡ Some x → slice_get v.seats a ≡ Some y → x.next ≤ y.next

-- names of messages are never used twice
abbrev pub NamesUsedOnce : (A K N : Type 0) → Type 0
NamesUsedOnce A K N = (r : Rules A K N) (f : ℕ → A) (w : World A K) (cs : List Choice) (u : World A K) (es : List (Event N)) (ds : List Choice) (v : World A K) (fs : List (Event N)) →
    RunsFrom r f w cs u es → WorldRun r u ds v fs → NamesStay u v

-- a message that was taken never flies again
abbrev pub TakenNeverFlies : (A K N : Type 0) → Type 0
TakenNeverFlies A K N = (r : Rules A K N) (f : ℕ → A) (w : World A K) (cs : List Choice) (u : World A K) (es : List (Event N)) (a : ℕ) (i : MsgId) (v : World A K) (e : Event N) (ds : List Choice) (x : World A K) (fs : List (Event N)) →
    RunsFrom r f w cs u es → world_step r u (Take a i) ≡ Some (v, e) → WorldRun r v ds x fs → find i x.flight ≡ None

-- two runs of which the second begins where the first ends are one
abbrev pub RunsAppend : (A K N : Type 0) → Type 0
RunsAppend A K N = (r : Rules A K N) (cs ds : List Choice) (w u v : World A K) (es fs : List (Event N)) →
    WorldRun r w cs u es → WorldRun r u ds v fs → WorldRun r w (cs ++ ds) v (es ++ fs)

-- a run splits after any of its choices
abbrev pub RunsSplit : (A K N : Type 0) → Type 0
RunsSplit A K N = (r : Rules A K N) (cs ds : List Choice) (w v : World A K) (es : List (Event N)) → WorldRun r w (cs ++ ds) v es →
    (u : World A K) × (fs : List (Event N)) × (gs : List (Event N)) × WorldRun r w cs u fs × WorldRun r u ds v gs × (es ≡ fs ++ gs)

-- there are as many events as choices, and no clock is above their number: none of an event, of an
-- actor, or of a message in flight
pub record ClocksWithin {A K N : Type 0} (cs : List Choice) (u : World A K) (es : List (Event N)) : Type 0 where
  pub count : length es ≡ length cs
  pub events : All (λ e. e.stamp.clock ≤ length cs) es
  pub seats : (a : ℕ) (x : Seat A) → slice_get u.seats a ≡ Some x → x.clock ≤ length cs
  pub flight : (i : MsgId) (m : Msg K) → find i u.flight ≡ Some m → m.stamp.clock ≤ length cs

abbrev pub ClocksBounded : (A K N : Type 0) → Type 0
ClocksBounded A K N = (r : Rules A K N) (f : ℕ → A) (w : World A K) (cs : List Choice) (u : World A K) (es : List (Event N)) → RunsFrom r f w cs u es → ClocksWithin cs u es

-- the message, unless its receiver took it
abbrev pub unless_taken_in : {K N : Type 0} → List (View K N) → MsgId → Option (Msg K) → Option (Msg K)
unless_taken_in vs i None = None
unless_taken_in vs i (Some m) = cond (has_id i (taken_list (slice_get vs m.to))) None (Some m)

-- the message with this name that was sent and not taken
abbrev pub left_in_flight : {K N : Type 0} → List (View K N) → MsgId → Option (Msg K)
left_in_flight vs i = unless_taken_in vs i (slice_get (sent_list (slice_get vs i.sender)) i.seq)

-- from w the logs end in u: each actor in the state that its own log gives, and in flight what was sent
-- and not taken
pub record EndsAsLogs {A K N : Type 0} (r : Rules A K N) (f : ℕ → A) (w : World A K) (vs : List (View K N)) (u : World A K) : Type 0 where
  pub seat : (a : ℕ) (v : View K N) → slice_get vs a ≡ Some v →
      (q : History A K) × Local r a (start_history (f a)) v.log q × (q.sent ≡ v.sent) × (q.taken ≡ v.taken) × (slice_get u.seats a ≡ Some (seat_of q))
  pub others : (a : ℕ) → length vs ≤ a → slice_get u.seats a ≡ slice_get w.seats a
  pub flight : (i : MsgId) → find i u.flight ≡ left_in_flight vs i
  pub distinct : Distinct u.flight

-- local and consistent logs, sorted by stamp, are a run from the start, which ends as the logs say
abbrev pub LogsAreARun : (A K N : Type 0) → Type 0
LogsAreARun A K N = (r : Rules A K N) (f : ℕ → A) (w : World A K) (vs : List (View K N)) (fs : List (Event N)) →
    IsStart f w → length vs ≤ length w.seats → LocalViews r f 0 vs → ConsistentViews vs → IsSorted (joined (logs_of vs)) fs →
    (u : World A K) × WorldRun r w (choices fs) u fs × EndsAsLogs r f w vs u

-- the events of a run, sorted by stamp, are a run to the same seats with the same messages in flight, and
-- their stamps rise strictly
abbrev pub SortedEventsAreARun : (A K N : Type 0) → Type 0
SortedEventsAreARun A K N = (r : Rules A K N) (f : ℕ → A) (w : World A K) (cs : List Choice) (u : World A K) (es fs : List (Event N)) →
    RunsFrom r f w cs u es → IsSorted es fs →
    (v : World A K) × WorldRun r w (choices fs) v fs × (v.seats ≡ u.seats) × (v.flight ≡ u.flight) × Strict fs

-- a run names its choices, and each actor's events in it are a log of that actor: so its logs are local
-- and consistent
abbrev pub RunsGiveLogs : (A K N : Type 0) → Type 0
RunsGiveLogs A K N = (r : Rules A K N) (f : ℕ → A) (w : World A K) (cs : List Choice) (u : World A K) (es : List (Event N)) → RunsFrom r f w cs u es →
    (choices es ≡ cs) × ((vs : List (View K N)) × (length vs ≡ length w.seats) × LocalViews r f 0 vs × ConsistentViews vs × ((a : ℕ) (v : View K N) → slice_get vs a ≡ Some v → v.log ≡ own_events a es))
