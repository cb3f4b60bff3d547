-- The machine as contracts see it: a seat for each actor and the messages in flight.
use Rattle.std.specs.Prelude.{◌≡◌, ℕ, ◌+◌, ◌<◌, Bool, true, nat_eq, nat_lt, List, [], ◌∷◌, length, slice_get, slice_set, cond}
use Rattle.std.proofs.Common.{Option, None, Some}
use Rattle.og_runs.specs.declared.MsgId.{MsgId}
use Rattle.og_runs.specs.declared.Choice.{Choice}
use Rattle.og_runs.specs.declared.Choice.TheVariants.{Act, Take}
use Rattle.og_runs.specs.declared.Msg.{Msg}
use Rattle.og_runs.specs.declared.Event.{Event}
use Rattle.og_runs.specs.declared.Seat.{Seat}
use Rattle.og_runs.specs.declared.Log.{Log}
use Rattle.og_runs.specs.Runs.{Outcome, Rules, History, Histories, posted, outcome_of, event_of, clock_after, same_id, in_flight}

-- actor a sits at seat a; messages in flight stand by receiver, then sender, then number
pub record World (A K : Type 0) : Type 0 where
  pub seats : List (Seat A)
  pub flight : List (Msg K)

-- the first message with this id
abbrev pub find : {K : Type 0} → MsgId → List (Msg K) → Option (Msg K)
find i [] = None
find i (m ∷ ms) = cond (same_id i m.id) (Some m) (find i ms)

-- the messages with other ids
abbrev pub without : {K : Type 0} → MsgId → List (Msg K) → List (Msg K)
without i [] = []
without i (m ∷ ms) = cond (same_id i m.id) (without i ms) (m ∷ without i ms)

-- messages in flight stand by receiver, then sender, then number
abbrev pub precedes : {K : Type 0} → Msg K → Msg K → Bool
precedes m n = cond (nat_eq m.to n.to) (cond (nat_eq m.id.sender n.id.sender) (nat_lt m.id.seq n.id.seq) (nat_lt m.id.sender n.id.sender)) (nat_lt m.to n.to)

-- the list with m at its place: behind all at the front that precede it
abbrev pub placed : {K : Type 0} → Msg K → List (Msg K) → List (Msg K)
placed m [] = m ∷ []
placed m (x ∷ xs) = cond (precedes x m) (x ∷ placed m xs) (m ∷ x ∷ xs)

-- the list with these at their places, one after another
abbrev pub placed_all : {K : Type 0} → List (Msg K) → List (Msg K) → List (Msg K)
placed_all ms [] = ms
placed_all ms (n ∷ ns) = placed_all (placed n ms) ns

abbrev pub PrecedesAll : {K : Type 0} → Msg K → List (Msg K) → Type 0
PrecedesAll m [] = Unit {0}
PrecedesAll m (x ∷ xs) = (precedes m x ≡ true) × PrecedesAll m xs

-- each message precedes all behind it
abbrev pub InPlace : {K : Type 0} → List (Msg K) → Type 0
InPlace [] = Unit {0}
InPlace (m ∷ ms) = PrecedesAll m ms × InPlace ms

-- a move is an act (None) or the take of a message (Some), which leaves the flight
abbrev pub flight_after : {K : Type 0} → Option (Msg K) → List (Msg K) → List (Msg K)
flight_after None ms = ms
flight_after (Some m) ms = without m.id ms

-- an event raises the next number of its actor by the number of its letters
abbrev pub seat_after : {A K N : Type 0} → Seat A → Option (Msg K) → Outcome A K N → Seat A
seat_after x v o = record { local = o.local; clock = clock_after x.clock v; next = x.next + length o.letters }

-- the letters become messages with the actor's next numbers, in their order, and the event's stamp
abbrev pub world_after : {A K N : Type 0} → World A K → ℕ → Seat A → Option (Msg K) → Outcome A K N → World A K
world_after w a x v o = record { seats = slice_set w.seats a (seat_after x v o); flight = placed_all (flight_after v w.flight) (posted a (clock_after x.clock v) x.next o.letters) }

abbrev pub world_move_with : {A K N : Type 0} → World A K → ℕ → Seat A → Option (Msg K) → Option (Outcome A K N) → Option (World A K × Event N)
world_move_with w a x v None = None
world_move_with w a x v (Some o) = Some (world_after w a x v o, event_of a x.clock v o)

abbrev pub world_move : {A K N : Type 0} → Rules A K N → World A K → ℕ → Option (Msg K) → Option (Seat A) → Option (World A K × Event N)
world_move r w a v None = None
world_move r w a v (Some x) = world_move_with w a x v (outcome_of r a x.local v)

abbrev pub world_take : {A K N : Type 0} → Rules A K N → World A K → ℕ → Option (Msg K) → Option (World A K × Event N)
world_take r w a None = None
world_take r w a (Some m) = cond (nat_eq m.to a) (world_move r w a (Some m) (slice_get w.seats a)) None

-- one step: an act of a, or the take by a of the message with id i, which must be in flight to a;
-- absent where there is no such actor or message, or the protocol has no outcome
abbrev pub world_step : {A K N : Type 0} → Rules A K N → World A K → Choice → Option (World A K × Event N)
world_step r w (Act a) = world_move r w a None (slice_get w.seats a)
world_step r w (Take a i) = world_take r w a (find i w.flight)

-- the choices lead from w to t, with these events; absent where one step is absent
abbrev pub WorldRun : {A K N : Type 0} → Rules A K N → World A K → List Choice → World A K → List (Event N) → Type 0
WorldRun r w [] t es = (w ≡ t) × (es ≡ [])
WorldRun {A} {K} {N} r w (c ∷ cs) t es = (u : World A K) × (e : Event N) × (fs : List (Event N)) × (world_step r w c ≡ Some (u, e)) × (es ≡ e ∷ fs) × WorldRun r u cs t fs

-- the seat of an actor with this history: its next number is the number of messages that it sent
abbrev pub seat_of : {A K : Type 0} → History A K → Seat A
seat_of p = record { local = p.local; clock = p.clock; next = length p.sent }

-- no two messages have one id
abbrev pub Distinct : {K : Type 0} → List (Msg K) → Type 0
Distinct [] = Unit {0}
Distinct (m ∷ ms) = (find m.id ms ≡ None) × Distinct ms

-- the seats are those of the histories s, and in flight is what was sent and not taken
pub record Shows {A K : Type 0} (w : World A K) (s : Histories A K) : Type 0 where
  pub seat : (a : ℕ) (x : Seat A) → slice_get w.seats a ≡ Some x → seat_of (s a) ≡ x
  pub flight : (i : MsgId) → find i w.flight ≡ in_flight s i
  pub distinct : Distinct w.flight
  pub in_place : InPlace w.flight

-- all events are of actors below n
abbrev pub Inside : {N : Type 0} → ℕ → List (Event N) → Type 0
Inside n [] = Unit {0}
Inside n (e ∷ es) = (e.stamp.actor < n) × Inside n es

-- the events of the logs, log by log
abbrev pub events_of : {N : Type 0} → List (Log N) → List (List (Event N))
events_of [] = []
events_of (l ∷ ls) = l.events.items ∷ events_of ls
