-- Machines of actors that exchange messages: one actor's moves, histories, steps, runs, logs, order.
--
-- A protocol is two functions: what an actor does of itself, and what with a message that it takes.
-- Here the state is a history: of each actor its own state, its clock, all messages that it ever sent
-- and all that it ever took. A message is in flight if it was sent and not taken. `World.antt` has the
-- state that contracts speak of, with seats and a list of messages in flight.
use Rattle.std.specs.Prelude.{◌≡◌, ℕ, suc, ◌+◌, ◌≤◌, ◌<◌, Bool, true, false, ◌&&◌, ◌⊎◌, nat_eq, List, [], ◌∷◌, ◌++◌, length, slice_get, map, cond, max}
use Rattle.std.proofs.Common.{Option, None, Some}
use Rattle.std.specs.List.{filter}
use Rattle.og_runs.specs.declared.MsgId.{MsgId}
use Rattle.og_runs.specs.declared.Choice.{Choice}
use Rattle.og_runs.specs.declared.Choice.TheVariants.{Act, Take}
use Rattle.og_runs.specs.declared.Letter.{Letter}
use Rattle.og_runs.specs.declared.Msg.{Msg}
use Rattle.og_runs.specs.declared.Event.{Event}

-- what a move of an actor gives: its new state, the letters that it sends, in order, and maybe a note
pub record Outcome (A K N : Type 0) : Type 0 where
  pub local : A
  pub letters : List (Letter K)
  pub note : Option N

-- a protocol: what an actor of this number does of itself in this state, and what with this message;
-- none where it can't
pub record Rules (A K N : Type 0) : Type 0 where
  pub act : ℕ → A → Option (Outcome A K N)
  pub take : ℕ → A → Msg K → Option (Outcome A K N)

-- an actor's history: its own state, its clock, all that it sent, all that it took, each in order
pub record History (A K : Type 0) : Type 0 where
  pub local : A
  pub clock : ℕ
  pub sent : List (Msg K)
  pub taken : List (Msg K)

-- the letters of actor a as messages: numbered from k on, with the stamp of the event, clock c
abbrev pub posted : {K : Type 0} → ℕ → ℕ → ℕ → List (Letter K) → List (Msg K)
posted a c k [] = []
posted a c k (l ∷ ls) = record { id = record { sender = a; seq = k }; to = l.to; stamp = record { clock = c; actor = a }; kind = l.kind } ∷ posted a c (suc k) ls

-- ------------------------------------------------------------------------------ one actor

-- a move is an act of the actor itself (None) or the take of a message (Some)
abbrev pub outcome_of : {A K N : Type 0} → Rules A K N → ℕ → A → Option (Msg K) → Option (Outcome A K N)
outcome_of r a x None = r.act a x
outcome_of r a x (Some m) = r.take a x m

-- an act's clock is the actor's plus one; a take's the greater of the actor's and the message's, plus one
abbrev pub clock_after : {K : Type 0} → ℕ → Option (Msg K) → ℕ
clock_after c None = c + 1
clock_after c (Some m) = max c m.stamp.clock + 1

abbrev pub taken_after : {A K : Type 0} → History A K → Option (Msg K) → List (Msg K)
taken_after p None = p.taken
taken_after p (Some m) = p.taken ++ m ∷ []

abbrev pub choice_of : {K : Type 0} → ℕ → Option (Msg K) → Choice
choice_of a None = Act a
choice_of a (Some m) = Take a m.id

-- the event's clock becomes the actor's and that of every message that the event sends
abbrev pub history_after : {A K N : Type 0} → ℕ → History A K → Option (Msg K) → Outcome A K N → History A K
history_after a p v o = record { local = o.local; clock = clock_after p.clock v; sent = p.sent ++ posted a (clock_after p.clock v) (length p.sent) o.letters; taken = taken_after p v }

-- the event of a move: the choice that it was, its stamp, its note
abbrev pub event_of : {A K N : Type 0} → ℕ → ℕ → Option (Msg K) → Outcome A K N → Event N
event_of a c v o = record { choice = choice_of a v; stamp = record { clock = clock_after c v; actor = a }; note = o.note }

abbrev pub move_with : {A K N : Type 0} → ℕ → History A K → Option (Msg K) → Option (Outcome A K N) → Option (History A K × Event N)
move_with a p v None = None
move_with a p v (Some o) = Some (history_after a p v o, event_of a p.clock v o)

-- what the move v makes of the history of actor a
abbrev pub move_of : {A K N : Type 0} → Rules A K N → ℕ → History A K → Option (Msg K) → Option (History A K × Event N)
move_of r a p v = move_with a p v (outcome_of r a p.local v)

-- the log es leads actor a from p to q: its events are moves of that actor alone
abbrev pub Local : {A K N : Type 0} → Rules A K N → ℕ → History A K → List (Event N) → History A K → Type 0
Local r a p [] q = p ≡ q
Local {A} {K} r a p (e ∷ es) q = (u : History A K) × (v : Option (Msg K)) × (move_of r a p v ≡ Some (u, e)) × Local r a u es q

-- ------------------------------------------------------------------------------ all actors

-- a history for each actor
abbrev pub Histories : Type 0 → Type 0 → Type 0
Histories A K = ℕ → History A K

-- the function f, with x at p
abbrev pub put : {X : Type 0} → (ℕ → X) → ℕ → X → ℕ → X
put f p x q = cond (nat_eq p q) x (f q)

abbrev pub same_id : MsgId → MsgId → Bool
same_id i j = nat_eq i.sender j.sender && nat_eq i.seq j.seq

-- whether a message of the list has this id
abbrev pub has_id : {K : Type 0} → MsgId → List (Msg K) → Bool
has_id i [] = false
has_id i (m ∷ ms) = cond (same_id i m.id) true (has_id i ms)

-- the message at that number in its sender's sent list
abbrev pub sent_as : {A K : Type 0} → Histories A K → MsgId → Option (Msg K)
sent_as s i = slice_get (s i.sender).sent i.seq

abbrev pub unless_taken : {A K : Type 0} → Histories A K → MsgId → Option (Msg K) → Option (Msg K)
unless_taken s i None = None
unless_taken s i (Some m) = cond (has_id i (s m.to).taken) None (Some m)

-- the message with this id that was sent and that its receiver hasn't taken
abbrev pub in_flight : {A K : Type 0} → Histories A K → MsgId → Option (Msg K)
in_flight s i = unless_taken s i (sent_as s i)

abbrev pub step_with : {A K N : Type 0} → Histories A K → ℕ → Option (History A K × Event N) → Option (Histories A K × Event N)
step_with s a None = None
step_with s a (Some x) = Some (put s a x.0, x.1)

abbrev pub step_taking : {A K N : Type 0} → Rules A K N → Histories A K → ℕ → Option (Msg K) → Option (Histories A K × Event N)
step_taking r s a None = None
step_taking r s a (Some m) = cond (nat_eq m.to a) (step_with s a (move_of r a (s a) (Some m))) None

-- one step: an act of a, or the take by a of the message with id i, which must be in flight to a
abbrev pub step : {A K N : Type 0} → Rules A K N → Histories A K → Choice → Option (Histories A K × Event N)
step r s (Act a) = step_with s a (move_of r a (s a) None)
step r s (Take a i) = step_taking r s a (in_flight s i)

-- the choices lead from s to t, with these events; absent where one step is absent
abbrev pub Run : {A K N : Type 0} → Rules A K N → Histories A K → List Choice → Histories A K → List (Event N) → Type 0
Run r s [] t es = (s ≡ t) × (es ≡ [])
Run {A} {K} {N} r s (c ∷ cs) t es = (u : Histories A K) × (e : Event N) × (fs : List (Event N)) × (step r s c ≡ Some (u, e)) × (es ≡ e ∷ fs) × Run r u cs t fs

-- the choices that events name
abbrev pub choices : {N : Type 0} → List (Event N) → List Choice
choices es = map (λ e. e.choice) es

-- the events of actor a
abbrev pub own_events : {N : Type 0} → ℕ → List (Event N) → List (Event N)
own_events a [] = []
own_events a (e ∷ es) = cond (nat_eq e.stamp.actor a) (e ∷ own_events a es) (own_events a es)

-- clocks of c and more, each not below the one before
abbrev pub ClocksRise : {N : Type 0} → ℕ → List (Event N) → Type 0
ClocksRise c [] = Unit {0}
ClocksRise c (e ∷ es) = (c ≤ e.stamp.clock) × ClocksRise e.stamp.clock es

-- each message taken by a is the entry of its number in its sender's sent list, is for a, and was taken once
abbrev pub EachTaken : {A K : Type 0} → Histories A K → ℕ → List (Msg K) → Type 0
EachTaken s a [] = Unit {0}
EachTaken s a (m ∷ ms) = (sent_as s m.id ≡ Some m) × (m.to ≡ a) × (has_id m.id ms ≡ false) × EachTaken s a ms

abbrev pub Consistent : {A K : Type 0} → Histories A K → Type 0
Consistent s = (a : ℕ) → EachTaken s a (s a).taken

-- an actor in the state x that hasn't moved
abbrev pub start_history : {A K : Type 0} → A → History A K
start_history x = record { local = x; clock = 0; sent = []; taken = [] }

-- no actor has moved; actor a is in the state f a
abbrev pub start : {A K : Type 0} → (ℕ → A) → Histories A K
start f a = start_history (f a)

-- each message that a sent has a's name, its number in the list, and a clock that a's has reached
abbrev pub IsNumbered : {A K : Type 0} → ℕ → History A K → Type 0
IsNumbered {A} {K} a p = (k : ℕ) (m : Msg K) → slice_get p.sent k ≡ Some m → (m.id ≡ record { sender = a; seq = k }) × (m.stamp.actor ≡ a) × (m.stamp.clock ≤ p.clock)

-- what holds in all histories that runs lead to
pub record IsSound {A K : Type 0} (s : Histories A K) : Type 0 where
  pub own : (a : ℕ) → IsNumbered a (s a)
  pub consistent : Consistent s

-- the logs of the actors from k on lead from s to t
abbrev pub LogsLead : {A K N : Type 0} → Rules A K N → Histories A K → ℕ → List (List (Event N)) → Histories A K → Type 0
LogsLead r s k [] t = (a : ℕ) → k ≤ a → s a ≡ t a
LogsLead r s k (l ∷ ls) t = Local r k (s k) l (t k) × LogsLead r s (suc k) ls t

-- ------------------------------------------------------------------------------ order by stamp

-- one list after another
abbrev pub joined : {X : Type 0} → List (List X) → List X
joined [] = []
joined (l ∷ ls) = l ++ joined ls

-- stamps are ordered by clock, then actor
abbrev pub NotAfter : {N : Type 0} → Event N → Event N → Type 0
NotAfter e f = (e.stamp.clock < f.stamp.clock) ⊎ ((e.stamp.clock ≡ f.stamp.clock) × (e.stamp.actor ≤ f.stamp.actor))

abbrev pub Before : {N : Type 0} → Event N → Event N → Type 0
Before e f = (e.stamp.clock < f.stamp.clock) ⊎ ((e.stamp.clock ≡ f.stamp.clock) × (e.stamp.actor < f.stamp.actor))

-- each event and the next are as R says
abbrev pub Chain : {N : Type 0} → (Event N → Event N → Type 0) → List (Event N) → Type 0
Chain R [] = Unit {0}
Chain {N} R (e ∷ es) = elim es as (λ fs. Type 0) [ [] ↦ Unit {0} | f ∷ fs ↦ R e f ] × Chain R es

-- stamps rise, or stay
abbrev pub InOrder : {N : Type 0} → List (Event N) → Type 0
InOrder es = Chain NotAfter es

-- stamps rise
abbrev pub Strict : {N : Type 0} → List (Event N) → Type 0
Strict es = Chain Before es

-- two events have one stamp
abbrev pub same_stamp : {N : Type 0} → Event N → Event N → Bool
same_stamp x e = cond (nat_eq e.stamp.actor x.stamp.actor) (nat_eq e.stamp.clock x.stamp.clock) false

-- fs has the events of es in the order of their stamps; those with one stamp stand as they did
pub record IsSorted {N : Type 0} (es fs : List (Event N)) : Type 0 where
  pub ordered : InOrder fs
  pub stable : (x : Event N) → filter (same_stamp x) fs ≡ filter (same_stamp x) es
