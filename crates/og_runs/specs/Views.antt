-- Logs as contracts see them: an actor's events beside the messages that it sent and took.
use Rattle.std.specs.Prelude.{◌≡◌, ℕ, suc, false, List, [], ◌∷◌, slice_get}
use Rattle.std.proofs.Common.{Option, None, Some}
use Rattle.og_runs.specs.declared.Msg.{Msg}
use Rattle.og_runs.specs.declared.Event.{Event}
use Rattle.og_runs.specs.Runs.{Rules, History, Local, has_id, start_history}

-- an actor's events in its own order, the messages that it sent, and those that it took
pub record View (K N : Type 0) : Type 0 where
  pub log : List (Event N)
  pub sent : List (Msg K)
  pub taken : List (Msg K)

-- from the state x on, the log's choices, given the taken messages in order, are moves of actor a alone,
-- with these stamps and notes, and they send exactly the sent list
abbrev pub LocalView : {A K N : Type 0} → Rules A K N → ℕ → A → View K N → Type 0
LocalView {A} {K} {N} r a x v = (q : History A K) × Local r a (start_history x) v.log q × (q.sent ≡ v.sent) × (q.taken ≡ v.taken)

-- so for each actor from k on, which starts in the state f says
abbrev pub LocalViews : {A K N : Type 0} → Rules A K N → (ℕ → A) → ℕ → List (View K N) → Type 0
LocalViews r f k [] = Unit {0}
LocalViews r f k (v ∷ vs) = LocalView r k (f k) v × LocalViews r f (suc k) vs

abbrev pub sent_list : {K N : Type 0} → Option (View K N) → List (Msg K)
sent_list None = []
sent_list (Some v) = v.sent

abbrev pub taken_list : {K N : Type 0} → Option (View K N) → List (Msg K)
taken_list None = []
taken_list (Some v) = v.taken

-- each message taken by a is the entry of its number in its sender's sent list, is for a, and was taken once
abbrev pub TakenOnce : {K N : Type 0} → List (View K N) → ℕ → List (Msg K) → Type 0
TakenOnce vs a [] = Unit {0}
TakenOnce vs a (m ∷ ms) = (slice_get (sent_list (slice_get vs m.id.sender)) m.id.seq ≡ Some m) × (m.to ≡ a) × (has_id m.id ms ≡ false) × TakenOnce vs a ms

abbrev pub ConsistentViews : {K N : Type 0} → List (View K N) → Type 0
ConsistentViews {K} {N} vs = (a : ℕ) (v : View K N) → slice_get vs a ≡ Some v → TakenOnce vs a v.taken

abbrev pub logs_of : {K N : Type 0} → List (View K N) → List (List (Event N))
logs_of [] = []
logs_of (v ∷ vs) = v.log ∷ logs_of vs
