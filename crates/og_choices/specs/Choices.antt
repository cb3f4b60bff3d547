-- The enabled choices of a machine: an act for each mark, and a take for each message in flight.
use Rattle.std.specs.Prelude.{◌≡◌, ℕ, zero, suc, ◌+◌, ◌<◌, ◌≤◌, Bool, nat_eq, nat_lt, ◌&&◌, List, [], ◌∷◌, ◌++◌, Some, length, map, slice_get, if◌then◌else◌}
use Rattle.og_runs.specs.declared.Choice.{Choice}
use Rattle.og_runs.specs.declared.Choice.TheVariants.{Act, Take}
use Rattle.og_flight.specs.Flight.{Flying, messages_to, messages_below}
use Rattle.og_choices.specs.Marks.{is_marked, marks_below}

-- what callers see: the messages in flight, how many nodes there are, a word that marks the nodes whose act is enabled, and whether the
-- act of the actor behind the nodes is
pub record Offer (K : Type 0) : Type 0 where
  pub flight : Flying K
  pub nodes : ℕ
  pub ready : ℕ
  pub last : Bool

-- the act of an actor is enabled
abbrev pub may_act_at : {K : Type 0} → Offer K → ℕ → Bool
may_act_at o a = if nat_lt a o.nodes then is_marked o.ready a else (nat_eq a o.nodes && o.last)

-- the choices of one actor: its act, and then its takes by sender and number
abbrev pub choices_at : {K : Type 0} → Offer K → ℕ → List Choice
choices_at o a = (if may_act_at o a then Act a ∷ [] else []) ++ map (λ m. Take a m.id) (messages_to a o.flight.messages)

-- the choices of the first n actors, actor by actor
abbrev pub choices_to : {K : Type 0} → Offer K → ℕ → List Choice
choices_to o zero = []
choices_to o (suc n) = choices_to o n ++ choices_at o n

-- how many choices there are
abbrev pub count_of : {K : Type 0} → Offer K → ℕ
count_of o = marks_below o.ready o.nodes + (if o.last then 1 else 0) + length o.flight.messages

-- ------------------------------------------------------------------------------ inside

-- how many acts the actors below a have
abbrev pub acts_below : {K : Type 0} → Offer K → ℕ → ℕ
acts_below o a = if nat_lt o.nodes a then marks_below o.ready o.nodes + (if o.last then 1 else 0) else marks_below o.ready a

-- and how many choices
abbrev pub choices_below : {K : Type 0} → Offer K → ℕ → ℕ
choices_below o a = acts_below o a + length (messages_below a o.flight.messages)

-- the actor of each choice, in the order of the choices
pub record AreTurns {K : Type 0} (o : Offer K) (turns : List ℕ) : Type 0 where
  pub all : length turns ≡ count_of o
  pub own : (k a : ℕ) → slice_get turns k ≡ Some a → (choices_below o a ≤ k) × (k < choices_below o (suc a))
