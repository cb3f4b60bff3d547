-- Sums over the messages in flight, and over the seats, after a step.
use Rattle.std.proofs.Common.{◌≡◌, ◌∙◌, ◌≤◌, ℕ, zero, suc, ◌+◌, Bool, true, false, cond, Some, refl, sym, ap, List, [], ◌∷◌, slice_get, slice_set, arith, ◌⊎◌, inl, inr}
use Rattle.std.proofs.lemmas.List.Sums.{sum_by-cons}
use Rattle.og_runs.specs.declared.Letter.{Letter}
use Rattle.og_runs.specs.declared.Msg.{Msg}
use Rattle.og_runs.specs.declared.MsgId.{MsgId}
use Rattle.og_runs.specs.declared.Seat.{Seat}
use Rattle.og_runs.specs.Runs.{same_id, posted}
use Rattle.og_runs.specs.World.{find, without, precedes, placed, placed_all}
use Rattle.og_runs.proofs.Placed.{same_id_equal}
use Rattle.og_msg.specs.declared.Kind.{Kind}
use Rattle.og_machine.specs.Machine.{ActorState}
use Rattle.og_drain.specs.Measure.{weight, letters_weight, messages_weight, actor_left, seats_left}

more : (nodes : ℕ) (m : Msg Kind) (ms : List (Msg Kind)) → messages_weight nodes (m ∷ ms) ≡ weight nodes m.kind + messages_weight nodes ms
more nodes m ms = sum_by-cons (λ (x : Msg Kind). weight nodes x.kind) m ms

-- ---- messages that are sent

-- a message at its place
placed_weighs : (nodes : ℕ) (m : Msg Kind) (ms : List (Msg Kind)) → messages_weight nodes (placed m ms) ≡ weight nodes m.kind + messages_weight nodes ms
placed_weighs nodes m [] = more nodes m []
placed_weighs nodes m (x ∷ xs) = by (precedes x m) (placed_weighs nodes m xs)
  where
    swap : (a b c d : ℕ) → d ≡ b + c → a + d ≡ b + (a + c)
    swap a b c d e = omega arith

    by : (t : Bool) → messages_weight nodes (placed m xs) ≡ weight nodes m.kind + messages_weight nodes xs → messages_weight nodes (cond t (x ∷ placed m xs) (m ∷ x ∷ xs)) ≡ weight nodes m.kind + messages_weight nodes (x ∷ xs)
    by true h = more nodes x (placed m xs) ∙ (swap (weight nodes x.kind) (weight nodes m.kind) (messages_weight nodes xs) (messages_weight nodes (placed m xs)) h ∙ ap (λ (k : ℕ). weight nodes m.kind + k) (sym (more nodes x xs)))
    by false h = more nodes m (x ∷ xs)

-- messages at their places
pub all_weigh : (nodes : ℕ) (ns ms : List (Msg Kind)) → messages_weight nodes (placed_all ms ns) ≡ messages_weight nodes ms + messages_weight nodes ns
all_weigh nodes [] ms = omega arith
all_weigh nodes (n ∷ ns) ms = together (messages_weight nodes (placed_all (placed n ms) ns)) (messages_weight nodes (placed n ms)) (messages_weight nodes ns) (weight nodes n.kind) (messages_weight nodes ms) (messages_weight nodes (n ∷ ns))
    (all_weigh nodes ns (placed n ms)) (placed_weighs nodes n ms) (more nodes n ns)
  where
    together : (a b c d e f : ℕ) → a ≡ b + c → b ≡ d + e → f ≡ d + c → a ≡ e + f
    together a b c d e f i j k = omega arith

-- letters weigh as much as the messages that they become
pub posted_weigh : (nodes a c k : ℕ) (letters : List (Letter Kind)) → messages_weight nodes (posted a c k letters) ≡ letters_weight nodes letters
posted_weigh nodes a c k [] = refl
posted_weigh nodes a c k (l ∷ ls) = more nodes (record { id = record { sender = a; seq = k }; to = l.to; stamp = record { clock = c; actor = a }; kind = l.kind }) (posted a c (suc k) ls)
    ∙ (ap (λ (n : ℕ). weight nodes l.kind + n) (posted_weigh nodes a c (suc k) ls) ∙ sym (sum_by-cons (λ (x : Letter Kind). weight nodes x.kind) l ls))

-- ---- a message that is taken

less : (nodes : ℕ) (i : MsgId) (ms : List (Msg Kind)) → messages_weight nodes (without i ms) ≤ messages_weight nodes ms
less nodes i [] = omega arith
less nodes i (x ∷ xs) = by (same_id i x.id) (less nodes i xs)
  where
    gone : (a b c d : ℕ) → a ≤ b → d ≡ c + b → a ≤ d
    gone a b c d h e = omega arith

    kept : (a b c d f : ℕ) → a ≤ b → d ≡ c + b → f ≡ c + a → f ≤ d
    kept a b c d f h e g = omega arith

    by : (t : Bool) → messages_weight nodes (without i xs) ≤ messages_weight nodes xs → messages_weight nodes (cond t (without i xs) (x ∷ without i xs)) ≤ messages_weight nodes (x ∷ xs)
    by true h = gone (messages_weight nodes (without i xs)) (messages_weight nodes xs) (weight nodes x.kind) (messages_weight nodes (x ∷ xs)) h (more nodes x xs)
    by false h = kept (messages_weight nodes (without i xs)) (messages_weight nodes xs) (weight nodes x.kind) (messages_weight nodes (x ∷ xs)) (messages_weight nodes (x ∷ without i xs)) h (more nodes x xs) (more nodes x (without i xs))

-- without what was found there is so much less
pub found_weighs : (nodes : ℕ) (i : MsgId) (m : Msg Kind) (ms : List (Msg Kind)) → find i ms ≡ Some m → weight nodes m.kind + messages_weight nodes (without i ms) ≤ messages_weight nodes ms
found_weighs nodes i m [] e = absurd (cc)
found_weighs nodes i m (x ∷ xs) e = by (same_id i x.id) e (λ f. found_weighs nodes i m xs f)
  where
    here : (a b c d k : ℕ) → a ≤ b → d ≡ c + b → k ≡ c → k + a ≤ d
    here a b c d k h e f = omega arith

    behind : (a b c d f k : ℕ) → k + a ≤ b → d ≡ c + b → f ≡ c + a → k + f ≤ d
    behind a b c d f k h e g = omega arith

    by : (t : Bool) → cond t (Some x) (find i xs) ≡ Some m → (find i xs ≡ Some m → weight nodes m.kind + messages_weight nodes (without i xs) ≤ messages_weight nodes xs)
        → weight nodes m.kind + messages_weight nodes (cond t (without i xs) (x ∷ without i xs)) ≤ messages_weight nodes (x ∷ xs)
    by true f h = let same : x ≡ m = cc in here (messages_weight nodes (without i xs)) (messages_weight nodes xs) (weight nodes x.kind) (messages_weight nodes (x ∷ xs)) (weight nodes m.kind) (less nodes i xs) (more nodes x xs) (ap (λ (y : Msg Kind). weight nodes y.kind) (sym same))
    by false f h = behind (messages_weight nodes (without i xs)) (messages_weight nodes xs) (weight nodes x.kind) (messages_weight nodes (x ∷ xs)) (messages_weight nodes (x ∷ without i xs)) (weight nodes m.kind) (h f) (more nodes x xs) (more nodes x (without i xs))

-- what is found has the id
pub found_id : (i : MsgId) (m : Msg Kind) (ms : List (Msg Kind)) → find i ms ≡ Some m → i ≡ m.id
found_id i m [] e = absurd (cc)
found_id i m (x ∷ xs) e = by (same_id i x.id) refl e (λ f. found_id i m xs f)
  where
    by : (t : Bool) → same_id i x.id ≡ t → cond t (Some x) (find i xs) ≡ Some m → (find i xs ≡ Some m → i ≡ m.id) → i ≡ m.id
    by true n f h = let same : x ≡ m = cc in same_id_equal i x.id n ∙ ap (λ (y : Msg Kind). y.id) same
    by false n f h = h f

-- ---- seats

seat_more : (nodes : ℕ) (x : Seat ActorState) (xs : List (Seat ActorState)) → seats_left nodes (x ∷ xs) ≡ actor_left nodes x.local + seats_left nodes xs
seat_more nodes x xs = sum_by-cons (λ (s : Seat ActorState). actor_left nodes s.local) x xs

-- another actor on a seat
pub set_left : (nodes : ℕ) (xs : List (Seat ActorState)) (a : ℕ) (x y : Seat ActorState) → slice_get xs a ≡ Some x → seats_left nodes (slice_set xs a y) + actor_left nodes x.local ≡ seats_left nodes xs + actor_left nodes y.local
set_left nodes [] a x y e = absurd (cc)
set_left nodes (z ∷ xs) zero x y e = let same : z ≡ x = cc in together (seats_left nodes (y ∷ xs)) (seats_left nodes (z ∷ xs)) (seats_left nodes xs) (actor_left nodes x.local) (actor_left nodes y.local) (actor_left nodes z.local)
    (seat_more nodes y xs) (seat_more nodes z xs) (ap (λ (s : Seat ActorState). actor_left nodes s.local) same)
  where
    together : (a b c x y z : ℕ) → a ≡ y + c → b ≡ z + c → z ≡ x → a + x ≡ b + y
    together a b c x y z e f g = omega arith
set_left nodes (z ∷ xs) (suc a) x y e = together (seats_left nodes (z ∷ slice_set xs a y)) (seats_left nodes (z ∷ xs)) (seats_left nodes (slice_set xs a y)) (seats_left nodes xs) (actor_left nodes x.local) (actor_left nodes y.local) (actor_left nodes z.local)
    (seat_more nodes z (slice_set xs a y)) (seat_more nodes z xs) (set_left nodes xs a x y e)
  where
    together : (a b c d x y z : ℕ) → a ≡ z + c → b ≡ z + d → c + x ≡ d + y → a + x ≡ b + y
    together a b c d x y z e f g = omega arith

-- each seat is the new one, or as before
pub set_seats : (xs : List (Seat ActorState)) (a q : ℕ) (y seat : Seat ActorState) → slice_get (slice_set xs a y) q ≡ Some seat → (seat ≡ y) ⊎ (slice_get xs q ≡ Some seat)
set_seats [] a q y seat e = inr e
set_seats (z ∷ xs) zero zero y seat e = inl (let same : y ≡ seat = cc in sym same)
set_seats (z ∷ xs) zero (suc q) y seat e = inr e
set_seats (z ∷ xs) (suc a) zero y seat e = inr e
set_seats (z ∷ xs) (suc a) (suc q) y seat e = set_seats xs a q y seat e
