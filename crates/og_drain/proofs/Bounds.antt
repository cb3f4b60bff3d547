-- The measure is bounded.
use Rattle.std.proofs.Common.{◌≡◌, ◌∙◌, ◌≤◌, ◌<◌, ℕ, zero, suc, ◌+◌, ◌*◌, ◌-◌, refl, sym, subst, List, [], ◌∷◌, Option, None, Some, length, slice_get, arith}
use Rattle.std.proofs.Math.Nat.{mul-le-mul_left, suc-mul, mul_assoc, mul_left_comm}
use Rattle.std.proofs.lemmas.List.Sums.{sum_by-cons}
use Rattle.og_base.specs.declared.Frame.{Frame}
use Rattle.og_runs.specs.declared.Msg.{Msg}
use Rattle.og_runs.specs.declared.Seat.{Seat}
use Rattle.og_msg.specs.declared.Kind.{Kind}
use Rattle.og_msg.specs.declared.Kind.TheVariants.{Nak, PoisonRead, Hot}
use Rattle.og_mover.specs.declared.Phase.{Phase}
use Rattle.og_mover.specs.declared.Phase.TheVariants.{Ask, Collect, Hold, Wait, Publish}
use Rattle.og_mover.specs.declared.Clearing.TheVariants.{Tell}
use Rattle.og_mover.specs.declared.Job.{Job}
use Rattle.og_mover.specs.declared.Job.TheVariants.{Idle, Move, Reclaim}
use Rattle.og_node.specs.Node.{NodeState}
use Rattle.og_machine.specs.Machine.{ActorState, Node, Mover, Machine}
use Rattle.og_drain.specs.Measure.{most, weight, messages_weight, rest, phase_left, job_left, held_left, actor_left, seats_left, measure}
use Rattle.og_drain.specs.Laws.{MeasureIsBounded}

-- ---- weights

weight_most : (nodes : ℕ) (kind : Kind) → weight nodes kind ≤ most nodes
weight_most nodes (Hot hot) = omega arith
weight_most nodes (Nak b) = omega arith
weight_most nodes (PoisonRead b) = omega arith
weight_most nodes kind = omega arith

-- ---- jobs

rest_most : (nodes blocks : ℕ) → blocks ≤ 32 → rest nodes blocks + 3 ≤ most nodes
rest_most nodes blocks few = together ((2 * nodes + 6) * blocks) (mul-le-mul_left (2 * nodes + 6) few)
  where
    together : (y : ℕ) → y ≤ (2 * nodes + 6) * 32 → y + 1 + 3 ≤ most nodes
    together y h = omega arith

less : (r m : ℕ) → r + 3 ≤ m → r ≤ m
less r m h = omega arith

phase_most : (nodes : ℕ) (phase : Phase) → phase_left nodes phase ≤ most nodes
phase_most nodes (Ask b) = less (rest nodes (32 - b)) (most nodes) (rest_most nodes (32 - b) (omega arith))
phase_most nodes (Collect b received) = rest_most nodes (31 - b) (omega arith)
phase_most nodes (Hold b line) = rest_most nodes (31 - b) (omega arith)
phase_most nodes (Wait b) = less (rest nodes (31 - b)) (most nodes) (rest_most nodes (31 - b) (omega arith))
phase_most nodes Publish = omega arith

job_most : (nodes : ℕ) (job : Job) → job_left nodes job ≤ most nodes
job_most nodes Idle = omega arith
job_most nodes (Move route phase) = phase_most nodes phase
job_most nodes (Reclaim frame Tell) = omega arith
job_most nodes (Reclaim frame step) = omega arith

held_one : (o : Option Frame) → held_left o ≤ 1
held_one None = omega arith
held_one (Some frame) = omega arith

actor_most : (nodes : ℕ) (x : ActorState) → actor_left nodes x ≤ most nodes
actor_most nodes (Node x) = together (held_left x.processor.drop) (held_one x.processor.drop)
  where
    together : (h : ℕ) → h ≤ 1 → h ≤ most nodes
    together h e = omega arith
actor_most nodes (Mover m) = job_most nodes m.job

-- ---- sums

messages_most : (nodes : ℕ) (ms : List (Msg Kind)) → messages_weight nodes ms ≤ length ms * most nodes
messages_most nodes [] = omega arith
messages_most nodes (m ∷ ms) = together (messages_weight nodes (m ∷ ms)) (weight nodes m.kind) (messages_weight nodes ms) (length ms * most nodes) (suc (length ms) * most nodes) (most nodes)
    (sum_by-cons (λ (x : Msg Kind). weight nodes x.kind) m ms) (weight_most nodes m.kind) (messages_most nodes ms) (suc-mul (length ms) (most nodes))
  where
    together : (a b c d e m : ℕ) → a ≡ b + c → b ≤ m → c ≤ d → e ≡ d + m → a ≤ e
    together a b c d e m f g h i = omega arith

-- one seat behind k others, each of which has 1 left at most
seats_most : (nodes k : ℕ) (xs : List (Seat ActorState)) → length xs ≡ k + 1 → ((q : ℕ) (seat : Seat ActorState) → q < k → slice_get xs q ≡ Some seat → actor_left nodes seat.local ≤ 1) → seats_left nodes xs ≤ k + most nodes
seats_most nodes k [] long few = absurd (omega arith)
seats_most nodes zero (x ∷ []) long few = together (seats_left nodes (x ∷ [])) (actor_left nodes x.local) (sum_by-cons (λ (s : Seat ActorState). actor_left nodes s.local) x []) (actor_most nodes x.local)
  where
    together : (a b : ℕ) → a ≡ b + 0 → b ≤ most nodes → a ≤ 0 + most nodes
    together a b e h = omega arith
seats_most nodes zero (x ∷ y ∷ xs) long few = absurd (omega arith)
seats_most nodes (suc k) (x ∷ xs) long few = together (seats_left nodes (x ∷ xs)) (actor_left nodes x.local) (seats_left nodes xs) (most nodes)
    (sum_by-cons (λ (s : Seat ActorState). actor_left nodes s.local) x xs) (few 0 x (omega arith) refl) (seats_most nodes k xs (omega arith) (λ q seat low e. few (suc q) seat (omega arith) e))
  where
    together : (a b c m : ℕ) → a ≡ b + c → b ≤ 1 → c ≤ k + m → a ≤ suc k + m
    together a b c m e f g = omega arith

-- ---- the measure

spread : (f n : ℕ) → 64 * (32 + f) * (n + 4) ≡ 32 * (64 * (n + 4)) + f * (64 * (n + 4))
spread f n = mul_assoc 64 (32 + f) (n + 4) ∙ (sym (mul_left_comm (32 + f) 64 (n + 4)) ∙ apart (64 * (n + 4)))
  where
    apart : (m : ℕ) → (32 + f) * m ≡ 32 * m + f * m
    apart m = omega arith

measure_most : (nodes : ℕ) (w : Machine) → length w.seats ≡ nodes + 1 → ((q : ℕ) (seat : Seat ActorState) → q < nodes → slice_get w.seats q ≡ Some seat → (x : NodeState) × (seat.local ≡ Node x)) → measure nodes w ≤ 64 * (32 + length w.flight) * (nodes + 4)
unfolding measure
measure_most nodes w long are =
    together (messages_weight nodes w.flight) (seats_left nodes w.seats) (length w.flight * most nodes) (64 * (32 + length w.flight) * (nodes + 4))
    (messages_most nodes w.flight) (seats_most nodes nodes w.seats long (λ q seat low e. one seat (are q seat low e))) (spread (length w.flight) nodes)
  where
    one : (seat : Seat ActorState) → (x : NodeState) × (seat.local ≡ Node x) → actor_left nodes seat.local ≤ 1
    one seat is = subst (λ (x : ActorState). actor_left nodes x ≤ 1) (sym is.1) (held_one is.0.processor.drop)

    together : (a b c d : ℕ) → a ≤ c → b ≤ nodes + most nodes → d ≡ 32 * most nodes + c → a + b ≤ d
    together a b c d f g h = omega arith

pub measure_is_bounded : MeasureIsBounded
measure_is_bounded = record { weights = weight_most; jobs = job_most; machines = measure_most }
