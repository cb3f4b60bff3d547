-- The drain's next choice, from what the calls give.
use Rattle.std.proofs.Common.{◌≡◌, ◌∙◌, ℕ, zero, suc, ◌+◌, Bool, true, false, not, cond, arith, refl, sym, ap, subst, Option, None, Some, List, [], ◌∷◌, length, drop}
use Rattle.std.specs.Prelude.{slice_get, if◌then◌else◌}
use Rattle.std.specs.List.{filter}
use Rattle.og_runs.specs.declared.Choice.TheVariants.{Act, Take}
use Rattle.og_runs.specs.declared.Msg.{Msg}
use Rattle.og_runs.specs.declared.Seat.{Seat}
use Rattle.og_flight.specs.Flight.{first_sent, sooner_of}
use Rattle.og_msg.specs.declared.Kind.{Kind}
use Rattle.og_node.specs.Kept.{KeptNode}
use Rattle.og_mover.specs.Table.{MoverState, has_act}
use Rattle.og_machine.specs.Machine.{Setup, or_else, mover_may}
use Rattle.og_machine.specs.Choices.{is_poison_read, act_by, mover_choice, drain_of}
use Rattle.og_engine.specs.Kept.{KeptMachine, machine_of, seats_of}

-- ---- the message that was sent first

-- no request of the mover's for a block
abbrev pub is_answer : Msg Kind → Bool
is_answer m = not (is_poison_read m.kind)

-- the first of the messages from the k-th on that are none, with the k-th
pub first_more : (ms : List (Msg Kind)) (k : ℕ) (m : Msg Kind) → slice_get ms k ≡ Some m →
    first_sent (filter is_answer (drop k ms)) ≡ (if is_answer m then sooner_of m (first_sent (filter is_answer (drop (suc k) ms))) else first_sent (filter is_answer (drop (suc k) ms)))
first_more [] k m e = absurd (cc)
first_more (x ∷ xs) zero m e =
    let same : x ≡ m = cc in
    subst (λ (z : Msg Kind). first_sent (filter is_answer (z ∷ xs)) ≡ (if is_answer m then sooner_of m (first_sent (filter is_answer xs)) else first_sent (filter is_answer xs))) (sym same) (at (is_answer m))
  where
    at : (t : Bool) → first_sent (cond t (m ∷ filter is_answer xs) (filter is_answer xs)) ≡ (if t then sooner_of m (first_sent (filter is_answer xs)) else first_sent (filter is_answer xs))
    at true = refl
    at false = refl
first_more (x ∷ xs) (suc k) m e = first_more xs k m e

pub first_end : (ms : List (Msg Kind)) (k : ℕ) → k ≡ length ms → first_sent (filter is_answer (drop k ms)) ≡ None
first_end [] zero e = refl
first_end [] (suc k) e = absurd (omega arith)
first_end (x ∷ xs) zero e = absurd (omega arith)
first_end (x ∷ xs) (suc k) e = first_end xs k (omega arith)

pub one_more_answer : (ms : List (Msg Kind)) (k j : ℕ) (m : Msg Kind) (least : Option (Msg Kind)) → suc j ≡ k → slice_get ms j ≡ Some m → is_answer m ≡ true → least ≡ first_sent (filter is_answer (drop k ms)) → sooner_of m least ≡ first_sent (filter is_answer (drop j ms))
one_more_answer ms k j m least next there counts is =
    ap (sooner_of m) (is ∙ ap (λ (n : ℕ). first_sent (filter is_answer (drop n ms))) (sym next))
    ∙ sym (first_more ms j m there ∙ ap (λ (t : Bool). if t then sooner_of m (first_sent (filter is_answer (drop (suc j) ms))) else first_sent (filter is_answer (drop (suc j) ms))) counts)

pub no_more_answer : (ms : List (Msg Kind)) (k j : ℕ) (m : Msg Kind) (least : Option (Msg Kind)) → suc j ≡ k → slice_get ms j ≡ Some m → is_answer m ≡ false → least ≡ first_sent (filter is_answer (drop k ms)) → least ≡ first_sent (filter is_answer (drop j ms))
no_more_answer ms k j m least next there other is =
    is ∙ ap (λ (n : ℕ). first_sent (filter is_answer (drop n ms))) (sym next)
    ∙ sym (first_more ms j m there ∙ ap (λ (t : Bool). if t then sooner_of m (first_sent (filter is_answer (drop (suc j) ms))) else first_sent (filter is_answer (drop (suc j) ms))) other)

-- ---- the mover's act

-- the mover is the only actor that a drain lets act, and it sits behind the nodes
pub mover_choice_is : (setup : Setup) (b : ℕ) (nodes : List (Seat KeptNode)) (mover : Seat MoverState) (a : ℕ) → a ≡ b + length nodes → mover_choice setup b (seats_of nodes mover) ≡ (if has_act mover.local.job then Some (Act a) else None)
mover_choice_is setup b [] mover a is = at (has_act mover.local.job)
  where
    at : (t : Bool) → or_else (slice_get (act_by b (mover_may t)) 0) None ≡ (if t then Some (Act a) else None)
    at true = let same : b ≡ a = omega arith in ap (λ (c : ℕ). Some (Act c)) same
    at false = refl
mover_choice_is setup b (x ∷ xs) mover a is = mover_choice_is setup (suc b) xs mover a (omega arith)

-- ---- the choice

pub taken_first : (setup : Setup) (kept : KeptMachine) (m : Msg Kind) → first_sent (filter is_answer kept.flight.messages) ≡ Some m → Some (Take m.to m.id) ≡ drain_of setup (machine_of kept)
unfolding drain_of machine_of
taken_first setup kept m e = rw e refl

pub taken_last : (setup : Setup) (kept : KeptMachine) (m : Msg Kind) → first_sent (filter is_answer kept.flight.messages) ≡ None → first_sent kept.flight.messages ≡ Some m → Some (Take m.to m.id) ≡ drain_of setup (machine_of kept)
unfolding drain_of machine_of
taken_last setup kept m e f = rw (e, f) refl

pub moved_last : (setup : Setup) (kept : KeptMachine) (a : ℕ) → first_sent (filter is_answer kept.flight.messages) ≡ None → first_sent kept.flight.messages ≡ None → a ≡ length kept.nodes →
    (if has_act kept.mover.local.job then Some (Act a) else None) ≡ drain_of setup (machine_of kept)
unfolding drain_of machine_of
moved_last setup kept a e f is = rw (e, f) (sym (mover_choice_is setup 0 kept.nodes kept.mover a (omega arith)))
