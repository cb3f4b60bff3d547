-- No step leaves an actor with all that it waits for.
use Rattle.std.proofs.Common.{◌≡◌, ◌∙◌, ℕ, zero, suc, ◌<◌, Bool, true, false, nat_eq, arith, refl, sym, subst, Option, None, Some, List, [], ◌∷◌, ◌++◌, map, length, slice_get, slice_set}
use Rattle.std.proofs.lemmas.Bool.Decides.{nat_tests}
use Rattle.std.proofs.lemmas.Option.{slice_get_within}
use Rattle.og_base.specs.Numbers.{below}
use Rattle.og_runs.specs.declared.Msg.{Msg}
use Rattle.og_runs.specs.declared.Event.{Event}
use Rattle.og_runs.specs.declared.Seat.{Seat}
use Rattle.og_runs.specs.Runs.{Outcome, outcome_of}
use Rattle.og_runs.specs.World.{seat_after}
use Rattle.og_msg.specs.declared.Kind.{Kind}
use Rattle.og_msg.specs.declared.Note.{Note}
use Rattle.og_image.specs.Image.{ImageState}
use Rattle.og_node.specs.Node.{is_for_home, take_by}
use Rattle.og_mover.specs.Table.{MoverState, has_act}
use Rattle.og_mover.specs.Sound.{IsMover}
use Rattle.og_machine.specs.Machine.{Setup, ActorState, Node, Mover, Machine, rules, act_of, take_of, can_act, acting, taking, has_row, by_node, start_machine, start_node, start_mover, new_seat}
use Rattle.og_refine_waits.specs.Laws.{IsPatient, IsPatientMover}
use Rattle.og_refine_waits.proofs.Processors.{start_patient, act_patient, take_patient}
use Rattle.og_refine_waits.proofs.Mover.{start_patient as start_mover_patient, act_patient as act_mover_patient, take_patient as take_mover_patient}
use Rattle.og_refine.proofs.Seats.{get_own, get_other}
use Rattle.og_refine.proofs.Moved.{Moved}
use Rattle.og_refine.proofs.Events.{enabled_is, may_is, row_is}

-- an actor waits for something, where it waits
abbrev pub IsPatientActor : ImageState → ActorState → Type 0
IsPatientActor image (Node x) = IsPatient x.processor
IsPatientActor image (Mover m) = IsPatientMover m

abbrev pub ArePatient : ImageState → Machine → Type 0
ArePatient image w = (q : ℕ) (seat : Seat ActorState) → slice_get w.seats q ≡ Some seat → IsPatientActor image seat.local

-- what an actor is after its event
patient_after : (setup : Setup) (a : ℕ) (local : ActorState) (taken : Option (Msg Kind)) (result : Outcome ActorState Kind Note) → IsPatientActor setup.image local → ((m : MoverState) → local ≡ Mover m → IsMover m) →
    outcome_of (rules setup) a local taken ≡ Some result → IsPatientActor setup.image result.local
unfolding act_of take_of
patient_after setup a (Node x) None result h sound is =
    let r = enabled_is (can_act setup (Node x)) (acting setup (Node x)) result is in
    subst (λ (o : Outcome ActorState Kind Note). IsPatientActor setup.image o.local) r.1 (act_patient setup.image x.processor h r.0)
patient_after setup a (Node x) (Some message) result h sound is =
    let r = row_is (has_row (Node x) message) (taking setup (Node x) message) result is in
    subst (λ (o : Outcome ActorState Kind Note). IsPatientActor setup.image o.local) r.1 (by (is_for_home message.kind))
  where
    by : (t : Bool) → IsPatientActor setup.image (by_node (take_by t setup.image x message)).local
    by true = h
    by false = take_patient setup.image x.processor message.kind h
patient_after setup a (Mover m) None result h sound is =
    let r = enabled_is (can_act setup (Mover m)) (acting setup (Mover m)) result is in
    subst (λ (o : Outcome ActorState Kind Note). IsPatientActor setup.image o.local) r.1 (act_mover_patient m (may_is (has_act m.job) r.0))
patient_after setup a (Mover m) (Some message) result h sound is =
    let r = row_is (has_row (Mover m) message) (taking setup (Mover m) message) result is in
    subst (λ (o : Outcome ActorState Kind Note). IsPatientActor setup.image o.local) r.1 (take_mover_patient m message (sound m refl) h)

-- the machine after it
pub step_patient : (setup : Setup) (w u : Machine) (e : Event Note) → ArePatient setup.image w → ((q : ℕ) (seat : Seat ActorState) (m : MoverState) → slice_get w.seats q ≡ Some seat → seat.local ≡ Mover m → IsMover m) → Moved (rules setup) w u e → ArePatient setup.image u
step_patient setup w u e h sound m = subst (ArePatient setup.image) (sym m.world) (λ q seat there. by q seat there (nat_eq q m.actor) refl)
  where
    inside : m.actor < length w.seats
    inside = slice_get_within w.seats m.actor m.seat m.there

    new : Seat ActorState
    new = seat_after m.seat m.taken m.result

    by : (q : ℕ) (seat : Seat ActorState) → slice_get (slice_set w.seats m.actor new) q ≡ Some seat → (t : Bool) → nat_eq q m.actor ≡ t → IsPatientActor setup.image seat.local
    by q seat there true e =
        let same : q ≡ m.actor = grind (arith, nat_tests) in
        let own : slice_get (slice_set w.seats m.actor new) q ≡ Some new = subst (λ (z : ℕ). slice_get (slice_set w.seats m.actor new) z ≡ Some new) (sym same) (get_own w.seats m.actor new inside) in
        let one : new ≡ seat = cc in
        subst (λ (z : Seat ActorState). IsPatientActor setup.image z.local) one
        (patient_after setup m.actor m.seat.local m.taken m.result (h m.actor m.seat m.there) (λ k is. sound m.actor m.seat k m.there is) m.is)
    by q seat there false e = h q seat (sym (get_other w.seats m.actor q new inside e) ∙ there)

-- the machine at its start
pub start_is_patient : (setup : Setup) → ArePatient setup.image (start_machine setup)
unfolding start_machine
start_is_patient setup q seat there = by (below setup.settings.nodes) q there
  where
    by : (ns : List ℕ) (a : ℕ) → slice_get (map (λ number. new_seat (start_node setup number)) ns ++ new_seat (start_mover setup) ∷ []) a ≡ Some seat → IsPatientActor setup.image seat.local
    by [] zero e = let same : new_seat (start_mover setup) ≡ seat = cc in subst (λ (z : Seat ActorState). IsPatientActor setup.image z.local) same (start_mover_patient setup.layout setup.settings)
    by [] (suc a) e = absurd (cc)
    by (n ∷ ns) zero e = let same : new_seat (start_node setup n) ≡ seat = cc in subst (λ (z : Seat ActorState). IsPatientActor setup.image z.local) same (start_patient setup.image setup.settings n)
    by (n ∷ ns) (suc a) e = by ns a e
