-- A stopped machine: its nodes have no act, so what it doesn't drain is quiet.
use Rattle.std.proofs.Common.{◌≡◌, ◌∙◌, ℕ, zero, suc, ◌+◌, inl, inr, ◌&&◌, Bool, true, false, nat_eq, arith, refl, sym, ap, subst, Option, None, Some, List, [], ◌∷◌, ◌++◌, length, slice_get}
use Rattle.std.specs.Prelude.{is_some, if◌then◌else◌}
use Rattle.std.specs.List.{list_all}
use Rattle.std.proofs.lemmas.Bool.Decides.{nat_tests}
use Rattle.og_base.specs.declared.Cause.{Cause}
use Rattle.og_base.specs.declared.NotEnabled.TheVariants.{NoMessage}
use Rattle.og_runs.specs.declared.Choice.{Choice}
use Rattle.og_runs.specs.declared.Choice.TheVariants.{Act, Take}
use Rattle.og_runs.specs.declared.Event.{Event}
use Rattle.og_runs.specs.declared.Msg.{Msg}
use Rattle.og_runs.specs.declared.Seat.{Seat}
use Rattle.og_runs.specs.World.{find}
use Rattle.og_msg.specs.declared.Kind.{Kind}
use Rattle.og_msg.specs.declared.Note.{Note}
use Rattle.og_processor.specs.State.{ProcessorState}
use Rattle.og_processor.specs.Act.{may_act, may_act_by}
use Rattle.og_mover.specs.declared.Job.{Job}
use Rattle.og_mover.specs.declared.Job.TheVariants.{Idle, Move, Reclaim}
use Rattle.og_mover.specs.Table.{MoverState, has_act, is_idle_job}
use Rattle.og_machine.specs.Machine.{Setup, ActorState, Node, Mover, Machine, can_act, mover_may, has_stopped, is_at_rest, is_stopped, is_quiet, refusal_of, refusal_by, take_refusal, message_refusal, act_refusal}
use Rattle.og_machine.specs.Choices.{act_by, enabled_from, enabled_of, drain_of, mover_choice}
use Rattle.og_refine.specs.Machines.{IsRunnable, sizes_of}
use Rattle.og_refine.specs.Laws.{RunsTo}
use Rattle.og_machine.specs.FlatRun.{flat_begin}
use Rattle.og_refine.proofs.Tables.{tables}
use Rattle.og_refine.proofs.Begins.{sizes_are}
use Rattle.og_refine.proofs.Runs.{Followed, followed}
use Rattle.og_refine.proofs.Rows.{found_has_row, refusals_are_exact}
use Rattle.og_refine.proofs.GoesOn.{rests}
use Rattle.og_drain_facts.specs.Laws.{DrainGoesOn, DrainEndsQuiet}
use Rattle.og_drain_facts.proofs.Choices.{found_in, mover_acts, mover_rests, mover_silent, drained, undrained, nothing_drained}

-- what is said of all seats is said of each
pub each_seat : (p : Seat ActorState → Bool) (xs : List (Seat ActorState)) (a : ℕ) (x : Seat ActorState) → list_all p xs ≡ true → slice_get xs a ≡ Some x → p x ≡ true
each_seat p [] a x e there = absurd (cc)
each_seat p (y ∷ ys) zero x e there = let one : y ≡ x = cc in subst (λ (z : Seat ActorState). p z ≡ true) one (by (p y) e)
  where
    by : (t : Bool) → (t && list_all p ys) ≡ true → t ≡ true
    by true f = refl
    by false f = absurd (cc)
each_seat p (y ∷ ys) (suc a) x e there = each_seat p ys a x (by (p y) e) there
  where
    by : (t : Bool) → (t && list_all p ys) ≡ true → list_all p ys ≡ true
    by true f = f
    by false f = absurd (cc)

pub seat_stopped : (w : Machine) (a : ℕ) (x : Seat ActorState) → is_stopped w ≡ true → slice_get w.seats a ≡ Some x → has_stopped x.local ≡ true
unfolding is_stopped
seat_stopped w a x e there = each_seat (λ y. has_stopped y.local) w.seats a x e there

-- a hart that has stopped has no act
stopped_node : (setup : Setup) (a : ℕ) (x : ProcessorState) → is_some x.hart.cause ≡ true → act_by a (may_act setup.image x) ≡ []
unfolding may_act
stopped_node setup a x e = by x.hart.cause e
  where
    by : (o : Option Cause) → is_some o ≡ true → act_by a (may_act_by setup.image x o x.request x.walk) ≡ []
    by None f = absurd (cc)
    by (Some cause) f = refl

no_acts : (setup : Setup) (k : ℕ) (xs : List (Seat ActorState)) → ((a : ℕ) (x : Seat ActorState) → slice_get xs a ≡ Some x → (b : ℕ) → act_by b (can_act setup x.local) ≡ []) → enabled_from setup k xs [] ≡ []
no_acts setup k [] h = refl
no_acts setup k (x ∷ xs) h = ap (λ (l : List Choice). l ++ enabled_from setup (suc k) xs []) (h 0 x refl k) ∙ no_acts setup (suc k) xs (λ a y there. h (suc a) y there)

-- nothing is enabled where nothing is drained
nothing_enabled : (setup : Setup) (w : Machine) → is_stopped w ≡ true → w.flight ≡ [] → mover_choice setup 0 w.seats ≡ None → enabled_of setup w ≡ []
unfolding enabled_of
nothing_enabled setup w stopped empty none = ap (λ (ms : List (Msg Kind)). enabled_from setup 0 w.seats ms) empty ∙ no_acts setup 0 w.seats (λ a x there b. by a x there b x.local refl)
  where
    by : (a : ℕ) (x : Seat ActorState) → slice_get w.seats a ≡ Some x → (b : ℕ) → (local : ActorState) → x.local ≡ local → act_by b (can_act setup local) ≡ []
    by a x there b (Node n) is = stopped_node setup b n.processor (ap has_stopped (sym is) ∙ seat_stopped w a x stopped there)
    by a x there b (Mover m) is = ap (λ (t : Bool). act_by b (mover_may t)) (mover_rests setup 0 w.seats none a x m there is)

idle_job : (j : Job) → is_idle_job j ≡ true → has_act j ≡ false
idle_job Idle e = refl
idle_job (Move route phase) e = absurd (cc)
idle_job (Reclaim frame step) e = absurd (cc)

no_messages : (ms : List (Msg Kind)) → nat_eq (length ms) 0 ≡ true → ms ≡ []
no_messages [] e = refl
no_messages (m ∷ ms) e = absurd (grind (arith, nat_tests))

-- a quiet machine drains nothing
pub quiet_drains_nothing : (setup : Setup) (w : Machine) → is_quiet w ≡ true → drain_of setup w ≡ None
unfolding is_quiet
quiet_drains_nothing setup w e = by (is_stopped w) (nat_eq (length w.flight) 0) refl (list_all (λ x. is_at_rest x.local) w.seats) refl e
  where
    by : (s f : Bool) → nat_eq (length w.flight) 0 ≡ f → (r : Bool) → list_all (λ x. is_at_rest x.local) w.seats ≡ r → (s && (f && r)) ≡ true → drain_of setup w ≡ None
    by true true ef true er h = nothing_drained setup w (no_messages w.flight ef)
        (mover_silent setup 0 w.seats (λ a x m there is. idle_job m.job (ap is_at_rest (sym is) ∙ each_seat (λ y. is_at_rest y.local) w.seats a x er there)))
    by true true ef false er h = absurd (cc)
    by true false ef r er h = absurd (cc)
    by false f ef r er h = absurd (cc)

-- ---- the laws

pub reached : (setup : Setup) (choices : List Choice) (w : Machine) (events : List (Event Note)) → IsRunnable setup → RunsTo setup choices w events → Followed setup (flat_begin setup.image setup.settings).harts (flat_begin setup.image setup.settings).flat w events
reached setup choices w events ok run = followed setup tables ok choices w events run

pub drain_ends_quiet : DrainEndsQuiet
drain_ends_quiet setup choices w events ok run stopped =
    let r = reached setup choices w events ok run in (
      (λ none. (let u = undrained setup w none in
          rests setup (sizes_of setup) w r.end _ r.world r.follows r.patient u.0 (nothing_enabled setup w stopped u.0 u.1))),
      (λ quiet. quiet_drains_nothing setup w quiet),
    )

-- what isn't refused
taken_free : (setup : Setup) (w : Machine) (m : Msg Kind) (x : Seat ActorState) → slice_get w.seats m.to ≡ Some x → find m.id w.flight ≡ Some m → refusal_of setup w (Take m.to m.id) ≡ None
unfolding refusal_of
taken_free setup w m x there found = let same : nat_eq m.to m.to ≡ true = grind (arith, nat_tests) in
    ap (λ (o : Option (Seat ActorState)). take_refusal m.to o (find m.id w.flight)) there ∙ (ap (message_refusal m.to) found ∙ ap (λ (t : Bool). if t then None else Some NoMessage) same)

act_free : (setup : Setup) (w : Machine) (a : ℕ) (x : Seat ActorState) (m : MoverState) → slice_get w.seats a ≡ Some x → x.local ≡ Mover m → has_act m.job ≡ true → refusal_of setup w (Act a) ≡ None
unfolding refusal_of
act_free setup w a x m there is may = ap (act_refusal setup) there ∙ (ap (λ (z : ActorState). refusal_by (can_act setup z)) is ∙ ap (λ (t : Bool). refusal_by (mover_may t)) may)

zero_plus : (n : ℕ) → 0 + n ≡ n
zero_plus n = omega arith

pub drain_goes_on : DrainGoesOn
drain_goes_on setup choices w events choice ok run stopped is =
    let r = reached setup choices w events ok run in
    let free : refusal_of setup w choice ≡ None = elim (drained setup w choice is) [
      | inl t ↦ (let found = found_in t.0 w.flight r.distinct t.1 in
          let row = found_has_row setup (sizes_of setup) w r.end _ r.world t.0.id t.0 tables (sizes_are setup ok) r.follows r.distinct found in
          subst (λ (c : Choice). refusal_of setup w c ≡ None) (sym t.2) (taken_free setup w t.0 row.0 row.1 found))
      | inr a ↦ (let m = mover_acts setup 0 w.seats choice a.1 in
          subst (λ (c : Choice). refusal_of setup w c ≡ None) (sym (m.6 ∙ ap (λ (n : ℕ). Act n) (zero_plus m.0))) (act_free setup w m.0 m.1 m.2 m.3 m.4 m.5))
    ] in
    (free, refusals_are_exact setup (sizes_of setup) w r.end _ r.world choice tables (sizes_are setup ok) r.follows r.distinct free)
