-- Every machine that a run leads to shows a world; and what its harts did is a run of harts with the answers of one flat memory.
use Rattle.std.proofs.Common.{◌≡◌, ◌∙◌, ℕ, zero, suc, Bool, true, false, refl, sym, ap, subst, Option, None, Some, List, [], ◌∷◌, ◌++◌, map, slice_get}
use Rattle.std.specs.Prelude.{if◌then◌else◌}
use Rattle.og_base.specs.Numbers.{below}
use Rattle.og_line.specs.declared.Line.{Line}
use Rattle.og_runs.specs.declared.Choice.{Choice}
use Rattle.og_runs.specs.declared.Event.{Event}
use Rattle.og_runs.specs.declared.Seat.{Seat}
use Rattle.og_runs.specs.Runs.{Histories, IsSound, start}
use Rattle.og_runs.specs.World.{WorldRun, Shows as Seats, Distinct}
use Rattle.og_runs.specs.Laws.{IsStart}
use Rattle.og_runs.proofs.Shown.{ShownStep, shown_step}
use Rattle.og_runs.proofs.RunLaws.{start_sound}
use Rattle.og_runs.proofs.Stated.{start_shows}
use Rattle.og_msg.specs.declared.Kind.{Kind}
use Rattle.og_msg.specs.declared.Note.{Note}
use Rattle.og_msg.specs.declared.Note.TheVariants as note
use Rattle.og_image.specs.Image.{ImageState}
use Rattle.og_flat.specs.Flat.{Flat}
use Rattle.rv_hart.specs.Hart.{HartState}
use Rattle.og_whole.specs.Events.{World as Theory}
use Rattle.og_machine.specs.Machine.{Setup, ActorState, Machine, rules, start_machine, start_node, start_mover, new_seat}
use Rattle.og_machine.specs.FlatRun.{FlatRun, FlatState, flat_begin, with_hart, flat_step, flat_after, flat_after_note, with_note, is_of_hart, hart_notes}
use Rattle.og_machine.specs.HartRuns.{HartsRun, IsNotedInside, Answered, flat_noted, flat_end}
use Rattle.og_refine_harts.proofs.Flats.{hart_runs_are_flat}
use Rattle.og_refine.specs.Machines.{IsRunnable, sizes_of}
use Rattle.og_refine.specs.Laws.{RunsTo, flat_of}
use Rattle.og_refine.proofs.Tables.{Tables}
use Rattle.og_refine.proofs.Steps.{Follows, Stepped}
use Rattle.og_refine.proofs.Events.{step_follows}
use Rattle.og_refine.proofs.Begins.{begins, sizes_are}
use Rattle.og_refine.proofs.Moved.{opened}
use Rattle.og_refine.proofs.Patient.{ArePatient, step_patient, start_is_patient}
use Rattle.og_refine.proofs.Unnamed.{mover_sits}

-- a machine after a run: its world, its harts and the flat memory, with what harts did on the way
pub record Followed (setup : Setup) (harts : ℕ → HartState) (flat : Flat) (u : Machine) (es : List (Event Note)) : Type 0 where
  pub run : HartsRun setup.image harts es
  pub answered : Answered flat es
  pub end : ℕ → HartState
  pub world : Theory Line
  pub follows : Follows setup.image (sizes_of setup) u end (flat_end flat es) world
  pub distinct : Distinct u.flight
  pub patient : ArePatient setup.image u

noted_inside : (n m a : ℕ) (o : Option Note) → n ≡ m → IsNotedInside n a o → IsNotedInside m a o
noted_inside n m a o e i = subst (λ (k : ℕ). IsNotedInside k a o) e i

pub run_follows : (setup : Setup) → Tables → IsRunnable setup → (cs : List Choice) (w u : Machine) (es : List (Event Note)) (hist : Histories ActorState Kind) (harts : ℕ → HartState) (flat : Flat) (v : Theory Line) →
    Seats w hist → IsSound hist → ArePatient setup.image w → Follows setup.image (sizes_of setup) w harts flat v → WorldRun (rules setup) w cs u es → Followed setup harts flat u es
run_follows setup tables ok [] w u es hist harts flat v seats sound patient f h = subst (λ (l : List (Event Note)). Followed setup harts flat u l) (sym h.1) (record {
  run = tt;
  answered = tt;
  end = harts;
  world = v;
  follows = subst (λ (z : Machine). Follows setup.image (sizes_of setup) z harts flat v) h.0 f;
  distinct = subst (λ (z : Machine). Distinct z.flight) h.0 seats.distinct;
  patient = subst (ArePatient setup.image) h.0 patient;
})
run_follows setup tables ok (c ∷ cs) w u es hist harts flat v seats sound patient f h =
    let e : Event Note = h.1 in
    let step : Stepped setup.image (sizes_of setup) h.0 e.stamp.actor e.note harts flat = step_follows setup (sizes_of setup) tables (sizes_are setup ok) w h.0 e c harts flat v f seats.distinct h.3 in
    let shown : ShownStep (rules setup) w hist c h.0 e = shown_step (rules setup) w hist c h.0 e seats sound h.3 in
    let rest : Followed setup (with_hart harts e.stamp.actor step.after) (flat_noted flat e.stamp.actor e.note) u h.2 =
    run_follows setup tables ok cs h.0 u h.2 shown.state (with_hart harts e.stamp.actor step.after) (flat_noted flat e.stamp.actor e.note) step.world shown.shows shown.sound (step_patient setup w h.0 e patient (λ q seat m there is. (mover_sits setup.image (sizes_of setup) w q seat m f.actors there is).1.sound) (opened (rules setup) w h.0 e c h.3)) step.follows h.5 in
    subst (λ (l : List (Event Note)). Followed setup harts flat u l) (sym h.4) (record {
      run = (step.after, noted_inside setup.settings.nodes setup.image.nodes e.stamp.actor e.note (sym ok.nodes) step.inside, step.moves, rest.run);
      answered = (step.answers, rest.answered);
      end = rest.end;
      world = rest.world;
      follows = rest.follows;
      distinct = rest.distinct;
      patient = rest.patient;
    })

-- ---- from the start

-- the actors of the start, by their seats
pub first_actor : Setup → ℕ → Option (Seat ActorState) → ActorState
first_actor setup a None = start_mover setup
first_actor setup a (Some seat) = seat.local

pub first_seats : (setup : Setup) → IsStart (λ a. first_actor setup a (slice_get (start_machine setup).seats a)) (start_machine setup)
unfolding start_machine first_actor
first_seats setup = record { seat = λ a x e. by (below setup.settings.nodes) a x e; flight = refl }
  where
    new : (o : Option (Seat ActorState)) (a : ℕ) (x : Seat ActorState) → o ≡ Some x → (x ≡ new_seat x.local) → x ≡ record { local = first_actor setup a o; clock = 0; next = 0 }
    new None a x e n = absurd (cc)
    new (Some y) a x e n = let same : x ≡ y = cc in n ∙ ap (λ (z : Seat ActorState). new_seat z.local) same

    is_new : (ns : List ℕ) (a : ℕ) (x : Seat ActorState) → slice_get (map (λ number. new_seat (start_node setup number)) ns ++ new_seat (start_mover setup) ∷ []) a ≡ Some x → x ≡ new_seat x.local
    is_new [] zero x e = let same : new_seat (start_mover setup) ≡ x = cc in subst (λ (z : Seat ActorState). z ≡ new_seat z.local) same refl
    is_new [] (suc a) x e = absurd (cc)
    is_new (n ∷ ns) zero x e = let same : new_seat (start_node setup n) ≡ x = cc in subst (λ (z : Seat ActorState). z ≡ new_seat z.local) same refl
    is_new (n ∷ ns) (suc a) x e = is_new ns a x e

    by : (ns : List ℕ) (a : ℕ) (x : Seat ActorState) → slice_get (map (λ number. new_seat (start_node setup number)) ns ++ new_seat (start_mover setup) ∷ []) a ≡ Some x →
        x ≡ record { local = first_actor setup a (slice_get (map (λ number. new_seat (start_node setup number)) ns ++ new_seat (start_mover setup) ∷ []) a); clock = 0; next = 0 }
    by ns a x e = new (slice_get (map (λ number. new_seat (start_node setup number)) ns ++ new_seat (start_mover setup) ∷ []) a) a x e (is_new ns a x e)

pub followed : (setup : Setup) → Tables → IsRunnable setup → (cs : List Choice) (w : Machine) (es : List (Event Note)) → RunsTo setup cs w es → Followed setup (flat_begin setup.image setup.settings).harts (flat_begin setup.image setup.settings).flat w es
followed setup tables ok cs w es run =
    let first : ℕ → ActorState = λ a. first_actor setup a (slice_get (start_machine setup).seats a) in
    let b = begins setup tables ok in
    run_follows setup tables ok cs (start_machine setup) w es (start first) (flat_begin setup.image setup.settings).harts (flat_begin setup.image setup.settings).flat b.0 (start_shows first (start_machine setup) (first_seats setup)) (start_sound first) (start_is_patient setup) b.1 run

-- ---- the flat run

-- the memory of a flat run is that after its accesses
flat_is : (image : ImageState) (s : FlatState) (es : List (Event Note)) → (flat_after image s (hart_notes es)).flat ≡ flat_end s.flat es
unfolding hart_notes
flat_is image s [] = refl
flat_is image s (e ∷ es) = by e.note (λ t. flat_is image t es)
  where
    by_hart : (noted : Note) (t : Bool) → is_of_hart noted ≡ t → ((z : FlatState) → (flat_after image z (hart_notes es)).flat ≡ flat_end z.flat es) → (flat_after image s (if t then (e.stamp.actor, noted) ∷ hart_notes es else hart_notes es)).flat ≡ flat_end (flat_after_note s.flat e.stamp.actor noted) es
    by_hart noted true mine rest = rest (flat_step image s e.stamp.actor noted)
    by_hart noted false other rest = rest s ∙ ap (λ (f : Flat). flat_end f es) (still noted other)
      where
        still : (k : Note) → is_of_hart k ≡ false → s.flat ≡ flat_after_note s.flat e.stamp.actor k
        still (note.Access access answer) o = absurd (cc)
        still k o = refl

    by : (o : Option Note) → ((z : FlatState) → (flat_after image z (hart_notes es)).flat ≡ flat_end z.flat es) → (flat_after image s (with_note e.stamp.actor o (hart_notes es))).flat ≡ flat_end (flat_noted s.flat e.stamp.actor o) es
    by None rest = rest s
    by (Some noted) rest = by_hart noted (is_of_hart noted) refl rest

pub flat_of_is : (setup : Setup) (es : List (Event Note)) → flat_of setup es ≡ flat_end (flat_begin setup.image setup.settings).flat es
flat_of_is setup es = flat_is setup.image (flat_begin setup.image setup.settings) es

pub notes_are_flat : (setup : Setup) → Tables → IsRunnable setup → (cs : List Choice) (w : Machine) (es : List (Event Note)) → RunsTo setup cs w es → FlatRun setup.image setup.settings (hart_notes es)
notes_are_flat setup tables ok cs w es run = let f = followed setup tables ok cs w es run in hart_runs_are_flat setup.image setup.settings es f.run f.answered
