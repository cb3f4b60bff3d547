-- Each event of a run has a choice in the ranges of its line, and a note in those of its own unless it is a hart's.
use Rattle.std.proofs.Common.{◌≡◌, ℕ, ◌+◌, ◌*◌, ◌^◌, ◌<◌, ◌≤◌, ◌&&◌, Bool, true, false, Option, None, Some, Result, Ok, Err, List, [], ◌∷◌, ◌++◌, map, length, length-append, slice_get, refl, sym, ap, subst, arith}
use Rattle.std.specs.Prelude.{if◌then◌else◌}
use Rattle.std.specs.List.{AllByRecursion}
use Rattle.std.proofs.Math.Nat.{mul-le-mul}
use Rattle.std.proofs.lemmas.Bool.Decides.{nat_tests}
use Rattle.og_base.specs.Numbers.{below}
use Rattle.og_base.specs.declared.NotEnabled.{NotEnabled}
use Rattle.og_runs.specs.declared.Choice.{Choice}
use Rattle.og_runs.specs.declared.Event.{Event}
use Rattle.og_runs.specs.declared.Msg.{Msg}
use Rattle.og_runs.specs.declared.Seat.{Seat}
use Rattle.og_runs.specs.Runs.{Outcome, outcome_of, choice_of}
use Rattle.og_runs.specs.World.{WorldRun}
use Rattle.og_runs.proofs.Shown.{slice_get_below}
use Rattle.og_runs.proofs.Whole.{world_more}
use Rattle.og_image.specs.Layout.{LayoutState}
use Rattle.og_msg.specs.declared.Kind.{Kind}
use Rattle.og_msg.specs.declared.Note.{Note}
use Rattle.og_mover.specs.Table.{MoverState}
use Rattle.og_machine.specs.Machine.{Setup, ActorState, Node, Mover, Machine, rules, start_machine, start_node, start_mover, new_seat, can_act, acting, where_enabled, act_of, has_row, taking, take_of}
use Rattle.og_machine.specs.FlatRun.{is_of_hart}
use Rattle.og_refine.specs.Machines.{IsRunnable, AreActors, sizes_of}
use Rattle.og_refine.specs.Laws.{RunsTo}
use Rattle.og_refine.proofs.Moved.{IsTaken, Moved, opened}
use Rattle.og_refine.proofs.Tables.{tables}
use Rattle.og_refine.proofs.Runs.{followed}
use Rattle.og_refine.proofs.Lawful.{enough_room}
use Rattle.og_refine.proofs.Unnamed.{mover_sits}
use Rattle.og_trace.specs.Grammar.{is_number, is_actor, is_choice_line, is_note_line}
use Rattle.og_ranges.proofs.Lines.{number_is, both}
use Rattle.og_ranges.proofs.Movers.{IsInLine, AreLow, pages_low, acts_line, takes_line}
use Rattle.og_ranges.proofs.Notes.{IsHarts, node_act_is, node_take_is}
use Rattle.og_ranges.proofs.Sends.{IsSent, Sends, sent_by, found_sent, moved_sends}

-- a note that isn't a hart's is in the ranges of its line
abbrev pub OtherFits : Option Note → Type 0
OtherFits None = Unit {0}
OtherFits (Some noted) = is_of_hart noted ≡ false → is_note_line noted ≡ true

pub record EventFits (e : Event Note) : Type 0 where
  pub choice : is_choice_line e.choice ≡ true
  pub actor : is_actor e.stamp.actor ≡ true
  pub note : OtherFits e.note

of_hart : (o : Option Note) → IsHarts o → OtherFits o
of_hart None is = tt
of_hart (Some noted) is = λ no. absurd (cc)

in_line : (o : Option Note) → IsInLine o → OtherFits o
in_line None is = tt
in_line (Some noted) is = λ no. is

-- ---- an outcome

enabled_is : (r : Result (Unit {0}) NotEnabled) (given made : Outcome ActorState Kind Note) → where_enabled r given ≡ Some made → given ≡ made
enabled_is (Ok u) given made e = cc
enabled_is (Err why) given made e = absurd (cc)

row_is : (t : Bool) (given made : Outcome ActorState Kind Note) → (if t then Some given else None) ≡ Some made → (t ≡ true) × (given ≡ made)
row_is true given made e = (refl, cc)
row_is false given made e = absurd (cc)

module _ (setup : Setup) (ok : IsRunnable setup) where
  layout_low : AreLow setup.layout.pages
  layout_low =
      let few : setup.image.nodes ≤ 128 = let same : setup.image.nodes ≡ setup.settings.nodes = ok.nodes in let most : setup.settings.nodes ≤ 128 = ok.few_nodes in omega arith in
      subst AreLow (sym (ap (λ (l : LayoutState). l.pages) ok.layout)) (pages_low setup.image few)

  acts_fit : (x : ActorState) (made : Outcome ActorState Kind Note) → act_of setup x ≡ Some made → OtherFits (acting setup x).note → OtherFits made.note
  unfolding act_of
  acts_fit x made e fits = subst (λ (o : Outcome ActorState Kind Note). OtherFits o.note) (enabled_is (can_act setup x) (acting setup x) made e) fits

  takes_fit : (x : ActorState) (message : Msg Kind) (made : Outcome ActorState Kind Note) → take_of setup x message ≡ Some made → (has_row x message ≡ true → OtherFits (taking setup x message).note) → OtherFits made.note
  unfolding take_of
  takes_fit x message made e fits = let r = row_is (has_row x message) (taking setup x message) made e in subst (λ (o : Outcome ActorState Kind Note). OtherFits o.note) r.1 (fits r.0)

  mover_low : (w : Machine) (a : ℕ) (seat : Seat ActorState) (m : MoverState) → AreActors setup.image (sizes_of setup) w → slice_get w.seats a ≡ Some seat → seat.local ≡ Mover m → AreLow m.pages.pages
  mover_low w a seat m actors there is = subst AreLow (sym (mover_sits setup.image (sizes_of setup) w a seat m actors there is).1.pages) layout_low

  outcome_fits : (w : Machine) (a : ℕ) (seat : Seat ActorState) (x : ActorState) (v : Option (Msg Kind)) (made : Outcome ActorState Kind Note) → AreActors setup.image (sizes_of setup) w → slice_get w.seats a ≡ Some seat → seat.local ≡ x → outcome_of (rules setup) a x v ≡ Some made → OtherFits made.note
  outcome_fits w a seat (Node x) None made actors there is e = acts_fit (Node x) made e (of_hart (acting setup (Node x)).note (node_act_is setup.image x))
  outcome_fits w a seat (Node x) (Some message) made actors there is e = takes_fit (Node x) message made e (λ row. of_hart (taking setup (Node x) message).note (node_take_is setup.image x message))
  outcome_fits w a seat (Mover m) None made actors there is e =
      acts_fit (Mover m) made e (in_line (acting setup (Mover m)).note (acts_line m (mover_sits setup.image (sizes_of setup) w a seat m actors there is).1.sound (mover_low w a seat m actors there is)))
  outcome_fits w a seat (Mover m) (Some message) made actors there is e =
      takes_fit (Mover m) message made e (λ row. in_line (taking setup (Mover m) message).note (takes_line m (mover_sits setup.image (sizes_of setup) w a seat m actors there is).1.sound (mover_low w a seat m actors there is) message row))

  -- ---- a choice

  -- as many as are in flight at most
  room_few : (w : Machine) → length w.flight ≤ 33 * setup.settings.frames * setup.settings.nodes + setup.settings.nodes * setup.settings.nodes + 7 * setup.settings.nodes + 1 → length w.flight < 2 ^ 62
  room_few w room =
      let n : setup.settings.nodes ≤ 128 = ok.few_nodes in
      let f : setup.settings.frames ≤ 1024 = ok.few_frames in
      let a : 33 * setup.settings.frames * setup.settings.nodes ≤ 33 * 1024 * 128 = mul-le-mul (let l : 33 * setup.settings.frames ≤ 33 * 1024 = omega arith in l) n in
      let b : setup.settings.nodes * setup.settings.nodes ≤ 128 * 128 = mul-le-mul n n in
      omega arith

  choice_fits : (k a : ℕ) (w : Machine) (v : Option (Msg Kind)) → a < setup.settings.nodes + 1 → k < 2 ^ 63 → length w.flight < 2 ^ 62 → Sends (setup.settings.nodes + 1) k w → IsTaken w a v → is_choice_line (choice_of a v) ≡ true
  choice_fits k a w None there low room sends taken = actor_line a there
    where
      actor_line : (b : ℕ) → b < setup.settings.nodes + 1 → is_actor b ≡ true
      actor_line b inside = let n : setup.settings.nodes ≤ 128 = ok.few_nodes in grind (arith, nat_tests)
  choice_fits k a w (Some m) there low room sends taken =
      let sent : IsSent (setup.settings.nodes + 1) (sent_by w.seats) m = found_sent (setup.settings.nodes + 1) (sent_by w.seats) m.id m w.flight taken.0 sends.flight in
      let few : sent_by w.seats ≤ k + length w.flight = sends.few in
      let number : m.id.seq < sent_by w.seats = sent.number in
      both (is_actor a && is_actor m.id.sender) (is_number m.id.seq) (both (is_actor a) (is_actor m.id.sender) (actor_line a there) (actor_line m.id.sender sent.sender)) (number_is m.id.seq (let fits : m.id.seq < 2 ^ 64 = omega arith in fits))
    where
      actor_line : (b : ℕ) → b < setup.settings.nodes + 1 → is_actor b ≡ true
      actor_line b inside = let n : setup.settings.nodes ≤ 128 = ok.few_nodes in grind (arith, nat_tests)

  -- ---- a step

  step_fits : (cs : List Choice) (w u : Machine) (es : List (Event Note)) (e : Event Note) → RunsTo setup cs w es → length cs < 2 ^ 63 → Sends (setup.settings.nodes + 1) (length cs) w → Moved (rules setup) w u e → EventFits e
  step_fits cs w u es e run low sends moved =
      let r = followed setup tables ok cs w es run in
      let actors = r.follows.actors in
      let there : moved.actor < length w.seats = slice_get_below w.seats moved.actor moved.seat moved.there in
      let size : length w.seats ≡ setup.settings.nodes + 1 = sends.size in
      let inside : moved.actor < setup.settings.nodes + 1 = omega arith in
      let most : setup.settings.nodes ≤ 128 = ok.few_nodes in
      subst EventFits (sym moved.event) (record {
        choice = choice_fits (length cs) moved.actor w moved.taken inside low (room_few w (enough_room setup cs w es ok run)) sends moved.found;
        actor = grind (arith, nat_tests);
        note = outcome_fits w moved.actor moved.seat moved.seat.local moved.taken moved.result actors moved.there refl moved.is;
      })

  one_more : (cs : List Choice) (c : Choice) → length (cs ++ c ∷ []) ≡ length cs + 1
  one_more cs c = length-append cs (c ∷ [])

  run_fits : (ds cs : List Choice) (w u : Machine) (es fs : List (Event Note)) → RunsTo setup cs w es → length cs + length ds < 2 ^ 63 → Sends (setup.settings.nodes + 1) (length cs) w → WorldRun (rules setup) w ds u fs → AllByRecursion EventFits fs
  run_fits [] cs w u es fs run low sends h = subst (AllByRecursion EventFits) (sym h.1) tt
  run_fits (d ∷ ds) cs w u es fs run low sends h =
      let moved : Moved (rules setup) w h.0 h.1 = opened (rules setup) w h.0 h.1 d h.3 in
      let distinct = (followed setup tables ok cs w es run).distinct in
      let after : Sends (setup.settings.nodes + 1) (length cs + 1) h.0 = subst (Sends (setup.settings.nodes + 1) (length cs + 1)) (sym moved.world) (moved_sends (setup.settings.nodes + 1) (length cs) w moved.actor moved.seat moved.taken moved.result moved.there distinct sends) in
      let count : length (cs ++ d ∷ []) ≡ length cs + 1 = one_more cs d in
      subst (AllByRecursion EventFits) (sym h.4) (
        step_fits cs w h.0 es h.1 run (omega arith) sends moved,
        run_fits ds (cs ++ d ∷ []) h.0 u (es ++ h.1 ∷ []) h.2 (world_more (rules setup) cs (start_machine setup) w h.0 es d h.1 run h.3) (omega arith)
            (subst (λ (k : ℕ). Sends (setup.settings.nodes + 1) k h.0) (sym count) after) h.5,
      )

  -- ---- the start

  none_sent : sent_by (start_machine setup).seats ≡ 0
  unfolding start_machine
  none_sent = all (below setup.settings.nodes)
    where
      all : (numbers : List ℕ) → sent_by (map (λ number. new_seat (start_node setup number)) numbers ++ new_seat (start_mover setup) ∷ []) ≡ 0
      all [] = omega arith
      all (q ∷ qs) = let rest : sent_by (map (λ number. new_seat (start_node setup number)) qs ++ new_seat (start_mover setup) ∷ []) ≡ 0 = all qs in omega arith

  none_in_flight : (start_machine setup).flight ≡ []
  unfolding start_machine
  none_in_flight = refl

  begins : Sends (setup.settings.nodes + 1) 0 (start_machine setup)
  begins =
      let start = followed setup tables ok [] (start_machine setup) [] (refl, refl) in
      let none : sent_by (start_machine setup).seats ≡ 0 = none_sent in
      record {
        size = start.follows.actors.count;
        few = omega arith;
        flight = subst (AllByRecursion (IsSent (setup.settings.nodes + 1) (sent_by (start_machine setup).seats))) (sym none_in_flight) tt;
      }

  pub events_fit : (cs : List Choice) (w : Machine) (es : List (Event Note)) → length cs < 2 ^ 63 → RunsTo setup cs w es → AllByRecursion EventFits es
  events_fit cs w es low run = run_fits cs [] (start_machine setup) w [] es (refl, refl) (omega arith) begins run
