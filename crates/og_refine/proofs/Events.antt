-- Each step of a machine is an event of one of its actors, which shows a world again.
use Rattle.std.proofs.Common.{◌≡◌, ◌∙◌, ℕ, ◌+◌, ◌<◌, ◌&&◌, Bool, true, false, nat_eq, nat_lt, arith, refl, sym, ap, subst, Option, None, Some, Ok, Err, List, ◌∷◌, map, length, slice_get, ◌⊎◌, inl, inr}
use Rattle.std.specs.Prelude.{Result, if◌then◌else◌}
use Rattle.std.proofs.lemmas.Bool.Decides.{nat_tests}
use Rattle.std.proofs.lemmas.Option.{slice_get_within}
use Rattle.og_base.specs.declared.NotEnabled.{NotEnabled}
use Rattle.og_line.specs.declared.Line.{Line}
use Rattle.og_runs.specs.declared.Choice.{Choice}
use Rattle.og_runs.specs.declared.Msg.{Msg}
use Rattle.og_runs.specs.declared.Event.{Event}
use Rattle.og_runs.specs.declared.Seat.{Seat}
use Rattle.og_runs.specs.Runs.{Outcome, outcome_of}
use Rattle.og_runs.specs.World.{without, Distinct, world_step, world_after, find}
use Rattle.og_msg.specs.declared.Kind.{Kind}
use Rattle.og_msg.specs.declared.Kind.TheVariants.{Read, ReadEx, Upgrade, WriteBack, SharingWriteBack, SharingTransfer, DirtyTransfer, PoisonRead, PoisonBack, PoisonClean, CopyIn, CleanFrame, Rearm}
use Rattle.og_msg.specs.declared.Note.{Note}
use Rattle.og_msg.specs.Kinds.{is_from_mover}
use Rattle.og_flat.specs.Flat.{Flat}
use Rattle.rv_hart.specs.Hart.{HartState}
use Rattle.og_whole.specs.Events.{World as Theory}
use Rattle.og_home.specs.Home.{HomeState, serve}
use Rattle.og_processor.specs.Act.{may_act, act_of as processor_act}
use Rattle.og_processor.specs.Take.{take_of as processor_take}
use Rattle.og_node.specs.Node.{NodeState, is_for_home, act_of as node_act, take_of as node_take, take_by}
use Rattle.og_node.specs.Rows.{has_row as has_node_row, has_home_row, has_processor_row, is_from_its_sender, is_own_frame}
use Rattle.og_mover.specs.Table.{MoverState, has_act, act_of as mover_act, take_of as mover_take, has_table_row}
use Rattle.og_machine.specs.Machine.{Setup, ActorState, Node, Mover, Machine, rules, act_of, take_of, can_act, acting, taking, where_enabled, has_row, by_node, by_mover, mover_may}
use Rattle.og_seen.specs.Numbers.{Sizes}
use Rattle.og_seen.specs.Messages.{post_seen, is_part}
use Rattle.og_relate.specs.Data.{Post}
use Rattle.og_seen.specs.Processors.{cpu_seen}
use Rattle.og_seen.specs.Homes.{home_seen}
use Rattle.og_seen.specs.Movers.{mover_seen}
use Rattle.og_seen.specs.Sound.{AreSizes, IsProcessorOf, IsHomeOf, IsMoverOf}
use Rattle.og_seen.specs.Events.{Shows, ProcessorGoes}
use Rattle.og_refine.specs.Machines.{cpus, homes, mover_at, cpu_in, cpu_of, home_in, home_of, posts}
use Rattle.og_refine.proofs.Tables.{Tables}
use Rattle.og_refine.proofs.Moved.{IsTaken, Moved, opened, taken_first}
use Rattle.og_refine.proofs.Steps.{Follows, Stepped, processor_steps, home_steps, mover_steps, same_shows, mover_is}
use Rattle.og_refine.proofs.Quiet.{act_is_quiet, take_is_quiet}

-- ---- a row of a home says that its sender may send the message

three : (a b c : Bool) → (a && (b && c)) ≡ true → (b ≡ true) × (c ≡ true)
three true true true e = (refl, refl)
three true true false e = absurd (cc)
three true false c e = absurd (cc)
three false b c e = absurd (cc)

two : (a b : Bool) → (a && b) ≡ true → (a ≡ true) × (b ≡ true)
two true true e = (refl, refl)
two true false e = absurd (cc)
two false b e = absurd (cc)

home_sender : (x : HomeState) (message : Msg Kind) → is_for_home message.kind ≡ true → has_home_row x message message.kind ≡ true → is_from_its_sender x.rules.nodes message ≡ true
home_sender x message for row = by message.kind refl for row
  where
    block_sender : (b c d e : Bool) → (b && (c && (d && e))) ≡ true → d ≡ true
    block_sender b c d e h = (two d e (three b c (d && e) h).1).0

    -- the mover's own
    mover_sender : is_from_mover message.kind ≡ true → nat_eq message.id.sender x.rules.nodes ≡ true → is_from_its_sender x.rules.nodes message ≡ true
    mover_sender own e = ap (λ (t : Bool). if t then nat_eq message.id.sender x.rules.nodes else nat_lt message.id.sender x.rules.nodes) own ∙ e

    by : (k : Kind) → message.kind ≡ k → is_for_home k ≡ true → has_home_row x message k ≡ true → is_from_its_sender x.rules.nodes message ≡ true
    by (CleanFrame f) e h row = mover_sender (ap is_from_mover e) (three (is_own_frame x f) (nat_eq message.id.sender x.rules.nodes) _ row).0
    by (Rearm f) e h row = mover_sender (ap is_from_mover e) (two (is_own_frame x f) (nat_eq message.id.sender x.rules.nodes) row).1
    by (Read b) e h row = block_sender _ _ (is_from_its_sender x.rules.nodes message) _ row
    by (ReadEx b) e h row = block_sender _ _ (is_from_its_sender x.rules.nodes message) _ row
    by (Upgrade b) e h row = block_sender _ _ (is_from_its_sender x.rules.nodes message) _ row
    by (WriteBack b l) e h row = block_sender _ _ (is_from_its_sender x.rules.nodes message) _ row
    by (SharingWriteBack b l) e h row = block_sender _ _ (is_from_its_sender x.rules.nodes message) _ row
    by (SharingTransfer b) e h row = block_sender _ _ (is_from_its_sender x.rules.nodes message) _ row
    by (DirtyTransfer b) e h row = block_sender _ _ (is_from_its_sender x.rules.nodes message) _ row
    by (PoisonRead b) e h row = block_sender _ _ (is_from_its_sender x.rules.nodes message) _ row
    by (PoisonBack b l) e h row = block_sender _ _ (is_from_its_sender x.rules.nodes message) _ row
    by (PoisonClean b) e h row = block_sender _ _ (is_from_its_sender x.rules.nodes message) _ row
    by (CopyIn b l) e h row = block_sender _ _ (is_from_its_sender x.rules.nodes message) _ row
    by k e h row = absurd (cc)

-- ---- who moves

same_seat : {X : Type 0} → (xs : List X) (a : ℕ) (x y : X) → slice_get xs a ≡ Some x → slice_get xs a ≡ Some y → x ≡ y
same_seat xs a x y e f = cc

actor_is : (a n m : ℕ) → a < m → m ≡ n + 1 → (a < n) ⊎ (a ≡ n)
actor_is a n m lt e = by (nat_lt a n) refl
  where
    by : (t : Bool) → nat_lt a n ≡ t → (a < n) ⊎ (a ≡ n)
    by true f = inl (grind (arith, nat_tests))
    by false f = inr (grind (arith, nat_tests))

-- ---- acts

pub enabled_is : (can : Result (Unit {0}) NotEnabled) (made result : Outcome ActorState Kind Note) → where_enabled can made ≡ Some result → (can ≡ Ok tt) × (made ≡ result)
enabled_is (Ok u) made result e = (refl, cc)
enabled_is (Err why) made result e = absurd (cc)

pub may_is : (t : Bool) → mover_may t ≡ Ok tt → t ≡ true
may_is true e = refl
may_is false e = absurd (cc)

pub row_is : (t : Bool) (made result : Outcome ActorState Kind Note) → (if t then Some made else None) ≡ Some result → (t ≡ true) × (made ≡ result)
row_is true made result e = (refl, cc)
row_is false made result e = absurd (cc)

module _ (setup : Setup) (s : Sizes) (tables : Tables) (sizes : AreSizes s) where
  -- the event that this gives
  abbrev Gives : Machine → (ℕ → HartState) → Flat → ℕ → Seat ActorState → Option (Msg Kind) → Outcome ActorState Kind Note → Type 0
  Gives w harts flat a seat taken made = Stepped setup.image s (world_after w a seat taken made) a made.note harts flat

  node_acts : (w : Machine) (harts : ℕ → HartState) (flat : Flat) (v : Theory Line) (a : ℕ) (seat : Seat ActorState) (x : NodeState) → Follows setup.image s w harts flat v → a < s.nodes → slice_get w.seats a ≡ Some seat → seat.local ≡ Node x → IsProcessorOf setup.image s x.processor → IsHomeOf s a x.home →
      may_act setup.image x.processor ≡ Ok tt → Gives w harts flat a seat None (by_node (node_act setup.image x))
  node_acts w harts flat v a seat x f lt there is processor home may =
      processor_steps setup.image s w harts flat v a seat None x (processor_act setup.image x.processor) sizes f lt there is processor home
      (tables.processors_stay.act setup.image s x.processor processor may) (tables.harts_move.act setup.image x.processor may)
      (tables.processors_act setup.image s (cpus s w) (homes s w) (mover_at s w) v a x.processor (posts s w) sizes processor lt (ap (cpu_in s) there ∙ ap (cpu_of s) is) may f.shows)

  -- ---- takes

  node_takes : (w : Machine) (harts : ℕ → HartState) (flat : Flat) (v : Theory Line) (a : ℕ) (seat : Seat ActorState) (x : NodeState) (message : Msg Kind) → Follows setup.image s w harts flat v → a < s.nodes → slice_get w.seats a ≡ Some seat → seat.local ≡ Node x → IsProcessorOf setup.image s x.processor → IsHomeOf s a x.home →
      Distinct w.flight → find message.id w.flight ≡ Some message → message.to ≡ a → has_node_row x message ≡ true → Gives w harts flat a seat (Some message) (by_node (node_take setup.image x message))
  unfolding has_node_row
  node_takes w harts flat v a seat x message f lt there is processor home distinct found to row = by (is_for_home message.kind) refl row
    where
      first : Shows setup.image s (cpus s w) (homes s w) (mover_at s w) (post_seen s message ∷ map (post_seen s) (without message.id w.flight)) v
      first = taken_first setup.image s (cpus s w) (homes s w) (mover_at s w) v message w.flight distinct found f.shows

      at_home : homes s w a ≡ home_seen s x.home
      at_home = ap (home_in s) there ∙ ap (home_of s) is

      at_cpu : cpus s w a ≡ cpu_seen s x.processor
      at_cpu = ap (cpu_in s) there ∙ ap (cpu_of s) is

      on_processor : is_for_home message.kind ≡ false → (t : Bool) → is_part message.kind ≡ t → ProcessorGoes setup.image s (cpus s w) (homes s w) (mover_at s w) (map (post_seen s) (without message.id w.flight)) v a x.processor (processor_take setup.image x.processor message.kind)
      on_processor other true part = (tables.parts_are_taken setup.image s (cpus s w) (homes s w) (mover_at s w) v a x message (map (post_seen s) (without message.id w.flight)) sizes processor home lt at_cpu to part first).1
      on_processor other false part = (tables.processors_take setup.image s (cpus s w) (homes s w) (mover_at s w) v a x message (map (post_seen s) (without message.id w.flight)) sizes processor home lt at_cpu to other part first).1

      by : (t : Bool) → is_for_home message.kind ≡ t → (if t then has_home_row x.home message message.kind else has_processor_row x message) ≡ true → Gives w harts flat a seat (Some message) (by_node (take_by t setup.image x message))
      by true e r =
          home_steps setup.image s w harts flat v a seat (Some message) x (serve x.home message) f lt there is processor
          (tables.homes_stay.serve s a x.home message home (subst (λ (n : ℕ). is_from_its_sender n message ≡ true) home.nodes (home_sender x.home message e r)) r)
          (tables.homes_take setup.image s (cpus s w) (homes s w) (mover_at s w) v a x.home message (map (post_seen s) (without message.id w.flight)) sizes home lt at_home to e first).1
      by false e r =
          processor_steps setup.image s w harts flat v a seat (Some message) x (processor_take setup.image x.processor message.kind) sizes f lt there is processor home
          (tables.processors_stay.take setup.image s a x message home processor r) (tables.harts_move.take setup.image x.processor message.kind processor.sound)
          (on_processor e (is_part message.kind) refl)

  -- ---- the mover

  mover_shows : (w : Machine) (flight : List (Post Line)) (v : Theory Line) (seat : Seat ActorState) (m : MoverState) → slice_get w.seats s.nodes ≡ Some seat → seat.local ≡ Mover m → Shows setup.image s (cpus s w) (homes s w) (mover_at s w) flight v → Shows setup.image s (cpus s w) (homes s w) (mover_seen s m) flight v
  mover_shows w flight v seat m there is shows = same_shows setup.image s (cpus s w) (cpus s w) (homes s w) (homes s w) (mover_at s w) (mover_seen s m) flight v refl refl (mover_is s w seat m there is) shows

  mover_acts : (w : Machine) (harts : ℕ → HartState) (flat : Flat) (v : Theory Line) (seat : Seat ActorState) (m : MoverState) → Follows setup.image s w harts flat v → slice_get w.seats s.nodes ≡ Some seat → seat.local ≡ Mover m → IsMoverOf s m →
      has_act m.job ≡ true → Gives w harts flat s.nodes seat None (by_mover (mover_act m))
  mover_acts w harts flat v seat m f there is sound may =
      mover_steps setup.image s w harts flat v seat None m (mover_act m) f there is (tables.mover_stays.act s m sound may) (act_is_quiet m)
      (tables.mover_acts setup.image s (cpus s w) (homes s w) v m (posts s w) sizes sound may (mover_shows w (posts s w) v seat m there is f.shows))

  mover_takes : (w : Machine) (harts : ℕ → HartState) (flat : Flat) (v : Theory Line) (seat : Seat ActorState) (m : MoverState) (message : Msg Kind) → Follows setup.image s w harts flat v → slice_get w.seats s.nodes ≡ Some seat → seat.local ≡ Mover m → IsMoverOf s m →
      Distinct w.flight → find message.id w.flight ≡ Some message → message.to ≡ s.nodes → has_table_row m message ≡ true → Gives w harts flat s.nodes seat (Some message) (by_mover (mover_take m message))
  mover_takes w harts flat v seat m message f there is sound distinct found to row =
      mover_steps setup.image s w harts flat v seat (Some message) m (mover_take m message) f there is (tables.mover_stays.take s m message sound row) (take_is_quiet m message)
      (tables.mover_takes setup.image s (cpus s w) (homes s w) v m message (map (post_seen s) (without message.id w.flight)) sizes sound to
      (mover_shows w (post_seen s message ∷ map (post_seen s) (without message.id w.flight)) v seat m there is
      (taken_first setup.image s (cpus s w) (homes s w) (mover_at s w) v message w.flight distinct found f.shows))).1

  -- ---- any step

  pub step_follows : (w u : Machine) (e : Event Note) (c : Choice) (harts : ℕ → HartState) (flat : Flat) (v : Theory Line) → Follows setup.image s w harts flat v → Distinct w.flight → world_step (rules setup) w c ≡ Some (u, e) → Stepped setup.image s u e.stamp.actor e.note harts flat
  unfolding act_of take_of
  step_follows w u e c harts flat v f distinct h = finish (opened (rules setup) w u e c h)
    where
      finish : Moved (rules setup) w u e → Stepped setup.image s u e.stamp.actor e.note harts flat
      finish m = subst (λ (z : Event Note). Stepped setup.image s u z.stamp.actor z.note harts flat) (sym m.event) (subst (λ (z : Machine). Stepped setup.image s z m.actor m.result.note harts flat) (sym m.world) (made m))
        where
          made : (m : Moved (rules setup) w u e) → Stepped setup.image s (world_after w m.actor m.seat m.taken m.result) m.actor m.result.note harts flat
          made m = elim (actor_is m.actor s.nodes (length w.seats) (slice_get_within w.seats m.actor m.seat m.there) f.actors.count) [
            | inl lt ↦ node m.actor m.seat m.taken m.result m.there m.is m.found lt
            | inr at ↦ subst (λ (a : ℕ). Stepped setup.image s (world_after w a m.seat m.taken m.result) a m.result.note harts flat) (sym at) (mover m.seat m.taken m.result (subst (λ (a : ℕ). slice_get w.seats a ≡ Some m.seat) at m.there) (subst (λ (a : ℕ). outcome_of (rules setup) a m.seat.local m.taken ≡ Some m.result) at m.is) (subst (λ (a : ℕ). IsTaken w a m.taken) at m.found))
          ]
            where
              node : (a : ℕ) (seat : Seat ActorState) (taken : Option (Msg Kind)) (result : Outcome ActorState Kind Note) → slice_get w.seats a ≡ Some seat → outcome_of (rules setup) a seat.local taken ≡ Some result → IsTaken w a taken → a < s.nodes → Gives w harts flat a seat taken result
              node a seat None result there is found lt =
                  let n = f.actors.nodes a lt in
                  let one : seat.local ≡ Node n.0 = ap (λ (z : Seat ActorState). z.local) (same_seat w.seats a seat n.1.0 there n.1.1) ∙ n.1.2 in
                  let r = enabled_is (can_act setup (Node n.0)) (acting setup (Node n.0)) result (subst (λ (y : ActorState). where_enabled (can_act setup y) (acting setup y) ≡ Some result) one is) in
                  subst (λ (o : Outcome ActorState Kind Note). Gives w harts flat a seat None o) r.1 (node_acts w harts flat v a seat n.0 f lt there one n.1.3 n.1.4 r.0)
              node a seat (Some message) result there is found lt =
                  let n = f.actors.nodes a lt in
                  let one : seat.local ≡ Node n.0 = ap (λ (z : Seat ActorState). z.local) (same_seat w.seats a seat n.1.0 there n.1.1) ∙ n.1.2 in
                  let r = row_is (has_row (Node n.0) message) (taking setup (Node n.0) message) result (subst (λ (y : ActorState). (if has_row y message then Some (taking setup y message) else None) ≡ Some result) one is) in
                  subst (λ (o : Outcome ActorState Kind Note). Gives w harts flat a seat (Some message) o) r.1 (node_takes w harts flat v a seat n.0 message f lt there one n.1.3 n.1.4 distinct found.0 found.1 r.0)

              mover : (seat : Seat ActorState) (taken : Option (Msg Kind)) (result : Outcome ActorState Kind Note) → slice_get w.seats s.nodes ≡ Some seat → outcome_of (rules setup) s.nodes seat.local taken ≡ Some result → IsTaken w s.nodes taken → Gives w harts flat s.nodes seat taken result
              mover seat None result there is found =
                  let n = f.actors.mover in
                  let one : seat.local ≡ Mover n.0 = ap (λ (z : Seat ActorState). z.local) (same_seat w.seats s.nodes seat n.1.0 there n.1.1) ∙ n.1.2 in
                  let r = enabled_is (can_act setup (Mover n.0)) (acting setup (Mover n.0)) result (subst (λ (y : ActorState). where_enabled (can_act setup y) (acting setup y) ≡ Some result) one is) in
                  subst (λ (o : Outcome ActorState Kind Note). Gives w harts flat s.nodes seat None o) r.1 (mover_acts w harts flat v seat n.0 f there one n.1.3 (may_is (has_act n.0.job) r.0))
              mover seat (Some message) result there is found =
                  let n = f.actors.mover in
                  let one : seat.local ≡ Mover n.0 = ap (λ (z : Seat ActorState). z.local) (same_seat w.seats s.nodes seat n.1.0 there n.1.1) ∙ n.1.2 in
                  let r = row_is (has_row (Mover n.0) message) (taking setup (Mover n.0) message) result (subst (λ (y : ActorState). (if has_row y message then Some (taking setup y message) else None) ≡ Some result) one is) in
                  subst (λ (o : Outcome ActorState Kind Note). Gives w harts flat s.nodes seat (Some message) o) r.1 (mover_takes w harts flat v seat n.0 message f there one n.1.3 distinct found.0 found.1 r.0)
