-- No step of the drain sends a refusal.
use Rattle.std.proofs.Common.{◌≡◌, ◌∙◌, ℕ, suc, ◌+◌, ◌<◌, ◌⊎◌, inl, inr, Bool, true, false, cond, nat_eq, arith, refl, sym, ap, subst, Option, None, Some, List, [], ◌∷◌, map, slice_get}
use Rattle.std.specs.Prelude.{if◌then◌else◌}
use Rattle.std.proofs.lemmas.Bool.Decides.{nat_tests}
use Rattle.og_base.specs.declared.Block.{Block}
use Rattle.og_line.specs.declared.Line.{Line}
use Rattle.og_runs.specs.declared.Choice.{Choice}
use Rattle.og_runs.specs.declared.Choice.TheVariants.{Act, Take}
use Rattle.og_runs.specs.declared.Event.{Event}
use Rattle.og_runs.specs.declared.Letter.{Letter}
use Rattle.og_runs.specs.declared.Msg.{Msg}
use Rattle.og_runs.specs.declared.MsgId.{MsgId}
use Rattle.og_runs.specs.declared.Seat.{Seat}
use Rattle.og_runs.specs.Runs.{Outcome, outcome_of, posted, same_id, event_of, clock_after}
use Rattle.og_runs.specs.World.{find, without, precedes, placed, placed_all, flight_after, world_after, world_move, world_move_with, world_take, world_step}
use Rattle.og_msg.specs.declared.Kind.{Kind}
use Rattle.og_msg.specs.declared.Kind.TheVariants.{Nak, PoisonRead}
use Rattle.og_msg.specs.declared.Note.{Note}
use Rattle.og_node.specs.Node.{NodeState, is_for_home, take_by}
use Rattle.og_mover.specs.Table.{MoverState, has_act}
use Rattle.og_whole.specs.Events.{World as Theory}
use Rattle.og_machine.specs.Machine.{Setup, ActorState, Node, Mover, Machine, rules, take_of, has_row, taking, by_node, is_stopped}
use Rattle.og_machine.specs.Choices.{drain_of}
use Rattle.og_machine.specs.FlatRun.{flat_begin}
use Rattle.og_relate.specs.Places.{Placed, Flies}
use Rattle.og_shown.specs.Shown.{Among}
use Rattle.og_shown.proofs.Found.{fits_among}
use Rattle.og_seen.specs.Numbers.{Sizes, setup_seen, frame_number}
use Rattle.og_seen.specs.Messages.{post_seen, kind_seen}
use Rattle.og_seen.specs.Sound.{AreSizes}
use Rattle.og_refine_mover.proofs.Sent.{home_low}
use Rattle.og_refine.specs.Machines.{IsRunnable, sizes_of, cpus, mover_at, posts}
use Rattle.og_refine.specs.Laws.{RunsTo}
use Rattle.og_refine.proofs.Tables.{tables}
use Rattle.og_refine.proofs.Begins.{sizes_are}
use Rattle.og_refine.proofs.Events.{row_is, step_follows}
use Rattle.og_refine.proofs.Steps.{Stepped}
use Rattle.og_refine.proofs.Moved.{found_own}
use Rattle.og_refine.proofs.Runs.{Followed}
use Rattle.og_refine.proofs.Unnamed.{mover_sits}
use Rattle.og_drain.specs.Laws.{is_between}
use Rattle.og_drain_facts.specs.Laws.{is_nak, NoNakInTheDrain}
use Rattle.og_drain_facts.proofs.Choices.{IsIn, found_in, is_in_found, mover_acts, drained}
use Rattle.og_drain_facts.proofs.Stopped.{reached}
use Rattle.og_drain_facts.proofs.Running.{nothing_is_asked}
use Rattle.og_drain_facts.proofs.Lawful.{no_request_flies, drain_meets_no_busy_block}
use Rattle.og_drain_facts.proofs.Letters.{NoNaks, take_plain, serve_plain}

-- ---- what is in flight after a step

in_placed : (m n : Msg Kind) (xs : List (Msg Kind)) → IsIn m (placed n xs) → (n ≡ m) ⊎ IsIn m xs
in_placed m n [] (inl e) = inl e
in_placed m n [] (inr h) = absurd h
in_placed m n (x ∷ xs) h = by (λ k. in_placed m n xs k) (precedes x n) h
  where
    by : (IsIn m (placed n xs) → (n ≡ m) ⊎ IsIn m xs) → (t : Bool) → IsIn m (cond t (x ∷ placed n xs) (n ∷ x ∷ xs)) → (n ≡ m) ⊎ ((x ≡ m) ⊎ IsIn m xs)
    by rest true (inl e) = inr (inl e)
    by rest true (inr k) = elim (rest k) [ inl e ↦ inl e | inr j ↦ inr (inr j) ]
    by rest false k = k

in_placed_all : (m : Msg Kind) (xs ps : List (Msg Kind)) → IsIn m (placed_all xs ps) → IsIn m ps ⊎ IsIn m xs
in_placed_all m xs [] h = inr h
in_placed_all m xs (p ∷ ps) h = elim (in_placed_all m (placed p xs) ps h) [
  | inl i ↦ inl (inr i)
  | inr i ↦ elim (in_placed m p xs i) [ inl e ↦ inl (inl e) | inr j ↦ inr j ]
]

in_without : (m : Msg Kind) (i : MsgId) (xs : List (Msg Kind)) → IsIn m (without i xs) → IsIn m xs
in_without m i [] h = absurd h
in_without m i (x ∷ xs) h = by (λ k. in_without m i xs k) (same_id i x.id) h
  where
    by : (IsIn m (without i xs) → IsIn m xs) → (t : Bool) → IsIn m (cond t (without i xs) (x ∷ without i xs)) → (x ≡ m) ⊎ IsIn m xs
    by rest true k = inr (rest k)
    by rest false (inl e) = inl e
    by rest false (inr k) = inr (rest k)

in_after : (m : Msg Kind) (taken : Option (Msg Kind)) (xs : List (Msg Kind)) → IsIn m (flight_after taken xs) → IsIn m xs
in_after m None xs h = h
in_after m (Some n) xs h = in_without m n.id xs h

-- what was sent is its actor's, and of the letters' kinds
sent_plain : (m : Msg Kind) (a c k : ℕ) (ls : List (Letter Kind)) → NoNaks ls → IsIn m (posted a c k ls) → is_nak m.kind ≡ false
sent_plain m a c k [] h i = absurd i
sent_plain m a c k (l ∷ ls) h (inl e) = ap (λ (x : Msg Kind). is_nak x.kind) (sym e) ∙ h.0
sent_plain m a c k (l ∷ ls) h (inr i) = sent_plain m a c (suc k) ls h.1 i

sent_by : (m : Msg Kind) (a c k : ℕ) (ls : List (Letter Kind)) → IsIn m (posted a c k ls) → m.id.sender ≡ a
sent_by m a c k [] i = absurd i
sent_by m a c k (l ∷ ls) (inl e) = ap (λ (x : Msg Kind). x.id.sender) (sym e)
sent_by m a c k (l ∷ ls) (inr i) = sent_by m a c (suc k) ls i

-- ---- a step, opened

pub record Opened (setup : Setup) (w u : Machine) (a : ℕ) (taken : Option (Msg Kind)) : Type 0 where
  pub seat : Seat ActorState
  pub result : Outcome ActorState Kind Note
  pub there : slice_get w.seats a ≡ Some seat
  pub is : outcome_of (rules setup) a seat.local taken ≡ Some result
  pub world : u ≡ world_after w a seat taken result

with_outcome : (setup : Setup) (w u : Machine) (e : Event Note) (a : ℕ) (v : Option (Msg Kind)) (x : Seat ActorState) → slice_get w.seats a ≡ Some x → (o : Option (Outcome ActorState Kind Note)) → outcome_of (rules setup) a x.local v ≡ o → world_move_with w a x v o ≡ Some (u, e) → Opened setup w u a v
with_outcome setup w u e a v x there None is h = absurd (cc)
with_outcome setup w u e a v x there (Some o) is h =
    let k : Some (world_after w a x v o, event_of a x.clock v o) ≡ Some (u, e) = h in
    let j : (world_after w a x v o, event_of a x.clock v o) ≡ (u, e) = cc in
    record { seat = x; result = o; there = there; is = is; world = sym (ap (λ (z : Machine × Event Note). z.0) j) }

move_opened : (setup : Setup) (w u : Machine) (e : Event Note) (a : ℕ) (v : Option (Msg Kind)) (x : Option (Seat ActorState)) → slice_get w.seats a ≡ x → world_move (rules setup) w a v x ≡ Some (u, e) → Opened setup w u a v
move_opened setup w u e a v None there h = absurd (cc)
move_opened setup w u e a v (Some x) there h = with_outcome setup w u e a v x there (outcome_of (rules setup) a x.local v) refl h

act_opened : (setup : Setup) (w u : Machine) (e : Event Note) (a : ℕ) → world_step (rules setup) w (Act a) ≡ Some (u, e) → Opened setup w u a None
act_opened setup w u e a h = move_opened setup w u e a None (slice_get w.seats a) refl h

take_opened : (setup : Setup) (w u : Machine) (e : Event Note) (m : Msg Kind) → find m.id w.flight ≡ Some m → world_step (rules setup) w (Take m.to m.id) ≡ Some (u, e) → Opened setup w u m.to (Some m)
take_opened setup w u e m found h =
    let same : nat_eq m.to m.to ≡ true = grind (arith, nat_tests) in
    move_opened setup w u e m.to (Some m) (slice_get w.seats m.to) refl
    (sym (ap (λ (o : Option (Msg Kind)). world_take (rules setup) w m.to o) found ∙ ap (λ (t : Bool). cond t (world_move (rules setup) w m.to (Some m) (slice_get w.seats m.to)) None) same) ∙ h)

-- ---- the drain's step

among_of : (s : Sizes) (m : Msg Kind) (ms : List (Msg Kind)) → IsIn m ms → Among (post_seen s m) (map (post_seen s) ms)
among_of s m [] i = absurd i
among_of s m (x ∷ xs) (inl e) = inl (ap (post_seen s) e)
among_of s m (x ∷ xs) (inr i) = inr (among_of s m xs i)

-- a refusal is sent by the home of its block, which is a node
from_home : (s : Sizes) (v : Theory Line) (from to : ℕ) (k : Kind) → AreSizes s → Placed (setup_seen s) v (record { from = from; to = to; kind = kind_seen s k }) → is_nak k ≡ true → from < s.nodes
from_home s v from to (Nak b) sizes p e = subst (λ (n : ℕ). n < s.nodes) (sym p.1.0) (home_low s (frame_number s b.frame) sizes p.0.0)
from_home s v from to k sizes p e = absurd (cc)

module _ (setup : Setup) (choices : List Choice) (w : Machine) (events : List (Event Note)) (ok : IsRunnable setup) (run : RunsTo setup choices w events) (stopped : is_stopped w ≡ true) where
  abbrev s : Sizes
  s = sizes_of setup

  abbrev r : Followed setup (flat_begin setup.image setup.settings).harts (flat_begin setup.image setup.settings).flat w events
  r = reached setup choices w events ok run

  -- in flight after a step there is a refusal only from a node
  after_step : (choice : Choice) (u : Machine) (event : Event Note) (m : Msg Kind) → world_step (rules setup) w choice ≡ Some (u, event) → IsIn m u.flight → is_nak m.kind ≡ true → m.id.sender < s.nodes
  after_step choice u event m step i nak =
      let t : Stepped setup.image s u event.stamp.actor event.note r.end _ = step_follows setup s tables (sizes_are setup ok) w u event choice r.end _ r.world r.follows r.distinct step in
      let flies = fits_among s.nodes (Flies (setup_seen s) (cpus s u) (mover_at s u) t.world) (posts s u) (post_seen s m) t.follows.shows.flight (among_of s m u.flight i) in
      from_home s t.world m.id.sender m.to m.kind (sizes_are setup ok) flies.0 nak

  -- so the mover sends none
  mover_plain : (choice : Choice) (u : Machine) (event : Event Note) (a : ℕ) (taken : Option (Msg Kind)) (o : Opened setup w u a taken) (x : MoverState) → o.seat.local ≡ Mover x → world_step (rules setup) w choice ≡ Some (u, event) → (m : Msg Kind) → IsIn m u.flight → is_nak m.kind ≡ true → IsIn m w.flight
  mover_plain choice u event a taken o x local step m i nak =
      let at : a ≡ s.nodes = (mover_sits setup.image s w a o.seat x r.follows.actors o.there local).0 in
      let low : m.id.sender < s.nodes = after_step choice u event m step i nak in
      elim (in_placed_all m (flight_after taken w.flight) (posted a (clock_after o.seat.clock taken) o.seat.next o.result.letters) (subst (λ (z : Machine). IsIn m z.flight) o.world i)) [
        | inl j ↦ absurd (let by : m.id.sender ≡ a = sent_by m a (clock_after o.seat.clock taken) o.seat.next o.result.letters j in grind (arith, nat_tests))
        | inr j ↦ in_after m taken w.flight j
      ]

  -- nor does a node, where its letters refuse nothing
  plain : (u : Machine) (a : ℕ) (taken : Option (Msg Kind)) (o : Opened setup w u a taken) → NoNaks o.result.letters → (m : Msg Kind) → IsIn m u.flight → is_nak m.kind ≡ true → IsIn m w.flight
  plain u a taken o none m i nak = elim (in_placed_all m (flight_after taken w.flight) (posted a (clock_after o.seat.clock taken) o.seat.next o.result.letters) (subst (λ (z : Machine). IsIn m z.flight) o.world i)) [
    | inl j ↦ absurd (let no : is_nak m.kind ≡ false = sent_plain m a (clock_after o.seat.clock taken) o.seat.next o.result.letters none j in cc)
    | inr j ↦ in_after m taken w.flight j
  ]

  node_plain : (u : Machine) (t : Msg Kind) (o : Opened setup w u t.to (Some t)) (x : NodeState) → o.seat.local ≡ Node x → find t.id w.flight ≡ Some t → ((b : Block) → t.kind ≡ PoisonRead b → is_between (x.home.entry b.frame.index b.number) ≡ false) → NoNaks o.result.letters
  unfolding take_of
  node_plain u t o x local found free =
      let row = row_is (has_row (Node x) t) (taking setup (Node x) t) o.result (subst (λ (y : ActorState). (if has_row y t then Some (taking setup y t) else None) ≡ Some o.result) local o.is) in
      subst (λ (z : Outcome ActorState Kind Note). NoNaks z.letters) row.1 (by (is_for_home t.kind))
    where
      by : (h : Bool) → NoNaks (by_node (take_by h setup.image x t)).letters
      by true = serve_plain x.home t (no_request_flies setup choices w events t.id t ok run stopped found) free
      by false = take_plain setup.image x.processor t.kind (nothing_is_asked setup choices w events t.to o.seat x ok run stopped o.there local).0

  drained_plain : (choice : Choice) (u : Machine) (event : Event Note) → drain_of setup w ≡ Some choice → world_step (rules setup) w choice ≡ Some (u, event) → (m : Msg Kind) → IsIn m u.flight → is_nak m.kind ≡ true → IsIn m w.flight
  drained_plain choice u event is step m i nak = elim (drained setup w choice is) [
    | inl t ↦ taking_one t.0 (found_in t.0 w.flight r.distinct t.1) t.2
    | inr a ↦ acting_alone (mover_acts setup 0 w.seats choice a.1)
  ]
    where
      taking_one : (t : Msg Kind) → find t.id w.flight ≡ Some t → choice ≡ Take t.to t.id → IsIn m w.flight
      taking_one t found e = by o.seat.local refl
        where
          o : Opened setup w u t.to (Some t)
          o = take_opened setup w u event t found (subst (λ (c : Choice). world_step (rules setup) w c ≡ Some (u, event)) e step)

          by : (local : ActorState) → o.seat.local ≡ local → IsIn m w.flight
          by (Mover x) l = mover_plain choice u event t.to (Some t) o x l step m i nak
          by (Node x) l = plain u t.to (Some t) o (node_plain u t o x l found (λ b k. drain_meets_no_busy_block setup choices w events t.to o.seat x t.id t b ok run stopped (is ∙ ap (λ (c : Choice). Some c) e) found k o.there l)) m i nak

      acting_alone : (a : ℕ) × (x : Seat ActorState) × (k : MoverState) × (slice_get w.seats a ≡ Some x) × (x.local ≡ Mover k) × (has_act k.job ≡ true) × (choice ≡ Act (0 + a)) → IsIn m w.flight
      acting_alone (a, x, k, there, local, may, e) = mover_plain choice u event (0 + a) None o k (ap (λ (y : Seat ActorState). y.local) same ∙ local) step m i nak
        where
          o : Opened setup w u (0 + a) None
          o = act_opened setup w u event (0 + a) (subst (λ (c : Choice). world_step (rules setup) w c ≡ Some (u, event)) e step)

          same : o.seat ≡ x
          same = let zero : 0 + a ≡ a = omega arith in let here : slice_get w.seats a ≡ Some o.seat = subst (λ (n : ℕ). slice_get w.seats n ≡ Some o.seat) zero o.there in cc

pub no_nak_in_the_drain : NoNakInTheDrain
no_nak_in_the_drain setup choices w events choice u event id message ok run stopped is step found nak =
    let i : IsIn message w.flight = drained_plain setup choices w events ok run stopped choice u event is step message (is_in_found id message u.flight found) nak in
    subst (λ (j : MsgId). find j w.flight ≡ Some message) (sym (found_own id message u.flight found)) (found_in message w.flight (reached setup choices w events ok run).distinct i)
