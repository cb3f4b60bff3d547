-- One event of an actor: the machine after it shows a world again, its harts have moved as it notes, and the flat memory follows.
use Rattle.std.proofs.Common.{◌≡◌, ◌∙◌, ℕ, ◌+◌, ◌<◌, ◌≤◌, Bool, true, false, cond, nat_eq, arith, refl, sym, ap, subst, Option, None, Some, List, [], ◌++◌, map, length, slice_get, slice_set, inl}
use Rattle.std.specs.Prelude.{if◌then◌else◌}
use Rattle.std.proofs.lemmas.Bool.Decides.{nat_tests}
use Rattle.og_line.specs.declared.Line.{Line}
use Rattle.og_runs.specs.declared.Msg.{Msg}
use Rattle.og_runs.specs.declared.Seat.{Seat}
use Rattle.og_runs.specs.Runs.{clock_after}
use Rattle.og_runs.specs.World.{flight_after, seat_after, world_after}
use Rattle.og_msg.specs.declared.Kind.{Kind}
use Rattle.og_msg.specs.declared.Note.{Note}
use Rattle.og_msg.specs.declared.Note.TheVariants as note
use Rattle.og_image.specs.Image.{ImageState}
use Rattle.og_flat.specs.Flat.{Flat}
use Rattle.rv_hart.specs.Hart.{HartState}
use Rattle.og_block.specs.State.{put}
use Rattle.og_whole.specs.Events.{World as Theory}
use Rattle.og_home.specs.Home.{Served}
use Rattle.og_processor.specs.State.{Given}
use Rattle.og_node.specs.Node.{NodeState, of_processor, of_home}
use Rattle.og_mover.specs.Table.{MoverState, Done}
use Rattle.og_machine.specs.Machine.{ActorState, Node, Mover, Machine, by_node, by_mover}
use Rattle.og_machine.specs.FlatRun.{with_hart, is_of_hart}
use Rattle.og_machine.specs.HartRuns.{HartMoves, IsNotedInside, AnswersFlat, flat_noted}
use Rattle.og_relate.specs.Data.{Post, Cpu, HomeSide, Mover as SeenMover}
use Rattle.og_relate.specs.Goes.{MadeFlat, memory_made}
use Rattle.og_relate.specs.Laws.{machine}
use Rattle.og_relate.proofs.Flat.{made_flat}
use Rattle.og_seen.specs.Numbers.{Sizes, setup_seen}
use Rattle.og_seen.specs.Messages.{post_seen, letters_seen}
use Rattle.og_seen.specs.Harts.{Hart, harts_seen}
use Rattle.og_seen.specs.Processors.{cpu_seen}
use Rattle.og_seen.specs.Homes.{home_seen}
use Rattle.og_seen.specs.Movers.{mover_seen}
use Rattle.og_seen.specs.Sound.{AreSizes, IsProcessorOf, IsHomeOf, IsMoverOf}
use Rattle.og_seen.specs.Events.{Shows, ProcessorGoes, HomeGoes, MoverGoes}
use Rattle.og_refine.specs.Machines.{cpu_of, home_of, mover_of, cpu_in, home_in, mover_in, cpus, homes, mover_at, posts, IsNodeAt, AreActors}
use Rattle.og_refine.proofs.Seats.{set_is_put, put_same, get_other, get_own, set_length}
use Rattle.og_refine.proofs.Moved.{landed}
use Rattle.og_refine.proofs.Flat.{SameMemory, Left, event_left}

-- the machine shows a world; these are its harts, and the flat memory is the world's, with the harts' reservations
pub record Follows (image : ImageState) (s : Sizes) (w : Machine) (harts : ℕ → HartState) (flat : Flat) (v : Theory Line) : Type 0 where
  pub actors : AreActors image s w
  pub shows : Shows image s (cpus s w) (homes s w) (mover_at s w) (posts s w) v
  pub memory : SameMemory s v.pages.memory flat
  pub reserved : (q : ℕ) → q < s.nodes → flat.reserved q ≡ (cpus s w q).hart.reserved
  pub harts_are : (q : ℕ) → q < s.nodes → harts q ≡ (cpus s w q).hart.state

-- what an event of actor a that notes this does
pub record Stepped (image : ImageState) (s : Sizes) (u : Machine) (a : ℕ) (noted : Option Note) (harts : ℕ → HartState) (flat : Flat) : Type 0 where
  pub after : HartState
  pub inside : IsNotedInside s.nodes a noted
  pub moves : HartMoves image (harts a) noted after
  pub answers : AnswersFlat flat a noted
  pub world : Theory Line
  pub follows : Follows image s u (with_hart harts a after) (flat_noted flat a noted) world

-- ---- the seats after it

different : (q a : ℕ) → q < a → nat_eq a q ≡ false
different q a lt = grind (arith, nat_tests)

-- an actor's seat is there
seat_below : {X : Type 0} → (xs : List X) (a n : ℕ) → length xs ≡ n + 1 → a ≤ n → a < length xs
seat_below xs a n e lt = omega arith

pub node_seat : (image : ImageState) (s : Sizes) (w : Machine) (a : ℕ) (seat : Seat ActorState) (flight : List (Msg Kind)) (x : NodeState) → AreActors image s w → a < s.nodes → seat.local ≡ Node x → IsProcessorOf image s x.processor → IsHomeOf s a x.home →
    AreActors image s (record { seats = slice_set w.seats a seat; flight = flight })
node_seat image s w a seat flight x actors lt is processor home = record {
  count = set_length w.seats a seat ∙ actors.count;
  nodes = λ q below. by q below (nat_eq q a) refl;
  mover = (actors.mover.0, (actors.mover.1.0, get_other w.seats a s.nodes seat inside (different a s.nodes lt) ∙ actors.mover.1.1, actors.mover.1.2, actors.mover.1.3));
}
  where
    inside : a < length w.seats
    inside = seat_below w.seats a s.nodes actors.count (omega arith)

    by : (q : ℕ) → q < s.nodes → (t : Bool) → nat_eq q a ≡ t → (y : NodeState) × IsNodeAt image s (record { seats = slice_set w.seats a seat; flight = flight }) q y
    by q below true e =
        let same : q ≡ a = grind (arith, nat_tests) in
        subst (λ (z : ℕ). (y : NodeState) × IsNodeAt image s (record { seats = slice_set w.seats a seat; flight = flight }) z y) (sym same) (x, (seat, get_own w.seats a seat inside, is, processor, home))
    by q below false e = let n = actors.nodes q below in (n.0, (n.1.0, get_other w.seats a q seat inside e ∙ n.1.1, n.1.2, n.1.3, n.1.4))

pub mover_seat : (image : ImageState) (s : Sizes) (w : Machine) (seat : Seat ActorState) (flight : List (Msg Kind)) (m : MoverState) → AreActors image s w → seat.local ≡ Mover m → IsMoverOf s m →
    AreActors image s (record { seats = slice_set w.seats s.nodes seat; flight = flight })
mover_seat image s w seat flight m actors is sound = record {
  count = set_length w.seats s.nodes seat ∙ actors.count;
  nodes = λ q below. (let n = actors.nodes q below in (n.0, (n.1.0, get_other w.seats s.nodes q seat inside (apart q below) ∙ n.1.1, n.1.2, n.1.3, n.1.4)));
  mover = (m, (seat, get_own w.seats s.nodes seat inside, is, sound));
}
  where
    inside : s.nodes < length w.seats
    inside = seat_below w.seats s.nodes s.nodes actors.count (omega arith)

    apart : (q : ℕ) → q < s.nodes → nat_eq q s.nodes ≡ false
    apart q below = grind (arith, nat_tests)

-- the machine of functions, with equal parts
pub same_shows : (image : ImageState) (s : Sizes) (cpu cpu2 : ℕ → Cpu Line Hart) (home home2 : ℕ → HomeSide Line) (mover mover2 : SeenMover Line) (flight : List (Post Line)) (v : Theory Line) → cpu ≡ cpu2 → home ≡ home2 → mover ≡ mover2 →
    Shows image s cpu home mover flight v → Shows image s cpu2 home2 mover2 flight v
same_shows image s cpu cpu2 home home2 mover mover2 flight v c h m shows =
    subst (λ (z : SeenMover Line). Shows image s cpu2 home2 z flight v) m (subst (λ (z : ℕ → HomeSide Line). Shows image s cpu2 z mover flight v) h (subst (λ (z : ℕ → Cpu Line Hart). Shows image s z home mover flight v) c shows))

-- what is seen of one seat
pub cpu_is : (s : Sizes) (w : Machine) (a : ℕ) (seat : Seat ActorState) (x : NodeState) → slice_get w.seats a ≡ Some seat → seat.local ≡ Node x → cpus s w a ≡ cpu_seen s x.processor
cpu_is s w a seat x there is = ap (cpu_in s) there ∙ ap (cpu_of s) is

pub home_is : (s : Sizes) (w : Machine) (a : ℕ) (seat : Seat ActorState) (x : NodeState) → slice_get w.seats a ≡ Some seat → seat.local ≡ Node x → homes s w a ≡ home_seen s x.home
home_is s w a seat x there is = ap (home_in s) there ∙ ap (home_of s) is

pub mover_is : (s : Sizes) (w : Machine) (seat : Seat ActorState) (m : MoverState) → slice_get w.seats s.nodes ≡ Some seat → seat.local ≡ Mover m → mover_at s w ≡ mover_seen s m
mover_is s w seat m there is = ap (mover_in s) there ∙ ap (mover_of s) is

-- ---- an event of a processor

-- one hart and its reservation have moved, the others stand
moved_harts : {X : Type 0} → (f : ℕ → X) (g : ℕ → X) (a q : ℕ) (x : X) → (q ≡ a → g q ≡ x) → (nat_eq q a ≡ false → g q ≡ f q) → g q ≡ cond (nat_eq q a) x (f q)
moved_harts {X} f g a q x own other = by (nat_eq q a) refl
  where
    by : (t : Bool) → nat_eq q a ≡ t → g q ≡ cond t x (f q)
    by true e = own (grind (arith, nat_tests))
    by false e = other e

pub processor_steps : (image : ImageState) (s : Sizes) (w : Machine) (harts : ℕ → HartState) (flat : Flat) (v : Theory Line) (a : ℕ) (seat : Seat ActorState) (taken : Option (Msg Kind)) (x : NodeState) (given : Given) →
    AreSizes s → Follows image s w harts flat v → a < s.nodes → slice_get w.seats a ≡ Some seat → seat.local ≡ Node x → IsProcessorOf image s x.processor → IsHomeOf s a x.home → IsProcessorOf image s given.state →
    HartMoves image x.processor.hart given.note given.state.hart → ProcessorGoes image s (cpus s w) (homes s w) (mover_at s w) (map (post_seen s) (flight_after taken w.flight)) v a x.processor given →
    Stepped image s (world_after w a seat taken (by_node (of_processor x given))) a given.note harts flat
processor_steps image s w harts flat v a seat taken x given sizes f lt there is processor home after moves goes = record {
  after = given.state.hart;
  inside = inside given.note;
  moves = subst (λ (h : HartState). HartMoves image h given.note given.state.hart) (sym (f.harts_are a lt ∙ ap (λ (c : Cpu Line Hart). c.hart.state) cpu_here)) moves;
  answers = left.answers;
  world = goes.1.world;
  follows = record {
    actors = node_seat image s w a new (world_after w a seat taken (by_node (of_processor x given))).flight (record x { processor = given.state }) f.actors lt refl after home;
    shows = same_shows image s (put (cpus s w) a (cpu_seen s given.state)) (cpus s u) (homes s w) (homes s u) (mover_at s w) (mover_at s u) (posts s u) goes.1.world (sym cpus_are) homes_are mover_stays
        (landed image s (put (cpus s w) a (cpu_seen s given.state)) (homes s w) (mover_at s w) goes.1.world (flight_after taken w.flight) a (clock_after seat.clock taken) seat.next given.letters goes.1.sim);
    memory = left.memory_is;
    reserved = λ q below. moved_harts (λ z. (cpus s w z).hart.reserved) (flat_noted flat a given.note).reserved a q given.state.reserved (λ e. subst (λ (z : ℕ). (flat_noted flat a given.note).reserved z ≡ given.state.reserved) (sym e) left.own) (λ ne. left.others q ne ∙ f.reserved q below) ∙ sym (seen_reserved q);
    harts_are = λ q below. with_is q below (nat_eq q a) refl ∙ sym (seen_hart q);
  };
}
  where
    new : Seat ActorState
    new = seat_after seat taken (by_node (of_processor x given))

    u : Machine
    u = world_after w a seat taken (by_node (of_processor x given))

    seated : a < length w.seats
    seated = seat_below w.seats a s.nodes f.actors.count (omega arith)

    cpu_here : cpus s w a ≡ cpu_seen s x.processor
    cpu_here = cpu_is s w a seat x there is

    cpus_are : cpus s u ≡ put (cpus s w) a (cpu_seen s given.state)
    cpus_are = set_is_put (cpu_in s) w.seats a new seated

    homes_are : homes s w ≡ homes s u
    homes_are = sym (set_is_put (home_in s) w.seats a new seated ∙ put_same (homes s w) a (home_seen s x.home) (home_is s w a seat x there is))

    mover_stays : mover_at s w ≡ mover_at s u
    mover_stays = sym (ap (mover_in s) (get_other w.seats a s.nodes new seated (different a s.nodes lt)))

    flat_made : MadeFlat v.pages.memory goes.0 × (goes.1.world.pages.memory ≡ memory_made v.pages.memory goes.0)
    flat_made = made_flat (setup_seen s) (harts_seen image s) (machine (put (cpus s w) a (cpu_seen s given.state)) (homes s w) (mover_at s w) (map (post_seen s) (flight_after taken w.flight) ++ letters_seen s a given.letters)) v goes.0 f.shows.reached goes.1

    left : Left s goes.1.world.pages.memory flat a given.note given.state.reserved
    left = event_left image s x.processor given v.pages.memory goes.1.world.pages.memory flat a goes.0 sizes processor f.memory (f.reserved a lt ∙ ap (λ (c : Cpu Line Hart). c.hart.reserved) cpu_here) goes.2 flat_made.0 flat_made.1

    inside : (noted : Option Note) → IsNotedInside s.nodes a noted
    inside None = tt
    inside (Some noted) = λ e. lt

    by_hart : {X : Type 0} → (g : Cpu Line Hart → X) (q : ℕ) (t : Bool) → g (cond t (cpu_seen s given.state) (cpus s w q)) ≡ cond t (g (cpu_seen s given.state)) (g (cpus s w q))
    by_hart g q true = refl
    by_hart g q false = refl

    seen_reserved : (q : ℕ) → (cpus s u q).hart.reserved ≡ cond (nat_eq q a) given.state.reserved (cpus s w q).hart.reserved
    seen_reserved q = ap (λ (c : ℕ → Cpu Line Hart). (c q).hart.reserved) cpus_are ∙ by_hart (λ (c : Cpu Line Hart). c.hart.reserved) q (nat_eq q a)

    seen_hart : (q : ℕ) → (cpus s u q).hart.state ≡ cond (nat_eq q a) given.state.hart (cpus s w q).hart.state
    seen_hart q = ap (λ (c : ℕ → Cpu Line Hart). (c q).hart.state) cpus_are ∙ by_hart (λ (c : Cpu Line Hart). c.hart.state) q (nat_eq q a)

    with_is : (q : ℕ) → q < s.nodes → (t : Bool) → nat_eq q a ≡ t → (if t then given.state.hart else harts q) ≡ cond t given.state.hart (cpus s w q).hart.state
    with_is q below true e = refl
    with_is q below false e = f.harts_are q below

-- ---- an event that leaves all harts

-- no note of a hart
abbrev pub IsQuiet : Option Note → Type 0
IsQuiet None = Unit {0}
IsQuiet (Some noted) = is_of_hart noted ≡ false

quiet_inside : (n a : ℕ) (noted : Option Note) → IsQuiet noted → IsNotedInside n a noted
quiet_inside n a None q = tt
quiet_inside n a (Some noted) q = λ e. absurd (cc)

quiet_moves : (image : ImageState) (h : HartState) (noted : Option Note) → IsQuiet noted → HartMoves image h noted h
quiet_moves image h None q = inl refl
quiet_moves image h (Some (note.Access access answer)) q = absurd (cc)
quiet_moves image h (Some (note.Emit value)) q = absurd (cc)
quiet_moves image h (Some (note.Exit value)) q = absurd (cc)
quiet_moves image h (Some (note.Trap cause pc)) q = absurd (cc)
quiet_moves image h (Some note.Spent) q = absurd (cc)
quiet_moves image h (Some (note.Begin page old new)) q = refl
quiet_moves image h (Some (note.No reason frame node)) q = refl
quiet_moves image h (Some (note.Moved page old new)) q = refl
quiet_moves image h (Some (note.Freed frame)) q = refl

quiet_flat : (flat : Flat) (a : ℕ) (noted : Option Note) → IsQuiet noted → AnswersFlat flat a noted × (flat_noted flat a noted ≡ flat)
quiet_flat flat a None q = (tt, refl)
quiet_flat flat a (Some (note.Access access answer)) q = absurd (cc)
quiet_flat flat a (Some (note.Emit value)) q = absurd (cc)
quiet_flat flat a (Some (note.Exit value)) q = absurd (cc)
quiet_flat flat a (Some (note.Trap cause pc)) q = absurd (cc)
quiet_flat flat a (Some note.Spent) q = absurd (cc)
quiet_flat flat a (Some (note.Begin page old new)) q = (tt, refl)
quiet_flat flat a (Some (note.No reason frame node)) q = (tt, refl)
quiet_flat flat a (Some (note.Moved page old new)) q = (tt, refl)
quiet_flat flat a (Some (note.Freed frame)) q = (tt, refl)

-- a hart that stays where it was
with_own : (harts : ℕ → HartState) (a q : ℕ) → with_hart harts a (harts a) q ≡ harts q
with_own harts a q = by (nat_eq q a) refl
  where
    by : (t : Bool) → nat_eq q a ≡ t → (if t then harts a else harts q) ≡ harts q
    by true e = let same : q ≡ a = grind (arith, nat_tests) in ap harts (sym same)
    by false e = refl

quiet_steps : (image : ImageState) (s : Sizes) (u : Machine) (a : ℕ) (noted : Option Note) (harts : ℕ → HartState) (flat : Flat) (world : Theory Line) → IsQuiet noted → AreActors image s u → Shows image s (cpus s u) (homes s u) (mover_at s u) (posts s u) world → SameMemory s world.pages.memory flat →
    ((q : ℕ) → q < s.nodes → flat.reserved q ≡ (cpus s u q).hart.reserved) → ((q : ℕ) → q < s.nodes → harts q ≡ (cpus s u q).hart.state) → Stepped image s u a noted harts flat
quiet_steps image s u a noted harts flat world q actors shows memory reserved are =
    let n = quiet_flat flat a noted q in
    record {
      after = harts a;
      inside = quiet_inside s.nodes a noted q;
      moves = quiet_moves image (harts a) noted q;
      answers = n.0;
      world = world;
      follows = record {
        actors = actors;
        shows = shows;
        memory = subst (λ (f : Flat). SameMemory s world.pages.memory f) (sym n.1) memory;
        reserved = λ p below. ap (λ (f : Flat). f.reserved p) n.1 ∙ reserved p below;
        harts_are = λ p below. with_own harts a p ∙ are p below;
      };
    }

-- ---- an event of a home

pub home_steps : (image : ImageState) (s : Sizes) (w : Machine) (harts : ℕ → HartState) (flat : Flat) (v : Theory Line) (a : ℕ) (seat : Seat ActorState) (taken : Option (Msg Kind)) (x : NodeState) (served : Served) →
    Follows image s w harts flat v → a < s.nodes → slice_get w.seats a ≡ Some seat → seat.local ≡ Node x → IsProcessorOf image s x.processor → IsHomeOf s a served.home →
    HomeGoes image s (cpus s w) (homes s w) (mover_at s w) (map (post_seen s) (flight_after taken w.flight)) v a served →
    Stepped image s (world_after w a seat taken (by_node (of_home x served))) a None harts flat
home_steps image s w harts flat v a seat taken x served f lt there is processor home goes =
    quiet_steps image s u a None harts flat goes.world tt
    (node_seat image s w a new u.flight (record x { home = served.home }) f.actors lt refl processor home)
    (same_shows image s (cpus s w) (cpus s u) (put (homes s w) a (home_seen s served.home)) (homes s u) (mover_at s w) (mover_at s u) (posts s u) goes.world cpus_are (sym homes_are) mover_stays
    (landed image s (cpus s w) (put (homes s w) a (home_seen s served.home)) (mover_at s w) goes.world (flight_after taken w.flight) a (clock_after seat.clock taken) seat.next served.letters goes.sim))
    (subst (λ (m : ℕ → ℕ → Line). SameMemory s m flat) (sym flat_made.1) f.memory)
    (λ q below. f.reserved q below ∙ ap (λ (c : ℕ → Cpu Line Hart). (c q).hart.reserved) cpus_are)
    (λ q below. f.harts_are q below ∙ ap (λ (c : ℕ → Cpu Line Hart). (c q).hart.state) cpus_are)
  where
    new : Seat ActorState
    new = seat_after seat taken (by_node (of_home x served))

    u : Machine
    u = world_after w a seat taken (by_node (of_home x served))

    seated : a < length w.seats
    seated = seat_below w.seats a s.nodes f.actors.count (omega arith)

    cpus_are : cpus s w ≡ cpus s u
    cpus_are = sym (set_is_put (cpu_in s) w.seats a new seated ∙ put_same (cpus s w) a (cpu_seen s x.processor) (cpu_is s w a seat x there is))

    homes_are : homes s u ≡ put (homes s w) a (home_seen s served.home)
    homes_are = set_is_put (home_in s) w.seats a new seated

    mover_stays : mover_at s w ≡ mover_at s u
    mover_stays = sym (ap (mover_in s) (get_other w.seats a s.nodes new seated (different a s.nodes lt)))

    flat_made : MadeFlat v.pages.memory [] × (goes.world.pages.memory ≡ v.pages.memory)
    flat_made = made_flat (setup_seen s) (harts_seen image s) (machine (cpus s w) (put (homes s w) a (home_seen s served.home)) (mover_at s w) (map (post_seen s) (flight_after taken w.flight) ++ letters_seen s a served.letters)) v [] f.shows.reached goes

-- ---- an event of the mover

pub mover_steps : (image : ImageState) (s : Sizes) (w : Machine) (harts : ℕ → HartState) (flat : Flat) (v : Theory Line) (seat : Seat ActorState) (taken : Option (Msg Kind)) (m : MoverState) (done : Done) →
    Follows image s w harts flat v → slice_get w.seats s.nodes ≡ Some seat → seat.local ≡ Mover m → IsMoverOf s done.mover → IsQuiet done.note →
    MoverGoes image s (cpus s w) (homes s w) (map (post_seen s) (flight_after taken w.flight)) v done →
    Stepped image s (world_after w s.nodes seat taken (by_mover done)) s.nodes done.note harts flat
mover_steps image s w harts flat v seat taken m done f there is sound quiet goes =
    quiet_steps image s u s.nodes done.note harts flat goes.world quiet
    (mover_seat image s w new u.flight done.mover f.actors refl sound)
    (same_shows image s (cpus s w) (cpus s u) (homes s w) (homes s u) (mover_seen s done.mover) (mover_at s u) (posts s u) goes.world cpus_are homes_are (sym mover_moves)
    (landed image s (cpus s w) (homes s w) (mover_seen s done.mover) goes.world (flight_after taken w.flight) s.nodes (clock_after seat.clock taken) seat.next done.letters goes.sim))
    (subst (λ (k : ℕ → ℕ → Line). SameMemory s k flat) (sym flat_made.1) f.memory)
    (λ q below. f.reserved q below ∙ ap (λ (c : ℕ → Cpu Line Hart). (c q).hart.reserved) cpus_are)
    (λ q below. f.harts_are q below ∙ ap (λ (c : ℕ → Cpu Line Hart). (c q).hart.state) cpus_are)
  where
    new : Seat ActorState
    new = seat_after seat taken (by_mover done)

    u : Machine
    u = world_after w s.nodes seat taken (by_mover done)

    seated : s.nodes < length w.seats
    seated = seat_below w.seats s.nodes s.nodes f.actors.count (omega arith)

    cpus_are : cpus s w ≡ cpus s u
    cpus_are = sym (set_is_put (cpu_in s) w.seats s.nodes new seated ∙ put_same (cpus s w) s.nodes (cpu_of s (Mover done.mover)) (ap (cpu_in s) there ∙ ap (cpu_of s) is))

    homes_are : homes s w ≡ homes s u
    homes_are = sym (set_is_put (home_in s) w.seats s.nodes new seated ∙ put_same (homes s w) s.nodes (home_of s (Mover done.mover)) (ap (home_in s) there ∙ ap (home_of s) is))

    mover_moves : mover_at s u ≡ mover_seen s done.mover
    mover_moves = ap (mover_in s) (get_own w.seats s.nodes new seated)

    flat_made : MadeFlat v.pages.memory [] × (goes.world.pages.memory ≡ v.pages.memory)
    flat_made = made_flat (setup_seen s) (harts_seen image s) (machine (cpus s w) (homes s w) (mover_seen s done.mover) (map (post_seen s) (flight_after taken w.flight) ++ letters_seen s s.nodes done.letters)) v [] f.shows.reached goes
