-- A run makes at most one store an event: the seats and the messages in flight, step by step from the start.
use Rattle.std.proofs.Common.{◌≡◌, ◌+◌, ◌≤◌, ◌<◌, ◌^◌, ℕ, zero, suc, Bool, true, false, cond, nat_eq, Option, None, Some, Result, refl, subst, List, [], ◌∷◌, ◌++◌, length, map, slice_get, slice_set, arith}
use Rattle.std.specs.Prelude.{Ok, Err, nat_lt, if◌then◌else◌}
use Rattle.std.specs.List.{AllByRecursion}
use Rattle.std.proofs.lemmas.Bool.Decides.{nat_tests}
use Rattle.og_base.specs.Numbers.{below}
use Rattle.og_base.specs.declared.NotEnabled.{NotEnabled}
use Rattle.og_line.specs.declared.Line.{Line}
use Rattle.og_runs.specs.declared.Choice.{Choice}
use Rattle.og_runs.specs.declared.Choice.TheVariants.{Act, Take}
use Rattle.og_runs.specs.declared.Event.{Event}
use Rattle.og_runs.specs.declared.Letter.{Letter}
use Rattle.og_runs.specs.declared.Msg.{Msg}
use Rattle.og_runs.specs.declared.MsgId.{MsgId}
use Rattle.og_runs.specs.declared.Seat.{Seat}
use Rattle.og_runs.specs.Runs.{Outcome, same_id, posted, clock_after}
use Rattle.og_runs.specs.World.{WorldRun, find, without, precedes, placed, placed_all, flight_after, seat_after, world_move, world_move_with, world_take, world_step}
use Rattle.og_msg.specs.declared.Kind.{Kind}
use Rattle.og_msg.specs.declared.Note.{Note}
use Rattle.og_msg.specs.Kinds.{line_of as message_line}
use Rattle.og_home.specs.Home.{HomeState}
use Rattle.og_node.specs.Node.{NodeState, is_for_home, take_by}
use Rattle.og_mover.specs.Table.{is_low_line}
use Rattle.og_machine.specs.Machine.{Setup, ActorState, Node, Mover, Machine, Gives as Given, rules, by_node, new_seat, start_node, start_mover, start_machine, can_act, acting, taking, where_enabled, has_row, act_of, take_of}
use Rattle.og_processor.specs.Sound.{IsLow}
use Rattle.og_stores.specs.Stores.{HasFew, FewInKind, FewInHome, FewInJob, FewInActor}
use Rattle.og_stores.specs.Laws.{RunsTo, StoresAreBounded, LinesAreLow, SentLinesAreLow}
use Rattle.og_stores.proofs.Letters.{FewInLetters, more_line, more_letters}
use Rattle.og_stores.proofs.Processors.{Few, few_seen, more, act_gives, take_gives, start_few}
use Rattle.og_stores.proofs.Homes.{serve_few, start_home_few}
use Rattle.og_stores.proofs.Movers.{more_job, mover_act_few, mover_take_few, first_job}

-- ---- one actor

abbrev Has : ℕ → ActorState → Type 0
Has n (Node x) = Few n x.processor × FewInHome n x.home
Has n (Mover m) = FewInJob n m.job

actor_seen : (n : ℕ) (x : ActorState) → Has n x → FewInActor n x
actor_seen n (Node x) has = (few_seen n x.processor has.0, has.1)
actor_seen n (Mover m) has = has

more_home : (n m : ℕ) (home : HomeState) → n ≤ m → FewInHome n home → FewInHome m home
more_home n m home le few index number = let h = few index number in omega arith

more_actor : (n m : ℕ) (x : ActorState) → n ≤ m → Has n x → Has m x
more_actor n m (Node x) le has = (more n m x.processor le has.0, more_home n m x.home le has.1)
more_actor n m (Mover o) le has = more_job n m o.job le has

record Made (n : ℕ) (made : Outcome ActorState Kind Note) : Type 0 where
  pub local : Has n made.local
  pub letters : FewInLetters n made.letters

more_made : (n m : ℕ) (made : Outcome ActorState Kind Note) → n ≤ m → Made n made → Made m made
more_made n m made le h = record { local = more_actor n m made.local le h.local; letters = more_letters n m made.letters le h.letters }

abbrev MadeIf : ℕ → Given → Type 0
MadeIf n None = Unit {0}
MadeIf n (Some made) = Made n made

acting_made : (setup : Setup) (n : ℕ) (x : ActorState) → Has n x → Made (n + 1) (acting setup x)
acting_made setup n (Node x) has = let a = act_gives n setup.image x.processor has.0 in record { local = (a.state, more_home n (n + 1) x.home (omega arith) has.1); letters = a.letters }
acting_made setup n (Mover m) has = let a = mover_act_few n m has in more_made n (n + 1) (acting setup (Mover m)) (omega arith) (record { local = a.job; letters = a.letters })

act_made : (setup : Setup) (n : ℕ) (x : ActorState) → Has n x → MadeIf (n + 1) (act_of setup x)
unfolding act_of
act_made setup n x has = by (can_act setup x)
  where
    by : (o : Result (Unit {0}) NotEnabled) → MadeIf (n + 1) (where_enabled o (acting setup x))
    by (Ok u) = acting_made setup n x has
    by (Err why) = tt

node_made : (setup : Setup) (n : ℕ) (x : NodeState) (message : Msg Kind) → Has n (Node x) → FewInKind n message.kind → (t : Bool) → Made (n + 1) (by_node (take_by t setup.image x message))
node_made setup n x message has h true = let s = serve_few n x.home message has.1 h in more_made n (n + 1) (by_node (take_by true setup.image x message)) (omega arith) (record { local = (has.0, s.home); letters = s.letters })
node_made setup n x message has h false = let a = take_gives n setup.image x.processor message.kind has.0 h in record { local = (a.state, more_home n (n + 1) x.home (omega arith) has.1); letters = a.letters }

taking_made : (setup : Setup) (n : ℕ) (x : ActorState) (message : Msg Kind) → Has n x → FewInKind n message.kind → Made (n + 1) (taking setup x message)
taking_made setup n (Node x) message has h = node_made setup n x message has h (is_for_home message.kind)
taking_made setup n (Mover m) message has h = let a = mover_take_few n m message has h in more_made n (n + 1) (taking setup (Mover m) message) (omega arith) (record { local = a.job; letters = a.letters })

take_made : (setup : Setup) (n : ℕ) (x : ActorState) (message : Msg Kind) → Has n x → FewInKind n message.kind → MadeIf (n + 1) (take_of setup x message)
unfolding take_of
take_made setup n x message has h = by (has_row x message)
  where
    by : (t : Bool) → MadeIf (n + 1) (if t then Some (taking setup x message) else None)
    by true = taking_made setup n x message has h
    by false = tt

-- ---- messages in flight

abbrev FewInFlight : ℕ → List (Msg Kind) → Type 0
FewInFlight n messages = AllByRecursion (λ message. FewInKind n message.kind) messages

more_flight : (n m : ℕ) (ms : List (Msg Kind)) → n ≤ m → FewInFlight n ms → FewInFlight m ms
more_flight n m [] le few = tt
more_flight n m (x ∷ xs) le few = (more_line n m (message_line x.kind) le few.0, more_flight n m xs le few.1)

found_few : (n : ℕ) (id : MsgId) (m : Msg Kind) (ms : List (Msg Kind)) → find id ms ≡ Some m → FewInFlight n ms → FewInKind n m.kind
found_few n id m [] e few = absurd (cc)
found_few n id m (x ∷ xs) e few = by (same_id id x.id) e (λ f. found_few n id m xs f few.1)
  where
    by : (t : Bool) → cond t (Some x) (find id xs) ≡ Some m → (find id xs ≡ Some m → FewInKind n m.kind) → FewInKind n m.kind
    by true f rest = let same : x ≡ m = cc in subst (λ (y : Msg Kind). FewInKind n y.kind) same few.0
    by false f rest = rest f

left_few : (n : ℕ) (id : MsgId) (ms : List (Msg Kind)) → FewInFlight n ms → FewInFlight n (without id ms)
left_few n id [] few = tt
left_few n id (x ∷ xs) few = by (same_id id x.id) (left_few n id xs few.1)
  where
    by : (t : Bool) → FewInFlight n (without id xs) → FewInFlight n (cond t (without id xs) (x ∷ without id xs))
    by true h = h
    by false h = (few.0, h)

placed_few : (n : ℕ) (m : Msg Kind) (ms : List (Msg Kind)) → FewInKind n m.kind → FewInFlight n ms → FewInFlight n (placed m ms)
placed_few n m [] h few = (h, tt)
placed_few n m (x ∷ xs) h few = by (precedes x m) (placed_few n m xs h few.1)
  where
    by : (t : Bool) → FewInFlight n (placed m xs) → FewInFlight n (cond t (x ∷ placed m xs) (m ∷ x ∷ xs))
    by true rest = (few.0, rest)
    by false rest = (h, few)

posted_few : (n a c k : ℕ) (letters : List (Letter Kind)) (ms : List (Msg Kind)) → FewInLetters n letters → FewInFlight n ms → FewInFlight n (placed_all ms (posted a c k letters))
posted_few n a c k [] ms h few = few
posted_few n a c k (l ∷ ls) ms h few = posted_few n a c (suc k) ls (placed m ms) h.1 (placed_few n m ms h.0 few)
  where
    m : Msg Kind
    m = record { id = record { sender = a; seq = k }; to = l.to; stamp = record { clock = c; actor = a }; kind = l.kind }

after_few : (n : ℕ) (v : Option (Msg Kind)) (ms : List (Msg Kind)) → FewInFlight n ms → FewInFlight n (flight_after v ms)
after_few n None ms few = few
after_few n (Some m) ms few = left_few n m.id ms few

-- ---- seats

abbrev FewInSeats : ℕ → List (Seat ActorState) → Type 0
FewInSeats n seats = AllByRecursion (λ seat. Has n seat.local) seats

more_seats : (n m : ℕ) (xs : List (Seat ActorState)) → n ≤ m → FewInSeats n xs → FewInSeats m xs
more_seats n m [] le few = tt
more_seats n m (x ∷ xs) le few = (more_actor n m x.local le few.0, more_seats n m xs le few.1)

seat_few : (n : ℕ) (xs : List (Seat ActorState)) (q : ℕ) (x : Seat ActorState) → slice_get xs q ≡ Some x → FewInSeats n xs → Has n x.local
seat_few n [] q x e few = absurd (cc)
seat_few n (z ∷ xs) zero x e few = let same : z ≡ x = cc in subst (λ (y : Seat ActorState). Has n y.local) same few.0
seat_few n (z ∷ xs) (suc q) x e few = seat_few n xs q x e few.1

set_few : (n : ℕ) (xs : List (Seat ActorState)) (q : ℕ) (x : Seat ActorState) → Has n x.local → FewInSeats n xs → FewInSeats n (slice_set xs q x)
set_few n [] q x h few = tt
set_few n (z ∷ xs) zero x h few = (h, few.1)
set_few n (z ∷ xs) (suc q) x h few = (few.0, set_few n xs q x h few.1)

-- ---- steps

record Counts (n : ℕ) (w : Machine) : Type 0 where
  pub seats : FewInSeats n w.seats
  pub flight : FewInFlight n w.flight

abbrev CountsIf : ℕ → Option (Machine × Event Note) → Type 0
CountsIf n None = Unit {0}
CountsIf n (Some step) = Counts n step.0

moved_counts : (setup : Setup) (n a : ℕ) (w : Machine) (x : Seat ActorState) (v : Option (Msg Kind)) (o : Given) → Counts n w → MadeIf (n + 1) o → CountsIf (n + 1) (world_move_with w a x v o)
moved_counts setup n a w x v None counts made = tt
moved_counts setup n a w x v (Some o) counts made = record {
  seats = set_few (n + 1) w.seats a (seat_after x v o) made.local (more_seats n (n + 1) w.seats (omega arith) counts.seats);
  flight = posted_few (n + 1) a (clock_after x.clock v) x.next o.letters (flight_after v w.flight) made.letters (after_few (n + 1) v w.flight (more_flight n (n + 1) w.flight (omega arith) counts.flight));
}

act_counts : (setup : Setup) (n a : ℕ) (w : Machine) → Counts n w → CountsIf (n + 1) (world_move (rules setup) w a None (slice_get w.seats a))
act_counts setup n a w counts = by (slice_get w.seats a) refl
  where
    by : (o : Option (Seat ActorState)) → slice_get w.seats a ≡ o → CountsIf (n + 1) (world_move (rules setup) w a None o)
    by None e = tt
    by (Some x) e = moved_counts setup n a w x None (act_of setup x.local) counts (act_made setup n x.local (seat_few n w.seats a x e counts.seats))

take_counts : (setup : Setup) (n a : ℕ) (id : MsgId) (w : Machine) → Counts n w → CountsIf (n + 1) (world_take (rules setup) w a (find id w.flight))
take_counts setup n a id w counts = by (find id w.flight) refl
  where
    by_seat : (m : Msg Kind) → FewInKind n m.kind → (o : Option (Seat ActorState)) → slice_get w.seats a ≡ o → CountsIf (n + 1) (world_move (rules setup) w a (Some m) o)
    by_seat m h None e = tt
    by_seat m h (Some x) e = moved_counts setup n a w x (Some m) (take_of setup x.local m) counts (take_made setup n x.local m (seat_few n w.seats a x e counts.seats) h)

    by_actor : (m : Msg Kind) → FewInKind n m.kind → (t : Bool) → CountsIf (n + 1) (cond t (world_move (rules setup) w a (Some m) (slice_get w.seats a)) None)
    by_actor m h true = by_seat m h (slice_get w.seats a) refl
    by_actor m h false = tt

    by : (o : Option (Msg Kind)) → find id w.flight ≡ o → CountsIf (n + 1) (world_take (rules setup) w a o)
    by None f = tt
    by (Some m) f = by_actor m (found_few n id m w.flight f counts.flight) (nat_eq m.to a)

step_counts : (setup : Setup) (n : ℕ) (w : Machine) (choice : Choice) → Counts n w → CountsIf (n + 1) (world_step (rules setup) w choice)
step_counts setup n w (Act a) counts = act_counts setup n a w counts
step_counts setup n w (Take a id) counts = take_counts setup n a id w counts

-- ---- runs

run_counts : (setup : Setup) (cs : List Choice) (n : ℕ) (w u : Machine) (es : List (Event Note)) → Counts n w → WorldRun (rules setup) w cs u es → Counts (n + length cs) u
run_counts setup [] n w u es counts run = subst (λ (k : ℕ). Counts k u) (none n) (subst (Counts n) run.0 counts)
  where
    none : (n : ℕ) → n ≡ n + 0
    none n = omega arith
run_counts setup (c ∷ cs) n w u es counts run = subst (λ (k : ℕ). Counts k u) (one_more n (length cs)) (run_counts setup cs (n + 1) run.0 u run.2 (subst (CountsIf (n + 1)) run.3 (step_counts setup n w c counts)) run.5)
  where
    one_more : (n l : ℕ) → n + 1 + l ≡ n + suc l
    one_more n l = omega arith

-- ---- the start

begins : (setup : Setup) → Counts 0 (start_machine setup)
unfolding start_machine
begins setup = record { seats = all (below setup.settings.nodes); flight = tt }
  where
    all : (numbers : List ℕ) → FewInSeats 0 (map (λ number. new_seat (start_node setup number)) numbers ++ new_seat (start_mover setup) ∷ [])
    all [] = (first_job 0 setup.layout setup.settings, tt)
    all (q ∷ qs) = ((start_few 0 setup.image setup.settings q, start_home_few 0 setup.image setup.layout setup.settings q), all qs)

counts_of : (setup : Setup) (cs : List Choice) (w : Machine) (es : List (Event Note)) → RunsTo setup cs w es → Counts (length cs) w
counts_of setup cs w es run = subst (λ (k : ℕ). Counts k w) (none (length cs)) (run_counts setup cs 0 (start_machine setup) w es (begins setup) run)
  where
    none : (n : ℕ) → 0 + n ≡ n
    none n = omega arith

-- ---- the laws

pub stores_are_bounded : StoresAreBounded
stores_are_bounded setup cs w es run = let counts = counts_of setup cs w es run in record {
  held = λ q seat e. actor_seen (length cs) seat.local (seat_few (length cs) w.seats q seat e counts.seats);
  sent = λ id message e. found_few (length cs) id message w.flight e counts.flight;
}

-- few is low
low_line : (n : ℕ) (line : Option Line) → n < 2 ^ 63 → HasFew n line → IsLow line
low_line n None low few l e = absurd (cc)
low_line n (Some line) low few l e = let same : line ≡ l = cc in subst (λ (y : Line). y.stores < 2 ^ 63) same (by line.stores few)
  where
    by : (k : ℕ) → k ≤ n → k < 2 ^ 63
    by k le = omega arith

pub lines_are_low : LinesAreLow
lines_are_low setup cs w es run low = record {
  processors = λ q seat x there is.
      (let few : FewInActor (length cs) (Node x) = subst (FewInActor (length cs)) is ((stores_are_bounded setup cs w es run).held q seat there) in record {
        cached = λ block. low_line (length cs) _ low (few.0.cached block);
        replied = λ request e. low_line (length cs) _ low (few.0.replied request e);
        responded = λ request e. low_line (length cs) _ low (few.0.responded request e);
      });
  messages = λ id message e. low_line (length cs) (message_line message.kind) low ((stores_are_bounded setup cs w es run).sent id message e);
}

pub sent_lines_are_low : SentLinesAreLow
sent_lines_are_low setup cs w es id message run low e = by (message_line message.kind) ((stores_are_bounded setup cs w es run).sent id message e)
  where
    by : (line : Option Line) → HasFew (length cs) line → is_low_line line ≡ true
    by None few = refl
    by (Some line) few = below_is (line.stores) few
      where
        below_is : (k : ℕ) → k ≤ length cs → nat_lt k (2 ^ 55) ≡ true
        below_is k le = grind (arith, nat_tests)
