-- The theorems on worlds.
use Rattle.std.proofs.Common.{◌≡◌, ℕ, suc, ◌+◌, ◌<◌, ◌≤◌, Bool, true, false, cond, nat_eq, arith, ◌≢◌, refl, sym, subst, List, [], ◌∷◌, ◌++◌, length, slice_get, Option, None, Some, ap, ap₂, nat_lt}
use Rattle.std.proofs.Math.Path.{◌∙◌}
use Rattle.std.proofs.lemmas.Bool.Decides.{nat_tests}
use Rattle.std.proofs.lemmas.List.{append-nil}
use Rattle.og_runs.specs.declared.Choice.{Choice}
use Rattle.og_runs.specs.declared.Event.{Event}
use Rattle.og_runs.specs.declared.Seat.{Seat}
use Rattle.og_runs.specs.Runs.{Rules, History, Histories, Local, own_events, ClocksRise, Consistent, choices, IsSound, LogsLead, joined, IsSorted, same_stamp, InOrder, Strict}
use Rattle.og_runs.specs.World.{World, world_step, WorldRun, Shows, Inside}
use Rattle.og_runs.proofs.Locals.{move_made}
use Rattle.og_runs.proofs.RunLaws.{ClocksRiseStrictly, log_rises}
use Rattle.og_runs.proofs.Sorts.{logs_stay, rising_ordered, strict_sorted, strictly_rises_on}
use Rattle.og_runs.proofs.Forward.{merged}
use Rattle.og_runs.proofs.Back.{locals, resorted, event_actor}
use Rattle.og_runs.proofs.Placed.{same_flight}
use Rattle.og_runs.proofs.Shown.{ShownRun, shown_run, DataRun, data_run, slice_get_below, slice_get_some}

-- logs in an order of rising clocks are a run of the world
pub merged_data : {A K N : Type 0} → (r : Rules A K N) (w : World A K) (s t : Histories A K) (c : ℕ) (es : List (Event N)) → Shows w s → IsSound s → Inside (length w.seats) es →
    ((a : ℕ) → Local r a (s a) (own_events a es) (t a)) → Consistent t → ClocksRise c es → DataRun r w (choices es) t es
merged_data r w s t c es sh sound inside h all up = data_run r (choices es) w s t es sh sound inside (merged r s t c es h all up)

same_list : {X : Type 0} → (xs ys : List X) → ((k : ℕ) → slice_get xs k ≡ slice_get ys k) → xs ≡ ys
same_list [] [] h = refl
same_list {X} [] (y ∷ ys) h = let e : None ≡ Some y = h 0 in absurd (cc)
same_list {X} (x ∷ xs) [] h = let e : Some x ≡ None = h 0 in absurd (cc)
same_list {X} (x ∷ xs) (y ∷ ys) h = let e : Some x ≡ Some y = h 0 in let f : x ≡ y = cc in ap₂ (λ (z : X) (zs : List X). z ∷ zs) f (same_list xs ys (λ k. h (suc k)))

same_seats : {A K : Type 0} → (w u : World A K) (s : Histories A K) → Shows w s → Shows u s → length w.seats ≡ length u.seats → w.seats ≡ u.seats
same_seats {A} {K} w u s x y size = same_list w.seats u.seats (λ a. at a (slice_get w.seats a) refl (slice_get u.seats a) refl)
  where
    at : (a : ℕ) (o : Option (Seat A)) → slice_get w.seats a ≡ o → (p : Option (Seat A)) → slice_get u.seats a ≡ p → slice_get w.seats a ≡ slice_get u.seats a
    at a None e None f = e ∙ sym f
    at a (Some p) e (Some q) f = e ∙ (ap (λ (z : Seat A). Some z) (sym (x.seat a p e) ∙ y.seat a q f) ∙ sym f)
    at a (Some p) e None f = let lt : a < length w.seats = slice_get_below w.seats a p e in let g : (z : Seat A) × (slice_get u.seats a ≡ Some z) = slice_get_some u.seats a (omega arith) in absurd (cc)
    at a None e (Some q) f = let lt : a < length u.seats = slice_get_below u.seats a q f in let g : (z : Seat A) × (slice_get w.seats a ≡ Some z) = slice_get_some w.seats a (omega arith) in absurd (cc)

pub inside_none : {N : Type 0} → (n a : ℕ) (es : List (Event N)) → n ≤ a → Inside n es → own_events a es ≡ []
inside_none n a [] le h = refl
inside_none {N} n a (e ∷ es) le h = let lt : e.stamp.actor < n = h.0 in let ne : nat_eq e.stamp.actor a ≡ false = grind (arith, nat_tests) in rw ne (inside_none n a es le h.1)

inside_from_own : {N : Type 0} → (n : ℕ) (es : List (Event N)) → ((a : ℕ) → n ≤ a → own_events a es ≡ []) → Inside n es
inside_from_own n [] h = tt
inside_from_own {N} n (e ∷ es) h = (here (nat_lt e.stamp.actor n) refl, inside_from_own n es (λ a le. tail a (nat_eq e.stamp.actor a) (h a le)))
  where
    tail : (a : ℕ) (w : Bool) → cond w (e ∷ own_events a es) (own_events a es) ≡ [] → own_events a es ≡ []
    tail a true k = absurd (cc)
    tail a false k = k

    here : (w : Bool) → nat_lt e.stamp.actor n ≡ w → e.stamp.actor < n
    here true is = grind (arith, nat_tests)
    here false is =
        let le : n ≤ e.stamp.actor = grind (arith, nat_tests) in
        let same : nat_eq e.stamp.actor e.stamp.actor ≡ true = grind (arith, nat_tests) in
        let k : cond (nat_eq e.stamp.actor e.stamp.actor) (e ∷ own_events e.stamp.actor es) (own_events e.stamp.actor es) ≡ [] = h e.stamp.actor le in
        let j : e ∷ own_events e.stamp.actor es ≡ [] = rw same at k in absurd (cc)

pub inside_same : {N : Type 0} → (n : ℕ) (es fs : List (Event N)) → ((a : ℕ) → own_events a fs ≡ own_events a es) → Inside n es → Inside n fs
inside_same n es fs same h = inside_from_own n fs (λ a le. same a ∙ inside_none n a es le h)

-- the events of a run of a world, sorted, are a run of the world, which ends with the same seats and the same messages in flight
pub resorted_data : {A K N : Type 0} → (r : Rules A K N) (cs : List Choice) (w u : World A K) (s : Histories A K) (es fs : List (Event N)) (c : ℕ) → Shows w s → IsSound s → WorldRun r w cs u es →
    ((a : ℕ) → own_events a fs ≡ own_events a es) → ClocksRise c fs → (v : World A K) × WorldRun r w (choices fs) v fs × (v.seats ≡ u.seats) × (v.flight ≡ u.flight)
resorted_data {A} {K} {N} r cs w u s es fs c sh sound run same up =
    let x : ShownRun r w s cs u es = shown_run r cs w s u es sh sound run in
    let y : DataRun r w (choices fs) x.state fs = data_run r (choices fs) w s x.state fs sh sound (inside_same (length w.seats) es fs same x.inside) (resorted r cs s x.state es fs c sound x.runs same up) in
    (y.world, y.runs, same_seats y.world u x.state y.shows x.shows (y.size ∙ sym x.size), same_flight y.world.flight u.flight y.shows.distinct x.shows.distinct y.shows.in_place x.shows.in_place (λ i. y.shows.flight i ∙ sym (x.shows.flight i)))

-- ------------------------------------------------------------------------------ in the order of stamps

strictly_rises : {N : Type 0} → (c : ℕ) (es : List (Event N)) → ClocksRiseStrictly c es → ClocksRise 0 es
strictly_rises c [] h = tt
strictly_rises c (e ∷ es) h = (omega arith, rises e.stamp.clock es h.1)
  where
    rises : {N : Type 0} → (c : ℕ) (es : List (Event N)) → ClocksRiseStrictly c es → ClocksRise c es
    rises c [] h = tt
    rises c (e ∷ es) h = let lt : c < e.stamp.clock = h.0 in (omega arith, rises e.stamp.clock es h.1)

own_events_append : {N : Type 0} → (a : ℕ) (xs ys : List (Event N)) → own_events a (xs ++ ys) ≡ own_events a xs ++ own_events a ys
own_events_append a [] ys = refl
own_events_append {N} a (x ∷ xs) ys = at (nat_eq x.stamp.actor a) (own_events_append a xs ys)
  where
    at : (w : Bool) → own_events a (xs ++ ys) ≡ own_events a xs ++ own_events a ys → cond w (x ∷ own_events a (xs ++ ys)) (own_events a (xs ++ ys)) ≡ cond w (x ∷ own_events a xs) (own_events a xs) ++ own_events a ys
    at true h = ap (λ (zs : List (Event N)). x ∷ zs) h
    at false h = h

-- a log's events are its actor's
own_events_of_log : {A K N : Type 0} → (r : Rules A K N) (a b : ℕ) (p : History A K) (es : List (Event N)) (q : History A K) → Local r a p es q → own_events b es ≡ cond (nat_eq a b) es []
own_events_of_log {A} {K} {N} r a b p [] q l = at (nat_eq a b)
  where
    at : (w : Bool) → own_events b [] ≡ cond w [] (own_events {N = N} b [])
    at true = refl
    at false = refl
own_events_of_log {A} {K} {N} r a b p (e ∷ es) q l =
    let who : a ≡ e.stamp.actor = sym (event_actor r a p l.1 l.0 e (move_made r a p l.1 l.0 e l.2)) in
    subst (λ (z : ℕ). cond (nat_eq z b) (e ∷ own_events b es) (own_events b es) ≡ cond (nat_eq a b) (e ∷ es) []) who (at (nat_eq a b) (own_events_of_log r a b l.0 es q l.3))
  where
    at : (w : Bool) → own_events b es ≡ cond w es [] → cond w (e ∷ own_events b es) (own_events b es) ≡ cond w (e ∷ es) []
    at true h = ap (λ (zs : List (Event N)). e ∷ zs) h
    at false h = h

-- each actor's part of the joined logs is its log
logs_local : {A K N : Type 0} → (r : Rules A K N) (s t : Histories A K) (k : ℕ) (ls : List (List (Event N))) → LogsLead r s k ls t → (a : ℕ) → k ≤ a → Local r a (s a) (own_events a (joined ls)) (t a)
logs_local r s t k [] h a le = h a le
logs_local {A} {K} {N} r s t k (l ∷ ls) h a le = at (nat_eq k a) refl (λ le. logs_local r s t (suc k) ls h.1 a le)
  where
    none : (k j a : ℕ) (ls : List (List (Event N))) → LogsLead r s j ls t → k < j → a ≡ k → own_events a (joined ls) ≡ []
    none k j a [] h lt e = refl
    none k j a (l ∷ ls) h lt e =
        let ne : nat_eq j a ≡ false = grind (arith, nat_tests) in
        let one : own_events a l ≡ [] = own_events_of_log r j a (s j) l (t j) h.0 ∙ ap (λ (w : Bool). cond w l []) ne in
        own_events_append a l (joined ls) ∙ ap₂ (λ (x y : List (Event N)). x ++ y) one (none k (suc j) a ls h.1 (omega arith) e)

    at : (w : Bool) → nat_eq k a ≡ w → (suc k ≤ a → Local r a (s a) (own_events a (joined ls)) (t a)) → Local r a (s a) (own_events a (l ++ joined ls)) (t a)
    at true is next =
        let same : k ≡ a = grind (arith, nat_tests) in
        let split : own_events a l ++ own_events a (joined ls) ≡ l ++ [] = ap₂ (λ (x y : List (Event N)). x ++ y) (own_events_of_log r k a (s k) l (t k) h.0 ∙ ap (λ (w : Bool). cond w l []) is) (none k (suc k) a ls h.1 (omega arith) (sym same)) in
        let all : l ≡ own_events a (l ++ joined ls) = sym (own_events_append a l (joined ls) ∙ (split ∙ append-nil l)) in
        subst (λ (zs : List (Event N)). Local r a (s a) zs (t a)) all (subst (λ (z : ℕ). Local r z (s z) l (t z)) same h.0)
    at false is next =
        let one : own_events a l ≡ [] = own_events_of_log r k a (s k) l (t k) h.0 ∙ ap (λ (w : Bool). cond w l []) is in
        let all : own_events a (joined ls) ≡ own_events a (l ++ joined ls) = sym (own_events_append a l (joined ls) ∙ ap (λ (x : List (Event N)). x ++ own_events a (joined ls)) one) in
        subst (λ (zs : List (Event N)). Local r a (s a) zs (t a)) all (next (let ne : k ≢ a = (λ e. absurd (grind (arith, nat_tests))) in omega arith))

logs_none : {A K N : Type 0} → (r : Rules A K N) (s t : Histories A K) (k : ℕ) (ls : List (List (Event N))) → LogsLead r s k ls t → (a : ℕ) → k + length ls ≤ a → own_events a (joined ls) ≡ []
logs_none r s t k [] h a le = refl
logs_none {A} {K} {N} r s t k (l ∷ ls) h a le =
    let ne : nat_eq k a ≡ false = grind (arith, nat_tests) in
    let one : own_events a l ≡ [] = own_events_of_log r k a (s k) l (t k) h.0 ∙ ap (λ (w : Bool). cond w l []) ne in
    own_events_append a l (joined ls) ∙ ap₂ (λ (x y : List (Event N)). x ++ y) one (logs_none r s t (suc k) ls h.1 a (omega arith))

-- the theorem: local and consistent logs, sorted, are a run of the machine, which ends as the logs say
pub sorted_logs : {A K N : Type 0} → (r : Rules A K N) (w : World A K) (s t : Histories A K) (ls : List (List (Event N))) (fs : List (Event N)) → Shows w s → IsSound s → length ls ≤ length w.seats →
    LogsLead r s 0 ls t → Consistent t → IsSorted (joined ls) fs → DataRun r w (choices fs) t fs
sorted_logs {A} {K} {N} r w s t ls fs sh sound size logs all sort =
    let l : (a : ℕ) → Local r a (s a) (own_events a (joined ls)) (t a) = λ a. logs_local r s t 0 ls logs a (omega arith) in
    let same : (a : ℕ) → own_events a fs ≡ own_events a (joined ls) = logs_stay same_stamp (λ x e. refl) (joined ls) fs (rising_ordered fs sort.ordered) (λ a. strictly_rises (s a).clock (own_events a (joined ls)) (log_rises r a (s a) (own_events a (joined ls)) (t a) (l a))) sort.stable in
    merged_data r w s t 0 fs sh sound (inside_from_own (length w.seats) fs (λ a le. same a ∙ logs_none r s t 0 ls logs a (omega arith))) (λ a. subst (λ (zs : List (Event N)). Local r a (s a) zs (t a)) (sym (same a)) (l a)) all (rising_ordered fs sort.ordered)

-- the same for the events of a run
pub sorted_run : {A K N : Type 0} → (r : Rules A K N) (cs : List Choice) (w u : World A K) (s : Histories A K) (es fs : List (Event N)) → Shows w s → IsSound s → WorldRun r w cs u es → IsSorted es fs →
    (v : World A K) × WorldRun r w (choices fs) v fs × (v.seats ≡ u.seats) × (v.flight ≡ u.flight)
sorted_run {A} {K} {N} r cs w u s es fs sh sound run sort =
    let x : ShownRun r w s cs u es = shown_run r cs w s u es sh sound run in
    let same : (a : ℕ) → own_events a fs ≡ own_events a es = logs_stay same_stamp (λ x e. refl) es fs (rising_ordered fs sort.ordered) (λ a. strictly_rises (s a).clock (own_events a es) (log_rises r a (s a) (own_events a es) (x.state a) (locals r cs s x.state es sound x.runs a))) sort.stable in
    resorted_data r cs w u s es fs 0 sh sound run same (rising_ordered fs sort.ordered)

-- one step more
pub world_more : {A K N : Type 0} → (r : Rules A K N) (cs : List Choice) (w u v : World A K) (es : List (Event N)) (c : Choice) (e : Event N) → WorldRun r w cs u es → world_step r u c ≡ Some (v, e) → WorldRun r w (cs ++ c ∷ []) v (es ++ e ∷ [])
world_more {A} {K} {N} r [] w u v es c e h is = (v, e, [], subst (λ (z : World A K). world_step r z c ≡ Some (v, e)) (sym h.0) is, ap (λ (zs : List (Event N)). zs ++ e ∷ []) h.1, (refl, refl))
world_more {A} {K} {N} r (d ∷ cs) w u v es c e h is = (h.0, h.1, h.2 ++ e ∷ [], h.3, ap (λ (zs : List (Event N)). zs ++ e ∷ []) h.4, world_more r cs h.0 u v h.2 c e h.5 is)

-- the parts of an optional pair
abbrev pair_first : {X Y : Type 0} → X → Option (X × Y) → X
pair_first x None = x
pair_first x (Some p) = p.0

abbrev pair_second : {X Y : Type 0} → Y → Option (X × Y) → Y
pair_second y None = y
pair_second y (Some p) = p.1

-- one step has one end and one event
pub one_outcome : {X Y : Type 0} → (o : Option (X × Y)) (u x : X) (d f : Y) → o ≡ Some (u, d) → o ≡ Some (x, f) → (u ≡ x) × (d ≡ f)
one_outcome {X} {Y} o u x d f is is' = (ap (λ (z : Option (X × Y)). pair_first u z) (sym is ∙ is'), ap (λ (z : Option (X × Y)). pair_second d z) (sym is ∙ is'))

abbrev is_there : {X : Type 0} → Option X → Bool
is_there None = false
is_there (Some x) = true

pub there_or_not : {X : Type 0} → (o : Option X) (x : X) → o ≡ Some x → o ≡ None → ⊥
there_or_not {X} o x is none = let e : true ≡ false = ap (λ (z : Option X). is_there z) (sym is ∙ none) in cc

-- the next step of a run that is known is this one
pub world_next : {A K N : Type 0} → (r : Rules A K N) (w v x : World A K) (e f : Event N) (es : List (Event N)) → WorldRun r w (choices (e ∷ es)) v (e ∷ es) → world_step r w e.choice ≡ Some (x, f) → (f ≡ e) × WorldRun r x (choices es) v es
world_next {A} {K} {N} r w v x e f es h is = go h.0 h.1 h.2 h.3 h.4 h.5
  where
    go : (u : World A K) (d : Event N) (ds : List (Event N)) → world_step r w e.choice ≡ Some (u, d) → e ∷ es ≡ d ∷ ds → WorldRun r u (choices es) v ds → (f ≡ e) × WorldRun r x (choices es) v es
    go u d ds step list run =
        let same : (u ≡ x) × (d ≡ f) = one_outcome (world_step r w e.choice) u x d f step is in
        let first : e ≡ d = cc in
        let tail : ds ≡ es = cc in
        (sym same.1 ∙ sym first, subst (λ (z : World A K). WorldRun r z (choices es) v es) same.0 (subst (λ (zs : List (Event N)). WorldRun r u (choices es) v zs) tail run))

-- and is present
pub world_enabled : {A K N : Type 0} → (r : Rules A K N) (w v : World A K) (e : Event N) (es : List (Event N)) → WorldRun r w (choices (e ∷ es)) v (e ∷ es) → world_step r w e.choice ≡ None → ⊥
world_enabled {A} {K} {N} r w v e es h is = there_or_not (world_step r w e.choice) (h.0, h.1) h.3 is

pub world_append : {A K N : Type 0} → (r : Rules A K N) (cs ds : List Choice) (w u v : World A K) (es fs : List (Event N)) → WorldRun r w cs u es → WorldRun r u ds v fs → WorldRun r w (cs ++ ds) v (es ++ fs)
world_append {A} {K} {N} r [] ds w u v es fs h k = subst (λ (zs : List (Event N)). WorldRun r w ds v (zs ++ fs)) (sym h.1) (subst (λ (z : World A K). WorldRun r z ds v fs) (sym h.0) k)
world_append {A} {K} {N} r (c ∷ cs) ds w u v es fs h k = (h.0, h.1, h.2 ++ fs, h.3, ap (λ (zs : List (Event N)). zs ++ fs) h.4, world_append r cs ds h.0 u v h.2 fs h.5 k)

-- the stamps of a run whose events stand in order rise strictly
pub run_strict : {A K N : Type 0} → (r : Rules A K N) (cs : List Choice) (w u : World A K) (s : Histories A K) (es : List (Event N)) → Shows w s → IsSound s → WorldRun r w cs u es → InOrder es → Strict es
run_strict {A} {K} {N} r cs w u s es sh sound run order =
    let x : ShownRun r w s cs u es = shown_run r cs w s u es sh sound run in
    strict_sorted es order (λ a. strictly_rises_on (s a).clock (own_events a es) (log_rises r a (s a) (own_events a es) (x.state a) (locals r cs s x.state es sound x.runs a)))
