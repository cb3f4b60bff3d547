-- From seats to a run.
use Rattle.std.proofs.Common.{◌≡◌, ◌≢◌, ℕ, zero, suc, ◌+◌, ◌*◌, ◌≤◌, Bool, true, false, ◌&&◌, cond, nat_eq, Some, inl, inr, slice_get, arith, refl, sym, subst, List, [], ◌∷◌, ◌++◌, length, take, drop, mul-le-mul_right, ap}
use Rattle.std.proofs.Math.Path.{◌∙◌}
use Rattle.std.specs.Prelude.{All, map}
use Rattle.std.specs.List.{list_all}
use Rattle.std.proofs.lemmas.Bool.Decides.{nat_tests}
use Rattle.std.proofs.lemmas.List.Sums.{sum_by-cons}
use Rattle.atomic_table.specs.Seated.{TableId}
use Rattle.og_runs.specs.declared.MsgId.{MsgId}
use Rattle.og_runs.specs.declared.Choice.{Choice}
use Rattle.og_runs.specs.declared.Msg.{Msg}
use Rattle.og_runs.specs.declared.Event.{Event}
use Rattle.og_runs.specs.declared.Log.{Log}
use Rattle.og_runs.specs.declared.Seat.{Seat}
use Rattle.og_runs.specs.Runs.{Rules, History, choices, joined, IsSorted}
use Rattle.og_runs.specs.World.{World, WorldRun, find, seat_of, events_of}
use Rattle.og_runs.specs.Laws.{IsStart, EndsAsLogs}
use Rattle.og_runs.specs.Views.{View, LocalViews, ConsistentViews, logs_of}
use Rattle.og_runs.proofs.StatedLogs.{logs_run}
use Rattle.og_runs.proofs.Shown.{DataRun}
use Rattle.og_runs.proofs.Views.{ends, sorted_views}
use Rattle.og_runs.proofs.Stated.{start_shows}
use Rattle.og_fabric.specs.Gathered.{Closed, views_of, AreLeft}
use Rattle.og_actors.specs.declared.rounds.Rounds.{Rounds}
use Rattle.og_actors.specs.declared.rounds.Rounds.TheVariants.{Stopped, Spent, Memory}
use Rattle.og_actors.specs.Actors.{Playing, closed_of}
use Rattle.og_actors.specs.Rounds.{AreSeated, AreInTurn, AfterRounds, IsReached, Counted, LeadAll, AreLogs, AsEnded, IsWholeRun, all_whole, all_stopped, made_by, idle_by}
use Rattle.og_actors.proofs.Counting.{EachKeeps, go_keep, round_keeps, sums}

pub seated_tables : {A K N : Type 0} → (t : TableId) (f : ℕ → A) (k : ℕ) (ps : List (Playing A K N)) → AreSeated t f k ps → All (λ p. p.table ≡ t) ps
seated_tables t f k [] h i d lt = absurd (omega (arith, lt))
seated_tables {A} {K} {N} t f k (p ∷ ps) h zero d lt = ap (λ (q : Playing A K N). q.table) h.0
seated_tables t f k (p ∷ ps) h (suc i) d lt = seated_tables t f (suc k) ps h.1 i d (omega (arith, lt))

pub seated_turns : {A K N : Type 0} → (n most : ℕ) (t : TableId) (f : ℕ → A) (k : ℕ) (ps : List (Playing A K N)) → n ≤ most → AreSeated t f k ps → All (λ p. p.made + p.idle + n ≤ most) ps
seated_turns n most t f k [] le h i d lt = absurd (omega (arith, lt))
seated_turns {A} {K} {N} n most t f k (p ∷ ps) le h zero d lt = let e : p.made ≡ 0 = ap (λ (q : Playing A K N). q.made) h.0 in let e' : p.idle ≡ 0 = ap (λ (q : Playing A K N). q.idle) h.0 in omega (arith, e, e', le)
seated_turns n most t f k (p ∷ ps) le h (suc i) d lt = seated_turns n most t f (suc k) ps le h.1 i d (omega (arith, lt))

seated_sums : {A K N : Type 0} → (t : TableId) (f : ℕ → A) (k : ℕ) (ps : List (Playing A K N)) → AreSeated t f k ps → (made_by ps ≡ 0) × (idle_by ps ≡ 0)
seated_sums t f k [] h = (refl, refl)
seated_sums {A} {K} {N} t f k (p ∷ ps) h =
    let r = seated_sums t f (suc k) ps h.1 in
    let a = r.0 in
    let b = r.1 in
    let e : p.made ≡ 0 = ap (λ (q : Playing A K N). q.made) h.0 in
    let e' : p.idle ≡ 0 = ap (λ (q : Playing A K N). q.idle) h.0 in
    let m : made_by (p ∷ ps) ≡ p.made + made_by ps = sum_by-cons (λ (z : Playing A K N). z.made) p ps in
    let i : idle_by (p ∷ ps) ≡ p.idle + idle_by ps = sum_by-cons (λ (z : Playing A K N). z.idle) p ps in
    (omega (arith, a, e, m), omega (arith, b, e', i))

-- the rounds leave each actor at its place
pub still_in_turn : {A K N : Type 0} → (n : ℕ) (t : TableId) (f : ℕ → A) (k : ℕ) (os ps : List (Playing A K N)) → AreSeated t f k os → EachKeeps n os ps → AreInTurn t k ps
still_in_turn n t f k [] [] h e = tt
still_in_turn n t f k [] (p ∷ ps) h e = absurd (let l = e.0 in omega (arith, l))
still_in_turn n t f k (o ∷ os) [] h e = absurd (let l = e.0 in omega (arith, l))
still_in_turn {A} {K} {N} n t f k (o ∷ os) (p ∷ ps) h e =
    let g = e.1 0 o (omega arith) in (
      (g.table ∙ ap (λ (q : Playing A K N). q.table) h.0, g.actor ∙ ap (λ (q : Playing A K N). q.actor) h.0),
      still_in_turn n t f (suc k) os ps h.1 ((let l = e.0 in omega (arith, l)), λ i d lt. e.1 (suc i) d (omega (arith, lt))),
    )

-- a vector whose slice was changed
pub vec_back : {X : Type 0} → (n : ℕ) (new items : List X) → length new ≡ length items → n ≡ length items → take n (new ++ drop (length new) items) ≡ new
vec_back {X} n new items len e = ap (λ (m : ℕ). take m (new ++ drop (length new) items)) (e ∙ sym len) ∙ go new (drop (length new) items)
  where
    go : (xs ys : List X) → take (length xs) (xs ++ ys) ≡ xs
    go [] ys = refl
    go (x ∷ xs) ys = ap (λ (l : List X). x ∷ l) (go xs ys)

-- what rounds kept, however they ended
pub record Kept {A K N : Type 0} (most : ℕ) (ps qs : List (Playing A K N)) : Type 0 where
  pub turns : ℕ
  pub within : turns ≤ most
  pub each : EachKeeps turns ps qs

keeps_none : {A K N : Type 0} → (ps : List (Playing A K N)) → EachKeeps 0 ps ps
keeps_none ps = (refl, λ i d lt. record { table = refl; actor = refl; count = omega arith; made = omega arith; idle = omega arith })

reached : {A K N : Type 0} → (r : Rules A K N) (stopped : A → Bool) (turns rounds : ℕ) (ps qs : List (Playing A K N)) → IsReached r stopped turns rounds ps qs → Kept (rounds * turns) ps qs
reached {A} {K} {N} r stopped turns rounds ps qs (inl h) = subst (λ (z : List (Playing A K N)). Kept (rounds * turns) ps z) h.1 (record { turns = 0; within = omega arith; each = keeps_none ps })
reached {A} {K} {N} r stopped turns rounds ps qs (inr (n, us, lt, go, round)) =
    let a = go_keep r stopped turns n ps us go in
    let b = round_keeps r turns us qs round in
    let m : suc n * turns ≤ rounds * turns = mul-le-mul_right turns lt in
    let e : suc n * turns ≡ n * turns + turns = grind arith in
    record {
      turns = n * turns + turns;
      within = omega (arith, m, e);
      each = (
        b.0 ∙ a.0,
        λ i d l.
            let x = a.1 i d l in
            let y = b.1 i d (let len = a.0 in omega (arith, l, len)) in
            record {
              table = y.table ∙ x.table;
              actor = y.actor ∙ x.actor;
              count = (let u = x.count in let v = y.count in omega (arith, u, v));
              made = (let u = x.made in let v = y.made in omega (arith, u, v));
              idle = (let u = x.idle in let v = y.idle in omega (arith, u, v));
            },
      );
    }

pub kept : {A K N : Type 0} → (r : Rules A K N) (stopped : A → Bool) (turns rounds : ℕ) (end : Rounds) (ps qs : List (Playing A K N)) → AfterRounds r stopped turns rounds end ps qs → Kept (rounds * turns) ps qs
kept r stopped turns rounds Stopped ps qs h = reached r stopped turns rounds ps qs h.0
kept r stopped turns rounds (Spent events idle) ps qs h = record { turns = rounds * turns; within = omega arith; each = go_keep r stopped turns rounds ps qs h.all_rounds }
kept r stopped turns rounds Memory ps qs h = reached r stopped turns rounds ps qs h.0

pub is_whole : {A K N : Type 0} → (r : Rules A K N) (stopped : A → Bool) (turns rounds : ℕ) (end : Rounds) (ps qs : List (Playing A K N)) → end ≢ Memory → AfterRounds r stopped turns rounds end ps qs → all_whole qs ≡ true
is_whole r stopped turns rounds Stopped ps qs ne h = h.1
is_whole r stopped turns rounds (Spent events idle) ps qs ne h = h.logs
is_whole r stopped turns rounds Memory ps qs ne h = absurd (ne refl)

-- what the rounds leave in the vector of actors
pub record AreBack {A K N : Type 0} (t : TableId) (actors : ℕ) (qs zs : List (Playing A K N)) : Type 0 where
  pub same : zs ≡ qs
  pub turn : AreInTurn t 0 zs
  pub size : length zs ≡ actors

-- the events that were made are those that were counted
pub counted : {A K N : Type 0} → (r : Rules A K N) (stopped : A → Bool) (turns rounds actors total : ℕ) (t : TableId) (f : ℕ → A) (end : Rounds) (os items qs zs : List (Playing A K N)) → os ≡ items → AreSeated t f 0 items → length items ≡ actors → end ≢ Memory → AfterRounds r stopped turns rounds end os qs → zs ≡ qs → total ≡ made_by zs → Counted (rounds * turns * actors) end total
counted {A} {K} {N} r stopped turns rounds actors total t f Stopped os items qs zs same h size ne after back is =
    let k : Kept (rounds * turns) items qs = subst (λ (l : List (Playing A K N)). Kept (rounds * turns) l qs) same (kept r stopped turns rounds Stopped os qs after) in
    let s = sums k.turns items qs k.each in
    let z = seated_sums t f 0 items h in
    let a = s.both in
    let m = z.0 in
    let i = z.1 in
    let n : total ≡ made_by qs = is ∙ ap (λ (l : List (Playing A K N)). made_by l) back in
    let le : k.turns * length items ≤ rounds * turns * length items = mul-le-mul_right (length items) k.within in
    let e : rounds * turns * length items ≡ rounds * turns * actors = ap (λ (c : ℕ). rounds * turns * c) size in
    omega (arith, a, m, i, n, le, e)
counted {A} {K} {N} r stopped turns rounds actors total t f (Spent events idle) os items qs zs same h size ne after back is =
    let z = seated_sums t f 0 items h in
    let m = z.0 in
    let x : made_by os ≡ made_by items = ap (λ (l : List (Playing A K N)). made_by l) same in
    let n : total ≡ made_by qs = is ∙ ap (λ (l : List (Playing A K N)). made_by l) back in
    let y = after.made in
    (omega (arith, m, n, x, y), after.sum ∙ ap (λ (c : ℕ). rounds * turns * c) (ap (λ (l : List (Playing A K N)). length l) same ∙ size))
counted r stopped turns rounds actors total t f Memory os items qs zs same h size ne after back is = absurd (ne refl)

views_length : {K N : Type 0} → (xs : List (Closed K N)) → length (views_of xs) ≡ length xs
views_length [] = refl
views_length (x ∷ xs) = ap (λ (n : ℕ). suc n) (views_length xs)

pub are_logs : {A K N : Type 0} → (r : Rules A K N) (f : ℕ → A) (actors : ℕ) (xs : List (Closed K N)) (ls : List (Log N)) (left : List (Msg K)) → LocalViews r f 0 (views_of xs) → ConsistentViews (views_of xs) → AreLeft (views_of xs) left → length xs ≡ actors → events_of ls ≡ logs_of (views_of xs) → AreLogs r f actors ls left
are_logs r f actors xs ls left local consistent flies size same = (views_of xs, views_length xs ∙ size, same, local, consistent, flies)

pub length_closed : {A K N : Type 0} → (ps : List (Playing A K N)) → length (map (λ p. closed_of p) ps) ≡ length ps
length_closed [] = refl
length_closed (p ∷ ps) = ap (λ (n : ℕ). suc n) (length_closed ps)

-- ------------------------------------------------------------------------------ the run of all logs

-- the views of actors that were led to where they are
abbrev pub leads_local : {A K N : Type 0} → (r : Rules A K N) (f : ℕ → A) (k : ℕ) (ps : List (Playing A K N)) → LeadAll r f k ps → LocalViews r f k (views_of (map (λ p. closed_of p) ps))
leads_local r f k [] h = tt
leads_local r f k (p ∷ ps) h = ((p.past, h.0, refl, refl), leads_local r f (suc k) ps h.1)

logs_length : {A K N : Type 0} → (ps : List (Playing A K N)) → length (logs_of (views_of (map (λ p. closed_of p) ps))) ≡ length ps
logs_length [] = refl
logs_length (p ∷ ps) = ap (λ (n : ℕ). suc n) (logs_length ps)

-- a run's choices lead to one world
one_end : {A K N : Type 0} → (r : Rules A K N) (cs : List Choice) (w u v : World A K) (es fs : List (Event N)) → WorldRun r w cs u es → WorldRun r w cs v fs → u ≡ v
one_end r [] w u v es fs a b = sym a.0 ∙ b.0
one_end {A} {K} {N} r (c ∷ cs) w u v es fs (x, e, es', here, all, more) (y, f, fs', there, all', more') =
    let pair : (x, e) ≡ (y, f) = cc in
    let same : x ≡ y = ap (λ (p : World A K × Event N). p.0) pair in
    one_end r cs y u v es' fs' (subst (λ (z : World A K). WorldRun r z cs u es') same more) more'

-- each actor's history, where the logs end, is its own
past_at : {A K N : Type 0} → (r : Rules A K N) (f : ℕ → A) (k : ℕ) (ps : List (Playing A K N)) (h : LeadAll r f k ps) (j a : ℕ) (p : Playing A K N) → a ≡ k + j → slice_get ps j ≡ Some p →
    ends r f k (views_of (map (λ p. closed_of p) ps)) (leads_local r f k ps h) a ≡ p.past
past_at r f k [] h j a p e is = absurd (cc)
past_at {A} {K} {N} r f k (q ∷ ps) h zero a p e is =
    let test : nat_eq k a ≡ true = grind (arith, nat_tests) in
    let first : q ≡ p = cc in
    ap (λ (w : Bool). cond w q.past (ends r f (suc k) (views_of (map (λ p. closed_of p) ps)) (leads_local r f (suc k) ps h.1) a)) test ∙ ap (λ (x : Playing A K N). x.past) first
past_at {A} {K} {N} r f k (q ∷ ps) h (suc j) a p e is =
    let test : nat_eq k a ≡ false = grind (arith, nat_tests) in
    ap (λ (w : Bool). cond w q.past (ends r f (suc k) (views_of (map (λ p. closed_of p) ps)) (leads_local r f (suc k) ps h.1) a)) test ∙ past_at r f (suc k) ps h.1 j a p (omega (arith, e)) is

-- seats of the actors' states are stopped just where the actors are
stopped_alike : {A K N : Type 0} → (stopped : A → Bool) (ps : List (Playing A K N)) (xs : List (Seat A)) → length xs ≡ length ps →
    ((j : ℕ) (p : Playing A K N) (x : Seat A) → slice_get ps j ≡ Some p → slice_get xs j ≡ Some x → x.local ≡ p.past.local) → list_all (λ x. stopped x.local) xs ≡ all_stopped stopped ps
stopped_alike stopped [] [] e h = refl
stopped_alike stopped [] (x ∷ xs) e h = absurd (omega (arith, e))
stopped_alike stopped (p ∷ ps) [] e h = absurd (omega (arith, e))
stopped_alike {A} {K} {N} stopped (p ∷ ps) (x ∷ xs) e h =
    ap (λ (y : A). stopped y && list_all (λ (z : Seat A). stopped z.local) xs) (h 0 p x refl refl)
    ∙ ap (λ (b : Bool). stopped p.past.local && b) (stopped_alike stopped ps xs (omega (arith, e)) (λ j q y a b. h (suc j) q y a b))

-- how the rounds ended says which actors are stopped
as_ended : {A K N : Type 0} → (r : Rules A K N) (stopped : A → Bool) (turns rounds : ℕ) (end : Rounds) (os qs : List (Playing A K N)) (xs : List (Seat A)) → end ≢ Memory → AfterRounds r stopped turns rounds end os qs →
    list_all (λ x. stopped x.local) xs ≡ all_stopped stopped qs → AsEnded stopped end xs
as_ended r stopped turns rounds Stopped os qs xs ne h e = e ∙ h.2
as_ended r stopped turns rounds (Spent events idle) os qs xs ne h e = e ∙ h.going
as_ended r stopped turns rounds Memory os qs xs ne h e = absurd (ne refl)

-- the logs of actors that are where their logs lead make a run, at whose end the seats are the actors'
pub record Merges {A K N : Type 0} (r : Rules A K N) (w : World A K) (stopped : A → Bool) (ps : List (Playing A K N)) (es : List (Event N)) (left : List (Msg K)) : Type 0 where
  pub world : World A K
  pub runs : WorldRun r w (choices es) world es
  pub flight : (i : MsgId) → find i world.flight ≡ find i left
  pub done : list_all (λ x. stopped x.local) world.seats ≡ all_stopped stopped ps

pub merges : {A K N : Type 0} → (r : Rules A K N) (f : ℕ → A) (stopped : A → Bool) (ps : List (Playing A K N)) (es : List (Event N)) (left : List (Msg K)) (w : World A K) → IsStart f w → length w.seats ≡ length ps → LeadAll r f 0 ps →
    ConsistentViews (views_of (map (λ p. closed_of p) ps)) → AreLeft (views_of (map (λ p. closed_of p) ps)) left → IsSorted (joined (logs_of (views_of (map (λ p. closed_of p) ps)))) es → Merges r w stopped ps es left
merges {A} {K} {N} r f stopped ps es left w begin size h consistent flies sorted =
    record { world = run.0; runs = run.1; flight = λ i. run.2.flight i ∙ sym (flies.0 i); done = ap (λ (z : World A K). list_all (λ x. stopped x.local) z.seats) same ∙ done }
  where
    vs : List (View K N)
    vs = views_of (map (λ p. closed_of p) ps)

    local : LocalViews r f 0 vs
    local = leads_local r f 0 ps h

    many : length vs ≡ length ps
    many = views_length (map (λ p. closed_of p) ps) ∙ length_closed ps

    run : (u : World A K) × WorldRun r w (choices es) u es × EndsAsLogs r f w vs u
    run = logs_run r f w vs es begin (let m = many in omega (arith, m, size)) local consistent sorted

    d : DataRun r w (choices es) (ends r f 0 vs local) es
    d = sorted_views r f w vs es (start_shows f w begin) (let m = logs_length ps in omega (arith, m, size)) local consistent sorted

    same : run.0 ≡ d.world
    same = one_end r (choices es) w run.0 d.world es es run.1 d.runs

    alike : (j : ℕ) (p : Playing A K N) (x : Seat A) → slice_get ps j ≡ Some p → slice_get d.world.seats j ≡ Some x → x.local ≡ p.past.local
    alike j p x is at =
        let a : seat_of (ends r f 0 vs local j) ≡ x = d.shows.seat j x at in
        let b : ends r f 0 vs local j ≡ p.past = past_at r f 0 ps h j j p (omega arith) is in
        sym (ap (λ (z : Seat A). z.local) a) ∙ ap (λ (q : History A K). q.local) b

    done : list_all (λ x. stopped x.local) d.world.seats ≡ all_stopped stopped ps
    done = stopped_alike stopped ps d.world.seats (d.size ∙ size) alike

pub whole_run : {A K N : Type 0} → (r : Rules A K N) (f : ℕ → A) (stopped : A → Bool) (turns rounds actors : ℕ) (end : Rounds) (os qs zs : List (Playing A K N)) (xs : List (Closed K N)) (ls : List (Log N)) (es : List (Event N)) (left : List (Msg K)) →
    LeadAll r f 0 zs → xs ≡ map (λ p. closed_of p) zs → zs ≡ qs → length zs ≡ actors → end ≢ Memory → AfterRounds r stopped turns rounds end os qs →
    ConsistentViews (views_of xs) → AreLeft (views_of xs) left → events_of ls ≡ logs_of (views_of xs) → IsSorted (joined (events_of ls)) es → IsWholeRun r f stopped actors end es left
whole_run {A} {K} {N} r f stopped turns rounds actors end os qs zs xs ls es left h same back size ne after consistent flies logs sorted w begin seats =
    let order : IsSorted (joined (logs_of (views_of xs))) es = subst (λ (l : List (List (Event N))). IsSorted (joined l) es) logs sorted in
    let m : Merges r w stopped zs es left = merges r f stopped zs es left w begin (omega (arith, size, seats)) h
    (subst (λ (l : List (Closed K N)). ConsistentViews (views_of l)) same consistent)
    (subst (λ (l : List (Closed K N)). AreLeft (views_of l) left) same flies)
    (subst (λ (l : List (Closed K N)). IsSorted (joined (logs_of (views_of l))) es) same order) in
    (m.world, m.runs, m.flight, as_ended r stopped turns rounds end os qs m.world.seats ne after (m.done ∙ ap (λ (l : List (Playing A K N)). all_stopped stopped l) back))
