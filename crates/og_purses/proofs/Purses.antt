-- No more messages are in flight than were paid for.
use Rattle.std.proofs.Common.{◌≡◌, ℕ, zero, suc, ◌+◌, ◌-◌, ◌*◌, ◌<◌, ◌≤◌, Bool, true, false, cond, nat_eq, nat_lt, arith, refl, sym, List, [], ◌∷◌, length, slice_get, slice_set, Option, None, Some, ap}
use Rattle.std.proofs.Math.Path.{◌∙◌}
use Rattle.std.proofs.lemmas.Bool.Decides.{nat_tests}
use Rattle.og_runs.specs.declared.MsgId.{MsgId}
use Rattle.og_runs.specs.declared.Choice.{Choice}
use Rattle.og_runs.specs.declared.Choice.TheVariants.{Act, Take}
use Rattle.og_runs.specs.declared.Msg.{Msg}
use Rattle.og_runs.specs.declared.Event.{Event}
use Rattle.og_runs.specs.declared.Seat.{Seat}
use Rattle.og_runs.specs.Runs.{same_id}
use Rattle.og_runs.specs.World.{World, WorldRun, world_step, world_take, world_move, world_move_with, find, without, precedes, placed}
use Rattle.og_fabric.specs.Scheme.{HasRoom, IsReady}
use Rattle.og_purses.specs.declared.Purse.{Purse}
use Rattle.og_purses.specs.Purses.{purse, rules, spends, takes, next_of}

abbrev weigh : List (Seat Purse) → ℕ
weigh [] = 0
weigh (x ∷ xs) = x.local.budget + weigh xs

weigh_set : (xs : List (Seat Purse)) (a : ℕ) (x y : Seat Purse) → slice_get xs a ≡ Some x → weigh (slice_set xs a y) + x.local.budget ≡ weigh xs + y.local.budget
weigh_set [] a x y e = absurd (cc)
weigh_set (z ∷ zs) zero x y e = let same : z ≡ x = cc in let b : z.local.budget ≡ x.local.budget = ap (λ (s : Seat Purse). s.local.budget) same in omega (arith, b)
weigh_set (z ∷ zs) (suc a) x y e = let k = weigh_set zs a x y e in omega (arith, k)

length_set : (xs : List (Seat Purse)) (a : ℕ) (y : Seat Purse) → length (slice_set xs a y) ≡ length xs
length_set [] a y = refl
length_set (z ∷ zs) zero y = refl
length_set (z ∷ zs) (suc a) y = ap (λ (n : ℕ). suc n) (length_set zs a y)

shorter : {K : Type 0} → (i : MsgId) (ms : List (Msg K)) → length (without i ms) ≤ length ms
shorter i [] = omega arith
shorter {K} i (y ∷ ys) = one (same_id i y.id) (shorter i ys)
  where
    one : (w : Bool) → length (without i ys) ≤ length ys → length (cond w (without i ys) (y ∷ without i ys)) ≤ suc (length ys)
    one true k = omega (arith, k)
    one false k = omega (arith, k)

length_placed : {K : Type 0} → (m : Msg K) (xs : List (Msg K)) → length (placed m xs) ≡ suc (length xs)
length_placed m [] = refl
length_placed {K} m (x ∷ xs) = one (precedes x m) (length_placed m xs)
  where
    one : (w : Bool) → length (placed m xs) ≡ suc (length xs) → length (cond w (x ∷ placed m xs) (m ∷ x ∷ xs)) ≡ suc (suc (length xs))
    one true k = ap (λ (n : ℕ). suc n) k
    one false k = refl

abbrev total : World Purse ℕ → ℕ
total w = weigh w.seats + length w.flight

abbrev first : {X Y : Type 0} → X → Option (X × Y) → X
first d None = d
first d (Some p) = p.0

acts : (n a : ℕ) (w u : World Purse ℕ) (e : Event ℕ) (x : Seat Purse) → slice_get w.seats a ≡ Some x → world_move_with w a x None (spends n a x.local) ≡ Some (u, e) → total u ≤ total w
acts n a w u e x at is = go (nat_lt 0 x.local.budget) refl is
  where
    go : (b : Bool) → nat_lt 0 x.local.budget ≡ b → world_move_with w a x None (cond b (Some (record { local = record { budget = x.local.budget - 1; owed = x.local.owed }; letters = record { to = next_of n a; kind = x.local.budget } ∷ []; note = None })) None) ≡ Some (u, e) → total u ≤ total w
    go false t is = absurd (cc)
    go true t is =
        let same : _ ≡ u = ap (λ (o : Option (World Purse ℕ × Event ℕ)). first u o) is in
        let lt : 0 < x.local.budget = grind (arith, nat_tests) in
        let s : weigh u.seats + x.local.budget ≡ weigh w.seats + (x.local.budget - 1) = ap (λ (v : World Purse ℕ). weigh v.seats + x.local.budget) (sym same) ∙ weigh_set w.seats a x _ at in
        let f : length u.flight ≡ length w.flight + 1 = ap (λ (v : World Purse ℕ). length v.flight) (sym same) ∙ (length_placed _ w.flight ∙ omega arith) in
        omega (arith, lt, s, f)

took : (a : ℕ) (w u : World Purse ℕ) (e : Event ℕ) (m : Msg ℕ) (x : Seat Purse) → slice_get w.seats a ≡ Some x → world_move_with w a x (Some m) (takes x.local m) ≡ Some (u, e) → total u ≤ total w
took a w u e m x at is =
    let same : _ ≡ u = ap (λ (o : Option (World Purse ℕ × Event ℕ)). first u o) is in
    let s : weigh u.seats + x.local.budget ≡ weigh w.seats + x.local.budget = ap (λ (v : World Purse ℕ). weigh v.seats + x.local.budget) (sym same) ∙ weigh_set w.seats a x _ at in
    let f : length u.flight ≡ length (without m.id w.flight) = ap (λ (v : World Purse ℕ). length v.flight) (sym same) in
    let k : length (without m.id w.flight) ≤ length w.flight = shorter m.id w.flight in
    omega (arith, s, f, k)

stepped : (n : ℕ) (w u : World Purse ℕ) (c : Choice) (e : Event ℕ) → world_step (rules n) w c ≡ Some (u, e) → total u ≤ total w
stepped n w u (Act a) e is = go (slice_get w.seats a) refl is
  where
    go : (o : Option (Seat Purse)) → slice_get w.seats a ≡ o → world_move (rules n) w a None o ≡ Some (u, e) → total u ≤ total w
    go None at is = absurd (cc)
    go (Some x) at is = acts n a w u e x at is
stepped n w u (Take a i) e is = go (find i w.flight) is
  where
    seat : (m : Msg ℕ) (o : Option (Seat Purse)) → slice_get w.seats a ≡ o → world_move (rules n) w a (Some m) o ≡ Some (u, e) → total u ≤ total w
    seat m None at is = absurd (cc)
    seat m (Some x) at is = took a w u e m x at is

    mine : (m : Msg ℕ) (b : Bool) → cond b (world_move (rules n) w a (Some m) (slice_get w.seats a)) None ≡ Some (u, e) → total u ≤ total w
    mine m true is = seat m (slice_get w.seats a) refl is
    mine m false is = absurd (cc)

    go : (o : Option (Msg ℕ)) → world_take (rules n) w a o ≡ Some (u, e) → total u ≤ total w
    go None is = absurd (cc)
    go (Some m) is = mine m (nat_eq m.to a) is

runs : (n : ℕ) (cs : List Choice) (w u : World Purse ℕ) (es : List (Event ℕ)) → WorldRun (rules n) w cs u es → total u ≤ total w
runs n [] w u es h = let e : total w ≡ total u = ap (λ (v : World Purse ℕ). total v) h.0 in omega (arith, e)
runs n (c ∷ cs) w u es h = let a : total h.0 ≤ total w = stepped n w h.0 c h.1 h.3 in let b : total u ≤ total h.0 = runs n cs h.0 u h.2 h.5 in omega (arith, a, b)

weigh_start : (b : ℕ) (xs : List (Seat Purse)) → ((a : ℕ) (x : Seat Purse) → slice_get xs a ≡ Some x → x ≡ record { local = purse b; clock = 0; next = 0 }) → weigh xs ≡ length xs * b
weigh_start b [] h = omega arith
weigh_start b (x ∷ xs) h =
    let k : weigh xs ≡ length xs * b = weigh_start b xs (λ a y e. h (suc a) y e) in
    let e : x.local.budget ≡ b = ap (λ (s : Seat Purse). s.local.budget) (h 0 x refl) in
    let d : suc (length xs) * b ≡ b + length xs * b = grind arith in
    omega (arith, k, e, d)

pub has_room : (n b most : ℕ) → HasRoom (rules n) (λ a. purse b) n most (n * b)
has_room n b most w cs u es h =
    let t : total u ≤ total w = runs n cs w u es h.run.run in
    let s : weigh w.seats ≡ length w.seats * b = weigh_start b w.seats h.run.start.seat in
    let f : length w.flight ≡ 0 = ap (λ (ms : List (Msg ℕ)). length ms) h.run.start.flight in
    let l : length w.seats * b ≡ n * b = ap (λ (k : ℕ). k * b) h.seats in
    omega (arith, t, s, f, l)

pub ready : (n b most : ℕ) → IsReady (rules n) (λ a. purse b) n most
ready n b most w cs u es h i m x e at = (record { local = record { budget = x.local.budget; owed = x.local.owed - 1 }; letters = []; note = Some m.kind }, refl)
