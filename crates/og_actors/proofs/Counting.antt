-- Round after round.
use Rattle.std.proofs.Common.{◌≡◌, ℕ, zero, suc, ◌+◌, ◌*◌, ◌<◌, ◌≤◌, Bool, true, false, ◌^◌, inr, arith, refl, subst, List, [], ◌∷◌, length, slice_index_or, Option, None, Some, mul-le-mul_right}
use Rattle.std.proofs.Math.Path.{◌∙◌}
use Rattle.std.specs.Prelude.{All}
use Rattle.std.proofs.lemmas.List.Sums.{sum_by-cons, sum_by-le}
use Rattle.atomic_table.specs.Seated.{TableId}
use Rattle.og_runs.specs.Runs.{Rules}
use Rattle.og_actors.specs.Actors.{Playing}
use Rattle.og_actors.specs.declared.rounds.Rounds.{Rounds}
use Rattle.og_actors.specs.declared.rounds.Rounds.TheVariants.{Stopped, Spent, Memory}
use Rattle.og_actors.specs.Rounds.{IsRound, GoOn, IsSpent, AfterRounds, Standing, all_whole, all_stopped, made_by, idle_by}
use Rattle.og_actors.proofs.Turns.{Keeps, turns_keep}

-- each actor of a list keeps what turns keep
abbrev pub EachKeeps : {A K N : Type 0} → ℕ → List (Playing A K N) → List (Playing A K N) → Type 0
EachKeeps {A} {K} {N} n ps qs = (length qs ≡ length ps) × ((i : ℕ) (d : Playing A K N) → i < length ps → Keeps n (slice_index_or ps i d) (slice_index_or qs i d))

pub round_keeps : {A K N : Type 0} → (r : Rules A K N) (n : ℕ) (ps qs : List (Playing A K N)) → IsRound r n ps qs → EachKeeps n ps qs
round_keeps r n ps qs h = (h.0, λ i d lt. turns_keep r n _ _ (h.1 i d lt))

keeps_none : {A K N : Type 0} → (p : Playing A K N) → Keeps 0 p p
keeps_none p = record { table = refl; actor = refl; count = omega arith; made = omega arith; idle = omega arith }

pub go_keep : {A K N : Type 0} → (r : Rules A K N) (stopped : A → Bool) (turns n : ℕ) (ps qs : List (Playing A K N)) → GoOn r stopped turns n ps qs → EachKeeps (n * turns) ps qs
go_keep {A} {K} {N} r stopped turns zero ps qs h = subst (λ (z : List (Playing A K N)). EachKeeps (0 * turns) ps z) h (refl, λ i d lt. let e : 0 ≡ 0 * turns = grind arith in subst (λ (k : ℕ). Keeps k (slice_index_or ps i d) (slice_index_or ps i d)) e (keeps_none (slice_index_or ps i d)))
go_keep r stopped turns (suc n) ps qs (us, h, round, whole, going) = both_keep turns n ps us qs (go_keep r stopped turns n ps us h) (round_keeps r turns us qs round)
  where
    both_keep : {A K N : Type 0} → (turns n : ℕ) (ps us qs : List (Playing A K N)) → EachKeeps (n * turns) ps us → EachKeeps turns us qs → EachKeeps (suc n * turns) ps qs
    both_keep turns n ps us qs h k = (
      k.0 ∙ h.0,
      λ i d lt.
          let a = h.1 i d lt in
          let b = k.1 i d (let l = h.0 in omega (arith, lt, l)) in
          let m : suc n * turns ≡ n * turns + turns = grind arith in
          record {
            table = b.table ∙ a.table;
            actor = b.actor ∙ a.actor;
            count = (let x = a.count in let y = b.count in omega (arith, x, y, m));
            made = (let x = a.made in let y = b.made in omega (arith, x, y));
            idle = (let x = a.idle in let y = b.idle in omega (arith, x, y));
          },
    )

pub all_tables : {A K N : Type 0} → (n : ℕ) (t : TableId) (ps qs : List (Playing A K N)) → EachKeeps n ps qs → All (λ p. p.table ≡ t) ps → All (λ p. p.table ≡ t) qs
all_tables n t ps qs h k i d lt = let lt' : i < length ps = (let l = h.0 in omega (arith, lt, l)) in (h.1 i d lt').table ∙ k i d lt'

-- before each round there are turns for it
pub all_turns : {A K N : Type 0} → (n rounds turns most : ℕ) (ps qs : List (Playing A K N)) → EachKeeps (n * turns) ps qs → n < rounds → All (λ p. p.made + p.idle + rounds * turns ≤ most) ps → All (λ p. p.made + p.idle + turns ≤ most) qs
all_turns n rounds turns most ps qs h less k i d lt =
    let lt' : i < length ps = (let l = h.0 in omega (arith, lt, l)) in
    let a = (h.1 i d lt').count in
    let b = k i d lt' in
    let m : suc n * turns ≤ rounds * turns = mul-le-mul_right turns less in
    let e : suc n * turns ≡ n * turns + turns = grind arith in
    omega (arith, a, b, m, e)

-- and at the end no actor has made more than it may
pub all_within : {A K N : Type 0} → (rounds turns most : ℕ) (ps qs : List (Playing A K N)) → EachKeeps (rounds * turns) ps qs → All (λ p. p.made + p.idle + rounds * turns ≤ most) ps → All (λ p. p.made + p.idle ≤ most) qs
all_within rounds turns most ps qs h k i d lt =
    let lt' : i < length ps = (let l = h.0 in omega (arith, lt, l)) in
    let a = (h.1 i d lt').count in
    let b = k i d lt' in
    omega (arith, a, b)

pub all_begin : {A K N : Type 0} → (more most : ℕ) (ps : List (Playing A K N)) → All (λ p. p.made + p.idle + more ≤ most) ps → All (λ p. p.made + p.idle ≤ most) ps
all_begin more most ps k i d lt = let b = k i d lt in omega (arith, b)

-- what all made together fits
pub sums_fit : {A K N : Type 0} → (most actors : ℕ) (ps : List (Playing A K N)) → All (λ p. p.made + p.idle ≤ most) ps → length ps ≤ actors → actors * most < 2 ^ 60 → (made_by ps < 2 ^ 64) × (idle_by ps < 2 ^ 64)
sums_fit most actors ps h len small =
    let a : made_by ps ≤ length ps * most = sum_by-le (λ p. p.made) most ps (λ i d lt. let x = h i d lt in omega (arith, x)) in
    let b : idle_by ps ≤ length ps * most = sum_by-le (λ p. p.idle) most ps (λ i d lt. let x = h i d lt in omega (arith, x)) in
    let m : length ps * most ≤ actors * most = mul-le-mul_right most len in
    (omega (arith, a, m, small), omega (arith, b, m, small))

-- how the sums grow
pub record Sums {A K N : Type 0} (n : ℕ) (ps qs : List (Playing A K N)) : Type 0 where
  pub both : made_by qs + idle_by qs ≡ made_by ps + idle_by ps + n * length ps
  pub made : made_by ps ≤ made_by qs
  pub idle : idle_by ps ≤ idle_by qs

pub sums : {A K N : Type 0} → (n : ℕ) (ps qs : List (Playing A K N)) → EachKeeps n ps qs → Sums n ps qs
sums n [] [] h = record { both = (let e : n * 0 ≡ 0 = grind arith in omega (arith, e)); made = omega arith; idle = omega arith }
sums n [] (q ∷ qs) h = absurd (let l = h.0 in omega (arith, l))
sums n (p ∷ ps) [] h = absurd (let l = h.0 in omega (arith, l))
sums {A} {K} {N} n (p ∷ ps) (q ∷ qs) h =
    let one = h.1 0 p (omega arith) in
    let rest = sums n ps qs ((let l = h.0 in omega (arith, l)), λ i d lt. h.1 (suc i) d (omega (arith, lt))) in
    let mp : made_by (p ∷ ps) ≡ p.made + made_by ps = sum_by-cons (λ (z : Playing A K N). z.made) p ps in
    let mq : made_by (q ∷ qs) ≡ q.made + made_by qs = sum_by-cons (λ (z : Playing A K N). z.made) q qs in
    let ip : idle_by (p ∷ ps) ≡ p.idle + idle_by ps = sum_by-cons (λ (z : Playing A K N). z.idle) p ps in
    let iq : idle_by (q ∷ qs) ≡ q.idle + idle_by qs = sum_by-cons (λ (z : Playing A K N). z.idle) q qs in
    let e : n * suc (length ps) ≡ n + n * length ps = grind arith in
    record {
      both = (let a = one.count in let b = rest.both in omega (arith, mp, mq, ip, iq, a, b, e));
      made = (let a = one.made in let b = rest.made in omega (arith, mp, mq, a, b));
      idle = (let a = one.idle in let b = rest.idle in omega (arith, ip, iq, a, b));
    }

-- after some rounds that go on, all logs are whole and an actor isn't stopped
going_on : {A K N : Type 0} → (r : Rules A K N) (stopped : A → Bool) (turns n : ℕ) (ps qs : List (Playing A K N)) → 0 < n → GoOn r stopped turns n ps qs → (all_whole qs ≡ true) × (all_stopped stopped qs ≡ false)
going_on r stopped turns zero ps qs some h = absurd (omega (arith, some))
going_on r stopped turns (suc n) ps qs some (us, h, round, whole, going) = (whole, going)

-- what was spent: the sums of now less those of before
pub spent : {A K N : Type 0} → (r : Rules A K N) (stopped : A → Bool) (turns rounds n events idle m0 i0 m1 i1 : ℕ) (ps qs : List (Playing A K N)) → GoOn r stopped turns n ps qs → n ≡ rounds → 0 < rounds →
    m0 ≡ made_by ps → i0 ≡ idle_by ps → m1 ≡ made_by qs → i1 ≡ idle_by qs → m1 ≡ m0 + events → i1 ≡ i0 + idle → IsSpent r stopped turns rounds events idle ps qs
spent {A} {K} {N} r stopped turns rounds n events idle m0 i0 m1 i1 ps qs go same some a b c d x y =
    let all : GoOn r stopped turns rounds ps qs = subst (λ (m : ℕ). GoOn r stopped turns m ps qs) same go in
    let s = sums (rounds * turns) ps qs (go_keep r stopped turns rounds ps qs all) in
    let z = s.both in
    let e = going_on r stopped turns rounds ps qs some all in
    record {
      all_rounds = all;
      logs = e.0;
      going = e.1;
      made = omega (arith, a, c, x);
      spared = omega (arith, b, d, y);
      sum = omega (arith, a, b, c, d, x, y, z);
    }

-- so many rounds, then one more
pub go_more : {A K N : Type 0} → (r : Rules A K N) (stopped : A → Bool) (turns n : ℕ) (ps us qs : List (Playing A K N)) → GoOn r stopped turns n ps us → IsRound r turns us qs → all_whole qs ≡ true → all_stopped stopped qs ≡ false → GoOn r stopped turns (n + 1) ps qs
go_more {A} {K} {N} r stopped turns n ps us qs h round whole going = let e : suc n ≡ n + 1 = omega arith in subst (λ (m : ℕ). GoOn r stopped turns m ps qs) e (us, h, round, whole, going)

-- the rounds end after this one
pub ended : {A K N : Type 0} → (r : Rules A K N) (stopped : A → Bool) (turns rounds n : ℕ) (ps us qs : List (Playing A K N)) (end : Rounds) → GoOn r stopped turns n ps us → n < rounds → IsRound r turns us qs → Standing (all_whole qs) (all_stopped stopped qs) (Some end) → AfterRounds r stopped turns rounds end ps qs
ended r stopped turns rounds n ps us qs Stopped go lt round s = (inr (n, us, lt, go, round), s.0, s.1)
ended r stopped turns rounds n ps us qs (Spent events idle) go lt round s = absurd (cc)
ended r stopped turns rounds n ps us qs Memory go lt round s = (inr (n, us, lt, go, round), s)

-- or another is made
pub stands : (whole stopped : Bool) (o : Option Rounds) → Standing whole stopped o → o ≡ None → (whole ≡ true) × (stopped ≡ false)
stands whole stopped None s e = s
stands whole stopped (Some end) s e = absurd (cc)
