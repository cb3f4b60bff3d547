-- Turn after turn.
use Rattle.std.proofs.Common.{◌≡◌, ℕ, zero, suc, ◌+◌, ◌≤◌, false, arith, refl, subst, Option, None, Some, ap}
use Rattle.std.proofs.Math.Path.{◌∙◌}
use Rattle.og_runs.specs.Runs.{Rules}
use Rattle.og_actors.specs.declared.Turn.{Turn}
use Rattle.og_actors.specs.declared.Turn.TheVariants.{Event as Made, Idle}
use Rattle.og_actors.specs.Actors.{is_there, Playing, AfterTurn, MakesTurns}

-- what turns keep: the actor and its fabric, and that each is counted
pub record Keeps {A K N : Type 0} (n : ℕ) (p q : Playing A K N) : Type 0 where
  pub table : q.table ≡ p.table
  pub actor : q.actor ≡ p.actor
  pub count : q.made + q.idle ≡ p.made + p.idle + n
  pub made : p.made ≤ q.made
  pub idle : p.idle ≤ q.idle

turn_keeps : {A K N : Type 0} → (r : Rules A K N) (p q : Playing A K N) (t : Turn) → AfterTurn r p t q → Keeps 1 p q
turn_keeps r p q Made h = record {
  table = h.table;
  actor = h.actor;
  count = (let a = h.made in let b = h.idle in omega (arith, a, b));
  made = (let a = h.made in omega (arith, a));
  idle = (let b = h.idle in omega (arith, b));
}
turn_keeps {A} {K} {N} r p q Idle h = record {
  table = ap (λ (z : Playing A K N). z.table) h.1;
  actor = ap (λ (z : Playing A K N). z.actor) h.1;
  count = (let a = ap (λ (z : Playing A K N). z.made) h.1 in let b = ap (λ (z : Playing A K N). z.idle) h.1 in omega (arith, a, b));
  made = (let a = ap (λ (z : Playing A K N). z.made) h.1 in omega (arith, a));
  idle = (let b = ap (λ (z : Playing A K N). z.idle) h.1 in omega (arith, b));
}

pub turns_keep : {A K N : Type 0} → (r : Rules A K N) (n : ℕ) (p q : Playing A K N) → MakesTurns r n p q → Keeps n p q
turns_keep {A} {K} {N} r zero p q h = subst (λ (z : Playing A K N). Keeps 0 p z) h (record { table = refl; actor = refl; count = omega arith; made = omega arith; idle = omega arith })
turns_keep r (suc n) p q (u, t, h, k) =
    let a = turns_keep r n p u h in
    let b = turn_keeps r u q t k in
    record {
      table = b.table ∙ a.table;
      actor = b.actor ∙ a.actor;
      count = (let x = a.count in let y = b.count in omega (arith, x, y));
      made = (let x = a.made in let y = b.made in omega (arith, x, y));
      idle = (let x = a.idle in let y = b.idle in omega (arith, x, y));
    }

-- one turn more
pub turns_more : {A K N : Type 0} → (r : Rules A K N) (n : ℕ) (p u q : Playing A K N) (t : Turn) → MakesTurns r n p u → AfterTurn r u t q → MakesTurns r (n + 1) p q
turns_more {A} {K} {N} r n p u q t h k = let e : suc n ≡ n + 1 = omega arith in subst (λ (m : ℕ). MakesTurns r m p q) e (u, t, h, k)

pub no_act : {X : Type 0} → (o : Option X) → is_there o ≡ false → o ≡ None
no_act None e = refl
no_act (Some x) e = absurd (cc)
