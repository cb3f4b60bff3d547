-- A small protocol: each actor has a purse, and spends it on letters to the next actor of a ring.
use Rattle.std.specs.Prelude.{ℕ, ◌+◌, ◌-◌, Bool, ◌&&◌, nat_eq, nat_lt, [], ◌∷◌, cond}
use Rattle.std.proofs.Common.{Option, None, Some}
use Rattle.og_runs.specs.declared.Msg.{Msg}
use Rattle.og_runs.specs.Runs.{Rules, Outcome}
use Rattle.og_purses.specs.declared.Purse.{Purse}

-- an actor that can pay for n letters, and is to get as many
abbrev pub purse : ℕ → Purse
purse n = record { budget = n; owed = n }

-- the next of n actors
abbrev pub next_of : ℕ → ℕ → ℕ
next_of n a = cond (nat_lt (a + 1) n) (a + 1) 0

-- a letter to the next actor, as long as it can be paid for
abbrev pub spends : ℕ → ℕ → Purse → Option (Outcome Purse ℕ ℕ)
spends n a x = cond (nat_lt 0 x.budget) (Some (record { local = record { budget = x.budget - 1; owed = x.owed }; letters = record { to = next_of n a; kind = x.budget } ∷ []; note = None })) None

-- any letter is taken
abbrev pub takes : Purse → Msg ℕ → Option (Outcome Purse ℕ ℕ)
takes x m = Some (record { local = record { budget = x.budget; owed = x.owed - 1 }; letters = []; note = Some m.kind })

abbrev pub rules : ℕ → Rules Purse ℕ ℕ
rules n = record { act = λ a x. spends n a x; take = λ a x m. takes x m }

-- all was spent, and all came
abbrev pub is_done : Purse → Bool
is_done x = nat_eq x.budget 0 && nat_eq x.owed 0
