-- Columns: a state of many actors is a record of functions, one for each field.
use Rattle.std.specs.Prelude.{ℕ, nat_eq, cond}

-- the column f, with x at p
abbrev pub put : {A : Type 0} → (ℕ → A) → ℕ → A → ℕ → A
put f p x q = cond (nat_eq q p) x (f q)
