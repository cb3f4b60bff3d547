-- The registers: x0 to x31, and their names in the ABI: zero, ra, sp, gp and tp are x0 to x4, t0 to t2 x5 to x7, s0 and s1
-- x8 and x9, a0 to a7 x10 to x17, s2 to s11 x18 to x27, t3 to t6 x28 to x31.
use Rattle.std.specs.Prelude.{ℕ, ◌+◌, ◌-◌, ◌*◌, nat_lt, ◌==◌, ◌&&◌, not, cond, List, [], ◌∷◌, codes, Option, None, Some}
use Rattle.std.specs.Option.{option_or}
use Rattle.std.specs.Str.{bytes_eq}
use Rattle.rv_asm.specs.Syntax.{is_digit}

-- the five names without a number
abbrev pub special_in : List ℕ → Option ℕ
special_in w =
    cond (bytes_eq w (codes "zero")) (Some 0)
    (cond (bytes_eq w (codes "ra")) (Some 1)
    (cond (bytes_eq w (codes "sp")) (Some 2)
    (cond (bytes_eq w (codes "gp")) (Some 3)
    (cond (bytes_eq w (codes "tp")) (Some 4) None))))

-- a number of one digit, or of two without a zero in front
abbrev pub small_number : List ℕ → Option ℕ
small_number [] = None
small_number (d ∷ []) = cond (is_digit d) (Some (d - 48)) None
small_number (d ∷ e ∷ []) = cond (is_digit d && (is_digit e && not (d == 48))) (Some ((d - 48) * 10 + (e - 48))) None
small_number (d ∷ e ∷ f ∷ ds) = None

-- the register of a letter and a number
abbrev pub numbered : ℕ → ℕ → Option ℕ
numbered letter n =
    cond (letter == 120) (cond (nat_lt n 32) (Some n) None)
    (cond (letter == 116) (cond (nat_lt n 3) (Some (n + 5)) (cond (nat_lt n 7) (Some (n + 25)) None))
    (cond (letter == 115) (cond (nat_lt n 2) (Some (n + 8)) (cond (nat_lt n 12) (Some (n + 16)) None))
    (cond (letter == 97) (cond (nat_lt n 8) (Some (n + 10)) None) None)))

abbrev pub numbered_in : ℕ → Option ℕ → Option ℕ
numbered_in letter None = None
numbered_in letter (Some n) = numbered letter n

abbrev pub with_letter : List ℕ → Option ℕ
with_letter [] = None
with_letter (c ∷ cs) = numbered_in c (small_number cs)

-- the register that a word names
unfoldable pub register_in : List ℕ → Option ℕ
register_in w = option_or (special_in w) (with_letter w)
