-- Messages with distinct keys are no more than the keys.
use Rattle.std.proofs.Common.{◌≡◌, ℕ, ◌+◌, ◌<◌, ◌≤◌, Bool, true, false, cond, nat_eq, arith, refl, sym, List, [], ◌∷◌, length}
use Rattle.std.proofs.lemmas.Bool.Decides.{nat_tests}
use Rattle.og_slots.specs.Flight.{Apart, Fits}
use Rattle.og_slots.specs.Count.{count}
use Rattle.og_slots.proofs.Count.{count_less, count_none, count_most}
use Rattle.og_slots.proofs.Flight.{fits_coarser}

-- some message has the key c
abbrev has : {M : Type 0} → (M → ℕ) → List M → ℕ → Bool
has key [] c = false
has key (m ∷ ms) c = cond (nat_eq c (key m)) true (has key ms c)

absent : {M : Type 0} → (key : M → ℕ) (k : ℕ) (ms : List M) → Apart key k ms → has key ms k ≡ false
absent key k [] a = refl
absent key k (m ∷ ms) a = at (nat_eq k (key m)) refl (absent key k ms a.1)
  where
    at : (t : Bool) → nat_eq k (key m) ≡ t → has key ms k ≡ false → cond t true (has key ms k) ≡ false
    at true e r = let same : k ≡ key m = grind (arith, nat_tests) in absurd (a.0 (sym same))
    at false e r = r

all_counted : {M : Type 0} → (key : M → ℕ) (P : M → Type 0) (room : ℕ) → ((x : M) → P x → key x < room) → (ms : List M) → Fits key P ms → count room (has key ms) ≡ length ms
all_counted key P room within [] fits = count_none room (has key []) (λ k lt. refl)
all_counted key P room within (m ∷ ms) fits =
    let r : count room (has key ms) ≡ length ms = all_counted key P room within ms fits.2 in
    let none : has key ms (key m) ≡ false = absent key (key m) ms fits.1 in
    let more : count room (has key (m ∷ ms)) ≡ count room (has key ms) + 1 =
    count_less room (has key (m ∷ ms)) (has key ms) (key m) (within m fits.0) (grind (arith, nat_tests)) none (λ k ne. grind (arith, nat_tests)) in
    omega arith

pub room_for : {M : Type 0} → (key : M → ℕ) (P : M → Type 0) (room : ℕ) → ((x : M) → P x → key x < room) → (ms : List M) → Fits key P ms → length ms ≤ room
room_for key P room within ms fits =
    let e : count room (has key ms) ≡ length ms = all_counted key P room within ms fits in
    let le : count room (has key ms) ≤ room = count_most room (has key ms) in omega arith

-- the same for keys that are numbered
pub room_for_all : {M : Type 0} → {K : Type 0} → (key : M → K) (code : K → ℕ) (P : M → Type 0) (room : ℕ) → ((x y : M) → P x → P y → code (key x) ≡ code (key y) → key x ≡ key y) → ((x : M) → P x → code (key x) < room) →
    (ms : List M) → Fits key P ms → length ms ≤ room
room_for_all key code P room one within ms fits = room_for (λ m. code (key m)) P room within ms (fits_coarser key (λ m. code (key m)) P one ms fits)
