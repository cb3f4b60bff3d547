-- The page layer's side of each kind of row of a block: its row may be taken, and changes what the kind says.
use Rattle.std.proofs.Common.{◌≡◌, ℕ, ◌<◌, true, cond, not, nat_eq, arith, ◌≢◌}
use Rattle.std.proofs.lemmas.Bool.Decides.{nat_tests}
use Rattle.og_block.specs.State.{Block}
use Rattle.og_pages.specs.State.{State as Pages, VictimSlot, VictimOf}
use Rattle.og_pages.specs.Rows.{guard as page_guard}
use Rattle.og_whole.specs.Kind.{Kind, Loads, Stores, Sends, Fills, Fills_store, Ends, Evicts, Settles, Poisons, Collects, Copies, Inner, phase_of, has_copy, is_taken, phase_after, idle_after, taken_after, copy_after, newest_after, Finds}
use Rattle.og_whole.specs.Events.{Above, Nothing, Does, above, after_above, Asked}
use Rattle.og_whole.specs.Link.{asks_for, stands_for}

-- the row that goes with it may be taken
abbrev pub MayBeAbove : {L : Type 0} → (pages blocks : ℕ) → Above L → Pages L → Type 0
MayBeAbove pages blocks Nothing s = Unit {0}
MayBeAbove pages blocks (Does row) s = page_guard pages blocks row s

victim_is : (slot : VictimSlot) (frame number : ℕ) → stands_for slot frame number ≡ true → slot ≡ VictimOf frame number
victim_is slot frame number e = grind (arith, nat_tests)

-- an actor that has a copy or a victim is one of them
abbrev pub Inside : {L : Type 0} → (actors : ℕ) → Kind L → Type 0
Inside actors (Loads p) = p < actors
Inside actors (Stores p line) = p < actors
Inside actors (Evicts p) = p < actors
Inside actors (Settles p) = p < actors
Inside actors d = Unit {0}

pub above_may : {L : Type 0} → (actors mover pages blocks page other frame number : ℕ) (d : Kind L) (s : Pages L) (b : Block L) → number < blocks → Asked mover page other frame number d s → Finds mover (s.newest frame number) d b → phase_of mover b ≡ s.phase frame number → ((q : ℕ) → has_copy (b.copy q) ≡ true → q < actors → s.cached frame number q ≡ true) → ((q : ℕ) → q < actors → q ≢ mover → is_taken (b.victim q) ≡ stands_for (s.victim q) frame number) → Inside actors d → MayBeAbove pages blocks (above mover page other frame number d) s
above_may actors mover pages blocks page other frame number (Loads p) s b lt asked finds phase copies victims inside = (asked, copies p finds.0 inside)
above_may actors mover pages blocks page other frame number (Stores p line) s b lt asked finds phase copies victims inside = (asked, copies p finds.0 inside)
above_may actors mover pages blocks page other frame number (Sends p) s b lt asked finds phase copies victims inside = grind arith
above_may actors mover pages blocks page other frame number (Fills p) s b lt asked finds phase copies victims inside = grind arith
above_may actors mover pages blocks page other frame number (Fills_store p line) s b lt asked finds phase copies victims inside = grind arith
above_may actors mover pages blocks page other frame number (Ends p) s b lt asked finds phase copies victims inside = grind (arith, nat_tests)
above_may actors mover pages blocks page other frame number (Evicts p) s b lt asked finds phase copies victims inside = (asked, copies p finds.0 inside)
above_may actors mover pages blocks page other frame number (Settles p) s b lt asked finds phase copies victims inside = let slot = victims p inside finds.1 in victim_is (s.victim p) frame number (grind arith)
above_may actors mover pages blocks page other frame number (Poisons p) s b lt asked finds phase copies victims inside = asked.1
above_may actors mover pages blocks page other frame number (Collects p line) s b lt asked finds phase copies victims inside = (asked, finds.0)
above_may actors mover pages blocks page other frame number (Copies p line) s b lt asked finds phase copies victims inside = (asked.1, asked.2)
above_may actors mover pages blocks page other frame number Inner s b lt asked finds phase copies victims inside = tt

pub line_above : {L : Type 0} → (actors mover page other frame number : ℕ) (d : Kind L) (s : Pages L) (b : Block L) → Asked mover page other frame number d s → Finds mover (s.newest frame number) d b → ((q : ℕ) → q < actors → q ≢ mover → is_taken (b.victim q) ≡ stands_for (s.victim q) frame number) → Inside actors d → (g j : ℕ) → (after_above (above mover page other frame number d) s).newest g j ≡ cond (nat_eq g frame) (cond (nat_eq j number) (newest_after d (s.newest g j)) (s.newest g j)) (s.newest g j)
line_above actors mover page other frame number (Loads p) s b asked finds victims inside g j = grind (arith, nat_tests)
line_above actors mover page other frame number (Stores p line) s b asked finds victims inside g j = grind (arith, nat_tests)
line_above actors mover page other frame number (Sends p) s b asked finds victims inside g j = grind (arith, nat_tests)
line_above actors mover page other frame number (Fills p) s b asked finds victims inside g j = grind (arith, nat_tests)
line_above actors mover page other frame number (Fills_store p line) s b asked finds victims inside g j = grind (arith, nat_tests)
line_above actors mover page other frame number (Ends p) s b asked finds victims inside g j = grind (arith, nat_tests)
line_above actors mover page other frame number (Evicts p) s b asked finds victims inside g j = grind (arith, nat_tests)
line_above actors mover page other frame number (Settles p) s b asked finds victims inside g j = grind (arith, nat_tests)
line_above actors mover page other frame number (Poisons p) s b asked finds victims inside g j = grind (arith, nat_tests)
line_above actors mover page other frame number (Collects p line) s b asked finds victims inside g j = grind (arith, nat_tests)
line_above actors mover page other frame number (Copies p line) s b asked finds victims inside g j = grind (arith, nat_tests)
line_above actors mover page other frame number Inner s b asked finds victims inside g j = grind (arith, nat_tests)

pub phase_above : {L : Type 0} → (actors mover page other frame number : ℕ) (d : Kind L) (s : Pages L) (b : Block L) → Asked mover page other frame number d s → Finds mover (s.newest frame number) d b → ((q : ℕ) → q < actors → q ≢ mover → is_taken (b.victim q) ≡ stands_for (s.victim q) frame number) → Inside actors d → (g j : ℕ) → (after_above (above mover page other frame number d) s).phase g j ≡ cond (nat_eq g frame) (cond (nat_eq j number) (phase_after mover d (s.phase g j)) (s.phase g j)) (s.phase g j)
phase_above actors mover page other frame number (Loads p) s b asked finds victims inside g j = grind (arith, nat_tests)
phase_above actors mover page other frame number (Stores p line) s b asked finds victims inside g j = grind (arith, nat_tests)
phase_above actors mover page other frame number (Sends p) s b asked finds victims inside g j = grind (arith, nat_tests)
phase_above actors mover page other frame number (Fills p) s b asked finds victims inside g j = grind (arith, nat_tests)
phase_above actors mover page other frame number (Fills_store p line) s b asked finds victims inside g j = grind (arith, nat_tests)
phase_above actors mover page other frame number (Ends p) s b asked finds victims inside g j = grind (arith, nat_tests)
phase_above actors mover page other frame number (Evicts p) s b asked finds victims inside g j = grind (arith, nat_tests)
phase_above actors mover page other frame number (Settles p) s b asked finds victims inside g j = grind (arith, nat_tests)
phase_above actors mover page other frame number (Poisons p) s b asked finds victims inside g j = grind (arith, nat_tests)
phase_above actors mover page other frame number (Collects p line) s b asked finds victims inside g j = grind (arith, nat_tests)
phase_above actors mover page other frame number (Copies p line) s b asked finds victims inside g j = grind (arith, nat_tests)
phase_above actors mover page other frame number Inner s b asked finds victims inside g j = grind (arith, nat_tests)

pub request_above : {L : Type 0} → (actors mover page other frame number : ℕ) (d : Kind L) (s : Pages L) (b : Block L) → Asked mover page other frame number d s → Finds mover (s.newest frame number) d b → ((q : ℕ) → q < actors → q ≢ mover → is_taken (b.victim q) ≡ stands_for (s.victim q) frame number) → Inside actors d → (g j q : ℕ) → q ≢ mover → not (asks_for ((after_above (above mover page other frame number d) s).request q) g j) ≡ cond (nat_eq g frame) (cond (nat_eq j number) (idle_after d q (not (asks_for (s.request q) g j))) (not (asks_for (s.request q) g j))) (not (asks_for (s.request q) g j))
request_above actors mover page other frame number (Loads p) s b asked finds victims inside g j q ne = grind (arith, nat_tests)
request_above actors mover page other frame number (Stores p line) s b asked finds victims inside g j q ne = grind (arith, nat_tests)
request_above actors mover page other frame number (Sends p) s b asked finds victims inside g j q ne = grind (arith, nat_tests)
request_above actors mover page other frame number (Fills p) s b asked finds victims inside g j q ne = grind (arith, nat_tests)
request_above actors mover page other frame number (Fills_store p line) s b asked finds victims inside g j q ne = grind (arith, nat_tests)
request_above actors mover page other frame number (Ends p) s b asked finds victims inside g j q ne = grind (arith, nat_tests)
request_above actors mover page other frame number (Evicts p) s b asked finds victims inside g j q ne = grind (arith, nat_tests)
request_above actors mover page other frame number (Settles p) s b asked finds victims inside g j q ne = grind (arith, nat_tests)
request_above actors mover page other frame number (Poisons p) s b asked finds victims inside g j q ne = grind (arith, nat_tests)
request_above actors mover page other frame number (Collects p line) s b asked finds victims inside g j q ne = grind (arith, nat_tests)
request_above actors mover page other frame number (Copies p line) s b asked finds victims inside g j q ne = grind (arith, nat_tests)
request_above actors mover page other frame number Inner s b asked finds victims inside g j q ne = grind (arith, nat_tests)

pub victim_above : {L : Type 0} → (actors mover page other frame number : ℕ) (d : Kind L) (s : Pages L) (b : Block L) → Asked mover page other frame number d s → Finds mover (s.newest frame number) d b → ((q : ℕ) → q < actors → q ≢ mover → is_taken (b.victim q) ≡ stands_for (s.victim q) frame number) → Inside actors d → (g j q : ℕ) → q ≢ mover → stands_for ((after_above (above mover page other frame number d) s).victim q) g j ≡ cond (nat_eq g frame) (cond (nat_eq j number) (taken_after d q (stands_for (s.victim q) g j)) (stands_for (s.victim q) g j)) (stands_for (s.victim q) g j)
victim_above actors mover page other frame number (Loads p) s b asked finds victims inside g j q ne = grind (arith, nat_tests)
victim_above actors mover page other frame number (Stores p line) s b asked finds victims inside g j q ne = grind (arith, nat_tests)
victim_above actors mover page other frame number (Sends p) s b asked finds victims inside g j q ne = grind (arith, nat_tests)
victim_above actors mover page other frame number (Fills p) s b asked finds victims inside g j q ne = grind (arith, nat_tests)
victim_above actors mover page other frame number (Fills_store p line) s b asked finds victims inside g j q ne = grind (arith, nat_tests)
victim_above actors mover page other frame number (Ends p) s b asked finds victims inside g j q ne = grind (arith, nat_tests)
victim_above actors mover page other frame number (Evicts p) s b asked finds victims inside g j q ne = grind (arith, nat_tests)
victim_above actors mover page other frame number (Settles p) s b asked finds victims inside g j q ne = grind (arith, nat_tests)
victim_above actors mover page other frame number (Poisons p) s b asked finds victims inside g j q ne = grind (arith, nat_tests)
victim_above actors mover page other frame number (Collects p line) s b asked finds victims inside g j q ne = grind (arith, nat_tests)
victim_above actors mover page other frame number (Copies p line) s b asked finds victims inside g j q ne = grind (arith, nat_tests)
victim_above actors mover page other frame number Inner s b asked finds victims inside g j q ne = grind (arith, nat_tests)

pub copy_above : {L : Type 0} → (actors mover page other frame number : ℕ) (d : Kind L) (s : Pages L) (b : Block L) → Asked mover page other frame number d s → Finds mover (s.newest frame number) d b → ((q : ℕ) → q < actors → q ≢ mover → is_taken (b.victim q) ≡ stands_for (s.victim q) frame number) → Inside actors d → (g j q : ℕ) → (after_above (above mover page other frame number d) s).cached g j q ≡ cond (nat_eq g frame) (cond (nat_eq j number) (copy_after d q (s.cached g j q)) (s.cached g j q)) (s.cached g j q)
copy_above actors mover page other frame number (Loads p) s b asked finds victims inside g j q = grind (arith, nat_tests)
copy_above actors mover page other frame number (Stores p line) s b asked finds victims inside g j q = grind (arith, nat_tests)
copy_above actors mover page other frame number (Sends p) s b asked finds victims inside g j q = grind (arith, nat_tests)
copy_above actors mover page other frame number (Fills p) s b asked finds victims inside g j q = grind (arith, nat_tests)
copy_above actors mover page other frame number (Fills_store p line) s b asked finds victims inside g j q = grind (arith, nat_tests)
copy_above actors mover page other frame number (Ends p) s b asked finds victims inside g j q = grind (arith, nat_tests)
copy_above actors mover page other frame number (Evicts p) s b asked finds victims inside g j q = grind (arith, nat_tests)
copy_above actors mover page other frame number (Settles p) s b asked finds victims inside g j q = grind (arith, nat_tests)
copy_above actors mover page other frame number (Poisons p) s b asked finds victims inside g j q = grind (arith, nat_tests)
copy_above actors mover page other frame number (Collects p line) s b asked finds victims inside g j q = grind (arith, nat_tests)
copy_above actors mover page other frame number (Copies p line) s b asked finds victims inside g j q = grind (arith, nat_tests)
copy_above actors mover page other frame number Inner s b asked finds victims inside g j q = grind (arith, nat_tests)
