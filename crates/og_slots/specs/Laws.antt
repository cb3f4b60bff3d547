-- What is claimed of messages in slots, whatever P says of each message; and of counts over nodes.
use Rattle.std.specs.Prelude.{◌≡◌, ◌≢◌, ℕ, ◌+◌, ◌<◌, ◌≤◌, Bool, true, false, List, [], ◌∷◌, ◌++◌, length, slice_get, remove, Some}
use Rattle.og_slots.specs.Count.{count}
use Rattle.og_slots.specs.Flight.{Apart, AllApart, Fits, first_named, without_named}

-- of the message that is taken P holds, and it leaves its key to nobody
abbrev pub TakeKeeps : (M K : Type 0) → (M → Type 0) → Type 0
TakeKeeps M K P = (key : M → K) (ms : List M) (i : ℕ) (x : M) → Fits key P ms → slice_get ms i ≡ Some x → P x × Apart key (key x) (remove ms i) × Fits key P (remove ms i)

-- the same of the message that is taken by its name, and nothing is asked of names
abbrev pub TakeNamedKeeps : (M K : Type 0) → (M → Type 0) → Type 0
TakeNamedKeeps M K P = (key : M → K) (named : M → Bool) (ms : List M) (x : M) → Fits key P ms → first_named named ms ≡ Some x → P x × Apart key (key x) (without_named named ms) × Fits key P (without_named named ms)

-- a message may be sent whose key is free
abbrev pub SendKeeps : (M K : Type 0) → (M → Type 0) → Type 0
SendKeeps M K P = (key : M → K) (ms : List M) (x : M) → Fits key P ms → Apart key (key x) ms → P x → Fits key P (ms ++ x ∷ [])

-- and so may many letters at once
abbrev pub SendManyKeeps : (M K : Type 0) → (M → Type 0) → Type 0
SendManyKeeps M K P = (key : M → K) (ms xs : List M) → Fits key P ms → Fits key P xs → AllApart key xs ms → Fits key P (ms ++ xs)

-- what is said of the messages with other keys may change, where no message has the key k
abbrev pub FrameKeeps : (M K : Type 0) → (P Q : M → Type 0) → Type 0
FrameKeeps M K P Q = (key : M → K) (k : K) (ms : List M) → ((x : M) → key x ≢ k → P x → Q x) → Apart key k ms → Fits key P ms → Fits key Q ms

-- distinct keys are distinct charges, where messages of which P holds have one key if they have one charge
abbrev pub CoarserKeeps : (M K C : Type 0) → (M → Type 0) → Type 0
CoarserKeeps M K C P = (key : M → K) (charge : M → C) (ms : List M) → ((x y : M) → P x → P y → charge x ≡ charge y → key x ≡ key y) → Fits key P ms → Fits charge P ms

-- there are no more messages than keys
abbrev pub RoomSuffices : (M : Type 0) → (M → Type 0) → Type 0
RoomSuffices M P = (key : M → ℕ) (room : ℕ) (ms : List M) → ((x : M) → P x → key x < room) → Fits key P ms → length ms ≤ room

-- a count is 0 exactly where none passes, and at most the number of nodes; and one that passes no more makes it one less
abbrev pub CountsNone : Type 0
CountsNone = (n : ℕ) (test : ℕ → Bool) → (count n test ≡ 0 → (k : ℕ) → k < n → test k ≡ false) × (((k : ℕ) → k < n → test k ≡ false) → count n test ≡ 0)

abbrev pub CountsMost : Type 0
CountsMost = (n : ℕ) (test : ℕ → Bool) → count n test ≤ n

abbrev pub CountsOneLess : Type 0
CountsOneLess = (n p : ℕ) (before after : ℕ → Bool) → p < n → before p ≡ true → after p ≡ false → ((k : ℕ) → k ≢ p → before k ≡ after k) → count n before ≡ count n after + 1
