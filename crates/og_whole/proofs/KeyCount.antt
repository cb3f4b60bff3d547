-- The keys, numbered one family after another: so messages of different keys are no more than the keys.
use Rattle.std.proofs.Common.{◌≡◌, ℕ, ◌+◌, ◌*◌, ◌<◌, ◌≤◌, arith, ◌≢◌, List, length}
use Rattle.std.proofs.lemmas.Nat.{div-mul-add, mul-add-lt}
use Rattle.og_block.specs.State.{Block, NoResponse}
use Rattle.og_block.specs.Invariant.{Asks}
use Rattle.og_block.specs.Roles.{Mover}
use Rattle.og_block.specs.Message.{Key as BlockKey, Request_of, Answer_to, Write_back_of, Owner_of_block, Left_by, Invalidation_of, key_of as block_key}
use Rattle.og_slots.specs.Flight.{Fits}
use Rattle.og_slots.proofs.Flight.{fits_coarser}
use Rattle.og_slots.proofs.Room.{room_for}
use Rattle.og_whole.specs.Events.{World}
use Rattle.og_whole.specs.Link.{Invariant}
use Rattle.og_whole.specs.Messages.{Message, OfBlock, OfJob, OfWalk, OfDrop, OfNotice, InFlight, Key, Ask, Response, Back, Left, Busy, Invalidation, Walk, Drop, Notice, key_in, key_of, key_count}
use Rattle.og_whole.proofs.KeysApart.{Engaged, engaged_in, taken_node, one_message}

-- the key is one of a machine of this many nodes and frames
abbrev IsKey : (nodes frames blocks : ℕ) → Key → Type 0
IsKey nodes frames blocks (Ask p) = p < nodes + 1
IsKey nodes frames blocks (Response p) = p < nodes
IsKey nodes frames blocks (Back p) = p < nodes
IsKey nodes frames blocks (Left p) = p < nodes
IsKey nodes frames blocks (Walk p) = p < nodes
IsKey nodes frames blocks (Drop p) = p < nodes
IsKey nodes frames blocks (Notice f) = f < frames
IsKey nodes frames blocks (Invalidation r p) = (r < nodes + 1) × (p < nodes)
IsKey nodes frames blocks (Busy f k) = (f < frames) × (k < blocks)

-- its place in its family
abbrev index : (nodes blocks : ℕ) → Key → ℕ
index nodes blocks (Ask p) = p
index nodes blocks (Response p) = p
index nodes blocks (Back p) = p
index nodes blocks (Left p) = p
index nodes blocks (Walk p) = p
index nodes blocks (Drop p) = p
index nodes blocks (Notice f) = f
index nodes blocks (Invalidation r p) = r * nodes + p
index nodes blocks (Busy f k) = f * blocks + k

-- how many keys its family has
abbrev size : (nodes frames blocks : ℕ) → Key → ℕ
size nodes frames blocks (Ask p) = nodes + 1
size nodes frames blocks (Notice f) = frames
size nodes frames blocks (Invalidation r p) = nodes * (nodes + 1)
size nodes frames blocks (Busy f k) = blocks * frames
size nodes frames blocks key = nodes

-- how many keys come before its family
abbrev base : (nodes frames : ℕ) → Key → ℕ
base nodes frames (Ask p) = 0
base nodes frames (Response p) = nodes + 1
base nodes frames (Back p) = 2 * nodes + 1
base nodes frames (Left p) = 3 * nodes + 1
base nodes frames (Walk p) = 4 * nodes + 1
base nodes frames (Drop p) = 5 * nodes + 1
base nodes frames (Notice f) = 6 * nodes + 1
base nodes frames (Invalidation r p) = 6 * nodes + 1 + frames
base nodes frames (Busy f k) = 6 * nodes + 1 + frames + nodes * (nodes + 1)

number_of : (nodes frames blocks : ℕ) → Key → ℕ
number_of nodes frames blocks key = base nodes frames key + index nodes blocks key

index_below : (nodes frames blocks : ℕ) (key : Key) → IsKey nodes frames blocks key → index nodes blocks key < size nodes frames blocks key
index_below nodes frames blocks (Invalidation r p) h = mul-add-lt r nodes p (nodes + 1) h.0 h.1
index_below nodes frames blocks (Busy f k) h = mul-add-lt f blocks k frames h.0 h.1
index_below nodes frames blocks key h = h

number_below : (nodes frames blocks : ℕ) (key : Key) → IsKey nodes frames blocks key → number_of nodes frames blocks key < key_count nodes frames blocks
unfolding number_of
number_below nodes frames blocks (Ask p) h = omega arith
number_below nodes frames blocks (Response p) h = omega arith
number_below nodes frames blocks (Back p) h = omega arith
number_below nodes frames blocks (Left p) h = omega arith
number_below nodes frames blocks (Walk p) h = omega arith
number_below nodes frames blocks (Drop p) h = omega arith
number_below nodes frames blocks (Notice f) h = omega arith
number_below nodes frames blocks (Invalidation r p) h = let i = index_below nodes frames blocks (Invalidation r p) h in omega arith
number_below nodes frames blocks (Busy f k) h = let i = index_below nodes frames blocks (Busy f k) h in omega arith

pair_one : (w a b c d : ℕ) → b < w → d < w → a * w + b ≡ c * w + d → (a ≡ c) × (b ≡ d)
pair_one w a b c d lb ld e =
    let x = div-mul-add a w b lb in
    let y = div-mul-add c w d ld in
    let same : a ≡ c = cc in
    (same, rest a c same e)
  where
    rest : (a c : ℕ) → a ≡ c → a * w + b ≡ c * w + d → b ≡ d
    rest a c s e = let m : a * w ≡ c * w = cc in omega arith

number_one : (nodes frames blocks : ℕ) (x y : Key) → IsKey nodes frames blocks x → IsKey nodes frames blocks y → number_of nodes frames blocks x ≡ number_of nodes frames blocks y → x ≡ y
unfolding number_of
number_one nodes frames blocks (Ask p) (Ask q) a b e = let s : p ≡ q = omega arith in cc
number_one nodes frames blocks (Response p) (Response q) a b e = let s : p ≡ q = omega arith in cc
number_one nodes frames blocks (Back p) (Back q) a b e = let s : p ≡ q = omega arith in cc
number_one nodes frames blocks (Left p) (Left q) a b e = let s : p ≡ q = omega arith in cc
number_one nodes frames blocks (Walk p) (Walk q) a b e = let s : p ≡ q = omega arith in cc
number_one nodes frames blocks (Drop p) (Drop q) a b e = let s : p ≡ q = omega arith in cc
number_one nodes frames blocks (Notice p) (Notice q) a b e = let s : p ≡ q = omega arith in cc
number_one nodes frames blocks (Invalidation r p) (Invalidation s q) a b e = let h = pair_one nodes r p s q a.1 b.1 (omega arith) in let h0 = h.0 in let h1 = h.1 in cc
number_one nodes frames blocks (Busy f k) (Busy g j) a b e = let h = pair_one blocks f k g j a.1 b.1 (omega arith) in let h0 = h.0 in let h1 = h.1 in cc
number_one nodes frames blocks x y a b e = let i = index_below nodes frames blocks x a in let j = index_below nodes frames blocks y b in absurd (omega arith)

-- ---- the key of a message in flight is one of them

no_response : {L : Type 0} → (b : Block L) (p : ℕ) → Mover p b → Asks b p → b.response p ≡ NoResponse
no_response b p mover asks = grind arith

below : (p nodes : ℕ) → p < nodes + 1 → p ≢ nodes → p < nodes
below p nodes lt ne = omega arith

module _ {L : Type 0} (nodes frames pages blocks : ℕ) (w : World L) (inv : Invariant L (nodes + 1) nodes pages blocks w) where
  -- none but a request or a reply is the mover's
  key_of_block : (f k : ℕ) → f < frames → k < blocks → (key : BlockKey) → Engaged (nodes + 1) (w.block f k) key → IsKey nodes frames blocks (key_in f k key)
  key_of_block f k lf lk (Request_of p) e = e.0
  key_of_block f k lf lk (Answer_to p) e = below p nodes e.0 (λ same.
      let l = inv.link f k lk in let h = no_response (w.block f k) nodes l.parts.mover (l.invariant.each nodes (omega arith)).asks in
      e.2 (cc))
  key_of_block f k lf lk (Write_back_of p) e = below p nodes e.0 (taken_node nodes frames pages blocks w inv f k p lk e.1)
  key_of_block f k lf lk (Left_by p) e = below p nodes e.0 (taken_node nodes frames pages blocks w inv f k p lk e.1)
  key_of_block f k lf lk (Invalidation_of r p) e = (e.0, below p nodes e.1 (λ same. let mover = (inv.link f k lk).parts.mover in let i = mover.3 in e.3 (cc)))
  key_of_block f k lf lk Owner_of_block e = (lf, lk)

  is_key : (x : Message L) → InFlight nodes frames blocks w x → IsKey nodes frames blocks (key_of nodes w x)
  is_key (OfBlock f k x) s = key_of_block f k s.0 s.1 (block_key (w.block f k) x) (engaged_in nodes frames pages blocks w inv f k s.1 x s.2)
  is_key (OfJob x) s = omega arith
  is_key (OfWalk p x) s = s.0
  is_key (OfDrop p x) s = s.0
  is_key (OfNotice f x) s = s.0

  pub at_most_keys : (messages : List (Message L)) → Fits (λ x. x) (λ x. InFlight nodes frames blocks w x) messages → length messages ≤ key_count nodes frames blocks
  at_most_keys messages fits =
      let numbers : Fits (λ x. number_of nodes frames blocks (key_of nodes w x)) (λ x. InFlight nodes frames blocks w x) messages = fits_coarser (λ x. x) (λ x. number_of nodes frames blocks (key_of nodes w x)) (λ x. InFlight nodes frames blocks w x)
      (λ x y a b e. one_message nodes frames pages blocks w inv x y a b (number_one nodes frames blocks (key_of nodes w x) (key_of nodes w y) (is_key x a) (is_key y b) e)) messages fits in
      room_for (λ x. number_of nodes frames blocks (key_of nodes w x)) (λ x. InFlight nodes frames blocks w x) (key_count nodes frames blocks) (λ x a. number_below nodes frames blocks (key_of nodes w x) (is_key x a)) messages numbers
