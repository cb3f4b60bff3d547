-- Lists of messages, and the sides of actors.
use Rattle.std.proofs.Common.{◌≡◌, ℕ, zero, suc, ◌+◌, Bool, true, false, cond, nat_eq, arith, ◌⊎◌, inl, inr, refl, sym, subst, List, [], ◌∷◌, ◌++◌, length, slice_get, None, Some, ap}
use Rattle.std.proofs.Math.Path.{◌∙◌}
use Rattle.std.proofs.lemmas.Bool.Decides.{nat_tests}
use Rattle.og_runs.specs.declared.MsgId.{MsgId}
use Rattle.og_runs.specs.declared.Msg.{Msg}
use Rattle.og_runs.specs.Runs.{same_id, put}
use Rattle.og_runs.proofs.Placed.{same_id_equal}
use Rattle.og_fabric.specs.declared.rule.Side.{Side}
use Rattle.og_fabric.specs.Sides.{Each, times, Place, Sides, sent_in, is_there}

pub each_map : {X : Type 0} → (P Q : X → Type 0) → ((x : X) → P x → Q x) → (xs : List X) → Each P xs → Each Q xs
each_map P Q f [] h = tt
each_map P Q f (x ∷ xs) h = (f x h.0, each_map P Q f xs h.1)

pub each_snoc : {X : Type 0} → (P : X → Type 0) (xs : List X) (x : X) → Each P xs → P x → Each P (xs ++ x ∷ [])
each_snoc P [] x h e = (e, tt)
each_snoc P (y ∷ ys) x h e = (h.0, each_snoc P ys x h.1 e)

pub times_append : {K : Type 0} → (i : MsgId) (xs ys : List (Msg K)) → times i (xs ++ ys) ≡ times i xs + times i ys
times_append i [] ys = omega arith
times_append {K} i (x ∷ xs) ys = at (same_id i x.id) (times_append i xs ys)
  where
    at : (w : Bool) → times i (xs ++ ys) ≡ times i xs + times i ys → cond w (suc (times i (xs ++ ys))) (times i (xs ++ ys)) ≡ cond w (suc (times i xs)) (times i xs) + times i ys
    at true e = omega (arith, e)
    at false e = e

pub get_snoc : {X : Type 0} → (xs : List X) (x : X) (k : ℕ) → is_there (slice_get (xs ++ x ∷ []) k) ≡ cond (nat_eq (length xs) k) true (is_there (slice_get xs k))
get_snoc [] x zero = refl
get_snoc [] x (suc k) = let ne : nat_eq 0 (suc k) ≡ false = grind (arith, nat_tests) in rw ne refl
get_snoc (y ∷ ys) x zero = let ne : nat_eq (suc (length ys)) 0 ≡ false = grind (arith, nat_tests) in rw ne refl
get_snoc (y ∷ ys) x (suc k) = let same : nat_eq (suc (length ys)) (suc k) ≡ nat_eq (length ys) k = grind (arith, nat_tests) in rw same (get_snoc ys x k)

pub get_more : {X : Type 0} → (xs ys : List X) (k : ℕ) (m : X) → slice_get xs k ≡ Some m → slice_get (xs ++ ys) k ≡ Some m
get_more [] ys k m e = absurd (cc)
get_more (x ∷ xs) ys zero m e = e
get_more (x ∷ xs) ys (suc k) m e = get_more xs ys k m e

pub get_end : {X : Type 0} → (xs : List X) (x : X) (k : ℕ) (m : X) → slice_get (xs ++ x ∷ []) k ≡ Some m → (slice_get xs k ≡ Some m) ⊎ ((k ≡ length xs) × (x ≡ m))
get_end [] x zero m e = inr (refl, cc)
get_end [] x (suc k) m e = absurd (cc)
get_end (y ∷ ys) x zero m e = inl e
get_end (y ∷ ys) x (suc k) m e = go (get_end ys x k m e)
  where
    go : (slice_get ys k ≡ Some m) ⊎ ((k ≡ length ys) × (x ≡ m)) → (slice_get ys k ≡ Some m) ⊎ ((suc k ≡ suc (length ys)) × (x ≡ m))
    go (inl h) = inl h
    go (inr h) = inr (ap (λ (n : ℕ). suc n) h.0, h.1)

pub get_at_end : {X : Type 0} → (xs : List X) (x : X) → slice_get (xs ++ x ∷ []) (length xs) ≡ Some x
get_at_end [] x = refl
get_at_end (y ∷ ys) x = get_at_end ys x

pub none_at_end : {X : Type 0} → (xs : List X) → slice_get xs (length xs) ≡ None
none_at_end [] = refl
none_at_end (x ∷ xs) = none_at_end xs

-- a message's place becomes p
abbrev pub moved : MsgId → Place → (MsgId → Place) → MsgId → Place
moved i p place j = cond (same_id i j) p (place j)

pub unseen : {X : Type 0} → (g : Place → X) (i : MsgId) (p : Place) (place : MsgId → Place) → g (place i) ≡ g p → (j : MsgId) → g (place j) ≡ g (moved i p place j)
unseen {X} g i p place e j = at (same_id i j) refl
  where
    at : (w : Bool) → same_id i j ≡ w → g (place j) ≡ g (cond w p (place j))
    at true is = ap (λ (k : MsgId). g (place k)) (sym (same_id_equal i j is)) ∙ e
    at false is = refl

pub eq_self : (a : ℕ) → nat_eq a a ≡ true
eq_self a = grind (arith, nat_tests)

-- the other sides stay
pub put_here : {X : Type 0} → (s : ℕ → X) (a : ℕ) (x : X) → put s a x a ≡ x
put_here {X} s a x = ap (λ (w : Bool). cond w x (s a)) (eq_self a)

pub put_there : {X : Type 0} → (s : ℕ → X) (a : ℕ) (x : X) (b : ℕ) → nat_eq a b ≡ false → put s a x b ≡ s b
put_there {X} s a x b e = ap (λ (w : Bool). cond w x (s b)) e

-- what holds of the new side, and of each other, holds of all
pub put_all : {X : Type 0} → (P : ℕ → X → Type 0) (s : ℕ → X) (a : ℕ) (x : X) → P a x → ((b : ℕ) → nat_eq a b ≡ false → P b (s b)) → (b : ℕ) → P b (put s a x b)
put_all {X} P s a x h k b = at (nat_eq a b) refl
  where
    at : (w : Bool) → nat_eq a b ≡ w → P b (cond w x (s b))
    at true is = let same : a ≡ b = grind (arith, nat_tests) in subst (λ (c : ℕ). P c x) same h
    at false is = k b is

-- where the sent list of the new side is the old one's, each name stays what it was
pub sent_same : {K : Type 0} → (s : Sides K) (a : ℕ) (h : Side K) → h.sent ≡ (s a).sent → (i : MsgId) → sent_in (put s a h) i ≡ sent_in s i
sent_same {K} s a h e i = put_all (λ (b : ℕ) (k : Side K). slice_get k.sent i.seq ≡ slice_get (s b).sent i.seq) s a h (ap (λ (ms : List (Msg K)). slice_get ms i.seq) e) (λ b ne. refl) i.sender

-- and where it has one more, each name that there was stays
pub sent_grows : {K : Type 0} → (s : Sides K) (a : ℕ) (h : Side K) (x : Msg K) → h.sent ≡ (s a).sent ++ x ∷ [] → (i : MsgId) (m : Msg K) → sent_in s i ≡ Some m → sent_in (put s a h) i ≡ Some m
sent_grows {K} s a h x e i m is =
    put_all (λ (b : ℕ) (k : Side K). slice_get (s b).sent i.seq ≡ Some m → slice_get k.sent i.seq ≡ Some m) s a h
    (λ is. ap (λ (ms : List (Msg K)). slice_get ms i.seq) e ∙ get_more (s a).sent (x ∷ []) i.seq m is) (λ b ne is. is) i.sender is
