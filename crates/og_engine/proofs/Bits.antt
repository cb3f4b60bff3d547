-- What the marks of the nodes say, when one node has changed, and at the start.
use Rattle.std.proofs.Common.{◌≡◌, ◌∙◌, ℕ, zero, suc, ◌+◌, ◌<◌, ◌≤◌, Bool, true, false, cond, nat_eq, nat_lt, arith, refl, sym, ap, Option, None, Some, Ok, Err, Result, List, [], ◌∷◌, length}
use Rattle.std.specs.Prelude.{slice_get, slice_set, is_none, if◌then◌else◌}
use Rattle.std.specs.Result.{is_ok}
use Rattle.std.proofs.lemmas.Bool.Decides.{nat_tests}
use Rattle.og_base.specs.declared.Cause.{Cause}
use Rattle.og_base.specs.declared.NotEnabled.{NotEnabled}
use Rattle.og_base.specs.declared.NotEnabled.TheVariants.{VictimBusy}
use Rattle.og_base.specs.declared.VPage.{VPage}
use Rattle.og_runs.specs.declared.Seat.{Seat}
use Rattle.og_image.specs.Image.{ImageState}
use Rattle.og_request.specs.Request.{Requested}
use Rattle.rv_hart.specs.Hart.{need_of}
use Rattle.og_processor.specs.State.{ProcessorState}
use Rattle.og_processor.specs.Act.{may_act, may_act_by, is_blocked_by}
use Rattle.og_node.specs.Kept.{KeptNode}
use Rattle.og_choices.specs.Marks.{is_marked}
use Rattle.og_choices.proofs.Bits.{none_marked}
use Rattle.og_engine.specs.Marks.{is_ready, is_running, is_running_by, AreMarked}

-- ---- marks of nodes

-- a hart runs where its node isn't refused for it
pub runs_by : (image : ImageState) (x : ProcessorState) → is_running_by (may_act image x) ≡ is_none x.hart.cause
unfolding may_act
runs_by image x = by x.hart.cause x.request x.walk
  where
    blocked : (t : Bool) → is_running_by (if t then Err VictimBusy else Ok tt) ≡ true
    blocked true = refl
    blocked false = refl

    by : (cause : Option Cause) (request : Option Requested) (walk : Option VPage) → is_running_by (may_act_by image x cause request walk) ≡ is_none cause
    by (Some cause) request walk = refl
    by None (Some request) walk = refl
    by None None (Some page) = refl
    by None None None = blocked (is_blocked_by x (need_of image x.hart))

-- what is at a place of a list of which one place was changed
pub get_changed : {X : Type 0} → (xs : List X) (a : ℕ) (y : X) (k : ℕ) → a < length xs → slice_get (slice_set xs a y) k ≡ (if nat_eq k a then Some y else slice_get xs k)
get_changed [] a y k lt = absurd (omega arith)
get_changed (x ∷ xs) zero y zero lt = refl
get_changed {X} (x ∷ xs) zero y (suc k) lt = let no : nat_eq (suc k) 0 ≡ false = grind (arith, nat_tests) in sym (ap (λ (t : Bool). cond t (Some y) (slice_get xs k)) no)
get_changed {X} (x ∷ xs) (suc a) y zero lt = let no : nat_eq 0 (suc a) ≡ false = grind (arith, nat_tests) in sym (ap (λ (t : Bool). cond t (Some y) (Some x)) no)
get_changed {X} (x ∷ xs) (suc a) y (suc k) lt =
    let same : nat_eq k a ≡ nat_eq (suc k) (suc a) = grind (arith, nat_tests) in
    get_changed xs a y k (omega arith) ∙ ap (λ (t : Bool). cond t (Some y) (slice_get xs k)) same

-- a node has changed, and its marks with it
pub marked_again : (image : ImageState) (nodes : List (Seat KeptNode)) (a : ℕ) (y : Seat KeptNode) (may : Result (Unit {0}) NotEnabled) (ready running ready' running' : ℕ) → AreMarked image nodes ready running → a < length nodes →
    may ≡ may_act image y.local.processor →
    ((k : ℕ) → is_marked ready' k ≡ (if nat_eq k a then is_ok may else is_marked ready k)) → ((k : ℕ) → is_marked running' k ≡ (if nat_eq k a then is_running_by may else is_marked running k)) →
    AreMarked image (slice_set nodes a y) ready' running'
marked_again image nodes a y may ready running ready' running' are lt may_is ready_is running_is = record {
  ready_is = λ k. ready_is k ∙ at_ready k (nat_eq k a) ∙ sym (ap (is_ready image) (get_changed nodes a y k lt));
  running_is = λ k. running_is k ∙ at_running k (nat_eq k a) ∙ sym (ap is_running (get_changed nodes a y k lt));
}
  where
    at_ready : (k : ℕ) (t : Bool) → (if t then is_ok may else is_marked ready k) ≡ is_ready image (if t then Some y else slice_get nodes k)
    at_ready k true = ap is_ok may_is
    at_ready k false = are.ready_is k

    at_running : (k : ℕ) (t : Bool) → (if t then is_running_by may else is_marked running k) ≡ is_running (if t then Some y else slice_get nodes k)
    at_running k true = ap is_running_by may_is ∙ runs_by image y.local.processor
    at_running k false = are.running_is k

-- ---- the first marks

-- the nodes below this one are marked
pub record MarkedTo (image : ImageState) (nodes : List (Seat KeptNode)) (n ready running : ℕ) : Type 0 where
  pub ready_is : (k : ℕ) → is_marked ready k ≡ (if nat_lt k n then is_ready image (slice_get nodes k) else false)
  pub running_is : (k : ℕ) → is_marked running k ≡ (if nat_lt k n then is_running (slice_get nodes k) else false)

none_below : (k : ℕ) (x : Bool) → false ≡ (if nat_lt k 0 then x else false)
none_below k x = let no : nat_lt k 0 ≡ false = grind (arith, nat_tests) in sym (ap (λ t. cond t x false) no)

pub none_marked_yet : (image : ImageState) (nodes : List (Seat KeptNode)) → MarkedTo image nodes 0 0 0
none_marked_yet image nodes = record {
  ready_is = λ k. none_marked k ∙ none_below k (is_ready image (slice_get nodes k));
  running_is = λ k. none_marked k ∙ none_below k (is_running (slice_get nodes k));
}

one_more_mark : (word word' n : ℕ) (on : Bool) (f : ℕ → Bool) → ((k : ℕ) → is_marked word k ≡ (if nat_lt k n then f k else false)) → on ≡ f n → ((k : ℕ) → is_marked word' k ≡ (if nat_eq k n then on else is_marked word k)) →
    (k : ℕ) → is_marked word' k ≡ (if nat_lt k (n + 1) then f k else false)
one_more_mark word word' n on f before on_is after k = after k ∙ at (nat_eq k n) refl
  where
    at : (t : Bool) → nat_eq k n ≡ t → (if t then on else is_marked word k) ≡ (if nat_lt k (n + 1) then f k else false)
    at true is =
        let same : k ≡ n = grind (arith, nat_tests) in
        let lt : nat_lt k (n + 1) ≡ true = grind (arith, nat_tests) in
        on_is ∙ ap f (sym same) ∙ sym (ap (λ t. cond t (f k) false) lt)
    at false is =
        let same : nat_lt k n ≡ nat_lt k (n + 1) = grind (arith, nat_tests) in
        before k ∙ ap (λ t. cond t (f k) false) same

pub marked_more : (image : ImageState) (nodes : List (Seat KeptNode)) (n : ℕ) (x : Seat KeptNode) (may : Result (Unit {0}) NotEnabled) (ready running ready' running' : ℕ) → MarkedTo image nodes n ready running → slice_get nodes n ≡ Some x →
    may ≡ may_act image x.local.processor →
    ((k : ℕ) → is_marked ready' k ≡ (if nat_eq k n then is_ok may else is_marked ready k)) → ((k : ℕ) → is_marked running' k ≡ (if nat_eq k n then is_running_by may else is_marked running k)) →
    MarkedTo image nodes (n + 1) ready' running'
marked_more image nodes n x may ready running ready' running' are there may_is ready_is running_is = record {
  ready_is = one_more_mark ready ready' n (is_ok may) (λ k. is_ready image (slice_get nodes k)) are.ready_is (ap is_ok may_is ∙ sym (ap (is_ready image) there)) ready_is;
  running_is = one_more_mark running running' n (is_running_by may) (λ k. is_running (slice_get nodes k)) are.running_is (ap is_running_by may_is ∙ runs_by image x.local.processor ∙ sym (ap is_running there)) running_is;
}

none_there : {X : Type 0} → (xs : List X) (k : ℕ) → length xs ≤ k → slice_get xs k ≡ None
none_there [] k out = refl
none_there (x ∷ xs) zero out = absurd (omega arith)
none_there (x ∷ xs) (suc k) out = none_there xs k (omega arith)

pub all_marked : (image : ImageState) (nodes : List (Seat KeptNode)) (n ready running : ℕ) → length nodes ≤ n → MarkedTo image nodes n ready running → AreMarked image nodes ready running
all_marked image nodes n ready running all are = record {
  ready_is = λ k. are.ready_is k ∙ at k (nat_lt k n) refl (is_ready image) refl;
  running_is = λ k. are.running_is k ∙ at k (nat_lt k n) refl is_running refl;
}
  where
    at : (k : ℕ) (t : Bool) → nat_lt k n ≡ t → (f : Option (Seat KeptNode) → Bool) → f None ≡ false → (if t then f (slice_get nodes k) else false) ≡ f (slice_get nodes k)
    at k true lt f none = refl
    at k false lt f none =
        let out : length nodes ≤ k = grind (arith, nat_tests) in
        sym (ap f (none_there nodes k out) ∙ none)
