-- From views to the histories that the theorem speaks of.
use Rattle.std.proofs.Common.{◌≡◌, ℕ, zero, suc, ◌+◌, ◌≤◌, Bool, true, false, cond, nat_eq, arith, refl, sym, subst, List, [], ◌∷◌, length, slice_get, Option, None, Some, ap}
use Rattle.std.proofs.Math.Path.{◌∙◌}
use Rattle.std.proofs.lemmas.Bool.Decides.{nat_tests}
use Rattle.og_runs.specs.declared.Msg.{Msg}
use Rattle.og_runs.specs.declared.Event.{Event}
use Rattle.og_runs.specs.Runs.{Rules, History, Histories, Local, start_history, start, LogsLead, EachTaken, Consistent, joined, IsSorted, choices}
use Rattle.og_runs.specs.World.{World, Shows}
use Rattle.og_runs.specs.Views.{View, LocalViews, sent_list, TakenOnce, ConsistentViews, logs_of, taken_list}
use Rattle.og_runs.proofs.RunLaws.{start_sound}
use Rattle.og_runs.proofs.Shown.{DataRun}
use Rattle.og_runs.proofs.Whole.{sorted_logs}

-- where the logs end
abbrev pub ends : {A K N : Type 0} → (r : Rules A K N) (f : ℕ → A) (k : ℕ) (vs : List (View K N)) → LocalViews r f k vs → Histories A K
ends r f k [] h a = start_history (f a)
ends r f k (v ∷ vs) h a = cond (nat_eq k a) h.0.0 (ends r f (suc k) vs h.1 a)

eq_self : (a : ℕ) → nat_eq a a ≡ true
eq_self a = grind (arith, nat_tests)

pub ends_lists : {A K N : Type 0} → (r : Rules A K N) (f : ℕ → A) (k : ℕ) (vs : List (View K N)) (h : LocalViews r f k vs) (j a : ℕ) → a ≡ k + j →
    ((ends r f k vs h a).sent ≡ sent_list (slice_get vs j)) × ((ends r f k vs h a).taken ≡ taken_list (slice_get vs j))
ends_lists r f k [] h j a e = (refl, refl)
ends_lists {A} {K} r f k (v ∷ vs) h zero a e =
    let same : nat_eq k a ≡ true = grind (arith, nat_tests) in
    let one : cond (nat_eq k a) h.0.0 (ends r f (suc k) vs h.1 a) ≡ h.0.0 = ap (λ (w : Bool). cond w h.0.0 (ends r f (suc k) vs h.1 a)) same in
    (ap (λ (p : History A K). p.sent) one ∙ h.0.2, ap (λ (p : History A K). p.taken) one ∙ h.0.3)
ends_lists {A} {K} r f k (v ∷ vs) h (suc j) a e =
    let other : nat_eq k a ≡ false = grind (arith, nat_tests) in
    let one : cond (nat_eq k a) h.0.0 (ends r f (suc k) vs h.1 a) ≡ ends r f (suc k) vs h.1 a = ap (λ (w : Bool). cond w h.0.0 (ends r f (suc k) vs h.1 a)) other in
    let t : ((ends r f (suc k) vs h.1 a).sent ≡ sent_list (slice_get vs j)) × ((ends r f (suc k) vs h.1 a).taken ≡ taken_list (slice_get vs j)) = ends_lists r f (suc k) vs h.1 j a (omega (arith, e)) in
    (ap (λ (p : History A K). p.sent) one ∙ t.0, ap (λ (p : History A K). p.taken) one ∙ t.1)

ends_logs : {A K N : Type 0} → (r : Rules A K N) (f : ℕ → A) (k : ℕ) (vs : List (View K N)) (h : LocalViews r f k vs) (t : Histories A K) → ((a : ℕ) → k ≤ a → ends r f k vs h a ≡ t a) → LogsLead r (start f) k (logs_of vs) t
ends_logs r f k [] h t e = e
ends_logs {A} {K} {N} r f k (v ∷ vs) h t e =
    let first : h.0.0 ≡ t k = ap (λ (w : Bool). cond w h.0.0 (ends r f (suc k) vs h.1 k)) (sym (eq_self k)) ∙ e k (omega arith) in (
      subst (λ (p : History A K). Local r k (start_history (f k)) v.log p) first h.0.1,
      ends_logs r f (suc k) vs h.1 t (λ a le. let other : nat_eq k a ≡ false = grind (arith, nat_tests) in ap (λ (w : Bool). cond w h.0.0 (ends r f (suc k) vs h.1 a)) (sym other) ∙ e a (omega arith)),
    )

each_taken_view : {A K N : Type 0} → (t : Histories A K) (vs : List (View K N)) (a : ℕ) → ((b : ℕ) → (t b).sent ≡ sent_list (slice_get vs b)) → (ms : List (Msg K)) → TakenOnce vs a ms → EachTaken t a ms
each_taken_view t vs a e [] h = tt
each_taken_view {A} {K} t vs a e (m ∷ ms) h = (ap (λ (z : List (Msg K)). slice_get z m.id.seq) (e m.id.sender) ∙ h.0, h.1, h.2, each_taken_view t vs a e ms h.3)

pub views_consistent : {A K N : Type 0} → (r : Rules A K N) (f : ℕ → A) (vs : List (View K N)) (h : LocalViews r f 0 vs) → ConsistentViews vs → Consistent (ends r f 0 vs h)
views_consistent {A} {K} {N} r f vs h all a =
    let l : ((ends r f 0 vs h a).sent ≡ sent_list (slice_get vs a)) × ((ends r f 0 vs h a).taken ≡ taken_list (slice_get vs a)) = ends_lists r f 0 vs h a a (omega arith) in
    each_taken_view (ends r f 0 vs h) vs a (λ b. (ends_lists r f 0 vs h b b (omega arith)).0) (ends r f 0 vs h a).taken (subst (λ (z : List (Msg K)). TakenOnce vs a z) (sym l.1) (once (slice_get vs a) refl))
  where
    once : (o : Option (View K N)) → slice_get vs a ≡ o → TakenOnce vs a (taken_list o)
    once None e = tt
    once (Some v) e = all a v e

-- logs with their sent and taken lists, local and consistent, sorted, are a run of the machine from its start
pub sorted_views : {A K N : Type 0} → (r : Rules A K N) (f : ℕ → A) (w : World A K) (vs : List (View K N)) (fs : List (Event N)) → Shows w (start {K = K} f) → length (logs_of vs) ≤ length w.seats →
    (h : LocalViews r f 0 vs) → ConsistentViews vs → IsSorted (joined (logs_of vs)) fs → DataRun r w (choices fs) (ends r f 0 vs h) fs
sorted_views r f w vs fs sh size h all sort = sorted_logs r w (start f) (ends r f 0 vs h) (logs_of vs) fs sh (start_sound f) size (ends_logs r f 0 vs h (ends r f 0 vs h) (λ a le. refl)) (views_consistent r f vs h all) sort
