-- The mover's lists of frames through the rows that change roles.
use Rattle.std.proofs.Common.{◌≡◌, ℕ, ◌+◌, ◌<◌, ◌≤◌, Bool, true, false, cond, nat_eq, arith, List, [], ◌∷◌, ◌++◌, refl}
use Rattle.std.proofs.lemmas.Bool.Decides.{nat_tests}
use Rattle.og_pages.specs.State.{Role, Free, Mapped, Target, Quarantined, put}
use Rattle.og_pages.specs.Rows.{Move_begin, Publish_page, Frame_free}
use Rattle.og_pages.specs.Invariant.{is_quarantined}
use Rattle.og_pages.specs.Pools.{is_free, occurrences, Pools, IsTaken, FreeListed, QuarantineListed, BeginKeeps, PublishKeeps, ReclaimKeeps, RolesStay}

occurrences_push : (frame x : ℕ) (xs : List ℕ) → occurrences frame (xs ++ x ∷ []) ≡ occurrences frame xs + cond (nat_eq x frame) 1 0
occurrences_push frame x [] = grind arith
occurrences_push frame x (y ∷ ys) = let h = occurrences_push frame x ys in grind arith

listed : (h g k : ℕ) (u : Role) → k ≡ cond (nat_eq g h) (cond (is_free u) 1 0) 0 → 0 < k → (u ≡ Free) × (g ≡ h) × (k ≤ 1)
listed h g k Free e lt = grind (arith, nat_tests)
listed h g k u e lt = absurd (grind (arith, nat_tests))

pub free_listed : FreeListed
free_listed nodes home role free quarantine h frame lh p lt = listed h (home frame) (occurrences frame (free h)) (role frame) (p.free_is h frame lh) lt

pub quarantine_listed : QuarantineListed
quarantine_listed nodes home role free quarantine h frame lh p lt = listed_so h (home frame) (occurrences frame (quarantine h)) (is_quarantined (role frame)) (p.quarantine_is h frame lh) lt
  where
    listed_so : (h g k : ℕ) (t : Bool) → k ≡ cond (nat_eq g h) (cond t 1 0) 0 → 0 < k → (t ≡ true) × (g ≡ h) × (k ≤ 1)
    listed_so h g k true e lt = grind (arith, nat_tests)
    listed_so h g k false e lt = absurd (grind (arith, nat_tests))

pub begin_keeps : {L : Type 0} → BeginKeeps L
begin_keeps pages blocks nodes home s free quarantine frame page new rest g p out = record {
  free_is = λ h f lh. let a = p.free_is h f lh in let c = out f in grind (arith, nat_tests);
  quarantine_is = λ h f lh. let a = p.quarantine_is h f lh in grind (arith, nat_tests);
}

publish : (nodes : ℕ) (home : ℕ → ℕ) (role : ℕ → Role) (free quarantine : ℕ → List ℕ) (old new page : ℕ) → Pools nodes home role free quarantine → role old ≡ Mapped page → role new ≡ Target page →
    Pools nodes home (put (put role old (Quarantined page)) new (Mapped page)) free (put quarantine (home old) (quarantine (home old) ++ old ∷ []))
publish nodes home role free quarantine old new page p e i = record {
  free_is = λ h f lh. let a = p.free_is h f lh in grind (arith, nat_tests);
  quarantine_is = λ h f lh. let a = p.quarantine_is h f lh in let t = occurrences_push f old (quarantine (home old)) in grind (arith, nat_tests);
}

pub publish_keeps : {L : Type 0} → PublishKeeps L
publish_keeps pages blocks nodes home s free quarantine page old new g inv p =
    let j = inv.jobs in publish nodes home s.role free quarantine old new page p (grind arith) (grind arith)

reclaim : (nodes : ℕ) (home : ℕ → ℕ) (role : ℕ → Role) (free quarantine : ℕ → List ℕ) (frame : ℕ) (fewer more : List ℕ) → Pools nodes home role free quarantine → is_quarantined (role frame) ≡ true → IsTaken frame (quarantine (home frame)) fewer → IsTaken frame more (free (home frame)) →
    Pools nodes home (put role frame Free) (put free (home frame) more) (put quarantine (home frame) fewer)
reclaim nodes home role free quarantine frame fewer more p e out into = record {
  free_is = λ h g lh. let a = p.free_is h g lh in let t = into g in grind (arith, nat_tests);
  quarantine_is = λ h g lh. let a = p.quarantine_is h g lh in let t = out g in grind (arith, nat_tests);
}

pub reclaim_keeps : {L : Type 0} → ReclaimKeeps L
reclaim_keeps pages blocks nodes home s free quarantine frame fewer more g inv p out into =
    let j = inv.jobs in reclaim nodes home s.role free quarantine frame fewer more p (grind arith) out into

pub roles_stay : {L : Type 0} → RolesStay L
roles_stay s (Move_begin frame page new) e = absurd (cc)
roles_stay s (Publish_page page old new) e = absurd (cc)
roles_stay s (Frame_free frame) e = absurd (cc)
roles_stay s row e = refl
