-- Every event keeps the invariant of the whole.
use Rattle.std.proofs.Common.{◌≡◌, ℕ, ◌<◌, Bool, true, false, cond, nat_eq, arith, ◌≢◌, refl, sym, subst}
use Rattle.std.proofs.lemmas.Bool.Decides.{nat_tests}
use Rattle.og_block.specs.Rows.{apply as block_apply}
use Rattle.og_pages.specs.State.{State as Pages, Live}
use Rattle.og_pages.specs.Invariant.{Invariant as PagesInvariant}
use Rattle.og_pages.proofs.Kept.{kept as pages_kept}
use Rattle.og_whole.specs.Kind.{kind, phase_after}
use Rattle.og_whole.specs.Events.{apply, guard, World, Above, Nothing, Does, above, after_above, Event, Page, On}
use Rattle.og_whole.specs.Link.{Invariant, Link, is_targeted, IsUntouched}
use Rattle.og_whole.proofs.Linked.{phase_here, other, same, others, may}
use Rattle.og_whole.proofs.Above.{MayBeAbove}
use Rattle.og_whole.proofs.Untouched.{page_untouched, role_above, block_untouched}
use Rattle.og_whole.proofs.PageRows.{page_link}

above_kept : {L : Type 0} → (pages blocks : ℕ) (s : Pages L) (d : Above L) → MayBeAbove pages blocks d s → PagesInvariant L pages blocks s → PagesInvariant L pages blocks (after_above d s)
above_kept pages blocks s Nothing g inv = inv
above_kept pages blocks s (Does row) g inv = pages_kept pages blocks s row g inv

pub kept : {L : Type 0} → (actors mover pages blocks : ℕ) (w : World L) (e : Event L) → mover < actors → guard actors mover pages blocks e w → Invariant L actors mover pages blocks w → Invariant L actors mover pages blocks (apply actors mover e w)
kept actors mover pages blocks w (Page row) lm g inv = record {
  of_pages = pages_kept pages blocks w.pages row g.0 inv.of_pages;
  link = λ f k lt. page_link actors mover w.pages (w.block f k) f k row g.1 (inv.link f k lt);
  untouched = λ f k lt. page_untouched pages blocks w.pages (w.block f k) f k row g.0 inv.of_pages lt g.1 (inv.untouched f k lt);
}
kept {L} actors mover pages blocks w (On page o f k r) lm g inv = record {
  of_pages = above_kept pages blocks w.pages (above mover page o f k (kind r)) (may actors mover pages blocks page o f k w.pages (w.block f k) r g.0 g.1 lm g.2 g.3 inv.of_pages (inv.link f k g.2)) inv.of_pages;
  link = λ h j lt. at h j lt (nat_eq h f) (nat_eq j k) refl refl;
  untouched = λ h j lt. entry_at h j lt (nat_eq h f) (nat_eq j k) refl refl;
}
  where
    s' : Pages L
    s' = after_above (above mover page o f k (kind r)) w.pages

    here : (h j : ℕ) → h ≡ f → j ≡ k → Link actors mover s' (block_apply actors r (w.block f k)) h j
    here h j a c = subst (λ (x : ℕ). Link actors mover s' (block_apply actors r (w.block f k)) x j) (sym a) (subst (λ (y : ℕ). Link actors mover s' (block_apply actors r (w.block f k)) f y) (sym c) (same actors mover pages blocks page o f k w.pages (w.block f k) r g.0 g.1 lm g.2 g.3 inv.of_pages (inv.link f k g.2)))

    there : (h j : ℕ) → j < blocks → (h ≡ f → j ≢ k) → Link actors mover s' (w.block h j) h j
    there h j lt ne = others actors mover pages blocks page o f k w.pages (w.block f k) r g.0 g.1 lm g.2 g.3 inv.of_pages (inv.link f k g.2) h j (w.block h j) ne (inv.link h j lt)

    at : (h j : ℕ) → j < blocks → (t u : Bool) → nat_eq h f ≡ t → nat_eq j k ≡ u → Link actors mover s' (cond t (cond u (block_apply actors r (w.block f k)) (w.block h j)) (w.block h j)) h j
    at h j lt true true a c = here h j (grind (arith, nat_tests)) (grind (arith, nat_tests))
    at h j lt true false a c = there h j lt (λ e. grind (arith, nat_tests))
    at h j lt false u a c = there h j lt (λ e. grind (arith, nat_tests))

    phase_is : (h j : ℕ) → s'.phase h j ≡ cond (nat_eq h f) (cond (nat_eq j k) (phase_after mover (kind r) (w.pages.phase h j)) (w.pages.phase h j)) (w.pages.phase h j)
    phase_is h j = phase_here actors mover pages blocks page o f k w.pages (w.block f k) r g.0 g.1 lm g.2 g.3 inv.of_pages (inv.link f k g.2) h j

    entry_here : (h j : ℕ) → h ≡ f → j ≡ k → IsUntouched s' (block_apply actors r (w.block f k)) h j
    entry_here h j a c = λ role live.
        let role' = role_above mover page o f k (kind r) w.pages h in
        let p = phase_is h j in
        let target : is_targeted (w.pages.role f) ≡ true = cc in
        let after : phase_after mover (kind r) (w.pages.phase f k) ≡ Live = now h j a c p live in
        block_untouched actors mover pages blocks w inv page o f k r g.2 g.0 g.1 g.3 target after
      where
        now : (h j : ℕ) → h ≡ f → j ≡ k → s'.phase h j ≡ cond (nat_eq h f) (cond (nat_eq j k) (phase_after mover (kind r) (w.pages.phase h j)) (w.pages.phase h j)) (w.pages.phase h j) → s'.phase h j ≡ Live → phase_after mover (kind r) (w.pages.phase f k) ≡ Live
        now h j a c p live = grind (arith, nat_tests)

    entry_there : (h j : ℕ) → j < blocks → (h ≡ f → j ≢ k) → IsUntouched s' (w.block h j) h j
    entry_there h j lt ne = λ role live.
        let role' = role_above mover page o f k (kind r) w.pages h in
        let p = other f k h j _ _ _ ne (phase_is h j) in
        inv.untouched h j lt (cc) (cc)

    entry_at : (h j : ℕ) → j < blocks → (t u : Bool) → nat_eq h f ≡ t → nat_eq j k ≡ u → IsUntouched s' (cond t (cond u (block_apply actors r (w.block f k)) (w.block h j)) (w.block h j)) h j
    entry_at h j lt true true a c = entry_here h j (grind (arith, nat_tests)) (grind (arith, nat_tests))
    entry_at h j lt true false a c = entry_there h j lt (λ e. grind (arith, nat_tests))
    entry_at h j lt false u a c = entry_there h j lt (λ e. grind (arith, nat_tests))
