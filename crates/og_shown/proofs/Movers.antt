-- What the mover waits for is in flight, or a node keeps it.
use Rattle.std.proofs.Common.{◌≡◌, ◌≢◌, ℕ, ◌+◌, ◌<◌, true, arith, ◌⊎◌, inl, inr, refl, ◌∙◌, ap, subst, None}
use Rattle.og_pages.specs.State.{Job, Command, NoCommand, Drop, NoDrop}
use Rattle.og_pages.specs.Claims.{Awaited}
use Rattle.og_pages.proofs.Safe.{waits}
use Rattle.og_whole.specs.Events.{World}
use Rattle.og_whole.proofs.Runs.{reached}
use Rattle.og_relate.specs.Data.{MoverJob, MWait, MGather, MCleaning, Machine, Harts, Setup}
use Rattle.og_relate.specs.Places.{CommandAt, DropAt, Has, kept, is_given, is_dropping}
use Rattle.og_relate.specs.Sim.{Sim, job_of}
use Rattle.og_relate.proofs.Parts.{apart_number}

dropping : (d : Drop) → d ≢ NoDrop → is_dropping d ≡ true
dropping NoDrop ne = absurd (ne refl)
dropping d ne = refl

module _ {L : Type 0} where
  given : (c : Command L) → c ≢ NoCommand → is_given c ≡ true
  given NoCommand ne = absurd (ne refl)
  given c ne = refl

module _ {L : Type 0} {H : Type 0} where
  -- what the job waits for is there
  awaited : (s : Setup) (harts : Harts L H) (m : Machine L H) (w : World L) (job : MoverJob L) → Sim s harts m w → m.mover.job ≡ job → Awaited w.pages (job_of job)
  awaited s harts m w job sim e = subst (λ (j : Job L). Awaited w.pages j) (sim.mover.job ∙ ap job_of e) (waits s.pages s.blocks w.pages (reached (s.nodes + 1) s.nodes s.pages s.blocks w sim.reached).of_pages)

  -- no actor keeps a message between the mover and a home
  command_flies : (s : Setup) (harts : Harts L H) (m : Machine L H) (w : World L) → Sim s harts m w → w.pages.command ≢ NoCommand → Has s.nodes m.flight CommandAt
  command_flies s harts m w sim ne = elim (sim.found CommandAt tt (given w.pages.command ne)) [ inl h ↦ absurd (h refl) | inr h ↦ h ]

  pub copy_waits : (s : Setup) (harts : Harts L H) (m : Machine L H) (w : World L) (y o n k : ℕ) → Sim s harts m w → m.mover.job ≡ MWait y o n k → Has s.nodes m.flight CommandAt
  copy_waits s harts m w y o n k sim e = command_flies s harts m w sim (awaited s harts m w (MWait y o n k) sim e)

  pub cleaning_waits : (s : Setup) (harts : Harts L H) (m : Machine L H) (w : World L) (f : ℕ) → Sim s harts m w → m.mover.job ≡ MCleaning f → Has s.nodes m.flight CommandAt
  cleaning_waits s harts m w f sim e = command_flies s harts m w sim (awaited s harts m w (MCleaning f) sim e)

  pub gather_waits : (s : Setup) (harts : Harts L H) (m : Machine L H) (w : World L) (f q : ℕ) → Sim s harts m w → m.mover.job ≡ MGather f → m.mover.holders f q ≡ true → (q < s.nodes) × (Has s.nodes m.flight (DropAt q) ⊎ ((m.cpu q).drop ≢ None))
  gather_waits s harts m w f q sim e h = (lq, elim (sim.found (DropAt q) lq (dropping (w.pages.drop q) (awaited s harts m w (MGather f) sim e q (sim.mover.holders f q ∙ h)))) [ inl k ↦ inr (λ none. k (not_kept none)) | inr k ↦ inl k ])
    where
      lq : q < s.nodes
      lq = sim.mover.holder_is f q h

      not_kept : (m.cpu q).drop ≡ None → kept s.nodes m.cpu m.mover (DropAt q) ≡ None
      not_kept none = let np = apart_number s.nodes q lq in grind arith
