-- Each message of a block meets an event of the whole.
use Rattle.std.proofs.Common.{◌≡◌, ℕ, ◌<◌, false, true, ◌≢◌, ◌⊎◌, inl, inr}
use Rattle.std.proofs.lemmas.Bool.{cases_eq, cases_Bool}
use Rattle.og_block.specs.State.{Block}
use Rattle.og_block.specs.Rows.{Row as BlockRow, actor_of, Send_read, Send_read_exclusive, Send_upgrade, Send_poison_read, Copy_in}
use Rattle.og_block.specs.Roles.{Allowed}
use Rattle.og_block.specs.Invariant.{Local}
use Rattle.og_block.specs.Message.{Message as BlockMessage, Stands, MeetsRow}
use Rattle.og_block.proofs.Meets.{served as block_served}
use Rattle.og_pages.specs.State.{Collect, Collecting}
use Rattle.og_whole.specs.Kind.{Kind, Fills, Fills_store, Ends, Settles, Collects, Inner, kind, phase_of, is_idle, is_act, Finds}
use Rattle.og_whole.specs.Events.{World, Asked}
use Rattle.og_whole.specs.Link.{Invariant}
use Rattle.og_whole.specs.Claims.{MeetsEvent, BlocksServed}
use Rattle.og_whole.proofs.SeenRequester.{IsOutstanding, outstanding, act_leaves}
use Rattle.og_whole.proofs.SeenFinds.{row_finds}
use Rattle.og_whole.proofs.Served.{collect_of, request_of, mover_collects}

-- the parts of nodes and mover ask nothing of a row that is no act
not_act : {L : Type 0} → (mover : ℕ) (b : Block L) (r : BlockRow L) → is_act (kind r) ≡ false → Allowed mover r b
not_act mover b (Send_read p) e = absurd (cc)
not_act mover b (Send_read_exclusive p) e = absurd (cc)
not_act mover b (Send_upgrade p l) e = absurd (cc)
not_act mover b (Send_poison_read p) e = absurd (cc)
not_act mover b (Copy_in p v) e = absurd (cc)
not_act mover b r e = tt

module _ {L : Type 0} (actors mover pages blocks : ℕ) (w : World L) (inside : mover < actors) (inv : Invariant L actors mover pages blocks w) where
  -- what the mover has outstanding for a block is its job's
  job_of : (f k p : ℕ) → k < blocks → p ≡ mover → is_idle ((w.block f k).want p) ≡ false → (page : ℕ) × (new : ℕ) × (w.pages.job ≡ Collect page f new k)
  job_of f k p lt same e =
      let l = inv.link f k lt in
      let e' : is_idle ((w.block f k).want mover) ≡ false = cc in
      let h : phase_of mover (w.block f k) ≡ Collecting = mover_collects mover (w.block f k) l.parts.mover e' in
      let x = l.phase_is in
      collect_of pages blocks w.pages f k inv.of_pages lt (cc)

  asked_of : (f k : ℕ) (d : Kind L) → k < blocks → is_act d ≡ false → Finds mover (w.pages.newest f k) d (w.block f k) → IsOutstanding actors d (w.block f k) → (page : ℕ) × (other : ℕ) × Asked mover page other f k d w.pages
  asked_of f k (Fills p) lt act finds out = let r = request_of actors mover pages blocks w p f k inv out.0 finds.1 lt out.1 in (r.0, 0, r.1)
  asked_of f k (Fills_store p line) lt act finds out = let r = request_of actors mover pages blocks w p f k inv out.0 finds.1 lt out.1 in (r.0, 0, r.1)
  asked_of f k (Ends p) lt act finds out = by (cases_eq p mover)
    where
      by : (p ≡ mover) ⊎ (p ≢ mover) → (page : ℕ) × (other : ℕ) × Asked mover page other f k (Ends p) w.pages
      by (inl same) = let j = job_of f k p lt same out.1 in (j.0, j.1, ((λ e. j.2), (λ ne. absurd (ne same))))
      by (inr ne) = let r = request_of actors mover pages blocks w p f k inv out.0 ne lt out.1 in (r.0, 0, ((λ same. absurd (ne same)), (λ e. r.1)))
  asked_of f k (Collects p line) lt act finds out = let j = job_of f k p lt finds.1 out.1 in (j.0, j.1, j.2)
  asked_of f k (Settles p) lt act finds out = (0, 0, tt)
  asked_of f k Inner lt act finds out = (0, 0, tt)
  asked_of f k d lt act finds out = absurd (cc)

  meets : (f k : ℕ) (m : BlockMessage L) → k < blocks → Stands actors (w.block f k) m → MeetsRow actors (w.block f k) m → MeetsEvent L actors mover pages blocks w f k m
  meets f k m lt s r = by (cases_Bool (is_act (kind r.row)))
    where
      at : Local actors (w.pages.newest f k) (w.block f k) (actor_of r.row)
      at = (inv.link f k lt).invariant.each (actor_of r.row) r.inside

      event : is_act (kind r.row) ≡ false → MeetsEvent L actors mover pages blocks w f k m
      event act =
          let l = inv.link f k lt in
          let finds = row_finds actors (w.pages.newest f k) mover (w.block f k) r.row r.may (not_act mover (w.block f k) r.row act) l.invariant r.inside inside l.invariant.home at (l.invariant.each mover inside) l.parts.mover (l.parts.plain (actor_of r.row) r.inside) l.parts.ends l.parts.reply in
          let a = asked_of f k (kind r.row) lt act finds (outstanding actors (w.pages.newest f k) (w.block f k) r.row r.may r.inside at) in
          record { page = a.0; other = a.1; row = r.row; may = (r.may, r.inside, lt, a.2); taken = r.taken }

      by : (is_act (kind r.row) ≡ true) ⊎ (is_act (kind r.row) ≡ false) → MeetsEvent L actors mover pages blocks w f k m
      by (inl act) = absurd (r.taken (act_leaves actors (w.pages.newest f k) (w.block f k) r.row m r.may at act s))
      by (inr act) = event act

  pub blocks_served : BlocksServed L actors mover pages blocks w
  blocks_served f k m lt s = let l = inv.link f k lt in elim (block_served actors (w.pages.newest f k) mover (w.block f k) l.invariant l.parts inside m s) [ inl r ↦ inl (meets f k m lt s r) | inr waits ↦ inr waits ]
