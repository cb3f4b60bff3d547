-- What the parts of a request make of it, case by case, and what the machine of functions makes of them.
use Rattle.std.proofs.Common.{◌≡◌, ◌≢◌, ℕ, Bool, true, false, cond, nat_eq, refl, sym, ap, ◌∙◌, subst, Option, None, Some}
use Rattle.std.specs.Prelude.{if◌then◌else◌}
use Rattle.og_line.specs.declared.Line.{Line}
use Rattle.og_line.specs.declared.Mode.{Mode}
use Rattle.og_line.specs.declared.Mode.TheVariants as mode
use Rattle.og_image.specs.Image.{ImageState}
use Rattle.og_block.specs.State.{Copy, Shared}
use Rattle.og_cache.specs.Cache.{look_of}
use Rattle.og_request.specs.declared.Want.{Want}
use Rattle.og_request.specs.declared.Want.TheVariants.{Read, ReadEx, Upgrade}
use Rattle.og_request.specs.declared.Reply.{Reply}
use Rattle.og_request.specs.declared.Reply.TheVariants.{Shared as SharedPart, Exclusive as ExclusivePart, Speculative as SpeculativePart, Upgrade as UpgradePart, Nak as NakPart, PoisonError as PoisonErrorPart}
use Rattle.og_request.specs.declared.Response.{Response}
use Rattle.og_request.specs.declared.Response.TheVariants.{Shared as SharedLine, Exclusive as ExclusiveLine, OwnerAck as HomeLineIsGood}
use Rattle.og_request.specs.declared.Outcome.{Outcome as RealOutcome}
use Rattle.og_request.specs.declared.Outcome.TheVariants.{Waiting, Filled, Again, Poisoned}
use Rattle.og_request.specs.Request.{Requested, outcome_by, outcome_of}
use Rattle.og_victim.specs.Slot.{is_slot_of}
use Rattle.og_processor.specs.State.{ProcessorState}
use Rattle.og_processor.specs.Take.{put_line, goes_on}
use Rattle.og_relate.specs.Node.{Outcome, Waits, ReadsShared, ReadsClean, Writes, TriesAgain, Drops, Forgets, outcome, outcome_made, settle_made, settle_by, settle}
use Rattle.og_seen.specs.Numbers.{Sizes, setup_seen}
use Rattle.og_seen.specs.Caches.{copy_seen, cache_seen}
use Rattle.og_seen.specs.Messages.{frame_of_block}
use Rattle.og_seen.specs.Harts.{access_of, only_reads, harts_seen}
use Rattle.og_seen.specs.Processors.{want_seen, got_seen, response_seen, request_seen, hart_seen, cpu_seen}
use Rattle.og_seen.specs.Sound.{AreSizes, IsProcessorOf}
use Rattle.og_refine_requester.proofs.Facts.{copy_at}
use Rattle.og_refine_requester.proofs.Fills.{IsPut, put_mode, put_filled}
use Rattle.og_refine_requester.proofs.Settle.{Agrees, wait, there, writes_over, reads_over, again_over, drops_over, forgets_over, waits_on}

module _ (image : ImageState) (s : Sizes) (p : ℕ) (x : ProcessorState) (t r : Requested) (sizes : AreSizes s) (is : IsProcessorOf image s x) (rq : x.request ≡ Some t) (rb : r.block ≡ t.block) (slot : is_slot_of x.victim r.block ≡ false)
    (reads : r.want ≡ Read → only_reads (access_of image (hart_seen x)) ≡ true) (upgraded : (n : ℕ) → r.reply ≡ Some (UpgradePart n) → (l : Line) × (look_of x.cache r.block ≡ Some (mode.Shared, l))) where
  -- what is to be shown of an outcome
  abbrev Goal : RealOutcome → Outcome Line → Type 0
  Goal o seen = Agrees image s p x (goes_on image x r o) (settle_by (setup_seen s) (harts_seen image s) p (frame_of_block s r.block) r.block.number (cpu_seen s (record x { request = Some r })) (request_seen s r) seen)
      (outcome_made (harts_seen image s) (cpu_seen s (record x { request = Some r })) r.block.number seen)

  -- the block is filled
  put : (m : Mode) (l : Line) → IsPut s x.cache (put_line x.cache r.block m (Some l)) r.block m l
  put m l = put_filled s x.cache r.block m l is.cache (there image s p x t r sizes is rq rb slot).0 (wait image s p x t r sizes is rq rb slot).place

  -- a request that waits for more
  waits : Goal Waiting Waits
  waits = waits_on image s p x t r sizes is rq rb slot

  -- the hart asks again
  again : (w : Want) → r.want ≡ w → w ≢ Upgrade → Goal Again TriesAgain
  again w e other = again_over image s p x t r sizes is rq rb slot (λ u. other (sym e ∙ u))

  -- a shared fill
  shared : (l : Line) → r.want ≡ Read → Goal (Filled mode.Shared (Some l)) (ReadsShared l)
  shared l e = reads_over image s p x t r sizes is rq rb slot mode.Shared l (reads e) (put mode.Shared l)

  -- a clean fill
  clean : (l : Line) → r.want ≡ Read → Goal (Filled mode.Clean (Some l)) (ReadsClean l)
  clean l e = reads_over image s p x t r sizes is rq rb slot mode.Clean l (reads e) (put mode.Clean l)

  -- a fill that is written
  writes : (l : Line) → Goal (Filled mode.Dirty (Some l)) (Writes l)
  writes l = writes_over image s p x t r sizes is rq rb slot (Some l) l (put mode.Dirty l)

  -- an upgrade that is filled by its own copy
  upgrades : (l : Line) → look_of x.cache r.block ≡ Some (mode.Shared, l) → Goal (Filled mode.Dirty None) (Writes l)
  upgrades l e = writes_over image s p x t r sizes is rq rb slot None l (put_mode s x.cache r.block mode.Shared mode.Dirty l is.cache (there image s p x t r sizes is rq rb slot).0 e)

  -- the page has moved away
  forgets : Goal Poisoned Forgets
  forgets = forgets_over image s p x t r sizes is rq rb slot

  -- a refused upgrade drops its copy
  drops : r.want ≡ Upgrade → Goal Again Drops
  drops e = drops_over image s p x t r sizes is rq rb slot e

  -- a fill once all acknowledgements are there
  counted : (line : Option Line) (l : Line) → Goal (Filled mode.Dirty line) (Writes l) → (u : Bool) → Goal (if u then Filled mode.Dirty line else Waiting) (cond u (Writes l) Waits)
  counted line l g true = g
  counted line l g false = waits

  -- an upgrade that was granted, by its copy
  upgraded_by : (n : ℕ) (l : Line) → look_of x.cache r.block ≡ Some (mode.Shared, l) → (c : Copy Line) → c ≡ Shared l → (res : Option Response) →
      Goal (outcome_by Upgrade r.marked (Some (UpgradePart n)) res r.acks) (outcome (want_seen Upgrade r.marked) (got_seen (Some (UpgradePart n))) (response_seen res) r.acks c)
  upgraded_by n l e c ce res = subst (λ (c : Copy Line). Goal (outcome_by Upgrade r.marked (Some (UpgradePart n)) res r.acks) (outcome (want_seen Upgrade r.marked) (got_seen (Some (UpgradePart n))) (response_seen res) r.acks c)) (sym ce)
      (counted None l (upgrades l e) (nat_eq r.acks n))

  -- by what is wanted, the mark and the parts
  by : (w : Want) (m : Bool) (rep : Option Reply) (res : Option Response) → r.want ≡ w → r.reply ≡ rep →
      Goal (outcome_by w m rep res r.acks) (outcome (want_seen w m) (got_seen rep) (response_seen res) r.acks (cache_seen s x.cache (frame_of_block s r.block) r.block.number))
  by Read true None res ew er = waits
  by Read false None res ew er = waits
  by Read true (Some (SharedPart l)) res ew er = again Read ew (λ e. absurd (cc))
  by Read false (Some (SharedPart l)) res ew er = shared l ew
  by Read true (Some (ExclusivePart l n)) res ew er = clean l ew
  by Read false (Some (ExclusivePart l n)) res ew er = clean l ew
  by Read true (Some (SpeculativePart l)) None ew er = waits
  by Read true (Some (SpeculativePart l)) (Some (SharedLine v)) ew er = again Read ew (λ e. absurd (cc))
  by Read true (Some (SpeculativePart l)) (Some (ExclusiveLine v)) ew er = waits
  by Read true (Some (SpeculativePart l)) (Some HomeLineIsGood) ew er = again Read ew (λ e. absurd (cc))
  by Read false (Some (SpeculativePart l)) None ew er = waits
  by Read false (Some (SpeculativePart l)) (Some (SharedLine v)) ew er = shared v ew
  by Read false (Some (SpeculativePart l)) (Some (ExclusiveLine v)) ew er = waits
  by Read false (Some (SpeculativePart l)) (Some HomeLineIsGood) ew er = shared l ew
  by Read true (Some (UpgradePart n)) res ew er = waits
  by Read false (Some (UpgradePart n)) res ew er = waits
  by Read true (Some NakPart) res ew er = again Read ew (λ e. absurd (cc))
  by Read false (Some NakPart) res ew er = again Read ew (λ e. absurd (cc))
  by Read true (Some PoisonErrorPart) res ew er = forgets
  by Read false (Some PoisonErrorPart) res ew er = forgets
  by ReadEx m None res ew er = waits
  by ReadEx m (Some (SharedPart l)) res ew er = waits
  by ReadEx m (Some (ExclusivePart l n)) res ew er = counted (Some l) l (writes l) (nat_eq r.acks n)
  by ReadEx m (Some (SpeculativePart l)) None ew er = waits
  by ReadEx m (Some (SpeculativePart l)) (Some (SharedLine v)) ew er = waits
  by ReadEx m (Some (SpeculativePart l)) (Some (ExclusiveLine v)) ew er = writes v
  by ReadEx m (Some (SpeculativePart l)) (Some HomeLineIsGood) ew er = writes l
  by ReadEx m (Some (UpgradePart n)) res ew er = waits
  by ReadEx m (Some NakPart) res ew er = again ReadEx ew (λ e. absurd (cc))
  by ReadEx m (Some PoisonErrorPart) res ew er = forgets
  by Upgrade m None res ew er = waits
  by Upgrade m (Some (SharedPart l)) res ew er = waits
  by Upgrade m (Some (ExclusivePart l n)) res ew er = counted (Some l) l (writes l) (nat_eq r.acks n)
  by Upgrade m (Some (SpeculativePart l)) res ew er = waits
  by Upgrade m (Some (UpgradePart n)) res ew er = let u = upgraded n er in upgraded_by n u.0 u.1 (cache_seen s x.cache (frame_of_block s r.block) r.block.number) (copy_at s x.cache r.block (there image s p x t r sizes is rq rb slot).0 ∙ ap copy_seen u.1) res
  by Upgrade m (Some NakPart) res ew er = drops ew
  by Upgrade m (Some PoisonErrorPart) res ew er = forgets

  -- whatever the parts make of the request, the machine of functions makes it of them
  pub settled : Agrees image s p x (goes_on image x r (outcome_of r)) (settle (setup_seen s) (harts_seen image s) p (frame_of_block s r.block) r.block.number (cpu_seen s (record x { request = Some r })) (request_seen s r))
      (settle_made (harts_seen image s) (frame_of_block s r.block) r.block.number (cpu_seen s (record x { request = Some r })) (request_seen s r))
  unfolding outcome_of
  settled = by r.want r.marked r.reply r.response refl refl
