-- An intervention that a request held is answered by the copy as the machine of functions answers it.
use Rattle.std.proofs.Common.{◌≡◌, ℕ, ◌/◌, Bool, true, false, refl, sym, ap, ◌∙◌, subst, Option, None, Some, List, [], ◌∷◌}
use Rattle.std.specs.Prelude.{if◌then◌else◌}
use Rattle.og_base.specs.declared.Block.{Block}
use Rattle.og_line.specs.declared.Line.{Line}
use Rattle.og_line.specs.declared.Mode.{Mode}
use Rattle.og_line.specs.declared.Mode.TheVariants as mode
use Rattle.og_block.specs.State.{Copy, NoCopy, Shared}
use Rattle.og_pages.specs.State.{put_pair}
use Rattle.og_cache.specs.Cache.{Cached, IsCache, look_of, with_mode, without}
use Rattle.og_cache.proofs.Seen.{mode_laws}
use Rattle.og_request.specs.declared.Held.{Held}
use Rattle.og_request.specs.declared.Held.TheVariants.{Shared as ShareWith, Exclusive as GiveTo, Poison as GiveBack}
use Rattle.og_owner.specs.Owner.{answers, after_intervention}
use Rattle.og_victim.specs.Slot.{is_slot_of, after_intervention as slot_after}
use Rattle.og_processor.specs.State.{ProcessorState, becomes, sends}
use Rattle.og_processor.specs.Take.{answers_held}
use Rattle.og_relate.specs.Data.{Kind as SeenKind, Post, Cpu, KSharedResponse, KExclusiveResponse, KOwnerAck, KSharingWriteBack, KSharingTransfer, KDirtyTransfer, KPoisonBack, KPoisonClean}
use Rattle.og_relate.specs.Steps.{letter as post}
use Rattle.og_relate.specs.Node.{answer_by}
use Rattle.og_seen.specs.Numbers.{Sizes, is_there}
use Rattle.og_seen.specs.Caches.{copy_seen, cache_seen}
use Rattle.og_seen.specs.Messages.{frame_of_block}
use Rattle.og_seen.specs.Harts.{Hart}
use Rattle.og_seen.specs.Processors.{intervention_seen, held_seen, cpu_seen}
use Rattle.og_seen.proofs.Caches.{take_out_seen, mode_seen}
use Rattle.og_refine_requester.proofs.Facts.{put_again, home_is, copy_at}
use Rattle.og_refine_requester.proofs.Drops.{IsSeen, stays_seen}

-- of the processor only the cache changed
with_cache : (s : Sizes) (x : ProcessorState) (cache : Cached) (c : ℕ → ℕ → Copy Line) → cache_seen s cache ≡ c → cpu_seen s (record x { cache = cache }) ≡ record (cpu_seen s x) { cache = c }
with_cache s x cache c e = ap (λ (c : ℕ → ℕ → Copy Line). record (cpu_seen s x) { cache = c }) e

module _ (s : Sizes) (p : ℕ) (x : ProcessorState) (b : Block) (is : IsCache x.cache) (t : is_there s b.frame ≡ true) where
  -- a letter to the requester, and one to the home
  two : (r : ℕ) (one other : SeenKind Line) → (post p r one ∷ post p b.frame.home other ∷ []) ≡ (post p r one ∷ post p (frame_of_block s b / s.frames) other ∷ [])
  two r one other = ap (λ (h : ℕ). post p r one ∷ post p h other ∷ []) (sym (home_is s b t))

  -- a letter to the home alone
  one_home : (one : SeenKind Line) → (post p b.frame.home one ∷ []) ≡ (post p (frame_of_block s b / s.frames) one ∷ [])
  one_home one = ap (λ (h : ℕ). post p h one ∷ []) (sym (home_is s b t))

  -- the copy is given away
  gone : cpu_seen s (record x { cache = without x.cache b }) ≡ record (cpu_seen s x) { cache = put_pair (cache_seen s x.cache) (frame_of_block s b) b.number NoCopy }
  gone = with_cache s x (without x.cache b) (put_pair (cache_seen s x.cache) (frame_of_block s b) b.number NoCopy) (take_out_seen s x.cache b is t)

  -- the copy is shared
  shared : (old : Mode) (l : Line) → look_of x.cache b ≡ Some (old, l) → cpu_seen s (record x { cache = with_mode x.cache b mode.Shared }) ≡ record (cpu_seen s x) { cache = put_pair (cache_seen s x.cache) (frame_of_block s b) b.number (Shared l) }
  shared old l e = with_cache s x (with_mode x.cache b mode.Shared) (put_pair (cache_seen s x.cache) (frame_of_block s b) b.number (Shared l)) (mode_seen s x.cache b old mode.Shared l is t e)

  -- by the copy
  answered : (h : Held) (o : Option (Mode × Line)) → look_of x.cache b ≡ o →
      IsSeen s p x (sends (record x { cache = after_intervention x.cache b h }) (answers o b h)) (answer_by p (frame_of_block s b / s.frames) (frame_of_block s b) b.number (intervention_seen s h) (cpu_seen s x) (copy_seen o))
  unfolding answers after_intervention
  answered (ShareWith r) None e = record { state = with_cache s x (with_mode x.cache b mode.Shared) (cache_seen s x.cache) (ap (cache_seen s) (mode_laws.absent x.cache b mode.Shared e)); letters = two r (KOwnerAck (frame_of_block s b) b.number) (KSharingTransfer (frame_of_block s b) b.number); note = refl; reserved = refl }
  answered (ShareWith r) (Some (mode.Shared, l)) e = record {
    state = shared mode.Shared l e ∙ ap (λ (c : ℕ → ℕ → Copy Line). record (cpu_seen s x) { cache = c }) (put_again (cache_seen s x.cache) (frame_of_block s b) b.number (Shared l) (copy_at s x.cache b t ∙ ap copy_seen e));
    letters = two r (KOwnerAck (frame_of_block s b) b.number) (KSharingTransfer (frame_of_block s b) b.number);
    note = refl;
    reserved = refl;
  }
  answered (ShareWith r) (Some (mode.Clean, l)) e = record { state = shared mode.Clean l e; letters = two r (KOwnerAck (frame_of_block s b) b.number) (KSharingTransfer (frame_of_block s b) b.number); note = refl; reserved = refl }
  answered (ShareWith r) (Some (mode.Dirty, l)) e = record { state = shared mode.Dirty l e; letters = two r (KSharedResponse (frame_of_block s b) b.number l) (KSharingWriteBack (frame_of_block s b) b.number l); note = refl; reserved = refl }
  answered (GiveTo r) (Some (mode.Dirty, l)) e = record { state = gone; letters = two r (KExclusiveResponse (frame_of_block s b) b.number l) (KDirtyTransfer (frame_of_block s b) b.number); note = refl; reserved = refl }
  answered (GiveTo r) (Some (mode.Clean, l)) e = record { state = gone; letters = two r (KOwnerAck (frame_of_block s b) b.number) (KDirtyTransfer (frame_of_block s b) b.number); note = refl; reserved = refl }
  answered (GiveTo r) (Some (mode.Shared, l)) e = record { state = gone; letters = two r (KOwnerAck (frame_of_block s b) b.number) (KDirtyTransfer (frame_of_block s b) b.number); note = refl; reserved = refl }
  answered (GiveTo r) None e = record { state = gone; letters = two r (KOwnerAck (frame_of_block s b) b.number) (KDirtyTransfer (frame_of_block s b) b.number); note = refl; reserved = refl }
  answered GiveBack (Some (mode.Dirty, l)) e = record { state = gone; letters = one_home (KPoisonBack (frame_of_block s b) b.number l); note = refl; reserved = refl }
  answered GiveBack (Some (mode.Clean, l)) e = record { state = gone; letters = one_home (KPoisonClean (frame_of_block s b) b.number); note = refl; reserved = refl }
  answered GiveBack (Some (mode.Shared, l)) e = record { state = gone; letters = one_home (KPoisonClean (frame_of_block s b) b.number); note = refl; reserved = refl }
  answered GiveBack None e = record { state = gone; letters = one_home (KPoisonClean (frame_of_block s b) b.number); note = refl; reserved = refl }

  -- the slot doesn't hold the block
  pub held_answered : (held : Option Held) → is_slot_of x.victim b ≡ false →
      IsSeen s p x (answers_held x b held) (answer_by p (frame_of_block s b / s.frames) (frame_of_block s b) b.number (held_seen s held) (cpu_seen s x) (cache_seen s x.cache (frame_of_block s b) b.number))
  held_answered None slot = stays_seen s p x
  held_answered (Some h) slot = by (is_slot_of x.victim b) slot
    where
      Answer : Copy Line → Cpu Line Hart × List (Post Line)
      Answer c = answer_by p (frame_of_block s b / s.frames) (frame_of_block s b) b.number (intervention_seen s h) (cpu_seen s x) c

      copied : IsSeen s p x (sends (record x { cache = after_intervention x.cache b h }) (answers (look_of x.cache b) b h)) (Answer (cache_seen s x.cache (frame_of_block s b) b.number))
      copied = subst (λ (c : Copy Line). IsSeen s p x (sends (record x { cache = after_intervention x.cache b h }) (answers (look_of x.cache b) b h)) (Answer c)) (sym (copy_at s x.cache b t)) (answered h (look_of x.cache b) refl)

      by : (u : Bool) → u ≡ false → IsSeen s p x (if u then becomes (record x { victim = slot_after x.victim }) else sends (record x { cache = after_intervention x.cache b h }) (answers (look_of x.cache b) b h)) (Answer (cache_seen s x.cache (frame_of_block s b) b.number))
      by true e = absurd (cc)
      by false e = copied
