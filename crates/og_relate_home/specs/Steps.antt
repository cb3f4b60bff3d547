-- What the homes do with an upgrade, an owner's message, the mover's poisoning and its other commands; with what og_relate says
-- of reads and write-backs that is the homes' whole table (take, below). A function that gives none says that there is no row.
-- Throughout, s is the setup, a the home and h its side, f and k the frame and the number of the block, p the node that asks,
-- q the owner that answers, l the line that comes, and the last entry is the home's for the block.
use Rattle.std.specs.Prelude.{ℕ, zero, suc, Bool, true, false, cond, nat_eq, ◌&&◌, [], ◌∷◌, ◌++◌}
use Rattle.std.proofs.Common.{Option, None, Some}
use Rattle.og_slots.specs.Count.{count}
use Rattle.og_block.specs.State.{Sharing, Single, Grouped, others, is_same}
use Rattle.og_pages.specs.State.{put}
use Rattle.og_relate.specs.Data.{Kind, KRead, KReadEx, KUpgrade, KWriteBack, KExclusiveReply, KUpgradeReply, KNak, KPoisonError, KIntervenePoison, KSharingWriteBack, KPoisonBack, KSharingTransfer, KDirtyTransfer, KPoisonClean, KPoisonRead, KPoisonReply, KCopyIn, KCopyDone, KCleanFrame, KFrameClean, KRearm, HomeEntry, HUnowned, HShared, HExclusive, HBusyShared, HBusyExclusive, HBusyPoison, HPoison, HomeSide, Setup}
use Rattle.og_relate.specs.Steps.{Answer, letter, invalidations, with_entry, with_block, cleaned, notice, and_then, take_read, take_read_exclusive, serve_back}

-- the sharers of a block that its owner shares with a requester; each with all that its bit stands for
abbrev pub shared_by_both : Sharing → (owner requester : ℕ) → ℕ → Bool
shared_by_both sharing o r q = cond (is_same sharing q o) true (is_same sharing q r)

-- an upgrade of p counts where it is granted: else it is answered by a Nak or a PoisonError
abbrev pub upgrade_counts : HomeEntry → ℕ → Bool
upgrade_counts (HShared t) p = t p
upgrade_counts e p = false

abbrev pub is_poisoned : HomeEntry → Bool
is_poisoned HPoison = true
is_poisoned e = false

-- the first n of these
abbrev pub are_poisoned : ℕ → (ℕ → HomeEntry) → Bool
are_poisoned zero entries = true
are_poisoned (suc n) entries = are_poisoned n entries && is_poisoned (entries n)

module _ {L : Type 0} where
  -- the grant of an upgrade; a bit that names a group doesn't show that the node has its copy still, so there it gets the line
  abbrev pub grant : Sharing → (frame number : ℕ) → L → (acks : ℕ) → Kind L
  grant Single f k l acks = KUpgradeReply f k acks
  grant (Grouped g) f k l acks = KExclusiveReply f k l acks

  -- an upgrade of p; none where p is the owner
  abbrev pub serve_upgrade : Setup → ℕ → HomeSide L → ℕ → ℕ → ℕ → HomeEntry → Option (Answer L)
  serve_upgrade s a h f k p (HShared t) = Some (cond (t p) (with_entry h f k (HExclusive p), invalidations a f k p t s.nodes ++ letter a p (grant s.sharing f k (h.line f k) (count s.nodes (others t p))) ∷ []) (h, letter a p (KNak f k) ∷ []))
  serve_upgrade s a h f k p (HExclusive q) = cond (nat_eq q p) None (Some (h, letter a p (KNak f k) ∷ []))
  serve_upgrade s a h f k p HPoison = Some (h, letter a p (KPoisonError f k) ∷ [])
  serve_upgrade s a h f k p e = Some (h, letter a p (KNak f k) ∷ [])

  -- ---- a message of the owner q; none where the home has not asked q just this

  -- q had a dirty copy, and shares it
  abbrev pub serve_sharing_write_back : Setup → HomeSide L → ℕ → ℕ → ℕ → L → HomeEntry → Option (Answer L)
  serve_sharing_write_back s h f k q l (HBusyShared o r) = cond (nat_eq o q) (Some (with_block h f k (HShared (shared_by_both s.sharing o r)) l, [])) None
  serve_sharing_write_back s h f k q l e = None

  -- q had a clean copy, or none
  abbrev pub serve_sharing_transfer : Setup → HomeSide L → ℕ → ℕ → ℕ → HomeEntry → Option (Answer L)
  serve_sharing_transfer s h f k q (HBusyShared o r) = cond (nat_eq o q) (Some (with_entry h f k (HShared (shared_by_both s.sharing o r)), [])) None
  serve_sharing_transfer s h f k q e = None

  -- q gave the block to the requester, which may have written it back since
  abbrev pub serve_dirty_transfer : HomeSide L → ℕ → ℕ → ℕ → HomeEntry → Option (Answer L)
  serve_dirty_transfer h f k q (HBusyExclusive o r false) = cond (nat_eq o q) (Some (with_entry h f k (HExclusive r), [])) None
  serve_dirty_transfer h f k q (HBusyExclusive o r true) = cond (nat_eq o q) (Some (with_entry h f k HUnowned, [])) None
  serve_dirty_transfer h f k q e = None

  -- q had a dirty copy, and gave it up to the mover
  abbrev pub serve_poison_back : Setup → ℕ → HomeSide L → ℕ → ℕ → ℕ → L → HomeEntry → Option (Answer L)
  serve_poison_back s a h f k q l (HBusyPoison o) = cond (nat_eq o q) (Some (with_block h f k HPoison l, letter a s.nodes (KPoisonReply f k l 0) ∷ [])) None
  serve_poison_back s a h f k q l e = None

  -- q had a clean copy, or none
  abbrev pub serve_poison_clean : Setup → ℕ → HomeSide L → ℕ → ℕ → ℕ → HomeEntry → Option (Answer L)
  serve_poison_clean s a h f k q (HBusyPoison o) = cond (nat_eq o q) (Some (with_entry h f k HPoison, letter a s.nodes (KPoisonReply f k (h.line f k) 0) ∷ [])) None
  serve_poison_clean s a h f k q e = None

  -- ---- the mover's messages

  -- a poisoning; none where the block is poisoned, or is being so
  abbrev pub serve_poison_read : Setup → ℕ → HomeSide L → ℕ → ℕ → HomeEntry → Option (Answer L)
  serve_poison_read s a h f k HUnowned = Some (with_entry h f k HPoison, letter a s.nodes (KPoisonReply f k (h.line f k) 0) ∷ [])
  serve_poison_read s a h f k (HShared t) = Some (with_entry h f k HPoison, invalidations a f k s.nodes t s.nodes ++ letter a s.nodes (KPoisonReply f k (h.line f k) (count s.nodes t)) ∷ [])
  serve_poison_read s a h f k (HExclusive q) = Some (with_entry h f k (HBusyPoison q), letter a q (KIntervenePoison f k) ∷ [])
  serve_poison_read s a h f k (HBusyShared o r) = Some (h, letter a s.nodes (KNak f k) ∷ [])
  serve_poison_read s a h f k (HBusyExclusive o r b) = Some (h, letter a s.nodes (KNak f k) ∷ [])
  serve_poison_read s a h f k e = None

  -- a line for a block of a blank frame
  abbrev pub serve_copy_in : Setup → ℕ → HomeSide L → ℕ → ℕ → L → HomeEntry → Option (Answer L)
  serve_copy_in s a h f k l HUnowned = Some (with_block h f k HUnowned l, letter a s.nodes (KCopyDone f k) ∷ [])
  serve_copy_in s a h f k l e = None

  -- a cleaning; none where a block isn't poisoned
  abbrev pub serve_clean_frame : Setup → ℕ → HomeSide L → ℕ → Option (Answer L)
  serve_clean_frame s a h f = cond (are_poisoned s.blocks (h.entry f)) (Some (cleaned h f, letter a s.nodes (KFrameClean f) ∷ [])) None

  -- the frame's notice may go to the mover again
  abbrev pub rearm : HomeSide L → ℕ → HomeSide L
  rearm h f = record h { noticed = put h.noticed f false }

  -- ---- with the count

  -- an upgrade that counts, with the frame's notice where the counters say so
  abbrev pub counted_upgrade : Setup → ℕ → ℕ → ℕ → HomeEntry → Option (ℕ × ℕ) → Option (Answer L) → Option (Answer L)
  counted_upgrade s a f p e hot None = None
  counted_upgrade s a f p e hot (Some x) = Some (cond (upgrade_counts e p) (and_then x (λ h. notice s a h f p hot)) x)

  abbrev pub take_upgrade : Setup → ℕ → HomeSide L → ℕ → ℕ → ℕ → Option (ℕ × ℕ) → Option (Answer L)
  take_upgrade s a h f k p hot = counted_upgrade s a f p (h.entry f k) hot (serve_upgrade s a h f k p (h.entry f k))

  -- ---- the table

  -- home a takes a message of p; where it is a request that counts, hot is what the counters say: nothing, or that a notice is due,
  -- with the requester's count and the greatest one of the others
  abbrev pub take : Setup → ℕ → HomeSide L → ℕ → Kind L → Option (ℕ × ℕ) → Option (Answer L)
  take s a h p (KRead f k) hot = Some (take_read s a h f k p hot)
  take s a h p (KReadEx f k) hot = Some (take_read_exclusive s a h f k p hot)
  take s a h p (KUpgrade f k) hot = take_upgrade s a h f k p hot
  take s a h p (KWriteBack f k l) hot = serve_back s a h f k p l (h.entry f k)
  take s a h p (KSharingWriteBack f k l) hot = serve_sharing_write_back s h f k p l (h.entry f k)
  take s a h p (KSharingTransfer f k) hot = serve_sharing_transfer s h f k p (h.entry f k)
  take s a h p (KDirtyTransfer f k) hot = serve_dirty_transfer h f k p (h.entry f k)
  take s a h p (KPoisonBack f k l) hot = serve_poison_back s a h f k p l (h.entry f k)
  take s a h p (KPoisonClean f k) hot = serve_poison_clean s a h f k p (h.entry f k)
  take s a h p (KPoisonRead f k) hot = serve_poison_read s a h f k (h.entry f k)
  take s a h p (KCopyIn f k l) hot = serve_copy_in s a h f k l (h.entry f k)
  take s a h p (KCleanFrame f) hot = serve_clean_frame s a h f
  take s a h p (KRearm f) hot = Some (rearm h f, [])
  take s a h p x hot = None

  -- the kinds that a home takes
  abbrev pub is_for_home : Kind L → Bool
  is_for_home (KRead f k) = true
  is_for_home (KReadEx f k) = true
  is_for_home (KUpgrade f k) = true
  is_for_home (KWriteBack f k l) = true
  is_for_home (KSharingWriteBack f k l) = true
  is_for_home (KSharingTransfer f k) = true
  is_for_home (KDirtyTransfer f k) = true
  is_for_home (KPoisonBack f k l) = true
  is_for_home (KPoisonClean f k) = true
  is_for_home (KPoisonRead f k) = true
  is_for_home (KCopyIn f k l) = true
  is_for_home (KCleanFrame f) = true
  is_for_home (KRearm f) = true
  is_for_home x = false
