-- What is claimed of each message that a home takes: while the machine shows a world of the theory, and the message is in
-- flight, there is a row, and the machine after it shows a world to which events of the theory lead.
use Rattle.std.specs.Prelude.{◌≡◌, ◌≢◌, ℕ, true, false, [], ◌∷◌, ◌++◌}
use Rattle.std.proofs.Common.{Option, None, Some}
use Rattle.og_block.specs.State.{put}
use Rattle.og_whole.specs.Events.{World}
use Rattle.og_relate.specs.Data.{Kind, KRead, KReadEx, KUpgrade, KWriteBack, KSharingWriteBack, KSharingTransfer, KDirtyTransfer, KPoisonBack, KPoisonClean, KPoisonRead, KCopyIn, KCleanFrame, KRearm, Post, Machine, Harts, Setup, IsSetup}
use Rattle.og_relate.specs.Sim.{Sim}
use Rattle.og_relate.specs.Goes.{Goes}
use Rattle.og_relate.specs.Steps.{Answer, letter, take_read, take_read_exclusive, serve_back}
use Rattle.og_relate_home.specs.Steps.{serve_sharing_write_back, serve_sharing_transfer, serve_dirty_transfer, serve_poison_back, serve_poison_clean, serve_poison_read, serve_copy_in, serve_clean_frame, rearm, take_upgrade, take, is_for_home}

module _ {L : Type 0} {H : Type 0} where
  -- the machine with this message in flight, which is taken
  abbrev pub meets : Machine L H → Post L → Machine L H
  meets m x = record m { flight = x ∷ m.flight }

  -- the machine after home a has answered
  abbrev pub answered : Machine L H → ℕ → Answer L → Machine L H
  answered m a x = record m { home = put m.home a x.0; flight = m.flight ++ x.1 }

  -- there is a row, and events of the theory lead to a world that the machine shows after it
  abbrev pub Serves : Setup → Harts L H → Machine L H → World L → ℕ → Option (Answer L) → Type 0
  Serves s harts m w a row = (x : Answer L) × (row ≡ Some x) × Goes s harts (answered m a x) w

  -- the counters ask for no notice of a frame while one is out
  abbrev pub IsQuiet : Machine L H → ℕ → ℕ → Option (ℕ × ℕ) → Type 0
  IsQuiet m a f hot = hot ≢ None → (m.home a).noticed f ≡ false

-- ---- requests of a node p, with the count

abbrev pub ReadTaken : (L H : Type 0) → Type 0
ReadTaken L H = (s : Setup) (harts : Harts L H) (m : Machine L H) (w : World L) (f k p : ℕ) (hot : Option (ℕ × ℕ)) → IsSetup s → Sim s harts (meets m (letter p (s.home f) (KRead f k))) w → IsQuiet m (s.home f) f hot →
    Goes s harts (answered m (s.home f) (take_read s (s.home f) (m.home (s.home f)) f k p hot)) w

abbrev pub ReadExclusiveTaken : (L H : Type 0) → Type 0
ReadExclusiveTaken L H = (s : Setup) (harts : Harts L H) (m : Machine L H) (w : World L) (f k p : ℕ) (hot : Option (ℕ × ℕ)) → IsSetup s → Sim s harts (meets m (letter p (s.home f) (KReadEx f k))) w → IsQuiet m (s.home f) f hot →
    Goes s harts (answered m (s.home f) (take_read_exclusive s (s.home f) (m.home (s.home f)) f k p hot)) w

abbrev pub UpgradeTaken : (L H : Type 0) → Type 0
UpgradeTaken L H = (s : Setup) (harts : Harts L H) (m : Machine L H) (w : World L) (f k p : ℕ) (hot : Option (ℕ × ℕ)) → IsSetup s → Sim s harts (meets m (letter p (s.home f) (KUpgrade f k))) w → IsQuiet m (s.home f) f hot →
    Serves s harts m w (s.home f) (take_upgrade s (s.home f) (m.home (s.home f)) f k p hot)

-- ---- lines that come back, and what owners say

abbrev pub WriteBackTaken : (L H : Type 0) → Type 0
WriteBackTaken L H = (s : Setup) (harts : Harts L H) (m : Machine L H) (w : World L) (f k p : ℕ) (l : L) → IsSetup s → Sim s harts (meets m (letter p (s.home f) (KWriteBack f k l))) w →
    Serves s harts m w (s.home f) (serve_back s (s.home f) (m.home (s.home f)) f k p l ((m.home (s.home f)).entry f k))

abbrev pub SharingWriteBackTaken : (L H : Type 0) → Type 0
SharingWriteBackTaken L H = (s : Setup) (harts : Harts L H) (m : Machine L H) (w : World L) (f k q : ℕ) (l : L) → Sim s harts (meets m (letter q (s.home f) (KSharingWriteBack f k l))) w →
    Serves s harts m w (s.home f) (serve_sharing_write_back s (m.home (s.home f)) f k q l ((m.home (s.home f)).entry f k))

abbrev pub SharingTransferTaken : (L H : Type 0) → Type 0
SharingTransferTaken L H = (s : Setup) (harts : Harts L H) (m : Machine L H) (w : World L) (f k q : ℕ) → Sim s harts (meets m (letter q (s.home f) (KSharingTransfer f k))) w →
    Serves s harts m w (s.home f) (serve_sharing_transfer s (m.home (s.home f)) f k q ((m.home (s.home f)).entry f k))

abbrev pub DirtyTransferTaken : (L H : Type 0) → Type 0
DirtyTransferTaken L H = (s : Setup) (harts : Harts L H) (m : Machine L H) (w : World L) (f k q : ℕ) → Sim s harts (meets m (letter q (s.home f) (KDirtyTransfer f k))) w →
    Serves s harts m w (s.home f) (serve_dirty_transfer (m.home (s.home f)) f k q ((m.home (s.home f)).entry f k))

abbrev pub PoisonBackTaken : (L H : Type 0) → Type 0
PoisonBackTaken L H = (s : Setup) (harts : Harts L H) (m : Machine L H) (w : World L) (f k q : ℕ) (l : L) → Sim s harts (meets m (letter q (s.home f) (KPoisonBack f k l))) w →
    Serves s harts m w (s.home f) (serve_poison_back s (s.home f) (m.home (s.home f)) f k q l ((m.home (s.home f)).entry f k))

abbrev pub PoisonCleanTaken : (L H : Type 0) → Type 0
PoisonCleanTaken L H = (s : Setup) (harts : Harts L H) (m : Machine L H) (w : World L) (f k q : ℕ) → Sim s harts (meets m (letter q (s.home f) (KPoisonClean f k))) w →
    Serves s harts m w (s.home f) (serve_poison_clean s (s.home f) (m.home (s.home f)) f k q ((m.home (s.home f)).entry f k))

-- ---- the mover's messages

abbrev pub PoisonReadTaken : (L H : Type 0) → Type 0
PoisonReadTaken L H = (s : Setup) (harts : Harts L H) (m : Machine L H) (w : World L) (f k : ℕ) → Sim s harts (meets m (letter s.nodes (s.home f) (KPoisonRead f k))) w →
    Serves s harts m w (s.home f) (serve_poison_read s (s.home f) (m.home (s.home f)) f k ((m.home (s.home f)).entry f k))

abbrev pub RearmTaken : (L H : Type 0) → Type 0
RearmTaken L H = (s : Setup) (harts : Harts L H) (m : Machine L H) (w : World L) (f : ℕ) → Sim s harts (meets m (letter s.nodes (s.home f) (KRearm f))) w →
    Goes s harts (answered m (s.home f) (rearm (m.home (s.home f)) f, [])) w

abbrev pub CopyInTaken : (L H : Type 0) → Type 0
CopyInTaken L H = (s : Setup) (harts : Harts L H) (m : Machine L H) (w : World L) (f k : ℕ) (l : L) → IsSetup s → Sim s harts (meets m (letter s.nodes (s.home f) (KCopyIn f k l))) w →
    Serves s harts m w (s.home f) (serve_copy_in s (s.home f) (m.home (s.home f)) f k l ((m.home (s.home f)).entry f k))

abbrev pub CleanFrameTaken : (L H : Type 0) → Type 0
CleanFrameTaken L H = (s : Setup) (harts : Harts L H) (m : Machine L H) (w : World L) (f : ℕ) → Sim s harts (meets m (letter s.nodes (s.home f) (KCleanFrame f))) w →
    Serves s harts m w (s.home f) (serve_clean_frame s (s.home f) (m.home (s.home f)) f)

-- ---- the table

module _ {L : Type 0} {H : Type 0} where
  -- the counters ask for a notice only at a request, and for none of a frame while one is out
  abbrev pub IsQuietAt : Machine L H → ℕ → Kind L → Option (ℕ × ℕ) → Type 0
  IsQuietAt m a (KRead f k) hot = IsQuiet m a f hot
  IsQuietAt m a (KReadEx f k) hot = IsQuiet m a f hot
  IsQuietAt m a (KUpgrade f k) hot = IsQuiet m a f hot
  IsQuietAt m a x hot = Unit {0}

-- whatever a home takes has a row in its table
abbrev pub Taken : (L H : Type 0) → Type 0
Taken L H = (s : Setup) (harts : Harts L H) (m : Machine L H) (w : World L) (x : Post L) (hot : Option (ℕ × ℕ)) → IsSetup s → Sim s harts (meets m x) w → is_for_home x.kind ≡ true → IsQuietAt m x.to x.kind hot →
    Serves s harts m w x.to (take s x.to (m.home x.to) x.from x.kind hot)
