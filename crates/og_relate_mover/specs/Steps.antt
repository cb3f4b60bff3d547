-- What the mover does of itself, and with a message: each function is a row of the theory, or two.
use Rattle.std.specs.Prelude.{ℕ, ◌+◌, Bool, true, false, cond, nat_eq, List, [], ◌∷◌}
use Rattle.std.proofs.Common.{Option, None, Some}
use Rattle.og_slots.specs.Count.{count}
use Rattle.og_block.specs.State.{put}
use Rattle.og_pages.specs.State.{put_pair}
use Rattle.og_relate.specs.Data.{KPoisonRead, KCopyIn, KCleanFrame, KWalked, KWalkRetry, Post, MoverJob, MIdle, MAsk, MCollect, MHold, MWait, MPublish, MClean, MCleaning, Unused, UsedBy, ReservedFor, Left, Mover, Setup}
use Rattle.og_relate.specs.Steps.{letter}

-- the page is being moved
abbrev pub moves : {L : Type 0} → MoverJob L → ℕ → Bool
moves (MAsk page old new number) y = nat_eq page y
moves (MCollect page old new number reply acks) y = nat_eq page y
moves (MHold page old new number line) y = nat_eq page y
moves (MWait page old new number) y = nat_eq page y
moves (MPublish page old new) y = nat_eq page y
moves job y = false

module _ {L : Type 0} where
  abbrev pub with_job : Mover L → MoverJob L → Mover L
  with_job m job = record m { job = job }

  -- ------------------------------------------------------------ a move

  -- a notice is taken up: its page is moved to a free frame, from block 0 on
  abbrev pub begin : Mover L → (frame page new : ℕ) → Mover L
  begin m f y new = record m { job = MAsk y f new 0; role = put m.role new (ReservedFor y) }

  -- the block is poisoned and asked for
  abbrev pub ask_out : Setup → Mover L → (page old new number : ℕ) → Mover L × List (Post L)
  ask_out s m y o n k = (with_job m (MCollect y o n k None 0), letter s.nodes (s.home o) (KPoisonRead o k) ∷ [])

  -- the home was busy: it is asked once more
  abbrev pub ask_again : Mover L → (page old new number : ℕ) → Mover L
  ask_again m y o n k = with_job m (MAsk y o n k)

  -- the reply and the acknowledgements that it names are there
  abbrev pub collected_by : (page old new number acks : ℕ) → Option (L × ℕ) → MoverJob L
  collected_by y o n k acks None = MCollect y o n k None acks
  collected_by y o n k acks (Some x) = cond (nat_eq acks x.1) (MHold y o n k x.0) (MCollect y o n k (Some x) acks)

  abbrev pub take_reply : Mover L → (page old new number acks : ℕ) → L → ℕ → Mover L
  take_reply m y o n k acks l d = with_job m (collected_by y o n k acks (Some (l, d)))

  abbrev pub take_ack : Mover L → (page old new number acks : ℕ) → Option (L × ℕ) → Mover L
  take_ack m y o n k acks reply = with_job m (collected_by y o n k (acks + 1) reply)

  -- the line goes into the new frame
  abbrev pub copy_out : Setup → Mover L → (page old new number : ℕ) → L → Mover L × List (Post L)
  copy_out s m y o n k l = (with_job m (MWait y o n k), letter s.nodes (s.home n) (KCopyIn n k l) ∷ [])

  -- it is there: the next block, or the page is published
  abbrev pub take_copied : Setup → Mover L → (page old new number : ℕ) → Mover L
  take_copied s m y o n k = with_job m (cond (nat_eq (k + 1) s.blocks) (MPublish y o n) (MAsk y o n (k + 1)))

  abbrev pub publish : Mover L → (page old new : ℕ) → Mover L
  publish m y o n = record m { job = MIdle; page_table = put m.page_table y n; role = put (put m.role o Left) n (UsedBy y) }

  -- ------------------------------------------------------------ a reclaim

  abbrev pub gather : Setup → Mover L → ℕ → Mover L
  gather s m f = cond (nat_eq (count s.nodes (m.holders f)) 0) (with_job m (MClean f)) m

  -- a holder has dropped the frame
  abbrev pub take_dropped : Setup → Mover L → (node frame : ℕ) → Mover L
  take_dropped s m p f = gather s (record m { holders = put_pair m.holders f p false }) f

  abbrev pub clean_out : Setup → Mover L → ℕ → Mover L × List (Post L)
  clean_out s m f = (with_job m (MCleaning f), letter s.nodes (s.home f) (KCleanFrame f) ∷ [])

  abbrev pub free : Mover L → ℕ → Mover L
  free m f = record m { job = MIdle; role = put m.role f Unused }

  -- ------------------------------------------------------------ walks

  -- a page that isn't moving: the node is told its frame, and holds it
  abbrev pub walk_by : Setup → Mover L → (node page : ℕ) → Bool → Mover L × List (Post L)
  walk_by s m p y true = (m, letter s.nodes p (KWalkRetry y) ∷ [])
  walk_by s m p y false = (record m { holders = put_pair m.holders (m.page_table y) p true }, letter s.nodes p (KWalked y (m.page_table y)) ∷ [])

  abbrev pub take_walk : Setup → Mover L → (node page : ℕ) → Mover L × List (Post L)
  take_walk s m p y = walk_by s m p y (moves m.job y)
