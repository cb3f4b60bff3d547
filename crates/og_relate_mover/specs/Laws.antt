-- Every act of the mover, and every message that it takes, is rows of the theory, and the message has its row.
use Rattle.std.specs.Prelude.{◌≡◌, ℕ, ◌<◌, true, List, ◌∷◌}
use Rattle.std.proofs.Common.{Option, None}
use Rattle.og_whole.specs.Events.{World}
use Rattle.og_relate.specs.Data.{KHot, KPoisonReply, KInvalAck, KNak, KCopyDone, KWalk, KDropped, KFrameClean, Post, MIdle, MAsk, MCollect, MHold, MWait, MPublish, MGather, MClean, MCleaning, Unused, UsedBy, Cpu, HomeSide, Mover, Harts, Setup}
use Rattle.og_relate.specs.Sim.{Sim}
use Rattle.og_relate.specs.Goes.{Goes}
use Rattle.og_relate.specs.Steps.{letter}
use Rattle.og_relate.specs.Laws.{machine, MovesWith}
use Rattle.og_relate.specs.MoverSteps.{refuse}
use Rattle.og_relate_mover.specs.Steps.{begin, ask_out, ask_again, take_reply, take_ack, copy_out, take_copied, publish, take_dropped, clean_out, free, take_walk}

-- a notice is taken up, where the mover is idle, the frame has a page, and another frame is free
abbrev pub MovesBegin : (L H : Type 0) → Type 0
MovesBegin L H =
    (s : Setup) (harts : Harts L H) (cpu : ℕ → Cpu L H) (home : ℕ → HomeSide L) (mover : Mover L) (w : World L) (a frame page new node count most : ℕ) (rest : List (Post L))
    → Sim s harts (machine cpu home mover (letter a s.nodes (KHot frame node count most) ∷ rest)) w
    → mover.job ≡ MIdle
    → mover.role frame ≡ UsedBy page
    → mover.role new ≡ Unused
    → page < s.pages
    → new < s.frames
    → 0 < s.blocks
    → Goes s harts (machine cpu home (begin mover frame page new) rest) w

-- the mover asks for a block of the old frame
abbrev pub BlocksAreAskedFor : (L H : Type 0) → Type 0
BlocksAreAskedFor L H =
    (s : Setup) (harts : Harts L H) (cpu : ℕ → Cpu L H) (home : ℕ → HomeSide L) (mover : Mover L) (w : World L) (page old new number : ℕ) (rest : List (Post L))
    → Sim s harts (machine cpu home mover rest) w
    → mover.job ≡ MAsk page old new number
    → MovesWith s harts cpu home rest w (ask_out s mover page old new number)

-- the reply finds the job that waits for it, without a reply
abbrev pub RepliesAreCollected : (L H : Type 0) → Type 0
RepliesAreCollected L H =
    (s : Setup) (harts : Harts L H) (cpu : ℕ → Cpu L H) (home : ℕ → HomeSide L) (mover : Mover L) (w : World L) (old number : ℕ) (line : L) (due : ℕ) (rest : List (Post L))
    → Sim s harts (machine cpu home mover (letter (s.home old) s.nodes (KPoisonReply old number line due) ∷ rest)) w
    → (page : ℕ) × (new : ℕ) × (acks : ℕ) × (mover.job ≡ MCollect page old new number None acks) × Goes s harts (machine cpu home (take_reply mover page old new number acks line due) rest) w

-- so does an acknowledgement
abbrev pub AcknowledgementsAreCollected : (L H : Type 0) → Type 0
AcknowledgementsAreCollected L H =
    (s : Setup) (harts : Harts L H) (cpu : ℕ → Cpu L H) (home : ℕ → HomeSide L) (mover : Mover L) (w : World L) (q old number : ℕ) (rest : List (Post L))
    → Sim s harts (machine cpu home mover (letter q s.nodes (KInvalAck old number) ∷ rest)) w
    → (page : ℕ) × (new : ℕ) × (reply : Option (L × ℕ)) × (acks : ℕ) × (mover.job ≡ MCollect page old new number reply acks) × Goes s harts (machine cpu home (take_ack mover page old new number acks reply) rest) w

-- and the word that the home was busy, which finds no part
abbrev pub RefusalsAreTaken : (L H : Type 0) → Type 0
RefusalsAreTaken L H =
    (s : Setup) (harts : Harts L H) (cpu : ℕ → Cpu L H) (home : ℕ → HomeSide L) (mover : Mover L) (w : World L) (old number : ℕ) (rest : List (Post L))
    → Sim s harts (machine cpu home mover (letter (s.home old) s.nodes (KNak old number) ∷ rest)) w
    → (page : ℕ) × (new : ℕ) × (mover.job ≡ MCollect page old new number None 0) × Goes s harts (machine cpu home (ask_again mover page old new number) rest) w

-- the line goes into the new frame
abbrev pub LinesAreCopied : (L H : Type 0) → Type 0
LinesAreCopied L H =
    (s : Setup) (harts : Harts L H) (cpu : ℕ → Cpu L H) (home : ℕ → HomeSide L) (mover : Mover L) (w : World L) (page old new number : ℕ) (line : L) (rest : List (Post L))
    → Sim s harts (machine cpu home mover rest) w
    → mover.job ≡ MHold page old new number line
    → MovesWith s harts cpu home rest w (copy_out s mover page old new number line)

-- the word that it is there finds the job that waits for it: the next block, or the page is published
abbrev pub CopiesAreTaken : (L H : Type 0) → Type 0
CopiesAreTaken L H =
    (s : Setup) (harts : Harts L H) (cpu : ℕ → Cpu L H) (home : ℕ → HomeSide L) (mover : Mover L) (w : World L) (new number : ℕ) (rest : List (Post L))
    → Sim s harts (machine cpu home mover (letter (s.home new) s.nodes (KCopyDone new number) ∷ rest)) w
    → (page : ℕ) × (old : ℕ) × (mover.job ≡ MWait page old new number) × Goes s harts (machine cpu home (take_copied s mover page old new number) rest) w

-- the page table names the new frame, and the old one is in quarantine
abbrev pub PagesArePublished : (L H : Type 0) → Type 0
PagesArePublished L H =
    (s : Setup) (harts : Harts L H) (cpu : ℕ → Cpu L H) (home : ℕ → HomeSide L) (mover : Mover L) (w : World L) (page old new : ℕ) (rest : List (Post L))
    → Sim s harts (machine cpu home mover rest) w
    → mover.job ≡ MPublish page old new
    → Goes s harts (machine cpu home (publish mover page old new) rest) w

-- a walk is answered with the page's frame, or refused where the page is moving
abbrev pub WalksAreServed : (L H : Type 0) → Type 0
WalksAreServed L H =
    (s : Setup) (harts : Harts L H) (cpu : ℕ → Cpu L H) (home : ℕ → HomeSide L) (mover : Mover L) (w : World L) (p page : ℕ) (rest : List (Post L))
    → Sim s harts (machine cpu home mover (letter p s.nodes (KWalk page) ∷ rest)) w
    → MovesWith s harts cpu home rest w (take_walk s mover p page)

-- the word that a frame was dropped is a holder's, and finds the job that gathers it
abbrev pub DropsAreGathered : (L H : Type 0) → Type 0
DropsAreGathered L H =
    (s : Setup) (harts : Harts L H) (cpu : ℕ → Cpu L H) (home : ℕ → HomeSide L) (mover : Mover L) (w : World L) (p frame : ℕ) (rest : List (Post L))
    → Sim s harts (machine cpu home mover (letter p s.nodes (KDropped frame) ∷ rest)) w
    → (mover.job ≡ MGather frame) × (mover.holders frame p ≡ true) × Goes s harts (machine cpu home (take_dropped s mover p frame) rest) w

-- no holder is left: the home is to clean the frame
abbrev pub CleaningsGoOut : (L H : Type 0) → Type 0
CleaningsGoOut L H =
    (s : Setup) (harts : Harts L H) (cpu : ℕ → Cpu L H) (home : ℕ → HomeSide L) (mover : Mover L) (w : World L) (frame : ℕ) (rest : List (Post L))
    → Sim s harts (machine cpu home mover rest) w
    → mover.job ≡ MClean frame
    → MovesWith s harts cpu home rest w (clean_out s mover frame)

-- the frame is clean: it is free
abbrev pub FramesAreFreed : (L H : Type 0) → Type 0
FramesAreFreed L H =
    (s : Setup) (harts : Harts L H) (cpu : ℕ → Cpu L H) (home : ℕ → HomeSide L) (mover : Mover L) (w : World L) (frame : ℕ) (rest : List (Post L))
    → Sim s harts (machine cpu home mover (letter (s.home frame) s.nodes (KFrameClean frame) ∷ rest)) w
    → (mover.job ≡ MCleaning frame) × Goes s harts (machine cpu home (free mover frame) rest) w

-- a notice is refused, whatever the mover does
abbrev pub NoticesAreTurnedAway : (L H : Type 0) → Type 0
NoticesAreTurnedAway L H =
    (s : Setup) (harts : Harts L H) (cpu : ℕ → Cpu L H) (home : ℕ → HomeSide L) (mover : Mover L) (w : World L) (a frame node count most : ℕ) (rest : List (Post L))
    → Sim s harts (machine cpu home mover (letter a s.nodes (KHot frame node count most) ∷ rest)) w
    → MovesWith s harts cpu home rest w (refuse s frame mover)
