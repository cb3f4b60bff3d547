-- What is proved of the machine seen as functions: at its start it shows the theory's start, and where it shows a world, an event
-- leads it to one that it shows again, by rows of the theory. In the midst of an event the message that it takes comes first.
use Rattle.std.specs.Prelude.{◌≡◌, ◌≢◌, ℕ, ◌<◌, Bool, true, false, nat_eq, ◌&&◌, List, [], ◌∷◌, ◌++◌}
use Rattle.std.proofs.Common.{Option, None, Some}
use Rattle.og_block.specs.State.{put, Copy, NoCopy, Clean, Free}
use Rattle.og_block.specs.Rows.{is_dirty}
use Rattle.og_block.specs.Roles.{OwnBit}
use Rattle.og_pages.specs.State.{Role, To}
use Rattle.og_pages.specs.Run.{Laid, start_line}
use Rattle.og_whole.specs.Events.{World, start}
use Rattle.og_relate.specs.Data.{KRead, KWriteBack, KCopyIn, KCopyDone, KCleanFrame, KFrameClean, KInvalAck, KHot, HUnowned, Post, Request, Cpu, HomeSide, Mover, FrameRole, Left, MIdle, MTell, Machine, Harts, Setup, IsSetup}
use Rattle.og_relate.specs.Places.{is_at}
use Rattle.og_relate.specs.Sim.{Sim, IsReached, role_of, victim_at}
use Rattle.og_relate.specs.Goes.{Made, Makes, Goes, MadeFlat, memory_made}
use Rattle.og_relate.specs.Steps.{letter, with_block, cleaned, serve_back, take_read}
use Rattle.og_relate.specs.Node.{settle, settle_made, take_ack, ack_made}
use Rattle.og_relate.specs.Acts.{Block, wanted, miss}
use Rattle.og_relate.specs.MoverSteps.{refuse_full, tell}
use Rattle.og_relate.specs.Begin.{machine_start}

abbrev pub machine : {L H : Type 0} → (ℕ → Cpu L H) → (ℕ → HomeSide L) → Mover L → List (Post L) → Machine L H
machine cpu home mover flight = record { cpu = cpu; home = home; mover = mover; flight = flight }

-- ------------------------------------------------------------ the start

-- all nodes new, the pages in the frames where the layout has them, each line as the program has it, and no message
abbrev pub StartIsShown : (L H : Type 0) → Type 0
StartIsShown L H =
    (s : Setup) (harts : Harts L H) (hart : ℕ → H) (blank : L) (page_table : ℕ → ℕ) (role : ℕ → Role) (memory : ℕ → ℕ → L) (lines : ℕ → ℕ → ℕ → L) (uses : ℕ → FrameRole)
    → OwnBit s.sharing s.nodes → Laid s.pages page_table role → ((frame : ℕ) → role_of (role frame) ≡ uses frame) → ((page : ℕ) → page < s.pages → page_table page < s.frames)
    → ((frame number : ℕ) → lines (s.home frame) frame number ≡ start_line blank memory (role frame) number)
    → Sim s harts (machine_start hart lines page_table uses) (start s.sharing s.nodes blank page_table role memory)

-- ------------------------------------------------------------ homes

-- a home that takes a message goes on to this side and sends these letters
abbrev pub ServesWith : {L H : Type 0} → Setup → Harts L H → (ℕ → Cpu L H) → (ℕ → HomeSide L) → Mover L → List (Post L) → World L → ℕ → HomeSide L × List (Post L) → Type 0
ServesWith s harts cpu home mover rest w node answer = Goes s harts (machine cpu (put home node answer.0) mover (rest ++ answer.1)) w

-- a read, at any entry, and its notice where the counters ask for one
abbrev pub ReadsAreServed : (L H : Type 0) → Type 0
ReadsAreServed L H =
    (s : Setup) (harts : Harts L H) (cpu : ℕ → Cpu L H) (home : ℕ → HomeSide L) (mover : Mover L) (w : World L) (frame number p : ℕ) (hot : Option (ℕ × ℕ)) (rest : List (Post L))
    → IsSetup s → Sim s harts (machine cpu home mover (letter p (s.home frame) (KRead frame number) ∷ rest)) w → (hot ≢ None → (home (s.home frame)).noticed frame ≡ false)
    → ServesWith s harts cpu home mover rest w (s.home frame) (take_read s (s.home frame) (home (s.home frame)) frame number p hot)

-- a write-back: the table has a row for it
abbrev pub WriteBacksAreServed : (L H : Type 0) → Type 0
WriteBacksAreServed L H =
    (s : Setup) (harts : Harts L H) (cpu : ℕ → Cpu L H) (home : ℕ → HomeSide L) (mover : Mover L) (w : World L) (frame number p : ℕ) (line : L) (rest : List (Post L))
    → IsSetup s → Sim s harts (machine cpu home mover (letter p (s.home frame) (KWriteBack frame number line) ∷ rest)) w
    → (answer : HomeSide L × List (Post L)) × (serve_back s (s.home frame) (home (s.home frame)) frame number p line ((home (s.home frame)).entry frame number) ≡ Some answer) × ServesWith s harts cpu home mover rest w (s.home frame) answer

-- the mover's copy of a block into its new frame
abbrev pub CopiesAreServed : (L H : Type 0) → Type 0
CopiesAreServed L H =
    (s : Setup) (harts : Harts L H) (cpu : ℕ → Cpu L H) (home : ℕ → HomeSide L) (mover : Mover L) (w : World L) (frame number : ℕ) (line : L) (rest : List (Post L))
    → IsSetup s → Sim s harts (machine cpu home mover (letter s.nodes (s.home frame) (KCopyIn frame number line) ∷ rest)) w
    → ServesWith s harts cpu home mover rest w (s.home frame) (with_block (home (s.home frame)) frame number HUnowned line, letter (s.home frame) s.nodes (KCopyDone frame number) ∷ [])

-- the cleaning of a frame, all its blocks at once
abbrev pub CleaningsAreServed : (L H : Type 0) → Type 0
CleaningsAreServed L H =
    (s : Setup) (harts : Harts L H) (cpu : ℕ → Cpu L H) (home : ℕ → HomeSide L) (mover : Mover L) (w : World L) (frame : ℕ) (rest : List (Post L))
    → Sim s harts (machine cpu home mover (letter s.nodes (s.home frame) (KCleanFrame frame) ∷ rest)) w
    → ServesWith s harts cpu home mover rest w (s.home frame) (cleaned (home (s.home frame)) frame, letter (s.home frame) s.nodes (KFrameClean frame) ∷ [])

-- ------------------------------------------------------------ nodes

-- node p goes on to this processor side and sends these letters, and its hart makes these accesses
abbrev pub ActsWith : {L H : Type 0} → Setup → Harts L H → (ℕ → Cpu L H) → (ℕ → HomeSide L) → Mover L → List (Post L) → World L → ℕ → Cpu L H × List (Post L) → List (Made L) → Type 0
ActsWith s harts cpu home mover rest w p answer made = Makes s harts (machine (put cpu p answer.0) home mover (rest ++ answer.1)) w made

-- what the parts that a request has received make of it: nothing yet, a fill with its access, or another try; then a held
-- intervention is answered, and then a held drop
abbrev pub RequestsSettle : (L H : Type 0) → Type 0
RequestsSettle L H =
    (s : Setup) (harts : Harts L H) (cpu : ℕ → Cpu L H) (home : ℕ → HomeSide L) (mover : Mover L) (w : World L) (p frame number : ℕ) (c : Cpu L H) (request : Request L) (rest : List (Post L))
    → IsSetup s → p < s.nodes → Sim s harts (machine (put cpu p c) home mover rest) w → c.request ≡ Some request → is_at frame number request ≡ true → number < s.blocks
    → ActsWith s harts cpu home mover rest w p (settle s harts p frame number c request) (settle_made harts frame number c request)

-- an acknowledgement finds the request that counts it
abbrev pub AcknowledgementsAreTaken : (L H : Type 0) → Type 0
AcknowledgementsAreTaken L H =
    (s : Setup) (harts : Harts L H) (cpu : ℕ → Cpu L H) (home : ℕ → HomeSide L) (mover : Mover L) (w : World L) (q p frame number : ℕ) (rest : List (Post L))
    → IsSetup s → p < s.nodes → Sim s harts (machine cpu home mover (letter q p (KInvalAck frame number) ∷ rest)) w
    → (request : Request L) × ((cpu p).request ≡ Some request) × (is_at frame number request ≡ true) × ActsWith s harts cpu home mover rest w p (take_ack s harts p frame number (cpu p) request) (ack_made harts frame number (cpu p) request)

-- the block that is thrown out is another one, and where it is dirty the victim slot is free
abbrev pub MayThrow : {L H : Type 0} → Setup → (frame number : ℕ) → Cpu L H → Option Block → Type 0
MayThrow s frame number c None = Unit {0}
MayThrow s frame number c (Some out) = (out.number < s.blocks) × ((nat_eq out.frame frame && nat_eq out.number number) ≡ false) × (is_dirty (c.cache out.frame out.number) ≡ true → c.slot ≡ None)

-- an access whose block isn't there, or is there only to be read: a block is thrown out where one must be, and the home is asked
abbrev pub MissesAsk : (L H : Type 0) → Type 0
MissesAsk L H =
    (s : Setup) (harts : Harts L H) (cpu : ℕ → Cpu L H) (home : ℕ → HomeSide L) (mover : Mover L) (w : World L) (p frame number : ℕ) (out : Option Block) (rest : List (Post L))
    → Sim s harts (machine cpu home mover rest) w → p < s.nodes → (cpu p).request ≡ None → (cpu p).walk ≡ None → (cpu p).tlb (harts.page (cpu p).hart) ≡ To frame → number < s.blocks
    → (copy : Copy L) → (cpu p).cache frame number ≡ copy → (copy ≡ NoCopy → victim_at frame number (cpu p).slot ≡ Free)
    → (reads : Bool) → (reads ≡ true → copy ≡ NoCopy) → is_dirty copy ≡ false → ((line : L) → copy ≢ Clean line) → MayThrow s frame number (cpu p) out
    → ActsWith s harts cpu home mover rest w p (miss s p frame number (wanted reads copy) out (cpu p)) []

-- ------------------------------------------------------------ the mover

-- the mover goes on like this and sends these letters
abbrev pub MovesWith : {L H : Type 0} → Setup → Harts L H → (ℕ → Cpu L H) → (ℕ → HomeSide L) → List (Post L) → World L → Mover L × List (Post L) → Type 0
MovesWith s harts cpu home rest w answer = Goes s harts (machine cpu home answer.0 (rest ++ answer.1)) w

-- a notice that is refused since the node has no free frame, and the reclaim that begins then, where there is something to reclaim
abbrev pub NoticesAreRefused : (L H : Type 0) → Type 0
NoticesAreRefused L H =
    (s : Setup) (harts : Harts L H) (cpu : ℕ → Cpu L H) (home : ℕ → HomeSide L) (mover : Mover L) (w : World L) (a frame node count most : ℕ) (old : Option ℕ) (rest : List (Post L))
    → Sim s harts (machine cpu home mover (letter a s.nodes (KHot frame node count most) ∷ rest)) w → mover.job ≡ MIdle
    → ((f : ℕ) → old ≡ Some f → mover.role f ≡ Left) → ((f : ℕ) → old ≡ Some f → f < s.frames)
    → MovesWith s harts cpu home rest w (refuse_full s frame old mover)

-- each holder of a frame is told to drop it; where there is none the frame can be cleaned
abbrev pub HoldersAreTold : (L H : Type 0) → Type 0
HoldersAreTold L H =
    (s : Setup) (harts : Harts L H) (cpu : ℕ → Cpu L H) (home : ℕ → HomeSide L) (mover : Mover L) (w : World L) (frame : ℕ) (rest : List (Post L))
    → Sim s harts (machine cpu home mover rest) w → mover.job ≡ MTell frame
    → MovesWith s harts cpu home rest w (tell s frame mover)

-- ------------------------------------------------------------ accesses

-- the accesses of any event find what the flat memory has, each after those before it, and leave it so
abbrev pub AccessesAreFlat : (L H : Type 0) → Type 0
AccessesAreFlat L H =
    (s : Setup) (harts : Harts L H) (m : Machine L H) (w : World L) (made : List (Made L))
    → IsReached s w → (goes : Makes s harts m w made) → MadeFlat w.pages.memory made × (goes.world.pages.memory ≡ memory_made w.pages.memory made)
