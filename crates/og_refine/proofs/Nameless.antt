-- A free frame is named by no victim slot and by no message in flight.
use Rattle.std.proofs.Common.{◌≡◌, ◌≢◌, ◌∙◌, ℕ, ◌+◌, ◌*◌, ◌<◌, Bool, true, false, cond, nat_eq, arith, refl, sym, ap, subst, Some, length, slice_get}
use Rattle.std.specs.Prelude.{slice_index_or}
use Rattle.std.proofs.lemmas.Bool.Decides.{nat_tests}
use Rattle.og_base.proofs.SameNames.{same_frame}
use Rattle.og_base.specs.Names.{is_same_frame}
use Rattle.og_base.specs.declared.Block.{Block}
use Rattle.og_base.specs.declared.Frame.{Frame}
use Rattle.og_line.specs.declared.Line.{Line}
use Rattle.og_runs.specs.declared.Msg.{Msg}
use Rattle.og_runs.specs.declared.MsgId.{MsgId}
use Rattle.og_runs.specs.declared.Seat.{Seat}
use Rattle.og_runs.specs.World.{find}
use Rattle.og_msg.specs.declared.Kind.{Kind}
use Rattle.og_msg.specs.declared.Kind.TheVariants.{Read, ReadEx, Upgrade, WriteBack, SharedReply, SpecReply, ExclusiveReply, UpgradeReply, Nak, PoisonError, WbAck, WbBusyAck, InterveneShared, InterveneEx, IntervenePoison, Invalidate, InvalAck, SharedResponse, ExclusiveResponse, OwnerAck, SharingWriteBack, PoisonBack, SharingTransfer, DirtyTransfer, PoisonClean, PoisonRead, PoisonReply, CopyIn, CopyDone, CleanFrame, FrameClean, Hot, Rearm, Walk, Walked, WalkRetry, DropFrame, Dropped}
use Rattle.og_victim.specs.declared.Slot.{Slot}
use Rattle.og_victim.specs.declared.Slot.TheVariants as slot
use Rattle.og_flat.specs.Flat.{Flat}
use Rattle.rv_hart.specs.Hart.{HartState}
use Rattle.og_image.specs.Image.{ImageState}
use Rattle.og_block.specs.State.{Ask}
use Rattle.og_block.specs.Message.{Message as BlockMessage, Asked, Answered, Returned, Revised, Intervened, Invalidated, is_sent}
use Rattle.og_pages.specs.State.{Role as SeenRole, Free as SeenFree, Job, Wait, Cleaning, VictimOf, Walked as SeenWalked, DropFrame as SeenDrop, Dropped as SeenDropped}
use Rattle.og_pages.specs.Claims.{FreeFrame, job_names}
use Rattle.og_pages.proofs.Safe.{free_unnamed}
use Rattle.og_whole.specs.Events.{World}
use Rattle.og_whole.specs.Link.{Invariant}
use Rattle.og_whole.specs.Claims.{Clear}
use Rattle.og_whole.specs.Messages.{Message, OfBlock}
use Rattle.og_whole.proofs.Runs.{reached}
use Rattle.og_whole.proofs.Safe.{free_clear}
use Rattle.og_pager.specs.declared.Role.{Role}
use Rattle.og_pager.specs.declared.Role.TheVariants.{Free, Mapped, Target, Quarantined}
use Rattle.og_pager.specs.PageTable.{IsFrame, is_free, is_free_role, role_of as pager_role}
use Rattle.og_node.specs.Node.{NodeState}
use Rattle.og_mover.specs.Table.{MoverState}
use Rattle.og_machine.specs.Machine.{ActorState, Node, Mover, Machine}
use Rattle.og_relate.specs.Data.{Unused, Cpu}
use Rattle.og_relate.specs.Places.{Stands, Placed, Flies, content_by}
use Rattle.og_relate.specs.Sim.{role_of, slot_at}
use Rattle.og_relate.specs.Steps.{letter}
use Rattle.og_seen.specs.Numbers.{Sizes, setup_seen, is_there, frame_number, page_number}
use Rattle.og_seen.specs.Messages.{frame_of_block, kind_seen, post_seen}
use Rattle.og_seen.specs.Harts.{Hart}
use Rattle.og_seen.specs.Movers.{role_seen}
use Rattle.og_seen.specs.Processors.{cpu_seen, slot_seen}
use Rattle.og_seen.specs.Sound.{AreSizes}
use Rattle.og_seen.proofs.Numbers.{numbered}
use Rattle.og_refine.specs.Machines.{cpus, mover_at, cpu_in, cpu_of}
use Rattle.og_refine.specs.Names.{names_frame}
use Rattle.og_refine.proofs.Steps.{Follows, mover_is}
use Rattle.og_refine.proofs.Unnamed.{node_is, mover_sits}
use Rattle.og_refine.proofs.Charges.{found_fits}

-- ---- a free frame in the theory

-- what the mover has free is free in the theory
seen_free : (r : Role) → is_free_role r ≡ true → role_seen r ≡ Unused
seen_free Free e = refl
seen_free (Mapped number) e = absurd (cc)
seen_free (Target number) e = absurd (cc)
seen_free (Quarantined move) e = absurd (cc)

unused_is_free : (u : SeenRole) → role_of u ≡ Unused → u ≡ SeenFree
unused_is_free SeenFree e = refl
unused_is_free u e = absurd (grind arith)

module _ (image : ImageState) (s : Sizes) (w : Machine) (harts : ℕ → HartState) (flat : Flat) (v : World Line) (f : Follows image s w harts flat v) where
  -- so is the frame with its number
  frame_is_free : (q : ℕ) (seat : Seat ActorState) (m : MoverState) (frame : Frame) → slice_get w.seats q ≡ Some seat → seat.local ≡ Mover m → IsFrame m.pages frame → is_free m.pages frame ≡ true → v.pages.role (frame_number s frame) ≡ SeenFree
  unfolding is_free
  frame_is_free q seat m frame there is inside free =
      let mine = mover_sits image s w q seat m f.actors there is in
      let at_end : slice_get w.seats s.nodes ≡ Some seat = subst (λ (a : ℕ). slice_get w.seats a ≡ Some seat) mine.0 there in
      let frame_there : is_there s frame ≡ true = (let a : m.pages.nodes ≡ s.nodes = mine.1.nodes in let b : m.pages.frames ≡ s.frames = mine.1.frames in let c = inside.0 in let d = inside.1 in grind (arith, nat_tests)) in
      let number_is : frame_number s frame ≡ frame.home * m.pages.frames + frame.index = numbered s frame frame_there ∙ ap (λ n. frame.home * n + frame.index) (sym mine.1.frames) in
      let unused : (mover_at s w).role (frame_number s frame) ≡ Unused =
      ap (λ z. z.role (frame_number s frame)) (mover_is s w seat m at_end is) ∙ (ap (λ n. role_seen (slice_index_or m.pages.roles n Free)) number_is ∙ seen_free (pager_role m.pages frame) free) in
      unused_is_free (v.pages.role (frame_number s frame)) (f.shows.mover.role (frame_number s frame) ∙ unused)

  module _ (frame : Frame) (free : v.pages.role (frame_number s frame) ≡ SeenFree) where
    inv : Invariant Line (s.nodes + 1) s.nodes (length s.pages) 32 v
    inv = reached (s.nodes + 1) s.nodes (length s.pages) 32 v f.shows.reached

    unnamed : FreeFrame Line 32 v.pages (frame_number s frame)
    unnamed = free_unnamed (length s.pages) 32 v.pages inv.of_pages (frame_number s frame) free

    clear : (k q : ℕ) → k < 32 → q < s.nodes + 1 → Clear Line (v.block (frame_number s frame) k) q
    clear k q lk lq = free_clear (s.nodes + 1) s.nodes (length s.pages) 32 v f.shows.reached.inside inv (frame_number s frame) k q lk lq free

    -- ---- messages

    -- a frame that isn't this one
    another : (g : Frame) → (g ≡ frame → ⊥) → is_same_frame g frame ≡ false
    another g ne = by (is_same_frame g frame) refl
      where
        by : (t : Bool) → is_same_frame g frame ≡ t → t ≡ false
        by true e = absurd (ne (same_frame g frame e))
        by false e = refl

    -- no message of a block of the frame stands
    nothing_stands : (k : ℕ) (m : BlockMessage Line) → Stands (setup_seen s) v (OfBlock (frame_number s frame) k m) → ⊥
    nothing_stands k (Asked q a) p = let e : false ≡ true = subst (λ (z : Ask Line). is_sent z ≡ true) (sym p.2.1 ∙ (clear k q p.1 p.2.0).ask) p.2.2 in absurd (cc)
    nothing_stands k (Answered q r) p = p.2.2 (sym p.2.1 ∙ (clear k q p.1 p.2.0).response)
    nothing_stands k (Returned q b) p = p.2.2 (sym p.2.1 ∙ (clear k q p.1 p.2.0).back)
    nothing_stands k (Revised r) p = p.2.1 (sym p.2.0 ∙ (clear k s.nodes p.1 (omega arith)).revision)
    nothing_stands k (Intervened q i) p = p.2.2 (sym p.2.1 ∙ (clear k q p.1 p.2.0).intervention)
    nothing_stands k (Invalidated q i) p = p.2.2 (sym p.2.1 ∙ (clear k q p.1 p.2.0).invalidation)

    -- so a message that stands is of a block of another frame
    of_block : (k : Kind) (from to : ℕ) (b : Block) (m : BlockMessage Line) → content_by s.nodes from to (kind_seen s k) ≡ OfBlock (frame_of_block s b) b.number m → Placed (setup_seen s) v (letter from to (kind_seen s k)) → is_same_frame b.frame frame ≡ false
    of_block k from to b m e p = another b.frame (λ same. nothing_stands b.number m
        (subst (λ (g : Frame). Stands (setup_seen s) v (OfBlock (frame_number s g) b.number m)) same (subst (λ (c : Message Line). Stands (setup_seen s) v c) e p.0)))

    -- nor does the job name the frame: so a frame that it names is another
    of_job : (g : Frame) → (job_names v.pages.job (frame_number s g) ≡ true) → is_same_frame g frame ≡ false
    of_job g names = another g (λ same. (let e : job_names v.pages.job (frame_number s frame) ≡ true = subst (λ (h : Frame). job_names v.pages.job (frame_number s h) ≡ true) same names in let none = unnamed.no_job in cc))

    -- the job names the frame that a block is copied into, and the one that is cleaned
    target_named : (page old new number : ℕ) → v.pages.job ≡ Wait page old new number → job_names v.pages.job new ≡ true
    target_named page old new number e = ap (λ (z : Job Line). job_names z new) e ∙ by (nat_eq old new)
      where
        by : (t : Bool) → cond t true (nat_eq new new) ≡ true
        by true = refl
        by false = grind (arith, nat_tests)

    cleaned_named : (g : ℕ) → v.pages.job ≡ Cleaning g → job_names v.pages.job g ≡ true
    cleaned_named g e = ap (λ (z : Job Line). job_names z g) e ∙ grind (arith, nat_tests)

    -- kind by kind
    not_named : (k : Kind) (from to : ℕ) → Placed (setup_seen s) v (letter from to (kind_seen s k)) → names_frame k frame ≡ false
    not_named (Read b) from to p = of_block (Read b) from to b _ refl p
    not_named (ReadEx b) from to p = of_block (ReadEx b) from to b _ refl p
    not_named (Upgrade b) from to p = of_block (Upgrade b) from to b _ refl p
    not_named (WriteBack b l) from to p = of_block (WriteBack b l) from to b _ refl p
    not_named (SharedReply b l) from to p = of_block (SharedReply b l) from to b _ refl p
    not_named (SpecReply b l) from to p = of_block (SpecReply b l) from to b _ refl p
    not_named (ExclusiveReply b l acks) from to p = of_block (ExclusiveReply b l acks) from to b _ refl p
    not_named (UpgradeReply b acks) from to p = of_block (UpgradeReply b acks) from to b _ refl p
    not_named (Nak b) from to p = of_block (Nak b) from to b _ refl p
    not_named (PoisonError b) from to p = of_block (PoisonError b) from to b _ refl p
    not_named (WbAck b) from to p = of_block (WbAck b) from to b _ refl p
    not_named (WbBusyAck b) from to p = of_block (WbBusyAck b) from to b _ refl p
    not_named (InterveneShared b requester) from to p = of_block (InterveneShared b requester) from to b _ refl p
    not_named (InterveneEx b requester) from to p = of_block (InterveneEx b requester) from to b _ refl p
    not_named (IntervenePoison b) from to p = of_block (IntervenePoison b) from to b _ refl p
    not_named (Invalidate b requester) from to p = of_block (Invalidate b requester) from to b _ refl p
    not_named (InvalAck b) from to p = of_block (InvalAck b) from to b _ refl p
    not_named (SharedResponse b l) from to p = of_block (SharedResponse b l) from to b _ refl p
    not_named (ExclusiveResponse b l) from to p = of_block (ExclusiveResponse b l) from to b _ refl p
    not_named (OwnerAck b) from to p = of_block (OwnerAck b) from to b _ refl p
    not_named (SharingWriteBack b l) from to p = of_block (SharingWriteBack b l) from to b _ refl p
    not_named (PoisonBack b l) from to p = of_block (PoisonBack b l) from to b _ refl p
    not_named (SharingTransfer b) from to p = of_block (SharingTransfer b) from to b _ refl p
    not_named (DirtyTransfer b) from to p = of_block (DirtyTransfer b) from to b _ refl p
    not_named (PoisonClean b) from to p = of_block (PoisonClean b) from to b _ refl p
    not_named (PoisonRead b) from to p = of_block (PoisonRead b) from to b _ refl p
    not_named (PoisonReply b l acks) from to p = of_block (PoisonReply b l acks) from to b _ refl p
    not_named (CopyIn b l) from to p = of_job b.frame (target_named p.2.0 p.2.1 (frame_number s b.frame) b.number p.2.2)
    not_named (CopyDone b) from to p = of_job b.frame (target_named p.2.0 p.2.1 (frame_number s b.frame) b.number p.2.2)
    not_named (CleanFrame g) from to p = of_job g (cleaned_named (frame_number s g) p.2)
    not_named (FrameClean g) from to p = of_job g (cleaned_named (frame_number s g) p.2)
    not_named (Hot hot) from to p = another hot.frame (λ same. p.0.2 (sym p.0.1 ∙ (ap (λ (g : Frame). v.pages.notice (frame_number s g)) same ∙ (unnamed.unnamed 0 0 0).notice)))
    not_named (Rearm g) from to p = another g (λ same. p.0.2 (sym p.0.1 ∙ (ap (λ (g : Frame). v.pages.notice (frame_number s g)) same ∙ (unnamed.unnamed 0 0 0).notice)))
    not_named (Walk page) from to p = refl
    not_named (Walked page g) from to p = another g (λ same. (unnamed.unnamed to (page_number s page) 0).walk_answer (p.0.1 ∙ ap (λ (g : Frame). SeenWalked (page_number s page) (frame_number s g)) same))
    not_named (WalkRetry page) from to p = refl
    not_named (DropFrame g) from to p = another g (λ same. (unnamed.unnamed to 0 0).drop (p.0.1 ∙ ap (λ (g : Frame). SeenDrop (frame_number s g)) same))
    not_named (Dropped g) from to p = another g (λ same. (unnamed.unnamed from 0 0).dropped (p.0.1 ∙ ap (λ (g : Frame). SeenDropped (frame_number s g)) same))

    -- ---- victim slots

    -- a slot's block is in another frame
    no_victim : (p : ℕ) (z : Seat ActorState) (x : NodeState) (block : Block) (busy seen : Bool) → slice_get w.seats p ≡ Some z → z.local ≡ Node x → x.processor.victim ≡ slot.Taken block busy seen → block.frame ≢ frame
    no_victim p z x block busy seen e g held same =
        let n = node_is image s w p z x f.actors e g in
        let here : cpus s w p ≡ cpu_seen s x.processor = ap (cpu_in s) e ∙ ap (cpu_of s) g in
        let shown : v.pages.victim p ≡ VictimOf (frame_number s block.frame) block.number = (f.shows.nodes p n.0).slot ∙ (ap (λ (c : Cpu Line Hart). slot_at c.slot) here ∙ ap (λ (o : Slot). slot_at (slot_seen s o)) held) in
        (unnamed.unnamed p 0 block.number).victim (shown ∙ ap (λ (h : Frame). VictimOf (frame_number s h) block.number) same)

-- ---- both

pub frame_is_nameless : (image : ImageState) (s : Sizes) (w : Machine) (harts : ℕ → HartState) (flat : Flat) (v : World Line) (q : ℕ) (seat : Seat ActorState) (m : MoverState) (frame : Frame) → AreSizes s → Follows image s w harts flat v →
    slice_get w.seats q ≡ Some seat → seat.local ≡ Mover m → IsFrame m.pages frame → is_free m.pages frame ≡ true →
    ((p : ℕ) (z : Seat ActorState) (x : NodeState) (block : Block) (busy seen : Bool) → slice_get w.seats p ≡ Some z → z.local ≡ Node x → x.processor.victim ≡ slot.Taken block busy seen → block.frame ≢ frame)
    × ((id : MsgId) (message : Msg Kind) → find id w.flight ≡ Some message → names_frame message.kind frame ≡ false)
frame_is_nameless image s w harts flat v q seat m frame sizes f there is inside free =
    let r = frame_is_free image s w harts flat v f q seat m frame there is inside free in (
      no_victim image s w harts flat v f frame r,
      λ id message found. not_named image s w harts flat v f frame r message.kind message.id.sender message.to (found_fits (post_seen s) s.nodes (Flies (setup_seen s) (cpus s w) (mover_at s w) v) id message w.flight f.shows.flight found).0,
    )
