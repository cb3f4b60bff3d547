-- Whatever is in flight to the mover has its row there, and is rows of the theory.
use Rattle.std.proofs.Common.{◌≡◌, ℕ, true, List, ◌∷◌, refl, subst}
use Rattle.og_runs.specs.declared.Msg.{Msg}
use Rattle.og_line.specs.declared.Line.{Line}
use Rattle.og_msg.specs.declared.Kind.{Kind}
use Rattle.og_msg.specs.declared.Kind.TheVariants.{Nak, InvalAck, PoisonReply, CopyDone, FrameClean, Hot, Walk, Dropped}
use Rattle.og_image.specs.Image.{ImageState}
use Rattle.og_whole.specs.Events.{World}
use Rattle.og_mover.specs.Table.{MoverState, has_table_row, take_of}
use Rattle.og_relate.specs.Data.{Post, Cpu, HomeSide}
use Rattle.og_seen.specs.Numbers.{Sizes}
use Rattle.og_seen.specs.Messages.{kind_seen, post_seen}
use Rattle.og_seen.specs.Harts.{Hart}
use Rattle.og_seen.specs.Movers.{mover_seen}
use Rattle.og_seen.specs.Sound.{AreSizes, IsMoverOf}
use Rattle.og_seen.specs.Events.{Shows, MoverGoes}
use Rattle.og_refine_mover.proofs.Sent.{only_ours}
use Rattle.og_refine_mover.proofs.Blocks.{Takes, Comes, reply_comes, ack_comes, refusal_comes, copied_comes}
use Rattle.og_refine_mover.proofs.Frames.{drop_comes, clean_comes, walk_comes}
use Rattle.og_refine_mover.proofs.Notices.{notice_comes}

-- by its kind
kind_comes : (image : ImageState) (s : Sizes) (cpu : ℕ → Cpu Line Hart) (home : ℕ → HomeSide Line) (w : World Line) (rest : List (Post Line)) (m : MoverState) (from : ℕ) (k : Kind) → AreSizes s → IsMoverOf s m →
    Comes image s cpu home w rest m from k → Takes image s cpu home w rest m from k
kind_comes image s cpu home w rest m from (Walk page) sizes is sim = walk_comes image s cpu home w rest m.pages m.settings m.job from page is sim
kind_comes image s cpu home w rest m from (Hot hot) sizes is sim = notice_comes image s cpu home w rest m.pages m.settings m.job from hot sizes is sim
kind_comes image s cpu home w rest m from (PoisonReply b line acks) sizes is sim = reply_comes image s cpu home w rest m.pages m.settings m.job from b line acks sizes is sim
kind_comes image s cpu home w rest m from (InvalAck b) sizes is sim = ack_comes image s cpu home w rest m.pages m.settings m.job from b is sim
kind_comes image s cpu home w rest m from (Nak b) sizes is sim = refusal_comes image s cpu home w rest m.pages m.settings m.job from b sizes is sim
kind_comes image s cpu home w rest m from (CopyDone b) sizes is sim = copied_comes image s cpu home w rest m.pages m.settings m.job from b sizes is sim
kind_comes image s cpu home w rest m from (Dropped frame) sizes is sim = drop_comes image s cpu home w rest m.pages m.settings m.job from frame is sim
kind_comes image s cpu home w rest m from (FrameClean frame) sizes is sim = clean_comes image s cpu home w rest m.pages m.settings m.job from frame sizes is sim
kind_comes image s cpu home w rest m from k sizes is sim = absurd (only_ours s w from k sizes refl sim.flight.0.0)

-- the law
pub takes : (image : ImageState) (s : Sizes) (cpu : ℕ → Cpu Line Hart) (home : ℕ → HomeSide Line) (w : World Line) (m : MoverState) (message : Msg Kind) (rest : List (Post Line)) → AreSizes s → IsMoverOf s m → message.to ≡ s.nodes → Shows image s cpu home (mover_seen s m) (post_seen s message ∷ rest) w →
    (has_table_row m message ≡ true) × MoverGoes image s cpu home rest w (take_of m message)
unfolding take_of has_table_row
takes image s cpu home w m message rest sizes is ours sim =
    kind_comes image s cpu home w rest m message.id.sender message.kind sizes is
    (subst (λ (n : ℕ). Shows image s cpu home (mover_seen s m) (record { from = message.id.sender; to = n; kind = kind_seen s message.kind } ∷ rest) w) ours sim)
