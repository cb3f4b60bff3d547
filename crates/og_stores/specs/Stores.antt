-- How many stores the lines of a machine have seen: wherever one is held, at most n.
use Rattle.std.specs.Prelude.{◌≡◌, ℕ, ◌≤◌, Option, Some, IfSome, slice_get}
use Rattle.og_base.specs.declared.Block.{Block}
use Rattle.og_line.specs.declared.Line.{Line}
use Rattle.og_runs.specs.declared.MsgId.{MsgId}
use Rattle.og_runs.specs.declared.Msg.{Msg}
use Rattle.og_runs.specs.declared.Seat.{Seat}
use Rattle.og_runs.specs.World.{find}
use Rattle.og_msg.specs.declared.Kind.{Kind}
use Rattle.og_msg.specs.Kinds.{line_of as message_line}
use Rattle.og_cache.specs.Cache.{line_of}
use Rattle.og_request.specs.Request.{Requested}
use Rattle.og_home.specs.Home.{HomeState}
use Rattle.og_processor.specs.State.{ProcessorState}
use Rattle.og_processor.specs.Sound.{replied_line, responded_line}
use Rattle.og_mover.specs.declared.Reply.{Reply}
use Rattle.og_mover.specs.declared.Phase.{Phase}
use Rattle.og_mover.specs.declared.Phase.TheVariants.{Collect, Hold}
use Rattle.og_mover.specs.declared.Job.{Job}
use Rattle.og_mover.specs.declared.Job.TheVariants.{Move}
use Rattle.og_machine.specs.Machine.{ActorState, Node, Mover, Machine}

-- a line, if there is one, has seen at most n stores
abbrev pub HasFew : ℕ → Option Line → Type 0
HasFew n line = IfSome line (λ l. l.stores ≤ n)

-- the line that a message carries
abbrev pub FewInKind : ℕ → Kind → Type 0
FewInKind n kind = HasFew n (message_line kind)

-- each line of the cache, and each that the request has received
pub record FewInProcessor (n : ℕ) (x : ProcessorState) : Type 0 where
  pub cached : (block : Block) → HasFew n (line_of x.cache block)
  pub replied : (request : Requested) → x.request ≡ Some request → HasFew n (replied_line request.reply)
  pub responded : (request : Requested) → x.request ≡ Some request → HasFew n (responded_line request.response)

-- each line of a home's memory
abbrev pub FewInHome : ℕ → HomeState → Type 0
FewInHome n home = (index number : ℕ) → (home.line index number).stores ≤ n

-- the line of a reply that the mover has received
abbrev pub FewInReply : ℕ → Option Reply → Type 0
FewInReply n reply = IfSome reply (λ r. r.line.stores ≤ n)

-- the line that the mover has received, or holds
abbrev pub FewInPhase : ℕ → Phase → Type 0
FewInPhase n (Collect b received) = FewInReply n received.reply
FewInPhase n (Hold b line) = line.stores ≤ n
FewInPhase n phase = Unit {0}

abbrev pub FewInJob : ℕ → Job → Type 0
FewInJob n (Move route phase) = FewInPhase n phase
FewInJob n job = Unit {0}

-- each line of an actor: a node has a processor and a home, and the mover has a job
abbrev pub FewInActor : ℕ → ActorState → Type 0
FewInActor n (Node x) = FewInProcessor n x.processor × FewInHome n x.home
FewInActor n (Mover m) = FewInJob n m.job

-- each line of each actor, and of each message in flight
pub record FewInMachine (n : ℕ) (w : Machine) : Type 0 where
  pub held : (q : ℕ) (seat : Seat ActorState) → slice_get w.seats q ≡ Some seat → FewInActor n seat.local
  pub sent : (id : MsgId) (message : Msg Kind) → find id w.flight ≡ Some message → FewInKind n message.kind
