-- What a processor is between events, and how many stores the lines have seen that it works on.
use Rattle.std.specs.Prelude.{◌≡◌, ℕ, ◌<◌, ◌^◌, true, ◌⊎◌, IsSome, Option, Some, None}
use Rattle.og_base.specs.declared.Block.{Block}
use Rattle.og_line.specs.declared.Line.{Line}
use Rattle.og_line.specs.declared.Access.{Access}
use Rattle.og_msg.specs.declared.Kind.{Kind}
use Rattle.og_msg.specs.Kinds.{line_of as message_line}
use Rattle.og_image.specs.Image.{ImageState}
use Rattle.og_cache.specs.Cache.{look_of, line_of, has_room}
use Rattle.og_request.specs.declared.Reply.{Reply}
use Rattle.og_request.specs.declared.Reply.TheVariants.{Shared as SharedPart, Exclusive as ExclusivePart, Speculative as SpeculativePart}
use Rattle.og_request.specs.declared.Response.{Response}
use Rattle.og_request.specs.declared.Response.TheVariants.{Shared as SharedLine, Exclusive as ExclusiveLine}
use Rattle.og_request.specs.declared.Outcome.{Outcome}
use Rattle.og_request.specs.declared.Outcome.TheVariants.{Filled}
use Rattle.og_request.specs.Request.{Requested}
use Rattle.rv_hart.specs.declared.hart.Need.TheVariants as need
use Rattle.rv_hart.specs.Hart.{need_of}
use Rattle.og_processor.specs.State.{ProcessorState}

-- the hart waits for an access, and the block for which it waits is there or has room
pub record IsWaiting (image : ImageState) (x : ProcessorState) (block : Block) : Type 0 where
  pub runs : x.hart.cause ≡ None
  pub access : Access
  pub needs : need_of image x.hart ≡ need.Access access
  pub place : IsSome (look_of x.cache block) ⊎ (has_room x.cache block ≡ true)

-- an outstanding request is an access's
abbrev pub IsSound : ImageState → ProcessorState → Type 0
IsSound image x = (request : Requested) → x.request ≡ Some request → IsWaiting image x request.block

-- ---- lines that have seen fewer than 2 ^ 63 stores

abbrev pub IsLow : Option Line → Type 0
IsLow line = (l : Line) → line ≡ Some l → l.stores < 2 ^ 63

abbrev pub replied_line : Option Reply → Option Line
replied_line (Some (SharedPart line)) = Some line
replied_line (Some (ExclusivePart line acks)) = Some line
replied_line (Some (SpeculativePart line)) = Some line
replied_line reply = None

abbrev pub responded_line : Option Response → Option Line
responded_line (Some (SharedLine line)) = Some line
responded_line (Some (ExclusiveLine line)) = Some line
responded_line response = None

-- each line of the cache, and each that a request has received
pub record IsLowProcessor (x : ProcessorState) : Type 0 where
  pub cached : (block : Block) → IsLow (line_of x.cache block)
  pub replied : (request : Requested) → x.request ≡ Some request → IsLow (replied_line request.reply)
  pub responded : (request : Requested) → x.request ≡ Some request → IsLow (responded_line request.response)

abbrev pub IsLowKind : Kind → Type 0
IsLowKind kind = IsLow (message_line kind)

-- the line that an outcome brings
abbrev pub line_brought : Outcome → Option Line
line_brought (Filled mode line) = line
line_brought outcome = None
