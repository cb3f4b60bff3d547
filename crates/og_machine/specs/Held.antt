-- Where a block of a page is, and which line the machine holds for it: said of the machine's own data.
use Rattle.std.specs.Prelude.{ℕ, ◌/◌, ◌%◌, nat_eq, Option, None, Some, List, [], ◌∷◌, slice_index_or, if◌then◌else◌}
use Rattle.std.specs.Option.{option_map}
use Rattle.og_base.specs.declared.Block.{Block}
use Rattle.og_base.specs.declared.Frame.{Frame}
use Rattle.og_base.specs.declared.VPage.{VPage}
use Rattle.og_base.specs.Names.{is_same_block}
use Rattle.og_line.specs.declared.Line.{Line}
use Rattle.og_line.specs.declared.Mode.{Mode}
use Rattle.og_line.specs.declared.Mode.TheVariants as mode
use Rattle.og_msg.specs.declared.Kind.{Kind}
use Rattle.og_msg.specs.declared.Kind.TheVariants.{WriteBack, ExclusiveResponse, SharingWriteBack, PoisonBack}
use Rattle.og_cache.specs.Cache.{look_of}
use Rattle.og_request.specs.Request.{Requested}
use Rattle.og_request.specs.declared.Response.{Response}
use Rattle.og_request.specs.declared.Response.TheVariants as response
use Rattle.og_mover.specs.Table.{place_of}
use Rattle.og_machine.specs.Machine.{ActorState, Node, Mover, Machine, or_else}

-- what the first of a list that has something has
abbrev pub first_of : {X Y : Type 0} → (X → Option Y) → List X → Option Y
first_of f [] = None
first_of f (x ∷ xs) = or_else (f x) (first_of f xs)

-- ------------------------------------------------------------ where a block is

abbrev pub place_by : VPage → ℕ → ActorState → Option Frame
place_by page number (Node x) = None
place_by page number (Mover m) = place_of m page number

-- the frame in which a block of a page is, if the page is placed: the mover knows
unfoldable pub place : Machine → VPage → (number : ℕ) → Option Frame
place w page number = first_of (λ x. place_by page number x.local) w.seats

-- ------------------------------------------------------------ who has its line

abbrev pub line_if_dirty : Option (Mode × Line) → Option Line
line_if_dirty None = None
line_if_dirty (Some (mode.Shared, line)) = None
line_if_dirty (Some (mode.Clean, line)) = None
line_if_dirty (Some (mode.Dirty, line)) = Some line

-- a dirty copy in a cache
abbrev pub dirty_copy : Block → ActorState → Option Line
dirty_copy block (Node x) = line_if_dirty (look_of x.processor.cache block)
dirty_copy block (Mover m) = None

abbrev pub line_if_same : Block → Block → Line → Option Line
line_if_same block named line = if is_same_block block named then Some line else None

-- a line on its way home, or to the node that gets the only copy
abbrev pub carried : Block → Kind → Option Line
carried block (WriteBack named line) = line_if_same block named line
carried block (ExclusiveResponse named line) = line_if_same block named line
carried block (SharingWriteBack named line) = line_if_same block named line
carried block (PoisonBack named line) = line_if_same block named line
carried block kind = None

abbrev pub line_given : Option Response → Option Line
line_given (Some (response.Exclusive line)) = Some line
line_given response = None

abbrev pub line_received : Block → Option Requested → Option Line
line_received block None = None
line_received block (Some request) = if is_same_block block request.block then line_given request.response else None

-- the only copy, which an outstanding request has received and not filled yet
abbrev pub received : Block → ActorState → Option Line
received block (Node x) = line_received block x.processor.request
received block (Mover m) = None

abbrev pub line_at_home : Block → ActorState → Option Line
line_at_home block (Node x) = if nat_eq x.home.rules.home block.frame.home then Some (x.home.line block.frame.index block.number) else None
line_at_home block (Mover m) = None

-- the line of a block: of a dirty copy; else one that is carried, or was received; else the home's
unfoldable pub line_of_block : Machine → Block → Option Line
line_of_block w block =
    or_else (first_of (λ x. dirty_copy block x.local) w.seats)
    (or_else (first_of (λ m. carried block m.kind) w.flight)
    (or_else (first_of (λ x. received block x.local) w.seats) (first_of (λ x. line_at_home block x.local) w.seats)))

abbrev pub block_in : (number : ℕ) → Frame → Block
block_in number frame = record { frame = frame; number = number }

abbrev pub held_in : Machine → (number : ℕ) → Option Frame → Option Line
held_in w number None = None
held_in w number (Some frame) = line_of_block w (block_in number frame)

-- the line that the machine holds for a block of a page, if the page is placed
unfoldable pub held : Machine → VPage → (number : ℕ) → Option Line
held w page number = held_in w number (place w page number)

-- the byte that it holds at an address, if the address is in a placed page
unfoldable pub held_byte : Machine → (address : ℕ) → Option ℕ
held_byte w address =
    option_map (λ line. slice_index_or line.bytes (address % 128) 0) (held w (record { 0 = address / 4096 }) (address / 128 % 32))
