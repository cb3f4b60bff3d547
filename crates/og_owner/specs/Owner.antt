-- The owner's table: what a node answers to an intervention by its copy, and to an invalidation.
use Rattle.std.specs.Prelude.{ℕ, Bool, true, false, ◌&&◌, Option, Some, None, List, [], ◌∷◌, if◌then◌else◌}
use Rattle.og_base.specs.declared.Block.{Block}
use Rattle.og_base.specs.Names.{is_same_block}
use Rattle.og_line.specs.declared.Line.{Line}
use Rattle.og_line.specs.declared.Mode.{Mode}
use Rattle.og_line.specs.declared.Mode.TheVariants.{Shared, Clean, Dirty}
use Rattle.og_runs.specs.declared.Letter.{Letter}
use Rattle.og_msg.specs.declared.Kind.{Kind}
use Rattle.og_msg.specs.declared.Kind.TheVariants.{SharedResponse, SharingWriteBack, ExclusiveResponse, DirtyTransfer, PoisonBack, OwnerAck, SharingTransfer, PoisonClean}
use Rattle.og_cache.specs.Cache.{Cached, with_mode, without}
use Rattle.og_request.specs.declared.Want.{Want}
use Rattle.og_request.specs.declared.Want.TheVariants.{Read, ReadEx, Upgrade}
use Rattle.og_request.specs.declared.Held.{Held}
use Rattle.og_request.specs.declared.Held.TheVariants.{Shared as ShareWith, Exclusive as GiveTo, Poison as GiveBack}
use Rattle.og_request.specs.Request.{Requested}

abbrev pub Letters : Type 0
Letters = List (Letter Kind)

-- a letter to an actor
abbrev pub letter : ℕ → Kind → Letter Kind
letter to kind = record { to = to; kind = kind }

-- the answers to an intervention for a block that is dirty here, with its line: to the requester, then to the home
abbrev pub dirty_answers : Block → Line → Held → Letters
dirty_answers block line (ShareWith r) = letter r (SharedResponse block line) ∷ letter block.frame.home (SharingWriteBack block line) ∷ []
dirty_answers block line (GiveTo r) = letter r (ExclusiveResponse block line) ∷ letter block.frame.home (DirtyTransfer block) ∷ []
dirty_answers block line GiveBack = letter block.frame.home (PoisonBack block line) ∷ []

-- the answers to an intervention for a block that is clean here, or isn't here any more
abbrev pub clean_answers : Block → Held → Letters
clean_answers block (ShareWith r) = letter r (OwnerAck block) ∷ letter block.frame.home (SharingTransfer block) ∷ []
clean_answers block (GiveTo r) = letter r (OwnerAck block) ∷ letter block.frame.home (DirtyTransfer block) ∷ []
clean_answers block GiveBack = letter block.frame.home (PoisonClean block) ∷ []

-- the line of a copy in this mode, where it is dirty
abbrev pub line_if_dirty : Mode → Line → Option Line
line_if_dirty Shared line = None
line_if_dirty Clean line = None
line_if_dirty Dirty line = Some line

-- the line of a dirty copy
abbrev pub dirty_line_of : Option (Mode × Line) → Option Line
dirty_line_of None = None
dirty_line_of (Some copy) = line_if_dirty copy.0 copy.1

-- the answers to an intervention, by the line of a dirty copy
abbrev pub answers_by : Option Line → Block → Held → Letters
answers_by (Some line) block held = dirty_answers block line held
answers_by None block held = clean_answers block held

-- the answers to an intervention, by the copy
unfoldable pub answers : Option (Mode × Line) → Block → Held → Letters
answers copy block held = answers_by (dirty_line_of copy) block held

-- the cache after an intervention: a copy is shared, or gone
unfoldable pub after_intervention : Cached → Block → Held → Cached
after_intervention cache block (ShareWith r) = with_mode cache block Shared
after_intervention cache block (GiveTo r) = without cache block
after_intervention cache block GiveBack = without cache block

-- a read is wanted
abbrev pub is_read : Want → Bool
is_read Read = true
is_read ReadEx = false
is_read Upgrade = false

-- a request after an invalidation of a block: a read of that block is marked
abbrev pub after_invalidation : Requested → Block → Requested
after_invalidation request block =
    if is_same_block request.block block && is_read request.want then record request { marked = true } else request

-- the same, where there may be no request
abbrev pub invalidated : Option Requested → Block → Option Requested
invalidated None block = None
invalidated (Some request) block = Some (after_invalidation request block)
