-- The requester's table: what a request has received, what that makes of it, and which messages may come next.
use Rattle.std.specs.Prelude.{ℕ, ◌+◌, Bool, true, false, ◌&&◌, ◌==◌, nat_lt, nat_le, Option, Some, None, is_none, if◌then◌else◌}
use Rattle.og_base.specs.declared.Block.{Block}
use Rattle.og_base.specs.Names.{is_same_block}
use Rattle.og_line.specs.declared.Line.{Line}
use Rattle.og_line.specs.declared.Mode.TheVariants.{Shared, Clean, Dirty}
use Rattle.og_msg.specs.declared.Kind.{Kind}
use Rattle.og_msg.specs.declared.Kind.TheVariants.{SharedReply, SpecReply, ExclusiveReply, UpgradeReply, Nak, PoisonError, SharedResponse, ExclusiveResponse, OwnerAck, InvalAck}
use Rattle.og_msg.specs.Kinds.{block_of}
use Rattle.og_request.specs.declared.Want.{Want}
use Rattle.og_request.specs.declared.Want.TheVariants.{Read, ReadEx, Upgrade}
use Rattle.og_request.specs.declared.Held.{Held}
use Rattle.og_request.specs.declared.Reply.{Reply}
use Rattle.og_request.specs.declared.Reply.TheVariants.{Shared as SharedPart, Exclusive as ExclusivePart, Speculative as SpeculativePart, Upgrade as UpgradePart, Nak as NakPart, PoisonError as PoisonErrorPart}
use Rattle.og_request.specs.declared.Response.{Response}
use Rattle.og_request.specs.declared.Response.TheVariants.{Shared as SharedLine, Exclusive as ExclusiveLine, OwnerAck as HomeLineIsGood}
use Rattle.og_request.specs.declared.Outcome.{Outcome}
use Rattle.og_request.specs.declared.Outcome.TheVariants.{Waiting, Filled, Again, Poisoned}

-- a request: its block, what it wants, whether an invalidation marked it, the intervention that is held for it, and the
-- parts that it has received: the home's reply, the owner's response, and so many acknowledgements of invalidations
pub record Requested : Type 0 where
  pub block : Block
  pub want : Want
  pub marked : Bool
  pub held : Option Held
  pub reply : Option Reply
  pub response : Option Response
  pub acks : ℕ

-- a request that was just sent
unfoldable pub new_request : Want → Block → Requested
new_request want block =
    record { block = block; want = want; marked = false; held = None; reply = None; response = None; acks = 0 }

-- the request with one more part
unfoldable pub received : Requested → Kind → Requested
received request (SharedReply block line) = record request { reply = Some (SharedPart line) }
received request (ExclusiveReply block line acks) = record request { reply = Some (ExclusivePart line acks) }
received request (SpecReply block line) = record request { reply = Some (SpeculativePart line) }
received request (UpgradeReply block acks) = record request { reply = Some (UpgradePart acks) }
received request (Nak block) = record request { reply = Some NakPart }
received request (PoisonError block) = record request { reply = Some PoisonErrorPart }
received request (SharedResponse block line) = record request { response = Some (SharedLine line) }
received request (ExclusiveResponse block line) = record request { response = Some (ExclusiveLine line) }
received request (OwnerAck block) = record request { response = Some HomeLineIsGood }
received request (InvalAck block) = record request { acks = request.acks + 1 }
received request kind = request

-- a shared fill, which a marked read may not make
abbrev pub shared_fill : Bool → Line → Outcome
shared_fill marked line = if marked then Again else Filled Shared (Some line)

-- a fill of the only copy, once all acknowledgements are there
abbrev pub fill_after : (acks named : ℕ) → Option Line → Outcome
fill_after acks named line = if acks == named then Filled Dirty line else Waiting

-- the outcome of a request, by what it wants, its mark and its parts: a clause for each row of the table
abbrev pub outcome_by : Want → (marked : Bool) → Option Reply → Option Response → (acks : ℕ) → Outcome
outcome_by Read marked (Some (SharedPart line)) response acks = shared_fill marked line
outcome_by Read marked (Some (ExclusivePart line named)) response acks = Filled Clean (Some line)
outcome_by Read marked (Some (SpeculativePart line)) (Some (SharedLine newer)) acks = shared_fill marked newer
outcome_by Read marked (Some (SpeculativePart line)) (Some HomeLineIsGood) acks = shared_fill marked line
outcome_by ReadEx marked (Some (ExclusivePart line named)) response acks = fill_after acks named (Some line)
outcome_by ReadEx marked (Some (SpeculativePart line)) (Some (ExclusiveLine newer)) acks = Filled Dirty (Some newer)
outcome_by ReadEx marked (Some (SpeculativePart line)) (Some HomeLineIsGood) acks = Filled Dirty (Some line)
outcome_by Upgrade marked (Some (UpgradePart named)) response acks = fill_after acks named None
outcome_by Upgrade marked (Some (ExclusivePart line named)) response acks = fill_after acks named (Some line)
outcome_by want marked (Some NakPart) response acks = Again
outcome_by want marked (Some PoisonErrorPart) response acks = Poisoned
outcome_by want marked reply response acks = Waiting

-- the outcome of a request with the parts that it has
unfoldable pub outcome_of : Requested → Outcome
outcome_of request = outcome_by request.want request.marked request.reply request.response request.acks

-- nothing was received
abbrev pub is_new : Requested → Bool
is_new request = is_none request.reply && is_none request.response && (request.acks == 0)

-- no reply yet, or the speculative one: a response may come
abbrev pub awaits_response : Option Reply → Bool
awaits_response None = true
awaits_response (Some (SpeculativePart line)) = true
awaits_response (Some reply) = false

-- the responses that fit what is wanted
abbrev pub fits_response : Want → Option Response → Bool
fits_response want None = true
fits_response Read (Some (SharedLine line)) = true
fits_response Read (Some HomeLineIsGood) = true
fits_response ReadEx (Some (ExclusiveLine line)) = true
fits_response ReadEx (Some HomeLineIsGood) = true
fits_response want (Some response) = false

-- how many acknowledgements may come: as many as the reply names, and as many as one may name before it is there
abbrev pub most_acks : Option Reply → ℕ
most_acks None = 255
most_acks (Some (ExclusivePart line named)) = named
most_acks (Some (UpgradePart named)) = named
most_acks (Some reply) = 0

-- a first reply that names no more acknowledgements than there are, where no response is
abbrev pub counts_acks : Requested → ℕ → Bool
counts_acks request named = is_none request.reply && is_none request.response && nat_le request.acks named

-- a speculative reply fits: it is the first reply, with a response that fits or before it
abbrev pub speculates : Requested → Bool
speculates request = is_none request.reply && fits_response request.want request.response && (request.acks == 0)

-- a response fits: it is the first one, with the speculative reply or before it
abbrev pub responds : Requested → Bool
responds request = is_none request.response && awaits_response request.reply && (request.acks == 0)

-- one more acknowledgement fits
abbrev pub acknowledges : Requested → Bool
acknowledges request = is_none request.response && nat_lt request.acks (most_acks request.reply)

-- the table has this kind of part for what is wanted, with the parts that were received
abbrev pub has_part : Want → Requested → Kind → Bool
has_part Read request (SharedReply block line) = is_new request
has_part Read request (ExclusiveReply block line named) = is_new request && (named == 0)
has_part Read request (SpecReply block line) = speculates request
has_part Read request (SharedResponse block line) = responds request
has_part Read request (OwnerAck block) = responds request
has_part ReadEx request (ExclusiveReply block line named) = counts_acks request named
has_part ReadEx request (InvalAck block) = acknowledges request
has_part ReadEx request (SpecReply block line) = speculates request
has_part ReadEx request (ExclusiveResponse block line) = responds request
has_part ReadEx request (OwnerAck block) = responds request
has_part Upgrade request (UpgradeReply block named) = counts_acks request named
has_part Upgrade request (ExclusiveReply block line named) = counts_acks request named
has_part Upgrade request (InvalAck block) = acknowledges request
has_part want request (Nak block) = is_new request
has_part want request (PoisonError block) = is_new request
has_part want request kind = false

-- the message is for the request's block
abbrev pub is_about : Block → Option Block → Bool
is_about block None = false
is_about block (Some other) = is_same_block other block

-- the table has a row for this message
unfoldable pub has_row : Requested → Kind → Bool
has_row request kind = is_about request.block (block_of kind) && has_part request.want request kind

-- the line of an exclusive response that was received
abbrev pub response_line : Option Response → Option Line
response_line None = None
response_line (Some (SharedLine line)) = None
response_line (Some (ExclusiveLine line)) = Some line
response_line (Some HomeLineIsGood) = None
