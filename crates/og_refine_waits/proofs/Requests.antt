-- A request that waits goes on waiting where nothing is received.
use Rattle.std.proofs.Common.{◌≡◌, ℕ, Bool, true, false, ◌&&◌, Option, None, Some, refl, subst, arith}
use Rattle.std.specs.Prelude.{is_some, if◌then◌else◌}
use Rattle.og_base.specs.declared.Block.{Block}
use Rattle.og_base.specs.Names.{is_same_block}
use Rattle.og_request.specs.declared.Want.{Want}
use Rattle.og_request.specs.declared.Want.TheVariants.{Read, ReadEx, Upgrade}
use Rattle.og_request.specs.declared.Held.{Held}
use Rattle.og_request.specs.declared.Reply.{Reply}
use Rattle.og_request.specs.declared.Response.{Response}
use Rattle.og_request.specs.declared.Outcome.TheVariants.{Waiting}
use Rattle.og_request.specs.Request.{Requested, new_request, outcome_of, outcome_by}
use Rattle.og_owner.specs.Owner.{invalidated, after_invalidation, is_read}
use Rattle.og_processor.specs.Take.{holding}

-- the request that may be there waits
abbrev pub Waits : Option Requested → Type 0
Waits o = (request : Requested) → o ≡ Some request → outcome_of request ≡ Waiting

pub none_waits : (o : Option Requested) → o ≡ None → Waits o
none_waits o none r e = absurd (cc)

pub one_waits : (q : Requested) → outcome_of q ≡ Waiting → Waits (Some q)
one_waits q w r e = let one : q ≡ r = cc in subst (λ (z : Requested). outcome_of z ≡ Waiting) one w

-- a new request has nothing yet
pub new_waits : (want : Want) (block : Block) → outcome_of (new_request want block) ≡ Waiting
unfolding new_request outcome_of
new_waits Read block = refl
new_waits ReadEx block = refl
new_waits Upgrade block = refl

-- what is held decides nothing
pub held_waits : (held : Held) (o : Option Requested) → Waits o → Waits (holding held o)
unfolding outcome_of
held_waits held None w = none_waits None refl
held_waits held (Some q) w = one_waits (record q { held = Some held }) (w q refl)

pub held_same : (held : Held) (o : Option Requested) → is_some (holding held o) ≡ is_some o
held_same held None = refl
held_same held (Some q) = refl

-- a mark decides only what the line that came is good for
marked_by : (want : Want) (marked : Bool) (reply : Option Reply) (response : Option Response) (acks : ℕ) → outcome_by want marked reply response acks ≡ Waiting → outcome_by want true reply response acks ≡ Waiting
marked_by want marked reply response acks w = grind arith

marked_waits : (q : Requested) (t : Bool) → outcome_of q ≡ Waiting → outcome_of (if t then record q { marked = true } else q) ≡ Waiting
unfolding outcome_of
marked_waits q true w = marked_by q.want q.marked q.reply q.response q.acks w
marked_waits q false w = w

pub invalidated_waits : (block : Block) (o : Option Requested) → Waits o → Waits (invalidated o block)
invalidated_waits block None w = none_waits None refl
invalidated_waits block (Some q) w = one_waits (after_invalidation q block) (marked_waits q (is_same_block q.block block && is_read q.want) (w q refl))

pub invalidated_same : (block : Block) (o : Option Requested) → is_some (invalidated o block) ≡ is_some o
invalidated_same block None = refl
invalidated_same block (Some q) = refl
