-- A request that waits is seen to wait.
use Rattle.std.proofs.Common.{◌≡◌, ℕ, Bool, true, false, cond, nat_eq, refl, Option, None, Some}
use Rattle.std.specs.Prelude.{if◌then◌else◌}
use Rattle.og_line.specs.declared.Line.{Line}
use Rattle.og_line.specs.declared.Mode.TheVariants.{Dirty}
use Rattle.og_block.specs.State.{Copy, NoCopy, Shared, Clean, Dirty as DirtyCopy}
use Rattle.og_request.specs.declared.Want.{Want}
use Rattle.og_request.specs.declared.Want.TheVariants.{Read, ReadEx, Upgrade}
use Rattle.og_request.specs.declared.Reply.{Reply}
use Rattle.og_request.specs.declared.Reply.TheVariants.{Shared as SharedPart, Exclusive as ExclusivePart, Speculative as SpeculativePart, Upgrade as UpgradePart, Nak as NakPart, PoisonError as PoisonErrorPart}
use Rattle.og_request.specs.declared.Response.{Response}
use Rattle.og_request.specs.declared.Response.TheVariants.{Shared as SharedLine, Exclusive as ExclusiveLine, OwnerAck as HomeLineIsGood}
use Rattle.og_request.specs.declared.Outcome.TheVariants.{Waiting, Filled}
use Rattle.og_request.specs.Request.{Requested, outcome_by, outcome_of}
use Rattle.og_relate.specs.Node.{Waits, Writes, outcome}
use Rattle.og_seen.specs.Processors.{want_seen, got_seen, response_seen}

-- acknowledgements that are still to come
to_come : (t : Bool) (line : Option Line) (l : Line) → (if t then Filled Dirty line else Waiting) ≡ Waiting → cond t (Writes l) Waits ≡ Waits
to_come true line l e = absurd (cc)
to_come false line l e = refl

waits_by : (want : Want) (marked : Bool) (reply : Option Reply) (response : Option Response) (acks : ℕ) (copy : Copy Line) → outcome_by want marked reply response acks ≡ Waiting → outcome (want_seen want marked) (got_seen reply) (response_seen response) acks copy ≡ Waits
waits_by Read marked None response acks copy e = refl
waits_by Read true (Some (SharedPart l)) response acks copy e = absurd (cc)
waits_by Read false (Some (SharedPart l)) response acks copy e = absurd (cc)
waits_by Read marked (Some (ExclusivePart l named)) response acks copy e = absurd (cc)
waits_by Read true (Some (SpeculativePart l)) None acks copy e = refl
waits_by Read false (Some (SpeculativePart l)) None acks copy e = refl
waits_by Read true (Some (SpeculativePart l)) (Some (SharedLine m)) acks copy e = absurd (cc)
waits_by Read false (Some (SpeculativePart l)) (Some (SharedLine m)) acks copy e = absurd (cc)
waits_by Read true (Some (SpeculativePart l)) (Some (ExclusiveLine m)) acks copy e = refl
waits_by Read false (Some (SpeculativePart l)) (Some (ExclusiveLine m)) acks copy e = refl
waits_by Read true (Some (SpeculativePart l)) (Some HomeLineIsGood) acks copy e = absurd (cc)
waits_by Read false (Some (SpeculativePart l)) (Some HomeLineIsGood) acks copy e = absurd (cc)
waits_by Read marked (Some (UpgradePart named)) response acks copy e = refl
waits_by Read marked (Some NakPart) response acks copy e = absurd (cc)
waits_by Read marked (Some PoisonErrorPart) response acks copy e = absurd (cc)
waits_by ReadEx marked None response acks copy e = refl
waits_by ReadEx marked (Some (SharedPart l)) response acks copy e = refl
waits_by ReadEx marked (Some (ExclusivePart l named)) response acks copy e = to_come (nat_eq acks named) (Some l) l e
waits_by ReadEx marked (Some (SpeculativePart l)) None acks copy e = refl
waits_by ReadEx marked (Some (SpeculativePart l)) (Some (SharedLine m)) acks copy e = refl
waits_by ReadEx marked (Some (SpeculativePart l)) (Some (ExclusiveLine m)) acks copy e = absurd (cc)
waits_by ReadEx marked (Some (SpeculativePart l)) (Some HomeLineIsGood) acks copy e = absurd (cc)
waits_by ReadEx marked (Some (UpgradePart named)) response acks copy e = refl
waits_by ReadEx marked (Some NakPart) response acks copy e = absurd (cc)
waits_by ReadEx marked (Some PoisonErrorPart) response acks copy e = absurd (cc)
waits_by Upgrade marked None response acks copy e = refl
waits_by Upgrade marked (Some (SharedPart l)) response acks copy e = refl
waits_by Upgrade marked (Some (ExclusivePart l named)) response acks copy e = to_come (nat_eq acks named) (Some l) l e
waits_by Upgrade marked (Some (SpeculativePart l)) response acks copy e = refl
waits_by Upgrade marked (Some (UpgradePart named)) response acks (Shared l) e = to_come (nat_eq acks named) None l e
waits_by Upgrade marked (Some (UpgradePart named)) response acks NoCopy e = refl
waits_by Upgrade marked (Some (UpgradePart named)) response acks (Clean l) e = refl
waits_by Upgrade marked (Some (UpgradePart named)) response acks (DirtyCopy l) e = refl
waits_by Upgrade marked (Some NakPart) response acks copy e = absurd (cc)
waits_by Upgrade marked (Some PoisonErrorPart) response acks copy e = absurd (cc)

pub seen_waiting : (request : Requested) (copy : Copy Line) → outcome_of request ≡ Waiting → outcome (want_seen request.want request.marked) (got_seen request.reply) (response_seen request.response) request.acks copy ≡ Waits
unfolding outcome_of
seen_waiting request copy e = waits_by request.want request.marked request.reply request.response request.acks copy e
