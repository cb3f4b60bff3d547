use Rattle.std.proofs.Common.{ap, ◌∙◌}
use Rattle.og_fabric.specs.Sides.{sent_more}
use Rattle.og_fabric.specs.Shown.{message_of}
use Rattle.og_purses.proofs.Row.{fits_one, going_one, letter}
use Rattle.og_purses.proofs.by_hand.exchange.Goals as goal

pub send-id-requires-clause-fits : goal.send-id-requires-clause-fits
send-id-requires-clause-fits g c = fits_one c.take.new.seat.side (c.in-Nothing.ensures.took.0 ∙ ap (λ k. k.side) c.requires.zero)

pub take-requires-2-clause-going : goal.take-requires-2-clause-going
take-requires-2-clause-going g c = going_one c.send-id.new.seat.side (ap (λ k. k.side) c.send-id.ensures.seat ∙ ap (λ h. sent_more h (message_of h letter 1)) (c.in-Nothing.ensures.took.0 ∙ ap (λ k. k.side) c.requires.zero))
