use Rattle.std.proofs.Common.{rules, ◌≡◌, ◌∷◌, suc, drop, ap, sym, ◌∙◌}
use Rattle.std.proofs.Math.Seq.{drop-cons}
use Rattle.og_actors.proofs.Playing.{fits_here}
use Rattle.og_actors.proofs.actor.send_all.Goals as goal

pub send-requires-clause-fits : goal.send-requires-clause-fits
send-requires-clause-fits g c =
    let at = c.loop-i in
    let letters = c.args.letters.now in
    let e : drop at.i letters ≡ c.index-letters-i.result ∷ drop (suc at.i) letters = drop-cons letters at.i c.index-letters-i.result (search rules) ∙ ap (λ z. z ∷ drop (suc at.i) letters) (sym c.index-letters-i.is) in
    fits_here g.S.Scheme.rules g.S.Scheme.start g.S.Scheme.most at.seat.side c.args.seat.now.side c.args.clock c.index-letters-i.result (drop (suc at.i) letters) (drop at.i letters) letters e at.invariant.sent c.requires.fits
