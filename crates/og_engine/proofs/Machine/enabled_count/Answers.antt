use Rattle.std.proofs.Common.{◌≡◌, ◌∙◌, ℕ, ap}
use Rattle.og_engine.specs.Kept.{offer_of}
use Rattle.og_engine.proofs.Offered.{count_as}
use Rattle.og_engine.proofs.Machine.enabled_count.Goals as goal

pub returns : goal.returns
returns c =
    let same : c.self.inside.choices ≡ offer_of c.args.self.now = ap (λ (n : ℕ). record { flight = c.self.inside.choices.flight; nodes = n; ready = c.self.inside.choices.ready; last = c.self.inside.choices.last }) c.self.invariant ∙ ap offer_of c.self.view_is in
    count_as c.args.image.now c.args.self.now c.self.inside.choices c.count.result c.requires.made same c.count.ensures.count
