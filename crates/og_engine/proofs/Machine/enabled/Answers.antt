use Rattle.std.proofs.Common.{◌≡◌, ◌∙◌, ℕ, ap}
use Rattle.og_engine.specs.Kept.{offer_of}
use Rattle.og_engine.proofs.Offered.{inside_as, choice_as}
use Rattle.og_engine.proofs.Machine.enabled.Goals as goal

pub choice-requires : goal.choice-requires
choice-requires c =
    let same : c.self.inside.choices ≡ offer_of c.args.self.now = ap (λ (n : ℕ). record { flight = c.self.inside.choices.flight; nodes = n; ready = c.self.inside.choices.ready; last = c.self.inside.choices.last }) c.self.invariant ∙ ap offer_of c.self.view_is in
    inside_as c.args.image.now c.args.self.now c.self.inside.choices c.args.at c.requires.made same c.requires.inside

pub returns : goal.returns
returns c =
    let same : c.self.inside.choices ≡ offer_of c.args.self.now = ap (λ (n : ℕ). record { flight = c.self.inside.choices.flight; nodes = n; ready = c.self.inside.choices.ready; last = c.self.inside.choices.last }) c.self.invariant ∙ ap offer_of c.self.view_is in
    choice_as c.args.image.now c.args.self.now c.self.inside.choices c.args.at c.choice.result c.requires.made same c.requires.inside c.choice.ensures
