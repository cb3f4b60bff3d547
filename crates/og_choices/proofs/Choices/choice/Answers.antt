use Rattle.std.proofs.Common.{◌≡◌, ◌∙◌, ◌+◌, ◌-◌, ◌<◌, ◌≤◌, ℕ, suc, Some, List, arith, ap, sym, subst, length}
use Rattle.std.specs.Prelude.{slice_get, not, nat_eq}
use Rattle.og_runs.specs.World.{InPlace}
use Rattle.og_runs.specs.declared.MsgId.{MsgId}
use Rattle.og_runs.specs.declared.Choice.TheVariants.{Take}
use Rattle.og_runs.proofs.Shown.{slice_get_some}
use Rattle.og_choices.specs.Choices.{Offer, may_act_at, choices_below, acts_below}
use Rattle.og_choices.proofs.Counts.{one, below_few}
use Rattle.og_choices.proofs.Changes.{acts_counted}
use Rattle.og_choices.proofs.Shown.{read_turn, both, stands_first, past_act, act_is, take_is, take_inside}
use Rattle.og_choices.proofs.Choices.choice.Goals as goal

pub returns-then-is_act : goal.returns-then-is_act
returns-then-is_act g c =
    let o : Offer _ = record { flight = c.self.inside.flight; nodes = c.self.inside.nodes; ready = c.self.inside.ready; last = c.self.inside.last } in
    let a : ℕ = c.index-actor.result.now in
    let read = read_turn o c.args.self.now c.self.inside.turns.items c.args.at a c.self.view_is c.self.invariant.turns c.requires c.index-actor.ensures in
    let after : (b : ℕ) → 0 < c.args.at → slice_get c.self.inside.turns.items (c.args.at - 1) ≡ Some b → c.is_first-first.result ≡ not (nat_eq b a) =
    subst (λ (xs : List ℕ). (b : ℕ) → 0 < c.args.at → slice_get xs (c.args.at - 1) ≡ Some b → c.is_first-first.result ≡ not (nat_eq b a)) c.deref.ensures.value c.is_first-first.ensures.after in
    let is = both c.is_first-first.result (may_act_at c.args.self.now a) (sym c.is_act.ensures ∙ c.if-is_act.true) in
    let first = stands_first c.args.self.now c.self.inside.turns.items read.0 c.args.at a read.2 c.is_first-first.result c.is_first-first.ensures.front after read.1 is.0 in
    λ n lt. act_is c.args.self.now c.self.inside.turns.items read.0 c.args.at a read.2 n first is.1 lt

-- behind its act, as many places further to the front as there are acts stands the message
within : (g : _) (c : goal.After-acts_below-acts g) → (c.acts_below-acts.result ≤ c.args.at) × (c.args.at - c.acts_below-acts.result < length c.self.inside.flight.messages)
within g c =
    let o : Offer _ = record { flight = c.self.inside.flight; nodes = c.self.inside.nodes; ready = c.self.inside.ready; last = c.self.inside.last } in
    let a : ℕ = c.index-actor.result.now in
    let read = read_turn o c.args.self.now c.self.inside.turns.items c.args.at a c.self.view_is c.self.invariant.turns c.requires c.index-actor.ensures in
    let after : (b : ℕ) → 0 < c.args.at → slice_get c.self.inside.turns.items (c.args.at - 1) ≡ Some b → c.is_first-first.result ≡ not (nat_eq b a) =
    subst (λ (xs : List ℕ). (b : ℕ) → 0 < c.args.at → slice_get xs (c.args.at - 1) ≡ Some b → c.is_first-first.result ≡ not (nat_eq b a)) c.deref.ensures.value c.is_first-first.ensures.after in
    let past : choices_below c.args.self.now a + one (may_act_at c.args.self.now a) ≤ c.args.at =
    past_act c.args.self.now c.self.inside.turns.items read.0 c.args.at a read.2 c.is_first-first.result c.is_first-first.ensures.front after read.1 (sym c.is_act.ensures ∙ c.if-is_act.false) in
    let acts : c.acts_below-acts.result ≡ acts_below o (suc a) = acts_counted o (c.from.result + 1) a c.acts_below-acts.result c.acts_below-acts.ensures.acts (omega arith) in
    let same : acts_below o (suc a) ≡ acts_below c.args.self.now (suc a) = ap (λ (p : Offer _). acts_below p (suc a)) c.self.view_is in
    let inside = take_inside c.args.self.now c.self.inside.turns.items read.0 c.args.at a read.2 past (below_few (suc a) c.args.self.now.flight.messages) in
    let low : acts_below c.args.self.now (suc a) ≤ c.args.at = inside.0 in
    let high : c.args.at - acts_below c.args.self.now (suc a) < length c.args.self.now.flight.messages = inside.1 in
    let messages : length c.self.inside.flight.messages ≡ length c.args.self.now.flight.messages = ap (λ (p : Offer _). length p.flight.messages) c.self.view_is in
    (omega arith, omega arith)

pub overflow_sub-at : goal.overflow_sub-at
overflow_sub-at g c = (within g c).0

pub id-requires : goal.id-requires
id-requires g c = (within g c).1

pub returns : goal.returns
returns g c =
    let o : Offer _ = record { flight = c.self.inside.flight; nodes = c.self.inside.nodes; ready = c.self.inside.ready; last = c.self.inside.last } in
    let a : ℕ = c.index-actor.result.now in
    let read = read_turn o c.args.self.now c.self.inside.turns.items c.args.at a c.self.view_is c.self.invariant.turns c.requires c.index-actor.ensures in
    let after : (b : ℕ) → 0 < c.args.at → slice_get c.self.inside.turns.items (c.args.at - 1) ≡ Some b → c.is_first-first.result ≡ not (nat_eq b a) =
    subst (λ (xs : List ℕ). (b : ℕ) → 0 < c.args.at → slice_get xs (c.args.at - 1) ≡ Some b → c.is_first-first.result ≡ not (nat_eq b a)) c.deref.ensures.value c.is_first-first.ensures.after in
    let past : choices_below c.args.self.now a + one (may_act_at c.args.self.now a) ≤ c.args.at =
    past_act c.args.self.now c.self.inside.turns.items read.0 c.args.at a read.2 c.is_first-first.result c.is_first-first.ensures.front after read.1 (sym c.is_act.ensures ∙ c.if-is_act.false) in
    let acts : c.acts_below-acts.result ≡ acts_below o (suc a) = acts_counted o (c.from.result + 1) a c.acts_below-acts.result c.acts_below-acts.ensures.acts (omega arith) in
    let same : acts_below o (suc a) ≡ acts_below c.args.self.now (suc a) = ap (λ (p : Offer _). acts_below p (suc a)) c.self.view_is in
    let messages : length c.self.inside.flight.messages ≡ length c.args.self.now.flight.messages = ap (λ (p : Offer _). length p.flight.messages) c.self.view_is in
    let inside = take_inside c.args.self.now c.self.inside.turns.items read.0 c.args.at a read.2 past (below_few (suc a) c.args.self.now.flight.messages) in
    let high : c.args.at - acts_below c.args.self.now (suc a) < length c.args.self.now.flight.messages = inside.1 in
    let k : ℕ = c.args.at - c.acts_below-acts.result in
    let x = slice_get_some c.args.self.now.flight.messages k (omega arith) in
    let there : slice_get c.self.inside.flight.messages k ≡ Some x.0 = ap (λ (p : Offer _). slice_get p.flight.messages k) c.self.view_is ∙ x.1 in
    let sorted : InPlace c.args.self.now.flight.messages = subst (λ (p : Offer _). InPlace p.flight.messages) c.self.view_is c.stays_sound.ensures.order in
    λ n lt. take_is c.args.self.now c.self.inside.turns.items read.0 c.args.at a read.2 n k x.0 sorted past (omega arith) x.1 lt ∙ ap (λ (i : MsgId). Some (Take a i)) (sym (c.id.ensures x.0 there))
