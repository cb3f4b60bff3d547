use Rattle.std.proofs.Common.{◌≡◌, ℕ, ◌+◌, ◌&&◌, cond, length, ap, refl, ◌∙◌, arith}
use Rattle.std.specs.Prelude.{nat_le, nat_lt, slice_index}
use Rattle.std.proofs.lemmas.List.{with_items_is}
use Rattle.og_counters.proofs.Found.{kept-cleared}
use Rattle.og_counters.proofs.Changes.{cleared_now}
use Rattle.og_counters.proofs.Counters.clear.Goals as goal

zero_there : (c : goal.After-self-2-1) (k : ℕ) → slice_index c.zero_counts.new.counts k ≡ cond (nat_le c.first-first.result k && nat_lt k (c.first-first.result + c.from-nodes.result)) 0 (slice_index c.self.inside.counts.items k)
zero_there c k = c.zero_counts.ensures.zero k ∙ ap (λ xs. cond (nat_le c.first-first.result k && nat_lt k (c.first-first.result + c.from-nodes.result)) 0 (slice_index xs k)) c.deref_mut.ensures.value

long : (c : goal.After-self-2-1) → length c.zero_counts.new.counts ≡ length c.self.inside.counts.items
long c = c.zero_counts.ensures.same ∙ ap length c.deref_mut.ensures.value

fits : (c : goal.After-self-2-1) → length c.zero_counts.new.counts ≡ c.self.inside.counts.len
fits c = omega (arith, c.zero_counts.ensures.same, c.deref_mut.ensures.len)

pub invariant_of-self : goal.invariant_of-self
invariant_of-self c =
    kept-cleared c.self.view_is c.first-first.ensures.sound _ c.args.index c.from.result c.first-first.result c.from-nodes.result c.zero_counts.new.counts refl
    (with_items_is c.self.inside.counts c.zero_counts.new.counts (fits c)) refl refl (long c) c.from.ensures c.first-first.ensures.value
    (c.from-nodes.ensures ∙ ap (λ r. r.nodes) c.rules.ensures.rules) c.requires (zero_there c)

pub returns : goal.returns
returns c =
    cleared_now c.self.view_is _ c.args.index c.first-first.result c.from-nodes.result c.zero_counts.new.counts refl
    (with_items_is c.self.inside.counts c.zero_counts.new.counts (fits c)) refl c.first-first.ensures.value
    (c.from-nodes.ensures ∙ ap (λ r. r.nodes) c.rules.ensures.rules) (zero_there c)
