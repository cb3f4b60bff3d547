use Rattle.std.proofs.Common.{◌≡◌, ℕ, ◌+◌, ◌*◌, ◌&&◌, cond, length, ap, refl, subst, ◌∙◌, arith}
use Rattle.std.specs.Prelude.{nat_le, nat_lt, slice_index_or}
use Rattle.std.proofs.lemmas.List.{with_items_is}
use Rattle.og_directory.specs.declared.entry.State.TheVariants.{Unowned}
use Rattle.og_counters.specs.Kept.{counters_of}
use Rattle.og_home.specs.Kept.{IsHome}
use Rattle.og_home.proofs.Blocks.{home_cleaned, kept-cleaned}
use Rattle.og_home.proofs.Home.clean_blocks.Goals as goal

disowned : (c : goal.After-self-1) (k : ℕ) → slice_index_or c.disown.new.entries k Unowned ≡ cond (nat_le c.place.result k && nat_lt k (c.place.result + 32)) Unowned (slice_index_or c.self.inside.entries.items k Unowned)
disowned c k = c.disown.ensures.unowned k ∙ ap (λ xs. cond (nat_le c.place.result k && nat_lt k (c.place.result + 32)) Unowned (slice_index_or xs k Unowned)) c.deref_mut.ensures.value

long : (c : goal.After-self-1) → length c.disown.new.entries ≡ length c.self.inside.entries.items
long c = c.disown.ensures.same ∙ ap length c.deref_mut.ensures.value

fits : (c : goal.After-self-1) → length c.disown.new.entries ≡ c.self.inside.entries.len
fits c = omega (arith, c.disown.ensures.same, c.deref_mut.ensures.len)

first_is : (c : goal.After-self-1) → c.place.result ≡ c.args.frame.index * 32
first_is c = omega (arith, c.place.ensures)

pub invariant_of-self : goal.invariant_of-self
invariant_of-self c =
    kept-cleaned c.self.view_is (subst IsHome c.self.view_is c.self.invariant) _ c.disown.new.entries c.args.frame.index c.place.result 32 (ap (λ d. d.counters.rules) c.self.view_is)
    (with_items_is c.self.inside.entries c.disown.new.entries (fits c)) refl (long c) (first_is c) refl (disowned c)

pub returns-clause-home : goal.returns-clause-home
returns-clause-home c =
    home_cleaned c.self.view_is _ (counters_of c.args.self.now.counters) c.disown.new.entries c.args.frame.index c.place.result 32
    (ap (λ d. counters_of d.counters) c.self.view_is)
    (with_items_is c.self.inside.entries c.disown.new.entries (fits c)) refl (first_is c) refl (disowned c)

pub returns-clause-rules : goal.returns-clause-rules
returns-clause-rules c = ap (λ d. d.counters.rules) c.self.view_is
