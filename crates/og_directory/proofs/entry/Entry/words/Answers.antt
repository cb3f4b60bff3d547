use Rattle.std.proofs.Common.{◌≡◌, ℕ, ◌<◌, ◌∙◌, true, sym, ap, subst, nat_cmp}
use Rattle.std.specs.FinSet as set
use Rattle.og_directory.specs.declared.entry.State.{State}
use Rattle.og_directory.specs.Words.{FieldsFit, set_of}
use Rattle.og_directory.proofs.Packing.{FieldsFit-state_of}
use Rattle.og_directory.proofs.entry.Entry.words.Goals as goal

pub returns-clause-kept : goal.returns-clause-kept
returns-clause-kept c = record {
  fields = subst (λ (s : State). FieldsFit s) c.self.view_is (FieldsFit-state_of c.self.inside.head c.self.inside.set);
  groups = subst (λ (s : set.FinSet nat_cmp). (k : ℕ) → set.contains s k ≡ true → k < 64) (sym c.self.invariant.set_is ∙ ap (λ s. set_of s) c.self.view_is) c.word.ensures.few;
}
