-- What a map of labels has.
use Rattle.std.specs.Prelude.{ℕ, List, Option}
use Rattle.std.specs.Cmp.Lexicographic.{slice_cmp}
use Rattle.std.specs.Ordering.{nat_cmp}
use Rattle.std.specs.BTreeMap.{BTreeMap, get_by}
use denote.Ref.{Bor}
use Rattle.rv_asm.specs.declared.labels.Place.{Place}

abbrev pub places_in : BTreeMap (Bor (List ℕ)) Place → List ℕ → Option Place
places_in labels name = get_by (λ k. slice_cmp nat_cmp name k.now) labels
