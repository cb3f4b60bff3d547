-- The labels of a source, line by line.
use Rattle.std.proofs.Common.{◌≡◌, ℕ, ◌+◌, Bool, true, false, cond, List, [], ◌∷◌, refl, sym, ap}
use Rattle.std.specs.Prelude.{Option, None, Some, is_some}
use Rattle.std.proofs.Math.Path.{◌∙◌}
use Rattle.std.specs.Map.{lookup}
use Rattle.std.specs.Option.{option_or}
use Rattle.std.specs.Str.{bytes_eq}
use Rattle.std.specs.BTreeMap.{BTreeMap}
use Rattle.std.proofs.lemmas.Slice.Eq.{bytes_eq-Decides}
use denote.Ref.{Bor}
use Rattle.rv_asm.specs.declared.labels.Place.{Place}
use Rattle.rv_asm.specs.Syntax.{Line, line_of}
use Rattle.rv_asm.specs.Source.{lines_of, place, labelled, with_label, size_of, labels_from, places_of}
use Rattle.rv_asm.specs.Found.{places_in}

-- a new name
pub added : (old : List ℕ → Option Place) (name q : List ℕ) (p : Place) → is_some (old name) ≡ false → cond (bytes_eq name q) (Some p) (old q) ≡ option_or (old q) (cond (bytes_eq q name) (Some p) None)
added old name q p new = go (bytes_eq name q) refl (bytes_eq q name) refl (old q) refl
  where
    missing : (o : Option Place) → is_some o ≡ false → o ≡ None
    missing None h = refl
    missing (Some x) h = absurd (cc)

    go : (a : Bool) → bytes_eq name q ≡ a → (b : Bool) → bytes_eq q name ≡ b → (o : Option Place) → old q ≡ o → cond a (Some p) o ≡ option_or o (cond b (Some p) None)
    go true h true k o is =
        let same : name ≡ q = (bytes_eq-Decides name q).0 h in
        let none : o ≡ None = sym is ∙ (ap old (sym same) ∙ missing (old name) new) in
        sym (ap (λ (v : Option Place). option_or v (Some p)) none)
    go true h false k o is =
        let same : name ≡ q = (bytes_eq-Decides name q).0 h in
        let other : bytes_eq q name ≡ true = (bytes_eq-Decides q name).1 (sym same) in
        absurd (cc)
    go false h true k o is =
        let same : q ≡ name = (bytes_eq-Decides q name).0 k in
        let other : bytes_eq name q ≡ true = (bytes_eq-Decides name q).1 (sym same) in
        absurd (cc)
    go false h false k None is = refl
    go false h false k (Some x) is = refl

-- a name that has a place keeps it
pub known : (old : List ℕ → Option Place) (name q : List ℕ) (p : Place) → is_some (old name) ≡ true → old q ≡ option_or (old q) (cond (bytes_eq q name) (Some p) None)
known old name q p has = go (bytes_eq q name) refl (old q) refl
  where
    go : (b : Bool) → bytes_eq q name ≡ b → (o : Option Place) → old q ≡ o → o ≡ option_or o (cond b (Some p) None)
    go b k (Some x) is = refl
    go false k None is = refl
    go true k None is =
        let same : q ≡ name = (bytes_eq-Decides q name).0 k in
        let none : is_some (old name) ≡ false = ap (λ (n : List ℕ). is_some (old n)) (sym same) ∙ ap is_some is in
        absurd (cc)

pub at_start : (text : List ℕ) (labels : BTreeMap (Bor (List ℕ)) Place) → labels.entries ≡ [] → (q : List ℕ) → option_or (places_in labels q) (lookup (bytes_eq q) (labels_from 1 0 (lines_of text))) ≡ places_of text q
unfolding places_of
at_start text labels empty q = rw empty refl

label_more : (a : Option Place) (line : Option Line) (number index : ℕ) (ps : List (List ℕ × Place)) (q : List ℕ) →
    option_or (option_or a (lookup (bytes_eq q) (with_label line number index []))) (lookup (bytes_eq q) ps) ≡ option_or a (lookup (bytes_eq q) (with_label line number index ps))
label_more (Some x) line number index ps q = refl
label_more None None number index ps q = refl
label_more None (Some l) number index ps q = named l.label
  where
    found : (b : Bool) (name : List ℕ) → option_or (cond b (Some (place number index)) None) (lookup (bytes_eq q) ps) ≡ cond b (Some (place number index)) (lookup (bytes_eq q) ps)
    found true name = refl
    found false name = refl

    named : (label : Option (List ℕ)) → option_or (lookup (bytes_eq q) (labelled label number index [])) (lookup (bytes_eq q) ps) ≡ lookup (bytes_eq q) (labelled label number index ps)
    named None = refl
    named (Some name) = found (bytes_eq q name) name

pub one_more : (rest line after : List ℕ) (seen : Option Line) (number index size : ℕ) (old new : List ℕ → Option Place) (q : List ℕ) (all : Option Place) → lines_of rest ≡ line ∷ lines_of after → seen ≡ line_of line → size ≡ size_of seen →
    new q ≡ option_or (old q) (lookup (bytes_eq q) (with_label seen (number + 1) index [])) →
    option_or (old q) (lookup (bytes_eq q) (labels_from (number + 1) index (lines_of rest))) ≡ all →
    option_or (new q) (lookup (bytes_eq q) (labels_from (number + 1 + 1) (index + size) (lines_of after))) ≡ all
one_more rest line after seen number index size old new q all split is sized added before =
    let now : labels_from (number + 1) index (lines_of rest) ≡ with_label (line_of line) (number + 1) index (labels_from (number + 1 + 1) (index + size_of (line_of line)) (lines_of after)) = ap (labels_from (number + 1) index) split in
    let same : with_label seen (number + 1) index (labels_from (number + 1 + 1) (index + size) (lines_of after)) ≡ labels_from (number + 1) index (lines_of rest) =
    ap (λ (n : ℕ). with_label seen (number + 1) index (labels_from (number + 1 + 1) (index + n) (lines_of after))) sized ∙ (ap (λ (l : Option Line). with_label l (number + 1) index (labels_from (number + 1 + 1) (index + size_of l) (lines_of after))) is ∙ sym now) in
    ap (λ (o : Option Place). option_or o (lookup (bytes_eq q) (labels_from (number + 1 + 1) (index + size) (lines_of after)))) added ∙
    (label_more (old q) seen (number + 1) index (labels_from (number + 1 + 1) (index + size) (lines_of after)) q ∙
    (ap (λ (ps : List (List ℕ × Place)). option_or (old q) (lookup (bytes_eq q) ps)) same ∙ before))
