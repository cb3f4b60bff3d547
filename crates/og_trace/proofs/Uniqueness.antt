-- A line is the text of one item at most.
use Rattle.std.proofs.Common.{◌≡◌, ℕ, List, true, false, sym, ap, subst, None, Some}
use Rattle.std.proofs.Math.Path.{◌∙◌}
use Rattle.std.specs.Str.{bytes_eq}
use Rattle.std.proofs.lemmas.Slice.Eq.{bytes_eq-Decides}
use Rattle.og_trace.specs.declared.item.Item.{Item}
use Rattle.og_trace.specs.declared.item.Place.{Place}
use Rattle.og_trace.specs.Text.{item_text}
use Rattle.og_trace.specs.Reader.{item_of}
use Rattle.og_trace.specs.Grammar.{is_in_range, may_stand, IsLine, IsOutside}
use Rattle.og_trace.proofs.Lines.{item_read}

-- a line that an item wrote is read as that item
pub read_as : (line : List ℕ) (i : Item) → is_in_range i ≡ true → item_text i ≡ line → item_of line ≡ Some i
read_as line i h is = ap item_of (sym is) ∙ item_read i h

pub same_item : (line : List ℕ) (i j : Item) → is_in_range i ≡ true → item_text i ≡ line → item_of line ≡ Some j → j ≡ i
same_item line i j h is read = let k : item_of line ≡ Some i = read_as line i h is in cc

pub one_item : (place : Place) (line : List ℕ) (i j : Item) → IsLine place line i → IsLine place line j → i ≡ j
one_item place line i j a b = same_item line j i b.in_range b.text (read_as line i a.in_range a.text)

-- why a line is outside
pub not_read : (place : Place) (line : List ℕ) → item_of line ≡ None → IsOutside place line
not_read place line none item h m t = let r : item_of line ≡ Some item = read_as line item h t in absurd (cc)

pub not_standing : (place : Place) (line : List ℕ) (i : Item) → item_of line ≡ Some i → may_stand place i ≡ false → IsOutside place line
not_standing place line i read fails item h m t =
    let same : i ≡ item = same_item line item i h t read in
    let k : may_stand place i ≡ true = subst (λ (x : Item). may_stand place x ≡ true) (sym same) m in
    absurd (cc)

pub not_in_range : (place : Place) (line : List ℕ) (i : Item) → item_of line ≡ Some i → is_in_range i ≡ false → IsOutside place line
not_in_range place line i read fails item h m t =
    let same : i ≡ item = same_item line item i h t read in
    let k : is_in_range i ≡ true = subst (λ (x : Item). is_in_range x ≡ true) (sym same) h in
    absurd (cc)

pub not_written : (place : Place) (line : List ℕ) (i : Item) → item_of line ≡ Some i → bytes_eq (item_text i) line ≡ false → IsOutside place line
not_written place line i read fails item h m t =
    let same : i ≡ item = same_item line item i h t read in
    let text : item_text i ≡ line = ap item_text same ∙ t in
    let k : bytes_eq (item_text i) line ≡ true = (bytes_eq-Decides (item_text i) line).1 text in
    absurd (cc)
