-- What was read so far, line by line.
use Rattle.std.proofs.Common.{◌≡◌, ℕ, suc, ◌+◌, ◌<◌, ◌≤◌, List, [], ◌∷◌, ◌++◌, length, drop, arith, refl, sym, ap, subst, cond, true, false, Bool, nat_eq, append_assoc, length-append, Option, None}
use Rattle.std.specs.Option.{option_map, option_or}
use Rattle.std.proofs.Math.Path.{◌∙◌}
use Rattle.std.proofs.lemmas.List.{append-nil}
use Rattle.og_runs.specs.declared.Choice.{Choice}
use Rattle.og_runs.specs.declared.Stamp.{Stamp}
use Rattle.og_msg.specs.declared.Note.{Note}
use Rattle.og_base.specs.declared.Settings.{Settings}
use Rattle.og_trace.specs.declared.item.Head.{Head}
use Rattle.og_trace.specs.declared.item.Item.{Item}
use Rattle.og_trace.specs.declared.item.Item.TheVariants.{Head as HeadLine, Choice as ChoiceLine, Note as NoteLine, End as EndLine}
use Rattle.og_trace.specs.declared.item.Place.{Place}
use Rattle.og_trace.specs.declared.item.Place.TheVariants.{First}
use Rattle.og_trace.specs.Text.{head_of}
use Rattle.og_trace.specs.Reader.{before, from}
use Rattle.og_trace.specs.Grammar.{lines_of, before_lines, place_after, place_after_all, IsLine, IsOutside, AreLines, IsFirstOutside, IsRead, choices_in, numbers_in, notes_in, head_in, head_or, add_choice, add_number, add_note}

-- ------------------------------------------------------------------------------ lines of a text

-- a text that isn't empty has a first line
pub first_line : (xs : List ℕ) → 0 < length xs → lines_of xs ≡ before 10 xs ∷ lines_of (drop 1 (from 10 xs))
first_line [] some = absurd (omega arith)
first_line (c ∷ []) some = go (nat_eq c 10)
  where
    go : (b : Bool) → cond b ([] ∷ []) ((c ∷ []) ∷ []) ≡ cond b [] (c ∷ []) ∷ lines_of (drop 1 (cond b (c ∷ []) []))
    go true = refl
    go false = refl
first_line (c ∷ d ∷ cs) some = go (nat_eq c 10) (first_line (d ∷ cs) (omega arith))
  where
    go : (b : Bool) → lines_of (d ∷ cs) ≡ before 10 (d ∷ cs) ∷ lines_of (drop 1 (from 10 (d ∷ cs))) →
        cond b ([] ∷ lines_of (d ∷ cs)) (before_lines c (lines_of (d ∷ cs))) ≡ cond b [] (c ∷ before 10 (d ∷ cs)) ∷ lines_of (drop 1 (cond b (c ∷ d ∷ cs) (from 10 (d ∷ cs))))
    go true later = refl
    go false later = ap (before_lines c) later

from_short : (xs : List ℕ) → length (from 10 xs) ≤ length xs
from_short [] = omega arith
from_short (c ∷ cs) = go (nat_eq c 10) (from_short cs)
  where
    go : (b : Bool) → length (from 10 cs) ≤ length cs → length (cond b (c ∷ cs) (from 10 cs)) ≤ length (c ∷ cs)
    go true h = omega arith
    go false h = omega arith

pub shorter : (xs : List ℕ) → 0 < length xs → length (drop 1 (from 10 xs)) < length xs
shorter [] some = absurd (omega arith)
shorter (c ∷ cs) some = go (nat_eq c 10) (from_short cs)
  where
    tail : (ys : List ℕ) → length (drop 1 ys) ≤ length ys
    tail [] = omega arith
    tail (y ∷ ys) = omega arith

    go : (b : Bool) → length (from 10 cs) ≤ length cs → length (drop 1 (cond b (c ∷ cs) (from 10 cs))) < length (c ∷ cs)
    go true h = omega arith
    go false h = let t : length (drop 1 (from 10 cs)) ≤ length (from 10 cs) = tail (from 10 cs) in omega arith

-- ------------------------------------------------------------------------------ one line more

are_lines_more : (place : Place) (ls : List (List ℕ)) (is : List Item) (l : List ℕ) (i : Item) → AreLines place ls is → IsLine (place_after_all place is) l i → AreLines place (ls ++ l ∷ []) (is ++ i ∷ [])
are_lines_more place [] [] l i h k = (k, tt)
are_lines_more place [] (j ∷ js) l i h k = absurd h
are_lines_more place (m ∷ ms) [] l i h k = absurd h
are_lines_more place (m ∷ ms) (j ∷ js) l i h k = (h.0, are_lines_more (place_after j) ms js l i h.1 k)

place_more : (place : Place) (is : List Item) (i : Item) → place_after_all place (is ++ i ∷ []) ≡ place_after i
place_more place [] i = refl
place_more place (j ∷ js) i = place_more (place_after j) js i

same_length : (place : Place) (ls : List (List ℕ)) (is : List Item) → AreLines place ls is → length is ≡ length ls
same_length place [] [] h = refl
same_length place [] (j ∷ js) h = absurd h
same_length place (m ∷ ms) [] h = absurd h
same_length place (m ∷ ms) (j ∷ js) h = ap suc (same_length (place_after j) ms js h.1)

add_choice_more : (i : Item) (xs ys zs : List Choice) → xs ≡ ys ++ zs → add_choice i xs ≡ add_choice i ys ++ zs
add_choice_more (HeadLine h) xs ys zs is = is
add_choice_more (ChoiceLine c) xs ys zs is = ap (λ (l : List Choice). c ∷ l) is
add_choice_more (NoteLine s n) xs ys zs is = is
add_choice_more (EndLine e) xs ys zs is = is

choices_more : (is js : List Item) → choices_in (is ++ js) ≡ choices_in is ++ choices_in js
choices_more [] js = refl
choices_more (i ∷ is) js = add_choice_more i (choices_in (is ++ js)) (choices_in is) (choices_in js) (choices_more is js)

add_note_more : (i : Item) (xs ys zs : List (Stamp × Note)) → xs ≡ ys ++ zs → add_note i xs ≡ add_note i ys ++ zs
add_note_more (HeadLine h) xs ys zs is = is
add_note_more (ChoiceLine c) xs ys zs is = is
add_note_more (NoteLine s n) xs ys zs is = ap (λ (l : List (Stamp × Note)). (s, n) ∷ l) is
add_note_more (EndLine e) xs ys zs is = is

notes_more : (is js : List Item) → notes_in (is ++ js) ≡ notes_in is ++ notes_in js
notes_more [] js = refl
notes_more (i ∷ is) js = add_note_more i (notes_in (is ++ js)) (notes_in is) (notes_in js) (notes_more is js)

add_number_more : (i : Item) (n : ℕ) (xs ys zs : List ℕ) → xs ≡ ys ++ zs → add_number i n xs ≡ add_number i n ys ++ zs
add_number_more (HeadLine h) n xs ys zs is = is
add_number_more (ChoiceLine c) n xs ys zs is = ap (λ (l : List ℕ). n ∷ l) is
add_number_more (NoteLine s m) n xs ys zs is = is
add_number_more (EndLine e) n xs ys zs is = is

numbers_more : (n m : ℕ) (is js : List Item) → n + length is ≡ m → numbers_in n (is ++ js) ≡ numbers_in n is ++ numbers_in m js
numbers_more n m [] js at = let same : n ≡ m = omega arith in ap (λ (k : ℕ). numbers_in k js) same
numbers_more n m (i ∷ is) js at = add_number_more i n (numbers_in (n + 1) (is ++ js)) (numbers_in (n + 1) is) (numbers_in m js) (numbers_more (n + 1) m is js (omega arith))

head_or_more : (i : Item) (x y z : Option Head) → x ≡ option_or y z → head_or i x ≡ option_or (head_or i y) z
head_or_more (HeadLine h) x y z is = refl
head_or_more (ChoiceLine c) x y z is = is
head_or_more (NoteLine s n) x y z is = is
head_or_more (EndLine e) x y z is = is

head_more : (is js : List Item) → head_in (is ++ js) ≡ option_or (head_in is) (head_in js)
head_more [] js = refl
head_more (i ∷ is) js = head_or_more i (head_in (is ++ js)) (head_in is) (head_in js) (head_more is js)

-- ------------------------------------------------------------------------------ what was read so far

-- of a text these lines were read, and the rest is left
pub record IsReading (text rest : List ℕ) (place : Place) (number : ℕ) (head : Option Settings) (choices : List Choice) (numbers : List ℕ) (notes : List (Stamp × Note)) : Type 0 where
  pub items : List Item
  pub done : List (List ℕ)
  pub split : lines_of text ≡ done ++ lines_of rest
  pub inside : AreLines First done items
  pub at : place ≡ place_after_all First items
  pub counted : number ≡ length done
  pub head_read : option_map head_of head ≡ head_in items
  pub choices_read : choices ≡ choices_in items
  pub numbers_read : numbers ≡ numbers_in 1 items
  pub notes_read : notes ≡ notes_in items

pub at_start : (text : List ℕ) (choices : List Choice) (numbers : List ℕ) (notes : List (Stamp × Note)) → choices ≡ [] → numbers ≡ [] → notes ≡ [] → IsReading text text First 0 None choices numbers notes
at_start text choices numbers notes c n m = record { items = []; done = []; split = refl; inside = tt; at = refl; counted = refl; head_read = refl; choices_read = c; numbers_read = n; notes_read = m }

pub one_more : (text rest line after : List ℕ) (place : Place) (number : ℕ) (head head' : Option Settings) (choices choices' : List Choice) (numbers numbers' : List ℕ) (notes notes' : List (Stamp × Note)) (i : Item) →
    IsReading text rest place number head choices numbers notes → lines_of rest ≡ line ∷ lines_of after → IsLine place line i →
    option_map head_of head' ≡ option_or (option_map head_of head) (head_in (i ∷ [])) → choices' ≡ choices ++ choices_in (i ∷ []) → numbers' ≡ numbers ++ numbers_in (number + 1) (i ∷ []) → notes' ≡ notes ++ notes_in (i ∷ []) →
    IsReading text after (place_after i) (number + 1) head' choices' numbers' notes'
one_more text rest line after place number head head' choices choices' numbers numbers' notes notes' i r first here h c n m =
    let there : IsLine (place_after_all First r.items) line i = subst (λ (p : Place). IsLine p line i) r.at here in
    let long : length r.items ≡ length r.done = same_length First r.done r.items r.inside in
    let counted : number ≡ length r.done = r.counted in
    record {
      items = r.items ++ i ∷ [];
      done = r.done ++ line ∷ [];
      split = r.split ∙ (ap (λ (ls : List (List ℕ)). r.done ++ ls) first ∙ sym (append_assoc r.done (line ∷ []) (lines_of after)));
      inside = are_lines_more First r.done r.items line i r.inside there;
      at = sym (place_more First r.items i);
      counted = counted_more r.done number line counted;
      head_read = h ∙ (ap (λ (o : Option Head). option_or o (head_in (i ∷ []))) r.head_read ∙ sym (head_more r.items (i ∷ [])));
      choices_read = c ∙ (ap (λ (l : List Choice). l ++ choices_in (i ∷ [])) r.choices_read ∙ sym (choices_more r.items (i ∷ [])));
      numbers_read = n ∙ (ap (λ (l : List ℕ). l ++ numbers_in (number + 1) (i ∷ [])) r.numbers_read ∙ sym (numbers_more 1 (number + 1) r.items (i ∷ []) (omega arith)));
      notes_read = m ∙ (ap (λ (l : List (Stamp × Note)). l ++ notes_in (i ∷ [])) r.notes_read ∙ sym (notes_more r.items (i ∷ [])));
    }
  where
    counted_more : (done : List (List ℕ)) (number : ℕ) (line : List ℕ) → number ≡ length done → number + 1 ≡ length (done ++ line ∷ [])
    counted_more done number line is = simp length-append (omega arith)

-- a line outside the grammar is the first one
pub first_outside : (text rest line after : List ℕ) (place : Place) (number : ℕ) (head : Option Settings) (choices : List Choice) (numbers : List ℕ) (notes : List (Stamp × Note)) →
    IsReading text rest place number head choices numbers notes → lines_of rest ≡ line ∷ lines_of after → IsOutside place line → IsFirstOutside text (number + 1)
first_outside text rest line after place number head choices numbers notes r first out = record {
  items = r.items;
  before = r.done;
  line = line;
  after = lines_of after;
  split = r.split ∙ ap (λ (ls : List (List ℕ)). r.done ++ ls) first;
  inside = r.inside;
  outside = subst (λ (p : Place). IsOutside p line) r.at out;
  numbered = ap (λ (n : ℕ). n + 1) r.counted;
}

empty_of : (xs : List ℕ) → length xs ≡ 0 → xs ≡ []
empty_of [] h = refl
empty_of (x ∷ xs) h = absurd (omega arith)

-- all lines were read
pub all_read : (text rest : List ℕ) (place : Place) (number : ℕ) (head head' : Option Settings) (choices choices' : List Choice) (numbers numbers' : List ℕ) (notes notes' : List (Stamp × Note)) → IsReading text rest place number head choices numbers notes → length rest ≡ 0 →
    head' ≡ head → choices' ≡ choices → numbers' ≡ numbers → notes' ≡ notes → IsRead text head' choices' numbers' notes'
all_read text rest place number head head' choices choices' numbers numbers' notes notes' r none h c n m = record {
  items = r.items;
  lines = subst (λ (ls : List (List ℕ)). AreLines First ls r.items) (sym (r.split ∙ (ap (λ (l : List ℕ). r.done ++ lines_of l) (empty_of rest none) ∙ append-nil r.done))) r.inside;
  head_read = ap (λ (o : Option Settings). option_map head_of o) h ∙ r.head_read;
  choices_read = c ∙ r.choices_read;
  numbers_read = n ∙ r.numbers_read;
  notes_read = m ∙ r.notes_read;
}
