-- How many choices a text has: each stands in a line, and a text has a line for each line feed, and maybe one more.
use Rattle.std.proofs.Common.{◌≡◌, ◌∙◌, ℕ, suc, ◌+◌, ◌≤◌, Bool, true, false, nat_eq, cond, arith, refl, sym, ap, List, [], ◌∷◌, length}
use Rattle.std.specs.List.{filter}
use Rattle.std.proofs.lemmas.List.Sums.{length-filter}
use Rattle.og_base.specs.declared.Settings.{Settings}
use Rattle.og_runs.specs.declared.Choice.{Choice}
use Rattle.og_trace.specs.declared.item.Item.{Item}
use Rattle.og_trace.specs.declared.item.Item.TheVariants.{Head as HeadLine, Choice as ChoiceLine, Note as NoteLine, End as EndLine}
use Rattle.og_trace.specs.declared.item.Place.{Place}
use Rattle.og_trace.specs.declared.item.Place.TheVariants.{First}
use Rattle.og_trace.specs.Grammar.{lines_of, before_lines, place_after, AreLines, choices_in, numbers_in}
use Rattle.std.proofs.Common.{Option}
use Rattle.og_load.specs.Choices.{feeds_of, IsText}

-- as many numbers of lines as choices
pub numbered : (n : ℕ) (items : List Item) → length (numbers_in n items) ≡ length (choices_in items)
numbered n [] = refl
numbered n (HeadLine head ∷ items) = numbered (n + 1) items
numbered n (ChoiceLine choice ∷ items) = ap (λ (k : ℕ). suc k) (numbered (n + 1) items)
numbered n (NoteLine stamp note ∷ items) = numbered (n + 1) items
numbered n (EndLine end ∷ items) = numbered (n + 1) items

-- no more choices than items
few_choices : (items : List Item) → length (choices_in items) ≤ length items
few_choices [] = omega arith
few_choices (HeadLine head ∷ items) = let h : length (choices_in items) ≤ length items = few_choices items in omega arith
few_choices (ChoiceLine choice ∷ items) = let h : length (choices_in items) ≤ length items = few_choices items in omega arith
few_choices (NoteLine stamp note ∷ items) = let h : length (choices_in items) ≤ length items = few_choices items in omega arith
few_choices (EndLine end ∷ items) = let h : length (choices_in items) ≤ length items = few_choices items in omega arith

-- as many items as lines
lined : (place : Place) (lines : List (List ℕ)) (items : List Item) → AreLines place lines items → length items ≡ length lines
lined place [] [] h = refl
lined place [] (i ∷ items) h = absurd h
lined place (l ∷ lines) [] h = absurd h
lined place (l ∷ lines) (i ∷ items) h = ap (λ (k : ℕ). suc k) (lined (place_after i) lines items h.1)

before_few : (c : ℕ) (lines : List (List ℕ)) (n : ℕ) → length lines ≤ n + 1 → length (before_lines c lines) ≤ n + 1
before_few c [] n h = omega arith
before_few c (l ∷ lines) n h = h

-- no more lines than line feeds and one
few_lines : (text : List ℕ) → length (lines_of text) ≤ length (filter (λ b. nat_eq b 10) text) + 1
few_lines [] = omega arith
few_lines (c ∷ text) = by (nat_eq c 10) (few_lines text)
  where
    by : (t : Bool) → length (lines_of text) ≤ length (filter (λ b. nat_eq b 10) text) + 1
        → length (cond t ([] ∷ lines_of text) (before_lines c (lines_of text))) ≤ length (cond t (c ∷ filter (λ b. nat_eq b 10) text) (filter (λ b. nat_eq b 10) text)) + 1
    by true h = omega arith
    by false h = before_few c (lines_of text) (length (filter (λ b. nat_eq b 10) text)) h

module _ (bytes : List ℕ) (head : Option Settings) (choices : List Choice) (lines : List ℕ) (text : IsText bytes head choices lines) where
  pub in_lines : length lines ≡ length choices
  in_lines = ap (λ (l : List ℕ). length l) text.read.numbers_read ∙ (numbered 1 text.read.items ∙ ap (λ (l : List Choice). length l) (sym text.read.choices_read))

  pub few : feeds_of bytes ≤ 16777216 → length choices ≤ 16777217
  few feeds =
      let a : length choices ≡ length (choices_in text.read.items) = ap (λ (l : List Choice). length l) text.read.choices_read in
      let b : length (choices_in text.read.items) ≤ length text.read.items = few_choices text.read.items in
      let c : length text.read.items ≡ length (lines_of bytes) = lined First (lines_of bytes) text.read.items text.read.lines in
      let d : length (lines_of bytes) ≤ length (filter (λ b. nat_eq b 10) bytes) + 1 = few_lines bytes in
      let e : length (filter (λ b. nat_eq b 10) bytes) ≡ feeds_of bytes = length-filter (λ b. nat_eq b 10) bytes in
      omega arith
