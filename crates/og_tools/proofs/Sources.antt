-- What is known of the words of a source, and of its fault.
use Rattle.std.proofs.Common.{◌≡◌, ℕ, ◌+◌, ◌-◌, ◌<◌, ◌≤◌, ◌==◌, Bool, true, false, cond, nat_lt, List, [], ◌∷◌, length, arith, refl, sym, ap, max}
use Rattle.std.specs.Prelude.{Option, None, Some, Result, Ok, Err}
use Rattle.std.proofs.lemmas.Bool.Decides.{nat_tests}
use Rattle.rv_asm.specs.declared.source.SourceCause.{SourceCause}
use Rattle.rv_asm.specs.declared.source.SourceCause.TheVariants as cause
use Rattle.rv_asm.specs.declared.source.SourceFault.{SourceFault}
use Rattle.rv_asm.specs.declared.source.SourceFault.TheVariants.{Line as AtLine, TooLong}
use Rattle.rv_asm.specs.declared.labels.Place.{Place}
use Rattle.rv_asm.specs.Syntax.{Line, line_of}
use Rattle.rv_asm.specs.Meaning.{Draft, word_in}
use Rattle.rv_asm.specs.Source.{lines_of, line_word, drafted, is_twice, sized, word_for, by_draft, by_line, then, assembled_from, assembled, places_of}

-- ------------------------------------------------------------------------------ a word that is taken has room

sized_room : (index : ℕ) (r : Result ℕ SourceCause) (w : ℕ) → sized index r ≡ Ok (Some w) → index < 245760
sized_room index (Err c) w is = absurd (cc is)
sized_room index (Ok v) w is = at (nat_lt index 245760) refl is
  where
    at : (b : Bool) → nat_lt index 245760 ≡ b → ◌≡◌ {A = Result (Option ℕ) SourceCause} (cond b (Ok (Some v)) (Err cause.Size)) (Ok (Some w)) → index < 245760
    at true test is = grind (arith, nat_tests)
    at false test is = absurd (cc is)

word_room : (places : List ℕ → Option Place) (index : ℕ) (d : Option Draft) (w : ℕ) → word_for places index d ≡ Ok (Some w) → index < 245760
word_room places index None w is = absurd (cc is)
word_room places index (Some d) w is = sized_room index (word_in places index d) w is

twice_room : (b : Bool) (places : List ℕ → Option Place) (index : ℕ) (d : Option Draft) (w : ℕ) → ◌≡◌ {A = Result (Option ℕ) SourceCause} (cond b (Err cause.Twice) (word_for places index d)) (Ok (Some w)) → index < 245760
twice_room true places index d w is = absurd (cc is)
twice_room false places index d w is = word_room places index d w is

draft_room : (places : List ℕ → Option Place) (number index : ℕ) (label : Option (List ℕ)) (d : Result (Option Draft) SourceCause) (w : ℕ) → by_draft places number index label d ≡ Ok (Some w) → index < 245760
draft_room places number index label (Err c) w is = absurd (cc is)
draft_room places number index label (Ok d) w is = twice_room (is_twice places number label) places index d w is

parsed_room : (places : List ℕ → Option Place) (number index : ℕ) (l : Option Line) (w : ℕ) → by_line places number index l ≡ Ok (Some w) → index < 245760
parsed_room places number index None w is = absurd (cc is)
parsed_room places number index (Some l) w is = draft_room places number index l.label (drafted l.statement) w is

line_room : (places : List ℕ → Option Place) (number index : ℕ) (line : List ℕ) (w : ℕ) → line_word places number index line ≡ Ok (Some w) → index < 245760
unfolding line_word
line_room places number index line w is = parsed_room places number index (line_of line) w is

-- ------------------------------------------------------------------------------ how many words there are

-- with so many words before them, there are some, and they have room
abbrev IsSized : ℕ → List ℕ → Type 0
IsSized index ws = (1 ≤ index + length ws) × (index + length ws ≤ 245760)

no_lines_sized : (number index : ℕ) (b : Bool) (ws : List ℕ) → (index == 0) ≡ b → index ≤ 245760 → ◌≡◌ {A = Result (List ℕ) SourceFault} (cond b (Err (AtLine (max (number - 1) 1) cause.Size)) (Ok [])) (Ok ws) → IsSized index ws
no_lines_sized number index true ws test low is = absurd (cc is)
no_lines_sized number index false ws test low is =
    let none : [] ≡ ws = cc in
    let size : length ws ≡ 0 = ap length (sym none) in
    let some : 1 ≤ index = grind (arith, nat_tests) in
    (omega arith, omega arith)

line_sized : (number index : ℕ) (same next : Result (List ℕ) SourceFault) → ((ws : List ℕ) → same ≡ Ok ws → IsSized index ws) → (index + 1 ≤ 245760 → (ws : List ℕ) → next ≡ Ok ws → IsSized (index + 1) ws) →
    (r : Result (Option ℕ) SourceCause) → ((w : ℕ) → r ≡ Ok (Some w) → index < 245760) → (ws : List ℕ) → then number r same next ≡ Ok ws → IsSized index ws
line_sized number index same next hs hn (Err c) room ws is = absurd (cc is)
line_sized number index same next hs hn (Ok None) room ws is = hs ws is
line_sized number index same (Err f) hs hn (Ok (Some w)) room ws is = absurd (cc is)
line_sized number index same (Ok vs) hs hn (Ok (Some w)) room ws is =
    let longer : w ∷ vs ≡ ws = cc in
    let size : length ws ≡ length (w ∷ vs) = ap length (sym longer) in
    let more : length (w ∷ vs) ≡ length vs + 1 = omega arith in
    let low : index < 245760 = room w refl in
    let rest : IsSized (index + 1) vs = hn (omega arith) vs refl in
    let some : 1 ≤ index + 1 + length vs = rest.0 in
    let fits : index + 1 + length vs ≤ 245760 = rest.1 in
    (omega arith, omega arith)

lines_sized : (places : List ℕ → Option Place) (number index : ℕ) (ls : List (List ℕ)) → index ≤ 245760 → (ws : List ℕ) → assembled_from places number index ls ≡ Ok ws → IsSized index ws
lines_sized places number index [] low ws is = no_lines_sized number index (index == 0) ws refl low is
lines_sized places number index (l ∷ ls) low ws is =
    line_sized number index (assembled_from places (number + 1) index ls) (assembled_from places (number + 1) (index + 1) ls)
    (λ vs e. lines_sized places (number + 1) index ls low vs e) (λ room vs e. lines_sized places (number + 1) (index + 1) ls room vs e)
    (line_word places number index l) (λ w e. line_room places number index l w e) ws is

-- a source has at most 245,760 words
pub source_room : (text ws : List ℕ) → assembled text ≡ Ok ws → length ws ≤ 245760
unfolding assembled
source_room text ws is =
    let sized : IsSized 0 ws = lines_sized (places_of text) 1 0 (lines_of text) (omega arith) ws is in
    let fits : 0 + length ws ≤ 245760 = sized.1 in
    omega arith

-- ------------------------------------------------------------------------------ no source is too long for its lines

no_lines_long : (at : ℕ) (b : Bool) → ◌≡◌ {A = Result (List ℕ) SourceFault} (cond b (Err (AtLine at cause.Size)) (Ok [])) (Err TooLong) → ⊥
no_lines_long at true is = absurd (cc is)
no_lines_long at false is = absurd (cc is)

line_long : (number : ℕ) (same next : Result (List ℕ) SourceFault) → (same ≡ Err TooLong → ⊥) → (next ≡ Err TooLong → ⊥) → (r : Result (Option ℕ) SourceCause) → then number r same next ≡ Err TooLong → ⊥
line_long number same next hs hn (Err c) is = absurd (cc is)
line_long number same next hs hn (Ok None) is = hs is
line_long number same (Err f) hs hn (Ok (Some w)) is = hn is
line_long number same (Ok vs) hs hn (Ok (Some w)) is = absurd (cc is)

lines_long : (places : List ℕ → Option Place) (number index : ℕ) (ls : List (List ℕ)) → assembled_from places number index ls ≡ Err TooLong → ⊥
lines_long places number index [] is = no_lines_long (max (number - 1) 1) (index == 0) is
lines_long places number index (l ∷ ls) is =
    line_long number (assembled_from places (number + 1) index ls) (assembled_from places (number + 1) (index + 1) ls)
    (λ e. lines_long places (number + 1) index ls e) (λ e. lines_long places (number + 1) (index + 1) ls e) (line_word places number index l) is

pub never_long : (text : List ℕ) → assembled text ≡ Err TooLong → ⊥
unfolding assembled
never_long text is = lines_long (places_of text) 1 0 (lines_of text) is
