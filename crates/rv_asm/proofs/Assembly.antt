-- The words so far, line by line.
use Rattle.std.proofs.Common.{◌≡◌, ℕ, ◌+◌, ◌-◌, ◌==◌, Bool, false, cond, List, [], ◌∷◌, ◌++◌, length, arith, refl, sym, ap, append_assoc, length-append, max}
use Rattle.std.specs.Prelude.{Option, None, Some, Result, Ok, Err}
use Rattle.std.proofs.Math.Path.{◌∙◌, fun_ext}
use Rattle.std.proofs.lemmas.List.{append-nil}
use Rattle.rv_asm.specs.declared.source.SourceCause.{SourceCause}
use Rattle.rv_asm.specs.declared.source.SourceCause.TheVariants as cause
use Rattle.rv_asm.specs.declared.source.SourceFault.{SourceFault}
use Rattle.rv_asm.specs.declared.source.SourceFault.TheVariants.{Line as AtLine}
use Rattle.rv_asm.specs.declared.labels.Place.{Place}
use Rattle.rv_asm.specs.Source.{lines_of, line_word, word_before, then, assembled_from, assembled, places_of}

-- words before others
abbrev pub words_before : List ℕ → Result (List ℕ) SourceFault → Result (List ℕ) SourceFault
words_before ws (Err f) = Err f
words_before ws (Ok vs) = Ok (ws ++ vs)

pub none_before : (r : Result (List ℕ) SourceFault) → words_before [] r ≡ r
none_before (Err f) = refl
none_before (Ok vs) = refl

-- a line without an instruction
pub skipped : (places : List ℕ → Option Place) (ws : List ℕ) (rest line after : List ℕ) (number index : ℕ) (whole : Result (List ℕ) SourceFault) → lines_of rest ≡ line ∷ lines_of after → Ok None ≡ line_word places (number + 1) index line →
    words_before ws (assembled_from places (number + 1) index (lines_of rest)) ≡ whole → words_before ws (assembled_from places (number + 1 + 1) index (lines_of after)) ≡ whole
skipped places ws rest line after number index whole split is before =
    let now : assembled_from places (number + 1) index (lines_of rest) ≡ assembled_from places (number + 1 + 1) index (lines_of after) =
    ap (assembled_from places (number + 1) index) split ∙
    ap (λ (r : Result (Option ℕ) SourceCause). then (number + 1) r (assembled_from places (number + 1 + 1) index (lines_of after)) (assembled_from places (number + 1 + 1) (index + 1) (lines_of after))) (sym is) in
    ap (words_before ws) (sym now) ∙ before

-- a line with an instruction
pub added : (places : List ℕ → Option Place) (ws more : List ℕ) (word : ℕ) (rest line after : List ℕ) (number : ℕ) (whole : Result (List ℕ) SourceFault) → lines_of rest ≡ line ∷ lines_of after → Ok (Some word) ≡ line_word places (number + 1) (length ws) line → more ≡ ws ++ word ∷ [] →
    words_before ws (assembled_from places (number + 1) (length ws) (lines_of rest)) ≡ whole → words_before more (assembled_from places (number + 1 + 1) (length more) (lines_of after)) ≡ whole
added places ws more word rest line after number whole split is longer before =
    let now : assembled_from places (number + 1) (length ws) (lines_of rest) ≡ word_before word (assembled_from places (number + 1 + 1) (length ws + 1) (lines_of after)) =
    ap (assembled_from places (number + 1) (length ws)) split ∙
    ap (λ (r : Result (Option ℕ) SourceCause). then (number + 1) r (assembled_from places (number + 1 + 1) (length ws) (lines_of after)) (assembled_from places (number + 1 + 1) (length ws + 1) (lines_of after))) (sym is) in
    let long : length more ≡ length ws + 1 = ap length longer ∙ length-append ws (word ∷ []) in
    ap (λ (n : ℕ). words_before more (assembled_from places (number + 1 + 1) n (lines_of after))) long ∙
    (shift (assembled_from places (number + 1 + 1) (length ws + 1) (lines_of after)) ∙ (ap (words_before ws) (sym now) ∙ before))
  where
    shift : (r : Result (List ℕ) SourceFault) → words_before more r ≡ words_before ws (word_before word r)
    shift (Err f) = refl
    shift (Ok vs) = ap (λ (l : List ℕ). let r : Result (List ℕ) SourceFault = Ok l in r) (ap (λ (l : List ℕ). l ++ vs) longer ∙ append_assoc ws (word ∷ []) vs)

-- a line at fault
pub failed : (places : List ℕ → Option Place) (ws rest line after : List ℕ) (number at index : ℕ) (c : SourceCause) (whole : Result (List ℕ) SourceFault) → lines_of rest ≡ line ∷ lines_of after → Err c ≡ line_word places (number + 1) at line → at ≡ index →
    words_before ws (assembled_from places (number + 1) index (lines_of rest)) ≡ whole → whole ≡ Err (AtLine (number + 1) c)
failed places ws rest line after number at index c whole split here same before =
    let is : Err c ≡ line_word places (number + 1) index line = here ∙ ap (λ (n : ℕ). line_word places (number + 1) n line) same in
    let now : assembled_from places (number + 1) index (lines_of rest) ≡ Err (AtLine (number + 1) c) =
    ap (assembled_from places (number + 1) index) split ∙
    ap (λ (r : Result (Option ℕ) SourceCause). then (number + 1) r (assembled_from places (number + 1 + 1) index (lines_of after)) (assembled_from places (number + 1 + 1) (index + 1) (lines_of after))) (sym is) in
    sym before ∙ ap (words_before ws) now

no_lines : (rest : List ℕ) → length rest ≡ 0 → lines_of rest ≡ []
no_lines [] e = refl
no_lines (c ∷ cs) e = absurd (omega arith)

-- a source without instructions
pub empty : (places : List ℕ → Option Place) (ws rest : List ℕ) (number last : ℕ) (whole : Result (List ℕ) SourceFault) → length rest ≡ 0 → length ws ≡ 0 → last ≡ max number 1 →
    words_before ws (assembled_from places (number + 1) (length ws) (lines_of rest)) ≡ whole → whole ≡ Err (AtLine last cause.Size)
empty places ws rest number last whole none few is before =
    let line : max (number + 1 - 1) 1 ≡ last = omega arith in
    sym before ∙ (ap (λ (ls : List (List ℕ)). words_before ws (assembled_from places (number + 1) (length ws) ls)) (no_lines rest none) ∙
    (ap (λ (n : ℕ). words_before ws (assembled_from places (number + 1) n [])) few ∙ ap (λ (n : ℕ). let r : Result (List ℕ) SourceFault = Err (AtLine n cause.Size) in r) line))

-- all words
pub complete : (places : List ℕ → Option Place) (ws rest : List ℕ) (number : ℕ) (whole : Result (List ℕ) SourceFault) → length rest ≡ 0 → (length ws == 0) ≡ false →
    words_before ws (assembled_from places (number + 1) (length ws) (lines_of rest)) ≡ whole → whole ≡ Ok ws
complete places ws rest number whole none some before =
    sym before ∙ (ap (λ (ls : List (List ℕ)). words_before ws (assembled_from places (number + 1) (length ws) ls)) (no_lines rest none) ∙
    (ap (λ (b : Bool). words_before ws (cond b (Err (AtLine (max (number + 1 - 1) 1) cause.Size)) (Ok []))) some ∙ ap (λ (l : List ℕ). let r : Result (List ℕ) SourceFault = Ok l in r) (append-nil ws)))

-- what the found labels assemble to is what the source does
pub by_places : (text : List ℕ) (places : List ℕ → Option Place) → ((q : List ℕ) → places q ≡ places_of text q) → assembled_from places 1 0 (lines_of text) ≡ assembled text
unfolding assembled
by_places text places same = ap (λ (f : List ℕ → Option Place). assembled_from f 1 0 (lines_of text)) (fun_ext same)

pub as_fault : (a b : SourceFault) (whole : Result (List ℕ) SourceFault) → a ≡ b → whole ≡ Err a → whole ≡ Err b
as_fault a b whole same is = is ∙ ap (λ (f : SourceFault). let r : Result (List ℕ) SourceFault = Err f in r) same
