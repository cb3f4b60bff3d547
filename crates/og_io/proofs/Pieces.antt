-- Texts that are written piece by piece.
use Rattle.std.proofs.Common.{◌≡◌, ◌≢◌, ℕ, zero, suc, get_or, Bor, ◌+◌, ◌-◌, ◌≤◌, ◌<◌, min, List, [], ◌∷◌, ◌++◌, length, take, drop, arith, refl, sym, ap, subst, append_assoc, length-append, length-drop, Option, None, Some, Result, Ok, Err, IfOk, OnErr}
use Rattle.std.proofs.Math.Path.{◌∙◌}
use Rattle.std.proofs.Math.Seq.{take-append_seam}
use Rattle.std.proofs.lemmas.List.{take-append-drop, take-append-le, take_all, append-nil, length-take}
use Rattle.og_io.specs.Outside.{appended, AppendsPrefix, parts_text}

-- within the first k elements, the first n of these are the first n of all
pub take_within : (n k : ℕ) (xs : List ℕ) → n ≤ length (take k xs) → take n (take k xs) ≡ take n xs
take_within n k xs le = sym (take-append-le n (take k xs) (drop k xs) le) ∙ ap (λ (ys : List ℕ). take n ys) (take-append-drop k xs)

pub appended_twice : (o : Option (List ℕ)) (xs ys : List ℕ) → appended (appended o xs) ys ≡ appended o (xs ++ ys)
appended_twice None xs ys = refl
appended_twice (Some held) xs ys = ap (λ (zs : List ℕ). Some zs) (append_assoc held xs ys)

pub appended_nothing : (o : Option (List ℕ)) → appended o [] ≡ o
appended_nothing None = refl
appended_nothing (Some held) = ap (λ (zs : List ℕ). Some zs) (append-nil held)

-- ------------------------------------------------------------------------------ one piece

pub piece_taken : {E : Type 0} → (r : Result ℕ E) (k : ℕ) (text piece : List ℕ) → piece ≡ take k text → IfOk r (λ n. n ≤ length piece) → IfOk r (λ n. n ≤ length text)
piece_taken (Ok n) k text piece is le = let len : length piece ≡ min k (length text) = ap (λ (xs : List ℕ). length xs) is ∙ length-take k text in omega (arith, le)
piece_taken (Err e) k text piece is le = tt

pub piece_appends : {E : Type 0} → (r : Result ℕ E) (k : ℕ) (text piece : List ℕ) (old new : Option (List ℕ)) → piece ≡ take k text → IfOk r (λ n. n ≤ length piece) →
    IfOk r (λ n. new ≡ appended old (take n piece)) → IfOk r (λ n. new ≡ appended old (take n text))
piece_appends (Ok n) k text piece old new is le h =
    let le' : n ≤ length (take k text) = subst (λ (xs : List ℕ). n ≤ length xs) is le in
    h ∙ ap (λ (xs : List ℕ). appended old xs) (ap (λ (xs : List ℕ). take n xs) is ∙ take_within n k text le')
piece_appends (Err e) k text piece old new is le h = tt

not_empty : (xs : List ℕ) → xs ≢ [] → 0 < length xs
not_empty [] h = absurd (h refl)
not_empty (x ∷ xs) h = omega arith

pub piece_some : {E : Type 0} → (r : Result ℕ E) (k : ℕ) (text piece : List ℕ) → 0 < k → piece ≡ take k text → (piece ≢ [] → IfOk r (λ n. 1 ≤ n)) → text ≢ [] → IfOk r (λ n. 1 ≤ n)
piece_some r k text piece lt is h some = h (λ none.
    let full : 0 < length text = not_empty text some in
    let len : length piece ≡ min k (length text) = ap (λ (xs : List ℕ). length xs) is ∙ length-take k text in
    let zero : length piece ≡ 0 = ap (λ (xs : List ℕ). length xs) none in absurd (omega arith))

-- ------------------------------------------------------------------------------ all pieces

pub on_err : {A E : Type 0} → (r : Result A E) (P : Type 0) → P → OnErr r P
on_err (Ok x) P p = tt
on_err (Err e) P p = p

pub prefix_of_split : (text written rest : List ℕ) (old new : Option (List ℕ)) → text ≡ written ++ rest → new ≡ appended old written → AppendsPrefix text old new
prefix_of_split text written rest old new is held =
    let first : take (length written) text ≡ written = ap (λ (xs : List ℕ). take (length written) xs) is ∙ take-append_seam written rest in
    let len : length text ≡ length written + length rest = ap (λ (xs : List ℕ). length xs) is ∙ length-append written rest in
    (length written, omega arith, held ∙ ap (λ (xs : List ℕ). appended old xs) (sym first))

-- the split after one more piece
pub split_more : (text written rest : List ℕ) (n : ℕ) (old mid new : Option (List ℕ)) → text ≡ written ++ rest → mid ≡ appended old written → new ≡ appended mid (take n rest) →
    (x : List ℕ) × (text ≡ x ++ take (length rest - n) (drop n rest)) × (new ≡ appended old x)
split_more text written rest n old mid new is held more =
    let all : take (length rest - n) (drop n rest) ≡ drop n rest = take_all (length rest - n) (drop n rest) (omega (arith, length-drop n rest)) in (
      written ++ take n rest,
      is ∙ (ap (λ (xs : List ℕ). written ++ xs) (sym (take-append-drop n rest)) ∙ (sym (append_assoc written (take n rest) (drop n rest)) ∙ ap (λ (xs : List ℕ). (written ++ take n rest) ++ xs) (sym all))),
      more ∙ (ap (λ (o : Option (List ℕ)). appended o (take n rest)) held ∙ appended_twice old written (take n rest)),
    )

-- ------------------------------------------------------------------------------ texts in parts

parts_drop : (ps : List (Bor (List ℕ))) (i : ℕ) (d : Bor (List ℕ)) → i < length ps → parts_text (drop i ps) ≡ (get_or ps i d).now ++ parts_text (drop (i + 1) ps)
parts_drop [] i d lt = absurd (omega arith)
parts_drop (p ∷ ps) zero d lt = refl
parts_drop (p ∷ ps) (suc i) d lt =
    let one : i + 1 ≡ suc i = omega arith in
    let two : suc (suc i) ≡ suc i + 1 = omega arith in
    subst (λ (n : ℕ). parts_text (drop i ps) ≡ (get_or ps i d).now ++ parts_text (drop n (p ∷ ps))) two
    (subst (λ (n : ℕ). parts_text (drop i ps) ≡ (get_or ps i d).now ++ parts_text (drop n ps)) one (parts_drop ps i d (omega arith)))

-- the split after one more part
pub split_part : (ps : List (Bor (List ℕ))) (i : ℕ) (d : Bor (List ℕ)) (written : List ℕ) (old mid new : Option (List ℕ)) → i < length ps →
    parts_text ps ≡ written ++ parts_text (drop i ps) → mid ≡ appended old written → new ≡ appended mid (get_or ps i d).now →
    (x : List ℕ) × (parts_text ps ≡ x ++ parts_text (drop (i + 1) ps)) × (new ≡ appended old x)
split_part ps i d written old mid new lt is held more = (
  written ++ (get_or ps i d).now,
  is ∙ (ap (λ (xs : List ℕ). written ++ xs) (parts_drop ps i d lt) ∙ sym (append_assoc written (get_or ps i d).now (parts_text (drop (i + 1) ps)))),
  more ∙ (ap (λ (o : Option (List ℕ)). appended o (get_or ps i d).now) held ∙ appended_twice old written (get_or ps i d).now),
)

-- some first bytes of a part, after the parts before it
pub prefix_of_part : (ps : List (Bor (List ℕ))) (i : ℕ) (d : Bor (List ℕ)) (written : List ℕ) (old mid new : Option (List ℕ)) → i < length ps →
    parts_text ps ≡ written ++ parts_text (drop i ps) → mid ≡ appended old written → AppendsPrefix (get_or ps i d).now mid new → AppendsPrefix (parts_text ps) old new
prefix_of_part ps i d written old mid new lt is held h =
    let part : List ℕ = (get_or ps i d).now in
    let all : parts_text ps ≡ (written ++ take h.0 part) ++ (drop h.0 part ++ parts_text (drop (i + 1) ps)) =
    is ∙ (ap (λ (xs : List ℕ). written ++ xs) (parts_drop ps i d lt ∙ (ap (λ (xs : List ℕ). xs ++ parts_text (drop (i + 1) ps)) (sym (take-append-drop h.0 part)) ∙ append_assoc (take h.0 part) (drop h.0 part) (parts_text (drop (i + 1) ps)))) ∙
    sym (append_assoc written (take h.0 part) (drop h.0 part ++ parts_text (drop (i + 1) ps)))) in
    let now : new ≡ appended old (written ++ take h.0 part) = h.2 ∙ (ap (λ (o : Option (List ℕ)). appended o (take h.0 part)) held ∙ appended_twice old written (take h.0 part)) in
    prefix_of_split (parts_text ps) (written ++ take h.0 part) (drop h.0 part ++ parts_text (drop (i + 1) ps)) old new all now
