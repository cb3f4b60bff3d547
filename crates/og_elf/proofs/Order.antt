-- The first header that overlaps an earlier one, by how many headers are apart.
use Rattle.std.proofs.Common.{◌≡◌, ℕ, zero, suc, ◌+◌, ◌<◌, ◌||◌, length, List, [], ◌∷◌, ◌++◌, arith, refl, sym, cond, true, false, Bool, get_or, take, map, None, Some, add-one}
use Rattle.std.specs.List.{list_any}
use Rattle.std.proofs.Math.Path.{◌∙◌}
use Rattle.std.proofs.lemmas.List.{append-nil}
use Rattle.std.proofs.lemmas.List.Folds.{list_any-append}
use Rattle.std.proofs.lemmas.List.Sorted.{IsPermutation-middle}
use Rattle.og_elf.specs.declared.segment.Span.{Span}
use Rattle.og_elf.specs.declared.header.Header.{Header}
use Rattle.og_elf.specs.Segment.{overlaps, are_apart}
use Rattle.og_elf.specs.Elf.{overlapping, span_of_header}
use Rattle.og_elf.proofs.Apart.{apart_permuted, first_of, apart_cons}

abbrev spans : List Header → List Span
spans hs = map span_of_header hs

-- a span may stand before the others or among them
moved : (xs : List Span) (s : Span) (e : List Span) → are_apart (s ∷ (xs ++ e)) ≡ are_apart (xs ++ s ∷ e)
moved xs s e = apart_permuted (xs ++ s ∷ e) (s ∷ (xs ++ e)) (IsPermutation-middle xs s e)

later_of : (s : Span) (xs e : List Span) → list_any (overlaps s) (xs ++ e) ≡ false → list_any (overlaps s) e ≡ false
later_of s xs e h = go (list_any (overlaps s) xs) (list_any (overlaps s) e) (sym (list_any-append (overlaps s) xs e) ∙ h)
  where
    go : (a b : Bool) → (a || b) ≡ false → b ≡ false
    go true b h = absurd (cc)
    go false b h = h

-- a header that isn't the first
passed : (e : List Span) (h : Header) (hs : List Header) → list_any (overlaps (span_of_header h)) e ≡ false → overlapping e (h ∷ hs) ≡ overlapping (span_of_header h ∷ e) hs
passed e h hs none = rw none refl

-- where so many headers are apart and one more aren't, that one is the first
found_from : (e : List Span) (hs : List Header) (k : ℕ) (d : Header) → k < length hs → are_apart (take k (spans hs) ++ e) ≡ true → are_apart (take (suc k) (spans hs) ++ e) ≡ false → overlapping e hs ≡ Some (get_or hs k d)
found_from e [] k d lt apart overlap = absurd (omega arith)
found_from e (h ∷ hs) zero d lt apart overlap = go (list_any (overlaps (span_of_header h)) e) refl
  where
    go : (b : Bool) → list_any (overlaps (span_of_header h)) e ≡ b → overlapping e (h ∷ hs) ≡ Some h
    go true is = rw is refl
    go false is = let all : are_apart (span_of_header h ∷ e) ≡ true = apart_cons (span_of_header h) e is apart in absurd (cc)
found_from e (h ∷ hs) (suc k) d lt apart overlap =
    let none : list_any (overlaps (span_of_header h)) e ≡ false = later_of (span_of_header h) (take k (spans hs)) e (first_of (span_of_header h) (take k (spans hs) ++ e) apart) in
    passed e h hs none ∙ found_from (span_of_header h ∷ e) hs k d (omega arith) (sym (moved (take k (spans hs)) (span_of_header h) e) ∙ apart) (sym (moved (take (suc k) (spans hs)) (span_of_header h) e) ∙ overlap)

none_from : (e : List Span) (hs : List Header) → are_apart (spans hs ++ e) ≡ true → overlapping e hs ≡ None
none_from e [] apart = refl
none_from e (h ∷ hs) apart =
    let none : list_any (overlaps (span_of_header h)) e ≡ false = later_of (span_of_header h) (spans hs) e (first_of (span_of_header h) (spans hs ++ e) apart) in
    passed e h hs none ∙ none_from (span_of_header h ∷ e) hs (sym (moved (spans hs) (span_of_header h) e) ∙ apart)

apart_from : (e : List Span) (hs : List Header) → overlapping e hs ≡ None → are_apart e ≡ true → are_apart (spans hs ++ e) ≡ true
apart_from e [] none apart = apart
apart_from e (h ∷ hs) none apart = go (list_any (overlaps (span_of_header h)) e) refl none (apart_from (span_of_header h ∷ e) hs)
  where
    go : (b : Bool) → list_any (overlaps (span_of_header h)) e ≡ b → cond b (Some h) (overlapping (span_of_header h ∷ e) hs) ≡ None →
        (overlapping (span_of_header h ∷ e) hs ≡ None → are_apart (span_of_header h ∷ e) ≡ true → are_apart (spans hs ++ span_of_header h ∷ e) ≡ true) → are_apart (span_of_header h ∷ (spans hs ++ e)) ≡ true
    go true is none later = absurd (cc)
    go false is none later = moved (spans hs) (span_of_header h) e ∙ later none (apart_cons (span_of_header h) e is apart)

pub found : (hs : List Header) (k : ℕ) (d : Header) → k < length hs → are_apart (take k (map span_of_header hs)) ≡ true → are_apart (take (k + 1) (map span_of_header hs)) ≡ false → overlapping [] hs ≡ Some (get_or hs k d)
found hs k d lt apart overlap = found_from [] hs k d lt (rw append-nil apart) (rw append-nil (rw add-one at overlap))

pub none_found : (hs : List Header) → are_apart (map span_of_header hs) ≡ true → overlapping [] hs ≡ None
none_found hs apart = none_from [] hs (rw append-nil apart)

pub apart_all : (hs : List Header) → overlapping [] hs ≡ None → are_apart (map span_of_header hs) ≡ true
apart_all hs none = rw append-nil at (apart_from [] hs none refl)
