-- What is kept of flat memory at the start.
use Rattle.std.proofs.Common.{◌≡◌, ◌≢◌, ℕ, ◌+◌, ◌*◌, ◌/◌, ◌%◌, ◌<◌, true, nat_eq, List, length, get_or, Option, Some, None, is_some, refl, ap, subst, ◌∙◌, arith, replicate}
use Rattle.std.specs.List.{position}
use Rattle.std.specs.Option.{option_map}
use Rattle.std.proofs.lemmas.Bool.{false≢true}
use Rattle.std.proofs.lemmas.List.{get_or-replicate, length-replicate}
use Rattle.std.proofs.lemmas.List.Quantifiers.{position-Some}
use Rattle.og_line.specs.declared.Line.{Line}
use Rattle.og_line.specs.declared.Reservation.{Reservation}
use Rattle.og_flat.specs.Flat.{flat_start, start_line}
use Rattle.og_flat.specs.Kept.{Keeps, line_at, place_in}
use Rattle.og_flat.proofs.Keeping.{page_at}
use Rattle.og_flat.proofs.Lines.{all_lines, get_or-all_lines}

-- a page that is found gives its blocks a place
pub some_place : (pages : List ℕ) (block : ℕ) → position (nat_eq (block / 32)) pages ≢ None → is_some (place_in pages block) ≡ true
some_place pages block found = at (position (nat_eq (block / 32)) pages) found
  where
    at : (o : Option ℕ) → o ≢ None → is_some (option_map (λ i. 32 * i + block % 32) o) ≡ true
    at None some = absurd (some refl)
    at (Some i) some = refl

-- no hart has a reservation
none_reserved : (n i : ℕ) (reserved : List (Option Reservation)) → reserved ≡ replicate n None → i < length reserved → get_or reserved i None ≡ None
none_reserved n i reserved e lt =
    let size : length (replicate n (none)) ≡ n = length-replicate n none in
    rw e (get_or-replicate n i none none (subst (λ m. i < m) (ap length e ∙ size) lt))
  where
    none : Option Reservation
    none = None

-- a block's line among those of all pages
line_found : (byte : ℕ → ℕ) (pages : List ℕ) (block : ℕ) (o : Option ℕ) → position (nat_eq (block / 32)) pages ≡ o → is_some (option_map (λ i. 32 * i + block % 32) o) ≡ true → line_at (all_lines byte pages) (option_map (λ i. 32 * i + block % 32) o) ≡ start_line byte block
line_found byte pages block None e has = absurd (false≢true has)
line_found byte pages block (Some i) e has =
    let inside : i < length pages = (position-Some (nat_eq (block / 32)) pages i 0 e).0 in
    let page : get_or pages i 0 ≡ block / 32 = page_at pages (block / 32) i e in
    get_or-all_lines byte pages i (block % 32) inside (omega arith) ∙ ap (start_line byte) (omega arith)

pub keeps_start : (byte : ℕ → ℕ) (pages : List ℕ) (lines : List Line) (reserved : List (Option Reservation)) (nodes : ℕ) → lines ≡ all_lines byte pages → reserved ≡ replicate nodes None → Keeps (record { pages = pages; lines = lines; reserved = reserved }) (flat_start byte)
keeps_start byte pages lines reserved nodes e f = record {
  lines = λ block has. rw e (line_found byte pages block (position (nat_eq (block / 32)) pages) refl has);
  reserved = λ hart lt. none_reserved nodes hart reserved f lt;
}
