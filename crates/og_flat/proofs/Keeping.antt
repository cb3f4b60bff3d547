-- What is kept of flat memory stays so over an access.
use Rattle.std.proofs.Common.{◌≡◌, ◌≢◌, ℕ, ◌+◌, ◌*◌, ◌/◌, ◌%◌, ◌<◌, true, nat_eq, List, length, get_or, set, Option, Some, None, is_some, refl, ap, sym, subst, ◌∙◌, inl, inr, ◌⊎◌, arith}
use Rattle.std.specs.List.{position}
use Rattle.std.specs.Option.{option_map}
use Rattle.std.proofs.lemmas.Bool.{eqb-true, eq-eqb, cases_eq, false≢true}
use Rattle.std.proofs.lemmas.Bool.Decides.{eqb_tells}
use Rattle.std.proofs.lemmas.List.{get_or-set_other, get_or-set_same, length-set}
use Rattle.std.proofs.lemmas.List.Quantifiers.{position-Some}
use Rattle.og_line.specs.declared.Line.{Line}
use Rattle.og_line.specs.declared.Reservation.{Reservation}
use Rattle.og_line.specs.declared.Access.{Access}
use Rattle.og_line.specs.Line.{zero_line}
use Rattle.og_line.specs.Access.{line_after, reservation_after}
use Rattle.og_flat.specs.Flat.{Flat, block_of, flat_next, with_value}
use Rattle.og_flat.specs.Kept.{KeptState, Keeps, line_at, place_in}

-- the page that stands at a number
pub page_at : (pages : List ℕ) (page i : ℕ) → position (nat_eq page) pages ≡ Some i → get_or pages i 0 ≡ page
page_at pages page i e = sym (eqb-true page (get_or pages i 0) (position-Some (nat_eq page) pages i 0 e).1)

-- what a place tells of its block
placed : (block at : ℕ) (o : Option ℕ) → option_map (λ i. 32 * i + block % 32) o ≡ Some at → (i : ℕ) × (o ≡ Some i) × (32 * i + block % 32 ≡ at)
placed block at None e = cc
placed block at (Some i) e = (i, refl, (cc))

-- two blocks with one place are one block
same_block : (pages : List ℕ) (a b at : ℕ) → place_in pages a ≡ Some at → place_in pages b ≡ Some at → a ≡ b
same_block pages a b at pa pb =
    let p = placed a at (position (nat_eq (a / 32)) pages) pa in
    let q = placed b at (position (nat_eq (b / 32)) pages) pb in
    let pi : 32 * p.0 + a % 32 ≡ at = p.2 in
    let qi : 32 * q.0 + b % 32 ≡ at = q.2 in
    let same : p.0 ≡ q.0 = omega arith in
    let low : a % 32 ≡ b % 32 = omega arith in
    let page_a : get_or pages p.0 0 ≡ a / 32 = page_at pages (a / 32) p.0 p.1 in
    let page_b : get_or pages q.0 0 ≡ b / 32 = page_at pages (b / 32) q.0 q.1 in
    let page : a / 32 ≡ b / 32 = sym page_a ∙ ap (λ i. get_or pages i 0) same ∙ page_b in
    omega arith

with_same : {X : Type 0} (f : ℕ → X) (at : ℕ) (x : X) → with_value f at x at ≡ x
with_same f at x = rw (eq-eqb at at refl) refl

with_other : {X : Type 0} (f : ℕ → X) (at i : ℕ) (x : X) → i ≢ at → with_value f at x i ≡ f i
with_other f at i x h = elim (eqb_tells i at) [
  | inl same ↦ absurd (h same.1)
  | inr other ↦ rw other.0 refl
]

-- a block that is kept has a place
has_place : (o : Option ℕ) → is_some o ≡ true → (at : ℕ) × (o ≡ Some at)
has_place None h = absurd (false≢true h)
has_place (Some at) h = (at, refl)

-- the line and the reservation after an access, of what is kept
abbrev pub line_then : KeptState → ℕ → ℕ → Access → Line
line_then kept hart at access =
    line_after (get_or kept.lines at zero_line) (get_or kept.reserved hart None) access

abbrev pub reservation_then : KeptState → ℕ → ℕ → Access → Option Reservation
reservation_then kept hart at access =
    reservation_after (get_or kept.lines at zero_line) (get_or kept.reserved hart None) access

-- an access to the block at its place, made by a hart, keeps the memory after it
pub kept_next : (kept : KeptState) (flat : Flat) (hart at : ℕ) (access : Access) → Keeps kept flat → place_in kept.pages (block_of access) ≡ Some at → at < length kept.lines → hart < length kept.reserved → Keeps (record { pages = kept.pages; lines = set kept.lines at (line_then kept hart at access); reserved = set kept.reserved hart (reservation_then kept hart at access) }) (flat_next flat hart access)
kept_next kept flat hart at access keeps place inside known = record {
  lines = λ block has. line_kept block has (cases_eq block target);
  reserved = λ other lt. reservation_kept other lt (cases_eq other hart);
}
  where
    target : ℕ
    target = block_of access

    here : get_or kept.lines at zero_line ≡ flat.memory target
    here = sym (ap (line_at kept.lines) place) ∙ keeps.lines target (ap is_some place)

    mine : get_or kept.reserved hart None ≡ flat.reserved hart
    mine = keeps.reserved hart known

    line : Line
    line = line_after (flat.memory target) (flat.reserved hart) access

    same_line : line_then kept hart at access ≡ line
    same_line = ap (λ l. line_after l (get_or kept.reserved hart None) access) here ∙ ap (λ r. line_after (flat.memory target) r access) mine

    same_reservation : reservation_then kept hart at access ≡ reservation_after (flat.memory target) (flat.reserved hart) access
    same_reservation = ap (λ l. reservation_after l (get_or kept.reserved hart None) access) here ∙ ap (λ r. reservation_after (flat.memory target) r access) mine

    line_kept : (block : ℕ) → is_some (place_in kept.pages block) ≡ true → (block ≡ target) ⊎ (block ≢ target) → line_at (set kept.lines at (line_then kept hart at access)) (place_in kept.pages block) ≡ with_value flat.memory target line block
    line_kept block has (inl same) =
        subst (λ b. line_at (set kept.lines at (line_then kept hart at access)) (place_in kept.pages b) ≡ with_value flat.memory target line b) (sym same)
        (ap (line_at (set kept.lines at (line_then kept hart at access))) place
        ∙ get_or-set_same kept.lines at (line_then kept hart at access) zero_line inside
        ∙ same_line ∙ sym (with_same flat.memory target line))
    line_kept block has (inr other) =
        let p = has_place (place_in kept.pages block) has in
        let apart : p.0 ≢ at = λ e. other (same_block kept.pages block target at (p.1 ∙ ap (λ n. Some n) e) place) in
        ap (line_at (set kept.lines at (line_then kept hart at access))) p.1
        ∙ get_or-set_other kept.lines at p.0 (line_then kept hart at access) zero_line apart
        ∙ sym (ap (line_at kept.lines) p.1)
        ∙ keeps.lines block has
        ∙ sym (with_other flat.memory target block line other)

    reservation_kept : (other : ℕ) → other < length (set kept.reserved hart (reservation_then kept hart at access)) → (other ≡ hart) ⊎ (other ≢ hart) → get_or (set kept.reserved hart (reservation_then kept hart at access)) other None ≡ with_value flat.reserved hart (reservation_after (flat.memory target) (flat.reserved hart) access) other
    reservation_kept other lt (inl same) =
        subst (λ h. get_or (set kept.reserved hart (reservation_then kept hart at access)) h None ≡ with_value flat.reserved hart (reservation_after (flat.memory target) (flat.reserved hart) access) h) (sym same)
        (get_or-set_same kept.reserved hart (reservation_then kept hart at access) None known
        ∙ same_reservation ∙ sym (with_same flat.reserved hart (reservation_after (flat.memory target) (flat.reserved hart) access)))
    reservation_kept other lt (inr apart) =
        let size : length (set kept.reserved hart (reservation_then kept hart at access)) ≡ length kept.reserved = length-set kept.reserved hart (reservation_then kept hart at access) in
        get_or-set_other kept.reserved hart other (reservation_then kept hart at access) None apart
        ∙ keeps.reserved other (omega arith)
        ∙ sym (with_other flat.reserved hart other (reservation_after (flat.memory target) (flat.reserved hart) access) apart)
