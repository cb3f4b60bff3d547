-- The accesses of an event have the answers of the flat memory, and leave it as the theory's memory is left.
use Rattle.std.proofs.Common.{◌≡◌, ◌∙◌, ℕ, ◌+◌, ◌*◌, ◌/◌, ◌%◌, ◌<◌, Bool, true, false, cond, nat_eq, arith, refl, sym, ap, subst, Option, None, Some, List, [], ◌∷◌, slice_get, unwrap_or}
use Rattle.std.specs.Prelude.{◌==◌, if◌then◌else◌}
use Rattle.std.proofs.lemmas.Bool.Decides.{nat_tests}
use Rattle.og_line.specs.declared.Line.{Line}
use Rattle.og_line.specs.declared.Reservation.{Reservation}
use Rattle.og_line.specs.declared.Access.{Access}
use Rattle.og_line.specs.Access.{addr_of, answer_of, line_after, reservation_after}
use Rattle.og_msg.specs.declared.Note.{Note}
use Rattle.og_msg.specs.declared.Note.TheVariants as note
use Rattle.og_image.specs.Image.{ImageState}
use Rattle.og_flat.specs.Flat.{Flat, block_of, with_value, flat_next}
use Rattle.og_processor.specs.State.{ProcessorState, Given}
use Rattle.og_processor.specs.Access.{page_of}
use Rattle.og_machine.specs.HartRuns.{AnswersFlat, flat_noted}
use Rattle.og_pages.specs.State.{put_pair}
use Rattle.og_relate.specs.Goes.{Made, memory_left, MadeFlat, memory_made}
use Rattle.og_seen.specs.Numbers.{Sizes}
use Rattle.og_seen.specs.Processors.{IsNoted, NotesBy, Notes}
use Rattle.og_seen.specs.Sound.{AreSizes, IsPlaced, IsProcessorOf}
use Rattle.og_seen.proofs.Pages.{is_numbered, pages_differ, needed_placed}

-- the theory's memory is the flat one
abbrev pub SameMemory : Sizes → (ℕ → ℕ → Line) → Flat → Type 0
SameMemory s memory flat = (y k page : ℕ) → slice_get s.pages y ≡ Some page → k < 32 → memory y k ≡ flat.memory (page * 32 + k)

-- what an event of hart p leaves of the flat memory
pub record Left (s : Sizes) (memory : ℕ → ℕ → Line) (flat : Flat) (p : ℕ) (noted : Option Note) (reserved : Option Reservation) : Type 0 where
  pub answers : AnswersFlat flat p noted
  pub memory_is : SameMemory s memory (flat_noted flat p noted)
  pub own : (flat_noted flat p noted).reserved p ≡ reserved
  pub others : (q : ℕ) → nat_eq q p ≡ false → (flat_noted flat p noted).reserved q ≡ flat.reserved q

-- nothing is accessed
nothing_left : (s : Sizes) (memory : ℕ → ℕ → Line) (flat : Flat) (p : ℕ) (noted : Option Note) (before after : Option Reservation) → AnswersFlat flat p noted → flat_noted flat p noted ≡ flat → SameMemory s memory flat → flat.reserved p ≡ before → after ≡ before → Left s memory flat p noted after
nothing_left s memory flat p noted before after answers same is reserved stays = record {
  answers = answers;
  memory_is = subst (SameMemory s memory) (sym same) is;
  own = ap (λ (f : Flat). f.reserved p) same ∙ (reserved ∙ sym stays);
  others = λ q ne. ap (λ (f : Flat). f.reserved q) same;
}

-- the block of an address, by its page
block_is : (addr : ℕ) → addr / 4096 * 32 + addr / 128 % 32 ≡ addr / 128
block_is addr = grind (arith)

low : (addr : ℕ) → addr / 128 % 32 < 32
low addr = omega arith

-- two blocks of pages are one exactly where their pages and numbers are
one_block : (page other k j : ℕ) → k < 32 → j < 32 → page * 32 + k ≡ other * 32 + j → (page ≡ other) × (k ≡ j)
one_block page other k j a b e = (omega arith, omega arith)

-- an access
access_left : (image : ImageState) (s : Sizes) (x : ProcessorState) (memory after : ℕ → ℕ → Line) (flat : Flat) (p : ℕ) (made : Made Line) (access : Access) (answer : ℕ) (reserved : Option Reservation) → AreSizes s → IsProcessorOf image s x → SameMemory s memory flat → flat.reserved p ≡ x.reserved →
    IsNoted image s x reserved made access answer → made.found ≡ memory made.page made.number → after ≡ memory_left memory made.page made.number made.left → Left s after flat p (Some (note.Access access answer)) reserved
access_left image s x memory after flat p made access answer reserved sizes is same held noted found left = record {
  answers = noted.answer_is ∙ (ap (λ (l : Line). answer_of l x.reserved access) line ∙ ap (λ (r : Option Reservation). answer_of (flat.memory (block_of access)) r access) (sym held));
  memory_is = left_is;
  own = own;
  others = others;
}
  where
    placed : IsPlaced s (page_of (addr_of access))
    placed = needed_placed image s x access is noted.needs

    numbered : slice_get s.pages made.page ≡ Some (addr_of access / 4096)
    numbered = subst (λ (y : ℕ). slice_get s.pages y ≡ Some (addr_of access / 4096)) (sym noted.page) (is_numbered s (page_of (addr_of access)) placed)

    inside : made.number < 32
    inside = subst (λ (k : ℕ). k < 32) (sym noted.number) (low (addr_of access))

    here : addr_of access / 4096 * 32 + made.number ≡ block_of access
    here = ap (λ (k : ℕ). addr_of access / 4096 * 32 + k) noted.number ∙ block_is (addr_of access)

    line : made.found ≡ flat.memory (block_of access)
    line = found ∙ (same made.page made.number (addr_of access / 4096) numbered inside ∙ ap flat.memory here)

    next : Line
    next = line_after (flat.memory (block_of access)) (flat.reserved p) access

    wrote : unwrap_or made.left made.found ≡ next
    wrote = noted.left_is ∙ (ap (λ (l : Line). line_after l x.reserved access) line ∙ ap (λ (r : Option Reservation). line_after (flat.memory (block_of access)) r access) (sym held))

    at_block : (b : ℕ) (t : Bool) → (b == block_of access) ≡ t → t ≡ true → with_value flat.memory (block_of access) next b ≡ next
    at_block b t e u = let f : (b == block_of access) ≡ true = e ∙ u in ap (λ (c : Bool). if c then next else flat.memory b) f

    left_is : SameMemory s after (flat_next flat p access)
    left_is y k page e lt = ap (λ (m : ℕ → ℕ → Line). m y k) left ∙ by made.left refl
      where
        there : (t : Bool) → (page * 32 + k == block_of access) ≡ t → with_value flat.memory (block_of access) next (page * 32 + k) ≡ (if t then next else flat.memory (page * 32 + k))
        there t u = ap (λ (c : Bool). if c then next else flat.memory (page * 32 + k)) u

        same_block : page * 32 + k ≡ block_of access → (y ≡ made.page) × (k ≡ made.number)
        same_block u =
            let o = one_block page (addr_of access / 4096) k made.number lt inside (u ∙ sym here) in
            let n : slice_get s.pages made.page ≡ Some page = subst (λ (z : ℕ). slice_get s.pages made.page ≡ Some z) (sym o.0) numbered in
            (pages_differ s sizes y made.page page e n, o.1)

        still : (t : Bool) → (page * 32 + k == block_of access) ≡ t → next ≡ flat.memory (block_of access) → memory y k ≡ with_value flat.memory (block_of access) next (page * 32 + k)
        still true u stays = let f : page * 32 + k ≡ block_of access = grind (arith, nat_tests) in same y k page e lt ∙ (ap flat.memory f ∙ (sym stays ∙ sym (there true u)))
        still false u stays = same y k page e lt ∙ sym (there false u)

        written : (line2 : Line) → line2 ≡ next → (t : Bool) → (page * 32 + k == block_of access) ≡ t → put_pair memory made.page made.number line2 y k ≡ with_value flat.memory (block_of access) next (page * 32 + k)
        written line2 w true u =
            let f : page * 32 + k ≡ block_of access = grind (arith, nat_tests) in
            let o = same_block f in
            let ey : nat_eq y made.page ≡ true = (let a = o.0 in grind (arith, nat_tests)) in
            let ek : nat_eq k made.number ≡ true = (let a = o.1 in grind (arith, nat_tests)) in
            ap (λ (c : Bool). cond c (cond (nat_eq k made.number) line2 (memory y k)) (memory y k)) ey ∙ (ap (λ (c : Bool). cond c line2 (memory y k)) ek ∙ (w ∙ sym (there true u)))
        written line2 w false u = apart (nat_eq y made.page) refl (nat_eq k made.number) refl
          where
            rest : memory y k ≡ with_value flat.memory (block_of access) next (page * 32 + k)
            rest = same y k page e lt ∙ sym (there false u)

            apart : (a : Bool) → nat_eq y made.page ≡ a → (b : Bool) → nat_eq k made.number ≡ b → cond a (cond b line2 (memory y k)) (memory y k) ≡ with_value flat.memory (block_of access) next (page * 32 + k)
            apart true ea true eb = absurd (
                let oy : y ≡ made.page = grind (arith, nat_tests) in
                let ok : k ≡ made.number = grind (arith, nat_tests) in
                let n : slice_get s.pages y ≡ Some (addr_of access / 4096) = subst (λ (z : ℕ). slice_get s.pages z ≡ Some (addr_of access / 4096)) (sym oy) numbered in
                let pg : page ≡ addr_of access / 4096 = cc in
                let f : page * 32 + k ≡ block_of access = ap (λ (z : ℕ). z * 32 + k) pg ∙ (ap (λ (z : ℕ). addr_of access / 4096 * 32 + z) ok ∙ here) in
                grind (arith, nat_tests))
            apart true ea false eb = rest
            apart false ea b eb = rest

        by : (o : Option Line) → made.left ≡ o → memory_left memory made.page made.number o y k ≡ with_value flat.memory (block_of access) next (page * 32 + k)
        by None o = let w : made.found ≡ next = sym (ap (λ (z : Option Line). unwrap_or z made.found) o) ∙ wrote in still (page * 32 + k == block_of access) refl (sym w ∙ line)
        by (Some line2) o = let w : line2 ≡ next = sym (ap (λ (z : Option Line). unwrap_or z made.found) o) ∙ wrote in written line2 w (page * 32 + k == block_of access) refl

    own : (flat_next flat p access).reserved p ≡ reserved
    own =
        let t : (p == p) ≡ true = grind (arith, nat_tests) in
        ap (λ (c : Bool). if c then reservation_after (flat.memory (block_of access)) (flat.reserved p) access else flat.reserved p) t
        ∙ (ap (λ (r : Option Reservation). reservation_after (flat.memory (block_of access)) r access) held ∙ (ap (λ (l : Line). reservation_after l x.reserved access) (sym line) ∙ sym noted.reserved_is))

    others : (q : ℕ) → nat_eq q p ≡ false → (flat_next flat p access).reserved q ≡ flat.reserved q
    others q ne = ap (λ (c : Bool). if c then reservation_after (flat.memory (block_of access)) (flat.reserved p) access else flat.reserved q) (let t : (q == p) ≡ false = ne in t)

-- any event of a processor
pub event_left : (image : ImageState) (s : Sizes) (x : ProcessorState) (given : Given) (memory after : ℕ → ℕ → Line) (flat : Flat) (p : ℕ) (made : List (Made Line)) → AreSizes s → IsProcessorOf image s x → SameMemory s memory flat → flat.reserved p ≡ x.reserved →
    Notes image s x made given → MadeFlat memory made → after ≡ memory_made memory made → Left s after flat p given.note given.state.reserved
event_left image s x given memory after flat p made sizes is same held notes found left = by made given.note notes found left
  where
    quiet : (noted : Option Note) → AnswersFlat flat p noted → flat_noted flat p noted ≡ flat → given.state.reserved ≡ x.reserved → after ≡ memory → Left s after flat p noted given.state.reserved
    quiet noted answers stays r l = nothing_left s after flat p noted x.reserved given.state.reserved answers stays (subst (λ (m : ℕ → ℕ → Line). SameMemory s m flat) (sym l) same) held r

    by : (ms : List (Made Line)) (noted : Option Note) → NotesBy image s x given.state.reserved ms noted → MadeFlat memory ms → after ≡ memory_made memory ms → Left s after flat p noted given.state.reserved
    by [] None n f l = quiet None tt refl n l
    by [] (Some (note.Access access answer)) n f l = absurd n
    by [] (Some (note.Emit value)) n f l = quiet (Some (note.Emit value)) tt refl n l
    by [] (Some (note.Exit value)) n f l = quiet (Some (note.Exit value)) tt refl n l
    by [] (Some (note.Trap cause pc)) n f l = quiet (Some (note.Trap cause pc)) tt refl n l
    by [] (Some note.Spent) n f l = quiet (Some note.Spent) tt refl n l
    by [] (Some (note.Begin page old new)) n f l = quiet (Some (note.Begin page old new)) tt refl n l
    by [] (Some (note.No reason frame node)) n f l = quiet (Some (note.No reason frame node)) tt refl n l
    by [] (Some (note.Moved page old new)) n f l = quiet (Some (note.Moved page old new)) tt refl n l
    by [] (Some (note.Freed frame)) n f l = quiet (Some (note.Freed frame)) tt refl n l
    by (m ∷ []) (Some (note.Access access answer)) n f l = access_left image s x memory after flat p m access answer given.state.reserved sizes is same held n f.0 l
    by (m ∷ []) None n f l = absurd n
    by (m ∷ []) (Some (note.Emit value)) n f l = absurd n
    by (m ∷ []) (Some (note.Exit value)) n f l = absurd n
    by (m ∷ []) (Some (note.Trap cause pc)) n f l = absurd n
    by (m ∷ []) (Some note.Spent) n f l = absurd n
    by (m ∷ []) (Some (note.Begin page old new)) n f l = absurd n
    by (m ∷ []) (Some (note.No reason frame node)) n f l = absurd n
    by (m ∷ []) (Some (note.Moved page old new)) n f l = absurd n
    by (m ∷ []) (Some (note.Freed frame)) n f l = absurd n
    by (m ∷ k ∷ ms) noted n f l = absurd n
