-- A drop request that is held is answered as the machine of functions answers it.
use Rattle.std.proofs.Common.{◌≡◌, ℕ, Bool, true, false, not, ◌&&◌, ◌||◌, cond, refl, sym, ap, Option, None, Some, option_map, List, [], ◌∷◌}
use Rattle.std.specs.Prelude.{is_some, if◌then◌else◌}
use Rattle.og_base.specs.declared.Frame.{Frame}
use Rattle.og_base.specs.declared.VPage.{VPage}
use Rattle.og_line.specs.declared.Line.{Line}
use Rattle.og_msg.specs.declared.Kind.TheVariants.{Dropped}
use Rattle.og_image.specs.Image.{ImageState}
use Rattle.og_pages.specs.State.{TlbEntry, NoEntry}
use Rattle.og_pages.specs.Rows.{points_to}
use Rattle.og_request.specs.Request.{Requested}
use Rattle.og_tlb.specs.Tlb.{IsTlb, without_frame}
use Rattle.og_victim.specs.declared.Slot.{Slot}
use Rattle.og_victim.specs.declared.Slot.TheVariants.{Free, Taken}
use Rattle.og_victim.specs.Slot.{is_free_slot}
use Rattle.og_processor.specs.State.{ProcessorState, Given, becomes, sends, letter}
use Rattle.og_processor.specs.Take.{is_occupied, drops_by, drops}
use Rattle.og_relate.specs.Data.{Post, Cpu, KDropped}
use Rattle.og_relate.specs.Steps.{letter as post}
use Rattle.og_relate.specs.Node.{is_none, is_due, drop_by, answer_drop}
use Rattle.og_seen.specs.Numbers.{Sizes, is_there, frame_number, page_number}
use Rattle.og_seen.specs.Tlbs.{tlb_seen, NamesFrames}
use Rattle.og_seen.specs.Messages.{letters_seen}
use Rattle.og_seen.specs.Harts.{Hart}
use Rattle.og_seen.specs.Processors.{request_seen, slot_seen, cpu_seen}
use Rattle.og_seen.proofs.Tlbs.{drop_frame_seen}
use Rattle.og_relate.proofs.Puts.{same_functions}

-- what a row gives is seen as this answer; it notes nothing, and the reservation stays
pub record IsSeen (s : Sizes) (p : ℕ) (x : ProcessorState) (given : Given) (answer : Cpu Line Hart × List (Post Line)) : Type 0 where
  pub state : cpu_seen s given.state ≡ answer.0
  pub letters : letters_seen s p given.letters ≡ answer.1
  pub note : given.note ≡ None
  pub reserved : given.state.reserved ≡ x.reserved

-- nothing happens
pub stays_seen : (s : Sizes) (p : ℕ) (x : ProcessorState) → IsSeen s p x (becomes x) (cpu_seen s x, [])
stays_seen s p x = record { state = refl; letters = refl; note = refl; reserved = refl }

-- it is due where nothing is outstanding
pub due_seen : (s : Sizes) (x : ProcessorState) → is_due (cpu_seen s x) ≡ not (is_occupied x)
due_seen s x = by x.request x.walk x.victim
  where
    by : (r : Option Requested) (w : Option VPage) (v : Slot) → (is_none (option_map (request_seen s) r) && is_none (option_map (page_number s) w) && is_none (slot_seen s v)) ≡ not (is_some r || is_some w || not (is_free_slot v))
    by None None Free = refl
    by None None (Taken block busy seen) = refl
    by None (Some page) v = refl
    by (Some r) w v = refl

-- a drop request that is held is answered, or not yet, as in the machine of functions
pub drops_seen : (image : ImageState) (s : Sizes) (p : ℕ) (x : ProcessorState) → image.nodes ≡ s.nodes → IsTlb x.tlb → NamesFrames s x.tlb → ((frame : Frame) → x.drop ≡ Some frame → is_there s frame ≡ true) →
    IsSeen s p x (drops image x) (answer_drop p s.nodes (cpu_seen s x))
drops_seen image s p x nodes tlb named there = by x.drop refl
  where
    forgotten : (frame : Frame) → is_there s frame ≡ true → (λ y. cond (points_to (frame_number s frame) (tlb_seen s x.tlb y)) NoEntry (tlb_seen s x.tlb y)) ≡ tlb_seen s (without_frame x.tlb frame)
    forgotten frame t = same_functions (λ y. cond (points_to (frame_number s frame) (tlb_seen s x.tlb y)) NoEntry (tlb_seen s x.tlb y)) (tlb_seen s (without_frame x.tlb frame)) (λ y. sym (drop_frame_seen s x.tlb frame y tlb named t))

    none : (t : Bool) → IsSeen s p x (becomes x) (drop_by p s.nodes (cpu_seen s x) t None)
    none true = stays_seen s p x
    none false = stays_seen s p x

    some : (frame : Frame) → x.drop ≡ Some frame → (u t : Bool) → t ≡ not u →
        IsSeen s p x (if u then becomes x else sends (record x { tlb = without_frame x.tlb frame; drop = None }) (letter image.nodes (Dropped frame) ∷ [])) (drop_by p s.nodes (cpu_seen s x) t (Some (frame_number s frame)))
    some frame e true true tu = absurd (cc)
    some frame e true false tu = stays_seen s p x
    some frame e false false tu = absurd (cc)
    some frame e false true tu = record {
      state = ap (λ (f : ℕ → TlbEntry). record (cpu_seen s x) { drop = None; tlb = f }) (sym (forgotten frame (there frame e)));
      letters = ap (λ (n : ℕ). post p n (KDropped (frame_number s frame)) ∷ []) nodes;
      note = refl;
      reserved = refl;
    }

    by : (d : Option Frame) → x.drop ≡ d → IsSeen s p x (drops_by image x d) (drop_by p s.nodes (cpu_seen s x) (is_due (cpu_seen s x)) (option_map (frame_number s) d))
    by None e = none (is_due (cpu_seen s x))
    by (Some frame) e = some frame e (is_occupied x) (is_due (cpu_seen s x)) (due_seen s x)
