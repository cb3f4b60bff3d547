-- A drop request that is held is answered where nothing is outstanding.
use Rattle.std.proofs.Common.{Bool, None, Option, Some, [], ap, cond, false, not, option_map, refl, subst, sym, true, ℕ, ◌&&◌, ◌||◌, ◌∷◌, ◌≡◌}
use Rattle.std.specs.Prelude.{if◌then◌else◌, is_some}
use Rattle.og_base.specs.declared.Frame.{Frame}
use Rattle.og_base.specs.declared.VPage.{VPage}
use Rattle.og_msg.specs.declared.Kind.TheVariants as kind
use Rattle.og_image.specs.Image.{ImageState}
use Rattle.og_tlb.specs.Tlb.{IsTlb, without_frame}
use Rattle.og_request.specs.Request.{Requested}
use Rattle.og_victim.specs.Slot.{is_free_slot}
use Rattle.og_victim.specs.declared.Slot.{Slot}
use Rattle.og_victim.specs.declared.Slot.TheVariants as slot
use Rattle.og_processor.specs.State.{Given, ProcessorState, becomes, letter, sends}
use Rattle.og_processor.specs.Take.{drops, drops_by, is_occupied}
use Rattle.og_pages.specs.Rows.{points_to}
use Rattle.og_pages.specs.State.{NoEntry, TlbEntry}
use Rattle.og_relate.specs.Data.{KDropped}
use Rattle.og_relate.specs.Node.{answer_drop, drop_by, is_due, is_none}
use Rattle.og_relate.specs.Steps.{letter as seen_letter}
use Rattle.og_seen.proofs.Tlbs.{drop_frame_seen}
use Rattle.og_seen.specs.Numbers.{Sizes, frame_number, is_there, page_number}
use Rattle.og_seen.specs.Processors.{Notes, cpu_seen, request_seen, slot_seen}
use Rattle.og_seen.specs.Tlbs.{NamesFrames, tlb_seen}
use Rattle.og_refine_node.proofs.Given.{IsGiven}

-- nothing is outstanding
due_by : (s : Sizes) (r : Option Requested) (k : Option VPage) (v : Slot) → (is_none (option_map (request_seen s) r) && is_none (option_map (page_number s) k) && is_none (slot_seen s v)) ≡ not (is_some r || is_some k || not (is_free_slot v))
due_by s (Some r) k v = refl
due_by s None (Some k) v = refl
due_by s None None slot.Free = refl
due_by s None None (slot.Taken block busy seen) = refl

pub due_is : (s : Sizes) (x : ProcessorState) → is_due (cpu_seen s x) ≡ not (is_occupied x)
due_is s x = due_by s x.request x.walk x.victim

module _ (image : ImageState) (s : Sizes) (p : ℕ) (x : ProcessorState) where
  abbrev dropped : Frame → Given
  dropped frame = sends (record x { tlb = without_frame x.tlb frame; drop = None }) (letter image.nodes (kind.Dropped frame) ∷ [])

  -- the answer, as the function gives it
  pub drops_given : image.nodes ≡ s.nodes → IsTlb x.tlb → NamesFrames s x.tlb → ((frame : Frame) → x.drop ≡ Some frame → is_there s frame ≡ true) → IsGiven s p (answer_drop p s.nodes (cpu_seen s x)) (drops image x)
  drops_given nodes tlb names is = by x.drop refl
    where
      kept : (t : Bool) → IsGiven s p (drop_by p s.nodes (cpu_seen s x) t None) (becomes x)
      kept true = record { state = refl; letters = refl }
      kept false = record { state = refl; letters = refl }

      answered : (frame : Frame) → is_there s frame ≡ true → (t : Bool) → IsGiven s p (drop_by p s.nodes (cpu_seen s x) (not t) (Some (frame_number s frame))) (if t then becomes x else dropped frame)
      answered frame known true = record { state = refl; letters = refl }
      answered frame known false = record {
        state = (let e : (λ y. cond (points_to (frame_number s frame) (tlb_seen s x.tlb y)) NoEntry (tlb_seen s x.tlb y)) ≡ tlb_seen s (without_frame x.tlb frame) = (λ i. λ y. sym (drop_frame_seen s x.tlb frame y tlb names known) i) in
            ap (λ (t : ℕ → TlbEntry). record (cpu_seen s x) { drop = None; tlb = t }) e);
        letters = ap (λ (n : ℕ). seen_letter p n (KDropped (frame_number s frame)) ∷ []) (sym nodes);
      }

      by : (d : Option Frame) → x.drop ≡ d → IsGiven s p (drop_by p s.nodes (cpu_seen s x) (is_due (cpu_seen s x)) (option_map (frame_number s) d)) (drops_by image x d)
      by None e = kept (is_due (cpu_seen s x))
      by (Some frame) e = subst (λ (t : Bool). IsGiven s p (drop_by p s.nodes (cpu_seen s x) t (Some (frame_number s frame))) (drops_by image x (Some frame))) (sym (due_is s x)) (answered frame (is frame e) (is_occupied x))

  -- nothing is noted of it, and the reservation stays
  pub drops_quiet : (y : ProcessorState) → y.reserved ≡ x.reserved → Notes image s y [] (drops image x)
  drops_quiet y same = by x.drop
    where
      answered : (frame : Frame) (t : Bool) → Notes image s y [] (if t then becomes x else dropped frame)
      answered frame true = sym same
      answered frame false = sym same

      by : (d : Option Frame) → Notes image s y [] (drops_by image x d)
      by None = sym same
      by (Some frame) = answered frame (is_occupied x)
