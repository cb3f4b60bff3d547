-- A processor takes an acknowledgement of its write-back.
use Rattle.std.proofs.Common.{Bool, List, Option, Some, ap, arith, false, refl, subst, sym, true, ℕ, ◌/◌, ◌<◌, ◌∙◌, ◌∷◌, ◌≡◌}
use Rattle.std.proofs.lemmas.Bool.Decides.{nat_tests}
use Rattle.og_base.specs.declared.Block.{Block}
use Rattle.og_runs.specs.declared.Msg.{Msg}
use Rattle.og_line.specs.declared.Line.{Line}
use Rattle.og_msg.specs.declared.Kind.{Kind}
use Rattle.og_msg.specs.declared.Kind.TheVariants as kind
use Rattle.og_image.specs.Image.{ImageState}
use Rattle.og_victim.specs.Slot.{after_ack, after_intervention as slot_after, is_slot_of}
use Rattle.og_victim.specs.declared.Slot.{Slot}
use Rattle.og_victim.specs.declared.Slot.TheVariants as slot
use Rattle.og_processor.specs.Rows.{has_row_for}
use Rattle.og_processor.specs.State.{ProcessorState}
use Rattle.og_processor.specs.Take.{drops, take_of}
use Rattle.og_node.specs.Node.{NodeState}
use Rattle.og_whole.specs.Events.{World}
use Rattle.og_relate.specs.Data.{Cpu, HomeSide, Mover, Post, Slot as SeenSlot}
use Rattle.og_relate.specs.Node.{answer_drop}
use Rattle.og_relate_node.proofs.Slots.{slot_acks, slot_busy_acks}
use Rattle.og_relate_node.specs.Steps.{slot_acknowledged, slot_met, take_at_slot}
use Rattle.og_seen.proofs.Numbers.{there_below}
use Rattle.og_seen.specs.Events.{Shows}
use Rattle.og_seen.specs.Harts.{Hart, harts_seen}
use Rattle.og_seen.specs.Messages.{kind_seen}
use Rattle.og_seen.specs.Numbers.{Sizes, frame_number, is_there, setup_seen}
use Rattle.og_seen.specs.Processors.{cpu_seen, slot_seen}
use Rattle.og_seen.specs.Sound.{IsBlock, IsHomeOf, IsProcessorOf}
use Rattle.og_refine_node.proofs.Drops.{drops_given, drops_quiet}
use Rattle.og_refine_node.proofs.Facts.{block_known, block_test, from_home, of_kind, row_is}
use Rattle.og_refine_node.proofs.Given.{IsGiven, TakenAt, goes_as}

-- the slot of a block that is seen there
pub slot_found : (s : Sizes) (o : Slot) (v : SeenSlot) (block : Block) → ((b : Block) (busy seen : Bool) → o ≡ slot.Taken b busy seen → IsBlock s b) → is_there s block.frame ≡ true → slot_seen s o ≡ Some v → v.frame ≡ frame_number s block.frame → v.number ≡ block.number → is_slot_of o block ≡ true
slot_found s slot.Free v block all known e ef en = absurd (cc)
slot_found s (slot.Taken b busy seen) v block all known e ef en =
    let one : record { frame = frame_number s b.frame; number = b.number; busy = busy; seen = seen } ≡ v = cc in
    let a : frame_number s b.frame ≡ frame_number s block.frame = ap (λ (z : SeenSlot). z.frame) one ∙ ef in
    let c : b.number ≡ block.number = ap (λ (z : SeenSlot). z.number) one ∙ en in
    block_test s b block (all b busy seen refl).0 known ∙ (grind (arith, nat_tests))

-- what an acknowledgement makes of the slot
pub ack_seen : (s : Sizes) (o : Slot) (v : SeenSlot) (busy : Bool) → slot_seen s o ≡ Some v → slot_acknowledged v busy ≡ slot_seen s (after_ack o busy)
ack_seen s slot.Free v busy e = absurd (cc)
ack_seen s (slot.Taken b busy seen) v false e = refl
ack_seen s (slot.Taken b busy seen) v true e =
    let one : record { frame = frame_number s b.frame; number = b.number; busy = busy; seen = seen } ≡ v = cc in
    subst (λ (z : SeenSlot). slot_acknowledged z true ≡ slot_seen s (after_ack (slot.Taken b busy seen) true)) one (by seen)
  where
    by : (t : Bool) → slot_acknowledged (record { frame = frame_number s b.frame; number = b.number; busy = busy; seen = t }) true ≡ slot_seen s (after_ack (slot.Taken b busy t) true)
    by true = refl
    by false = refl

-- and an intervention for its block
pub met_seen : (s : Sizes) (o : Slot) (v : SeenSlot) → slot_seen s o ≡ Some v → slot_met v ≡ slot_seen s (slot_after o)
met_seen s slot.Free v e = absurd (cc)
met_seen s (slot.Taken b busy seen) v e =
    let one : record { frame = frame_number s b.frame; number = b.number; busy = busy; seen = seen } ≡ v = cc in
    subst (λ (z : SeenSlot). slot_met z ≡ slot_seen s (slot_after (slot.Taken b busy seen))) one (by busy)
  where
    by : (t : Bool) → slot_met (record { frame = frame_number s b.frame; number = b.number; busy = t; seen = seen }) ≡ slot_seen s (slot_after (slot.Taken b t seen))
    by true = refl
    by false = refl

module _ (image : ImageState) (s : Sizes) (p : ℕ) (x : ProcessorState) (is : IsProcessorOf image s x) where
  -- the slot changes, and then a held drop is answered where it is due
  pub slot_given : (o : Slot) (v : Option SeenSlot) → v ≡ slot_seen s o → IsGiven s p (take_at_slot (setup_seen s) p (cpu_seen s x) v) (drops image (record x { victim = o }))
  slot_given o v e =
      let y : ProcessorState = record x { victim = o } in
      subst (λ (u : Option SeenSlot). IsGiven s p (answer_drop p s.nodes (record (cpu_seen s y) { slot = u })) (drops image y)) (sym e) (drops_given image s p y is.nodes is.tlb is.named is.drop)

module _ (image : ImageState) (s : Sizes) (cpu : ℕ → Cpu Line Hart) (home : ℕ → HomeSide Line) (mover : Mover Line) (rest : List (Post Line)) (w : World Line) (p : ℕ) (x : NodeState) (message : Msg Kind)
    (is : IsProcessorOf image s x.processor) (at_home : IsHomeOf s p x.home) (lp : p < s.nodes) (shown : cpu p ≡ cpu_seen s x.processor) where
  -- a plain one
  pub write_back_acked : (block : Block) → TakenAt image s cpu home mover rest w p x message (kind.WbAck block)
  unfolding take_of has_row_for
  write_back_acked block sim =
      let f : ℕ = frame_number s block.frame in
      let pl = sim.flight.0.0.0 in
      let from : message.id.sender ≡ f / s.frames = sim.flight.0.0.1.0 in
      let known : is_there s block.frame ≡ true = there_below s block.frame pl.0 in
      let sim2 = subst (λ (a : ℕ). Shows image s cpu home mover (record { from = a; to = p; kind = kind_seen s (kind.WbAck block) } ∷ rest) w) from sim in
      let t = slot_acks (setup_seen s) (harts_seen image s) cpu home mover w f block.number p rest sim2 lp in
      let e : slot_seen s x.processor.victim ≡ Some t.0 = ap (λ (c : Cpu Line Hart). c.slot) (sym shown) ∙ t.1 in (
        row_is x (of_kind message (kind.WbAck block)) (from_home s p x message at_home (kind.WbAck block) f refl pl.0 from) (block_known s p x.home block at_home known pl.1) refl (slot_found s x.processor.victim t.0 block is.victim known e t.2 t.3),
        goes_as image s cpu home mover rest w p x.processor (λ c. take_at_slot (setup_seen s) p c (slot_acknowledged t.0 false)) (take_of image x.processor (kind.WbAck block)) shown t.4
            (slot_given image s p x.processor is (after_ack x.processor.victim false) (slot_acknowledged t.0 false) (ack_seen s x.processor.victim t.0 false e)) (drops_quiet image s p (record x.processor { victim = after_ack x.processor.victim false }) x.processor refl),
      )

  -- and a busy one
  pub write_back_busy_acked : (block : Block) → TakenAt image s cpu home mover rest w p x message (kind.WbBusyAck block)
  unfolding take_of has_row_for
  write_back_busy_acked block sim =
      let f : ℕ = frame_number s block.frame in
      let pl = sim.flight.0.0.0 in
      let from : message.id.sender ≡ f / s.frames = sim.flight.0.0.1.0 in
      let known : is_there s block.frame ≡ true = there_below s block.frame pl.0 in
      let sim2 = subst (λ (a : ℕ). Shows image s cpu home mover (record { from = a; to = p; kind = kind_seen s (kind.WbBusyAck block) } ∷ rest) w) from sim in
      let t = slot_busy_acks (setup_seen s) (harts_seen image s) cpu home mover w f block.number p rest sim2 lp in
      let e : slot_seen s x.processor.victim ≡ Some t.0 = ap (λ (c : Cpu Line Hart). c.slot) (sym shown) ∙ t.1 in (
        row_is x (of_kind message (kind.WbBusyAck block)) (from_home s p x message at_home (kind.WbBusyAck block) f refl pl.0 from) (block_known s p x.home block at_home known pl.1) refl (slot_found s x.processor.victim t.0 block is.victim known e t.2 t.3),
        goes_as image s cpu home mover rest w p x.processor (λ c. take_at_slot (setup_seen s) p c (slot_acknowledged t.0 true)) (take_of image x.processor (kind.WbBusyAck block)) shown t.4
            (slot_given image s p x.processor is (after_ack x.processor.victim true) (slot_acknowledged t.0 true) (ack_seen s x.processor.victim t.0 true e)) (drops_quiet image s p (record x.processor { victim = after_ack x.processor.victim true }) x.processor refl),
      )
