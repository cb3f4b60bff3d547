-- The whole row of a part at a node; and a victim slot that has nothing of a block.
use Rattle.std.proofs.Common.{◌≡◌, ◌≢◌, ℕ, ◌<◌, Bool, true, false, ◌&&◌, nat_eq, nat_lt, cond, arith, refl, sym, ap, ◌∙◌, subst, Option, Some}
use Rattle.std.proofs.lemmas.Bool.Decides.{nat_tests}
use Rattle.std.specs.Prelude.{if◌then◌else◌}
use Rattle.og_base.specs.declared.Frame.{Frame}
use Rattle.og_base.specs.declared.Block.{Block}
use Rattle.og_base.specs.Names.{is_same_block}
use Rattle.og_base.proofs.SameNames.{same_block, is_same_block-self}
use Rattle.og_runs.specs.declared.Msg.{Msg}
use Rattle.og_msg.specs.declared.Kind.{Kind}
use Rattle.og_msg.specs.Kinds.{block_of, is_from_mover}
use Rattle.og_image.specs.Image.{ImageState}
use Rattle.og_block.specs.State.{Victim, Free}
use Rattle.og_request.specs.Request.{Requested, received, outcome_of, is_about, has_part, has_row}
use Rattle.og_victim.specs.declared.Slot.{Slot as RealSlot}
use Rattle.og_victim.specs.declared.Slot.TheVariants.{Free as FreeSlot, Taken as TakenSlot}
use Rattle.og_victim.specs.Slot.{is_slot_of}
use Rattle.og_home.specs.Home.{HomeState}
use Rattle.og_processor.specs.State.{ProcessorState}
use Rattle.og_processor.specs.Take.{receives, take_of}
use Rattle.og_processor.specs.Rows.{ends_well, has_part_row, has_row_for}
use Rattle.og_node.specs.Node.{NodeState}
use Rattle.og_node.specs.Rows.{is_from_its_sender, is_frame, is_block, names_known, has_processor_row}
use Rattle.og_relate.specs.Sim.{victim_by, victim_at}
use Rattle.og_seen.specs.Numbers.{Sizes, is_there}
use Rattle.og_seen.specs.Messages.{frame_of_block}
use Rattle.og_seen.specs.Processors.{slot_seen}
use Rattle.og_seen.specs.Sound.{IsBlock, IsHomeOf}
use Rattle.og_refine_requester.proofs.Facts.{both}

-- ---- the victim slot

-- a slot that is seen to have nothing of a block doesn't hold it
pub slot_free : (s : Sizes) (v : RealSlot) (b : Block) → is_there s b.frame ≡ true → ((held : Block) (busy seen : Bool) → v ≡ TakenSlot held busy seen → IsBlock s held) → victim_at (frame_of_block s b) b.number (slot_seen s v) ≡ Free → is_slot_of v b ≡ false
slot_free s FreeSlot b t there e = refl
slot_free s (TakenSlot held busy seen) b t there e = by (is_same_block held b) refl
  where
    never : (busy seen : Bool) → victim_by busy seen ≢ Free
    never true seen e = absurd (cc)
    never false true e = absurd (cc)
    never false false e = absurd (cc)

    self : (f k : ℕ) (v : Victim) → cond (nat_eq f f && nat_eq k k) v Free ≡ v
    self f k v = grind (arith, nat_tests)

    by : (u : Bool) → is_same_block held b ≡ u → is_same_block held b ≡ false
    by false same = same
    by true same =
        let h : held ≡ b = same_block held b same in
        let a : victim_at (frame_of_block s b) b.number (slot_seen s (TakenSlot b busy seen)) ≡ Free = subst (λ (c : Block). victim_at (frame_of_block s b) b.number (slot_seen s (TakenSlot c busy seen)) ≡ Free) h e in
        absurd (never busy seen (sym (self (frame_of_block s b) b.number (victim_by busy seen)) ∙ a))

-- ---- the row

-- a kind of part, and its block
pub record IsPart (kind : Kind) (b : Block) : Type 0 where
  pub block : block_of kind ≡ Some b
  pub takes : (image : ImageState) (x : ProcessorState) → take_of image x kind ≡ receives image x x.request kind
  pub row : (x : ProcessorState) → has_row_for x kind ≡ has_part_row x x.request kind
  pub names : (home : HomeState) → names_known home kind ≡ true
  pub sender : is_from_mover kind ≡ false

-- four tests that are passed
four : (a b c d : Bool) → a ≡ true → b ≡ true → c ≡ true → d ≡ true → (a && (b && (c && d))) ≡ true
four a b c d ea eb ec ed = grind arith

-- the table has a row
request_row : (t : Requested) (kind : Kind) (b : Block) → block_of kind ≡ Some b → t.block ≡ b → has_part t.want t kind ≡ true → has_row t kind ≡ true
unfolding has_row
request_row t kind b e same part = both (is_about t.block (block_of kind)) (has_part t.want t kind) (ap (is_about t.block) e ∙ (ap (λ (c : Block). is_same_block b c) same ∙ is_same_block-self b)) part

module _ (image : ImageState) (s : Sizes) (p : ℕ) (x : NodeState) (message : Msg Kind) (home : IsHomeOf s p x.home) where
  -- a frame that there is is one for the node
  framed : (frame : Frame) → is_there s frame ≡ true → is_frame x.home frame ≡ true
  framed frame t = ap (λ (n : ℕ). nat_lt frame.home n && nat_lt frame.index x.home.rules.frames) home.nodes ∙ (ap (λ (n : ℕ). nat_lt frame.home s.nodes && nat_lt frame.index n) home.frames ∙ t)

  -- the whole row of a part
  pub part_row : (b : Block) (t : Requested) → IsPart message.kind b → IsBlock s b → message.id.sender < s.nodes → x.processor.request ≡ Some t → t.block ≡ b → has_part t.want t message.kind ≡ true →
      ends_well x.processor (received t message.kind) (outcome_of (received t message.kind)) ≡ true → has_processor_row x message ≡ true
  part_row b t part there sent rq same has well =
      four (is_from_its_sender x.home.rules.nodes message) (is_block x.home (block_of message.kind)) (names_known x.home message.kind) (has_row_for x.processor message.kind)
      (ap (λ (u : Bool). if u then nat_eq message.id.sender x.home.rules.nodes else nat_lt message.id.sender x.home.rules.nodes) part.sender ∙ (ap (nat_lt message.id.sender) home.nodes ∙ (let a = sent in grind (arith, nat_tests))))
      (ap (is_block x.home) part.block ∙ both (is_frame x.home b.frame) (nat_lt b.number 32) (framed b.frame there.0) (let a = there.1 in grind (arith, nat_tests)))
      (part.names x.home)
      (part.row x.processor ∙ (ap (λ (o : Option Requested). has_part_row x.processor o message.kind) rq ∙ both (has_row t message.kind) (ends_well x.processor (received t message.kind) (outcome_of (received t message.kind))) (request_row t message.kind b part.block same has) well))
