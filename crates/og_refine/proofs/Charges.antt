-- Two messages in flight never take up one key.
use Rattle.std.proofs.Common.{◌≡◌, ◌≢◌, ◌∙◌, ℕ, ◌+◌, ◌<◌, Bool, true, false, cond, nat_eq, ◌&&◌, arith, refl, sym, ap, subst, Some, List, [], ◌∷◌, map, length, slice_get}
use Rattle.std.specs.Prelude.{if◌then◌else◌}
use Rattle.std.proofs.lemmas.Bool.Decides.{nat_tests}
use Rattle.og_base.proofs.SameNames.{same_block}
use Rattle.og_base.specs.declared.Block.{Block}
use Rattle.og_line.specs.declared.Line.{Line}
use Rattle.og_runs.specs.declared.Msg.{Msg}
use Rattle.og_runs.specs.declared.MsgId.{MsgId}
use Rattle.og_runs.specs.Runs.{same_id}
use Rattle.og_runs.specs.World.{find, Distinct}
use Rattle.og_runs.proofs.Placed.{same_id_equal}
use Rattle.og_msg.specs.declared.Key.{Key}
use Rattle.og_msg.specs.declared.Key.TheVariants as key
use Rattle.og_msg.specs.declared.Kind.{Kind}
use Rattle.og_msg.specs.declared.Kind.TheVariants.{InterveneShared, InterveneEx, IntervenePoison, CopyIn, CopyDone, CleanFrame, FrameClean}
use Rattle.og_msg.specs.Kinds.{block_of}
use Rattle.og_msg.specs.Keys.{key_of as charge_by}
use Rattle.og_slots.specs.Flight.{Apart, Fits}
use Rattle.og_victim.specs.declared.Slot.{Slot}
use Rattle.og_victim.specs.declared.Slot.TheVariants as slot
use Rattle.og_victim.specs.Slot.{is_slot_of}
use Rattle.og_flat.specs.Flat.{Flat}
use Rattle.rv_hart.specs.Hart.{HartState}
use Rattle.og_image.specs.Image.{ImageState}
use Rattle.og_block.specs.State.{Victim}
use Rattle.og_block.specs.Message.{Left_by, intervention_key}
use Rattle.og_whole.specs.Events.{World}
use Rattle.og_whole.specs.Messages.{Key as SeenKey, Ask, Response, Back, Left, Busy, Invalidation, Walk as WalkKey, Drop, Notice, key_in, key_of}
use Rattle.og_whole.proofs.Runs.{reached}
use Rattle.og_whole.proofs.KeysApart.{one_message}
use Rattle.og_machine.specs.Machine.{Machine}
use Rattle.og_relate.specs.Data.{Post, Cpu}
use Rattle.og_relate.specs.Places.{Placed, Flies, place_of, content_of, content_by, slot_of}
use Rattle.og_relate.specs.Sim.{victim_at, victim_by}
use Rattle.og_relate.specs.Steps.{letter}
use Rattle.og_seen.specs.Numbers.{Sizes, setup_seen, is_there, frame_number, frame_count}
use Rattle.og_seen.specs.Messages.{frame_of_block, kind_seen, post_seen}
use Rattle.og_seen.specs.Harts.{Hart}
use Rattle.og_seen.specs.Processors.{cpu_seen, slot_seen}
use Rattle.og_seen.specs.Sound.{AreSizes, IsBlock}
use Rattle.og_seen.proofs.Numbers.{there_below}
use Rattle.og_refine_node.proofs.Interventions.{other_slot}
use Rattle.og_refine.specs.Machines.{cpus, mover_at, cpu_in, cpu_of}
use Rattle.og_refine.specs.Charges.{holds_block, holds_block_at, charge_in}
use Rattle.og_refine.proofs.Steps.{Follows}

-- ---- messages of a list

module _ (seen : Msg Kind → Post Line) (n : ℕ) (P : Post Line → Type 0) where
  -- what is said of each holds of the one that is found
  pub found_fits : (i : MsgId) (x : Msg Kind) (ms : List (Msg Kind)) → Fits (slot_of n) P (map seen ms) → find i ms ≡ Some x → P (seen x)
  found_fits i x [] fits e = absurd (cc)
  found_fits i x (m ∷ ms) fits e = by (same_id i m.id) e (λ g. found_fits i x ms fits.2 g)
    where
      by : (t : Bool) → cond t (Some m) (find i ms) ≡ Some x → (find i ms ≡ Some x → P (seen x)) → P (seen x)
      by true e rest = let same : m ≡ x = cc in subst (λ (z : Msg Kind). P (seen z)) same fits.0
      by false e rest = rest e

  -- nor has it the place of one before it
  found_apart : (m x : Msg Kind) (i : MsgId) (ms : List (Msg Kind)) → Apart (slot_of n) (slot_of n (seen m)) (map seen ms) → find i ms ≡ Some x → slot_of n (seen x) ≢ slot_of n (seen m)
  found_apart m x i [] apart e = absurd (cc)
  found_apart m x i (y ∷ ys) apart e = by (same_id i y.id) e (λ g. found_apart m x i ys apart.1 g)
    where
      by : (t : Bool) → cond t (Some y) (find i ys) ≡ Some x → (find i ys ≡ Some x → slot_of n (seen x) ≢ slot_of n (seen m)) → slot_of n (seen x) ≢ slot_of n (seen m)
      by true e rest = let same : y ≡ x = cc in subst (λ (z : Msg Kind). slot_of n (seen z) ≢ slot_of n (seen m)) same apart.0
      by false e rest = rest e

  -- so two of one place have one name
  one_place : (i j : MsgId) (x y : Msg Kind) (ms : List (Msg Kind)) → Fits (slot_of n) P (map seen ms) → find i ms ≡ Some x → find j ms ≡ Some y → slot_of n (seen x) ≡ slot_of n (seen y) → i ≡ j
  one_place i j x y [] fits e f same = absurd (cc)
  one_place i j x y (m ∷ ms) fits e f same = by (same_id i m.id) refl (same_id j m.id) refl e f (λ g h. one_place i j x y ms fits.2 g h same)
    where
      by : (t : Bool) → same_id i m.id ≡ t → (u : Bool) → same_id j m.id ≡ u → cond t (Some m) (find i ms) ≡ Some x → cond u (Some m) (find j ms) ≡ Some y → (find i ms ≡ Some x → find j ms ≡ Some y → i ≡ j) → i ≡ j
      by true a true b e f rest = same_id_equal i m.id a ∙ sym (same_id_equal j m.id b)
      by true a false b e f rest = let is : m ≡ x = cc in absurd (found_apart m y j ms fits.1 f (sym same ∙ ap (λ (z : Msg Kind). slot_of n (seen z)) (sym is)))
      by false a true b e f rest = let is : m ≡ y = cc in absurd (found_apart m x i ms fits.1 e (same ∙ ap (λ (z : Msg Kind). slot_of n (seen z)) (sym is)))
      by false a false b e f rest = rest e f

-- ---- keys with numbers for frames

abbrev key_seen : Sizes → Key → SeenKey
key_seen s (key.Ask actor) = Ask actor
key_seen s (key.Back node) = Back node
key_seen s (key.Busy block) = Busy (frame_of_block s block) block.number
key_seen s (key.Left node) = Left node
key_seen s (key.Inv requester node) = Invalidation requester node
key_seen s (key.Resp node) = Response node
key_seen s (key.Note frame) = Notice (frame_number s frame)
key_seen s (key.Walk node) = WalkKey node
key_seen s (key.Drop node) = Drop node

-- ---- of an intervention, by the victim slot of its receiver

-- a slot that is taken, whatever its flags
left : (to : ℕ) (busy seen : Bool) → intervention_key (victim_by busy seen) to ≡ Left_by to
left to true seen = refl
left to false true = refl
left to false false = refl

-- a slot that holds the block
own_slot : (s : Sizes) (o : Slot) (b : Block) (to : ℕ) → is_slot_of o b ≡ true → intervention_key (victim_at (frame_of_block s b) b.number (slot_seen s o)) to ≡ Left_by to
own_slot s slot.Free b to e = absurd (cc)
own_slot s (slot.Taken c busy seen) b to e =
    let same : c ≡ b = same_block c b e in
    let a : frame_number s c.frame ≡ frame_number s b.frame = ap (frame_of_block s) same in
    let d : c.number ≡ b.number = ap (λ (z : Block). z.number) same in
    let t : (nat_eq (frame_number s c.frame) (frame_number s b.frame) && nat_eq c.number b.number) ≡ true = grind (arith, nat_tests) in
    rw t (left to busy seen)

-- the theory's key of an intervention is the machine's
slot_key : (s : Sizes) (o : Slot) (b : Block) (to : ℕ) → ((c : Block) (busy seen : Bool) → o ≡ slot.Taken c busy seen → IsBlock s c) → is_there s b.frame ≡ true →
    key_in (frame_of_block s b) b.number (intervention_key (victim_at (frame_of_block s b) b.number (slot_seen s o)) to) ≡ key_seen s (if is_slot_of o b then key.Left to else key.Busy b)
slot_key s o b to all known = by (is_slot_of o b) refl
  where
    by : (t : Bool) → is_slot_of o b ≡ t → key_in (frame_of_block s b) b.number (intervention_key (victim_at (frame_of_block s b) b.number (slot_seen s o)) to) ≡ key_seen s (if t then key.Left to else key.Busy b)
    by true e = ap (key_in (frame_of_block s b) b.number) (own_slot s o b to e)
    by false e = ap (λ (z : Victim). key_in (frame_of_block s b) b.number (intervention_key z to)) (other_slot s o b all known e)

module _ (image : ImageState) (s : Sizes) (w : Machine) (harts : ℕ → HartState) (flat : Flat) (v : World Line) (f : Follows image s w harts flat v) where
  -- at the slot of its receiver
  intervention_is : (b : Block) (to : ℕ) → to < s.nodes → frame_of_block s b < frame_count s →
      key_in (frame_of_block s b) b.number (intervention_key ((v.block (frame_of_block s b) b.number).victim to) to) ≡ key_seen s (if holds_block_at (Some b) (slice_get w.seats to) then key.Left to else key.Busy b)
  intervention_is b to lt below =
      let n = f.actors.nodes to lt in
      let here : cpus s w to ≡ cpu_seen s n.0.processor = ap (cpu_in s) n.1.1 ∙ ap (cpu_of s) n.1.2 in
      let shown : (v.block (frame_of_block s b) b.number).victim to ≡ victim_at (frame_of_block s b) b.number (slot_seen s n.0.processor.victim) = (f.shows.nodes to lt).victim (frame_of_block s b) b.number ∙ ap (λ (c : Cpu Line Hart). victim_at (frame_of_block s b) b.number c.slot) here in
      let holds : holds_block_at (Some b) (slice_get w.seats to) ≡ is_slot_of n.0.processor.victim b = ap (holds_block_at (Some b)) n.1.1 ∙ ap (holds_block (Some b)) n.1.2 in
      ap (λ (z : Victim). key_in (frame_of_block s b) b.number (intervention_key z to)) shown
      ∙ (slot_key s n.0.processor.victim b to n.1.3.victim (there_below s b.frame below) ∙ sym (ap (λ (t : Bool). key_seen s (if t then key.Left to else key.Busy b)) holds))

  -- the theory's key of a message is the machine's, kind by kind
  key_is : (k : Kind) (from to : ℕ) → Placed (setup_seen s) v (letter from to (kind_seen s k)) → key_of s.nodes v (content_by s.nodes from to (kind_seen s k)) ≡ key_seen s (charge_by k from to (holds_block_at (block_of k) (slice_get w.seats to)))
  key_is (InterveneShared b requester) from to p = intervention_is b to p.1.1 p.0.0
  key_is (InterveneEx b requester) from to p = intervention_is b to p.1.1 p.0.0
  key_is (IntervenePoison b) from to p = intervention_is b to p.1.1 p.0.0
  key_is (CopyIn b l) from to p = ap Ask (sym p.1.0)
  key_is (CopyDone b) from to p = ap Ask (sym p.1.1)
  key_is (CleanFrame frame) from to p = ap Ask (sym p.1.0)
  key_is (FrameClean frame) from to p = ap Ask (sym p.1.1)
  key_is k from to p = refl

-- equal keys are those of one message of the theory, which has one place
pub charges_differ : (image : ImageState) (s : Sizes) (w : Machine) (harts : ℕ → HartState) (flat : Flat) (v : World Line) (i j : MsgId) (x y : Msg Kind) → AreSizes s → Follows image s w harts flat v → Distinct w.flight → find i w.flight ≡ Some x → find j w.flight ≡ Some y → charge_in w x ≡ charge_in w y → i ≡ j
charges_differ image s w harts flat v i j x y sizes f distinct found_x found_y e =
    let P : Post Line → Type 0 = Flies (setup_seen s) (cpus s w) (mover_at s w) v in
    let a = found_fits (post_seen s) s.nodes P i x w.flight f.shows.flight found_x in
    let b = found_fits (post_seen s) s.nodes P j y w.flight f.shows.flight found_y in
    let keys : key_of s.nodes v (content_of s.nodes (post_seen s x)) ≡ key_of s.nodes v (content_of s.nodes (post_seen s y)) =
    key_is image s w harts flat v f x.kind x.id.sender x.to a.0 ∙ (ap (key_seen s) e ∙ sym (key_is image s w harts flat v f y.kind y.id.sender y.to b.0)) in
    let same : content_of s.nodes (post_seen s x) ≡ content_of s.nodes (post_seen s y) =
    one_message s.nodes (frame_count s) (length s.pages) 32 v (reached (s.nodes + 1) s.nodes (length s.pages) 32 v f.shows.reached) (content_of s.nodes (post_seen s x)) (content_of s.nodes (post_seen s y)) a.0.0 b.0.0 keys in
    one_place (post_seen s) s.nodes P i j x y w.flight f.shows.flight found_x found_y (ap place_of same)
