-- What a processor sends and keeps weighs less than what it takes and kept.
use Rattle.std.proofs.Common.{◌≡◌, ◌∙◌, ◌≤◌, ℕ, ◌+◌, Bool, true, false, Option, None, Some, refl, sym, ap, [], ◌∷◌, arith}
use Rattle.std.specs.Prelude.{if◌then◌else◌}
use Rattle.og_base.specs.declared.Block.{Block}
use Rattle.og_base.specs.declared.Frame.{Frame}
use Rattle.og_line.specs.declared.Line.{Line}
use Rattle.og_msg.specs.declared.Kind.{Kind}
use Rattle.og_msg.specs.declared.Kind.TheVariants.{Invalidate, InterveneShared, InterveneEx, IntervenePoison, WbAck, WbBusyAck, Walked, WalkRetry, DropFrame, Dropped}
use Rattle.og_image.specs.Image.{ImageState}
use Rattle.og_cache.specs.Cache.{look_of}
use Rattle.og_tlb.specs.Tlb.{without_frame}
use Rattle.og_request.specs.declared.Held.{Held}
use Rattle.og_request.specs.declared.Held.TheVariants.{Shared as ShareWith, Exclusive as GiveTo, Poison as GiveBack}
use Rattle.og_owner.specs.Owner.{answers, answers_by, dirty_line_of, after_intervention, invalidated}
use Rattle.og_victim.specs.Slot.{is_slot_of, after_ack, after_intervention as slot_after}
use Rattle.og_processor.specs.State.{ProcessorState, Given, becomes, sends, and_then, letter}
use Rattle.og_processor.specs.Take.{take_of, is_occupied, drops, drops_by, intervenes, is_for, holding, is_asked}
use Rattle.og_processor.specs.Rows.{has_row_for, has_part_row, walks_for}
use Rattle.og_drain.specs.Measure.{weight, letters_weight, held_left, drop_left}
use Rattle.og_drain.specs.Laws.{IsUnasked, ProcessorsPay}
use Rattle.og_drain.proofs.Sums.{letters_after}

-- as much is asked for, and the hart is as before
record Same (x y : ProcessorState) : Type 0 where
  pub request : y.request ≡ x.request
  pub walk : y.walk ≡ x.walk
  pub hart : y.hart ≡ x.hart

still_unasked : (x y : ProcessorState) → Same x y → IsUnasked x → IsUnasked y
still_unasked x y s h = record { request = s.request ∙ h.request; walk = s.walk ∙ h.walk }

-- what is sent and kept weighs less than w and what was kept
record Pays (nodes w : ℕ) (x : ProcessorState) (given : Given) : Type 0 where
  pub pays : letters_weight nodes given.letters + drop_left given.state + 1 ≤ w + drop_left x
  pub asks : IsUnasked given.state
  pub hart : given.state.hart ≡ x.hart

-- ---- a drop request

-- an answer weighs as much as a request that is held
record Drops (nodes : ℕ) (x : ProcessorState) (given : Given) : Type 0 where
  pub weighs : letters_weight nodes given.letters + drop_left given.state ≡ drop_left x
  pub same : Same x given.state

drops_weigh : (nodes : ℕ) (image : ImageState) (x : ProcessorState) → Drops nodes x (drops image x)
drops_weigh nodes image x = by x.drop refl
  where
    by_place : (f : Frame) (t : Bool) → x.drop ≡ Some f → Drops nodes x (if t then becomes x else sends (record x { tlb = without_frame x.tlb f; drop = None }) (letter image.nodes (Dropped f) ∷ []))
    by_place f true e = record { weighs = omega arith; same = record { request = refl; walk = refl; hart = refl } }
    by_place f false e = record { weighs = sym (ap held_left e); same = record { request = refl; walk = refl; hart = refl } }

    by : (d : Option Frame) → x.drop ≡ d → Drops nodes x (drops_by image x d)
    by None e = record { weighs = omega arith; same = record { request = refl; walk = refl; hart = refl } }
    by (Some f) e = by_place f (is_occupied x) e

-- a change that leaves the request, the walk and the drop request, and then the drop
then_drops : (nodes w : ℕ) (image : ImageState) (x y : ProcessorState) → Same x y → drop_left y + 1 ≤ w + drop_left x → IsUnasked x → Pays nodes w x (drops image y)
then_drops nodes w image x y s le h =
    let d : Drops nodes y (drops image y) = drops_weigh nodes image y in
    record {
      pays = together (letters_weight nodes (drops image y).letters) (drop_left (drops image y).state) (drop_left y) (drop_left x) w d.weighs le;
      asks = still_unasked y (drops image y).state d.same (still_unasked x y s h);
      hart = d.same.hart ∙ s.hart;
    }
  where
    together : (l a b c w : ℕ) → l + a ≡ b → b + 1 ≤ w + c → l + a + 1 ≤ w + c
    together l a b c w e f = omega arith

-- ---- an intervention

-- its answers weigh 2 at most
answers_weigh : (nodes : ℕ) (o : Option Line) (block : Block) (held : Held) → letters_weight nodes (answers_by o block held) ≤ 2
answers_weigh nodes (Some line) block (ShareWith r) = omega arith
answers_weigh nodes (Some line) block (GiveTo r) = omega arith
answers_weigh nodes (Some line) block GiveBack = omega arith
answers_weigh nodes None block (ShareWith r) = omega arith
answers_weigh nodes None block (GiveTo r) = omega arith
answers_weigh nodes None block GiveBack = omega arith

record Intervenes (nodes : ℕ) (x : ProcessorState) (given : Given) : Type 0 where
  pub weighs : letters_weight nodes given.letters ≤ 2
  pub same : Same x given.state
  pub drop : drop_left given.state ≡ drop_left x

intervenes_weigh : (nodes : ℕ) (x : ProcessorState) (block : Block) (held : Held) → Intervenes nodes x (intervenes x block held)
unfolding answers
intervenes_weigh nodes x block held = by (is_slot_of x.victim block)
  where
    by : (t : Bool) → Intervenes nodes x (if t then becomes (record x { victim = slot_after x.victim }) else sends (record x { cache = after_intervention x.cache block held }) (answers (look_of x.cache block) block held))
    by true = record { weighs = omega arith; same = record { request = refl; walk = refl; hart = refl }; drop = refl }
    by false = record { weighs = answers_weigh nodes (dirty_line_of (look_of x.cache block)) block held; same = record { request = refl; walk = refl; hart = refl }; drop = refl }

asked_pays : (nodes : ℕ) (image : ImageState) (x : ProcessorState) (block : Block) (held : Held) → IsUnasked x → Pays nodes 3 x (is_asked image x block held)
asked_pays nodes image x block held h = by (is_for x.request block) (ap (λ r. is_for r block) h.request)
  where
    together : (a b l d y x : ℕ) → a ≤ 2 → b + d ≡ y → y ≡ x → l ≡ a + b → l + d + 1 ≤ 3 + x
    together a b l d y x le e f g = omega arith

    by : (t : Bool) → t ≡ false → Pays nodes 3 x (if t then becomes (record x { request = holding held x.request }) else and_then (intervenes x block held) (λ y. drops image y))
    by true e = absurd (cc)
    by false e =
        let i : Intervenes nodes x (intervenes x block held) = intervenes_weigh nodes x block held in
        let d : Drops nodes (intervenes x block held).state (drops image (intervenes x block held).state) = drops_weigh nodes image (intervenes x block held).state in
        record {
          pays = together (letters_weight nodes (intervenes x block held).letters) (letters_weight nodes (drops image (intervenes x block held).state).letters) _ (drop_left (drops image (intervenes x block held).state).state) (drop_left (intervenes x block held).state) (drop_left x)
              i.weighs d.weighs i.drop (letters_after nodes (intervenes x block held).letters (drops image (intervenes x block held).state).letters);
          asks = still_unasked (intervenes x block held).state (drops image (intervenes x block held).state).state d.same (still_unasked x (intervenes x block held).state i.same h);
          hart = d.same.hart ∙ i.same.hart;
        }

-- ---- all takes

take_pays : (nodes : ℕ) (image : ImageState) (x : ProcessorState) (kind : Kind) → IsUnasked x → has_row_for x kind ≡ true → Pays nodes (weight nodes kind) x (take_of image x kind)
unfolding take_of has_row_for
take_pays nodes image x (Invalidate block requester) h has = record { pays = omega arith; asks = record { request = ap (λ r. invalidated r block) h.request; walk = h.walk }; hart = refl }
take_pays nodes image x (InterveneShared block requester) h has = asked_pays nodes image x block (ShareWith requester) h
take_pays nodes image x (InterveneEx block requester) h has = asked_pays nodes image x block (GiveTo requester) h
take_pays nodes image x (IntervenePoison block) h has = asked_pays nodes image x block GiveBack h
take_pays nodes image x (WbAck block) h has = then_drops nodes 1 image x (record x { victim = after_ack x.victim false }) (record { request = refl; walk = refl; hart = refl }) (omega arith) h
take_pays nodes image x (WbBusyAck block) h has = then_drops nodes 1 image x (record x { victim = after_ack x.victim true }) (record { request = refl; walk = refl; hart = refl }) (omega arith) h
take_pays nodes image x (Walked page frame) h has = absurd (let none : walks_for x.walk page ≡ false = ap (λ w. walks_for w page) h.walk in cc)
take_pays nodes image x (WalkRetry page) h has = absurd (let none : walks_for x.walk page ≡ false = ap (λ w. walks_for w page) h.walk in cc)
take_pays nodes image x (DropFrame frame) h has = then_drops nodes 2 image x (record x { drop = Some frame }) (record { request = refl; walk = refl; hart = refl }) (omega arith) h
take_pays nodes image x kind h has = absurd (let none : has_part_row x x.request kind ≡ false = ap (λ r. has_part_row x r kind) h.request in cc)

pub processors_pay : ProcessorsPay
processors_pay = record {
  pays = λ nodes image x kind h has. (take_pays nodes image x kind h has).pays;
  asks = λ image x kind h has. (take_pays 0 image x kind h has).asks;
  hart = λ image x kind h has. (take_pays 0 image x kind h has).hart;
}
