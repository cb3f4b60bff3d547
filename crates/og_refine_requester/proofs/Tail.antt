-- After a request is over: its held intervention, and then the held drop request.
use Rattle.std.proofs.Common.{◌≡◌, ℕ, Bool, true, false, refl, sym, ap, ◌∙◌, subst, Option, None, Some, List, [], ◌∷◌, ◌++◌}
use Rattle.std.specs.Prelude.{if◌then◌else◌}
use Rattle.og_base.specs.declared.Frame.{Frame}
use Rattle.og_base.specs.declared.Block.{Block}
use Rattle.og_line.specs.declared.Line.{Line}
use Rattle.og_runs.specs.declared.Letter.{Letter}
use Rattle.og_msg.specs.declared.Kind.{Kind}
use Rattle.og_msg.specs.declared.Note.{Note}
use Rattle.og_image.specs.Image.{ImageState}
use Rattle.og_cache.specs.Cache.{IsCache, look_of}
use Rattle.og_tlb.specs.Tlb.{Translations, IsTlb}
use Rattle.og_request.specs.declared.Held.{Held}
use Rattle.og_owner.specs.Owner.{answers, after_intervention}
use Rattle.og_victim.specs.Slot.{is_slot_of, after_intervention as slot_after}
use Rattle.og_processor.specs.State.{ProcessorState, Given, becomes, sends, and_then, either_note}
use Rattle.og_processor.specs.Take.{answers_held, drops}
use Rattle.og_relate.specs.Data.{Post, Cpu}
use Rattle.og_relate.specs.Node.{answer_drop, chain, tail}
use Rattle.og_seen.specs.Numbers.{Sizes, is_there, setup_seen}
use Rattle.og_seen.specs.Tlbs.{NamesFrames}
use Rattle.og_seen.specs.Messages.{frame_of_block, letters_seen}
use Rattle.og_seen.specs.Harts.{Hart}
use Rattle.og_seen.specs.Processors.{held_seen, cpu_seen}
use Rattle.og_refine_requester.proofs.Drops.{IsSeen, drops_seen}
use Rattle.og_refine_requester.proofs.Held.{held_answered}

-- letters after letters
pub letters_append : (s : Sizes) (p : ℕ) (a b : List (Letter Kind)) → letters_seen s p (a ++ b) ≡ letters_seen s p a ++ letters_seen s p b
letters_append s p [] b = refl
letters_append s p (x ∷ a) b = let h : letters_seen s p (a ++ b) ≡ letters_seen s p a ++ letters_seen s p b = letters_append s p a b in cc

-- one row after another is one answer after another
pub then_seen : (s : Sizes) (p : ℕ) (x : ProcessorState) (one : Given) (next : ProcessorState → Given) (answer : Cpu Line Hart × List (Post Line)) (goes : Cpu Line Hart → Cpu Line Hart × List (Post Line)) →
    IsSeen s p x one answer → IsSeen s p one.state (next one.state) (goes (cpu_seen s one.state)) → IsSeen s p x (and_then one next) (chain answer goes)
then_seen s p x one next answer goes a b = record {
  state = b.state ∙ ap (λ (c : Cpu Line Hart). (goes c).0) a.state;
  letters = letters_append s p one.letters (next one.state).letters ∙ (ap (λ (ls : List (Post Line)). ls ++ letters_seen s p (next one.state).letters) a.letters ∙ (ap (λ (ls : List (Post Line)). answer.1 ++ ls) b.letters ∙ ap (λ (c : Cpu Line Hart). answer.1 ++ (goes c).1) a.state));
  note = ap (λ (n : Option Note). either_note n (next one.state).note) a.note ∙ b.note;
  reserved = b.reserved ∙ a.reserved;
}

-- an answer by the copy changes neither the TLB nor what is to be dropped
record Leaves (x y : ProcessorState) : Type 0 where
  pub tlb : y.tlb ≡ x.tlb
  pub drop : y.drop ≡ x.drop

-- whatever is held
held_leaves : (x : ProcessorState) (b : Block) (held : Option Held) → Leaves x (answers_held x b held).state
held_leaves x b None = record { tlb = refl; drop = refl }
held_leaves x b (Some h) = by (is_slot_of x.victim b)
  where
    by : (u : Bool) → Leaves x (if u then becomes (record x { victim = slot_after x.victim }) else sends (record x { cache = after_intervention x.cache b h }) (answers (look_of x.cache b) b h)).state
    by true = record { tlb = refl; drop = refl }
    by false = record { tlb = refl; drop = refl }

-- the held intervention and then the held drop are answered as in the machine of functions
pub tail_seen : (image : ImageState) (s : Sizes) (p : ℕ) (x : ProcessorState) (b : Block) (held : Option Held) → image.nodes ≡ s.nodes → IsCache x.cache → IsTlb x.tlb → NamesFrames s x.tlb → ((frame : Frame) → x.drop ≡ Some frame → is_there s frame ≡ true) →
    is_there s b.frame ≡ true → is_slot_of x.victim b ≡ false →
    IsSeen s p x (and_then (answers_held x b held) (λ z. drops image z)) (tail (setup_seen s) p (frame_of_block s b) b.number (held_seen s held) (cpu_seen s x))
tail_seen image s p x b held nodes cache tlb named drop there slot =
    let one : ProcessorState = (answers_held x b held).state in
    let l = held_leaves x b held in
    let two : IsSeen s p one (drops image one) (answer_drop p s.nodes (cpu_seen s one)) =
    drops_seen image s p one nodes (subst (λ (y : Translations). IsTlb y) (sym l.tlb) tlb) (subst (λ (y : Translations). NamesFrames s y) (sym l.tlb) named) (λ frame e. drop frame (sym l.drop ∙ e)) in
    then_seen s p x (answers_held x b held) (λ z. drops image z) _ (λ c. answer_drop p s.nodes c) (held_answered s p x b cache there held slot) two
