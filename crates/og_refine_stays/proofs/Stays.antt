-- A processor stays what it is between events.
use Rattle.std.proofs.Common.{◌≡◌, ◌≤◌, ℕ, Ok, Bool, true, false, ◌&&◌, nat_lt, refl, subst}
use Rattle.og_base.specs.declared.Frame.{Frame}
use Rattle.og_base.specs.declared.Settings.{Settings}
use Rattle.og_elf.specs.Segment.{IsLoadable}
use Rattle.og_runs.specs.declared.Msg.{Msg}
use Rattle.og_msg.specs.declared.Kind.{Kind}
use Rattle.og_msg.specs.declared.Kind.TheVariants.{Walked, DropFrame}
use Rattle.og_msg.specs.Kinds.{block_of}
use Rattle.og_image.specs.Image.{ImageState}
use Rattle.og_image.specs.Layout.{pages_of}
use Rattle.og_cache.proofs.Seen.{new_laws as new_cache}
use Rattle.og_tlb.proofs.Seen.{new_laws as new_tlb}
use Rattle.og_processor.specs.State.{ProcessorState, new_processor}
use Rattle.og_processor.specs.Act.{may_act, act_of}
use Rattle.og_processor.specs.Take.{take_of}
use Rattle.og_processor.specs.Rows.{has_row_for}
use Rattle.og_processor.proofs.Sound.{acts_sound, takes_sound}
use Rattle.og_node.specs.Node.{NodeState}
use Rattle.og_node.specs.Rows.{is_from_its_sender, is_frame, is_block, names_known, has_processor_row}
use Rattle.og_processor.specs.Sound.{IsSound}
use Rattle.og_seen.specs.Numbers.{Sizes, is_there}
use Rattle.og_seen.specs.Sound.{IsProcessorOf, IsHomeOf}
use Rattle.og_refine_stays.proofs.Acts.{Names, Wanted, names_of, act_names}
use Rattle.og_refine_stays.proofs.Takes.{FrameThere, take_stays}

-- the program and the sizes stay
pub whole : (image : ImageState) (s : Sizes) (x y : ProcessorState) → IsProcessorOf image s x → Names s y → Wanted image y → IsSound image y → IsProcessorOf image s y
whole image s x y is n w sound = record {
  loadable = is.loadable;
  nodes = is.nodes;
  pages = is.pages;
  cache = n.cache.sound;
  cached = n.cache.there;
  tlb = n.tlb.sound;
  named = n.tlb.named;
  translated = n.tlb.placed;
  walk = n.walk;
  request = n.request;
  wanted = λ r e. (w r e).number;
  reads = λ r e. (w r e).reads;
  victim = n.victim;
  drop = n.drop;
  sound = sound;
}

pub act_stays : (image : ImageState) (s : Sizes) (x : ProcessorState) → IsProcessorOf image s x → may_act image x ≡ Ok tt → IsProcessorOf image s (act_of image x).state
act_stays image s x is may = let n = act_names image s x is may in whole image s x (act_of image x).state is n.0 n.1 (acts_sound image x is.cache may)

-- a row at a node says that the frame of its message is there
frame_there : (s : Sizes) (p : ℕ) (x : NodeState) (message : Msg Kind) → IsHomeOf s p x.home → has_processor_row x message ≡ true → FrameThere s message.kind × (has_row_for x.processor message.kind ≡ true)
frame_there s p x message is row = by message.kind (parts (is_from_its_sender x.home.rules.nodes message) (is_block x.home (block_of message.kind)) (names_known x.home message.kind) (has_row_for x.processor message.kind) row)
  where
    parts : (a b c d : Bool) → (a && (b && (c && d))) ≡ true → (c ≡ true) × (d ≡ true)
    parts true true true true e = (refl, refl)
    parts true true true false e = absurd (cc)
    parts true true false d e = absurd (cc)
    parts true false c d e = absurd (cc)
    parts false b c d e = absurd (cc)

    sized : (frame : Frame) → is_frame x.home frame ≡ true → is_there s frame ≡ true
    sized frame e = subst (λ (n : ℕ). (nat_lt frame.home n && nat_lt frame.index s.frames) ≡ true) is.nodes (subst (λ (n : ℕ). (nat_lt frame.home x.home.rules.nodes && nat_lt frame.index n) ≡ true) is.frames e)

    by : (kind : Kind) → (names_known x.home kind ≡ true) × (has_row_for x.processor kind ≡ true) → FrameThere s kind × (has_row_for x.processor kind ≡ true)
    by (Walked page frame) h = (sized frame h.0, h.1)
    by (DropFrame frame) h = (sized frame h.0, h.1)
    by kind h = (tt, h.1)

pub take_stays_of : (image : ImageState) (s : Sizes) (p : ℕ) (x : NodeState) (message : Msg Kind) → IsHomeOf s p x.home → IsProcessorOf image s x.processor → has_processor_row x message ≡ true → IsProcessorOf image s (take_of image x.processor message.kind).state
take_stays_of image s p x message home is row =
    let r = frame_there s p x message home row in
    let n = take_stays image s x.processor message.kind r.1 r.0 (names_of image s x.processor is, λ q e. record { number = is.wanted q e; reads = is.reads q e }) in
    whole image s x.processor (take_of image x.processor message.kind).state is n.0 n.1 (takes_sound image x.processor message.kind is.cache is.sound)

pub start_stays : (image : ImageState) (settings : Settings) (s : Sizes) (p : ℕ) → IsLoadable image.entry image.segments → image.nodes ≡ s.nodes → s.pages ≡ pages_of image → 1 ≤ settings.sets → 1 ≤ settings.ways → 1 ≤ settings.tlb → IsProcessorOf image s (new_processor image settings p)
start_stays image settings s p loadable nodes pages sets ways entries = record {
  loadable = loadable;
  nodes = nodes;
  pages = pages;
  cache = new_cache.sound settings.sets settings.ways sets ways;
  cached = λ block is. absurd (is (new_cache.nothing settings.sets settings.ways block));
  tlb = new_tlb.sound settings.tlb entries;
  named = λ page frame e. absurd (let none = new_tlb.nothing settings.tlb page in cc);
  translated = λ page is. absurd (is (new_tlb.nothing settings.tlb page));
  walk = λ page e. absurd (cc);
  request = λ r e. absurd (cc);
  wanted = λ r e. absurd (cc);
  reads = λ r e. absurd (cc);
  victim = λ block busy seen e. absurd (cc);
  drop = λ frame e. absurd (cc);
  sound = λ r e. absurd (cc);
}
