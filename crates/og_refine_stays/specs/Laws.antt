-- A processor stays what it is between events.
use Rattle.std.specs.Prelude.{◌≡◌, ◌≤◌, ℕ, true, Ok}
use Rattle.og_base.specs.declared.Settings.{Settings}
use Rattle.og_runs.specs.declared.Msg.{Msg}
use Rattle.og_msg.specs.declared.Kind.{Kind}
use Rattle.og_elf.specs.Segment.{IsLoadable}
use Rattle.og_image.specs.Image.{ImageState}
use Rattle.og_image.specs.Layout.{pages_of}
use Rattle.og_processor.specs.State.{ProcessorState, new_processor}
use Rattle.og_processor.specs.Act.{may_act, act_of}
use Rattle.og_processor.specs.Take.{take_of}
use Rattle.og_node.specs.Node.{NodeState}
use Rattle.og_node.specs.Rows.{has_processor_row}
use Rattle.og_seen.specs.Numbers.{Sizes}
use Rattle.og_seen.specs.Sound.{IsProcessorOf, IsHomeOf}

-- at the start, after an act that may be made, and after each message that has a row
pub record ProcessorsStay : Type 0 where
  pub start : (image : ImageState) (settings : Settings) (s : Sizes) (p : ℕ) → IsLoadable image.entry image.segments → image.nodes ≡ s.nodes → s.pages ≡ pages_of image → 1 ≤ settings.sets → 1 ≤ settings.ways → 1 ≤ settings.tlb
      → IsProcessorOf image s (new_processor image settings p)
  pub act : (image : ImageState) (s : Sizes) (x : ProcessorState) → IsProcessorOf image s x → may_act image x ≡ Ok tt → IsProcessorOf image s (act_of image x).state
  pub take : (image : ImageState) (s : Sizes) (p : ℕ) (x : NodeState) (message : Msg Kind) → IsHomeOf s p x.home → IsProcessorOf image s x.processor → has_processor_row x message ≡ true
      → IsProcessorOf image s (take_of image x.processor message.kind).state
