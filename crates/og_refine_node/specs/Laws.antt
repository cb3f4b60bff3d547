-- What is claimed of each act of a processor, and of each message that it takes but the parts of its request.
use Rattle.std.specs.Prelude.{◌≡◌, ℕ, ◌<◌, true, false, Ok, List, ◌∷◌}
use Rattle.og_runs.specs.declared.Msg.{Msg}
use Rattle.og_line.specs.declared.Line.{Line}
use Rattle.og_msg.specs.declared.Kind.{Kind}
use Rattle.og_image.specs.Image.{ImageState}
use Rattle.og_whole.specs.Events.{World}
use Rattle.og_processor.specs.State.{ProcessorState}
use Rattle.og_processor.specs.Act.{may_act, act_of}
use Rattle.og_processor.specs.Take.{take_of}
use Rattle.og_node.specs.Node.{NodeState, is_for_home}
use Rattle.og_node.specs.Rows.{has_processor_row}
use Rattle.og_relate.specs.Data.{Post, Cpu, HomeSide, Mover}
use Rattle.og_seen.specs.Numbers.{Sizes}
use Rattle.og_seen.specs.Messages.{post_seen, is_part}
use Rattle.og_seen.specs.Harts.{Hart}
use Rattle.og_seen.specs.Processors.{cpu_seen}
use Rattle.og_seen.specs.Sound.{AreSizes, IsProcessorOf, IsHomeOf}
use Rattle.og_seen.specs.Events.{Shows, ProcessorGoes}

-- an act that may be made is rows of the theory, or none
abbrev pub ProcessorsAct : Type 0
ProcessorsAct =
    (image : ImageState) (s : Sizes) (cpu : ℕ → Cpu Line Hart) (home : ℕ → HomeSide Line) (mover : Mover Line) (w : World Line) (p : ℕ) (x : ProcessorState) (rest : List (Post Line))
    → AreSizes s → IsProcessorOf image s x → p < s.nodes → cpu p ≡ cpu_seen s x → may_act image x ≡ Ok tt
    → Shows image s cpu home mover rest w
    → ProcessorGoes image s cpu home mover rest w p x (act_of image x)

-- whatever is in flight to a processor, and is no part of a request, has a row there, and what the processor does is rows of the theory
abbrev pub ProcessorsTake : Type 0
ProcessorsTake =
    (image : ImageState) (s : Sizes) (cpu : ℕ → Cpu Line Hart) (home : ℕ → HomeSide Line) (mover : Mover Line) (w : World Line) (p : ℕ) (x : NodeState) (message : Msg Kind) (rest : List (Post Line))
    → AreSizes s → IsProcessorOf image s x.processor → IsHomeOf s p x.home → p < s.nodes → cpu p ≡ cpu_seen s x.processor → message.to ≡ p
    → is_for_home message.kind ≡ false → is_part message.kind ≡ false
    → Shows image s cpu home mover (post_seen s message ∷ rest) w
    → (has_processor_row x message ≡ true) × ProcessorGoes image s cpu home mover rest w p x.processor (take_of image x.processor message.kind)
