-- What is claimed of each part of a request that a processor takes.
use Rattle.std.specs.Prelude.{◌≡◌, ℕ, ◌<◌, true, List, ◌∷◌}
use Rattle.og_runs.specs.declared.Msg.{Msg}
use Rattle.og_line.specs.declared.Line.{Line}
use Rattle.og_msg.specs.declared.Kind.{Kind}
use Rattle.og_image.specs.Image.{ImageState}
use Rattle.og_whole.specs.Events.{World}
use Rattle.og_processor.specs.Take.{take_of}
use Rattle.og_node.specs.Node.{NodeState}
use Rattle.og_node.specs.Rows.{has_processor_row}
use Rattle.og_relate.specs.Data.{Post, Cpu, HomeSide, Mover}
use Rattle.og_seen.specs.Numbers.{Sizes}
use Rattle.og_seen.specs.Messages.{post_seen, is_part}
use Rattle.og_seen.specs.Harts.{Hart}
use Rattle.og_seen.specs.Processors.{cpu_seen}
use Rattle.og_seen.specs.Sound.{AreSizes, IsProcessorOf, IsHomeOf}
use Rattle.og_seen.specs.Events.{Shows, ProcessorGoes}

-- a part that is in flight to a processor has a row there, and what the processor does is rows of the theory
abbrev pub PartsAreTaken : Type 0
PartsAreTaken =
    (image : ImageState) (s : Sizes) (cpu : ℕ → Cpu Line Hart) (home : ℕ → HomeSide Line) (mover : Mover Line) (w : World Line) (p : ℕ) (x : NodeState) (message : Msg Kind) (rest : List (Post Line))
    → AreSizes s → IsProcessorOf image s x.processor → IsHomeOf s p x.home → p < s.nodes → cpu p ≡ cpu_seen s x.processor → message.to ≡ p
    → is_part message.kind ≡ true
    → Shows image s cpu home mover (post_seen s message ∷ rest) w
    → (has_processor_row x message ≡ true) × ProcessorGoes image s cpu home mover rest w p x.processor (take_of image x.processor message.kind)
