-- What is claimed of each act of the mover, and of each message that it takes; and that a mover of these sizes stays one.
use Rattle.std.specs.Prelude.{◌≡◌, ℕ, true, List, ◌∷◌}
use Rattle.og_base.specs.declared.Settings.{Settings}
use Rattle.og_runs.specs.declared.Msg.{Msg}
use Rattle.og_line.specs.declared.Line.{Line}
use Rattle.og_msg.specs.declared.Kind.{Kind}
use Rattle.og_image.specs.Image.{ImageState}
use Rattle.og_image.specs.Layout.{LayoutState}
use Rattle.og_pager.specs.PageTable.{Suits}
use Rattle.og_whole.specs.Events.{World}
use Rattle.og_mover.specs.Table.{MoverState, first_mover, has_act, act_of, has_table_row, take_of}
use Rattle.og_relate.specs.Data.{Post, Cpu, HomeSide}
use Rattle.og_seen.specs.Numbers.{Sizes}
use Rattle.og_seen.specs.Messages.{post_seen}
use Rattle.og_seen.specs.Harts.{Hart}
use Rattle.og_seen.specs.Movers.{mover_seen}
use Rattle.og_seen.specs.Sound.{AreSizes, IsMoverOf}
use Rattle.og_seen.specs.Events.{Shows, MoverGoes}

-- an act of the mover is rows of the theory
abbrev pub MoverActs : Type 0
MoverActs =
    (image : ImageState) (s : Sizes) (cpu : ℕ → Cpu Line Hart) (home : ℕ → HomeSide Line) (w : World Line) (m : MoverState) (rest : List (Post Line))
    → AreSizes s → IsMoverOf s m → has_act m.job ≡ true
    → Shows image s cpu home (mover_seen s m) rest w
    → MoverGoes image s cpu home rest w (act_of m)

-- whatever is in flight to the mover has a row there, and what the mover does is rows of the theory
abbrev pub MoverTakes : Type 0
MoverTakes =
    (image : ImageState) (s : Sizes) (cpu : ℕ → Cpu Line Hart) (home : ℕ → HomeSide Line) (w : World Line) (m : MoverState) (message : Msg Kind) (rest : List (Post Line))
    → AreSizes s → IsMoverOf s m → message.to ≡ s.nodes
    → Shows image s cpu home (mover_seen s m) (post_seen s message ∷ rest) w
    → (has_table_row m message ≡ true) × MoverGoes image s cpu home rest w (take_of m message)

-- a mover of these sizes stays one: at the start, after each step of its own, and after each message that has a row
pub record MoverStaysOf : Type 0 where
  pub start : (layout : LayoutState) (settings : Settings) (s : Sizes) → Suits layout settings.nodes settings.frames → layout.nodes ≡ s.nodes → settings.frames ≡ s.frames → layout.pages ≡ s.pages → IsMoverOf s (first_mover layout settings)
  pub act : (s : Sizes) (m : MoverState) → IsMoverOf s m → has_act m.job ≡ true → IsMoverOf s (act_of m).mover
  pub take : (s : Sizes) (m : MoverState) (message : Msg Kind) → IsMoverOf s m → has_table_row m message ≡ true → IsMoverOf s (take_of m message).mover
