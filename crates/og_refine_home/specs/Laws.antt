-- What is claimed of each message that a home takes, and that a home stays one.
use Rattle.std.specs.Prelude.{◌≡◌, ℕ, ◌<◌, true, List, ◌∷◌}
use Rattle.og_base.specs.declared.Settings.{Settings}
use Rattle.og_runs.specs.declared.Msg.{Msg}
use Rattle.og_line.specs.declared.Line.{Line}
use Rattle.og_msg.specs.declared.Kind.{Kind}
use Rattle.og_image.specs.Image.{ImageState}
use Rattle.og_image.specs.Layout.{LayoutState}
use Rattle.og_whole.specs.Events.{World}
use Rattle.og_home.specs.Home.{HomeState, serve}
use Rattle.og_home.specs.Start.{start_home}
use Rattle.og_node.specs.Node.{is_for_home}
use Rattle.og_node.specs.Rows.{is_from_its_sender, has_home_row}
use Rattle.og_relate.specs.Data.{Post, Cpu, HomeSide, Mover}
use Rattle.og_seen.specs.Numbers.{Sizes}
use Rattle.og_seen.specs.Messages.{post_seen}
use Rattle.og_seen.specs.Harts.{Hart}
use Rattle.og_seen.specs.Homes.{home_seen}
use Rattle.og_seen.specs.Sound.{AreSizes, IsHomeOf}
use Rattle.og_seen.specs.Events.{Shows, HomeGoes}

-- whatever is in flight to a home has a row there, and what the home does is rows of the theory
abbrev pub HomesTake : Type 0
HomesTake =
    (image : ImageState) (s : Sizes) (cpu : ℕ → Cpu Line Hart) (home : ℕ → HomeSide Line) (mover : Mover Line) (w : World Line) (p : ℕ) (x : HomeState) (message : Msg Kind) (rest : List (Post Line))
    → AreSizes s → IsHomeOf s p x → p < s.nodes → home p ≡ home_seen s x → message.to ≡ p → is_for_home message.kind ≡ true
    → Shows image s cpu home mover (post_seen s message ∷ rest) w
    → (has_home_row x message message.kind ≡ true) × HomeGoes image s cpu home mover rest w p (serve x message)

-- a home is one at the start, and stays one with each message that it takes: its entries go on naming nodes that there are
pub record HomesStay : Type 0 where
  pub start : (image : ImageState) (layout : LayoutState) (settings : Settings) (s : Sizes) (p : ℕ) → settings.nodes ≡ s.nodes → settings.frames ≡ s.frames → IsHomeOf s p (start_home image layout settings p)
  pub serve : (s : Sizes) (p : ℕ) (x : HomeState) (message : Msg Kind) → IsHomeOf s p x → is_from_its_sender s.nodes message ≡ true → has_home_row x message message.kind ≡ true → IsHomeOf s p (serve x message).home
