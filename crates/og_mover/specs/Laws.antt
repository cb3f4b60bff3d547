-- A mover stays one: at the start, after each step of its own, and after each message that has a row.
use Rattle.std.specs.Prelude.{◌≡◌, true}
use Rattle.og_base.specs.declared.Settings.{Settings}
use Rattle.og_runs.specs.declared.Msg.{Msg}
use Rattle.og_msg.specs.declared.Kind.{Kind}
use Rattle.og_image.specs.Layout.{LayoutState}
use Rattle.og_pager.specs.PageTable.{Suits}
use Rattle.og_mover.specs.Table.{MoverState, first_mover, has_act, act_of, has_table_row, take_of}
use Rattle.og_mover.specs.Sound.{IsMover}

pub record MoverStays : Type 0 where
  pub start : (layout : LayoutState) (settings : Settings) → Suits layout settings.nodes settings.frames → IsMover (first_mover layout settings)
  pub act : (m : MoverState) → IsMover m → has_act m.job ≡ true → IsMover (act_of m).mover
  pub take : (m : MoverState) (msg : Msg Kind) → IsMover m → has_table_row m msg ≡ true → IsMover (take_of m msg).mover
