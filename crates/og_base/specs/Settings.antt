-- What a run depends on besides its program.
use Rattle.std.specs.Prelude.{ℕ}
use Rattle.og_base.specs.declared.Settings.{Settings}

-- the numbers of the settings
pub record SettingsState : Type 0 where
  pub nodes : ℕ
  pub frames : ℕ
  pub sets : ℕ
  pub ways : ℕ
  pub tlb : ℕ
  pub instructions : ℕ
  pub trigger : ℕ
  pub sharing : ℕ
  pub moves : ℕ
  pub reset : ℕ

-- those that the code keeps
abbrev pub settings_seen : Settings → SettingsState
settings_seen s = record {
  nodes = s.nodes;
  frames = s.frames;
  sets = s.sets;
  ways = s.ways;
  tlb = s.tlb;
  instructions = s.instructions;
  trigger = s.trigger;
  sharing = s.sharing;
  moves = s.moves;
  reset = s.reset;
}
