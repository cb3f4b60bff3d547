-- Settings with the same numbers are the same.
use Rattle.std.proofs.Common.{◌≡◌, ◌*◌, ◌≤◌, ap, subst}
use Rattle.std.proofs.Props.{props}
use Rattle.og_base.specs.Settings.{SettingsState, settings_seen}
use Rattle.og_base.specs.declared.Settings.{Settings}
use Rattle.og_trace.specs.declared.item.Head.{Head}
use Rattle.og_trace.specs.Text.{head_of}

-- each number is in its range
record AreRanges (n : SettingsState) : Type 0 where
  nodes : (1 ≤ n.nodes) × (n.nodes ≤ 128)
  frames : (2 ≤ n.frames) × (n.frames ≤ 1024)
  all_frames : n.nodes * n.frames ≤ 16384
  sets : (1 ≤ n.sets) × (n.sets ≤ 1024)
  ways : (1 ≤ n.ways) × (n.ways ≤ 8)
  tlb : (1 ≤ n.tlb) × (n.tlb ≤ 64)
  instructions : n.instructions ≤ 1000000
  trigger : (1 ≤ n.trigger) × (n.trigger ≤ 1000000)
  sharing : (1 ≤ n.sharing) × (n.sharing ≤ 1000000)
  moves : n.moves ≤ 1000000
  reset : (1 ≤ n.reset) × (n.reset ≤ 1000000)

ranges_prop : (n : SettingsState) → IsProp (AreRanges n)
ranges_prop n = hlevel props

ranges_of : (s : Settings) → AreRanges (settings_seen s)
ranges_of s = record {
  nodes = s.nodes_in_range;
  frames = s.frames_in_range;
  all_frames = s.all_frames_in_range;
  sets = s.sets_in_range;
  ways = s.ways_in_range;
  tlb = s.tlb_in_range;
  instructions = s.instructions_in_range;
  trigger = s.trigger_in_range;
  sharing = s.sharing_in_range;
  moves = s.moves_in_range;
  reset = s.reset_in_range;
}

settings_from : (n : SettingsState) → AreRanges n → Settings
settings_from n r = record {
  nodes = n.nodes;
  frames = n.frames;
  sets = n.sets;
  ways = n.ways;
  tlb = n.tlb;
  instructions = n.instructions;
  trigger = n.trigger;
  sharing = n.sharing;
  moves = n.moves;
  reset = n.reset;
  nodes_in_range = r.nodes;
  frames_in_range = r.frames;
  all_frames_in_range = r.all_frames;
  sets_in_range = r.sets;
  ways_in_range = r.ways;
  tlb_in_range = r.tlb;
  instructions_in_range = r.instructions;
  trigger_in_range = r.trigger;
  sharing_in_range = r.sharing;
  moves_in_range = r.moves;
  reset_in_range = r.reset;
}

same_from : (n m : SettingsState) → n ≡ m → (r : AreRanges n) (q : AreRanges m) → settings_from n r ≡ settings_from m q
same_from n m e r q = subst (λ (z : SettingsState). (p : AreRanges z) → settings_from n r ≡ settings_from z p) e (λ p. ap (settings_from n) (ranges_prop n r p)) q

numbers_of : Head → SettingsState
numbers_of h = record { nodes = h.nodes; frames = h.frames; sets = h.sets; ways = h.ways; tlb = h.tlb; instructions = h.instructions; trigger = h.trigger; sharing = h.sharing; moves = h.moves; reset = h.reset }

pub same_settings : (s t : Settings) → head_of s ≡ head_of t → s ≡ t
unfolding settings_from ranges_of numbers_of
same_settings s t e = same_from (settings_seen s) (settings_seen t) (ap numbers_of e) (ranges_of s) (ranges_of t)
