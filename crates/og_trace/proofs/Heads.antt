-- The ranges of a head's numbers.
use Rattle.std.proofs.Common.{◌≡◌, ◌*◌, ◌≤◌, ◌&&◌, true, false, Bool, arith, refl}
use Rattle.std.proofs.lemmas.Bool.Decides.{nat_tests}
use Rattle.og_trace.specs.declared.item.Head.{Head}
use Rattle.og_trace.specs.Grammar.{is_machine_line, is_policy_line, is_head_line}

pub record Ranges (h : Head) : Type 0 where
  pub nodes_in_range : (1 ≤ h.nodes) × (h.nodes ≤ 128)
  pub frames_in_range : (2 ≤ h.frames) × (h.frames ≤ 1024)
  pub all_frames_in_range : h.nodes * h.frames ≤ 16384
  pub sets_in_range : (1 ≤ h.sets) × (h.sets ≤ 1024)
  pub ways_in_range : (1 ≤ h.ways) × (h.ways ≤ 8)
  pub tlb_in_range : (1 ≤ h.tlb) × (h.tlb ≤ 64)
  pub instructions_in_range : h.instructions ≤ 1000000
  pub trigger_in_range : (1 ≤ h.trigger) × (h.trigger ≤ 1000000)
  pub sharing_in_range : (1 ≤ h.sharing) × (h.sharing ≤ 1000000)
  pub moves_in_range : h.moves ≤ 1000000
  pub reset_in_range : (1 ≤ h.reset) × (h.reset ≤ 1000000)

left : (a b : Bool) → (a && b) ≡ true → a ≡ true
left true b h = refl
left false b h = h

right : (a b : Bool) → (a && b) ≡ true → b ≡ true
right true b h = h
right false b h = absurd (cc)

pub ranges : (h : Head) → is_head_line h ≡ true → Ranges h
ranges h is = parts (left _ (is_policy_line h) is) (right (is_machine_line h) _ is)
  where
    parts : is_machine_line h ≡ true → is_policy_line h ≡ true → Ranges h
    parts m p = record {
      nodes_in_range = (grind (arith, nat_tests), grind (arith, nat_tests));
      frames_in_range = (grind (arith, nat_tests), grind (arith, nat_tests));
      all_frames_in_range = grind (arith, nat_tests);
      sets_in_range = (grind (arith, nat_tests), grind (arith, nat_tests));
      ways_in_range = (grind (arith, nat_tests), grind (arith, nat_tests));
      tlb_in_range = (grind (arith, nat_tests), grind (arith, nat_tests));
      instructions_in_range = grind (arith, nat_tests);
      trigger_in_range = (grind (arith, nat_tests), grind (arith, nat_tests));
      sharing_in_range = (grind (arith, nat_tests), grind (arith, nat_tests));
      moves_in_range = grind (arith, nat_tests);
      reset_in_range = (grind (arith, nat_tests), grind (arith, nat_tests));
    }
