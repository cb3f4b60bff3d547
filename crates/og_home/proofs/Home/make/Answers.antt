use Rattle.std.proofs.Common.{◌≡◌, ◌*◌, ◌/◌, ◌%◌, map, replicate, ap, subst, sym, ◌∙◌, arith}
use Rattle.std.proofs.lemmas.Grind.{common_steps}
use Rattle.og_base.specs.Numbers.{below}
use Rattle.og_directory.specs.declared.entry.State.TheVariants.{Unowned}
use Rattle.og_home.specs.Kept.{KeptHome, IsHome, home_of}
use Rattle.og_home.specs.Start.{first_line}
use Rattle.og_home.proofs.Starts.{kept, start-sound, start_is}
use Rattle.og_home.proofs.Home.make.Goals as goal

made : goal.In_ok-lines → KeptHome
made c = record { counters = c.in_ok-counters.counters; entries = c.in_ok-entries.entries.items; lines = c.in_ok-lines.lines.items }

entries_are : (c : goal.In_ok-lines) → c.in_ok-entries.entries.items ≡ replicate (c.args.settings.now.frames * 32) Unowned
entries_are c = grind (arith, common_steps)

lines_are : (c : goal.In_ok-lines) → c.in_ok-lines.lines.items ≡ map (λ j. first_line c.args.image.now c.args.layout.now c.args.node (j / 32) (j % 32)) (below (c.args.settings.now.frames * 32))
lines_are c = grind (arith, common_steps)

made_is : (c : goal.In_ok-lines) → made c ≡ kept c.in_ok-counters.counters c.args.image.now c.args.layout.now c.args.settings.now c.args.node c.in_ok-counters.ensures
unfolding made
made_is c =
    ap (λ xs. let h : KeptHome = record { counters = c.in_ok-counters.counters; entries = xs; lines = c.in_ok-lines.lines.items } in h) (entries_are c)
    ∙ ap (λ ls. let h : KeptHome = record { counters = c.in_ok-counters.counters; entries = replicate (c.args.settings.now.frames * 32) Unowned; lines = ls } in h) (lines_are c)

pub invariant_of-result : goal.invariant_of-result
unfolding made
invariant_of-result c =
    subst IsHome (sym (made_is c))
    (start-sound c.in_ok-counters.counters c.args.image.now c.args.layout.now c.args.settings.now c.args.node c.in_ok-counters.ensures c.args.settings.now.nodes_in_range.1)

pub returns : goal.returns
unfolding made
returns c = ap home_of (made_is c) ∙ start_is c.in_ok-counters.counters c.args.image.now c.args.layout.now c.args.settings.now c.args.node c.in_ok-counters.ensures
