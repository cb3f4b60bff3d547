use Rattle.std.proofs.Common.{rules, ℕ, ◌≤◌, length, List, [], arith, refl, subst, sym}
use Rattle.og_elf.proofs.Programs.{pair_loadable}
use Rattle.og_elf.specs.declared.segment.Segment.{Segment}
use Rattle.og_elf.specs.Segment.{IsLoadable}
use Rattle.og_image.specs.Storm.{storm_bytes}
use Rattle.og_image.proofs.storm.storm_image.Goals as goal

-- the text has 96 bytes
long : (number loops : ℕ) → length (storm_bytes number loops) ≤ 96
long number loops = omega arith

pub make-requires-clause-loadable : goal.make-requires-clause-loadable
make-requires-clause-loadable c =
    subst (λ (l : List Segment). IsLoadable 65536 l) (sym (search rules))
    (pair_loadable 96 32768 (storm_bytes c.args.number c.args.loops) [] (omega arith) refl (omega arith) (long c.args.number c.args.loops) (omega arith) (omega arith) (omega arith))
