use Rattle.std.proofs.Common.{subst, sym}
use Rattle.og_elf.specs.declared.segment.Elf.{Elf}
use Rattle.og_elf.specs.Segment.{IsLoadable}
use Rattle.og_elf.proofs.Programs.{raw_loadable}
use Rattle.og_elf.proofs.raw.read_raw.Goals as goal

pub returns-in-Ok-clause-loadable : goal.returns-in-Ok-clause-loadable
returns-in-Ok-clause-loadable c = subst (λ (e : Elf). IsLoadable e.entry e.segments) (sym c.in-Ok.ensures.read) (raw_loadable c.args.bytes.now c.in-Some.ensures.some.0)
