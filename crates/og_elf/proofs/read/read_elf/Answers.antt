use Rattle.std.proofs.Common.{◌≡◌, ℕ, List, None, subst, sym, ap}
use Rattle.std.proofs.Math.Path.{◌∙◌}
use Rattle.og_elf.specs.declared.segment.Segment.{Segment}
use Rattle.og_elf.specs.declared.header.Header.{Header}
use Rattle.og_elf.specs.Segment.{IsLoadable}
use Rattle.og_elf.specs.Elf.{loads_of, loads_fault, entry_of, segments_of}
use Rattle.og_elf.proofs.Faultless.{loadable}
use Rattle.og_elf.proofs.read.read_elf.Goals as goal

-- of the headers that were read
read : (file : List ℕ) (loads : List Header) (entry : ℕ) (segments : List Segment) → loads ≡ loads_of file → loads_fault file loads ≡ None → entry ≡ entry_of file → segments ≡ segments_of file loads → IsLoadable entry segments
read file loads entry segments is none e s =
    subst (λ (n : ℕ). IsLoadable n segments) (sym e)
    (subst (λ (l : List Segment). IsLoadable (entry_of file) l) (sym s)
    (subst (λ (l : List Header). loads_fault file l ≡ None → IsLoadable (entry_of file) (segments_of file l)) (sym is) (loadable file) none))

pub returns-clause-loadable : goal.returns-clause-loadable
returns-clause-loadable c =
    read c.args.bytes.now c.as_slice-2.result.now c.in_ok-elf_of.field-0.entry c.in_ok-elf_of.field-0.segments (c.as_slice-2.ensures.value ∙ c.in_ok-loads.ensures)
    (ap (λ (l : List Header). loads_fault c.args.bytes.now l) (c.as_slice-2.ensures.value ∙ sym c.as_slice.ensures.value) ∙ (sym c.in_ok-fault.ensures ∙ c.in_default-2.is)) c.in_ok-elf_of.ensures.entry c.in_ok-elf_of.ensures.segments
