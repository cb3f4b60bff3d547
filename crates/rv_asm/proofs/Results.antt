-- What follows from what a source assembles to.
use Rattle.std.specs.Prelude.{Ok, Err}
use Rattle.std.proofs.Common.{◌≡◌, ℕ, List, ◌⊎◌, inl, inr, ap}
use Rattle.std.proofs.Math.Path.{◌∙◌}
use Rattle.rv_asm.specs.declared.source.SourceFault.{SourceFault}
use Rattle.rv_asm.specs.declared.source.SourceFault.TheVariants.{Memory}
use Rattle.rv_asm.specs.Source.{assembled}
use Rattle.rv_asm.specs.Printed.{printed}
use Rattle.rv_asm.specs.Laws.{IsProgram}
use Rattle.rv_asm.proofs.Roundtrip.{roundtrip}

pub of_text : (text ws : List ℕ) → IsProgram ws → text ≡ printed ws → assembled text ≡ Ok ws
of_text text ws p is = ap assembled is ∙ roundtrip ws p

pub same_words : (text ws words : List ℕ) → IsProgram ws → text ≡ printed ws → assembled text ≡ Ok words → words ≡ ws
same_words text ws words p is got = let e = of_text text ws p is in cc

pub no_fault : (text ws : List ℕ) (fault : SourceFault) → IsProgram ws → text ≡ printed ws → (fault ≡ Memory) ⊎ (assembled text ≡ Err fault) → fault ≡ Memory
no_fault text ws fault p is (inl memory) = memory
no_fault text ws fault p is (inr refused) = let e = of_text text ws p is in cc
