-- What calls do, one after another.
use Rattle.std.proofs.Common.{List, [], ◌∷◌, ◌++◌, Option, None, ap, refl, sym, append_assoc}
use Rattle.std.proofs.Math.Path.{◌∙◌}
use Rattle.std.proofs.lemmas.List.{append-nil}
use Rattle.og_msg.specs.declared.Note.{Note}
use Rattle.og_processor.specs.State.{ProcessorState, Letters, Given, Did, becomes, and_then, either_note}

-- nothing happens
pub did_nothing : (x : ProcessorState) (a : Letters) → Did (becomes x) x a a None
did_nothing x a = record { state = refl; added = sym (append-nil a); note = refl }

-- one row, then the next
pub did_then : (one : Given) (next : ProcessorState → Given) (y z : ProcessorState) (a b c : Letters) (n m : Option Note) → Did one y a b n → Did (next y) z b c m → Did (and_then one next) z a c (either_note n m)
did_then one next y z a b c n m d e = record {
  state = e.state ∙ ap (λ (s : ProcessorState). (next s).state) d.state;
  added = e.added ∙ (ap (λ (ls : Letters). ls ++ (next y).letters) d.added ∙ (append_assoc a one.letters (next y).letters ∙ ap (λ (s : ProcessorState). a ++ (one.letters ++ (next s).letters)) d.state));
  note = ap (λ (v : Option Note). either_note v m) d.note ∙ ap (λ (v : Option Note). either_note one.note v) (e.note ∙ ap (λ (s : ProcessorState). (next s).note) d.state);
}

-- what adds no letter adds none to any
pub did_silently : (one : Given) (y : ProcessorState) (a : Letters) (n : Option Note) → Did one y [] [] n → Did one y a a n
did_silently one y a n d = record { state = d.state; added = sym (ap (λ (ls : Letters). a ++ ls) (sym d.added) ∙ append-nil a); note = d.note }
