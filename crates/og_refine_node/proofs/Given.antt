-- What a processor does is seen as what the function does.
use Rattle.std.proofs.Common.{List, [], ap, subst, sym, true, ℕ, ◌++◌, ◌∙◌, ◌∷◌, ◌≡◌}
use Rattle.std.proofs.lemmas.List.{map-append}
use Rattle.og_runs.specs.declared.Letter.{Letter}
use Rattle.og_runs.specs.declared.Msg.{Msg}
use Rattle.og_line.specs.declared.Line.{Line}
use Rattle.og_msg.specs.declared.Kind.{Kind}
use Rattle.og_image.specs.Image.{ImageState}
use Rattle.og_processor.specs.State.{Given, ProcessorState, and_then}
use Rattle.og_processor.specs.Take.{take_of}
use Rattle.og_node.specs.Node.{NodeState}
use Rattle.og_node.specs.Rows.{has_processor_row}
use Rattle.og_block.specs.State.{put}
use Rattle.og_whole.specs.Events.{World}
use Rattle.og_relate.proofs.Take.{append_none}
use Rattle.og_relate.specs.Data.{Cpu, HomeSide, Mover, Post}
use Rattle.og_relate.specs.Goes.{Made, Makes}
use Rattle.og_relate.specs.Laws.{machine}
use Rattle.og_relate.specs.Node.{chain}
use Rattle.og_seen.specs.Events.{ProcessorGoes, Shows}
use Rattle.og_seen.specs.Harts.{Hart, harts_seen}
use Rattle.og_seen.specs.Messages.{kind_seen, letter_seen, letters_seen}
use Rattle.og_seen.specs.Numbers.{Sizes, setup_seen}
use Rattle.og_seen.specs.Processors.{Notes, cpu_seen}
use Rattle.og_refine_node.proofs.Facts.{of_kind}

-- the function's answer is what is seen of what the processor gives
pub record IsGiven (s : Sizes) (p : ℕ) (answer : Cpu Line Hart × List (Post Line)) (given : Given) : Type 0 where
  pub state : answer.0 ≡ cpu_seen s given.state
  pub letters : answer.1 ≡ letters_seen s p given.letters

-- one answer after another
pub chain_given : (s : Sizes) (p : ℕ) (next : Cpu Line Hart → Cpu Line Hart × List (Post Line)) (real : ProcessorState → Given) (a : Cpu Line Hart × List (Post Line)) (g : Given) → IsGiven s p a g → IsGiven s p (next (cpu_seen s g.state)) (real g.state) →
    IsGiven s p (chain a next) (and_then g real)
chain_given s p next real a g one then = record {
  state = ap (λ (c : Cpu Line Hart). (next c).0) one.state ∙ then.state;
  letters = (let e1 = one.letters in let e2 : (next a.0).1 ≡ letters_seen s p (real g.state).letters = ap (λ (c : Cpu Line Hart). (next c).1) one.state ∙ then.letters in
      ap (λ (l : List (Post Line)). l ++ (next a.0).1) e1 ∙ ap (λ (l : List (Post Line)). letters_seen s p g.letters ++ l) e2 ∙ sym (map-append (letter_seen s p) g.letters (real g.state).letters));
}

module _ (image : ImageState) (s : Sizes) (cpu : ℕ → Cpu Line Hart) (home : ℕ → HomeSide Line) (mover : Mover Line) (rest : List (Post Line)) (w : World Line) (p : ℕ) (x : ProcessorState) where
  -- the machine goes on to this processor, with these letters and accesses
  abbrev Goal : Cpu Line Hart → List (Post Line) → List (Made Line) → Type 0
  Goal c letters made = Makes (setup_seen s) (harts_seen image s) (machine (put cpu p c) home mover (rest ++ letters)) w made

  -- so it goes by the rows by which the function goes, with the accesses that it makes
  pub goes_making : (f : Cpu Line Hart → Cpu Line Hart × List (Post Line)) (given : Given) (made : Cpu Line Hart → List (Made Line)) → cpu p ≡ cpu_seen s x → Goal (f (cpu p)).0 (f (cpu p)).1 (made (cpu p)) → IsGiven s p (f (cpu_seen s x)) given → Notes image s x (made (cpu_seen s x)) given →
      ProcessorGoes image s cpu home mover rest w p x given
  goes_making f given made e goes is notes =
      let m : List (Made Line) = made (cpu_seen s x) in
      let a : Goal (f (cpu_seen s x)).0 (f (cpu_seen s x)).1 m = subst (λ (c : Cpu Line Hart). Goal (f c).0 (f c).1 (made c)) e goes in
      let b : Goal (cpu_seen s given.state) (f (cpu_seen s x)).1 m = subst (λ (c : Cpu Line Hart). Goal c (f (cpu_seen s x)).1 m) is.state a in
      (m, subst (λ (l : List (Post Line)). Goal (cpu_seen s given.state) l m) is.letters b, notes)

  -- and so does an event that makes none
  pub goes_as : (f : Cpu Line Hart → Cpu Line Hart × List (Post Line)) (given : Given) → cpu p ≡ cpu_seen s x → Goal (f (cpu p)).0 (f (cpu p)).1 [] → IsGiven s p (f (cpu_seen s x)) given → Notes image s x [] given →
      ProcessorGoes image s cpu home mover rest w p x given
  goes_as f given e goes is notes = goes_making f given (λ c. []) e goes is notes

  -- an event without a letter
  pub goes_quietly : (f : Cpu Line Hart → Cpu Line Hart) (given : Given) (made : Cpu Line Hart → List (Made Line)) → cpu p ≡ cpu_seen s x → Makes (setup_seen s) (harts_seen image s) (machine (put cpu p (f (cpu p))) home mover rest) w (made (cpu p)) →
      f (cpu_seen s x) ≡ cpu_seen s given.state → given.letters ≡ [] → Notes image s x (made (cpu_seen s x)) given → ProcessorGoes image s cpu home mover rest w p x given
  goes_quietly f given made e goes is quiet notes =
      let a : Goal (f (cpu p)) [] (made (cpu p)) = subst (λ (l : List (Post Line)). Makes (setup_seen s) (harts_seen image s) (machine (put cpu p (f (cpu p))) home mover l) w (made (cpu p))) (sym (append_none rest)) goes in
      goes_making (λ c. (f c, [])) given made e a (record { state = is; letters = ap (λ (l : List (Letter Kind)). letters_seen s p l) (sym quiet) }) notes

-- a message of this kind in flight has a row, and what the processor does with it is rows of the theory
abbrev pub TakenAt : ImageState → Sizes → (ℕ → Cpu Line Hart) → (ℕ → HomeSide Line) → Mover Line → List (Post Line) → World Line → ℕ → NodeState → Msg Kind → Kind → Type 0
TakenAt image s cpu home mover rest w p x message k =
    Shows image s cpu home mover (record { from = message.id.sender; to = p; kind = kind_seen s k } ∷ rest) w
    → (has_processor_row x (of_kind message k) ≡ true) × ProcessorGoes image s cpu home mover rest w p x.processor (take_of image x.processor k)
