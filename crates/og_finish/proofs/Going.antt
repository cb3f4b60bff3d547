-- A part that is being made: what is made so far, and what is left.
use Rattle.std.proofs.Common.{◌≡◌, ◌∙◌, ℕ, suc, ◌+◌, ◌-◌, ◌<◌, arith, sym, ap, Option, None, Some, List, [], ◌∷◌, ◌++◌, append_assoc}
use Rattle.std.proofs.lemmas.List.{append-nil}
use Rattle.og_runs.specs.declared.Choice.{Choice}
use Rattle.og_runs.specs.declared.Event.{Event}
use Rattle.og_runs.specs.World.{world_step}
use Rattle.og_msg.specs.declared.Note.{Note}
use Rattle.og_machine.specs.Machine.{Setup, Machine, rules}
use Rattle.og_machine.specs.Choices.{Simulated}
use Rattle.og_finish.specs.Finish.{made_by}
use Rattle.og_finish.specs.Parts.{Adds}
use Rattle.og_finish.proofs.Made.{made_zero, made_none, made_more}

-- after i events of a part from w: the machine u, and the events behind those before
pub record Going (setup : Setup) (next : ℕ → Machine → Option Choice) (w u : Machine) (most i : ℕ) (before events : List (Event Note)) : Type 0 where
  pub added : List (Event Note)
  pub list : events ≡ before ++ added
  pub rest : made_by setup next 0 most w ≡ ((made_by setup next i (most - i) u).0, added ++ (made_by setup next i (most - i) u).1)

pub going_start : (setup : Setup) (next : ℕ → Machine → Option Choice) (w : Machine) (most : ℕ) (before : List (Event Note)) → Going setup next w w most 0 before before
going_start setup next w most before =
    let all : most ≡ most - 0 = omega arith in
    record {
      added = [];
      list = sym (append-nil before);
      rest = ap (λ (k : ℕ). made_by setup next 0 k w) all;
    }

pub going_next : (setup : Setup) (next : ℕ → Machine → Option Choice) (w u v : Machine) (most i : ℕ) (before events : List (Event Note)) (choice : Choice) (event : Event Note) → i < most → Going setup next w u most i before events
    → next i u ≡ Some choice → world_step (rules setup) u choice ≡ Some (v, event) → Going setup next w v most (i + 1) before (events ++ event ∷ [])
going_next setup next w u v most i before events choice event more g named step =
    let left : most - i ≡ suc (most - (i + 1)) = omega arith in
    let later : suc i ≡ i + 1 = omega arith in
    let rest : Simulated = made_by setup next (i + 1) (most - (i + 1)) v in
    let one : made_by setup next i (most - i) u ≡ (rest.0, event ∷ rest.1) =
    ap (λ (k : ℕ). made_by setup next i k u) left ∙ (made_more setup next i (most - (i + 1)) u v choice event named step
    ∙ ap (λ (k : ℕ). ((made_by setup next k (most - (i + 1)) v).0, event ∷ (made_by setup next k (most - (i + 1)) v).1)) later) in
    record {
      added = g.added ++ event ∷ [];
      list = ap (λ (l : List (Event Note)). l ++ event ∷ []) g.list ∙ append_assoc before g.added (event ∷ []);
      rest = g.rest ∙ ap (λ (p : Simulated). (p.0, g.added ++ p.1)) one ∙ ap (λ (l : List (Event Note)). (rest.0, l)) (sym (append_assoc g.added (event ∷ []) rest.1));
    }

ended : (setup : Setup) (next : ℕ → Machine → Option Choice) (w u : Machine) (most i : ℕ) (before events : List (Event Note)) → Going setup next w u most i before events → made_by setup next i (most - i) u ≡ (u, []) → Adds (made_by setup next 0 most w) u before events
ended setup next w u most i before events g last =
    let all : made_by setup next 0 most w ≡ (u, g.added) = g.rest ∙ ap (λ (p : Simulated). (p.0, g.added ++ p.1)) last ∙ ap (λ (l : List (Event Note)). (u, l)) (append-nil g.added) in
    record {
      end = ap (λ (p : Simulated). p.0) (sym all);
      list = g.list ∙ ap (λ (p : Simulated). before ++ p.1) (sym all);
    }

-- it ends where no choice is named, or all were made
pub going_none : (setup : Setup) (next : ℕ → Machine → Option Choice) (w u : Machine) (most i : ℕ) (before events : List (Event Note)) → Going setup next w u most i before events → next i u ≡ None → Adds (made_by setup next 0 most w) u before events
going_none setup next w u most i before events g none = ended setup next w u most i before events g (made_none setup next i (most - i) u none)

pub going_end : (setup : Setup) (next : ℕ → Machine → Option Choice) (w u : Machine) (most i : ℕ) (before events : List (Event Note)) → Going setup next w u most i before events → i ≡ most → Adds (made_by setup next 0 most w) u before events
going_end setup next w u most i before events g all =
    let none : most - i ≡ 0 = omega arith in
    ended setup next w u most i before events g (ap (λ (k : ℕ). made_by setup next i k u) none ∙ made_zero setup next i u)
