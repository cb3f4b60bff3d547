-- The log of an actor that paid for one letter.
use Rattle.std.proofs.Common.{◌≡◌, ℕ, arith, refl, sym, subst, [], ◌∷◌, ◌++◌, None}
use Rattle.og_runs.specs.declared.Choice.TheVariants.{Act}
use Rattle.og_runs.specs.declared.Event.{Event}
use Rattle.og_runs.specs.declared.Letter.{Letter}
use Rattle.og_runs.specs.Runs.{History, Local, start_history}
use Rattle.og_fabric.specs.declared.rule.Side.{Side}
use Rattle.og_fabric.specs.Sides.{Fits, Going, blank, sent_more}
use Rattle.og_fabric.specs.Shown.{message_of}
use Rattle.og_purses.specs.declared.Purse.{Purse}
use Rattle.og_purses.specs.Purses.{purse, rules}

abbrev pub letter : Letter ℕ
letter = record { to = 1; kind = 1 }

abbrev event : Event ℕ
event = record { choice = Act 0; stamp = record { clock = 1; actor = 0 }; note = None }

abbrev after : History Purse ℕ
after = record { local = record { budget = 0; owed = 1 }; clock = 1; sent = message_of (blank 0) letter 1 ∷ []; taken = [] }

made : Local (rules 2) 0 (start_history (purse 1)) (event ∷ []) after
made = (after, None, refl, refl)

pub fits_one : (h : Side ℕ) → h ≡ blank 0 → Fits (rules 2) (λ a. purse 1) 2 h.actor (h.sent ++ message_of h letter 1 ∷ []) h.taken
fits_one h e = subst (λ (g : Side ℕ). Fits (rules 2) (λ a. purse 1) 2 g.actor (g.sent ++ message_of g letter 1 ∷ []) g.taken) (sym e) (event ∷ [], after, [], made, omega arith, refl, refl)

pub going_one : (h : Side ℕ) → h ≡ sent_more (blank 0) (message_of (blank 0) letter 1) → Going (rules 2) (λ a. purse 1) 2 h.actor h.sent h.taken
going_one h e = subst (λ (g : Side ℕ). Going (rules 2) (λ a. purse 1) 2 g.actor g.sent g.taken) (sym e) (event ∷ [], after, made, omega arith, refl, refl)
