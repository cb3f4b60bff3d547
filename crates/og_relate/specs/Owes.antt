-- What each row of the machine owes of messages: of those that stay in flight, and of its letters.
use Rattle.std.specs.Prelude.{◌≡◌, ℕ, ◌+◌, Bool, true, false, ◌||◌, List}
use Rattle.og_slots.specs.Flight.{Fits}
use Rattle.og_pages.specs.State.{State as Pages}
use Rattle.og_whole.specs.Events.{World, Event, apply}
use Rattle.og_relate.specs.Data.{Post, Cpu, Mover, Setup}
use Rattle.og_relate.specs.Places.{Place, Inside, slot_of, Placed, stands_at, Has, Flies}
use Rattle.og_relate.specs.Sides.{owns, touches}

module _ {L : Type 0} where
  -- a place from which the event takes, or to which it sends
  abbrev pub changes : Pages L → Event L → Place → Bool
  changes s e p = owns e p || touches s e p

  -- each letter stands in its place after the event, to which the event sends; and what stands after it in a place that it
  -- changes is one of the letters
  abbrev pub Letters : Setup → World L → Event L → List (Post L) → Type 0
  Letters s w e ls =
      Fits (slot_of s.nodes) (λ x. Placed s (apply (s.nodes + 1) s.nodes e w) x × (touches w.pages e (slot_of s.nodes x) ≡ true)) ls ×
      ((p : Place) → Inside s p → changes w.pages e p ≡ true → stands_at (apply (s.nodes + 1) s.nodes e w) p ≡ true → Has s.nodes ls p)

module _ {L : Type 0} {H : Type 0} where
  -- of the flight these stay: they have places from which the event doesn't take, and the event takes each of the others
  abbrev pub Rest : Setup → (ℕ → Cpu L H) → Mover L → World L → Event L → List (Post L) → List (Post L) → Type 0
  Rest s cpu mover w e flight ms =
      Fits (slot_of s.nodes) (λ x. Flies s cpu mover w x × (owns e (slot_of s.nodes x) ≡ false)) ms ×
      ((p : Place) → owns e p ≡ false → Has s.nodes flight p → Has s.nodes ms p)
