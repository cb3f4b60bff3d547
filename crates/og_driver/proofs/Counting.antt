-- The events of a simulation that are counted, and not kept.
use Rattle.std.proofs.Common.{◌≡◌, ◌∙◌, ℕ, ◌+◌, ◌<◌, ◌≤◌, Bool, true, false, arith, refl, sym, ap, subst, List, [], ◌∷◌, ◌++◌, length, length-append}
use Rattle.std.specs.Prelude.{if◌then◌else◌}
use Rattle.rand_pcg.specs.Lcg.{Lcg}
use Rattle.og_draws.specs.Draws.{start}
use Rattle.og_runs.specs.declared.Event.{Event}
use Rattle.og_msg.specs.declared.Note.{Note}
use Rattle.og_image.specs.Image.{ImageState}
use Rattle.og_machine.specs.Machine.{Machine, is_quiet}
use Rattle.og_headline.specs.Headline.{drawn}
use Rattle.og_engine.specs.Kept.{KeptMachine, machine_of, setup_in}
use Rattle.og_driver.specs.Driven.{IsAtStart, IsNextEvent}
use Rattle.og_driver.specs.Tallied.{is_move, moves_of, IsNextTallied}
use Rattle.og_driver.proofs.Drawing.{Going, going_start, going_next, going_quiet, going_end}

moves_end : (events : List (Event Note)) (event : Event Note) → moves_of (events ++ event ∷ []) ≡ moves_of events + (if is_move event.note then 1 else 0)
moves_end [] event = omega arith
moves_end (e ∷ es) event =
    let rest : moves_of (es ++ event ∷ []) ≡ moves_of es + (if is_move event.note then 1 else 0) = moves_end es event in omega arith

-- after i events of a simulation from m, of which some noted moves: the machine n, and the generator
pub record Counting (image : ImageState) (m n : KeptMachine) (number most i moves : ℕ) (draws : Lcg) : Type 0 where
  pub events : List (Event Note)
  pub going : Going image m n number most i events draws
  pub count : i ≡ length events
  pub moved : moves ≡ moves_of events
  pub few : moves ≤ i

pub counting_start : (image : ImageState) (m : KeptMachine) (number most : ℕ) (draws : Lcg) → IsAtStart image m → draws ≡ start number → Counting image m m number most 0 0 draws
counting_start image m number most draws s words = record {
  events = [];
  going = going_start image m number most draws s words;
  count = refl;
  moved = refl;
  few = omega arith;
}

one_at_most : (b : Bool) → (if b then 1 else 0) ≤ 1
one_at_most true = omega arith
one_at_most false = omega arith

pub counting_next : (image : ImageState) (m n v : KeptMachine) (number most i moves : ℕ) (draws left : Lcg) (event : Event Note) → i < most → Counting image m n number most i moves draws → IsNextEvent image n v draws left event
    → Counting image m v number most (i + 1) (moves + (if is_move event.note then 1 else 0)) left
counting_next image m n v number most i moves draws left event more c next =
    let few : moves ≤ i = c.few in
    let one : (if is_move event.note then 1 else 0) ≤ 1 = one_at_most (is_move event.note) in
    record {
      events = c.events ++ event ∷ [];
      going = going_next image m n v number most i c.events draws left event more c.going next;
      count = ap (λ (k : ℕ). k + 1) c.count ∙ sym (length-append c.events (event ∷ []));
      moved = ap (λ (k : ℕ). k + (if is_move event.note then 1 else 0)) c.moved ∙ sym (moves_end c.events event);
      few = omega arith;
    }

-- the next event from what is told of it
pub next_noted : (image : ImageState) (m n v : KeptMachine) (number most i moves noted : ℕ) (draws left : Lcg) → i < most → Counting image m n number most i moves draws → IsNextTallied image n v draws left noted
    → Counting image m v number most (i + 1) (moves + noted) left
next_noted image m n v number most i moves noted draws left more c next =
    subst (λ (k : ℕ). Counting image m v number most (i + 1) (moves + k) left) (sym next.2) (counting_next image m n v number most i moves draws left next.0 more c next.1)

-- where it ended, and what was counted
pub record Counted (image : ImageState) (m n : KeptMachine) (number most made noted : ℕ) : Type 0 where
  pub end : machine_of n ≡ (drawn (setup_in image m) number most).0
  pub events : made ≡ length (drawn (setup_in image m) number most).1
  pub moves : noted ≡ moves_of (drawn (setup_in image m) number most).1

counted : (image : ImageState) (m n : KeptMachine) (number most i moves : ℕ) (draws : Lcg) → (c : Counting image m n number most i moves draws) → (machine_of n, c.events) ≡ drawn (setup_in image m) number most → Counted image m n number most i moves
counted image m n number most i moves draws c is = record {
  end = ap (λ (p : Machine × List (Event Note)). p.0) is;
  events = c.count ∙ ap (λ (p : Machine × List (Event Note)). length p.1) is;
  moves = c.moved ∙ ap (λ (p : Machine × List (Event Note)). moves_of p.1) is;
}

pub counted_quiet : (image : ImageState) (m n : KeptMachine) (number most i moves : ℕ) (draws : Lcg) → Counting image m n number most i moves draws → is_quiet (machine_of n) ≡ true → Counted image m n number most i moves
counted_quiet image m n number most i moves draws c quiet = counted image m n number most i moves draws c (going_quiet image m n number most i c.events draws c.going quiet)

pub counted_end : (image : ImageState) (m n : KeptMachine) (number most i moves : ℕ) (draws : Lcg) → Counting image m n number most i moves draws → i ≡ most → Counted image m n number most i moves
counted_end image m n number most i moves draws c all = counted image m n number most i moves draws c (going_end image m n number most i c.events draws c.going all)
