-- What the threads' part of a run comes to.
use Rattle.std.proofs.Common.{◌≡◌, ℕ, ◌+◌, ◌≤◌, arith, List}
use Rattle.og_runs.specs.declared.Event.{Event}
use Rattle.og_runs.specs.declared.Msg.{Msg}
use Rattle.og_msg.specs.declared.Kind.{Kind}
use Rattle.og_msg.specs.declared.Note.{Note}
use Rattle.og_machine.specs.Machine.{Setup}
use Rattle.og_actors.specs.declared.rounds.Rounds.{Rounds}
use Rattle.og_actors.specs.declared.rounds.Rounds.TheVariants.{Stopped, Spent, Memory}
use Rattle.og_actors.specs.Rounds.{Counted}
use Rattle.og_threads.specs.Threads.{IsRunOfAll}
use Rattle.og_finish.specs.Finish.{IsRun}

-- no more events were made than turns
pub few : (turns : ℕ) (ended : Rounds) (n : ℕ) → Counted turns ended n → n ≤ turns
few turns Stopped n h = h
few turns (Spent events idle) n h = let made : n ≡ events = h.0 in let all : events + idle ≡ turns = h.1 in omega arith
few turns Memory n h = absurd (cc)

-- the merged events are a run
pub is_run : (setup : Setup) (ended : Rounds) (events : List (Event Note)) (left : List (Msg Kind)) → IsRunOfAll setup ended events left → IsRun setup events
is_run setup ended events left h = (h.0, h.1)
