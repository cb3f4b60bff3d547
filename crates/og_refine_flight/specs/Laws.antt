-- The machine of functions has its messages in any order: what is in flight in a machine of actors stands by receiver, sender and
-- number, and the rows take a message from the front and append those that they send.
use Rattle.std.specs.Prelude.{◌≡◌, List, ◌∷◌, ◌++◌, map}
use Rattle.std.proofs.Common.{Some}
use Rattle.og_runs.specs.declared.MsgId.{MsgId}
use Rattle.og_runs.specs.declared.Msg.{Msg}
use Rattle.og_runs.specs.World.{find, without, placed_all, Distinct}
use Rattle.og_whole.specs.Events.{World}
use Rattle.og_relate.specs.Data.{Post, Machine, Harts, Setup}
use Rattle.og_relate.specs.Sim.{Sim}

-- the machine with these messages in flight
abbrev pub with_flight : {L H : Type 0} → Machine L H → List (Post L) → Machine L H
with_flight m flight = record m { flight = flight }

-- a message that is found may be taken for the first one
abbrev pub FoundComesFirst : (L H K : Type 0) → Type 0
FoundComesFirst L H K =
    (s : Setup) (harts : Harts L H) (m : Machine L H) (w : World L) (seen : Msg K → Post L) (id : MsgId) (message : Msg K) (messages : List (Msg K))
    → Distinct messages → find id messages ≡ Some message
    → Sim s harts (with_flight m (map seen messages)) w
    → Sim s harts (with_flight m (seen message ∷ map seen (without id messages))) w

-- messages that are sent may be taken to stand behind the others
abbrev pub SentAreAppended : (L H K : Type 0) → Type 0
SentAreAppended L H K =
    (s : Setup) (harts : Harts L H) (m : Machine L H) (w : World L) (seen : Msg K → Post L) (messages sent : List (Msg K))
    → Sim s harts (with_flight m (map seen messages ++ map seen sent)) w
    → Sim s harts (with_flight m (map seen (placed_all messages sent))) w
