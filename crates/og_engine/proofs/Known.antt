-- What is known of each machine that choices from the start lead to, as the calls of its actors need it.
use Rattle.std.proofs.Common.{◌≡◌, ◌∙◌, ℕ, ◌+◌, sym, subst, Some, List, length}
use Rattle.std.specs.Prelude.{slice_get}
use Rattle.og_runs.specs.declared.Choice.{Choice}
use Rattle.og_runs.specs.declared.Event.{Event}
use Rattle.og_runs.specs.declared.Seat.{Seat}
use Rattle.og_msg.specs.declared.Note.{Note}
use Rattle.og_node.specs.Node.{NodeState}
use Rattle.og_processor.specs.Sound.{IsSound}
use Rattle.og_machine.specs.Machine.{Setup, ActorState, Node, Machine}
use Rattle.og_machine.specs.FlatRun.{flat_begin}
use Rattle.og_refine.specs.Machines.{IsRunnable, AreActors, sizes_of}
use Rattle.og_refine.specs.Laws.{RunsTo}
use Rattle.og_refine.proofs.Tables.{tables}
use Rattle.og_refine.proofs.Runs.{Followed, followed}
use Rattle.og_refine.proofs.Unnamed.{node_is, same_actor}

-- nodes sit in the first seats, and the mover behind them
pub actors_are : (setup : Setup) (choices : List Choice) (w : Machine) (events : List (Event Note)) → IsRunnable setup → RunsTo setup choices w events → AreActors setup.image (sizes_of setup) w
actors_are setup choices w events ok run =
    let f : Followed setup (flat_begin setup.image setup.settings).harts (flat_begin setup.image setup.settings).flat w events = followed setup tables ok choices w events run in
    f.follows.actors

-- so the seats are one more than the nodes
pub seats_count : (setup : Setup) (choices : List Choice) (w : Machine) (events : List (Event Note)) → IsRunnable setup → RunsTo setup choices w events → length w.seats ≡ setup.settings.nodes + 1
seats_count setup choices w events ok run = (actors_are setup choices w events ok run).count

-- a node's processor is sound
pub processors_are_sound : (setup : Setup) (choices : List Choice) (w : Machine) (events : List (Event Note)) (a : ℕ) (seat : Seat ActorState) (x : NodeState) → IsRunnable setup → RunsTo setup choices w events → slice_get w.seats a ≡ Some seat → seat.local ≡ Node x → IsSound setup.image x.processor
processors_are_sound setup choices w events a seat x ok run there is = (node_is setup.image (sizes_of setup) w a seat x (actors_are setup choices w events ok run) there is).1.sound

same_node : (x y : NodeState) → Node x ≡ Node y → x ≡ y
same_node x y e = cc

-- and its home part knows how many nodes there are
pub homes_know_nodes : (setup : Setup) (choices : List Choice) (w : Machine) (events : List (Event Note)) (a : ℕ) (seat : Seat ActorState) (x : NodeState) → IsRunnable setup → RunsTo setup choices w events → slice_get w.seats a ≡ Some seat → seat.local ≡ Node x → x.home.rules.nodes ≡ setup.settings.nodes
homes_know_nodes setup choices w events a seat x ok run there is =
    let actors : AreActors setup.image (sizes_of setup) w = actors_are setup choices w events ok run in
    let n = actors.nodes a (node_is setup.image (sizes_of setup) w a seat x actors there is).0 in
    let same : n.0 ≡ x = same_node n.0 x (sym n.1.2 ∙ same_actor w a n.1.0 seat n.1.1 there ∙ is) in
    subst (λ (y : NodeState). y.home.rules.nodes ≡ setup.settings.nodes) same n.1.4.nodes
