-- What holds in every run of the machine, as the fabric and the calls of its actors ask it.
use Rattle.std.proofs.Common.{◌≡◌, ◌∙◌, ℕ, ◌*◌, ◌<◌, ◌≤◌, ◌^◌, Bool, true, false, arith, refl, sym, ap, subst, Option, None, Some, List, length}
use Rattle.std.specs.Prelude.{slice_get, Result, Ok, Err, if◌then◌else◌}
use Rattle.og_base.specs.declared.NotEnabled.{NotEnabled}
use Rattle.og_runs.specs.declared.Choice.{Choice}
use Rattle.og_runs.specs.declared.Event.{Event}
use Rattle.og_runs.specs.declared.Letter.{Letter}
use Rattle.og_runs.specs.declared.Msg.{Msg}
use Rattle.og_runs.specs.declared.Seat.{Seat}
use Rattle.og_runs.specs.Runs.{Outcome}
use Rattle.og_runs.specs.World.{WorldRun}
use Rattle.og_runs.specs.Laws.{ClocksWithin}
use Rattle.og_runs.proofs.Stated.{clocks_within}
use Rattle.og_msg.specs.declared.Kind.{Kind}
use Rattle.og_msg.specs.declared.Note.{Note}
use Rattle.og_image.specs.Image.{ImageState}
use Rattle.og_processor.specs.Act.{may_act}
use Rattle.og_processor.specs.Sound.{IsSound}
use Rattle.og_node.specs.Kept.{node_of}
use Rattle.og_node.proofs.Rows.{row_told}
use Rattle.og_mover.specs.Table.{has_act}
use Rattle.og_machine.specs.Machine.{Setup, ActorState, Machine, rules, act_of, take_of, acting, taking, can_act, mover_may, where_enabled, has_row}
use Rattle.og_refine.specs.Machines.{IsRunnable}
use Rattle.og_refine.specs.Laws.{RunsTo}
use Rattle.og_refine.proofs.Lawful.{messages_rows, enough_room}
use Rattle.og_stores.proofs.Machines.{lines_are_low}
use Rattle.og_engine.proofs.Known.{processors_are_sound, homes_know_nodes}
use Rattle.og_fabric.specs.Scheme.{IsRunOf, IsMet, HasRoom, IsReady}
use Rattle.og_actors.specs.Actors.{is_there, moved}
use Rattle.og_threads.specs.declared.player.Player.{Player}
use Rattle.og_threads.specs.declared.player.Player.TheVariants.{Node, Mover}
use Rattle.og_threads.specs.Threads.{actor_of, first_actor, actors_of, room_of, outcome, Plays, MayAct, MayTake}
use Rattle.og_threads.proofs.Starts.{start_is}

abbrev Runs : Setup → ℕ → Machine → List Choice → Machine → List (Event Note) → Type 0
Runs setup most w choices u events = IsRunOf (rules setup) (λ a. first_actor setup a) (actors_of setup) most w choices u events

-- a run of so many actors from their starts is one of the machine
runs_to : (setup : Setup) (most : ℕ) (w : Machine) (choices : List Choice) (u : Machine) (events : List (Event Note)) → Runs setup most w choices u events → RunsTo setup choices u events
runs_to setup most w choices u events h = subst (λ (z : Machine). WorldRun (rules setup) z choices u events) (start_is setup w h.run.start h.seats) h.run.run

pub has_room : (setup : Setup) (most : ℕ) → IsRunnable setup → HasRoom (rules setup) (λ a. first_actor setup a) (actors_of setup) most (room_of setup)
has_room setup most ok w choices u events h = enough_room setup choices u events ok (runs_to setup most w choices u events h)

takes_row : (setup : Setup) (x : ActorState) (m : Msg Kind) → has_row x m ≡ true → take_of setup x m ≡ Some (taking setup x m)
unfolding take_of
takes_row setup x m row = ap (λ (t : Bool). if t then Some (taking setup x m) else None) row

pub is_ready : (setup : Setup) (most : ℕ) → IsRunnable setup → IsReady (rules setup) (λ a. first_actor setup a) (actors_of setup) most
is_ready setup most ok w choices u events h i m x found there =
    let r = messages_rows setup choices u events i m ok (runs_to setup most w choices u events h) found in
    let here : slice_get u.seats m.to ≡ Some r.0 = r.1 in
    let same : r.0 ≡ x = cc in
    (taking setup x.local m, takes_row setup x.local m (subst (λ (y : Seat ActorState). has_row y.local m ≡ true) same r.2))

-- ------------------------------------------------------------ a state to which a run leads

abbrev pub Meets : Setup → ℕ → ℕ → ActorState → Option (Msg Kind) → Type 0
Meets setup most a x move = IsMet (rules setup) (λ a. first_actor setup a) (actors_of setup) most a x move

met_run : (setup : Setup) (most a : ℕ) (x : ActorState) (move : Option (Msg Kind)) (k : Meets setup most a x move) → RunsTo setup k.choices k.world k.events
met_run setup most a x move k = runs_to setup most k.start k.choices k.world k.events k.run

few_choices : (setup : Setup) (most a : ℕ) (image : ImageState) (x : ActorState) (move : Option (Msg Kind)) (k : Meets setup most a x move) → Plays setup most image → length k.choices < 2 ^ 63
few_choices setup most a image x move k plays =
    let clocks : ClocksWithin k.choices k.world k.events = clocks_within (rules setup) (λ a. first_actor setup a) k.start k.choices k.world k.events k.run.run in
    let count : length k.events ≡ length k.choices = clocks.count in
    let size : length k.events ≤ actors_of setup * most = k.run.events in
    let few : actors_of setup * most ≤ 4000000 = plays.few in
    omega (arith, count, size, few)

-- ------------------------------------------------------------ acts

enabled : (may : Result (Unit {0}) NotEnabled) (made : Outcome ActorState Kind Note) → is_there (where_enabled may made) ≡ true → may ≡ Ok tt
enabled (Ok u) made e = refl
enabled (Err why) made e = absurd (cc)

mover_enabled : (b : Bool) (made : Outcome ActorState Kind Note) → is_there (where_enabled (mover_may b) made) ≡ true → b ≡ true
mover_enabled true made e = refl
mover_enabled false made e = absurd (cc)

acts_where : (setup : Setup) (x : ActorState) → is_there (act_of setup x) ≡ true → is_there (where_enabled (can_act setup x) (acting setup x)) ≡ true
unfolding act_of
acts_where setup x e = e

-- where an act has an outcome, its call may be made
may_act_here : (setup : Setup) (most a : ℕ) (image : ImageState) (p : Player) → Plays setup most image → Meets setup most a (actor_of p) None → is_there (act_of setup (actor_of p)) ≡ true → MayAct image p
may_act_here setup most a image (Node x) plays k can = (
  subst (λ (i : ImageState). may_act i x.processor ≡ Ok tt) plays.program (enabled (can_act setup (actor_of (Node x))) (acting setup (actor_of (Node x))) (acts_where setup (actor_of (Node x)) can)),
  (lines_are_low setup k.choices k.world k.events (met_run setup most a (actor_of (Node x)) None k) (few_choices setup most a image (actor_of (Node x)) None k plays)).processors a k.seat (node_of x) k.there k.state,
)
may_act_here setup most a image (Mover m) plays k can = mover_enabled (has_act m.job) (acting setup (actor_of (Mover m))) (acts_where setup (actor_of (Mover m)) can)

pub may_act_as : (setup : Setup) (most a : ℕ) (image : ImageState) (p q : Player) → p ≡ q → Plays setup most image → Meets setup most a (actor_of q) None → is_there (act_of setup (actor_of q)) ≡ true → MayAct image p
may_act_as setup most a image p q e plays k can = subst (λ (z : Player). MayAct image z) (sym e) (may_act_here setup most a image q plays k can)

act_is : (setup : Setup) (x : ActorState) → is_there (act_of setup x) ≡ true → act_of setup x ≡ Some (acting setup x)
unfolding act_of
act_is setup x can = ap (λ (may : Result (Unit {0}) NotEnabled). where_enabled may (acting setup x)) (enabled (can_act setup x) (acting setup x) can)

-- and gives that outcome
pub acts_as : (setup : Setup) (x y : ActorState) (letters : List (Letter Kind)) (said : Option Note) → is_there (act_of setup x) ≡ true → acting setup x ≡ outcome y letters said → act_of setup x ≡ moved y letters said
acts_as setup x y letters said can made = act_is setup x can ∙ ap (λ (o : Outcome ActorState Kind Note). Some o) made

-- ------------------------------------------------------------ takes

rowed : (b : Bool) (made : Outcome ActorState Kind Note) → is_there (if b then Some made else None) ≡ true → b ≡ true
rowed true made e = refl
rowed false made e = absurd (cc)

row_there : (setup : Setup) (x : ActorState) (m : Msg Kind) → is_there (take_of setup x m) ≡ true → has_row x m ≡ true
unfolding take_of
row_there setup x m can = rowed (has_row x m) (taking setup x m) can

-- where the take of a message that flies to it has an outcome, its call may be made
may_take_here : (setup : Setup) (most a : ℕ) (image : ImageState) (p : Player) (m : Msg Kind) → Plays setup most image → Meets setup most a (actor_of p) (Some m) → is_there (take_of setup (actor_of p) m) ≡ true → MayTake image p m
may_take_here setup most a image (Node x) m plays k can =
    let run : RunsTo setup k.choices k.world k.events = met_run setup most a (actor_of (Node x)) (Some m) k in
    let low = lines_are_low setup k.choices k.world k.events run (few_choices setup most a image (actor_of (Node x)) (Some m) k plays) in
    record {
      row = (row_told (node_of x) m).0 (row_there setup (actor_of (Node x)) m can);
      sound = subst (λ (i : ImageState). IsSound i x.processor) plays.program (processors_are_sound setup k.choices k.world k.events a k.seat (node_of x) plays.runnable run k.there k.state);
      low = low.processors a k.seat (node_of x) k.there k.state;
      low_message = low.messages m.id m k.flies.0;
      few_nodes = subst (λ (n : ℕ). n ≤ 128) (sym (homes_know_nodes setup k.choices k.world k.events a k.seat (node_of x) plays.runnable run k.there k.state)) plays.runnable.few_nodes;
    }
may_take_here setup most a image (Mover x) m plays k can = row_there setup (actor_of (Mover x)) m can

pub may_take_as : (setup : Setup) (most a : ℕ) (image : ImageState) (p q : Player) (m : Msg Kind) → p ≡ q → Plays setup most image → Meets setup most a (actor_of q) (Some m) → is_there (take_of setup (actor_of q) m) ≡ true → MayTake image p m
may_take_as setup most a image p q m e plays k can = subst (λ (z : Player). MayTake image z m) (sym e) (may_take_here setup most a image q m plays k can)

-- and gives that outcome
pub takes_as : (setup : Setup) (x y : ActorState) (m : Msg Kind) (letters : List (Letter Kind)) (said : Option Note) → is_there (take_of setup x m) ≡ true → taking setup x m ≡ outcome y letters said → take_of setup x m ≡ moved y letters said
takes_as setup x y m letters said can made = takes_row setup x m (row_there setup x m can) ∙ ap (λ (o : Outcome ActorState Kind Note). Some o) made
