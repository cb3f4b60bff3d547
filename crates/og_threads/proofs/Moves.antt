-- What the calls of a node and of the mover give, in the words of the machine.
use Rattle.std.proofs.Common.{◌≡◌, ◌∙◌, Bool, refl, sym, ap, Option, None, Some}
use Rattle.std.specs.Prelude.{Result, Ok, Err, not, is_none, is_some}
use Rattle.std.specs.Result.{is_ok}
use Rattle.og_base.specs.declared.Cause.{Cause}
use Rattle.og_base.specs.declared.NotEnabled.{NotEnabled}
use Rattle.og_runs.specs.Runs.{Outcome}
use Rattle.og_msg.specs.declared.Kind.{Kind}
use Rattle.og_msg.specs.declared.Note.{Note}
use Rattle.og_image.specs.Image.{ImageState}
use Rattle.og_processor.specs.Act.{may_act}
use Rattle.og_node.specs.Kept.{KeptNode, node_of}
use Rattle.og_node.specs.Node.{NodeState}
use Rattle.og_machine.specs.Machine.{Setup, ActorState, Node, acting, can_act, where_enabled, act_of, has_stopped}
use Rattle.og_engine.specs.Marks.{is_running_by}
use Rattle.og_engine.proofs.Bits.{runs_by}
use Rattle.og_actors.specs.Actors.{is_there}
use Rattle.og_threads.specs.declared.player.Player.{Player}
use Rattle.og_threads.specs.declared.player.Player.TheVariants as player
use Rattle.og_threads.specs.Threads.{actor_of}

-- ------------------------------------------------------------ whether an actor may move

-- an act has an outcome where it is enabled
where_is : (may : Result (Unit {0}) NotEnabled) (made : Outcome ActorState Kind Note) → is_there (where_enabled may made) ≡ is_ok may
where_is (Ok u) made = refl
where_is (Err why) made = refl

pub can_is : (setup : Setup) (x : ActorState) → is_there (act_of setup x) ≡ is_ok (can_act setup x)
unfolding act_of
can_is setup x = where_is (can_act setup x) (acting setup x)

not_none : (cause : Option Cause) → not (is_none cause) ≡ is_some cause
not_none None = refl
not_none (Some c) = refl

pub node_stopped : (image : ImageState) (x : NodeState) (may : Result (Unit {0}) NotEnabled) (done : Bool) → done ≡ not (is_running_by may) → may ≡ may_act image x.processor → done ≡ has_stopped (Node x)
node_stopped image x may done is may_is = is ∙ (ap (λ (r : Result (Unit {0}) NotEnabled). not (is_running_by r)) may_is ∙ (ap (λ (b : Bool). not b) (runs_by image x.processor) ∙ not_none x.processor.hart.cause))

-- ------------------------------------------------------------ by a player

pub player_stopped : (image : ImageState) (p : Player) (x : KeptNode) (may : Result (Unit {0}) NotEnabled) (done : Bool) → p ≡ player.Node x → done ≡ not (is_running_by may) → may ≡ may_act image x.processor → done ≡ has_stopped (actor_of p)
player_stopped image p x may done is done_is may_is = node_stopped image (node_of x) may done done_is may_is ∙ ap (λ (q : Player). has_stopped (actor_of q)) (sym is)
