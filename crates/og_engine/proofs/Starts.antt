-- The machine that is kept at the start.
use Rattle.std.proofs.Common.{◌≡◌, ◌∙◌, ℕ, zero, suc, ◌+◌, ◌*◌, ◌≤◌, Bool, false, arith, refl, sym, ap, subst, Some, List, [], ◌∷◌, ◌++◌, length, map}
use Rattle.std.proofs.lemmas.List.{map-append}
use Rattle.std.specs.Prelude.{slice_get}
use Rattle.og_base.specs.declared.Settings.{Settings}
use Rattle.og_base.specs.Numbers.{below}
use Rattle.og_runs.specs.declared.Seat.{Seat}
use Rattle.og_flight.specs.Flight.{Flying}
use Rattle.og_msg.specs.declared.Kind.{Kind}
use Rattle.og_elf.specs.Segment.{IsLoadable}
use Rattle.og_image.specs.Image.{ImageState}
use Rattle.og_image.proofs.Pages.{map_below_more}
use Rattle.og_image.specs.Layout.{LayoutState, layout_of, pages_of}
use Rattle.og_node.specs.Kept.{KeptNode, node_of}
use Rattle.og_node.specs.Node.{NodeState, new_node}
use Rattle.og_mover.specs.Table.{MoverState, first_mover, has_act}
use Rattle.og_machine.specs.Machine.{Setup, setup_of, ActorState, Node, Machine, start_machine, start_node, start_mover, new_seat}
use Rattle.og_refine.specs.Machines.{IsRunnable}
use Rattle.og_engine.specs.Marks.{AreMarked}
use Rattle.og_engine.specs.Kept.{KeptMachine, IsMade, machine_of, setup_in, node_seat, room_of}

-- what is kept at the start of a program
pub record IsFirst (image : ImageState) (settings : Settings) (kept : KeptMachine) : Type 0 where
  pub nodes : map node_seat kept.nodes ≡ map (λ number. new_seat (start_node (setup_of image settings) number)) (below settings.nodes)
  pub mover : kept.mover ≡ record { local = first_mover (layout_of image) settings; clock = 0; next = 0 }
  pub flight : kept.flight ≡ record { messages = []; room = room_of settings }
  pub settings_is : kept.settings ≡ settings
  pub mover_ready : kept.mover_ready ≡ false
  pub events : kept.events ≡ 0

pub is_start : (image : ImageState) (settings : Settings) (kept : KeptMachine) → IsFirst image settings kept → machine_of kept ≡ start_machine (setup_of image settings)
unfolding machine_of start_machine
is_start image settings kept is = rw (is.nodes, is.mover, is.flight) refl

-- every seat of the start is new
next_is : (setup : Setup) (numbers : List ℕ) (a : ℕ) (x : Seat ActorState) → slice_get (map (λ number. new_seat (start_node setup number)) numbers ++ new_seat (start_mover setup) ∷ []) a ≡ Some x → x.next ≡ 0
next_is setup [] zero x e = let same : new_seat (start_mover setup) ≡ x = cc in ap (λ (y : Seat ActorState). y.next) (sym same)
next_is setup [] (suc a) x e = absurd (cc)
next_is setup (n ∷ ns) zero x e = let same : new_seat (start_node setup n) ≡ x = cc in ap (λ (y : Seat ActorState). y.next) (sym same)
next_is setup (n ∷ ns) (suc a) x e = next_is setup ns a x e

start_next : (setup : Setup) (a : ℕ) (x : Seat ActorState) → slice_get (start_machine setup).seats a ≡ Some x → x.next ≡ 0
unfolding start_machine
start_next setup a x e = next_is setup (below setup.settings.nodes) a x e

-- the settings of a machine
pub record AreSettings (image : ImageState) (settings : Settings) : Type 0 where
  pub loadable : IsLoadable image.entry image.segments
  pub nodes : settings.nodes ≡ image.nodes
  pub frames : length (pages_of image) ≤ settings.nodes * settings.frames
  pub some_nodes : 1 ≤ settings.nodes
  pub few_nodes : settings.nodes ≤ 128
  pub some_frames : 2 ≤ settings.frames
  pub few_frames : settings.frames ≤ 1024
  pub some_sets : 1 ≤ settings.sets
  pub some_ways : 1 ≤ settings.ways
  pub some_entries : 1 ≤ settings.tlb

runnable : (image : ImageState) (settings : Settings) → AreSettings image settings → IsRunnable (setup_of image settings)
runnable image settings ok = record {
  loadable = ok.loadable;
  layout = refl;
  nodes = sym ok.nodes;
  some_nodes = ok.some_nodes;
  few_nodes = ok.few_nodes;
  some_frames = (let some : 2 ≤ settings.frames = ok.some_frames in omega arith);
  few_frames = ok.few_frames;
  some_sets = ok.some_sets;
  some_ways = ok.some_ways;
  some_entries = ok.some_entries;
  room = ok.frames;
}

pub first_is_made : (image : ImageState) (settings : Settings) (kept : KeptMachine) → AreSettings image settings → IsFirst image settings kept → AreMarked image kept.nodes kept.ready kept.running → IsMade image kept
unfolding first_mover
first_is_made image settings kept ok is marked =
    let same : setup_of image settings ≡ setup_in image kept = ap (setup_of image) (sym is.settings_is) in (
      [],
      [],
      record {
        runnable = subst IsRunnable same (runnable image settings ok);
        run = (ap start_machine (sym same) ∙ sym (is_start image settings kept is), refl);
        count = sym is.events;
        room = ap (λ (f : Flying Kind). f.room) is.flight ∙ ap room_of (sym is.settings_is);
        numbers = λ a x there.
            let none : x.next ≡ 0 = start_next (setup_of image settings) a x (subst (λ (w : Machine). slice_get w.seats a ≡ Some x) (is_start image settings kept is) there) in
            omega arith;
        marks = marked;
        mover_mark = is.mover_ready ∙ sym (ap (λ (m : Seat MoverState). has_act m.local.job) is.mover);
      },
    )

-- one node more
pub one_node_more : (setup : Setup) (n : ℕ) (xs : List (Seat KeptNode)) (x : Seat KeptNode) → map node_seat xs ≡ map (λ number. new_seat (start_node setup number)) (below n) → node_seat x ≡ new_seat (start_node setup n) →
    map node_seat (xs ++ x ∷ []) ≡ map (λ number. new_seat (start_node setup number)) (below (n + 1))
one_node_more setup n xs x before is =
    map-append node_seat xs (x ∷ []) ∙ ap (λ (ys : List (Seat ActorState)). ys ++ node_seat x ∷ []) before ∙ ap (λ (y : Seat ActorState). map (λ number. new_seat (start_node setup number)) (below n) ++ y ∷ []) is ∙ sym (map_below_more (λ number. new_seat (start_node setup number)) n)

pub new_node_seat : (setup : Setup) (n : ℕ) (node : KeptNode) → node_of node ≡ new_node setup.image setup.layout setup.settings n → node_seat (record { local = node; clock = 0; next = 0 }) ≡ new_seat (start_node setup n)
new_node_seat setup n node is = ap (λ (x : NodeState). new_seat (Node x)) is

-- the parts of the start, as the calls give them
pub first_is : (image : ImageState) (layout : LayoutState) (settings : Settings) (nodes : List (Seat KeptNode)) (mover : MoverState) (flight : Flying Kind) (room ready running : ℕ) (last : Bool) → layout ≡ layout_of image →
    map node_seat nodes ≡ map (λ number. new_seat (start_node (record { image = image; layout = layout; settings = settings }) number)) (below settings.nodes) → mover ≡ first_mover layout settings →
    flight ≡ record { messages = []; room = room } → room ≡ room_of settings → last ≡ false →
    IsFirst image settings (record { settings = settings; nodes = nodes; mover = record { local = mover; clock = 0; next = 0 }; flight = flight; events = 0; ready = ready; mover_ready = last; running = running })
first_is image layout settings nodes mover flight room ready running last layout_is nodes_are mover_is flight_is room_is last_is = record {
  nodes = subst (λ (l : LayoutState). map node_seat nodes ≡ map (λ number. new_seat (start_node (record { image = image; layout = l; settings = settings }) number)) (below settings.nodes)) layout_is nodes_are;
  mover = ap (λ (m : MoverState). record { local = m; clock = 0; next = 0 }) (mover_is ∙ ap (λ (l : LayoutState). first_mover l settings) layout_is);
  flight = flight_is ∙ ap (λ (n : ℕ). record { messages = []; room = n }) room_is;
  settings_is = refl;
  mover_ready = last_is;
  events = refl;
}
