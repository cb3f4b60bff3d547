-- From what actors of any protocol give to a run of the machine.
use Rattle.std.proofs.Common.{◌≡◌, ℕ, ◌+◌, ◌*◌, ◌<◌, ◌≤◌, ◌^◌, arith, refl, sym, ap, subst, List, length}
use Rattle.std.specs.Prelude.{Result, Ok, Err, IfOk}
use Rattle.og_base.specs.declared.Settings.{Settings}
use Rattle.og_runs.specs.declared.Event.{Event}
use Rattle.og_runs.specs.declared.Msg.{Msg}
use Rattle.og_runs.specs.Runs.{IsSorted}
use Rattle.og_msg.specs.declared.Kind.{Kind}
use Rattle.og_msg.specs.declared.Note.{Note}
use Rattle.og_elf.specs.Segment.{IsLoadable}
use Rattle.og_image.specs.Image.{ImageState}
use Rattle.og_image.specs.Layout.{LayoutState, layout_of, pages_of}
use Rattle.og_pager.specs.PageTable.{Suits}
use Rattle.og_pager.specs.Laws.{LayoutSuits}
use Rattle.og_machine.specs.Machine.{Setup, setup_of, Machine, rules, start_machine, has_stopped, is_stopped}
use Rattle.og_refine.specs.Machines.{IsRunnable}
use Rattle.og_actors.specs.declared.rounds.Rounds.{Rounds}
use Rattle.og_actors.specs.declared.rounds.Rounds.TheVariants.{Stopped, Spent, Memory}
use Rattle.og_actors.specs.Rounds.{AsEnded, IsWholeRun, Counted}
use Rattle.og_threads.specs.Threads.{first_actor, actors_of, Plays, EndsAs, IsRunOfAll}
use Rattle.og_threads.proofs.Starts.{begins, start_size}
use Rattle.og_threads.proofs.Sorts.{sorted_length}

ends_as : (end : Rounds) (w : Machine) → AsEnded (λ x. has_stopped x) end w.seats → EndsAs end (is_stopped w)
unfolding is_stopped
ends_as Stopped w h = h
ends_as (Spent events idle) w h = h
ends_as Memory w h = h

pub run_of_all : (setup : Setup) (end : Rounds) (events : List (Event Note)) (left : List (Msg Kind)) → IsWholeRun (rules setup) (λ a. first_actor setup a) (λ x. has_stopped x) (actors_of setup) end events left → IsRunOfAll setup end events left
run_of_all setup end events left h =
    let k = h (start_machine setup) (begins setup) (start_size setup) in
    (k.0, k.1, k.2, ends_as end k.0 k.3)

counted_as : (turns turns' n n' : ℕ) (end : Rounds) → turns ≡ turns' → n' ≡ n → Counted turns end n → Counted turns' end n'
counted_as turns turns' n n' end e f h = subst (λ (t : ℕ). Counted t end n') e (subst (λ (m : ℕ). Counted turns end m) (sym f) h)

-- as many events stand in the order of stamps as in the logs
pub counted : (setup : Setup) (turns nodes : ℕ) (end : Rounds) (es fs : List (Event Note)) → setup.settings.nodes ≡ nodes → IsSorted es fs → Counted (turns * actors_of setup) end (length es) → Counted (turns * (nodes + 1)) end (length fs)
counted setup turns nodes end es fs e sorted h = counted_as (turns * actors_of setup) (turns * (nodes + 1)) (length es) (length fs) end (ap (λ (n : ℕ). turns * (n + 1)) e) (sorted_length es fs sorted) h

-- ------------------------------------------------------------ the program and its settings

pub record AreSettings (image : ImageState) (settings : Settings) : Type 0 where
  pub loadable : IsLoadable image.entry image.segments
  pub nodes : settings.nodes ≡ image.nodes
  pub frames : length (pages_of image) ≤ settings.nodes * settings.frames
  pub some_nodes : 1 ≤ settings.nodes
  pub few_nodes : settings.nodes ≤ 128
  pub some_frames : 2 ≤ settings.frames
  pub few_frames : settings.frames ≤ 1024
  pub some_sets : 1 ≤ settings.sets
  pub some_ways : 1 ≤ settings.ways
  pub some_entries : 1 ≤ settings.tlb

pub plays_here : (image : ImageState) (settings : Settings) (turns : ℕ) → AreSettings image settings → turns * (settings.nodes + 1) ≤ 4000000 → Plays (setup_of image settings) turns image
plays_here image settings turns ok few = record {
  runnable = record {
    loadable = ok.loadable;
    layout = refl;
    nodes = sym ok.nodes;
    some_nodes = ok.some_nodes;
    few_nodes = ok.few_nodes;
    some_frames = (let some : 2 ≤ settings.frames = ok.some_frames in omega (arith, some));
    few_frames = ok.few_frames;
    some_sets = ok.some_sets;
    some_ways = ok.some_ways;
    some_entries = ok.some_entries;
    room = ok.frames;
  };
  program = refl;
  few = (let e : (settings.nodes + 1) * turns ≡ turns * (settings.nodes + 1) = grind arith in omega (arith, e, few));
}

pub setup_is : (image : ImageState) (layout : LayoutState) (settings : Settings) → layout ≡ layout_of image → setup_of image settings ≡ record { image = image; layout = layout; settings = settings }
setup_is image layout settings e = ap (λ (l : LayoutState). record { image = image; layout = l; settings = settings }) (sym e)

-- fewer turns than that are made by each
pub most_few : (turns actors : ℕ) → (actors + 1) * turns ≤ 4000000 → turns < 2 ^ 40
most_few turns actors h = let e : (actors + 1) * turns ≡ actors * turns + turns = grind arith in omega (arith, e, h)

pub suits_here : (image : ImageState) (layout : LayoutState) (settings : Settings) → LayoutSuits → IsRunnable (record { image = image; layout = layout; settings = settings }) → Suits layout settings.nodes settings.frames
suits_here image layout settings law ok =
    let pages : length (pages_of image) ≤ settings.nodes * settings.frames = subst (λ (l : LayoutState). length l.pages ≤ settings.nodes * settings.frames) ok.layout ok.room in
    subst (λ (n : ℕ). Suits layout n settings.frames) ok.nodes
    (subst (λ (l : LayoutState). Suits l image.nodes settings.frames) (sym ok.layout)
    (law.suits image settings.frames (subst (λ (n : ℕ). length (pages_of image) ≤ n * settings.frames) (sym ok.nodes) pages)))

-- ------------------------------------------------------------ where there was memory

pub if_ok : {T E : Type 0} {P Q : T → Type 0} → (r : Result T E) → ((x : T) → P x → Q x) → IfOk r P → IfOk r Q
if_ok (Ok x) f h = f x h
if_ok (Err e) f h = tt

pub if_both : {T E : Type 0} {P Q S : T → Type 0} → (r : Result T E) → ((x : T) → P x → Q x → S x) → IfOk r P → IfOk r Q → IfOk r S
if_both (Ok x) f h k = f x h k
if_both (Err e) f h k = tt
