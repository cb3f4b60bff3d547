-- Worked examples of runs and of races, from which a reader can check the tables by hand. This file has their programs, their
-- machines, and what is seen of a machine; `Runs` and `Races` say what happens.
use Rattle.std.specs.Prelude.{◌≡◌, ℕ, zero, suc, nat_le, ◌*◌, true, false, Option, None, Some, List, [], ◌∷◌, length, map}
use Rattle.std.proofs.Common.{refl}
use Rattle.std.proofs.lemmas.Bool.{leb-true}
use Rattle.std.specs.List.{flat_map}
use Rattle.std.specs.Option.{option_map}
use Rattle.byteorder.specs.Endian.{little_bytes}
use Rattle.og_base.specs.declared.Settings.{Settings}
use Rattle.og_base.specs.Numbers.{below}
use Rattle.og_elf.specs.declared.segment.Segment.{Segment}
use Rattle.og_runs.specs.declared.Choice.{Choice}
use Rattle.og_runs.specs.declared.Choice.TheVariants.{Take}
use Rattle.og_runs.specs.declared.Event.{Event}
use Rattle.og_runs.specs.World.{world_step}
use Rattle.og_msg.specs.declared.Note.{Note}
use Rattle.og_image.specs.Image.{ImageState, image_of, stack_page}
use Rattle.og_image.specs.Layout.{LayoutState}
use Rattle.og_machine.specs.Machine.{Setup, Machine, rules}
use Rattle.og_machine.specs.Choices.{drain_of}

-- ------------------------------------------------------------ programs

-- a program of these words, with one page of data
abbrev pub segments : List ℕ → List Segment
segments words =
    record { addr = 0x10000; size = 4 * length words; bytes = flat_map (little_bytes 4) words; writable = false; runnable = true }
    ∷ record { addr = 0x100000; size = 4096; bytes = []; writable = true; runnable = false }
    ∷ []

abbrev pub program : List ℕ → (nodes : ℕ) → ImageState
program words nodes = image_of 0x10000 (segments words) nodes

-- where its pages stand: the data page first, then the harts' stack pages
abbrev pub placed : (nodes : ℕ) → LayoutState
placed nodes = record { nodes = nodes; pages = 0x100 ∷ map stack_page (below nodes) }

-- the settings that a command has where it names none
abbrev pub default_settings : (nodes : ℕ) → nat_le 1 nodes ≡ true → nat_le nodes 128 ≡ true → nat_le (nodes * 64) 16384 ≡ true → Settings
default_settings nodes some few room = record {
  nodes = nodes;
  frames = 64;
  sets = 64;
  ways = 2;
  tlb = 8;
  instructions = 1000000;
  trigger = 64;
  sharing = 32;
  moves = 4;
  reset = 1024;
  nodes_in_range = (leb-true 1 nodes some, leb-true nodes 128 few);
  frames_in_range = (leb-true 2 64 refl, leb-true 64 1024 refl);
  all_frames_in_range = leb-true (nodes * 64) 16384 room;
  sets_in_range = (leb-true 1 64 refl, leb-true 64 1024 refl);
  ways_in_range = (leb-true 1 2 refl, leb-true 2 8 refl);
  tlb_in_range = (leb-true 1 8 refl, leb-true 8 64 refl);
  instructions_in_range = leb-true 1000000 1000000 refl;
  trigger_in_range = (leb-true 1 64 refl, leb-true 64 1000000 refl);
  sharing_in_range = (leb-true 1 32 refl, leb-true 32 1000000 refl);
  moves_in_range = leb-true 4 1000000 refl;
  reset_in_range = (leb-true 1 1024 refl, leb-true 1024 1000000 refl);
}

-- a cache of one block, a TLB of one page, and few instructions
abbrev pub small_settings : (nodes : ℕ) → nat_le 1 nodes ≡ true → nat_le nodes 128 ≡ true → nat_le (nodes * 4) 16384 ≡ true → Settings
small_settings nodes some few room = record {
  nodes = nodes;
  frames = 4;
  sets = 1;
  ways = 1;
  tlb = 1;
  instructions = 9;
  trigger = 64;
  sharing = 32;
  moves = 4;
  reset = 1024;
  nodes_in_range = (leb-true 1 nodes some, leb-true nodes 128 few);
  frames_in_range = (leb-true 2 4 refl, leb-true 4 1024 refl);
  all_frames_in_range = leb-true (nodes * 4) 16384 room;
  sets_in_range = (leb-true 1 1 refl, leb-true 1 1024 refl);
  ways_in_range = (leb-true 1 1 refl, leb-true 1 8 refl);
  tlb_in_range = (leb-true 1 1 refl, leb-true 1 64 refl);
  instructions_in_range = leb-true 9 1000000 refl;
  trigger_in_range = (leb-true 1 64 refl, leb-true 64 1000000 refl);
  sharing_in_range = (leb-true 1 32 refl, leb-true 32 1000000 refl);
  moves_in_range = leb-true 4 1000000 refl;
  reset_in_range = (leb-true 1 1024 refl, leb-true 1024 1000000 refl);
}

-- two nodes of two frames, and a notice for each node that has one request more than a page's home
abbrev pub eager_settings : Settings
eager_settings = record {
  nodes = 2;
  frames = 2;
  sets = 1;
  ways = 1;
  tlb = 1;
  instructions = 99;
  trigger = 1;
  sharing = 32;
  moves = 4;
  reset = 1024;
  nodes_in_range = (leb-true 1 2 refl, leb-true 2 128 refl);
  frames_in_range = (leb-true 2 2 refl, leb-true 2 1024 refl);
  all_frames_in_range = leb-true 4 16384 refl;
  sets_in_range = (leb-true 1 1 refl, leb-true 1 1024 refl);
  ways_in_range = (leb-true 1 1 refl, leb-true 1 8 refl);
  tlb_in_range = (leb-true 1 1 refl, leb-true 1 64 refl);
  instructions_in_range = leb-true 99 1000000 refl;
  trigger_in_range = (leb-true 1 1 refl, leb-true 1 1000000 refl);
  sharing_in_range = (leb-true 1 32 refl, leb-true 32 1000000 refl);
  moves_in_range = leb-true 4 1000000 refl;
  reset_in_range = (leb-true 1 1024 refl, leb-true 1024 1000000 refl);
}

abbrev pub setting : List ℕ → Settings → Setup
setting words settings = record { image = program words settings.nodes; layout = placed settings.nodes; settings = settings }

-- ------------------------------------------------------------ runs

abbrev pub take : (actor sender number : ℕ) → Choice
take actor sender number = Take actor (record { sender = sender; seq = number })

abbrev pub Made : Type 0
Made = Machine × List (Event Note)

abbrev pub after_event : Event Note → Option Made → Option Made
after_event event None = None
after_event event (Some made) = Some (made.0, event ∷ made.1)

abbrev pub after_step : (Machine → Option Made) → Option (Machine × Event Note) → Option Made
after_step rest None = None
after_step rest (Some step) = after_event step.1 (rest step.0)

-- the machine after these choices, with their events; none where a choice has no step
abbrev pub made : Setup → Machine → List Choice → Option Made
made setup w [] = Some (w, [])
made setup w (choice ∷ choices) = after_step (λ v. made setup v choices) (world_step (rules setup) w choice)

-- the machine after these choices
abbrev pub after : Setup → Machine → List Choice → Option Machine
after setup w choices = option_map (λ m. m.0) (made setup w choices)

-- their events
abbrev pub events : Setup → Machine → List Choice → Option (List (Event Note))
events setup w choices = option_map (λ m. m.1) (made setup w choices)

-- ------------------------------------------------------------ scripts

-- what is done next: one choice, or so many choices of the drain, which takes what was sent first, and lets the mover act where
-- nothing is in flight
pub data Stage : Type 0 where
  One : (choice : Choice) → Stage
  Drain : (count : ℕ) → Stage

abbrev pub drain_next : Setup → (Machine → Option Made) → Machine → Option Choice → Option Made
drain_next setup rest w None = None
drain_next setup rest w (Some choice) = after_step rest (world_step (rules setup) w choice)

abbrev pub drained : Setup → ℕ → (Machine → Option Made) → Machine → Option Made
drained setup zero rest w = rest w
drained setup (suc count) rest w = drain_next setup (λ v. drained setup count rest v) w (drain_of setup w)

abbrev pub in_stage : Setup → Stage → (Machine → Option Made) → Machine → Option Made
in_stage setup (One choice) rest w = after_step rest (world_step (rules setup) w choice)
in_stage setup (Drain count) rest w = drained setup count rest w

-- the machine after these stages, with the events; none where a choice has no step
abbrev pub played : Setup → Machine → List Stage → Option Made
played setup w [] = Some (w, [])
played setup w (stage ∷ stages) = in_stage setup stage (λ v. played setup v stages) w

abbrev pub with_noted : Option Note → List Note → List Note
with_noted None notes = notes
with_noted (Some note) notes = note ∷ notes

-- what events note
abbrev pub noted : List (Event Note) → List Note
noted [] = []
noted (event ∷ events) = with_noted event.note (noted events)

abbrev pub event : Choice → (clock actor : ℕ) → Option Note → Event Note
event choice clock actor note = record { choice = choice; stamp = record { clock = clock; actor = actor }; note = note }
