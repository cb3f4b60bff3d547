-- Worked examples of runs from the start.
use Rattle.std.specs.Prelude.{◌≡◌, ℕ, true, None, Some, IfSome, List, [], ◌∷◌}
use Rattle.std.proofs.Common.{refl}
use Rattle.std.specs.Option.{option_map}
use Rattle.og_base.specs.declared.Cause.TheVariants.{Call}
use Rattle.og_line.specs.declared.Access.TheVariants.{Load, Store}
use Rattle.og_runs.specs.declared.Choice.{Choice}
use Rattle.og_runs.specs.declared.Choice.TheVariants.{Act}
use Rattle.og_runs.specs.declared.Event.{Event}
use Rattle.og_runs.specs.Runs.{choices}
use Rattle.og_runs.specs.World.{world_step}
use Rattle.og_msg.specs.declared.Note.{Note}
use Rattle.og_msg.specs.declared.Note.TheVariants.{Access, Exit, Trap}
use Rattle.og_image.specs.Layout.{layout_of}
use Rattle.og_machine.specs.Machine.{Setup, Machine, rules, start_machine, is_quiet}
use Rattle.og_machine.specs.Choices.{enabled_of}
use Rattle.og_machine.specs.FlatRun.{FlatRun, hart_notes}
use Rattle.og_machine.specs.Scenes.{program, placed, setting, default_settings, small_settings, take, events, after, event}

-- the choices of these events are a run from the start, which makes these events, and is quiet then
pub record EndsQuiet (setup : Setup) (all : List (Event Note)) : Type 0 where
  pub events : events setup (start_machine setup) (choices all) ≡ Some all
  pub quiet : option_map is_quiet (after setup (start_machine setup) (choices all)) ≡ Some true

-- the pages of a program with one page of data stand where its layout puts them
abbrev pub PagesArePlaced : Type 0
PagesArePlaced = (words : List ℕ) (nodes : ℕ) → layout_of (program words nodes) ≡ placed nodes

-- each of these choices is the only one that is enabled, one after another
abbrev pub IsForced : Setup → Machine → List Choice → Type 0
IsForced setup w [] = enabled_of setup w ≡ []
IsForced setup w (choice ∷ choices) =
    (enabled_of setup w ≡ choice ∷ []) × IfSome (world_step (rules setup) w choice) (λ step. IsForced setup step.0 choices)

-- ------------------------------------------------------------ one environment call that there isn't

abbrev pub call : Setup
call = setting (0x00000073 ∷ []) (default_settings 1 refl refl refl)

abbrev pub CallTraps : Type 0
CallTraps = EndsQuiet call (event (Act 0) 1 0 (Some (Trap Call 0x10000)) ∷ [])

-- ------------------------------------------------------------ a store and a load of one node

-- lui a1,256; addi a2,x0,42; sw a2,0(a1); lw a3,0(a1); addi a7,x0,93; addi a0,x0,0; ecall
abbrev pub store : Setup
store = setting (0x001005b7 ∷ 0x02a00613 ∷ 0x00c5a023 ∷ 0x0005a683 ∷ 0x05d00893 ∷ 0x00000513 ∷ 0x00000073 ∷ []) (default_settings 1 refl refl refl)

-- it walks for the page, asks the home for the only copy, stores, hits, and exits
abbrev pub store_events : List (Event Note)
store_events =
    event (Act 0) 1 0 None
    ∷ event (Act 0) 2 0 None
    ∷ event (Act 0) 3 0 None
    ∷ event (take 1 0 0) 4 1 None
    ∷ event (take 0 1 0) 5 0 None
    ∷ event (Act 0) 6 0 None
    ∷ event (take 0 0 1) 7 0 None
    ∷ event (take 0 0 2) 8 0 (Some (Access (Store 0x100000 4 42) 0))
    ∷ event (Act 0) 9 0 (Some (Access (Load 0x100000 4) 42))
    ∷ event (Act 0) 10 0 None
    ∷ event (Act 0) 11 0 None
    ∷ event (Act 0) 12 0 (Some (Exit 0))
    ∷ []

abbrev pub StoreIsLoaded : Type 0
StoreIsLoaded = EndsQuiet store store_events

-- what the hart does in it is a run of the flat memory, of few instructions
abbrev pub StoreIsFlat : Type 0
StoreIsFlat = FlatRun store.image (small_settings 1 refl refl refl) (hart_notes store_events)

-- each of its choices is the only one that is enabled
abbrev pub StoreIsForced : Type 0
StoreIsForced = IsForced store (start_machine store) (choices store_events)

-- ------------------------------------------------------------ two nodes load a word, and then trap

-- lui a1,256; lw a2,0(a1); ecall
abbrev pub load : Setup
load = setting (0x001005b7 ∷ 0x0005a603 ∷ 0x00000073 ∷ []) (default_settings 2 refl refl refl)

-- node 0 makes its part first and gets the block clean; node 1's read meets that owner, and the home's line is good
abbrev pub load_events : List (Event Note)
load_events =
    event (Act 0) 1 0 None
    ∷ event (Act 0) 2 0 None
    ∷ event (take 2 0 0) 3 2 None
    ∷ event (take 0 2 0) 4 0 None
    ∷ event (Act 0) 5 0 None
    ∷ event (take 0 0 1) 6 0 None
    ∷ event (take 0 0 2) 7 0 (Some (Access (Load 0x100000 4) 0))
    ∷ event (Act 1) 1 1 None
    ∷ event (Act 1) 2 1 None
    ∷ event (take 2 1 0) 4 2 None
    ∷ event (take 1 2 1) 5 1 None
    ∷ event (Act 1) 6 1 None
    ∷ event (take 0 1 1) 8 0 None
    ∷ event (take 0 0 3) 9 0 None
    ∷ event (take 1 0 4) 9 1 None
    ∷ event (take 1 0 5) 10 1 (Some (Access (Load 0x100000 4) 0))
    ∷ event (take 0 0 6) 10 0 None
    ∷ event (Act 0) 11 0 (Some (Trap Call 0x10008))
    ∷ event (Act 1) 11 1 (Some (Trap Call 0x10008))
    ∷ []

abbrev pub BothLoad : Type 0
BothLoad = EndsQuiet load load_events
