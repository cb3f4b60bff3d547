-- The next choice of a simulation, in a machine that isn't quiet.
use Rattle.std.proofs.Common.{◌≡◌, ◌∙◌, ℕ, ◌<◌, ◌≤◌, true, false, arith, refl, sym, subst, Option, None, Some, List, length, slice_get}
use Rattle.std.proofs.lemmas.Option.{slice_get_within}
use Rattle.og_draws.specs.Draws.{draw}
use Rattle.og_base.specs.declared.NotEnabled.{NotEnabled}
use Rattle.og_runs.specs.declared.Choice.{Choice}
use Rattle.og_image.specs.Image.{ImageState}
use Rattle.og_machine.specs.Machine.{Setup, Machine, refusal_of, is_stopped, is_quiet}
use Rattle.og_machine.specs.Choices.{enabled_of, drain_of, drawn_choice, next_choice}
use Rattle.og_headline.proofs.Drawn.{simulation_goes_on}
use Rattle.og_engine.specs.Kept.{KeptMachine, machine_of, setup_in, IsMade}

-- a stopped machine's is the drain's, another's the one that is drawn
pub drains : (setup : Setup) (number k : ℕ) (w : Machine) → is_stopped w ≡ true → next_choice setup number k w ≡ drain_of setup w
drains setup number k w stopped = rw stopped refl

pub draws : (setup : Setup) (number k : ℕ) (w : Machine) → is_stopped w ≡ false → next_choice setup number k w ≡ drawn_choice setup number k w
draws setup number k w running = rw running refl

-- there is one, and it isn't refused
abbrev pub IsNext : ImageState → KeptMachine → (number k : ℕ) → Type 0
IsNext image kept number k = (choice : Choice) × (next_choice (setup_in image kept) number k (machine_of kept) ≡ Some choice) × (refusal_of (setup_in image kept) (machine_of kept) choice ≡ None)

pub next_is : (image : ImageState) (kept : KeptMachine) (number k : ℕ) → IsMade image kept → is_quiet (machine_of kept) ≡ false → IsNext image kept number k
next_is image kept number k made unquiet =
    let next = simulation_goes_on (setup_in image kept) made.0 (machine_of kept) made.1 number k made.2.runnable made.2.run unquiet in
    (next.0, next.1, next.2)

not_none : (o : Option Choice) (choice : Choice) → o ≡ Some choice → o ≡ None → ⊥
not_none None choice a b = absurd (cc)
not_none (Some x) choice a b = absurd (cc)

-- a stopped machine that isn't quiet has one to drain
pub some_drained : (image : ImageState) (kept : KeptMachine) → IsMade image kept → is_quiet (machine_of kept) ≡ false → is_stopped (machine_of kept) ≡ true → drain_of (setup_in image kept) (machine_of kept) ≡ None → ⊥
some_drained image kept made unquiet stopped none =
    let next = next_is image kept 0 0 made unquiet in
    not_none (drain_of (setup_in image kept) (machine_of kept)) next.0 (sym (drains (setup_in image kept) 0 0 (machine_of kept) stopped) ∙ next.1) none

-- and one that still runs has one to draw
pub some_enabled : (image : ImageState) (kept : KeptMachine) → IsMade image kept → is_quiet (machine_of kept) ≡ false → is_stopped (machine_of kept) ≡ false → 1 ≤ length (enabled_of (setup_in image kept) (machine_of kept))
some_enabled image kept made unquiet running =
    let next = next_is image kept 0 0 made unquiet in
    let choices : List Choice = enabled_of (setup_in image kept) (machine_of kept) in
    let there : slice_get choices (draw 0 0 (length choices)) ≡ Some next.0 = sym (draws (setup_in image kept) 0 0 (machine_of kept) running) ∙ next.1 in
    let within : draw 0 0 (length choices) < length choices = slice_get_within choices (draw 0 0 (length choices)) next.0 there in
    omega arith

-- the next choice isn't refused
pub next_free : (image : ImageState) (kept : KeptMachine) (number k : ℕ) (choice : Choice) → IsMade image kept → is_quiet (machine_of kept) ≡ false → next_choice (setup_in image kept) number k (machine_of kept) ≡ Some choice
    → refusal_of (setup_in image kept) (machine_of kept) choice ≡ None
next_free image kept number k choice made unquiet is =
    let next = next_is image kept number k made unquiet in
    let same : next.0 ≡ choice = one_some next.0 choice (sym next.1 ∙ is) in
    subst (λ (c : Choice). refusal_of (setup_in image kept) (machine_of kept) c ≡ None) same next.2
  where
    one_some : (a b : Choice) → Some a ≡ Some b → a ≡ b
    one_some a b e = cc

-- a refusal of what isn't refused
pub no_refusal : (o : Option NotEnabled) (why : NotEnabled) → Some why ≡ o → o ≡ None → ⊥
no_refusal None why a b = absurd (cc)
no_refusal (Some x) why a b = absurd (cc)
