-- The drain of a stopped machine, event by event, to its end.
use Rattle.std.proofs.Common.{◌≡◌, ◌∙◌, ℕ, zero, suc, ◌+◌, ◌*◌, ◌<◌, ◌≤◌, ◌^◌, true, arith, refl, sym, subst, Option, None, Some, List}
use Rattle.std.specs.Prelude.{IsSome}
use Rattle.std.proofs.lemmas.Nat.{mul-le}
use Rattle.og_runs.specs.declared.Choice.{Choice}
use Rattle.og_runs.specs.declared.Event.{Event}
use Rattle.og_runs.specs.World.{world_step}
use Rattle.og_runs.proofs.Whole.{one_outcome}
use Rattle.og_msg.specs.declared.Note.{Note}
use Rattle.og_image.specs.Image.{ImageState}
use Rattle.og_machine.specs.Machine.{Setup, Machine, rules, refusal_of, is_stopped, is_quiet}
use Rattle.og_machine.specs.Choices.{drain_of}
use Rattle.og_machine.proofs.Refusals.{step_allowed}
use Rattle.og_drain_facts.proofs.Stopped.{quiet_drains_nothing}
use Rattle.og_drain_ends.specs.Laws.{DrainsBy, drain_most}
use Rattle.og_drain_ends.proofs.Ends.{drain_ends}
use Rattle.og_engine.specs.Kept.{KeptMachine, machine_of, setup_in, IsMade}
use Rattle.og_driver.proofs.Drawing.{same_setup}
use Rattle.og_finish.specs.Finish.{made_by, drain_of_all}
use Rattle.og_finish.specs.Parts.{Makes, Adds}
use Rattle.og_finish.proofs.Going.{Going, going_start, going_next, going_none, going_end}

-- ---- the bound

-- the product of what is in flight and of the nodes
pub product_fits : (f n : ℕ) → f < 2 ^ 32 → n ≤ 255 → 64 * (32 + f) * (n + 4) < 2 ^ 50
product_fits f n few nodes =
    let left : 64 * (32 + f) ≤ 2 ^ 39 = omega arith in
    let right : n + 4 ≤ 259 = omega arith in
    let both : 64 * (32 + f) * (n + 4) ≤ 2 ^ 39 * 259 = mul-le (64 * (32 + f)) (n + 4) (2 ^ 39) 259 left right in
    omega arith

-- ---- event by event

-- after i events of the drain of m: the machine n, the events behind those before, and so many events still lead to a quiet machine
pub record Draining (image : ImageState) (m n : KeptMachine) (most i : ℕ) (before events : List (Event Note)) : Type 0 where
  pub settings : n.settings ≡ m.settings
  pub made : IsMade image n
  pub count : n.events ≡ m.events + i
  pub going : Going (setup_in image m) (λ k w. drain_of (setup_in image m) w) (machine_of m) (machine_of n) most i before events
  pub left : ℕ
  pub within : left + i ≤ most
  pub last : Machine
  pub drains : DrainsBy (setup_in image m) left (machine_of n) last
  pub quiet : is_quiet last ≡ true

pub draining_start : (image : ImageState) (m : KeptMachine) (most : ℕ) (before : List (Event Note)) → IsMade image m → is_stopped (machine_of m) ≡ true → most ≡ drain_most (setup_in image m) (machine_of m) → Draining image m m most 0 before before
draining_start image m most before made stopped is =
    let ends = drain_ends (setup_in image m) made.0 (machine_of m) made.1 made.2.runnable made.2.run stopped in
    let few : ends.0 ≤ most = subst (λ (k : ℕ). ends.0 ≤ k) (sym is) ends.2 in
    record {
      settings = refl;
      made = made;
      count = omega arith;
      going = going_start (setup_in image m) (λ k w. drain_of (setup_in image m) w) (machine_of m) most before;
      left = ends.0;
      within = omega arith;
      last = ends.1;
      drains = ends.3;
      quiet = ends.4;
    }

some_there : {X : Type 0} → (o : Option X) (x : X) → o ≡ Some x → IsSome o
some_there None x e = absurd (cc e)
some_there (Some y) x e = refl

not_both : {X : Type 0} → (o : Option X) (x : X) → o ≡ Some x → o ≡ None → ⊥
not_both None x a b = absurd (cc)
not_both (Some y) x a b = absurd (cc)

one_some : {X : Type 0} → (o : Option X) (a b : X) → o ≡ Some a → o ≡ Some b → a ≡ b
one_some o a b e f = cc

-- the drain's next choice, where events still lead to a quiet machine: one leads on
record Next (setup : Setup) (w last : Machine) (left : ℕ) (choice : Choice) : Type 0 where
  fewer : ℕ
  one_less : left ≡ suc fewer
  after : Machine
  event : Event Note
  step : world_step (rules setup) w choice ≡ Some (after, event)
  drains : DrainsBy setup fewer after last

next_of : (setup : Setup) (w last : Machine) (left : ℕ) (choice : Choice) → DrainsBy setup left w last → is_quiet last ≡ true → drain_of setup w ≡ Some choice → Next setup w last left choice
next_of setup w last zero choice drains quiet named = absurd (not_both (drain_of setup w) choice named (quiet_drains_nothing setup w (subst (λ (v : Machine). is_quiet v ≡ true) (sym drains) quiet)))
next_of setup w last (suc fewer) choice drains quiet named =
    let same : drains.0 ≡ choice = one_some (drain_of setup w) drains.0 choice drains.3 named in
    record {
      fewer = fewer;
      one_less = refl;
      after = drains.1;
      event = drains.2;
      step = subst (λ (c : Choice). world_step (rules setup) w c ≡ Some (drains.1, drains.2)) same drains.4;
      drains = drains.5;
    }

drain_here : (image : ImageState) (m n : KeptMachine) (most i : ℕ) (before events : List (Event Note)) (choice : Choice) → (d : Draining image m n most i before events) → drain_of (setup_in image n) (machine_of n) ≡ Some choice
    → Next (setup_in image m) (machine_of n) d.last d.left choice
drain_here image m n most i before events choice d named =
    next_of (setup_in image m) (machine_of n) d.last d.left choice d.drains d.quiet (subst (λ (s : Setup). drain_of s (machine_of n) ≡ Some choice) (same_setup image m n d.settings) named)

-- it isn't refused
pub draining_free : (image : ImageState) (m n : KeptMachine) (most i : ℕ) (before events : List (Event Note)) (choice : Choice) → Draining image m n most i before events → drain_of (setup_in image n) (machine_of n) ≡ Some choice
    → refusal_of (setup_in image n) (machine_of n) choice ≡ None
draining_free image m n most i before events choice d named =
    let setup : Setup = setup_in image m in
    let x = drain_here image m n most i before events choice d named in
    let free : refusal_of setup (machine_of n) choice ≡ None = step_allowed setup (machine_of n) choice (some_there (world_step (rules setup) (machine_of n) choice) (x.after, x.event) x.step) in
    subst (λ (s : Setup). refusal_of s (machine_of n) choice ≡ None) (sym (same_setup image m n d.settings)) free

pub draining_next : (image : ImageState) (m n v : KeptMachine) (most i : ℕ) (before events longer : List (Event Note)) (choice : Choice) → i < most → Draining image m n most i before events → drain_of (setup_in image n) (machine_of n) ≡ Some choice
    → Makes (setup_in image n) choice n v events longer → v.settings ≡ n.settings → IsMade image v
    → Draining image m v most (i + 1) before longer
draining_next image m n v most i before events longer choice more d named made settings stays =
    let setup : Setup = setup_in image m in
    let next : ℕ → Machine → Option Choice = λ k w. drain_of setup w in
    let same = same_setup image m n d.settings in
    let named_here : drain_of setup (machine_of n) ≡ Some choice = subst (λ (s : Setup). drain_of s (machine_of n) ≡ Some choice) same named in
    let x = drain_here image m n most i before events choice d named in
    let step : world_step (rules setup) (machine_of n) choice ≡ Some (machine_of v, made.event) = subst (λ (s : Setup). world_step (rules s) (machine_of n) choice ≡ Some (machine_of v, made.event)) same made.step in
    let one = one_outcome (world_step (rules setup) (machine_of n) choice) x.after (machine_of v) x.event made.event x.step step in
    let on = going_next setup next (machine_of m) (machine_of n) (machine_of v) most i before events choice made.event more d.going named_here step in
    record {
      settings = settings ∙ d.settings;
      made = stays;
      count = (let a = made.counted in let b = d.count in omega arith);
      going = subst (λ (l : List (Event Note)). Going setup next (machine_of m) (machine_of v) most (i + 1) before l) (sym made.list) on;
      left = x.fewer;
      within = (let a = x.one_less in let b = d.within in omega arith);
      last = d.last;
      drains = subst (λ (w : Machine). DrainsBy setup x.fewer w d.last) one.0 x.drains;
      quiet = d.quiet;
    }

-- ---- its end

-- the events are those of the whole drain
pub draining_none : (image : ImageState) (m n : KeptMachine) (most i : ℕ) (before events : List (Event Note)) → most ≡ drain_most (setup_in image m) (machine_of m) → Draining image m n most i before events → drain_of (setup_in image n) (machine_of n) ≡ None
    → Adds (drain_of_all (setup_in image m) (machine_of m)) (machine_of n) before events
draining_none image m n most i before events is d none =
    let setup : Setup = setup_in image m in
    let next : ℕ → Machine → Option Choice = λ k w. drain_of setup w in
    let none_here : drain_of setup (machine_of n) ≡ None = subst (λ (s : Setup). drain_of s (machine_of n) ≡ None) (same_setup image m n d.settings) none in
    subst (λ (k : ℕ). Adds (made_by setup next 0 k (machine_of m)) (machine_of n) before events) is (going_none setup next (machine_of m) (machine_of n) most i before events d.going none_here)

pub draining_end : (image : ImageState) (m n : KeptMachine) (most i : ℕ) (before events : List (Event Note)) → most ≡ drain_most (setup_in image m) (machine_of m) → Draining image m n most i before events → i ≡ most
    → Adds (drain_of_all (setup_in image m) (machine_of m)) (machine_of n) before events
draining_end image m n most i before events is d all =
    let setup : Setup = setup_in image m in
    let next : ℕ → Machine → Option Choice = λ k w. drain_of setup w in
    subst (λ (k : ℕ). Adds (made_by setup next 0 k (machine_of m)) (machine_of n) before events) is (going_end setup next (machine_of m) (machine_of n) most i before events d.going all)

quiet_by : (setup : Setup) (w last : Machine) (left : ℕ) → DrainsBy setup left w last → is_quiet last ≡ true → drain_of setup w ≡ None → is_quiet w ≡ true
quiet_by setup w last zero drains quiet none = subst (λ (v : Machine). is_quiet v ≡ true) (sym drains) quiet
quiet_by setup w last (suc fewer) drains quiet none = absurd (not_both (drain_of setup w) drains.0 drains.3 none)

-- where nothing is drained any more the machine is quiet
pub draining_quiet : (image : ImageState) (m n : KeptMachine) (most i : ℕ) (before events : List (Event Note)) → Draining image m n most i before events → drain_of (setup_in image n) (machine_of n) ≡ None → is_quiet (machine_of n) ≡ true
draining_quiet image m n most i before events d none =
    quiet_by (setup_in image m) (machine_of n) d.last d.left d.drains d.quiet (subst (λ (s : Setup). drain_of s (machine_of n) ≡ None) (same_setup image m n d.settings) none)

all_drained : (setup : Setup) (w last : Machine) (left most : ℕ) → DrainsBy setup left w last → is_quiet last ≡ true → left + most ≤ most → is_quiet w ≡ true
all_drained setup w last zero most drains quiet within = subst (λ (v : Machine). is_quiet v ≡ true) (sym drains) quiet
all_drained setup w last (suc fewer) most drains quiet within = absurd (omega arith)

-- and so it is once as many events were made as there may be
pub draining_quiet_end : (image : ImageState) (m n : KeptMachine) (most i : ℕ) (before events : List (Event Note)) → Draining image m n most i before events → i ≡ most → is_quiet (machine_of n) ≡ true
draining_quiet_end image m n most i before events d all =
    all_drained (setup_in image m) (machine_of n) d.last d.left most d.drains d.quiet (subst (λ (k : ℕ). d.left + k ≤ most) all d.within)
