-- The invariant of the whole holds at the start and after every run.
use Rattle.std.proofs.Common.{◌≡◌, ℕ, ◌<◌, false, arith, refl, subst, List, [], ◌∷◌, sym, ◌++◌, true}
use Rattle.std.proofs.lemmas.Bool.Decides.{nat_tests}
use Rattle.og_block.specs.State.{start as block_start, NoInvalidation, Sharing}
use Rattle.og_block.specs.Invariant.{Local}
use Rattle.og_block.specs.Views.{is_for, pending}
use Rattle.og_pages.specs.Run.{Laid, Laid_by, start_line, start_phase}
use Rattle.og_pages.proofs.Runs.{starts as pages_start_invariant}
use Rattle.og_pages.specs.State.{Free as FreeRole, Role, Mapped}
use Rattle.og_slots.proofs.Count.{count_none}
use Rattle.og_whole.specs.Events.{apply, Runs, start, FlatRun, Reached, World, Event, start_block, memory_after, memory_of}
use Rattle.og_whole.specs.Link.{Invariant, Linked, is_targeted}
use Rattle.og_whole.proofs.Kept.{kept}
use Rattle.og_block.specs.Roles.{OwnBit}
use Rattle.og_whole.specs.Kind.{fresh}
use Rattle.og_whole.proofs.Accesses.{memory_follows, answered}

abbrev StartRole : Role → Type 0
StartRole FreeRole = Unit {0}
StartRole (Mapped page) = Unit {0}
StartRole u = ⊥

line_each : {L : Type 0} → (actors : ℕ) (sharing : Sharing) (l : L) (q : ℕ) → q < actors → Local actors l (block_start sharing l) q
line_each actors sharing l q lt = let none : pending actors (block_start sharing l) q ≡ 0 = count_none actors (λ k. is_for q NoInvalidation) (λ k below. refl) in grind (arith, nat_tests)

fresh_each : {L : Type 0} → (actors mover : ℕ) (sharing : Sharing) (l : L) (q : ℕ) → q < actors → Local actors l (fresh sharing mover l) q
fresh_each actors mover sharing l q lt = let none : pending actors (fresh sharing mover l) q ≡ 0 = count_none actors (λ k. is_for q NoInvalidation) (λ k below. refl) in grind (arith, nat_tests)

start_linked : {L : Type 0} → (actors mover : ℕ) (sharing : Sharing) (blank : L) (memory : ℕ → ℕ → L) (u : Role) (k : ℕ) → mover < actors → OwnBit sharing mover → StartRole u → Linked L actors mover (start_line blank memory u k) (start_phase u) (λ q. false) (λ q. false) (λ q. false) (start_block sharing mover blank memory u k)
start_linked actors mover sharing blank memory (Mapped page) k lm ap st = record {
  invariant = record { each = line_each actors sharing (memory page k); home = grind arith };
  parts = record { mover = grind arith; plain = λ q lq. grind arith; ends = tt; reply = grind arith; bit = ap };
  phase_is = refl;
  want_is = λ q lq ne. refl;
  slot_is = λ q lq ne. refl;
  copy_is = λ q lq e. grind arith;
}
start_linked actors mover sharing blank memory FreeRole k lm ap st = record {
  invariant = record { each = fresh_each actors mover sharing blank; home = grind arith };
  parts = record { mover = grind arith; plain = λ q lq. grind arith; ends = refl; reply = λ e h. grind arith; bit = ap };
  phase_is = refl;
  want_is = λ q lq ne. refl;
  slot_is = λ q lq ne. refl;
  copy_is = λ q lq e. grind arith;
}
start_linked actors mover sharing blank memory u k lm ap st = absurd st

pub starts : {L : Type 0} → (actors mover pages blocks : ℕ) (sharing : Sharing) (blank : L) (page_table : ℕ → ℕ) (role : ℕ → Role) (memory : ℕ → ℕ → L) → mover < actors → OwnBit sharing mover → Laid pages page_table role → Invariant L actors mover pages blocks (start sharing mover blank page_table role memory)
starts actors mover pages blocks sharing blank page_table role memory lm ap laid = record {
  of_pages = pages_start_invariant pages blocks blank page_table role memory laid;
  link = λ f k lt. start_linked actors mover sharing blank memory (role f) k lm ap (used f (role f) (laid.frames f));
  untouched = λ f k lt target live. absurd (no_target f (role f) (laid.frames f) target);
}
  where
    no_target : (f : ℕ) (u : Role) → Laid_by pages page_table f u → is_targeted u ≡ true → ⊥
    no_target f u h e = grind arith

    used : (f : ℕ) (u : Role) → Laid_by pages page_table f u → StartRole u
    used f FreeRole h = tt
    used f (Mapped page) h = tt
    used f u h = absurd h

pub kept_run : {L : Type 0} → (actors mover pages blocks : ℕ) (es : List (Event L)) (w z : World L) → mover < actors → Invariant L actors mover pages blocks w → Runs actors mover pages blocks w es z → Invariant L actors mover pages blocks z
kept_run {L} actors mover pages blocks [] w z lm inv run = subst (λ (x : World L). Invariant L actors mover pages blocks x) run inv
kept_run actors mover pages blocks (e ∷ es) w z lm inv run = kept_run actors mover pages blocks es (apply actors mover e w) z lm (kept actors mover pages blocks w e lm run.0 inv) run.1

pub reached : {L : Type 0} → (actors mover pages blocks : ℕ) (w : World L) → Reached L actors mover pages blocks w → Invariant L actors mover pages blocks w
reached actors mover pages blocks w r = kept_run actors mover pages blocks r.events (start r.sharing mover r.blank r.page_table r.role r.memory) w r.inside (starts actors mover pages blocks r.sharing r.blank r.page_table r.role r.memory r.inside r.apart r.laid) r.run

-- the accesses are a run of the flat memory
pub flat_run : {L : Type 0} → (actors mover pages blocks : ℕ) (es : List (Event L)) (w z : World L) → mover < actors → Invariant L actors mover pages blocks w → Runs actors mover pages blocks w es z → FlatRun w.pages.memory es × (z.pages.memory ≡ memory_of es w.pages.memory)
flat_run actors mover pages blocks [] w z lm inv run = (tt, let e : w ≡ z = run in cc)
flat_run {L} actors mover pages blocks (e ∷ es) w z lm inv run =
    let r = flat_run actors mover pages blocks es (apply actors mover e w) z lm (kept actors mover pages blocks w e lm run.0 inv) run.1 in
    let h : (apply actors mover e w).pages.memory ≡ memory_after e w.pages.memory = memory_follows actors mover pages blocks e w run.0 in
    ((answered actors mover pages blocks w e lm run.0 inv, subst (λ (x : ℕ → ℕ → L). FlatRun x es) h r.0), subst (λ (x : ℕ → ℕ → L). z.pages.memory ≡ memory_of es x) h r.1)

runs_append : {L : Type 0} → (actors mover pages blocks : ℕ) (es more : List (Event L)) (w z end : World L) → Runs actors mover pages blocks w es z → Runs actors mover pages blocks z more end → Runs actors mover pages blocks w (es ++ more) end
runs_append {L} actors mover pages blocks [] more w z end run on = subst (λ (x : World L). Runs actors mover pages blocks x more end) (sym run) on
runs_append actors mover pages blocks (e ∷ es) more w z end run on = (run.0, runs_append actors mover pages blocks es more (apply actors mover e w) z end run.1 on)

pub goes_on : {L : Type 0} → (actors mover pages blocks : ℕ) (w end : World L) (events : List (Event L)) → Reached L actors mover pages blocks w → Runs actors mover pages blocks w events end → Reached L actors mover pages blocks end
goes_on actors mover pages blocks w end events r on = record {
  inside = r.inside;
  sharing = r.sharing;
  apart = r.apart;
  blank = r.blank;
  page_table = r.page_table;
  role = r.role;
  memory = r.memory;
  events = r.events ++ events;
  laid = r.laid;
  run = runs_append actors mover pages blocks r.events events (start r.sharing mover r.blank r.page_table r.role r.memory) w end r.run on;
}
