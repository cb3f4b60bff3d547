-- The invariant holds at the start and after every run, and each access answers the flat memory.
use Rattle.std.proofs.Common.{◌≡◌, ℕ, ◌<◌, true, false, arith, refl, sym, subst, List, [], ◌∷◌, ◌++◌}
use Rattle.std.proofs.lemmas.Bool.Decides.{nat_tests}
use Rattle.og_pages.proofs.Kept.{kept}
use Rattle.og_pages.proofs.Place.{place_of_named}
use Rattle.og_pages.specs.State.{State, Role, Mapped, To, Outstanding}
use Rattle.og_pages.specs.Rows.{Row, guard, apply, is_dead, Load_hit, Store_hit, Fill_load, Fill_store}
use Rattle.og_pages.specs.Invariant.{Invariant, Roles, Entries, Requests, place, belongs_to}
use Rattle.og_pages.specs.Run.{Laid, Laid_by, start, Runs, Answers, AllAnswered, Reached}

pub starts : {L : Type 0} → (pages blocks : ℕ) (blank : L) (page_table : ℕ → ℕ) (role : ℕ → Role) (memory : ℕ → ℕ → L) → Laid pages page_table role → Invariant L pages blocks (start blank page_table role memory)
starts pages blocks blank page_table role memory laid = record {
  roles = λ f. let h : Laid_by pages page_table f (role f) = laid.frames f in grind (arith, nat_tests);
  mappings = laid.mappings;
  jobs = refl;
  phases = λ f k lt. let h : Laid_by pages page_table f (role f) = laid.frames f in grind (arith, nat_tests);
  entries = λ p y. tt;
  walks = λ p. tt;
  walkers = λ p. tt;
  requests = λ p. tt;
  victims = λ p. tt;
  holders = λ f p. grind arith;
  copies = λ f k p. grind arith;
  drops = λ p. tt;
  dropped_entries = λ p y. tt;
  dropped_rest = λ p. tt;
  gathering = λ p. tt;
  lines = tt;
  held = λ y k ly lk. let h : role (page_table y) ≡ Mapped y = laid.mappings y ly in grind (arith, nat_tests);
  notices = λ f. let h : Laid_by pages page_table f (role f) = laid.frames f in grind (arith, nat_tests);
}

-- a block that isn't dead, of a frame that a node names for a page, answers the page's flat memory
pub named_block : {L : Type 0} → (pages blocks : ℕ) (s : State L) (frame number page : ℕ) → Invariant L pages blocks s → number < blocks → belongs_to (s.role frame) page ≡ true → is_dead (s.phase frame number) ≡ false → (s.newest frame number ≡ s.memory page number) × (page < pages) × (place s.job (s.page_table page) page number ≡ frame)
named_block pages blocks s frame number page inv lt named alive =
    let at : (place s.job (s.page_table page) page number ≡ frame) × (s.role frame ≡ Mapped page) = place_of_named pages blocks s frame page number inv.jobs (inv.roles frame) (inv.phases frame number) lt named alive inv.roles in
    let role : Roles pages blocks s frame = inv.roles frame in
    let inside : page < pages = grind arith in
    let held : s.newest (place s.job (s.page_table page) page number) number ≡ s.memory page number = inv.held page number inside lt in
    (subst (λ (g : ℕ). s.newest g number ≡ s.memory page number) at.0 held, inside, at.0)

answers_copy : {L : Type 0} → (pages blocks : ℕ) (s : State L) (node page frame number : ℕ) → (s.tlb node page ≡ To frame) × (s.cached frame number node ≡ true) → Invariant L pages blocks s → s.newest frame number ≡ s.memory page number
answers_copy pages blocks s node page frame number g inv =
    let copy = inv.copies frame number node g.1 in
    let entry : Entries pages blocks s node page = inv.entries node page in
    (named_block pages blocks s frame number page inv copy.2 (grind arith) copy.1).0

answers_request : {L : Type 0} → (pages blocks : ℕ) (s : State L) (node page frame number : ℕ) → (s.request node ≡ Outstanding page frame number) × (is_dead (s.phase frame number) ≡ false) → Invariant L pages blocks s → s.newest frame number ≡ s.memory page number
answers_request pages blocks s node page frame number g inv =
    let request : Requests pages blocks s node = inv.requests node in
    let named : (belongs_to (s.role frame) page ≡ true) × (number < blocks) = grind arith in
    (named_block pages blocks s frame number page inv named.1 named.0 g.1).0

pub answers : {L : Type 0} → (pages blocks : ℕ) (s : State L) (r : Row L) → guard pages blocks r s → Invariant L pages blocks s → Answers s r
answers pages blocks s (Load_hit node page frame number) g inv = answers_copy pages blocks s node page frame number g inv
answers pages blocks s (Store_hit node page frame number line) g inv = answers_copy pages blocks s node page frame number g inv
answers pages blocks s (Fill_load node page frame number) g inv = answers_request pages blocks s node page frame number g inv
answers pages blocks s (Fill_store node page frame number line) g inv = answers_request pages blocks s node page frame number g inv
answers pages blocks s r g inv = tt

pub after_run : {L : Type 0} → (pages blocks : ℕ) (rows : List (Row L)) (s end : State L) → Invariant L pages blocks s → Runs pages blocks s rows end → Invariant L pages blocks end
after_run {L} pages blocks [] s end inv run = subst (λ (x : State L). Invariant L pages blocks x) run inv
after_run pages blocks (r ∷ rows) s end inv run = after_run pages blocks rows (apply r s) end (kept pages blocks s r run.0 inv) run.1

pub reached : {L : Type 0} → (pages blocks : ℕ) (s : State L) → Reached L pages blocks s → Invariant L pages blocks s
reached pages blocks s r = after_run pages blocks r.rows (start r.blank r.page_table r.role r.memory) s (starts pages blocks r.blank r.page_table r.role r.memory r.laid) r.run

pub all_answered : {L : Type 0} → (pages blocks : ℕ) (rows : List (Row L)) (s end : State L) → Invariant L pages blocks s → Runs pages blocks s rows end → AllAnswered s rows
all_answered pages blocks [] s end inv run = tt
all_answered pages blocks (r ∷ rows) s end inv run = (answers pages blocks s r run.0 inv, all_answered pages blocks rows (apply r s) end (kept pages blocks s r run.0 inv) run.1)

runs_append : {L : Type 0} → (pages blocks : ℕ) (rows more : List (Row L)) (s t end : State L) → Runs pages blocks s rows t → Runs pages blocks t more end → Runs pages blocks s (rows ++ more) end
runs_append {L} pages blocks [] more s t end run on = subst (λ (x : State L). Runs pages blocks x more end) (sym run) on
runs_append pages blocks (r ∷ rows) more s t end run on = (run.0, runs_append pages blocks rows more (apply r s) t end run.1 on)

pub goes_on : {L : Type 0} → (pages blocks : ℕ) (s end : State L) (rows : List (Row L)) → Reached L pages blocks s → Runs pages blocks s rows end → Reached L pages blocks end
goes_on pages blocks s end rows r on = record {
  blank = r.blank;
  page_table = r.page_table;
  role = r.role;
  memory = r.memory;
  rows = r.rows ++ rows;
  laid = r.laid;
  run = runs_append pages blocks r.rows rows (start r.blank r.page_table r.role r.memory) s end r.run on;
}
