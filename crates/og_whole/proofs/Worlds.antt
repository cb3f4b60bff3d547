-- What holds of each block in each world: the laws of one block, carried over by the invariant; and two facts that each row of a
-- block keeps by itself, beside the invariant.
use Rattle.std.proofs.Common.{◌≡◌, ◌≢◌, ℕ, ◌<◌, Bool, true, false, cond, nat_eq, arith, refl, subst, List, [], ◌∷◌}
use Rattle.std.proofs.lemmas.Bool.Decides.{nat_tests}
use Rattle.og_block.specs.State.{Block, Sharing, Idle}
use Rattle.og_block.specs.Rows.{apply as block_apply, actor_of}
use Rattle.og_block.specs.Balance.{due}
use Rattle.og_block.specs.Moves.{Moves}
use Rattle.og_block.specs.Races.{Handed, Races}
use Rattle.og_block.proofs.Balance.{finds_ready, balanced}
use Rattle.og_block.proofs.Bounded.{bounded_kept}
use Rattle.og_block.proofs.KeptHanded.{handed_kept}
use Rattle.og_block.proofs.Moves.{moves, outstanding_moves}
use Rattle.og_block.proofs.Races.{races}
use Rattle.og_block.proofs.Stays.{sharing_stays as block_sharing}
use Rattle.og_pages.specs.State.{State as Pages, Role, Mapped, Collect, NoCommand, NoNotice, NoDrop}
use Rattle.og_pages.specs.Rows.{guard as page_guard, Copy_send, Clean_send, Clean_serve, Notice_send, Drop_send_all}
use Rattle.og_pages.specs.Invariant.{Jobs, Notices, Drops}
use Rattle.og_whole.specs.Kind.{phase_of}
use Rattle.og_whole.specs.Events.{World, Event, Page, On, guard, apply, Runs, start, start_block, Reached}
use Rattle.og_whole.specs.Link.{Invariant}
use Rattle.og_whole.specs.HomeEntry.{home_entry_at, CleaningKeepsOthers}
use Rattle.og_whole.specs.Claims.{BlocksReady, BlocksRace, RepliesBounded, WaitersMove, CollectMoves, EventsAnswered, PagesSend, SharingStays}
use Rattle.og_whole.proofs.Runs.{reached, starts}
use Rattle.og_whole.proofs.Kept.{kept}
use Rattle.og_whole.proofs.Accesses.{answered, memory_follows}

pub blocks_ready : {L : Type 0} → (actors mover pages blocks : ℕ) (w : World L) → Reached L actors mover pages blocks w → BlocksReady L actors mover pages blocks w
blocks_ready actors mover pages blocks w r f k q lk lq =
    let l = (reached actors mover pages blocks w r).link f k lk in
    (finds_ready actors (w.pages.newest f k) (w.block f k) q l.invariant lq, balanced actors (w.pages.newest f k) (w.block f k) q (l.invariant.each q lq))

pub waiters_move : {L : Type 0} → (actors mover pages blocks : ℕ) (w : World L) → Reached L actors mover pages blocks w → WaitersMove L actors mover pages blocks w
waiters_move actors mover pages blocks w r f k q lk lq = moves actors (w.pages.newest f k) (w.block f k) ((reached actors mover pages blocks w r).link f k lk).invariant q lq

pub events_answered : {L : Type 0} → (actors mover pages blocks : ℕ) (w : World L) → Reached L actors mover pages blocks w → EventsAnswered L actors mover pages blocks w
events_answered actors mover pages blocks w r e g = (answered actors mover pages blocks w e r.inside g (reached actors mover pages blocks w r), memory_follows actors mover pages blocks e w g)

-- ---- beside the invariant

-- an owner that gave the block away gave it to the requester; and a reply names fewer acknowledgements than there are actors
pub record Beside (L : Type 0) (actors : ℕ) (b : Block L) (q : ℕ) : Type 0 where
  pub handed : Handed b q
  pub bounded : due (b.ask q) < actors

abbrev AllBeside : {L : Type 0} → (actors blocks : ℕ) → World L → Type 0
AllBeside {L} actors blocks w = (f k q : ℕ) → k < blocks → q < actors → Beside L actors (w.block f k) q

step_beside : {L : Type 0} → (actors mover pages blocks : ℕ) (w : World L) (e : Event L) → guard actors mover pages blocks e w → Invariant L actors mover pages blocks w → AllBeside actors blocks w → AllBeside actors blocks (apply actors mover e w)
step_beside actors mover pages blocks w (Page row) g inv h = h
step_beside {L} actors mover pages blocks w (On page other f k r) g inv h = λ x j q lj lq. at x j q lj lq (nat_eq x f) (nat_eq j k)
  where
    at : (x j q : ℕ) → j < blocks → q < actors → (t u : Bool) → Beside L actors (cond t (cond u (block_apply actors r (w.block f k)) (w.block x j)) (w.block x j)) q
    at x j q lj lq true true =
        let l = inv.link f k g.2 in
        let old = h f k q g.2 lq in record {
          handed = handed_kept actors (w.pages.newest f k) q (w.block f k) r g.0 g.1 lq l.invariant.home (l.invariant.each (actor_of r) g.1) (l.invariant.each q lq) old.handed;
          bounded = bounded_kept actors q (w.block f k) r g.0 g.1 (let some : q < actors = lq in omega arith) old.bounded;
        }
    at x j q lj lq true false = h x j q lj lq
    at x j q lj lq false u = h x j q lj lq

run_beside : {L : Type 0} → (actors mover pages blocks : ℕ) (es : List (Event L)) (w z : World L) → mover < actors → Invariant L actors mover pages blocks w → AllBeside actors blocks w → Runs actors mover pages blocks w es z → AllBeside actors blocks z
run_beside actors mover pages blocks [] w z lm inv h run = subst (λ x. AllBeside actors blocks x) run h
run_beside actors mover pages blocks (e ∷ es) w z lm inv h run = run_beside actors mover pages blocks es (apply actors mover e w) z lm (kept actors mover pages blocks w e lm run.0 inv) (step_beside actors mover pages blocks w e run.0 inv h) run.1

start_beside : {L : Type 0} → (actors : ℕ) (sharing : Sharing) (mover : ℕ) (blank : L) (memory : ℕ → ℕ → L) (u : Role) (k q : ℕ) → q < actors → Beside L actors (start_block sharing mover blank memory u k) q
start_beside actors sharing mover blank memory (Mapped page) k q lt = record { handed = λ g. cc; bounded = omega (arith, lt) }
start_beside actors sharing mover blank memory u k q lt = record { handed = λ g. cc; bounded = omega (arith, lt) }

pub all_beside : {L : Type 0} → (actors mover pages blocks : ℕ) (w : World L) → Reached L actors mover pages blocks w → AllBeside actors blocks w
all_beside actors mover pages blocks w r =
    run_beside actors mover pages blocks r.events (start r.sharing mover r.blank r.page_table r.role r.memory) w r.inside (starts actors mover pages blocks r.sharing r.blank r.page_table r.role r.memory r.inside r.apart r.laid)
    (λ f k q lk lq. start_beside actors r.sharing mover r.blank r.memory (r.role f) k q lq) r.run

pub blocks_race : {L : Type 0} → (actors mover pages blocks : ℕ) (w : World L) → Reached L actors mover pages blocks w → BlocksRace L actors mover pages blocks w
blocks_race actors mover pages blocks w r f k lk = races actors (w.pages.newest f k) (w.block f k) ((reached actors mover pages blocks w r).link f k lk).invariant (λ q lq. (all_beside actors mover pages blocks w r f k q lk lq).handed)

pub replies_bounded : {L : Type 0} → (actors mover pages blocks : ℕ) (w : World L) → Reached L actors mover pages blocks w → RepliesBounded L actors mover pages blocks w
replies_bounded actors mover pages blocks w r f k q lk lq = (all_beside actors mover pages blocks w r f k q lk lq).bounded

-- ---- the mover

-- a block that the mover collects is one that it poisons
collecting : {L : Type 0} → (actors mover pages blocks : ℕ) (w : World L) (page old new number : ℕ) → Invariant L actors mover pages blocks w → w.pages.job ≡ Collect page old new number → (number < blocks) × ((w.block old number).want mover ≢ Idle)
collecting {L} actors mover pages blocks w page old new number inv e = (inside, λ idle. not_idle idle (inv.link old number inside).phase_is)
  where
    jobs : Jobs pages blocks w.pages
    jobs = inv.of_pages.jobs

    inside : number < blocks
    inside = grind arith

    not_idle : (w.block old number).want mover ≡ Idle → phase_of mover (w.block old number) ≡ w.pages.phase old number → ⊥
    not_idle idle seen = let p = inv.of_pages.phases old number inside in let j = jobs in grind (arith, nat_tests)

pub collect_moves : {L : Type 0} → (actors mover pages blocks : ℕ) (w : World L) → Reached L actors mover pages blocks w → CollectMoves L actors mover pages blocks w
collect_moves actors mover pages blocks w r page old new number e =
    let inv = reached actors mover pages blocks w r in
    let c = collecting actors mover pages blocks w page old new number inv e in
    (c.0, outstanding_moves actors (w.pages.newest old number) (w.block old number) (inv.link old number c.0).invariant mover r.inside c.1)

-- ---- the page layer's places

copy_slot : {L : Type 0} → (pages blocks page old new number : ℕ) (line : L) (s : Pages L) → page_guard pages blocks (Copy_send page old new number line) s → Jobs pages blocks s → s.command ≡ NoCommand
copy_slot pages blocks page old new number line s g j = grind arith

clean_slot : {L : Type 0} → (pages blocks frame : ℕ) (s : Pages L) → page_guard pages blocks (Clean_send frame) s → Jobs pages blocks s → s.command ≡ NoCommand
clean_slot pages blocks frame s g j = grind arith

notice_slot : {L : Type 0} → (pages blocks node page frame number : ℕ) (s : Pages L) → page_guard pages blocks (Notice_send node page frame number) s → Notices pages blocks s frame → s.notice frame ≡ NoNotice
notice_slot pages blocks node page frame number s g n = grind arith

drop_slot : {L : Type 0} → (pages blocks frame node : ℕ) (s : Pages L) → page_guard pages blocks (Drop_send_all frame) s → Drops pages blocks s node → s.drop node ≡ NoDrop
drop_slot pages blocks frame node s g d = grind arith

pub pages_send : {L : Type 0} → (actors mover pages blocks : ℕ) (w : World L) → Reached L actors mover pages blocks w → PagesSend L actors mover pages blocks w
pages_send actors mover pages blocks w r =
    let inv = (reached actors mover pages blocks w r).of_pages in record {
      copy = λ page old new number line g. copy_slot pages blocks page old new number line w.pages g inv.jobs;
      clean = λ frame g. clean_slot pages blocks frame w.pages g inv.jobs;
      notice = λ node page frame number g. notice_slot pages blocks node page frame number w.pages g (inv.notices frame);
      drop = λ frame node g. drop_slot pages blocks frame node w.pages g (inv.drops node);
    }

-- ---- what stays

pub cleaning_keeps : {L : Type 0} → CleaningKeepsOthers L
cleaning_keeps {L} actors mover pages blocks w cleaned frame number g ne = by (w.pages.role frame) refl
  where
    by : (u : Role) → w.pages.role frame ≡ u → home_entry_at (apply actors mover (Page (Clean_serve cleaned)) w) frame number ≡ home_entry_at w frame number
    by u e = grind (arith, nat_tests)

pub sharing_stays : {L : Type 0} → SharingStays L
sharing_stays actors mover (Page row) w frame number = refl
sharing_stays {L} actors mover (On page other f k r) w frame number = at (nat_eq frame f) (nat_eq number k) refl refl
  where
    at : (t u : Bool) → nat_eq frame f ≡ t → nat_eq number k ≡ u → (cond t (cond u (block_apply actors r (w.block f k)) (w.block frame number)) (w.block frame number)).sharing ≡ (w.block frame number).sharing
    at true true a c = let x : frame ≡ f = grind (arith, nat_tests) in let y : number ≡ k = grind (arith, nat_tests) in let e = block_sharing actors r (w.block f k) in cc
    at true false a c = refl
    at false u a c = refl
