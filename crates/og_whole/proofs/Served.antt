-- What the mover and the homes meet has its row, and an actor has one thing outstanding at most.
use Rattle.std.proofs.Common.{◌≡◌, ℕ, ◌<◌, Bool, true, false, not, arith, ◌≢◌, ◌⊎◌, inl, inr, refl}
use Rattle.std.proofs.lemmas.Bool.{cases_eq as eq_or}
use Rattle.std.proofs.lemmas.Bool.Decides.{nat_tests}
use Rattle.og_block.specs.State.{Idle, Free, Entry, Revision, Poisoning, NoAsk, PoisonRead, NoResponse, NoBack, WriteBack, Exclusive, BusyPoison, PoisonBy, NoRevision, Block}
use Rattle.og_block.specs.Invariant.{Invariant as BlockInvariant, Backs, Intervened, Local, Home}
use Rattle.og_block.specs.Rows.{Row as BlockRow, guard as block_guard, Copy_in, Send_poison_read, has_intervention}
use Rattle.og_block.specs.Views.{is_asked, is_for, pending}
use Rattle.og_pages.specs.State.{Request, NoRequest, Ask, VictimSlot, State as Pages, Job, Collect, Wait, NoCommand, CopyIn, Outstanding, Collecting, Dead}
use Rattle.og_pages.proofs.Runs.{named_block}
use Rattle.og_pages.specs.Invariant.{Entries, Invariant as PagesInvariant, belongs_to, place, Requests}
use Rattle.og_pages.specs.Rows.{is_dead}
use Rattle.og_slots.proofs.Count.{count_some}
use Rattle.og_whole.specs.Kind.{kind, Kind, Stores, Fills_store, phase_of, is_idle, is_taken}
use Rattle.og_whole.specs.Events.{guard, World, above, On}
use Rattle.og_whole.specs.Link.{Invariant, asks_for, stands_for}
use Rattle.og_whole.specs.Claims.{is_store, StoresLand, PoisonServed}
use Rattle.og_block.specs.Roles.{is_poisoning, Mover, Plain, Ends_by, Reply}
use Rattle.og_whole.proofs.Above.{MayBeAbove}
use Rattle.og_whole.proofs.Linked.{may}

-- the block that is being collected is the one that the job names
pub collect_of : {L : Type 0} → (pages blocks : ℕ) (s : Pages L) (f k : ℕ) → PagesInvariant L pages blocks s → k < blocks → s.phase f k ≡ Collecting → (page : ℕ) × (w : ℕ) × (s.job ≡ Collect page f w k)
collect_of {L} pages blocks s f k inv lt e = go s.job refl
  where
    go : (j : Job L) → s.job ≡ j → (page : ℕ) × (w : ℕ) × (s.job ≡ Collect page f w k)
    go (Collect page o w b) x = let h = inv.phases f k lt in let a : (o ≡ f) × (b ≡ k) = grind (arith, nat_tests) in (page, w, cc)
    go j x = let h = inv.phases f k lt in absurd (grind (arith, nat_tests))

pub one_collect : {L : Type 0} → (pages blocks : ℕ) (s : Pages L) (f k g j : ℕ) → PagesInvariant L pages blocks s → k < blocks → j < blocks → s.phase f k ≡ Collecting → s.phase g j ≡ Collecting → (f ≡ g) × (k ≡ j)
one_collect pages blocks s f k g j inv lk lj a c = let x = collect_of pages blocks s f k inv lk a in let y = collect_of pages blocks s g j inv lj c in let u = x.2 in let v = y.2 in grind arith

-- while the mover has CopyIn, CleanFrame or an answer to one in flight, it collects nothing
pub command_alone : {L : Type 0} → (pages blocks : ℕ) (s : Pages L) (f k : ℕ) → PagesInvariant L pages blocks s → k < blocks → s.command ≢ NoCommand → s.phase f k ≢ Collecting
command_alone pages blocks s f k inv lt mover e = let x = collect_of pages blocks s f k inv lt e in let u = x.2 in let j = inv.jobs in mover (grind arith)

-- ---- the home

-- a PoisonRead never meets Poison or BusyPoison, and not itself as the owner
pub met_poison_read : {L : Type 0} → (actors : ℕ) (f : L) (mover q : ℕ) (b : Block L) → Local actors f b q → (q ≢ mover → is_poisoning (b.want q) ≡ false) → Ends_by mover b.entry → Reply mover b → b.ask q ≡ PoisonRead → ((o p : ℕ) → b.entry ≢ BusyPoison o p) × ((p : ℕ) → b.entry ≢ PoisonBy p) × (b.entry ≢ Exclusive q)
met_poison_read actors f mover q b h pl en re e =
    let w : (b.want q ≡ Poisoning) × (q ≡ mover) = grind (arith, nat_tests) in
    ((λ o p x. grind (arith, nat_tests)), (λ p x. poisoned p x w.0 w.1), (λ x. grind (arith, nat_tests)))
  where
    poisoned : (p : ℕ) → b.entry ≡ PoisonBy p → b.want q ≡ Poisoning → q ≡ mover → ⊥
    poisoned p x w e' = let wm : b.want mover ≡ Poisoning = cc in let am : b.ask mover ≡ PoisonRead = cc in grind (arith, nat_tests)

-- a WriteBack never meets Poison
pub met_write_back : {L : Type 0} → (actors : ℕ) (f : L) (mover q : ℕ) (l : L) (b : Block L) → Home actors f b → Local actors f b q → Mover mover b → Ends_by mover b.entry → b.back q ≡ WriteBack l → (p : ℕ) → b.entry ≢ PoisonBy p
met_write_back actors f mover q l b home h mv en e p x = grind (arith, nat_tests)

-- ---- one charge, one block

request_for : (r : Request) (f k g j : ℕ) → asks_for r f k ≡ true → asks_for r g j ≡ true → (f ≡ g) × (k ≡ j)
request_for r f k g j a c = grind (arith, nat_tests)

victim_for : (v : VictimSlot) (f k g j : ℕ) → stands_for v f k ≡ true → stands_for v g j ≡ true → (f ≡ g) × (k ≡ j)
victim_for v f k g j a c = grind (arith, nat_tests)

not_is : (x t : Bool) → x ≡ false → x ≡ not t → t ≡ true
not_is x t a e = grind arith

pub mover_collects : {L : Type 0} → (mover : ℕ) (b : Block L) → Mover mover b → is_idle (b.want mover) ≡ false → phase_of mover b ≡ Collecting
mover_collects mover b mv e = grind arith

-- an actor has something outstanding for one block at most
pub one_request : {L : Type 0} → (actors mover pages blocks : ℕ) (w : World L) (q f k g j : ℕ) → Invariant L actors mover pages blocks w → q < actors → k < blocks → j < blocks → is_idle ((w.block f k).want q) ≡ false → is_idle ((w.block g j).want q) ≡ false → (f ≡ g) × (k ≡ j)
one_request actors mover pages blocks w q f k g j inv lq lk lj a c = go (eq_or q mover)
  where
    go : (q ≡ mover) ⊎ (q ≢ mover) → (f ≡ g) × (k ≡ j)
    go (inl e) =
        let x = inv.link f k lk in let y = inv.link g j lj in
        let a' : is_idle ((w.block f k).want mover) ≡ false = cc in let c' : is_idle ((w.block g j).want mover) ≡ false = cc in
        let u : w.pages.phase f k ≡ Collecting = let h = mover_collects mover (w.block f k) x.parts.mover a' in let i = x.phase_is in cc in
        let v : w.pages.phase g j ≡ Collecting = let h = mover_collects mover (w.block g j) y.parts.mover c' in let i = y.phase_is in cc in
        one_collect pages blocks w.pages f k g j inv.of_pages lk lj u v
    go (inr ne) =
        let x = (inv.link f k lk).want_is q lq ne in let y = (inv.link g j lj).want_is q lq ne in
        request_for (w.pages.request q) f k g j (not_is _ _ a x) (not_is _ _ c y)

pub one_victim : {L : Type 0} → (actors mover pages blocks : ℕ) (w : World L) (q f k g j : ℕ) → Invariant L actors mover pages blocks w → q < actors → q ≢ mover → k < blocks → j < blocks → is_taken ((w.block f k).victim q) ≡ true → is_taken ((w.block g j).victim q) ≡ true → (f ≡ g) × (k ≡ j)
one_victim actors mover pages blocks w q f k g j inv lq ne lk lj a c =
    let x = (inv.link f k lk).slot_is q lq ne in let y = (inv.link g j lj).slot_is q lq ne in
    victim_for (w.pages.victim q) f k g j (cc) (cc)

-- the keys Ask and Response
pub ask_busy : {L : Type 0} → (actors : ℕ) (f : L) (q : ℕ) (b : Block L) → Local actors f b q → b.ask q ≢ NoAsk → is_idle (b.want q) ≡ false
ask_busy actors f q b h e = grind arith

pub response_busy : {L : Type 0} → (actors : ℕ) (f : L) (q : ℕ) (b : Block L) → Local actors f b q → b.response q ≢ NoResponse → is_idle (b.want q) ≡ false
response_busy actors f q b h e = grind arith

-- the keys Back and Left
pub back_taken : {L : Type 0} → (actors : ℕ) (f : L) (q : ℕ) (b : Block L) → Local actors f b q → b.back q ≢ NoBack → is_taken (b.victim q) ≡ true
back_taken actors f q b h e = grind arith

-- the key Invalidation, from its requester r and the node q
pub invalidation_busy : {L : Type 0} → (actors : ℕ) (f : L) (q r : ℕ) (b : Block L) → BlockInvariant actors f b → q < actors → r < actors → is_for r (b.invalidation q) ≡ true → is_idle (b.want r) ≡ false
invalidation_busy actors f q r b inv lq lr e =
    let some : 0 < pending actors b r = count_some actors (λ k. is_for r (b.invalidation k)) q lq e in
    busy (inv.each r lr) some
  where
    busy : Local actors f b r → 0 < pending actors b r → is_idle (b.want r) ≡ false
    busy h s = grind arith

asked_by : {L : Type 0} → (q : ℕ) (b : Block L) → Backs b q → Intervened b q → has_intervention (b.intervention q) ≡ true → is_taken (b.victim q) ≡ false → is_asked b.entry b.revision q ≡ true
asked_by q b k i a u = grind (arith, nat_tests)

-- the key Busy of a block: interventions that meet no taken slot, and revisions
pub asked_for : {L : Type 0} → (actors : ℕ) (f : L) (q : ℕ) (b : Block L) → Local actors f b q → has_intervention (b.intervention q) ≡ true → is_taken (b.victim q) ≡ false → is_asked b.entry b.revision q ≡ true
asked_for actors f q b h a u = by h.backs h.intervened
  where
    by : Backs b q → Intervened b q → is_asked b.entry b.revision q ≡ true
    by k i = asked_by q b k i a u

asked_one : {L : Type 0} → (e : Entry) (v : Revision L) (q r : ℕ) → is_asked e v q ≡ true → is_asked e v r ≡ true → q ≡ r
asked_one e v q r a c = grind (arith, nat_tests)

asked_alone : {L : Type 0} → (e : Entry) (v : Revision L) (q : ℕ) → is_asked e v q ≡ true → v ≡ NoRevision
asked_alone e v q a = grind (arith, nat_tests)

pub busy_one : {L : Type 0} → (actors : ℕ) (f : L) (q r : ℕ) (b : Block L) → Local actors f b q → Local actors f b r → has_intervention (b.intervention q) ≡ true → has_intervention (b.intervention r) ≡ true → is_taken (b.victim q) ≡ false → is_taken (b.victim r) ≡ false → q ≡ r
busy_one actors f q r b h i a c u v = asked_one b.entry b.revision q r (asked_for actors f q b h a u) (asked_for actors f r b i c v)

pub busy_alone : {L : Type 0} → (actors : ℕ) (f : L) (q : ℕ) (b : Block L) → Local actors f b q → has_intervention (b.intervention q) ≡ true → is_taken (b.victim q) ≡ false → b.revision ≡ NoRevision
busy_alone actors f q b h a u = asked_alone b.entry b.revision q (asked_for actors f q b h a u)

-- ---- rows that the page layer may count on

request_is : (r : Request) (f k : ℕ) → asks_for r f k ≡ true → (y : ℕ) × (r ≡ Outstanding y f k)
request_is NoRequest f k e = absurd (cc)
request_is (Outstanding y g j) f k e = let a : (g ≡ f) × (j ≡ k) = grind (arith, nat_tests) in let u : g ≡ f = a.0 in let v : j ≡ k = a.1 in (y, cc)

-- whoever has a message of its request for the block in flight has that request, for some page
pub request_of : {L : Type 0} → (actors mover pages blocks : ℕ) (w : World L) (q f k : ℕ) → Invariant L actors mover pages blocks w → q < actors → q ≢ mover → k < blocks → is_idle ((w.block f k).want q) ≡ false → (y : ℕ) × (w.pages.request q ≡ Outstanding y f k)
request_of actors mover pages blocks w q f k inv lq ne lt e = request_is (w.pages.request q) f k (not_is _ _ e ((inv.link f k lt).want_is q lq ne))

live_idle : {L : Type 0} → (mover : ℕ) (b : Block L) → Mover mover b → phase_of mover b ≢ Collecting → b.want mover ≡ Idle
live_idle mover b mv e = grind arith

-- the mover's PoisonRead may be sent
pub ask_ready : {L : Type 0} → (actors mover pages blocks : ℕ) (w : World L) (page f o k : ℕ) → Invariant L actors mover pages blocks w → k < blocks → w.pages.job ≡ Ask page f o k → block_guard (Send_poison_read mover) (w.block f k)
ask_ready actors mover pages blocks w page f o k inv lt e =
    let l = inv.link f k lt in let j = inv.of_pages.jobs in let h = inv.of_pages.phases f k lt in let x = l.phase_is in let mv = l.parts.mover in
    let c : phase_of mover (w.block f k) ≢ Collecting = grind (arith, nat_tests) in
    (live_idle mover (w.block f k) mv c, mv.0, mv.1)

-- CopyIn meets a block that may be filled
pub copy_ready : {L : Type 0} → (actors mover pages blocks : ℕ) (w : World L) (page o f k : ℕ) (v : L) → Invariant L actors mover pages blocks w → mover < actors → k < blocks → w.pages.job ≡ Wait page o f k → w.pages.command ≡ CopyIn v → block_guard (Copy_in mover v) (w.block f k)
copy_ready {L} actors mover pages blocks w page o f k v inv lm lt e c =
    let l = inv.link f k lt in let j = inv.of_pages.jobs in let h = inv.of_pages.phases f k lt in let x = l.phase_is in let mv = l.parts.mover in
    let d : phase_of mover (w.block f k) ≡ Dead = grind (arith, nat_tests) in
    let i : (w.block f k).want mover ≡ Idle = live_idle mover (w.block f k) mv (grind arith) in
    let nb : (w.block f k).back mover ≡ NoBack = free_back (w.block f k) mover mv.1 (l.invariant.each mover lm).backs in
    (dead_entry mover (w.block f k) d l.parts.ends, i, mv.0, nb)
  where
    free_back : (b : Block L) (q : ℕ) → b.victim q ≡ Free → Backs b q → b.back q ≡ NoBack
    free_back b q v h = grind arith

    dead_entry : (mover : ℕ) (b : Block L) → phase_of mover b ≡ Dead → Ends_by mover b.entry → b.entry ≡ PoisonBy mover
    dead_entry mover b e en = grind arith

-- ---- stores

store_at : {L : Type 0} → (pages blocks mover page o f k : ℕ) (d : Kind L) (s : Pages L) → is_store d ≡ true → MayBeAbove pages blocks (above mover page o f k d) s → PagesInvariant L pages blocks s → (is_dead (s.phase f k) ≡ false) × (page < pages) × (place s.job (s.page_table page) page k ≡ f)
store_at pages blocks mover page o f k (Stores p v) s e g inv =
    let c = inv.copies f k p g.1 in let t : Entries pages blocks s p page = inv.entries p page in
    let h = named_block pages blocks s f k page inv c.2 (grind arith) c.1 in (c.1, h.1, h.2)
store_at pages blocks mover page o f k (Fills_store p v) s e g inv =
    let t : Requests pages blocks s p = inv.requests p in let actors : (belongs_to (s.role f) page ≡ true) × (k < blocks) = grind arith in
    let h = named_block pages blocks s f k page inv actors.1 actors.0 g.1 in (g.1, h.1, h.2)
store_at pages blocks mover page o f k d s e g inv = absurd (cc)

-- a store never meets a poisoned block, and it is made where the page's block lives
pub store_lands : {L : Type 0} → (actors mover pages blocks : ℕ) (w : World L) (page o f k : ℕ) (r : BlockRow L) → mover < actors → guard actors mover pages blocks (On page o f k r) w → Invariant L actors mover pages blocks w → is_store (kind r) ≡ true →
    (is_dead (w.pages.phase f k) ≡ false) × (page < pages) × (place w.pages.job (w.pages.page_table page) page k ≡ f)
store_lands actors mover pages blocks w page o f k r lm g inv e = store_at pages blocks mover page o f k (kind r) w.pages e (may actors mover pages blocks page o f k w.pages (w.block f k) r g.0 g.1 lm g.2 g.3 inv.of_pages (inv.link f k g.2)) inv.of_pages

pub stores_land : {L : Type 0} → (actors mover pages blocks : ℕ) (w : World L) → mover < actors → Invariant L actors mover pages blocks w → StoresLand L actors mover pages blocks w
stores_land actors mover pages blocks w inside inv page o f k r g e = store_lands actors mover pages blocks w page o f k r inside g inv e

-- ---- what is poisoned

poison_reader : {L : Type 0} → (actors : ℕ) (newest : L) (mover q : ℕ) (b : Block L) → Local actors newest b q → Plain mover b q → b.ask q ≡ PoisonRead → q ≡ mover
poison_reader actors newest mover q b h never e = let want : is_poisoning (b.want q) ≡ true = grind arith in grind (arith, nat_tests)

pub poison_served : {L : Type 0} → (actors mover pages blocks : ℕ) (w : World L) → mover < actors → Invariant L actors mover pages blocks w → PoisonServed L actors mover pages blocks w
poison_served actors mover pages blocks w inside inv = record {
  ask = λ page f o k lt e. ask_ready actors mover pages blocks w page f o k inv lt e;
  poison_read = λ f k q lt lq e.
      let l = inv.link f k lt in
      let m = met_poison_read actors (w.pages.newest f k) mover q (w.block f k) (l.invariant.each q lq) (l.parts.plain q lq) l.parts.ends l.parts.reply e in
      (poison_reader actors (w.pages.newest f k) mover q (w.block f k) (l.invariant.each q lq) (l.parts.plain q lq) e, m.0, m.1, m.2);
  write_back = λ f k q line lt lq e.
      let l = inv.link f k lt in
      met_write_back actors (w.pages.newest f k) mover q line (w.block f k) l.invariant.home (l.invariant.each q lq) l.parts.mover l.parts.ends e;
  copy_in = λ page o f k line lt e c. copy_ready actors mover pages blocks w page o f k line inv inside lt e c;
  request = λ f k q lt lq ne e. request_of actors mover pages blocks w q f k inv lq ne lt e;
}
