-- Each access answers the flat memory of pages, and only stores change it.
use Rattle.std.proofs.Common.{◌≡◌, ℕ, ◌<◌, Bool, true, false, cond, nat_eq, refl, subst}
use Rattle.og_block.specs.Access.{Answers as BlockAnswers}
use Rattle.og_block.proofs.Run.{answers as block_answers}
use Rattle.og_pages.specs.Rows.{Fill_store, Poison_refuse, Row as PageRow, apply as page_apply, Load_hit, Store_hit, Fill_load, Request_end}
use Rattle.og_pages.specs.State.{State as Pages}
use Rattle.og_pages.specs.Invariant.{Invariant as PagesInvariant}
use Rattle.og_pages.proofs.Runs.{answers as pages_answer}
use Rattle.og_whole.specs.Kind.{kind, Kind, Loads, Stores, Sends, Fills, Fills_store, Ends, Evicts, Settles, Poisons, Collects, Copies, Inner}
use Rattle.og_whole.specs.Events.{apply, guard, Answers, World, Does, above, after_above, is_of_pages, Event, Page, On, memory_by, memory_after, is_access}
use Rattle.og_whole.specs.Link.{Invariant}
use Rattle.og_whole.proofs.Above.{MayBeAbove}
use Rattle.og_whole.proofs.Linked.{may}

memory_is : {L : Type 0} → (mover page o f k : ℕ) (d : Kind L) (s : Pages L) → (after_above (above mover page o f k d) s).memory ≡ memory_by page k d s.memory
memory_is mover page o f k (Loads p) s = refl
memory_is mover page o f k (Stores p v) s = refl
memory_is mover page o f k (Sends p) s = refl
memory_is mover page o f k (Fills p) s = refl
memory_is mover page o f k (Fills_store p v) s = refl
memory_is mover page o f k (Ends p) s = ends (nat_eq p mover)
  where
    ends : (t : Bool) → (after_above (cond t (Does (Poison_refuse page f o k)) (Does (Request_end p page f k))) s).memory ≡ s.memory
    ends true = refl
    ends false = refl
memory_is mover page o f k (Evicts p) s = refl
memory_is mover page o f k (Settles p) s = refl
memory_is mover page o f k (Poisons p) s = refl
memory_is mover page o f k (Collects p l) s = refl
memory_is mover page o f k (Copies p v) s = refl
memory_is mover page o f k Inner s = refl

kept_memory : {L : Type 0} → (row : PageRow L) (s : Pages L) → is_of_pages row ≡ true → (page_apply row s).memory ≡ s.memory
kept_memory (Store_hit p page f k v) s e = absurd (cc)
kept_memory (Fill_store p page f k v) s e = absurd (cc)
kept_memory row s e = refl

pub memory_follows : {L : Type 0} → (actors mover pages blocks : ℕ) (e : Event L) (w : World L) → guard actors mover pages blocks e w → (apply actors mover e w).pages.memory ≡ memory_after e w.pages.memory
memory_follows actors mover pages blocks (Page row) w g = kept_memory row w.pages g.1
memory_follows actors mover pages blocks (On page o f k row) w g = memory_is mover page o f k (kind row) w.pages

newest_is : {L : Type 0} → (pages blocks mover page o f k : ℕ) (d : Kind L) (s : Pages L) → is_access d ≡ true → MayBeAbove pages blocks (above mover page o f k d) s → PagesInvariant L pages blocks s → s.newest f k ≡ s.memory page k
newest_is pages blocks mover page o f k (Loads p) s e g inv = pages_answer pages blocks s (Load_hit p page f k) g inv
newest_is pages blocks mover page o f k (Stores p v) s e g inv = pages_answer pages blocks s (Store_hit p page f k v) g inv
newest_is pages blocks mover page o f k (Fills p) s e g inv = pages_answer pages blocks s (Fill_load p page f k) g inv
newest_is pages blocks mover page o f k (Fills_store p v) s e g inv = pages_answer pages blocks s (Fill_store p page f k v) g inv
newest_is pages blocks mover page o f k d s e g inv = absurd (cc)

pub answered : {L : Type 0} → (actors mover pages blocks : ℕ) (w : World L) (e : Event L) → mover < actors → guard actors mover pages blocks e w → Invariant L actors mover pages blocks w → Answers w.pages.memory e
answered actors mover pages blocks w (Page row) lm g inv = tt
answered {L} actors mover pages blocks w (On page o f k r) lm g inv = λ e.
    let l = inv.link f k g.2 in
    let x : BlockAnswers (w.pages.newest f k) r = block_answers actors (w.pages.newest f k) (w.block f k) r g.0 l.invariant g.1 in
    subst (λ (v : L). BlockAnswers v r) (newest_is pages blocks mover page o f k (kind r) w.pages e (may actors mover pages blocks page o f k w.pages (w.block f k) r g.0 g.1 lm g.2 g.3 inv.of_pages l) inv.of_pages) x
