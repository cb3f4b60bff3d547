-- Where a page's block lives, and that a store there is a store to the page's flat memory.
use Rattle.std.proofs.Common.{◌≡◌, ℕ, ◌<◌, Bool, true, false, nat_eq, arith, ◌≢◌}
use Rattle.std.proofs.lemmas.Bool.Decides.{nat_tests}
use Rattle.og_pages.specs.State.{State, Role, Mapped, Target, put_pair}
use Rattle.og_pages.specs.Rows.{guard, apply, is_dead, Store_hit, Fill_store}
use Rattle.og_pages.specs.Invariant.{Invariant, Roles, Mappings, Jobs, Phases, Entries, Requests, Held, place, belongs_to}

-- the frame is the page's, or the target of its move
abbrev is_for_page : Role → ℕ → Bool
is_for_page (Mapped page) y = nat_eq page y
is_for_page (Target page) y = nat_eq page y
is_for_page role y = false

-- a page's block lives in a frame that is for the page
place_for_page : {L : Type 0} → (pages blocks : ℕ) (s : State L) (page number : ℕ) → Jobs pages blocks s → Mappings pages blocks s page → page < pages → is_for_page (s.role (place s.job (s.page_table page) page number)) page ≡ true
place_for_page pages blocks s page number jobs mapping lt = grind (arith, nat_tests)

-- a block that isn't dead, of a frame that a node names for a page, is where the page's block lives
pub place_of_named : {L : Type 0} → (pages blocks : ℕ) (s : State L) (frame page number : ℕ) → Jobs pages blocks s → Roles pages blocks s frame → Phases pages blocks s frame number → number < blocks → belongs_to (s.role frame) page ≡ true → is_dead (s.phase frame number) ≡ false → ((other : ℕ) → Roles pages blocks s other) → (place s.job (s.page_table page) page number ≡ frame) × (s.role frame ≡ Mapped page)
place_of_named pages blocks s frame page number jobs role phase lt named alive roles = grind (arith, nat_tests)

-- frames for two pages are two
frames_differ : {L : Type 0} → (s : State L) (f g y z : ℕ) → s.role f ≡ Mapped y → is_for_page (s.role g) z ≡ true → y ≢ z → f ≢ g
frames_differ s f g y z a b ne = grind (arith, nat_tests)

-- a store to the block where the page's block lives
held_store : {L : Type 0} → (pages blocks : ℕ) (s : State L) (frame number : ℕ) (line : L) (page z j : ℕ) → Invariant L pages blocks s → number < blocks → belongs_to (s.role frame) page ≡ true → is_dead (s.phase frame number) ≡ false → z < pages → j < blocks →
    put_pair s.newest frame number line (place s.job (s.page_table z) z j) j ≡ put_pair s.memory page number line z j
held_store {L} pages blocks s frame number line page z j inv lt named alive lz lj =
    let here : (place s.job (s.page_table page) page number ≡ frame) × (s.role frame ≡ Mapped page) = place_of_named pages blocks s frame page number inv.jobs (inv.roles frame) (inv.phases frame number) lt named alive inv.roles in
    let there : is_for_page (s.role (place s.job (s.page_table z) z j)) z ≡ true = place_for_page pages blocks s z j inv.jobs (inv.mappings z) lz in
    go (place s.job (s.page_table z) z j) here.1 there (inv.held z j lz lj) (λ e k. cc)
  where
    go : (g : ℕ) → s.role frame ≡ Mapped page → is_for_page (s.role g) z ≡ true → s.newest g j ≡ s.memory z j → (page ≡ z → number ≡ j → g ≡ frame) → put_pair s.newest frame number line g j ≡ put_pair s.memory page number line z j
    go g a b c e = let ne : page ≢ z → frame ≢ g = frames_differ s frame g page z a b in grind (arith, nat_tests)

pub held_Store_hit : {L : Type 0} → (pages blocks : ℕ) (s : State L) (node page frame number : ℕ) (line : L) → guard pages blocks (Store_hit node page frame number line) s → Invariant L pages blocks s → (y j : ℕ) → Held pages blocks (apply (Store_hit node page frame number line) s) y j
held_Store_hit pages blocks s node page frame number line g inv y j ly lj =
    let copy = inv.copies frame number node g.1 in
    let entry : Entries pages blocks s node page = inv.entries node page in
    let named : belongs_to (s.role frame) page ≡ true = grind arith in
    held_store pages blocks s frame number line page y j inv copy.2 named copy.1 ly lj

pub held_Fill_store : {L : Type 0} → (pages blocks : ℕ) (s : State L) (node page frame number : ℕ) (line : L) → guard pages blocks (Fill_store node page frame number line) s → Invariant L pages blocks s → (y j : ℕ) → Held pages blocks (apply (Fill_store node page frame number line) s) y j
held_Fill_store pages blocks s node page frame number line g inv y j ly lj =
    let request : Requests pages blocks s node = inv.requests node in
    let named : (belongs_to (s.role frame) page ≡ true) × (number < blocks) = grind arith in
    held_store pages blocks s frame number line page y j inv named.1 named.0 g.1 ly lj
