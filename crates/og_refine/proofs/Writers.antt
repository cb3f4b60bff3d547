-- No block has two writable copies, and each copy is of a block that some page has in its place.
use Rattle.std.proofs.Common.{◌≡◌, ◌≢◌, ◌∙◌, ℕ, zero, suc, ◌+◌, ◌<◌, Bool, true, false, cond, nat_eq, nat_lt, arith, refl, sym, ap, subst, Option, None, Some, option_map, List, [], ◌∷◌, length, slice_get, get_or, ◌⊎◌, inl, inr}
use Rattle.std.specs.Prelude.{IsSome, if◌then◌else◌}
use Rattle.std.specs.List.{position}
use Rattle.std.proofs.lemmas.Bool.{cases_lt}
use Rattle.std.proofs.lemmas.Bool.Decides.{nat_tests}
use Rattle.std.proofs.lemmas.Option.{slice_get_within, slice_get-get_or, get_or_from_slice_get}
use Rattle.og_base.specs.declared.Block.{Block}
use Rattle.og_base.specs.declared.Frame.{Frame}
use Rattle.og_base.specs.declared.VPage.{VPage}
use Rattle.og_base.specs.Names.{is_same_page}
use Rattle.og_base.proofs.SameNames.{same_page}
use Rattle.og_line.specs.declared.Line.{Line}
use Rattle.og_line.specs.declared.Mode.{Mode}
use Rattle.og_line.specs.declared.Mode.TheVariants as mode
use Rattle.og_runs.specs.declared.Seat.{Seat}
use Rattle.og_image.specs.Image.{ImageState}
use Rattle.og_image.proofs.Pages.{number_of}
use Rattle.og_flat.specs.Flat.{Flat}
use Rattle.rv_hart.specs.Hart.{HartState}
use Rattle.og_cache.specs.Cache.{look_of}
use Rattle.og_block.specs.State.{NoCopy}
use Rattle.og_block.specs.Rows.{has_exclusive}
use Rattle.og_pages.specs.Invariant.{place as place_seen}
use Rattle.og_whole.specs.Kind.{has_copy}
use Rattle.og_whole.specs.Events.{World as Theory}
use Rattle.og_pager.specs.PageTable.{frame_in, frame_of}
use Rattle.og_node.specs.Node.{NodeState}
use Rattle.og_mover.specs.declared.Route.{Route}
use Rattle.og_mover.specs.declared.Phase.{Phase}
use Rattle.og_mover.specs.declared.Phase.TheVariants.{Ask, Collect, Hold, Wait, Publish}
use Rattle.og_mover.specs.declared.Clearing.TheVariants.{Tell, Gather, Clean, Cleaning}
use Rattle.og_mover.specs.declared.Job.{Job}
use Rattle.og_mover.specs.declared.Job.TheVariants.{Idle, Move, Reclaim}
use Rattle.og_mover.specs.Table.{MoverState, place_in, place_by, place_of as place_of_mover}
use Rattle.og_mover.specs.Sound.{IsJob}
use Rattle.og_machine.specs.Machine.{ActorState, Node, Mover, Machine, or_else}
use Rattle.og_machine.specs.Held.{first_of, place, place_by as place_by_actor}
use Rattle.og_machine.specs.OneWriter.{OneWriter, mode_at, mode_by, mode_in}
use Rattle.og_relate.specs.Data.{Machine as SeenMachine, Cpu, Mover as SeenMover}
use Rattle.og_relate.specs.Sim.{job_of}
use Rattle.og_relate.specs.Laws.{machine}
use Rattle.og_shown.specs.Shown.{place_of}
use Rattle.og_shown.proofs.Copies.{writers_are_alone, copies_are_in_place}
use Rattle.og_seen.specs.Numbers.{Sizes, is_there, frame_number, page_number, setup_seen}
use Rattle.og_seen.specs.Harts.{Hart, harts_seen}
use Rattle.og_seen.specs.Caches.{copy_in}
use Rattle.og_seen.specs.Processors.{cpu_seen}
use Rattle.og_seen.specs.Movers.{job_seen}
use Rattle.og_seen.specs.Sound.{AreSizes, IsBlock, IsPlaced, IsProcessorOf, IsHomeOf, IsMoverOf}
use Rattle.og_seen.proofs.Caches.{own_seen}
use Rattle.og_seen.proofs.Pages.{number_is, is_numbered}
use Rattle.og_refine_mover.proofs.Tables.{table_of, is_there_in, same_frame}
use Rattle.og_refine_mover.proofs.Routes.{route_of}
use Rattle.og_refine.specs.Machines.{cpu_of, cpu_in, cpus, homes, mover_at, posts, IsMoverAt, AreActors}
use Rattle.og_refine.proofs.Steps.{Follows, mover_is}

-- all of a machine, seen as one of functions
abbrev pub seen : Sizes → Machine → SeenMachine Line Hart
seen s w = machine (cpus s w) (homes s w) (mover_at s w) (posts s w)

pub same_some : {A : Type 0} {x y : A} → Some x ≡ Some y → x ≡ y
same_some e = cc

pub none_some : {A : Type 0} {x : A} → None ≡ Some x → ⊥
none_some e = cc

-- what is seen of a node
pub cpu_is : (s : Sizes) (w : Machine) (q : ℕ) (seat : Seat ActorState) (x : NodeState) → slice_get w.seats q ≡ Some seat → seat.local ≡ Node x → cpus s w q ≡ cpu_seen s x.processor
cpu_is s w q seat x there is = ap (cpu_in s) there ∙ ap (cpu_of s) is

-- ---- the first of a list that has something

none_both : {Y : Type 0} → (a b : Option Y) → or_else a b ≡ None → (a ≡ None) × (b ≡ None)
none_both None b e = (refl, e)
none_both (Some y) b e = absurd (cc)

-- where none has anything, each has nothing
pub first_none : {X Y : Type 0} → (f : X → Option Y) (xs : List X) (q : ℕ) (x : X) → first_of f xs ≡ None → slice_get xs q ≡ Some x → f x ≡ None
first_none f [] q x none e = absurd (cc)
first_none {X} {Y} f (z ∷ zs) zero x none e = let same : z ≡ x = cc in subst (λ (u : X). f u ≡ None) same (none_both (f z) (first_of f zs) none).0
first_none f (z ∷ zs) (suc q) x none e = first_none f zs q x (none_both (f z) (first_of f zs) none).1 e

-- what it has, one of the list has
pub first_some : {X Y : Type 0} → (f : X → Option Y) (xs : List X) (y : Y) → first_of f xs ≡ Some y → (q : ℕ) × (x : X) × (slice_get xs q ≡ Some x) × (f x ≡ Some y)
first_some f [] y e = absurd (cc)
first_some {X} {Y} f (z ∷ zs) y e = by (f z) refl e (first_some f zs y)
  where
    by : (o : Option Y) → f z ≡ o → or_else o (first_of f zs) ≡ Some y → (first_of f zs ≡ Some y → (q : ℕ) × (x : X) × (slice_get zs q ≡ Some x) × (f x ≡ Some y)) → (q : ℕ) × (x : X) × (slice_get (z ∷ zs) q ≡ Some x) × (f x ≡ Some y)
    by (Some u) is e rest = (zero, z, refl, is ∙ e)
    by None is e rest = let r = rest e in (suc r.0, r.1, r.2, r.3)

-- where one has something, and whatever one has is this, it is this
pub first_is : {X Y : Type 0} → (f : X → Option Y) (xs : List X) (n : ℕ) (x : X) (y : Y) → slice_get xs n ≡ Some x → f x ≢ None → ((q : ℕ) (z : X) (u : Y) → slice_get xs q ≡ Some z → f z ≡ Some u → u ≡ y) → first_of f xs ≡ Some y
first_is {X} {Y} f xs n x y there some all = by (first_of f xs) refl
  where
    by : (o : Option Y) → first_of f xs ≡ o → o ≡ Some y
    by None e = absurd (some (first_none f xs n x e there))
    by (Some u) e = let r = first_some f xs u e in ap Some (all r.0 r.1 u r.2 r.3)

-- ---- who sits in a seat

-- the actor is node q
abbrev pub IsNode : ImageState → Sizes → ℕ → ActorState → Type 0
IsNode image s q actor = (x : NodeState) × (q < s.nodes) × (actor ≡ Node x) × IsProcessorOf image s x.processor × IsHomeOf s q x.home

-- or the mover
abbrev pub IsTheMover : Sizes → ℕ → ActorState → Type 0
IsTheMover s q actor = (m : MoverState) × (q ≡ s.nodes) × (actor ≡ Mover m) × IsMoverOf s m

same_local : (a b : Seat ActorState) (o : Option (Seat ActorState)) → o ≡ Some a → o ≡ Some b → a.local ≡ b.local
same_local a b o e f = let same : a ≡ b = same_some (sym e ∙ f) in ap (λ (x : Seat ActorState). x.local) same

pub who_sits : (image : ImageState) (s : Sizes) (w : Machine) (q : ℕ) (seat : Seat ActorState) → AreActors image s w → slice_get w.seats q ≡ Some seat → IsNode image s q seat.local ⊎ IsTheMover s q seat.local
who_sits image s w q seat actors there = elim (cases_lt q s.nodes) [
  | inl below ↦ (let n = actors.nodes q below in inl (n.0, below, same_local seat n.1.0 (slice_get w.seats q) there n.1.1 ∙ n.1.2, n.1.3, n.1.4))
  | inr above ↦ (let m = actors.mover in let inside : q < length w.seats = slice_get_within w.seats q seat there in let count : length w.seats ≡ s.nodes + 1 = actors.count in let last : q ≡ s.nodes = omega arith in
      inr (m.0, last, same_local seat m.1.0 (slice_get w.seats q) there (subst (λ (n : ℕ). slice_get w.seats n ≡ Some m.1.0) (sym last) m.1.1) ∙ m.1.2, m.1.3))
]

-- ---- where a block of a page is

-- two tests that pass together are one
pub same_tests : (a b : Bool) → (a ≡ true → b ≡ true) → (b ≡ true → a ≡ true) → a ≡ b
same_tests true b f g = sym (f refl)
same_tests false true f g = g refl
same_tests false false f g = refl

module _ (s : Sizes) (y page k : ℕ) (sizes : AreSizes s) (at : slice_get s.pages y ≡ Some page) where
  abbrev the_page : VPage
  the_page = record { 0 = page }

  -- the page has this number
  numbered : position (nat_eq page) s.pages ≡ Some y
  numbered = number_of s.pages page y sizes.rising (slice_get_within s.pages y page at) (get_or_from_slice_get s.pages y page 0 at)

  -- and no other page has it
  page_test : (other : VPage) → is_same_page other the_page ≡ nat_eq (page_number s other) y
  page_test other = same_tests (is_same_page other the_page) (nat_eq (page_number s other) y)
      (λ t. let same : other ≡ the_page = same_page other the_page t in let n : page_number s other ≡ y = ap (page_number s) same ∙ number_is s the_page y numbered in grind (arith, nat_tests))
      (λ t. let n : page_number s other ≡ y = grind (arith, nat_tests) in
      let below : y < length s.pages = slice_get_within s.pages y page at in
      let placed : IsPlaced s other = subst (λ (i : ℕ). i < length s.pages) (sym n) below in
      let is : slice_get s.pages y ≡ Some other.0 = subst (λ (i : ℕ). slice_get s.pages i ≡ Some other.0) n (is_numbered s other placed) in
      let same : page ≡ other.0 = same_some (sym at ∙ is) in
      grind (arith, nat_tests))

  -- the frame is there, and has this number
  abbrev IsAt : Frame → ℕ → Type 0
  IsAt frame n = (is_there s frame ≡ true) × (frame_number s frame ≡ n)

  either : (t : Bool) (a b : Frame) (n m : ℕ) → IsAt a n → IsAt b m → IsAt (if t then a else b) (cond t n m)
  either true a b n m x z = x
  either false a b n m x z = z

  moved : (t u : Bool) (a b : Frame) (n m : ℕ) → u ≡ t → IsAt a n → IsAt b m → IsAt (if t then a else b) (cond u n m)
  moved t u a b n m e here there = subst (λ (z : Bool). IsAt (if t then a else b) (cond z n m)) (sym e) (either t a b n m here there)

  -- a block of a page that moves is in the old frame or the new one
  in_move : (route : Route) (b : ℕ) → is_there s route.old ≡ true → is_there s route.new ≡ true → IsAt (if nat_lt k b then route.new else route.old) (cond (nat_lt k b) (frame_number s route.new) (frame_number s route.old))
  in_move route b old new = either (nat_lt k b) route.new route.old (frame_number s route.new) (frame_number s route.old) (new, refl) (old, refl)

  phase_place : (route : Route) (phase : Phase) (t : Bool) (frame : Frame) (n : ℕ) → is_there s route.old ≡ true → is_there s route.new ≡ true → nat_eq (page_number s route.page) y ≡ t → IsAt frame n →
      IsAt (if t then place_in phase route k else frame) (place_seen (job_of (job_seen s (Move route phase))) n y k)
  phase_place route (Ask b) t frame n old new e here = moved t (nat_eq (page_number s route.page) y) (place_in (Ask b) route k) frame (cond (nat_lt k b) (frame_number s route.new) (frame_number s route.old)) n e (in_move route b old new) here
  phase_place route (Collect b received) t frame n old new e here = moved t (nat_eq (page_number s route.page) y) (place_in (Ask b) route k) frame (cond (nat_lt k b) (frame_number s route.new) (frame_number s route.old)) n e (in_move route b old new) here
  phase_place route (Hold b line) t frame n old new e here = moved t (nat_eq (page_number s route.page) y) (place_in (Ask b) route k) frame (cond (nat_lt k b) (frame_number s route.new) (frame_number s route.old)) n e (in_move route b old new) here
  phase_place route (Wait b) t frame n old new e here = moved t (nat_eq (page_number s route.page) y) (place_in (Ask b) route k) frame (cond (nat_lt k b) (frame_number s route.new) (frame_number s route.old)) n e (in_move route b old new) here
  phase_place route Publish t frame n old new e here = moved t (nat_eq (page_number s route.page) y) route.new frame (frame_number s route.new) n e (new, refl) here

  -- where a job has a block, seen with numbers
  job_place : (m : MoverState) → IsMoverOf s m → (job : Job) → IsJob m.pages m.settings job → (frame : Frame) (n : ℕ) → IsAt frame n → IsAt (place_by job the_page k frame) (place_seen (job_of (job_seen s job)) n y k)
  job_place m is Idle job frame n here = here
  job_place m is (Reclaim f Tell) job frame n here = here
  job_place m is (Reclaim f Gather) job frame n here = here
  job_place m is (Reclaim f Clean) job frame n here = here
  job_place m is (Reclaim f Cleaning) job frame n here = here
  job_place m is (Move route phase) job frame n here =
      let r = route_of s m.pages (table_of s m is) m.settings route job.0 in
      phase_place route phase (is_same_page route.page the_page) frame n r.old_there r.new_there (sym (page_test route.page)) here

  -- the mover knows the block's frame
  pub mover_place : (m : MoverState) → IsMoverOf s m → (f : Frame) × (place_of_mover m (record { 0 = page }) k ≡ Some f) × (is_there s f ≡ true) × (frame_number s f ≡ place_seen (job_of (job_seen s m.job)) (frame_number s (frame_in m.pages y)) y k)
  unfolding place_of_mover frame_of
  mover_place m is =
      let table = table_of s m is in
      let inside : y < length m.pages.pages = subst (λ (l : List ℕ). y < length l) (sym is.pages) (slice_get_within s.pages y page at) in
      let here : is_there s (frame_in m.pages y) ≡ true = is_there_in s m.pages table (frame_in m.pages y) (is.sound.pages.roled.framed y inside).0 in
      let known : position (nat_eq page) m.pages.pages ≡ Some y = ap (position (nat_eq page)) is.pages ∙ numbered in
      let j = job_place m is m.job is.sound.job (frame_in m.pages y) (frame_number s (frame_in m.pages y)) (here, refl) in
      (place_by m.job the_page k (frame_in m.pages y), ap (λ (o : Option ℕ). option_map (place_by m.job the_page k) (option_map (frame_in m.pages) o)) known, j.0, j.1)

-- the frame that an actor knows of a block of a page
abbrev known_at : (page k : ℕ) → Seat ActorState → Option Frame
known_at page k x = place_by_actor (record { 0 = page }) k x.local

-- ---- copies

-- node p has a copy of the block
pub record HasCopy (s : Sizes) (w : Machine) (p : ℕ) (block : Block) (m : Mode) : Type 0 where
  pub node : p < s.nodes
  pub line : Line
  pub there : IsBlock s block
  pub seen : (cpus s w p).cache (frame_number s block.frame) block.number ≡ copy_in m line

any_copy : (m : Mode) (line : Line) → has_copy (copy_in m line) ≡ true
any_copy mode.Shared line = refl
any_copy mode.Clean line = refl
any_copy mode.Dirty line = refl

no_copy : (m : Mode) (line : Line) → copy_in m line ≡ NoCopy → ⊥
no_copy mode.Shared line e = cc
no_copy mode.Clean line e = cc
no_copy mode.Dirty line e = cc

module _ (image : ImageState) (s : Sizes) (w : Machine) (harts : ℕ → HartState) (flat : Flat) (v : Theory Line) (sizes : AreSizes s) (f : Follows image s w harts flat v) where
  -- a block of a placed page has its frame, which is there, and its number is the one seen
  pub placed : (y page k : ℕ) → slice_get s.pages y ≡ Some page → (frame : Frame) × (place w (record { 0 = page }) k ≡ Some frame) × (is_there s frame ≡ true) × (frame_number s frame ≡ place_of (seen s w) y k)
  unfolding place
  placed y page k at = (p.0, first_is (known_at page k) w.seats s.nodes m.1.0 p.0 m.1.1 (λ none. none_some (sym none ∙ own)) all, p.2, number)
    where
      m : (m : MoverState) × IsMoverAt s w m
      m = f.actors.mover

      p : (frame : Frame) × (place_of_mover m.0 (record { 0 = page }) k ≡ Some frame) × (is_there s frame ≡ true) × (frame_number s frame ≡ place_seen (job_of (job_seen s m.0.job)) (frame_number s (frame_in m.0.pages y)) y k)
      p = mover_place s y page k sizes at m.0 m.1.3

      own : known_at page k m.1.0 ≡ Some p.0
      own = ap (place_by_actor (record { 0 = page }) k) m.1.2 ∙ p.1

      all : (q : ℕ) (z : Seat ActorState) (u : Frame) → slice_get w.seats q ≡ Some z → known_at page k z ≡ Some u → u ≡ p.0
      all q z u e g = elim (who_sits image s w q z f.actors e) [
        | inl n ↦ absurd (none_some (ap (place_by_actor (record { 0 = page }) k) (sym n.2) ∙ g))
        | inr n ↦ (let one : m.1.0.local ≡ z.local = same_local m.1.0 z (slice_get w.seats s.nodes) m.1.1 (subst (λ (i : ℕ). slice_get w.seats i ≡ Some z) n.1 e) in
            same_some (sym g ∙ (ap (place_by_actor (record { 0 = page }) k) (sym one) ∙ own)))
      ]

      number : frame_number s p.0 ≡ place_of (seen s w) y k
      number = p.3 ∙ ap (λ (o : SeenMover Line). place_seen (job_of o.job) (o.page_table y) y k) (sym (mover_is s w m.1.0 m.0 m.1.1 m.1.2))

  -- who has a copy is a node, and the copy is seen
  pub copy_at : (p : ℕ) (block : Block) (m : Mode) → mode_in w p block ≡ Some m → HasCopy s w p block m
  copy_at p block m e = by (slice_get w.seats p) refl e
    where
      by : (o : Option (Seat ActorState)) → slice_get w.seats p ≡ o → mode_by o block ≡ Some m → HasCopy s w p block m
      by None there e = absurd (none_some e)
      by (Some seat) there e = elim (who_sits image s w p seat f.actors there) [
        | inl n ↦ of n.0 n.1 n.2 n.3 (look_of n.0.processor.cache block) refl (ap (λ (x : ActorState). mode_at x block) (sym n.2) ∙ e)
        | inr n ↦ absurd (none_some (ap (λ (x : ActorState). mode_at x block) (sym n.2) ∙ e))
      ]
        where
          of : (x : NodeState) → p < s.nodes → seat.local ≡ Node x → IsProcessorOf image s x.processor → (look : Option (Mode × Line)) → look_of x.processor.cache block ≡ look → option_map (λ copy. copy.0) look ≡ Some m → HasCopy s w p block m
          of x node is processor None l e = absurd (none_some e)
          of x node is processor (Some copy) l e =
              let has : look_of x.processor.cache block ≡ Some (m, copy.1) = l ∙ ap (λ (z : Mode). Some (z, copy.1)) (same_some e) in
              let known : IsBlock s block = processor.cached block (λ none. none_some (sym none ∙ l)) in
              record {
                node = node;
                line = copy.1;
                there = known;
                seen = ap (λ (c : Cpu Line Hart). c.cache (frame_number s block.frame) block.number) (cpu_is s w p seat x there is) ∙ own_seen s x.processor.cache block m copy.1 known.0 has;
              }

  -- a block that a node has clean or dirty no other has
  alone : (p q : ℕ) (block : Block) (m : Mode) → mode_in w p block ≡ Some m → ((line : Line) → has_exclusive (copy_in m line) ≡ true) → p ≢ q → mode_in w q block ≡ None
  alone p q block m e exclusive ne = by (mode_in w q block) refl
    where
      a : HasCopy s w p block m
      a = copy_at p block m e

      by : (o : Option Mode) → mode_in w q block ≡ o → o ≡ None
      by None g = refl
      by (Some n) g =
          let b = copy_at q block n g in
          let none = writers_are_alone (setup_seen s) (harts_seen image s) (seen s w) v p q (frame_number s block.frame) block.number f.shows a.node b.node ne a.there.1 (ap has_exclusive a.seen ∙ exclusive a.line) in
          absurd (no_copy n b.line (sym b.seen ∙ none))

  -- a page whose frame for a block is seen as the block's has it there
  at_place : (y page : ℕ) (block : Block) → is_there s block.frame ≡ true → slice_get s.pages y ≡ Some page → place_of (seen s w) y block.number ≡ frame_number s block.frame → place w (record { 0 = page }) block.number ≡ Some block.frame
  at_place y page block there at is = by (placed y page block.number at)
    where
      by : (frame : Frame) × (place w (record { 0 = page }) block.number ≡ Some frame) × (is_there s frame ≡ true) × (frame_number s frame ≡ place_of (seen s w) y block.number) → place w (record { 0 = page }) block.number ≡ Some block.frame
      by r = r.1 ∙ ap Some (same_frame s r.0 block.frame r.2 there (r.3 ∙ is))

  -- a block of which a node has a copy is in its place
  in_place : (p : ℕ) (block : Block) → IsSome (mode_in w p block) → (page : VPage) × (place w page block.number ≡ Some block.frame)
  in_place p block some = by (mode_in w p block) refl some
    where
      of : (y : ℕ) → y < length s.pages → is_there s block.frame ≡ true → place_of (seen s w) y block.number ≡ frame_number s block.frame → (page : VPage) × (place w page block.number ≡ Some block.frame)
      of y inside there is = (record { 0 = get_or s.pages y 0 }, at_place y (get_or s.pages y 0) block there (slice_get-get_or s.pages y 0 inside) is)

      by : (o : Option Mode) → mode_in w p block ≡ o → IsSome o → (page : VPage) × (place w page block.number ≡ Some block.frame)
      by None e some = absurd (let never : false ≡ true = some in cc)
      by (Some m) e some =
          let a = copy_at p block m e in
          let c = copies_are_in_place (setup_seen s) (harts_seen image s) (seen s w) v p (frame_number s block.frame) block.number f.shows a.node a.there.1 (ap has_copy a.seen ∙ any_copy m a.line) in
          of c.0 c.1 a.there.0 c.2

  one_writer : OneWriter w
  one_writer = record {
    only_copy = λ p q block e ne. elim e [ inl c ↦ alone p q block mode.Clean c (λ line. refl) ne | inr d ↦ alone p q block mode.Dirty d (λ line. refl) ne ];
    in_place = in_place;
  }

pub writers_alone : (image : ImageState) (s : Sizes) (w : Machine) (harts : ℕ → HartState) (flat : Flat) (v : Theory Line) → AreSizes s → Follows image s w harts flat v → OneWriter w
writers_alone image s w harts flat v sizes f = one_writer image s w harts flat v sizes f
