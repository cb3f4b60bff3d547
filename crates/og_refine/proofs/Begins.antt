-- The machine at its start shows the theory's start; its harts are those of the flat run, and its memory is the flat one.
use Rattle.std.proofs.Common.{◌≡◌, ◌∙◌, ℕ, ◌+◌, ◌*◌, ◌/◌, ◌%◌, ◌<◌, ◌≤◌, Bool, true, false, ◌&&◌, cond, nat_eq, nat_le, nat_lt, arith, refl, sym, ap, subst, Option, None, Some, List, [], length, map, get_or, replicate, slice_get, ◌⊎◌, inl, inr}
use Rattle.std.specs.Prelude.{if◌then◌else◌}
use Rattle.std.specs.FinSet as set
use Rattle.std.specs.Ordering.{nat_cmp}
use Rattle.std.specs.List.Sorted.{IsStrictlyIncreasing}
use Rattle.std.proofs.Math.Nat.{mod-lt, div-lt_iff_lt-mul}
use Rattle.std.proofs.lemmas.Bool.Decides.{nat_tests}
use Rattle.std.proofs.lemmas.List.{get_or_past, get_or-replicate, length-replicate}
use Rattle.std.proofs.lemmas.Option.{slice_get-get_or, slice_get_past}
use Rattle.og_base.specs.declared.Frame.{Frame}
use Rattle.og_base.specs.declared.Settings.{Settings}
use Rattle.og_base.specs.Numbers.{below}
use Rattle.og_line.specs.declared.Line.{Line}
use Rattle.og_line.specs.Line.{zero_line}
use Rattle.og_runs.specs.declared.Seat.{Seat}
use Rattle.og_runs.proofs.Seats.{length_seats, seats_get_node, seats_get_end, seats_get_none}
use Rattle.og_image.specs.Image.{ImageState}
use Rattle.og_image.specs.Layout.{LayoutState}
use Rattle.og_image.proofs.Pages.{below_length, below_at, pages_rise}
use Rattle.og_processor.specs.State.{new_processor}
use Rattle.og_directory.specs.declared.entry.State.TheVariants.{Unowned}
use Rattle.og_counters.specs.Counts.{no_counts}
use Rattle.og_home.specs.Home.{HomeState}
use Rattle.og_home.specs.Start.{start_home, placed_line, first_line}
use Rattle.og_node.specs.Node.{new_node}
use Rattle.og_pager.specs.declared.Role.{Role}
use Rattle.og_pager.specs.declared.Role.TheVariants.{Free, Mapped, Target, Quarantined}
use Rattle.og_pager.specs.PageTable.{Suits, IsFrame, IsRoled, frame_in, frame_number as table_number, role_of as table_role, first_role, first_table}
use Rattle.og_pager.proofs.Firsts.{mapped_at, mapped_length}
use Rattle.og_mover.specs.Table.{MoverState, first_mover}
use Rattle.og_machine.specs.FlatRun.{flat_begin}
use Rattle.og_machine.specs.Machine.{Setup, ActorState, new_seat, start_node, start_mover, start_machine}
use Rattle.og_block.specs.State.{Single, Grouped, is_same}
use Rattle.og_block.specs.Roles.{OwnBit}
use Rattle.og_whole.specs.Events.{World, start}
use Rattle.og_pages.specs.State.{Role as TheoryRole, Free as FreeFrame, Mapped as MappedPage, Target as TargetPage, Quarantined as LeftFrame}
use Rattle.og_pages.specs.Run.{Laid, Laid_by, start_line}
use Rattle.og_relate.specs.Sim.{role_of}
use Rattle.og_relate.specs.Data.{Cpu, HomeSide, HUnowned, MIdle}
use Rattle.og_relate.proofs.Begins.{begins as start_shows}
use Rattle.og_relate.specs.Begin.{cpu_start, home_start, mover_start}
use Rattle.og_seen.specs.Numbers.{Sizes, frame_count, is_there, frame_number, bit_of, sharing_of, setup_seen}
use Rattle.og_seen.specs.Harts.{Hart, harts_seen}
use Rattle.og_seen.specs.Processors.{cpu_seen, hart_seen}
use Rattle.og_seen.specs.Homes.{home_seen, is_at, entry_seen}
use Rattle.og_seen.specs.Movers.{mover_seen, role_seen}
use Rattle.og_seen.specs.Sound.{AreSizes, IsMoverOf}
use Rattle.og_seen.specs.Events.{Shows}
use Rattle.og_seen.proofs.Numbers.{numbered, number_below}
use Rattle.og_seen.proofs.Caches.{new_seen as cache_new}
use Rattle.og_seen.proofs.Tlbs.{new_seen as tlb_new}
use Rattle.og_refine.specs.Machines.{sizes_of, cpu_in, home_in, mover_in, cpus, homes, mover_at, AreActors, IsRunnable}
use Rattle.og_refine.proofs.Tables.{Tables}
use Rattle.og_refine.proofs.Flat.{SameMemory}
use Rattle.og_refine.proofs.Steps.{Follows, same_shows}

-- ---- the sizes

-- the placed pages rise
rising : (setup : Setup) → IsRunnable setup → IsStrictlyIncreasing setup.layout.pages
rising setup runs = subst (λ (l : LayoutState). IsStrictlyIncreasing l.pages) (sym runs.layout) (pages_rise setup.image)

-- the sizes of a machine that may run are those of a machine
pub sizes_are : (setup : Setup) → IsRunnable setup → AreSizes (sizes_of setup)
sizes_are setup runs = record { some_nodes = runs.some_nodes; few_nodes = runs.few_nodes; some_frames = runs.some_frames; rising = rising setup runs }

-- the pages are dealt out to the nodes that there are
layout_nodes : (setup : Setup) → IsRunnable setup → setup.layout.nodes ≡ setup.settings.nodes
layout_nodes setup runs = ap (λ (l : LayoutState). l.nodes) runs.layout ∙ runs.nodes

-- and there is a frame for each
suits : (setup : Setup) → IsRunnable setup → Suits setup.layout setup.settings.nodes setup.settings.frames
suits setup runs = record { shared = layout_nodes setup runs; rising = rising setup runs; room = runs.room }

-- ---- the seats

-- the q-th of the numbers below n
number_there : (n q : ℕ) → q < n → slice_get (below n) q ≡ Some q
number_there n q lt = let long : length (below n) ≡ n = below_length n in slice_get-get_or (below n) q 0 (omega arith) ∙ ap Some (below_at n q lt)

-- as many as there are actors, and on each its actor
seat_count : (setup : Setup) → length (start_machine setup).seats ≡ setup.settings.nodes + 1
unfolding start_machine
seat_count setup = length_seats (λ (number : ℕ). new_seat (start_node setup number)) (below setup.settings.nodes) (new_seat (start_mover setup)) ∙ ap (λ (n : ℕ). n + 1) (below_length setup.settings.nodes)

node_there : (setup : Setup) (q : ℕ) → q < setup.settings.nodes → slice_get (start_machine setup).seats q ≡ Some (new_seat (start_node setup q))
unfolding start_machine
node_there setup q lt = seats_get_node (λ (number : ℕ). new_seat (start_node setup number)) (below setup.settings.nodes) (new_seat (start_mover setup)) q q (number_there setup.settings.nodes q lt)

mover_there : (setup : Setup) → slice_get (start_machine setup).seats setup.settings.nodes ≡ Some (new_seat (start_mover setup))
unfolding start_machine
mover_there setup = seats_get_end (λ (number : ℕ). new_seat (start_node setup number)) (below setup.settings.nodes) (new_seat (start_mover setup)) setup.settings.nodes (sym (below_length setup.settings.nodes))

none_there : (setup : Setup) (q : ℕ) → setup.settings.nodes < q → slice_get (start_machine setup).seats q ≡ None
unfolding start_machine
none_there setup q lt = seats_get_none (λ (number : ℕ). new_seat (start_node setup number)) (below setup.settings.nodes) (new_seat (start_mover setup)) q (let long : length (below setup.settings.nodes) ≡ setup.settings.nodes = below_length setup.settings.nodes in omega arith)

-- a number is below another one, is that one, or is above it
compare : (q n : ℕ) → (q < n) ⊎ ((q ≡ n) ⊎ (n < q))
compare q n = by (nat_lt q n) refl (nat_eq q n) refl
  where
    by : (a : Bool) → nat_lt q n ≡ a → (b : Bool) → nat_eq q n ≡ b → (q < n) ⊎ ((q ≡ n) ⊎ (n < q))
    by true e b f = inl (grind (arith, nat_tests))
    by false e true f = inr (inl (grind (arith, nat_tests)))
    by false e false f = inr (inr (grind (arith, nat_tests)))

-- what holds of each node, of the mover and of no actor holds of each seat
seat_is : (setup : Setup) (P : Option (Seat ActorState) → Type 0) (q : ℕ) → (q < setup.settings.nodes → P (Some (new_seat (start_node setup q)))) → P (Some (new_seat (start_mover setup))) → P None → P (slice_get (start_machine setup).seats q)
seat_is setup P q node mover none = by (compare q setup.settings.nodes)
  where
    by : (q < setup.settings.nodes) ⊎ ((q ≡ setup.settings.nodes) ⊎ (setup.settings.nodes < q)) → P (slice_get (start_machine setup).seats q)
    by (inl lt) = subst P (sym (node_there setup q lt)) (node lt)
    by (inr (inl e)) = subst (λ (z : ℕ). P (slice_get (start_machine setup).seats z)) (sym e) (subst P (sym (mover_there setup)) mover)
    by (inr (inr lt)) = subst P (sym (none_there setup q lt)) none

-- the mover at the start
abbrev first : Setup → MoverState
first setup = first_mover setup.layout setup.settings

-- the mover has a page table of the machine's sizes
mover_is : (setup : Setup) → Tables → IsRunnable setup → IsMoverOf (sizes_of setup) (first setup)
mover_is setup tables runs = tables.mover_stays.start setup.layout setup.settings (sizes_of setup) (suits setup runs) (layout_nodes setup runs) refl refl

-- nodes, and behind them the mover
actors : (setup : Setup) → Tables → IsRunnable setup → AreActors setup.image (sizes_of setup) (start_machine setup)
actors setup tables runs = record {
  count = seat_count setup;
  nodes = λ q lt. (
    new_node setup.image setup.layout setup.settings q,
    (
      new_seat (start_node setup q),
      node_there setup q lt,
      refl,
      tables.processors_stay.start setup.image setup.settings (sizes_of setup) q runs.loadable runs.nodes (ap (λ (l : LayoutState). l.pages) runs.layout) runs.some_sets runs.some_ways runs.some_entries,
      tables.homes_stay.start setup.image setup.layout setup.settings (sizes_of setup) q refl refl,
    ),
  );
  mover = (first setup, (new_seat (start_mover setup), mover_there setup, refl, mover_is setup tables runs));
}

-- ---- processors

-- nothing but its hart
abbrev IsNewCpu : Cpu Line Hart → Type 0
IsNewCpu c = c ≡ cpu_start c.hart

-- a processor at the start
new_cpu : (s : Sizes) (image : ImageState) (settings : Settings) (q : ℕ) → IsNewCpu (cpu_seen s (new_processor image settings q))
new_cpu s image settings q = λ i. record { hart = hart_seen (new_processor image settings q); cache = λ f k. cache_new s settings.sets settings.ways f k i; tlb = λ y. tlb_new s settings.tlb y i; walk = None; request = None; slot = None; drop = None }

-- all processors have their harts alone
new_cpus : (setup : Setup) → cpus (sizes_of setup) (start_machine setup) ≡ (λ q. cpu_start (cpus (sizes_of setup) (start_machine setup) q).hart)
new_cpus setup = λ i. λ q. same q i
  where
    same : (q : ℕ) → IsNewCpu (cpus (sizes_of setup) (start_machine setup) q)
    same q = seat_is setup (λ (o : Option (Seat ActorState)). IsNewCpu (cpu_in (sizes_of setup) o)) q (λ lt. new_cpu (sizes_of setup) setup.image setup.settings q) refl refl

-- ---- homes

-- nothing but its lines
abbrev IsNewHome : HomeSide Line → Type 0
IsNewHome h = h ≡ home_start h.line

-- a home at the start
new_home : (s : Sizes) (image : ImageState) (layout : LayoutState) (settings : Settings) (q : ℕ) → IsNewHome (home_seen s (start_home image layout settings q))
unfolding start_home
new_home s image layout settings q = λ i. record { entry = λ f k. entry (is_at s home f) i; line = (home_seen s home).line; noticed = λ f. noticed (is_at s home f) i }
  where
    home : HomeState
    home = start_home image layout settings q

    entry : (t : Bool) → cond t (entry_seen s.nodes Unowned) HUnowned ≡ HUnowned
    entry true = refl
    entry false = refl

    noticed : (t : Bool) → cond t no_counts.noticed false ≡ false
    noticed true = refl
    noticed false = refl

-- all homes have their lines alone
new_homes : (setup : Setup) → homes (sizes_of setup) (start_machine setup) ≡ (λ q. home_start (homes (sizes_of setup) (start_machine setup) q).line)
new_homes setup = λ i. λ q. same q i
  where
    same : (q : ℕ) → IsNewHome (homes (sizes_of setup) (start_machine setup) q)
    same q = seat_is setup (λ (o : Option (Seat ActorState)). IsNewHome (home_in (sizes_of setup) o)) q (λ lt. new_home (sizes_of setup) setup.image setup.layout setup.settings q) refl refl

-- ---- the mover

-- it is idle, and knows of no holder
new_mover : (s : Sizes) (layout : LayoutState) (settings : Settings) → mover_seen s (first_mover layout settings) ≡ mover_start (mover_seen s (first_mover layout settings)).page_table (mover_seen s (first_mover layout settings)).role
unfolding first_mover first_table
new_mover s layout settings = λ i. record { job = MIdle; page_table = (mover_seen s (first_mover layout settings)).page_table; holders = λ f q. none f q i; role = (mover_seen s (first_mover layout settings)).role }
  where
    count : ℕ
    count = layout.nodes * settings.frames

    nobody : set.FinSet nat_cmp
    nobody = set.empty

    none : (f q : ℕ) → set.contains (get_or (replicate count nobody) f nobody) q ≡ false
    none f q = by (nat_lt f count) refl
      where
        by : (t : Bool) → nat_lt f count ≡ t → set.contains (get_or (replicate count nobody) f nobody) q ≡ false
        by true e = ap (λ (h : set.FinSet nat_cmp). set.contains h q) (get_or-replicate count f nobody nobody (grind (arith, nat_tests))) ∙ set.contains-empty nat_cmp q
        by false e = ap (λ (h : set.FinSet nat_cmp). set.contains h q) (get_or_past (replicate count nobody) f nobody (rw length-replicate (grind (arith, nat_tests)))) ∙ set.contains-empty nat_cmp q

-- so it is seen on its seat
new_mover_at : (setup : Setup) → mover_at (sizes_of setup) (start_machine setup) ≡ mover_start (mover_seen (sizes_of setup) (first setup)).page_table (mover_seen (sizes_of setup) (first setup)).role
new_mover_at setup = ap (mover_in (sizes_of setup)) (mover_there setup) ∙ new_mover (sizes_of setup) setup.layout setup.settings

-- ---- what frames are for

-- in the words of the theory
abbrev role_there : Role → TheoryRole
role_there Free = FreeFrame
role_there (Mapped y) = MappedPage y
role_there (Target y) = TargetPage y
role_there (Quarantined move) = LeftFrame move

-- both show the same
same_role : (r : Role) → role_of (role_there r) ≡ role_seen r
same_role Free = refl
same_role (Mapped y) = refl
same_role (Target y) = refl
same_role (Quarantined move) = refl

-- of each frame
abbrev roles_there : MoverState → ℕ → TheoryRole
roles_there m f = role_there (get_or m.pages.roles f Free)

-- a frame that the table names has its number there
named : (s : Sizes) (m : MoverState) (frame : Frame) → IsMoverOf s m → IsFrame m.pages frame → (is_there s frame ≡ true) × (frame_number s frame ≡ table_number m.pages frame)
named s m frame is inside = (there, numbered s frame there ∙ ap (λ (n : ℕ). frame.home * n + frame.index) (sym is.frames))
  where
    home : frame.home < s.nodes
    home = subst (λ (n : ℕ). frame.home < n) is.nodes inside.0

    index : frame.index < s.frames
    index = subst (λ (n : ℕ). frame.index < n) is.frames inside.1

    there : is_there s frame ≡ true
    there = grind (arith, nat_tests)

-- where nothing was moved yet each page has a frame of its own, and the other frames are free
laid_by : (s : Sizes) (m : MoverState) → IsMoverOf s m → m.pages.moving ≡ None → m.pages.published ≡ 0 → Laid (length s.pages) (mover_seen s m).page_table (roles_there m)
laid_by s m is still zero_moves = record {
  mappings = λ y lt. (let f = framed y lt in ap (λ (n : ℕ). role_there (get_or m.pages.roles n Free)) (named s m (frame_in m.pages y) is f.0).1 ∙ ap role_there f.1);
  frames = λ f. by f (get_or m.pages.roles f Free) refl;
}
  where
    roled : IsRoled m.pages
    roled = is.sound.pages.roled

    framed : (y : ℕ) → y < length s.pages → IsFrame m.pages (frame_in m.pages y) × (table_role m.pages (frame_in m.pages y) ≡ Mapped y)
    framed y lt = roled.framed y (subst (λ (ys : List ℕ). y < length ys) (sym is.pages) lt)

    by : (f : ℕ) (r : Role) → get_or m.pages.roles f Free ≡ r → Laid_by (length s.pages) (mover_seen s m).page_table f (role_there r)
    by f Free e = tt
    by f (Mapped y) e =
        let at = roled.mapped f y e in
        let lt : y < length s.pages = subst (λ (ys : List ℕ). y < length ys) is.pages at.0 in
        ((named s m (frame_in m.pages y) is (framed y lt).0).1 ∙ at.1, lt)
    by f (Target y) e = absurd (let t = roled.targeted f y e in let a : m.pages.moving ≡ Some t.0 = t.1 in cc)
    by f (Quarantined move) e = absurd (let l = roled.left f move e in omega arith)

-- the frame of a page is there
inside_by : (s : Sizes) (m : MoverState) → IsMoverOf s m → (y : ℕ) → y < length s.pages → (mover_seen s m).page_table y < frame_count s
inside_by s m is y lt = number_below s (frame_in m.pages y) (named s m (frame_in m.pages y) is (is.sound.pages.roled.framed y (subst (λ (ys : List ℕ). y < length ys) (sym is.pages) lt)).0).0

-- each page has a frame of its own at the start
laid : (setup : Setup) → Tables → IsRunnable setup → Laid (length setup.layout.pages) (mover_seen (sizes_of setup) (first setup)).page_table (roles_there (first setup))
unfolding first_mover first_table
laid setup tables runs = laid_by (sizes_of setup) (first setup) (mover_is setup tables runs) refl refl

-- ---- lines

-- of a page, by its number
abbrev line_of_page : Setup → (y k : ℕ) → Line
line_of_page setup y k = cond (nat_lt k 32) (placed_line setup.image k (slice_get setup.layout.pages y)) zero_line

-- the page that a frame has at the start, if there are so many
abbrev page_at : Setup → ℕ → ℕ
page_at setup f = f % setup.settings.frames * setup.layout.nodes + f / setup.settings.frames

-- the line of a block by what its frame is for
by_role : (setup : Setup) (y k : ℕ) → start_line zero_line (line_of_page setup) (role_there (cond (nat_lt y (length setup.layout.pages)) (Mapped y) Free)) k ≡ line_of_page setup y k
by_role setup y k = by (nat_lt y (length setup.layout.pages)) refl
  where
    blank : (t : Bool) → zero_line ≡ cond t zero_line zero_line
    blank true = refl
    blank false = refl

    by : (t : Bool) → nat_lt y (length setup.layout.pages) ≡ t → start_line zero_line (line_of_page setup) (role_there (cond t (Mapped y) Free)) k ≡ line_of_page setup y k
    by true e = refl
    by false e =
        let past : slice_get setup.layout.pages y ≡ None = slice_get_past setup.layout.pages y (grind (arith, nat_tests)) in
        blank (nat_lt k 32) ∙ sym (ap (λ (o : Option ℕ). cond (nat_lt k 32) (placed_line setup.image k o) zero_line) past)

-- of a frame that there is
line_there : (setup : Setup) (f k : ℕ) → 1 ≤ setup.settings.frames → f < setup.settings.nodes * setup.settings.frames → (homes (sizes_of setup) (start_machine setup) (f / setup.settings.frames)).line f k ≡ line_of_page setup (page_at setup f) k
unfolding start_home
line_there setup f k some lt = ap (λ (o : Option (Seat ActorState)). (home_in (sizes_of setup) o).line f k) (node_there setup home below_nodes) ∙ (ap (λ (t : Bool). cond t (if nat_lt index setup.settings.frames && nat_lt k 32 then first_line setup.image setup.layout home index k else zero_line) zero_line) own ∙ ap (λ (t : Bool). if t && nat_lt k 32 then first_line setup.image setup.layout home index k else zero_line) low)
  where
    home : ℕ
    home = f / setup.settings.frames

    index : ℕ
    index = f % setup.settings.frames

    below_nodes : home < setup.settings.nodes
    below_nodes = (div-lt_iff_lt-mul {k = setup.settings.frames} {x = f} {y = setup.settings.nodes} some).1 lt

    own : nat_eq home home ≡ true
    own = grind (arith, nat_tests)

    low : nat_lt index setup.settings.frames ≡ true
    low = let h : index < setup.settings.frames = mod-lt f some in grind (arith, nat_tests)

-- of a frame past the last
line_past : (setup : Setup) (f k : ℕ) → 1 ≤ setup.settings.frames → setup.settings.nodes * setup.settings.frames ≤ f → (homes (sizes_of setup) (start_machine setup) (f / setup.settings.frames)).line f k ≡ zero_line
line_past setup f k some le = seat_is setup (λ (o : Option (Seat ActorState)). (home_in (sizes_of setup) o).line f k ≡ zero_line) (f / setup.settings.frames) (λ lt. absurd (let under : f < setup.settings.nodes * setup.settings.frames = (div-lt_iff_lt-mul {k = setup.settings.frames} {x = f} {y = setup.settings.nodes} some).0 lt in omega arith)) refl refl

-- what each frame is for
role_at_start : (setup : Setup) (f : ℕ) → f < setup.layout.nodes * setup.settings.frames → roles_there (first setup) f ≡ role_there (cond (nat_lt (page_at setup f) (length setup.layout.pages)) (Mapped (page_at setup f)) Free)
unfolding first_mover first_table
role_at_start setup f lt = ap role_there (mapped_at (first_role setup.layout.nodes setup.settings.frames (length setup.layout.pages)) (setup.layout.nodes * setup.settings.frames) f Free lt)

-- a number past the last frame is that of a free one
role_past : (setup : Setup) (f : ℕ) → setup.layout.nodes * setup.settings.frames ≤ f → roles_there (first setup) f ≡ FreeFrame
unfolding first_mover first_table
role_past setup f le = ap role_there (get_or_past (map (first_role setup.layout.nodes setup.settings.frames (length setup.layout.pages)) (below (setup.layout.nodes * setup.settings.frames))) f Free (rw (mapped_length (first_role setup.layout.nodes setup.settings.frames (length setup.layout.pages)) (setup.layout.nodes * setup.settings.frames)) le))

-- each line is the one that the theory has there
lines_are : (setup : Setup) → IsRunnable setup → (f k : ℕ) → (homes (sizes_of setup) (start_machine setup) (f / setup.settings.frames)).line f k ≡ start_line zero_line (line_of_page setup) (roles_there (first setup) f) k
lines_are setup runs f k = by (nat_lt f (setup.settings.nodes * setup.settings.frames)) refl
  where
    by : (t : Bool) → nat_lt f (setup.settings.nodes * setup.settings.frames) ≡ t → (homes (sizes_of setup) (start_machine setup) (f / setup.settings.frames)).line f k ≡ start_line zero_line (line_of_page setup) (roles_there (first setup) f) k
    by true e =
        let lt : f < setup.settings.nodes * setup.settings.frames = grind (arith, nat_tests) in
        let role = role_at_start setup f (subst (λ (n : ℕ). f < n * setup.settings.frames) (sym (layout_nodes setup runs)) lt) in
        line_there setup f k runs.some_frames lt ∙ sym (ap (λ (r : TheoryRole). start_line zero_line (line_of_page setup) r k) role ∙ by_role setup (page_at setup f) k)
    by false e =
        let le : setup.settings.nodes * setup.settings.frames ≤ f = grind (arith, nat_tests) in
        let role = role_past setup f (subst (λ (n : ℕ). n * setup.settings.frames ≤ f) (sym (layout_nodes setup runs)) le) in
        line_past setup f k runs.some_frames le ∙ sym (ap (λ (r : TheoryRole). start_line zero_line (line_of_page setup) r k) role)

-- ---- sharers

-- no bit of the sharers stands for the mover
own_bit : (nodes : ℕ) → OwnBit (sharing_of nodes) nodes
own_bit nodes q e = by (nat_le nodes 64) e
  where
    grouped : (t : Bool) → nat_eq q nodes ≡ t → nat_eq (bit_of nodes nodes) (cond t 0 (q / 2 + 1)) ≡ true → q ≡ nodes
    grouped true f e = grind (arith, nat_tests)
    grouped false f e = absurd (let own : nat_eq nodes nodes ≡ true = grind (arith, nat_tests) in let z : nat_eq 0 (q / 2 + 1) ≡ true = subst (λ (t : Bool). nat_eq (cond t 0 (nodes / 2 + 1)) (q / 2 + 1) ≡ true) own e in grind (arith, nat_tests))

    by : (t : Bool) → is_same (cond t Single (Grouped (bit_of nodes))) nodes q ≡ true → q ≡ nodes
    by true e = grind (arith, nat_tests)
    by false e = grouped (nat_eq q nodes) refl e

-- ---- all of it

-- the theory's start
abbrev first_world : Setup → World Line
first_world setup = start (sharing_of setup.settings.nodes) setup.settings.nodes zero_line (mover_seen (sizes_of setup) (first setup)).page_table (roles_there (first setup)) (line_of_page setup)

-- the harts and the lines of the seats
abbrev hart_at : Setup → ℕ → Hart
hart_at setup q = (cpus (sizes_of setup) (start_machine setup) q).hart

abbrev lines_at : Setup → ℕ → ℕ → ℕ → Line
lines_at setup q = (homes (sizes_of setup) (start_machine setup) q).line

-- the machine shows it
shows : (setup : Setup) → Tables → IsRunnable setup → Shows setup.image (sizes_of setup) (cpus (sizes_of setup) (start_machine setup)) (homes (sizes_of setup) (start_machine setup)) (mover_at (sizes_of setup) (start_machine setup)) [] (first_world setup)
shows setup tables runs =
    same_shows setup.image (sizes_of setup) (λ q. cpu_start (hart_at setup q)) (cpus (sizes_of setup) (start_machine setup)) (λ q. home_start (lines_at setup q)) (homes (sizes_of setup) (start_machine setup))
    (mover_start (mover_seen (sizes_of setup) (first setup)).page_table (mover_seen (sizes_of setup) (first setup)).role) (mover_at (sizes_of setup) (start_machine setup)) [] (first_world setup) (sym (new_cpus setup)) (sym (new_homes setup)) (sym (new_mover_at setup))
    (start_shows (setup_seen (sizes_of setup)) (harts_seen setup.image (sizes_of setup)) (hart_at setup) zero_line (mover_seen (sizes_of setup) (first setup)).page_table (roles_there (first setup)) (line_of_page setup) (lines_at setup) (mover_seen (sizes_of setup) (first setup)).role
    (own_bit setup.settings.nodes) (laid setup tables runs) (λ f. same_role (get_or (first setup).pages.roles f Free)) (inside_by (sizes_of setup) (first setup) (mover_is setup tables runs)) (lines_are setup runs))

-- its memory is the flat one
same_memory : (setup : Setup) → SameMemory (sizes_of setup) (first_world setup).pages.memory (flat_begin setup.image setup.settings).flat
same_memory setup y k page e lt =
    let low : nat_lt k 32 ≡ true = grind (arith, nat_tests) in
    ap (λ (t : Bool). cond t (placed_line setup.image k (slice_get setup.layout.pages y)) zero_line) low ∙ ap (placed_line setup.image k) e

-- a node's processor at the start
cpu_at : (setup : Setup) (q : ℕ) → q < setup.settings.nodes → cpus (sizes_of setup) (start_machine setup) q ≡ cpu_seen (sizes_of setup) (new_processor setup.image setup.settings q)
cpu_at setup q lt = ap (cpu_in (sizes_of setup)) (node_there setup q lt)

-- the machine at its start follows the flat run's start
pub begins : (setup : Setup) → Tables → IsRunnable setup → (v : World Line) × Follows setup.image (sizes_of setup) (start_machine setup) (flat_begin setup.image setup.settings).harts (flat_begin setup.image setup.settings).flat v
unfolding start_machine
begins setup tables runs = (
  first_world setup,
  record {
    actors = actors setup tables runs;
    shows = shows setup tables runs;
    memory = same_memory setup;
    reserved = λ q lt. sym (ap (λ (c : Cpu Line Hart). c.hart.reserved) (cpu_at setup q lt));
    harts_are = λ q lt. sym (ap (λ (c : Cpu Line Hart). c.hart.state) (cpu_at setup q lt));
  },
)
