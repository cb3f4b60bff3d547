-- The line that a machine holds, from what looks at its actors and its messages find.
use Rattle.std.proofs.Common.{◌≡◌, ◌∙◌, ℕ, zero, suc, ◌+◌, ◌<◌, ◌≤◌, Bool, true, false, nat_eq, arith, refl, sym, ap, subst, Option, None, Some, option_map, List, [], ◌∷◌, ◌++◌, length, map, drop, get_or, inl, inr}
use Rattle.std.specs.Prelude.{◌/◌, ◌%◌, slice_get, slice_index_or, is_some, if◌then◌else◌}
use Rattle.std.specs.List.{position}
use Rattle.std.proofs.lemmas.Bool.Decides.{nat_tests}
use Rattle.std.proofs.lemmas.List.Quantifiers.{position-Some}
use Rattle.std.proofs.lemmas.Option.{slice_get-get_or}
use Rattle.og_base.specs.declared.Block.{Block}
use Rattle.og_base.specs.declared.Frame.{Frame}
use Rattle.og_base.specs.declared.VPage.{VPage}
use Rattle.og_line.specs.declared.Line.{Line}
use Rattle.og_runs.specs.declared.Seat.{Seat}
use Rattle.og_image.specs.Image.{ImageState}
use Rattle.og_home.specs.Kept.{home_of}
use Rattle.og_pager.specs.PageTable.{frame_in, frame_of}
use Rattle.og_node.specs.Kept.{KeptNode, node_of}
use Rattle.og_node.specs.Node.{NodeState}
use Rattle.og_mover.specs.Table.{MoverState, place_by as place_in_job, place_of}
use Rattle.og_machine.specs.Machine.{ActorState, Node, Mover, Machine, or_else}
use Rattle.og_machine.specs.FlatRun.{flat_begin}
use Rattle.og_machine.specs.HartRuns.{flat_end}
use Rattle.og_machine.specs.Held.{first_of, place, place_by, dirty_copy, carried, received, line_at_home, line_of_block, block_in, held_in, held, held_byte}
use Rattle.og_seen.specs.Numbers.{Sizes, is_there}
use Rattle.og_seen.specs.Sound.{IsHomeOf}
use Rattle.og_seen.proofs.Numbers.{there as in_machine}
use Rattle.og_refine.specs.Machines.{AreActors, sizes_of}
use Rattle.og_refine.proofs.Begins.{sizes_are}
use Rattle.og_refine.proofs.Runs.{Followed, followed}
use Rattle.og_refine.proofs.Tables.{tables}
use Rattle.og_refine.proofs.Unnamed.{same_actor}
use Rattle.og_refine.proofs.Writers.{none_some, same_some, first_is, who_sits, placed}
use Rattle.og_engine.specs.Kept.{KeptMachine, IsMade, machine_of, setup_in, node_seat, mover_seat}
use Rattle.og_engine.proofs.Acts.{node_sits, mover_sits, seat_read}
use Rattle.og_engine.proofs.Counts.{nodes_count}
use Rattle.og_engine.proofs.Known.{actors_are}

-- ---- a look at one after another

-- the first from one place on: what is there, or else the first from the next place on
first_step : {X Y : Type 0} → (f : X → Option Y) (xs : List X) (k : ℕ) (x : X) → slice_get xs k ≡ Some x → first_of f (drop k xs) ≡ or_else (f x) (first_of f (drop (suc k) xs))
first_step f [] k x e = absurd (cc)
first_step {X} {Y} f (y ∷ ys) zero x e = let same : y ≡ x = cc in ap (λ (z : X). or_else (f z) (first_of f ys)) same
first_step f (y ∷ ys) (suc k) x e = first_step f ys k x e

-- past the end is nothing
first_past : {X Y : Type 0} → (f : X → Option Y) (xs : List X) (k : ℕ) → length xs ≤ k → first_of f (drop k xs) ≡ None
first_past f [] zero le = refl
first_past f [] (suc k) le = refl
first_past f (x ∷ xs) zero le = absurd (omega arith)
first_past f (x ∷ xs) (suc k) le = first_past f xs k (omega arith)

-- what the one there has is the first that any has, if none before it has anything
pub found_here : {X Y : Type 0} → (f : X → Option Y) (xs : List X) (k : ℕ) (x : X) (o : Option Y) → slice_get xs k ≡ Some x → o ≡ f x → is_some o ≡ true → first_of f (drop k xs) ≡ first_of f xs → o ≡ first_of f xs
found_here f xs k x None there is some so_far = absurd (let never : false ≡ true = some in cc)
found_here {X} {Y} f xs k x (Some y) there is some so_far = ap (λ (z : Option Y). or_else z (first_of f (drop (suc k) xs))) is ∙ sym (first_step f xs k x there) ∙ so_far

-- one more that has nothing
pub none_here : {X Y : Type 0} → (f : X → Option Y) (xs : List X) (k : ℕ) (x : X) (o : Option Y) → slice_get xs k ≡ Some x → o ≡ f x → is_some o ≡ false → first_of f (drop k xs) ≡ first_of f xs → first_of f (drop (k + 1) xs) ≡ first_of f xs
none_here {X} {Y} f xs k x None there is none so_far =
    let more : suc k ≡ k + 1 = omega arith in
    subst (λ (j : ℕ). first_of f (drop j xs) ≡ first_of f xs) more (ap (λ (z : Option Y). or_else z (first_of f (drop (suc k) xs))) is ∙ sym (first_step f xs k x there) ∙ so_far)
none_here f xs k x (Some y) there is none so_far = absurd (let never : true ≡ false = none in cc)

-- none of all has anything
pub none_at_all : {X Y : Type 0} → (f : X → Option Y) (xs : List X) (k : ℕ) → length xs ≤ k → first_of f (drop k xs) ≡ first_of f xs → None ≡ first_of f xs
none_at_all f xs k past so_far = sym (first_past f xs k past) ∙ so_far

-- the first of a list is the first of the same one
pub first_in : {X Y : Type 0} → (f : X → Option Y) (xs ys : List X) (o : Option Y) → o ≡ first_of f xs → xs ≡ ys → o ≡ first_of f ys
first_in {X} f xs ys o is same = is ∙ ap (λ (zs : List X). first_of f zs) same

-- ---- nodes and mover

or_nothing : {Y : Type 0} → (o : Option Y) → or_else o None ≡ o
or_nothing None = refl
or_nothing (Some y) = refl

-- where the mover has nothing, what the first actor has is what the first node has
pub first_of_nodes : {Y : Type 0} → (f : ActorState → Option Y) (kept : KeptMachine) → f (Mover kept.mover.local) ≡ None → first_of (λ x. f x.local) (machine_of kept).seats ≡ first_of (λ x. f (node_seat x).local) kept.nodes
unfolding machine_of
first_of_nodes {Y} f kept none = by kept.nodes
  where
    by : (xs : List (Seat KeptNode)) → first_of (λ x. f x.local) (map node_seat xs ++ mover_seat kept.mover ∷ []) ≡ first_of (λ x. f (node_seat x).local) xs
    by [] = ap (λ (o : Option Y). or_else o None) none
    by (x ∷ xs) = ap (or_else (f (node_seat x).local)) (by xs)

-- the mover knows where a block is
pub place_is : (kept : KeptMachine) (page : VPage) (number : ℕ) → place (machine_of kept) page number ≡ place_of kept.mover.local page number
unfolding place machine_of
place_is kept page number = by kept.nodes
  where
    by : (xs : List (Seat KeptNode)) → first_of (λ x. place_by page number x.local) (map node_seat xs ++ mover_seat kept.mover ∷ []) ≡ place_of kept.mover.local page number
    by [] = or_nothing (place_of kept.mover.local page number)
    by (x ∷ xs) = by xs

-- ---- the line of a block

-- of a message, a request or the home, or else another
abbrev carried_or : Machine → Block → Option Line → Option Line
carried_or w block others = or_else (first_of (λ m. carried block m.kind) w.flight) others

abbrev received_or : Machine → Block → Option Line → Option Line
received_or w block others = or_else (first_of (λ x. received block x.local) w.seats) others

abbrev home_line_of : Machine → Block → Option Line
home_line_of w block = first_of (λ x. line_at_home block x.local) w.seats

in_order : (w : Machine) (block : Block) → line_of_block w block ≡ or_else (first_of (λ x. dirty_copy block x.local) w.seats) (carried_or w block (received_or w block (home_line_of w block)))
unfolding line_of_block
in_order w block = refl

module _ (kept : KeptMachine) (block : Block) (dirty : Option Line) (dirty_is : dirty ≡ first_of (λ x. dirty_copy block (node_seat x).local) kept.nodes) where
  by_dirty : line_of_block (machine_of kept) block ≡ or_else dirty (carried_or (machine_of kept) block (received_or (machine_of kept) block (home_line_of (machine_of kept) block)))
  by_dirty =
      in_order (machine_of kept) block
      ∙ ap (λ (o : Option Line). or_else o (carried_or (machine_of kept) block (received_or (machine_of kept) block (home_line_of (machine_of kept) block)))) (first_of_nodes (dirty_copy block) kept refl ∙ sym dirty_is)

  -- behind a dirty copy stands all else
  rest : Option Line → Option Line
  rest o = or_else o (carried_or (machine_of kept) block (received_or (machine_of kept) block (home_line_of (machine_of kept) block)))

  -- of a dirty copy
  pub of_dirty : (line : Line) → dirty ≡ Some line → line_of_block (machine_of kept) block ≡ Some line
  unfolding rest
  of_dirty line some = by_dirty ∙ ap rest some

  module _ (none : dirty ≡ None) (sent : Option Line) (sent_is : sent ≡ first_of (λ m. carried block m.kind) kept.flight.messages) where
    by_sent : line_of_block (machine_of kept) block ≡ or_else sent (received_or (machine_of kept) block (home_line_of (machine_of kept) block))
    unfolding machine_of rest
    by_sent = by_dirty ∙ ap rest none ∙ ap (λ (o : Option Line). or_else o (received_or (machine_of kept) block (home_line_of (machine_of kept) block))) (sym sent_is)

    -- of a message
    pub of_message : (line : Line) → sent ≡ Some line → line_of_block (machine_of kept) block ≡ Some line
    of_message line some = by_sent ∙ ap (λ (o : Option Line). or_else o (received_or (machine_of kept) block (home_line_of (machine_of kept) block))) some

    module _ (not_sent : sent ≡ None) (got : Option Line) (got_is : got ≡ first_of (λ x. received block (node_seat x).local) kept.nodes) where
      by_got : line_of_block (machine_of kept) block ≡ or_else got (home_line_of (machine_of kept) block)
      by_got =
          by_sent
          ∙ ap (λ (o : Option Line). or_else o (received_or (machine_of kept) block (home_line_of (machine_of kept) block))) not_sent
          ∙ ap (λ (o : Option Line). or_else o (home_line_of (machine_of kept) block)) (first_of_nodes (received block) kept refl ∙ sym got_is)

      -- of a request
      pub of_request : (line : Line) → got ≡ Some line → line_of_block (machine_of kept) block ≡ Some line
      of_request line some = by_got ∙ ap (λ (o : Option Line). or_else o (home_line_of (machine_of kept) block)) some

      -- of the home
      pub of_home : (line : Line) → got ≡ None → home_line_of (machine_of kept) block ≡ Some line → line_of_block (machine_of kept) block ≡ Some line
      of_home line not_got home_is = by_got ∙ ap (λ (o : Option Line). or_else o (home_line_of (machine_of kept) block)) not_got ∙ home_is

-- ---- where the block is

-- the frame of a block of a page is one of the machine's
pub frame_inside : (image : ImageState) (kept : KeptMachine) (page : VPage) (number : ℕ) (frame : Frame) → IsMade image kept → place_of kept.mover.local page number ≡ Some frame → (frame.home < kept.settings.nodes) × (frame.index < kept.settings.frames)
unfolding place_of frame_of
frame_inside image kept page number frame made at = by (position (nat_eq page.0) kept.mover.local.pages.pages) refl
  where
    s : Sizes
    s = sizes_of (setup_in image kept)

    f : Followed (setup_in image kept) (flat_begin image kept.settings).harts (flat_begin image kept.settings).flat (machine_of kept) made.1
    f = followed (setup_in image kept) tables made.2.runnable made.0 (machine_of kept) made.1 made.2.run

    same_mover : (a b : MoverState) → Mover a ≡ Mover b → a ≡ b
    same_mover a b e = cc

    pages : kept.mover.local.pages.pages ≡ s.pages
    pages =
        let m = f.follows.actors.mover in
        let last : s.nodes ≡ length kept.nodes = sym (nodes_count image kept made) in
        let mine : Mover m.0 ≡ Mover kept.mover.local = sym m.1.2 ∙ same_actor (machine_of kept) s.nodes m.1.0 (mover_seat kept.mover) m.1.1 (mover_sits kept s.nodes last) in
        ap (λ (x : MoverState). x.pages.pages) (sym (same_mover m.0 kept.mover.local mine)) ∙ m.1.3.pages

    own : (g : Frame) → place (machine_of kept) page number ≡ Some g → is_there s g ≡ true → (frame.home < kept.settings.nodes) × (frame.index < kept.settings.frames)
    own g here there = let same : g ≡ frame = same_some (sym here ∙ (place_is kept page number ∙ at)) in in_machine s frame (subst (λ (h : Frame). is_there s h ≡ true) same there)

    by : (o : Option ℕ) → position (nat_eq page.0) kept.mover.local.pages.pages ≡ o → (frame.home < kept.settings.nodes) × (frame.index < kept.settings.frames)
    by None none = absurd (none_some (sym (ap (λ (o : Option ℕ). option_map (place_in_job kept.mover.local.job page number) (option_map (frame_in kept.mover.local.pages) o)) none) ∙ at))
    by (Some y) some =
        let at_y = position-Some (nat_eq page.0) s.pages y 0 (ap (position (nat_eq page.0)) (sym pages) ∙ some) in
        let equal : get_or s.pages y 0 ≡ page.0 = (let t = at_y.1 in grind (arith, nat_tests)) in
        let numbered : slice_get s.pages y ≡ Some page.0 = slice_get-get_or s.pages y 0 at_y.0 ∙ ap Some equal in
        let p = placed image s (machine_of kept) f.end (flat_end (flat_begin image kept.settings).flat made.1) f.world (sizes_are (setup_in image kept) made.2.runnable) f.follows y page.0 number numbered in
        own p.0 p.1 p.2

-- ---- the home's line

-- the home part of the node there
pub home_there : (image : ImageState) (kept : KeptMachine) (a : ℕ) (x : Seat KeptNode) → IsMade image kept → slice_get kept.nodes a ≡ Some x → IsHomeOf (sizes_of (setup_in image kept)) a (home_of x.local.home)
home_there image kept a x made there = elim (who_sits image (sizes_of (setup_in image kept)) (machine_of kept) a (node_seat x) actors (node_sits kept a x there)) [
  | inl n ↦ subst (λ (y : NodeState). IsHomeOf (sizes_of (setup_in image kept)) a y.home) (sym (same_node (node_of x.local) n.0 n.2)) n.4
  | inr m ↦ absurd (other (node_of x.local) m.0 m.2)
]
  where
    actors : AreActors image (sizes_of (setup_in image kept)) (machine_of kept)
    actors = actors_are (setup_in image kept) made.0 (machine_of kept) made.1 made.2.runnable made.2.run

    same_node : (y z : NodeState) → Node y ≡ Node z → y ≡ z
    same_node y z e = cc

    other : (y : NodeState) (m : MoverState) → Node y ≡ Mover m → ⊥
    other y m e = cc

-- a block's home, as it is read
pub home_read : (image : ImageState) (kept : KeptMachine) (nodes : List (Seat KeptNode)) (block : Block) (at : ℕ) (x : Seat KeptNode) → IsMade image kept → block.frame.home < kept.settings.nodes → nodes ≡ kept.nodes → at ≡ block.frame.home → x ≡ get_or nodes at x →
    slice_get kept.nodes block.frame.home ≡ Some x
home_read image kept nodes block at x made lt same at_is read =
    let count : length kept.nodes ≡ kept.settings.nodes = nodes_count image kept made in
    seat_read kept.nodes block.frame.home x (omega arith) (read ∙ ap (λ (xs : List (Seat KeptNode)). get_or xs at x) same ∙ ap (λ (a : ℕ). get_or kept.nodes a x) at_is)

-- the line that the home of a block has
pub home_line : (image : ImageState) (kept : KeptMachine) (block : Block) (x : Seat KeptNode) → IsMade image kept → slice_get kept.nodes block.frame.home ≡ Some x →
    first_of (λ z. line_at_home block z.local) (machine_of kept).seats ≡ Some ((home_of x.local.home).line block.frame.index block.number)
home_line image kept block x made there =
    first_is (λ z. line_at_home block z.local) (machine_of kept).seats block.frame.home (node_seat x) ((home_of x.local.home).line block.frame.index block.number) (node_sits kept block.frame.home x there)
    (λ none. none_some (sym none ∙ ap (λ (t : Bool). if t then Some ((home_of x.local.home).line block.frame.index block.number) else None) here)) all
  where
    here : nat_eq (home_of x.local.home).rules.home block.frame.home ≡ true
    here = let own = (home_there image kept block.frame.home x made there).number in grind (arith, nat_tests)

    same_node : (y z : NodeState) → Node y ≡ Node z → y ≡ z
    same_node y z e = cc

    of : (q : ℕ) (z : Seat ActorState) (u : Line) (n : NodeState) (t : Bool) → slice_get (machine_of kept).seats q ≡ Some z → z.local ≡ Node n → IsHomeOf (sizes_of (setup_in image kept)) q n.home → nat_eq n.home.rules.home block.frame.home ≡ t →
        (if t then Some (n.home.line block.frame.index block.number) else None) ≡ Some u → u ≡ (home_of x.local.home).line block.frame.index block.number
    of q z u n false at is own test has = absurd (none_some has)
    of q z u n true at is own test has =
        let number : n.home.rules.home ≡ q = own.number in
        let seat : q ≡ block.frame.home = grind (arith, nat_tests) in
        let actor : z.local ≡ Node (node_of x.local) = same_actor (machine_of kept) block.frame.home z (node_seat x) (subst (λ (a : ℕ). slice_get (machine_of kept).seats a ≡ Some z) seat at) (node_sits kept block.frame.home x there) in
        sym (same_some has) ∙ ap (λ (y : NodeState). y.home.line block.frame.index block.number) (same_node n (node_of x.local) (sym is ∙ actor))

    all : (q : ℕ) (z : Seat ActorState) (u : Line) → slice_get (machine_of kept).seats q ≡ Some z → line_at_home block z.local ≡ Some u → u ≡ (home_of x.local.home).line block.frame.index block.number
    all q z u at has = elim (who_sits image (sizes_of (setup_in image kept)) (machine_of kept) q z (actors_are (setup_in image kept) made.0 (machine_of kept) made.1 made.2.runnable made.2.run) at) [
      | inl n ↦ of q z u n.0 (nat_eq n.0.home.rules.home block.frame.home) at n.2 n.4 refl (ap (line_at_home block) (sym n.2) ∙ has)
      | inr m ↦ absurd (none_some (ap (line_at_home block) (sym m.2) ∙ has))
    ]

-- ---- the line and the byte that are held

pub nothing_held : (kept : KeptMachine) (page : VPage) (number : ℕ) → place_of kept.mover.local page number ≡ None → None ≡ held (machine_of kept) page number
unfolding held
nothing_held kept page number none = sym (ap (held_in (machine_of kept) number) (place_is kept page number ∙ none))

pub line_held : (kept : KeptMachine) (page : VPage) (number : ℕ) (frame : Frame) (line : Line) → place_of kept.mover.local page number ≡ Some frame → line_of_block (machine_of kept) (block_in number frame) ≡ Some line → Some line ≡ held (machine_of kept) page number
unfolding held
line_held kept page number frame line at is = sym (ap (held_in (machine_of kept) number) (place_is kept page number ∙ at) ∙ is)

pub no_byte : (kept : KeptMachine) (address : ℕ) → held (machine_of kept) (record { 0 = address / 4096 }) (address / 128 % 32) ≡ None → None ≡ held_byte (machine_of kept) address
unfolding held_byte
no_byte kept address none = sym (ap (option_map (λ (line : Line). slice_index_or line.bytes (address % 128) 0)) none)

pub byte_held : (kept : KeptMachine) (address : ℕ) (line : Line) → held (machine_of kept) (record { 0 = address / 4096 }) (address / 128 % 32) ≡ Some line → Some (slice_index_or line.bytes (address % 128) 0) ≡ held_byte (machine_of kept) address
unfolding held_byte
byte_held kept address line is = sym (ap (option_map (λ (line : Line). slice_index_or line.bytes (address % 128) 0)) is)
