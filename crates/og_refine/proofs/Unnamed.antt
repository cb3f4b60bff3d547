-- A free frame is named by nothing; and so many messages at most are in flight.
use Rattle.std.proofs.Common.{◌≡◌, ◌≢◌, ◌∙◌, ℕ, ◌+◌, ◌*◌, ◌<◌, ◌≤◌, ◌⊎◌, inl, inr, Bool, true, false, cond, nat_lt, arith, refl, sym, ap, subst, Option, None, Some, List, [], ◌∷◌, map, length, slice_get}
use Rattle.std.specs.Prelude.{slice_index_or, option_map}
use Rattle.std.specs.FinSet as set
use Rattle.std.proofs.lemmas.Bool.Decides.{nat_tests}
use Rattle.std.proofs.lemmas.Option.{slice_get_within}
use Rattle.og_base.specs.declared.Block.{Block}
use Rattle.og_base.specs.declared.Frame.{Frame}
use Rattle.og_base.specs.declared.VPage.{VPage}
use Rattle.og_line.specs.declared.Line.{Line}
use Rattle.og_line.specs.declared.Mode.{Mode}
use Rattle.og_line.specs.declared.Mode.TheVariants as mode
use Rattle.og_runs.specs.declared.Msg.{Msg}
use Rattle.og_runs.specs.declared.MsgId.{MsgId}
use Rattle.og_runs.specs.declared.Seat.{Seat}
use Rattle.og_runs.specs.World.{find}
use Rattle.og_msg.specs.declared.Kind.{Kind}
use Rattle.og_victim.specs.declared.Slot.TheVariants.{Taken}
use Rattle.og_refine.specs.Names.{names_frame}
use Rattle.og_image.specs.Image.{ImageState}
use Rattle.og_block.specs.State.{NoCopy}
use Rattle.og_cache.specs.Cache.{look_of}
use Rattle.og_tlb.specs.Tlb.{look_of as frame_of}
use Rattle.og_request.specs.Request.{Requested}
use Rattle.og_flat.specs.Flat.{Flat}
use Rattle.rv_hart.specs.Hart.{HartState}
use Rattle.og_whole.specs.Events.{World}
use Rattle.og_pager.specs.declared.Role.{Role}
use Rattle.og_pager.specs.declared.Role.TheVariants.{Free, Mapped, Target, Quarantined}
use Rattle.og_pager.specs.PageTable.{IsFrame, is_free, is_free_role, role_of, holders_of}
use Rattle.og_node.specs.Node.{NodeState}
use Rattle.og_mover.specs.Table.{MoverState}
use Rattle.og_machine.specs.Machine.{ActorState, Node, Mover, Machine}
use Rattle.og_relate.specs.Data.{Unused}
use Rattle.og_relate.specs.Laws.{machine}
use Rattle.og_shown.specs.Shown.{IsUnnamed as SeenUnnamed}
use Rattle.og_shown.proofs.Copies.{free_frames_are_unnamed, messages_have_room}
use Rattle.og_seen.specs.Numbers.{Sizes, setup_seen, is_there, frame_number, frame_count, block_at, page_number}
use Rattle.og_seen.specs.Messages.{post_seen}
use Rattle.og_seen.specs.Harts.{harts_seen}
use Rattle.og_seen.specs.Caches.{copy_seen}
use Rattle.og_seen.specs.Processors.{cpu_seen, request_seen}
use Rattle.og_seen.specs.Movers.{mover_seen, role_seen}
use Rattle.og_seen.specs.Sound.{IsProcessorOf, IsMoverOf}
use Rattle.og_seen.proofs.Numbers.{number_below, numbered, at_number}
use Rattle.og_seen.proofs.Pages.{is_numbered}
use Rattle.og_seen.proofs.Tlbs.{own_seen}
use Rattle.og_refine.specs.Machines.{cpus, homes, mover_at, posts, cpu_in, cpu_of, AreActors}
use Rattle.og_refine.specs.Laws.{IsUnnamed}
use Rattle.og_refine.proofs.Steps.{Follows, mover_is}

-- ---- whose seat it is

-- two actors in one seat are one
pub same_actor : (w : Machine) (q : ℕ) (x y : Seat ActorState) → slice_get w.seats q ≡ Some x → slice_get w.seats q ≡ Some y → x.local ≡ y.local
same_actor w q x y e f = let same : x ≡ y = cc in ap (λ (z : Seat ActorState). z.local) same

pub where_is : (q n m : ℕ) → q < m → m ≡ n + 1 → (q < n) ⊎ (q ≡ n)
where_is q n m lt e = by (nat_lt q n) refl
  where
    by : (t : Bool) → nat_lt q n ≡ t → (q < n) ⊎ (q ≡ n)
    by true f = inl (grind (arith, nat_tests))
    by false f = inr (grind (arith, nat_tests))

same_node : (x y : NodeState) → Node x ≡ Node y → x ≡ y
same_node x y e = cc

same_mover : (x y : MoverState) → Mover x ≡ Mover y → x ≡ y
same_mover x y e = cc

-- a node sits at a node's seat, and names what there is
pub node_is : (image : ImageState) (s : Sizes) (w : Machine) (q : ℕ) (seat : Seat ActorState) (x : NodeState) → AreActors image s w → slice_get w.seats q ≡ Some seat → seat.local ≡ Node x → (q < s.nodes) × IsProcessorOf image s x.processor
node_is image s w q seat x actors there is = elim (where_is q s.nodes (length w.seats) (slice_get_within w.seats q seat there) actors.count) [
  | inl lt ↦ (let n = actors.nodes q lt in
      let same : n.0 ≡ x = same_node n.0 x (sym n.1.2 ∙ (same_actor w q n.1.0 seat n.1.1 there ∙ is)) in
      (lt, subst (λ (y : NodeState). IsProcessorOf image s y.processor) same n.1.3))
  | inr at ↦ (let m = actors.mover in
      let here : slice_get w.seats s.nodes ≡ Some seat = subst (λ (a : ℕ). slice_get w.seats a ≡ Some seat) at there in
      let e : Mover m.0 ≡ Node x = sym m.1.2 ∙ (same_actor w s.nodes m.1.0 seat m.1.1 here ∙ is) in
      absurd (cc))
]

-- the mover sits behind the nodes
pub mover_sits : (image : ImageState) (s : Sizes) (w : Machine) (q : ℕ) (seat : Seat ActorState) (m : MoverState) → AreActors image s w → slice_get w.seats q ≡ Some seat → seat.local ≡ Mover m → (q ≡ s.nodes) × IsMoverOf s m
mover_sits image s w q seat m actors there is = elim (where_is q s.nodes (length w.seats) (slice_get_within w.seats q seat there) actors.count) [
  | inl lt ↦ (let n = actors.nodes q lt in let e : Node n.0 ≡ Mover m = sym n.1.2 ∙ (same_actor w q n.1.0 seat n.1.1 there ∙ is) in absurd (cc))
  | inr at ↦ (let n = actors.mover in
      let here : slice_get w.seats s.nodes ≡ Some seat = subst (λ (a : ℕ). slice_get w.seats a ≡ Some seat) at there in
      let same : n.0 ≡ m = same_mover n.0 m (sym n.1.2 ∙ (same_actor w s.nodes n.1.0 seat n.1.1 here ∙ is)) in
      (at, subst (IsMoverOf s) same n.1.3))
]

-- ---- a free frame

-- no victim slot and no message in flight names the frame
abbrev pub IsNameless : Machine → Frame → Type 0
IsNameless w frame =
    ((p : ℕ) (z : Seat ActorState) (x : NodeState) (block : Block) (busy seen : Bool) → slice_get w.seats p ≡ Some z → z.local ≡ Node x → x.processor.victim ≡ Taken block busy seen → block.frame ≢ frame)
    × ((id : MsgId) (message : Msg Kind) → find id w.flight ≡ Some message → names_frame message.kind frame ≡ false)

free_role : (r : Role) → is_free_role r ≡ true → r ≡ Free
free_role Free e = refl
free_role (Mapped number) e = absurd (cc)
free_role (Target number) e = absurd (cc)
free_role (Quarantined move) e = absurd (cc)

nothing_cached : (o : Option (Mode × Line)) → copy_seen o ≡ NoCopy → o ≡ None
nothing_cached None e = refl
nothing_cached (Some (mode.Shared, l)) e = absurd (cc)
nothing_cached (Some (mode.Clean, l)) e = absurd (cc)
nothing_cached (Some (mode.Dirty, l)) e = absurd (cc)

pub frame_is_unnamed : (image : ImageState) (s : Sizes) (w : Machine) (harts : ℕ → HartState) (flat : Flat) (v : World Line) (q : ℕ) (seat : Seat ActorState) (m : MoverState) (frame : Frame) → Follows image s w harts flat v →
    slice_get w.seats q ≡ Some seat → seat.local ≡ Mover m → IsFrame m.pages frame → is_free m.pages frame ≡ true → IsNameless w frame → IsUnnamed w frame
unfolding is_free holders_of
frame_is_unnamed image s w harts flat v q seat m frame f there is inside free nameless = record {
  cached = cached;
  translated = translated;
  requested = requested;
  thrown_out = nameless.0;
  held = held;
  sent = nameless.1;
}
  where
    mine : (q ≡ s.nodes) × IsMoverOf s m
    mine = mover_sits image s w q seat m f.actors there is

    at_end : slice_get w.seats s.nodes ≡ Some seat
    at_end = subst (λ (a : ℕ). slice_get w.seats a ≡ Some seat) mine.0 there

    frame_there : is_there s frame ≡ true
    frame_there = let a : m.pages.nodes ≡ s.nodes = mine.1.nodes in let b : m.pages.frames ≡ s.frames = mine.1.frames in let c = inside.0 in let d = inside.1 in grind (arith, nat_tests)

    number_is : frame_number s frame ≡ frame.home * m.pages.frames + frame.index
    number_is = numbered s frame frame_there ∙ ap (λ n. frame.home * n + frame.index) (sym mine.1.frames)

    seen : mover_at s w ≡ mover_seen s m
    seen = mover_is s w seat m at_end is

    unused : (mover_at s w).role (frame_number s frame) ≡ Unused
    unused = ap (λ z. z.role (frame_number s frame)) seen ∙ (ap (λ n. role_seen (slice_index_or m.pages.roles n Free)) number_is ∙ ap role_seen (free_role (role_of m.pages frame) free))

    shown : SeenUnnamed (setup_seen s) (machine (cpus s w) (homes s w) (mover_at s w) (posts s w)) (frame_number s frame)
    shown = free_frames_are_unnamed (setup_seen s) (harts_seen image s) (machine (cpus s w) (homes s w) (mover_at s w) (posts s w)) v (frame_number s frame) f.shows unused

    cpu_here : (p : ℕ) (z : Seat ActorState) (x : NodeState) → slice_get w.seats p ≡ Some z → z.local ≡ Node x → cpus s w p ≡ cpu_seen s x.processor
    cpu_here p z x e g = ap (cpu_in s) e ∙ ap (cpu_of s) g

    cached : (p : ℕ) (z : Seat ActorState) (x : NodeState) (number : ℕ) → slice_get w.seats p ≡ Some z → z.local ≡ Node x → number < 32 → look_of x.processor.cache (record { frame = frame; number = number }) ≡ None
    cached p z x number e g lt =
        let n = node_is image s w p z x f.actors e g in
        let c : cond (nat_lt (frame_number s frame) (frame_count s)) (copy_seen (look_of x.processor.cache (block_at s (frame_number s frame) number))) NoCopy ≡ NoCopy = ap (λ y. y.cache (frame_number s frame) number) (sym (cpu_here p z x e g)) ∙ shown.copy p number n.0 lt in
        let t : nat_lt (frame_number s frame) (frame_count s) ≡ true = (let b = number_below s frame frame_there in grind (arith, nat_tests)) in
        let d : copy_seen (look_of x.processor.cache (block_at s (frame_number s frame) number)) ≡ NoCopy = sym (ap (λ (u : Bool). cond u (copy_seen (look_of x.processor.cache (block_at s (frame_number s frame) number))) NoCopy) t) ∙ c in
        subst (λ (fr : Frame). look_of x.processor.cache (record { frame = fr; number = number }) ≡ None) (at_number s frame frame_there) (nothing_cached (look_of x.processor.cache (block_at s (frame_number s frame) number)) d)

    translated : (p : ℕ) (z : Seat ActorState) (x : NodeState) (page : VPage) → slice_get w.seats p ≡ Some z → z.local ≡ Node x → frame_of x.processor.tlb page ≢ Some frame
    translated p z x page e g look =
        let n = node_is image s w p z x f.actors e g in
        let placed = n.1.translated page (λ none. absurd (cc)) in
        let entry = own_seen s x.processor.tlb page frame (page_number s page) (is_numbered s page placed) look in
        shown.entry p (page_number s page) n.0 (ap (λ y. y.tlb (page_number s page)) (cpu_here p z x e g) ∙ entry)

    requested : (p : ℕ) (z : Seat ActorState) (x : NodeState) (request : Requested) → slice_get w.seats p ≡ Some z → z.local ≡ Node x → x.processor.request ≡ Some request → request.block.frame ≢ frame
    requested p z x request e g r same =
        let n = node_is image s w p z x f.actors e g in
        let seen : (cpus s w p).request ≡ Some (request_seen s request) = ap (λ y. y.request) (cpu_here p z x e g) ∙ ap (option_map (request_seen s)) r in
        shown.request p (request_seen s request) n.0 seen (ap (frame_number s) same)

    held : (p : ℕ) (z : Seat ActorState) (k : MoverState) (node : ℕ) → slice_get w.seats p ≡ Some z → z.local ≡ Mover k → set.contains (holders_of k.pages frame) node ≢ true
    held p z k node e g has =
        let o = mover_sits image s w p z k f.actors e g in
        let end : slice_get w.seats s.nodes ≡ Some z = subst (λ (a : ℕ). slice_get w.seats a ≡ Some z) o.0 e in
        let same : k ≡ m = same_mover k m (sym g ∙ (same_actor w s.nodes z seat end at_end ∙ is)) in
        let none : set.contains (slice_index_or m.pages.holders (frame_number s frame) set.empty) node ≡ false = ap (λ y. y.holders (frame_number s frame) node) (sym seen) ∙ shown.holder node in
        let here : set.contains (holders_of m.pages frame) node ≡ false = ap (λ i. set.contains (slice_index_or m.pages.holders i set.empty) node) (sym number_is) ∙ none in
        let there : set.contains (holders_of m.pages frame) node ≡ true = subst (λ (y : MoverState). set.contains (holders_of y.pages frame) node ≡ true) same has in
        absurd (cc)

-- ---- room

mapped_length : {X Y : Type 0} → (g : X → Y) (xs : List X) → length (map g xs) ≡ length xs
mapped_length g [] = refl
mapped_length g (x ∷ xs) = let e : length (map g xs) ≡ length xs = mapped_length g xs in omega arith

pub flight_has_room : (image : ImageState) (s : Sizes) (w : Machine) (harts : ℕ → HartState) (flat : Flat) (v : World Line) → Follows image s w harts flat v → length w.flight ≤ 33 * s.frames * s.nodes + s.nodes * s.nodes + 7 * s.nodes + 1
flight_has_room image s w harts flat v f =
    let a : length (posts s w) ≤ 32 * (s.nodes * s.frames) + s.nodes * s.frames + s.nodes * s.nodes + 7 * s.nodes + 1 = messages_have_room (setup_seen s) (harts_seen image s) (machine (cpus s w) (homes s w) (mover_at s w) (posts s w)) v f.shows in
    let b : length (posts s w) ≡ length w.flight = mapped_length (post_seen s) w.flight in
    let c : 33 * s.frames * s.nodes ≡ 32 * (s.nodes * s.frames) + s.nodes * s.frames = grind arith in
    omega arith
