-- The line that the machine holds for a block of a placed page is the flat memory's.
use Rattle.std.proofs.Common.{◌≡◌, ◌∙◌, ℕ, zero, suc, ◌*◌, ◌+◌, ◌/◌, ◌<◌, Bool, true, false, cond, nat_eq, nat_lt, arith, refl, sym, ap, subst, Option, None, Some, option_map, List, [], ◌∷◌, map, length, slice_get, inl, inr}
use Rattle.std.specs.Prelude.{if◌then◌else◌}
use Rattle.std.proofs.lemmas.Bool.Decides.{nat_tests}
use Rattle.std.proofs.lemmas.Option.{slice_get_within}
use Rattle.og_base.specs.declared.Block.{Block}
use Rattle.og_base.specs.declared.Frame.{Frame}
use Rattle.og_base.specs.Names.{is_same_block}
use Rattle.og_base.proofs.SameNames.{same_block, is_same_block-self}
use Rattle.og_line.specs.declared.Line.{Line}
use Rattle.og_line.specs.Line.{zero_line}
use Rattle.og_line.specs.declared.Mode.{Mode}
use Rattle.og_line.specs.declared.Mode.TheVariants as mode
use Rattle.og_runs.specs.declared.Seat.{Seat}
use Rattle.og_runs.specs.declared.Msg.{Msg}
use Rattle.og_msg.specs.declared.Kind.{Kind}
use Rattle.og_msg.specs.declared.Kind.TheVariants.{WriteBack, ExclusiveResponse, SharingWriteBack, PoisonBack}
use Rattle.og_image.specs.Image.{ImageState}
use Rattle.og_flat.specs.Flat.{Flat}
use Rattle.rv_hart.specs.Hart.{HartState}
use Rattle.og_cache.specs.Cache.{Cached, look_of}
use Rattle.og_request.specs.Request.{Requested}
use Rattle.og_request.specs.declared.Response.{Response}
use Rattle.og_request.specs.declared.Response.TheVariants as response
use Rattle.og_block.specs.State.{NoCopy, Dirty}
use Rattle.og_block.specs.Rows.{is_dirty}
use Rattle.og_whole.specs.Events.{World as Theory}
use Rattle.og_node.specs.Node.{NodeState}
use Rattle.og_machine.specs.Machine.{ActorState, Node, Machine, or_else}
use Rattle.og_machine.specs.Held.{first_of, place, line_if_dirty, dirty_copy, line_if_same, carried, line_given, line_received, received, line_at_home, line_of_block, block_in, held_in, held}
use Rattle.og_relate.specs.Data.{Post, Cpu, HomeSide}
use Rattle.og_shown.specs.Shown.{Among, LineIs, is_block, line_if, place_of, carried as carried_seen, line_given as given_seen, received as received_seen}
use Rattle.og_shown.proofs.Lines.{lines_are_held}
use Rattle.og_seen.specs.Numbers.{Sizes, frame_count, is_there, frame_number, frame_at, block_at, setup_seen}
use Rattle.og_seen.specs.Messages.{kind_seen, post_seen}
use Rattle.og_seen.specs.Caches.{copy_seen, cache_seen}
use Rattle.og_seen.specs.Harts.{Hart, harts_seen}
use Rattle.og_seen.specs.Processors.{response_seen, request_seen}
use Rattle.og_seen.specs.Homes.{home_seen}
use Rattle.og_seen.specs.Sound.{AreSizes, IsHomeOf}
use Rattle.og_seen.proofs.Numbers.{there as in_machine, number_below, there_below, at_number}
use Rattle.og_refine_mover.proofs.Tables.{same_frame}
use Rattle.og_refine.specs.Machines.{home_of, home_in, cpus, homes, posts, IsNodeAt, AreActors}
use Rattle.og_refine.proofs.Steps.{Follows}
use Rattle.og_refine.proofs.Writers.{seen, none_some, same_some, same_tests, cpu_is, first_none, first_some, first_is, who_sits, placed}

-- ---- what is seen of a block, where it is there

module _ (s : Sizes) (block : Block) (there : is_there s block.frame ≡ true) where
  abbrev number : ℕ
  number = frame_number s block.frame

  below : number < frame_count s
  below = number_below s block.frame there

  -- another one is this block exactly where its numbers are
  block_test : (other : Block) → is_same_block block other ≡ is_block number block.number (frame_number s other.frame) other.number
  block_test other = same_tests (is_same_block block other) (is_block number block.number (frame_number s other.frame) other.number)
      (λ t. let same : block ≡ other = same_block block other t in
      let a : frame_number s other.frame ≡ number = ap (λ (b : Block). frame_number s b.frame) (sym same) in
      let b : other.number ≡ block.number = ap (λ (b : Block). b.number) (sym same) in
      grind (arith, nat_tests))
      (λ t. let a : frame_number s other.frame ≡ number = grind (arith, nat_tests) in
      let b : other.number ≡ block.number = grind (arith, nat_tests) in
      let too : is_there s other.frame ≡ true = there_below s other.frame (subst (λ (n : ℕ). n < frame_count s) (sym a) below) in
      let frames : block.frame ≡ other.frame = same_frame s block.frame other.frame there too (sym a) in
      let same : block ≡ other = (λ i. record { frame = frames i; number = sym b i }) in
      ap (is_same_block block) (sym same) ∙ is_same_block-self block)

  line_same : (other : Block) (line : Line) → line_if_same block other line ≡ line_if (is_block number block.number (frame_number s other.frame) other.number) line
  line_same other line = by (is_same_block block other) ∙ ap (λ t. line_if t line) (block_test other)
    where
      by : (t : Bool) → (if t then Some line else None) ≡ line_if t line
      by true = refl
      by false = refl

  -- what a message brings
  carried_same : (kind : Kind) → carried block kind ≡ carried_seen number block.number (kind_seen s kind)
  carried_same (WriteBack named line) = line_same named line
  carried_same (ExclusiveResponse named line) = line_same named line
  carried_same (SharingWriteBack named line) = line_same named line
  carried_same (PoisonBack named line) = line_same named line
  carried_same kind = refl

  given_same : (r : Option Response) → line_given r ≡ given_seen (response_seen r)
  given_same None = refl
  given_same (Some (response.Shared line)) = refl
  given_same (Some (response.Exclusive line)) = refl
  given_same (Some response.OwnerAck) = refl

  -- what a request has received
  received_same : (o : Option Requested) → line_received block o ≡ received_seen number block.number (option_map (request_seen s) o)
  received_same None = refl
  received_same (Some r) = by (is_same_block block r.block) ∙ ap (λ t. cond t (given_seen (response_seen r.response)) None) (block_test r.block)
    where
      by : (t : Bool) → (if t then line_given r.response else None) ≡ cond t (given_seen (response_seen r.response)) None
      by true = given_same r.response
      by false = refl

  -- what a cache has
  copy_same : (cache : Cached) → cache_seen s cache number block.number ≡ copy_seen (look_of cache block)
  copy_same cache =
      let lt : nat_lt number (frame_count s) ≡ true = (let a = below in grind (arith, nat_tests)) in
      let own : block_at s number block.number ≡ block = ap (λ (f : Frame). record { frame = f; number = block.number }) (at_number s block.frame there) in
      ap (λ t. cond t (copy_seen (look_of cache (block_at s number block.number))) NoCopy) lt ∙ ap (λ b. copy_seen (look_of cache b)) own

  -- the line of a dirty copy
  dirty_seen : (look : Option (Mode × Line)) (line : Line) → line_if_dirty look ≡ Some line → copy_seen look ≡ Dirty line
  dirty_seen None line e = absurd (none_some e)
  dirty_seen (Some (mode.Shared, l)) line e = absurd (none_some e)
  dirty_seen (Some (mode.Clean, l)) line e = absurd (none_some e)
  dirty_seen (Some (mode.Dirty, l)) line e = ap Dirty (same_some e)

  clean_seen : (look : Option (Mode × Line)) → line_if_dirty look ≡ None → is_dirty (copy_seen look) ≡ false
  clean_seen None e = refl
  clean_seen (Some (mode.Shared, l)) e = refl
  clean_seen (Some (mode.Clean, l)) e = refl
  clean_seen (Some (mode.Dirty, l)) e = absurd (none_some (sym e))

-- ---- messages, seen one by one

among : (s : Sizes) (ms : List (Msg Kind)) (q : ℕ) (m : Msg Kind) → slice_get ms q ≡ Some m → Among (post_seen s m) (map (post_seen s) ms)
among s [] q m e = absurd (none_some e)
among s (n ∷ ms) zero m e = inl (ap (post_seen s) (same_some e))
among s (n ∷ ms) (suc q) m e = inr (among s ms q m e)

seen_of : (s : Sizes) (ms : List (Msg Kind)) (x : Post Line) → Among x (map (post_seen s) ms) → (q : ℕ) × (m : Msg Kind) × (slice_get ms q ≡ Some m) × (post_seen s m ≡ x)
seen_of s [] x a = absurd a
seen_of s (m ∷ ms) x a = elim a [ inl e ↦ (zero, m, refl, e) | inr r ↦ (let h = seen_of s ms x r in (suc h.0, h.1, h.2, h.3)) ]

-- the first of two, or else the second
or_else_is : {Y : Type 0} → (a b : Option Y) (y : Y) → ((u : Y) → a ≡ Some u → u ≡ y) → (a ≡ None → b ≡ Some y) → or_else a b ≡ Some y
or_else_is (Some u) b y some none = ap Some (some u refl)
or_else_is None b y some none = none refl

module _ (image : ImageState) (s : Sizes) (w : Machine) (actors : AreActors image s w) (block : Block) (there : is_there s block.frame ≡ true) (v : Line) (is : LineIs (setup_seen s) (seen s w) (frame_number s block.frame) block.number v) where
  -- a dirty copy in a cache
  dirty_is : (u : Line) → first_of (λ x. dirty_copy block x.local) w.seats ≡ Some u → u ≡ v
  dirty_is u e = of r.0 r.1 r.2 r.3
    where
      r : (q : ℕ) × (x : Seat ActorState) × (slice_get w.seats q ≡ Some x) × (dirty_copy block x.local ≡ Some u)
      r = first_some (λ x. dirty_copy block x.local) w.seats u e

      of : (q : ℕ) (x : Seat ActorState) → slice_get w.seats q ≡ Some x → dirty_copy block x.local ≡ Some u → u ≡ v
      of q x at has = elim (who_sits image s w q x actors at) [
        | inl n ↦ is.in_cache q u n.1 (ap (λ (c : Cpu Line Hart). c.cache (frame_number s block.frame) block.number) (cpu_is s w q x n.0 at n.2) ∙ copy_same s block there n.0.processor.cache ∙ dirty_seen s block there (look_of n.0.processor.cache block) u (ap (dirty_copy block) (sym n.2) ∙ has))
        | inr n ↦ absurd (none_some (ap (dirty_copy block) (sym n.2) ∙ has))
      ]

  none_dirty : first_of (λ x. dirty_copy block x.local) w.seats ≡ None → (p : ℕ) → p < s.nodes → is_dirty ((cpus s w p).cache (frame_number s block.frame) block.number) ≡ false
  none_dirty none p lt =
      let n = actors.nodes p lt in
      ap (λ (c : Cpu Line Hart). is_dirty (c.cache (frame_number s block.frame) block.number)) (cpu_is s w p n.1.0 n.0 n.1.1 n.1.2)
      ∙ ap is_dirty (copy_same s block there n.0.processor.cache)
      ∙ clean_seen s block there (look_of n.0.processor.cache block) (ap (dirty_copy block) (sym n.1.2) ∙ first_none (λ x. dirty_copy block x.local) w.seats p n.1.0 none n.1.1)

  -- a line that a message carries
  carried_is : (u : Line) → first_of (λ m. carried block m.kind) w.flight ≡ Some u → u ≡ v
  carried_is u e =
      let r = first_some (λ m. carried block m.kind) w.flight u e in
      is.on_its_way (post_seen s r.1) u (among s w.flight r.0 r.1 r.2) (sym (carried_same s block there r.1.kind) ∙ r.3)

  none_carried : first_of (λ m. carried block m.kind) w.flight ≡ None → (x : Post Line) → Among x (posts s w) → carried_seen (frame_number s block.frame) block.number x.kind ≡ None
  none_carried none x a =
      let r = seen_of s w.flight x a in
      ap (λ (y : Post Line). carried_seen (frame_number s block.frame) block.number y.kind) (sym r.3) ∙ sym (carried_same s block there r.1.kind) ∙ first_none (λ m. carried block m.kind) w.flight r.0 r.1 none r.2

  -- one that a request has received
  request_at : (q : ℕ) (x : Seat ActorState) (n : NodeState) → slice_get w.seats q ≡ Some x → x.local ≡ Node n → received_seen (frame_number s block.frame) block.number (cpus s w q).request ≡ received block x.local
  request_at q x n at sits =
      ap (λ (c : Cpu Line Hart). received_seen (frame_number s block.frame) block.number c.request) (cpu_is s w q x n at sits) ∙ sym (received_same s block there n.processor.request) ∙ ap (received block) (sym sits)

  received_is : (u : Line) → first_of (λ x. received block x.local) w.seats ≡ Some u → u ≡ v
  received_is u e = of r.0 r.1 r.2 r.3
    where
      r : (q : ℕ) × (x : Seat ActorState) × (slice_get w.seats q ≡ Some x) × (received block x.local ≡ Some u)
      r = first_some (λ x. received block x.local) w.seats u e

      of : (q : ℕ) (x : Seat ActorState) → slice_get w.seats q ≡ Some x → received block x.local ≡ Some u → u ≡ v
      of q x at has = elim (who_sits image s w q x actors at) [
        | inl n ↦ is.arrived q u n.1 (request_at q x n.0 at n.2 ∙ has)
        | inr n ↦ absurd (none_some (ap (received block) (sym n.2) ∙ has))
      ]

  none_received : first_of (λ x. received block x.local) w.seats ≡ None → (p : ℕ) → p < s.nodes → received_seen (frame_number s block.frame) block.number (cpus s w p).request ≡ None
  none_received none p lt =
      let n = actors.nodes p lt in
      request_at p n.1.0 n.0 n.1.1 n.1.2 ∙ first_none (λ x. received block x.local) w.seats p n.1.0 none n.1.1

  -- the line at home, seen
  home_seen_at : (x : NodeState) → IsHomeOf s block.frame.home x.home → (home_seen s x.home).line (frame_number s block.frame) block.number ≡ x.home.line block.frame.index block.number
  home_seen_at x own =
      let frame : frame_at s (frame_number s block.frame) ≡ block.frame = at_number s block.frame there in
      let mine : nat_eq block.frame.home x.home.rules.home ≡ true = (let a = own.number in grind (arith, nat_tests)) in
      ap (λ (f : Frame). cond (nat_eq f.home x.home.rules.home) (x.home.line f.index block.number) zero_line) frame ∙ ap (λ t. cond t (x.home.line block.frame.index block.number) zero_line) mine

  -- what a node answers as the block's home is what is seen of it
  answers : (q : ℕ) (x : NodeState) (t : Bool) (u : Line) → IsHomeOf s q x.home → homes s w q ≡ home_seen s x.home → nat_eq x.home.rules.home block.frame.home ≡ t → (if t then Some (x.home.line block.frame.index block.number) else None) ≡ Some u →
      (homes s w block.frame.home).line (frame_number s block.frame) block.number ≡ u
  answers q x false u own sees e has = absurd (none_some has)
  answers q x true u own sees e has =
      let same : q ≡ block.frame.home = (let a = own.number in grind (arith, nat_tests)) in
      let mine : IsHomeOf s block.frame.home x.home = subst (λ (n : ℕ). IsHomeOf s n x.home) same own in
      ap (λ (n : ℕ). (homes s w n).line (frame_number s block.frame) block.number) (sym same) ∙ ap (λ (o : HomeSide Line). o.line (frame_number s block.frame) block.number) sees ∙ home_seen_at x mine ∙ same_some has

  home_is : (homes s w (frame_number s block.frame / s.frames)).line (frame_number s block.frame) block.number ≡ v → first_of (λ x. line_at_home block x.local) w.seats ≡ Some v
  home_is h = first_is (λ x. line_at_home block x.local) w.seats block.frame.home n.1.0 v n.1.1 (λ none. none_some (sym none ∙ (ap (line_at_home block) n.1.2 ∙ ap (λ t. if t then Some (n.0.home.line block.frame.index block.number) else None) here))) all
    where
      n : (x : NodeState) × IsNodeAt image s w block.frame.home x
      n = actors.nodes block.frame.home (in_machine s block.frame there).0

      here : nat_eq n.0.home.rules.home block.frame.home ≡ true
      here = let a = n.1.4.number in grind (arith, nat_tests)

      its_line : (homes s w block.frame.home).line (frame_number s block.frame) block.number ≡ v
      its_line = ap (λ (f : Frame). (homes s w f.home).line (frame_number s block.frame) block.number) (sym (at_number s block.frame there)) ∙ h

      all : (q : ℕ) (x : Seat ActorState) (u : Line) → slice_get w.seats q ≡ Some x → line_at_home block x.local ≡ Some u → u ≡ v
      all q x u at has = elim (who_sits image s w q x actors at) [
        | inl n ↦ sym (answers q n.0 (nat_eq n.0.home.rules.home block.frame.home) u n.4 (ap (home_in s) at ∙ ap (home_of s) n.2) refl (ap (line_at_home block) (sym n.2) ∙ has)) ∙ its_line
        | inr n ↦ absurd (none_some (ap (line_at_home block) (sym n.2) ∙ has))
      ]

  -- the line of the block, wherever the machine has it
  pub line_is : line_of_block w block ≡ Some v
  unfolding line_of_block
  line_is =
      or_else_is (first_of (λ x. dirty_copy block x.local) w.seats) (or_else (first_of (λ m. carried block m.kind) w.flight) (or_else (first_of (λ x. received block x.local) w.seats) (first_of (λ x. line_at_home block x.local) w.seats))) v dirty_is (λ clean.
      or_else_is (first_of (λ m. carried block m.kind) w.flight) (or_else (first_of (λ x. received block x.local) w.seats) (first_of (λ x. line_at_home block x.local) w.seats)) v carried_is (λ nothing.
      or_else_is (first_of (λ x. received block x.local) w.seats) (first_of (λ x. line_at_home block x.local) w.seats) v received_is (λ none.
      home_is (is.at_home (none_dirty clean) (none_carried nothing) (none_received none)))))

pub lines_held : (image : ImageState) (s : Sizes) (w : Machine) (harts : ℕ → HartState) (flat : Flat) (v : Theory Line) (y page number : ℕ) → AreSizes s → Follows image s w harts flat v → slice_get s.pages y ≡ Some page → number < 32 → held w (record { 0 = page }) number ≡ Some (flat.memory (page * 32 + number))
unfolding held
lines_held image s w harts flat v y page number sizes f at lt = by (placed image s w harts flat v sizes f y page number at)
  where
    inside : y < length s.pages
    inside = slice_get_within s.pages y page at

    by : (frame : Frame) × (place w (record { 0 = page }) number ≡ Some frame) × (is_there s frame ≡ true) × (frame_number s frame ≡ place_of (seen s w) y number) → held_in w number (place w (record { 0 = page }) number) ≡ Some (flat.memory (page * 32 + number))
    by p =
        let low : place_of (seen s w) y number < frame_count s = subst (λ (n : ℕ). n < frame_count s) p.3 (number_below s p.0 p.2) in
        let is : LineIs (setup_seen s) (seen s w) (place_of (seen s w) y number) number (v.pages.memory y number) = lines_are_held (setup_seen s) (harts_seen image s) (seen s w) v y number f.shows inside lt low in
        let here : LineIs (setup_seen s) (seen s w) (frame_number s p.0) number (v.pages.memory y number) = subst (λ (n : ℕ). LineIs (setup_seen s) (seen s w) n number (v.pages.memory y number)) (sym p.3) is in
        ap (held_in w number) p.1 ∙ (line_is image s w f.actors (block_in number p.0) p.2 (v.pages.memory y number) here ∙ ap Some (f.memory y number page at lt))
