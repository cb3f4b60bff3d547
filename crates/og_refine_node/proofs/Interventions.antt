-- A processor takes an intervention: it is held while its own request for the block is outstanding; else the victim slot meets it, or
-- the copy answers it.
use Rattle.std.proofs.Common.{Bool, List, None, Option, Some, [], ap, arith, cond, false, length, nat_eq, not, option_map, refl, subst, sym, true, ℕ, ◌&&◌, ◌++◌, ◌+◌, ◌/◌, ◌<◌, ◌||◌, ◌∙◌, ◌∷◌, ◌≡◌, ◌≢◌}
use Rattle.std.proofs.lemmas.Bool.Decides.{nat_tests}
use Rattle.std.specs.Prelude.{if◌then◌else◌, is_none as is_none_std}
use Rattle.og_base.proofs.SameNames.{same_block}
use Rattle.og_base.specs.Names.{is_same_block}
use Rattle.og_base.specs.declared.Block.{Block}
use Rattle.og_runs.specs.declared.Msg.{Msg}
use Rattle.og_line.specs.declared.Line.{Line}
use Rattle.og_line.specs.declared.Mode.{Mode}
use Rattle.og_line.specs.declared.Mode.TheVariants as mode
use Rattle.og_msg.specs.declared.Kind.{Kind}
use Rattle.og_msg.specs.declared.Kind.TheVariants as kind
use Rattle.og_image.specs.Image.{ImageState}
use Rattle.og_cache.proofs.Seen.{mode_laws}
use Rattle.og_cache.specs.Cache.{Cached, IsCache, look_of, mode_of, with_mode, without}
use Rattle.og_request.specs.Request.{Requested}
use Rattle.og_request.specs.declared.Held.{Held}
use Rattle.og_request.specs.declared.Held.TheVariants as held
use Rattle.og_victim.specs.Slot.{after_intervention as slot_after, is_slot_of}
use Rattle.og_victim.specs.declared.Slot.{Slot}
use Rattle.og_victim.specs.declared.Slot.TheVariants as slot
use Rattle.og_owner.specs.Owner.{after_intervention as cache_after, answers}
use Rattle.og_processor.specs.Rows.{has_intervention_row, has_row_for, holds_nothing, is_shared}
use Rattle.og_processor.specs.State.{Given, ProcessorState, and_then, becomes, sends}
use Rattle.og_processor.specs.Take.{drops, holding, intervenes, is_asked, is_for, take_of}
use Rattle.og_node.specs.Node.{NodeState}
use Rattle.og_block.specs.Message.{Intervened, Stands as StandsInBlock}
use Rattle.og_block.specs.Rows.{has_intervention}
use Rattle.og_block.specs.State.{Copy, Free, Idle, Intervention, NoCopy, NoIntervention, Shared}
use Rattle.og_block.specs.Views.{is_shared as is_shared_copy}
use Rattle.og_whole.proofs.Worlds.{blocks_ready}
use Rattle.og_whole.specs.Events.{World}
use Rattle.og_whole.specs.Messages.{Message, OfBlock}
use Rattle.og_relate.specs.Data.{Cpu, HomeSide, Kind as SeenKind, Mover, Post, Request, Slot as SeenSlot}
use Rattle.og_relate.specs.Node.{answer_by, answer_drop, held_post, hold, tail, with_copy}
use Rattle.og_relate.specs.Places.{Routed_by, Stands, content_of, held_message, is_at}
use Rattle.og_relate.specs.Sim.{HeldTidy, NodeShows, victim_at, want_at}
use Rattle.og_relate.specs.Steps.{letter as seen_letter}
use Rattle.og_relate_node.proofs.Interventions.{intervention_answered, intervention_waits}
use Rattle.og_relate_node.proofs.Slots.{slot_meets}
use Rattle.og_relate_node.specs.Steps.{slot_met, take_at_slot}
use Rattle.og_seen.proofs.Caches.{mode_seen, take_out_seen}
use Rattle.og_seen.proofs.Numbers.{there_below}
use Rattle.og_seen.specs.Caches.{cache_seen, copy_seen}
use Rattle.og_seen.specs.Events.{ProcessorGoes, Shows}
use Rattle.og_seen.specs.Harts.{Hart, harts_seen}
use Rattle.og_seen.specs.Messages.{kind_seen}
use Rattle.og_seen.specs.Numbers.{Sizes, frame_count, frame_number, is_there, setup_seen}
use Rattle.og_seen.specs.Processors.{cpu_seen, held_seen, intervention_seen, request_seen, slot_seen, want_seen}
use Rattle.og_seen.specs.Sound.{IsBlock, IsHomeOf, IsProcessorOf}
use Rattle.og_refine_node.proofs.Drops.{drops_given, drops_quiet}
use Rattle.og_refine_node.proofs.Facts.{block_known, block_test, cache_at, from_home, home_below, home_is, of_kind, row_is, shared_seen}
use Rattle.og_refine_node.proofs.Given.{IsGiven, TakenAt, chain_given, goes_as, goes_quietly}
use Rattle.og_refine_node.proofs.Slots.{met_seen, slot_given}

-- the message that asks for it
abbrev pub asked_by : Held → Block → Kind
asked_by (held.Shared r) block = kind.InterveneShared block r
asked_by (held.Exclusive r) block = kind.InterveneEx block r
asked_by held.Poison block = kind.IntervenePoison block

-- ---- the copy answers

module _ (s : Sizes) (p : ℕ) (x : ProcessorState) (block : Block) (h : ℕ) (cache : IsCache x.cache) (known : is_there s block.frame ≡ true) (home_at : h ≡ block.frame.home) where
  abbrev answered : Held → Option (Mode × Line) → Given
  answered held o = sends (record x { cache = cache_after x.cache block held }) (answers o block held)

  abbrev Answered : Held → Option (Mode × Line) → Type 0
  Answered held o = IsGiven s p (answer_by p h (frame_number s block.frame) block.number (intervention_seen s held) (cpu_seen s x) (copy_seen o)) (answered held o)

  -- the copy goes; there is none, and stays none; or it is shared, with its line
  gone : with_copy (cpu_seen s x) (frame_number s block.frame) block.number NoCopy ≡ cpu_seen s (record x { cache = without x.cache block })
  gone = ap (λ (c : ℕ → ℕ → Copy Line). record (cpu_seen s x) { cache = c }) (sym (take_out_seen s x.cache block cache known))

  kept : look_of x.cache block ≡ None → cpu_seen s x ≡ cpu_seen s (record x { cache = with_mode x.cache block mode.Shared })
  kept look = ap (λ (c : Cached). cpu_seen s (record x { cache = c })) (sym (mode_laws.absent x.cache block mode.Shared look))

  shared : (m : Mode) (l : Line) → look_of x.cache block ≡ Some (m, l) → with_copy (cpu_seen s x) (frame_number s block.frame) block.number (Shared l) ≡ cpu_seen s (record x { cache = with_mode x.cache block mode.Shared })
  shared m l look = ap (λ (c : ℕ → ℕ → Copy Line). record (cpu_seen s x) { cache = c }) (sym (mode_seen s x.cache block m mode.Shared l cache known look))

  -- two letters, and one: the last is to the home
  two : (r : ℕ) (a b : SeenKind Line) → seen_letter p r a ∷ seen_letter p h b ∷ [] ≡ seen_letter p r a ∷ seen_letter p block.frame.home b ∷ []
  two r a b = ap (λ (n : ℕ). seen_letter p r a ∷ seen_letter p n b ∷ []) home_at

  one : (a : SeenKind Line) → seen_letter p h a ∷ [] ≡ seen_letter p block.frame.home a ∷ []
  one a = ap (λ (n : ℕ). seen_letter p n a ∷ []) home_at

  -- the table of answers
  pub answer_given : (held : Held) (o : Option (Mode × Line)) → look_of x.cache block ≡ o → is_shared (option_map (λ copy. copy.0) o) ≡ false → Answered held o
  unfolding answers cache_after
  answer_given (held.Shared r) None look un = record { state = kept look; letters = two r _ _ }
  answer_given (held.Shared r) (Some (mode.Shared, l)) look un = absurd (cc)
  answer_given (held.Shared r) (Some (mode.Clean, l)) look un = record { state = shared mode.Clean l look; letters = two r _ _ }
  answer_given (held.Shared r) (Some (mode.Dirty, l)) look un = record { state = shared mode.Dirty l look; letters = two r _ _ }
  answer_given (held.Exclusive r) None look un = record { state = gone; letters = two r _ _ }
  answer_given (held.Exclusive r) (Some (mode.Shared, l)) look un = absurd (cc)
  answer_given (held.Exclusive r) (Some (mode.Clean, l)) look un = record { state = gone; letters = two r _ _ }
  answer_given (held.Exclusive r) (Some (mode.Dirty, l)) look un = record { state = gone; letters = two r _ _ }
  answer_given held.Poison None look un = record { state = gone; letters = one _ }
  answer_given held.Poison (Some (mode.Shared, l)) look un = absurd (cc)
  answer_given held.Poison (Some (mode.Clean, l)) look un = record { state = gone; letters = one _ }
  answer_given held.Poison (Some (mode.Dirty, l)) look un = record { state = gone; letters = one _ }

-- ---- the message in flight

abbrev post_of : Sizes → (to from : ℕ) → Held → Block → Post Line
post_of s p from held block = record { from = from; to = p; kind = kind_seen s (asked_by held block) }

-- the facts of it, by what it asks for
module _ (s : Sizes) (p : ℕ) (block : Block) where
  message_is : (held : Held) (from : ℕ) → held_message (frame_number s block.frame) block.number p (intervention_seen s held) ≡ Some (content_of s.nodes (post_of s p from held block))
  message_is (held.Shared r) from = refl
  message_is (held.Exclusive r) from = refl
  message_is held.Poison from = refl

  content_is : (held : Held) (from : ℕ) → content_of s.nodes (post_of s p from held block) ≡ OfBlock (frame_number s block.frame) block.number (Intervened p (intervention_seen s held))
  content_is (held.Shared r) from = refl
  content_is (held.Exclusive r) from = refl
  content_is held.Poison from = refl

  post_is : (held : Held) → post_of s p (frame_number s block.frame / s.frames) held block ∷ [] ≡ held_post (setup_seen s) p (frame_number s block.frame) block.number (intervention_seen s held)
  post_is (held.Shared r) = refl
  post_is (held.Exclusive r) = refl
  post_is held.Poison = refl

  tidy_held : (held : Held) (from : ℕ) → Routed_by (setup_seen s) from p (kind_seen s (asked_by held block)) → HeldTidy (setup_seen s) (intervention_seen s held)
  tidy_held (held.Shared r) from route = route.2
  tidy_held (held.Exclusive r) from route = route.2
  tidy_held held.Poison from route = refl

  sent_from : (held : Held) (from : ℕ) → Routed_by (setup_seen s) from p (kind_seen s (asked_by held block)) → from ≡ frame_number s block.frame / s.frames
  sent_from (held.Shared r) from route = route.0
  sent_from (held.Exclusive r) from route = route.0
  sent_from held.Poison from route = route.0

-- where none is seen to be held none is
nothing_held : (s : Sizes) (o : Option Held) → held_seen s o ≡ NoIntervention → is_none_std o ≡ true
nothing_held s None e = refl
nothing_held s (Some (held.Shared r)) e = absurd (cc)
nothing_held s (Some (held.Exclusive r)) e = absurd (cc)
nothing_held s (Some held.Poison) e = absurd (cc)

-- a slot that has another block, or none
pub other_slot : (s : Sizes) (o : Slot) (block : Block) → ((b : Block) (busy seen : Bool) → o ≡ slot.Taken b busy seen → IsBlock s b) → is_there s block.frame ≡ true → is_slot_of o block ≡ false → victim_at (frame_number s block.frame) block.number (slot_seen s o) ≡ Free
other_slot s slot.Free block all known e = refl
other_slot s (slot.Taken b busy seen) block all known e =
    let t : (nat_eq (frame_number s b.frame) (frame_number s block.frame) && nat_eq b.number block.number) ≡ false = sym (block_test s b block (all b busy seen refl).0 known) ∙ e in
    rw t refl

-- and one that has it
own_slot : (s : Sizes) (o : Slot) (block : Block) → is_slot_of o block ≡ true → (v : SeenSlot) × (slot_seen s o ≡ Some v) × (v.frame ≡ frame_number s block.frame) × (v.number ≡ block.number)
own_slot s slot.Free block e = absurd (cc)
own_slot s (slot.Taken b busy seen) block e =
    let same : b ≡ block = same_block b block e in
    (record { frame = frame_number s b.frame; number = b.number; busy = busy; seen = seen }, refl, ap (λ (z : Block). frame_number s z.frame) same, ap (λ (z : Block). z.number) same)

-- what isn't none is one
has_one : (i : Intervention) → i ≢ NoIntervention → has_intervention i ≡ true
has_one NoIntervention ne = absurd (ne refl)
has_one i ne = grind arith

module _ (image : ImageState) (s : Sizes) (cpu : ℕ → Cpu Line Hart) (home : ℕ → HomeSide Line) (mover : Mover Line) (rest : List (Post Line)) (w : World Line) (p : ℕ) (x : ProcessorState)
    (is : IsProcessorOf image s x) (lp : p < s.nodes) (shown : cpu p ≡ cpu_seen s x) where
  module _ (held : Held) (block : Block) (from : ℕ) (known : is_there s block.frame ≡ true) (sim : Shows image s cpu home mover (post_of s p from held block ∷ rest) w) (route : Routed_by (setup_seen s) from p (kind_seen s (asked_by held block))) where
    abbrev f : ℕ
    f = frame_number s block.frame

    abbrev i : Intervention
    i = intervention_seen s held

    n : NodeShows (harts_seen image s) p (cpu p) w
    n = sim.nodes p lp

    stands : (f < frame_count s) × (block.number < 32) × StandsInBlock (s.nodes + 1) (w.block f block.number) (Intervened p i)
    stands = subst (λ (c : Message Line). Stands (setup_seen s) w c) (content_is s p block held from) sim.flight.0.0.0

    -- what is seen of the copy that answers it: it isn't shared
    unshared : want_at f block.number (cpu p).request ≡ Idle → victim_at f block.number (cpu p).slot ≡ Free → is_shared (mode_of x.cache block) ≡ false
    unshared idle free =
        let lp1 : p < s.nodes + 1 = omega arith in
        let has : has_intervention ((w.block f block.number).intervention p) ≡ true = (let a = has_one i stands.2.2 in let b = stands.2.1 in cc) in
        let vf : (w.block f block.number).victim p ≡ Free = n.victim f block.number ∙ free in
        let wi : (w.block f block.number).want p ≡ Idle = n.want f block.number ∙ idle in
        let none : is_shared_copy ((w.block f block.number).copy p) ≡ false = (blocks_ready (s.nodes + 1) s.nodes (length s.pages) 32 w sim.reached f block.number p stands.1 lp1).0.intervene has vf wi in
        let e : (w.block f block.number).copy p ≡ copy_seen (look_of x.cache block) = n.copy f block.number ∙ ap (λ (c : Cpu Line Hart). c.cache f block.number) shown ∙ cache_at s x.cache block known in
        sym (shared_seen (look_of x.cache block)) ∙ subst (λ (c : Copy Line). is_shared_copy c ≡ false) e none

    abbrev Served : Given → Bool → Type 0
    Served given row = (row ≡ true) × ProcessorGoes image s cpu home mover rest w p x given

    -- the slot meets it, or the copy answers it
    answered_now : want_at f block.number (cpu p).request ≡ Idle → Served (and_then (intervenes x block held) (λ y. drops image y)) (is_slot_of x.victim block || not (is_shared (mode_of x.cache block)))
    answered_now idle = by (is_slot_of x.victim block) refl
      where
        met : ProcessorState
        met = record x { victim = slot_after x.victim }

        left : ProcessorState
        left = record x { cache = cache_after x.cache block held }

        by : (t : Bool) → is_slot_of x.victim block ≡ t → Served (and_then (if t then becomes met else sends left (answers (look_of x.cache block) block held)) (λ y. drops image y)) (t || not (is_shared (mode_of x.cache block)))
        by true t =
            let own = own_slot s x.victim block t in
            let e : (cpu p).slot ≡ Some own.0 = ap (λ (c : Cpu Line Hart). c.slot) shown ∙ own.1 in
            let goes = slot_meets (setup_seen s) (harts_seen image s) cpu home mover w f block.number p own.0 i (post_of s p from held block) rest sim lp e own.2 own.3 (content_is s p block held from) in (
              refl,
              goes_as image s cpu home mover rest w p x (λ c. take_at_slot (setup_seen s) p c (slot_met own.0)) (and_then (becomes met) (λ y. drops image y)) shown goes
                  (slot_given image s p x is (slot_after x.victim) (slot_met own.0) (met_seen s x.victim own.0 own.1)) (drops_quiet image s p met x refl),
            )
        by false t =
            let free : victim_at f block.number (cpu p).slot ≡ Free = ap (λ (c : Cpu Line Hart). victim_at f block.number c.slot) shown ∙ other_slot s x.victim block is.victim known t in
            let un : is_shared (mode_of x.cache block) ≡ false = unshared idle free in
            let sim2 : Shows image s cpu home mover (post_of s p (f / s.frames) held block ∷ rest) w = subst (λ (a : ℕ). Shows image s cpu home mover (post_of s p a held block ∷ rest) w) (sent_from s p block held from route) sim in
            let sim3 : Shows image s cpu home mover (held_post (setup_seen s) p f block.number i ++ rest) w = subst (λ (l : List (Post Line)). Shows image s cpu home mover (l ++ rest) w) (post_is s p block held) sim2 in
            let goes = intervention_answered (setup_seen s) (harts_seen image s) cpu home mover w p f block.number i rest (home_below s) lp sim3 idle free in
            let answer : IsGiven s p (answer_by p (f / s.frames) f block.number i (cpu_seen s x) (copy_seen (look_of x.cache block))) (sends left (answers (look_of x.cache block) block held)) = answer_given s p x block (f / s.frames) is.cache known (home_is s block.frame known) held (look_of x.cache block) refl un in
            let own : IsGiven s p (answer_by p (f / s.frames) f block.number i (cpu_seen s x) (cache_seen s x.cache f block.number)) (sends left (answers (look_of x.cache block) block held)) =
            subst (λ (c : Copy Line). IsGiven s p (answer_by p (f / s.frames) f block.number i (cpu_seen s x) c) (sends left (answers (look_of x.cache block) block held))) (sym (cache_at s x.cache block known)) answer in (
              ap not un,
              goes_as image s cpu home mover rest w p x (λ c. tail (setup_seen s) p f block.number i c) (and_then (sends left (answers (look_of x.cache block) block held)) (λ y. drops image y)) shown goes
                  (chain_given s p (λ d. answer_drop p s.nodes d) (λ y. drops image y) (answer_by p (f / s.frames) f block.number i (cpu_seen s x) (cache_seen s x.cache f block.number)) (sends left (answers (look_of x.cache block) block held)) own (drops_given image s p left is.nodes is.tlb is.named is.drop))
                  (drops_quiet image s p left x refl),
            )

    -- or the request holds it
    pub intervened : Served (is_asked image x block held) (has_intervention_row x block)
    intervened = by x.request refl
      where
        Goal : Option Requested → Bool → Type 0
        Goal o t = Served (if t then becomes (record x { request = holding held o }) else and_then (intervenes x block held) (λ y. drops image y)) (if t then holds_nothing o else (is_slot_of x.victim block || not (is_shared (mode_of x.cache block))))

        request_is : (o : Option Requested) → x.request ≡ o → (cpu p).request ≡ option_map (request_seen s) o
        request_is o e = ap (λ (c : Cpu Line Hart). c.request) shown ∙ ap (λ (r : Option Requested). option_map (request_seen s) r) e

        of : (r : Requested) → x.request ≡ Some r → (t : Bool) → is_at f block.number (request_seen s r) ≡ t → Goal (Some r) t
        of r e true at =
            let goes = intervention_waits (setup_seen s) (harts_seen image s) cpu home mover w p f block.number i (request_seen s r) (post_of s p from held block) rest sim lp (request_is (Some r) e) at (message_is s p block held from) (tidy_held s p block held from route) in (
              nothing_held s r.held goes.0,
              goes_quietly image s cpu home mover rest w p x (λ c. hold c (request_seen s r) i) (becomes (record x { request = holding held (Some r) })) (λ c. []) shown goes.1 refl refl refl,
            )
        of r e false at = answered_now (ap (λ (o : Option (Request Line)). want_at f block.number o) (request_is (Some r) e) ∙ ap (λ (t : Bool). cond t (want_seen r.want r.marked) Idle) at)

        by : (o : Option Requested) → x.request ≡ o → Goal o (is_for o block)
        by None e = answered_now (ap (λ (o : Option (Request Line)). want_at f block.number o) (request_is None e))
        by (Some r) e = let t : is_same_block r.block block ≡ is_at f block.number (request_seen s r) = block_test s r.block block (is.request r e).0 known in subst (λ (t : Bool). Goal (Some r) t) (sym t) (of r e (is_at f block.number (request_seen s r)) refl)

-- ---- by the kind

module _ (image : ImageState) (s : Sizes) (cpu : ℕ → Cpu Line Hart) (home : ℕ → HomeSide Line) (mover : Mover Line) (rest : List (Post Line)) (w : World Line) (p : ℕ) (x : NodeState) (message : Msg Kind)
    (is : IsProcessorOf image s x.processor) (at_home : IsHomeOf s p x.home) (lp : p < s.nodes) (shown : cpu p ≡ cpu_seen s x.processor) where
  pub shared_asked : (block : Block) (r : ℕ) → TakenAt image s cpu home mover rest w p x message (kind.InterveneShared block r)
  unfolding take_of has_row_for
  shared_asked block r sim =
      let pl = sim.flight.0.0.0 in
      let route = sim.flight.0.0.1 in
      let known : is_there s block.frame ≡ true = there_below s block.frame pl.0 in
      let nodes : x.home.rules.nodes ≡ s.nodes = at_home.nodes in
      let t = intervened image s cpu home mover rest w p x.processor is lp shown (held.Shared r) block message.id.sender known sim route in
      (row_is x (of_kind message (kind.InterveneShared block r)) (from_home s p x message at_home (kind.InterveneShared block r) (frame_number s block.frame) refl pl.0 route.0) (block_known s p x.home block at_home known pl.1) (let lt : r < s.nodes = route.2 in grind (arith, nat_tests)) t.0, t.1)

  pub exclusive_asked : (block : Block) (r : ℕ) → TakenAt image s cpu home mover rest w p x message (kind.InterveneEx block r)
  unfolding take_of has_row_for
  exclusive_asked block r sim =
      let pl = sim.flight.0.0.0 in
      let route = sim.flight.0.0.1 in
      let known : is_there s block.frame ≡ true = there_below s block.frame pl.0 in
      let nodes : x.home.rules.nodes ≡ s.nodes = at_home.nodes in
      let t = intervened image s cpu home mover rest w p x.processor is lp shown (held.Exclusive r) block message.id.sender known sim route in
      (row_is x (of_kind message (kind.InterveneEx block r)) (from_home s p x message at_home (kind.InterveneEx block r) (frame_number s block.frame) refl pl.0 route.0) (block_known s p x.home block at_home known pl.1) (let lt : r < s.nodes = route.2 in grind (arith, nat_tests)) t.0, t.1)

  pub poison_asked : (block : Block) → TakenAt image s cpu home mover rest w p x message (kind.IntervenePoison block)
  unfolding take_of has_row_for
  poison_asked block sim =
      let pl = sim.flight.0.0.0 in
      let route = sim.flight.0.0.1 in
      let known : is_there s block.frame ≡ true = there_below s block.frame pl.0 in
      let t = intervened image s cpu home mover rest w p x.processor is lp shown held.Poison block message.id.sender known sim route in
      (row_is x (of_kind message (kind.IntervenePoison block)) (from_home s p x message at_home (kind.IntervenePoison block) (frame_number s block.frame) refl pl.0 route.0) (block_known s p x.home block at_home known pl.1) refl t.0, t.1)
