-- What is in flight where no node asks for anything: no request; and a revision of each block that waits for its owner.
use Rattle.std.proofs.Common.{◌≡◌, ◌≢◌, ◌∙◌, ℕ, ◌+◌, ◌<◌, inl, inr, Bool, true, false, arith, refl, sym, ap, ap₂, subst, None, Some, List, [], ◌∷◌, map}
use Rattle.std.proofs.lemmas.Bool.Decides.{nat_tests}
use Rattle.og_base.specs.declared.Block.{Block}
use Rattle.og_base.specs.declared.Frame.{Frame}
use Rattle.og_line.specs.declared.Line.{Line}
use Rattle.og_runs.specs.declared.Msg.{Msg}
use Rattle.og_runs.specs.World.{find, Distinct}
use Rattle.og_msg.specs.declared.Kind.{Kind}
use Rattle.og_msg.specs.declared.Kind.TheVariants.{Read, ReadEx, Upgrade, SharingWriteBack, SharingTransfer, DirtyTransfer, PoisonBack, PoisonClean}
use Rattle.og_msg.specs.Kinds.{block_of}
use Rattle.og_flat.specs.Flat.{Flat}
use Rattle.rv_hart.specs.Hart.{HartState}
use Rattle.og_directory.specs.Table.{is_request}
use Rattle.og_directory.specs.declared.entry.State.{State}
use Rattle.og_directory.specs.declared.entry.State.TheVariants as state
use Rattle.og_home.specs.Home.{HomeState}
use Rattle.og_block.specs.State.{Idle, Ask, NoAsk, Revision, NoRevision, BusyShared, BusyExclusive, Block as BlockState}
use Rattle.og_block.specs.Invariant.{Waits, Revised, Inside}
use Rattle.og_block.specs.Roles.{Ends_by}
use Rattle.og_block.specs.Balance.{Finds_ready, Balanced}
use Rattle.og_whole.specs.Events.{World}
use Rattle.og_whole.specs.HomeEntry.{home_entry_at, is_blank_in}
use Rattle.og_whole.specs.Link.{Link}
use Rattle.og_whole.proofs.Runs.{reached as holds}
use Rattle.og_whole.proofs.Worlds.{blocks_ready}
use Rattle.og_relate.specs.Data.{Post, HomeEntry, HomeSide}
use Rattle.og_relate.specs.Places.{RevisionAt, content_by, place_of, slot_of, Placed, is_revision as stands_revised}
use Rattle.og_relate.specs.Sim.{EntryShows, want_at}
use Rattle.og_relate.proofs.Home.{entry_is}
use Rattle.og_shown.specs.Shown.{Among}
use Rattle.og_shown.proofs.Found.{has_post}
use Rattle.og_seen.specs.Numbers.{Sizes, setup_seen, is_there, frame_number, frame_count, frame_at}
use Rattle.og_seen.specs.Messages.{kind_seen, post_seen}
use Rattle.og_seen.specs.Homes.{home_seen, entry_seen}
use Rattle.og_seen.proofs.Numbers.{number_below, there_below, at_number}
use Rattle.og_refine_home.proofs.Places.{IsAt, home_is, entry_here}
use Rattle.og_refine.specs.Machines.{cpus, homes, mover_at, posts}
use Rattle.og_refine.proofs.Moved.{taken_first}
use Rattle.og_refine.proofs.Steps.{Follows}
use Rattle.og_machine.specs.Machine.{Setup, Machine}
use Rattle.og_drain.specs.Laws.{is_between}
use Rattle.og_drain_facts.specs.Laws.{is_revision}
use Rattle.og_drain_facts.proofs.Choices.{IsIn}

-- ---- one block

-- a block whose requester waits for nothing has been told by its owner
no_shared : (b : BlockState Line) (o p : ℕ) → b.entry ≡ BusyShared o p → b.want p ≡ Idle → Waits b p → b.revision ≡ NoRevision → ⊥
no_shared b o p e i h n = let a = h.0 in grind (arith, nat_tests)

no_exclusive : (b : BlockState Line) (o p : ℕ) (r : Bool) → b.entry ≡ BusyExclusive o p r → b.want p ≡ Idle → Waits b p → Revised b.entry b.revision → b.revision ≡ NoRevision → ⊥
no_exclusive b o p true e i h v n = grind (arith, nat_tests)
no_exclusive b o p false e i h v n = let a = h.1 in grind (arith, nat_tests)

revised : (r : Revision Line) → r ≢ NoRevision → stands_revised r ≡ true
revised NoRevision ne = absurd (ne refl)
revised r ne = refl

-- an actor that isn't the mover is a node
below : (p n : ℕ) → p < n + 1 → p ≢ n → p < n
below p n lt ne = omega arith

-- ---- messages seen

among_seen : (s : Sizes) (x : Post Line) (ms : List (Msg Kind)) → Among x (map (post_seen s) ms) → (m : Msg Kind) × IsIn m ms × (post_seen s m ≡ x)
among_seen s x [] h = absurd h
among_seen s x (m ∷ ms) (inl e) = (m, inl refl, e)
among_seen s x (m ∷ ms) (inr h) = let r = among_seen s x ms h in (r.0, inr r.1, r.2)

same_block : (s : Sizes) (c b : Block) → is_there s b.frame ≡ true → frame_number s c.frame ≡ frame_number s b.frame → c.number ≡ b.number → c ≡ b
same_block s c b there e n =
    let below : frame_number s c.frame < frame_count s = subst (λ (f : ℕ). f < frame_count s) (sym e) (number_below s b.frame there) in
    let frames : c.frame ≡ b.frame = sym (at_number s c.frame (there_below s c.frame below)) ∙ (ap (frame_at s) e ∙ at_number s b.frame there) in
    ap₂ (λ (f : Frame) (k : ℕ). record { frame = f; number = k }) frames n

-- what stands where a revision does is one, of the block
revision_kind : (s : Sizes) (n from to : ℕ) (k : Kind) (b : Block) → is_there s b.frame ≡ true → place_of (content_by n from to (kind_seen s k)) ≡ RevisionAt (frame_number s b.frame) b.number → (is_revision k ≡ true) × (block_of k ≡ Some b)
revision_kind s n from to (SharingWriteBack c l) b there e = (refl, ap (λ (x : Block). Some x) (same_block s c b there (grind arith) (grind arith)))
revision_kind s n from to (SharingTransfer c) b there e = (refl, ap (λ (x : Block). Some x) (same_block s c b there (grind arith) (grind arith)))
revision_kind s n from to (DirtyTransfer c) b there e = (refl, ap (λ (x : Block). Some x) (same_block s c b there (grind arith) (grind arith)))
revision_kind s n from to (PoisonBack c l) b there e = (refl, ap (λ (x : Block). Some x) (same_block s c b there (grind arith) (grind arith)))
revision_kind s n from to (PoisonClean c) b there e = (refl, ap (λ (x : Block). Some x) (same_block s c b there (grind arith) (grind arith)))
revision_kind s n from to k b there e = absurd (cc)

-- ---- a machine in which no node asks

module _ (setup : Setup) (s : Sizes) (w : Machine) (harts : ℕ → HartState) (flat : Flat) (v : World Line) (f : Follows setup.image s w harts flat v) (silent : (p : ℕ) → p < s.nodes → (cpus s w p).request ≡ None) where
  pub placed : (message : Msg Kind) → Distinct w.flight → find message.id w.flight ≡ Some message → Placed (setup_seen s) v (post_seen s message)
  placed message distinct found = (taken_first setup.image s (cpus s w) (homes s w) (mover_at s w) v message w.flight distinct found f.shows).flight.0.0

  no_want : (g k q : ℕ) → q < s.nodes → (v.block g k).want q ≡ Idle
  no_want g k q lt = (f.shows.nodes q lt).want g k ∙ ap (want_at g k) (silent q lt)

  no_ask : (g k q : ℕ) → k < 32 → q < s.nodes → (v.block g k).ask q ≡ NoAsk
  no_ask g k q lk lt = by ((v.block g k).ask q) refl
    where
      lt1 : q < s.nodes + 1
      lt1 = omega arith

      ready : Finds_ready (s.nodes + 1) (v.block g k) q × Balanced (s.nodes + 1) (v.block g k) q
      ready = blocks_ready (s.nodes + 1) s.nodes (setup_seen s).pages 32 v f.shows.reached g k q lk lt1

      by : (a : Ask Line) → (v.block g k).ask q ≡ a → (v.block g k).ask q ≡ NoAsk
      by NoAsk e = e
      by a e = absurd (ready.0.reply (λ z. absurd (cc)) (no_want g k q lt))

  -- no request is in flight
  pub no_request : (message : Msg Kind) → Distinct w.flight → find message.id w.flight ≡ Some message → is_request message.kind ≡ false
  no_request message distinct found = by message.kind (placed message distinct found)
    where
      by : (k : Kind) → Placed (setup_seen s) v (record { from = message.id.sender; to = message.to; kind = kind_seen s k }) → is_request k ≡ false
      by (Read b) p = absurd (let a = p.0.2.1 in let n = no_ask (frame_number s b.frame) b.number message.id.sender p.0.1 p.1.0 in cc)
      by (ReadEx b) p = absurd (let a = p.0.2.1 in let n = no_ask (frame_number s b.frame) b.number message.id.sender p.0.1 p.1.0 in cc)
      by (Upgrade b) p = absurd (let a = p.0.2.1 in let n = no_ask (frame_number s b.frame) b.number message.id.sender p.0.1 p.1.0 in cc)
      by k p = refl

  -- ---- a block that waits for its owner

  linked : (g k : ℕ) → k < 32 → Link (s.nodes + 1) s.nodes v.pages (v.block g k) g k
  linked g k lk = (holds (s.nodes + 1) s.nodes (setup_seen s).pages 32 v f.shows.reached).link g k lk

  -- its owner's message to the home stands
  told_shared : (g k o p : ℕ) → k < 32 → (v.block g k).entry ≡ BusyShared o p → (v.block g k).revision ≢ NoRevision
  told_shared g k o p lk e n =
      let l = linked g k lk in
      let i = subst (Inside (s.nodes + 1)) e l.invariant.home.inside in
      let en = subst (Ends_by s.nodes) e l.parts.ends in
      let low : p < s.nodes = below p s.nodes i.1 en.1 in
      no_shared (v.block g k) o p e (no_want g k p low) (l.invariant.each p i.1).waits n

  told_exclusive : (g k o p : ℕ) (r : Bool) → k < 32 → (v.block g k).entry ≡ BusyExclusive o p r → (v.block g k).revision ≢ NoRevision
  told_exclusive g k o p r lk e n =
      let l = linked g k lk in
      let i = subst (Inside (s.nodes + 1)) e l.invariant.home.inside in
      let en = subst (Ends_by s.nodes) e l.parts.ends in
      let low : p < s.nodes = below p s.nodes i.1 en.1 in
      no_exclusive (v.block g k) o p r e (no_want g k p low) (l.invariant.each p i.1).waits l.invariant.home.revised n

  -- so there is a revision of it in flight
  revision_flies : (b : Block) → is_there s b.frame ≡ true → b.number < 32 → (v.block (frame_number s b.frame) b.number).revision ≢ NoRevision → (m : Msg Kind) × IsIn m w.flight × (is_revision m.kind ≡ true) × (block_of m.kind ≡ Some b)
  revision_flies b there lk ne = elim (f.shows.found (RevisionAt (frame_number s b.frame) b.number) (number_below s b.frame there, lk) (revised (v.block (frame_number s b.frame) b.number).revision ne)) [
    | inl h ↦ absurd (h refl)
    | inr h ↦ (let x = has_post s.nodes (posts s w) (RevisionAt (frame_number s b.frame) b.number) h in
        let m = among_seen s x.0 w.flight x.1 in
        let at : slot_of s.nodes (post_seen s m.0) ≡ RevisionAt (frame_number s b.frame) b.number = ap (slot_of s.nodes) m.2 ∙ x.2 in
        let k = revision_kind s s.nodes m.0.id.sender m.0.to m.0.kind b there at in
        (m.0, m.1, k.0, k.1))
  ]

  -- an entry of a home that waits for its owner
  pub busy_told : (x : HomeState) (b : Block) → IsAt s x b.frame → homes s w x.rules.home ≡ home_seen s x → b.number < 32 → is_between (x.entry b.frame.index b.number) ≡ true → (m : Msg Kind) × IsIn m w.flight × (is_revision m.kind ≡ true) × (block_of m.kind ≡ Some b)
  busy_told x b own here lk busy = revision_flies b own.there lk (by (x.entry b.frame.index b.number) refl busy)
    where
      g : ℕ
      g = frame_number s b.frame

      shown : EntryShows s.nodes (entry_seen s.nodes (x.entry b.frame.index b.number)) (home_entry_at v g b.number)
      shown = subst (λ (h : HomeEntry). EntryShows s.nodes h (home_entry_at v g b.number)) (ap (λ (q : ℕ). (homes s w q).entry g b.number) (home_is s x b.frame own) ∙ (ap (λ (h : HomeSide Line). h.entry g b.number) here ∙ entry_here s x b.frame own b.number))
          (f.shows.homes g b.number (number_below s b.frame own.there) lk).entry

      by : (e : State) → x.entry b.frame.index b.number ≡ e → is_between e ≡ true → (v.block g b.number).revision ≢ NoRevision
      by (state.BusyShared o p) e u = told_shared g b.number o p lk (entry_is (is_blank_in v.pages g) (v.block g b.number).entry (BusyShared o p) (subst (λ (h : State). EntryShows s.nodes (entry_seen s.nodes h) (home_entry_at v g b.number)) e shown) (λ z. absurd (cc)))
      by (state.BusyExclusive o p r) e u = told_exclusive g b.number o p r lk (entry_is (is_blank_in v.pages g) (v.block g b.number).entry (BusyExclusive o p r) (subst (λ (h : State). EntryShows s.nodes (entry_seen s.nodes h) (home_entry_at v g b.number)) e shown) (λ z. absurd (cc)))
      by e is u = absurd (cc)
