-- Whatever is in flight to a home has its row there, and is served as by the machine of functions.
use Rattle.std.proofs.Common.{◌≡◌, ◌≢◌, ℕ, ◌/◌, ◌%◌, ◌<◌, Bool, true, false, cond, nat_eq, nat_lt, List, [], ◌∷◌, Option, None, Some, option_map, refl, sym, ap, ◌∙◌, subst}
use Rattle.std.specs.Prelude.{is_some}
use Rattle.std.proofs.lemmas.Bool.{and_from, eq-eqb, lt-ltb}
use Rattle.og_base.specs.declared.Block.{Block}
use Rattle.og_base.specs.declared.Frame.{Frame}
use Rattle.og_runs.specs.declared.Msg.{Msg}
use Rattle.og_runs.specs.declared.MsgId.{MsgId}
use Rattle.og_runs.specs.declared.Stamp.{Stamp}
use Rattle.og_line.specs.declared.Line.{Line}
use Rattle.og_msg.specs.declared.Kind.{Kind}
use Rattle.og_msg.specs.declared.Kind.TheVariants.{Read, ReadEx, Upgrade, WriteBack, SharingWriteBack, SharingTransfer, DirtyTransfer, PoisonRead, PoisonBack, PoisonClean, CopyIn, CleanFrame, Rearm}
use Rattle.og_msg.specs.Kinds.{block_of}
use Rattle.og_image.specs.Image.{ImageState}
use Rattle.og_directory.specs.Table.{Row, row_of, is_counted}
use Rattle.og_whole.specs.Events.{World}
use Rattle.og_home.specs.Home.{HomeState, Served, table_row, by_row, serve_row, serve_block, serve, count_request, and_then_if, are_poisoned, rearm, clean_frame}
use Rattle.og_node.specs.Node.{is_for_home}
use Rattle.og_node.specs.Rows.{is_from_its_sender, is_own_frame, has_block_row, has_home_row}
use Rattle.og_relate.specs.Data.{KFrameClean, Post, Cpu, HomeSide, Mover, Machine, IsSetup}
use Rattle.og_relate.specs.Goes.{Goes}
use Rattle.og_relate.specs.Laws.{machine}
use Rattle.og_relate.specs.Steps.{Answer, letter, cleaned, serve_back}
use Rattle.og_relate_home.specs.Steps.{serve_sharing_write_back, serve_sharing_transfer, serve_dirty_transfer, serve_poison_back, serve_poison_clean, serve_poison_read, serve_copy_in, serve_clean_frame, are_poisoned as are_seen_poisoned, rearm as seen_rearm, take, is_for_home as is_for_seen_home}
use Rattle.og_relate_home.specs.Laws.{answered, Serves, IsQuietAt}
use Rattle.og_relate_home.proofs.Table.{taken}
use Rattle.og_seen.specs.Numbers.{Sizes, frame_count, frame_number, setup_seen}
use Rattle.og_seen.specs.Messages.{kind_seen, post_seen}
use Rattle.og_seen.specs.Harts.{Hart, harts_seen}
use Rattle.og_seen.specs.Homes.{home_seen, hot_seen}
use Rattle.og_seen.specs.Sound.{IsHomeOf}
use Rattle.og_seen.specs.Events.{Shows, HomeGoes}
use Rattle.og_seen.proofs.Numbers.{there, there_below, at_number, frame_there}
use Rattle.og_refine_home.proofs.Places.{IsAt, entry_here}
use Rattle.og_refine_home.proofs.Requests.{seen_of}
use Rattle.og_refine_home.proofs.Counts.{due_quiet, served_row, take_read_seen, take_read_exclusive_seen, take_upgrade_seen, rearm_seen, clean_seen, poisoned_seen}
use Rattle.og_refine_home.proofs.Revisions.{write_back_seen, sharing_write_back_seen, sharing_transfer_seen, dirty_transfer_seen, poison_back_seen, poison_clean_seen, poison_read_seen, copy_in_seen}

-- each frame's home is a node
setup_is : (s : Sizes) → IsSetup (setup_seen s)
setup_is s f low = (there s (record { home = f / s.frames; index = f % s.frames }) (frame_there s f low)).0

some_same : {A : Type 0} (a b : A) → Some a ≡ Some b → a ≡ b
some_same a b e = cc

module _ (image : ImageState) (s : Sizes) (cpu : ℕ → Cpu Line Hart) (home : ℕ → HomeSide Line) (mover : Mover Line) (w : World Line) (p : ℕ) (x : HomeState) (rest : List (Post Line)) (is : IsHomeOf s p x) (home_is : home p ≡ home_seen s x) where
  -- the machine without the message
  abbrev now : Machine Line Hart
  now = machine cpu home mover rest

  -- this row is there, and is one of the theory
  abbrev IsServed : Option (Answer Line) → Type 0
  IsServed row = Serves (setup_seen s) (harts_seen image s) now w p row

  -- what the table of the machine of functions says to the message
  abbrev row_at : Msg Kind → Option (Answer Line)
  row_at message = take (setup_seen s) p (home_seen s x) message.id.sender (kind_seen s message.kind) (hot_seen x (block_of message.kind) message.id.sender)

  -- it has a row for it
  serves : (message : Msg Kind) → message.to ≡ p → Shows image s cpu home mover (post_seen s message ∷ rest) w → is_for_seen_home (kind_seen s message.kind) ≡ true →
      IsQuietAt now message.to (kind_seen s message.kind) (hot_seen x (block_of message.kind) message.id.sender) → IsServed (row_at message)
  serves message to_is sim for quiet =
      subst (λ (h : HomeSide Line). IsServed (take (setup_seen s) p h message.id.sender (kind_seen s message.kind) (hot_seen x (block_of message.kind) message.id.sender))) home_is
      (subst (λ (a : ℕ). Serves (setup_seen s) (harts_seen image s) now w a (take (setup_seen s) a (home a) message.id.sender (kind_seen s message.kind) (hot_seen x (block_of message.kind) message.id.sender))) to_is
      (taken (setup_seen s) (harts_seen image s) now w (post_seen s message) (hot_seen x (block_of message.kind) message.id.sender) (setup_is s) sim for quiet))

  -- the frame is one of this home
  owned : (frame : Frame) (to : ℕ) → frame_number s frame < frame_count s → to ≡ frame_number s frame / s.frames → to ≡ p → IsAt s x frame
  owned frame to low routed to_is =
      let t = there_below s frame low in
      record { there = t; home = sym (ap (λ (f : Frame). f.home) (at_number s frame t)) ∙ sym routed ∙ to_is ∙ sym is.number }

  -- so the real test says
  own_frame : (frame : Frame) → IsAt s x frame → is_own_frame x frame ≡ true
  own_frame frame own = and_from _ _ (eq-eqb _ _ own.home) (lt-ltb _ _ (subst (λ n. frame.index < n) (sym is.frames) (there s frame own.there).1))

  -- the message has its row, and is served by rows of the theory
  abbrev Goal : Msg Kind → Type 0
  Goal message = (has_home_row x message message.kind ≡ true) × HomeGoes image s cpu home mover rest w p (serve x message)

  -- what is seen of what the home does is rows of the theory
  same_goes : (a : Answer Line) (served : Served) → a ≡ seen_of s p served → Goes (setup_seen s) (harts_seen image s) (answered now p a) w → HomeGoes image s cpu home mover rest w p served
  same_goes a served same goes = subst (λ (a : Answer Line). Goes (setup_seen s) (harts_seen image s) (answered now p a) w) same goes

  -- ---- a message about a block

  -- where the row is seen, it is there, and gives what is seen
  row_there : (message : Msg Kind) (b : Block) (own : IsAt s x b.frame) → (a : Answer Line) (o : Option Row) → table_row x b message ≡ o → option_map (served_row s p x b own is.nodes message.id.sender message.kind) o ≡ Some a →
      (is_some (table_row x b message) ≡ true) × (seen_of s p (serve_block x b message) ≡ a)
  unfolding serve_row
  row_there message b own a None row_is made = absurd (cc)
  row_there message b own a (Some r) row_is made = (
    ap is_some row_is,
    ap (λ (o : Option Row). seen_of s p (and_then_if (is_counted message.kind (by_row x b o).letters) (by_row x b o) (λ after. count_request after b message.id.sender))) row_is ∙ some_same _ a made,
  )

  -- then the message is served so
  block_goes : (message : Msg Kind) (b : Block) (own : IsAt s x b.frame) → has_home_row x message message.kind ≡ has_block_row x message (Some b) → serve x message ≡ serve_block x b message → b.number < 32 → is_from_its_sender s.nodes message ≡ true →
      row_at message ≡ option_map (served_row s p x b own is.nodes message.id.sender message.kind) (row_of s.nodes (x.line b.frame.index b.number) message (x.entry b.frame.index b.number)) → IsServed (row_at message) → Goal message
  block_goes message b own row_is serve_is number sender row_at_is (a, made, goes) =
      let both = row_there message b own a (row_of s.nodes (x.line b.frame.index b.number) message (x.entry b.frame.index b.number)) (ap (λ n. row_of n (x.line b.frame.index b.number) message (x.entry b.frame.index b.number)) is.nodes) (sym row_at_is ∙ made) in (
        row_is ∙ and_from _ _ (own_frame b.frame own) (and_from _ _ (lt-ltb _ _ number) (and_from _ _ (ap (λ n. is_from_its_sender n message) is.nodes ∙ sender) both.0)),
        same_goes a (serve x message) (sym (ap (seen_of s p) serve_is ∙ both.1)) goes,
      )

  -- ---- a cleaning, and a re-arming

  -- the sender is the mover
  from_mover : (q : ℕ) → q ≡ s.nodes → nat_eq q x.rules.nodes ≡ true
  from_mover q same = eq-eqb _ _ (same ∙ sym is.nodes)

  -- all blocks of the frame are poisoned
  cleaning : (frame : Frame) → IsAt s x frame → IsServed (serve_clean_frame (setup_seen s) p (home_seen s x) (frame_number s frame)) → (are_poisoned (x.entry frame.index) 32 ≡ true) × HomeGoes image s cpu home mover rest w p (clean_frame x frame)
  cleaning frame own (a, made, goes) = poisoned (are_seen_poisoned 32 ((home_seen s x).entry (frame_number s frame))) refl made
    where
      clean : Answer Line
      clean = (cleaned (home_seen s x) (frame_number s frame), letter p s.nodes (KFrameClean (frame_number s frame)) ∷ [])

      poisoned : (t : Bool) → are_seen_poisoned 32 ((home_seen s x).entry (frame_number s frame)) ≡ t → cond t (Some clean) None ≡ Some a → (are_poisoned (x.entry frame.index) 32 ≡ true) × HomeGoes image s cpu home mover rest w p (clean_frame x frame)
      poisoned true all is_a = (sym (poisoned_seen s x frame own 32) ∙ all, same_goes a (clean_frame x frame) (sym (some_same clean a is_a) ∙ clean_seen s x frame own p is.nodes) goes)
      poisoned false all is_a = absurd (cc)

  -- any frame of the home is re-armed
  rearming : (frame : Frame) → IsAt s x frame → IsServed (Some (seen_rearm (home_seen s x) (frame_number s frame), [])) → HomeGoes image s cpu home mover rest w p (rearm x frame)
  rearming frame own (a, made, goes) = same_goes a (rearm x frame) (sym (some_same _ a made) ∙ rearm_seen s x frame own p) goes

  -- ---- by kind: the frame and number are those of the theory's message, the sender that of its route

  -- a request finds the frame's mark
  quiet : (b : Block) (q to : ℕ) (own : IsAt s x b.frame) → to ≡ p → hot_seen x (Some b) q ≢ None → (home to).noticed (frame_number s b.frame) ≡ false
  quiet b q to own to_is some = ap (λ a. (home a).noticed (frame_number s b.frame)) to_is ∙ ap (λ (h : HomeSide Line). h.noticed (frame_number s b.frame)) home_is ∙ due_quiet s x b.frame own q some

  -- the sender is a node
  from_node : (q : ℕ) → q < s.nodes → nat_lt q s.nodes ≡ true
  from_node q low = lt-ltb q s.nodes low

  -- each kind
  kind_goes : (id : MsgId) (to : ℕ) (stamp : Stamp) (kind : Kind) → to ≡ p → is_for_home kind ≡ true → Shows image s cpu home mover (post_seen s (record { id = id; to = to; stamp = stamp; kind = kind }) ∷ rest) w → Goal (record { id = id; to = to; stamp = stamp; kind = kind })
  unfolding serve
  kind_goes id to stamp (Read b) to_is for sim =
      let pl = sim.flight.0.0 in
      let message : Msg Kind = record { id = id; to = to; stamp = stamp; kind = Read b } in
      let own = owned b.frame to pl.0.0 pl.1.1 to_is in
      block_goes message b own refl refl pl.0.1 (from_node id.sender pl.1.0) (ap Some (take_read_seen s p x b own is.nodes id.sender pl.1.0))
      (serves message to_is sim refl (quiet b id.sender to own to_is))
  kind_goes id to stamp (ReadEx b) to_is for sim =
      let pl = sim.flight.0.0 in
      let message : Msg Kind = record { id = id; to = to; stamp = stamp; kind = ReadEx b } in
      let own = owned b.frame to pl.0.0 pl.1.1 to_is in
      block_goes message b own refl refl pl.0.1 (from_node id.sender pl.1.0) (ap Some (take_read_exclusive_seen s p x b own is.nodes id.sender))
      (serves message to_is sim refl (quiet b id.sender to own to_is))
  kind_goes id to stamp (Upgrade b) to_is for sim =
      let pl = sim.flight.0.0 in
      let message : Msg Kind = record { id = id; to = to; stamp = stamp; kind = Upgrade b } in
      let own = owned b.frame to pl.0.0 pl.1.1 to_is in
      block_goes message b own refl refl pl.0.1 (from_node id.sender pl.1.0) (take_upgrade_seen s p x b own is.nodes id.sender pl.1.0)
      (serves message to_is sim refl (quiet b id.sender to own to_is))
  kind_goes id to stamp (WriteBack b l) to_is for sim =
      let pl = sim.flight.0.0 in
      let message : Msg Kind = record { id = id; to = to; stamp = stamp; kind = WriteBack b l } in
      let own = owned b.frame to pl.0.0 pl.1.1 to_is in
      block_goes message b own refl refl pl.0.1 (from_node id.sender pl.1.0)
      (ap (serve_back (setup_seen s) p (home_seen s x) (frame_number s b.frame) b.number id.sender l) (entry_here s x b.frame own b.number) ∙ write_back_seen s p x b own id.sender l (x.entry b.frame.index b.number) (is.names b.frame.index b.number))
      (serves message to_is sim refl tt)
  kind_goes id to stamp (SharingWriteBack b l) to_is for sim =
      let pl = sim.flight.0.0 in
      let message : Msg Kind = record { id = id; to = to; stamp = stamp; kind = SharingWriteBack b l } in
      let own = owned b.frame to pl.0.0 pl.1.1 to_is in
      block_goes message b own refl refl pl.0.1 (from_node id.sender pl.1.0)
      (ap (serve_sharing_write_back (setup_seen s) (home_seen s x) (frame_number s b.frame) b.number id.sender l) (entry_here s x b.frame own b.number) ∙ sharing_write_back_seen s p x b own id.sender l (x.entry b.frame.index b.number) (is.names b.frame.index b.number))
      (serves message to_is sim refl tt)
  kind_goes id to stamp (SharingTransfer b) to_is for sim =
      let pl = sim.flight.0.0 in
      let message : Msg Kind = record { id = id; to = to; stamp = stamp; kind = SharingTransfer b } in
      let own = owned b.frame to pl.0.0 pl.1.1 to_is in
      block_goes message b own refl refl pl.0.1 (from_node id.sender pl.1.0)
      (ap (serve_sharing_transfer (setup_seen s) (home_seen s x) (frame_number s b.frame) b.number id.sender) (entry_here s x b.frame own b.number) ∙ sharing_transfer_seen s p x b own id.sender (x.entry b.frame.index b.number) (is.names b.frame.index b.number))
      (serves message to_is sim refl tt)
  kind_goes id to stamp (DirtyTransfer b) to_is for sim =
      let pl = sim.flight.0.0 in
      let message : Msg Kind = record { id = id; to = to; stamp = stamp; kind = DirtyTransfer b } in
      let own = owned b.frame to pl.0.0 pl.1.1 to_is in
      block_goes message b own refl refl pl.0.1 (from_node id.sender pl.1.0)
      (ap (serve_dirty_transfer (home_seen s x) (frame_number s b.frame) b.number id.sender) (entry_here s x b.frame own b.number) ∙ dirty_transfer_seen s p x b own id.sender (x.entry b.frame.index b.number))
      (serves message to_is sim refl tt)
  kind_goes id to stamp (PoisonBack b l) to_is for sim =
      let pl = sim.flight.0.0 in
      let message : Msg Kind = record { id = id; to = to; stamp = stamp; kind = PoisonBack b l } in
      let own = owned b.frame to pl.0.0 pl.1.1 to_is in
      block_goes message b own refl refl pl.0.1 (from_node id.sender pl.1.0)
      (ap (serve_poison_back (setup_seen s) p (home_seen s x) (frame_number s b.frame) b.number id.sender l) (entry_here s x b.frame own b.number) ∙ poison_back_seen s p x b own id.sender l (x.entry b.frame.index b.number))
      (serves message to_is sim refl tt)
  kind_goes id to stamp (PoisonClean b) to_is for sim =
      let pl = sim.flight.0.0 in
      let message : Msg Kind = record { id = id; to = to; stamp = stamp; kind = PoisonClean b } in
      let own = owned b.frame to pl.0.0 pl.1.1 to_is in
      block_goes message b own refl refl pl.0.1 (from_node id.sender pl.1.0)
      (ap (serve_poison_clean (setup_seen s) p (home_seen s x) (frame_number s b.frame) b.number id.sender) (entry_here s x b.frame own b.number) ∙ poison_clean_seen s p x b own id.sender (x.entry b.frame.index b.number))
      (serves message to_is sim refl tt)
  kind_goes id to stamp (PoisonRead b) to_is for sim =
      let pl = sim.flight.0.0 in
      let message : Msg Kind = record { id = id; to = to; stamp = stamp; kind = PoisonRead b } in
      let own = owned b.frame to pl.0.0 pl.1.1 to_is in
      block_goes message b own refl refl pl.0.1 (eq-eqb _ _ pl.1.0)
      (ap (serve_poison_read (setup_seen s) p (home_seen s x) (frame_number s b.frame) b.number) (entry_here s x b.frame own b.number) ∙ poison_read_seen s p x b own (x.entry b.frame.index b.number) refl)
      (serves message to_is sim refl tt)
  kind_goes id to stamp (CopyIn b l) to_is for sim =
      let pl = sim.flight.0.0 in
      let message : Msg Kind = record { id = id; to = to; stamp = stamp; kind = CopyIn b l } in
      let own = owned b.frame to pl.1.2 pl.1.1 to_is in
      block_goes message b own refl refl pl.1.3 (eq-eqb _ _ pl.1.0)
      (ap (serve_copy_in (setup_seen s) p (home_seen s x) (frame_number s b.frame) b.number l) (entry_here s x b.frame own b.number) ∙ copy_in_seen s p x b own l (x.entry b.frame.index b.number))
      (serves message to_is sim refl tt)
  kind_goes id to stamp (CleanFrame frame) to_is for sim =
      let pl = sim.flight.0.0 in
      let message : Msg Kind = record { id = id; to = to; stamp = stamp; kind = CleanFrame frame } in
      let own = owned frame to pl.1.2 pl.1.1 to_is in
      let clean = cleaning frame own (serves message to_is sim refl tt) in
      (and_from _ _ (own_frame frame own) (and_from _ _ (from_mover id.sender pl.1.0) clean.0), clean.1)
  kind_goes id to stamp (Rearm frame) to_is for sim =
      let pl = sim.flight.0.0 in
      let message : Msg Kind = record { id = id; to = to; stamp = stamp; kind = Rearm frame } in
      let own = owned frame to pl.0.0 pl.1.1 to_is in
      (and_from _ _ (own_frame frame own) (from_mover id.sender pl.1.0), rearming frame own (serves message to_is sim refl tt))
  kind_goes id to stamp kind to_is for sim = absurd (cc)

-- each message
pub homes_take : (image : ImageState) (s : Sizes) (cpu : ℕ → Cpu Line Hart) (home : ℕ → HomeSide Line) (mover : Mover Line) (w : World Line) (p : ℕ) (x : HomeState) (message : Msg Kind) (rest : List (Post Line)) →
    IsHomeOf s p x → home p ≡ home_seen s x → message.to ≡ p → is_for_home message.kind ≡ true → Shows image s cpu home mover (post_seen s message ∷ rest) w →
    (has_home_row x message message.kind ≡ true) × HomeGoes image s cpu home mover rest w p (serve x message)
homes_take image s cpu home mover w p x message rest is home_is to_is for sim = kind_goes image s cpu home mover w p x rest is home_is message.id message.to message.stamp message.kind to_is for sim
