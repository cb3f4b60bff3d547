-- A home stays one: each row's entry names nodes that there are.
use Rattle.std.proofs.Common.{◌≡◌, ℕ, ◌<◌, Bool, true, false, cond, nat_eq, nat_lt, ◌&&◌, Option, None, Some, refl, sym, ap, ◌∙◌, subst}
use Rattle.std.specs.Prelude.{IfSome}
use Rattle.std.proofs.lemmas.Bool.{ltb-true}
use Rattle.og_base.specs.declared.Block.{Block}
use Rattle.og_base.specs.declared.Frame.{Frame}
use Rattle.og_base.specs.declared.Settings.{Settings}
use Rattle.og_runs.specs.declared.Msg.{Msg}
use Rattle.og_line.specs.declared.Line.{Line}
use Rattle.og_msg.specs.declared.Kind.{Kind}
use Rattle.og_msg.specs.declared.Kind.TheVariants.{Read, ReadEx, Upgrade, WriteBack, SharingWriteBack, SharingTransfer, DirtyTransfer, PoisonRead, PoisonBack, PoisonClean, CopyIn, CleanFrame, Rearm}
use Rattle.og_msg.specs.Kinds.{block_of, is_from_mover}
use Rattle.og_image.specs.Image.{ImageState}
use Rattle.og_image.specs.Layout.{LayoutState}
use Rattle.og_directory.specs.declared.entry.State.{State}
use Rattle.og_directory.specs.declared.entry.State.TheVariants.{Unowned, Shared, Exclusive, BusyShared, BusyExclusive, BusyPoison, Poison}
use Rattle.og_directory.specs.Table.{Row, NamesNodes, is_sharer, is_counted, row_of, kind_row, read_row, read_exclusive_row, upgrade_row, write_back_row, sharing_row, transfer_row, poisoned_row, poison_row, copy_row}
use Rattle.og_home.specs.Home.{HomeState, with_block, with_clean_frame, by_row, table_row, serve_row, count_request, rearm, clean_frame, and_then_if, serve_block, serve_named, serve_kind, serve}
use Rattle.og_home.specs.Start.{start_home}
use Rattle.og_node.specs.Rows.{is_from_its_sender}
use Rattle.og_seen.specs.Numbers.{Sizes}
use Rattle.og_seen.specs.Sound.{IsHomeOf}

-- ---- rows

-- the row's entry names nodes, if there is a row
abbrev Named : ℕ → Option Row → Type 0
Named n o = IfSome o (λ r. NamesNodes n r.entry)

-- of two rows
one_of : (n : ℕ) (t : Bool) (a b : Row) → NamesNodes n a.entry → NamesNodes n b.entry → NamesNodes n (cond t a b).entry
one_of n true a b named other = named
one_of n false a b named other = other

-- of two rows that may be none
either : (n : ℕ) (t : Bool) (a b : Option Row) → Named n a → Named n b → Named n (cond t a b)
either n true a b named other = named
either n false a b named other = other

module _ (n : ℕ) (m : Line) (q : ℕ) (b : Block) where
  read_named : (e : State) → q < n → NamesNodes n e → NamesNodes n (read_row n m q b e).entry
  read_named Unowned low names = low
  read_named (Shared t) low names = tt
  read_named (Exclusive o) low names = one_of n (nat_eq o q) _ _ names (names, low)
  read_named (BusyShared o r) low names = names
  read_named (BusyExclusive o r t) low names = names
  read_named (BusyPoison o) low names = names
  read_named Poison low names = tt

  read_exclusive_named : (e : State) → q < n → NamesNodes n e → NamesNodes n (read_exclusive_row n m q b e).entry
  read_exclusive_named Unowned low names = low
  read_exclusive_named (Shared t) low names = low
  read_exclusive_named (Exclusive o) low names = one_of n (nat_eq o q) _ _ names (names, low)
  read_exclusive_named (BusyShared o r) low names = names
  read_exclusive_named (BusyExclusive o r t) low names = names
  read_exclusive_named (BusyPoison o) low names = names
  read_exclusive_named Poison low names = tt

  upgrade_named : (e : State) → q < n → NamesNodes n e → Named n (upgrade_row n m q b e)
  upgrade_named Unowned low names = tt
  upgrade_named (Shared t) low names = either n (is_sharer n q t) _ _ low tt
  upgrade_named (Exclusive o) low names = either n (nat_eq o q) _ _ tt names
  upgrade_named (BusyShared o r) low names = names
  upgrade_named (BusyExclusive o r t) low names = names
  upgrade_named (BusyPoison o) low names = names
  upgrade_named Poison low names = tt

  write_back_named : (l : Line) (e : State) → NamesNodes n e → Named n (write_back_row n q b l e)
  write_back_named l Unowned names = tt
  write_back_named l (Shared t) names = tt
  write_back_named l (Exclusive o) names = either n (nat_eq o q) _ _ tt tt
  write_back_named l (BusyShared o r) names = either n (nat_eq o q) _ _ tt tt
  write_back_named l (BusyExclusive o r false) names = either n (nat_eq o q) _ _ names.1 (either n (nat_eq r q) _ _ names tt)
  write_back_named l (BusyExclusive o r true) names = tt
  write_back_named l (BusyPoison o) names = either n (nat_eq o q) _ _ tt tt
  write_back_named l Poison names = tt

  sharing_named : (l : Line) (e : State) → Named n (sharing_row n q l e)
  sharing_named l (BusyShared o r) = either n (nat_eq o q) _ _ tt tt
  sharing_named l Unowned = tt
  sharing_named l (Shared t) = tt
  sharing_named l (Exclusive o) = tt
  sharing_named l (BusyExclusive o r t) = tt
  sharing_named l (BusyPoison o) = tt
  sharing_named l Poison = tt

  transfer_named : (e : State) → NamesNodes n e → Named n (transfer_row m q e)
  transfer_named (BusyExclusive o r false) names = either n (nat_eq o q) _ _ names.1 tt
  transfer_named (BusyExclusive o r true) names = either n (nat_eq o q) _ _ tt tt
  transfer_named Unowned names = tt
  transfer_named (Shared t) names = tt
  transfer_named (Exclusive o) names = tt
  transfer_named (BusyShared o r) names = tt
  transfer_named (BusyPoison o) names = tt
  transfer_named Poison names = tt

  poisoned_named : (l : Line) (e : State) → Named n (poisoned_row n q b l e)
  poisoned_named l (BusyPoison o) = either n (nat_eq o q) _ _ tt tt
  poisoned_named l Unowned = tt
  poisoned_named l (Shared t) = tt
  poisoned_named l (Exclusive o) = tt
  poisoned_named l (BusyShared o r) = tt
  poisoned_named l (BusyExclusive o r t) = tt
  poisoned_named l Poison = tt

  poison_named : (e : State) → NamesNodes n e → Named n (poison_row n m b e)
  poison_named Unowned names = tt
  poison_named (Shared t) names = tt
  poison_named (Exclusive o) names = names
  poison_named (BusyShared o r) names = names
  poison_named (BusyExclusive o r t) names = names
  poison_named (BusyPoison o) names = tt
  poison_named Poison names = tt

  copy_named : (l : Line) (e : State) → Named n (copy_row n b l e)
  copy_named l Unowned = tt
  copy_named l (Shared t) = tt
  copy_named l (Exclusive o) = tt
  copy_named l (BusyShared o r) = tt
  copy_named l (BusyExclusive o r t) = tt
  copy_named l (BusyPoison o) = tt
  copy_named l Poison = tt

row_named : (n : ℕ) (m : Line) (q : ℕ) (kind : Kind) (e : State) → (is_from_mover kind ≡ false → q < n) → NamesNodes n e → Named n (kind_row n m q kind e)
row_named n m q (Read b) e sent names = read_named n m q b e (sent refl) names
row_named n m q (ReadEx b) e sent names = read_exclusive_named n m q b e (sent refl) names
row_named n m q (Upgrade b) e sent names = upgrade_named n m q b e (sent refl) names
row_named n m q (WriteBack b l) e sent names = write_back_named n m q b l e names
row_named n m q (SharingWriteBack b l) e sent names = sharing_named n m q b l e
row_named n m q (SharingTransfer b) e sent names = sharing_named n m q b m e
row_named n m q (DirtyTransfer b) e sent names = transfer_named n m q b e names
row_named n m q (PoisonRead b) e sent names = poison_named n m q b e names
row_named n m q (PoisonBack b l) e sent names = poisoned_named n m q b l e
row_named n m q (PoisonClean b) e sent names = poisoned_named n m q b m e
row_named n m q (CopyIn b l) e sent names = copy_named n m q b l e
row_named n m q kind e sent names = tt

-- ---- homes

-- a home with these entries
same_names : (s : Sizes) (p : ℕ) (x y : HomeState) → IsHomeOf s p x → y.rules ≡ x.rules → ((i k : ℕ) → NamesNodes s.nodes (y.entry i k)) → IsHomeOf s p y
same_names s p x y is rules names = record {
  number = ap (λ r. r.home) rules ∙ is.number;
  nodes = ap (λ r. r.nodes) rules ∙ is.nodes;
  frames = ap (λ r. r.frames) rules ∙ is.frames;
  names = names;
}

module _ (s : Sizes) (p : ℕ) where
  by_row_stays : (x : HomeState) (b : Block) (o : Option Row) → IsHomeOf s p x → Named s.nodes o → IsHomeOf s p (by_row x b o).home
  by_row_stays x b None is named = is
  by_row_stays x b (Some r) is named = same_names s p x (with_block x b.frame.index b.number r.entry r.line) is refl (λ i k. at i k (nat_eq i b.frame.index && nat_eq k b.number))
    where
      at : (i k : ℕ) (t : Bool) → NamesNodes s.nodes (cond t r.entry (x.entry i k))
      at i k true = named
      at i k false = is.names i k

  count_stays : (x : HomeState) (b : Block) (q : ℕ) → IsHomeOf s p x → IsHomeOf s p (count_request x b q).home
  unfolding count_request
  count_stays x b q is = same_names s p x (count_request x b q).home is refl is.names

  rearm_stays : (x : HomeState) (frame : Frame) → IsHomeOf s p x → IsHomeOf s p (rearm x frame).home
  unfolding rearm
  rearm_stays x frame is = same_names s p x (rearm x frame).home is refl is.names

  clean_stays : (x : HomeState) (frame : Frame) → IsHomeOf s p x → IsHomeOf s p (clean_frame x frame).home
  unfolding clean_frame
  clean_stays x frame is = rearm_stays (with_clean_frame x frame.index) frame (same_names s p x (with_clean_frame x frame.index) is refl (λ i k. at i k (nat_eq i frame.index)))
    where
      at : (i k : ℕ) (t : Bool) → NamesNodes s.nodes (cond {A = ℕ → State} t (λ number. Unowned) (x.entry i) k)
      at i k true = tt
      at i k false = is.names i k

  -- a message about a block
  block_stays : (x : HomeState) (b : Block) (message : Msg Kind) → IsHomeOf s p x → (is_from_mover message.kind ≡ false → message.id.sender < s.nodes) → IsHomeOf s p (serve_block x b message).home
  unfolding serve_row
  block_stays x b message is sent = by (is_counted message.kind (serve_row x b message).letters)
    where
      named : Named s.nodes (table_row x b message)
      named = subst (λ (n : ℕ). Named s.nodes (row_of n (x.line b.frame.index b.number) message (x.entry b.frame.index b.number))) (sym is.nodes) (row_named s.nodes (x.line b.frame.index b.number) message.id.sender message.kind (x.entry b.frame.index b.number) sent (is.names b.frame.index b.number))

      after : IsHomeOf s p (serve_row x b message).home
      after = by_row_stays x b (table_row x b message) is named

      by : (t : Bool) → IsHomeOf s p (and_then_if t (serve_row x b message) (λ after. count_request after b message.id.sender)).home
      by true = count_stays (serve_row x b message).home b message.id.sender after
      by false = after

  named_stays : (x : HomeState) (message : Msg Kind) (o : Option Block) → IsHomeOf s p x → (is_from_mover message.kind ≡ false → message.id.sender < s.nodes) → IsHomeOf s p (serve_named x message o).home
  named_stays x message None is sent = is
  named_stays x message (Some b) is sent = block_stays x b message is sent

  kind_stays : (x : HomeState) (message : Msg Kind) (kind : Kind) → IsHomeOf s p x → (is_from_mover message.kind ≡ false → message.id.sender < s.nodes) → IsHomeOf s p (serve_kind x message kind).home
  kind_stays x message (CleanFrame frame) is sent = clean_stays x frame is
  kind_stays x message (Rearm frame) is sent = rearm_stays x frame is
  kind_stays x message kind is sent = named_stays x message (block_of kind) is sent

  -- a message, from a sender that sends its kind
  pub serve_stays : (x : HomeState) (message : Msg Kind) → IsHomeOf s p x → is_from_its_sender s.nodes message ≡ true → IsHomeOf s p (serve x message).home
  unfolding serve
  serve_stays x message is sender = kind_stays x message message.kind is (λ node. by (is_from_mover message.kind) node sender)
    where
      by : (t : Bool) → t ≡ false → cond t (nat_eq message.id.sender s.nodes) (nat_lt message.id.sender s.nodes) ≡ true → message.id.sender < s.nodes
      by true node sender = absurd (cc)
      by false node sender = ltb-true message.id.sender s.nodes sender

  -- the home at the start
  pub start_stays : (image : ImageState) (layout : LayoutState) (settings : Settings) → settings.nodes ≡ s.nodes → settings.frames ≡ s.frames → IsHomeOf s p (start_home image layout settings p)
  unfolding start_home
  start_stays image layout settings nodes frames = record { number = refl; nodes = nodes; frames = frames; names = λ i k. tt }
