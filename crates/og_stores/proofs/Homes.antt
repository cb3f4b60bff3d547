-- A home copies lines: its own, or its message's.
use Rattle.std.proofs.Common.{◌≤◌, ◌+◌, ◌*◌, ℕ, Bool, true, false, nat_eq, Option, None, Some, [], ◌∷◌, length, map, arith}
use Rattle.std.specs.Prelude.{◌&&◌, nat_lt, slice_get, if◌then◌else◌}
use Rattle.std.specs.FinSet as set
use Rattle.og_base.specs.declared.Block.{Block}
use Rattle.og_base.specs.declared.Hot.{Hot as Notice}
use Rattle.og_base.specs.declared.Settings.{Settings}
use Rattle.og_base.specs.Groups.{group_size}
use Rattle.og_runs.specs.declared.Msg.{Msg}
use Rattle.og_line.specs.declared.Line.{Line}
use Rattle.og_line.specs.Line.{zero_line}
use Rattle.og_msg.specs.declared.Kind.{Kind}
use Rattle.og_msg.specs.declared.Kind.TheVariants.{Read, ReadEx, Upgrade, WriteBack, ExclusiveReply, UpgradeReply, WbAck, WbBusyAck, SharedResponse, ExclusiveResponse, Invalidate, InterveneShared, InterveneEx, SpecReply, SharingWriteBack, PoisonBack, SharingTransfer, DirtyTransfer, PoisonClean, PoisonRead, PoisonReply, CopyIn, CleanFrame, Rearm, Nak}
use Rattle.og_msg.specs.Kinds.{block_of}
use Rattle.og_image.specs.Image.{ImageState}
use Rattle.og_image.specs.Layout.{LayoutState}
use Rattle.og_directory.specs.declared.entry.State.{State}
use Rattle.og_directory.specs.declared.entry.State.TheVariants.{Unowned, Shared, Exclusive, BusyShared, BusyExclusive, BusyPoison, Poison}
use Rattle.og_directory.specs.Table.{Row, Groups, row, to, with_node, is_sharer, sharers_but, invalidating, read_row, read_exclusive_row, grant, upgrade_row, write_back_row, sharing_row, transfer_row, poisoned_row, poison_row, copy_row, kind_row, is_counted}
use Rattle.og_home.specs.Home.{HomeState, Served, table_row, by_row, serve_row, notice_letters, count_request, rearm, clean_frame, and_then_if, serve_block, serve_named, serve_kind, serve}
use Rattle.og_home.specs.Start.{placed_line, first_line, start_home}
use Rattle.og_stores.specs.Stores.{FewInKind, FewInHome}
use Rattle.og_stores.proofs.Letters.{FewInLetters, both_letters, told_letters}

-- ---- rows

-- the home's line afterwards, and those of the letters
abbrev FewInRow : ℕ → Row → Type 0
FewInRow n r = (r.line.stores ≤ n) × FewInLetters n r.letters

abbrev FewIfRow : ℕ → Option Row → Type 0
FewIfRow n None = Unit {0}
FewIfRow n (Some r) = FewInRow n r

-- a row that there is where a test passes
when : (n : ℕ) (t : Bool) (r : Row) → FewInRow n r → FewIfRow n (if t then Some r else None)
when n true r h = h
when n false r h = tt

-- one row or another
either : (n : ℕ) (t : Bool) (r s : Row) → FewInRow n r → FewInRow n s → FewInRow n (if t then r else s)
either n true r s h k = h
either n false r s h k = k

-- an invalidation to each sharer, and an answer
invalidating_few : (n nodes : ℕ) (b : Block) (p : ℕ) (s : Groups) (answer : ℕ → Kind) → ((k : ℕ) → FewInKind n (answer k)) → FewInLetters n (invalidating nodes b p s answer)
invalidating_few n nodes b p s answer few = both_letters n (map (λ q. to q (Invalidate b p)) (sharers_but nodes p s)) (to p (answer (length (sharers_but nodes p s))) ∷ []) (told_letters n (λ q. to q (Invalidate b p)) (λ q. tt) (sharers_but nodes p s)) (few (length (sharers_but nodes p s)), tt)

read_few : (n nodes : ℕ) (m : Line) (p : ℕ) (b : Block) (e : State) → m.stores ≤ n → FewInRow n (read_row nodes m p b e)
read_few n nodes m p b Unowned h = (h, (h, tt))
read_few n nodes m p b (Shared s) h = (h, (h, tt))
read_few n nodes m p b (Exclusive q) h = either n (nat_eq q p) (row (Exclusive q) m (to p (ExclusiveReply b m 0) ∷ [])) (row (BusyShared q p) m (to q (InterveneShared b p) ∷ to p (SpecReply b m) ∷ [])) (h, (h, tt)) (h, (tt, (h, tt)))
read_few n nodes m p b (BusyShared q r) h = (h, (tt, tt))
read_few n nodes m p b (BusyExclusive q r t) h = (h, (tt, tt))
read_few n nodes m p b (BusyPoison q) h = (h, (tt, tt))
read_few n nodes m p b Poison h = (h, (tt, tt))

read_exclusive_few : (n nodes : ℕ) (m : Line) (p : ℕ) (b : Block) (e : State) → m.stores ≤ n → FewInRow n (read_exclusive_row nodes m p b e)
read_exclusive_few n nodes m p b Unowned h = (h, (h, tt))
read_exclusive_few n nodes m p b (Shared s) h = (h, invalidating_few n nodes b p s (λ k. ExclusiveReply b m k) (λ k. h))
read_exclusive_few n nodes m p b (Exclusive q) h = either n (nat_eq q p) (row (Exclusive q) m (to p (ExclusiveReply b m 0) ∷ [])) (row (BusyExclusive q p false) m (to q (InterveneEx b p) ∷ to p (SpecReply b m) ∷ [])) (h, (h, tt)) (h, (tt, (h, tt)))
read_exclusive_few n nodes m p b (BusyShared q r) h = (h, (tt, tt))
read_exclusive_few n nodes m p b (BusyExclusive q r t) h = (h, (tt, tt))
read_exclusive_few n nodes m p b (BusyPoison q) h = (h, (tt, tt))
read_exclusive_few n nodes m p b Poison h = (h, (tt, tt))

grant_few : (n nodes : ℕ) (b : Block) (m : Line) (k : ℕ) → m.stores ≤ n → FewInKind n (grant nodes b m k)
grant_few n nodes b m k h = by (nat_eq (group_size nodes) 1)
  where
    by : (t : Bool) → FewInKind n (if t then UpgradeReply b k else ExclusiveReply b m k)
    by true = tt
    by false = h

upgrade_few : (n nodes : ℕ) (m : Line) (p : ℕ) (b : Block) (e : State) → m.stores ≤ n → FewIfRow n (upgrade_row nodes m p b e)
upgrade_few n nodes m p b Unowned h = (h, (tt, tt))
upgrade_few n nodes m p b (Shared s) h = by (is_sharer nodes p s)
  where
    by : (t : Bool) → FewIfRow n (if t then Some (row (Exclusive p) m (invalidating nodes b p s (grant nodes b m))) else Some (row (Shared s) m (to p (Nak b) ∷ [])))
    by true = (h, invalidating_few n nodes b p s (grant nodes b m) (λ k. grant_few n nodes b m k h))
    by false = (h, (tt, tt))
upgrade_few n nodes m p b (Exclusive q) h = by (nat_eq q p)
  where
    by : (t : Bool) → FewIfRow n (if t then None else Some (row (Exclusive q) m (to p (Nak b) ∷ [])))
    by true = tt
    by false = (h, (tt, tt))
upgrade_few n nodes m p b (BusyShared q r) h = (h, (tt, tt))
upgrade_few n nodes m p b (BusyExclusive q r t) h = (h, (tt, tt))
upgrade_few n nodes m p b (BusyPoison q) h = (h, (tt, tt))
upgrade_few n nodes m p b Poison h = (h, (tt, tt))

write_back_few : (n nodes p : ℕ) (b : Block) (l : Line) (e : State) → l.stores ≤ n → FewIfRow n (write_back_row nodes p b l e)
write_back_few n nodes p b l Unowned h = tt
write_back_few n nodes p b l (Shared s) h = tt
write_back_few n nodes p b l (Exclusive q) h = when n (nat_eq q p) (row Unowned l (to p (WbAck b) ∷ [])) (h, (tt, tt))
write_back_few n nodes p b l (BusyShared q r) h = when n (nat_eq q p) (row (Shared (with_node nodes r set.empty)) l (to r (SharedResponse b l) ∷ to p (WbBusyAck b) ∷ [])) (h, (h, (tt, tt)))
write_back_few n nodes p b l (BusyExclusive q r false) h = by (nat_eq q p)
  where
    by : (t : Bool) → FewIfRow n (if t then Some (row (Exclusive r) l (to r (ExclusiveResponse b l) ∷ to p (WbBusyAck b) ∷ [])) else if nat_eq r p then Some (row (BusyExclusive q r true) l (to p (WbAck b) ∷ [])) else None)
    by true = (h, (h, (tt, tt)))
    by false = when n (nat_eq r p) (row (BusyExclusive q r true) l (to p (WbAck b) ∷ [])) (h, (tt, tt))
write_back_few n nodes p b l (BusyExclusive q r true) h = tt
write_back_few n nodes p b l (BusyPoison q) h = when n (nat_eq q p) (row Poison l (to nodes (PoisonReply b l 0) ∷ to p (WbBusyAck b) ∷ [])) (h, (h, (tt, tt)))
write_back_few n nodes p b l Poison h = tt

sharing_few : (n nodes p : ℕ) (l : Line) (e : State) → l.stores ≤ n → FewIfRow n (sharing_row nodes p l e)
sharing_few n nodes p l (BusyShared q r) h = when n (nat_eq q p) (row (Shared (with_node nodes r (with_node nodes q set.empty))) l []) (h, tt)
sharing_few n nodes p l e h = tt

transfer_few : (n p : ℕ) (m : Line) (e : State) → m.stores ≤ n → FewIfRow n (transfer_row m p e)
transfer_few n p m (BusyExclusive q r false) h = when n (nat_eq q p) (row (Exclusive r) m []) (h, tt)
transfer_few n p m (BusyExclusive q r true) h = when n (nat_eq q p) (row Unowned m []) (h, tt)
transfer_few n p m e h = tt

poisoned_few : (n nodes p : ℕ) (b : Block) (l : Line) (e : State) → l.stores ≤ n → FewIfRow n (poisoned_row nodes p b l e)
poisoned_few n nodes p b l (BusyPoison q) h = when n (nat_eq q p) (row Poison l (to nodes (PoisonReply b l 0) ∷ [])) (h, (h, tt))
poisoned_few n nodes p b l e h = tt

poison_few : (n nodes : ℕ) (m : Line) (b : Block) (e : State) → m.stores ≤ n → FewIfRow n (poison_row nodes m b e)
poison_few n nodes m b Unowned h = (h, (h, tt))
poison_few n nodes m b (Shared s) h = (h, invalidating_few n nodes b nodes s (λ k. PoisonReply b m k) (λ k. h))
poison_few n nodes m b (Exclusive q) h = (h, (tt, tt))
poison_few n nodes m b (BusyShared q r) h = (h, (tt, tt))
poison_few n nodes m b (BusyExclusive q r t) h = (h, (tt, tt))
poison_few n nodes m b (BusyPoison q) h = tt
poison_few n nodes m b Poison h = tt

copy_few : (n nodes : ℕ) (b : Block) (l : Line) (e : State) → l.stores ≤ n → FewIfRow n (copy_row nodes b l e)
copy_few n nodes b l Unowned h = (h, (tt, tt))
copy_few n nodes b l e h = tt

-- a row's lines are the home's and the message's
row_few : (n nodes : ℕ) (m : Line) (p : ℕ) (k : Kind) (e : State) → m.stores ≤ n → FewInKind n k → FewIfRow n (kind_row nodes m p k e)
row_few n nodes m p (Read b) e h c = read_few n nodes m p b e h
row_few n nodes m p (ReadEx b) e h c = read_exclusive_few n nodes m p b e h
row_few n nodes m p (Upgrade b) e h c = upgrade_few n nodes m p b e h
row_few n nodes m p (WriteBack b l) e h c = write_back_few n nodes p b l e c
row_few n nodes m p (SharingWriteBack b l) e h c = sharing_few n nodes p l e c
row_few n nodes m p (SharingTransfer b) e h c = sharing_few n nodes p m e h
row_few n nodes m p (DirtyTransfer b) e h c = transfer_few n p m e h
row_few n nodes m p (PoisonRead b) e h c = poison_few n nodes m b e h
row_few n nodes m p (PoisonBack b l) e h c = poisoned_few n nodes p b l e c
row_few n nodes m p (PoisonClean b) e h c = poisoned_few n nodes p b m e h
row_few n nodes m p (CopyIn b l) e h c = copy_few n nodes b l e c
row_few n nodes m p k e h c = tt

-- ---- messages

pub record Serves (n : ℕ) (made : Served) : Type 0 where
  pub home : FewInHome n made.home
  pub letters : FewInLetters n made.letters

by_row_few : (n : ℕ) (home : HomeState) (b : Block) (o : Option Row) → FewInHome n home → FewIfRow n o → Serves n (by_row home b o)
by_row_few n home b None few h = record { home = few; letters = tt }
by_row_few n home b (Some r) few h = record { home = λ i k. by i k (nat_eq i b.frame.index && nat_eq k b.number); letters = h.1 }
  where
    by : (i k : ℕ) (t : Bool) → (if t then r.line else home.line i k).stores ≤ n
    by i k true = h.0
    by i k false = few i k

serve_row_few : (n : ℕ) (home : HomeState) (b : Block) (message : Msg Kind) → FewInHome n home → FewInKind n message.kind → Serves n (serve_row home b message)
unfolding serve_row
serve_row_few n home b message few h = by_row_few n home b (table_row home b message) few (row_few n home.rules.nodes (home.line b.frame.index b.number) message.id.sender message.kind (home.entry b.frame.index b.number) (few b.frame.index b.number) h)

notice_few : (n nodes : ℕ) (o : Option Notice) → FewInLetters n (notice_letters nodes o)
notice_few n nodes None = tt
notice_few n nodes (Some notice) = (tt, tt)

-- counters are no lines
block_few : (n : ℕ) (home : HomeState) (b : Block) (message : Msg Kind) → FewInHome n home → FewInKind n message.kind → Serves n (serve_block home b message)
unfolding count_request
block_few n home b message few h = by (is_counted message.kind (serve_row home b message).letters) (serve_row_few n home b message few h)
  where
    by : (t : Bool) → Serves n (serve_row home b message) → Serves n (and_then_if t (serve_row home b message) (λ after. count_request after b message.id.sender))
    by true s = record { home = s.home; letters = both_letters n (serve_row home b message).letters _ s.letters (notice_few n _ _) }
    by false s = s

named_few : (n : ℕ) (home : HomeState) (message : Msg Kind) (o : Option Block) → FewInHome n home → FewInKind n message.kind → Serves n (serve_named home message o)
named_few n home message None few h = record { home = few; letters = tt }
named_few n home message (Some b) few h = block_few n home b message few h

pub serve_few : (n : ℕ) (home : HomeState) (message : Msg Kind) → FewInHome n home → FewInKind n message.kind → Serves n (serve home message)
unfolding serve rearm clean_frame
serve_few n home message few h = by message.kind
  where
    by : (k : Kind) → Serves n (serve_kind home message k)
    by (CleanFrame f) = record { home = few; letters = (tt, tt) }
    by (Rearm f) = record { home = few; letters = tt }
    by k = named_few n home message (block_of k) few h

-- ---- the start

pub start_home_few : (n : ℕ) (image : ImageState) (layout : LayoutState) (settings : Settings) (q : ℕ) → FewInHome n (start_home image layout settings q)
unfolding start_home
start_home_few n image layout settings q index number = by (nat_lt index settings.frames && nat_lt number 32)
  where
    placed : (o : Option ℕ) → (placed_line image number o).stores ≤ n
    placed None = omega arith
    placed (Some page) = omega arith

    by : (t : Bool) → (if t then first_line image layout q index number else zero_line).stores ≤ n
    by true = placed (slice_get layout.pages (index * layout.nodes + q))
    by false = omega arith
