-- The home's table: what a home makes of a message about one of its blocks, from node or mover p, in a machine of n nodes.
-- m is the home's line. The mover's number is n.
use Rattle.std.specs.Prelude.{ℕ, ◌<◌, ◌≡◌, Bool, true, false, not, ◌&&◌, nat_eq, if◌then◌else◌, Option, None, Some, List, [], ◌∷◌, ◌++◌, length, map, MatchBool}
use Rattle.std.specs.List.{filter, list_any}
use Rattle.std.specs.Ordering.{nat_cmp}
use Rattle.std.specs.FinSet as set
use Rattle.og_base.specs.declared.Block.{Block}
use Rattle.og_base.specs.Groups.{group_of, group_size}
use Rattle.og_base.specs.Numbers.{below}
use Rattle.og_runs.specs.declared.Letter.{Letter}
use Rattle.og_runs.specs.declared.Msg.{Msg}
use Rattle.og_line.specs.declared.Line.{Line}
use Rattle.og_msg.specs.Kinds.{is_from_mover}
use Rattle.og_msg.specs.declared.Kind.{Kind}
use Rattle.og_msg.specs.declared.Kind.TheVariants.{Read, ReadEx, Upgrade, WriteBack, SharedReply, SpecReply, ExclusiveReply, UpgradeReply, Nak, PoisonError, WbAck, WbBusyAck, InterveneShared, InterveneEx, IntervenePoison, Invalidate, SharedResponse, ExclusiveResponse, SharingWriteBack, PoisonBack, SharingTransfer, DirtyTransfer, PoisonClean, PoisonRead, PoisonReply, CopyIn, CopyDone}
use Rattle.og_sharers.specs.Sets.{is_other}
use Rattle.og_directory.specs.declared.entry.State.{State}
use Rattle.og_directory.specs.declared.entry.State.TheVariants.{Unowned, Shared, Exclusive, BusyShared, BusyExclusive, BusyPoison, Poison}

-- what a row makes: the block's state and the home's line afterwards, and the letters, in the order in which they are sent
pub record Row : Type 0 where
  pub entry : State
  pub line : Line
  pub letters : List (Letter Kind)

abbrev pub row : State → Line → List (Letter Kind) → Row
row entry line letters = record { entry = entry; line = line; letters = letters }

abbrev pub to : ℕ → Kind → Letter Kind
to node kind = record { to = node; kind = kind }

-- ------------------------------------------------------------ sharers

abbrev pub Groups : Type 0
Groups = set.FinSet nat_cmp

-- S with p: p's group is put in
abbrev pub with_node : ℕ → ℕ → Groups → Groups
with_node n p s = set.insert s (group_of n p)

-- p is in S: its group is
abbrev pub is_sharer : ℕ → ℕ → Groups → Bool
is_sharer n p s = set.contains s (group_of n p)

-- each of S without p, rising
unfoldable pub sharers_but : ℕ → ℕ → Groups → List ℕ
sharers_but n p s = filter (is_other s p n) (below n)

-- an invalidation for p to each of S without p, rising, and then an answer that says how many they are
abbrev pub invalidating : ℕ → Block → ℕ → Groups → (ℕ → Kind) → List (Letter Kind)
invalidating n b p s answer = map (λ q. to q (Invalidate b p)) (sharers_but n p s) ++ to p (answer (length (sharers_but n p s))) ∷ []

-- ------------------------------------------------------------ requests of nodes

abbrev pub read_row : ℕ → Line → ℕ → Block → State → Row
read_row n m p b Unowned = row (Exclusive p) m (to p (ExclusiveReply b m 0) ∷ [])
read_row n m p b (Shared s) = row (Shared (with_node n p s)) m (to p (SharedReply b m) ∷ [])
read_row n m p b (Exclusive q) =
    if nat_eq q p then row (Exclusive q) m (to p (ExclusiveReply b m 0) ∷ [])
    else row (BusyShared q p) m (to q (InterveneShared b p) ∷ to p (SpecReply b m) ∷ [])
read_row n m p b (BusyShared q r) = row (BusyShared q r) m (to p (Nak b) ∷ [])
read_row n m p b (BusyExclusive q r t) = row (BusyExclusive q r t) m (to p (Nak b) ∷ [])
read_row n m p b (BusyPoison q) = row (BusyPoison q) m (to p (Nak b) ∷ [])
read_row n m p b Poison = row Poison m (to p (PoisonError b) ∷ [])

abbrev pub read_exclusive_row : ℕ → Line → ℕ → Block → State → Row
read_exclusive_row n m p b Unowned = row (Exclusive p) m (to p (ExclusiveReply b m 0) ∷ [])
read_exclusive_row n m p b (Shared s) = row (Exclusive p) m (invalidating n b p s (λ k. ExclusiveReply b m k))
read_exclusive_row n m p b (Exclusive q) =
    if nat_eq q p then row (Exclusive q) m (to p (ExclusiveReply b m 0) ∷ [])
    else row (BusyExclusive q p false) m (to q (InterveneEx b p) ∷ to p (SpecReply b m) ∷ [])
read_exclusive_row n m p b (BusyShared q r) = row (BusyShared q r) m (to p (Nak b) ∷ [])
read_exclusive_row n m p b (BusyExclusive q r t) = row (BusyExclusive q r t) m (to p (Nak b) ∷ [])
read_exclusive_row n m p b (BusyPoison q) = row (BusyPoison q) m (to p (Nak b) ∷ [])
read_exclusive_row n m p b Poison = row Poison m (to p (PoisonError b) ∷ [])

-- a granted upgrade needs no line where a bit of the set is a node: the node has its copy still. Where a bit is a group
-- the node may have none
abbrev pub grant : ℕ → Block → Line → ℕ → Kind
grant n b m k = if nat_eq (group_size n) 1 then UpgradeReply b k else ExclusiveReply b m k

abbrev pub upgrade_row : ℕ → Line → ℕ → Block → State → Option Row
upgrade_row n m p b Unowned = Some (row Unowned m (to p (Nak b) ∷ []))
upgrade_row n m p b (Shared s) =
    if is_sharer n p s then Some (row (Exclusive p) m (invalidating n b p s (grant n b m)))
    else Some (row (Shared s) m (to p (Nak b) ∷ []))
upgrade_row n m p b (Exclusive q) = if nat_eq q p then None else Some (row (Exclusive q) m (to p (Nak b) ∷ []))
upgrade_row n m p b (BusyShared q r) = Some (row (BusyShared q r) m (to p (Nak b) ∷ []))
upgrade_row n m p b (BusyExclusive q r t) = Some (row (BusyExclusive q r t) m (to p (Nak b) ∷ []))
upgrade_row n m p b (BusyPoison q) = Some (row (BusyPoison q) m (to p (Nak b) ∷ []))
upgrade_row n m p b Poison = Some (row Poison m (to p (PoisonError b) ∷ []))

-- ------------------------------------------------------------ write-backs and revisions of nodes, with the line l

abbrev pub write_back_row : ℕ → ℕ → Block → Line → State → Option Row
write_back_row n p b l Unowned = None
write_back_row n p b l (Shared s) = None
write_back_row n p b l (Exclusive q) = if nat_eq q p then Some (row Unowned l (to p (WbAck b) ∷ [])) else None
write_back_row n p b l (BusyShared q r) =
    if nat_eq q p then Some (row (Shared (with_node n r set.empty)) l (to r (SharedResponse b l) ∷ to p (WbBusyAck b) ∷ [])) else None
write_back_row n p b l (BusyExclusive q r false) =
    if nat_eq q p then Some (row (Exclusive r) l (to r (ExclusiveResponse b l) ∷ to p (WbBusyAck b) ∷ []))
    else if nat_eq r p then Some (row (BusyExclusive q r true) l (to p (WbAck b) ∷ []))
    else None
write_back_row n p b l (BusyExclusive q r true) = None
write_back_row n p b l (BusyPoison q) =
    if nat_eq q p then Some (row Poison l (to n (PoisonReply b l 0) ∷ to p (WbBusyAck b) ∷ [])) else None
write_back_row n p b l Poison = None

-- the owner shares the block: l is its line, or else the home's
abbrev pub sharing_row : ℕ → ℕ → Line → State → Option Row
sharing_row n p l (BusyShared q r) = if nat_eq q p then Some (row (Shared (with_node n r (with_node n q set.empty))) l []) else None
sharing_row n p l _ = None

abbrev pub transfer_row : Line → ℕ → State → Option Row
transfer_row m p (BusyExclusive q r false) = if nat_eq q p then Some (row (Exclusive r) m []) else None
transfer_row m p (BusyExclusive q r true) = if nat_eq q p then Some (row Unowned m []) else None
transfer_row m p _ = None

-- the owner gives the block to the mover: l is its line, or else the home's
abbrev pub poisoned_row : ℕ → ℕ → Block → Line → State → Option Row
poisoned_row n p b l (BusyPoison q) = if nat_eq q p then Some (row Poison l (to n (PoisonReply b l 0) ∷ [])) else None
poisoned_row n p b l _ = None

-- ------------------------------------------------------------ messages of the mover

abbrev pub poison_row : ℕ → Line → Block → State → Option Row
poison_row n m b Unowned = Some (row Poison m (to n (PoisonReply b m 0) ∷ []))
poison_row n m b (Shared s) = Some (row Poison m (invalidating n b n s (λ k. PoisonReply b m k)))
poison_row n m b (Exclusive q) = Some (row (BusyPoison q) m (to q (IntervenePoison b) ∷ []))
poison_row n m b (BusyShared q r) = Some (row (BusyShared q r) m (to n (Nak b) ∷ []))
poison_row n m b (BusyExclusive q r t) = Some (row (BusyExclusive q r t) m (to n (Nak b) ∷ []))
poison_row n m b (BusyPoison q) = None
poison_row n m b Poison = None

abbrev pub copy_row : ℕ → Block → Line → State → Option Row
copy_row n b l Unowned = Some (row Unowned l (to n (CopyDone b) ∷ []))
copy_row n b l _ = None

-- ------------------------------------------------------------ the table

-- the row of a message of this kind from p at this state; no other pair has one
abbrev pub kind_row : ℕ → Line → ℕ → Kind → State → Option Row
kind_row n m p (Read b) e = Some (read_row n m p b e)
kind_row n m p (ReadEx b) e = Some (read_exclusive_row n m p b e)
kind_row n m p (Upgrade b) e = upgrade_row n m p b e
kind_row n m p (WriteBack b l) e = write_back_row n p b l e
kind_row n m p (SharingWriteBack b l) e = sharing_row n p l e
kind_row n m p (SharingTransfer b) e = sharing_row n p m e
kind_row n m p (DirtyTransfer b) e = transfer_row m p e
kind_row n m p (PoisonRead b) e = poison_row n m b e
kind_row n m p (PoisonBack b l) e = poisoned_row n p b l e
kind_row n m p (PoisonClean b) e = poisoned_row n p b m e
kind_row n m p (CopyIn b l) e = copy_row n b l e
kind_row n m p _ e = None

-- the row of a message
abbrev pub row_of : ℕ → Line → Msg Kind → State → Option Row
row_of n m msg e = kind_row n m msg.id.sender msg.kind e

-- ------------------------------------------------------------ what counts

abbrev pub is_request : Kind → Bool
is_request (Read b) = true
is_request (ReadEx b) = true
is_request (Upgrade b) = true
is_request _ = false

abbrev pub is_refusal : Letter Kind → Bool
is_refusal letter = refuses letter.kind
  where
    refuses : Kind → Bool
    refuses (Nak b) = true
    refuses (PoisonError b) = true
    refuses _ = false

-- a request counts unless it is refused
abbrev pub is_counted : Kind → List (Letter Kind) → Bool
is_counted kind letters = is_request kind && not (list_any is_refusal letters)

-- ------------------------------------------------------------ conditions

-- the mover sends its own kinds, and nodes all others
abbrev pub IsFromItsSender : ℕ → Msg Kind → Type 0
IsFromItsSender n msg = MatchBool (is_from_mover msg.kind) (msg.id.sender ≡ n) (msg.id.sender < n)

-- the nodes that an entry names are nodes of the machine
abbrev pub NamesNodes : ℕ → State → Type 0
NamesNodes n Unowned = Unit {0}
NamesNodes n (Shared s) = Unit {0}
NamesNodes n (Exclusive q) = q < n
NamesNodes n (BusyShared q r) = (q < n) × (r < n)
NamesNodes n (BusyExclusive q r t) = (q < n) × (r < n)
NamesNodes n (BusyPoison q) = q < n
NamesNodes n Poison = Unit {0}
