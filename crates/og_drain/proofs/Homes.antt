-- What a home sends weighs less than what it takes.
use Rattle.std.proofs.Common.{◌≡◌, ◌≤◌, ℕ, ◌+◌, ◌*◌, Bool, true, false, ◌&&◌, nat_eq, Option, None, Some, refl, [], ◌∷◌, length, map, arith}
use Rattle.std.specs.Prelude.{nat_lt, is_some, if◌then◌else◌}
use Rattle.std.specs.Ordering.{nat_cmp}
use Rattle.std.specs.FinSet as set
use Rattle.og_base.specs.declared.Block.{Block}
use Rattle.og_runs.specs.declared.Msg.{Msg}
use Rattle.og_line.specs.declared.Line.{Line}
use Rattle.og_msg.specs.Kinds.{block_of}
use Rattle.og_msg.specs.declared.Kind.{Kind}
use Rattle.og_msg.specs.declared.Kind.TheVariants.{Read, ReadEx, Upgrade, WriteBack, WbAck, WbBusyAck, SharedResponse, ExclusiveResponse, Invalidate, SharingWriteBack, PoisonBack, SharingTransfer, DirtyTransfer, PoisonClean, PoisonRead, PoisonReply, CopyIn, CleanFrame, Rearm}
use Rattle.og_directory.specs.declared.entry.State.{State}
use Rattle.og_directory.specs.declared.entry.State.TheVariants.{Unowned, Shared, Exclusive, BusyShared, BusyExclusive, BusyPoison, Poison}
use Rattle.og_directory.specs.Table.{Row, row, to, is_request, with_node, sharers_but, invalidating, write_back_row, sharing_row, transfer_row, poisoned_row, poison_row, copy_row}
use Rattle.og_sharers.specs.Sets.{is_other}
use Rattle.og_home.specs.Home.{HomeState, table_row, by_row, serve_row, rearm, clean_frame, serve}
use Rattle.og_node.specs.Rows.{is_own_frame, is_from_its_sender, has_block_row, has_home_row}
use Rattle.og_drain.specs.Measure.{weight, letters_weight}
use Rattle.og_drain.specs.Laws.{HomesPay, SharersAreFew, is_between, is_refused_now}
use Rattle.og_drain.proofs.Sums.{letters_after, twos, few_pass}

-- the letters of a row, if there is one, weigh less than w
abbrev Pays : (nodes w : ℕ) → Option Row → Type 0
Pays nodes w None = Unit {0}
Pays nodes w (Some r) = letters_weight nodes r.letters + 1 ≤ w

-- a row that there is where a test passes
when : (nodes w : ℕ) (t : Bool) (r : Row) → letters_weight nodes r.letters + 1 ≤ w → Pays nodes w (if t then Some r else None)
when nodes w true r h = h
when nodes w false r h = tt

-- ---- write-backs and revisions

write_back_pays : (nodes n p : ℕ) (b : Block) (l : Line) (e : State) → Pays nodes 3 (write_back_row n p b l e)
write_back_pays nodes n p b l Unowned = tt
write_back_pays nodes n p b l (Shared s) = tt
write_back_pays nodes n p b l (Exclusive q) = when nodes 3 (nat_eq q p) (row Unowned l (to p (WbAck b) ∷ [])) (omega arith)
write_back_pays nodes n p b l (BusyShared q r) = when nodes 3 (nat_eq q p) (row (Shared (with_node n r set.empty)) l (to r (SharedResponse b l) ∷ to p (WbBusyAck b) ∷ [])) (omega arith)
write_back_pays nodes n p b l (BusyExclusive q r false) = by (nat_eq q p)
  where
    by : (t : Bool) → Pays nodes 3 (if t then Some (row (Exclusive r) l (to r (ExclusiveResponse b l) ∷ to p (WbBusyAck b) ∷ [])) else if nat_eq r p then Some (row (BusyExclusive q r true) l (to p (WbAck b) ∷ [])) else None)
    by true = omega arith
    by false = when nodes 3 (nat_eq r p) (row (BusyExclusive q r true) l (to p (WbAck b) ∷ [])) (omega arith)
write_back_pays nodes n p b l (BusyExclusive q r true) = tt
write_back_pays nodes n p b l (BusyPoison q) = when nodes 3 (nat_eq q p) (row Poison l (to n (PoisonReply b l 0) ∷ to p (WbBusyAck b) ∷ [])) (omega arith)
write_back_pays nodes n p b l Poison = tt

sharing_pays : (nodes n p : ℕ) (l : Line) (e : State) → Pays nodes 1 (sharing_row n p l e)
sharing_pays nodes n p l (BusyShared q r) = when nodes 1 (nat_eq q p) (row (Shared (with_node n r (with_node n q set.empty))) l []) (omega arith)
sharing_pays nodes n p l e = tt

transfer_pays : (nodes p : ℕ) (m : Line) (e : State) → Pays nodes 1 (transfer_row m p e)
transfer_pays nodes p m (BusyExclusive q r false) = when nodes 1 (nat_eq q p) (row (Exclusive r) m []) (omega arith)
transfer_pays nodes p m (BusyExclusive q r true) = when nodes 1 (nat_eq q p) (row Unowned m []) (omega arith)
transfer_pays nodes p m e = tt

poisoned_pays : (nodes n p : ℕ) (b : Block) (l : Line) (e : State) → Pays nodes 2 (poisoned_row n p b l e)
poisoned_pays nodes n p b l (BusyPoison q) = when nodes 2 (nat_eq q p) (row Poison l (to n (PoisonReply b l 0) ∷ [])) (omega arith)
poisoned_pays nodes n p b l e = tt

-- ---- messages of the mover

-- an invalidation goes to each node at most
pub sharers_few : SharersAreFew
unfolding sharers_but
sharers_few nodes p groups = few_pass (is_other groups p nodes) nodes

-- an invalidation to each sharer, and the reply
invalidating_weighs : (nodes n : ℕ) (b : Block) (groups : set.FinSet nat_cmp) (m : Line) → n ≡ nodes → letters_weight nodes (invalidating n b n groups (λ k. PoisonReply b m k)) + 1 ≤ 2 * nodes + 2
invalidating_weighs nodes n b groups m same =
    let q : letters_weight nodes (map (λ q. to q (Invalidate b n)) (sharers_but n n groups)) ≡ 2 * length (sharers_but n n groups) = twos nodes (λ q. to q (Invalidate b n)) (λ q. refl) (sharers_but n n groups) in
    let few : length (sharers_but n n groups) ≤ n = sharers_few n n groups in
    let all = letters_after nodes (map (λ q. to q (Invalidate b n)) (sharers_but n n groups)) (to n (PoisonReply b m (length (sharers_but n n groups))) ∷ []) in
    omega arith

poison_pays : (nodes n : ℕ) (m : Line) (b : Block) (e : State) → 1 ≤ nodes → n ≡ nodes → is_between e ≡ false → Pays nodes (2 * nodes + 2) (poison_row n m b e)
poison_pays nodes n m b Unowned some same free = omega arith
poison_pays nodes n m b (Shared s) some same free = invalidating_weighs nodes n b s m same
poison_pays nodes n m b (Exclusive q) some same free = omega arith
poison_pays nodes n m b (BusyShared q r) some same free = absurd (cc)
poison_pays nodes n m b (BusyExclusive q r t) some same free = absurd (cc)
poison_pays nodes n m b (BusyPoison q) some same free = tt
poison_pays nodes n m b Poison some same free = tt

copy_pays : (nodes n : ℕ) (b : Block) (l : Line) (e : State) → Pays nodes 2 (copy_row n b l e)
copy_pays nodes n b l Unowned = omega arith
copy_pays nodes n b l e = tt

-- ---- all messages

-- a row that there is
there : (x : HomeState) (message : Msg Kind) (b : Block) → has_block_row x message (Some b) ≡ true → is_some (table_row x b message) ≡ true
there x message b has = last (is_own_frame x b.frame) (nat_lt b.number 32) (is_from_its_sender x.rules.nodes message) (is_some (table_row x b message)) has
  where
    last : (s t u v : Bool) → (s && (t && (u && v))) ≡ true → v ≡ true
    last true true true v h = h
    last true true false v h = absurd (cc)
    last true false u v h = absurd (cc)
    last false t u v h = absurd (cc)

row_there : (x : HomeState) (message : Msg Kind) (o : Option Block) → has_block_row x message o ≡ true → (b : Block) × (o ≡ Some b) × (is_some (table_row x b message) ≡ true)
row_there x message None has = absurd (cc)
row_there x message (Some b) has = (b, refl, there x message b has)

by_row_pays : (nodes w : ℕ) (x : HomeState) (b : Block) (o : Option Row) → is_some o ≡ true → Pays nodes w o → letters_weight nodes (by_row x b o).letters + 1 ≤ w
by_row_pays nodes w x b None is h = absurd (cc)
by_row_pays nodes w x b (Some r) is h = h

kind_pays : (nodes : ℕ) (x : HomeState) (message : Msg Kind) (k : Kind) → 1 ≤ nodes → x.rules.nodes ≡ nodes → has_home_row x (record message { kind = k }) k ≡ true → is_request k ≡ false → is_refused_now x k ≡ false
    → letters_weight nodes (serve x (record message { kind = k })).letters + 1 ≤ weight nodes k
unfolding serve serve_row rearm clean_frame
kind_pays nodes x message (Read b) some same has ask now = absurd (cc)
kind_pays nodes x message (ReadEx b) some same has ask now = absurd (cc)
kind_pays nodes x message (Upgrade b) some same has ask now = absurd (cc)
kind_pays nodes x message (WriteBack b l) some same has ask now = by_row_pays nodes 3 x b (table_row x b (record message { kind = WriteBack b l })) (there x (record message { kind = WriteBack b l }) b has) (write_back_pays nodes x.rules.nodes message.id.sender b l (x.entry b.frame.index b.number))
kind_pays nodes x message (SharingWriteBack b l) some same has ask now = by_row_pays nodes 1 x b (table_row x b (record message { kind = SharingWriteBack b l })) (there x (record message { kind = SharingWriteBack b l }) b has) (sharing_pays nodes x.rules.nodes message.id.sender l (x.entry b.frame.index b.number))
kind_pays nodes x message (SharingTransfer b) some same has ask now = by_row_pays nodes 1 x b (table_row x b (record message { kind = SharingTransfer b })) (there x (record message { kind = SharingTransfer b }) b has) (sharing_pays nodes x.rules.nodes message.id.sender (x.line b.frame.index b.number) (x.entry b.frame.index b.number))
kind_pays nodes x message (DirtyTransfer b) some same has ask now = by_row_pays nodes 1 x b (table_row x b (record message { kind = DirtyTransfer b })) (there x (record message { kind = DirtyTransfer b }) b has) (transfer_pays nodes message.id.sender (x.line b.frame.index b.number) (x.entry b.frame.index b.number))
kind_pays nodes x message (PoisonRead b) some same has ask now = by_row_pays nodes (2 * nodes + 2) x b (table_row x b (record message { kind = PoisonRead b })) (there x (record message { kind = PoisonRead b }) b has) (poison_pays nodes x.rules.nodes (x.line b.frame.index b.number) b (x.entry b.frame.index b.number) some same now)
kind_pays nodes x message (PoisonBack b l) some same has ask now = by_row_pays nodes 2 x b (table_row x b (record message { kind = PoisonBack b l })) (there x (record message { kind = PoisonBack b l }) b has) (poisoned_pays nodes x.rules.nodes message.id.sender b l (x.entry b.frame.index b.number))
kind_pays nodes x message (PoisonClean b) some same has ask now = by_row_pays nodes 2 x b (table_row x b (record message { kind = PoisonClean b })) (there x (record message { kind = PoisonClean b }) b has) (poisoned_pays nodes x.rules.nodes message.id.sender b (x.line b.frame.index b.number) (x.entry b.frame.index b.number))
kind_pays nodes x message (CopyIn b l) some same has ask now = by_row_pays nodes 2 x b (table_row x b (record message { kind = CopyIn b l })) (there x (record message { kind = CopyIn b l }) b has) (copy_pays nodes x.rules.nodes b l (x.entry b.frame.index b.number))
kind_pays nodes x message (CleanFrame f) some same has ask now = omega arith
kind_pays nodes x message (Rearm f) some same has ask now = omega arith
kind_pays nodes x message k some same has ask now = absurd (let r : false ≡ true = (row_there x (record message { kind = k }) (block_of k) has).2 in cc)

pub homes_pay : HomesPay
homes_pay nodes x message some same has ask now = kind_pays nodes x message message.kind some same has ask now
