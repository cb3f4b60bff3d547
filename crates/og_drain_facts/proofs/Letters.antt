-- Which letters refuse a request: none of a processor that has no request, and of a home only those to a request, or to the mover's request
-- for a block that waits for its owner on a node's behalf.
use Rattle.std.proofs.Common.{◌≡◌, ℕ, ◌&&◌, not, nat_eq, Bool, true, false, refl, sym, ap, subst, Option, None, Some, List, [], ◌∷◌, ◌++◌, map, length}
use Rattle.std.specs.Prelude.{if◌then◌else◌}
use Rattle.std.specs.List.{list_any}
use Rattle.std.specs.FinSet as set
use Rattle.og_base.specs.declared.Block.{Block}
use Rattle.og_base.specs.declared.Frame.{Frame}
use Rattle.og_line.specs.declared.Line.{Line}
use Rattle.og_line.specs.declared.Mode.{Mode}
use Rattle.og_runs.specs.declared.Letter.{Letter}
use Rattle.og_runs.specs.declared.Msg.{Msg}
use Rattle.og_msg.specs.declared.Kind.{Kind}
use Rattle.og_msg.specs.declared.Kind.TheVariants.{Read, ReadEx, Upgrade, WriteBack, WbAck, WbBusyAck, InterveneShared, InterveneEx, IntervenePoison, Invalidate, SharedResponse, ExclusiveResponse, SharingWriteBack, PoisonBack, SharingTransfer, DirtyTransfer, PoisonClean, PoisonRead, PoisonReply, CopyIn, CleanFrame, Rearm, Walked, WalkRetry, DropFrame, Dropped}
use Rattle.og_image.specs.Image.{ImageState}
use Rattle.og_cache.specs.Cache.{look_of}
use Rattle.og_tlb.specs.Tlb.{filled as tlb_filled, without_frame}
use Rattle.og_request.specs.declared.Held.{Held}
use Rattle.og_request.specs.declared.Held.TheVariants.{Shared as ShareWith, Exclusive as GiveTo, Poison as GiveBack}
use Rattle.og_request.specs.Request.{Requested}
use Rattle.og_owner.specs.Owner.{answers, answers_by, dirty_line_of, after_intervention}
use Rattle.og_victim.specs.Slot.{is_slot_of, after_ack, after_intervention as slot_after}
use Rattle.og_processor.specs.State.{ProcessorState, becomes, sends, and_then, letter}
use Rattle.og_processor.specs.Take.{take_of, is_occupied, drops, drops_by, intervenes, is_for, holding, is_asked, receives}
use Rattle.og_directory.specs.Table.{Row, row, to, with_node, sharers_but, write_back_row, sharing_row, transfer_row, poisoned_row, poison_row, copy_row, kind_row, is_request, is_refusal, is_counted}
use Rattle.og_directory.specs.declared.entry.State.{State}
use Rattle.og_directory.specs.declared.entry.State.TheVariants.{Unowned, Shared, Exclusive, BusyShared, BusyExclusive, BusyPoison, Poison}
use Rattle.og_home.specs.Home.{HomeState, serve, serve_row, serve_block, by_row, serve_kind, serve_named, and_then_if, table_row, count_request, clean_frame, rearm}
use Rattle.og_msg.specs.Kinds.{block_of}
use Rattle.og_machine.specs.Choices.{is_poison_read}
use Rattle.og_drain.specs.Laws.{is_between}
use Rattle.og_drain_facts.specs.Laws.{is_nak}

-- no letter refuses
abbrev pub NoNaks : List (Letter Kind) → Type 0
NoNaks [] = Unit {0}
NoNaks (l ∷ ls) = (is_nak l.kind ≡ false) × NoNaks ls

both : (xs ys : List (Letter Kind)) → NoNaks xs → NoNaks ys → NoNaks (xs ++ ys)
both [] ys h k = k
both (x ∷ xs) ys h k = (h.0, both xs ys h.1 k)

-- ---- a processor that has no request

drops_plain : (image : ImageState) (x : ProcessorState) → NoNaks (drops image x).letters
drops_plain image x = by x.drop
  where
    by_place : (f : Frame) (t : Bool) → NoNaks (if t then becomes x else sends (record x { tlb = without_frame x.tlb f; drop = None }) (letter image.nodes (Dropped f) ∷ [])).letters
    by_place f true = tt
    by_place f false = (refl, tt)

    by : (d : Option Frame) → NoNaks (drops_by image x d).letters
    by None = tt
    by (Some f) = by_place f (is_occupied x)

answers_plain : (copy : Option (Mode × Line)) (block : Block) (held : Held) → NoNaks (answers copy block held)
unfolding answers
answers_plain copy block held = by (dirty_line_of copy) held
  where
    by : (o : Option Line) (h : Held) → NoNaks (answers_by o block h)
    by None (ShareWith r) = (refl, (refl, tt))
    by None (GiveTo r) = (refl, (refl, tt))
    by None GiveBack = (refl, tt)
    by (Some l) (ShareWith r) = (refl, (refl, tt))
    by (Some l) (GiveTo r) = (refl, (refl, tt))
    by (Some l) GiveBack = (refl, tt)

intervenes_plain : (x : ProcessorState) (block : Block) (held : Held) → NoNaks (intervenes x block held).letters
intervenes_plain x block held = by (is_slot_of x.victim block)
  where
    by : (t : Bool) → NoNaks (if t then becomes (record x { victim = slot_after x.victim }) else sends (record x { cache = after_intervention x.cache block held }) (answers (look_of x.cache block) block held)).letters
    by true = tt
    by false = answers_plain (look_of x.cache block) block held

asked_plain : (image : ImageState) (x : ProcessorState) (block : Block) (held : Held) → NoNaks (is_asked image x block held).letters
asked_plain image x block held = by (is_for x.request block)
  where
    by : (t : Bool) → NoNaks (if t then becomes (record x { request = holding held x.request }) else and_then (intervenes x block held) (λ y. drops image y)).letters
    by true = tt
    by false = both (intervenes x block held).letters (drops image (intervenes x block held).state).letters (intervenes_plain x block held) (drops_plain image (intervenes x block held).state)

pub take_plain : (image : ImageState) (x : ProcessorState) (kind : Kind) → x.request ≡ None → NoNaks (take_of image x kind).letters
unfolding take_of
take_plain image x (Invalidate block requester) e = (refl, tt)
take_plain image x (InterveneShared block requester) e = asked_plain image x block (ShareWith requester)
take_plain image x (InterveneEx block requester) e = asked_plain image x block (GiveTo requester)
take_plain image x (IntervenePoison block) e = asked_plain image x block GiveBack
take_plain image x (WbAck block) e = drops_plain image (record x { victim = after_ack x.victim false })
take_plain image x (WbBusyAck block) e = drops_plain image (record x { victim = after_ack x.victim true })
take_plain image x (Walked page frame) e = drops_plain image (record x { tlb = tlb_filled x.tlb page frame; walk = None })
take_plain image x (WalkRetry page) e = drops_plain image (record x { walk = None })
take_plain image x (DropFrame frame) e = drops_plain image (record x { drop = Some frame })
take_plain image x kind e = subst (λ (o : Option Requested). NoNaks (receives image x o kind).letters) (sym e) tt

-- ---- a home

abbrev letters_of : Option Row → List (Letter Kind)
letters_of None = []
letters_of (Some r) = r.letters

where_is : (t : Bool) (r : Row) → NoNaks r.letters → NoNaks (letters_of (if t then Some r else None))
where_is true r h = h
where_is false r h = tt

write_back_plain : (n p : ℕ) (b : Block) (l : Line) (e : State) → NoNaks (letters_of (write_back_row n p b l e))
write_back_plain n p b l Unowned = tt
write_back_plain n p b l (Shared s) = tt
write_back_plain n p b l (Exclusive q) = where_is (nat_eq q p) (row Unowned l (to p (WbAck b) ∷ [])) (refl, tt)
write_back_plain n p b l (BusyShared q r) = where_is (nat_eq q p) (row (Shared (with_node n r set.empty)) l (to r (SharedResponse b l) ∷ to p (WbBusyAck b) ∷ [])) (refl, (refl, tt))
write_back_plain n p b l (BusyExclusive q r true) = tt
write_back_plain n p b l (BusyExclusive q r false) = by (nat_eq q p)
  where
    by : (t : Bool) → NoNaks (letters_of (if t then Some (row (Exclusive r) l (to r (ExclusiveResponse b l) ∷ to p (WbBusyAck b) ∷ [])) else if nat_eq r p then Some (row (BusyExclusive q r true) l (to p (WbAck b) ∷ [])) else None))
    by true = (refl, (refl, tt))
    by false = where_is (nat_eq r p) (row (BusyExclusive q r true) l (to p (WbAck b) ∷ [])) (refl, tt)
write_back_plain n p b l (BusyPoison q) = where_is (nat_eq q p) (row Poison l (to n (PoisonReply b l 0) ∷ to p (WbBusyAck b) ∷ [])) (refl, (refl, tt))
write_back_plain n p b l Poison = tt

sharing_plain : (n p : ℕ) (l : Line) (e : State) → NoNaks (letters_of (sharing_row n p l e))
sharing_plain n p l (BusyShared q r) = where_is (nat_eq q p) (row (Shared (with_node n r (with_node n q set.empty))) l []) tt
sharing_plain n p l e = tt

transfer_plain : (m : Line) (p : ℕ) (e : State) → NoNaks (letters_of (transfer_row m p e))
transfer_plain m p (BusyExclusive q r false) = where_is (nat_eq q p) (row (Exclusive r) m []) tt
transfer_plain m p (BusyExclusive q r true) = where_is (nat_eq q p) (row Unowned m []) tt
transfer_plain m p e = tt

poisoned_plain : (n p : ℕ) (b : Block) (l : Line) (e : State) → NoNaks (letters_of (poisoned_row n p b l e))
poisoned_plain n p b l (BusyPoison q) = where_is (nat_eq q p) (row Poison l (to n (PoisonReply b l 0) ∷ [])) (refl, tt)
poisoned_plain n p b l e = tt

invalidations : (b : Block) (p : ℕ) (qs : List ℕ) → NoNaks (map (λ q. to q (Invalidate b p)) qs)
invalidations b p [] = tt
invalidations b p (q ∷ qs) = (refl, invalidations b p qs)

poison_plain : (n : ℕ) (m : Line) (b : Block) (e : State) → is_between e ≡ false → NoNaks (letters_of (poison_row n m b e))
poison_plain n m b Unowned h = (refl, tt)
poison_plain n m b (Shared s) h = both (map (λ q. to q (Invalidate b n)) (sharers_but n n s)) (to n (PoisonReply b m (length (sharers_but n n s))) ∷ []) (invalidations b n (sharers_but n n s)) (refl, tt)
poison_plain n m b (Exclusive q) h = (refl, tt)
poison_plain n m b (BusyShared q r) h = absurd (cc)
poison_plain n m b (BusyExclusive q r t) h = absurd (cc)
poison_plain n m b (BusyPoison q) h = tt
poison_plain n m b Poison h = tt

copy_plain : (n : ℕ) (b : Block) (l : Line) (e : State) → NoNaks (letters_of (copy_row n b l e))
copy_plain n b l Unowned = (refl, tt)
copy_plain n b l e = tt

-- the table's row of a message that is no request
row_plain : (n p : ℕ) (m : Line) (k : Kind) (e : State) → is_request k ≡ false → (is_poison_read k ≡ true → is_between e ≡ false) → NoNaks (letters_of (kind_row n m p k e))
row_plain n p m (Read b) e none free = absurd (cc)
row_plain n p m (ReadEx b) e none free = absurd (cc)
row_plain n p m (Upgrade b) e none free = absurd (cc)
row_plain n p m (WriteBack b l) e none free = write_back_plain n p b l e
row_plain n p m (SharingWriteBack b l) e none free = sharing_plain n p l e
row_plain n p m (SharingTransfer b) e none free = sharing_plain n p m e
row_plain n p m (DirtyTransfer b) e none free = transfer_plain m p e
row_plain n p m (PoisonRead b) e none free = poison_plain n m b e (free refl)
row_plain n p m (PoisonBack b l) e none free = poisoned_plain n p b l e
row_plain n p m (PoisonClean b) e none free = poisoned_plain n p b m e
row_plain n p m (CopyIn b l) e none free = copy_plain n b l e
row_plain n p m k e none free = tt

served_plain : (home : HomeState) (b : Block) (o : Option Row) → NoNaks (letters_of o) → NoNaks (by_row home b o).letters
served_plain home b None h = tt
served_plain home b (Some r) h = h

block_plain : (home : HomeState) (b : Block) (message : Msg Kind) → is_request message.kind ≡ false → (is_poison_read message.kind ≡ true → is_between (home.entry b.frame.index b.number) ≡ false) → NoNaks (serve_block home b message).letters
unfolding serve_row
block_plain home b message none free = by (is_counted message.kind (serve_row home b message).letters) (ap (λ (t : Bool). t && not (list_any is_refusal (serve_row home b message).letters)) none)
  where
    by : (t : Bool) → t ≡ false → NoNaks (and_then_if t (serve_row home b message) (λ after. count_request after b message.id.sender)).letters
    by true e = absurd (cc)
    by false e = served_plain home b (table_row home b message) (row_plain home.rules.nodes message.id.sender (home.line b.frame.index b.number) message.kind (home.entry b.frame.index b.number) none free)

named_plain : (home : HomeState) (message : Msg Kind) (o : Option Block) → ((b : Block) → o ≡ Some b → NoNaks (serve_block home b message).letters) → NoNaks (serve_named home message o).letters
named_plain home message None h = tt
named_plain home message (Some b) h = h b refl

pub serve_plain : (home : HomeState) (message : Msg Kind) → is_request message.kind ≡ false → ((b : Block) → message.kind ≡ PoisonRead b → is_between (home.entry b.frame.index b.number) ≡ false) → NoNaks (serve home message).letters
unfolding serve clean_frame rearm
serve_plain home message none free = by message.kind refl
  where
    by : (k : Kind) → message.kind ≡ k → NoNaks (serve_kind home message k).letters
    by (CleanFrame f) e = (refl, tt)
    by (Rearm f) e = tt
    by (PoisonRead b) e = block_plain home b message none (λ z. free b e)
    by k e = named_plain home message (block_of k) (λ b at. block_plain home b message none (λ z. absurd (let a = ap is_poison_read e in cc)))
