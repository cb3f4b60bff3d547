-- A home's rows at a write-back.
use Rattle.std.proofs.Common.{◌≡◌, ℕ, ◌+◌, ◌<◌, true, false, nat_eq, arith, ◌≢◌, ◌⊎◌, inl, inr, refl, sym, subst, List, [], ◌∷◌, ◌++◌}
use Rattle.std.proofs.lemmas.Bool.Decides.{nat_tests}
use Rattle.og_block.specs.State.{Block, put, is_same, PoisonWait, Poisoning, WriteBack, Entry, Unowned, SharedBy, Exclusive, BusyShared, BusyExclusive, BusyPoison, PoisonBy}
use Rattle.og_block.specs.Rows.{Row as BlockRow, apply as block_apply, Write_back_owner, Write_back_busy_shared, Write_back_busy_exclusive, Write_back_requester, Write_back_busy_poison}
use Rattle.og_block.specs.Invariant.{Local, Waits, Asks}
use Rattle.og_block.specs.Views.{awaits_poison}
use Rattle.og_pages.specs.State.{Collecting}
use Rattle.og_whole.specs.Kind.{phase_of}
use Rattle.og_pages.specs.State.{put_pair}
use Rattle.og_pages.specs.State.{State as Pages}
use Rattle.og_whole.specs.Kind.{kind, Inner}
use Rattle.og_whole.specs.Events.{World, Event, On, guard, apply}
use Rattle.og_whole.specs.HomeEntry.{home_entry_at, home_entry, is_blank_in}
use Rattle.og_whole.specs.Link.{Invariant}
use Rattle.og_whole.proofs.Runs.{reached}
use Rattle.og_whole.proofs.HomeEntries.{entries_met}
use Rattle.og_relate.specs.Data.{KWriteBack, KWbAck, KWbBusyAck, KSharedResponse, KExclusiveResponse, KPoisonReply, Post, Setup, IsSetup, Cpu, Mover, HomeSide, HomeEntry, HUnowned, HShared, HExclusive, HBusyShared, HBusyExclusive, HBusyPoison, HPoison, Harts}
use Rattle.og_relate.specs.Places.{Place, AskAt, ResponseAt, BackAt, slot_of, Placed}
use Rattle.og_relate.specs.Sides.{owns, touches, is_home}
use Rattle.og_relate.specs.Sim.{Sim, HomeShows, EntryShows}
use Rattle.og_relate.specs.Goes.{Goes}
use Rattle.og_relate.specs.Owes.{changes, Letters}
use Rattle.og_relate.specs.Steps.{letter, with_block}
use Rattle.og_whole.proofs.Linked.{here_is}
use Rattle.og_relate.proofs.Rows.{home_row}
use Rattle.og_relate.proofs.Parts.{self_number}
use Rattle.og_relate.proofs.Home.{here_self, block_here, entry_is, entry_shown, one}

-- a shown entry is the world's

poisons : (n m p : ℕ) → awaits_poison (BusyPoison p m) m ≡ true
poisons n m p = grind (arith, nat_tests)

module _ {L : Type 0} where
  -- the mover collects a block that is busy for it
  collecting : (n m p : ℕ) (l : L) (b : Block L) → Local n l b m → b.entry ≡ BusyPoison p m → phase_of m b ≡ Collecting
  collecting n m p l b h e = by h.waits h.asks
    where
      by : Waits b m → Asks b m → phase_of m b ≡ Collecting
      by w a = let x = poisons n m p in let y : awaits_poison b.entry m ≡ true = cc in let z : b.ask m ≡ PoisonWait = grind arith in let v : b.want m ≡ Poisoning = grind arith in grind arith

  line_here : (h : HomeSide L) (f k : ℕ) (l : L) → put_pair h.line f k l f k ≡ l
  line_here h f k l = here_is f k l (h.line f k)

  owned_back_owner : (p f k : ℕ) (l : L) (e : Event L) → e ≡ On 0 0 f k (Write_back_owner p l) → (x : Place) → owns e x ≡ true → x ≡ BackAt f k p
  owned_back_owner p f k l e is x o = grind (arith, nat_tests)

  changed_back_owner : (p f k : ℕ) (l : L) (s : Pages L) (e : Event L) → e ≡ On 0 0 f k (Write_back_owner p l) → (x : Place) → changes s e x ≡ true → x ≡ BackAt f k p
  changed_back_owner p f k l s e is x o = grind (arith, nat_tests)

  owned_back_busy_shared : (p f k : ℕ) (r : ℕ) (l : L) (e : Event L) → e ≡ On 0 0 f k (Write_back_busy_shared p r l) → (x : Place) → owns e x ≡ true → x ≡ BackAt f k p
  owned_back_busy_shared p f k r l e is x o = grind (arith, nat_tests)

  changed_back_busy_shared : (p f k : ℕ) (r : ℕ) (l : L) (s : Pages L) (e : Event L) → e ≡ On 0 0 f k (Write_back_busy_shared p r l) → (x : Place) → changes s e x ≡ true → (x ≡ ResponseAt f k r) ⊎ (x ≡ BackAt f k p)
  changed_back_busy_shared p f k r l s e is x o = grind (arith, nat_tests)

  owned_back_busy_exclusive : (p f k : ℕ) (r : ℕ) (l : L) (e : Event L) → e ≡ On 0 0 f k (Write_back_busy_exclusive p r l) → (x : Place) → owns e x ≡ true → x ≡ BackAt f k p
  owned_back_busy_exclusive p f k r l e is x o = grind (arith, nat_tests)

  changed_back_busy_exclusive : (p f k : ℕ) (r : ℕ) (l : L) (s : Pages L) (e : Event L) → e ≡ On 0 0 f k (Write_back_busy_exclusive p r l) → (x : Place) → changes s e x ≡ true → (x ≡ ResponseAt f k r) ⊎ (x ≡ BackAt f k p)
  changed_back_busy_exclusive p f k r l s e is x o = grind (arith, nat_tests)

  owned_back_requester : (p f k : ℕ) (q : ℕ) (l : L) (e : Event L) → e ≡ On 0 0 f k (Write_back_requester p q l) → (x : Place) → owns e x ≡ true → x ≡ BackAt f k p
  owned_back_requester p f k q l e is x o = grind (arith, nat_tests)

  changed_back_requester : (p f k : ℕ) (q : ℕ) (l : L) (s : Pages L) (e : Event L) → e ≡ On 0 0 f k (Write_back_requester p q l) → (x : Place) → changes s e x ≡ true → x ≡ BackAt f k p
  changed_back_requester p f k q l s e is x o = grind (arith, nat_tests)

  owned_back_busy_poison : (p f k : ℕ) (m : ℕ) (l : L) (e : Event L) → e ≡ On 0 0 f k (Write_back_busy_poison p m l) → (x : Place) → owns e x ≡ true → x ≡ BackAt f k p
  owned_back_busy_poison p f k m l e is x o = grind (arith, nat_tests)

  changed_back_busy_poison : (p f k : ℕ) (m : ℕ) (l : L) (s : Pages L) (e : Event L) → e ≡ On 0 0 f k (Write_back_busy_poison p m l) → (x : Place) → changes s e x ≡ true → (x ≡ AskAt f k m) ⊎ (x ≡ BackAt f k p)
  changed_back_busy_poison p f k m l s e is x o = grind (arith, nat_tests)

module _ {L : Type 0} {H : Type 0} where
  -- a row that sets entry and line
  pub home_line_row : (s : Setup) (harts : Harts L H) (cpu : ℕ → Cpu L H) (home : ℕ → HomeSide L) (mover : Mover L) (w : World L) (f k : ℕ) (r : BlockRow L) (x : Post L) (e : HomeEntry) (l : L) (ms ls : List (Post L)) →
      Sim s harts (record { cpu = cpu; home = home; mover = mover; flight = x ∷ ms }) w → guard (s.nodes + 1) s.nodes s.pages s.blocks (On 0 0 f k r) w → f < s.frames →
      is_home r ≡ true → kind r ≡ Inner → ((p : Place) → owns (On 0 0 f k r) p ≡ true → p ≡ slot_of s.nodes x) → owns (On 0 0 f k r) (slot_of s.nodes x) ≡ true →
      (d : Entry) → (block_apply (s.nodes + 1) r (w.block f k)).entry ≡ d → home_entry (is_blank_in w.pages f) d ≡ d → EntryShows s.nodes e d → (block_apply (s.nodes + 1) r (w.block f k)).line ≡ l →
      Letters s w (On 0 0 f k r) ls →
      Sim s harts (record { cpu = cpu; home = put home (s.home f) (with_block (home (s.home f)) f k e l); mover = mover; flight = ms ++ ls }) (apply (s.nodes + 1) s.nodes (On 0 0 f k r) w)
  home_line_row s harts cpu home mover w f k r x e l ms ls sim gd lf ih ki owned at_x d de np shows line fls =
      let z : World L = apply (s.nodes + 1) s.nodes (On 0 0 f k r) w in
      let old = sim.homes f k lf gd.2 in
      let zb = block_here (s.nodes + 1) s.nodes 0 0 f k r w in
      let pg : z.pages ≡ w.pages = cc in
      let ze : home_entry_at z f k ≡ d = let a : home_entry_at z f k ≡ home_entry (is_blank_in w.pages f) d = cc in cc in
      let own : HomeShows s.nodes f k (with_block (home (s.home f)) f k e l) z = record {
        entry = subst (λ (u : HomeEntry). EntryShows s.nodes u (home_entry_at z f k)) (sym (here_is f k e ((home (s.home f)).entry f k))) (subst (λ (u : Entry). EntryShows s.nodes e u) (sym ze) shows);
        line = (let a = line_here (home (s.home f)) f k l in cc);
        noticed = (let a = old.noticed in cc);
      } in
      home_row s harts cpu home mover w 0 0 f k r x (with_block (home (s.home f)) f k e l) ms ls sim gd ih ki owned at_x own (λ g j ne. (grind (arith, nat_tests), grind (arith, nat_tests))) (λ g. refl) fls

  pub back_owner : (s : Setup) (harts : Harts L H) (cpu : ℕ → Cpu L H) (home : ℕ → HomeSide L) (mover : Mover L) (w : World L) (f k p : ℕ) (l : L) (ms : List (Post L)) → IsSetup s →
      Sim s harts (record { cpu = cpu; home = home; mover = mover; flight = letter p (s.home f) (KWriteBack f k l) ∷ ms }) w → (home (s.home f)).entry f k ≡ HExclusive p →
      Goes s harts (record { cpu = cpu; home = put home (s.home f) (with_block (home (s.home f)) f k (HUnowned) l); mover = mover; flight = ms ++ (letter (s.home f) p (KWbAck f k) ∷ []) }) w
  back_owner s harts cpu home mover w f k p l ms setup sim he =
      let pl = sim.flight.0.0 in
      let lf : f < s.frames = pl.0.0 in
      let lk : k < s.blocks = pl.0.1 in
      let back : (w.block f k).back p ≡ WriteBack l = pl.0.2.1 in
      let lp : p < s.nodes = pl.1.0 in
      let lp1 : p < s.nodes + 1 = omega arith in
      let lh : s.home f < s.nodes = setup f lf in
      let sh = sim.homes f k lf lk in
      let shown = subst (λ (u : HomeEntry). EntryShows s.nodes u (home_entry_at w f k)) he sh.entry in
      let inv : Invariant L (s.nodes + 1) s.nodes s.pages s.blocks w = reached (s.nodes + 1) s.nodes s.pages s.blocks w sim.reached in
      let lk2 = inv.link f k lk in
      let pp = self_number p in
      let hs = here_self f k in
      let be : (w.block f k).entry ≡ Exclusive p = entry_is (is_blank_in w.pages f) (w.block f k).entry (Exclusive p) shown (λ x. absurd (cc)) in
      let row : BlockRow L = Write_back_owner p l in
      let gd : guard (s.nodes + 1) s.nodes s.pages s.blocks (On 0 0 f k row) w = ((back, be), lp1, lk, tt) in
      let z : World L = apply (s.nodes + 1) s.nodes (On 0 0 f k row) w in
      let zb = block_here (s.nodes + 1) s.nodes 0 0 f k row w in
      let l0 : Placed s z (letter (s.home f) p (KWbAck f k)) × (touches w.pages (On 0 0 f k row) (BackAt f k p) ≡ true) = (((lf, lk, (omega arith, grind arith, λ x. absurd (cc))), (refl, lp), tt), grind arith) in
      one s harts _ w (On 0 0 f k row) refl gd (home_line_row s harts cpu home mover w f k row (letter p (s.home f) (KWriteBack f k l)) (HUnowned) l ms (letter (s.home f) p (KWbAck f k) ∷ []) sim gd lf refl refl (owned_back_owner p f k l (On 0 0 f k row) refl) (grind arith) (Unowned) refl (entry_shown (is_blank_in w.pages f) (Unowned) (λ q x. absurd (cc))) refl refl ((l0, tt, tt), λ x i c st. inl (sym (changed_back_owner p f k l w.pages (On 0 0 f k row) refl x c))))

  pub back_busy_shared : (s : Setup) (harts : Harts L H) (cpu : ℕ → Cpu L H) (home : ℕ → HomeSide L) (mover : Mover L) (w : World L) (f k p : ℕ) (r : ℕ) (l : L) (ms : List (Post L)) → IsSetup s →
      Sim s harts (record { cpu = cpu; home = home; mover = mover; flight = letter p (s.home f) (KWriteBack f k l) ∷ ms }) w → (home (s.home f)).entry f k ≡ HBusyShared p r →
      Goes s harts (record { cpu = cpu; home = put home (s.home f) (with_block (home (s.home f)) f k (HShared (λ q. is_same s.sharing q r)) l); mover = mover; flight = ms ++ (letter (s.home f) r (KSharedResponse f k l) ∷ letter (s.home f) p (KWbBusyAck f k) ∷ []) }) w
  back_busy_shared s harts cpu home mover w f k p r l ms setup sim he =
      let pl = sim.flight.0.0 in
      let lf : f < s.frames = pl.0.0 in
      let lk : k < s.blocks = pl.0.1 in
      let back : (w.block f k).back p ≡ WriteBack l = pl.0.2.1 in
      let lp : p < s.nodes = pl.1.0 in
      let lp1 : p < s.nodes + 1 = omega arith in
      let lh : s.home f < s.nodes = setup f lf in
      let sh = sim.homes f k lf lk in
      let shown = subst (λ (u : HomeEntry). EntryShows s.nodes u (home_entry_at w f k)) he sh.entry in
      let inv : Invariant L (s.nodes + 1) s.nodes s.pages s.blocks w = reached (s.nodes + 1) s.nodes s.pages s.blocks w sim.reached in
      let lk2 = inv.link f k lk in
      let pp = self_number p in
      let hs = here_self f k in
      let be : (w.block f k).entry ≡ BusyShared p r = entry_is (is_blank_in w.pages f) (w.block f k).entry (BusyShared p r) shown (λ x. absurd (cc)) in
      let lr : r < s.nodes = (let a = lk2.invariant.home.inside in let b = lk2.parts.ends in grind arith) in
      let rr = self_number r in
      let row : BlockRow L = Write_back_busy_shared p r l in
      let gd : guard (s.nodes + 1) s.nodes s.pages s.blocks (On 0 0 f k row) w = ((back, be), lp1, lk, tt) in
      let z : World L = apply (s.nodes + 1) s.nodes (On 0 0 f k row) w in
      let zb = block_here (s.nodes + 1) s.nodes 0 0 f k row w in
      let l0 : Placed s z (letter (s.home f) r (KSharedResponse f k l)) × (touches w.pages (On 0 0 f k row) (ResponseAt f k r) ≡ true) = (((lf, lk, (omega arith, grind arith, λ x. absurd (cc))), (lh, lr), tt), grind arith) in
      let l1 : Placed s z (letter (s.home f) p (KWbBusyAck f k)) × (touches w.pages (On 0 0 f k row) (BackAt f k p) ≡ true) = (((lf, lk, (omega arith, grind arith, λ x. absurd (cc))), (refl, lp), tt), grind arith) in
      one s harts _ w (On 0 0 f k row) refl gd (home_line_row s harts cpu home mover w f k row (letter p (s.home f) (KWriteBack f k l)) (HShared (λ q. is_same s.sharing q r)) l ms (letter (s.home f) r (KSharedResponse f k l) ∷ letter (s.home f) p (KWbBusyAck f k) ∷ []) sim gd lf refl refl (owned_back_busy_shared p f k r l (On 0 0 f k row) refl) (grind arith) (SharedBy (λ q. is_same (w.block f k).sharing q r)) refl (entry_shown (is_blank_in w.pages f) (SharedBy (λ q. is_same (w.block f k).sharing q r)) (λ q x. absurd (cc))) (λ q lq. (let a = sim.mover.sharing f k in cc)) refl ((l0, ((λ x. absurd (cc)), tt), (l1, tt, tt)), λ x i c st. elim (changed_back_busy_shared p f k r l w.pages (On 0 0 f k row) refl x c) [ inl a ↦ inl (sym a) | inr b ↦ inr (inl (sym b)) ]))

  pub back_busy_exclusive : (s : Setup) (harts : Harts L H) (cpu : ℕ → Cpu L H) (home : ℕ → HomeSide L) (mover : Mover L) (w : World L) (f k p : ℕ) (r : ℕ) (l : L) (ms : List (Post L)) → IsSetup s →
      Sim s harts (record { cpu = cpu; home = home; mover = mover; flight = letter p (s.home f) (KWriteBack f k l) ∷ ms }) w → (home (s.home f)).entry f k ≡ HBusyExclusive p r false →
      Goes s harts (record { cpu = cpu; home = put home (s.home f) (with_block (home (s.home f)) f k (HExclusive r) l); mover = mover; flight = ms ++ (letter (s.home f) r (KExclusiveResponse f k l) ∷ letter (s.home f) p (KWbBusyAck f k) ∷ []) }) w
  back_busy_exclusive s harts cpu home mover w f k p r l ms setup sim he =
      let pl = sim.flight.0.0 in
      let lf : f < s.frames = pl.0.0 in
      let lk : k < s.blocks = pl.0.1 in
      let back : (w.block f k).back p ≡ WriteBack l = pl.0.2.1 in
      let lp : p < s.nodes = pl.1.0 in
      let lp1 : p < s.nodes + 1 = omega arith in
      let lh : s.home f < s.nodes = setup f lf in
      let sh = sim.homes f k lf lk in
      let shown = subst (λ (u : HomeEntry). EntryShows s.nodes u (home_entry_at w f k)) he sh.entry in
      let inv : Invariant L (s.nodes + 1) s.nodes s.pages s.blocks w = reached (s.nodes + 1) s.nodes s.pages s.blocks w sim.reached in
      let lk2 = inv.link f k lk in
      let pp = self_number p in
      let hs = here_self f k in
      let be : (w.block f k).entry ≡ BusyExclusive p r false = entry_is (is_blank_in w.pages f) (w.block f k).entry (BusyExclusive p r false) shown (λ x. absurd (cc)) in
      let lr : r < s.nodes = (let a = lk2.invariant.home.inside in let b = lk2.parts.ends in grind arith) in
      let rr = self_number r in
      let row : BlockRow L = Write_back_busy_exclusive p r l in
      let gd : guard (s.nodes + 1) s.nodes s.pages s.blocks (On 0 0 f k row) w = ((back, be), lp1, lk, tt) in
      let z : World L = apply (s.nodes + 1) s.nodes (On 0 0 f k row) w in
      let zb = block_here (s.nodes + 1) s.nodes 0 0 f k row w in
      let l0 : Placed s z (letter (s.home f) r (KExclusiveResponse f k l)) × (touches w.pages (On 0 0 f k row) (ResponseAt f k r) ≡ true) = (((lf, lk, (omega arith, grind arith, λ x. absurd (cc))), (lh, lr), tt), grind arith) in
      let l1 : Placed s z (letter (s.home f) p (KWbBusyAck f k)) × (touches w.pages (On 0 0 f k row) (BackAt f k p) ≡ true) = (((lf, lk, (omega arith, grind arith, λ x. absurd (cc))), (refl, lp), tt), grind arith) in
      one s harts _ w (On 0 0 f k row) refl gd (home_line_row s harts cpu home mover w f k row (letter p (s.home f) (KWriteBack f k l)) (HExclusive r) l ms (letter (s.home f) r (KExclusiveResponse f k l) ∷ letter (s.home f) p (KWbBusyAck f k) ∷ []) sim gd lf refl refl (owned_back_busy_exclusive p f k r l (On 0 0 f k row) refl) (grind arith) (Exclusive r) refl (entry_shown (is_blank_in w.pages f) (Exclusive r) (λ q x. absurd (cc))) refl refl ((l0, ((λ x. absurd (cc)), tt), (l1, tt, tt)), λ x i c st. elim (changed_back_busy_exclusive p f k r l w.pages (On 0 0 f k row) refl x c) [ inl a ↦ inl (sym a) | inr b ↦ inr (inl (sym b)) ]))

  pub back_requester : (s : Setup) (harts : Harts L H) (cpu : ℕ → Cpu L H) (home : ℕ → HomeSide L) (mover : Mover L) (w : World L) (f k p : ℕ) (q : ℕ) (l : L) (ms : List (Post L)) → IsSetup s →
      Sim s harts (record { cpu = cpu; home = home; mover = mover; flight = letter p (s.home f) (KWriteBack f k l) ∷ ms }) w → (home (s.home f)).entry f k ≡ HBusyExclusive q p false → nat_eq q p ≡ false →
      Goes s harts (record { cpu = cpu; home = put home (s.home f) (with_block (home (s.home f)) f k (HBusyExclusive q p true) l); mover = mover; flight = ms ++ (letter (s.home f) p (KWbAck f k) ∷ []) }) w
  back_requester s harts cpu home mover w f k p q l ms setup sim he pre =
      let pl = sim.flight.0.0 in
      let lf : f < s.frames = pl.0.0 in
      let lk : k < s.blocks = pl.0.1 in
      let back : (w.block f k).back p ≡ WriteBack l = pl.0.2.1 in
      let lp : p < s.nodes = pl.1.0 in
      let lp1 : p < s.nodes + 1 = omega arith in
      let lh : s.home f < s.nodes = setup f lf in
      let sh = sim.homes f k lf lk in
      let shown = subst (λ (u : HomeEntry). EntryShows s.nodes u (home_entry_at w f k)) he sh.entry in
      let inv : Invariant L (s.nodes + 1) s.nodes s.pages s.blocks w = reached (s.nodes + 1) s.nodes s.pages s.blocks w sim.reached in
      let lk2 = inv.link f k lk in
      let pp = self_number p in
      let hs = here_self f k in
      let be : (w.block f k).entry ≡ BusyExclusive q p false = entry_is (is_blank_in w.pages f) (w.block f k).entry (BusyExclusive q p false) shown (λ x. absurd (cc)) in
      let ne : q ≢ p = grind (arith, nat_tests) in
      let row : BlockRow L = Write_back_requester p q l in
      let gd : guard (s.nodes + 1) s.nodes s.pages s.blocks (On 0 0 f k row) w = ((back, be, ne), lp1, lk, tt) in
      let z : World L = apply (s.nodes + 1) s.nodes (On 0 0 f k row) w in
      let zb = block_here (s.nodes + 1) s.nodes 0 0 f k row w in
      let l0 : Placed s z (letter (s.home f) p (KWbAck f k)) × (touches w.pages (On 0 0 f k row) (BackAt f k p) ≡ true) = (((lf, lk, (omega arith, grind arith, λ x. absurd (cc))), (refl, lp), tt), grind arith) in
      one s harts _ w (On 0 0 f k row) refl gd (home_line_row s harts cpu home mover w f k row (letter p (s.home f) (KWriteBack f k l)) (HBusyExclusive q p true) l ms (letter (s.home f) p (KWbAck f k) ∷ []) sim gd lf refl refl (owned_back_requester p f k q l (On 0 0 f k row) refl) (grind arith) (BusyExclusive q p true) refl (entry_shown (is_blank_in w.pages f) (BusyExclusive q p true) (λ q x. absurd (cc))) refl refl ((l0, tt, tt), λ x i c st. inl (sym (changed_back_requester p f k q l w.pages (On 0 0 f k row) refl x c))))

  pub back_busy_poison : (s : Setup) (harts : Harts L H) (cpu : ℕ → Cpu L H) (home : ℕ → HomeSide L) (mover : Mover L) (w : World L) (f k p : ℕ) (l : L) (ms : List (Post L)) → IsSetup s →
      Sim s harts (record { cpu = cpu; home = home; mover = mover; flight = letter p (s.home f) (KWriteBack f k l) ∷ ms }) w → (home (s.home f)).entry f k ≡ HBusyPoison p →
      Goes s harts (record { cpu = cpu; home = put home (s.home f) (with_block (home (s.home f)) f k (HPoison) l); mover = mover; flight = ms ++ (letter (s.home f) s.nodes (KPoisonReply f k l 0) ∷ letter (s.home f) p (KWbBusyAck f k) ∷ []) }) w
  back_busy_poison s harts cpu home mover w f k p l ms setup sim he =
      let pl = sim.flight.0.0 in
      let lf : f < s.frames = pl.0.0 in
      let lk : k < s.blocks = pl.0.1 in
      let back : (w.block f k).back p ≡ WriteBack l = pl.0.2.1 in
      let lp : p < s.nodes = pl.1.0 in
      let lp1 : p < s.nodes + 1 = omega arith in
      let lh : s.home f < s.nodes = setup f lf in
      let sh = sim.homes f k lf lk in
      let shown = subst (λ (u : HomeEntry). EntryShows s.nodes u (home_entry_at w f k)) he sh.entry in
      let inv : Invariant L (s.nodes + 1) s.nodes s.pages s.blocks w = reached (s.nodes + 1) s.nodes s.pages s.blocks w sim.reached in
      let lk2 = inv.link f k lk in
      let pp = self_number p in
      let hs = here_self f k in
      let be : (w.block f k).entry ≡ BusyPoison p s.nodes = entry_is (is_blank_in w.pages f) (w.block f k).entry (BusyPoison p s.nodes) shown (λ x. absurd (cc)) in
      let ln : s.nodes < s.nodes + 1 = omega arith in
      let nn = self_number s.nodes in
      let cp : w.pages.phase f k ≡ Collecting = (let a = lk2.phase_is in let b = collecting (s.nodes + 1) s.nodes p (w.pages.newest f k) (w.block f k) (lk2.invariant.each s.nodes ln) be in cc) in
      let nb : is_blank_in w.pages f ≡ false = (entries_met (s.nodes + 1) s.nodes s.pages s.blocks w inv).poison_meets f k lk cp in
      let row : BlockRow L = Write_back_busy_poison p s.nodes l in
      let gd : guard (s.nodes + 1) s.nodes s.pages s.blocks (On 0 0 f k row) w = ((back, be), lp1, lk, tt) in
      let z : World L = apply (s.nodes + 1) s.nodes (On 0 0 f k row) w in
      let zb = block_here (s.nodes + 1) s.nodes 0 0 f k row w in
      let l0 : Placed s z (letter (s.home f) s.nodes (KPoisonReply f k l 0)) × (touches w.pages (On 0 0 f k row) (AskAt f k s.nodes) ≡ true) = (((lf, lk, (ln, grind arith, refl)), (refl, refl), tt), grind arith) in
      let l1 : Placed s z (letter (s.home f) p (KWbBusyAck f k)) × (touches w.pages (On 0 0 f k row) (BackAt f k p) ≡ true) = (((lf, lk, (omega arith, grind arith, λ x. absurd (cc))), (refl, lp), tt), grind arith) in
      one s harts _ w (On 0 0 f k row) refl gd (home_line_row s harts cpu home mover w f k row (letter p (s.home f) (KWriteBack f k l)) (HPoison) l ms (letter (s.home f) s.nodes (KPoisonReply f k l 0) ∷ letter (s.home f) p (KWbBusyAck f k) ∷ []) sim gd lf refl refl (owned_back_busy_poison p f k s.nodes l (On 0 0 f k row) refl) (grind arith) (PoisonBy s.nodes) refl (grind arith) refl refl ((l0, ((λ x. absurd (cc)), tt), (l1, tt, tt)), λ x i c st. elim (changed_back_busy_poison p f k s.nodes l w.pages (On 0 0 f k row) refl x c) [ inl a ↦ inl (sym a) | inr b ↦ inr (inl (sym b)) ]))
