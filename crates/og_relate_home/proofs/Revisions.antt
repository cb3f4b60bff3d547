-- A home's rows at a message of the owner that it asked.
use Rattle.std.proofs.Common.{◌≡◌, ℕ, ◌+◌, ◌<◌, true, false, arith, ◌⊎◌, inl, inr, refl, sym, subst, List, [], ◌∷◌, ◌++◌}
use Rattle.std.proofs.lemmas.Bool.Decides.{nat_tests}
use Rattle.og_block.specs.State.{put, PoisonWait, SharingWriteBack, SharingTransfer, DirtyTransfer, PoisonBack, PoisonClean, Unowned, SharedBy, Exclusive, BusyShared, BusyExclusive, BusyPoison, PoisonBy}
use Rattle.og_block.specs.Rows.{Row as BlockRow, Revision_sharing_write_back, Revision_sharing_transfer, Revision_dirty_transfer, Revision_returned, Revision_poison_back, Revision_poison_clean}
use Rattle.og_pages.specs.State.{State as Pages}
use Rattle.og_whole.specs.Events.{World, Event, On, guard, apply}
use Rattle.og_whole.specs.HomeEntry.{home_entry_at, is_blank_in}
use Rattle.og_whole.specs.Link.{Invariant}
use Rattle.og_whole.proofs.Runs.{reached}
use Rattle.og_whole.proofs.Worlds.{blocks_ready}
use Rattle.og_relate.specs.Data.{KSharingWriteBack, KSharingTransfer, KDirtyTransfer, KPoisonBack, KPoisonClean, KPoisonReply, Post, Setup, Cpu, Mover, HomeSide, HomeEntry, HUnowned, HShared, HExclusive, HBusyShared, HBusyExclusive, HBusyPoison, HPoison, Harts}
use Rattle.og_relate.specs.Places.{Place, AskAt, RevisionAt, Placed, stands_at}
use Rattle.og_relate.specs.Sides.{owns, touches}
use Rattle.og_relate.specs.Sim.{Sim, EntryShows}
use Rattle.og_relate.specs.Goes.{Goes}
use Rattle.og_relate.specs.Owes.{changes}
use Rattle.og_relate.specs.Steps.{letter, with_entry, with_block}
use Rattle.og_relate_home.specs.Steps.{shared_by_both}
use Rattle.og_relate.proofs.Parts.{self_number}
use Rattle.og_relate.proofs.Backs.{home_line_row}
use Rattle.og_relate.proofs.Home.{here_self, block_here, entry_is, entry_shown, one}
use Rattle.og_relate_home.proofs.Rows.{shown_entry, collect_meets, entry_row}

module _ {L : Type 0} where
  owned_sharing_write_back : (q f k r : ℕ) (l : L) (e : Event L) → e ≡ On 0 0 f k (Revision_sharing_write_back q r l) → (x : Place) → owns e x ≡ true → x ≡ RevisionAt f k
  owned_sharing_write_back q f k r l e is x o = grind (arith, nat_tests)

  changed_sharing_write_back : (q f k r : ℕ) (l : L) (s : Pages L) (e : Event L) → e ≡ On 0 0 f k (Revision_sharing_write_back q r l) → (x : Place) → changes s e x ≡ true → x ≡ RevisionAt f k
  changed_sharing_write_back q f k r l s e is x o = grind (arith, nat_tests)

  owned_sharing_transfer : (q f k r : ℕ) (e : Event L) → e ≡ On 0 0 f k (Revision_sharing_transfer q r) → (x : Place) → owns e x ≡ true → x ≡ RevisionAt f k
  owned_sharing_transfer q f k r e is x o = grind (arith, nat_tests)

  changed_sharing_transfer : (q f k r : ℕ) (s : Pages L) (e : Event L) → e ≡ On 0 0 f k (Revision_sharing_transfer q r) → (x : Place) → changes s e x ≡ true → x ≡ RevisionAt f k
  changed_sharing_transfer q f k r s e is x o = grind (arith, nat_tests)

  owned_dirty_transfer : (q f k r : ℕ) (e : Event L) → e ≡ On 0 0 f k (Revision_dirty_transfer q r) → (x : Place) → owns e x ≡ true → x ≡ RevisionAt f k
  owned_dirty_transfer q f k r e is x o = grind (arith, nat_tests)

  changed_dirty_transfer : (q f k r : ℕ) (s : Pages L) (e : Event L) → e ≡ On 0 0 f k (Revision_dirty_transfer q r) → (x : Place) → changes s e x ≡ true → x ≡ RevisionAt f k
  changed_dirty_transfer q f k r s e is x o = grind (arith, nat_tests)

  owned_returned : (q f k r : ℕ) (e : Event L) → e ≡ On 0 0 f k (Revision_returned q r) → (x : Place) → owns e x ≡ true → x ≡ RevisionAt f k
  owned_returned q f k r e is x o = grind (arith, nat_tests)

  changed_returned : (q f k r : ℕ) (s : Pages L) (e : Event L) → e ≡ On 0 0 f k (Revision_returned q r) → (x : Place) → changes s e x ≡ true → x ≡ RevisionAt f k
  changed_returned q f k r s e is x o = grind (arith, nat_tests)

  owned_poison_back : (q f k r : ℕ) (l : L) (e : Event L) → e ≡ On 0 0 f k (Revision_poison_back q r l) → (x : Place) → owns e x ≡ true → x ≡ RevisionAt f k
  owned_poison_back q f k r l e is x o = grind (arith, nat_tests)

  changed_poison_back : (q f k r : ℕ) (l : L) (s : Pages L) (e : Event L) → e ≡ On 0 0 f k (Revision_poison_back q r l) → (x : Place) → changes s e x ≡ true → (x ≡ AskAt f k r) ⊎ (x ≡ RevisionAt f k)
  changed_poison_back q f k r l s e is x o = grind (arith, nat_tests)

  owned_poison_clean : (q f k r : ℕ) (e : Event L) → e ≡ On 0 0 f k (Revision_poison_clean q r) → (x : Place) → owns e x ≡ true → x ≡ RevisionAt f k
  owned_poison_clean q f k r e is x o = grind (arith, nat_tests)

  changed_poison_clean : (q f k r : ℕ) (s : Pages L) (e : Event L) → e ≡ On 0 0 f k (Revision_poison_clean q r) → (x : Place) → changes s e x ≡ true → (x ≡ AskAt f k r) ⊎ (x ≡ RevisionAt f k)
  changed_poison_clean q f k r s e is x o = grind (arith, nat_tests)

module _ {L : Type 0} {H : Type 0} where
  pub sharing_write_back : (s : Setup) (harts : Harts L H) (cpu : ℕ → Cpu L H) (home : ℕ → HomeSide L) (mover : Mover L) (w : World L) (f k q : ℕ) (r : ℕ) (l : L) (ms : List (Post L)) →
      Sim s harts (record { cpu = cpu; home = home; mover = mover; flight = letter q (s.home f) (KSharingWriteBack f k l) ∷ ms }) w → (home (s.home f)).entry f k ≡ HBusyShared q r →
      Goes s harts (record { cpu = cpu; home = put home (s.home f) (with_block (home (s.home f)) f k (HShared (shared_by_both s.sharing q r)) l); mover = mover; flight = ms ++ [] }) w
  sharing_write_back s harts cpu home mover w f k q r l ms sim he =
      let pl = sim.flight.0.0 in
      let lf : f < s.frames = pl.0.0 in
      let lk : k < s.blocks = pl.0.1 in
      let said : (w.block f k).revision ≡ SharingWriteBack q l = pl.0.2.0 in
      let lq : q < s.nodes = pl.1.0 in
      let lq1 : q < s.nodes + 1 = omega arith in
      let sh = sim.homes f k lf lk in
      let lines = sh.line in
      let shown = subst (λ (u : HomeEntry). EntryShows s.nodes u (home_entry_at w f k)) he sh.entry in
      let hs = here_self f k in
      let be : (w.block f k).entry ≡ BusyShared q r = entry_is (is_blank_in w.pages f) (w.block f k).entry (BusyShared q r) shown (λ x. absurd (cc)) in
      let row : BlockRow L = Revision_sharing_write_back q r l in
      let gd : guard (s.nodes + 1) s.nodes s.pages s.blocks (On 0 0 f k row) w = ((said, be), lq1, lk, tt) in
      let z : World L = apply (s.nodes + 1) s.nodes (On 0 0 f k row) w in
      let zb = block_here (s.nodes + 1) s.nodes 0 0 f k row w in
      let gone : stands_at z (RevisionAt f k) ≡ false = grind arith in
      one s harts _ w (On 0 0 f k row) refl gd (home_line_row s harts cpu home mover w f k row (letter q (s.home f) (KSharingWriteBack f k l)) (HShared (shared_by_both s.sharing q r)) l ms ([]) sim gd lf refl refl (owned_sharing_write_back q f k r l (On 0 0 f k row) refl) (grind arith) (SharedBy (shared_by_both (w.block f k).sharing q r)) refl (entry_shown (is_blank_in w.pages f) (SharedBy (shared_by_both (w.block f k).sharing q r)) (λ p x. absurd (cc))) (λ p lp. (let a = sim.mover.sharing f k in cc)) refl
      (tt, λ x i c st. absurd (let v : stands_at z (RevisionAt f k) ≡ true = subst (λ u. stands_at z u ≡ true) (changed_sharing_write_back q f k r l w.pages (On 0 0 f k row) refl x c) st in cc)))

  pub sharing_transfer : (s : Setup) (harts : Harts L H) (cpu : ℕ → Cpu L H) (home : ℕ → HomeSide L) (mover : Mover L) (w : World L) (f k q : ℕ) (r : ℕ) (ms : List (Post L)) →
      Sim s harts (record { cpu = cpu; home = home; mover = mover; flight = letter q (s.home f) (KSharingTransfer f k) ∷ ms }) w → (home (s.home f)).entry f k ≡ HBusyShared q r →
      Goes s harts (record { cpu = cpu; home = put home (s.home f) (with_entry (home (s.home f)) f k (HShared (shared_by_both s.sharing q r))); mover = mover; flight = ms ++ [] }) w
  sharing_transfer s harts cpu home mover w f k q r ms sim he =
      let pl = sim.flight.0.0 in
      let lf : f < s.frames = pl.0.0 in
      let lk : k < s.blocks = pl.0.1 in
      let said : (w.block f k).revision ≡ SharingTransfer q = pl.0.2.0 in
      let lq : q < s.nodes = pl.1.0 in
      let lq1 : q < s.nodes + 1 = omega arith in
      let sh = sim.homes f k lf lk in
      let lines = sh.line in
      let shown = subst (λ (u : HomeEntry). EntryShows s.nodes u (home_entry_at w f k)) he sh.entry in
      let hs = here_self f k in
      let be : (w.block f k).entry ≡ BusyShared q r = entry_is (is_blank_in w.pages f) (w.block f k).entry (BusyShared q r) shown (λ x. absurd (cc)) in
      let row : BlockRow L = Revision_sharing_transfer q r in
      let gd : guard (s.nodes + 1) s.nodes s.pages s.blocks (On 0 0 f k row) w = ((said, be), lq1, lk, tt) in
      let z : World L = apply (s.nodes + 1) s.nodes (On 0 0 f k row) w in
      let zb = block_here (s.nodes + 1) s.nodes 0 0 f k row w in
      let gone : stands_at z (RevisionAt f k) ≡ false = grind arith in
      one s harts _ w (On 0 0 f k row) refl gd (entry_row s harts cpu home mover w f k row (letter q (s.home f) (KSharingTransfer f k)) (HShared (shared_by_both s.sharing q r)) ms ([]) sim gd lf refl refl (owned_sharing_transfer q f k r (On 0 0 f k row) refl) (grind arith) (SharedBy (shared_by_both (w.block f k).sharing q r)) refl (entry_shown (is_blank_in w.pages f) (SharedBy (shared_by_both (w.block f k).sharing q r)) (λ p x. absurd (cc))) (λ p lp. (let a = sim.mover.sharing f k in cc)) refl
      (tt, λ x i c st. absurd (let v : stands_at z (RevisionAt f k) ≡ true = subst (λ u. stands_at z u ≡ true) (changed_sharing_transfer q f k r w.pages (On 0 0 f k row) refl x c) st in cc)))

  pub dirty_transfer : (s : Setup) (harts : Harts L H) (cpu : ℕ → Cpu L H) (home : ℕ → HomeSide L) (mover : Mover L) (w : World L) (f k q : ℕ) (r : ℕ) (ms : List (Post L)) →
      Sim s harts (record { cpu = cpu; home = home; mover = mover; flight = letter q (s.home f) (KDirtyTransfer f k) ∷ ms }) w → (home (s.home f)).entry f k ≡ HBusyExclusive q r false →
      Goes s harts (record { cpu = cpu; home = put home (s.home f) (with_entry (home (s.home f)) f k (HExclusive r)); mover = mover; flight = ms ++ [] }) w
  dirty_transfer s harts cpu home mover w f k q r ms sim he =
      let pl = sim.flight.0.0 in
      let lf : f < s.frames = pl.0.0 in
      let lk : k < s.blocks = pl.0.1 in
      let said : (w.block f k).revision ≡ DirtyTransfer q = pl.0.2.0 in
      let lq : q < s.nodes = pl.1.0 in
      let lq1 : q < s.nodes + 1 = omega arith in
      let sh = sim.homes f k lf lk in
      let lines = sh.line in
      let shown = subst (λ (u : HomeEntry). EntryShows s.nodes u (home_entry_at w f k)) he sh.entry in
      let hs = here_self f k in
      let be : (w.block f k).entry ≡ BusyExclusive q r false = entry_is (is_blank_in w.pages f) (w.block f k).entry (BusyExclusive q r false) shown (λ x. absurd (cc)) in
      let row : BlockRow L = Revision_dirty_transfer q r in
      let gd : guard (s.nodes + 1) s.nodes s.pages s.blocks (On 0 0 f k row) w = ((said, be), lq1, lk, tt) in
      let z : World L = apply (s.nodes + 1) s.nodes (On 0 0 f k row) w in
      let zb = block_here (s.nodes + 1) s.nodes 0 0 f k row w in
      let gone : stands_at z (RevisionAt f k) ≡ false = grind arith in
      one s harts _ w (On 0 0 f k row) refl gd (entry_row s harts cpu home mover w f k row (letter q (s.home f) (KDirtyTransfer f k)) (HExclusive r) ms ([]) sim gd lf refl refl (owned_dirty_transfer q f k r (On 0 0 f k row) refl) (grind arith) (Exclusive r) refl (entry_shown (is_blank_in w.pages f) (Exclusive r) (λ p x. absurd (cc))) refl refl
      (tt, λ x i c st. absurd (let v : stands_at z (RevisionAt f k) ≡ true = subst (λ u. stands_at z u ≡ true) (changed_dirty_transfer q f k r w.pages (On 0 0 f k row) refl x c) st in cc)))

  pub returned : (s : Setup) (harts : Harts L H) (cpu : ℕ → Cpu L H) (home : ℕ → HomeSide L) (mover : Mover L) (w : World L) (f k q : ℕ) (r : ℕ) (ms : List (Post L)) →
      Sim s harts (record { cpu = cpu; home = home; mover = mover; flight = letter q (s.home f) (KDirtyTransfer f k) ∷ ms }) w → (home (s.home f)).entry f k ≡ HBusyExclusive q r true →
      Goes s harts (record { cpu = cpu; home = put home (s.home f) (with_entry (home (s.home f)) f k (HUnowned)); mover = mover; flight = ms ++ [] }) w
  returned s harts cpu home mover w f k q r ms sim he =
      let pl = sim.flight.0.0 in
      let lf : f < s.frames = pl.0.0 in
      let lk : k < s.blocks = pl.0.1 in
      let said : (w.block f k).revision ≡ DirtyTransfer q = pl.0.2.0 in
      let lq : q < s.nodes = pl.1.0 in
      let lq1 : q < s.nodes + 1 = omega arith in
      let sh = sim.homes f k lf lk in
      let lines = sh.line in
      let shown = subst (λ (u : HomeEntry). EntryShows s.nodes u (home_entry_at w f k)) he sh.entry in
      let hs = here_self f k in
      let be : (w.block f k).entry ≡ BusyExclusive q r true = entry_is (is_blank_in w.pages f) (w.block f k).entry (BusyExclusive q r true) shown (λ x. absurd (cc)) in
      let row : BlockRow L = Revision_returned q r in
      let gd : guard (s.nodes + 1) s.nodes s.pages s.blocks (On 0 0 f k row) w = ((said, be), lq1, lk, tt) in
      let z : World L = apply (s.nodes + 1) s.nodes (On 0 0 f k row) w in
      let zb = block_here (s.nodes + 1) s.nodes 0 0 f k row w in
      let gone : stands_at z (RevisionAt f k) ≡ false = grind arith in
      one s harts _ w (On 0 0 f k row) refl gd (entry_row s harts cpu home mover w f k row (letter q (s.home f) (KDirtyTransfer f k)) (HUnowned) ms ([]) sim gd lf refl refl (owned_returned q f k r (On 0 0 f k row) refl) (grind arith) (Unowned) refl (entry_shown (is_blank_in w.pages f) (Unowned) (λ p x. absurd (cc))) refl refl
      (tt, λ x i c st. absurd (let v : stands_at z (RevisionAt f k) ≡ true = subst (λ u. stands_at z u ≡ true) (changed_returned q f k r w.pages (On 0 0 f k row) refl x c) st in cc)))

  pub poison_back : (s : Setup) (harts : Harts L H) (cpu : ℕ → Cpu L H) (home : ℕ → HomeSide L) (mover : Mover L) (w : World L) (f k q : ℕ) (l : L) (ms : List (Post L)) →
      Sim s harts (record { cpu = cpu; home = home; mover = mover; flight = letter q (s.home f) (KPoisonBack f k l) ∷ ms }) w → (home (s.home f)).entry f k ≡ HBusyPoison q →
      Goes s harts (record { cpu = cpu; home = put home (s.home f) (with_block (home (s.home f)) f k (HPoison) l); mover = mover; flight = ms ++ letter (s.home f) s.nodes (KPoisonReply f k l 0) ∷ [] }) w
  poison_back s harts cpu home mover w f k q l ms sim he =
      let pl = sim.flight.0.0 in
      let lf : f < s.frames = pl.0.0 in
      let lk : k < s.blocks = pl.0.1 in
      let said : (w.block f k).revision ≡ PoisonBack q l = pl.0.2.0 in
      let lq : q < s.nodes = pl.1.0 in
      let lq1 : q < s.nodes + 1 = omega arith in
      let sh = sim.homes f k lf lk in
      let lines = sh.line in
      let shown = subst (λ (u : HomeEntry). EntryShows s.nodes u (home_entry_at w f k)) he sh.entry in
      let hs = here_self f k in
      let be : (w.block f k).entry ≡ BusyPoison q s.nodes = entry_is (is_blank_in w.pages f) (w.block f k).entry (BusyPoison q s.nodes) shown (λ x. absurd (cc)) in
      let ln : s.nodes < s.nodes + 1 = omega arith in
      let nn = self_number s.nodes in
      let inv : Invariant L (s.nodes + 1) s.nodes s.pages s.blocks w = reached (s.nodes + 1) s.nodes s.pages s.blocks w sim.reached in
      let waits : (w.block f k).ask s.nodes ≡ PoisonWait = (blocks_ready (s.nodes + 1) s.nodes s.pages s.blocks w sim.reached f k s.nodes lk ln).0.poison q be in
      let nb : is_blank_in w.pages f ≡ false = collect_meets (s.nodes + 1) s.nodes s.pages s.blocks w f k inv ln lk (inr waits) in
      let row : BlockRow L = Revision_poison_back q s.nodes l in
      let gd : guard (s.nodes + 1) s.nodes s.pages s.blocks (On 0 0 f k row) w = ((said, be), lq1, lk, tt) in
      let z : World L = apply (s.nodes + 1) s.nodes (On 0 0 f k row) w in
      let zb = block_here (s.nodes + 1) s.nodes 0 0 f k row w in
      let gone : stands_at z (RevisionAt f k) ≡ false = grind arith in
      let reply : Placed s z (letter (s.home f) s.nodes (KPoisonReply f k l 0)) × (touches w.pages (On 0 0 f k row) (AskAt f k s.nodes) ≡ true) = (((lf, lk, (ln, grind arith, refl)), (refl, refl), tt), grind arith) in
      one s harts _ w (On 0 0 f k row) refl gd (home_line_row s harts cpu home mover w f k row (letter q (s.home f) (KPoisonBack f k l)) (HPoison) l ms (letter (s.home f) s.nodes (KPoisonReply f k l 0) ∷ []) sim gd lf refl refl (owned_poison_back q f k s.nodes l (On 0 0 f k row) refl) (grind arith) (PoisonBy s.nodes) refl (shown_entry (is_blank_in w.pages f) (PoisonBy s.nodes) nb) refl refl
      ((reply, tt, tt), λ x i c st. elim (changed_poison_back q f k s.nodes l w.pages (On 0 0 f k row) refl x c) [ inl a ↦ inl (sym a) | inr b ↦ absurd (let v : stands_at z (RevisionAt f k) ≡ true = subst (λ u. stands_at z u ≡ true) b st in cc) ]))

  pub poison_clean : (s : Setup) (harts : Harts L H) (cpu : ℕ → Cpu L H) (home : ℕ → HomeSide L) (mover : Mover L) (w : World L) (f k q : ℕ) (ms : List (Post L)) →
      Sim s harts (record { cpu = cpu; home = home; mover = mover; flight = letter q (s.home f) (KPoisonClean f k) ∷ ms }) w → (home (s.home f)).entry f k ≡ HBusyPoison q →
      Goes s harts (record { cpu = cpu; home = put home (s.home f) (with_entry (home (s.home f)) f k (HPoison)); mover = mover; flight = ms ++ letter (s.home f) s.nodes (KPoisonReply f k ((home (s.home f)).line f k) 0) ∷ [] }) w
  poison_clean s harts cpu home mover w f k q ms sim he =
      let pl = sim.flight.0.0 in
      let lf : f < s.frames = pl.0.0 in
      let lk : k < s.blocks = pl.0.1 in
      let said : (w.block f k).revision ≡ PoisonClean q = pl.0.2.0 in
      let lq : q < s.nodes = pl.1.0 in
      let lq1 : q < s.nodes + 1 = omega arith in
      let sh = sim.homes f k lf lk in
      let lines = sh.line in
      let shown = subst (λ (u : HomeEntry). EntryShows s.nodes u (home_entry_at w f k)) he sh.entry in
      let hs = here_self f k in
      let be : (w.block f k).entry ≡ BusyPoison q s.nodes = entry_is (is_blank_in w.pages f) (w.block f k).entry (BusyPoison q s.nodes) shown (λ x. absurd (cc)) in
      let ln : s.nodes < s.nodes + 1 = omega arith in
      let nn = self_number s.nodes in
      let inv : Invariant L (s.nodes + 1) s.nodes s.pages s.blocks w = reached (s.nodes + 1) s.nodes s.pages s.blocks w sim.reached in
      let waits : (w.block f k).ask s.nodes ≡ PoisonWait = (blocks_ready (s.nodes + 1) s.nodes s.pages s.blocks w sim.reached f k s.nodes lk ln).0.poison q be in
      let nb : is_blank_in w.pages f ≡ false = collect_meets (s.nodes + 1) s.nodes s.pages s.blocks w f k inv ln lk (inr waits) in
      let row : BlockRow L = Revision_poison_clean q s.nodes in
      let gd : guard (s.nodes + 1) s.nodes s.pages s.blocks (On 0 0 f k row) w = ((said, be), lq1, lk, tt) in
      let z : World L = apply (s.nodes + 1) s.nodes (On 0 0 f k row) w in
      let zb = block_here (s.nodes + 1) s.nodes 0 0 f k row w in
      let gone : stands_at z (RevisionAt f k) ≡ false = grind arith in
      let reply : Placed s z (letter (s.home f) s.nodes (KPoisonReply f k ((home (s.home f)).line f k) 0)) × (touches w.pages (On 0 0 f k row) (AskAt f k s.nodes) ≡ true) = (((lf, lk, (ln, grind arith, refl)), (refl, refl), tt), grind arith) in
      one s harts _ w (On 0 0 f k row) refl gd (entry_row s harts cpu home mover w f k row (letter q (s.home f) (KPoisonClean f k)) (HPoison) ms (letter (s.home f) s.nodes (KPoisonReply f k ((home (s.home f)).line f k) 0) ∷ []) sim gd lf refl refl (owned_poison_clean q f k s.nodes (On 0 0 f k row) refl) (grind arith) (PoisonBy s.nodes) refl (shown_entry (is_blank_in w.pages f) (PoisonBy s.nodes) nb) refl refl
      ((reply, tt, tt), λ x i c st. elim (changed_poison_clean q f k s.nodes w.pages (On 0 0 f k row) refl x c) [ inl a ↦ inl (sym a) | inr b ↦ absurd (let v : stands_at z (RevisionAt f k) ≡ true = subst (λ u. stands_at z u ≡ true) b st in cc) ]))
