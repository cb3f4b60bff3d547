-- An event leaves each message that stands, but those in the places from which it takes; and it sends to no place where one stands.
use Rattle.std.proofs.Common.{◌≡◌, ℕ, ◌+◌, ◌<◌, Bool, true, false, cond, nat_eq, arith, inl, inr, refl, subst, ◌&&◌}
use Rattle.std.proofs.lemmas.Bool.{cases_Bool}
use Rattle.std.proofs.lemmas.Bool.Decides.{nat_tests}
use Rattle.og_block.specs.Rows.{Row as BlockRow, guard as block_guard, apply as block_apply, actor_of}
use Rattle.og_block.specs.Invariant.{Invariant as BlockInvariant}
use Rattle.og_block.specs.Message.{Message as BlockMessage, Asked, Answered, Returned, Revised, Intervened, Invalidated, Stands as StandsInBlock}
use Rattle.og_pages.specs.State.{State as Pages, Wait, Cleaning}
use Rattle.og_whole.specs.Kind.{Kind, kind}
use Rattle.og_whole.specs.Events.{World, On, guard, apply, above, after_above, Asked as AskedOf}
use Rattle.og_whole.specs.Link.{Invariant}
use Rattle.og_whole.specs.Messages.{Message, OfBlock, OfJob, OfWalk, OfDrop, OfNotice}
use Rattle.og_block.specs.Slots.{Slots, writes, is_in}
use Rattle.og_block.specs.Slots.{takes}
use Rattle.og_block.proofs.Stays.{stays}
use Rattle.og_block.proofs.Sends.{sends_free}
use Rattle.og_relate.specs.Data.{Kind as Letter, KCopyIn, KCopyDone, KCleanFrame, KFrameClean, Setup}
use Rattle.og_relate.specs.Places.{block_place, place_of, Named_by, Stands}
use Rattle.og_relate.specs.Sides.{here, block_touched, is_command, is_copies, owns, touches}

module _ {L : Type 0} where
  here_touched : (f k g j : ℕ) (t : Slots) (m : BlockMessage L) → block_touched f k t (block_place g j m) ≡ cond (here f k g j) (is_in t m) false
  here_touched f k g j t (Asked q a) = refl
  here_touched f k g j t (Answered q a) = refl
  here_touched f k g j t (Returned q a) = refl
  here_touched f k g j t (Revised a) = refl
  here_touched f k g j t (Intervened q a) = refl
  here_touched f k g j t (Invalidated q a) = refl

  no_command : (g j : ℕ) (m : BlockMessage L) → is_command (block_place g j m) ≡ false
  no_command g j (Asked q a) = refl
  no_command g j (Answered q a) = refl
  no_command g j (Returned q a) = refl
  no_command g j (Revised a) = refl
  no_command g j (Intervened q a) = refl
  no_command g j (Invalidated q a) = refl

  pub above_command : (mover y o f k : ℕ) (d : Kind L) (s : Pages L) → is_copies d ≡ false → (after_above (above mover y o f k d) s).command ≡ s.command
  above_command mover y o f k d s c = grind (arith, nat_tests)

  pub above_walk : (mover y o f k : ℕ) (d : Kind L) (s : Pages L) → (after_above (above mover y o f k d) s).walk ≡ s.walk
  above_walk mover y o f k d s = grind (arith, nat_tests)

  pub above_drop : (mover y o f k : ℕ) (d : Kind L) (s : Pages L) → (after_above (above mover y o f k d) s).drop ≡ s.drop
  above_drop mover y o f k d s = grind (arith, nat_tests)

  pub above_notice : (mover y o f k : ℕ) (d : Kind L) (s : Pages L) → (after_above (above mover y o f k d) s).notice ≡ s.notice
  above_notice mover y o f k d s = grind (arith, nat_tests)

  above_wait : (mover y o f k : ℕ) (d : Kind L) (s : Pages L) (a b c e : ℕ) → AskedOf mover y o f k d s → s.job ≡ Wait a b c e → (after_above (above mover y o f k d) s).job ≡ Wait a b c e
  above_wait mover y o f k d s a b c e g j = grind (arith, nat_tests)

  above_cleaning : (mover y o f k : ℕ) (d : Kind L) (s : Pages L) (a : ℕ) → AskedOf mover y o f k d s → s.job ≡ Cleaning a → (after_above (above mover y o f k d) s).job ≡ Cleaning a
  above_cleaning mover y o f k d s a g j = grind (arith, nat_tests)

  -- the same of a message of a block, where the row is of block k of frame f
  in_block : (n : ℕ) (w : World L) (f k g j : ℕ) (r : BlockRow L) (m : BlockMessage L) (t u : Bool) → nat_eq g f ≡ t → nat_eq j k ≡ u → block_guard r (w.block f k) → (l : L) → BlockInvariant n l (w.block f k) → actor_of r < n →
      cond (t && u) (is_in (takes r) m) false ≡ false → StandsInBlock n (w.block g j) m →
      StandsInBlock n (cond t (cond u (block_apply n r (w.block f k)) (w.block g j)) (w.block g j)) m × (cond (t && u) (is_in (writes r) m) false ≡ false)
  in_block n w f k g j r m true true a c gd l inv lp o s =
      let ef : g ≡ f = grind (arith, nat_tests) in
      let ek : j ≡ k = grind (arith, nat_tests) in
      let s2 : StandsInBlock n (w.block f k) m = subst (λ (x : ℕ). StandsInBlock n (w.block f x) m) ek (subst (λ (x : ℕ). StandsInBlock n (w.block x j) m) ef s) in
      (stays n l (w.block f k) r m gd inv lp o s2, elim (cases_Bool (is_in (writes r) m)) [ inl t ↦ absurd (sends_free n l (w.block f k) r m gd inv lp t o s2) | inr t ↦ t ])
  in_block n w f k g j r m true false a c gd l inv lp o s = (s, refl)
  in_block n w f k g j r m false u a c gd l inv lp o s = (s, refl)

  pub stands_on : (s : Setup) (w : World L) (page other f k : ℕ) (r : BlockRow L) (c : Message L) → guard (s.nodes + 1) s.nodes s.pages s.blocks (On page other f k r) w → Invariant L (s.nodes + 1) s.nodes s.pages s.blocks w →
      Stands s w c → owns (On page other f k r) (place_of c) ≡ false → Stands s (apply (s.nodes + 1) s.nodes (On page other f k r) w) c × (touches w.pages (On page other f k r) (place_of c) ≡ false)
  stands_on s w page other f k r (OfBlock g j m) gd inv st o =
      let nc : is_command (block_place g j m) ≡ false = no_command g j m in
      let ho : block_touched f k (takes r) (block_place g j m) ≡ cond (here f k g j) (is_in (takes r) m) false = here_touched f k g j (takes r) m in
      let ht : block_touched f k (writes r) (block_place g j m) ≡ cond (here f k g j) (is_in (writes r) m) false = here_touched f k g j (writes r) m in
      let o2 : cond (here f k g j) (is_in (takes r) m) false ≡ false = cc in
      let x = in_block (s.nodes + 1) w f k g j r m (nat_eq g f) (nat_eq j k) refl refl gd.0 (w.pages.newest f k) (inv.link f k gd.2).invariant gd.1 o2 st.2 in
      let t2 : cond (here f k g j) (is_in (writes r) m) false ≡ false = x.1 in
      ((st.0, st.1, x.0), cc)
  stands_on s w page other f k r (OfJob c) gd inv st o = let e = above_command s.nodes page other f k (kind r) w.pages o in ((cc, st.1), o)
  stands_on s w page other f k r (OfWalk q x) gd inv st o = let e = above_walk s.nodes page other f k (kind r) w.pages in ((st.0, cc, st.2), refl)
  stands_on s w page other f k r (OfDrop q x) gd inv st o = let e = above_drop s.nodes page other f k (kind r) w.pages in ((st.0, cc, st.2), refl)
  stands_on s w page other f k r (OfNotice q x) gd inv st o = let e = above_notice s.nodes page other f k (kind r) w.pages in ((st.0, cc, st.2), refl)

  pub named_on : (s : Setup) (w : World L) (page other f k : ℕ) (r : BlockRow L) (x : Letter L) → guard (s.nodes + 1) s.nodes s.pages s.blocks (On page other f k r) w → Named_by w x → Named_by (apply (s.nodes + 1) s.nodes (On page other f k r) w) x
  named_on s w page other f k r (KCopyIn g j l) gd h = (h.0, h.1, above_wait s.nodes page other f k (kind r) w.pages h.0 h.1 g j gd.3 h.2)
  named_on s w page other f k r (KCopyDone g j) gd h = (h.0, h.1, above_wait s.nodes page other f k (kind r) w.pages h.0 h.1 g j gd.3 h.2)
  named_on s w page other f k r (KCleanFrame g) gd h = above_cleaning s.nodes page other f k (kind r) w.pages g gd.3 h
  named_on s w page other f k r (KFrameClean g) gd h = above_cleaning s.nodes page other f k (kind r) w.pages g gd.3 h
  named_on s w page other f k r x gd h = tt
