-- A place to which an event doesn't send, and from which it doesn't take, has what it had.
use Rattle.std.proofs.Common.{◌≡◌, ℕ, ◌+◌, Bool, true, false, cond, arith, refl}
use Rattle.std.proofs.lemmas.Bool.Decides.{nat_tests}
use Rattle.og_block.specs.State.{Block}
use Rattle.og_block.specs.Rows.{Row as BlockRow, apply as block_apply}
use Rattle.og_block.specs.Slots.{writes}
use Rattle.og_pages.specs.State.{State as Pages}
use Rattle.og_pages.specs.Rows.{Row as PageRow, apply as page_apply}
use Rattle.og_whole.specs.Kind.{kind}
use Rattle.og_whole.specs.Events.{World, Event, Page, On, guard, apply, is_of_pages}
use Rattle.og_relate.specs.Data.{Setup}
use Rattle.og_relate.specs.Places.{Place, AskAt, ResponseAt, BackAt, RevisionAt, InterventionAt, InvalidationAt, CommandAt, WalkAt, DropAt, NoticeAt, stands_at}
use Rattle.og_relate.specs.Sides.{here, page_touches, touches}
use Rattle.og_relate.proofs.Fewer.{column_at}
use Rattle.og_relate.proofs.Passes.{above_command, above_walk, above_drop, above_notice}

module _ {L : Type 0} where
  -- ---- a block's slots

  left_ask : (n : ℕ) (b : Block L) (r : BlockRow L) (q : ℕ) → (writes r).ask q ≡ false → (block_apply n r b).ask q ≡ b.ask q
  left_ask n b r q t = grind (arith, nat_tests)

  left_response : (n : ℕ) (b : Block L) (r : BlockRow L) (q : ℕ) → (writes r).response q ≡ false → (block_apply n r b).response q ≡ b.response q
  left_response n b r q t = grind (arith, nat_tests)

  left_back : (n : ℕ) (b : Block L) (r : BlockRow L) (q : ℕ) → (writes r).back q ≡ false → (block_apply n r b).back q ≡ b.back q
  left_back n b r q t = grind (arith, nat_tests)

  left_revision : (n : ℕ) (b : Block L) (r : BlockRow L) → (writes r).revision ≡ false → (block_apply n r b).revision ≡ b.revision
  left_revision n b r t = grind (arith, nat_tests)

  left_intervention : (n : ℕ) (b : Block L) (r : BlockRow L) (q : ℕ) → (writes r).intervention q ≡ false → (block_apply n r b).intervention q ≡ b.intervention q
  left_intervention n b r q t = grind (arith, nat_tests)

  left_invalidation : (n : ℕ) (b : Block L) (r : BlockRow L) (q : ℕ) → (writes r).invalidation q ≡ false → (block_apply n r b).invalidation q ≡ b.invalidation q
  left_invalidation n b r q t = grind (arith, nat_tests)

  -- ---- the page layer's places, in rows of its own

  left_command : (s : Pages L) (r : PageRow L) → is_of_pages r ≡ true → page_touches s r CommandAt ≡ false → (page_apply r s).command ≡ s.command
  left_command s r o t = grind arith

  left_walk : (s : Pages L) (r : PageRow L) (q : ℕ) → page_touches s r (WalkAt q) ≡ false → (page_apply r s).walk q ≡ s.walk q
  left_walk s r q t = grind (arith, nat_tests)

  left_drop : (s : Pages L) (r : PageRow L) (q : ℕ) → page_touches s r (DropAt q) ≡ false → (page_apply r s).drop q ≡ s.drop q
  left_drop s r q t = grind (arith, nat_tests)

  left_notice : (s : Pages L) (r : PageRow L) (f : ℕ) → page_touches s r (NoticeAt f) ≡ false → (page_apply r s).notice f ≡ s.notice f
  left_notice s r f t = grind (arith, nat_tests)

  -- ---- any event

  before_page : (s : Setup) (w : World L) (r : PageRow L) (p : Place) → is_of_pages r ≡ true → page_touches w.pages r p ≡ false → stands_at (apply (s.nodes + 1) s.nodes (Page r) w) p ≡ true → stands_at w p ≡ true
  before_page s w r CommandAt o t st = let e = left_command w.pages r o t in cc
  before_page s w r (WalkAt q) o t st = let e = left_walk w.pages r q t in cc
  before_page s w r (DropAt q) o t st = let e = left_drop w.pages r q t in cc
  before_page s w r (NoticeAt f) o t st = let e = left_notice w.pages r f t in cc
  before_page s w r p o t st = st

  before_on : (s : Setup) (w : World L) (page other f k : ℕ) (r : BlockRow L) (p : Place) → touches w.pages (On page other f k r) p ≡ false → stands_at (apply (s.nodes + 1) s.nodes (On page other f k r) w) p ≡ true → stands_at w p ≡ true
  before_on s w page other f k r (AskAt g j q) t st = let c = column_at (λ b. b.ask q) (s.nodes + 1) s.nodes page other f k r w g j in in_block (here f k g j) refl c
    where
      in_block : (u : Bool) → here f k g j ≡ u → ((apply (s.nodes + 1) s.nodes (On page other f k r) w).block g j).ask q ≡ cond u ((block_apply (s.nodes + 1) r (w.block f k)).ask q) ((w.block g j).ask q) → stands_at w (AskAt g j q) ≡ true
      in_block true h c = let e1 : g ≡ f = grind (arith, nat_tests) in let e2 : j ≡ k = grind (arith, nat_tests) in let e = left_ask (s.nodes + 1) (w.block f k) r q (cc) in cc
      in_block false h c = cc
  before_on s w page other f k r (ResponseAt g j q) t st = let c = column_at (λ b. b.response q) (s.nodes + 1) s.nodes page other f k r w g j in in_block (here f k g j) refl c
    where
      in_block : (u : Bool) → here f k g j ≡ u → ((apply (s.nodes + 1) s.nodes (On page other f k r) w).block g j).response q ≡ cond u ((block_apply (s.nodes + 1) r (w.block f k)).response q) ((w.block g j).response q) → stands_at w (ResponseAt g j q) ≡ true
      in_block true h c = let e1 : g ≡ f = grind (arith, nat_tests) in let e2 : j ≡ k = grind (arith, nat_tests) in let e = left_response (s.nodes + 1) (w.block f k) r q (cc) in cc
      in_block false h c = cc
  before_on s w page other f k r (BackAt g j q) t st = let c = column_at (λ b. b.back q) (s.nodes + 1) s.nodes page other f k r w g j in in_block (here f k g j) refl c
    where
      in_block : (u : Bool) → here f k g j ≡ u → ((apply (s.nodes + 1) s.nodes (On page other f k r) w).block g j).back q ≡ cond u ((block_apply (s.nodes + 1) r (w.block f k)).back q) ((w.block g j).back q) → stands_at w (BackAt g j q) ≡ true
      in_block true h c = let e1 : g ≡ f = grind (arith, nat_tests) in let e2 : j ≡ k = grind (arith, nat_tests) in let e = left_back (s.nodes + 1) (w.block f k) r q (cc) in cc
      in_block false h c = cc
  before_on s w page other f k r (RevisionAt g j) t st = let c = column_at (λ b. b.revision) (s.nodes + 1) s.nodes page other f k r w g j in in_block (here f k g j) refl c
    where
      in_block : (u : Bool) → here f k g j ≡ u → ((apply (s.nodes + 1) s.nodes (On page other f k r) w).block g j).revision ≡ cond u (block_apply (s.nodes + 1) r (w.block f k)).revision (w.block g j).revision → stands_at w (RevisionAt g j) ≡ true
      in_block true h c = let e1 : g ≡ f = grind (arith, nat_tests) in let e2 : j ≡ k = grind (arith, nat_tests) in let e = left_revision (s.nodes + 1) (w.block f k) r (cc) in cc
      in_block false h c = cc
  before_on s w page other f k r (InterventionAt g j q) t st = let c = column_at (λ b. b.intervention q) (s.nodes + 1) s.nodes page other f k r w g j in in_block (here f k g j) refl c
    where
      in_block : (u : Bool) → here f k g j ≡ u → ((apply (s.nodes + 1) s.nodes (On page other f k r) w).block g j).intervention q ≡ cond u ((block_apply (s.nodes + 1) r (w.block f k)).intervention q) ((w.block g j).intervention q) → stands_at w (InterventionAt g j q) ≡ true
      in_block true h c = let e1 : g ≡ f = grind (arith, nat_tests) in let e2 : j ≡ k = grind (arith, nat_tests) in let e = left_intervention (s.nodes + 1) (w.block f k) r q (cc) in cc
      in_block false h c = cc
  before_on s w page other f k r (InvalidationAt g j q) t st = let c = column_at (λ b. b.invalidation q) (s.nodes + 1) s.nodes page other f k r w g j in in_block (here f k g j) refl c
    where
      in_block : (u : Bool) → here f k g j ≡ u → ((apply (s.nodes + 1) s.nodes (On page other f k r) w).block g j).invalidation q ≡ cond u ((block_apply (s.nodes + 1) r (w.block f k)).invalidation q) ((w.block g j).invalidation q) → stands_at w (InvalidationAt g j q) ≡ true
      in_block true h c = let e1 : g ≡ f = grind (arith, nat_tests) in let e2 : j ≡ k = grind (arith, nat_tests) in let e = left_invalidation (s.nodes + 1) (w.block f k) r q (cc) in cc
      in_block false h c = cc
  before_on s w page other f k r CommandAt t st = let e = above_command s.nodes page other f k (kind r) w.pages t in cc
  before_on s w page other f k r (WalkAt q) t st = let e = above_walk s.nodes page other f k (kind r) w.pages in cc
  before_on s w page other f k r (DropAt q) t st = let e = above_drop s.nodes page other f k (kind r) w.pages in cc
  before_on s w page other f k r (NoticeAt g) t st = let e = above_notice s.nodes page other f k (kind r) w.pages in cc

  pub stood_before : (s : Setup) (w : World L) (e : Event L) (p : Place) → guard (s.nodes + 1) s.nodes s.pages s.blocks e w → touches w.pages e p ≡ false → stands_at (apply (s.nodes + 1) s.nodes e w) p ≡ true → stands_at w p ≡ true
  stood_before s w (Page r) p gd t st = before_page s w r p gd.1 t st
  stood_before s w (On page other f k r) p gd t st = before_on s w page other f k r p t st
