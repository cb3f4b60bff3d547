-- What an event of a block leaves of the columns of a node, of a home and of the mover.
use Rattle.std.proofs.Common.{◌≡◌, ℕ, Bool, true, false, cond, nat_eq, arith, ◌⊎◌, inl, inr, refl}
use Rattle.std.proofs.lemmas.Bool.Decides.{nat_tests}
use Rattle.og_block.specs.State.{Block}
use Rattle.og_block.specs.Rows.{Row as BlockRow, apply as block_apply, actor_of}
use Rattle.og_pages.specs.State.{State as Pages, put_pair}
use Rattle.og_whole.specs.Kind.{Kind, kind, Inner}
use Rattle.og_whole.specs.Events.{World, On, apply, above, after_above, Asked as AskedOf}
use Rattle.og_whole.specs.HomeEntry.{is_blank_in}
use Rattle.og_whole.proofs.HomeEntries.{blank_above}
use Rattle.og_relate.specs.Sides.{here, is_home, changes_column, is_copies, is_mover_kind, NodeSame, HomeSame, MoverSame}

module _ {L : Type 0} where
  -- ---- the block's columns

  copy_stays : (n q : ℕ) (r : BlockRow L) (b : Block L) → changes_column r q ≡ false → (block_apply n r b).copy q ≡ b.copy q
  copy_stays n q r b c = grind (arith, nat_tests)

  want_stays : (n q : ℕ) (r : BlockRow L) (b : Block L) → changes_column r q ≡ false → (block_apply n r b).want q ≡ b.want q
  want_stays n q r b c = grind (arith, nat_tests)

  acks_stays : (n q : ℕ) (r : BlockRow L) (b : Block L) → changes_column r q ≡ false → (block_apply n r b).acks q ≡ b.acks q
  acks_stays n q r b c = grind (arith, nat_tests)

  victim_stays : (n q : ℕ) (r : BlockRow L) (b : Block L) → changes_column r q ≡ false → (block_apply n r b).victim q ≡ b.victim q
  victim_stays n q r b c = grind (arith, nat_tests)

  entry_stays : (n : ℕ) (r : BlockRow L) (b : Block L) → is_home r ≡ false → (block_apply n r b).entry ≡ b.entry
  entry_stays n r b c = grind (arith, nat_tests)

  line_stays : (n : ℕ) (r : BlockRow L) (b : Block L) → is_home r ≡ false → (block_apply n r b).line ≡ b.line
  line_stays n r b c = grind (arith, nat_tests)

  sharing_stays : (n : ℕ) (r : BlockRow L) (b : Block L) → (block_apply n r b).sharing ≡ b.sharing
  sharing_stays n r b = grind (arith, nat_tests)

  -- ---- the page layer's columns

  above_request : (mover y o f k q : ℕ) (r : BlockRow L) (s : Pages L) → nat_eq q (actor_of r) ≡ false → (after_above (above mover y o f k (kind r)) s).request q ≡ s.request q
  above_request mover y o f k q r s c = grind (arith, nat_tests)

  above_slot : (mover y o f k q : ℕ) (r : BlockRow L) (s : Pages L) → nat_eq q (actor_of r) ≡ false → (after_above (above mover y o f k (kind r)) s).victim q ≡ s.victim q
  above_slot mover y o f k q r s c = grind (arith, nat_tests)

  above_tlb : (mover y o f k : ℕ) (d : Kind L) (s : Pages L) → (after_above (above mover y o f k d) s).tlb ≡ s.tlb
  above_tlb mover y o f k d s = grind (arith, nat_tests)

  above_walk : (mover y o f k : ℕ) (d : Kind L) (s : Pages L) → (after_above (above mover y o f k d) s).walk ≡ s.walk
  above_walk mover y o f k d s = grind (arith, nat_tests)

  above_noticed : (mover y o f k : ℕ) (d : Kind L) (s : Pages L) → (after_above (above mover y o f k d) s).noticed ≡ s.noticed
  above_noticed mover y o f k d s = grind (arith, nat_tests)

  above_role : (mover y o f k : ℕ) (d : Kind L) (s : Pages L) → (after_above (above mover y o f k d) s).role ≡ s.role
  above_role mover y o f k d s = grind (arith, nat_tests)

  above_holder : (mover y o f k : ℕ) (d : Kind L) (s : Pages L) → (after_above (above mover y o f k d) s).holder ≡ s.holder
  above_holder mover y o f k d s = grind (arith, nat_tests)

  above_table : (mover y o f k : ℕ) (d : Kind L) (s : Pages L) → (after_above (above mover y o f k d) s).page_table ≡ s.page_table
  above_table mover y o f k d s = grind (arith, nat_tests)

  above_job : (mover y o f k : ℕ) (d : Kind L) (s : Pages L) → is_mover_kind d mover ≡ false → (after_above (above mover y o f k d) s).job ≡ s.job
  above_job mover y o f k d s c = grind (arith, nat_tests)

  pub home_kind : (r : BlockRow L) → is_home r ≡ true → is_copies (kind r) ≡ false → (kind r ≡ Inner)
  home_kind r h c = grind arith

  -- ---- columns of the family of blocks

  -- what a row leaves of its block, it leaves of each block
  pub put_same : {A : Type 0} → (col : Block L → A) (block : ℕ → ℕ → Block L) (f k : ℕ) (b : Block L) → col b ≡ col (block f k) → (g j : ℕ) → col (put_pair block f k b g j) ≡ col (block g j)
  put_same {A} col block f k b e g j = at (nat_eq g f) (nat_eq j k) refl refl
    where
      at : (t u : Bool) → nat_eq g f ≡ t → nat_eq j k ≡ u → col (cond t (cond u b (block g j)) (block g j)) ≡ col (block g j)
      at true true a c =
          let ef : g ≡ f = grind (arith, nat_tests) in
          let ek : j ≡ k = grind (arith, nat_tests) in
          let x : block g j ≡ block f k = cc in cc
      at true false a c = refl
      at false u a c = refl

  pub node_same : (n m page other f k : ℕ) (r : BlockRow L) (w : World L) (q : ℕ) → changes_column r q ≡ false → (kind r ≡ Inner) ⊎ (nat_eq q (actor_of r) ≡ false) → NodeSame q w (apply n m (On page other f k r) w)
  node_same n m page other f k r w q c h = record {
    copy = put_same (λ b. b.copy q) w.block f k (block_apply n r (w.block f k)) (copy_stays n q r (w.block f k) c);
    want = put_same (λ b. b.want q) w.block f k (block_apply n r (w.block f k)) (want_stays n q r (w.block f k) c);
    acks = put_same (λ b. b.acks q) w.block f k (block_apply n r (w.block f k)) (acks_stays n q r (w.block f k) c);
    victim = put_same (λ b. b.victim q) w.block f k (block_apply n r (w.block f k)) (victim_stays n q r (w.block f k) c);
    request = elim h [ inl e ↦ cc | inr x ↦ above_request m page other f k q r w.pages x ];
    slot = elim h [ inl e ↦ cc | inr x ↦ above_slot m page other f k q r w.pages x ];
    tlb = λ y. let e = above_tlb m page other f k (kind r) w.pages in cc;
    walk = let e = above_walk m page other f k (kind r) w.pages in cc;
  }

  pub mover_same : (n m page other f k : ℕ) (r : BlockRow L) (w : World L) → changes_column r m ≡ false → is_mover_kind (kind r) m ≡ false → MoverSame m w (apply n m (On page other f k r) w)
  mover_same n m page other f k r w c h = record {
    job = above_job m page other f k (kind r) w.pages h;
    want = put_same (λ b. b.want m) w.block f k (block_apply n r (w.block f k)) (want_stays n m r (w.block f k) c);
    acks = put_same (λ b. b.acks m) w.block f k (block_apply n r (w.block f k)) (acks_stays n m r (w.block f k) c);
    page_table = λ y. let e = above_table m page other f k (kind r) w.pages in cc;
    holders = λ g q. let e = above_holder m page other f k (kind r) w.pages in cc;
    role = above_role m page other f k (kind r) w.pages;
    sharing = put_same (λ b. b.sharing) w.block f k (block_apply n r (w.block f k)) (sharing_stays n r (w.block f k));
  }

  -- the home's columns after any row: of another block, or by a row that isn't the home's
  pub home_same : (n m page other f k : ℕ) (r : BlockRow L) (w : World L) → AskedOf m page other f k (kind r) w.pages → is_home r ≡ false → (g j : ℕ) → HomeSame g j w (apply n m (On page other f k r) w)
  home_same n m page other f k r w a h g j = record {
    entry = let e = put_same (λ b. b.entry) w.block f k (block_apply n r (w.block f k)) (entry_stays n r (w.block f k) h) g j in let b = blank_above m page other f k (kind r) w.pages g a in cc;
    line = put_same (λ b. b.line) w.block f k (block_apply n r (w.block f k)) (line_stays n r (w.block f k) h) g j;
    noticed = let e = above_noticed m page other f k (kind r) w.pages in cc;
  }

  pub home_other : (n m page other f k : ℕ) (r : BlockRow L) (w : World L) → AskedOf m page other f k (kind r) w.pages → (g j : ℕ) → here f k g j ≡ false → HomeSame g j w (apply n m (On page other f k r) w)
  home_other n m page other f k r w a g j ne = record {
    entry = let e : put_pair w.block f k (block_apply n r (w.block f k)) g j ≡ w.block g j = grind (arith, nat_tests) in let b = blank_above m page other f k (kind r) w.pages g a in cc;
    line = let e : put_pair w.block f k (block_apply n r (w.block f k)) g j ≡ w.block g j = grind (arith, nat_tests) in cc;
    noticed = let e = above_noticed m page other f k (kind r) w.pages in cc;
  }

  -- and of its own block
  pub home_own : (n m page other f k : ℕ) (r : BlockRow L) (w : World L) → AskedOf m page other f k (kind r) w.pages → is_blank_in (apply n m (On page other f k r) w).pages f ≡ is_blank_in w.pages f
  home_own n m page other f k r w a = blank_above m page other f k (kind r) w.pages f a
