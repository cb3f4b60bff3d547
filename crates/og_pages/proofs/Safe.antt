-- What the invariant gives in each state.
use Rattle.std.proofs.Common.{◌≡◌, ℕ, ◌+◌, ◌<◌, true, false, arith, refl, ◌≢◌, ◌⊎◌, inl, inr}
use Rattle.std.proofs.lemmas.Bool.{cases_Bool, cases_eq}
use Rattle.std.proofs.lemmas.Bool.Decides.{nat_tests}
use Rattle.og_pages.proofs.Runs.{named_block}
use Rattle.og_pages.specs.State.{State, Role, Job, Notice, Free, Mapped, Target, Collect, Wait, Gather, Cleaning, Tell, CopyIn, CopyDone, CleanFrame, FrameClean, NoNotice, Walking, NoDrop, Collecting, Request, Walk, VictimSlot, NoRequest, NoWalk, NoVictim, Outstanding, VictimOf, DropFrame}
use Rattle.og_pages.specs.Rows.{guard, is_dead, is_moving, Walk_answer, Walk_refuse, Drop_answer, Copy_next, Copy_last, Frame_free}
use Rattle.og_pages.specs.Invariant.{Invariant, Entries, Requests, Walks, Walkers, Victims, Drops, Drops_by, Holders, Gathering, Mappings, place, is_left, may_be_named, has_notice}
use Rattle.og_pages.specs.Claims.{Unnamed, FreeUnnamed, TargetUnnamed, OnlyHolders, LinesHeld, CopiesPlaced, FramesApart, CopyMeets, CleaningMeets, IsOccupied, Served, Awaited, MoverWaits}

-- where no frame is gathered no request to drop is out
no_drop : {L : Type 0} → (s : State L) (node frame : ℕ) → Drops_by s node (s.drop node) → s.job ≡ Tell frame → s.drop node ≡ NoDrop
no_drop s node frame d e = grind arith

no_notice : (n : Notice) → has_notice n ≡ false → n ≡ NoNotice
no_notice n e = grind arith

module _ {L : Type 0} (pages blocks : ℕ) (s : State L) (inv : Invariant L pages blocks s) where
  -- a frame that nodes may not name is named by none
  unnamed : (frame node page number : ℕ) → may_be_named (s.role frame) ≡ false → Unnamed L s frame node page number
  unnamed frame node page number u =
      let h : Holders pages blocks s frame node = inv.holders frame node in
      let none : s.holder frame node ≡ false = grind arith in
      record {
        holder = none;
        entry = λ e. let t : Entries pages blocks s node page = inv.entries node page in grind arith;
        walk_answer = λ e. let t : Walks pages blocks s node = inv.walks node in grind arith;
        request = λ e. let t : Requests pages blocks s node = inv.requests node in grind arith;
        victim = λ e. let t : Victims pages blocks s node = inv.victims node in grind arith;
        copy = let t = inv.copies frame number node in grind arith;
        drop = λ e. let t : Drops pages blocks s node = inv.drops node in grind arith;
        dropped = λ e. let t : Drops pages blocks s node = inv.drops node in grind arith;
        notice = let t = inv.notices frame in grind arith;
        noticed = let t = inv.notices frame in grind arith;
      }

  placed : (frame number node : ℕ) → s.cached frame number node ≡ true → (page : ℕ) × (page < pages) × (place s.job (s.page_table page) page number ≡ frame)
  placed frame number node e = let c = inv.copies frame number node e in by_role (s.role frame) refl (inv.holders frame node c.0) c.1 c.2
    where
      by_role : (u : Role) → s.role frame ≡ u → may_be_named (s.role frame) ≡ true → is_dead (s.phase frame number) ≡ false → number < blocks → (page : ℕ) × (page < pages) × (place s.job (s.page_table page) page number ≡ frame)
      by_role Free e h d lt = absurd (grind arith)
      by_role (Target g) e h d lt = absurd (grind arith)
      by_role (Mapped y) e h d lt = let r = named_block pages blocks s frame number y inv lt (grind (arith, nat_tests)) d in (y, r.1, r.2)
      by_role u e h d lt = let t = inv.phases frame number lt in absurd (grind arith)

  noticed_page : (frame : ℕ) → s.notice frame ≢ NoNotice → (page : ℕ) × (s.role frame ≡ Mapped page) × (s.page_table page ≡ frame) × (is_left s.job frame ≡ false)
  noticed_page frame e = by_role (s.role frame) refl
    where
      by_role : (u : Role) → s.role frame ≡ u → (page : ℕ) × (s.role frame ≡ Mapped page) × (s.page_table page ≡ frame) × (is_left s.job frame ≡ false)
      by_role (Mapped y) u = let h = inv.roles frame in let t = inv.notices frame in (y, u, grind arith, grind arith)
      by_role w u = let h = inv.notices frame in absurd (grind arith)

  collect_of : (frame number : ℕ) → number < blocks → s.phase frame number ≡ Collecting → (page : ℕ) × (new : ℕ) × (s.job ≡ Collect page frame new number)
  collect_of frame number lt e = by_job s.job refl
    where
      by_job : (j : Job L) → s.job ≡ j → (page : ℕ) × (new : ℕ) × (s.job ≡ Collect page frame new number)
      by_job (Collect page old new at) x = let h = inv.phases frame number lt in let a : (old ≡ frame) × (at ≡ number) = grind (arith, nat_tests) in (page, new, cc)
      by_job j x = let h = inv.phases frame number lt in absurd (grind (arith, nat_tests))

  -- after the last block there is no next one
  next_or_last : (page old new number : ℕ) → s.job ≡ Wait page old new number → s.command ≡ CopyDone → guard pages blocks (Copy_next page old new number) s ⊎ guard pages blocks (Copy_last page old new number) s
  next_or_last page old new number e c = let j = inv.jobs in let lt : number < blocks = grind arith in elim (cases_eq (number + 1) blocks) [ inl last ↦ inr (e, c, last) | inr more ↦ inl (e, c, omega arith) ]

  copy_of : s.command ≡ CopyDone → (page : ℕ) × (old : ℕ) × (new : ℕ) × (number : ℕ) × (guard pages blocks (Copy_next page old new number) s ⊎ guard pages blocks (Copy_last page old new number) s)
  copy_of e = by_job s.job refl
    where
      by_job : (j : Job L) → s.job ≡ j → (page : ℕ) × (old : ℕ) × (new : ℕ) × (number : ℕ) × (guard pages blocks (Copy_next page old new number) s ⊎ guard pages blocks (Copy_last page old new number) s)
      by_job (Wait page old new number) x = (page, old, new, number, next_or_last page old new number x e)
      by_job j x = let h = inv.jobs in absurd (grind arith)

  clean_of : s.command ≡ FrameClean → (frame : ℕ) × guard pages blocks (Frame_free frame) s
  clean_of e = by_job s.job refl
    where
      by_job : (j : Job L) → s.job ≡ j → (frame : ℕ) × guard pages blocks (Frame_free frame) s
      by_job (Cleaning frame) x = (frame, (x, e))
      by_job j x = let h = inv.jobs in absurd (grind arith)

  cleaning_meets : (frame : ℕ) → s.job ≡ Cleaning frame → s.command ≡ CleanFrame → CleaningMeets L pages blocks s frame
  cleaning_meets frame e c = record {
    row = (e, c);
    dead = λ number lt. let t = inv.phases frame number lt in let j = inv.jobs in grind arith;
    no_holder = λ node. let t : Gathering pages blocks s node = inv.gathering node in grind arith;
  }

  cleaning_of : s.command ≡ CleanFrame → (frame : ℕ) × CleaningMeets L pages blocks s frame
  cleaning_of e = by_job s.job refl
    where
      by_job : (j : Job L) → s.job ≡ j → (frame : ℕ) × CleaningMeets L pages blocks s frame
      by_job (Cleaning frame) x = (frame, cleaning_meets frame x e)
      by_job j x = let h = inv.jobs in absurd (grind arith)

  copy_meets : (page old new number : ℕ) (line : L) → s.job ≡ Wait page old new number → s.command ≡ CopyIn line → CopyMeets L pages blocks s page old new number line
  copy_meets page old new number line e m =
      let j = inv.jobs in
      let lt : number < blocks = grind arith in
      let t = inv.phases new number lt in
      let u = inv.phases old number lt in
      let v = inv.lines in
      record { row = (e, m); target = grind arith; new_dead = grind (arith, nat_tests); old_dead = grind (arith, nat_tests); line_is = grind arith }

  copy_in_of : (line : L) → s.command ≡ CopyIn line → (page : ℕ) × (old : ℕ) × (new : ℕ) × (number : ℕ) × CopyMeets L pages blocks s page old new number line
  copy_in_of line e = by_job s.job refl
    where
      by_job : (j : Job L) → s.job ≡ j → (page : ℕ) × (old : ℕ) × (new : ℕ) × (number : ℕ) × CopyMeets L pages blocks s page old new number line
      by_job (Wait page old new number) x = (page, old, new, number, copy_meets page old new number line x e)
      by_job j x = let h = inv.jobs in absurd (grind arith)

  walk_row : (node page : ℕ) → s.walk node ≡ Walking page → guard pages blocks (Walk_answer node page (s.page_table page)) s ⊎ guard pages blocks (Walk_refuse node page) s
  walk_row node page e = elim (cases_Bool (is_moving s.job page)) [ inl moving ↦ inr (e, moving) | inr still ↦ inl (e, still, refl) ]

  drop_row : (node frame : ℕ) → s.drop node ≡ DropFrame frame → guard pages blocks (Drop_answer node frame) s ⊎ IsOccupied L s node
  drop_row node frame e = by (s.request node) (s.walk node) (s.victim node) refl refl refl
    where
      by : (r : Request) (w : Walk) (v : VictimSlot) → s.request node ≡ r → s.walk node ≡ w → s.victim node ≡ v → guard pages blocks (Drop_answer node frame) s ⊎ IsOccupied L s node
      by NoRequest NoWalk NoVictim a b c = inl (e, a, b, c)
      by (Outstanding y f k) w v a b c = inr (inl (λ x. grind arith))
      by NoRequest NoWalk (VictimOf f k) a b c = inr (inr (inr (λ x. grind arith)))
      by NoRequest w v a b c = inr (inr (inl (λ x. grind arith)))

  pub waits : MoverWaits L pages blocks s
  waits = by_job s.job refl
    where
      by_job : (j : Job L) → s.job ≡ j → Awaited s j
      by_job (Collect page old new number) e = let j = inv.jobs in let h = inv.phases old number (grind arith) in grind (arith, nat_tests)
      by_job (Wait page old new number) e = let j = inv.jobs in λ x. grind arith
      by_job (Cleaning frame) e = let j = inv.jobs in λ x. grind arith
      by_job (Gather frame) e = λ node h x. let t : Gathering pages blocks s node = inv.gathering node in grind arith
      by_job j e = tt

  pub served : Served L pages blocks s
  served = record {
    walk = λ node page e. let t : Walks pages blocks s node = inv.walks node in let m : Mappings pages blocks s page = inv.mappings page in grind arith;
    walk_row = walk_row;
    walk_answer = λ node page frame e. let t : Walks pages blocks s node = inv.walks node in let u : Walkers pages blocks s node = inv.walkers node in (grind arith, grind arith, grind arith, e);
    drop = λ node frame e. let t : Drops pages blocks s node = inv.drops node in grind arith;
    drop_row = drop_row;
    dropped = λ node frame e. let t : Drops pages blocks s node = inv.drops node in grind arith;
    no_held_drop = λ frame node e. no_drop s node frame (inv.drops node) e;
    notice = noticed_page;
    one_notice = λ frame e. let t = inv.notices frame in no_notice (s.notice frame) (grind arith);
    collect = collect_of;
    copy_in = copy_in_of;
    copy_done = copy_of;
    clean_frame = cleaning_of;
    frame_clean = clean_of;
  }

  pub lines_held : LinesHeld L pages blocks s
  lines_held = inv.held

  pub copies_placed : CopiesPlaced L pages blocks s
  copies_placed = placed

  pub frames_apart : FramesApart L pages blocks s
  frames_apart y z ly lz e = let a : s.role (s.page_table y) ≡ Mapped y = inv.mappings y ly in let b : s.role (s.page_table z) ≡ Mapped z = inv.mappings z lz in grind arith

  pub free_unnamed : FreeUnnamed L pages blocks s
  free_unnamed frame e = record {
    unnamed = λ node page number. unnamed frame node page number (grind arith);
    no_job = let j = inv.jobs in grind (arith, nat_tests);
    dead = λ number lt. let t = inv.phases frame number lt in grind arith;
  }

  pub target_unnamed : TargetUnnamed L pages blocks s
  target_unnamed frame other node page number e = unnamed frame node page number (grind arith)

  pub only_holders : OnlyHolders L pages blocks s
  only_holders = record {
    entry = λ node page frame e. let t : Entries pages blocks s node page = inv.entries node page in grind arith;
    walk_answer = λ node page frame e. let t : Walks pages blocks s node = inv.walks node in grind arith;
    request = λ node page frame number e. let t : Requests pages blocks s node = inv.requests node in grind arith;
    victim = λ node frame number e. let t : Victims pages blocks s node = inv.victims node in grind arith;
    copy = λ frame number node e. (inv.copies frame number node e).0;
  }
