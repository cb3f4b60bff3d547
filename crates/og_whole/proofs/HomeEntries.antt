-- The entry that each home has, where the mover's messages meet it.
use Rattle.std.proofs.Common.{◌≡◌, ℕ, ◌<◌, false, arith, true, refl}
use Rattle.std.proofs.lemmas.Bool.Decides.{nat_tests}
use Rattle.og_block.specs.State.{Unowned, PoisonBy, Block}
use Rattle.og_pages.specs.State.{CleanFrame, State as Pages, Wait, Cleaning, CopyIn, FrameClean, Outstanding, Collecting, Dead, Live, Phase}
use Rattle.og_pages.specs.Invariant.{Invariant as PagesInvariant, Requests, Gathering}
use Rattle.og_whole.specs.Link.{Invariant, is_targeted}
use Rattle.og_block.specs.Roles.{Ends_by}
use Rattle.og_whole.specs.Events.{World, above, after_above, Asked}
use Rattle.og_whole.specs.HomeEntry.{is_blank, home_entry_at, EntriesMet}
use Rattle.og_whole.specs.Kind.{Kind, Loads, Stores, Sends, Fills, Fills_store, Ends, Evicts, Settles, Poisons, Collects, Copies, Inner, phase_of}

dead_is : {L : Type 0} → (mover : ℕ) (b : Block L) → phase_of mover b ≡ Dead → Ends_by mover b.entry → b.entry ≡ PoisonBy mover
dead_is mover b e en = grind arith

-- a cleaning finds all blocks of the frame poisoned
pub clean_finds : {L : Type 0} → (actors mover pages blocks : ℕ) (w : World L) (f k : ℕ) → Invariant L actors mover pages blocks w → k < blocks → w.pages.job ≡ Cleaning f → w.pages.command ≡ CleanFrame → home_entry_at w f k ≡ PoisonBy mover
clean_finds actors mover pages blocks w f k inv lt e c =
    let j = inv.of_pages.jobs in
    let h = inv.of_pages.phases f k lt in
    let l = inv.link f k lt in
    let d : phase_of mover (w.block f k) ≡ Dead = let x = l.phase_is in grind arith in
    let i : (w.block f k).entry ≡ PoisonBy mover = dead_is mover (w.block f k) d l.parts.ends in grind arith

pub clean_leaves : {L : Type 0} → (actors mover pages blocks : ℕ) (w : World L) (f k : ℕ) → Invariant L actors mover pages blocks w → k < blocks → w.pages.job ≡ Cleaning f → w.pages.command ≡ FrameClean → home_entry_at w f k ≡ Unowned
clean_leaves actors mover pages blocks w f k inv lt e c =
    let j = inv.of_pages.jobs in
    let h = inv.of_pages.phases f k lt in
    let l = inv.link f k lt in
    let d : phase_of mover (w.block f k) ≡ Dead = let x = l.phase_is in grind arith in
    let i : (w.block f k).entry ≡ PoisonBy mover = dead_is mover (w.block f k) d l.parts.ends in grind (arith, nat_tests)

pub copy_finds : {L : Type 0} → (actors mover pages blocks : ℕ) (w : World L) (page o f k : ℕ) (v : L) → Invariant L actors mover pages blocks w → k < blocks → w.pages.job ≡ Wait page o f k → w.pages.command ≡ CopyIn v → home_entry_at w f k ≡ Unowned
copy_finds actors mover pages blocks w page o f k v inv lt e c =
    let j = inv.of_pages.jobs in
    let h = inv.of_pages.phases f k lt in
    let l = inv.link f k lt in
    let d : phase_of mover (w.block f k) ≡ Dead = let x = l.phase_is in grind (arith, nat_tests) in
    let i : (w.block f k).entry ≡ PoisonBy mover = dead_is mover (w.block f k) d l.parts.ends in grind (arith, nat_tests)

-- no request is for a blank frame, so an Unowned entry that serves one is Unowned in the layer of blocks too
pub request_not_blank : {L : Type 0} → (pages blocks : ℕ) (s : Pages L) (p y f k : ℕ) → PagesInvariant L pages blocks s → s.request p ≡ Outstanding y f k → is_blank (s.role f) s.job s.command f ≡ false
request_not_blank pages blocks s p y f k inv e = let r : Requests pages blocks s p = inv.requests p in let t : Gathering pages blocks s p = inv.gathering p in grind (arith, nat_tests)

-- a block that is being collected is not of a blank frame
pub collect_not_blank : {L : Type 0} → (pages blocks : ℕ) (s : Pages L) (f k : ℕ) → PagesInvariant L pages blocks s → k < blocks → s.phase f k ≡ Collecting → is_blank (s.role f) s.job s.command f ≡ false
collect_not_blank pages blocks s f k inv lt e = let h = inv.phases f k lt in let j = inv.jobs in grind (arith, nat_tests)

-- a row of a block makes no frame blank, and ends no frame's being so
pub blank_above : {L : Type 0} → (mover page o f k : ℕ) (d : Kind L) (s : Pages L) (g : ℕ) → Asked mover page o f k d s → is_blank ((after_above (above mover page o f k d) s).role g) (after_above (above mover page o f k d) s).job (after_above (above mover page o f k d) s).command g ≡ is_blank (s.role g) s.job s.command g
blank_above mover page o f k (Loads p) s g out = grind (arith, nat_tests)
blank_above mover page o f k (Stores p v) s g out = grind (arith, nat_tests)
blank_above mover page o f k (Sends p) s g out = grind (arith, nat_tests)
blank_above mover page o f k (Fills p) s g out = grind (arith, nat_tests)
blank_above mover page o f k (Fills_store p v) s g out = grind (arith, nat_tests)
blank_above mover page o f k (Ends p) s g out = grind (arith, nat_tests)
blank_above mover page o f k (Evicts p) s g out = grind (arith, nat_tests)
blank_above mover page o f k (Settles p) s g out = grind (arith, nat_tests)
blank_above mover page o f k (Poisons p) s g out = grind (arith, nat_tests)
blank_above mover page o f k (Collects p l) s g out = grind (arith, nat_tests)
blank_above mover page o f k (Copies p v) s g out = grind (arith, nat_tests)
blank_above mover page o f k (Inner) s g out = grind (arith, nat_tests)

-- each block of a blank frame is Unowned at its home: a dead one since it is the mover's, a live one since nobody has asked for it
blank_entry : {L : Type 0} → (actors mover pages blocks : ℕ) (w : World L) (f k : ℕ) → Invariant L actors mover pages blocks w → k < blocks → is_blank (w.pages.role f) w.pages.job w.pages.command f ≡ true → home_entry_at w f k ≡ Unowned
blank_entry {L} actors mover pages blocks w f k inv lt blank = by (w.pages.phase f k) refl
  where
    target : w.pages.phase f k ≡ Live → is_targeted (w.pages.role f) ≡ true
    target e = let h = inv.of_pages.phases f k lt in grind arith

    by : (p : Phase) → w.pages.phase f k ≡ p → home_entry_at w f k ≡ Unowned
    by Dead e =
        let l = inv.link f k lt in
        let d : phase_of mover (w.block f k) ≡ Dead = let x = l.phase_is in cc in
        let i : (w.block f k).entry ≡ PoisonBy mover = dead_is mover (w.block f k) d l.parts.ends in grind arith
    by Live e = let u : (w.block f k).entry ≡ Unowned = inv.untouched f k lt (target e) e in grind arith
    by Collecting e = let n = collect_not_blank pages blocks w.pages f k inv.of_pages lt e in absurd (cc)

pub entries_met : {L : Type 0} → (actors mover pages blocks : ℕ) (w : World L) → Invariant L actors mover pages blocks w → EntriesMet L actors mover pages blocks w
entries_met actors mover pages blocks w inv = record {
  clean_finds = λ f k lt e c. clean_finds actors mover pages blocks w f k inv lt e c;
  clean_leaves = λ f k lt e c. clean_leaves actors mover pages blocks w f k inv lt e c;
  copy_finds = λ page o f k v lt e c. copy_finds actors mover pages blocks w page o f k v inv lt e c;
  blank_is = λ f k lt blank. blank_entry actors mover pages blocks w f k inv lt blank;
  request_meets = λ p y f k e. request_not_blank pages blocks w.pages p y f k inv.of_pages e;
  poison_meets = λ f k lt e. collect_not_blank pages blocks w.pages f k inv.of_pages lt e;
}
