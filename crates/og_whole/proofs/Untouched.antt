-- The blocks that were copied into the target of a move stay unowned until the page is published.
use Rattle.std.proofs.Common.{◌≡◌, ℕ, ◌<◌, true, false, arith, ◌≢◌, ◌⊎◌, inl, inr}
use Rattle.std.proofs.lemmas.Bool.{cases_eq, cases_Bool}
use Rattle.std.proofs.lemmas.Bool.Decides.{nat_tests}
use Rattle.og_block.specs.State.{Block, Unowned}
use Rattle.og_block.specs.Rows.{Row as BlockRow, guard as block_guard, apply as block_apply, actor_of}
use Rattle.og_pages.specs.State.{State as Pages, Live, Collecting, Outstanding}
use Rattle.og_pages.specs.Rows.{Row as PageRow, guard as page_guard, apply as page_apply, Walk_send, Walk_answer, Walk_refuse, Walk_fill, Walk_retry, Tlb_forget, Load_hit, Store_hit, Request_send, Fill_load, Fill_store, Request_end, Victim_put, Victim_free, Notice_send, Move_begin, Notice_refuse, Rearm_serve, Poison_send, Poison_refuse, Poison_collect, Copy_send, Copy_serve, Copy_next, Copy_last, Publish_page, Reclaim_begin, Drop_send_all, Drop_answer, Drop_take, Gather_end, Clean_send, Clean_serve, Frame_free}
use Rattle.og_pages.specs.Invariant.{Invariant as PagesInvariant, Requests}
use Rattle.og_whole.specs.Kind.{Kind, Loads, Stores, Sends, Fills, Fills_store as Fills_and_stores, Ends, Evicts, Settles, Poisons, Collects, Copies, Inner, kind, phase_of, phase_after, is_idle}
use Rattle.og_whole.specs.Events.{World, above, after_above, Asked, is_of_pages}
use Rattle.og_whole.specs.Link.{Invariant, is_targeted, IsUntouched}
use Rattle.og_whole.proofs.SeenUnowned.{takes, is_copies, unowned_kept, taker_waits, copy_unowned}
use Rattle.og_whole.proofs.Served.{request_of, mover_collects}

pub page_untouched : {L : Type 0} → (pages blocks : ℕ) (s : Pages L) (b : Block L) (f j : ℕ) (r : PageRow L) → page_guard pages blocks r s → PagesInvariant L pages blocks s → j < blocks → is_of_pages r ≡ true → IsUntouched s b f j → IsUntouched (page_apply r s) b f j
page_untouched pages blocks s b f j (Walk_send node page) may inv lt of_pages h = h
page_untouched pages blocks s b f j (Walk_answer node page frame) may inv lt of_pages h = h
page_untouched pages blocks s b f j (Walk_refuse node page) may inv lt of_pages h = h
page_untouched pages blocks s b f j (Walk_fill node page frame) may inv lt of_pages h = h
page_untouched pages blocks s b f j (Walk_retry node page) may inv lt of_pages h = h
page_untouched pages blocks s b f j (Tlb_forget node page) may inv lt of_pages h = h
page_untouched pages blocks s b f j (Load_hit node page frame number) may inv lt of_pages h = absurd (cc)
page_untouched pages blocks s b f j (Store_hit node page frame number line) may inv lt of_pages h = absurd (cc)
page_untouched pages blocks s b f j (Request_send node page frame number) may inv lt of_pages h = absurd (cc)
page_untouched pages blocks s b f j (Fill_load node page frame number) may inv lt of_pages h = absurd (cc)
page_untouched pages blocks s b f j (Fill_store node page frame number line) may inv lt of_pages h = absurd (cc)
page_untouched pages blocks s b f j (Request_end node page frame number) may inv lt of_pages h = absurd (cc)
page_untouched pages blocks s b f j (Victim_put node frame number) may inv lt of_pages h = absurd (cc)
page_untouched pages blocks s b f j (Victim_free node frame number) may inv lt of_pages h = absurd (cc)
page_untouched pages blocks s b f j (Notice_send node page frame number) may inv lt of_pages h = h
page_untouched pages blocks s b f j (Move_begin frame page new) may inv lt of_pages h = λ role live. let p = inv.phases f j lt in let jobs = inv.jobs in grind (arith, nat_tests)
page_untouched pages blocks s b f j (Notice_refuse frame) may inv lt of_pages h = h
page_untouched pages blocks s b f j (Rearm_serve frame) may inv lt of_pages h = h
page_untouched pages blocks s b f j (Poison_send page old new number) may inv lt of_pages h = absurd (cc)
page_untouched pages blocks s b f j (Poison_refuse page old new number) may inv lt of_pages h = absurd (cc)
page_untouched pages blocks s b f j (Poison_collect page old new number line) may inv lt of_pages h = absurd (cc)
page_untouched pages blocks s b f j (Copy_send page old new number line) may inv lt of_pages h = h
page_untouched pages blocks s b f j (Copy_serve page old new number line) may inv lt of_pages h = absurd (cc)
page_untouched pages blocks s b f j (Copy_next page old new number) may inv lt of_pages h = h
page_untouched pages blocks s b f j (Copy_last page old new number) may inv lt of_pages h = h
page_untouched pages blocks s b f j (Publish_page page old new) may inv lt of_pages h = λ role live. let p = inv.phases f j lt in let jobs = inv.jobs in grind (arith, nat_tests)
page_untouched pages blocks s b f j (Reclaim_begin frame page) may inv lt of_pages h = h
page_untouched pages blocks s b f j (Drop_send_all frame) may inv lt of_pages h = h
page_untouched pages blocks s b f j (Drop_answer node frame) may inv lt of_pages h = h
page_untouched pages blocks s b f j (Drop_take node frame) may inv lt of_pages h = h
page_untouched pages blocks s b f j (Gather_end frame) may inv lt of_pages h = h
page_untouched pages blocks s b f j (Clean_send frame) may inv lt of_pages h = h
page_untouched pages blocks s b f j (Clean_serve frame) may inv lt of_pages h = h
page_untouched pages blocks s b f j (Frame_free frame) may inv lt of_pages h = λ role live. let p = inv.phases f j lt in let jobs = inv.jobs in grind (arith, nat_tests)

-- no row of a block changes what a frame is for
pub role_above : {L : Type 0} → (mover page o f k : ℕ) (d : Kind L) (s : Pages L) (g : ℕ) → (after_above (above mover page o f k d) s).role g ≡ s.role g
role_above mover page o f k (Loads p) s g = grind arith
role_above mover page o f k (Stores p line) s g = grind arith
role_above mover page o f k (Sends p) s g = grind arith
role_above mover page o f k (Fills p) s g = grind arith
role_above mover page o f k (Fills_and_stores p line) s g = grind arith
role_above mover page o f k (Ends p) s g = grind arith
role_above mover page o f k (Evicts p) s g = grind arith
role_above mover page o f k (Settles p) s g = grind arith
role_above mover page o f k (Poisons p) s g = grind arith
role_above mover page o f k (Collects p line) s g = grind arith
role_above mover page o f k (Copies p line) s g = grind arith
role_above mover page o f k Inner s g = grind arith

-- a block of a target that is live after a row, which is no copy, was live before
live_before : {L : Type 0} → (pages blocks mover page o f k : ℕ) (d : Kind L) (s : Pages L) → Asked mover page o f k d s → PagesInvariant L pages blocks s → is_targeted (s.role f) ≡ true → is_copies d ≡ false → phase_after mover d (s.phase f k) ≡ Live → s.phase f k ≡ Live
live_before pages blocks mover page o f k (Loads p) s asked inv role not_copy live = live
live_before pages blocks mover page o f k (Stores p line) s asked inv role not_copy live = live
live_before pages blocks mover page o f k (Sends p) s asked inv role not_copy live = live
live_before pages blocks mover page o f k (Fills p) s asked inv role not_copy live = live
live_before pages blocks mover page o f k (Fills_and_stores p line) s asked inv role not_copy live = live
live_before pages blocks mover page o f k (Ends p) s asked inv role not_copy live = let jobs = inv.jobs in grind (arith, nat_tests)
live_before pages blocks mover page o f k (Evicts p) s asked inv role not_copy live = live
live_before pages blocks mover page o f k (Settles p) s asked inv role not_copy live = live
live_before pages blocks mover page o f k (Poisons p) s asked inv role not_copy live = absurd (cc)
live_before pages blocks mover page o f k (Collects p line) s asked inv role not_copy live = absurd (cc)
live_before pages blocks mover page o f k (Copies p line) s asked inv role not_copy live = absurd (cc)
live_before pages blocks mover page o f k Inner s asked inv role not_copy live = live

module _ {L : Type 0} (actors mover pages blocks : ℕ) (w : World L) (inv : Invariant L actors mover pages blocks w) where
  -- nobody asks for a live block of a target
  nobody_asks : (f k q : ℕ) → k < blocks → q < actors → is_targeted (w.pages.role f) ≡ true → w.pages.phase f k ≡ Live → is_idle ((w.block f k).want q) ≡ false → ⊥
  nobody_asks f k q lt lq role live e = by (cases_eq q mover)
    where
      by : (q ≡ mover) ⊎ (q ≢ mover) → ⊥
      by (inl same) =
          let l = inv.link f k lt in
          let e' : is_idle ((w.block f k).want mover) ≡ false = cc in
          let h : phase_of mover (w.block f k) ≡ Collecting = mover_collects mover (w.block f k) l.parts.mover e' in
          let x = l.phase_is in
          let clash : Collecting ≡ Live = cc in absurd (cc)
      by (inr ne) =
          let r = request_of actors mover pages blocks w q f k inv lq ne lt e in
          let is : w.pages.request q ≡ Outstanding r.0 f k = r.1 in
          let h : Requests pages blocks w.pages q = inv.of_pages.requests q in grind arith

  pub block_untouched : (page o f k : ℕ) (r : BlockRow L) → k < blocks → block_guard r (w.block f k) → actor_of r < actors → Asked mover page o f k (kind r) w.pages → is_targeted (w.pages.role f) ≡ true → phase_after mover (kind r) (w.pages.phase f k) ≡ Live → (block_apply actors r (w.block f k)).entry ≡ Unowned
  block_untouched page o f k r lt may lq asked role live = by (cases_Bool (is_copies (kind r)))
    where
      old : is_copies (kind r) ≡ false → w.pages.phase f k ≡ Live
      old not_copy = live_before pages blocks mover page o f k (kind r) w.pages asked inv.of_pages role not_copy live

      kept : is_copies (kind r) ≡ false → (takes r ≡ true) ⊎ (takes r ≡ false) → (block_apply actors r (w.block f k)).entry ≡ Unowned
      kept not_copy (inl t) = absurd (nobody_asks f k (actor_of r) lt lq role (old not_copy) (taker_waits actors (w.pages.newest f k) (w.block f k) r may t ((inv.link f k lt).invariant.each (actor_of r) lq)))
      kept not_copy (inr t) = unowned_kept actors (w.block f k) r may t (inv.untouched f k lt role (old not_copy))

      by : (is_copies (kind r) ≡ true) ⊎ (is_copies (kind r) ≡ false) → (block_apply actors r (w.block f k)).entry ≡ Unowned
      by (inl copy) = copy_unowned actors (w.block f k) r copy
      by (inr not_copy) = kept not_copy (cases_Bool (takes r))
