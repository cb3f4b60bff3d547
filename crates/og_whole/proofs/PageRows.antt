-- A row of the page layer that concerns no block keeps what is linked to each block, and the entry at each home.
use Rattle.std.proofs.Common.{◌≡◌, ℕ, ◌<◌, true, false, arith}
use Rattle.std.proofs.lemmas.Bool.Decides.{nat_tests}
use Rattle.og_block.specs.State.{Block}
use Rattle.og_pages.specs.State.{State as Pages}
use Rattle.og_pages.specs.Rows.{Row as PageRow, guard as page_guard, apply as page_apply, Walk_send, Walk_answer, Walk_refuse, Walk_fill, Walk_retry, Tlb_forget, Load_hit, Store_hit, Request_send, Fill_load, Fill_store, Request_end, Victim_put, Victim_free, Notice_send, Move_begin, Notice_refuse, Rearm_serve, Poison_send, Poison_refuse, Poison_collect, Copy_send, Copy_serve, Copy_next, Copy_last, Publish_page, Reclaim_begin, Drop_send_all, Drop_answer, Drop_take, Gather_end, Clean_send, Clean_serve, Frame_free}
use Rattle.og_pages.specs.Invariant.{Invariant as PagesInvariant}
use Rattle.og_whole.specs.Kind.{phase_of}
use Rattle.og_block.specs.Roles.{is_mover_want}
use Rattle.og_whole.specs.Events.{is_of_pages}
use Rattle.og_whole.specs.Link.{Link}
use Rattle.og_whole.specs.HomeEntry.{home_entry_in, cleans}

pub page_link : {L : Type 0} → (actors mover : ℕ) (s : Pages L) (b : Block L) (f j : ℕ) (r : PageRow L) → is_of_pages r ≡ true → Link actors mover s b f j → Link actors mover (page_apply r s) b f j
page_link actors mover s b f j (Walk_send node page) e link = link
page_link actors mover s b f j (Walk_answer node page frame) e link = link
page_link actors mover s b f j (Walk_refuse node page) e link = link
page_link actors mover s b f j (Walk_fill node page frame) e link = link
page_link actors mover s b f j (Walk_retry node page) e link = link
page_link actors mover s b f j (Tlb_forget node page) e link = link
page_link actors mover s b f j (Load_hit node page frame number) e link = absurd (cc)
page_link actors mover s b f j (Store_hit node page frame number line) e link = absurd (cc)
page_link actors mover s b f j (Request_send node page frame number) e link = absurd (cc)
page_link actors mover s b f j (Fill_load node page frame number) e link = absurd (cc)
page_link actors mover s b f j (Fill_store node page frame number line) e link = absurd (cc)
page_link actors mover s b f j (Request_end node page frame number) e link = absurd (cc)
page_link actors mover s b f j (Victim_put node frame number) e link = absurd (cc)
page_link actors mover s b f j (Victim_free node frame number) e link = absurd (cc)
page_link actors mover s b f j (Notice_send node page frame number) e link = link
page_link actors mover s b f j (Move_begin frame page new) e link = link
page_link actors mover s b f j (Notice_refuse frame) e link = link
page_link actors mover s b f j (Rearm_serve frame) e link = link
page_link actors mover s b f j (Poison_send page old new number) e link = absurd (cc)
page_link actors mover s b f j (Poison_refuse page old new number) e link = absurd (cc)
page_link actors mover s b f j (Poison_collect page old new number line) e link = absurd (cc)
page_link actors mover s b f j (Copy_send page old new number line) e link = link
page_link actors mover s b f j (Copy_serve page old new number line) e link = absurd (cc)
page_link actors mover s b f j (Copy_next page old new number) e link = link
page_link actors mover s b f j (Copy_last page old new number) e link = link
page_link actors mover s b f j (Publish_page page old new) e link = link
page_link actors mover s b f j (Reclaim_begin frame page) e link = link
page_link actors mover s b f j (Drop_send_all frame) e link = link
page_link actors mover s b f j (Drop_answer node frame) e link = link
page_link actors mover s b f j (Drop_take node frame) e link = link
page_link actors mover s b f j (Gather_end frame) e link = link
page_link actors mover s b f j (Clean_send frame) e link = link
page_link actors mover s b f j (Clean_serve frame) e link = link
page_link actors mover s b f j (Frame_free frame) e link = link

pub page_entry : {L : Type 0} → (pages blocks mover : ℕ) (s : Pages L) (f j : ℕ) (b : Block L) (r : PageRow L) → page_guard pages blocks r s → PagesInvariant L pages blocks s → j < blocks → is_of_pages r ≡ true → phase_of mover b ≡ s.phase f j → is_mover_want (b.want mover) ≡ true → cleans r ≡ false → home_entry_in (page_apply r s) f b.entry ≡ home_entry_in s f b.entry
page_entry pages blocks mover s f j b (Walk_send node page) may inv lt of_pages phase want other = let h = inv.phases f j lt in grind (arith, nat_tests)
page_entry pages blocks mover s f j b (Walk_answer node page frame) may inv lt of_pages phase want other = let h = inv.phases f j lt in grind (arith, nat_tests)
page_entry pages blocks mover s f j b (Walk_refuse node page) may inv lt of_pages phase want other = let h = inv.phases f j lt in grind (arith, nat_tests)
page_entry pages blocks mover s f j b (Walk_fill node page frame) may inv lt of_pages phase want other = let h = inv.phases f j lt in grind (arith, nat_tests)
page_entry pages blocks mover s f j b (Walk_retry node page) may inv lt of_pages phase want other = let h = inv.phases f j lt in grind (arith, nat_tests)
page_entry pages blocks mover s f j b (Tlb_forget node page) may inv lt of_pages phase want other = let h = inv.phases f j lt in grind (arith, nat_tests)
page_entry pages blocks mover s f j b (Load_hit node page frame number) may inv lt of_pages phase want other = absurd (cc)
page_entry pages blocks mover s f j b (Store_hit node page frame number line) may inv lt of_pages phase want other = absurd (cc)
page_entry pages blocks mover s f j b (Request_send node page frame number) may inv lt of_pages phase want other = absurd (cc)
page_entry pages blocks mover s f j b (Fill_load node page frame number) may inv lt of_pages phase want other = absurd (cc)
page_entry pages blocks mover s f j b (Fill_store node page frame number line) may inv lt of_pages phase want other = absurd (cc)
page_entry pages blocks mover s f j b (Request_end node page frame number) may inv lt of_pages phase want other = absurd (cc)
page_entry pages blocks mover s f j b (Victim_put node frame number) may inv lt of_pages phase want other = absurd (cc)
page_entry pages blocks mover s f j b (Victim_free node frame number) may inv lt of_pages phase want other = absurd (cc)
page_entry pages blocks mover s f j b (Notice_send node page frame number) may inv lt of_pages phase want other = let h = inv.phases f j lt in grind (arith, nat_tests)
page_entry pages blocks mover s f j b (Move_begin frame page new) may inv lt of_pages phase want other = let h = inv.phases f j lt in grind (arith, nat_tests)
page_entry pages blocks mover s f j b (Notice_refuse frame) may inv lt of_pages phase want other = let h = inv.phases f j lt in grind (arith, nat_tests)
page_entry pages blocks mover s f j b (Rearm_serve frame) may inv lt of_pages phase want other = let h = inv.phases f j lt in grind (arith, nat_tests)
page_entry pages blocks mover s f j b (Poison_send page old new number) may inv lt of_pages phase want other = absurd (cc)
page_entry pages blocks mover s f j b (Poison_refuse page old new number) may inv lt of_pages phase want other = absurd (cc)
page_entry pages blocks mover s f j b (Poison_collect page old new number line) may inv lt of_pages phase want other = absurd (cc)
page_entry pages blocks mover s f j b (Copy_send page old new number line) may inv lt of_pages phase want other = let h = inv.phases f j lt in grind (arith, nat_tests)
page_entry pages blocks mover s f j b (Copy_serve page old new number line) may inv lt of_pages phase want other = absurd (cc)
page_entry pages blocks mover s f j b (Copy_next page old new number) may inv lt of_pages phase want other = let h = inv.phases f j lt in grind (arith, nat_tests)
page_entry pages blocks mover s f j b (Copy_last page old new number) may inv lt of_pages phase want other = let h = inv.phases f j lt in grind (arith, nat_tests)
page_entry pages blocks mover s f j b (Publish_page page old new) may inv lt of_pages phase want other = let h = inv.phases f j lt in grind (arith, nat_tests)
page_entry pages blocks mover s f j b (Reclaim_begin frame page) may inv lt of_pages phase want other = let h = inv.phases f j lt in grind (arith, nat_tests)
page_entry pages blocks mover s f j b (Drop_send_all frame) may inv lt of_pages phase want other = let h = inv.phases f j lt in grind (arith, nat_tests)
page_entry pages blocks mover s f j b (Drop_answer node frame) may inv lt of_pages phase want other = let h = inv.phases f j lt in grind (arith, nat_tests)
page_entry pages blocks mover s f j b (Drop_take node frame) may inv lt of_pages phase want other = let h = inv.phases f j lt in grind (arith, nat_tests)
page_entry pages blocks mover s f j b (Gather_end frame) may inv lt of_pages phase want other = let h = inv.phases f j lt in grind (arith, nat_tests)
page_entry pages blocks mover s f j b (Clean_send frame) may inv lt of_pages phase want other = let h = inv.phases f j lt in grind (arith, nat_tests)
page_entry pages blocks mover s f j b (Clean_serve frame) may inv lt of_pages phase want other = absurd (cc)
page_entry pages blocks mover s f j b (Frame_free frame) may inv lt of_pages phase want other = let h = inv.phases f j lt in grind (arith, nat_tests)
