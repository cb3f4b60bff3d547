-- Each row keeps the part `holders`.
use Rattle.std.proofs.Common.{ℕ, arith}
use Rattle.std.proofs.lemmas.Bool.Decides.{nat_tests}
use Rattle.og_pages.specs.State.{State}
use Rattle.og_pages.specs.Rows.{Row, guard, apply, Walk_send, Walk_answer, Walk_refuse, Walk_fill, Walk_retry, Tlb_forget, Load_hit, Store_hit, Request_send, Fill_load, Fill_store, Request_end, Victim_put, Victim_free, Notice_send, Move_begin, Notice_refuse, Rearm_serve, Poison_send, Poison_refuse, Poison_collect, Copy_send, Copy_serve, Copy_next, Copy_last, Publish_page, Reclaim_begin, Drop_send_all, Drop_answer, Drop_take, Gather_end, Clean_send, Clean_serve, Frame_free}
use Rattle.og_pages.specs.Invariant.{Invariant, Holders}

pub holders_kept : {L : Type 0} → (pages blocks : ℕ) (s : State L) (r : Row L) → guard pages blocks r s → Invariant L pages blocks s → (at_frame at_node : ℕ) → Holders pages blocks (apply r s) at_frame at_node
holders_kept pages blocks s (Walk_send node page) g inv at_frame at_node = grind (arith, nat_tests, inv.gathering at_node)
holders_kept pages blocks s (Walk_answer node page frame) g inv at_frame at_node = grind (arith, nat_tests, inv.gathering at_node)
holders_kept pages blocks s (Walk_refuse node page) g inv at_frame at_node = grind (arith, nat_tests, inv.gathering at_node)
holders_kept pages blocks s (Walk_fill node page frame) g inv at_frame at_node = grind (arith, nat_tests, inv.gathering at_node)
holders_kept pages blocks s (Walk_retry node page) g inv at_frame at_node = grind (arith, nat_tests, inv.gathering at_node)
holders_kept pages blocks s (Tlb_forget node page) g inv at_frame at_node = grind (arith, nat_tests, inv.gathering at_node)
holders_kept pages blocks s (Load_hit node page frame number) g inv at_frame at_node = grind (arith, nat_tests, inv.gathering at_node)
holders_kept pages blocks s (Store_hit node page frame number line) g inv at_frame at_node = grind (arith, nat_tests, inv.gathering at_node)
holders_kept pages blocks s (Request_send node page frame number) g inv at_frame at_node = grind (arith, nat_tests, inv.gathering at_node)
holders_kept pages blocks s (Fill_load node page frame number) g inv at_frame at_node = grind (arith, nat_tests, inv.gathering at_node)
holders_kept pages blocks s (Fill_store node page frame number line) g inv at_frame at_node = grind (arith, nat_tests, inv.gathering at_node)
holders_kept pages blocks s (Request_end node page frame number) g inv at_frame at_node = grind (arith, nat_tests, inv.gathering at_node)
holders_kept pages blocks s (Victim_put node frame number) g inv at_frame at_node = grind (arith, nat_tests, inv.gathering at_node)
holders_kept pages blocks s (Victim_free node frame number) g inv at_frame at_node = grind (arith, nat_tests, inv.gathering at_node)
holders_kept pages blocks s (Notice_send node page frame number) g inv at_frame at_node = grind (arith, nat_tests, inv.gathering at_node)
holders_kept pages blocks s (Move_begin frame page new) g inv at_frame at_node = grind (arith, nat_tests, inv.gathering at_node)
holders_kept pages blocks s (Notice_refuse frame) g inv at_frame at_node = grind (arith, nat_tests, inv.gathering at_node)
holders_kept pages blocks s (Rearm_serve frame) g inv at_frame at_node = grind (arith, nat_tests, inv.gathering at_node)
holders_kept pages blocks s (Poison_send page old new number) g inv at_frame at_node = grind (arith, nat_tests, inv.gathering at_node)
holders_kept pages blocks s (Poison_refuse page old new number) g inv at_frame at_node = grind (arith, nat_tests, inv.gathering at_node)
holders_kept pages blocks s (Poison_collect page old new number line) g inv at_frame at_node = grind (arith, nat_tests, inv.gathering at_node)
holders_kept pages blocks s (Copy_send page old new number line) g inv at_frame at_node = grind (arith, nat_tests, inv.gathering at_node)
holders_kept pages blocks s (Copy_serve page old new number line) g inv at_frame at_node = grind (arith, nat_tests, inv.gathering at_node)
holders_kept pages blocks s (Copy_next page old new number) g inv at_frame at_node = grind (arith, nat_tests, inv.gathering at_node)
holders_kept pages blocks s (Copy_last page old new number) g inv at_frame at_node = grind (arith, nat_tests, inv.gathering at_node)
holders_kept pages blocks s (Publish_page page old new) g inv at_frame at_node = grind (arith, nat_tests, inv.gathering at_node)
holders_kept pages blocks s (Reclaim_begin frame page) g inv at_frame at_node = grind (arith, nat_tests, inv.gathering at_node)
holders_kept pages blocks s (Drop_send_all frame) g inv at_frame at_node = grind (arith, nat_tests, inv.gathering at_node)
holders_kept pages blocks s (Drop_answer node frame) g inv at_frame at_node = grind (arith, nat_tests, inv.gathering at_node)
holders_kept pages blocks s (Drop_take node frame) g inv at_frame at_node = grind (arith, nat_tests, inv.gathering at_node)
holders_kept pages blocks s (Gather_end frame) g inv at_frame at_node = grind (arith, nat_tests, inv.gathering at_node)
holders_kept pages blocks s (Clean_send frame) g inv at_frame at_node = grind (arith, nat_tests, inv.gathering at_node)
holders_kept pages blocks s (Clean_serve frame) g inv at_frame at_node = grind (arith, nat_tests, inv.gathering at_node)
holders_kept pages blocks s (Frame_free frame) g inv at_frame at_node = grind (arith, nat_tests, inv.gathering at_node)
