-- A run in which everything happens once, with one node, one page of one block, and two frames: the node walks and stores,
-- the home notices, the mover moves the page from frame 0 to frame 1, the node's next request finds the old block poisoned,
-- the old frame is dropped, cleaned and freed, the node walks and loads what it stored, and the page begins to move back
-- into frame 0. Lines are numbers here.
use Rattle.std.specs.Prelude.{◌≡◌, ℕ, false, cond, nat_eq, List, [], ◌∷◌}
use Rattle.og_block.specs.State.{Clean, Single}
use Rattle.og_block.specs.Rows.{Read_exclusive_unowned, Fill_clean, Fill_exclusive, Send_poison_read, Poison_read_owned, Intervention_poison_dirty, Poisoned, Poison_collected, Read_poison, Read_unowned, Copy_in, Revision_poison_back, Send_read, Send_read_exclusive}
use Rattle.og_pages.specs.State.{Role, Free, Mapped, Ask}
use Rattle.og_pages.specs.Rows.{Clean_send, Clean_serve, Copy_last, Copy_send, Drop_answer, Drop_take, Tlb_forget, Frame_free, Gather_end, Move_begin, Notice_send, Publish_page, Reclaim_begin, Drop_send_all, Walk_fill, Walk_send, Walk_answer}
use Rattle.og_whole.specs.Events.{World, Event, Page, On, apply, start, Runs}

-- frame 0 is the page's, and all others are free
abbrev pub first_role : ℕ → Role
first_role frame = cond (nat_eq frame 0) (Mapped 0) Free

-- the node is actor 0, and the mover actor 1
abbrev pub first : World ℕ
first = start Single 1 0 (λ page. 0) first_role (λ page number. 0)

-- the node walks, and stores 7
abbrev pub stores : List (Event ℕ)
stores = Page (Walk_send 0 0) ∷ Page (Walk_answer 0 0 0) ∷ Page (Walk_fill 0 0 0) ∷ On 0 0 0 0 (Send_read_exclusive 0) ∷ On 0 0 0 0 (Read_exclusive_unowned 0) ∷ Page (Notice_send 0 0 0 0) ∷ On 0 0 0 0 (Fill_exclusive 0 7 0 0) ∷ []

-- the mover moves the page into frame 1
abbrev pub moves : List (Event ℕ)
moves = Page (Move_begin 0 0 1) ∷ On 0 1 0 0 (Send_poison_read 1) ∷ On 0 1 0 0 (Poison_read_owned 1 0) ∷ On 0 1 0 0 (Intervention_poison_dirty 0 1 7) ∷ On 0 1 0 0 (Revision_poison_back 0 1 7) ∷ On 0 1 0 0 (Poison_collected 1 7 0) ∷ Page (Copy_send 0 0 1 0 7) ∷ On 0 0 1 0 (Copy_in 1 7) ∷ Page (Copy_last 0 0 1 0) ∷ Page (Publish_page 0 0 1) ∷ []

-- the node asks for the old block by its old TLB entry, gets an error, drops the frame and walks again; the frame is freed
abbrev pub drops : List (Event ℕ)
drops = On 0 0 0 0 (Send_read 0) ∷ On 0 0 0 0 (Read_poison 0 1) ∷ Page (Reclaim_begin 0 0) ∷ Page (Drop_send_all 0) ∷ On 0 0 0 0 (Poisoned 0) ∷ Page (Tlb_forget 0 0) ∷ Page (Drop_answer 0 0) ∷ Page (Walk_send 0 0) ∷ Page (Walk_answer 0 0 1) ∷ Page (Drop_take 0 0) ∷ Page (Gather_end 0) ∷ Page (Clean_send 0) ∷ Page (Clean_serve 0) ∷ Page (Frame_free 0) ∷ []

-- the node loads what it stored, now from frame 1, and the page begins to move back into frame 0
abbrev pub loads : List (Event ℕ)
loads = Page (Walk_fill 0 0 1) ∷ On 0 0 1 0 (Send_read 0) ∷ On 0 0 1 0 (Read_unowned 0) ∷ Page (Notice_send 0 0 1 0) ∷ On 0 0 1 0 (Fill_clean 0 7 false) ∷ Page (Move_begin 1 0 0) ∷ []

abbrev pub after : World ℕ → List (Event ℕ) → World ℕ
after w [] = w
after w (event ∷ events) = after (apply 2 1 event w) events

abbrev pub stored : World ℕ
stored = after first stores

abbrev pub moved : World ℕ
moved = after stored moves

abbrev pub freed : World ℕ
freed = after moved drops

abbrev pub loaded : World ℕ
loaded = after freed loads

-- each guard on the way holds, and the worlds between are what the story says
pub record Happens : Type 0 where
  pub first_store : Runs 2 1 1 1 first stores stored
  pub move : Runs 2 1 1 1 stored moves moved
  pub drop_and_free : Runs 2 1 1 1 moved drops freed
  pub load_and_move_back : Runs 2 1 1 1 freed loads loaded
  pub is_stored : stored.pages.memory 0 0 ≡ 7
  pub is_moved : moved.pages.page_table 0 ≡ 1
  pub is_free : freed.pages.role 0 ≡ Free
  pub is_loaded : (loaded.block 1 0).copy 0 ≡ Clean 7
  pub moves_back : loaded.pages.job ≡ Ask 0 1 0 0
