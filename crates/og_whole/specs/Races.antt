-- A run of two nodes in one group of sharers, with one page of one block: node 0 stores; node 1's load meets the dirty owner,
-- which shares its line; node 1 upgrades, gets the line with it since a bit names the group, waits for node 0's
-- acknowledgement, and stores; node 0 asks again, and node 1 throws its dirty line out before the intervention comes.
-- Lines are numbers here.
use Rattle.std.specs.Prelude.{◌≡◌, ℕ, Bool, true, cond, nat_eq, List, [], ◌∷◌}
use Rattle.og_block.specs.State.{Shared, Free, Sharing, Grouped, is_same}
use Rattle.og_block.specs.Rows.{Send_read, Send_read_exclusive, Send_upgrade, Evict, Read_owned, Read_exclusive_unowned, Upgrade_grouped, Write_back_busy_shared, Revision_sharing_write_back, Fill_shared_answered, Fill_exclusive, Fill_upgrade_line, Invalidated, Acknowledged, Intervention_victim_busy, Intervention_shared_dirty, Write_back_busy_ack_first}
use Rattle.og_pages.specs.Rows.{Walk_fill, Walk_send, Walk_answer}
use Rattle.og_whole.specs.Events.{World, Event, Page, On, apply, start, Runs}
use Rattle.og_whole.specs.Example.{first_role}

-- actors 0 and 1 are nodes of one group, and actor 2 is the mover
abbrev pub pair : Sharing
pair = Grouped (λ q. cond (nat_eq q 2) 0 1)

abbrev pub first : World ℕ
first = start pair 2 0 (λ page. 0) first_role (λ page number. 0)

abbrev pub group : ℕ → Bool
group q = cond (is_same pair q 0) true (is_same pair q 1)

abbrev pub walks : List (Event ℕ)
walks = Page (Walk_send 0 0) ∷ Page (Walk_answer 0 0 0) ∷ Page (Walk_fill 0 0 0) ∷ Page (Walk_send 1 0) ∷ Page (Walk_answer 1 0 0) ∷ Page (Walk_fill 1 0 0) ∷ []

-- node 0 stores 7, and node 1's load is answered with it
abbrev pub intervenes : List (Event ℕ)
intervenes = On 0 0 0 0 (Send_read_exclusive 0) ∷ On 0 0 0 0 (Read_exclusive_unowned 0) ∷ On 0 0 0 0 (Fill_exclusive 0 7 0 0) ∷ On 0 0 0 0 (Send_read 1) ∷ On 0 0 0 0 (Read_owned 1 0) ∷ On 0 0 0 0 (Intervention_shared_dirty 0 1 7) ∷ On 0 0 0 0 (Fill_shared_answered 1 7 0) ∷ On 0 0 0 0 (Revision_sharing_write_back 0 1 7) ∷ []

-- node 1 stores 9 by an upgrade
abbrev pub upgrades : List (Event ℕ)
upgrades = On 0 0 0 0 (Send_upgrade 1 7) ∷ On 0 0 0 0 (Upgrade_grouped 1 group) ∷ On 0 0 0 0 (Invalidated 0 1) ∷ On 0 0 0 0 (Acknowledged 0 1) ∷ On 0 0 0 0 (Fill_upgrade_line 1 9 7 1) ∷ []

-- node 0 asks; node 1's write-back crosses the intervention, is taken for its answer, and the slot waits for the intervention
abbrev pub crosses : List (Event ℕ)
crosses = On 0 0 0 0 (Send_read 0) ∷ On 0 0 0 0 (Read_owned 0 1) ∷ On 0 0 0 0 (Evict 1 9) ∷ On 0 0 0 0 (Write_back_busy_shared 1 0 9) ∷ On 0 0 0 0 (Write_back_busy_ack_first 1) ∷ On 0 0 0 0 (Intervention_victim_busy 1) ∷ On 0 0 0 0 (Fill_shared_answered 0 9 7) ∷ []

abbrev pub after : World ℕ → List (Event ℕ) → World ℕ
after w [] = w
after w (event ∷ events) = after (apply 3 2 event w) events

abbrev pub walked : World ℕ
walked = after first walks

abbrev pub shared : World ℕ
shared = after walked intervenes

abbrev pub upgraded : World ℕ
upgraded = after shared upgrades

abbrev pub crossed : World ℕ
crossed = after upgraded crosses

-- each guard on the way holds, and the worlds between are what the story says
pub record RacesHappen : Type 0 where
  pub walk : Runs 3 2 1 1 first walks walked
  pub intervention : Runs 3 2 1 1 walked intervenes shared
  pub upgrade : Runs 3 2 1 1 shared upgrades upgraded
  pub crossing : Runs 3 2 1 1 upgraded crosses crossed
  pub is_shared : (shared.block 0 0).copy 1 ≡ Shared 7
  pub is_upgraded : upgraded.pages.memory 0 0 ≡ 9
  pub is_answered : (crossed.block 0 0).copy 0 ≡ Shared 9
  pub is_settled : (crossed.block 0 0).victim 1 ≡ Free
