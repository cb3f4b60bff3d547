-- The worked examples, by computation. Sets don't compute: what they contain is rewritten.
use Rattle.std.proofs.Common.{refl, arith}
use Rattle.std.specs.Prelude.{◌≡◌, true, false, [], ◌∷◌}
use Rattle.std.specs.Ordering.{nat_cmp}
use Rattle.std.specs.FinSet as set
use Rattle.og_machine.specs.Machine.{act_of as machine_act_of, take_of as machine_take_of, start_machine, is_stopped, is_quiet}
use Rattle.og_node.specs.Rows.{has_row as node_has_row}
use Rattle.og_processor.specs.Act.{act_of as processor_act_of, may_act}
use Rattle.og_processor.specs.Take.{take_of as processor_take_of}
use Rattle.og_processor.specs.Rows.{has_row_for}
use Rattle.og_home.specs.Start.{start_home}
use Rattle.og_home.specs.Home.{serve_row, count_request, rearm, clean_frame, serve, are_poisoned}
use Rattle.og_directory.specs.Table.{sharers_but}
use Rattle.og_counters.specs.Counts.{sum_of, most_of_others}
use Rattle.og_cache.specs.Cache.{look_of as cache_look_of, empty_cache, has_room, filled as cache_filled, with_mode, with_line, without, thrown_out, reserved}
use Rattle.og_tlb.specs.Tlb.{look_of as tlb_look_of, empty_tlb, filled as tlb_filled, without_page, without_frame}
use Rattle.og_owner.specs.Owner.{answers, after_intervention}
use Rattle.og_request.specs.Request.{new_request, received, outcome_of, has_row as request_has_row}
use Rattle.rv_hart.specs.Effect.{value_of, access_of, target_of}
use Rattle.rv_hart.specs.Hart.{start_of, need_of, finish_of, halt_of}
use Rattle.rv_decode.specs.Rows.{rows, decode_of}
use Rattle.og_image.specs.Image.{in_order}
use Rattle.og_mover.specs.Table.{holders_rising, act_of as mover_act_of, take_of as mover_take_of, has_table_row, place_of, first_mover}
use Rattle.og_pager.specs.PageTable.{frame_of, page_of, left_at, is_free, is_quarantined, holders_of, moves_of, is_moving, move_of, least_free, oldest, walked, begun, settled, dropped, reclaimed, first_table}
use Rattle.og_base.specs.Numbers.{below}
use Rattle.og_flat.specs.Flat.{bytes_from}
use Rattle.og_machine.specs.Choices.{enabled_of, drain_of, drawn_from}
use Rattle.og_machine.specs.FlatRun.{plain_within, hart_notes}
use Rattle.og_machine.specs.Runs.{CallTraps, StoreIsLoaded, StoreIsForced, StoreIsFlat, BothLoad}
use Rattle.og_machine.specs.Races.{sharers, DirtyOwnerShares, MarkedReadAsksAgain, InterventionIsHeld, SecondUpgradeIsRefused, WriteBackAnswers, LineReturnsFirst, OwnerIsServedFromMemory, MarkedReadIsGranted}
use Rattle.og_machine.specs.Moves.{PageMoves, FrameIsFreed}
use Rattle.og_machine.specs.Held.{held, place, line_of_block}
use Rattle.og_machine.specs.Drains.{StartDrains, MoveDrains, ReclaimDrains, WriteBackDrains, TransferDrains}

pub call_traps : CallTraps
unfolding machine_act_of machine_take_of start_machine is_stopped is_quiet node_has_row processor_act_of may_act processor_take_of has_row_for start_home serve_row count_request rearm clean_frame serve are_poisoned sharers_but sum_of most_of_others cache_look_of empty_cache has_room cache_filled with_mode with_line without thrown_out reserved tlb_look_of empty_tlb tlb_filled without_page without_frame answers after_intervention new_request received outcome_of request_has_row value_of access_of target_of start_of need_of finish_of halt_of rows decode_of in_order holders_rising mover_act_of mover_take_of has_table_row place_of first_mover frame_of page_of left_at is_free is_quarantined holders_of moves_of is_moving move_of least_free oldest walked begun settled dropped reclaimed first_table below bytes_from drain_of
call_traps = record { events = refl; quiet = refl }

pub store_is_loaded : StoreIsLoaded
unfolding machine_act_of machine_take_of start_machine is_stopped is_quiet node_has_row processor_act_of may_act processor_take_of has_row_for start_home serve_row count_request rearm clean_frame serve are_poisoned sharers_but sum_of most_of_others cache_look_of empty_cache has_room cache_filled with_mode with_line without thrown_out reserved tlb_look_of empty_tlb tlb_filled without_page without_frame answers after_intervention new_request received outcome_of request_has_row value_of access_of target_of start_of need_of finish_of halt_of rows decode_of in_order holders_rising mover_act_of mover_take_of has_table_row place_of first_mover frame_of page_of left_at is_free is_quarantined holders_of moves_of is_moving move_of least_free oldest walked begun settled dropped reclaimed first_table below bytes_from drain_of
store_is_loaded = record { events = refl; quiet = refl }

pub both_load : BothLoad
unfolding machine_act_of machine_take_of start_machine is_stopped is_quiet node_has_row processor_act_of may_act processor_take_of has_row_for start_home serve_row count_request rearm clean_frame serve are_poisoned sharers_but sum_of most_of_others cache_look_of empty_cache has_room cache_filled with_mode with_line without thrown_out reserved tlb_look_of empty_tlb tlb_filled without_page without_frame answers after_intervention new_request received outcome_of request_has_row value_of access_of target_of start_of need_of finish_of halt_of rows decode_of in_order holders_rising mover_act_of mover_take_of has_table_row place_of first_mover frame_of page_of left_at is_free is_quarantined holders_of moves_of is_moving move_of least_free oldest walked begun settled dropped reclaimed first_table below bytes_from drain_of
both_load = record { events = refl; quiet = refl }

pub store_is_forced : StoreIsForced
unfolding machine_act_of machine_take_of start_machine is_stopped is_quiet node_has_row processor_act_of may_act processor_take_of has_row_for start_home serve_row count_request rearm clean_frame serve are_poisoned sharers_but sum_of most_of_others cache_look_of empty_cache has_room cache_filled with_mode with_line without thrown_out reserved tlb_look_of empty_tlb tlb_filled without_page without_frame answers after_intervention new_request received outcome_of request_has_row value_of access_of target_of start_of need_of finish_of halt_of rows decode_of in_order holders_rising mover_act_of mover_take_of has_table_row place_of first_mover frame_of page_of left_at is_free is_quarantined holders_of moves_of is_moving move_of least_free oldest walked begun settled dropped reclaimed first_table below bytes_from drain_of enabled_of plain_within hart_notes
store_is_forced = (refl, (refl, (refl, (refl, (refl, (refl, (refl, (refl, (refl, (refl, (refl, (refl, refl))))))))))))

pub store_is_flat : StoreIsFlat
unfolding machine_act_of machine_take_of start_machine is_stopped is_quiet node_has_row processor_act_of may_act processor_take_of has_row_for start_home serve_row count_request rearm clean_frame serve are_poisoned sharers_but sum_of most_of_others cache_look_of empty_cache has_room cache_filled with_mode with_line without thrown_out reserved tlb_look_of empty_tlb tlb_filled without_page without_frame answers after_intervention new_request received outcome_of request_has_row value_of access_of target_of start_of need_of finish_of halt_of rows decode_of in_order holders_rising mover_act_of mover_take_of has_table_row place_of first_mover frame_of page_of left_at is_free is_quarantined holders_of moves_of is_moving move_of least_free oldest walked begun settled dropped reclaimed first_table below bytes_from drain_of enabled_of plain_within hart_notes
store_is_flat = (omega arith, refl, (refl, refl), (omega arith, refl, (refl, refl), (omega arith, refl, refl, tt)))

-- two sharers, and one
both_0 : set.contains (sharers (1 ∷ 0 ∷ [])) 0 ≡ true
both_0 = set.contains-from_list_nat (1 ∷ 0 ∷ []) 0

both_1 : set.contains (sharers (1 ∷ 0 ∷ [])) 1 ≡ true
both_1 = set.contains-from_list_nat (1 ∷ 0 ∷ []) 1

one_0 : set.contains (sharers (1 ∷ [])) 0 ≡ false
one_0 = set.contains-from_list_nat (1 ∷ []) 0

one_1 : set.contains (sharers (1 ∷ [])) 1 ≡ true
one_1 = set.contains-from_list_nat (1 ∷ []) 1

pub dirty_owner_shares : DirtyOwnerShares
unfolding machine_act_of machine_take_of start_machine is_stopped is_quiet node_has_row processor_act_of may_act processor_take_of has_row_for start_home serve_row count_request rearm clean_frame serve are_poisoned sharers_but sum_of most_of_others cache_look_of empty_cache has_room cache_filled with_mode with_line without thrown_out reserved tlb_look_of empty_tlb tlb_filled without_page without_frame answers after_intervention new_request received outcome_of request_has_row value_of access_of target_of start_of need_of finish_of halt_of rows decode_of in_order holders_rising mover_act_of mover_take_of has_table_row place_of first_mover frame_of page_of left_at is_free is_quarantined holders_of moves_of is_moving move_of least_free oldest walked begun settled dropped reclaimed first_table below bytes_from drain_of
dirty_owner_shares = record { asked = refl; answered = refl; noted = refl; shared = refl }

pub marked_read_asks_again : MarkedReadAsksAgain
unfolding machine_act_of machine_take_of start_machine is_stopped is_quiet node_has_row processor_act_of may_act processor_take_of has_row_for start_home serve_row count_request rearm clean_frame serve are_poisoned sharers_but sum_of most_of_others cache_look_of empty_cache has_room cache_filled with_mode with_line without thrown_out reserved tlb_look_of empty_tlb tlb_filled without_page without_frame answers after_intervention new_request received outcome_of request_has_row value_of access_of target_of start_of need_of finish_of halt_of rows decode_of in_order holders_rising mover_act_of mover_take_of has_table_row place_of first_mover frame_of page_of left_at is_free is_quarantined holders_of moves_of is_moving move_of least_free oldest walked begun settled dropped reclaimed first_table below bytes_from drain_of
marked_read_asks_again = record { sent_out = rw (both_0, both_1) refl; noted = rw (both_0, both_1) refl; again = rw (both_0, both_1) refl }

pub intervention_is_held : InterventionIsHeld
unfolding machine_act_of machine_take_of start_machine is_stopped is_quiet node_has_row processor_act_of may_act processor_take_of has_row_for start_home serve_row count_request rearm clean_frame serve are_poisoned sharers_but sum_of most_of_others cache_look_of empty_cache has_room cache_filled with_mode with_line without thrown_out reserved tlb_look_of empty_tlb tlb_filled without_page without_frame answers after_intervention new_request received outcome_of request_has_row value_of access_of target_of start_of need_of finish_of halt_of rows decode_of in_order holders_rising mover_act_of mover_take_of has_table_row place_of first_mover frame_of page_of left_at is_free is_quarantined holders_of moves_of is_moving move_of least_free oldest walked begun settled dropped reclaimed first_table below bytes_from drain_of
intervention_is_held = record { asked = refl; held = refl; answered = refl; noted = refl }

pub second_upgrade_is_refused : SecondUpgradeIsRefused
unfolding machine_act_of machine_take_of start_machine is_stopped is_quiet node_has_row processor_act_of may_act processor_take_of has_row_for start_home serve_row count_request rearm clean_frame serve are_poisoned sharers_but sum_of most_of_others cache_look_of empty_cache has_room cache_filled with_mode with_line without thrown_out reserved tlb_look_of empty_tlb tlb_filled without_page without_frame answers after_intervention new_request received outcome_of request_has_row value_of access_of target_of start_of need_of finish_of halt_of rows decode_of in_order holders_rising mover_act_of mover_take_of has_table_row place_of first_mover frame_of page_of left_at is_free is_quarantined holders_of moves_of is_moving move_of least_free oldest walked begun settled dropped reclaimed first_table below bytes_from drain_of
second_upgrade_is_refused = record { refused = rw (both_0, both_1) refl; dropped = rw (both_0, both_1) refl; asks = rw (both_0, both_1) refl }

pub write_back_answers : WriteBackAnswers
unfolding machine_act_of machine_take_of start_machine is_stopped is_quiet node_has_row processor_act_of may_act processor_take_of has_row_for start_home serve_row count_request rearm clean_frame serve are_poisoned sharers_but sum_of most_of_others cache_look_of empty_cache has_room cache_filled with_mode with_line without thrown_out reserved tlb_look_of empty_tlb tlb_filled without_page without_frame answers after_intervention new_request received outcome_of request_has_row value_of access_of target_of start_of need_of finish_of halt_of rows decode_of in_order holders_rising mover_act_of mover_take_of has_table_row place_of first_mover frame_of page_of left_at is_free is_quarantined holders_of moves_of is_moving move_of least_free oldest walked begun settled dropped reclaimed first_table below bytes_from drain_of
write_back_answers = record { answered = refl; asked_first = refl; then_told = refl; told_first = refl; then_asked = refl }

pub line_returns_first : LineReturnsFirst
unfolding machine_act_of machine_take_of start_machine is_stopped is_quiet node_has_row processor_act_of may_act processor_take_of has_row_for start_home serve_row count_request rearm clean_frame serve are_poisoned sharers_but sum_of most_of_others cache_look_of empty_cache has_room cache_filled with_mode with_line without thrown_out reserved tlb_look_of empty_tlb tlb_filled without_page without_frame answers after_intervention new_request received outcome_of request_has_row value_of access_of target_of start_of need_of finish_of halt_of rows decode_of in_order holders_rising mover_act_of mover_take_of has_table_row place_of first_mover frame_of page_of left_at is_free is_quarantined holders_of moves_of is_moving move_of least_free oldest walked begun settled dropped reclaimed first_table below bytes_from drain_of
line_returns_first = record { noted = refl; back = refl; unowned = refl }

pub owner_is_served_from_memory : OwnerIsServedFromMemory
unfolding machine_act_of machine_take_of start_machine is_stopped is_quiet node_has_row processor_act_of may_act processor_take_of has_row_for start_home serve_row count_request rearm clean_frame serve are_poisoned sharers_but sum_of most_of_others cache_look_of empty_cache has_room cache_filled with_mode with_line without thrown_out reserved tlb_look_of empty_tlb tlb_filled without_page without_frame answers after_intervention new_request received outcome_of request_has_row value_of access_of target_of start_of need_of finish_of halt_of rows decode_of in_order holders_rising mover_act_of mover_take_of has_table_row place_of first_mover frame_of page_of left_at is_free is_quarantined holders_of moves_of is_moving move_of least_free oldest walked begun settled dropped reclaimed first_table below bytes_from drain_of
owner_is_served_from_memory = record { served = refl }

pub marked_read_is_granted : MarkedReadIsGranted
unfolding machine_act_of machine_take_of start_machine is_stopped is_quiet node_has_row processor_act_of may_act processor_take_of has_row_for start_home serve_row count_request rearm clean_frame serve are_poisoned sharers_but sum_of most_of_others cache_look_of empty_cache has_room cache_filled with_mode with_line without thrown_out reserved tlb_look_of empty_tlb tlb_filled without_page without_frame answers after_intervention new_request received outcome_of request_has_row value_of access_of target_of start_of need_of finish_of halt_of rows decode_of in_order holders_rising mover_act_of mover_take_of has_table_row place_of first_mover frame_of page_of left_at is_free is_quarantined holders_of moves_of is_moving move_of least_free oldest walked begun settled dropped reclaimed first_table below bytes_from drain_of
marked_read_is_granted = record { marked = rw (one_0, one_1) refl; back = rw (one_0, one_1) refl; noted = rw (one_0, one_1) refl; filled = rw (one_0, one_1) refl }

pub page_moves : PageMoves
unfolding machine_act_of machine_take_of start_machine is_stopped is_quiet node_has_row processor_act_of may_act processor_take_of has_row_for start_home serve_row count_request rearm clean_frame serve are_poisoned sharers_but sum_of most_of_others cache_look_of empty_cache has_room cache_filled with_mode with_line without thrown_out reserved tlb_look_of empty_tlb tlb_filled without_page without_frame answers after_intervention new_request received outcome_of request_has_row value_of access_of target_of start_of need_of finish_of halt_of rows decode_of in_order holders_rising mover_act_of mover_take_of has_table_row place_of first_mover frame_of page_of left_at is_free is_quarantined holders_of moves_of is_moving move_of least_free oldest walked begun settled dropped reclaimed first_table below bytes_from drain_of
page_moves = record { hit = refl; poisoned = refl; moved = refl }

-- both nodes hold the old frame; then node 1 alone; then none
holds_0 : set.contains (set.from_list {R = nat_cmp} (0 ∷ 1 ∷ [])) 0 ≡ true
holds_0 = set.contains-from_list_nat (0 ∷ 1 ∷ []) 0

holds_1 : set.contains (set.from_list {R = nat_cmp} (0 ∷ 1 ∷ [])) 1 ≡ true
holds_1 = set.contains-from_list_nat (0 ∷ 1 ∷ []) 1

are_two : set.len (set.from_list {R = nat_cmp} (0 ∷ 1 ∷ [])) ≡ 2
are_two = grind (arith, set.members)

left_1 : set.contains (set.remove (set.from_list {R = nat_cmp} (0 ∷ 1 ∷ [])) 0) 1 ≡ true
left_1 = grind (arith, set.members)

left_one : set.len (set.remove (set.from_list {R = nat_cmp} (0 ∷ 1 ∷ [])) 0) ≡ 1
left_one = grind (arith, set.members)

left_none : set.len (set.remove (set.remove (set.from_list {R = nat_cmp} (0 ∷ 1 ∷ [])) 0) 1) ≡ 0
left_none = grind (arith, set.members)

pub frame_is_freed : FrameIsFreed
unfolding machine_act_of machine_take_of start_machine is_stopped is_quiet node_has_row processor_act_of may_act processor_take_of has_row_for start_home serve_row count_request rearm clean_frame serve are_poisoned sharers_but sum_of most_of_others cache_look_of empty_cache has_room cache_filled with_mode with_line without thrown_out reserved tlb_look_of empty_tlb tlb_filled without_page without_frame answers after_intervention new_request received outcome_of request_has_row value_of access_of target_of start_of need_of finish_of halt_of rows decode_of in_order holders_rising mover_act_of mover_take_of has_table_row place_of first_mover frame_of page_of left_at is_free is_quarantined holders_of moves_of is_moving move_of least_free oldest walked begun settled dropped reclaimed first_table below bytes_from drain_of
frame_is_freed = record {
  waiting = rw (holds_0, holds_1) refl;
  answered = rw (holds_0, holds_1, are_two, holds_0, left_one, left_1, left_none) refl;
  noted = rw (holds_0, holds_1, are_two, holds_0, left_one, left_1, left_none) refl;
}

pub start_drains : StartDrains
unfolding machine_act_of machine_take_of start_machine is_stopped is_quiet node_has_row processor_act_of may_act processor_take_of has_row_for start_home serve_row count_request rearm clean_frame serve are_poisoned sharers_but sum_of most_of_others cache_look_of empty_cache has_room cache_filled with_mode with_line without thrown_out reserved tlb_look_of empty_tlb tlb_filled without_page without_frame answers after_intervention new_request received outcome_of request_has_row value_of access_of target_of start_of need_of finish_of halt_of rows decode_of in_order holders_rising mover_act_of mover_take_of has_table_row place_of first_mover frame_of page_of left_at is_free is_quarantined holders_of moves_of is_moving move_of least_free oldest walked begun settled dropped reclaimed first_table below bytes_from drain_of drawn_from held place line_of_block
start_drains = record { stopped = refl; quiet = refl; noted = refl }

-- node 1 is the only sharer
only_2 : set.contains (sharers (1 ∷ [])) 2 ≡ false
only_2 = set.contains-from_list_nat (1 ∷ []) 2

pub move_drains : MoveDrains
unfolding machine_act_of machine_take_of start_machine is_stopped is_quiet node_has_row processor_act_of may_act processor_take_of has_row_for start_home serve_row count_request rearm clean_frame serve are_poisoned sharers_but sum_of most_of_others cache_look_of empty_cache has_room cache_filled with_mode with_line without thrown_out reserved tlb_look_of empty_tlb tlb_filled without_page without_frame answers after_intervention new_request received outcome_of request_has_row value_of access_of target_of start_of need_of finish_of halt_of rows decode_of in_order holders_rising mover_act_of mover_take_of has_table_row place_of first_mover frame_of page_of left_at is_free is_quarantined holders_of moves_of is_moving move_of least_free oldest walked begun settled dropped reclaimed first_table below bytes_from drain_of drawn_from held place line_of_block
move_drains = record {
  drains = record {
    stopped = refl;
    events = rw (one_0, one_1, only_2) refl;
    none_left = rw (one_0, one_1, only_2) refl;
    quiet = rw (one_0, one_1, only_2) refl;
    simulated = λ number k. rw (one_0, one_1, only_2) refl;
  };
  line = rw (one_0, one_1, only_2) refl;
}

-- both nodes hold the old frame; node 0 drops it, and then node 1
pub reclaim_drains : ReclaimDrains
unfolding machine_act_of machine_take_of start_machine is_stopped is_quiet node_has_row processor_act_of may_act processor_take_of has_row_for start_home serve_row count_request rearm clean_frame serve are_poisoned sharers_but sum_of most_of_others cache_look_of empty_cache has_room cache_filled with_mode with_line without thrown_out reserved tlb_look_of empty_tlb tlb_filled without_page without_frame answers after_intervention new_request received outcome_of request_has_row value_of access_of target_of start_of need_of finish_of halt_of rows decode_of in_order holders_rising mover_act_of mover_take_of has_table_row place_of first_mover frame_of page_of left_at is_free is_quarantined holders_of moves_of is_moving move_of least_free oldest walked begun settled dropped reclaimed first_table below bytes_from drain_of drawn_from held place line_of_block
reclaim_drains = record {
  stopped = refl;
  events = rw (holds_0, left_one, left_1, left_none) refl;
  none_left = rw (holds_0, left_one, left_1, left_none) refl;
  quiet = rw (holds_0, left_one, left_1, left_none) refl;
  simulated = λ number k. rw (holds_0, left_one, left_1, left_none) refl;
}

pub write_back_drains : WriteBackDrains
unfolding machine_act_of machine_take_of start_machine is_stopped is_quiet node_has_row processor_act_of may_act processor_take_of has_row_for start_home serve_row count_request rearm clean_frame serve are_poisoned sharers_but sum_of most_of_others cache_look_of empty_cache has_room cache_filled with_mode with_line without thrown_out reserved tlb_look_of empty_tlb tlb_filled without_page without_frame answers after_intervention new_request received outcome_of request_has_row value_of access_of target_of start_of need_of finish_of halt_of rows decode_of in_order holders_rising mover_act_of mover_take_of has_table_row place_of first_mover frame_of page_of left_at is_free is_quarantined holders_of moves_of is_moving move_of least_free oldest walked begun settled dropped reclaimed first_table below bytes_from drain_of drawn_from held place line_of_block
write_back_drains = record {
  drains = record { stopped = refl; events = refl; none_left = refl; quiet = refl; simulated = λ number k. refl };
  line = refl;
}

pub transfer_drains : TransferDrains
unfolding machine_act_of machine_take_of start_machine is_stopped is_quiet node_has_row processor_act_of may_act processor_take_of has_row_for start_home serve_row count_request rearm clean_frame serve are_poisoned sharers_but sum_of most_of_others cache_look_of empty_cache has_room cache_filled with_mode with_line without thrown_out reserved tlb_look_of empty_tlb tlb_filled without_page without_frame answers after_intervention new_request received outcome_of request_has_row value_of access_of target_of start_of need_of finish_of halt_of rows decode_of in_order holders_rising mover_act_of mover_take_of has_table_row place_of first_mover frame_of page_of left_at is_free is_quarantined holders_of moves_of is_moving move_of least_free oldest walked begun settled dropped reclaimed first_table below bytes_from drain_of drawn_from held place line_of_block
transfer_drains = record {
  drains = record { stopped = refl; events = refl; none_left = refl; quiet = refl; simulated = λ number k. refl };
  line = refl;
}
