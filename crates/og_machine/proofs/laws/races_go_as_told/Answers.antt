use Rattle.og_machine.proofs.Computed.{dirty_owner_shares, marked_read_asks_again, intervention_is_held, second_upgrade_is_refused, write_back_answers, line_returns_first, owner_is_served_from_memory, marked_read_is_granted}
use Rattle.og_machine.proofs.laws.races_go_as_told.Goals as goal

pub returns-clause-dirty_owner : goal.returns-clause-dirty_owner
returns-clause-dirty_owner c = dirty_owner_shares

pub returns-clause-marked_read : goal.returns-clause-marked_read
returns-clause-marked_read c = marked_read_asks_again

pub returns-clause-held_intervention : goal.returns-clause-held_intervention
returns-clause-held_intervention c = intervention_is_held

pub returns-clause-two_upgrades : goal.returns-clause-two_upgrades
returns-clause-two_upgrades c = second_upgrade_is_refused

pub returns-clause-write_back : goal.returns-clause-write_back
returns-clause-write_back c = write_back_answers

pub returns-clause-returned : goal.returns-clause-returned
returns-clause-returned c = line_returns_first

pub returns-clause-clean_owner : goal.returns-clause-clean_owner
returns-clause-clean_owner c = owner_is_served_from_memory

pub returns-clause-granted_read : goal.returns-clause-granted_read
returns-clause-granted_read c = marked_read_is_granted
