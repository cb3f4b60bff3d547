use Rattle.og_machine.proofs.Computed.{start_drains, move_drains, reclaim_drains, write_back_drains, transfer_drains}
use Rattle.og_machine.proofs.laws.drains_go_as_told.Goals as goal

pub returns-clause-whole : goal.returns-clause-whole
returns-clause-whole c = start_drains

pub returns-clause-midst : goal.returns-clause-midst
returns-clause-midst c = move_drains

pub returns-clause-reclaim : goal.returns-clause-reclaim
returns-clause-reclaim c = reclaim_drains

pub returns-clause-write_back : goal.returns-clause-write_back
returns-clause-write_back c = write_back_drains

pub returns-clause-transfer : goal.returns-clause-transfer
returns-clause-transfer c = transfer_drains
