use Rattle.og_pages.proofs.PoolsKept.{free_listed, quarantine_listed, begin_keeps, publish_keeps, reclaim_keeps, roles_stay}
use Rattle.og_pages.proofs.pools_follow_roles.Goals as goal

pub returns-clause-listed : goal.returns-clause-listed
returns-clause-listed g c = free_listed

pub returns-clause-quarantined : goal.returns-clause-quarantined
returns-clause-quarantined g c = quarantine_listed

pub returns-clause-begun : goal.returns-clause-begun
returns-clause-begun g c = λ pages blocks nodes home s free quarantine frame page new rest may pools taken. begin_keeps pages blocks nodes home s free quarantine frame page new rest may pools taken

pub returns-clause-published : goal.returns-clause-published
returns-clause-published g c = λ pages blocks nodes home s free quarantine page old new may inv pools. publish_keeps pages blocks nodes home s free quarantine page old new may inv pools

pub returns-clause-reclaimed : goal.returns-clause-reclaimed
returns-clause-reclaimed g c = λ pages blocks nodes home s free quarantine frame fewer more may inv pools out into. reclaim_keeps pages blocks nodes home s free quarantine frame fewer more may inv pools out into

pub returns-clause-others : goal.returns-clause-others
returns-clause-others g c = λ s row e. roles_stay s row e
