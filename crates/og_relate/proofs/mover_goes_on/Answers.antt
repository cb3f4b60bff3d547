use Rattle.og_relate.proofs.MoverRows.{hot_refused, tell_goes}
use Rattle.og_relate.proofs.mover_goes_on.Goals as goal

pub returns-clause-refuses : goal.returns-clause-refuses
returns-clause-refuses g c = λ s harts cpu home mover w a frame node count most old rest sim idle left inside. hot_refused s harts cpu home mover w a frame node count most old rest sim idle left inside

pub returns-clause-tells : goal.returns-clause-tells
returns-clause-tells g c = λ s harts cpu home mover w frame rest sim job. tell_goes s harts cpu home mover w frame rest sim job
