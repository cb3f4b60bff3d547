use Rattle.og_relate_mover.proofs.PageEvents.{copy_goes, copied_taken, page_published}
use Rattle.og_relate_mover.proofs.pages_are_moved.Goals as goal

pub returns-clause-copies : goal.returns-clause-copies
returns-clause-copies g c = λ s harts cpu home mover w page old new number line rest sim jb. copy_goes s harts cpu home mover w page old new number line rest sim jb

pub returns-clause-copied : goal.returns-clause-copied
returns-clause-copied g c = λ s harts cpu home mover w new number rest sim. copied_taken s harts cpu home mover w new number rest sim

pub returns-clause-published : goal.returns-clause-published
returns-clause-published g c = λ s harts cpu home mover w page old new rest sim jb. page_published s harts cpu home mover w page old new rest sim jb
