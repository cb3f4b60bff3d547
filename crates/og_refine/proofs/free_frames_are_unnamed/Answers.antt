use Rattle.og_refine.proofs.Lawful.{unnamed_frames}
use Rattle.og_refine.proofs.free_frames_are_unnamed.Goals as goal

pub returns : goal.returns
returns c = unnamed_frames
