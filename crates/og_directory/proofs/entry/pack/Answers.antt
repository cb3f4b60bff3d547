use Rattle.og_directory.proofs.Packing.{packed_fields}
use Rattle.og_directory.proofs.entry.pack.Goals as goal

pub returns : goal.returns
returns c = packed_fields c.args.number c.args.owner c.args.requester c.args.returned c.requires.number c.requires.owner c.requires.requester c.requires.returned
