use Rattle.std.proofs.Common.{refl, ◌*◌}
use Rattle.og_flat.proofs.Start.{start_bytes, length-bytes_from}
use Rattle.og_flat.proofs.starts_with_bytes.Goals as goal

pub returns : goal.returns
returns c byte addr block hart =
    (start_bytes byte addr, length-bytes_from byte (128 * block) 128, refl, refl)
