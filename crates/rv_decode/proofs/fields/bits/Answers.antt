use Rattle.std.proofs.Common.{◌≡◌, ◌*◌, ◌%◌, ◌^◌}
use Rattle.std.proofs.lemmas.Nat.{one_shl, and_mask}
use Rattle.rv_decode.proofs.fields.bits.Goals as goal

pub returns : goal.returns
returns c =
    let narrow = c.requires.narrow in
    let mask : 1 * 2 ^ c.args.count % 2 ^ 32 ≡ 2 ^ c.args.count = one_shl c.args.count 32 narrow in
    rw (mask, and_mask)
