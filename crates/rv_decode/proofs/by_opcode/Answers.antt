-- A word of another opcode has no row.
use Rattle.std.proofs.Common.{◌≡◌, false, eqb, sym, rules}
use Rattle.std.specs.List.{list_any}
use Rattle.rv_decode.proofs.Groups.{opcodes, decode_none}
use Rattle.rv_decode.proofs.by_opcode.Goals as goal

pub returns-in_default : goal.returns-in_default
returns-in_default c =
    let none : list_any (eqb c.bits.result) opcodes ≡ false = search rules in
    sym (decode_none c.bits.result c.args.word (sym c.bits.ensures) none)
