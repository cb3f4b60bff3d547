-- the digits that are left, after the number so far, make up the whole, up to the bound
use Rattle.std.proofs.Common.{◌≡◌, ◌≤◌, ◌^◌, min, drop}
use Rattle.rv_asm.specs.Syntax.{digits_from}
use Rattle.rv_asm.proofs.number.digits_from.Given as goal

abbrev pub invariant-loop-digit : goal.invariant-loop-digit
invariant-loop-digit l = record {
  capped : l.number ≤ 2 ^ 40;
  value : min (digits_from l.base l.number (drop l.digit-index l.digits)) (2 ^ 40) ≡ min (digits_from l.base 0 l.digits) (2 ^ 40);
}
