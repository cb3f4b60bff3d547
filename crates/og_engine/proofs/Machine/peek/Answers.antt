use Rattle.std.proofs.Common.{◌≡◌, ◌∙◌, ℕ, ◌/◌, ◌%◌, ap, sym}
use Rattle.og_machine.specs.Held.{held}
use Rattle.og_engine.specs.Kept.{machine_of}
use Rattle.og_engine.proofs.Lines.{no_byte, byte_held}
use Rattle.og_engine.proofs.Machine.peek.Goals as goal

pub returns-in_err-line : goal.returns-in_err-line
returns-in_err-line c =
    let blocks : held (machine_of c.args.self.now) (record { 0 = c.args.address / 4096 }) (c.args.address / 128 % 32) ≡ c.line.result =
    ap (λ (n : ℕ). held (machine_of c.args.self.now) (record { 0 = c.args.address / 4096 }) (c.args.address / 128 % n)) (sym c.from.ensures) ∙ sym c.line.ensures in
    c.from_residual.ensures ∙ no_byte c.args.self.now c.args.address (blocks ∙ c.in_err-line.was)

pub returns : goal.returns
returns c =
    let blocks : held (machine_of c.args.self.now) (record { 0 = c.args.address / 4096 }) (c.args.address / 128 % 32) ≡ c.line.result =
    ap (λ (n : ℕ). held (machine_of c.args.self.now) (record { 0 = c.args.address / 4096 }) (c.args.address / 128 % n)) (sym c.from.ensures) ∙ sym c.line.ensures in
    byte_held c.args.self.now c.args.address c.in_ok-line.line (blocks ∙ c.in_ok-line.was)
