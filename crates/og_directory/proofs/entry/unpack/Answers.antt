use Rattle.std.proofs.Common.{sym, refl, arith, ◌∙◌, bit_and}
use Rattle.og_directory.proofs.Packing.{state_of-masked, state_with-other}
use Rattle.og_directory.proofs.entry.unpack.Goals as goal

pub returns-in-0 : goal.returns-in-0
returns-in-0 c = sym (state_of-masked c.args.head c.args.set 0 c.in-0.is)

pub returns-in-1 : goal.returns-in-1
returns-in-1 c = sym (state_of-masked c.args.head c.args.set 1 c.in-1.is)

pub returns-in-2 : goal.returns-in-2
returns-in-2 c = sym (state_of-masked c.args.head c.args.set 2 c.in-2.is)

pub returns-in-3 : goal.returns-in-3
returns-in-3 c = sym (state_of-masked c.args.head c.args.set 3 c.in-3.is)

pub returns-in-4 : goal.returns-in-4
returns-in-4 c = sym (state_of-masked c.args.head c.args.set 4 c.in-4.is)

pub returns-in-5 : goal.returns-in-5
returns-in-5 c = sym (state_of-masked c.args.head c.args.set 5 c.in-5.is)

pub returns-in_default : goal.returns-in_default
returns-in_default c =
    sym (state_of-masked c.args.head c.args.set (bit_and c.args.head 7) refl
    ∙ state_with-other (bit_and c.args.head 7) c.args.set _ _ _ (λ e. omega arith) (λ e. omega arith) (λ e. omega arith) (λ e. omega arith) (λ e. omega arith) (λ e. omega arith))
