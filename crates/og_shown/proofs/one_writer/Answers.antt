use Rattle.og_shown.proofs.Copies.{writers_are_alone, copies_are_in_place}
use Rattle.og_shown.proofs.one_writer.Goals as goal

pub returns-clause-alone : goal.returns-clause-alone
returns-clause-alone g c = λ s harts m w p q frame number sim lp lq ne lk ex. writers_are_alone s harts m w p q frame number sim lp lq ne lk ex

pub returns-clause-in_place : goal.returns-clause-in_place
returns-clause-in_place g c = λ s harts m w p frame number sim lp lk hc. copies_are_in_place s harts m w p frame number sim lp lk hc
