use Rattle.og_block.proofs.Leaves.{leaves}
use Rattle.og_block.proofs.Sends.{sends_free}
use Rattle.og_block.proofs.Stays.{stays, sharing_stays}
use Rattle.og_block.proofs.messages_stay.Goals as goal

pub returns-clause-left : goal.returns-clause-left
returns-clause-left g c = λ n b row m out stands. leaves n b row m out stands

pub returns-clause-sent : goal.returns-clause-sent
returns-clause-sent g c = λ n cell b row m inv may inside writes other stands. sends_free n cell b row m may inv inside writes other stands

pub returns-clause-stay : goal.returns-clause-stay
returns-clause-stay g c = λ n cell b row m inv may inside other stands. stays n cell b row m may inv inside other stands

pub returns-clause-sharing : goal.returns-clause-sharing
returns-clause-sharing g c = λ n row b. sharing_stays n row b
