use Rattle.og_relate.proofs.BackTaken.{back_taken}
use Rattle.og_relate_home.proofs.Taken.{sharing_write_back_taken, sharing_transfer_taken, dirty_transfer_taken, poison_back_taken, poison_clean_taken}
use Rattle.og_relate_home.proofs.owners_are_heard.Goals as goal

pub returns-clause-write_back : goal.returns-clause-write_back
returns-clause-write_back g c = λ s harts m w f k p l setup sim. back_taken s harts m.cpu m.home m.mover w f k p l m.flight setup sim

pub returns-clause-sharing_write_back : goal.returns-clause-sharing_write_back
returns-clause-sharing_write_back g c = λ s harts m w f k q l sim. sharing_write_back_taken s harts m w f k q l sim

pub returns-clause-sharing_transfer : goal.returns-clause-sharing_transfer
returns-clause-sharing_transfer g c = λ s harts m w f k q sim. sharing_transfer_taken s harts m w f k q sim

pub returns-clause-dirty_transfer : goal.returns-clause-dirty_transfer
returns-clause-dirty_transfer g c = λ s harts m w f k q sim. dirty_transfer_taken s harts m w f k q sim

pub returns-clause-poison_back : goal.returns-clause-poison_back
returns-clause-poison_back g c = λ s harts m w f k q l sim. poison_back_taken s harts m w f k q l sim

pub returns-clause-poison_clean : goal.returns-clause-poison_clean
returns-clause-poison_clean g c = λ s harts m w f k q sim. poison_clean_taken s harts m w f k q sim
