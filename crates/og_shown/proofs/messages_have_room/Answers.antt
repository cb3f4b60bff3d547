use Rattle.og_shown.proofs.Copies.{messages_have_room}
use Rattle.og_shown.proofs.messages_have_room.Goals as goal

pub returns : goal.returns
returns g c = λ s harts m w sim. messages_have_room s harts m w sim
