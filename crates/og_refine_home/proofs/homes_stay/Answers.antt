use Rattle.og_refine_home.proofs.Stays.{start_stays, serve_stays}
use Rattle.og_refine_home.proofs.homes_stay.Goals as goal

pub returns : goal.returns
returns c = record {
  start = λ image layout settings s p nodes frames. start_stays s p image layout settings nodes frames;
  serve = λ s p x message is sender row. serve_stays s p x message is sender;
}
