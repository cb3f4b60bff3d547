-- What the tables of all actors give, in one place.
use Rattle.og_refine_stays.specs.Laws.{ProcessorsStay}
use Rattle.og_refine_stays.proofs.Stays.{start_stays, act_stays, take_stays_of}
use Rattle.og_refine_harts.proofs.Moves.{act_moves, take_moves}
use Rattle.og_refine_home.proofs.Taken.{homes_take}
use Rattle.og_refine_home.proofs.Stays.{start_stays as start_home_stays, serve_stays}
use Rattle.og_refine_node.proofs.Acts.{processor_acts}
use Rattle.og_refine_node.proofs.Takes.{processor_takes}
use Rattle.og_refine_requester.proofs.Parts.{part_taken}
use Rattle.og_refine_mover.proofs.Acts.{acts}
use Rattle.og_refine_mover.proofs.Takes.{takes}
use Rattle.og_refine_mover.proofs.Sizes.{stays_of}
use Rattle.og_refine_harts.specs.Laws.{HartsMove}
use Rattle.og_refine_home.specs.Laws.{HomesTake, HomesStay}
use Rattle.og_refine_node.specs.Laws.{ProcessorsAct, ProcessorsTake}
use Rattle.og_refine_requester.specs.Laws.{PartsAreTaken}
use Rattle.og_refine_mover.specs.Laws.{MoverActs, MoverTakes, MoverStaysOf}

pub record Tables : Type 0 where
  pub homes_take : HomesTake
  pub homes_stay : HomesStay
  pub processors_act : ProcessorsAct
  pub processors_take : ProcessorsTake
  pub parts_are_taken : PartsAreTaken
  pub processors_stay : ProcessorsStay
  pub harts_move : HartsMove
  pub mover_acts : MoverActs
  pub mover_takes : MoverTakes
  pub mover_stays : MoverStaysOf

pub tables : Tables
tables = record {
  homes_take = λ image s cpu home mover w p x message rest sizes is low home_is to_is for sim. homes_take image s cpu home mover w p x message rest is home_is to_is for sim;
  homes_stay = record {
    start = λ image layout settings s p nodes frames. start_home_stays s p image layout settings nodes frames;
    serve = λ s p x message is sender row. serve_stays s p x message is sender;
  };
  processors_act = processor_acts;
  processors_take = processor_takes;
  parts_are_taken = λ image s cpu home mover w p x message rest sizes is of_home lp cp to part sim. part_taken image s cpu home mover w p x message rest sizes is of_home lp cp to part sim;
  processors_stay = record {
    start = λ image settings s p loadable nodes pages sets ways entries. start_stays image settings s p loadable nodes pages sets ways entries;
    act = λ image s x is may. act_stays image s x is may;
    take = λ image s p x message home is row. take_stays_of image s p x message home is row;
  };
  harts_move = record {
    act = λ image x may. act_moves image x may;
    take = λ image x kind sound. take_moves image x kind sound;
  };
  mover_acts = λ image s cpu home w m rest sizes is can sim. acts image s cpu home w m rest is can sim;
  mover_takes = λ image s cpu home w m message rest sizes is ours sim. takes image s cpu home w m message rest sizes is ours sim;
  mover_stays = stays_of;
}
