use Rattle.og_seen.proofs.Caches.{new_seen, fill_seen, take_out_seen, mode_seen, line_seen, reserve_seen, own_seen}
use Rattle.og_seen.proofs.caches_are_seen.Goals as goal

pub returns : goal.returns
returns c = record {
  new = λ s sets ways f k. new_seen s sets ways f k;
  fill = λ s cache block mode line is t none room. fill_seen s cache block mode line is t none room;
  take_out = λ s cache block is t. take_out_seen s cache block is t;
  change_mode = λ s cache block old mode line is t has. mode_seen s cache block old mode line is t has;
  change_line = λ s cache block mode old line is t has. line_seen s cache block mode old line is t has;
  reserve = λ s cache block out is th t. reserve_seen s cache block out is th t;
  own = λ s cache block mode line t has. own_seen s cache block mode line t has;
}
