use Rattle.og_seen.proofs.Tlbs.{new_seen, own_seen, absent_seen, fill_seen, fill_over_seen, drop_page_seen, drop_frame_seen}
use Rattle.og_seen.proofs.tlbs_are_seen.Goals as goal

pub returns : goal.returns
returns c = record {
  new = λ s entries y. new_seen s entries y;
  own = λ s tlb page frame y n e. own_seen s tlb page frame y n e;
  absent = λ s tlb page y n e. absent_seen s tlb page y n e;
  fill = λ s tlb page frame y differ is n over. fill_seen s tlb page frame y differ is n over;
  fill_over = λ s tlb page frame y z old differ is n over other nz. fill_over_seen s tlb page frame y z old differ is n over other nz;
  drop_page = λ s tlb page y differ is n. drop_page_seen s tlb page y differ is n;
  drop_frame = λ s tlb frame y is names there. drop_frame_seen s tlb frame y is names there;
}
