use Rattle.og_trace.proofs.Heads.{Ranges, ranges}
use Rattle.og_trace.proofs.read.settings_of.Goals as goal

pub invariant_of-result : goal.invariant_of-result
invariant_of-result c =
    let r : Ranges c.args.head = ranges c.args.head c.requires in
    record {
      nodes_in_range = r.nodes_in_range;
      frames_in_range = r.frames_in_range;
      all_frames_in_range = r.all_frames_in_range;
      sets_in_range = r.sets_in_range;
      ways_in_range = r.ways_in_range;
      tlb_in_range = r.tlb_in_range;
      instructions_in_range = r.instructions_in_range;
      trigger_in_range = r.trigger_in_range;
      sharing_in_range = r.sharing_in_range;
      moves_in_range = r.moves_in_range;
      reset_in_range = r.reset_in_range;
    }
