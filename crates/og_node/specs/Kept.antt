-- How a node is kept.
use Rattle.og_home.specs.Kept.{KeptHome, home_of}
use Rattle.og_processor.specs.State.{ProcessorState}
use Rattle.og_node.specs.Node.{NodeState}

pub record KeptNode : Type 0 where
  pub processor : ProcessorState
  pub home : KeptHome

-- the node that is kept
abbrev pub node_of : KeptNode → NodeState
node_of kept = record { processor = kept.processor; home = home_of kept.home }
