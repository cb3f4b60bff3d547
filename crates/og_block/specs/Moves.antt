-- Something of a block can move: a message stands that doesn't only wait.
use Rattle.std.specs.Prelude.{ℕ, ◌≢◌}
use Rattle.og_block.specs.State.{Idle, Free, Block}
use Rattle.og_block.specs.Message.{Message, Stands, MayWait}

pub record SomethingMoves (L : Type 0) (n : ℕ) (b : Block L) : Type 0 where
  pub message : Message L
  pub stands : Stands n b message
  pub moves : ¬ MayWait b message

-- where an actor has something outstanding for the block, or its victim slot holds it, something of the block can move
pub record Moves (L : Type 0) (n : ℕ) (b : Block L) (q : ℕ) : Type 0 where
  pub request : b.want q ≢ Idle → SomethingMoves L n b
  pub victim : b.victim q ≢ Free → SomethingMoves L n b
