-- Each plays its part from the start on.
use Rattle.std.proofs.Common.{◌≡◌, ℕ, ◌<◌, arith, refl, sym, subst, List, [], ◌∷◌}
use Rattle.og_block.proofs.All.{kept}
use Rattle.og_block.proofs.KeptMover.{mover_kept}
use Rattle.og_block.proofs.KeptPlain.{plain_kept}
use Rattle.og_block.proofs.KeptEnds.{ends_kept}
use Rattle.og_block.proofs.KeptReply.{reply_kept}
use Rattle.og_block.specs.State.{Sharing, Block, start}
use Rattle.og_block.specs.Access.{flat_after}
use Rattle.og_block.specs.Rows.{Row, guard, apply, actor_of}
use Rattle.og_block.specs.Invariant.{Invariant}
use Rattle.og_block.specs.Roles.{Roles, Allowed, OwnBit, Plays}
use Rattle.og_block.specs.Run.{Runs}

module _ {L : Type 0} where
  pub roles_kept : (n : ℕ) (f : L) (m : ℕ) (b : Block L) (r : Row L) → guard r b → Allowed m r b → Invariant n f b → actor_of r < n → m < n → Roles n m b → Roles n m (apply n r b)
  roles_kept n f m b r g ok inv lp lm roles = record {
    mover = mover_kept n f m b r g ok inv.home (inv.each (actor_of r) lp) (inv.each m lm) roles.mover (roles.plain (actor_of r) lp) roles.ends roles.reply roles.bit;
    plain = λ q lq. plain_kept n f m b r g ok inv.home (inv.each (actor_of r) lp) (inv.each m lm) roles.mover (roles.plain (actor_of r) lp) roles.ends roles.reply roles.bit q lq (roles.plain q lq);
    ends = ends_kept n f m b r g ok inv.home (inv.each (actor_of r) lp) (inv.each m lm) roles.mover (roles.plain (actor_of r) lp) roles.ends roles.reply roles.bit;
    reply = reply_kept n f m b r g ok inv.home (inv.each (actor_of r) lp) (inv.each m lm) roles.mover (roles.plain (actor_of r) lp) roles.ends roles.reply roles.bit;
    bit = same n r b roles.bit;
  }
    where
      same : (n : ℕ) (r : Row L) (b : Block L) → OwnBit b.sharing m → OwnBit (apply n r b).sharing m
      same n r b bit = let e : (apply n r b).sharing ≡ b.sharing = grind arith in subst (λ (k : Sharing). OwnBit k m) (sym e) bit

  pub roles_start : (n m : ℕ) (k : Sharing) (memory : L) → OwnBit k m → Roles n m (start k memory)
  roles_start n m k memory bit = record { mover = (refl, refl, refl, refl, refl); plain = λ q lq ne. refl; ends = tt; reply = λ is w. cc; bit = bit }

  -- a run in which each plays its part is a run
  pub plays_runs : (n m : ℕ) (rs : List (Row L)) (b c : Block L) → Plays n m b rs c → Runs n b rs c
  plays_runs n m [] b c run = run
  plays_runs n m (r ∷ rs) b c run = (run.0, run.1, plays_runs n m rs (apply n r b) c run.3)

  pub roles_run : (n : ℕ) (f : L) (m : ℕ) (rs : List (Row L)) (b c : Block L) → m < n → Invariant n f b → Roles n m b → Plays n m b rs c → Roles n m c
  roles_run n f m [] b c lm inv roles run = subst (λ (x : Block L). Roles n m x) run roles
  roles_run n f m (r ∷ rs) b c lm inv roles run = roles_run n (flat_after r f) m rs (apply n r b) c lm (kept n f b r run.0 inv run.1) (roles_kept n f m b r run.0 run.2 inv run.1 lm roles) run.3
