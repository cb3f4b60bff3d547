-- A notice is refused, whatever the mover does.
use Rattle.std.proofs.Common.{ℕ, refl, List, [], ◌∷◌, ◌++◌}
use Rattle.og_pages.specs.Rows.{Notice_refuse}
use Rattle.og_whole.specs.Events.{World, Page}
use Rattle.og_relate.specs.Data.{KHot, Post, Setup, Cpu, Mover, HomeSide, Harts}
use Rattle.og_relate.specs.Sim.{Sim}
use Rattle.og_relate.specs.Goes.{Goes}
use Rattle.og_relate.specs.Steps.{letter}
use Rattle.og_relate.specs.MoverSteps.{refuse}
use Rattle.og_relate.proofs.Take.{still, then}
use Rattle.og_relate.proofs.MoverRows.{refused}

module _ {L : Type 0} {H : Type 0} where
  pub turned_away : (s : Setup) (harts : Harts L H) (cpu : ℕ → Cpu L H) (home : ℕ → HomeSide L) (mover : Mover L) (w : World L) (a f node count most : ℕ) (ms : List (Post L)) →
      Sim s harts (record { cpu = cpu; home = home; mover = mover; flight = letter a s.nodes (KHot f node count most) ∷ ms }) w →
      Goes s harts (record { cpu = cpu; home = home; mover = (refuse s f mover).0; flight = ms ++ (refuse s f mover).1 }) w
  turned_away s harts cpu home mover w a f node count most ms sim =
      let x = refused s harts cpu home mover w a f node count most ms sim in
      then s harts _ w (Page (Notice_refuse f)) [] [] refl x.0 (still s harts _ _ x.1)
