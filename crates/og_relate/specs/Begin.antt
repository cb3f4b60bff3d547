-- The machine at its start.
use Rattle.std.specs.Prelude.{ℕ, false, []}
use Rattle.std.proofs.Common.{None}
use Rattle.og_block.specs.State.{NoCopy}
use Rattle.og_pages.specs.State.{NoEntry}
use Rattle.og_relate.specs.Data.{Cpu, HomeSide, HUnowned, FrameRole, Mover, MIdle, Machine}

module _ {L : Type 0} {H : Type 0} where
  abbrev pub cpu_start : H → Cpu L H
  cpu_start hart = record { hart = hart; cache = λ f k. NoCopy; tlb = λ y. NoEntry; walk = None; request = None; slot = None; drop = None }

module _ {L : Type 0} where
  abbrev pub home_start : (ℕ → ℕ → L) → HomeSide L
  home_start lines = record { entry = λ f k. HUnowned; line = lines; noticed = λ f. false }

  abbrev pub mover_start : (ℕ → ℕ) → (ℕ → FrameRole) → Mover L
  mover_start page_table role = record { job = MIdle; page_table = page_table; holders = λ f q. false; role = role }

  abbrev pub machine_start : {H : Type 0} → (ℕ → H) → (ℕ → ℕ → ℕ → L) → (ℕ → ℕ) → (ℕ → FrameRole) → Machine L H
  machine_start hart lines page_table role = record { cpu = λ q. cpu_start (hart q); home = λ h. home_start (lines h); mover = mover_start page_table role; flight = [] }
