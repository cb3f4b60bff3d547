-- What the theory says of a message in flight to the mover: how many acknowledgements have come and may come, and which page a notice is of.
use Rattle.std.proofs.Common.{◌≡◌, ◌≢◌, ℕ, ◌+◌, ◌<◌, ◌≤◌, cond, arith, sym, ap, ◌∙◌, subst, List, ◌∷◌, Option, Some}
use Rattle.og_block.specs.State.{Ask, PoisonReply}
use Rattle.og_block.specs.Message.{Asked}
use Rattle.og_block.specs.Balance.{due}
use Rattle.og_pages.proofs.Safe.{served}
use Rattle.og_whole.specs.Events.{World}
use Rattle.og_whole.specs.Messages.{OfBlock}
use Rattle.og_whole.proofs.Runs.{reached}
use Rattle.og_whole.proofs.Worlds.{blocks_ready, replies_bounded}
use Rattle.og_relate.specs.Data.{KPoisonReply, KInvalAck, KHot, Post, Setup, Cpu, Mover, MoverJob, MCollect, UsedBy, HomeSide, Harts}
use Rattle.og_relate.specs.Places.{AskAt, kept, kept_collect, kept_ask}
use Rattle.og_relate.specs.Sim.{Sim, mover_acks, role_of}
use Rattle.og_relate.specs.Steps.{letter}
use Rattle.og_relate.specs.Laws.{machine}
use Rattle.og_relate.proofs.Parts.{self_number}

module _ {L : Type 0} where
  -- of the job that collects the block: the acknowledgements, the reply that is kept, and what it names
  acks_of : (f k page new acks : ℕ) (reply : Option (L × ℕ)) (job : MoverJob L) → job ≡ MCollect page f new k reply acks → mover_acks f k job ≡ acks
  acks_of f k page new acks reply job e = ap (mover_acks f k) e ∙ (let a = self_number f in let b = self_number k in grind arith)

  kept_of : (f k n page new acks : ℕ) (x : L × ℕ) (job : MoverJob L) → job ≡ MCollect page f new k (Some x) acks → kept_collect f k n job ≡ Some (OfBlock f k (Asked n (PoisonReply x.0 x.1)))
  kept_of f k n page new acks x job e = ap (kept_collect f k n) e ∙ (let a = self_number f in let b = self_number k in grind arith)

  due_of : (a : Ask L) (l : L) (d : ℕ) → a ≡ PoisonReply l d → due a ≡ d
  due_of a l d e = ap due e

module _ {L : Type 0} {H : Type 0} where
  -- no more acknowledgements have come than the reply in flight names
  pub acks_named : (s : Setup) (harts : Harts L H) (cpu : ℕ → Cpu L H) (home : ℕ → HomeSide L) (mover : Mover L) (w : World L) (from page f new k acks : ℕ) (reply : Option (L × ℕ)) (l : L) (d : ℕ) (rest : List (Post L)) →
      Sim s harts (machine cpu home mover (letter from s.nodes (KPoisonReply f k l d) ∷ rest)) w → mover.job ≡ MCollect page f new k reply acks → acks ≤ d
  acks_named s harts cpu home mover w from page f new k acks reply l d rest sim jb =
      let lk : k < s.blocks = sim.flight.0.0.0.1 in
      let ln : s.nodes < s.nodes + 1 = omega arith in
      let b = (blocks_ready (s.nodes + 1) s.nodes s.pages s.blocks w sim.reached f k s.nodes lk ln).1.acknowledgements in
      let n : due ((w.block f k).ask s.nodes) ≡ d = due_of ((w.block f k).ask s.nodes) l d sim.flight.0.0.0.2.1 in
      let a : (w.block f k).acks s.nodes ≡ acks = sim.mover.acks f k ∙ acks_of f k page new acks reply mover.job jb in
      omega arith

  -- as long as an acknowledgement is in flight fewer have come than there are nodes, and than a reply names that has come
  pub acks_left : (s : Setup) (harts : Harts L H) (cpu : ℕ → Cpu L H) (home : ℕ → HomeSide L) (mover : Mover L) (w : World L) (q page f new k acks : ℕ) (reply : Option (L × ℕ)) (rest : List (Post L)) →
      Sim s harts (machine cpu home mover (letter q s.nodes (KInvalAck f k) ∷ rest)) w → mover.job ≡ MCollect page f new k reply acks → (acks < s.nodes) × ((x : L × ℕ) → reply ≡ Some x → acks < x.1)
  acks_left s harts cpu home mover w q page f new k acks reply rest sim jb = ((let b = few in let c = most in omega arith), λ x e. (let b = few in let n = named x e in omega arith))
    where
      lk : k < s.blocks
      lk = sim.flight.0.0.0.1

      ln : s.nodes < s.nodes + 1
      ln = omega arith

      few : acks < due ((w.block f k).ask s.nodes)
      few =
          let a : (w.block f k).acks s.nodes ≡ acks = sim.mover.acks f k ∙ acks_of f k page new acks reply mover.job jb in
          let b = ((blocks_ready (s.nodes + 1) s.nodes s.pages s.blocks w sim.reached f k q lk sim.flight.0.0.0.2.0).0.acknowledge s.nodes sim.flight.0.0.0.2.1).2 in
          subst (λ (n : ℕ). n < due ((w.block f k).ask s.nodes)) a b

      most : due ((w.block f k).ask s.nodes) < s.nodes + 1
      most = replies_bounded (s.nodes + 1) s.nodes s.pages s.blocks w sim.reached f k s.nodes lk ln

      named : (x : L × ℕ) → reply ≡ Some x → due ((w.block f k).ask s.nodes) ≡ x.1
      named x e =
          let j : mover.job ≡ MCollect page f new k (Some x) acks = jb ∙ ap (λ r. MCollect page f new k r acks) e in
          let h : kept s.nodes cpu mover (AskAt f k s.nodes) ≡ Some (OfBlock f k (Asked s.nodes (PoisonReply x.0 x.1))) = ap (λ t. cond t (kept_collect f k s.nodes mover.job) (kept_ask f k s.nodes (cpu s.nodes).request)) (self_number s.nodes) ∙ kept_of f k s.nodes page new acks x mover.job j in
          due_of ((w.block f k).ask s.nodes) x.0 x.1 (sim.keeps (AskAt f k s.nodes) (OfBlock f k (Asked s.nodes (PoisonReply x.0 x.1))) h).2.1

  -- the frame of a notice in flight has a page
  pub page_noticed : (s : Setup) (harts : Harts L H) (cpu : ℕ → Cpu L H) (home : ℕ → HomeSide L) (mover : Mover L) (w : World L) (from f node count most : ℕ) (rest : List (Post L)) →
      Sim s harts (machine cpu home mover (letter from s.nodes (KHot f node count most) ∷ rest)) w → (page : ℕ) × (mover.role f ≡ UsedBy page)
  page_noticed s harts cpu home mover w from f node count most rest sim =
      let noticed : w.pages.notice f ≢ _ = λ e. sim.flight.0.0.0.2 (sym sim.flight.0.0.0.1 ∙ e) in
      let p = (served s.pages s.blocks w.pages (reached (s.nodes + 1) s.nodes s.pages s.blocks w sim.reached).of_pages).notice f noticed in
      (p.0, sym (sim.mover.role f) ∙ ap role_of p.1)
