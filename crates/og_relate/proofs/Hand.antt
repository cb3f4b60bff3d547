-- The intervention that a request holds comes to the front of the flight before the row that ends the request.
use Rattle.std.proofs.Common.{◌≡◌, ℕ, ◌<◌, true, arith, ◌≢◌, refl, sym, subst, List, ◌∷◌, ◌++◌, Some}
use Rattle.og_block.specs.State.{Block, put, Idle, Free, Intervention, NoIntervention, InterveneShared, InterveneExclusive, IntervenePoison}
use Rattle.og_block.specs.Invariant.{Local, Rests}
use Rattle.og_block.specs.Message.{Intervened}
use Rattle.og_whole.specs.Events.{World}
use Rattle.og_whole.specs.Messages.{Message, OfBlock}
use Rattle.og_relate.specs.Data.{KInterveneShared, KInterveneEx, KIntervenePoison, Post, Setup, IsSetup, Request, Cpu, Mover, HomeSide, Harts}
use Rattle.og_relate.specs.Places.{InterventionAt, content_of, Stands, Placed, is_at, held_message, kept_intervention}
use Rattle.og_relate.specs.Sim.{AskerTidy, HeldTidy}
use Rattle.og_relate.specs.Steps.{letter}
use Rattle.og_relate.specs.Node.{held_post, hold}
use Rattle.og_relate.proofs.Puts.{put_here}
use Rattle.og_relate.proofs.Parts.{apart_number, intervention_released}
use Rattle.og_relate.proofs.Take.{At, focus}

module _ {L : Type 0} where
  -- whose request is outstanding has nothing of the block in its victim slot
  pub rested : (n : ℕ) (l : L) (b : Block L) (p : ℕ) → Local n l b p → b.want p ≢ Idle → b.victim p ≡ Free
  rested n l b p h w = by h.rests
    where
      by : Rests b p → b.victim p ≡ Free
      by x = grind arith

module _ {L : Type 0} {H : Type 0} where
  -- ---- what is held is taken in hand first

  pub in_hand : (s : Setup) (harts : Harts L H) (cpu : ℕ → Cpu L H) (home : ℕ → HomeSide L) (mover : Mover L) (p f k : ℕ) (c : Cpu L H) (r : Request L) (ms : List (Post L)) (w : World L) → IsSetup s → p < s.nodes →
      At s harts cpu home mover p c ms w → c.request ≡ Some r → is_at f k r ≡ true → (w.block f k).victim p ≡ Free →
      At s harts cpu home mover p (hold c r NoIntervention) (held_post s p f k r.held ++ ms) w
  in_hand s harts cpu home mover p f k c r ms w setup lp sim rq at vf = by r.held refl
    where
      rp : (put cpu p c p).request ≡ Some r
      rp = let h = put_here cpu p c in cc

      asked : (i : Intervention) → r.held ≡ i → HeldTidy s i
      asked i e = subst (λ u. HeldTidy s u) e (subst (λ u. AskerTidy s u) rp (sim.tidy p lp).asker)

      stands : (i : Intervention) (m : Message L) → r.held ≡ i → held_message f k p i ≡ Some m → Stands s w m
      stands i m e hm = let h = put_here cpu p c in let np = apart_number s.nodes p lp in let a : kept_intervention f k p c.request ≡ Some m = grind arith in sim.keeps (InterventionAt f k p) m (grind arith)

      out : (x : Post L) (i : Intervention) → r.held ≡ i → held_message f k p i ≡ Some (content_of s.nodes x) → Placed s w x → At s harts cpu home mover p (hold c r NoIntervention) (x ∷ ms) w
      out x i e hm pl = focus s harts cpu home mover p c (λ d. hold d r NoIntervention) (x ∷ ms) w (intervention_released s harts (put cpu p c) home mover w x ms p f k r i sim lp rp at e hm pl)

      by : (i : Intervention) → r.held ≡ i → At s harts cpu home mover p (hold c r NoIntervention) (held_post s p f k i ++ ms) w
      by NoIntervention e = subst (λ (d : Cpu L H). At s harts cpu home mover p d ms w) (let a : hold c r NoIntervention ≡ c = grind arith in sym a) sim
      by (InterveneShared q) e = let st = stands (InterveneShared q) (OfBlock f k (Intervened p (InterveneShared q))) e refl in out (letter (s.home f) p (KInterveneShared f k q)) (InterveneShared q) e refl (st, (refl, lp, asked (InterveneShared q) e), tt)
      by (InterveneExclusive q) e = let st = stands (InterveneExclusive q) (OfBlock f k (Intervened p (InterveneExclusive q))) e refl in out (letter (s.home f) p (KInterveneEx f k q)) (InterveneExclusive q) e refl (st, (refl, lp, asked (InterveneExclusive q) e), tt)
      by (IntervenePoison q) e =
          let q_ : q ≡ s.nodes = asked (IntervenePoison q) e in
          let e2 : r.held ≡ IntervenePoison s.nodes = cc in
          let st2 = stands (IntervenePoison s.nodes) (OfBlock f k (Intervened p (IntervenePoison s.nodes))) e2 refl in
          out (letter (s.home f) p (KIntervenePoison f k)) (IntervenePoison s.nodes) e2 refl (st2, (refl, lp), tt)
