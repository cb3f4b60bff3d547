-- A node takes an acknowledgement: it counts, and where it is the last one the request ends, a held intervention is answered,
-- and a held drop: up to four rows.
use Rattle.std.proofs.Common.{◌≡◌, ℕ, ◌+◌, ◌<◌, true, refl, List, [], ◌∷◌, ◌++◌, Some}
use Rattle.og_block.specs.State.{put}
use Rattle.og_block.specs.Rows.{Acknowledged}
use Rattle.og_whole.specs.Events.{World, Event, On, apply}
use Rattle.og_relate.specs.Data.{KInvalAck, Post, Setup, IsSetup, Request, Cpu, Mover, HomeSide, Harts}
use Rattle.og_relate.specs.Places.{is_at}
use Rattle.og_relate.specs.Sim.{Sim}
use Rattle.og_relate.specs.Steps.{letter}
use Rattle.og_relate.specs.Node.{count_ack, settle_made, ack_made, take_ack}
use Rattle.og_relate.proofs.Ack.{ack_counted, ack_finds}
use Rattle.og_relate.proofs.Take.{At, MakesAt, then, without_end}
use Rattle.og_relate.proofs.Settle.{settle_any}

module _ {L : Type 0} {H : Type 0} where
  pub ack_taken : (s : Setup) (harts : Harts L H) (cpu : ℕ → Cpu L H) (home : ℕ → HomeSide L) (mover : Mover L) (w : World L) (q p f k : ℕ) (ms : List (Post L)) → IsSetup s → p < s.nodes →
      Sim s harts (record { cpu = cpu; home = home; mover = mover; flight = letter q p (KInvalAck f k) ∷ ms }) w →
      (r : Request L) × ((cpu p).request ≡ Some r) × (is_at f k r ≡ true) × MakesAt s harts cpu home mover p (take_ack s harts p f k (cpu p) r).0 (ms ++ (take_ack s harts p f k (cpu p) r).1) w (ack_made harts f k (cpu p) r)
  ack_taken s harts cpu home mover w q p f k ms setup lp sim = go (ack_finds s harts cpu home mover w q p f k ms sim lp)
    where
      go : (r : Request L) × ((cpu p).request ≡ Some r) × (is_at f k r ≡ true) → (r : Request L) × ((cpu p).request ≡ Some r) × (is_at f k r ≡ true) × MakesAt s harts cpu home mover p (take_ack s harts p f k (cpu p) r).0 (ms ++ (take_ack s harts p f k (cpu p) r).1) w (ack_made harts f k (cpu p) r)
      go f0 =
          let r : Request L = f0.0 in
          let x = ack_counted s harts cpu home mover w q p f k r ms sim lp f0.1 f0.2 in
          let e : Event L = On 0 0 f k (Acknowledged q p) in
          let z : World L = apply (s.nodes + 1) s.nodes e w in
          let c : Cpu L H = count_ack (cpu p) r in
          let t : Request L = record r { acks = r.acks + 1 } in
          let sim2 : At s harts cpu home mover p c ms z = without_end s harts (put cpu p c) home mover z ms x.1 in
          (r, f0.1, f0.2, then s harts _ w e [] (settle_made harts f k c t) refl x.0 (settle_any s harts cpu home mover p f k c t ms z setup lp sim2 refl f0.2 sim.flight.0.0.0.1))
