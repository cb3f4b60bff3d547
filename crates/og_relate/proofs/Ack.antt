-- An acknowledgement is counted.
use Rattle.std.proofs.Common.{◌≡◌, ℕ, ◌+◌, ◌<◌, true, arith, ◌≢◌, inl, inr, refl, subst, List, [], ◌∷◌, ◌++◌, Option, None, Some}
use Rattle.std.proofs.lemmas.Bool.{cases_Bool}
use Rattle.std.proofs.lemmas.Bool.Decides.{nat_tests}
use Rattle.og_block.specs.State.{put, Want, Idle, Ask, Response}
use Rattle.og_block.specs.Rows.{Acknowledged}
use Rattle.og_block.specs.Invariant.{Asks, Fits_ask}
use Rattle.og_block.specs.Views.{grants}
use Rattle.og_pages.specs.State.{State as Pages}
use Rattle.og_whole.specs.Events.{World, Event, On, guard, apply}
use Rattle.og_whole.specs.Link.{Invariant}
use Rattle.og_whole.proofs.Runs.{reached}
use Rattle.og_whole.proofs.Worlds.{blocks_ready}
use Rattle.og_relate.specs.Data.{KInvalAck, Post, Setup, Request, Cpu, Mover, HomeSide, Harts}
use Rattle.og_relate.specs.Places.{Place, InvalidationAt, stands_at, is_at}
use Rattle.og_relate.specs.Sides.{owns}
use Rattle.og_relate.specs.Sim.{AskerTidy, Sim, NodeShows, want_at}
use Rattle.og_relate.specs.Owes.{changes}
use Rattle.og_relate.specs.Steps.{letter}
use Rattle.og_relate.specs.Node.{count_ack}
use Rattle.og_relate.proofs.Messages.{rest_one}
use Rattle.og_relate.proofs.Home.{here_self}
use Rattle.og_relate.proofs.Rows.{node_row}
use Rattle.og_relate.proofs.Fewer.{fewer_node, column_at}

module _ {L : Type 0} where
  owned_ack : (p q f k : ℕ) (e : Event L) → e ≡ On 0 0 f k (Acknowledged q p) → (x : Place) → owns e x ≡ true → x ≡ InvalidationAt f k q
  owned_ack p q f k e is x o = grind (arith, nat_tests)

  changed_ack : (p q f k : ℕ) (s : Pages L) (e : Event L) → e ≡ On 0 0 f k (Acknowledged q p) → (x : Place) → changes s e x ≡ true → x ≡ InvalidationAt f k q
  changed_ack p q f k s e is x o = grind (arith, nat_tests)

  busy : (w : Want) (a : Ask L) (r : Response L) (k : ℕ) → Fits_ask w a r k → grants a ≡ true → w ≢ Idle
  busy w a r k f g = grind arith

  -- a node that isn't idle for a block has its request for it
  pub asks_here : (f k : ℕ) (o : Option (Request L)) → want_at f k o ≢ Idle → (r : Request L) × (o ≡ Some r) × (is_at f k r ≡ true)
  asks_here f k None ne = absurd (ne refl)
  asks_here f k (Some r) ne = elim (cases_Bool (is_at f k r)) [ inl t ↦ (r, refl, t) | inr t ↦ absurd (ne (grind arith)) ]

module _ {L : Type 0} {H : Type 0} where
  -- whoever is sent an acknowledgement has its request outstanding
  pub ack_finds : (s : Setup) (harts : Harts L H) (cpu : ℕ → Cpu L H) (home : ℕ → HomeSide L) (mover : Mover L) (w : World L) (q p f k : ℕ) (ms : List (Post L)) →
      Sim s harts (record { cpu = cpu; home = home; mover = mover; flight = letter q p (KInvalAck f k) ∷ ms }) w → p < s.nodes → (r : Request L) × ((cpu p).request ≡ Some r) × (is_at f k r ≡ true)
  ack_finds s harts cpu home mover w q p f k ms sim lp =
      let pl = sim.flight.0.0 in
      let lq : q < s.nodes + 1 = pl.0.2.0 in
      let lp1 : p < s.nodes + 1 = omega arith in
      let rd = (blocks_ready (s.nodes + 1) s.nodes s.pages s.blocks w sim.reached f k q pl.0.1 lq).0.acknowledge p pl.0.2.1 in
      let inv : Invariant L (s.nodes + 1) s.nodes s.pages s.blocks w = reached (s.nodes + 1) s.nodes s.pages s.blocks w sim.reached in
      let a : Asks (w.block f k) p = ((inv.link f k pl.0.1).invariant.each p lp1).asks in
      let b : (w.block f k).want p ≢ Idle = busy ((w.block f k).want p) ((w.block f k).ask p) ((w.block f k).response p) ((w.block f k).acks p) a rd.1 in
      let v = (sim.nodes p lp).want f k in
      asks_here f k (cpu p).request (λ e. b (cc))

  pub ack_counted : (s : Setup) (harts : Harts L H) (cpu : ℕ → Cpu L H) (home : ℕ → HomeSide L) (mover : Mover L) (w : World L) (q p f k : ℕ) (r : Request L) (ms : List (Post L)) →
      Sim s harts (record { cpu = cpu; home = home; mover = mover; flight = letter q p (KInvalAck f k) ∷ ms }) w → p < s.nodes → (cpu p).request ≡ Some r → is_at f k r ≡ true →
      guard (s.nodes + 1) s.nodes s.pages s.blocks (On 0 0 f k (Acknowledged q p)) w × Sim s harts (record { cpu = put cpu p (count_ack (cpu p) r); home = home; mover = mover; flight = ms ++ [] }) (apply (s.nodes + 1) s.nodes (On 0 0 f k (Acknowledged q p)) w)
  ack_counted s harts cpu home mover w q p f k r ms sim lp rq at =
      let pl = sim.flight.0.0 in
      let e : Event L = On 0 0 f k (Acknowledged q p) in
      let gd : guard (s.nodes + 1) s.nodes s.pages s.blocks e w = (pl.0.2.1, pl.0.2.0, pl.0.1, tt) in
      let n : NodeShows harts p (cpu p) w = sim.nodes p lp in
      let z : World L = apply (s.nodes + 1) s.nodes e w in
      let c : Cpu L H = count_ack (cpu p) r in
      let ef : r.frame ≡ f = grind (arith, nat_tests) in
      let ek : r.number ≡ k = grind (arith, nat_tests) in
      let shows : NodeShows harts p c z = record {
        copy = λ g j. (let x = column_at (λ b. b.copy p) (s.nodes + 1) s.nodes 0 0 f k (Acknowledged q p) w g j in let y = n.copy g j in let v = n.copy f k in grind (arith, nat_tests));
        want = λ g j. (let x = column_at (λ b. b.want p) (s.nodes + 1) s.nodes 0 0 f k (Acknowledged q p) w g j in let y = n.want g j in let v = n.want f k in grind (arith, nat_tests));
        acks = λ g j. (let x = column_at (λ b. b.acks p) (s.nodes + 1) s.nodes 0 0 f k (Acknowledged q p) w g j in let y = n.acks g j in let v = n.acks f k in grind (arith, nat_tests));
        victim = λ g j. (let x = column_at (λ b. b.victim p) (s.nodes + 1) s.nodes 0 0 f k (Acknowledged q p) w g j in let y = n.victim g j in let v = n.victim f k in grind (arith, nat_tests));
        request = (let y = n.request in grind arith);
        slot = n.slot;
        tlb = n.tlb;
        walk = n.walk;
      } in (
        gd,
        node_row s harts cpu home mover (letter q p (KInvalAck f k) ∷ ms) w 0 0 f k (Acknowledged q p) p c ms [] sim gd refl refl lp (inl refl) refl shows (record { cached = (sim.tidy p lp).cached; named = (sim.tidy p lp).named; asker = subst (λ u. AskerTidy s u) rq (sim.tidy p lp).asker })
            (fewer_node s.nodes cpu mover p c (owns e) lp (λ x o. (let y = owned_ack p q f k e refl x o in grind arith))
            (λ a b. inr (grind arith, grind (arith, nat_tests))) (λ a b. inr (grind arith, grind (arith, nat_tests))) (λ a b. inr (grind arith, grind (arith, nat_tests))) (inr (refl, refl)))
            (rest_one s cpu mover w e (letter q p (KInvalAck f k)) ms sim.flight (owned_ack p q f k e refl) (grind (arith, nat_tests)))
            (tt, λ x i c st. absurd (let v = changed_ack p q f k w.pages e refl x c in let st2 : stands_at z (InvalidationAt f k q) ≡ true = subst (λ u. stands_at z u ≡ true) v st in let y = column_at (λ b. b.invalidation q) (s.nodes + 1) s.nodes 0 0 f k (Acknowledged q p) w f k in let hs = here_self f k in grind (arith, nat_tests))),
      )
