-- A node takes an invalidation: the copy goes, a read is marked, and whoever waits for it is told.
use Rattle.std.proofs.Common.{◌≡◌, ℕ, ◌+◌, ◌<◌, Bool, true, false, cond, arith, inl, inr, refl, sym, List, [], ◌∷◌, ◌++◌, Option, None, Some}
use Rattle.std.proofs.lemmas.Bool.{cases_Bool}
use Rattle.std.proofs.lemmas.Bool.Decides.{nat_tests}
use Rattle.og_block.specs.State.{Invalidate}
use Rattle.og_block.specs.Rows.{Row as BlockRow, marked, has_exclusive, Invalidated}
use Rattle.og_pages.specs.State.{State as Pages}
use Rattle.og_whole.specs.Events.{World, Event, On, guard, apply}
use Rattle.og_whole.proofs.Worlds.{blocks_ready}
use Rattle.og_relate.specs.Data.{KInvalidate, KInvalAck, Post, Setup, Request, Cpu, Mover, HomeSide, Harts}
use Rattle.og_relate.specs.Places.{Place, InvalidationAt, is_at, kept_ask, kept_response, kept_intervention}
use Rattle.og_relate.specs.Sides.{here, owns, touches}
use Rattle.og_relate.specs.Sim.{Sim, NodeShows, AskerTidy, want_at, acks_at, request_at}
use Rattle.og_relate.specs.Owes.{changes}
use Rattle.og_relate.specs.Steps.{letter}
use Rattle.og_relate.proofs.Fewer.{column_at}
use Rattle.og_relate.proofs.Home.{here_self}
use Rattle.og_relate.proofs.Messages.{or_left}
use Rattle.og_relate.proofs.Parts.{self_number}
use Rattle.og_relate.proofs.Take.{GoesAt, then, still}
use Rattle.og_relate_node.specs.Steps.{marked_at, invalidated, take_invalidation}
use Rattle.og_relate_node.proofs.TakenRows.{taken_row}

module _ {L : Type 0} where
  changed_invalidated : (p r f k : ℕ) (s : Pages L) (e : Event L) → e ≡ On 0 0 f k (Invalidated p r) → (x : Place) → changes s e x ≡ true → x ≡ InvalidationAt f k p
  changed_invalidated p r f k s e is x o = grind (arith, nat_tests)

  -- ---- what a mark changes of a request

  marked_wants : (f k g j : ℕ) (o : Option (Request L)) → want_at g j (marked_at f k o) ≡ cond (here f k g j) (marked (want_at g j o)) (want_at g j o)
  marked_wants f k g j None = elim (cases_Bool (here f k g j)) [ inl t ↦ (cc) | inr t ↦ (cc) ]
  marked_wants f k g j (Some r) = at (is_at f k r) refl
    where
      at : (t : Bool) → is_at f k r ≡ t → want_at g j (cond t (Some (record r { want = marked r.want })) (Some r)) ≡ cond (here f k g j) (marked (want_at g j (Some r))) (want_at g j (Some r))
      at true e = grind (arith, nat_tests)
      at false e = grind (arith, nat_tests)

  marked_acks : (f k g j : ℕ) (o : Option (Request L)) → acks_at g j (marked_at f k o) ≡ acks_at g j o
  marked_acks f k g j None = refl
  marked_acks f k g j (Some r) = at (is_at f k r)
    where
      at : (t : Bool) → acks_at g j (cond t (Some (record r { want = marked r.want })) (Some r)) ≡ acks_at g j (Some r)
      at true = refl
      at false = refl

  marked_request : (f k page : ℕ) (o : Option (Request L)) → request_at page (marked_at f k o) ≡ request_at page o
  marked_request f k page None = refl
  marked_request f k page (Some r) = at (is_at f k r)
    where
      at : (t : Bool) → request_at page (cond t (Some (record r { want = marked r.want })) (Some r)) ≡ request_at page (Some r)
      at true = refl
      at false = refl

  marked_asks : (f k g j q : ℕ) (o : Option (Request L)) → kept_ask g j q (marked_at f k o) ≡ kept_ask g j q o
  marked_asks f k g j q None = refl
  marked_asks f k g j q (Some r) = at (is_at f k r)
    where
      at : (t : Bool) → kept_ask g j q (cond t (Some (record r { want = marked r.want })) (Some r)) ≡ kept_ask g j q (Some r)
      at true = refl
      at false = refl

  marked_responses : (f k g j q : ℕ) (o : Option (Request L)) → kept_response g j q (marked_at f k o) ≡ kept_response g j q o
  marked_responses f k g j q None = refl
  marked_responses f k g j q (Some r) = at (is_at f k r)
    where
      at : (t : Bool) → kept_response g j q (cond t (Some (record r { want = marked r.want })) (Some r)) ≡ kept_response g j q (Some r)
      at true = refl
      at false = refl

  marked_holds : (f k g j q : ℕ) (o : Option (Request L)) → kept_intervention g j q (marked_at f k o) ≡ kept_intervention g j q o
  marked_holds f k g j q None = refl
  marked_holds f k g j q (Some r) = at (is_at f k r)
    where
      at : (t : Bool) → kept_intervention g j q (cond t (Some (record r { want = marked r.want })) (Some r)) ≡ kept_intervention g j q (Some r)
      at true = refl
      at false = refl

  marked_asker : (s : Setup) (f k : ℕ) (o : Option (Request L)) → AskerTidy s o → AskerTidy s (marked_at f k o)
  marked_asker s f k None a = tt
  marked_asker s f k (Some r) a = at (is_at f k r)
    where
      at : (t : Bool) → AskerTidy s (cond t (Some (record r { want = marked r.want })) (Some r))
      at true = a
      at false = a

module _ {L : Type 0} {H : Type 0} where
  pub invalidation_taken : (s : Setup) (harts : Harts L H) (cpu : ℕ → Cpu L H) (home : ℕ → HomeSide L) (mover : Mover L) (w : World L) (p r f k : ℕ) (ms : List (Post L)) →
      Sim s harts (record { cpu = cpu; home = home; mover = mover; flight = letter (s.home f) p (KInvalidate f k r) ∷ ms }) w → p < s.nodes →
      (has_exclusive ((cpu p).cache f k) ≡ false) × GoesAt s harts cpu home mover p (take_invalidation p f k r (cpu p)).0 (ms ++ (take_invalidation p f k r (cpu p)).1) w
  invalidation_taken s harts cpu home mover w p r f k ms sim lp =
      let x : Post L = letter (s.home f) p (KInvalidate f k r) in
      let pl = sim.flight.0.0 in
      let iv : (w.block f k).invalidation p ≡ Invalidate r = pl.0.2.1 in
      let lp1 : p < s.nodes + 1 = omega arith in
      let rd = (blocks_ready (s.nodes + 1) s.nodes s.pages s.blocks w sim.reached f k p pl.0.1 lp1).0.invalidate r iv in
      let row : BlockRow L = Invalidated p r in
      let e : Event L = On 0 0 f k row in
      let z : World L = apply (s.nodes + 1) s.nodes e w in
      let n : NodeShows harts p (cpu p) w = sim.nodes p lp in
      let td = sim.tidy p lp in
      let pp = self_number p in
      let hs = here_self f k in
      let c : Cpu L H = invalidated (cpu p) f k in
      let gd : guard (s.nodes + 1) s.nodes s.pages s.blocks e w = ((iv, rd.0), lp1, pl.0.1, tt) in
      let shows : NodeShows harts p c z = record {
        copy = λ g j. (let t = column_at (λ b. b.copy p) (s.nodes + 1) s.nodes 0 0 f k row w g j in let y = n.copy g j in grind arith);
        want = λ g j. (let t = column_at (λ b. b.want p) (s.nodes + 1) s.nodes 0 0 f k row w g j in let y = n.want g j in let u = n.want f k in let m = marked_wants f k g j (cpu p).request in grind (arith, nat_tests));
        acks = λ g j. (let t = column_at (λ b. b.acks p) (s.nodes + 1) s.nodes 0 0 f k row w g j in let y = n.acks g j in let u = n.acks f k in let m = marked_acks f k g j (cpu p).request in grind (arith, nat_tests));
        victim = λ g j. (let t = column_at (λ b. b.victim p) (s.nodes + 1) s.nodes 0 0 f k row w g j in let y = n.victim g j in let u = n.victim f k in grind (arith, nat_tests));
        request = (let y = n.request in let m = marked_request f k (harts.page (cpu p).hart) (cpu p).request in cc);
        slot = n.slot;
        tlb = n.tlb;
        walk = n.walk;
      } in
      let ex : has_exclusive ((cpu p).cache f k) ≡ false = (let a = n.copy f k in let b = rd.0 in cc) in (
        ex,
        then s harts _ w e [] [] refl gd (still s harts _ z
            (taken_row s harts cpu home mover w f k row p c x ms (letter p r (KInvalAck f k) ∷ []) sim gd lp refl refl (inl refl) refl
            (λ y o. changed_invalidated p r f k w.pages e refl y (or_left (owns e y) (touches w.pages e y) o)) (grind (arith, nat_tests)) refl
            shows
            (record { cached = λ g j ne. td.cached g j (λ v. ne (grind arith)); named = td.named; asker = marked_asker s f k (cpu p).request td.asker })
            refl (λ a b. marked_asks f k a b p (cpu p).request) (λ a b. marked_responses f k a b p (cpu p).request) (λ a b. marked_holds f k a b p (cpu p).request)
            (((((pl.0.0, pl.0.1, (lp1, grind arith, λ v. absurd (cc))), (lp, rd.1), tt), grind arith), tt, tt), λ y i ch st. inl (sym (changed_invalidated p r f k w.pages e refl y ch))))),
      )
