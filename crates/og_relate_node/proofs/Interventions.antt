-- A node takes an intervention: held where its own request for the block is outstanding, and answered by the copy else.
use Rattle.std.proofs.Common.{◌≡◌, ℕ, ◌<◌, Bool, true, false, cond, nat_eq, arith, refl, sym, subst, List, ◌∷◌, ◌++◌, None, Some}
use Rattle.std.proofs.lemmas.Bool.Decides.{nat_tests}
use Rattle.og_block.specs.State.{put, Intervention, NoIntervention, Idle, Free}
use Rattle.og_whole.specs.Events.{World}
use Rattle.og_relate.specs.Data.{Post, Setup, IsSetup, Request, Cpu, Mover, HomeSide, Harts}
use Rattle.og_relate.specs.Places.{InterventionAt, content_of, slot_of, kept, is_at, held_message}
use Rattle.og_relate.specs.Sim.{Sim, HeldTidy, want_at, victim_at}
use Rattle.og_relate.specs.Node.{held_post, hold, tail}
use Rattle.og_relate.proofs.Messages.{held_place}
use Rattle.og_relate.proofs.Parts.{apart_number, intervention_held}
use Rattle.og_relate.proofs.Puts.{same_functions}
use Rattle.og_relate.proofs.Tail.{tail_any}
use Rattle.og_relate.proofs.Take.{GoesAt, still}

put_self : {A : Type 0} → (f : ℕ → A) (p : ℕ) → put f p (f p) ≡ f
put_self {A} f p = same_functions (put f p (f p)) f (λ q. at q (nat_eq q p) refl)
  where
    at : (q : ℕ) → (t : Bool) → nat_eq q p ≡ t → cond t (f p) (f q) ≡ f q
    at q true e = let same : q ≡ p = grind (arith, nat_tests) in cc
    at q false e = refl

module _ {L : Type 0} where
  nothing_held : (f k p : ℕ) (i : Intervention) → held_message {L = L} f k p i ≡ None → i ≡ NoIntervention
  nothing_held f k p NoIntervention e = refl
  nothing_held f k p i e = absurd (grind arith)

module _ {L : Type 0} {H : Type 0} where
  -- the request holds it: it held none before
  pub intervention_waits : (s : Setup) (harts : Harts L H) (cpu : ℕ → Cpu L H) (home : ℕ → HomeSide L) (mover : Mover L) (w : World L) (p f k : ℕ) (i : Intervention) (r : Request L) (x : Post L) (ms : List (Post L)) →
      Sim s harts (record { cpu = cpu; home = home; mover = mover; flight = x ∷ ms }) w → p < s.nodes → (cpu p).request ≡ Some r → is_at f k r ≡ true → held_message f k p i ≡ Some (content_of s.nodes x) → HeldTidy s i →
      (r.held ≡ NoIntervention) × GoesAt s harts cpu home mover p (hold (cpu p) r i) ms w
  intervention_waits s harts cpu home mover w p f k i r x ms sim lp rq at hm ht =
      let np = apart_number s.nodes p lp in
      let sl : slot_of s.nodes x ≡ InterventionAt f k p = held_place f k p i (content_of s.nodes x) hm in
      let none : kept s.nodes cpu mover (InterventionAt f k p) ≡ None = (let a = sim.flight.0.1 in cc) in
      let nh : held_message {L = L} f k p r.held ≡ None = grind arith in
      (nothing_held f k p r.held nh, still s harts _ w (intervention_held s harts cpu home mover w x ms p f k r i sim lp rq at hm ht))

  -- the copy answers it, and then a held drop that is due
  pub intervention_answered : (s : Setup) (harts : Harts L H) (cpu : ℕ → Cpu L H) (home : ℕ → HomeSide L) (mover : Mover L) (w : World L) (p f k : ℕ) (i : Intervention) (ms : List (Post L)) → IsSetup s → p < s.nodes →
      Sim s harts (record { cpu = cpu; home = home; mover = mover; flight = held_post s p f k i ++ ms }) w → want_at f k (cpu p).request ≡ Idle → victim_at f k (cpu p).slot ≡ Free →
      GoesAt s harts cpu home mover p (tail s p f k i (cpu p)).0 (ms ++ (tail s p f k i (cpu p)).1) w
  intervention_answered s harts cpu home mover w p f k i ms setup lp sim wi vf =
      tail_any s harts cpu home mover p f k (cpu p) i ms w setup lp (subst (λ (c : ℕ → Cpu L H). Sim s harts (record { cpu = c; home = home; mover = mover; flight = held_post s p f k i ++ ms }) w) (sym (put_self cpu p)) sim) wi vf
