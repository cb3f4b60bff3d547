-- What is received and waits, and what is taken out again: no row of the theory.
use Rattle.std.proofs.Common.{◌≡◌, ℕ, Bool, true, false, cond, nat_eq, arith, ◌≢◌, ◌⊎◌, inl, inr, refl, subst, List, ◌∷◌, None, Some}
use Rattle.std.proofs.lemmas.Bool.Decides.{nat_tests}
use Rattle.og_slots.proofs.Flight.{fits_map, fits_frame, apart_other}
use Rattle.og_block.specs.State.{put}
use Rattle.og_whole.specs.Events.{World}
use Rattle.og_whole.specs.Messages.{Message}
use Rattle.og_relate.specs.Data.{Post, Setup, Cpu, Mover, HomeSide, Harts}
use Rattle.og_relate.specs.Places.{Place, content_of, slot_of, Stands, Placed, kept, Flies}
use Rattle.og_relate.specs.Sim.{Sim, NodeShows, Nodes, Tidy}
use Rattle.og_relate.proofs.Rows.{tidy_put}

module _ {L : Type 0} {H : Type 0} where
  -- nothing else changes of what is kept
  abbrev pub KeptAs : Setup → (ℕ → Cpu L H) → (ℕ → Cpu L H) → Mover L → Place → Type 0
  KeptAs s before after mover x = (p : Place) → p ≢ x → kept s.nodes after mover p ≡ kept s.nodes before mover p

  same_nodes : (s : Setup) (harts : Harts L H) (cpu : ℕ → Cpu L H) (p : ℕ) (c : Cpu L H) (w : World L) → Nodes s harts cpu w → NodeShows harts p c w → Nodes s harts (put cpu p c) w
  same_nodes s harts cpu p c w nodes own q lt = at (nat_eq q p) refl
    where
      at : (t : Bool) → nat_eq q p ≡ t → NodeShows harts q (cond t c (cpu q)) w
      at true e = let same : p ≡ q = grind (arith, nat_tests) in subst (λ (x : ℕ). NodeShows harts x c w) same own
      at false e = nodes q lt

  -- the message is received, and waits in the node
  pub receive : (s : Setup) (harts : Harts L H) (cpu : ℕ → Cpu L H) (home : ℕ → HomeSide L) (mover : Mover L) (w : World L) (x : Post L) (ms : List (Post L)) (p : ℕ) (c : Cpu L H) →
      Sim s harts (record { cpu = cpu; home = home; mover = mover; flight = x ∷ ms }) w → NodeShows harts p c w → Tidy s c →
      kept s.nodes (put cpu p c) mover (slot_of s.nodes x) ≡ Some (content_of s.nodes x) → ((q : Place) → (kept s.nodes (put cpu p c) mover q ≡ kept s.nodes cpu mover q) ⊎ (q ≡ slot_of s.nodes x)) →
      Sim s harts (record { cpu = put cpu p c; home = home; mover = mover; flight = ms }) w
  receive s harts cpu home mover w x ms p c sim own td here other = record {
    reached = sim.reached;
    nodes = same_nodes s harts cpu p c w sim.nodes own;
    tidy = tidy_put s cpu p c sim.tidy td;
    homes = sim.homes;
    mover = sim.mover;
    bounds = sim.bounds;
    keeps = λ q m k. elim (other q) [ inl e ↦ sim.keeps q m (cc) | inr e ↦ (let same : content_of s.nodes x ≡ m = cc in subst (λ (y : Message L). Stands s w y) same sim.flight.0.0.0) ];
    flight = fits_frame (slot_of s.nodes) (slot_of s.nodes x) (Flies s cpu mover w) (Flies s (put cpu p c) mover w) (λ y ne fl. (fl.0, elim (other (slot_of s.nodes y)) [ inl e ↦ (let k = fl.1 in cc) | inr e ↦ absurd (ne e) ])) ms sim.flight.1 sim.flight.2;
    found = λ q i st. elim (sim.found q i st) [
      | inl k ↦ inl (λ none. elim (other q) [ inl e ↦ k (cc) | inr e ↦ absurd (cc) ])
      | inr h ↦ elim h [ inl e ↦ inl (λ none. absurd (cc)) | inr r ↦ inr r ]
    ];
  }

  -- what the node held is taken in hand
  pub release : (s : Setup) (harts : Harts L H) (cpu : ℕ → Cpu L H) (home : ℕ → HomeSide L) (mover : Mover L) (w : World L) (x : Post L) (ms : List (Post L)) (p : ℕ) (c : Cpu L H) →
      Sim s harts (record { cpu = cpu; home = home; mover = mover; flight = ms }) w → NodeShows harts p c w → Tidy s c → Placed s w x →
      kept s.nodes cpu mover (slot_of s.nodes x) ≢ None → kept s.nodes (put cpu p c) mover (slot_of s.nodes x) ≡ None → ((q : Place) → (kept s.nodes (put cpu p c) mover q ≡ kept s.nodes cpu mover q) ⊎ (q ≡ slot_of s.nodes x)) →
      Sim s harts (record { cpu = put cpu p c; home = home; mover = mover; flight = x ∷ ms }) w
  release s harts cpu home mover w x ms p c sim own td pl was none other = record {
    reached = sim.reached;
    nodes = same_nodes s harts cpu p c w sim.nodes own;
    tidy = tidy_put s cpu p c sim.tidy td;
    homes = sim.homes;
    mover = sim.mover;
    bounds = sim.bounds;
    keeps = λ q m k. elim (other q) [ inl e ↦ sim.keeps q m (cc) | inr e ↦ absurd (cc) ];
    flight = (
      (pl, none),
      apart_other (slot_of s.nodes) (slot_of s.nodes x) (Flies s cpu mover w) (λ y fl e. was (let k = fl.1 in cc)) ms sim.flight,
      fits_map (slot_of s.nodes) (Flies s cpu mover w) (Flies s (put cpu p c) mover w) (λ y fl. (fl.0, elim (other (slot_of s.nodes y)) [ inl e ↦ (let k = fl.1 in cc) | inr e ↦ absurd (was (let k = fl.1 in cc)) ])) ms sim.flight,
    );
    found = λ q i st. elim (sim.found q i st) [
      | inl k ↦ elim (other q) [ inl e ↦ inl (λ none. k (cc)) | inr e ↦ inr (inl (cc)) ]
      | inr h ↦ inr (inr h)
    ];
  }
