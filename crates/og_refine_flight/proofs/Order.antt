-- A world that is shown is shown with the messages in any order.
use Rattle.std.proofs.Common.{◌≡◌, ◌∙◌, ℕ, refl, sym, ap, subst, List, [], ◌∷◌, ◌++◌, map, ◌⊎◌, inl, inr}
use Rattle.og_runs.specs.declared.Msg.{Msg}
use Rattle.og_runs.specs.World.{without, placed, placed_all}
use Rattle.og_whole.specs.Events.{World}
use Rattle.og_relate.specs.Data.{Post, Machine, Harts, Setup}
use Rattle.og_relate.specs.Places.{Place, slot_of, Has, Flies}
use Rattle.og_relate.specs.Sim.{Sim}
use Rattle.og_refine_flight.specs.Laws.{with_flight, FoundComesFirst, SentAreAppended}
use Rattle.og_refine_flight.proofs.Inserted.{Inserted, in_front, in_middle, before, mapped, at_its_place, found_among, fits_more, fits_less}

module _ {L : Type 0} where
  -- a place that a message more has
  has_more : (n : ℕ) (p : Place) (m : Post L) (xs ys : List (Post L)) → Inserted m xs ys → (slot_of n m ≡ p) ⊎ Has n xs p → Has n ys p
  has_more n p m xs [] h has = absurd h
  has_more n p m xs (y ∷ ys) h has = elim h [
    | inl e ↦ elim has [
      | inl q ↦ inl (ap (slot_of n) e.0 ∙ q)
      | inr q ↦ inr (subst (λ (l : List (Post L)). Has n l p) (sym e.1) q)
    ]
    | inr r ↦ elim has [
      | inl q ↦ inr (has_more n p m r.0 ys r.2 (inl q))
      | inr q ↦ elim (subst (λ (l : List (Post L)). Has n l p) r.1 q) [
        | inl t ↦ inl t
        | inr t ↦ inr (has_more n p m r.0 ys r.2 (inr t))
      ]
    ]
  ]

  has_less : (n : ℕ) (p : Place) (m : Post L) (xs ys : List (Post L)) → Inserted m xs ys → Has n ys p → (slot_of n m ≡ p) ⊎ Has n xs p
  has_less n p m xs [] h has = absurd h
  has_less n p m xs (y ∷ ys) h has = elim h [
    | inl e ↦ elim has [
      | inl q ↦ inl (ap (slot_of n) (sym e.0) ∙ q)
      | inr q ↦ inr (subst (λ (l : List (Post L)). Has n l p) e.1 q)
    ]
    | inr r ↦ elim has [
      | inl q ↦ inr (subst (λ (l : List (Post L)). Has n l p) (sym r.1) (inl q))
      | inr q ↦ elim (has_less n p m r.0 ys r.2 q) [
        | inl t ↦ inl t
        | inr t ↦ inr (subst (λ (l : List (Post L)). Has n l p) (sym r.1) (inr t))
      ]
    ]
  ]

module _ {L : Type 0} {H : Type 0} where
  -- one message stands elsewhere
  pub moved : (s : Setup) (harts : Harts L H) (m : Machine L H) (w : World L) (x : Post L) (xs ys zs : List (Post L)) → Inserted x xs ys → Inserted x xs zs → Sim s harts (with_flight m ys) w → Sim s harts (with_flight m zs) w
  moved s harts m w x xs ys zs here there sim =
      let f = fits_less (slot_of s.nodes) (Flies s m.cpu m.mover w) x xs ys here sim.flight in
      record {
        reached = sim.reached;
        nodes = sim.nodes;
        tidy = sim.tidy;
        homes = sim.homes;
        mover = sim.mover;
        bounds = sim.bounds;
        keeps = sim.keeps;
        flight = fits_more (slot_of s.nodes) (Flies s m.cpu m.mover w) x xs zs there f.0 f.1 f.2;
        found = λ p inside stands. elim (sim.found p inside stands) [
          | inl k ↦ inl k
          | inr h ↦ inr (has_more s.nodes p x xs zs there (has_less s.nodes p x xs ys here h))
        ];
      }

  pub found_comes_first : {K : Type 0} → FoundComesFirst L H K
  found_comes_first s harts m w seen id message messages distinct found sim =
      moved s harts m w (seen message) (map seen (without id messages)) (map seen messages) (seen message ∷ map seen (without id messages))
      (mapped seen message (without id messages) messages (found_among id message messages distinct found)) (in_front (seen message) (map seen (without id messages))) sim

  pub sent_are_appended : {K : Type 0} → SentAreAppended L H K
  sent_are_appended {K} s harts m w seen messages sent sim = by messages sent sim
    where
      none : (xs : List (Post L)) → xs ++ [] ≡ xs
      none [] = refl
      none (x ∷ xs) = ap (λ (l : List (Post L)). x ∷ l) (none xs)

      by : (ms ns : List (Msg K)) → Sim s harts (with_flight m (map seen ms ++ map seen ns)) w → Sim s harts (with_flight m (map seen (placed_all ms ns))) w
      by ms [] sim = subst (λ (l : List (Post L)). Sim s harts (with_flight m l) w) (none (map seen ms)) sim
      by ms (n ∷ ns) sim = by (placed n ms) ns
          (moved s harts m w (seen n) (map seen ms ++ map seen ns) (map seen ms ++ seen n ∷ map seen ns) (map seen (placed n ms) ++ map seen ns)
          (in_middle (seen n) (map seen ms) (map seen ns)) (before (seen n) (map seen ms) (map seen (placed n ms)) (map seen ns) (mapped seen n ms (placed n ms) (at_its_place n ms))) sim)
