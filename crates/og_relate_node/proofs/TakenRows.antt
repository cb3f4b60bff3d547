-- What a row of a node owes that takes the first message in flight.
use Rattle.std.proofs.Common.{◌≡◌, ℕ, ◌+◌, ◌<◌, Bool, true, false, nat_eq, ◌⊎◌, inl, inr, refl, List, ◌∷◌, ◌++◌, Option, None}
use Rattle.og_block.specs.State.{put}
use Rattle.og_block.specs.Rows.{Row as BlockRow, actor_of}
use Rattle.og_whole.specs.Kind.{kind, Inner}
use Rattle.og_whole.specs.Events.{World, Event, On, guard, apply}
use Rattle.og_whole.specs.Messages.{Message}
use Rattle.og_relate.specs.Data.{Post, Setup, Cpu, Mover, HomeSide, Harts}
use Rattle.og_relate.specs.Places.{Place, AskAt, ResponseAt, InterventionAt, DropAt, slot_of, kept, kept_ask, kept_response, kept_intervention, kept_drop}
use Rattle.og_relate.specs.Sides.{owns, is_home, column_of, is_mover_kind, NodeSame, HomeSame, MoverSame}
use Rattle.og_relate.specs.Sim.{Sim, NodeShows, Tidy}
use Rattle.og_relate.specs.Goes.{FewerAt, Fewer}
use Rattle.og_relate.specs.Owes.{Letters}
use Rattle.og_relate.proofs.Fewer.{is_nodes, fewer_node}
use Rattle.og_relate.proofs.Messages.{rest_one}
use Rattle.og_relate.proofs.Parts.{apart_number}
use Rattle.og_relate.proofs.Rows.{node_row, cpu_row}

module _ {L : Type 0} where
  -- the same is kept as before, and nothing where the row takes
  fewer_same : (after before : Option (Message L)) (owned : Bool) → after ≡ before → (owned ≡ true → before ≡ None) → FewerAt after before owned
  fewer_same after before true e n = inl ((let a = n refl in cc), refl)
  fewer_same after before false e n = inr (e, refl)

module _ {L : Type 0} {H : Type 0} where
  -- what node p keeps, where its request has the same parts
  fewer_taken : (s : Setup) (cpu : ℕ → Cpu L H) (mover : Mover L) (p : ℕ) (c : Cpu L H) (x : Post L) (owned : Place → Bool) → p < s.nodes → kept s.nodes cpu mover (slot_of s.nodes x) ≡ None →
      ((y : Place) → owned y ≡ true → y ≡ slot_of s.nodes x) → is_nodes p (slot_of s.nodes x) ≡ true → c.drop ≡ (cpu p).drop →
      ((a b : ℕ) → kept_ask a b p c.request ≡ kept_ask a b p (cpu p).request) → ((a b : ℕ) → kept_response a b p c.request ≡ kept_response a b p (cpu p).request) → ((a b : ℕ) → kept_intervention a b p c.request ≡ kept_intervention a b p (cpu p).request) →
      Fewer (kept s.nodes (put cpu p c) mover) (kept s.nodes cpu mover) owned
  fewer_taken s cpu mover p c x owned lp none only at_p cd ka kr ki =
      fewer_node s.nodes cpu mover p c owned lp (λ y o. (let e = only y o in cc))
      (λ a b. fewer_same (kept_ask a b p c.request) (kept_ask a b p (cpu p).request) (owned (AskAt a b p)) (ka a b) (λ o. (let e = only (AskAt a b p) o in let v : kept s.nodes cpu mover (AskAt a b p) ≡ None = cc in let np = apart_number s.nodes p lp in cc)))
      (λ a b. fewer_same (kept_response a b p c.request) (kept_response a b p (cpu p).request) (owned (ResponseAt a b p)) (kr a b) (λ o. (let e = only (ResponseAt a b p) o in let v : kept s.nodes cpu mover (ResponseAt a b p) ≡ None = cc in let np = apart_number s.nodes p lp in cc)))
      (λ a b. fewer_same (kept_intervention a b p c.request) (kept_intervention a b p (cpu p).request) (owned (InterventionAt a b p)) (ki a b) (λ o. (let e = only (InterventionAt a b p) o in let v : kept s.nodes cpu mover (InterventionAt a b p) ≡ None = cc in let np = apart_number s.nodes p lp in cc)))
      (fewer_same (kept_drop p c.drop) (kept_drop p (cpu p).drop) (owned (DropAt p)) (cc) (λ o. (let e = only (DropAt p) o in let v : kept s.nodes cpu mover (DropAt p) ≡ None = cc in let np = apart_number s.nodes p lp in cc)))

  -- a row of a block
  pub taken_row : (s : Setup) (harts : Harts L H) (cpu : ℕ → Cpu L H) (home : ℕ → HomeSide L) (mover : Mover L) (w : World L) (f k : ℕ) (row : BlockRow L) (p : ℕ) (c : Cpu L H) (x : Post L) (ms ls : List (Post L)) →
      Sim s harts (record { cpu = cpu; home = home; mover = mover; flight = x ∷ ms }) w → guard (s.nodes + 1) s.nodes s.pages s.blocks (On 0 0 f k row) w → p < s.nodes →
      is_home row ≡ false → column_of row ≡ p → (kind row ≡ Inner) ⊎ (actor_of row ≡ p) → is_mover_kind (kind row) s.nodes ≡ false →
      ((y : Place) → owns (On 0 0 f k row) y ≡ true → y ≡ slot_of s.nodes x) → owns (On 0 0 f k row) (slot_of s.nodes x) ≡ true → is_nodes p (slot_of s.nodes x) ≡ true →
      NodeShows harts p c (apply (s.nodes + 1) s.nodes (On 0 0 f k row) w) → Tidy s c → c.drop ≡ (cpu p).drop →
      ((a b : ℕ) → kept_ask a b p c.request ≡ kept_ask a b p (cpu p).request) → ((a b : ℕ) → kept_response a b p c.request ≡ kept_response a b p (cpu p).request) → ((a b : ℕ) → kept_intervention a b p c.request ≡ kept_intervention a b p (cpu p).request) →
      Letters s w (On 0 0 f k row) ls →
      Sim s harts (record { cpu = put cpu p c; home = home; mover = mover; flight = ms ++ ls }) (apply (s.nodes + 1) s.nodes (On 0 0 f k row) w)
  taken_row s harts cpu home mover w f k row p c x ms ls sim gd lp nh col act mk only own at_p shows td cd ka kr ki fls =
      node_row s harts cpu home mover (x ∷ ms) w 0 0 f k row p c ms ls sim gd nh col lp act mk shows td
      (fewer_taken s cpu mover p c x (owns (On 0 0 f k row)) lp sim.flight.0.1 only at_p cd ka kr ki)
      (rest_one s cpu mover w (On 0 0 f k row) x ms sim.flight only own)
      fls

  -- any event that changes node p alone
  pub taken_event : (s : Setup) (harts : Harts L H) (cpu : ℕ → Cpu L H) (home : ℕ → HomeSide L) (mover : Mover L) (w : World L) (e : Event L) (p : ℕ) (c : Cpu L H) (x : Post L) (ms ls : List (Post L)) →
      Sim s harts (record { cpu = cpu; home = home; mover = mover; flight = x ∷ ms }) w → guard (s.nodes + 1) s.nodes s.pages s.blocks e w → p < s.nodes →
      ((y : Place) → owns e y ≡ true → y ≡ slot_of s.nodes x) → owns e (slot_of s.nodes x) ≡ true → is_nodes p (slot_of s.nodes x) ≡ true →
      ((q : ℕ) → nat_eq q p ≡ false → NodeSame q w (apply (s.nodes + 1) s.nodes e w)) → ((a b : ℕ) → HomeSame a b w (apply (s.nodes + 1) s.nodes e w)) → MoverSame s.nodes w (apply (s.nodes + 1) s.nodes e w) →
      NodeShows harts p c (apply (s.nodes + 1) s.nodes e w) → Tidy s c → c.drop ≡ (cpu p).drop → c.request ≡ (cpu p).request →
      Letters s w e ls →
      Sim s harts (record { cpu = put cpu p c; home = home; mover = mover; flight = ms ++ ls }) (apply (s.nodes + 1) s.nodes e w)
  taken_event s harts cpu home mover w e p c x ms ls sim gd lp only own at_p ns hs mv shows td cd cr fls =
      cpu_row s harts cpu home mover (x ∷ ms) w e p c ms ls sim gd ns hs mv shows td
      (fewer_taken s cpu mover p c x (owns e) lp sim.flight.0.1 only at_p cd (λ a b. cc) (λ a b. cc) (λ a b. cc))
      (rest_one s cpu mover w e x ms sim.flight only own)
      fls
