-- Writers are alone, copies are in place, free frames are unnamed, and the messages have room.
use Rattle.std.proofs.Common.{◌≡◌, ◌≢◌, ℕ, ◌+◌, ◌<◌, ◌≤◌, true, arith, refl, subst, List, [], ◌∷◌, map, length}
use Rattle.og_slots.specs.Flight.{Fits, Apart}
use Rattle.og_block.specs.State.{NoCopy}
use Rattle.og_block.specs.Rows.{has_exclusive}
use Rattle.og_pages.specs.State.{Role, Free}
use Rattle.og_pages.proofs.Safe.{free_unnamed}
use Rattle.og_whole.specs.Kind.{has_copy}
use Rattle.og_whole.specs.Events.{World}
use Rattle.og_whole.specs.Link.{Invariant}
use Rattle.og_whole.specs.Messages.{Message, InFlight, key_count}
use Rattle.og_whole.proofs.Runs.{reached}
use Rattle.og_whole.proofs.Safe.{writer_alone, copies_placed, free_clear}
use Rattle.og_whole.proofs.KeyCount.{at_most_keys}
use Rattle.og_relate.specs.Data.{Post, Unused, Machine, Harts, Setup}
use Rattle.og_relate.specs.Places.{content_of, slot_of, Flies}
use Rattle.og_relate.specs.Sim.{Sim, role_of}
use Rattle.og_shown.specs.Shown.{place_of, IsUnnamed}
use Rattle.og_shown.proofs.Lines.{same_place}

unused : (u : Role) → role_of u ≡ Unused → u ≡ Free
unused Free e = refl
unused u e = absurd (grind arith)

module _ {L : Type 0} where
  -- messages with places of their own are different messages
  apart_contents : (n : ℕ) (x : Post L) (ms : List (Post L)) → Apart (slot_of n) (slot_of n x) ms → Apart (λ (c : Message L). c) (content_of n x) (map (content_of n) ms)
  apart_contents n x [] a = tt
  apart_contents n x (m ∷ ms) a = ((λ e. a.0 (cc)), apart_contents n x ms a.1)

  contents_fit : (n : ℕ) (P : Post L → Type 0) (Q : Message L → Type 0) → ((x : Post L) → P x → Q (content_of n x)) → (ms : List (Post L)) → Fits (slot_of n) P ms → Fits (λ (c : Message L). c) Q (map (content_of n) ms)
  contents_fit n P Q h [] f = tt
  contents_fit n P Q h (m ∷ ms) f = (h m f.0, apart_contents n m ms f.1, contents_fit n P Q h ms f.2)

  as_many : (n : ℕ) (ms : List (Post L)) → length (map (content_of n) ms) ≡ length ms
  as_many n [] = refl
  as_many n (m ∷ ms) = let r : length (map (content_of n) ms) ≡ length ms = as_many n ms in grind arith

module _ {L : Type 0} {H : Type 0} where
  pub writers_are_alone : (s : Setup) (harts : Harts L H) (m : Machine L H) (w : World L) (p q f k : ℕ) → Sim s harts m w → p < s.nodes → q < s.nodes → p ≢ q → k < s.blocks → has_exclusive ((m.cpu p).cache f k) ≡ true → (m.cpu q).cache f k ≡ NoCopy
  writers_are_alone s harts m w p q f k sim lp lq ne lk ex =
      let inv : Invariant L (s.nodes + 1) s.nodes s.pages s.blocks w = reached (s.nodes + 1) s.nodes s.pages s.blocks w sim.reached in
      let a = (sim.nodes p lp).copy f k in
      let b = (sim.nodes q lq).copy f k in
      let c = writer_alone (s.nodes + 1) s.nodes s.pages s.blocks w sim.reached.inside inv f k lk p q (omega arith) (omega arith) ne (cc) in
      cc

  pub copies_are_in_place : (s : Setup) (harts : Harts L H) (m : Machine L H) (w : World L) (p f k : ℕ) → Sim s harts m w → p < s.nodes → k < s.blocks → has_copy ((m.cpu p).cache f k) ≡ true → (page : ℕ) × (page < s.pages) × (place_of m page k ≡ f)
  copies_are_in_place s harts m w p f k sim lp lk hc =
      let inv : Invariant L (s.nodes + 1) s.nodes s.pages s.blocks w = reached (s.nodes + 1) s.nodes s.pages s.blocks w sim.reached in
      let a = (sim.nodes p lp).copy f k in
      let c = copies_placed (s.nodes + 1) s.nodes s.pages s.blocks w sim.reached.inside inv f k p lk (omega arith) (cc) in
      (c.0, c.1, (let d = same_place s harts m w c.0 k sim c.1 in let e = c.2 in cc))

  pub free_frames_are_unnamed : (s : Setup) (harts : Harts L H) (m : Machine L H) (w : World L) (f : ℕ) → Sim s harts m w → m.mover.role f ≡ Unused → IsUnnamed s m f
  free_frames_are_unnamed s harts m w f sim free =
      let inv : Invariant L (s.nodes + 1) s.nodes s.pages s.blocks w = reached (s.nodes + 1) s.nodes s.pages s.blocks w sim.reached in
      let rf : w.pages.role f ≡ Free = unused (w.pages.role f) (let a = sim.mover.role f in cc) in
      let un = free_unnamed s.pages s.blocks w.pages inv.of_pages f rf in
      record {
        copy = λ p k lp lk. (let a = (sim.nodes p lp).copy f k in let b = (free_clear (s.nodes + 1) s.nodes s.pages s.blocks w sim.reached.inside inv f k p lk (omega arith) rf).copy in cc);
        entry = λ p y lp e. (un.unnamed p y 0).entry (let a = (sim.nodes p lp).tlb y in cc);
        request = λ p r lp e same. (un.unnamed p (harts.page (m.cpu p).hart) r.number).request (let a = (sim.nodes p lp).request in grind arith);
        holder = λ p. (let a = sim.mover.holders f p in let b = (un.unnamed p 0 0).holder in cc);
      }

  pub messages_have_room : (s : Setup) (harts : Harts L H) (m : Machine L H) (w : World L) → Sim s harts m w → length m.flight ≤ key_count s.nodes s.frames s.blocks
  messages_have_room s harts m w sim =
      let inv : Invariant L (s.nodes + 1) s.nodes s.pages s.blocks w = reached (s.nodes + 1) s.nodes s.pages s.blocks w sim.reached in
      let f = contents_fit s.nodes (Flies s m.cpu m.mover w) (λ c. InFlight s.nodes s.frames s.blocks w c) (λ x fl. fl.0.0) m.flight sim.flight in
      let a = at_most_keys s.nodes s.frames s.pages s.blocks w inv (map (content_of s.nodes) m.flight) f in
      subst (λ (n : ℕ). n ≤ key_count s.nodes s.frames s.blocks) (as_many s.nodes m.flight) a
