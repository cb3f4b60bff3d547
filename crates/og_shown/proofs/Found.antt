-- What stands in a world is found in the machine that shows it, and the other way round.
use Rattle.std.proofs.Common.{◌≡◌, ℕ, arith, inl, inr, refl, subst, List, [], ◌∷◌, Some}
use Rattle.std.proofs.lemmas.Bool.Decides.{nat_tests}
use Rattle.og_slots.specs.Flight.{Fits}
use Rattle.og_block.specs.State.{Back, WriteBack, Response, ExclusiveResponse, Revision, SharingWriteBack, PoisonBack}
use Rattle.og_block.specs.Message.{Answered, Returned, Revised}
use Rattle.og_whole.specs.Events.{World}
use Rattle.og_whole.specs.Messages.{Message, OfBlock}
use Rattle.og_relate.specs.Data.{Kind, KWriteBack, KExclusiveResponse, KSharingWriteBack, KPoisonBack, Post, Setup}
use Rattle.og_relate.specs.Places.{Place, BackAt, ResponseAt, RevisionAt, place_of, content_by, content_of, slot_of, Stands, Has}
use Rattle.og_shown.specs.Shown.{Among, carried}

module _ {L : Type 0} where
  -- a message that has the place
  pub has_post : (n : ℕ) (ms : List (Post L)) (p : Place) → Has n ms p → (x : Post L) × Among x ms × (slot_of n x ≡ p)
  has_post n [] p h = absurd h
  has_post n (m ∷ ms) p h = elim h [ inl e ↦ (m, inl refl, e) | inr r ↦ (let y = has_post n ms p r in (y.0, inr y.1, y.2)) ]

  -- each of the messages has what all have
  pub fits_among : (n : ℕ) (P : Post L → Type 0) (ms : List (Post L)) (x : Post L) → Fits (slot_of n) P ms → Among x ms → P x
  fits_among n P [] x f a = absurd a
  fits_among n P (m ∷ ms) x f a = elim a [ inl e ↦ subst (λ (y : Post L). P y) e f.0 | inr r ↦ fits_among n P ms x f.2 r ]

  -- ---- which message stands in a place

  back_kind : (n from to f k q : ℕ) (kind : Kind L) (l : L) → content_by n from to kind ≡ OfBlock f k (Returned q (WriteBack l)) → kind ≡ KWriteBack f k l
  back_kind n from to f k q kind l e = grind arith

  response_kind : (n from to f k q : ℕ) (kind : Kind L) (l : L) → content_by n from to kind ≡ OfBlock f k (Answered q (ExclusiveResponse l)) → kind ≡ KExclusiveResponse f k l
  response_kind n from to f k q kind l e = grind arith

  sharing_kind : (n from to f k o : ℕ) (kind : Kind L) (l : L) → content_by n from to kind ≡ OfBlock f k (Revised (SharingWriteBack o l)) → kind ≡ KSharingWriteBack f k l
  sharing_kind n from to f k o kind l e = grind arith

  poison_kind : (n from to f k o : ℕ) (kind : Kind L) (l : L) → content_by n from to kind ≡ OfBlock f k (Revised (PoisonBack o l)) → kind ≡ KPoisonBack f k l
  poison_kind n from to f k o kind l e = grind arith

  -- two messages that stand in one place are one
  pub back_is : (s : Setup) (w : World L) (c : Message L) (f k q : ℕ) (b : Back L) → Stands s w c → place_of c ≡ BackAt f k q → (w.block f k).back q ≡ b → c ≡ OfBlock f k (Returned q b)
  back_is s w (OfBlock g j (Returned r x)) f k q b st e v = let e1 : g ≡ f = grind arith in let e2 : j ≡ k = grind arith in let e3 : r ≡ q = grind arith in let y = st.2.1 in cc
  back_is s w c f k q b st e v = absurd (grind arith)

  pub response_is : (s : Setup) (w : World L) (c : Message L) (f k q : ℕ) (b : Response L) → Stands s w c → place_of c ≡ ResponseAt f k q → (w.block f k).response q ≡ b → c ≡ OfBlock f k (Answered q b)
  response_is s w (OfBlock g j (Answered r x)) f k q b st e v = let e1 : g ≡ f = grind arith in let e2 : j ≡ k = grind arith in let e3 : r ≡ q = grind arith in let y = st.2.1 in cc
  response_is s w c f k q b st e v = absurd (grind arith)

  pub revision_is : (s : Setup) (w : World L) (c : Message L) (f k : ℕ) (b : Revision L) → Stands s w c → place_of c ≡ RevisionAt f k → (w.block f k).revision ≡ b → c ≡ OfBlock f k (Revised b)
  revision_is s w (OfBlock g j (Revised x)) f k b st e v = let e1 : g ≡ f = grind arith in let e2 : j ≡ k = grind arith in let y = st.2.0 in cc
  revision_is s w c f k b st e v = absurd (grind arith)

  pub back_carries : (n f k q : ℕ) (x : Post L) (l : L) → content_of n x ≡ OfBlock f k (Returned q (WriteBack l)) → carried f k x.kind ≡ Some l
  back_carries n f k q x l e = let a = back_kind n x.from x.to f k q x.kind l e in grind (arith, nat_tests)

  pub response_carries : (n f k q : ℕ) (x : Post L) (l : L) → content_of n x ≡ OfBlock f k (Answered q (ExclusiveResponse l)) → carried f k x.kind ≡ Some l
  response_carries n f k q x l e = let a = response_kind n x.from x.to f k q x.kind l e in grind (arith, nat_tests)

  pub sharing_carries : (n f k o : ℕ) (x : Post L) (l : L) → content_of n x ≡ OfBlock f k (Revised (SharingWriteBack o l)) → carried f k x.kind ≡ Some l
  sharing_carries n f k o x l e = let a = sharing_kind n x.from x.to f k o x.kind l e in grind (arith, nat_tests)

  pub poison_carries : (n f k o : ℕ) (x : Post L) (l : L) → content_of n x ≡ OfBlock f k (Revised (PoisonBack o l)) → carried f k x.kind ≡ Some l
  poison_carries n f k o x l e = let a = poison_kind n x.from x.to f k o x.kind l e in grind (arith, nat_tests)
