-- The line of a block, where the machine has it.
use Rattle.std.proofs.Common.{◌≡◌, ℕ, ◌+◌, ◌<◌, true, false, nat_eq, nat_lt, arith, ◌⊎◌, inl, inr, refl, subst, Option, None, Some}
use Rattle.std.proofs.lemmas.Bool.{cases_Bool}
use Rattle.std.proofs.lemmas.Bool.Decides.{nat_tests}
use Rattle.og_block.specs.State.{Back, WriteBack, Response, ExclusiveResponse, Revision, SharingWriteBack, PoisonBack, Free, Want, Ask, Intervention}
use Rattle.og_block.specs.Rows.{is_dirty}
use Rattle.og_block.specs.Held.{Held, is_exclusive_response, has_line}
use Rattle.og_block.specs.Invariant.{Fits_back, Fits_ask}
use Rattle.og_block.specs.Message.{Answered, Returned, Revised}
use Rattle.og_block.specs.Roles.{is_mover_want}
use Rattle.og_block.specs.Views.{is_write_back}
use Rattle.og_pages.specs.Invariant.{place}
use Rattle.og_whole.specs.Events.{World}
use Rattle.og_whole.specs.Link.{Invariant}
use Rattle.og_whole.specs.Messages.{Message, OfBlock}
use Rattle.og_whole.proofs.Runs.{reached}
use Rattle.og_whole.proofs.Safe.{lines_held}
use Rattle.og_relate.specs.Data.{Kind, KWriteBack, KExclusiveResponse, KSharingWriteBack, KPoisonBack, Post, Request, Machine, Harts, Setup}
use Rattle.og_relate.specs.Places.{Place, BackAt, ResponseAt, RevisionAt, Inside, content_of, slot_of, Stands, stands_at, kept, kept_response, response_message, Flies, is_at, place_of as post_place}
use Rattle.og_relate.specs.Sim.{Sim}
use Rattle.og_relate.proofs.Messages.{kept_place}
use Rattle.og_relate.proofs.Parts.{apart_number}
use Rattle.og_shown.specs.Shown.{is_block, line_if, carried, Among, line_given, received, place_of, LineIs}
use Rattle.og_shown.proofs.Found.{has_post, fits_among, back_is, response_is, revision_is, back_carries, response_carries, sharing_carries, poison_carries}

module _ {L : Type 0} where
  no_back : (b : Back L) (i : Intervention) → Fits_back Free b i → is_write_back b ≡ false
  no_back b i f = grind arith

  no_response : (w : Want) (a : Ask L) (r : Response L) (k : ℕ) → Fits_ask w a r k → is_mover_want w ≡ true → is_exclusive_response r ≡ false
  no_response w a r k f m = grind arith

  -- what a message in flight brings stands in the block
  brings : (n f k : ℕ) (x : Post L) (l : L) → carried f k x.kind ≡ Some l →
      ((q : ℕ) × (content_of n x ≡ OfBlock f k (Returned q (WriteBack l)))) ⊎ (((q : ℕ) × (content_of n x ≡ OfBlock f k (Answered q (ExclusiveResponse l)))) ⊎ (((o : ℕ) × (content_of n x ≡ OfBlock f k (Revised (SharingWriteBack o l)))) ⊎ ((o : ℕ) × (content_of n x ≡ OfBlock f k (Revised (PoisonBack o l))))))
  brings n f k x l c = by x.kind refl c
    where
      is_here : (g j : ℕ) → (line : L) → line_if (is_block f k g j) line ≡ Some l → (g ≡ f) × (j ≡ k) × (line ≡ l)
      is_here g j line e = elim (cases_Bool (is_block f k g j)) [ inl t ↦ (grind (arith, nat_tests), grind (arith, nat_tests), (let a : Some line ≡ Some l = cc in cc)) | inr t ↦ absurd (let a : None ≡ Some l = cc in cc) ]

      by : (kind : Kind L) → x.kind ≡ kind → carried f k kind ≡ Some l →
          ((q : ℕ) × (content_of n x ≡ OfBlock f k (Returned q (WriteBack l)))) ⊎ (((q : ℕ) × (content_of n x ≡ OfBlock f k (Answered q (ExclusiveResponse l)))) ⊎ (((o : ℕ) × (content_of n x ≡ OfBlock f k (Revised (SharingWriteBack o l)))) ⊎ ((o : ℕ) × (content_of n x ≡ OfBlock f k (Revised (PoisonBack o l))))))
      by (KWriteBack g j line) e c = let h = is_here g j line c in let e1 = h.0 in let e2 = h.1 in let e3 = h.2 in inl (x.from, cc)
      by (KExclusiveResponse g j line) e c = let h = is_here g j line c in let e1 = h.0 in let e2 = h.1 in let e3 = h.2 in inr (inl (x.to, cc))
      by (KSharingWriteBack g j line) e c = let h = is_here g j line c in let e1 = h.0 in let e2 = h.1 in let e3 = h.2 in inr (inr (inl (x.from, cc)))
      by (KPoisonBack g j line) e c = let h = is_here g j line c in let e1 = h.0 in let e2 = h.1 in let e3 = h.2 in inr (inr (inr (x.from, cc)))
      by kind e c = absurd (cc)

module _ {L : Type 0} {H : Type 0} where
  -- the page table's place is the world's
  pub same_place : (s : Setup) (harts : Harts L H) (m : Machine L H) (w : World L) (page k : ℕ) → Sim s harts m w → page < s.pages → place w.pages.job (w.pages.page_table page) page k ≡ place_of m page k
  same_place s harts m w page k sim lp = let a = sim.mover.job in let b = sim.mover.page_table page lp in cc

  -- a response that a request has received stands
  received_stands : (s : Setup) (harts : Harts L H) (m : Machine L H) (w : World L) (f k p : ℕ) (l : L) → Sim s harts m w → p < s.nodes → received f k (m.cpu p).request ≡ Some l → Stands s w (OfBlock f k (Answered p (ExclusiveResponse l)))
  received_stands s harts m w f k p l sim lp r = by (m.cpu p).request refl r
    where
      np : nat_eq p s.nodes ≡ false
      np = apart_number s.nodes p lp

      by : (o : Option (Request L)) → (m.cpu p).request ≡ o → received f k o ≡ Some l → Stands s w (OfBlock f k (Answered p (ExclusiveResponse l)))
      by None e r = absurd (cc)
      by (Some q) e r = elim (cases_Bool (is_at f k q)) [
        | inl t ↦ (let v : line_given q.response ≡ Some l = cc in let x : q.response ≡ ExclusiveResponse l = grind arith in let n = np in let c : kept s.nodes m.cpu m.mover (ResponseAt f k p) ≡ Some (OfBlock f k (Answered p (ExclusiveResponse l))) = grind arith in sim.keeps (ResponseAt f k p) (OfBlock f k (Answered p (ExclusiveResponse l))) c)
        | inr t ↦ absurd (let v : None ≡ Some l = cc in cc)
      ]

  pub line_is : (s : Setup) (harts : Harts L H) (m : Machine L H) (w : World L) (f k : ℕ) (v : L) → Sim s harts m w → f < s.frames → k < s.blocks → Held (s.nodes + 1) v (w.block f k) → LineIs s m f k v
  line_is s harts m w f k v sim lf lk held = record {
    in_cache = λ p l lp e. held.dirty p l (omega arith) (let a = (sim.nodes p lp).copy f k in cc);
    on_its_way = λ x l a c. (let st : Stands s w (content_of s.nodes x) = (fits_among s.nodes (Flies s m.cpu m.mover w) m.flight x sim.flight a).0.0 in elim (brings s.nodes f k x l c) [
      | inl h ↦ (let t : Stands s w (OfBlock f k (Returned h.0 (WriteBack l))) = subst (λ (c : Message L). Stands s w c) h.1 st in held.back h.0 l t.2.0 t.2.1)
      | inr h ↦ elim h [
        | inl h ↦ (let t : Stands s w (OfBlock f k (Answered h.0 (ExclusiveResponse l))) = subst (λ (c : Message L). Stands s w c) h.1 st in held.response h.0 l t.2.0 t.2.1)
        | inr h ↦ elim h [
          | inl h ↦ (let t : Stands s w (OfBlock f k (Revised (SharingWriteBack h.0 l))) = subst (λ (c : Message L). Stands s w c) h.1 st in held.sharing h.0 l t.2.0)
          | inr h ↦ (let t : Stands s w (OfBlock f k (Revised (PoisonBack h.0 l))) = subst (λ (c : Message L). Stands s w c) h.1 st in held.poison h.0 l t.2.0)
        ]
      ]
    ]);
    arrived = λ p l lp r. (let t = received_stands s harts m w f k p l sim lp r in held.response p l t.2.0 t.2.1);
    at_home = λ clean none nothing. (let h = (sim.homes f k lf lk).line in let e = held.home (λ q lq. at q lq clean none nothing) (revision none) in cc);
  }
    where
      inv : Invariant L (s.nodes + 1) s.nodes s.pages s.blocks w
      inv = reached (s.nodes + 1) s.nodes s.pages s.blocks w sim.reached

      lm : s.nodes < s.nodes + 1
      lm = omega arith

      -- what stands in a place where nothing is kept is in flight
      flies : (p : Place) → Inside s p → stands_at w p ≡ true → kept s.nodes m.cpu m.mover p ≡ None → (x : Post L) × Among x m.flight × (slot_of s.nodes x ≡ p) × Stands s w (content_of s.nodes x)
      flies p i st none = elim (sim.found p i st) [
        | inl k ↦ absurd (k none)
        | inr h ↦ (let y = has_post s.nodes m.flight p h in (y.0, y.1, y.2, (fits_among s.nodes (Flies s m.cpu m.mover w) m.flight y.0 sim.flight y.1).0.0))
      ]

      Clean : Type 0
      Clean = (p : ℕ) → p < s.nodes → is_dirty ((m.cpu p).cache f k) ≡ false

      None_carried : Type 0
      None_carried = (x : Post L) → Among x m.flight → carried f k x.kind ≡ None

      Nothing_received : Type 0
      Nothing_received = (p : ℕ) → p < s.nodes → received f k (m.cpu p).request ≡ None

      back : (q : ℕ) → q < s.nodes + 1 → None_carried → is_write_back ((w.block f k).back q) ≡ false
      back q lq none = by ((w.block f k).back q) refl
        where
          by : (b : Back L) → (w.block f k).back q ≡ b → is_write_back b ≡ false
          by (WriteBack l) e =
              let x = flies (BackAt f k q) (lf, lk, lq) (let a = e in grind arith) refl in
              let c : content_of s.nodes x.0 ≡ OfBlock f k (Returned q (WriteBack l)) = back_is s w (content_of s.nodes x.0) f k q (WriteBack l) x.3 x.2 e in
              absurd (let a = back_carries s.nodes f k q x.0 l c in let b = none x.0 x.1 in cc)
          by b e = grind arith

      revision : None_carried → has_line (w.block f k).revision ≡ false
      revision none = by (w.block f k).revision refl
        where
          by : (b : Revision L) → (w.block f k).revision ≡ b → has_line b ≡ false
          by (SharingWriteBack o l) e =
              let x = flies (RevisionAt f k) (lf, lk) (let a = e in grind arith) refl in
              let c : content_of s.nodes x.0 ≡ OfBlock f k (Revised (SharingWriteBack o l)) = revision_is s w (content_of s.nodes x.0) f k (SharingWriteBack o l) x.3 x.2 e in
              absurd (let a = sharing_carries s.nodes f k o x.0 l c in let b = none x.0 x.1 in cc)
          by (PoisonBack o l) e =
              let x = flies (RevisionAt f k) (lf, lk) (let a = e in grind arith) refl in
              let c : content_of s.nodes x.0 ≡ OfBlock f k (Revised (PoisonBack o l)) = revision_is s w (content_of s.nodes x.0) f k (PoisonBack o l) x.3 x.2 e in
              absurd (let a = poison_carries s.nodes f k o x.0 l c in let b = none x.0 x.1 in cc)
          by b e = grind arith

      -- a response that isn't received is in flight
      response : (q : ℕ) → q < s.nodes → None_carried → Nothing_received → is_exclusive_response ((w.block f k).response q) ≡ false
      response q lq none nothing = by ((w.block f k).response q) refl
        where
          np : nat_eq q s.nodes ≡ false
          np = apart_number s.nodes q lq

          lq1 : q < s.nodes + 1
          lq1 = omega arith

          by : (b : Response L) → (w.block f k).response q ≡ b → is_exclusive_response b ≡ false
          by (ExclusiveResponse l) e = elim (sim.found (ResponseAt f k q) (lf, lk, lq1) (let a = e in grind arith)) [
            | inl h ↦ absurd (h (let r = nothing q lq in let n = np in kept_none (kept s.nodes m.cpu m.mover (ResponseAt f k q)) refl))
            | inr h ↦ (let y = has_post s.nodes m.flight (ResponseAt f k q) h in
                let st = (fits_among s.nodes (Flies s m.cpu m.mover w) m.flight y.0 sim.flight y.1).0.0 in
                let c : content_of s.nodes y.0 ≡ OfBlock f k (Answered q (ExclusiveResponse l)) = response_is s w (content_of s.nodes y.0) f k q (ExclusiveResponse l) st y.2 e in
                absurd (let a = response_carries s.nodes f k q y.0 l c in let b = none y.0 y.1 in cc))
          ]
            where
              was_received : (o : Option (Request L)) → kept_response f k q o ≡ Some (OfBlock f k (Answered q (ExclusiveResponse l))) → received f k o ≡ None → ⊥
              was_received None a r = absurd (cc)
              was_received (Some t) a r = elim (cases_Bool (is_at f k t)) [ inl z ↦ (let a2 : response_message f k q t.response ≡ Some (OfBlock f k (Answered q (ExclusiveResponse l))) = cc in let r2 : line_given t.response ≡ None = cc in absurd (grind arith)) | inr z ↦ absurd (let a2 : None ≡ Some (OfBlock f k (Answered q (ExclusiveResponse l))) = cc in cc) ]

              -- a kept response is the one that stands, and so it was received
              kept_none : (o : Option (Message L)) → kept s.nodes m.cpu m.mover (ResponseAt f k q) ≡ o → o ≡ None
              kept_none None u = refl
              kept_none (Some c) u =
                  let st = sim.keeps (ResponseAt f k q) c u in
                  let pl : post_place c ≡ ResponseAt f k q = kept_place s.nodes m.cpu m.mover (ResponseAt f k q) c u in
                  let ci : c ≡ OfBlock f k (Answered q (ExclusiveResponse l)) = response_is s w c f k q (ExclusiveResponse l) st pl e in
                  absurd (let r = nothing q lq in let n = np in was_received (m.cpu q).request (cc) r)
          by b e = grind arith

      at : (q : ℕ) → q < s.nodes + 1 → Clean → None_carried → Nothing_received → (is_dirty ((w.block f k).copy q) ≡ false) × (is_write_back ((w.block f k).back q) ≡ false) × (is_exclusive_response ((w.block f k).response q) ≡ false)
      at q lq clean none nothing = elim (cases_Bool (nat_lt q s.nodes)) [
        | inl t ↦ (let ln : q < s.nodes = grind (arith, nat_tests) in ((let a = (sim.nodes q ln).copy f k in let b = clean q ln in cc), back q lq none, response q ln none nothing))
        | inr t ↦ (let same : q ≡ s.nodes = grind (arith, nat_tests) in
            let l = inv.link f k lk in
            ((let a = l.parts.mover.0 in grind arith), back q lq none, (let a = l.parts.mover.4 in let b = (l.invariant.each s.nodes lm).asks in let c = no_response ((w.block f k).want s.nodes) ((w.block f k).ask s.nodes) ((w.block f k).response s.nodes) ((w.block f k).acks s.nodes) b a in cc)))
      ]

  pub lines_are_held : (s : Setup) (harts : Harts L H) (m : Machine L H) (w : World L) (page k : ℕ) → Sim s harts m w → page < s.pages → k < s.blocks → place_of m page k < s.frames → LineIs s m (place_of m page k) k (w.pages.memory page k)
  lines_are_held s harts m w page k sim lp lk lf =
      let inv : Invariant L (s.nodes + 1) s.nodes s.pages s.blocks w = reached (s.nodes + 1) s.nodes s.pages s.blocks w sim.reached in
      let h = lines_held (s.nodes + 1) s.nodes s.pages s.blocks w sim.reached.inside inv page k lp lk in
      line_is s harts m w (place_of m page k) k (w.pages.memory page k) sim lf lk (subst (λ (f : ℕ). Held (s.nodes + 1) (w.pages.memory page k) (w.block f k)) (same_place s harts m w page k sim lp) h)
