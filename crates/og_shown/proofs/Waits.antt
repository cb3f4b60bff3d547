-- Whoever waits, waits for a message in flight.
use Rattle.std.proofs.Common.{◌≡◌, ◌≢◌, ℕ, ◌+◌, ◌<◌, Bool, true, false, nat_eq, ◌&&◌, arith, ◌⊎◌, inl, inr, refl, sym, subst, Option, None, Some}
use Rattle.std.proofs.lemmas.Bool.{cases_Bool}
use Rattle.std.proofs.lemmas.Bool.Decides.{nat_tests}
use Rattle.og_block.specs.State.{Copy, Want, Ask, SpeculativeReply, PoisonReply, Response, NoResponse}
use Rattle.og_block.specs.Balance.{Balanced, Finds_ready, is_speculative, due}
use Rattle.og_block.specs.Invariant.{Fits_ask}
use Rattle.og_block.specs.Views.{is_shared, pending}
use Rattle.og_block.specs.Message.{Message as BlockMessage, Asked, Answered, Returned, Revised, Intervened, Invalidated, Stands as StandsInBlock, MayWait}
use Rattle.og_block.specs.Roles.{is_poisoning}
use Rattle.og_pages.specs.State.{Collect, Walk}
use Rattle.og_whole.specs.Events.{World}
use Rattle.og_whole.specs.Link.{Invariant}
use Rattle.og_whole.specs.Messages.{Message, OfBlock}
use Rattle.og_whole.proofs.Runs.{reached}
use Rattle.og_whole.proofs.Worlds.{blocks_ready, waiters_move, collect_moves}
use Rattle.og_relate.specs.Data.{Got, NoGot, GotShared, GotSpec, GotExclusive, GotUpgrade, GotNak, GotError, Request, Slot, MoverJob, MCollect, Machine, Harts, Setup}
use Rattle.og_relate.specs.Places.{AskAt, ResponseAt, WalkAt, Inside, block_place, content_of, place_of, Stands, stands_at, Has, kept, kept_ask, kept_response, kept_intervention, got_message, ask_of, is_walking, is_at}
use Rattle.og_relate.specs.Sim.{Sim, WalkShows, JobTidy}
use Rattle.og_relate.specs.Node.{Waits, outcome}
use Rattle.og_relate.proofs.Parts.{apart_number, self_number}
use Rattle.og_shown.specs.Waits.{IsPatient, IsInRange, HasMessage}
use Rattle.og_shown.proofs.Found.{has_post}

walks : (o : Option ℕ) (v : Walk) (y : ℕ) → WalkShows o v → o ≡ Some y → is_walking v ≡ true
walks None v y sh e = absurd (cc)
walks (Some x) v y sh e = grind arith

-- a reply that ends its request alone
abbrev is_final : {L : Type 0} → Got L → Bool
is_final (GotShared l) = true
is_final GotNak = true
is_final GotError = true
is_final g = false

module _ {L : Type 0} where
  final_ends : (w : Want) (g : Got L) (v : Response L) (a : ℕ) (c : Copy L) → outcome w g v a c ≡ Waits → Fits_ask w (ask_of g) v a → is_final g ≡ true → is_poisoning w ≡ false → ⊥
  final_ends w g v a c o fits final np = absurd (grind arith)

  -- a request of node q that keeps something of the block
  asks_for : (f k q : ℕ) (o : Option (Request L)) → (kept_ask f k q o ≢ None) ⊎ ((kept_response f k q o ≢ None) ⊎ (kept_intervention f k q o ≢ None)) → (r : Request L) × (o ≡ Some r) × (is_at f k r ≡ true)
  asks_for f k q None h = absurd (elim h [ inl a ↦ a refl | inr h ↦ elim h [ inl a ↦ a refl | inr a ↦ a refl ] ])
  asks_for f k q (Some r) h = elim (cases_Bool (is_at f k r)) [
    | inl t ↦ (r, refl, t)
    | inr t ↦ absurd (elim h [ inl a ↦ a (grind arith) | inr h ↦ elim h [ inl a ↦ a (grind arith) | inr a ↦ a (grind arith) ] ])
  ]

  -- a message that has a place of the block is one of the block
  of_block : (c : Message L) (f k : ℕ) (b : BlockMessage L) → place_of c ≡ block_place f k b → (d : BlockMessage L) × (c ≡ OfBlock f k d)
  of_block (OfBlock g j d) f k b e = let s = same g j d f k b e in (d, (let a = s.0 in let c = s.1 in cc))
    where
      same : (g j : ℕ) (d : BlockMessage L) (f k : ℕ) (b : BlockMessage L) → block_place g j d ≡ block_place f k b → (g ≡ f) × (j ≡ k)
      same g j d f k b e = (grind arith, grind arith)
  of_block c f k b e = absurd (grind arith)

  -- what stands is seen at its place
  seen : (n : ℕ) (w : World L) (f k : ℕ) (b : BlockMessage L) → StandsInBlock n (w.block f k) b → stands_at w (block_place f k b) ≡ true
  seen n w f k (Asked q a) st = let e = st.1 in let s = st.2 in cc
  seen n w f k (Answered q v) st = by ((w.block f k).response q) refl
    where
      by : (r : Response L) → (w.block f k).response q ≡ r → stands_at w (ResponseAt f k q) ≡ true
      by NoResponse e = absurd (st.2 (let a = st.1 in cc))
      by r e = grind arith
  seen n w f k (Returned q v) st = let e = st.1 in let ne = st.2 in grind arith
  seen n w f k (Revised v) st = let e = st.0 in let ne = st.1 in grind arith
  seen n w f k (Intervened q v) st = let e = st.1 in let ne = st.2 in grind arith
  seen n w f k (Invalidated q v) st = let e = st.1 in let ne = st.2 in grind arith

  inside : (s : Setup) (f k : ℕ) (w : World L) (b : BlockMessage L) → f < s.frames → k < s.blocks → StandsInBlock (s.nodes + 1) (w.block f k) b → Inside s (block_place f k b)
  inside s f k w (Asked q a) lf lk st = (lf, lk, st.0)
  inside s f k w (Answered q v) lf lk st = (lf, lk, st.0)
  inside s f k w (Returned q v) lf lk st = (lf, lk, st.0)
  inside s f k w (Revised v) lf lk st = (lf, lk)
  inside s f k w (Intervened q v) lf lk st = (lf, lk, st.0)
  inside s f k w (Invalidated q v) lf lk st = (lf, lk, st.0)

  -- the parts of a request that came, seen in the block, make something of it unless one is still to come
  parts_wait : (w : Want) (g : Got L) (v : Response L) (a : ℕ) (c : Copy L) → outcome w g v a c ≡ Waits → Fits_ask w (ask_of g) v a → g ≢ NoGot → (is_shared c ≡ true ⊎ ((d : ℕ) → g ≢ GotUpgrade d)) →
      ((l : L) (d : ℕ) → g ≡ GotExclusive l d → a ≢ d) × ((d : ℕ) → g ≡ GotUpgrade d → a ≢ d) × (((l : L) (d : ℕ) → g ≢ GotExclusive l d) → ((d : ℕ) → g ≢ GotUpgrade d) → v ≡ NoResponse)
  parts_wait w g v a c o fits ne sh = by w g v c o fits ne sh
    where
      Goal : Want → Got L → Response L → Copy L → Type 0
      Goal w g v c = ((l : L) (d : ℕ) → g ≡ GotExclusive l d → a ≢ d) × ((d : ℕ) → g ≡ GotUpgrade d → a ≢ d) × (((l : L) (d : ℕ) → g ≢ GotExclusive l d) → ((d : ℕ) → g ≢ GotUpgrade d) → v ≡ NoResponse)

      by : (w : Want) (g : Got L) (v : Response L) (c : Copy L) → outcome w g v a c ≡ Waits → Fits_ask w (ask_of g) v a → g ≢ NoGot → (is_shared c ≡ true ⊎ ((d : ℕ) → g ≢ GotUpgrade d)) → Goal w g v c
      by w NoGot v c o fits ne sh = absurd (ne refl)
      by w (GotExclusive l d) v c o fits ne sh = ((λ l2 d2 e same. absurd (let x : d ≡ d2 = grind arith in grind (arith, nat_tests))), (λ d2 e. absurd (cc)), (λ na nb. absurd (na l d refl)))
      by w (GotUpgrade d) v c o fits ne sh = ((λ l2 d2 e. absurd (cc)), (λ d2 e same. absurd (let x : d ≡ d2 = grind arith in elim sh [ inl y ↦ grind (arith, nat_tests) | inr y ↦ absurd (y d refl) ])), (λ na nb. absurd (nb d refl)))
      by w g v c o fits ne sh = ((λ l2 d2 e. absurd (grind arith)), (λ d2 e. absurd (grind arith)), (λ na nb. grind arith))

module _ {L : Type 0} {H : Type 0} where
  -- a message of the block that stands is kept, or in flight
  kept_or_flies : (s : Setup) (harts : Harts L H) (m : Machine L H) (w : World L) (f k : ℕ) (b : BlockMessage L) → Sim s harts m w → f < s.frames → k < s.blocks → StandsInBlock (s.nodes + 1) (w.block f k) b → (kept s.nodes m.cpu m.mover (block_place f k b) ≢ None) ⊎ HasMessage s m f k
  kept_or_flies s harts m w f k b sim lf lk st = elim (sim.found (block_place f k b) (inside s f k w b lf lk st) (seen (s.nodes + 1) w f k b st)) [
    | inl h ↦ inl h
    | inr h ↦ inr (let x = has_post s.nodes m.flight (block_place f k b) h in let d = of_block (content_of s.nodes x.0) f k b x.2 in (x.0, x.1, d.0, d.1))
  ]

  -- the reply, once it has come to a patient node, waits for acknowledgements or for the owner's response
  reply_waits : (s : Setup) (harts : Harts L H) (m : Machine L H) (w : World L) (f k q : ℕ) (r : Request L) → Sim s harts m w → IsPatient s m → q < s.nodes → f < s.frames → k < s.blocks → (m.cpu q).request ≡ Some r → is_at f k r ≡ true → r.got ≢ NoGot → (w.block f k).response q ≡ r.response →
      MayWait (w.block f k) (Asked q (ask_of r.got))
  reply_waits s harts m w f k q r sim patient lq lf lk rq at ng same = by r.got refl
    where
      lq1 : q < s.nodes + 1
      lq1 = omega arith

      ready : Finds_ready (s.nodes + 1) (w.block f k) q × Balanced (s.nodes + 1) (w.block f k) q
      ready = blocks_ready (s.nodes + 1) s.nodes s.pages s.blocks w sim.reached f k q lk lq1

      ww : (w.block f k).want q ≡ r.want
      ww = let a = (sim.nodes q lq).want f k in grind arith

      wa : (w.block f k).acks q ≡ r.acks
      wa = let a = (sim.nodes q lq).acks f k in grind arith

      o : outcome r.want r.got r.response r.acks ((m.cpu q).cache f k) ≡ Waits
      o = let a = patient.requests q r lq rq in let ef : r.frame ≡ f = grind (arith, nat_tests) in let ek : r.number ≡ k = grind (arith, nat_tests) in cc

      got_stands : (c : Message L) → got_message f k q r.got ≡ Some c → Stands s w c
      got_stands c e = let np = apart_number s.nodes q lq in let a : kept_ask f k q (m.cpu q).request ≡ Some c = grind arith in sim.keeps (AskAt f k q) c (cc)

      wask : (w.block f k).ask q ≡ ask_of r.got
      wask = by r.got refl
        where
          by : (g : Got L) → r.got ≡ g → (w.block f k).ask q ≡ ask_of g
          by NoGot e = absurd (ng e)
          by g e = (got_stands (OfBlock f k (Asked q (ask_of g))) (grind arith)).2.1

      fits : Fits_ask r.want (ask_of r.got) r.response r.acks
      fits = subst (λ (a : ℕ). Fits_ask r.want (ask_of r.got) r.response a) wa (subst (λ (v : Response L). Fits_ask r.want (ask_of r.got) v ((w.block f k).acks q)) same (subst (λ (a : Ask L). Fits_ask r.want a ((w.block f k).response q) ((w.block f k).acks q)) wask (subst (λ (x : Want). Fits_ask x ((w.block f k).ask q) ((w.block f k).response q) ((w.block f k).acks q)) ww ready.0.parts)))

      shared : (is_shared ((m.cpu q).cache f k) ≡ true) ⊎ ((d : ℕ) → r.got ≢ GotUpgrade d)
      shared = by r.got refl
        where
          by : (g : Got L) → r.got ≡ g → (is_shared ((m.cpu q).cache f k) ≡ true) ⊎ ((d : ℕ) → g ≢ GotUpgrade d)
          by (GotUpgrade d) e = inl (let a = ready.0.upgraded d (let b = wask in grind arith) in let c = (sim.nodes q lq).copy f k in cc)
          by g e = inr (λ d x. absurd (grind arith))

      counted : pending (s.nodes + 1) (w.block f k) q + r.acks ≡ due (ask_of r.got)
      counted = let a = ready.1.acknowledgements in let b = wa in let c = wask in cc

      parts : ((l : L) (d : ℕ) → r.got ≡ GotExclusive l d → r.acks ≢ d) × ((d : ℕ) → r.got ≡ GotUpgrade d → r.acks ≢ d) × (((l : L) (d : ℕ) → r.got ≢ GotExclusive l d) → ((d : ℕ) → r.got ≢ GotUpgrade d) → r.response ≡ NoResponse)
      parts = parts_wait r.want r.got r.response r.acks ((m.cpu q).cache f k) o fits ng shared

      below : (d a p : ℕ) → p + a ≡ d → a ≢ d → a < d
      below d a p e ne = omega arith

      plain : is_poisoning r.want ≡ false
      plain = let inv : Invariant L (s.nodes + 1) s.nodes s.pages s.blocks w = reached (s.nodes + 1) s.nodes s.pages s.blocks w sim.reached in let ne : q ≢ s.nodes = λ z. absurd (omega arith) in let a = (inv.link f k lk).parts.plain q lq1 ne in let b = ww in cc

      by : (g : Got L) → r.got ≡ g → MayWait (w.block f k) (Asked q (ask_of g))
      by NoGot e = absurd (ng e)
      by (GotExclusive l d) e = (let c : pending (s.nodes + 1) (w.block f k) q + r.acks ≡ d = (let a = counted in grind arith) in let b = below d r.acks (pending (s.nodes + 1) (w.block f k) q) c (parts.0 l d e) in subst (λ (a : ℕ). a < d) (sym wa) b)
      by (GotUpgrade d) e = (let c : pending (s.nodes + 1) (w.block f k) q + r.acks ≡ d = (let a = counted in grind arith) in let b = below d r.acks (pending (s.nodes + 1) (w.block f k) q) c (parts.1 d e) in subst (λ (a : ℕ). a < d) (sym wa) b)
      by (GotSpec l) e = (let n = parts.2 (λ l2 d2 x. absurd (cc)) (λ d2 x. absurd (cc)) in cc)
      by g e = absurd (final_ends r.want r.got r.response r.acks ((m.cpu q).cache f k) o fits (grind arith) plain)

  -- a message that stands, and doesn't only wait, is in flight, or another one of the block is
  moves_fly : (s : Setup) (harts : Harts L H) (m : Machine L H) (w : World L) (f k : ℕ) (b : BlockMessage L) → Sim s harts m w → IsPatient s m → f < s.frames → k < s.blocks → StandsInBlock (s.nodes + 1) (w.block f k) b → ¬ MayWait (w.block f k) b → HasMessage s m f k
  moves_fly s harts m w f k b sim patient lf lk st nm = elim (kept_or_flies s harts m w f k b sim lf lk st) [ inr h ↦ h | inl h ↦ by b st nm h ]
    where
      inv : Invariant L (s.nodes + 1) s.nodes s.pages s.blocks w
      inv = reached (s.nodes + 1) s.nodes s.pages s.blocks w sim.reached

      -- the response that stands is the request's own, or in flight
      response_same : (q : ℕ) (r : Request L) → q < s.nodes → (m.cpu q).request ≡ Some r → is_at f k r ≡ true → ((w.block f k).response q ≡ r.response) ⊎ HasMessage s m f k
      response_same q r lq rq at = by ((w.block f k).response q) refl
        where
          lq1 : q < s.nodes + 1
          lq1 = omega arith

          np : nat_eq q s.nodes ≡ false
          np = apart_number s.nodes q lq

          kept_same : (c : Option (Message L)) → kept s.nodes m.cpu m.mover (ResponseAt f k q) ≡ c → c ≢ None → (w.block f k).response q ≡ r.response
          kept_same None e ne = absurd (ne refl)
          kept_same (Some c) e ne = of_response r.response refl
            where
              of_response : (v : Response L) → r.response ≡ v → (w.block f k).response q ≡ v
              of_response NoResponse y = absurd (let n = np in let a : kept s.nodes m.cpu m.mover (ResponseAt f k q) ≡ None = grind arith in cc)
              of_response v y = let n = np in let a : kept s.nodes m.cpu m.mover (ResponseAt f k q) ≡ Some (OfBlock f k (Answered q v)) = grind arith in (sim.keeps (ResponseAt f k q) (OfBlock f k (Answered q v)) a).2.1

          none_received : r.response ≢ NoResponse → (w.block f k).response q ≡ r.response
          none_received ne = kept_same (kept s.nodes m.cpu m.mover (ResponseAt f k q)) refl (λ z. ne (let n = np in grind arith))

          by : (v : Response L) → (w.block f k).response q ≡ v → (v ≡ r.response) ⊎ HasMessage s m f k
          by NoResponse e = elim (some_or_none r.response) [ inl y ↦ inl (sym y) | inr y ↦ inl (let z = none_received y in cc) ]
            where
              some_or_none : (v : Response L) → (v ≡ NoResponse) ⊎ (v ≢ NoResponse)
              some_or_none NoResponse = inl refl
              some_or_none v = inr (λ z. absurd (grind arith))
          by v e = elim (kept_or_flies s harts m w f k (Answered q v) sim lf lk (lq1, e, λ z. absurd (grind arith))) [
            | inl h ↦ inl (let z = kept_same (kept s.nodes m.cpu m.mover (ResponseAt f k q)) refl h in cc)
            | inr h ↦ inr h
          ]

      node : (q : ℕ) → q < s.nodes + 1 → nat_eq q s.nodes ≡ false → q < s.nodes
      node q lq ne = let x : q ≢ s.nodes = grind (arith, nat_tests) in omega arith

      -- the reply of a request
      reply_is : (q : ℕ) (a : Ask L) (r : Request L) → nat_eq q s.nodes ≡ false → (w.block f k).ask q ≡ a → (m.cpu q).request ≡ Some r → is_at f k r ≡ true → r.got ≢ NoGot → ask_of r.got ≡ a
      reply_is q a r ne e rq at ng = by r.got refl
        where
          by : (g : Got L) → r.got ≡ g → ask_of g ≡ a
          by NoGot y = absurd (ng y)
          by g y = let z : kept s.nodes m.cpu m.mover (AskAt f k q) ≡ Some (OfBlock f k (Asked q (ask_of g))) = grind arith in let v = (sim.keeps (AskAt f k q) (OfBlock f k (Asked q (ask_of g))) z).2.1 in cc

      ask_kept : (q : ℕ) (a : Ask L) → q < s.nodes + 1 → nat_eq q s.nodes ≡ false → (w.block f k).ask q ≡ a → kept s.nodes m.cpu m.mover (AskAt f k q) ≢ None → MayWait (w.block f k) (Asked q a) ⊎ HasMessage s m f k
      ask_kept q a lq ne e h =
          let ln = node q lq ne in
          let fd = asks_for f k q (m.cpu q).request (inl (λ z. h (cc))) in
          let r : Request L = fd.0 in
          let rq = fd.1 in
          let at = fd.2 in
          let ng : r.got ≢ NoGot = (λ z. h (grind arith)) in
          elim (response_same q r ln rq at) [
            | inl same ↦ inl (let mw = reply_waits s harts m w f k q r sim patient ln lf lk rq at ng same in subst (λ (x : Ask L). MayWait (w.block f k) (Asked q x)) (reply_is q a r ne e rq at ng) mw)
            | inr y ↦ inr y
          ]

      -- the reply that the mover has
      collect_kept : (q : ℕ) (a : Ask L) → q ≡ s.nodes → (w.block f k).ask q ≡ a → kept s.nodes m.cpu m.mover (AskAt f k q) ≢ None → MayWait (w.block f k) (Asked q a)
      collect_kept q a e0 e h = by m.mover.job refl
        where
          nn : nat_eq q s.nodes ≡ true
          nn = let x = e0 in grind (arith, nat_tests)

          lm : s.nodes < s.nodes + 1
          lm = omega arith

          ready : Finds_ready (s.nodes + 1) (w.block f k) s.nodes × Balanced (s.nodes + 1) (w.block f k) s.nodes
          ready = blocks_ready (s.nodes + 1) s.nodes s.pages s.blocks w sim.reached f k s.nodes lk lm

          below : (d c p : ℕ) → p + c ≡ d → c ≢ d → c < d
          below d c p e ne = omega arith

          by : (j : MoverJob L) → m.mover.job ≡ j → MayWait (w.block f k) (Asked q a)
          by (MCollect y o n i (Some x) acks) je = elim (cases_Bool (nat_eq o f && nat_eq i k)) [
            | inl t ↦ (let e1 : o ≡ f = grind (arith, nat_tests) in let e2 : i ≡ k = grind (arith, nat_tests) in let n1 = nn in
                let z : kept s.nodes m.cpu m.mover (AskAt f k q) ≡ Some (OfBlock f k (Asked q (PoisonReply x.0 x.1))) = grind arith in
                let v : (w.block f k).ask q ≡ PoisonReply x.0 x.1 = (sim.keeps (AskAt f k q) (OfBlock f k (Asked q (PoisonReply x.0 x.1))) z).2.1 in
                let wa : (w.block f k).acks s.nodes ≡ acks = (let b = sim.mover.acks f k in grind arith) in
                let c : pending (s.nodes + 1) (w.block f k) s.nodes + acks ≡ x.1 = (let b = ready.1.acknowledgements in grind arith) in
                let lt : acks < x.1 = below x.1 acks (pending (s.nodes + 1) (w.block f k) s.nodes) c (patient.replies y o n i acks x je) in
                let av : a ≡ PoisonReply x.0 x.1 = cc in
                let wq : (w.block f k).acks q ≡ acks = cc in
                subst (λ (u : Ask L). MayWait (w.block f k) (Asked q u)) (sym av) (subst (λ (u : ℕ). u < x.1) (sym wq) lt))
            | inr t ↦ absurd (h (let n1 = nn in grind arith))
          ]
          by j je = absurd (h (let n1 = nn in grind (arith, nat_tests)))

      by : (b : BlockMessage L) → StandsInBlock (s.nodes + 1) (w.block f k) b → ¬ MayWait (w.block f k) b → kept s.nodes m.cpu m.mover (block_place f k b) ≢ None → HasMessage s m f k
      by (Asked q a) st nm h = elim (cases_Bool (nat_eq q s.nodes)) [
        | inl t ↦ absurd (nm (collect_kept q a (grind (arith, nat_tests)) st.1 h))
        | inr t ↦ elim (ask_kept q a st.0 t st.1 h) [ inl mw ↦ absurd (nm mw) | inr y ↦ y ]
      ]
      by (Answered q v) st nm h = elim (cases_Bool (nat_eq q s.nodes)) [
        | inl t ↦ absurd (h (cc))
        | inr t ↦ (let sp = (blocks_ready (s.nodes + 1) s.nodes s.pages s.blocks w sim.reached f k q lk st.0).0.response (λ z. st.2 (let a = st.1 in cc)) in spec q v st t ((w.block f k).ask q) refl sp)
      ]
        where
          spec : (q : ℕ) (v : Response L) → StandsInBlock (s.nodes + 1) (w.block f k) (Answered q v) → nat_eq q s.nodes ≡ false → (a : Ask L) → (w.block f k).ask q ≡ a → is_speculative a ≡ true → HasMessage s m f k
          spec q v st t (SpeculativeReply l) e sp = elim (kept_or_flies s harts m w f k (Asked q (SpeculativeReply l)) sim lf lk (st.0, e, refl)) [
            | inr y ↦ y
            | inl h ↦ elim (ask_kept q (SpeculativeReply l) st.0 t e h) [ inl none ↦ absurd (st.2 (let a = st.1 in cc)) | inr y ↦ y ]
          ]
          spec q v st t a e sp = absurd (grind arith)
      by (Intervened q i) st nm h = elim (cases_Bool (nat_eq q s.nodes)) [
        | inl t ↦ absurd (h (cc))
        | inr t ↦ absurd (nm (λ idle. (let ln = node q st.0 t in
            let fd = asks_for f k q (m.cpu q).request (inr (inr (λ z. h (cc)))) in
            let rq = fd.1 in
            let at = fd.2 in
            let pr = (sim.nodes q ln).request in
            let wi = (inv.link f k lk).want_is q st.0 (λ z. absurd (grind (arith, nat_tests))) in
            absurd (grind (arith, nat_tests)))))
      ]
      by (Returned q v) st nm h = absurd (h refl)
      by (Revised v) st nm h = absurd (h refl)
      by (Invalidated q v) st nm h = absurd (h refl)

  -- ---- who waits

  pub request_waits : (s : Setup) (harts : Harts L H) (m : Machine L H) (w : World L) (p : ℕ) (r : Request L) → Sim s harts m w → IsPatient s m → IsInRange s m → p < s.nodes → (m.cpu p).request ≡ Some r → HasMessage s m r.frame r.number
  request_waits s harts m w p r sim patient range lp rq =
      let b = range.requests p r lp rq in
      let lp1 : p < s.nodes + 1 = omega arith in
      let inv : Invariant L (s.nodes + 1) s.nodes s.pages s.blocks w = reached (s.nodes + 1) s.nodes s.pages s.blocks w sim.reached in
      let pr = (sim.nodes p lp).request in
      let ff = self_number r.frame in
      let kk = self_number r.number in
      let ne : p ≢ s.nodes = λ z. absurd (omega arith) in
      let wi = (inv.link r.frame r.number b.1).want_is p lp1 ne in
      let sm = (waiters_move (s.nodes + 1) s.nodes s.pages s.blocks w sim.reached r.frame r.number p b.1 lp1).request (λ idle. absurd (grind arith)) in
      moves_fly s harts m w r.frame r.number sm.message sim patient b.0 b.1 sm.stands sm.moves

  pub slot_waits : (s : Setup) (harts : Harts L H) (m : Machine L H) (w : World L) (p : ℕ) (v : Slot) → Sim s harts m w → IsPatient s m → IsInRange s m → p < s.nodes → (m.cpu p).slot ≡ Some v → HasMessage s m v.frame v.number
  slot_waits s harts m w p v sim patient range lp sl =
      let b = range.slots p v lp sl in
      let lp1 : p < s.nodes + 1 = omega arith in
      let vi = (sim.nodes p lp).victim v.frame v.number in
      let ff = self_number v.frame in
      let kk = self_number v.number in
      let sm = (waiters_move (s.nodes + 1) s.nodes s.pages s.blocks w sim.reached v.frame v.number p b.1 lp1).victim (λ free. absurd (grind arith)) in
      moves_fly s harts m w v.frame v.number sm.message sim patient b.0 b.1 sm.stands sm.moves

  pub walk_waits : (s : Setup) (harts : Harts L H) (m : Machine L H) (w : World L) (p y : ℕ) → Sim s harts m w → p < s.nodes → (m.cpu p).walk ≡ Some y → Has s.nodes m.flight (WalkAt p)
  walk_waits s harts m w p y sim lp wk = elim (sim.found (WalkAt p) lp (walks (m.cpu p).walk (w.pages.walk p) y (sim.nodes p lp).walk wk)) [ inl h ↦ absurd (h refl) | inr h ↦ h ]

  pub collect_waits : (s : Setup) (harts : Harts L H) (m : Machine L H) (w : World L) (y o n k acks : ℕ) (reply : Option (L × ℕ)) → Sim s harts m w → IsPatient s m → m.mover.job ≡ MCollect y o n k reply acks → HasMessage s m o k
  collect_waits s harts m w y o n k acks reply sim patient jb =
      let gj : w.pages.job ≡ Collect y o n k = (let a = sim.mover.job in grind arith) in
      let c = collect_moves (s.nodes + 1) s.nodes s.pages s.blocks w sim.reached y o n k gj in
      let bd = subst (λ u. JobTidy s u) jb sim.bounds.job in
      moves_fly s harts m w o k c.1.message sim patient bd.1 c.0 c.1.stands c.1.moves
