-- A part that comes and doesn't complete its request; an intervention and a drop that are held.
use Rattle.std.proofs.Common.{◌≡◌, ℕ, ◌<◌, true, false, nat_eq, arith, ◌⊎◌, inl, inr, refl, sym, subst, List, ◌∷◌, None, Some}
use Rattle.std.proofs.lemmas.Bool.{cases_Bool}
use Rattle.std.proofs.lemmas.Bool.Decides.{nat_tests}
use Rattle.og_block.specs.State.{put, Response, Intervention, NoIntervention}
use Rattle.og_whole.specs.Events.{World}
use Rattle.og_relate.specs.Data.{Post, Setup, Request, Got, Cpu, Mover, HomeSide, Harts}
use Rattle.og_relate.specs.Places.{Place, AskAt, ResponseAt, InterventionAt, DropAt, content_of, slot_of, Placed, kept, is_at, got_message, response_message, held_message, kept_ask, kept_response, kept_intervention, kept_drop}
use Rattle.og_relate.specs.Sim.{AskerTidy, HeldTidy, Sim, NodeShows}
use Rattle.og_relate.specs.Node.{with_request, receive_got, receive_response, hold, hold_drop}
use Rattle.og_relate.proofs.Stutter.{receive, release}
use Rattle.og_relate.proofs.Messages.{got_place, response_place, held_place, drop_place}

pub apart_number : (n p : ℕ) → p < n → nat_eq p n ≡ false
apart_number n p lt = grind (arith, nat_tests)

pub self_number : (p : ℕ) → nat_eq p p ≡ true
self_number p = grind (arith, nat_tests)

module _ {L : Type 0} {H : Type 0} where
  -- the request with other parts shows the same columns
  pub parts_show : (harts : Harts L H) (q : ℕ) (c : Cpu L H) (r t : Request L) (w : World L) → c.request ≡ Some r → t.frame ≡ r.frame → t.number ≡ r.number → t.want ≡ r.want → t.acks ≡ r.acks → NodeShows harts q c w → NodeShows harts q (with_request c t) w
  parts_show harts q c r t w e a b d g x = record {
    copy = x.copy;
    want = λ f k. (let y = x.want f k in grind (arith, nat_tests));
    acks = λ f k. (let y = x.acks f k in grind (arith, nat_tests));
    victim = x.victim;
    request = (let y = x.request in grind arith);
    slot = x.slot;
    tlb = x.tlb;
    walk = x.walk;
  }

  -- what is kept of a node with other parts, place by place
  pub parts_kept : (n : ℕ) (cpu : ℕ → Cpu L H) (mover : Mover L) (p : ℕ) (c : Cpu L H) (x : Place) →
      c.drop ≡ (cpu p).drop →
      ((f k : ℕ) → (kept_ask f k p c.request ≡ kept_ask f k p (cpu p).request) ⊎ (AskAt f k p ≡ x)) →
      ((f k : ℕ) → (kept_response f k p c.request ≡ kept_response f k p (cpu p).request) ⊎ (ResponseAt f k p ≡ x)) →
      ((f k : ℕ) → (kept_intervention f k p c.request ≡ kept_intervention f k p (cpu p).request) ⊎ (InterventionAt f k p ≡ x)) →
      (q : Place) → (kept n (put cpu p c) mover q ≡ kept n cpu mover q) ⊎ (q ≡ x)
  parts_kept n cpu mover p c x d ha hr hi (AskAt f k q) = elim (cases_Bool (nat_eq q p)) [ inl t ↦ (let e : q ≡ p = grind (arith, nat_tests) in elim (ha f k) [ inl y ↦ inl (cc) | inr y ↦ inr (cc) ]) | inr t ↦ inl (cc) ]
  parts_kept n cpu mover p c x d ha hr hi (ResponseAt f k q) = elim (cases_Bool (nat_eq q p)) [ inl t ↦ (let e : q ≡ p = grind (arith, nat_tests) in elim (hr f k) [ inl y ↦ inl (cc) | inr y ↦ inr (cc) ]) | inr t ↦ inl (cc) ]
  parts_kept n cpu mover p c x d ha hr hi (InterventionAt f k q) = elim (cases_Bool (nat_eq q p)) [ inl t ↦ (let e : q ≡ p = grind (arith, nat_tests) in elim (hi f k) [ inl y ↦ inl (cc) | inr y ↦ inr (cc) ]) | inr t ↦ inl (cc) ]
  parts_kept n cpu mover p c x d ha hr hi (DropAt q) = elim (cases_Bool (nat_eq q p)) [ inl t ↦ (let e : q ≡ p = grind (arith, nat_tests) in inl (cc)) | inr t ↦ inl (cc) ]
  parts_kept n cpu mover p c x d ha hr hi q = inl refl

  -- a reply that waits for acknowledgements, or for the owner's answer
  pub got_received : (s : Setup) (harts : Harts L H) (cpu : ℕ → Cpu L H) (home : ℕ → HomeSide L) (mover : Mover L) (w : World L) (x : Post L) (ms : List (Post L)) (p f k : ℕ) (r : Request L) (g : Got L) →
      Sim s harts (record { cpu = cpu; home = home; mover = mover; flight = x ∷ ms }) w → p < s.nodes → (cpu p).request ≡ Some r → is_at f k r ≡ true → got_message f k p g ≡ Some (content_of s.nodes x) →
      Sim s harts (record { cpu = put cpu p (receive_got (cpu p) r g); home = home; mover = mover; flight = ms }) w
  got_received s harts cpu home mover w x ms p f k r g sim lp rq at gm =
      let sl : slot_of s.nodes x ≡ AskAt f k p = got_place f k p g (content_of s.nodes x) gm in
      let np = apart_number s.nodes p lp in
      let pp = self_number p in
      let c : Cpu L H = receive_got (cpu p) r g in
      let ef : r.frame ≡ f = grind (arith, nat_tests) in
      let ek : r.number ≡ k = grind (arith, nat_tests) in
      let hk : kept s.nodes (put cpu p c) mover (AskAt f k p) ≡ Some (content_of s.nodes x) = grind arith in
      receive s harts cpu home mover w x ms p c sim (parts_show harts p (cpu p) r (record r { got = g }) w rq refl refl refl refl (sim.nodes p lp)) (record { cached = (sim.tidy p lp).cached; named = (sim.tidy p lp).named; asker = subst (λ u. AskerTidy s u) rq (sim.tidy p lp).asker })
      (subst (λ (q : Place). kept s.nodes (put cpu p c) mover q ≡ Some (content_of s.nodes x)) (sym sl) hk)
      (parts_kept s.nodes cpu mover p c (slot_of s.nodes x) refl
      (λ a b. elim (cases_Bool (is_at a b r)) [ inl t ↦ inr (let e1 : r.frame ≡ a = grind (arith, nat_tests) in let e2 : r.number ≡ b = grind (arith, nat_tests) in cc) | inr t ↦ inl (grind arith) ])
      (λ a b. inl (grind arith)) (λ a b. inl (grind arith)))

  -- the owner's answer that comes before the home's reply
  pub response_received : (s : Setup) (harts : Harts L H) (cpu : ℕ → Cpu L H) (home : ℕ → HomeSide L) (mover : Mover L) (w : World L) (x : Post L) (ms : List (Post L)) (p f k : ℕ) (r : Request L) (g : Response L) →
      Sim s harts (record { cpu = cpu; home = home; mover = mover; flight = x ∷ ms }) w → p < s.nodes → (cpu p).request ≡ Some r → is_at f k r ≡ true → response_message f k p g ≡ Some (content_of s.nodes x) →
      Sim s harts (record { cpu = put cpu p (receive_response (cpu p) r g); home = home; mover = mover; flight = ms }) w
  response_received s harts cpu home mover w x ms p f k r g sim lp rq at gm =
      let sl : slot_of s.nodes x ≡ ResponseAt f k p = response_place f k p g (content_of s.nodes x) gm in
      let np = apart_number s.nodes p lp in
      let pp = self_number p in
      let c : Cpu L H = receive_response (cpu p) r g in
      let ef : r.frame ≡ f = grind (arith, nat_tests) in
      let ek : r.number ≡ k = grind (arith, nat_tests) in
      let hk : kept s.nodes (put cpu p c) mover (ResponseAt f k p) ≡ Some (content_of s.nodes x) = grind arith in
      receive s harts cpu home mover w x ms p c sim (parts_show harts p (cpu p) r (record r { response = g }) w rq refl refl refl refl (sim.nodes p lp)) (record { cached = (sim.tidy p lp).cached; named = (sim.tidy p lp).named; asker = subst (λ u. AskerTidy s u) rq (sim.tidy p lp).asker })
      (subst (λ (q : Place). kept s.nodes (put cpu p c) mover q ≡ Some (content_of s.nodes x)) (sym sl) hk)
      (parts_kept s.nodes cpu mover p c (slot_of s.nodes x) refl
      (λ a b. inl (grind arith))
      (λ a b. elim (cases_Bool (is_at a b r)) [ inl t ↦ inr (let e1 : r.frame ≡ a = grind (arith, nat_tests) in let e2 : r.number ≡ b = grind (arith, nat_tests) in cc) | inr t ↦ inl (grind arith) ])
      (λ a b. inl (grind arith)))

  -- an intervention for the block of the request
  pub intervention_held : (s : Setup) (harts : Harts L H) (cpu : ℕ → Cpu L H) (home : ℕ → HomeSide L) (mover : Mover L) (w : World L) (x : Post L) (ms : List (Post L)) (p f k : ℕ) (r : Request L) (g : Intervention) →
      Sim s harts (record { cpu = cpu; home = home; mover = mover; flight = x ∷ ms }) w → p < s.nodes → (cpu p).request ≡ Some r → is_at f k r ≡ true → held_message f k p g ≡ Some (content_of s.nodes x) → HeldTidy s g →
      Sim s harts (record { cpu = put cpu p (hold (cpu p) r g); home = home; mover = mover; flight = ms }) w
  intervention_held s harts cpu home mover w x ms p f k r g sim lp rq at gm ht =
      let sl : slot_of s.nodes x ≡ InterventionAt f k p = held_place f k p g (content_of s.nodes x) gm in
      let np = apart_number s.nodes p lp in
      let pp = self_number p in
      let c : Cpu L H = hold (cpu p) r g in
      let ef : r.frame ≡ f = grind (arith, nat_tests) in
      let ek : r.number ≡ k = grind (arith, nat_tests) in
      let hk : kept s.nodes (put cpu p c) mover (InterventionAt f k p) ≡ Some (content_of s.nodes x) = grind arith in
      receive s harts cpu home mover w x ms p c sim (parts_show harts p (cpu p) r (record r { held = g }) w rq refl refl refl refl (sim.nodes p lp)) (record { cached = (sim.tidy p lp).cached; named = (sim.tidy p lp).named; asker = ht })
      (subst (λ (q : Place). kept s.nodes (put cpu p c) mover q ≡ Some (content_of s.nodes x)) (sym sl) hk)
      (parts_kept s.nodes cpu mover p c (slot_of s.nodes x) refl
      (λ a b. inl (grind arith)) (λ a b. inl (grind arith))
      (λ a b. elim (cases_Bool (is_at a b r)) [ inl t ↦ inr (let e1 : r.frame ≡ a = grind (arith, nat_tests) in let e2 : r.number ≡ b = grind (arith, nat_tests) in cc) | inr t ↦ inl (grind arith) ]))

  -- it is taken out of the request again
  pub intervention_released : (s : Setup) (harts : Harts L H) (cpu : ℕ → Cpu L H) (home : ℕ → HomeSide L) (mover : Mover L) (w : World L) (x : Post L) (ms : List (Post L)) (p f k : ℕ) (r : Request L) (i : Intervention) →
      Sim s harts (record { cpu = cpu; home = home; mover = mover; flight = ms }) w → p < s.nodes → (cpu p).request ≡ Some r → is_at f k r ≡ true → r.held ≡ i → held_message f k p i ≡ Some (content_of s.nodes x) → Placed s w x →
      Sim s harts (record { cpu = put cpu p (hold (cpu p) r NoIntervention); home = home; mover = mover; flight = x ∷ ms }) w
  intervention_released s harts cpu home mover w x ms p f k r i sim lp rq at hd gm pl =
      let sl : slot_of s.nodes x ≡ InterventionAt f k p = held_place f k p i (content_of s.nodes x) gm in
      let np = apart_number s.nodes p lp in
      let pp = self_number p in
      let c : Cpu L H = hold (cpu p) r NoIntervention in
      let ef : r.frame ≡ f = grind (arith, nat_tests) in
      let ek : r.number ≡ k = grind (arith, nat_tests) in
      let hk : kept s.nodes (put cpu p c) mover (InterventionAt f k p) ≡ None = grind arith in
      let hw : kept s.nodes cpu mover (InterventionAt f k p) ≡ Some (content_of s.nodes x) = grind arith in
      release s harts cpu home mover w x ms p c sim (parts_show harts p (cpu p) r (record r { held = NoIntervention }) w rq refl refl refl refl (sim.nodes p lp)) (record { cached = (sim.tidy p lp).cached; named = (sim.tidy p lp).named; asker = tt }) pl
      (λ e. (let hw2 : kept s.nodes cpu mover (slot_of s.nodes x) ≡ Some (content_of s.nodes x) = subst (λ (q : Place). kept s.nodes cpu mover q ≡ Some (content_of s.nodes x)) (sym sl) hw in absurd (cc)))
      (subst (λ (q : Place). kept s.nodes (put cpu p c) mover q ≡ None) (sym sl) hk)
      (parts_kept s.nodes cpu mover p c (slot_of s.nodes x) refl
      (λ a b. inl (grind arith)) (λ a b. inl (grind arith))
      (λ a b. elim (cases_Bool (is_at a b r)) [ inl t ↦ inr (let e1 : r.frame ≡ a = grind (arith, nat_tests) in let e2 : r.number ≡ b = grind (arith, nat_tests) in cc) | inr t ↦ inl (grind arith) ]))

  -- a drop that is not due
  pub drop_held : (s : Setup) (harts : Harts L H) (cpu : ℕ → Cpu L H) (home : ℕ → HomeSide L) (mover : Mover L) (w : World L) (x : Post L) (ms : List (Post L)) (p f : ℕ) →
      Sim s harts (record { cpu = cpu; home = home; mover = mover; flight = x ∷ ms }) w → p < s.nodes → kept_drop p (Some f) ≡ Some (content_of s.nodes x) →
      Sim s harts (record { cpu = put cpu p (hold_drop (cpu p) f); home = home; mover = mover; flight = ms }) w
  drop_held s harts cpu home mover w x ms p f sim lp gm =
      let sl : slot_of s.nodes x ≡ DropAt p = drop_place p (Some f) (content_of s.nodes x) gm in
      let np = apart_number s.nodes p lp in
      let pp = self_number p in
      let c : Cpu L H = hold_drop (cpu p) f in
      let n : NodeShows harts p (cpu p) w = sim.nodes p lp in
      let hk : kept s.nodes (put cpu p c) mover (DropAt p) ≡ Some (content_of s.nodes x) = grind arith in
      receive s harts cpu home mover w x ms p c sim (record { copy = n.copy; want = n.want; acks = n.acks; victim = n.victim; request = n.request; slot = n.slot; tlb = n.tlb; walk = n.walk }) (record { cached = (sim.tidy p lp).cached; named = (sim.tidy p lp).named; asker = (sim.tidy p lp).asker })
      (subst (λ (q : Place). kept s.nodes (put cpu p c) mover q ≡ Some (content_of s.nodes x)) (sym sl) hk)
      (others sl)
    where
      others : slot_of s.nodes x ≡ DropAt p → (q : Place) → (kept s.nodes (put cpu p (hold_drop (cpu p) f)) mover q ≡ kept s.nodes cpu mover q) ⊎ (q ≡ slot_of s.nodes x)
      others sl (AskAt a b q) = elim (cases_Bool (nat_eq q p)) [ inl t ↦ (let e : q ≡ p = grind (arith, nat_tests) in inl (cc)) | inr t ↦ inl (cc) ]
      others sl (ResponseAt a b q) = elim (cases_Bool (nat_eq q p)) [ inl t ↦ (let e : q ≡ p = grind (arith, nat_tests) in inl (cc)) | inr t ↦ inl (cc) ]
      others sl (InterventionAt a b q) = elim (cases_Bool (nat_eq q p)) [ inl t ↦ (let e : q ≡ p = grind (arith, nat_tests) in inl (cc)) | inr t ↦ inl (cc) ]
      others sl (DropAt q) = elim (cases_Bool (nat_eq q p)) [ inl t ↦ inr (let e : q ≡ p = grind (arith, nat_tests) in cc) | inr t ↦ inl (cc) ]
      others sl q = inl refl
