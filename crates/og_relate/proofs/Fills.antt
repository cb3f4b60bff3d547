-- The other ends of a request by a fill.
use Rattle.std.proofs.Common.{◌≡◌, ℕ, ◌+◌, ◌<◌, Bool, true, false, nat_eq, arith, refl, List, [], ◌∷◌, ◌++◌, Some}
use Rattle.std.proofs.lemmas.Bool.Decides.{nat_tests}
use Rattle.og_block.specs.State.{put, Shared, Clean, Dirty, Reading, Writing, SpeculativeReply, SharedResponse, ExclusiveResponse, OwnerAck, ExclusiveReply, NoResponse, NoIntervention}
use Rattle.og_block.specs.Rows.{Row as BlockRow, has_response, Fill_clean, Fill_shared_answered, Fill_shared_speculative, Fill_exclusive_answered, Fill_exclusive_speculative, Again_speculative}
use Rattle.og_block.specs.Invariant.{Asks}
use Rattle.og_block.specs.Message.{Asked, Answered}
use Rattle.og_pages.specs.State.{Outstanding}
use Rattle.og_pages.specs.State.{State as Pages}
use Rattle.og_whole.specs.Events.{World, Event, On, guard, apply}
use Rattle.og_whole.specs.Link.{Invariant}
use Rattle.og_whole.specs.Messages.{OfBlock}
use Rattle.og_whole.proofs.Runs.{reached}
use Rattle.og_relate.specs.Data.{Post, Setup, GotSpec, GotExclusive, Request, Cpu, Mover, HomeSide, Harts}
use Rattle.og_relate.specs.Places.{Place, AskAt, ResponseAt, kept, is_at}
use Rattle.og_relate.specs.Sim.{Sim, NodeShows}
use Rattle.og_relate.specs.Owes.{changes}
use Rattle.og_relate.specs.Goes.{made_of}
use Rattle.og_relate.specs.Node.{filled, ended, read_made, write_made}
use Rattle.og_relate.proofs.Parts.{apart_number, self_number}
use Rattle.og_relate.proofs.Fill.{is_answer, apart_kept, apart_response, end_row}

module _ {L : Type 0} where
  changed_fill_clean : (p f k page : ℕ) (l : L) (m : Bool) (s : Pages L) (e : Event L) → e ≡ On page 0 f k (Fill_clean p l m) → (x : Place) → changes s e x ≡ true → is_answer f k p x ≡ true
  changed_fill_clean p f k page l m s e is x o = grind (arith, nat_tests)

  changed_fill_shared_answered : (p f k page : ℕ) (l m : L) (s : Pages L) (e : Event L) → e ≡ On page 0 f k (Fill_shared_answered p l m) → (x : Place) → changes s e x ≡ true → is_answer f k p x ≡ true
  changed_fill_shared_answered p f k page l m s e is x o = grind (arith, nat_tests)

  changed_fill_shared_speculative : (p f k page : ℕ) (m : L) (s : Pages L) (e : Event L) → e ≡ On page 0 f k (Fill_shared_speculative p m) → (x : Place) → changes s e x ≡ true → is_answer f k p x ≡ true
  changed_fill_shared_speculative p f k page m s e is x o = grind (arith, nat_tests)

  changed_fill_exclusive_answered : (p f k page : ℕ) (v : L) (m l : L) (s : Pages L) (e : Event L) → e ≡ On page 0 f k (Fill_exclusive_answered p v m l) → (x : Place) → changes s e x ≡ true → is_answer f k p x ≡ true
  changed_fill_exclusive_answered p f k page v m l s e is x o = grind (arith, nat_tests)

  changed_fill_exclusive_speculative : (p f k page : ℕ) (v : L) (m : L) (s : Pages L) (e : Event L) → e ≡ On page 0 f k (Fill_exclusive_speculative p v m) → (x : Place) → changes s e x ≡ true → is_answer f k p x ≡ true
  changed_fill_exclusive_speculative p f k page v m s e is x o = grind (arith, nat_tests)

  changed_again : (p f k page : ℕ) (m : L) (s : Pages L) (e : Event L) → e ≡ On page 0 f k (Again_speculative p m) → (x : Place) → changes s e x ≡ true → is_answer f k p x ≡ true
  changed_again p f k page m s e is x o = grind (arith, nat_tests)

module _ {L : Type 0} {H : Type 0} where
  pub fill_clean : (s : Setup) (harts : Harts L H) (cpu : ℕ → Cpu L H) (home : ℕ → HomeSide L) (mover : Mover L) (w : World L) (p f k : ℕ) (r : Request L) (l : L) (m : Bool) (d : ℕ) (ms : List (Post L)) →
      Sim s harts (record { cpu = cpu; home = home; mover = mover; flight = ms }) w → p < s.nodes → (cpu p).request ≡ Some r → is_at f k r ≡ true → r.held ≡ NoIntervention →
      r.want ≡ Reading m → r.got ≡ GotExclusive l d →
      (e : Event L) × guard (s.nodes + 1) s.nodes s.pages s.blocks e w × (made_of e ≡ read_made harts (cpu p) k l ∷ []) × Sim s harts (record { cpu = put cpu p (filled harts (cpu p) r (Clean l) l); home = home; mover = mover; flight = ms ++ [] }) (apply (s.nodes + 1) s.nodes e w)
  fill_clean s harts cpu home mover w p f k r l m d ms sim lp rq at hd wn gt =
      let page : ℕ = harts.page (cpu p).hart in
      let row : BlockRow L = Fill_clean p l m in
      let n : NodeShows harts p (cpu p) w = sim.nodes p lp in
      let np = apart_number s.nodes p lp in
      let pp = self_number p in
      let lp1 : p < s.nodes + 1 = omega arith in
      let ef : r.frame ≡ f = grind (arith, nat_tests) in
      let ek : r.number ≡ k = grind (arith, nat_tests) in
      let ka : kept s.nodes cpu mover (AskAt f k p) ≡ Some (OfBlock f k (Asked p (ExclusiveReply l d))) = grind arith in
      let st = sim.keeps (AskAt f k p) (OfBlock f k (Asked p (ExclusiveReply l d))) ka in
      let w1 : (w.block f k).want p ≡ Reading m = (let y = n.want f k in grind arith) in
      let rp : w.pages.request p ≡ Outstanding page f k = (let y = n.request in grind arith) in
      let inv : Invariant L (s.nodes + 1) s.nodes s.pages s.blocks w = reached (s.nodes + 1) s.nodes s.pages s.blocks w sim.reached in
      let a : Asks (w.block f k) p = ((inv.link f k st.1).invariant.each p lp1).asks in
      let st1 = st.2.1 in
      let dz : d ≡ 0 = grind arith in
      let w2 : (w.block f k).ask p ≡ ExclusiveReply l 0 = cc in
      let nr : (w.block f k).response p ≡ NoResponse = grind arith in
      let ac : (w.block f k).acks p ≡ 0 = grind arith in
      let gd : guard (s.nodes + 1) s.nodes s.pages s.blocks (On page 0 f k row) w = ((w1, w2), lp1, st.1, rp) in (
        On page 0 f k row,
        gd,
        refl,
        end_row s harts cpu home mover w page 0 f k row p r (filled harts (cpu p) r (Clean l) l) (Clean l) ms sim gd lp st.0 refl refl refl refl rq at hd
            refl refl (λ y. refl) refl refl (λ g j. grind arith)
            (grind arith) (grind arith) ac refl (grind arith) refl refl refl
            (changed_fill_clean p f k page l m w.pages (On page 0 f k row) refl) (grind (arith, nat_tests)) (grind (arith, nat_tests)) (grind (arith, nat_tests)) (grind (arith, nat_tests))
            (apart_kept s cpu mover w ms (AskAt f k p) (λ e. absurd (cc)) sim.flight)
            (apart_response s cpu mover w ms f k p nr sim.flight),
      )

  pub fill_shared_answered : (s : Setup) (harts : Harts L H) (cpu : ℕ → Cpu L H) (home : ℕ → HomeSide L) (mover : Mover L) (w : World L) (p f k : ℕ) (r : Request L) (l m : L) (ms : List (Post L)) →
      Sim s harts (record { cpu = cpu; home = home; mover = mover; flight = ms }) w → p < s.nodes → (cpu p).request ≡ Some r → is_at f k r ≡ true → r.held ≡ NoIntervention →
      r.want ≡ Reading false → r.got ≡ GotSpec m → r.response ≡ SharedResponse l →
      (e : Event L) × guard (s.nodes + 1) s.nodes s.pages s.blocks e w × (made_of e ≡ read_made harts (cpu p) k l ∷ []) × Sim s harts (record { cpu = put cpu p (filled harts (cpu p) r (Shared l) l); home = home; mover = mover; flight = ms ++ [] }) (apply (s.nodes + 1) s.nodes e w)
  fill_shared_answered s harts cpu home mover w p f k r l m ms sim lp rq at hd wn gt rs =
      let page : ℕ = harts.page (cpu p).hart in
      let row : BlockRow L = Fill_shared_answered p l m in
      let n : NodeShows harts p (cpu p) w = sim.nodes p lp in
      let np = apart_number s.nodes p lp in
      let pp = self_number p in
      let lp1 : p < s.nodes + 1 = omega arith in
      let ef : r.frame ≡ f = grind (arith, nat_tests) in
      let ek : r.number ≡ k = grind (arith, nat_tests) in
      let ka : kept s.nodes cpu mover (AskAt f k p) ≡ Some (OfBlock f k (Asked p (SpeculativeReply m))) = grind arith in
      let st = sim.keeps (AskAt f k p) (OfBlock f k (Asked p (SpeculativeReply m))) ka in
      let w1 : (w.block f k).want p ≡ Reading false = (let y = n.want f k in grind arith) in
      let rp : w.pages.request p ≡ Outstanding page f k = (let y = n.request in grind arith) in
      let inv : Invariant L (s.nodes + 1) s.nodes s.pages s.blocks w = reached (s.nodes + 1) s.nodes s.pages s.blocks w sim.reached in
      let a : Asks (w.block f k) p = ((inv.link f k st.1).invariant.each p lp1).asks in
      let kr : kept s.nodes cpu mover (ResponseAt f k p) ≡ Some (OfBlock f k (Answered p (SharedResponse l))) = grind arith in
      let sr = sim.keeps (ResponseAt f k p) (OfBlock f k (Answered p (SharedResponse l))) kr in
      let w2 : (w.block f k).ask p ≡ SpeculativeReply m = st.2.1 in
      let w3 : (w.block f k).response p ≡ SharedResponse l = sr.2.1 in
      let ac : (w.block f k).acks p ≡ 0 = grind arith in
      let gd : guard (s.nodes + 1) s.nodes s.pages s.blocks (On page 0 f k row) w = ((w1, w2, w3), lp1, st.1, rp) in (
        On page 0 f k row,
        gd,
        refl,
        end_row s harts cpu home mover w page 0 f k row p r (filled harts (cpu p) r (Shared l) l) (Shared l) ms sim gd lp st.0 refl refl refl refl rq at hd
            refl refl (λ y. refl) refl refl (λ g j. grind arith)
            (grind arith) (grind arith) ac refl (grind arith) refl refl refl
            (changed_fill_shared_answered p f k page l m w.pages (On page 0 f k row) refl) (grind (arith, nat_tests)) (grind (arith, nat_tests)) (grind (arith, nat_tests)) (grind (arith, nat_tests))
            (apart_kept s cpu mover w ms (AskAt f k p) (λ e. absurd (cc)) sim.flight)
            (apart_kept s cpu mover w ms (ResponseAt f k p) (λ e. absurd (cc)) sim.flight),
      )

  pub fill_shared_speculative : (s : Setup) (harts : Harts L H) (cpu : ℕ → Cpu L H) (home : ℕ → HomeSide L) (mover : Mover L) (w : World L) (p f k : ℕ) (r : Request L) (m : L) (ms : List (Post L)) →
      Sim s harts (record { cpu = cpu; home = home; mover = mover; flight = ms }) w → p < s.nodes → (cpu p).request ≡ Some r → is_at f k r ≡ true → r.held ≡ NoIntervention →
      r.want ≡ Reading false → r.got ≡ GotSpec m → r.response ≡ OwnerAck →
      (e : Event L) × guard (s.nodes + 1) s.nodes s.pages s.blocks e w × (made_of e ≡ read_made harts (cpu p) k m ∷ []) × Sim s harts (record { cpu = put cpu p (filled harts (cpu p) r (Shared m) m); home = home; mover = mover; flight = ms ++ [] }) (apply (s.nodes + 1) s.nodes e w)
  fill_shared_speculative s harts cpu home mover w p f k r m ms sim lp rq at hd wn gt rs =
      let page : ℕ = harts.page (cpu p).hart in
      let row : BlockRow L = Fill_shared_speculative p m in
      let n : NodeShows harts p (cpu p) w = sim.nodes p lp in
      let np = apart_number s.nodes p lp in
      let pp = self_number p in
      let lp1 : p < s.nodes + 1 = omega arith in
      let ef : r.frame ≡ f = grind (arith, nat_tests) in
      let ek : r.number ≡ k = grind (arith, nat_tests) in
      let ka : kept s.nodes cpu mover (AskAt f k p) ≡ Some (OfBlock f k (Asked p (SpeculativeReply m))) = grind arith in
      let st = sim.keeps (AskAt f k p) (OfBlock f k (Asked p (SpeculativeReply m))) ka in
      let w1 : (w.block f k).want p ≡ Reading false = (let y = n.want f k in grind arith) in
      let rp : w.pages.request p ≡ Outstanding page f k = (let y = n.request in grind arith) in
      let inv : Invariant L (s.nodes + 1) s.nodes s.pages s.blocks w = reached (s.nodes + 1) s.nodes s.pages s.blocks w sim.reached in
      let a : Asks (w.block f k) p = ((inv.link f k st.1).invariant.each p lp1).asks in
      let kr : kept s.nodes cpu mover (ResponseAt f k p) ≡ Some (OfBlock f k (Answered p (OwnerAck))) = grind arith in
      let sr = sim.keeps (ResponseAt f k p) (OfBlock f k (Answered p (OwnerAck))) kr in
      let w2 : (w.block f k).ask p ≡ SpeculativeReply m = st.2.1 in
      let w3 : (w.block f k).response p ≡ OwnerAck = sr.2.1 in
      let ac : (w.block f k).acks p ≡ 0 = grind arith in
      let gd : guard (s.nodes + 1) s.nodes s.pages s.blocks (On page 0 f k row) w = ((w1, w2, w3), lp1, st.1, rp) in (
        On page 0 f k row,
        gd,
        refl,
        end_row s harts cpu home mover w page 0 f k row p r (filled harts (cpu p) r (Shared m) m) (Shared m) ms sim gd lp st.0 refl refl refl refl rq at hd
            refl refl (λ y. refl) refl refl (λ g j. grind arith)
            (grind arith) (grind arith) ac refl (grind arith) refl refl refl
            (changed_fill_shared_speculative p f k page m w.pages (On page 0 f k row) refl) (grind (arith, nat_tests)) (grind (arith, nat_tests)) (grind (arith, nat_tests)) (grind (arith, nat_tests))
            (apart_kept s cpu mover w ms (AskAt f k p) (λ e. absurd (cc)) sim.flight)
            (apart_kept s cpu mover w ms (ResponseAt f k p) (λ e. absurd (cc)) sim.flight),
      )

  pub fill_exclusive_answered : (s : Setup) (harts : Harts L H) (cpu : ℕ → Cpu L H) (home : ℕ → HomeSide L) (mover : Mover L) (w : World L) (p f k : ℕ) (r : Request L) (m l : L) (ms : List (Post L)) →
      Sim s harts (record { cpu = cpu; home = home; mover = mover; flight = ms }) w → p < s.nodes → (cpu p).request ≡ Some r → is_at f k r ≡ true → r.held ≡ NoIntervention →
      r.want ≡ Writing → r.got ≡ GotSpec m → r.response ≡ ExclusiveResponse l →
      (e : Event L) × guard (s.nodes + 1) s.nodes s.pages s.blocks e w × (made_of e ≡ write_made harts (cpu p) k l ∷ []) × Sim s harts (record { cpu = put cpu p (filled harts (cpu p) r (Dirty (harts.line_after (cpu p).hart l)) l); home = home; mover = mover; flight = ms ++ [] }) (apply (s.nodes + 1) s.nodes e w)
  fill_exclusive_answered s harts cpu home mover w p f k r m l ms sim lp rq at hd wn gt rs =
      let page : ℕ = harts.page (cpu p).hart in
      let row : BlockRow L = Fill_exclusive_answered p (harts.line_after (cpu p).hart l) m l in
      let n : NodeShows harts p (cpu p) w = sim.nodes p lp in
      let np = apart_number s.nodes p lp in
      let pp = self_number p in
      let lp1 : p < s.nodes + 1 = omega arith in
      let ef : r.frame ≡ f = grind (arith, nat_tests) in
      let ek : r.number ≡ k = grind (arith, nat_tests) in
      let ka : kept s.nodes cpu mover (AskAt f k p) ≡ Some (OfBlock f k (Asked p (SpeculativeReply m))) = grind arith in
      let st = sim.keeps (AskAt f k p) (OfBlock f k (Asked p (SpeculativeReply m))) ka in
      let w1 : (w.block f k).want p ≡ Writing = (let y = n.want f k in grind arith) in
      let rp : w.pages.request p ≡ Outstanding page f k = (let y = n.request in grind arith) in
      let inv : Invariant L (s.nodes + 1) s.nodes s.pages s.blocks w = reached (s.nodes + 1) s.nodes s.pages s.blocks w sim.reached in
      let a : Asks (w.block f k) p = ((inv.link f k st.1).invariant.each p lp1).asks in
      let kr : kept s.nodes cpu mover (ResponseAt f k p) ≡ Some (OfBlock f k (Answered p (ExclusiveResponse l))) = grind arith in
      let sr = sim.keeps (ResponseAt f k p) (OfBlock f k (Answered p (ExclusiveResponse l))) kr in
      let w2 : (w.block f k).ask p ≡ SpeculativeReply m = st.2.1 in
      let w3 : (w.block f k).response p ≡ ExclusiveResponse l = sr.2.1 in
      let ac : (w.block f k).acks p ≡ 0 = grind arith in
      let gd : guard (s.nodes + 1) s.nodes s.pages s.blocks (On page 0 f k row) w = ((w1, w2, w3), lp1, st.1, rp) in (
        On page 0 f k row,
        gd,
        refl,
        end_row s harts cpu home mover w page 0 f k row p r (filled harts (cpu p) r (Dirty (harts.line_after (cpu p).hart l)) l) (Dirty (harts.line_after (cpu p).hart l)) ms sim gd lp st.0 refl refl refl refl rq at hd
            refl refl (λ y. refl) refl refl (λ g j. grind arith)
            (grind arith) (grind arith) ac refl (grind arith) refl refl refl
            (changed_fill_exclusive_answered p f k page (harts.line_after (cpu p).hart l) m l w.pages (On page 0 f k row) refl) (grind (arith, nat_tests)) (grind (arith, nat_tests)) (grind (arith, nat_tests)) (grind (arith, nat_tests))
            (apart_kept s cpu mover w ms (AskAt f k p) (λ e. absurd (cc)) sim.flight)
            (apart_kept s cpu mover w ms (ResponseAt f k p) (λ e. absurd (cc)) sim.flight),
      )

  pub fill_exclusive_speculative : (s : Setup) (harts : Harts L H) (cpu : ℕ → Cpu L H) (home : ℕ → HomeSide L) (mover : Mover L) (w : World L) (p f k : ℕ) (r : Request L) (m : L) (ms : List (Post L)) →
      Sim s harts (record { cpu = cpu; home = home; mover = mover; flight = ms }) w → p < s.nodes → (cpu p).request ≡ Some r → is_at f k r ≡ true → r.held ≡ NoIntervention →
      r.want ≡ Writing → r.got ≡ GotSpec m → r.response ≡ OwnerAck →
      (e : Event L) × guard (s.nodes + 1) s.nodes s.pages s.blocks e w × (made_of e ≡ write_made harts (cpu p) k m ∷ []) × Sim s harts (record { cpu = put cpu p (filled harts (cpu p) r (Dirty (harts.line_after (cpu p).hart m)) m); home = home; mover = mover; flight = ms ++ [] }) (apply (s.nodes + 1) s.nodes e w)
  fill_exclusive_speculative s harts cpu home mover w p f k r m ms sim lp rq at hd wn gt rs =
      let page : ℕ = harts.page (cpu p).hart in
      let row : BlockRow L = Fill_exclusive_speculative p (harts.line_after (cpu p).hart m) m in
      let n : NodeShows harts p (cpu p) w = sim.nodes p lp in
      let np = apart_number s.nodes p lp in
      let pp = self_number p in
      let lp1 : p < s.nodes + 1 = omega arith in
      let ef : r.frame ≡ f = grind (arith, nat_tests) in
      let ek : r.number ≡ k = grind (arith, nat_tests) in
      let ka : kept s.nodes cpu mover (AskAt f k p) ≡ Some (OfBlock f k (Asked p (SpeculativeReply m))) = grind arith in
      let st = sim.keeps (AskAt f k p) (OfBlock f k (Asked p (SpeculativeReply m))) ka in
      let w1 : (w.block f k).want p ≡ Writing = (let y = n.want f k in grind arith) in
      let rp : w.pages.request p ≡ Outstanding page f k = (let y = n.request in grind arith) in
      let inv : Invariant L (s.nodes + 1) s.nodes s.pages s.blocks w = reached (s.nodes + 1) s.nodes s.pages s.blocks w sim.reached in
      let a : Asks (w.block f k) p = ((inv.link f k st.1).invariant.each p lp1).asks in
      let kr : kept s.nodes cpu mover (ResponseAt f k p) ≡ Some (OfBlock f k (Answered p (OwnerAck))) = grind arith in
      let sr = sim.keeps (ResponseAt f k p) (OfBlock f k (Answered p (OwnerAck))) kr in
      let w2 : (w.block f k).ask p ≡ SpeculativeReply m = st.2.1 in
      let w3 : (w.block f k).response p ≡ OwnerAck = sr.2.1 in
      let ac : (w.block f k).acks p ≡ 0 = grind arith in
      let gd : guard (s.nodes + 1) s.nodes s.pages s.blocks (On page 0 f k row) w = ((w1, w2, w3), lp1, st.1, rp) in (
        On page 0 f k row,
        gd,
        refl,
        end_row s harts cpu home mover w page 0 f k row p r (filled harts (cpu p) r (Dirty (harts.line_after (cpu p).hart m)) m) (Dirty (harts.line_after (cpu p).hart m)) ms sim gd lp st.0 refl refl refl refl rq at hd
            refl refl (λ y. refl) refl refl (λ g j. grind arith)
            (grind arith) (grind arith) ac refl (grind arith) refl refl refl
            (changed_fill_exclusive_speculative p f k page (harts.line_after (cpu p).hart m) m w.pages (On page 0 f k row) refl) (grind (arith, nat_tests)) (grind (arith, nat_tests)) (grind (arith, nat_tests)) (grind (arith, nat_tests))
            (apart_kept s cpu mover w ms (AskAt f k p) (λ e. absurd (cc)) sim.flight)
            (apart_kept s cpu mover w ms (ResponseAt f k p) (λ e. absurd (cc)) sim.flight),
      )

  pub again_speculative_answered : (s : Setup) (harts : Harts L H) (cpu : ℕ → Cpu L H) (home : ℕ → HomeSide L) (mover : Mover L) (w : World L) (p f k : ℕ) (r : Request L) (m l : L) (ms : List (Post L)) →
      Sim s harts (record { cpu = cpu; home = home; mover = mover; flight = ms }) w → p < s.nodes → (cpu p).request ≡ Some r → is_at f k r ≡ true → r.held ≡ NoIntervention →
      r.want ≡ Reading true → r.got ≡ GotSpec m → r.response ≡ SharedResponse l →
      (e : Event L) × guard (s.nodes + 1) s.nodes s.pages s.blocks e w × (made_of e ≡ []) × Sim s harts (record { cpu = put cpu p (ended (cpu p)); home = home; mover = mover; flight = ms ++ [] }) (apply (s.nodes + 1) s.nodes e w)
  again_speculative_answered s harts cpu home mover w p f k r m l ms sim lp rq at hd wn gt rs =
      let page : ℕ = harts.page (cpu p).hart in
      let row : BlockRow L = Again_speculative p m in
      let n : NodeShows harts p (cpu p) w = sim.nodes p lp in
      let np = apart_number s.nodes p lp in
      let pp = self_number p in
      let lp1 : p < s.nodes + 1 = omega arith in
      let ef : r.frame ≡ f = grind (arith, nat_tests) in
      let ek : r.number ≡ k = grind (arith, nat_tests) in
      let ka : kept s.nodes cpu mover (AskAt f k p) ≡ Some (OfBlock f k (Asked p (SpeculativeReply m))) = grind arith in
      let st = sim.keeps (AskAt f k p) (OfBlock f k (Asked p (SpeculativeReply m))) ka in
      let w1 : (w.block f k).want p ≡ Reading true = (let y = n.want f k in grind arith) in
      let cp = n.copy f k in
      let rp : w.pages.request p ≡ Outstanding page f k = (let y = n.request in grind arith) in
      let inv : Invariant L (s.nodes + 1) s.nodes s.pages s.blocks w = reached (s.nodes + 1) s.nodes s.pages s.blocks w sim.reached in
      let a : Asks (w.block f k) p = ((inv.link f k st.1).invariant.each p lp1).asks in
      let kr : kept s.nodes cpu mover (ResponseAt f k p) ≡ Some (OfBlock f k (Answered p (SharedResponse l))) = grind arith in
      let sr = sim.keeps (ResponseAt f k p) (OfBlock f k (Answered p (SharedResponse l))) kr in
      let w2 : (w.block f k).ask p ≡ SpeculativeReply m = st.2.1 in
      let w3 : (w.block f k).response p ≡ SharedResponse l = sr.2.1 in
      let w4 : has_response ((w.block f k).response p) ≡ true = grind arith in
      let ac : (w.block f k).acks p ≡ 0 = grind arith in
      let nm_ : nat_eq p s.nodes ≡ false = np in
      let gd : guard (s.nodes + 1) s.nodes s.pages s.blocks (On page 0 f k row) w = ((w1, w2, w4), lp1, st.1, ((λ x. absurd (omega arith)), (λ x. rp))) in (
        On page 0 f k row,
        gd,
        refl,
        end_row s harts cpu home mover w page 0 f k row p r (ended (cpu p)) ((cpu p).cache f k) ms sim gd lp st.0 refl refl refl np rq at hd
            refl refl (λ y. refl) refl refl (λ g j. grind (arith, nat_tests))
            cp (grind arith) ac refl (grind arith) (grind arith) (grind arith) (grind arith)
            (changed_again p f k page m w.pages (On page 0 f k row) refl) (grind (arith, nat_tests)) (grind (arith, nat_tests)) (grind (arith, nat_tests)) (grind (arith, nat_tests))
            (apart_kept s cpu mover w ms (AskAt f k p) (λ e. absurd (cc)) sim.flight)
            (apart_kept s cpu mover w ms (ResponseAt f k p) (λ e. absurd (cc)) sim.flight),
      )

  pub again_speculative_owner : (s : Setup) (harts : Harts L H) (cpu : ℕ → Cpu L H) (home : ℕ → HomeSide L) (mover : Mover L) (w : World L) (p f k : ℕ) (r : Request L) (m : L) (ms : List (Post L)) →
      Sim s harts (record { cpu = cpu; home = home; mover = mover; flight = ms }) w → p < s.nodes → (cpu p).request ≡ Some r → is_at f k r ≡ true → r.held ≡ NoIntervention →
      r.want ≡ Reading true → r.got ≡ GotSpec m → r.response ≡ OwnerAck →
      (e : Event L) × guard (s.nodes + 1) s.nodes s.pages s.blocks e w × (made_of e ≡ []) × Sim s harts (record { cpu = put cpu p (ended (cpu p)); home = home; mover = mover; flight = ms ++ [] }) (apply (s.nodes + 1) s.nodes e w)
  again_speculative_owner s harts cpu home mover w p f k r m ms sim lp rq at hd wn gt rs =
      let page : ℕ = harts.page (cpu p).hart in
      let row : BlockRow L = Again_speculative p m in
      let n : NodeShows harts p (cpu p) w = sim.nodes p lp in
      let np = apart_number s.nodes p lp in
      let pp = self_number p in
      let lp1 : p < s.nodes + 1 = omega arith in
      let ef : r.frame ≡ f = grind (arith, nat_tests) in
      let ek : r.number ≡ k = grind (arith, nat_tests) in
      let ka : kept s.nodes cpu mover (AskAt f k p) ≡ Some (OfBlock f k (Asked p (SpeculativeReply m))) = grind arith in
      let st = sim.keeps (AskAt f k p) (OfBlock f k (Asked p (SpeculativeReply m))) ka in
      let w1 : (w.block f k).want p ≡ Reading true = (let y = n.want f k in grind arith) in
      let cp = n.copy f k in
      let rp : w.pages.request p ≡ Outstanding page f k = (let y = n.request in grind arith) in
      let inv : Invariant L (s.nodes + 1) s.nodes s.pages s.blocks w = reached (s.nodes + 1) s.nodes s.pages s.blocks w sim.reached in
      let a : Asks (w.block f k) p = ((inv.link f k st.1).invariant.each p lp1).asks in
      let kr : kept s.nodes cpu mover (ResponseAt f k p) ≡ Some (OfBlock f k (Answered p (OwnerAck))) = grind arith in
      let sr = sim.keeps (ResponseAt f k p) (OfBlock f k (Answered p (OwnerAck))) kr in
      let w2 : (w.block f k).ask p ≡ SpeculativeReply m = st.2.1 in
      let w3 : (w.block f k).response p ≡ OwnerAck = sr.2.1 in
      let w4 : has_response ((w.block f k).response p) ≡ true = grind arith in
      let ac : (w.block f k).acks p ≡ 0 = grind arith in
      let nm_ : nat_eq p s.nodes ≡ false = np in
      let gd : guard (s.nodes + 1) s.nodes s.pages s.blocks (On page 0 f k row) w = ((w1, w2, w4), lp1, st.1, ((λ x. absurd (omega arith)), (λ x. rp))) in (
        On page 0 f k row,
        gd,
        refl,
        end_row s harts cpu home mover w page 0 f k row p r (ended (cpu p)) ((cpu p).cache f k) ms sim gd lp st.0 refl refl refl np rq at hd
            refl refl (λ y. refl) refl refl (λ g j. grind (arith, nat_tests))
            cp (grind arith) ac refl (grind arith) (grind arith) (grind arith) (grind arith)
            (changed_again p f k page m w.pages (On page 0 f k row) refl) (grind (arith, nat_tests)) (grind (arith, nat_tests)) (grind (arith, nat_tests)) (grind (arith, nat_tests))
            (apart_kept s cpu mover w ms (AskAt f k p) (λ e. absurd (cc)) sim.flight)
            (apart_kept s cpu mover w ms (ResponseAt f k p) (λ e. absurd (cc)) sim.flight),
      )
