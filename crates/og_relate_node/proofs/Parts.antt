-- A part of a request comes: it finds its request, and what the parts then make of it are rows of the theory.
use Rattle.std.proofs.Common.{◌≡◌, ◌≢◌, ℕ, ◌+◌, ◌<◌, true, arith, refl, subst, List, ◌∷◌, ◌++◌, None, Some}
use Rattle.og_block.specs.State.{Ask, NoAsk, Response, NoResponse, Idle}
use Rattle.og_block.specs.Balance.{is_speculative}
use Rattle.og_block.specs.Message.{Asked, Answered, Stands as StandsInBlock}
use Rattle.og_whole.specs.Events.{World}
use Rattle.og_whole.specs.Messages.{Message, OfBlock}
use Rattle.og_whole.proofs.Worlds.{blocks_ready}
use Rattle.og_relate.specs.Data.{Post, Setup, IsSetup, Got, NoGot, Request, Cpu, Mover, HomeSide, Harts}
use Rattle.og_relate.specs.Places.{AskAt, ResponseAt, content_of, slot_of, Stands, kept, is_at, ask_of, got_message, response_message}
use Rattle.og_relate.specs.Sim.{Sim}
use Rattle.og_relate.specs.Node.{receive_got, receive_response}
use Rattle.og_relate.proofs.Ack.{asks_here}
use Rattle.og_relate.proofs.Messages.{got_place, response_place}
use Rattle.og_relate.proofs.Parts.{apart_number, got_received, response_received}
use Rattle.og_relate.proofs.Settle.{settle_any}
use Rattle.og_relate.proofs.Take.{MakesAt}
use Rattle.og_relate_node.specs.Steps.{take_reply, reply_made, take_response, response_made}

module _ {L : Type 0} where
  -- what a reply that comes says of the block
  reply_asks : (f k p : ℕ) (g : Got L) (c : Message L) → got_message f k p g ≡ Some c → (a : Ask L) × (c ≡ OfBlock f k (Asked p a)) × (a ≢ NoAsk)
  reply_asks f k p NoGot c e = absurd (cc)
  reply_asks f k p g c e = (ask_of g, (grind arith), λ n. absurd (grind arith))

  response_answers : (f k p : ℕ) (v : Response L) (c : Message L) → response_message f k p v ≡ Some c → (c ≡ OfBlock f k (Answered p v)) × (v ≢ NoResponse)
  response_answers f k p NoResponse c e = absurd (cc)
  response_answers f k p v c e = (grind arith, λ n. absurd (grind arith))

  -- nothing was received, where nothing is kept
  nothing_got : (f k p : ℕ) (g : Got L) → got_message f k p g ≡ None → g ≡ NoGot
  nothing_got f k p NoGot e = refl
  nothing_got f k p g e = absurd (grind arith)

  nothing_answered : (f k p : ℕ) (v : Response L) → response_message f k p v ≡ None → v ≡ NoResponse
  nothing_answered f k p NoResponse e = refl
  nothing_answered f k p v e = absurd (grind arith)

module _ {L : Type 0} {H : Type 0} where
  -- ---- the home's reply

  pub reply_taken : (s : Setup) (harts : Harts L H) (cpu : ℕ → Cpu L H) (home : ℕ → HomeSide L) (mover : Mover L) (w : World L) (p f k : ℕ) (g : Got L) (x : Post L) (ms : List (Post L)) → IsSetup s → p < s.nodes →
      Sim s harts (record { cpu = cpu; home = home; mover = mover; flight = x ∷ ms }) w → got_message f k p g ≡ Some (content_of s.nodes x) →
      (r : Request L) × ((cpu p).request ≡ Some r) × (is_at f k r ≡ true) × (r.got ≡ NoGot) × MakesAt s harts cpu home mover p (take_reply s harts p f k (cpu p) r g).0 (ms ++ (take_reply s harts p f k (cpu p) r g).1) w (reply_made harts f k (cpu p) r g)
  reply_taken s harts cpu home mover w p f k g x ms setup lp sim gm =
      let c = reply_asks f k p g (content_of s.nodes x) gm in
      let pl : (f < s.frames) × (k < s.blocks) × StandsInBlock (s.nodes + 1) (w.block f k) (Asked p c.0) = subst (λ (m : Message L). Stands s w m) c.1 sim.flight.0.0.0 in
      let lp1 : p < s.nodes + 1 = omega arith in
      let na : (w.block f k).ask p ≢ NoAsk = λ e. c.2 (let y = pl.2.1 in cc) in
      let wn : (w.block f k).want p ≢ Idle = (blocks_ready (s.nodes + 1) s.nodes s.pages s.blocks w sim.reached f k p pl.1 lp1).0.reply na in
      let v = (sim.nodes p lp).want f k in
      let fd = asks_here f k (cpu p).request (λ e. wn (cc)) in
      let r : Request L = fd.0 in
      let np = apart_number s.nodes p lp in
      let sl : slot_of s.nodes x ≡ AskAt f k p = got_place f k p g (content_of s.nodes x) gm in
      let none : kept s.nodes cpu mover (AskAt f k p) ≡ None = (let a = sim.flight.0.1 in cc) in
      let rq = fd.1 in
      let at = fd.2 in
      let ng : got_message f k p r.got ≡ None = grind arith in
      (r, rq, at, nothing_got f k p r.got ng, settle_any s harts cpu home mover p f k (receive_got (cpu p) r g) (record r { got = g }) ms w setup lp (got_received s harts cpu home mover w x ms p f k r g sim lp rq at gm) refl at pl.1)

  -- ---- the owner's response

  pub response_taken : (s : Setup) (harts : Harts L H) (cpu : ℕ → Cpu L H) (home : ℕ → HomeSide L) (mover : Mover L) (w : World L) (p f k : ℕ) (v : Response L) (x : Post L) (ms : List (Post L)) → IsSetup s → p < s.nodes →
      Sim s harts (record { cpu = cpu; home = home; mover = mover; flight = x ∷ ms }) w → response_message f k p v ≡ Some (content_of s.nodes x) →
      (r : Request L) × ((cpu p).request ≡ Some r) × (is_at f k r ≡ true) × (r.response ≡ NoResponse) × MakesAt s harts cpu home mover p (take_response s harts p f k (cpu p) r v).0 (ms ++ (take_response s harts p f k (cpu p) r v).1) w (response_made harts f k (cpu p) r v)
  response_taken s harts cpu home mover w p f k v x ms setup lp sim gm =
      let c = response_answers f k p v (content_of s.nodes x) gm in
      let pl : (f < s.frames) × (k < s.blocks) × StandsInBlock (s.nodes + 1) (w.block f k) (Answered p v) = subst (λ (m : Message L). Stands s w m) c.0 sim.flight.0.0.0 in
      let lp1 : p < s.nodes + 1 = omega arith in
      let rd = (blocks_ready (s.nodes + 1) s.nodes s.pages s.blocks w sim.reached f k p pl.1 lp1).0 in
      let sp : is_speculative ((w.block f k).ask p) ≡ true = rd.response (λ e. c.1 (let y = pl.2.1 in cc)) in
      let na : (w.block f k).ask p ≢ NoAsk = λ e. absurd (grind arith) in
      let wn : (w.block f k).want p ≢ Idle = rd.reply na in
      let y = (sim.nodes p lp).want f k in
      let fd = asks_here f k (cpu p).request (λ e. wn (cc)) in
      let r : Request L = fd.0 in
      let np = apart_number s.nodes p lp in
      let sl : slot_of s.nodes x ≡ ResponseAt f k p = response_place f k p v (content_of s.nodes x) gm in
      let none : kept s.nodes cpu mover (ResponseAt f k p) ≡ None = (let a = sim.flight.0.1 in cc) in
      let rq = fd.1 in
      let at = fd.2 in
      let ng : response_message f k p r.response ≡ None = grind arith in
      (r, rq, at, nothing_answered f k p r.response ng, settle_any s harts cpu home mover p f k (receive_response (cpu p) r v) (record r { response = v }) ms w setup lp (response_received s harts cpu home mover w x ms p f k r v sim lp rq at gm) refl at pl.1)
