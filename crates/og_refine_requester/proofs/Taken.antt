-- A part is taken: its row, and what the processor does, as rows of the theory.
use Rattle.std.proofs.Common.{◌≡◌, ℕ, ◌+◌, ◌<◌, ◌≤◌, true, false, arith, refl, sym, ap, ◌∙◌, subst, List, ◌∷◌, ◌++◌, Option, None, Some}
use Rattle.og_base.specs.declared.Block.{Block}
use Rattle.og_runs.specs.declared.Msg.{Msg}
use Rattle.og_line.specs.declared.Line.{Line}
use Rattle.og_msg.specs.declared.Kind.{Kind}
use Rattle.og_image.specs.Image.{ImageState}
use Rattle.og_block.specs.State.{Block as Cells, put, NoResponse, InvalidateAck}
use Rattle.og_block.specs.Message.{Asked, Answered, Invalidated}
use Rattle.og_block.specs.Balance.{due}
use Rattle.og_block.specs.Invariant.{grants}
use Rattle.og_whole.specs.Events.{World}
use Rattle.og_whole.specs.Messages.{Message, OfBlock}
use Rattle.og_whole.proofs.Worlds.{blocks_ready}
use Rattle.og_request.specs.declared.Reply.{Reply}
use Rattle.og_request.specs.declared.Response.{Response}
use Rattle.og_request.specs.Request.{Requested, received, outcome_of, has_part}
use Rattle.og_victim.specs.Slot.{is_slot_of}
use Rattle.og_processor.specs.State.{Given}
use Rattle.og_processor.specs.Take.{goes_on, receives, take_of}
use Rattle.og_processor.specs.Rows.{ends_well}
use Rattle.og_node.specs.Node.{NodeState}
use Rattle.og_node.specs.Rows.{has_processor_row}
use Rattle.og_relate.specs.Data.{Post, Request, Cpu, HomeSide, Mover, IsSetup, NoGot, KInvalAck}
use Rattle.og_relate.specs.Places.{content_of, Stands, is_at, ask_of, got_message, response_message}
use Rattle.og_relate.specs.Goes.{Made, Makes}
use Rattle.og_relate.specs.Steps.{letter}
use Rattle.og_relate.specs.Laws.{machine}
use Rattle.og_relate.specs.Node.{settle, settle_made, take_ack, ack_made}
use Rattle.og_relate.proofs.TakeAck.{ack_taken}
use Rattle.og_relate_node.specs.Steps.{take_reply, reply_made, take_response, response_made}
use Rattle.og_relate_node.proofs.Parts.{reply_taken, response_taken}
use Rattle.og_seen.specs.Numbers.{Sizes, frame_at, setup_seen}
use Rattle.og_seen.specs.Messages.{frame_of_block, letters_seen}
use Rattle.og_seen.specs.Harts.{Hart, harts_seen}
use Rattle.og_seen.specs.Processors.{got_seen, response_seen, request_seen, cpu_seen}
use Rattle.og_seen.specs.Sound.{AreSizes, IsBlock, IsProcessorOf, IsHomeOf}
use Rattle.og_seen.specs.Events.{Shows, ProcessorGoes}
use Rattle.og_seen.proofs.Numbers.{there as parts_there, there_below, frame_there}
use Rattle.og_refine_requester.proofs.Facts.{request_back, no_reply, no_response, request_block}
use Rattle.og_refine_requester.proofs.Settle.{Agrees}
use Rattle.og_refine_requester.proofs.Outcomes.{settled}
use Rattle.og_refine_requester.proofs.Finds.{Meets, Here, here}
use Rattle.og_refine_requester.proofs.Ends.{free, upgraded, well}
use Rattle.og_refine_requester.proofs.PartRows.{IsPart, slot_free, part_row}

-- each frame that there is has its home among the nodes
pub homes_are : (s : Sizes) → IsSetup (setup_seen s)
homes_are s f lt = (parts_there s (frame_at s f) (frame_there s f lt)).0

module _ (image : ImageState) (s : Sizes) (cpu : ℕ → Cpu Line Hart) (home : ℕ → HomeSide Line) (mover : Mover Line) (w : World Line) (p : ℕ) (x : NodeState) (message : Msg Kind) (rest : List (Post Line))
    (sizes : AreSizes s) (is : IsProcessorOf image s x.processor) (of_home : IsHomeOf s p x.home) (lp : p < s.nodes) (cp : cpu p ≡ cpu_seen s x.processor) where
  -- what is to be shown
  abbrev pub Taken : Type 0
  Taken = (has_processor_row x message ≡ true) × ProcessorGoes image s cpu home mover rest w p x.processor (take_of image x.processor message.kind)

  -- the answer of the machine of functions is the processor's
  concluded : (b : Block) (t r : Requested) (answer : Cpu Line Hart × List (Post Line)) (made : List (Made Line)) → IsPart message.kind b → x.processor.request ≡ Some t → received t message.kind ≡ r → has_processor_row x message ≡ true →
      Agrees image s p x.processor (goes_on image x.processor r (outcome_of r)) answer made → Makes (setup_seen s) (harts_seen image s) (machine (put cpu p answer.0) home mover (rest ++ answer.1)) w made → Taken
  concluded b t r answer made part rq rec row agrees makes = (row, subst (λ (g : Given). ProcessorGoes image s cpu home mover rest w p x.processor g) (sym same) (made, seen, agrees.notes))
    where
      given : Given
      given = goes_on image x.processor r (outcome_of r)

      same : take_of image x.processor message.kind ≡ goes_on image x.processor r (outcome_of r)
      same = part.takes image x.processor ∙ (ap (λ (o : Option Requested). receives image x.processor o message.kind) rq ∙ ap (λ (q : Requested). goes_on image x.processor q (outcome_of q)) rec)

      seen : Makes (setup_seen s) (harts_seen image s) (machine (put cpu p (cpu_seen s given.state)) home mover (rest ++ letters_seen s p given.letters)) w made
      seen = subst (λ (c : Cpu Line Hart). Makes (setup_seen s) (harts_seen image s) (machine (put cpu p c) home mover (rest ++ letters_seen s p given.letters)) w made) (sym agrees.state)
          (subst (λ (ls : List (Post Line)). Makes (setup_seen s) (harts_seen image s) (machine (put cpu p answer.0) home mover (rest ++ ls)) w made) (sym agrees.letters) makes)

  -- the request that is seen is the processor's
  own_request : (r : Request Line) → (cpu p).request ≡ Some r → (t : Requested) × (x.processor.request ≡ Some t) × (request_seen s t ≡ r)
  own_request r e = request_back s x.processor.request r (sym (ap (λ (c : Cpu Line Hart). c.request) cp) ∙ e)

  -- the request with one more part, as it stands in the world, goes on as that of the machine of functions
  finished : (b : Block) (t new : Requested) → IsPart message.kind b → x.processor.request ≡ Some t → received t message.kind ≡ new → new.block ≡ t.block → new.want ≡ t.want → t.block ≡ b → IsBlock s b → message.id.sender < s.nodes → has_part t.want t message.kind ≡ true →
      Here (s.nodes + 1) (w.pages.newest (frame_of_block s t.block) t.block.number) (w.block (frame_of_block s t.block) t.block.number) p s x.processor t → Meets (w.block (frame_of_block s t.block) t.block.number) p x.processor new →
      Makes (setup_seen s) (harts_seen image s) (machine (put cpu p (settle (setup_seen s) (harts_seen image s) p (frame_of_block s new.block) new.block.number (cpu_seen s (record x.processor { request = Some new })) (request_seen s new)).0) home mover
      (rest ++ (settle (setup_seen s) (harts_seen image s) p (frame_of_block s new.block) new.block.number (cpu_seen s (record x.processor { request = Some new })) (request_seen s new)).1)) w
      (settle_made (harts_seen image s) (frame_of_block s new.block) new.block.number (cpu_seen s (record x.processor { request = Some new })) (request_seen s new)) → Taken
  finished b t new part rq rec nb nw same there sent has h meets makes = concluded b t new answer made part rq rec whole agrees makes
    where
      cells : Cells Line
      cells = w.block (frame_of_block s t.block) t.block.number

      newest : Line
      newest = w.pages.newest (frame_of_block s t.block) t.block.number

      slot : is_slot_of x.processor.victim new.block ≡ false
      slot = ap (is_slot_of x.processor.victim) nb ∙ slot_free s x.processor.victim t.block (is.request t rq).0 is.victim (sym h.victim ∙ free (s.nodes + 1) newest cells p x.processor new h.local meets)

      ends : ends_well x.processor (received t message.kind) (outcome_of (received t message.kind)) ≡ true
      ends = subst (λ (q : Requested). ends_well x.processor q (outcome_of q) ≡ true) (sym rec) (well (s.nodes + 1) newest cells p x.processor new h.local meets)

      whole : has_processor_row x message ≡ true
      whole = part_row image s p x message of_home b t part there sent rq same has ends

      answer : Cpu Line Hart × List (Post Line)
      answer = settle (setup_seen s) (harts_seen image s) p (frame_of_block s new.block) new.block.number (cpu_seen s (record x.processor { request = Some new })) (request_seen s new)

      made : List (Made Line)
      made = settle_made (harts_seen image s) (frame_of_block s new.block) new.block.number (cpu_seen s (record x.processor { request = Some new })) (request_seen s new)

      agrees : Agrees image s p x.processor (goes_on image x.processor new (outcome_of new)) answer made
      agrees = settled image s p x.processor t new sizes is rq nb slot (λ e. is.reads t rq (sym nw ∙ e)) (upgraded (s.nodes + 1) newest cells p x.processor new h.local meets)

  -- ---- the home's reply

  -- a reply is taken
  pub replied : (post : Post Line) (b : Block) (a : Reply) → IsPart message.kind b → ((t : Requested) → received t message.kind ≡ record t { reply = Some a }) → message.id.sender < s.nodes →
      got_message (frame_of_block s b) b.number p (got_seen (Some a)) ≡ Some (content_of s.nodes post) → content_of s.nodes post ≡ OfBlock (frame_of_block s b) b.number (Asked p (ask_of (got_seen (Some a)))) →
      ((n : ℕ) (u : Line) (c : Cells Line) (t : Requested) → Here n u c p s x.processor t → c.ask p ≡ ask_of (got_seen (Some a)) → t.reply ≡ None → has_part t.want t message.kind ≡ true) →
      Shows image s cpu home mover (post ∷ rest) w → Taken
  replied post b a part rec sent gm content row sim = by (reply_taken (setup_seen s) (harts_seen image s) cpu home mover w p (frame_of_block s b) b.number (got_seen (Some a)) post rest (homes_are s) lp sim gm)
    where
      MakesOf : Cpu Line Hart → Request Line → Block → Type 0
      MakesOf c r b = Makes (setup_seen s) (harts_seen image s) (machine (put cpu p (take_reply (setup_seen s) (harts_seen image s) p (frame_of_block s b) b.number c r (got_seen (Some a))).0) home mover
          (rest ++ (take_reply (setup_seen s) (harts_seen image s) p (frame_of_block s b) b.number c r (got_seen (Some a))).1)) w (reply_made (harts_seen image s) (frame_of_block s b) b.number c r (got_seen (Some a)))

      stands : Stands (setup_seen s) w (OfBlock (frame_of_block s b) b.number (Asked p (ask_of (got_seen (Some a)))))
      stands = subst (λ (m : Message Line). Stands (setup_seen s) w m) content sim.flight.0.0.0

      there : IsBlock s b
      there = (there_below s b.frame stands.0, stands.1)

      by : (r : Request Line) × ((cpu p).request ≡ Some r) × (is_at (frame_of_block s b) b.number r ≡ true) × (r.got ≡ NoGot) × MakesOf (cpu p) r b → Taken
      by (r, asks, at, none, makes) = own (own_request r asks)
        where
          own : (t : Requested) × (x.processor.request ≡ Some t) × (request_seen s t ≡ r) → Taken
          own (t, rq, seen) = finished b t (record t { reply = Some a }) part rq (rec t) refl refl same there sent (row (s.nodes + 1) (w.pages.newest (frame_of_block s t.block) t.block.number) cells t h ask (no_reply t.reply (ap (λ (q : Request Line). q.got) seen ∙ none))) h meets
              (subst (λ (c : Cpu Line Hart). MakesOf c (request_seen s t) t.block) cp (subst (λ (q : Request Line). MakesOf (cpu p) q t.block) (sym seen) (subst (λ (c : Block). MakesOf (cpu p) r c) (sym same) makes)))
            where
              cells : Cells Line
              cells = w.block (frame_of_block s t.block) t.block.number

              same : t.block ≡ b
              same = request_block s t b (is.request t rq).0 there.0 (subst (λ (q : Request Line). is_at (frame_of_block s b) b.number q ≡ true) (sym seen) at)

              h : Here (s.nodes + 1) (w.pages.newest (frame_of_block s t.block) t.block.number) cells p s x.processor t
              h = here image s cpu home mover (post ∷ rest) w p x.processor t sim lp cp rq (is.request t rq)

              ask : cells.ask p ≡ ask_of (got_seen (Some a))
              ask = subst (λ (c : Block). (w.block (frame_of_block s c) c.number).ask p ≡ ask_of (got_seen (Some a))) (sym same) stands.2.1

              meets : Meets cells p x.processor (record t { reply = Some a })
              meets = record { want = h.meets.want; copy = h.meets.copy; reply = λ o e. (let q : a ≡ o = cc in subst (λ (y : Reply). cells.ask p ≡ ask_of (got_seen (Some y))) q ask); response = h.meets.response; held = h.meets.held }

  -- ---- the owner's response

  -- a response is taken
  pub responded : (post : Post Line) (b : Block) (a : Response) → IsPart message.kind b → ((t : Requested) → received t message.kind ≡ record t { response = Some a }) → message.id.sender < s.nodes →
      response_message (frame_of_block s b) b.number p (response_seen (Some a)) ≡ Some (content_of s.nodes post) → content_of s.nodes post ≡ OfBlock (frame_of_block s b) b.number (Answered p (response_seen (Some a))) →
      ((n : ℕ) (u : Line) (c : Cells Line) (t : Requested) → Here n u c p s x.processor t → c.response p ≡ response_seen (Some a) → t.response ≡ None → has_part t.want t message.kind ≡ true) →
      Shows image s cpu home mover (post ∷ rest) w → Taken
  responded post b a part rec sent gm content row sim = by (response_taken (setup_seen s) (harts_seen image s) cpu home mover w p (frame_of_block s b) b.number (response_seen (Some a)) post rest (homes_are s) lp sim gm)
    where
      MakesOf : Cpu Line Hart → Request Line → Block → Type 0
      MakesOf c r b = Makes (setup_seen s) (harts_seen image s) (machine (put cpu p (take_response (setup_seen s) (harts_seen image s) p (frame_of_block s b) b.number c r (response_seen (Some a))).0) home mover
          (rest ++ (take_response (setup_seen s) (harts_seen image s) p (frame_of_block s b) b.number c r (response_seen (Some a))).1)) w (response_made (harts_seen image s) (frame_of_block s b) b.number c r (response_seen (Some a)))

      stands : Stands (setup_seen s) w (OfBlock (frame_of_block s b) b.number (Answered p (response_seen (Some a))))
      stands = subst (λ (m : Message Line). Stands (setup_seen s) w m) content sim.flight.0.0.0

      there : IsBlock s b
      there = (there_below s b.frame stands.0, stands.1)

      by : (r : Request Line) × ((cpu p).request ≡ Some r) × (is_at (frame_of_block s b) b.number r ≡ true) × (r.response ≡ NoResponse) × MakesOf (cpu p) r b → Taken
      by (r, asks, at, none, makes) = own (own_request r asks)
        where
          own : (t : Requested) × (x.processor.request ≡ Some t) × (request_seen s t ≡ r) → Taken
          own (t, rq, seen) = finished b t (record t { response = Some a }) part rq (rec t) refl refl same there sent (row (s.nodes + 1) (w.pages.newest (frame_of_block s t.block) t.block.number) cells t h answer (no_response t.response (ap (λ (q : Request Line). q.response) seen ∙ none))) h meets
              (subst (λ (c : Cpu Line Hart). MakesOf c (request_seen s t) t.block) cp (subst (λ (q : Request Line). MakesOf (cpu p) q t.block) (sym seen) (subst (λ (c : Block). MakesOf (cpu p) r c) (sym same) makes)))
            where
              cells : Cells Line
              cells = w.block (frame_of_block s t.block) t.block.number

              same : t.block ≡ b
              same = request_block s t b (is.request t rq).0 there.0 (subst (λ (q : Request Line). is_at (frame_of_block s b) b.number q ≡ true) (sym seen) at)

              h : Here (s.nodes + 1) (w.pages.newest (frame_of_block s t.block) t.block.number) cells p s x.processor t
              h = here image s cpu home mover (post ∷ rest) w p x.processor t sim lp cp rq (is.request t rq)

              answer : cells.response p ≡ response_seen (Some a)
              answer = subst (λ (c : Block). (w.block (frame_of_block s c) c.number).response p ≡ response_seen (Some a)) (sym same) stands.2.1

              meets : Meets cells p x.processor (record t { response = Some a })
              meets = record { want = h.meets.want; copy = h.meets.copy; reply = h.meets.reply; response = λ o e. (let q : a ≡ o = cc in subst (λ (y : Response). cells.response p ≡ response_seen (Some y)) q answer); held = h.meets.held }

  -- ---- an acknowledgement

  -- an acknowledgement is taken
  pub acknowledged : (q : ℕ) (b : Block) → IsPart message.kind b → ((t : Requested) → received t message.kind ≡ record t { acks = t.acks + 1 }) → message.id.sender < s.nodes →
      ((n : ℕ) (u : Line) (c : Cells Line) (t : Requested) → Here n u c p s x.processor t → grants (c.ask p) ≡ true → c.acks p < due (c.ask p) → n ≤ 255 → has_part t.want t message.kind ≡ true) →
      Shows image s cpu home mover (letter q p (KInvalAck (frame_of_block s b) b.number) ∷ rest) w → Taken
  acknowledged q b part rec sent row sim = by (ack_taken (setup_seen s) (harts_seen image s) cpu home mover w q p (frame_of_block s b) b.number rest (homes_are s) lp sim)
    where
      MakesOf : Cpu Line Hart → Request Line → Block → Type 0
      MakesOf c r b = Makes (setup_seen s) (harts_seen image s) (machine (put cpu p (take_ack (setup_seen s) (harts_seen image s) p (frame_of_block s b) b.number c r).0) home mover
          (rest ++ (take_ack (setup_seen s) (harts_seen image s) p (frame_of_block s b) b.number c r).1)) w (ack_made (harts_seen image s) (frame_of_block s b) b.number c r)

      stands : Stands (setup_seen s) w (OfBlock (frame_of_block s b) b.number (Invalidated q (InvalidateAck p)))
      stands = sim.flight.0.0.0

      there : IsBlock s b
      there = (there_below s b.frame stands.0, stands.1)

      ready : (p < s.nodes + 1) × (grants ((w.block (frame_of_block s b) b.number).ask p) ≡ true) × ((w.block (frame_of_block s b) b.number).acks p < due ((w.block (frame_of_block s b) b.number).ask p))
      ready = (blocks_ready (s.nodes + 1) s.nodes (setup_seen s).pages 32 w sim.reached (frame_of_block s b) b.number q stands.1 stands.2.0).0.acknowledge p stands.2.1

      few : s.nodes + 1 ≤ 255
      few = let a = sizes.few_nodes in omega arith

      by : (r : Request Line) × ((cpu p).request ≡ Some r) × (is_at (frame_of_block s b) b.number r ≡ true) × MakesOf (cpu p) r b → Taken
      by (r, asks, at, makes) = own (own_request r asks)
        where
          own : (t : Requested) × (x.processor.request ≡ Some t) × (request_seen s t ≡ r) → Taken
          own (t, rq, seen) = finished b t (record t { acks = t.acks + 1 }) part rq (rec t) refl refl same there sent (row (s.nodes + 1) (w.pages.newest (frame_of_block s t.block) t.block.number) cells t h due_here.0 due_here.1 few) h meets
              (subst (λ (c : Cpu Line Hart). MakesOf c (request_seen s t) t.block) cp (subst (λ (q : Request Line). MakesOf (cpu p) q t.block) (sym seen) (subst (λ (c : Block). MakesOf (cpu p) r c) (sym same) makes)))
            where
              cells : Cells Line
              cells = w.block (frame_of_block s t.block) t.block.number

              same : t.block ≡ b
              same = request_block s t b (is.request t rq).0 there.0 (subst (λ (q : Request Line). is_at (frame_of_block s b) b.number q ≡ true) (sym seen) at)

              h : Here (s.nodes + 1) (w.pages.newest (frame_of_block s t.block) t.block.number) cells p s x.processor t
              h = here image s cpu home mover (letter q p (KInvalAck (frame_of_block s b) b.number) ∷ rest) w p x.processor t sim lp cp rq (is.request t rq)

              due_here : (grants (cells.ask p) ≡ true) × (cells.acks p < due (cells.ask p))
              due_here = subst (λ (c : Block). (grants ((w.block (frame_of_block s c) c.number).ask p) ≡ true) × ((w.block (frame_of_block s c) c.number).acks p < due ((w.block (frame_of_block s c) c.number).ask p))) (sym same) (ready.1, ready.2)

              meets : Meets cells p x.processor (record t { acks = t.acks + 1 })
              meets = record { want = h.meets.want; copy = h.meets.copy; reply = h.meets.reply; response = h.meets.response; held = h.meets.held }
