-- What stands in the world of the theory where a processor has a request.
use Rattle.std.proofs.Common.{◌≡◌, ℕ, ◌+◌, ◌<◌, Bool, true, false, ◌&&◌, cond, nat_eq, arith, refl, ap, ◌∙◌, subst, List, Option, None, Some, option_map}
use Rattle.std.proofs.lemmas.Bool.Decides.{nat_tests}
use Rattle.og_line.specs.declared.Line.{Line}
use Rattle.og_image.specs.Image.{ImageState}
use Rattle.og_block.specs.State.{Block as Cells, Idle}
use Rattle.og_block.specs.Rows.{has_intervention}
use Rattle.og_block.specs.Message.{Message as BlockMessage, Asked, Answered, Intervened}
use Rattle.og_block.specs.Invariant.{Local}
use Rattle.og_block.specs.Balance.{due}
use Rattle.og_whole.specs.Events.{World}
use Rattle.og_whole.specs.Link.{Invariant}
use Rattle.og_whole.specs.Messages.{OfBlock}
use Rattle.og_whole.proofs.Runs.{reached}
use Rattle.og_whole.proofs.Worlds.{replies_bounded}
use Rattle.og_cache.specs.Cache.{look_of}
use Rattle.og_request.specs.declared.Reply.{Reply}
use Rattle.og_request.specs.declared.Reply.TheVariants.{Shared as SharedPart, Exclusive as ExclusivePart, Speculative as SpeculativePart, Upgrade as UpgradePart, Nak as NakPart, PoisonError as PoisonErrorPart}
use Rattle.og_request.specs.declared.Response.{Response}
use Rattle.og_request.specs.declared.Response.TheVariants.{Shared as SharedLine, Exclusive as ExclusiveLine, OwnerAck as HomeLineIsGood}
use Rattle.og_request.specs.declared.Held.{Held}
use Rattle.og_request.specs.declared.Held.TheVariants.{Shared as ShareWith, Exclusive as GiveTo, Poison as GiveBack}
use Rattle.og_request.specs.Request.{Requested}
use Rattle.og_processor.specs.State.{ProcessorState}
use Rattle.og_relate.specs.Data.{Post, Cpu, HomeSide, Mover}
use Rattle.og_relate.specs.Places.{AskAt, ResponseAt, InterventionAt, Stands, is_at, ask_of, got_message, response_message, held_message, kept_ask, kept_response, kept_intervention, kept_collect}
use Rattle.og_relate.specs.Sim.{NodeShows, want_at, acks_at, victim_at}
use Rattle.og_relate.proofs.Parts.{apart_number}
use Rattle.og_seen.specs.Numbers.{Sizes, setup_seen}
use Rattle.og_seen.specs.Caches.{copy_seen}
use Rattle.og_seen.specs.Messages.{frame_of_block}
use Rattle.og_seen.specs.Harts.{Hart, harts_seen}
use Rattle.og_seen.specs.Processors.{want_seen, got_seen, response_seen, intervention_seen, held_seen, request_seen, slot_seen, cpu_seen}
use Rattle.og_seen.specs.Sound.{IsBlock}
use Rattle.og_seen.specs.Events.{Shows}
use Rattle.og_refine_requester.proofs.Facts.{copy_at}

-- what the cells of a block have of an actor's request for it, and of its parts that came
pub record Meets (b : Cells Line) (p : ℕ) (x : ProcessorState) (r : Requested) : Type 0 where
  pub want : b.want p ≡ want_seen r.want r.marked
  pub copy : b.copy p ≡ copy_seen (look_of x.cache r.block)
  pub reply : (a : Reply) → r.reply ≡ Some a → b.ask p ≡ ask_of (got_seen (Some a))
  pub response : (v : Response) → r.response ≡ Some v → b.response p ≡ response_seen (Some v)
  pub held : (h : Held) → r.held ≡ Some h → has_intervention (b.intervention p) ≡ true

-- and what the theory says of it
pub record Here (n : ℕ) (l : Line) (b : Cells Line) (p : ℕ) (s : Sizes) (x : ProcessorState) (r : Requested) : Type 0 where
  pub meets : Meets b p x r
  pub acks : b.acks p ≡ r.acks
  pub victim : b.victim p ≡ victim_at (frame_of_block s r.block) r.block.number (slot_seen s x.victim)
  pub local : Local n l b p
  pub bounded : due (b.ask p) < n

-- a request is at its own block
at_own : (s : Sizes) (r : Requested) → is_at (frame_of_block s r.block) r.block.number (request_seen s r) ≡ true
at_own s r = same (frame_of_block s r.block) r.block.number
  where
    same : (f k : ℕ) → (nat_eq f f && nat_eq k k) ≡ true
    same f k = grind (arith, nat_tests)

-- what is kept of parts that came
got_is : (f k p : ℕ) (a : Reply) → got_message f k p (got_seen (Some a)) ≡ Some (OfBlock f k (Asked p (ask_of (got_seen (Some a)))))
got_is f k p (SharedPart line) = refl
got_is f k p (ExclusivePart line acks) = refl
got_is f k p (SpeculativePart line) = refl
got_is f k p (UpgradePart acks) = refl
got_is f k p NakPart = refl
got_is f k p PoisonErrorPart = refl

-- the owner's response
response_is : (f k p : ℕ) (v : Response) → response_message f k p (response_seen (Some v)) ≡ Some (OfBlock f k (Answered p (response_seen (Some v))))
response_is f k p (SharedLine line) = refl
response_is f k p (ExclusiveLine line) = refl
response_is f k p HomeLineIsGood = refl

-- the intervention that is held
held_is : (s : Sizes) (f k p : ℕ) (h : Held) → (held_message {L = Line} f k p (intervention_seen s h) ≡ Some (OfBlock f k (Intervened p (intervention_seen s h)))) × (has_intervention (intervention_seen s h) ≡ true)
held_is s f k p (ShareWith r) = (refl, refl)
held_is s f k p (GiveTo r) = (refl, refl)
held_is s f k p GiveBack = (refl, refl)

-- where a processor asks for a block, the world has it asking
pub here : (image : ImageState) (s : Sizes) (cpu : ℕ → Cpu Line Hart) (home : ℕ → HomeSide Line) (mover : Mover Line) (flight : List (Post Line)) (w : World Line) (p : ℕ) (x : ProcessorState) (r : Requested) →
    Shows image s cpu home mover flight w → p < s.nodes → cpu p ≡ cpu_seen s x → x.request ≡ Some r → IsBlock s r.block →
    Here (s.nodes + 1) (w.pages.newest (frame_of_block s r.block) r.block.number) (w.block (frame_of_block s r.block) r.block.number) p s x r
here image s cpu home mover flight w p x r sim lp cp rq there = record {
  meets = record {
    want = shows.want f k ∙ (ap (want_at f k) asks ∙ ap (λ (t : Bool). cond t (want_seen r.want r.marked) Idle) own);
    copy = shows.copy f k ∙ copy_at s x.cache r.block there.0;
    reply = λ a e. (stands_ask (Some a) e (Asked p (ask_of (got_seen (Some a)))) (got_is f k p a)).2.1;
    response = λ v e. (stands_response (Some v) e (Answered p (response_seen (Some v))) (response_is f k p v)).2.1;
    held = λ h e. (let st = stands_held (Some h) e (Intervened p (intervention_seen s h)) (held_is s f k p h).0 in ap has_intervention st.2.1 ∙ (held_is s f k p h).1);
  };
  acks = shows.acks f k ∙ (ap (acks_at f k) asks ∙ ap (λ (t : Bool). cond t r.acks 0) own);
  victim = shows.victim f k;
  local = (inv.link f k there.1).invariant.each p lp1;
  bounded = replies_bounded (s.nodes + 1) s.nodes (setup_seen s).pages 32 w sim.reached f k p there.1 lp1;
}
  where
    f : ℕ
    f = frame_of_block s r.block

    k : ℕ
    k = r.block.number

    lp1 : p < s.nodes + 1
    lp1 = omega arith

    own : is_at f k (request_seen s r) ≡ true
    own = at_own s r

    apart : nat_eq p s.nodes ≡ false
    apart = apart_number s.nodes p lp

    asks : option_map (request_seen s) x.request ≡ Some (request_seen s r)
    asks = ap (option_map (request_seen s)) rq

    here_asks : (cpu p).request ≡ Some (request_seen s r)
    here_asks = ap (λ (c : Cpu Line Hart). c.request) cp ∙ asks

    shows : NodeShows (harts_seen image s) p (cpu_seen s x) w
    shows = subst (λ (c : Cpu Line Hart). NodeShows (harts_seen image s) p c w) cp (sim.nodes p lp)

    inv : Invariant Line (s.nodes + 1) s.nodes (setup_seen s).pages 32 w
    inv = reached (s.nodes + 1) s.nodes (setup_seen s).pages 32 w sim.reached

    stands_ask : (a : Option Reply) → r.reply ≡ a → (m : BlockMessage Line) → got_message f k p (got_seen a) ≡ Some (OfBlock f k m) → Stands (setup_seen s) w (OfBlock f k m)
    stands_ask a e m g = sim.keeps (AskAt f k p) (OfBlock f k m)
        (ap (λ (t : Bool). cond t (kept_collect f k p mover.job) (kept_ask f k p (cpu p).request)) apart ∙ (ap (kept_ask f k p) here_asks ∙ (ap (λ (t : Bool). cond t (got_message f k p (got_seen r.reply)) None) own ∙ (ap (λ (o : Option Reply). got_message f k p (got_seen o)) e ∙ g))))

    stands_response : (v : Option Response) → r.response ≡ v → (m : BlockMessage Line) → response_message f k p (response_seen v) ≡ Some (OfBlock f k m) → Stands (setup_seen s) w (OfBlock f k m)
    stands_response v e m g = sim.keeps (ResponseAt f k p) (OfBlock f k m)
        (ap (λ (t : Bool). cond t None (kept_response f k p (cpu p).request)) apart ∙ (ap (kept_response f k p) here_asks ∙ (ap (λ (t : Bool). cond t (response_message f k p (response_seen r.response)) None) own ∙ (ap (λ (o : Option Response). response_message f k p (response_seen o)) e ∙ g))))

    stands_held : (h : Option Held) → r.held ≡ h → (m : BlockMessage Line) → held_message f k p (held_seen s h) ≡ Some (OfBlock f k m) → Stands (setup_seen s) w (OfBlock f k m)
    stands_held h e m g = sim.keeps (InterventionAt f k p) (OfBlock f k m)
        (ap (λ (t : Bool). cond t None (kept_intervention f k p (cpu p).request)) apart ∙ (ap (kept_intervention f k p) here_asks ∙ (ap (λ (t : Bool). cond t (held_message f k p (held_seen s r.held)) None) own ∙ (ap (λ (o : Option Held). held_message f k p (held_seen s o)) e ∙ g))))
