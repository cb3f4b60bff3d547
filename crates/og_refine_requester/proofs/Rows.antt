-- The requester's table has a row for each part that comes.
use Rattle.std.proofs.Common.{◌≡◌, ◌≢◌, ℕ, ◌<◌, ◌≤◌, Bool, true, ◌&&◌, arith, refl, sym, subst, Option, None, Some}
use Rattle.std.proofs.lemmas.Bool.Decides.{nat_tests}
use Rattle.std.specs.Prelude.{is_none, ◌==◌, nat_le, nat_lt}
use Rattle.og_base.specs.declared.Block.{Block}
use Rattle.og_line.specs.declared.Line.{Line}
use Rattle.og_msg.specs.declared.Kind.TheVariants as kind
use Rattle.og_block.specs.State.{Block as Cells, Want as SeenWant, Ask, SharedReply, SpeculativeReply, ExclusiveReply, UpgradeReply, NegativeAck, PoisonError, Response as SeenResponse, NoResponse, SharedResponse, ExclusiveResponse, OwnerAck}
use Rattle.og_block.specs.Invariant.{Fits_ask, grants}
use Rattle.og_block.specs.Balance.{is_speculative, due}
use Rattle.og_block.proofs.Balance.{balanced}
use Rattle.og_request.specs.declared.Want.{Want}
use Rattle.og_request.specs.declared.Want.TheVariants.{Read, ReadEx, Upgrade}
use Rattle.og_request.specs.declared.Reply.{Reply}
use Rattle.og_request.specs.declared.Reply.TheVariants.{Shared as SharedPart, Exclusive as ExclusivePart, Speculative as SpeculativePart, Upgrade as UpgradePart, Nak as NakPart, PoisonError as PoisonErrorPart}
use Rattle.og_request.specs.declared.Response.{Response}
use Rattle.og_request.specs.declared.Response.TheVariants.{Shared as SharedLine, Exclusive as ExclusiveLine, OwnerAck as HomeLineIsGood}
use Rattle.og_request.specs.Request.{Requested, awaits_response, fits_response, most_acks, is_new, speculates, responds, acknowledges, has_part}
use Rattle.og_processor.specs.State.{ProcessorState}
use Rattle.og_seen.specs.Numbers.{Sizes}
use Rattle.og_seen.specs.Processors.{want_seen, response_seen}
use Rattle.og_refine_requester.proofs.Facts.{both}
use Rattle.og_refine_requester.proofs.Finds.{Meets, Here}

-- ---- what was received is what stands

-- where no response stands none was received
response_gone : (b : Cells Line) (p : ℕ) (x : ProcessorState) (r : Requested) → Meets b p x r → b.response p ≡ NoResponse → r.response ≡ None
response_gone b p x r m e = by r.response refl
  where
    by : (o : Option Response) → r.response ≡ o → o ≡ None
    by None g = refl
    by (Some (SharedLine line)) g = absurd (let a = m.response (SharedLine line) g in cc)
    by (Some (ExclusiveLine line)) g = absurd (let a = m.response (ExclusiveLine line) g in cc)
    by (Some HomeLineIsGood) g = absurd (let a = m.response HomeLineIsGood g in cc)

-- where the speculative reply stands a response may come
awaited : (b : Cells Line) (p : ℕ) (x : ProcessorState) (r : Requested) → Meets b p x r → is_speculative (b.ask p) ≡ true → awaits_response r.reply ≡ true
awaited b p x r m e = by r.reply refl
  where
    by : (o : Option Reply) → r.reply ≡ o → awaits_response o ≡ true
    by None g = refl
    by (Some (SpeculativePart line)) g = refl
    by (Some (SharedPart line)) g = absurd (let a = m.reply (SharedPart line) g in grind arith)
    by (Some (ExclusivePart line n)) g = absurd (let a = m.reply (ExclusivePart line n) g in grind arith)
    by (Some (UpgradePart n)) g = absurd (let a = m.reply (UpgradePart n) g in grind arith)
    by (Some NakPart) g = absurd (let a = m.reply NakPart g in grind arith)
    by (Some PoisonErrorPart) g = absurd (let a = m.reply PoisonErrorPart g in grind arith)

-- ---- which requests a part belongs to

-- a shared reply is for a read
shared_fits : (w : Want) (m : Bool) (l : Line) (v : SeenResponse Line) (k : ℕ) → Fits_ask (want_seen w m) (SharedReply l) v k → (w ≡ Read) × (v ≡ NoResponse) × (k ≡ 0)
shared_fits Read m l NoResponse k f = (refl, refl, f)
shared_fits w m l v k f = absurd f

-- an exclusive one comes without a response, and for a read it names no acknowledgements
exclusive_fits : (w : Want) (m : Bool) (l : Line) (d : ℕ) (v : SeenResponse Line) (k : ℕ) → Fits_ask (want_seen w m) (ExclusiveReply l d) v k → (v ≡ NoResponse) × (w ≡ Read → (k ≡ 0) × (d ≡ 0))
exclusive_fits Read m l d NoResponse k f = (refl, λ e. f)
exclusive_fits ReadEx m l d NoResponse k f = (refl, λ e. absurd (cc))
exclusive_fits Upgrade m l d NoResponse k f = (refl, λ e. absurd (cc))
exclusive_fits w m l d v k f = absurd f

-- a speculative one is for no upgrade
speculative_fits : (w : Want) (m : Bool) (l : Line) (v : SeenResponse Line) (k : ℕ) → Fits_ask (want_seen w m) (SpeculativeReply l) v k → (k ≡ 0) × (w ≢ Upgrade)
speculative_fits Read m l NoResponse k f = (f, λ e. absurd (cc))
speculative_fits Read m l (SharedResponse u) k f = (f, λ e. absurd (cc))
speculative_fits Read m l OwnerAck k f = (f, λ e. absurd (cc))
speculative_fits ReadEx m l NoResponse k f = (f, λ e. absurd (cc))
speculative_fits ReadEx m l (ExclusiveResponse u) k f = (f, λ e. absurd (cc))
speculative_fits ReadEx m l OwnerAck k f = (f, λ e. absurd (cc))
speculative_fits w m l v k f = absurd f

-- a response beside it fits what is wanted
response_fits : (w : Want) (m : Bool) (l : Line) (o : Option Response) (k : ℕ) → Fits_ask (want_seen w m) (SpeculativeReply l) (response_seen o) k → fits_response w o ≡ true
response_fits w m l None k f = refl
response_fits Read m l (Some (SharedLine u)) k f = refl
response_fits Read m l (Some HomeLineIsGood) k f = refl
response_fits ReadEx m l (Some (ExclusiveLine u)) k f = refl
response_fits ReadEx m l (Some HomeLineIsGood) k f = refl
response_fits w m l (Some v) k f = absurd (grind arith)

-- an upgrade is granted to an upgrade
upgrade_fits : (w : Want) (m : Bool) (d : ℕ) (v : SeenResponse Line) (k : ℕ) → Fits_ask (want_seen w m) (UpgradeReply d) v k → (w ≡ Upgrade) × (v ≡ NoResponse)
upgrade_fits Upgrade m d NoResponse k f = (refl, refl)
upgrade_fits w m d v k f = absurd f

-- a refusal comes alone
refused_fits : (w : Want) (m : Bool) (v : SeenResponse Line) (k : ℕ) → Fits_ask (want_seen w m) NegativeAck v k → (v ≡ NoResponse) × (k ≡ 0)
refused_fits Read m NoResponse k f = (refl, f)
refused_fits ReadEx m NoResponse k f = (refl, f)
refused_fits Upgrade m NoResponse k f = (refl, f)
refused_fits w m v k f = absurd f

-- and so does the answer that the page has moved away
error_fits : (w : Want) (m : Bool) (v : SeenResponse Line) (k : ℕ) → Fits_ask (want_seen w m) PoisonError v k → (v ≡ NoResponse) × (k ≡ 0)
error_fits Read m NoResponse k f = (refl, f)
error_fits ReadEx m NoResponse k f = (refl, f)
error_fits Upgrade m NoResponse k f = (refl, f)
error_fits w m v k f = absurd f

-- a shared line of the owner is for a read
shared_answers : (w : Want) (m : Bool) (a : Ask Line) (l : Line) (k : ℕ) → Fits_ask (want_seen w m) a (SharedResponse l) k → (w ≡ Read) × (is_speculative a ≡ true) × (k ≡ 0)
shared_answers Read m (SpeculativeReply u) l k f = (refl, refl, f)
shared_answers w m a l k f = absurd (grind arith)

-- an exclusive one is for a write
exclusive_answers : (w : Want) (m : Bool) (a : Ask Line) (l : Line) (k : ℕ) → Fits_ask (want_seen w m) a (ExclusiveResponse l) k → (w ≡ ReadEx) × (is_speculative a ≡ true) × (k ≡ 0)
exclusive_answers ReadEx m (SpeculativeReply u) l k f = (refl, refl, f)
exclusive_answers w m a l k f = absurd (grind arith)

-- the owner's word that the home's line is good is for no upgrade
owner_answers : (w : Want) (m : Bool) (a : Ask Line) (k : ℕ) → Fits_ask (want_seen w m) a OwnerAck k → (w ≢ Upgrade) × (is_speculative a ≡ true) × (k ≡ 0)
owner_answers Read m (SpeculativeReply u) k f = (λ e. absurd (cc), refl, f)
owner_answers ReadEx m (SpeculativeReply u) k f = (λ e. absurd (cc), refl, f)
owner_answers w m a k f = absurd (grind arith)

-- an acknowledgement that is still due
due_fits : (w : Want) (m : Bool) (a : Ask Line) (v : SeenResponse Line) (k : ℕ) → Fits_ask (want_seen w m) a v k → grants a ≡ true → k < due a → (w ≢ Read) × (v ≡ NoResponse)
due_fits Read m (ExclusiveReply l d) NoResponse k f g lt = absurd (let z = f.1 in omega arith)
due_fits ReadEx m (ExclusiveReply l d) NoResponse k f g lt = (λ e. absurd (cc), refl)
due_fits Upgrade m (ExclusiveReply l d) NoResponse k f g lt = (λ e. absurd (cc), refl)
due_fits Upgrade m (UpgradeReply d) NoResponse k f g lt = (λ e. absurd (cc), refl)
due_fits w m a v k f g lt = absurd (grind arith)

-- ---- tests

-- nothing was received
new_by : (a : Option Reply) (v : Option Response) (k : ℕ) → a ≡ None → v ≡ None → k ≡ 0 → (is_none a && is_none v && (k == 0)) ≡ true
new_by a v k ea ev ek = grind (arith, nat_tests)

-- a first reply that names enough acknowledgements
counts_by : (a : Option Reply) (v : Option Response) (k d : ℕ) → a ≡ None → v ≡ None → k ≤ d → (is_none a && is_none v && nat_le k d) ≡ true
counts_by a v k d ea ev le = grind (arith, nat_tests)

-- a speculative reply that fits
speculates_by : (a : Option Reply) (fits : Bool) (k : ℕ) → a ≡ None → fits ≡ true → k ≡ 0 → (is_none a && fits && (k == 0)) ≡ true
speculates_by a fits k ea ef ek = grind (arith, nat_tests)

-- a response that fits
responds_by : (v : Option Response) (awaits : Bool) (k : ℕ) → v ≡ None → awaits ≡ true → k ≡ 0 → (is_none v && awaits && (k == 0)) ≡ true
responds_by v awaits k ev ea ek = grind (arith, nat_tests)

-- ---- the rows

module _ (n : ℕ) (u : Line) (b : Cells Line) (p : ℕ) (s : Sizes) (x : ProcessorState) (r : Requested) (h : Here n u b p s x r) where
  -- the parts that stand fit together
  fits : (a : Ask Line) (v : SeenResponse Line) → b.ask p ≡ a → b.response p ≡ v → Fits_ask (want_seen r.want r.marked) a v r.acks
  fits a v ea ev =
      subst (λ (w : SeenWant). Fits_ask w a v r.acks) h.meets.want (subst (λ (k : ℕ). Fits_ask (b.want p) a v k) h.acks (subst (λ (y : SeenResponse Line). Fits_ask (b.want p) a y (b.acks p)) ev (subst (λ (y : Ask Line). Fits_ask (b.want p) y (b.response p) (b.acks p)) ea h.local.asks)))

  -- acknowledgements that came are no more than the reply names
  few_acks : r.acks ≤ due (b.ask p)
  few_acks = let a = (balanced n u b p h.local).acknowledgements in let k = h.acks in omega arith

  -- a shared reply
  pub shared_row : (block : Block) (l : Line) → b.ask p ≡ SharedReply l → r.reply ≡ None → has_part r.want r (kind.SharedReply block l) ≡ true
  shared_row block l e none =
      let f = shared_fits r.want r.marked l (b.response p) r.acks (fits (SharedReply l) (b.response p) e refl) in
      subst (λ (w : Want). has_part w r (kind.SharedReply block l) ≡ true) (sym f.0) (new_by r.reply r.response r.acks none (response_gone b p x r h.meets f.1) f.2)

  -- an exclusive reply
  pub exclusive_row : (block : Block) (l : Line) (d : ℕ) → b.ask p ≡ ExclusiveReply l d → r.reply ≡ None → has_part r.want r (kind.ExclusiveReply block l d) ≡ true
  exclusive_row block l d e none = by r.want refl
    where
      f : (b.response p ≡ NoResponse) × (r.want ≡ Read → (r.acks ≡ 0) × (d ≡ 0))
      f = exclusive_fits r.want r.marked l d (b.response p) r.acks (fits (ExclusiveReply l d) (b.response p) e refl)

      gone : r.response ≡ None
      gone = response_gone b p x r h.meets f.0

      few : r.acks ≤ d
      few = subst (λ (a : Ask Line). r.acks ≤ due a) e few_acks

      by : (w : Want) → r.want ≡ w → has_part w r (kind.ExclusiveReply block l d) ≡ true
      by Read ew = both (is_new r) (d == 0) (new_by r.reply r.response r.acks none gone (f.1 ew).0) (let z = (f.1 ew).1 in grind (arith, nat_tests))
      by ReadEx ew = counts_by r.reply r.response r.acks d none gone few
      by Upgrade ew = counts_by r.reply r.response r.acks d none gone few

  -- a speculative reply
  pub speculative_row : (block : Block) (l : Line) → b.ask p ≡ SpeculativeReply l → r.reply ≡ None → has_part r.want r (kind.SpecReply block l) ≡ true
  speculative_row block l e none = by r.want refl
    where
      f : (r.acks ≡ 0) × (r.want ≢ Upgrade)
      f = speculative_fits r.want r.marked l (b.response p) r.acks (fits (SpeculativeReply l) (b.response p) e refl)

      fitting : (o : Option Response) → r.response ≡ o → fits_response r.want o ≡ true
      fitting None g = refl
      fitting (Some v) g = response_fits r.want r.marked l (Some v) r.acks (fits (SpeculativeReply l) (response_seen (Some v)) e (h.meets.response v g))

      row : speculates r ≡ true
      row = speculates_by r.reply (fits_response r.want r.response) r.acks none (fitting r.response refl) f.0

      by : (w : Want) → r.want ≡ w → has_part w r (kind.SpecReply block l) ≡ true
      by Read ew = row
      by ReadEx ew = row
      by Upgrade ew = absurd (f.1 ew)

  -- an upgrade that is granted
  pub upgrade_row : (block : Block) (d : ℕ) → b.ask p ≡ UpgradeReply d → r.reply ≡ None → has_part r.want r (kind.UpgradeReply block d) ≡ true
  upgrade_row block d e none =
      let f = upgrade_fits r.want r.marked d (b.response p) r.acks (fits (UpgradeReply d) (b.response p) e refl) in
      let few : r.acks ≤ d = subst (λ (a : Ask Line). r.acks ≤ due a) e few_acks in
      subst (λ (w : Want). has_part w r (kind.UpgradeReply block d) ≡ true) (sym f.0) (counts_by r.reply r.response r.acks d none (response_gone b p x r h.meets f.1) few)

  -- a refusal
  pub refused_row : (block : Block) → b.ask p ≡ NegativeAck → r.reply ≡ None → has_part r.want r (kind.Nak block) ≡ true
  refused_row block e none = by r.want
    where
      f : (b.response p ≡ NoResponse) × (r.acks ≡ 0)
      f = refused_fits r.want r.marked (b.response p) r.acks (fits NegativeAck (b.response p) e refl)

      row : is_new r ≡ true
      row = new_by r.reply r.response r.acks none (response_gone b p x r h.meets f.0) f.1

      by : (w : Want) → has_part w r (kind.Nak block) ≡ true
      by Read = row
      by ReadEx = row
      by Upgrade = row

  -- the answer that the page has moved away
  pub error_row : (block : Block) → b.ask p ≡ PoisonError → r.reply ≡ None → has_part r.want r (kind.PoisonError block) ≡ true
  error_row block e none = by r.want
    where
      f : (b.response p ≡ NoResponse) × (r.acks ≡ 0)
      f = error_fits r.want r.marked (b.response p) r.acks (fits PoisonError (b.response p) e refl)

      row : is_new r ≡ true
      row = new_by r.reply r.response r.acks none (response_gone b p x r h.meets f.0) f.1

      by : (w : Want) → has_part w r (kind.PoisonError block) ≡ true
      by Read = row
      by ReadEx = row
      by Upgrade = row

  -- a shared line of the owner
  pub shared_response_row : (block : Block) (l : Line) → b.response p ≡ SharedResponse l → r.response ≡ None → has_part r.want r (kind.SharedResponse block l) ≡ true
  shared_response_row block l e none =
      let f = shared_answers r.want r.marked (b.ask p) l r.acks (fits (b.ask p) (SharedResponse l) refl e) in
      subst (λ (w : Want). has_part w r (kind.SharedResponse block l) ≡ true) (sym f.0) (responds_by r.response (awaits_response r.reply) r.acks none (awaited b p x r h.meets f.1) f.2)

  -- an exclusive line of the owner
  pub exclusive_response_row : (block : Block) (l : Line) → b.response p ≡ ExclusiveResponse l → r.response ≡ None → has_part r.want r (kind.ExclusiveResponse block l) ≡ true
  exclusive_response_row block l e none =
      let f = exclusive_answers r.want r.marked (b.ask p) l r.acks (fits (b.ask p) (ExclusiveResponse l) refl e) in
      subst (λ (w : Want). has_part w r (kind.ExclusiveResponse block l) ≡ true) (sym f.0) (responds_by r.response (awaits_response r.reply) r.acks none (awaited b p x r h.meets f.1) f.2)

  -- the owner's word that the home's line is good
  pub owner_row : (block : Block) → b.response p ≡ OwnerAck → r.response ≡ None → has_part r.want r (kind.OwnerAck block) ≡ true
  owner_row block e none = by r.want refl
    where
      f : (r.want ≢ Upgrade) × (is_speculative (b.ask p) ≡ true) × (r.acks ≡ 0)
      f = owner_answers r.want r.marked (b.ask p) r.acks (fits (b.ask p) OwnerAck refl e)

      row : responds r ≡ true
      row = responds_by r.response (awaits_response r.reply) r.acks none (awaited b p x r h.meets f.1) f.2

      by : (w : Want) → r.want ≡ w → has_part w r (kind.OwnerAck block) ≡ true
      by Read ew = row
      by ReadEx ew = row
      by Upgrade ew = absurd (f.0 ew)

  -- an acknowledgement that is due; there are fewer than 255 actors
  pub ack_row : (block : Block) → grants (b.ask p) ≡ true → b.acks p < due (b.ask p) → n ≤ 255 → has_part r.want r (kind.InvalAck block) ≡ true
  ack_row block granted some few = by r.want refl
    where
      less : r.acks < due (b.ask p)
      less = subst (λ (k : ℕ). k < due (b.ask p)) h.acks some

      f : (r.want ≢ Read) × (b.response p ≡ NoResponse)
      f = due_fits r.want r.marked (b.ask p) (b.response p) r.acks (fits (b.ask p) (b.response p) refl refl) granted less

      most : (o : Option Reply) → r.reply ≡ o → r.acks < most_acks o
      most None g = let a = h.bounded in omega arith
      most (Some (ExclusivePart l d)) g = let a = h.meets.reply (ExclusivePart l d) g in subst (λ (y : Ask Line). r.acks < due y) a less
      most (Some (UpgradePart d)) g = let a = h.meets.reply (UpgradePart d) g in subst (λ (y : Ask Line). r.acks < due y) a less
      most (Some (SharedPart l)) g = absurd (let a = h.meets.reply (SharedPart l) g in grind arith)
      most (Some (SpeculativePart l)) g = absurd (let a = h.meets.reply (SpeculativePart l) g in grind arith)
      most (Some NakPart) g = absurd (let a = h.meets.reply NakPart g in grind arith)
      most (Some PoisonErrorPart) g = absurd (let a = h.meets.reply PoisonErrorPart g in grind arith)

      counted : (v : Option Response) (k m : ℕ) → v ≡ None → k < m → (is_none v && nat_lt k m) ≡ true
      counted v k m ev lt = grind (arith, nat_tests)

      row : acknowledges r ≡ true
      row = counted r.response r.acks (most_acks r.reply) (response_gone b p x r h.meets f.1) (most r.reply refl)

      by : (w : Want) → r.want ≡ w → has_part w r (kind.InvalAck block) ≡ true
      by Read ew = absurd (f.0 ew)
      by ReadEx ew = row
      by Upgrade ew = row
