-- Where a part ends a request, the end has its rows: an upgrade has its copy, and a held intervention meets no shared one.
use Rattle.std.proofs.Common.{◌≡◌, ◌≢◌, ℕ, Bool, true, false, not, ◌||◌, nat_eq, arith, refl, sym, ap, ◌∙◌, Option, None, Some, inl, inr}
use Rattle.std.proofs.lemmas.Bool.{cases_Bool}
use Rattle.std.proofs.lemmas.Bool.Decides.{nat_tests}
use Rattle.std.specs.Prelude.{is_none, option_map, if◌then◌else◌}
use Rattle.og_base.specs.declared.Block.{Block}
use Rattle.og_line.specs.declared.Line.{Line}
use Rattle.og_line.specs.declared.Mode.{Mode}
use Rattle.og_line.specs.declared.Mode.TheVariants as mode
use Rattle.og_block.specs.State.{Block as Cells, Copy, Want as SeenWant, Idle, Reading, Ask, SharedReply, SpeculativeReply, NegativeAck, PoisonError, Response as SeenResponse, SharedResponse, OwnerAck, Back, Victim, Free, Intervention}
use Rattle.og_block.specs.Rows.{has_intervention}
use Rattle.og_block.specs.Invariant.{Local, Fits_back, Intervened_by, is_holder, will_fill, trusts, trusts_at, is_shared, is_upgrade_reply, grants_upgrade}
use Rattle.og_cache.specs.Cache.{look_of, mode_of}
use Rattle.og_request.specs.declared.Want.{Want}
use Rattle.og_request.specs.declared.Want.TheVariants.{Read, ReadEx, Upgrade}
use Rattle.og_request.specs.declared.Held.{Held}
use Rattle.og_request.specs.declared.Reply.{Reply}
use Rattle.og_request.specs.declared.Reply.TheVariants.{Shared as SharedPart, Exclusive as ExclusivePart, Speculative as SpeculativePart, Upgrade as UpgradePart, Nak as NakPart, PoisonError as PoisonErrorPart}
use Rattle.og_request.specs.declared.Response.{Response}
use Rattle.og_request.specs.declared.Response.TheVariants.{Shared as SharedLine, Exclusive as ExclusiveLine, OwnerAck as HomeLineIsGood}
use Rattle.og_request.specs.declared.Outcome.{Outcome}
use Rattle.og_request.specs.declared.Outcome.TheVariants.{Waiting, Filled, Again, Poisoned}
use Rattle.og_request.specs.Request.{Requested, outcome_by, outcome_of}
use Rattle.og_victim.specs.Slot.{is_slot_of}
use Rattle.og_processor.specs.State.{ProcessorState}
use Rattle.og_processor.specs.Rows.{is_shared as is_shared_mode, stays_shared, leaves_shared, may_answer, ends_well}
use Rattle.og_relate.proofs.Hand.{rested}
use Rattle.og_seen.specs.Caches.{copy_seen}
use Rattle.og_seen.specs.Processors.{want_seen}
use Rattle.og_refine_requester.proofs.Facts.{both}
use Rattle.og_refine_requester.proofs.Finds.{Meets}

-- a shared copy that is seen is there
shared_look : (o : Option (Mode × Line)) → is_shared (copy_seen o) ≡ true → (l : Line) × (o ≡ Some (mode.Shared, l))
shared_look (Some (mode.Shared, l)) e = (l, refl)
shared_look (Some (mode.Clean, l)) e = absurd (cc)
shared_look (Some (mode.Dirty, l)) e = absurd (cc)
shared_look None e = absurd (cc)

-- its mode is the shared one
shared_mode : (o : Option (Mode × Line)) → is_shared_mode (option_map (λ copy. copy.0) o) ≡ is_shared (copy_seen o)
shared_mode (Some (mode.Shared, l)) = refl
shared_mode (Some (mode.Clean, l)) = refl
shared_mode (Some (mode.Dirty, l)) = refl
shared_mode None = refl

-- a request is outstanding
busy : (w : Want) (m : Bool) → want_seen w m ≢ Idle
busy Read m e = absurd (cc)
busy ReadEx m e = absurd (cc)
busy Upgrade m e = absurd (cc)

-- an intervention that no victim slot is to ignore is for the holder
is_held : (b : Cells Line) (q : ℕ) (v : Victim) (k : Back Line) (i : Intervention) → v ≡ Free → Fits_back v k i → Intervened_by b q v k i → has_intervention i ≡ true → is_holder b.entry b.revision q ≡ true
is_held b q v k i free fits by there = grind (arith, nat_tests)

-- a shared copy is trusted
trusted_copy : (c : Copy Line) (w : SeenWant) (a : Ask Line) (v : SeenResponse Line) → is_shared c ≡ true → trusts c w a v ≡ true
trusted_copy c w a v e = grind arith

-- so is a fill that will be shared
trusted_fill : (c : Copy Line) (w : SeenWant) (a : Ask Line) (v : SeenResponse Line) → will_fill w a v ≡ true → trusts c w a v ≡ true
trusted_fill c w a v e = grind arith

-- what leaves no shared copy may answer
any_of : (a c left : Bool) → left ≡ false → (a || c || not left) ≡ true
any_of a c left e = grind arith

-- and so may what holds nothing
first_of_three : (a c left : Bool) → a ≡ true → (a || c || not left) ≡ true
first_of_three a c left e = grind arith

module _ (n : ℕ) (u : Line) (b : Cells Line) (p : ℕ) (x : ProcessorState) (r : Requested) (local : Local n u b p) (meets : Meets b p x r) where
  -- the victim slot has nothing of the block
  pub free : b.victim p ≡ Free
  free = rested n u b p local (λ idle. busy r.want r.marked (sym meets.want ∙ idle))

  -- an upgrade that was granted without the line has its shared copy
  pub upgraded : (d : ℕ) → r.reply ≡ Some (UpgradePart d) → (l : Line) × (look_of x.cache r.block ≡ Some (mode.Shared, l))
  upgraded d e =
      let granted : is_upgrade_reply (b.ask p) ≡ true = ap is_upgrade_reply (meets.reply (UpgradePart d) e) in
      shared_look (look_of x.cache r.block) (sym (ap is_shared meets.copy) ∙ local.upgrades.granted granted)

  -- nothing is held by a request that leaves a copy to trust, and isn't a granted upgrade
  unheld : trusts_at b p ≡ true → grants_upgrade (b.want p) (b.ask p) ≡ false → r.held ≡ None
  unheld trusted refused = by r.held refl
    where
      by : (o : Option Held) → r.held ≡ o → o ≡ None
      by None e = refl
      by (Some h) e =
          let holder : is_holder b.entry b.revision p ≡ true = is_held b p (b.victim p) (b.back p) (b.intervention p) free local.backs local.intervened (meets.held h e) in
          let granted : grants_upgrade (b.want p) (b.ask p) ≡ true = local.upgrades.held holder trusted in
          absurd (cc)

  -- no shared copy is left
  none_left : (o : Outcome) → leaves_shared x r o ≡ false → may_answer x r o ≡ true
  none_left o e = any_of (is_none r.held) (is_slot_of x.victim r.block) (leaves_shared x r o) e

  -- or nothing is held
  none_held : (o : Outcome) → r.held ≡ None → may_answer x r o ≡ true
  none_held o e = first_of_three (is_none r.held) (is_slot_of x.victim r.block) (leaves_shared x r o) (ap (λ (h : Option Held). is_none h) e)

  -- a shared fill that may be trusted
  filled_well : (l : Line) → will_fill (b.want p) (b.ask p) (b.response p) ≡ true → grants_upgrade (b.want p) (b.ask p) ≡ false → ends_well x r (Filled mode.Shared (Some l)) ≡ true
  filled_well l fills refused = none_held (Filled mode.Shared (Some l)) (unheld (trusted_fill (b.copy p) (b.want p) (b.ask p) (b.response p) fills) refused)

  -- where a copy is shared and no upgrade was granted, nothing is held
  left_well : (o : Outcome) → leaves_shared x r o ≡ is_shared_mode (mode_of x.cache r.block) → grants_upgrade (b.want p) (b.ask p) ≡ false → may_answer x r o ≡ true
  left_well o same refused = elim (cases_Bool (is_shared_mode (mode_of x.cache r.block))) [
    | inl t ↦ (let sh : is_shared (b.copy p) ≡ true = ap is_shared meets.copy ∙ (sym (shared_mode (look_of x.cache r.block)) ∙ t) in none_held o (unheld (trusted_copy (b.copy p) (b.want p) (b.ask p) (b.response p) sh) refused))
    | inr t ↦ none_left o (same ∙ t)
  ]

  -- an end whose reply grants no upgrade
  refused_by : (a : Ask Line) → b.ask p ≡ a → ((w : SeenWant) → grants_upgrade w a ≡ false) → grants_upgrade (b.want p) (b.ask p) ≡ false
  refused_by a e none = ap (grants_upgrade (b.want p)) e ∙ none (b.want p)

  -- ---- case by case

  -- a request that waits for more
  waits : ends_well x r Waiting ≡ true
  waits = none_left Waiting refl

  -- the hart asks again
  again : (w : Want) (a : Ask Line) → r.want ≡ w → ((block : Block) → stays_shared x w block ≡ is_shared_mode (mode_of x.cache block)) → b.ask p ≡ a → ((w : SeenWant) → grants_upgrade w a ≡ false) → ends_well x r Again ≡ true
  again w a ew stays ea none = left_well Again (ap (λ (w : Want). stays_shared x w r.block) ew ∙ stays r.block) (refused_by a ea none)

  -- a refused upgrade drops its copy
  dropped : r.want ≡ Upgrade → ends_well x r Again ≡ true
  dropped ew = none_left Again (ap (λ (w : Want). stays_shared x w r.block) ew)

  -- the page has moved away
  forgotten : r.reply ≡ Some PoisonErrorPart → ends_well x r Poisoned ≡ true
  forgotten er = left_well Poisoned refl (refused_by PoisonError (meets.reply PoisonErrorPart er) (λ w. refl))

  -- a shared fill
  shared : (l : Line) (a : Ask Line) (v : SeenResponse Line) → b.want p ≡ Reading false → b.ask p ≡ a → b.response p ≡ v → will_fill (Reading false) a v ≡ true → ((w : SeenWant) → grants_upgrade w a ≡ false) → ends_well x r (Filled mode.Shared (Some l)) ≡ true
  shared l a v ew ea ev fills none = filled_well l (cc) (refused_by a ea none)

  -- a clean fill
  clean : (l : Line) → ends_well x r (Filled mode.Clean (Some l)) ≡ true
  clean l = none_left (Filled mode.Clean (Some l)) refl

  -- a fill that is written
  dirty : (l : Line) → ends_well x r (Filled mode.Dirty (Some l)) ≡ true
  dirty l = none_left (Filled mode.Dirty (Some l)) refl

  -- an upgrade that is filled by its own copy
  upgrades : (d : ℕ) → r.reply ≡ Some (UpgradePart d) → ends_well x r (Filled mode.Dirty None) ≡ true
  upgrades d er =
      let copy : is_shared_mode (mode_of x.cache r.block) ≡ true = ap (λ (o : Option (Mode × Line)). is_shared_mode (option_map (λ copy. copy.0) o)) (upgraded d er).1 in
      let may : may_answer x r (Filled mode.Dirty None) ≡ true = none_left (Filled mode.Dirty None) refl in
      both (is_shared_mode (mode_of x.cache r.block)) (may_answer x r (Filled mode.Dirty None)) copy may

  -- a fill once all acknowledgements are there
  counted : (line : Option Line) → ends_well x r (Filled mode.Dirty line) ≡ true → (v : Bool) → ends_well x r (if v then Filled mode.Dirty line else Waiting) ≡ true
  counted line e true = e
  counted line e false = waits

  -- by what is wanted and the parts
  by : (w : Want) (m : Bool) (rep : Option Reply) (res : Option Response) → r.want ≡ w → r.marked ≡ m → r.reply ≡ rep → r.response ≡ res → ends_well x r (outcome_by w m rep res r.acks) ≡ true
  by Read m None res ew em er ev = waits
  by Read true (Some (SharedPart l)) res ew em er ev = again Read (SharedReply l) ew (λ block. refl) (meets.reply (SharedPart l) er) (λ w. refl)
  by Read false (Some (SharedPart l)) res ew em er ev = shared l (SharedReply l) (b.response p) (let a = meets.want in cc) (meets.reply (SharedPart l) er) refl refl (λ w. refl)
  by Read m (Some (ExclusivePart l d)) res ew em er ev = clean l
  by Read m (Some (SpeculativePart l)) None ew em er ev = waits
  by Read true (Some (SpeculativePart l)) (Some (SharedLine v)) ew em er ev = again Read (SpeculativeReply l) ew (λ block. refl) (meets.reply (SpeculativePart l) er) (λ w. refl)
  by Read false (Some (SpeculativePart l)) (Some (SharedLine v)) ew em er ev = shared v (SpeculativeReply l) (SharedResponse v) (let a = meets.want in cc) (meets.reply (SpeculativePart l) er) (meets.response (SharedLine v) ev) refl (λ w. refl)
  by Read m (Some (SpeculativePart l)) (Some (ExclusiveLine v)) ew em er ev = waits
  by Read true (Some (SpeculativePart l)) (Some HomeLineIsGood) ew em er ev = again Read (SpeculativeReply l) ew (λ block. refl) (meets.reply (SpeculativePart l) er) (λ w. refl)
  by Read false (Some (SpeculativePart l)) (Some HomeLineIsGood) ew em er ev = shared l (SpeculativeReply l) OwnerAck (let a = meets.want in cc) (meets.reply (SpeculativePart l) er) (meets.response HomeLineIsGood ev) refl (λ w. refl)
  by Read m (Some (UpgradePart d)) res ew em er ev = waits
  by Read m (Some NakPart) res ew em er ev = again Read NegativeAck ew (λ block. refl) (meets.reply NakPart er) (λ w. refl)
  by Read m (Some PoisonErrorPart) res ew em er ev = forgotten er
  by ReadEx m None res ew em er ev = waits
  by ReadEx m (Some (SharedPart l)) res ew em er ev = waits
  by ReadEx m (Some (ExclusivePart l d)) res ew em er ev = counted (Some l) (dirty l) (nat_eq r.acks d)
  by ReadEx m (Some (SpeculativePart l)) None ew em er ev = waits
  by ReadEx m (Some (SpeculativePart l)) (Some (SharedLine v)) ew em er ev = waits
  by ReadEx m (Some (SpeculativePart l)) (Some (ExclusiveLine v)) ew em er ev = dirty v
  by ReadEx m (Some (SpeculativePart l)) (Some HomeLineIsGood) ew em er ev = dirty l
  by ReadEx m (Some (UpgradePart d)) res ew em er ev = waits
  by ReadEx m (Some NakPart) res ew em er ev = again ReadEx NegativeAck ew (λ block. refl) (meets.reply NakPart er) (λ w. refl)
  by ReadEx m (Some PoisonErrorPart) res ew em er ev = forgotten er
  by Upgrade m None res ew em er ev = waits
  by Upgrade m (Some (SharedPart l)) res ew em er ev = waits
  by Upgrade m (Some (ExclusivePart l d)) res ew em er ev = counted (Some l) (dirty l) (nat_eq r.acks d)
  by Upgrade m (Some (SpeculativePart l)) res ew em er ev = waits
  by Upgrade m (Some (UpgradePart d)) res ew em er ev = counted None (upgrades d er) (nat_eq r.acks d)
  by Upgrade m (Some NakPart) res ew em er ev = dropped ew
  by Upgrade m (Some PoisonErrorPart) res ew em er ev = forgotten er

  -- whatever the parts make of the request has its rows
  pub well : ends_well x r (outcome_of r) ≡ true
  unfolding outcome_of
  well = by r.want r.marked r.reply r.response refl refl refl refl
