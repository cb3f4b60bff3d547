-- A node's act that misses: a block is thrown out where the set is full, and a request goes out.
use Rattle.std.specs.Prelude.{ℕ, Bool, true, false, List, [], ◌∷◌}
use Rattle.std.proofs.Common.{Option, None, Some}
use Rattle.og_block.specs.State.{Copy, NoCopy, Shared, Dirty, Want, Reading, Writing, Upgrading, NoResponse, NoIntervention}
use Rattle.og_pages.specs.State.{put_pair}
use Rattle.og_relate.specs.Data.{Kind, KRead, KReadEx, KUpgrade, KWriteBack, Post, NoGot, Request, Cpu, Setup}
use Rattle.og_relate.specs.Steps.{letter}
use Rattle.og_relate.specs.Node.{with_request, with_copy, chain}

-- a block that a full set throws out
pub record Block : Type 0 where
  pub frame : ℕ
  pub number : ℕ

module _ {L : Type 0} where
  abbrev pub request_for : ℕ → ℕ → Want → Request L
  request_for f k w = record { frame = f; number = k; want = w; got = NoGot; response = NoResponse; acks = 0; held = NoIntervention }

  abbrev pub ask_kind : Want → ℕ → ℕ → Kind L
  ask_kind Writing f k = KReadEx f k
  ask_kind Upgrading f k = KUpgrade f k
  ask_kind w f k = KRead f k

  abbrev pub wanted : Bool → Copy L → Want
  wanted true c = Reading false
  wanted false (Shared l) = Upgrading
  wanted false c = Writing

module _ {L : Type 0} {H : Type 0} where
  abbrev pub throw_by : ℕ → ℕ → Block → Cpu L H → Copy L → Cpu L H × List (Post L)
  throw_by p h b c (Dirty l) = (record c { cache = put_pair c.cache b.frame b.number NoCopy; slot = Some (record { frame = b.frame; number = b.number; busy = false; seen = false }) }, letter p h (KWriteBack b.frame b.number l) ∷ [])
  throw_by p h b c x = (with_copy c b.frame b.number NoCopy, [])

  -- the victim is what reserve_way of the cache says
  abbrev pub throw_out : Setup → ℕ → Option Block → Cpu L H → Cpu L H × List (Post L)
  throw_out s p None c = (c, [])
  throw_out s p (Some b) c = throw_by p (s.home b.frame) b c (c.cache b.frame b.number)

  abbrev pub ask : Setup → ℕ → ℕ → ℕ → Want → Cpu L H → Cpu L H × List (Post L)
  ask s p f k w c = (with_request c (request_for f k w), letter p (s.home f) (ask_kind w f k) ∷ [])

  abbrev pub miss : Setup → ℕ → ℕ → ℕ → Want → Option Block → Cpu L H → Cpu L H × List (Post L)
  miss s p f k w victim c = chain (throw_out s p victim c) (λ d. ask s p f k w d)
