-- What the homes do with a message: each function is a row of the theory, or two.
use Rattle.std.specs.Prelude.{ℕ, zero, suc, Bool, true, false, cond, nat_eq, List, [], ◌∷◌, ◌++◌}
use Rattle.std.proofs.Common.{Option, None, Some}
use Rattle.og_slots.specs.Count.{count}
use Rattle.og_block.specs.State.{others, is_same}
use Rattle.og_block.specs.Rows.{with_sharer}
use Rattle.og_pages.specs.State.{put_pair, put}
use Rattle.og_relate.specs.Data.{Kind, KSharedReply, KSpecReply, KExclusiveReply, KNak, KPoisonError, KInterveneShared, KInterveneEx, KInvalidate, KHot, KWbAck, KWbBusyAck, KSharedResponse, KExclusiveResponse, KPoisonReply, Post, HomeEntry, HUnowned, HShared, HExclusive, HBusyShared, HBusyExclusive, HBusyPoison, HPoison, HomeSide, Setup}

-- what a home answers: its side after it, and letters
abbrev pub Answer : (L : Type 0) → Type 0
Answer L = HomeSide L × List (Post L)

-- the answer to the request counts where it is neither a Nak nor a PoisonError
abbrev pub counts_at : HomeEntry → Bool
counts_at HUnowned = true
counts_at (HShared t) = true
counts_at (HExclusive q) = true
counts_at e = false

abbrev pub is_busy_home : HomeEntry → Bool
is_busy_home (HBusyShared o p) = true
is_busy_home (HBusyExclusive o p r) = true
is_busy_home (HBusyPoison o) = true
is_busy_home e = false

module _ {L : Type 0} where
  abbrev pub letter : ℕ → ℕ → Kind L → Post L
  letter a b k = record { from = a; to = b; kind = k }

  -- to each of the first i nodes that shares the block with r, rising
  abbrev pub invalidations : ℕ → ℕ → ℕ → ℕ → (ℕ → Bool) → ℕ → List (Post L)
  invalidations a f k r t zero = []
  invalidations a f k r t (suc i) = invalidations a f k r t i ++ cond (others t r i) (letter a i (KInvalidate f k r) ∷ []) []

  abbrev pub with_entry : HomeSide L → ℕ → ℕ → HomeEntry → HomeSide L
  with_entry h f k e = record h { entry = put_pair h.entry f k e }

  abbrev pub with_block : HomeSide L → ℕ → ℕ → HomeEntry → L → HomeSide L
  with_block h f k e l = record h { entry = put_pair h.entry f k e; line = put_pair h.line f k l }

  abbrev pub serve_read : Setup → ℕ → HomeSide L → ℕ → ℕ → ℕ → HomeEntry → Answer L
  serve_read s a h f k p HUnowned = (with_entry h f k (HExclusive p), letter a p (KExclusiveReply f k (h.line f k) 0) ∷ [])
  serve_read s a h f k p (HShared t) = (with_entry h f k (HShared (with_sharer s.sharing p t)), letter a p (KSharedReply f k (h.line f k)) ∷ [])
  serve_read s a h f k p (HExclusive q) = cond (nat_eq q p) (h, letter a p (KExclusiveReply f k (h.line f k) 0) ∷ []) (with_entry h f k (HBusyShared q p), letter a q (KInterveneShared f k p) ∷ letter a p (KSpecReply f k (h.line f k)) ∷ [])
  serve_read s a h f k p HPoison = (h, letter a p (KPoisonError f k) ∷ [])
  serve_read s a h f k p e = (h, letter a p (KNak f k) ∷ [])

  abbrev pub serve_read_exclusive : Setup → ℕ → HomeSide L → ℕ → ℕ → ℕ → HomeEntry → Answer L
  serve_read_exclusive s a h f k p HUnowned = (with_entry h f k (HExclusive p), letter a p (KExclusiveReply f k (h.line f k) 0) ∷ [])
  serve_read_exclusive s a h f k p (HShared t) = (with_entry h f k (HExclusive p), invalidations a f k p t s.nodes ++ letter a p (KExclusiveReply f k (h.line f k) (count s.nodes (others t p))) ∷ [])
  serve_read_exclusive s a h f k p (HExclusive q) = cond (nat_eq q p) (h, letter a p (KExclusiveReply f k (h.line f k) 0) ∷ []) (with_entry h f k (HBusyExclusive q p false), letter a q (KInterveneEx f k p) ∷ letter a p (KSpecReply f k (h.line f k)) ∷ [])
  serve_read_exclusive s a h f k p HPoison = (h, letter a p (KPoisonError f k) ∷ [])
  serve_read_exclusive s a h f k p e = (h, letter a p (KNak f k) ∷ [])

  -- a write-back of line l; none where there is no row
  abbrev pub serve_back : Setup → ℕ → HomeSide L → ℕ → ℕ → ℕ → L → HomeEntry → Option (Answer L)
  serve_back s a h f k p l (HExclusive q) = cond (nat_eq q p) (Some (with_block h f k HUnowned l, letter a p (KWbAck f k) ∷ [])) None
  serve_back s a h f k p l (HBusyShared q r) = cond (nat_eq q p) (Some (with_block h f k (HShared (λ x. is_same s.sharing x r)) l, letter a r (KSharedResponse f k l) ∷ letter a p (KWbBusyAck f k) ∷ [])) None
  serve_back s a h f k p l (HBusyExclusive q r false) = cond (nat_eq q p) (Some (with_block h f k (HExclusive r) l, letter a r (KExclusiveResponse f k l) ∷ letter a p (KWbBusyAck f k) ∷ [])) (cond (nat_eq r p) (Some (with_block h f k (HBusyExclusive q p true) l, letter a p (KWbAck f k) ∷ [])) None)
  serve_back s a h f k p l (HBusyPoison q) = cond (nat_eq q p) (Some (with_block h f k HPoison l, letter a s.nodes (KPoisonReply f k l 0) ∷ letter a p (KWbBusyAck f k) ∷ [])) None
  serve_back s a h f k p l e = None

  -- a home's side with a clean frame
  abbrev pub cleaned : HomeSide L → ℕ → HomeSide L
  cleaned h f = record h { entry = λ g j. cond (nat_eq g f) HUnowned (h.entry g j); noticed = put h.noticed f false }

  -- a counted request makes the frame's notice go to the mover, or doesn't: what the counters say, with the requester's count and
  -- the greatest one of the others
  abbrev pub notice : Setup → ℕ → HomeSide L → ℕ → ℕ → Option (ℕ × ℕ) → Answer L
  notice s a h f p None = (h, [])
  notice s a h f p (Some x) = (record h { noticed = put h.noticed f true }, letter a s.nodes (KHot f p x.0 x.1) ∷ [])

  -- one answer after another
  abbrev pub and_then : Answer L → (HomeSide L → Answer L) → Answer L
  and_then x g = ((g x.0).0, x.1 ++ (g x.0).1)

  abbrev pub counted : Setup → ℕ → ℕ → ℕ → HomeEntry → Option (ℕ × ℕ) → Answer L → Answer L
  counted s a f p e hot x = cond (counts_at e) (and_then x (λ h. notice s a h f p hot)) x

  abbrev pub take_read : Setup → ℕ → HomeSide L → ℕ → ℕ → ℕ → Option (ℕ × ℕ) → Answer L
  take_read s a h f k p hot = counted s a f p (h.entry f k) hot (serve_read s a h f k p (h.entry f k))

  abbrev pub take_read_exclusive : Setup → ℕ → HomeSide L → ℕ → ℕ → ℕ → Option (ℕ × ℕ) → Answer L
  take_read_exclusive s a h f k p hot = counted s a f p (h.entry f k) hot (serve_read_exclusive s a h f k p (h.entry f k))
