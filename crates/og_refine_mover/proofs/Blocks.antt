-- What comes to the mover for the block that it collects or copies: the reply, an acknowledgement, the word that the home was busy, and the
-- word that the line was written. Each finds its row, and is rows of the theory.
use Rattle.std.proofs.Common.{◌≡◌, ℕ, ◌+◌, ◌<◌, ◌≤◌, ◌/◌, ◌&&◌, Bool, true, false, cond, nat_eq, nat_lt, nat_le, is_none, arith, List, ◌∷◌, Option, None, Some, option_map, refl, sym, ap, ◌∙◌, subst}
use Rattle.std.proofs.lemmas.Bool.Decides.{nat_tests}
use Rattle.og_base.specs.declared.Frame.{Frame}
use Rattle.og_base.specs.declared.Block.{Block}
use Rattle.og_base.specs.declared.Settings.{Settings}
use Rattle.og_base.specs.Names.{is_same_frame, is_same_block}
use Rattle.og_line.specs.declared.Line.{Line}
use Rattle.og_msg.specs.declared.Kind.{Kind}
use Rattle.og_msg.specs.declared.Kind.TheVariants.{Nak, InvalAck, PoisonReply, CopyDone}
use Rattle.og_image.specs.Image.{ImageState}
use Rattle.og_whole.specs.Events.{World}
use Rattle.og_pager.specs.PageTable.{PageTable}
use Rattle.og_mover.specs.declared.Reply.{Reply}
use Rattle.og_mover.specs.declared.Route.{Route}
use Rattle.og_mover.specs.declared.Phase.TheVariants.{Ask, Collect, Hold, Wait, Publish}
use Rattle.og_mover.specs.declared.Clearing.{Clearing}
use Rattle.og_mover.specs.declared.Clearing.TheVariants.{Tell}
use Rattle.og_mover.specs.declared.Job.{Job}
use Rattle.og_mover.specs.declared.Job.TheVariants.{Move, Reclaim}
use Rattle.og_mover.specs.Table.{MoverState, block, collect_ended, reply_taken, ack_taken, refusal_taken, copied_taken, when_moving, awaits_reply, has_ack_left, awaits_ack, awaits_refusal, awaits_copy, kind_taken, has_kind_row}
use Rattle.og_relate.specs.Data.{KPoisonReply, KNak, KCopyDone, Post, Cpu, HomeSide, MAsk, MCollect, MWait, MPublish}
use Rattle.og_relate.specs.Goes.{Goes}
use Rattle.og_relate.specs.Steps.{letter}
use Rattle.og_relate.specs.Laws.{machine}
use Rattle.og_relate.proofs.Take.{append_none}
use Rattle.og_relate_mover.specs.Steps.{with_job, ask_again, collected_by, take_reply, take_ack, take_copied}
use Rattle.og_relate_mover.proofs.BlockEvents.{reply_taken as reply_goes, ack_taken as ack_goes, refusal_taken as refusal_goes}
use Rattle.og_relate_mover.proofs.PageEvents.{copied_taken as copied_goes}
use Rattle.og_seen.specs.Numbers.{Sizes, is_there, frame_number, page_number, setup_seen}
use Rattle.og_seen.specs.Messages.{frame_of_block, kind_seen}
use Rattle.og_seen.specs.Harts.{Hart, harts_seen}
use Rattle.og_seen.specs.Movers.{reply_seen, phase_seen, clearing_seen, job_seen, mover_seen}
use Rattle.og_seen.specs.Sound.{AreSizes, IsMoverOf}
use Rattle.og_seen.specs.Events.{Shows, MoverGoes}
use Rattle.og_seen.proofs.Numbers.{there_below}
use Rattle.og_refine_mover.proofs.Tables.{table_of, same_frame}
use Rattle.og_refine_mover.proofs.Facts.{acks_named, acks_left}
use Rattle.og_refine_mover.proofs.Changes.{mover_of}
use Rattle.og_refine_mover.proofs.Routes.{route_of, goes_as}
use Rattle.og_refine_mover.proofs.Sent.{home_low, both, is_below}

-- the message has its row, and is rows of the theory
abbrev pub Takes : ImageState → Sizes → (ℕ → Cpu Line Hart) → (ℕ → HomeSide Line) → World Line → List (Post Line) → MoverState → ℕ → Kind → Type 0
Takes image s cpu home w rest m from k = ((nat_lt from m.pages.nodes && has_kind_row m from k) ≡ true) × MoverGoes image s cpu home rest w (kind_taken m from k)

-- where the mover shows a world with this message in flight to it
abbrev pub Comes : ImageState → Sizes → (ℕ → Cpu Line Hart) → (ℕ → HomeSide Line) → World Line → List (Post Line) → MoverState → ℕ → Kind → Type 0
Comes image s cpu home w rest m from k = Shows image s cpu home (mover_seen s m) (letter from s.nodes (kind_seen s k) ∷ rest) w

-- the tests of names pass where the names are equal
pub frame_test : (f g : Frame) → f ≡ g → is_same_frame f g ≡ true
frame_test f g e = let a : f.home ≡ g.home = ap (λ (x : Frame). x.home) e in let b : f.index ≡ g.index = ap (λ (x : Frame). x.index) e in grind (arith, nat_tests)

block_test : (b : Block) (f : Frame) (k : ℕ) → b.frame ≡ f → b.number ≡ k → is_same_block b (block f k) ≡ true
block_test b f k e n = both (is_same_frame b.frame f) (nat_eq b.number k) (frame_test b.frame f e) (grind (arith, nat_tests))

-- no reply is seen where none has come
none_came : (o : Option Reply) → option_map {U = Line × ℕ} (λ (r : Reply). (r.line, r.acks)) o ≡ None → is_none o ≡ true
none_came None e = refl
none_came (Some r) e = absurd (cc)

-- fewer have come than are named, or than there are nodes
ack_test : (n m a b : ℕ) (o : Option Reply) (x : Option (Line × ℕ)) → m ≡ n → a ≡ b → option_map (λ (r : Reply). (r.line, r.acks)) o ≡ x → b < n → ((y : Line × ℕ) → x ≡ Some y → b < y.1) → has_ack_left m a o ≡ true
ack_test n m a b None x e f same few left = grind (arith, nat_tests)
ack_test n m a b (Some r) x e f same few left = let lt : b < r.acks = left (r.line, r.acks) (sym same) in grind (arith, nat_tests)

-- a reclaim collects and copies nothing
no_collect : (s : Sizes) (frame : Frame) (step : Clearing) (y o n k a : ℕ) (r : Option (Line × ℕ)) → clearing_seen s frame step ≡ MCollect y o n k r a → ⊥
no_collect s frame Tell y o n k a r e = absurd (cc)
no_collect s frame step y o n k a r e = absurd (cc)

no_wait : (s : Sizes) (frame : Frame) (step : Clearing) (y o n k : ℕ) → clearing_seen s frame step ≡ MWait y o n k → ⊥
no_wait s frame Tell y o n k e = absurd (cc)
no_wait s frame step y o n k e = absurd (cc)

-- what the parts that came make of it
collected_seen : (s : Sizes) (t : PageTable) (e : Settings) (route : Route) (k a : ℕ) (o : Option Reply) →
    with_job (mover_seen s (mover_of t (Move route (Collect k (record { reply = o; acks = a }))) e)) (collected_by (page_number s route.page) (frame_number s route.old) (frame_number s route.new) k a (option_map (λ (r : Reply). (r.line, r.acks)) o))
    ≡ mover_seen s (collect_ended (mover_of t (Move route (Collect k (record { reply = o; acks = a }))) e) route k a o)
collected_seen s t e route k a None = refl
collected_seen s t e route k a (Some r) = by (nat_eq a r.acks)
  where
    by : (b : Bool) →
        with_job (mover_seen s (mover_of t (Move route (Collect k (record { reply = Some r; acks = a }))) e)) (cond b (phase_seen s route (Hold k r.line)) (phase_seen s route (Collect k (record { reply = Some r; acks = a }))))
        ≡ mover_seen s (cond b (mover_of t (Move route (Hold k r.line)) e) (mover_of t (Move route (Collect k (record { reply = Some r; acks = a }))) e))
    by true = refl
    by false = refl

module _ (image : ImageState) (s : Sizes) (cpu : ℕ → Cpu Line Hart) (home : ℕ → HomeSide Line) (w : World Line) (rest : List (Post Line)) (t : PageTable) (e : Settings) where
  -- ---- the reply

  -- the job that is seen to wait for it waits for it
  reply_by : (j : Job) (b : Block) (line : Line) (d y n a : ℕ) → IsMoverOf s (mover_of t j e) → is_there s b.frame ≡ true → job_seen s j ≡ MCollect y (frame_of_block s b) n b.number None a → a ≤ d →
      Goes (setup_seen s) (harts_seen image s) (machine cpu home (take_reply (mover_seen s (mover_of t j e)) y (frame_of_block s b) n b.number a line d) rest) w →
      (when_moving (awaits_reply b d) j ≡ true) × MoverGoes image s cpu home rest w (reply_taken (mover_of t j e) line d j)
  reply_by (Move route (Collect k received)) b line d y n a is there jb le g =
      let ey : y ≡ page_number s route.page = cc in
      let eo : frame_of_block s b ≡ frame_number s route.old = cc in
      let en : n ≡ frame_number s route.new = cc in
      let ek : b.number ≡ k = cc in
      let er : reply_seen received ≡ None = cc in
      let ea : a ≡ received.acks = cc in
      let r = route_of s t (table_of s (mover_of t (Move route (Collect k received)) e) is) e route is.sound.job.0 in
      let same : b.frame ≡ route.old = same_frame s b.frame route.old there r.old_there eo in
      let after : with_job (mover_seen s (mover_of t (Move route (Collect k received)) e)) (collected_by y (frame_of_block s b) n b.number a (Some (line, d))) ≡ _ =
      (λ i. with_job (mover_seen s (mover_of t (Move route (Collect k received)) e)) (collected_by (ey i) (eo i) (en i) (ek i) (ea i) (Some (line, d)))) ∙ collected_seen s t e route k received.acks (Some (record { line = line; acks = d })) in (
        both (is_same_block b (block route.old k)) _ (block_test b route.old k same ek) (both (is_none received.reply) (nat_le received.acks d) (none_came received.reply er) (grind (arith, nat_tests))),
        goes_as image s cpu home w _ _ _ _ after (sym (append_none rest)) g,
      )
  reply_by (Reclaim frame step) b line d y n a is there jb le g = absurd (no_collect s frame step y (frame_of_block s b) n b.number a None jb)
  reply_by j b line d y n a is there jb le g = absurd (cc)

  -- a reply in flight
  pub reply_comes : (j : Job) (from : ℕ) (b : Block) (line : Line) (d : ℕ) → AreSizes s → IsMoverOf s (mover_of t j e) → Comes image s cpu home w rest (mover_of t j e) from (PoisonReply b line d) → Takes image s cpu home w rest (mover_of t j e) from (PoisonReply b line d)
  reply_comes j from b line d sizes is sim =
      let low = sim.flight.0.0.0.0 in
      let sent : from ≡ frame_of_block s b / s.frames = sim.flight.0.0.1.0 in
      let moved = subst (λ (x : ℕ). Shows image s cpu home (mover_seen s (mover_of t j e)) (letter x s.nodes (KPoisonReply (frame_of_block s b) b.number line d) ∷ rest) w) sent sim in
      let x = reply_goes (setup_seen s) (harts_seen image s) cpu home (mover_seen s (mover_of t j e)) w (frame_of_block s b) b.number line d rest moved in
      let le = acks_named (setup_seen s) (harts_seen image s) cpu home (mover_seen s (mover_of t j e)) w from x.0 (frame_of_block s b) x.1 b.number x.2 None line d rest sim x.3 in
      let got = reply_by j b line d x.0 x.1 x.2 is (there_below s b.frame low) x.3 le x.4 in
      (both (nat_lt from t.nodes) _ (is_below from t.nodes s.nodes is.nodes (subst (λ (x : ℕ). x < s.nodes) (sym sent) (home_low s (frame_of_block s b) sizes low))) got.0, got.1)

  -- ---- an acknowledgement

  -- so it is of an acknowledgement
  ack_by : (j : Job) (b : Block) (y n a : ℕ) (reply : Option (Line × ℕ)) → IsMoverOf s (mover_of t j e) → is_there s b.frame ≡ true → job_seen s j ≡ MCollect y (frame_of_block s b) n b.number reply a → (a < s.nodes) × ((x : Line × ℕ) → reply ≡ Some x → a < x.1) →
      Goes (setup_seen s) (harts_seen image s) (machine cpu home (take_ack (mover_seen s (mover_of t j e)) y (frame_of_block s b) n b.number a reply) rest) w →
      (when_moving (awaits_ack t.nodes b) j ≡ true) × MoverGoes image s cpu home rest w (ack_taken (mover_of t j e) j)
  ack_by (Move route (Collect k received)) b y n a reply is there jb left g =
      let ey : y ≡ page_number s route.page = cc in
      let eo : frame_of_block s b ≡ frame_number s route.old = cc in
      let en : n ≡ frame_number s route.new = cc in
      let ek : b.number ≡ k = cc in
      let er : reply_seen received ≡ reply = cc in
      let ea : received.acks ≡ a = cc in
      let r = route_of s t (table_of s (mover_of t (Move route (Collect k received)) e) is) e route is.sound.job.0 in
      let same : b.frame ≡ route.old = same_frame s b.frame route.old there r.old_there eo in
      let after : with_job (mover_seen s (mover_of t (Move route (Collect k received)) e)) (collected_by y (frame_of_block s b) n b.number (a + 1) reply) ≡ _ =
      (λ i. with_job (mover_seen s (mover_of t (Move route (Collect k received)) e)) (collected_by (ey i) (eo i) (en i) (ek i) (sym ea i + 1) (sym er i))) ∙ collected_seen s t e route k (received.acks + 1) received.reply in (
        both (is_same_block b (block route.old k)) _ (block_test b route.old k same ek) (ack_test s.nodes t.nodes received.acks a received.reply reply is.nodes ea er left.0 left.1),
        goes_as image s cpu home w _ _ _ _ after (sym (append_none rest)) g,
      )
  ack_by (Reclaim frame step) b y n a reply is there jb left g = absurd (no_collect s frame step y (frame_of_block s b) n b.number a reply jb)
  ack_by j b y n a reply is there jb left g = absurd (cc)

  -- an acknowledgement in flight
  pub ack_comes : (j : Job) (from : ℕ) (b : Block) → IsMoverOf s (mover_of t j e) → Comes image s cpu home w rest (mover_of t j e) from (InvalAck b) → Takes image s cpu home w rest (mover_of t j e) from (InvalAck b)
  ack_comes j from b is sim =
      let low = sim.flight.0.0.0.0 in
      let x = ack_goes (setup_seen s) (harts_seen image s) cpu home (mover_seen s (mover_of t j e)) w from (frame_of_block s b) b.number rest sim in
      let left = acks_left (setup_seen s) (harts_seen image s) cpu home (mover_seen s (mover_of t j e)) w from x.0 (frame_of_block s b) x.1 b.number x.3 x.2 rest sim x.4 in
      let got = ack_by j b x.0 x.1 x.3 x.2 is (there_below s b.frame low) x.4 left x.5 in
      (both (nat_lt from t.nodes) _ (is_below from t.nodes s.nodes is.nodes sim.flight.0.0.1.0) got.0, got.1)

  -- ---- the home was busy

  -- and of the word that the home was busy
  refusal_by : (j : Job) (b : Block) (y n : ℕ) → IsMoverOf s (mover_of t j e) → is_there s b.frame ≡ true → job_seen s j ≡ MCollect y (frame_of_block s b) n b.number None 0 →
      Goes (setup_seen s) (harts_seen image s) (machine cpu home (ask_again (mover_seen s (mover_of t j e)) y (frame_of_block s b) n b.number) rest) w →
      (when_moving (awaits_refusal b) j ≡ true) × MoverGoes image s cpu home rest w (refusal_taken (mover_of t j e) j)
  refusal_by (Move route (Collect k received)) b y n is there jb g =
      let ey : y ≡ page_number s route.page = cc in
      let eo : frame_of_block s b ≡ frame_number s route.old = cc in
      let en : n ≡ frame_number s route.new = cc in
      let ek : b.number ≡ k = cc in
      let r = route_of s t (table_of s (mover_of t (Move route (Collect k received)) e) is) e route is.sound.job.0 in
      let same : b.frame ≡ route.old = same_frame s b.frame route.old there r.old_there eo in (
        block_test b route.old k same ek,
        goes_as image s cpu home w _ _ _ _ (λ i. ask_again (mover_seen s (mover_of t (Move route (Collect k received)) e)) (ey i) (eo i) (en i) (ek i)) (sym (append_none rest)) g,
      )
  refusal_by (Reclaim frame step) b y n is there jb g = absurd (no_collect s frame step y (frame_of_block s b) n b.number 0 None jb)
  refusal_by j b y n is there jb g = absurd (cc)

  -- that word in flight
  pub refusal_comes : (j : Job) (from : ℕ) (b : Block) → AreSizes s → IsMoverOf s (mover_of t j e) → Comes image s cpu home w rest (mover_of t j e) from (Nak b) → Takes image s cpu home w rest (mover_of t j e) from (Nak b)
  refusal_comes j from b sizes is sim =
      let low = sim.flight.0.0.0.0 in
      let sent : from ≡ frame_of_block s b / s.frames = sim.flight.0.0.1.0 in
      let moved = subst (λ (x : ℕ). Shows image s cpu home (mover_seen s (mover_of t j e)) (letter x s.nodes (KNak (frame_of_block s b) b.number) ∷ rest) w) sent sim in
      let x = refusal_goes (setup_seen s) (harts_seen image s) cpu home (mover_seen s (mover_of t j e)) w (frame_of_block s b) b.number rest moved in
      let got = refusal_by j b x.0 x.1 is (there_below s b.frame low) x.2 x.3 in
      (both (nat_lt from t.nodes) _ (is_below from t.nodes s.nodes is.nodes (subst (λ (x : ℕ). x < s.nodes) (sym sent) (home_low s (frame_of_block s b) sizes low))) got.0, got.1)

  -- ---- the line was written

  -- the next block, or the page is published
  next_seen : (route : Route) (k : ℕ) → with_job (mover_seen s (mover_of t (Move route (Wait k)) e)) (cond (nat_eq (k + 1) 32) (MPublish (page_number s route.page) (frame_number s route.old) (frame_number s route.new)) (MAsk (page_number s route.page) (frame_number s route.old) (frame_number s route.new) (k + 1))) ≡ mover_seen s (mover_of t (Move route (cond (nat_eq k 31) Publish (Ask (k + 1)))) e)
  next_seen route k = ap (λ b. with_job (mover_seen s (mover_of t (Move route (Wait k)) e)) (cond b (MPublish (page_number s route.page) (frame_number s route.old) (frame_number s route.new)) (MAsk (page_number s route.page) (frame_number s route.old) (frame_number s route.new) (k + 1)))) test ∙ by (nat_eq k 31)
    where
      test : nat_eq (k + 1) 32 ≡ nat_eq k 31
      test = grind (arith, nat_tests)

      by : (b : Bool) → with_job (mover_seen s (mover_of t (Move route (Wait k)) e)) (cond b (MPublish (page_number s route.page) (frame_number s route.old) (frame_number s route.new)) (MAsk (page_number s route.page) (frame_number s route.old) (frame_number s route.new) (k + 1))) ≡ mover_seen s (mover_of t (Move route (cond b Publish (Ask (k + 1)))) e)
      by true = refl
      by false = refl

  -- the job that is seen to wait for the copy waits for it
  copied_by : (j : Job) (b : Block) (y o : ℕ) → IsMoverOf s (mover_of t j e) → is_there s b.frame ≡ true → job_seen s j ≡ MWait y o (frame_of_block s b) b.number →
      Goes (setup_seen s) (harts_seen image s) (machine cpu home (take_copied (setup_seen s) (mover_seen s (mover_of t j e)) y o (frame_of_block s b) b.number) rest) w →
      (when_moving (awaits_copy b) j ≡ true) × MoverGoes image s cpu home rest w (copied_taken (mover_of t j e) j)
  copied_by (Move route (Wait k)) b y o is there jb g =
      let ey : y ≡ page_number s route.page = cc in
      let eo : o ≡ frame_number s route.old = cc in
      let en : frame_of_block s b ≡ frame_number s route.new = cc in
      let ek : b.number ≡ k = cc in
      let r = route_of s t (table_of s (mover_of t (Move route (Wait k)) e) is) e route is.sound.job.0 in
      let same : b.frame ≡ route.new = same_frame s b.frame route.new there r.new_there en in (
        block_test b route.new k same ek,
        goes_as image s cpu home w _ _ _ _ ((λ i. take_copied (setup_seen s) (mover_seen s (mover_of t (Move route (Wait k)) e)) (ey i) (eo i) (en i) (ek i)) ∙ next_seen route k) (sym (append_none rest)) g,
      )
  copied_by (Reclaim frame step) b y o is there jb g = absurd (no_wait s frame step y o (frame_of_block s b) b.number jb)
  copied_by j b y o is there jb g = absurd (cc)

  -- the word that it is there
  pub copied_comes : (j : Job) (from : ℕ) (b : Block) → AreSizes s → IsMoverOf s (mover_of t j e) → Comes image s cpu home w rest (mover_of t j e) from (CopyDone b) → Takes image s cpu home w rest (mover_of t j e) from (CopyDone b)
  copied_comes j from b sizes is sim =
      let low = sim.flight.0.0.1.2 in
      let sent : from ≡ frame_of_block s b / s.frames = sim.flight.0.0.1.0 in
      let moved = subst (λ (x : ℕ). Shows image s cpu home (mover_seen s (mover_of t j e)) (letter x s.nodes (KCopyDone (frame_of_block s b) b.number) ∷ rest) w) sent sim in
      let x = copied_goes (setup_seen s) (harts_seen image s) cpu home (mover_seen s (mover_of t j e)) w (frame_of_block s b) b.number rest moved in
      let got = copied_by j b x.0 x.1 is (there_below s b.frame low) x.2 x.3 in
      (both (nat_lt from t.nodes) _ (is_below from t.nodes s.nodes is.nodes (subst (λ (x : ℕ). x < s.nodes) (sym sent) (home_low s (frame_of_block s b) sizes low))) got.0, got.1)
