-- Two messages in flight that have one key are one message.
use Rattle.std.proofs.Common.{◌≡◌, ℕ, ◌+◌, ◌<◌, true, false, arith, ◌≢◌, refl, sym, subst}
use Rattle.std.proofs.lemmas.Bool.Decides.{nat_tests}
use Rattle.og_block.specs.State.{Block, Victim, Free, Intervention, Invalidation, Invalidate, InvalidateAck, NoInvalidation, NoRevision, NoResponse}
use Rattle.og_block.specs.Invariant.{Invariant as BlockInvariant, is_for}
use Rattle.og_block.specs.Rows.{has_intervention}
use Rattle.og_block.specs.Message.{Message as BlockMessage, Asked as AskMessage, Answered, Returned, Revised, Intervened, Invalidated, Stands as StandsInBlock, Key as BlockKey, Request_of, Answer_to, Write_back_of, Owner_of_block, Left_by, Invalidation_of, key_of as block_key, intervention_key, invalidation_key}
use Rattle.og_pages.specs.State.{Command, NoCommand, Collecting}
use Rattle.og_whole.specs.Link.{Invariant}
use Rattle.og_whole.specs.Messages.{Message, OfBlock, OfJob, OfWalk, OfDrop, OfNotice, InFlight, Ask, Walk, Drop, Notice, key_in, key_of}
use Rattle.og_whole.specs.Events.{World}
use Rattle.og_whole.specs.Kind.{phase_of, is_idle, is_taken}
use Rattle.og_whole.proofs.Served.{command_alone, mover_collects, one_request, one_victim, ask_busy, response_busy, back_taken, invalidation_busy, busy_one, busy_alone}

-- what the key of a message of a block says of its actor there
abbrev pub Engaged : {L : Type 0} → (actors : ℕ) → Block L → BlockKey → Type 0
Engaged actors b (Request_of p) = (p < actors) × (is_idle (b.want p) ≡ false)
Engaged actors b (Answer_to p) = (p < actors) × (is_idle (b.want p) ≡ false) × (b.response p ≢ NoResponse)
Engaged actors b (Invalidation_of r p) = (r < actors) × (p < actors) × (is_idle (b.want r) ≡ false) × (b.invalidation p ≢ NoInvalidation)
Engaged actors b (Write_back_of p) = (p < actors) × (is_taken (b.victim p) ≡ true)
Engaged actors b (Left_by p) = (p < actors) × (is_taken (b.victim p) ≡ true)
Engaged actors b Owner_of_block = Unit {0}

-- ---- one block

module _ {L : Type 0} (actors : ℕ) (newest : L) (b : Block L) (inv : BlockInvariant actors newest b) where
  intervenes : (q : ℕ) (i : Intervention) → StandsInBlock actors b (Intervened q i) → has_intervention (b.intervention q) ≡ true
  intervenes q i s = let a = s.1 in let c = s.2 in grind arith

  free_is : (v : Victim) (q : ℕ) → intervention_key v q ≡ Owner_of_block → is_taken v ≡ false
  free_is Free q e = refl
  free_is v q e = absurd (cc)

  -- two interventions of one key are at one node
  one_intervention : (q p : ℕ) → q < actors → p < actors → has_intervention (b.intervention q) ≡ true → has_intervention (b.intervention p) ≡ true → (v u : Victim) → b.victim q ≡ v → b.victim p ≡ u → intervention_key v q ≡ intervention_key u p → q ≡ p
  one_intervention q p lq lp i j Free Free a c e = busy_one actors newest q p b (inv.each q lq) (inv.each p lp) i j (grind arith) (grind arith)
  one_intervention q p lq lp i j Free u a c e = absurd (cc)
  one_intervention q p lq lp i j v Free a c e = absurd (cc)
  one_intervention q p lq lp i j v u a c e = cc

  -- nor is there a revision beside an intervention of its key
  alone : (q : ℕ) (i : Intervention) → StandsInBlock actors b (Intervened q i) → intervention_key (b.victim q) q ≡ Owner_of_block → b.revision ≡ NoRevision
  alone q i s e = busy_alone actors newest q b (inv.each q s.0) (intervenes q i s) (free_is (b.victim q) q e)

  one_invalidation : (q p : ℕ) (i j : Invalidation) → i ≢ NoInvalidation → j ≢ NoInvalidation → invalidation_key q i ≡ invalidation_key p j → q ≡ p
  one_invalidation q p NoInvalidation j ni nj e = absurd (ni refl)
  one_invalidation q p i NoInvalidation ni nj e = absurd (nj refl)
  one_invalidation q p i j ni nj e = cc

  clash : (v : Victim) (i : Invalidation) (q p : ℕ) → i ≢ NoInvalidation → intervention_key v q ≢ invalidation_key p i
  clash v NoInvalidation q p n e = n refl
  clash Free i q p n e = absurd (cc)
  clash v i q p n e = absurd (cc)

  one_in_block : (x y : BlockMessage L) → StandsInBlock actors b x → StandsInBlock actors b y → block_key b x ≡ block_key b y → x ≡ y
  one_in_block (AskMessage q a) (AskMessage p c) s t e = let same : q ≡ p = cc in let u = s.1 in let v = t.1 in cc
  one_in_block (Answered q a) (Answered p c) s t e = let same : q ≡ p = cc in let u = s.1 in let v = t.1 in cc
  one_in_block (Returned q a) (Returned p c) s t e = let same : q ≡ p = cc in let u = s.1 in let v = t.1 in cc
  one_in_block (Revised a) (Revised c) s t e = let u = s.0 in let v = t.0 in cc
  one_in_block (Intervened q a) (Intervened p c) s t e = let same = one_intervention q p s.0 t.0 (intervenes q a s) (intervenes p c t) (b.victim q) (b.victim p) refl refl e in let u = s.1 in let v = t.1 in cc
  one_in_block (Invalidated q a) (Invalidated p c) s t e = let same = one_invalidation q p a c s.2 t.2 e in let u = s.1 in let v = t.1 in cc
  one_in_block (Intervened q a) (Revised c) s t e = let none = alone q a s e in let u = t.0 in absurd (t.1 (cc))
  one_in_block (Revised c) (Intervened q a) t s e = let none = alone q a s (sym e) in let u = t.0 in absurd (t.1 (cc))
  one_in_block (Intervened q a) (Invalidated p c) s t e = absurd (clash (b.victim q) c q p t.2 e)
  one_in_block (Invalidated p c) (Intervened q a) t s e = absurd (clash (b.victim q) c q p t.2 (sym e))
  one_in_block (Intervened q a) y s t e = other (b.victim q) e
    where
      other : (v : Victim) → intervention_key v q ≡ block_key b y → Intervened q a ≡ y
      other Free e = absurd (cc)
      other v e = absurd (cc)
  one_in_block y (Intervened q a) t s e = other (b.victim q) e
    where
      other : (v : Victim) → block_key b y ≡ intervention_key v q → y ≡ Intervened q a
      other Free e = absurd (cc)
      other v e = absurd (cc)
  one_in_block (Invalidated q a) y s t e = other a s.2 e
    where
      other : (i : Invalidation) → i ≢ NoInvalidation → invalidation_key q i ≡ block_key b y → Invalidated q a ≡ y
      other NoInvalidation n e = absurd (n refl)
      other i n e = absurd (cc)
  one_in_block y (Invalidated q a) t s e = other a s.2 e
    where
      other : (i : Invalidation) → i ≢ NoInvalidation → block_key b y ≡ invalidation_key q i → y ≡ Invalidated q a
      other NoInvalidation n e = absurd (n refl)
      other i n e = absurd (cc)
  one_in_block x y s t e = absurd (cc)

  requester_inside : (q r : ℕ) → q < actors → is_for r (b.invalidation q) ≡ true → r < actors
  requester_inside q r lq i = let s = (inv.each q lq).sent in grind (arith, nat_tests)

  pub engaged : (x : BlockMessage L) → StandsInBlock actors b x → Engaged actors b (block_key b x)
  engaged (AskMessage q a) s = (s.0, ask_busy actors newest q b (inv.each q s.0) (λ e. let u = s.1 in let v = s.2 in grind arith))
  engaged (Answered q a) s = (s.0, response_busy actors newest q b (inv.each q s.0) (λ e. let u = s.1 in s.2 (cc)), λ e. let u = s.1 in s.2 (cc))
  engaged (Returned q a) s = (s.0, back_taken actors newest q b (inv.each q s.0) (λ e. let u = s.1 in s.2 (cc)))
  engaged (Revised a) s = tt
  engaged (Intervened q a) s = by (b.victim q) refl
    where
      by : (v : Victim) → b.victim q ≡ v → Engaged actors b (intervention_key v q)
      by Free e = tt
      by v e = (s.0, grind arith)
  engaged (Invalidated q a) s = by a s.1 s.2
    where
      for : (r : ℕ) → is_for r (b.invalidation q) ≡ true → b.invalidation q ≢ NoInvalidation → Engaged actors b (Invalidation_of r q)
      for r i n = (requester_inside q r s.0 i, s.0, invalidation_busy actors newest q r b inv s.0 (requester_inside q r s.0 i) i, n)

      by : (i : Invalidation) → b.invalidation q ≡ i → i ≢ NoInvalidation → Engaged actors b (invalidation_key q i)
      by NoInvalidation e n = absurd (n refl)
      by (Invalidate r) e n = for r (grind (arith, nat_tests)) (λ x. n (cc))
      by (InvalidateAck r) e n = for r (grind (arith, nat_tests)) (λ x. n (cc))

-- ---- the whole

module _ {L : Type 0} (nodes frames pages blocks : ℕ) (w : World L) (inv : Invariant L (nodes + 1) nodes pages blocks w) where
  -- the mover has no victim slot
  pub taken_node : (f k p : ℕ) → k < blocks → is_taken ((w.block f k).victim p) ≡ true → p ≢ nodes
  taken_node f k p lk t e = let mv = (inv.link f k lk).parts.mover in absurd (grind arith)

  -- and while it has something outstanding for a block there is no command
  no_command : (f k p : ℕ) → k < blocks → is_idle ((w.block f k).want p) ≡ false → p ≡ nodes → w.pages.command ≡ NoCommand
  no_command f k p lk i e =
      let l = inv.link f k lk in
      let i' : is_idle ((w.block f k).want nodes) ≡ false = cc in
      let h : phase_of nodes (w.block f k) ≡ Collecting = mover_collects nodes (w.block f k) l.parts.mover i' in
      let x = l.phase_is in
      let c : w.pages.phase f k ≡ Collecting = cc in
      command_none w.pages.command (λ n. command_alone pages blocks w.pages f k inv.of_pages lk n c)
    where
      command_none : (c : Command L) → (c ≢ NoCommand → ⊥) → c ≡ NoCommand
      command_none NoCommand h = refl
      command_none c h = absurd (h (λ e. cc))

  pub engaged_in : (f k : ℕ) → k < blocks → (x : BlockMessage L) → StandsInBlock (nodes + 1) (w.block f k) x → Engaged (nodes + 1) (w.block f k) (block_key (w.block f k) x)
  engaged_in f k lk x s = engaged (nodes + 1) (w.pages.newest f k) (w.block f k) (inv.link f k lk).invariant x s

  one_actor : (f k g j p q : ℕ) → k < blocks → j < blocks → p ≡ q → p < nodes + 1 → is_idle ((w.block f k).want p) ≡ false → is_idle ((w.block g j).want q) ≡ false → (f ≡ g) × (k ≡ j)
  one_actor f k g j p q lk lj same lp a c = let c' : is_idle ((w.block g j).want p) ≡ false = cc in one_request (nodes + 1) nodes pages blocks w p f k g j inv lp lk lj a c'

  one_slot : (f k g j p q : ℕ) → k < blocks → j < blocks → p ≡ q → p < nodes + 1 → is_taken ((w.block f k).victim p) ≡ true → is_taken ((w.block g j).victim q) ≡ true → (f ≡ g) × (k ≡ j)
  one_slot f k g j p q lk lj same lp a c = let c' : is_taken ((w.block g j).victim p) ≡ true = cc in one_victim (nodes + 1) nodes pages blocks w p f k g j inv lp (taken_node f k p lk a) lk lj a c'

  -- two messages of blocks that have one key are of one block
  one_block : (f k g j : ℕ) → k < blocks → j < blocks → (x y : BlockKey) → Engaged (nodes + 1) (w.block f k) x → Engaged (nodes + 1) (w.block g j) y → key_in f k x ≡ key_in g j y → (f ≡ g) × (k ≡ j)
  one_block f k g j lk lj (Request_of p) (Request_of q) a c e = one_actor f k g j p q lk lj (cc) a.0 a.1 c.1
  one_block f k g j lk lj (Answer_to p) (Answer_to q) a c e = one_actor f k g j p q lk lj (cc) a.0 a.1 c.1
  one_block f k g j lk lj (Invalidation_of r p) (Invalidation_of s q) a c e = one_actor f k g j r s lk lj (cc) a.0 a.2 c.2
  one_block f k g j lk lj (Write_back_of p) (Write_back_of q) a c e = one_slot f k g j p q lk lj (cc) a.0 a.1 c.1
  one_block f k g j lk lj (Left_by p) (Left_by q) a c e = one_slot f k g j p q lk lj (cc) a.0 a.1 c.1
  one_block f k g j lk lj Owner_of_block Owner_of_block a c e = (cc, cc)
  one_block f k g j lk lj x y a c e = absurd (cc)

  key_in_one : (f k : ℕ) (x y : BlockKey) → key_in f k x ≡ key_in f k y → x ≡ y
  key_in_one f k (Request_of p) (Request_of q) e = cc
  key_in_one f k (Answer_to p) (Answer_to q) e = cc
  key_in_one f k (Invalidation_of r p) (Invalidation_of s q) e = cc
  key_in_one f k (Write_back_of p) (Write_back_of q) e = cc
  key_in_one f k (Left_by p) (Left_by q) e = cc
  key_in_one f k Owner_of_block Owner_of_block e = refl
  key_in_one f k x y e = absurd (cc)

  -- so they are one message
  of_blocks : (f k g j : ℕ) (x y : BlockMessage L) → k < blocks → j < blocks → StandsInBlock (nodes + 1) (w.block f k) x → StandsInBlock (nodes + 1) (w.block g j) y → key_in f k (block_key (w.block f k) x) ≡ key_in g j (block_key (w.block g j) y) → OfBlock f k x ≡ OfBlock g j y
  of_blocks f k g j x y lk lj s t e =
      let same = one_block f k g j lk lj (block_key (w.block f k) x) (block_key (w.block g j) y) (engaged_in f k lk x s) (engaged_in g j lj y t) e in
      let f_is : f ≡ g = same.0 in
      let k_is : k ≡ j = same.1 in
      let b_is : w.block g j ≡ w.block f k = cc in
      let t' : StandsInBlock (nodes + 1) (w.block f k) y = subst (λ (b : Block L). StandsInBlock (nodes + 1) b y) b_is t in
      let e' : key_in f k (block_key (w.block f k) x) ≡ key_in f k (block_key (w.block f k) y) = cc in
      let m = one_in_block (nodes + 1) (w.pages.newest f k) (w.block f k) (inv.link f k lk).invariant x y s t' (key_in_one f k (block_key (w.block f k) x) (block_key (w.block f k) y) e') in cc

  -- a message for the mover's poisoning excludes a command
  no_job : (f k : ℕ) → k < blocks → (x : BlockKey) → Engaged (nodes + 1) (w.block f k) x → key_in f k x ≡ Ask nodes → w.pages.command ≡ NoCommand
  no_job f k lk (Request_of p) a e = no_command f k p lk a.1 (cc)
  no_job f k lk x a e = absurd (cc)

  not_walk : (f k p : ℕ) (x : BlockKey) → key_in f k x ≢ Walk p
  not_walk f k p (Request_of q) e = absurd (cc)
  not_walk f k p x e = absurd (cc)

  not_drop : (f k p : ℕ) (x : BlockKey) → key_in f k x ≢ Drop p
  not_drop f k p (Request_of q) e = absurd (cc)
  not_drop f k p x e = absurd (cc)

  not_notice : (f k g : ℕ) (x : BlockKey) → key_in f k x ≢ Notice g
  not_notice f k g (Request_of q) e = absurd (cc)
  not_notice f k g x e = absurd (cc)

  pub one_message : (x y : Message L) → InFlight nodes frames blocks w x → InFlight nodes frames blocks w y → key_of nodes w x ≡ key_of nodes w y → x ≡ y
  one_message (OfBlock f k x) (OfBlock g j y) a c e = of_blocks f k g j x y a.1 c.1 a.2 c.2 e
  one_message (OfJob x) (OfJob y) a c e = let u = a.0 in let v = c.0 in cc
  one_message (OfWalk p x) (OfWalk q y) a c e = let same : p ≡ q = cc in let u = a.1 in let v = c.1 in cc
  one_message (OfDrop p x) (OfDrop q y) a c e = let same : p ≡ q = cc in let u = a.1 in let v = c.1 in cc
  one_message (OfNotice f x) (OfNotice g y) a c e = let same : f ≡ g = cc in let u = a.1 in let v = c.1 in cc
  one_message (OfBlock f k x) (OfJob y) a c e = let none = no_job f k a.1 (block_key (w.block f k) x) (engaged_in f k a.1 x a.2) e in let u = c.0 in absurd (c.1 (cc))
  one_message (OfJob y) (OfBlock f k x) c a e = let none = no_job f k a.1 (block_key (w.block f k) x) (engaged_in f k a.1 x a.2) (sym e) in let u = c.0 in absurd (c.1 (cc))
  one_message (OfBlock f k x) (OfWalk p y) a c e = absurd (not_walk f k p (block_key (w.block f k) x) e)
  one_message (OfWalk p y) (OfBlock f k x) c a e = absurd (not_walk f k p (block_key (w.block f k) x) (sym e))
  one_message (OfBlock f k x) (OfDrop p y) a c e = absurd (not_drop f k p (block_key (w.block f k) x) e)
  one_message (OfDrop p y) (OfBlock f k x) c a e = absurd (not_drop f k p (block_key (w.block f k) x) (sym e))
  one_message (OfBlock f k x) (OfNotice g y) a c e = absurd (not_notice f k g (block_key (w.block f k) x) e)
  one_message (OfNotice g y) (OfBlock f k x) c a e = absurd (not_notice f k g (block_key (w.block f k) x) (sym e))
  one_message x y a c e = absurd (cc)
