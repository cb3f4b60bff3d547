-- The mover's rows of a block: it asks for a block, and takes the reply, an acknowledgement, or the word that the home is busy.
use Rattle.std.proofs.Common.{◌≡◌, ◌≢◌, ℕ, ◌+◌, ◌<◌, Bool, true, false, cond, nat_eq, ◌&&◌, arith, ◌⊎◌, inl, inr, refl, sym, subst, List, [], ◌∷◌, ◌++◌, Option, None, Some}
use Rattle.std.proofs.lemmas.Bool.{cases_Bool}
use Rattle.std.proofs.lemmas.Bool.Decides.{nat_tests}
use Rattle.og_slots.proofs.Flight.{fits_frame}
use Rattle.og_block.specs.State.{Want, Idle, Poisoning, Ask as BlockAsk, PoisonReply, NegativeAck, Response, NoResponse, InvalidateAck}
use Rattle.og_block.specs.Rows.{Row as BlockRow, Send_poison_read, Again_refused, Acknowledged, Poison_collected}
use Rattle.og_block.specs.Invariant.{Asks, Fits_ask}
use Rattle.og_block.specs.Views.{grants}
use Rattle.og_pages.specs.State.{State as Pages, Ask, Collect}
use Rattle.og_whole.specs.Events.{World, Event, On, guard, apply}
use Rattle.og_whole.specs.Link.{Invariant}
use Rattle.og_whole.specs.Messages.{Message}
use Rattle.og_whole.proofs.Runs.{reached}
use Rattle.og_whole.proofs.Served.{poison_served}
use Rattle.og_whole.proofs.Worlds.{blocks_ready}
use Rattle.og_relate.specs.Data.{KPoisonRead, KPoisonReply, KInvalAck, KNak, Post, Setup, Cpu, Mover, MoverJob, MAsk, MCollect, MHold, HomeSide, Harts}
use Rattle.og_relate.specs.Places.{Place, AskAt, ResponseAt, InterventionAt, InvalidationAt, DropAt, slot_of, content_of, Stands, stands_at, kept, kept_collect, reply_message, Flies}
use Rattle.og_relate.specs.Sides.{here, owns, touches}
use Rattle.og_relate.specs.Sim.{Sim, MoverShows, JobTidy, mover_want}
use Rattle.og_relate.specs.Owes.{changes}
use Rattle.og_relate.specs.Goes.{Goes, Fewer, FewerAt}
use Rattle.og_relate.specs.Steps.{letter}
use Rattle.og_relate.proofs.Fewer.{column_at}
use Rattle.og_relate.proofs.Frames.{node_same, home_same}
use Rattle.og_relate.proofs.Messages.{or_left, rest_one, rest_all}
use Rattle.og_relate.proofs.Rows.{node_shows}
use Rattle.og_relate.proofs.Home.{here_self}
use Rattle.og_relate.proofs.Parts.{self_number}
use Rattle.og_relate.proofs.Collect.{collected}
use Rattle.og_relate.proofs.Fill.{is_answer, answer_places, no_response}
use Rattle.og_relate.proofs.Take.{then, still, without_end}
use Rattle.og_relate_mover.specs.Steps.{with_job, ask_out, ask_again, collected_by, take_reply, take_ack}
use Rattle.og_relate_mover.proofs.Events.{mover_event, keeps_none}

module _ {L : Type 0} where
  -- the mover collects the block that it wants
  collects_here : (f k : ℕ) (j : MoverJob L) → mover_want f k j ≢ Idle → (y : ℕ) × (n : ℕ) × (reply : Option (L × ℕ)) × (acks : ℕ) × (j ≡ MCollect y f n k reply acks)
  collects_here f k (MCollect y o n i reply acks) ne = elim (cases_Bool (nat_eq o f && nat_eq i k)) [
    | inl t ↦ (let e1 : o ≡ f = grind (arith, nat_tests) in let e2 : i ≡ k = grind (arith, nat_tests) in (y, n, reply, acks, cc))
    | inr t ↦ absurd (ne (grind arith))
  ]
  collects_here f k j ne = absurd (ne (grind arith))

  changed_ask : (n y f new k : ℕ) (s : Pages L) (e : Event L) → e ≡ On y new f k (Send_poison_read n) → (x : Place) → changes s e x ≡ true → x ≡ AskAt f k n
  changed_ask n y f new k s e is x c = grind (arith, nat_tests)

  changed_again : (n y f new k : ℕ) (s : Pages L) (e : Event L) → e ≡ On y new f k (Again_refused n) → (x : Place) → changes s e x ≡ true → is_answer f k n x ≡ true
  changed_again n y f new k s e is x c = grind (arith, nat_tests)

  changed_ack : (n q f k : ℕ) (s : Pages L) (e : Event L) → e ≡ On 0 0 f k (Acknowledged q n) → (x : Place) → changes s e x ≡ true → x ≡ InvalidationAt f k q
  changed_ack n q f k s e is x c = grind (arith, nat_tests)

  no_reply : (f k n : ℕ) (o : Option (L × ℕ)) → reply_message f k n o ≡ None → o ≡ None
  no_reply f k n None e = refl
  no_reply f k n (Some x) e = absurd (cc)

  granted : (w : Want) (a : BlockAsk L) (r : Response L) (k : ℕ) → Fits_ask w a r k → grants a ≡ true → w ≢ Idle
  granted w a r k f g = grind arith

module _ {L : Type 0} {H : Type 0} where
  -- ---- the block is asked for

  pub ask_goes : (s : Setup) (harts : Harts L H) (cpu : ℕ → Cpu L H) (home : ℕ → HomeSide L) (mover : Mover L) (w : World L) (y o n k : ℕ) (ms : List (Post L)) →
      Sim s harts (record { cpu = cpu; home = home; mover = mover; flight = ms }) w → mover.job ≡ MAsk y o n k →
      Goes s harts (record { cpu = cpu; home = home; mover = (ask_out s mover y o n k).0; flight = ms ++ (ask_out s mover y o n k).1 }) w
  ask_goes s harts cpu home mover w y o n k ms sim jb =
      let row : BlockRow L = Send_poison_read s.nodes in
      let e : Event L = On y n o k row in
      let z : World L = apply (s.nodes + 1) s.nodes e w in
      let mv = sim.mover in
      let bd : JobTidy {L = L} s (MAsk y o n k) = subst (λ u. JobTidy s u) jb sim.bounds.job in
      let ln : s.nodes < s.nodes + 1 = omega arith in
      let nn = self_number s.nodes in
      let hs = here_self o k in
      let gj : w.pages.job ≡ Ask y o n k = (let q = mv.job in grind arith) in
      let inv : Invariant L (s.nodes + 1) s.nodes s.pages s.blocks w = reached (s.nodes + 1) s.nodes s.pages s.blocks w sim.reached in
      let bg = (poison_served (s.nodes + 1) s.nodes s.pages s.blocks w ln inv).ask y o n k bd.3 gj in
      let gd : guard (s.nodes + 1) s.nodes s.pages s.blocks e w = (bg, ln, bd.3, (refl, gj)) in
      let m : Mover L = with_job mover (MCollect y o n k None 0) in
      then s harts _ w e [] [] refl gd (still s harts _ z (mover_event s harts cpu home mover ms w e m ms (letter s.nodes (s.home o) (KPoisonRead o k) ∷ []) sim gd
      (λ q lq. (let ne : nat_eq q s.nodes ≡ false = grind (arith, nat_tests) in node_shows harts q (cpu q) w z (node_same (s.nodes + 1) s.nodes y n o k row w q ne (inr ne)) (sim.nodes q lq)))
      (λ g j lj. home_same (s.nodes + 1) s.nodes y n o k row w gd.3 refl g j)
      (record {
        job = refl;
        want = λ g j. (let t = column_at (λ b. b.want s.nodes) (s.nodes + 1) s.nodes y n o k row w g j in let q = mv.want g j in grind (arith, nat_tests));
        acks = λ g j. (let t = column_at (λ b. b.acks s.nodes) (s.nodes + 1) s.nodes y n o k row w g j in let q = mv.acks g j in let u = mv.acks o k in grind (arith, nat_tests));
        page_table = mv.page_table;
        holders = mv.holders;
        role = mv.role;
        sharing = λ g j. (let t = column_at (λ b. b.sharing) (s.nodes + 1) s.nodes y n o k row w g j in let q = mv.sharing g j in let v = mv.sharing o k in grind (arith, nat_tests));
        holder_is = mv.holder_is;
      })
      (record { job = bd; table = sim.bounds.table })
      (keeps_none s.nodes cpu mover m (owns e) (λ g j q ow. absurd (grind (arith, nat_tests))) (λ g j q. grind (arith, nat_tests)) (λ q. grind (arith, nat_tests)) (λ g j q c. absurd (grind (arith, nat_tests))) (λ g j. grind arith) (λ g j. grind (arith, nat_tests)))
      (rest_all s cpu mover w e ms sim.flight (λ p. grind (arith, nat_tests)))
      (((((bd.1, bd.3, (ln, grind (arith, nat_tests), refl)), (refl, refl), tt), grind (arith, nat_tests)), tt, tt), λ p i c st. inl (sym (changed_ask s.nodes y o n k w.pages e refl p c)))))

  -- ---- what the parts that came make of it

  collect_goes : (s : Setup) (harts : Harts L H) (cpu : ℕ → Cpu L H) (home : ℕ → HomeSide L) (mover : Mover L) (w : World L) (y o n k acks : ℕ) (reply : Option (L × ℕ)) (ms : List (Post L)) →
      Sim s harts (record { cpu = cpu; home = home; mover = with_job mover (MCollect y o n k reply acks); flight = ms }) w →
      Goes s harts (record { cpu = cpu; home = home; mover = with_job mover (collected_by y o n k acks reply); flight = ms }) w
  collect_goes s harts cpu home mover w y o n k acks None ms sim = still s harts _ w sim
  collect_goes s harts cpu home mover w y o n k acks (Some x) ms sim = by (nat_eq acks x.1) refl
    where
      by : (t : Bool) → nat_eq acks x.1 ≡ t → Goes s harts (record { cpu = cpu; home = home; mover = with_job mover (cond t (MHold y o n k x.0) (MCollect y o n k (Some x) acks)); flight = ms }) w
      by true t =
          let same : acks ≡ x.1 = grind (arith, nat_tests) in
          let sm : Sim s harts (record { cpu = cpu; home = home; mover = with_job mover (MCollect y o n k (Some x) x.1); flight = ms }) w = subst (λ (a : ℕ). Sim s harts (record { cpu = cpu; home = home; mover = with_job mover (MCollect y o n k (Some x) a); flight = ms }) w) same sim in
          let c = collected s harts cpu home (with_job mover (MCollect y o n k (Some x) x.1)) w y o n k x.0 x.1 ms sm refl in
          let e : Event L = On y n o k (Poison_collected s.nodes x.0 x.1) in
          let z : World L = apply (s.nodes + 1) s.nodes e w in
          then s harts _ w e [] [] refl c.0 (still s harts _ z (without_end s harts cpu home (with_job mover (MHold y o n k x.0)) z ms c.1))
      by false t = still s harts _ w sim

  -- ---- the reply comes

  pub reply_taken : (s : Setup) (harts : Harts L H) (cpu : ℕ → Cpu L H) (home : ℕ → HomeSide L) (mover : Mover L) (w : World L) (o k : ℕ) (l : L) (d : ℕ) (ms : List (Post L)) →
      Sim s harts (record { cpu = cpu; home = home; mover = mover; flight = letter (s.home o) s.nodes (KPoisonReply o k l d) ∷ ms }) w →
      (y : ℕ) × (n : ℕ) × (acks : ℕ) × (mover.job ≡ MCollect y o n k None acks) × Goes s harts (record { cpu = cpu; home = home; mover = take_reply mover y o n k acks l d; flight = ms }) w
  reply_taken s harts cpu home mover w o k l d ms sim = go fd
    where
      x : Post L
      x = letter (s.home o) s.nodes (KPoisonReply o k l d)

      ln : s.nodes < s.nodes + 1
      ln = omega arith

      lk : k < s.blocks
      lk = sim.flight.0.0.0.1

      ask : (w.block o k).ask s.nodes ≡ PoisonReply l d
      ask = sim.flight.0.0.0.2.1

      wn : (w.block o k).want s.nodes ≢ Idle
      wn = (blocks_ready (s.nodes + 1) s.nodes s.pages s.blocks w sim.reached o k s.nodes lk ln).0.reply (λ e. absurd (let a = ask in cc))

      fd : (y : ℕ) × (n : ℕ) × (reply : Option (L × ℕ)) × (acks : ℕ) × (mover.job ≡ MCollect y o n k reply acks)
      fd = collects_here o k mover.job (λ e. wn (let a = sim.mover.want o k in cc))

      go : (y : ℕ) × (n : ℕ) × (reply : Option (L × ℕ)) × (acks : ℕ) × (mover.job ≡ MCollect y o n k reply acks) → (y : ℕ) × (n : ℕ) × (acks : ℕ) × (mover.job ≡ MCollect y o n k None acks) × Goes s harts (record { cpu = cpu; home = home; mover = take_reply mover y o n k acks l d; flight = ms }) w
      go f0 = (y, n, acks, jb, collect_goes s harts cpu home mover w y o n k acks (Some (l, d)) ms received)
        where
          y : ℕ
          y = f0.0

          n : ℕ
          n = f0.1

          acks : ℕ
          acks = f0.3

          nn : nat_eq s.nodes s.nodes ≡ true
          nn = self_number s.nodes

          oo : nat_eq o o ≡ true
          oo = self_number o

          kk : nat_eq k k ≡ true
          kk = self_number k

          nr : f0.2 ≡ None
          nr = let a = sim.flight.0.1 in let b = f0.4 in let c = nn in let u = oo in let v = kk in no_reply o k s.nodes f0.2 (grind arith)

          jb : mover.job ≡ MCollect y o n k None acks
          jb = let a = f0.4 in let b = nr in cc

          m : Mover L
          m = with_job mover (MCollect y o n k (Some (l, d)) acks)

          mv : MoverShows s mover w
          mv = sim.mover

          here_now : kept s.nodes cpu m (AskAt o k s.nodes) ≡ Some (content_of s.nodes x)
          here_now = let c = nn in let u = oo in let v = kk in grind arith

          other : (q : Place) → (kept s.nodes cpu m q ≡ kept s.nodes cpu mover q) ⊎ (q ≡ AskAt o k s.nodes)
          other (AskAt g j q) = elim (cases_Bool (nat_eq q s.nodes)) [
            | inl t ↦ elim (cases_Bool (here o k g j)) [
              | inl h ↦ inr (let e1 : g ≡ o = grind (arith, nat_tests) in let e2 : j ≡ k = grind (arith, nat_tests) in let e3 : q ≡ s.nodes = grind (arith, nat_tests) in cc)
              | inr h ↦ inl (let a = jb in let same : kept_collect g j q m.job ≡ kept_collect g j q mover.job = grind (arith, nat_tests) in cc)
            ]
            | inr t ↦ inl (cc)
          ]
          other (ResponseAt g j q) = inl refl
          other (InterventionAt g j q) = inl refl
          other (DropAt q) = inl refl
          other q = inl refl

          received : Sim s harts (record { cpu = cpu; home = home; mover = m; flight = ms }) w
          received = record {
            reached = sim.reached;
            nodes = sim.nodes;
            tidy = sim.tidy;
            homes = sim.homes;
            mover = record { job = (let a = mv.job in let b = jb in grind arith); want = λ g j. (let a = mv.want g j in let b = jb in grind arith); acks = λ g j. (let a = mv.acks g j in let b = jb in grind arith); page_table = mv.page_table; holders = mv.holders; role = mv.role; sharing = mv.sharing; holder_is = mv.holder_is };
            bounds = record { job = (let b : JobTidy {L = L} s (MCollect y o n k None acks) = subst (λ u. JobTidy s u) jb sim.bounds.job in b); table = sim.bounds.table };
            keeps = λ q c h. elim (other q) [ inl e ↦ sim.keeps q c (cc) | inr e ↦ (let hn = here_now in let same : content_of s.nodes x ≡ c = cc in subst (λ (u : Message L). Stands s w u) same sim.flight.0.0.0) ];
            flight = fits_frame (slot_of s.nodes) (slot_of s.nodes x) (Flies s cpu mover w) (Flies s cpu m w) (λ u ne fl. (fl.0, elim (other (slot_of s.nodes u)) [ inl e ↦ (let v = fl.1 in cc) | inr e ↦ absurd (ne e) ])) ms sim.flight.1 sim.flight.2;
            found = λ q i st. elim (sim.found q i st) [
              | inl h ↦ inl (λ none. elim (other q) [ inl e ↦ h (cc) | inr e ↦ absurd (let hn = here_now in cc) ])
              | inr h ↦ elim h [ inl e ↦ inl (λ none. absurd (let hn = here_now in cc)) | inr r ↦ inr r ]
            ];
          }

  -- ---- an acknowledgement comes

  pub ack_taken : (s : Setup) (harts : Harts L H) (cpu : ℕ → Cpu L H) (home : ℕ → HomeSide L) (mover : Mover L) (w : World L) (q o k : ℕ) (ms : List (Post L)) →
      Sim s harts (record { cpu = cpu; home = home; mover = mover; flight = letter q s.nodes (KInvalAck o k) ∷ ms }) w →
      (y : ℕ) × (n : ℕ) × (reply : Option (L × ℕ)) × (acks : ℕ) × (mover.job ≡ MCollect y o n k reply acks) × Goes s harts (record { cpu = cpu; home = home; mover = take_ack mover y o n k acks reply; flight = ms }) w
  ack_taken s harts cpu home mover w q o k ms sim = go fd
    where
      x : Post L
      x = letter q s.nodes (KInvalAck o k)

      e : Event L
      e = On 0 0 o k (Acknowledged q s.nodes)

      z : World L
      z = apply (s.nodes + 1) s.nodes e w

      ln : s.nodes < s.nodes + 1
      ln = omega arith

      pl : (o < s.frames) × (k < s.blocks) × (q < s.nodes + 1) × ((w.block o k).invalidation q ≡ InvalidateAck s.nodes)
      pl = let a = sim.flight.0.0.0 in (a.0, a.1, a.2.0, a.2.1)

      wn : (w.block o k).want s.nodes ≢ Idle
      wn = let rd = (blocks_ready (s.nodes + 1) s.nodes s.pages s.blocks w sim.reached o k q pl.1 pl.2).0.acknowledge s.nodes pl.3 in
          let inv : Invariant L (s.nodes + 1) s.nodes s.pages s.blocks w = reached (s.nodes + 1) s.nodes s.pages s.blocks w sim.reached in
          granted ((w.block o k).want s.nodes) ((w.block o k).ask s.nodes) ((w.block o k).response s.nodes) ((w.block o k).acks s.nodes) ((inv.link o k pl.1).invariant.each s.nodes ln).asks rd.1

      fd : (y : ℕ) × (n : ℕ) × (reply : Option (L × ℕ)) × (acks : ℕ) × (mover.job ≡ MCollect y o n k reply acks)
      fd = collects_here o k mover.job (λ e. wn (let a = sim.mover.want o k in cc))

      go : (y : ℕ) × (n : ℕ) × (reply : Option (L × ℕ)) × (acks : ℕ) × (mover.job ≡ MCollect y o n k reply acks) → (y : ℕ) × (n : ℕ) × (reply : Option (L × ℕ)) × (acks : ℕ) × (mover.job ≡ MCollect y o n k reply acks) × Goes s harts (record { cpu = cpu; home = home; mover = take_ack mover y o n k acks reply; flight = ms }) w
      go f0 = (y, n, reply, acks, jb, then s harts _ w e [] [] refl gd (collect_goes s harts cpu home mover z y o n k (acks + 1) reply ms counted))
        where
          y : ℕ
          y = f0.0

          n : ℕ
          n = f0.1

          reply : Option (L × ℕ)
          reply = f0.2

          acks : ℕ
          acks = f0.3

          jb : mover.job ≡ MCollect y o n k reply acks
          jb = f0.4

          gd : guard (s.nodes + 1) s.nodes s.pages s.blocks e w
          gd = (pl.3, pl.2, pl.1, tt)

          mv : MoverShows s mover w
          mv = sim.mover

          m : Mover L
          m = with_job mover (MCollect y o n k reply (acks + 1))

          bd : JobTidy {L = L} s (MCollect y o n k reply acks)
          bd = subst (λ u. JobTidy s u) jb sim.bounds.job

          keeps_same : Fewer (kept s.nodes cpu m) (kept s.nodes cpu mover) (owns e)
          keeps_same p = at (owns e p) refl
            where
              same : kept s.nodes cpu m p ≡ kept s.nodes cpu mover p
              same = by p
                where
                  by : (u : Place) → kept s.nodes cpu m u ≡ kept s.nodes cpu mover u
                  by (AskAt g j r) = let a = jb in let b : kept_collect g j r m.job ≡ kept_collect g j r mover.job = grind arith in cc
                  by u = refl

              at : (t : Bool) → owns e p ≡ t → FewerAt (kept s.nodes cpu m p) (kept s.nodes cpu mover p) t
              at true ow = inl ((let v = changed_ack s.nodes q o k w.pages e refl p (or_left (owns e p) (touches w.pages e p) ow) in let a = sim.flight.0.1 in let b = same in cc), refl)
              at false ow = inr (same, refl)

          counted : Sim s harts (record { cpu = cpu; home = home; mover = m; flight = ms }) z
          counted =
              let nn = self_number s.nodes in
              let hs = here_self o k in
              let a = jb in
              without_end s harts cpu home m z ms (mover_event s harts cpu home mover (x ∷ ms) w e m ms [] sim gd
              (λ r lr. (let ne : nat_eq r s.nodes ≡ false = grind (arith, nat_tests) in node_shows harts r (cpu r) w z (node_same (s.nodes + 1) s.nodes 0 0 o k (Acknowledged q s.nodes) w r ne (inl refl)) (sim.nodes r lr)))
              (λ g j lj. home_same (s.nodes + 1) s.nodes 0 0 o k (Acknowledged q s.nodes) w tt refl g j)
              (record {
                job = (let b = mv.job in grind arith);
                want = λ g j. (let t = column_at (λ b. b.want s.nodes) (s.nodes + 1) s.nodes 0 0 o k (Acknowledged q s.nodes) w g j in let u = mv.want g j in let v = mv.want o k in grind (arith, nat_tests));
                acks = λ g j. (let t = column_at (λ b. b.acks s.nodes) (s.nodes + 1) s.nodes 0 0 o k (Acknowledged q s.nodes) w g j in let u = mv.acks g j in let v = mv.acks o k in grind (arith, nat_tests));
                page_table = mv.page_table;
                holders = mv.holders;
                role = mv.role;
                sharing = λ g j. (let t = column_at (λ b. b.sharing) (s.nodes + 1) s.nodes 0 0 o k (Acknowledged q s.nodes) w g j in let u = mv.sharing g j in let v = mv.sharing o k in grind (arith, nat_tests));
                holder_is = mv.holder_is;
              })
              (record { job = bd; table = sim.bounds.table })
              keeps_same
              (rest_one s cpu mover w e x ms sim.flight (λ p ow. changed_ack s.nodes q o k w.pages e refl p (or_left (owns e p) (touches w.pages e p) ow)) (grind (arith, nat_tests)))
              (tt, λ p i c st. absurd (let same = changed_ack s.nodes q o k w.pages e refl p c in let st2 : stands_at z (InvalidationAt o k q) ≡ true = subst (λ (v : Place). stands_at z v ≡ true) same st in let t = column_at (λ b. b.invalidation q) (s.nodes + 1) s.nodes 0 0 o k (Acknowledged q s.nodes) w o k in grind (arith, nat_tests))))

  -- ---- the home was busy

  pub refusal_taken : (s : Setup) (harts : Harts L H) (cpu : ℕ → Cpu L H) (home : ℕ → HomeSide L) (mover : Mover L) (w : World L) (o k : ℕ) (ms : List (Post L)) →
      Sim s harts (record { cpu = cpu; home = home; mover = mover; flight = letter (s.home o) s.nodes (KNak o k) ∷ ms }) w →
      (y : ℕ) × (n : ℕ) × (mover.job ≡ MCollect y o n k None 0) × Goes s harts (record { cpu = cpu; home = home; mover = ask_again mover y o n k; flight = ms }) w
  refusal_taken s harts cpu home mover w o k ms sim = go fd
    where
      x : Post L
      x = letter (s.home o) s.nodes (KNak o k)

      ln : s.nodes < s.nodes + 1
      ln = omega arith

      lk : k < s.blocks
      lk = sim.flight.0.0.0.1

      ask : (w.block o k).ask s.nodes ≡ NegativeAck
      ask = sim.flight.0.0.0.2.1

      inv : Invariant L (s.nodes + 1) s.nodes s.pages s.blocks w
      inv = reached (s.nodes + 1) s.nodes s.pages s.blocks w sim.reached

      fits : Asks (w.block o k) s.nodes
      fits = ((inv.link o k lk).invariant.each s.nodes ln).asks

      wn : (w.block o k).want s.nodes ≢ Idle
      wn = (blocks_ready (s.nodes + 1) s.nodes s.pages s.blocks w sim.reached o k s.nodes lk ln).0.reply (λ e. absurd (let a = ask in cc))

      fd : (y : ℕ) × (n : ℕ) × (reply : Option (L × ℕ)) × (acks : ℕ) × (mover.job ≡ MCollect y o n k reply acks)
      fd = collects_here o k mover.job (λ e. wn (let a = sim.mover.want o k in cc))

      go : (y : ℕ) × (n : ℕ) × (reply : Option (L × ℕ)) × (acks : ℕ) × (mover.job ≡ MCollect y o n k reply acks) → (y : ℕ) × (n : ℕ) × (mover.job ≡ MCollect y o n k None 0) × Goes s harts (record { cpu = cpu; home = home; mover = ask_again mover y o n k; flight = ms }) w
      go f0 = (y, n, jb, then s harts _ w e [] [] refl gd (still s harts _ z after))
        where
          y : ℕ
          y = f0.0

          n : ℕ
          n = f0.1

          nn : nat_eq s.nodes s.nodes ≡ true
          nn = self_number s.nodes

          oo : nat_eq o o ≡ true
          oo = self_number o

          kk : nat_eq k k ≡ true
          kk = self_number k

          mv : MoverShows s mover w
          mv = sim.mover

          nr : f0.2 ≡ None
          nr = let a = sim.flight.0.1 in let b = f0.4 in let c = nn in let u = oo in let v = kk in no_reply o k s.nodes f0.2 (grind arith)

          ww : (w.block o k).want s.nodes ≡ Poisoning
          ww = let a = mv.want o k in let b = f0.4 in let u = oo in let v = kk in grind arith

          wa : (w.block o k).acks s.nodes ≡ 0
          wa = let a = fits in let b = ask in let c = ww in grind arith

          na : f0.3 ≡ 0
          na = let a = mv.acks o k in let b = f0.4 in let c = wa in let u = oo in let v = kk in grind arith

          wr : (w.block o k).response s.nodes ≡ NoResponse
          wr = let a = fits in let b = ask in let c = ww in grind arith

          jb : mover.job ≡ MCollect y o n k None 0
          jb = let a = f0.4 in let b = nr in let c = na in cc

          row : BlockRow L
          row = Again_refused s.nodes

          e : Event L
          e = On y n o k row

          z : World L
          z = apply (s.nodes + 1) s.nodes e w

          gj : w.pages.job ≡ Collect y o n k
          gj = let a = mv.job in let b = jb in grind arith

          gd : guard (s.nodes + 1) s.nodes s.pages s.blocks e w
          gd = ((ask, (let c = ww in grind arith)), ln, lk, ((λ v. gj), (λ v. absurd (v refl))))

          m : Mover L
          m = ask_again mover y o n k

          bd : JobTidy {L = L} s (MCollect y o n k None 0)
          bd = subst (λ u. JobTidy s u) jb sim.bounds.job

          owned : (p : Place) → owns e p ≡ true → is_answer o k s.nodes p ≡ true
          owned p ow = changed_again s.nodes y o n k w.pages e refl p (or_left (owns e p) (touches w.pages e p) ow)

          quiet : (p : Place) → owns e p ≡ true → p ≢ AskAt o k s.nodes → (u : Post L) → Flies s cpu mover w u → slot_of s.nodes u ≢ p
          quiet p ow ne u fl same = elim (answer_places o k s.nodes p (owned p ow)) [
            | inl v ↦ ne v
            | inr v ↦ no_response s w (content_of s.nodes u) o k s.nodes wr fl.0.0 (cc)
          ]

          after : Sim s harts (record { cpu = cpu; home = home; mover = m; flight = ms }) z
          after =
              let hs = here_self o k in
              let a = jb in
              let n1 = nn in
              without_end s harts cpu home m z ms (mover_event s harts cpu home mover (x ∷ ms) w e m ms [] sim gd
              (λ r lr. (let ne : nat_eq r s.nodes ≡ false = grind (arith, nat_tests) in node_shows harts r (cpu r) w z (node_same (s.nodes + 1) s.nodes y n o k row w r ne (inr ne)) (sim.nodes r lr)))
              (λ g j lj. home_same (s.nodes + 1) s.nodes y n o k row w gd.3 refl g j)
              (record {
                job = grind arith;
                want = λ g j. (let t = column_at (λ b. b.want s.nodes) (s.nodes + 1) s.nodes y n o k row w g j in let u = mv.want g j in grind (arith, nat_tests));
                acks = λ g j. (let t = column_at (λ b. b.acks s.nodes) (s.nodes + 1) s.nodes y n o k row w g j in let u = mv.acks g j in let v = wa in grind (arith, nat_tests));
                page_table = λ u lu. (let q = mv.page_table u lu in grind arith);
                holders = λ g r. (let q = mv.holders g r in grind arith);
                role = λ g. (let q = mv.role g in grind arith);
                sharing = λ g j. (let t = column_at (λ b. b.sharing) (s.nodes + 1) s.nodes y n o k row w g j in let u = mv.sharing g j in let v = mv.sharing o k in grind (arith, nat_tests));
                holder_is = mv.holder_is;
              })
              (record { job = bd; table = sim.bounds.table })
              fewer (
                fits_frame (slot_of s.nodes) (AskAt o k s.nodes) (Flies s cpu mover w) (λ u. Flies s cpu mover w u × (owns e (slot_of s.nodes u) ≡ false)) (λ u ne fl. (fl, elim (cases_Bool (owns e (slot_of s.nodes u))) [ inl t ↦ absurd (quiet (slot_of s.nodes u) t ne u fl refl) | inr t ↦ t ])) ms sim.flight.1 sim.flight.2,
                λ p ow h. elim h [ inl same ↦ absurd (let v : owns e (AskAt o k s.nodes) ≡ true = grind (arith, nat_tests) in cc) | inr r ↦ r ],
              ) (
                tt,
                λ p i c st. elim (answer_places o k s.nodes p (changed_again s.nodes y o n k w.pages e refl p c)) [
                  | inl v ↦ absurd (let st2 : stands_at z (AskAt o k s.nodes) ≡ true = subst (λ (u : Place). stands_at z u ≡ true) v st in let t = column_at (λ b. b.ask s.nodes) (s.nodes + 1) s.nodes y n o k row w o k in grind (arith, nat_tests))
                  | inr v ↦ absurd (let st2 : stands_at z (ResponseAt o k s.nodes) ≡ true = subst (λ (u : Place). stands_at z u ≡ true) v st in let t = column_at (λ b. b.response s.nodes) (s.nodes + 1) s.nodes y n o k row w o k in let u = wr in grind (arith, nat_tests))
                ],
              ))
            where
              fewer : Fewer (kept s.nodes cpu (ask_again mover y o n k)) (kept s.nodes cpu mover) (owns {L = L} (On y n o k (Again_refused s.nodes)))
              fewer = let a = jb in keeps_none s.nodes cpu mover m (owns e)
                  (λ g j q ow. (let v = owned (ResponseAt g j q) ow in grind (arith, nat_tests)))
                  (λ g j q. grind (arith, nat_tests)) (λ q. grind (arith, nat_tests)) (λ g j q ow. (let v = owned (AskAt g j q) ow in grind (arith, nat_tests))) (λ g j. grind arith) (λ g j. refl)
