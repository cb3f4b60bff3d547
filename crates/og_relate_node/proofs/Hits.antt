-- A hart goes on without an access, an access on a copy that is there, and a walk that goes out.
use Rattle.std.proofs.Common.{◌≡◌, ℕ, ◌+◌, ◌<◌, Bool, true, false, cond, nat_eq, arith, ◌||◌, inl, inr, refl, sym, subst, List, [], ◌∷◌, ◌++◌, None, Some}
use Rattle.std.proofs.lemmas.Bool.{cases_Bool}
use Rattle.std.proofs.lemmas.Bool.Decides.{nat_tests}
use Rattle.og_slots.proofs.Flight.{fits_map}
use Rattle.og_block.specs.State.{put, Copy, NoCopy, Shared, Clean, Dirty, Idle}
use Rattle.og_block.specs.Rows.{Row as BlockRow, actor_of, apply as block_apply, HasWritable, Load_shared, Load_clean, Load_dirty, Store}
use Rattle.og_pages.specs.State.{State as Pages, To, NoEntry, NoRequest, NoWalk}
use Rattle.og_pages.specs.Rows.{Walk_send}
use Rattle.og_whole.specs.Kind.{kind}
use Rattle.og_whole.specs.Events.{World, Event, Page, On, guard, apply}
use Rattle.og_relate.specs.Data.{KWalk, Post, Setup, Cpu, Mover, HomeSide, Harts}
use Rattle.og_relate.specs.Places.{Place, AskAt, ResponseAt, InterventionAt, DropAt, WalkAt, slot_of, kept, Flies}
use Rattle.og_relate.specs.Sides.{here, owns, touches, is_home, column_of, is_mover_kind}
use Rattle.og_relate.specs.Sim.{Sim, NodeShows, WalkShows}
use Rattle.og_relate.specs.Owes.{changes}
use Rattle.og_relate.specs.Goes.{made_of}
use Rattle.og_relate.specs.Steps.{letter}
use Rattle.og_relate.proofs.Fewer.{fewer_node, column_at}
use Rattle.og_relate.proofs.Home.{here_self}
use Rattle.og_relate.proofs.Messages.{rest_all}
use Rattle.og_relate.proofs.Parts.{self_number}
use Rattle.og_relate.proofs.Rows.{cpu_row, tidy_put}
use Rattle.og_relate.proofs.ActRows.{act_row}
use Rattle.og_relate.proofs.Take.{MakesAt, GoesAt, then, still, without_end}
use Rattle.og_relate_node.specs.Steps.{line_of, with_hart, hit_with, walk_out}

module _ {L : Type 0} where
  none_loads_shared : (p page f k : ℕ) (l : L) (s : Pages L) (e : Event L) → e ≡ On page 0 f k (Load_shared p l) → (x : Place) → changes s e x ≡ false
  none_loads_shared p page f k l s e is x = grind (arith, nat_tests)

  none_loads_clean : (p page f k : ℕ) (l : L) (s : Pages L) (e : Event L) → e ≡ On page 0 f k (Load_clean p l) → (x : Place) → changes s e x ≡ false
  none_loads_clean p page f k l s e is x = grind (arith, nat_tests)

  none_loads_dirty : (p page f k : ℕ) (l : L) (s : Pages L) (e : Event L) → e ≡ On page 0 f k (Load_dirty p l) → (x : Place) → changes s e x ≡ false
  none_loads_dirty p page f k l s e is x = grind (arith, nat_tests)

  none_stored : (p page f k : ℕ) (v l : L) (s : Pages L) (e : Event L) → e ≡ On page 0 f k (Store p v l) → (x : Place) → changes s e x ≡ false
  none_stored p page f k v l s e is x = grind (arith, nat_tests)

  changed_walk : (p y : ℕ) (s : Pages L) (e : Event L) → e ≡ Page (Walk_send p y) → (x : Place) → changes s e x ≡ true → x ≡ WalkAt p
  changed_walk p y s e is x o = grind (arith, nat_tests)

neither : (a b : Bool) → (a || b) ≡ false → a ≡ false
neither a b o = grind arith

module _ {L : Type 0} {H : Type 0} where
  -- ---- the hart goes on

  pub hart_goes : (s : Setup) (harts : Harts L H) (cpu : ℕ → Cpu L H) (home : ℕ → HomeSide L) (mover : Mover L) (w : World L) (p : ℕ) (h : H) (ms : List (Post L)) →
      Sim s harts (record { cpu = cpu; home = home; mover = mover; flight = ms }) w → p < s.nodes → (cpu p).request ≡ None →
      GoesAt s harts cpu home mover p (with_hart (cpu p) h) ms w
  hart_goes s harts cpu home mover w p h ms sim lp rq =
      let n : NodeShows harts p (cpu p) w = sim.nodes p lp in
      let c : Cpu L H = with_hart (cpu p) h in
      let td = sim.tidy p lp in
      still s harts _ w (record {
        reached = sim.reached;
        nodes = λ q lq. at q lq (nat_eq q p) refl (record { copy = n.copy; want = n.want; acks = n.acks; victim = n.victim; request = (let y = n.request in grind arith); slot = n.slot; tlb = n.tlb; walk = n.walk });
        tidy = tidy_put s cpu p c sim.tidy (record { cached = td.cached; named = td.named; asker = td.asker });
        homes = sim.homes;
        mover = sim.mover;
        bounds = sim.bounds;
        keeps = λ q m k. sim.keeps q m (let e = same q in cc);
        flight = fits_map (slot_of s.nodes) (Flies s cpu mover w) (Flies s (put cpu p c) mover w) (λ y fl. (fl.0, (let e = same (slot_of s.nodes y) in let k = fl.1 in cc))) ms sim.flight;
        found = λ q i st. elim (sim.found q i st) [ inl k ↦ inl (λ none. k (let e = same q in cc)) | inr t ↦ inr t ];
      })
    where
      c2 : Cpu L H
      c2 = with_hart (cpu p) h

      at : (q : ℕ) → q < s.nodes → (t : Bool) → nat_eq q p ≡ t → NodeShows harts p c2 w → NodeShows harts q (cond t c2 (cpu q)) w
      at q lq true e own = let same : p ≡ q = grind (arith, nat_tests) in subst (λ (x : ℕ). NodeShows harts x c2 w) same own
      at q lq false e own = sim.nodes q lq

      same_request : (q : ℕ) → (put cpu p c2 q).request ≡ (cpu q).request
      same_request q = grind (arith, nat_tests)

      same_drop : (q : ℕ) → (put cpu p c2 q).drop ≡ (cpu q).drop
      same_drop q = grind (arith, nat_tests)

      same : (q : Place) → kept s.nodes (put cpu p c2) mover q ≡ kept s.nodes cpu mover q
      same (AskAt f k q) = let e = same_request q in cc
      same (ResponseAt f k q) = let e = same_request q in cc
      same (InterventionAt f k q) = let e = same_request q in cc
      same (DropAt q) = let e = same_drop q in cc
      same q = refl

  -- ---- an access on a copy

  -- a row that leaves the block as it is
  loads : (s : Setup) (harts : Harts L H) (cpu : ℕ → Cpu L H) (home : ℕ → HomeSide L) (mover : Mover L) (w : World L) (p f k : ℕ) (l : L) (h : H) (row : BlockRow L) (ms : List (Post L)) →
      Sim s harts (record { cpu = cpu; home = home; mover = mover; flight = ms }) w → p < s.nodes → (cpu p).request ≡ None →
      guard (s.nodes + 1) s.nodes s.pages s.blocks (On (harts.page (cpu p).hart) 0 f k row) w → is_home row ≡ false → column_of row ≡ p → actor_of row ≡ p → is_mover_kind (kind row) s.nodes ≡ false →
      block_apply (s.nodes + 1) row (w.block f k) ≡ w.block f k → (apply (s.nodes + 1) s.nodes (On (harts.page (cpu p).hart) 0 f k row) w).pages ≡ w.pages →
      ((x : Place) → changes w.pages (On (harts.page (cpu p).hart) 0 f k row) x ≡ false) →
      Sim s harts (record { cpu = put cpu p (with_hart (cpu p) h); home = home; mover = mover; flight = ms ++ [] }) (apply (s.nodes + 1) s.nodes (On (harts.page (cpu p).hart) 0 f k row) w)
  loads s harts cpu home mover w p f k l h row ms sim lp rq gd nh col act mk same pg none =
      let page : ℕ = harts.page (cpu p).hart in
      let e : Event L = On page 0 f k row in
      let z : World L = apply (s.nodes + 1) s.nodes e w in
      let n : NodeShows harts p (cpu p) w = sim.nodes p lp in
      let td = sim.tidy p lp in
      let c : Cpu L H = with_hart (cpu p) h in
      act_row s harts cpu home mover w page f k row p c ms [] sim gd lp nh col act mk (λ x. neither (owns e x) (touches w.pages e x) (none x))
      (record {
        copy = λ g j. (let t = column_at (λ b. b.copy p) (s.nodes + 1) s.nodes page 0 f k row w g j in let y = n.copy g j in let u = n.copy f k in grind (arith, nat_tests));
        want = λ g j. (let t = column_at (λ b. b.want p) (s.nodes + 1) s.nodes page 0 f k row w g j in let y = n.want g j in let u = n.want f k in grind (arith, nat_tests));
        acks = λ g j. (let t = column_at (λ b. b.acks p) (s.nodes + 1) s.nodes page 0 f k row w g j in let y = n.acks g j in let u = n.acks f k in grind (arith, nat_tests));
        victim = λ g j. (let t = column_at (λ b. b.victim p) (s.nodes + 1) s.nodes page 0 f k row w g j in let y = n.victim g j in let u = n.victim f k in grind (arith, nat_tests));
        request = (let y = n.request in grind arith);
        slot = (let y = n.slot in cc);
        tlb = λ y. (let a = n.tlb y in cc);
        walk = subst (λ (u : Pages L). WalkShows (cpu p).walk (u.walk p)) (sym pg) n.walk;
      })
      (record { cached = td.cached; named = td.named; asker = td.asker }) refl (λ a b. refl) (λ a b. refl) (λ a b. refl)
      (tt, λ x i ch st. absurd (let a = none x in cc))

  pub read_hits : (s : Setup) (harts : Harts L H) (cpu : ℕ → Cpu L H) (home : ℕ → HomeSide L) (mover : Mover L) (w : World L) (p f k : ℕ) (l : L) (x : Copy L) (ms : List (Post L)) →
      Sim s harts (record { cpu = cpu; home = home; mover = mover; flight = ms }) w → p < s.nodes → (cpu p).request ≡ None → (cpu p).tlb (harts.page (cpu p).hart) ≡ To f → k < s.blocks →
      (cpu p).cache f k ≡ x → line_of x ≡ Some l →
      MakesAt s harts cpu home mover p (hit_with harts (cpu p) f k l false) ms w (record { page = harts.page (cpu p).hart; number = k; found = l; left = None } ∷ [])
  read_hits s harts cpu home mover w p f k l x ms sim lp rq tl lk cx li = by x cx li
    where
      page : ℕ
      page = harts.page (cpu p).hart

      n : NodeShows harts p (cpu p) w
      n = sim.nodes p lp

      te : w.pages.tlb p page ≡ To f
      te = let a = n.tlb page in cc

      idle : (w.block f k).want p ≡ Idle
      idle = let a = n.want f k in grind arith

      lp1 : p < s.nodes + 1
      lp1 = omega arith

      go : (row : BlockRow L) → guard (s.nodes + 1) s.nodes s.pages s.blocks (On page 0 f k row) w → made_of (On page 0 f k row) ≡ record { page = page; number = k; found = l; left = None } ∷ [] →
          Sim s harts (record { cpu = put cpu p (hit_with harts (cpu p) f k l false); home = home; mover = mover; flight = ms ++ [] }) (apply (s.nodes + 1) s.nodes (On page 0 f k row) w) → MakesAt s harts cpu home mover p (hit_with harts (cpu p) f k l false) ms w (record { page = page; number = k; found = l; left = None } ∷ [])
      go row gd me sm =
          let z : World L = apply (s.nodes + 1) s.nodes (On page 0 f k row) w in
          then s harts _ w (On page 0 f k row) (record { page = page; number = k; found = l; left = None } ∷ []) [] me gd (still s harts _ z (without_end s harts (put cpu p (hit_with harts (cpu p) f k l false)) home mover z ms sm))

      by : (x : Copy L) → (cpu p).cache f k ≡ x → line_of x ≡ Some l → MakesAt s harts cpu home mover p (hit_with harts (cpu p) f k l false) ms w (record { page = page; number = k; found = l; left = None } ∷ [])
      by NoCopy cx li = absurd (cc)
      by (Shared m) cx li =
          let lm : m ≡ l = cc in
          let cw : (w.block f k).copy p ≡ Shared l = (let a = n.copy f k in cc) in
          let gd : guard (s.nodes + 1) s.nodes s.pages s.blocks (On page 0 f k (Load_shared p l)) w = ((idle, cw), lp1, lk, te) in
          go (Load_shared p l) gd refl (loads s harts cpu home mover w p f k l (harts.after (cpu p).hart l) (Load_shared p l) ms sim lp rq gd refl refl refl refl refl refl (none_loads_shared p page f k l w.pages (On page 0 f k (Load_shared p l)) refl))
      by (Clean m) cx li =
          let lm : m ≡ l = cc in
          let cw : (w.block f k).copy p ≡ Clean l = (let a = n.copy f k in cc) in
          let gd : guard (s.nodes + 1) s.nodes s.pages s.blocks (On page 0 f k (Load_clean p l)) w = ((idle, cw), lp1, lk, te) in
          go (Load_clean p l) gd refl (loads s harts cpu home mover w p f k l (harts.after (cpu p).hart l) (Load_clean p l) ms sim lp rq gd refl refl refl refl refl refl (none_loads_clean p page f k l w.pages (On page 0 f k (Load_clean p l)) refl))
      by (Dirty m) cx li =
          let lm : m ≡ l = cc in
          let cw : (w.block f k).copy p ≡ Dirty l = (let a = n.copy f k in cc) in
          let gd : guard (s.nodes + 1) s.nodes s.pages s.blocks (On page 0 f k (Load_dirty p l)) w = ((idle, cw), lp1, lk, te) in
          go (Load_dirty p l) gd refl (loads s harts cpu home mover w p f k l (harts.after (cpu p).hart l) (Load_dirty p l) ms sim lp rq gd refl refl refl refl refl refl (none_loads_dirty p page f k l w.pages (On page 0 f k (Load_dirty p l)) refl))

  pub write_hits : (s : Setup) (harts : Harts L H) (cpu : ℕ → Cpu L H) (home : ℕ → HomeSide L) (mover : Mover L) (w : World L) (p f k : ℕ) (l : L) (ms : List (Post L)) →
      Sim s harts (record { cpu = cpu; home = home; mover = mover; flight = ms }) w → p < s.nodes → (cpu p).request ≡ None → (cpu p).tlb (harts.page (cpu p).hart) ≡ To f → k < s.blocks →
      HasWritable ((cpu p).cache f k) l →
      MakesAt s harts cpu home mover p (hit_with harts (cpu p) f k l true) ms w (record { page = harts.page (cpu p).hart; number = k; found = l; left = Some (harts.line_after (cpu p).hart l) } ∷ [])
  write_hits s harts cpu home mover w p f k l ms sim lp rq tl lk hw =
      let page : ℕ = harts.page (cpu p).hart in
      let v : L = harts.line_after (cpu p).hart l in
      let row : BlockRow L = Store p v l in
      let e : Event L = On page 0 f k row in
      let z : World L = apply (s.nodes + 1) s.nodes e w in
      let n : NodeShows harts p (cpu p) w = sim.nodes p lp in
      let td = sim.tidy p lp in
      let lf : f < s.frames = td.named page f tl in
      let pp = self_number p in
      let hs = here_self f k in
      let te : w.pages.tlb p page ≡ To f = (let a = n.tlb page in cc) in
      let idle : (w.block f k).want p ≡ Idle = (let a = n.want f k in grind arith) in
      let cw : HasWritable ((w.block f k).copy p) l = subst (λ (u : Copy L). HasWritable u l) (sym (n.copy f k)) hw in
      let gd : guard (s.nodes + 1) s.nodes s.pages s.blocks e w = ((idle, cw), (omega arith), lk, te) in
      let c : Cpu L H = hit_with harts (cpu p) f k l true in
      let none : (x : Place) → changes w.pages e x ≡ false = none_stored p page f k v l w.pages e refl in
      let sm = act_row s harts cpu home mover w page f k row p c ms [] sim gd lp refl refl refl refl (λ x. neither (owns e x) (touches w.pages e x) (none x))
      (record {
        copy = λ g j. (let t = column_at (λ b. b.copy p) (s.nodes + 1) s.nodes page 0 f k row w g j in let y = n.copy g j in grind arith);
        want = λ g j. (let t = column_at (λ b. b.want p) (s.nodes + 1) s.nodes page 0 f k row w g j in let y = n.want g j in let u = n.want f k in grind (arith, nat_tests));
        acks = λ g j. (let t = column_at (λ b. b.acks p) (s.nodes + 1) s.nodes page 0 f k row w g j in let y = n.acks g j in let u = n.acks f k in grind (arith, nat_tests));
        victim = λ g j. (let t = column_at (λ b. b.victim p) (s.nodes + 1) s.nodes page 0 f k row w g j in let y = n.victim g j in let u = n.victim f k in grind (arith, nat_tests));
        request = (let y = n.request in grind arith);
        slot = n.slot;
        tlb = n.tlb;
        walk = n.walk;
      })
      (record { cached = λ g j ne. elim (cases_Bool (here f k g j)) [ inl t ↦ (let e1 : g ≡ f = grind (arith, nat_tests) in let e2 : j ≡ k = grind (arith, nat_tests) in (subst (λ u. u < s.frames) (sym e1) lf, subst (λ u. u < s.blocks) (sym e2) lk)) | inr t ↦ td.cached g j (λ q. ne (grind arith)) ]; named = td.named; asker = td.asker }) refl (λ a b. refl) (λ a b. refl) (λ a b. refl)
      (tt, λ x i ch st. absurd (let a = none x in cc)) in
      then s harts _ w e (record { page = page; number = k; found = l; left = Some v } ∷ []) [] refl gd (still s harts _ z (without_end s harts (put cpu p c) home mover z ms sm))

  -- ---- a walk goes out

  pub walk_goes : (s : Setup) (harts : Harts L H) (cpu : ℕ → Cpu L H) (home : ℕ → HomeSide L) (mover : Mover L) (w : World L) (p y : ℕ) (ms : List (Post L)) →
      Sim s harts (record { cpu = cpu; home = home; mover = mover; flight = ms }) w → p < s.nodes → (cpu p).request ≡ None → (cpu p).walk ≡ None → (cpu p).tlb y ≡ NoEntry → y < s.pages →
      GoesAt s harts cpu home mover p (walk_out s p y (cpu p)).0 (ms ++ (walk_out s p y (cpu p)).1) w
  walk_goes s harts cpu home mover w p y ms sim lp rq wk tl ly =
      let e : Event L = Page (Walk_send p y) in
      let z : World L = apply (s.nodes + 1) s.nodes e w in
      let n : NodeShows harts p (cpu p) w = sim.nodes p lp in
      let td = sim.tidy p lp in
      let pp = self_number p in
      let g1 : w.pages.walk p ≡ NoWalk = (let a = n.walk in grind arith) in
      let g2 : w.pages.request p ≡ NoRequest = (let a = n.request in grind arith) in
      let g3 : w.pages.tlb p y ≡ NoEntry = (let a = n.tlb y in cc) in
      let gd : guard (s.nodes + 1) s.nodes s.pages s.blocks e w = ((g1, g2, g3, ly), refl) in
      let c : Cpu L H = (walk_out s p y (cpu p)).0 in
      then s harts _ w e [] [] refl gd (still s harts _ z
      (cpu_row s harts cpu home mover ms w e p c ms (letter p s.nodes (KWalk y) ∷ []) sim gd
      (λ q ne. record { copy = λ a b. refl; want = λ a b. refl; acks = λ a b. refl; victim = λ a b. refl; request = refl; slot = refl; tlb = λ u. refl; walk = grind (arith, nat_tests) })
      (λ a b. record { entry = refl; line = refl; noticed = refl })
      (record { job = refl; want = λ a b. refl; acks = λ a b. refl; page_table = λ u. refl; holders = λ a b. refl; role = refl; sharing = λ a b. refl })
      (record { copy = n.copy; want = n.want; acks = n.acks; victim = n.victim; request = n.request; slot = n.slot; tlb = n.tlb; walk = grind (arith, nat_tests) })
      (record { cached = td.cached; named = td.named; asker = td.asker })
      (fewer_node s.nodes cpu mover p c (owns e) lp (λ u o. absurd (cc)) (λ a b. inr (refl, refl)) (λ a b. inr (refl, refl)) (λ a b. inr (refl, refl)) (inr (refl, refl)))
      (rest_all s cpu mover w e ms sim.flight (λ u. refl))
      (((((lp, grind arith, λ x. absurd (cc)), (lp, refl, ly), tt), grind arith), tt, tt), λ x i ch st. inl (sym (changed_walk p y w.pages e refl x ch)))))
