-- The rows of a node's act that misses.
use Rattle.std.proofs.Common.{◌≡◌, ℕ, ◌+◌, ◌<◌, true, false, arith, inr, refl, sym, inl, List, [], ◌∷◌, ◌++◌, None}
use Rattle.std.proofs.lemmas.Bool.Decides.{nat_tests}
use Rattle.og_block.specs.State.{put, NoCopy, Shared, Dirty, Idle, Reading, Writing, Upgrading, Free}
use Rattle.og_block.specs.Rows.{Row as BlockRow, actor_of, is_dirty, Forget, Evict, Send_read, Send_read_exclusive, Send_upgrade}
use Rattle.og_pages.specs.State.{To, NoRequest, NoWalk, NoVictim}
use Rattle.og_pages.specs.State.{State as Pages}
use Rattle.og_whole.specs.Kind.{kind}
use Rattle.og_whole.specs.Events.{World, Event, On, guard, apply}
use Rattle.og_relate.specs.Data.{KRead, KReadEx, KUpgrade, KWriteBack, Post, Setup, Cpu, Mover, HomeSide, Harts}
use Rattle.og_relate.specs.Places.{Place, BackAt, AskAt, ResponseAt, InterventionAt, DropAt, kept_ask, kept_response, kept_intervention}
use Rattle.og_relate.specs.Sides.{owns, is_home, column_of, is_mover_kind}
use Rattle.og_relate.specs.Sim.{Sim, NodeShows, Tidy, victim_at}
use Rattle.og_relate.specs.Owes.{changes, Letters}
use Rattle.og_relate.specs.Goes.{Goes}
use Rattle.og_relate.specs.Steps.{letter}
use Rattle.og_relate.specs.Node.{with_request, with_copy}
use Rattle.og_relate.specs.Acts.{Block, throw_by, request_for, ask}
use Rattle.og_relate.proofs.Messages.{rest_all}
use Rattle.og_relate.proofs.Rows.{node_row}
use Rattle.og_relate.proofs.Home.{here_self, block_here, one}
use Rattle.og_relate.proofs.Parts.{apart_number, self_number}
use Rattle.og_relate.proofs.Fewer.{fewer_node, column_at}

module _ {L : Type 0} where
  none_evicted : (p page f k : ℕ) (l : L) (e : Event L) → e ≡ On page 0 f k (Evict p l) → (x : Place) → owns e x ≡ false
  none_evicted p page f k l e is x = grind (arith, nat_tests)

  changed_evicted : (p page f k : ℕ) (l : L) (s : Pages L) (e : Event L) → e ≡ On page 0 f k (Evict p l) → (x : Place) → changes s e x ≡ true → x ≡ BackAt f k p
  changed_evicted p page f k l s e is x o = grind (arith, nat_tests)

  none_forgotten : (p page f k : ℕ) (e : Event L) → e ≡ On page 0 f k (Forget p) → (x : Place) → owns e x ≡ false
  none_forgotten p page f k e is x = grind (arith, nat_tests)

  changed_forgotten : (p page f k : ℕ) (s : Pages L) (e : Event L) → e ≡ On page 0 f k (Forget p) → (x : Place) → changes s e x ≡ true → ⊥
  changed_forgotten p page f k s e is x o = grind (arith, nat_tests)

  none_read_sent : (p page f k : ℕ) (e : Event L) → e ≡ On page 0 f k (Send_read p) → (x : Place) → owns e x ≡ false
  none_read_sent p page f k e is x = grind (arith, nat_tests)

  changed_read_sent : (p page f k : ℕ) (s : Pages L) (e : Event L) → e ≡ On page 0 f k (Send_read p) → (x : Place) → changes s e x ≡ true → x ≡ AskAt f k p
  changed_read_sent p page f k s e is x o = grind (arith, nat_tests)

  none_exclusive_sent : (p page f k : ℕ) (e : Event L) → e ≡ On page 0 f k (Send_read_exclusive p) → (x : Place) → owns e x ≡ false
  none_exclusive_sent p page f k e is x = grind (arith, nat_tests)

  changed_exclusive_sent : (p page f k : ℕ) (s : Pages L) (e : Event L) → e ≡ On page 0 f k (Send_read_exclusive p) → (x : Place) → changes s e x ≡ true → x ≡ AskAt f k p
  changed_exclusive_sent p page f k s e is x o = grind (arith, nat_tests)

  none_upgrade_sent : (p page f k : ℕ) (l : L) (e : Event L) → e ≡ On page 0 f k (Send_upgrade p l) → (x : Place) → owns e x ≡ false
  none_upgrade_sent p page f k l e is x = grind (arith, nat_tests)

  changed_upgrade_sent : (p page f k : ℕ) (l : L) (s : Pages L) (e : Event L) → e ≡ On page 0 f k (Send_upgrade p l) → (x : Place) → changes s e x ≡ true → x ≡ AskAt f k p
  changed_upgrade_sent p page f k l s e is x o = grind (arith, nat_tests)

module _ {L : Type 0} {H : Type 0} where
  -- a row of a node's act: it takes from no place, and the node keeps what it kept
  pub act_row : (s : Setup) (harts : Harts L H) (cpu : ℕ → Cpu L H) (home : ℕ → HomeSide L) (mover : Mover L) (w : World L) (page f k : ℕ) (row : BlockRow L) (p : ℕ) (c : Cpu L H) (ms ls : List (Post L)) →
      Sim s harts (record { cpu = cpu; home = home; mover = mover; flight = ms }) w → guard (s.nodes + 1) s.nodes s.pages s.blocks (On page 0 f k row) w → p < s.nodes →
      is_home row ≡ false → column_of row ≡ p → actor_of row ≡ p → is_mover_kind (kind row) s.nodes ≡ false → ((x : Place) → owns (On page 0 f k row) x ≡ false) →
      NodeShows harts p c (apply (s.nodes + 1) s.nodes (On page 0 f k row) w) → Tidy s c → c.drop ≡ (cpu p).drop →
      ((a b : ℕ) → kept_ask a b p c.request ≡ kept_ask a b p (cpu p).request) → ((a b : ℕ) → kept_response a b p c.request ≡ kept_response a b p (cpu p).request) → ((a b : ℕ) → kept_intervention a b p c.request ≡ kept_intervention a b p (cpu p).request) →
      Letters s w (On page 0 f k row) ls →
      Sim s harts (record { cpu = put cpu p c; home = home; mover = mover; flight = ms ++ ls }) (apply (s.nodes + 1) s.nodes (On page 0 f k row) w)
  act_row s harts cpu home mover w page f k row p c ms ls sim gd lp nh col act mk nw shows td cd ka kr ki fls =
      node_row s harts cpu home mover ms w page 0 f k row p c ms ls sim gd nh col lp (inr act) mk shows td
      (fewer_node s.nodes cpu mover p c (owns (On page 0 f k row)) lp (λ x o. absurd (let a = nw x in cc)) (λ a b. inr (ka a b, nw (AskAt a b p))) (λ a b. inr (kr a b, nw (ResponseAt a b p))) (λ a b. inr (ki a b, nw (InterventionAt a b p))) (inr ((cc), nw (DropAt p))))
      (rest_all s cpu mover w (On page 0 f k row) ms sim.flight nw)
      fls

  -- ---- a dirty block is thrown out
  pub evicted : (s : Setup) (harts : Harts L H) (cpu : ℕ → Cpu L H) (home : ℕ → HomeSide L) (mover : Mover L) (w : World L) (p : ℕ) (b : Block) (l : L) (ms : List (Post L)) →
      Sim s harts (record { cpu = cpu; home = home; mover = mover; flight = ms }) w → p < s.nodes → (cpu p).request ≡ None → (cpu p).slot ≡ None → (cpu p).cache b.frame b.number ≡ Dirty l →
      guard (s.nodes + 1) s.nodes s.pages s.blocks (On 0 0 b.frame b.number (Evict p l)) w × Sim s harts (record { cpu = put cpu p (throw_by p (s.home b.frame) b (cpu p) (Dirty l)).0; home = home; mover = mover; flight = ms ++ (throw_by p (s.home b.frame) b (cpu p) (Dirty l)).1 }) (apply (s.nodes + 1) s.nodes (On 0 0 b.frame b.number (Evict p l)) w)
  evicted s harts cpu home mover w p b l ms sim lp rq sl cd =
      let f : ℕ = b.frame in
      let k : ℕ = b.number in
      let row : BlockRow L = Evict p l in
      let e : Event L = On 0 0 f k row in
      let z : World L = apply (s.nodes + 1) s.nodes e w in
      let n : NodeShows harts p (cpu p) w = sim.nodes p lp in
      let td = sim.tidy p lp in
      let pp = self_number p in
      let hs = here_self f k in
      let zb = block_here (s.nodes + 1) s.nodes 0 0 f k row w in
      let c : Cpu L H = (throw_by p (s.home b.frame) b (cpu p) (Dirty l)).0 in
      let r = td.cached f k (λ v. absurd (cc)) in
      let g1 : (w.block f k).want p ≡ Idle = (let y = n.want f k in grind arith) in
      let g2 : (w.block f k).copy p ≡ Dirty l = (let y = n.copy f k in cc) in
      let g3 : (w.block f k).victim p ≡ Free = (let y = n.victim f k in grind arith) in
      let g4 : w.pages.victim p ≡ NoVictim = (let y = n.slot in grind arith) in
      let gd : guard (s.nodes + 1) s.nodes s.pages s.blocks e w = ((g1, g2, g3), (omega arith), r.1, g4) in
      let shows : NodeShows harts p c z = record {
        copy = λ g j. (let t = column_at (λ b. b.copy p) (s.nodes + 1) s.nodes 0 0 f k row w g j in let y = n.copy g j in grind arith);
        want = λ g j. (let t = column_at (λ b. b.want p) (s.nodes + 1) s.nodes 0 0 f k row w g j in let y = n.want g j in let v = n.want f k in grind (arith, nat_tests));
        acks = λ g j. (let t = column_at (λ b. b.acks p) (s.nodes + 1) s.nodes 0 0 f k row w g j in let y = n.acks g j in let v = n.acks f k in grind (arith, nat_tests));
        victim = λ g j. (let t = column_at (λ b. b.victim p) (s.nodes + 1) s.nodes 0 0 f k row w g j in let y = n.victim g j in grind (arith, nat_tests));
        request = n.request;
        slot = grind arith;
        tlb = n.tlb;
        walk = n.walk;
      } in (
        gd,
        act_row s harts cpu home mover w 0 f k row p c ms (letter p (s.home f) (KWriteBack f k l) ∷ []) sim gd lp refl refl refl refl (none_evicted p 0 f k l e refl) shows
            (record { cached = λ g j ne. td.cached g j (λ v. ne (grind arith)); named = td.named; asker = td.asker }) refl (λ a b. refl) (λ a b. refl) (λ a b. refl)
            (((((r.0, r.1, (omega arith, grind arith, λ x. absurd (cc))), (lp, refl), tt), grind arith), tt, tt), λ x i c st. inl (sym (changed_evicted p 0 f k l w.pages e refl x c))),
      )

  -- ---- another one is forgotten
  pub forgotten : (s : Setup) (harts : Harts L H) (cpu : ℕ → Cpu L H) (home : ℕ → HomeSide L) (mover : Mover L) (w : World L) (p : ℕ) (b : Block) (ms : List (Post L)) →
      Sim s harts (record { cpu = cpu; home = home; mover = mover; flight = ms }) w → p < s.nodes → (cpu p).request ≡ None → is_dirty ((cpu p).cache b.frame b.number) ≡ false → b.number < s.blocks →
      guard (s.nodes + 1) s.nodes s.pages s.blocks (On 0 0 b.frame b.number (Forget p)) w × Sim s harts (record { cpu = put cpu p (with_copy (cpu p) b.frame b.number NoCopy); home = home; mover = mover; flight = ms ++ [] }) (apply (s.nodes + 1) s.nodes (On 0 0 b.frame b.number (Forget p)) w)
  forgotten s harts cpu home mover w p b ms sim lp rq cd lk =
      let f : ℕ = b.frame in
      let k : ℕ = b.number in
      let row : BlockRow L = Forget p in
      let e : Event L = On 0 0 f k row in
      let z : World L = apply (s.nodes + 1) s.nodes e w in
      let n : NodeShows harts p (cpu p) w = sim.nodes p lp in
      let td = sim.tidy p lp in
      let pp = self_number p in
      let c : Cpu L H = with_copy (cpu p) f k NoCopy in
      let g1 : (w.block f k).want p ≡ Idle = (let y = n.want f k in grind arith) in
      let g2 : is_dirty ((w.block f k).copy p) ≡ false = (let y = n.copy f k in cc) in
      let gd : guard (s.nodes + 1) s.nodes s.pages s.blocks e w = ((g1, g2), (omega arith), lk, tt) in
      let shows : NodeShows harts p c z = record {
        copy = λ g j. (let t = column_at (λ b. b.copy p) (s.nodes + 1) s.nodes 0 0 f k row w g j in let y = n.copy g j in grind arith);
        want = λ g j. (let t = column_at (λ b. b.want p) (s.nodes + 1) s.nodes 0 0 f k row w g j in let y = n.want g j in let v = n.want f k in grind (arith, nat_tests));
        acks = λ g j. (let t = column_at (λ b. b.acks p) (s.nodes + 1) s.nodes 0 0 f k row w g j in let y = n.acks g j in let v = n.acks f k in grind (arith, nat_tests));
        victim = λ g j. (let t = column_at (λ b. b.victim p) (s.nodes + 1) s.nodes 0 0 f k row w g j in let y = n.victim g j in let v = n.victim f k in grind (arith, nat_tests));
        request = n.request;
        slot = n.slot;
        tlb = n.tlb;
        walk = n.walk;
      } in (
        gd,
        act_row s harts cpu home mover w 0 f k row p c ms [] sim gd lp refl refl refl refl (none_forgotten p 0 f k e refl) shows
            (record { cached = λ g j ne. td.cached g j (λ v. ne (grind arith)); named = td.named; asker = td.asker }) refl (λ a b. refl) (λ a b. refl) (λ a b. refl) (tt, λ x i c st. changed_forgotten p 0 f k w.pages e refl x c),
      )

  pub read_sent : (s : Setup) (harts : Harts L H) (cpu : ℕ → Cpu L H) (home : ℕ → HomeSide L) (mover : Mover L) (w : World L) (p f k : ℕ) (ms : List (Post L)) →
      Sim s harts (record { cpu = cpu; home = home; mover = mover; flight = ms }) w → p < s.nodes → (cpu p).request ≡ None → (cpu p).walk ≡ None → (cpu p).tlb (harts.page (cpu p).hart) ≡ To f → k < s.blocks →
      (cpu p).cache f k ≡ NoCopy → victim_at f k (cpu p).slot ≡ Free →
      Goes s harts (record { cpu = put cpu p (ask s p f k (Reading false) (cpu p)).0; home = home; mover = mover; flight = ms ++ (ask s p f k (Reading false) (cpu p)).1 }) w
  read_sent s harts cpu home mover w p f k ms sim lp rq wk tl lk cp vf =
      let page : ℕ = harts.page (cpu p).hart in
      let row : BlockRow L = Send_read p in
      let e : Event L = On page 0 f k row in
      let z : World L = apply (s.nodes + 1) s.nodes e w in
      let n : NodeShows harts p (cpu p) w = sim.nodes p lp in
      let td = sim.tidy p lp in
      let lf : f < s.frames = td.named page f tl in
      let pp = self_number p in
      let np = apart_number s.nodes p lp in
      let hs = here_self f k in
      let zb = block_here (s.nodes + 1) s.nodes page 0 f k row w in
      let c : Cpu L H = with_request (cpu p) (request_for f k (Reading false)) in
      let g1 : (w.block f k).want p ≡ Idle = (let y = n.want f k in grind arith) in
      let g2 : (w.block f k).copy p ≡ NoCopy = (let y = n.copy f k in cc) in
      let g3 : (w.block f k).victim p ≡ Free = (let y = n.victim f k in cc) in
      let g4 : w.pages.tlb p page ≡ To f = (let y = n.tlb page in cc) in
      let g5 : w.pages.request p ≡ NoRequest = (let y = n.request in grind arith) in
      let g6 : w.pages.walk p ≡ NoWalk = (let y = n.walk in grind arith) in
      let gd : guard (s.nodes + 1) s.nodes s.pages s.blocks e w = ((g1, g2, g3), (omega arith), lk, (g4, g5, g6, λ x. absurd (omega arith))) in
      let shows : NodeShows harts p c z = record {
        copy = λ g j. (let t = column_at (λ b. b.copy p) (s.nodes + 1) s.nodes page 0 f k row w g j in let y = n.copy g j in let v = n.copy f k in grind (arith, nat_tests));
        want = λ g j. (let t = column_at (λ b. b.want p) (s.nodes + 1) s.nodes page 0 f k row w g j in let y = n.want g j in grind (arith, nat_tests));
        acks = λ g j. (let t = column_at (λ b. b.acks p) (s.nodes + 1) s.nodes page 0 f k row w g j in let y = n.acks g j in let v = n.acks f k in grind (arith, nat_tests));
        victim = λ g j. (let t = column_at (λ b. b.victim p) (s.nodes + 1) s.nodes page 0 f k row w g j in let y = n.victim g j in let v = n.victim f k in grind (arith, nat_tests));
        request = grind arith;
        slot = n.slot;
        tlb = n.tlb;
        walk = n.walk;
      } in
      one s harts _ w e refl gd (act_row s harts cpu home mover w page f k row p c ms (letter p (s.home f) (KRead f k) ∷ []) sim gd lp refl refl refl refl (none_read_sent p page f k e refl) shows
      (record { cached = td.cached; named = td.named; asker = tt }) refl (λ a b. grind arith) (λ a b. grind arith) (λ a b. grind arith)
      (((((lf, lk, (omega arith, grind arith, refl)), (lp, refl), tt), grind arith), tt, tt), λ x i c st. inl (sym (changed_read_sent p page f k w.pages e refl x c))))

  pub exclusive_sent : (s : Setup) (harts : Harts L H) (cpu : ℕ → Cpu L H) (home : ℕ → HomeSide L) (mover : Mover L) (w : World L) (p f k : ℕ) (ms : List (Post L)) →
      Sim s harts (record { cpu = cpu; home = home; mover = mover; flight = ms }) w → p < s.nodes → (cpu p).request ≡ None → (cpu p).walk ≡ None → (cpu p).tlb (harts.page (cpu p).hart) ≡ To f → k < s.blocks →
      (cpu p).cache f k ≡ NoCopy → victim_at f k (cpu p).slot ≡ Free →
      Goes s harts (record { cpu = put cpu p (ask s p f k (Writing) (cpu p)).0; home = home; mover = mover; flight = ms ++ (ask s p f k (Writing) (cpu p)).1 }) w
  exclusive_sent s harts cpu home mover w p f k ms sim lp rq wk tl lk cp vf =
      let page : ℕ = harts.page (cpu p).hart in
      let row : BlockRow L = Send_read_exclusive p in
      let e : Event L = On page 0 f k row in
      let z : World L = apply (s.nodes + 1) s.nodes e w in
      let n : NodeShows harts p (cpu p) w = sim.nodes p lp in
      let td = sim.tidy p lp in
      let lf : f < s.frames = td.named page f tl in
      let pp = self_number p in
      let np = apart_number s.nodes p lp in
      let hs = here_self f k in
      let zb = block_here (s.nodes + 1) s.nodes page 0 f k row w in
      let c : Cpu L H = with_request (cpu p) (request_for f k (Writing)) in
      let g1 : (w.block f k).want p ≡ Idle = (let y = n.want f k in grind arith) in
      let g2 : (w.block f k).copy p ≡ NoCopy = (let y = n.copy f k in cc) in
      let g3 : (w.block f k).victim p ≡ Free = (let y = n.victim f k in cc) in
      let g4 : w.pages.tlb p page ≡ To f = (let y = n.tlb page in cc) in
      let g5 : w.pages.request p ≡ NoRequest = (let y = n.request in grind arith) in
      let g6 : w.pages.walk p ≡ NoWalk = (let y = n.walk in grind arith) in
      let gd : guard (s.nodes + 1) s.nodes s.pages s.blocks e w = ((g1, g2, g3), (omega arith), lk, (g4, g5, g6, λ x. absurd (omega arith))) in
      let shows : NodeShows harts p c z = record {
        copy = λ g j. (let t = column_at (λ b. b.copy p) (s.nodes + 1) s.nodes page 0 f k row w g j in let y = n.copy g j in let v = n.copy f k in grind (arith, nat_tests));
        want = λ g j. (let t = column_at (λ b. b.want p) (s.nodes + 1) s.nodes page 0 f k row w g j in let y = n.want g j in grind (arith, nat_tests));
        acks = λ g j. (let t = column_at (λ b. b.acks p) (s.nodes + 1) s.nodes page 0 f k row w g j in let y = n.acks g j in let v = n.acks f k in grind (arith, nat_tests));
        victim = λ g j. (let t = column_at (λ b. b.victim p) (s.nodes + 1) s.nodes page 0 f k row w g j in let y = n.victim g j in let v = n.victim f k in grind (arith, nat_tests));
        request = grind arith;
        slot = n.slot;
        tlb = n.tlb;
        walk = n.walk;
      } in
      one s harts _ w e refl gd (act_row s harts cpu home mover w page f k row p c ms (letter p (s.home f) (KReadEx f k) ∷ []) sim gd lp refl refl refl refl (none_exclusive_sent p page f k e refl) shows
      (record { cached = td.cached; named = td.named; asker = tt }) refl (λ a b. grind arith) (λ a b. grind arith) (λ a b. grind arith)
      (((((lf, lk, (omega arith, grind arith, refl)), (lp, refl), tt), grind arith), tt, tt), λ x i c st. inl (sym (changed_exclusive_sent p page f k w.pages e refl x c))))

  pub upgrade_sent : (s : Setup) (harts : Harts L H) (cpu : ℕ → Cpu L H) (home : ℕ → HomeSide L) (mover : Mover L) (w : World L) (p f k : ℕ) (l : L) (ms : List (Post L)) →
      Sim s harts (record { cpu = cpu; home = home; mover = mover; flight = ms }) w → p < s.nodes → (cpu p).request ≡ None → (cpu p).walk ≡ None → (cpu p).tlb (harts.page (cpu p).hart) ≡ To f → k < s.blocks →
      (cpu p).cache f k ≡ Shared l →
      Goes s harts (record { cpu = put cpu p (ask s p f k (Upgrading) (cpu p)).0; home = home; mover = mover; flight = ms ++ (ask s p f k (Upgrading) (cpu p)).1 }) w
  upgrade_sent s harts cpu home mover w p f k l ms sim lp rq wk tl lk cp =
      let page : ℕ = harts.page (cpu p).hart in
      let row : BlockRow L = Send_upgrade p l in
      let e : Event L = On page 0 f k row in
      let z : World L = apply (s.nodes + 1) s.nodes e w in
      let n : NodeShows harts p (cpu p) w = sim.nodes p lp in
      let td = sim.tidy p lp in
      let lf : f < s.frames = td.named page f tl in
      let pp = self_number p in
      let np = apart_number s.nodes p lp in
      let hs = here_self f k in
      let zb = block_here (s.nodes + 1) s.nodes page 0 f k row w in
      let c : Cpu L H = with_request (cpu p) (request_for f k (Upgrading)) in
      let g1 : (w.block f k).want p ≡ Idle = (let y = n.want f k in grind arith) in
      let g2 : (w.block f k).copy p ≡ Shared l = (let y = n.copy f k in cc) in
      let g4 : w.pages.tlb p page ≡ To f = (let y = n.tlb page in cc) in
      let g5 : w.pages.request p ≡ NoRequest = (let y = n.request in grind arith) in
      let g6 : w.pages.walk p ≡ NoWalk = (let y = n.walk in grind arith) in
      let gd : guard (s.nodes + 1) s.nodes s.pages s.blocks e w = ((g1, g2), (omega arith), lk, (g4, g5, g6, λ x. absurd (omega arith))) in
      let shows : NodeShows harts p c z = record {
        copy = λ g j. (let t = column_at (λ b. b.copy p) (s.nodes + 1) s.nodes page 0 f k row w g j in let y = n.copy g j in let v = n.copy f k in grind (arith, nat_tests));
        want = λ g j. (let t = column_at (λ b. b.want p) (s.nodes + 1) s.nodes page 0 f k row w g j in let y = n.want g j in grind (arith, nat_tests));
        acks = λ g j. (let t = column_at (λ b. b.acks p) (s.nodes + 1) s.nodes page 0 f k row w g j in let y = n.acks g j in let v = n.acks f k in grind (arith, nat_tests));
        victim = λ g j. (let t = column_at (λ b. b.victim p) (s.nodes + 1) s.nodes page 0 f k row w g j in let y = n.victim g j in let v = n.victim f k in grind (arith, nat_tests));
        request = grind arith;
        slot = n.slot;
        tlb = n.tlb;
        walk = n.walk;
      } in
      one s harts _ w e refl gd (act_row s harts cpu home mover w page f k row p c ms (letter p (s.home f) (KUpgrade f k) ∷ []) sim gd lp refl refl refl refl (none_upgrade_sent p page f k l e refl) shows
      (record { cached = td.cached; named = td.named; asker = tt }) refl (λ a b. grind arith) (λ a b. grind arith) (λ a b. grind arith)
      (((((lf, lk, (omega arith, grind arith, refl)), (lp, refl), tt), grind arith), tt, tt), λ x i c st. inl (sym (changed_upgrade_sent p page f k l w.pages e refl x c))))
