-- What the parts that came make of a request, in all cases.
use Rattle.std.proofs.Common.{◌≡◌, ℕ, ◌+◌, ◌<◌, Bool, true, false, cond, nat_eq, arith, ◌≢◌, refl, sym, subst, List, [], ◌∷◌, ◌++◌, None, Some}
use Rattle.std.proofs.lemmas.Bool.Decides.{nat_tests}
use Rattle.og_block.specs.State.{put, Copy, Shared, Clean, Dirty, Want, Idle, Reading, Writing, Upgrading, Response, SharedResponse, ExclusiveResponse, OwnerAck, Free, NoIntervention}
use Rattle.og_pages.specs.Rows.{Tlb_forget}
use Rattle.og_whole.specs.Events.{World, Event, Page, guard, apply}
use Rattle.og_whole.specs.Link.{Invariant}
use Rattle.og_whole.proofs.Runs.{reached}
use Rattle.og_relate.specs.Data.{GotShared, GotNak, GotError, Post, Setup, IsSetup, Got, GotSpec, GotExclusive, GotUpgrade, Request, Cpu, Mover, HomeSide, Harts}
use Rattle.og_relate.specs.Places.{is_at}
use Rattle.og_relate.specs.Sim.{Sim, victim_at}
use Rattle.og_relate.specs.Goes.{Made, made_of}
use Rattle.og_relate.specs.Node.{held_post, dropped, forget_page, Forgets, hold, filled, ended, read_made, write_made, outcome_made, settle_made, tail, Outcome, Waits, Writes, outcome, settle_by, settle}
use Rattle.og_relate.proofs.Puts.{put_here}
use Rattle.og_relate.proofs.Refusals.{fill_shared, again_shared, again_refused, again_upgrade_refused, poisoned, page_forgotten}
use Rattle.og_relate.proofs.Fill.{fill_exclusive, fill_upgrade, fill_upgrade_line}
use Rattle.og_relate.proofs.Fills.{fill_clean, fill_shared_answered, fill_shared_speculative, fill_exclusive_answered, fill_exclusive_speculative, again_speculative_answered, again_speculative_owner}
use Rattle.og_relate.proofs.Take.{At, MakesAt, focus, still, then, append_none, without_end}
use Rattle.og_relate.proofs.Hand.{in_hand, rested}
use Rattle.og_relate.proofs.Tail.{tail_any}

module _ {L : Type 0} {H : Type 0} where
  -- a row that ends the request, whatever the machine holds besides; g is what it makes of the node
  abbrev pub Ends : Setup → Harts L H → (ℕ → HomeSide L) → Mover L → ℕ → ℕ → ℕ → Cpu L H → Request L → (Cpu L H → Request L → Cpu L H) → List (Made L) → World L → Type 0
  Ends s harts home mover p f k c r g made w = (cpu : ℕ → Cpu L H) (t : Request L) (ms : List (Post L)) → Sim s harts (record { cpu = cpu; home = home; mover = mover; flight = ms }) w → (cpu p).request ≡ Some t → is_at f k t ≡ true → t.held ≡ NoIntervention → t.want ≡ r.want → t.got ≡ r.got → t.response ≡ r.response → t.acks ≡ r.acks → cpu p ≡ hold c r NoIntervention →
      (e : Event L) × guard (s.nodes + 1) s.nodes s.pages s.blocks e w × (made_of e ≡ made) × Sim s harts (record { cpu = put cpu p (g (cpu p) t); home = home; mover = mover; flight = ms ++ [] }) (apply (s.nodes + 1) s.nodes e w)

  pub ends_go : (s : Setup) (harts : Harts L H) (cpu : ℕ → Cpu L H) (home : ℕ → HomeSide L) (mover : Mover L) (p f k : ℕ) (c : Cpu L H) (r : Request L) (g : Cpu L H → Request L → Cpu L H) (made : List (Made L)) (ms : List (Post L)) (w : World L) → IsSetup s → p < s.nodes →
      At s harts cpu home mover p c ms w → c.request ≡ Some r → is_at f k r ≡ true → r.want ≢ Idle → k < s.blocks →
      g (hold c r NoIntervention) (record r { held = NoIntervention }) ≡ g c r → (g c r).request ≡ None → (g c r).slot ≡ c.slot → Ends s harts home mover p f k c r g made w →
      MakesAt s harts cpu home mover p (tail s p f k r.held (g c r)).0 (ms ++ (tail s p f k r.held (g c r)).1) w (made ++ [])
  ends_go s harts cpu home mover p f k c r g made ms w setup lp sim rq at wn lk same gr gs ends =
      let inv : Invariant L (s.nodes + 1) s.nodes s.pages s.blocks w = reached (s.nodes + 1) s.nodes s.pages s.blocks w sim.reached in
      let lp1 : p < s.nodes + 1 = omega arith in
      let h = put_here cpu p c in
      let ww : (w.block f k).want p ≡ r.want = (let a = (sim.nodes p lp).want f k in grind arith) in
      let vf : (w.block f k).victim p ≡ Free = rested (s.nodes + 1) (w.pages.newest f k) (w.block f k) p ((inv.link f k lk).invariant.each p lp1) (λ e. wn (cc)) in
      let vs : victim_at f k (g c r).slot ≡ Free = (let a = (sim.nodes p lp).victim f k in cc) in
      let d : Cpu L H = hold c r NoIntervention in
      let t : Request L = record r { held = NoIntervention } in
      let hand : List (Post L) = held_post s p f k r.held ++ ms in
      let sim2 : At s harts cpu home mover p d hand w = in_hand s harts cpu home mover p f k c r ms w setup lp sim rq at vf in
      let hd = put_here cpu p d in
      let x = ends (put cpu p d) t hand sim2 (cc) at refl refl refl refl refl hd in
      let z : World L = apply (s.nodes + 1) s.nodes x.0 w in
      let sim3 : At s harts cpu home mover p (g d t) hand z = without_end s harts (put cpu p (g d t)) home mover z hand (focus s harts cpu home mover p d (λ d. g d t) (hand ++ []) z x.3) in
      let sim4 : At s harts cpu home mover p (g c r) hand z = subst (λ (y : Cpu L H). At s harts cpu home mover p y hand z) same sim3 in
      then s harts _ w x.0 made [] x.2 x.1 (tail_any s harts cpu home mover p f k (g c r) r.held ms z setup lp sim4 (let a = gr in grind arith) vs)

  -- the page has moved away: the request ends, its translation is dropped, and then the tail
  forgets_go : (s : Setup) (harts : Harts L H) (cpu : ℕ → Cpu L H) (home : ℕ → HomeSide L) (mover : Mover L) (p f k : ℕ) (c : Cpu L H) (r : Request L) (ms : List (Post L)) (w : World L) → IsSetup s → p < s.nodes →
      At s harts cpu home mover p c ms w → c.request ≡ Some r → is_at f k r ≡ true → r.want ≢ Idle → k < s.blocks → Ends s harts home mover p f k c r (λ d t. ended d) [] w →
      MakesAt s harts cpu home mover p (tail s p f k r.held (forget_page harts (ended c))).0 (ms ++ (tail s p f k r.held (forget_page harts (ended c))).1) w []
  forgets_go s harts cpu home mover p f k c r ms w setup lp sim rq at wn lk ends =
      let inv : Invariant L (s.nodes + 1) s.nodes s.pages s.blocks w = reached (s.nodes + 1) s.nodes s.pages s.blocks w sim.reached in
      let lp1 : p < s.nodes + 1 = omega arith in
      let h = put_here cpu p c in
      let ww : (w.block f k).want p ≡ r.want = (let a = (sim.nodes p lp).want f k in grind arith) in
      let vf : (w.block f k).victim p ≡ Free = rested (s.nodes + 1) (w.pages.newest f k) (w.block f k) p ((inv.link f k lk).invariant.each p lp1) (λ e. wn (cc)) in
      let vs : victim_at f k c.slot ≡ Free = (let a = (sim.nodes p lp).victim f k in cc) in
      let d : Cpu L H = hold c r NoIntervention in
      let t : Request L = record r { held = NoIntervention } in
      let hand : List (Post L) = held_post s p f k r.held ++ ms in
      let sim2 : At s harts cpu home mover p d hand w = in_hand s harts cpu home mover p f k c r ms w setup lp sim rq at vf in
      let hd = put_here cpu p d in
      let x = ends (put cpu p d) t hand sim2 (cc) at refl refl refl refl refl hd in
      let z : World L = apply (s.nodes + 1) s.nodes x.0 w in
      let sim3 : At s harts cpu home mover p (ended c) hand z = without_end s harts (put cpu p (ended c)) home mover z hand (focus s harts cpu home mover p d (λ d. ended d) (hand ++ []) z x.3) in
      let y = page_forgotten s harts (put cpu p (ended c)) home mover z p hand sim3 lp in
      let he = put_here cpu p (ended c) in
      let e : Event L = Page (Tlb_forget p (harts.page (put cpu p (ended c) p).hart)) in
      let v : World L = apply (s.nodes + 1) s.nodes e z in
      let sim4 : At s harts cpu home mover p (forget_page harts (ended c)) hand v = without_end s harts (put cpu p (forget_page harts (ended c))) home mover v hand (focus s harts cpu home mover p (ended c) (λ d. forget_page harts d) (hand ++ []) v y.1) in
      then s harts _ w x.0 [] [] x.2 x.1 (then s harts _ z e [] [] refl y.0 (tail_any s harts cpu home mover p f k (forget_page harts (ended c)) r.held ms v setup lp sim4 refl vs))

  pub settle_any : (s : Setup) (harts : Harts L H) (cpu : ℕ → Cpu L H) (home : ℕ → HomeSide L) (mover : Mover L) (p f k : ℕ) (c : Cpu L H) (r : Request L) (ms : List (Post L)) (w : World L) → IsSetup s → p < s.nodes →
      At s harts cpu home mover p c ms w → c.request ≡ Some r → is_at f k r ≡ true → k < s.blocks →
      MakesAt s harts cpu home mover p (settle s harts p f k c r).0 (ms ++ (settle s harts p f k c r).1) w (settle_made harts f k c r)
  settle_any s harts cpu home mover p f k c r ms w setup lp sim rq at lk = by (c.cache f k) r.want r.got r.response refl refl refl refl
    where
      Goal : Outcome L → Type 0
      Goal o = MakesAt s harts cpu home mover p (settle_by s harts p f k c r o).0 (ms ++ (settle_by s harts p f k c r o).1) w (outcome_made harts c k o)

      waits : Goal Waits
      waits = still s harts (record { cpu = put cpu p c; home = home; mover = mover; flight = ms ++ [] }) w (subst (λ (x : List (Post L)). At s harts cpu home mover p c x w) (sym (append_none ms)) sim)

      go : (g : Cpu L H → Request L → Cpu L H) (made : List (Made L)) → r.want ≢ Idle → g (hold c r NoIntervention) (record r { held = NoIntervention }) ≡ g c r → (g c r).request ≡ None → (g c r).slot ≡ c.slot → Ends s harts home mover p f k c r g made w → MakesAt s harts cpu home mover p (tail s p f k r.held (g c r)).0 (ms ++ (tail s p f k r.held (g c r)).1) w (made ++ [])
      go g made wn a b d e = ends_go s harts cpu home mover p f k c r g made ms w setup lp sim rq at wn lk a b d e

      equal : (a d : ℕ) → nat_eq a d ≡ true → a ≡ d
      equal a d e = grind (arith, nat_tests)

      forgotten : r.want ≢ Idle → r.got ≡ GotError → Goal Forgets
      forgotten wi ge = forgets_go s harts cpu home mover p f k c r ms w setup lp sim rq at wi lk
          (λ cpu2 t ns sm q a hd wn gt rs ac ch. poisoned s harts cpu2 home mover w p f k t ns sm lp q a hd (λ y. wi (cc)) (cc))

      by : (x : Copy L) (m : Want) (g : Got L) (v : Response L) → c.cache f k ≡ x → r.want ≡ m → r.got ≡ g → r.response ≡ v → Goal (outcome m g v r.acks x)
      by x (Reading m) (GotExclusive l d) v ec ew eg ev = go (λ d t. filled harts d t (Clean l) l) (read_made harts c k l ∷ []) (λ y. absurd (cc)) refl refl refl
          (λ cpu2 t ns sm q a hd wn gt rs ac ch. (let y = fill_clean s harts cpu2 home mover w p f k t l m d ns sm lp q a hd (cc) (cc) in (y.0, y.1, (let z = y.2 in cc), y.3)))
      by x (Reading false) (GotShared l) v ec ew eg ev = go (λ d t. filled harts d t (Shared l) l) (read_made harts c k l ∷ []) (λ y. absurd (cc)) refl refl refl
          (λ cpu2 t ns sm q a hd wn gt rs ac ch. (let y = fill_shared s harts cpu2 home mover w p f k t l ns sm lp q a hd (cc) (cc) in (y.0, y.1, (let z = y.2 in cc), y.3)))
      by x (Reading true) (GotShared l) v ec ew eg ev = go (λ d t. ended d) [] (λ y. absurd (cc)) refl refl refl
          (λ cpu2 t ns sm q a hd wn gt rs ac ch. again_shared s harts cpu2 home mover w p f k t l ns sm lp q a hd (cc) (cc))
      by x (Reading m) GotNak v ec ew eg ev = go (λ d t. ended d) [] (λ y. absurd (cc)) refl refl refl
          (λ cpu2 t ns sm q a hd wn gt rs ac ch. again_refused s harts cpu2 home mover w p f k t ns sm lp q a hd (λ y. absurd (cc)) (grind arith) (cc))
      by x Writing GotNak v ec ew eg ev = go (λ d t. ended d) [] (λ y. absurd (cc)) refl refl refl
          (λ cpu2 t ns sm q a hd wn gt rs ac ch. again_refused s harts cpu2 home mover w p f k t ns sm lp q a hd (λ y. absurd (cc)) (grind arith) (cc))
      by x Upgrading GotNak v ec ew eg ev = go (λ d t. dropped d f k) [] (λ y. absurd (cc)) refl refl refl
          (λ cpu2 t ns sm q a hd wn gt rs ac ch. again_upgrade_refused s harts cpu2 home mover w p f k t ns sm lp q a hd (cc) (cc))
      by x (Reading m) GotError v ec ew eg ev = forgotten (λ y. absurd (cc)) eg
      by x Writing GotError v ec ew eg ev = forgotten (λ y. absurd (cc)) eg
      by x Upgrading GotError v ec ew eg ev = forgotten (λ y. absurd (cc)) eg
      by x (Reading false) (GotSpec m) (SharedResponse l) ec ew eg ev = go (λ d t. filled harts d t (Shared l) l) (read_made harts c k l ∷ []) (λ y. absurd (cc)) refl refl refl
          (λ cpu2 t ns sm q a hd wn gt rs ac ch. (let y = fill_shared_answered s harts cpu2 home mover w p f k t l m ns sm lp q a hd (cc) (cc) (cc) in (y.0, y.1, (let z = y.2 in cc), y.3)))
      by x (Reading false) (GotSpec m) OwnerAck ec ew eg ev = go (λ d t. filled harts d t (Shared m) m) (read_made harts c k m ∷ []) (λ y. absurd (cc)) refl refl refl
          (λ cpu2 t ns sm q a hd wn gt rs ac ch. (let y = fill_shared_speculative s harts cpu2 home mover w p f k t m ns sm lp q a hd (cc) (cc) (cc) in (y.0, y.1, (let z = y.2 in cc), y.3)))
      by x (Reading true) (GotSpec m) (SharedResponse l) ec ew eg ev = go (λ d t. ended d) [] (λ y. absurd (cc)) refl refl refl
          (λ cpu2 t ns sm q a hd wn gt rs ac ch. again_speculative_answered s harts cpu2 home mover w p f k t m l ns sm lp q a hd (cc) (cc) (cc))
      by x (Reading true) (GotSpec m) OwnerAck ec ew eg ev = go (λ d t. ended d) [] (λ y. absurd (cc)) refl refl refl
          (λ cpu2 t ns sm q a hd wn gt rs ac ch. again_speculative_owner s harts cpu2 home mover w p f k t m ns sm lp q a hd (cc) (cc) (cc))
      by x Writing (GotExclusive l d) v ec ew eg ev = at_ (nat_eq r.acks d) refl
        where
          at_ : (t : Bool) → nat_eq r.acks d ≡ t → Goal (cond t (Writes l) Waits)
          at_ true e = let ad = equal r.acks d e in go (λ d t. filled harts d t (Dirty (harts.line_after d.hart l)) l) (write_made harts c k l ∷ []) (λ y. absurd (cc)) refl refl refl
              (λ cpu2 t ns sm q a hd wn gt rs ac ch. (let y = fill_exclusive s harts cpu2 home mover w p f k t l d ns sm lp q a hd (cc) (cc) (cc) in (y.0, y.1, (let z = y.2 in cc), y.3)))
          at_ false e = waits
      by x Writing (GotSpec m) (ExclusiveResponse l) ec ew eg ev = go (λ d t. filled harts d t (Dirty (harts.line_after d.hart l)) l) (write_made harts c k l ∷ []) (λ y. absurd (cc)) refl refl refl
          (λ cpu2 t ns sm q a hd wn gt rs ac ch. (let y = fill_exclusive_answered s harts cpu2 home mover w p f k t m l ns sm lp q a hd (cc) (cc) (cc) in (y.0, y.1, (let z = y.2 in cc), y.3)))
      by x Writing (GotSpec m) OwnerAck ec ew eg ev = go (λ d t. filled harts d t (Dirty (harts.line_after d.hart m)) m) (write_made harts c k m ∷ []) (λ y. absurd (cc)) refl refl refl
          (λ cpu2 t ns sm q a hd wn gt rs ac ch. (let y = fill_exclusive_speculative s harts cpu2 home mover w p f k t m ns sm lp q a hd (cc) (cc) (cc) in (y.0, y.1, (let z = y.2 in cc), y.3)))
      by x Upgrading (GotExclusive l d) v ec ew eg ev = at_ (nat_eq r.acks d) refl
        where
          at_ : (t : Bool) → nat_eq r.acks d ≡ t → Goal (cond t (Writes l) Waits)
          at_ true e = let ad = equal r.acks d e in go (λ d t. filled harts d t (Dirty (harts.line_after d.hart l)) l) (write_made harts c k l ∷ []) (λ y. absurd (cc)) refl refl refl
              (λ cpu2 t ns sm q a hd wn gt rs ac ch. (let y = fill_upgrade_line s harts cpu2 home mover w p f k t l d ns sm lp q a hd (cc) (cc) (cc) in (y.0, y.1, (let z = y.2 in cc), y.3)))
          at_ false e = waits
      by (Shared l) Upgrading (GotUpgrade d) v ec ew eg ev = at_ (nat_eq r.acks d) refl
        where
          at_ : (t : Bool) → nat_eq r.acks d ≡ t → Goal (cond t (Writes l) Waits)
          at_ true e = let ad = equal r.acks d e in go (λ d t. filled harts d t (Dirty (harts.line_after d.hart l)) l) (write_made harts c k l ∷ []) (λ y. absurd (cc)) refl refl refl
              (λ cpu2 t ns sm q a hd wn gt rs ac ch. (let y = fill_upgrade s harts cpu2 home mover w p f k t l d ns sm lp q a hd (cc) (cc) (cc) (cc) in (y.0, y.1, (let z = y.2 in cc), y.3)))
          at_ false e = waits
      by x m g v ec ew eg ev = waits
