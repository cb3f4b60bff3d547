-- A node's act that misses, whole: it throws a block out or none, and its request goes out.
use Rattle.std.proofs.Common.{◌≡◌, ℕ, ◌+◌, ◌<◌, Bool, true, false, arith, ◌≢◌, refl, subst, List, [], ◌++◌, Option, None, Some}
use Rattle.std.proofs.lemmas.Bool.Decides.{nat_tests}
use Rattle.og_block.specs.State.{put, Copy, NoCopy, Shared, Clean, Dirty, Free}
use Rattle.og_block.specs.Rows.{Evict, Forget, is_dirty}
use Rattle.og_pages.specs.State.{To}
use Rattle.og_whole.specs.Events.{World, On, apply}
use Rattle.og_relate.specs.Data.{Post, Setup, Cpu, Mover, HomeSide, Harts}
use Rattle.og_relate.specs.Sim.{Sim, victim_at}
use Rattle.og_relate.specs.Goes.{Goes}
use Rattle.og_relate.specs.Node.{with_copy}
use Rattle.og_relate.specs.Laws.{MayThrow}
use Rattle.og_relate.specs.Acts.{Block, throw_by, throw_out, ask, miss, wanted}
use Rattle.og_relate.proofs.Puts.{put_put, put_here}
use Rattle.og_relate.proofs.Take.{At, GoesAt, still, then, append_both}
use Rattle.og_relate.proofs.Notice.{after}
use Rattle.og_relate.proofs.ActRows.{evicted, forgotten, read_sent, exclusive_sent, upgrade_sent}

module _ {L : Type 0} {H : Type 0} where
  goes_focus : (s : Setup) (harts : Harts L H) (cpu : ℕ → Cpu L H) (home : ℕ → HomeSide L) (mover : Mover L) (p : ℕ) (c : Cpu L H) (g : Cpu L H → Cpu L H × List (Post L)) (ms : List (Post L)) (w : World L) →
      Goes s harts (record { cpu = put (put cpu p c) p (g (put cpu p c p)).0; home = home; mover = mover; flight = ms ++ (g (put cpu p c p)).1 }) w → GoesAt s harts cpu home mover p (g c).0 (ms ++ (g c).1) w
  goes_focus s harts cpu home mover p c g ms w x =
      subst (λ (d : Cpu L H). GoesAt s harts cpu home mover p (g d).0 (ms ++ (g d).1) w) (put_here cpu p c)
      (subst (λ (f : ℕ → Cpu L H). Goes s harts (record { cpu = f; home = home; mover = mover; flight = ms ++ (g (put cpu p c p)).1 }) w) (put_put cpu p c (g (put cpu p c p)).0) x)

  -- the thrown out block
  threw : (s : Setup) (harts : Harts L H) (cpu : ℕ → Cpu L H) (home : ℕ → HomeSide L) (mover : Mover L) (w : World L) (p f k : ℕ) (b : Block) (ms : List (Post L)) →
      Sim s harts (record { cpu = cpu; home = home; mover = mover; flight = ms }) w → p < s.nodes → (cpu p).request ≡ None → MayThrow s f k (cpu p) (Some b) →
      GoesAt s harts cpu home mover p (throw_out s p (Some b) (cpu p)).0 (ms ++ (throw_out s p (Some b) (cpu p)).1) w
  threw s harts cpu home mover w p f k b ms sim lp rq may = by ((cpu p).cache b.frame b.number) refl
    where
      Goal : Copy L → Type 0
      Goal x = GoesAt s harts cpu home mover p (throw_by p (s.home b.frame) b (cpu p) x).0 (ms ++ (throw_by p (s.home b.frame) b (cpu p) x).1) w

      gone : (x : Copy L) → (cpu p).cache b.frame b.number ≡ x → is_dirty x ≡ false → GoesAt s harts cpu home mover p (with_copy (cpu p) b.frame b.number NoCopy) (ms ++ []) w
      gone x e d = let y = forgotten s harts cpu home mover w p b ms sim lp rq (let a = d in cc) may.0 in then s harts _ w (On 0 0 b.frame b.number (Forget p)) [] [] refl y.0 (still s harts _ (apply (s.nodes + 1) s.nodes (On 0 0 b.frame b.number (Forget p)) w) y.1)

      by : (x : Copy L) → (cpu p).cache b.frame b.number ≡ x → Goal x
      by (Dirty l) e = let y = evicted s harts cpu home mover w p b l ms sim lp rq (may.2 (grind arith)) e in then s harts _ w (On 0 0 b.frame b.number (Evict p l)) [] [] refl y.0 (still s harts _ (apply (s.nodes + 1) s.nodes (On 0 0 b.frame b.number (Evict p l)) w) y.1)
      by (Clean l) e = gone (Clean l) e refl
      by (Shared l) e = gone (Shared l) e refl
      by NoCopy e = gone NoCopy e refl

  -- the request that goes out
  asked : (s : Setup) (harts : Harts L H) (cpu : ℕ → Cpu L H) (home : ℕ → HomeSide L) (mover : Mover L) (w : World L) (p f k : ℕ) (ms : List (Post L)) →
      Sim s harts (record { cpu = cpu; home = home; mover = mover; flight = ms }) w → p < s.nodes → (cpu p).request ≡ None → (cpu p).walk ≡ None → (cpu p).tlb (harts.page (cpu p).hart) ≡ To f → k < s.blocks →
      (x : Copy L) → (cpu p).cache f k ≡ x → (x ≡ NoCopy → victim_at f k (cpu p).slot ≡ Free) → (t : Bool) → (t ≡ true → x ≡ NoCopy) → (is_dirty x ≡ false) → ((l : L) → x ≢ Clean l) →
      Goes s harts (record { cpu = put cpu p (ask s p f k (wanted t x) (cpu p)).0; home = home; mover = mover; flight = ms ++ (ask s p f k (wanted t x) (cpu p)).1 }) w
  asked s harts cpu home mover w p f k ms sim lp rq wk tl lk NoCopy cp vf true rd nd ncl = read_sent s harts cpu home mover w p f k ms sim lp rq wk tl lk cp (vf refl)
  asked s harts cpu home mover w p f k ms sim lp rq wk tl lk NoCopy cp vf false rd nd ncl = exclusive_sent s harts cpu home mover w p f k ms sim lp rq wk tl lk cp (vf refl)
  asked s harts cpu home mover w p f k ms sim lp rq wk tl lk (Shared l) cp vf false rd nd ncl = upgrade_sent s harts cpu home mover w p f k l ms sim lp rq wk tl lk cp
  asked s harts cpu home mover w p f k ms sim lp rq wk tl lk (Shared l) cp vf true rd nd ncl = absurd (let a = rd refl in cc)
  asked s harts cpu home mover w p f k ms sim lp rq wk tl lk (Clean l) cp vf t rd nd ncl = absurd (ncl l refl)
  asked s harts cpu home mover w p f k ms sim lp rq wk tl lk (Dirty l) cp vf t rd nd ncl = absurd (cc)

  pub act_misses : (s : Setup) (harts : Harts L H) (cpu : ℕ → Cpu L H) (home : ℕ → HomeSide L) (mover : Mover L) (w : World L) (p f k : ℕ) (victim : Option Block) (ms : List (Post L)) →
      Sim s harts (record { cpu = cpu; home = home; mover = mover; flight = ms }) w → p < s.nodes → (cpu p).request ≡ None → (cpu p).walk ≡ None → (cpu p).tlb (harts.page (cpu p).hart) ≡ To f → k < s.blocks →
      (x : Copy L) → (cpu p).cache f k ≡ x → (x ≡ NoCopy → victim_at f k (cpu p).slot ≡ Free) → (t : Bool) → (t ≡ true → x ≡ NoCopy) → (is_dirty x ≡ false) → ((l : L) → x ≢ Clean l) → MayThrow s f k (cpu p) victim →
      GoesAt s harts cpu home mover p (miss s p f k (wanted t x) victim (cpu p)).0 (ms ++ (miss s p f k (wanted t x) victim (cpu p)).1) w
  act_misses s harts cpu home mover w p f k None ms sim lp rq wk tl lk x cp vf t rd nd ncl may = asked s harts cpu home mover w p f k ms sim lp rq wk tl lk x cp vf t rd nd ncl
  act_misses s harts cpu home mover w p f k (Some b) ms sim lp rq wk tl lk x cp vf t rd nd ncl may =
      subst (λ (y : List (Post L)). GoesAt s harts cpu home mover p (ask s p f k (wanted t x) c).0 y w) (append_both ms (throw_out s p (Some b) (cpu p)).1 (ask s p f k (wanted t x) c).1)
      (after s harts _ _ w (threw s harts cpu home mover w p f k b ms sim lp rq may) (λ z sz. rest z sz ((cpu p).cache b.frame b.number) refl))
    where
      c : Cpu L H
      c = (throw_out s p (Some b) (cpu p)).0

      ls : List (Post L)
      ls = ms ++ (throw_out s p (Some b) (cpu p)).1

      facts : (y : Copy L) → (d : Cpu L H) → d ≡ (throw_by p (s.home b.frame) b (cpu p) y).0 → (d.request ≡ None) × (d.walk ≡ None) × (d.tlb (harts.page d.hart) ≡ To f) × (d.cache f k ≡ x) × (x ≡ NoCopy → victim_at f k d.slot ≡ Free)
      facts (Dirty l) d e = let m = may.1 in (cc, cc, cc, grind (arith, nat_tests), λ n. grind (arith, nat_tests))
      facts NoCopy d e = let m = may.1 in (cc, cc, cc, grind (arith, nat_tests), λ n. (let a = vf n in cc))
      facts (Shared l) d e = let m = may.1 in (cc, cc, cc, grind (arith, nat_tests), λ n. (let a = vf n in cc))
      facts (Clean l) d e = let m = may.1 in (cc, cc, cc, grind (arith, nat_tests), λ n. (let a = vf n in cc))

      rest : (z : World L) → At s harts cpu home mover p c ls z → (y : Copy L) → (cpu p).cache b.frame b.number ≡ y → GoesAt s harts cpu home mover p (ask s p f k (wanted t x) c).0 (ls ++ (ask s p f k (wanted t x) c).1) z
      rest z sz y e =
          let h = put_here cpu p c in
          let fs = facts ((cpu p).cache b.frame b.number) c refl in
          goes_focus s harts cpu home mover p c (λ d. ask s p f k (wanted t x) d) ls z
          (asked s harts (put cpu p c) home mover z p f k ls sz lp (let a = fs.0 in cc) (let a = fs.1 in cc) (let a = fs.2 in cc) lk x (let a = fs.3 in cc) (λ n. (let a = fs.4 n in cc)) t rd nd ncl)
