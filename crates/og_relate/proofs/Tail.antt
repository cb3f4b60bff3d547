-- What is answered after a request's end, whatever the copy.
use Rattle.std.proofs.Common.{◌≡◌, ℕ, ◌+◌, ◌<◌, true, arith, ◌≢◌, refl, subst, List, [], ◌∷◌, ◌++◌}
use Rattle.og_block.specs.State.{put, Copy, NoCopy, Shared, Clean, Dirty, Idle, Free, Intervention, NoIntervention, InterveneShared, InterveneExclusive, IntervenePoison}
use Rattle.og_block.specs.Rows.{has_intervention}
use Rattle.og_whole.specs.Events.{World, apply}
use Rattle.og_whole.proofs.Worlds.{blocks_ready}
use Rattle.og_relate.specs.Data.{KInterveneShared, KInterveneEx, KIntervenePoison, KSharedResponse, KExclusiveResponse, KOwnerAck, KSharingWriteBack, KSharingTransfer, KDirtyTransfer, KPoisonBack, KPoisonClean, Post, Setup, IsSetup, Cpu, Mover, HomeSide, Harts}
use Rattle.og_relate.specs.Sim.{want_at, victim_at}
use Rattle.og_relate.specs.Steps.{letter}
use Rattle.og_relate.specs.Node.{held_post, with_copy, answer_drop, tail, tail_by}
use Rattle.og_relate.proofs.Puts.{put_here}
use Rattle.og_relate.proofs.Shares.{shared_dirty, shared_clean, shared_none, exclusive_dirty, exclusive_clean, poison_dirty, poison_clean}
use Rattle.og_relate.proofs.Take.{At, GoesAt, focus, then, append_both, drop_goes}

module _ {L : Type 0} {H : Type 0} where
  pub tail_any : (s : Setup) (harts : Harts L H) (cpu : ℕ → Cpu L H) (home : ℕ → HomeSide L) (mover : Mover L) (p f k : ℕ) (c : Cpu L H) (i : Intervention) (ms : List (Post L)) (w : World L) → IsSetup s → p < s.nodes →
      At s harts cpu home mover p c (held_post s p f k i ++ ms) w → want_at f k c.request ≡ Idle → victim_at f k c.slot ≡ Free →
      GoesAt s harts cpu home mover p (tail s p f k i c).0 (ms ++ (tail s p f k i c).1) w
  tail_any s harts cpu home mover p f k c i ms w setup lp sim wi vf = by i (c.cache f k) refl sim
    where
      after_ : (d : Cpu L H) (ls : List (Post L)) (z : World L) → At s harts cpu home mover p d (ms ++ ls) z → GoesAt s harts cpu home mover p (answer_drop p s.nodes d).0 (ms ++ (ls ++ (answer_drop p s.nodes d).1)) z
      after_ d ls z x = subst (λ (y : List (Post L)). GoesAt s harts cpu home mover p (answer_drop p s.nodes d).0 y z) (append_both ms ls (answer_drop p s.nodes d).1) (drop_goes s harts cpu home mover p d (ms ++ ls) z lp x)

      -- an intervention that is answered meets no shared copy
      unshared : (l : L) (m : Intervention) → m ≢ NoIntervention → (x : Post L) → At s harts cpu home mover p c (x ∷ ms) w → (w.block f k).intervention p ≡ m → k < s.blocks → c.cache f k ≡ Shared l → ⊥
      unshared l m ne x sim e lk cs =
          let h = put_here cpu p c in
          let n = sim.nodes p lp in
          let lp1 : p < s.nodes + 1 = omega arith in
          let a : (w.block f k).victim p ≡ Free = (let y = n.victim f k in cc) in
          let b : (w.block f k).want p ≡ Idle = (let y = n.want f k in cc) in
          let d : (w.block f k).copy p ≡ Shared l = (let y = n.copy f k in cc) in
          let v = (blocks_ready (s.nodes + 1) s.nodes s.pages s.blocks w sim.reached f k p lk lp1).0.intervene (has m ne e) a b in absurd (grind arith)
        where
          has : (m : Intervention) → m ≢ NoIntervention → (w.block f k).intervention p ≡ m → has_intervention ((w.block f k).intervention p) ≡ true
          has NoIntervention ne e = absurd (ne refl)
          has m ne e = grind arith

      Goal : Intervention → Copy L → Type 0
      Goal i x = GoesAt s harts cpu home mover p (tail_by s p f k i c x).0 (ms ++ (tail_by s p f k i c x).1) w

      by : (i : Intervention) (x : Copy L) → c.cache f k ≡ x → At s harts cpu home mover p c (held_post s p f k i ++ ms) w → Goal i x
      by NoIntervention x e sim = drop_goes s harts cpu home mover p c ms w lp sim
      by (InterveneShared r) (Shared l) e sim = absurd (unshared l (InterveneShared r) (λ y. absurd (cc)) (letter (s.home f) p (KInterveneShared f k r)) sim sim.flight.0.0.0.2.1 sim.flight.0.0.0.1 e)
      by (InterveneExclusive r) (Shared l) e sim = absurd (unshared l (InterveneExclusive r) (λ y. absurd (cc)) (letter (s.home f) p (KInterveneEx f k r)) sim sim.flight.0.0.0.2.1 sim.flight.0.0.0.1 e)
      by (IntervenePoison r) (Shared l) e sim = absurd (unshared l (IntervenePoison s.nodes) (λ y. absurd (cc)) (letter (s.home f) p (KIntervenePoison f k)) sim sim.flight.0.0.0.2.1 sim.flight.0.0.0.1 e)
      by (InterveneShared r) (Dirty l) e sim =
          let ls : List (Post L) = letter p r (KSharedResponse f k l) ∷ letter p (s.home f) (KSharingWriteBack f k l) ∷ [] in
          let h = put_here cpu p c in
          let x = shared_dirty s harts (put cpu p c) home mover w f k p r l ms setup sim lp (cc) (cc) (cc) in
          then s harts _ w x.0 [] [] x.2 x.1 (after_ (with_copy c f k (Shared l)) ls (apply (s.nodes + 1) s.nodes x.0 w) (focus s harts cpu home mover p c (λ d. with_copy d f k (Shared l)) (ms ++ ls) (apply (s.nodes + 1) s.nodes x.0 w) x.3))
      by (InterveneShared r) (Clean l) e sim =
          let ls : List (Post L) = letter p r (KOwnerAck f k) ∷ letter p (s.home f) (KSharingTransfer f k) ∷ [] in
          let h = put_here cpu p c in
          let x = shared_clean s harts (put cpu p c) home mover w f k p r l ms setup sim lp (cc) (cc) (cc) in
          then s harts _ w x.0 [] [] x.2 x.1 (after_ (with_copy c f k (Shared l)) ls (apply (s.nodes + 1) s.nodes x.0 w) (focus s harts cpu home mover p c (λ d. with_copy d f k (Shared l)) (ms ++ ls) (apply (s.nodes + 1) s.nodes x.0 w) x.3))
      by (InterveneShared r) NoCopy e sim =
          let ls : List (Post L) = letter p r (KOwnerAck f k) ∷ letter p (s.home f) (KSharingTransfer f k) ∷ [] in
          let h = put_here cpu p c in
          let x = shared_none s harts (put cpu p c) home mover w f k p r ms setup sim lp (cc) (cc) (cc) in
          then s harts _ w x.0 [] [] x.2 x.1 (after_ c ls (apply (s.nodes + 1) s.nodes x.0 w) (focus s harts cpu home mover p c (λ d. d) (ms ++ ls) (apply (s.nodes + 1) s.nodes x.0 w) x.3))
      by (InterveneExclusive r) (Dirty l) e sim =
          let ls : List (Post L) = letter p r (KExclusiveResponse f k l) ∷ letter p (s.home f) (KDirtyTransfer f k) ∷ [] in
          let h = put_here cpu p c in
          let x = exclusive_dirty s harts (put cpu p c) home mover w f k p r l ms setup sim lp (cc) (cc) (cc) in
          then s harts _ w x.0 [] [] x.2 x.1 (after_ (with_copy c f k NoCopy) ls (apply (s.nodes + 1) s.nodes x.0 w) (focus s harts cpu home mover p c (λ d. with_copy d f k NoCopy) (ms ++ ls) (apply (s.nodes + 1) s.nodes x.0 w) x.3))
      by (InterveneExclusive r) (Clean l) e sim =
          let ls : List (Post L) = letter p r (KOwnerAck f k) ∷ letter p (s.home f) (KDirtyTransfer f k) ∷ [] in
          let h = put_here cpu p c in
          let x = exclusive_clean s harts (put cpu p c) home mover w f k p r ms setup sim lp (cc) (cc) (let y : (put cpu p c p).cache f k ≡ Clean l = cc in grind arith) in
          then s harts _ w x.0 [] [] x.2 x.1 (after_ (with_copy c f k NoCopy) ls (apply (s.nodes + 1) s.nodes x.0 w) (focus s harts cpu home mover p c (λ d. with_copy d f k NoCopy) (ms ++ ls) (apply (s.nodes + 1) s.nodes x.0 w) x.3))
      by (InterveneExclusive r) NoCopy e sim =
          let ls : List (Post L) = letter p r (KOwnerAck f k) ∷ letter p (s.home f) (KDirtyTransfer f k) ∷ [] in
          let h = put_here cpu p c in
          let x = exclusive_clean s harts (put cpu p c) home mover w f k p r ms setup sim lp (cc) (cc) (let y : (put cpu p c p).cache f k ≡ NoCopy = cc in grind arith) in
          then s harts _ w x.0 [] [] x.2 x.1 (after_ (with_copy c f k NoCopy) ls (apply (s.nodes + 1) s.nodes x.0 w) (focus s harts cpu home mover p c (λ d. with_copy d f k NoCopy) (ms ++ ls) (apply (s.nodes + 1) s.nodes x.0 w) x.3))
      by (IntervenePoison r) (Dirty l) e sim =
          let ls : List (Post L) = letter p (s.home f) (KPoisonBack f k l) ∷ [] in
          let h = put_here cpu p c in
          let x = poison_dirty s harts (put cpu p c) home mover w f k p l ms setup sim lp (cc) (cc) (cc) in
          then s harts _ w x.0 [] [] x.2 x.1 (after_ (with_copy c f k NoCopy) ls (apply (s.nodes + 1) s.nodes x.0 w) (focus s harts cpu home mover p c (λ d. with_copy d f k NoCopy) (ms ++ ls) (apply (s.nodes + 1) s.nodes x.0 w) x.3))
      by (IntervenePoison r) (Clean l) e sim =
          let ls : List (Post L) = letter p (s.home f) (KPoisonClean f k) ∷ [] in
          let h = put_here cpu p c in
          let x = poison_clean s harts (put cpu p c) home mover w f k p ms setup sim lp (cc) (cc) (let y : (put cpu p c p).cache f k ≡ Clean l = cc in grind arith) in
          then s harts _ w x.0 [] [] x.2 x.1 (after_ (with_copy c f k NoCopy) ls (apply (s.nodes + 1) s.nodes x.0 w) (focus s harts cpu home mover p c (λ d. with_copy d f k NoCopy) (ms ++ ls) (apply (s.nodes + 1) s.nodes x.0 w) x.3))
      by (IntervenePoison r) NoCopy e sim =
          let ls : List (Post L) = letter p (s.home f) (KPoisonClean f k) ∷ [] in
          let h = put_here cpu p c in
          let x = poison_clean s harts (put cpu p c) home mover w f k p ms setup sim lp (cc) (cc) (let y : (put cpu p c p).cache f k ≡ NoCopy = cc in grind arith) in
          then s harts _ w x.0 [] [] x.2 x.1 (after_ (with_copy c f k NoCopy) ls (apply (s.nodes + 1) s.nodes x.0 w) (focus s harts cpu home mover p c (λ d. with_copy d f k NoCopy) (ms ++ ls) (apply (s.nodes + 1) s.nodes x.0 w) x.3))
