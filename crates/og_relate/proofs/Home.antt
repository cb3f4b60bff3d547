-- A home's rows at a request.
use Rattle.std.proofs.Common.{◌≡◌, ℕ, zero, suc, ◌+◌, ◌<◌, Bool, true, false, cond, nat_eq, ◌&&◌, arith, ◌≢◌, inl, refl, sym, subst, List, [], ◌∷◌, ◌++◌}
use Rattle.std.proofs.lemmas.Bool.Decides.{nat_tests}
use Rattle.og_slots.specs.Count.{count}
use Rattle.og_slots.proofs.Count.{count_same}
use Rattle.og_slots.specs.Flight.{Fits, Apart}
use Rattle.og_slots.proofs.Flight.{fits_append}
use Rattle.og_block.specs.State.{put, others, ReadExclusive, Invalidate, Entry, Unowned, SharedBy, Exclusive, PoisonBy}
use Rattle.og_block.specs.Rows.{Row as BlockRow, apply as block_apply, Read_exclusive_shared}
use Rattle.og_pages.specs.State.{State as Pages}
use Rattle.og_whole.specs.Kind.{kind, Inner}
use Rattle.og_whole.specs.Events.{World, Event, On, guard, apply}
use Rattle.og_whole.specs.HomeEntry.{home_entry_at, home_entry, is_blank_in}
use Rattle.og_whole.specs.Link.{Invariant}
use Rattle.og_whole.proofs.Runs.{reached}
use Rattle.og_whole.proofs.Linked.{here_is}
use Rattle.og_relate.specs.Data.{KReadEx, KExclusiveReply, KInvalidate, Post, Setup, Cpu, Mover, HomeSide, HomeEntry, HShared, HExclusive, Machine, Harts}
use Rattle.og_relate.specs.Places.{Place, AskAt, InvalidationAt, Inside, slot_of, Placed, Has}
use Rattle.og_relate.specs.Sides.{here, owns, touches, is_home}
use Rattle.og_relate.specs.Sim.{Sim, HomeShows, EntryShows}
use Rattle.og_relate.specs.Goes.{Goes, made_of}
use Rattle.og_relate.specs.Owes.{changes, Letters}
use Rattle.og_relate.specs.Steps.{letter, invalidations, with_entry}
use Rattle.og_relate.proofs.Messages.{has_left, has_right}
use Rattle.og_relate.proofs.Rows.{home_row}

-- the entry at the home is the block's own, but for a block that is Unowned there
pub entry_is : (b : Bool) (e d : Entry) → home_entry b e ≡ d → d ≢ Unowned → e ≡ d
entry_is b e d x ne = grind arith

pub entry_shown : (b : Bool) (e : Entry) → ((p : ℕ) → e ≢ PoisonBy p) → home_entry b e ≡ e
entry_shown b e ne = by b e ne
  where
    by : (b : Bool) (e : Entry) → ((p : ℕ) → e ≢ PoisonBy p) → home_entry b e ≡ e
    by true (PoisonBy p) ne = absurd (ne p refl)
    by b e ne = grind arith

count_top : (n : ℕ) (f g : ℕ → Bool) → f n ≡ false → ((q : ℕ) → q < n → f q ≡ g q) → count (n + 1) f ≡ count n g
count_top n f g top same = let s : count n f ≡ count n g = count_same n f g same in let e : n + 1 ≡ suc n = omega arith in subst (λ (x : ℕ). count x f ≡ count n g) (sym e) (by (f n) top s)
  where
    by : (b : Bool) → b ≡ false → count n f ≡ count n g → cond b 1 0 + count n f ≡ count n g
    by b t s = grind arith

apart_append : {K : Type 0} → (n : ℕ) (x : Place) (ms xs : List (Post K)) → Apart (slot_of n) x ms → Apart (slot_of n) x xs → Apart (slot_of n) x (ms ++ xs)
apart_append n x [] xs a b = b
apart_append n x (m ∷ ms) xs a b = (a.0, apart_append n x ms xs a.1 b)

pub invalidations_apart : (K : Type 0) → (n : ℕ) (x : Place) (a f k r : ℕ) (t : ℕ → Bool) (i : ℕ) → ((q : ℕ) → q < i → InvalidationAt f k q ≢ x) → Apart (slot_of {L = K} n) x (invalidations a f k r t i)
invalidations_apart K n x a f k r t zero ne = tt
invalidations_apart K n x a f k r t (suc i) ne = apart_append n x (invalidations a f k r t i) (cond (others t r i) (letter a i (KInvalidate f k r) ∷ []) []) (invalidations_apart K n x a f k r t i (λ q lt. ne q (omega arith))) (last (others t r i))
  where
    last : (b : Bool) → Apart (slot_of {L = K} n) x (cond b (letter a i (KInvalidate f k r) ∷ []) [])
    last true = (ne i (omega arith), tt)
    last false = tt

-- each of them is among the letters
pub invalidations_has : (L : Type 0) → (n a f k r : ℕ) (t : ℕ → Bool) (i q : ℕ) → q < i → others t r q ≡ true → Has {L = L} n (invalidations a f k r t i) (InvalidationAt f k q)
invalidations_has L n a f k r t zero q lt o = absurd (omega arith)
invalidations_has L n a f k r t (suc i) q lt o = by (nat_eq q i) refl (λ lower. invalidations_has L n a f k r t i q lower o)
  where
    last : (b : Bool) → b ≡ true → q ≡ i → Has {L = L} n (cond b (letter a i (KInvalidate f k r) ∷ []) []) (InvalidationAt f k q)
    last true b e = inl (cc)
    last false b e = absurd (cc)

    by : (b : Bool) → nat_eq q i ≡ b → (q < i → Has {L = L} n (invalidations a f k r t i) (InvalidationAt f k q)) → Has {L = L} n (invalidations a f k r t (suc i)) (InvalidationAt f k q)
    by true b rest = let e : q ≡ i = grind (arith, nat_tests) in has_right n (invalidations a f k r t i) (cond (others t r i) (letter a i (KInvalidate f k r) ∷ []) []) (InvalidationAt f k q) (last (others t r i) (cc) e)
    by false b rest = let ne : q ≢ i = grind (arith, nat_tests) in has_left n (invalidations a f k r t i) (cond (others t r i) (letter a i (KInvalidate f k r) ∷ []) []) (InvalidationAt f k q) (rest (omega arith))

pub here_self : (f k : ℕ) → here f k f k ≡ true
here_self f k = grind (arith, nat_tests)

-- the places of a row that invalidates: the request's, and those of the other sharers
abbrev pub is_spread : ℕ → ℕ → ℕ → (ℕ → Bool) → Place → Bool
is_spread f k p u (AskAt g j q) = here f k g j && nat_eq q p
is_spread f k p u (InvalidationAt g j q) = here f k g j && others u p q
is_spread f k p u x = false

module _ {L : Type 0} where
  -- ---- letters to all sharers

  pub invalidations_fit : (n : ℕ) (P : Post L → Type 0) (a f k r : ℕ) (t : ℕ → Bool) (i : ℕ) → ((q : ℕ) → q < i → others t r q ≡ true → P (letter a q (KInvalidate f k r))) → Fits (slot_of n) P (invalidations a f k r t i)
  invalidations_fit n P a f k r t zero h = tt
  invalidations_fit n P a f k r t (suc i) h = last (others t r i) refl (invalidations_fit n P a f k r t i (λ q lt o. h q (omega arith) o))
    where
      last : (b : Bool) → others t r i ≡ b → Fits (slot_of n) P (invalidations a f k r t i) → Fits (slot_of n) P (invalidations a f k r t i ++ cond b (letter a i (KInvalidate f k r) ∷ []) [])
      last true o before = fits_append (slot_of n) P (invalidations a f k r t i) (letter a i (KInvalidate f k r) ∷ []) before (h i (omega arith) o, tt, tt) (invalidations_apart L n (InvalidationAt f k i) a f k r t i (λ q lt e. (let x : q ≡ i = grind arith in absurd (omega arith))), tt)
      last false o before = fits_append (slot_of n) P (invalidations a f k r t i) [] before tt tt

  -- ---- what a home's row owes

  -- the block after the row
  pub block_here : (n m page other f k : ℕ) (r : BlockRow L) (w : World L) → (apply n m (On page other f k r) w).block f k ≡ block_apply n r (w.block f k)
  block_here n m page other f k r w = here_is f k (block_apply n r (w.block f k)) (w.block f k)

  pub entry_here : (h : HomeSide L) (f k : ℕ) (e : HomeEntry) → (with_entry h f k e).entry f k ≡ e
  entry_here h f k e = here_is f k e (h.entry f k)

  pub entry_other : (h : HomeSide L) (f k : ℕ) (e : HomeEntry) (g j : ℕ) → here f k g j ≡ false → h.entry g j ≡ (with_entry h f k e).entry g j
  entry_other h f k e g j ne = grind (arith, nat_tests)

  owned_shared : (p f k : ℕ) (u : ℕ → Bool) (e : Event L) → e ≡ On 0 0 f k (Read_exclusive_shared p u) → (x : Place) → owns e x ≡ true → x ≡ AskAt f k p
  owned_shared p f k u e is x o = grind (arith, nat_tests)

  -- each has its letter: the invalidations, and then the reply
  pub spread_has : (s : Setup) (a f k p : ℕ) (t u : ℕ → Bool) (reply : Post L) → ((q : ℕ) → q < s.nodes → t q ≡ u q) → others u p s.nodes ≡ false → slot_of s.nodes reply ≡ AskAt f k p →
      (x : Place) → Inside s x → is_spread f k p u x ≡ true → Has s.nodes (invalidations a f k p t s.nodes ++ reply ∷ []) x
  spread_has s a f k p t u reply same top sl (AskAt g j q) i c = has_right s.nodes (invalidations a f k p t s.nodes) (reply ∷ []) (AskAt g j q) (inl (let e1 : g ≡ f = grind (arith, nat_tests) in let e2 : j ≡ k = grind (arith, nat_tests) in let e3 : q ≡ p = grind (arith, nat_tests) in cc))
  spread_has s a f k p t u reply same top sl (InvalidationAt g j q) i c =
      let e1 : g ≡ f = grind (arith, nat_tests) in
      let e2 : j ≡ k = grind (arith, nat_tests) in
      let o : others u p q ≡ true = grind (arith, nat_tests) in
      let ne : q ≢ s.nodes = λ e. absurd (cc) in
      let lq : q < s.nodes = (let some = i.2 in omega arith) in
      let sq = same q lq in
      let o2 : others t p q ≡ true = grind arith in
      let h = invalidations_has L s.nodes a f k p t s.nodes q lq o2 in
      has_left s.nodes (invalidations a f k p t s.nodes) (reply ∷ []) (InvalidationAt g j q) (subst (λ (y : ℕ). Has {L = L} s.nodes (invalidations a f k p t s.nodes) (InvalidationAt g y q)) (sym e2) (subst (λ (y : ℕ). Has {L = L} s.nodes (invalidations a f k p t s.nodes) (InvalidationAt y k q)) (sym e1) h))
  spread_has s a f k p t u reply same top sl x i c = absurd (cc)

  changed_shared : (p f k : ℕ) (u : ℕ → Bool) (s : Pages L) (e : Event L) → e ≡ On 0 0 f k (Read_exclusive_shared p u) → (x : Place) → changes s e x ≡ true → is_spread f k p u x ≡ true
  changed_shared p f k u s e is x o = grind (arith, nat_tests)

module _ {L : Type 0} {H : Type 0} where
  -- a row that sets the entry and leaves the line
  pub home_entry_row : (s : Setup) (harts : Harts L H) (cpu : ℕ → Cpu L H) (home : ℕ → HomeSide L) (mover : Mover L) (w : World L) (page other f k : ℕ) (r : BlockRow L) (x : Post L) (e : HomeEntry) (ms ls : List (Post L)) →
      Sim s harts (record { cpu = cpu; home = home; mover = mover; flight = x ∷ ms }) w → guard (s.nodes + 1) s.nodes s.pages s.blocks (On page other f k r) w → f < s.frames →
      is_home r ≡ true → kind r ≡ Inner → ((p : Place) → owns (On page other f k r) p ≡ true → p ≡ slot_of s.nodes x) → owns (On page other f k r) (slot_of s.nodes x) ≡ true →
      (d : Entry) → (block_apply (s.nodes + 1) r (w.block f k)).entry ≡ d → ((p : ℕ) → d ≢ PoisonBy p) → EntryShows s.nodes e d → (block_apply (s.nodes + 1) r (w.block f k)).line ≡ (w.block f k).line →
      Letters s w (On page other f k r) ls →
      Sim s harts (record { cpu = cpu; home = put home (s.home f) (with_entry (home (s.home f)) f k e); mover = mover; flight = ms ++ ls }) (apply (s.nodes + 1) s.nodes (On page other f k r) w)
  home_entry_row s harts cpu home mover w page other f k r x e ms ls sim gd lf ih ki owned at_x d de np shows line fls =
      let z : World L = apply (s.nodes + 1) s.nodes (On page other f k r) w in
      let old = sim.homes f k lf gd.2 in
      let zb = block_here (s.nodes + 1) s.nodes page other f k r w in
      let ze : home_entry_at z f k ≡ d = let a : home_entry_at z f k ≡ home_entry (is_blank_in z.pages f) d = cc in let b = entry_shown (is_blank_in z.pages f) d np in cc in
      let own : HomeShows s.nodes f k (with_entry (home (s.home f)) f k e) z = record {
        entry = subst (λ (u : HomeEntry). EntryShows s.nodes u (home_entry_at z f k)) (sym (entry_here (home (s.home f)) f k e)) (subst (λ (u : Entry). EntryShows s.nodes e u) (sym ze) shows);
        line = (let a = old.line in cc);
        noticed = (let a = old.noticed in let pg : z.pages ≡ w.pages = cc in cc);
      } in
      home_row s harts cpu home mover w page other f k r x (with_entry (home (s.home f)) f k e) ms ls sim gd ih ki owned at_x own (λ g j ne. (entry_other (home (s.home f)) f k e g j ne, refl)) (λ g. refl) fls

  -- one event of the theory
  pub one : (s : Setup) (harts : Harts L H) (m : Machine L H) (w : World L) (e : Event L) → made_of e ≡ [] → guard (s.nodes + 1) s.nodes s.pages s.blocks e w → Sim s harts m (apply (s.nodes + 1) s.nodes e w) → Goes s harts m w
  one s harts m w e none gd sim = record { events = e ∷ []; made = cc; world = apply (s.nodes + 1) s.nodes e w; runs = (gd, refl); sim = sim }

  -- ---- an exclusive read at a shared block

  pub read_exclusive_shared : (s : Setup) (harts : Harts L H) (cpu : ℕ → Cpu L H) (home : ℕ → HomeSide L) (mover : Mover L) (w : World L) (f k p : ℕ) (t : ℕ → Bool) (ms : List (Post L)) →
      Sim s harts (record { cpu = cpu; home = home; mover = mover; flight = letter p (s.home f) (KReadEx f k) ∷ ms }) w → (home (s.home f)).entry f k ≡ HShared t →
      Goes s harts (record { cpu = cpu; home = put home (s.home f) (with_entry (home (s.home f)) f k (HExclusive p)); mover = mover; flight = ms ++ (invalidations (s.home f) f k p t s.nodes ++ letter (s.home f) p (KExclusiveReply f k ((home (s.home f)).line f k) (count s.nodes (others t p))) ∷ []) }) w
  read_exclusive_shared s harts cpu home mover w f k p t ms sim he =
      let pl = sim.flight.0.0 in
      let lf : f < s.frames = pl.0.0 in
      let lk : k < s.blocks = pl.0.1 in
      let sh = sim.homes f k lf lk in
      by (home_entry_at w f k) refl (subst (λ (u : HomeEntry). EntryShows s.nodes u (home_entry_at w f k)) he sh.entry) lf lk pl.0.2.1 pl.1.0 sh.line
    where
      by : (e : Entry) → home_entry_at w f k ≡ e → EntryShows s.nodes (HShared t) e → f < s.frames → k < s.blocks → (w.block f k).ask p ≡ ReadExclusive → p < s.nodes → (w.block f k).line ≡ (home (s.home f)).line f k →
          Goes s harts (record { cpu = cpu; home = put home (s.home f) (with_entry (home (s.home f)) f k (HExclusive p)); mover = mover; flight = ms ++ (invalidations (s.home f) f k p t s.nodes ++ letter (s.home f) p (KExclusiveReply f k ((home (s.home f)).line f k) (count s.nodes (others t p))) ∷ []) }) w
      by (SharedBy u) eq same lf lk ask lp line =
          let inv : Invariant L (s.nodes + 1) s.nodes s.pages s.blocks w = reached (s.nodes + 1) s.nodes s.pages s.blocks w sim.reached in
          let lp1 : p < s.nodes + 1 = omega arith in
          let be : (w.block f k).entry ≡ SharedBy u = entry_is (is_blank_in w.pages f) (w.block f k).entry (SharedBy u) eq (λ x. absurd (cc)) in
          let ends = (inv.link f k lk).parts.ends in
          let top : u s.nodes ≡ false = grind arith in
          let r : BlockRow L = Read_exclusive_shared p u in
          let gd : guard (s.nodes + 1) s.nodes s.pages s.blocks (On 0 0 f k r) w = ((ask, be), lp1, lk, tt) in
          let z : World L = apply (s.nodes + 1) s.nodes (On 0 0 f k r) w in
          let zb = block_here (s.nodes + 1) s.nodes 0 0 f k r w in
          let hs = here_self f k in
          let cn : count (s.nodes + 1) (others u p) ≡ count s.nodes (others t p) = count_top s.nodes (others u p) (others t p) (grind arith) (λ q lt. (let a = same q lt in grind arith)) in
          let inval : (q : ℕ) → q < s.nodes → others t p q ≡ true → Placed s z (letter (s.home f) q (KInvalidate f k p)) × (touches w.pages (On 0 0 f k r) (InvalidationAt f k q) ≡ true) = λ q lt o. (
          let a = same q lt in let o2 : others u p q ≡ true = grind arith in let v : (z.block f k).invalidation q ≡ Invalidate p = grind arith in
          (((lf, lk, (omega arith, v, λ x. absurd (cc))), (refl, lt, lp1), tt), grind arith)) in
          let reply : Placed s z (letter (s.home f) p (KExclusiveReply f k ((home (s.home f)).line f k) (count s.nodes (others t p)))) × (touches w.pages (On 0 0 f k r) (AskAt f k p) ≡ true) =
          (((lf, lk, (lp1, grind (arith, nat_tests), refl)), (refl, lp), tt), grind (arith, nat_tests)) in
          one s harts _ w (On 0 0 f k r) refl gd
          (home_entry_row s harts cpu home mover w 0 0 f k r (letter p (s.home f) (KReadEx f k)) (HExclusive p) ms (invalidations (s.home f) f k p t s.nodes ++ letter (s.home f) p (KExclusiveReply f k ((home (s.home f)).line f k) (count s.nodes (others t p))) ∷ []) sim gd lf refl refl (owned_shared p f k u (On 0 0 f k r) refl) (grind (arith, nat_tests)) (Exclusive p) refl (λ q x. absurd (cc)) refl refl (
            (fits_append (slot_of s.nodes) (λ x. Placed s z x × (touches w.pages (On 0 0 f k r) (slot_of s.nodes x) ≡ true)) (invalidations (s.home f) f k p t s.nodes) (letter (s.home f) p (KExclusiveReply f k ((home (s.home f)).line f k) (count s.nodes (others t p))) ∷ [])
                (invalidations_fit s.nodes (λ x. Placed s z x × (touches w.pages (On 0 0 f k r) (slot_of s.nodes x) ≡ true)) (s.home f) f k p t s.nodes inval)
                (reply, tt, tt)
                (invalidations_apart L s.nodes (AskAt f k p) (s.home f) f k p t s.nodes (λ q lt x. absurd (cc)), tt)),
            λ x i c st. spread_has s (s.home f) f k p t u (letter (s.home f) p (KExclusiveReply f k ((home (s.home f)).line f k) (count s.nodes (others t p)))) same (grind arith) refl x i (changed_shared p f k u w.pages (On 0 0 f k r) refl x c),
          ))
      by e eq x lf lk ask lp line = absurd x
