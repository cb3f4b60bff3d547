-- What the rows of a home share: entries that the home shows are the block's own, and rows that send to all sharers.
use Rattle.std.proofs.Common.{◌≡◌, ℕ, suc, ◌+◌, ◌<◌, Bool, true, false, cond, arith, ◌≢◌, ◌⊎◌, inl, inr, refl, sym, subst, List, [], ◌∷◌, ◌++◌, Some}
use Rattle.og_slots.specs.Count.{count}
use Rattle.og_slots.proofs.Count.{count_same}
use Rattle.og_slots.specs.Flight.{Apart}
use Rattle.og_slots.proofs.Flight.{fits_append}
use Rattle.og_block.specs.State.{Block, put, others, Idle, Poisoning, NoAsk, PoisonRead, PoisonWait, Invalidate, Entry}
use Rattle.og_block.specs.Rows.{Row as BlockRow, apply as block_apply}
use Rattle.og_block.specs.Invariant.{Local, Asks}
use Rattle.og_pages.specs.State.{Collecting}
use Rattle.og_whole.specs.Kind.{kind, Inner, is_idle, phase_of}
use Rattle.og_whole.specs.Events.{World, On, guard, apply}
use Rattle.og_whole.specs.HomeEntry.{home_entry_at, home_entry, is_blank_in}
use Rattle.og_whole.specs.Link.{Invariant}
use Rattle.og_whole.proofs.Runs.{reached}
use Rattle.og_whole.proofs.Served.{request_of, ask_busy}
use Rattle.og_whole.proofs.HomeEntries.{entries_met}
use Rattle.og_relate.specs.Data.{KInvalidate, Post, Request, Setup, Cpu, Mover, HomeSide, HomeEntry, Machine, Harts}
use Rattle.og_relate.specs.Places.{Place, AskAt, InvalidationAt, slot_of, Placed, is_at}
use Rattle.og_relate.specs.Sides.{owns, touches, is_home}
use Rattle.og_relate.specs.Sim.{Sim, HomeShows, EntryShows}
use Rattle.og_relate.specs.Goes.{Goes}
use Rattle.og_relate.specs.Owes.{changes, Letters}
use Rattle.og_relate.specs.Steps.{letter, invalidations, with_entry}
use Rattle.og_relate.proofs.Ack.{asks_here}
use Rattle.og_relate.proofs.Rows.{home_row}
use Rattle.og_relate.proofs.Home.{block_here, entry_here, entry_other, is_spread, spread_has, invalidations_fit, invalidations_apart, one}

-- an entry at the home is the block's own where the frame isn't blank
pub own_entry : (b : Bool) (e d : Entry) → b ≡ false → home_entry b e ≡ d → e ≡ d
own_entry b e d nb x = grind arith

pub shown_entry : (b : Bool) (e : Entry) → b ≡ false → home_entry b e ≡ e
shown_entry b e nb = grind arith

-- the mover, which is the last actor, doesn't count
pub count_nodes : (n : ℕ) (f g : ℕ → Bool) → f n ≡ false → ((q : ℕ) → q < n → f q ≡ g q) → count (n + 1) f ≡ count n g
count_nodes n f g top same = let s : count n f ≡ count n g = count_same n f g same in let e : n + 1 ≡ suc n = omega arith in subst (λ (x : ℕ). count x f ≡ count n g) (sym e) (by (f n) top s)
  where
    by : (b : Bool) → b ≡ false → count n f ≡ count n g → cond b 1 0 + count n f ≡ count n g
    by b t s = grind arith

module _ {L : Type 0} where
  -- the mover collects a block while its request for it is out, or the home's question to the owner
  collecting : (n m : ℕ) (l : L) (b : Block L) → Local n l b m → (b.ask m ≡ PoisonRead) ⊎ (b.ask m ≡ PoisonWait) → phase_of m b ≡ Collecting
  collecting n m l b h a = by h.asks a
    where
      by : Asks b m → (b.ask m ≡ PoisonRead) ⊎ (b.ask m ≡ PoisonWait) → phase_of m b ≡ Collecting
      by x (inl y) = let v : b.want m ≡ Poisoning = grind arith in grind arith
      by x (inr y) = let v : b.want m ≡ Poisoning = grind arith in grind arith

  pub collect_meets : (n m pages blocks : ℕ) (w : World L) (f k : ℕ) → Invariant L n m pages blocks w → m < n → k < blocks → ((w.block f k).ask m ≡ PoisonRead) ⊎ ((w.block f k).ask m ≡ PoisonWait) → is_blank_in w.pages f ≡ false
  collect_meets n m pages blocks w f k inv lm lk a =
      let link = inv.link f k lk in
      let c : phase_of m (w.block f k) ≡ Collecting = collecting n m (w.pages.newest f k) (w.block f k) (link.invariant.each m lm) a in
      (entries_met n m pages blocks w inv).poison_meets f k lk (let x = link.phase_is in cc)

  pub ask_meets : (n m pages blocks : ℕ) (w : World L) (f k p : ℕ) → Invariant L n m pages blocks w → p < n → p ≢ m → k < blocks → (w.block f k).ask p ≢ NoAsk → is_blank_in w.pages f ≡ false
  ask_meets n m pages blocks w f k p inv lp ne lk a =
      let rq = request_of n m pages blocks w p f k inv lp ne lk (ask_busy n (w.pages.newest f k) p (w.block f k) ((inv.link f k lk).invariant.each p lp) a) in
      (entries_met n m pages blocks w inv).request_meets p rq.0 f k rq.1

module _ {L : Type 0} {H : Type 0} where
  -- whose request or reply is out, it has its request outstanding
  pub asker : (s : Setup) (harts : Harts L H) (m : Machine L H) (w : World L) (f k p : ℕ) → Sim s harts m w → p < s.nodes → k < s.blocks → (w.block f k).ask p ≢ NoAsk → (r : Request L) × ((m.cpu p).request ≡ Some r) × (is_at f k r ≡ true)
  asker s harts m w f k p sim lp lk a =
      let lp1 : p < s.nodes + 1 = omega arith in
      let inv : Invariant L (s.nodes + 1) s.nodes s.pages s.blocks w = reached (s.nodes + 1) s.nodes s.pages s.blocks w sim.reached in
      let b : is_idle ((w.block f k).want p) ≡ false = ask_busy (s.nodes + 1) (w.pages.newest f k) p (w.block f k) ((inv.link f k lk).invariant.each p lp1) a in
      let v = (sim.nodes p lp).want f k in
      asks_here f k (m.cpu p).request (λ e. absurd (let x : (w.block f k).want p ≡ Idle = cc in cc))

  -- a row that sets the entry and leaves the line
  pub entry_row : (s : Setup) (harts : Harts L H) (cpu : ℕ → Cpu L H) (home : ℕ → HomeSide L) (mover : Mover L) (w : World L) (f k : ℕ) (r : BlockRow L) (x : Post L) (e : HomeEntry) (ms ls : List (Post L)) →
      Sim s harts (record { cpu = cpu; home = home; mover = mover; flight = x ∷ ms }) w → guard (s.nodes + 1) s.nodes s.pages s.blocks (On 0 0 f k r) w → f < s.frames →
      is_home r ≡ true → kind r ≡ Inner → ((p : Place) → owns (On 0 0 f k r) p ≡ true → p ≡ slot_of s.nodes x) → owns (On 0 0 f k r) (slot_of s.nodes x) ≡ true →
      (d : Entry) → (block_apply (s.nodes + 1) r (w.block f k)).entry ≡ d → home_entry (is_blank_in w.pages f) d ≡ d → EntryShows s.nodes e d → (block_apply (s.nodes + 1) r (w.block f k)).line ≡ (w.block f k).line →
      Letters s w (On 0 0 f k r) ls →
      Sim s harts (record { cpu = cpu; home = put home (s.home f) (with_entry (home (s.home f)) f k e); mover = mover; flight = ms ++ ls }) (apply (s.nodes + 1) s.nodes (On 0 0 f k r) w)
  entry_row s harts cpu home mover w f k r x e ms ls sim gd lf ih ki owned at_x d de np shows line letters =
      let z : World L = apply (s.nodes + 1) s.nodes (On 0 0 f k r) w in
      let old = sim.homes f k lf gd.2 in
      let zb = block_here (s.nodes + 1) s.nodes 0 0 f k r w in
      let pg : z.pages ≡ w.pages = cc in
      let ze : home_entry_at z f k ≡ d = (let a : home_entry_at z f k ≡ home_entry (is_blank_in w.pages f) d = cc in cc) in
      let own : HomeShows s.nodes f k (with_entry (home (s.home f)) f k e) z = record {
        entry = subst (λ (u : HomeEntry). EntryShows s.nodes u (home_entry_at z f k)) (sym (entry_here (home (s.home f)) f k e)) (subst (λ (u : Entry). EntryShows s.nodes e u) (sym ze) shows);
        line = (let a = old.line in cc);
        noticed = (let a = old.noticed in cc);
      } in
      home_row s harts cpu home mover w 0 0 f k r x (with_entry (home (s.home f)) f k e) ms ls sim gd ih ki owned at_x own (λ g j ne. (entry_other (home (s.home f)) f k e g j ne, refl)) (λ g. refl) letters

  -- a row that invalidates all sharers but p, and replies to p
  pub spread_row : (s : Setup) (harts : Harts L H) (cpu : ℕ → Cpu L H) (home : ℕ → HomeSide L) (mover : Mover L) (w : World L) (f k p : ℕ) (t u : ℕ → Bool) (r : BlockRow L) (x reply : Post L) (e : HomeEntry) (ms : List (Post L)) →
      Sim s harts (record { cpu = cpu; home = home; mover = mover; flight = x ∷ ms }) w → guard (s.nodes + 1) s.nodes s.pages s.blocks (On 0 0 f k r) w → f < s.frames → p < s.nodes + 1 →
      is_home r ≡ true → kind r ≡ Inner → ((y : Place) → owns (On 0 0 f k r) y ≡ true → y ≡ slot_of s.nodes x) → owns (On 0 0 f k r) (slot_of s.nodes x) ≡ true →
      (d : Entry) → (block_apply (s.nodes + 1) r (w.block f k)).entry ≡ d → home_entry (is_blank_in w.pages f) d ≡ d → EntryShows s.nodes e d → (block_apply (s.nodes + 1) r (w.block f k)).line ≡ (w.block f k).line →
      ((q : ℕ) → q < s.nodes → t q ≡ u q) → others u p s.nodes ≡ false →
      ((q : ℕ) → others u p q ≡ true → ((block_apply (s.nodes + 1) r (w.block f k)).invalidation q ≡ Invalidate p) × (touches w.pages (On 0 0 f k r) (InvalidationAt f k q) ≡ true)) →
      slot_of s.nodes reply ≡ AskAt f k p → Placed s (apply (s.nodes + 1) s.nodes (On 0 0 f k r) w) reply → touches w.pages (On 0 0 f k r) (slot_of s.nodes reply) ≡ true →
      ((y : Place) → changes w.pages (On 0 0 f k r) y ≡ true → is_spread f k p u y ≡ true) →
      Goes s harts (record { cpu = cpu; home = put home (s.home f) (with_entry (home (s.home f)) f k e); mover = mover; flight = ms ++ (invalidations (s.home f) f k p t s.nodes ++ reply ∷ []) }) w
  spread_row s harts cpu home mover w f k p t u r x reply e ms sim gd lf lp ih ki owned at_x d de np shows line same top sent slot placed sends changed =
      one s harts _ w (On 0 0 f k r) (grind arith) gd (entry_row s harts cpu home mover w f k r x e ms (invalidations (s.home f) f k p t s.nodes ++ reply ∷ []) sim gd lf ih ki owned at_x d de np shows line (
        fits_append (slot_of s.nodes) Lands (invalidations (s.home f) f k p t s.nodes) (reply ∷ [])
            (invalidations_fit s.nodes Lands (s.home f) f k p t s.nodes inval)
            ((placed, sends), tt, tt)
            (subst (λ (y : Place). Apart (slot_of {L = L} s.nodes) y (invalidations {L = L} (s.home f) f k p t s.nodes)) (sym slot) (invalidations_apart L s.nodes (AskAt f k p) (s.home f) f k p t s.nodes (λ q lt e. absurd (cc))), tt),
        λ y i c st. spread_has s (s.home f) f k p t u reply same top slot y i (changed y c),
      ))
    where
      z : World L
      z = apply (s.nodes + 1) s.nodes (On 0 0 f k r) w

      Lands : Post L → Type 0
      Lands y = Placed s z y × (touches w.pages (On 0 0 f k r) (slot_of s.nodes y) ≡ true)

      inval : (q : ℕ) → q < s.nodes → others t p q ≡ true → Lands (letter (s.home f) q (KInvalidate f k p))
      inval q lt o =
          let a = same q lt in
          let o2 : others u p q ≡ true = grind arith in
          let v = sent q o2 in
          let zb = block_here (s.nodes + 1) s.nodes 0 0 f k r w in
          let v2 : (z.block f k).invalidation q ≡ Invalidate p = (let v0 = v.0 in cc) in
          (((lf, gd.2, (omega arith, v2, λ x. absurd (cc))), (refl, lt, lp), tt), v.1)
