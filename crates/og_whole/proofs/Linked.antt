-- Blocks and the page layer stay linked.
use Rattle.std.proofs.Common.{◌≡◌, ℕ, ◌<◌, Bool, true, false, cond, not, nat_eq, arith, ◌≢◌, refl, sym, subst}
use Rattle.std.proofs.lemmas.Bool.Decides.{nat_tests}
use Rattle.og_block.specs.Invariant.{Invariant as BlockInvariant, Local}
use Rattle.og_block.specs.Rows.{Row as BlockRow, guard as block_guard, apply as block_apply, Send_read, Send_read_exclusive, Send_upgrade, Copy_in, Send_poison_read, actor_of}
use Rattle.og_block.proofs.All.{kept as block_kept}
use Rattle.og_block.proofs.Roles.{roles_kept}
use Rattle.og_block.specs.Access.{flat_after}
use Rattle.og_block.specs.State.{Block}
use Rattle.og_pages.specs.State.{Ask, State as Pages, Live}
use Rattle.og_pages.specs.Invariant.{Invariant as PagesInvariant}
use Rattle.og_block.specs.Roles.{Plain, Allowed}
use Rattle.og_whole.specs.Events.{above, after_above, Asked}
use Rattle.og_whole.specs.Example.{after}
use Rattle.og_whole.specs.Kind.{Kind, kind, phase_of, is_idle, is_taken, has_copy, phase_after, idle_after, taken_after, copy_after, newest_after, Finds}
use Rattle.og_whole.specs.Link.{asks_for, stands_for, Link}
use Rattle.og_whole.proofs.Above.{MayBeAbove, Inside, above_may, line_above, phase_above, request_above, victim_above, copy_above}
use Rattle.og_whole.proofs.SeenCopy.{copy_seen}
use Rattle.og_whole.proofs.SeenFinds.{row_finds}
use Rattle.og_whole.proofs.SeenLine.{line_seen}
use Rattle.og_whole.proofs.SeenPhase.{phase_seen}
use Rattle.og_whole.proofs.SeenRequest.{request_seen}
use Rattle.og_whole.proofs.SeenVictim.{victim_seen}

copy_mono : {L : Type 0} → (d : Kind L) (q : ℕ) (x y : Bool) → (x ≡ true → y ≡ true) → copy_after d q x ≡ true → copy_after d q y ≡ true
copy_mono d q x y h e = grind arith

asked_live : {L : Type 0} → (pages blocks : ℕ) (s : Pages L) (page f o k : ℕ) → PagesInvariant L pages blocks s → k < blocks → s.job ≡ Ask page f o k → s.phase f k ≡ Live
asked_live pages blocks s page f o k inv lt e = let j = inv.jobs in let h = inv.phases f k lt in grind (arith, nat_tests)

allowed : {L : Type 0} → (actors mover pages blocks page o f k : ℕ) (s : Pages L) (b : Block L) (r : BlockRow L) → block_guard r b → Asked mover page o f k (kind r) s → PagesInvariant L pages blocks s → k < blocks → phase_of mover b ≡ s.phase f k → Allowed mover r b
allowed actors mover pages blocks page o f k s b (Send_read p) g out inv lt ph = out.3
allowed actors mover pages blocks page o f k s b (Send_read_exclusive p) g out inv lt ph = out.3
allowed actors mover pages blocks page o f k s b (Send_upgrade p l) g out inv lt ph = out.3
allowed actors mover pages blocks page o f k s b (Send_poison_read p) g out inv lt ph = let l = asked_live pages blocks s page f o k inv lt out.1 in (out.0, grind arith)
allowed actors mover pages blocks page o f k s b (Copy_in p v) g out inv lt ph = out.0
allowed actors mover pages blocks page o f k s b r g out inv lt ph = tt

kind_inside : {L : Type 0} → (actors : ℕ) (r : BlockRow L) → actor_of r < actors → Inside actors (kind r)
kind_inside actors r lt = grind arith

nat_same : (x : ℕ) → nat_eq x x ≡ true
nat_same x = grind (arith, nat_tests)

pub here_is : {A : Type 0} (f k : ℕ) (y w : A) → cond (nat_eq f f) (cond (nat_eq k k) y w) w ≡ y
here_is f k y w = rw (nat_same f, nat_same k) refl

-- from the face of the row, the link before and the page layer's side
joins : {A : Type 0} (f k : ℕ) (after : A → A) (x h i z : A) → h ≡ i → x ≡ after h → z ≡ cond (nat_eq f f) (cond (nat_eq k k) (after i) i) i → x ≡ z
joins f k after x h i z e a c = let r = here_is f k (after i) i in let s : after h ≡ after i = cc in cc

-- a block's row keeps the block's link
pub same : {L : Type 0} → (actors mover pages blocks page o f k : ℕ) (s : Pages L) (b : Block L) (r : BlockRow L) → block_guard r b → actor_of r < actors → mover < actors → k < blocks → Asked mover page o f k (kind r) s → PagesInvariant L pages blocks s → Link actors mover s b f k →
    Link actors mover (after_above (above mover page o f k (kind r)) s) (block_apply actors r b) f k
same {L} actors mover pages blocks page o f k s b r g lp lm lt out inv l = record {
  invariant = subst (λ (x : L). BlockInvariant actors x (block_apply actors r b)) newest (block_kept actors (s.newest f k) b r g l.invariant lp);
  parts = roles_kept actors (s.newest f k) mover b r g ok l.invariant lp lm l.parts;
  phase_is = phase;
  want_is = want;
  slot_is = slot;
  copy_is = copy;
}
  where
    ok : Allowed mover r b
    ok = allowed actors mover pages blocks page o f k s b r g out inv lt l.phase_is

    hp : Local actors (s.newest f k) b (actor_of r)
    hp = l.invariant.each (actor_of r) lp

    hm : Local actors (s.newest f k) b mover
    hm = l.invariant.each mover lm

    pp : Plain mover b (actor_of r)
    pp = l.parts.plain (actor_of r) lp

    fact : Finds mover (s.newest f k) (kind r) b
    fact = row_finds actors (s.newest f k) mover b r g ok l.invariant lp lm l.invariant.home hp hm l.parts.mover pp l.parts.ends l.parts.reply

    ac : Inside actors (kind r)
    ac = kind_inside actors r lp

    newest : flat_after r (s.newest f k) ≡ (after_above (above mover page o f k (kind r)) s).newest f k
    newest = let a : flat_after r (s.newest f k) ≡ newest_after (kind r) (s.newest f k) = line_seen actors (s.newest f k) mover b r g ok l.invariant lp lm l.invariant.home hp hm l.parts.mover pp l.parts.ends l.parts.reply in
        joins f k (newest_after (kind r)) (flat_after r (s.newest f k)) (s.newest f k) (s.newest f k) ((after_above (above mover page o f k (kind r)) s).newest f k) refl a (line_above actors mover page o f k (kind r) s b out fact l.slot_is ac f k)

    phase : phase_of mover (block_apply actors r b) ≡ (after_above (above mover page o f k (kind r)) s).phase f k
    phase = joins f k (phase_after mover (kind r)) (phase_of mover (block_apply actors r b)) (phase_of mover b) (s.phase f k) ((after_above (above mover page o f k (kind r)) s).phase f k) l.phase_is
        (phase_seen actors (s.newest f k) mover b r g ok l.invariant lp lm l.invariant.home hp hm l.parts.mover pp l.parts.ends l.parts.reply)
        (phase_above actors mover page o f k (kind r) s b out fact l.slot_is ac f k)

    want : (q : ℕ) → q < actors → q ≢ mover → is_idle ((block_apply actors r b).want q) ≡ not (asks_for ((after_above (above mover page o f k (kind r)) s).request q) f k)
    want q lq ne = joins f k (idle_after (kind r) q) (is_idle ((block_apply actors r b).want q)) (is_idle (b.want q)) (not (asks_for (s.request q) f k)) (not (asks_for ((after_above (above mover page o f k (kind r)) s).request q) f k)) (l.want_is q lq ne)
        (request_seen actors (s.newest f k) mover b r g ok l.invariant lp lm l.invariant.home hp hm l.parts.mover pp l.parts.ends l.parts.reply q lq (l.invariant.each q lq) (l.parts.plain q lq))
        (request_above actors mover page o f k (kind r) s b out fact l.slot_is ac f k q ne)

    slot : (q : ℕ) → q < actors → q ≢ mover → is_taken ((block_apply actors r b).victim q) ≡ stands_for ((after_above (above mover page o f k (kind r)) s).victim q) f k
    slot q lq ne = joins f k (taken_after (kind r) q) (is_taken ((block_apply actors r b).victim q)) (is_taken (b.victim q)) (stands_for (s.victim q) f k) (stands_for ((after_above (above mover page o f k (kind r)) s).victim q) f k) (l.slot_is q lq ne)
        (victim_seen actors (s.newest f k) mover b r g ok l.invariant lp lm l.invariant.home hp hm l.parts.mover pp l.parts.ends l.parts.reply q lq (l.invariant.each q lq) (l.parts.plain q lq))
        (victim_above actors mover page o f k (kind r) s b out fact l.slot_is ac f k q ne)

    copy : (q : ℕ) → q < actors → has_copy ((block_apply actors r b).copy q) ≡ true → (after_above (above mover page o f k (kind r)) s).cached f k q ≡ true
    copy q lq e =
        let z = here_is f k (copy_after (kind r) q (s.cached f k q)) (s.cached f k q) in
        let x = copy_mono (kind r) q (has_copy (b.copy q)) (s.cached f k q) (l.copy_is q lq)
        (copy_seen actors (s.newest f k) mover b r g ok l.invariant lp lm l.invariant.home hp hm l.parts.mover pp l.parts.ends l.parts.reply q lq (l.invariant.each q lq) (l.parts.plain q lq) e) in
        let y = copy_above actors mover page o f k (kind r) s b out fact l.slot_is ac f k q in cc

-- a block's row keeps the link of every other block
pub other : {A : Type 0} (f k g j : ℕ) (x w z : A) → (g ≡ f → j ≢ k) → z ≡ cond (nat_eq g f) (cond (nat_eq j k) x w) w → z ≡ w
other f k g j x w z ne e = by (nat_eq g f) (nat_eq j k) refl refl e
  where
    by : (t u : Bool) → nat_eq g f ≡ t → nat_eq j k ≡ u → z ≡ cond t (cond u x w) w → z ≡ w
    by true true a c e = absurd (clash a c)
      where
        clash : nat_eq g f ≡ true → nat_eq j k ≡ true → ⊥
        clash a c = grind (arith, nat_tests)
    by true false a c e = e
    by false u a c e = e

pub others : {L : Type 0} → (actors mover pages blocks page o f k : ℕ) (s : Pages L) (b : Block L) (r : BlockRow L) → block_guard r b → actor_of r < actors → mover < actors → k < blocks → Asked mover page o f k (kind r) s → PagesInvariant L pages blocks s → Link actors mover s b f k →
    (g j : ℕ) (c : Block L) → (g ≡ f → j ≢ k) → Link actors mover s c g j → Link actors mover (after_above (above mover page o f k (kind r)) s) c g j
others {L} actors mover pages blocks page o f k s b r gd lp lm lt out inv l g j c ne h = record {
  invariant = subst (λ (x : L). BlockInvariant actors x c) (sym (other f k g j _ _ _ ne (line_above actors mover page o f k (kind r) s b out fact l.slot_is ac g j))) h.invariant;
  parts = h.parts;
  phase_is = let e = other f k g j _ _ _ ne (phase_above actors mover page o f k (kind r) s b out fact l.slot_is ac g j) in let x = h.phase_is in cc;
  want_is = λ q lq d. let e = other f k g j _ _ _ ne (request_above actors mover page o f k (kind r) s b out fact l.slot_is ac g j q d) in let x = h.want_is q lq d in cc;
  slot_is = λ q lq d. let e = other f k g j _ _ _ ne (victim_above actors mover page o f k (kind r) s b out fact l.slot_is ac g j q d) in let x = h.slot_is q lq d in cc;
  copy_is = λ q lq d. let e = other f k g j _ _ _ ne (copy_above actors mover page o f k (kind r) s b out fact l.slot_is ac g j q) in let x = h.copy_is q lq d in cc;
}
  where
    ok : Allowed mover r b
    ok = allowed actors mover pages blocks page o f k s b r gd out inv lt l.phase_is

    fact : Finds mover (s.newest f k) (kind r) b
    fact = row_finds actors (s.newest f k) mover b r gd ok l.invariant lp lm l.invariant.home (l.invariant.each (actor_of r) lp) (l.invariant.each mover lm) l.parts.mover (l.parts.plain (actor_of r) lp) l.parts.ends l.parts.reply

    ac : Inside actors (kind r)
    ac = kind_inside actors r lp

-- what the page layer does to the phase of its block, and to that of every other block
pub phase_here : {L : Type 0} → (actors mover pages blocks page o f k : ℕ) (s : Pages L) (b : Block L) (r : BlockRow L) → block_guard r b → actor_of r < actors → mover < actors → k < blocks → Asked mover page o f k (kind r) s → PagesInvariant L pages blocks s → Link actors mover s b f k →
    (g j : ℕ) → (after_above (above mover page o f k (kind r)) s).phase g j ≡ cond (nat_eq g f) (cond (nat_eq j k) (phase_after mover (kind r) (s.phase g j)) (s.phase g j)) (s.phase g j)
phase_here actors mover pages blocks page o f k s b r gd lp lm lt out inv l g j =
    let ok : Allowed mover r b = allowed actors mover pages blocks page o f k s b r gd out inv lt l.phase_is in
    let finds : Finds mover (s.newest f k) (kind r) b = row_finds actors (s.newest f k) mover b r gd ok l.invariant lp lm l.invariant.home (l.invariant.each (actor_of r) lp) (l.invariant.each mover lm) l.parts.mover (l.parts.plain (actor_of r) lp) l.parts.ends l.parts.reply in
    phase_above actors mover page o f k (kind r) s b out finds l.slot_is (kind_inside actors r lp) g j

-- and the page layer's row may be taken
pub may : {L : Type 0} → (actors mover pages blocks page o f k : ℕ) (s : Pages L) (b : Block L) (r : BlockRow L) → block_guard r b → actor_of r < actors → mover < actors → k < blocks → Asked mover page o f k (kind r) s → PagesInvariant L pages blocks s → Link actors mover s b f k → MayBeAbove pages blocks (above mover page o f k (kind r)) s
may actors mover pages blocks page o f k s b r gd lp lm lt out inv l =
    let ok : Allowed mover r b = allowed actors mover pages blocks page o f k s b r gd out inv lt l.phase_is in
    let fact : Finds mover (s.newest f k) (kind r) b = row_finds actors (s.newest f k) mover b r gd ok l.invariant lp lm l.invariant.home (l.invariant.each (actor_of r) lp) (l.invariant.each mover lm) l.parts.mover (l.parts.plain (actor_of r) lp) l.parts.ends l.parts.reply in
    above_may actors mover pages blocks page o f k (kind r) s b lt out fact l.phase_is (λ q e lq. l.copy_is q lq e) l.slot_is (kind_inside actors r lp)
