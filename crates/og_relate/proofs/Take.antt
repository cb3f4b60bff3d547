-- A node takes an acknowledgement: it counts, and where it is the last one the request ends, a held intervention is answered,
-- and a held drop: up to four rows.
use Rattle.std.proofs.Common.{◌≡◌, ℕ, ◌+◌, ◌<◌, Bool, true, false, arith, refl, sym, subst, List, [], ◌∷◌, ◌++◌, Option, None, Some}
use Rattle.og_block.specs.State.{put}
use Rattle.og_pages.specs.Rows.{Drop_answer}
use Rattle.og_whole.specs.Events.{World, Event, Page, guard, apply}
use Rattle.og_relate.specs.Data.{KDropped, Post, Setup, Cpu, Mover, HomeSide, Machine, Harts}
use Rattle.og_relate.specs.Sim.{Sim}
use Rattle.og_relate.specs.Goes.{Goes, Makes, Made, made_of}
use Rattle.og_relate.specs.Steps.{letter}
use Rattle.og_relate.specs.Node.{is_none, is_due, answer_drop, drop_by, forget_frame}
use Rattle.og_relate.proofs.Puts.{put_put, put_here}
use Rattle.og_relate.proofs.Answer.{drop_answered}

module _ {L : Type 0} where
  pub append_none : (ms : List (Post L)) → ms ++ [] ≡ ms
  append_none [] = refl
  append_none (m ∷ ms) = let r : ms ++ [] ≡ ms = append_none ms in cc

  pub append_both : (ms xs ys : List (Post L)) → (ms ++ xs) ++ ys ≡ ms ++ (xs ++ ys)
  append_both [] xs ys = refl
  append_both (m ∷ ms) xs ys = let r : (ms ++ xs) ++ ys ≡ ms ++ (xs ++ ys) = append_both ms xs ys in cc

module _ {L : Type 0} {H : Type 0} where
  -- the machine with node p as c
  abbrev pub At : Setup → Harts L H → (ℕ → Cpu L H) → (ℕ → HomeSide L) → Mover L → ℕ → Cpu L H → List (Post L) → World L → Type 0
  At s harts cpu home mover p c ms w = Sim s harts (record { cpu = put cpu p c; home = home; mover = mover; flight = ms }) w

  abbrev pub GoesAt : Setup → Harts L H → (ℕ → Cpu L H) → (ℕ → HomeSide L) → Mover L → ℕ → Cpu L H → List (Post L) → World L → Type 0
  GoesAt s harts cpu home mover p c ms w = Goes s harts (record { cpu = put cpu p c; home = home; mover = mover; flight = ms }) w

  abbrev pub MakesAt : Setup → Harts L H → (ℕ → Cpu L H) → (ℕ → HomeSide L) → Mover L → ℕ → Cpu L H → List (Post L) → World L → List (Made L) → Type 0
  MakesAt s harts cpu home mover p c ms w made = Makes s harts (record { cpu = put cpu p c; home = home; mover = mover; flight = ms }) w made

  -- a row's lemma, of the node as it stands in the machine, is one of node p as c
  pub focus : (s : Setup) (harts : Harts L H) (cpu : ℕ → Cpu L H) (home : ℕ → HomeSide L) (mover : Mover L) (p : ℕ) (c : Cpu L H) (g : Cpu L H → Cpu L H) (ms : List (Post L)) (w : World L) →
      Sim s harts (record { cpu = put (put cpu p c) p (g (put cpu p c p)); home = home; mover = mover; flight = ms }) w → At s harts cpu home mover p (g c) ms w
  focus s harts cpu home mover p c g ms w sim =
      let a : put (put cpu p c) p (g (put cpu p c p)) ≡ put cpu p (g (put cpu p c p)) = put_put cpu p c (g (put cpu p c p)) in
      let b = put_here cpu p c in
      subst (λ (d : Cpu L H). At s harts cpu home mover p (g d) ms w) b (subst (λ (f : ℕ → Cpu L H). Sim s harts (record { cpu = f; home = home; mover = mover; flight = ms }) w) a sim)

  -- no event
  pub still : (s : Setup) (harts : Harts L H) (m : Machine L H) (w : World L) → Sim s harts m w → Goes s harts m w
  still s harts m w sim = record { events = []; world = w; runs = refl; made = refl; sim = sim }

  -- one event, and then others
  pub then : (s : Setup) (harts : Harts L H) (m : Machine L H) (w : World L) (e : Event L) (xs ys : List (Made L)) → made_of e ≡ xs → guard (s.nodes + 1) s.nodes s.pages s.blocks e w → Makes s harts m (apply (s.nodes + 1) s.nodes e w) ys → Makes s harts m w (xs ++ ys)
  then s harts m w e xs ys me gd g = record { events = e ∷ g.events; world = g.world; runs = (gd, g.runs); made = (let a = g.made in cc); sim = g.sim }

  pub without_end : (s : Setup) (harts : Harts L H) (cpu : ℕ → Cpu L H) (home : ℕ → HomeSide L) (mover : Mover L) (w : World L) (ms : List (Post L)) →
      Sim s harts (record { cpu = cpu; home = home; mover = mover; flight = ms ++ [] }) w → Sim s harts (record { cpu = cpu; home = home; mover = mover; flight = ms }) w
  without_end s harts cpu home mover w ms sim = subst (λ (x : List (Post L)). Sim s harts (record { cpu = cpu; home = home; mover = mover; flight = x }) w) (append_none ms) sim

  -- ---- a held drop, where it is due

  pub drop_goes : (s : Setup) (harts : Harts L H) (cpu : ℕ → Cpu L H) (home : ℕ → HomeSide L) (mover : Mover L) (p : ℕ) (c : Cpu L H) (ms : List (Post L)) (w : World L) → p < s.nodes →
      At s harts cpu home mover p c ms w → GoesAt s harts cpu home mover p (answer_drop p s.nodes c).0 (ms ++ (answer_drop p s.nodes c).1) w
  drop_goes s harts cpu home mover p c ms w lp sim = by (is_due c) refl c.drop refl
    where
      none : {A : Type 0} → (o : Option A) → is_none o ≡ true → o ≡ None
      none None e = refl
      none (Some x) e = absurd (cc)

      stay : GoesAt s harts cpu home mover p c (ms ++ []) w
      stay = still s harts (record { cpu = put cpu p c; home = home; mover = mover; flight = ms ++ [] }) w (subst (λ (x : List (Post L)). At s harts cpu home mover p c x w) (sym (append_none ms)) sim)

      by : (t : Bool) → is_due c ≡ t → (d : Option ℕ) → c.drop ≡ d → GoesAt s harts cpu home mover p (drop_by p s.nodes c t d).0 (ms ++ (drop_by p s.nodes c t d).1) w
      by true due (Some f) e =
          let h = put_here cpu p c in
          let rq : c.request ≡ None = none c.request (grind arith) in
          let wk : c.walk ≡ None = none c.walk (grind arith) in
          let sl : c.slot ≡ None = none c.slot (grind arith) in
          let x = drop_answered s harts (put cpu p c) home mover w p f ms sim lp (cc) (cc) (cc) (cc) in
          then s harts _ w (Page (Drop_answer p f)) [] [] refl x.0 (still s harts _ (apply (s.nodes + 1) s.nodes (Page (Drop_answer p f)) w) (focus s harts cpu home mover p c (λ d. forget_frame d f) (ms ++ letter p s.nodes (KDropped f) ∷ []) (apply (s.nodes + 1) s.nodes (Page (Drop_answer p f)) w) x.1))
      by true due None e = stay
      by false due d e = stay
