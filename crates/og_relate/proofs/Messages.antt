-- What is in flight, and what was received, keeps its place in any event; and the letters get theirs.
use Rattle.std.proofs.Common.{◌≡◌, ℕ, ◌+◌, Bool, true, false, cond, nat_eq, arith, ◌≢◌, ◌||◌, inl, inr, refl, List, [], ◌∷◌, ◌++◌, Option, None, Some}
use Rattle.std.proofs.lemmas.Bool.Decides.{nat_tests}
use Rattle.og_slots.specs.Flight.{Fits, Apart, AllApart}
use Rattle.std.proofs.lemmas.Bool.{cases_Bool}
use Rattle.og_slots.proofs.Flight.{fits_map, fits_frame, fits_append, apart_other}
use Rattle.og_block.specs.State.{Response, Intervention}
use Rattle.og_block.specs.Message.{Message as BlockMessage, Asked, Answered, Returned, Revised, Intervened, Invalidated}
use Rattle.og_pages.specs.State.{State as Pages, Wait, Cleaning, Command, NoCommand, Walk, NoWalk, Drop, NoDrop, Notice, NoNotice}
use Rattle.og_pages.specs.Rows.{Row as PageRow, guard as page_guard, apply as page_apply}
use Rattle.og_pages.specs.Invariant.{Invariant as PagesInvariant, Jobs, Notices, Drops}
use Rattle.og_whole.specs.Events.{World, Event, Page, On, guard, apply, is_of_pages}
use Rattle.og_whole.specs.Link.{Invariant}
use Rattle.og_whole.specs.Messages.{Message, OfBlock, OfJob, OfWalk, OfDrop, OfNotice}
use Rattle.og_whole.proofs.Runs.{reached}
use Rattle.og_relate.specs.Data.{Kind as Letter, KCopyIn, KCopyDone, KCleanFrame, KFrameClean, Post, Setup, Got, Request, Cpu, Mover, MoverJob}
use Rattle.og_relate.specs.Places.{Place, AskAt, ResponseAt, InterventionAt, CommandAt, WalkAt, DropAt, NoticeAt, block_place, place_of, content_by, content_of, slot_of, Named_by, Stands, Placed, Has, is_at, got_message, response_message, held_message, kept_ask, kept_response, kept_intervention, kept_drop, kept_collect, kept, Flies}
use Rattle.og_relate.specs.Sides.{owns, touches, page_owns, page_touches}
use Rattle.og_relate.specs.Sim.{IsReached, Keeps, Flight, Found}
use Rattle.og_relate.specs.Owes.{changes, Letters, Rest}
use Rattle.og_relate.specs.Goes.{Fewer}
use Rattle.og_relate.proofs.Passes.{stands_on, named_on}
use Rattle.og_relate.proofs.Untouched.{stood_before}

module _ {L : Type 0} where
  -- ---- rows of the page layer

  block_apart : (r : PageRow L) (g j : ℕ) (m : BlockMessage L) (s : Pages L) → page_touches s r (block_place g j m) ≡ false
  block_apart r g j (Asked q a) s = grind arith
  block_apart r g j (Answered q a) s = grind arith
  block_apart r g j (Returned q a) s = grind arith
  block_apart r g j (Revised a) s = grind arith
  block_apart r g j (Intervened q a) s = grind arith
  block_apart r g j (Invalidated q a) s = grind arith

  job_page : (pages blocks : ℕ) (s : Pages L) (r : PageRow L) (c : Command L) → is_of_pages r ≡ true → page_guard pages blocks r s → Jobs pages blocks s → s.command ≡ c → c ≢ NoCommand → page_owns r CommandAt ≡ false → ((page_apply r s).command ≡ c) × (page_touches s r CommandAt ≡ false)
  job_page pages blocks s r c z g j e ne o = grind arith

  walk_page : (pages blocks : ℕ) (s : Pages L) (r : PageRow L) (q : ℕ) (c : Walk) → page_guard pages blocks r s → s.walk q ≡ c → c ≢ NoWalk → page_owns r (WalkAt q) ≡ false → ((page_apply r s).walk q ≡ c) × (page_touches s r (WalkAt q) ≡ false)
  walk_page pages blocks s r q c g e ne o = grind (arith, nat_tests)

  drop_page : (pages blocks : ℕ) (s : Pages L) (r : PageRow L) (q : ℕ) (c : Drop) → page_guard pages blocks r s → Drops pages blocks s q → s.drop q ≡ c → c ≢ NoDrop → page_owns r (DropAt q) ≡ false → ((page_apply r s).drop q ≡ c) × (page_touches s r (DropAt q) ≡ false)
  drop_page pages blocks s r q c g d e ne o = grind (arith, nat_tests)

  notice_page : (pages blocks : ℕ) (s : Pages L) (r : PageRow L) (f : ℕ) (c : Notice) → page_guard pages blocks r s → Notices pages blocks s f → s.notice f ≡ c → c ≢ NoNotice → page_owns r (NoticeAt f) ≡ false → ((page_apply r s).notice f ≡ c) × (page_touches s r (NoticeAt f) ≡ false)
  notice_page pages blocks s r f c g d e ne o = grind (arith, nat_tests)

  wait_page : (pages blocks : ℕ) (s : Pages L) (r : PageRow L) (a b c d : ℕ) → page_guard pages blocks r s → page_owns r CommandAt ≡ false → s.command ≢ NoCommand → s.job ≡ Wait a b c d → (page_apply r s).job ≡ Wait a b c d
  wait_page pages blocks s r a b c d g o n e = grind arith

  cleaning_page : (pages blocks : ℕ) (s : Pages L) (r : PageRow L) (a : ℕ) → page_guard pages blocks r s → page_owns r CommandAt ≡ false → s.job ≡ Cleaning a → (page_apply r s).job ≡ Cleaning a
  cleaning_page pages blocks s r a g o e = grind arith

  stands_page : (s : Setup) (w : World L) (r : PageRow L) (c : Message L) → guard (s.nodes + 1) s.nodes s.pages s.blocks (Page r) w → PagesInvariant L s.pages s.blocks w.pages →
      Stands s w c → page_owns r (place_of c) ≡ false → Stands s (apply (s.nodes + 1) s.nodes (Page r) w) c × (page_touches w.pages r (place_of c) ≡ false)
  stands_page s w r (OfBlock g j m) gd inv st o = (st, block_apart r g j m w.pages)
  stands_page s w r (OfJob c) gd inv st o = let x = job_page s.pages s.blocks w.pages r c gd.1 gd.0 inv.jobs st.0 st.1 o in ((x.0, st.1), x.1)
  stands_page s w r (OfWalk q c) gd inv st o = let x = walk_page s.pages s.blocks w.pages r q c gd.0 st.1 st.2 o in ((st.0, x.0, st.2), x.1)
  stands_page s w r (OfDrop q c) gd inv st o = let x = drop_page s.pages s.blocks w.pages r q c gd.0 (inv.drops q) st.1 st.2 o in ((st.0, x.0, st.2), x.1)
  stands_page s w r (OfNotice f c) gd inv st o = let x = notice_page s.pages s.blocks w.pages r f c gd.0 (inv.notices f) st.1 st.2 o in ((st.0, x.0, st.2), x.1)

  named_page : (s : Setup) (w : World L) (r : PageRow L) (a b : ℕ) (x : Letter L) → guard (s.nodes + 1) s.nodes s.pages s.blocks (Page r) w → Stands s w (content_by s.nodes a b x) → page_owns r (place_of (content_by s.nodes a b x)) ≡ false → Named_by w x → Named_by (apply (s.nodes + 1) s.nodes (Page r) w) x
  named_page s w r a b (KCopyIn g j l) gd st o h = let n : w.pages.command ≢ NoCommand = grind arith in (h.0, h.1, wait_page s.pages s.blocks w.pages r h.0 h.1 g j gd.0 o n h.2)
  named_page s w r a b (KCopyDone g j) gd st o h = let n : w.pages.command ≢ NoCommand = grind arith in (h.0, h.1, wait_page s.pages s.blocks w.pages r h.0 h.1 g j gd.0 o n h.2)
  named_page s w r a b (KCleanFrame g) gd st o h = cleaning_page s.pages s.blocks w.pages r g gd.0 o h
  named_page s w r a b (KFrameClean g) gd st o h = cleaning_page s.pages s.blocks w.pages r g gd.0 o h
  named_page s w r a b x gd st o h = tt

  -- ---- any event

  stands_after : (s : Setup) (w : World L) (e : Event L) (c : Message L) → guard (s.nodes + 1) s.nodes s.pages s.blocks e w → Invariant L (s.nodes + 1) s.nodes s.pages s.blocks w →
      Stands s w c → owns e (place_of c) ≡ false → Stands s (apply (s.nodes + 1) s.nodes e w) c × (touches w.pages e (place_of c) ≡ false)
  stands_after s w (Page r) c gd inv st o = stands_page s w r c gd inv.of_pages st o
  stands_after s w (On page other f k r) c gd inv st o = stands_on s w page other f k r c gd inv st o

  placed_after : (s : Setup) (w : World L) (e : Event L) (x : Post L) → guard (s.nodes + 1) s.nodes s.pages s.blocks e w → Invariant L (s.nodes + 1) s.nodes s.pages s.blocks w →
      Placed s w x → owns e (slot_of s.nodes x) ≡ false → Placed s (apply (s.nodes + 1) s.nodes e w) x × (touches w.pages e (slot_of s.nodes x) ≡ false)
  placed_after s w (Page r) x gd inv p o = let y = stands_after s w (Page r) (content_of s.nodes x) gd inv p.0 o in ((y.0, p.1, named_page s w r x.from x.to x.kind gd p.0 o p.2), y.1)
  placed_after s w (On page other f k r) x gd inv p o = let y = stands_after s w (On page other f k r) (content_of s.nodes x) gd inv p.0 o in ((y.0, p.1, named_on s w page other f k r x.kind gd p.2), y.1)

  -- ---- what was received

  pub got_place : (f k q : ℕ) (g : Got L) (c : Message L) → got_message f k q g ≡ Some c → place_of c ≡ AskAt f k q
  got_place f k q g c e = grind arith

  pub response_place : (f k q : ℕ) (g : Response L) (c : Message L) → response_message f k q g ≡ Some c → place_of c ≡ ResponseAt f k q
  response_place f k q g c e = grind arith

  pub held_place : (f k q : ℕ) (g : Intervention) (c : Message L) → held_message f k q g ≡ Some c → place_of c ≡ InterventionAt f k q
  held_place f k q g c e = grind arith

  pub ask_place : (f k q : ℕ) (r : Option (Request L)) (c : Message L) → kept_ask f k q r ≡ Some c → place_of c ≡ AskAt f k q
  ask_place f k q None c e = absurd (cc)
  ask_place f k q (Some r) c e = at (is_at f k r) e
    where
      at : (t : Bool) → cond t (got_message f k q r.got) None ≡ Some c → place_of c ≡ AskAt f k q
      at true e = got_place f k q r.got c e
      at false e = absurd (cc)

  pub response_is : (f k q : ℕ) (r : Option (Request L)) (c : Message L) → kept_response f k q r ≡ Some c → place_of c ≡ ResponseAt f k q
  response_is f k q None c e = absurd (cc)
  response_is f k q (Some r) c e = at (is_at f k r) e
    where
      at : (t : Bool) → cond t (response_message f k q r.response) None ≡ Some c → place_of c ≡ ResponseAt f k q
      at true e = response_place f k q r.response c e
      at false e = absurd (cc)

  pub held_is : (f k q : ℕ) (r : Option (Request L)) (c : Message L) → kept_intervention f k q r ≡ Some c → place_of c ≡ InterventionAt f k q
  held_is f k q None c e = absurd (cc)
  held_is f k q (Some r) c e = at (is_at f k r) e
    where
      at : (t : Bool) → cond t (held_message f k q r.held) None ≡ Some c → place_of c ≡ InterventionAt f k q
      at true e = held_place f k q r.held c e
      at false e = absurd (cc)

  collect_place : (f k n : ℕ) (j : MoverJob L) (c : Message L) → kept_collect f k n j ≡ Some c → place_of c ≡ AskAt f k n
  collect_place f k n j c e = grind (arith, nat_tests)

  pub drop_place : (q : ℕ) (d : Option ℕ) (c : Message L) → kept_drop q d ≡ Some c → place_of c ≡ DropAt q
  drop_place q None c e = absurd (cc)
  drop_place q (Some f) c e = grind arith

pub or_left : (a b : Bool) → a ≡ true → (a || b) ≡ true
or_left a b e = grind arith

or_parts : (a b : Bool) → (a || b) ≡ false → (a ≡ false) × (b ≡ false)
or_parts a b o = grind arith

module _ {L : Type 0} where
  pub has_left : (n : ℕ) (xs ys : List (Post L)) (p : Place) → Has n xs p → Has n (xs ++ ys) p
  has_left n [] ys p h = absurd h
  has_left n (x ∷ xs) ys p h = elim h [ inl e ↦ inl e | inr r ↦ inr (has_left n xs ys p r) ]

  pub has_right : (n : ℕ) (xs ys : List (Post L)) (p : Place) → Has n ys p → Has n (xs ++ ys) p
  has_right n [] ys p h = h
  has_right n (x ∷ xs) ys p h = inr (has_right n xs ys p h)

module _ {L : Type 0} {H : Type 0} where
  pub kept_place : (n : ℕ) (cpu : ℕ → Cpu L H) (mover : Mover L) (p : Place) (c : Message L) → kept n cpu mover p ≡ Some c → place_of c ≡ p
  kept_place n cpu mover (AskAt f k q) c e = at (nat_eq q n) e
    where
      at : (t : Bool) → cond t (kept_collect f k q mover.job) (kept_ask f k q (cpu q).request) ≡ Some c → place_of c ≡ AskAt f k q
      at true e = collect_place f k q mover.job c e
      at false e = ask_place f k q (cpu q).request c e
  kept_place n cpu mover (ResponseAt f k q) c e = at (nat_eq q n) e
    where
      at : (t : Bool) → cond t None (kept_response f k q (cpu q).request) ≡ Some c → place_of c ≡ ResponseAt f k q
      at true e = absurd (cc)
      at false e = response_is f k q (cpu q).request c e
  kept_place n cpu mover (InterventionAt f k q) c e = at (nat_eq q n) e
    where
      at : (t : Bool) → cond t None (kept_intervention f k q (cpu q).request) ≡ Some c → place_of c ≡ InterventionAt f k q
      at true e = absurd (cc)
      at false e = held_is f k q (cpu q).request c e
  kept_place n cpu mover (DropAt q) c e = at (nat_eq q n) e
    where
      at : (t : Bool) → cond t None (kept_drop q (cpu q).drop) ≡ Some c → place_of c ≡ DropAt q
      at true e = absurd (cc)
      at false e = drop_place q (cpu q).drop c e
  kept_place n cpu mover p c e = absurd (cc)

  -- ---- together

  -- of the flight x ∷ ms the event takes x alone
  pub rest_one : (s : Setup) (cpu : ℕ → Cpu L H) (mover : Mover L) (w : World L) (e : Event L) (x : Post L) (ms : List (Post L)) → Flight s cpu mover w (x ∷ ms) →
      ((p : Place) → owns e p ≡ true → p ≡ slot_of s.nodes x) → owns e (slot_of s.nodes x) ≡ true → Rest s cpu mover w e (x ∷ ms) ms
  rest_one s cpu mover w e x ms fl owned own = (
    fits_frame (slot_of s.nodes) (slot_of s.nodes x) (Flies s cpu mover w) (λ y. Flies s cpu mover w y × (owns e (slot_of s.nodes y) ≡ false)) (λ y ne f. (f, free (slot_of s.nodes y) ne)) ms fl.1 fl.2,
    λ p o h. elim h [ inl same ↦ absurd (cc) | inr r ↦ r ],
  )
    where
      free : (p : Place) → p ≢ slot_of s.nodes x → owns e p ≡ false
      free p ne = elim (cases_Bool (owns e p)) [ inl t ↦ absurd (ne (owned p t)) | inr t ↦ t ]

  -- it takes none
  pub rest_all : (s : Setup) (cpu : ℕ → Cpu L H) (mover : Mover L) (w : World L) (e : Event L) (ms : List (Post L)) → Flight s cpu mover w ms → ((p : Place) → owns e p ≡ false) → Rest s cpu mover w e ms ms
  rest_all s cpu mover w e ms fl free = (fits_map (slot_of s.nodes) (Flies s cpu mover w) (λ y. Flies s cpu mover w y × (owns e (slot_of s.nodes y) ≡ false)) (λ y f. (f, free (slot_of s.nodes y))) ms fl, λ p o h. h)

  -- it takes what is kept alone
  pub rest_kept : (s : Setup) (cpu : ℕ → Cpu L H) (mover : Mover L) (w : World L) (e : Event L) (ms : List (Post L)) → Flight s cpu mover w ms → ((p : Place) → owns e p ≡ true → kept s.nodes cpu mover p ≢ None) → Rest s cpu mover w e ms ms
  rest_kept s cpu mover w e ms fl owned = (fits_map (slot_of s.nodes) (Flies s cpu mover w) (λ y. Flies s cpu mover w y × (owns e (slot_of s.nodes y) ≡ false)) (λ y f. (f, elim (cases_Bool (owns e (slot_of s.nodes y))) [ inl t ↦ absurd (owned (slot_of s.nodes y) t f.1) | inr t ↦ t ])) ms fl, λ p o h. h)

  -- the letters have places to which the event sends, and what stays in flight has none from which it takes; and what stands
  -- afterwards is found again
  pub messages_go : (s : Setup) (cpu cpu2 : ℕ → Cpu L H) (mover mover2 : Mover L) (w : World L) (e : Event L) (flight ms ls : List (Post L)) → guard (s.nodes + 1) s.nodes s.pages s.blocks e w → IsReached s w → Keeps s cpu mover w → Found s cpu mover w flight →
      Fewer (kept s.nodes cpu2 mover2) (kept s.nodes cpu mover) (owns e) →
      Rest s cpu mover w e flight ms →
      Letters s w e ls →
      Keeps s cpu2 mover2 (apply (s.nodes + 1) s.nodes e w) × Flight s cpu2 mover2 (apply (s.nodes + 1) s.nodes e w) (ms ++ ls) × Found s cpu2 mover2 (apply (s.nodes + 1) s.nodes e w) (ms ++ ls)
  messages_go s cpu cpu2 mover mover2 w e flight ms ls gd re keeps found fewer rest letters = (
    λ p c k. (still p c k).0,
    fits_append (slot_of s.nodes) (Flies s cpu2 mover2 z) ms ls
        (fits_map (slot_of s.nodes) (λ x. Flies s cpu mover w x × (owns e (slot_of s.nodes x) ≡ false)) (Flies s cpu2 mover2 z) (λ x h. ((placed_after s w e x gd inv h.0.0 h.1).0, stays_none (slot_of s.nodes x) h.0.1 h.1)) ms rest.0)
        (fits_map (slot_of s.nodes) (λ x. Placed s z x × (touches w.pages e (slot_of s.nodes x) ≡ true)) (Flies s cpu2 mover2 z) (λ x h. (h.0, touched_none (slot_of s.nodes x) h.1)) ls letters.0)
        (all_apart ls letters.0),
    found_after,
  )
    where
      inv : Invariant L (s.nodes + 1) s.nodes s.pages s.blocks w
      inv = reached (s.nodes + 1) s.nodes s.pages s.blocks w re

      z : World L
      z = apply (s.nodes + 1) s.nodes e w

      still : (p : Place) (c : Message L) → kept s.nodes cpu2 mover2 p ≡ Some c → Stands s z c × (touches w.pages e p ≡ false)
      still p c k = elim (fewer p) [ inl n ↦ absurd (let n0 = n.0 in cc) | inr h ↦ (let h0 = h.0 in let h1 = h.1 in let k2 : kept s.nodes cpu mover p ≡ Some c = cc in let pl : place_of c ≡ p = kept_place s.nodes cpu mover p c k2 in let o : owns e (place_of c) ≡ false = cc in let y = stands_after s w e c gd inv (keeps p c k2) o in (y.0, (let y1 = y.1 in cc))) ]

      stays_none : (p : Place) → kept s.nodes cpu mover p ≡ None → owns e p ≡ false → kept s.nodes cpu2 mover2 p ≡ None
      stays_none p k o = elim (fewer p) [ inl n ↦ n.0 | inr h ↦ (let h0 = h.0 in cc) ]

      touched_none : (p : Place) → touches w.pages e p ≡ true → kept s.nodes cpu2 mover2 p ≡ None
      touched_none p t = by (kept s.nodes cpu2 mover2 p) refl
        where
          by : (o : Option (Message L)) → kept s.nodes cpu2 mover2 p ≡ o → o ≡ None
          by None k = refl
          by (Some c) k = let y = still p c k in absurd (let y1 = y.1 in cc)

      one_apart : (l : Post L) (ns : List (Post L)) → touches w.pages e (slot_of s.nodes l) ≡ true → Fits (slot_of s.nodes) (λ x. Flies s cpu mover w x × (owns e (slot_of s.nodes x) ≡ false)) ns → Apart (slot_of s.nodes) (slot_of s.nodes l) ns
      one_apart l ns t f = apart_other (slot_of s.nodes) (slot_of s.nodes l) (λ x. Flies s cpu mover w x × (owns e (slot_of s.nodes x) ≡ false)) (λ x h same. (let y = (placed_after s w e x gd inv h.0.0 h.1).1 in absurd (cc))) ns f

      all_apart : (xs : List (Post L)) → Fits (slot_of s.nodes) (λ x. Placed s z x × (touches w.pages e (slot_of s.nodes x) ≡ true)) xs → AllApart (slot_of s.nodes) xs ms
      all_apart [] f = tt
      all_apart (l ∷ xs) f = (one_apart l ms f.0.1 rest.0, all_apart xs f.2)

      unowned : (p : Place) → changes w.pages e p ≡ false → owns e p ≡ false
      unowned p c = (or_parts (owns e p) (touches w.pages e p) c).0

      untouched : (p : Place) → changes w.pages e p ≡ false → touches w.pages e p ≡ false
      untouched p c = (or_parts (owns e p) (touches w.pages e p) c).1

      found_after : Found s cpu2 mover2 z (ms ++ ls)
      found_after p i st = elim (cases_Bool (changes w.pages e p)) [
        | inl t ↦ inr (has_right s.nodes ms ls p (letters.1 p i t st))
        | inr t ↦ elim (found p i (stood_before s w e p gd (untouched p t) st)) [
          | inl k ↦ inl (elim (fewer p) [ inl n ↦ absurd (let n1 = n.1 in let o = unowned p t in cc) | inr h ↦ (λ none. k (let h0 = h.0 in cc)) ])
          | inr h ↦ inr (has_left s.nodes ms ls p (rest.1 p (unowned p t) h))
        ]
      ]
