-- Harts whose accesses have the flat memory's answers make a flat run.
use Rattle.std.proofs.Common.{◌≡◌, ℕ, zero, suc, ◌+◌, true, false, cond, nat_eq, List, [], ◌∷◌, Option, Some, None, ◌⊎◌, inl, inr, arith, refl, sym, subst, ap, ◌∙◌}
use Rattle.std.proofs.lemmas.Bool.Decides.{nat_tests}
use Rattle.std.proofs.lemmas.Bool.{cases_Bool}
use Rattle.og_flat.specs.Flat.{Flat}
use Rattle.og_runs.specs.declared.Event.{Event}
use Rattle.rv_hart.specs.declared.hart.Need.{Need}
use Rattle.rv_hart.specs.declared.hart.Need.TheVariants as need
use Rattle.rv_hart.specs.Hart.{HartState, need_of, finish_of}
use Rattle.og_image.specs.Image.{ImageState}
use Rattle.rv_hart.proofs.HartFacts.{finish_keeps, finish_left}
use Rattle.og_msg.specs.declared.Note.{Note}
use Rattle.og_msg.specs.declared.Note.TheVariants as note
use Rattle.og_machine.specs.FlatRun.{is_plain, plain_within, after_plain, FlatState, with_hart, MayNote, hart_after, flat_after_note, flat_step, FlatRunFrom, flat_begin, hart_notes, with_note, is_of_hart}
use Rattle.og_machine.specs.HartRuns.{HartMoves, HartsRun, IsNotedInside, Stops, Answered, AnswersFlat, flat_noted}
use Rattle.og_refine_harts.specs.Laws.{HartRunsAreFlat}

-- the machine's hart h has come further than the flat run's f by instructions that need nothing
pub record Behind (image : ImageState) (f h : HartState) : Type 0 where
  pub same : after_plain image f ≡ after_plain image h
  pub cause : f.cause ≡ h.cause

-- a hart that needs something stays where it is
stays : (image : ImageState) (n : ℕ) (h : HartState) → is_plain (need_of image h) ≡ false → plain_within image n h ≡ h
unfolding plain_within
stays image zero h is = refl
stays image (suc n) h is = rw is refl

one_on : (image : ImageState) (n : ℕ) (h : HartState) → need_of image h ≡ need.Plain → plain_within image (suc n) h ≡ plain_within image n (finish_of image h 0)
unfolding plain_within
one_on image n h plain = rw plain refl

-- a hart that needs nothing goes on
moves_on : (image : ImageState) (h : HartState) → need_of image h ≡ need.Plain → after_plain image h ≡ after_plain image (finish_of image h 0)
moves_on image h plain =
    let left : (finish_of image h 0).left + 1 ≡ h.left = finish_left image h 0 (λ cause is. absurd (cc)) in
    let more : h.left ≡ suc (finish_of image h 0).left = omega arith in
    ap (λ (n : ℕ). plain_within image n h) more ∙ one_on image (finish_of image h 0).left h plain

-- one hart of both goes on
behind_with : (image : ImageState) (fs hs : ℕ → HartState) (p : ℕ) (f h : HartState) → ((q : ℕ) → Behind image (fs q) (hs q)) → Behind image f h → (q : ℕ) → Behind image (with_hart fs p f q) (with_hart hs p h q)
behind_with image fs hs p f h all one q = at (cases_Bool (nat_eq q p))
  where
    at : ((nat_eq q p ≡ true) ⊎ (nat_eq q p ≡ false)) → Behind image (with_hart fs p f q) (with_hart hs p h q)
    at (inl e) = rw e one
    at (inr e) = rw e (all q)

-- only the machine's hart goes on
behind_on : (image : ImageState) (fs hs : ℕ → HartState) (p : ℕ) (h : HartState) → ((q : ℕ) → Behind image (fs q) (hs q)) → Behind image (fs p) h → (q : ℕ) → Behind image (fs q) (with_hart hs p h q)
behind_on image fs hs p h all one q = at (cases_Bool (nat_eq q p))
  where
    at : ((nat_eq q p ≡ true) ⊎ (nat_eq q p ≡ false)) → Behind image (fs q) (with_hart hs p h q)
    at (inl e) = let same : q ≡ p = grind (arith, nat_tests) in rw e (subst (λ (r : ℕ). Behind image (fs r) h) (sym same) one)
    at (inr e) = rw e (all q)

-- a move without an entry
quiet_move : (image : ImageState) (f h after : HartState) → Behind image f h → HartMoves image h None after → Behind image f after
quiet_move image f h after b (inl same) = rw same b
quiet_move image f h after b (inr on) =
    let plain : need_of image h ≡ need.Plain = on.1 in
    let next : Behind image f (finish_of image h 0) = record { same = b.same ∙ moves_on image h plain; cause = b.cause ∙ sym (finish_keeps image h 0) } in
    subst (λ (k : HartState). Behind image f k) (sym on.2) next

-- where the machine's hart needs something, the flat run's hart has come as far
arrived : (image : ImageState) (f h : HartState) → Behind image f h → is_plain (need_of image h) ≡ false → after_plain image f ≡ h
arrived image f h b is = b.same ∙ stays image h.left h is

-- the entry that a hart's move makes, and what it leaves
record Enters (image : ImageState) (s : FlatState) (p : ℕ) (noted : Note) (after : HartState) : Type 0 where
  runs : (s.harts p).cause ≡ None
  entry : MayNote s.flat p (after_plain image (s.harts p)) (need_of image (after_plain image (s.harts p))) noted
  next : hart_after image (after_plain image (s.harts p)) (need_of image (after_plain image (s.harts p))) noted ≡ after

enters_by : (image : ImageState) (s : FlatState) (p : ℕ) (noted : Note) (h after : HartState) (d : Need) → Behind image (s.harts p) h → h.cause ≡ None → need_of image h ≡ d → is_plain d ≡ false → MayNote s.flat p h d noted → hart_after image h d noted ≡ after → Enters image s p noted after
enters_by image s p noted h after d b runs is needs entry next =
    let there : after_plain image (s.harts p) ≡ h = arrived image (s.harts p) h b (rw is needs) in
    let need_is : need_of image (after_plain image (s.harts p)) ≡ d = ap (λ (k : HartState). need_of image k) there ∙ is in
    record {
      runs = b.cause ∙ runs;
      entry = subst (λ (k : HartState). MayNote s.flat p k (need_of image (after_plain image (s.harts p))) noted) (sym there) (subst (λ (e : Need). MayNote s.flat p h e noted) (sym need_is) entry);
      next = ap (λ (k : HartState). hart_after image k (need_of image (after_plain image (s.harts p))) noted) there ∙ ap (λ (e : Need). hart_after image h e noted) need_is ∙ next;
    }

stop_enters : (image : ImageState) (s : FlatState) (p : ℕ) (noted : Note) (h after : HartState) → Behind image (s.harts p) h → Stops image h noted after → Enters image s p noted after
stop_enters image s p noted h after b st = enters_by image s p noted h after (need.Stop st.0) b st.1 st.2 refl st.3 (sym st.4)

enters : (image : ImageState) (s : FlatState) (p : ℕ) (noted : Note) (h after : HartState) → Behind image (s.harts p) h → is_of_hart noted ≡ true → HartMoves image h (Some noted) after → AnswersFlat s.flat p (Some noted) → Enters image s p noted after
enters image s p (note.Access access answer) h after b mine m a = enters_by image s p (note.Access access answer) h after (need.Access access) b m.0 m.1 refl (refl, a) (sym m.2)
enters image s p (note.Emit value) h after b mine m a = enters_by image s p (note.Emit value) h after (need.Emit value) b m.0 m.1 refl refl (sym m.2)
enters image s p (note.Exit value) h after b mine m a = stop_enters image s p (note.Exit value) h after b m
enters image s p (note.Trap cause pc) h after b mine m a = stop_enters image s p (note.Trap cause pc) h after b m
enters image s p note.Spent h after b mine m a = stop_enters image s p note.Spent h after b m
enters image s p (note.Begin page old new) h after b mine m a = absurd (cc)
enters image s p (note.No reason frame node) h after b mine m a = absurd (cc)
enters image s p (note.Moved page old new) h after b mine m a = absurd (cc)
enters image s p (note.Freed frame) h after b mine m a = absurd (cc)

memory_same : (flat : Flat) (p : ℕ) (noted : Note) → flat_after_note flat p noted ≡ flat_noted flat p (Some noted)
memory_same flat p (note.Access access answer) = refl
memory_same flat p (note.Emit value) = refl
memory_same flat p (note.Exit value) = refl
memory_same flat p (note.Trap cause pc) = refl
memory_same flat p note.Spent = refl
memory_same flat p (note.Begin page old new) = refl
memory_same flat p (note.No reason frame node) = refl
memory_same flat p (note.Moved page old new) = refl
memory_same flat p (note.Freed frame) = refl

-- the mover's notes leave the hart and the memory
mover_stays : (image : ImageState) (flat : Flat) (p : ℕ) (noted : Note) (h after : HartState) → is_of_hart noted ≡ false → HartMoves image h (Some noted) after → (after ≡ h) × (flat_noted flat p (Some noted) ≡ flat)
mover_stays image flat p (note.Access access answer) h after other m = absurd (cc)
mover_stays image flat p (note.Emit value) h after other m = absurd (cc)
mover_stays image flat p (note.Exit value) h after other m = absurd (cc)
mover_stays image flat p (note.Trap cause pc) h after other m = absurd (cc)
mover_stays image flat p note.Spent h after other m = absurd (cc)
mover_stays image flat p (note.Begin page old new) h after other m = (m, refl)
mover_stays image flat p (note.No reason frame node) h after other m = (m, refl)
mover_stays image flat p (note.Moved page old new) h after other m = (m, refl)
mover_stays image flat p (note.Freed frame) h after other m = (m, refl)

-- harts whose accesses have the flat memory's answers make a flat run
pub flat_from : (image : ImageState) (s : FlatState) (hs : ℕ → HartState) (es : List (Event Note)) → ((q : ℕ) → Behind image (s.harts q) (hs q)) → HartsRun image hs es → Answered s.flat es → FlatRunFrom image s (hart_notes es)
unfolding hart_notes
flat_from image s hs [] all run answered = tt
flat_from image s hs (e ∷ es) all run answered = at e.note run.1 run.2 answered.0 (λ t b a. flat_from image t (with_hart hs e.stamp.actor run.0) es b run.3 a) answered.1
  where
    at : (o : Option Note) → IsNotedInside image.nodes e.stamp.actor o → HartMoves image (hs e.stamp.actor) o run.0 → AnswersFlat s.flat e.stamp.actor o →
        ((t : FlatState) → ((q : ℕ) → Behind image (t.harts q) (with_hart hs e.stamp.actor run.0 q)) → Answered t.flat es → FlatRunFrom image t (hart_notes es)) →
        Answered (flat_noted s.flat e.stamp.actor o) es → FlatRunFrom image s (with_note e.stamp.actor o (hart_notes es))
    at None inside m a rest left = rest s (behind_on image s.harts hs e.stamp.actor run.0 all (quiet_move image (s.harts e.stamp.actor) (hs e.stamp.actor) run.0 (all e.stamp.actor) m)) left
    at (Some noted) inside m a rest left = by (cases_Bool (is_of_hart noted))
      where
        by : ((is_of_hart noted ≡ true) ⊎ (is_of_hart noted ≡ false)) → FlatRunFrom image s (cond (is_of_hart noted) ((e.stamp.actor, noted) ∷ hart_notes es) (hart_notes es))
        by (inl mine) =
            let x : Enters image s e.stamp.actor noted run.0 = enters image s e.stamp.actor noted (hs e.stamp.actor) run.0 (all e.stamp.actor) mine m a in
            let t : FlatState = flat_step image s e.stamp.actor noted in
            let both : Behind image (hart_after image (after_plain image (s.harts e.stamp.actor)) (need_of image (after_plain image (s.harts e.stamp.actor))) noted) run.0 = rw x.next (record { same = refl; cause = refl }) in
            rw mine (inside mine, x.runs, x.entry, rest t (behind_with image s.harts hs e.stamp.actor (hart_after image (after_plain image (s.harts e.stamp.actor)) (need_of image (after_plain image (s.harts e.stamp.actor))) noted) run.0 all both) (subst (λ (f : Flat). Answered f es) (sym (memory_same s.flat e.stamp.actor noted)) left))
        by (inr other) =
            let y : (run.0 ≡ hs e.stamp.actor) × (flat_noted s.flat e.stamp.actor (Some noted) ≡ s.flat) = mover_stays image s.flat e.stamp.actor noted (hs e.stamp.actor) run.0 other m in
            rw other (rest s (behind_on image s.harts hs e.stamp.actor run.0 all (rw y.0 (all e.stamp.actor))) (subst (λ (f : Flat). Answered f es) y.1 left))

pub hart_runs_are_flat : HartRunsAreFlat
hart_runs_are_flat image settings events run answered = flat_from image (flat_begin image settings) (flat_begin image settings).harts events (λ q. record { same = refl; cause = refl }) run answered
