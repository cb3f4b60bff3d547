-- The holders of a frame: whether there is one, and the letters to all of them.
use Rattle.std.proofs.Common.{◌≡◌, ℕ, zero, suc, ◌+◌, ◌<◌, Bool, true, false, cond, nat_eq, nat_cmp, List, [], ◌∷◌, ◌++◌, map, arith, inl, inr, refl, sym, ap, ◌∙◌}
use Rattle.std.specs.List.{filter}
use Rattle.std.specs.FinSet as set
use Rattle.std.specs.Cmp.{nat_cmp_total}
use Rattle.std.proofs.lemmas.Bool.{cases_Bool}
use Rattle.std.proofs.lemmas.Bool.Decides.{nat_tests}
use Rattle.og_base.specs.declared.Frame.{Frame}
use Rattle.og_base.specs.declared.Settings.{Settings}
use Rattle.og_base.specs.Numbers.{below}
use Rattle.og_line.specs.declared.Line.{Line}
use Rattle.og_msg.specs.declared.Kind.TheVariants.{DropFrame}
use Rattle.og_slots.specs.Count.{count}
use Rattle.og_slots.proofs.Count.{count_none, none_counted}
use Rattle.og_pager.specs.PageTable.{PageTable, holders_of}
use Rattle.og_mover.specs.declared.Clearing.TheVariants.{Gather, Clean}
use Rattle.og_mover.specs.declared.Job.{Job}
use Rattle.og_mover.specs.declared.Job.TheVariants.{Reclaim}
use Rattle.og_mover.specs.Table.{to, is_unheld, gathered}
use Rattle.og_mover.proofs.Kept.{told_more}
use Rattle.og_relate.specs.Data.{KDropFrame, Post, MGather, MClean}
use Rattle.og_relate.specs.Steps.{letter}
use Rattle.og_relate.specs.MoverSteps.{drops}
use Rattle.og_seen.specs.Numbers.{Sizes, is_there, frame_number}
use Rattle.og_seen.specs.Messages.{letters_seen}
use Rattle.og_seen.specs.Movers.{mover_seen}
use Rattle.og_refine_mover.proofs.Tables.{IsTableOf, holders_at}
use Rattle.og_refine_mover.proofs.Changes.{mover_of}

-- a set of nodes is empty where none of the nodes is in it
pub unheld_seen : (n : ℕ) (h : set.FinSet nat_cmp) → ((q : ℕ) → set.contains h q ≡ true → q < n) → nat_eq (set.len h) 0 ≡ nat_eq (count n (set.contains h)) 0
unheld_seen n h inside = by (nat_eq (set.len h) 0) refl (nat_eq (count n (set.contains h)) 0) refl
  where
    none : (q : ℕ) → h ≡ set.empty → set.contains h q ≡ false
    none q e = ap (λ (k : set.FinSet nat_cmp). set.contains k q) e ∙ set.contains-empty nat_cmp q

    nobody : count n (set.contains h) ≡ 0 → (q : ℕ) → set.contains h q ≡ false
    nobody c q = elim (cases_Bool (set.contains h q)) [ inl t ↦ none_counted n (set.contains h) q c (inside q t) | inr t ↦ t ]

    by : (a : Bool) → nat_eq (set.len h) 0 ≡ a → (b : Bool) → nat_eq (count n (set.contains h)) 0 ≡ b → a ≡ b
    by true a true b = refl
    by false a false b = refl
    by true a false b = absurd (let l : set.len h ≡ 0 = grind (arith, nat_tests) in let c : count n (set.contains h) ≡ 0 = count_none n (set.contains h) (λ q lt. none q (set.empty_of_len h l)) in grind (arith, nat_tests))
    by false a true b =
        absurd (let c : count n (set.contains h) ≡ 0 = grind (arith, nat_tests) in
        let e : h ≡ set.empty = set.same_set nat_cmp_total set.nat_cmp-IsAntisymmetric h set.empty (λ q. nobody c q ∙ sym (set.contains-empty nat_cmp q)) in
        let l : set.len h ≡ 0 = ap set.len e ∙ set.len-empty nat_cmp in grind (arith, nat_tests))

-- the letters to the holders among the first i nodes
told_each : (n f : ℕ) (h : ℕ → Bool) (i : ℕ) → map (λ q. letter {L = Line} n q (KDropFrame f)) (filter h (below i)) ≡ drops n f h i
unfolding below
told_each n f h zero = refl
told_each n f h (suc i) =
    let one : i + 1 ≡ suc i = omega arith in
    ap (λ k. map (λ q. letter {L = Line} n q (KDropFrame f)) (filter h (below k))) (sym one) ∙ told_more (λ q. letter {L = Line} n q (KDropFrame f)) h i ∙
    ap (λ (xs : List (Post Line)). xs ++ cond (h i) (letter n i (KDropFrame f) ∷ []) []) (told_each n f h i)

-- each holder is told, rising
pub drops_seen : (s : Sizes) (frame : Frame) (h : ℕ → Bool) (n i : ℕ) → letters_seen s n (map (λ q. to q (DropFrame frame)) (filter h (below i))) ≡ drops n (frame_number s frame) h i
drops_seen s frame h n i = each (filter h (below i)) ∙ told_each n (frame_number s frame) h i
  where
    each : (qs : List ℕ) → letters_seen s n (map (λ q. to q (DropFrame frame)) qs) ≡ map (λ q. letter n q (KDropFrame (frame_number s frame))) qs
    each [] = refl
    each (q ∷ qs) = ap (λ (rest : List (Post Line)). letter n q (KDropFrame (frame_number s frame)) ∷ rest) (each qs)

-- where no holder is left the frame can be cleaned
pub gather_seen : (s : Sizes) (t : PageTable) (is : IsTableOf s t) (j : Job) (e : Settings) (frame : Frame) → is_there s frame ≡ true → ((q : ℕ) → (mover_seen s (mover_of t j e)).holders (frame_number s frame) q ≡ true → q < s.nodes) →
    record (mover_seen s (mover_of t j e)) { job = cond (nat_eq (count s.nodes ((mover_seen s (mover_of t j e)).holders (frame_number s frame))) 0) (MClean (frame_number s frame)) (MGather (frame_number s frame)) } ≡ mover_seen s (gathered (mover_of t (Reclaim frame Gather) e))
gather_seen s t is j e frame there inside = ap (λ b. record (mover_seen s (mover_of t j e)) { job = cond b (MClean (frame_number s frame)) (MGather (frame_number s frame)) }) test ∙ by (is_unheld t frame)
  where
    held : (mover_seen s (mover_of t j e)).holders (frame_number s frame) ≡ set.contains (holders_of t frame)
    held = ap set.contains (holders_at s t is frame there)

    test : nat_eq (count s.nodes ((mover_seen s (mover_of t j e)).holders (frame_number s frame))) 0 ≡ is_unheld t frame
    test = ap (λ (h : ℕ → Bool). nat_eq (count s.nodes h) 0) held ∙ sym (unheld_seen s.nodes (holders_of t frame) (λ q c. inside q (ap (λ (h : ℕ → Bool). h q) held ∙ c)))

    by : (b : Bool) → record (mover_seen s (mover_of t j e)) { job = cond b (MClean (frame_number s frame)) (MGather (frame_number s frame)) } ≡ mover_seen s (cond b (mover_of t (Reclaim frame Clean) e) (mover_of t (Reclaim frame Gather) e))
    by true = refl
    by false = refl
