-- What an event of the machine accesses, it finds in the flat memory, which it changes by what it writes.
use Rattle.std.proofs.Common.{◌≡◌, ℕ, ◌+◌, Bool, true, false, cond, arith, refl, sym, subst, List, [], ◌∷◌, ◌++◌}
use Rattle.og_block.specs.Rows.{Row as BlockRow}
use Rattle.og_block.specs.Access.{Access, Reads, Writes, access_of, Finds}
use Rattle.og_whole.specs.Kind.{kind}
use Rattle.og_whole.specs.Events.{World, Event, Page, On, FlatRun, Answers, memory_after, memory_by, memory_of, is_access}
use Rattle.og_whole.proofs.Runs.{reached, flat_run}
use Rattle.og_relate.specs.Data.{Machine, Harts, Setup}
use Rattle.og_relate.specs.Sim.{IsReached}
use Rattle.og_relate.specs.Goes.{Made, made_at, made_of, all_made, memory_left, MadeFlat, memory_made, Makes}

module _ {L : Type 0} where
  same_memory : (y k : ℕ) (r : BlockRow L) (memory : ℕ → ℕ → L) → is_access (kind r) ≡ false → memory_by y k (kind r) memory ≡ memory
  same_memory y k r memory a = grind arith

  made_memory : (y k : ℕ) (r : BlockRow L) (memory : ℕ → ℕ → L) → is_access (kind r) ≡ true → memory_made memory (made_at y k (access_of r)) ≡ memory_by y k (kind r) memory
  made_memory y k r memory a = grind arith

  made_finds : (y k : ℕ) (r : BlockRow L) (memory : ℕ → ℕ → L) → is_access (kind r) ≡ true → Finds (memory y k) (access_of r) → MadeFlat memory (made_at y k (access_of r))
  made_finds y k r memory a f = by (access_of r) f
    where
      by : (x : Access L) → Finds (memory y k) x → MadeFlat memory (made_at y k x)
      by (Reads l) f = (f, tt)
      by (Writes l v) f = (f, tt)
      by x f = tt

  flat_both : (memory : ℕ → ℕ → L) (xs ys : List (Made L)) → MadeFlat memory xs → MadeFlat (memory_made memory xs) ys → MadeFlat memory (xs ++ ys)
  flat_both memory [] ys a b = b
  flat_both memory (x ∷ xs) ys a b = (a.0, flat_both (memory_left memory x.page x.number x.left) xs ys a.1 b)

  memory_both : (memory : ℕ → ℕ → L) (xs ys : List (Made L)) → memory_made memory (xs ++ ys) ≡ memory_made (memory_made memory xs) ys
  memory_both memory [] ys = refl
  memory_both memory (x ∷ xs) ys = memory_both (memory_left memory x.page x.number x.left) xs ys

  one_flat : (memory : ℕ → ℕ → L) (e : Event L) → Answers memory e → MadeFlat memory (made_of e) × (memory_made memory (made_of e) ≡ memory_after e memory)
  one_flat memory (Page row) a = (tt, refl)
  one_flat memory (On page other f k r) a = by (is_access (kind r)) refl
    where
      by : (t : Bool) → is_access (kind r) ≡ t → MadeFlat memory (cond t (made_at page k (access_of r)) []) × (memory_made memory (cond t (made_at page k (access_of r)) []) ≡ memory_by page k (kind r) memory)
      by true e = (made_finds page k r memory e (a e), made_memory page k r memory e)
      by false e = (tt, sym (same_memory page k r memory e))

  events_flat : (memory : ℕ → ℕ → L) (es : List (Event L)) → FlatRun memory es → MadeFlat memory (all_made es) × (memory_made memory (all_made es) ≡ memory_of es memory)
  events_flat memory [] f = (tt, refl)
  events_flat memory (e ∷ es) f =
      let a = one_flat memory e f.0 in
      let b : MadeFlat (memory_after e memory) (all_made es) × (memory_made (memory_after e memory) (all_made es) ≡ memory_of es (memory_after e memory)) = events_flat (memory_after e memory) es f.1 in
      let c = memory_both memory (made_of e) (all_made es) in
      (flat_both memory (made_of e) (all_made es) a.0 (subst (λ (m : ℕ → ℕ → L). MadeFlat m (all_made es)) (sym a.1) b.0), (let d = a.1 in let g = b.1 in cc))

module _ {L : Type 0} {H : Type 0} where
  pub made_flat : (s : Setup) (harts : Harts L H) (m : Machine L H) (w : World L) (accesses : List (Made L)) → IsReached s w → (g : Makes s harts m w accesses) → MadeFlat w.pages.memory accesses × (g.world.pages.memory ≡ memory_made w.pages.memory accesses)
  made_flat s harts m w accesses re g =
      let f = flat_run (s.nodes + 1) s.nodes s.pages s.blocks g.events w g.world re.inside (reached (s.nodes + 1) s.nodes s.pages s.blocks w re) g.runs in
      let x = events_flat w.pages.memory g.events f.0 in
      (subst (λ (y : List (Made L)). MadeFlat w.pages.memory y) g.made x.0, (let a = x.1 in let b = f.1 in let c = g.made in cc))
