-- Letters to all sharers, and the answer after them.
use Rattle.std.specs.Prelude.{◌≡◌, ℕ, Bool, true, false, not, cond, nat_eq, ◌&&◌, Option, None, Some, IfSome, List, [], ◌∷◌, ◌++◌, map, length, refl}
use Rattle.std.specs.List.{list_any}
use Rattle.std.specs.Ordering.{nat_cmp}
use Rattle.std.specs.FinSet as set
use Rattle.std.proofs.Common.{sym, ap, subst, ◌∙◌}
use Rattle.og_base.specs.declared.Block.{Block}
use Rattle.og_runs.specs.declared.Letter.{Letter}
use Rattle.og_msg.specs.declared.Kind.{Kind}
use Rattle.og_msg.specs.declared.Kind.TheVariants.{Read, ReadEx, Upgrade, Invalidate, Nak, UpgradeReply, ExclusiveReply}
use Rattle.og_line.specs.declared.Line.{Line}
use Rattle.og_base.specs.Groups.{group_size}
use Rattle.og_directory.specs.declared.entry.State.{State}
use Rattle.og_directory.specs.declared.entry.State.TheVariants.{Shared, Exclusive}
use Rattle.og_directory.specs.Table.{Row, to, row, is_refusal, is_request, is_counted, is_sharer, sharers_but, invalidating, grant, read_exclusive_row, upgrade_row}

-- no invalidation is a refusal
none_refused : (b : Block) (p : ℕ) (qs : List ℕ) (l : Letter Kind) → list_any is_refusal (map (λ q. to q (Invalidate b p)) qs ++ l ∷ []) ≡ list_any is_refusal (l ∷ [])
none_refused b p [] l = refl
none_refused b p (q ∷ qs) l = none_refused b p qs l

pub is_refusal-invalidating : (n : ℕ) (b : Block) (p : ℕ) (s : set.FinSet nat_cmp) (answer : ℕ → Kind) →
    list_any is_refusal (invalidating n b p s answer) ≡ list_any is_refusal (to p (answer (length (sharers_but n p s))) ∷ [])
is_refusal-invalidating n b p s answer = none_refused b p (sharers_but n p s) _

-- a read-exclusive of a shared block counts
pub counts-read_exclusive : (n : ℕ) (m : Line) (p : ℕ) (b : Block) (e : State) (s : set.FinSet nat_cmp) → e ≡ Shared s →
    true ≡ not (list_any is_refusal (read_exclusive_row n m p b e).letters)
counts-read_exclusive n m p b e s is =
    subst (λ (x : State). true ≡ not (list_any is_refusal (read_exclusive_row n m p b x).letters)) (sym is)
    (sym (ap not (is_refusal-invalidating n b p s (λ k. ExclusiveReply b m k))))

granted_counts : (n : ℕ) (b : Block) (m : Line) (p k : ℕ) → list_any is_refusal (to p (grant n b m k) ∷ []) ≡ false
granted_counts n b m p k = at (nat_eq (group_size n) 1)
  where
    at : (one : Bool) → list_any is_refusal (to p (cond one (UpgradeReply b k) (ExclusiveReply b m k)) ∷ []) ≡ false
    at true = refl
    at false = refl

-- an upgrade that is granted counts
pub counts-upgrade : (n : ℕ) (m : Line) (p : ℕ) (b : Block) (e : State) (s : set.FinSet nat_cmp) → e ≡ Shared s → is_sharer n p s ≡ true →
    IfSome (upgrade_row n m p b e) (λ row. true ≡ not (list_any is_refusal row.letters))
counts-upgrade n m p b e s is sharer =
    subst (λ (x : State). IfSome (upgrade_row n m p b x) (λ row. true ≡ not (list_any is_refusal row.letters))) (sym is)
    (subst (λ (y : Bool). IfSome (cond y (Some (row (Exclusive p) m (invalidating n b p s (grant n b m)))) (Some (row (Shared s) m (to p (Nak b) ∷ [])))) (λ row. true ≡ not (list_any is_refusal row.letters))) (sym sharer)
    (sym (ap not (is_refusal-invalidating n b p s (grant n b m) ∙ granted_counts n b m p (length (sharers_but n p s))))))

-- a message of any other kind is no request
pub no_request : (k : Kind) → ((b : Block) → k ≡ Read b → ⊥) → ((b : Block) → k ≡ ReadEx b → ⊥) → ((b : Block) → k ≡ Upgrade b → ⊥) → is_request k ≡ false
no_request (Read b) r x u = absurd (r b refl)
no_request (ReadEx b) r x u = absurd (x b refl)
no_request (Upgrade b) r x u = absurd (u b refl)
no_request _ r x u = refl

-- and doesn't count
pub no_request-counts : (k : Kind) (o : Option Row) → is_request k ≡ false → IfSome o (λ row. false ≡ is_counted k row.letters)
no_request-counts k None is = tt
no_request-counts k (Some row) is = sym (ap (λ b. b && not (list_any is_refusal row.letters)) is)
