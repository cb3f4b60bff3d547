-- Sharers as sets of groups, seen as functions of nodes; and the letters to all of them.
use Rattle.std.proofs.Common.{◌≡◌, ℕ, zero, suc, ◌+◌, ◌/◌, ◌<◌, Bool, true, false, cond, nat_eq, nat_lt, nat_le, not, ◌&&◌, ◌||◌, List, [], ◌∷◌, ◌++◌, length, map, arith, refl, sym, ap, ap₂, ◌∙◌}
use Rattle.std.specs.List.{filter}
use Rattle.std.specs.Ordering.{nat_cmp}
use Rattle.std.specs.Cmp.{nat_cmp_total, unsigned_tied}
use Rattle.std.specs.FinSet as set
use Rattle.std.proofs.lemmas.Bool.Decides.{nat_tests}
use Rattle.std.proofs.lemmas.List.{append-nil, length-append, map-append}
use Rattle.og_slots.specs.Count.{count}
use Rattle.og_slots.proofs.Count.{count_same}
use Rattle.og_base.specs.declared.Block.{Block}
use Rattle.og_base.specs.Groups.{group_of}
use Rattle.og_base.specs.Numbers.{below}
use Rattle.og_line.specs.declared.Line.{Line}
use Rattle.og_msg.specs.declared.Kind.{Kind}
use Rattle.og_msg.specs.declared.Kind.TheVariants.{Invalidate, UpgradeReply, ExclusiveReply}
use Rattle.og_block.specs.State.{Single, Grouped, others, is_same}
use Rattle.og_block.specs.Rows.{with_sharer}
use Rattle.og_sharers.specs.Sets.{is_other}
use Rattle.og_directory.specs.Table.{to, with_node, sharers_but, invalidating, grant}
use Rattle.og_directory.proofs.Rising.{members_below-member, members_below-other}
use Rattle.og_relate.specs.Data.{KInvalidate, Post}
use Rattle.og_relate.specs.Steps.{letter, invalidations}
use Rattle.og_relate_home.specs.Steps.{shared_by_both, grant as seen_grant}
use Rattle.og_seen.specs.Numbers.{Sizes, bit_of, sharing_of, frame_number}
use Rattle.og_seen.specs.Messages.{kind_seen, letter_seen, letters_seen}
use Rattle.og_seen.specs.Homes.{nodes_of}

-- tests that agree everywhere are one
same_tests : (f g : ℕ → Bool) → ((q : ℕ) → f q ≡ g q) → f ≡ g
same_tests f g h = λ i. λ q. h q i

-- the nodes of a node's group are those of its bit
same_bit : (n r q : ℕ) → r < n → (nat_lt q n && nat_eq (group_of n q) (group_of n r)) ≡ is_same (sharing_of n) q r
same_bit n r q low = by (nat_le n 64)
  where
    by : (c : Bool) → (nat_lt q n && nat_eq (q / cond c 1 2) (r / cond c 1 2)) ≡ is_same (cond c Single (Grouped (bit_of n))) q r
    by true = grind (arith, nat_tests)
    by false = grind (arith, nat_tests)

-- ---- sets

-- a group that is put in
put_in : (n p : ℕ) (s : set.FinSet nat_cmp) (q : ℕ) → set.contains (with_node n p s) (group_of n q) ≡ (nat_eq (group_of n q) (group_of n p) || set.contains s (group_of n q))
put_in n p s q = set.contains-insert nat_cmp_total s (group_of n p) (group_of n q) ∙ ap (λ b. b || set.contains s (group_of n q)) (unsigned_tied (group_of n q) (group_of n p))

-- S with p
pub with_node_seen : (n p : ℕ) (s : set.FinSet nat_cmp) → p < n → nodes_of n (with_node n p s) ≡ with_sharer (sharing_of n) p (nodes_of n s)
with_node_seen n p s low = same_tests (nodes_of n (with_node n p s)) (with_sharer (sharing_of n) p (nodes_of n s)) at
  where
    by : (l a b : Bool) → (l && (a || b)) ≡ cond (l && a) true (l && b)
    by true true b = refl
    by true false b = refl
    by false a b = refl

    at : (q : ℕ) → nodes_of n (with_node n p s) q ≡ with_sharer (sharing_of n) p (nodes_of n s) q
    at q = ap (λ b. nat_lt q n && b) (put_in n p s q) ∙ by (nat_lt q n) (nat_eq (group_of n q) (group_of n p)) (set.contains s (group_of n q)) ∙ ap (λ t. cond t true (nodes_of n s q)) (same_bit n p q low)

-- r alone
pub one_node_seen : (n r : ℕ) → r < n → nodes_of n (with_node n r set.empty) ≡ (λ q. is_same (sharing_of n) q r)
one_node_seen n r low = with_node_seen n r set.empty low ∙ same_tests (with_sharer (sharing_of n) r (nodes_of n set.empty)) (λ q. is_same (sharing_of n) q r) at
  where
    none : (l : Bool) → (l && false) ≡ false
    none true = refl
    none false = refl

    by : (t : Bool) → cond t true false ≡ t
    by true = refl
    by false = refl

    at : (q : ℕ) → with_sharer (sharing_of n) r (nodes_of n set.empty) q ≡ is_same (sharing_of n) q r
    at q = ap (λ b. cond (is_same (sharing_of n) q r) true b) (ap (λ b. nat_lt q n && b) (set.contains-empty nat_cmp (group_of n q)) ∙ none (nat_lt q n)) ∙ by (is_same (sharing_of n) q r)

-- an owner and a requester
pub two_nodes_seen : (n o r : ℕ) → o < n → r < n → nodes_of n (with_node n r (with_node n o set.empty)) ≡ shared_by_both (sharing_of n) o r
two_nodes_seen n o r lo lr = with_node_seen n r (with_node n o set.empty) lr ∙ ap (with_sharer (sharing_of n) r) (one_node_seen n o lo) ∙ same_tests (with_sharer (sharing_of n) r (λ q. is_same (sharing_of n) q o)) (shared_by_both (sharing_of n) o r) (λ q. by (is_same (sharing_of n) q r) (is_same (sharing_of n) q o))
  where
    by : (a b : Bool) → cond a true b ≡ cond b true a
    by true true = refl
    by true false = refl
    by false true = refl
    by false false = refl

-- ---- letters to all sharers

-- the sharers but p
other_seen : (n p : ℕ) (s : set.FinSet nat_cmp) (q : ℕ) → is_other s p n q ≡ others (nodes_of n s) p q
other_seen n p s q = by (nat_lt q n) (set.contains s (group_of n q)) (not (nat_eq q p))
  where
    by : (a b c : Bool) → (a && (b && c)) ≡ ((a && b) && c)
    by true b c = refl
    by false b c = refl

-- invalidations for p, as they are seen
abbrev sent_to : (s : Sizes) (a : ℕ) (b : Block) (p : ℕ) → List ℕ → List (Post Line)
sent_to s a b p qs = letters_seen s a (map (λ q. to q (Invalidate b p)) qs)

letters_both : (s : Sizes) (a : ℕ) (b : Block) (p : ℕ) (qs rs : List ℕ) → sent_to s a b p (qs ++ rs) ≡ sent_to s a b p qs ++ sent_to s a b p rs
letters_both s a b p qs rs = ap (letters_seen s a) (map-append (λ q. to q (Invalidate b p)) qs rs) ∙ map-append (letter_seen s a) (map (λ q. to q (Invalidate b p)) qs) (map (λ q. to q (Invalidate b p)) rs)

module _ (s : Sizes) (a : ℕ) (b : Block) (p n : ℕ) (groups : set.FinSet nat_cmp) where
  -- to the sharers below i
  sent_below : (i : ℕ) → sent_to s a b p (filter (is_other groups p n) (below i)) ≡ invalidations a (frame_number s b.frame) b.number p (nodes_of n groups) i
  unfolding below
  sent_below zero = refl
  sent_below (suc i) = by (is_other groups p n i) refl (sent_below i)
    where
      one : List (Post Line)
      one = letter a i (KInvalidate (frame_number s b.frame) b.number p) ∷ []

      by : (t : Bool) → is_other groups p n i ≡ t → sent_to s a b p (filter (is_other groups p n) (below i)) ≡ invalidations a (frame_number s b.frame) b.number p (nodes_of n groups) i →
          sent_to s a b p (filter (is_other groups p n) (below (suc i))) ≡ invalidations a (frame_number s b.frame) b.number p (nodes_of n groups) (suc i)
      by true is before =
          ap (sent_to s a b p) (members_below-member (is_other groups p n) i is) ∙ letters_both s a b p (filter (is_other groups p n) (below i)) (i ∷ [])
          ∙ ap₂ (λ (x : List (Post Line)) (t : Bool). x ++ cond t one []) before (sym is ∙ other_seen n p groups i)
      by false is before =
          ap (sent_to s a b p) (members_below-other (is_other groups p n) i is) ∙ before ∙ sym (append-nil _)
          ∙ ap (λ (t : Bool). invalidations a (frame_number s b.frame) b.number p (nodes_of n groups) i ++ cond t one []) (sym is ∙ other_seen n p groups i)

-- how many they are
counted_below : (n p : ℕ) (groups : set.FinSet nat_cmp) (i : ℕ) → length (filter (is_other groups p n) (below i)) ≡ count i (others (nodes_of n groups) p)
unfolding below
counted_below n p groups zero = refl
counted_below n p groups (suc i) = by (is_other groups p n i) refl (counted_below n p groups i)
  where
    by : (t : Bool) → is_other groups p n i ≡ t → length (filter (is_other groups p n) (below i)) ≡ count i (others (nodes_of n groups) p) → length (filter (is_other groups p n) (below (suc i))) ≡ count (suc i) (others (nodes_of n groups) p)
    by true is before =
        ap length (members_below-member (is_other groups p n) i is) ∙ length-append (filter (is_other groups p n) (below i)) (i ∷ [])
        ∙ (let sum : length (filter (is_other groups p n) (below i)) + 1 ≡ 1 + count i (others (nodes_of n groups) p) = omega arith in sum)
        ∙ ap (λ t. cond t 1 0 + count i (others (nodes_of n groups) p)) (sym is ∙ other_seen n p groups i)
    by false is before =
        ap length (members_below-other (is_other groups p n) i is) ∙ (let sum : length (filter (is_other groups p n) (below i)) ≡ 0 + count i (others (nodes_of n groups) p) = omega arith in sum)
        ∙ ap (λ t. cond t 1 0 + count i (others (nodes_of n groups) p)) (sym is ∙ other_seen n p groups i)

pub sharers_counted : (n p : ℕ) (groups : set.FinSet nat_cmp) → length (sharers_but n p groups) ≡ count n (others (nodes_of n groups) p)
unfolding sharers_but
sharers_counted n p groups = counted_below n p groups n

-- the mover is none of them
pub all_counted : (n : ℕ) (groups : set.FinSet nat_cmp) → length (sharers_but n n groups) ≡ count n (nodes_of n groups)
all_counted n groups = sharers_counted n n groups ∙ count_same n (others (nodes_of n groups) n) (nodes_of n groups) at
  where
    at : (q : ℕ) → q < n → others (nodes_of n groups) n q ≡ nodes_of n groups q
    at q low = by (nodes_of n groups q) (let other : nat_eq q n ≡ false = grind (arith, nat_tests) in other)
      where
        by : (t : Bool) → nat_eq q n ≡ false → (t && not (nat_eq q n)) ≡ t
        by true e = ap not e
        by false e = refl

-- the invalidations, and then an answer with their number
pub invalidating_seen : (s : Sizes) (a n : ℕ) (b : Block) (p : ℕ) (groups : set.FinSet nat_cmp) (answer : ℕ → Kind) (acks : ℕ) → length (sharers_but n p groups) ≡ acks →
    letters_seen s a (invalidating n b p groups answer) ≡ invalidations a (frame_number s b.frame) b.number p (nodes_of n groups) n ++ letter a p (kind_seen s (answer acks)) ∷ []
unfolding sharers_but
invalidating_seen s a n b p groups answer acks is =
    map-append (letter_seen s a) (map (λ q. to q (Invalidate b p)) (sharers_but n p groups)) (to p (answer (length (sharers_but n p groups))) ∷ [])
    ∙ ap₂ (λ (x : List (Post Line)) (k : ℕ). x ++ letter a p (kind_seen s (answer k)) ∷ []) (sent_below s a b p n groups n) is

-- the grant of an upgrade
pub grant_seen : (s : Sizes) (n : ℕ) (b : Block) (m : Line) (acks : ℕ) → kind_seen s (grant n b m acks) ≡ seen_grant (sharing_of n) (frame_number s b.frame) b.number m acks
grant_seen s n b m acks = by (nat_le n 64)
  where
    by : (c : Bool) → kind_seen s (cond (nat_eq (cond c 1 2) 1) (UpgradeReply b acks) (ExclusiveReply b m acks)) ≡ seen_grant (cond c Single (Grouped (bit_of n))) (frame_number s b.frame) b.number m acks
    by true = refl
    by false = refl
