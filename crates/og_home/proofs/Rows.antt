-- What a row of the table comes to, how many letters it has, and which messages name a block.
use Rattle.std.proofs.Common.{◌≡◌, ℕ, ◌+◌, ◌*◌, ◌<◌, ◌≤◌, Bool, true, false, cond, not, ◌&&◌, Option, None, Some, List, [], ◌∷◌, ◌++◌, length, inl, inr, refl, sym, ◌∙◌, ap, ap₂, subst, arith}
use Rattle.std.specs.Prelude.{IsSome, IfSome, MatchBool, nat_eq, slice_index_or, zero, suc}
use Rattle.std.specs.Bool.{OnTrue}
use Rattle.std.specs.List.{list_any}
use Rattle.std.specs.Ordering.{nat_cmp}
use Rattle.std.specs.FinSet as set
use Rattle.std.proofs.lemmas.List.{length-append, length-map}
use Rattle.std.proofs.lemmas.List.Sums.{length-filter, count_by-le-length}
use Rattle.std.proofs.lemmas.Bool.{false≢true, cases_eq, and_parts, and_from}
use Rattle.og_base.specs.declared.Block.{Block}
use Rattle.og_base.specs.declared.Frame.{Frame}
use Rattle.og_base.specs.Numbers.{below}
use Rattle.og_image.proofs.Pages.{below_length}
use Rattle.og_runs.specs.declared.Letter.{Letter}
use Rattle.og_runs.specs.declared.Msg.{Msg}
use Rattle.og_line.specs.declared.Line.{Line}
use Rattle.og_line.specs.Line.{zero_line}
use Rattle.og_msg.specs.Kinds.{block_of, is_from_mover}
use Rattle.og_msg.specs.declared.Kind.{Kind}
use Rattle.og_msg.specs.declared.Kind.TheVariants.{Read, ReadEx, Upgrade, ExclusiveReply, CleanFrame, Rearm}
use Rattle.og_sharers.specs.Sets.{is_other}
use Rattle.og_directory.specs.declared.entry.State.{State}
use Rattle.og_directory.specs.declared.entry.State.TheVariants.{Unowned, Shared, Exclusive, BusyShared, BusyExclusive, BusyPoison, Poison}
use Rattle.og_directory.specs.Table.{Row, row, row_of, kind_row, read_row, read_exclusive_row, upgrade_row, invalidating, sharers_but, is_sharer, grant, is_counted, is_request, is_refusal, NamesNodes}
use Rattle.og_home.specs.Home.{HomeState, served, with_block, by_row, table_row, serve_row, serve_named, serve_kind, HasNamedRow, HasKindRow, is_poison, are_poisoned}
use Rattle.og_home.specs.Kept.{KeptHome, IsHome, block_in}
use Rattle.og_home.proofs.Blocks.{block_read}

-- ------------------------------------------------------------ a row that is there

pub row_home : (home : HomeState) (b : Block) (o : Option Row) (entry : State) (line : Line) → IsSome o → IfSome o (λ r. entry ≡ r.entry) → IfSome o (λ r. line ≡ r.line) → with_block home b.frame.index b.number entry line ≡ (by_row home b o).home
row_home home b None entry line there entry_is line_is = absurd (false≢true there)
row_home home b (Some made) entry line there entry_is line_is = rw (entry_is, line_is) refl

pub row_letters : (home : HomeState) (b : Block) (o : Option Row) (old new : List (Letter Kind)) → IsSome o → IfSome o (λ r. new ≡ old ++ r.letters) → new ≡ old ++ (by_row home b o).letters
row_letters home b None old new there is = absurd (false≢true there)
row_letters home b (Some made) old new there is = is

pub row_counts : (home : HomeState) (b : Block) (o : Option Row) (kind : Kind) (counts : Bool) → IsSome o → IfSome o (λ r. counts ≡ is_counted kind r.letters) → counts ≡ is_counted kind (by_row home b o).letters
row_counts home b None kind counts there is = absurd (false≢true there)
row_counts home b (Some made) kind counts there is = is

-- ------------------------------------------------------------ what is found at a block's place

module _ {d now : KeptHome} (same : d ≡ now) (sound : IsHome now) (i k p n : ℕ) (entry : State) (line : Line) (place : p ≡ i * 32 + k) (low : k < 32) (inside : i < now.counters.rules.frames) (nodes : n ≡ d.counters.rules.nodes) (read : entry ≡ slice_index_or d.entries p entry) where
  pub room_entry : p < length now.entries
  room_entry = let all : length now.entries ≡ now.counters.rules.frames * 32 = sound.all_entries in omega arith

  pub room_line : p < length now.lines
  room_line = let all : length now.lines ≡ now.counters.rules.frames * 32 = sound.all_lines in omega arith

  pub nodes_now : n ≡ now.counters.rules.nodes
  nodes_now = nodes ∙ ap (λ d. d.counters.rules.nodes) same

  entry_found : entry ≡ block_in now.entries Unowned i k
  entry_found = block_read Unowned now.entries i k p entry place low room_entry (read ∙ ap (λ d. slice_index_or d.entries p entry) same)

  pub found_row : (msg : Msg Kind) → line ≡ slice_index_or d.lines p line → row_of n line msg entry ≡ row_of now.counters.rules.nodes (block_in now.lines zero_line i k) msg (block_in now.entries Unowned i k)
  found_row msg also_read =
      let line_found : line ≡ block_in now.lines zero_line i k = block_read zero_line now.lines i k p line place low room_line (also_read ∙ ap (λ d. slice_index_or d.lines p line) same) in
      ap (λ m. row_of m line msg entry) nodes_now ∙ ap₂ (λ l e. row_of now.counters.rules.nodes l msg e) line_found entry_found

  pub found_named : NamesNodes n entry
  found_named = subst (λ m. NamesNodes m entry) (sym nodes_now) (subst (λ e. NamesNodes now.counters.rules.nodes e) (sym entry_found) (sound.names i k))

-- ------------------------------------------------------------ the letters of a request's row are few

few_sharers : (n p : ℕ) (s : set.FinSet nat_cmp) → length (sharers_but n p s) ≤ n
unfolding sharers_but
few_sharers n p s =
    let all : length (below n) ≡ n = below_length n in
    omega (arith, length-filter (is_other s p n) (below n), count_by-le-length (is_other s p n) (below n))

few_invalidations : (n : ℕ) (b : Block) (p : ℕ) (s : set.FinSet nat_cmp) (answer : ℕ → Kind) → length (invalidating n b p s answer) ≤ n + 2
few_invalidations n b p s answer =
    let few : length (sharers_but n p s) ≤ n = few_sharers n p s in
    simp (length-append, length-map) (omega arith)

few_of : (test : Bool) (a b : Row) (n : ℕ) → length a.letters ≤ n → length b.letters ≤ n → length (cond test a b).letters ≤ n
few_of true a b n fa fb = fa
few_of false a b n fa fb = fb

few_read : (n : ℕ) (m : Line) (p : ℕ) (b : Block) (e : State) → length (read_row n m p b e).letters ≤ n + 2
few_read n m p b Unowned = omega arith
few_read n m p b (Shared s) = omega arith
few_read n m p b (Exclusive q) = few_of (nat_eq q p) _ _ (n + 2) (omega arith) (omega arith)
few_read n m p b (BusyShared q r) = omega arith
few_read n m p b (BusyExclusive q r t) = omega arith
few_read n m p b (BusyPoison q) = omega arith
few_read n m p b Poison = omega arith

few_read_exclusive : (n : ℕ) (m : Line) (p : ℕ) (b : Block) (e : State) → length (read_exclusive_row n m p b e).letters ≤ n + 2
few_read_exclusive n m p b Unowned = omega arith
few_read_exclusive n m p b (Shared s) = few_invalidations n b p s (λ k. ExclusiveReply b m k)
few_read_exclusive n m p b (Exclusive q) = few_of (nat_eq q p) _ _ (n + 2) (omega arith) (omega arith)
few_read_exclusive n m p b (BusyShared q r) = omega arith
few_read_exclusive n m p b (BusyExclusive q r t) = omega arith
few_read_exclusive n m p b (BusyPoison q) = omega arith
few_read_exclusive n m p b Poison = omega arith

-- no more letters than that, if there is a row
abbrev Few : ℕ → Option Row → Type 0
Few n o = IfSome o (λ r. length r.letters ≤ n)

few_shared : (test : Bool) (a b : Row) (n : ℕ) → length a.letters ≤ n → length b.letters ≤ n → Few n (cond test (Some a) (Some b))
few_shared true a b n fa fb = fa
few_shared false a b n fa fb = fb

few_exclusive : (test : Bool) (b : Row) (n : ℕ) → length b.letters ≤ n → Few n (cond test None (Some b))
few_exclusive true b n fb = tt
few_exclusive false b n fb = fb

few_upgrade : (n : ℕ) (m : Line) (p : ℕ) (b : Block) (e : State) → Few (n + 2) (upgrade_row n m p b e)
few_upgrade n m p b Unowned = omega arith
few_upgrade n m p b (Shared s) = few_shared (is_sharer n p s) _ _ (n + 2) (few_invalidations n b p s (grant n b m)) (omega arith)
few_upgrade n m p b (Exclusive q) = few_exclusive (nat_eq q p) _ (n + 2) (omega arith)
few_upgrade n m p b (BusyShared q r) = omega arith
few_upgrade n m p b (BusyExclusive q r t) = omega arith
few_upgrade n m p b (BusyPoison q) = omega arith
few_upgrade n m p b Poison = omega arith

few_requests : (n : ℕ) (m : Line) (p : ℕ) (kind : Kind) (e : State) → is_request kind ≡ true → Few (n + 2) (kind_row n m p kind e)
few_requests n m p (Read b) e request = few_read n m p b e
few_requests n m p (ReadEx b) e request = few_read_exclusive n m p b e
few_requests n m p (Upgrade b) e request = few_upgrade n m p b e
few_requests n m p _ e request = absurd (false≢true request)

few_by_row : (home : HomeState) (b : Block) (o : Option Row) (n : ℕ) → Few n o → length (by_row home b o).letters ≤ n
few_by_row home b None n few = omega arith
few_by_row home b (Some made) n few = few

counted_request : (request refused : Bool) → (request && not refused) ≡ true → request ≡ true
counted_request true refused counted = refl
counted_request false refused counted = absurd (false≢true counted)

pub few_letters : (home : HomeState) (b : Block) (msg : Msg Kind) → is_counted msg.kind (serve_row home b msg).letters ≡ true → length (serve_row home b msg).letters ≤ home.rules.nodes + 2
unfolding serve_row
few_letters home b msg counted =
    few_by_row home b (table_row home b msg) (home.rules.nodes + 2)
    (few_requests home.rules.nodes (home.line b.frame.index b.number) msg.id.sender msg.kind (home.entry b.frame.index b.number) (counted_request (is_request msg.kind) (list_any is_refusal (by_row home b (table_row home b msg)).letters) counted))

-- a request that counts is a node's
pub counted_kind : (kind : Kind) (letters : List (Letter Kind)) → is_counted kind letters ≡ true → is_request kind ≡ true
counted_kind kind letters counted = counted_request (is_request kind) (list_any is_refusal letters) counted

-- ------------------------------------------------------------ messages that name a block

-- a message of any other kind is served by the block that it names
pub serve_other : (home : HomeState) (msg : Msg Kind) (kind : Kind) → ((f : Frame) → kind ≡ CleanFrame f → ⊥) → ((f : Frame) → kind ≡ Rearm f → ⊥) → serve_kind home msg kind ≡ serve_named home msg (block_of kind)
serve_other home msg (CleanFrame f) clean rearm = absurd (clean f refl)
serve_other home msg (Rearm f) clean rearm = absurd (rearm f refl)
serve_other home msg _ clean rearm = refl

-- and has the row of that block
pub row_other : (home : HomeState) (msg : Msg Kind) (kind : Kind) → ((f : Frame) → kind ≡ CleanFrame f → ⊥) → ((f : Frame) → kind ≡ Rearm f → ⊥) → HasKindRow home msg kind ≡ HasNamedRow home msg (block_of kind)
row_other home msg (CleanFrame f) clean rearm = absurd (clean f refl)
row_other home msg (Rearm f) clean rearm = absurd (rearm f refl)
row_other home msg _ clean rearm = refl

-- what holds where a test does
pub when_true : {P : Type 0} (test : Bool) → (test ≡ true → P) → OnTrue test P
when_true true holds = holds refl
when_true false holds = tt

-- a request is a node's
pub request_sender : (n sender : ℕ) (kind : Kind) → is_request kind ≡ true → MatchBool (is_from_mover kind) (sender ≡ n) (sender < n) → sender < n
request_sender n sender (Read b) request from = from
request_sender n sender (ReadEx b) request from = from
request_sender n sender (Upgrade b) request from = from
request_sender n sender _ request from = absurd (false≢true request)

-- ------------------------------------------------------------ poisoned frames

poison_is : (entry : State) → is_poison entry ≡ true → entry ≡ Poison
poison_is Poison is = refl
poison_is _ is = absurd (false≢true is)

pub poisoned_all : (entry : ℕ → State) (n : ℕ) → are_poisoned entry n ≡ true → (number : ℕ) → number < n → entry number ≡ Poison
unfolding are_poisoned
poisoned_all entry zero all number low = absurd (omega arith)
poisoned_all entry (suc n) all number low = elim (cases_eq number n) [
  | inl same ↦ rw same (poison_is (entry n) (and_parts (are_poisoned entry n) (is_poison (entry n)) all).1)
  | inr other ↦ poisoned_all entry n (and_parts (are_poisoned entry n) (is_poison (entry n)) all).0 number (omega arith)
]

pub all_poisoned : (entry : ℕ → State) (n : ℕ) → ((number : ℕ) → number < n → entry number ≡ Poison) → are_poisoned entry n ≡ true
unfolding are_poisoned
all_poisoned entry zero all = refl
all_poisoned entry (suc n) all = and_from (are_poisoned entry n) (is_poison (entry n)) (all_poisoned entry n (λ number low. all number (omega arith))) (ap is_poison (all n (omega arith)))
