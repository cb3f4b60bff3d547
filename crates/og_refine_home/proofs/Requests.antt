-- The home's rows for the requests of nodes are those of the machine of functions, entry by entry.
use Rattle.std.proofs.Common.{◌≡◌, ℕ, ◌<◌, Bool, true, false, cond, nat_eq, ◌&&◌, List, [], ◌∷◌, ◌++◌, None, Some, option_map, refl, sym, ap, ◌∙◌}
use Rattle.std.specs.Ordering.{nat_cmp}
use Rattle.std.specs.FinSet as set
use Rattle.std.proofs.lemmas.Bool.{lt-ltb}
use Rattle.og_slots.specs.Count.{count}
use Rattle.og_base.specs.declared.Block.{Block}
use Rattle.og_line.specs.declared.Line.{Line}
use Rattle.og_runs.specs.declared.Letter.{Letter}
use Rattle.og_msg.specs.declared.Kind.{Kind}
use Rattle.og_msg.specs.declared.Kind.TheVariants.{SharedReply, SpecReply, ExclusiveReply, Nak, PoisonError, InterveneShared, InterveneEx}
use Rattle.og_block.specs.State.{others}
use Rattle.og_directory.specs.declared.entry.State.{State}
use Rattle.og_directory.specs.declared.entry.State.TheVariants.{Unowned, Shared, Exclusive, BusyShared, BusyExclusive, BusyPoison, Poison}
use Rattle.og_directory.specs.Table.{Row, row, to, with_node, is_sharer, invalidating, grant, read_row, read_exclusive_row, upgrade_row}
use Rattle.og_home.specs.Home.{HomeState, Served, with_block}
use Rattle.og_relate.specs.Data.{KSharedReply, KSpecReply, KExclusiveReply, KNak, KInterveneShared, KInterveneEx, Post, HShared, HExclusive, HBusyShared, HBusyExclusive, HomeSide}
use Rattle.og_relate.specs.Steps.{Answer, letter, with_entry, with_block as with_seen_block, invalidations, serve_read, serve_read_exclusive}
use Rattle.og_relate_home.specs.Steps.{grant as seen_grant, serve_upgrade}
use Rattle.og_seen.specs.Numbers.{Sizes, sharing_of, setup_seen, frame_number}
use Rattle.og_seen.specs.Messages.{letters_seen}
use Rattle.og_seen.specs.Homes.{nodes_of, entry_seen, home_seen}
use Rattle.og_refine_home.proofs.Places.{IsAt, line_here, block_seen, entry_alone_seen, nothing_seen}
use Rattle.og_refine_home.proofs.Sharers.{with_node_seen, sharers_counted, invalidating_seen, grant_seen}

-- what is seen of a home and its letters; and of a row of its table
abbrev pub seen_of : Sizes → (p : ℕ) → Served → Answer Line
seen_of s p x = (home_seen s x.home, letters_seen s p x.letters)

abbrev pub row_seen : Sizes → (p : ℕ) → HomeState → Block → Row → Answer Line
row_seen s p x b r = (home_seen s (with_block x b.frame.index b.number r.entry r.line), letters_seen s p r.letters)

-- a side and messages
abbrev pub answer : HomeSide Line → List (Post Line) → Answer Line
answer h posts = (h, posts)

-- equal by parts
pub same_answer : {g h : HomeSide Line} {xs ys : List (Post Line)} → g ≡ h → xs ≡ ys → answer g xs ≡ answer h ys
same_answer p q = λ i. (p i, q i)

module _ (s : Sizes) (p : ℕ) (x : HomeState) (b : Block) (own : IsAt s x b.frame) where
  abbrev seen : HomeSide Line
  seen = home_seen s x

  abbrev frame : ℕ
  frame = frame_number s b.frame

  -- the home's line of the block
  abbrev line : Line
  line = x.line b.frame.index b.number

  -- ---- a row that changes the entry; nothing; entry and line

  pub entry_row : (e : State) (letters : List (Letter Kind)) (posts : List (Post Line)) → posts ≡ letters_seen s p letters → answer (with_entry seen frame b.number (entry_seen s.nodes e)) posts ≡ row_seen s p x b (row e line letters)
  entry_row e letters posts same = same_answer (sym (entry_alone_seen s x b.frame own b.number e)) same

  pub still_row : (e : State) (letters : List (Letter Kind)) (posts : List (Post Line)) → x.entry b.frame.index b.number ≡ e → posts ≡ letters_seen s p letters → answer seen posts ≡ row_seen s p x b (row e line letters)
  still_row e letters posts is same = same_answer (sym (nothing_seen s x b.frame own b.number e is)) same

  pub block_row : (e : State) (l : Line) (letters : List (Letter Kind)) (posts : List (Post Line)) → posts ≡ letters_seen s p letters → answer (with_seen_block seen frame b.number (entry_seen s.nodes e) l) posts ≡ row_seen s p x b (row e l letters)
  block_row e l letters posts same = same_answer (sym (block_seen s x b.frame own b.number e l)) same

  -- ---- the rows

  -- the line that is seen
  pub line_is : seen.line frame b.number ≡ line
  line_is = line_here s x b.frame own b.number

  pub read_seen : (q : ℕ) → q < s.nodes → (e : State) → x.entry b.frame.index b.number ≡ e → serve_read (setup_seen s) p seen frame b.number q (entry_seen s.nodes e) ≡ row_seen s p x b (read_row s.nodes line q b e)
  read_seen q low Unowned is = entry_row (Exclusive q) (to q (ExclusiveReply b line 0) ∷ []) _ (ap (λ l. letter p q (KExclusiveReply frame b.number l 0) ∷ []) line_is)
  read_seen q low (Shared t) is =
      ap (λ u. answer (with_entry seen frame b.number (HShared u)) (letter p q (KSharedReply frame b.number (seen.line frame b.number)) ∷ [])) (sym (with_node_seen s.nodes q t low))
      ∙ entry_row (Shared (with_node s.nodes q t)) (to q (SharedReply b line) ∷ []) _ (ap (λ l. letter p q (KSharedReply frame b.number l) ∷ []) line_is)
  read_seen q low (Exclusive o) is = by (nat_eq o q)
    where
      by : (t : Bool) → cond t (answer seen (letter p q (KExclusiveReply frame b.number (seen.line frame b.number) 0) ∷ [])) (answer (with_entry seen frame b.number (HBusyShared o q)) (letter p o (KInterveneShared frame b.number q) ∷ letter p q (KSpecReply frame b.number (seen.line frame b.number)) ∷ []))
          ≡ row_seen s p x b (cond t (row (Exclusive o) line (to q (ExclusiveReply b line 0) ∷ [])) (row (BusyShared o q) line (to o (InterveneShared b q) ∷ to q (SpecReply b line) ∷ [])))
      by true = still_row (Exclusive o) (to q (ExclusiveReply b line 0) ∷ []) _ is (ap (λ l. letter p q (KExclusiveReply frame b.number l 0) ∷ []) line_is)
      by false = entry_row (BusyShared o q) (to o (InterveneShared b q) ∷ to q (SpecReply b line) ∷ []) _ (ap (λ l. letter p o (KInterveneShared frame b.number q) ∷ letter p q (KSpecReply frame b.number l) ∷ []) line_is)
  read_seen q low (BusyShared o r) is = still_row (BusyShared o r) (to q (Nak b) ∷ []) _ is refl
  read_seen q low (BusyExclusive o r t) is = still_row (BusyExclusive o r t) (to q (Nak b) ∷ []) _ is refl
  read_seen q low (BusyPoison o) is = still_row (BusyPoison o) (to q (Nak b) ∷ []) _ is refl
  read_seen q low Poison is = still_row Poison (to q (PoisonError b) ∷ []) _ is refl

  pub read_exclusive_seen : (q : ℕ) (e : State) → x.entry b.frame.index b.number ≡ e → serve_read_exclusive (setup_seen s) p seen frame b.number q (entry_seen s.nodes e) ≡ row_seen s p x b (read_exclusive_row s.nodes line q b e)
  read_exclusive_seen q Unowned is = entry_row (Exclusive q) (to q (ExclusiveReply b line 0) ∷ []) _ (ap (λ l. letter p q (KExclusiveReply frame b.number l 0) ∷ []) line_is)
  read_exclusive_seen q (Shared t) is =
      entry_row (Exclusive q) (invalidating s.nodes b q t (λ k. ExclusiveReply b line k)) _
      (ap (λ l. invalidations p frame b.number q (nodes_of s.nodes t) s.nodes ++ letter p q (KExclusiveReply frame b.number l (count s.nodes (others (nodes_of s.nodes t) q))) ∷ []) line_is
      ∙ sym (invalidating_seen s p s.nodes b q t (λ k. ExclusiveReply b line k) (count s.nodes (others (nodes_of s.nodes t) q)) (sharers_counted s.nodes q t)))
  read_exclusive_seen q (Exclusive o) is = by (nat_eq o q)
    where
      by : (t : Bool) → cond t (answer seen (letter p q (KExclusiveReply frame b.number (seen.line frame b.number) 0) ∷ [])) (answer (with_entry seen frame b.number (HBusyExclusive o q false)) (letter p o (KInterveneEx frame b.number q) ∷ letter p q (KSpecReply frame b.number (seen.line frame b.number)) ∷ []))
          ≡ row_seen s p x b (cond t (row (Exclusive o) line (to q (ExclusiveReply b line 0) ∷ [])) (row (BusyExclusive o q false) line (to o (InterveneEx b q) ∷ to q (SpecReply b line) ∷ [])))
      by true = still_row (Exclusive o) (to q (ExclusiveReply b line 0) ∷ []) _ is (ap (λ l. letter p q (KExclusiveReply frame b.number l 0) ∷ []) line_is)
      by false = entry_row (BusyExclusive o q false) (to o (InterveneEx b q) ∷ to q (SpecReply b line) ∷ []) _ (ap (λ l. letter p o (KInterveneEx frame b.number q) ∷ letter p q (KSpecReply frame b.number l) ∷ []) line_is)
  read_exclusive_seen q (BusyShared o r) is = still_row (BusyShared o r) (to q (Nak b) ∷ []) _ is refl
  read_exclusive_seen q (BusyExclusive o r t) is = still_row (BusyExclusive o r t) (to q (Nak b) ∷ []) _ is refl
  read_exclusive_seen q (BusyPoison o) is = still_row (BusyPoison o) (to q (Nak b) ∷ []) _ is refl
  read_exclusive_seen q Poison is = still_row Poison (to q (PoisonError b) ∷ []) _ is refl

  -- a sharer's upgrade is granted
  granted_seen : (q : ℕ) (t : set.FinSet nat_cmp) →
      answer (with_entry seen frame b.number (HExclusive q)) (invalidations p frame b.number q (nodes_of s.nodes t) s.nodes ++ letter p q (seen_grant (sharing_of s.nodes) frame b.number (seen.line frame b.number) (count s.nodes (others (nodes_of s.nodes t) q))) ∷ [])
      ≡ row_seen s p x b (row (Exclusive q) line (invalidating s.nodes b q t (grant s.nodes b line)))
  granted_seen q t =
      entry_row (Exclusive q) (invalidating s.nodes b q t (grant s.nodes b line)) _
      (ap (λ l. invalidations p frame b.number q (nodes_of s.nodes t) s.nodes ++ letter p q (seen_grant (sharing_of s.nodes) frame b.number l (count s.nodes (others (nodes_of s.nodes t) q))) ∷ []) line_is
      ∙ ap (λ kind. invalidations p frame b.number q (nodes_of s.nodes t) s.nodes ++ letter p q kind ∷ []) (sym (grant_seen s s.nodes b line (count s.nodes (others (nodes_of s.nodes t) q))))
      ∙ sym (invalidating_seen s p s.nodes b q t (grant s.nodes b line) (count s.nodes (others (nodes_of s.nodes t) q)) (sharers_counted s.nodes q t)))

  pub upgrade_seen : (q : ℕ) → q < s.nodes → (e : State) → x.entry b.frame.index b.number ≡ e → serve_upgrade (setup_seen s) p seen frame b.number q (entry_seen s.nodes e) ≡ option_map (row_seen s p x b) (upgrade_row s.nodes line q b e)
  upgrade_seen q low Unowned is = ap Some (still_row Unowned (to q (Nak b) ∷ []) _ is refl)
  upgrade_seen q low (Shared t) is = ap (λ t. Some (cond t yes no)) (ap (λ b. b && is_sharer s.nodes q t) (lt-ltb q s.nodes low)) ∙ by (is_sharer s.nodes q t)
    where
      yes : Answer Line
      yes = (with_entry seen frame b.number (HExclusive q), invalidations p frame b.number q (nodes_of s.nodes t) s.nodes ++ letter p q (seen_grant (sharing_of s.nodes) frame b.number (seen.line frame b.number) (count s.nodes (others (nodes_of s.nodes t) q))) ∷ [])

      no : Answer Line
      no = (seen, letter p q (KNak frame b.number) ∷ [])

      by : (u : Bool) → Some (cond u yes no) ≡ option_map (row_seen s p x b) (cond u (Some (row (Exclusive q) line (invalidating s.nodes b q t (grant s.nodes b line)))) (Some (row (Shared t) line (to q (Nak b) ∷ []))))
      by true = ap Some (granted_seen q t)
      by false = ap Some (still_row (Shared t) (to q (Nak b) ∷ []) _ is refl)
  upgrade_seen q low (Exclusive o) is = by (nat_eq o q)
    where
      by : (t : Bool) → cond t None (Some (answer seen (letter p q (KNak frame b.number) ∷ []))) ≡ option_map (row_seen s p x b) (cond t None (Some (row (Exclusive o) line (to q (Nak b) ∷ []))))
      by true = refl
      by false = ap Some (still_row (Exclusive o) (to q (Nak b) ∷ []) _ is refl)
  upgrade_seen q low (BusyShared o r) is = ap Some (still_row (BusyShared o r) (to q (Nak b) ∷ []) _ is refl)
  upgrade_seen q low (BusyExclusive o r t) is = ap Some (still_row (BusyExclusive o r t) (to q (Nak b) ∷ []) _ is refl)
  upgrade_seen q low (BusyPoison o) is = ap Some (still_row (BusyPoison o) (to q (Nak b) ∷ []) _ is refl)
  upgrade_seen q low Poison is = ap Some (still_row Poison (to q (PoisonError b) ∷ []) _ is refl)
