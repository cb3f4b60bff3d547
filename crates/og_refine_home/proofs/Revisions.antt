-- The home's rows for write-backs, for what owners say and for the mover's messages about a block are those of the machine of functions,
-- entry by entry.
use Rattle.std.proofs.Common.{◌≡◌, ℕ, Bool, true, false, cond, nat_eq, [], ◌∷◌, ◌++◌, None, Some, option_map, arith, refl, sym, ap, ◌∙◌}
use Rattle.std.proofs.lemmas.Bool.Decides.{nat_tests}
use Rattle.std.specs.FinSet as set
use Rattle.og_slots.specs.Count.{count}
use Rattle.og_base.specs.declared.Block.{Block}
use Rattle.og_line.specs.declared.Line.{Line}
use Rattle.og_msg.specs.declared.Kind.TheVariants.{Nak, WbAck, WbBusyAck, IntervenePoison, SharedResponse, ExclusiveResponse, PoisonReply, CopyDone}
use Rattle.og_block.specs.State.{is_same}
use Rattle.og_directory.specs.declared.entry.State.{State}
use Rattle.og_directory.specs.declared.entry.State.TheVariants.{Unowned, Shared, Exclusive, BusyShared, BusyExclusive, BusyPoison, Poison}
use Rattle.og_directory.specs.Table.{NamesNodes, row, to, with_node, invalidating, write_back_row, sharing_row, transfer_row, poisoned_row, poison_row, copy_row}
use Rattle.og_home.specs.Home.{HomeState}
use Rattle.og_relate.specs.Data.{KWbAck, KWbBusyAck, KSharedResponse, KExclusiveResponse, KPoisonReply, HUnowned, HShared, HExclusive, HBusyExclusive, HPoison, HomeSide}
use Rattle.og_relate.specs.Steps.{letter, with_entry, with_block as with_seen_block, invalidations, serve_back}
use Rattle.og_relate_home.specs.Steps.{shared_by_both, serve_sharing_write_back, serve_sharing_transfer, serve_dirty_transfer, serve_poison_back, serve_poison_clean, serve_poison_read, serve_copy_in}
use Rattle.og_seen.specs.Numbers.{Sizes, sharing_of, setup_seen, frame_number}
use Rattle.og_seen.specs.Homes.{nodes_of, entry_seen, home_seen}
use Rattle.og_refine_home.proofs.Places.{IsAt}
use Rattle.og_refine_home.proofs.Sharers.{one_node_seen, two_nodes_seen, all_counted, invalidating_seen}
use Rattle.og_refine_home.proofs.Requests.{answer, row_seen, entry_row, still_row, block_row, line_is}

module _ (s : Sizes) (p : ℕ) (x : HomeState) (b : Block) (own : IsAt s x b.frame) where
  abbrev seen : HomeSide Line
  seen = home_seen s x

  abbrev frame : ℕ
  frame = frame_number s b.frame

  abbrev line : Line
  line = x.line b.frame.index b.number

  -- ---- write-backs

  pub write_back_seen : (q : ℕ) (l : Line) (e : State) → NamesNodes s.nodes e → serve_back (setup_seen s) p seen frame b.number q l (entry_seen s.nodes e) ≡ option_map (row_seen s p x b) (write_back_row s.nodes q b l e)
  write_back_seen q l Unowned names = refl
  write_back_seen q l (Shared t) names = refl
  write_back_seen q l (Exclusive o) names = by (nat_eq o q)
    where
      by : (t : Bool) → cond t (Some (answer (with_seen_block seen frame b.number HUnowned l) (letter p q (KWbAck frame b.number) ∷ []))) None ≡ option_map (row_seen s p x b) (cond t (Some (row Unowned l (to q (WbAck b) ∷ []))) None)
      by true = ap Some (block_row s p x b own Unowned l (to q (WbAck b) ∷ []) _ refl)
      by false = refl
  write_back_seen q l (BusyShared o r) names = by (nat_eq o q)
    where
      by : (t : Bool) → cond t (Some (answer (with_seen_block seen frame b.number (HShared (λ u. is_same (sharing_of s.nodes) u r)) l) (letter p r (KSharedResponse frame b.number l) ∷ letter p q (KWbBusyAck frame b.number) ∷ []))) None
          ≡ option_map (row_seen s p x b) (cond t (Some (row (Shared (with_node s.nodes r set.empty)) l (to r (SharedResponse b l) ∷ to q (WbBusyAck b) ∷ []))) None)
      by true =
          ap (λ u. Some (answer (with_seen_block seen frame b.number (HShared u) l) (letter p r (KSharedResponse frame b.number l) ∷ letter p q (KWbBusyAck frame b.number) ∷ []))) (sym (one_node_seen s.nodes r names.1))
          ∙ ap Some (block_row s p x b own (Shared (with_node s.nodes r set.empty)) l (to r (SharedResponse b l) ∷ to q (WbBusyAck b) ∷ []) _ refl)
      by false = refl
  write_back_seen q l (BusyExclusive o r false) names = by (nat_eq o q) (nat_eq r q) refl
    where
      by : (t u : Bool) → nat_eq r q ≡ u →
          cond t (Some (answer (with_seen_block seen frame b.number (HExclusive r) l) (letter p r (KExclusiveResponse frame b.number l) ∷ letter p q (KWbBusyAck frame b.number) ∷ []))) (cond u (Some (answer (with_seen_block seen frame b.number (HBusyExclusive o q true) l) (letter p q (KWbAck frame b.number) ∷ []))) None)
          ≡ option_map (row_seen s p x b) (cond t (Some (row (Exclusive r) l (to r (ExclusiveResponse b l) ∷ to q (WbBusyAck b) ∷ []))) (cond u (Some (row (BusyExclusive o r true) l (to q (WbAck b) ∷ []))) None))
      by true u is = ap Some (block_row s p x b own (Exclusive r) l (to r (ExclusiveResponse b l) ∷ to q (WbBusyAck b) ∷ []) _ refl)
      by false true is =
          ap (λ v. Some (answer (with_seen_block seen frame b.number (HBusyExclusive o v true) l) (letter p q (KWbAck frame b.number) ∷ []))) (let same : q ≡ r = grind (arith, nat_tests) in same)
          ∙ ap Some (block_row s p x b own (BusyExclusive o r true) l (to q (WbAck b) ∷ []) _ refl)
      by false false is = refl
  write_back_seen q l (BusyExclusive o r true) names = refl
  write_back_seen q l (BusyPoison o) names = by (nat_eq o q)
    where
      by : (t : Bool) → cond t (Some (answer (with_seen_block seen frame b.number HPoison l) (letter p s.nodes (KPoisonReply frame b.number l 0) ∷ letter p q (KWbBusyAck frame b.number) ∷ []))) None
          ≡ option_map (row_seen s p x b) (cond t (Some (row Poison l (to s.nodes (PoisonReply b l 0) ∷ to q (WbBusyAck b) ∷ []))) None)
      by true = ap Some (block_row s p x b own Poison l (to s.nodes (PoisonReply b l 0) ∷ to q (WbBusyAck b) ∷ []) _ refl)
      by false = refl
  write_back_seen q l Poison names = refl

  -- ---- an owner shares the block, with its line or without

  pub sharing_write_back_seen : (q : ℕ) (l : Line) (e : State) → NamesNodes s.nodes e → serve_sharing_write_back (setup_seen s) seen frame b.number q l (entry_seen s.nodes e) ≡ option_map (row_seen s p x b) (sharing_row s.nodes q l e)
  sharing_write_back_seen q l (BusyShared o r) names = by (nat_eq o q)
    where
      by : (t : Bool) → cond t (Some (answer (with_seen_block seen frame b.number (HShared (shared_by_both (sharing_of s.nodes) o r)) l) [])) None ≡ option_map (row_seen s p x b) (cond t (Some (row (Shared (with_node s.nodes r (with_node s.nodes o set.empty))) l [])) None)
      by true =
          ap (λ u. Some (answer (with_seen_block seen frame b.number (HShared u) l) [])) (sym (two_nodes_seen s.nodes o r names.0 names.1))
          ∙ ap Some (block_row s p x b own (Shared (with_node s.nodes r (with_node s.nodes o set.empty))) l [] _ refl)
      by false = refl
  sharing_write_back_seen q l Unowned names = refl
  sharing_write_back_seen q l (Shared t) names = refl
  sharing_write_back_seen q l (Exclusive o) names = refl
  sharing_write_back_seen q l (BusyExclusive o r t) names = refl
  sharing_write_back_seen q l (BusyPoison o) names = refl
  sharing_write_back_seen q l Poison names = refl

  pub sharing_transfer_seen : (q : ℕ) (e : State) → NamesNodes s.nodes e → serve_sharing_transfer (setup_seen s) seen frame b.number q (entry_seen s.nodes e) ≡ option_map (row_seen s p x b) (sharing_row s.nodes q line e)
  sharing_transfer_seen q (BusyShared o r) names = by (nat_eq o q)
    where
      by : (t : Bool) → cond t (Some (answer (with_entry seen frame b.number (HShared (shared_by_both (sharing_of s.nodes) o r))) [])) None ≡ option_map (row_seen s p x b) (cond t (Some (row (Shared (with_node s.nodes r (with_node s.nodes o set.empty))) line [])) None)
      by true =
          ap (λ u. Some (answer (with_entry seen frame b.number (HShared u)) [])) (sym (two_nodes_seen s.nodes o r names.0 names.1))
          ∙ ap Some (entry_row s p x b own (Shared (with_node s.nodes r (with_node s.nodes o set.empty))) [] _ refl)
      by false = refl
  sharing_transfer_seen q Unowned names = refl
  sharing_transfer_seen q (Shared t) names = refl
  sharing_transfer_seen q (Exclusive o) names = refl
  sharing_transfer_seen q (BusyExclusive o r t) names = refl
  sharing_transfer_seen q (BusyPoison o) names = refl
  sharing_transfer_seen q Poison names = refl

  -- ---- an owner gives the block away

  pub dirty_transfer_seen : (q : ℕ) (e : State) → serve_dirty_transfer seen frame b.number q (entry_seen s.nodes e) ≡ option_map (row_seen s p x b) (transfer_row line q e)
  dirty_transfer_seen q (BusyExclusive o r false) = by (nat_eq o q)
    where
      by : (t : Bool) → cond t (Some (answer (with_entry seen frame b.number (HExclusive r)) [])) None ≡ option_map (row_seen s p x b) (cond t (Some (row (Exclusive r) line [])) None)
      by true = ap Some (entry_row s p x b own (Exclusive r) [] _ refl)
      by false = refl
  dirty_transfer_seen q (BusyExclusive o r true) = by (nat_eq o q)
    where
      by : (t : Bool) → cond t (Some (answer (with_entry seen frame b.number HUnowned) [])) None ≡ option_map (row_seen s p x b) (cond t (Some (row Unowned line [])) None)
      by true = ap Some (entry_row s p x b own Unowned [] _ refl)
      by false = refl
  dirty_transfer_seen q Unowned = refl
  dirty_transfer_seen q (Shared t) = refl
  dirty_transfer_seen q (Exclusive o) = refl
  dirty_transfer_seen q (BusyShared o r) = refl
  dirty_transfer_seen q (BusyPoison o) = refl
  dirty_transfer_seen q Poison = refl

  pub poison_back_seen : (q : ℕ) (l : Line) (e : State) → serve_poison_back (setup_seen s) p seen frame b.number q l (entry_seen s.nodes e) ≡ option_map (row_seen s p x b) (poisoned_row s.nodes q b l e)
  poison_back_seen q l (BusyPoison o) = by (nat_eq o q)
    where
      by : (t : Bool) → cond t (Some (answer (with_seen_block seen frame b.number HPoison l) (letter p s.nodes (KPoisonReply frame b.number l 0) ∷ []))) None ≡ option_map (row_seen s p x b) (cond t (Some (row Poison l (to s.nodes (PoisonReply b l 0) ∷ []))) None)
      by true = ap Some (block_row s p x b own Poison l (to s.nodes (PoisonReply b l 0) ∷ []) _ refl)
      by false = refl
  poison_back_seen q l Unowned = refl
  poison_back_seen q l (Shared t) = refl
  poison_back_seen q l (Exclusive o) = refl
  poison_back_seen q l (BusyShared o r) = refl
  poison_back_seen q l (BusyExclusive o r t) = refl
  poison_back_seen q l Poison = refl

  -- poisoned, with the home's line
  poison_entry : answer (with_entry seen frame b.number HPoison) (letter p s.nodes (KPoisonReply frame b.number (seen.line frame b.number) 0) ∷ []) ≡ row_seen s p x b (row Poison line (to s.nodes (PoisonReply b line 0) ∷ []))
  poison_entry = entry_row s p x b own Poison (to s.nodes (PoisonReply b line 0) ∷ []) _ (ap (λ l. letter p s.nodes (KPoisonReply frame b.number l 0) ∷ []) (line_is s p x b own))

  pub poison_clean_seen : (q : ℕ) (e : State) → serve_poison_clean (setup_seen s) p seen frame b.number q (entry_seen s.nodes e) ≡ option_map (row_seen s p x b) (poisoned_row s.nodes q b line e)
  poison_clean_seen q (BusyPoison o) = by (nat_eq o q)
    where
      by : (t : Bool) → cond t (Some (answer (with_entry seen frame b.number HPoison) (letter p s.nodes (KPoisonReply frame b.number (seen.line frame b.number) 0) ∷ []))) None ≡ option_map (row_seen s p x b) (cond t (Some (row Poison line (to s.nodes (PoisonReply b line 0) ∷ []))) None)
      by true = ap Some poison_entry
      by false = refl
  poison_clean_seen q Unowned = refl
  poison_clean_seen q (Shared t) = refl
  poison_clean_seen q (Exclusive o) = refl
  poison_clean_seen q (BusyShared o r) = refl
  poison_clean_seen q (BusyExclusive o r t) = refl
  poison_clean_seen q Poison = refl

  -- ---- the mover's messages about a block

  pub poison_read_seen : (e : State) → x.entry b.frame.index b.number ≡ e → serve_poison_read (setup_seen s) p seen frame b.number (entry_seen s.nodes e) ≡ option_map (row_seen s p x b) (poison_row s.nodes line b e)
  poison_read_seen Unowned is = ap Some poison_entry
  poison_read_seen (Shared t) is =
      ap Some (entry_row s p x b own Poison (invalidating s.nodes b s.nodes t (λ k. PoisonReply b line k)) _
      (ap (λ l. invalidations p frame b.number s.nodes (nodes_of s.nodes t) s.nodes ++ letter p s.nodes (KPoisonReply frame b.number l (count s.nodes (nodes_of s.nodes t))) ∷ []) (line_is s p x b own)
      ∙ sym (invalidating_seen s p s.nodes b s.nodes t (λ k. PoisonReply b line k) (count s.nodes (nodes_of s.nodes t)) (all_counted s.nodes t))))
  poison_read_seen (Exclusive o) is = ap Some (entry_row s p x b own (BusyPoison o) (to o (IntervenePoison b) ∷ []) _ refl)
  poison_read_seen (BusyShared o r) is = ap Some (still_row s p x b own (BusyShared o r) (to s.nodes (Nak b) ∷ []) _ is refl)
  poison_read_seen (BusyExclusive o r t) is = ap Some (still_row s p x b own (BusyExclusive o r t) (to s.nodes (Nak b) ∷ []) _ is refl)
  poison_read_seen (BusyPoison o) is = refl
  poison_read_seen Poison is = refl

  pub copy_in_seen : (l : Line) (e : State) → serve_copy_in (setup_seen s) p seen frame b.number l (entry_seen s.nodes e) ≡ option_map (row_seen s p x b) (copy_row s.nodes b l e)
  copy_in_seen l Unowned = ap Some (block_row s p x b own Unowned l (to s.nodes (CopyDone b) ∷ []) _ refl)
  copy_in_seen l (Shared t) = refl
  copy_in_seen l (Exclusive o) = refl
  copy_in_seen l (BusyShared o r) = refl
  copy_in_seen l (BusyExclusive o r t) = refl
  copy_in_seen l (BusyPoison o) = refl
  copy_in_seen l Poison = refl
