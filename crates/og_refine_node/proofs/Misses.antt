-- An access whose block isn't there, or is there only to be read: a block is thrown out where one must be, and the home is asked.
use Rattle.std.proofs.Common.{Bool, List, None, Option, Some, [], ap, arith, false, nat_eq, not, option_map, refl, subst, sym, true, ℕ, ◌%◌, ◌&&◌, ◌/◌, ◌<◌, ◌||◌, ◌∙◌, ◌∷◌, ◌≡◌, ◌≢◌}
use Rattle.std.specs.Prelude.{IsSome, if◌then◌else◌}
use Rattle.og_base.proofs.SameNames.{other_block}
use Rattle.og_base.specs.declared.Block.{Block}
use Rattle.og_base.specs.declared.Frame.{Frame}
use Rattle.og_line.specs.Access.{addr_of, is_write}
use Rattle.og_line.specs.declared.Access.{Access}
use Rattle.og_line.specs.declared.Line.{Line}
use Rattle.og_line.specs.declared.Mode.{Mode}
use Rattle.og_line.specs.declared.Mode.TheVariants as mode
use Rattle.og_msg.specs.declared.Note.{Note}
use Rattle.og_image.specs.Image.{ImageState}
use Rattle.og_cache.proofs.Seen.{reserve_laws}
use Rattle.og_cache.specs.Cache.{Cached, IsCache, look_of, reserved, thrown_out}
use Rattle.og_cache.specs.declared.CachedBlock.{CachedBlock}
use Rattle.og_tlb.specs.Tlb.{look_of as frame_of}
use Rattle.og_request.specs.Request.{new_request}
use Rattle.og_request.specs.declared.Want.{Want}
use Rattle.og_request.specs.declared.Want.TheVariants as want
use Rattle.og_victim.specs.Slot.{is_free_slot, is_slot_of}
use Rattle.og_victim.specs.declared.Slot.{Slot}
use Rattle.og_victim.specs.declared.Slot.TheVariants as slot
use Rattle.rv_hart.specs.Hart.{need_of}
use Rattle.rv_hart.specs.declared.hart.Need.TheVariants as need
use Rattle.og_processor.specs.Access.{allows, block_in, page_of}
use Rattle.og_processor.specs.Act.{asks, is_blocked, is_dirty as is_dirty_mode, is_dirty_out, leaves, misses, mode_out, throws_out, wanted}
use Rattle.og_processor.specs.State.{Given, ProcessorState, either_note}
use Rattle.og_block.specs.Rows.{is_dirty}
use Rattle.og_block.specs.State.{Clean, Copy, NoCopy, Shared, Want as SeenWant}
use Rattle.og_pages.specs.State.{put_pair}
use Rattle.og_whole.specs.Events.{World}
use Rattle.og_relate.proofs.Act.{act_misses}
use Rattle.og_relate.specs.Acts.{Block as SeenBlock, ask as seen_ask, ask_kind, miss, throw_by, throw_out, wanted as seen_wanted}
use Rattle.og_relate.specs.Data.{Cpu, HomeSide, KWriteBack, Mover, Post, Slot as SeenSlot}
use Rattle.og_relate.specs.Laws.{MayThrow}
use Rattle.og_relate.specs.Sim.{victim_at}
use Rattle.og_relate.specs.Steps.{letter as seen_letter}
use Rattle.og_seen.proofs.Caches.{reserve_seen}
use Rattle.og_seen.specs.Caches.{cache_seen, copy_in, copy_seen}
use Rattle.og_seen.specs.Events.{ProcessorGoes, Shows}
use Rattle.og_seen.specs.Harts.{Hart, harts_seen}
use Rattle.og_seen.specs.Messages.{letters_seen}
use Rattle.og_seen.specs.Numbers.{Sizes, frame_number, is_there, setup_seen}
use Rattle.og_seen.specs.Processors.{NotesBy, cpu_seen, slot_seen, want_seen}
use Rattle.og_seen.specs.Sound.{IsBlock, IsProcessorOf}
use Rattle.og_refine_node.proofs.Facts.{block_test, cache_at, home_is}
use Rattle.og_refine_node.proofs.Given.{IsGiven, chain_given, goes_as}
use Rattle.og_refine_node.proofs.Interventions.{other_slot}
use Rattle.og_refine_node.proofs.Ready.{MayAct, copy_shown, frame_named, frame_shown, nothing_asked, nothing_walked, number_small}

-- the request that goes out
ask_given : (s : Sizes) (p : ℕ) (y : ProcessorState) (wish : Want) (block : Block) → is_there s block.frame ≡ true → IsGiven s p (seen_ask (setup_seen s) p (frame_number s block.frame) block.number (want_seen wish false) (cpu_seen s y)) (asks y wish block)
unfolding new_request
ask_given s p y wish block known = record { state = asked wish; letters = ap (λ (n : ℕ). seen_letter p n (ask_kind (want_seen wish false) (frame_number s block.frame) block.number) ∷ []) (home_is s block.frame known) ∙ sent wish }
  where
    asked : (wish : Want) → (seen_ask (setup_seen s) p (frame_number s block.frame) block.number (want_seen wish false) (cpu_seen s y)).0 ≡ cpu_seen s (asks y wish block).state
    asked want.Read = refl
    asked want.ReadEx = refl
    asked want.Upgrade = refl

    sent : (wish : Want) → seen_letter p block.frame.home (ask_kind (want_seen wish false) (frame_number s block.frame) block.number) ∷ [] ≡ letters_seen s p (asks y wish block).letters
    sent want.Read = refl
    sent want.ReadEx = refl
    sent want.Upgrade = refl

-- what is thrown out
abbrev block_out : Sizes → Option CachedBlock → Option SeenBlock
block_out s None = None
block_out s (Some out) = Some (record { frame = frame_number s out.block.frame; number = out.block.number })

-- it leaves no note, and the reservation stays
abbrev IsQuiet : ProcessorState → Given → Type 0
IsQuiet x given = (given.note ≡ None) × (given.state.reserved ≡ x.reserved)

module _ (s : Sizes) (p : ℕ) (x : ProcessorState) (block : Block) (cache : IsCache x.cache) (cached : (b : Block) → look_of x.cache b ≢ None → IsBlock s b) where
  abbrev emptied : ProcessorState
  emptied = record x { cache = reserved x.cache block }

  abbrev thrown : Option CachedBlock → Given
  thrown o = leaves emptied o (mode_out o)

  -- what is thrown out was there
  was_there : (out : CachedBlock) → thrown_out x.cache block ≡ Some out → look_of x.cache out.block ≡ Some (out.mode, out.line)
  was_there out e = reserve_laws.was_there x.cache block out cache e

  out_there : (out : CachedBlock) → thrown_out x.cache block ≡ Some out → IsBlock s out.block
  out_there out e = cached out.block (λ none. absurd (let a = was_there out e in cc))

  -- it goes as the function's does, and notes nothing
  throw_given : (o : Option CachedBlock) → thrown_out x.cache block ≡ o → IsGiven s p (throw_out (setup_seen s) p (block_out s o) (cpu_seen s x)) (thrown o)
  throw_given None e = record { state = ap (λ (c : Cached). cpu_seen s (record x { cache = c })) (sym (reserve_laws.nothing x.cache block e)); letters = refl }
  throw_given (Some out) e = subst (λ (c : Copy Line). IsGiven s p (throw_by p (frame_number s out.block.frame / s.frames) b (cpu_seen s x) c) (thrown (Some out))) (sym (cache_at s x.cache out.block there ∙ ap copy_seen (was_there out e))) (by out.mode)
    where
      there : is_there s out.block.frame ≡ true
      there = (out_there out e).0

      b : SeenBlock
      b = record { frame = frame_number s out.block.frame; number = out.block.number }

      gone : put_pair (cache_seen s x.cache) (frame_number s out.block.frame) out.block.number NoCopy ≡ cache_seen s (reserved x.cache block)
      gone = sym (reserve_seen s x.cache block out cache e there)

      by : (m : Mode) → IsGiven s p (throw_by p (frame_number s out.block.frame / s.frames) b (cpu_seen s x) (copy_in m out.line)) (leaves emptied (Some out) m)
      by mode.Shared = record { state = ap (λ (c : ℕ → ℕ → Copy Line). record (cpu_seen s x) { cache = c }) gone; letters = refl }
      by mode.Clean = record { state = ap (λ (c : ℕ → ℕ → Copy Line). record (cpu_seen s x) { cache = c }) gone; letters = refl }
      by mode.Dirty = record {
        state = (let v : Option SeenSlot = Some (record { frame = frame_number s out.block.frame; number = out.block.number; busy = false; seen = false }) in ap (λ (c : ℕ → ℕ → Copy Line). record (cpu_seen s x) { cache = c; slot = v }) gone);
        letters = ap (λ (n : ℕ). seen_letter p n (KWriteBack (frame_number s out.block.frame) out.block.number out.line) ∷ []) (home_is s out.block.frame there);
      }

  throw_quiet : (o : Option CachedBlock) → IsQuiet x (thrown o)
  throw_quiet None = (refl, refl)
  throw_quiet (Some out) = by out.mode
    where
      by : (m : Mode) → IsQuiet x (leaves emptied (Some out) m)
      by mode.Shared = (refl, refl)
      by mode.Clean = (refl, refl)
      by mode.Dirty = (refl, refl)

  -- another block is thrown out, and a dirty one only where the slot is free
  may_throw : is_there s block.frame ≡ true → (o : Option CachedBlock) → thrown_out x.cache block ≡ o → (is_dirty_out o && not (is_free_slot x.victim)) ≡ false → MayThrow (setup_seen s) (frame_number s block.frame) block.number (cpu_seen s x) (block_out s o)
  may_throw known None e room = tt
  may_throw known (Some out) e room = ((out_there out e).1, other, λ d. slot_free x.victim (λ t. (let a = mode_dirty out.mode (subst (λ (c : Copy Line). is_dirty c ≡ true) (cache_at s x.cache out.block (out_there out e).0 ∙ ap copy_seen (was_there out e)) d) in let r = room in grind arith)))
    where
      absent : look_of x.cache block ≡ None
      absent = ((reserve_laws.throws x.cache block cache).0 (subst (λ (o : Option CachedBlock). IsSome o) (sym e) refl)).0

      other : (nat_eq (frame_number s out.block.frame) (frame_number s block.frame) && nat_eq out.block.number block.number) ≡ false
      other = sym (block_test s out.block block (out_there out e).0 known) ∙ other_block out.block block (λ same. absurd (let a = was_there out e in let b : look_of x.cache out.block ≡ None = ap (look_of x.cache) same ∙ absent in cc))

      mode_dirty : (m : Mode) → is_dirty (copy_in m out.line) ≡ true → is_dirty_mode m ≡ true
      mode_dirty mode.Shared d = absurd (cc)
      mode_dirty mode.Clean d = absurd (cc)
      mode_dirty mode.Dirty d = refl

      slot_free : (v : Slot) → (is_free_slot v ≡ false → ⊥) → slot_seen s v ≡ None
      slot_free slot.Free n = refl
      slot_free (slot.Taken b busy seen) n = absurd (n refl)

-- where neither of two tests passes, none does
neither : (a b : Bool) → (a || b) ≡ false → (a ≡ false) × (b ≡ false)
neither true b o = absurd (cc)
neither false b o = (refl, o)

module _ (image : ImageState) (s : Sizes) (cpu : ℕ → Cpu Line Hart) (home : ℕ → HomeSide Line) (mover : Mover Line) (rest : List (Post Line)) (w : World Line) (p : ℕ) (x : ProcessorState)
    (is : IsProcessorOf image s x) (lp : p < s.nodes) (shown : cpu p ≡ cpu_seen s x) (may : MayAct image x) (sim : Shows image s cpu home mover rest w)
    (access : Access) (needs : need_of image x.hart ≡ need.Access access) (frame : Frame) (there : frame_of x.tlb (page_of (addr_of access)) ≡ Some frame) where
  abbrev block : Block
  block = block_in frame (addr_of access)

  abbrev f : ℕ
  f = frame_number s frame

  abbrev k : ℕ
  k = addr_of access / 128 % 32

  -- by what is asked for, and the copy that is there
  missed_with : (reads : Bool) (wish : Want) (copy : Copy Line) → copy_seen (look_of x.cache block) ≡ copy → seen_wanted reads copy ≡ want_seen wish false → (reads ≡ true → copy ≡ NoCopy) → is_dirty copy ≡ false → ((l : Line) → copy ≢ Clean l) → is_blocked x block ≡ false →
      ProcessorGoes image s cpu home mover rest w p x (misses x wish block)
  missed_with reads wish copy look wants rd nd ncl room =
      let known : is_there s frame ≡ true = frame_named image s cpu p x is shown access needs frame there in
      let open_ = neither (is_slot_of x.victim block) (is_dirty_out (thrown_out x.cache block) && not (is_free_slot x.victim)) room in
      let o : Option CachedBlock = thrown_out x.cache block in
      let throws : MayThrow (setup_seen s) f k (cpu p) (block_out s o) = subst (λ (c : Cpu Line Hart). MayThrow (setup_seen s) f k c (block_out s o)) (sym shown) (may_throw s p x block is.cache is.cached known o refl open_.1) in
      let goes = act_misses (setup_seen s) (harts_seen image s) cpu home mover w p f k (block_out s o) rest sim lp
      (nothing_asked image s cpu p x is shown may)
      (nothing_walked image s cpu p x is shown may)
      (frame_shown image s cpu p x is shown access needs frame there)
      (number_small (addr_of access))
      copy (copy_shown image s cpu p x is shown access needs frame there ∙ look)
      (λ e. ap (λ (c : Cpu Line Hart). victim_at f k c.slot) shown ∙ other_slot s x.victim block is.victim known open_.0) reads rd nd ncl throws in
      let asked : IsGiven s p (seen_ask (setup_seen s) p f k (seen_wanted reads copy) (cpu_seen s (thrown s p x block is.cache is.cached o).state)) (asks (thrown s p x block is.cache is.cached o).state wish block) =
      subst (λ (v : SeenWant). IsGiven s p (seen_ask (setup_seen s) p f k v (cpu_seen s (thrown s p x block is.cache is.cached o).state)) (asks (thrown s p x block is.cache is.cached o).state wish block)) (sym wants) (ask_given s p (thrown s p x block is.cache is.cached o).state wish block known) in
      let quiet = throw_quiet s p x block is.cache is.cached o in
      goes_as image s cpu home mover rest w p x (λ c. miss (setup_seen s) p f k (seen_wanted reads copy) (block_out s o) c) (misses x wish block) shown goes
      (chain_given s p (λ d. seen_ask (setup_seen s) p f k (seen_wanted reads copy) d) (λ y. asks y wish block) (throw_out (setup_seen s) p (block_out s o) (cpu_seen s x)) (throws_out x block) (throw_given s p x block is.cache is.cached o refl) asked)
      (subst (λ (n : Option Note). NotesBy image s x (throws_out x block).state.reserved [] (either_note n None)) (sym quiet.0) quiet.1)

  -- a copy that isn't enough is none, or a shared one for an access that may write
  pub missed : (o : Option (Mode × Line)) → look_of x.cache block ≡ o → allows (option_map (λ copy. copy.0) o) access ≡ false → is_blocked x block ≡ false → ProcessorGoes image s cpu home mover rest w p x (misses x (wanted (option_map (λ copy. copy.0) o) access) block)
  missed None look lacks room = by (is_write access)
    where
      by : (t : Bool) → ProcessorGoes image s cpu home mover rest w p x (misses x (if t then want.ReadEx else want.Read) block)
      by true = missed_with false want.ReadEx NoCopy (ap copy_seen look) refl (λ e. refl) refl (λ l e. absurd (cc)) room
      by false = missed_with true want.Read NoCopy (ap copy_seen look) refl (λ e. refl) refl (λ l e. absurd (cc)) room
  missed (Some (mode.Shared, l)) look lacks room = by (is_write access) lacks
    where
      by : (t : Bool) → not t ≡ false → ProcessorGoes image s cpu home mover rest w p x (misses x (if t then want.Upgrade else want.Read) block)
      by true e = missed_with false want.Upgrade (Shared l) (ap copy_seen look) refl (λ e. absurd (cc)) refl (λ m e. absurd (cc)) room
      by false e = absurd (cc)
  missed (Some (mode.Clean, l)) look lacks room = absurd (cc)
  missed (Some (mode.Dirty, l)) look lacks room = absurd (cc)
