-- A processor acts, by what its hart needs.
use Rattle.std.proofs.Common.{Bool, List, None, Option, Some, [], ap, false, not, option_map, refl, sym, true, ℕ, ◌&&◌, ◌<◌, ◌∙◌, ◌∷◌, ◌≡◌}
use Rattle.std.specs.Prelude.{if◌then◌else◌}
use Rattle.og_base.specs.declared.Block.{Block}
use Rattle.og_base.specs.declared.Cause.{Cause}
use Rattle.og_base.specs.declared.Cause.TheVariants as cause
use Rattle.og_base.specs.declared.Frame.{Frame}
use Rattle.og_base.specs.declared.VPage.{VPage}
use Rattle.og_line.specs.Access.{addr_of}
use Rattle.og_line.specs.declared.Access.{Access}
use Rattle.og_line.specs.declared.Line.{Line}
use Rattle.og_line.specs.declared.Mode.{Mode}
use Rattle.og_msg.specs.declared.Note.{Note}
use Rattle.og_msg.specs.declared.Note.TheVariants as note
use Rattle.og_image.specs.Image.{ImageState}
use Rattle.og_cache.specs.Cache.{look_of}
use Rattle.og_tlb.specs.Tlb.{look_of as frame_of}
use Rattle.rv_hart.specs.Hart.{HartState, finish_of, halt_of, need_of}
use Rattle.rv_hart.specs.declared.hart.Need.{Need}
use Rattle.rv_hart.specs.declared.hart.Need.TheVariants as need
use Rattle.og_processor.specs.Access.{allows, block_in, page_of}
use Rattle.og_processor.specs.Act.{act_of, by_need, is_blocked, is_blocked_at, is_blocked_by, misses, on_block, on_line, on_page, stop_note, walks, wanted}
use Rattle.og_processor.specs.State.{Given, ProcessorState}
use Rattle.og_pages.specs.State.{NoEntry}
use Rattle.og_whole.specs.Events.{World}
use Rattle.og_relate.specs.Data.{Cpu, HomeSide, KWalk, Mover, Post}
use Rattle.og_relate.specs.Steps.{letter as seen_letter}
use Rattle.og_relate_node.proofs.Hits.{hart_goes, walk_goes}
use Rattle.og_relate_node.specs.Steps.{walk_out, with_hart}
use Rattle.og_seen.proofs.Numbers.{there}
use Rattle.og_seen.proofs.Pages.{is_numbered, needed_placed}
use Rattle.og_seen.proofs.Tlbs.{absent_seen as tlb_absent_seen}
use Rattle.og_seen.specs.Events.{ProcessorGoes, Shows}
use Rattle.og_seen.specs.Harts.{Hart, harts_seen}
use Rattle.og_seen.specs.Numbers.{Sizes, page_number, setup_seen}
use Rattle.og_seen.specs.Processors.{NotesBy, cpu_seen}
use Rattle.og_seen.specs.Sound.{IsPlaced, IsProcessorOf}
use Rattle.og_refine_node.proofs.Given.{goes_as, goes_quietly}
use Rattle.og_refine_node.proofs.Hits.{hit_made}
use Rattle.og_refine_node.proofs.Misses.{missed}
use Rattle.og_refine_node.proofs.Ready.{MayAct, nothing_asked, nothing_walked, ready}
use Rattle.og_refine_node.specs.Laws.{ProcessorsAct}

module _ (image : ImageState) (s : Sizes) (cpu : ℕ → Cpu Line Hart) (home : ℕ → HomeSide Line) (mover : Mover Line) (rest : List (Post Line)) (w : World Line) (p : ℕ) (x : ProcessorState)
    (is : IsProcessorOf image s x) (lp : p < s.nodes) (shown : cpu p ≡ cpu_seen s x) (may : MayAct image x) (sim : Shows image s cpu home mover rest w) where
  abbrev Acts : Given → Type 0
  Acts given = ProcessorGoes image s cpu home mover rest w p x given

  -- only the hart goes on
  hart_acts : (h : HartState) (n : Option Note) → NotesBy image s x x.reserved [] n → Acts (record { state = record x { hart = h }; letters = []; note = n })
  hart_acts h n quiet =
      goes_quietly image s cpu home mover rest w p x (λ c. with_hart c (record { state = h; reserved = x.reserved })) (record { state = record x { hart = h }; letters = []; note = n }) (λ c. []) shown
      (hart_goes (setup_seen s) (harts_seen image s) cpu home mover w p (record { state = h; reserved = x.reserved }) rest sim lp (nothing_asked image s cpu p x is shown may)) refl refl quiet

  -- a hart that stops makes no access
  stop_quiet : (c : Cause) (pc : ℕ) → NotesBy image s x x.reserved [] (Some (stop_note c pc))
  stop_quiet (cause.Exit v) pc = refl
  stop_quiet cause.Spent pc = refl
  stop_quiet cause.Illegal pc = refl
  stop_quiet cause.Fetch pc = refl
  stop_quiet cause.Misaligned pc = refl
  stop_quiet cause.Unmapped pc = refl
  stop_quiet cause.Call pc = refl
  stop_quiet cause.Break pc = refl

  module _ (access : Access) (needs : need_of image x.hart ≡ need.Access access) where
    -- the mover is asked where the page is
    walk_acts : frame_of x.tlb (page_of (addr_of access)) ≡ None → Acts (walks image x (page_of (addr_of access)))
    walk_acts absent =
        let page : VPage = page_of (addr_of access) in
        let y : ℕ = page_number s page in
        let placed : IsPlaced s page = needed_placed image s x access is needs in
        let none : (cpu p).tlb y ≡ NoEntry = ap (λ (c : Cpu Line Hart). c.tlb y) shown ∙ tlb_absent_seen s x.tlb page y (is_numbered s page placed) absent in
        goes_as image s cpu home mover rest w p x (λ c. walk_out (setup_seen s) p y c) (walks image x page) shown
        (walk_goes (setup_seen s) (harts_seen image s) cpu home mover w p y rest sim lp (nothing_asked image s cpu p x is shown may) (nothing_walked image s cpu p x is shown may) none placed)
        (record { state = refl; letters = ap (λ (n : ℕ). seen_letter p n (KWalk y) ∷ []) (sym is.nodes) }) refl

    -- the copy is enough, or it is a miss
    access_acts : (frame : Frame) → frame_of x.tlb (page_of (addr_of access)) ≡ Some frame → is_blocked_at x access (Some frame) ≡ false → Acts (on_block image x access (block_in frame (addr_of access)))
    access_acts frame there room = by (look_of x.cache (block_in frame (addr_of access))) refl room
      where
        block : Block
        block = block_in frame (addr_of access)

        Goal : Option (Mode × Line) → Bool → Type 0
        Goal o t = Acts (if t then on_line image x access block (option_map (λ copy. copy.1) o) else misses x (wanted (option_map (λ copy. copy.0) o) access) block)

        of : (o : Option (Mode × Line)) → look_of x.cache block ≡ o → (t : Bool) → allows (option_map (λ copy. copy.0) o) access ≡ t → (not t && is_blocked x block) ≡ false → Goal o t
        of None e true a r = absurd (cc)
        of (Some (m, l)) e true a r = hit_made image s cpu home mover rest w p x is lp shown may sim access needs frame there m l e a
        of o e false a r = missed image s cpu home mover rest w p x is lp shown may sim access needs frame there o e a r

        by : (o : Option (Mode × Line)) → look_of x.cache block ≡ o → (not (allows (option_map (λ copy. copy.0) o) access) && is_blocked x block) ≡ false → Goal o (allows (option_map (λ copy. copy.0) o) access)
        by o e r = of o e (allows (option_map (λ copy. copy.0) o) access) refl r

  -- the table, by the need
  acts : (n : Need) → need_of image x.hart ≡ n → is_blocked_by x n ≡ false → Acts (by_need image x n)
  acts need.Plain e room = hart_acts (finish_of image x.hart 0) None refl
  acts (need.Emit v) e room = hart_acts (finish_of image x.hart 0) (Some (note.Emit v)) refl
  acts (need.Stop c) e room = hart_acts (halt_of image x.hart) (Some (stop_note c x.hart.pc)) (stop_quiet c x.hart.pc)
  acts (need.Access access) e room = by (frame_of x.tlb (page_of (addr_of access))) refl room
    where
      by : (o : Option Frame) → frame_of x.tlb (page_of (addr_of access)) ≡ o → is_blocked_at x access o ≡ false → Acts (on_page image x access o)
      by None absent r = walk_acts access e absent
      by (Some frame) there r = access_acts access e frame there r

-- so it is where the processor may act
pub processor_acts : ProcessorsAct
unfolding act_of
processor_acts image s cpu home mover w p x rest sizes is lp shown may sim =
    let m : MayAct image x = ready image x may in
    acts image s cpu home mover rest w p x is lp shown m sim (need_of image x.hart) refl m.room
