-- A processor takes the answer to a walk, and a drop request.
use Rattle.std.proofs.Common.{Bool, List, None, Option, Some, ap, false, get_or, inl, inr, length, option_map, refl, subst, sym, true, ℕ, ◌<◌, ◌∙◌, ◌∷◌, ◌≡◌, ◌≢◌}
use Rattle.std.proofs.lemmas.Bool.{cases_Bool}
use Rattle.std.specs.Prelude.{is_none as is_none_std}
use Rattle.og_base.proofs.FoundPlaces.{fails_everywhere, found-None}
use Rattle.og_base.proofs.SameNames.{is_same_page-self, same_page}
use Rattle.og_base.specs.Names.{is_same_page}
use Rattle.og_base.specs.Places.{found_in}
use Rattle.og_base.specs.declared.Frame.{Frame}
use Rattle.og_base.specs.declared.VPage.{VPage}
use Rattle.og_runs.specs.declared.Msg.{Msg}
use Rattle.og_line.specs.declared.Line.{Line}
use Rattle.og_msg.specs.declared.Kind.{Kind}
use Rattle.og_msg.specs.declared.Kind.TheVariants as kind
use Rattle.og_image.specs.Image.{ImageState}
use Rattle.og_tlb.proofs.Seen.{fill_laws as tlb_fill_laws}
use Rattle.og_tlb.specs.Tlb.{IsTlb, Translations, filled as tlb_filled, is_for as is_slot_for, look_of as frame_of, overwritten, place_for}
use Rattle.og_tlb.specs.declared.Translation.{Translation}
use Rattle.og_processor.specs.Rows.{has_row_for, walks_for}
use Rattle.og_processor.specs.State.{ProcessorState}
use Rattle.og_processor.specs.Take.{drops, take_of}
use Rattle.og_node.specs.Node.{NodeState}
use Rattle.og_block.specs.State.{put}
use Rattle.og_pages.specs.State.{TlbEntry, To}
use Rattle.og_whole.specs.Events.{World}
use Rattle.og_relate.specs.Data.{Cpu, HomeSide, Mover, Post}
use Rattle.og_relate.specs.Node.{answer_drop}
use Rattle.og_relate_node.proofs.Walks.{drop_taken, retry_taken, walk_taken}
use Rattle.og_relate_node.specs.Steps.{take_drop, take_retry, take_walked, without_page as seen_without}
use Rattle.og_seen.proofs.Numbers.{there_below}
use Rattle.og_seen.proofs.Pages.{is_numbered, one_page, pages_differ}
use Rattle.og_seen.proofs.Tlbs.{fill_over_seen as tlb_over_seen, fill_seen as tlb_fill_seen}
use Rattle.og_seen.specs.Events.{Shows}
use Rattle.og_seen.specs.Harts.{Hart, harts_seen}
use Rattle.og_seen.specs.Messages.{kind_seen}
use Rattle.og_seen.specs.Numbers.{Sizes, frame_number, is_there, page_number, setup_seen}
use Rattle.og_seen.specs.Processors.{cpu_seen}
use Rattle.og_seen.specs.Sound.{AreSizes, IsHomeOf, IsPlaced, IsProcessorOf}
use Rattle.og_seen.specs.Tlbs.{NamesFrames, PagesDiffer, tlb_seen}
use Rattle.og_refine_node.proofs.Drops.{drops_given, drops_quiet}
use Rattle.og_refine_node.proofs.Facts.{frame_known, from_mover, of_kind, row_is}
use Rattle.og_refine_node.proofs.Given.{IsGiven, TakenAt, goes_as}

-- the walk that is answered is this one
walk_found : (s : Sizes) (o : Option VPage) (page : VPage) → ((q : VPage) → o ≡ Some q → IsPlaced s q) → option_map (page_number s) o ≡ Some (page_number s page) → IsPlaced s page × (walks_for o page ≡ true)
walk_found s None page placed e = absurd (cc)
walk_found s (Some q) page placed e =
    let n : page_number s q ≡ page_number s page = cc in
    let here : IsPlaced s q = placed q refl in
    let too : IsPlaced s page = subst (λ (y : ℕ). y < length s.pages) n here in
    let same : q ≡ page = one_page s q page here too n in
    (too, subst (λ (a : VPage). is_same_page q a ≡ true) same (is_same_page-self q))

-- what a fill writes over was there
overwritten_there : (tlb : Translations) (page : VPage) (old : Translation) → overwritten tlb page ≡ Some old → frame_of tlb old.page ≢ None
unfolding overwritten frame_of
overwritten_there tlb page old over none =
    let nowhere = found-None (is_slot_for old.page) tlb.slots refl (no_frame (found_in tlb.slots (is_slot_for old.page)) none) in
    let fails : is_slot_for old.page (get_or tlb.slots (place_for tlb page) None) ≡ false = fails_everywhere (is_slot_for old.page) tlb.slots refl (place_for tlb page) nowhere in
    let passes : is_slot_for old.page (get_or tlb.slots (place_for tlb page) None) ≡ true = ap (is_slot_for old.page) over ∙ is_same_page-self old.page in
    absurd (cc)
  where
    no_frame : (o : Option Translation) → option_map (λ t. t.frame) o ≡ None → o ≡ None
    no_frame None e = refl
    no_frame (Some t) e = absurd (cc)

-- a fill is seen as that of one entry, and of another one that it writes over
pub record FillsOver (s : Sizes) (tlb : Translations) (page : VPage) (frame : Frame) : Type 0 where
  pub out : Option ℕ
  pub tlb_is : put (seen_without (tlb_seen s tlb) out) (page_number s page) (To (frame_number s frame)) ≡ tlb_seen s (tlb_filled tlb page frame)

fill_over : (s : Sizes) (tlb : Translations) (page : VPage) (frame : Frame) → AreSizes s → IsTlb tlb → IsPlaced s page → ((q : VPage) → frame_of tlb q ≢ None → IsPlaced s q) → FillsOver s tlb page frame
fill_over s tlb page frame sizes is placed all = by (overwritten tlb page) refl
  where
    differ : PagesDiffer s
    differ = pages_differ s sizes

    by : (o : Option Translation) → overwritten tlb page ≡ o → FillsOver s tlb page frame
    by None e = record { out = None; tlb_is = sym (tlb_fill_seen s tlb page frame (page_number s page) differ is (is_numbered s page placed) (λ old over. absurd (cc))) }
    by (Some old) e = at (is_same_page old.page page) refl
      where
        at : (t : Bool) → is_same_page old.page page ≡ t → FillsOver s tlb page frame
        at true t = record { out = None; tlb_is = sym (tlb_fill_seen s tlb page frame (page_number s page) differ is (is_numbered s page placed) (λ other over. (let one : old ≡ other = cc in ap (λ (a : Translation). a.page) (sym one) ∙ same_page old.page page t))) }
        at false t =
            let there : IsPlaced s old.page = all old.page (overwritten_there tlb page old e) in
            let other : old.page ≢ page = (λ same. absurd (let self = is_same_page-self page in let a : is_same_page old.page page ≡ true = subst (λ (q : VPage). is_same_page q page ≡ true) (sym same) self in cc)) in
            record { out = Some (page_number s old.page); tlb_is = sym (tlb_over_seen s tlb page frame (page_number s page) (page_number s old.page) old differ is (is_numbered s page placed) e other (is_numbered s old.page there)) }

-- and the frames that the TLB names then are there
fill_names : (s : Sizes) (tlb : Translations) (page : VPage) (frame : Frame) → IsTlb tlb → NamesFrames s tlb → is_there s frame ≡ true → NamesFrames s (tlb_filled tlb page frame)
fill_names s tlb page frame is names known q found e = at (is_same_page q page) refl
  where
    at : (t : Bool) → is_same_page q page ≡ t → is_there s found ≡ true
    at true t =
        let same : q ≡ page = same_page q page t in
        let a : frame_of (tlb_filled tlb page frame) q ≡ Some frame = subst (λ (z : VPage). frame_of (tlb_filled tlb page frame) z ≡ Some frame) (sym same) (tlb_fill_laws.own tlb page frame is) in
        let one : frame ≡ found = cc in
        subst (λ (f : Frame). is_there s f ≡ true) one known
    at false t = of (overwritten tlb page) refl
      where
        other : q ≢ page
        other same = absurd (let a : is_same_page q page ≡ true = subst (λ (z : VPage). is_same_page z page ≡ true) (sym same) (is_same_page-self page) in cc)

        kept : ((old : Translation) → overwritten tlb page ≡ Some old → old.page ≢ q) → is_there s found ≡ true
        kept none = names q found (sym (tlb_fill_laws.others tlb page q frame is other none) ∙ e)

        of : (o : Option Translation) → overwritten tlb page ≡ o → is_there s found ≡ true
        of None over = kept (λ old x. absurd (cc))
        of (Some old) over = elim (cases_Bool (is_same_page old.page q)) [
          | inl u ↦ absurd (let same : old.page ≡ q = same_page old.page q u in let gone = tlb_fill_laws.forgets tlb page frame old is over (λ z. other (sym same ∙ z)) in let here : frame_of (tlb_filled tlb page frame) q ≡ None = subst (λ (z : VPage). frame_of (tlb_filled tlb page frame) z ≡ None) same gone in cc)
          | inr u ↦ kept (λ x ov same. absurd (let one : old ≡ x = cc in let a : is_same_page old.page q ≡ true = subst (λ (z : VPage). is_same_page old.page z ≡ true) (ap (λ (z : Translation). z.page) one ∙ same) (is_same_page-self old.page) in cc))
        ]

module _ (image : ImageState) (s : Sizes) (cpu : ℕ → Cpu Line Hart) (home : ℕ → HomeSide Line) (mover : Mover Line) (rest : List (Post Line)) (w : World Line) (p : ℕ) (x : NodeState) (message : Msg Kind)
    (sizes : AreSizes s) (is : IsProcessorOf image s x.processor) (at_home : IsHomeOf s p x.home) (lp : p < s.nodes) (shown : cpu p ≡ cpu_seen s x.processor) where
  -- the page is moving: the walk is over
  pub walk_retried : (page : VPage) → TakenAt image s cpu home mover rest w p x message (kind.WalkRetry page)
  unfolding take_of has_row_for
  walk_retried page sim =
      let y : ProcessorState = record x.processor { walk = None } in
      let from : message.id.sender ≡ s.nodes = sim.flight.0.0.1.0 in
      let sim2 = subst (λ (a : ℕ). Shows image s cpu home mover (record { from = a; to = p; kind = kind_seen s (kind.WalkRetry page) } ∷ rest) w) from sim in
      let t = retry_taken (setup_seen s) (harts_seen image s) cpu home mover w p (page_number s page) rest sim2 lp in
      let e : option_map (page_number s) x.processor.walk ≡ Some (page_number s page) = ap (λ (c : Cpu Line Hart). c.walk) (sym shown) ∙ t.0 in
      let found = walk_found s x.processor.walk page is.walk e in (
        row_is x (of_kind message (kind.WalkRetry page)) (from_mover s p x message at_home (kind.WalkRetry page) refl from) refl refl found.1,
        goes_as image s cpu home mover rest w p x.processor (λ c. take_retry (setup_seen s) p c) (take_of image x.processor (kind.WalkRetry page)) shown t.1 (drops_given image s p y is.nodes is.tlb is.named is.drop) (drops_quiet image s p y x.processor refl),
      )

  -- the frame of the page goes into the TLB
  pub walk_answered : (page : VPage) (frame : Frame) → TakenAt image s cpu home mover rest w p x message (kind.Walked page frame)
  unfolding take_of has_row_for
  walk_answered page frame sim =
      let y : ProcessorState = record x.processor { tlb = tlb_filled x.processor.tlb page frame; walk = None } in
      let route = sim.flight.0.0.1 in
      let from : message.id.sender ≡ s.nodes = route.0 in
      let known : is_there s frame ≡ true = there_below s frame route.2 in
      let sim2 = subst (λ (a : ℕ). Shows image s cpu home mover (record { from = a; to = p; kind = kind_seen s (kind.Walked page frame) } ∷ rest) w) from sim in
      let w0 = (walk_taken (setup_seen s) (harts_seen image s) cpu home mover w p (page_number s page) (frame_number s frame) None rest sim2 lp).0 in
      let e : option_map (page_number s) x.processor.walk ≡ Some (page_number s page) = ap (λ (c : Cpu Line Hart). c.walk) (sym shown) ∙ w0 in
      let found = walk_found s x.processor.walk page is.walk e in
      let over : FillsOver s x.processor.tlb page frame = fill_over s x.processor.tlb page frame sizes is.tlb found.0 is.translated in
      let t = walk_taken (setup_seen s) (harts_seen image s) cpu home mover w p (page_number s page) (frame_number s frame) over.out rest sim2 lp in
      let names = fill_names s x.processor.tlb page frame is.tlb is.named known in
      let given : IsGiven s p (answer_drop p s.nodes (cpu_seen s y)) (drops image y) = drops_given image s p y is.nodes (tlb_fill_laws.sound x.processor.tlb page frame is.tlb) names is.drop in (
        row_is x (of_kind message (kind.Walked page frame)) (from_mover s p x message at_home (kind.Walked page frame) refl from) refl (frame_known s p x.home frame at_home known) found.1,
        goes_as image s cpu home mover rest w p x.processor (λ c. take_walked (setup_seen s) p c over.out (page_number s page) (frame_number s frame)) (take_of image x.processor (kind.Walked page frame)) shown t.1
            (subst (λ (t : ℕ → TlbEntry). IsGiven s p (answer_drop p s.nodes (record (cpu_seen s y) { tlb = t })) (drops image y)) (sym over.tlb_is) given)
            (drops_quiet image s p y x.processor refl),
      )

  -- a drop request meets none that is held
  pub drop_requested : (frame : Frame) → TakenAt image s cpu home mover rest w p x message (kind.DropFrame frame)
  unfolding take_of has_row_for
  drop_requested frame sim =
      let y : ProcessorState = record x.processor { drop = Some frame } in
      let route = sim.flight.0.0.1 in
      let from : message.id.sender ≡ s.nodes = route.0 in
      let known : is_there s frame ≡ true = there_below s frame route.2 in
      let sim2 = subst (λ (a : ℕ). Shows image s cpu home mover (record { from = a; to = p; kind = kind_seen s (kind.DropFrame frame) } ∷ rest) w) from sim in
      let t = drop_taken (setup_seen s) (harts_seen image s) cpu home mover w p (frame_number s frame) rest sim2 lp in
      let e : option_map (frame_number s) x.processor.drop ≡ None = ap (λ (c : Cpu Line Hart). c.drop) (sym shown) ∙ t.0 in (
        row_is x (of_kind message (kind.DropFrame frame)) (from_mover s p x message at_home (kind.DropFrame frame) refl from) refl (frame_known s p x.home frame at_home known) (none x.processor.drop e),
        goes_as image s cpu home mover rest w p x.processor (λ c. take_drop (setup_seen s) p c (frame_number s frame)) (take_of image x.processor (kind.DropFrame frame)) shown t.1
            (drops_given image s p y is.nodes is.tlb is.named (λ f same. (let one : frame ≡ f = cc in subst (λ (g : Frame). is_there s g ≡ true) one known))) (drops_quiet image s p y x.processor refl),
      )
    where
      none : (o : Option Frame) → option_map (frame_number s) o ≡ None → is_none_std o ≡ true
      none None e = refl
      none (Some f) e = absurd (cc)
