-- What the parts of a request make of it is what the machine of functions makes of it.
use Rattle.std.proofs.Common.{not, arith, ◌≡◌, ◌≢◌, ℕ, ◌/◌, ◌%◌, Bool, true, false, refl, sym, ap, ◌∙◌, subst, Option, None, Some, List, [], ◌∷◌, ◌++◌}
use Rattle.og_base.specs.declared.VPage.{VPage}
use Rattle.og_base.specs.declared.Block.{Block}
use Rattle.og_line.specs.declared.Line.{Line}
use Rattle.og_line.specs.declared.Mode.{Mode}
use Rattle.og_line.specs.declared.Mode.TheVariants as mode
use Rattle.og_line.specs.declared.Reservation.{Reservation}
use Rattle.og_line.specs.declared.Access.{Access}
use Rattle.og_line.specs.Access.{is_write, addr_of, answer_of, line_after, reservation_after}
use Rattle.og_msg.specs.declared.Note.{Note}
use Rattle.og_image.specs.Image.{ImageState}
use Rattle.og_block.specs.State.{Copy, Dirty}
use Rattle.og_pages.specs.State.{put, put_pair, TlbEntry, NoEntry}
use Rattle.og_base.specs.Names.{is_same_page}
use Rattle.og_base.proofs.SameNames.{same_page, is_same_page-self}
use Rattle.og_cache.specs.Cache.{IsCache, without}
use Rattle.og_cache.proofs.Seen.{take_out_laws}
use Rattle.og_tlb.proofs.Seen.{page_drop_laws}
use Rattle.og_tlb.specs.Tlb.{IsTlb, look_of as frame_of, without_page}
use Rattle.og_request.specs.declared.Want.{Want}
use Rattle.og_request.specs.declared.Want.TheVariants.{Read, ReadEx, Upgrade}
use Rattle.og_request.specs.declared.Outcome.TheVariants.{Waiting, Filled, Again, Poisoned}
use Rattle.og_request.specs.Request.{Requested}
use Rattle.og_victim.specs.declared.Slot.{Slot}
use Rattle.og_victim.specs.Slot.{is_slot_of}
use Rattle.rv_hart.specs.declared.hart.Need.{Need}
use Rattle.rv_hart.specs.Hart.{need_of, finish_of}
use Rattle.og_processor.specs.State.{ProcessorState, Given, becomes, and_then, either_note}
use Rattle.og_processor.specs.Access.{page_of, cache_after, completes}
use Rattle.og_processor.specs.Take.{put_line, makes, tries_again, forgets, settles, answers_held, drops, goes_on}
use Rattle.og_processor.specs.Sound.{IsWaiting}
use Rattle.og_relate.specs.Data.{Post, Cpu}
use Rattle.og_relate.specs.Goes.{Made}
use Rattle.og_relate.specs.Node.{Waits, Writes, TriesAgain, Drops, Forgets, filled, ended, dropped, forget_page, read_made, write_made, outcome_made, tail, settle_by}
use Rattle.og_seen.specs.Numbers.{Sizes, is_there, page_number, setup_seen}
use Rattle.og_seen.specs.Caches.{copy_in, cache_seen}
use Rattle.og_seen.specs.Tlbs.{tlb_seen, NamesFrames}
use Rattle.og_seen.specs.Messages.{frame_of_block, letters_seen}
use Rattle.og_seen.specs.Harts.{Hart, access_in, access_of, page_wanted, number_wanted, only_reads, hart_left, line_left, harts_seen}
use Rattle.og_seen.specs.Processors.{held_seen, request_seen, hart_seen, cpu_seen, IsNoted, NotesBy, Notes}
use Rattle.og_seen.specs.Sound.{AreSizes, IsBlock, IsProcessorOf}
use Rattle.og_seen.proofs.Tlbs.{drop_page_seen}
use Rattle.og_seen.proofs.Caches.{take_out_seen}
use Rattle.og_seen.proofs.Pages.{is_numbered, pages_differ, needed_placed}
use Rattle.og_refine_requester.proofs.Fills.{IsPut, put_line_of, accessed, read_only, reads_leave}
use Rattle.og_refine_requester.proofs.Drops.{IsSeen}
use Rattle.og_refine_requester.proofs.Tail.{tail_seen}

-- what a processor gives is this answer, and it notes the accesses that are made
pub record Agrees (image : ImageState) (s : Sizes) (p : ℕ) (x : ProcessorState) (given : Given) (answer : Cpu Line Hart × List (Post Line)) (made : List (Made Line)) : Type 0 where
  pub state : cpu_seen s given.state ≡ answer.0
  pub letters : letters_seen s p given.letters ≡ answer.1
  pub notes : Notes image s x made given

-- a request that is over, without what follows
record IsOver (image : ImageState) (s : Sizes) (x : ProcessorState) (one : Given) (mid : Cpu Line Hart) (made : List (Made Line)) : Type 0 where
  pub state : cpu_seen s one.state ≡ mid
  pub letters : one.letters ≡ []
  pub cache : IsCache one.state.cache
  pub tlb : IsTlb one.state.tlb
  pub named : NamesFrames s one.state.tlb
  pub drop : one.state.drop ≡ x.drop
  pub victim : one.state.victim ≡ x.victim
  pub notes : Notes image s x made one

-- what follows notes nothing
no_more : (a b : Option Note) → b ≡ None → either_note a b ≡ a
no_more (Some n) b e = refl
no_more None b e = e

module _ (image : ImageState) (s : Sizes) (p : ℕ) (x : ProcessorState) (t r : Requested) (sizes : AreSizes s) (is : IsProcessorOf image s x) (rq : x.request ≡ Some t) (rb : r.block ≡ t.block) (slot : is_slot_of x.victim r.block ≡ false) where
  -- the hart waits for its access to the block
  pub wait : IsWaiting image x r.block
  wait = subst (λ (b : Block). IsWaiting image x b) (sym rb) (is.sound t rq)

  -- the machine has the block
  pub there : IsBlock s r.block
  there = subst (λ (b : Block). IsBlock s b) (sym rb) (is.request t rq)

  -- the access is the one that is seen
  access_is : access_of image (hart_seen x) ≡ Some wait.access
  access_is = ap access_in wait.needs

  -- its page
  page_is : page_wanted s (access_of image (hart_seen x)) ≡ page_number s (page_of (addr_of wait.access))
  page_is = ap (page_wanted s) access_is

  -- and the number of its block
  number_is : r.block.number ≡ addr_of wait.access / 128 % 32
  number_is = ap (λ (b : Block). b.number) rb ∙ (is.wanted t rq ∙ ap number_wanted access_is)

  -- an access that only reads
  reading : only_reads (access_of image (hart_seen x)) ≡ true → is_write wait.access ≡ false
  reading e = let n : not (is_write wait.access) ≡ true = sym (ap only_reads access_is) ∙ e in grind arith

  -- and then the request's held intervention and the held drop
  over : (one : Given) (mid : Cpu Line Hart) (made : List (Made Line)) → IsOver image s x one mid made →
      Agrees image s p x (and_then one (λ y. and_then (answers_held y r.block r.held) (λ z. drops image z))) (tail (setup_seen s) p (frame_of_block s r.block) r.block.number (held_seen s r.held) mid) made
  over one mid made o =
      let y : ProcessorState = one.state in
      let two : IsSeen s p y (and_then (answers_held y r.block r.held) (λ z. drops image z)) (tail (setup_seen s) p (frame_of_block s r.block) r.block.number (held_seen s r.held) (cpu_seen s y)) =
      tail_seen image s p y r.block r.held is.nodes o.cache o.tlb o.named (λ frame e. is.drop frame (sym o.drop ∙ e)) there.0 (ap (λ (v : Slot). is_slot_of v r.block) o.victim ∙ slot) in
      let after : Given = and_then (answers_held y r.block r.held) (λ z. drops image z) in
      record {
        state = two.state ∙ ap (λ (c : Cpu Line Hart). (tail (setup_seen s) p (frame_of_block s r.block) r.block.number (held_seen s r.held) c).0) o.state;
        letters = ap (λ (ls : List _). letters_seen s p (ls ++ after.letters)) o.letters ∙ (two.letters ∙ ap (λ (c : Cpu Line Hart). (tail (setup_seen s) p (frame_of_block s r.block) r.block.number (held_seen s r.held) c).1) o.state);
        notes = subst (λ (n : Option Note). NotesBy image s x after.state.reserved made n) (sym (no_more one.note after.note two.note)) (subst (λ (v : Option Reservation). NotesBy image s x v made one.note) (sym two.reserved) o.notes);
      }

  -- the access of the hart is made on a line that was filled
  filled_over : (m n : Mode) (line : Option Line) (l new : Line) (made : Made Line) → IsPut s x.cache (put_line x.cache r.block m line) r.block m l →
      IsPut s x.cache (cache_after (put_line x.cache r.block m line) r.block l x.reserved wait.access) r.block n new →
      IsNoted image s x (reservation_after l x.reserved wait.access) made wait.access (answer_of l x.reserved wait.access) →
      IsOver image s x (settles image (record x { request = None }) r (Filled m line)) (filled (harts_seen image s) (cpu_seen s (record x { request = Some r })) (request_seen s r) (copy_in n new) l) (made ∷ [])
  filled_over m n line l new made put after noted = subst (λ (g : Given). IsOver image s x g mid (made ∷ [])) (sym same) done
    where
      z : ProcessorState
      z = record x { request = None; cache = put_line x.cache r.block m line }

      mid : Cpu Line Hart
      mid = filled (harts_seen image s) (cpu_seen s (record x { request = Some r })) (request_seen s r) (copy_in n new) l

      same : settles image (record x { request = None }) r (Filled m line) ≡ completes image z r.block l wait.access
      same = ap (λ (o : Option Line). makes image z r.block o (need_of image x.hart)) (put_line_of s x.cache (put_line x.cache r.block m line) r.block m l put) ∙ ap (λ (q : Need). makes image z r.block (Some l) q) wait.needs

      hart : record { state = finish_of image x.hart (answer_of l x.reserved wait.access); reserved = reservation_after l x.reserved wait.access } ≡ hart_left image (hart_seen x) (access_of image (hart_seen x)) l
      hart = sym (ap (λ (o : Option Access). hart_left image (hart_seen x) o l) access_is)

      done : IsOver image s x (completes image z r.block l wait.access) mid (made ∷ [])
      done = record {
        state = ap (λ (c : ℕ → ℕ → Copy Line). record (cpu_seen s z) { hart = record { state = finish_of image x.hart (answer_of l x.reserved wait.access); reserved = reservation_after l x.reserved wait.access }; cache = c }) after.seen
            ∙ ap (λ (h : Hart). record (cpu_seen s z) { hart = h; cache = put_pair (cache_seen s x.cache) (frame_of_block s r.block) r.block.number (copy_in n new) }) hart;
        letters = refl;
        cache = after.sound;
        tlb = is.tlb;
        named = is.named;
        drop = refl;
        victim = refl;
        notes = noted;
      }

  -- a fill of the only copy, which is dirty after the access
  pub writes_over : (line : Option Line) (l : Line) → IsPut s x.cache (put_line x.cache r.block mode.Dirty line) r.block mode.Dirty l →
      Agrees image s p x (goes_on image x r (Filled mode.Dirty line)) (settle_by (setup_seen s) (harts_seen image s) p (frame_of_block s r.block) r.block.number (cpu_seen s (record x { request = Some r })) (request_seen s r) (Writes l))
      (outcome_made (harts_seen image s) (cpu_seen s (record x { request = Some r })) r.block.number (Writes l))
  writes_over line l put = over (settles image (record x { request = None }) r (Filled mode.Dirty line)) mid (made ∷ []) done
    where
      c : Cpu Line Hart
      c = cpu_seen s (record x { request = Some r })

      left : Line
      left = line_left (access_of image (hart_seen x)) x.reserved l

      made : Made Line
      made = write_made (harts_seen image s) c r.block.number l

      mid : Cpu Line Hart
      mid = filled (harts_seen image s) c (request_seen s r) (Dirty left) l

      left_is : line_after l x.reserved wait.access ≡ left
      left_is = sym (ap (λ (o : Option Access). line_left o x.reserved l) access_is)

      noted : IsNoted image s x (reservation_after l x.reserved wait.access) made wait.access (answer_of l x.reserved wait.access)
      noted = record { needs = wait.needs; page = page_is; number = number_is; answer_is = refl; left_is = sym left_is; reserved_is = refl }

      done : IsOver image s x (settles image (record x { request = None }) r (Filled mode.Dirty line)) mid (made ∷ [])
      done = subst (λ (v : Line). IsOver image s x (settles image (record x { request = None }) r (Filled mode.Dirty line)) (filled (harts_seen image s) c (request_seen s r) (Dirty v) l) (made ∷ [])) left_is
          (filled_over mode.Dirty mode.Dirty line l (line_after l x.reserved wait.access) made put (accessed s x.cache (put_line x.cache r.block mode.Dirty line) r.block l x.reserved wait.access there.0 put) noted)

  -- a fill of a copy that is read
  pub reads_over : (m : Mode) (l : Line) → only_reads (access_of image (hart_seen x)) ≡ true → IsPut s x.cache (put_line x.cache r.block m (Some l)) r.block m l →
      Agrees image s p x (goes_on image x r (Filled m (Some l))) (tail (setup_seen s) p (frame_of_block s r.block) r.block.number (held_seen s r.held) (filled (harts_seen image s) (cpu_seen s (record x { request = Some r })) (request_seen s r) (copy_in m l) l))
      (read_made (harts_seen image s) (cpu_seen s (record x { request = Some r })) r.block.number l ∷ [])
  reads_over m l only put = over (settles image (record x { request = None }) r (Filled m (Some l))) mid (made ∷ []) done
    where
      reads : is_write wait.access ≡ false
      reads = reading only

      c : Cpu Line Hart
      c = cpu_seen s (record x { request = Some r })

      made : Made Line
      made = read_made (harts_seen image s) c r.block.number l

      mid : Cpu Line Hart
      mid = filled (harts_seen image s) c (request_seen s r) (copy_in m l) l

      noted : IsNoted image s x (reservation_after l x.reserved wait.access) made wait.access (answer_of l x.reserved wait.access)
      noted = record { needs = wait.needs; page = page_is; number = number_is; answer_is = refl; left_is = sym (reads_leave l x.reserved wait.access reads).1; reserved_is = refl }

      done : IsOver image s x (settles image (record x { request = None }) r (Filled m (Some l))) mid (made ∷ [])
      done = filled_over m m (Some l) l l made put (read_only s x.cache (put_line x.cache r.block m (Some l)) r.block m l x.reserved wait.access there.0 reads put) noted

  -- ---- the ends that make no access

  -- the hart asks again
  pub again_over : r.want ≢ Upgrade →
      Agrees image s p x (goes_on image x r Again) (settle_by (setup_seen s) (harts_seen image s) p (frame_of_block s r.block) r.block.number (cpu_seen s (record x { request = Some r })) (request_seen s r) TriesAgain) []
  again_over other = over (settles image (record x { request = None }) r Again) (ended (cpu_seen s (record x { request = Some r }))) [] (by r.want refl)
    where
      stays : IsOver image s x (becomes (record x { request = None })) (ended (cpu_seen s (record x { request = Some r }))) []
      stays = record { state = refl; letters = refl; cache = is.cache; tlb = is.tlb; named = is.named; drop = refl; victim = refl; notes = refl }

      by : (w : Want) → r.want ≡ w → IsOver image s x (tries_again (record x { request = None }) w r.block) (ended (cpu_seen s (record x { request = Some r }))) []
      by Read e = stays
      by ReadEx e = stays
      by Upgrade e = absurd (other e)

  -- a refused upgrade drops its copy
  pub drops_over : r.want ≡ Upgrade →
      Agrees image s p x (goes_on image x r Again) (settle_by (setup_seen s) (harts_seen image s) p (frame_of_block s r.block) r.block.number (cpu_seen s (record x { request = Some r })) (request_seen s r) Drops) []
  drops_over upgrade = over (settles image (record x { request = None }) r Again) mid [] (subst (λ (w : Want). IsOver image s x (tries_again (record x { request = None }) w r.block) mid []) (sym upgrade) gone)
    where
      mid : Cpu Line Hart
      mid = dropped (cpu_seen s (record x { request = Some r })) (frame_of_block s r.block) r.block.number

      gone : IsOver image s x (becomes (record x { request = None; cache = without x.cache r.block })) mid []
      gone = record {
        state = ap (λ (c : ℕ → ℕ → Copy Line). record (cpu_seen s (record x { request = None })) { cache = c }) (take_out_seen s x.cache r.block is.cache there.0);
        letters = refl;
        cache = take_out_laws.sound x.cache r.block is.cache;
        tlb = is.tlb;
        named = is.named;
        drop = refl;
        victim = refl;
        notes = refl;
      }

  -- the page has moved away
  pub forgets_over :
      Agrees image s p x (goes_on image x r Poisoned) (settle_by (setup_seen s) (harts_seen image s) p (frame_of_block s r.block) r.block.number (cpu_seen s (record x { request = Some r })) (request_seen s r) Forgets) []
  forgets_over = over (settles image (record x { request = None }) r Poisoned) mid [] (subst (λ (n : Need). IsOver image s x (forgets (record x { request = None }) n) mid []) (sym wait.needs) gone)
    where
      page : VPage
      page = page_of (addr_of wait.access)

      mid : Cpu Line Hart
      mid = forget_page (harts_seen image s) (ended (cpu_seen s (record x { request = Some r })))

      seen : tlb_seen s (without_page x.tlb page) ≡ put (tlb_seen s x.tlb) (page_wanted s (access_of image (hart_seen x))) NoEntry
      seen = drop_page_seen s x.tlb page (page_number s page) (pages_differ s sizes) is.tlb (is_numbered s page (needed_placed image s x wait.access is wait.needs)) ∙ ap (λ (y : ℕ). put (tlb_seen s x.tlb) y NoEntry) (sym page_is)

      named : NamesFrames s (without_page x.tlb page)
      named other frame e = by (is_same_page other page) refl
        where
          by : (u : Bool) → is_same_page other page ≡ u → is_there s frame ≡ true
          by true same = let o : other ≡ page = same_page other page same in absurd (let none : frame_of (without_page x.tlb page) other ≡ None = ap (λ (q : VPage). frame_of (without_page x.tlb page) q) o ∙ page_drop_laws.own x.tlb page is.tlb in cc)
          by false differ = is.named other frame (sym (page_drop_laws.others x.tlb page other is.tlb (λ o. absurd (let u : is_same_page other page ≡ true = ap (λ (q : VPage). is_same_page q page) o ∙ is_same_page-self page in cc))) ∙ e)

      gone : IsOver image s x (becomes (record x { request = None; tlb = without_page x.tlb page })) mid []
      gone = record {
        state = ap (λ (f : ℕ → TlbEntry). record (cpu_seen s (record x { request = None })) { tlb = f }) seen;
        letters = refl;
        cache = is.cache;
        tlb = page_drop_laws.sound x.tlb page is.tlb;
        named = named;
        drop = refl;
        victim = refl;
        notes = refl;
      }

  -- the request waits for more
  pub waits_on :
      Agrees image s p x (goes_on image x r Waiting) (settle_by (setup_seen s) (harts_seen image s) p (frame_of_block s r.block) r.block.number (cpu_seen s (record x { request = Some r })) (request_seen s r) Waits) []
  waits_on = record { state = refl; letters = refl; notes = refl }
