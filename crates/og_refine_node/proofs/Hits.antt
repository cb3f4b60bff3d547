-- An access on a copy that is there.
use Rattle.std.proofs.Common.{Bool, List, None, Some, [], ap, arith, cond, false, nat_eq, not, option_map, refl, subst, sym, true, ℕ, ◌%◌, ◌/◌, ◌<◌, ◌∙◌, ◌∷◌, ◌≡◌}
use Rattle.std.proofs.lemmas.Bool.Decides.{nat_tests}
use Rattle.std.specs.Prelude.{if◌then◌else◌}
use Rattle.og_base.specs.declared.Block.{Block}
use Rattle.og_base.specs.declared.Frame.{Frame}
use Rattle.og_line.specs.Access.{addr_of, answer_of, is_write, line_after, reservation_after}
use Rattle.og_line.specs.declared.Access.{Access}
use Rattle.og_line.specs.declared.Line.{Line}
use Rattle.og_line.specs.declared.Mode.{Mode}
use Rattle.og_line.specs.declared.Mode.TheVariants as mode
use Rattle.og_msg.specs.declared.Note.TheVariants as note
use Rattle.og_image.specs.Image.{ImageState}
use Rattle.og_cache.proofs.Seen.{line_laws}
use Rattle.og_cache.specs.Cache.{look_of, with_line, with_mode}
use Rattle.og_tlb.specs.Tlb.{look_of as frame_of}
use Rattle.rv_hart.specs.Hart.{finish_of, need_of}
use Rattle.rv_hart.specs.declared.hart.Need.TheVariants as need
use Rattle.og_processor.specs.Access.{allows, block_in, completes, page_of, stores}
use Rattle.og_processor.specs.State.{Given, ProcessorState}
use Rattle.og_block.specs.Rows.{HasWritable}
use Rattle.og_block.specs.State.{Copy, Dirty}
use Rattle.og_pages.specs.State.{put_pair}
use Rattle.og_whole.specs.Events.{World}
use Rattle.og_relate.specs.Data.{Cpu, HomeSide, Mover, Post}
use Rattle.og_relate_node.proofs.Hits.{read_hits, write_hits}
use Rattle.og_relate_node.specs.Steps.{hit_with, line_of as seen_line_of}
use Rattle.og_seen.proofs.Caches.{line_seen, mode_seen}
use Rattle.og_seen.specs.Caches.{cache_seen, copy_in, copy_seen}
use Rattle.og_seen.specs.Events.{ProcessorGoes, Shows}
use Rattle.og_seen.specs.Harts.{Hart, harts_seen}
use Rattle.og_seen.specs.Numbers.{Sizes, frame_number, is_there, setup_seen}
use Rattle.og_seen.specs.Processors.{cpu_seen, hart_seen}
use Rattle.og_seen.specs.Sound.{IsProcessorOf}
use Rattle.og_refine_node.proofs.Facts.{cache_at}
use Rattle.og_refine_node.proofs.Given.{goes_quietly}
use Rattle.og_refine_node.proofs.Ready.{MayAct, copy_shown, frame_named, frame_shown, hart_is, line_is, line_stays, nothing_asked, number_small, page_is, stores_writes}

-- a value put where another was put, and one put where it is
put_again : {A : Type 0} → (g : ℕ → ℕ → A) (f k : ℕ) (a b : A) → put_pair (put_pair g f k a) f k b ≡ put_pair g f k b
put_again g f k a b = λ i. λ u. λ v. at u v (nat_eq u f) (nat_eq v k) i
  where
    at : (u v : ℕ) (t r : Bool) → cond t (cond r b (cond t (cond r a (g u v)) (g u v))) (cond t (cond r a (g u v)) (g u v)) ≡ cond t (cond r b (g u v)) (g u v)
    at u v true true = refl
    at u v true false = refl
    at u v false r = refl

put_own : {A : Type 0} → (g : ℕ → ℕ → A) (f k : ℕ) → put_pair g f k (g f k) ≡ g
put_own g f k = λ i. λ u. λ v. at u v (nat_eq u f) (nat_eq v k) refl refl i
  where
    at : (u v : ℕ) (t r : Bool) → nat_eq u f ≡ t → nat_eq v k ≡ r → cond t (cond r (g f k) (g u v)) (g u v) ≡ g u v
    at u v true true e1 e2 = let a : u ≡ f = grind (arith, nat_tests) in let b : v ≡ k = grind (arith, nat_tests) in cc
    at u v true false e1 e2 = refl
    at u v false r e1 e2 = refl

module _ (image : ImageState) (s : Sizes) (cpu : ℕ → Cpu Line Hart) (home : ℕ → HomeSide Line) (mover : Mover Line) (rest : List (Post Line)) (w : World Line) (p : ℕ) (x : ProcessorState)
    (is : IsProcessorOf image s x) (lp : p < s.nodes) (shown : cpu p ≡ cpu_seen s x) (may : MayAct image x) (sim : Shows image s cpu home mover rest w)
    (access : Access) (needs : need_of image x.hart ≡ need.Access access) (frame : Frame) (there : frame_of x.tlb (page_of (addr_of access)) ≡ Some frame) where
  abbrev block : Block
  block = block_in frame (addr_of access)

  abbrev f : ℕ
  f = frame_number s frame

  abbrev k : ℕ
  k = addr_of access / 128 % 32

  known : is_there s frame ≡ true
  known = frame_named image s cpu p x is shown access needs frame there

  -- ---- the copy is there, and enough for the access

  module _ (m : Mode) (l : Line) (look : look_of x.cache block ≡ Some (m, l)) (enough : allows (Some m) access ≡ true) where
    abbrev new : Line
    new = line_after l x.reserved access

    lined : look_of (with_line x.cache block new) block ≡ Some (m, new)
    lined = line_laws.own x.cache block new is.cache ∙ ap (option_map (λ copy. (copy.0, new))) look

    -- a store leaves it dirty
    stored : cache_seen s (with_mode (with_line x.cache block new) block mode.Dirty) ≡ put_pair (cache_seen s x.cache) f k (Dirty new)
    stored = mode_seen s (with_line x.cache block new) block m mode.Dirty new (line_laws.sound x.cache block new is.cache) known lined
        ∙ ap (λ (c : ℕ → ℕ → Copy Line). put_pair c f k (Dirty new)) (line_seen s x.cache block m l new is.cache known look) ∙ put_again (cache_seen s x.cache) f k (copy_in m new) (Dirty new)

    -- and all else leaves it as it is
    read : new ≡ l → cache_seen s (with_line x.cache block new) ≡ cache_seen s x.cache
    read same = line_seen s x.cache block m l new is.cache known look ∙ ap (λ (v : Line). put_pair (cache_seen s x.cache) f k (copy_in m v)) same
        ∙ ap (λ (c : Copy Line). put_pair (cache_seen s x.cache) f k c) (sym (cache_at s x.cache block known ∙ ap copy_seen look)) ∙ put_own (cache_seen s x.cache) f k

    -- a copy that is enough for an access that may write may be written, and each copy has its line
    writable : (m : Mode) → allows (Some m) access ≡ true → is_write access ≡ true → HasWritable (copy_in m l) l
    writable mode.Shared e wr = absurd (let a : not (is_write access) ≡ false = ap not wr in cc)
    writable mode.Clean e wr = refl
    writable mode.Dirty e wr = refl

    line_there : (m : Mode) → seen_line_of (copy_in m l) ≡ Some l
    line_there mode.Shared = refl
    line_there mode.Clean = refl
    line_there mode.Dirty = refl

    -- what the access leaves
    abbrev done : Bool → Given
    done t = record {
      state = record x {
        hart = finish_of image x.hart (answer_of l x.reserved access);
        reserved = reservation_after l x.reserved access;
        cache = if t then with_mode (with_line x.cache block new) block mode.Dirty else with_line x.cache block new;
      };
      letters = [];
      note = Some (note.Access access (answer_of l x.reserved access));
    }

    pub hit_made : ProcessorGoes image s cpu home mover rest w p x (completes image x block l access)
    hit_made = by (stores l x.reserved access) refl
      where
        copied : (cpu p).cache f k ≡ copy_in m l
        copied = copy_shown image s cpu p x is shown access needs frame there ∙ ap copy_seen look

        by : (t : Bool) → stores l x.reserved access ≡ t → ProcessorGoes image s cpu home mover rest w p x (done t)
        by true t =
            let wr : is_write access ≡ true = stores_writes l x.reserved access t in
            let own : HasWritable ((cpu p).cache f k) l = subst (λ (c : Copy Line). HasWritable c l) (sym copied) (writable m enough wr) in
            let goes = write_hits (setup_seen s) (harts_seen image s) cpu home mover w p f k l rest sim lp (nothing_asked image s cpu p x is shown may) (frame_shown image s cpu p x is shown access needs frame there) (number_small (addr_of access)) own in
            let eh = hart_is image s x access needs l in
            let el = line_is image s x access needs l in
            let ec : put_pair (cache_seen s x.cache) f k (Dirty ((harts_seen image s).line_after (hart_seen x) l)) ≡ cache_seen s (with_mode (with_line x.cache block new) block mode.Dirty) = ap (λ (v : Line). put_pair (cache_seen s x.cache) f k (Dirty v)) el ∙ sym stored in
            goes_quietly image s cpu home mover rest w p x (λ c. hit_with (harts_seen image s) c f k l true) (done true) (λ c. record { page = (harts_seen image s).page c.hart; number = k; found = l; left = Some ((harts_seen image s).line_after c.hart l) } ∷ []) shown goes
            (λ i. record (cpu_seen s x) { hart = eh i; cache = ec i }) refl
            (record { needs = needs; page = page_is image s x access needs; number = refl; answer_is = refl; left_is = el; reserved_is = refl })
        by false t =
            let same : new ≡ l = line_stays l x.reserved access t in
            let goes = read_hits (setup_seen s) (harts_seen image s) cpu home mover w p f k l (copy_in m l) rest sim lp (nothing_asked image s cpu p x is shown may) (frame_shown image s cpu p x is shown access needs frame there) (number_small (addr_of access)) copied (line_there m) in
            let eh = hart_is image s x access needs l in
            let ec = sym (read same) in
            goes_quietly image s cpu home mover rest w p x (λ c. hit_with (harts_seen image s) c f k l false) (done false) (λ c. record { page = (harts_seen image s).page c.hart; number = k; found = l; left = None } ∷ []) shown goes
            (λ i. record (cpu_seen s x) { hart = eh i; cache = ec i }) refl
            (record { needs = needs; page = page_is image s x access needs; number = refl; answer_is = refl; left_is = sym same; reserved_is = refl })
