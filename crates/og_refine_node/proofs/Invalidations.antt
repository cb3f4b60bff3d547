-- A processor takes an invalidation: the copy goes, and a read is marked.
use Rattle.std.proofs.Common.{Bool, List, None, Option, Some, ap, arith, cond, false, nat_eq, not, option_map, refl, subst, sym, true, ℕ, ◌&&◌, ◌+◌, ◌/◌, ◌<◌, ◌∙◌, ◌∷◌, ◌≡◌}
use Rattle.std.proofs.lemmas.Bool.Decides.{nat_tests}
use Rattle.std.specs.Prelude.{if◌then◌else◌}
use Rattle.og_base.specs.declared.Block.{Block}
use Rattle.og_runs.specs.declared.Msg.{Msg}
use Rattle.og_line.specs.declared.Line.{Line}
use Rattle.og_msg.specs.declared.Kind.{Kind}
use Rattle.og_msg.specs.declared.Kind.TheVariants as kind
use Rattle.og_image.specs.Image.{ImageState}
use Rattle.og_cache.specs.Cache.{look_of, mode_of, without}
use Rattle.og_request.specs.Request.{Requested}
use Rattle.og_request.specs.declared.Want.{Want}
use Rattle.og_request.specs.declared.Want.TheVariants as want
use Rattle.og_owner.specs.Owner.{invalidated, is_read}
use Rattle.og_processor.specs.Rows.{has_row_for, is_exclusive}
use Rattle.og_processor.specs.Take.{take_of}
use Rattle.og_node.specs.Node.{NodeState}
use Rattle.og_block.specs.Rows.{has_exclusive, marked}
use Rattle.og_block.specs.State.{Copy, NoCopy}
use Rattle.og_pages.specs.State.{put_pair}
use Rattle.og_whole.specs.Events.{World}
use Rattle.og_relate.specs.Data.{Cpu, HomeSide, Mover, Post}
use Rattle.og_relate_node.proofs.Invalidations.{invalidation_taken}
use Rattle.og_relate_node.specs.Steps.{marked_at, take_invalidation}
use Rattle.og_seen.proofs.Caches.{take_out_seen}
use Rattle.og_seen.proofs.Numbers.{there_below}
use Rattle.og_seen.specs.Caches.{cache_seen, copy_seen}
use Rattle.og_seen.specs.Events.{Shows}
use Rattle.og_seen.specs.Harts.{Hart, harts_seen}
use Rattle.og_seen.specs.Messages.{kind_seen}
use Rattle.og_seen.specs.Numbers.{Sizes, frame_number, is_there, setup_seen}
use Rattle.og_seen.specs.Processors.{cpu_seen, request_seen, want_seen}
use Rattle.og_seen.specs.Sound.{IsBlock, IsHomeOf, IsProcessorOf}
use Rattle.og_refine_node.proofs.Facts.{block_known, block_test, cache_at, exclusive_seen, from_home, of_kind, row_is}
use Rattle.og_refine_node.proofs.Given.{TakenAt, goes_as}

-- what a mark changes of a request
marked_seen : (s : Sizes) (o : Option Requested) (block : Block) → ((r : Requested) → o ≡ Some r → IsBlock s r.block) → is_there s block.frame ≡ true →
    marked_at (frame_number s block.frame) block.number (option_map (request_seen s) o) ≡ option_map (request_seen s) (invalidated o block)
marked_seen s None block all known = refl
marked_seen s (Some r) block all known = subst (λ (t : Bool). Same (nat_eq (frame_number s r.block.frame) (frame_number s block.frame) && nat_eq r.block.number block.number) t) (sym (block_test s r.block block (all r refl).0 known)) (by r.want r.marked (nat_eq (frame_number s r.block.frame) (frame_number s block.frame) && nat_eq r.block.number block.number))
  where
    SameBy : Want → Bool → Bool → Bool → Type 0
    SameBy want m t u = cond t (Some (record (request_seen s r) { want = marked (want_seen want m) })) (Some (record (request_seen s r) { want = want_seen want m })) ≡ Some (request_seen s (if u && is_read want then record r { want = want; marked = true } else record r { want = want; marked = m }))

    Same : Bool → Bool → Type 0
    Same t u = SameBy r.want r.marked t u

    by : (want : Want) (m : Bool) (t : Bool) → SameBy want m t t
    by want m false = refl
    by want.Read m true = refl
    by want.ReadEx m true = refl
    by want.Upgrade m true = refl

module _ (image : ImageState) (s : Sizes) (cpu : ℕ → Cpu Line Hart) (home : ℕ → HomeSide Line) (mover : Mover Line) (rest : List (Post Line)) (w : World Line) (p : ℕ) (x : NodeState) (message : Msg Kind)
    (is : IsProcessorOf image s x.processor) (at_home : IsHomeOf s p x.home) (lp : p < s.nodes) (shown : cpu p ≡ cpu_seen s x.processor) where
  -- it meets no copy that may be written
  pub invalidation_requested : (block : Block) (requester : ℕ) → TakenAt image s cpu home mover rest w p x message (kind.Invalidate block requester)
  unfolding take_of has_row_for
  invalidation_requested block requester sim =
      let f : ℕ = frame_number s block.frame in
      let pl = sim.flight.0.0.0 in
      let route = sim.flight.0.0.1 in
      let from : message.id.sender ≡ f / s.frames = route.0 in
      let known : is_there s block.frame ≡ true = there_below s block.frame pl.0 in
      let nodes : x.home.rules.nodes ≡ s.nodes = at_home.nodes in
      let sim2 = subst (λ (a : ℕ). Shows image s cpu home mover (record { from = a; to = p; kind = kind_seen s (kind.Invalidate block requester) } ∷ rest) w) from sim in
      let t = invalidation_taken (setup_seen s) (harts_seen image s) cpu home mover w p requester f block.number rest sim2 lp in
      let a : has_exclusive (cache_seen s x.processor.cache f block.number) ≡ false = subst (λ (c : Cpu Line Hart). has_exclusive (c.cache f block.number) ≡ false) shown t.0 in
      let b : has_exclusive (copy_seen (look_of x.processor.cache block)) ≡ false = subst (λ (c : Copy Line). has_exclusive c ≡ false) (cache_at s x.processor.cache block known) a in
      let only : is_exclusive (mode_of x.processor.cache block) ≡ false = sym (exclusive_seen (look_of x.processor.cache block)) ∙ b in
      let ec : put_pair (cache_seen s x.processor.cache) f block.number NoCopy ≡ cache_seen s (without x.processor.cache block) = sym (take_out_seen s x.processor.cache block is.cache known) in
      let er : marked_at f block.number (option_map (request_seen s) x.processor.request) ≡ option_map (request_seen s) (invalidated x.processor.request block) = marked_seen s x.processor.request block is.request known in (
        row_is x (of_kind message (kind.Invalidate block requester)) (from_home s p x message at_home (kind.Invalidate block requester) f refl pl.0 from) (block_known s p x.home block at_home known pl.1) (let r : requester < s.nodes + 1 = route.2 in grind (arith, nat_tests)) (ap not only),
        goes_as image s cpu home mover rest w p x.processor (λ c. take_invalidation p f block.number requester c) (take_of image x.processor (kind.Invalidate block requester)) shown t.1
            (record { state = λ i. record (cpu_seen s x.processor) { cache = ec i; request = er i }; letters = refl }) refl,
      )
