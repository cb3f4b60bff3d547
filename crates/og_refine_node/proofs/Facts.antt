-- Blocks and frames by number, and that a message has its row, part by part.
use Rattle.std.proofs.Common.{Bool, None, Option, Some, ap, arith, cond, false, nat_eq, nat_lt, option_map, refl, sym, true, ℕ, ◌&&◌, ◌/◌, ◌<◌, ◌∙◌, ◌≡◌}
use Rattle.std.proofs.lemmas.Bool.{and_from}
use Rattle.std.proofs.lemmas.Bool.Decides.{nat_tests}
use Rattle.og_base.proofs.SameNames.{is_same_block-self, same_block}
use Rattle.og_base.specs.Names.{is_same_block}
use Rattle.og_base.specs.declared.Block.{Block}
use Rattle.og_base.specs.declared.Frame.{Frame}
use Rattle.og_runs.specs.declared.Msg.{Msg}
use Rattle.og_line.specs.declared.Line.{Line}
use Rattle.og_line.specs.declared.Mode.{Mode}
use Rattle.og_line.specs.declared.Mode.TheVariants as mode
use Rattle.og_msg.specs.Kinds.{block_of, is_from_mover}
use Rattle.og_msg.specs.declared.Kind.{Kind}
use Rattle.og_cache.specs.Cache.{Cached, look_of}
use Rattle.og_home.specs.Home.{HomeState}
use Rattle.og_processor.specs.Rows.{has_row_for, is_exclusive, is_shared}
use Rattle.og_node.specs.Node.{NodeState}
use Rattle.og_node.specs.Rows.{has_processor_row, is_block, is_frame, is_from_its_sender, names_known}
use Rattle.og_block.specs.Rows.{has_exclusive}
use Rattle.og_block.specs.State.{NoCopy}
use Rattle.og_block.specs.Views.{is_shared as is_shared_copy}
use Rattle.og_relate.specs.Data.{IsSetup}
use Rattle.og_seen.proofs.Numbers.{at_number, frame_there, number_below, there}
use Rattle.og_seen.specs.Caches.{cache_seen, copy_in, copy_seen}
use Rattle.og_seen.specs.Numbers.{Sizes, block_at, frame_at, frame_count, frame_number, is_there, setup_seen}
use Rattle.og_seen.specs.Sound.{IsHomeOf}

-- two tests that pass together are one
pub same_tests : (a b : Bool) → (a ≡ true → b ≡ true) → (b ≡ true → a ≡ true) → a ≡ b
same_tests true b f g = sym (f refl)
same_tests false true f g = g refl
same_tests false false f g = refl

-- two frames with one number are one
pub one_frame : (s : Sizes) (a b : Frame) → is_there s a ≡ true → is_there s b ≡ true → frame_number s a ≡ frame_number s b → a ≡ b
one_frame s a b there too e = sym (at_number s a there) ∙ ap (frame_at s) e ∙ at_number s b too

-- and so are two blocks
pub one_block : (s : Sizes) (a b : Block) → is_there s a.frame ≡ true → is_there s b.frame ≡ true → frame_number s a.frame ≡ frame_number s b.frame → a.number ≡ b.number → a ≡ b
one_block s a b there too ef en = let e : a.frame ≡ b.frame = one_frame s a.frame b.frame there too ef in λ i. record { frame = e i; number = en i }

-- blocks are the same where their numbers are
pub block_test : (s : Sizes) (a b : Block) → is_there s a.frame ≡ true → is_there s b.frame ≡ true → is_same_block a b ≡ (nat_eq (frame_number s a.frame) (frame_number s b.frame) && nat_eq a.number b.number)
block_test s a b there too = same_tests (is_same_block a b) (nat_eq (frame_number s a.frame) (frame_number s b.frame) && nat_eq a.number b.number)
    (λ t. let same : a ≡ b = same_block a b t in let ef : frame_number s a.frame ≡ frame_number s b.frame = ap (λ (c : Block). frame_number s c.frame) same in let en : a.number ≡ b.number = ap (λ (c : Block). c.number) same in grind (arith, nat_tests))
    (λ t. let ef : frame_number s a.frame ≡ frame_number s b.frame = grind (arith, nat_tests) in let en : a.number ≡ b.number = grind (arith, nat_tests) in ap (is_same_block a) (sym (one_block s a b there too ef en)) ∙ is_same_block-self a)

-- the home of a frame
pub home_is : (s : Sizes) (frame : Frame) → is_there s frame ≡ true → frame_number s frame / s.frames ≡ frame.home
home_is s frame there = ap (λ (f : Frame). f.home) (at_number s frame there)

pub home_below : (s : Sizes) → IsSetup (setup_seen s)
home_below s f lt = (there s (frame_at s f) (frame_there s f lt)).0

-- ---- the parts of a row

-- the node knows the frame, and the block
pub frame_known : (s : Sizes) (p : ℕ) (home : HomeState) (frame : Frame) → IsHomeOf s p home → is_there s frame ≡ true → is_frame home frame ≡ true
frame_known s p home frame is there = let a = is.nodes in let b = is.frames in let n : home.rules.nodes ≡ s.nodes = is.nodes in let f : home.rules.frames ≡ s.frames = is.frames in cc

pub block_known : (s : Sizes) (p : ℕ) (home : HomeState) (block : Block) → IsHomeOf s p home → is_there s block.frame ≡ true → block.number < 32 → is_block home (Some block) ≡ true
block_known s p home block is there lt = let f : is_frame home block.frame ≡ true = frame_known s p home block.frame is there in and_from (is_frame home block.frame) (nat_lt block.number 32) f (grind (arith, nat_tests))

-- the message of this kind
abbrev pub of_kind : Msg Kind → Kind → Msg Kind
of_kind message kind = record message { kind = kind }

-- a row has four parts
pub row_is : (x : NodeState) (message : Msg Kind) → is_from_its_sender x.home.rules.nodes message ≡ true → is_block x.home (block_of message.kind) ≡ true → names_known x.home message.kind ≡ true → has_row_for x.processor message.kind ≡ true → has_processor_row x message ≡ true
row_is x message sender block names row = and_from _ _ sender (and_from _ _ block (and_from _ _ names row))

-- ---- what is seen at a block

-- the block with the number of one that there is
own_block : (s : Sizes) (block : Block) → is_there s block.frame ≡ true → block_at s (frame_number s block.frame) block.number ≡ block
own_block s block known = ap (λ (f : Frame). record { frame = f; number = block.number }) (at_number s block.frame known)

-- of a block that there is a cache shows its copy
pub cache_at : (s : Sizes) (cache : Cached) (block : Block) → is_there s block.frame ≡ true → cache_seen s cache (frame_number s block.frame) block.number ≡ copy_seen (look_of cache block)
cache_at s cache block known =
    let lt : nat_lt (frame_number s block.frame) (frame_count s) ≡ true = (let a = number_below s block.frame known in grind (arith, nat_tests)) in
    ap (λ a. cond a (copy_seen (look_of cache (block_at s (frame_number s block.frame) block.number))) NoCopy) lt ∙ ap (λ b. copy_seen (look_of cache b)) (own_block s block known)

-- a shared copy, and one that may be written, are seen as such
pub shared_seen : (o : Option (Mode × Line)) → is_shared_copy (copy_seen o) ≡ is_shared (option_map (λ copy. copy.0) o)
shared_seen None = refl
shared_seen (Some copy) = by copy.0
  where
    by : (m : Mode) → is_shared_copy (copy_in m copy.1) ≡ is_shared (Some m)
    by mode.Shared = refl
    by mode.Clean = refl
    by mode.Dirty = refl

pub exclusive_seen : (o : Option (Mode × Line)) → has_exclusive (copy_seen o) ≡ is_exclusive (option_map (λ copy. copy.0) o)
exclusive_seen None = refl
exclusive_seen (Some copy) = by copy.0
  where
    by : (m : Mode) → has_exclusive (copy_in m copy.1) ≡ is_exclusive (Some m)
    by mode.Shared = refl
    by mode.Clean = refl
    by mode.Dirty = refl

-- ---- who sends a message to a processor

module _ (s : Sizes) (p : ℕ) (x : NodeState) (message : Msg Kind) (at_home : IsHomeOf s p x.home) where
  pub from_mover : (k : Kind) → is_from_mover k ≡ true → message.id.sender ≡ s.nodes → is_from_its_sender x.home.rules.nodes (of_kind message k) ≡ true
  from_mover k m e = let n : x.home.rules.nodes ≡ s.nodes = at_home.nodes in rw m (grind (arith, nat_tests))

  pub from_home : (k : Kind) (f : ℕ) → is_from_mover k ≡ false → f < frame_count s → message.id.sender ≡ f / s.frames → is_from_its_sender x.home.rules.nodes (of_kind message k) ≡ true
  from_home k f m lt e = let n : x.home.rules.nodes ≡ s.nodes = at_home.nodes in let b : f / s.frames < s.nodes = home_below s f lt in rw m (grind (arith, nat_tests))
