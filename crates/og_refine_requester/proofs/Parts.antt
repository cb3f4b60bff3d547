-- Each kind of part is taken.
use Rattle.std.proofs.Common.{◌≡◌, ℕ, ◌<◌, true, refl, sym, subst, List, ◌∷◌}
use Rattle.og_base.specs.declared.Block.{Block}
use Rattle.og_runs.specs.declared.Msg.{Msg}
use Rattle.og_line.specs.declared.Line.{Line}
use Rattle.og_msg.specs.declared.Kind.{Kind}
use Rattle.og_msg.specs.declared.Kind.TheVariants.{SharedReply, SpecReply, ExclusiveReply, UpgradeReply, Nak, PoisonError, InvalAck, SharedResponse, ExclusiveResponse, OwnerAck}
use Rattle.og_image.specs.Image.{ImageState}
use Rattle.og_whole.specs.Events.{World}
use Rattle.og_request.specs.declared.Reply.TheVariants.{Shared as SharedPart, Exclusive as ExclusivePart, Speculative as SpeculativePart, Upgrade as UpgradePart, Nak as NakPart, PoisonError as PoisonErrorPart}
use Rattle.og_request.specs.declared.Response.TheVariants.{Shared as SharedLine, Exclusive as ExclusiveLine, OwnerAck as HomeLineIsGood}
use Rattle.og_request.specs.Request.{received}
use Rattle.og_processor.specs.Take.{take_of}
use Rattle.og_processor.specs.Rows.{has_row_for}
use Rattle.og_node.specs.Node.{NodeState}
use Rattle.og_node.specs.Rows.{has_processor_row}
use Rattle.og_relate.specs.Data.{Post, Cpu, HomeSide, Mover}
use Rattle.og_seen.specs.Numbers.{Sizes, setup_seen}
use Rattle.og_seen.specs.Messages.{frame_of_block, post_seen, is_part}
use Rattle.og_seen.specs.Harts.{Hart}
use Rattle.og_seen.specs.Processors.{cpu_seen}
use Rattle.og_seen.specs.Sound.{AreSizes, IsProcessorOf, IsHomeOf}
use Rattle.og_seen.specs.Events.{Shows, ProcessorGoes}
use Rattle.og_refine_requester.proofs.Rows.{shared_row, exclusive_row, speculative_row, upgrade_row, refused_row, error_row, shared_response_row, exclusive_response_row, owner_row, ack_row}
use Rattle.og_refine_requester.proofs.PartRows.{IsPart}
use Rattle.og_refine_requester.proofs.Taken.{homes_are, replied, responded, acknowledged}

-- ---- each kind is a part of its block

-- a shared reply
shared_part : (b : Block) (l : Line) → IsPart (SharedReply b l) b
unfolding take_of has_row_for
shared_part b l = record { block = refl; takes = λ image x. refl; row = λ x. refl; names = λ home. refl; sender = refl }

-- a speculative reply
speculative_part : (b : Block) (l : Line) → IsPart (SpecReply b l) b
unfolding take_of has_row_for
speculative_part b l = record { block = refl; takes = λ image x. refl; row = λ x. refl; names = λ home. refl; sender = refl }

-- an exclusive reply
exclusive_part : (b : Block) (l : Line) (n : ℕ) → IsPart (ExclusiveReply b l n) b
unfolding take_of has_row_for
exclusive_part b l n = record { block = refl; takes = λ image x. refl; row = λ x. refl; names = λ home. refl; sender = refl }

-- an upgrade that is granted
upgrade_part : (b : Block) (n : ℕ) → IsPart (UpgradeReply b n) b
unfolding take_of has_row_for
upgrade_part b n = record { block = refl; takes = λ image x. refl; row = λ x. refl; names = λ home. refl; sender = refl }

-- a refusal
refused_part : (b : Block) → IsPart (Nak b) b
unfolding take_of has_row_for
refused_part b = record { block = refl; takes = λ image x. refl; row = λ x. refl; names = λ home. refl; sender = refl }

-- the answer that the page has moved away
error_part : (b : Block) → IsPart (PoisonError b) b
unfolding take_of has_row_for
error_part b = record { block = refl; takes = λ image x. refl; row = λ x. refl; names = λ home. refl; sender = refl }

-- an acknowledgement
ack_part : (b : Block) → IsPart (InvalAck b) b
unfolding take_of has_row_for
ack_part b = record { block = refl; takes = λ image x. refl; row = λ x. refl; names = λ home. refl; sender = refl }

-- a shared line of the owner
shared_response_part : (b : Block) (l : Line) → IsPart (SharedResponse b l) b
unfolding take_of has_row_for
shared_response_part b l = record { block = refl; takes = λ image x. refl; row = λ x. refl; names = λ home. refl; sender = refl }

-- an exclusive line of the owner
exclusive_response_part : (b : Block) (l : Line) → IsPart (ExclusiveResponse b l) b
unfolding take_of has_row_for
exclusive_response_part b l = record { block = refl; takes = λ image x. refl; row = λ x. refl; names = λ home. refl; sender = refl }

-- the owner's word that the home's line is good
owner_part : (b : Block) → IsPart (OwnerAck b) b
unfolding take_of has_row_for
owner_part b = record { block = refl; takes = λ image x. refl; row = λ x. refl; names = λ home. refl; sender = refl }

module _ (image : ImageState) (s : Sizes) (cpu : ℕ → Cpu Line Hart) (home : ℕ → HomeSide Line) (mover : Mover Line) (w : World Line) (x : NodeState) (message : Msg Kind) (rest : List (Post Line))
    (sizes : AreSizes s) (is : IsProcessorOf image s x.processor) (of_home : IsHomeOf s message.to x.home) (lp : message.to < s.nodes) (cp : cpu message.to ≡ cpu_seen s x.processor) where
  -- what is to be shown of a kind
  abbrev Goal : Kind → Type 0
  Goal k = (has_processor_row x (record message { kind = k }) ≡ true) × ProcessorGoes image s cpu home mover rest w message.to x.processor (take_of image x.processor k)

  -- the home is a node
  from_home : (b : Block) → message.id.sender ≡ (setup_seen s).home (frame_of_block s b) → frame_of_block s b < (setup_seen s).frames → message.id.sender < s.nodes
  from_home b e lt = subst (λ (q : ℕ). q < s.nodes) (sym e) (homes_are s (frame_of_block s b) lt)

  -- by the kind
  by : (k : Kind) → is_part k ≡ true → Shows image s cpu home mover (post_seen s (record message { kind = k }) ∷ rest) w → Goal k
  unfolding received
  by (SharedReply b l) part sim =
      replied image s cpu home mover w message.to x (record message { kind = SharedReply b l }) rest sizes is of_home lp cp (post_seen s (record message { kind = SharedReply b l })) b (SharedPart l) (shared_part b l) (λ t. refl)
      (from_home b sim.flight.0.0.1.0 sim.flight.0.0.0.0) refl refl (λ n u c t h ask none. shared_row n u c message.to s x.processor t h b l ask none) sim
  by (SpecReply b l) part sim =
      replied image s cpu home mover w message.to x (record message { kind = SpecReply b l }) rest sizes is of_home lp cp (post_seen s (record message { kind = SpecReply b l })) b (SpeculativePart l) (speculative_part b l) (λ t. refl)
      (from_home b sim.flight.0.0.1.0 sim.flight.0.0.0.0) refl refl (λ n u c t h ask none. speculative_row n u c message.to s x.processor t h b l ask none) sim
  by (ExclusiveReply b l d) part sim =
      replied image s cpu home mover w message.to x (record message { kind = ExclusiveReply b l d }) rest sizes is of_home lp cp (post_seen s (record message { kind = ExclusiveReply b l d })) b (ExclusivePart l d) (exclusive_part b l d) (λ t. refl)
      (from_home b sim.flight.0.0.1.0 sim.flight.0.0.0.0) refl refl (λ n u c t h ask none. exclusive_row n u c message.to s x.processor t h b l d ask none) sim
  by (UpgradeReply b d) part sim =
      replied image s cpu home mover w message.to x (record message { kind = UpgradeReply b d }) rest sizes is of_home lp cp (post_seen s (record message { kind = UpgradeReply b d })) b (UpgradePart d) (upgrade_part b d) (λ t. refl)
      (from_home b sim.flight.0.0.1.0 sim.flight.0.0.0.0) refl refl (λ n u c t h ask none. upgrade_row n u c message.to s x.processor t h b d ask none) sim
  by (Nak b) part sim =
      replied image s cpu home mover w message.to x (record message { kind = Nak b }) rest sizes is of_home lp cp (post_seen s (record message { kind = Nak b })) b NakPart (refused_part b) (λ t. refl)
      (from_home b sim.flight.0.0.1.0 sim.flight.0.0.0.0) refl refl (λ n u c t h ask none. refused_row n u c message.to s x.processor t h b ask none) sim
  by (PoisonError b) part sim =
      replied image s cpu home mover w message.to x (record message { kind = PoisonError b }) rest sizes is of_home lp cp (post_seen s (record message { kind = PoisonError b })) b PoisonErrorPart (error_part b) (λ t. refl)
      (from_home b sim.flight.0.0.1.0 sim.flight.0.0.0.0) refl refl (λ n u c t h ask none. error_row n u c message.to s x.processor t h b ask none) sim
  by (SharedResponse b l) part sim =
      responded image s cpu home mover w message.to x (record message { kind = SharedResponse b l }) rest sizes is of_home lp cp (post_seen s (record message { kind = SharedResponse b l })) b (SharedLine l) (shared_response_part b l) (λ t. refl)
      sim.flight.0.0.1.0 refl refl (λ n u c t h answer none. shared_response_row n u c message.to s x.processor t h b l answer none) sim
  by (ExclusiveResponse b l) part sim =
      responded image s cpu home mover w message.to x (record message { kind = ExclusiveResponse b l }) rest sizes is of_home lp cp (post_seen s (record message { kind = ExclusiveResponse b l })) b (ExclusiveLine l) (exclusive_response_part b l) (λ t. refl)
      sim.flight.0.0.1.0 refl refl (λ n u c t h answer none. exclusive_response_row n u c message.to s x.processor t h b l answer none) sim
  by (OwnerAck b) part sim =
      responded image s cpu home mover w message.to x (record message { kind = OwnerAck b }) rest sizes is of_home lp cp (post_seen s (record message { kind = OwnerAck b })) b HomeLineIsGood (owner_part b) (λ t. refl)
      sim.flight.0.0.1.0 refl refl (λ n u c t h answer none. owner_row n u c message.to s x.processor t h b answer none) sim
  by (InvalAck b) part sim =
      acknowledged image s cpu home mover w message.to x (record message { kind = InvalAck b }) rest sizes is of_home lp cp message.id.sender b (ack_part b) (λ t. refl)
      sim.flight.0.0.1.0 (λ n u c t h granted some few. ack_row n u c message.to s x.processor t h b granted some few) sim
  by k part sim = absurd (cc)

  -- whatever its kind is
  pub any_part : is_part message.kind ≡ true → Shows image s cpu home mover (post_seen s message ∷ rest) w → (has_processor_row x message ≡ true) × ProcessorGoes image s cpu home mover rest w message.to x.processor (take_of image x.processor message.kind)
  any_part part sim = by message.kind part sim

-- a part that is sent to a node is taken there
pub part_taken : (image : ImageState) (s : Sizes) (cpu : ℕ → Cpu Line Hart) (home : ℕ → HomeSide Line) (mover : Mover Line) (w : World Line) (p : ℕ) (x : NodeState) (message : Msg Kind) (rest : List (Post Line)) →
    AreSizes s → IsProcessorOf image s x.processor → IsHomeOf s p x.home → p < s.nodes → cpu p ≡ cpu_seen s x.processor → message.to ≡ p → is_part message.kind ≡ true → Shows image s cpu home mover (post_seen s message ∷ rest) w →
    (has_processor_row x message ≡ true) × ProcessorGoes image s cpu home mover rest w p x.processor (take_of image x.processor message.kind)
part_taken image s cpu home mover w p x message rest sizes is of_home lp cp to part sim =
    subst (λ (q : ℕ). IsHomeOf s q x.home → q < s.nodes → cpu q ≡ cpu_seen s x.processor → (has_processor_row x message ≡ true) × ProcessorGoes image s cpu home mover rest w q x.processor (take_of image x.processor message.kind)) to
    (λ of_home lp cp. any_part image s cpu home mover w x message rest sizes is of_home lp cp part sim) of_home lp cp
